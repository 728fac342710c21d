-- The rows that look at the class of an object (JVMS 6.5 checkcast, instanceof).
use Rattle.std.proofs.Common.{◌≡◌, ◌==◌, ℕ, Bool, true, false, inl, inr, Option, None, Some, List, ◌∷◌, ◌++◌, drop, refl, sym, ap, subst, ◌∙◌, arith, if◌then◌else◌}
use Rattle.std.specs.Option.{option_and_then}
use Rattle.std.proofs.lemmas.Bool.{eqb-true, eq-eqb}
use Rattle.std.specs.Prelude.{IsSome}
use Rattle.builtin_world.specs.declared.number.TheConstants.{OBJECT, CLASS_CAST_EXCEPTION}
use Rattle.code_decode.specs.declared.code.ClassUnit.{ClassUnit}
use Rattle.instructions.specs.declared.what.Instr.{Instr}
use Rattle.instructions.specs.declared.what.Target.{Target}
use Rattle.link_types.specs.declared.operands.ClassOperand.{ClassOperand}
use Rattle.link_types.specs.declared.operands.Operand.{Operand}
use Rattle.link_types.specs.declared.types.ObjectType.TheVariants.{Class}
use Rattle.link_rules.specs.Classes.{classes_of}
use Rattle.link_rules.specs.Names.{program_names, type_numbered}
use Rattle.link_rules.specs.Operands.{operand}
use Rattle.link_rules.specs.Uses.{IsClassOperand}
use Rattle.type_rules.specs.FrameAfter.{class_pushes}
use Rattle.type_rules.specs.MapFrames.{object_type}
use Rattle.java_rows.specs.Objects.{casts, tests_class}
use Rattle.java_rows.specs.Plan.{Frame, completes, fails, asks_class, silently}
use Rattle.java_rows.specs.Program.{class_operand_of, class_at, is_subclass}
use Rattle.row_soundness.specs.Senses.{Sense, IsWord, IsReference}
use Rattle.row_soundness.specs.Fits.{HaveTypes, PlanFits, anything, env_of, returns_of}
use Rattle.row_soundness.specs.Operands.{Begins, at_offset}
use Rattle.row_soundness.specs.Knowledge.{Knows}
use Rattle.row_soundness.specs.Accepted.{Accepted}
use Rattle.row_soundness.proofs.Basics.{types_more}
use Rattle.row_soundness.proofs.Flow.{stands_more, begins_more}
use Rattle.row_soundness.proofs.Plans.{asks_class_fit}
use Rattle.row_soundness.proofs.RowBasics.{RowFits, takes, Fit, fails_fit, completes_fit}
use Rattle.row_soundness.proofs.ReadValues.{there}
use Rattle.instructions.specs.declared.operation.ClassUse.TheVariants as uses
use Rattle.instructions.specs.declared.what.What.TheVariants as whats
use Rattle.link_types.specs.declared.operands.Operand.TheVariants as operands

module _ {P : Type 0} (know : Sense P) (us : List ClassUnit) (knows : Knows know us) (accepted : Accepted us) (me : ℕ) where
  module _ (index at next : ℕ) where
    abbrev checkcast : Instr Target
    checkcast = at_offset at next (whats.Class uses.CheckCast index)

    cast_to : (h : P) (f : Frame) (b : Begins know us h f checkcast) (o : ClassOperand) → operand us f.method.class index ≡ operands.Class o → (r : ℕ) (rest : List ℕ) → IsReference know h r o.kind
        → HaveTypes know (env_of us f.method b.stands.of) b.stands.unset h rest (drop 1 (b.stands.frames f.step).stack) → Fit know us knows accepted me h f checkcast b (completes f (r ∷ rest))
    cast_to h f b o e r rest fits left = completes_fit know us knows accepted me h f checkcast b (r ∷ rest) refl (record {
      locals_fit = b.stands.locals;
      stack_fits = subst (λ x. HaveTypes know (env_of us f.method b.stands.of) b.stands.unset h (r ∷ rest) (class_pushes uses.CheckCast at x ++ drop 1 (b.stands.frames f.step).stack)) (sym e) (fits, left);
      set = b.stands.set;
    })

    by_cast : (h : P) (f : Frame) (b : Begins know us h f checkcast) (o : Operand) → operand us f.method.class index ≡ o → IsClassOperand (classes_of us) uses.CheckCast o → (r : ℕ) (rest : List ℕ) → IsReference know h r (Class OBJECT)
        → HaveTypes know (env_of us f.method b.stands.of) b.stands.unset h rest (drop 1 (b.stands.frames f.step).stack)
        → Fit know us knows accepted me h f checkcast b (casts us f (option_and_then (λ (k : ClassOperand). k.number) (class_operand_of o)) (r ∷ rest))
    by_cast h f b (operands.Class o) e some r rest fits left = by_number o.number refl some
      where
        by_test : (d : ℕ) → object_type (operand us f.method.class index) ≡ type_numbered (program_names us) d → (h' : P) (c n : ℕ) → know.extends h h' → know.is_of h' r (Class OBJECT) → know.is_exactly h' r c n → (x : Bool) → is_subclass us c d ≡ x
            → PlanFits know us (Some (returns_of know us h f b.stands)) anything (if x then completes f (r ∷ rest) else fails f CLASS_CAST_EXCEPTION) h'
        by_test d type h' c n more of is true same =
            cast_to h' f (begins_more know us knows accepted h h' more f checkcast b) o e r rest
            (inr (subst (λ t. know.is_of h' r t) (sym type ∙ ap object_type e) (knows.cast h' r c n d of is same)))
            (types_more know us knows (env_of us f.method b.stands.of) b.stands.unset h h' rest _ more left)
        by_test d type h' c n more of is false same = fails_fit know us knows accepted me h' f (stands_more know us knows accepted h h' more f b.stands) CLASS_CAST_EXCEPTION refl

        by_null : (d : ℕ) → object_type (operand us f.method.class index) ≡ type_numbered (program_names us) d → (x : Bool) → (r == 0) ≡ x
            → Fit know us knows accepted me h f checkcast b (if x then silently (completes f (r ∷ rest)) else asks_class r (λ c n. if is_subclass us c d then completes f (r ∷ rest) else fails f CLASS_CAST_EXCEPTION))
        by_null d type true null = (tt, cast_to h f b o e r rest (inl (eqb-true r 0 null)) left)
        by_null d type false null =
            let of : know.is_of h r (Class OBJECT) = there know us knows accepted me h r (Class OBJECT) (λ x. let bad : (r == 0) ≡ true = eq-eqb r 0 x in let worse : true ≡ false = sym bad ∙ null in cc) fits in
            asks_class_fit know us knows (Some (returns_of know us h f b.stands)) h r (λ c n. if is_subclass us c d then completes f (r ∷ rest) else fails f CLASS_CAST_EXCEPTION) (knows.looks h r (knows.there_of h r (Class OBJECT) (knows.raw_of h r (Class OBJECT) of)))
            (λ h' c n more is. by_test d type h' c n more (knows.of_more h h' r (Class OBJECT) more of) is (is_subclass us c d) refl)

        by_number : (n : Option ℕ) → o.number ≡ n → IsSome n → Fit know us knows accepted me h f checkcast b (casts us f n (r ∷ rest))
        by_number (Some d) same is = by_null d (accepted.classes f.method.class index d (ap (λ x. option_and_then (λ (k : ClassOperand). k.number) (class_operand_of x)) e ∙ same)) (r == 0) refl
        by_number None same is = cc
    by_cast h f b o e fits r rest r_fits left = absurd fits

    pub checkcast_fits : (h : P) (f : Frame) (b : Begins know us h f checkcast) → RowFits know us knows accepted me h f checkcast b
    checkcast_fits h f b =
        let (r, rest, are, r_fits, left) = takes know us knows accepted me h f checkcast b in
        subst (λ s. Fit know us knows accepted me h f checkcast b (casts us f (class_at us f.method.class index) s)) (sym are)
        (by_cast h f b (operand us f.method.class index) refl (accepted.class_uses f.method b.stands.of f.step at next index uses.CheckCast b.at) r rest r_fits left)

  module _ (index at next : ℕ) where
    abbrev instanceof : Instr Target
    instanceof = at_offset at next (whats.Class uses.InstanceOf index)

    tested_to : (h : P) (f : Frame) (b : Begins know us h f instanceof) (o : ClassOperand) → operand us f.method.class index ≡ operands.Class o → (v : ℕ) (rest : List ℕ) → IsWord know v
        → HaveTypes know (env_of us f.method b.stands.of) b.stands.unset h rest (drop 1 (b.stands.frames f.step).stack) → Fit know us knows accepted me h f instanceof b (completes f (v ∷ rest))
    tested_to h f b o e v rest fits left = completes_fit know us knows accepted me h f instanceof b (v ∷ rest) refl (record {
      locals_fit = b.stands.locals;
      stack_fits = subst (λ x. HaveTypes know (env_of us f.method b.stands.of) b.stands.unset h (v ∷ rest) (class_pushes uses.InstanceOf at x ++ drop 1 (b.stands.frames f.step).stack)) (sym e) (fits, left);
      set = b.stands.set;
    })

    by_test : (h : P) (f : Frame) (b : Begins know us h f instanceof) (o : Operand) → operand us f.method.class index ≡ o → IsClassOperand (classes_of us) uses.InstanceOf o → (r : ℕ) (rest : List ℕ) → IsReference know h r (Class OBJECT)
        → HaveTypes know (env_of us f.method b.stands.of) b.stands.unset h rest (drop 1 (b.stands.frames f.step).stack)
        → Fit know us knows accepted me h f instanceof b (tests_class us f (option_and_then (λ (k : ClassOperand). k.number) (class_operand_of o)) (r ∷ rest))
    by_test h f b (operands.Class o) e some r rest fits left = by_number o.number some
      where
        bit : (x : Bool) → IsWord know (if x then 1 else 0)
        bit true = λ exact. omega arith
        bit false = λ exact. omega arith

        by_null : (d : ℕ) (x : Bool) → (r == 0) ≡ x
            → Fit know us knows accepted me h f instanceof b (if x then silently (completes f (0 ∷ rest)) else asks_class r (λ c n. completes f ((if is_subclass us c d then 1 else 0) ∷ rest)))
        by_null d true null = (tt, tested_to h f b o e 0 rest (λ exact. omega arith) left)
        by_null d false null =
            let of : know.is_of h r (Class OBJECT) = there know us knows accepted me h r (Class OBJECT) (λ x. let bad : (r == 0) ≡ true = eq-eqb r 0 x in let worse : true ≡ false = sym bad ∙ null in cc) fits in
            asks_class_fit know us knows (Some (returns_of know us h f b.stands)) h r (λ c n. completes f ((if is_subclass us c d then 1 else 0) ∷ rest)) (knows.looks h r (knows.there_of h r (Class OBJECT) (knows.raw_of h r (Class OBJECT) of)))
            (λ h' c n more is. tested_to h' f (begins_more know us knows accepted h h' more f instanceof b) o e (if is_subclass us c d then 1 else 0) rest (bit (is_subclass us c d)) (types_more know us knows (env_of us f.method b.stands.of) b.stands.unset h h' rest _ more left))

        by_number : (n : Option ℕ) → IsSome n → Fit know us knows accepted me h f instanceof b (tests_class us f n (r ∷ rest))
        by_number (Some d) is = by_null d (r == 0) refl
        by_number None is = cc
    by_test h f b o e fits r rest r_fits left = absurd fits

    pub instanceof_fits : (h : P) (f : Frame) (b : Begins know us h f instanceof) → RowFits know us knows accepted me h f instanceof b
    instanceof_fits h f b =
        let (r, rest, are, r_fits, left) = takes know us knows accepted me h f instanceof b in
        subst (λ s. Fit know us knows accepted me h f instanceof b (tests_class us f (class_at us f.method.class index) s)) (sym are)
        (by_test h f b (operand us f.method.class index) refl (accepted.class_uses f.method b.stands.of f.step at next index uses.InstanceOf b.at) r rest r_fits left)
