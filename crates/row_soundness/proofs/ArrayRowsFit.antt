-- The rows of new arrays and of their length (JVMS 6.5 newarray, anewarray, arraylength).
use Rattle.std.proofs.Common.{◌≡◌, ◌≢◌, ◌<◌, ◌^◌, ℕ, Bool, true, false, inl, inr, Option, None, Some, List, ◌∷◌, ◌++◌, length, drop, refl, sym, subst, nat_lt, if◌then◌else◌}
use Rattle.std.specs.Prelude.{IsSome}
use Rattle.std.specs.Option.{option_and_then}
use Rattle.std.proofs.lemmas.Bool.{ltb-true}
use Rattle.builtin_world.specs.declared.number.TheConstants.{NEGATIVE_ARRAY_SIZE_EXCEPTION}
use Rattle.code_decode.specs.declared.code.ClassUnit.{ClassUnit}
use Rattle.instructions.specs.declared.operation.PrimitiveType.{PrimitiveType}
use Rattle.instructions.specs.declared.what.Instr.{Instr}
use Rattle.instructions.specs.declared.what.Target.{Target}
use Rattle.link_types.specs.declared.operands.ClassOperand.{ClassOperand}
use Rattle.link_types.specs.declared.operands.Operand.{Operand}
use Rattle.link_types.specs.declared.types.ObjectType.TheVariants.{Array}
use Rattle.link_rules.specs.Classes.{classes_of}
use Rattle.link_rules.specs.Names.{program_names, type_numbered}
use Rattle.link_rules.specs.Operands.{operand}
use Rattle.link_rules.specs.Uses.{IsClassOperand}
use Rattle.type_rules.specs.declared.types.VerificationType.{VerificationType}
use Rattle.type_rules.specs.FrameAfter.{class_pushes, primitive_element, array_type_of}
use Rattle.type_rules.specs.Wants.{is_array_type}
use Rattle.java_rows.specs.Objects.{gets_length, makes_array}
use Rattle.java_rows.specs.Plan.{Frame, completes, fails, asks_class, makes}
use Rattle.java_rows.specs.Program.{class_operand_of, array_at}
use Rattle.row_soundness.specs.Senses.{Sense}
use Rattle.row_soundness.specs.Fits.{HaveTypes, PlanFits, anything, env_of, returns_of}
use Rattle.row_soundness.specs.Operands.{Begins, IsTested, at_offset}
use Rattle.row_soundness.specs.Knowledge.{Knows, CanBeMade}
use Rattle.row_soundness.specs.Accepted.{Accepted}
use Rattle.row_soundness.proofs.Basics.{types_more}
use Rattle.row_soundness.proofs.Flow.{begins_more}
use Rattle.row_soundness.proofs.Plans.{asks_class_fit, makes_fit}
use Rattle.row_soundness.proofs.RowBasics.{RowFits, takes, Fit, fails_fit, completes_fit}
use Rattle.row_soundness.proofs.ReadValues.{unless_null_fits}
use Rattle.instructions.specs.declared.operation.ClassUse.TheVariants as uses
use Rattle.instructions.specs.declared.operation.Plain.TheVariants as plain
use Rattle.instructions.specs.declared.what.What.TheVariants as whats
use Rattle.link_types.specs.declared.operands.Operand.TheVariants as operands

module _ {P : Type 0} (know : Sense P) (us : List ClassUnit) (knows : Knows know us) (accepted : Accepted us) (me : ℕ) where
  module _ (at next : ℕ) where
    -- ---- arraylength

    abbrev arraylength : Instr Target
    arraylength = at_offset at next (whats.Plain plain.ArrayLength)

    pub arraylength_fits : (h : P) (f : Frame) (b : Begins know us h f arraylength) → RowFits know us knows accepted me h f arraylength b
    arraylength_fits h f b =
        let (r, rest, are, r_fits, left) = takes know us knows accepted me h f arraylength b in
        subst (λ s. Fit know us knows accepted me h f arraylength b (gets_length f s)) (sym are)
        (unless_null_fits know us knows accepted me h f b.stands r (asks_class r (λ c n. completes f (n ∷ rest))) (λ other.
        asks_class_fit know us knows (Some (returns_of know us h f b.stands)) h r (λ c n. completes f (n ∷ rest)) (knows.looks h r (is_there r _ other r_fits)) (λ h' c n more is.
        let b' = begins_more know us knows accepted h h' more f arraylength b in
        completes_fit know us knows accepted me h' f arraylength b' (n ∷ rest) refl (record {
          locals_fit = b'.stands.locals;
          stack_fits = ((λ exact. knows.length_fits h' r c n is exact), types_more know us knows (env_of us f.method b.stands.of) b.stands.unset h h' rest _ more left);
          set = b'.stands.set;
        }))))
      where
        is_there : (r : ℕ) (t : VerificationType) → r ≢ 0 → IsTested know (env_of us f.method b.stands.of) b.stands.unset h (λ s. is_array_type s ≡ true) r t → know.is_there h r
        is_there r t other is = elim is [ inl null ↦ absurd (other null) | inr (s, same, of, test) ↦ knows.there_of h r s (knows.raw_of h r s of) ]

    -- ---- newarray

    abbrev newarray : PrimitiveType → Instr Target
    newarray kind = at_offset at next (whats.NewArray kind)

    pub array_made : (h : P) (f : Frame) (i : Instr Target) (b : Begins know us h f i) (c n : ℕ) (rest : List ℕ) → CanBeMade us c n → length (classes_of us) < c
        → ((h' : P) (r : ℕ) → know.extends h h' → know.is_of h' r (type_numbered (program_names us) c) → PlanFits know us (Some (returns_of know us h f b.stands)) anything (completes f (r ∷ rest)) h')
        → Fit know us knows accepted me h f i b (makes c n (λ r. completes f (r ∷ rest)))
    array_made h f i b c n rest can array later =
        makes_fit know us knows (Some (returns_of know us h f b.stands)) h c n (λ r. completes f (r ∷ rest)) (knows.makes h c n can) (λ h' r more come. later h' r more (knows.made_array h' c n r can array come))

    pub newarray_fits : (kind : PrimitiveType) (h : P) (f : Frame) (b : Begins know us h f (newarray kind)) → RowFits know us knows accepted me h f (newarray kind) b
    newarray_fits kind h f b =
        let (n, rest, are, n_fits, left) = takes know us knows accepted me h f (newarray kind) b in
        let (c, numbered, array, class, type) = accepted.primitive_arrays f.method b.stands.of f.step at next kind b.at in
        subst (λ o. Fit know us knows accepted me h f (newarray kind) b (makes_array f o f.stack)) (sym numbered)
        (subst (λ s. Fit know us knows accepted me h f (newarray kind) b (makes_array f (Some c) s)) (sym are)
        (by_size c n rest class array type left (nat_lt n (2 ^ 31)) refl))
      where
        by_size : (c n : ℕ) (rest : List ℕ) → Rattle.link_rules.specs.Names.is_class_number (program_names us) c ≡ true → length (classes_of us) < c → type_numbered (program_names us) c ≡ Array 1 (primitive_element kind)
            → HaveTypes know (env_of us f.method b.stands.of) b.stands.unset h rest (drop 1 (b.stands.frames f.step).stack) → (x : Bool) → nat_lt n (2 ^ 31) ≡ x
            → Fit know us knows accepted me h f (newarray kind) b (if x then makes c n (λ r. completes f (r ∷ rest)) else fails f NEGATIVE_ARRAY_SIZE_EXCEPTION)
        by_size c n rest class array type left true e =
            array_made h f (newarray kind) b c n rest (record { class = class; length = ltb-true n (2 ^ 31) e }) array (λ h' r more of.
            let b' = begins_more know us knows accepted h h' more f (newarray kind) b in
            completes_fit know us knows accepted me h' f (newarray kind) b' (r ∷ rest) refl (record {
              locals_fit = b'.stands.locals;
              stack_fits = (inr (subst (λ t. know.is_of h' r t) type of), types_more know us knows (env_of us f.method b.stands.of) b.stands.unset h h' rest _ more left);
              set = b'.stands.set;
            }))
        by_size c n rest class array type left false e = fails_fit know us knows accepted me h f b.stands NEGATIVE_ARRAY_SIZE_EXCEPTION refl

  -- ---- anewarray
  module _ (index at next : ℕ) where
    abbrev anewarray : Instr Target
    anewarray = at_offset at next (whats.Class uses.NewArray index)

    by_array : (h : P) (f : Frame) (b : Begins know us h f anewarray) (o : Operand) → operand us f.method.class index ≡ o → IsClassOperand (classes_of us) uses.NewArray o → (n : ℕ) (rest : List ℕ)
        → HaveTypes know (env_of us f.method b.stands.of) b.stands.unset h rest (drop 1 (b.stands.frames f.step).stack)
        → Fit know us knows accepted me h f anewarray b (makes_array f (option_and_then (λ (k : ClassOperand). k.array) (class_operand_of o)) (n ∷ rest))
    by_array h f b (operands.Class o) e some n rest left = by_number o.array refl some
      where
        by_size : (c : ℕ) → Rattle.link_rules.specs.Names.is_class_number (program_names us) c ≡ true → length (classes_of us) < c → type_numbered (program_names us) c ≡ array_type_of o.kind → (x : Bool) → nat_lt n (2 ^ 31) ≡ x
            → Fit know us knows accepted me h f anewarray b (if x then makes c n (λ r. completes f (r ∷ rest)) else fails f NEGATIVE_ARRAY_SIZE_EXCEPTION)
        by_size c class array type true lt =
            array_made at next h f anewarray b c n rest (record { class = class; length = ltb-true n (2 ^ 31) lt }) array (λ h' r more of.
            let b' = begins_more know us knows accepted h h' more f anewarray b in
            completes_fit know us knows accepted me h' f anewarray b' (r ∷ rest) refl (record {
              locals_fit = b'.stands.locals;
              stack_fits = subst (λ x. HaveTypes know (env_of us f.method b.stands.of) b.stands.unset h' (r ∷ rest) (class_pushes uses.NewArray at x ++ drop 1 (b.stands.frames f.step).stack)) (sym e)
                  (inr (subst (λ t. know.is_of h' r t) type of), types_more know us knows (env_of us f.method b.stands.of) b.stands.unset h h' rest _ more left);
              set = b'.stands.set;
            }))
        by_size c class array type false lt = fails_fit know us knows accepted me h f b.stands NEGATIVE_ARRAY_SIZE_EXCEPTION refl

        by_number : (x : Option ℕ) → o.array ≡ x → IsSome x → Fit know us knows accepted me h f anewarray b (makes_array f x (n ∷ rest))
        by_number (Some c) same is = let (array, class, type) = accepted.arrays_of f.method b.stands.of f.step at next index o c b.at e same in by_size c class array type (nat_lt n (2 ^ 31)) refl
        by_number None same is = cc
    by_array h f b o e fits n rest left = absurd fits

    pub anewarray_fits : (h : P) (f : Frame) (b : Begins know us h f anewarray) → RowFits know us knows accepted me h f anewarray b
    anewarray_fits h f b =
        let (n, rest, are, n_fits, left) = takes know us knows accepted me h f anewarray b in
        subst (λ s. Fit know us knows accepted me h f anewarray b (makes_array f (array_at us f.method.class index) s)) (sym are)
        (by_array h f b (operand us f.method.class index) refl (accepted.class_uses f.method b.stands.of f.step at next index uses.NewArray b.at) n rest left)
