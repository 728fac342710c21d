-- The row of new (JVMS 6.5 new).
use Rattle.std.proofs.Common.{◌≡◌, ◌==◌, ◌||◌, ℕ, Bool, true, false, Some, List, [], ◌∷◌, ◌++◌, drop, refl, sym, ap, subst, ◌∙◌, arith, if◌then◌else◌}
use Rattle.std.specs.List.{list_any}
use Rattle.std.proofs.lemmas.Bool.{eq-eqb, ne_eqb, not-true}
use Rattle.code_decode.specs.declared.code.ClassUnit.{ClassUnit}
use Rattle.instructions.specs.declared.what.Instr.{Instr}
use Rattle.instructions.specs.declared.what.Target.{Target}
use Rattle.link_types.specs.declared.operands.ClassOperand.{ClassOperand}
use Rattle.link_types.specs.declared.operands.Operand.{Operand}
use Rattle.link_rules.specs.Classes.{classes_of}
use Rattle.link_rules.specs.Names.{program_names, type_numbered}
use Rattle.link_rules.specs.Operands.{operand}
use Rattle.link_rules.specs.Uses.{IsClassOperand}
use Rattle.type_rules.specs.declared.types.VerificationType.{VerificationType}
use Rattle.type_rules.specs.declared.types.VerificationType.TheVariants.{Top, Int, Float, Long, Double, Second, Null, UninitThis, Uninit, Object}
use Rattle.type_rules.specs.Assignable.{is_same_type}
use Rattle.type_rules.specs.Environment.{Environment}
use Rattle.type_rules.specs.FrameAfter.{class_pushes, replaced_types}
use Rattle.java_rows.specs.Initialization.{makes_object}
use Rattle.java_rows.specs.Plan.{Frame, makes, completes}
use Rattle.java_rows.specs.Program.{class_operand_of, class_at}
use Rattle.row_soundness.specs.Senses.{Sense}
use Rattle.row_soundness.specs.Fits.{Unset, Holds, HaveTypes, env_of, returns_of}
use Rattle.row_soundness.specs.Operands.{Begins, at_offset}
use Rattle.row_soundness.specs.Knowledge.{Knows, CanBeMade}
use Rattle.row_soundness.specs.Accepted.{Accepted}
use Rattle.row_soundness.proofs.Basics.{holds_word}
use Rattle.row_soundness.proofs.Flow.{next_fits, begins_more, uses}
use Rattle.row_soundness.proofs.Plans.{makes_fit}
use Rattle.row_soundness.proofs.RowBasics.{RowFits, Fit}
use Rattle.instructions.specs.declared.operation.ClassUse.TheVariants as uses
use Rattle.instructions.specs.declared.what.What.TheVariants as whats
use Rattle.link_types.specs.declared.operands.Operand.TheVariants as operands
use Rattle.row_soundness.proofs.InitializationFits.{after_class_fits}

module _ {P : Type 0} (know : Sense P) (us : List ClassUnit) (knows : Knows know us) (accepted : Accepted us) (me : ℕ) where
  -- ---- new

  -- what the same `new` made before is no longer known: it is the new object now
  abbrev pub made_now : (ℕ → ℕ) → ℕ → ℕ → ℕ → ℕ
  made_now made at r p = if p == at then r else made p

  module _ (env : Environment) (u : Unset) (h : P) (at r : ℕ) where
    abbrev now : Unset
    now = record { this = u.this; made = made_now u.made at r }

    holds_now : (v : ℕ) (t : VerificationType) → (t ≡ Uninit at → ⊥) → Holds know env u h v t → Holds know env now h v t
    holds_now v (Uninit p) other is = (is.0 ∙ sym (ap (λ b. if b then r else u.made p) (ne_eqb p at (λ e. other (ap (λ x. Uninit x) e)))), is.1)
    holds_now v Top other is = is
    holds_now v Int other is = is
    holds_now v Float other is = is
    holds_now v Long other is = is
    holds_now v Double other is = is
    holds_now v Second other is = is
    holds_now v Null other is = is
    holds_now v UninitThis other is = is
    holds_now v (Object t) other is = is

    replaced_now : (vs : List ℕ) (ts : List VerificationType) → HaveTypes know env u h vs ts → HaveTypes know env now h vs (replaced_types (Uninit at) Top ts)
    replaced_now [] [] is = tt
    replaced_now [] (t ∷ ts) is = absurd is
    replaced_now (v ∷ vs) [] is = absurd is
    replaced_now (v ∷ vs) (t ∷ ts) is = (by_same (is_same_type t (Uninit at)) refl, replaced_now vs ts is.1)
      where
        by_same : (b : Bool) → is_same_type t (Uninit at) ≡ b → Holds know env now h v (if b then Top else t)
        by_same true e = holds_word know us knows env u h v t is.0
        by_same false e = holds_now v t (λ x. let bad : is_same_type (Uninit at) (Uninit at) ≡ false = subst (λ y. is_same_type y (Uninit at) ≡ false) x e in let worse : true ≡ false = sym (eq-eqb at at refl) ∙ bad in cc) is.0

    stack_now : (vs : List ℕ) (ts : List VerificationType) → list_any (is_same_type (Uninit at)) ts ≡ false → HaveTypes know env u h vs ts → HaveTypes know env now h vs ts
    stack_now [] [] none is = tt
    stack_now [] (t ∷ ts) none is = absurd is
    stack_now (v ∷ vs) [] none is = absurd is
    stack_now (v ∷ vs) (t ∷ ts) none is =
        let parts = neither (is_same_type (Uninit at) t) (list_any (is_same_type (Uninit at)) ts) none in
        (holds_now v t (λ x. let bad : is_same_type (Uninit at) (Uninit at) ≡ false = subst (λ y. is_same_type (Uninit at) y ≡ false) x parts.0 in let worse : true ≡ false = sym (eq-eqb at at refl) ∙ bad in cc) is.0, stack_now vs ts parts.1 is.1)
      where
        neither : (a b : Bool) → (a || b) ≡ false → (a ≡ false) × (b ≡ false)
        neither false b e = (refl, e)
        neither true b e = cc

  module _ (index at next : ℕ) where
    abbrev new : Instr Target
    new = at_offset at next (whats.Class uses.New index)

    made_fits : (h : P) (f : Frame) (b : Begins know us h f new) (o : ClassOperand) (r : ℕ) → operand us f.method.class index ≡ operands.Class o → know.is_raw h r ((env_of us f.method b.stands.of).made_at at)
        → Fit know us knows accepted me h f new b (completes f (r ∷ f.stack))
    made_fits h f b o r e raw =
        let env = env_of us f.method b.stands.of in
        let here = b.stands.frames f.step in
        let apart : list_any (is_same_type (Uninit at)) here.stack ≡ false = not-true _ (uses know us knows accepted h f new b).initialization in
        let u' : Unset = record { this = b.stands.unset.this; made = made_now b.stands.unset.made at r } in
        let top : Holds know env u' h r (Uninit at) = (sym (ap (λ x. if x then r else b.stands.unset.made at) (eq-eqb at at refl)), raw) in (
          tt,
          (next_fits know us knows accepted h f new b (made_now b.stands.unset.made at r) f.locals (r ∷ f.stack) refl (record {
            locals_fit = replaced_now env b.stands.unset h at r f.locals here.locals b.stands.locals;
            stack_fits = subst (λ x. HaveTypes know env u' h (r ∷ f.stack) (class_pushes uses.New at x ++ drop 0 here.stack)) (sym e) (top, stack_now env b.stands.unset h at r f.stack here.stack apart b.stack);
            set = b.stands.set;
          })).0,
        )

    by_class : (h : P) (f : Frame) (b : Begins know us h f new) (o : Operand) → operand us f.method.class index ≡ o → IsClassOperand (classes_of us) uses.New o
        → Fit know us knows accepted me h f new b (makes_object us f (Rattle.std.specs.Option.option_and_then (λ (k : ClassOperand). k.number) (class_operand_of o)))
    by_class h f b (operands.Class o) e (c, kind, number, concrete, class) =
        let at_index : class_at us f.method.class index ≡ Some c = ap (λ x. Rattle.std.specs.Option.option_and_then (λ (k : ClassOperand). k.number) (class_operand_of x)) e ∙ number in
        let can : CanBeMade us c 0 = record { class = accepted.numbers_are f.method.class index c at_index; length = omega arith } in
        let type_is : (env_of us f.method b.stands.of).made_at at ≡ type_numbered (program_names us) c = accepted.made f.method b.stands.of f.step at next index b.at ∙ accepted.classes f.method.class index c at_index in
        subst (λ x. Fit know us knows accepted me h f new b (makes_object us f x)) (sym number)
        (after_class_fits know us knows accepted me h f b.stands c (makes c 0 (λ r. completes f (r ∷ f.stack))) (λ h' more.
        makes_fit know us knows (Some (returns_of know us h f b.stands)) h' c 0 (λ r. completes f (r ∷ f.stack)) (knows.makes h' c 0 can) (λ h'' r more' come.
        made_fits h'' f (begins_more know us knows accepted h h'' (knows.both h h' h'' more more') f new b) o r e (subst (λ t. know.is_raw h'' r t) (sym type_is) (knows.made h'' c 0 r can come)))))
    by_class h f b o e fits = absurd fits

    pub new_fits : (h : P) (f : Frame) (b : Begins know us h f new) → RowFits know us knows accepted me h f new b
    new_fits h f b = by_class h f b (operand us f.method.class index) refl (accepted.class_uses f.method b.stands.of f.step at next index uses.New b.at)
