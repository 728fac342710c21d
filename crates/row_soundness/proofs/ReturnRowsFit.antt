-- The rows of returns (JVMS 6.5 return, ireturn, areturn, lreturn).
use Rattle.std.proofs.Common.{◌≡◌, ℕ, Bool, true, false, Option, None, Some, List, [], ◌∷◌, refl, sym, subst, if◌then◌else◌}
use Rattle.std.proofs.lemmas.Bool.{not-true}
use Rattle.code_decode.specs.declared.code.ClassUnit.{ClassUnit}
use Rattle.instructions.specs.declared.operation.ValueKind.{ValueKind}
use Rattle.instructions.specs.declared.what.Instr.{Instr}
use Rattle.instructions.specs.declared.what.Target.{Target}
use Rattle.link_types.specs.declared.types.ValueType.{ValueType}
use Rattle.type_rules.specs.declared.types.VerificationType.{VerificationType}
use Rattle.type_rules.specs.declared.types.VerificationType.TheVariants.{Top, Object}
use Rattle.type_rules.specs.Environment.{Environment}
use Rattle.type_rules.specs.FrameAfter.{stack_at}
use Rattle.type_rules.specs.TypeFaults.{fits_return_type}
use Rattle.java_rows.specs.Plan.{Frame, returned}
use Rattle.java_rows.specs.Throws.{returns_word, returns_long}
use Rattle.row_soundness.specs.Senses.{Sense, IsWord}
use Rattle.row_soundness.specs.Fits.{Unset, Holds, HaveTypes, ResultFits, IsMade, returns_of, env_of}
use Rattle.row_soundness.specs.Operands.{Begins, at_offset}
use Rattle.row_soundness.specs.Knowledge.{Knows}
use Rattle.row_soundness.specs.Accepted.{Accepted}
use Rattle.row_soundness.proofs.Basics.{holds_assigned}
use Rattle.row_soundness.proofs.Flow.{uses}
use Rattle.row_soundness.proofs.RowBasics.{RowFits, takes, Fit}
use Rattle.row_soundness.proofs.EndsFit.{leaves_fits}
use Rattle.instructions.specs.declared.operation.Plain.TheVariants as plain
use Rattle.instructions.specs.declared.operation.ValueKind.TheVariants as kinds
use Rattle.instructions.specs.declared.what.What.TheVariants as whats
use Rattle.link_types.specs.declared.types.ValueType.TheVariants as values

module _ {P : Type 0} (know : Sense P) (us : List ClassUnit) (knows : Knows know us) (accepted : Accepted us) (me : ℕ) where
  -- ---- returns

  top_holds : (env : Environment) (u : Unset) (h : P) (v : ℕ) (rest : List ℕ) (ts : List VerificationType) → HaveTypes know env u h (v ∷ rest) ts → Holds know env u h v (Rattle.std.specs.Prelude.slice_index_or ts 0 Top)
  top_holds env u h v rest [] is = absurd is
  top_holds env u h v rest (t ∷ ts) is = is.0

  module _ (at next : ℕ) where
    abbrev pub return : Option ValueKind → Instr Target
    return kind = at_offset at next (whats.Plain (plain.Return kind))

    -- a constructor that returns has initialized its object
    pub made_by : (h : P) (f : Frame) (kind : Option ValueKind) (b : Begins know us h f (return kind)) → IsMade know h (returns_of know us h f b.stands).made
    made_by h f kind b = by_test (env_of us f.method b.stands.of).constructs refl
      where
        by_test : (x : Bool) → (env_of us f.method b.stands.of).constructs ≡ x → IsMade know h (if x then Some (b.stands.unset.this, f.method.class) else None)
        by_test true e = b.stands.set e (not-true _ (uses know us knows accepted h f (return kind) b).initialization)
        by_test false e = tt

    pub return_fits : (h : P) (f : Frame) (b : Begins know us h f (return None)) → RowFits know us knows accepted me h f (return None) b
    return_fits h f b = leaves_fits know us knows accepted me h f b.stands (returned []) (by_type (env_of us f.method b.stands.of).return_type (uses know us knows accepted h f (return None) b).result, made_by h f None b)
      where
        by_type : (t : Option ValueType) → fits_return_type (env_of us f.method b.stands.of) t None (b.stands.frames f.step) ≡ true → ResultFits know h t []
        by_type None e = tt
        by_type (Some t) e = cc

    pub areturn_fits : (h : P) (f : Frame) (b : Begins know us h f (return (Some kinds.Reference))) → RowFits know us knows accepted me h f (return (Some kinds.Reference)) b
    areturn_fits h f b =
        let (v, rest, are, v_fits, left) = takes know us knows accepted me h f (return (Some kinds.Reference)) b in
        let holds = top_holds (env_of us f.method b.stands.of) b.stands.unset h v rest (b.stands.frames f.step).stack (subst (λ s. HaveTypes know (env_of us f.method b.stands.of) b.stands.unset h s (b.stands.frames f.step).stack) are b.stack) in
        subst (λ s. Fit know us knows accepted me h f (return (Some kinds.Reference)) b (returns_word f s)) (sym are)
        (leaves_fits know us knows accepted me h f b.stands (returned (v ∷ [])) (by_type v (env_of us f.method b.stands.of).return_type (uses know us knows accepted h f (return (Some kinds.Reference)) b).result holds, made_by h f (Some kinds.Reference) b))
      where
        by_type : (v : ℕ) (t : Option ValueType) → fits_return_type (env_of us f.method b.stands.of) t (Some kinds.Reference) (b.stands.frames f.step) ≡ true
            → Holds know (env_of us f.method b.stands.of) b.stands.unset h v (stack_at (b.stands.frames f.step) 0) → ResultFits know h t (v ∷ [])
        by_type v (Some (values.Object t)) e holds = holds_assigned know us knows (env_of us f.method b.stands.of) refl b.stands.unset h v (stack_at (b.stands.frames f.step) 0) (Object t) e holds
        by_type v t e holds = cc

    pub ireturn_fits : (h : P) (f : Frame) (b : Begins know us h f (return (Some kinds.Int))) → RowFits know us knows accepted me h f (return (Some kinds.Int)) b
    ireturn_fits h f b =
        let (v, rest, are, v_fits, left) = takes know us knows accepted me h f (return (Some kinds.Int)) b in
        subst (λ s. Fit know us knows accepted me h f (return (Some kinds.Int)) b (returns_word f s)) (sym are)
        (leaves_fits know us knows accepted me h f b.stands (returned (v ∷ [])) (by_type v (env_of us f.method b.stands.of).return_type (uses know us knows accepted h f (return (Some kinds.Int)) b).result v_fits, made_by h f (Some kinds.Int) b))
      where
        by_type : (v : ℕ) (t : Option ValueType) → fits_return_type (env_of us f.method b.stands.of) t (Some kinds.Int) (b.stands.frames f.step) ≡ true → IsWord know v → ResultFits know h t (v ∷ [])
        by_type v (Some values.Boolean) e is = is
        by_type v (Some values.Byte) e is = is
        by_type v (Some values.Char) e is = is
        by_type v (Some values.Short) e is = is
        by_type v (Some values.Int) e is = is
        by_type v t e is = cc

    abbrev lreturn : Instr Target
    lreturn = at_offset at next (whats.Plain (plain.Return (Some kinds.Long)))

    pub lreturn_fits : (h : P) (f : Frame) (b : Begins know us h f lreturn) → RowFits know us knows accepted me h f lreturn b
    lreturn_fits h f b =
        let (high, low, rest, are, high_fits, low_fits, left) = takes know us knows accepted me h f lreturn b in
        subst (λ s. Fit know us knows accepted me h f lreturn b (returns_long f s)) (sym are)
        (leaves_fits know us knows accepted me h f b.stands (returned (high ∷ low ∷ [])) (by_type high low (env_of us f.method b.stands.of).return_type (uses know us knows accepted h f lreturn b).result high_fits low_fits, made_by h f (Some kinds.Long) b))
      where
        by_type : (high low : ℕ) (t : Option ValueType) → fits_return_type (env_of us f.method b.stands.of) t (Some kinds.Long) (b.stands.frames f.step) ≡ true → IsWord know high → IsWord know low → ResultFits know h t (high ∷ low ∷ [])
        by_type high low (Some values.Long) e hs ls = (hs, ls)
        by_type high low t e hs ls = cc
