-- The rows that move words on the operand stack (JVMS 6.5 dup, pop, swap).
use Rattle.std.proofs.Common.{◌≡◌, ◌≤◌, ℕ, Some, List, ◌∷◌, length, refl, sym, subst, arith}
use Rattle.code_decode.specs.declared.code.ClassUnit.{ClassUnit}
use Rattle.instructions.specs.declared.operation.StackOperation.{StackOperation}
use Rattle.instructions.specs.declared.operation.StackOperation.TheVariants.{Pop, Pop2, Dup, DupX1, DupX2, Dup2, Dup2X1, Dup2X2, Swap}
use Rattle.instructions.specs.declared.what.Instr.{Instr}
use Rattle.instructions.specs.declared.what.Target.{Target}
use Rattle.type_rules.specs.declared.types.VerificationType.{VerificationType}
use Rattle.type_rules.specs.Environment.{Environment}
use Rattle.type_rules.specs.FrameAfter.{moved_words}
use Rattle.type_rules.specs.Wants.{stack_wants, words_wanted}
use Rattle.java_rows.specs.LocalRows.{rearranged, stack_row}
use Rattle.java_rows.specs.Plan.{Frame}
use Rattle.java_rows.specs.Rows.{by_local}
use Rattle.row_soundness.specs.Senses.{Sense}
use Rattle.row_soundness.specs.Fits.{Unset, HaveTypes, env_of}
use Rattle.row_soundness.specs.Operands.{Begins, at_offset}
use Rattle.row_soundness.specs.Knowledge.{Knows}
use Rattle.row_soundness.specs.Accepted.{Accepted}
use Rattle.row_soundness.proofs.Basics.{length_typed}
use Rattle.row_soundness.proofs.Flow.{wanted}
use Rattle.row_soundness.proofs.RowBasics.{RowFits, Fit, goes_on}
use Rattle.instructions.specs.declared.operation.Plain.TheVariants as plain
use Rattle.instructions.specs.declared.what.What.TheVariants as whats

module _ {P : Type 0} (know : Sense P) (us : List ClassUnit) (knows : Knows know us) (accepted : Accepted us) (me : ℕ) where
  -- ---- the operand stack

  module _ (env : Environment) (u : Unset) (h : P) where
    -- words are moved as their types are
    abbrev Moves : StackOperation → List ℕ → List VerificationType → Type 0
    Moves op vs ts = (stack : List ℕ) × (rearranged op vs ≡ Some stack) × HaveTypes know env u h stack (moved_words op ts)

    moves : (op : StackOperation) (vs : List ℕ) (ts : List VerificationType) → words_wanted (stack_wants op) ≤ length ts → HaveTypes know env u h vs ts → Moves op vs ts
    moves Pop (a ∷ vs) (s ∷ ts) le is = (vs, refl, is.1)
    moves Pop2 (a ∷ b ∷ vs) (s ∷ t ∷ ts) le is = (vs, refl, is.1.1)
    moves Dup (a ∷ vs) (s ∷ ts) le is = (a ∷ a ∷ vs, refl, (is.0, is))
    moves DupX1 (a ∷ b ∷ vs) (s ∷ t ∷ ts) le is = (a ∷ b ∷ a ∷ vs, refl, (is.0, (is.1.0, (is.0, is.1.1))))
    moves DupX2 (a ∷ b ∷ c ∷ vs) (s ∷ t ∷ x ∷ ts) le is = (a ∷ b ∷ c ∷ a ∷ vs, refl, (is.0, (is.1.0, (is.1.1.0, (is.0, is.1.1.1)))))
    moves Dup2 (a ∷ b ∷ vs) (s ∷ t ∷ ts) le is = (a ∷ b ∷ a ∷ b ∷ vs, refl, (is.0, (is.1.0, is)))
    moves Dup2X1 (a ∷ b ∷ c ∷ vs) (s ∷ t ∷ x ∷ ts) le is = (a ∷ b ∷ c ∷ a ∷ b ∷ vs, refl, (is.0, (is.1.0, (is.1.1.0, (is.0, (is.1.0, is.1.1.1))))))
    moves Dup2X2 (a ∷ b ∷ c ∷ d ∷ vs) (s ∷ t ∷ x ∷ y ∷ ts) le is = (a ∷ b ∷ c ∷ d ∷ a ∷ b ∷ vs, refl, (is.0, (is.1.0, (is.1.1.0, (is.1.1.1.0, (is.0, (is.1.0, is.1.1.1.1)))))))
    moves Swap (a ∷ b ∷ vs) (s ∷ t ∷ ts) le is = (b ∷ a ∷ vs, refl, (is.1.0, (is.0, is.1.1)))
    moves op vs ts le is = absurd (omega (arith, le, length_typed know env u h vs ts is))

  module _ (op : StackOperation) (at next : ℕ) where
    abbrev move : Instr Target
    move = at_offset at next (whats.Plain (plain.Stack op))

    pub stack_fits : (h : P) (f : Frame) (b : Begins know us h f move) → RowFits know us knows accepted me h f move b
    stack_fits h f b =
        let env = env_of us f.method b.stands.of in
        let (stack, is, typed) = moves env b.stands.unset h op f.stack (b.stands.frames f.step).stack (wanted know us knows accepted h f move b).enough b.stack in
        subst (λ o. Fit know us knows accepted me h f move b (by_local us me f move.what (stack_row f o))) (sym is)
        (goes_on know us knows accepted me h f move b stack refl (record { locals_fit = b.stands.locals; stack_fits = typed; set = b.stands.set }))
