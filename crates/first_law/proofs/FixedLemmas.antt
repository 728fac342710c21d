-- Steps that a thread makes only where it has fixed them.
use Rattle.std.proofs.Common.{◌≡◌, ℕ, ◌&&◌, List, [], ◌∷◌, ap, subst}
use Rattle.std.specs.Prelude.{nat_le}
use Rattle.op_core.specs.declared.Op.{Op}
use Rattle.op_core.specs.declared.Op.TheVariants.{Print, InitDone, End}
use Rattle.op_core.specs.declared.Next.{Next}
use Rattle.op_core.specs.declared.Next.TheVariants.{Silent, Want, Ended}
use Rattle.op_core.specs.ThreadCode.{Code, leaves_any}
use Rattle.section_state.specs.SectionWord.{revoke_of}
use Rattle.write_log.specs.declared.Noted.{Noted}
use Rattle.step_port.specs.declared.step.Step.{Step}
use Rattle.step_port.specs.declared.step.Step.TheVariants.{RestoreWord, MarkUndone, TakeMonitor, SetDepth, Release, LoadWait}
use Rattle.thread_automaton.specs.declared.Bounds.{Bounds}
use Rattle.thread_automaton.specs.declared.Move.{Move}
use Rattle.thread_automaton.specs.declared.Move.TheVariants.{Quiet, Make}
use Rattle.thread_automaton.specs.declared.Attempt.{Attempt}
use Rattle.thread_automaton.specs.declared.Attempt.TheVariants.{Begin, Look, Checked, Fixed, Meets, Undoing, Full}
use Rattle.thread_automaton.specs.declared.Held.{Held}
use Rattle.thread_automaton.specs.ThreadState.{ThreadState, is_open, mark_of, noted_since, from_level}
use Rattle.thread_automaton.specs.NextMove.{deepened_since, undo_step, own_pin, pinned_then, first_step, silent_move, move_of, next_move}
use Rattle.automaton_rows.specs.Rows.{IsNoUndoing}
use Rattle.automaton_rows.proofs.RowLemmas.{by_if}
use Rattle.section_laws.proofs.DeedLemmas.{makes_it}

abbrev pub OnlyFixed : Next → Step → Type 0
OnlyFixed next (TakeMonitor r new) = Unit {0}
OnlyFixed next (SetDepth r new) = Unit {0}
OnlyFixed next (Release r) = Unit {0}
OnlyFixed next (Step.Notify n w) = Unit {0}
OnlyFixed (Want (Op.Notify r)) (LoadWait n) = Unit {0}
OnlyFixed next step = ⊥

abbrev IsOther : Next → Move → Type 0
IsOther next (Make step) = OnlyFixed next step → ⊥
IsOther next move = Unit {0}

module _ {S : Type 0} (code : Code S) (b : Bounds) (th : ThreadState S) where
  pinned_other : (next : Next) (step : Step) → (OnlyFixed next step → ⊥) → OnlyFixed next (pinned_then th step) → ⊥
  pinned_other next step other = by_if (λ s. OnlyFixed next s → ⊥) (is_open th) (own_pin th) step (λ _ only. only) (λ _. other)

  first_other : (op : Op) → OnlyFixed (Want op) (first_step code th op) → ⊥
  first_other (Print x) = pinned_other (Want (Print x)) _ (λ only. only)
  first_other (InitDone c ok) = pinned_other (Want (InitDone c ok)) _ (λ only. only)
  first_other (End x) = pinned_other (Want (End x)) _ (λ only. only)
  first_other op = λ only. only

  silent_other : (step : Step) → (OnlyFixed Silent step → ⊥) → IsOther Silent (silent_move code th step)
  silent_other step other = by_if (IsOther Silent) (is_open th && leaves_any code th.saved th.local) (Make step) Quiet (λ _. other) (λ _. tt)

  made_in : Move → Step → Step
  made_in (Make step) other = step
  made_in move other = other

  not_fixed : (next : Next) (g : Attempt) (step : Step) → move_of code th next g ≡ Make step → OnlyFixed next step → IsOther next (move_of code th next g) → g ≡ Fixed step
  not_fixed next g step makes only other = absurd (subst (IsOther next) makes other only)

  fixed_of : (next : Next) (g : Attempt) (step : Step) → move_of code th next g ≡ Make step → OnlyFixed next step → IsNoUndoing g → g ≡ Fixed step
  fixed_of next (Fixed other) step makes only calm = ap (λ m. Fixed (by_move m step)) makes
    where
      by_move : Move → Step → Step
      by_move (Make s) d = s
      by_move move d = d
  fixed_of next (Undoing w) step makes only calm = absurd calm
  fixed_of next (Meets s level) step makes only calm = not_fixed next (Meets s level) step makes only (λ is. is)
  fixed_of next (Full limit) step makes only calm = not_fixed next (Full limit) step makes only tt
  fixed_of Silent Look step makes only calm = not_fixed Silent Look step makes only (λ is. is)
  fixed_of (Want op) Look step makes only calm = not_fixed (Want op) Look step makes only (λ is. is)
  fixed_of Silent Begin step makes only calm = not_fixed Silent Begin step makes only (silent_other _ (λ is. is))
  fixed_of Silent Checked step makes only calm = not_fixed Silent Checked step makes only (silent_other _ (λ is. is))
  fixed_of (Want op) Begin step makes only calm =
      not_fixed (Want op) Begin step makes only (by_if (IsOther (Want op)) (is_open th) (Make _) (Make _) (λ _ is. is) (λ _. first_other op))
  fixed_of (Want op) Checked step makes only calm = not_fixed (Want op) Checked step makes only (first_other op)
  fixed_of Ended Begin step makes only calm = not_fixed Ended Begin step makes only tt
  fixed_of Ended Look step makes only calm = not_fixed Ended Look step makes only tt
  fixed_of Ended Checked step makes only calm = not_fixed Ended Checked step makes only tt

  -- other steps than these aren't made while a section is undone
  abbrev pub IsUndoStep : Step → Type 0
  IsUndoStep (RestoreWord at old) = Unit {0}
  IsUndoStep (SetDepth r new) = Unit {0}
  IsUndoStep (Release r) = Unit {0}
  IsUndoStep (MarkUndone s w) = Unit {0}
  IsUndoStep step = ⊥

  undo_is : (s w : ℕ) (log : List Noted) (deepened taken : List Held) → IsUndoStep (undo_step s w log deepened taken)
  undo_is s w (x ∷ log) deepened taken = tt
  undo_is s w [] (h ∷ deepened) taken = tt
  undo_is s w [] [] (h ∷ taken) = tt
  undo_is s w [] [] [] = tt

  pub not_undoing : (step : Step) → next_move code b th ≡ Make step → (IsUndoStep step → ⊥) → IsNoUndoing th.attempt
  not_undoing step makes other = by_attempt th.attempt (makes_it th.over (nat_le b.limits.turns th.counted) _ step makes)
    where
      step_in : Move → Step
      step_in (Make s) = s
      step_in move = step

      by_attempt : (g : Attempt) → move_of code th (code.next th.local) g ≡ Make step → IsNoUndoing g
      by_attempt (Undoing w) is =
          let n = revoke_of w in let mark = mark_of th n in
          absurd (other (subst IsUndoStep (ap step_in is) (undo_is th.section w (noted_since mark.noted th.log) (deepened_since mark th.held) (from_level n th.held))))
      by_attempt g is = tt

  -- such a step was fixed
  pub was_fixed : (step : Step) → next_move code b th ≡ Make step → OnlyFixed (code.next th.local) step → IsNoUndoing th.attempt → th.attempt ≡ Fixed step
  was_fixed step makes only calm = fixed_of (code.next th.local) th.attempt step (makes_it th.over (nat_le b.limits.turns th.counted) _ step makes) only calm
