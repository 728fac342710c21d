-- One turn of a thread alone: what move it makes, and what comes of it.
use Rattle.std.proofs.Common.{◌≡◌, ℕ, suc, ◌||◌, Bool, false, refl, ◌∙◌, ap}
use Rattle.std.specs.Prelude.{nat_le, if◌then◌else◌}
use Rattle.op_core.specs.declared.Limit.TheVariants.{Turns}
use Rattle.op_core.specs.declared.Op.TheVariants.{Enter, Rewake}
use Rattle.op_core.specs.declared.Next.{Next}
use Rattle.op_core.specs.declared.Next.TheVariants.{Silent, Want, Ended}
use Rattle.op_core.specs.ThreadCode.{Code}
use Rattle.step_port.specs.declared.step.Step.{Step}
use Rattle.step_port.specs.Words.{Words, answer_of, words_after}
use Rattle.thread_automaton.specs.declared.Bounds.{Bounds}
use Rattle.thread_automaton.specs.declared.Move.{Move}
use Rattle.thread_automaton.specs.declared.Move.TheVariants.{Over, Stop, Make}
use Rattle.thread_automaton.specs.declared.Attempt.{Attempt}
use Rattle.thread_automaton.specs.declared.Attempt.TheVariants.{Begin, Look}
use Rattle.thread_automaton.specs.ThreadState.{ThreadState}
use Rattle.thread_automaton.specs.NextMove.{move_of, next_move}
use Rattle.thread_automaton.specs.Changes.{Change, changed}
use Rattle.thread_automaton.specs.Checks.{own_seen, section_loaded}
use Rattle.thread_automaton.specs.Answers.{change_of}
use Rattle.thread_automaton.specs.Told.{shown, told_of, counted_for}
use Rattle.enabled_law.specs.TurnsAlone.{counts, goes_on_by, goes_on_in}

module _ {S : Type 0} (code : Code S) (b : Bounds) where
  -- the thread makes the step on the words w, and this becomes of it: the turn counts, or what comes after it does
  abbrev pub made_of : Words → (ThreadState S → Words → Bool) → ThreadState S → Next → Step → Change → Bool
  made_of w later th next step change =
      counts (told_of next step (answer_of w step) change (shown change))
      || later (counted_for (told_of next step (answer_of w step) change (shown change)) (changed code th change)) (words_after step w)

  pub turn_is : (w : Words) (n : ℕ) (th : ThreadState S) (next : Next) (step : Step) (change : Change) (v : Bool) → next_move code b th ≡ Make step → code.next th.local ≡ next
      → change_of code b th next step (answer_of w step) ≡ change → made_of w (goes_on_in code b n) th next step change ≡ v → goes_on_in code b (suc n) th w ≡ v
  turn_is w n th next step change v moves does becomes is =
      ap (goes_on_by code b (goes_on_in code b n) th w) moves
      ∙ ap (λ x. made_of w (goes_on_in code b n) th x step (change_of code b th x step (answer_of w step))) does
      ∙ ap (made_of w (goes_on_in code b n) th next step) becomes ∙ is

  -- a thread that hasn't ended, and hasn't made its number of counted turns
  pub moves_so : (th : ThreadState S) (next : Next) (attempt : Attempt) (move : Move) → th.over ≡ false → nat_le b.limits.turns th.counted ≡ false
      → code.next th.local ≡ next → th.attempt ≡ attempt → move_of code th next attempt ≡ move → next_move code b th ≡ move
  moves_so th next attempt move live room does at is =
      ap (λ t. if t then Over else if nat_le b.limits.turns th.counted then Stop Turns else move_of code th (code.next th.local) th.attempt) live
      ∙ ap (λ t. if t then Stop Turns else move_of code th (code.next th.local) th.attempt) room
      ∙ ap (λ x. move_of code th x th.attempt) does ∙ ap (move_of code th next) at ∙ is

  -- an attempt that begins with a look at the own section
  pub begin_sees : (th : ThreadState S) (next : Next) (s w : ℕ) → section_loaded th next Begin s w ≡ own_seen w
  begin_sees th Silent s w = refl
  begin_sees th Ended s w = refl
  begin_sees th (Want (Enter r)) s w = refl
  begin_sees th (Want (Rewake r)) s w = refl
  begin_sees th (Want op) s w = refl

  pub look_sees : (th : ThreadState S) (next : Next) (s w : ℕ) → section_loaded th next Look s w ≡ own_seen w
  look_sees th Silent s w = refl
  look_sees th Ended s w = refl
  look_sees th (Want (Enter r)) s w = refl
  look_sees th (Want (Rewake r)) s w = refl
  look_sees th (Want op) s w = refl
