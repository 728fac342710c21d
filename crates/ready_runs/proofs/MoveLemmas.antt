-- What is so of each step that a thread makes next.
use Rattle.std.proofs.Common.{◌≡◌, ℕ, ◌&&◌, List, [], ◌∷◌, Bool, true, false, refl, subst}
use Rattle.std.specs.Prelude.{nat_le, if◌then◌else◌}
use Rattle.op_core.specs.declared.Limit.TheVariants.{Turns}
use Rattle.op_core.specs.declared.Op.{Op}
use Rattle.op_core.specs.declared.Next.{Next}
use Rattle.op_core.specs.declared.Next.TheVariants.{Silent, Want, Ended}
use Rattle.op_core.specs.ThreadCode.{Code, leaves_any}
use Rattle.section_state.specs.SectionWord.{revoke_of, undone_of}
use Rattle.write_log.specs.declared.Noted.{Noted}
use Rattle.step_port.specs.declared.step.Step.{Step}
use Rattle.step_port.specs.declared.step.Step.TheVariants.{RestoreWord, LoadSection, MarkUndone, SetDepth, Release}
use Rattle.thread_automaton.specs.declared.Bounds.{Bounds}
use Rattle.thread_automaton.specs.declared.Held.{Held}
use Rattle.thread_automaton.specs.declared.Move.{Move}
use Rattle.thread_automaton.specs.declared.Move.TheVariants.{Over, Quiet, Stop, Make}
use Rattle.thread_automaton.specs.declared.Attempt.{Attempt}
use Rattle.thread_automaton.specs.declared.Attempt.TheVariants.{Begin, Look, Checked, Fixed, Meets, Undoing, Full}
use Rattle.thread_automaton.specs.ThreadState.{ThreadState, is_open, mark_of, noted_since, from_level}
use Rattle.thread_automaton.specs.NextMove.{own_pin, deepened_since, undo_step, first_step, silent_move, move_of, next_move}
use Rattle.automaton_rows.proofs.RowLemmas.{by_if}
use Rattle.section_laws.proofs.DeedLemmas.{makes_it}
use Rattle.thread_moves.specs.Thread.{GoesOn}

-- ---- moves

-- a thread that goes on isn't over, and has turns left
pub is_going : (over full : Bool) (rest : Move) → GoesOn (if over then Over else if full then Stop Turns else rest) → (over ≡ false) × (full ≡ false) × GoesOn rest
is_going true full rest goes = absurd goes
is_going false true rest goes = absurd goes
is_going false false rest goes = (refl, refl, goes)

-- ---- what is so of the steps of each kind of attempt is so of the step that comes next

module _ {S : Type 0} (code : Code S) (b : Bounds) (th : ThreadState S) (P : Step → Type 0)
    (looks : P (LoadSection th.section)) (pins : P (own_pin th)) (fixed : (step : Step) → th.attempt ≡ Fixed step → P step)
    (meets : (s level : ℕ) → th.attempt ≡ Meets s level → P (LoadSection s))
    (restores : (at old : ℕ) → P (RestoreWord at old)) (sets_back : (r new : ℕ) → P (SetDepth r new)) (gives_back : (r : ℕ) → P (Release r))
    (undoes : (w : ℕ) → P (MarkUndone th.section w))
    (begins : (op : Op) → code.next th.local ≡ Want op → P (first_step code th op)) where
  abbrev OfMove : Move → Type 0
  OfMove (Make step) = P step
  OfMove move = Unit {0}

  of_silent : (step : Step) → P step → OfMove (silent_move code th step)
  of_silent step is = by_if OfMove (is_open th && leaves_any code th.saved th.local) (Make step) Quiet (λ yes. is) (λ other. tt)

  of_undo : (w : ℕ) (log : List Noted) (deepened taken : List Held) → P (undo_step th.section w log deepened taken)
  of_undo w (x ∷ log) deepened taken = restores x.at x.old
  of_undo w [] (h ∷ deepened) taken = sets_back h.object _
  of_undo w [] [] (h ∷ taken) = gives_back h.object
  of_undo w [] [] [] = undoes (undone_of w)

  of_move : (next : Next) (g : Attempt) → code.next th.local ≡ next → th.attempt ≡ g → OfMove (move_of code th next g)
  of_move next (Fixed step) wants at = fixed step at
  of_move next (Meets s level) wants at = meets s level at
  of_move next (Undoing w) wants at =
      of_undo w (noted_since (mark_of th (revoke_of w)).noted th.log) (deepened_since (mark_of th (revoke_of w)) th.held) (from_level (revoke_of w) th.held)
  of_move next (Full limit) wants at = tt
  of_move Silent Look wants at = looks
  of_move (Want op) Look wants at = looks
  of_move Silent Begin wants at = of_silent (LoadSection th.section) looks
  of_move Silent Checked wants at = of_silent (own_pin th) pins
  of_move (Want op) Begin wants at = by_if OfMove (is_open th) (Make (LoadSection th.section)) (Make (first_step code th op)) (λ yes. looks) (λ other. begins op wants)
  of_move (Want op) Checked wants at = begins op wants
  of_move Ended Begin wants at = tt
  of_move Ended Look wants at = tt
  of_move Ended Checked wants at = tt

  pub of_step : (step : Step) → next_move code b th ≡ Make step → P step
  of_step step makes = subst OfMove (makes_it th.over (nat_le b.limits.turns th.counted) _ step makes) (of_move (code.next th.local) th.attempt refl refl)
