-- How a thread's counts are related to one another.
use Rattle.std.proofs.Common.{ℕ, zero, suc, ◌≤◌, Bool, true, false, List, [], ◌∷◌, map, drop, Some, None, arith}
use Rattle.std.specs.Prelude.{if◌then◌else◌}
use Rattle.op_core.specs.ThreadCode.{Code}
use Rattle.thread_automaton.specs.ThreadState.{ThreadState, Mark, is_open, inside, no_mark, nth_or}
use Rattle.thread_automaton.specs.declared.Bounds.{Bounds}
use Rattle.step_port.specs.declared.step.Step.{Step}
use Rattle.step_port.specs.declared.answer.StepAnswer.{StepAnswer}
use Rattle.thread_automaton.specs.Told.{Told, advanced, born, told, counted_for, after_answer, after_quiet}
use Rattle.thread_moves.specs.Thread.{AreAtMost, AreCounted}
use Rattle.thread_automaton.specs.Changes.{Change, opens, opens_level, closes_to, sees_pinned, closes, goes_back, changed, forgotten}

abbrev silents_of : List Mark → List ℕ
silents_of marks = map (λ (m : Mark). m.silents) marks

mark_within : (n k : ℕ) (marks : List Mark) → AreAtMost n (silents_of marks) → (nth_or no_mark k marks).silents ≤ n
mark_within n k [] within = omega arith
mark_within n zero (m ∷ ms) within = within.0
mark_within n (suc k) (m ∷ ms) within = mark_within n k ms within.1

left_within : (n k : ℕ) (marks : List Mark) → AreAtMost n (silents_of marks) → AreAtMost n (silents_of (drop k marks))
left_within n zero marks within = within
left_within n (suc k) [] within = tt
left_within n (suc k) (m ∷ ms) within = left_within n k ms within.1

more_within : (n : ℕ) (marks : List Mark) → AreAtMost n (silents_of marks) → AreAtMost (suc n) (silents_of marks)
more_within n [] within = tt
more_within n (m ∷ ms) within = (omega (arith, within.0), more_within n ms within.1)

forgotten_within : {S : Type 0} (th : ThreadState S) → AreCounted th → AreCounted (forgotten th)
forgotten_within {S} th are = by_test (is_open th)
  where
    by_test : (t : Bool) → AreCounted {S = S} (if t then th else record th { log = []; saved = []; marks = [] })
    by_test true = are
    by_test false = record { silents = are.silents; marks = tt }

changed_within : {S : Type 0} (code : Code S) (th : ThreadState S) (change : Change) → AreCounted th → AreCounted (changed code th change)
changed_within code th (sees_pinned depth attempt) are = forgotten_within _ (record { silents = are.silents; marks = are.marks })
changed_within code th (opens s attempt) are = record { silents = are.silents; marks = (are.silents, are.marks) }
changed_within code th (opens_level attempt) are = forgotten_within _ (record { silents = are.silents; marks = (are.silents, are.marks) })
changed_within code th (closes_to n attempt) are = forgotten_within _ (record { silents = are.silents; marks = left_within th.counted (inside th n) th.marks are.marks })
changed_within code th closes are = forgotten_within _ (record { silents = are.silents; marks = left_within th.counted (inside th 0) th.marks are.marks })
changed_within code th (goes_back n) are = forgotten_within _ (record {
  silents = mark_within th.counted (inside th n) th.marks are.marks;
  marks = left_within th.counted (suc (inside th n)) th.marks are.marks;
})
changed_within code th change are = record { silents = are.silents; marks = are.marks }

counted_within : {S : Type 0} (tells : Told) (th : ThreadState S) → AreCounted th → AreCounted (counted_for tells th)
counted_within (advanced None) th are = record { silents = omega (arith, are.silents); marks = more_within th.counted th.marks are.marks }
counted_within (advanced (Some reply)) th are = record { silents = omega arith; marks = more_within th.counted th.marks are.marks }
counted_within born th are = record { silents = omega (arith, are.silents); marks = more_within th.counted th.marks are.marks }
counted_within tells th are = are

pub answers_within : {S : Type 0} (code : Code S) (b : Bounds) (th : ThreadState S) (step : Step) (answer : StepAnswer) → AreCounted th → AreCounted (after_answer code b th step answer)
answers_within code b th step answer are = counted_within (told code b th step answer) _ (changed_within code th _ are)

pub quiet_within : {S : Type 0} (th : ThreadState S) (l : S) → AreCounted th → AreCounted (after_quiet th l)
quiet_within th l are = record { silents = omega (arith, are.silents); marks = more_within th.counted th.marks are.marks }
