-- The marks of the levels that threads have open, along a run.
use Rattle.std.specs.Prelude.{◌≡◌, ◌<◌, ◌≤◌, ◌+◌, ◌-◌, ℕ, true, Some, List, [], ◌∷◌, length, drop}
use Rattle.op_core.specs.ThreadCode.{Code}
use Rattle.section_state.specs.SectionWord.{revoke_of}
use Rattle.thread_automaton.specs.declared.Attempt.{Attempt}
use Rattle.thread_automaton.specs.declared.Attempt.TheVariants.{Undoing}
use Rattle.thread_automaton.specs.declared.Bounds.{Bounds}
use Rattle.thread_automaton.specs.ThreadState.{ThreadState, Mark, is_open, inside}
use Rattle.core_runs.specs.Cores.{Core}
use Rattle.core_runs.specs.Acts.{Act}
use Rattle.section_laws.specs.HeldLevels.{IsOrderlyRun}

-- Marks, the newest first: the newest was made when at most n words were logged, each other one when no more were
-- logged than for the next newer one, and the oldest when none was.
abbrev pub MarksFall : ℕ → List Mark → Type 0
MarksFall n [] = Unit {0}
MarksFall n (m ∷ marks) = (m.noted ≤ n) × (marks ≡ [] → m.noted ≡ 0) × MarksFall m.noted marks

-- the marks that count: while a section is undone to a level, those inside of that level don't any more
abbrev pub counting_marks : Attempt → ℕ → List Mark → List Mark
counting_marks (Undoing w) levels marks = drop (levels - revoke_of w) marks
counting_marks attempt levels marks = marks

-- each level that a thread hasn't seen pinned has a mark
abbrev pub MarksAreThere : {S : Type 0} → Code S → Type 0
MarksAreThere {S} code = (b : Bounds) (first : S) (classes : ℕ) (c : ℕ → Core S) (acts : List Act) → IsOrderlyRun code b first classes c acts
    → (k t : ℕ) (th : ThreadState S) → k ≤ length acts → (c k).threads t ≡ Some th → is_open th ≡ true → th.levels ≤ th.pinned + length th.marks

-- the marks fall from the length of the log to none
abbrev pub MarksOfThreadsFall : {S : Type 0} → Code S → Type 0
MarksOfThreadsFall {S} code = (b : Bounds) (first : S) (classes : ℕ) (c : ℕ → Core S) (acts : List Act) → IsOrderlyRun code b first classes c acts
    → (k t : ℕ) (th : ThreadState S) → k ≤ length acts → (c k).threads t ≡ Some th → MarksFall (length th.log) (counting_marks th.attempt th.levels th.marks)

-- the level to which a section is undone has a mark
abbrev pub UndoneLevelsHaveMarks : {S : Type 0} → Code S → Type 0
UndoneLevelsHaveMarks {S} code = (b : Bounds) (first : S) (classes : ℕ) (c : ℕ → Core S) (acts : List Act) → IsOrderlyRun code b first classes c acts
    → (k t w : ℕ) (th : ThreadState S) → k ≤ length acts → (c k).threads t ≡ Some th → th.attempt ≡ Undoing w → inside th (revoke_of w) < length th.marks
