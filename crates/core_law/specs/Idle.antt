-- Cores in which no thread is enabled.
use Rattle.std.specs.Prelude.{◌≡◌, ◌<◌, ◌≤◌, ℕ, Bool, true, false, Some, List, length, IsSomeAnd}
use Rattle.op_core.specs.declared.Op.TheVariants.{Join}
use Rattle.op_core.specs.declared.Next.TheVariants.{Want}
use Rattle.op_core.specs.ThreadCode.{Code, quiet_steps}
use Rattle.op_core.specs.OrdinaryState.{Object, OrdinaryState, live}
use Rattle.op_core.specs.InPlaceList.{owned_by}
use Rattle.op_core.specs.Execution.{IsStuck}
use Rattle.op_core.specs.Laws.{IsSameKind}
use Rattle.thread_automaton.specs.declared.Bounds.{Bounds}
use Rattle.thread_automaton.specs.ThreadState.{ThreadState, held_as}
use Rattle.automaton_rows.specs.Undoing.{is_held}
use Rattle.core_runs.specs.Cores.{Core}
use Rattle.core_runs.specs.Acts.{Act}
use Rattle.core_runs.specs.Reading.{ordinary}
use Rattle.section_laws.specs.Ends.{HasNoEnds}
use Rattle.section_laws.specs.Layout.{IsLaidRun}
use Rattle.section_laws.specs.Starts.{BeginsWithStarts}
use Rattle.first_law.specs.RunMonitors.{IsMonitorRun}
use Rattle.word_runs.specs.Enabled.{is_enabled}

-- some thread hasn't ended, and none is enabled
pub record NoneIsEnabled {S : Type 0} (code : Code S) (c : Core S) : Type 0 where
  pub some_live : (t : ℕ) × (th : ThreadState S) × (c.threads t ≡ Some th) × (th.over ≡ false)
  pub not_enabled : (t : ℕ) (th : ThreadState S) → c.threads t ≡ Some th → is_enabled code c.words th ≡ false

-- a thread that waits for another's end names a thread object, which has its start word
abbrev pub JoinsNameThreads : {S : Type 0} → Code S → (ℕ → Bool) → Core S → Type 0
JoinsNameThreads {S} code is_thread c = (t r : ℕ) (th : ThreadState S) → c.threads t ≡ Some th → th.over ≡ false → code.next th.local ≡ Want (Join r) → IsSomeAnd (c.objects r) (λ (o : Object). (is_thread o.class ≡ true) × (1 < o.words))

-- The state `last` is what is left of a run where it comes to this core, and no thread has anything to undo: its parts are those of
-- the core's ordinary state; each monitor that a thread holds is its own there, entered as often; and each thread that hasn't ended
-- is where it is in the core, but for silent steps.
pub record IsLeftAt {S : Type 0} (code : Code S) (is_thread : ℕ → Bool) (c : Core S) (last : OrdinaryState S) : Type 0 where
  pub objects : (r : ℕ) (o : Object) → last.objects r ≡ Some o → c.objects r ≡ Some o
  pub waiting : last.waiting ≡ (ordinary code is_thread c).waiting
  pub classes : last.classes ≡ (ordinary code is_thread c).classes
  pub starts : last.starts ≡ (ordinary code is_thread c).starts
  pub kinds : (t : ℕ) → IsSameKind (last.threads t) ((ordinary code is_thread c).threads t)
  pub monitors : (t r : ℕ) (th : ThreadState S) → c.threads t ≡ Some th → is_held r th.held ≡ true → last.monitors r ≡ owned_by t (held_as r th.held).depth
  pub places : (t : ℕ) (th : ThreadState S) (l : S) → c.threads t ≡ Some th → (ordinary code is_thread c).threads t ≡ live l → (from : S) × (n : ℕ) × (last.threads t ≡ live from) × (quiet_steps code n from ≡ Some l)

-- Where no thread is enabled at a place of a run, such a state is stuck in the ordinary machine: some thread hasn't ended, and each
-- such thread wants, after some silent steps, an operation that has no step.
abbrev pub IdleCoresAreStuck : {S : Type 0} → Code S → Type 0
IdleCoresAreStuck {S} code = (b : Bounds) (is_thread : ℕ → Bool) (first : S) (classes : ℕ) (c : ℕ → Core S) (acts : List Act) → IsMonitorRun code b first classes c acts
    → IsLaidRun code b is_thread c acts → BeginsWithStarts is_thread (c 0) → HasNoEnds (c 0).words
    → (k : ℕ) → k ≤ length acts → NoneIsEnabled code (c k) → JoinsNameThreads code is_thread (c k) → (last : OrdinaryState S) → IsLeftAt code is_thread (c k) last → IsStuck code last
