-- What the ordinary state shows of each act: an entry of a list in which undoing is seen.
use Rattle.std.specs.Prelude.{◌≡◌, ℕ, suc, ◌+◌, ◌-◌, Option, None, Some, List, [], ◌∷◌, length, slice_get}
use Rattle.op_core.specs.declared.Next.{Next}
use Rattle.op_core.specs.declared.Next.TheVariants.{Want}
use Rattle.op_core.specs.ThreadCode.{Code}
use Rattle.op_core.specs.OrdinaryState.{HasWord}
use Rattle.op_core.specs.InPlaceList.{Entry, silent, event, put_back, give_back, go_back, unseen}
use Rattle.heap_words.specs.Words.{value_of}
use Rattle.section_state.specs.SectionWord.{revoke_of}
use Rattle.monitor_core.specs.Monitors.{monitor_depth}
use Rattle.step_port.specs.declared.answer.StepAnswer.{StepAnswer}
use Rattle.step_port.specs.declared.step.Step.{Step}
use Rattle.step_port.specs.declared.step.Step.TheVariants.{RestoreWord, SetDepth, Release, MarkUndone}
use Rattle.thread_automaton.specs.declared.Bounds.{Bounds}
use Rattle.thread_automaton.specs.declared.Attempt.{Attempt}
use Rattle.thread_automaton.specs.declared.Attempt.TheVariants.{Undoing}
use Rattle.thread_automaton.specs.ThreadState.{ThreadState}
use Rattle.thread_automaton.specs.Told.{Told, advanced, told}
use Rattle.core_runs.specs.Cores.{Core}
use Rattle.core_runs.specs.Acts.{Act, quiet, did, beside}

-- a turn that others can see is an event
abbrev pub event_told : ℕ → Next → Told → Entry
event_told t (Want op) (advanced (Some reply)) = event t op reply
event_told t next told = unseen

-- thread t goes back to where it opened level n
abbrev pub go_back_to : ℕ → Option ℕ → Entry
go_back_to t None = unseen
go_back_to t (Some p) = go_back t p

abbrev pub back_to : ℕ → Attempt → List ℕ → Entry
back_to t (Undoing w) levels = go_back_to t (slice_get levels (length levels - revoke_of w))
back_to t attempt levels = unseen

-- a monitor gets another depth, or is released, as a part of undoing, or else the step shows e
abbrev pub monitor_shows : ℕ → Attempt → ℕ → ℕ → Entry → Entry
monitor_shows t (Undoing w) r count e = give_back t r count
monitor_shows t attempt r count e = e

-- a word is put back where it lies in an object
abbrev pub IsPutBack : {S : Type 0} → Core S → ℕ → ℕ → Entry → Type 0
IsPutBack c at old e = (r i : ℕ) × HasWord c.objects r i × (at ≡ r + 2 + i) × (e ≡ put_back r i (value_of old))

abbrev pub StepShows : {S : Type 0} → Code S → Bounds → Core S → ℕ → ThreadState S → Step → StepAnswer → Entry → Type 0
StepShows code b c t th (RestoreWord at old) answer e = IsPutBack c at old e
StepShows code b c t th (Release r) answer e =
    e ≡ monitor_shows t th.attempt r 0 (event_told t (code.next th.local) (told code b th (Release r) answer))
StepShows code b c t th (SetDepth r new) answer e =
    e ≡ monitor_shows t th.attempt r (monitor_depth new) (event_told t (code.next th.local) (told code b th (SetDepth r new) answer))
StepShows code b c t th (MarkUndone s w) answer e = e ≡ back_to t th.attempt (c.levels t)
StepShows code b c t th step answer e = e ≡ event_told t (code.next th.local) (told code b th step answer)

abbrev pub Shows : {S : Type 0} → Code S → Bounds → Core S → Act → Entry → Type 0
Shows code b c (quiet t) e = e ≡ silent t
Shows {S} code b c (did t step answer) e = (th : ThreadState S) × (c.threads t ≡ Some th) × StepShows code b c t th step answer e
Shows code b c (beside t step answer) e = e ≡ unseen

-- each act from number k on shows its entry
abbrev pub ShowFrom : {S : Type 0} → Code S → Bounds → (ℕ → Core S) → ℕ → List Act → List Entry → Type 0
ShowFrom code b c k [] [] = Unit {0}
ShowFrom code b c k (x ∷ acts) (e ∷ es) = Shows code b (c k) x e × ShowFrom code b c (suc k) acts es
ShowFrom code b c k _ _ = ⊥
