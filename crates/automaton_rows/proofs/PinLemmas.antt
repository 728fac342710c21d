-- The pin comes before what can't be taken back, and steps on sections have causes.
use Rattle.std.proofs.Common.{inl, inr, ◌≡◌, false, refl}
use Rattle.op_core.specs.declared.Next.{Next}
use Rattle.op_core.specs.ThreadCode.{Code}
use Rattle.step_port.specs.declared.answer.StepAnswer.{StepAnswer}
use Rattle.step_port.specs.declared.answer.StepAnswer.TheVariants.{Found}
use Rattle.step_port.specs.declared.step.Effect.{Effect}
use Rattle.step_port.specs.declared.step.Effect.TheVariants.{Load, Store, Exchange, Add}
use Rattle.step_port.specs.declared.step.Step.{Step}
use Rattle.step_port.specs.Steps.{effect_of}
use Rattle.thread_automaton.specs.declared.Bounds.{Bounds}
use Rattle.thread_automaton.specs.ThreadState.{ThreadState, is_open}
use Rattle.thread_automaton.specs.Changes.{Change}
use Rattle.automaton_rows.specs.Rows.{Row, is_lost, pins, restores, is_undone, pins_writer, section_numbered, sections_full, section_opened, level_opened, holder_revoked, section_committed, levels_closed, wait_noted, waiter_woken, line_printed, thread_numbered, threads_full, is_started, handed_out, thread_ended, class_claimed, class_settled}
use Rattle.automaton_rows.specs.Causes.{HasCause}
use Rattle.automaton_rows.specs.Laws.{CanAnswer, TellsOthers, PinsComeFirst, StepsHaveCauses}
use Rattle.automaton_rows.proofs.RowLemmas.{answers_are_rows}

-- of a row that isn't lost
abbrev Is : StepAnswer → Type 0
Is (StepAnswer.Lost v) = ⊥
Is answer = Unit {0}

shut_there : {S : Type 0} {code : Code S} {b : Bounds} {th : ThreadState S} {next : Next} {step : Step} {a : StepAnswer} {change : Change}
    → Row code b th next step a change → Is a → TellsOthers step → is_open th ≡ false
shut_there is_lost is tells = absurd is
shut_there (wait_noted shut) is tells = shut
shut_there (waiter_woken shut above below waits) is tells = shut
shut_there (line_printed shut) is tells = shut
shut_there (thread_numbered shut room) is tells = shut
shut_there (threads_full shut full) is tells = shut
shut_there (is_started shut above below) is tells = shut
shut_there (handed_out shut above below) is tells = shut
shut_there (thread_ended shut) is tells = shut
shut_there (class_claimed shut) is tells = shut
shut_there (class_settled shut) is tells = shut
shut_there row is tells = absurd tells

-- an answer that isn't lost
abbrev pub usual : Effect → StepAnswer
usual Load = Found 0
usual (Store v) = StepAnswer.Done
usual (Exchange old new) = StepAnswer.Done
usual (Add k) = Found 0

pub usual_can : (effect : Effect) → CanAnswer effect (usual effect)
usual_can Load = tt
usual_can (Store v) = tt
usual_can (Exchange old new) = tt
usual_can (Add k) = tt

usual_is : (effect : Effect) → Is (usual effect)
usual_is Load = tt
usual_is (Store v) = tt
usual_is (Exchange old new) = tt
usual_is (Add k) = tt

pub pins_first : {S : Type 0} (code : Code S) → PinsComeFirst code
pins_first code b th step fits makes tells =
    shut_there (answers_are_rows code b th step (usual (effect_of step)) fits makes (usual_can (effect_of step))) (usual_is (effect_of step)) tells

causes : {S : Type 0} {code : Code S} {b : Bounds} {th : ThreadState S} {next : Next} {step : Step} {a : StepAnswer} {change : Change}
    → Row code b th next step a change → Is a → HasCause code th next step
causes is_lost is = absurd is
causes (pins unpinned lasts) is = inl (record { own = (unpinned, refl, refl, refl); cause = lasts })
causes (restores at undoing next) is = record { seen = _; attempt = at; undoing = undoing }
causes (is_undone at undoing next) is = record { seen = _; attempt = at; undoing = undoing }
causes (pins_writer accesses unsafe live deeper) is = inr (record { unsafe_word = unsafe; live = live; deeper = deeper; cause = accesses })
causes (level_opened enters some needs room) is = record { own = refl; as_known = refl; needed = needs; cause = enters }
causes (levels_closed {r = r} own) is = record { monitor = r; exit = refl; own = own }
causes (section_numbered enters none room) is = record { none_open = none; cause = enters }
causes (sections_full enters none full) is = record { none_open = none; cause = enters }
causes (section_opened enters none above) is = record { none_open = none; cause = enters }
causes (holder_revoked enters other lower) is = record { by_another = other; revoke = lower; cause = enters }
causes (section_committed above only) is = record { own = refl; as_known = refl; monitor = _; exit = refl; last = only }
causes row is = tt

pub steps_caused : {S : Type 0} (code : Code S) → StepsHaveCauses code
steps_caused code b th step fits makes =
    causes (answers_are_rows code b th step (usual (effect_of step)) fits makes (usual_can (effect_of step))) (usual_is (effect_of step))
