-- Replies fit.
use Rattle.std.proofs.Common.{ℕ}
use Rattle.heap_words.specs.declared.areas.Area.{Area}
use Rattle.heap_words.specs.declared.areas.Area.TheVariants.{Section}
use Rattle.step_port.specs.Steps.{place_of}
use Rattle.thread_automaton.specs.declared.Attempt.TheVariants.{Begin, Look}
use Rattle.thread_automaton.specs.Answers.{lost_on}
use Rattle.std.specs.Prelude.{IfSome}
use Rattle.op_core.specs.declared.Op.{Op}
use Rattle.op_core.specs.declared.Op.TheVariants.{Enter, Exit, Wait, Rewake}
use Rattle.op_core.specs.declared.Reply.{Reply}
use Rattle.op_core.specs.declared.Reply.TheVariants.{NotOwner}
use Rattle.op_core.specs.declared.Next.{Next}
use Rattle.op_core.specs.declared.Next.TheVariants.{Want}
use Rattle.op_core.specs.Replies.{FitsNext, IsEntry}
use Rattle.op_core.specs.ThreadCode.{Code}
use Rattle.step_port.specs.declared.answer.StepAnswer.{StepAnswer}
use Rattle.step_port.specs.declared.step.Step.{Step}
use Rattle.thread_automaton.specs.declared.Bounds.{Bounds}
use Rattle.thread_automaton.specs.ThreadState.{ThreadState, is_own_section}
use Rattle.thread_automaton.specs.Changes.{Change, goes}
use Rattle.automaton_rows.specs.Rows.{NeedsOwner, Row, is_lost, monitor_taken, entered_again, not_owner}
use Rattle.automaton_rows.specs.Laws.{reply_of, RepliesFit}
use Rattle.automaton_rows.proofs.RowLemmas.{by_if, answers_are_rows}

entry_done : (next : Next) → IsEntry next → FitsNext next Reply.Done
entry_done (Want (Enter r)) enters = tt
entry_done (Want (Rewake r)) enters = tt
entry_done next enters = absurd enters

owner_refused : (next : Next) (r : ℕ) → NeedsOwner next r → FitsNext next NotOwner
owner_refused (Want (Exit r)) q needs = tt
owner_refused (Want (Wait r)) q needs = tt
owner_refused (Want (Op.Notify r)) q needs = tt
owner_refused next q needs = absurd needs

lost_fits : {S : Type 0} (th : ThreadState S) (next : Next) (a : Area) → IfSome (reply_of (lost_on th a)) (FitsNext next)
lost_fits th next (Section s) = by_if (λ change. IfSome (reply_of change) (FitsNext next)) (is_own_section th s) (goes Look) (goes Begin) (λ _. tt) (λ _. tt)
lost_fits th next a = tt

fits : {S : Type 0} {code : Code S} {b : Bounds} {th : ThreadState S} {next : Next} {step : Step} {a : StepAnswer} {change : Change}
    → Row code b th next step a change → IfSome (reply_of change) (FitsNext next)
fits {th = th} (is_lost {next = next} {step = step}) = lost_fits th next (place_of step)
fits (monitor_taken {next = next} enters above) = entry_done next enters
fits (entered_again {next = next} enters calm) = entry_done next enters
fits (not_owner {next = next} {r = r} needs other) = owner_refused next r needs
fits row = tt

pub replies_fit : {S : Type 0} (code : Code S) → RepliesFit code
replies_fit code b th step answer attempt makes can = fits (answers_are_rows code b th step answer attempt makes can)
