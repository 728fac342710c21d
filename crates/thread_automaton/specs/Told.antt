-- What a turn reports of the step that it made, and what is then counted.
use Rattle.std.specs.Prelude.{ℕ, suc, Option, None, Some}
use Rattle.op_core.specs.declared.Op.{Op}
use Rattle.op_core.specs.declared.Reply.{Reply}
use Rattle.op_core.specs.declared.Reply.TheVariants.{Number}
use Rattle.op_core.specs.declared.Next.{Next}
use Rattle.op_core.specs.declared.Next.TheVariants.{Want}
use Rattle.op_core.specs.ThreadCode.{Code}
use Rattle.monitor_core.specs.declared.Why.{Why}
use Rattle.step_port.specs.declared.answer.StepAnswer.{StepAnswer}
use Rattle.step_port.specs.declared.answer.StepAnswer.TheVariants.{Lost}
use Rattle.step_port.specs.declared.step.Effect.{Effect}
use Rattle.step_port.specs.declared.step.Effect.TheVariants.{Load}
use Rattle.step_port.specs.declared.step.Step.{Step}
use Rattle.step_port.specs.declared.step.Step.TheVariants.{LoadWait, Split}
use Rattle.step_port.specs.Steps.{effect_of}
use Rattle.thread_automaton.specs.declared.Bounds.{Bounds}
use Rattle.thread_automaton.specs.declared.Attempt.TheVariants.{Begin, Fixed}
use Rattle.thread_automaton.specs.ThreadState.{ThreadState}
use Rattle.thread_automaton.specs.Changes.{Change, goes, has_to_wait, replies, writes, takes, deepens, drops, closes, waits, prints, ends, changed}
use Rattle.thread_automaton.specs.Answers.{change_of}

pub data Told : Type 0 where
  -- a load, after which the attempt goes on
  probed : Told
  -- a step that counts, with the reply that others can see, if there is one
  advanced : Option Reply → Told
  -- a started thread was handed out, which counts too
  born : Told
  -- a compare-exchange that found this word, which ends the attempt
  lost : ℕ → Told
  -- a load after which the attempt ends, since the thread has to wait
  blocked : Why → Told

-- The reply that others can see: where the operation is answered, but of a start already where its thread is started.
abbrev pub shown : Change → Option Reply
shown (replies reply) = Some reply
shown (goes (Fixed (Split n r p))) = Some (Number n)
shown (writes log) = Some Reply.Done
shown (takes h) = Some Reply.Done
shown (deepens r depth) = Some Reply.Done
shown (drops held) = Some Reply.Done
shown closes = Some Reply.Done
shown (waits r) = Some Reply.Done
shown (prints ticket line) = Some Reply.Done
shown ends = Some Reply.Done
shown change = None

-- a load is a probe, but for those of a notify's search; every other step counts
abbrev pub told_by : Step → Effect → Next → Told
told_by (LoadWait n) effect (Want (Op.Notify r)) = advanced None
told_by step Load next = probed
told_by step effect next = advanced None

abbrev pub told_unseen : Next → Step → Change → Told
told_unseen next step (has_to_wait why) = blocked why
told_unseen next step change = told_by step (effect_of step) next

abbrev pub told_of : Next → Step → StepAnswer → Change → Option Reply → Told
told_of next step (Lost v) change reply = lost v
told_of next (Split n r p) answer change reply = born
told_of next step answer change (Some reply) = advanced (Some reply)
told_of next step answer change None = told_unseen next step change

-- what a turn reports in which the thread made the step and got this answer
abbrev pub told : {S : Type 0} → Code S → Bounds → ThreadState S → Step → StepAnswer → Told
told code b th step answer =
    let change = change_of code b th (code.next th.local) step answer in
    told_of (code.next th.local) step answer change (shown change)

-- a turn that counts, and silent moves up to a reply that others can see
abbrev pub counted_for : {S : Type 0} → Told → ThreadState S → ThreadState S
counted_for (advanced None) th = record th { counted = suc th.counted }
counted_for (advanced (Some reply)) th = record th { counted = suc th.counted; silents = 0 }
counted_for born th = record th { counted = suc th.counted }
counted_for other th = th

-- the thread after a step and its answer
abbrev pub after_answer : {S : Type 0} → Code S → Bounds → ThreadState S → Step → StepAnswer → ThreadState S
after_answer code b th step answer =
    counted_for (told code b th step answer) (changed code th (change_of code b th (code.next th.local) step answer))

-- the thread after a silent move to the local state l
abbrev pub after_quiet : {S : Type 0} → ThreadState S → S → ThreadState S
after_quiet th l = record th { local = l; attempt = Begin; counted = suc th.counted; silents = suc th.silents }
