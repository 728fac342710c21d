use Rattle.std.proofs.Common.{Option, Some, refl, ap, ◌∙◌}
use Rattle.std.proofs.lemmas.Result.{IfOk-weaker}
use Rattle.command_words.specs.declared.request.Request.{Request}
use Rattle.command_answers.specs.Answers.{Runs, RunsHosted, Traces, Checks, Counts}
use Rattle.jrev_top.proofs.Asked.{program-asked}
use Rattle.jrev_top.proofs.Ended.{OnOk-left, OnOk-right}
use Rattle.file_answers.proofs.Found.{order-none}
use Rattle.jrev_top.proofs.deciding.decide.Goals as goal

pub returns-in-Ok-Pick-clause-answer : goal.returns-in-Ok-Pick-clause-answer
returns-in-Ok-Pick-clause-answer g c =
    IfOk-weaker c.decide_program.result _ _ (λ answer. program-asked _ _ (Runs c.in-Ok-Pick.schedule c.in-Ok-Pick.limits c.in-Ok-Pick.counts) c.in-Ok-Pick.dir c.in-Ok-Pick.main _ _ _ answer
    (c.in-Ok-Pick.ensures.found ∙ ap (λ (r : Request). let o : Option Request = Some r in o) c.in-Ok-Pick.field-0-is) c.as_str.ensures c.as_str-in-Ok-Pick.ensures (λ is. is)) c.decide_program.ensures.answer

pub returns-in-Ok-Trace-clause-answer : goal.returns-in-Ok-Trace-clause-answer
returns-in-Ok-Trace-clause-answer g c =
    IfOk-weaker c.decide_program-in-Ok-Trace.result _ _ (λ answer. program-asked _ _ (Traces c.in-Ok-Trace.schedule c.in-Ok-Trace.limits) c.in-Ok-Trace.dir c.in-Ok-Trace.main _ _ _ answer
    (c.in-Ok-Trace.ensures.found ∙ ap (λ (r : Request). let o : Option Request = Some r in o) c.in-Ok-Trace.field-0-is) c.as_str-in-Ok-Trace.ensures c.as_str-in-Ok-Trace-2.ensures (λ is. is)) c.decide_program-in-Ok-Trace.ensures.answer

pub returns-in-Ok-Run-clause-answer : goal.returns-in-Ok-Run-clause-answer
returns-in-Ok-Run-clause-answer g c =
    IfOk-weaker c.decide_hosted.result _ _ (λ answer. program-asked _ _ (RunsHosted c.in-Ok-Run.limits c.in-Ok-Run.counts) c.in-Ok-Run.dir c.in-Ok-Run.main _ _ _ answer
    (c.in-Ok-Run.ensures.found ∙ ap (λ (r : Request). let o : Option Request = Some r in o) c.in-Ok-Run.field-0-is) c.as_str-in-Ok-Run.ensures c.as_str-in-Ok-Run-2.ensures (λ is. is)) c.decide_hosted.ensures.answer

pub returns-in-Ok-Check-clause-answer : goal.returns-in-Ok-Check-clause-answer
returns-in-Ok-Check-clause-answer g c =
    IfOk-weaker c.check.result _ _ (λ answer. program-asked _ _ (Checks (g.I.Source.left c.args.input.now)) c.in-Ok-Check.dir c.in-Ok-Check.main _ _ _ answer
    (c.in-Ok-Check.ensures.found ∙ ap (λ (r : Request). let o : Option Request = Some r in o) c.in-Ok-Check.field-0-is) c.as_str-in-Ok-Check.ensures c.as_str-in-Ok-Check-2.ensures (λ is. is)) c.check.ensures.answer

pub returns-in-Ok-Load-clause-answer : goal.returns-in-Ok-Load-clause-answer
returns-in-Ok-Load-clause-answer g c =
    IfOk-weaker c.decide_program-in-Ok-Load.result _ _ (λ answer. program-asked _ _ Counts c.in-Ok-Load.dir c.in-Ok-Load.main _ _ _ answer
    (c.in-Ok-Load.ensures.found ∙ ap (λ (r : Request). let o : Option Request = Some r in o) c.in-Ok-Load.field-0-is) c.as_str-in-Ok-Load.ensures c.as_str-in-Ok-Load-2.ensures (λ is. is)) c.decide_program-in-Ok-Load.ensures.answer

pub returns-in-Ok-Pick-clause-ok_faults : goal.returns-in-Ok-Pick-clause-ok_faults
returns-in-Ok-Pick-clause-ok_faults g c = OnOk-left _ _ _ c.decide_program.ensures.ok_faults

pub returns-in-Ok-Load-clause-ok_faults : goal.returns-in-Ok-Load-clause-ok_faults
returns-in-Ok-Load-clause-ok_faults g c = OnOk-left _ _ _ c.decide_program-in-Ok-Load.ensures.ok_faults

pub returns-in-Ok-Make-clause-ok_faults : goal.returns-in-Ok-Make-clause-ok_faults
returns-in-Ok-Make-clause-ok_faults g c = OnOk-right _ _ _ c.make.ensures.ok_faults

pub returns-in_ok-answer_to_number-in-Ok-Stress-clause-order : goal.returns-in_ok-answer_to_number-in-Ok-Stress-clause-order
returns-in_ok-answer_to_number-in-Ok-Stress-clause-order g c = order-none _ _ _ _ refl
