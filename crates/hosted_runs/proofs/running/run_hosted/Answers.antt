use Rattle.std.proofs.lemmas.List.Elements.{All-head, All-tail}
use Rattle.table_words.specs.Tables.{IsSeatOf}
use Rattle.hosted_runs.proofs.HandedLemmas.{its_seats}
use Rattle.hosted_runs.proofs.HostedLemmas.{going, comes}
use Rattle.hosted_runs.proofs.running.run_hosted.Goals as goal

pub finish-requires-clause-first : goal.finish-requires-clause-first
finish-requires-clause-first g c =
    let run = c.in_ok-hosted.hosted in
    All-head (IsSeatOf run.table) run.first run.rest.items (its_seats g.C.ThreadCode.state g.C.ThreadCode.saved g.C.ThreadCode.code _ run c.in_ok-hosted.ensures c.seated_threads_are_after_steps.ensures)

pub finish-requires-clause-rest : goal.finish-requires-clause-rest
finish-requires-clause-rest g c =
    let run = c.in_ok-hosted.hosted in
    All-tail (IsSeatOf run.table) run.first run.rest.items (its_seats g.C.ThreadCode.state g.C.ThreadCode.saved g.C.ThreadCode.code _ run c.in_ok-hosted.ensures c.seated_threads_are_after_steps.ensures)

pub go_on-requires : goal.go_on-requires
go_on-requires g c =
    let at = going g.C.ThreadCode.state g.C.ThreadCode.saved g.C.ThreadCode.code c.args.limits.now c.args.opening.now c.args.code c.requires.can c.requires.well c.in_ok-hosted.hosted c.in_ok-hosted.ensures
    c.in-Ok.words c.in-Ok.ensures.areas c.in-Ok.ensures.words c.seated_threads_are_after_steps.ensures c.handed_over_runs_go_on.ensures in
    (at.0, at.2)

pub returns : goal.returns
returns g c =
    comes g.C.ThreadCode.state g.C.ThreadCode.saved g.C.ThreadCode.code c.args.limits.now c.args.opening.now c.args.code c.requires.can c.requires.well c.in_ok-hosted.hosted c.in_ok-hosted.ensures
    c.in-Ok.words c.in-Ok.ensures.areas c.in-Ok.ensures.words c.seated_threads_are_after_steps.ensures c.handed_over_runs_go_on.ensures
    c.turns_go_on_as_acts.ensures c.go_on.result c.go_on.ensures
