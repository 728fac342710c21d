use Rattle.std.proofs.Common.{◌≡◌, ◌+◌, [], ◌∷◌, arith, refl, subst}
use Rattle.step_port.specs.declared.answer.StepAnswer.{StepAnswer}
use Rattle.step_port.specs.declared.step.Step.{Step}
use Rattle.std.proofs.lemmas.List.Elements.{All-tail}
use Rattle.table_hosts.specs.Seated.{StandsOn}
use Rattle.epoch_host.specs.Work.{BecameBy}
use Rattle.epoch_host.proofs.Becoming.{same_threads, became_same, became_then, became_beside, became_by_host}
use Rattle.epoch_host.proofs.work.stop_after.Goals as goal

pub returns-clause-became : goal.returns-clause-became
returns-clause-became g c = λ threads opened undone is.
    let state = g.C.ThreadCode.state in
    let saved = g.C.ThreadCode.saved in
    let code = g.C.ThreadCode.code in
    let table = c.args.table.now in
    let x = c.args.slice.seated in
    let y = c.set_stop-seated.result in
    let born = c.args.slice.born.items in
    let host = became_by_host state saved code table x y Step.SetStop StepAnswer.Done c.requires (λ ns. refl) refl refl c.set_stop-seated.ensures in
    let same = became_same state saved code table born born (same_threads born born refl) (All-tail (StandsOn state saved code table) x born is.stand) in
    let both = became_then state saved code table threads (x ∷ born) (y ∷ born) opened 0 undone 0 is (became_beside state saved code table (x ∷ []) (y ∷ []) born born 0 0 0 0 host same) in
    let o : opened + 0 ≡ opened = omega arith in
    let u : undone + 0 ≡ undone = omega arith in
    subst (λ n. BecameBy state saved code table threads (y ∷ born) n undone) o (subst (λ n. BecameBy state saved code table threads (y ∷ born) (opened + 0) n) u both)
