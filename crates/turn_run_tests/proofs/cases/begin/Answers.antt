use Rattle.std.proofs.Common.{◌≡◌, true, ◌∙◌, ap}
use Rattle.std.specs.List.{list_all}
use Rattle.thread_automaton.specs.ThreadState.{ThreadState}
use Rattle.toy_code.specs.Toy.{ToyState}
use Rattle.turn_run_tests.specs.InRange.{is_in_range}
use Rattle.turn_run_tests.proofs.ReadyLemmas.{toys_stay_ready}
use Rattle.turn_run_tests.proofs.cases.begin.Goals as goal

pub returns : goal.returns
returns c =
    let all : list_all is_in_range c.new-main.result.steps.now ≡ true = search in
    toys_stay_ready c.first-ready.result.own.bounds _ c.in_ok-port.port
    (ap (λ (th : ThreadState ToyState). list_all is_in_range th.local.steps) c.first-ready.ensures.thread ∙ all)
    (ap (λ (th : ThreadState ToyState). th.saved) c.first-ready.ensures.thread)
