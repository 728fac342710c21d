use Rattle.table_hosts.specs.Seated.{StandsOn}
use Rattle.table_tests.proofs.turns.rounds.Given as goal

abbrev pub invariant-loop-round : goal.invariant-loop-round
invariant-loop-round g l =
    StandsOn g.C.ThreadCode.state g.C.ThreadCode.saved g.C.ThreadCode.code l.table l.one
    × StandsOn g.C.ThreadCode.state g.C.ThreadCode.saved g.C.ThreadCode.code l.table l.other
