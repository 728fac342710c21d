use Rattle.table_words.specs.Ends.{HaveAllThreads}
use Rattle.table_words.specs.Tables.{parts_of_seat}
use Rattle.table_hosts.specs.Seated.{StandsOn}
use Rattle.table_kind_tests.proofs.kinds.start.Given as goal

abbrev pub invariant-loop-turn : goal.invariant-loop-turn
invariant-loop-turn g l = StandsOn g.C.ThreadCode.state g.C.ThreadCode.saved g.C.ThreadCode.code l.table l.main × HaveAllThreads (parts_of_seat l.main.seat)
