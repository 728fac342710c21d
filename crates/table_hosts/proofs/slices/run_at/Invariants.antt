use Rattle.std.proofs.Common.{◌≡◌, ◌≤◌, true}
use Rattle.thread_moves.specs.Thread.{thread_of}
use Rattle.table_words.specs.Tables.{setup_in, parts_of_seat}
use Rattle.table_words.specs.Ports.{port_view}
use Rattle.table_hosts.specs.Turns.{goes_on, TookTurns}
use Rattle.table_hosts.specs.Tallies.{IsWithin}
use Rattle.table_hosts.proofs.SliceSteps.{HasCome}
use Rattle.table_hosts.proofs.slices.run_at.Given as goal

abbrev pub invariant-loop-round : goal.invariant-loop-round
invariant-loop-round g l = record {
  table : l.port.table.now ≡ l.fn.table;
  come : HasCome g.C.ThreadCode.state g.C.ThreadCode.saved g.C.ThreadCode.code l.fn.table l.fn.seated l.thread (port_view l.port) l.born.items l.tally;
  took : TookTurns g.C.ThreadCode.state g.C.ThreadCode.saved g.C.ThreadCode.code (setup_in l.fn.table) (λ turn. goes_on l.fn.pace turn ≡ true) l.turns
      (thread_of g.C.ThreadCode.state g.C.ThreadCode.saved l.fn.seated.thread) (parts_of_seat l.fn.seated.seat)
      (thread_of g.C.ThreadCode.state g.C.ThreadCode.saved l.thread) (port_view l.port);
  rounds : l._round ≤ l.turns;
  within : l.turns ≤ l.fn.most;
  small : IsWithin l.turns l.tally;
}
