use Rattle.std.proofs.Common.{◌≡◌, vec_len}
use Rattle.machine_tables.specs.Tables.{seat_at}
use Rattle.machine_tables.proofs.threads.Threads.grow.Given as goal

abbrev pub invariant-loop : goal.invariant-loop
invariant-loop g l = record {
  seats : seat_at l.self ≡ seat_at l.initial.self;
  length : vec_len l.self.seats ≡ l.counter;
}
