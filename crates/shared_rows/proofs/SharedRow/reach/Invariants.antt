use Rattle.std.proofs.Common.{◌≡◌, length}
use Rattle.shared_rows.specs.Rows.{number_at}
use Rattle.shared_rows.proofs.SharedRow.reach.Given as goal

abbrev pub invariant-loop : goal.invariant-loop
invariant-loop l = record {
  numbers : number_at l.self ≡ number_at l.initial.self;
  pages : length l.self.pages.items ≡ l.counter;
}
