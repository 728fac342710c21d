use Rattle.std.proofs.Common.{◌≡◌, length}
use Rattle.journal_rows.specs.Rows.{AreFresh}
use Rattle.journal_rows.proofs.telling.new_threads.Given as goal

abbrev pub invariant-loop : goal.invariant-loop
invariant-loop l = record { count : length l.threads.items ≡ l.counter; new : AreFresh l.threads.items }
