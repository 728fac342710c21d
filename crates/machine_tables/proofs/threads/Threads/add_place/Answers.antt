use Rattle.std.specs.Result.{is_ok}
use Rattle.machine_tables.proofs.TableLemmas.{seats_more}
use Rattle.machine_tables.proofs.threads.Threads.add_place.Goals as goal

pub returns-clause-seats : goal.returns-clause-seats
returns-clause-seats g c = seats_more c.args.self.now.seats.items c.push.new.self.items (is_ok c.push.result) c.push.ensures.items
