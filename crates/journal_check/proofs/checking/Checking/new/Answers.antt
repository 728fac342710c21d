use Rattle.std.proofs.Common.{refl}
use Rattle.journal_check.specs.declared.progress.Progress.TheVariants.{Going}
use Rattle.journal_check.proofs.CheckingLemmas.{begins}
use Rattle.journal_check.proofs.checking.Checking.new.Goals as goal

pub returns : goal.returns
returns g c = begins g.C.ThreadCode.code g.C.ThreadCode.state (record { progress = Going c.args.machine; reader = c.new.result; alloc = c.args.alloc }) c.args.machine refl c.new.ensures.none c.new.ensures.reads
