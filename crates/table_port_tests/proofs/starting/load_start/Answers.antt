use Rattle.std.proofs.Common.{refl}
use Rattle.step_port.specs.declared.step.Step.TheVariants.{LoadThread}
use Rattle.step_port.specs.declared.step.ThreadWord.TheVariants.{Start}
use Rattle.table_port_tests.specs.Starting.{main_begun}
use Rattle.table_port_tests.proofs.StartingLemmas.{may_make}
use Rattle.table_port_tests.proofs.starting.load_start.Goals as goal

pub load_thread-requires : goal.load_thread-requires
load_thread-requires c = may_make c.args.port.now main_begun c.requires refl (LoadThread (Start 8)) refl
