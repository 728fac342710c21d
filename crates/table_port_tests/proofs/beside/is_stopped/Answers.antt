use Rattle.std.proofs.Common.{refl}
use Rattle.step_port.specs.declared.step.Step.TheVariants.{LoadStop}
use Rattle.table_words.specs.Ports.{port_setup, port_view}
use Rattle.table_port_tests.proofs.BesideLemmas.{seated, still_first}
use Rattle.table_port_tests.proofs.beside.is_stopped.Goals as goal

pub load_stop-requires : goal.load_stop-requires
load_stop-requires c = seated (port_setup c.args.port.now) (port_view c.args.port.now) c.requires.1

pub returns-clause-first : goal.returns-clause-first
returns-clause-first c = still_first _ _ _ _ (LoadStop) _ (λ ns. refl) c.load_stop.ensures.2 c.requires
