use Rattle.std.proofs.Common.{refl}
use Rattle.step_port.specs.declared.step.Step.TheVariants.{SetStop}
use Rattle.table_words.specs.Ports.{port_setup, port_view}
use Rattle.table_port_tests.proofs.BesideLemmas.{seated, still_first}
use Rattle.table_port_tests.proofs.beside.stop.Goals as goal

pub set_stop-requires : goal.set_stop-requires
set_stop-requires c = seated (port_setup c.args.port.now) (port_view c.args.port.now) c.requires.1

pub returns-clause-first : goal.returns-clause-first
returns-clause-first c = still_first _ _ _ _ (SetStop) _ (λ ns. refl) c.set_stop.ensures c.requires
