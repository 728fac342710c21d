use Rattle.std.proofs.Common.{refl}
use Rattle.step_port.specs.declared.step.Step.TheVariants.{LookMonitor}
use Rattle.table_words.specs.Ports.{port_setup, port_view}
use Rattle.table_port_tests.proofs.BesideLemmas.{seated, monitor_there, still_first}
use Rattle.table_port_tests.proofs.beside.monitor.Goals as goal

pub look_monitor-requires : goal.look_monitor-requires
look_monitor-requires c = (seated (port_setup c.args.port.now) (port_view c.args.port.now) c.requires.1, monitor_there (port_setup c.args.port.now) c.requires.0)

pub returns-clause-first : goal.returns-clause-first
returns-clause-first c = still_first _ _ _ _ (LookMonitor 13) _ (λ ns. refl) c.look_monitor.ensures c.requires
