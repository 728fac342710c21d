use Rattle.std.proofs.Common.{refl}
use Rattle.step_port.specs.declared.step.Step.TheVariants.{BreakLevel}
use Rattle.table_words.specs.Ports.{port_setup, port_view}
use Rattle.table_port_tests.proofs.BesideLemmas.{seated, section_there, can_be_broken, still_first}
use Rattle.table_port_tests.proofs.beside.broken.Goals as goal

pub break_level-requires : goal.break_level-requires
break_level-requires c = ((seated (port_setup c.args.port.now) (port_view c.args.port.now) c.requires.1, section_there (port_setup c.args.port.now) c.requires.0), can_be_broken)

pub returns-clause-first : goal.returns-clause-first
returns-clause-first c = still_first _ _ _ _ (BreakLevel 1 4295295233 1) _ (λ ns. refl) c.break_level.ensures c.requires
