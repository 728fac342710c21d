use Rattle.std.proofs.Common.{refl}
use Rattle.step_port.specs.declared.step.Step.TheVariants.{LookSection}
use Rattle.table_words.specs.Ports.{port_setup, port_view}
use Rattle.table_port_tests.proofs.BesideLemmas.{seated, section_there, still_first}
use Rattle.table_port_tests.proofs.beside.section.Goals as goal

pub look_section-requires : goal.look_section-requires
look_section-requires c = (seated (port_setup c.args.port.now) (port_view c.args.port.now) c.requires.1, section_there (port_setup c.args.port.now) c.requires.0)

pub returns-clause-first : goal.returns-clause-first
returns-clause-first c = still_first _ _ _ _ (LookSection 1) _ (λ ns. refl) c.look_section.ensures c.requires
