use Rattle.std.proofs.Common.{ap, ◌∙◌}
use Rattle.table_words.specs.Tables.{parts_of_seat}
use Rattle.table_port_tests.proofs.StartingLemmas.{begun_port}
use Rattle.table_port_tests.proofs.starting.a_thread_that_is_not_started_has_an_empty_start_word.Goals as goal

pub load_start-requires : goal.load_start-requires
load_start-requires g c =
    begun_port c.in_ok-table.table c.port-port.result c.port-port.ensures.table c.in_ok-table.ensures.program (ap parts_of_seat c.port-port.ensures.seat ∙ c.in_ok-table.ensures.view)
