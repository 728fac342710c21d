use Rattle.table_words.specs.Tables.{setup_in}
use Rattle.table_hosts.proofs.Families.{first_is_all}
use Rattle.table_kind_tests.proofs.kinds.steps_of_each_kind_leave_the_words_of_a_plain_run.Goals as goal

pub start-requires-clause-all : goal.start-requires-clause-all
start-requires-clause-all g c = first_is_all (setup_in c.in_ok-table.table) _ c.in_ok-table.ensures.view
