use Rattle.std.proofs.Common.{◌++◌, sym, subst}
use Rattle.table_words.specs.Ends.{HaveAllThreads}
use Rattle.table_words.specs.Tables.{setup_in, parts_of_seat, parts_of_seats}
use Rattle.table_port_tests.proofs.BesideLemmas.{at_first, first_has_all}
use Rattle.table_port_tests.proofs.beside.asked.Goals as goal

pub ask-seat-requires-clause-first : goal.ask-seat-requires-clause-first
ask-seat-requires-clause-first c = at_first (setup_in c.in_ok-table.table) (parts_of_seat c.in_ok-table.main.seat) c.in_ok-table.ensures.view

pub finish-requires-clause-all : goal.finish-requires-clause-all
finish-requires-clause-all c =
    subst (λ ss. HaveAllThreads (parts_of_seat c.ask-seat.result.1 ++ parts_of_seats ss)) (sym c.new.ensures.items)
    (first_has_all (setup_in c.in_ok-table.table) (parts_of_seat c.ask-seat.result.1) c.ask-seat.ensures.first)
