use Rattle.std.proofs.Common.{sym, ap, ◌∙◌}
use Rattle.thread_automaton.specs.ThreadState.{first_state}
use Rattle.table_words.specs.declared.setup.Setup.{Setup}
use Rattle.table_words.specs.Setups.{setup_bounds}
use Rattle.table_words.specs.Tables.{setup_in, parts_of_seat}
use Rattle.table_hosts.proofs.Standing.{first_stands}
use Rattle.table_hosts.proofs.beginning.begin.Goals as goal

pub returns-clause-stands : goal.returns-clause-stands
returns-clause-stands g c =
    let e = c.in_ok-table.ensures in (
      e.seat,
      first_stands g.C.ThreadCode.state g.C.ThreadCode.saved g.C.ThreadCode.code (setup_in c.in_ok-table.table) c.first-thread.result (parts_of_seat c.in_ok-table.seat) e.view
          (c.first-thread.ensures.thread ∙ ap (λ (j : Setup _). first_state 1 5 (g.C.ThreadCode.state j.code)) (sym e.setup))
          (c.first-thread.ensures.bounds ∙ ap (λ (j : Setup _). setup_bounds j) (sym e.setup)),
    )
