use Rattle.std.proofs.Common.{rules, refl, ℕ, arith}
use Rattle.step_port.specs.declared.step.Step.TheVariants.{SetStop}
use Rattle.table_words.specs.Tables.{setup_in, parts_of_seat}
use Rattle.table_words.proofs.Allows.{beside_allowed}
use Rattle.table_words.proofs.Tells.{beside_runs}
use Rattle.table_words.proofs.table.TableWords.set_stop.Goals as goal

pub store-requires : goal.store-requires
store-requires g c = (
  search rules,
  search rules,
  beside_allowed g.C.ThreadCode.state g.C.ThreadCode.code (setup_in c.args.self.now) _ _ _ SetStop (omega arith) _ refl _ refl (λ (n : ℕ). 1) (λ (n : ℕ). refl)
      SetStop refl refl (λ xs. refl) (λ n. tt) (parts_of_seat c.args.seat.now) c.requires.seated,
)

pub returns-clause-in_run : goal.returns-clause-in_run
returns-clause-in_run g c =
    beside_runs g.C.ThreadCode.state g.C.ThreadCode.code (setup_in c.args.self.now) (parts_of_seat c.args.seat.now) _ SetStop c.requires.seated 1 _ c.store.ensures.2
