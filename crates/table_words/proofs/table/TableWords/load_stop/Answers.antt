use Rattle.std.proofs.Common.{rules, refl, ℕ, arith}
use Rattle.step_port.specs.declared.step.Step.TheVariants.{LoadStop}
use Rattle.table_words.specs.Tables.{setup_in, parts_of_seat}
use Rattle.table_words.proofs.Allows.{beside_allowed}
use Rattle.table_words.proofs.Tells.{beside_runs}
use Rattle.table_words.proofs.table.TableWords.load_stop.Goals as goal

pub load-requires : goal.load-requires
load-requires g c = (
  search rules,
  search rules,
  beside_allowed g.C.ThreadCode.state g.C.ThreadCode.code (setup_in c.args.self.now) _ _ _ LoadStop (omega arith) _ refl _ refl (λ (n : ℕ). n) (λ (n : ℕ). refl)
      LoadStop refl refl (λ xs. refl) (λ n. tt) (parts_of_seat c.args.seat.now) c.requires.seated,
)

pub returns-clause-in_run : goal.returns-clause-in_run
returns-clause-in_run g c =
    beside_runs g.C.ThreadCode.state g.C.ThreadCode.code (setup_in c.args.self.now) (parts_of_seat c.args.seat.now) _ LoadStop c.requires.seated c.load.result _ c.load.ensures.2
