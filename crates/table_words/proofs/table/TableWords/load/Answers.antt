use Rattle.std.proofs.Common.{rules, refl, ap, ◌∙◌, ℕ}
use Rattle.step_port.specs.declared.step.Effect.{Effect}
use Rattle.step_port.specs.Steps.{place_of}
use Rattle.step_port.specs.Words.{answer_to}
use Rattle.section_laws.specs.NextSteps.{step_made}
use Rattle.table_words.specs.Views.{first_after}
use Rattle.table_words.specs.Tables.{setup_in, parts_of_seat}
use Rattle.table_words.proofs.Blocks.{word_after}
use Rattle.table_words.proofs.Allows.{at_place, may_there, own_allowed}
use Rattle.table_words.proofs.Tells.{own_told, own_runs}
use Rattle.table_words.proofs.table.TableWords.load.Goals as goal

pub load-requires : goal.load-requires
load-requires g c =
    let k = setup_in c.args.self.now in
    let v = parts_of_seat c.args.seat.now in
    let step = c.args.step in (
      search rules,
      search rules,
      own_allowed g.C.ThreadCode.state g.C.ThreadCode.code k _ _ _ step (may_there g.C.ThreadCode.state g.C.ThreadCode.code k v step c.requires.next) _
          (at_place _ _ c.args.self.now.areas_are _ (place_of step) c.requires.step.0 _ c.place_from-place.ensures.place) _ (ap word_after c.requires.step.1)
          (λ (n : ℕ). n) (λ (n : ℕ). refl) c.requires.step.2 v c.requires.next,
    )

pub returns-clause-grown : goal.returns-clause-grown
returns-clause-grown g c =
    let v = parts_of_seat c.args.seat.now in
    own_told g.C.ThreadCode.state g.C.ThreadCode.code (setup_in c.args.self.now) v _ c.args.step c.requires.next c.requires.step.2 c.load.result _ c.load.ensures.2
    ∙ ap (λ (e : Effect). first_after v (step_made c.args.step (answer_to e c.load.result))) c.requires.step.1

pub returns-clause-in_run : goal.returns-clause-in_run
returns-clause-in_run g c =
    own_runs g.C.ThreadCode.state g.C.ThreadCode.code (setup_in c.args.self.now) (parts_of_seat c.args.seat.now) _ c.args.step c.requires.next c.load.result _ c.load.ensures.2
