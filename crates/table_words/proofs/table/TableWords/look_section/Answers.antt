use Rattle.std.proofs.Common.{rules, refl, ℕ}
use Rattle.heap_words.specs.declared.areas.Area.TheVariants.{Section}
use Rattle.step_port.specs.declared.step.Step.TheVariants.{LookSection}
use Rattle.table_words.specs.Tables.{setup_in, parts_of_seat}
use Rattle.table_words.proofs.Allows.{at_place, there_in, beside_allowed}
use Rattle.table_words.proofs.Tells.{section_told, beside_told, beside_runs}
use Rattle.table_words.proofs.table.TableWords.look_section.Goals as goal

pub load-requires : goal.load-requires
load-requires g c =
    let k = setup_in c.args.self.now in
    let v = parts_of_seat c.args.seat.now in
    let at = at_place _ _ c.args.self.now.areas_are _ (Section c.args.section) c.requires.there.0 _ c.place_from-place.ensures.place in (
      search rules,
      search rules,
      beside_allowed g.C.ThreadCode.state g.C.ThreadCode.code k _ _ _ (LookSection c.args.section) (there_in _ _ c.args.self.now.areas_are _ (Section c.args.section) c.requires.there.0 c.requires.there.1) _ at
          _ refl (λ (n : ℕ). n) (λ (n : ℕ). refl) _ (section_told k v c.requires.seated c.args.section _ at) refl (λ xs. refl) (λ n. tt) v c.requires.seated,
    )

pub returns-clause-grown : goal.returns-clause-grown
returns-clause-grown g c =
    let k = setup_in c.args.self.now in
    let v = parts_of_seat c.args.seat.now in
    let at = at_place _ _ c.args.self.now.areas_are _ (Section c.args.section) c.requires.there.0 _ c.place_from-place.ensures.place in
    beside_told g.C.ThreadCode.state g.C.ThreadCode.code k v _ (LookSection c.args.section) _ (section_told k v c.requires.seated c.args.section _ at) c.load.result _ c.load.ensures.2

pub returns-clause-in_run : goal.returns-clause-in_run
returns-clause-in_run g c =
    beside_runs g.C.ThreadCode.state g.C.ThreadCode.code (setup_in c.args.self.now) (parts_of_seat c.args.seat.now) _ _ c.requires.seated c.load.result _ c.load.ensures.2
