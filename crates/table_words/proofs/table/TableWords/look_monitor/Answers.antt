use Rattle.std.proofs.Common.{rules, refl, ◌+◌, ℕ}
use Rattle.heap_words.specs.declared.areas.Area.TheVariants.{Object}
use Rattle.step_port.specs.declared.step.Step.TheVariants.{LookMonitor}
use Rattle.table_words.specs.Tables.{setup_in, parts_of_seat}
use Rattle.table_words.proofs.Allows.{at_place, there_in, beside_allowed}
use Rattle.table_words.proofs.Tells.{monitor_told, beside_told, beside_runs}
use Rattle.table_words.proofs.table.TableWords.look_monitor.Goals as goal

pub load-requires : goal.load-requires
load-requires g c =
    let k = setup_in c.args.self.now in
    let v = parts_of_seat c.args.seat.now in
    let at = at_place _ _ c.args.self.now.areas_are _ (Object (c.args.object + 1)) c.requires.there.0 _ c.place_from-place.ensures.place in (
      search rules,
      search rules,
      beside_allowed g.C.ThreadCode.state g.C.ThreadCode.code k _ _ _ (LookMonitor c.args.object) (there_in _ _ c.args.self.now.areas_are _ (Object (c.args.object + 1)) c.requires.there.0 c.requires.there.1) _ at
          _ refl (λ (n : ℕ). n) (λ (n : ℕ). refl) _ (monitor_told k v c.requires.seated c.args.object _ at) refl (λ xs. refl) (λ n. tt) v c.requires.seated,
    )

pub returns-clause-grown : goal.returns-clause-grown
returns-clause-grown g c =
    let k = setup_in c.args.self.now in
    let v = parts_of_seat c.args.seat.now in
    let at = at_place _ _ c.args.self.now.areas_are _ (Object (c.args.object + 1)) c.requires.there.0 _ c.place_from-place.ensures.place in
    beside_told g.C.ThreadCode.state g.C.ThreadCode.code k v _ (LookMonitor c.args.object) _ (monitor_told k v c.requires.seated c.args.object _ at) c.load.result _ c.load.ensures.2

pub returns-clause-in_run : goal.returns-clause-in_run
returns-clause-in_run g c =
    beside_runs g.C.ThreadCode.state g.C.ThreadCode.code (setup_in c.args.self.now) (parts_of_seat c.args.seat.now) _ _ c.requires.seated c.load.result _ c.load.ensures.2
