use Rattle.std.proofs.Common.{◌≡◌, rules, refl, sym, ap, ◌∙◌, ℕ, ◌==◌}
use prog.Atomic.{either}
use Rattle.section_state.specs.SectionWord.{revoke_of}
use Rattle.heap_words.specs.declared.areas.Area.TheVariants.{Section}
use Rattle.step_port.specs.declared.step.Step.TheVariants.{BreakLevel}
use Rattle.table_words.specs.Tables.{setup_in, parts_of_seat}
use Rattle.table_words.proofs.Allows.{at_place, there_in, beside_allowed}
use Rattle.table_words.proofs.Tells.{level_told, beside_told, beside_runs}
use Rattle.table_words.proofs.table.TableWords.break_level.Goals as goal

pub compare_exchange-requires : goal.compare_exchange-requires
compare_exchange-requires g c =
    let k = setup_in c.args.self.now in
    let v = parts_of_seat c.args.seat.now in
    let at = at_place _ _ c.args.self.now.areas_are _ (Section c.args.section) c.requires.there.0 _ c.place_from-place.ensures.place in
    let level : revoke_of c.revoked_to-word.result ≡ c.args.level = ap revoke_of c.revoked_to-word.ensures ∙ (c.levels_are_revoked.ensures c.args.old c.args.level c.ranges.level.fits).1.5 in (
      search rules,
      search rules,
      beside_allowed g.C.ThreadCode.state g.C.ThreadCode.code k _ _ _ (BreakLevel c.args.section c.args.old c.args.level)
          (there_in _ _ c.args.self.now.areas_are _ (Section c.args.section) c.requires.there.0 c.requires.there.1) _ at
          _ (ap (λ w. λ n. either (n == c.args.old) w n) (sym c.revoked_to-word.ensures)) (λ (n : ℕ). n) (λ (n : ℕ). refl)
          _ (level_told k v c.requires.seated c.args.section _ c.args.old c.args.level _ at level) c.requires.lawful (λ xs. refl) (λ n. tt) v c.requires.seated,
    )

pub returns-clause-grown : goal.returns-clause-grown
returns-clause-grown g c =
    let k = setup_in c.args.self.now in
    let v = parts_of_seat c.args.seat.now in
    let at = at_place _ _ c.args.self.now.areas_are _ (Section c.args.section) c.requires.there.0 _ c.place_from-place.ensures.place in
    let level : revoke_of c.revoked_to-word.result ≡ c.args.level = ap revoke_of c.revoked_to-word.ensures ∙ (c.levels_are_revoked.ensures c.args.old c.args.level c.ranges.level.fits).1.5 in
    beside_told g.C.ThreadCode.state g.C.ThreadCode.code k v _ (BreakLevel c.args.section c.args.old c.args.level) _
    (level_told k v c.requires.seated c.args.section _ c.args.old c.args.level _ at level) c.compare_exchange.result _ c.compare_exchange.ensures.2

pub returns-clause-in_run : goal.returns-clause-in_run
returns-clause-in_run g c =
    beside_runs g.C.ThreadCode.state g.C.ThreadCode.code (setup_in c.args.self.now) (parts_of_seat c.args.seat.now) _ _ c.requires.seated c.compare_exchange.result _ c.compare_exchange.ensures.2
