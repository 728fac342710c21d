use Rattle.builtin_world.specs.BuiltinClass.{shown_field}
use Rattle.link_rules.specs.Classes.{library_field}
use Rattle.member_lookup.proofs.RowLaws.{rows_more}
use Rattle.member_lookup.proofs.rows_of.builtin_field_rows.Goals as goal

pub loop-place-preserved : goal.loop-place-preserved
loop-place-preserved c =
    rows_more c.args.texts.now.texts c.args.class (λ m. library_field (shown_field m)) c.args.fields.now c.loop-place.place _ c.loop-place.rows.items c.push.new.self.items c.in_ok-row.row c.loop-place-test.true c.loop-place.invariant c.in_ok-push.ensures.items c.in_ok-row.ensures
