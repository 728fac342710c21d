use Rattle.std.proofs.Common.{◌∙◌, ap}
use Rattle.class_read.specs.declared.class_file.Member.{Member}
use Rattle.link_rules.specs.Classes.{member_of_file}
use Rattle.member_lookup.specs.Rows.{row_of}
use Rattle.member_lookup.proofs.RowLaws.{rows_more}
use Rattle.member_lookup.proofs.rows_of.file_rows.Goals as goal

pub loop-place-preserved : goal.loop-place-preserved
loop-place-preserved c = λ u there.
    let ts = c.args.texts.now.texts in
    let f = member_of_file u.file.pool in
    rows_more ts c.args.class f c.args.members.now c.loop-place.place c.index-members-place.result c.loop-place.rows.items c.push.new.self.items c.in_ok-file_row.field-0 c.loop-place-test.true (c.loop-place.invariant u there) c.in_ok-push.ensures.items
    (c.in_ok-file_row.ensures u there ∙ ap (λ (m : Member). row_of ts c.args.class c.loop-place.place (f m)) c.index-members-place.is)
