use Rattle.std.proofs.Common.{◌+◌, length, refl}
use Rattle.std.proofs.lemmas.Option.{slice_get_read}
use Rattle.class_layout.proofs.ObjectLaws.{places_more}
use Rattle.class_layout.proofs.objects.place_objects.Goals as goal

pub loop-row-preserved : goal.loop-row-preserved
loop-row-preserved c =
    let rows = c.args.rows.now in
    let r = c.row-item.result in
    let at = slice_get_read rows (length rows) c.loop-row.row-index r refl c.loop-row-test.true c.row-item.is in
    let few = rw (← c.row-item.is) at (c.requires.small c.loop-row.row-index r c.loop-row-test.true) in
    places_more rows c.loop-row.row-index r c.loop-row.objects.items c.push.new.self.items c.loop-row.behind (c.loop-row.behind + (2 + r.static_words)) at few c.loop-row.invariant c.in_ok-push.ensures.items refl
