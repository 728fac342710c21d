use Rattle.link_rules.specs.Classes.{class_name_at}
use Rattle.class_supers.specs.Numbers.{number_named}
use Rattle.class_supers.proofs.HeaderLaws.{map_next}
use Rattle.class_supers.proofs.headers.class_numbers_at.Goals as goal

pub loop-index-preserved : goal.loop-index-preserved
loop-index-preserved c =
    map_next (λ at. number_named c.args.numbers.now (class_name_at c.args.pool.now at)) c.args.indices.now c.loop-index.index-index _ _ _
    c.loop-index-test.true c.loop-index.invariant c.in_ok-push.ensures.items
    (c.class_number_at.ensures (number_named c.args.numbers.now) c.requires c.number-unnamed.ensures)
