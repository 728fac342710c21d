use Rattle.std.proofs.Common.{sym, ◌∙◌}
use Rattle.std.proofs.lemmas.Map.Text.{btree_map_updates_str}
use Rattle.named_types.specs.Others.{place_in}
use Rattle.named_types.proofs.PlaceLaws.{put_new}
use Rattle.named_types.proofs.others.ClassNames.put.Goals as goal

pub returns-in_ok-insert-in-None-clause-places : goal.returns-in_ok-insert-in-None-clause-places
returns-in_ok-insert-in-None-clause-places c =
    let changes = btree_map_updates_str c.args.name.now c.args.self.now.places c.insert.new.self _ c.in_ok-insert-in-None.ensures.updates in
    put_new (place_in c.args.self.now.places) (place_in c.insert.new.self) c.args.name.now c.args.self.now.count changes (sym c.find.ensures ∙ c.in-None.is)
