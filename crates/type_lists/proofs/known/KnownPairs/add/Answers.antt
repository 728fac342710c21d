use Rattle.std.proofs.Common.{inl, inr}
use Rattle.type_lists.proofs.ComparedLaws.{inserted}
use Rattle.type_lists.proofs.known.KnownPairs.add.Goals as goal

pub returns : goal.returns
returns c = λ h l g known.
    elim (inserted c.make_room.new.self.pairs c.insert.new.self c.args.height c.args.low c.args.high c.in_ok-insert.ensures.updates.0 h l g known) [
      | inl before ↦ inl (c.make_room.ensures h l g before)
      | inr here ↦ inr here
    ]
