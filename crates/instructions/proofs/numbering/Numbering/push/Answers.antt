use Rattle.std.proofs.Common.{◌≢◌}
use Rattle.std.specs.List.{All}
use Rattle.instructions.proofs.NumberingLaws.{AreNumbersOf-push}
use Rattle.instructions.proofs.numbering.Numbering.push.Goals as goal

pub invariant_of-self-2 : goal.invariant_of-self-2
invariant_of-self-2 c =
    let apart : All (λ k. k ≢ c.args.key) c.self.inside.keys.items = rw c.self.view_is c.requires.apart in
    rw (c.in_ok-push.ensures.items, c.len-number.ensures, c.self.inside.keys.ok.0)
    (AreNumbersOf-push c.self.inside.keys.items c.self.inside.numbers.items c.make_room.new.numbers.items c.args.key c.self.invariant c.in_ok-make_room.ensures.same apart c.in_ok-make_room.ensures.room)
