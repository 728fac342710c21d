use Rattle.std.proofs.Common.{subst}
use Rattle.type_lists.specs.Parts.{room, word_of}
use Rattle.type_lists.specs.Differ.{FirstWithin}
use Rattle.type_lists.proofs.DifferLaws.{first_of_lists}
use Rattle.type_lists.proofs.store.WordStore.next_difference.Goals as goal

pub returns : goal.returns
returns c =
    let store = c.args.self.now in
    first_of_lists store c.args.before c.args.after c.args.from c.part_difference.result
    (subst (λ ps. FirstWithin (word_of ps store.height c.args.before.root) (word_of ps store.height c.args.after.root) c.args.from (room store.height) c.part_difference.result) c.deref.ensures.value c.part_difference.ensures)
