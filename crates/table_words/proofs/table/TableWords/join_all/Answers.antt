use Rattle.std.proofs.Common.{ap, sym, ◌∙◌, ◌++◌, append_assoc}
use Rattle.table_words.specs.Tables.{parts_of_seat, parts_of_seats}
use Rattle.table_words.proofs.Splits.{parts_of_seats-snoc}
use Rattle.table_words.proofs.table.TableWords.join_all.Goals as goal

pub loop-other-preserved : goal.loop-other-preserved
loop-other-preserved g c =
    let was = c.loop-other.invariant in
    let first = parts_of_seat c.args.first in
    let other = c.in-Some.other in (
      c.join.ensures.seat,
      c.join.ensures.both ∙ ap (λ ps. ps ++ parts_of_seat other) was.1 ∙ append_assoc first (parts_of_seats c.loop-other.yielded) (parts_of_seat other)
          ∙ ap (λ ps. first ++ ps) (sym (parts_of_seats-snoc c.loop-other.yielded other)),
    )
