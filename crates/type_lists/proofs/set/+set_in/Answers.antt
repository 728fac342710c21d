use Rattle.std.proofs.Common.{◌≡◌, suc, ◌-◌, ◌/◌, ◌%◌, ◌<◌, arith, sym, ap, subst, ◌∙◌}
use Rattle.type_lists.specs.Parts.{child_at, room}
use Rattle.type_lists.specs.Trees.{IsTree, IsSet, Touches}
use Rattle.type_lists.proofs.PartLaws.{most_more, some_parts}
use Rattle.type_lists.proofs.SetLaws.{on_three, rest_small, digit_below}
use Rattle.type_lists.proofs.TreeLaws.{child_tree, child_touches, node_touches, node_set}
use Rattle.type_lists.proofs.set.+set_in.Goals as goal

pub set_in-requires : goal.set_in-requires
set_in-requires t c =
    let p0 = c.args.parts.now.items in
    let k = c.args.height - 1 in
    let digit = c.args.place / c.room_of-room.result in
    let e : suc (c.args.height - 1) ≡ c.args.height = omega (arith, c.if-height-eq0.false) in
    let below : c.child-below.result ≡ child_at p0 c.args.part digit = c.child-below.ensures ∙ ap (λ ps. child_at ps c.args.part digit) c.deref.ensures.value in (
      omega (arith, c.decreases, c.if-height-eq0.false),
      (
        c.requires.closed,
        (
          c.requires.marked,
          (
            c.requires.closed_kept,
            (
              c.requires.within,
              (
                omega (arith, below, c.requires.closed c.args.part digit c.requires.list),
                (
                  subst (λ x. IsTree p0 c.args.kept k x) (sym below) (child_tree p0 c.args.kept k c.args.part digit c.requires.closed_kept (subst (λ x. IsTree p0 c.args.kept x c.args.part) (sym e) c.requires.tree)),
                  (
                    omega (arith, c.requires.low),
                    subst (λ r. c.args.place % r < room k) (sym c.room_of-room.ensures.room) (rest_small k c.args.place),
                  ),
                ),
              ),
            ),
          ),
        ),
      ),
    )

pub returns-in_err-made-clause-touches : goal.returns-in_err-made-clause-touches
returns-in_err-made-clause-touches t c =
    let p0 = c.args.parts.now.items in
    let p1 = c.set_in.new.parts.items in
    let digit = c.args.place / c.room_of-room.result in
    let e : suc (c.args.height - 1) ≡ c.args.height = omega (arith, c.if-height-eq0.false) in
    let below : c.child-below.result ≡ child_at p0 c.args.part digit = c.child-below.ensures ∙ ap (λ ps. child_at ps c.args.part digit) c.deref.ensures.value in
    subst (λ x. Touches p0 p1 c.args.kept x c.args.part) e
    (child_touches p0 p1 c.args.kept (c.args.height - 1) c.args.part digit c.requires.closed_kept
    (subst (λ x. Touches p0 p1 c.args.kept (c.args.height - 1) x) below c.set_in.ensures.touches))

pub returns-clause-touches : goal.returns-clause-touches
returns-clause-touches t c =
    let p0 = c.args.parts.now.items in
    let p1 = c.set_in.new.parts.items in
    let p2 = c.node_with.new.parts.items in
    let digit = c.args.place / c.room_of-room.result in
    let e : suc (c.args.height - 1) ≡ c.args.height = omega (arith, c.if-height-eq0.false) in
    let below : c.child-below.result ≡ child_at p0 c.args.part digit = c.child-below.ensures ∙ ap (λ ps. child_at ps c.args.part digit) c.deref.ensures.value in
    subst (λ x. Touches p0 p2 c.args.kept x c.args.part) e
    (node_touches p0 p1 p2 c.args.kept (c.args.height - 1) c.args.part
    (child_touches p0 p1 c.args.kept (c.args.height - 1) c.args.part digit c.requires.closed_kept
    (subst (λ x. Touches p0 p1 c.args.kept (c.args.height - 1) x) below c.set_in.ensures.touches))
    c.node_with.ensures.others)

pub returns-clause-set : goal.returns-clause-set
returns-clause-set t c =
    let p0 = c.args.parts.now.items in
    let p1 = c.set_in.new.parts.items in
    let p2 = c.node_with.new.parts.items in
    let k = c.args.height - 1 in
    let digit = c.args.place / c.room_of-room.result in
    let rest = c.args.place % c.room_of-room.result in
    let made = c.in_ok-made.made in
    let e : suc (c.args.height - 1) ≡ c.args.height = omega (arith, c.if-height-eq0.false) in
    let below : c.child-below.result ≡ child_at p0 c.args.part digit = c.child-below.ensures ∙ ap (λ ps. child_at ps c.args.part digit) c.deref.ensures.value in
    let tree = subst (λ x. IsTree p0 c.args.kept x c.args.part) (sym e) c.requires.tree in
    let first = subst (λ x. Touches p0 p1 c.args.kept k x) below c.set_in.ensures.touches in
    let set = subst (λ x. IsSet p0 p1 c.args.kept k x made rest c.args.word) below c.in_ok-made.ensures.set in
    on_three _ _ _ _ c.node_with.result
    (λ node list which children.
    subst (λ x. IsSet p0 p2 c.args.kept x c.args.part node c.args.place c.args.word) e
    (node_set p0 p1 p2 c.args.kept k c.args.part c.args.place digit rest made node c.args.word (ap (λ r. c.args.place / r) c.room_of-room.ensures.room) (ap (λ r. c.args.place % r) c.room_of-room.ensures.room) tree c.requires.closed c.set_in.ensures.closed
    c.requires.closed_kept c.requires.within c.requires.list first set children which c.node_with.ensures.others list))
    c.node_with.ensures.list c.node_with.ensures.which c.node_with.ensures.children

pub node_with-requires-clause-digit : goal.node_with-requires-clause-digit
node_with-requires-clause-digit t c =
    subst (λ r. c.args.place / r < 32) (sym c.room_of-room.ensures.room) (digit_below c.args.height c.args.place c.if-height-eq0.false c.requires.place)

pub returns-clause-few : goal.returns-clause-few
returns-clause-few t c = omega (arith, c.set_in.ensures.few, c.node_with.ensures.one, most_more c.args.height c.if-height-eq0.false, some_parts (c.args.height - 1))
