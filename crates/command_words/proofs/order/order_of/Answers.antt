use Rattle.std.proofs.Common.{◌≡◌, ◌∷◌, [], ap, ◌∙◌, rules}
use Rattle.command_words.specs.Cut.{pieces}
use Rattle.command_words.proofs.CutLaws.{pieces-cut, pieces_of}
use Rattle.command_words.proofs.OrderLaws.{read-usage, read-more, read-end}
use Rattle.command_words.proofs.order.order_of.Goals as goal

pub returns-in_err-push_item-clause-usage : goal.returns-in_err-push_item-clause-usage
returns-in_err-push_item-clause-usage c = λ usage.
    let rest = c.loop-item.rest.now in
    let are : pieces 44 rest ≡ c.in-Some.item.now ∷ pieces 44 c.in-Some.behind.now = pieces-cut 44 rest ∙ ap (pieces_of 44 rest) c.in-Some.ensures in
    read-usage c.args.text.now _ rest _ _ c.loop-item.invariant are (c.in_err-push_item.ensures.usage (search rules))

pub loop-item-preserved : goal.loop-item-preserved
loop-item-preserved c =
    let rest = c.loop-item.rest.now in
    let are : pieces 44 rest ≡ c.in-Some.item.now ∷ pieces 44 c.in-Some.behind.now = pieces-cut 44 rest ∙ ap (pieces_of 44 rest) c.in-Some.ensures in
    let pushed = c.in_ok-push_item.ensures.pushed in
    rw pushed.2 (read-more c.args.text.now _ rest _ _ pushed.0 c.loop-item.invariant are pushed.1)

pub returns-in_err-push_item-2-clause-usage : goal.returns-in_err-push_item-2-clause-usage
returns-in_err-push_item-2-clause-usage c = λ usage.
    let rest = c.loop-item.rest.now in
    let are : pieces 44 rest ≡ rest ∷ [] = pieces-cut 44 rest ∙ ap (pieces_of 44 rest) c.in_default.ensures in
    read-usage c.args.text.now _ rest _ _ c.loop-item.invariant are (c.in_err-push_item-2.ensures.usage (search rules))

pub returns-clause-found : goal.returns-clause-found
returns-clause-found c =
    let rest = c.loop-item.rest.now in
    let are : pieces 44 rest ≡ rest ∷ [] = pieces-cut 44 rest ∙ ap (pieces_of 44 rest) c.in_default.ensures in
    let pushed = c.in_ok-push_item-2.ensures.pushed in
    rw pushed.2 (read-end c.args.text.now _ rest pushed.0 c.loop-item.invariant are pushed.1 pushed.3)
