use Rattle.std.proofs.Common.{◌≡◌, sym, ap, arith, below_more, ◌∙◌}
use Rattle.type_rules.specs.Assignable.{is_same_type, are_same_types}
use Rattle.type_lists.specs.Store.{word_at}
use Rattle.type_lists.specs.Shown.{stack_words}
use Rattle.typing_frames.proofs.SameLaws.{depths_apart, stack_all, stack_apart}
use Rattle.typing_frames.proofs.same.are_same_stacks.Goals as goal

pub returns-then-a-b : goal.returns-then-a-b
returns-then-a-b c =
    let store = c.args.stores.now.stacks in
    sym (depths_apart (word_at store c.args.a.stack) (word_at store c.args.b.stack) c.args.a.depth c.args.b.depth c.if-a-b.true)

pub returns-then-not-is_same_type : goal.returns-then-not-is_same_type
returns-then-not-is_same_type c =
    let store = c.args.stores.now.stacks in
    let a = word_at store c.args.a.stack in
    let b = word_at store c.args.b.stack in
    let same : c.args.a.depth ≡ c.args.b.depth = omega (arith, c.if-a-b.false) in
    sym (stack_apart a b c.args.a.depth c.loop-at.at (omega (arith, c.loop-at-test.true))
    (ap (λ w. is_same_type w (b c.loop-at.at)) (sym c.word.ensures) ∙ ap (λ w. is_same_type c.word.result w) (sym c.word-in-loop-at.ensures)
    ∙ sym c.is_same_type.ensures ∙ c.if-not-is_same_type.true))
    ∙ ap (λ d. are_same_types (stack_words a c.args.a.depth) (stack_words b d)) same

pub loop-at-preserved : goal.loop-at-preserved
loop-at-preserved c =
    let b = word_at c.args.stores.now.stacks c.args.b.stack in
    below_more _ _ c.loop-at.invariant
    (ap (λ w. is_same_type w (b c.loop-at.at)) (sym c.word.ensures) ∙ ap (λ w. is_same_type c.word.result w) (sym c.word-in-loop-at.ensures)
    ∙ sym c.is_same_type.ensures ∙ c.if-not-is_same_type.false)

pub returns : goal.returns
returns c =
    let store = c.args.stores.now.stacks in
    let a = word_at store c.args.a.stack in
    let b = word_at store c.args.b.stack in
    let same : c.args.a.depth ≡ c.args.b.depth = omega (arith, c.if-a-b.false) in
    sym (stack_all a b c.args.a.depth (λ n h. c.loop-at.invariant n (omega (arith, h, c.loop-at-test.false))))
    ∙ ap (λ d. are_same_types (stack_words a c.args.a.depth) (stack_words b d)) same
