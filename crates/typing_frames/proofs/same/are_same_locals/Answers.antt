use Rattle.std.proofs.Common.{sym, ap, arith, below_more, ◌∙◌}
use Rattle.type_rules.specs.Assignable.{is_same_type}
use Rattle.type_lists.specs.Store.{word_at}
use Rattle.typing_frames.proofs.SameLaws.{first_all, first_apart}
use Rattle.typing_frames.proofs.same.are_same_locals.Goals as goal

pub returns-then-not-is_same_type : goal.returns-then-not-is_same_type
returns-then-not-is_same_type c =
    let store = c.args.stores.now.locals in
    let b = word_at store c.args.b.locals in
    let size = c.requires in
    sym (first_apart (word_at store c.args.a.locals) b store.most c.loop-at.at (omega (arith, c.loop-at-test.true, size, c.from-at-end.ensures))
    (ap (λ w. is_same_type w (b c.loop-at.at)) (sym c.word.ensures) ∙ ap (λ w. is_same_type c.word.result w) (sym c.word-in-loop-at.ensures)
    ∙ sym c.is_same_type.ensures ∙ c.if-not-is_same_type.true))

pub loop-at-preserved : goal.loop-at-preserved
loop-at-preserved c =
    let b = word_at c.args.stores.now.locals c.args.b.locals in
    below_more _ _ c.loop-at.invariant
    (ap (λ w. is_same_type w (b c.loop-at.at)) (sym c.word.ensures) ∙ ap (λ w. is_same_type c.word.result w) (sym c.word-in-loop-at.ensures)
    ∙ sym c.is_same_type.ensures ∙ c.if-not-is_same_type.false)

pub returns : goal.returns
returns c =
    let store = c.args.stores.now.locals in
    let size = c.requires in
    sym (first_all (word_at store c.args.a.locals) (word_at store c.args.b.locals) store.most
    (λ n h. c.loop-at.invariant n (omega (arith, h, c.loop-at-test.false, size, c.from-at-end.ensures))))
