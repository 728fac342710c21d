use Rattle.std.proofs.Common.{◌≡◌, length, refl, sym, ◌∙◌, ap, subst, arith}
use Rattle.std.proofs.lemmas.List.{length-take-le}
use Rattle.type_lists.specs.Marks.{AreMarked}
use Rattle.type_lists.specs.Parts.{IsClosed}
use Rattle.type_lists.proofs.TreeLaws.{kept_tree}
use Rattle.type_lists.proofs.MarkLaws.{fewer_marked}
use Rattle.type_lists.proofs.StoreLaws.{cut_stays, follows_given, is_list, marked_is, remembers_none, same_closed, same_words}
use Rattle.type_lists.proofs.store.WordStore.give_back_before.Goals as goal
use Rattle.type_lists.proofs.store.WordStore.give_back_before.Goals.{then-self-words-via-then-self-words, then-self-words-via-else-self-words+then-others-max}

pub returns-then-self-words-clause-few : goal.returns-then-self-words-clause-few
returns-then-self-words-clause-few c = λ marked. elim c.then-self-words.branch [
  | then-self-words-via-then-self-words w ↦ absurd (omega (arith, w.if-self-words.true, marked_is c.args.self.now c.args.words marked))
  | then-self-words-via-else-self-words+then-others-max w ↦ omega (arith, w.if-others-max.true, w.max.ensures, c.len.ensures)
]

pub invariant_of-self : goal.invariant_of-self
invariant_of-self c =
    let old = c.args.self.now in
    let parts = c.truncate.new.self.items in
    let same = cut_stays old.parts.items parts old.kept c.truncate.ensures.items in
    let count : length parts ≡ old.kept = ap length c.truncate.ensures.items ∙ length-take-le old.kept old.parts.items (omega (arith, old.kept_fixed, old.within)) in
    let closed = same_closed old.parts.items parts old.kept same old.closed_kept in
    record {
      closed = subst (IsClosed parts) (sym count) closed;
      closed_kept = closed;
      closed_fixed = closed;
      marked = subst (λ ps. AreMarked ps old.marks.items) (sym c.truncate.ensures.items) (fewer_marked old.parts.items old.marks.items old.kept old.marked);
      kept_fixed = omega arith;
      within = omega (arith, count);
      low = old.low;
      fits = old.fits;
    }

pub returns-clause-follows : goal.returns-clause-follows
returns-clause-follows c =
    let old = c.args.self.now in
    follows_given old _ refl refl refl (omega (arith, c.in-Some.ensures.1)) (cut_stays old.parts.items c.truncate.new.self.items old.kept c.truncate.ensures.items)

pub returns-clause-remembered : goal.returns-clause-remembered
returns-clause-remembered c = λ h _. remembers_none h _ c.forget.ensures

pub returns-clause-list : goal.returns-clause-list
returns-clause-list c =
    let old = c.args.self.now in
    let parts = c.truncate.new.self.items in
    let count : length parts ≡ old.kept = ap length c.truncate.ensures.items ∙ length-take-le old.kept old.parts.items (omega (arith, old.kept_fixed, old.within)) in
    is_list _ _ (omega (arith, count, c.if-self-words.false)) (kept_tree parts old.kept old.height c.args.words.root (omega (arith, c.if-self-words.false)))

pub returns-clause-words : goal.returns-clause-words
returns-clause-words c =
    let old = c.args.self.now in
    same_words old _ old.kept c.args.words refl old.closed_kept (cut_stays old.parts.items c.truncate.new.self.items old.kept c.truncate.ensures.items) (omega (arith, c.if-self-words.false))
