use Rattle.std.proofs.Common.{ℕ, refl, arith, ap, ◌∙◌}
use Rattle.type_rules.specs.declared.types.VerificationType.{VerificationType}
use Rattle.type_lists.specs.Parts.{with_word}
use Rattle.type_lists.proofs.StoreLaws.{is_list, list_is, list_tree, follows_more, remembers_on, touched_same, kept_same, same_closed, set_words}
use Rattle.type_lists.proofs.store.WordStore.set.Goals as goal

pub set_in-requires-clause-list : goal.set_in-requires-clause-list
set_in-requires-clause-list c = list_is c.give_back_before.new.self c.args.words c.in_ok-give_back_before.ensures.list

pub set_in-requires-clause-tree : goal.set_in-requires-clause-tree
set_in-requires-clause-tree c = list_tree c.give_back_before.new.self c.args.words c.in_ok-give_back_before.ensures.list

pub set_in-requires-clause-place : goal.set_in-requires-clause-place
set_in-requires-clause-place c = omega (arith, c.requires.place, c.in_ok-give_back_before.ensures.follows.most, c.give_back_before.new.self.fits)

pub returns-in_err-root-clause-follows : goal.returns-in_err-root-clause-follows
returns-in_err-root-clause-follows c =
    let old = c.give_back_before.new.self in
    follows_more c.args.self.now old _ c.in_ok-give_back_before.ensures.follows refl refl refl (omega arith) (omega arith)
    (touched_same old c.set_in.new.parts.items old.height c.args.words.root c.set_in.ensures.touches)

pub returns-in_err-root-clause-remembered : goal.returns-in_err-root-clause-remembered
returns-in_err-root-clause-remembered c = λ h before.
    let old = c.give_back_before.new.self in
    remembers_on h old _ refl (omega arith) (touched_same old c.set_in.new.parts.items old.height c.args.words.root c.set_in.ensures.touches)
    (c.in_ok-give_back_before.ensures.remembered h before)

pub returns-clause-follows : goal.returns-clause-follows
returns-clause-follows c =
    let old = c.give_back_before.new.self in
    follows_more c.args.self.now old _ c.in_ok-give_back_before.ensures.follows refl refl refl (omega arith) (omega arith)
    (touched_same old c.set_in.new.parts.items old.height c.args.words.root c.set_in.ensures.touches)

pub returns-clause-remembered : goal.returns-clause-remembered
returns-clause-remembered c = λ h before.
    let old = c.give_back_before.new.self in
    remembers_on h old _ refl (omega arith) (touched_same old c.set_in.new.parts.items old.height c.args.words.root c.set_in.ensures.touches)
    (c.in_ok-give_back_before.ensures.remembered h before)

pub returns-clause-list : goal.returns-clause-list
returns-clause-list c = is_list _ _ c.in_ok-root.ensures.set.list c.in_ok-root.ensures.set.tree

pub returns-clause-words : goal.returns-clause-words
returns-clause-words c =
    let old = c.give_back_before.new.self in
    set_words old _ c.args.words _ c.args.at c.args.word refl (omega (arith, c.requires.place, c.in_ok-give_back_before.ensures.follows.most, old.fits)) c.in_ok-root.ensures.set.words
    ∙ ap {B = ℕ → VerificationType} (λ (f : ℕ → VerificationType). with_word f c.args.at c.args.word) c.in_ok-give_back_before.ensures.words

pub invariant_of-self : goal.invariant_of-self
invariant_of-self c =
    let old = c.give_back_before.new.self in
    let same = touched_same old c.set_in.new.parts.items old.height c.args.words.root c.set_in.ensures.touches in
    record {
      closed = c.set_in.ensures.closed;
      closed_kept = same_closed old.parts.items c.set_in.new.parts.items old.kept (kept_same old c.set_in.new.parts.items same) old.closed_kept;
      closed_fixed = same_closed old.parts.items c.set_in.new.parts.items old.fixed same old.closed_fixed;
      marked = c.set_in.ensures.marked;
      kept_fixed = old.kept_fixed;
      within = omega (arith, old.within, c.set_in.ensures.touches.0);
      low = old.low;
      fits = old.fits;
    }
