use Rattle.std.proofs.Common.{ℕ, refl, arith, ap, ◌∙◌}
use Rattle.type_rules.specs.declared.types.VerificationType.{VerificationType}
use Rattle.type_lists.specs.Parts.{replaced_type}
use Rattle.type_lists.proofs.TreeLaws.{kept_tree}
use Rattle.type_lists.proofs.StoreLaws.{is_list, list_is, follows_more, remembers_on, grown_same, replaced_words}
use Rattle.type_lists.proofs.store.WordStore.replaced.Goals as goal

pub replaced_in-made-requires-clause-list : goal.replaced_in-made-requires-clause-list
replaced_in-made-requires-clause-list c = list_is c.give_back_before.new.self c.args.words c.in_ok-give_back_before.ensures.list

pub returns-in_err-made-clause-follows : goal.returns-in_err-made-clause-follows
returns-in_err-made-clause-follows c =
    let old = c.give_back_before.new.self in
    follows_more c.args.self.now old _ c.in_ok-give_back_before.ensures.follows refl refl refl (omega arith) (omega (arith, c.len-self.ensures, old.within, c.replaced_in-made.ensures.grows.0))
    (grown_same old c.replaced_in-made.new.parts.items c.replaced_in-made.ensures.grows)

pub returns-in_err-made-clause-remembered : goal.returns-in_err-made-clause-remembered
returns-in_err-made-clause-remembered c = λ h before.
    let old = c.give_back_before.new.self in
    remembers_on h old _ refl (omega (arith, c.len-self.ensures, old.within, c.replaced_in-made.ensures.grows.0)) (grown_same old c.replaced_in-made.new.parts.items c.replaced_in-made.ensures.grows)
    (c.in_ok-give_back_before.ensures.remembered h before)

pub returns-clause-follows : goal.returns-clause-follows
returns-clause-follows c =
    let old = c.give_back_before.new.self in
    follows_more c.args.self.now old _ c.in_ok-give_back_before.ensures.follows refl refl refl (omega arith) (omega (arith, c.len-self.ensures, old.within, c.replaced_in-made.ensures.grows.0))
    (grown_same old c.replaced_in-made.new.parts.items c.replaced_in-made.ensures.grows)

pub returns-clause-remembered : goal.returns-clause-remembered
returns-clause-remembered c = λ h before.
    let old = c.give_back_before.new.self in
    remembers_on h old _ refl (omega (arith, c.len-self.ensures, old.within, c.replaced_in-made.ensures.grows.0)) (grown_same old c.replaced_in-made.new.parts.items c.replaced_in-made.ensures.grows)
    (c.in_ok-give_back_before.ensures.remembered h before)

pub returns-clause-list : goal.returns-clause-list
returns-clause-list c =
    let parts = c.replaced_in-made.new.parts.items in
    is_list _ _ c.in_ok-made.ensures.list (kept_tree parts c.len-self.result c.give_back_before.new.self.height c.in_ok-made.field-0 (omega (arith, c.len-self.ensures, c.in_ok-made.ensures.list)))

pub returns-clause-words : goal.returns-clause-words
returns-clause-words c =
    replaced_words c.give_back_before.new.self _ c.args.words _ c.args.old c.args.new refl c.requires.old c.in_ok-made.ensures.words
    ∙ ap {B = ℕ → VerificationType} (λ (f : ℕ → VerificationType) n. replaced_type c.args.old c.args.new (f n)) c.in_ok-give_back_before.ensures.words
