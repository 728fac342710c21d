use Rattle.std.proofs.Common.{◌<◌, ◌≤◌, ◌++◌, [], ◌∷◌, List, ℕ, length, take, sym, ap, ◌∙◌, arith}
use Rattle.std.proofs.lemmas.List.{take_all}
use Rattle.link_types.specs.declared.operands.Layout.{Layout}
use Rattle.link_rules.specs.FixedObjects.{class_object_at_start}
use Rattle.link_rules.specs.Names.{program_names}
use Rattle.java_machine.proofs.ObjectLaws.{class_words_count, word_next}
use Rattle.java_machine.proofs.objects.class_words.Goals as goal

pub loop-place-preserved : goal.loop-place-preserved
loop-place-preserved c =
    let us = c.args.world.now in
    let words : List ℕ = (class_object_at_start (program_names us) us c.args.class).words in
    let place = c.loop-place.place in
    let many = class_words_count us c.args.class c.requires.some c.requires.there in
    let same = ap (λ (l : Layout). l.static_words) c.layout-place-end.ensures in
    let within : place < length words = omega (arith, many, same, c.loop-place-test.true) in
    c.in_ok-push.ensures.ok ∙ ap (λ xs. xs ++ c.static_value.result ∷ []) c.loop-place.invariant
    ∙ ap (λ x. take place words ++ x ∷ []) c.static_value.ensures ∙ sym (word_next words place within)

pub returns : goal.returns
returns c =
    let us = c.args.world.now in
    let words : List ℕ = (class_object_at_start (program_names us) us c.args.class).words in
    let many = class_words_count us c.args.class c.requires.some c.requires.there in
    let same = ap (λ (l : Layout). l.static_words) c.layout-place-end.ensures in
    let all : length words ≤ c.loop-place.place = omega (arith, many, same, c.loop-place-test.false) in
    c.loop-place.invariant ∙ take_all c.loop-place.place words all
