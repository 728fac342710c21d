use Rattle.std.proofs.Common.{◌≡◌, length, vec_len, sym, ◌∙◌, subst, arith}
use Rattle.std.specs.List.Sorted.{IsStrictlyIncreasing}
use Rattle.std.proofs.lemmas.Bool.{eqb-true}
use Rattle.thread_moves.specs.Thread.{thread_of}
use Rattle.word_texts.specs.OldWords.{old_at}
use Rattle.word_texts.specs.Texts.{AreTextsOf}
use Rattle.word_texts.proofs.NamedLemmas.{AreNamed}
use Rattle.word_texts.proofs.TextLemmas.{are_texts, no_texts, both_give}
use Rattle.word_texts.proofs.made.made_texts.Goals as goal

pub returns-then-is_empty : goal.returns-then-is_empty
returns-then-is_empty g c = λ core is.
    let none : vec_len c.in_ok-arrays.arrays ≡ 0 = eqb-true (vec_len c.in_ok-arrays.arrays) 0 (sym c.is_empty.ensures ∙ c.if-is_empty.true) in
    let none : length c.in_ok-arrays.arrays.items ≡ 0 = omega (arith, none) in
    subst (AreTextsOf core c.args.lines.now) (sym c.new.ensures) (no_texts core c.args.lines.now c.in_ok-arrays.arrays.items none c.in_ok-arrays.ensures.rising c.in_ok-arrays.ensures.each)

pub returns : goal.returns
returns g c =
    let arrays = c.deref.result.now in
    let rising = subst IsStrictlyIncreasing (sym c.deref.ensures.value) c.in_ok-arrays.ensures.rising in
    let named = subst (AreNamed c.args.lines.now) (sym c.deref.ensures.value) c.in_ok-arrays.ensures.each in
    both_give c.texts_then.result
    (λ made same units. are_texts (thread_of g.C.ThreadCode.state g.C.ThreadCode.saved) c.args.machine.now.words c.args.machine.now.seats.places.items (old_at c.in_ok-old.old)
    c.in_ok-old.ensures c.args.lines.now arrays made rising named same units)
    c.texts_then.ensures.references c.texts_then.ensures.units
