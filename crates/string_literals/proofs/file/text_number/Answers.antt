use Rattle.std.proofs.Common.{◌≡◌, ◌∙◌, slice_get, refl, sym, subst, ap}
use Rattle.link_rules.specs.Classes.{utf8_at}
use Rattle.link_rules.specs.Strings.{literal_text}
use Rattle.string_literals.specs.Texts.{HasNumber}
use Rattle.string_literals.proofs.TextLaws.{Grows, known_already, text_grows}
use Rattle.string_literals.proofs.LiteralLaws.{kept_stay, one_kept}
use Rattle.string_literals.proofs.file.text_number.Goals as goal

pub returns-in-Some-clause-known : goal.returns-in-Some-clause-known
returns-in-Some-clause-known c =
    let at = ap (λ xs. slice_get xs c.args.index) (sym c.deref.ensures.value) ∙ c.in-Some.ensures c.in-Some.number refl in
    known_already c.args.known.now (literal_text (utf8_at c.args.pool.now c.args.index)) c.in-Some.number (c.requires.kept.each c.args.index c.in-Some.number at)

pub returns-clause-kept : goal.returns-clause-kept
returns-clause-kept c =
    let text = literal_text (utf8_at c.args.pool.now c.args.index) in
    let is : c.in_ok-text.text ≡ literal_text (utf8_at c.args.pool.now c.args.index) = c.in_ok-text.ensures in
    let grows : Grows c.args.known.now c.number.new.self = subst (Grows c.args.known.now) (sym c.in_ok-number.ensures.texts) (text_grows c.args.known.now c.in_ok-text.text) in
    let has : HasNumber c.number.new.self (literal_text (utf8_at c.args.pool.now c.args.index)) c.in_ok-number.number =
    subst (λ t. HasNumber c.number.new.self t c.in_ok-number.number) is c.in_ok-number.ensures.number in
    one_kept c.number.new.self c.args.pool.now c.args.by_text.now.items c.keep.new.by_text.items c.args.index c.in_ok-number.number
    (kept_stay c.args.known.now c.number.new.self c.args.pool.now c.args.by_text.now.items grows c.requires.kept)
    c.keep.ensures.count c.keep.ensures.here c.keep.ensures.elsewhere has
