use Rattle.std.proofs.Common.{◌≡◌, ◌∙◌, ◌+◌, ◌<◌, ◌≤◌, [], length, refl, ap, sym, subst, take, fold, flat_map, filter_map, arith}
use Rattle.std.proofs.lemmas.List.{take_all}
use Rattle.std.proofs.lemmas.Option.{slice_get_read}
use Rattle.code_decode.specs.declared.code.ClassUnit.{ClassUnit}
use Rattle.link_rules.specs.Strings.{literal_in, string_texts}
use Rattle.string_literals.specs.Texts.{with_text, HasTexts, NumberLiterals}
use Rattle.string_literals.proofs.LiteralLaws.{texts_are_right, pool_is_small, files_more}
use Rattle.string_literals.proofs.literals.StringLiterals.new.Goals as goal

pub file_numbers-requires-clause-texts : goal.file_numbers-requires-clause-texts
file_numbers-requires-clause-texts c =
    let us = c.args.units.now in
    let u = c.unit-item.result in
    let at = slice_get_read us (length us) c.loop-unit.unit-index u refl c.loop-unit-test.true c.unit-item.is in
    subst HasTexts (sym c.as_slice.ensures) (texts_are_right us c.loop-unit.unit-index u c.requires.decoded at)

pub file_numbers-requires-clause-few : goal.file_numbers-requires-clause-few
file_numbers-requires-clause-few c =
    let us = c.args.units.now in
    let u = c.unit-item.result in
    let at = slice_get_read us (length us) c.loop-unit.unit-index u refl c.loop-unit-test.true c.unit-item.is in
    subst (λ pool. length pool < 65536) (sym c.as_slice.ensures) (pool_is_small us c.loop-unit.unit-index u c.requires.decoded at)

pub loop-unit-preserved : goal.loop-unit-preserved
loop-unit-preserved c =
    let us = c.args.units.now in
    let u = c.unit-item.result in
    let at = slice_get_read us (length us) c.loop-unit.unit-index u refl c.loop-unit-test.true c.unit-item.is in
    files_more us c.loop-unit.unit-index u c.loop-unit.known c.file_numbers.new.known c.in_ok-file_numbers.field-0 c.loop-unit.numbers.items c.push.new.self.items at
    (pool_is_small us c.loop-unit.unit-index u c.requires.decoded at) c.loop-unit.invariant
    (subst (λ pool. c.file_numbers.new.known ≡ fold with_text c.loop-unit.known (filter_map (literal_in pool) pool)) c.as_slice.ensures c.in_ok-file_numbers.ensures.known)
    (subst (λ pool. length c.file_numbers.new.known ≤ length c.loop-unit.known + length pool) c.as_slice.ensures c.in_ok-file_numbers.ensures.few)
    (subst (λ pool. NumberLiterals c.file_numbers.new.known pool (length pool) c.in_ok-file_numbers.field-0) c.as_slice.ensures c.in_ok-file_numbers.ensures.numbers)
    c.in_ok-push.ensures.items

pub returns : goal.returns
returns c =
    let us = c.args.units.now in
    let all : take c.loop-unit.unit-index c.args.units.now ≡ c.args.units.now = take_all c.loop-unit.unit-index c.args.units.now c.loop-unit-test.false in
    let texts : c.loop-unit.known ≡ string_texts c.args.units.now =
    c.loop-unit.invariant.texts ∙ ap (λ xs. fold with_text [] (flat_map (λ (u : ClassUnit). filter_map (literal_in u.file.pool) u.file.pool) xs)) all in
    let many : length c.loop-unit.known ≡ length (string_texts c.args.units.now) = ap length texts in
    let items : length c.into_texts-texts.result.items ≡ length c.loop-unit.known = ap length c.into_texts-texts.ensures in
    let few = c.loop-unit.invariant.few in
    record {
      texts = c.into_texts-texts.ensures ∙ texts;
      count = c.loop-unit.invariant.count ∙ (omega arith);
      numbers = λ k u its at there. subst (λ known. NumberLiterals known u.file.pool (length u.file.pool) its) texts (c.loop-unit.invariant.each k u its at there);
      how_many = omega (arith, c.into_texts-texts.result.ok.0);
      few = omega (arith, c.requires.few);
    }
