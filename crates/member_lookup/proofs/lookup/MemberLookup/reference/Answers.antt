use Rattle.std.proofs.Common.{◌≡◌, slice_get, sym, ◌∙◌, ap, subst}
use Rattle.std.proofs.lemmas.Option.{same_Some}
use Rattle.class_pool.specs.Lookup.{class_name_of, name_and_type_of, class_and_member, reference_in}
use Rattle.code_decode.specs.declared.code.ClassUnit.{ClassUnit}
use Rattle.class_texts.specs.Texts.{ProgramTexts}
use Rattle.member_lookup.specs.Found.{AreNumbersOf, assembled}
use Rattle.member_lookup.proofs.ReferenceLaws.{reference_is}
use Rattle.member_lookup.proofs.lookup.MemberLookup.reference.Goals as goal

pub returns : goal.returns
returns c = λ u there.
    let l = c.self.inside in
    let file = c.args.file in
    let index = c.args.index in
    let class = c.in_ok-class.class in
    let pair = c.in_ok-class.pair in
    let here = ap (λ (p : ProgramTexts). slice_get p.units file) c.self.view_is ∙ there in
    let same : c.in_ok-unit.unit.now ≡ u = same_Some c.in_ok-unit.unit.now u (c.in_ok-unit.ensures ∙ ap (λ us. slice_get us file) c.units.ensures ∙ here) in
    let pool = c.as_slice-pool.ensures ∙ ap (λ (x : ClassUnit). x.file.pool) same in
    let entry = subst (λ xs. reference_in xs (slice_get xs index) ≡ class_and_member (class_name_of xs (slice_get xs class)) (name_and_type_of xs (slice_get xs pair))) pool c.in_ok-class.ensures in
    let is = reference_is l.orders l.texts l.holders.items l.initializer l.tables c.self.invariant
    (class_name_of u.file.pool (slice_get u.file.pool class)) (name_and_type_of u.file.pool (slice_get u.file.pool pair)) c.class_text-class.result c.pair_texts-pair.result
    (c.class_text-class.ensures.number u here pool) (c.pair_texts-pair.ensures.number u here pool) c.class_text-class.ensures.some c.pair_texts-pair.ensures.some in
    let made = c.assemble.ensures ∙ ap (λ hs. assembled hs c.class_text-class.result c.pair_texts-pair.result) c.deref.ensures.value in
    subst (λ p. AreNumbersOf p (reference_in u.file.pool (slice_get u.file.pool index)) c.assemble.result) c.self.view_is
    (subst (λ r. AreNumbersOf l.texts r c.assemble.result) (sym entry)
    (subst (λ n. AreNumbersOf l.texts (class_and_member (class_name_of u.file.pool (slice_get u.file.pool class)) (name_and_type_of u.file.pool (slice_get u.file.pool pair))) n) (sym made) is))
