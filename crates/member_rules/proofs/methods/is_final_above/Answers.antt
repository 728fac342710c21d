use Rattle.std.proofs.Common.{◌≡◌, ◌≤◌, ◌+◌, length, slice_get, arith, sym, ◌∙◌, ap, subst}
use Rattle.std.specs.List.{list_any}
use Rattle.link_rules.specs.Classes.{classes_of, superclass_of, number_of_file, member_of_file}
use Rattle.link_rules.specs.Supers.{superclasses}
use Rattle.link_rules.specs.Members.{signature_of}
use Rattle.link_rules.specs.LinkRules.{is_closed}
use Rattle.class_texts.specs.Texts.{ProgramTexts, entry_number, KnowsEntry}
use Rattle.link_rules.proofs.Numbers.{superclass_within}
use Rattle.member_rules.proofs.MethodLaws.{have_texts}
use Rattle.member_rules.proofs.methods.is_final_above.Goals as goal

pub has_final-requires : goal.has_final-requires
has_final-requires c =
    let cs = classes_of c.args.lookup.now.units in
    let is = c.superclass-superclass.ensures ∙ ap (λ us. superclass_of (classes_of us) (28 + 1 + c.args.place)) (c.supers.ensures ∙ c.orders.ensures) in
    subst (λ n. n ≤ length cs) (sym is) (superclass_within cs (28 + 1 + c.args.place))

pub returns : goal.returns
returns c =
    let p = c.args.lookup.now in
    let cs = classes_of c.args.lookup.now.units in
    let u = c.args.unit.now in
    let m = c.args.method.now in
    let number : 28 + 1 + c.args.place ≡ number_of_file c.args.place = omega arith in
    let is = c.superclass-superclass.ensures ∙ ap (λ us. superclass_of (classes_of us) (28 + 1 + c.args.place)) (c.supers.ensures ∙ c.orders.ensures) ∙ ap (superclass_of cs) number in
    let one = ap (λ (q : ProgramTexts). slice_get q.units c.args.place) c.texts.ensures ∙ c.requires.there in
    let two = ap (λ (q : ProgramTexts). slice_get q.units c.args.place) c.texts-2.ensures ∙ c.requires.there in
    let name = subst (λ (q : ProgramTexts). c.at-name.result ≡ entry_number q.texts (slice_get u.file.pool m.name)) c.texts.ensures (c.at-name.ensures.number u one) in
    let named = subst (λ (q : ProgramTexts). KnowsEntry q.texts (slice_get u.file.pool m.name)) c.texts.ensures (c.at-name.ensures.known u one) in
    let descriptor = subst (λ (q : ProgramTexts). c.at-descriptor.result ≡ entry_number q.texts (slice_get u.file.pool m.descriptor)) c.texts-2.ensures (c.at-descriptor.ensures.number u two) in
    let described = subst (λ (q : ProgramTexts). KnowsEntry q.texts (slice_get u.file.pool m.descriptor)) c.texts-2.ensures (c.at-descriptor.ensures.known u two) in
    let have = have_texts p u.file.pool m c.at-name.result c.at-descriptor.result c.requires.name c.requires.descriptor name named descriptor described in
    c.has_final.ensures (signature_of (member_of_file u.file.pool m)) have
    ∙ ap (λ s. list_any (is_closed cs c.args.place (member_of_file u.file.pool m)) (superclasses cs s)) is
