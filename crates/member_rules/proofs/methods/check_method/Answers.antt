use Rattle.std.proofs.Common.{◌&&◌, slice_get, inl, inr, refl, sym, ◌∙◌, ap, true≢false}
use Rattle.class_texts.specs.Texts.{ProgramTexts}
use Rattle.link_rules.specs.Classes.{classes_of, member_of_file}
use Rattle.link_rules.specs.LinkRules.{is_default}
use Rattle.member_rules.proofs.methods.check_method.Goals as goal

pub returns-then-is_default_method : goal.returns-then-is_default_method
returns-then-is_default_method c =
    let p = c.args.lookup.now in
    let cs = classes_of c.args.lookup.now.units in
    let k = c.args.place in
    let u = c.args.unit.now in
    let m = member_of_file c.args.unit.now.file.pool c.args.method.now in
    let one = ap (λ (q : ProgramTexts). slice_get q.units c.args.place) c.texts.ensures ∙ c.requires.there in
    let float = sym (c.has_float_at.ensures u one) ∙ c.if-has_float_at.false in
    let native = sym c.has.ensures ∙ c.if-has.false in
    let default = ap (λ b. b && is_default cs k m) (sym c.has-interface.ensures) ∙ ap (λ pool. c.has-interface.result && is_default cs k (member_of_file pool c.args.method.now)) (sym c.as_slice.ensures) ∙ sym (c.is_default_method.ensures cs k) ∙ c.if-is_default_method.true in
    rw c.refuse-then-is_default_method.ensures (inr (float, inr (native, inl (λ z. true≢false (sym default ∙ z), refl))))

pub returns-then-overrides_final : goal.returns-then-overrides_final
returns-then-overrides_final c =
    let p = c.args.lookup.now in
    let cs = classes_of c.args.lookup.now.units in
    let k = c.args.place in
    let u = c.args.unit.now in
    let m = member_of_file c.args.unit.now.file.pool c.args.method.now in
    let one = ap (λ (q : ProgramTexts). slice_get q.units c.args.place) c.texts.ensures ∙ c.requires.there in
    let float = sym (c.has_float_at.ensures u one) ∙ c.if-has_float_at.false in
    let native = sym c.has.ensures ∙ c.if-has.false in
    let default = ap (λ b. b && is_default cs k m) (sym c.has-interface.ensures) ∙ ap (λ pool. c.has-interface.result && is_default cs k (member_of_file pool c.args.method.now)) (sym c.as_slice.ensures) ∙ sym (c.is_default_method.ensures cs k) ∙ c.if-is_default_method.false in
    let closed = sym c.overrides_final.ensures ∙ c.if-overrides_final.true in
    rw c.refuse-then-overrides_final.ensures (inr (float, inr (native, inr (default, (λ z. true≢false (sym closed ∙ z), refl)))))

pub returns : goal.returns
returns c =
    let p = c.args.lookup.now in
    let cs = classes_of c.args.lookup.now.units in
    let k = c.args.place in
    let u = c.args.unit.now in
    let m = member_of_file c.args.unit.now.file.pool c.args.method.now in
    let one = ap (λ (q : ProgramTexts). slice_get q.units c.args.place) c.texts.ensures ∙ c.requires.there in
    let float = sym (c.has_float_at.ensures u one) ∙ c.if-has_float_at.false in
    let native = sym c.has.ensures ∙ c.if-has.false in
    let default = ap (λ b. b && is_default cs k m) (sym c.has-interface.ensures) ∙ ap (λ pool. c.has-interface.result && is_default cs k (member_of_file pool c.args.method.now)) (sym c.as_slice.ensures) ∙ sym (c.is_default_method.ensures cs k) ∙ c.if-is_default_method.false in
    let closed = sym c.overrides_final.ensures ∙ c.if-overrides_final.false in
    (float, (native, (default, closed)))
