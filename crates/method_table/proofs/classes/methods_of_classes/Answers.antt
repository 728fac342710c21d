use Rattle.std.proofs.Common.{◌≡◌, suc, length, map, [], ◌∷◌, ◌++◌, sym, ◌∙◌, ap, arith}
use Rattle.std.specs.List.{range_with_len}
use Rattle.std.proofs.lemmas.List.FromFn.{map-range_with_len_more}
use Rattle.class_texts.specs.Texts.{ProgramTexts}
use Rattle.link_rules.proofs.Numbers.{class_count_is}
use Rattle.link_rules.specs.Classes.{classes_of}
use Rattle.method_table.specs.Rows.{class_methods}
use Rattle.method_table.proofs.classes.methods_of_classes.Goals as goal

pub loop-class-preserved : goal.loop-class-preserved
loop-class-preserved c =
    let f = class_methods c.args.lookup.now in
    let n = c.loop-class.class in
    c.in_ok-push.ensures.items ∙ ap (λ xs. xs ++ c.in_ok-methods_of_class.field-0 ∷ []) c.loop-class.invariant
    ∙ ap (λ x. map f (range_with_len 0 n) ++ x ∷ []) c.in_ok-methods_of_class.ensures
    ∙ sym (map-range_with_len_more f 0 n n (omega arith))

pub returns : goal.returns
returns c =
    let many = class_count_is c.args.lookup.now.units in
    let files = ap length c.units.ensures ∙ ap (λ (p : ProgramTexts). length p.units) c.texts.ensures in
    let all : c.loop-class.class ≡ suc (length (classes_of c.args.lookup.now.units)) = omega (arith, many, files) in
    c.loop-class.invariant ∙ ap (λ n. map (class_methods c.args.lookup.now) (range_with_len 0 n)) all
