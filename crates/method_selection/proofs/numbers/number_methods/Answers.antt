use Rattle.std.proofs.Common.{◌<◌, length, ◌∙◌, ap, arith}
use Rattle.class_texts.specs.Texts.{ProgramTexts}
use Rattle.link_rules.specs.Classes.{classes_of}
use Rattle.link_rules.proofs.Numbers.{class_count_is}
use Rattle.method_selection.proofs.NumberLaws.{all_classes}
use Rattle.method_selection.proofs.numbers.number_methods.Goals as goal

pub returns : goal.returns
returns c =
    let many = class_count_is c.args.lookup.now.units in
    let files = ap length c.units.ensures ∙ ap (λ (p : ProgramTexts). length p.units) c.texts.ensures in
    let all : length (classes_of c.args.lookup.now.units) < c.loop-class.class = omega (arith, many, files) in
    all_classes c.args.lookup.now c.loop-class.class c.loop-class.numbers.items c.loop-class.ids.items all c.loop-class.invariant
