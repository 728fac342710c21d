use Rattle.std.proofs.Common.{List, map, sym, ◌∙◌, ap}
use Rattle.std.proofs.lemmas.List.{take_all}
use Rattle.std.proofs.lemmas.Simd.{map-map}
use Rattle.link_rules.specs.Classes.{NamedClass, classes_of}
use Rattle.class_texts.specs.Texts.{ProgramTexts}
use Rattle.use_rules.specs.Facts.{class_facts}
use Rattle.use_rules.proofs.classes.class_facts.Goals as goal

pub returns : goal.returns
returns c =
    let items = c.all-name-items.result.now in
    let cs : List NamedClass = classes_of c.args.lookup.now.units in
    let texts = c.all-name-items.ensures ∙ ap (λ (p : ProgramTexts). p.texts) c.texts.ensures in
    c.loop-name.invariant ∙ ap (map (λ t. class_facts cs t.now)) (take_all c.loop-name.name-index items c.loop-name-test.false)
    ∙ sym (map-map (class_facts cs) (λ t. t.now) items) ∙ ap (map (class_facts cs)) texts
