use Rattle.std.proofs.Common.{◌≡◌, ◌∙◌, [], Some, unwrap_or, ap, sym, subst}
use Rattle.class_names.specs.ModifiedUtf8.{IsModifiedUtf8}
use Rattle.class_names.specs.Units.{text_of}
use Rattle.class_names.proofs.UnitLaws.{text_is}
use Rattle.link_rules.specs.Strings.{literal_text}
use Rattle.java_machine.proofs.NameLaws.{names_formed}
use Rattle.java_machine.proofs.ends.class_text.Goals as goal

pub returns : goal.returns
returns c =
    let is : text_of c.class_name.result.now ≡ Some c.in_ok-text.text = (text_is c.class_name.result.now c.in_ok-text.text).1 c.in_ok-text.ensures.found in
    sym (ap (λ o. unwrap_or o []) is) ∙ ap literal_text c.class_name.ensures

pub decode_text-requires : goal.decode_text-requires
decode_text-requires c = subst IsModifiedUtf8 (sym c.class_name.ensures) (names_formed c.args.world.now c.is_linked.ensures.decoded c.args.class)
