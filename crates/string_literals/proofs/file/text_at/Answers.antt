use Rattle.std.proofs.Common.{◌≡◌, ◌∙◌, [], Some, unwrap_or, ap, sym}
use Rattle.class_names.specs.Units.{text_of}
use Rattle.class_names.proofs.UnitLaws.{text_is}
use Rattle.link_rules.specs.Strings.{literal_text}
use Rattle.string_literals.proofs.file.text_at.Goals as goal

pub returns : goal.returns
returns c =
    let is : text_of c.bytes_at.result.now ≡ Some c.in_ok-text.text = (text_is c.bytes_at.result.now c.in_ok-text.text).1 c.in_ok-text.ensures.found in
    sym (ap (λ o. unwrap_or o []) is) ∙ ap literal_text c.bytes_at.ensures
