use Rattle.std.proofs.Common.{◌≡◌, ◌∙◌, ap}
use Rattle.link_rules.specs.Operands.{operand}
use Rattle.type_rules.specs.Environments.{is_constructor, words_of_values}
use Rattle.type_rules.specs.MapFrames.{item_type}
use Rattle.linked_methods.specs.Members.{member_numbered}
use Rattle.linked_methods.specs.Methods.{code_of_method, values_at_entry}
use Rattle.linked_methods.proofs.MethodLaws.{frames_are}
use Rattle.linked_methods.proofs.method.LinkedMethod.entry.Goals as goal

pub returns-clause-frames : goal.returns-clause-frames
returns-clause-frames c =
    let m = c.args.self.now in
    let us = m.classes.world.now in
    let values = c.in_ok-values.values.items in
    let words = c.in_ok-words.words.items in
    let words_are : words ≡ words_of_values values = c.in_ok-words.ensures ∙ ap words_of_values c.deref.ensures.value in
    frames_are (item_type (operand us m.id.class)) (is_constructor (member_numbered us m.id)) m.constructs (values_at_entry m) values words (code_of_method m).frames
    c.in_ok-values.ensures words_are m.constructs_is
