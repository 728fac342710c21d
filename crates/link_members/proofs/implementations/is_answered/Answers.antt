use Rattle.std.proofs.Common.{◌≡◌, Option, None, Some, refl, ◌∙◌, ap}
use Rattle.std.specs.Option.{option_map}
use Rattle.link_rules.specs.Members.{Declared, signature_of, selected}
use Rattle.link_rules.specs.Classes.{classes_of}
use Rattle.text_numbers.specs.Numbers.{number_of}
use Rattle.member_lookup.specs.declared.found.Found.{Found}
use Rattle.member_lookup.specs.Found.{found_of}
use Rattle.link_members.specs.Members.{answers}
use Rattle.link_members.proofs.implementations.is_answered.Goals as goal

flags_found : (o : Option Declared) → option_map (λ (f : Found). f.flags) (option_map found_of o) ≡ option_map (λ (d : Declared). d.member.flags) o
flags_found None = refl
flags_found (Some d) = refl

pub returns : goal.returns
returns c = λ m are.
    c.answers.ensures
    ∙ ap (λ o. answers c.args.asked (option_map (λ (f : Found). f.flags) o))
    (c.selected_among.ensures (number_of c.args.lookup.now.texts m.name) (number_of c.args.lookup.now.texts m.descriptor) (signature_of m) are.are are.have)
    ∙ ap (answers c.args.asked) (flags_found (selected (classes_of c.args.lookup.now.units) c.args.class (signature_of m)))
