use Rattle.std.proofs.Common.{◌≡◌, ◌+◌, List, not, false, arith, ◌∙◌, ap}
use Rattle.std.specs.Option.{option_map, option_map_or}
use Rattle.access_flags.specs.declared.TheConstants.{ABSTRACT}
use Rattle.access_flags.specs.Flags.{has}
use Rattle.link_rules.specs.Classes.{NamedClass, classes_of, number_of_file}
use Rattle.link_rules.specs.Members.{special}
use Rattle.member_lookup.specs.declared.found.Found.{Found}
use Rattle.member_lookup.specs.Found.{found_of}
use Rattle.use_rules.proofs.MemberLaws.{concrete_is}
use Rattle.use_rules.proofs.members.method_facts.Goals as goal

pub returns : goal.returns
returns c = λ r d numbers found.
    let cs : List NamedClass = classes_of c.args.lookup.now.units in
    let number : 28 + 1 + c.args.place ≡ number_of_file c.args.place = omega arith in
    let called = c.special.ensures r d numbers found ∙ ap (λ n. option_map found_of (special cs n r d)) number in
    let concrete = c.is_concrete.ensures ∙ ap (λ o. option_map_or (λ (m : Found). not (has m.flags ABSTRACT)) o false) called ∙ concrete_is (special cs (number_of_file c.args.place) r d) in
    ap (λ (f : Found). record { found = f; is_special = c.is_concrete.result }) found ∙ ap (λ b. record { found = found_of d; is_special = b }) concrete
