use Rattle.std.proofs.Common.{◌≡◌, ◌+◌, ◌-◌, ◌<◌, ◌≤◌, suc, length, sym, ap, ◌∙◌, arith}
use Rattle.std.specs.Option.{option_map_or}
use Rattle.link_rules.specs.Arrays.{array_names}
use Rattle.link_rules.specs.Classes.{classes_of}
use Rattle.link_rules.specs.Names.{program_names}
use Rattle.link_rules.specs.Readers.{array_type}
use Rattle.java_machine.specs.Arguments.{is_string_array}
use Rattle.java_machine.proofs.ArgumentLaws.{found_here, not_here, found_nowhere}
use Rattle.java_machine.proofs.objects.arguments_class.Goals as goal

pub returns-then-is_array_of_strings : goal.returns-then-is_array_of_strings
returns-then-is_array_of_strings c =
    let us = c.args.world.now in
    let place = c.loop-place.place in
    let within : place < length (array_names us) =
    omega (arith, c.named_classes-named.ensures, c.classes.ensures, c.saturating_sub-place-end.ensures, c.loop-place-test.true) in
    let passes = c.if-is_array_of_strings.ensures ∙ ap (λ n. option_map_or is_string_array (array_type (program_names us) (n + 1 + place)) Rattle.std.proofs.Common.false) c.named_classes-named.ensures in
    let number : c.named_classes-named.result + 1 + place ≡ suc (length (classes_of us) + place) = omega (arith, c.named_classes-named.ensures) in
    number ∙ sym (found_here us c.is_linked.ensures.decoded c.is_linked.ensures.linked place c.loop-place.invariant within passes)

pub loop-place-preserved : goal.loop-place-preserved
loop-place-preserved c =
    let us = c.args.world.now in
    let place = c.loop-place.place in
    let within : place < length (array_names us) =
    omega (arith, c.named_classes-named.ensures, c.classes.ensures, c.saturating_sub-place-end.ensures, c.loop-place-test.true) in
    let fails = c.if-is_array_of_strings.ensures ∙ ap (λ n. option_map_or is_string_array (array_type (program_names us) (n + 1 + place)) Rattle.std.proofs.Common.false) c.named_classes-named.ensures in
    not_here us c.is_linked.ensures.decoded c.is_linked.ensures.linked place c.loop-place.invariant within fails

pub returns : goal.returns
returns c =
    let us = c.args.world.now in
    let all : length (array_names us) ≤ c.loop-place.place =
    omega (arith, c.named_classes-named.ensures, c.classes.ensures, c.saturating_sub-place-end.ensures, c.loop-place-test.false) in
    found_nowhere us c.loop-place.place c.loop-place.invariant all
