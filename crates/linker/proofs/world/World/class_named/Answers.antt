use Rattle.std.proofs.Common.{◌≡◌, ◌+◌, ◌<◌, ◌≤◌, suc, false, Some, length, sym, ◌∙◌, ap, arith}
use Rattle.std.specs.List.{position_from}
use Rattle.std.specs.Option.{option_map, option_map_or}
use Rattle.std.proofs.lemmas.List.{take_all}
use Rattle.link_rules.specs.Classes.{class_numbered, classes_of}
use Rattle.linker.specs.Names.{has_name}
use Rattle.linker.proofs.NameLaws.{found_here, not_here}
use Rattle.linker.proofs.world.World.class_named.Goals as goal

pub returns-then-is_class_named : goal.returns-then-is_class_named
returns-then-is_class_named c =
    let cs = classes_of c.args.self.now in
    let name = c.args.name.now in
    let place = c.loop-place.place in
    let within : place < length cs = omega (arith, c.named_classes-place-end.ensures) in
    let number : suc place ≡ place + 1 = omega arith in
    let passes = ap (λ n. option_map_or (has_name name) (class_numbered cs n) false) number ∙ sym c.if-is_class_named.ensures in
    ap (λ n. Some n) (sym number) ∙ sym (ap (option_map (λ n. suc n)) (found_here cs name place c.loop-place.invariant within passes))

pub loop-place-preserved : goal.loop-place-preserved
loop-place-preserved c =
    let cs = classes_of c.args.self.now in
    let name = c.args.name.now in
    let place = c.loop-place.place in
    let within : place < length cs = omega (arith, c.named_classes-place-end.ensures) in
    let number : suc place ≡ place + 1 = omega arith in
    let fails = ap (λ n. option_map_or (has_name name) (class_numbered cs n) false) number ∙ sym c.if-is_class_named.ensures in
    not_here cs name place c.loop-place.invariant within fails

pub returns : goal.returns
returns c =
    let cs = classes_of c.args.self.now in
    let test = has_name c.args.name.now in
    let all : length cs ≤ c.loop-place.place = omega (arith, c.named_classes-place-end.ensures) in
    sym (ap (option_map (λ n. suc n)) (sym (ap (position_from test 0) (take_all c.loop-place.place cs all)) ∙ c.loop-place.invariant))
