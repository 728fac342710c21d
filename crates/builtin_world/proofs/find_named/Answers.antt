use Rattle.std.proofs.Common.{rules, tests}
use Rattle.std.specs.Str.{bytes_eq}
use Rattle.std.proofs.lemmas.Iterator.{YieldsList-from_slice}
use Rattle.std.proofs.lemmas.Iterator.Search.{find_from_yields_List}
use Rattle.builtin_world.specs.declared.BuiltinClass.{BuiltinClass}
use Rattle.builtin_world.proofs.find_named.Goals as goal

pub returns : goal.returns
returns c =
    let found = find_from_yields_List (λ (b : BuiltinClass). bytes_eq b.name.now c.args.name.now) _ _ c.find.result c.find.ensures.ran
    (YieldsList-from_slice c.args.classes.now (cc)) (λ x b q k. search (rules, tests)) in
    cc
