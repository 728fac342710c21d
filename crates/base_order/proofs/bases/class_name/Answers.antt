use Rattle.std.proofs.Common.{◌∙◌, [], ap, refl}
use Rattle.std.specs.Option.{option_map_or}
use Rattle.builtin_world.specs.BuiltinClass.{ClassRow}
use Rattle.base_order.proofs.BaseLaws.{library_name}
use Rattle.base_order.proofs.bases.class_name.Goals as goal

pub returns-in-Some : goal.returns-in-Some
returns-in-Some c =
    c.as_bytes.ensures.value ∙ ap (λ o. option_map_or (λ (r : ClassRow). r.name) o []) c.in-Some.ensures.row ∙ library_name c.args.supers.now c.args.class (c.in-Some.ensures.found.0 refl).1
