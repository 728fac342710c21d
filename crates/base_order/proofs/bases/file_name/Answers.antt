use Rattle.std.proofs.Common.{◌∙◌, [], ap}
use Rattle.std.specs.Option.{option_map_or}
use Rattle.code_decode.specs.declared.code.ClassUnit.{ClassUnit}
use Rattle.link_rules.specs.Classes.{class_of_unit}
use Rattle.base_order.proofs.BaseLaws.{file_name_is}
use Rattle.base_order.proofs.bases.file_name.Goals as goal

pub returns-in-Some : goal.returns-in-Some
returns-in-Some c =
    c.unit_name.ensures ∙ ap (λ o. option_map_or (λ (u : ClassUnit). (class_of_unit u).name) o []) c.in-Some.ensures ∙ file_name_is c.args.units.now c.args.class c.requires

pub returns-in-None : goal.returns-in-None
returns-in-None c = ap (λ o. option_map_or (λ (u : ClassUnit). (class_of_unit u).name) o []) c.in-None.ensures ∙ file_name_is c.args.units.now c.args.class c.requires
