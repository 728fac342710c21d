use Rattle.std.proofs.Common.{◌∙◌, ap, Some}
use Rattle.std.specs.Option.{option_map}
use Rattle.builtin_world.specs.declared.BuiltinClass.{BuiltinClass}
use Rattle.linker.proofs.NameLaws.{names_are}
use Rattle.linker.proofs.names.name_of_builtin.Goals as goal

pub returns-in-Some : goal.returns-in-Some
returns-in-Some c =
    ap (λ name. Some name) c.as_bytes.ensures.value ∙ ap (option_map (λ (b : BuiltinClass). b.name.now)) c.in-Some.ensures
    ∙ names_are c.builtins.result.now c.args.place c.builtins.ensures.rows

pub returns-in-None : goal.returns-in-None
returns-in-None c =
    ap (option_map (λ (b : BuiltinClass). b.name.now)) c.in-None.ensures ∙ names_are c.builtins.result.now c.args.place c.builtins.ensures.rows
