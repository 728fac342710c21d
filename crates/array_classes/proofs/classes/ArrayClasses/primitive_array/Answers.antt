use Rattle.std.proofs.Common.{sym, subst}
use Rattle.link_rules.specs.Arrays.{primitive_array}
use Rattle.link_rules.specs.Names.{program_names}
use Rattle.array_kinds.specs.declared.kind.ArrayKind.{ArrayKind}
use Rattle.array_kinds.specs.Kinds.{Spells}
use Rattle.array_kinds.proofs.Names.{primitive_spells}
use Rattle.array_classes.proofs.classes.ArrayClasses.primitive_array.Goals as goal

pub returns : goal.returns
returns c = λ us arrays.
    c.number.ensures us (primitive_array c.args.kind) arrays.are
    (subst (λ (a : ArrayKind). Spells (program_names us) a (primitive_array c.args.kind)) (sym c.primitive_array.ensures) (primitive_spells (program_names us) c.args.kind))
