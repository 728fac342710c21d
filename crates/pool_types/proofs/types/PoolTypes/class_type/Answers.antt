use Rattle.std.proofs.Common.{◌∙◌, ap}
use Rattle.pool_types.specs.Types.{kept_type}
use Rattle.pool_types.proofs.TypeLaws.{type_right}
use Rattle.pool_types.proofs.types.PoolTypes.class_type.Goals as goal

pub returns : goal.returns
returns c = λ us are u there.
    c.type_in.ensures ∙ ap (λ rows. kept_type rows c.args.file c.args.index) c.deref.ensures.value ∙ type_right us c.args.self.now c.args.file c.args.index u are there
