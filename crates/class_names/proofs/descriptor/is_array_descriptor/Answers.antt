use Rattle.class_names.specs.declared.kind.Kind.TheVariants.{Array}
use Rattle.class_names.proofs.descriptor.is_array_descriptor.Goals as goal

pub returns-in-None : goal.returns-in-None
returns-in-None c = (λ f. absurd cc, λ x. absurd (c.in-None.ensures.none (Array x.0 x.1) x.2))
