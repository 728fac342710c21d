use Rattle.class_names.specs.Shape.{kind_of}
use Rattle.class_names.proofs.DescriptorLaws.{field_read, field_none, field_longer}
use Rattle.class_names.proofs.Cases.{empty_is, full_is}
use Rattle.class_names.proofs.descriptor.field_shape.Goals as goal

pub returns-in_err-shape-clause-none : goal.returns-in_err-shape-clause-none
returns-in_err-shape-clause-none c = rw c.from_residual.ensures (λ kind d. field_none c.args.bytes.now kind c.in_err-shape.ensures d)

pub returns-then-is_empty-clause-found : goal.returns-then-is_empty-clause-found
returns-then-is_empty-clause-found c =
    field_read c.args.bytes.now (kind_of c.in_ok-shape.shape) c.in_ok-shape.rest.now c.in_ok-shape.ensures (empty_is c.in_ok-shape.rest.now c.is_empty.result c.is_empty.ensures c.if-is_empty.true)

pub returns-else-is_empty-clause-none : goal.returns-else-is_empty-clause-none
returns-else-is_empty-clause-none c kind d =
    field_longer c.args.bytes.now (kind_of c.in_ok-shape.shape) c.in_ok-shape.rest.now kind c.in_ok-shape.ensures (full_is c.in_ok-shape.rest.now c.is_empty.result c.is_empty.ensures c.if-is_empty.false) d
