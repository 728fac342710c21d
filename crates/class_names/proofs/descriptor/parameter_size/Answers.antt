use Rattle.std.proofs.Common.{Some, ap, ◌∙◌, option_map}
use Rattle.class_names.specs.Descriptor.{size_of}
use Rattle.class_names.specs.declared.kind.ParameterSize.{ParameterSize}
use Rattle.class_names.specs.Shape.{kind_of}
use Rattle.class_names.proofs.DescriptorLaws.{one_method}
use Rattle.class_names.proofs.descriptor.parameter_size.Goals as goal

pub returns-in-Some-clause-only : goal.returns-in-Some-clause-only
returns-in-Some-clause-only c parameters returned d =
    let s = c.in-Some.ensures.found in
    let shape = c.in-Some.shape in
    ap (λ (n : ParameterSize). Some n) (s.size ∙ ap size_of (one_method c.args.bytes.now shape.parameters parameters (option_map kind_of shape.returned) returned s.descriptor d).0)
