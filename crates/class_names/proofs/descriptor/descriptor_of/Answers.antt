use Rattle.std.proofs.Common.{option_map, ap, ◌∙◌, refl}
use Rattle.std.proofs.lemmas.Result.{err_from_is_err_and}
use Rattle.class_names.specs.declared.kind.Kind.{Kind}
use Rattle.class_names.specs.declared.kind.Descriptor.TheVariants.{Field, Method}
use Rattle.class_names.specs.Shape.{kind_of}
use Rattle.class_names.proofs.DescriptorLaws.{one_descriptor, none_described}
use Rattle.class_names.proofs.descriptor.descriptor_of.Goals as goal

pub returns-in_err-descriptor-clause-bad : goal.returns-in_err-descriptor-clause-bad
returns-in_err-descriptor-clause-bad c =
    let p = err_from_is_err_and c.from_residual.result c.from_residual.ensures.1 in
    let s = c.in-Some.ensures.found in
    rw (p.1, p.2) (λ e. absurd cc, λ none. absurd (none (Method c.in-Some.shape.parameters (option_map kind_of c.in-Some.shape.returned)) s.descriptor))

pub returns-in-Some-clause-only : goal.returns-in-Some-clause-only
returns-in-Some-clause-only c d is =
    let s = c.in-Some.ensures.found in
    c.in_ok-descriptor.ensures ∙ one_descriptor c.args.bytes.now (Method c.in-Some.shape.parameters (option_map kind_of c.in-Some.shape.returned)) d s.descriptor is

pub returns-in-Some-clause-bad : goal.returns-in-Some-clause-bad
returns-in-Some-clause-bad c =
    let s = c.in-Some.ensures.found in
    (λ e. absurd cc, λ none. absurd (none (Method c.in-Some.shape.parameters (option_map kind_of c.in-Some.shape.returned)) s.descriptor))

pub returns-in_err-kind-in-Some-field_shape-clause-bad : goal.returns-in_err-kind-in-Some-field_shape-clause-bad
returns-in_err-kind-in-Some-field_shape-clause-bad c =
    let r = c.from_residual-in_err-kind-in-Some-field_shape in
    let p = err_from_is_err_and r.result r.ensures.1 in
    rw (p.1, p.2) (λ e. absurd cc, λ none. absurd (none (Field (kind_of c.in-Some-field_shape.shape)) c.in-Some-field_shape.ensures.found))

pub returns-in_ok-kind-in-Some-field_shape-clause-only : goal.returns-in_ok-kind-in-Some-field_shape-clause-only
returns-in_ok-kind-in-Some-field_shape-clause-only c d is =
    ap (λ (k : Kind). Field k) c.in_ok-kind-in-Some-field_shape.ensures ∙ one_descriptor c.args.bytes.now (Field (kind_of c.in-Some-field_shape.shape)) d c.in-Some-field_shape.ensures.found is

pub returns-in_ok-kind-in-Some-field_shape-clause-bad : goal.returns-in_ok-kind-in-Some-field_shape-clause-bad
returns-in_ok-kind-in-Some-field_shape-clause-bad c =
    (λ e. absurd cc, λ none. absurd (none (Field (kind_of c.in-Some-field_shape.shape)) c.in-Some-field_shape.ensures.found))

pub returns-in-None-clause-only : goal.returns-in-None-clause-only
returns-in-None-clause-only c d is = absurd (none_described c.args.bytes.now c.in-None.ensures.none c.in_default.ensures.none d is)

pub returns-in-None-clause-bad : goal.returns-in-None-clause-bad
returns-in-None-clause-bad c = (λ e d is. none_described c.args.bytes.now c.in-None.ensures.none c.in_default.ensures.none d is, λ none. refl)
