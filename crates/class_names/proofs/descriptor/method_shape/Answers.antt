use Rattle.std.proofs.Common.{sym, option_map}
use Rattle.class_names.specs.Descriptor.{return_text}
use Rattle.class_names.specs.Shape.{kind_of}
use Rattle.class_names.proofs.BytesLaws.{shape_made, method_again, method_kinds_none}
use Rattle.class_names.proofs.DescriptorLaws.{method_parts, method_return}
use Rattle.class_names.proofs.descriptor.method_shape.Goals as goal

pub returns-in_err-size-clause-value : goal.returns-in_err-size-clause-value
returns-in_err-size-clause-value c =
    let bytes = c.args.bytes.now in
    let text = c.in_ok-text.text.now in
    rw c.from_residual-in_err-size.ensures (sym (method_kinds_none bytes (λ parameters returned d.
    c.in_err-size.ensures.none parameters (return_text returned) (method_parts bytes text parameters returned c.in_ok-text.ensures d))))

pub returns-in_err-returned-clause-value : goal.returns-in_err-returned-clause-value
returns-in_err-returned-clause-value c =
    let bytes = c.args.bytes.now in
    let p = c.in_ok-size.ensures.found in
    rw c.from_residual-in_err-returned.ensures (sym (method_kinds_none bytes (λ parameters returned d.
    c.in_err-returned.ensures.none returned (method_return bytes c.in_ok-text.text.now c.in_ok-size.rest.now p.0 parameters returned c.in_ok-text.ensures p.1 d).1)))

pub returns-in_err-returned-clause-none : goal.returns-in_err-returned-clause-none
returns-in_err-returned-clause-none c =
    let p = c.in_ok-size.ensures.found in
    rw c.from_residual-in_err-returned.ensures (λ parameters returned d.
    c.in_err-returned.ensures.none returned (method_return c.args.bytes.now c.in_ok-text.text.now c.in_ok-size.rest.now p.0 parameters returned c.in_ok-text.ensures p.1 d).1)

pub returns-clause-value : goal.returns-clause-value
returns-clause-value c =
    let p = c.in_ok-size.ensures.found in
    let returned = option_map kind_of c.in_ok-returned.returned in
    let made = shape_made c.args.bytes.now c.in_ok-text.text.now c.in_ok-size.rest.now p.0 c.new.result returned c.in_ok-text.ensures p.1 c.in_ok-returned.ensures.found c.new.ensures in
    sym (method_again c.args.bytes.now c.new.result returned made.1)

pub returns-clause-found : goal.returns-clause-found
returns-clause-found c =
    let p = c.in_ok-size.ensures.found in
    let returned = option_map kind_of c.in_ok-returned.returned in
    let made = shape_made c.args.bytes.now c.in_ok-text.text.now c.in_ok-size.rest.now p.0 c.new.result returned c.in_ok-text.ensures p.1 c.in_ok-returned.ensures.found c.new.ensures in
    record { descriptor = made.1; size = rw made.0 p.2 }
