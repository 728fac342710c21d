use Rattle.std.proofs.Common.{◌≡◌, Some, inl, inr, sym, ◌∙◌, ap}
use Rattle.access_flags.specs.declared.TheConstants.{STATIC}
use Rattle.access_flags.specs.Flags.{has}
use Rattle.link_rules.specs.Methods.{method_code}
use Rattle.linked_methods.specs.Members.{is_named_init, member_numbered}
use Rattle.linked_methods.proofs.MethodLaws.{is_called, constructs_is, environment_is}
use Rattle.linked_methods.proofs.method.LinkedMethod.new.Goals as goal
use Rattle.linked_methods.proofs.method.LinkedMethod.new.Goals.{then-is_named_init, else-is_named_init}

pub invariant_of-result : goal.invariant_of-result
invariant_of-result c =
    let us = c.args.world.now in
    let id = c.args.id in
    let member = member_numbered us id in
    let static = c.has-is_static.result in
    let is = is_called us id c.in_ok-method.method c.in_ok-method.ensures in
    let coded : method_code us id ≡ Some c.in_ok-code.code.now = sym c.in_ok-code.ensures in
    let static_is : static ≡ has member.flags STATIC = c.has-is_static.ensures ∙ ap (λ f. has f STATIC) is.flags in
    record {
      member_there = is.there;
      code_there = coded;
      kind_is = is.kind;
      static_is = static_is;
      constructs_is = constructs_is us id c.in_ok-code.code.now member c.is_named_init.result static c.if-is_named_init.result coded is.there
          (c.is_named_init.ensures ∙ ap (λ vs. is_named_init vs id) c.units.ensures) static_is
          (elim c.if-is_named_init.branch [
            | then-is_named_init w ↦ inl (w.if-is_named_init.true, w.result-is)
            | else-is_named_init w ↦ inr (w.if-is_named_init.false, w.result-is ∙ w.if-is_named_init.false)
          ]);
    }

pub returns : goal.returns
returns c =
    let us = c.args.world.now in
    let is = is_called us c.args.id c.in_ok-method.method c.in_ok-method.ensures in
    environment_is us c.args.id (member_numbered us c.args.id) c.in_ok-code.code.now is.there (sym c.in_ok-code.ensures)
