use Rattle.std.proofs.Common.{sym, ap, ◌∙◌, Some}
use Rattle.class_pool.proofs.UseLaws.{parameters_of}
use Rattle.class_pool.proofs.text_uses.use_of.Goals as goal

pub returns : goal.returns
returns c = record {
  class_name = c.is_class_name.ensures;
  member_name = c.is_member_name.ensures;
  method_name = c.is_method_name.ensures;
  field_type = c.is_field_descriptor.ensures;
  parameters = parameters_of c.args.text.now c.parameter_size.result c.parameter_size.ensures.found;
  only = λ size t. c.parameter_size.ensures.only t.0 t.1 t.2 ∙ ap Some (sym t.3);
}
