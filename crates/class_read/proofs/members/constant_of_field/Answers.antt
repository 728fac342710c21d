use Rattle.class_read.proofs.members.constant_of_field.Goals as goal

pub returns : goal.returns
returns c = rw c.constants.ensures at c.field_constant.ensures
