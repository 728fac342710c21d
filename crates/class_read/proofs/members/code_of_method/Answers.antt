use Rattle.class_read.proofs.members.code_of_method.Goals as goal

pub returns : goal.returns
returns c = rw c.constants.ensures at c.method_code.ensures
