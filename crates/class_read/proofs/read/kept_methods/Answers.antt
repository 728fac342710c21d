use Rattle.class_read.proofs.read.kept_methods.Goals as goal

pub returns : goal.returns
returns c = rw c.as_slice-members.ensures at c.methods.ensures
