use Rattle.class_read.proofs.read.kept_fields.Goals as goal

pub returns : goal.returns
returns c = rw c.as_slice-members.ensures at c.fields.ensures
