use Rattle.class_make.proofs.make.make_class.Goals as goal

pub returns-clause-only : goal.returns-clause-only
returns-clause-only c = rw c.as_bytes.ensures.value at c.assemble.ensures.only
