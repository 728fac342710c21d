use Rattle.type_lists.proofs.set.+set_in.Given as goal

abbrev pub decreases-set_in : goal.decreases-set_in
decreases-set_in l = l.height
