use Rattle.builtin_facts.proofs.NativeLaws.{runs}
use Rattle.builtin_facts.proofs.laws.runs_take_nothing.Goals as goal

pub returns : goal.returns
returns c us = runs us
