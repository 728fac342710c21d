use Rattle.builtin_facts.proofs.CharArrays.{char_arrays}
use Rattle.builtin_facts.proofs.laws.char_arrays_are_there.Goals as goal

pub returns : goal.returns
returns c us = char_arrays us
