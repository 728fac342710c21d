use Rattle.program_soundness.proofs.ClassLaws.{numbers_are_words}
use Rattle.program_soundness.proofs.program_laws.numbers_are_words.Goals as goal

pub returns : goal.returns
returns c us order sound room = numbers_are_words us order sound room
