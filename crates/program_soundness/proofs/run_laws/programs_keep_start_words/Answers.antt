use Rattle.program_soundness.proofs.SoundnessLaws.{start_words}
use Rattle.program_soundness.proofs.run_laws.programs_keep_start_words.Goals as goal

pub returns : goal.returns
returns c us accepted room follow = start_words us accepted room follow
