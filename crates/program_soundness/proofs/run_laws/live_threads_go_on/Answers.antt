use Rattle.program_soundness.proofs.SoundnessLaws.{live_threads}
use Rattle.program_soundness.proofs.run_laws.live_threads_go_on.Goals as goal

pub returns : goal.returns
returns c us accepted room follow = live_threads us accepted room follow
