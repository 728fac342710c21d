use Rattle.std.proofs.Common.{ap, sym, ◌∙◌}
use Rattle.frame_snapshot.specs.FrameStack.{with_word}
use Rattle.java_rows.specs.Thread.{child_of}
use Rattle.interp_calls.specs.Local.{local_of}
use Rattle.interp_calls.proofs.StateLemmas.{program_is}
use Rattle.interp_calls.proofs.java_code.JavaCodeThreadCode.child.Goals as goal

pub returns-clause-state : goal.returns-clause-state
returns-clause-state g c =
    let us = g.P.Constants.units c.args.self.now.program.now in
    let self = c.args.self.now in
    ap (local_of us c.args.object) (c.push_word.ensures ∙ ap (λ s. with_word s c.args.object) c.in_ok-frames.ensures)
    ∙ ap (λ p. child_of p c.args.object) (sym (program_is us self.thread self.frames self.texts self.text))
