use Rattle.std.proofs.Common.{◌∙◌, map, ap}
use Rattle.std.proofs.lemmas.Result.{IfOk-weaker}
use Rattle.java_machine.specs.Lines.{line_bytes}
use Rattle.java_run.proofs.checking.lines_of.Goals as goal

pub returns : goal.returns
returns g c =
    let bytes_of = line_bytes c.args.world.now c.in_ok-made.made in
    IfOk-weaker c.printed.result _ _ (λ lines is. (
      c.in_ok-made.made,
      c.in_ok-made.ensures,
      is ∙ ap (λ made. map (line_bytes c.args.world.now made) c.as_slice-2.result.now) c.as_slice.ensures ∙ ap (map bytes_of) (c.as_slice-2.ensures ∙ c.lines.ensures),
    )) c.printed.ensures
