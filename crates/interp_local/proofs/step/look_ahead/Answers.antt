use Rattle.std.proofs.Common.{◌≤◌, length, slice_get, refl, sym, ap, ◌∙◌}
use Rattle.std.proofs.lemmas.Option.{slice_get_read, slice_get_past}
use Rattle.interp_local.specs.Frames.{frame_now}
use Rattle.interp_local.specs.Steps.{kind_of, row_at}
use Rattle.interp_local.proofs.KindLemmas.{kind_is}
use Rattle.interp_local.proofs.step.look_ahead.Goals as goal

pub returns-in-Some : goal.returns-in-Some
returns-in-Some g c =
    let lookup = c.in-Some.ensures.lookup in
    let found = ap (slice_get c.args.steps.now) (sym c.step.ensures) ∙ slice_get_read c.args.steps.now (length c.args.steps.now) c.step.result c.in-Some.instruction.now refl lookup.3.0 lookup.1 in
    c.kind.ensures
    ∙ sym (kind_is c.args.frames.now c.effect.result c.effect.ensures.fits)
    ∙ ap kind_of (sym c.effect.ensures.row)
    ∙ ap (λ i. kind_of (row_at (g.P.Constants.units c.args.program.now) (frame_now c.args.frames.now) i)) (sym found)

pub returns-in-None : goal.returns-in-None
returns-in-None g c =
    let past : length c.args.steps.now ≤ c.step.result = c.in-None.ensures.lookup.3 in
    let missing = ap (slice_get c.args.steps.now) (sym c.step.ensures) ∙ slice_get_past c.args.steps.now c.step.result past in
    ap (λ i. kind_of (row_at (g.P.Constants.units c.args.program.now) (frame_now c.args.frames.now) i)) (sym missing)
