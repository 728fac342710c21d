use Rattle.std.proofs.Common.{length}
use Rattle.std.proofs.lemmas.Result.{err_from_is_err_and}
use Rattle.code_steps.specs.CodeArray.{IsCodeArray}
use Rattle.code_frames.specs.StackMap.{IsStackMap}
use Rattle.code_decode.specs.Handlers.{AreHandlers, HandlersRefuse}
use Rattle.code_decode.specs.Code.{IsCode, CodeRefuses, StepsRefuse, FramesRefuse}
use Rattle.code_decode.proofs.CodeLaws.{refused_by, steps_refused, handlers_refused, frames_refused, code_read}
use Rattle.code_decode.proofs.PartLaws.{few_steps}
use Rattle.code_decode.proofs.method.code.Goals as goal

pub returns-in_err-steps : goal.returns-in_err-steps
returns-in_err-steps c =
    let p = err_from_is_err_and c.from_residual.result c.from_residual.ensures.1 in
    let pool = c.args.pool.now in
    let a = c.args.attribute.now in
    rw (p.1, p.2)
    (refused_by (IsCodeArray pool a.bytes) (IsCode pool c.args.entry a) (StepsRefuse pool a.bytes) (CodeRefuses pool c.args.entry a) c.in_err-steps.field-0.0
    (steps_refused pool c.args.entry a c.in_err-steps.field-0.0)
    (rw c.as_slice-bytes.ensures at c.in_err-steps.ensures))

pub returns-in_err-handlers : goal.returns-in_err-handlers
returns-in_err-handlers c =
    let p = err_from_is_err_and c.from_residual-in_err-handlers.result c.from_residual-in_err-handlers.ensures.1 in
    let pool = c.args.pool.now in
    let a = c.args.attribute.now in
    let steps = c.in_ok-steps.steps in
    rw (p.1, p.2)
    (refused_by (AreHandlers pool steps (length a.bytes) a.handlers) (IsCode pool c.args.entry a) (HandlersRefuse pool steps (length a.bytes) a.handlers) (CodeRefuses pool c.args.entry a) c.in_err-handlers.field-0.0
    (handlers_refused pool c.args.entry a steps c.in_err-handlers.field-0.0 (rw c.as_slice-bytes.ensures at c.in_ok-steps.ensures))
    (rw (c.constants-constants.ensures, c.as_slice-bytes.ensures, c.as_slice.ensures) at c.in_err-handlers.ensures))

pub returns-in_err-frames : goal.returns-in_err-frames
returns-in_err-frames c =
    let p = err_from_is_err_and c.from_residual-in_err-frames.result c.from_residual-in_err-frames.ensures.1 in
    let pool = c.args.pool.now in
    let a = c.args.attribute.now in
    let steps = c.in_ok-steps.steps in
    rw (p.1, p.2)
    (refused_by (IsStackMap pool steps c.args.entry a.maps) (IsCode pool c.args.entry a) (FramesRefuse pool steps c.args.entry a.maps) (CodeRefuses pool c.args.entry a) c.in_err-frames.field-0.0
    (frames_refused pool c.args.entry a steps c.in_ok-handlers.handlers c.in_err-frames.field-0.0 (rw c.as_slice-bytes.ensures at c.in_ok-steps.ensures) (rw (c.constants-constants.ensures, c.as_slice-bytes.ensures, c.as_slice.ensures) at c.in_ok-handlers.ensures))
    (rw (c.constants-constants.ensures, c.as_slice-2.ensures) at c.in_err-frames.ensures))

pub returns : goal.returns
returns c = code_read c.args.pool.now c.args.entry c.args.attribute.now c.in_ok-steps.steps c.in_ok-handlers.handlers c.in_ok-frames.frames (rw c.as_slice-bytes.ensures at c.in_ok-steps.ensures) (rw (c.constants-constants.ensures, c.as_slice-bytes.ensures, c.as_slice.ensures) at c.in_ok-handlers.ensures) (rw (c.constants-constants.ensures, c.as_slice-2.ensures) at c.in_ok-frames.ensures)

pub handlers-requires-clause-steps : goal.handlers-requires-clause-steps
handlers-requires-clause-steps c = few_steps c.args.pool.now c.as_slice-bytes.result.now c.in_ok-steps.steps c.in_ok-steps.ensures.right
