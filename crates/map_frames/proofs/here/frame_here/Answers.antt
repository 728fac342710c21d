use Rattle.std.proofs.Common.{◌∙◌, ap, Err}
use Rattle.std.proofs.lemmas.Result.{err_from_is_err_and}
use Rattle.type_rules.specs.TypeFaults.{entry_fault, room_fault, meeting_fault}
use Rattle.typing_frames.specs.declared.stores.CurrentFrame.{CurrentFrame}
use Rattle.map_frames.specs.Here.{shown_if}
use Rattle.map_frames.proofs.HereLaws.{second_broken}
use Rattle.map_frames.proofs.here.frame_here.Goals as goal

pub returns-in_err-map_room-clause-told : goal.returns-in_err-map_room-clause-told
returns-in_err-map_room-clause-told g c = λ env is same maps.
    let p = err_from_is_err_and c.from_residual-in_err-map_room.result c.from_residual-in_err-map_room.ensures.1 in
    let step = c.args.step in
    second_broken (Unit {0}) CurrentFrame (entry_fault env step) (room_fault env (env.map_at step)) (meeting_fault env step (shown_if c.args.stores.now c.args.before) (env.map_at step))
    c.from_residual-in_err-map_room.result c.in_err-map_room.field-0.0 (p.1 ∙ ap Err p.2) (c.in_ok-entry_room.ensures env is) (c.in_err-map_room.ensures.told env c.args.stores.now (env.map_at step) is maps)
