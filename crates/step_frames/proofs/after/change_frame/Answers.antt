use Rattle.step_frames.specs.Tops.{words_on_top}
use Rattle.step_frames.proofs.Tops.{room_left}
use Rattle.step_frames.proofs.after.change_frame.Goals as goal

pub replace_top-requires-clause-room : goal.replace_top-requires-clause-room
replace_top-requires-clause-room c =
    room_left (words_on_top c.args.change.top) c.args.stores.now c.args.frame c.args.change.taken c.args.stores.now.stacks.most c.requires.taken c.requires.room
