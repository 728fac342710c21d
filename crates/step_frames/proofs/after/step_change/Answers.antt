use Rattle.type_rules.specs.Wants.{wants, words_wanted}
use Rattle.typing_frames.specs.Frames.{shown}
use Rattle.step_frames.proofs.Tops.{deep_enough}
use Rattle.step_frames.proofs.after.step_change.Goals as goal

pub top_behind-top-requires-clause-wanted : goal.top_behind-top-requires-clause-wanted
top_behind-top-requires-clause-wanted g c =
    deep_enough (words_wanted (wants (g.W.MethodWorld.environment c.args.world.now) c.args.instruction.now.what))
    (shown c.new-read.result.stores.now c.new-read.result.frame) c.args.stores.now c.args.frame c.new-read.ensures c.requires.wanted
