use Rattle.std.proofs.Common.{arith}
use Rattle.type_rules.specs.Wants.{wants, words_wanted}
use Rattle.typing_frames.specs.Frames.{shown}
use Rattle.step_frames.proofs.Ready.{ready, depth_of}
use Rattle.step_frames.proofs.step.after_instruction.Goals as goal

pub frame_behind-requires : goal.frame_behind-requires
frame_behind-requires g c =
    let env = g.W.MethodWorld.environment c.args.world.now in
    let f = shown c.args.stores.now c.args.frame in
    let known = ready env c.args.instruction.now f c.requires.right in
    record {
      frame = c.requires.frame;
      array = c.requires.array;
      wanted = depth_of c.args.stores.now c.args.frame (words_wanted (wants env c.args.instruction.now.what)) known.wanted;
      locals = known.locals;
      most = c.requires.locals;
      room = omega (arith, known.room, c.requires.stack);
    }
