use Rattle.step_faults.proofs.Puts.{put_moved, put_pushed}
use Rattle.step_faults.proofs.room.words_put.Goals as goal

pub returns-in-Some : goal.returns-in-Some
returns-in-Some g c =
    put_moved (g.W.MethodWorld.environment c.args.world.now) c.args.what.now c.in-Some.operation c.words_moved.result
    (cc) c.words_moved.ensures

pub returns-in-None : goal.returns-in-None
returns-in-None g c =
    put_pushed (g.W.MethodWorld.environment c.args.world.now) c.args.what.now c.words_pushed.result (cc) c.words_pushed.ensures
