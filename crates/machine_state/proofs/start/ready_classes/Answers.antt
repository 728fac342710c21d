use Rattle.machine_tables.specs.Tables.{classes_in}
use Rattle.machine_state.proofs.StartLemmas.{ready_next}
use Rattle.machine_state.proofs.start.ready_classes.Goals as goal

pub loop-class-preserved : goal.loop-class-preserved
loop-class-preserved c =
    ready_next c.args.ready.now c.loop-class.class-index 0 (classes_in c.loop-class.classes) (classes_in c.set.new.self)
    c.loop-class-test.true c.loop-class.invariant c.in_ok-set.ensures.ok
