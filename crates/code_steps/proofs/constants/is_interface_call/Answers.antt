use Rattle.code_steps.proofs.PoolLaws.{interface_member, no_interface}
use Rattle.code_steps.proofs.constants.is_interface_call.Goals as goal

pub returns-in-Some : goal.returns-in-Some
returns-in-Some c =
    interface_member c.args.pool.now c.args.index c.in-Some.pair c.args.count c.args.last c.is_interface_pair.result (rw c.constants.ensures at c.in-Some.ensures) c.is_interface_pair.ensures

pub returns-in-None : goal.returns-in-None
returns-in-None c = no_interface c.args.pool.now c.args.index c.args.count c.args.last (rw c.constants.ensures at c.in-None.ensures)
