use Rattle.class_pool.proofs.UseLaws.{of_same}
use Rattle.class_read.proofs.header.is_class_name_at.Goals as goal

pub returns-in-Some : goal.returns-in-Some
returns-in-Some c =
    let at = c.in-Some.ensures in
    (λ t. (at.0, at.1, at.2.class_name.0 t), λ named. (of_same c.args.pool.now c.args.index c.in-Some.found at named.0 named.1).class_name.1 named.2)
