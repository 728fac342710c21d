use Rattle.std.proofs.Common.{sym, ap, ◌∙◌}
use Rattle.type_rules.specs.declared.types.VerificationType.{VerificationType}
use Rattle.type_rules.specs.Assignable.{is_same_type}
use Rattle.typing_frames.specs.Frames.{shown}
use Rattle.step_frames.proofs.Initialized.{kept_where_known}
use Rattle.step_frames.proofs.made.initialize.Goals as goal

pub returns-then-is_same_type-clause-shown : goal.returns-then-is_same_type-clause-shown
returns-then-is_same_type-clause-shown g c =
    kept_where_known (g.W.MethodWorld.environment c.args.world.now) c.args.word (shown c.args.stores.now c.args.frame)
    (ap (λ (w : VerificationType). is_same_type c.args.word w) (sym c.initialized-known.ensures) ∙ (sym c.is_same_type.ensures ∙ c.if-is_same_type.true))
