use Rattle.std.proofs.Common.{refl}
use Rattle.class_walk.specs.declared.class.Constant.TheVariants.{Utf8, Class}
use Rattle.assembler_pool.specs.Uses.{entry, class_entry}
use Rattle.assembler_pool.proofs.UseLaws.{entry_kept, makes_then, makes_stopped}
use Rattle.assembler_pool.proofs.maker.PoolMaker.class.Goals as goal

pub returns-in_err-text : goal.returns-in_err-text
unfolding class_entry
returns-in_err-text c =
    makes_stopped (entry (Utf8 c.args.name.now)) (λ n. entry (Class n)) c.args.self.now c.utf8-2.new.self c.from_residual.result c.in_err-text.field-0.0
    (λ n. entry_kept (Class n) refl) c.from_residual.ensures.1 c.in_err-text.ensures

pub returns : goal.returns
unfolding class_entry
returns c =
    makes_then (entry (Utf8 c.args.name.now)) (λ n. entry (Class n)) c.args.self.now c.utf8-2.new.self c.other.new.self c.in_ok-text.text c.other.result
    (entry_kept (Utf8 c.args.name.now) refl) c.in_ok-text.ensures c.other.ensures
