use Rattle.std.proofs.Common.{refl}
use Rattle.class_walk.specs.declared.class.Constant.TheVariants.{IfaceMethod}
use Rattle.assembler_pool.specs.Uses.{class_entry, pair_entry, member_entry}
use Rattle.assembler_pool.proofs.UseLaws.{stopped_at_first, stopped_at_second, joined}
use Rattle.assembler_pool.proofs.ItemLaws.{class_kept, pair_kept}
use Rattle.assembler_pool.proofs.maker.PoolMaker.interface_method.Goals as goal

pub returns-in_err-class : goal.returns-in_err-class
unfolding member_entry
returns-in_err-class c =
    let a = c.args in
    stopped_at_first (class_entry a.class.now) (pair_entry a.name.now a.descriptor.now) (λ i p. IfaceMethod i p) (class_kept a.class.now) (pair_kept a.name.now a.descriptor.now) (λ i p. refl)
    a.self.now c.class.new.self c.from_residual.result c.in_err-class.field-0.0 c.from_residual.ensures.1 c.in_err-class.ensures

pub returns-in_err-pair : goal.returns-in_err-pair
unfolding member_entry
returns-in_err-pair c =
    let a = c.args in
    stopped_at_second (class_entry a.class.now) (pair_entry a.name.now a.descriptor.now) (λ i p. IfaceMethod i p) (class_kept a.class.now) (pair_kept a.name.now a.descriptor.now) (λ i p. refl)
    a.self.now c.class.new.self c.pair.new.self c.in_ok-class.class c.from_residual-in_err-pair.result c.in_err-pair.field-0.0 c.from_residual-in_err-pair.ensures.1 c.in_ok-class.ensures c.in_err-pair.ensures

pub returns : goal.returns
unfolding member_entry
returns c =
    let a = c.args in
    joined (class_entry a.class.now) (pair_entry a.name.now a.descriptor.now) (λ i p. IfaceMethod i p) (class_kept a.class.now) (pair_kept a.name.now a.descriptor.now) (λ i p. refl)
    a.self.now c.class.new.self c.pair.new.self c.other.new.self c.in_ok-class.class c.in_ok-pair.pair c.other.result c.in_ok-class.ensures c.in_ok-pair.ensures c.other.ensures
