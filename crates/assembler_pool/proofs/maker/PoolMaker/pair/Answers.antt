use Rattle.std.proofs.Common.{refl}
use Rattle.class_walk.specs.declared.class.Constant.TheVariants.{Utf8, Pair}
use Rattle.assembler_pool.specs.Uses.{entry, pair_entry}
use Rattle.assembler_pool.proofs.UseLaws.{entry_kept, stopped_at_first, stopped_at_second, joined}
use Rattle.assembler_pool.proofs.maker.PoolMaker.pair.Goals as goal

pub returns-in_err-name : goal.returns-in_err-name
unfolding pair_entry
returns-in_err-name c =
    let name = Utf8 c.args.name.now in
    let descriptor = Utf8 c.args.descriptor.now in
    stopped_at_first (entry name) (entry descriptor) (λ n d. Pair n d) (entry_kept name refl) (entry_kept descriptor refl) (λ n d. refl)
    c.args.self.now c.utf8-2.new.self c.from_residual.result c.in_err-name.field-0.0 c.from_residual.ensures.1 c.in_err-name.ensures

pub returns-in_err-descriptor : goal.returns-in_err-descriptor
unfolding pair_entry
returns-in_err-descriptor c =
    let name = Utf8 c.args.name.now in
    let descriptor = Utf8 c.args.descriptor.now in
    stopped_at_second (entry name) (entry descriptor) (λ n d. Pair n d) (entry_kept name refl) (entry_kept descriptor refl) (λ n d. refl)
    c.args.self.now c.utf8-2.new.self c.utf8-2-2.new.self c.in_ok-name.name c.from_residual-in_err-descriptor.result c.in_err-descriptor.field-0.0 c.from_residual-in_err-descriptor.ensures.1 c.in_ok-name.ensures c.in_err-descriptor.ensures

pub returns : goal.returns
unfolding pair_entry
returns c =
    let name = Utf8 c.args.name.now in
    let descriptor = Utf8 c.args.descriptor.now in
    joined (entry name) (entry descriptor) (λ n d. Pair n d) (entry_kept name refl) (entry_kept descriptor refl) (λ n d. refl)
    c.args.self.now c.utf8-2.new.self c.utf8-2-2.new.self c.other.new.self c.in_ok-name.name c.in_ok-descriptor.descriptor c.other.result c.in_ok-name.ensures c.in_ok-descriptor.ensures c.other.ensures
