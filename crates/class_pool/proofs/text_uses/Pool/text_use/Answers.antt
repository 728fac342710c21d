use Rattle.std.proofs.Common.{subst, sym, List}
use Rattle.std.specs.Prelude.{MatchOption}
use Rattle.class_walk.specs.declared.class.Constant.{Constant}
use Rattle.class_pool.specs.PoolRules.{IsText}
use Rattle.class_pool.specs.TextUses.{IsUseAt, AreUsesOf}
use Rattle.class_pool.specs.declared.text_uses.TextUse.{TextUse}
use Rattle.class_pool.proofs.text_uses.Pool.text_use.Goals as goal

pub use_in-requires : goal.use_in-requires
use_in-requires c =
    let P : List TextUse → Type 0 = λ uses. AreUsesOf c.self.inside.constants.now uses in
    subst P (sym c.as_slice.ensures.value) c.self.invariant

pub returns : goal.returns
returns c =
    let P : List Constant → Type 0 = λ pool. MatchOption c.use_in.result (IsText pool c.args.index → ⊥) (IsUseAt pool c.args.index) in
    subst P c.self.view_is c.use_in.ensures
