use Rattle.std.proofs.Common.{◌≡◌, ℕ, zero, suc, List, [], ◌∷◌, ◌++◌, take, ap, sym, ◌∙◌, add-one}
use Rattle.std.specs.Mem.Slots.{slots_items}
use mathlib.Core.Option.{some, some-injective, some-ne-none}
use lib.ListN.{get_elem?}
use Rattle.table_words.proofs.finish.copy_words.Goals as goal

take_at : (l : List ℕ) (i x : ℕ) → get_elem? l i ≡ some x → take (suc i) l ≡ take i l ++ x ∷ []
take_at [] i x e = absurd (some-ne-none x (sym e))
take_at (y ∷ l) zero x e = ap (λ z. z ∷ []) (some-injective y x e)
take_at (y ∷ l) (suc i) x e = ap (λ m. y ∷ m) (take_at l i x e)

pub loop-i-preserved : goal.loop-i-preserved
loop-i-preserved c =
    let l = slots_items c.args.closed.now.words in
    let i = c.loop-i.i in
    let x = c.word.result in (
      c.push_reserved.ensures.items ∙ ap (λ (m : List ℕ). m ++ x ∷ []) c.loop-i.invariant.0 ∙ sym (take_at l i x c.word.ensures) ∙ ap (λ n. take n l) (sym (add-one i)),
      rw c.push_reserved.ensures.capacity c.loop-i.invariant.1,
    )
