-- What a turn leaves of an order, by its first item, and what is dropped before it.
use Rattle.std.proofs.Common.{◌≡◌, ℕ, Bool, true, ◌&&◌, cond, List, [], ◌∷◌, ◌++◌, drop, Option, Some, None, refl, sym, ap, ◌∙◌}
use Rattle.std.specs.Prelude.{slice_get}
use Rattle.schedules.specs.declared.order.OrderItem.{OrderItem}
use Rattle.schedules.specs.declared.order.TurnEnd.{TurnEnd}
use Rattle.schedules.specs.Schedule.{thread_of, has_turns, items_of, item_after, order_of, order_after, due, Rest, rest_due}

pub order_after_first : (order : List OrderItem) (item : OrderItem) (end : TurnEnd) (left : Option OrderItem) → Some item ≡ slice_get order 0 → items_of left ≡ item_after item end → order_of left (drop 1 order) ≡ order_after order end
order_after_first [] item end left first is = cc
order_after_first (x ∷ order) item end left first is =
    let same : item ≡ x = cc in ap (λ y. y ++ drop 1 (x ∷ order)) (is ∙ ap (λ y. item_after y end) same)

pub order_after_none : (order : List OrderItem) (end : TurnEnd) → None ≡ slice_get order 0 → order ≡ order_after order end
order_after_none [] end first = refl
order_after_none (x ∷ order) end first = cc

-- nothing is dropped where the first item gives the next turn, or there is none
pub rest_due_first : (live : ℕ → Bool) (rest : Rest) (item : OrderItem) → Some item ≡ slice_get rest.order 0 → has_turns item ≡ true → live (thread_of item) ≡ true → rest ≡ rest_due live rest
rest_due_first live rest item first turns lives = ap (λ order. record rest { order = order }) (of rest.order first)
  where
    of : (order : List OrderItem) → Some item ≡ slice_get order 0 → order ≡ due live order
    of [] first = cc
    of (x ∷ order) first =
        let same : item ≡ x = cc in
        let here : (has_turns x && live (thread_of x)) ≡ true = ap (λ y. has_turns y && live (thread_of y)) (sym same) ∙ ap (λ b. b && live (thread_of item)) turns ∙ lives in
        ap (λ b. cond b (x ∷ order) (due live order)) (sym here)

pub rest_due_none : (live : ℕ → Bool) (rest : Rest) → None ≡ slice_get rest.order 0 → rest ≡ rest_due live rest
rest_due_none live rest first = ap (λ order. record rest { order = order }) (of rest.order first)
  where
    of : (order : List OrderItem) → None ≡ slice_get order 0 → order ≡ due live order
    of [] first = refl
    of (x ∷ order) first = cc
