-- What is left of an order: which item is due, and how many turns the items can still give.
use Rattle.std.proofs.Common.{◌≡◌, ℕ, zero, suc, ◌+◌, ◌-◌, ◌<◌, ◌≤◌, Bool, true, false, cond, ◌&&◌, List, [], ◌∷◌, refl, ◌∙◌, ap, subst, arith, lt-ltb}
use Rattle.std.proofs.lemmas.Bool.{and_parts, and_from}
use Rattle.schedules.specs.declared.order.OrderItem.{OrderItem}
use Rattle.schedules.specs.declared.order.OrderItem.TheVariants.{Turns, Until}
use Rattle.schedules.specs.declared.order.TurnEnd.TheVariants.{Other, Blocked}
use Rattle.schedules.specs.Schedule.{thread_of, has_turns, due, order_after, Rest, rest_due}
use Rattle.ordinary_runs.specs.ScheduledRun.{CanGive, order_behind}

-- an item that is due has turns and a live thread
pub record IsDue (live : ℕ → Bool) (item : OrderItem) : Type 0 where
  pub turns : has_turns item ≡ true
  pub lives : live (thread_of item) ≡ true

first_due : (live : ℕ → Bool) (x item : OrderItem) (order others : List OrderItem) (b : Bool) → (has_turns x && live (thread_of x)) ≡ b
    → cond b (x ∷ order) (due live order) ≡ item ∷ others → (due live order ≡ item ∷ others → IsDue live item) → IsDue live item
first_due live x item order others true test is later =
    let same : x ≡ item = cc in
    let parts = and_parts (has_turns x) (live (thread_of x)) test in
    subst (IsDue live) same (record { turns = parts.0; lives = parts.1 })
first_due live x item order others false test is later = later is

pub due_first : (live : ℕ → Bool) (order : List OrderItem) (item : OrderItem) (others : List OrderItem) → due live order ≡ item ∷ others → IsDue live item
due_first live [] item others is = absurd (cc)
due_first live (x ∷ order) item others is =
    first_due live x item order others (has_turns x && live (thread_of x)) refl is (due_first live order item others)

-- an order whose first item is due stays as it is
pub due_stays : (live : ℕ → Bool) (item : OrderItem) (others : List OrderItem) → IsDue live item → due live (item ∷ others) ≡ item ∷ others
due_stays live item others is = ap (λ b. cond b (item ∷ others) (due live others)) (and_from (has_turns item) (live (thread_of item)) is.turns is.lives)

due_again : (live : ℕ → Bool) (order left : List OrderItem) → due live order ≡ left → due live left ≡ left
due_again live order [] is = refl
due_again live order (item ∷ others) is = due_stays live item others (due_first live order item others is)

-- nothing more is dropped of what is due
pub due_twice : (live : ℕ → Bool) (rest : Rest) → rest_due live (rest_due live rest) ≡ rest_due live rest
due_twice live rest = ap (λ order. record rest { order = order }) (due_again live rest.order (due live rest.order) refl)

-- how many turns an order can still give that don't count: an item `Until` gives one at most
abbrev pub item_turns : OrderItem → ℕ
item_turns (Turns t n) = n
item_turns (Until t kind) = 1

abbrev pub order_turns : List OrderItem → ℕ
order_turns [] = 0
order_turns (item ∷ order) = item_turns item + order_turns order

pub due_no_more : (live : ℕ → Bool) (order : List OrderItem) → order_turns (due live order) ≤ order_turns order
due_no_more live [] = omega arith
due_no_more live (item ∷ order) =
    let later : order_turns (due live order) ≤ order_turns order = due_no_more live order in
    elim (has_turns item && live (thread_of item)) as (λ b. order_turns (cond b (item ∷ order) (due live order)) ≤ item_turns item + order_turns order) [
      | true ↦ omega arith
      | false ↦ omega (arith, later)
    ]

pub other_no_more : (order : List OrderItem) → order_turns (order_after order Other) ≤ order_turns order
other_no_more [] = omega arith
other_no_more (Turns t n ∷ order) = omega arith
other_no_more (Until t kind ∷ order) = omega arith

-- a turn that has to wait is one less
pub blocked_less : (item : OrderItem) (others : List OrderItem) → has_turns item ≡ true → order_turns (order_after (item ∷ others) Blocked) < order_turns (item ∷ others)
blocked_less (Turns t zero) others turns = absurd (cc)
blocked_less (Turns t (suc n)) others turns = omega arith
blocked_less (Until t kind) others turns = omega arith

-- the item after k turns, none of which came to what it asks for
abbrev pub item_behind : ℕ → OrderItem → OrderItem
item_behind k (Turns t n) = Turns t (n - k)
item_behind k (Until t kind) = Until t kind

one_behind : (k : ℕ) (item : OrderItem) (others : List OrderItem) → order_after (item_behind k item ∷ others) Other ≡ item_behind (suc k) item ∷ others
one_behind k (Turns t n) others = let less : n - k - 1 ≡ n - suc k = omega arith in ap (λ m. Turns t m ∷ others) less
one_behind k (Until t kind) others = refl

pub all_behind : (k : ℕ) (item : OrderItem) (others : List OrderItem) → order_behind k (item ∷ others) ≡ item_behind k item ∷ others
all_behind zero (Turns t n) others = let same : n ≡ n - 0 = omega arith in ap (λ m. Turns t m ∷ others) same
all_behind zero (Until t kind) others = refl
all_behind (suc k) item others = ap (λ order. order_after order Other) (all_behind k item others) ∙ one_behind k item others

pub behind_turns : (n k : ℕ) (item : OrderItem) → CanGive n item → k < n → has_turns (item_behind k item) ≡ true
behind_turns n k (Turns t m) gives below = lt-ltb 0 (m - k) (omega (arith, gives, below))
behind_turns n k (Until t kind) gives below = refl

pub behind_thread : (k : ℕ) (item : OrderItem) → thread_of (item_behind k item) ≡ thread_of item
behind_thread k (Turns t n) = refl
behind_thread k (Until t kind) = refl
