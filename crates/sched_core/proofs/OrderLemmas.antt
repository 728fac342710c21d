-- What silent turns of an order's first item leave of it.
use Rattle.std.proofs.Common.{◌≡◌, ℕ, zero, suc, ◌-◌, ◌<◌, Bool, true, cond, false, List, [], ◌∷◌, slice_get, refl, ◌∙◌, ap, arith, lt-ltb}
use Rattle.std.proofs.lemmas.Bool.{and_from}
use Rattle.schedules.specs.declared.order.OrderItem.{OrderItem}
use Rattle.schedules.specs.declared.order.OrderItem.TheVariants.{Turns, Until}
use Rattle.schedules.specs.declared.order.TurnEnd.TheVariants.{Other}
use Rattle.schedules.specs.Schedule.{thread_of, has_turns, due, order_after}
use Rattle.sched_core.specs.ScheduledRun.{CanGive, counts_turns, order_left}

-- the item after k of its turns
abbrev pub item_left : ℕ → OrderItem → OrderItem
item_left k (Turns t n) = Turns t (n - k)
item_left k (Until t kind) = Until t kind

one_left : (k : ℕ) (item : OrderItem) (others : List OrderItem) → order_after (item_left k item ∷ others) Other ≡ item_left (suc k) item ∷ others
one_left k (Turns t n) others = let less : n - k - 1 ≡ n - suc k = omega arith in ap (λ m. Turns t m ∷ others) less
one_left k (Until t kind) others = refl

pub all_left : (k : ℕ) (item : OrderItem) (others : List OrderItem) → order_left k (item ∷ others) ≡ item_left k item ∷ others
all_left zero (Turns t n) others = let same : n ≡ n - 0 = omega arith in ap (λ m. Turns t m ∷ others) same
all_left zero (Until t kind) others = refl
all_left (suc k) item others = ap (λ order. order_after order Other) (all_left k item others) ∙ one_left k item others

left_turns : (n k : ℕ) (item : OrderItem) → CanGive n item → k < n → has_turns (item_left k item) ≡ true
left_turns n k (Turns t m) gives below = lt-ltb 0 (m - k) (omega (arith, gives, below))
left_turns n k (Until t kind) gives below = refl

pub left_thread : (k : ℕ) (item : OrderItem) → thread_of (item_left k item) ≡ thread_of item
left_thread k (Turns t n) = refl
left_thread k (Until t kind) = refl

-- while the item can give more, and its thread is live, it is due
pub left_due : (live : ℕ → Bool) (n k : ℕ) (item : OrderItem) (others : List OrderItem) → CanGive n item → k < n → live (thread_of item) ≡ true → due live (item_left k item ∷ others) ≡ item_left k item ∷ others
left_due live n k item others gives below lives =
    ap (λ b. cond b (item_left k item ∷ others) (due live others))
    (and_from (has_turns (item_left k item)) (live (thread_of (item_left k item))) (left_turns n k item gives below) (ap live (left_thread k item) ∙ lives))

-- turns of an item that doesn't count them leave all of it
pub uncounted_stays : (n : ℕ) (order : List OrderItem) → counts_turns (slice_get order 0) ≡ false → order_left n order ≡ order
uncounted_stays zero order uncounted = refl
uncounted_stays (suc n) [] uncounted = ap (λ order. order_after order Other) (uncounted_stays n [] uncounted)
uncounted_stays n (Until t kind ∷ others) uncounted = all_left n (Until t kind) others
uncounted_stays n (Turns t k ∷ others) uncounted = absurd (cc)
