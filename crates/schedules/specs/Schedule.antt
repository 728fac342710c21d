-- Schedules: whose turns the items of an order are, what each turn leaves of them, and which thread a
-- seed picks.
use Rattle.std.specs.Prelude.{ℕ, ◌+◌, ◌-◌, ◌*◌, ◌/◌, ◌%◌, ◌^◌, ◌==◌, ◌&&◌, Bool, true, Option, None, Some, List, [], ◌∷◌, ◌++◌, nat_lt, if◌then◌else◌}
use Rattle.std.specs.Option.{option_map}
use Rattle.schedules.specs.declared.order.OrderItem.{OrderItem}
use Rattle.schedules.specs.declared.order.OrderItem.TheVariants.{Turns, Until}
use Rattle.schedules.specs.declared.order.TurnEnd.{TurnEnd}
use Rattle.schedules.specs.declared.order.TurnEnd.TheVariants.{Made, Other, Blocked, Spent}

-- the thread that gets the item's turns
abbrev pub thread_of : OrderItem → ℕ
thread_of (Turns t n) = t
thread_of (Until t kind) = t

-- the item has turns to give
abbrev pub has_turns : OrderItem → Bool
has_turns (Turns t n) = nat_lt 0 n
has_turns (Until t kind) = true

-- what is left of an item after a turn that came to this
abbrev pub item_after : OrderItem → TurnEnd → List OrderItem
item_after (Turns t n) end = Turns t (n - 1) ∷ []
item_after (Until t kind) (Made made) = if made == kind then [] else Until t kind ∷ []
item_after (Until t kind) Other = Until t kind ∷ []
item_after (Until t kind) Blocked = []
item_after (Until t kind) (Spent limit) = Until t kind ∷ []

-- an item, if there is one
abbrev pub items_of : Option OrderItem → List OrderItem
items_of None = []
items_of (Some item) = item ∷ []

-- what is left of an order after a turn that its first item gave
abbrev pub order_after : List OrderItem → TurnEnd → List OrderItem
order_after [] end = []
order_after (item ∷ order) end = item_after item end ++ order

-- The order from the item on that gives the next turn, given which threads are live: items without
-- turns, and those of threads that aren't live, end at once.
abbrev pub due : (ℕ → Bool) → List OrderItem → List OrderItem
due live [] = []
due live (item ∷ order) = if has_turns item && live (thread_of item) then item ∷ order else due live order

-- the number after x of a linear congruential generator modulo 2^64, with the constants of Knuth's MMIX
abbrev pub next_of : ℕ → ℕ
next_of x = (x * 6364136223846793005 + 1442695040888963407) % 2 ^ 64

-- What is left of a schedule: the items of the order, the first one with the turns that it has still to
-- give, and the last number that was drawn, at first the seed.
pub record Rest : Type 0 where
  pub order : List OrderItem
  pub number : Option ℕ

-- with a seed, the number that the next pick draws
abbrev pub drawn : Option ℕ → Option ℕ
drawn number = option_map next_of number

-- the place of the picked thread among `count` enabled threads, by rising number from place 0: where a
-- number was drawn its upper bits decide, and without one it is the first place
abbrev pub place_of : Option ℕ → ℕ → ℕ
place_of None count = 0
place_of (Some x) count = (x / 2 ^ 33) % count

-- what is left from the item on that gives the next turn, given which threads are live
abbrev pub rest_due : (ℕ → Bool) → Rest → Rest
rest_due live rest = record rest { order = due live rest.order }

-- the last number drawn, once the next turn has its thread: a turn of an item draws none
abbrev pub number_after : List OrderItem → Option ℕ → Option ℕ
number_after [] number = drawn number
number_after (item ∷ order) number = number

-- what a turn that came to this leaves of what was due
abbrev pub rest_after : Rest → TurnEnd → Rest
rest_after rest end = record { order = order_after rest.order end; number = number_after rest.order rest.number }

-- an order of one item, if there is one, and then others
abbrev pub order_of : Option OrderItem → List OrderItem → List OrderItem
order_of item others = items_of item ++ others
