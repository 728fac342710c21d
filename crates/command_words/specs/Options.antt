-- The options of the command line, and what they say.
use Rattle.std.specs.Prelude.{ℕ, ◌≤◌, ◌&&◌, ◌||◌, Bool, true, false, not, List, [], ◌∷◌, length, codes, nat_le, if◌then◌else◌, Option, None, Some, option_map}
use Rattle.std.specs.Option.{option_and_then, option_or}
use Rattle.std.specs.List.{list_any, find}
use Rattle.std.specs.Str.{bytes_eq}
use Rattle.schedules.specs.declared.order.OrderItem.{OrderItem}
use Rattle.schedules.specs.declared.order.OrderItem.TheVariants as items
use Rattle.decimal_numbers.specs.Numbers.{number_up_to}
use Rattle.command_words.specs.Cut.{cut, pieces}
use Rattle.command_words.specs.declared.options.NumberOption.{NumberOption}
use Rattle.command_words.specs.declared.options.NumberOption.TheVariants.{Seed, Turns, Heap, Sections, Workers, Slice}
use Rattle.command_words.specs.declared.options.CommandOption.{CommandOption}
use Rattle.command_words.specs.declared.options.CommandOption.TheVariants.{Number, Order, Counts}

abbrev pub number_name : NumberOption → List ℕ
number_name Seed = codes "--seed"
number_name Turns = codes "--turns"
number_name Heap = codes "--heap"
number_name Sections = codes "--sections"
number_name Workers = codes "--workers"
number_name Slice = codes "--slice"

-- the range of an option's numbers
abbrev pub least : NumberOption → ℕ
least Seed = 0
least Turns = 1
least Heap = 0
least Sections = 0
least Workers = 1
least Slice = 1

abbrev pub most : NumberOption → ℕ
most Seed = 18446744073709551615
most Turns = 1000000000
most Heap = 67108864
most Sections = 16777215
most Workers = 64
most Slice = 1000000

abbrev pub number_between : ℕ → ℕ → List ℕ → Option ℕ
number_between low high text = option_and_then (λ n. if nat_le low n then Some n else None) (number_up_to high text)

-- all of the values, where each text has one
abbrev pub each_of : {A : Type 0} → (List ℕ → Option A) → List (List ℕ) → Option (List A)
each_of value [] = Some []
each_of value (text ∷ texts) = option_and_then (λ a. option_map (λ others. a ∷ others) (each_of value texts)) (value text)

-- T*N
abbrev pub turns_item : List ℕ → Option OrderItem
turns_item text = option_and_then (λ p. option_and_then (λ t. option_map (λ n. items.Turns t n) (number_between 1 1000000 p.1)) (number_between 1 255 p.0)) (cut 42 text)

-- the number of a kind of steps that turns make: 1 to 27, 32 or 33
abbrev pub kind_in : List ℕ → Option ℕ
kind_in text = option_and_then (λ k. if nat_le k 27 || nat_le 32 k then Some k else None) (number_between 1 33 text)

-- T@K
abbrev pub until_item : List ℕ → Option OrderItem
until_item text = option_and_then (λ p. option_and_then (λ t. option_map (λ k. items.Until t k) (kind_in p.1)) (number_between 1 255 p.0)) (cut 64 text)

abbrev pub item_of : List ℕ → Option OrderItem
item_of text = option_or (turns_item text) (until_item text)

-- one to 1,000 items between commas
abbrev pub order_of : List ℕ → Option (List OrderItem)
order_of text = if nat_le (length (pieces 44 text)) 1000 then each_of item_of (pieces 44 text) else None

abbrev pub number_options : List NumberOption
number_options = Seed ∷ Turns ∷ Heap ∷ Sections ∷ Workers ∷ Slice ∷ []

abbrev pub number_option : List ℕ → Option NumberOption
number_option name = find (λ o. bytes_eq (number_name o) name) number_options

-- a number for the option of a name
abbrev pub numbered_option : List ℕ → List ℕ → Option CommandOption
numbered_option name value =
    option_and_then (λ o. option_map (λ n. Number o n) (number_between (least o) (most o) value)) (number_option name)

-- what a name and the text after the equals sign mean
abbrev pub valued_option : List ℕ → List ℕ → Option CommandOption
valued_option name value =
    if bytes_eq name (codes "--order")
    then option_map (λ order. Order order) (order_of value)
    else numbered_option name value

-- what a word says, where it is an option
abbrev pub option_of : List ℕ → Option CommandOption
option_of word =
    if bytes_eq word (codes "--counts") then Some Counts else option_and_then (λ p. valued_option p.0 p.1) (cut 61 word)

abbrev pub option_name : CommandOption → List ℕ
option_name (Number o n) = number_name o
option_name (Order order) = codes "--order"
option_name Counts = codes "--counts"

-- no option is given twice
abbrev pub are_different : List CommandOption → Bool
are_different [] = true
are_different (o ∷ options) = not (list_any (λ p. bytes_eq (option_name o) (option_name p)) options) && are_different options

-- the number that is given for an option
abbrev pub number_in : NumberOption → CommandOption → Option ℕ
number_in o (Number p n) = if bytes_eq (number_name o) (number_name p) then Some n else None
number_in o (Order order) = None
number_in o Counts = None

abbrev pub number_given : NumberOption → List CommandOption → Option ℕ
number_given o [] = None
number_given o (p ∷ options) = option_or (number_in o p) (number_given o options)

-- the order that is given; none without one
abbrev pub order_given : List CommandOption → List OrderItem
order_given [] = []
order_given (Order order ∷ options) = order
order_given (Number o n ∷ options) = order_given options
order_given (Counts ∷ options) = order_given options

abbrev pub is_counts : CommandOption → Bool
is_counts Counts = true
is_counts (Number o n) = false
is_counts (Order order) = false

-- a number is in the range of its option
abbrev pub IsInRange : CommandOption → Type 0
IsInRange (Number o n) = n ≤ most o
IsInRange (Order order) = Unit {0}
IsInRange Counts = Unit {0}
