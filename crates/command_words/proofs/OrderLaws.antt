-- An order that is read piece by piece.
use Rattle.std.proofs.Common.{◌≡◌, ℕ, ◌+◌, ◌<◌, ◌≤◌, ◌⊎◌, inl, inr, Bool, true, false, cond, leb, List, [], ◌∷◌, ◌++◌, length, Option, Some, None, option_map, refl, ap, sym, ◌∙◌, arith}
use Rattle.std.proofs.lemmas.List.{append_assoc, append-nil, length-append}
use Rattle.std.proofs.lemmas.Bool.{le-leb, lt-leb}
use Rattle.schedules.specs.declared.order.OrderItem.{OrderItem}
use Rattle.command_words.specs.Cut.{pieces}
use Rattle.command_words.specs.Options.{item_of, order_of, each_of}

abbrev pub Items : Type 0
Items = List OrderItem

-- some items, and then others, if there are any
abbrev pub behind_items : Items → Option Items → Option Items
behind_items read others = option_map (λ os. read ++ os) others

-- what is known of an order where some items are read, and the rest isn't
pub record IsReadTo (text : List ℕ) (read : Items) (rest : List ℕ) : Type 0 where
  pub items : each_of item_of (pieces 44 text) ≡ behind_items read (each_of item_of (pieces 44 rest))
  pub count : length (pieces 44 text) ≡ length read + length (pieces 44 rest)

if-few : (t : Bool) → cond {A = Option Items} t None None ≡ None
if-few true = refl
if-few false = refl

order-none : (text : List ℕ) → each_of item_of (pieces 44 text) ≡ None → order_of text ≡ None
order-none text none = rw none (if-few (leb (length (pieces 44 text)) 1000))

order-many : (text : List ℕ) → 1000 < length (pieces 44 text) → order_of text ≡ None
order-many text many = let large : leb (length (pieces 44 text)) 1000 ≡ false = lt-leb _ _ many in rw large refl

order-some : (text : List ℕ) (items : Items) → each_of item_of (pieces 44 text) ≡ Some items → length (pieces 44 text) ≤ 1000 → order_of text ≡ Some items
order-some text items is few = let small : leb (length (pieces 44 text)) 1000 ≡ true = le-leb _ _ few in rw small is

none-behind : (read : Items) (item : List ℕ) (others : List (List ℕ)) → item_of item ≡ None → behind_items read (each_of item_of (item ∷ others)) ≡ None
none-behind read item others none = rw none refl

-- where an item is faulty, or there is no room for one more, there is no order
pub read-usage : (text : List ℕ) (read : Items) (rest item : List ℕ) (others : List (List ℕ)) → IsReadTo text read rest → pieces 44 rest ≡ item ∷ others
    → (item_of item ≡ None) ⊎ (1000 ≤ length read) → order_of text ≡ None
read-usage text read rest item others known are (inl none) = order-none text (known.items ∙ (ap (λ ps. behind_items read (each_of item_of ps)) are ∙ none-behind read item others none))
read-usage text read rest item others known are (inr full) =
    let more : length (pieces 44 rest) ≡ length (item ∷ others) = ap length are in
    let count = known.count in order-many text (omega arith)

append-one : (read : Items) (made : OrderItem) (others : Option Items) → behind_items read (option_map (λ os. made ∷ os) others) ≡ behind_items (read ++ made ∷ []) others
append-one read made None = refl
append-one read made (Some os) = ap (λ l. Some l) (sym (append_assoc read (made ∷ []) os))

one-read : (read : Items) (item : List ℕ) (made : OrderItem) (others : List (List ℕ)) → item_of item ≡ Some made
    → behind_items read (each_of item_of (item ∷ others)) ≡ behind_items (read ++ made ∷ []) (each_of item_of others)
one-read read item made others is = rw is (append-one read made (each_of item_of others))

pub read-more : (text : List ℕ) (read : Items) (rest item behind : List ℕ) (made : OrderItem) → IsReadTo text read rest → pieces 44 rest ≡ item ∷ pieces 44 behind
    → item_of item ≡ Some made → IsReadTo text (read ++ made ∷ []) behind
read-more text read rest item behind made known are is = record {
  items = known.items ∙ (ap (λ ps. behind_items read (each_of item_of ps)) are ∙ one-read read item made (pieces 44 behind) is);
  count =
      let more : length (pieces 44 rest) ≡ length (item ∷ pieces 44 behind) = ap length are in
      let added = length-append read (made ∷ []) in
      let count = known.count in omega arith;
}

append-none : (read : Items) (made : OrderItem) → (read ++ made ∷ []) ++ [] ≡ read ++ made ∷ []
append-none read made = append-nil _

pub read-end : (text : List ℕ) (read : Items) (rest : List ℕ) (made : OrderItem) → IsReadTo text read rest → pieces 44 rest ≡ rest ∷ []
    → item_of rest ≡ Some made → length read < 1000 → order_of text ≡ Some (read ++ made ∷ [])
read-end text read rest made known are is few =
    let more : length (pieces 44 rest) ≡ length (rest ∷ []) = ap length are in
    let count = known.count in
    order-some text _ (known.items ∙ (ap (λ ps. behind_items read (each_of item_of ps)) are ∙ (one-read read rest made [] is ∙ ap (λ l. Some l) (append-none read made)))) (omega arith)
