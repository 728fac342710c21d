-- The table of instructions, and the same with a place for each number.
use Rattle.std.proofs.Common.{◌≡◌, ◌+◌, ◌<◌, ◌≤◌, ℕ, Bool, true, false, cond, nat_eq, nat_lt, List, [], ◌∷◌, length, get_or, map, refl, sym, ap, ◌∙◌, arith, inl, inr, drop, drop-cons, add-one}
use Rattle.std.specs.Prelude.{Option, Some, None, slice_get, find, bytes_eq, ◌⊎◌}
use Rattle.std.specs.List.{All, range_with_len, filter_map}
use Rattle.std.specs.Option.{option_map, option_flatten}
use Rattle.std.proofs.lemmas.Bool.{eqb-true, ltb-true}
use Rattle.std.proofs.lemmas.List.Elements.{All-nil, All-cons, All-head, All-tail, All-weaker}
use Rattle.std.proofs.lemmas.List.FromFn.{length-map-range_with_len, get_or-map-range_with_len}
use Rattle.std.proofs.lemmas.Option.{slice_get-map, slice_get-get_or, slice_get_past}
use Rattle.instructions.specs.declared.form.Row.{Row}
use Rattle.instructions.specs.Table.{Instruction, table, row_numbered, row_named, shown_row, numbered_rows, first_named}

-- where no entry passes, none is found
find-none : {X : Type 0} (p : X → Bool) (xs : List X) → All (λ x. p x ≡ false) xs → find p xs ≡ None
find-none p [] all = refl
find-none p (x ∷ xs) all = rw (All-head (λ x. p x ≡ false) x xs all) (find-none p xs (All-tail (λ x. p x ≡ false) x xs all))

-- a test that each entry passes
All-test : {X : Type 0} (p : X → Bool) (xs : List X) → map p xs ≡ map (λ _. true) xs → All (λ x. p x ≡ true) xs
All-test p [] pass = All-nil (λ x. p x ≡ true)
All-test p (x ∷ xs) pass = All-cons (λ x. p x ≡ true) x xs (cc) (All-test p xs (cc))

numbers_are_small : All (λ i. nat_lt i.number 202 ≡ true) table
unfolding table
numbers_are_small = All-test (λ (i : Instruction). nat_lt i.number 202) table refl

other_number : (n : ℕ) → 202 ≤ n → (i : Instruction) → nat_lt i.number 202 ≡ true → nat_eq i.number n ≡ false
other_number n high i small =
    let low : i.number < 202 = ltb-true i.number 202 small in
    let at : (b : Bool) → nat_eq i.number n ≡ b → nat_eq i.number n ≡ false =
    λ b. elim b as (λ b. nat_eq i.number n ≡ b → nat_eq i.number n ≡ false)
    [ true ↦ λ e. let same : i.number ≡ n = eqb-true i.number n e in absurd (omega arith) | false ↦ λ e. e ] in
    at (nat_eq i.number n) refl

-- no instruction has a number from 202 on
pub row_numbered-past : (n : ℕ) → 202 ≤ n → row_numbered n ≡ None
row_numbered-past n high =
    find-none (λ (i : Instruction). nat_eq i.number n) table
    (All-weaker (λ (i : Instruction). nat_lt i.number 202 ≡ true) (λ i. nat_eq i.number n ≡ false) (other_number n high) table numbers_are_small)

-- the place of a number has its row
slice_get-numbered_rows : (n : ℕ) → n < 202 → slice_get numbered_rows n ≡ Some (row_numbered n)
unfolding numbered_rows
slice_get-numbered_rows n low =
    let size : length (map row_numbered (range_with_len 0 202)) ≡ 202 = length-map-range_with_len row_numbered 0 202 in
    slice_get-get_or (map row_numbered (range_with_len 0 202)) n None (omega arith)
    ∙ ap (λ o. Some o) (get_or-map-range_with_len row_numbered 0 202 n n None low (omega arith))

slice_get-numbered_rows-past : (n : ℕ) → 202 ≤ n → slice_get numbered_rows n ≡ None
unfolding numbered_rows
slice_get-numbered_rows-past n high =
    let size : length (map row_numbered (range_with_len 0 202)) ≡ 202 = length-map-range_with_len row_numbered 0 202 in
    slice_get_past (map row_numbered (range_with_len 0 202)) n (omega arith)

looked_up : (n : ℕ) → (n < 202) ⊎ (202 ≤ n) → option_flatten (slice_get numbered_rows n) ≡ row_numbered n
looked_up n side =
    elim side as (λ _. option_flatten (slice_get numbered_rows n) ≡ row_numbered n) [
      | inl low ↦ rw (slice_get-numbered_rows n low) refl
      | inr high ↦ rw (slice_get-numbered_rows-past n high) (sym (row_numbered-past n high))
    ]

map-flat : {X Y : Type 0} (f : X → Y) (o : Option (Option X)) → option_map f (option_flatten o) ≡ option_flatten (option_map (option_map f) o)
map-flat f None = refl
map-flat f (Some o) = refl

-- the row at a number's place is the number's
pub shown-at : (rows : List (Option Row)) (n : ℕ) → map (option_map shown_row) rows ≡ numbered_rows → option_map shown_row (option_flatten (slice_get rows n)) ≡ row_numbered n
shown-at rows n same =
    map-flat shown_row (slice_get rows n)
    ∙ ap (option_flatten) (sym (slice_get-map (option_map shown_row) rows n) ∙ ap (λ xs. slice_get xs n) same)
    ∙ looked_up n (grind arith)

present : numbered_rows ≡ numbered_rows → filter_map (λ o. o) numbered_rows ≡ table
unfolding numbered_rows table
present _ = refl

first_named-shown : (m : List ℕ) (rows : List (Option Row)) → option_map shown_row (first_named m rows) ≡ find (λ i. bytes_eq i.mnemonic m) (filter_map (λ o. o) (map (option_map shown_row) rows))
first_named-shown m [] = refl
first_named-shown m (None ∷ rows) = first_named-shown m rows
first_named-shown m (Some r ∷ rows) =
    elim (bytes_eq r.mnemonic.now m) as (λ b. option_map shown_row (cond b (Some r) (first_named m rows)) ≡ cond b (Some (shown_row r)) (find (λ i. bytes_eq i.mnemonic m) (filter_map (λ o. o) (map (option_map shown_row) rows))))
    [ true ↦ refl | false ↦ first_named-shown m rows ]

-- the first row that has a mnemonic is the mnemonic's
pub shown-named : (rows : List (Option Row)) (m : List ℕ) → map (option_map shown_row) rows ≡ numbered_rows → option_map shown_row (first_named m rows) ≡ row_named m
shown-named rows m same =
    first_named-shown m rows
    ∙ ap (λ xs. find (λ i. bytes_eq i.mnemonic m) (filter_map (λ o. o) xs)) same
    ∙ ap (find (λ i. bytes_eq i.mnemonic m)) (present refl)

-- the first row of a mnemonic from a place on: the row there, if there is one, is looked at before the rest
pub first_named-next : (m : List ℕ) (rows : List (Option Row)) (i : ℕ) (o : Option Row) → i < length rows → o ≡ get_or rows i o → first_named m (o ∷ drop (i + 1) rows) ≡ first_named m (drop i rows)
first_named-next m rows i o within is = rw (add-one, drop-cons rows i o within, ← is) refl
