-- Members have the same numbers exactly where they have the same name and descriptor.
use Rattle.std.proofs.Common.{◌≡◌, ℕ, zero, suc, ◌+◌, Bool, true, false, cond, List, [], ◌∷◌, Option, None, Some, slice_get, refl, sym, ◌∙◌, ap, subst, arith}
use Rattle.std.specs.List.{position_from}
use Rattle.std.specs.Option.{option_and_then, option_map}
use Rattle.std.proofs.lemmas.Option.{same_Some, slice_get-map}
use Rattle.class_walk.specs.declared.class.Constant.{Constant}
use Rattle.class_walk.specs.declared.class.Constant.TheVariants.{Utf8}
use Rattle.class_walk.specs.declared.class.RawMember.{RawMember}
use Rattle.class_pool.specs.Pool.{IsUtf8At}
use Rattle.class_read.specs.Repeats.{has_text, number_in, number_of, numbers_of, text_number_at, both, key_of, IsSameText, IsSameSignature, IsRepeated, IsFirstRepeat, HasRepeatedKey, IsFirstRepeatedKey}
use Rattle.class_pool.proofs.PoolLaws.{is_text-Decides}

-- the item at the place that was found passes
passes_there : {X : Type 0} (test : X → Bool) (k : ℕ) (xs : List X) (n : ℕ) → position_from test k xs ≡ Some n → (j : ℕ) × (x : X) × (n ≡ k + j) × (slice_get xs j ≡ Some x) × (test x ≡ true)
passes_there test k [] n e = absurd cc
passes_there {X} test k (x ∷ xs) n e =
    elim (test x) as (λ b. test x ≡ b → cond b (Some k) (position_from test (k + 1) xs) ≡ Some n → (j : ℕ) × (y : X) × (n ≡ k + j) × (slice_get (x ∷ xs) j ≡ Some y) × (test y ≡ true)) [
      | true ↦ λ t f. (zero, x, (let same : k ≡ n = same_Some k n f in omega arith), refl, t)
      | false ↦ λ t f.
          let later = passes_there test (k + 1) xs n f in
          let sum : n ≡ k + 1 + later.0 = later.2 in
          (suc later.0, later.1, omega arith, later.3, later.4)
    ] refl e

-- an item that passes has a place
pub has_place : {X : Type 0} (test : X → Bool) (k : ℕ) (xs : List X) (i : ℕ) (x : X) → slice_get xs i ≡ Some x → test x ≡ true → (n : ℕ) × (position_from test k xs ≡ Some n)
has_place test k [] i x at t = absurd cc
has_place {X} test k (y ∷ ys) zero x at t =
    let same : y ≡ x = same_Some y x at in
    let P : X → Type 0 = λ z. test z ≡ true in
    let passes : test y ≡ true = subst P (sym same) t in
    (k, rw passes refl)
has_place {X} test k (y ∷ ys) (suc i) x at t =
    elim (test y) as (λ b. (n : ℕ) × (cond b (Some k) (position_from test (k + 1) ys) ≡ Some n)) [
      | true ↦ (k, refl)
      | false ↦ has_place test (k + 1) ys i x at t
    ]

-- a number is that of one text alone
number_text : (pool : List Constant) (text : List ℕ) (n : ℕ) → number_in pool text ≡ Some n → IsUtf8At pool n text
number_text pool text n e =
    let p = passes_there (has_text text) 0 pool n e in
    let is : Some p.1 ≡ Some (Utf8 text) = (is_text-Decides text (Some p.1)).0 p.4 in
    let sum : n ≡ 0 + p.0 = p.2 in
    let same : p.0 ≡ n = omega arith in
    let P : ℕ → Type 0 = λ k. slice_get pool k ≡ Some p.1 in
    subst P same p.3 ∙ is

one_text : (pool : List Constant) (x y : List ℕ) (n : ℕ) → number_in pool x ≡ Some n → number_in pool y ≡ Some n → x ≡ y
one_text pool x y n e f =
    let a = number_text pool x n e in
    let b = number_text pool y n f in
    cc

-- the number at an index is that of the text there
number_at_is : (pool : List Constant) (index : ℕ) → text_number_at (numbers_of pool) index ≡ option_and_then (λ (c : Constant). number_of pool c) (slice_get pool index)
number_at_is pool index = rw (slice_get-map (number_of pool) pool index) (joined (slice_get pool index))
  where
    joined : (o : Option Constant) → option_and_then (λ (n : Option ℕ). n) (option_map (number_of pool) o) ≡ option_and_then (λ (c : Constant). number_of pool c) o
    joined None = refl
    joined (Some c) = refl

text_of_number : (pool : List Constant) (o : Option Constant) (n : ℕ) → option_and_then (λ (c : Constant). number_of pool c) o ≡ Some n → (text : List ℕ) × (o ≡ Some (Utf8 text)) × (number_in pool text ≡ Some n)
text_of_number pool None n e = absurd cc
text_of_number pool (Some (Utf8 text)) n e = (text, refl, e)
text_of_number pool (Some _) n e = absurd cc

numbered_text : (pool : List Constant) (index n : ℕ) → text_number_at (numbers_of pool) index ≡ Some n → (text : List ℕ) × IsUtf8At pool index text × (number_in pool text ≡ Some n)
numbered_text pool index n e = text_of_number pool (slice_get pool index) n (sym (number_at_is pool index) ∙ e)

number_there : (pool : List Constant) (index : ℕ) (text : List ℕ) → IsUtf8At pool index text → text_number_at (numbers_of pool) index ≡ number_in pool text
number_there pool index text at = number_at_is pool index ∙ ap (λ (o : Option Constant). option_and_then (λ (c : Constant). number_of pool c) o) at

has_number : (pool : List Constant) (index : ℕ) (text : List ℕ) → IsUtf8At pool index text → (n : ℕ) × (number_in pool text ≡ Some n)
has_number pool index text at = has_place (has_text text) 0 pool index (Utf8 text) at ((is_text-Decides text (Some (Utf8 text))).1 refl)

same_text : (pool : List Constant) (i j n : ℕ) → text_number_at (numbers_of pool) i ≡ Some n → text_number_at (numbers_of pool) j ≡ Some n → IsSameText pool i j
same_text pool i j n e f =
    let a = numbered_text pool i n e in
    let b = numbered_text pool j n f in
    let same = one_text pool b.0 a.0 n b.2 a.2 in
    let P : List ℕ → Type 0 = λ t. IsUtf8At pool j t in
    (a.0, a.1, subst P same b.1)

same_numbers : (pool : List Constant) (i j : ℕ) → IsSameText pool i j → (n : ℕ) × (text_number_at (numbers_of pool) i ≡ Some n) × (text_number_at (numbers_of pool) j ≡ Some n)
same_numbers pool i j s =
    let n = has_number pool i s.0 s.1 in
    (n.0, number_there pool i s.0 s.1 ∙ n.1, number_there pool j s.0 s.2 ∙ n.1)

both_are : (a b : Option ℕ) (key : ℕ × ℕ) → both a b ≡ Some key → (a ≡ Some key.0) × (b ≡ Some key.1)
both_are None b key e = absurd cc
both_are (Some a) None key e = absurd cc
both_are (Some a) (Some b) key e = let same : (a, b) ≡ key = same_Some (a, b) key e in (ap (λ (k : ℕ × ℕ). some_of k.0) same, ap (λ (k : ℕ × ℕ). some_of k.1) same)
  where
    some_of : ℕ → Option ℕ
    some_of n = Some n

same_signature : (pool : List Constant) (x y : RawMember) (key : ℕ × ℕ) → key_of (numbers_of pool) x ≡ Some key → key_of (numbers_of pool) y ≡ Some key → IsSameSignature pool x y
same_signature pool x y key e f =
    let a = both_are _ _ key e in
    let b = both_are _ _ key f in
    (same_text pool x.name y.name key.0 a.0 b.0, same_text pool x.descriptor y.descriptor key.1 a.1 b.1)

same_keys : (pool : List Constant) (x y : RawMember) → IsSameSignature pool x y → (key : ℕ × ℕ) × (key_of (numbers_of pool) x ≡ Some key) × (key_of (numbers_of pool) y ≡ Some key)
same_keys pool x y s =
    let name = same_numbers pool x.name y.name s.0 in
    let descriptor = same_numbers pool x.descriptor y.descriptor s.1 in
    ((name.0, descriptor.0), rw (name.1, descriptor.1) refl, rw (name.2, descriptor.2) refl)

key_repeated : (pool : List Constant) (members : List RawMember) (i : ℕ) (x : RawMember) → HasRepeatedKey (numbers_of pool) members i x → IsRepeated pool members i x
key_repeated pool members i x r = (r.0, r.1, r.2, r.3, same_signature pool r.1 x r.4 r.5 r.6)

repeated_key : (pool : List Constant) (members : List RawMember) (i : ℕ) (x : RawMember) → IsRepeated pool members i x → HasRepeatedKey (numbers_of pool) members i x
repeated_key pool members i x r =
    let k = same_keys pool r.1 x r.4 in
    (r.0, r.1, r.2, r.3, k.0, k.1, k.2)

-- the first member with the numbers of an earlier one is the first that repeats one
pub first_repeat_is : (pool : List Constant) (members : List RawMember) (repeat : Option ℕ) → IsFirstRepeatedKey (numbers_of pool) members repeat → IsFirstRepeat pool members repeat
first_repeat_is pool members None none = λ i x at r. none i x at (repeated_key pool members i x r)
first_repeat_is pool members (Some i) first =
    ((first.0.0, first.0.1, key_repeated pool members i first.0.0 first.0.2), λ j x lt at r. first.1 j x lt at (repeated_key pool members j x r))
