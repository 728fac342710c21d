-- What is at a place of a class, and at the number of a class.
use Rattle.std.proofs.Common.{◌≡◌, ℕ, zero, suc, ◌+◌, ◌<◌, ◌≤◌, List, [], ◌∷◌, length, map, slice_get, None, Some, refl, ◌∙◌, ap, arith}
use Rattle.std.specs.List.{range_with_len}
use Rattle.std.specs.Option.{option_map}
use Rattle.std.proofs.lemmas.List.FromFn.{length-range_with_len, get_or-range_with_len}
use Rattle.std.proofs.lemmas.Option.{slice_get-map, slice_get-get_or, slice_get_past}
use Rattle.link_rules.specs.Classes.{NamedMember}
use Rattle.member_lookup.specs.Rows.{row_of, rows_from, class_rows}

from_place : (ts : List (List ℕ)) (c k i : ℕ) (ms : List NamedMember) → slice_get (rows_from ts c k ms) i ≡ option_map (row_of ts c (k + i)) (slice_get ms i)
from_place ts c k i [] = refl
from_place ts c k zero (m ∷ ms) = let same : k ≡ k + 0 = omega arith in ap (λ j. Some (row_of ts c j m)) same
from_place ts c k (suc i) (m ∷ ms) =
    let same : k + 1 + i ≡ k + suc i = omega arith in
    from_place ts c (k + 1) i ms ∙ ap (λ j. option_map (row_of ts c j) (slice_get ms i)) same

pub row_at : (ts : List (List ℕ)) (members : ℕ → List NamedMember) (c i : ℕ) → slice_get (class_rows ts members c) i ≡ option_map (row_of ts c i) (slice_get (members c) i)
row_at ts members c i =
    let same : 0 + i ≡ i = omega arith in
    from_place ts c 0 i (members c) ∙ ap (λ j. option_map (row_of ts c j) (slice_get (members c) i)) same

-- ---- a table by numbers from 0

pub numbered_at : {X : Type 0} (f : ℕ → X) (n c : ℕ) → c < n → slice_get (map f (range_with_len 0 n)) c ≡ Some (f c)
numbered_at f n c lt =
    let long : c < length (range_with_len 0 n) = omega (arith, length-range_with_len 0 n) in
    let same : 0 + c ≡ c = omega arith in
    slice_get-map f (range_with_len 0 n) c
    ∙ ap (option_map f) (slice_get-get_or (range_with_len 0 n) c 0 long ∙ ap (λ d. Some d) (get_or-range_with_len 0 n c 0 lt ∙ same))

pub numbered_past : {X : Type 0} (f : ℕ → X) (n c : ℕ) → n ≤ c → slice_get (map f (range_with_len 0 n)) c ≡ None
numbered_past f n c le =
    slice_get-map f (range_with_len 0 n) c ∙ ap (option_map f) (slice_get_past (range_with_len 0 n) c (omega (arith, length-range_with_len 0 n)))
