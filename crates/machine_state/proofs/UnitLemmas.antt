-- The units of an array are the low halves of its words.
use Rattle.std.proofs.Common.{◌≡◌, ◌<◌, ◌%◌, ◌^◌, ℕ, Option, Some, List, IsSome, length, map, get_or, slice_get, unwrap_or, refl, sym, ap, ◌∙◌, subst, arith}
use Rattle.std.specs.List.{range_with_len}
use Rattle.std.specs.Option.{option_map, option_map_or}
use Rattle.std.proofs.lemmas.Grind.{same_number_lists}
use Rattle.std.proofs.lemmas.List.{get_or-map, length-map}
use Rattle.std.proofs.lemmas.List.FromFn.{get_or-map-range_with_len, length-map-range_with_len}
use Rattle.std.proofs.lemmas.Option.{slice_get-get_or}
use Rattle.machine_tables.specs.declared.objects.HeapObject.{HeapObject}
use Rattle.machine_tables.specs.Tables.{header_of, objects_in, words_in, word_in}

-- a function of each word is that of the words one place after another
by_places : (f : ℕ → ℕ) (words : List ℕ) → map f words ≡ map (λ i. f (unwrap_or (slice_get words i) 0)) (range_with_len 0 (length words))
by_places f words =
    same_number_lists (map f words) (map (λ i. f (unwrap_or (slice_get words i) 0)) (range_with_len 0 (length words)))
    (length-map words f ∙ sym (length-map-range_with_len (λ i. f (unwrap_or (slice_get words i) 0)) 0 (length words)))
    (λ k within. at k (subst (λ n. k < n) (length-map words f) within))
  where
    at : (k : ℕ) → k < length words → get_or (map f words) k 0 ≡ get_or (map (λ i. f (unwrap_or (slice_get words i) 0)) (range_with_len 0 (length words))) k 0
    at k within =
        get_or-map f words k 0 0 within
        ∙ ap (λ w. f (unwrap_or w 0)) (sym (slice_get-get_or words k 0 within))
        ∙ sym (get_or-map-range_with_len (λ i. f (unwrap_or (slice_get words i) 0)) 0 (length words) k k 0 within (omega arith))

-- of the object at a reference
pub object_units : (table : ℕ → Option HeapObject) (r : ℕ) (x : HeapObject) (units : List ℕ) → table r ≡ Some x → units ≡ map (λ word. word % 2 ^ 16) x.words
    → IsSome (objects_in table r) × (units ≡ map (λ i. words_in table r i % 2 ^ 16) (range_with_len 0 (option_map_or (λ o. o.words) (objects_in table r) 0)))
object_units table r x units there are =
    subst (λ (o : Option HeapObject). IsSome (option_map header_of o) × (units ≡ map (λ i. word_in o i % 2 ^ 16) (range_with_len 0 (option_map_or (λ h. h.words) (option_map header_of o) 0))))
    (sym there) (refl, are ∙ by_places (λ word. word % 2 ^ 16) x.words)
