-- The words of class objects at the start, one field after the other.
use Rattle.std.proofs.Common.{◌≡◌, ℕ, ◌+◌, ◌-◌, ◌<◌, ◌≤◌, ◌^◌, Bool, true, false, cond, nat_le, List, [], ◌∷◌, ◌++◌, length, map, take, filter, flat_map, slice_get, unwrap_or, Option, None, Some, refl, sym, ap, subst, ◌∙◌, bytes_eq, arith}
use Rattle.std.specs.List.{position_from}
use Rattle.std.specs.Option.{option_map, option_map_or}
use Rattle.std.proofs.lemmas.List.{append-nil, map-append}
use Rattle.std.proofs.lemmas.List.Elements.{filter-append}
use Rattle.std.proofs.lemmas.Grind.{flat_map-append}
use Rattle.std.proofs.lemmas.Option.{slice_get-map, slice_get_within, same_Some}
use Rattle.class_read.proofs.FindLaws.{take_next}
use Rattle.code_decode.specs.declared.code.ClassUnit.{ClassUnit}
use Rattle.link_rules.specs.Names.{program_names, string_number}
use Rattle.link_rules.specs.FixedObjects.{class_words_of_unit}
use Rattle.link_rules.specs.Readers.{static_value}
use Rattle.link_rules.proofs.Lists.{Found, found_at}
use Rattle.string_literals.specs.declared.literals.StringLiterals.{StringLiterals}
use Rattle.string_literals.specs.Literals.{literal_number, IsLiteralsOf}
use Rattle.start_objects.specs.Start.{kept_word}

-- numbers of literals are small
pub number_small : (us : List ClassUnit) (l : StringLiterals) (k i n : ℕ) → IsLiteralsOf us l → Some n ≡ literal_number us k i → n ≤ 2 ^ 26
number_small us l k i n are is = at_text _ is
  where
    position : (o : Option ℕ) (text : List ℕ) → position_from (bytes_eq text) 0 (program_names us).strings ≡ o → unwrap_or o 0 ≤ 2 ^ 26
    position None text e = omega arith
    position (Some j) text e =
        let f : Found (bytes_eq text) (program_names us).strings j = found_at (bytes_eq text) (program_names us).strings j e in
        let lt : j < length (program_names us).strings = slice_get_within (program_names us).strings j f.item f.there in
        let few = are.few in
        omega arith

    at_text : (o : Option (List ℕ)) → Some n ≡ option_map (string_number (program_names us)) o → n ≤ 2 ^ 26
    at_text None e = absurd cc
    at_text (Some text) e = subst (λ m. m ≤ 2 ^ 26) (sym (same_Some n (string_number (program_names us) text) e)) (position _ text refl)

-- ---- one item more

pub filtered_more : {X Y : Type 0} (f : X → List Y) (test : X → Bool) (xs : List X) (i : ℕ) (x : X) → slice_get xs i ≡ Some x
    → flat_map f (filter test (take (i + 1) xs)) ≡ flat_map f (filter test (take i xs)) ++ cond (test x) (f x) []
filtered_more {X} {Y} f test xs i x at =
    ap (λ ys. flat_map f (filter test ys)) (take_next xs i x at)
    ∙ ap (flat_map f) (filter-append test (take i xs) (x ∷ []))
    ∙ flat_map-append f (filter test (take i xs)) (filter test (x ∷ []))
    ∙ ap (λ ys. flat_map f (filter test (take i xs)) ++ ys) (one (test x))
  where
    one : (b : Bool) → flat_map f (cond b (x ∷ []) []) ≡ cond b (f x) []
    one true = append-nil (f x)
    one false = refl

pub mapped_more : {X Y : Type 0} (f : X → Y) (xs : List X) (i : ℕ) (x : X) → slice_get xs i ≡ Some x → map f (take i xs) ++ f x ∷ [] ≡ map f (take (i + 1) xs)
mapped_more f xs i x at = sym (ap (map f) (take_next xs i x at) ∙ map-append f (take i xs) (x ∷ []))

-- ---- the words that are kept

pub kept_right : (us : List ClassUnit) (files : List (List ℕ)) (c i : ℕ) → files ≡ map (class_words_of_unit (program_names us)) us → kept_word files c i ≡ static_value (program_names us) us c i
kept_right us files c i are = ap (λ xs. kept_word xs c i) are ∙ go (nat_le c 28)
  where
    its : List ℕ → ℕ
    its words = unwrap_or (slice_get words i) 0

    words_of : ClassUnit → List ℕ
    words_of = class_words_of_unit (program_names us)

    at_file : (o : Option ClassUnit) → option_map_or (λ (words : List ℕ). words) (option_map (class_words_of_unit (program_names us)) o) [] ≡ option_map_or (class_words_of_unit (program_names us)) o []
    at_file None = refl
    at_file (Some u) = refl

    go : (b : Bool) → unwrap_or (slice_get (option_map_or (λ (words : List ℕ). words) (cond b None (slice_get (map (class_words_of_unit (program_names us)) us) (c - 29))) []) i) 0
        ≡ unwrap_or (slice_get (option_map_or (class_words_of_unit (program_names us)) (cond b None (slice_get us (c - 29))) []) i) 0
    go true = refl
    go false = ap (λ (words : List ℕ). unwrap_or (slice_get words i) 0) (ap (λ o. option_map_or (λ (words : List ℕ). words) o []) (slice_get-map (class_words_of_unit (program_names us)) us (c - 29)) ∙ at_file (slice_get us (c - 29)))
