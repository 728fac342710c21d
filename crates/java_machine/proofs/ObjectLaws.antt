-- The objects at the start, made one after the other.
use Rattle.std.proofs.Common.{◌≡◌, ℕ, zero, suc, ◌+◌, ◌-◌, ◌<◌, ◌≤◌, List, [], ◌∷◌, ◌++◌, length, map, sum_by, take, slice_get, unwrap_or, append_assoc, refl, sym, ap, subst, ◌∙◌, arith}
use Rattle.std.specs.List.{range_with_len}
use Rattle.std.proofs.Math.Seq.{take-suc}
use Rattle.std.proofs.lemmas.List.{map-append}
use Rattle.std.proofs.lemmas.Option.{unwrap_or-slice_get}
use Rattle.builtin_world.specs.declared.number.TheConstants.{PRINT_STREAM}
use Rattle.code_decode.specs.declared.code.ClassUnit.{ClassUnit}
use Rattle.fixed_objects.specs.declared.FixedObject.{FixedObject}
use Rattle.link_rules.specs.FixedObjects.{ObjectAtStart, object_at_start, class_object, class_object_size, class_object_at_start, main_thread_at_start, string_at_start, objects_at_start, system_out_object, arguments_object, arguments_class, first_free}
use Rattle.link_rules.specs.Layout.{static_words}
use Rattle.link_rules.specs.Names.{ProgramNames, program_names, class_count}
use Rattle.java_rows.specs.Start.{fixed_object}
use Rattle.link_rules.specs.Laws.{LieInARow}
use Rattle.link_rules.proofs.Objects.{objects_row, range_more}

pub range_next : (a n : ℕ) → range_with_len a (n + 1) ≡ range_with_len a n ++ (a + n) ∷ []
range_next a zero = ap (λ x. x ∷ []) (omega arith)
range_next a (suc n) =
    let more : suc n + 1 ≡ suc (n + 1) = omega arith in
    ap (range_with_len a) more ∙ ap (λ xs. a ∷ xs) (range_next (a + 1) n ∙ ap (λ x. range_with_len (a + 1) n ++ x ∷ []) (omega arith))

-- ---- the words of a class object

-- what lies in a row after objects that a function gives, where it gives the place of the next one too
row_step : (f : ℕ → ObjectAtStart) (a n at end : ℕ) (o : ObjectAtStart) (rest : List ObjectAtStart)
    → LieInARow at (map f (range_with_len a n) ++ o ∷ rest) end → o.reference ≡ (f (a + n)).reference
    → (i : ℕ) → i < n → (f (a + i)).reference + 2 + length (f (a + i)).words ≡ (f (a + i + 1)).reference
row_step f a zero at end o rest row next i below = absurd (omega (arith, below))
row_step f a (suc zero) at end o rest row next zero below =
    let here : a + 0 ≡ a = omega arith in
    let first : (f (a + 0)).reference ≡ (f a).reference = ap (λ x. (f x).reference) here in
    let words : length (f (a + 0)).words ≡ length (f a).words = ap (λ x. length (f x).words) here in
    let there : a + 1 ≡ a + 0 + 1 = omega arith in
    let same : (f (a + 1)).reference ≡ (f (a + 0 + 1)).reference = ap (λ x. (f x).reference) there in
    omega (arith, row.0, row.1.0, next, first, words, same)
row_step f a (suc (suc n)) at end o rest row next zero below =
    let here : a + 0 ≡ a = omega arith in
    let first : (f (a + 0)).reference ≡ (f a).reference = ap (λ x. (f x).reference) here in
    let words : length (f (a + 0)).words ≡ length (f a).words = ap (λ x. length (f x).words) here in
    let there : a + 1 ≡ a + 0 + 1 = omega arith in
    let same : (f (a + 1)).reference ≡ (f (a + 0 + 1)).reference = ap (λ x. (f x).reference) there in
    omega (arith, row.0, row.1.0, first, words, same)
row_step f a (suc n) at end o rest row next (suc i) below =
    let last : a + suc n ≡ a + 1 + n = omega arith in
    let again : (f (a + 1 + i)).reference + 2 + length (f (a + 1 + i)).words ≡ (f (a + 1 + i + 1)).reference =
    row_step f (a + 1) n (at + 2 + length (f a).words) end o rest row.1 (next ∙ ap (λ x. (f x).reference) last) i (omega (arith, below)) in
    let here : a + 1 + i ≡ a + suc i = omega arith in
    subst (λ x. (f x).reference + 2 + length (f x).words ≡ (f (x + 1)).reference) here again

class_object_next : (p : ProgramNames) (i : ℕ) → class_object p (1 + i + 1) ≡ class_object p (1 + i) + class_object_size p.classes (1 + i)
class_object_next p i =
    let one : 1 + i - 1 ≡ i = omega arith in
    let two : 1 + i + 1 - 1 ≡ suc i = omega arith in
    let first : class_object p (1 + i) ≡ 1 + sum_by (class_object_size p.classes) (range_with_len 1 i) = ap (λ k. 1 + sum_by (class_object_size p.classes) (range_with_len 1 k)) one in
    let next : class_object p (1 + i + 1) ≡ 1 + sum_by (class_object_size p.classes) (range_with_len 1 (suc i)) = ap (λ k. 1 + sum_by (class_object_size p.classes) (range_with_len 1 k)) two in
    let more : sum_by (class_object_size p.classes) (range_with_len 1 (suc i)) ≡ sum_by (class_object_size p.classes) (range_with_len 1 i) + class_object_size p.classes (1 + i) = range_more 1 i (class_object_size p.classes) in
    omega (arith, first, next, more)

-- a class object has a word for each static word of its class
pub class_words_count : (us : List ClassUnit) (c : ℕ) → 1 ≤ c → c ≤ class_count (program_names us)
    → length (class_object_at_start (program_names us) us c).words ≡ static_words (program_names us).classes c
class_words_count us c some there =
    let p : ProgramNames = program_names us in
    let behind : class_count (program_names us) + 1 ≡ 1 + class_count (program_names us) = omega arith in
    let row =
    row_step (class_object_at_start (program_names us) us) 1 (class_count (program_names us)) 1 (first_free (program_names us))
    (object_at_start (system_out_object (program_names us)) PRINT_STREAM 0 [])
    (main_thread_at_start (program_names us) ∷ object_at_start (arguments_object (program_names us)) (arguments_class (program_names us)) 0 []
    ∷ map (string_at_start (program_names us)) (range_with_len 0 (length (program_names us).strings)))
    (objects_row us) (ap (class_object (program_names us)) behind) (c - 1) (omega (arith, some, there)) in
    let next = class_object_next (program_names us) (c - 1) in
    let same : 1 + (c - 1) ≡ c = omega (arith, some) in
    subst (λ x. length (class_object_at_start (program_names us) us x).words ≡ static_words (program_names us).classes x) same (omega (arith, row, next))

pub word_next : (xs : List ℕ) (i : ℕ) → i < length xs → take (i + 1) xs ≡ take i xs ++ unwrap_or (slice_get xs i) 0 ∷ []
word_next xs i within =
    let more : i + 1 ≡ suc i = omega arith in
    ap (λ n. take n xs) more ∙ take-suc xs i 0 within ∙ ap (λ x. take i xs ++ x ∷ []) (sym (unwrap_or-slice_get xs i 0))

-- ---- all of them

made_of : {X : Type 0} (f : X → ObjectAtStart) (xs : List X) → map fixed_object (map f xs) ≡ map (λ x. fixed_object (f x)) xs
made_of f [] = refl
made_of f (x ∷ xs) = ap (λ os. fixed_object (f x) ∷ os) (made_of f xs)

abbrev pub fixed_classes : ProgramNames → List ClassUnit → List FixedObject
fixed_classes p us = map (λ c. fixed_object (class_object_at_start p us c)) (range_with_len 1 (class_count p))

-- the classes, System.out, the Thread and the arguments of main and the Strings, put one after the other
pub objects_made : (p : ProgramNames) (us : List ClassUnit) →
    (((fixed_classes p us ++ fixed_object (object_at_start (system_out_object p) PRINT_STREAM 0 []) ∷ []) ++ fixed_object (main_thread_at_start p) ∷ [])
    ++ fixed_object (object_at_start (arguments_object p) (arguments_class p) 0 []) ∷ [])
    ++ map (λ n. fixed_object (string_at_start p n)) (range_with_len 0 (length p.strings))
    ≡ map fixed_object (objects_at_start p us)
objects_made p us =
    let classes : List ObjectAtStart = map (class_object_at_start p us) (range_with_len 1 (class_count p)) in
    let first : List FixedObject = fixed_classes p us in
    let strings : List FixedObject = map (λ n. fixed_object (string_at_start p n)) (range_with_len 0 (length p.strings)) in
    let out : FixedObject = fixed_object (object_at_start (system_out_object p) PRINT_STREAM 0 []) in
    let main : FixedObject = fixed_object (main_thread_at_start p) in
    let arguments : FixedObject = fixed_object (object_at_start (arguments_object p) (arguments_class p) 0 []) in
    append_assoc ((first ++ out ∷ []) ++ main ∷ []) (arguments ∷ []) strings ∙ append_assoc (first ++ out ∷ []) (main ∷ []) (arguments ∷ strings)
    ∙ append_assoc first (out ∷ []) (main ∷ arguments ∷ strings)
    ∙ ap (λ xs. xs ++ out ∷ main ∷ arguments ∷ strings) (sym (made_of (class_object_at_start p us) (range_with_len 1 (class_count p))))
    ∙ ap (λ xs. map fixed_object classes ++ out ∷ main ∷ arguments ∷ xs) (sym (made_of (string_at_start p) (range_with_len 0 (length p.strings))))
    ∙ sym (map-append fixed_object classes (object_at_start (system_out_object p) PRINT_STREAM 0 [] ∷ main_thread_at_start p
    ∷ object_at_start (arguments_object p) (arguments_class p) 0 [] ∷ map (string_at_start p) (range_with_len 0 (length p.strings))))
