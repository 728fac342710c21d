-- Where the objects lie that are there from the start.
use Rattle.std.proofs.Common.{◌≡◌, ℕ, zero, suc, ◌+◌, ◌-◌, ◌<◌, Bool, true, false, cond, nat_le, List, [], ◌∷◌, ◌++◌, length, map, filter, flat_map, sum_by, None, Some, slice_get, inl, inr, refl, sym, ap, subst, ◌∙◌, zero-add, length-append, arith}
use Rattle.std.specs.List.{range_with_len}
use Rattle.std.specs.Option.{option_map_or}
use Rattle.std.proofs.lemmas.Bool.{cases_lt, le-leb, lt-leb}
use Rattle.std.proofs.lemmas.List.Sums.{sum_by-cons}
use Rattle.std.proofs.lemmas.Option.{slice_get_past}
use Rattle.class_walk.specs.declared.class.Constant.{Constant}
use Rattle.class_read.specs.declared.class_file.Member.{Member}
use Rattle.code_decode.specs.declared.code.ClassUnit.{ClassUnit}
use Rattle.access_flags.specs.declared.TheConstants.{STATIC}
use Rattle.access_flags.specs.Flags.{has}
use Rattle.link_rules.specs.Classes.{NamedClass, NamedMember, classes_of, fields_of, member_of_file, number_of_file, unit_numbered, utf8_at}
use Rattle.link_rules.specs.Layout.{is_long, is_stored, field_words, own_words, static_words}
use Rattle.link_rules.specs.Names.{ProgramNames, program_names, class_count}
use Rattle.link_rules.specs.FixedObjects.{ObjectAtStart, object_at_start, class_object, class_object_size, system_out_object, main_thread_object, arguments_object, string_object, first_free, two_words, constant_long, constant_word, first_constant, first_words, class_words_of_unit, class_object_at_start, main_thread_at_start, string_at_start, objects_at_start}
use Rattle.link_rules.specs.Laws.{LieInARow}
use Rattle.link_rules.proofs.Numbers.{file_class, is_file, class_count_is}

row_behind : (xs ys : List ObjectAtStart) (a b c : ℕ) → LieInARow a xs b → LieInARow b ys c → LieInARow a (xs ++ ys) c
row_behind [] ys a b c one other = subst (λ x. LieInARow x ys c) (sym one) other
row_behind (o ∷ xs) ys a b c one other = (one.0, row_behind xs ys (a + 2 + length o.words) b c one.1 other)

pub range_more : (a n : ℕ) (f : ℕ → ℕ) → sum_by f (range_with_len a (suc n)) ≡ sum_by f (range_with_len a n) + f (a + n)
range_more a zero f =
    let one : sum_by f (a ∷ []) ≡ f a + sum_by f [] = sum_by-cons f a [] in
    let same : a + 0 ≡ a = omega arith in
    rw same (one ∙ omega arith)
range_more a (suc n) f =
    let whole : sum_by f (a ∷ range_with_len (a + 1) (suc n)) ≡ f a + sum_by f (range_with_len (a + 1) (suc n)) = sum_by-cons f a (range_with_len (a + 1) (suc n)) in
    let part : sum_by f (a ∷ range_with_len (a + 1) n) ≡ f a + sum_by f (range_with_len (a + 1) n) = sum_by-cons f a (range_with_len (a + 1) n) in
    let later : sum_by f (range_with_len (a + 1) (suc n)) ≡ sum_by f (range_with_len (a + 1) n) + f (a + 1 + n) = range_more (a + 1) n f in
    let same : f (a + 1 + n) ≡ f (a + suc n) = ap f (omega arith) in
    omega arith

pub class_object_next : (p : ProgramNames) (n : ℕ) → class_object p (suc n) + class_object_size p.classes (suc n) ≡ class_object p (suc (suc n))
class_object_next p n =
    let more : sum_by (class_object_size p.classes) (range_with_len 1 (suc n)) ≡ sum_by (class_object_size p.classes) (range_with_len 1 n) + class_object_size p.classes (1 + n) = range_more 1 n (class_object_size p.classes) in
    let here : suc n - 1 ≡ n = omega arith in
    let there : suc (suc n) - 1 ≡ suc n = omega arith in
    let same : 1 + n ≡ suc n = omega arith in
    let first : class_object p (suc n) ≡ 1 + sum_by (class_object_size p.classes) (range_with_len 1 n) = ap (λ k. 1 + sum_by (class_object_size p.classes) (range_with_len 1 k)) here in
    let next : class_object p (suc (suc n)) ≡ 1 + sum_by (class_object_size p.classes) (range_with_len 1 (suc n)) = ap (λ k. 1 + sum_by (class_object_size p.classes) (range_with_len 1 k)) there in
    let size : class_object_size p.classes (1 + n) ≡ class_object_size p.classes (suc n) = ap (class_object_size p.classes) same in
    omega arith

-- ---- the words of class objects

one_or_two : (long : Bool) (n word : ℕ) → length (cond long (two_words n) (word ∷ [])) ≡ cond long 2 1
one_or_two true n word = refl
one_or_two false n word = refl

pub first_words_count : (p : ProgramNames) (pool : List Constant) (m : Member) → length (first_words p pool m) ≡ field_words (member_of_file pool m)
first_words_count p pool m =
    one_or_two (is_long (member_of_file pool m)) (constant_long (first_constant pool m)) (constant_word p pool (utf8_at pool m.descriptor) (first_constant pool m))

words_count : (p : ProgramNames) (pool : List Constant) (ms : List Member) →
    length (flat_map (first_words p pool) (filter (λ (m : Member). has m.flags STATIC) ms)) ≡ own_words true (map (member_of_file pool) ms)
words_count p pool [] = refl
words_count p pool (m ∷ ms) = go (has m.flags STATIC) refl (words_count p pool ms)
  where
    kept : List Member
    kept = filter (λ (m : Member). has m.flags STATIC) ms

    fields : List NamedMember
    fields = filter (is_stored true) (map (member_of_file pool) ms)

    go : (b : Bool) → has m.flags STATIC ≡ b → length (flat_map (first_words p pool) (filter (λ (m : Member). has m.flags STATIC) ms)) ≡ own_words true (map (member_of_file pool) ms)
        → length (flat_map (first_words p pool) (cond b (m ∷ filter (λ (m : Member). has m.flags STATIC) ms) (filter (λ (m : Member). has m.flags STATIC) ms)))
        ≡ sum_by field_words (cond b (member_of_file pool m ∷ filter (is_stored true) (map (member_of_file pool) ms)) (filter (is_stored true) (map (member_of_file pool) ms)))
    go false is later = later
    go true is later =
        length-append (first_words p pool m) (flat_map (first_words p pool) (filter (λ (m : Member). has m.flags STATIC) ms))
        ∙ ap (λ n. n + length (flat_map (first_words p pool) (filter (λ (m : Member). has m.flags STATIC) ms))) (first_words_count p pool m)
        ∙ ap (λ n. field_words (member_of_file pool m) + n) later
        ∙ sym (sum_by-cons field_words (member_of_file pool m) (filter (is_stored true) (map (member_of_file pool) ms)))

pub fields_of_file : (us : List ClassUnit) (k : ℕ) (u : ClassUnit) → slice_get us k ≡ Some u → fields_of (classes_of us) (number_of_file k) ≡ map (member_of_file u.file.pool) u.file.fields
fields_of_file us k u at = ap (λ o. option_map_or (λ (c : NamedClass). c.fields) o []) (file_class us k u at)

pub unit_of_file : (us : List ClassUnit) (k : ℕ) → unit_numbered us (number_of_file k) ≡ slice_get us k
unit_of_file us k =
    let above : nat_le (suc (28 + k)) 28 ≡ false = lt-leb (suc (28 + k)) 28 (omega arith) in
    let same : suc (28 + k) - 29 ≡ k = omega arith in
    ap (λ b. cond b None (slice_get us (suc (28 + k) - 29))) above ∙ ap (slice_get us) same

class_words : List ClassUnit → ℕ → ℕ
class_words us c = length (option_map_or (class_words_of_unit (program_names us)) (unit_numbered us c) [])

-- a class object has as many words as its class has static words
class_words_count : (us : List ClassUnit) (c : ℕ) → class_words us c ≡ static_words (classes_of us) c
unfolding class_words
class_words_count us c =
    elim (cases_lt 28 c) [
      | inr built_in ↦
          let low : nat_le c 28 ≡ true = le-leb c 28 built_in in
          ap (λ b. length (option_map_or (class_words_of_unit (program_names us)) (cond b None (slice_get us (c - 29))) [])) low
          ∙ sym (ap (λ b. cond b 0 (own_words true (fields_of (classes_of us) c))) low)
      | inl read ↦ elim (cases_lt (length (classes_of us)) c) [
        | inl past ↦ of_array read past
        | inr within ↦ of_file read (is_file us c read within)
      ]
    ]
  where
    high : 28 < c → nat_le c 28 ≡ false
    high read = lt-leb c 28 read

    of_array : 28 < c → length (classes_of us) < c → length (option_map_or (class_words_of_unit (program_names us)) (unit_numbered us c) []) ≡ static_words (classes_of us) c
    of_array read past =
        let count : length (classes_of us) ≡ 28 + length us = class_count_is us in
        let none : slice_get us (c - 29) ≡ None = slice_get_past us (c - 29) (omega arith) in
        let no_unit : unit_numbered us c ≡ None = ap (λ b. cond b None (slice_get us (c - 29))) (high read) ∙ none in
        let no_fields : fields_of (classes_of us) c ≡ [] = no_class c past in
        ap (λ o. length (option_map_or (class_words_of_unit (program_names us)) o [])) no_unit
        ∙ sym (ap (λ b. cond b 0 (own_words true (fields_of (classes_of us) c))) (high read) ∙ ap (own_words true) no_fields)
      where
        no_class : (c : ℕ) → length (classes_of us) < c → fields_of (classes_of us) c ≡ []
        no_class zero past = refl
        no_class (suc i) past = ap (λ o. option_map_or (λ (k : NamedClass). k.fields) o []) (slice_get_past (classes_of us) i (omega arith))

    of_file : 28 < c → (k : ℕ) × (u : ClassUnit) × (slice_get us k ≡ Some u) × (c ≡ number_of_file k) → length (option_map_or (class_words_of_unit (program_names us)) (unit_numbered us c) []) ≡ static_words (classes_of us) c
    of_file read h =
        let unit : unit_numbered us c ≡ Some h.1 = ap (unit_numbered us) h.3 ∙ unit_of_file us h.0 ∙ h.2 in
        let fields : fields_of (classes_of us) c ≡ map (member_of_file h.1.file.pool) h.1.file.fields = ap (fields_of (classes_of us)) h.3 ∙ fields_of_file us h.0 h.1 h.2 in
        ap (λ o. length (option_map_or (class_words_of_unit (program_names us)) o [])) unit
        ∙ words_count (program_names us) h.1.file.pool h.1.file.fields
        ∙ sym (ap (λ b. cond b 0 (own_words true (fields_of (classes_of us) c))) (high read) ∙ ap (own_words true) fields)

pub class_words_are : (us : List ClassUnit) (c : ℕ) → length (option_map_or (class_words_of_unit (program_names us)) (unit_numbered us c) []) ≡ static_words (classes_of us) c
unfolding class_words
class_words_are us c = class_words_count us c

-- ---- the rows

classes_row : (us : List ClassUnit) (a n : ℕ) → LieInARow (class_object (program_names us) (suc a)) (map (class_object_at_start (program_names us) us) (range_with_len (suc a) n)) (class_object (program_names us) (suc a + n))
unfolding class_words
classes_row us a zero = (let same : suc a ≡ suc a + 0 = omega arith in ap (class_object (program_names us)) same)
classes_row us a (suc n) =
    let p : ProgramNames = program_names us in
    let words : class_words us (suc a) ≡ static_words (classes_of us) (suc a) = class_words_count us (suc a) in
    let next : class_object p (suc a) + class_object_size p.classes (suc a) ≡ class_object p (suc (suc a)) = class_object_next p a in
    let start : class_object p (suc a) + 2 + class_words us (suc a) ≡ class_object p (suc (suc a)) = omega arith in
    let end : suc (suc a) + n ≡ suc a + suc n = omega arith in
    let from : suc a + 1 ≡ suc (suc a) = omega arith in
    let later : LieInARow (class_object p (suc (suc a))) (map (class_object_at_start p us) (range_with_len (suc (suc a)) n)) (class_object p (suc (suc a) + n)) = classes_row us (suc a) n in
    let P : ℕ → Type 0 = λ x. LieInARow x (map (class_object_at_start p us) (range_with_len (suc a + 1) n)) (class_object p (suc a + suc n)) in
    let Q : ℕ → Type 0 = λ x. LieInARow (class_object p (suc (suc a))) (map (class_object_at_start p us) (range_with_len x n)) (class_object p (suc a + suc n)) in
    let R : ℕ → Type 0 = λ x. LieInARow (class_object p (suc (suc a))) (map (class_object_at_start p us) (range_with_len (suc (suc a)) n)) (class_object p x) in
    (refl, subst P (sym start) (subst Q (sym from) (subst R end later)))

strings_row : (p : ProgramNames) (a n : ℕ) → LieInARow (string_object p a) (map (string_at_start p) (range_with_len a n)) (string_object p (a + n))
strings_row p a zero = (let same : a ≡ a + 0 = omega arith in ap (string_object p) same)
strings_row p a (suc n) =
    let start : string_object p (a + 1) ≡ string_object p a + 2 + 1 = omega arith in
    let end : a + 1 + n ≡ a + suc n = omega arith in
    let later : LieInARow (string_object p (a + 1)) (map (string_at_start p) (range_with_len (a + 1) n)) (string_object p (a + 1 + n)) = strings_row p (a + 1) n in
    let P : ℕ → Type 0 = λ x. LieInARow x (map (string_at_start p) (range_with_len (a + 1) n)) (string_object p (a + suc n)) in
    let R : ℕ → Type 0 = λ x. LieInARow (string_object p (a + 1)) (map (string_at_start p) (range_with_len (a + 1) n)) (string_object p x) in
    (refl, subst P start (subst R end later))

others_row : (p : ProgramNames) → LieInARow (system_out_object p) (object_at_start (system_out_object p) Rattle.builtin_world.specs.declared.number.TheConstants.PRINT_STREAM 0 [] ∷ main_thread_at_start p ∷ object_at_start (arguments_object p) (Rattle.link_rules.specs.FixedObjects.arguments_class p) 0 [] ∷ map (string_at_start p) (range_with_len 0 (length p.strings))) (first_free p)
others_row p =
    let strings : LieInARow (string_object p 0) (map (string_at_start p) (range_with_len 0 (length p.strings))) (string_object p (0 + length p.strings)) = strings_row p 0 (length p.strings) in
    let start : string_object p 0 ≡ system_out_object p + 2 + 0 + 2 + 3 + 2 + 0 = omega arith in
    let end : string_object p (0 + length p.strings) ≡ first_free p = ap (string_object p) (zero-add (length p.strings)) in
    let P : ℕ → Type 0 = λ x. LieInARow x (map (string_at_start p) (range_with_len 0 (length p.strings))) (first_free p) in
    let R : ℕ → Type 0 = λ x. LieInARow (string_object p 0) (map (string_at_start p) (range_with_len 0 (length p.strings))) x in
    (refl, (omega arith, (omega arith, subst P start (subst R end strings))))

pub objects_row : (us : List ClassUnit) → LieInARow 1 (objects_at_start (program_names us) us) (first_free (program_names us))
objects_row us =
    let p : ProgramNames = program_names us in
    let classes : LieInARow 1 (map (class_object_at_start p us) (range_with_len 1 (class_count p))) (class_object p (1 + class_count p)) = classes_row us 0 (class_count p) in
    let end : class_object p (1 + class_count p) ≡ system_out_object p = (let more : 1 + class_count p ≡ class_count p + 1 = omega arith in ap (class_object p) more) in
    let R : ℕ → Type 0 = λ x. LieInARow 1 (map (class_object_at_start p us) (range_with_len 1 (class_count p))) x in
    row_behind (map (class_object_at_start p us) (range_with_len 1 (class_count p)))
    (object_at_start (system_out_object p) Rattle.builtin_world.specs.declared.number.TheConstants.PRINT_STREAM 0 [] ∷ main_thread_at_start p ∷ object_at_start (arguments_object p) (Rattle.link_rules.specs.FixedObjects.arguments_class p) 0 [] ∷ map (string_at_start p) (range_with_len 0 (length p.strings)))
    1 (system_out_object p) (first_free p) (subst R end classes) (others_row p)
