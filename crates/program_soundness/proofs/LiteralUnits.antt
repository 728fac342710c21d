-- The units of string literals are words: texts are bytes, and the characters of bytes are small.
use Rattle.std.proofs.Common.{◌≡◌, ◌<◌, ◌≤◌, ◌+◌, ◌-◌, ◌*◌, ◌/◌, ◌%◌, ◌^◌, ◌&&◌, ◌||◌, ℕ, zero, suc, Bool, true, false, cond, nat_lt, nat_le, Option, None, Some, List, [], ◌∷◌, ◌++◌, length, fold, slice_get, refl, subst, arith, if◌then◌else◌}
use Rattle.std.specs.Prelude.{option_map, option_and_then, unwrap_or, flat_map, filter_map, bytes_eq, encode_utf8_all}
use Rattle.std.specs.List.{AllByRecursion, list_any, cons_option}
use Rattle.std.specs.Char.{encode_utf8}
use Rattle.std.specs.Char.Escape.{encode_utf16}
use Rattle.std.specs.Str.{chars, chars_after, continuation_len, lead_bits}
use Rattle.std.proofs.lemmas.Bool.{and_parts, ltb-true, leb-true}
use Rattle.std.proofs.lemmas.Option.{none-some, same_Some}
use Rattle.class_names.specs.ModifiedUtf8.{characters, is_high, is_low, alone, pair_of, is_single, is_double, is_triple, is_continuation, unit_of}
use Rattle.class_names.specs.ReadingText.{unit_at, second_at, third_at}
use Rattle.class_names.specs.Units.{units_within}
use Rattle.class_walk.specs.declared.class.Constant.{Constant}
use Rattle.class_walk.specs.declared.class.Constant.TheVariants.{Str}
use Rattle.code_decode.specs.declared.code.ClassUnit.{ClassUnit}
use Rattle.link_rules.specs.Classes.{utf8_at}
use Rattle.link_rules.specs.Strings.{literal_text, literal_in, string_texts}
use Rattle.java_rows.specs.Units.{literal_units}
use Rattle.row_soundness.specs.Texts.{AreWords}

abbrev AreBelow : ℕ → List ℕ → Type 0
AreBelow n xs = AllByRecursion (λ x. x < n) xs

append_below : (n : ℕ) (a b : List ℕ) → AreBelow n a → AreBelow n b → AreBelow n (a ++ b)
append_below n [] b first second = second
append_below n (x ∷ a) b first second = (first.0, append_below n a b first.1 second)

-- ---- units of modified UTF-8

third_small : (a b : ℕ) (bs : List ℕ) (x : ℕ × List ℕ) → third_at a b bs ≡ Some x → x.0 < 2 ^ 16
third_small a b [] x e = absurd (none-some x e)
third_small a b (c ∷ bs) x e = by_test (is_triple a && is_continuation c) e
  where
    by_test : (t : Bool) → cond t (Some (unit_of (a ∷ b ∷ c ∷ []), bs)) None ≡ Some x → x.0 < 2 ^ 16
    by_test true is = subst (λ (y : ℕ × List ℕ). y.0 < 2 ^ 16) (same_Some (unit_of (a ∷ b ∷ c ∷ []), bs) x is) (omega arith)
    by_test false is = absurd (none-some x is)

second_small : (a : ℕ) (bs : List ℕ) (x : ℕ × List ℕ) → second_at a bs ≡ Some x → x.0 < 2 ^ 16
second_small a [] x e = absurd (none-some x e)
second_small a (b ∷ bs) x e = by_test (is_continuation b) (is_double a) e
  where
    by_test : (s t : Bool) → cond s (cond t (Some (unit_of (a ∷ b ∷ []), bs)) (third_at a b bs)) None ≡ Some x → x.0 < 2 ^ 16
    by_test true true is = subst (λ (y : ℕ × List ℕ). y.0 < 2 ^ 16) (same_Some (unit_of (a ∷ b ∷ []), bs) x is) (omega arith)
    by_test true false is = third_small a b bs x is
    by_test false t is = absurd (none-some x is)

unit_small : (bs : List ℕ) (x : ℕ × List ℕ) → unit_at bs ≡ Some x → x.0 < 2 ^ 16
unit_small [] x e = absurd (none-some x e)
unit_small (a ∷ bs) x e = by_test (is_single a) refl e
  where
    by_test : (t : Bool) → is_single a ≡ t → cond t (Some (unit_of (a ∷ []), bs)) (second_at a bs) ≡ Some x → x.0 < 2 ^ 16
    by_test true single is =
        let most = leb-true a 127 (and_parts (nat_le 1 a) (nat_le a 127) single).1 in
        subst (λ (y : ℕ × List ℕ). y.0 < 2 ^ 16) (same_Some (unit_of (a ∷ []), bs) x is) (omega (arith, most))
    by_test false other is = second_small a bs x is

units_small : (n : ℕ) (bs units : List ℕ) → units_within n bs ≡ Some units → AreBelow (2 ^ 16) units
unfolding units_within
units_small n [] units e = subst (λ us. AreBelow (2 ^ 16) us) (same_Some [] units e) tt
units_small zero (b ∷ bs) units e = absurd (none-some units e)
units_small (suc n) (b ∷ bs) units e = by_unit (unit_at (b ∷ bs)) refl e (λ rest us is. units_small n rest us is)
  where
    by_rest : (u : ℕ) → u < 2 ^ 16 → (o : Option (List ℕ)) → ((us : List ℕ) → o ≡ Some us → AreBelow (2 ^ 16) us) → option_map (λ us. u ∷ us) o ≡ Some units → AreBelow (2 ^ 16) units
    by_rest u small None later is = absurd (none-some units is)
    by_rest u small (Some us) later is = subst (λ xs. AreBelow (2 ^ 16) xs) (same_Some (u ∷ us) units is) (small, later us refl)

    by_unit : (o : Option (ℕ × List ℕ)) → unit_at (b ∷ bs) ≡ o → option_and_then (λ x. option_map (λ us. x.0 ∷ us) (units_within n x.1)) o ≡ Some units
        → ((rest us : List ℕ) → units_within n rest ≡ Some us → AreBelow (2 ^ 16) us) → AreBelow (2 ^ 16) units
    by_unit None same is later = absurd (none-some units is)
    by_unit (Some x) same is later = by_rest x.0 (unit_small (b ∷ bs) x same) (units_within n x.1) (later x.1) is

-- ---- characters and their bytes

alone_small : (u : ℕ) → u < 2 ^ 16 → alone u < 2 ^ 21
alone_small u small = by_test (is_high u || is_low u)
  where
    by_test : (b : Bool) → cond b 63 u < 2 ^ 21
    by_test true = omega arith
    by_test false = omega (arith, small)

pair_small : (u v : ℕ) → u < 2 ^ 16 → v < 2 ^ 16 → is_high u ≡ true → is_low v ≡ true → pair_of u v < 2 ^ 21
pair_small u v first second high_is low_is =
    let high = leb-true u 56319 (and_parts (nat_le 55296 u) (nat_le u 56319) high_is).1 in
    let low_most = leb-true v 57343 (and_parts (nat_le 56320 v) (nat_le v 57343) low_is).1 in
    omega (arith, high, low_most)

characters_small : (n : ℕ) (units : List ℕ) → length units ≤ n → AreBelow (2 ^ 16) units → AreBelow (2 ^ 21) (characters units)
characters_small n [] few all = tt
characters_small n (u ∷ []) few all = (alone_small u all.0, tt)
characters_small zero (u ∷ v ∷ units) few all = absurd (omega (arith, few))
characters_small (suc n) (u ∷ v ∷ units) few all =
    by_test (is_high u && is_low v) refl (characters_small n units (omega (arith, few)) all.1.1) (characters_small n (v ∷ units) (omega (arith, few)) all.1)
  where
    by_test : (b : Bool) → (is_high u && is_low v) ≡ b → AreBelow (2 ^ 21) (characters units) → AreBelow (2 ^ 21) (characters (v ∷ units)) → AreBelow (2 ^ 21) (cond b (pair_of u v ∷ characters units) (alone u ∷ characters (v ∷ units)))
    by_test true both later more = let parts = and_parts (is_high u) (is_low v) both in (pair_small u v all.0 all.1.0 parts.0 parts.1, later)
    by_test false other later more = (alone_small u all.0, more)

encoded_bytes : (c : ℕ) → c < 2 ^ 21 → AreBelow 256 (encode_utf8 c)
unfolding encode_utf8
encoded_bytes c small = by_test (nat_lt c 128) (nat_lt c 2048) (nat_lt c 65536) refl refl refl
  where
    by_test : (x y z : Bool) → nat_lt c 128 ≡ x → nat_lt c 2048 ≡ y → nat_lt c 65536 ≡ z
        → AreBelow 256 (cond x (c ∷ []) (cond y ((192 + c / 64) ∷ (128 + c % 64) ∷ []) (cond z ((224 + c / 4096) ∷ (128 + c / 64 % 64) ∷ (128 + c % 64) ∷ []) ((240 + c / 262144) ∷ (128 + c / 4096 % 64) ∷ (128 + c / 64 % 64) ∷ (128 + c % 64) ∷ []))))
    by_test true y z e f g = let few = ltb-true c 128 e in (omega (arith, few), tt)
    by_test false true z e f g = let few = ltb-true c 2048 f in (omega (arith, few), (omega arith, tt))
    by_test false false true e f g = let few = ltb-true c 65536 g in (omega (arith, few), (omega arith, (omega arith, tt)))
    by_test false false false e f g = (omega (arith, small), (omega arith, (omega arith, (omega arith, tt))))

all_bytes : (cs : List ℕ) → AreBelow (2 ^ 21) cs → AreBelow 256 (encode_utf8_all cs)
all_bytes [] all = tt
all_bytes (c ∷ cs) all = append_below 256 (encode_utf8 c) (encode_utf8_all cs) (encoded_bytes c all.0) (all_bytes cs all.1)

-- a literal's text is bytes
text_bytes : (bytes : List ℕ) → AreBelow 256 (literal_text bytes)
text_bytes bytes = by_units (units_within (length bytes) bytes) refl
  where
    by_units : (o : Option (List ℕ)) → units_within (length bytes) bytes ≡ o → AreBelow 256 (unwrap_or (option_map (λ units. encode_utf8_all (characters units)) o) [])
    by_units None e = tt
    by_units (Some units) e = all_bytes (characters units) (characters_small (length units) units (omega arith) (units_small (length bytes) bytes units e))

-- ---- the texts of a program

append_texts : (a b : List (List ℕ)) → AllByRecursion (λ t. AreBelow 256 t) a → AllByRecursion (λ t. AreBelow 256 t) b → AllByRecursion (λ t. AreBelow 256 t) (a ++ b)
append_texts [] b first second = second
append_texts (t ∷ a) b first second = (first.0, append_texts a b first.1 second)

of_pool : (pool entries : List Constant) → AllByRecursion (λ t. AreBelow 256 t) (filter_map (literal_in pool) entries)
of_pool pool [] = tt
of_pool pool (c ∷ entries) = by_entry c (of_pool pool entries)
  where
    by_entry : (c : Constant) → AllByRecursion (λ t. AreBelow 256 t) (filter_map (literal_in pool) entries) → AllByRecursion (λ t. AreBelow 256 t) (cons_option (literal_in pool c) (filter_map (literal_in pool) entries))
    by_entry (Str text) later = (text_bytes (utf8_at pool text), later)
    by_entry _ later = later

of_units : (us : List ClassUnit) → AllByRecursion (λ t. AreBelow 256 t) (flat_map (λ (u : ClassUnit). filter_map (literal_in u.file.pool) u.file.pool) us)
of_units [] = tt
of_units (u ∷ us) = append_texts (filter_map (literal_in u.file.pool) u.file.pool) (flat_map (λ (x : ClassUnit). filter_map (literal_in x.file.pool) x.file.pool) us) (of_pool u.file.pool u.file.pool) (of_units us)

added : (texts known : List (List ℕ)) → AllByRecursion (λ t. AreBelow 256 t) texts → AllByRecursion (λ t. AreBelow 256 t) known
    → AllByRecursion (λ t. AreBelow 256 t) (fold (λ known text. if list_any (bytes_eq text) known then known else known ++ text ∷ []) known texts)
added [] known all are = are
added (t ∷ texts) known all are = added texts (if list_any (bytes_eq t) known then known else known ++ t ∷ []) all.1 (by_test (list_any (bytes_eq t) known))
  where
    by_test : (b : Bool) → AllByRecursion (λ t. AreBelow 256 t) (cond b known (known ++ t ∷ []))
    by_test true = are
    by_test false = append_texts known (t ∷ []) are (all.0, tt)

-- ---- the units of a text

limit : ℕ → ℕ
limit zero = 2 ^ 29
limit (suc zero) = 2 ^ 22
limit (suc (suc zero)) = 2 ^ 15
limit (suc (suc (suc zero))) = 2 ^ 8
limit (suc (suc (suc (suc n)))) = 0

-- a byte that begins a character
begins_small : (b : ℕ) → b < 256 → lead_bits b < limit (continuation_len b)
unfolding limit
begins_small b small = by_test (nat_lt b 128) (nat_lt b 224) (nat_lt b 240)
  where
    by_test : (x y z : Bool) → cond x b (cond y (b - 192) (cond z (b - 224) (b - 240))) < limit (cond x 0 (cond y 1 (cond z 2 3)))
    by_test true y z = omega (arith, small)
    by_test false true z = omega (arith, small)
    by_test false false true = omega (arith, small)
    by_test false false false = omega (arith, small)

more_small : (n c b : ℕ) → c < limit (suc n) → b < 256 → c * 64 + (b - 128) < limit n
unfolding limit
more_small zero c b small byte = omega (arith, small, byte)
more_small (suc zero) c b small byte = omega (arith, small, byte)
more_small (suc (suc zero)) c b small byte = omega (arith, small, byte)
more_small (suc (suc (suc n))) c b small byte = absurd (omega (arith, small))

after_small : (bs : List ℕ) (n c : ℕ) → c < limit n → AreBelow 256 bs → AreBelow (2 ^ 29) (chars_after n c bs)
unfolding limit
after_small [] zero c small all = (small, tt)
after_small [] (suc n) c small all = tt
after_small (b ∷ bs) zero c small all = (small, after_small bs (continuation_len b) (lead_bits b) (begins_small b all.0) all.1)
after_small (b ∷ bs) (suc n) c small all = after_small bs n (c * 64 + (b - 128)) (more_small n c b small all.0) all.1

chars_small : (bs : List ℕ) → AreBelow 256 bs → AreBelow (2 ^ 29) (chars bs)
unfolding chars
chars_small [] all = tt
chars_small (b ∷ bs) all = after_small bs (continuation_len b) (lead_bits b) (begins_small b all.0) all.1

units_words : (cs : List ℕ) → AreBelow (2 ^ 29) cs → AreWords (flat_map encode_utf16 cs)
units_words [] all = tt
units_words (c ∷ cs) all = append_below (2 ^ 32) (encode_utf16 c) (flat_map encode_utf16 cs) (by_test (nat_lt c 0x1_0000)) (units_words cs all.1)
  where
    by_test : (b : Bool) → AreBelow (2 ^ 32) (cond b (c ∷ []) ((0xD800 + (c - 0x1_0000) / 0x400) ∷ (0xDC00 + (c - 0x1_0000) % 0x400) ∷ []))
    by_test true = let small = all.0 in (omega (arith, small), tt)
    by_test false = let small = all.0 in (omega (arith, small), (omega arith, tt))

text_at : (texts : List (List ℕ)) (n : ℕ) → AllByRecursion (λ t. AreBelow 256 t) texts → AreBelow 256 (unwrap_or (slice_get texts n) [])
text_at [] n all = tt
text_at (t ∷ texts) zero all = all.0
text_at (t ∷ texts) (suc n) all = text_at texts n all.1

pub literals_are_words : (us : List ClassUnit) (n : ℕ) → AreWords (literal_units us n)
literals_are_words us n =
    units_words (chars (unwrap_or (slice_get (string_texts us) n) [])) (chars_small (unwrap_or (slice_get (string_texts us) n) []) (text_at (string_texts us) n (added (flat_map (λ (u : ClassUnit). filter_map (literal_in u.file.pool) u.file.pool) us) [] (of_units us) tt)))
