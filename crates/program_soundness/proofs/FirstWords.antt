-- The words of class objects as a program begins.
use Rattle.std.proofs.Common.{◌≡◌, inl, inr, ◌<◌, ◌≤◌, ◌+◌, ◌*◌, ◌%◌, ◌^◌, ◌||◌, ℕ, zero, suc, Bool, true, false, cond, Option, None, Some, List, [], ◌∷◌, ◌++◌, codes, bytes_eq, filter, flat_map, length, map, slice_get, sum_by, take, refl, sym, ap, subst, ◌∙◌, arith}
use Rattle.std.specs.Prelude.{pos, option_and_then, unwrap_or}
use Rattle.std.specs.List.{AllByRecursion}
use Rattle.std.specs.Int.{w32, cast_unsigned}
use Rattle.std.proofs.lemmas.Bool.{or_cases}
use Rattle.std.proofs.lemmas.List.Sums.{sum_by-cons}
use Rattle.std.proofs.lemmas.Option.{none-some, same_Some, slice_get_within}
use Rattle.std.proofs.lemmas.Slice.Eq.{bytes_eq-Decides}
use Rattle.access_flags.specs.declared.TheConstants.{STATIC}
use Rattle.access_flags.specs.Flags.{has}
use Rattle.builtin_world.specs.Library.{library}
use Rattle.builtin_world.specs.declared.number.TheConstants.{STRING}
use Rattle.class_names.specs.Reading.{spells_class_name, split_at_semicolon, base_at, kind_at}
use Rattle.class_names.specs.Kinds.{field_kind, kinds_within}
use Rattle.class_read.specs.declared.class_file.Member.{Member}
use Rattle.class_read.specs.AttributeRules.{is_constant_for}
use Rattle.class_walk.specs.declared.class.Constant.{Constant}
use Rattle.class_walk.specs.declared.class.Constant.TheVariants as constants
use Rattle.code_decode.specs.declared.code.ClassUnit.{ClassUnit}
use Rattle.code_facts.specs.Facts.{HasWords}
use Rattle.code_facts.proofs.CodeFacts.{have_words}
use Rattle.link_types.specs.declared.types.ObjectType.{ObjectType}
use Rattle.link_types.specs.declared.types.ObjectType.TheVariants.{Class}
use Rattle.link_types.specs.declared.types.ValueType.{ValueType}
use Rattle.link_types.specs.declared.types.ValueType.TheVariants as values
use Rattle.link_rules.specs.Classes.{NamedMember, member_of_file, utf8_at}
use Rattle.link_rules.specs.FixedObjects.{class_words_of_unit, constant_long, constant_word, first_constant, first_free, first_words, stored_word, string_object, two_words}
use Rattle.link_rules.specs.Layout.{field_words, is_long, is_stored, own_words}
use Rattle.link_rules.specs.Names.{ProgramNames, program_names, string_number, value_type}
use Rattle.link_rules.specs.Strings.{literal_text, string_texts}
use Rattle.link_rules.specs.Units.{AreUnits}
use Rattle.link_rules.proofs.Lists.{before_at, slice_get-behind}
use Rattle.link_rules.proofs.Objects.{first_words_count}
use Rattle.link_rules.proofs.Texts.{literals}
use Rattle.number_facts.proofs.NumberLaws.{fit as numbers_fit}
use Rattle.program_soundness.proofs.FieldConstants.{field_constant}

-- ---- the words of one field

-- the first words of a static field lie at its place
pub words_at : (p : ProgramNames) (pool : List Constant) (ms : List Member) (i j : ℕ) (m : Member) → slice_get ms i ≡ Some m → has m.flags STATIC ≡ true → j < length (first_words p pool m)
    → slice_get (flat_map (first_words p pool) (filter (λ (x : Member). has x.flags STATIC) ms)) (own_words true (take i (map (member_of_file pool) ms)) + j) ≡ slice_get (first_words p pool m) j
words_at p pool [] i j m there static within = absurd (none-some m there)
words_at p pool (x ∷ ms) zero j m there static within =
    let same : x ≡ m = same_Some x m there in
    let kept : filter (λ (y : Member). has y.flags STATIC) (x ∷ ms) ≡ x ∷ filter (λ (y : Member). has y.flags STATIC) ms = ap (λ b. cond b (x ∷ filter (λ (y : Member). has y.flags STATIC) ms) (filter (λ (y : Member). has y.flags STATIC) ms)) (subst (λ (y : Member). has y.flags STATIC ≡ true) (sym same) static) in
    let place : 0 + j ≡ j = omega arith in
    ap (λ ys. slice_get (flat_map (first_words p pool) ys) (0 + j)) kept
    ∙ (ap (slice_get (first_words p pool x ++ flat_map (first_words p pool) (filter (λ (y : Member). has y.flags STATIC) ms))) place
    ∙ (before_at (first_words p pool x) (flat_map (first_words p pool) (filter (λ (y : Member). has y.flags STATIC) ms)) j (subst (λ (y : Member). j < length (first_words p pool y)) (sym same) within)
    ∙ ap (λ (y : Member). slice_get (first_words p pool y) j) same))
words_at p pool (x ∷ ms) (suc i) j m there static within = by_flag (has x.flags STATIC) (words_at p pool ms i j m there static within)
  where
    rest : List ℕ
    rest = flat_map (first_words p pool) (filter (λ (y : Member). has y.flags STATIC) ms)

    before : List NamedMember
    before = take i (map (member_of_file pool) ms)

    by_flag : (b : Bool) → slice_get (flat_map (first_words p pool) (filter (λ (y : Member). has y.flags STATIC) ms)) (own_words true (take i (map (member_of_file pool) ms)) + j) ≡ slice_get (first_words p pool m) j
        → slice_get (flat_map (first_words p pool) (cond b (x ∷ filter (λ (y : Member). has y.flags STATIC) ms) (filter (λ (y : Member). has y.flags STATIC) ms)))
        (sum_by field_words (cond b (member_of_file pool x ∷ filter (is_stored true) (take i (map (member_of_file pool) ms))) (filter (is_stored true) (take i (map (member_of_file pool) ms)))) + j) ≡ slice_get (first_words p pool m) j
    by_flag false later = later
    by_flag true later =
        let sum : sum_by field_words (member_of_file pool x ∷ filter (is_stored true) (take i (map (member_of_file pool) ms))) ≡ field_words (member_of_file pool x) + own_words true (take i (map (member_of_file pool) ms)) = sum_by-cons field_words (member_of_file pool x) (filter (is_stored true) (take i (map (member_of_file pool) ms))) in
        let many : length (first_words p pool x) ≡ field_words (member_of_file pool x) = first_words_count p pool x in
        let place : sum_by field_words (member_of_file pool x ∷ filter (is_stored true) (take i (map (member_of_file pool) ms))) + j ≡ length (first_words p pool x) + (own_words true (take i (map (member_of_file pool) ms)) + j) = omega (arith, sum, many) in
        ap (slice_get (first_words p pool x ++ flat_map (first_words p pool) (filter (λ (y : Member). has y.flags STATIC) ms))) place
        ∙ (slice_get-behind (first_words p pool x) (flat_map (first_words p pool) (filter (λ (y : Member). has y.flags STATIC) ms)) (own_words true (take i (map (member_of_file pool) ms)) + j)
        ∙ later)

-- ---- the words are words

AreSmall : List ℕ → Type 0
AreSmall ws = AllByRecursion (λ w. w < 2 ^ 32) ws

append_small : (a b : List ℕ) → AreSmall a → AreSmall b → AreSmall (a ++ b)
unfolding AreSmall
append_small [] b first second = second
append_small (w ∷ a) b first second = (first.0, append_small a b first.1 second)

pub small_at : (ws : List ℕ) (i : ℕ) → AllByRecursion (λ w. w < 2 ^ 32) ws → unwrap_or (slice_get ws i) 0 < 2 ^ 32
small_at [] i all = omega arith
small_at (w ∷ ws) zero all = all.0
small_at (w ∷ ws) (suc i) all = small_at ws i all.1

stored_small : (descriptor : List ℕ) (w : ℕ) → w < 2 ^ 32 → stored_word descriptor w < 2 ^ 32
stored_small descriptor w small = by_tests (bytes_eq descriptor (codes "Z")) (bytes_eq descriptor (codes "B")) (bytes_eq descriptor (codes "C")) (bytes_eq descriptor (codes "S"))
  where
    by_tests : (z b c s : Bool) → cond z (w % 2) (cond b (Rattle.java_rows.specs.Numbers.byte_of w) (cond c (w % 2 ^ 16) (cond s (Rattle.java_rows.specs.Numbers.short_of w) w))) < 2 ^ 32
    by_tests true b c s = omega arith
    by_tests false true c s = numbers_fit.bytes w
    by_tests false false true s = omega arith
    by_tests false false false true = numbers_fit.shorts w
    by_tests false false false false = small

module _ (us : List ClassUnit) (units : AreUnits us) (room : first_free (program_names us) ≤ 2 ^ 32) where
  -- a literal that a pool has
  literal_within : (k i at : ℕ) (u : ClassUnit) → slice_get us k ≡ Some u → slice_get u.file.pool i ≡ Some (constants.Str at) → string_number (program_names us) (literal_text (utf8_at u.file.pool at)) < length (program_names us).strings
  literal_within k i at u there entry = slice_get_within (string_texts us) (string_number (program_names us) (literal_text (utf8_at u.file.pool at))) (literal_text (utf8_at u.file.pool at)) (literals us k i at u there entry)

  literal_small : (n : ℕ) → n < length (program_names us).strings → string_object (program_names us) n < 2 ^ 32
  literal_small n within =
      let start : string_object (program_names us) n ≡ Rattle.link_rules.specs.FixedObjects.arguments_object (program_names us) + 2 + 3 * n = refl in
      let end : first_free (program_names us) ≡ Rattle.link_rules.specs.FixedObjects.arguments_object (program_names us) + 2 + 3 * length (program_names us).strings = refl in
      omega (arith, start, end, within, room)

  module _ (k : ℕ) (u : ClassUnit) (there : slice_get us k ≡ Some u) where
    pool_words : HasWords u.file.pool
    pool_words = have_words u.file (units k u there).file

    constant_small : (descriptor : List ℕ) (n : ℕ) (c : Option Constant) → slice_get u.file.pool n ≡ c → constant_word (program_names us) u.file.pool descriptor c < 2 ^ 32
    constant_small descriptor n (Some (constants.Integer z)) entry = stored_small descriptor (cast_unsigned w32 z) (pool_words.ints n z entry)
    constant_small descriptor n (Some (constants.Str text)) entry = literal_small (string_number (program_names us) (literal_text (utf8_at u.file.pool text))) (literal_within k n text u there entry)
    constant_small descriptor n _ entry = omega arith

    long_small : (n : ℕ) (c : Option Constant) → slice_get u.file.pool n ≡ c → constant_long c < 2 ^ 64
    long_small n (Some (constants.Long z)) entry = pool_words.longs n z entry
    long_small n _ entry = omega arith

    first_small : (m : Member) → AreSmall (first_words (program_names us) u.file.pool m)
    unfolding AreSmall
    first_small m = by_constant m.constant
      where
        by_long : (b : Bool) (c : Option Constant) → constant_word (program_names us) u.file.pool (utf8_at u.file.pool m.descriptor) c < 2 ^ 32 → constant_long c < 2 ^ 64
            → AllByRecursion (λ w. w < 2 ^ 32) (cond b (two_words (constant_long c)) (constant_word (program_names us) u.file.pool (utf8_at u.file.pool m.descriptor) c ∷ []))
        by_long true c word long = (omega arith, (omega (arith, long), tt))
        by_long false c word long = (word, tt)

        by_constant : (o : Option ℕ) → AllByRecursion (λ w. w < 2 ^ 32) (cond (is_long (member_of_file u.file.pool m)) (two_words (constant_long (option_and_then (slice_get u.file.pool) o))) (constant_word (program_names us) u.file.pool (utf8_at u.file.pool m.descriptor) (option_and_then (slice_get u.file.pool) o) ∷ []))
        by_constant None = by_long (is_long (member_of_file u.file.pool m)) None (omega arith) (omega arith)
        by_constant (Some n) = by_long (is_long (member_of_file u.file.pool m)) (slice_get u.file.pool n) (constant_small (utf8_at u.file.pool m.descriptor) n (slice_get u.file.pool n) refl) (long_small n (slice_get u.file.pool n) refl)

    all_small : (ms : List Member) → AreSmall (flat_map (first_words (program_names us) u.file.pool) ms)
    unfolding AreSmall
    all_small [] = tt
    all_small (m ∷ ms) = append_small (first_words (program_names us) u.file.pool m) (flat_map (first_words (program_names us) u.file.pool) ms) (first_small m) (all_small ms)

    pub class_words_small : (i : ℕ) → unwrap_or (slice_get (class_words_of_unit (program_names us) u) i) 0 < 2 ^ 32
    unfolding AreSmall
    class_words_small i = small_at (class_words_of_unit (program_names us) u) i (all_small (filter (λ (m : Member). has m.flags STATIC) u.file.fields))

    -- ---- references

    -- the word of a static field of a type of objects is null, or a literal in a field of type String
    pub data IsReferenceWord (t : ObjectType) (w : ℕ) : Type 0 where
      is_null : w ≡ 0 → IsReferenceWord t w
      is_literal : (n : ℕ) → n < length (program_names us).strings → w ≡ string_object (program_names us) n → t ≡ Class STRING → IsReferenceWord t w

    -- no int is for a field of such a type
    int_type : (text : List ℕ) (t : ObjectType) → is_constant_for text (constants.Integer (pos 0)) ≡ true → option_and_then (value_type (program_names us)) (field_kind text) ≡ Some (values.Object t) → ⊥
    unfolding library spells_class_name split_at_semicolon base_at kind_at kinds_within
    int_type text t is typed = elim (or_cases (bytes_eq text (codes "I") || bytes_eq text (codes "S") || bytes_eq text (codes "C") || bytes_eq text (codes "B")) (bytes_eq text (codes "Z")) is) [
      | inr z ↦ no_object (codes "Z") z (λ e. cc)
      | inl more ↦ elim (or_cases (bytes_eq text (codes "I") || bytes_eq text (codes "S") || bytes_eq text (codes "C")) (bytes_eq text (codes "B")) more) [
        | inr b ↦ no_object (codes "B") b (λ e. cc)
        | inl more ↦ elim (or_cases (bytes_eq text (codes "I") || bytes_eq text (codes "S")) (bytes_eq text (codes "C")) more) [
          | inr c ↦ no_object (codes "C") c (λ e. cc)
          | inl more ↦ elim (or_cases (bytes_eq text (codes "I")) (bytes_eq text (codes "S")) more) [ inl i ↦ no_object (codes "I") i (λ e. cc) | inr s ↦ no_object (codes "S") s (λ e. cc) ]
        ]
      ]
    ]
      where
        no_object : (d : List ℕ) → bytes_eq text d ≡ true → (option_and_then (value_type (program_names us)) (field_kind d) ≡ Some (values.Object t) → ⊥) → ⊥
        no_object d a never = never (subst (λ x. option_and_then (value_type (program_names us)) (field_kind x) ≡ Some (values.Object t)) ((bytes_eq-Decides text d).0 a) typed)

    string_type : option_and_then (value_type (program_names us)) (field_kind (codes "Ljava/lang/String;")) ≡ Some (values.Object (Class STRING))
    unfolding library spells_class_name split_at_semicolon base_at kind_at kinds_within
    string_type = refl

    reference_word : (m : Member) (t : ObjectType) (n : ℕ) (c : Constant) → slice_get u.file.pool n ≡ Some c → is_constant_for (utf8_at u.file.pool m.descriptor) c ≡ true → option_and_then (value_type (program_names us)) (field_kind (utf8_at u.file.pool m.descriptor)) ≡ Some (values.Object t)
        → IsReferenceWord t (constant_word (program_names us) u.file.pool (utf8_at u.file.pool m.descriptor) (Some c))
    reference_word m t n (constants.Integer z) entry for typed = absurd (int_type (utf8_at u.file.pool m.descriptor) t for typed)
    reference_word m t n (constants.Str text) entry for typed =
        is_literal (string_number (program_names us) (literal_text (utf8_at u.file.pool text))) (literal_within k n text u there entry) refl
        (same_type (same_Some (values.Object t) (values.Object (Class STRING)) (sym typed ∙ (ap (λ x. option_and_then (value_type (program_names us)) (field_kind x)) ((bytes_eq-Decides (utf8_at u.file.pool m.descriptor) (codes "Ljava/lang/String;")).0 for) ∙ string_type))))
      where
        same_type : ◌≡◌ {A = ValueType} (values.Object t) (values.Object (Class STRING)) → t ≡ Class STRING
        same_type e = cc
    reference_word m t n c entry for typed = is_null refl

    pub reference_at_start : (i : ℕ) (m : Member) (t : ObjectType) → slice_get u.file.fields i ≡ Some m → option_and_then (value_type (program_names us)) (field_kind (utf8_at u.file.pool m.descriptor)) ≡ Some (values.Object t)
        → IsReferenceWord t (constant_word (program_names us) u.file.pool (utf8_at u.file.pool m.descriptor) (first_constant u.file.pool m))
    reference_at_start i m t at typed = by_constant m.constant refl
      where
        by_constant : (o : Option ℕ) → m.constant ≡ o → IsReferenceWord t (constant_word (program_names us) u.file.pool (utf8_at u.file.pool m.descriptor) (option_and_then (slice_get u.file.pool) o))
        by_constant None none = is_null refl
        by_constant (Some n) some =
            let (c, entry, for) = field_constant u (units k u there) i m at n some in
            subst (λ o. IsReferenceWord t (constant_word (program_names us) u.file.pool (utf8_at u.file.pool m.descriptor) o)) (sym entry) (reference_word m t n c entry for typed)
