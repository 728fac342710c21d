-- A builder is read, what is appended is read, and both texts are made one.
use Rattle.std.proofs.Common.{◌≡◌, ◌≢◌, ◌<◌, ◌^◌, ◌==◌, refl, Bool, true, false, ℕ, zero, suc, Option, Some, List, [], ◌∷◌, ◌++◌, length, ap, sym, subst, ◌∙◌, if◌then◌else◌}
use Rattle.std.specs.Prelude.{codes, slice_get, unwrap_or}
use Rattle.std.specs.Option.{option_map_or}
use Rattle.std.proofs.lemmas.Bool.{lt-ltb, ne_eqb}
use Rattle.std.proofs.lemmas.List.{append_assoc, append-nil}
use Rattle.builtin_world.specs.declared.number.TheConstants.{NEGATIVE_ARRAY_SIZE_EXCEPTION, STRING}
use Rattle.builtin_world.specs.declared.word.TheConstants.{BUILDER_TEXT, STRING_UNITS}
use Rattle.code_decode.specs.declared.code.ClassUnit.{ClassUnit}
use Rattle.instructions.specs.declared.operation.PrimitiveType.TheVariants.{Char}
use Rattle.link_rules.specs.Names.{program_names}
use Rattle.link_rules.specs.Readers.{primitive_array_number}
use Rattle.op_core.specs.OrdinaryState.{set_at}
use Rattle.op_core.proofs.PointwiseLemmas.{set_at-hit, set_at-other}
use Rattle.java_rows.specs.Numbers.{char_of}
use Rattle.java_rows.specs.Plan.{Plan, Use, asks_class, reads, writes, raises, silently, stuck}
use Rattle.java_rows.specs.Units.{Appended, a_boolean, a_char, a_long, a_string, an_int, literal_units}
use Rattle.java_rows.specs.Texts.{keeps_text, makes_array, makes_string, makes_text, reads_appended, reads_array, reads_so_far, reads_text, reads_units, writes_units}
use Rattle.text_stages.specs.Reading.{Memory, text_in, units_from}
use Rattle.text_stages.specs.Making.{Going, going, made_memory, with_object, with_word, written}
use Rattle.text_stages.proofs.MakingLaws.{made_texts_are_texts}
use Rattle.builder_texts.specs.BuilderTexts.{AppendsAdd, AppendsJoin, AreNew, BuildersTell, ComesTo, IsText, appended_text, builder_text, goes_on, joined_text, longer, longer_memory, there}

module _ (m : Memory) (rs : List ℕ) (last : Going) where
  -- ---- texts are read

  units_read : (array i n : ℕ) (before : List ℕ) (k : List ℕ → Plan) → ComesTo last (going m rs (k (before ++ units_from m array i n))) → ComesTo last (going m rs (reads_units array i n before k))
  units_read array i zero before k comes = subst (λ xs. ComesTo last (going m rs (k xs))) (append-nil before) comes
  units_read array i (suc n) before k comes =
      goes_on m rs (reads array i (λ v. reads_units array (suc i) n (before ++ char_of v ∷ []) k))
      (units_read array (suc i) n (before ++ char_of (m.words array i) ∷ []) k
      (subst (λ xs. ComesTo last (going m rs (k xs))) (sym (append_assoc before (char_of (m.words array i) ∷ []) (units_from m array (suc i) n))) comes))

  text_read : (us : List ClassUnit) (s : ℕ) (k : List ℕ → Plan) → ComesTo last (going m rs (k (text_in us m s))) → ComesTo last (going m rs (reads_text us s k))
  text_read us s k comes = goes_on m rs (reads_text us s k) (by_word (m.words s STRING_UNITS) (m.words s STRING_UNITS == 0) comes)
    where
      by_word : (array : ℕ) (c : Bool) → ComesTo last (going m rs (k (if c then literal_units us (m.length s) else units_from m array 0 (m.length array))))
          → ComesTo last (going m rs (if c then asks_class s (λ d n. k (literal_units us n)) else reads_array array k))
      by_word array true comes = goes_on m rs (asks_class s (λ d n. k (literal_units us n))) comes
      by_word array false comes =
          goes_on m rs (reads_array array k) (goes_on m rs (silently (reads_units array 0 (m.length array) [] k)) (units_read array 0 (m.length array) [] k comes))

  so_far_read : (us : List ClassUnit) (b : ℕ) (k : List ℕ → Plan) → ComesTo last (going m rs (k (builder_text us m b))) → ComesTo last (going m rs (reads_so_far us b k))
  so_far_read us b k comes = goes_on m rs (reads_so_far us b k) (by_word (m.words b BUILDER_TEXT) (m.words b BUILDER_TEXT == 0) comes)
    where
      by_word : (s : ℕ) (c : Bool) → ComesTo last (going m rs (k (if c then [] else text_in us m s))) → ComesTo last (going m rs (if c then k [] else reads_text us s k))
      by_word s true comes = comes
      by_word s false comes = text_read us s k comes

  appended_read : (us : List ClassUnit) (x : Appended) (k : List ℕ → Plan) → ComesTo last (going m rs (k (appended_text us m x))) → ComesTo last (going m rs (reads_appended us x k))
  appended_read us (a_string s) k comes = by_word (s == 0) comes
    where
      by_word : (c : Bool) → ComesTo last (going m rs (k (if c then codes "null" else text_in us m s))) → ComesTo last (going m rs (if c then k (codes "null") else reads_text us s k))
      by_word true comes = comes
      by_word false comes = text_read us s k comes
  appended_read us (an_int n) k comes = comes
  appended_read us (a_long low high) k comes = comes
  appended_read us (a_char c) k comes = comes
  appended_read us (a_boolean b) k comes = comes

module _ (last : Going) where
  -- ---- a text is made

  units_written : (m : Memory) (array s i n : ℕ) (rs units : List ℕ) (k : ℕ → Plan) → ComesTo last (going (with_word (with_object (written m array units i n) s STRING 0) s STRING_UNITS array) rs (k s))
      → ComesTo last (going m (s ∷ rs) (writes_units array units i n (makes_string array k)))
  units_written m array s i zero rs units k comes = goes_on m (s ∷ rs) (makes_string array k) (goes_on (with_object m s STRING 0) rs (writes s STRING_UNITS array (k s)) comes)
  units_written m array s i (suc n) rs units k comes =
      goes_on m (s ∷ rs) (writes array i (unwrap_or (slice_get units i) 0) (writes_units array units (suc i) n (makes_string array k)))
      (units_written (with_word m array i (unwrap_or (slice_get units i) 0)) array s (suc i) n rs units k comes)

  text_made : (us : List ClassUnit) (m : Memory) (u : Use) (class array s : ℕ) (rs units : List ℕ) (k : ℕ → Plan) → primitive_array_number (program_names us) Char ≡ Some class → length units < 2 ^ 31
      → ComesTo last (going (made_memory m class array s units) rs (k s)) → ComesTo last (going m (array ∷ s ∷ rs) (makes_text us u units k))
  text_made us m u class array s rs units k numbered short comes =
      goes_on m (array ∷ s ∷ rs) (makes_text us u units k)
      (subst (λ b. ComesTo last (going m (array ∷ s ∷ rs) (if b then option_map_or (λ c. makes_array c units k) (primitive_array_number (program_names us) Char) stuck else raises u NEGATIVE_ARRAY_SIZE_EXCEPTION))) (sym (lt-ltb (length units) (2 ^ 31) short))
      (subst (λ (o : Option ℕ). ComesTo last (going m (array ∷ s ∷ rs) (option_map_or (λ c. makes_array c units k) o stuck))) (sym numbered)
      (goes_on m (array ∷ s ∷ rs) (makes_array class units k) (units_written (with_object m array class (length units)) array s 0 (length units) rs units k comes))))

-- ---- the builder's text

units_same : (m n : Memory) (array i count : ℕ) → m.words array ≡ n.words array → units_from m array i count ≡ units_from n array i count
units_same m n array i zero same = refl
units_same m n array i (suc count) same = ap (λ (f : ℕ → ℕ). char_of (f i) ∷ units_from m array (suc i) count) same ∙ ap (λ xs. char_of (n.words array i) ∷ xs) (units_same m n array (suc i) count same)

-- a text isn't touched by words of another object
text_untouched : (us : List ClassUnit) (m : Memory) (s array b v : ℕ) → m.words s STRING_UNITS ≡ array → array ≢ 0 → s ≢ b → array ≢ b → text_in us (with_word m b BUILDER_TEXT v) s ≡ text_in us m s
text_untouched us m s array b v word some apart other =
    let after : Memory = with_word m b BUILDER_TEXT v in
    let words : after.words s ≡ m.words s = set_at-other m.words b (set_at (m.words b) BUILDER_TEXT v) s apart in
    let same : after.words array ≡ m.words array = set_at-other m.words b (set_at (m.words b) BUILDER_TEXT v) array other in
    ap (λ (f : ℕ → ℕ). if f STRING_UNITS == 0 then literal_units us (m.length s) else units_from after (f STRING_UNITS) 0 (m.length (f STRING_UNITS))) words
    ∙ (ap (λ x. if x == 0 then literal_units us (m.length s) else units_from after x 0 (m.length x)) word
    ∙ (ap (λ c. if c then literal_units us (m.length s) else units_from after array 0 (m.length array)) (ne_eqb array 0 some)
    ∙ (units_same after m array 0 (m.length array) same
    ∙ (sym (ap (λ c. if c then literal_units us (m.length s) else units_from m array 0 (m.length array)) (ne_eqb array 0 some))
    ∙ sym (ap (λ x. if x == 0 then literal_units us (m.length s) else units_from m x 0 (m.length x)) word)))))

-- what append leaves is the text of the builder
longer_text : (us : List ClassUnit) (m : Memory) (b : ℕ) (x : Appended) (class array s : ℕ) → AreNew array s b → IsText (longer us m b x) → builder_text us (longer_memory us m b x class array s) b ≡ longer us m b x
longer_text us m b x class array s new is =
    let made : Memory = made_memory m class array s (longer us m b x) in
    let before : Memory = with_object (written (with_object m array class (length (longer us m b x))) array (longer us m b x) 0 (length (longer us m b x))) s STRING 0 in
    let after : Memory = longer_memory us m b x class array s in
    let word : after.words b BUILDER_TEXT ≡ s = ap (λ (f : ℕ → ℕ). f BUILDER_TEXT) (set_at-hit made.words b (set_at (made.words b) BUILDER_TEXT s)) ∙ set_at-hit (made.words b) BUILDER_TEXT s in
    let named : made.words s STRING_UNITS ≡ array = ap (λ (f : ℕ → ℕ). f STRING_UNITS) (set_at-hit before.words s (set_at (before.words s) STRING_UNITS array)) ∙ set_at-hit (before.words s) STRING_UNITS array in
    ap (λ w. if w == 0 then [] else text_in us after w) word
    ∙ (ap (λ c. if c then [] else text_in us after s) (ne_eqb s 0 new.string)
    ∙ (text_untouched us made s array b s named new.some new.other_string new.other_array
    ∙ made_texts_are_texts us m class array s (longer us m b x) new.some new.apart is.are_units))

pub appends_add : AppendsAdd
appends_add us m b x u class array s rs numbered new is = record {
  comes = so_far_read m (array ∷ s ∷ rs) last us b (λ a. reads_appended us x (λ c. keeps_text us b (a ++ c) u (b ∷ [])))
      (appended_read m (array ∷ s ∷ rs) last us x (λ c. keeps_text us b (builder_text us m b ++ c) u (b ∷ []))
      (text_made last us m u class array s rs (longer us m b x) (λ q. writes b BUILDER_TEXT q (u.value (b ∷ []))) numbered is.short
      (goes_on (made_memory m class array s (longer us m b x)) rs (writes b BUILDER_TEXT s (u.value (b ∷ []))) there)));
  text = longer_text us m b x class array s new is;
}
  where
    last : Going
    last = going (longer_memory us m b x class array s) rs (u.value (b ∷ []))

pub appends_join : AppendsJoin
appends_join us m b class [] can = sym (append-nil (builder_text us m b))
appends_join us m b class (p ∷ ps) (new, is, rest) =
    let after : Memory = longer_memory us m b p.value class p.array p.string in
    appends_join us after b class ps rest
    ∙ (ap (λ xs. xs ++ joined_text us after b class ps) (longer_text us m b p.value class p.array p.string new is)
    ∙ append_assoc (builder_text us m b) (appended_text us m p.value) (joined_text us after b class ps))

pub builders_tell : BuildersTell
builders_tell us m b u class array s rs numbered new is = record {
  comes = so_far_read m (array ∷ s ∷ rs) (going (made_memory m class array s (builder_text us m b)) rs (u.value (s ∷ []))) us b (λ units. makes_text us u units (λ q. u.value (q ∷ [])))
      (text_made (going (made_memory m class array s (builder_text us m b)) rs (u.value (s ∷ []))) us m u class array s rs (builder_text us m b) (λ q. u.value (q ∷ [])) numbered is.short there);
  text = made_texts_are_texts us m class array s (builder_text us m b) new.some new.apart is.are_units;
}
