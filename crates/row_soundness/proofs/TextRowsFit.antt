-- The methods of String and StringBuilder.
use Rattle.std.proofs.Common.{◌≡◌, inr, ◌%◌, ◌==◌, ℕ, Bool, true, false, Option, None, Some, List, [], ◌∷◌, ◌++◌, length, slice_get, refl, subst, arith, if◌then◌else◌}
use Rattle.std.specs.Prelude.{codes, bytes_eq}
use Rattle.std.specs.Option.{unwrap_or}
use Rattle.std.proofs.lemmas.Bool.{eqb-true, eqb-false}
use Rattle.builtin_world.specs.declared.number.TheConstants.{OBJECT, STRING, STRING_BUILDER, INDEX_OUT_OF_BOUNDS_EXCEPTION, NEGATIVE_ARRAY_SIZE_EXCEPTION, NULL_POINTER_EXCEPTION}
use Rattle.builtin_world.specs.Laws.{is_throwable}
use Rattle.builtin_world.specs.declared.word.TheConstants.{BUILDER_TEXT}
use Rattle.code_decode.specs.declared.code.ClassUnit.{ClassUnit}
use Rattle.link_types.specs.declared.types.ObjectType.TheVariants.{Class}
use Rattle.link_types.specs.declared.types.ValueType.{ValueType}
use Rattle.java_rows.specs.Numbers.{char_of, is_index}
use Rattle.java_rows.specs.Plan.{Plan, Use, raises, silently, asks_class, writes}
use Rattle.java_rows.specs.Texts.{reads_text, makes_text, length_word, gets_length, char_or_raises, gets_char, same_text, compares, joined, joins, keeps_text, copies_text, reads_appended, appends, gets_builder_length, tells_text}
use Rattle.java_rows.specs.Units.{Appended, an_int, a_long, a_char, a_boolean, a_string, units_without_reading}
use Rattle.row_soundness.specs.Senses.{Sense, IsReference, reference}
use Rattle.row_soundness.specs.Fits.{Returns, PlanFits, anything, UseFits}
use Rattle.row_soundness.specs.Texts.{AreWords}
use Rattle.row_soundness.specs.Knowledge.{Knows}
use Rattle.row_soundness.specs.Accepted.{Accepted}
use Rattle.row_soundness.proofs.Basics.{reference_more}
use Rattle.row_soundness.proofs.NativesFit.{gives_fit, refused_fit, flag_fits}
use Rattle.row_soundness.proofs.ReadValues.{there}
use Rattle.row_soundness.proofs.Plans.{asks_class_fit, writes_fit}
use Rattle.row_soundness.proofs.TextsMade.{unit_word}
use Rattle.row_soundness.proofs.TextsFit.{append_words, string_known, reads_text_fits, reads_so_far_fits, makes_text_fits}
use Rattle.link_types.specs.declared.types.ValueType.TheVariants as values

module _ {P : Type 0} (know : Sense P) (us : List ClassUnit) (knows : Knows know us) (accepted : Accepted us) (me : ℕ) where
  -- ---- what is appended

  abbrev pub AppendedFits : P → Appended → Type 0
  AppendedFits h (a_string s) = IsReference know h s (Class STRING)
  AppendedFits h _ = Unit {0}

  null_text : AreWords (codes "null")
  null_text = (omega arith, (omega arith, (omega arith, (omega arith, tt))))

  flag_text : (b : Bool) → AreWords (if b then codes "true" else codes "false")
  flag_text true = (omega arith, (omega arith, (omega arith, (omega arith, tt))))
  flag_text false = (omega arith, (omega arith, (omega arith, (omega arith, (omega arith, tt)))))

  module _ (res : Option Returns) where
    reads_appended_fits : (h : P) (x : Appended) (k : List ℕ → Plan) → AppendedFits h x → ((h' : P) (units : List ℕ) → know.extends h h' → AreWords units → PlanFits know us res anything (k units) h')
        → PlanFits know us res anything (reads_appended us x k) h
    reads_appended_fits h (an_int n) k fits on = on h (units_without_reading (an_int n)) (knows.itself h) (accepted.numbers.int_units n)
    reads_appended_fits h (a_long low high) k fits on =
        on h (units_without_reading (a_long low high)) (knows.itself h) (accepted.numbers.long_units low high)
    reads_appended_fits h (a_char c) k fits on = on h (char_of c ∷ []) (knows.itself h) (omega arith, tt)
    reads_appended_fits h (a_boolean b) k fits on = on h (units_without_reading (a_boolean b)) (knows.itself h) (flag_text (b % 2 == 1))
    reads_appended_fits h (a_string s) k fits on = by_test (s == 0) refl
      where
        by_test : (b : Bool) → (s == 0) ≡ b → PlanFits know us res anything (if b then k (codes "null") else reads_text us s k) h
        by_test true e = on h (codes "null") (knows.itself h) null_text
        by_test false e = reads_text_fits know us knows accepted me res h s k (there know us knows accepted me h s (Class STRING) (eqb-false s 0 e) fits) on

    -- ---- a builder keeps a new text

    keeps_text_fits : (h : P) (b : ℕ) (units value : List ℕ) (u : Use) → AreWords units → PlanFits know us res anything (raises u NEGATIVE_ARRAY_SIZE_EXCEPTION) h → know.is_raw h b (Class STRING_BUILDER)
        → ((h' : P) → know.extends h h' → PlanFits know us res anything (u.value value) h') → PlanFits know us res anything (keeps_text us b units u value) h
    keeps_text_fits h b units value u words refused raw on =
        makes_text_fits know us knows accepted me res h u units (λ s. writes b BUILDER_TEXT s (u.value value)) words refused
        (λ h' s more is. writes_fit know us knows res h' b BUILDER_TEXT s (reference (Class STRING)) (u.value value) (knows.text h' b (knows.raw_more h h' b (Class STRING_BUILDER) more raw)) (inr is)
        (λ h'' more'. on h'' (knows.both h h' h'' more more')))

    pub copies_text_fits : (h : P) (b s : ℕ) (u : Use) → know.is_raw h b (Class STRING_BUILDER) → IsReference know h s (Class STRING) → ((c : ℕ) → is_throwable c ≡ true → (h' : P) → know.extends h h' → PlanFits know us res anything (raises u c) h')
        → ((h' : P) → know.extends h h' → PlanFits know us res anything (u.value []) h') → PlanFits know us res anything (copies_text us b s u) h
    copies_text_fits h b s u raw fits refused on = by_test (s == 0) refl
      where
        by_test : (x : Bool) → (s == 0) ≡ x → PlanFits know us res anything (if x then raises u NULL_POINTER_EXCEPTION else reads_text us s (λ units. keeps_text us b units u [])) h
        by_test true e = refused NULL_POINTER_EXCEPTION refl h (knows.itself h)
        by_test false e =
            reads_text_fits know us knows accepted me res h s (λ units. keeps_text us b units u []) (there know us knows accepted me h s (Class STRING) (eqb-false s 0 e) fits)
            (λ h' units more words. keeps_text_fits h' b units [] u words (refused NEGATIVE_ARRAY_SIZE_EXCEPTION refl h' more) (knows.raw_more h h' b (Class STRING_BUILDER) more raw) (λ h'' more'. on h'' (knows.both h h' h'' more more')))

  module _ (h : P) (res : Option Returns) (u : Use) (tells : Returns) (on : UseFits know us h res tells u) (plain : tells.made ≡ None) where
    gives : (t : Option ValueType) → tells.value ≡ t → (h' : P) (words : List ℕ) → know.extends h h' → Rattle.row_soundness.specs.Fits.ResultFits know h' t words → PlanFits know us res anything (u.value words) h'
    gives = gives_fit know us knows accepted me h res u tells on plain

    -- ---- String

    pub text_length_fits : tells.value ≡ Some values.Int → (s : ℕ) → know.is_of h s (Class STRING) → PlanFits know us res anything (gets_length us s u) h
    text_length_fits same s of =
        reads_text_fits know us knows accepted me res h s (λ units. u.value (length_word units ∷ [])) of (λ h' units more words. gives (Some values.Int) same h' (length_word units ∷ []) more (λ exact. omega arith))

    pub text_char_fits : tells.value ≡ Some values.Char → (s i : ℕ) → know.is_of h s (Class STRING) → PlanFits know us res anything (gets_char us s i u) h
    text_char_fits same s i of = reads_text_fits know us knows accepted me res h s (char_or_raises u i) of (λ h' units more words. by_index h' units more words (is_index i (length units)))
      where
        by_index : (h' : P) (units : List ℕ) → know.extends h h' → AreWords units → (b : Bool) → PlanFits know us res anything (if b then u.value (unwrap_or (slice_get units i) 0 ∷ []) else raises u INDEX_OUT_OF_BOUNDS_EXCEPTION) h'
        by_index h' units more words true = gives (Some values.Char) same h' (unwrap_or (slice_get units i) 0 ∷ []) more (λ exact. unit_word units i words)
        by_index h' units more words false = refused_fit know us knows accepted me h res u tells on plain INDEX_OUT_OF_BOUNDS_EXCEPTION refl h' more

    pub text_equals_fits : tells.value ≡ Some values.Boolean → (s other : ℕ) → know.is_of h s (Class STRING) → IsReference know h other (Class OBJECT) → PlanFits know us res anything (compares us s other u) h
    text_equals_fits same s other of fits = by_test (other == 0) refl
      where
        by_class : (h' : P) (c n : ℕ) → know.extends h h' → know.is_of h' other (Class OBJECT) → know.is_exactly h' other c n → (b : Bool) → (c == STRING) ≡ b
            → PlanFits know us res anything (if b then reads_text us s (λ a. reads_text us other (same_text u a)) else u.value (0 ∷ [])) h'
        by_class h' c n more of_other exactly true e =
            let is_string : know.is_of h' other (Class STRING) = string_known know us knows accepted me h' other n of_other (subst (λ x. know.is_exactly h' other x n) (eqb-true c 3 e) exactly) in
            reads_text_fits know us knows accepted me res h' s (λ a. reads_text us other (same_text u a)) (knows.of_more h h' s (Class STRING) more of) (λ h'' a more' read.
            reads_text_fits know us knows accepted me res h'' other (same_text u a) (knows.of_more h' h'' other (Class STRING) more' is_string) (λ h''' b more'' read'.
            gives (Some values.Boolean) same h''' ((if bytes_eq a b then 1 else 0) ∷ []) (knows.both h h'' h''' (knows.both h h' h'' more more') more'') (λ exact. flag_fits (bytes_eq a b))))
        by_class h' c n more of_other exactly false e = gives (Some values.Boolean) same h' (0 ∷ []) more (λ exact. omega arith)

        by_test : (b : Bool) → (other == 0) ≡ b
            → PlanFits know us res anything (if b then silently (u.value (0 ∷ [])) else asks_class other (λ c n. if c == STRING then reads_text us s (λ a. reads_text us other (same_text u a)) else u.value (0 ∷ []))) h
        by_test true e = (tt, gives (Some values.Boolean) same h (0 ∷ []) (knows.itself h) (λ exact. omega arith))
        by_test false e =
            let of_other : know.is_of h other (Class OBJECT) = there know us knows accepted me h other (Class OBJECT) (eqb-false other 0 e) fits in
            asks_class_fit know us knows res h other (λ c n. if c == STRING then reads_text us s (λ a. reads_text us other (same_text u a)) else u.value (0 ∷ [])) (knows.looks h other (knows.there_of h other (Class OBJECT) (knows.raw_of h other (Class OBJECT) of_other)))
            (λ h' c n more exactly. by_class h' c n more (knows.of_more h h' other (Class OBJECT) more of_other) exactly (c == STRING) refl)

    pub builder_length_fits : tells.value ≡ Some values.Int → (b : ℕ) → know.is_of h b (Class STRING_BUILDER) → PlanFits know us res anything (gets_builder_length us b u) h
    builder_length_fits same b of =
        reads_so_far_fits know us knows accepted me res h b (λ units. u.value (length_word units ∷ [])) of (λ h' units more words. gives (Some values.Int) same h' (length_word units ∷ []) more (λ exact. omega arith))

    too_long : (h' : P) → know.extends h h' → PlanFits know us res anything (raises u NEGATIVE_ARRAY_SIZE_EXCEPTION) h'
    too_long = refused_fit know us knows accepted me h res u tells on plain NEGATIVE_ARRAY_SIZE_EXCEPTION refl

    pub text_joins_fits : tells.value ≡ Some (values.Object (Class STRING)) → (s other : ℕ) → know.is_of h s (Class STRING) → IsReference know h other (Class STRING) → PlanFits know us res anything (joins us s other u) h
    text_joins_fits same s other of fits = by_test (other == 0) refl
      where
        by_units : (h' : P) (a b : List ℕ) → know.extends h h' → AreWords a → AreWords b → PlanFits know us res anything (joined us s u a b) h'
        by_units h' a [] more first second = gives (Some (values.Object (Class STRING))) same h' (s ∷ []) more (inr (knows.of_more h h' s (Class STRING) more of))
        by_units h' a (x ∷ b) more first second =
            makes_text_fits know us knows accepted me res h' u (a ++ x ∷ b) (λ r. u.value (r ∷ [])) (append_words a (x ∷ b) first second) (too_long h' more)
            (λ h'' r more' is. gives (Some (values.Object (Class STRING))) same h'' (r ∷ []) (knows.both h h' h'' more more') (inr is))

        by_test : (x : Bool) → (other == 0) ≡ x → PlanFits know us res anything (if x then raises u NULL_POINTER_EXCEPTION else reads_text us s (λ a. reads_text us other (joined us s u a))) h
        by_test true e = refused_fit know us knows accepted me h res u tells on plain NULL_POINTER_EXCEPTION refl h (knows.itself h)
        by_test false e =
            let of_other : know.is_of h other (Class STRING) = there know us knows accepted me h other (Class STRING) (eqb-false other 0 e) fits in
            reads_text_fits know us knows accepted me res h s (λ a. reads_text us other (joined us s u a)) of (λ h' a more first.
            reads_text_fits know us knows accepted me res h' other (joined us s u a) (knows.of_more h h' other (Class STRING) more of_other) (λ h'' b more' second.
            by_units h'' a b (knows.both h h' h'' more more') first second))

    -- ---- StringBuilder

    pub appends_fit : tells.value ≡ Some (values.Object (Class STRING_BUILDER)) → (b : ℕ) (x : Appended) → know.is_of h b (Class STRING_BUILDER) → AppendedFits h x → PlanFits know us res anything (appends us b x u) h
    appends_fit same b x of fits =
        reads_so_far_fits know us knows accepted me res h b (λ a. reads_appended us x (λ c. keeps_text us b (a ++ c) u (b ∷ []))) of (λ h' a more first.
        reads_appended_fits res h' x (λ c. keeps_text us b (a ++ c) u (b ∷ [])) (appended_more h' x more fits) (λ h'' c more' second.
        let all : know.extends h h'' = knows.both h h' h'' more more' in
        keeps_text_fits res h'' b (a ++ c) (b ∷ []) u (append_words a c first second) (too_long h'' all) (knows.raw_of h'' b (Class STRING_BUILDER) (knows.of_more h h'' b (Class STRING_BUILDER) all of))
        (λ h''' more''. let all' : know.extends h h''' = knows.both h h'' h''' all more'' in
        gives (Some (values.Object (Class STRING_BUILDER))) same h''' (b ∷ []) all' (inr (knows.of_more h h''' b (Class STRING_BUILDER) all' of)))))
      where
        appended_more : (h' : P) (x : Appended) → know.extends h h' → AppendedFits h x → AppendedFits h' x
        appended_more h' (a_string s) more fits = reference_more know us knows h h' s (Class STRING) more fits
        appended_more h' x more fits = tt

    pub tells_text_fits : tells.value ≡ Some (values.Object (Class STRING)) → (b : ℕ) → know.is_of h b (Class STRING_BUILDER) → PlanFits know us res anything (tells_text us b u) h
    tells_text_fits same b of =
        reads_so_far_fits know us knows accepted me res h b (λ units. makes_text us u units (λ s. u.value (s ∷ []))) of (λ h' units more words.
        makes_text_fits know us knows accepted me res h' u units (λ s. u.value (s ∷ [])) words (too_long h' more) (λ h'' s more' is.
        gives (Some (values.Object (Class STRING))) same h'' (s ∷ []) (knows.both h h' h'' more more') (inr is)))
