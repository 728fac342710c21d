-- Texts that are read and made: every loop over units by one induction over their count.
use Rattle.std.proofs.Common.{◌≡◌, ◌⊎◌, inl, inr, ◌+◌, ◌^◌, ◌==◌, ℕ, zero, suc, Bool, true, false, Option, List, [], ◌∷◌, ◌++◌, length, refl, sym, subst, arith, if◌then◌else◌}
use Rattle.std.specs.Option.{option_map_or}
use Rattle.std.proofs.lemmas.Bool.{eqb-false, ltb-true}
use Rattle.std.proofs.lemmas.List.{length-append}
use Rattle.builtin_world.specs.declared.number.TheConstants.{OBJECT, STRING, STRING_BUILDER, NEGATIVE_ARRAY_SIZE_EXCEPTION}
use Rattle.builtin_world.specs.declared.word.TheConstants.{BUILDER_TEXT}
use Rattle.code_decode.specs.declared.code.ClassUnit.{ClassUnit}
use Rattle.link_types.specs.declared.types.ObjectType.TheVariants.{Class}
use Rattle.link_rules.specs.Names.{program_names}
use Rattle.link_rules.specs.Readers.{primitive_array_number}
use Rattle.java_rows.specs.Numbers.{char_of}
use Rattle.java_rows.specs.Plan.{Plan, Use, silently, stuck, raises, asks_class}
use Rattle.java_rows.specs.Texts.{reads_units, reads_array, reads_text, is_short, makes_array, makes_text, reads_so_far}
use Rattle.java_rows.specs.Units.{literal_units}
use Rattle.row_soundness.specs.Senses.{Sense, IsReference, reference}
use Rattle.row_soundness.specs.Fits.{Returns, PlanFits, anything}
use Rattle.row_soundness.specs.Texts.{AreWords}
use Rattle.row_soundness.specs.Knowledge.{Knows, CanBeMade}
use Rattle.row_soundness.specs.Accepted.{Accepted}
use Rattle.row_soundness.proofs.ReadValues.{there}
use Rattle.row_soundness.proofs.Plans.{asks_class_fit, reads_fit, reads_array_fit, reads_unit_fit}
use Rattle.row_soundness.proofs.TextsMade.{string_type}
use Rattle.instructions.specs.declared.operation.PrimitiveType.TheVariants as primitives

-- ---- units

pub append_words : (a b : List ℕ) → AreWords a → AreWords b → AreWords (a ++ b)
append_words [] b first second = second
append_words (v ∷ a) b first second = (first.0, append_words a b first.1 second)

module _ {P : Type 0} (know : Sense P) (us : List ClassUnit) (knows : Knows know us) (accepted : Accepted us) (me : ℕ) where
  -- a new StringBuilder is initialized where it is made
  pub builder_set : (h : P) (r : ℕ) → know.is_raw h r (Class STRING_BUILDER) → know.is_of h r (Class STRING_BUILDER)
  builder_set h r raw = knows.set h r STRING_BUILDER OBJECT raw (knows.made_object h r STRING_BUILDER (inr refl) raw)

  -- an object whose class is String
  pub string_known : (h : P) (r n : ℕ) → know.is_of h r (Class OBJECT) → know.is_exactly h r STRING n → know.is_of h r (Class STRING)
  string_known h r n of exactly = subst (λ t. know.is_of h r t) (string_type us) (knows.own h r STRING n of exactly)

  module _ (res : Option Returns) where
    -- ---- a text is read

    reads_units_fit : (h : P) (array c n left i : ℕ) (before : List ℕ) (k : List ℕ → Plan) → know.is_text h array → know.is_exactly h array c n → i + left ≡ n → length before ≡ i → AreWords before
        → ((h' : P) (units : List ℕ) → know.extends h h' → AreWords units → PlanFits know us res anything (k units) h')
        → PlanFits know us res anything (reads_units array i left before k) h
    reads_units_fit h array c n zero i before k of exactly sum long words on = on h before (knows.itself h) words
    reads_units_fit h array c n (suc left) i before k of exactly sum long words on =
        reads_unit_fit know us knows res h array c n i (λ v. reads_units array (suc i) left (before ++ char_of v ∷ []) k) of exactly (omega (arith, sum))
        (λ h' v more. reads_units_fit h' array c n left (suc i) (before ++ char_of v ∷ []) k (knows.text_more h h' array more of) (knows.exactly_more h h' array c n more exactly) (omega (arith, sum))
        (omega (arith, long, length-append before (char_of v ∷ []))) (append_words before (char_of v ∷ []) words (omega arith, tt))
        (λ h'' units more' read. on h'' units (knows.both h h' h'' more more') read))

    pub reads_text_fits : (h : P) (s : ℕ) (k : List ℕ → Plan) → know.is_of h s (Class STRING)
        → ((h' : P) (units : List ℕ) → know.extends h h' → AreWords units → PlanFits know us res anything (k units) h')
        → PlanFits know us res anything (reads_text us s k) h
    reads_text_fits h s k of on =
        reads_array_fit know us knows res h s (λ array. if array == 0 then asks_class s (λ c n. k (literal_units us n)) else reads_array array k) of
        (λ h' array more fits. by_test h' array more fits (array == 0) refl)
      where
        by_test : (h' : P) (array : ℕ) → know.extends h h' → (array ≡ 0) ⊎ know.is_text h' array → (b : Bool) → (array == 0) ≡ b
            → PlanFits know us res anything (if b then asks_class s (λ c n. k (literal_units us n)) else reads_array array k) h'
        by_test h' array more fits true e =
            asks_class_fit know us knows res h' s (λ c n. k (literal_units us n)) (knows.looks h' s (knows.there_of h' s (Class STRING) (knows.raw_of h' s (Class STRING) (knows.of_more h h' s (Class STRING) more of))))
            (λ h'' c n more' exactly. on h'' (literal_units us n) (knows.both h h' h'' more more') (accepted.literals n))
        by_test h' array more (inl null) false e = absurd (eqb-false array 0 e null)
        by_test h' array more (inr text) false e =
            asks_class_fit know us knows res h' array (λ c n. silently (reads_units array 0 n [] k)) (knows.looks h' array (knows.text_there h' array text))
            (λ h'' c n more' exactly. (
              tt,
              reads_units_fit h'' array c n n 0 [] k (knows.text_more h' h'' array more' text) exactly (omega arith) refl tt
                  (λ h''' units more'' read. on h''' units (knows.both h h'' h''' (knows.both h h' h'' more more') more'') read),
            ))

    -- the text of a builder so far
    pub reads_so_far_fits : (h : P) (b : ℕ) (k : List ℕ → Plan) → know.is_of h b (Class STRING_BUILDER)
        → ((h' : P) (units : List ℕ) → know.extends h h' → AreWords units → PlanFits know us res anything (k units) h')
        → PlanFits know us res anything (reads_so_far us b k) h
    reads_so_far_fits h b k of on =
        reads_fit know us knows res h b BUILDER_TEXT (reference (Class STRING)) (λ s. if s == 0 then k [] else reads_text us s k) (knows.text h b (knows.raw_of h b (Class STRING_BUILDER) of))
        (λ h' s more fits. by_test h' s more fits (s == 0) refl)
      where
        by_test : (h' : P) (s : ℕ) → know.extends h h' → IsReference know h' s (Class STRING) → (x : Bool) → (s == 0) ≡ x → PlanFits know us res anything (if x then k [] else reads_text us s k) h'
        by_test h' s more fits true e = on h' [] more tt
        by_test h' s more fits false e =
            reads_text_fits h' s k (there know us knows accepted me h' s (Class STRING) (eqb-false s 0 e) fits) (λ h'' units more' read. on h'' units (knows.both h h' h'' more more') read)

    -- ---- a text is made

    -- it is made, or one that is too long is refused
    pub makes_text_fits : (h : P) (u : Use) (units : List ℕ) (k : ℕ → Plan) → AreWords units → PlanFits know us res anything (raises u NEGATIVE_ARRAY_SIZE_EXCEPTION) h
        → ((h' : P) (s : ℕ) → know.extends h h' → know.is_of h' s (Class STRING) → PlanFits know us res anything (k s) h') → PlanFits know us res anything (makes_text us u units k) h
    makes_text_fits h u units k words refused on = (tt, by_length (is_short units) refl)
      where
        can_string : CanBeMade us STRING 0
        can_string = record { class = accepted.built_in STRING (omega arith) (omega arith); length = omega arith }

        by_length : (b : Bool) → is_short units ≡ b → PlanFits know us res anything (if b then option_map_or (λ class. makes_array class units k) (primitive_array_number (program_names us) primitives.Char) stuck else raises u NEGATIVE_ARRAY_SIZE_EXCEPTION) h
        by_length true e =
            let (c, numbered, array, class, type) = accepted.char_arrays in
            subst (λ (o : Option ℕ). PlanFits know us res anything (option_map_or (λ class. makes_array class units k) o stuck) h) (sym numbered) (knows.makes_text res h c units k (record { class = class; length = ltb-true (length units) (2 ^ 31) e }) array type can_string words on)
        by_length false e = refused
