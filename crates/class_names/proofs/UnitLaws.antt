-- The text of bytes, as a function of them, is the one that they stand for.
use Rattle.std.proofs.Common.{◌≡◌, ◌↔◌, ℕ, zero, suc, ◌≤◌, ◌<◌, List, [], ◌∷◌, ◌++◌, length, map, Some, option_map, refl, sym, ap, ◌∙◌, subst, arith, length-append}
use Rattle.std.specs.Prelude.{encode_utf8_all}
use Rattle.std.specs.List.{AllByRecursion, concat}
use Rattle.class_names.specs.ModifiedUtf8.{IsForm, unit_of, AreForms, characters, IsTextOf}
use Rattle.class_names.specs.ReadingText.{unit_at}
use Rattle.class_names.specs.Units.{units_within, units_of, text_of}
use Rattle.class_names.proofs.Cases.{mapped, went_on}
use Rattle.class_names.proofs.TextLaws.{unit_again, unit_takes, form_full}

-- the bytes are forms of these units
abbrev pub AreUnits : List ℕ → List ℕ → Type 0
AreUnits bytes units = (forms : List (List ℕ)) × AreForms bytes forms × (units ≡ map unit_of forms)

first_unit : (bytes : List ℕ) (x : ℕ × List ℕ) (others : List ℕ) → unit_at bytes ≡ Some x → AreUnits x.1 others → AreUnits bytes (x.0 ∷ others)
first_unit bytes x others some are =
    let t = unit_takes bytes x some in (
      t.form ∷ are.0,
      record { each = (t.good, are.1.each); joined = t.spelled ∙ ap (λ (ys : List ℕ). t.form ++ ys) are.1.joined },
      ap (λ (u : ℕ). u ∷ others) t.unit ∙ ap (λ (us : List ℕ). unit_of t.form ∷ us) are.2,
    )

units_take : (n : ℕ) (bytes units : List ℕ) → units_within n bytes ≡ Some units → AreUnits bytes units
unfolding units_within
units_take n [] units e = subst (λ (us : List ℕ). AreUnits [] us) (same_units e) ([], record { each = tt; joined = refl }, refl)
  where
    same_units : Some [] ≡ Some units → [] ≡ units
    same_units e = cc
units_take zero (b ∷ bytes) units e = absurd cc
units_take (suc n) (b ∷ bytes) units e =
    let w = went_on (λ (x : ℕ × List ℕ). option_map (λ (us : List ℕ). x.0 ∷ us) (units_within n x.1)) (unit_at (b ∷ bytes)) units e in
    let m = mapped (λ (us : List ℕ). w.0.0 ∷ us) (units_within n w.0.1) units w.2 in
    subst (λ (us : List ℕ). AreUnits (b ∷ bytes) us) m.2 (first_unit (b ∷ bytes) w.0 m.0 w.1 (units_take n w.0.1 m.0 m.1))

units_on : (n : ℕ) (bytes : List ℕ) (unit : ℕ) (rest units : List ℕ) → unit_at bytes ≡ Some (unit, rest) → units_within n rest ≡ Some units → 0 < length bytes → units_within (suc n) bytes ≡ Some (unit ∷ units)
unfolding units_within
units_on n [] unit rest units some more full = absurd (omega arith)
units_on n (b ∷ bytes) unit rest units some more full = rw (some, more) refl

units_none : (n : ℕ) → units_within n [] ≡ Some []
unfolding units_within
units_none n = refl

units_again : (forms : List (List ℕ)) (n : ℕ) → AllByRecursion IsForm forms → length (concat forms) ≤ n → units_within n (concat forms) ≡ Some (map unit_of forms)
units_again [] n each enough = units_none n
units_again (form ∷ forms) zero each enough = absurd (omega (arith, form_full form each.0, length-append form (concat forms)))
units_again (form ∷ forms) (suc n) each enough =
    let full = form_full form each.0 in
    let size = length-append form (concat forms) in
    units_on n (form ++ concat forms) (unit_of form) (concat forms) (map unit_of forms) (unit_again form (concat forms) each.0) (units_again forms n each.1 (omega arith)) (omega arith)

pub units_are : (bytes units : List ℕ) → (units_of bytes ≡ Some units) ↔ AreUnits bytes units
units_are bytes units = (
  units_take (length bytes) bytes units,
  λ are. ap (units_within (length bytes)) are.1.joined ∙ (units_again are.0 (length bytes) are.1.each (omega (arith, ap length are.1.joined)) ∙ ap (λ (us : List ℕ). Some us) (sym are.2)),
)

text_takes : (bytes text : List ℕ) → text_of bytes ≡ Some text → IsTextOf bytes text
text_takes bytes text e =
    let m = mapped (λ (units : List ℕ). encode_utf8_all (characters units)) (units_of bytes) text e in
    let are = (units_are bytes m.0).0 m.1 in
    record { forms = are.0; formed = are.1; spelled = sym m.2 ∙ ap (λ (us : List ℕ). encode_utf8_all (characters us)) are.2 }

text_again : (bytes text : List ℕ) → IsTextOf bytes text → text_of bytes ≡ Some text
text_again bytes text is =
    let units = (units_are bytes (map unit_of is.forms)).1 (is.forms, is.formed, refl) in
    ap (option_map (λ (us : List ℕ). encode_utf8_all (characters us))) units ∙ ap (λ (t : List ℕ). Some t) (sym is.spelled)

pub text_is : (bytes text : List ℕ) → (text_of bytes ≡ Some text) ↔ IsTextOf bytes text
text_is bytes text = (text_takes bytes text, text_again bytes text)
