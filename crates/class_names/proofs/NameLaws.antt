-- Reading a name byte by byte accepts exactly the class names.
use Rattle.std.proofs.Common.{◌≡◌, ◌≢◌, ℕ, Bool, true, false, cond, List, [], ◌∷◌, ◌++◌, flat_map, ◌⊎◌, inl, inr, ◌&&◌, eqb, refl, sym, ap, ◌∙◌, ◌+◌, ◌<◌, length, get_or, drop, add-one, drop-cons, arith}
use Rattle.std.proofs.lemmas.Bool.{cases_Bool, and_parts, eqb-true, eq-eqb, ne_eqb, cond-true, cond-false}
use Rattle.std.specs.List.{AllByRecursion}
use Rattle.class_names.specs.Names.{is_name_byte, IsNameByte, IsMemberName, IsClassName, with_slash}
use Rattle.class_names.specs.Reading.{spells_class_name}

-- the bytes go on with a class name, whose first part may have begun before them
record GoesOn (begun : Bool) (bytes : List ℕ) : Type 0 where
  first : List ℕ
  others : List (List ℕ)
  fits : AllByRecursion IsNameByte first
  begins : (begun ≡ true) ⊎ (first ≢ [])
  parts : AllByRecursion IsMemberName others
  joined : bytes ≡ first ++ flat_map with_slash others

byte : (begun : Bool) (b : ℕ) (bs : List ℕ) → is_name_byte b ≡ true → GoesOn true bs → GoesOn begun (b ∷ bs)
byte begun b bs fits r = record { first = b ∷ r.first; others = r.others; fits = (fits, r.fits); begins = inr (λ e. cc); parts = r.parts; joined = ap (λ (xs : List ℕ). b ∷ xs) r.joined }

slash : (begun : Bool) (b : ℕ) (bs : List ℕ) → (eqb b 47 && begun) ≡ true → GoesOn false bs → GoesOn begun (b ∷ bs)
slash begun b bs test r =
    let t = and_parts (eqb b 47) begun test in
    let is : b ≡ 47 = eqb-true b 47 t.0 in
    let full : r.first ≢ [] = elim r.begins [ inl e ↦ absurd cc | inr ne ↦ ne ] in
    record {
      first = [];
      others = r.first ∷ r.others;
      fits = tt;
      begins = inl t.1;
      parts = ((full, r.fits), r.parts);
      joined = ap (λ (c : ℕ). c ∷ bs) is ∙ ap (λ (xs : List ℕ). 47 ∷ xs) r.joined;
    }

sound : (begun : Bool) (bs : List ℕ) → spells_class_name begun bs ≡ true → GoesOn begun bs
unfolding spells_class_name
sound begun [] e = record { first = []; others = []; fits = tt; begins = inl e; parts = tt; joined = refl }
sound begun (b ∷ bs) e =
    elim (cases_Bool (is_name_byte b)) [
      | inl good ↦ byte begun b bs good (sound true bs (sym (cond-true (is_name_byte b) _ _ good) ∙ e))
      | inr bad ↦
          let e2 = sym (cond-false (is_name_byte b) (spells_class_name true bs) (cond (eqb b 47 && begun) (spells_class_name false bs) false) bad) ∙ e in
          elim (cases_Bool (eqb b 47 && begun)) [
            | inl test ↦ slash begun b bs test (sound false bs (sym (cond-true (eqb b 47 && begun) (spells_class_name false bs) false test) ∙ e2))
            | inr test ↦ let e3 = sym (cond-false (eqb b 47 && begun) (spells_class_name false bs) false test) ∙ e2 in absurd cc
          ]
    ]

over : (bs rest : List ℕ) → AllByRecursion IsNameByte bs → spells_class_name true (bs ++ rest) ≡ spells_class_name true rest
unfolding spells_class_name
over [] rest h = refl
over (b ∷ bs) rest h = rw h.0 (over bs rest h.1)

part : (begun : Bool) (name rest : List ℕ) → IsMemberName name → spells_class_name begun (name ++ rest) ≡ spells_class_name true rest
unfolding spells_class_name
part begun [] rest h = absurd (h.0 refl)
part begun (b ∷ bs) rest h = rw h.1.0 (over bs rest h.1.1)

parts : (others : List (List ℕ)) → AllByRecursion IsMemberName others → spells_class_name true (flat_map with_slash others) ≡ true
unfolding spells_class_name
parts [] h = refl
parts (o ∷ others) h = part false o (flat_map with_slash others) h.0 ∙ parts others h.1

pub spells_name : (name : List ℕ) → IsClassName name → spells_class_name false name ≡ true
spells_name name h = ap (spells_class_name false) h.joined ∙ (part false h.first (flat_map with_slash h.others) h.first_part ∙ parts h.others h.other_parts)

pub name_spelled : (name : List ℕ) → spells_class_name false name ≡ true → IsClassName name
name_spelled name e =
    let r = sound false name e in
    let full : r.first ≢ [] = elim r.begins [ inl f ↦ absurd cc | inr ne ↦ ne ] in
    record { first = r.first; others = r.others; first_part = (full, r.fits); other_parts = r.parts; joined = r.joined }

-- no class name has a ;
pub other_than_semicolon : (begun : Bool) (bs : List ℕ) → spells_class_name begun bs ≡ true → AllByRecursion (λ b. eqb b 59 ≡ false) bs
unfolding spells_class_name
other_than_semicolon begun [] e = tt
other_than_semicolon begun (b ∷ bs) e =
    elim (cases_Bool (is_name_byte b)) [
      | inl good ↦ (grind arith, other_than_semicolon true bs (sym (cond-true (is_name_byte b) _ _ good) ∙ e))
      | inr bad ↦
          let e2 = sym (cond-false (is_name_byte b) (spells_class_name true bs) (cond (eqb b 47 && begun) (spells_class_name false bs) false) bad) ∙ e in
          elim (cases_Bool (eqb b 47 && begun)) [
            | inl test ↦ (let is : b ≡ 47 = eqb-true b 47 (and_parts (eqb b 47) begun test).0 in rw is refl, other_than_semicolon false bs (sym (cond-true (eqb b 47 && begun) (spells_class_name false bs) false test) ∙ e2))
            | inr test ↦ let e3 = sym (cond-false (eqb b 47 && begun) (spells_class_name false bs) false test) ∙ e2 in absurd cc
          ]
    ]

-- one byte more
pub spells_on : (begun : Bool) (bs : List ℕ) (i : ℕ) → i < length bs
    → spells_class_name begun (drop i bs) ≡ cond (is_name_byte (get_or bs i 0)) (spells_class_name true (drop (i + 1) bs)) (cond (eqb (get_or bs i 0) 47 && begun) (spells_class_name false (drop (i + 1) bs)) false)
unfolding spells_class_name
spells_on begun bs i lt = rw (add-one, drop-cons bs i 0 lt) refl

pub spells_byte : (begun : Bool) (bs : List ℕ) (i : ℕ) (whole : Bool) → i < length bs → spells_class_name begun (drop i bs) ≡ whole
    → is_name_byte (get_or bs i 0) ≡ true → spells_class_name true (drop (i + 1) bs) ≡ whole
spells_byte begun bs i whole lt h good = sym (spells_on begun bs i lt ∙ rw good refl) ∙ h

pub spells_slash : (begun : Bool) (bs : List ℕ) (i : ℕ) (whole : Bool) → i < length bs → spells_class_name begun (drop i bs) ≡ whole
    → is_name_byte (get_or bs i 0) ≡ false → get_or bs i 0 ≡ 47 → begun ≡ true → spells_class_name false (drop (i + 1) bs) ≡ whole
spells_slash begun bs i whole lt h bad is yet = let t = eq-eqb (get_or bs i 0) 47 is in sym (spells_on begun bs i lt ∙ rw (bad, t, yet) refl) ∙ h

pub spells_no_slash : (begun : Bool) (bs : List ℕ) (i : ℕ) (whole : Bool) → i < length bs → spells_class_name begun (drop i bs) ≡ whole
    → is_name_byte (get_or bs i 0) ≡ false → (get_or bs i 0 ≡ 47 → ⊥) → false ≡ whole
spells_no_slash begun bs i whole lt h bad other = let t = ne_eqb (get_or bs i 0) 47 other in sym (spells_on begun bs i lt ∙ rw (bad, t) refl) ∙ h

pub spells_empty_part : (begun : Bool) (bs : List ℕ) (i : ℕ) (whole : Bool) → i < length bs → spells_class_name begun (drop i bs) ≡ whole
    → is_name_byte (get_or bs i 0) ≡ false → get_or bs i 0 ≡ 47 → begun ≡ false → false ≡ whole
spells_empty_part begun bs i whole lt h bad is not_yet = let t = eq-eqb (get_or bs i 0) 47 is in sym (spells_on begun bs i lt ∙ rw (bad, t, not_yet) refl) ∙ h
