-- Texts that are known, and labels.
use Rattle.std.proofs.Common.{◌≡◌, ℕ, suc, ◌+◌, ◌-◌, ◌<◌, ◌≤◌, Bool, true, false, cond, eqb, leb, List, [], ◌∷◌, ◌++◌, ◌&&◌, ◌||◌, length, take, drop, get_or, Some, None, refl, sym, ap, ◌∙◌, inl, inr, arith, codes, eq-eqb}
use Rattle.std.specs.Str.{bytes_eq}
use Rattle.std.proofs.lemmas.Option.{same_Some}
use Rattle.std.proofs.lemmas.List.{take-append-drop, length-take-le, drop_all}
use Rattle.std.proofs.Math.Seq.{take-append_seam, drop-cons}
use Rattle.std.proofs.lemmas.Bool.{and_parts, leb-true, le-leb, eqb-true, or_cases}
use Rattle.assembler_lines.specs.Lines.{IsIntDescriptor}
use Rattle.assembler_lines.specs.ReadingLine.{is_int_descriptor, label_of}
use Rattle.class_names.proofs.Cases.{chosen}

pub text_same : (xs ys : List ℕ) → bytes_eq xs ys ≡ true → xs ≡ ys
text_same [] [] e = refl
text_same [] (y ∷ ys) e = absurd cc
text_same (x ∷ xs) [] e = absurd cc
text_same (x ∷ xs) (y ∷ ys) e =
    let p = and_parts (eqb x y) (bytes_eq xs ys) e in
    ap (λ (n : ℕ). n ∷ xs) (eqb-true x y p.0) ∙ ap (λ (ns : List ℕ). y ∷ ns) (text_same xs ys p.1)

text_again : (xs : List ℕ) → bytes_eq xs xs ≡ true
text_again [] = refl
text_again (x ∷ xs) = rw (eq-eqb x x refl, text_again xs) refl

pub text_differs : (xs ys : List ℕ) → bytes_eq xs ys ≡ false → xs ≡ ys → ⊥
text_differs xs ys e same = let yes : bytes_eq xs ys ≡ true = ap (bytes_eq xs) (sym same) ∙ text_again xs in cc

pub text_isnt : (xs ys : List ℕ) → (xs ≡ ys → ⊥) → bytes_eq xs ys ≡ false
text_isnt xs ys differs = by_test (bytes_eq xs ys) refl
  where
    by_test : (b : Bool) → bytes_eq xs ys ≡ b → b ≡ false
    by_test true e = absurd (differs (text_same xs ys e))
    by_test false e = refl

pub int_again : (descriptor : List ℕ) → IsIntDescriptor descriptor → is_int_descriptor descriptor ≡ true
int_again descriptor h =
    elim h [
      | inl t ↦ ap is_int_descriptor t
      | inr a ↦ elim a [ inl t ↦ ap is_int_descriptor t | inr b ↦ elim b [ inl t ↦ ap is_int_descriptor t | inr c ↦ elim c [ inl t ↦ ap is_int_descriptor t | inr t ↦ ap is_int_descriptor t ] ] ]
    ]

pub int_takes : (descriptor : List ℕ) → is_int_descriptor descriptor ≡ true → IsIntDescriptor descriptor
int_takes descriptor e =
    let i = bytes_eq descriptor (codes "I") in
    let s = bytes_eq descriptor (codes "S") in
    let c = bytes_eq descriptor (codes "C") in
    let b = bytes_eq descriptor (codes "B") in
    let z = bytes_eq descriptor (codes "Z") in
    elim (or_cases (i || s || c || b) z e) [
      | inl t4 ↦ elim (or_cases (i || s || c) b t4) [
        | inl t3 ↦ elim (or_cases (i || s) c t3) [
          | inl t2 ↦ elim (or_cases i s t2) [
            | inl t ↦ inl (text_same descriptor (codes "I") t)
            | inr t ↦ inr (inl (text_same descriptor (codes "S") t))
          ]
          | inr t ↦ inr (inr (inl (text_same descriptor (codes "C") t)))
        ]
        | inr t ↦ inr (inr (inr (inl (text_same descriptor (codes "B") t))))
      ]
      | inr t ↦ inr (inr (inr (inr (text_same descriptor (codes "Z") t))))
    ]

both : {A : Type 0} (a b : Bool) (x : A) → a ≡ true → b ≡ true → cond (a && b) (Some x) None ≡ Some x
both a b x s t = rw (s, t) refl

length_with_colon : (name : List ℕ) → length (name ++ 58 ∷ []) ≡ length name + 1
length_with_colon [] = refl
length_with_colon (b ∷ name) = let same = length_with_colon name in omega arith

last_is_colon : (name : List ℕ) → get_or (name ++ 58 ∷ []) (length name) 0 ≡ 58
last_is_colon [] = refl
last_is_colon (b ∷ name) = last_is_colon name

colon_last : (name : List ℕ) → get_or (name ++ 58 ∷ []) (length (name ++ 58 ∷ []) - 1) 0 ≡ 58
colon_last name =
    let back : length (name ++ 58 ∷ []) - 1 ≡ length name = omega (arith, length_with_colon name) in
    ap (λ (n : ℕ). get_or (name ++ 58 ∷ []) n 0) back ∙ last_is_colon name

pub label_again : (name : List ℕ) → 0 < length name → label_of (name ++ 58 ∷ []) ≡ Some name
label_again name h =
    let text = name ++ 58 ∷ [] in
    let back : length (name ++ 58 ∷ []) - 1 ≡ length name = omega (arith, length_with_colon name) in
    let large : leb 2 (length (name ++ 58 ∷ [])) ≡ true = le-leb _ _ (omega (arith, length_with_colon name)) in
    let colon : eqb (get_or (name ++ 58 ∷ []) (length (name ++ 58 ∷ []) - 1) 0) 58 ≡ true = ap (λ (n : ℕ). eqb n 58) (colon_last name) in
    both (leb 2 (length text)) (eqb (get_or text (length text - 1) 0) 58) (take (length text - 1) text) large colon
    ∙ ap (λ (n : List ℕ). Some n) (ap (λ (n : ℕ). take n text) back ∙ take-append_seam name (58 ∷ []))

pub label_takes : (text name : List ℕ) → label_of text ≡ Some name → (text ≡ name ++ 58 ∷ []) × (0 < length name)
label_takes text name e =
    let last = length text - 1 in
    elim (chosen (leb 2 (length text) && eqb (get_or text last 0) 58) (Some (take last text)) None (Some name) e) [
      | inl t ↦
          let p = and_parts (leb 2 (length text)) (eqb (get_or text last 0) 58) t.0 in
          let large : 2 ≤ length text = leb-true 2 (length text) p.0 in
          let front : take (length text - 1) text ≡ name = same_Some (take last text) name t.1 in
          let inside : length text - 1 < length text = omega arith in
          let past : length text ≤ suc (length text - 1) = omega arith in
          let behind : drop (suc (length text - 1)) text ≡ [] = drop_all (suc (length text - 1)) text past in
          let end : drop last text ≡ 58 ∷ [] = drop-cons text last 0 inside ∙ (ap (λ (n : ℕ). n ∷ drop (suc last) text) (eqb-true (get_or text last 0) 58 p.1) ∙ ap (λ (ns : List ℕ). 58 ∷ ns) behind) in (
            sym (take-append-drop last text) ∙ (ap (λ (ns : List ℕ). ns ++ drop last text) front ∙ ap (λ (ns : List ℕ). name ++ ns) end),
            omega (arith, ap length front, length-take-le (length text - 1) text (omega arith)),
          )
      | inr t ↦ absurd (let none = t.1 in cc)
    ]

pub text_other : (name : List ℕ) → bytes_eq (name ++ 58 ∷ []) (codes "end") ≡ false
text_other name = by_test (bytes_eq (name ++ 58 ∷ []) (codes "end")) refl
  where
    by_test : (b : Bool) → bytes_eq (name ++ 58 ∷ []) (codes "end") ≡ b → b ≡ false
    by_test false e = refl
    by_test true e =
        absurd (
        let same = text_same (name ++ 58 ∷ []) (codes "end") e in
        let bad : 58 ≡ 100 = sym (colon_last name) ∙ ap (λ (ns : List ℕ). get_or ns (length ns - 1) 0) same in
        omega arith)
