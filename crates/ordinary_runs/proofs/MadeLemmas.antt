-- The texts that a program made: which arrays lines name, and those of them that are there.
use Rattle.std.proofs.Common.{◌≡◌, ◌↔◌, ◌⊎◌, inl, inr, ℕ, zero, suc, ◌+◌, ◌<◌, Bool, true, false, Option, Some, None, List, [], ◌∷◌, ◌++◌, All, Contains, take, map, filter, get_or, cond, length, refl, sym, ap, subst, ◌∙◌, arith}
use Rattle.std.specs.Option.{is_some}
use Rattle.std.specs.List.Sorted.{IsStrictlyIncreasing}
use Rattle.std.proofs.lemmas.List.{append-nil, map-append, take_all}
use Rattle.std.proofs.lemmas.List.Elements.{All-append, All-cons, All-nil, Contains-append_left, Contains-append_right, Contains-append_cases, Contains-push, Contains-push_cases, filter_more}
use Rattle.std.proofs.lemmas.List.Kept.{AllPairs-from_increasing, IsStrictlyIncreasing-filter}
use Rattle.op_core.specs.declared.Line.{Line}
use Rattle.op_core.specs.declared.Line.TheVariants.{Made}
use Rattle.op_core.specs.declared.MadeText.{MadeText}
use Rattle.op_core.specs.OrdinaryState.{OrdinaryState, IsThere}
use Rattle.op_core.specs.MadeTexts.{units_at, references_of, AreMadeTexts}
use Rattle.schedules.proofs.RunLemmas.{one_list}
use Rattle.ordinary_machine.specs.Machine.{Machine}
use Rattle.ordinary_machine.specs.Laws.{IsFurther}

-- ---- the arrays that lines name

abbrev pub AreNamed : List Line → List ℕ → Type 0
AreNamed lines arrays = (r : ℕ) → Contains arrays r ↔ Contains lines (Made r)

-- an element of a list of one is that one
only : (x r : ℕ) → Contains (x ∷ []) r → x ≡ r
only x r there = elim (Contains-push_cases [] x r there) [
  | inl none ↦ absurd (omega (arith, none.1))
  | inr same ↦ same
]

no_both : {b : Bool} → b ≡ true → b ≡ false → ⊥
no_both one other = absurd (cc)

abbrev array_of : Line → ℕ
array_of (Made r) = r
array_of _ = 0

pub one_more_named : (lines : List Line) (arrays : List ℕ) (a : ℕ) → AreNamed lines arrays → AreNamed (lines ++ Made a ∷ []) (arrays ++ a ∷ [])
one_more_named lines arrays a are r = (to, from)
  where
    to : Contains (arrays ++ a ∷ []) r → Contains (lines ++ Made a ∷ []) (Made r)
    to there = elim (Contains-push_cases arrays a r there) [
      | inl before ↦ Contains-append_left lines (Made a ∷ []) (Made r) ((are r).0 before)
      | inr same ↦ subst (λ k. Contains (lines ++ Made a ∷ []) (Made k)) same (Contains-push lines (Made a))
    ]

    from : Contains (lines ++ Made a ∷ []) (Made r) → Contains (arrays ++ a ∷ []) r
    from there = elim (Contains-push_cases lines (Made a) (Made r) there) [
      | inl before ↦ Contains-append_left arrays (a ∷ []) r ((are r).1 before)
      | inr same ↦ subst (Contains (arrays ++ a ∷ [])) (ap array_of same) (Contains-push arrays a)
    ]

pub none_more_named : (lines : List Line) (arrays : List ℕ) (line : Line) → AreNamed lines arrays → ((r : ℕ) → line ≡ Made r → ⊥) → AreNamed (lines ++ line ∷ []) arrays
none_more_named lines arrays line are other r = (λ there. Contains-append_left lines (line ∷ []) (Made r) ((are r).0 there), from)
  where
    from : Contains (lines ++ line ∷ []) (Made r) → Contains arrays r
    from there = elim (Contains-push_cases lines line (Made r) there) [
      | inl before ↦ (are r).1 before
      | inr same ↦ absurd (other r same)
    ]

-- ---- those of them that are there

abbrev pub there_in : {S : Type 0} → OrdinaryState S → ℕ → Bool
there_in s r = is_some (s.objects r)

-- the texts of the first n arrays
pub record AreMadeBelow {S : Type 0} (s : OrdinaryState S) (arrays : List ℕ) (n : ℕ) (made : List MadeText) : Type 0 where
  pub references : references_of made ≡ filter (there_in s) (take n arrays)
  pub units : All (λ text. text.units ≡ units_at s text.at) made

pub none_made : {S : Type 0} (s : OrdinaryState S) (arrays : List ℕ) → AreMadeBelow s arrays 0 []
none_made s arrays = record { references = refl; units = All-nil (λ (text : MadeText). text.units ≡ units_at s text.at) }

pub one_more_made : {S : Type 0} (s : OrdinaryState S) (arrays : List ℕ) (n : ℕ) (made : List MadeText) (text : MadeText) → AreMadeBelow s arrays n made
    → n < length arrays → text.at ≡ get_or arrays n 0 → there_in s text.at ≡ true → text.units ≡ units_at s text.at → AreMadeBelow s arrays (n + 1) (made ++ text ∷ [])
one_more_made s arrays n made text those within at there units = record {
  references =
      map-append (λ (t : MadeText). t.at) made (text ∷ [])
      ∙ ap (λ rs. rs ++ text.at ∷ []) those.references
      ∙ ap (λ r. filter (there_in s) (take n arrays) ++ r ∷ []) at
      ∙ ap (λ b. filter (there_in s) (take n arrays) ++ cond b (get_or arrays n 0 ∷ []) []) (sym (ap (there_in s) (sym at) ∙ there))
      ∙ sym (filter_more (there_in s) arrays n 0 within);
  units = All-append (λ (t : MadeText). t.units ≡ units_at s t.at) made (text ∷ []) those.units
      (All-cons (λ (t : MadeText). t.units ≡ units_at s t.at) text [] units (All-nil (λ (t : MadeText). t.units ≡ units_at s t.at)));
}

pub none_more_made : {S : Type 0} (s : OrdinaryState S) (arrays : List ℕ) (n : ℕ) (made : List MadeText) → AreMadeBelow s arrays n made
    → n < length arrays → there_in s (get_or arrays n 0) ≡ false → AreMadeBelow s arrays (n + 1) made
none_more_made s arrays n made those within absent = record {
  references = those.references
      ∙ sym (append-nil (filter (there_in s) (take n arrays)))
      ∙ ap (λ b. filter (there_in s) (take n arrays) ++ cond b (get_or arrays n 0 ∷ []) []) (sym absent)
      ∙ sym (filter_more (there_in s) arrays n 0 within);
  units = those.units;
}

-- an element of a list, or of what a test leaves of it, is what passes
filter_keeps : (p : ℕ → Bool) (xs : List ℕ) (r : ℕ) → Contains (filter p xs) r ↔ (Contains xs r × (p r ≡ true))
filter_keeps p [] r = (λ there. absurd (omega (arith, there.1)), λ there. absurd (omega (arith, there.0.1)))
filter_keeps p (x ∷ xs) r = by (filter_keeps p xs r) (p x) refl
  where
    by : (Contains (filter p xs) r ↔ (Contains xs r × (p r ≡ true))) → (b : Bool) → p x ≡ b → Contains (cond b (x ∷ filter p xs) (filter p xs)) r ↔ (Contains (x ∷ xs) r × (p r ≡ true))
    by rest true is = (
      λ there. elim (Contains-append_cases (x ∷ []) (filter p xs) r there) [
        | inl first ↦ (Contains-append_left (x ∷ []) xs r first, ap p (sym (only x r first)) ∙ is)
        | inr later ↦ (Contains-append_right (x ∷ []) xs r (rest.0 later).0, (rest.0 later).1)
      ],
      λ there. elim (Contains-append_cases (x ∷ []) xs r there.0) [
        | inl first ↦ Contains-append_left (x ∷ []) (filter p xs) r first
        | inr later ↦ Contains-append_right (x ∷ []) (filter p xs) r (rest.1 (later, there.1))
      ],
    )
    by rest false is = (
      λ there. (Contains-append_right (x ∷ []) xs r (rest.0 there).0, (rest.0 there).1),
      λ there. elim (Contains-append_cases (x ∷ []) xs r there.0) [
        | inl first ↦ absurd (no_both (ap p (only x r first) ∙ there.1) is)
        | inr later ↦ rest.1 (later, there.1)
      ],
    )

-- the texts of all arrays that lines name
pub all_made : {S : Type 0} (s : OrdinaryState S) (lines : List Line) (arrays : List ℕ) (made : List MadeText) → IsStrictlyIncreasing arrays → AreNamed lines arrays
    → AreMadeBelow s arrays (length arrays) made → AreMadeTexts s lines made
all_made s lines arrays made rising named those =
    let are : references_of made ≡ filter (there_in s) arrays = those.references ∙ ap (filter (there_in s)) (take_all (length arrays) arrays (omega arith)) in
    record {
      rising = subst IsStrictlyIncreasing (sym are) (IsStrictlyIncreasing-filter (there_in s) arrays rising);
      each = λ r. (
        λ there. both r ((filter_keeps (there_in s) arrays r).0 (subst (λ rs. Contains rs r) are there)),
        λ there. subst (λ rs. Contains rs r) (sym are) ((filter_keeps (there_in s) arrays r).1 ((named r).1 there.0, there.1)),
      );
      units = those.units;
    }
  where
    both : (r : ℕ) → Contains arrays r × (there_in s r ≡ true) → Contains lines (Made r) × IsThere s.objects r
    both r there = ((named r).0 there.0, there.1)

-- ---- they are one list, and the same in a state with the same objects

one_text : {S : Type 0} (s : OrdinaryState S) (x y : MadeText) → y.at ≡ x.at → x.units ≡ units_at s x.at → y.units ≡ units_at s y.at → y ≡ x
one_text s x y same one other =
    let units : y.units ≡ x.units = other ∙ ap (units_at s) same ∙ sym one in
    λ i. record { at = same i; units = units i }

all_texts : {S : Type 0} (s : OrdinaryState S) (xs ys : List MadeText) → references_of ys ≡ references_of xs
    → All (λ (text : MadeText). text.units ≡ units_at s text.at) xs → All (λ (text : MadeText). text.units ≡ units_at s text.at) ys → ys ≡ xs
all_texts s [] [] same one other = refl
all_texts s [] (y ∷ ys) same one other = absurd (cc)
all_texts s (x ∷ xs) [] same one other = absurd (cc)
all_texts s (x ∷ xs) (y ∷ ys) same one other =
    let heads : y.at ≡ x.at = cc in
    let tails : references_of ys ≡ references_of xs = cc in
    let first = one_text s x y heads (one 0 x (omega arith)) (other 0 y (omega arith)) in
    let later = all_texts s xs ys tails (λ k d within. one (suc k) d (omega (arith, within))) (λ k d within. other (suc k) d (omega (arith, within))) in
    λ i. first i ∷ later i

pub made_one : {S : Type 0} (s : OrdinaryState S) (lines : List Line) (xs ys : List MadeText) → AreMadeTexts s lines xs → AreMadeTexts s lines ys → ys ≡ xs
made_one s lines xs ys one other =
    all_texts s xs ys
    (one_list (references_of xs) (references_of ys) (AllPairs-from_increasing (references_of xs) one.rising) (AllPairs-from_increasing (references_of ys) other.rising)
    (λ r there. (other.each r).1 ((one.each r).0 there)) (λ r there. (one.each r).1 ((other.each r).0 there)))
    one.units other.units

pub made_there : {S : Type 0} (s t : OrdinaryState S) (lines : List Line) (made : List MadeText) → record t { threads = s.threads } ≡ s → AreMadeTexts t lines made → AreMadeTexts s lines made
made_there s t lines made same those =
    subst (λ u. AreMadeTexts u lines made) same (record { rising = those.rising; each = those.each; units = those.units })

pub absent : (b : Bool) → (b ≡ true → ⊥) → b ≡ false
absent true never = absurd (never refl)
absent false never = refl
