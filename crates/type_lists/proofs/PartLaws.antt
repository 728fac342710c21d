-- Parts of lists.
use Rattle.std.proofs.Common.{◌≡◌, ◌≢◌, inl, inr, ℕ, zero, suc, ◌+◌, ◌-◌, ◌*◌, ◌/◌, ◌%◌, ◌<◌, ◌≤◌, List, [], ◌∷◌, ◌++◌, length, get_or, replicate, refl, sym, ◌∙◌, ap, subst, arith}
use Rattle.std.proofs.lemmas.List.{get_or-replicate, get_or_past, length-replicate, length_push}
use Rattle.std.proofs.lemmas.Bool.Decides.{leb_tells}
use Rattle.type_rules.specs.declared.types.VerificationType.TheVariants.{Top}
use Rattle.type_lists.specs.declared.parts.Part.{Part}
use Rattle.type_lists.specs.declared.parts.Part.TheVariants.{Leaf}
use Rattle.type_lists.specs.Parts.{leaf_words, node_children, part_at, child_at, most_parts, room, word_of, IsClosed, Grows}

pub zeros : (count n : ℕ) → get_or (replicate {A = ℕ} count 0) n 0 ≡ 0
zeros count n = elim (leb_tells count n) [
  | inl past ↦ get_or_past (replicate count 0) n 0 (subst (λ k. k ≤ n) (sym (length-replicate {A = ℕ} count 0)) past.1)
  | inr inside ↦ get_or-replicate count n 0 0 (omega (arith, inside.1))
]

-- a word of a part is a word of its child one height below
pub word_step : (parts : List Part) (height part place : ℕ) → height ≢ 0
    → word_of parts (height - 1) (child_at parts part (place / room (height - 1))) (place % room (height - 1)) ≡ word_of parts height part place
word_step parts zero part place h = absurd (h refl)
word_step parts (suc height) part place h = ap (λ k. word_of parts k (child_at parts part (place / room k)) (place % room k)) (let e : suc height - 1 ≡ height = omega arith in e)

-- ---- one part more

before_last : (parts : List Part) (x : Part) (i : ℕ) → i ≤ length parts → part_at (parts ++ x ∷ []) i ≡ part_at parts i
before_last parts x zero h = refl
before_last parts x (suc i) h = before parts i (omega (arith, h))
  where
    before : (xs : List Part) (k : ℕ) → k < length xs → get_or (xs ++ x ∷ []) k (Leaf []) ≡ get_or xs k (Leaf [])
    before [] k h = absurd (omega (arith, h))
    before (y ∷ xs) zero h = refl
    before (y ∷ xs) (suc k) h = before xs k (omega (arith, h))

at_last : (parts : List Part) (x : Part) → part_at (parts ++ x ∷ []) (suc (length parts)) ≡ x
at_last [] x = refl
at_last (y ∷ parts) x = at_last parts x

pub pushed_grows : (parts new : List Part) (x : Part) → new ≡ parts ++ x ∷ [] → Grows parts new
pushed_grows parts new x e =
    (let more : length new ≡ length parts + 1 = ap length e ∙ length_push parts x in omega (arith, more), λ i h. ap (λ ps. part_at ps i) e ∙ before_last parts x i h)

pub pushed_at : (parts new : List Part) (x : Part) → new ≡ parts ++ x ∷ [] → part_at new (length new) ≡ x
pushed_at parts new x e =
    let more : length new ≡ suc (length parts) = ap length e ∙ length_push parts x ∙ (let s : length parts + 1 ≡ suc (length parts) = omega arith in s) in
    ap (part_at new) more ∙ ap (λ ps. part_at ps (suc (length parts))) e ∙ at_last parts x

pub pushed_closed : (parts new : List Part) (x : Part) → new ≡ parts ++ x ∷ [] → IsClosed parts (length parts)
    → ((j : ℕ) → get_or (node_children x) j 0 ≤ length parts) → IsClosed new (length new)
pushed_closed parts new x e closed children i j within =
    let more : length new ≡ suc (length parts) = ap length e ∙ length_push parts x ∙ (let s : length parts + 1 ≡ suc (length parts) = omega arith in s) in
    elim (leb_tells i (length parts)) [
      | inl old ↦
          let same : child_at new i j ≡ child_at parts i j = ap (λ p. get_or (node_children p) j 0) ((pushed_grows parts new x e).1 i old.1) in
          omega (arith, same, closed i j old.1, more)
      | inr last ↦
          let here : i ≡ length new = omega (arith, last.1, within, more) in
          let same : child_at new i j ≡ get_or (node_children x) j 0 = ap (λ p. get_or (node_children p) j 0) (ap (part_at new) here ∙ pushed_at parts new x e) in
          omega (arith, same, children j, more)
    ]

-- what is below a bound stays as it was where the parts up to there do
pub same_below : (old new : List Part) (bound : ℕ) → ((i : ℕ) → i ≤ bound → part_at new i ≡ part_at old i) → IsClosed old bound
    → (height part place : ℕ) → part ≤ bound → word_of new height part place ≡ word_of old height part place
same_below old new bound same closed zero part place h = ap (λ p. get_or (leaf_words p) place Top) (same part h)
same_below old new bound same closed (suc height) part place h =
    let child : child_at new part (place / room height) ≡ child_at old part (place / room height) = ap (λ p. get_or (node_children p) (place / room height) 0) (same part h) in
    ap (λ c. word_of new height c (place % room height)) child
    ∙ same_below old new bound same closed height (child_at old part (place / room height)) (place % room height) (closed part (place / room height) h)

-- ---- how many parts there are

pub most_more : (height : ℕ) → height ≢ 0 → most_parts height ≡ 1 + 32 * most_parts (height - 1)
most_more zero h = absurd (h refl)
most_more (suc height) h = ap (λ k. 1 + 32 * most_parts k) (let e : height ≡ suc height - 1 = omega arith in e)

pub some_parts : (height : ℕ) → 1 ≤ most_parts height
some_parts zero = omega arith
some_parts (suc height) = omega arith

-- one child more of a node
pub few_next : (old now new digit most : ℕ) → digit < 32 → now + (32 - digit) * most ≤ old + 32 * most → new ≤ now + most → new + (32 - (digit + 1)) * most ≤ old + 32 * most
few_next old now new digit most inside before more =
    let one : 32 - digit ≡ suc (32 - (digit + 1)) = omega (arith, inside) in
    let times : (32 - digit) * most ≡ most + (32 - (digit + 1)) * most = ap (λ k. k * most) one ∙ (let more : suc (32 - (digit + 1)) * most ≡ most + (32 - (digit + 1)) * most = omega arith in more) in
    omega (arith, times, before, more)

pub few_same : (old now digit most : ℕ) → digit < 32 → now + (32 - digit) * most ≤ old + 32 * most → now + (32 - (digit + 1)) * most ≤ old + 32 * most
few_same old now digit most inside before = few_next old now now digit most inside before (omega arith)
