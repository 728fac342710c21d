-- Which levels are in a writer, and where.
use Rattle.std.proofs.Common.{◌≡◌, inl, inr, ℕ, zero, suc, ◌+◌, ◌-◌, ◌<◌, ◌≤◌, Option, Some, List, [], ◌∷◌, length, drop, refl, sym, ◌∙◌, ap, subst, arith}
use Rattle.std.specs.Prelude.{slice_get}
use Rattle.std.proofs.lemmas.Option.{same_Some}
use Rattle.step_port.specs.declared.answer.StepAnswer.TheVariants.{Done}
use Rattle.step_port.specs.declared.step.Step.{Step}
use Rattle.step_port.specs.declared.step.Step.TheVariants.{OpenSection, OpenLevel}
use Rattle.core_runs.specs.Cores.{Core}
use Rattle.core_runs.specs.Acts.{Act, did, mover}
use Rattle.section_laws.specs.LevelRun.{In, IsLevel}
use Rattle.section_laws.proofs.level_runs.LevelLemmas.{has_nth}
use Rattle.written_words.specs.Writers.{OpensInside, AreLevelsOf}

-- the section in which the step opens a level
abbrev section_of : Step → ℕ
section_of (OpenSection s w) = s
section_of (OpenLevel s w) = s
section_of step = 0

abbrev section_by : Option Act → ℕ
section_by (Some (did t step a)) = section_of step
section_by act = 0

-- the act that opened a level says its thread and its section
opened_by : (acts : List Act) (t s p : ℕ) (levels : List ℕ) → OpensInside acts t s p levels → (mover (slice_get acts p) ≡ t) × (section_by (slice_get acts p) ≡ s)
opened_by acts t s p [] (w, is) = (ap mover is, ap section_by is)
opened_by acts t s p (q ∷ levels) (w, is) = (ap mover is, ap section_by is)

pub place_in : (i v : ℕ) (levels : List ℕ) → slice_get levels i ≡ Some v → In v levels
place_in i v [] is = cc
place_in zero v (x ∷ levels) is = inl (sym (same_Some x v is))
place_in (suc i) v (x ∷ levels) is = inr (place_in i v levels is)

pub data Order (k m : ℕ) : Type 0 where
  comes_before : k < m → Order k m
  is_there : k ≡ m → Order k m
  comes_behind : m < k → Order k m

pub order : (k m : ℕ) → Order k m
order zero zero = is_there refl
order zero (suc m) = comes_before (omega arith)
order (suc k) zero = comes_behind (omega arith)
order (suc k) (suc m) = elim (order k m) [ comes_before low ↦ comes_before (omega (arith, low)) | is_there eq ↦ is_there (ap suc eq) | comes_behind low ↦ comes_behind (omega (arith, low)) ]

pub index_of : (v : ℕ) (levels : List ℕ) → In v levels → (i : ℕ) × (slice_get levels i ≡ Some v)
index_of v [] there = absurd there
index_of v (q ∷ levels) there = elim there [
  | inl here ↦ (0, ap Some (sym here))
  | inr more ↦ let found = index_of v levels more in (suc found.0, found.1)
]

pub outermost_place : (levels : List ℕ) → 0 < length levels → (q : ℕ) × (slice_get levels (length levels - 1) ≡ Some q)
outermost_place levels some = has_nth (length levels - 1) levels (last (length levels) some)
  where
    last : (n : ℕ) → 0 < n → n - 1 < n
    last n some = omega (arith, some)

module _ {S : Type 0} (c : ℕ → Core S) (acts : List Act) where
  pub of_thread : (t s v : ℕ) (levels : List ℕ) → AreLevelsOf c acts t s levels → In v levels → (mover (slice_get acts v) ≡ t) × (section_by (slice_get acts v) ≡ s)
  of_thread t s v [] are there = absurd there
  of_thread t s v (p ∷ levels) are there = elim there [
    | inl here ↦ subst (λ n. (mover (slice_get acts n) ≡ t) × (section_by (slice_get acts n) ≡ s)) (sym here) (opened_by acts t s p levels are.0)
    | inr more ↦ of_thread t s v levels are.2 more
  ]

  -- no level is of two threads, or of two sections
  pub one_section : (t s u r v : ℕ) (levels others : List ℕ) → AreLevelsOf c acts t s levels → In v levels → AreLevelsOf c acts u r others → In v others → (t ≡ u) × (s ≡ r)
  one_section t s u r v levels others are there also too =
      let one = of_thread t s v levels are there in
      let other = of_thread u r v others also too in
      (sym one.0 ∙ other.0, sym one.1 ∙ other.1)

  -- the levels further out than v, which were open as it was opened
  pub outside : (t s v : ℕ) (levels : List ℕ) → AreLevelsOf c acts t s levels → In v levels → (q : ℕ) → In q ((c v).levels t) → In q levels
  outside t s v [] are there q further = absurd there
  outside t s v (p ∷ levels) are there q further = elim there [
    | inl here ↦ inr (subst (In q) (ap (λ n. (c n).levels t) here ∙ are.1) further)
    | inr more ↦ inr (outside t s v levels are.2 more q further)
  ]

  pub at_least : (t s v : ℕ) (levels : List ℕ) → AreLevelsOf c acts t s levels → In v levels → suc (length ((c v).levels t)) ≤ length levels
  at_least t s v [] are there = absurd there
  at_least t s v (p ∷ levels) are there = elim there [
    | inl here ↦ first (length ((c v).levels t)) (length levels) (ap (λ n. length ((c n).levels t)) here ∙ ap length are.1)
    | inr more ↦ next (length ((c v).levels t)) (length levels) (at_least t s v levels are.2 more)
  ]
    where
      first : (m n : ℕ) → m ≡ n → suc m ≤ suc n
      first m n is = omega (arith, is)

      next : (m n : ℕ) → suc m ≤ n → suc m ≤ suc n
      next m n low = omega (arith, low)

  -- it is the level after those that were open as it was opened
  pub is_level : (t s v : ℕ) (levels : List ℕ) → AreLevelsOf c acts t s levels → In v levels → IsLevel v (suc (length ((c v).levels t))) levels
  is_level t s v [] are there = absurd there
  is_level t s v (p ∷ levels) are there = elim there [
    | inl here ↦ inl (here, ap (λ n. suc (length ((c n).levels t))) here ∙ ap (λ l. suc (length l)) are.1)
    | inr more ↦ inr (is_level t s v levels are.2 more)
  ]

  -- the act that opened it
  pub opened_at : (t s v : ℕ) (levels : List ℕ) → AreLevelsOf c acts t s levels → In v levels → OpensInside acts t s v ((c v).levels t)
  opened_at t s v [] are there = absurd there
  opened_at t s v (p ∷ levels) are there = elim there [
    | inl here ↦ subst (λ n. OpensInside acts t s n ((c n).levels t)) (sym here) (subst (OpensInside acts t s p) (sym are.1) are.0)
    | inr more ↦ opened_at t s v levels are.2 more
  ]

  -- the outermost one opened the section
  pub outermost_one : (t s p : ℕ) (levels : List ℕ) → AreLevelsOf c acts t s (p ∷ levels) → (q w : ℕ) × (slice_get acts q ≡ Some (did t (OpenSection s w) Done)) × In q (p ∷ levels)
  outermost_one t s p [] are = (p, are.0.0, are.0.1, inl refl)
  outermost_one t s p (q ∷ levels) are = let more = outermost_one t s q levels are.2 in (more.0, more.1, more.2, inr more.3)

  -- no two threads have levels of one section, since that is opened once
  pub one_thread : ((j k t u s v w : ℕ) → slice_get acts j ≡ Some (did t (OpenSection s v) Done) → slice_get acts k ≡ Some (did u (OpenSection s w) Done) → j ≡ k)
      → (t u s p q : ℕ) (levels others : List ℕ) → AreLevelsOf c acts t s (p ∷ levels) → AreLevelsOf c acts u s (q ∷ others) → u ≡ t
  one_thread once t u s p q levels others are also =
      let one = outermost_one t s p levels are in
      let other = outermost_one u s q others also in
      ap mover (sym other.2 ∙ ap (slice_get acts) (once other.0 one.0 u t s other.1 one.1 other.2 one.2) ∙ one.2)

  -- number i of the levels, counted from the innermost, is as deep as levels were open as it was opened
  pub depth_at : (t s i v : ℕ) (levels : List ℕ) → AreLevelsOf c acts t s levels → slice_get levels i ≡ Some v → length levels - i ≡ suc (length ((c v).levels t))
  depth_at t s i v [] are is = cc
  depth_at t s zero v (p ∷ levels) are is = whole (length levels) ∙ ap suc (sym (ap length are.1)) ∙ ap (λ n. suc (length ((c n).levels t))) (same_Some p v is)
    where
      whole : (n : ℕ) → suc n - 0 ≡ suc n
      whole n = omega arith
  depth_at t s (suc i) v (p ∷ levels) are is = shift (length levels) i ∙ depth_at t s i v levels are.2 is
    where
      shift : (n i : ℕ) → suc n - suc i ≡ n - i
      shift n i = omega arith

  -- the last of them opened the section
  pub outermost_opens : (t s q : ℕ) (levels : List ℕ) → AreLevelsOf c acts t s levels → 0 < length levels → slice_get levels (length levels - 1) ≡ Some q → (w : ℕ) × (slice_get acts q ≡ Some (did t (OpenSection s w) Done))
  outermost_opens t s q levels are some is =
      subst (OpensInside acts t s q) (empty ((c q).levels t) (alone (length levels) (length ((c q).levels t)) some (depth_at t s (length levels - 1) q levels are is))) (opened_at t s q levels are (place_in (length levels - 1) q levels is))
    where
      alone : (n d : ℕ) → 0 < n → n - (n - 1) ≡ suc d → d ≡ 0
      alone n d some is = omega (arith, some, is)

      empty : (levels : List ℕ) → length levels ≡ 0 → levels ≡ []
      empty [] none = refl
      empty (p ∷ levels) none = cc

  -- and those after it are further out
  pub behind_at : (t s i v q : ℕ) (levels : List ℕ) → AreLevelsOf c acts t s levels → slice_get levels i ≡ Some v → (j : ℕ) → i < j → slice_get levels j ≡ Some q → In q ((c v).levels t)
  behind_at t s i v q [] are is j later also = cc
  behind_at t s i v q (p ∷ levels) are is zero later also = absurd (no i later)
    where
      no : (i : ℕ) → i < 0 → ⊥
      no i later = omega (arith, later)
  behind_at t s zero v q (p ∷ levels) are is (suc j) later also = subst (λ n. In q ((c n).levels t)) (same_Some p v is) (subst (In q) (sym are.1) (place_in j q levels also))
  behind_at t s (suc i) v q (p ∷ levels) are is (suc j) later also = behind_at t s i v q levels are.2 is j (omega (arith, later)) also

-- number i of the levels that are left, where the innermost j are closed
pub place_later : (i j v : ℕ) (levels : List ℕ) → slice_get (drop j levels) i ≡ Some v → slice_get levels (j + i) ≡ Some v
place_later i zero v levels is = ap (slice_get levels) (none i) ∙ is
  where
    none : (i : ℕ) → 0 + i ≡ i
    none i = omega arith
place_later i (suc j) v [] is = cc
place_later i (suc j) v (x ∷ levels) is = ap (slice_get (x ∷ levels)) (next i j) ∙ place_later i j v levels is
  where
    next : (i j : ℕ) → suc j + i ≡ suc (j + i)
    next i j = omega arith
