-- The numbers of sections: what each step makes of them and of the words of sections.
use Rattle.std.proofs.Common.{◌≡◌, ℕ, zero, suc, ◌+◌, ◌<◌, ◌≤◌, Bool, true, false, Option, None, Some, nat_eq, refl, sym, ◌∙◌, ap, subst, arith}
use Rattle.std.specs.Prelude.{if◌then◌else◌}
use Rattle.std.proofs.lemmas.Grind.{common_steps}
use Rattle.std.proofs.lemmas.Bool.Decides.{nat_tests}
use Rattle.heap_words.specs.declared.areas.Area.{Area}
use Rattle.heap_words.specs.declared.areas.Area.TheVariants.{Control, Section}
use Rattle.section_state.specs.SectionWord.{state_of}
use Rattle.step_port.specs.declared.answer.StepAnswer.{StepAnswer}
use Rattle.step_port.specs.declared.answer.StepAnswer.TheVariants.{Found}
use Rattle.step_port.specs.declared.step.Effect.TheVariants.{Exchange}
use Rattle.step_port.specs.declared.step.Step.{Step}
use Rattle.step_port.specs.Steps.{place_of, effect_of}
use Rattle.step_port.specs.Words.{Words, area_eq, put_by, answer_to, answer_of, words_after}
use Rattle.thread_automaton.specs.ThreadState.{ThreadState, opening_word}
use Rattle.thread_automaton.specs.Changes.{section_at}
use Rattle.section_laws.proofs.WordLemmas.{state_packed, exchanged, stays_at, at_section}
use Rattle.section_laws.proofs.DeedLemmas.{opening_of, View, view, above, Touched, untouched, of_any, of_own, Exchanges, Deed, plain, exchanges, undoes, draws, draws_none, opens_section, closes_section}

-- ---- the section that a thread has open or is about to open

abbrev pub claim_of : ℕ → ℕ → ℕ
claim_of zero opening = opening
claim_of (suc n) opening = suc n

abbrev pub claim : View → ℕ
claim v = claim_of v.section v.opening

pub is_zero : (n : ℕ) → nat_eq n 0 ≡ true → n ≡ 0
is_zero n none = grind (arith, common_steps, nat_tests)

pub claim_none : (n opening : ℕ) → n ≡ 0 → claim_of n opening ≡ opening
claim_none n opening none = ap (λ x. claim_of x opening) none

pub claim_some : (n opening : ℕ) → 0 < n → claim_of n opening ≡ n
claim_some zero opening some = absurd (no some)
  where
    no : 0 < 0 → ⊥
    no some = omega arith
claim_some (suc n) opening some = refl

pub claim_calm : (n opening : ℕ) → 0 < claim_of n 0 → claim_of n 0 ≡ claim_of n opening
claim_calm zero opening some = absurd (no some)
  where
    no : 0 < 0 → ⊥
    no some = omega arith
claim_calm (suc n) opening some = refl

-- ---- what a step makes of the word of a section

-- The thread th changes the word of the section s from old to new.
pub data Change {S : Type 0} (th : ThreadState S) (s old new : ℕ) : Type 0 where
  is_touched : Touched old new → Change th s old new
  is_opened : th.section ≡ 0 → opening_of th.attempt ≡ s → 0 < s → state_of new ≡ 1 → Change th s old new
  is_own : th.section ≡ s → 0 < s → 0 < state_of new → Change th s old new

module _ {S : Type 0} (th : ThreadState S) (w : Words) where
  stays : {s : ℕ} {old new : ℕ} → new ≡ old → Change th s old new
  stays is = is_touched (untouched is)

  of_exchange : {s old new : ℕ} → Exchanges th s old new → (other : ℕ) → other ≡ old → Change th s other new
  of_exchange {s} {old} {new} (of_any touched) other found = subst (λ x. Change th s x new) (sym found) (is_touched touched)
  of_exchange (of_own own some live stands) other found = is_own own some stands

  exchange : (at old new : ℕ) → StepAnswer.Done ≡ answer_to (Exchange old new) (w (Section at)) → (s : ℕ) → Exchanges th at old new
      → Change th s (w (Section s)) (put_by (Exchange old new) w (Section at) (Section s))
  exchange at old new done s change =
      let e = exchanged w (Section at) old new done in
      subst (λ (x : Words). Change th s (w (Section s)) (x (Section s))) (sym e.leaves)
      (at_section (Change th s (w (Section s))) w at new s
      (λ is. of_exchange (subst (λ n. Exchanges th n old new) (sym is) change) (w (Section s)) (ap (λ x. w (Section x)) is ∙ e.found)) (stays refl))

  exchange_step : (step : Step) (at old new : ℕ) → place_of step ≡ Section at → effect_of step ≡ Exchange old new → StepAnswer.Done ≡ answer_of w step → (s : ℕ)
      → Exchanges th at old new → Change th s (w (Section s)) (words_after step w (Section s))
  exchange_step step at old new place effect is s change =
      let done : StepAnswer.Done ≡ answer_to (Exchange old new) (w (Section at)) =
      is ∙ ap (λ e. answer_to e (w (place_of step))) effect ∙ ap (λ (p : Area). answer_to (Exchange old new) (w p)) place in
      subst (λ (x : Words). Change th s (w (Section s)) (x (Section s)))
      (sym (ap (λ e. put_by e w (place_of step)) effect ∙ ap (λ (p : Area). put_by (Exchange old new) w p) place))
      (exchange at old new done s change)

  opening_live : state_of (opening_word th) ≡ 1
  opening_live = state_packed 1 th.number th.priority 0 1 0 (omega arith)

  pub section_changes : {step : Step} {a : StepAnswer} {v : View} → Deed th step a v → a ≡ answer_of w step → (s : ℕ)
      → Change th s (w (Section s)) (words_after step w (Section s))
  section_changes (plain leaves) is s = stays (leaves.sections w is s)
  section_changes (exchanges {step = step} {s = at} {old = old} {new = new} place effect change) is s = exchange_step step at old new place effect is s change
  section_changes (undoes n {word = word} some stands) is s =
      at_section (Change th s (w (Section s))) w th.section word s
      (λ own. is_own (sym own) (subst (λ x. 0 < x) (sym own) some) stands) (stays refl)
  section_changes (draws none) is s = stays refl
  section_changes draws_none is s = stays refl
  section_changes (opens_section {s = at} none some opening) is s =
      at_section (Change th s (w (Section s))) w at (opening_word th) s
      (λ own. is_opened (is_zero th.section none) (opening ∙ sym own) (subst (λ x. 0 < x) (sym own) (above at some)) opening_live) (stays refl)
  section_changes (closes_section leaves) is s = stays (leaves.sections w is s)

-- ---- what a step makes of the number that its thread claims

-- the count of sections goes from the first to the second, and what a thread claims from the third to the fourth
pub data ClaimStep (count counted before after : ℕ) : Type 0 where
  keeps : count ≤ counted → (0 < after → after ≡ before) → ClaimStep count counted before after
  takes : counted ≡ suc count → after ≡ suc count → ClaimStep count counted before after

-- what is so of the section that is about to be opened: it was drawn just now
pub data OpeningStep (w v : Words) (opening : ℕ) : Type 0 where
  opens_none : opening ≡ 0 → OpeningStep w v opening
  opens_next : opening ≡ suc (w (Control 1)) → v (Section (suc (w (Control 1)))) ≡ w (Section (suc (w (Control 1)))) → OpeningStep w v opening

abbrev IsSome : {A : Type 0} → Option A → Type 0
IsSome (Some x) = Unit {0}
IsSome None = ⊥

pub none_some : {A : Type 0} {P : Type 0} (x : A) → None ≡ Some x → P
none_some {A = A} x is = absurd (subst IsSome (sym is) tt)

pub found_is : (m n : ℕ) → Found m ≡ Found n → m ≡ n
found_is m n is = ap (λ a. elim a [ Found x ↦ x | StepAnswer.Done ↦ m | StepAnswer.Lost x ↦ m ]) is

module _ {S : Type 0} (th : ThreadState S) (w : Words) where
  abbrev ClaimTo : ℕ → ℕ → Type 0
  ClaimTo counted after = ClaimStep (w (Control 1)) counted (claim (view th)) after

  calm_claim : {counted : ℕ} → counted ≡ w (Control 1) → ClaimTo counted (claim_of th.section 0)
  calm_claim stands = keeps (omega (arith, stands)) (λ some. claim_calm th.section (opening_of th.attempt) some)

  no_claim : {counted : ℕ} → counted ≡ w (Control 1) → ClaimTo counted 0
  no_claim stands = keeps (omega (arith, stands)) (λ some. absurd (no some))
    where
      no : 0 < 0 → ⊥
      no some = omega arith

  exchange_count : (step : Step) (at old new : ℕ) → place_of step ≡ Section at → effect_of step ≡ Exchange old new → words_after step w (Control 1) ≡ w (Control 1)
  exchange_count step at old new place effect = stays_at (effect_of step) w (place_of step) (Control 1) (ap (λ (p : Area). area_eq (Control 1) p) place)

  undone_claim : (n : ℕ) → ClaimTo (w (Control 1)) (claim_of (section_at n th.section) 0)
  undone_claim n = by_test (nat_eq n 0)
    where
      by_test : (t : Bool) → ClaimTo (w (Control 1)) (claim_of (if t then 0 else th.section) 0)
      by_test true = no_claim refl
      by_test false = calm_claim refl

  pub claim_steps : {step : Step} {a : StepAnswer} {v : View} → Deed th step a v → a ≡ answer_of w step → ClaimTo (words_after step w (Control 1)) (claim v)
  claim_steps (plain leaves) is = calm_claim (leaves.count w is)
  claim_steps (exchanges {step = step} {s = at} {old = old} {new = new} place effect change) is = calm_claim (exchange_count step at old new place effect)
  claim_steps (undoes n some stands) is = undone_claim n
  claim_steps (draws {n = n} none) is =
      let count : n ≡ w (Control 1) = found_is n (w (Control 1)) is in
      takes (omega arith) (claim_none th.section (n + 1) (is_zero th.section none) ∙ omega (arith, count))
  claim_steps draws_none is = keeps (omega arith) (λ some. claim_calm th.section (opening_of th.attempt) some)
  claim_steps (opens_section {s = s} none some opening) is =
      keeps (omega arith) (λ _. claim_some s 0 (above s some) ∙ sym opening ∙ sym (claim_none th.section (opening_of th.attempt) (is_zero th.section none)))
  claim_steps (closes_section leaves) is = no_claim (leaves.count w is)

  pub opening_steps : {step : Step} {a : StepAnswer} {v : View} → Deed th step a v → a ≡ answer_of w step → OpeningStep w (words_after step w) v.opening
  opening_steps (draws {n = n} none) is = opens_next (let count : n ≡ w (Control 1) = found_is n (w (Control 1)) is in omega (arith, count)) refl
  opening_steps (plain leaves) is = opens_none refl
  opening_steps (exchanges place effect change) is = opens_none refl
  opening_steps (undoes n some stands) is = opens_none refl
  opening_steps draws_none is = opens_none refl
  opening_steps (opens_section none some opening) is = opens_none refl
  opening_steps (closes_section leaves) is = opens_none refl
