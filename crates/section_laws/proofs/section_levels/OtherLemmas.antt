-- What an act of another thread, or one beside the threads, makes of the word of a thread's section.
use Rattle.std.proofs.Common.{◌≡◌, ◌≢◌, inl, inr, ℕ, ◌^◌, ◌<◌, ◌≤◌, Bool, true, false, true≢false, Some, List, [], length, nat_eq, refl, sym, ◌∙◌, ap, subst, arith}
use Rattle.std.specs.Prelude.{if◌then◌else◌}
use Rattle.std.proofs.lemmas.Grind.{common_steps}
use Rattle.std.proofs.lemmas.Bool.Decides.{nat_tests}
use Rattle.op_core.proofs.PointwiseLemmas.{same_or_other}
use Rattle.heap_words.specs.declared.areas.Area.{Area}
use Rattle.heap_words.specs.declared.areas.Area.TheVariants.{Section}
use Rattle.section_state.specs.SectionWord.{state_of, pinned_of, depth_of, with_pinned, with_depth, opened_of, revoked_of, committed_of, undone_of}
use Rattle.step_port.specs.declared.answer.StepAnswer.{StepAnswer}
use Rattle.step_port.specs.declared.step.Effect.TheVariants.{Exchange}
use Rattle.step_port.specs.declared.step.Step.{Step}
use Rattle.step_port.specs.declared.step.Step.TheVariants.{OpenSection, OpenLevel, CloseLevel, Pin, Commit, Revoke, LoadStop, SetStop, LookMonitor, LookSection, BreakLevel}
use Rattle.step_port.specs.Steps.{place_of, effect_of}
use Rattle.step_port.specs.Words.{Words, put_at, put_by, answer_to, answer_of, words_after}
use Rattle.core_runs.specs.OwnParts.{is_beside}
use Rattle.section_laws.specs.LevelRun.{LevelAct, is_revoked}
use Rattle.section_laws.proofs.WordLemmas.{exchanged, put_section, at_section}
use Rattle.section_laws.proofs.DeedLemmas.{CanRevoke}
use Rattle.section_laws.proofs.ClaimLemmas.{none_some}
use Rattle.section_laws.proofs.FactLemmas.{breaks}
use Rattle.section_laws.proofs.own_sections.WordLemmas.{depth_low, pinned_says, revoked_says}
use Rattle.section_laws.proofs.own_sections.ViewLemmas.{View, own_of, opening_of, IsTouch, Touch, stays, pinned_to, revoked, Deed, plain, goes_on, sees_revoked, sees_pinned, pins_own, undoes, touches, opens, opens_level, commits, closes_levels, ends_section}
use Rattle.section_laws.proofs.own_sections.OwnLemmas.{Own, elsewhere_stays}
use Rattle.section_laws.specs.Levels.{revoked_by}
use Rattle.section_laws.proofs.section_levels.TurnLemmas.{Turn, not_undone, calm_turn, word_of, pinned_as, zero_or_some, closed_word, open_word, open_pin, unrevoked, turned}

-- the word stays, or is pinned deeper, or is revoked to a level
pub data Other (R : ℕ → Type 0) (old new : ℕ) : Type 0 where
  is_same : new ≡ old → Other R old new
  is_pinned : (n : ℕ) → state_of old ≡ 1 → pinned_of old < n → n < 2 ^ 8 → new ≡ with_pinned old n → Other R old new
  is_turned : (n : ℕ) → CanRevoke old n → new ≡ revoked_of old n → R n → Other R old new

one_three : {A : Type 0} (n : ℕ) → n ≡ 1 → n ≡ 3 → A
one_three n one three = absurd (no n one three)
  where
    no : (n : ℕ) → n ≡ 1 → n ≡ 3 → ⊥
    no n one three = omega (arith, one, three)

within : (m n : ℕ) → m ≤ n → n < 2 ^ 8 → m < 2 ^ 8
within m n low below = omega (arith, low, below)

of_touch : (R : ℕ → Type 0) (step : Step) (s old new : ℕ) → Touch old new → IsTouch step s old new → ((v n : ℕ) → step ≡ Revoke s v n → R n) → Other R old new
of_touch R step s old new (stays is) by revokes = is_same is
of_touch R step s old new (pinned_to n live deeper low is) by revokes = is_pinned n live deeper low is
of_touch R step s old new (revoked n live free there is) by revokes = elim by [
  | inl pin ↦ one_three (state_of new) (ap state_of pin.3 ∙ (pinned_says old pin.0 pin.2).1.0 ∙ live) (ap state_of is ∙ (revoked_says old n (within n (depth_of old) there (depth_low old))).1.0)
  | inr revoke ↦ is_turned revoke.0 revoke.2 revoke.3 (revokes old revoke.0 revoke.1)
]

module _ (x y : View) (w : Words) (R : ℕ → Type 0) (s : ℕ) (other : x.section ≢ s) (some : w (Section s) ≢ 0) where
  own_elsewhere : (step : Step) (new : ℕ) → place_of step ≡ Section x.section → effect_of step ≡ Exchange (own_of x) new → Other R (w (Section s)) (words_after step w (Section s))
  own_elsewhere step new place effect = is_same (elsewhere_stays step w x.section s (own_of x) new place effect (λ same. other (sym same)))

  differs : (m n : ℕ) → m ≢ n → nat_eq m n ≡ false
  differs m n is = grind (arith, common_steps, nat_tests)

  pub other_word : {step : Step} {a : StepAnswer} → Deed x y step a → a ≡ answer_of w step → ((r v : ℕ) → step ≡ OpenSection r v → w (Section r) ≡ 0)
      → ((v n : ℕ) → step ≡ Revoke s v n → a ≡ StepAnswer.Done → R n) → Other R (w (Section s)) (words_after step w (Section s))
  other_word (plain same keeps none low leaving) is unopened revokes = is_same (same.stay w is s)
  other_word (goes_on same keeps undoing again level leaving) is unopened revokes = is_same (same.stay w is s)
  other_word (sees_revoked three keeps undoing level leaving) is unopened revokes = is_same refl
  other_word (sees_pinned keeps pin calm) is unopened revokes = is_same refl
  other_word (pins_own above unpinned keeps pin none level leaving) is unopened revokes = own_elsewhere (Pin x.section (own_of x) x.levels) (with_pinned (own_of x) x.levels) refl refl
  other_word (undoes {w = seen} undoing above same section levels pin calm) is unopened revokes =
      is_same (ap (λ t. if t then undone_of seen else w (Section s)) (differs s x.section (λ is. other (sym is))))
  other_word {step} (touches {s = at} {old = old} {new = new} place effect away touch by keeps calm) is unopened revokes = elim (same_or_other s at) [
    | inr apart ↦ is_same (elsewhere_stays step w at s old new place effect apart)
    | inl here ↦
        let done : StepAnswer.Done ≡ answer_to (Exchange old new) (w (Section at)) =
        is ∙ ap (λ e. answer_to e (w (place_of step))) effect ∙ ap (λ (p : Area). answer_to (Exchange old new) (w p)) place in
        let e = exchanged w (Section at) old new done in
        let now : words_after step w (Section at) ≡ new = ap (λ f. put_by f w (place_of step) (Section at)) effect ∙ ap (λ (p : Area). put_by (Exchange old new) w p (Section at)) place
        ∙ ap (λ (u : Words). u (Section at)) e.leaves ∙ put_section w at new in
        subst (λ r. Other R (w (Section r)) (words_after step w (Section r))) (sym here)
        (subst (λ v. Other R v (words_after step w (Section at))) (sym e.found) (subst (Other R old) (sym now)
        (of_touch R step at old new touch by (λ v n revoke. revokes v n (revoke ∙ ap (λ r. Revoke r v n) (sym here)) refl))))
  ]
  other_word (opens {s = at} shut above same section levels pin calm) is unopened revokes = elim (same_or_other s at) [
    | inl here ↦ absurd (some (ap (λ r. w (Section r)) here ∙ unopened at (opening_of x) refl))
    | inr apart ↦ is_same (ap (λ t. if t then opening_of x else w (Section s)) (differs s at apart))
  ]
  other_word (opens_level above room same section levels pin calm) is unopened revokes = own_elsewhere (OpenLevel x.section (own_of x)) (opened_of (own_of x)) refl refl
  other_word (commits above keeps none level) is unopened revokes = own_elsewhere (Commit x.section (own_of x)) (committed_of (own_of x)) refl refl
  other_word (closes_levels {n = n} above high low same section levels pin calm) is unopened revokes = own_elsewhere (CloseLevel x.section (own_of x) n) (with_depth (own_of x) n) refl refl
  other_word (ends_section leaving same also section pin calm) is unopened revokes = is_same (same.stay w is s)

-- a step beside those of threads
pub beside_word : (R : ℕ → Type 0) (step : Step) (w : Words) (s : ℕ) → is_beside step ≡ true → ((v n : ℕ) → step ≡ BreakLevel s v n → answer_of w step ≡ StepAnswer.Done → R n)
    → Other R (w (Section s)) (words_after step w (Section s))
beside_word R LoadStop w s is revokes = is_same refl
beside_word R SetStop w s is revokes = is_same refl
beside_word R (LookMonitor r) w s is revokes = is_same refl
beside_word R (LookSection n) w s is revokes = is_same refl
beside_word R (BreakLevel at old level) w s is revokes = by_test (nat_eq (w (Section at)) old) refl (λ v n step done. revokes v n step done)
  where
    same : (m n : ℕ) → nat_eq m n ≡ true → m ≡ n
    same m n is = grind (arith, common_steps, nat_tests)

    by_test : (t : Bool) → nat_eq (w (Section at)) old ≡ t
        → ((v n : ℕ) → BreakLevel at old level ≡ BreakLevel s v n → (if nat_eq (w (Section at)) old then StepAnswer.Done else StepAnswer.Lost (w (Section at))) ≡ StepAnswer.Done → R n)
        → Other R (w (Section s)) ((if t then put_at w (Section at) (revoked_of old level) else w) (Section s))
    by_test true found revokes = at_section (Other R (w (Section s))) w at (revoked_of old level) s
        (λ own. subst (λ v. Other R v (revoked_of old level)) (sym (ap (λ n. w (Section n)) own ∙ same (w (Section at)) old found))
        (is_turned level (breaks old level is) refl (revokes old level (ap (λ r. BreakLevel r old level) (sym own)) (ap (λ t. if t then StepAnswer.Done else StepAnswer.Lost (w (Section at))) found))))
        (is_same refl)
    by_test false found revokes = is_same refl
beside_word R step w s is revokes = absurd (true≢false (sym is))

-- ---- the turn of a thread that makes no step

pub other_turn : (z : View) (w v : Words) (k : ℕ) (l : List ℕ) (R U : ℕ → Type 0) → (z.section ≡ 0 → l ≡ []) → length l ≡ z.levels → Own z w
    → (0 < z.section → Other R (w (Section z.section)) (v (Section z.section)))
    → Turn k l l (revoked_by (word_of z w)) (revoked_by (word_of z v)) (pinned_as z w) (pinned_as z v) R U
other_turn z w v k l R U empty counted own word = elim (zero_or_some z.section) [
  | inl none ↦ calm_turn k l l _ _ _ _ R U refl (closed_word z v none ∙ sym (closed_word z w none)) (inl (empty none)) (λ n is. none_some n (sym (closed_word z w none) ∙ is))
  | inr some ↦ by_word some (word some)
]
  where
    old : ℕ
    old = w (Section z.section)

    new : ℕ
    new = v (Section z.section)

    r : 0 < z.section → revoked_by (word_of z w) ≡ revoked_by (Some old)
    r some = open_word z w z.section old some refl refl

    q : 0 < z.section → (u : ℕ) → new ≡ u → revoked_by (word_of z v) ≡ revoked_by (Some u)
    q some u is = open_word z v z.section u some refl is

    p : 0 < z.section → pinned_as z w ≡ pinned_of old
    p some = open_pin z w z.section old some refl refl

    d : 0 < z.section → (u : ℕ) → new ≡ u → pinned_as z v ≡ pinned_of u
    d some u is = open_pin z v z.section u some refl is

    up : (a c m n : ℕ) → a ≡ c → c < m → n ≡ m → a ≤ n
    up a c m n is deep also = omega (arith, is, deep, also)

    as_is : (a c : ℕ) → c ≡ a → a ≤ c
    as_is a c is = omega (arith, is)

    lower : (a c n : ℕ) → a ≡ c → c < n → a < n
    lower a c n is deep = omega (arith, is, deep)

    some_level : (c n : ℕ) → c < n → 0 < n
    some_level c n deep = omega (arith, deep)

    most : (n e l g : ℕ) → n ≤ e → e ≡ g → l ≡ g → n ≤ l
    most n e l g low is also = omega (arith, low, is, also)

    no_three : (n : ℕ) → n ≡ 1 → n ≡ 3 → ⊥
    no_three n one three = omega (arith, one, three)

    by_word : 0 < z.section → Other R old new → Turn k l l (revoked_by (word_of z w)) (revoked_by (word_of z v)) (pinned_as z w) (pinned_as z v) R U
    by_word some (is_same is) =
        let same = d some old is ∙ sym (p some) in
        calm_turn k l l _ _ _ _ R U refl (q some old is ∙ sym (r some)) (inr (as_is (pinned_as z w) (pinned_as z v) same)) (λ n at. same)
    by_word some (is_pinned n live deeper low is) =
        let now = pinned_says old n low in
        let none = r some ∙ unrevoked old (state_of old) refl (no_three (state_of old) live) in
        calm_turn k l l _ _ _ _ R U refl (q some (with_pinned old n) is ∙ unrevoked (with_pinned old n) (state_of old) now.1.0 (no_three (state_of old) live) ∙ sym none)
        (inr (up (pinned_as z w) (pinned_of old) n (pinned_as z v) (p some) deeper (d some (with_pinned old n) is ∙ now.1.3))) (λ m at. none_some m (sym none ∙ at))
    by_word some (is_turned n can is by) =
        let now = revoked_says old n (within n (depth_of old) can.2 (depth_low old)) in
        let none = r some ∙ unrevoked old (state_of old) refl (no_three (state_of old) can.0) in
        let same = d some (revoked_of old n) is ∙ now.1.3 ∙ sym (p some) in
        record {
          act = is_revoked n;
          between = (
            refl,
            none,
            q some (revoked_of old n) is ∙ turned (revoked_of old n) now.1.0 ∙ ap Some now.1.5,
            some_level (pinned_of old) n can.1,
            most n (depth_of old) (length l) z.levels can.2 (own.own some).says.depth counted,
          );
          rises = inr (as_is (pinned_as z w) (pinned_as z v) same);
          by = λ m at. subst (λ i. (pinned_as z w < i) × (pinned_as z v ≡ pinned_as z w) × R i) (level_is at) (lower (pinned_as z w) (pinned_of old) n (p some) can.1, same, by);
          stays = λ m at. same;
          undone = λ m at. not_undone (λ h. h) at;
        }
      where
        level_in : LevelAct → ℕ
        level_in (is_revoked i) = i
        level_in act = n

        level_is : {m : ℕ} → is_revoked n ≡ is_revoked m → n ≡ m
        level_is at = ap level_in at
