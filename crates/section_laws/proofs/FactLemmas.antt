-- What is so of sections at each place of a run.
use Rattle.std.proofs.Common.{◌≡◌, ◌≢◌, ℕ, zero, suc, ◌<◌, ◌≤◌, true, false, true≢false, Option, Some, refl, sym, ◌∙◌, ap, subst, arith}
use Rattle.std.specs.Prelude.{◌&&◌, Bool, nat_eq, nat_lt, nat_le, if◌then◌else◌}
use Rattle.std.proofs.lemmas.Grind.{common_steps}
use Rattle.std.proofs.lemmas.Bool.Decides.{nat_tests}
use Rattle.std.proofs.lemmas.Option.{same_Some}
use Rattle.op_core.specs.ThreadCode.{Code}
use Rattle.op_core.specs.OrdinaryState.{set_at}
use Rattle.op_core.proofs.PointwiseLemmas.{set_at-at}
use Rattle.heap_words.specs.declared.areas.Area.TheVariants.{Control, Section}
use Rattle.section_state.specs.declared.State.TheVariants.{Live}
use Rattle.section_state.specs.SectionWord.{state_of, pinned_of, depth_of, revoked_of}
use Rattle.monitor_core.specs.Contention.{is_in}
use Rattle.step_port.specs.declared.answer.StepAnswer.{StepAnswer}
use Rattle.step_port.specs.declared.step.Effect.TheVariants.{Exchange}
use Rattle.step_port.specs.declared.step.Step.{Step}
use Rattle.step_port.specs.declared.step.Step.TheVariants.{LoadStop, SetStop, LookMonitor, LookSection, BreakLevel}
use Rattle.step_port.specs.Words.{Words, put_at, answer_of, words_after}
use Rattle.core_runs.specs.OwnParts.{can_break, is_beside}
use Rattle.thread_automaton.specs.ThreadState.{ThreadState, first_state}
use Rattle.automaton_rows.specs.Fits.{IsFit}
use Rattle.automaton_rows.specs.Laws.{FirstStatesAreFit, SilentStepsKeepFit}
use Rattle.section_laws.proofs.WordLemmas.{state_of_zero, state_pinned, revoked_some, state_is, stays_at, at_section}
use Rattle.section_laws.proofs.DeedLemmas.{opening_of, View, view, calm, Touched, untouched, pinned_deeper, revoked_to, CanRevoke, by_revoking, Deed}
use Rattle.section_laws.proofs.ClaimLemmas.{claim, claim_none, claim_some, claim_calm, Change, is_touched, is_opened, is_own, section_changes, keeps, takes, claim_steps, opens_none, opens_next, opening_steps}

pub first_states_fit : {S : Type 0} (code : Code S) → FirstStatesAreFit code
first_states_fit code number priority l = record {
  attempt = tt;
  kept = record { saves = refl; few = omega arith; levels = refl; most = omega arith; held = λ _. refl; in_levels = tt; waited = (omega arith, omega arith) };
  unsaved = λ _. refl;
  unlogged = λ _. refl;
}

pub silent_steps_keep : {S : Type 0} (code : Code S) → SilentStepsKeepFit code
silent_steps_keep code th l fits = record {
  attempt = tt;
  kept = record { saves = fits.kept.saves; few = fits.kept.few; levels = fits.kept.levels; most = fits.kept.most; held = fits.kept.held; in_levels = fits.kept.in_levels; waited = fits.kept.waited };
  unsaved = fits.unsaved;
  unlogged = fits.unlogged;
}

abbrev pub Threads : Type 0 → Type 0
Threads S = ℕ → Option (ThreadState S)

-- which threads are where: by number
abbrev pub Standing : Type 0 → Type 1
Standing S = ℕ → ThreadState S → Type 0

abbrev pub InThreads : {S : Type 0} → Threads S → Standing S
InThreads threads u th = threads u ≡ Some th

-- what is so of the words of sections and the threads at a place of a run
pub record Facts {S : Type 0} (code : Code S) (w : Words) (Stands : Standing S) : Type 0 where
  pub fit : (u : ℕ) (th : ThreadState S) → Stands u th → IsFit code th
  -- numbers above the count are unused
  pub fresh : (s : ℕ) → w (Control 1) < s → w (Section s) ≡ 0
  -- no two threads claim the same number, and each is one that was drawn
  pub drawn : (u : ℕ) (th : ThreadState S) → Stands u th → claim (view th) ≤ w (Control 1)
  pub apart : (t u : ℕ) (th uh : ThreadState S) → Stands t th → Stands u uh
      → 0 < claim (view th) → claim (view th) ≡ claim (view uh) → t ≡ u
  -- a section that is about to be opened wasn't opened yet
  pub unopened : (u : ℕ) (th : ThreadState S) → Stands u th → th.section ≡ 0 → 0 < opening_of th.attempt → w (Section (opening_of th.attempt)) ≡ 0

-- what is so of each thread once one of them has changed
pub each : {S : Type 0} (P : ThreadState S → Type 0) (threads : Threads S) (t : ℕ) (y : ThreadState S) (u : ℕ) → (u ≡ t → P y)
    → ((uh : ThreadState S) → u ≢ t → threads u ≡ Some uh → P uh) → (uh : ThreadState S) → set_at threads t (Some y) u ≡ Some uh → P uh
each {S} P threads t y u own other uh is =
    set_at-at (λ o. (vh : ThreadState S) → o ≡ Some vh → P vh) threads t (Some y) u
    (λ here vh at. subst P (same_Some y vh at) (own here)) (λ there vh at. other vh there at) uh is

-- a change of a section's word leaves it opened
pub touched_some : {old new : ℕ} → Touched old new → 0 < state_of old → 0 < state_of new
touched_some (untouched is) some = subst (λ x. 0 < state_of x) (sym is) some
touched_some {old = old} (pinned_deeper n live deeper is) some = let now = ap state_of is ∙ state_pinned old n in omega (arith, now, some)
touched_some {old = old} (revoked_to n live free there is) some = subst (λ x. 0 < state_of x) (sym is) (revoked_some old n)

pub stays_opened : {S : Type 0} {th : ThreadState S} {s old new : ℕ} → Change th s old new → 0 < state_of old → 0 < state_of new
stays_opened (is_touched touched) some = touched_some touched some
stays_opened (is_opened none opening above live) some = omega (arith, live)
stays_opened (is_own own above stands) some = stands

-- a word that is 0 is touched by nobody, and changed by the thread alone that claims its number
no_state : (w : ℕ) → w ≡ 0 → state_of w ≡ 1 → ⊥
no_state w none live = let zero_state = ap state_of none ∙ state_of_zero in omega (arith, zero_state, live)

pub touched_none : {old new : ℕ} → Touched old new → old ≡ 0 → new ≡ 0
touched_none (untouched is) none = is ∙ none
touched_none {old = old} (pinned_deeper n live deeper is) none = absurd (no_state old none live)
touched_none {old = old} (revoked_to n live free there is) none = absurd (no_state old none live)

pub stays_others : {S : Type 0} {th : ThreadState S} {s old new : ℕ} → Change th s old new → 0 < s → (claim (view th) ≡ s → ⊥) → old ≡ 0 → new ≡ 0
stays_others (is_touched touched) some other zero_before = touched_none touched zero_before
stays_others {th = th} (is_opened none opening above stood) some other zero_before = absurd (other (claim_none th.section _ none ∙ opening))
stays_others {th = th} (is_own own above stands) some other zero_before =
    absurd (other (claim_some th.section _ (subst (λ x. 0 < x) (sym own) above) ∙ own))

pub not_some : {P : Type 0} (n : ℕ) → 0 < n → n ≡ 0 → P
not_some n some none = absurd (no n some none)
  where
    no : (n : ℕ) → 0 < n → n ≡ 0 → ⊥
    no n some none = omega arith

module _ {S : Type 0} (code : Code S) where
  -- ---- thread t, which is th, makes a step

  module _ (w : Words) (Stands : Standing S) (facts : Facts code w Stands) (t : ℕ) (th : ThreadState S) (step : Step) (a : StepAnswer) (v : View)
      (stands : Stands t th) (deed : Deed th step a v) (is : a ≡ answer_of w step) where
    abbrev after : Words
    after = words_after step w

    -- who is where after it: others as before, and thread t after the step
    pub data Came (u : ℕ) (uh : ThreadState S) : Type 0 where
      came_other : u ≢ t → Stands u uh → Came u uh
      came_own : u ≡ t → (z : ThreadState S) → Stands t z → Deed z step a (view uh) → IsFit code uh → Came u uh

    changes : (s : ℕ) → Change th s (w (Section s)) (after (Section s))
    changes s = section_changes th w deed is s

    others_claim : (u : ℕ) (uh : ThreadState S) → u ≢ t → Stands u uh → 0 < claim (view uh) → claim (view th) ≡ claim (view uh) → ⊥
    others_claim u uh other at some same_claim = other (facts.apart u t uh th at stands some (sym same_claim))

    fresh_after : (s : ℕ) → w (Control 1) < s → after (Section s) ≡ 0
    fresh_after s high =
        stays_others (changes s) (omega arith) (λ claims. let low = facts.drawn t th stands in omega (arith, low, claims)) (facts.fresh s high)

    counts : w (Control 1) ≤ after (Control 1)
    counts = elim (claim_steps th w deed is) [ keeps up kept ↦ up | takes next now ↦ omega (arith, next) ]

    unopened_other : (u : ℕ) (uh : ThreadState S) → u ≢ t → Stands u uh → uh.section ≡ 0 → 0 < opening_of uh.attempt → after (Section (opening_of uh.attempt)) ≡ 0
    unopened_other u uh other at none some =
        let was = facts.unopened u uh at none some in
        let claims : claim (view uh) ≡ opening_of uh.attempt = claim_none uh.section (opening_of uh.attempt) none in
        stays_others (changes (opening_of uh.attempt)) some
        (λ own. others_claim u uh other at (subst (λ n. 0 < n) (sym claims) some) (own ∙ sym claims)) was

    -- z makes the step and is then y
    module _ (z y : ThreadState S) (at_z : Stands t z) (own_deed : Deed z step a (view y)) where
      drawn_own : claim (view y) ≤ after (Control 1)
      drawn_own =
          let low = facts.drawn t z at_z in
          elim (claim_steps z w own_deed is) [
            | keeps up kept ↦ below (claim (view y)) up low kept
            | takes next now ↦ omega (arith, next, now)
          ]
        where
          below : (n : ℕ) → w (Control 1) ≤ after (Control 1) → claim (view z) ≤ w (Control 1) → (0 < n → n ≡ claim (view z)) → n ≤ after (Control 1)
          below zero up low kept = omega arith
          below (suc n) up low kept = let now = kept (omega arith) in omega (arith, up, low, now)

      apart_own : (u : ℕ) (uh : ThreadState S) → u ≢ t → Stands u uh → 0 < claim (view y) → claim (view y) ≡ claim (view uh) → ⊥
      apart_own u uh other at some same_claim =
          let low = facts.drawn u uh at in
          elim (claim_steps z w own_deed is) [
            | keeps up kept ↦ other (facts.apart u t uh z at at_z (subst (λ n. 0 < n) same_claim some) (sym same_claim ∙ kept some))
            | takes next now ↦ too_high (claim (view uh)) (sym same_claim ∙ now) low
          ]
        where
          too_high : (n : ℕ) → n ≡ suc (w (Control 1)) → n ≤ w (Control 1) → ⊥
          too_high n next low = omega arith

      unopened_own : 0 < opening_of y.attempt → after (Section (opening_of y.attempt)) ≡ 0
      unopened_own some = elim (opening_steps z w own_deed is) [
        | opens_none none ↦ not_some (opening_of y.attempt) some none
        | opens_next next left ↦ ap (λ s. after (Section s)) next ∙ left ∙ facts.fresh (suc (w (Control 1))) (omega arith)
      ]

    came_drawn : (u : ℕ) (uh : ThreadState S) → Came u uh → claim (view uh) ≤ after (Control 1)
    came_drawn u uh (came_other other at) = let low = facts.drawn u uh at in omega (arith, counts, low)
    came_drawn u uh (came_own own z at own_deed fit) = drawn_own z uh at own_deed

    came_apart : (u x : ℕ) (uh xh : ThreadState S) → Came u uh → Came x xh → 0 < claim (view uh) → claim (view uh) ≡ claim (view xh) → u ≡ x
    came_apart u x uh xh (came_other other at) (came_other also there) some equal = facts.apart u x uh xh at there some equal
    came_apart u x uh xh (came_other other at) (came_own own z there own_deed fit) some equal =
        absurd (apart_own z xh there own_deed u uh other at (subst (λ n. 0 < n) equal some) (sym equal))
    came_apart u x uh xh (came_own own z at own_deed fit) (came_other other there) some equal = absurd (apart_own z uh at own_deed x xh other there some equal)
    came_apart u x uh xh (came_own own z at own_deed fit) (came_own also y there other_deed other_fit) some equal = own ∙ sym also

    came_unopened : (u : ℕ) (uh : ThreadState S) → Came u uh → uh.section ≡ 0 → 0 < opening_of uh.attempt → after (Section (opening_of uh.attempt)) ≡ 0
    came_unopened u uh (came_other other at) none some = unopened_other u uh other at none some
    came_unopened u uh (came_own own z at own_deed fit) none some = unopened_own z uh at own_deed some

    came_fit : (u : ℕ) (uh : ThreadState S) → Came u uh → IsFit code uh
    came_fit u uh (came_other other at) = facts.fit u uh at
    came_fit u uh (came_own own z at own_deed fit) = fit

    pub step_facts : (Behind : Standing S) → ((u : ℕ) (uh : ThreadState S) → Behind u uh → Came u uh) → Facts code after Behind
    step_facts Behind came = record {
      fit = λ u uh at. came_fit u uh (came u uh at);
      fresh = λ s high. fresh_after s (omega (arith, counts, high));
      drawn = λ u uh at. came_drawn u uh (came u uh at);
      apart = λ u x uh xh at there some equal. came_apart u x uh xh (came u uh at) (came x xh there) some equal;
      unopened = λ u uh at none some. came_unopened u uh (came u uh at) none some;
    }

  -- ---- no step is made

  -- a silent move, at which nothing is opened or undone
  pub record Calmed (x y : ThreadState S) : Type 0 where
    pub seen : view y ≡ calm (view x)
    pub fit : IsFit code y

  -- who is where: as before, after a silent move, or at a beginning
  pub data Still (Stands : Standing S) (u : ℕ) (uh : ThreadState S) : Type 0 where
    as_before : Stands u uh → Still Stands u uh
    calmed : (x : ThreadState S) → Stands u x → Calmed x uh → Still Stands u uh
    just_begun : (number priority : ℕ) (l : S) → uh ≡ first_state number priority l → Still Stands u uh

  module _ (w : Words) (Stands : Standing S) (facts : Facts code w Stands) where
    -- what a silent move has left it claims still
    claims_still : (u : ℕ) (uh : ThreadState S) → Still Stands u uh → 0 < claim (view uh) → (x : ThreadState S) × Stands u x × (claim (view uh) ≡ claim (view x))
    claims_still u uh (as_before at) some = (uh, at, refl)
    claims_still u uh (calmed x at so) some =
        let now : claim (view uh) ≡ claim (calm (view x)) = ap claim so.seen in
        (x, at, now ∙ claim_calm x.section (opening_of x.attempt) (subst (λ n. 0 < n) now some))
    claims_still u uh (just_begun number priority l is) some = not_some _ some (ap (λ x. claim (view x)) is)

    still_drawn : (u : ℕ) (uh : ThreadState S) → Still Stands u uh → claim (view uh) ≤ w (Control 1)
    still_drawn u uh so = by_size (claim (view uh)) (λ some. let was = claims_still u uh so some in subst (λ n. n ≤ w (Control 1)) (sym was.2) (facts.drawn u was.0 was.1))
      where
        by_size : (n : ℕ) → (0 < n → n ≤ w (Control 1)) → n ≤ w (Control 1)
        by_size zero low = omega arith
        by_size (suc n) low = low (omega arith)

    still_fit : (u : ℕ) (uh : ThreadState S) → Still Stands u uh → IsFit code uh
    still_fit u uh (as_before at) = facts.fit u uh at
    still_fit u uh (calmed x at so) = so.fit
    still_fit u uh (just_begun number priority l is) = subst (IsFit code) (sym is) (first_states_fit code number priority l)

    still_apart : (u x : ℕ) (uh xh : ThreadState S) → Still Stands u uh → Still Stands x xh → 0 < claim (view uh) → claim (view uh) ≡ claim (view xh) → u ≡ x
    still_apart u x uh xh at there some equal =
        let was = claims_still u uh at some in
        let also = claims_still x xh there (subst (λ n. 0 < n) equal some) in
        facts.apart u x was.0 also.0 was.1 also.1 (subst (λ n. 0 < n) was.2 some) (sym was.2 ∙ equal ∙ also.2)

    still_unopened : (u : ℕ) (uh : ThreadState S) → Still Stands u uh → uh.section ≡ 0 → 0 < opening_of uh.attempt → w (Section (opening_of uh.attempt)) ≡ 0
    still_unopened u uh (as_before at) none some = facts.unopened u uh at none some
    still_unopened u uh (calmed x at so) none some = not_some (opening_of uh.attempt) some (ap (λ v. v.opening) so.seen)
    still_unopened u uh (just_begun number priority l is) none some = not_some (opening_of uh.attempt) some (ap (λ x. opening_of x.attempt) is)

    pub still_facts : (Behind : Standing S) → ((u : ℕ) (uh : ThreadState S) → Behind u uh → Still Stands u uh) → Facts code w Behind
    still_facts Behind still = record {
      fit = λ u uh at. still_fit u uh (still u uh at);
      fresh = facts.fresh;
      drawn = λ u uh at. still_drawn u uh (still u uh at);
      apart = λ u x uh xh at there some equal. still_apart u x uh xh (still u uh at) (still x xh there) some equal;
      unopened = λ u uh at none some. still_unopened u uh (still u uh at) none some;
    }

  -- no section was opened, and all threads begin
  pub first_facts : (w : Words) (Stands : Standing S) → ((s : ℕ) → w (Section s) ≡ 0)
      → ((u : ℕ) (uh : ThreadState S) → Stands u uh → (number priority : ℕ) × (l : S) × (uh ≡ first_state number priority l)) → Facts code w Stands
  first_facts w Stands none begin = still_facts w (λ u uh. ⊥) nobody Stands (λ u uh at. let first = begin u uh at in just_begun first.0 first.1 first.2 first.3)
    where
      nobody : Facts code w (λ u uh. ⊥)
      nobody = record {
        fit = λ u uh at. absurd at;
        fresh = λ s high. none s;
        drawn = λ u uh at. absurd at;
        apart = λ u x uh xh at there. absurd at;
        unopened = λ u uh at. absurd at;
      }

-- ---- steps beside those of threads

pub breaks : (word level : ℕ) → can_break word level ≡ true → CanRevoke word level
breaks word level may =
    let parts = split (is_in Live word) (nat_lt (pinned_of word) level) (nat_le level (depth_of word)) may in
    (state_is Live word parts.0, less (pinned_of word) level parts.1, most level (depth_of word) parts.2)
  where
    split : (a b c : Bool) → (a && b && c) ≡ true → (a ≡ true) × (b ≡ true) × (c ≡ true)
    split true true true is = (refl, refl, refl)
    split true true false is = cc
    split true false c is = cc
    split false b c is = cc

    less : (m n : ℕ) → nat_lt m n ≡ true → m < n
    less m n is = grind (arith, common_steps, nat_tests)

    most : (m n : ℕ) → nat_le m n ≡ true → m ≤ n
    most m n is = grind (arith, common_steps, nat_tests)

pub beside_touches : (step : Step) (w : Words) (s : ℕ) → is_beside step ≡ true → Touched (w (Section s)) (words_after step w (Section s))
beside_touches LoadStop w s is = untouched refl
beside_touches SetStop w s is = untouched refl
beside_touches (LookMonitor r) w s is = untouched refl
beside_touches (LookSection n) w s is = untouched refl
beside_touches (BreakLevel at old level) w s is = by_test (nat_eq (w (Section at)) old) refl
  where
    same : (m n : ℕ) → nat_eq m n ≡ true → m ≡ n
    same m n is = grind (arith, common_steps, nat_tests)

    by_test : (t : Bool) → nat_eq (w (Section at)) old ≡ t
        → Touched (w (Section s)) ((if t then put_at w (Section at) (revoked_of old level) else w) (Section s))
    by_test true found = at_section (Touched (w (Section s))) w at (revoked_of old level) s
        (λ own. subst (λ x. Touched x (revoked_of old level)) (sym (ap (λ n. w (Section n)) own ∙ same (w (Section at)) old found)) (by_revoking old level (breaks old level is))) (untouched refl)
    by_test false found = untouched refl
beside_touches step w s is = absurd (true≢false (sym is))

beside_counts : (step : Step) (w : Words) → is_beside step ≡ true → words_after step w (Control 1) ≡ w (Control 1)
beside_counts LoadStop w is = refl
beside_counts SetStop w is = refl
beside_counts (LookMonitor r) w is = refl
beside_counts (LookSection n) w is = refl
beside_counts (BreakLevel at old level) w is = stays_at (Exchange old (revoked_of old level)) w (Section at) (Control 1) refl
beside_counts step w is = absurd (true≢false (sym is))

pub beside_facts : {S : Type 0} (code : Code S) (step : Step) (w : Words) (Stands : Standing S) → is_beside step ≡ true → Facts code w Stands
    → Facts code (words_after step w) Stands
beside_facts code step w Stands is facts =
    let count : words_after step w (Control 1) ≡ w (Control 1) = beside_counts step w is in
    record {
      fit = facts.fit;
      fresh = λ s high. touched_none (beside_touches step w s is) (facts.fresh s (subst (λ n. n < s) count high));
      drawn = λ u uh at. subst (λ n. claim (view uh) ≤ n) (sym count) (facts.drawn u uh at);
      apart = facts.apart;
      unopened = λ u uh at none some. touched_none (beside_touches step w (opening_of uh.attempt) is) (facts.unopened u uh at none some);
    }
