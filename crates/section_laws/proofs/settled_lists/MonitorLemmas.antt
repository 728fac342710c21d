-- `SettledMonitors` with each kind of step.
use Rattle.std.proofs.Common.{◌≡◌, ◌≢◌, ◌⊎◌, ℕ, zero, suc, ◌+◌, ◌-◌, ◌<◌, ◌≤◌, Bool, true, false, ◌||◌, not, List, [], ◌∷◌, length, drop, nat_eq, refl, sym, ◌∙◌, ap, subst, inl, inr, arith}
use Rattle.std.specs.Prelude.{filter, nat_le, if◌then◌else◌}
use Rattle.std.proofs.lemmas.Grind.{common_steps}
use Rattle.std.proofs.lemmas.Bool.Decides.{nat_tests}
use Rattle.std.proofs.lemmas.List.{get_or-drop}
use Rattle.op_core.specs.OrdinaryState.{set_at, Monitor, free}
use Rattle.op_core.specs.InPlaceList.{owned_by}
use Rattle.op_core.proofs.PointwiseLemmas.{same_or_other, set_at-at, set_at-hit, set_at-other}
use Rattle.thread_automaton.specs.declared.Held.{Held}
use Rattle.thread_automaton.specs.ThreadState.{Mark, nth_or, no_mark, held_as, with_depth_of, from_level}
use Rattle.thread_automaton.specs.Changes.{without}
use Rattle.section_laws.specs.Settled.{count_more, to_undo}
use Rattle.section_laws.specs.SettledMonitors.{is_held, depth_back, SettledMonitors}
use Rattle.section_laws.proofs.settled_lists.ReplayLemmas.{tested, both}
use Rattle.section_laws.proofs.settled_lists.PartLemmas.{less_to_undo}

eq_same : (n : ℕ) → nat_eq n n ≡ true
eq_same n = grind (arith, common_steps, nat_tests)

eq_yes : (m n : ℕ) → nat_eq m n ≡ true → m ≡ n
eq_yes m n is = grind (arith, common_steps, nat_tests)

eq_no : (m n : ℕ) → m ≢ n → nat_eq m n ≡ false
eq_no m n other = by_test (nat_eq m n) refl
  where
    by_test : (t : Bool) → nat_eq m n ≡ t → nat_eq m n ≡ false
    by_test true is = absurd (other (eq_yes m n is))
    by_test false is = is

-- ---- lists of monitors that are held

pub held_first : (h : Held) (held : List Held) → is_held h.object (h ∷ held) ≡ true
held_first h held = ap (λ t. t || is_held h.object held) (eq_same h.object)

pub held_more : (r : ℕ) (h : Held) (held : List Held) → r ≢ h.object → is_held r (h ∷ held) ≡ is_held r held
held_more r h held other = ap (λ t. t || is_held r held) (eq_no h.object r (λ e. other (sym e)))

-- where it isn't held its depth is 0
pub not_held_depth : (r : ℕ) (held : List Held) → is_held r held ≡ false → (held_as r held).depth ≡ 0
not_held_depth r [] none = refl
not_held_depth r (h ∷ held) none = by_test (nat_eq h.object r) none (not_held_depth r held)
  where
    by_test : (t : Bool) → (t || is_held r held) ≡ false → (is_held r held ≡ false → (held_as r held).depth ≡ 0) → (if t then h else held_as r held).depth ≡ 0
    by_test true none rest = cc
    by_test false none rest = rest none

-- another depth leaves what is held
pub same_held : (r q depth : ℕ) (held : List Held) → is_held q (with_depth_of r depth held) ≡ is_held q held
same_held r q depth [] = refl
same_held r q depth (h ∷ held) = by_test (nat_eq h.object r) (same_held r q depth held)
  where
    by_test : (t : Bool) → is_held q (with_depth_of r depth held) ≡ is_held q held → is_held q ((if t then record h { depth = depth } else h) ∷ with_depth_of r depth held) ≡ is_held q (h ∷ held)
    by_test true rest = ap (λ t. nat_eq h.object q || t) rest
    by_test false rest = ap (λ t. nat_eq h.object q || t) rest

pub set_depth : (r depth : ℕ) (held : List Held) → is_held r held ≡ true → (held_as r (with_depth_of r depth held)).depth ≡ depth
set_depth r depth [] is = cc
set_depth r depth (h ∷ held) is = by_test (nat_eq h.object r) refl is (set_depth r depth held)
  where
    by_test : (t : Bool) → nat_eq h.object r ≡ t → (t || is_held r held) ≡ true
        → (is_held r held ≡ true → (held_as r (with_depth_of r depth held)).depth ≡ depth)
        → (held_as r ((if t then record h { depth = depth } else h) ∷ with_depth_of r depth held)).depth ≡ depth
    by_test true eq is rest = ap (λ t. (if t then record h { depth = depth } else held_as r (with_depth_of r depth held)).depth) eq
    by_test false eq is rest = ap (λ t. (if t then h else held_as r (with_depth_of r depth held)).depth) eq ∙ rest is

-- a monitor that is released is no longer held, and the others are
pub let_go_of : (r : ℕ) (held : List Held) → is_held r (without r held) ≡ false
let_go_of r [] = refl
let_go_of r (h ∷ held) = by_test (nat_eq h.object r) refl (let_go_of r held)
  where
    by_test : (t : Bool) → nat_eq h.object r ≡ t → is_held r (without r held) ≡ false → is_held r (if not t then h ∷ without r held else without r held) ≡ false
    by_test true eq rest = rest
    by_test false eq rest = ap (λ t. t || is_held r (without r held)) eq ∙ rest

pub still_held : (r q : ℕ) (held : List Held) → q ≢ r → is_held q (without r held) ≡ is_held q held
still_held r q [] other = refl
still_held r q (h ∷ held) other = by_test (nat_eq h.object r) refl (still_held r q held other)
  where
    by_test : (t : Bool) → nat_eq h.object r ≡ t → is_held q (without r held) ≡ is_held q held → is_held q (if not t then h ∷ without r held else without r held) ≡ (nat_eq h.object q || is_held q held)
    by_test true eq rest = rest ∙ sym (ap (λ t. t || is_held q held) (eq_no h.object q (λ e. other (sym e ∙ eq_yes h.object r eq))))
    by_test false eq rest = ap (λ t. nat_eq h.object q || t) rest

pub still_as : (r q : ℕ) (held : List Held) → q ≢ r → held_as q (without r held) ≡ held_as q held
still_as r q [] other = refl
still_as r q (h ∷ held) other = by_test (nat_eq h.object r) refl (still_as r q held other)
  where
    by_test : (t : Bool) → nat_eq h.object r ≡ t → held_as q (without r held) ≡ held_as q held
        → held_as q (if not t then h ∷ without r held else without r held) ≡ (if nat_eq h.object q then h else held_as q held)
    by_test true eq rest = rest
        ∙ sym (ap (λ t. if t then h else held_as q held) (eq_no h.object q (λ e. other (sym e ∙ eq_yes h.object r eq))))
    by_test false eq rest = ap (λ (x : Held). if nat_eq h.object q then h else x) rest

-- ---- how often each will be held, as levels are opened, closed and undone

pub opened_depth : (doomed : ℕ → Bool) (k : ℕ) (levels : List ℕ) (silents noted : ℕ) (marks : List Mark) (held : List Held) (r : ℕ)
    → depth_back (to_undo doomed (k ∷ levels)) (record { silents = silents; noted = noted; held = held } ∷ marks) held r
    ≡ depth_back (to_undo doomed levels) marks held r
opened_depth doomed k levels silents noted marks held r = by_count (doomed k) (to_undo doomed levels)
  where
    by_count : (b : Bool) (n : ℕ)
        → depth_back (count_more b n) (record { silents = silents; noted = noted; held = held } ∷ marks) held r ≡ depth_back n marks held r
    by_count true zero = refl
    by_count false zero = refl
    by_count b (suc n) = refl

pub closed_depth : (doomed : ℕ → Bool) (j : ℕ) (levels : List ℕ) (marks : List Mark) (held : List Held) (r : ℕ)
    → (to_undo doomed levels ≡ 0) ⊎ (j < to_undo doomed levels)
    → depth_back (to_undo doomed (drop j levels)) (drop j marks) held r ≡ depth_back (to_undo doomed levels) marks held r
closed_depth doomed j levels marks held r inner = by_count (to_undo doomed levels) (to_undo doomed (drop j levels)) (less_to_undo doomed j levels) inner
  where
    by_count : (n m : ℕ) → m ≡ n - j → (n ≡ 0) ⊎ (j < n) → depth_back m (drop j marks) held r ≡ depth_back n marks held r
    by_count zero zero is inner = refl
    by_count zero (suc m) is inner = absurd (no m j is)
      where
        no : (m j : ℕ) → suc m ≡ 0 - j → ⊥
        no m j is = omega (arith, is)
    by_count (suc n) zero is inner = absurd (elim inner [ inl none ↦ not_none n none | inr low ↦ no n j is low ])
      where
        not_none : (n : ℕ) → suc n ≡ 0 → ⊥
        not_none n is = omega (arith, is)

        no : (n j : ℕ) → 0 ≡ suc n - j → j < suc n → ⊥
        no n j is low = omega (arith, is, low)
    by_count (suc n) (suc m) is inner =
        ap (λ (x : Mark). (held_as r x.held).depth) (get_or-drop j marks m no_mark ∙ ap (λ k. nth_or no_mark k marks) (sum n m j is))
      where
        sum : (n m j : ℕ) → suc m ≡ suc n - j → j + m ≡ n
        sum n m j is = omega (arith, is)

-- while something is to be undone, what is done with monitors counts for nothing
pub doomed_depth : (n : ℕ) (marks : List Mark) (before now : List Held) (r : ℕ) → depth_back (suc n) marks now r ≡ depth_back (suc n) marks before r
doomed_depth n marks before now r = refl

-- ---- the facts. What changes of one monitor

module _ (settled settled' : ℕ → Monitor) (held held' : ℕ → List Held) (back back' : ℕ → ℕ → ℕ) (facts : SettledMonitors settled held back)
    (t r : ℕ)
    -- other monitors stay as they are
    (others : (u q : ℕ) → q ≢ r → is_held q (held' u) ≡ is_held q (held u))
    (others_back : (u q : ℕ) → q ≢ r → is_held q (held' u) ≡ true → back' u q ≡ back u q)
    (others_settled : (q : ℕ) → q ≢ r → settled' q ≡ settled q)
    -- and this one is held by thread t alone, or by none
    (alone : (u : ℕ) → is_held r (held' u) ≡ true → u ≡ t)
    (holds : is_held r (held' t) ≡ true → settled' r ≡ owned_by t (back' t r))
    (none : is_held r (held' t) ≡ false → settled' r ≡ free) where
  pub changes_one : SettledMonitors settled' held' back'
  changes_one = record {
    holds = λ u q is. elim (same_or_other q r) [
      | inl here ↦ subst (λ n. settled' n ≡ owned_by u (back' u n)) (sym here) (held_here u (subst (λ n. is_held n (held' u) ≡ true) here is))
      | inr other ↦ others_settled q other ∙ facts.holds u q (sym (others u q other) ∙ is) ∙ ap (λ n. owned_by u n) (sym (others_back u q other is))
    ];
    is_free = λ q free_. elim (same_or_other q r) [
      | inl here ↦ subst (λ n. settled' n ≡ free) (sym here) (none (subst (λ n. is_held n (held' t) ≡ false) here (free_ t)))
      | inr other ↦ others_settled q other ∙ facts.is_free q (λ u. sym (others u q other) ∙ free_ u)
    ];
    apart = λ u v q is also. elim (same_or_other q r) [
      | inl here ↦ alone u (subst (λ n. is_held n (held' u) ≡ true) here is) ∙ sym (alone v (subst (λ n. is_held n (held' v) ≡ true) here also))
      | inr other ↦ facts.apart u v q (sym (others u q other) ∙ is) (sym (others v q other) ∙ also)
    ];
  }
    where
      held_here : (u : ℕ) → is_held r (held' u) ≡ true → settled' r ≡ owned_by u (back' u r)
      held_here u is = let here = alone u is in
          subst (λ n. settled' r ≡ owned_by n (back' n r)) (sym here) (holds (subst (λ n. is_held r (held' n) ≡ true) here is))

module _ (settled : ℕ → Monitor) (held : ℕ → List Held) (back : ℕ → ℕ → ℕ) (facts : SettledMonitors settled held back) (t : ℕ) where
  -- Thread t takes a free monitor: it is settled so where the event is left, and it stays free where the thread is to be
  -- undone, since it then holds it 0 times.
  pub takes_monitor : (h : Held) (settled' : ℕ → Monitor) (back' : ℕ → ℕ → ℕ) → ((u : ℕ) → is_held h.object (held u) ≡ false)
      → ((q : ℕ) → q ≢ h.object → settled' q ≡ settled q) → ((u q : ℕ) → q ≢ h.object → back' u q ≡ back u q)
      → settled' h.object ≡ owned_by t (back' t h.object)
      → SettledMonitors settled' (set_at held t (h ∷ held t)) back'
  takes_monitor h settled' back' free_before others others_back now =
      changes_one settled settled' held (set_at held t (h ∷ held t)) back back' facts t h.object
      (λ u q other. set_at-at (λ x. is_held q x ≡ is_held q (held u)) held t (h ∷ held t) u
      (λ here. held_more q h (held t) other ∙ ap (λ n. is_held q (held n)) (sym here)) (λ _. refl))
      (λ u q other is. others_back u q other) others
      (λ u. set_at-at (λ x. is_held h.object x ≡ true → u ≡ t) held t (h ∷ held t) u (λ here _. here)
      (λ _ is. both (is_held h.object (held u)) is (free_before u)))
      (λ _. now)
      (λ is. both (is_held h.object (h ∷ held t)) (held_first h (held t)) (subst (λ x. is_held h.object x ≡ false) (set_at-hit held t (h ∷ held t)) is))

  -- It enters or leaves one once more that it holds, or an undo gives it its depth of before.
  pub sets_depth : (r depth : ℕ) (settled' : ℕ → Monitor) (back' : ℕ → ℕ → ℕ) → is_held r (held t) ≡ true
      → ((q : ℕ) → q ≢ r → settled' q ≡ settled q) → ((u q : ℕ) → q ≢ r → back' u q ≡ back u q)
      → settled' r ≡ owned_by t (back' t r)
      → SettledMonitors settled' (set_at held t (with_depth_of r depth (held t))) back'
  sets_depth r depth settled' back' is others others_back now =
      changes_one settled settled' held (set_at held t (with_depth_of r depth (held t))) back back' facts t r
      (λ u q other. same u q) (λ u q other _. others_back u q other) others
      (λ u also. facts.apart u t r (sym (same u r) ∙ also) is) (λ _. now)
      (λ none. both (is_held r (held t)) is (sym (same t r) ∙ none))
    where
      same : (u q : ℕ) → is_held q (set_at held t (with_depth_of r depth (held t)) u) ≡ is_held q (held u)
      same u q = set_at-at (λ x. is_held q x ≡ is_held q (held u)) held t (with_depth_of r depth (held t)) u
          (λ here. same_held r q depth (held t) ∙ ap (λ n. is_held q (held n)) (sym here)) (λ _. refl)

  -- It releases one: by an exit, by a wait, or by undoing. It is then settled free, or was so already.
  pub releases_monitor : (r : ℕ) (settled' : ℕ → Monitor) (back' : ℕ → ℕ → ℕ) → is_held r (held t) ≡ true
      → ((q : ℕ) → q ≢ r → settled' q ≡ settled q) → ((u q : ℕ) → q ≢ r → back' u q ≡ back u q)
      → settled' r ≡ free
      → SettledMonitors settled' (set_at held t (without r (held t))) back'
  releases_monitor r settled' back' is others others_back now =
      changes_one settled settled' held (set_at held t (without r (held t))) back back' facts t r
      (λ u q other. set_at-at (λ x. is_held q x ≡ is_held q (held u)) held t (without r (held t)) u
      (λ here. still_held r q (held t) other ∙ ap (λ n. is_held q (held n)) (sym here)) (λ _. refl))
      (λ u q other _. others_back u q other) others
      (λ u also. elim (same_or_other u t) [
        | inl here ↦ here
        | inr other ↦ facts.apart u t r (sym (ap (λ x. is_held r x) (set_at-other held t (without r (held t)) u other)) ∙ also) is
      ])
      (λ held_. both (is_held r (without r (held t))) (subst (λ x. is_held r x ≡ true) (set_at-hit held t (without r (held t))) held_) (let_go_of r (held t)))
      (λ _. now)

  -- It undoes what is to be undone: what it holds has the depth that was to come.
  pub undoes_levels : (back' : ℕ → ℕ → ℕ) → ((u r : ℕ) → is_held r (held u) ≡ true → back' u r ≡ back u r) → SettledMonitors settled held back'
  undoes_levels back' same = record {
    holds = λ u r is. facts.holds u r is ∙ ap (λ n. owned_by u n) (sym (same u r is));
    is_free = facts.is_free;
    apart = facts.apart;
  }

-- once each monitor has its depth of then and those taken since are released, each has the depth that was to come
pub settles_depths : (now then_ : List Held) (r : ℕ) → ((q : ℕ) → is_held q now ≡ true → is_held q then_ ≡ true)
    → ((q : ℕ) → is_held q then_ ≡ true → (held_as q now).depth ≡ (held_as q then_).depth) → is_held r now ≡ true
    → depth_back zero [] now r ≡ (held_as r then_).depth
settles_depths now then_ r was same is = same r (was r is)
