-- `SettledMonitors` with a step of one thread, while the others stay as they are.
use Rattle.std.proofs.Common.{◌≡◌, ◌≢◌, inl, inr, ℕ, true, false, ◌||◌, List, [], ◌∷◌, nat_eq, refl, sym, ◌∙◌, ap}
use Rattle.op_core.specs.OrdinaryState.{set_at, Monitor, free}
use Rattle.op_core.specs.InPlaceList.{owned_by}
use Rattle.op_core.proofs.PointwiseLemmas.{same_or_other, set_at-hit, set_at-other}
use Rattle.thread_automaton.specs.declared.Held.{Held}
use Rattle.thread_automaton.specs.ThreadState.{with_depth_of}
use Rattle.thread_automaton.specs.Changes.{without}
use Rattle.automaton_rows.specs.Undoing as rows
use Rattle.section_laws.specs.SettledMonitors.{is_held, SettledMonitors}
use Rattle.section_laws.proofs.settled_lists.MonitorLemmas.{takes_monitor, sets_depth, releases_monitor}

-- both crates below say in the same way that a monitor is held
pub same_is_held : (r : ℕ) (held : List Held) → rows.is_held r held ≡ is_held r held
same_is_held r [] = refl
same_is_held r (h ∷ held) = ap (λ t. nat_eq h.object r || t) (same_is_held r held)

module _ (settled settled' : ℕ → Monitor) (held held' : ℕ → List Held) (back back' : ℕ → ℕ → ℕ) (facts : SettledMonitors settled held back) (t : ℕ)
    (others_held : (u : ℕ) → u ≢ t → held' u ≡ held u) (others_back : (u q : ℕ) → u ≢ t → back' u q ≡ back u q) where
  -- the same lists, thread by thread
  moved : (now : List Held) → held' t ≡ now → SettledMonitors settled' (set_at held t now) back' → SettledMonitors settled' held' back'
  moved now is s = record {
    holds = λ u r has. s.holds u r (sym (ap (is_held r) (same u)) ∙ has);
    is_free = λ r none. s.is_free r (λ u. ap (is_held r) (sym (same u)) ∙ none u);
    apart = λ u v r has also. s.apart u v r (sym (ap (is_held r) (same u)) ∙ has) (sym (ap (is_held r) (same v)) ∙ also);
  }
    where
      same : (u : ℕ) → held' u ≡ set_at held t now u
      same u = elim (same_or_other u t) [
        | inl own ↦ ap held' own ∙ is ∙ sym (ap (set_at held t now) own ∙ set_at-hit held t now)
        | inr other ↦ others_held u other ∙ sym (set_at-other held t now u other)
      ]

  all_back : (r : ℕ) → ((q : ℕ) → q ≢ r → back' t q ≡ back t q) → (u q : ℕ) → q ≢ r → back' u q ≡ back u q
  all_back r own u q other = elim (same_or_other u t) [
    | inl here ↦ ap (λ n. back' n q) here ∙ own q other ∙ ap (λ n. back n q) (sym here)
    | inr apart ↦ others_back u q apart
  ]

  pub stays : held' t ≡ held t → ((q : ℕ) → settled' q ≡ settled q) → ((q : ℕ) → back' t q ≡ back t q) → SettledMonitors settled' held' back'
  stays same same_settled same_back = record {
    holds = λ u q has. same_settled q ∙ facts.holds u q (sym (ap (is_held q) (same_held_at u)) ∙ has) ∙ ap (owned_by u) (sym (same_back_at u q));
    is_free = λ q none. same_settled q ∙ facts.is_free q (λ u. ap (is_held q) (sym (same_held_at u)) ∙ none u);
    apart = λ u v q has also. facts.apart u v q (sym (ap (is_held q) (same_held_at u)) ∙ has) (sym (ap (is_held q) (same_held_at v)) ∙ also);
  }
    where
      same_held_at : (u : ℕ) → held' u ≡ held u
      same_held_at u = elim (same_or_other u t) [ inl own ↦ ap held' own ∙ same ∙ ap held (sym own) | inr other ↦ others_held u other ]

      same_back_at : (u q : ℕ) → back' u q ≡ back u q
      same_back_at u q = elim (same_or_other u t) [
        | inl own ↦ ap (λ n. back' n q) own ∙ same_back q ∙ ap (λ n. back n q) (sym own)
        | inr other ↦ others_back u q other
      ]

  pub takes : (h : Held) → held' t ≡ h ∷ held t → ((u : ℕ) → is_held h.object (held u) ≡ false) → ((q : ℕ) → q ≢ h.object → settled' q ≡ settled q) → ((q : ℕ) → q ≢ h.object → back' t q ≡ back t q)
      → settled' h.object ≡ owned_by t (back' t h.object) → SettledMonitors settled' held' back'
  takes h is nobody same_settled same_back now = moved (h ∷ held t) is (takes_monitor settled held back facts t h settled' back' nobody same_settled (all_back h.object same_back) now)

  pub sets : (r d : ℕ) → held' t ≡ with_depth_of r d (held t) → is_held r (held t) ≡ true → ((q : ℕ) → q ≢ r → settled' q ≡ settled q) → ((q : ℕ) → q ≢ r → back' t q ≡ back t q)
      → settled' r ≡ owned_by t (back' t r) → SettledMonitors settled' held' back'
  sets r d is has same_settled same_back now = moved (with_depth_of r d (held t)) is (sets_depth settled held back facts t r d settled' back' has same_settled (all_back r same_back) now)

  pub releases : (r : ℕ) → held' t ≡ without r (held t) → is_held r (held t) ≡ true → ((q : ℕ) → q ≢ r → settled' q ≡ settled q) → ((q : ℕ) → q ≢ r → back' t q ≡ back t q)
      → settled' r ≡ free → SettledMonitors settled' held' back'
  releases r is has same_settled same_back now = moved (without r (held t)) is (releases_monitor settled held back facts t r settled' back' has same_settled (all_back r same_back) now)
