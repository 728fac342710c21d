-- What a step of a thread makes of sections that are live or revoking.
use Rattle.std.proofs.Common.{◌≡◌, ◌≢◌, ◌⊎◌, inl, inr, ℕ, ◌-◌, ◌<◌, ◌≤◌, Bool, true, false, nat_eq, refl, sym, ◌∙◌, ap, subst, arith}
use Rattle.std.specs.Prelude.{nat_le, if◌then◌else◌}
use Rattle.std.proofs.lemmas.Grind.{common_steps}
use Rattle.std.proofs.lemmas.Bool.Decides.{nat_tests}
use Rattle.op_core.proofs.PointwiseLemmas.{same_or_other}
use Rattle.heap_words.specs.declared.areas.Area.{Area}
use Rattle.heap_words.specs.declared.areas.Area.TheVariants.{Section}
use Rattle.section_state.specs.SectionWord.{revoke_of, with_pinned, with_depth, opened_of, committed_of, undone_of}
use Rattle.step_port.specs.declared.answer.StepAnswer.{StepAnswer}
use Rattle.step_port.specs.declared.step.Effect.TheVariants.{Exchange}
use Rattle.step_port.specs.declared.step.Step.{Step}
use Rattle.step_port.specs.Steps.{place_of, effect_of}
use Rattle.step_port.specs.Words.{Words, put_at, put_by, answer_to, answer_of, words_after}
use Rattle.thread_automaton.specs.Changes.{section_at}
use Rattle.section_laws.proofs.WordLemmas.{exchanged, put_section}
use Rattle.section_laws.proofs.own_sections.WordLemmas.{undone_says}
use Rattle.section_laws.proofs.own_sections.ViewLemmas.{View, own_of, opening_of, Touch, stays, pinned_to, revoked, Deed, plain, goes_on, sees_revoked, sees_pinned, pins_own, undoes, touches, opens, opens_level, commits, closes_levels, ends_section}
use Rattle.section_laws.proofs.own_sections.OwnLemmas.{Own, elsewhere_stays}
use Rattle.section_laws.specs.OpenSections.{IsLiveOrRevoking}
use Rattle.section_laws.proofs.open_sections.WordLemmas.{undone_closed, committed_closed}

not_some : {A : Type 0} (n : ℕ) → n ≡ 0 → 0 < n → A
not_some n none some = absurd (no n none some)
  where
    no : (n : ℕ) → n ≡ 0 → 0 < n → ⊥
    no n none some = omega (arith, none, some)

pub touch_back : {old new : ℕ} → Touch old new → IsLiveOrRevoking new → IsLiveOrRevoking old
touch_back (stays is) now = subst IsLiveOrRevoking is now
touch_back (pinned_to n live deeper low is) now = inl live
touch_back (revoked n live free there is) now = inl live

-- ---- the sections of a thread that makes a step

-- A section that is live or revoking after it was so before, or is the thread's then; and the thread has its section still,
-- or none, and then that one is neither.
pub record SectionGoes (x y : View) (w v : Words) : Type 0 where
  pub has : (s : ℕ) → IsLiveOrRevoking (v (Section s)) → IsLiveOrRevoking (w (Section s)) ⊎ (y.section ≡ s)
  pub keeps : 0 < x.section → (y.section ≡ x.section) ⊎ ((y.section ≡ 0) × (IsLiveOrRevoking (v (Section x.section)) → ⊥))

module _ (x y : View) (w : Words) (own : Own x w) where
  abbrev Goes : Step → Type 0
  Goes step = SectionGoes x y w (words_after step w)

  still : (step : Step) → y.section ≡ x.section → ((s : ℕ) → words_after step w (Section s) ≡ w (Section s)) → Goes step
  still step same stay = record { has = λ s now. inl (subst IsLiveOrRevoking (stay s) now); keeps = λ some. inl same }

  own_exchange : (step : Step) (new : ℕ) → place_of step ≡ Section x.section → effect_of step ≡ Exchange (own_of x) new → y.section ≡ x.section → Goes step
  own_exchange step new place effect same = record {
    has = λ s now. elim (same_or_other s x.section) [
      | inl here ↦ inr (same ∙ sym here)
      | inr other ↦ inl (subst IsLiveOrRevoking (elsewhere_stays step w x.section s (own_of x) new place effect other) now)
    ];
    keeps = λ some. inl same;
  }

  put_other : (s v r : ℕ) → r ≢ s → put_at w (Section s) v (Section r) ≡ w (Section r)
  put_other s v r other = ap (λ t. if t then v else w (Section r)) (differs r s other)
    where
      differs : (m n : ℕ) → m ≢ n → nat_eq m n ≡ false
      differs m n is = grind (arith, common_steps, nat_tests)

  pub section_goes : {step : Step} {a : StepAnswer} → Deed x y step a → a ≡ answer_of w step → Goes step
  section_goes {step} (plain same keeps none low leaving) is = still step keeps.2 (λ s. same.stay w is s)
  section_goes {step} (goes_on same keeps undoing again level leaving) is = still step keeps.2 (λ s. same.stay w is s)
  section_goes {step} (sees_revoked three keeps undoing level leaving) is = still step keeps.2 (λ s. refl)
  section_goes {step} (sees_pinned keeps pin calm) is = still step keeps.2 (λ s. refl)
  section_goes {step} (pins_own some unpinned keeps pin none level leaving) is = own_exchange step (with_pinned (own_of x) x.levels) refl refl keeps.2
  section_goes (undoes {w = seen} undoing some same section levels pin calm) is = by_depth (nat_le (revoke_of seen) 1) refl
    where
      low : (n : ℕ) → nat_le n 1 ≡ true → n ≤ 1
      low n is = grind (arith, common_steps, nat_tests)

      none_left : (n : ℕ) → n ≤ 1 → n - 1 ≡ 0
      none_left n low = omega (arith, low)

      some_left : (n : ℕ) → nat_le n 1 ≡ false → nat_eq (n - 1) 0 ≡ false
      some_left n is = grind (arith, common_steps, nat_tests)

      by_depth : (t : Bool) → nat_le (revoke_of seen) 1 ≡ t → SectionGoes x y w (put_at w (Section x.section) (undone_of seen))
      by_depth true is_low = record {
        has = λ s now. elim (same_or_other s x.section) [
          | inl here ↦ absurd (closed (subst IsLiveOrRevoking (ap (λ n. put_at w (Section x.section) (undone_of seen) (Section n)) here ∙ put_section w x.section (undone_of seen)) now))
          | inr other ↦ inl (subst IsLiveOrRevoking (put_other x.section (undone_of seen) s other) now)
        ];
        keeps = λ above. inr (
          section ∙ ap (λ n. section_at n x.section) (none_left (revoke_of seen) (low (revoke_of seen) is_low)),
          λ now. closed (subst IsLiveOrRevoking (put_section w x.section (undone_of seen)) now),
        );
      }
        where
          closed : IsLiveOrRevoking (undone_of seen) → ⊥
          closed = undone_closed (undone_of seen) (undone_says seen (low (revoke_of seen) is_low)).1.0
      by_depth false high =
          let same_section : y.section ≡ x.section = section ∙ ap (λ t. if t then 0 else x.section) (some_left (revoke_of seen) high) in record {
            has = λ s now. elim (same_or_other s x.section) [
              | inl here ↦ inr (same_section ∙ sym here)
              | inr other ↦ inl (subst IsLiveOrRevoking (put_other x.section (undone_of seen) s other) now)
            ];
            keeps = λ above. inl same_section;
          }
  section_goes {step} (touches {s = at} {old = old} {new = new} place effect away touch by keeps calm) is = record {
    has = λ s now. inl (elim (same_or_other s at) [
      | inr other ↦ subst IsLiveOrRevoking (elsewhere_stays step w at s old new place effect other) now
      | inl here ↦
          let done : StepAnswer.Done ≡ answer_to (Exchange old new) (w (Section at)) =
          is ∙ ap (λ e. answer_to e (w (place_of step))) effect ∙ ap (λ (p : Area). answer_to (Exchange old new) (w p)) place in
          let e = exchanged w (Section at) old new done in
          let becomes : words_after step w (Section at) ≡ new = ap (λ f. put_by f w (place_of step) (Section at)) effect ∙ ap (λ (p : Area). put_by (Exchange old new) w p (Section at)) place
          ∙ ap (λ (u : Words). u (Section at)) e.leaves ∙ put_section w at new in
          subst IsLiveOrRevoking (sym e.found ∙ ap (λ n. w (Section n)) (sym here))
          (touch_back touch (subst IsLiveOrRevoking (ap (λ n. words_after step w (Section n)) here ∙ becomes) now))
    ]);
    keeps = λ some. inl keeps.2;
  }
  section_goes (opens {s = at} shut some same section levels pin calm) is = record {
    has = λ s now. elim (same_or_other s at) [ inl here ↦ inr (section ∙ sym here) | inr other ↦ inl (subst IsLiveOrRevoking (put_other at (opening_of x) s other) now) ];
    keeps = λ above. not_some x.section shut above;
  }
  section_goes {step} (opens_level some room same section levels pin calm) is = own_exchange step (opened_of (own_of x)) refl refl section
  section_goes {step} (commits some keeps none level) is = own_exchange step (committed_of (own_of x)) refl refl keeps.2
  section_goes {step} (closes_levels {n = n} some high low same section levels pin calm) is = own_exchange step (with_depth (own_of x) n) refl refl section
  section_goes {step} (ends_section leaving stay same section pin calm) is = record {
    has = λ s now. inl (subst IsLiveOrRevoking (stay.stay w is s) now);
    keeps = λ some. inr (section, λ now. committed_closed (w (Section x.section)) ((own.own some).ends leaving).0 (subst IsLiveOrRevoking (stay.stay w is x.section) now));
  }
