-- The test of the levels that are revoked is the test.
use Rattle.std.proofs.Common.{◌≡◌, inl, inr, ℕ, zero, suc, ◌+◌, ◌<◌, ◌≤◌, Bool, true, false, true≢false, Option, None, Some, List, [], ◌∷◌, length, nat_eq, refl, sym, ◌∙◌, ap, arith}
use Rattle.std.specs.Prelude.{◌&&◌, ◌||◌, ◌-◌, take, slice_get}
use Rattle.std.proofs.lemmas.Bool.{eq-eqb, and_parts, or_left, or_right}
use Rattle.std.proofs.lemmas.Option.{slice_get_within}
use Rattle.op_core.specs.ThreadCode.{Code}
use Rattle.heap_words.specs.declared.areas.Area.TheVariants.{Section}
use Rattle.section_state.specs.SectionWord.{owner_of}
use Rattle.step_port.specs.declared.answer.StepAnswer.TheVariants.{Done}
use Rattle.step_port.specs.declared.step.Step.TheVariants.{Revoke, BreakLevel}
use Rattle.thread_automaton.specs.declared.Bounds.{Bounds}
use Rattle.thread_automaton.specs.ThreadState.{ThreadState}
use Rattle.core_runs.specs.Cores.{Core}
use Rattle.core_runs.specs.Acts.{Act, did, beside}
use Rattle.core_runs.specs.Revoked.{RevokesAt, levels_from, IsDoomed}
use Rattle.section_laws.specs.LevelRun.{In}
use Rattle.section_laws.proofs.CoreRunLemmas.{equal}
use Rattle.section_laws.proofs.own_sections.MoveLemmas.{own_words_are_known}
use Rattle.section_laws.proofs.run_threads.NumberLemmas.{threads_are_numbered}
use Rattle.section_laws.specs.Levels.{IsLevelledRun}
use Rattle.section_laws.proofs.section_levels.LevelLemmas.{has_section}
use Rattle.first_law.proofs.doomed_cuts.CutLemmas.{in_of, contains_of}
use Rattle.core_law.specs.RevokedLevels.{has_open, is_among, opened_inside, is_revoked_with, is_revoked_from, is_level_revoked, RevokedLevelsAreTold}

in_take : (n p : ℕ) (levels : List ℕ) → In p (take n levels) → In p levels
in_take zero p levels is = absurd is
in_take (suc n) p [] is = absurd is
in_take (suc n) p (q ∷ levels) is = elim is [ inl here ↦ inl here | inr more ↦ inr (in_take n p levels more) ]

among_in : (p : ℕ) (levels : List ℕ) → is_among p levels ≡ true → In p levels
among_in p [] is = absurd (true≢false (sym is))
among_in p (q ∷ levels) is = by_test (nat_eq q p) refl (among_in p levels)
  where
    by_test : (z : Bool) → nat_eq q p ≡ z → (is_among p levels ≡ true → In p levels) → In p (q ∷ levels)
    by_test true same later = inl (sym (equal q p same))
    by_test false other later = inr (later (sym (ap (λ z. z || is_among p levels) other) ∙ is))

in_among : (p : ℕ) (levels : List ℕ) → In p levels → is_among p levels ≡ true
in_among p [] is = absurd is
in_among p (q ∷ levels) is = elim is [
  | inl here ↦ or_left (nat_eq q p) (is_among p levels) (eq-eqb q p (sym here))
  | inr more ↦ or_right (nat_eq q p) (is_among p levels) (in_among p levels more)
]

module _ {S : Type 0} (code : Code S) (b : Bounds) (first : S) (classes : ℕ) (c : ℕ → Core S) (acts : List Act) (run : IsLevelledRun code b first classes c acts) (p : ℕ) where
  -- ---- what the test tells is revoked

  abbrev owner : ℕ → ℕ → ℕ
  owner k s = owner_of ((c k).words (Section s))

  doomed_by : (k s n : ℕ) → RevokesAt acts k s n → opened_inside (c k) s n p ≡ true → IsDoomed c acts p
  doomed_by k s n revokes is = by_thread ((c k).threads (owner k s)) refl
    where
      inside : is_among p (levels_from n ((c k).levels (owner k s))) ≡ true
      inside = (and_parts (has_open s ((c k).threads (owner k s))) (is_among p (levels_from n ((c k).levels (owner k s)))) is).1

      opens : has_open s ((c k).threads (owner k s)) ≡ true
      opens = (and_parts (has_open s ((c k).threads (owner k s))) (is_among p (levels_from n ((c k).levels (owner k s)))) is).0

      by_thread : (o : Option (ThreadState S)) → (c k).threads (owner k s) ≡ o → IsDoomed c acts p
      by_thread None none = absurd (true≢false (sym opens ∙ ap (has_open s) none))
      by_thread (Some th) at = record {
        place = k;
        section = s;
        level = n;
        revokes = revokes;
        thread = owner k s;
        th = th;
        stands = at;
        own = equal th.section s (sym (ap (has_open s) at) ∙ opens);
        was_open = contains_of p (levels_from n ((c k).levels (owner k s))) (among_in p (levels_from n ((c k).levels (owner k s))) inside);
      }

  doomed_with : (k : ℕ) (x : Act) → slice_get acts k ≡ Some x → is_revoked_with (c k) x p ≡ true → IsDoomed c acts p
  doomed_with k (did t (Revoke s old n) Done) at is = doomed_by k s n (t, old, inl at) is
  doomed_with k (beside t (BreakLevel s old n) Done) at is = doomed_by k s n (t, old, inr at) is
  doomed_with k x at is = absurd (true≢false (sym is))

  doomed_from : (rest : List Act) (k : ℕ) → ((j : ℕ) → slice_get rest j ≡ slice_get acts (k + j)) → is_revoked_from c k rest p ≡ true → IsDoomed c acts p
  doomed_from [] k same is = absurd (true≢false (sym is))
  doomed_from (x ∷ rest) k same is = by_test (is_revoked_with (c k) x p) refl (doomed_from rest (suc k) (λ j. same (suc j) ∙ ap (slice_get acts) (shift k j)))
    where
      plus_zero : (k : ℕ) → k ≡ k + 0
      plus_zero k = omega arith

      shift : (k j : ℕ) → k + suc j ≡ suc k + j
      shift k j = omega arith

      by_test : (z : Bool) → is_revoked_with (c k) x p ≡ z → (is_revoked_from c (suc k) rest p ≡ true → IsDoomed c acts p) → IsDoomed c acts p
      by_test true now later = doomed_with k x (ap (slice_get acts) (plus_zero k) ∙ sym (same 0)) now
      by_test false none later = later (sym (ap (λ z. z || is_revoked_from c (suc k) rest p) none) ∙ is)

  -- ---- what is revoked the test tells

  told_from : (rest : List Act) (k j : ℕ) (x : Act) → slice_get rest j ≡ Some x → is_revoked_with (c (k + j)) x p ≡ true → is_revoked_from c k rest p ≡ true
  told_from [] k j x at is = absurd cc
  told_from (y ∷ rest) k zero x at is = or_left (is_revoked_with (c k) y p) (is_revoked_from c (suc k) rest p)
      (ap (λ z. is_revoked_with (c k) z p) (same_act y x at) ∙ ap (λ n. is_revoked_with (c n) x p) (plus_zero k) ∙ is)
    where
      same_act : (y x : Act) → Some y ≡ Some x → y ≡ x
      same_act y x same = cc

      plus_zero : (k : ℕ) → k ≡ k + 0
      plus_zero k = omega arith
  told_from (y ∷ rest) k (suc j) x at is = or_right (is_revoked_with (c k) y p) (is_revoked_from c (suc k) rest p)
      (told_from rest (suc k) j x at (ap (λ n. is_revoked_with (c n) x p) (shift k j) ∙ is))
    where
      shift : (k j : ℕ) → suc k + j ≡ k + suc j
      shift k j = omega arith

  module _ (doomed : IsDoomed c acts p) where
    within : doomed.place < length acts
    within = by_kind doomed.revokes
      where
        by_kind : {j s n : ℕ} → RevokesAt acts j s n → j < length acts
        by_kind {j} (u, old, is) = elim is [ inl here ↦ slice_get_within acts j _ here | inr here ↦ slice_get_within acts j _ here ]

    low : doomed.place ≤ length acts
    low = less doomed.place (length acts) within
      where
        less : (j n : ℕ) → j < n → j ≤ n
        less j n is = omega (arith, is)

    abbrev levels : List ℕ
    levels = levels_from doomed.level ((c doomed.place).levels doomed.thread)

    inside : In p levels
    inside = in_of p levels doomed.was_open

    some : 0 < doomed.th.section
    some = has_section code b first classes c acts run doomed.place doomed.thread p doomed.th low doomed.stands
        (in_take (suc (length ((c doomed.place).levels doomed.thread)) - doomed.level) p ((c doomed.place).levels doomed.thread) inside)

    -- the word of the section names the thread
    named : owner doomed.place doomed.section ≡ doomed.thread
    named = ap (λ s. owner doomed.place s) (sym doomed.own)
        ∙ (own_words_are_known code b c acts run.ordered.run run.ordered.in_bits doomed.place doomed.thread doomed.th low doomed.stands some).0.owner
        ∙ (threads_are_numbered code b c acts run.ordered.run run.numbered doomed.place low).own doomed.thread doomed.th doomed.stands

    opened : opened_inside (c doomed.place) doomed.section doomed.level p ≡ true
    opened = ap (λ t. has_open doomed.section ((c doomed.place).threads t) && is_among p (levels_from doomed.level ((c doomed.place).levels t))) named
        ∙ ap (λ z. z && is_among p levels) (ap (has_open doomed.section) doomed.stands ∙ eq-eqb doomed.th.section doomed.section doomed.own) ∙ in_among p levels inside

    opened_there : opened_inside (c (0 + doomed.place)) doomed.section doomed.level p ≡ true
    opened_there = ap (λ n. opened_inside (c n) doomed.section doomed.level p) (zero_plus doomed.place) ∙ opened
      where
        zero_plus : (n : ℕ) → 0 + n ≡ n
        zero_plus n = omega arith

    told : is_level_revoked c acts p ≡ true
    told = by_kind doomed.revokes
      where
        by_kind : RevokesAt acts doomed.place doomed.section doomed.level → is_level_revoked c acts p ≡ true
        by_kind (t, old, is) = elim is [
          | inl here ↦ told_from acts 0 doomed.place (did t (Revoke doomed.section old doomed.level) Done) here opened_there
          | inr here ↦ told_from acts 0 doomed.place (beside t (BreakLevel doomed.section old doomed.level) Done) here opened_there
        ]

pub revoked_levels_are_told : {S : Type 0} (code : Code S) → RevokedLevelsAreTold code
revoked_levels_are_told code b first classes c acts run p = (
  (λ is. doomed_from code b first classes c acts run p acts 0 (λ j. ap (slice_get acts) (zero_plus j)) is),
  (λ doomed. told code b first classes c acts run p doomed),
)
  where
    zero_plus : (n : ℕ) → n ≡ 0 + n
    zero_plus n = omega arith
