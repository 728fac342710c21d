-- Levels that are to be undone, at one place of a run.
use Rattle.std.proofs.Common.{◌≡◌, ◌⊎◌, inl, inr, ℕ, zero, suc, ◌+◌, ◌-◌, ◌<◌, ◌≤◌, Bool, true, false, None, Some, List, [], ◌∷◌, length, take, drop, nat_eq, refl, sym, ◌∙◌, ap, subst, arith}
use Rattle.std.specs.Prelude.{Contains, nat_lt, slice_get, if◌then◌else◌}
use Rattle.std.proofs.lemmas.Grind.{common_steps}
use Rattle.std.proofs.lemmas.Bool.Decides.{nat_tests}
use Rattle.std.proofs.lemmas.Option.{same_Some}
use Rattle.op_core.specs.ThreadCode.{Code}
use Rattle.heap_words.specs.declared.areas.Area.TheVariants.{Section}
use Rattle.section_state.specs.SectionWord.{state_of, pinned_of, revoke_of, undone_of}
use Rattle.step_port.specs.declared.answer.StepAnswer.{StepAnswer}
use Rattle.step_port.specs.declared.step.Step.{Step}
use Rattle.step_port.specs.declared.step.Step.TheVariants.{MarkUndone}
use Rattle.thread_automaton.specs.declared.Bounds.{Bounds}
use Rattle.thread_automaton.specs.declared.Attempt.TheVariants.{Undoing}
use Rattle.thread_automaton.specs.ThreadState.{ThreadState, is_open}
use Rattle.automaton_rows.specs.Fits.{AttemptFits}
use Rattle.core_runs.specs.Cores.{Core}
use Rattle.core_runs.specs.Acts.{Act, did}
use Rattle.core_runs.specs.Revoked.{IsDoomed, levels_from}
use Rattle.section_laws.specs.LevelRun.{is_undone, In, IsLevel}
use Rattle.section_laws.proofs.level_runs.LevelLemmas.{has_nth, doomed_are_undone, RevokedBefore, revoked_before}
use Rattle.section_laws.specs.Settled.{count_more, to_undo}
use Rattle.section_laws.proofs.settled_lists.PartLemmas.{less_to_undo}
use Rattle.section_laws.proofs.CoreRunLemmas.{behind_front}
use Rattle.section_laws.proofs.DeedLemmas.{above}
use Rattle.section_laws.proofs.RunLemmas.{facts_at}
use Rattle.section_laws.proofs.own_sections.ViewLemmas.{undone_word}
use Rattle.section_laws.proofs.own_sections.MoveLemmas.{own_at}
use Rattle.section_laws.specs.Levels.{IsLevelledRun, word_in, revoked_by, core_at, levels_in, revoked_in, RunsInLevels}
use Rattle.section_laws.proofs.section_levels.TurnLemmas.{turned}
use Rattle.section_laws.proofs.section_levels.RunLemmas.{counted_at}
use Rattle.section_laws.proofs.section_levels.LevelLemmas.{at_place, level_in, runs_in_levels, has_section, doomed_at, doomed_levels_are_unpinned}
use Rattle.section_laws.specs.OpenSections.{IsLiveOrRevoking}
use Rattle.section_laws.proofs.open_sections.RunLemmas.{doomed_sections_are_open}
use Rattle.first_law.specs.SettledRuns.{IsDoomedTest}

-- ---- lists

-- the outermost level that is doomed
pub record Outermost (doomed : ℕ → Bool) (levels : List ℕ) : Type 0 where
  pub place : ℕ
  pub level : ℕ
  pub is : IsLevel place level levels
  pub so : doomed place ≡ true
  pub count : level + to_undo doomed levels ≡ suc (length levels)

pub outermost_of : (doomed : ℕ → Bool) (levels : List ℕ) → 0 < to_undo doomed levels → Outermost doomed levels
outermost_of doomed [] some = absurd (no some)
  where
    no : 0 < 0 → ⊥
    no some = omega (arith, some)
outermost_of doomed (q ∷ levels) some = by_count (doomed q) refl (to_undo doomed levels) refl some (outermost_of doomed levels)
  where
    above_it : (n : ℕ) → 0 < suc n
    above_it n = omega arith

    more : (d n l : ℕ) → d + n ≡ suc l → d + suc n ≡ suc (suc l)
    more d n l is = omega (arith, is)

    one : (l : ℕ) → suc l + 1 ≡ suc (suc l)
    one l = omega arith

    no : 0 < 0 → ⊥
    no some = omega (arith, some)

    by_count : (t : Bool) → doomed q ≡ t → (n : ℕ) → to_undo doomed levels ≡ n → 0 < count_more (doomed q) (to_undo doomed levels) → (0 < to_undo doomed levels → Outermost doomed levels) → Outermost doomed (q ∷ levels)
    by_count t is (suc n) same some rest =
        let found = rest (subst (λ m. 0 < m) (sym same) (above_it n)) in
        record {
          place = found.place;
          level = found.level;
          is = inr found.is;
          so = found.so;
          count = ap (λ m. found.level + count_more (doomed q) m) same ∙ more found.level (suc n) (length levels) (ap (λ m. found.level + m) (sym same) ∙ found.count);
        }
    by_count true is zero same some rest = record {
      place = q;
      level = suc (length levels);
      is = inl (refl, refl);
      so = is;
      count = ap (λ m. suc (length levels) + count_more (doomed q) m) same ∙ ap (λ t. suc (length levels) + (if t then 1 else 0)) is ∙ one (length levels);
    }
    by_count false is zero same some rest = absurd (no (subst (λ n. 0 < n) (ap (count_more (doomed q)) same ∙ ap (λ t. if t then 1 else 0) is) some))

-- all from a level that is doomed on are to be undone
pub counts_from : (doomed : ℕ → Bool) (p d : ℕ) (levels : List ℕ) → IsLevel p d levels → doomed p ≡ true → suc (length levels) ≤ d + to_undo doomed levels
counts_from doomed p d [] is so = absurd is
counts_from doomed p d (q ∷ levels) is so = elim is [
  | inl here ↦ first (to_undo doomed levels) d (length levels) here.1 (ap doomed (sym here.0) ∙ so)
  | inr more ↦ next (doomed q) (to_undo doomed levels) d (length levels) (counts_from doomed p d levels more so) (low d levels more)
]
  where
    first : (n d l : ℕ) → d ≡ suc l → doomed q ≡ true → suc (suc l) ≤ d + count_more (doomed q) n
    first n d l is true_so = subst (λ t. suc (suc l) ≤ d + count_more t n) (sym true_so) (by_count n)
      where
        by_count : (n : ℕ) → suc (suc l) ≤ d + count_more true n
        by_count zero = omega (arith, is)
        by_count (suc n) = omega (arith, is)

    low : (d : ℕ) (levels : List ℕ) → IsLevel p d levels → d ≤ length levels
    low d [] is = absurd is
    low d (x ∷ levels) is = elim is [ inl here ↦ equal d (length levels) here.1 | inr more ↦ up d (length levels) (low d levels more) ]
      where
        equal : (d l : ℕ) → d ≡ suc l → d ≤ suc l
        equal d l is = omega (arith, is)

        up : (d l : ℕ) → d ≤ l → d ≤ suc l
        up d l is = omega (arith, is)

    next : (t : Bool) (n d l : ℕ) → suc l ≤ d + n → d ≤ l → suc (suc l) ≤ d + count_more t n
    next t zero d l is low = absurd (no d l is low)
      where
        no : (d l : ℕ) → suc l ≤ d + 0 → d ≤ l → ⊥
        no d l is low = omega (arith, is, low)
    next t (suc n) d l is low = omega (arith, is)

-- a doomed level among those that are left by closing
pub some_in : (doomed : ℕ → Bool) (p : ℕ) (levels : List ℕ) → In p levels → doomed p ≡ true → 0 < to_undo doomed levels
some_in doomed p [] is so = absurd is
some_in doomed p (q ∷ levels) is so = elim is [
  | inl here ↦ first (to_undo doomed levels) (ap doomed (sym here) ∙ so)
  | inr more ↦ next (doomed q) (to_undo doomed levels) (some_in doomed p levels more so)
]
  where
    first : (n : ℕ) → doomed q ≡ true → 0 < count_more (doomed q) n
    first n true_so = subst (λ t. 0 < count_more t n) (sym true_so) (by_count n)
      where
        by_count : (n : ℕ) → 0 < count_more true n
        by_count zero = omega arith
        by_count (suc n) = omega arith

    next : (t : Bool) (n : ℕ) → 0 < n → 0 < count_more t n
    next t zero some = absurd (no some)
      where
        no : 0 < 0 → ⊥
        no some = omega (arith, some)
    next t (suc n) some = omega arith

level_at : (j p : ℕ) (levels : List ℕ) → slice_get levels j ≡ Some p → IsLevel p (length levels - j) levels
level_at j p [] is = cc
level_at zero p (q ∷ levels) is = inl (sym (same_Some q p is), whole (length levels))
  where
    whole : (n : ℕ) → suc n - 0 ≡ suc n
    whole n = omega arith
level_at (suc j) p (q ∷ levels) is = inr (subst (λ n. IsLevel p n levels) (shift (length levels) j) (level_at j p levels is))
  where
    shift : (n j : ℕ) → n - j ≡ suc n - suc j
    shift n j = omega arith

contains_at : (j m p : ℕ) (levels : List ℕ) → j < m → slice_get levels j ≡ Some p → Contains (take m levels) p
contains_at j m p [] below is = cc
contains_at j zero p (q ∷ levels) below is = absurd (no j below)
  where
    no : (j : ℕ) → j < 0 → ⊥
    no j below = omega (arith, below)
contains_at zero (suc m) p (q ∷ levels) below is = (0, omega arith, same_Some q p is)
contains_at (suc j) (suc m) p (q ∷ levels) below is = behind_front q p (take m levels) (contains_at j m p levels (less j m below) is)
  where
    less : (j m : ℕ) → suc j < suc m → j < m
    less j m below = omega (arith, below)

abbrev step_of : Step → Act → Step
step_of step (did t made a) = made
step_of step act = step

-- ---- at one place of a run

module _ {S : Type 0} (code : Code S) (b : Bounds) (first : S) (classes : ℕ) (c : ℕ → Core S) (acts : List Act) (run : IsLevelledRun code b first classes c acts) (doomed : ℕ → Bool)
    (tells : IsDoomedTest c acts doomed) where
  abbrev pub undone : ℕ → ℕ → ℕ
  undone k t = to_undo doomed ((c k).levels t)

  module _ (k t : ℕ) (th : ThreadState S) (within : k ≤ length acts) (at : (c k).threads t ≡ Some th) where
    -- where a level is to be undone, one is open that isn't seen pinned
    pub doomed_open : 0 < undone k t → is_open th ≡ true
    doomed_open some =
        let out = outermost_of doomed ((c k).levels t) some in
        let is_doomed = (tells out.place).0 out.so in
        let unpinned = doomed_levels_are_unpinned code b first classes c acts run out.place out.level k t th within at is_doomed out.is in
        let has = has_section code b first classes c acts run k t out.place th within at (level_in out.place out.level ((c k).levels t) out.is) in
        let own = (own_at code b c acts run.ordered.run run.ordered.in_bits k within t th at).own has in
        open_so th.pinned th.levels (lower th.pinned (pinned_of ((c k).words (Section th.section))) out.level (undone k t) (length ((c k).levels t)) th.levels own.says.pinned unpinned out.count some
        ((counted_at code b first classes c acts run k within).there t th at))
      where
        open_so : (p l : ℕ) → p < l → nat_lt p l ≡ true
        open_so p l is = grind (arith, common_steps, nat_tests)

        lower : (p w d n l v : ℕ) → p ≤ w → w < d → d + n ≡ suc l → 0 < n → l ≡ v → p < v
        lower p w d n l v seen deep count some same = omega (arith, seen, deep, count, some, same)

    pub doomed_section : 0 < undone k t → 0 < th.section
    doomed_section some =
        let out = outermost_of doomed ((c k).levels t) some in
        has_section code b first classes c acts run k t out.place th within at (level_in out.place out.level ((c k).levels t) out.is)

    -- and its section isn't committed
    pub doomed_stands : 0 < undone k t → IsLiveOrRevoking ((c k).words (Section th.section))
    doomed_stands some =
        let out = outermost_of doomed ((c k).levels t) some in
        doomed_sections_are_open code b first classes c acts run out.place k t th within at ((tells out.place).0 out.so) (level_in out.place out.level ((c k).levels t) out.is)

    -- while a section is undone to level n, all from level n on are to be undone
    pub undoing_counts : (w : ℕ) → th.attempt ≡ Undoing w → suc (length ((c k).levels t)) ≤ revoke_of w + undone k t
    undoing_counts w undoing =
        counts_from doomed found.0 (revoke_of w) ((c k).levels t) (subst (λ n. IsLevel found.0 n ((c k).levels t)) (back (length ((c k).levels t)) (revoke_of w) level.0 low) (level_at (length ((c k).levels t) - revoke_of w) found.0 ((c k).levels t) found.1))
        ((tells found.0).1 is_doomed)
      where
        r : RunsInLevels c acts t
        r = runs_in_levels code b first classes c acts run t

        here : core_at c acts k ≡ c k
        here = at_place code b first classes c acts run k within

        has : 0 < th.section
        has = above th.section (subst (AttemptFits th (code.next th.local)) undoing ((facts_at code b c acts run.ordered.run k within).fit t th at).attempt).section

        sees : ((c k).words (Section th.section) ≡ w) × (state_of w ≡ 3)
        sees = ((own_at code b c acts run.ordered.run run.ordered.in_bits k within t th at).own has).sees w (ap undone_word undoing)

        revoked : revoked_in c acts t k ≡ Some (revoke_of w)
        revoked = ap (λ (core : Core S). revoked_by (word_in (core.threads t) core.words)) here ∙ ap (λ o. revoked_by (word_in o (c k).words)) at
            ∙ ap (λ d. revoked_by (if d then None else Some ((c k).words (Section th.section)))) (some_eq th.section has) ∙ ap (λ v. revoked_by (Some v)) sees.0 ∙ turned w sees.1
          where
            some_eq : (n : ℕ) → 0 < n → nat_eq n 0 ≡ false
            some_eq n some = grind (arith, common_steps, nat_tests)

        before : RevokedBefore (levels_in c acts t) (revoked_in c acts t) r.act r.is_run k (revoke_of w)
        before = revoked_before (levels_in c acts t) (revoked_in c acts t) r.act r.is_run k (revoke_of w) revoked

        earlier : before.place ≤ length acts
        earlier = less before.place k (length acts) before.earlier within
          where
            less : (p k l : ℕ) → p < k → k ≤ l → p ≤ l
            less p k l is low = omega (arith, is, low)

        -- the levels are those of the revocation
        same_levels : (c k).levels t ≡ (c before.place).levels t
        same_levels = ap (λ (core : Core S). core.levels t) (sym here) ∙ before.stays ∙ ap (λ (core : Core S). core.levels t) (at_place code b first classes c acts run before.place earlier)

        level : (0 < revoke_of w) × (revoke_of w ≤ length (levels_in c acts t before.place))
        level = before.level

        low : revoke_of w ≤ length ((c k).levels t)
        low = subst (λ l. revoke_of w ≤ length l) (sym before.stays ∙ ap (λ (core : Core S). core.levels t) here) level.1

        back : (l n : ℕ) → 0 < n → n ≤ l → l - (l - n) ≡ n
        back l n some low = omega (arith, some, low)

        found : (p : ℕ) × (slice_get ((c k).levels t) (length ((c k).levels t) - revoke_of w) ≡ Some p)
        found = has_nth (length ((c k).levels t) - revoke_of w) ((c k).levels t) (inner (length ((c k).levels t)) (revoke_of w) level.0 low)
          where
            inner : (l n : ℕ) → 0 < n → n ≤ l → l - n < l
            inner l n some low = omega (arith, some, low)

        is_doomed : IsDoomed c acts found.0
        is_doomed =
            let by = r.revokes before.place (revoke_of w) before.act_is in record {
              place = before.place;
              section = by.0.section;
              level = revoke_of w;
              revokes = by.2;
              thread = t;
              th = by.0;
              stands = by.1;
              own = refl;
              was_open = subst (λ l. Contains (levels_from (revoke_of w) l) found.0) same_levels
                  (contains_at (length ((c k).levels t) - revoke_of w) (suc (length ((c k).levels t)) - revoke_of w) found.0 ((c k).levels t) (inside (length ((c k).levels t)) (revoke_of w) low) found.1);
            }
          where
            inside : (l n : ℕ) → n ≤ l → l - n < suc l - n
            inside l n low = omega (arith, low)

  -- no step but that which marks a level as undone closes a level that is to be undone
  pub closes_none : (k t j : ℕ) (step : Step) (a : StepAnswer) → k < length acts → slice_get acts k ≡ Some (did t step a) → ((s w : ℕ) → step ≡ MarkUndone s w → ⊥)
      → (c (suc k)).levels t ≡ drop j ((c k).levels t) → (undone k t ≡ 0) ⊎ (j < undone k t)
  closes_none k t j step a within here other closed = by_test (nat_lt 0 (undone k t)) refl
    where
      low : k ≤ length acts
      low = omega (arith, within)

      zero_or : (n : ℕ) → nat_lt 0 n ≡ false → n ≡ 0
      zero_or n is = grind (arith, common_steps, nat_tests)

      some_or : (n : ℕ) → nat_lt 0 n ≡ true → 0 < n
      some_or n is = grind (arith, common_steps, nat_tests)

      next : (k : ℕ) → k ≤ suc k
      next k = omega arith

      less : (n j : ℕ) → 0 < n - j → j < n
      less n j some = omega (arith, some)

      is_now : (i k : ℕ) → k ≤ i → i < suc k → i ≡ k
      is_now i k up low = omega (arith, up, low)

      by_test : (test : Bool) → nat_lt 0 (undone k t) ≡ test → (undone k t ≡ 0) ⊎ (j < undone k t)
      by_test false none = inl (zero_or (undone k t) none)
      by_test true some =
          let out = outermost_of doomed ((c k).levels t) (some_or (undone k t) some) in
          let r = runs_in_levels code b first classes c acts run t in
          let open_now = level_in out.place out.level ((c k).levels t) out.is in
          let here_k = at_place code b first classes c acts run k low in
          inr (elim (doomed_are_undone (levels_in c acts t) (revoked_in c acts t) r.act r.is_run out.place k (suc k) (doomed_at code b first classes c acts run t out.place k low open_now ((tells out.place).0 out.so))
          (subst (λ (core : Core S). In out.place (core.levels t)) (sym here_k) open_now) (next k)) [
            | inl still ↦ less (undone k t) j (subst (λ n. 0 < n) (less_to_undo doomed j ((c k).levels t)) (subst (λ l. 0 < to_undo doomed l) closed
                (some_in doomed out.place ((c (suc k)).levels t) (subst (λ (core : Core S). In out.place (core.levels t)) (at_place code b first classes c acts run (suc k) within) still) out.so)))
            | inr undone_at ↦
                let now = is_now undone_at.0 k undone_at.3 undone_at.4 in
                let notes = r.undoes k undone_at.1 (subst (λ i. r.act i ≡ is_undone undone_at.1) now undone_at.5.undoes) in
                absurd (other notes.th.section (undone_of notes.word) (ap (step_of step) (same_Some (did t step a) (did t (MarkUndone notes.th.section (undone_of notes.word)) StepAnswer.Done) (sym here ∙ notes.notes))))
          ])
