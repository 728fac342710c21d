-- Words after an undoing.
use Rattle.std.proofs.Common.{◌≡◌, inl, inr, ℕ, zero, suc, ◌+◌, ◌-◌, ◌<◌, ◌≤◌, Bool, None, Some, List, [], ◌∷◌, length, take, refl, sym, ◌∙◌, ap, subst, arith}
use Rattle.std.specs.Prelude.{slice_get}
use Rattle.op_core.specs.ThreadCode.{Code}
use Rattle.heap_words.specs.Words.{tag_of, tag_section, tag_level}
use Rattle.section_state.specs.SectionWord.{revoke_of}
use Rattle.step_port.specs.declared.answer.StepAnswer.TheVariants.{Done}
use Rattle.step_port.specs.declared.step.Step.TheVariants.{MarkUndone}
use Rattle.thread_automaton.specs.declared.Bounds.{Bounds}
use Rattle.thread_automaton.specs.declared.Attempt.TheVariants.{Undoing}
use Rattle.thread_automaton.specs.ThreadState.{ThreadState}
use Rattle.core_runs.specs.Cores.{Core}
use Rattle.core_runs.specs.Acts.{Act, did, mover}
use Rattle.core_runs.specs.Revoked.{levels_from, IsDoomed}
use Rattle.section_laws.specs.LevelRun.{is_undone, LevelAt, In, IsDoomedAt}
use Rattle.section_laws.proofs.level_runs.LevelLemmas.{RevokedBefore, revoked_before, open_since, Since, since, keeps_on, is_gone}
use Rattle.section_laws.specs.Runs.{IsRun}
use Rattle.section_laws.specs.Levels.{levels_in, revoked_in, RunsInLevels}
use Rattle.section_laws.proofs.section_levels.LevelLemmas.{runs_in_levels, doomed_at}
use Rattle.section_laws.specs.Layout.{IsWordPlace}
use Rattle.written_words.specs.Noted.{heap_of}
use Rattle.written_words.proofs.noted_words.TagLemmas.{section_of_none}
use Rattle.written_words.specs.Writers.{AreLevelsOf, writers}
use Rattle.written_words.specs.Tags.{IsWrittenRun, TagSays}
use Rattle.written_words.specs.Undone.{UndoneLevelsAreInNoWriter, UndoneLevelsHaveWrittenNothing, UndoneSectionsHaveWrittenNothing}
use Rattle.written_words.proofs.LevelLemmas.{opened_before}
use Rattle.written_words.proofs.PlaceLemmas.{of_thread}
use Rattle.written_words.proofs.TagLemmas.{of_section}
use Rattle.written_words.proofs.RunLemmas.{written_at}
use Rattle.written_words.proofs.OpenLemmas.{open_at}
use Rattle.written_words.proofs.GoneLemmas as gone

-- the first levels are levels
in_levels : (n v : ℕ) (levels : List ℕ) → In v (take n levels) → In v levels
in_levels zero v levels there = absurd there
in_levels (suc n) v [] there = absurd there
in_levels (suc n) v (x ∷ levels) there = elim there [ inl here ↦ inl here | inr more ↦ inr (in_levels n v levels more) ]

module _ {S : Type 0} (code : Code S) (b : Bounds) (is_thread : ℕ → Bool) (first : S) (classes : ℕ) (c : ℕ → Core S) (acts : List Act) (run : IsWrittenRun code b is_thread first classes c acts) where
  ran : IsRun code b c acts
  ran = run.tagged.monitors.levelled.ordered.run

  abbrev runs : (t : ℕ) → RunsInLevels c acts t
  runs t = runs_in_levels code b first classes c acts run.tagged.monitors.levelled t

  here_is : (k : ℕ) → k ≤ length acts → (t : ℕ) → levels_in c acts t k ≡ (c k).levels t
  here_is k low t = gone.here_is code b first classes c acts run.tagged.monitors.levelled k low t

  module _ (k t s w : ℕ) (here : slice_get acts k ≡ Some (did t (MarkUndone s w) Done)) where
    within : k < length acts
    within = gone.within code b first classes c acts run.tagged.monitors.levelled k t s w here

    up : k ≤ length acts
    up = gone.up code b first classes c acts run.tagged.monitors.levelled k t s w here

    abbrev level : ℕ
    level = gone.level code b first classes c acts run.tagged.monitors.levelled k t s w here

    leaves : LevelAt (levels_in c acts t) (revoked_in c acts t) k (is_undone (gone.level code b first classes c acts run.tagged.monitors.levelled k t s w here))
    leaves = gone.leaves code b first classes c acts run.tagged.monitors.levelled k t s w here

    levels_are : AreLevelsOf c acts t s ((c k).levels t)
    levels_are = gone.levels_are code b first classes c acts run.tagged.monitors.levelled k t s w here

    some_open : 0 < length ((c k).levels t)
    some_open = gone.some_open code b first classes c acts run.tagged.monitors.levelled k t s w here

    -- ---- where the run ends with it

    none_doomed : (p v : ℕ) → suc k ≡ length acts → IsWordPlace is_thread (c (suc k)).objects p → tag_section (tag_of (heap_of (c (suc k)).words p)) ≡ s → In v ((writers c acts (suc k)).word p) → IsDoomed c acts v → ⊥
    none_doomed p v last word carries there doomed = by_since (since (levels_in c acts t) (revoked_in c acts t) (runs t).act (runs t).is_run v is_doomed (k - is_doomed.0) (suc k) (sum k is_doomed.0 earlier))
      where
        u : ℕ
        u = mover (slice_get acts v)

        of : (n : ℕ) × AreLevelsOf c acts n (tag_section (tag_of (heap_of (c (suc k)).words p))) ((writers c acts (suc k)).word p) × (tag_level (tag_of (heap_of (c (suc k)).words p)) ≡ length ((writers c acts (suc k)).word p))
        of = of_section c acts ((writers c acts (suc k)).word p) (tag_of (heap_of (c (suc k)).words p)) v ((written_at code b is_thread first classes c acts run (suc k) within).says p word) there

        full : (v : ℕ) (levels : List ℕ) → In v levels → 0 < length levels
        full v [] there = absurd there
        full v (q ∷ levels) there = omega arith

        own : of.0 ≡ t
        own = gone.own_writer code b first classes c acts run.tagged.monitors.levelled k t s w here of.0 ((c k).levels t) ((writers c acts (suc k)).word p) some_open levels_are (full v ((writers c acts (suc k)).word p) there)
            (subst (λ n. AreLevelsOf c acts of.0 n ((writers c acts (suc k)).word p)) carries of.1)

        by_own : u ≡ t
        by_own = (of_thread c acts of.0 (tag_section (tag_of (heap_of (c (suc k)).words p))) v ((writers c acts (suc k)).word p) of.1 there).0 ∙ own

        open_then : In v ((c (suc k)).levels t)
        open_then = subst (λ n. In v ((c (suc k)).levels n)) by_own ((open_at code b is_thread first classes c acts run (suc k) within).word p v there doomed)

        is_doomed : IsDoomedAt (levels_in c acts t) (runs t).act v
        is_doomed = doomed_at code b first classes c acts run.tagged.monitors.levelled t v (suc k) within open_then doomed

        earlier : is_doomed.0 ≤ k
        earlier = before is_doomed.0 k (gone.revokes_within code b first classes c acts run.tagged.monitors.levelled ((runs t).revokes is_doomed.0 is_doomed.1 is_doomed.2).2) last
          where
            before : {n : ℕ} (m k : ℕ) → m < n → suc k ≡ n → m ≤ k
            before m k low is = omega (arith, low, is)

        sum : (k m : ℕ) → m ≤ k → suc k ≡ (k - m) + suc m
        sum k m low = omega (arith, low)

        by_since : Since (levels_in c acts t) (revoked_in c acts t) (runs t).act (runs t).is_run v is_doomed (suc k) → ⊥
        by_since (keeps_on some stays) = no (sym leaves.2 ∙ some)
          where
            no : {n : ℕ} → None ≡ Some n → ⊥
            no is = cc
        by_since (is_gone none) = none (subst (In v) (sym (here_is (suc k) within t)) open_then)

    -- ---- the level and those further inside

    module _ (seen : ℕ) (th : ThreadState S) (stands : (c k).threads t ≡ Some th) (undoing : th.attempt ≡ Undoing seen) (v : ℕ) (inside : In v (levels_from (revoke_of seen) ((c k).levels t))) where
      before : RevokedBefore (levels_in c acts t) (revoked_in c acts t) (runs t).act (runs t).is_run k level
      before = revoked_before (levels_in c acts t) (revoked_in c acts t) (runs t).act (runs t).is_run k level leaves.1

      abbrev doomed_there : IsDoomedAt (levels_in c acts t) (runs t).act v
      doomed_there = (
        before.place,
        level,
        before.act_is,
        subst (λ l. In v (levels_from level l)) before.stays
            (subst (λ l. In v (levels_from level l)) (sym (here_is k up t))
            (subst (λ n. In v (levels_from n ((c k).levels t))) (sym (gone.undone_level code b first classes c acts run.tagged.monitors.levelled k t s w here seen th stands undoing)) inside)),
      )

      was_open : In v ((c k).levels t)
      was_open = in_levels (suc (length ((c k).levels t)) - revoke_of seen) v ((c k).levels t) inside

      in_none : (j p : ℕ) → k < j → j ≤ length acts → In v ((writers c acts j).word p) → ⊥
      in_none j p later low there = by_since (since (levels_in c acts t) (revoked_in c acts t) (runs t).act
          (runs t).is_run v doomed_there (k - before.place) (suc k) (sum k before.place before.earlier))
        where
          sum : (k m : ℕ) → m < k → suc k ≡ (k - m) + suc m
          sum k m low = omega (arith, low)

          own : mover (slice_get acts v) ≡ t
          own = (of_thread c acts t s v ((c k).levels t) levels_are was_open).0

          now : In v ((c j).levels t)
          now = subst (λ n. In v ((c j).levels n)) own ((open_at code b is_thread first classes c acts run j low).word p v there (gone.doomed_of code b first classes c acts run.tagged.monitors.levelled t v doomed_there))

          next : (v k : ℕ) → v < k → v < suc k
          next v k low = omega (arith, low)

          from : (k j : ℕ) → k < j → suc k ≤ j
          from k j later = omega (arith, later)

          open_then : In v (levels_in c acts t (suc k))
          open_then = open_since (levels_in c acts t) (revoked_in c acts t) (runs t).act
              (runs t).is_run v j (suc k) (next v k (opened_before code b first classes c acts run.tagged.monitors.levelled k t v up was_open)) (from k j later)
              (subst (In v) (sym (here_is j low t)) now)

          by_since : Since (levels_in c acts t) (revoked_in c acts t) (runs t).act (runs t).is_run v doomed_there (suc k) → ⊥
          by_since (keeps_on some stays) = no (sym leaves.2 ∙ some)
            where
              no : {n : ℕ} → None ≡ Some n → ⊥
              no is = cc
          by_since (is_gone none) = none open_then

    -- ---- where it undoes the section as a whole

    module _ (seen : ℕ) (th : ThreadState S) (stands : (c k).threads t ≡ Some th) (undoing : th.attempt ≡ Undoing seen) (whole : revoke_of seen ≡ 1) where
      -- the outermost level of the section
      abbrev outer : ℕ
      outer = gone.q code b first classes c acts run.tagged.monitors.levelled k t s w here seen th stands undoing whole

      -- it is in no writer later
      never : (j p : ℕ) → k < j → j ≤ length acts → In outer ((writers c acts j).word p) → ⊥
      never j p later low there = gone.closed_later code b first classes c acts run.tagged.monitors.levelled k t s w here seen th stands undoing whole j later low
          (subst (λ n. In outer ((c j).levels n)) (ap mover (gone.q_opens code b first classes c acts run.tagged.monitors.levelled k t s w here seen th stands undoing whole).1) ((open_at code b is_thread first classes c acts run j low).word p outer there (gone.doomed code b first classes c acts run.tagged.monitors.levelled k t s w here seen th stands undoing whole)))

      none_carries : (j p : ℕ) → k < j → j ≤ length acts → IsWordPlace is_thread (c j).objects p → tag_section (tag_of (heap_of (c j).words p)) ≡ s → ⊥
      none_carries j p later low word carries = by_writer ((writers c acts j).word p) refl ((written_at code b is_thread first classes c acts run j low).says p word)
        where
          by_writer : (writer : List ℕ) → (writers c acts j).word p ≡ writer → TagSays c acts writer (tag_of (heap_of (c j).words p)) → ⊥
          by_writer [] is none = no s (sym carries ∙ ap tag_section none ∙ section_of_none) (gone.some_section code b first classes c acts run.tagged.monitors.levelled k t s w here)
            where
              no : (s : ℕ) → s ≡ 0 → 0 < s → ⊥
              no s none some = omega (arith, none, some)
          by_writer (x ∷ writer) is says =
              let out = gone.outermost_there code b first classes c acts run.tagged.monitors.levelled k t s w here seen th stands undoing whole says.0 x writer (subst (λ n. AreLevelsOf c acts says.0 n (x ∷ writer)) carries says.1) in
              never j p later low (subst (In outer) (sym is) out.1)

pub undone_levels_have_written_nothing : {S : Type 0} (code : Code S) → UndoneLevelsHaveWrittenNothing code
undone_levels_have_written_nothing code b is_thread first classes c acts run k t s w p v last here word carries there doomed =
    none_doomed code b is_thread first classes c acts run k t s w here p v last word carries there doomed

pub undone_sections_have_written_nothing : {S : Type 0} (code : Code S) → UndoneSectionsHaveWrittenNothing code
undone_sections_have_written_nothing code b is_thread first classes c acts run k j t s w seen p th here stands undoing whole later low word carries =
    none_carries code b is_thread first classes c acts run k t s w here seen th stands undoing whole j p later low word carries

pub undone_levels_are_in_no_writer : {S : Type 0} (code : Code S) → UndoneLevelsAreInNoWriter code
undone_levels_are_in_no_writer code b is_thread first classes c acts run k j t s w seen p v th here stands undoing inside later low there =
    in_none code b is_thread first classes c acts run k t s w here seen th stands undoing v inside j p later low there
