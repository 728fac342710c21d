-- What each open level has written, at each place of a run.
use Rattle.std.proofs.Common.{◌≡◌, inl, inr, ℕ, suc, ◌-◌, ◌<◌, ◌≤◌, Bool, Some, List, [], ◌∷◌, length, refl, sym, ◌∙◌, ap, subst, arith}
use Rattle.std.specs.Prelude.{slice_get}
use Rattle.std.proofs.lemmas.Option.{same_Some, slice_get_within}
use Rattle.op_core.specs.ThreadCode.{Code}
use Rattle.op_core.proofs.PointwiseLemmas.{same_or_other}
use Rattle.heap_words.specs.declared.areas.Area.TheVariants.{Section}
use Rattle.heap_words.specs.Words.{tag_of, tag_section}
use Rattle.section_state.specs.SectionWord.{pinned_of}
use Rattle.step_port.specs.declared.answer.StepAnswer.{StepAnswer}
use Rattle.step_port.specs.declared.answer.StepAnswer.TheVariants.{Done}
use Rattle.step_port.specs.declared.step.Step.{Step}
use Rattle.step_port.specs.declared.step.Step.TheVariants.{OpenSection}
use Rattle.thread_automaton.specs.declared.Bounds.{Bounds}
use Rattle.thread_automaton.specs.ThreadState.{ThreadState, no_mark, nth_or}
use Rattle.thread_automaton.specs.Told.{after_answer, after_quiet}
use Rattle.core_runs.specs.Cores.{Core}
use Rattle.core_runs.specs.Acts.{Act, quiet, did, beside, DidAt, ActAt}
use Rattle.section_laws.specs.LevelRun.{In}
use Rattle.section_laws.specs.Runs.{IsRun}
use Rattle.section_laws.proofs.FactLemmas.{each}
use Rattle.section_laws.proofs.SectionLemmas.{sections_open_once}
use Rattle.section_laws.proofs.RunLemmas.{along}
use Rattle.section_laws.proofs.section_levels.RunLemmas.{counted_at}
use Rattle.written_words.specs.Noted.{heap_of}
use Rattle.written_words.proofs.noted_words.PartLemmas.{notes_since}
use Rattle.written_words.proofs.noted_words.TagLemmas.{section_of_none}
use Rattle.written_words.specs.Writers.{AreLevelsOf, Writers, writers_by, writers}
use Rattle.written_words.specs.Tags.{IsWrittenRun, TagSays}
use Rattle.written_words.specs.Written.{has, HasWrittenSince, LevelsWriteWhatIsLogged, CarriedWordsAreLogged}
use Rattle.written_words.proofs.LevelLemmas.{levels_at, some_levels}
use Rattle.written_words.proofs.PlaceLemmas.{outermost_one, outermost_place, outermost_opens}
use Rattle.written_words.proofs.SinceLemmas.{in_has}
use Rattle.written_words.proofs.settled_words.RoundLemmas as rounds
use Rattle.written_words.proofs.PartLemmas as parts
use Rattle.written_words.proofs.PartLemmas.{kept_on, others_kept}
use Rattle.written_words.proofs.OwnLemmas.{own_kept}
use Rattle.written_words.proofs.RunLemmas.{written_at}

module _ {S : Type 0} (code : Code S) (b : Bounds) (is_thread : ℕ → Bool) (first : S) (classes : ℕ) (c : ℕ → Core S) (acts : List Act) (run : IsWrittenRun code b is_thread first classes c acts) where
  ran : IsRun code b c acts
  ran = run.tagged.monitors.levelled.ordered.run

  abbrev PartsOf : ℕ → ℕ → ThreadState S → Type 0
  PartsOf k t th = parts.PartsOf code b is_thread first classes c acts run.tagged k t th

  abbrev PartsAt : ℕ → Type 0
  PartsAt k = parts.PartsAt code b is_thread first classes c acts run.tagged k

  did_parts : (k t : ℕ) (step : Step) (a : StepAnswer) → slice_get acts k ≡ Some (did t step a) → DidAt code b c k t step a → PartsAt k → PartsAt (suc k)
  did_parts k t step a here at before u uh there = elim (same_or_other u t) [
    | inl own ↦
        let same : after_answer code b at.from step a ≡ uh = same_Some (after_answer code b at.from step a) uh (sym (rounds.own_there code b is_thread first classes c acts run.tagged k t step a here at) ∙ ap (c (suc k)).threads (sym own) ∙ there) in
        subst (λ n. PartsOf (suc k) n uh) (sym own) (subst (PartsOf (suc k) t) same (own_kept code b is_thread first classes c acts run.tagged k t step a here at (written_at code b is_thread first classes c acts run k (up k within)) (before t at.from at.stands)))
    | inr other ↦ others_kept code b is_thread first classes c acts run.tagged k t step a here at (written_at code b is_thread first classes c acts run k (up k within)) before u uh other there
  ]
    where
      within : k < length acts
      within = slice_get_within acts k (did t step a) here

      up : {n : ℕ} (k : ℕ) → k < n → k ≤ n
      up k low = omega (arith, low)

  -- no word and no log changes
  still : (k t : ℕ) (th : ThreadState S) → k < length acts → (c k).threads t ≡ Some th → PartsAt k → (c (suc k)).levels t ≡ (c k).levels t → writers c acts (suc k) ≡ writers c acts k → PartsOf (suc k) t th
  still k t th within there before same_levels same_writers = kept_on code b is_thread first classes c acts run.tagged k t th within there (before t th there) same_levels (ap (λ (w : Writers). w.old t) same_writers)
      (λ live i v is deep p. ap (λ (w : Writers). has v (w.word p)) same_writers)

  act_parts : (k : ℕ) (act : Act) → slice_get acts k ≡ Some act → ActAt code b c k act → PartsAt k → PartsAt (suc k)
  act_parts k (quiet t) here at before u uh there =
      each (λ (z : ThreadState S). PartsOf (suc k) u z) (c k).threads t (after_quiet at.from at.local) u
      (λ own. subst (λ n. PartsOf (suc k) n at.from) (sym own) (still k t at.from (slice_get_within acts k (quiet t) here) at.stands before (ap (λ (core : Core S). core.levels t) at.leads) same_writers))
      (λ vh other at_v. still k u vh (slice_get_within acts k (quiet t) here) at_v before (ap (λ (core : Core S). core.levels u) at.leads) same_writers) uh
      (ap (λ (core : Core S). core.threads u) (sym at.leads) ∙ there)
    where
      same_writers : writers c acts (suc k) ≡ writers c acts k
      same_writers = ap (λ o. writers_by o (c k) (c (suc k)) (writers c acts k)) here
  act_parts k (did t step a) here at before u uh there = did_parts k t step a here at before u uh there
  act_parts k (beside t step a) here at before u uh there =
      still k u uh (slice_get_within acts k (beside t step a) here) (ap (λ (core : Core S). core.threads u) (sym at.leads) ∙ there) before (ap (λ (core : Core S). core.levels u) at.leads)
      (ap (λ o. writers_by o (c k) (c (suc k)) (writers c acts k)) here)

  first_parts : PartsAt 0
  first_parts t th at live i v is deep = absurd (none i (ap (λ l. slice_get l i) (sym (run.tagged.monitors.levelled.closed t)) ∙ is))
    where
      none : (i : ℕ) → slice_get [] i ≡ Some v → ⊥
      none i is = cc

  pub parts_at : (k : ℕ) → k ≤ length acts → PartsAt k
  parts_at k within = along code b c acts ran.leads PartsAt first_parts (λ n act here at before. act_parts n act here at before) k within

pub levels_write_what_is_logged : {S : Type 0} (code : Code S) → LevelsWriteWhatIsLogged code
levels_write_what_is_logged code b is_thread first classes c acts run k t n v th within there live deep low is =
    parts_at code b is_thread first classes c acts run k within t th there live (th.levels - n) v is (at_level (pinned_of ((c k).words (Section th.section))) n th.levels deep low)
  where
    at_level : (p n l : ℕ) → p < n → n ≤ l → p < l - (l - n)
    at_level p n l deep low = omega (arith, deep, low)

-- ---- words that carry a section with nothing pinned

pub carried_words_are_logged : {S : Type 0} (code : Code S) → CarriedWordsAreLogged code
carried_words_are_logged {S} code b is_thread first classes c acts run k t p th within there some live none word carries =
    notes_since p (nth_or no_mark (th.levels - 1) th.marks).noted th.log (sym (part.words p) ∙ in_has found.0 ((writers c acts k).word p) (by_writer ((writers c acts k).word p) refl ((written_at code b is_thread first classes c acts run k within).says p word)))
  where
    counted : length ((c k).levels t) ≡ th.levels
    counted = (counted_at code b first classes c acts run.tagged.monitors.levelled k within).there t th there

    levels_are : AreLevelsOf c acts t th.section ((c k).levels t)
    levels_are = levels_at code b first classes c acts run.tagged.monitors.levelled k within t th there

    some_open : 0 < length ((c k).levels t)
    some_open = some_levels code b first classes c acts run.tagged.monitors.levelled k t th within there some

    found : (q : ℕ) × (slice_get ((c k).levels t) (length ((c k).levels t) - 1) ≡ Some q)
    found = outermost_place ((c k).levels t) some_open

    opens : (x : ℕ) × (slice_get acts found.0 ≡ Some (did t (OpenSection th.section x) Done))
    opens = outermost_opens c acts t th.section found.0 ((c k).levels t) levels_are some_open found.1

    part : HasWrittenSince found.0 (nth_or no_mark (th.levels - 1) th.marks).noted th.log ((writers c acts k).old t) (writers c acts k).word
    part = parts_at code b is_thread first classes c acts run k within t th there live (th.levels - 1) found.0 (subst (λ n. slice_get ((c k).levels t) (n - 1) ≡ Some found.0) counted found.1)
        (deep (pinned_of ((c k).words (Section th.section))) th.levels (length ((c k).levels t)) none some_open counted)
      where
        deep : (p l n : ℕ) → p ≡ 0 → 0 < n → n ≡ l → p < l - (l - 1)
        deep p l n none some same = omega (arith, none, some, same)

    by_writer : (writer : List ℕ) → (writers c acts k).word p ≡ writer → TagSays c acts writer (tag_of (heap_of (c k).words p)) → In found.0 ((writers c acts k).word p)
    by_writer [] is untagged = absurd (no th.section (sym carries ∙ ap tag_section untagged ∙ section_of_none) some)
      where
        no : (s : ℕ) → s ≡ 0 → 0 < s → ⊥
        no s none some = omega (arith, none, some)
    by_writer (x ∷ writer) is says =
        let out = outermost_one c acts says.0 th.section x writer (subst (λ n. AreLevelsOf c acts says.0 n (x ∷ writer)) carries says.1) in
        subst (In found.0) (sym is) (subst (λ n. In n (x ∷ writer)) (sections_open_once code b c acts run.tagged.monitors.levelled.ordered.run out.0 found.0 says.0 t th.section out.1 opens.0 out.2 opens.1) out.3)
