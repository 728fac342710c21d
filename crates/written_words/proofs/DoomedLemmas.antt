-- Levels that are revoked, and the writers of words, along a run.
use Rattle.std.proofs.Common.{◌≡◌, ◌≢◌, ◌⊎◌, inl, inr, ℕ, suc, ◌-◌, ◌<◌, ◌≤◌, Bool, false, true≢false, Some, List, [], ◌∷◌, length, refl, sym, ◌∙◌, ap, subst, arith}
use Rattle.std.specs.Prelude.{nat_le, slice_get}
use Rattle.std.proofs.lemmas.Option.{same_Some}
use Rattle.op_core.specs.ThreadCode.{Code}
use Rattle.op_core.proofs.PointwiseLemmas.{same_or_other}
use Rattle.heap_words.specs.declared.areas.Area.TheVariants.{Section}
use Rattle.heap_words.specs.Words.{tag_of, tag_section}
use Rattle.section_state.specs.declared.State.TheVariants.{Revoking}
use Rattle.section_state.specs.SectionWord.{number_of, state_of, pinned_of, revoke_of, undone_of}
use Rattle.write_log.specs.declared.Noted.{Noted}
use Rattle.step_port.specs.declared.answer.StepAnswer.TheVariants.{Done}
use Rattle.step_port.specs.declared.step.Step.{Step}
use Rattle.step_port.specs.declared.step.Step.TheVariants.{MarkUndone}
use Rattle.thread_automaton.specs.declared.Bounds.{Bounds}
use Rattle.thread_automaton.specs.declared.Move.TheVariants.{Make}
use Rattle.thread_automaton.specs.ThreadState.{ThreadState, no_mark, nth_or, mark_of, noted_since, from_level}
use Rattle.thread_automaton.specs.NextMove.{deepened_since, undo_next, move_of}
use Rattle.automaton_rows.specs.Fits.{AttemptFits}
use Rattle.core_runs.specs.Cores.{Core}
use Rattle.core_runs.specs.Acts.{Act, did, DidAt, mover}
use Rattle.core_runs.specs.Revoked.{IsDoomed}
use Rattle.section_laws.specs.LevelRun.{In, GoesBackAt}
use Rattle.section_laws.proofs.level_runs.LevelLemmas.{doomed_are_undone}
use Rattle.section_laws.specs.Settled.{notes}
use Rattle.section_laws.specs.Runs.{IsRun}
use Rattle.section_laws.proofs.WordLemmas.{state_is}
use Rattle.section_laws.proofs.DeedLemmas.{above, makes_it}
use Rattle.section_laws.proofs.RunLemmas.{act_at, facts_at}
use Rattle.section_laws.specs.OwnWords.{OwnWord, SeesUndoing}
use Rattle.section_laws.proofs.own_sections.SeenLemmas.{undoing_seen}
use Rattle.section_laws.proofs.own_sections.MoveLemmas.{own_at, own_words_are_known}
use Rattle.section_laws.specs.Levels.{levels_in, revoked_in, UndoesAt, RunsInLevels}
use Rattle.section_laws.proofs.section_levels.RunLemmas.{counted_at}
use Rattle.section_laws.proofs.section_levels.LevelLemmas.{at_place, runs_in_levels, doomed_at}
use Rattle.section_laws.specs.OpenSections.{IsLiveOrRevoking}
use Rattle.written_words.specs.Noted.{heap_of}
use Rattle.written_words.proofs.settled_words.TurnLemmas.{none_noted}
use Rattle.written_words.specs.Writers.{AreLevelsOf, log_of, writers}
use Rattle.written_words.specs.Tags.{IsWrittenRun, TagSays, OldWordsSay}
use Rattle.written_words.specs.Written.{has, HasWrittenSince}
use Rattle.written_words.proofs.LevelLemmas.{levels_at}
use Rattle.written_words.proofs.PlaceLemmas.{comes_before, is_there, comes_behind, order, place_in, index_of, of_thread, outside, behind_at}
use Rattle.written_words.proofs.TagLemmas.{of_section}
use Rattle.written_words.proofs.SinceLemmas.{in_has, all_logged, AllLack, old_lack}
use Rattle.written_words.proofs.WrittenLemmas.{levels_before}
use Rattle.written_words.proofs.PartLemmas.{not_old}
use Rattle.written_words.proofs.RunLemmas.{written_at}
use Rattle.written_words.proofs.LoggedLemmas.{parts_at}

module _ {S : Type 0} (code : Code S) (b : Bounds) (is_thread : ℕ → Bool) (first : S) (classes : ℕ) (c : ℕ → Core S) (acts : List Act) (run : IsWrittenRun code b is_thread first classes c acts) where
  ran : IsRun code b c acts
  ran = run.tagged.monitors.levelled.ordered.run

  abbrev runs : (t : ℕ) → RunsInLevels c acts t
  runs t = runs_in_levels code b first classes c acts run.tagged.monitors.levelled t

  here_is : (k : ℕ) → k ≤ length acts → (t : ℕ) → levels_in c acts t k ≡ (c k).levels t
  here_is k low t = ap (λ (core : Core S). core.levels t) (at_place code b first classes c acts run.tagged.monitors.levelled k low)

  upto : (k : ℕ) → k < length acts → k ≤ length acts
  upto k within = omega (arith, within)

  -- ---- an act that marks a level as undone

  -- With act number k thread t marks the level q as undone: it is open, isn't pinned, and nothing is logged since it opened.
  pub record Undone (k t : ℕ) : Type 0 where
    pub th : ThreadState S
    pub stands : (c k).threads t ≡ Some th
    pub place : ℕ
    pub number : ℕ
    pub is : slice_get ((c k).levels t) number ≡ Some place
    pub live : IsLiveOrRevoking ((c k).words (Section th.section))
    pub deep : pinned_of ((c k).words (Section th.section)) < th.levels - number
    pub none : noted_since (nth_or no_mark number th.marks).noted th.log ≡ []

  undone_at : (k t n q : ℕ) (within : k < length acts) → GoesBackAt (levels_in c acts t) (runs t).act k n q → (u : Undone k t) × (u.place ≡ q)
  undone_at k t n q within back = (
    record {
      th = th;
      stands = undoes.stands;
      place = q;
      number = th.levels - revoke_of undoes.word;
      is = ap (slice_get ((c k).levels t)) (ap (λ l. l - revoke_of undoes.word) (sym counted) ∙ ap (λ m. length ((c k).levels t) - m) (sym undoes.level)) ∙ opened;
      live = inr state;
      deep = deeper (pinned_of ((c k).words (Section th.section))) (revoke_of undoes.word) th.levels pinned seen.1;
      none = none_noted th.section undoes.word th.section (undone_of undoes.word) (noted_since (mark_of th (revoke_of undoes.word)).noted th.log) (deepened_since (mark_of th (revoke_of undoes.word)) th.held)
          (from_level (revoke_of undoes.word) th.held) does;
    },
    refl,
  )
    where
      undoes : UndoesAt c acts k t n
      undoes = (runs t).undoes k n back.undoes

      th : ThreadState S
      th = undoes.th

      counted : length ((c k).levels t) ≡ undoes.th.levels
      counted = (counted_at code b first classes c acts run.tagged.monitors.levelled k (upto k within)).there t undoes.th undoes.stands

      opened : slice_get ((c k).levels t) (length ((c k).levels t) - n) ≡ Some q
      opened = ap (λ l. slice_get l (length l - n)) (sym (here_is k (upto k within) t)) ∙ back.opened

      at : DidAt code b c k t (MarkUndone undoes.th.section (undone_of undoes.word)) Done
      at = act_at code b c acts k (did t (MarkUndone undoes.th.section (undone_of undoes.word)) Done) ran.leads undoes.notes

      same : at.from ≡ undoes.th
      same = same_Some at.from undoes.th (sym at.stands ∙ undoes.stands)

      seen : (undoes.th.pinned < revoke_of undoes.word) × (revoke_of undoes.word ≤ undoes.th.levels)
      seen = undoing_seen code undoes.th (c k).words (own_at code b c acts ran run.tagged.monitors.levelled.ordered.in_bits k (upto k within) t undoes.th undoes.stands)
          ((facts_at code b c acts ran k (upto k within)).fit t undoes.th undoes.stands) undoes.word undoes.undoing

      does : undo_next undoes.th undoes.word (revoke_of undoes.word) ≡ MarkUndone undoes.th.section (undone_of undoes.word)
      does = same_step (subst (λ g. move_of code undoes.th (code.next undoes.th.local) g ≡ Make (MarkUndone undoes.th.section (undone_of undoes.word))) undoes.undoing
          (subst (λ (x : ThreadState S). move_of code x (code.next x.local) x.attempt ≡ Make (MarkUndone undoes.th.section (undone_of undoes.word))) same
          (makes_it at.from.over (nat_le b.limits.turns at.from.counted) _ (MarkUndone undoes.th.section (undone_of undoes.word)) at.move)))
        where
          same_step : {m n : Step} → Make m ≡ Make n → m ≡ n
          same_step is = cc

      some : 0 < undoes.th.section
      some = above undoes.th.section (subst (AttemptFits undoes.th (code.next undoes.th.local)) undoes.undoing ((facts_at code b c acts ran k (upto k within)).fit t undoes.th undoes.stands).attempt).section

      own : OwnWord undoes.th ((c k).words (Section undoes.th.section)) × SeesUndoing undoes.th.attempt ((c k).words (Section undoes.th.section))
      own = own_words_are_known code b c acts ran run.tagged.monitors.levelled.ordered.in_bits k t undoes.th (upto k within) undoes.stands some

      sees : (c k).words (Section undoes.th.section) ≡ undoes.word
      sees = subst (λ g. SeesUndoing g ((c k).words (Section undoes.th.section))) undoes.undoing own.1

      state : state_of ((c k).words (Section undoes.th.section)) ≡ number_of Revoking
      state = ap state_of sees ∙ state_is Revoking undoes.word (subst (AttemptFits undoes.th (code.next undoes.th.local)) undoes.undoing ((facts_at code b c acts ran k (upto k within)).fit t undoes.th undoes.stands).attempt).revoked

      pinned : pinned_of ((c k).words (Section undoes.th.section)) < revoke_of undoes.word
      pinned = subst (λ v. pinned_of ((c k).words (Section undoes.th.section)) < revoke_of v) sees (own.0.revoking state).0

      deeper : (p r l : ℕ) → p < r → r ≤ l → p < l - (l - r)
      deeper p r l deep low = omega (arith, deep, low)

  -- It has written no word, and no old word that is logged.
  module _ (k t : ℕ) (within : k < length acts) (u : Undone k t) where
    part : HasWrittenSince u.place (nth_or no_mark u.number u.th.marks).noted u.th.log ((writers c acts k).old t) (writers c acts k).word
    part = parts_at code b is_thread first classes c acts run k (upto k within) t u.th u.stands u.live u.number u.place u.is u.deep

    word_lacks : (p : ℕ) → has u.place ((writers c acts k).word p) ≡ false
    word_lacks p = part.words p ∙ ap (notes p) u.none

    others_lack : (w : ℕ) → t ≢ w → (log : List Noted) (old : List (List ℕ)) → OldWordsSay c acts (c k).words w log old → AllLack u.place old
    others_lack w other [] [] say = tt
    others_lack w other [] (o ∷ old) say = absurd say
    others_lack w other (x ∷ log) [] say = absurd say
    others_lack w other (x ∷ log) (o ∷ old) say = (
      not_old code b is_thread first classes c acts run.tagged k t u.number u.place u.th (upto k within) u.stands u.live u.is u.deep w other o (tag_of x.old) say.0,
      others_lack w other log old say.1,
    )

    old_lacks : (w : ℕ) → AllLack u.place ((writers c acts k).old w)
    old_lacks w = elim (same_or_other t w) [
      | inl same ↦ subst (λ n. AllLack u.place ((writers c acts k).old n)) same (old_lack u.place (nth_or no_mark u.number u.th.marks).noted u.th.log ((writers c acts k).old t)
          (all_logged (nth_or no_mark u.number u.th.marks).noted u.th.log u.none) part.olds)
      | inr other ↦ others_lack w other (log_of ((c k).threads w)) ((writers c acts k).old w) ((written_at code b is_thread first classes c acts run k (upto k within)).old w)
    ]

    -- but it is in each writer in which a level is that was open and isn't further out
    also_there : (v s : ℕ) (writer : List ℕ) → u.place ≤ v → In v ((c k).levels t) → AreLevelsOf c acts t s writer → In v writer → In u.place writer
    also_there v s writer low open_now are there = by_place found.0 found.1
      where
        levels_are : AreLevelsOf c acts t u.th.section ((c k).levels t)
        levels_are = levels_at code b first classes c acts run.tagged.monitors.levelled k (upto k within) t u.th u.stands

        found : (i : ℕ) × (slice_get ((c k).levels t) i ≡ Some v)
        found = index_of v ((c k).levels t) open_now

        earlier : u.place ≤ length acts
        earlier = before u.place k (levels_before code b is_thread first classes c acts run.tagged k t (upto k within) u.place (place_in u.number u.place ((c k).levels t) u.is)) within
          where
            before : {n : ℕ} (p k : ℕ) → p < k → k < n → p ≤ n
            before p k low within = omega (arith, low, within)

        no : (v p : ℕ) → v < p → p ≤ v → ⊥
        no v p is low = omega (arith, is, low)

        by_place : (i : ℕ) → slice_get ((c k).levels t) i ≡ Some v → In u.place writer
        by_place i is = elim (order i u.number) [
          | comes_before less ↦ outside c acts t s v writer are there u.place (behind_at c acts t u.th.section i v u.place ((c k).levels t) levels_are is u.number less u.is)
          | is_there same ↦ subst (λ n. In n writer) (same_Some v u.place (sym is ∙ ap (slice_get ((c k).levels t)) same ∙ u.is)) there
          | comes_behind less ↦ absurd (no v u.place (levels_before code b is_thread first classes c acts run.tagged u.place t earlier v
              (behind_at c acts t u.th.section u.number u.place v ((c k).levels t) levels_are u.is i less is)) low)
        ]

  -- ---- levels that are revoked

  abbrev pub AreOpen : ℕ → List ℕ → Type 0
  AreOpen k levels = (v : ℕ) → In v levels → IsDoomed c acts v → In v ((c k).levels (mover (slice_get acts v)))

  abbrev pub AllOpen : ℕ → List (List ℕ) → Type 0
  AllOpen k [] = Unit {0}
  AllOpen k (o ∷ old) = AreOpen k o × AllOpen k old

  -- such a level stays open with an act, or one that isn't further in is marked as undone
  stays_open : (k v : ℕ) → k < length acts → In v ((c k).levels (mover (slice_get acts v))) → IsDoomed c acts v
      → In v ((c (suc k)).levels (mover (slice_get acts v))) ⊎ ((u : Undone k (mover (slice_get acts v))) × (u.place ≤ v))
  stays_open k v within there doomed = elim (doomed_are_undone (levels_in c acts (mover (slice_get acts v))) (revoked_in c acts (mover (slice_get acts v))) (runs (mover (slice_get acts v))).act (runs (mover (slice_get acts v))).is_run v k (suc k)
      (doomed_at code b first classes c acts run.tagged.monitors.levelled (mover (slice_get acts v)) v k (upto k within) there doomed) (subst (In v) (sym (here_is k (upto k within) (mover (slice_get acts v)))) there) (next k)) [
        | inl still ↦ inl (subst (In v) (here_is (suc k) within (mover (slice_get acts v))) still)
        | inr gone ↦
            let back = undone_at k (mover (slice_get acts v)) gone.1 gone.2 within (subst (λ i. GoesBackAt (levels_in c acts (mover (slice_get acts v))) (runs (mover (slice_get acts v))).act i gone.1 gone.2) (is_now gone.0 k gone.3 gone.4) gone.5) in
            inr (back.0, subst (λ n. n ≤ v) (sym back.1) gone.6)
      ]
    where
      next : (k : ℕ) → k ≤ suc k
      next k = omega arith

      is_now : (i k : ℕ) → k ≤ i → i < suc k → i ≡ k
      is_now i k up low = omega (arith, up, low)

  -- so no writer has such a level then that is marked as undone
  writer_keeps : (k : ℕ) (writer : List ℕ) (tag : ℕ) → k < length acts → TagSays c acts writer tag → ((t : ℕ) (u : Undone k t) → has u.place writer ≡ false) → AreOpen k writer → AreOpen (suc k) writer
  writer_keeps k writer tag within says lacks open_now v there doomed = elim (stays_open k v within (open_now v there doomed) doomed) [
    | inl still ↦ still
    | inr gone ↦
        let of = of_section c acts writer tag v says there in
        let own = (of_thread c acts of.0 (tag_section tag) v writer of.1 there).0 in
        absurd (true≢false (sym (in_has gone.0.place writer (also_there k (mover (slice_get acts v)) within gone.0 v (tag_section tag) writer gone.1 (open_now v there doomed)
        (subst (λ n. AreLevelsOf c acts n (tag_section tag) writer) (sym own) of.1) there)) ∙ lacks (mover (slice_get acts v)) gone.0))
  ]

  pub word_keeps : (k p : ℕ) → k < length acts → AreOpen k ((writers c acts k).word p) → AreOpen (suc k) ((writers c acts k).word p)
  word_keeps k p within open_now = elim ((written_at code b is_thread first classes c acts run k (upto k within)).placed p) [
    | inl none ↦ λ v there. absurd (subst (In v) none there)
    | inr word ↦ writer_keeps k ((writers c acts k).word p) (tag_of (heap_of (c k).words p)) within ((written_at code b is_thread first classes c acts run k (upto k within)).says p word) (λ t u. word_lacks k t within u p) open_now
  ]

  all_keep : (k w : ℕ) (log : List Noted) (old : List (List ℕ)) → k < length acts → OldWordsSay c acts (c k).words w log old → ((t : ℕ) (u : Undone k t) → AllLack u.place old) → AllOpen k old → AllOpen (suc k) old
  all_keep k w [] [] within say lacks open_now = tt
  all_keep k w [] (o ∷ old) within say lacks open_now = absurd say
  all_keep k w (x ∷ log) [] within say lacks open_now = absurd say
  all_keep k w (x ∷ log) (o ∷ old) within say lacks open_now = (
    writer_keeps k o (tag_of x.old) within say.0.says (λ t u. (lacks t u).0) open_now.0,
    all_keep k w log old within say.1 (λ t u. (lacks t u).1) open_now.1,
  )

  pub old_keeps : (k w : ℕ) → k < length acts → AllOpen k ((writers c acts k).old w) → AllOpen (suc k) ((writers c acts k).old w)
  old_keeps k w within open_now = all_keep k w (log_of ((c k).threads w)) ((writers c acts k).old w) within ((written_at code b is_thread first classes c acts run k (upto k within)).old w) (λ t u. old_lacks k t within u w) open_now
