-- Levels in writers that are revoked are open, at each place of a run.
use Rattle.std.proofs.Common.{◌≡◌, inl, inr, ℕ, zero, suc, ◌<◌, ◌≤◌, Bool, List, [], ◌∷◌, length, take, drop, sym, ◌∙◌, ap, subst}
use Rattle.std.specs.Prelude.{Some, slice_get}
use Rattle.std.proofs.lemmas.Option.{slice_get_within}
use Rattle.op_core.specs.ThreadCode.{Code}
use Rattle.op_core.proofs.PointwiseLemmas.{same_or_other}
use Rattle.step_port.specs.declared.answer.StepAnswer.{StepAnswer}
use Rattle.step_port.specs.declared.step.Step.{Step}
use Rattle.thread_automaton.specs.declared.Bounds.{Bounds}
use Rattle.thread_automaton.specs.ThreadState.{ThreadState, nth_or}
use Rattle.thread_automaton.specs.NextMove.{word_place}
use Rattle.thread_automaton.specs.Told.{after_answer}
use Rattle.core_runs.specs.Cores.{Core}
use Rattle.core_runs.specs.Acts.{Act, quiet, did, beside, DidAt, ActAt}
use Rattle.section_laws.specs.LevelRun.{In}
use Rattle.section_laws.specs.Runs.{IsRun}
use Rattle.section_laws.proofs.RunLemmas.{along}
use Rattle.written_words.proofs.noted_words.TurnLemmas.{SetsNoWord}
use Rattle.written_words.proofs.settled_words.TurnLemmas.{calm, opens, closes, ends_all, undone, writes, puts}
use Rattle.written_words.specs.Writers.{writers_by, writers}
use Rattle.written_words.specs.Tags.{IsWrittenRun}
use Rattle.written_words.specs.Undone.{DoomedWritersAreOpen}
use Rattle.written_words.proofs.LevelLemmas.{levels_at}
use Rattle.written_words.proofs.PlaceLemmas.{of_thread}
use Rattle.written_words.proofs.settled_words.RoundLemmas as rounds
use Rattle.written_words.proofs.StepLemmas as steps
use Rattle.written_words.proofs.WrittenLemmas as written
use Rattle.written_words.proofs.RunLemmas.{written_at}
use Rattle.written_words.proofs.DoomedLemmas as doomed
use Rattle.written_words.proofs.DoomedLemmas.{word_keeps, old_keeps}

module _ {S : Type 0} (code : Code S) (b : Bounds) (is_thread : ℕ → Bool) (first : S) (classes : ℕ) (c : ℕ → Core S) (acts : List Act) (run : IsWrittenRun code b is_thread first classes c acts) where
  ran : IsRun code b c acts
  ran = run.tagged.monitors.levelled.ordered.run

  abbrev AreOpen : ℕ → List ℕ → Type 0
  AreOpen k levels = doomed.AreOpen code b is_thread first classes c acts run k levels

  abbrev AllOpen : ℕ → List (List ℕ) → Type 0
  AllOpen k old = doomed.AllOpen code b is_thread first classes c acts run k old

  pub record OpenAt (k : ℕ) : Type 0 where
    pub word : (p : ℕ) → AreOpen k ((writers c acts k).word p)
    pub old : (t : ℕ) → AllOpen k ((writers c acts k).old t)

  all_take : (n k : ℕ) (old : List (List ℕ)) → AllOpen k old → AllOpen k (take n old)
  all_take zero k old open_now = tt
  all_take (suc n) k [] open_now = tt
  all_take (suc n) k (o ∷ old) open_now = (open_now.0, all_take n k old open_now.1)

  all_drop : (k : ℕ) (old : List (List ℕ)) → AllOpen k old → AllOpen k (drop 1 old)
  all_drop k [] open_now = tt
  all_drop k (o ∷ old) open_now = open_now.1

  all_first : (k : ℕ) (old : List (List ℕ)) → AllOpen k old → AreOpen k (nth_or [] 0 old)
  all_first k [] open_now v there = absurd there
  all_first k (o ∷ old) open_now v there = open_now.0 v there

  module _ (k t : ℕ) (step : Step) (a : StepAnswer) (here : slice_get acts k ≡ Some (did t step a)) (at : DidAt code b c k t step a) (before : OpenAt k) where
    within : k < length acts
    within = rounds.within code b is_thread first classes c acts run.tagged k t step a here at

    up : k ≤ length acts
    up = rounds.up code b is_thread first classes c acts run.tagged k t step a here at

    abbrev y : ThreadState S
    y = after_answer code b at.from step a

    so : written.WrittenAt code b is_thread first classes c acts run.tagged k
    so = written_at code b is_thread first classes c acts run k up

    word_then : (p : ℕ) → AreOpen (suc k) ((writers c acts k).word p)
    word_then p = word_keeps code b is_thread first classes c acts run k p within (before.word p)

    old_then : (u : ℕ) → AllOpen (suc k) ((writers c acts k).old u)
    old_then u = old_keeps code b is_thread first classes c acts run k u within (before.old u)

    all_old : AllOpen (suc k) ((writers c acts (suc k)).old t) → (u : ℕ) → AllOpen (suc k) ((writers c acts (suc k)).old u)
    all_old own u = elim (same_or_other u t) [
      | inl same ↦ subst (λ n. AllOpen (suc k) ((writers c acts (suc k)).old n)) (sym same) own
      | inr other ↦ subst (AllOpen (suc k)) (sym (steps.others_old code b is_thread first classes c acts run.tagged k t step a here at u other)) (old_then u)
    ]

    -- the levels that the thread has open stay so with a write
    own_open : (c (suc k)).levels t ≡ (c k).levels t → AreOpen (suc k) ((c k).levels t)
    own_open same v there is_doomed = subst (In v) (sym (ap (c (suc k)).levels (of_thread c acts t at.from.section v ((c k).levels t) (levels_at code b first classes c acts run.tagged.monitors.levelled k up t at.from at.stands) there).0 ∙ same)) there

    none_set : SetsNoWord step a → OpenAt (suc k)
    none_set none = record {
      word = λ p. subst (AreOpen (suc k)) (sym (written.word_same code b is_thread first classes c acts run.tagged k t step a here at so none p)) (word_then p);
      old = all_old (subst (AllOpen (suc k)) (sym (written.old_same code b is_thread first classes c acts run.tagged k t step a here at so none)) (all_take (length y.log) (suc k) ((writers c acts k).old t) (old_then t)));
    }

    did_open : OpenAt (suc k)
    did_open = elim (rounds.turn code b is_thread first classes c acts run.tagged k t step a here at) [
      | calm none unseen same leaves ↦ none_set none
      | opens silents held none unseen same leaves ↦ none_set none
      | closes n none unseen other same leaves ↦ none_set none
      | ends_all none unseen other same ↦ none_set none
      | undone w s x none unseen undoing is noted same leaves ↦ none_set none
      | writes r i x old wants sets done seen same log marks ↦ record {
        word = λ p. elim (same_or_other p (word_place r i)) [
          | inl here_p ↦ subst (λ n. AreOpen (suc k) ((writers c acts (suc k)).word n)) (sym here_p)
              (subst (AreOpen (suc k)) (sym (written.written_here code b is_thread first classes c acts run.tagged k t step a here at so r i x old wants sets done log))
              (own_open (rounds.own_levels code b is_thread first classes c acts run.tagged k t step a here at ∙ same)))
          | inr apart ↦ subst (AreOpen (suc k)) (sym (written.unwritten_there code b is_thread first classes c acts run.tagged k t step a here at so r i x old wants sets done log p apart)) (word_then p)
        ];
        old = all_old (subst (AllOpen (suc k)) (sym (written.old_more code b is_thread first classes c acts run.tagged k t step a here at so r i x old wants sets done log))
            (all_take (length y.log) (suc k) ((writers c acts k).word (word_place r i) ∷ (writers c acts k).old t) (word_then (word_place r i), old_then t)));
      }
      | puts w q o undoing sets does unseen same log marks ↦ record {
        word = λ p. elim (same_or_other p q) [
          | inl here_p ↦ subst (λ n. AreOpen (suc k) ((writers c acts (suc k)).word n)) (sym here_p)
              (subst (AreOpen (suc k)) (sym (written.put_here code b is_thread first classes c acts run.tagged k t step a here at so w q o sets does log)) (all_first (suc k) ((writers c acts k).old t) (old_then t)))
          | inr apart ↦ subst (AreOpen (suc k)) (sym (written.put_nowhere code b is_thread first classes c acts run.tagged k t step a here at so w q o sets does log p apart)) (word_then p)
        ];
        old = all_old (subst (AllOpen (suc k)) (sym (written.old_less code b is_thread first classes c acts run.tagged k t step a here at so w q o sets does log)) (all_drop (suc k) ((writers c acts k).old t) (old_then t)));
      }
    ]

  -- no writer changes with a silent move, or with a step beside those of threads
  still : (k : ℕ) → k < length acts → writers c acts (suc k) ≡ writers c acts k → OpenAt k → OpenAt (suc k)
  still k within same before = record {
    word = λ p. subst (λ w. AreOpen (suc k) (w.word p)) (sym same) (word_keeps code b is_thread first classes c acts run k p within (before.word p));
    old = λ t. subst (λ w. AllOpen (suc k) (w.old t)) (sym same) (old_keeps code b is_thread first classes c acts run k t within (before.old t));
  }

  act_open : (k : ℕ) (act : Act) → slice_get acts k ≡ Some act → ActAt code b c k act → OpenAt k → OpenAt (suc k)
  act_open k (quiet t) here at before = still k (slice_get_within acts k (quiet t) here) (ap (λ o. writers_by o (c k) (c (suc k)) (writers c acts k)) here) before
  act_open k (did t step a) here at before = did_open k t step a here at before
  act_open k (beside t step a) here at before = still k (slice_get_within acts k (beside t step a) here) (ap (λ o. writers_by o (c k) (c (suc k)) (writers c acts k)) here) before

  pub open_at : (k : ℕ) → k ≤ length acts → OpenAt k
  open_at k within = along code b c acts ran.leads OpenAt (record { word = λ p v there. absurd there; old = λ t. tt }) (λ n act here at before. act_open n act here at before) k within

pub doomed_writers_are_open : {S : Type 0} (code : Code S) → DoomedWritersAreOpen code
doomed_writers_are_open code b is_thread first classes c acts run k p v within there is_doomed = (open_at code b is_thread first classes c acts run k within).word p v there is_doomed
