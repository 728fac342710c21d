-- What tags say of writers, at each place of a run.
use Rattle.std.proofs.Common.{◌≡◌, ◌⊎◌, inl, inr, ℕ, suc, ◌<◌, ◌≤◌, Bool, false, Option, None, Some, List, [], length, refl, sym, ◌∙◌, ap, subst, arith}
use Rattle.std.specs.Prelude.{nat_lt, slice_get}
use Rattle.std.proofs.lemmas.Grind.{common_steps}
use Rattle.std.proofs.lemmas.Bool.Decides.{nat_tests}
use Rattle.std.proofs.lemmas.Option.{slice_get_within}
use Rattle.op_core.specs.ThreadCode.{Code}
use Rattle.op_core.specs.OrdinaryState.{set_at}
use Rattle.op_core.proofs.PointwiseLemmas.{same_or_other, set_at-hit, set_at-other}
use Rattle.heap_words.specs.Words.{tag_of}
use Rattle.write_log.specs.declared.Noted.{Noted}
use Rattle.step_port.specs.declared.answer.StepAnswer.{StepAnswer}
use Rattle.step_port.specs.declared.step.Step.{Step}
use Rattle.thread_automaton.specs.declared.Bounds.{Bounds}
use Rattle.thread_automaton.specs.ThreadState.{ThreadState, Mark, is_open}
use Rattle.thread_automaton.specs.Told.{after_answer, after_quiet}
use Rattle.core_runs.specs.Cores.{Core}
use Rattle.core_runs.specs.Acts.{Act, quiet, did, beside, DidAt, ActAt}
use Rattle.section_laws.specs.LevelRun.{In}
use Rattle.section_laws.specs.Runs.{IsRun}
use Rattle.section_laws.proofs.RunLemmas.{along, facts_at}
use Rattle.section_laws.proofs.section_levels.RunLemmas.{counted_at}
use Rattle.section_laws.specs.Layout.{IsWordPlace}
use Rattle.section_laws.proofs.run_layout.RunLemmas.{beside_object}
use Rattle.written_words.specs.Noted.{IsTaggedRun, heap_of}
use Rattle.written_words.proofs.settled_words.TurnLemmas.{Leaves, calm, opens, closes, ends_all, undone, writes, puts}
use Rattle.written_words.specs.Writers.{log_of, writers_by, writers}
use Rattle.written_words.specs.Tags.{IsWrittenRun, TagSays, OldWordsSay, TagsSayWriters, OldTagsSayWriters}
use Rattle.written_words.proofs.settled_words.RoundLemmas as rounds
use Rattle.written_words.proofs.TagLemmas.{old_later, AllBefore, all_later}
use Rattle.written_words.proofs.WrittenLemmas as written
use Rattle.written_words.proofs.WrittenLemmas.{calm_written, swap_written, put_written, on}

module _ {S : Type 0} (code : Code S) (b : Bounds) (is_thread : ℕ → Bool) (first : S) (classes : ℕ) (c : ℕ → Core S) (acts : List Act) (run : IsWrittenRun code b is_thread first classes c acts) where
  tagged : IsTaggedRun code b is_thread first classes c acts
  tagged = run.tagged

  ran : IsRun code b c acts
  ran = run.tagged.monitors.levelled.ordered.run

  abbrev pub WrittenAt : ℕ → Type 0
  WrittenAt k = written.WrittenAt code b is_thread first classes c acts run.tagged k

  module _ (k t : ℕ) (step : Step) (a : StepAnswer) (here : slice_get acts k ≡ Some (did t step a)) (at : DidAt code b c k t step a) where
    within : k < length acts
    within = rounds.within code b is_thread first classes c acts run.tagged k t step a here at

    abbrev y : ThreadState S
    y = after_answer code b at.from step a

    -- without a level that isn't seen pinned nothing is logged
    shut_log : is_open y ≡ false → y.log ≡ []
    shut_log shut = ((facts_at code b c acts ran (suc k) within).fit t y (rounds.own_there code b is_thread first classes c acts run.tagged k t step a here at)).unlogged shut

    left_log : (log : List Noted) (marks : List Mark) → Leaves at.from.log marks y.log y.marks (is_open y) → (y.log ≡ at.from.log) ⊎ (y.log ≡ [])
    left_log log marks (inl kept) = inl kept.0
    left_log log marks (inr shut) = inr (shut_log shut)

    none_open : (c (suc k)).levels t ≡ [] → is_open y ≡ false
    none_open none = shut y.pinned y.levels (sym ((counted_at code b first classes c acts run.tagged.monitors.levelled (suc k) within).there t y (rounds.own_there code b is_thread first classes c acts run.tagged k t step a here at)) ∙ ap length none)
      where
        shut : (p l : ℕ) → l ≡ 0 → nat_lt p l ≡ false
        shut p l none = grind (arith, common_steps, nat_tests)

    did_written : WrittenAt k → WrittenAt (suc k)
    did_written so = elim (rounds.turn code b is_thread first classes c acts run.tagged k t step a here at) [
      | calm none unseen same leaves ↦ calm_written code b is_thread first classes c acts run.tagged k t step a here at so none (left_log at.from.log _ leaves)
      | opens silents held none unseen same leaves ↦ calm_written code b is_thread first classes c acts run.tagged k t step a here at so none (left_log at.from.log _ leaves)
      | closes n none unseen other same leaves ↦ calm_written code b is_thread first classes c acts run.tagged k t step a here at so none (left_log at.from.log _ leaves)
      | ends_all none unseen other same ↦ calm_written code b is_thread first classes c acts run.tagged k t step a here at so none
          (inr (shut_log (none_open (rounds.own_levels code b is_thread first classes c acts run.tagged k t step a here at ∙ same))))
      | undone w s v none unseen undoing is noted same leaves ↦ calm_written code b is_thread first classes c acts run.tagged k t step a here at so none (left_log at.from.log _ leaves)
      | writes r i v old wants sets done seen same log marks ↦ swap_written code b is_thread first classes c acts run.tagged k t step a here at so r i v old wants sets done log
      | puts w p o undoing sets does unseen same log marks ↦ put_written code b is_thread first classes c acts run.tagged k t step a here at so w p o sets does log
    ]

  -- no word of an object, no log and no writer is changed by a silent move, or by a step beside those of threads
  still : (k : ℕ) → k < length acts → ((p : ℕ) → heap_of (c (suc k)).words p ≡ heap_of (c k).words p) → ((u : ℕ) → log_of ((c (suc k)).threads u) ≡ log_of ((c k).threads u)) → (c (suc k)).objects ≡ (c k).objects
      → writers c acts (suc k) ≡ writers c acts k → WrittenAt k → WrittenAt (suc k)
  still k within same_heap same_log same_objects same_writers so = record {
    says = λ p word. subst (λ w. TagSays c acts (w.word p) (tag_of (heap_of (c (suc k)).words p))) (sym same_writers)
        (subst (λ n. TagSays c acts ((writers c acts k).word p) (tag_of n)) (sym (same_heap p)) (so.says p (subst (λ o. IsWordPlace is_thread o p) same_objects word)));
    placed = λ p. elim (so.placed p) [ inl none ↦ inl (ap (λ w. w.word p) same_writers ∙ none) | inr word ↦ inr (subst (λ o. IsWordPlace is_thread o p) (sym same_objects) word) ];
    before = λ p v there. later v k (so.before p v (subst (λ w. In v (w.word p)) same_writers there));
    old = λ u. subst (λ w. OldWordsSay c acts (c (suc k)).words u (log_of ((c (suc k)).threads u)) (w.old u)) (sym same_writers)
        (subst (λ log. OldWordsSay c acts (c (suc k)).words u log ((writers c acts k).old u)) (sym (same_log u))
        (old_later c acts (c k).words (c (suc k)).words u (log_of ((c k).threads u)) ((writers c acts k).old u) (on code b is_thread first classes c acts run.tagged k within) (so.old u)));
    old_before = λ u. subst (λ w. AllBefore (suc k) (w.old u)) (sym same_writers) (all_later k ((writers c acts k).old u) (so.old_before u));
  }
    where
      later : (v k : ℕ) → v < k → v < suc k
      later v k low = omega (arith, low)

  act_written : (k : ℕ) (act : Act) → slice_get acts k ≡ Some act → ActAt code b c k act → WrittenAt k → WrittenAt (suc k)
  act_written k (quiet t) here at so = still k (slice_get_within acts k (quiet t) here) (λ p. ap (λ (core : Core S). heap_of core.words p) at.leads) same_log (ap (λ (core : Core S). core.objects) at.leads)
      (ap (λ o. writers_by o (c k) (c (suc k)) (writers c acts k)) here) so
    where
      same_log : (u : ℕ) → log_of ((c (suc k)).threads u) ≡ log_of ((c k).threads u)
      same_log u = ap (λ (core : Core S). log_of (core.threads u)) at.leads ∙ elim (same_or_other u t) [
        | inl own ↦ ap log_of (ap (set_at (c k).threads t (Some (after_quiet at.from at.local))) own ∙ set_at-hit (c k).threads t (Some (after_quiet at.from at.local))) ∙ ap log_of (sym (ap (c k).threads own ∙ at.stands))
        | inr other ↦ ap log_of (set_at-other (c k).threads t (Some (after_quiet at.from at.local)) u other)
      ]
  act_written k (did t step a) here at so = did_written k t step a here at so
  act_written k (beside t step a) here at so = still k (slice_get_within acts k (beside t step a) here) (λ p. ap (λ (core : Core S). heap_of core.words p) at.leads ∙ beside_object step at.is (c k).words p)
      (λ u. ap (λ (core : Core S). log_of (core.threads u)) at.leads) (ap (λ (core : Core S). core.objects) at.leads) (ap (λ o. writers_by o (c k) (c (suc k)) (writers c acts k)) here) so

  first_written : WrittenAt 0
  first_written = record {
    says = λ p word. run.begins p word;
    placed = λ p. inl refl;
    before = λ p v there. absurd there;
    old = λ u. subst (λ log. OldWordsSay c acts (c 0).words u log []) (sym (none u)) tt;
    old_before = λ u. tt;
  }
    where
      none : (u : ℕ) → log_of ((c 0).threads u) ≡ []
      none u = by_thread ((c 0).threads u) refl
        where
          by_thread : (o : Option (ThreadState S)) → (c 0).threads u ≡ o → log_of o ≡ []
          by_thread None is = refl
          by_thread (Some th) is = ap (λ (x : ThreadState S). x.log) (ran.begins.threads u th is).3

  pub written_at : (k : ℕ) → k ≤ length acts → WrittenAt k
  written_at k within = along code b c acts ran.leads WrittenAt first_written (λ n act here at so. act_written n act here at so) k within

pub tags_say_writers : {S : Type 0} (code : Code S) → TagsSayWriters code
tags_say_writers code b is_thread first classes c acts run k p within word = (written_at code b is_thread first classes c acts run k within).says p word

pub old_tags_say_writers : {S : Type 0} (code : Code S) → OldTagsSayWriters code
old_tags_say_writers code b is_thread first classes c acts run k t th within there =
    subst (λ o. OldWordsSay c acts (c k).words t (log_of o) ((writers c acts k).old t)) there ((written_at code b is_thread first classes c acts run k within).old t)
