-- Start words, and the threads that are about to begin, along a run.
use Rattle.std.proofs.Common.{◌≡◌, inl, inr, ℕ, suc, ◌+◌, ◌^◌, ◌<◌, ◌≤◌, Bool, true, Some, List, length, sym, ◌∙◌, ap, subst, arith}
use Rattle.std.specs.Prelude.{slice_get}
use Rattle.std.proofs.lemmas.Option.{slice_get_within}
use Rattle.op_core.specs.ThreadCode.{Code}
use Rattle.op_core.specs.OrdinaryState.{set_at}
use Rattle.op_core.proofs.PointwiseLemmas.{same_or_other, set_at-hit, set_at-other}
use Rattle.heap_words.specs.declared.areas.Area.TheVariants.{Control}
use Rattle.step_port.specs.declared.step.Step.{Step}
use Rattle.step_port.specs.Words.{words_after}
use Rattle.thread_automaton.specs.declared.Bounds.{Bounds}
use Rattle.thread_automaton.specs.ThreadState.{ThreadState}
use Rattle.thread_automaton.specs.Told.{after_quiet}
use Rattle.core_runs.specs.OwnParts.{is_beside}
use Rattle.core_runs.specs.Cores.{Core}
use Rattle.core_runs.specs.Acts.{Act, quiet, did, beside, QuietAt, ActAt}
use Rattle.section_laws.proofs.ClaimLemmas.{none_some}
use Rattle.section_laws.proofs.FactLemmas.{each}
use Rattle.section_laws.proofs.NumberLemmas.{grows}
use Rattle.section_laws.proofs.RunLemmas.{along}
use Rattle.section_laws.proofs.run_threads.NumberLemmas.{numbers_at}
use Rattle.section_laws.specs.Layout.{IsLaidRun}
use Rattle.section_laws.proofs.run_layout.RunLemmas.{beside_object}
use Rattle.section_laws.specs.Starts.{start_word_of, IsStarted, StartsFit, StartsAreKnown, BeginsWithStarts, StartsStayKnown}
use Rattle.section_laws.proofs.start_words.AttemptLemmas.{IsStarting}
use Rattle.section_laws.proofs.start_words.StepLemmas.{step_starts}

module _ {S : Type 0} (code : Code S) (b : Bounds) (is_thread : ℕ → Bool) (c : ℕ → Core S) (acts : List Act) (run : IsLaidRun code b is_thread c acts) (begins : BeginsWithStarts is_thread (c 0)) where
  abbrev StartsAt : ℕ → Type 0
  StartsAt k = (1 ≤ (c k).words (Control 4)) × StartsAreKnown code is_thread (c k)

  -- a thread that neither starts another nor waits for one
  calm_fit : (core : Core S) (th : ThreadState S) → (IsStarting th.attempt → ⊥) → StartsFit code is_thread core th
  calm_fit core th none = record {
    unused = λ r n is. absurd (none (subst IsStarting (sym is) tt));
    begins = λ n r p is. absurd (none (subst IsStarting (sym is) tt));
    awaited = λ n r is wants. absurd (none (subst IsStarting (sym is) tt));
  }

  quiet_starts : (k t : ℕ) → QuietAt code b c k t → StartsAt k → StartsAt (suc k)
  quiet_starts k t at (drawn, before) = subst (λ (z : Core S). (1 ≤ z.words (Control 4)) × StartsAreKnown code is_thread z) (sym at.leads) (
    drawn,
    record {
      words = record {
        low = before.words.low;
        started = λ r thread some. let was = before.words.started r thread some in (was.0, elim was.1 [ inl there ↦ inl (still (start_word_of (c k) r) there.0 there.1) | inr about ↦ inr about ]);
        apart = before.words.apart;
      };
      drawn = before.drawn;
      threads = λ u. each (λ (uh : ThreadState S). StartsFit code is_thread (record (c k) { threads = set_at (c k).threads t (Some (after_quiet at.from at.local)) }) uh) (c k).threads t (after_quiet at.from at.local) u
          (λ own. calm_fit (record (c k) { threads = set_at (c k).threads t (Some (after_quiet at.from at.local)) }) (after_quiet at.from at.local) (λ starts. starts))
          (λ uh other there. let was = before.threads u uh there in record { unused = was.unused; begins = was.begins; awaited = was.awaited });
    },
  )
    where
      still : (n : ℕ) (th : ThreadState S) → (c k).threads n ≡ Some th → (z : ThreadState S) × (set_at (c k).threads t (Some (after_quiet at.from at.local)) n ≡ Some z)
      still n th there = elim (same_or_other n t) [
        | inl same ↦ (
          after_quiet at.from at.local,
          subst (λ m. set_at (c k).threads t (Some (after_quiet at.from at.local)) m ≡ Some (after_quiet at.from at.local)) (sym same)
              (set_at-hit (c k).threads t (Some (after_quiet at.from at.local))),
        )
        | inr other ↦ (th, set_at-other (c k).threads t (Some (after_quiet at.from at.local)) n other ∙ there)
      ]

  beside_starts : (k : ℕ) (step : Step) → is_beside step ≡ true → StartsAt k
      → (1 ≤ words_after step (c k).words (Control 4)) × StartsAreKnown code is_thread (record (c k) { words = words_after step (c k).words })
  beside_starts k step is (drawn, before) =
      let more = grows step (c k).words in (
        omega (arith, drawn, more),
        record {
          words = record {
            low = λ r thread. subst (λ m. m < 2 ^ 8) (sym (same r)) (before.words.low r thread);
            started = λ r thread some.
                let was = before.words.started r thread (subst (λ m. 0 < m) (same r) some) in
                let low = was.0 in let word = same r in
                (omega (arith, low, word, more), subst (IsStarted (record (c k) { words = words_after step (c k).words })) (sym (same r)) (started (start_word_of (c k) r) was.1));
            apart = λ r q thread thread_too some equal. before.words.apart r q thread thread_too (subst (λ m. 0 < m) (same r) some) (sym (same r) ∙ equal ∙ same q);
          };
          drawn = λ n l there. let low = before.drawn n l there in omega (arith, low, more);
          threads = λ u uh there.
              let was = before.threads u uh there in
              record {
                unused = λ r n fixed. let so = was.unused r n fixed in (so.0, so.1, λ q thread equal. so.2 q thread (sym (same q) ∙ equal));
                begins = was.begins;
                awaited = λ n r fixed wants. let so = was.awaited n r fixed wants in (so.0, same r ∙ so.1);
              };
        },
      )
    where
      same : (r : ℕ) → start_word_of (record (c k) { words = words_after step (c k).words }) r ≡ start_word_of (c k) r
      same r = beside_object step is (c k).words (r + 3)

      started : (n : ℕ) → IsStarted (c k) n → IsStarted (record (c k) { words = words_after step (c k).words }) n
      started n (inl there) = inl there
      started n (inr about) = inr about

  act_starts : (k : ℕ) (act : Act) → slice_get acts k ≡ Some act → ActAt code b c k act → StartsAt k → StartsAt (suc k)
  act_starts k (quiet t) here at before = quiet_starts k t at before
  act_starts k (did t step a) here at before =
      let low = slice_get_within acts k (did t step a) here in
      let drawn = before.0 in let more = grows step (c k).words in
      subst (λ (z : Core S). (1 ≤ z.words (Control 4)) × StartsAreKnown code is_thread z) (sym at.leads)
      (omega (arith, drawn, more), step_starts code b is_thread c acts run k t step a here at (numbers_at code b c acts run.run begins.numbers k (omega (arith, low))) before.0 before.1)
  act_starts k (beside t step a) here at before = subst (λ (z : Core S). (1 ≤ z.words (Control 4)) × StartsAreKnown code is_thread z) (sym at.leads) (beside_starts k step at.is before)

  first_starts : StartsAt 0
  first_starts = (
    begins.drawn,
    record {
      words = begins.words;
      drawn = λ n l there. absurd (no_one n l there);
      threads = λ t th there. calm_fit (c 0) th (λ starts. subst IsStarting (ap (λ (z : ThreadState S). z.attempt) (run.run.begins.threads t th there).3) starts);
    },
  )
    where
      no_one : (n : ℕ) (l : S) → (c 0).starting n ≡ Some l → ⊥
      no_one n l there = absurd (none_some l (sym (begins.none n) ∙ there))

  pub starts_at : (k : ℕ) → k ≤ length acts → StartsAt k
  starts_at k low = along code b c acts run.run.leads StartsAt first_starts (λ n act here at before. act_starts n act here at before) k low

pub starts_are_known : {S : Type 0} (code : Code S) → StartsStayKnown code
starts_are_known code b is_thread c acts run begins k low = (starts_at code b is_thread c acts run begins k low).1
