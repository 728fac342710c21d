-- What threads have logged was so at an earlier place of the run.
use Rattle.std.proofs.Common.{◌≡◌, inl, inr, ℕ, suc, ◌<◌, ◌≤◌, Bool, Some, List, length, sym, ◌∙◌, ap, subst, arith}
use Rattle.std.specs.Prelude.{slice_get}
use Rattle.std.proofs.lemmas.Option.{slice_get_within}
use Rattle.op_core.specs.ThreadCode.{Code}
use Rattle.op_core.specs.OrdinaryState.{set_at}
use Rattle.heap_words.specs.declared.areas.Area.{Area}
use Rattle.write_log.specs.declared.Noted.{Noted}
use Rattle.step_port.specs.declared.answer.StepAnswer.{StepAnswer}
use Rattle.step_port.specs.declared.step.Step.{Step}
use Rattle.step_port.specs.declared.step.Step.TheVariants.{Split}
use Rattle.step_port.specs.Words.{answer_of}
use Rattle.thread_automaton.specs.declared.Bounds.{Bounds}
use Rattle.thread_automaton.specs.ThreadState.{ThreadState, first_state}
use Rattle.thread_automaton.specs.Told.{after_answer, after_quiet}
use Rattle.core_runs.specs.Cores.{Core, threads_by}
use Rattle.core_runs.specs.Acts.{Act, quiet, did, beside, DidAt, ActAt}
use Rattle.section_laws.proofs.WordLemmas.{exchanged}
use Rattle.section_laws.proofs.FactLemmas.{each}
use Rattle.section_laws.proofs.RunLemmas.{along}
use Rattle.section_laws.specs.Layout.{IsWordPlace, IsLaidRun}
use Rattle.section_laws.proofs.run_layout.ListLemmas.{In}
use Rattle.section_laws.proofs.run_layout.OwnedLemmas.{owned_by, OwnedStep, owned_steps}
use Rattle.section_laws.proofs.run_layout.LaidLemmas.{write_there}
use Rattle.section_laws.proofs.run_layout.RunLemmas.{fits_at, known_at}

module _ {S : Type 0} (code : Code S) (b : Bounds) (is_thread : ℕ → Bool) (c : ℕ → Core S) (acts : List Act) (run : IsLaidRun code b is_thread c acts) where
  -- a logged word was there before
  pub record WasNoted (k : ℕ) (x : Noted) : Type 0 where
    pub place : ℕ
    pub earlier : place < k
    pub was : (c place).words (Area.Object x.at) ≡ x.old
    pub there : IsWordPlace is_thread (c place).objects x.at

  abbrev pub NotedAt : ℕ → Type 0
  NotedAt k = (t : ℕ) (th : ThreadState S) (x : Noted) → (c k).threads t ≡ Some th → In x th.log → WasNoted k x

  later : (k : ℕ) (x : Noted) → WasNoted k x → WasNoted (suc k) x
  later k x so = let low = so.earlier in record { place = so.place; earlier = omega (arith, low); was = so.was; there = so.there }

  did_noted : (k t : ℕ) (step : Step) (a : StepAnswer) → slice_get acts k ≡ Some (did t step a) → DidAt code b c k t step a → NotedAt k → NotedAt (suc k)
  did_noted k t step a here at before =
      subst (λ (z : Core S). (u : ℕ) (uh : ThreadState S) (x : Noted) → z.threads u ≡ Some uh → In x uh.log → WasNoted (suc k) x) (sym at.leads) (λ u uh x there. handed step u uh there x)
    where
      within : k < length acts
      within = slice_get_within acts k (did t step a) here

      owned : OwnedStep code b at.from (code.next at.from.local) step a (owned_by (after_answer code b at.from step a))
      owned = owned_steps code b at.from (c k).words step a ((known_at code b is_thread c acts run k (let low = slice_get_within acts k (did t step a) here in omega (arith, low))).fit t at.from at.stands).attempt
          at.move at.answered

      own : (x : Noted) → In x (after_answer code b at.from step a).log → WasNoted (suc k) x
      own x there = elim (owned.log x there) [
        | inl earlier ↦ later k x (before t at.from x at.stands earlier)
        | inr logs ↦ record {
          place = k;
          earlier = omega arith;
          was = (exchanged (c k).words (Area.Object x.at) x.old logs.new (sym logs.done ∙ at.answered ∙ ap (answer_of (c k).words) logs.made)).found;
          there = write_there is_thread at.from (c k).objects (code.next at.from.local) x.at logs.new logs.names (fits_at code b is_thread c acts run k t at.from within at.stands);
        }
      ]

      there_noted : (u : ℕ) (uh : ThreadState S) → set_at (c k).threads t (Some (after_answer code b at.from step a)) u ≡ Some uh → (x : Noted) → In x uh.log → WasNoted (suc k) x
      there_noted u = each (λ (uh : ThreadState S). (x : Noted) → In x uh.log → WasNoted (suc k) x) (c k).threads t (after_answer code b at.from step a) u (λ mine. own)
          (λ uh other there x inside. later k x (before u uh x there inside))

      handed : (m : Step) (u : ℕ) (uh : ThreadState S) → threads_by code m at.from.local (set_at (c k).threads t (Some (after_answer code b at.from step a))) u ≡ Some uh
          → (x : Noted) → In x uh.log → WasNoted (suc k) x
      handed (Split n r p) u uh there = each (λ (uh : ThreadState S). (x : Noted) → In x uh.log → WasNoted (suc k) x) (set_at (c k).threads t (Some (after_answer code b at.from step a))) n
          (first_state n p (code.child at.from.local r)) u (λ mine x inside. absurd inside) (λ vh other at_v. there_noted u vh at_v) uh there
      handed m u uh there = there_noted u uh there

  act_noted : (k : ℕ) (act : Act) → slice_get acts k ≡ Some act → ActAt code b c k act → NotedAt k → NotedAt (suc k)
  act_noted k (quiet t) here at before =
      subst (λ (z : Core S). (u : ℕ) (uh : ThreadState S) (x : Noted) → z.threads u ≡ Some uh → In x uh.log → WasNoted (suc k) x) (sym at.leads)
      (λ u uh x there. each (λ (uh : ThreadState S). In x uh.log → WasNoted (suc k) x) (c k).threads t (after_quiet at.from at.local) u
      (λ mine inside. later k x (before t at.from x at.stands inside)) (λ vh other at_v inside. later k x (before u vh x at_v inside)) uh there)
  act_noted k (did t step a) here at before = did_noted k t step a here at before
  act_noted k (beside t step a) here at before =
      subst (λ (z : Core S). (u : ℕ) (uh : ThreadState S) (x : Noted) → z.threads u ≡ Some uh → In x uh.log → WasNoted (suc k) x) (sym at.leads)
      (λ u uh x there inside. later k x (before u uh x there inside))

  first_noted : NotedAt 0
  first_noted t th x there inside = absurd (subst (In x) (ap (λ (z : ThreadState S). z.log) (run.run.begins.threads t th there).3) inside)

  pub noted_at : (k : ℕ) → k ≤ length acts → NotedAt k
  noted_at k within = along code b c acts run.run.leads NotedAt first_noted (λ n act here at before. act_noted n act here at before) k within
