-- The acts of a run show entries, which are an in-place list.
use Rattle.std.proofs.Common.{◌≡◌, ◌≢◌, nat_eq, Option, ℕ, suc, ◌+◌, Bool, true, false, Some, List, [], ◌∷◌, length, refl, sym, ◌∙◌, ap, subst, arith}
use Rattle.std.specs.Prelude.{slice_get, nat_le, if◌then◌else◌}
use Rattle.std.proofs.lemmas.Option.{slice_get_within}
use Rattle.op_core.specs.declared.Limit.TheVariants.{Turns}
use Rattle.op_core.specs.declared.Next.{Next}
use Rattle.op_core.specs.ThreadCode.{Code}
use Rattle.op_core.specs.OrdinaryState.{set_at, Object, live, ended, OrdinaryState}
use Rattle.op_core.specs.InPlaceList.{Entry, silent, unseen, with_thread, FitsAt, FitFrom}
use Rattle.op_core.proofs.ExecutionLemmas.{states_ext}
use Rattle.op_core.proofs.PointwiseLemmas.{set_at-at}
use Rattle.heap_words.specs.declared.areas.Area.{Area}
use Rattle.heap_words.specs.Words.{value_of}
use Rattle.section_state.specs.SectionWord.{owner_of}
use Rattle.monitor_core.specs.Monitors.{monitor_section}
use Rattle.ordinary_words.specs.Reading.{class_of}
use Rattle.step_port.specs.declared.answer.StepAnswer.{StepAnswer}
use Rattle.step_port.specs.declared.step.Step.{Step}
use Rattle.step_port.specs.declared.step.Step.TheVariants.{Split, LoadStop, SetStop, LookMonitor, LookSection, BreakLevel}
use Rattle.step_port.specs.Steps.{effect_of}
use Rattle.step_port.specs.Words.{Words, CanAnswer, words_after}
use Rattle.thread_automaton.specs.declared.Bounds.{Bounds}
use Rattle.thread_automaton.specs.declared.Move.{Move}
use Rattle.thread_automaton.specs.declared.Move.TheVariants.{Over, Quiet, Stop, Make}
use Rattle.thread_automaton.specs.declared.Attempt.{Attempt}
use Rattle.thread_automaton.specs.declared.Attempt.TheVariants.{Fixed}
use Rattle.thread_automaton.specs.ThreadState.{ThreadState}
use Rattle.thread_automaton.specs.NextMove.{move_of, next_move}
use Rattle.thread_automaton.specs.Told.{after_quiet}
use Rattle.automaton_rows.proofs.RowLemmas.{answers_are_rows, words_can_answer}
use Rattle.core_runs.specs.OwnParts.{is_beside}
use Rattle.core_runs.specs.Cores.{Core}
use Rattle.core_runs.specs.Acts.{Act, quiet, did, beside, QuietAt, DidAt, BesideAt, ActAt, ActFrom}
use Rattle.core_runs.specs.Entries.{Shows, ShowFrom}
use Rattle.core_runs.specs.Reading.{end_wanted, place_in, waiting_in, thread_in, ordinary}
use Rattle.section_laws.proofs.WordLemmas.{stays_at}
use Rattle.section_laws.proofs.RunLemmas.{facts_at}
use Rattle.section_laws.proofs.own_sections.MoveLemmas.{moves_at}
use Rattle.section_laws.proofs.run_layout.RunLemmas.{beside_object}
use Rattle.first_law.specs.InPlace.{IsSeenRun, RunsAreInPlace}
use Rattle.first_law.proofs.StateLemmas.{word_kept, start_kept, monitor_kept}
use Rattle.first_law.proofs.OwnerLemmas.{owner_kept, held_section}
use Rattle.first_law.proofs.ClassLemmas.{beside_class}
use Rattle.first_law.proofs.RowLemmas.{rows}

beside_wait : (step : Step) → is_beside step ≡ true → (w : Words) (u : ℕ) → words_after step w (Area.Wait u) ≡ w (Area.Wait u)
beside_wait LoadStop is w u = refl
beside_wait SetStop is w u = refl
beside_wait (LookMonitor r) is w u = refl
beside_wait (LookSection s) is w u = refl
beside_wait (BreakLevel s old level) is w u = stays_at (effect_of (BreakLevel s old level)) w (Area.Section s) (Area.Wait u) refl
beside_wait step is w u = cc

module _ {S : Type 0} (code : Code S) (b : Bounds) (is_thread : ℕ → Bool) (first : S) (classes : ℕ) (c : ℕ → Core S) (acts : List Act) (run : IsSeenRun code b is_thread first classes c acts) where
  abbrev states : ℕ → OrdinaryState S
  states n = ordinary code is_thread (c n)

  abbrev SeenAt : ℕ → Act → Type 0
  SeenAt k act = (e : Entry) × Shows code b (c k) act e × FitsAt code states k e

  -- ---- a step of a thread

  did_seen : (k t : ℕ) (step : Step) (a : StepAnswer) → slice_get acts k ≡ Some (did t step a) → DidAt code b c k t step a → SeenAt k (did t step a)
  did_seen k t step a here at =
      let can : CanAnswer (effect_of step) a = subst (CanAnswer (effect_of step)) (sym at.answered) (words_can_answer (c k).words step) in
      let fits = (facts_at code b c acts run.levelled.ordered.run k (let low = slice_get_within acts k (did t step a) here in omega (arith, low))).fit t at.from at.stands in
      rows code b is_thread first classes c acts run k t at.from (answers_are_rows code b at.from step a fits.attempt at.move can)
      (record { here = here; stands = at.stands; move = at.move; answered = at.answered; leads = at.leads; wants = refl; then_is = refl; told_is = refl }) can

  -- ---- a silent move

  quiet_place : (th : ThreadState S) (next : Next) (g : Attempt) → move_of code th next g ≡ Quiet → place_in code th.local g ≡ th.local
  quiet_place th next (Fixed (Split n r p)) is = absurd (subst IsMake is tt)
    where
      IsMake : Move → Type 0
      IsMake (Make step) = Unit {0}
      IsMake move = ⊥
  quiet_place th next g is = refl

  quiet_from : (th : ThreadState S) → next_move code b th ≡ Quiet → (th.over ≡ false) × (move_of code th (code.next th.local) th.attempt ≡ Quiet)
  quiet_from th is = by_tests th.over (nat_le b.limits.turns th.counted) refl is
    where
      IsQuiet : Move → Type 0
      IsQuiet Quiet = Unit {0}
      IsQuiet move = ⊥

      by_tests : (x y : Bool) → th.over ≡ x → (if x then Over else if y then Stop Turns else move_of code th (code.next th.local) th.attempt) ≡ Quiet
          → (th.over ≡ false) × (move_of code th (code.next th.local) th.attempt ≡ Quiet)
      by_tests true y over is = absurd (subst IsQuiet (sym is) tt)
      by_tests false true over is = absurd (subst IsQuiet (sym is) tt)
      by_tests false false over is = (over, is)

  quiet_stands : (o : Option S) (th : ThreadState S) → next_move code b th ≡ Quiet → thread_in code o (Some th) ≡ live th.local
  quiet_stands o th is =
      let from = quiet_from th is in
      ap (λ x. if x then ended (end_wanted (code.next th.local)) else live (place_in code th.local th.attempt)) from.0 ∙ ap live (quiet_place th (code.next th.local) th.attempt from.1)

  quiet_seen : (k t : ℕ) → QuietAt code b c k t → SeenAt k (quiet t)
  quiet_seen k t at = (
    silent t,
    refl,
    record {
      from = at.from.local;
      next = at.local;
      stands = ap (thread_in code ((c k).starting t)) at.stands ∙ quiet_stands ((c k).starting t) at.from at.move;
      quiet = at.step;
      leads = ap (ordinary code is_thread) at.leads
          ∙ states_ext S (ordinary code is_thread (record (c k) { threads = set_at (c k).threads t (Some (after_quiet at.from at.local)) })) (with_thread (states k) t (live at.local)) (record {
            objects = λ q. refl;
            words = λ q i. refl;
            monitors = λ q. refl;
            waiting = λ u. set_at-at (λ x. waiting_in x ((c k).words (Area.Wait u)) ≡ waiting_in ((c k).threads u) ((c k).words (Area.Wait u))) (c k).threads t (Some (after_quiet at.from at.local)) u
                (λ own. ap (λ x. waiting_in x ((c k).words (Area.Wait u))) (sym at.stands ∙ ap (c k).threads (sym own))) (λ other. refl);
            classes = λ d. refl;
            starts = λ q. refl;
            threads = λ u. by_test u (nat_eq u t) refl;
            lines = refl;
          });
    },
  )
    where
      now_there : (o : Option S) → thread_in code o (Some (after_quiet at.from at.local)) ≡ live at.local
      now_there o = ap (λ x. if x then ended (end_wanted (code.next at.local)) else live at.local) (quiet_from at.from at.move).0

      by_test : (u : ℕ) (x : Bool) → nat_eq u t ≡ x → thread_in code ((c k).starting u) (if x then Some (after_quiet at.from at.local) else (c k).threads u)
          ≡ (if x then live at.local else thread_in code ((c k).starting u) ((c k).threads u))
      by_test u true own = now_there ((c k).starting u)
      by_test u false other = refl

  -- ---- a step beside those of threads

  beside_seen : (k t : ℕ) (step : Step) (a : StepAnswer) → slice_get acts k ≡ Some (beside t step a) → BesideAt c k t step a → SeenAt k (beside t step a)
  beside_seen k t step a here at = (
    unseen,
    refl,
    ap (ordinary code is_thread) at.leads ∙ states_ext S (ordinary code is_thread (record (c k) { words = words_after step (c k).words })) (states k) (record {
      objects = λ q. refl;
      words = λ q i. word_kept is_thread (c k).words (words_after step (c k).words) q i ((c k).objects q) (λ o there low plain. ap value_of (beside_object step at.is (c k).words (q + 2 + i)));
      monitors = λ q. monitor_kept (c k).words (words_after step (c k).words) q ((c k).objects q) (λ o there. beside_object step at.is (c k).words (q + 1)) (λ o there some. owner_same q o there some);
      waiting = λ u. ap (waiting_in ((c k).threads u)) (beside_wait step at.is (c k).words u);
      classes = λ d. ap class_of (beside_class step at.is (c k).words d);
      starts = λ q. start_kept is_thread (c k).words (words_after step (c k).words) q ((c k).objects q) (λ o there thread. beside_object step at.is (c k).words (q + 3));
      threads = λ u. refl;
      lines = refl;
    }),
  )
    where
      owner_same : (q : ℕ) (o : Object) → (c k).objects q ≡ Some o → (c k).words (Area.Object (q + 1)) ≢ 0
          → owner_of (words_after step (c k).words (Area.Section (monitor_section ((c k).words (Area.Object (q + 1))))))
          ≡ owner_of ((c k).words (Area.Section (monitor_section ((c k).words (Area.Object (q + 1))))))
      owner_same q o there some =
          let s : ℕ = monitor_section ((c k).words (Area.Object (q + 1))) in
          subst (λ (z : Core S). owner_of (z.words (Area.Section s)) ≡ owner_of ((c k).words (Area.Section s))) at.leads
          (owner_kept ((c k).words (Area.Section s)) ((c (suc k)).words (Area.Section s))
          (moves_at code b c acts run.levelled.ordered.run run.levelled.ordered.in_bits k s (slice_get_within acts k (beside t step a) here))
          (held_section code b is_thread first classes c acts run k (let low = slice_get_within acts k (beside t step a) here in omega (arith, low))
          (run.monitors k (slice_get_within acts k (beside t step a) here)) q o there some))

  seen : (k : ℕ) (act : Act) → slice_get acts k ≡ Some act → ActAt code b c k act → SeenAt k act
  seen k (quiet t) here at = quiet_seen k t at
  seen k (did t step a) here at = did_seen k t step a here at
  seen k (beside t step a) here at = beside_seen k t step a here at

  -- ---- all of them

  from_on : (rest : List Act) (k : ℕ) → ActFrom code b c k rest → ((j : ℕ) (act : Act) → slice_get rest j ≡ Some act → slice_get acts (k + j) ≡ Some act)
      → (es : List Entry) × (length es ≡ length rest) × ShowFrom code b c k rest es × FitFrom code states k es
  from_on [] k leads same = ([], refl, tt, tt)
  from_on (act ∷ rest) k leads same =
      let now = seen k act (subst (λ n. slice_get acts n ≡ Some act) (omega arith) (same 0 act refl)) leads.0 in
      let later = from_on rest (suc k) leads.1 (λ j x there. subst (λ n. slice_get acts n ≡ Some x) (omega arith) (same (suc j) x there)) in
      (now.0 ∷ later.0, ap suc later.1, (now.1, later.2), (now.2, later.3))

pub runs_are_in_place : {S : Type 0} (code : Code S) → RunsAreInPlace code
runs_are_in_place code b is_thread first classes c acts run =
    from_on code b is_thread first classes c acts run acts 0 run.levelled.ordered.run.leads (λ j act there. subst (λ n. slice_get acts n ≡ Some act) (omega arith) there)
