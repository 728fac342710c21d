-- The step that comes next for a thread may be made at its seat, and its answer is that of the words of a run.
use Rattle.std.proofs.Common.{◌≡◌, suc, Bool, true, false, Some, List, [], ◌∷◌, refl, sym, ◌∙◌, ap, subst}
use Rattle.std.specs.Prelude.{Contains, nat_eq, if◌then◌else◌}
use Rattle.op_core.specs.ThreadCode.{Code, quiet_step}
use Rattle.step_port.specs.declared.answer.StepAnswer.{StepAnswer}
use Rattle.step_port.specs.declared.step.Step.{Step}
use Rattle.step_port.specs.declared.step.Step.TheVariants.{LoadStop, SetStop, LookMonitor, LookSection, BreakLevel}
use Rattle.step_port.specs.Words.{answer_of}
use Rattle.thread_automaton.specs.declared.Move.TheVariants.{Quiet, Make}
use Rattle.thread_automaton.specs.ThreadState.{ThreadState}
use Rattle.thread_automaton.specs.NextMove.{next_move}
use Rattle.thread_automaton.specs.Told.{after_answer, after_quiet}
use Rattle.automaton_rows.specs.Fits.{IsFit}
use Rattle.core_runs.specs.declared.StepMade.{StepMade}
use Rattle.core_runs.specs.declared.Birth.{Birth}
use Rattle.core_runs.specs.WordRuns.{RunEntry, words_by, part_of}
use Rattle.core_runs.specs.OwnParts.{MakesOwn, OwnTo, births}
use Rattle.section_laws.specs.InRuns.{StandsBehind}
use Rattle.section_laws.proofs.CoreRunLemmas.{begun_later, begin_with_runs, equal, run_facts}
use Rattle.thread_moves.specs.Change.{NamesThread}
use Rattle.section_laws.specs.NextSteps.{step_made}
use Rattle.table_words.specs.declared.setup.Setup.{Setup}
use Rattle.table_words.specs.declared.setup.ThreadPart.{ThreadPart}
use Rattle.table_words.specs.Setups.{setup_bounds, setup_words, first_birth}
use Rattle.table_words.specs.Parts.{part_after, state_at_birth, IsSetupRun, IsPartOf, IsPartInRun, MayMakeNext}
use Rattle.table_words.specs.Plays.{SeatMayMake}
use Rattle.table_words.proofs.Growing.{begins, single}
use Rattle.table_hosts.specs.Standing.{CanHaveTurn, ThreadsCanGoOn, IsAfterSteps}
use Rattle.table_hosts.proofs.ThreadSteps.{IsThreads, makes_threads, makes_own}

module _ {C S : Type 0} (state : C → S) (code : Code S) (k : Setup C) where
  -- the run just before a part grew by its last step, with the answer that its words gave
  pub record JustBefore (p : ThreadPart C) (m : StepMade) : Type 0 where
    pub run : List RunEntry
    pub is_run : IsSetupRun state code k run
    pub is_part : IsPartOf k run p
    pub answered : m.answer ≡ answer_of (words_by (setup_words k) run) m.step

  shorter : (e : RunEntry) (run : List RunEntry) → IsSetupRun state code k (e ∷ run) → IsSetupRun state code k run
  shorter e run is = (begin_with_runs code (setup_bounds k) (state_at_birth state code k) (first_birth k) (setup_words k) e run (begins state code k (e ∷ run) is)).is_run

  module _ (p : ThreadPart C) (m : StepMade) (its : p.setup ≡ k) where
    abbrev IsOnly : List RunEntry → Type 0
    IsOnly run = (x : Birth) → Contains (births (first_birth k) run) x → x.number ≡ p.birth.number → x ≡ p.birth

    abbrev first_of : List StepMade → StepMade
    first_of [] = m
    first_of (x ∷ xs) = x

    abbrev others_of : List StepMade → List StepMade
    others_of [] = []
    others_of (x ∷ xs) = xs

    longer_only : (e : RunEntry) (run : List RunEntry) → IsOnly (e ∷ run) → IsOnly run
    longer_only e run only x there number = only x (begun_later e.made.step (births (first_birth k) run) x there) number

    goes_back : (run : List RunEntry) → IsSetupRun state code k run → IsOnly run → m ∷ p.steps ≡ part_of p.birth.number run → JustBefore p m
    goes_back [] is only same = absurd (not_none same)
      where
        not_none : m ∷ p.steps ≡ [] → ⊥
        not_none e = cc
    goes_back (e ∷ run) is only same = by_test (goes_back run (shorter e run is) (longer_only e run only)) (nat_eq e.thread p.birth.number) refl same
      where
        by_test : (m ∷ p.steps ≡ part_of p.birth.number run → JustBefore p m) → (t : Bool) → nat_eq e.thread p.birth.number ≡ t → m ∷ p.steps ≡ (if t then e.made ∷ part_of p.birth.number run else part_of p.birth.number run) → JustBefore p m
        by_test back true own grown =
            let made : m ≡ e.made = ap first_of grown in
            let steps : p.steps ≡ part_of p.birth.number run = ap others_of grown in
            let maker = is.begun.1 in
            let born = longer_only e run only maker.0 maker.1 (maker.2 ∙ equal e.thread p.birth.number own) in
            record {
              run = run;
              is_run = shorter e run is;
              is_part = record { setup = its; steps = steps; born = subst (Contains (births (first_birth k) run)) born maker.1 };
              answered = ap (λ (x : StepMade). x.answer) made ∙ is.words.1 ∙ ap (λ (x : StepMade). answer_of (words_by (setup_words k) run) x.step) (sym made);
            }
        by_test back false other grown = back grown

  just_before : (p : ThreadPart C) (m : StepMade) → IsPartInRun state code k (part_after p m) → JustBefore p m
  just_before p m r =
      let part = r.is_part in
      goes_back p m part.setup r.run r.is_run (λ x there number. single state code k r.run r.is_run x p.birth there part.born number) part.steps

  module _ (p : ThreadPart C) (th : ThreadState S) (after : IsAfterSteps state code k p th) where
    stands_in : (run : List RunEntry) → IsPartOf k run p → StandsBehind code (setup_bounds k) (state_at_birth state code k) (first_birth k) run p.birth.number th
    stands_in run part = record {
      birth = p.birth;
      begun = part.born;
      number = refl;
      last = after.last;
      own = subst (λ steps. OwnTo code (setup_bounds k) (state_at_birth state code k p.birth) steps after.last) part.steps after.own;
      moves = after.moves;
      quietly = after.quietly;
    }

    module _ (can : ThreadsCanGoOn state code k) (going : th.over ≡ false) where
      pub can_in : (run : List RunEntry) → IsSetupRun state code k run → IsPartOf k run p → CanHaveTurn state code k (words_by (setup_words k) run) th
      can_in run is part = can run is p.birth.number th (stands_in run part) going

      pub names_in : (step : Step) (a : StepAnswer) → next_move code (setup_bounds k) th ≡ Make step → IsPartInRun state code k (part_after p (step_made step a)) → NamesThread step a
      names_in step a makes r =
          let before = just_before p (step_made step a) r in
          subst (NamesThread step) (sym before.answered) ((can_in before.run before.is_run before.is_part).names step makes)

    -- what is so of it in a run of which this is its part
    pub can_now : (r : IsPartInRun state code k p) → ThreadsCanGoOn state code k → th.over ≡ false → CanHaveTurn state code k (words_by (setup_words k) r.run) th
    can_now r can going = can_in can going r.run r.is_run r.is_part

    module _ (r : IsPartInRun state code k p) where
      -- a thread that is after its part of a run is fit
      fit : IsFit code th
      fit =
          let all = begins state code k r.run r.is_run in
          let own = subst (λ steps. OwnTo code (setup_bounds k) (state_at_birth state code k p.birth) steps after.last) r.is_part.steps after.own in
          (run_facts code (setup_bounds k) (state_at_birth state code k) (first_birth k) (setup_words k) all.sections all.threads r.run r.is_run).fit p.birth.number th
          (record { start = state_at_birth state code k p.birth; begins = all.threads p.birth; behind = after.last; own = own; moves = after.moves; quiet = after.quietly })

      own_to : (step : Step) (a : StepAnswer) → next_move code (setup_bounds k) th ≡ Make step
          → OwnTo code (setup_bounds k) (state_at_birth state code k p.birth) (step_made step a ∷ p.steps) (after_answer code (setup_bounds k) th step a)
      own_to step a makes = (
        after.last,
        th,
        after.moves,
        after.own,
        after.quietly,
        subst (λ t. MakesOwn t code (setup_bounds k) (step_made step a) th (after_answer code (setup_bounds k) th step a))
            (sym (makes_own code (setup_bounds k) th step fit.attempt makes)) (makes, refl),
      )

      pub step_after : (step : Step) (a : StepAnswer) → next_move code (setup_bounds k) th ≡ Make step
          → IsAfterSteps state code k (part_after p (step_made step a)) (after_answer code (setup_bounds k) th step a)
      step_after step a makes = record { last = after_answer code (setup_bounds k) th step a; own = own_to step a makes; moves = 0; quietly = refl }

      may_make : ThreadsCanGoOn state code k → th.over ≡ false → (step : Step) → next_move code (setup_bounds k) th ≡ Make step → MayMakeNext state code k p step
      may_make can going step makes = record {
        in_run = r;
        own = λ a. (after_answer code (setup_bounds k) th step a, own_to step a makes);
        there = (can_in can going r.run r.is_run r.is_part).there step makes;
        room = λ run is part. (can_in can going run is part).room step makes;
      }

      allowed_of : (step : Step) → IsThreads step → MayMakeNext state code k p step → SeatMayMake state code k (p ∷ []) step
      allowed_of LoadStop is may = absurd is
      allowed_of SetStop is may = absurd is
      allowed_of (LookMonitor r) is may = absurd is
      allowed_of (LookSection s) is may = absurd is
      allowed_of (BreakLevel s old level) is may = absurd is
      allowed_of step is may = may

      pub allowed : ThreadsCanGoOn state code k → th.over ≡ false → (step : Step) → next_move code (setup_bounds k) th ≡ Make step → SeatMayMake state code k (p ∷ []) step
      allowed can going step makes = allowed_of step (makes_threads code (setup_bounds k) th step fit.attempt makes) (may_make can going step makes)

    pub quiet_after : (l : S) → next_move code (setup_bounds k) th ≡ Quiet → quiet_step code th.local ≡ Some l → IsAfterSteps state code k p (after_quiet th l)
    quiet_after l move step = record {
      last = after.last;
      own = after.own;
      moves = suc after.moves;
      quietly = (th, l, after.quietly, move, step, refl);
    }
