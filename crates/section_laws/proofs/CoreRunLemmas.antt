-- The facts on sections along a run that is one list.
use Rattle.std.proofs.Common.{◌≡◌, ◌≢◌, ◌⊎◌, inl, inr, ℕ, zero, suc, ◌<◌, Bool, true, false, List, [], ◌∷◌, nat_eq, refl, sym, ◌∙◌, ap, subst, arith}
use Rattle.std.specs.Prelude.{Contains, if◌then◌else◌}
use Rattle.std.proofs.lemmas.Grind.{common_steps}
use Rattle.std.proofs.lemmas.Bool.Decides.{nat_tests}
use Rattle.op_core.specs.ThreadCode.{Code}
use Rattle.heap_words.specs.declared.areas.Area.TheVariants.{Section}
use Rattle.section_state.specs.SectionWord.{state_of}
use Rattle.step_port.specs.declared.step.Step.{Step}
use Rattle.step_port.specs.declared.step.Step.TheVariants.{Split}
use Rattle.step_port.specs.Steps.{effect_of}
use Rattle.step_port.specs.Words.{Words, CanAnswer, words_after}
use Rattle.thread_automaton.specs.declared.Bounds.{Bounds}
use Rattle.thread_automaton.specs.declared.Move.TheVariants.{Make}
use Rattle.thread_automaton.specs.ThreadState.{ThreadState}
use Rattle.thread_automaton.specs.NextMove.{next_move}
use Rattle.thread_automaton.specs.Told.{after_answer}
use Rattle.automaton_rows.specs.Fits.{IsFit}
use Rattle.automaton_rows.proofs.RowLemmas.{words_can_answer}
use Rattle.automaton_rows.proofs.FitLemmas.{answers_keep}
use Rattle.core_runs.specs.declared.StepMade.{StepMade}
use Rattle.core_runs.specs.WordRuns.{RunEntry, words_by, part_of}
use Rattle.core_runs.specs.declared.Birth.{Birth}
use Rattle.core_runs.specs.OwnParts.{is_beside, Quietly, MakesOwn, OwnTo, IsOwnPart, births_after, births, IsCoreRun}
use Rattle.section_laws.specs.Runs.{BeginsAt, RunsBeginWithRuns}
use Rattle.section_laws.proofs.DeedLemmas.{view, calm, Deed, deed_of}
use Rattle.section_laws.proofs.ClaimLemmas.{section_changes}
use Rattle.section_laws.proofs.FactLemmas.{silent_steps_keep, Facts, touched_some, stays_opened, came_other, came_own, step_facts, Calmed, as_before, calmed, still_facts, first_facts, beside_touches, beside_facts}

-- ---- lists

pub in_front : {A : Type 0} (y x : A) (xs : List A) → Contains (y ∷ xs) x → (y ≡ x) ⊎ Contains xs x
in_front y x xs (zero, below, is) = inl is
in_front y x xs (suc k, below, is) = inr (k, omega (arith, below), is)

pub behind_front : {A : Type 0} (y x : A) (xs : List A) → Contains xs x → Contains (y ∷ xs) x
behind_front y x xs (k, below, is) = (suc k, omega (arith, below), is)

pub none_there : {A : Type 0} {P : Type 0} (x : A) → Contains [] x → P
none_there x (k, below, is) = absurd (no k below)
  where
    no : (k : ℕ) → k < 0 → ⊥
    no k below = omega arith

pub begun_later : (step : Step) (births : List Birth) (birth : Birth) → Contains births birth → Contains (births_after step births) birth
begun_later (Split n r p) births birth there = behind_front _ birth births there
begun_later step births birth there = there

pub equal : (m n : ℕ) → nat_eq m n ≡ true → m ≡ n
equal m n is = grind (arith, common_steps, nat_tests)

pub differ : (m n : ℕ) → nat_eq m n ≡ false → n ≢ m
differ m n is same = grind (arith, common_steps, nat_tests)

module _ {S : Type 0} (code : Code S) (b : Bounds) where
  -- ---- silent moves

  quietly_calms : (n : ℕ) (x y : ThreadState S) → IsFit code x → Quietly code b n x y → (y ≡ x) ⊎ Calmed code x y
  quietly_calms zero x y fit is = inl (sym is)
  quietly_calms (suc n) x y fit (z, l, before, move, step, is) = elim (quietly_calms n x z fit before) [
    | inl same ↦
        let fit_z : IsFit code z = subst (IsFit code) (sym same) fit in
        inr (record { seen = ap view is ∙ ap (λ (th : ThreadState S). calm (view th)) same; fit = subst (IsFit code) (sym is) (silent_steps_keep code z l fit_z) })
    | inr so ↦ inr (record { seen = ap view is ∙ ap calm so.seen; fit = subst (IsFit code) (sym is) (silent_steps_keep code z l so.fit) })
  ]

  -- ---- who is where

  -- from some beginning on, these are its steps, and then it has made silent moves
  pub record StandsIn (run : List RunEntry) (u : ℕ) (th : ThreadState S) : Type 0 where
    pub start : ThreadState S
    pub begins : BeginsAt start
    pub behind : ThreadState S
    pub own : OwnTo code b start (part_of u run) behind
    pub moves : ℕ
    pub quiet : Quietly code b moves behind th

  -- without the silent moves
  pub record StandsRight (run : List RunEntry) (u : ℕ) (th : ThreadState S) : Type 0 where
    pub start : ThreadState S
    pub begins : BeginsAt start
    pub own : OwnTo code b start (part_of u run) th

  settle_down : (w : Words) (run : List RunEntry) → Facts code w (StandsRight run) → Facts code w (StandsIn run)
  settle_down w run facts = still_facts code w (StandsRight run) facts (StandsIn run) (λ u th at.
      let right : StandsRight run u at.behind = record { start = at.start; begins = at.begins; own = at.own } in
      elim (quietly_calms at.moves at.behind th (facts.fit u at.behind right) at.quiet) [
        | inl same ↦ as_before (subst (StandsRight run u) (sym same) right)
        | inr so ↦ calmed at.behind right so
      ])

  module _ (first : Birth → ThreadState S) (main : Birth) (w : Words) (none : (s : ℕ) → w (Section s) ≡ 0) (fresh : (birth : Birth) → BeginsAt (first birth)) where
    abbrev pub IsRun : List RunEntry → Type 0
    IsRun run = IsCoreRun code b first main w run

    -- what a run begins with is a run
    pub sub_run : (e : RunEntry) (run : List RunEntry) → IsRun (e ∷ run) → IsRun run
    sub_run e run so = record {
      words = so.words.0;
      begun = so.begun.0;
      own = λ birth there. shorter (nat_eq e.thread birth.number) (first birth) (part_of birth.number run) (so.own birth (begun_later e.made.step (births main run) birth there));
    }
      where
        shorter : (t : Bool) (x : ThreadState S) (part : List StepMade) → IsOwnPart code b x (if t then e.made ∷ part else part) → IsOwnPart code b x part
        shorter true x part (y, (z, behind, n, own, quiet, makes)) = (z, own)
        shorter false x part own = own

    -- the thread that makes the step of an entry
    pub record Maker (e : RunEntry) (run : List RunEntry) : Type 0 where
      pub thread : ThreadState S
      pub stands : StandsIn run e.thread thread
      pub move : next_move code b thread ≡ Make e.made.step

    -- a thread whose number the entry has made its step
    pub data Made (e : RunEntry) (run : List RunEntry) (u : ℕ) (y : ThreadState S) : Type 0 where
      by_other : u ≢ e.thread → StandsIn run u y → Made e run u y
      by_itself : u ≡ e.thread → (z : ThreadState S) → StandsIn run e.thread z → MakesOwn (is_beside e.made.step) code b e.made z y → Made e run u y

    pub made : (e : RunEntry) (run : List RunEntry) (u : ℕ) (y : ThreadState S) → StandsRight (e ∷ run) u y → Made e run u y
    made e run u y at = by_test (nat_eq e.thread u) refl at.own
      where
        by_test : (t : Bool) → nat_eq e.thread u ≡ t → OwnTo code b at.start (if t then e.made ∷ part_of u run else part_of u run) y → Made e run u y
        by_test true is (behind, z, n, own, quiet, makes) =
            let here : e.thread ≡ u = equal e.thread u is in
            by_itself (sym here) z (record {
              start = at.start;
              begins = at.begins;
              behind = behind;
              own = subst (λ v. OwnTo code b at.start (part_of v run) behind) (sym here) own;
              moves = n;
              quiet = quiet;
            }) makes
        by_test false is own = by_other (differ e.thread u is) (record { start = at.start; begins = at.begins; behind = y; own = own; moves = 0; quiet = refl })

    pub maker : (e : RunEntry) (run : List RunEntry) → IsRun (e ∷ run) → is_beside e.made.step ≡ false → Maker e run
    maker e run so stays =
        let birth = so.begun.1 in
        let part = so.own birth.0 (begun_later e.made.step (births main run) birth.0 birth.1) in
        elim (made e run birth.0.number part.0 (record { start = first birth.0; begins = fresh birth.0; own = part.1 })) [
          | by_other other at ↦ absurd (other birth.2)
          | by_itself own z at makes ↦
              record { thread = z; stands = at; move = (subst (λ t. MakesOwn t code b e.made z part.0) stays makes).0 }
        ]

    -- ---- the facts

    module _ (e : RunEntry) (run : List RunEntry) (so : IsRun (e ∷ run)) (facts : Facts code (words_by w run) (StandsIn run)) where
      abbrev before : Words
      before = words_by w run

      can : CanAnswer (effect_of e.made.step) e.made.answer
      can = subst (CanAnswer (effect_of e.made.step)) (sym so.words.1) (words_can_answer before e.made.step)

      -- a thread that is there and makes the step
      pub deed_by : (z : ThreadState S) → StandsIn run e.thread z → next_move code b z ≡ Make e.made.step
          → Deed z e.made.step e.made.answer (view (after_answer code b z e.made.step e.made.answer))
      deed_by z at move = deed_of code b z before e.made.step e.made.answer (facts.fit e.thread z at) move so.words.1

      right_facts : (t : Bool) → is_beside e.made.step ≡ t → Facts code (words_by w (e ∷ run)) (StandsRight (e ∷ run))
      right_facts true is =
          still_facts code (words_by w (e ∷ run)) (StandsIn run) (beside_facts code e.made.step before (StandsIn run) is facts) (StandsRight (e ∷ run)) (λ u y at.
          elim (made e run u y at) [
            | by_other other there ↦ as_before there
            | by_itself own z there makes ↦
                let stays : z ≡ y = subst (λ t. MakesOwn t code b e.made z y) is makes in
                as_before (subst (StandsIn run u) stays (subst (λ v. StandsIn run v z) (sym own) there))
          ])
      right_facts false is =
          let one = maker e run so is in
          step_facts code before (StandsIn run) facts e.thread one.thread e.made.step e.made.answer _ one.stands (deed_by one.thread one.stands one.move) so.words.1
          (StandsRight (e ∷ run)) (λ u y at. elim (made e run u y at) [
            | by_other other there ↦ came_other other there
            | by_itself own z there makes ↦
                let does = subst (λ t. MakesOwn t code b e.made z y) is makes in
                came_own own z there (subst (λ x. Deed z e.made.step e.made.answer (view x)) (sym does.1) (deed_by z there does.0))
                (subst (IsFit code) (sym does.1) (answers_keep code b z e.made.step e.made.answer (facts.fit e.thread z there) does.0 can))
          ])

      pub entry_opened : (t : Bool) → is_beside e.made.step ≡ t → (s : ℕ) → 0 < state_of (before (Section s)) → 0 < state_of (words_after e.made.step before (Section s))
      entry_opened true is s some = touched_some (beside_touches e.made.step before s is) some
      entry_opened false is s some =
          let one = maker e run so is in
          stays_opened (section_changes one.thread before (deed_by one.thread one.stands one.move) so.words.1 s) some

    pub run_facts : (run : List RunEntry) → IsRun run → Facts code (words_by w run) (StandsIn run)
    run_facts [] so = settle_down w [] (first_facts code w (StandsRight []) none (λ u th at. subst BeginsAt at.own at.begins))
    run_facts (e ∷ run) so = settle_down (words_by w (e ∷ run)) (e ∷ run) (right_facts e run so (run_facts run (sub_run e run so)) (is_beside e.made.step) refl)

    -- ---- states

    abbrev pub state : List RunEntry → ℕ → ℕ
    state run s = state_of (words_by w run (Section s))

    pub onwards : (e : RunEntry) (run : List RunEntry) → IsRun (e ∷ run) → (s : ℕ) → 0 < state run s → 0 < state (e ∷ run) s
    onwards e run so s some = entry_opened e run so (run_facts run (sub_run e run so)) (is_beside e.made.step) refl s some

pub begin_with_runs : {S : Type 0} (code : Code S) → RunsBeginWithRuns code
begin_with_runs code b first main w e run so =
    record { sections = so.sections; threads = so.threads; is_run = sub_run code b first main w so.sections so.threads e run so.is_run }
