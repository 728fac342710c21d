-- What threads want that have ended, and those that hand a thread out.
use Rattle.std.proofs.Common.{◌≡◌, ℕ, suc, ◌<◌, Bool, true, false, true≢false, Option, None, Some, refl, sym, ◌∙◌, ap, subst}
use Rattle.std.specs.Prelude.{IsSomeAnd, is_some, nat_le, if◌then◌else◌}
use Rattle.op_core.specs.declared.Limit.TheVariants.{Turns}
use Rattle.op_core.specs.declared.Op.TheVariants.{Start, End}
use Rattle.op_core.specs.declared.Next.{Next}
use Rattle.op_core.specs.declared.Next.TheVariants.{Want}
use Rattle.op_core.specs.ThreadCode.{Code}
use Rattle.op_core.specs.OrdinaryState.{set_at, Object}
use Rattle.step_port.specs.declared.answer.StepAnswer.{StepAnswer}
use Rattle.step_port.specs.declared.answer.StepAnswer.TheVariants.{Lost}
use Rattle.step_port.specs.declared.step.Step.{Step}
use Rattle.step_port.specs.declared.step.Step.TheVariants.{EndThread, Split}
use Rattle.step_port.specs.Steps.{effect_of}
use Rattle.step_port.specs.Words.{CanAnswer}
use Rattle.thread_automaton.specs.declared.Bounds.{Bounds}
use Rattle.thread_automaton.specs.declared.Move.{Move}
use Rattle.thread_automaton.specs.declared.Move.TheVariants.{Over, Quiet, Stop}
use Rattle.thread_automaton.specs.declared.Attempt.{Attempt}
use Rattle.thread_automaton.specs.declared.Attempt.TheVariants.{Fixed}
use Rattle.thread_automaton.specs.ThreadState.{ThreadState, first_state}
use Rattle.thread_automaton.specs.NextMove.{move_of, next_move}
use Rattle.thread_automaton.specs.Changes.{Change, ends, changed}
use Rattle.thread_automaton.specs.Answers.{change_of}
use Rattle.thread_automaton.specs.Told.{Told, advanced, born, told, counted_for, after_answer, after_quiet}
use Rattle.automaton_rows.specs.Fits.{IsFit}
use Rattle.automaton_rows.specs.Rows.{Row, is_lost, thread_ended}
use Rattle.automaton_rows.proofs.RowLemmas.{answers_are_rows, words_can_answer}
use Rattle.core_runs.specs.Cores.{Core, threads_by}
use Rattle.core_runs.specs.Acts.{Act, quiet, did, beside, QuietAt, DidAt, ActAt}
use Rattle.section_laws.proofs.FactLemmas.{each}
use Rattle.section_laws.proofs.run_threads.SeenLemmas.{stays, prints_line, ends_thread, seen_steps}
use Rattle.section_laws.specs.Layout.{Objects, FitsObjects}
use Rattle.section_laws.proofs.run_layout.LaidLemmas.{is_there, is_such}
use Rattle.section_laws.proofs.start_words.AttemptLemmas.{IsStarting, starts_none, draws_number, starts_thread, finds_start, start_steps}
use Rattle.section_laws.proofs.level_saves.SaveLemmas.{is_live}

-- a thread ends where that is wanted
abbrev EndsFor : Next → Step → Change → Type 0
EndsFor next (EndThread n) change = (x : Option ℕ) × (next ≡ Want (End x)) × (change ≡ ends)
EndsFor next step change = Unit {0}

ends_lost : (next : Next) (step : Step) (v : ℕ) (change : Change) → CanAnswer (effect_of step) (Lost v) → EndsFor next step change
ends_lost next (EndThread n) v change can = absurd can
ends_lost next step v change can = tt

ends_row : {S : Type 0} (code : Code S) (b : Bounds) (th : ThreadState S) {next : Next} {step : Step} {a : StepAnswer} {change : Change} → Row code b th next step a change → CanAnswer (effect_of step) a
    → EndsFor next step change
ends_row code b th {next} {step} {a} {change} (is_lost {v = v}) can = ends_lost next step v change can
ends_row code b th (thread_ended {x = x} shut) can = (x, refl, refl)
ends_row code b th row can = tt

-- what fits the objects as a start does fits more of them
start_grows : (is_thread : ℕ → Bool) (f g : Objects) → ((q : ℕ) (o : Object) → f q ≡ Some o → g q ≡ Some o) → (r p : ℕ) → FitsObjects is_thread f (Start r p) → FitsObjects is_thread g (Start r p)
start_grows is_thread f g grows r p fits =
    let there = is_there (f r) fits.1 in
    let start = is_such (f r) fits.2 in
    (fits.0, ap is_some (grows r there.0 there.1), subst (λ x. IsSomeAnd x (λ (o : Object). (is_thread o.class ≡ true) × (1 < o.words))) (sym (grows r start.0 start.1)) start.2)

-- a thread that makes a silent move isn't over
quiet_live : {S : Type 0} (code : Code S) (b : Bounds) (th : ThreadState S) → next_move code b th ≡ Quiet → th.over ≡ false
quiet_live code b th is = by_over th.over refl is
  where
    IsQuiet : Move → Type 0
    IsQuiet Quiet = Unit {0}
    IsQuiet move = ⊥

    by_over : (x : Bool) → th.over ≡ x → (if x then Over else if nat_le b.limits.turns th.counted then Stop Turns else move_of code th (code.next th.local) th.attempt) ≡ Quiet → th.over ≡ false
    by_over true over is = absurd (subst IsQuiet (sym is) tt)
    by_over false over is = over

-- A thread that is over wants its end; and where one is about to hand a thread out, the start fits the objects.
pub record Rests {S : Type 0} (code : Code S) (is_thread : ℕ → Bool) (objects : Objects) (th : ThreadState S) : Type 0 where
  pub ended : th.over ≡ true → (x : Option ℕ) × (code.next th.local ≡ Want (End x))
  pub splits : (n r p : ℕ) → th.attempt ≡ Fixed (Split n r p) → FitsObjects is_thread objects (Start r p)

pub rests_first : {S : Type 0} (code : Code S) (is_thread : ℕ → Bool) (objects : Objects) (number priority : ℕ) (l : S) → Rests code is_thread objects (first_state number priority l)
rests_first code is_thread objects number priority l = record { ended = λ is. absurd (true≢false (sym is)); splits = λ n r p is. absurd (subst IsStarting (sym is) tt) }

module _ {S : Type 0} (code : Code S) (b : Bounds) (is_thread : ℕ → Bool) (c : ℕ → Core S) (k : ℕ)
    (fit : (t : ℕ) (th : ThreadState S) → (c k).threads t ≡ Some th → IsFit code th)
    (wants : (t r p : ℕ) (th : ThreadState S) → (c k).threads t ≡ Some th → code.next th.local ≡ Want (Start r p) → FitsObjects is_thread (c k).objects (Start r p))
    (grows : (q : ℕ) (o : Object) → (c k).objects q ≡ Some o → (c (suc k)).objects q ≡ Some o) where
  abbrev pub RestsAt : ℕ → Type 0
  RestsAt n = (t : ℕ) (th : ThreadState S) → (c n).threads t ≡ Some th → Rests code is_thread (c n).objects th

  later : (th : ThreadState S) → Rests code is_thread (c k).objects th → Rests code is_thread (c (suc k)).objects th
  later th so = record { ended = so.ended; splits = λ n r p is. start_grows is_thread (c k).objects (c (suc k)).objects grows r p (so.splits n r p is) }

  did_rests : (t : ℕ) (step : Step) (a : StepAnswer) → DidAt code b c k t step a → RestsAt k → RestsAt (suc k)
  did_rests t step a at before u uh there = handed step u uh (ap (λ z. z.threads u) (sym at.leads) ∙ there)
    where
      fits : IsFit code at.from
      fits = fit t at.from at.stands

      can : CanAnswer (effect_of step) a
      can = subst (CanAnswer (effect_of step)) (sym at.answered) (words_can_answer (c k).words step)

      counted_local : (told : Told) (z : ThreadState S) → (counted_for told z).local ≡ z.local
      counted_local (advanced None) z = refl
      counted_local (advanced (Some reply)) z = refl
      counted_local born z = refl
      counted_local other z = refl

      not_over : {A : Type 0} → (after_answer code b at.from step a).over ≡ at.from.over → (after_answer code b at.from step a).over ≡ true → A
      not_over same over = absurd (true≢false (sym over ∙ same ∙ is_live code b at.from step at.move))

      own_ended : (after_answer code b at.from step a).over ≡ true → (x : Option ℕ) × (code.next (after_answer code b at.from step a).local ≡ Want (End x))
      own_ended over = elim (seen_steps code b at.from (c k).words step a fits.attempt at.move at.answered) [
        | stays calm same ↦ not_over (ap (λ v. v.over) same) over
        | prints_line n x is found wanted same ↦ not_over (ap (λ v. v.over) same) over
        | ends_thread is same ↦
            let change = change_of code b at.from (code.next at.from.local) step a in
            let so : EndsFor (code.next at.from.local) (EndThread at.from.number) change =
            subst (λ m. EndsFor (code.next at.from.local) m change) is (ends_row code b at.from (answers_are_rows code b at.from step a fits.attempt at.move can) can) in
            (so.0, ap code.next (counted_local (told code b at.from step a) (changed code at.from change) ∙ ap (λ ch. (changed code at.from ch).local) so.2) ∙ so.1)
      ]

      own_splits : (n r p : ℕ) → (after_answer code b at.from step a).attempt ≡ Fixed (Split n r p) → FitsObjects is_thread (c (suc k)).objects (Start r p)
      own_splits n r p is = elim (start_steps code b at.from (c k).words step a fits.attempt at.move at.answered) [
        | starts_none none ↦ absurd (none (subst IsStarting (sym is) tt))
        | draws_number q o m draws found wanted stands ↦ absurd (subst IsSplit (sym is ∙ stands) tt)
        | starts_thread q o m sets done wanted stands local ↦
            let same = same_split m q o n r p (sym stands ∙ is) in
            start_grows is_thread (c k).objects (c (suc k)).objects grows r p
            (subst (λ x. FitsObjects is_thread (c k).objects (Start r x)) same.1 (subst (λ x. FitsObjects is_thread (c k).objects (Start x o)) same.0 (wants t q o at.from at.stands wanted)))
        | finds_start q v loads found some wanted stands local ↦ absurd (subst IsSplit (sym is ∙ stands) tt)
      ]
        where
          IsSplit : Attempt → Type 0
          IsSplit (Fixed (Split n r p)) = Unit {0}
          IsSplit attempt = ⊥

          object_in : Attempt → ℕ
          object_in (Fixed (Split n r p)) = r
          object_in attempt = 0

          priority_in : Attempt → ℕ
          priority_in (Fixed (Split n r p)) = p
          priority_in attempt = 0

          same_split : (m q o n r p : ℕ) → Fixed (Split m q o) ≡ Fixed (Split n r p) → (q ≡ r) × (o ≡ p)
          same_split m q o n r p same = (ap object_in same, ap priority_in same)

      there_rests : (u : ℕ) (uh : ThreadState S) → set_at (c k).threads t (Some (after_answer code b at.from step a)) u ≡ Some uh → Rests code is_thread (c (suc k)).objects uh
      there_rests u = each (Rests code is_thread (c (suc k)).objects) (c k).threads t (after_answer code b at.from step a) u (λ own. record { ended = own_ended; splits = own_splits })
          (λ vh other at_v. later vh (before u vh at_v))

      handed : (m : Step) (u : ℕ) (uh : ThreadState S) → threads_by code m at.from.local (set_at (c k).threads t (Some (after_answer code b at.from step a))) u ≡ Some uh → Rests code is_thread (c (suc k)).objects uh
      handed (Split n r p) u uh there = each (Rests code is_thread (c (suc k)).objects) (set_at (c k).threads t (Some (after_answer code b at.from step a))) n (first_state n p (code.child at.from.local r)) u
          (λ own. rests_first code is_thread (c (suc k)).objects n p (code.child at.from.local r)) (λ vh other at_v. there_rests u vh at_v) uh there
      handed m u uh there = there_rests u uh there

  quiet_rests : (t : ℕ) → QuietAt code b c k t → RestsAt k → RestsAt (suc k)
  quiet_rests t at before u uh there =
      each (Rests code is_thread (c (suc k)).objects) (c k).threads t (after_quiet at.from at.local) u
      (λ own. record { ended = λ over. absurd (not_over at.from over); splits = λ n r p is. absurd (subst IsStarting (sym is) tt) })
      (λ vh other at_v. later vh (before u vh at_v)) uh (ap (λ z. z.threads u) (sym at.leads) ∙ there)
    where
      not_over : (th : ThreadState S) → at.from.over ≡ true → ⊥
      not_over th over = true≢false (sym over ∙ quiet_live code b at.from at.move)

  pub act_rests : (act : Act) → ActAt code b c k act → RestsAt k → RestsAt (suc k)
  act_rests (quiet t) at before u uh there = quiet_rests t at before u uh there
  act_rests (did t step a) at before u uh there = did_rests t step a at before u uh there
  act_rests (beside t step a) at before u uh there = later uh (before u uh (ap (λ z. z.threads u) (sym at.leads) ∙ there))
