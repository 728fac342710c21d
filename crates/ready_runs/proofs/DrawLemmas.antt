-- How many numbers are drawn along a run: no more than its threads have counted turns.
use Rattle.std.proofs.Common.{◌≡◌, ℕ, suc, ◌+◌, ◌*◌, ◌<◌, ◌≤◌, true, Option, None, Some, List, length, refl, sym, ◌∙◌, ap, subst, arith}
use Rattle.std.specs.Prelude.{slice_get}
use Rattle.std.proofs.lemmas.Option.{slice_get_within}
use Rattle.op_core.specs.ThreadCode.{Code}
use Rattle.op_core.specs.OrdinaryState.{set_at}
use Rattle.op_core.proofs.PointwiseLemmas.{set_at-at}
use Rattle.heap_words.specs.declared.areas.Area.TheVariants.{Control}
use Rattle.step_port.specs.declared.answer.StepAnswer.{StepAnswer}
use Rattle.step_port.specs.declared.step.Step.{Step}
use Rattle.step_port.specs.declared.step.Step.TheVariants.{DrawSection, Ticket, DrawThread, LoadThread, Split}
use Rattle.step_port.specs.Steps.{place_of, effect_of}
use Rattle.step_port.specs.Words.{Words, CanAnswer, words_after}
use Rattle.thread_automaton.specs.declared.Bounds.{Bounds}
use Rattle.thread_automaton.specs.declared.Move.TheVariants.{Quiet, Make}
use Rattle.thread_automaton.specs.ThreadState.{ThreadState, first_state}
use Rattle.thread_automaton.specs.Told.{after_answer, after_quiet}
use Rattle.automaton_rows.proofs.RowLemmas.{words_can_answer}
use Rattle.core_runs.specs.OwnParts.{is_beside}
use Rattle.core_runs.specs.Cores.{Core, threads_by}
use Rattle.core_runs.specs.Acts.{Act, quiet, did, beside, ActAt}
use Rattle.section_laws.specs.Runs.{IsRun}
use Rattle.section_laws.proofs.WordLemmas.{stays_at}
use Rattle.section_laws.proofs.ClaimLemmas.{none_some}
use Rattle.section_laws.proofs.FactLemmas.{each}
use Rattle.section_laws.proofs.RunLemmas.{along}
use Rattle.section_laws.specs.Numbers.{AreNumbered}
use Rattle.section_laws.proofs.run_threads.NumberLemmas.{threads_are_numbered, threads_are_new}
use Rattle.ready_runs.proofs.SumLemmas.{sum_below, sum_rises, sum_rises_by, sum_is_low, of_thread, sum_up, sum_up_by}
use Rattle.ready_runs.proofs.CountLemmas.{draws, draws_count, counts_most, turns_left}

-- ---- what threads have, as one makes a step

module _ {S : Type 0} (code : Code S) (f : ThreadState S → ℕ) (threads : ℕ → Option (ThreadState S)) (t : ℕ) (th y : ThreadState S) (stands : threads t ≡ Some th) (d : ℕ) (up : f th + d ≤ f y) where
  abbrev Rises : ℕ → ℕ → Option (ThreadState S) → Type 0
  Rises u e o = of_thread f (threads u) + e ≤ of_thread f o

  has : (u : ℕ) → u ≡ t → of_thread f (threads u) ≡ f th
  has u own = ap (of_thread f) (ap threads own ∙ stands)

  stays : (u : ℕ) → Rises u 0 (threads u)
  stays u = omega arith

  own_up : (u : ℕ) → Rises u 0 (set_at threads t (Some y) u)
  own_up u = set_at-at (Rises u 0) threads t (Some y) u (λ own. let is = has u own in omega (arith, is, up)) (λ other. stays u)

  own_more : Rises t d (set_at threads t (Some y) t)
  own_more = set_at-at (Rises t d) threads t (Some y) t (λ own. let is = has t refl in omega (arith, is, up)) (λ other. absurd (other refl))

  module _ (step : Step) (new : (n r p : ℕ) → step ≡ Split n r p → threads n ≡ None) where
    pub all_up : (u : ℕ) → of_thread f (threads u) ≤ of_thread f (threads_by code step th.local (set_at threads t (Some y)) u)
    all_up u = let low = by_step step refl in omega (arith, low)
      where
        by_step : (s : Step) → step ≡ s → Rises u 0 (threads_by code s th.local (set_at threads t (Some y)) u)
        by_step (Split n r p) is = set_at-at (Rises u 0) (set_at threads t (Some y)) n (Some (first_state n p (code.child th.local r))) u
            (λ mine. let none = ap (of_thread f) (ap threads mine ∙ new n r p is) in omega (arith, none)) (λ other. own_up u)
        by_step s is = own_up u

    pub one_up : of_thread f (threads t) + d ≤ of_thread f (threads_by code step th.local (set_at threads t (Some y)) t)
    one_up = by_step step refl
      where
        by_step : (s : Step) → step ≡ s → Rises t d (threads_by code s th.local (set_at threads t (Some y)) t)
        by_step (Split n r p) is = set_at-at (Rises t d) (set_at threads t (Some y)) n (Some (first_state n p (code.child th.local r))) t
            (λ mine. none_some th (sym (new n r p is) ∙ ap threads (sym mine) ∙ stands)) (λ other. own_more)
        by_step s is = own_more

  -- the same where only this thread changes
  pub quiet_up : (u : ℕ) → of_thread f (threads u) ≤ of_thread f (set_at threads t (Some y) u)
  quiet_up u = let low = own_up u in omega (arith, low)

-- ---- numbers that are drawn

-- numbers of sections and of threads, and tickets
abbrev pub drawn_in : Words → ℕ
drawn_in w = w (Control 1) + w (Control 3) + w (Control 4)

drawn_after : (step : Step) (w : Words) → drawn_in (words_after step w) ≡ drawn_in w + draws step
drawn_after DrawSection w = omega arith
drawn_after Ticket w = omega arith
drawn_after DrawThread w = omega arith
drawn_after (LoadThread which) w = omega arith
drawn_after step w =
    let one = stays_at (effect_of step) w (place_of step) (Control 1) refl in
    let three = stays_at (effect_of step) w (place_of step) (Control 3) refl in
    let four = stays_at (effect_of step) w (place_of step) (Control 4) refl in
    omega (arith, one, three, four)

beside_draws : (step : Step) → is_beside step ≡ true → draws step ≡ 0
beside_draws DrawSection is = cc
beside_draws Ticket is = cc
beside_draws DrawThread is = cc
beside_draws step is = refl

module _ {S : Type 0} (code : Code S) (b : Bounds) (c : ℕ → Core S) (acts : List Act) (run : IsRun code b c acts) (numbers : AreNumbered (c 0)) where
  -- a thread that is handed out is new
  pub handed_new : (k t : ℕ) (step : Step) (a : StepAnswer) → slice_get acts k ≡ Some (did t step a) → (n r p : ℕ) → step ≡ Split n r p → (c k).threads n ≡ None
  handed_new k t step a here n r p is = threads_are_new code b c acts run numbers k t n r p a (here ∙ ap (λ s. Some (did t s a)) is)

  pub number_low : (k t : ℕ) (th : ThreadState S) → k ≤ length acts → (c k).threads t ≡ Some th → t < 256
  number_low k t th within stands = (threads_are_numbered code b c acts run numbers k within).low t th stands

  -- ---- counted turns

  abbrev TurnsAt : ℕ → Type 0
  TurnsAt k = (t : ℕ) (th : ThreadState S) → (c k).threads t ≡ Some th → th.counted ≤ b.limits.turns

  up_to : (m n turns : ℕ) → m ≤ suc n → n < turns → m ≤ turns
  up_to m n turns low less = omega (arith, low, less)

  act_turns : (k : ℕ) (x : Act) → ActAt code b c k x → TurnsAt k → TurnsAt (suc k)
  act_turns k (quiet t) at before u uh there = each (λ z. z.counted ≤ b.limits.turns) (c k).threads t (after_quiet at.from at.local) u
      (λ own. up_to (suc at.from.counted) at.from.counted b.limits.turns (omega arith) (turns_left code b at.from Quiet at.move tt)) (λ xh differs is. before u xh is) uh
      (ap (λ (core : Core S). core.threads u) (sym at.leads) ∙ there)
  act_turns k (did t step a) at before u uh there = handed step u uh (ap (λ (core : Core S). core.threads u) (sym at.leads) ∙ there)
    where
      y : ThreadState S
      y = after_answer code b at.from step a

      there_low : (v : ℕ) (vh : ThreadState S) → set_at (c k).threads t (Some (after_answer code b at.from step a)) v ≡ Some vh → vh.counted ≤ b.limits.turns
      there_low v = each (λ z. z.counted ≤ b.limits.turns) (c k).threads t (after_answer code b at.from step a) v
          (λ own. up_to (after_answer code b at.from step a).counted at.from.counted b.limits.turns (counts_most code b at.from step a) (turns_left code b at.from (Make step) at.move tt)) (λ xh differs is. before v xh is)

      handed : (made : Step) (v : ℕ) (vh : ThreadState S) → threads_by code made at.from.local (set_at (c k).threads t (Some (after_answer code b at.from step a))) v ≡ Some vh → vh.counted ≤ b.limits.turns
      handed (Split n r p) v = each (λ z. z.counted ≤ b.limits.turns) (set_at (c k).threads t (Some (after_answer code b at.from step a))) n (first_state n p (code.child at.from.local r)) v
          (λ own. omega arith) (λ xh differs is. there_low v xh is)
      handed made v = there_low v
  act_turns k (beside t step a) at before u uh there = before u uh (ap (λ (core : Core S). core.threads u) (sym at.leads) ∙ there)

  first_turns : TurnsAt 0
  first_turns t th there = let begins = run.begins.threads t th there in let none : th.counted ≡ 0 = ap (λ (z : ThreadState S). z.counted) begins.3 in omega (arith, none)

  turns_at : (k : ℕ) → k ≤ length acts → TurnsAt k
  turns_at k within = along code b c acts run.leads TurnsAt first_turns (λ n x here at before. act_turns n x at before) k within

  -- ---- numbers

  abbrev counted_in : ℕ → ℕ → ℕ
  counted_in k u = of_thread (λ (th : ThreadState S). th.counted) ((c k).threads u)

  abbrev DrawnAt : ℕ → Type 0
  DrawnAt k = drawn_in (c k).words ≤ drawn_in (c 0).words + sum_below (counted_in k) 256

  -- the sum at a core
  abbrev CoreDrawn : Core S → Type 0
  CoreDrawn core = drawn_in core.words ≤ drawn_in (c 0).words + sum_below (λ u. of_thread (λ (th : ThreadState S). th.counted) (core.threads u)) 256

  act_drawn : (k : ℕ) (x : Act) → slice_get acts k ≡ Some x → ActAt code b c k x → DrawnAt k → DrawnAt (suc k)
  act_drawn k (quiet t) here at before = subst CoreDrawn (sym at.leads) (sum_up (drawn_in (c k).words) (drawn_in (c 0).words) _ _ before
      (sum_rises (counted_in k) (λ u. of_thread (λ (th : ThreadState S). th.counted) (set_at (c k).threads t (Some (after_quiet at.from at.local)) u))
      (quiet_up code (λ (th : ThreadState S). th.counted) (c k).threads t at.from (after_quiet at.from at.local) at.stands 0 (omega arith)) 256))
  act_drawn k (did t step a) here at before = subst CoreDrawn (sym at.leads) (sum_up_by (drawn_in (c k).words) (drawn_in (c 0).words) _ _ (draws step) _ before
      (sum_rises_by (counted_in k) (λ u. of_thread (λ (th : ThreadState S). th.counted) (threads_by code step at.from.local (set_at (c k).threads t (Some (after_answer code b at.from step a))) u))
      (all_up code (λ (th : ThreadState S). th.counted) (c k).threads t at.from (after_answer code b at.from step a) at.stands (draws step) more step (handed_new k t step a here)) t (draws step)
      (one_up code (λ (th : ThreadState S). th.counted) (c k).threads t at.from (after_answer code b at.from step a) at.stands (draws step) more step (handed_new k t step a here)) 256
      (number_low k t at.from low at.stands)) (drawn_after step (c k).words))
    where
      low : k ≤ length acts
      low = let is = slice_get_within acts k (did t step a) here in omega (arith, is)

      more : at.from.counted + draws step ≤ (after_answer code b at.from step a).counted
      more = draws_count code b at.from step a (subst (CanAnswer (effect_of step)) (sym at.answered) (words_can_answer (c k).words step))
  act_drawn k (beside t step a) here at before = subst CoreDrawn (sym at.leads) (subst (λ n. n ≤ drawn_in (c 0).words + sum_below (counted_in k) 256) (sym (same step at.is)) before)
    where
      same : (s : Step) → is_beside s ≡ true → drawn_in (words_after s (c k).words) ≡ drawn_in (c k).words
      same s is = let after = drawn_after s (c k).words in let none = beside_draws s is in omega (arith, after, none)

  drawn_at : (k : ℕ) → k ≤ length acts → DrawnAt k
  drawn_at k within = along code b c acts run.leads DrawnAt (omega arith) (λ n x here at before. act_drawn n x here at before) k within

  -- so many are drawn at most
  pub drawn_low : (k : ℕ) → k ≤ length acts → drawn_in (c k).words ≤ drawn_in (c 0).words + 256 * b.limits.turns
  drawn_low k within =
      let drawn = drawn_at k within in
      let sum = sum_is_low (counted_in k) b.limits.turns each_low 256 in
      omega (arith, drawn, sum)
    where
      by_thread : (o : Option (ThreadState S)) (u : ℕ) → (c k).threads u ≡ o → of_thread (λ (th : ThreadState S). th.counted) o ≤ b.limits.turns
      by_thread None u is = omega arith
      by_thread (Some th) u is = turns_at k within u th is

      each_low : (u : ℕ) → counted_in k u ≤ b.limits.turns
      each_low u = by_thread ((c k).threads u) u refl
