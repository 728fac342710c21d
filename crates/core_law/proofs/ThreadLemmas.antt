-- Threads that are over, and threads that are started and not handed out yet, along a run.
use Rattle.std.proofs.Common.{◌≡◌, ◌≢◌, inl, inr, ℕ, suc, ◌≤◌, Bool, true, false, true≢false, Option, None, Some, List, length, refl, sym, ◌∙◌, ap, subst, arith}
use Rattle.std.specs.Prelude.{slice_get, nat_le, if◌then◌else◌}
use Rattle.std.proofs.lemmas.Option.{same_Some, slice_get_within}
use Rattle.op_core.specs.declared.Limit.TheVariants.{Turns}
use Rattle.op_core.specs.declared.Op.TheVariants.{Start}
use Rattle.op_core.specs.declared.Next.{Next}
use Rattle.op_core.specs.declared.Next.TheVariants.{Want}
use Rattle.op_core.specs.ThreadCode.{Code}
use Rattle.op_core.specs.OrdinaryState.{set_at}
use Rattle.op_core.proofs.PointwiseLemmas.{same_or_other, set_at-hit, set_at-other}
use Rattle.step_port.specs.declared.answer.StepAnswer.{StepAnswer}
use Rattle.step_port.specs.declared.answer.StepAnswer.TheVariants.{Done}
use Rattle.step_port.specs.declared.step.Step.{Step}
use Rattle.step_port.specs.declared.step.Step.TheVariants.{EndThread, StartThread, Split}
use Rattle.step_port.specs.Steps.{effect_of}
use Rattle.step_port.specs.Words.{CanAnswer, answer_of}
use Rattle.thread_automaton.specs.declared.Bounds.{Bounds}
use Rattle.thread_automaton.specs.declared.Move.{Move}
use Rattle.thread_automaton.specs.declared.Move.TheVariants.{Over, Quiet, Stop, Make}
use Rattle.thread_automaton.specs.declared.Attempt.TheVariants.{Begin, Fixed}
use Rattle.thread_automaton.specs.ThreadState.{ThreadState, is_open, first_state}
use Rattle.thread_automaton.specs.NextMove.{move_of, next_move}
use Rattle.thread_automaton.specs.Changes.{Change, changed}
use Rattle.thread_automaton.specs.Answers.{thread_started}
use Rattle.thread_automaton.specs.Told.{shown, told_of, counted_for, after_answer, after_quiet}
use Rattle.automaton_rows.specs.Fits.{IsFit}
use Rattle.automaton_rows.specs.Rows.{Row, is_lost, is_started}
use Rattle.automaton_rows.specs.Laws.{TellsOthers}
use Rattle.automaton_rows.proofs.RowLemmas.{answers_are_rows, words_can_answer}
use Rattle.automaton_rows.proofs.PinLemmas.{pins_first}
use Rattle.core_runs.specs.Cores.{Core, threads_by, starting_by}
use Rattle.core_runs.specs.Acts.{Act, quiet, did, beside, QuietAt, DidAt, ActAt}
use Rattle.section_laws.specs.Runs.{IsRun}
use Rattle.section_laws.proofs.DeedLemmas.{makes_it}
use Rattle.section_laws.proofs.FactLemmas.{each}
use Rattle.section_laws.proofs.RunLemmas.{along, facts_at}
use Rattle.section_laws.specs.Numbers.{AreNumbered}
use Rattle.section_laws.proofs.run_threads.SeenLemmas.{stays, prints_line, ends_thread, seen_steps}
use Rattle.section_laws.proofs.run_threads.NumberLemmas.{threads_are_new}
use Rattle.section_laws.proofs.level_saves.SaveLemmas.{is_live}

-- a thread that is over has seen all its levels pinned, and nothing of an attempt is made
pub record IsPast {S : Type 0} (th : ThreadState S) : Type 0 where
  pub shut : is_open th ≡ false
  pub between : th.attempt ≡ Begin

-- thread m is started, and this one is about to hand it out
pub record HandsOut {S : Type 0} (threads : ℕ → Option (ThreadState S)) (m : ℕ) : Type 0 where
  pub parent : ℕ
  pub th : ThreadState S
  pub object : ℕ
  pub priority : ℕ
  pub stands : threads parent ≡ Some th
  pub fixed : th.attempt ≡ Fixed (Split m object priority)

abbrev number_in : Step → ℕ
number_in (Split n r p) = n
number_in step = 0

abbrev started_in : Step → ℕ
started_in (StartThread r n) = n
started_in step = 0

abbrev IsSplit : Step → Type 0
IsSplit (Split n r p) = Unit {0}
IsSplit step = ⊥

abbrev step_in : Move → Step
step_in (Make step) = step
step_in move = Step.DrawSection

abbrev IsNoMove : Move → Type 0
IsNoMove Quiet = ⊥
IsNoMove move = Unit {0}

quiet_it : (over full : Bool) (rest : Move) → (if over then Over else if full then Stop Turns else rest) ≡ Quiet → rest ≡ Quiet
quiet_it true full rest is = absurd (subst IsNoMove is tt)
quiet_it false true rest is = absurd (subst IsNoMove is tt)
quiet_it false false rest is = is

abbrev StartsFor : Step → StepAnswer → Next → Type 0
StartsFor (StartThread r n) Done next = (p : ℕ) × (next ≡ Want (Start r p))
StartsFor step a next = Unit {0}

module _ {S : Type 0} (code : Code S) (b : Bounds) (th : ThreadState S) where
  -- a thread that has fixed a step makes no other
  makes_fixed : (s step : Step) → th.attempt ≡ Fixed s → next_move code b th ≡ Make step → s ≡ step
  makes_fixed s step fixed makes =
      ap step_in (sym (ap (move_of code th (code.next th.local)) fixed) ∙ makes_it th.over (nat_le b.limits.turns th.counted) (move_of code th (code.next th.local) th.attempt) step makes)

  -- nor a silent one
  not_quiet : (s : Step) → th.attempt ≡ Fixed s → next_move code b th ≡ Quiet → ⊥
  not_quiet s fixed is = subst IsNoMove (sym (ap (move_of code th (code.next th.local)) fixed) ∙ quiet_it th.over (nat_le b.limits.turns th.counted) (move_of code th (code.next th.local) th.attempt) is) tt

  -- what becomes of one that has started another
  starts_so : {next : Next} {step : Step} {a : StepAnswer} {change : Change} → Row code b th next step a change → StartsFor step a next
  starts_so (is_started {p = p} shut some low) = (p, refl)
  starts_so {next = next} (is_lost {step = step} {v = v}) = none step
    where
      none : (s : Step) → StartsFor s (StepAnswer.Lost v) next
      none (StartThread r n) = tt
      none s = tt
  starts_so row = tt

  is_to_split : (r n p : ℕ) → code.next th.local ≡ Want (Start r p) → (after_answer code b th (StartThread r n) Done).attempt ≡ Fixed (Split n r p)
  is_to_split r n p wants =
      ap (λ next. (counted_for (told_of next (StartThread r n) Done (thread_started next n) (shown (thread_started next n))) (changed code th (thread_started next n))).attempt) wants

module _ {S : Type 0} (code : Code S) (b : Bounds) (c : ℕ → Core S) (acts : List Act) (run : IsRun code b c acts) (numbered : AreNumbered (c 0)) where
  fit_at : (k t : ℕ) (th : ThreadState S) → k ≤ length acts → (c k).threads t ≡ Some th → IsFit code th
  fit_at k t th within = (facts_at code b c acts run k within).fit t th

  -- ---- threads that are over

  abbrev PastAt : ℕ → Type 0
  PastAt k = (t : ℕ) (th : ThreadState S) → (c k).threads t ≡ Some th → th.over ≡ true → IsPast th

  live_past : (th : ThreadState S) → th.over ≡ false → th.over ≡ true → IsPast th
  live_past th live over = absurd (true≢false (sym over ∙ live))

  did_past : (k t : ℕ) (step : Step) (a : StepAnswer) → k ≤ length acts → DidAt code b c k t step a → PastAt k → PastAt (suc k)
  did_past k t step a within at before u uh there = handed step u uh (ap (λ z. z.threads u) (sym at.leads) ∙ there)
    where
      y : ThreadState S
      y = after_answer code b at.from step a

      live : at.from.over ≡ false
      live = is_live code b at.from step at.move

      ends_past : (n : ℕ) → step ≡ EndThread n → IsPast y
      ends_past n is = subst IsPast (sym (ap (after_answer code b at.from step) at.answered ∙ ap (λ s. after_answer code b at.from s (answer_of (c k).words s)) is))
          (record { shut = pins_first code b at.from step (fit_at k t at.from within at.stands).attempt at.move (subst TellsOthers (sym is) tt); between = refl })

      own_past : y.over ≡ true → IsPast y
      own_past over = elim (seen_steps code b at.from (c k).words step a (fit_at k t at.from within at.stands).attempt at.move at.answered) [
        | stays calm same ↦ live_past y (ap (λ v. v.over) same ∙ live) over
        | prints_line n x is found wanted same ↦ live_past y (ap (λ v. v.over) same ∙ live) over
        | ends_thread is same ↦ ends_past at.from.number is
      ]

      there_past : (u : ℕ) (uh : ThreadState S) → set_at (c k).threads t (Some y) u ≡ Some uh → uh.over ≡ true → IsPast uh
      there_past u = each (λ uh. uh.over ≡ true → IsPast uh) (c k).threads t y u (λ own. own_past) (λ vh other at_v. before u vh at_v)

      handed : (m : Step) (u : ℕ) (uh : ThreadState S) → threads_by code m at.from.local (set_at (c k).threads t (Some y)) u ≡ Some uh → uh.over ≡ true → IsPast uh
      handed (Split n r p) u uh is = each (λ vh. vh.over ≡ true → IsPast vh) (set_at (c k).threads t (Some y)) n (first_state n p (code.child at.from.local r)) u
          (λ own over. live_past (first_state n p (code.child at.from.local r)) refl over) (λ vh other at_v. there_past u vh at_v) uh is
      handed m u uh is = there_past u uh is

  quiet_past : (k t : ℕ) → QuietAt code b c k t → PastAt k → PastAt (suc k)
  quiet_past k t at before u uh there =
      each (λ vh. vh.over ≡ true → IsPast vh) (c k).threads t (after_quiet at.from at.local) u
      (λ own over. absurd (no_quiet over)) (λ vh other at_v. before u vh at_v) uh (ap (λ z. z.threads u) (sym at.leads) ∙ there)
    where
      no_quiet : at.from.over ≡ true → ⊥
      no_quiet over = subst IsNoMove (sym (ap (λ t. if t then Over else if nat_le b.limits.turns at.from.counted then Stop Turns else move_of code at.from (code.next at.from.local) at.from.attempt) over) ∙ at.move) tt

  pub past_at : (k : ℕ) → k ≤ length acts → PastAt k
  past_at k within = along code b c acts run.leads PastAt begins next k within
    where
      begins : PastAt 0
      begins t th at over = live_past th (ap (λ (x : ThreadState S). x.over) (run.begins.threads t th at).3) over

      next : (k : ℕ) (act : Act) → slice_get acts k ≡ Some act → ActAt code b c k act → PastAt k → PastAt (suc k)
      next k (quiet t) here at before u uh there = quiet_past k t at before u uh there
      next k (did t step a) here at before u uh there = let below = slice_get_within acts k _ here in did_past k t step a (omega (arith, below)) at before u uh there
      next k (beside t step a) here at before u uh there = before u uh (ap (λ z. z.threads u) (sym at.leads) ∙ there)

  -- ---- threads that are started

  abbrev StartedAt : ℕ → Type 0
  StartedAt k = (m : ℕ) (l : S) → (c k).starting m ≡ Some l → (c k).threads m ≡ None → HandsOut (c k).threads m

  no_thread : {A : Type 0} (th : ThreadState S) → Some th ≡ None → A
  no_thread th is = cc

  module _ (k t : ℕ) (step : Step) (a : StepAnswer) (here : slice_get acts k ≡ Some (did t step a)) (at : DidAt code b c k t step a) (before : StartedAt k) where
    low : k ≤ length acts
    low = let below = slice_get_within acts k _ here in omega (arith, below)

    abbrev y : ThreadState S
    y = after_answer code b at.from step a

    abbrev now : ℕ → Option (ThreadState S)
    now = set_at (c k).threads t (Some y)

    -- a thread that isn't there wasn't there, and isn't the mover
    unused : (m : ℕ) → now m ≡ None → (m ≢ t) × ((c k).threads m ≡ None)
    unused m none = elim (same_or_other m t) [
      | inl own ↦ no_thread y (sym (set_at-hit (c k).threads t (Some y)) ∙ ap now (sym own) ∙ none)
      | inr other ↦ (other, sym (set_at-other (c k).threads t (Some y) m other) ∙ none)
    ]

    -- its parent stays
    parent_stays : (m : ℕ) → (IsSplit step → number_in step ≢ m) → HandsOut (c k).threads m → HandsOut now m
    parent_stays m apart out = elim (same_or_other out.parent t) [
      | inr other ↦ record { parent = out.parent; th = out.th; object = out.object; priority = out.priority; stands = set_at-other (c k).threads t (Some y) out.parent other ∙ out.stands; fixed = out.fixed }
      | inl own ↦
          let same : at.from ≡ out.th = same_Some at.from out.th (sym at.stands ∙ ap (c k).threads (sym own) ∙ out.stands) in
          let is : Split m out.object out.priority ≡ step = makes_fixed code b at.from (Split m out.object out.priority) step (ap (λ (x : ThreadState S). x.attempt) same ∙ out.fixed) at.move in
          absurd (apart (subst IsSplit is tt) (ap number_in (sym is)))
    ]

    still : (m : ℕ) (l : S) → (IsSplit step → ⊥) → (c k).starting m ≡ Some l → now m ≡ None → HandsOut now m
    still m l none some gone = parent_stays m (λ is. absurd (none is)) (before m l some (unused m gone).1)

    -- the thread that has started it
    starts : (r n : ℕ) → step ≡ StartThread r n → a ≡ Done → HandsOut now n
    starts r n is done =
        let can : CanAnswer (effect_of step) a = subst (CanAnswer (effect_of step)) (sym at.answered) (words_can_answer (c k).words step) in
        let wants : StartsFor (StartThread r n) Done (code.next at.from.local) =
        subst (λ x. StartsFor (StartThread r n) x (code.next at.from.local)) done (subst (λ x. StartsFor x a (code.next at.from.local)) is
        (starts_so code b at.from (answers_are_rows code b at.from step a (fit_at k t at.from low at.stands).attempt at.move can))) in
        record {
          parent = t;
          th = y;
          object = r;
          priority = wants.0;
          stands = set_at-hit (c k).threads t (Some y);
          fixed = ap (λ x. (after_answer code b at.from x a).attempt) is ∙ ap (λ x. (after_answer code b at.from (StartThread r n) x).attempt) done ∙ is_to_split code b at.from r n wants.0 wants.1;
        }

    started_by : (answer : StepAnswer) (r n : ℕ) → step ≡ StartThread r n → a ≡ answer → (m : ℕ) (l : S) → starting_by code (StartThread r n) answer at.from.local (c k).starting m ≡ Some l → now m ≡ None → HandsOut now m
    started_by Done r n is done m l some gone = elim (same_or_other m n) [
      | inl own ↦ subst (HandsOut now) (sym own) (starts r n is done)
      | inr other ↦ still m l (λ splits. subst IsSplit is splits) (sym (set_at-other (c k).starting n (Some (code.child at.from.local r)) m other) ∙ some) gone
    ]
    started_by answer r n is done m l some gone = still m l (λ splits. subst IsSplit is splits) some gone

    -- after each kind of step
    handed : (s : Step) → step ≡ s → (m : ℕ) (l : S) → starting_by code s a at.from.local (c k).starting m ≡ Some l → threads_by code s at.from.local now m ≡ None → HandsOut (threads_by code s at.from.local now) m
    handed (Split n r p) is m l some gone = elim (same_or_other m n) [
      | inl own ↦ no_thread (first_state n p (code.child at.from.local r)) (sym (set_at-hit now n (Some (first_state n p (code.child at.from.local r)))) ∙ ap (set_at now n (Some (first_state n p (code.child at.from.local r)))) (sym own) ∙ gone)
      | inr other ↦ by_parent other (sym (set_at-other now n (Some (first_state n p (code.child at.from.local r))) m other) ∙ gone)
    ]
      where
        new : (c k).threads n ≡ None
        new = threads_are_new code b c acts run numbered k t n r p a (here ∙ ap (λ s. Some (did t s a)) is)

        child : Option (ThreadState S)
        child = Some (first_state n p (code.child at.from.local r))

        by_parent : m ≢ n → now m ≡ None → HandsOut (set_at now n child) m
        by_parent other none =
            let old = before m l some (unused m none).1 in
            let out = parent_stays m (λ splits same. other (sym same ∙ ap number_in is)) old in
            let differs : out.parent ≢ n = λ same. apart_from out same in
            record { parent = out.parent; th = out.th; object = out.object; priority = out.priority; stands = set_at-other now n child out.parent differs ∙ out.stands; fixed = out.fixed }
          where
            t_apart : t ≢ n
            t_apart same = no_thread at.from (sym at.stands ∙ ap (c k).threads same ∙ new)

            apart_from : (out : HandsOut now m) → out.parent ≢ n
            apart_from out same = elim (same_or_other out.parent t) [
              | inl own ↦ t_apart (sym own ∙ same)
              | inr there ↦ no_thread out.th (sym out.stands ∙ set_at-other (c k).threads t (Some y) out.parent there ∙ ap (c k).threads same ∙ new)
            ]
    handed (StartThread r n) is m l some gone = started_by a r n is refl m l some gone
    handed s is m l some gone = still m l (λ splits. subst IsSplit is splits) some gone

    did_started : StartedAt (suc k)
    did_started m l some gone =
        subst (λ (f : ℕ → Option (ThreadState S)). HandsOut f m) (sym (ap (λ (z : Core S). z.threads) at.leads))
        (handed step refl m l (ap (λ (z : Core S). z.starting m) (sym at.leads) ∙ some) (ap (λ (z : Core S). z.threads m) (sym at.leads) ∙ gone))

  quiet_started : (k t : ℕ) → QuietAt code b c k t → StartedAt k → StartedAt (suc k)
  quiet_started k t at before m l some gone =
      subst (λ (f : ℕ → Option (ThreadState S)). HandsOut f m) (sym (ap (λ (z : Core S). z.threads) at.leads))
      (by_parent (before m l (ap (λ (z : Core S). z.starting m) (sym at.leads) ∙ some) was_none))
    where
      now : ℕ → Option (ThreadState S)
      now = set_at (c k).threads t (Some (after_quiet at.from at.local))

      none_then : now m ≡ None
      none_then = ap (λ (z : Core S). z.threads m) (sym at.leads) ∙ gone

      was_none : (c k).threads m ≡ None
      was_none = elim (same_or_other m t) [
        | inl own ↦ no_thread (after_quiet at.from at.local) (sym (set_at-hit (c k).threads t (Some (after_quiet at.from at.local))) ∙ ap now (sym own) ∙ none_then)
        | inr other ↦ sym (set_at-other (c k).threads t (Some (after_quiet at.from at.local)) m other) ∙ none_then
      ]

      by_parent : HandsOut (c k).threads m → HandsOut now m
      by_parent out = elim (same_or_other out.parent t) [
        | inr other ↦ record { parent = out.parent; th = out.th; object = out.object; priority = out.priority; stands = set_at-other (c k).threads t (Some (after_quiet at.from at.local)) out.parent other ∙ out.stands; fixed = out.fixed }
        | inl own ↦
            let same : at.from ≡ out.th = same_Some at.from out.th (sym at.stands ∙ ap (c k).threads (sym own) ∙ out.stands) in
            absurd (not_quiet code b at.from (Split m out.object out.priority) (ap (λ (x : ThreadState S). x.attempt) same ∙ out.fixed) at.move)
      ]

  pub started_at : ((n : ℕ) → (c 0).starting n ≡ None) → (k : ℕ) → k ≤ length acts → StartedAt k
  started_at none k upto = along code b c acts run.leads StartedAt begins next k upto
    where
      begins : StartedAt 0
      begins m l some gone = absurd (no (sym (none m) ∙ some))
        where
          no : None ≡ Some l → ⊥
          no is = cc

      next : (k : ℕ) (act : Act) → slice_get acts k ≡ Some act → ActAt code b c k act → StartedAt k → StartedAt (suc k)
      next k (quiet t) here at before m l some gone = quiet_started k t at before m l some gone
      next k (did t step a) here at before m l some gone = did_started k t step a here at before m l some gone
      next k (beside t step a) here at before m l some gone =
          subst (λ (f : ℕ → Option (ThreadState S)). HandsOut f m) (sym (ap (λ (z : Core S). z.threads) at.leads))
          (before m l (ap (λ (z : Core S). z.starting m) (sym at.leads) ∙ some) (ap (λ (z : Core S). z.threads m) (sym at.leads) ∙ gone))
