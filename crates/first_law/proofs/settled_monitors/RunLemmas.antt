-- The monitors are settled at each place of a run.
use Rattle.std.proofs.Common.{◌≡◌, ◌≢◌, ◌⊎◌, inl, inr, ℕ, suc, ◌+◌, ◌<◌, ◌≤◌, Bool, true, false, true≢false, Option, None, Some, List, [], length, refl, sym, ◌∙◌, ap, subst, arith}
use Rattle.std.specs.Prelude.{slice_get}
use Rattle.std.proofs.lemmas.Option.{slice_get_within}
use Rattle.op_core.specs.declared.Op.TheVariants.{Exit}
use Rattle.op_core.specs.declared.Next.{Next}
use Rattle.op_core.specs.declared.Next.TheVariants.{Want}
use Rattle.op_core.specs.ThreadCode.{Code}
use Rattle.op_core.specs.OrdinaryState.{set_at, Monitor}
use Rattle.op_core.proofs.PointwiseLemmas.{same_or_other, set_at-hit, set_at-other}
use Rattle.heap_words.specs.declared.areas.Area.TheVariants.{Section}
use Rattle.section_state.specs.SectionWord.{revoke_of}
use Rattle.step_port.specs.declared.answer.StepAnswer.{StepAnswer}
use Rattle.step_port.specs.declared.step.Step.{Step}
use Rattle.step_port.specs.declared.step.Step.TheVariants.{SetHeader, Split, MarkUndone, Release}
use Rattle.step_port.specs.Words.{answer_of}
use Rattle.thread_automaton.specs.declared.Bounds.{Bounds}
use Rattle.thread_automaton.specs.declared.Held.{Held}
use Rattle.thread_automaton.specs.declared.Attempt.{Attempt}
use Rattle.thread_automaton.specs.declared.Attempt.TheVariants.{Fixed, Undoing}
use Rattle.thread_automaton.specs.ThreadState.{ThreadState, first_state, is_open, held_as}
use Rattle.thread_automaton.specs.Changes.{without, changed}
use Rattle.thread_automaton.specs.Answers.{change_of}
use Rattle.thread_automaton.specs.Told.{Told, advanced, born, told, counted_for, after_answer, after_quiet}
use Rattle.automaton_rows.specs.Undoing as rows
use Rattle.core_runs.specs.Cores.{Core, threads_by, levels_by}
use Rattle.core_runs.specs.Acts.{Act, quiet, did, beside, QuietAt, DidAt, BesideAt, ActAt}
use Rattle.section_laws.specs.Settled.{to_undo}
use Rattle.section_laws.specs.SettledMonitors.{is_held, SettledMonitors}
use Rattle.section_laws.specs.Runs.{IsRun}
use Rattle.section_laws.proofs.RunLemmas.{along, facts_at}
use Rattle.section_laws.proofs.own_sections.ViewLemmas.{is_leaving, is_none}
use Rattle.section_laws.proofs.own_sections.SeenLemmas.{undoing_seen}
use Rattle.section_laws.proofs.own_sections.MoveLemmas.{own_at}
use Rattle.section_laws.proofs.section_levels.RunLemmas.{counted_at}
use Rattle.section_laws.proofs.open_sections.WordLemmas.{committed_closed}
use Rattle.first_law.specs.Held.{Holds}
use Rattle.first_law.specs.RunMonitors.{IsMonitorRun}
use Rattle.first_law.proofs.run_monitors.DidLemmas as did_monitors
use Rattle.first_law.proofs.run_monitors.RunLemmas.{so_at, undone_monitors_are_as_before}
use Rattle.first_law.specs.SettledRuns.{IsDoomedTest, AreSettled, held_in, back_in, MonitorsSettle}
use Rattle.first_law.proofs.settled_monitors.DoomedLemmas.{doomed_open, doomed_section, doomed_stands, undoing_counts, closes_none}
use Rattle.first_law.proofs.settled_monitors.TurnLemmas.{MonitorTurn}
use Rattle.first_law.proofs.settled_monitors.TurnRows.{turn_of}
use Rattle.first_law.proofs.settled_monitors.SettleLemmas.{same_is_held, stays}
use Rattle.first_law.proofs.settled_monitors.StepLemmas.{Around, turns}
use Rattle.first_law.proofs.settled_monitors.MarkLemmas.{unmarked_by}

contrary : {P : Type 0} → true ≡ false → P
contrary same = absurd (true≢false same)

false_or : (t : Bool) → (t ≡ true → ⊥) → t ≡ false
false_or true other = absurd (other refl)
false_or false other = refl

counted_turn : {S : Type 0} (k t : ℕ) (next : Next) (x : ThreadState S) (by : Told) (levels then_ : List ℕ) (step : Step) (seen : Told) (z : ThreadState S)
    → MonitorTurn k t next x z.held z.marks (is_open z) seen levels then_ step
    → MonitorTurn k t next x (counted_for by z).held (counted_for by z).marks (is_open (counted_for by z)) seen levels then_ step
counted_turn k t next x (advanced None) levels then_ step seen z turn = turn
counted_turn k t next x (advanced (Some reply)) levels then_ step seen z turn = turn
counted_turn k t next x born levels then_ step seen z turn = turn
counted_turn k t next x other levels then_ step seen z turn = turn

-- an exit is about to leave the last monitor
is_leaving_last : (g : Attempt) (next : Next) (held : List Held) (r : ℕ) → g ≡ Fixed (Release r) → next ≡ Want (Exit r) → without r held ≡ [] → is_leaving g next held ≡ true
is_leaving_last g next held r at exit alone = ap (λ a. is_leaving a next held) at ∙ ap (λ n. is_leaving (Fixed (Release r)) n held) exit ∙ ap is_none alone

module _ {S : Type 0} (code : Code S) (b : Bounds) (first : S) (classes : ℕ) (c : ℕ → Core S) (acts : List Act) (run : IsMonitorRun code b first classes c acts) (doomed : ℕ → Bool)
    (tells : IsDoomedTest c acts doomed) (settled : ℕ → ℕ → Monitor) (are : AreSettled code b doomed c acts settled) where
  ran : IsRun code b c acts
  ran = run.levelled.ordered.run

  abbrev held_at : Core S → ℕ → List Held
  held_at core u = held_in (core.threads u)

  abbrev back_at : Core S → ℕ → ℕ → ℕ
  back_at core u q = back_in doomed (core.levels u) (core.threads u) q

  abbrev SettledAt : ℕ → Type 0
  SettledAt k = SettledMonitors (settled k) (held_at (c k)) (back_at (c k))

  module _ (k : ℕ) (within : k < length acts) where
    here_at : k ≤ length acts
    here_at = omega (arith, within)

    module _ (t : ℕ) (step : Step) (a : StepAnswer) (here : slice_get acts k ≡ Some (did t step a)) (at : DidAt code b c k t step a) (facts : SettledAt k) where
      abbrev So : Type 0
      So = did_monitors.So code b first classes c acts run k

      so : So
      so = so_at code b first classes c acts run k here_at

      abbrev y : ThreadState S
      y = after_answer code b at.from step a

      abbrev behind : Core S
      behind = did_monitors.behind code b first classes c acts run k within t step a here at so

      levels : List ℕ
      levels = (c k).levels t

      abbrev levels_then : List ℕ
      levels_then = levels_by k (change_of code b at.from (code.next at.from.local) step a) ((c k).levels t)

      turn : MonitorTurn k t (code.next at.from.local) at.from y.held y.marks (is_open y) (told code b at.from step a) ((c k).levels t) levels_then step
      turn = counted_turn k t (code.next at.from.local) at.from (told code b at.from step a) ((c k).levels t) levels_then step (told code b at.from step a)
          (changed code at.from (change_of code b at.from (code.next at.from.local) step a))
          (turn_of b (did_monitors.ground code b first classes c acts run k within t step a here at so) k t ((c k).levels t) (did_monitors.row code b first classes c acts run k within t step a here at so) refl
          (so.0 t at.from at.stands) (did_monitors.makes code b first classes c acts run k within t step a here at so))

      own_there : behind.threads t ≡ Some y
      own_there = did_monitors.own_there code b first classes c acts run k within t step a here at so

      own_levels : behind.levels t ≡ levels_then
      own_levels = set_at-hit (c k).levels t levels_then

      -- another thread stays, or begins
      other_thread : (u : ℕ) → u ≢ t → (behind.threads u ≡ (c k).threads u) ⊎ (((c k).threads u ≡ None) × ((n p : ℕ) × (l : S) × (behind.threads u ≡ Some (first_state n p l))))
      other_thread u other = by_step step refl
        where
          by_step : (made : Step) → step ≡ made → (threads_by code made at.from.local (set_at (c k).threads t (Some y)) u ≡ (c k).threads u)
              ⊎ (((c k).threads u ≡ None) × ((n p : ℕ) × (l : S) × (threads_by code made at.from.local (set_at (c k).threads t (Some y)) u ≡ Some (first_state n p l))))
          by_step (Split n r p) is = elim (same_or_other u n) [
            | inl own ↦ inr (
              ap (c k).threads own ∙ did_monitors.new code b first classes c acts run k within t step a here at so n r p is,
              (
                n,
                p,
                code.child at.from.local r,
                ap (set_at (set_at (c k).threads t (Some y)) n (Some (first_state n p (code.child at.from.local r)))) own
                    ∙ set_at-hit (set_at (c k).threads t (Some y)) n (Some (first_state n p (code.child at.from.local r))),
              ),
            )
            | inr apart ↦ inl (set_at-other (set_at (c k).threads t (Some y)) n (Some (first_state n p (code.child at.from.local r))) u apart ∙ set_at-other (c k).threads t (Some y) u other)
          ]
          by_step made is = inl (set_at-other (c k).threads t (Some y) u other)

      others_held : (u : ℕ) → u ≢ t → held_at behind u ≡ held_at (c k) u
      others_held u other = elim (other_thread u other) [ inl same ↦ ap held_in same | inr begun ↦ ap held_in begun.1.3 ∙ sym (ap held_in begun.0) ]

      others_back : (u q : ℕ) → u ≢ t → back_at behind u q ≡ back_at (c k) u q
      others_back u q other =
          ap (λ l. back_in doomed l (behind.threads u) q) (set_at-other (c k).levels t levels_then u other) ∙ elim (other_thread u other) [
            | inl same ↦ ap (λ o. back_in doomed ((c k).levels u) o q) same
            | inr begun ↦ ap (λ o. back_in doomed ((c k).levels u) o q) begun.1.3 ∙ sym (ap (λ o. back_in doomed ((c k).levels u) o q) begun.0)
          ]

      next_levels : (c (suc k)).levels t ≡ levels_then
      next_levels = ap (λ (core : Core S). core.levels t) at.leads ∙ own_levels

      next_there : (c (suc k)).threads t ≡ Some y
      next_there = ap (λ (core : Core S). core.threads t) at.leads ∙ own_there

      h : Holds b (code.next at.from.local) at.from
      h = so.0 t at.from at.stands

      counted : length ((c k).levels t) ≡ at.from.levels
      counted = (counted_at code b first classes c acts run.levelled k here_at).there t at.from at.stands

      undoing_so : (w : ℕ) → at.from.attempt ≡ Undoing w → (0 < revoke_of w) × (revoke_of w ≤ length ((c k).levels t)) × (suc (length ((c k).levels t)) ≤ revoke_of w + to_undo doomed ((c k).levels t))
      undoing_so w undoing =
          let seen = undoing_seen code at.from (c k).words (own_at code b c acts ran run.levelled.ordered.in_bits k here_at t at.from at.stands) ((facts_at code b c acts ran k here_at).fit t at.from at.stands) w undoing in
          (some at.from.pinned (revoke_of w) seen.0, subst (λ n. revoke_of w ≤ n) (sym counted) seen.1, undoing_counts code b first classes c acts run.levelled doomed tells k t at.from here_at at.stands w undoing)
        where
          some : (p v : ℕ) → p < v → 0 < v
          some p v low = omega (arith, low)

      stands_so : (r : ℕ) → 0 < to_undo doomed ((c k).levels t) → at.from.attempt ≡ Fixed (Release r) → code.next at.from.local ≡ Want (Exit r) → without r at.from.held ≡ [] → ⊥
      stands_so r some at_release exit alone =
          let own = (own_at code b c acts ran run.levelled.ordered.in_bits k here_at t at.from at.stands).own (doomed_section code b first classes c acts run.levelled doomed tells k t at.from here_at at.stands some) in
          committed_closed ((c k).words (Section at.from.section)) (own.ends (is_leaving_last at.from.attempt (code.next at.from.local) at.from.held r at_release exit alone)).0
          (doomed_stands code b first classes c acts run.levelled doomed tells k t at.from here_at at.stands some)

      -- nobody else holds what the thread holds then
      nobody_else : (r : ℕ) → rows.is_held r y.held ≡ true → (u : ℕ) → u ≢ t → is_held r (held_at (c k) u) ≡ false
      nobody_else r has u other = by_option ((c k).threads u) refl
        where
          by_option : (o : Option (ThreadState S)) → (c k).threads u ≡ o → is_held r (held_in o) ≡ false
          by_option None is = refl
          by_option (Some uh) is = false_or (is_held r uh.held) (λ also. other ((so_at code b first classes c acts run (suc k) within).1.one u t r uh y
              (ap (λ (core : Core S). core.threads u) at.leads ∙ did_monitors.kept_there code b first classes c acts run k within t step a here at so u uh other is) next_there (same_is_held r uh.held ∙ also) has))

      -- nobody holds the monitor of a new object
      nobody_new : (r w : ℕ) → step ≡ SetHeader r w → (u : ℕ) → is_held r (held_at (c k) u) ≡ false
      nobody_new r w is u = by_option ((c k).threads u) refl
        where
          by_option : (o : Option (ThreadState S)) → (c k).threads u ≡ o → is_held r (held_in o) ≡ false
          by_option None at_u = refl
          by_option (Some uh) at_u = false_or (is_held r uh.held) (λ also. did_monitors.word_of_held code b first classes c acts run k within so.1 u r uh at_u (same_is_held r uh.held ∙ also)
              (run.apart.made k t r w a (here ∙ ap (λ st. Some (did t st a)) is)))

      around : Around doomed k t (code.next at.from.local) at.from y.held y.marks (is_open y) (told code b at.from step a) ((c k).levels t) levels_then step (settled k) (settled (suc k))
          (held_at (c k)) (held_at behind) (back_at (c k)) (back_at behind)
      around = record {
        held_before = ap held_in at.stands;
        back_before = λ q. ap (λ o. back_in doomed ((c k).levels t) o q) at.stands;
        held_after = ap held_in own_there;
        back_after = λ q. ap (λ l. back_in doomed l (behind.threads t) q) own_levels ∙ ap (λ o. back_in doomed levels_then o q) own_there;
        others_held = others_held;
        others_back = others_back;
        settles = λ q. are.goes_on k (did t step a) here at.from at.stands q;
        counted = counted;
        open_before = doomed_open code b first classes c acts run.levelled doomed tells k t at.from here_at at.stands;
        open_after = λ some. doomed_open code b first classes c acts run.levelled doomed tells (suc k) t y within next_there (subst (λ l. 0 < to_undo doomed l) (sym next_levels) some);
        stands = stands_so;
        undoing = undoing_so;
        undone_as = λ w s v undoing is. undone_monitors_are_as_before code b first classes c acts run k t s v w at.from
            (here ∙ ap (λ st. Some (did t st a)) is ∙ ap (λ an. Some (did t (MarkUndone s v) an)) (at.answered ∙ ap (answer_of (c k).words) is)) at.stands undoing;
        closes = λ j other less. closes_none code b first classes c acts run.levelled doomed tells k t j step a within here other (next_levels ∙ less);
        unmarked = λ n r is which. unmarked_by at.from.attempt at.from.levels n r at.from.marks at.from.held h.once h.marks
            (λ w undoing. let level = undoing_so w undoing in (subst (λ l. revoke_of w ≤ l) counted level.1, counts (length ((c k).levels t)) at.from.levels (revoke_of w) (to_undo doomed ((c k).levels t)) n counted is level.2))
            (elim which [ inl none ↦ inl none | inr deep ↦ inr (deep.0, subst (λ l. suc l ≤ (held_as r at.from.held).level + suc n) counted deep.1) ]);
        nobody = λ r has none u other. nobody_else r has u other;
        made = nobody_new;
      }
        where
          counts : (l x v m n : ℕ) → l ≡ x → m ≡ suc n → suc l ≤ v + m → suc x ≤ v + suc n
          counts l x v m n same is low = omega (arith, same, is, low)

      did_settled : SettledAt (suc k)
      did_settled = subst (λ (core : Core S). SettledMonitors (settled (suc k)) (held_at core) (back_at core)) (sym at.leads) (turns around facts turn)

    quiet_settled : (t : ℕ) → slice_get acts k ≡ Some (quiet t) → QuietAt code b c k t → SettledAt k → SettledAt (suc k)
    quiet_settled t here at facts = subst (λ (core : Core S). SettledMonitors (settled (suc k)) (held_at core) (back_at core)) (sym at.leads)
        (stays (settled k) (settled (suc k)) (held_at (c k)) (λ u. held_in (set_at (c k).threads t (Some (after_quiet at.from at.local)) u)) (back_at (c k))
        (λ u q. back_in doomed ((c k).levels u) (set_at (c k).threads t (Some (after_quiet at.from at.local)) u) q) facts t
        (λ u other. ap held_in (set_at-other (c k).threads t (Some (after_quiet at.from at.local)) u other))
        (λ u q other. ap (λ o. back_in doomed ((c k).levels u) o q) (set_at-other (c k).threads t (Some (after_quiet at.from at.local)) u other))
        (ap held_in (set_at-hit (c k).threads t (Some (after_quiet at.from at.local))) ∙ sym (ap held_in at.stands)) (λ q. are.goes_on k (quiet t) here q)
        (λ q. ap (λ o. back_in doomed ((c k).levels t) o q) (set_at-hit (c k).threads t (Some (after_quiet at.from at.local))) ∙ sym (ap (λ o. back_in doomed ((c k).levels t) o q) at.stands)))

    beside_settled : (t : ℕ) (step : Step) (a : StepAnswer) → slice_get acts k ≡ Some (beside t step a) → BesideAt c k t step a → SettledAt k → SettledAt (suc k)
    beside_settled t step a here at facts = subst (λ (core : Core S). SettledMonitors (settled (suc k)) (held_at core) (back_at core)) (sym at.leads)
        (stays (settled k) (settled (suc k)) (held_at (c k)) (held_at (c k)) (back_at (c k)) (back_at (c k)) facts t (λ u other. refl) (λ u q other. refl) refl (λ q. are.goes_on k (beside t step a) here q) (λ q. refl))

    act_settled : (act : Act) → slice_get acts k ≡ Some act → ActAt code b c k act → SettledAt k → SettledAt (suc k)
    act_settled (quiet t) here at facts = quiet_settled t here at facts
    act_settled (did t step a) here at facts = did_settled t step a here at facts
    act_settled (beside t step a) here at facts = beside_settled t step a here at facts

  first_settled : SettledAt 0
  first_settled = record {
    holds = λ t r has. contrary (sym has ∙ none t r);
    is_free = λ r free_of. are.begins r;
    apart = λ t u r has also. contrary (sym has ∙ none t r);
  }
    where
      none : (t r : ℕ) → is_held r (held_at (c 0) t) ≡ false
      none t r = by_option ((c 0).threads t) refl
        where
          by_option : (o : Option (ThreadState S)) → (c 0).threads t ≡ o → is_held r (held_in o) ≡ false
          by_option None is = refl
          by_option (Some th) is = ap (λ (x : ThreadState S). is_held r x.held) (ran.begins.threads t th is).3

  settled_at : (k : ℕ) → k ≤ length acts → SettledAt k
  settled_at k within =
      along code b c acts ran.leads SettledAt first_settled (λ n act here at facts. act_settled n (slice_get_within acts n act here) act here at facts) k within

pub monitors_settle : {S : Type 0} (code : Code S) → MonitorsSettle code
monitors_settle code b first classes c acts run doomed tells settled are k within = settled_at code b first classes c acts run doomed tells settled are k within
