-- Monitors and waits at a place of a run are as they have to be, where the words of waits say who waits.
use Rattle.std.proofs.Common.{◌≡◌, ◌≢◌, ◌⊎◌, inl, inr, ℕ, ◌<◌, ◌≤◌, ◌^◌, Bool, true, false, true≢false, nat_eq, Option, None, Some, List, [], ◌∷◌, length, refl, sym, ◌∙◌, ap, subst, arith}
use Rattle.std.proofs.lemmas.Grind.{common_steps}
use Rattle.std.proofs.lemmas.Bool.Decides.{nat_tests}
use Rattle.std.proofs.lemmas.Option.{same_Some}
use Rattle.op_core.specs.declared.Op.{Op}
use Rattle.op_core.specs.declared.Op.TheVariants.{Enter, Exit, Wait, Rewake}
use Rattle.op_core.specs.declared.Next.{Next}
use Rattle.op_core.specs.declared.Next.TheVariants.{Want}
use Rattle.op_core.specs.ThreadCode.{Code}
use Rattle.op_core.specs.Orderly.{IsRewake}
use Rattle.heap_words.specs.declared.areas.Area.{Area}
use Rattle.heap_words.specs.Words.{wait_object, wait_state}
use Rattle.section_state.specs.SectionWord.{revoke_of}
use Rattle.step_port.specs.declared.step.Step.{Step}
use Rattle.step_port.specs.declared.step.Step.TheVariants.{TakeMonitor, SetDepth, Release, Pin, LoadWait}
use Rattle.thread_automaton.specs.declared.Bounds.{Bounds}
use Rattle.thread_automaton.specs.declared.Attempt.{Attempt}
use Rattle.thread_automaton.specs.declared.Attempt.TheVariants.{Fixed}
use Rattle.thread_automaton.specs.declared.Held.{Held}
use Rattle.thread_automaton.specs.ThreadState.{ThreadState, Mark, no_mark, mark_of, inside}
use Rattle.thread_automaton.specs.Answers.{is_waiting_for}
use Rattle.automaton_rows.specs.Fits.{InLevels, FixedFits, AttemptFits}
use Rattle.automaton_rows.specs.Undoing.{is_held}
use Rattle.core_runs.specs.Cores.{Core}
use Rattle.core_runs.specs.Acts.{Act}
use Rattle.section_laws.proofs.RunLemmas.{Known, facts_at}
use Rattle.section_laws.proofs.run_layout.ListLemmas.{In, in_list}
use Rattle.section_laws.specs.Marks.{counting_marks}
use Rattle.first_law.specs.Held.{top_at, StageHolds, WaitsHold, MarksHold}
use Rattle.first_law.specs.Held as places
use Rattle.first_law.specs.RunMonitors.{IsMonitorRun}
use Rattle.first_law.proofs.run_monitors.ListLemmas.{depth_fits, level_fits}
use Rattle.first_law.proofs.run_monitors.MarkLemmas.{AreStillHeld, still_held_by, mark_first}
use Rattle.first_law.proofs.run_monitors.DidLemmas as dids
use Rattle.first_law.proofs.run_monitors.RunLemmas.{so_at}
use Rattle.first_law.specs.Monitors.{FitsMonitorWord, FixedHolds, FixedWaits, MonitorsFit}
use Rattle.first_law.specs.Monitors as seen
use Rattle.first_law.proofs.WaitLemmas.{waiting_parts}
use Rattle.first_law.specs.Waits.{WaitWordSays, looked_below, WaitsAreKnown}
use Rattle.first_law.proofs.grounded_monitors.WordLemmas.{waiting_says, zero_state}
use Rattle.first_law.proofs.grounded_monitors.TurnLemmas.{GivesUp}
use Rattle.first_law.proofs.grounded_monitors.SaysLemmas.{gives_held}

-- ---- one thread

holds_of : {S : Type 0} (th : ThreadState S) (next : Next) (step : Step) → FixedFits th next step → places.FixedHolds th.section th.levels th.pinned th.held next step → FixedHolds th next step
holds_of th (Want (Enter r)) (SetDepth q new) fits holds = holds
holds_of th (Want (Rewake r)) (SetDepth q new) fits holds = holds
holds_of th (Want (Exit r)) (SetDepth q new) fits holds = holds
holds_of th (Want (Exit r)) (Release q) fits holds = holds.0
holds_of th (Want (Wait r)) (Release q) fits holds = holds
holds_of th (Want (Op.Notify r)) (Pin s w level) fits holds = holds
holds_of th (Want (Op.Notify r)) (LoadWait n) fits holds = holds
holds_of th (Want (Op.Notify r)) (Step.Notify n w) fits holds = holds
holds_of th (Want (Op.Notify r)) step fits holds = absurd fits
holds_of th next step fits holds = tt

waits_of : {S : Type 0} (th : ThreadState S) (next : Next) → WaitsHold th.level th.depth th.held next → seen.WaitsHold th next
waits_of th (Want (Rewake r)) waits = (waits.0, waits.1)
waits_of th next waits = waits

says_of : (next : Next) (g : Attempt) (v : ℕ) → WaitWordSays next g v → seen.WaitWordSays next v
says_of (Want (Rewake r)) g v says = (says.0, says.1)
says_of next g v says = tt

-- a thread whose wait word says that it waits is to take its monitor again, or is about to give it up
state_one : (next : Next) (g : Attempt) (v : ℕ) → WaitWordSays next g v → wait_state v ≡ 1 → IsRewake next ⊎ GivesUp next g
state_one (Want (Rewake r)) g v says one = inl tt
state_one (Want (Wait r)) (Fixed (Release p)) v says one = inr tt
state_one (Want (Wait r)) g v says one = absurd (says.1 (λ up. up) one)
state_one next g v says one = absurd (says one)

some_depth : (level depth : ℕ) (held : List Held) (next : Next) → WaitsHold level depth held next → IsRewake next → 0 < depth
some_depth level depth held (Want (Rewake r)) waits is = waits.0
some_depth level depth held next waits is = absurd is

-- what a mark names fits words of monitors
mark_fits : (n : ℕ) (h : Held) (then_ held : List Held) → AreStillHeld n then_ held → InLevels held → In h then_ → FitsMonitorWord h
mark_fits n h [] held still levels there = absurd there
mark_fits n h (x ∷ then_) held still levels (inl is) =
    subst FitsMonitorWord is (still.3, still.4, subst (λ l. l < 2 ^ 8) still.1 (level_fits x.object held levels).1)
mark_fits n h (x ∷ then_) held still levels (inr later) = mark_fits n h then_ held still.5 levels later

module _ {S : Type 0} (code : Code S) (b : Bounds) (first : S) (classes : ℕ) (c : ℕ → Core S) (acts : List Act) (run : IsMonitorRun code b first classes c acts)
    (k : ℕ) (within : k ≤ length acts) (waits : WaitsAreKnown code (c k)) where
  so : dids.So code b first classes c acts run k
  so = so_at code b first classes c acts run k within

  known : Known code (c k)
  known = facts_at code b c acts run.levelled.ordered.run k within

  some_section : (t r : ℕ) (th : ThreadState S) → (c k).threads t ≡ Some th → is_held r th.held ≡ true → 0 < th.section
  some_section t r th at has = by_test (nat_eq th.section 0) refl
    where
      some : (n : ℕ) → nat_eq n 0 ≡ false → 0 < n
      some n is = grind (arith, common_steps, nat_tests)

      by_test : (test : Bool) → nat_eq th.section 0 ≡ test → 0 < th.section
      by_test true none = absurd (true≢false (sym has ∙ ap (is_held r) ((known.fit t th at).kept.held none)))
      by_test false is = some th.section is

  -- the thread that a notify has found is there, and waits
  found_waits : (t n w r : ℕ) (th : ThreadState S) → (c k).threads t ≡ Some th → code.next th.local ≡ Want (Op.Notify r) → is_held r th.held ≡ true → is_waiting_for r w ≡ true
      → (c k).words (Area.Wait n) ≡ w → (uh : ThreadState S) × ((c k).threads n ≡ Some uh) × (0 < uh.depth)
  found_waits t n w r th at wants has is found = by_thread ((c k).threads n) refl
    where
      parts : (wait_object ((c k).words (Area.Wait n)) ≡ r) × (wait_state ((c k).words (Area.Wait n)) ≡ 1)
      parts = let so_w = waiting_parts r w is in (ap wait_object found ∙ so_w.0, ap wait_state found ∙ so_w.1)

      IsWaiting : Next → Type 0
      IsWaiting (Want (Wait q)) = Unit {0}
      IsWaiting next = ⊥

      -- no other thread holds the monitor, so none is about to give it up
      giving : (uh : ThreadState S) → (c k).threads n ≡ Some uh → GivesUp (code.next uh.local) uh.attempt → ⊥
      giving uh there up =
          let gives = gives_held uh.section uh.levels uh.pinned uh.held (code.next uh.local) uh.attempt ((c k).words (Area.Wait n)) (so.0 n uh there).fixed (waits.says n uh there) up in
          let same : gives.object ≡ r = sym (ap wait_object gives.word ∙ (waiting_says gives.object gives.low).0) ∙ parts.0 in
          let one : n ≡ t = so.1.one n t r uh th there at (subst (λ q. is_held q uh.held ≡ true) same gives.has) has in
          let own : uh ≡ th = same_Some uh th (sym there ∙ ap (c k).threads one ∙ at) in
          subst IsWaiting (sym gives.wants ∙ ap (λ (x : ThreadState S). code.next x.local) own ∙ wants) tt

      by_thread : (o : Option (ThreadState S)) → (c k).threads n ≡ o → (uh : ThreadState S) × ((c k).threads n ≡ Some uh) × (0 < uh.depth)
      by_thread None there = absurd (zero_state ((c k).words (Area.Wait n)) (waits.unused n there) parts.1)
      by_thread (Some uh) there = elim (state_one (code.next uh.local) uh.attempt ((c k).words (Area.Wait n)) (waits.says n uh there) parts.1) [
        | inl rewakes ↦ (uh, there, some_depth uh.level uh.depth uh.held (code.next uh.local) (so.0 n uh there).waits rewakes)
        | inr up ↦ absurd (giving uh there up)
      ]

  fixed_waits : (t : ℕ) (th : ThreadState S) (next : Next) (step : Step) → (c k).threads t ≡ Some th → code.next th.local ≡ next → th.attempt ≡ Fixed step → FixedFits th next step
      → FixedHolds th next step → WaitWordSays next (Fixed step) ((c k).words (Area.Wait t)) → FixedWaits (c k) t next step
  fixed_waits t th (Want (Rewake r)) (TakeMonitor q new) at is fixed fits holds says = says.2 tt
  fixed_waits t th (Want (Wait r)) (Release q) at is fixed fits holds says = (says.0 tt).0
  fixed_waits t th (Want (Op.Notify r)) (LoadWait n) at is fixed fits holds says = λ u below waiting. waits.passed t u r th at is (subst (λ g. u < looked_below g) (sym fixed) below) waiting
  fixed_waits t th (Want (Op.Notify r)) (Step.Notify n w) at is fixed fits holds says =
      (λ u below waiting. waits.passed t u r th at is (subst (λ g. u < looked_below g) (sym fixed) below) waiting, λ found. found_waits t n w r th at is holds fits.3 found)
  fixed_waits t th next step at is fixed fits holds says = tt

  pub monitors_fit : MonitorsFit code (c k)
  monitors_fit = record {
    held = record {
      says = λ t r th at has.
          let depth = depth_fits r th.held (so.0 t th at).depths has in
          (so.1.says t r th at has, (depth.0, depth.1, (level_fits r th.held (known.fit t th at).kept.in_levels).1));
      sections = some_section;
      holders = λ r o there some. so.1.taken r (o, there) some;
    };
    numbers = λ t th at. below th.section b.limits.sections (so.0 t th at).within run.numbers;
    fixed = λ t th step at fixed.
        let fits = subst (AttemptFits th (code.next th.local)) fixed (known.fit t th at).attempt in
        let holds = holds_of th (code.next th.local) step fits (subst (StageHolds th.section th.levels th.pinned th.held (code.next th.local)) fixed (so.0 t th at).fixed) in
        (holds, fixed_waits t th (code.next th.local) step at refl fixed fits holds (subst (λ g. WaitWordSays (code.next th.local) g ((c k).words (Area.Wait t))) fixed (waits.says t th at)));
    waits = λ t th at. (waits_of th (code.next th.local) (so.0 t th at).waits, says_of (code.next th.local) th.attempt ((c k).words (Area.Wait t)) (waits.says t th at));
    marked = λ t w th h at undoing there.
        let holds = so.0 t th at in
        by_mark t w th h at (in_list h (mark_of th (revoke_of w)).held there)
        (mark_first (inside th (revoke_of w)) (revoke_of w) th.marks th.held (subst (λ g. MarksHold (top_at g th.levels) (counting_marks g th.levels th.marks) th.held) undoing holds.marks));
  }
    where
      below : (s l : ℕ) → s ≤ l → l < 2 ^ 32 → s < 2 ^ 32
      below s l low high = omega (arith, low, high)

      by_mark : (t w : ℕ) (th : ThreadState S) (h : Held) → (c k).threads t ≡ Some th → In h (mark_of th (revoke_of w)).held
          → places.MarkHolds (revoke_of w) (mark_of th (revoke_of w)) th.held ⊎ (mark_of th (revoke_of w) ≡ no_mark) → FitsMonitorWord h
      by_mark t w th h at there (inl named) =
          mark_fits (revoke_of w) h (mark_of th (revoke_of w)).held th.held (still_held_by (revoke_of w) (mark_of th (revoke_of w)).held th.held (so.0 t th at).once named.0 named.1) (known.fit t th at).kept.in_levels there
      by_mark t w th h at there (inr none) = absurd (subst (λ (m : Mark). In h m.held) none there)
