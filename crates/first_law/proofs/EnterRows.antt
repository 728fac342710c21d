-- Acts that take monitors, enter them deeper, leave them, and find that another thread owns them.
use Rattle.std.proofs.Common.{◌≡◌, ℕ, suc, ◌+◌, ◌<◌, ◌^◌, Bool, true, false, Some, List, [], ◌∷◌, refl, sym, ◌∙◌, ap, subst, arith}
use Rattle.std.specs.Prelude.{IsSome, nat_lt}
use Rattle.op_core.specs.declared.Op.{Op}
use Rattle.op_core.specs.declared.Op.TheVariants.{Enter, Exit, Wait, Rewake}
use Rattle.op_core.specs.declared.Reply.{Reply}
use Rattle.op_core.specs.declared.Reply.TheVariants.{NotOwner}
use Rattle.op_core.specs.declared.Next.{Next}
use Rattle.op_core.specs.declared.Next.TheVariants.{Want}
use Rattle.op_core.specs.Replies.{IsEntry}
use Rattle.op_core.specs.ThreadCode.{Code}
use Rattle.op_core.specs.OrdinaryState.{set_at, Object, free, held, awake, notified, IsNotifiedFor, saved_count, IsOwner, IsOpenTo, entered, exited, OrdinaryState}
use Rattle.op_core.specs.InPlaceList.{IsAllThere}
use Rattle.op_core.proofs.PointwiseLemmas.{set_at-both}
use Rattle.heap_words.specs.declared.areas.Area.{Area}
use Rattle.monitor_core.specs.Monitors.{monitor_depth, is_own}
use Rattle.step_port.specs.declared.answer.StepAnswer.{StepAnswer}
use Rattle.step_port.specs.declared.answer.StepAnswer.TheVariants.{Found}
use Rattle.step_port.specs.declared.step.Step.{Step}
use Rattle.step_port.specs.declared.step.Step.TheVariants.{LoadMonitor, SetDepth, Release}
use Rattle.step_port.specs.Steps.{effect_of}
use Rattle.step_port.specs.Words.{Words, words_after}
use Rattle.ordinary_words.specs.Reading.{monitor_of}
use Rattle.thread_automaton.specs.declared.Bounds.{Bounds}
use Rattle.thread_automaton.specs.declared.Attempt.TheVariants.{Fixed}
use Rattle.thread_automaton.specs.declared.Held.{Held}
use Rattle.thread_automaton.specs.ThreadState.{ThreadState, held_as}
use Rattle.thread_automaton.specs.NextMove.{held_word}
use Rattle.thread_automaton.specs.Changes.{Change, replies, takes, deepens, drops, closes, with_levels, answered, changed}
use Rattle.thread_automaton.specs.Monitors.{monitor_wanted, entry, take_for}
use Rattle.thread_automaton.specs.Told.{advanced, shown, told_of, after_answer}
use Rattle.automaton_rows.specs.Rows.{NeedsOwner, IsNoUndoing}
use Rattle.automaton_rows.specs.Undoing.{is_held}
use Rattle.core_runs.specs.Cores.{Core}
use Rattle.core_runs.specs.Acts.{Act}
use Rattle.core_runs.specs.Reading.{place_in, waiting_in, ordinary}
use Rattle.section_laws.proofs.WordLemmas.{exchanged, stays_at}
use Rattle.section_laws.proofs.DeedLemmas.{above}
use Rattle.section_laws.proofs.ClaimLemmas.{found_is}
use Rattle.section_laws.proofs.run_layout.LaidLemmas.{is_there}
use Rattle.section_laws.proofs.run_layout.PlaceLemmas.{put_object}
use Rattle.first_law.specs.Monitors.{FitsMonitorWord, FixedHolds, FixedWaits, WaitsHold}
use Rattle.first_law.specs.InPlace.{IsSeenRun}
use Rattle.first_law.proofs.TurnLemmas.{keeps_load, known}
use Rattle.first_law.proofs.EntryLemmas.{Stance, stance, HasEntry, Done, did_at, depth_is}
use Rattle.first_law.proofs.ReplyLemmas.{kept_entry}
use Rattle.first_law.proofs.WordRows.{all_fit}
use Rattle.first_law.proofs.UnseenLemmas.{forgotten_stance}
use Rattle.first_law.proofs.FixedLemmas.{OnlyFixed, was_fixed, not_undoing}
use Rattle.first_law.proofs.WaitLemmas.{notified_is, waiting_none}
use Rattle.first_law.proofs.MonitorRows.{same_waiting, monitor_entry}
use Rattle.first_law.proofs.MonitorLemmas.{fit_here, monitor_at, others_monitor, held_monitor, taken_so}

low_more : (d : ℕ) → d < 65535 → suc d < 2 ^ 16
low_more d low = omega (arith, low)

module _ {S : Type 0} (code : Code S) (b : Bounds) (is_thread : ℕ → Bool) (first : S) (classes : ℕ) (c : ℕ → Core S) (acts : List Act) (run : IsSeenRun code b is_thread first classes c acts) (k t : ℕ)
    (th : ThreadState S) where
  abbrev Does : Next → Step → StepAnswer → Change → Type 0
  Does next step a change = Done code b is_thread first classes c acts run k t th next step a change

  abbrev Seen : Step → StepAnswer → Type 0
  Seen step a = HasEntry code b is_thread first classes c acts run k t th step a

  abbrev state : OrdinaryState S
  state = ordinary code is_thread (c k)

  -- the object that an operation names
  pub object_of : {next : Next} {step : Step} {a : StepAnswer} {change : Change} (act : Does next step a change) (op : Op) → next ≡ Want op → (r : ℕ) → (IsAllThere (c k).objects op → IsSome ((c k).objects r))
      → (o : Object) × ((c k).objects r ≡ Some o)
  object_of act op is r names = is_there ((c k).objects r) (names (all_fit code b is_thread first classes c acts run k t th act op is).1)

  -- what is known of a step on a monitor that was fixed
  pub fixed_holds : {next : Next} {step : Step} {a : StepAnswer} {change : Change} (act : Does next step a change) → OnlyFixed next step → IsNoUndoing th.attempt
      → FixedHolds th next step × FixedWaits (c k) t next step
  fixed_holds {next} {step} act only calm =
      subst (λ n. FixedHolds th n step × FixedWaits (c k) t n step) act.wants
      ((fit_here code b is_thread first classes c acts run k t th act).fixed t th step act.stands (was_fixed code b th step act.move (subst (λ n. OnlyFixed n step) (sym act.wants) only) calm))

  -- what is known of its waits
  pub waits_hold : {next : Next} {step : Step} {a : StepAnswer} {change : Change} (act : Does next step a change) → WaitsHold th next
  waits_hold act = subst (WaitsHold th) act.wants ((fit_here code b is_thread first classes c acts run k t th act).waits t th act.stands).0

  level_low : {next : Next} {step : Step} {a : StepAnswer} {change : Change} (act : Does next step a change) → (th.levels < 2 ^ 8) × (th.level < 2 ^ 8)
  level_low {step = step} {a = a} act =
      let kept = ((known code b is_thread first classes c acts run k t step a act.here (did_at code b is_thread first classes c acts run k t th act)).fit t th act.stands).kept in
      (kept.most, kept.waited.1)

  exit_calm : (step : Step) → th.attempt ≡ Fixed step → IsNoUndoing th.attempt
  exit_calm step is = subst IsNoUndoing (sym is) tt

  -- ---- a free monitor is taken

  module _ {next : Next} (act : Does next (take_for th next th.section th.levels) StepAnswer.Done (takes (entry th next th.levels))) where
    abbrev take : Step
    take = take_for th next th.section th.levels

    abbrev taken : Words
    taken = words_after (take_for th next th.section th.levels) (c k).words

    abbrev r : ℕ
    r = monitor_wanted next

    was_free : (o : Object) → (c k).objects r ≡ Some o → state.monitors r ≡ free
    was_free o there = monitor_at code b is_thread first classes c acts run k t th act r o there
        ∙ ap (monitor_of (c k).words) (exchanged (c k).words (Area.Object (r + 1)) 0 (held_word th.section (entry th next th.levels)) act.answered).found

    then_word : taken (Area.Object (r + 1)) ≡ held_word th.section (entry th next th.levels)
    then_word = ap (λ (x : Words). x (Area.Object (r + 1))) (exchanged (c k).words (Area.Object (r + 1)) 0 (held_word th.section (entry th next th.levels)) act.answered).leaves
        ∙ put_object (c k).words (r + 1) (held_word th.section (entry th next th.levels))

    sections_same : (s : ℕ) → taken (Area.Section s) ≡ (c k).words (Area.Section s)
    sections_same s = stays_at (effect_of take) (c k).words (Area.Object (r + 1)) (Area.Section s) refl

    then_held : FitsMonitorWord (entry th next th.levels) → nat_lt 0 th.section ≡ true → monitor_of taken (taken (Area.Object (r + 1))) ≡ held t (entry th next th.levels).depth
    then_held fits some = ap (monitor_of taken) then_word ∙ taken_so code b is_thread first classes c acts run k t th act taken (entry th next th.levels) sections_same fits (above th.section some)

  pub take_row : (next : Next) → IsEntry next → nat_lt 0 th.section ≡ true → Does next (take_for th next th.section th.levels) StepAnswer.Done (takes (entry th next th.levels))
      → Seen (take_for th next th.section th.levels) StepAnswer.Done
  take_row (Want (Enter r)) enters some act =
      let there = object_of act (Enter r) refl r (λ is. is) in
      let free_then = was_free act there.0 there.1 in
      let none : th.depth ≡ 0 = waits_hold act in
      monitor_entry code b is_thread first classes c acts run k t th act r there.0 there.1 refl (Enter r) Reply.Done (entered t (state.monitors r)) state.waiting refl refl tt tt
      ((all_fit code b is_thread first classes c acts run k t th act (Enter r) refl).1, subst (IsOpenTo t) (sym free_then) tt) tt
      (record { place = refl; over = refl; objects = λ f. refl; starting = λ f. refl; lines = λ xs. refl; threads = λ f. refl })
      (then_held act (omega arith, omega arith, (level_low act).0) some ∙ sym (ap (entered t) free_then))
      (same_waiting code b is_thread first classes c acts run k t th act r there.0 there.1 refl (sym none)) refl
  take_row (Want (Rewake r)) enters some act =
      let there = object_of act (Rewake r) refl r (λ is. is) in
      let free_then = was_free act there.0 there.1 in
      let waited = waits_hold act in
      let attempt : th.attempt ≡ Fixed (take_for th (Want (Rewake r)) th.section th.levels) = entry_fixed act in
      let notified_so = rewake_notified act attempt in
      monitor_entry code b is_thread first classes c acts run k t th act r there.0 there.1 refl (Rewake r) Reply.Done (held t (saved_count (state.waiting t))) (set_at state.waiting t awake) refl refl tt tt
      ((all_fit code b is_thread first classes c acts run k t th act (Rewake r) refl).1, notified_so.0, free_then) tt
      (record { place = refl; over = refl; objects = λ f. refl; starting = λ f. refl; lines = λ xs. refl; threads = λ f. refl })
      (then_held act (waited.0, waited.1, (level_low act).1) some ∙ sym (ap (held t) notified_so.1))
      (λ u. awake_now act u) refl
    where
      entry_fixed : (act : Does (Want (Rewake r)) (take_for th (Want (Rewake r)) th.section th.levels) StepAnswer.Done (takes (entry th (Want (Rewake r)) th.levels)))
          → th.attempt ≡ Fixed (take_for th (Want (Rewake r)) th.section th.levels)
      entry_fixed act = was_fixed code b th (take_for th (Want (Rewake r)) th.section th.levels) act.move tt
          (not_undoing code b th (take_for th (Want (Rewake r)) th.section th.levels) act.move (λ is. is))

      rewake_notified : (act : Does (Want (Rewake r)) (take_for th (Want (Rewake r)) th.section th.levels) StepAnswer.Done (takes (entry th (Want (Rewake r)) th.levels)))
          → th.attempt ≡ Fixed (take_for th (Want (Rewake r)) th.section th.levels) → IsNotifiedFor r (state.waiting t) × (saved_count (state.waiting t) ≡ th.depth)
      rewake_notified act attempt =
          let notes = (fixed_holds act tt (subst IsNoUndoing (sym attempt) tt)).1 in
          let waiting : state.waiting t ≡ notified r th.depth = ap (λ x. waiting_in x ((c k).words (Area.Wait t))) act.stands ∙ notified_is th ((c k).words (Area.Wait t)) r (waits_hold act).0 notes in
          (subst (IsNotifiedFor r) (sym waiting) refl, ap saved_count waiting)

      awake_now : (act : Does (Want (Rewake r)) (take_for th (Want (Rewake r)) th.section th.levels) StepAnswer.Done (takes (entry th (Want (Rewake r)) th.levels))) (u : ℕ)
          → waiting_in (set_at (c k).threads t (Some (after_answer code b th (take_for th (Want (Rewake r)) th.section th.levels) StepAnswer.Done)) u) (words_after (take_for th (Want (Rewake r)) th.section th.levels) (c k).words (Area.Wait u))
          ≡ set_at state.waiting t awake u
      awake_now act u =
          ap (waiting_in (set_at (c k).threads t (Some (after_answer code b th (take_for th (Want (Rewake r)) th.section th.levels) StepAnswer.Done)) u))
          (stays_at (effect_of (take_for th (Want (Rewake r)) th.section th.levels)) (c k).words (Area.Object (r + 1)) (Area.Wait u) refl)
          ∙ set_at-both (λ x z. waiting_in x ((c k).words (Area.Wait u)) ≡ z) (c k).threads state.waiting t (Some (after_answer code b th (take_for th (Want (Rewake r)) th.section th.levels) StepAnswer.Done)) awake u
          (λ own. waiting_none (after_answer code b th (take_for th (Want (Rewake r)) th.section th.levels) StepAnswer.Done) ((c k).words (Area.Wait u)) (depth_is code b is_thread first classes c acts run k t th act))
          (λ other. refl)
  take_row next enters some act = absurd enters

  -- ---- one that is held is entered once more, or left once

  module _ {next : Next} {r new : ℕ} {change : Change} (act : Does next (SetDepth r new) StepAnswer.Done change) (o : Object) (there : (c k).objects r ≡ Some o) (holds : is_held r th.held ≡ true) where
    -- the monitor has this depth then
    set_so : (d : ℕ) → new ≡ held_word th.section (record (held_as r th.held) { depth = suc d }) → suc d < 2 ^ 16
        → monitor_of (words_after (SetDepth r new) (c k).words) (words_after (SetDepth r new) (c k).words (Area.Object (r + 1))) ≡ held t (suc d)
    set_so d is low =
        let fits = ((fit_here code b is_thread first classes c acts run k t th act).held.says t r th act.stands holds).1 in
        let some = (fit_here code b is_thread first classes c acts run k t th act).held.sections t r th act.stands holds in
        ap (monitor_of (words_after (SetDepth r new) (c k).words)) (put_object (c k).words (r + 1) new ∙ is)
        ∙ taken_so code b is_thread first classes c acts run k t th act (words_after (SetDepth r new) (c k).words) (record (held_as r th.held) { depth = suc d })
        (λ s. refl) (omega arith, low, fits.2) some

  pub enter_row : (next : Next) (new : ℕ) → IsEntry next → IsNoUndoing th.attempt → Does next (SetDepth (monitor_wanted next) new) StepAnswer.Done (deepens (monitor_wanted next) (monitor_depth new))
      → Seen (SetDepth (monitor_wanted next) new) StepAnswer.Done
  enter_row (Want (Enter r)) new enters calm act =
      let there = object_of act (Enter r) refl r (λ is. is) in
      let fixed = (fixed_holds act tt calm).0 in
      let was : state.monitors r ≡ held t (held_as r th.held).depth = held_monitor code b is_thread first classes c acts run k t th act r there.0 there.1 fixed.0 in
      monitor_entry code b is_thread first classes c acts run k t th act r there.0 there.1 refl (Enter r) Reply.Done (entered t (state.monitors r)) state.waiting refl refl calm tt
      ((all_fit code b is_thread first classes c acts run k t th act (Enter r) refl).1, subst (IsOpenTo t) (sym was) refl) tt
      (record { place = refl; over = refl; objects = λ f. refl; starting = λ f. refl; lines = λ xs. refl; threads = λ f. refl })
      (set_so act there.0 there.1 fixed.0 (held_as r th.held).depth fixed.2 (low_more (held_as r th.held).depth fixed.1) ∙ sym (ap (entered t) was))
      (same_waiting code b is_thread first classes c acts run k t th act r there.0 there.1 refl refl) refl
  enter_row (Want (Rewake r)) new enters calm act = absurd (fixed_holds act tt calm).0
  enter_row next new enters calm act = absurd enters

  pub leave_row : {r new : ℕ} → IsNoUndoing th.attempt → Does (Want (Exit r)) (SetDepth r new) StepAnswer.Done (deepens r (monitor_depth new)) → Seen (SetDepth r new) StepAnswer.Done
  leave_row {r} {new} calm act =
      let there = object_of act (Exit r) refl r (λ is. is) in
      let fixed = (fixed_holds act tt calm).0 in
      let fits = ((fit_here code b is_thread first classes c acts run k t th act).held.says t r th act.stands fixed.0).1 in
      let was : state.monitors r ≡ held t (suc (suc fixed.1.0)) = held_monitor code b is_thread first classes c acts run k t th act r there.0 there.1 fixed.0 ∙ ap (held t) (sym fixed.1.1) in
      let size = fixed.1.1 in let few = fits.1 in
      monitor_entry code b is_thread first classes c acts run k t th act r there.0 there.1 refl (Exit r) Reply.Done (exited (state.monitors r)) state.waiting refl refl calm tt
      (all_fit code b is_thread first classes c acts run k t th act (Exit r) refl).1 (subst (IsOwner t) (sym was) refl)
      (record { place = refl; over = refl; objects = λ f. refl; starting = λ f. refl; lines = λ xs. refl; threads = λ f. refl })
      (set_so act there.0 there.1 fixed.0 fixed.1.0 fixed.1.2 (omega (arith, size, few)) ∙ sym (ap exited was))
      (same_waiting code b is_thread first classes c acts run k t th act r there.0 there.1 refl refl) refl

  -- ---- one is left altogether

  exit_entry : {r : ℕ} {change : Change} (act : Does (Want (Exit r)) (Release r) StepAnswer.Done change) → th.attempt ≡ Fixed (Release r)
      → told_of (Want (Exit r)) (Release r) StepAnswer.Done change (shown change) ≡ advanced (Some Reply.Done) → stance (changed code th change) ≡ stance (answered code th Reply.Done) → Seen (Release r) StepAnswer.Done
  exit_entry {r} {change} act at reports same =
      let there = object_of act (Exit r) refl r (λ is. is) in
      let fixed = (fixed_holds act tt (exit_calm (Release r) at)).0 in
      let was : state.monitors r ≡ held t 1 = held_monitor code b is_thread first classes c acts run k t th act r there.0 there.1 fixed.0 ∙ ap (held t) fixed.1 in
      monitor_entry code b is_thread first classes c acts run k t th act r there.0 there.1 refl (Exit r) Reply.Done (exited (state.monitors r)) state.waiting refl reports (exit_calm (Release r) at) tt
      (all_fit code b is_thread first classes c acts run k t th act (Exit r) refl).1 (subst (IsOwner t) (sym was) refl)
      (record {
        place = ap (λ (x : Stance S). place_in code x.local x.attempt) same;
        over = ap (λ (x : Stance S). x.over) same;
        objects = λ f. refl;
        starting = λ f. refl;
        lines = λ xs. refl;
        threads = λ f. refl;
      })
      (ap (monitor_of (words_after (Release r) (c k).words)) (put_object (c k).words (r + 1) 0) ∙ sym (ap exited was))
      (same_waiting code b is_thread first classes c acts run k t th act r there.0 there.1 refl (ap (λ (x : Stance S). x.depth) same)) refl

  pub left_row : {r : ℕ} {h : Held} {rest : List Held} → Does (Want (Exit r)) (Release r) StepAnswer.Done (drops (h ∷ rest)) → th.attempt ≡ Fixed (Release r) → Seen (Release r) StepAnswer.Done
  left_row act at = exit_entry act at refl refl

  pub closed_row : {r : ℕ} → Does (Want (Exit r)) (Release r) StepAnswer.Done closes → th.attempt ≡ Fixed (Release r) → Seen (Release r) StepAnswer.Done
  closed_row act at = exit_entry act at refl (forgotten_stance (with_levels (record (answered code th Reply.Done) { held = []; section = 0 }) 0))

  -- ---- the monitor is another thread's

  pub owner_row : (next : Next) (r m : ℕ) → NeedsOwner next r → is_own m th.section ≡ false → Does next (LoadMonitor r) (Found m) (replies NotOwner) → Seen (LoadMonitor r) (Found m)
  owner_row (Want (Exit q)) r m needs other act =
      let there = object_of act (Exit q) refl q (λ is. is) in
      kept_entry code b is_thread first classes c acts run k t th act (Exit q) NotOwner refl refl tt tt (all_fit code b is_thread first classes c acts run k t th act (Exit q) refl).1
      (others_monitor code b is_thread first classes c acts run k t th act q m there.0 there.1 (found_is m ((c k).words (Area.Object (r + 1))) act.answered ∙ ap (λ x. (c k).words (Area.Object (x + 1))) needs) other)
      (keeps_load (LoadMonitor r) (c k).words refl) refl (λ f. refl) (λ f. refl) (λ xs. refl) (λ f. refl) refl
  owner_row (Want (Wait q)) r m needs other act =
      let there = object_of act (Wait q) refl q (λ is. is) in
      kept_entry code b is_thread first classes c acts run k t th act (Wait q) NotOwner refl refl tt tt (all_fit code b is_thread first classes c acts run k t th act (Wait q) refl).1
      (others_monitor code b is_thread first classes c acts run k t th act q m there.0 there.1 (found_is m ((c k).words (Area.Object (r + 1))) act.answered ∙ ap (λ x. (c k).words (Area.Object (x + 1))) needs) other)
      (keeps_load (LoadMonitor r) (c k).words refl) refl (λ f. refl) (λ f. refl) (λ xs. refl) (λ f. refl) refl
  owner_row (Want (Op.Notify q)) r m needs other act =
      let there = object_of act (Op.Notify q) refl q (λ is. is) in
      kept_entry code b is_thread first classes c acts run k t th act (Op.Notify q) NotOwner refl refl tt tt (all_fit code b is_thread first classes c acts run k t th act (Op.Notify q) refl).1
      (others_monitor code b is_thread first classes c acts run k t th act q m there.0 there.1 (found_is m ((c k).words (Area.Object (r + 1))) act.answered ∙ ap (λ x. (c k).words (Area.Object (x + 1))) needs) other)
      (keeps_load (LoadMonitor r) (c k).words refl) refl (λ f. refl) (λ f. refl) (λ xs. refl) (λ f. refl) refl
  owner_row next r m needs other act = absurd needs
