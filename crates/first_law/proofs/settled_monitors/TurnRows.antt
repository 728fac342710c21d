-- What each row makes of the monitors that a thread holds and of its levels.
use Rattle.std.proofs.Common.{◌≡◌, Some, inl, inr, ℕ, suc, ◌-◌, ◌^◌, ◌<◌, length, List, [], refl, sym, ◌∙◌, ap, subst, arith}
use Rattle.op_core.specs.Replies.{IsEntry}
use Rattle.op_core.specs.declared.Op.TheVariants.{Enter, Exit, Wait, Rewake, Start, Init}
use Rattle.op_core.specs.declared.Op.{Op}
use Rattle.op_core.specs.declared.Next.{Next}
use Rattle.op_core.specs.declared.Next.TheVariants.{Want}
use Rattle.op_core.specs.declared.Reply.{Reply}
use Rattle.op_core.specs.ThreadCode.{Code}
use Rattle.heap_words.specs.declared.areas.Area.{Area}
use Rattle.heap_words.specs.declared.areas.Area.TheVariants.{Section}
use Rattle.op_core.specs.declared.Reply.TheVariants.{NotOwner}
use Rattle.op_core.specs.OrdinaryState.{set_at, Monitor, free, entered, exited}
use Rattle.op_core.specs.InPlaceList.{owned_by}
use Rattle.section_state.specs.SectionWord.{pinned_of, revoke_of, undone_of}
use Rattle.monitor_core.specs.Monitors.{monitor_depth}
use Rattle.step_port.specs.declared.answer.StepAnswer.{StepAnswer}
use Rattle.step_port.specs.declared.answer.StepAnswer.TheVariants.{Found, Lost}
use Rattle.step_port.specs.declared.step.ThreadWord.{ThreadWord}
use Rattle.step_port.specs.declared.step.Step.{Step}
use Rattle.step_port.specs.declared.step.Step.TheVariants.{LoadThread, LoadClass, CloseLevel, MarkUndone, SetDepth, Release}
use Rattle.step_port.specs.Steps.{place_of}
use Rattle.thread_automaton.specs.declared.Bounds.{Bounds}
use Rattle.thread_automaton.specs.declared.Move.TheVariants.{Make}
use Rattle.thread_automaton.specs.declared.Attempt.TheVariants.{Begin, Look, Checked, Fixed}
use Rattle.thread_automaton.specs.ThreadState.{ThreadState, is_open, is_own_section, mark_of, inside, noted_since, held_as, from_level}
use Rattle.thread_automaton.specs.NextMove.{own_pin, deepened_since, move_of}
use Rattle.thread_automaton.specs.Changes.{Change, goes, takes, deepens, answered, with_level, with_levels, without_level, stood_at, section_at, changed}
use Rattle.thread_automaton.specs.Checks.{behind_pin, to_pin}
use Rattle.thread_automaton.specs.Monitors.{monitor_wanted, entry, take_for}
use Rattle.thread_automaton.specs.Answers.{lost_on}
use Rattle.automaton_rows.specs.Rows.{Row, is_lost, exits_one, wait_begins, notify_begins, start_begins, is_unready, not_owner, object_made, NeedsOwner, own_stands, pins, sets_monitor_back, gives_monitor_back, is_undone, section_opened, level_opened, monitor_taken, entered_again, left_once, levels_closed, monitor_left, section_left, wait_made}
use Rattle.thread_automaton.specs.Told.{advanced, shown, told_of}
use Rattle.automaton_rows.proofs.RowLemmas.{by_if}
use Rattle.automaton_rows.proofs.UndoLemmas.{depth_is}
use Rattle.section_laws.proofs.level_marks.RowLemmas.{no_undoing}
use Rattle.core_runs.specs.Cores.{levels_by}
use Rattle.first_law.specs.Held.{top_at, MarksHold, TakesFor, SetsFor, StageHolds, Holds}
use Rattle.first_law.proofs.run_monitors.ListLemmas.{is_not_less, depth_fits, level_fits}
use Rattle.first_law.proofs.run_monitors.StageLemmas.{fixed_at, undoes_none}
use Rattle.first_law.proofs.run_monitors.MarkLemmas.{SetsBack, sets_back_so, gives_back_so, mark_first}
use Rattle.section_laws.specs.Marks.{counting_marks}
use Rattle.first_law.proofs.run_monitors.ChangeLemmas.{Ground}
use Rattle.first_law.proofs.settled_monitors.TurnLemmas.{owned_some, entered_owned, Unseen, of_level, of_pinned, of_last, of_undoing, MonitorTurn, calm, opens_one, closes_some, is_undone_to, takes_one, sets_one, leaves_one, makes_one, forgets, pin_turns}

module _ {S : Type 0} {code : Code S} {first : S} {classes : ℕ} (b : Bounds) {th : ThreadState S} (ground : Ground code first classes th) (k t : ℕ) (levels : List ℕ) where
  abbrev Turns : Next → Step → StepAnswer → Change → Type 0
  Turns next step a change =
      MonitorTurn k t next th (changed code th change).held (changed code th change).marks (is_open (changed code th change)) (told_of next step a change (shown change)) levels (levels_by k change levels) step

  -- ---- a monitor is taken, or gets another depth

  -- what a taken monitor makes of the others' view
  sees_set : (old new : Monitor) (r : ℕ) (f : Monitor → Monitor) → f old ≡ new → (monitors : ℕ → Monitor) → monitors r ≡ old → (q : ℕ) → set_at monitors r (f (monitors r)) q ≡ set_at monitors r new q
  sees_set old new r f is monitors same q = ap (λ v. set_at monitors r (f v) q) same ∙ ap (λ v. set_at monitors r v q) is

  takes_turn : (next : Next) → code.next th.local ≡ next → Holds b next th → IsEntry next → TakesFor th.levels th.held next → Turns next (take_for th next th.section th.levels) StepAnswer.Done (takes (entry th next th.levels))
  takes_turn (Want (Enter r)) is h enters takes_so =
      takes_one (record { object = r; level = th.levels; depth = 1 }) takes_so.0 refl refl refl (sees_set free (owned_by t 1) r (entered t) refl)
  takes_turn (Want (Rewake r)) is h enters takes_so =
      takes_one (record { object = r; level = th.level; depth = th.depth }) h.waits.2 refl refl refl (λ monitors same q. ap (λ v. set_at monitors r v q) (sym (owned_some t th.depth h.waits.0)))
  takes_turn next is h enters takes_so = absurd enters

  enters_turn : (next : Next) (new : ℕ) → Holds b next th → IsEntry next → SetsFor th.section th.held next new → Turns next (SetDepth (monitor_wanted next) new) StepAnswer.Done (deepens (monitor_wanted next) (monitor_depth new))
  enters_turn (Want (Enter r)) new h enters sets =
      sets_one r (monitor_depth new) sets.0 refl refl refl (inl (sees_set (owned_by t (held_as r th.held).depth) (owned_by t (monitor_depth new)) r (entered t)
      (entered_owned t (held_as r th.held).depth fit.0 ∙ ap (owned_by t) (sym depth))))
    where
      fit : (0 < (held_as r th.held).depth) × ((held_as r th.held).depth < 2 ^ 16)
      fit = depth_fits r th.held h.depths sets.0

      under : (d : ℕ) → d < 65535 → suc d < 2 ^ 16
      under d low = omega (arith, low)

      depth : monitor_depth new ≡ suc (held_as r th.held).depth
      depth = ap monitor_depth sets.2 ∙ depth_is th.section (suc (held_as r th.held).depth) (held_as r th.held).level ground.small (under (held_as r th.held).depth sets.1) (level_fits r th.held ground.fits.kept.in_levels).1
  enters_turn (Want (Rewake r)) new h enters sets = absurd sets
  enters_turn next new h enters sets = absurd enters

  exits_turn : (r new : ℕ) → Holds b (Want (Exit r)) th → SetsFor th.section th.held (Want (Exit r)) new → Turns (Want (Exit r)) (SetDepth r new) StepAnswer.Done (deepens r (monitor_depth new))
  exits_turn r new h sets =
      sets_one r (monitor_depth new) sets.0 refl refl refl (inl (sees_set (owned_by t (held_as r th.held).depth) (owned_by t (monitor_depth new)) r exited
      (ap (λ d. exited (owned_by t d)) (sym sets.1.1) ∙ ap (owned_by t) (sym depth))))
    where
      under : (d e : ℕ) → suc (suc d) ≡ e → e < 2 ^ 16 → suc d < 2 ^ 16
      under d e is low = omega (arith, is, low)

      depth : monitor_depth new ≡ suc sets.1.0
      depth = ap monitor_depth sets.1.2 ∙ depth_is th.section (suc sets.1.0) (held_as r th.held).level ground.small (under sets.1.0 (held_as r th.held).depth sets.1.1 (depth_fits r th.held h.depths sets.0).1)
          (level_fits r th.held ground.fits.kept.in_levels).1

  -- ---- a monitor is left

  exit_sees : (r : ℕ) → (held_as r th.held).depth ≡ 1 → (monitors : ℕ → Monitor) → monitors r ≡ owned_by t (held_as r th.held).depth → (q : ℕ) → set_at monitors r (exited (monitors r)) q ≡ set_at monitors r free q
  exit_sees r once monitors same q = sees_set (owned_by t (held_as r th.held).depth) free r exited (ap (λ d. exited (owned_by t d)) once) monitors same q

  not_owner_unseen : (next : Next) (r : ℕ) → NeedsOwner next r → Unseen t (advanced (Some NotOwner)) next
  not_owner_unseen (Want (Exit q)) r needs = λ depth monitors. refl
  not_owner_unseen (Want (Wait q)) r needs = λ depth monitors. refl
  not_owner_unseen (Want (Op.Notify q)) r needs = λ depth monitors. refl
  not_owner_unseen next r needs = absurd needs

  pub turn_of : {next : Next} {step : Step} {a : StepAnswer} {change : Change} → Row code b th next step a change → code.next th.local ≡ next → Holds b next th
      → move_of code th next th.attempt ≡ Make step → Turns next step a change
  turn_of {next} (is_lost {step = step} {v = v}) is h makes = by_area (place_of step)
    where
      by_area : (area : Area) → Turns next step (Lost v) (lost_on th area)
      by_area (Section s) = by_if (λ change. Turns next step (Lost v) change) (is_own_section th s) (goes Look) (goes Begin) (λ own. calm refl refl (inl refl) (λ depth monitors. refl)) (λ other. calm refl refl (inl refl) (λ depth monitors. refl))
      by_area area = calm refl refl (inl refl) (λ depth monitors. refl)
  turn_of (own_stands {w = w} at looks live) is h makes = forgets b ground k t levels (record th { pinned = pinned_of w; attempt = Checked }) (λ marks which. calm refl refl which (λ depth monitors. refl))
  turn_of (pins {next = wanted} unpinned lasts) is h makes = forgets b ground k t levels (record th { pinned = th.levels; attempt = behind_pin th wanted }) (λ marks which. calm refl refl which (λ depth monitors. refl))
  turn_of (sets_monitor_back {w = w} {r = r} {new = new} at undo undoes) is h makes = sets_one r (monitor_depth new) back.has refl refl refl (inr (w, at, λ depth monitors. refl))
    where
      back : SetsBack th.section r new th.held
      back = sets_back_so th.section w r new (revoke_of w) (mark_of th (revoke_of w)) th.held (from_level (revoke_of w) th.held) (noted_since (mark_of th (revoke_of w)).noted th.log) ground.small h.once
          ground.fits.kept.in_levels (mark_first (inside th (revoke_of w)) (revoke_of w) th.marks th.held (subst (λ g. MarksHold (top_at g th.levels) (counting_marks g th.levels th.marks) th.held) at h.marks)) undoes
  turn_of (gives_monitor_back {w = w} {r = r} at undo undoes) is h makes =
      let back = gives_back_so th.section w r (revoke_of w) th.held (deepened_since (mark_of th (revoke_of w)) th.held) (noted_since (mark_of th (revoke_of w)).noted th.log) h.once undoes in
      leaves_one r back.0 refl (inl (refl, refl)) (of_undoing w at back.1 (λ depth monitors. refl))
  turn_of (is_undone {w = w} at undo undoes) is h makes =
      forgets b ground k t levels (without_level (record (stood_at th (revoke_of w)) { section = section_at (revoke_of w - 1) th.section; attempt = Begin }) (revoke_of w))
      (λ marks which. is_undone_to w th.section (undone_of w) at refl refl refl which (λ depth monitors. refl))
  turn_of (object_made {c = c} {n = n} {r = r}) is h makes = makes_one r _ refl refl refl refl (λ depth monitors. refl)
  turn_of (section_opened {s = s} enters none some) is h makes = opens_one (record { silents = th.silents; noted = length th.log; held = th.held }) refl refl refl (inl refl) (λ depth monitors. refl)
  turn_of (level_opened {next = wanted} enters some needs room) is h makes = forgets b ground k t levels (with_level (record th { attempt = Fixed (take_for th wanted th.section (suc th.levels)) }))
      (λ marks which. opens_one (record { silents = th.silents; noted = length th.log; held = th.held }) refl refl refl which (λ depth monitors. refl))
  turn_of (monitor_taken {next = wanted} enters some) is h makes = takes_turn wanted is h enters
      (subst (StageHolds th.section th.levels th.pinned th.held wanted)
      (fixed_at code th wanted th.attempt (take_for th wanted th.section th.levels) tt (undoes_none code th wanted (take_for th wanted th.section th.levels) th.attempt makes tt) makes) h.fixed)
  turn_of (entered_again {next = wanted} {new = new} enters calm_row) is h makes = enters_turn wanted new h enters
      (subst (StageHolds th.section th.levels th.pinned th.held wanted) (fixed_at code th wanted th.attempt (SetDepth (monitor_wanted wanted) new) tt (no_undoing th.attempt calm_row) makes) h.fixed)
  turn_of (not_owner {next = wanted} {r = r} needs other) is h makes = calm refl refl (inl refl) (not_owner_unseen wanted r needs)
  turn_of (exits_one {r = r} {m = m} own last more outer) is h makes = pin_turns b ground k t levels (Want (Exit r)) r m
  turn_of (left_once {r = r} {new = new} calm_row) is h makes = exits_turn r new h
      (subst (StageHolds th.section th.levels th.pinned th.held (Want (Exit r))) (fixed_at code th (Want (Exit r)) th.attempt (SetDepth r new) tt (no_undoing th.attempt calm_row) makes) h.fixed)
  turn_of (levels_closed {r = r} {depth = depth} closes) is h makes = forgets b ground k t levels (with_levels (record th { attempt = Fixed (Release r) }) depth)
      (λ marks which. closes_some depth refl refl which (λ s w same. not_mark _ _ _ s w same) (λ depth monitors. refl))
    where
      not_mark : (s w n v x : ℕ) → CloseLevel s w n ≡ MarkUndone v x → ⊥
      not_mark s w n v x same = cc
  turn_of (monitor_left {r = r} at more) is h makes =
      let stage = subst (StageHolds th.section th.levels th.pinned th.held (Want (Exit r))) at h.fixed in
      leaves_one r stage.0.0 (sym more) (inl (refl, refl)) (elim stage.1 [
        | inl high ↦ of_level high (exit_sees r stage.0.1)
        | inr other ↦ elim other [ inl pinned ↦ of_pinned (is_not_less th.pinned th.levels pinned) (exit_sees r stage.0.1) | inr none ↦ of_last at refl none (exit_sees r stage.0.1) ]
      ])
  turn_of (section_left {r = r} at none) is h makes =
      let stage = subst (StageHolds th.section th.levels th.pinned th.held (Want (Exit r))) at h.fixed in
      forgets b ground k t levels (with_levels (record (answered code th Reply.Done) { held = []; section = 0 }) 0)
      (λ marks which. leaves_one r stage.0.0 (sym none) (inr (refl, at, refl, none)) (of_last at refl none (exit_sees r stage.0.1)))
  turn_of (wait_begins {r = r} {m = m} own) is h makes = pin_turns b ground k t levels (Want (Wait r)) r m
  turn_of (wait_made {r = r} shut at) is h makes =
      leaves_one r (subst (StageHolds th.section th.levels th.pinned th.held (Want (Wait r))) at h.fixed) refl (inl (refl, refl)) (of_pinned shut (λ monitors same q. refl))
  turn_of (notify_begins {r = r} {m = m} own) is h makes = pin_turns b ground k t levels (Want (Op.Notify r)) r m
  turn_of (start_begins {r = r} {p = p} {w = w} none) is h makes = start_turn r p w
    where
      start_turn : (r p w : ℕ) → Turns (Want (Start r p)) (LoadThread (ThreadWord.Start r)) (Found w) (goes (to_pin th (Want (Start r p))))
      start_turn r p w = by_if (λ g. Turns (Want (Start r p)) (LoadThread (ThreadWord.Start r)) (Found w) (goes g)) (is_open th) (Fixed (own_pin th)) (behind_pin th (Want (Start r p)))
          (λ open_so. calm refl refl (inl refl) (λ depth monitors. refl)) (λ shut. calm refl refl (inl refl) (λ depth monitors. refl))
  turn_of (is_unready {c = c} {w = w} fresh) is h makes = init_turn c w
    where
      init_turn : (c w : ℕ) → Turns (Want (Init c)) (LoadClass c) (Found w) (goes (to_pin th (Want (Init c))))
      init_turn c w = by_if (λ g. Turns (Want (Init c)) (LoadClass c) (Found w) (goes g)) (is_open th) (Fixed (own_pin th)) (behind_pin th (Want (Init c)))
          (λ open_so. calm refl refl (inl refl) (λ depth monitors. refl)) (λ shut. calm refl refl (inl refl) (λ depth monitors. refl))
  turn_of row is h makes = calm refl refl (inl refl) (λ depth monitors. refl)
