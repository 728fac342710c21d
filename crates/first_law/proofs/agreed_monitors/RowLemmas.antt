-- What each row that answers an operation on a monitor has found.
use Rattle.std.proofs.Common.{true, false, ◌≡◌, Some, ℕ, refl, subst}
use Rattle.op_core.specs.Replies.{IsEntry}
use Rattle.op_core.specs.declared.Op.TheVariants.{Enter, Exit, Wait, Rewake, Start, Init}
use Rattle.op_core.specs.declared.Op.{Op}
use Rattle.op_core.specs.declared.Next.{Next}
use Rattle.op_core.specs.declared.Next.TheVariants.{Want}
use Rattle.op_core.specs.ThreadCode.{Code}
use Rattle.op_core.specs.declared.Reply.TheVariants.{NotOwner}
use Rattle.op_core.specs.OrdinaryState.{Monitor, IsOwner}
use Rattle.monitor_core.specs.Monitors.{monitor_depth, is_own}
use Rattle.step_port.specs.declared.answer.StepAnswer.{StepAnswer}
use Rattle.step_port.specs.declared.answer.StepAnswer.TheVariants.{Found}
use Rattle.step_port.specs.declared.step.ThreadWord.{ThreadWord}
use Rattle.step_port.specs.declared.step.Step.{Step}
use Rattle.step_port.specs.declared.step.Step.TheVariants.{LoadThread, LoadClass, SetDepth, LoadMonitor, LoadWait, TakeMonitor}
use Rattle.thread_automaton.specs.declared.Bounds.{Bounds}
use Rattle.thread_automaton.specs.declared.Move.TheVariants.{Make}
use Rattle.thread_automaton.specs.declared.Attempt.TheVariants.{Fixed}
use Rattle.thread_automaton.specs.ThreadState.{ThreadState, is_open}
use Rattle.thread_automaton.specs.NextMove.{own_pin, move_of}
use Rattle.thread_automaton.specs.Changes.{Change, goes, takes, deepens}
use Rattle.thread_automaton.specs.Checks.{behind_pin, to_pin}
use Rattle.thread_automaton.specs.Monitors.{monitor_wanted, entry, take_for}
use Rattle.automaton_rows.specs.Rows.{Row, is_lost, exits_one, wait_begins, notify_begins, start_begins, is_unready, not_owner, NeedsOwner, monitor_taken, entered_again, left_once, monitor_left, section_left, wait_made, none_waits, waiter_woken}
use Rattle.thread_automaton.specs.Told.{advanced, shown, told_of, Told}
use Rattle.automaton_rows.specs.Undoing.{is_held}
use Rattle.automaton_rows.proofs.RowLemmas.{by_if}
use Rattle.section_laws.proofs.level_marks.RowLemmas.{no_undoing}
use Rattle.first_law.specs.Held.{SetsFor, StageHolds, Holds}
use Rattle.first_law.proofs.run_monitors.StageLemmas.{fixed_at, undoes_none, scan_holds, wakes_holds}
use Rattle.first_law.proofs.run_monitors.ChangeLemmas.{Ground}
use Rattle.first_law.specs.Agreed.{AgreesOnMonitors}

-- what others see agrees
abbrev pub ToldAgrees : (ℕ → Monitor) → (ℕ → Monitor) → ℕ → Told → Next → Type 0
ToldAgrees monitors settled t (advanced (Some reply)) (Want op) = AgreesOnMonitors monitors settled t op reply
ToldAgrees monitors settled t told next = Unit {0}

module _ {S : Type 0} {code : Code S} {first : S} {classes : ℕ} (b : Bounds) {th : ThreadState S} (ground : Ground code first classes th) (t : ℕ) (monitors settled : ℕ → Monitor)
    (has_ok : (r : ℕ) → is_held r th.held ≡ true → monitors r ≡ settled r) where
  abbrev Agrees : Next → Step → StepAnswer → Change → Type 0
  Agrees next step a change = ToldAgrees monitors settled t (told_of next step a change (shown change)) next

  pin_agrees : (next : Next) (r m : ℕ) → Agrees next (LoadMonitor r) (Found m) (goes (to_pin th next))
  pin_agrees next r m = by_if (λ g. Agrees next (LoadMonitor r) (Found m) (goes g)) (is_open th) (Fixed (own_pin th)) (behind_pin th next) (λ open_so. tt) (λ shut. behind next)
    where
      behind : (next : Next) → Agrees next (LoadMonitor r) (Found m) (goes (behind_pin th next))
      behind (Want (Exit q)) = tt
      behind (Want (Wait q)) = tt
      behind (Want (Op.Notify q)) = tt
      behind (Want (Start q p)) = tt
      behind (Want (Init c)) = tt
      behind next = tt

  takes_agree : (next : Next) → IsEntry next → (monitors (monitor_wanted next) ≡ settled (monitor_wanted next)) → Agrees next (take_for th next th.section th.levels) StepAnswer.Done (takes (entry th next th.levels))
  takes_agree (Want (Enter r)) enters ok = ok
  takes_agree (Want (Rewake r)) enters ok = ok
  takes_agree next enters ok = absurd enters

  enters_agree : (next : Next) (new : ℕ) → IsEntry next → SetsFor th.section th.held next new → Agrees next (SetDepth (monitor_wanted next) new) StepAnswer.Done (deepens (monitor_wanted next) (monitor_depth new))
  enters_agree (Want (Enter r)) new enters sets = has_ok r sets.0
  enters_agree (Want (Rewake r)) new enters sets = absurd sets
  enters_agree next new enters sets = absurd enters

  lacks_agree : (next : Next) (r : ℕ) → NeedsOwner next r → (IsOwner t (settled r) → ⊥) → ToldAgrees monitors settled t (advanced (Some NotOwner)) next
  lacks_agree (Want (Exit q)) r needs lacks = subst (λ n. IsOwner t (settled n) → ⊥) needs lacks
  lacks_agree (Want (Wait q)) r needs lacks = subst (λ n. IsOwner t (settled n) → ⊥) needs lacks
  lacks_agree (Want (Op.Notify q)) r needs lacks = subst (λ n. IsOwner t (settled n) → ⊥) needs lacks
  lacks_agree next r needs lacks = absurd needs

  pub agrees : {next : Next} {step : Step} {a : StepAnswer} {change : Change} → Row code b th next step a change → code.next th.local ≡ next → Holds b next th
      → move_of code th next th.attempt ≡ Make step → ((r new : ℕ) → step ≡ TakeMonitor r new → a ≡ StepAnswer.Done → monitors r ≡ settled r)
      → ((r m : ℕ) → step ≡ LoadMonitor r → a ≡ Found m → is_own m th.section ≡ false → IsOwner t (settled r) → ⊥) → Agrees next step a change
  agrees {next} (is_lost {step = step} {v = v}) is h makes free_ok lacks_ok = tt
  agrees (monitor_taken {next = wanted} enters some) is h makes free_ok lacks_ok = takes_agree wanted enters (free_ok (monitor_wanted wanted) _ refl refl)
  agrees (entered_again {next = wanted} {new = new} enters calm_row) is h makes free_ok lacks_ok = enters_agree wanted new enters
      (subst (StageHolds th.section th.levels th.pinned th.held wanted) (fixed_at code th wanted th.attempt (SetDepth (monitor_wanted wanted) new) tt (no_undoing th.attempt calm_row) makes) h.fixed)
  agrees (not_owner {next = wanted} {r = r} {m = m} needs other) is h makes free_ok lacks_ok = lacks_agree wanted r needs (lacks_ok r m refl refl other)
  agrees (exits_one {r = r} {m = m} own last more outer) is h makes free_ok lacks_ok = pin_agrees (Want (Exit r)) r m
  agrees (left_once {r = r} {new = new} calm_row) is h makes free_ok lacks_ok =
      has_ok r (subst (StageHolds th.section th.levels th.pinned th.held (Want (Exit r))) (fixed_at code th (Want (Exit r)) th.attempt (SetDepth r new) tt (no_undoing th.attempt calm_row) makes) h.fixed).0
  agrees (monitor_left {r = r} at more) is h makes free_ok lacks_ok = has_ok r (subst (StageHolds th.section th.levels th.pinned th.held (Want (Exit r))) at h.fixed).0.0
  agrees (section_left {r = r} at none) is h makes free_ok lacks_ok = has_ok r (subst (StageHolds th.section th.levels th.pinned th.held (Want (Exit r))) at h.fixed).0.0
  agrees (wait_begins {r = r} {m = m} own) is h makes free_ok lacks_ok = pin_agrees (Want (Wait r)) r m
  agrees (wait_made {r = r} shut at) is h makes free_ok lacks_ok = has_ok r (subst (StageHolds th.section th.levels th.pinned th.held (Want (Wait r))) at h.fixed)
  agrees (notify_begins {r = r} {m = m} own) is h makes free_ok lacks_ok = pin_agrees (Want (Op.Notify r)) r m
  agrees (none_waits {r = r} {n = n} {w = w} shut some low other last) is h makes free_ok lacks_ok =
      has_ok r (scan_holds code th th.section th.levels th.pinned th.held r th.attempt n h.fixed (undoes_none code th (Want (Op.Notify r)) (LoadWait n) th.attempt makes tt) makes)
  agrees (waiter_woken {r = r} {n = n} {w = w} shut some low waiting) is h makes free_ok lacks_ok =
      has_ok r (wakes_holds code th th.section th.levels th.pinned th.held r th.attempt n w h.fixed (undoes_none code th (Want (Op.Notify r)) (Step.Notify n w) th.attempt makes tt) makes)
  agrees (start_begins {r = r} {p = p} {w = w} none) is h makes free_ok lacks_ok = start_agrees r p w
    where
      start_agrees : (r p w : ℕ) → Agrees (Want (Start r p)) (LoadThread (ThreadWord.Start r)) (Found w) (goes (to_pin th (Want (Start r p))))
      start_agrees r p w = by_if (λ g. Agrees (Want (Start r p)) (LoadThread (ThreadWord.Start r)) (Found w) (goes g)) (is_open th) (Fixed (own_pin th)) (behind_pin th (Want (Start r p))) (λ open_so. tt) (λ shut. tt)
  agrees (is_unready {c = c} {w = w} fresh) is h makes free_ok lacks_ok = init_agrees c w
    where
      init_agrees : (c w : ℕ) → Agrees (Want (Init c)) (LoadClass c) (Found w) (goes (to_pin th (Want (Init c))))
      init_agrees c w = by_if (λ g. Agrees (Want (Init c)) (LoadClass c) (Found w) (goes g)) (is_open th) (Fixed (own_pin th)) (behind_pin th (Want (Init c))) (λ open_so. tt) (λ shut. tt)
  agrees row is h makes free_ok lacks_ok = tt
