-- How far a notify has looked for a thread that waits.
use Rattle.std.proofs.Common.{◌≡◌, ◌⊎◌, inl, inr, ℕ, suc, ◌+◌, ◌-◌, false, Some, None, [], refl, ◌∙◌, ap}
use Rattle.op_core.specs.declared.Op.{Op}
use Rattle.op_core.specs.declared.Op.TheVariants.{Exit, Wait, Start, Init}
use Rattle.op_core.specs.declared.Next.{Next}
use Rattle.op_core.specs.declared.Next.TheVariants.{Want}
use Rattle.op_core.specs.declared.Reply.{Reply}
use Rattle.op_core.specs.ThreadCode.{Code}
use Rattle.heap_words.specs.declared.areas.Area.{Area}
use Rattle.heap_words.specs.declared.areas.Area.TheVariants.{Section}
use Rattle.section_state.specs.SectionWord.{pinned_of, revoke_of}
use Rattle.step_port.specs.declared.answer.StepAnswer.{StepAnswer}
use Rattle.step_port.specs.declared.answer.StepAnswer.TheVariants.{Found}
use Rattle.step_port.specs.declared.step.Step.{Step}
use Rattle.step_port.specs.declared.step.Step.TheVariants.{Release, LoadWait}
use Rattle.step_port.specs.Steps.{place_of}
use Rattle.thread_automaton.specs.declared.Bounds.{Bounds}
use Rattle.thread_automaton.specs.declared.Attempt.TheVariants.{Begin, Checked, Fixed}
use Rattle.thread_automaton.specs.ThreadState.{ThreadState, is_open, is_own_section}
use Rattle.thread_automaton.specs.NextMove.{own_pin}
use Rattle.thread_automaton.specs.Changes.{Change, answered, forgotten, with_level, with_levels, without_level, stood_at, section_at, changed}
use Rattle.thread_automaton.specs.Checks.{behind_pin, to_pin}
use Rattle.thread_automaton.specs.Monitors.{take_for}
use Rattle.thread_automaton.specs.Answers.{is_waiting_for, lost_on, change_of}
use Rattle.thread_automaton.specs.Told.{Told, advanced, born, told, counted_for, after_answer}
use Rattle.automaton_rows.specs.Rows.{Row, is_lost, own_stands, pins, restores, sets_monitor_back, gives_monitor_back, is_undone, level_opened, exits_one, levels_closed, section_left, wait_begins, notify_begins, waiter_found, waiter_passed, start_begins, is_unready}
use Rattle.automaton_rows.proofs.RowLemmas.{by_if}
use Rattle.first_law.specs.Waits.{looked_below}

-- A thread that does this makes the step, is answered this, and then stands so.
pub data LookTurn {S : Type 0} (th : ThreadState S) (next : Next) (step : Step) (a : StepAnswer) (y : ThreadState S) : Type 0 where
  looks_not : looked_below y.attempt ≡ 0 → LookTurn th next step a y
  begins : looked_below y.attempt ≡ 1 → LookTurn th next step a y
  passes : (r n w : ℕ) → next ≡ Want (Op.Notify r) → step ≡ LoadWait n → a ≡ Found w → is_waiting_for r w ≡ false → looked_below y.attempt ≡ n + 1 → y.local ≡ th.local → LookTurn th next step a y
  finds : (r n : ℕ) → next ≡ Want (Op.Notify r) → step ≡ LoadWait n → looked_below y.attempt ≡ n → y.local ≡ th.local → LookTurn th next step a y

-- it has looked at none, or at thread 0 alone
abbrev Starts : ℕ → Type 0
Starts n = (n ≡ 0) ⊎ (n ≡ 1)

module _ {S : Type 0} (code : Code S) (b : Bounds) (th : ThreadState S) where
  abbrev LookTo : Next → Step → StepAnswer → ThreadState S → Type 0
  LookTo next step a y = LookTurn th next step a y

  of_start : {next : Next} {step : Step} {a : StepAnswer} (y : ThreadState S) → Starts (looked_below y.attempt) → LookTo next step a y
  of_start y (inl none) = looks_not none
  of_start y (inr one) = begins one

  pin_starts : (next : Next) → Starts (looked_below (behind_pin th next))
  pin_starts (Want (Exit r)) = inl refl
  pin_starts (Want (Wait r)) = inl refl
  pin_starts (Want (Op.Notify r)) = inr refl
  pin_starts (Want (Start r p)) = inl refl
  pin_starts (Want (Init c)) = inl refl
  pin_starts next = inl refl

  to_pin_starts : (next : Next) → Starts (looked_below (to_pin th next))
  to_pin_starts next = by_if (λ g. Starts (looked_below g)) (is_open th) (Fixed (own_pin th)) (behind_pin th next) (λ yes. inl refl) (λ no. pin_starts next)

  forgets : (y : ThreadState S) → Starts (looked_below y.attempt) → Starts (looked_below (forgotten y).attempt)
  forgets y so = by_if (λ (z : ThreadState S). Starts (looked_below z.attempt)) (is_open y) y (record y { log = []; saved = []; marks = [] }) (λ yes. so) (λ no. so)

  lost_starts : (area : Area) → Starts (looked_below (changed code th (lost_on th area)).attempt)
  lost_starts (Section s) = by_if (λ c. Starts (looked_below (changed code th c).attempt)) (is_own_section th s) _ _ (λ yes. inl refl) (λ no. inl refl)
  lost_starts area = inl refl

  looks : {next : Next} {step : Step} {a : StepAnswer} {change : Change} → Row code b th next step a change → LookTo next step a (changed code th change)
  looks (is_lost {step = step}) = of_start (changed code th (lost_on th (place_of step))) (lost_starts (place_of step))
  looks (own_stands {w = w} at own live) = of_start (forgotten (record th { pinned = pinned_of w; attempt = Checked })) (forgets (record th { pinned = pinned_of w; attempt = Checked }) (inl refl))
  looks (pins {next = next} unpinned lasts) =
      of_start (forgotten (record th { pinned = th.levels; attempt = behind_pin th next })) (forgets (record th { pinned = th.levels; attempt = behind_pin th next }) (pin_starts next))
  looks (restores at undo does) = looks_not (ap looked_below at)
  looks (sets_monitor_back at undo does) = looks_not (ap looked_below at)
  looks (gives_monitor_back at undo does) = looks_not (ap looked_below at)
  looks (is_undone {w = w} at undo does) =
      of_start (forgotten (without_level (record (stood_at th (revoke_of w)) { section = section_at (revoke_of w - 1) th.section; attempt = Begin }) (revoke_of w)))
      (forgets (without_level (record (stood_at th (revoke_of w)) { section = section_at (revoke_of w - 1) th.section; attempt = Begin }) (revoke_of w)) (inl refl))
  looks (level_opened {next = next} enters some needs room) = of_start (forgotten (with_level (record th { attempt = Fixed (take_for th next th.section (suc th.levels)) })))
      (forgets (with_level (record th { attempt = Fixed (take_for th next th.section (suc th.levels)) })) (inl refl))
  looks (levels_closed {r = r} {depth = depth} closes) =
      of_start (forgotten (with_levels (record th { attempt = Fixed (Release r) }) depth)) (forgets (with_levels (record th { attempt = Fixed (Release r) }) depth) (inl refl))
  looks (section_left at none) = of_start (forgotten (with_levels (record (answered code th Reply.Done) { held = []; section = 0 }) 0))
      (forgets (with_levels (record (answered code th Reply.Done) { held = []; section = 0 }) 0) (inl refl))
  looks (exits_one {r = r} own last more inner) = of_start (record th { attempt = to_pin th (Want (Exit r)) }) (to_pin_starts (Want (Exit r)))
  looks (wait_begins {r = r} own) = of_start (record th { attempt = to_pin th (Want (Wait r)) }) (to_pin_starts (Want (Wait r)))
  looks (notify_begins {r = r} own) = of_start (record th { attempt = to_pin th (Want (Op.Notify r)) }) (to_pin_starts (Want (Op.Notify r)))
  looks (start_begins {r = r} {p = p} none) = of_start (record th { attempt = to_pin th (Want (Start r p)) }) (to_pin_starts (Want (Start r p)))
  looks (is_unready {c = c} fresh) = of_start (record th { attempt = to_pin th (Want (Init c)) }) (to_pin_starts (Want (Init c)))
  looks (waiter_found {r = r} {n = n} shut some below waits) = finds r n refl refl refl refl
  looks (waiter_passed {r = r} {n = n} {w = w} shut some none below) = passes r n w refl refl refl none refl refl
  looks row = looks_not refl

  counted_look : {next : Next} {step : Step} {a : StepAnswer} (told : Told) (y : ThreadState S) → LookTo next step a y → LookTo next step a (counted_for told y)
  counted_look told y so = by_told told so
    where
      same_attempt : (told : Told) → (counted_for told y).attempt ≡ y.attempt
      same_attempt (advanced None) = refl
      same_attempt (advanced (Some reply)) = refl
      same_attempt born = refl
      same_attempt other = refl

      same_local : (told : Told) → (counted_for told y).local ≡ y.local
      same_local (advanced None) = refl
      same_local (advanced (Some reply)) = refl
      same_local born = refl
      same_local other = refl

      by_told : {next : Next} {step : Step} {a : StepAnswer} (told : Told) → LookTo next step a y → LookTo next step a (counted_for told y)
      by_told told (looks_not none) = looks_not (ap looked_below (same_attempt told) ∙ none)
      by_told told (begins one) = begins (ap looked_below (same_attempt told) ∙ one)
      by_told told (passes r n w wants loads found none at local) = passes r n w wants loads found none (ap looked_below (same_attempt told) ∙ at) (same_local told ∙ local)
      by_told told (finds r n wants loads at local) = finds r n wants loads (ap looked_below (same_attempt told) ∙ at) (same_local told ∙ local)

  pub look_turns : (step : Step) (a : StepAnswer) → Row code b th (code.next th.local) step a (change_of code b th (code.next th.local) step a) → LookTurn th (code.next th.local) step a (after_answer code b th step a)
  look_turns step a row = counted_look (told code b th step a) (changed code th (change_of code b th (code.next th.local) step a)) (looks row)
