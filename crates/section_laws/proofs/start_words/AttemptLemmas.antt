-- How a thread comes to start another, to hand it out, and to wait for its end.
use Rattle.std.proofs.Common.{◌≡◌, ℕ, suc, ◌+◌, ◌-◌, false, nat_eq, None, Some, [], refl, sym, ◌∙◌, subst}
use Rattle.op_core.specs.declared.Op.{Op}
use Rattle.op_core.specs.declared.Op.TheVariants.{Exit, Wait, Start, Join, Init}
use Rattle.op_core.specs.declared.Reply.{Reply}
use Rattle.op_core.specs.declared.Next.{Next}
use Rattle.op_core.specs.declared.Next.TheVariants.{Want}
use Rattle.op_core.specs.ThreadCode.{Code}
use Rattle.heap_words.specs.declared.areas.Area.{Area}
use Rattle.heap_words.specs.declared.areas.Area.TheVariants.{Section}
use Rattle.heap_words.specs.Words.{value_of}
use Rattle.section_state.specs.SectionWord.{pinned_of, revoke_of}
use Rattle.step_port.specs.declared.answer.StepAnswer.{StepAnswer}
use Rattle.step_port.specs.declared.answer.StepAnswer.TheVariants.{Found, Done}
use Rattle.step_port.specs.declared.step.ThreadWord.{ThreadWord}
use Rattle.step_port.specs.declared.step.Step.{Step}
use Rattle.step_port.specs.declared.step.Step.TheVariants.{Release, DrawThread, StartThread, LoadThread, Split}
use Rattle.step_port.specs.Steps.{place_of, effect_of}
use Rattle.step_port.specs.Words.{Words, CanAnswer, answer_of}
use Rattle.thread_automaton.specs.declared.Bounds.{Bounds}
use Rattle.thread_automaton.specs.declared.Move.TheVariants.{Make}
use Rattle.thread_automaton.specs.declared.Attempt.{Attempt}
use Rattle.thread_automaton.specs.declared.Attempt.TheVariants.{Begin, Checked, Fixed}
use Rattle.thread_automaton.specs.ThreadState.{ThreadState, is_open, is_own_section}
use Rattle.thread_automaton.specs.NextMove.{own_pin, next_move}
use Rattle.thread_automaton.specs.Changes.{Change, answered, forgotten, with_level, with_levels, without_level, stood_at, section_at, changed}
use Rattle.thread_automaton.specs.Checks.{behind_pin, to_pin}
use Rattle.thread_automaton.specs.Monitors.{take_for}
use Rattle.thread_automaton.specs.Answers.{lost_on, change_of}
use Rattle.thread_automaton.specs.Told.{Told, advanced, born, told, counted_for, after_answer}
use Rattle.automaton_rows.specs.Fits.{AttemptFits}
use Rattle.automaton_rows.specs.Rows.{Row, is_lost, own_stands, pins, restores, sets_monitor_back, gives_monitor_back, is_undone, level_opened, exits_one, levels_closed, section_left, wait_begins, notify_begins, start_begins, thread_numbered, is_started, join_begins, is_unready}
use Rattle.automaton_rows.proofs.RowLemmas.{answers_are_rows, words_can_answer, by_if}

-- a thread is to be started or handed out, or its end is waited for
abbrev pub IsStarting : Attempt → Type 0
IsStarting (Fixed (StartThread r n)) = Unit {0}
IsStarting (Fixed (Split n r p)) = Unit {0}
IsStarting (Fixed (LoadThread (ThreadWord.Ended n))) = Unit {0}
IsStarting attempt = ⊥

-- A thread that does this makes the step, is answered this, and then stands so.
pub data StartStep {S : Type 0} (th : ThreadState S) (next : Next) (step : Step) (a : StepAnswer) (y : ThreadState S) : Type 0 where
  starts_none : (IsStarting y.attempt → ⊥) → StartStep th next step a y
  draws_number : (r p n : ℕ) → step ≡ DrawThread → a ≡ Found n → next ≡ Want (Start r p) → y.attempt ≡ Fixed (StartThread r (n + 1)) → StartStep th next step a y
  starts_thread : (r p n : ℕ) → step ≡ StartThread r n → a ≡ Done → next ≡ Want (Start r p) → y.attempt ≡ Fixed (Split n r p) → y.local ≡ th.local → StartStep th next step a y
  finds_start : (r w : ℕ) → step ≡ LoadThread (ThreadWord.Start r) → a ≡ Found w → nat_eq w 0 ≡ false → next ≡ Want (Join r)
      → y.attempt ≡ Fixed (LoadThread (ThreadWord.Ended (value_of w))) → y.local ≡ th.local → StartStep th next step a y

module _ {S : Type 0} (code : Code S) (b : Bounds) (th : ThreadState S) where
  pin_none : (next : Next) → IsStarting (behind_pin th next) → ⊥
  pin_none (Want (Exit r)) starts = starts
  pin_none (Want (Wait r)) starts = starts
  pin_none (Want (Op.Notify r)) starts = starts
  pin_none (Want (Start r p)) starts = starts
  pin_none (Want (Init c)) starts = starts
  pin_none next starts = starts

  to_pin_none : (next : Next) → IsStarting (to_pin th next) → ⊥
  to_pin_none next = by_if (λ g. IsStarting g → ⊥) (is_open th) (Fixed (own_pin th)) (behind_pin th next) (λ yes starts. starts) (λ no. pin_none next)

  forgets_none : (y : ThreadState S) → (IsStarting y.attempt → ⊥) → IsStarting (forgotten y).attempt → ⊥
  forgets_none y none = by_if (λ (x : ThreadState S). IsStarting x.attempt → ⊥) (is_open y) y (record y { log = []; saved = []; marks = [] }) (λ yes. none) (λ no. none)

  lost_none : (area : Area) → IsStarting (changed code th (lost_on th area)).attempt → ⊥
  lost_none (Section s) = by_if (λ c. IsStarting (changed code th c).attempt → ⊥) (is_own_section th s) _ _ (λ yes starts. starts) (λ no starts. starts)
  lost_none area = λ starts. starts

  start_row : {next : Next} {step : Step} {a : StepAnswer} {change : Change} → Row code b th next step a change → StartStep th next step a (changed code th change)
  start_row (is_lost {step = step}) = starts_none (lost_none (place_of step))
  start_row (own_stands {w = w} at looks stands) = starts_none (forgets_none (record th { pinned = pinned_of w; attempt = Checked }) (λ starts. starts))
  start_row (pins {next = next} unpinned lasts) = starts_none (forgets_none (record th { pinned = th.levels; attempt = behind_pin th next }) (pin_none next))
  start_row (restores at undoing does) = starts_none (λ starts. subst IsStarting at starts)
  start_row (sets_monitor_back at undoing does) = starts_none (λ starts. subst IsStarting at starts)
  start_row (gives_monitor_back at undoing does) = starts_none (λ starts. subst IsStarting at starts)
  start_row (is_undone {w = w} at undoing does) =
      starts_none (forgets_none (without_level (record (stood_at th (revoke_of w)) { section = section_at (revoke_of w - 1) th.section; attempt = Begin }) (revoke_of w)) (λ starts. starts))
  start_row (level_opened {next = next} enters some needs room) =
      starts_none (forgets_none (with_level (record th { attempt = Fixed (take_for th next th.section (suc th.levels)) })) (λ starts. starts))
  start_row (levels_closed {r = r} {depth = depth} closes) = starts_none (forgets_none (with_levels (record th { attempt = Fixed (Release r) }) depth) (λ starts. starts))
  start_row (section_left at none) = starts_none (forgets_none (with_levels (record (answered code th Reply.Done) { held = []; section = 0 }) 0) (λ starts. starts))
  start_row (exits_one {r = r} own last more inner) = starts_none (to_pin_none (Want (Exit r)))
  start_row (wait_begins {r = r} own) = starts_none (to_pin_none (Want (Wait r)))
  start_row (notify_begins {r = r} own) = starts_none (to_pin_none (Want (Op.Notify r)))
  start_row (start_begins {r = r} {p = p} none) = starts_none (to_pin_none (Want (Start r p)))
  start_row (is_unready {c = c} fresh) = starts_none (to_pin_none (Want (Init c)))
  start_row (thread_numbered {r = r} {p = p} {n = n} shut room) = draws_number r p n refl refl refl refl
  start_row (is_started {r = r} {p = p} {n = n} shut some low) = starts_thread r p n refl refl refl refl refl
  start_row (join_begins {r = r} {w = w} some) = finds_start r w refl refl some refl refl refl
  start_row row = starts_none (λ starts. starts)

  counted_start : {step : Step} {a : StepAnswer} {next : Next} (told : Told) (y : ThreadState S) → StartStep th next step a y → StartStep th next step a (counted_for told y)
  counted_start told y so = by_told told so
    where
      same_attempt : (told : Told) → (counted_for told y).attempt ≡ y.attempt
      same_attempt (advanced None) = refl
      same_attempt (advanced (Some reply)) = refl
      same_attempt born = refl
      same_attempt other = refl

      same_local : (told : Told) → (counted_for told y).local ≡ y.local
      same_local (advanced None) = refl
      same_local (advanced (Some reply)) = refl
      same_local born = refl
      same_local other = refl

      by_told : {step : Step} {a : StepAnswer} {next : Next} (told : Told) → StartStep th next step a y → StartStep th next step a (counted_for told y)
      by_told told (starts_none none) = starts_none (λ starts. none (subst IsStarting (same_attempt told) starts))
      by_told told (draws_number r p n is found wants at) = draws_number r p n is found wants (same_attempt told ∙ at)
      by_told told (starts_thread r p n is done wants at local) = starts_thread r p n is done wants (same_attempt told ∙ at) (same_local told ∙ local)
      by_told told (finds_start r w is found some wants at local) = finds_start r w is found some wants (same_attempt told ∙ at) (same_local told ∙ local)

  pub start_steps : (w : Words) (step : Step) (a : StepAnswer) → AttemptFits th (code.next th.local) th.attempt → next_move code b th ≡ Make step → a ≡ answer_of w step
      → StartStep th (code.next th.local) step a (after_answer code b th step a)
  start_steps w step a fits makes is =
      let can : CanAnswer (effect_of step) a = subst (CanAnswer (effect_of step)) (sym is) (words_can_answer w step) in
      counted_start (told code b th step a) (changed code th (change_of code b th (code.next th.local) step a)) (start_row (answers_are_rows code b th step a fits makes can))
