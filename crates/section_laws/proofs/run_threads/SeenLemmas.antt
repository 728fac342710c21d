-- What a step makes of the lines of its thread and of whether it is over.
use Rattle.std.proofs.Common.{◌≡◌, ℕ, suc, ◌-◌, Bool, true, None, Some, List, [], ◌∷◌, refl, sym, subst}
use Rattle.op_core.specs.declared.Op.TheVariants.{Print}
use Rattle.op_core.specs.declared.Line.{Line}
use Rattle.op_core.specs.declared.Reply.{Reply}
use Rattle.op_core.specs.declared.Next.{Next}
use Rattle.op_core.specs.declared.Next.TheVariants.{Want}
use Rattle.op_core.specs.ThreadCode.{Code}
use Rattle.heap_words.specs.declared.areas.Area.{Area}
use Rattle.heap_words.specs.declared.areas.Area.TheVariants.{Section}
use Rattle.section_state.specs.SectionWord.{pinned_of, revoke_of}
use Rattle.step_port.specs.declared.answer.StepAnswer.{StepAnswer}
use Rattle.step_port.specs.declared.answer.StepAnswer.TheVariants.{Found, Lost}
use Rattle.step_port.specs.declared.step.Step.{Step}
use Rattle.step_port.specs.declared.step.Step.TheVariants.{Release, Ticket, EndThread}
use Rattle.step_port.specs.Steps.{place_of, effect_of}
use Rattle.step_port.specs.Words.{Words, CanAnswer, answer_of}
use Rattle.thread_automaton.specs.declared.Bounds.{Bounds}
use Rattle.thread_automaton.specs.declared.Move.TheVariants.{Make}
use Rattle.thread_automaton.specs.declared.Attempt.TheVariants.{Begin, Checked, Fixed}
use Rattle.thread_automaton.specs.ThreadState.{Printed, ThreadState, is_open, is_own_section}
use Rattle.thread_automaton.specs.NextMove.{next_move}
use Rattle.thread_automaton.specs.Changes.{Change, answered, forgotten, with_level, with_levels, without_level, stood_at, section_at, changed}
use Rattle.thread_automaton.specs.Checks.{behind_pin}
use Rattle.thread_automaton.specs.Monitors.{take_for}
use Rattle.thread_automaton.specs.Answers.{lost_on, change_of}
use Rattle.thread_automaton.specs.Told.{Told, advanced, born, told, counted_for, after_answer}
use Rattle.automaton_rows.specs.Fits.{AttemptFits}
use Rattle.automaton_rows.specs.Rows.{Row, is_lost, own_stands, pins, is_undone, level_opened, levels_closed, section_left, line_printed, thread_ended}
use Rattle.automaton_rows.proofs.RowLemmas.{answers_are_rows, words_can_answer, by_if}

-- neither a line is printed nor a thread ended
abbrev pub IsQuiet : Step → Type 0
IsQuiet Ticket = ⊥
IsQuiet (EndThread n) = ⊥
IsQuiet step = Unit {0}

-- its lines, and whether it is over
pub record Seen : Type 0 where
  pub lines : List Printed
  pub over : Bool

abbrev pub seen_of : {S : Type 0} → ThreadState S → Seen
seen_of th = record { lines = th.lines; over = th.over }

-- A thread that does this makes the step, is answered this, and is then seen so.
pub data SeenStep {S : Type 0} (th : ThreadState S) (next : Next) (step : Step) (a : StepAnswer) (v : Seen) : Type 0 where
  stays : IsQuiet step → v ≡ seen_of th → SeenStep th next step a v
  prints_line : (n : ℕ) (x : Line) → step ≡ Ticket → a ≡ Found n → next ≡ Want (Print x) → v ≡ record { lines = record { ticket = n; line = x } ∷ th.lines; over = th.over }
      → SeenStep th next step a v
  ends_thread : step ≡ EndThread th.number → v ≡ record { lines = th.lines; over = true } → SeenStep th next step a v

quiet_if_lost : (step : Step) (v : ℕ) → CanAnswer (effect_of step) (Lost v) → IsQuiet step
quiet_if_lost Ticket v can = absurd can
quiet_if_lost (EndThread n) v can = absurd can
quiet_if_lost step v can = tt

module _ {S : Type 0} (code : Code S) (b : Bounds) (th : ThreadState S) where
  same_forgotten : (y : ThreadState S) → seen_of (forgotten y) ≡ seen_of y
  same_forgotten y = by_if (λ z. seen_of z ≡ seen_of y) (is_open y) y (record y { log = []; saved = []; marks = [] }) (λ yes. refl) (λ no. refl)

  same_lost : (area : Area) → seen_of (changed code th (lost_on th area)) ≡ seen_of th
  same_lost (Section s) = by_if (λ c. seen_of (changed code th c) ≡ seen_of th) (is_own_section th s) _ _ (λ yes. refl) (λ no. refl)
  same_lost area = refl

  seen_row : {next : Next} {step : Step} {a : StepAnswer} {change : Change} → Row code b th next step a change → CanAnswer (effect_of step) a
      → SeenStep th next step a (seen_of (changed code th change))
  seen_row (is_lost {step = step} {v = v}) can = stays (quiet_if_lost step v can) (same_lost (place_of step))
  seen_row (own_stands {w = w} at looks stands) can = stays tt (same_forgotten (record th { pinned = pinned_of w; attempt = Checked }))
  seen_row (pins {next = next} unpinned lasts) can = stays tt (same_forgotten (record th { pinned = th.levels; attempt = behind_pin th next }))
  seen_row (is_undone {w = w} at undoing does) can =
      stays tt (same_forgotten (without_level (record (stood_at th (revoke_of w)) { section = section_at (revoke_of w - 1) th.section; attempt = Begin }) (revoke_of w)))
  seen_row (level_opened {next = next} enters some needs room) can = stays tt (same_forgotten (with_level (record th { attempt = Fixed (take_for th next th.section (suc th.levels)) })))
  seen_row (levels_closed {r = r} {depth = depth} closes) can = stays tt (same_forgotten (with_levels (record th { attempt = Fixed (Release r) }) depth))
  seen_row (section_left at none) can = stays tt (same_forgotten (with_levels (record (answered code th Reply.Done) { held = []; section = 0 }) 0))
  seen_row (line_printed {x = x} {n = n} shut) can = prints_line n x refl refl refl refl
  seen_row (thread_ended shut) can = ends_thread refl refl
  seen_row row can = stays tt refl

  counted_seen : (told : Told) (y : ThreadState S) → seen_of (counted_for told y) ≡ seen_of y
  counted_seen (advanced None) y = refl
  counted_seen (advanced (Some reply)) y = refl
  counted_seen born y = refl
  counted_seen other y = refl

  pub seen_steps : (w : Words) (step : Step) (a : StepAnswer) → AttemptFits th (code.next th.local) th.attempt → next_move code b th ≡ Make step → a ≡ answer_of w step
      → SeenStep th (code.next th.local) step a (seen_of (after_answer code b th step a))
  seen_steps w step a fits makes is =
      let can : CanAnswer (effect_of step) a = subst (CanAnswer (effect_of step)) (sym is) (words_can_answer w step) in
      subst (SeenStep th (code.next th.local) step a) (sym (counted_seen (told code b th step a) (changed code th (change_of code b th (code.next th.local) step a))))
      (seen_row (answers_are_rows code b th step a fits makes can) can)
