-- What a step makes of what its thread has logged, holds and held, and of where its new object is to lie.
use Rattle.std.proofs.Common.{◌≡◌, ◌⊎◌, inl, inr, ℕ, suc, ◌+◌, ◌-◌, ◌≤◌, true, Option, None, Some, List, [], ◌∷◌, drop, refl, sym, ◌∙◌, ap, subst, arith}
use Rattle.std.specs.Prelude.{nat_le}
use Rattle.std.proofs.lemmas.Grind.{common_steps}
use Rattle.std.proofs.lemmas.Bool.Decides.{nat_tests}
use Rattle.op_core.specs.declared.Op.{Op}
use Rattle.op_core.specs.declared.Op.TheVariants.{New, Enter, Exit, Wait, Rewake, Start, Init}
use Rattle.op_core.specs.declared.Next.{Next}
use Rattle.op_core.specs.declared.Next.TheVariants.{Want}
use Rattle.op_core.specs.Replies.{IsEntry}
use Rattle.op_core.specs.ThreadCode.{Code}
use Rattle.heap_words.specs.declared.areas.Area.{Area}
use Rattle.heap_words.specs.declared.areas.Area.TheVariants.{Section}
use Rattle.section_state.specs.SectionWord.{pinned_of, revoke_of}
use Rattle.write_log.specs.declared.Noted.{Noted}
use Rattle.step_port.specs.declared.answer.StepAnswer.{StepAnswer}
use Rattle.step_port.specs.declared.answer.StepAnswer.TheVariants.{Found, Done, Lost}
use Rattle.step_port.specs.declared.step.Step.{Step}
use Rattle.step_port.specs.declared.step.Step.TheVariants.{SwapWord, SetHeader, TakeWords}
use Rattle.step_port.specs.Steps.{place_of, effect_of}
use Rattle.step_port.specs.Words.{Words, CanAnswer, answer_of}
use Rattle.thread_automaton.specs.declared.Bounds.{Bounds}
use Rattle.thread_automaton.specs.declared.Held.{Held}
use Rattle.thread_automaton.specs.declared.Move.TheVariants.{Make}
use Rattle.thread_automaton.specs.declared.Attempt.{Attempt}
use Rattle.thread_automaton.specs.declared.Attempt.TheVariants.{Begin, Checked, Fixed}
use Rattle.thread_automaton.specs.ThreadState.{ThreadState, Mark, is_open, is_own_section, inside}
use Rattle.thread_automaton.specs.NextMove.{own_pin, word_place, words_asked, next_move}
use Rattle.thread_automaton.specs.Changes.{Change, answered, forgotten, with_level, with_levels, without_level, stood_at, section_at, changed}
use Rattle.thread_automaton.specs.Checks.{behind_pin, to_pin, written_word}
use Rattle.thread_automaton.specs.Monitors.{monitor_wanted, entry, take_for}
use Rattle.thread_automaton.specs.Answers.{lost_on, change_of}
use Rattle.thread_automaton.specs.Told.{Told, advanced, born, told, counted_for, after_answer}
use Rattle.automaton_rows.specs.Fits.{AttemptFits}
use Rattle.automaton_rows.specs.Rows.{Row, is_lost, own_stands, pins, restores, sets_monitor_back, gives_monitor_back, is_undone, word_written, has_room, section_opened, level_opened, monitor_taken, entered_again, exits_one, left_once, levels_closed, monitor_left, section_left, wait_begins, wait_made, notify_begins, start_begins, is_unready}
use Rattle.automaton_rows.proofs.RowLemmas.{answers_are_rows, words_can_answer, by_if}
use Rattle.op_core.specs.declared.Reply.{Reply}
use Rattle.section_laws.proofs.run_layout.ListLemmas.{In, in_drop, Holds, held_without, held_with, in_noted}
use Rattle.section_laws.proofs.run_layout.NameLemmas.{NamesMonitor, NamesWrite}

-- where a new object is about to lie
abbrev pub new_place : Attempt → Option ℕ
new_place (Fixed (SetHeader r w)) = Some r
new_place attempt = None

pub record Owned (S : Type 0) : Type 0 where
  pub log : List Noted
  pub held : List Held
  pub marks : List Mark
  pub new : Option ℕ
  pub local : S

abbrev pub owned_by : {S : Type 0} → ThreadState S → Owned S
owned_by th = record { log = th.log; held = th.held; marks = th.marks; new = new_place th.attempt; local = th.local }

-- a word was swapped and logged
pub record Logs {S : Type 0} (th : ThreadState S) (next : Next) (step : Step) (a : StepAnswer) (x : Noted) : Type 0 where
  pub new : ℕ
  pub names : NamesWrite th next x.at new
  pub made : step ≡ SwapWord x.at x.old new
  pub done : a ≡ Done

-- words were taken for an object of this class and length, within the heap
pub record TakesFor {S : Type 0} (code : Code S) (b : Bounds) (th : ThreadState S) (next : Next) (step : Step) (a : StepAnswer) (v : Owned S) : Type 0 where
  pub class : ℕ
  pub size : ℕ
  pub taken : ℕ
  pub wants : next ≡ Want (New class size)
  pub made : step ≡ TakeWords (words_asked code th.local class size)
  pub answered : a ≡ Found taken
  pub within : taken + words_asked code th.local class size ≤ b.limits.heap
  pub new : v.new ≡ Some (taken + b.first)
  pub local : v.local ≡ th.local

-- what is logged was, or is now; so it is with what is held and with marks; and a new object has a place only where words
-- were taken for it
pub record OwnedStep {S : Type 0} (code : Code S) (b : Bounds) (th : ThreadState S) (next : Next) (step : Step) (a : StepAnswer) (v : Owned S) : Type 0 where
  pub log : (x : Noted) → In x v.log → In x th.log ⊎ Logs th next step a x
  pub held : (q : ℕ) → Holds v.held q → Holds th.held q ⊎ NamesMonitor next q
  pub marks : (m : Mark) → In m v.marks → In m th.marks ⊎ (m.held ≡ th.held)
  pub new : (v.new ≡ None) ⊎ TakesFor code b th next step a v

entry_names : (next : Next) → IsEntry next → NamesMonitor next (monitor_wanted next)
entry_names (Want (Enter r)) enters = refl
entry_names (Want (Rewake r)) enters = refl
entry_names next enters = absurd enters

within_heap : (m n : ℕ) → nat_le m n ≡ true → m ≤ n
within_heap m n is = grind (arith, common_steps, nat_tests)

module _ {S : Type 0} (code : Code S) (b : Bounds) (th : ThreadState S) where
  pin_none : (next : Next) → new_place (behind_pin th next) ≡ None
  pin_none (Want (Exit r)) = refl
  pin_none (Want (Wait r)) = refl
  pin_none (Want (Op.Notify r)) = refl
  pin_none (Want (Start r p)) = refl
  pin_none (Want (Init c)) = refl
  pin_none next = refl

  to_pin_none : (next : Next) → new_place (to_pin th next) ≡ None
  to_pin_none next = by_if (λ g. new_place g ≡ None) (is_open th) (Fixed (own_pin th)) (behind_pin th next) (λ yes. refl) (λ other. pin_none next)

  abbrev Comes : Next → Step → StepAnswer → Owned S → Type 0
  Comes next step a v = OwnedStep code b th next step a v

  -- nothing is logged or held that wasn't, and there is no new object
  less : {next : Next} {step : Step} {a : StepAnswer} (v : Owned S) → ((x : Noted) → In x v.log → In x th.log) → ((q : ℕ) → Holds v.held q → Holds th.held q)
      → ((m : Mark) → In m v.marks → In m th.marks ⊎ (m.held ≡ th.held)) → v.new ≡ None → Comes next step a v
  less v log held marks none = record { log = λ x there. inl (log x there); held = λ q there. inl (held q there); marks = marks; new = inl none }

  keeps : {next : Next} {step : Step} {a : StepAnswer} {new : Option ℕ} {local : S} → new ≡ None
      → Comes next step a (record { log = th.log; held = th.held; marks = th.marks; new = new; local = local })
  keeps {new = new} {local = local} none =
      less (record { log = th.log; held = th.held; marks = th.marks; new = new; local = local }) (λ x there. there) (λ q there. there) (λ m there. inl there) none

  -- what is forgotten is as before, or is logged and marked no more
  forgets : {next : Next} {step : Step} {a : StepAnswer} (y : ThreadState S) → Comes next step a (owned_by y) → Comes next step a (owned_by (forgotten y))
  forgets {next} {step} {a} y comes = by_if (λ x. Comes next step a (owned_by x)) (is_open y) y (record y { log = []; saved = []; marks = [] }) (λ yes. comes) (λ other. shut)
    where
      shut : Comes next step a (owned_by (record y { log = []; saved = []; marks = [] }))
      shut = record {
        log = λ x there. absurd there;
        held = comes.held;
        marks = λ m there. absurd there;
        new = elim comes.new [
          | inl none ↦ inl none
          | inr takes ↦ inr (record { class = takes.class; size = takes.size; taken = takes.taken; wants = takes.wants; made = takes.made; answered = takes.answered; within = takes.within; new = takes.new; local = takes.local })
        ];
      }

  loses_on : {next : Next} (step : Step) (v : ℕ) (area : Area) → Comes next step (Lost v) (owned_by (changed code th (lost_on th area)))
  loses_on {next} step v (Section s) = by_if (λ c. Comes next step (Lost v) (owned_by (changed code th c))) (is_own_section th s) _ _ (λ yes. keeps refl) (λ no. keeps refl)
  loses_on step v area = keeps refl

  new_mark : (y : ThreadState S) → y.marks ≡ th.marks → y.held ≡ th.held → (m : Mark) → In m (with_level y).marks → In m th.marks ⊎ (m.held ≡ th.held)
  new_mark y marks held m (inl here) = inr (ap (λ (x : Mark). x.held) (sym here) ∙ held)
  new_mark y marks held m (inr later) = inl (subst (In m) marks later)

  owned_row : {next : Next} {step : Step} {a : StepAnswer} {change : Change} → Row code b th next step a change → Comes next step a (owned_by (changed code th change))
  owned_row (is_lost {step = step} {v = v}) = loses_on step v (place_of step)
  owned_row (own_stands {w = w} at looks stands) = forgets (record th { pinned = pinned_of w; attempt = Checked }) (keeps refl)
  owned_row (pins {next = next} unpinned lasts) = forgets (record th { pinned = th.levels; attempt = behind_pin th next }) (keeps (pin_none next))
  owned_row (restores at undoing does) =
      less (owned_by (record th { log = drop 1 th.log })) (λ x there. in_drop 1 x th.log there) (λ q there. there) (λ m there. inl there) (ap new_place at)
  owned_row (sets_monitor_back {r = r} {new = new} at undoing does) =
      less (owned_by (changed code th (Change.sets_back r _))) (λ x there. there) (λ q there. held_with r _ th.held q there) (λ m there. inl there) (ap new_place at)
  owned_row (gives_monitor_back {r = r} at undoing does) =
      less (owned_by (changed code th (Change.gives_back r))) (λ x there. there) (λ q there. held_without r th.held q there) (λ m there. inl there) (ap new_place at)
  owned_row (is_undone {w = w} at undoing does) =
      let n = revoke_of w in
      let y : ThreadState S = without_level (record (stood_at th n) { section = section_at (n - 1) th.section; attempt = Begin }) n in
      forgets y (less (owned_by y) (λ x there. there) (λ q there. there) (λ m there. inl (in_drop (suc (inside th n)) m th.marks there)) refl)
  owned_row (word_written {r = r} {i = i} {v = v} {old = old} safe) = record {
    log = λ x there. elim (in_noted th (word_place r i) old x there) [
      | inl later ↦ inl later
      | inr here ↦ inr (record {
        new = written_word th v;
        names = (ap (λ (y : Noted). y.at) (sym here), refl);
        made = ap (λ (y : Noted). SwapWord y.at y.old (written_word th v)) here;
        done = refl;
      })
    ];
    held = λ q there. inl there;
    marks = λ m there. inl there;
    new = inl refl;
  }
  owned_row (has_room {c = c} {n = n} {taken = taken} room) = record {
    log = λ x there. inl there;
    held = λ q there. inl there;
    marks = λ m there. inl there;
    new = inr (record { class = c; size = n; taken = taken; wants = refl; made = refl; answered = refl; within = within_heap _ _ room; new = refl; local = refl });
  }
  owned_row (section_opened {next = next} {s = s} enters none some) =
      let y : ThreadState S = record th { section = s; levels = 0; pinned = 0; attempt = Fixed (take_for th next s 1) } in
      less (owned_by (with_level y)) (λ x there. there) (λ q there. there) (new_mark y refl refl) refl
  owned_row (level_opened {next = next} enters some needs room) =
      let y : ThreadState S = record th { attempt = Fixed (take_for th next th.section (suc th.levels)) } in
      forgets (with_level y) (less (owned_by (with_level y)) (λ x there. there) (λ q there. there) (new_mark y refl refl) refl)
  owned_row (monitor_taken {next = next} enters some) = record {
    log = λ x there. inl there;
    held = λ q there. taken q there;
    marks = λ m there. inl there;
    new = inl refl;
  }
    where
      entered_object : (next : Next) → IsEntry next → (entry th next th.levels).object ≡ monitor_wanted next
      entered_object (Want (Enter r)) enters = refl
      entered_object (Want (Rewake r)) enters = refl
      entered_object next enters = absurd enters

      taken : (q : ℕ) → Holds (entry th next th.levels ∷ th.held) q → Holds th.held q ⊎ NamesMonitor next q
      taken q (h, inl own, is) = inr (subst (NamesMonitor next) (sym (entered_object next enters) ∙ ap (λ (x : Held). x.object) own ∙ is) (entry_names next enters))
      taken q (h, inr later, is) = inl (h, later, is)
  owned_row (entered_again {next = next} {new = new} enters calm) =
      less (owned_by (changed code th (Change.deepens (monitor_wanted next) _))) (λ x there. there) (λ q there. held_with (monitor_wanted next) _ th.held q there) (λ m there. inl there) refl
  owned_row (left_once {r = r} {new = new} calm) =
      less (owned_by (changed code th (Change.deepens r _))) (λ x there. there) (λ q there. held_with r _ th.held q there) (λ m there. inl there) refl
  owned_row (levels_closed {r = r} {depth = depth} closes) =
      let y : ThreadState S = with_levels (record th { attempt = Fixed (Step.Release r) }) depth in
      forgets y (less (owned_by y) (λ x there. there) (λ q there. there) (λ m there. inl (in_drop (inside th depth) m th.marks there)) refl)
  owned_row (monitor_left {r = r} at more) =
      less (owned_by (record (answered code th Reply.Done) { held = _ })) (λ x there. there) (λ q there. held_without r th.held q (subst (λ xs. Holds xs q) (sym more) there)) (λ m there. inl there) refl
  owned_row (section_left {r = r} at none) =
      let y : ThreadState S = with_levels (record (answered code th Reply.Done) { held = []; section = 0 }) 0 in
      forgets y (less (owned_by y) (λ x there. there) (λ q there. absurd there.1) (λ m there. inl (in_drop (inside th 0) m th.marks there)) refl)
  owned_row (wait_made {r = r} shut at) =
      less (owned_by (changed code th (Change.waits r))) (λ x there. there) (λ q there. held_without r th.held q there) (λ m there. inl there) refl
  owned_row (exits_one {r = r} own last more inner) = keeps (to_pin_none (Want (Exit r)))
  owned_row (wait_begins {r = r} own) = keeps (to_pin_none (Want (Wait r)))
  owned_row (notify_begins {r = r} own) = keeps (to_pin_none (Want (Op.Notify r)))
  owned_row (start_begins {r = r} {p = p} none) = keeps (to_pin_none (Want (Start r p)))
  owned_row (is_unready {c = c} fresh) = keeps (to_pin_none (Want (Init c)))
  owned_row row = keeps refl

  counted_owned : (told : Told) (y : ThreadState S) → owned_by (counted_for told y) ≡ owned_by y
  counted_owned (advanced None) y = refl
  counted_owned (advanced (Some reply)) y = refl
  counted_owned born y = refl
  counted_owned other y = refl

  pub owned_steps : (w : Words) (step : Step) (a : StepAnswer) → AttemptFits th (code.next th.local) th.attempt → next_move code b th ≡ Make step → a ≡ answer_of w step
      → OwnedStep code b th (code.next th.local) step a (owned_by (after_answer code b th step a))
  owned_steps w step a fits makes is =
      let can : CanAnswer (effect_of step) a = subst (CanAnswer (effect_of step)) (sym is) (words_can_answer w step) in
      subst (OwnedStep code b th (code.next th.local) step a) (sym (counted_owned (told code b th step a) (changed code th (change_of code b th (code.next th.local) step a))))
      (owned_row (answers_are_rows code b th step a fits makes can))
