-- Each next step of a thread, with each answer, is a row.
use Rattle.std.proofs.Common.{◌≡◌, ℕ, suc, ◌+◌, ◌<◌, ◌&&◌, ◌||◌, not, Bool, true, false, List, [], ◌∷◌, length, nat_eq, refl, sym, ap, subst, arith}
use Rattle.std.specs.Prelude.{nat_lt, nat_le, if◌then◌else◌}
use Rattle.std.proofs.lemmas.Bool.{and_parts, eq-eqb}
use Rattle.op_core.specs.Replies.{IsEntry}
use Rattle.op_core.specs.declared.Limit.TheVariants.{Turns}
use Rattle.op_core.specs.declared.Op.{Op}
use Rattle.op_core.specs.declared.Op.TheVariants.{ClassOf, Read, Write, New, Enter, Exit, Wait, Rewake, Print, Start, Join, Init, InitDone, End}
use Rattle.op_core.specs.declared.Next.{Next}
use Rattle.op_core.specs.declared.Next.TheVariants.{Silent, Want, Ended}
use Rattle.op_core.specs.ThreadCode.{Code, leaves_any}
use Rattle.heap_words.specs.declared.words.ClassWord.{ClassWord}
use Rattle.heap_words.specs.Words.{tag_of, class_state, class_thread, class_word_of}
use Rattle.section_state.specs.declared.State.TheVariants.{Live, Revoking, Undone, Committed}
use Rattle.section_state.specs.SectionWord.{priority_of, pinned_of, depth_of, revoke_of, undone_of}
use Rattle.write_log.specs.declared.Noted.{Noted}
use Rattle.monitor_core.specs.declared.Contend.{Contend}
use Rattle.monitor_core.specs.declared.Contend.TheVariants.{Free, Own, Busy}
use Rattle.monitor_core.specs.Monitors.{monitor_depth, monitor_level, monitor_word, is_own}
use Rattle.monitor_core.specs.Contention.{is_in, contend_live, contend_with}
use Rattle.step_port.specs.declared.answer.StepAnswer.{StepAnswer}
use Rattle.step_port.specs.declared.answer.StepAnswer.TheVariants.{Found, Lost}
use Rattle.step_port.specs.declared.step.Effect.{Effect}
use Rattle.step_port.specs.declared.step.Effect.TheVariants.{Load, Store, Exchange, Add}
use Rattle.step_port.specs.declared.step.ThreadWord.{ThreadWord}
use Rattle.step_port.specs.declared.step.Step.{Step}
use Rattle.step_port.specs.declared.step.Step.TheVariants.{LoadWord, SwapWord, DrawSection, OpenSection, OpenLevel, CloseLevel, LoadSection, Pin, Revoke, Commit, MarkUndone, RestoreWord, LoadMonitor, TakeMonitor, SetDepth, Release, TakeWords, SetHeader, Ticket, DrawThread, StartThread, EndThread, LoadThread, SetWait, LoadWait, LoadClass, ClaimClass, SettleClass, Split}
use Rattle.step_port.specs.Steps.{effect_of, place_of}
use Rattle.step_port.specs.Words.{answer_to}
use Rattle.thread_automaton.specs.declared.Bounds.{Bounds}
use Rattle.thread_automaton.specs.declared.Move.{Move}
use Rattle.thread_automaton.specs.declared.Move.TheVariants.{Over, Quiet, Stop, Make}
use Rattle.thread_automaton.specs.declared.Attempt.{Attempt}
use Rattle.thread_automaton.specs.declared.Attempt.TheVariants.{Begin, Look, Checked, Fixed, Meets, Undoing, Full}
use Rattle.thread_automaton.specs.declared.Held.{Held}
use Rattle.thread_automaton.specs.ThreadState.{ThreadState, is_own_section, is_open, own_word, opening_word, mark_of, noted_since, from_level, highest}
use Rattle.thread_automaton.specs.NextMove.{own_pin, pinned_then, word_place, words_asked, first_step, held_word, deepened_since, release_step, depth_step, undo_step, undo_next, silent_move, move_of}
use Rattle.thread_automaton.specs.Changes.{Change, goes, sees_pinned, knows, deepens, without}
use Rattle.thread_automaton.specs.Checks.{behind_pin, is_safe, written_word, meets_writer, own_seen, met, holder_seen, writer_seen, tag_seen, section_loaded}
use Rattle.thread_automaton.specs.Monitors.{monitor_wanted, entry, needs_level, left_with, let_go, depth_set, entering_free, entering, leaving, exiting}
use Rattle.thread_automaton.specs.Answers.{is_waiting_for, is_notified_for, class_loaded, undone_at, change_of}
use Rattle.automaton_rows.specs.Fits.{is_unsafe_at, IsTagStep, IsEntryStep, IsOwnPin, IsOwnClose, FixedFits, IsUndoing, MeetingFits, AttemptFits}
use Rattle.automaton_rows.specs.Rows.{Lasts, IsAccess, word_wanted, LooksAtOwn, IsNoUndoing, Row, is_lost, own_revoked, own_stands, pins, restores, sets_monitor_back, gives_monitor_back, is_undone, class_found, word_read, word_seen, word_written, is_unsafe, tag_committed, tag_undone, tag_pinned, tag_live, tag_waits, pins_writer, has_room, heap_full, object_made, free_first, section_numbered, sections_full, section_opened, free_inside, levels_full, level_opened, free_more, monitor_taken, own_again, own_full, entered_again, held_by_other, holder_lower, holder_busy, holder_revoked, is_notified, not_notified, not_owner, exits_inner, exits_last, exits_level, exits_one, left_once, section_committed, levels_closed, monitor_left, section_left, wait_begins, wait_noted, wait_made, notify_begins, waiter_found, waiter_passed, none_waits, waiter_woken, line_printed, start_begins, was_started, thread_numbered, threads_full, is_started, handed_out, never_started, join_begins, is_alive, has_ended, thread_ended, is_ready, is_bad, is_unready, is_claimed, is_others, class_claimed, class_settled}
use Rattle.automaton_rows.specs.Laws.{CanAnswer, WordsAnswer, AnswersHaveRows}

-- ---- tests

pub by_if : {A : Type 0} (P : A → Type 0) (t : Bool) (x y : A) → (t ≡ true → P x) → (t ≡ false → P y) → P (if t then x else y)
by_if P true x y when other = when refl
by_if P false x y when other = other refl

none_true : (a c d : Bool) → not (a || c || d) ≡ true → c ≡ false
none_true true c d none = cc
none_true false true d none = cc
none_true false false d none = refl

-- ---- answers

-- what there is to show of each answer to a step of this effect
abbrev ForAnswers : Effect → (StepAnswer → Type 0) → Type 0
ForAnswers Load P = (w : ℕ) → P (Found w)
ForAnswers (Store v) P = P StepAnswer.Done
ForAnswers (Exchange old new) P = P StepAnswer.Done × ((w : ℕ) → P (Lost w))
ForAnswers (Add k) P = (w : ℕ) → P (Found w)

for_answer : (effect : Effect) (P : StepAnswer → Type 0) → ForAnswers effect P → (a : StepAnswer) → CanAnswer effect a → P a
for_answer Load P found (Found w) can = found w
for_answer Load P found StepAnswer.Done can = absurd can
for_answer Load P found (Lost w) can = absurd can
for_answer (Store v) P done (Found w) can = absurd can
for_answer (Store v) P done StepAnswer.Done can = done
for_answer (Store v) P done (Lost w) can = absurd can
for_answer (Exchange old new) P each (Found w) can = absurd can
for_answer (Exchange old new) P each StepAnswer.Done can = each.0
for_answer (Exchange old new) P each (Lost w) can = each.1 w
for_answer (Add k) P found (Found w) can = found w
for_answer (Add k) P found StepAnswer.Done can = absurd can
for_answer (Add k) P found (Lost w) can = absurd can

effect_answers : (effect : Effect) (n : ℕ) → CanAnswer effect (answer_to effect n)
effect_answers Load n = tt
effect_answers (Store v) n = tt
effect_answers (Exchange old new) n = by_if (CanAnswer (Exchange old new)) (nat_eq n old) StepAnswer.Done (Lost n) (λ same. tt) (λ other. tt)
effect_answers (Add k) n = tt

pub words_can_answer : WordsAnswer
words_can_answer w step = effect_answers (effect_of step) (w (place_of step))

-- ---- moves

abbrev made : Step → Move → Step
made step (Make other) = other
made step Over = step
made step Quiet = step
made step (Stop limit) = step

module _ {S : Type 0} (code : Code S) (b : Bounds) (th : ThreadState S) where
  abbrev At : Next → Step → StepAnswer → Type 0
  At next step a = Row code b th next step a (change_of code b th next step a)

  -- each answer to the step makes a row
  abbrev Rows : Next → Step → Type 0
  Rows next step = ForAnswers (effect_of step) (At next step)

  -- ---- the own section

  own_seen_row : (next : Next) (attempt : Attempt) (w : ℕ) → th.attempt ≡ attempt → LooksAtOwn th attempt → Row code b th next (LoadSection th.section) (Found w) (own_seen w)
  own_seen_row next attempt w at looks =
      by_if (Row code b th next (LoadSection th.section) (Found w)) (is_in Revoking w) _ _
      (λ revoked. own_revoked at looks revoked)
      (λ goes_on. own_stands at looks goes_on)

  sees_own : (next : Next) (attempt : Attempt) (w : ℕ) → LooksAtOwn th attempt → section_loaded th next attempt th.section w ≡ own_seen w
  sees_own Silent Begin w looks = refl
  sees_own Ended Begin w looks = refl
  sees_own Silent Look w looks = refl
  sees_own Ended Look w looks = refl
  sees_own (Want (Enter r)) Begin w looks = refl
  sees_own (Want (Enter r)) Look w looks = refl
  sees_own (Want (Rewake r)) Begin w looks = refl
  sees_own (Want (Rewake r)) Look w looks = refl
  sees_own (Want op) Begin w looks = refl
  sees_own (Want op) Look w looks = refl
  sees_own next attempt w looks = absurd looks

  own_check_rows : (next : Next) (attempt : Attempt) → th.attempt ≡ attempt → LooksAtOwn th attempt → Rows next (LoadSection th.section)
  own_check_rows next attempt at looks =
      λ w. subst (λ g. Row code b th next (LoadSection th.section) (Found w) (section_loaded th next g th.section w)) (sym at)
      (subst (Row code b th next (LoadSection th.section) (Found w)) (sym (sees_own next attempt w looks)) (own_seen_row next attempt w at looks))

  pin_rows : (next : Next) → Lasts code th next → is_open th ≡ true → Rows next (own_pin th)
  pin_rows next lasts unpinned = (
    subst (λ t. Row code b th next (own_pin th) StepAnswer.Done (if t then sees_pinned th.levels (behind_pin th next) else knows th.section th.levels))
        (sym (eq-eqb th.section th.section refl)) (pins unpinned lasts),
    λ v. is_lost,
  )

  own_pin_rows : (next : Next) (s w level : ℕ) → Lasts code th next → IsOwnPin th s w level → Rows next (Pin s w level)
  own_pin_rows next s w level lasts fits =
      subst (λ x. Rows next (Pin x w level)) (sym fits.1) (subst (λ x. Rows next (Pin th.section x level)) (sym fits.2)
      (subst (λ x. Rows next (Pin th.section (own_word th) x)) (sym fits.3) (pin_rows next lasts fits.0)))

  -- a step past the pin
  pinned_rows : (next : Next) (step : Step) → Lasts code th next → (is_open th ≡ false → Rows next step) → Rows next (pinned_then th step)
  pinned_rows next step lasts rows = by_if (Rows next) (is_open th) (own_pin th) step (λ unpinned. pin_rows next lasts unpinned) rows

  -- ---- undoing

  undo_rows : (next : Next) (w : ℕ) (log : List Noted) (deepened taken : List Held) → undo_next th w (revoke_of w) ≡ undo_step th.section w log deepened taken
      → th.attempt ≡ Undoing w → IsUndoing th w → Rows next (undo_step th.section w log deepened taken)
  undo_rows next w (x ∷ log) deepened taken is at undoing = restores at undoing is
  undo_rows next w [] (h ∷ deepened) taken is at undoing =
      subst (λ g. Row code b th next (SetDepth h.object (held_word th.section h)) StepAnswer.Done (depth_set g h.object (monitor_depth (held_word th.section h)))) (sym at)
      (sets_monitor_back at undoing is)
  undo_rows next w [] [] (h ∷ taken) is at undoing =
      subst (λ g. Row code b th next (Release h.object) StepAnswer.Done (let_go th next g h.object)) (sym at) (gives_monitor_back at undoing is)
  undo_rows next w [] [] [] is at undoing =
      subst (λ g. Row code b th next (MarkUndone th.section (undone_of w)) StepAnswer.Done (undone_at g)) (sym at) (is_undone at undoing is)

  -- ---- words of objects

  unsafe_row : (next : Next) (w : ℕ) (change : Change) → IsAccess next → (is_safe th w ≡ true → Row code b th next (LoadWord (word_wanted next)) (Found w) change)
      → Row code b th next (LoadWord (word_wanted next)) (Found w) (if is_safe th w then change else meets_writer (tag_of w))
  unsafe_row next w change accesses safe =
      by_if (Row code b th next (LoadWord (word_wanted next)) (Found w)) (is_safe th w) _ _ safe (λ unsafe. is_unsafe accesses unsafe)

  writer_seen_row : (next : Next) (s level w : ℕ) → th.attempt ≡ Meets s level → IsAccess next → is_unsafe_at th s level ≡ true → is_in Live w ≡ true
      → Row code b th next (LoadSection s) (Found w) (writer_seen s level w)
  writer_seen_row next s level w at accesses unsafe live =
      by_if (Row code b th next (LoadSection s) (Found w)) (nat_le level (pinned_of w)) _ _
      (λ deep. tag_pinned at accesses unsafe live deep)
      (λ shallow. tag_live at accesses unsafe live shallow)

  tag_seen_row : (next : Next) (s level w : ℕ) → th.attempt ≡ Meets s level → IsAccess next → is_unsafe_at th s level ≡ true
      → Row code b th next (LoadSection s) (Found w) (tag_seen s level w)
  tag_seen_row next s level w at accesses unsafe =
      by_if (Row code b th next (LoadSection s) (Found w)) (is_in Committed w) _ _
      (λ stays. tag_committed at accesses unsafe stays)
      (λ goes_on. by_if (Row code b th next (LoadSection s) (Found w)) (is_in Undone w) _ _
      (λ undone. tag_undone at accesses unsafe undone)
      (λ stands. by_if (Row code b th next (LoadSection s) (Found w)) (is_in Live w) _ _
      (λ live. writer_seen_row next s level w at accesses unsafe live)
      (λ revoking. tag_waits at accesses unsafe goes_on stands revoking)))

  -- the step isn't of the own section
  not_own : (a c d : Bool) → (not a && not c && not d) ≡ true → c ≡ false
  not_own true c d is = cc
  not_own false true d is = cc
  not_own false false d is = refl

  tag_rows : (next : Next) (step : Step) → IsAccess next → th.attempt ≡ Fixed step → IsTagStep th step → Rows next step
  tag_rows next (Pin s w level) accesses fixed fits = (
    subst (λ t. Row code b th next (Pin s w level) StepAnswer.Done (if t then sees_pinned level (behind_pin th next) else knows s level))
        (sym (not_own (nat_eq s 0 && nat_eq level 0) (nat_eq s th.section) (nat_eq s th.known && nat_le level th.known_depth) fits.0))
        (pins_writer accesses fits.0 fits.1 fits.2),
    λ v. is_lost,
  )
  tag_rows next step accesses fixed fits = absurd fits

  -- ---- monitors that are entered

  entering_row : (next : Next) (m : ℕ) → IsEntry next → Row code b th next (LoadMonitor (monitor_wanted next)) (Found m) (entering th next (monitor_wanted next) m)
  entering_row next m enters =
      by_if (Row code b th next (LoadMonitor (monitor_wanted next)) (Found m)) (nat_eq m 0) _ _
      (λ free. by_if (Row code b th next (LoadMonitor (monitor_wanted next)) (Found m)) (nat_eq th.section 0) _ _
      (λ none. free_first enters free none)
      (λ some. by_if (Row code b th next (LoadMonitor (monitor_wanted next)) (Found m)) (needs_level th next) _ _
      (λ needs. by_if (Row code b th next (LoadMonitor (monitor_wanted next)) (Found m)) (nat_eq th.levels 255) _ _
      (λ full. levels_full enters free some needs full)
      (λ room. free_inside enters free some needs room))
      (λ untaken. free_more enters free some untaken)))
      (λ held. by_if (Row code b th next (LoadMonitor (monitor_wanted next)) (Found m)) (is_own m th.section) _ _
      (λ own. by_if (Row code b th next (LoadMonitor (monitor_wanted next)) (Found m)) (nat_eq (monitor_depth m) 65535) _ _
      (λ full. own_full enters held own full)
      (λ room. own_again enters held own room))
      (λ other. held_by_other enters held other))

  -- a section that holds a monitor is neither free nor the own one, and is revoked to the monitor's level
  abbrev contends : ℕ → Contend → Type 0
  contends level Free = ⊥
  contends level Own = ⊥
  contends level (Contend.Revoke n) = n ≡ level
  contends level (Busy why) = Unit {0}

  met_row : (next : Next) (s level w : ℕ) → th.attempt ≡ Meets s level → IsEntry next → is_own_section th s ≡ false → (c : Contend)
      → contend_with w level th.priority ≡ c → contends level c → Row code b th next (LoadSection s) (Found w) (met s w c)
  met_row next s level w at enters other (Contend.Revoke n) is same =
      subst (λ x. contend_with w level th.priority ≡ Contend.Revoke x → Row code b th next (LoadSection s) (Found w) (goes (Fixed (Revoke s w x)))) (sym same)
      (λ is. holder_lower at enters other is) is
  met_row next s level w at enters other (Busy why) is does = holder_busy at enters other is
  met_row next s level w at enters other Free is does = absurd does
  met_row next s level w at enters other Own is does = absurd does

  always_contends : (w level : ℕ) → contends level (contend_with w level th.priority)
  always_contends w level =
      by_if (λ c. contends level c) (is_in Live w) _ _
      (λ _. by_if (λ c. contends level c) (nat_lt (depth_of w) level) _ _ (λ _. tt)
      (λ _. by_if (λ c. contends level c) (nat_le level (pinned_of w)) _ _ (λ _. tt)
      (λ _. by_if (λ c. contends level c) (nat_lt (priority_of w) th.priority) _ _ (λ _. refl) (λ _. tt))))
      (λ _. by_if (λ c. contends level c) (is_in Revoking w) _ _ (λ _. tt) (λ _. tt))

  entry_rows : (next : Next) (step : Step) → IsEntry next → th.attempt ≡ Fixed step → IsEntryStep th next step → Rows next step
  entry_rows next DrawSection enters fixed none =
      λ n. by_if (Row code b th next DrawSection (Found n)) (nat_lt n b.limits.sections) _ _
      (λ room. section_numbered enters none room)
      (λ full. sections_full enters none full)
  entry_rows next (OpenSection s w) enters fixed fits =
      subst (λ x. Rows next (OpenSection s x)) (sym fits.2)
      ((section_opened enters fits.0 fits.1))
  entry_rows next (OpenLevel s w) enters fixed fits =
      subst (λ x. Rows next (OpenLevel x w)) (sym fits.1) (subst (λ x. Rows next (OpenLevel th.section x)) (sym fits.2)
      ((level_opened enters fits.0 fits.3 fits.4, λ v. is_lost)))
  entry_rows next (TakeMonitor r new) enters fixed fits =
      subst (λ x. Rows next (TakeMonitor x new)) (sym fits.1)
      (subst (λ x. Rows next (TakeMonitor (monitor_wanted next) x)) (sym fits.2)
      ((monitor_taken enters fits.0, λ v. is_lost)))
  entry_rows next (SetDepth r new) enters fixed fits =
      subst (λ x. Rows next (SetDepth x new)) (sym fits.0) (set_depth_row next (monitor_wanted next) new fixed
      (subst (λ g. IsNoUndoing g) (sym fixed) tt) (λ calm. entered_again enters calm))
    where
      set_depth_row : (next : Next) (r new : ℕ) {step : Step} → th.attempt ≡ Fixed step → IsNoUndoing th.attempt
          → (IsNoUndoing th.attempt → Row code b th next (SetDepth r new) StepAnswer.Done (deepens r (monitor_depth new))) → Rows next (SetDepth r new)
      set_depth_row next r new fixed calm row = subst (λ g. Row code b th next (SetDepth r new) StepAnswer.Done (depth_set g r (monitor_depth new))) (sym fixed) (row calm)
  entry_rows next (Revoke s w level) enters fixed fits =
      (holder_revoked enters fits.0 fits.1, λ v. is_lost)
  entry_rows next step enters fixed fits = absurd fits

  meeting_rows : (next : Next) (s level : ℕ) → th.attempt ≡ Meets s level → MeetingFits th next s level → Rows next (LoadSection s)
  meeting_rows (Want (Read r i)) s level at fits =
      λ w. subst (λ g. Row code b th (Want (Read r i)) (LoadSection s) (Found w) (section_loaded th (Want (Read r i)) g s w)) (sym at)
      (tag_seen_row (Want (Read r i)) s level w at tt fits)
  meeting_rows (Want (Write r i v)) s level at fits =
      λ w. subst (λ g. Row code b th (Want (Write r i v)) (LoadSection s) (Found w) (section_loaded th (Want (Write r i v)) g s w)) (sym at)
      (tag_seen_row (Want (Write r i v)) s level w at tt fits)
  meeting_rows (Want (Enter r)) s level at fits =
      λ w. subst (λ g. Row code b th (Want (Enter r)) (LoadSection s) (Found w) (section_loaded th (Want (Enter r)) g s w)) (sym at)
      (met_row (Want (Enter r)) s level w at tt fits (contend_with w level th.priority) refl (always_contends w level))
  meeting_rows (Want (Rewake r)) s level at fits =
      λ w. subst (λ g. Row code b th (Want (Rewake r)) (LoadSection s) (Found w) (section_loaded th (Want (Rewake r)) g s w)) (sym at)
      (met_row (Want (Rewake r)) s level w at tt fits (contend_with w level th.priority) refl (always_contends w level))
  meeting_rows next s level at fits = absurd fits

  -- ---- monitors that are left

  leaving_row : (r m : ℕ) (others : List Held) → without r th.held ≡ others → is_own m th.section ≡ true → nat_lt 1 (monitor_depth m) ≡ false
      → Row code b th (Want (Exit r)) (LoadMonitor r) (Found m) (leaving th r (monitor_level m) others)
  leaving_row r m [] is own last = exits_last own last is
  leaving_row r m (h ∷ others) is own last =
      let some : 0 < length (without r th.held) = subst (λ x. 0 < length x) (sym is) (above (length others)) in
      by_if (Row code b th (Want (Exit r)) (LoadMonitor r) (Found m)) (nat_lt (highest (h ∷ others)) (monitor_level m)) _ _
      (λ inner. subst (λ x. Row code b th (Want (Exit r)) (LoadMonitor r) (Found m) (goes (Fixed (CloseLevel th.section (own_word th) (highest x))))) is
      (exits_level own last some (subst (λ x. nat_lt (highest x) (monitor_level m) ≡ true) (sym is) inner)))
      (λ outer. exits_one own last some (subst (λ x. nat_lt (highest x) (monitor_level m) ≡ false) (sym is) outer))
    where
      above : (n : ℕ) → 0 < suc n
      above n = omega arith

  exiting_row : (r m : ℕ) → is_own m th.section ≡ true → Row code b th (Want (Exit r)) (LoadMonitor r) (Found m) (exiting th r m)
  exiting_row r m own =
      by_if (Row code b th (Want (Exit r)) (LoadMonitor r) (Found m)) (nat_lt 1 (monitor_depth m)) _ _
      (λ deep. exits_inner own deep)
      (λ last. leaving_row r m (without r th.held) refl own last)

  left_row : (r : ℕ) (held : List Held) → th.attempt ≡ Fixed (Release r) → without r th.held ≡ held
      → Row code b th (Want (Exit r)) (Release r) StepAnswer.Done (left_with held)
  left_row r [] fixed is = section_left fixed is
  left_row r (h ∷ held) fixed is = monitor_left fixed is

  -- ---- the first step of an attempt

  class_row : (c w : ℕ) → Row code b th (Want (Init c)) (LoadClass c) (Found w) (class_loaded th (Want (Init c)) w)
  class_row c w =
      let P = Row code b th (Want (Init c)) (LoadClass c) (Found w) in
      by_if P (nat_eq (class_state w) 2) _ _ (λ ready. is_ready ready)
      (λ unready. by_if P (nat_eq (class_state w) 3) _ _ (λ bad. is_bad bad)
      (λ good. by_if P (nat_eq (class_state w) 0) _ _ (λ fresh. is_unready fresh)
      (λ begun. by_if P (nat_eq (class_thread w) th.number) _ _
      (λ own. is_claimed unready good begun own)
      (λ other. is_others unready good begun other))))

  first_rows : (op : Op) → Rows (Want op) (first_step code th op)
  first_rows (ClassOf r) = λ w. class_found
  first_rows (Read r i) =
      λ w. unsafe_row (Want (Read r i)) w _ tt (λ safe. word_read safe)
  first_rows (Write r i v) =
      λ w. unsafe_row (Want (Write r i v)) w _ tt (λ safe. word_seen safe)
  first_rows (New c n) =
      λ taken. by_if (Row code b th (Want (New c n)) (TakeWords (words_asked code th.local c n)) (Found taken)) (nat_le (taken + words_asked code th.local c n) b.limits.heap) _ _
      (λ room. has_room room)
      (λ full. heap_full full)
  first_rows (Enter r) = λ m. entering_row (Want (Enter r)) m tt
  first_rows (Exit r) =
      λ m. by_if (Row code b th (Want (Exit r)) (LoadMonitor r) (Found m)) (is_own m th.section) _ _
      (λ own. exiting_row r m own) (λ other. not_owner refl other)
  first_rows (Wait r) =
      λ m. by_if (Row code b th (Want (Wait r)) (LoadMonitor r) (Found m)) (is_own m th.section) _ _
      (λ own. wait_begins own) (λ other. not_owner refl other)
  first_rows (Rewake r) =
      λ w. by_if (Row code b th (Want (Rewake r)) (LoadWait th.number) (Found w)) (is_notified_for r w) _ _
      (λ notified. is_notified notified) (λ waits. not_notified waits)
  first_rows (Op.Notify r) =
      λ m. by_if (Row code b th (Want (Op.Notify r)) (LoadMonitor r) (Found m)) (is_own m th.section) _ _
      (λ own. notify_begins own) (λ other. not_owner refl other)
  first_rows (Print x) = pinned_rows (Want (Print x)) Ticket tt (λ shut n. line_printed shut)
  first_rows (Start r p) =
      λ w. by_if (Row code b th (Want (Start r p)) (LoadThread (ThreadWord.Start r)) (Found w)) (nat_eq w 0) _ _
      (λ none. start_begins none) (λ some. was_started some)
  first_rows (Join r) =
      λ w. by_if (Row code b th (Want (Join r)) (LoadThread (ThreadWord.Start r)) (Found w)) (nat_eq w 0) _ _
      (λ none. never_started none) (λ some. join_begins some)
  first_rows (Init c) = λ w. class_row c w
  first_rows (InitDone c ok) =
      let step = SettleClass c (class_word_of (if ok then ClassWord.Ready else ClassWord.Bad)) in
      pinned_rows (Want (InitDone c ok)) step tt (λ shut. class_settled shut)
  first_rows (End x) = pinned_rows (Want (End x)) (EndThread th.number) tt (λ shut. thread_ended shut)

  -- ---- steps that are fixed

  write_rows : (r i v : ℕ) (step : Step) → th.attempt ≡ Fixed step → FixedFits th (Want (Write r i v)) step → Rows (Want (Write r i v)) step
  write_rows r i v (SwapWord at old new) fixed fits =
      subst (λ x. Rows (Want (Write r i v)) (SwapWord x old new)) (sym fits.0)
      (subst (λ x. Rows (Want (Write r i v)) (SwapWord (word_place r i) old x)) (sym fits.1)
      ((word_written fits.2, λ w. is_lost)))
  write_rows r i v step fixed fits = tag_rows (Want (Write r i v)) step tt fixed fits

  new_rows : (c n : ℕ) (step : Step) → FixedFits th (Want (New c n)) step → Rows (Want (New c n)) step
  new_rows c n (SetHeader r w) fits =
      subst (λ x. Rows (Want (New c n)) (SetHeader r x)) (sym fits) (object_made)
  new_rows c n step fits = absurd fits

  exit_rows : (r : ℕ) (step : Step) → th.attempt ≡ Fixed step → FixedFits th (Want (Exit r)) step → Rows (Want (Exit r)) step
  exit_rows r (SetDepth q new) fixed fits =
      subst (λ x. Rows (Want (Exit r)) (SetDepth x new)) (sym fits.0)
      (subst (λ g. Row code b th (Want (Exit r)) (SetDepth r new) StepAnswer.Done (depth_set g r (monitor_depth new))) (sym fixed)
      (left_once (subst (λ g. IsNoUndoing g) (sym fixed) tt)))
  exit_rows r (CloseLevel s w depth) fixed fits =
      subst (λ x. Rows (Want (Exit r)) (CloseLevel x w depth)) (sym fits.1) (subst (λ x. Rows (Want (Exit r)) (CloseLevel th.section x depth)) (sym fits.2)
      ((levels_closed (fits.0, refl, refl, fits.3, fits.4), λ v. is_lost)))
  exit_rows r (Pin s w level) fixed fits = own_pin_rows (Want (Exit r)) s w level tt fits
  exit_rows r (Commit s w) fixed fits =
      subst (λ x. Rows (Want (Exit r)) (Commit s x)) (sym fits.3)
      (subst (λ x. Rows (Want (Exit r)) (Commit x (own_word th))) (sym fits.1)
      ((section_committed fits.0 fits.2, λ v. is_lost)))
  exit_rows r (Release q) fixed is =
      subst (λ x. th.attempt ≡ Fixed (Release x) → Rows (Want (Exit r)) (Release x)) (sym is)
      (λ at. (subst (λ g. Row code b th (Want (Exit r)) (Release r) StepAnswer.Done (let_go th (Want (Exit r)) g r)) (sym at) (left_row r (without r th.held) at refl)))
      fixed
  exit_rows r step fixed fits = absurd fits

  wait_rows : (r : ℕ) (step : Step) → th.attempt ≡ Fixed step → FixedFits th (Want (Wait r)) step → Rows (Want (Wait r)) step
  wait_rows r (Pin s w level) fixed fits = own_pin_rows (Want (Wait r)) s w level tt fits
  wait_rows r (SetWait n w) fixed fits =
      subst (λ x. Rows (Want (Wait r)) (SetWait x w)) (sym fits.1)
      (subst (λ x. Rows (Want (Wait r)) (SetWait th.number x)) (sym fits.2)
      ((wait_noted fits.0)))
  wait_rows r (Release q) fixed fits =
      subst (λ x. th.attempt ≡ Fixed (Release x) → Rows (Want (Wait r)) (Release x)) (sym fits.1)
      (λ at. (subst (λ g. Row code b th (Want (Wait r)) (Release r) StepAnswer.Done (let_go th (Want (Wait r)) g r)) (sym at) (wait_made fits.0 at)))
      fixed
  wait_rows r step fixed fits = absurd fits

  rewake_rows : (r : ℕ) (step : Step) → th.attempt ≡ Fixed step → FixedFits th (Want (Rewake r)) step → Rows (Want (Rewake r)) step
  rewake_rows r (LoadMonitor q) fixed is =
      subst (λ x. Rows (Want (Rewake r)) (LoadMonitor x)) (sym is)
      ((λ m. entering_row (Want (Rewake r)) m tt))
  rewake_rows r step fixed fits = entry_rows (Want (Rewake r)) step tt fixed fits

  waiter_row : (r n w : ℕ) → is_open th ≡ false → 0 < n → n < 256
      → Row code b th (Want (Op.Notify r)) (LoadWait n) (Found w) (change_of code b th (Want (Op.Notify r)) (LoadWait n) (Found w))
  waiter_row r n w shut above below =
      let P = Row code b th (Want (Op.Notify r)) (LoadWait n) (Found w) in
      by_if P (is_waiting_for r w) _ _
      (λ waits. waiter_found shut above below waits)
      (λ other. by_if P (nat_lt n 255) _ _
      (λ more. waiter_passed shut above other more)
      (λ last. none_waits shut above below other last))

  notify_rows : (r : ℕ) (step : Step) → FixedFits th (Want (Op.Notify r)) step → Rows (Want (Op.Notify r)) step
  notify_rows r (Pin s w level) fits = own_pin_rows (Want (Op.Notify r)) s w level tt fits
  notify_rows r (LoadWait n) fits = (λ w. waiter_row r n w fits.0 fits.1 fits.2)
  notify_rows r (Step.Notify n w) fits =
      (waiter_woken fits.0 fits.1 fits.2 fits.3, λ v. is_lost)
  notify_rows r step fits = absurd fits

  start_rows : (r p : ℕ) (step : Step) → FixedFits th (Want (Start r p)) step → Rows (Want (Start r p)) step
  start_rows r p (Pin s w level) fits = own_pin_rows (Want (Start r p)) s w level tt fits
  start_rows r p DrawThread shut =
      λ n. by_if (Row code b th (Want (Start r p)) DrawThread (Found n)) (nat_lt n 255) _ _
      (λ room. thread_numbered shut room)
      (λ full. threads_full shut full)
  start_rows r p (StartThread q n) fits =
      subst (λ x. Rows (Want (Start r p)) (StartThread x n)) (sym fits.1)
      ((is_started fits.0 fits.2 fits.3, λ v. is_lost))
  start_rows r p (Split n q o) fits =
      subst (λ x. Rows (Want (Start r p)) (Split n x o)) (sym fits.1)
      (subst (λ x. Rows (Want (Start r p)) (Split n r x)) (sym fits.2)
      ((λ w. handed_out fits.0 fits.3 fits.4)))
  start_rows r p step fits = absurd fits

  end_row : (r n w : ℕ)
      → Row code b th (Want (Join r)) (LoadThread (ThreadWord.Ended n)) (Found w) (change_of code b th (Want (Join r)) (LoadThread (ThreadWord.Ended n)) (Found w))
  end_row r n w =
      by_if (Row code b th (Want (Join r)) (LoadThread (ThreadWord.Ended n)) (Found w)) (nat_eq w 0) _ _
      (λ alive. is_alive alive) (λ over. has_ended over)

  join_rows : (r : ℕ) (step : Step) → FixedFits th (Want (Join r)) step → Rows (Want (Join r)) step
  join_rows r (LoadThread (ThreadWord.Ended n)) fits = (λ w. end_row r n w)
  join_rows r step fits = absurd fits

  init_rows : (c : ℕ) (step : Step) → FixedFits th (Want (Init c)) step → Rows (Want (Init c)) step
  init_rows c (Pin s w level) fits = own_pin_rows (Want (Init c)) s w level tt fits
  init_rows c (ClaimClass d n) fits =
      subst (λ x. Rows (Want (Init c)) (ClaimClass x n)) (sym fits.1)
      (subst (λ x. Rows (Want (Init c)) (ClaimClass c x)) (sym fits.2)
      ((class_claimed fits.0, λ v. is_lost)))
  init_rows c step fits = absurd fits

  fixed_rows : (next : Next) (step : Step) → th.attempt ≡ Fixed step → FixedFits th next step → Rows next step
  fixed_rows (Want (Read r i)) step fixed fits = tag_rows (Want (Read r i)) step tt fixed fits
  fixed_rows (Want (Write r i v)) step fixed fits = write_rows r i v step fixed fits
  fixed_rows (Want (New c n)) step fixed fits = new_rows c n step fits
  fixed_rows (Want (Enter r)) step fixed fits = entry_rows (Want (Enter r)) step tt fixed fits
  fixed_rows (Want (Exit r)) step fixed fits = exit_rows r step fixed fits
  fixed_rows (Want (Wait r)) step fixed fits = wait_rows r step fixed fits
  fixed_rows (Want (Rewake r)) step fixed fits = rewake_rows r step fixed fits
  fixed_rows (Want (Op.Notify r)) step fixed fits = notify_rows r step fits
  fixed_rows (Want (Start r p)) step fixed fits = start_rows r p step fits
  fixed_rows (Want (Join r)) step fixed fits = join_rows r step fits
  fixed_rows (Want (Init c)) step fixed fits = init_rows c step fits
  fixed_rows next step fixed fits = absurd fits

  -- ---- the next move

  silent_rows : (towards step : Step) → (is_open th ≡ true → leaves_any code th.saved th.local ≡ true → Rows Silent towards)
      → silent_move code th towards ≡ Make step → Rows Silent step
  silent_rows towards step rows =
      by_if (λ m. m ≡ Make step → Rows Silent step) (is_open th && leaves_any code th.saved th.local) (Make towards) Quiet
      (λ both makes. subst (Rows Silent) (ap (made step) makes)
      (rows (and_parts (is_open th) (leaves_any code th.saved th.local) both).0 (and_parts (is_open th) (leaves_any code th.saved th.local) both).1))
      (λ stays makes. cc)

  begin_rows : (op : Op) (step : Step) → th.attempt ≡ Begin
      → (if is_open th then Make (LoadSection th.section) else Make (first_step code th op)) ≡ Make step → Rows (Want op) step
  begin_rows op step begins =
      by_if (λ m. m ≡ Make step → Rows (Want op) step) (is_open th) _ _
      (λ unpinned makes. subst (Rows (Want op)) (ap (made step) makes) (own_check_rows (Want op) Begin begins unpinned))
      (λ shut makes. subst (Rows (Want op)) (ap (made step) makes) (first_rows op))

  attempt_rows : (next : Next) (attempt : Attempt) (step : Step) → th.attempt ≡ attempt → AttemptFits th next attempt → move_of code th next attempt ≡ Make step → Rows next step
  attempt_rows next (Fixed other) step at fits makes = subst (Rows next) (ap (made step) makes) (fixed_rows next other at fits)
  attempt_rows next (Undoing w) step at fits makes = subst (Rows next) (ap (made step) makes) (undo_rows next w (noted_since (mark_of th (revoke_of w)).noted th.log) (deepened_since (mark_of th (revoke_of w)) th.held) (from_level (revoke_of w) th.held) refl at fits)
  attempt_rows next (Meets s level) step at fits makes = subst (Rows next) (ap (made step) makes) (meeting_rows next s level at fits)
  attempt_rows next (Full limit) step at fits makes = cc
  attempt_rows Silent Look step at fits makes = subst (Rows Silent) (ap (made step) makes) (own_check_rows Silent Look at fits)
  attempt_rows (Want op) Look step at fits makes = subst (Rows (Want op)) (ap (made step) makes) (own_check_rows (Want op) Look at fits)
  attempt_rows Ended Look step at fits makes = cc
  attempt_rows Silent Begin step at fits makes = silent_rows (LoadSection th.section) step (λ unpinned leaves. own_check_rows Silent Begin at unpinned) makes
  attempt_rows Silent Checked step at fits makes = silent_rows (own_pin th) step (λ unpinned leaves. pin_rows Silent leaves unpinned) makes
  attempt_rows (Want op) Begin step at fits makes = begin_rows op step at makes
  attempt_rows (Want op) Checked step at fits makes = subst (Rows (Want op)) (ap (made step) makes) (first_rows op)
  attempt_rows Ended Begin step at fits makes = cc
  attempt_rows Ended Checked step at fits makes = cc

  move_rows : (next : Next) (step : Step) → AttemptFits th next th.attempt
      → (if th.over then Over else if nat_le b.limits.turns th.counted then Stop Turns else move_of code th next th.attempt) ≡ Make step → Rows next step
  move_rows next step fits =
      by_if (λ m. m ≡ Make step → Rows next step) th.over _ _
      (λ over makes. cc)
      (λ goes_on. by_if (λ m. m ≡ Make step → Rows next step) (nat_le b.limits.turns th.counted) _ _
      (λ full makes. cc)
      (λ room makes. attempt_rows next th.attempt step refl fits makes))

pub answers_are_rows : {S : Type 0} (code : Code S) → AnswersHaveRows code
answers_are_rows code b th step answer fits makes can =
    for_answer (effect_of step) (At code b th (code.next th.local) step) (move_rows code b th (code.next th.local) step fits makes) answer can
