-- Each act of a thread shows an entry that fits: by the row of its step, answer and change.
use Rattle.std.proofs.Common.{◌≡◌, ℕ, zero, suc, ◌<◌, Bool, true, false, List, refl, ap, arith}
use Rattle.std.specs.Prelude.{nat_lt}
use Rattle.std.proofs.lemmas.Grind.{common_steps}
use Rattle.std.proofs.lemmas.Bool.Decides.{nat_tests}
use Rattle.op_core.specs.declared.Op.{Op}
use Rattle.op_core.specs.declared.Reply.TheVariants.{Woken}
use Rattle.op_core.specs.declared.Next.{Next}
use Rattle.op_core.specs.declared.Next.TheVariants.{Want}
use Rattle.op_core.specs.ThreadCode.{Code}
use Rattle.heap_words.specs.declared.areas.Area.{Area}
use Rattle.section_state.specs.SectionWord.{pinned_of}
use Rattle.step_port.specs.declared.answer.StepAnswer.{StepAnswer}
use Rattle.step_port.specs.declared.step.Step.{Step}
use Rattle.step_port.specs.declared.step.Step.TheVariants.{Release, LoadWait}
use Rattle.step_port.specs.Steps.{place_of, effect_of}
use Rattle.step_port.specs.Words.{area_eq, CanAnswer, words_after}
use Rattle.thread_automaton.specs.declared.Bounds.{Bounds}
use Rattle.thread_automaton.specs.declared.Attempt.TheVariants.{Checked, Fixed}
use Rattle.thread_automaton.specs.ThreadState.{ThreadState}
use Rattle.thread_automaton.specs.Changes.{Change, replies, with_level, with_levels}
use Rattle.thread_automaton.specs.Checks.{behind_pin}
use Rattle.thread_automaton.specs.Monitors.{take_for}
use Rattle.thread_automaton.specs.Answers.{is_waiting_for}
use Rattle.automaton_rows.specs.Rows.{Row, is_lost, own_stands, pins, restores, sets_monitor_back, gives_monitor_back, is_undone, class_found, word_read, word_written, pins_writer, has_room, heap_full, object_made, section_numbered, sections_full, section_opened, level_opened, monitor_taken, entered_again, holder_revoked, not_owner, exits_one, left_once, section_committed, levels_closed, monitor_left, section_left, wait_begins, wait_noted, wait_made, notify_begins, none_waits, waiter_woken, line_printed, start_begins, was_started, thread_numbered, threads_full, is_started, handed_out, never_started, has_ended, thread_ended, is_ready, is_bad, is_unready, is_claimed, class_claimed, class_settled}
use Rattle.core_runs.specs.Cores.{Core}
use Rattle.core_runs.specs.Acts.{Act}
use Rattle.first_law.specs.InPlace.{IsSeenRun}
use Rattle.first_law.proofs.TurnLemmas.{Keeps, keeps_else}
use Rattle.first_law.proofs.EntryLemmas.{HasEntry, Done}
use Rattle.first_law.proofs.UnseenLemmas.{pin_goes, lost_row, goes_row, forgets_row, pin_row}
use Rattle.first_law.proofs.FixedLemmas.{not_undoing}
use Rattle.first_law.proofs.WordRows as word_rows
use Rattle.first_law.proofs.ThreadRows as thread_rows
use Rattle.first_law.proofs.JoinRows as join_rows
use Rattle.first_law.proofs.ClassRows as class_rows
use Rattle.first_law.proofs.EnterRows as enter_rows
use Rattle.first_law.proofs.WaitRows as wait_rows
use Rattle.first_law.proofs.UndoRows as undo_rows

is_last : (n : ℕ) → n < 256 → nat_lt n 255 ≡ false → n ≡ 255
is_last n low high = grind (arith, common_steps, nat_tests)

module _ {S : Type 0} (code : Code S) (b : Bounds) (is_thread : ℕ → Bool) (first : S) (classes : ℕ) (c : ℕ → Core S) (acts : List Act) (run : IsSeenRun code b is_thread first classes c acts) (k t : ℕ)
    (th : ThreadState S) where
  abbrev Does : Next → Step → StepAnswer → Change → Type 0
  Does next step a change = Done code b is_thread first classes c acts run k t th next step a change

  abbrev Seen : Step → StepAnswer → Type 0
  Seen step a = HasEntry code b is_thread first classes c acts run k t th step a

  -- a step on the word of a section
  on_section : {next : Next} {step : Step} {a : StepAnswer} {change : Change} → Does next step a change → (s : ℕ) → place_of step ≡ Area.Section s → Keeps (c k).words (words_after step (c k).words)
  on_section {step = step} act s is = keeps_else step (c k).words (λ p. ap (area_eq (Area.Object p)) is) (λ u. ap (area_eq (Area.Wait u)) is) (λ d. ap (area_eq (Area.Class d)) is)

  woken : {r n w : ℕ} → 0 < n → is_waiting_for r w ≡ true → Does (Want (Op.Notify r)) (Step.Notify n w) StepAnswer.Done (replies (Woken n)) → Seen (Step.Notify n w) StepAnswer.Done
  woken {n = zero} some waits act = absurd (no some)
    where
      no : 0 < 0 → ⊥
      no some = omega (arith, some)
  woken {r = r} {n = suc n} {w = w} some waits act =
      wait_rows.woken_row code b is_thread first classes c acts run k t th act (not_undoing code b th (Step.Notify (suc n) w) act.move (λ is. is)) waits

  pub rows : {next : Next} {step : Step} {a : StepAnswer} {change : Change} → Row code b th next step a change → Does next step a change → CanAnswer (effect_of step) a → Seen step a
  rows is_lost act can = lost_row code b is_thread first classes c acts run k t th act can
  rows (own_stands {w = w} at looks stands) act can = forgets_row code b is_thread first classes c acts run k t th act (record th { pinned = pinned_of w; attempt = Checked }) refl tt tt tt
      (record { objects = λ p. refl; waits = λ u. refl; classes = λ d. refl }) refl (λ l. refl) (λ f. refl) (λ f. refl) (λ xs. refl) (λ f. refl)
  rows (pins {next = next} unpinned lasts) act can = forgets_row code b is_thread first classes c acts run k t th act (record th { pinned = th.levels; attempt = behind_pin th next }) refl tt tt tt
      (on_section act th.section refl) refl (pin_goes code th next).1 (λ f. refl) (λ f. refl) (λ xs. refl) (λ f. refl)
  rows (restores at undoing does) act can = word_rows.back_row code b is_thread first classes c acts run k t th act at
  rows (sets_monitor_back at undoing does) act can = undo_rows.depth_row code b is_thread first classes c acts run k t th at undoing.section does act
  rows (gives_monitor_back at undoing does) act can = undo_rows.give_row code b is_thread first classes c acts run k t th at act
  rows (is_undone at undoing does) act can = undo_rows.back_row code b is_thread first classes c acts run k t th at act
  rows class_found act can = word_rows.class_row code b is_thread first classes c acts run k t th act
  rows (word_read safe) act can = word_rows.read_row code b is_thread first classes c acts run k t th act
  rows (word_written safe) act can = word_rows.write_row code b is_thread first classes c acts run k t th act
  rows (pins_writer {s = s} accesses unsafe live shallow) act can = goes_row code b is_thread first classes c acts run k t th act tt tt tt
      (on_section act s refl) refl (λ l. refl) (λ f. refl) (λ f. refl) (λ xs. refl) (λ f. refl)
  rows (has_room room) act can = goes_row code b is_thread first classes c acts run k t th act tt tt tt
      (record { objects = λ p. refl; waits = λ u. refl; classes = λ d. refl }) refl (λ l. refl) (λ f. refl) (λ f. refl) (λ xs. refl) (λ f. refl)
  rows (heap_full full) act can = goes_row code b is_thread first classes c acts run k t th act tt tt tt
      (record { objects = λ p. refl; waits = λ u. refl; classes = λ d. refl }) refl (λ l. refl) (λ f. refl) (λ f. refl) (λ xs. refl) (λ f. refl)
  rows object_made act can = word_rows.new_row code b is_thread first classes c acts run k t th act
  rows (section_numbered enters none room) act can = goes_row code b is_thread first classes c acts run k t th act tt tt tt
      (record { objects = λ p. refl; waits = λ u. refl; classes = λ d. refl }) refl (λ l. refl) (λ f. refl) (λ f. refl) (λ xs. refl) (λ f. refl)
  rows (sections_full enters none full) act can = goes_row code b is_thread first classes c acts run k t th act tt tt tt
      (record { objects = λ p. refl; waits = λ u. refl; classes = λ d. refl }) refl (λ l. refl) (λ f. refl) (λ f. refl) (λ xs. refl) (λ f. refl)
  rows (section_opened enters none some) act can = goes_row code b is_thread first classes c acts run k t th act tt tt tt
      (record { objects = λ p. refl; waits = λ u. refl; classes = λ d. refl }) refl (λ l. refl) (λ f. refl) (λ f. refl) (λ xs. refl) (λ f. refl)
  rows (level_opened {next = next} enters some needs room) act can =
      forgets_row code b is_thread first classes c acts run k t th act (with_level (record th { attempt = Fixed (take_for th next th.section (suc th.levels)) })) refl tt tt tt
      (on_section act th.section refl) refl (λ l. refl) (λ f. refl) (λ f. refl) (λ xs. refl) (λ f. refl)
  rows (monitor_taken {next = next} enters some) act can = enter_rows.take_row code b is_thread first classes c acts run k t th next enters some act
  rows (entered_again {next = next} {new = new} enters calm) act can = enter_rows.enter_row code b is_thread first classes c acts run k t th next new enters calm act
  rows (holder_revoked {s = s} enters other revokes) act can = goes_row code b is_thread first classes c acts run k t th act tt tt tt
      (on_section act s refl) refl (λ l. refl) (λ f. refl) (λ f. refl) (λ xs. refl) (λ f. refl)
  rows (not_owner {next = next} {r = r} {m = m} needs other) act can = enter_rows.owner_row code b is_thread first classes c acts run k t th next r m needs other act
  rows (exits_one own last more inner) act can = pin_row code b is_thread first classes c acts run k t th act refl
      tt tt tt (λ f. refl) (λ f. refl) (λ xs. refl) (λ f. refl)
  rows (left_once calm) act can = enter_rows.leave_row code b is_thread first classes c acts run k t th calm act
  rows (section_committed some none) act can = goes_row code b is_thread first classes c acts run k t th act tt tt tt
      (on_section act th.section refl) refl (λ l. refl) (λ f. refl) (λ f. refl) (λ xs. refl) (λ f. refl)
  rows (levels_closed {r = r} {depth = depth} closes) act can =
      forgets_row code b is_thread first classes c acts run k t th act (with_levels (record th { attempt = Fixed (Release r) }) depth) refl tt tt tt
      (on_section act th.section refl) refl (λ l. refl) (λ f. refl) (λ f. refl) (λ xs. refl) (λ f. refl)
  rows (monitor_left at more) act can = enter_rows.left_row code b is_thread first classes c acts run k t th act at
  rows (section_left at none) act can = enter_rows.closed_row code b is_thread first classes c acts run k t th act at
  rows (wait_begins own) act can = pin_row code b is_thread first classes c acts run k t th act refl tt tt tt (λ f. refl) (λ f. refl) (λ xs. refl) (λ f. refl)
  rows (wait_noted shut) act can = undo_rows.noted_row code b is_thread first classes c acts run k t th act
  rows (wait_made shut at) act can = wait_rows.wait_row code b is_thread first classes c acts run k t th act at
  rows (notify_begins own) act can = pin_row code b is_thread first classes c acts run k t th act refl tt tt tt (λ f. refl) (λ f. refl) (λ xs. refl) (λ f. refl)
  rows (none_waits {r = r} {n = n} {w = w} shut some few other high) act can =
      wait_rows.nobody_row code b is_thread first classes c acts run k t th act (not_undoing code b th (LoadWait n) act.move (λ is. is)) other (is_last n few high)
  rows (waiter_woken shut some few waits) act can = woken some waits act
  rows (line_printed shut) act can = thread_rows.line_row code b is_thread first classes c acts run k t th act
  rows (start_begins none) act can = pin_row code b is_thread first classes c acts run k t th act refl tt tt tt (λ f. refl) (λ f. refl) (λ xs. refl) (λ f. refl)
  rows (was_started some) act can = thread_rows.already_row code b is_thread first classes c acts run k t th act some
  rows (thread_numbered shut room) act can = goes_row code b is_thread first classes c acts run k t th act tt tt tt
      (record { objects = λ p. refl; waits = λ u. refl; classes = λ d. refl }) refl (λ l. refl) (λ f. refl) (λ f. refl) (λ xs. refl) (λ f. refl)
  rows (threads_full shut full) act can = goes_row code b is_thread first classes c acts run k t th act tt tt tt
      (record { objects = λ p. refl; waits = λ u. refl; classes = λ d. refl }) refl (λ l. refl) (λ f. refl) (λ f. refl) (λ xs. refl) (λ f. refl)
  rows (is_started shut some few) act can = thread_rows.start_row code b is_thread first classes c acts run k t th act
  rows (handed_out shut some few) act can = join_rows.handed_row code b is_thread first classes c acts run k t th act
  rows (never_started none) act can = join_rows.never_row code b is_thread first classes c acts run k t th act none
  rows (has_ended some) act can = join_rows.joined_row code b is_thread first classes c acts run k t th act some
  rows (thread_ended shut) act can = join_rows.end_row code b is_thread first classes c acts run k t th act
  rows (is_ready two) act can = class_rows.ready_row code b is_thread first classes c acts run k t th act two
  rows (is_bad three) act can = class_rows.bad_row code b is_thread first classes c acts run k t th act three
  rows (is_unready none) act can = pin_row code b is_thread first classes c acts run k t th act refl tt tt tt (λ f. refl) (λ f. refl) (λ xs. refl) (λ f. refl)
  rows (is_claimed not_two not_three not_zero own) act can = class_rows.claimed_row code b is_thread first classes c acts run k t th act not_two not_three not_zero own
  rows (class_claimed shut) act can = class_rows.claim_row code b is_thread first classes c acts run k t th act
  rows (class_settled shut) act can = class_rows.settle_row code b is_thread first classes c acts run k t th act
  rows row act can = goes_row code b is_thread first classes c acts run k t th act tt tt tt (record { objects = λ p. refl; waits = λ u. refl; classes = λ d. refl }) refl (λ l. refl) (λ f. refl) (λ f. refl) (λ xs. refl) (λ f. refl)
