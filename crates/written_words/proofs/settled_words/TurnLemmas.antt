-- What each row makes of a thread's log, its marks and its levels, and of words as others see it.
use Rattle.std.proofs.Common.{◌≡◌, ◌⊎◌, inl, inr, ℕ, suc, ◌-◌, Bool, false, None, Some, List, [], ◌∷◌, length, drop, refl}
use Rattle.op_core.specs.Replies.{IsEntry}
use Rattle.op_core.specs.declared.Op.{Op}
use Rattle.op_core.specs.declared.Op.TheVariants.{Write, Enter, Exit, Wait, Rewake, Start, Init}
use Rattle.op_core.specs.declared.Next.{Next}
use Rattle.op_core.specs.declared.Next.TheVariants.{Want}
use Rattle.op_core.specs.declared.Reply.{Reply}
use Rattle.op_core.specs.ThreadCode.{Code}
use Rattle.heap_words.specs.declared.areas.Area.{Area}
use Rattle.heap_words.specs.declared.areas.Area.TheVariants.{Section}
use Rattle.section_state.specs.SectionWord.{pinned_of, revoke_of, undone_of}
use Rattle.write_log.specs.declared.Noted.{Noted}
use Rattle.step_port.specs.declared.answer.StepAnswer.{StepAnswer}
use Rattle.step_port.specs.declared.answer.StepAnswer.TheVariants.{Found, Lost}
use Rattle.step_port.specs.declared.step.ThreadWord.{ThreadWord}
use Rattle.step_port.specs.declared.step.Step.{Step}
use Rattle.step_port.specs.declared.step.Step.TheVariants.{SwapWord, RestoreWord, LoadMonitor, LoadThread, LoadClass, CloseLevel, MarkUndone, Release}
use Rattle.step_port.specs.Steps.{place_of, effect_of}
use Rattle.step_port.specs.Words.{CanAnswer}
use Rattle.thread_automaton.specs.declared.Bounds.{Bounds}
use Rattle.thread_automaton.specs.declared.Held.{Held}
use Rattle.thread_automaton.specs.declared.Attempt.TheVariants.{Begin, Look, Checked, Fixed, Undoing}
use Rattle.thread_automaton.specs.ThreadState.{ThreadState, Mark, is_open, is_own_section, mark_of, noted_since, from_level}
use Rattle.thread_automaton.specs.NextMove.{own_pin, word_place, deepened_since, undo_step, undo_next}
use Rattle.thread_automaton.specs.Changes.{Change, goes, forgotten, with_level, with_levels, without_level, stood_at, section_at, changed}
use Rattle.thread_automaton.specs.Checks.{behind_pin, to_pin, written_word, noted}
use Rattle.thread_automaton.specs.Monitors.{take_for}
use Rattle.thread_automaton.specs.Answers.{lost_on}
use Rattle.thread_automaton.specs.Told.{Told, advanced, born, shown, told_of, counted_for}
use Rattle.automaton_rows.specs.Rows.{Row, is_lost, own_stands, pins, restores, is_undone, word_written, section_opened, level_opened, monitor_taken, entered_again, not_owner, NeedsOwner, exits_one, levels_closed, section_left, wait_begins, notify_begins, start_begins, is_unready}
use Rattle.automaton_rows.proofs.RowLemmas.{by_if}
use Rattle.core_runs.specs.Cores.{outermost, levels_by}
use Rattle.written_words.proofs.noted_words.TurnLemmas.{SetsNoWord, lost_sets_none}
use Rattle.written_words.specs.SettledWords.{words_by}

-- others see nothing of it that has to do with words
abbrev pub Unseen : Told → Next → Type 0
Unseen told next = (words : ℕ → ℕ → ℕ) → words_by told next words ≡ words

-- the log and the marks are these then, or no level is open that isn't seen pinned
abbrev pub Leaves : List Noted → List Mark → List Noted → List Mark → Bool → Type 0
Leaves log marks log' marks' open_then = ((log' ≡ log) × (marks' ≡ marks)) ⊎ (open_then ≡ false)

-- Thread x, which does this next, makes the step as act number k, is answered this, and reports that. Its levels go from the
-- first list to the second. Then it has this log, these marks, and a level open that isn't seen pinned, or none.
pub data WordTurn {S : Type 0} (k : ℕ) (next : Next) (x : ThreadState S) (log : List Noted) (marks : List Mark) (open_then : Bool) (told : Told) (levels levels_then : List ℕ) (step : Step) (a : StepAnswer) : Type 0 where
  calm : SetsNoWord step a → Unseen told next → levels_then ≡ levels → Leaves x.log x.marks log marks open_then → WordTurn k next x log marks open_then told levels levels_then step a
  opens : (silents : ℕ) (held : List Held) → SetsNoWord step a → Unseen told next → levels_then ≡ k ∷ levels
      → Leaves x.log (record { silents = silents; noted = length x.log; held = held } ∷ x.marks) log marks open_then → WordTurn k next x log marks open_then told levels levels_then step a
  closes : (n : ℕ) → SetsNoWord step a → Unseen told next → ((s w : ℕ) → step ≡ MarkUndone s w → ⊥) → levels_then ≡ outermost n levels
      → Leaves x.log (drop (x.levels - n) x.marks) log marks open_then → WordTurn k next x log marks open_then told levels levels_then step a
  ends_all : SetsNoWord step a → Unseen told next → ((s w : ℕ) → step ≡ MarkUndone s w → ⊥) → levels_then ≡ [] → WordTurn k next x log marks open_then told levels levels_then step a
  undone : (w s v : ℕ) → SetsNoWord step a → Unseen told next → x.attempt ≡ Undoing w → step ≡ MarkUndone s v → noted_since (mark_of x (revoke_of w)).noted x.log ≡ []
      → levels_then ≡ outermost (revoke_of w - 1) levels → Leaves x.log (drop (suc (x.levels - revoke_of w)) x.marks) log marks open_then
      → WordTurn k next x log marks open_then told levels levels_then step a
  writes : (r i v old : ℕ) → next ≡ Want (Write r i v) → step ≡ SwapWord (word_place r i) old (written_word x v) → a ≡ StepAnswer.Done → told ≡ advanced (Some Reply.Done)
      → levels_then ≡ levels → log ≡ noted x (word_place r i) old → marks ≡ x.marks → WordTurn k next x log marks open_then told levels levels_then step a
  puts : (w p o : ℕ) → x.attempt ≡ Undoing w → step ≡ RestoreWord p o → undo_next x w (revoke_of w) ≡ RestoreWord p o → Unseen told next → levels_then ≡ levels
      → log ≡ drop 1 x.log → marks ≡ x.marks → WordTurn k next x log marks open_then told levels levels_then step a

-- the last step of an undo comes where nothing is logged since
pub none_noted : (s w v u : ℕ) (log : List Noted) (deepened taken : List Held) → undo_step s w log deepened taken ≡ MarkUndone v u → log ≡ []
none_noted s w v u (x ∷ log) deepened taken is = cc
none_noted s w v u [] deepened taken is = refl

module _ {S : Type 0} (code : Code S) (b : Bounds) (th : ThreadState S) (k : ℕ) (levels : List ℕ) where
  abbrev Turns : Next → Step → StepAnswer → Change → Type 0
  Turns next step a change =
      WordTurn k next th (changed code th change).log (changed code th change).marks (is_open (changed code th change)) (told_of next step a change (shown change)) levels (levels_by k change levels) step a

  -- where the thread may forget its log and its marks
  forgets : {next : Next} {step : Step} {a : StepAnswer} {told : Told} {then_ : List ℕ} (y : ThreadState S)
      → ((log : List Noted) (marks : List Mark) → ((log ≡ y.log) × (marks ≡ y.marks)) ⊎ (is_open y ≡ false) → WordTurn k next th log marks (is_open y) told levels then_ step a)
      → WordTurn k next th (forgotten y).log (forgotten y).marks (is_open (forgotten y)) told levels then_ step a
  forgets {next} {step} {a} {told} {then_} y turn = by_if (λ (z : ThreadState S). WordTurn k next th z.log z.marks (is_open z) told levels then_ step a) (is_open y) y (record y { log = []; saved = []; marks = [] })
      (λ open_so. turn y.log y.marks (inl (refl, refl))) (λ shut. turn [] [] (inr shut))

  pin_turns : (next : Next) (r m : ℕ) → Turns next (LoadMonitor r) (Found m) (goes (to_pin th next))
  pin_turns next r m = by_if (λ g. Turns next (LoadMonitor r) (Found m) (goes g)) (is_open th) (Fixed (own_pin th)) (behind_pin th next) (λ open_so. calm tt (λ words. refl) refl (inl (refl, refl))) (λ shut. behind next)
    where
      behind : (next : Next) → Turns next (LoadMonitor r) (Found m) (goes (behind_pin th next))
      behind (Want (Exit q)) = calm tt (λ words. refl) refl (inl (refl, refl))
      behind (Want (Wait q)) = calm tt (λ words. refl) refl (inl (refl, refl))
      behind (Want (Op.Notify q)) = calm tt (λ words. refl) refl (inl (refl, refl))
      behind (Want (Start q p)) = calm tt (λ words. refl) refl (inl (refl, refl))
      behind (Want (Init c)) = calm tt (λ words. refl) refl (inl (refl, refl))
      behind next = calm tt (λ words. refl) refl (inl (refl, refl))

  not_owner_unseen : (next : Next) (r : ℕ) → NeedsOwner next r → Unseen (advanced (Some Reply.NotOwner)) next
  not_owner_unseen (Want (Exit q)) r needs = λ words. refl
  not_owner_unseen (Want (Wait q)) r needs = λ words. refl
  not_owner_unseen (Want (Op.Notify q)) r needs = λ words. refl
  not_owner_unseen next r needs = absurd needs

  entry_unseen : (next : Next) → IsEntry next → Unseen (advanced (Some Reply.Done)) next
  entry_unseen (Want (Enter r)) enters = λ words. refl
  entry_unseen (Want (Rewake r)) enters = λ words. refl
  entry_unseen next enters = absurd enters

  pub turn_of : {next : Next} {step : Step} {a : StepAnswer} {change : Change} → Row code b th next step a change → CanAnswer (effect_of step) a → Turns next step a change
  turn_of {next} (is_lost {step = step} {v = v}) can = by_area (place_of step)
    where
      by_area : (area : Area) → Turns next step (Lost v) (lost_on th area)
      by_area (Section s) = by_if (λ change. Turns next step (Lost v) change) (is_own_section th s) (goes Look) (goes Begin)
          (λ own. calm (lost_sets_none step v can) (λ words. refl) refl (inl (refl, refl))) (λ other. calm (lost_sets_none step v can) (λ words. refl) refl (inl (refl, refl)))
      by_area area = calm (lost_sets_none step v can) (λ words. refl) refl (inl (refl, refl))
  turn_of (own_stands {w = w} at looks live) can = forgets (record th { pinned = pinned_of w; attempt = Checked }) (λ log marks which. calm tt (λ words. refl) refl which)
  turn_of (pins {next = wanted} unpinned lasts) can = forgets (record th { pinned = th.levels; attempt = behind_pin th wanted }) (λ log marks which. calm tt (λ words. refl) refl which)
  turn_of (restores {w = w} {at = p} {old = o} at undo does) can = puts w p o at refl does (λ words. refl) refl refl refl
  turn_of (is_undone {w = w} at undo does) can =
      forgets (without_level (record (stood_at th (revoke_of w)) { section = section_at (revoke_of w - 1) th.section; attempt = Begin }) (revoke_of w))
      (λ log marks which. undone w th.section (undone_of w) tt (λ words. refl) at refl
      (none_noted th.section w th.section (undone_of w) (noted_since (mark_of th (revoke_of w)).noted th.log) (deepened_since (mark_of th (revoke_of w)) th.held) (from_level (revoke_of w) th.held) does) refl which)
  turn_of (word_written {r = r} {i = i} {v = v} {old = old} safe) can = writes r i v old refl refl refl refl refl refl refl
  turn_of (section_opened {s = s} enters none some) can = opens th.silents th.held tt (λ words. refl) refl (inl (refl, refl))
  turn_of (level_opened {next = wanted} enters some needs room) can = forgets (with_level (record th { attempt = Fixed (take_for th wanted th.section (suc th.levels)) }))
      (λ log marks which. opens th.silents th.held tt (λ words. refl) refl which)
  turn_of (monitor_taken {next = wanted} enters some) can = calm tt (entry_unseen wanted enters) refl (inl (refl, refl))
  turn_of (entered_again {next = wanted} {new = new} enters calm_row) can = calm tt (entry_unseen wanted enters) refl (inl (refl, refl))
  turn_of (not_owner {next = wanted} {r = r} needs other) can = calm tt (not_owner_unseen wanted r needs) refl (inl (refl, refl))
  turn_of (exits_one {r = r} {m = m} own last more outer) can = pin_turns (Want (Exit r)) r m
  turn_of (levels_closed {r = r} {depth = depth} closed) can = forgets (with_levels (record th { attempt = Fixed (Release r) }) depth)
      (λ log marks which. closes depth tt (λ words. refl) (λ s w same. not_mark _ _ _ s w same) refl which)
    where
      not_mark : (s w n v x : ℕ) → CloseLevel s w n ≡ MarkUndone v x → ⊥
      not_mark s w n v x same = cc
  turn_of (section_left {r = r} at none) can = ends_all tt (λ words. refl) (λ s w same. not_mark _ s w same) refl
    where
      not_mark : (r v x : ℕ) → Release r ≡ MarkUndone v x → ⊥
      not_mark r v x same = cc
  turn_of (wait_begins {r = r} {m = m} own) can = pin_turns (Want (Wait r)) r m
  turn_of (notify_begins {r = r} {m = m} own) can = pin_turns (Want (Op.Notify r)) r m
  turn_of (start_begins {r = r} {p = p} {w = w} none) can = start_turn r p w
    where
      start_turn : (r p w : ℕ) → Turns (Want (Start r p)) (LoadThread (ThreadWord.Start r)) (Found w) (goes (to_pin th (Want (Start r p))))
      start_turn r p w = by_if (λ g. Turns (Want (Start r p)) (LoadThread (ThreadWord.Start r)) (Found w) (goes g)) (is_open th) (Fixed (own_pin th)) (behind_pin th (Want (Start r p)))
          (λ open_so. calm tt (λ words. refl) refl (inl (refl, refl))) (λ shut. calm tt (λ words. refl) refl (inl (refl, refl)))
  turn_of (is_unready {c = c} {w = w} fresh) can = init_turn c w
    where
      init_turn : (c w : ℕ) → Turns (Want (Init c)) (LoadClass c) (Found w) (goes (to_pin th (Want (Init c))))
      init_turn c w = by_if (λ g. Turns (Want (Init c)) (LoadClass c) (Found w) (goes g)) (is_open th) (Fixed (own_pin th)) (behind_pin th (Want (Init c)))
          (λ open_so. calm tt (λ words. refl) refl (inl (refl, refl))) (λ shut. calm tt (λ words. refl) refl (inl (refl, refl)))
  turn_of row can = calm tt (λ words. refl) refl (inl (refl, refl))

  pub counted_turn : {next : Next} {step : Step} {a : StepAnswer} (by seen : Told) (z : ThreadState S) (then_ : List ℕ) → WordTurn k next th z.log z.marks (is_open z) seen levels then_ step a
      → WordTurn k next th (counted_for by z).log (counted_for by z).marks (is_open (counted_for by z)) seen levels then_ step a
  counted_turn (advanced None) seen z then_ turn = turn
  counted_turn (advanced (Some reply)) seen z then_ turn = turn
  counted_turn born seen z then_ turn = turn
  counted_turn other seen z then_ turn = turn
