-- What a thread's steps make of its section: the rows of the automaton, few enough to go along runs by cases.
use Rattle.std.proofs.Common.{◌≡◌, ℕ, suc, ◌+◌, ◌-◌, ◌<◌, ◌≤◌, ◌&&◌, Bool, true, false, None, Some, List, [], ◌∷◌, nat_eq, refl, sym, ◌∙◌, ap, subst, arith}
use Rattle.std.specs.Prelude.{nat_lt, nat_le, if◌then◌else◌}
use Rattle.std.proofs.lemmas.Grind.{common_steps}
use Rattle.std.proofs.lemmas.Bool.Decides.{nat_tests}
use Rattle.op_core.specs.declared.Op.{Op}
use Rattle.op_core.specs.declared.Op.TheVariants.{Exit, Wait, Print, Start, Init, InitDone, End}
use Rattle.op_core.specs.declared.Limit.TheVariants.{Turns}
use Rattle.op_core.specs.declared.Next.{Next}
use Rattle.op_core.specs.declared.Next.TheVariants.{Silent, Want, Ended}
use Rattle.op_core.specs.declared.Reply.{Reply}
use Rattle.op_core.specs.ThreadCode.{Code, leaves_any}
use Rattle.heap_words.specs.declared.areas.Area.{Area}
use Rattle.heap_words.specs.declared.areas.Area.TheVariants.{Control, Section}
use Rattle.section_state.specs.declared.State.TheVariants.{Live, Revoking}
use Rattle.section_state.specs.SectionWord.{state_of, priority_of, pinned_of, depth_of, revoke_of, with_pinned, revoked_of}
use Rattle.write_log.specs.declared.Noted.{Noted}
use Rattle.monitor_core.specs.declared.Contend.{Contend}
use Rattle.monitor_core.specs.declared.Contend.TheVariants.{Busy}
use Rattle.monitor_core.specs.declared.Why.TheVariants.{NotHigher, Leaving}
use Rattle.monitor_core.specs.declared.Why.{Why}
use Rattle.monitor_core.specs.Contention.{is_in, contend_live, contend_with}
use Rattle.step_port.specs.declared.answer.StepAnswer.{StepAnswer}
use Rattle.step_port.specs.declared.answer.StepAnswer.TheVariants.{Found, Lost}
use Rattle.step_port.specs.declared.step.Effect.TheVariants.{Load, Exchange}
use Rattle.step_port.specs.declared.step.Step.{Step}
use Rattle.step_port.specs.declared.step.Step.TheVariants.{DrawSection, OpenSection, MarkUndone, Release}
use Rattle.step_port.specs.Steps.{place_of, effect_of}
use Rattle.step_port.specs.Words.{Words, area_eq, put_by, answer_of, words_after, CanAnswer}
use Rattle.thread_automaton.specs.declared.Bounds.{Bounds}
use Rattle.thread_automaton.specs.declared.Held.{Held}
use Rattle.thread_automaton.specs.declared.Move.{Move}
use Rattle.thread_automaton.specs.declared.Move.TheVariants.{Over, Quiet, Stop, Make}
use Rattle.thread_automaton.specs.declared.Attempt.{Attempt}
use Rattle.thread_automaton.specs.declared.Attempt.TheVariants.{Begin, Look, Checked, Fixed, Meets, Undoing, Full}
use Rattle.thread_automaton.specs.ThreadState.{ThreadState, is_open, is_own_section, own_word, opening_word, mark_of, noted_since, from_level}
use Rattle.thread_automaton.specs.NextMove.{own_pin, pinned_then, deepened_since, undo_step, first_step, silent_move, move_of, next_move}
use Rattle.thread_automaton.specs.Changes.{Change, answered, forgotten, with_level, with_levels, without_level, stood_at, section_at, changed}
use Rattle.thread_automaton.specs.Checks.{behind_pin, to_pin}
use Rattle.thread_automaton.specs.Monitors.{take_for}
use Rattle.thread_automaton.specs.Answers.{lost_on, change_of}
use Rattle.thread_automaton.specs.Told.{Told, advanced, born, told, counted_for, after_answer}
use Rattle.automaton_rows.specs.Fits.{IsFit}
use Rattle.automaton_rows.specs.Rows.{Row, is_lost, own_revoked, own_stands, pins, restores, sets_monitor_back, gives_monitor_back, is_undone, class_found, word_read, word_seen, word_written, is_unsafe, tag_committed, tag_undone, tag_pinned, tag_live, tag_waits, pins_writer, has_room, heap_full, object_made, free_first, section_numbered, sections_full, section_opened, free_inside, levels_full, level_opened, free_more, monitor_taken, own_again, own_full, entered_again, held_by_other, holder_lower, holder_busy, holder_revoked, is_notified, not_notified, not_owner, exits_inner, exits_last, exits_level, exits_one, left_once, section_committed, levels_closed, monitor_left, section_left, wait_begins, wait_noted, wait_made, notify_begins, waiter_found, waiter_passed, none_waits, waiter_woken, line_printed, start_begins, was_started, thread_numbered, threads_full, is_started, handed_out, never_started, join_begins, is_alive, has_ended, thread_ended, is_ready, is_bad, is_unready, is_claimed, is_others, class_claimed, class_settled}
use Rattle.automaton_rows.proofs.RowLemmas.{answers_are_rows, words_can_answer, by_if}
use Rattle.section_laws.proofs.WordLemmas.{state_packed, state_is, pinned_some, deep_some, committed_some, undone_some, lost, stays_at}

-- ---- what is seen of a thread

-- the section that it is about to open, else 0
abbrev pub opening_of : Attempt → ℕ
opening_of (Fixed (OpenSection s w)) = s
opening_of attempt = 0

pub record View : Type 0 where
  pub section : ℕ
  pub opening : ℕ

abbrev pub view : {S : Type 0} → ThreadState S → View
view th = record { section = th.section; opening = opening_of th.attempt }

-- the same at another attempt, at which it opens no section
abbrev pub calm : View → View
calm v = record v { opening = 0 }

-- ---- steps that leave sections alone

-- a step that opens no section, or that is lost
abbrev pub OpensNone : Step → StepAnswer → Type 0
OpensNone step (Lost v) = Unit {0}
OpensNone (OpenSection s w) answer = ⊥
OpensNone step answer = Unit {0}

-- made on the words w it leaves those of sections and the count of sections
pub record Leaves (step : Step) (a : StepAnswer) : Type 0 where
  pub opens_none : OpensNone step a
  pub sections : (w : Words) → a ≡ answer_of w step → (s : ℕ) → words_after step w (Section s) ≡ w (Section s)
  pub count : (w : Words) → a ≡ answer_of w step → words_after step w (Control 1) ≡ w (Control 1)

pub loads : (step : Step) (a : StepAnswer) → effect_of step ≡ Load → OpensNone step a → Leaves step a
loads step a load none =
    let same : (w : Words) → words_after step w ≡ w = λ w. ap (λ e. put_by e w (place_of step)) load in
    record { opens_none = none; sections = λ w is s. ap (λ x. x (Section s)) (same w); count = λ w is. ap (λ x. x (Control 1)) (same w) }

loses : (step : Step) (v : ℕ) → Leaves step (Lost v)
loses step v =
    let same : (w : Words) → Lost v ≡ answer_of w step → words_after step w ≡ w = λ w is. lost (effect_of step) w (place_of step) v is in
    record { opens_none = tt; sections = λ w is s. ap (λ x. x (Section s)) (same w is); count = λ w is. ap (λ x. x (Control 1)) (same w is) }

elsewhere : (step : Step) (a : StepAnswer) → ((s : ℕ) → area_eq (Section s) (place_of step) ≡ false) → area_eq (Control 1) (place_of step) ≡ false
    → OpensNone step a → Leaves step a
elsewhere step a sections count none = record {
  opens_none = none;
  sections = λ w is s. stays_at (effect_of step) w (place_of step) (Section s) (sections s);
  count = λ w is. stays_at (effect_of step) w (place_of step) (Control 1) count;
}

-- ---- what a thread does to sections

-- What may become of the word of a section, whoever makes the step: it stays, or is pinned deeper, or is revoked to a level
-- that is open and not pinned, both while the section is live.
pub data Touched (old new : ℕ) : Type 0 where
  untouched : new ≡ old → Touched old new
  pinned_deeper : (n : ℕ) → state_of old ≡ 1 → pinned_of old < n → new ≡ with_pinned old n → Touched old new
  revoked_to : (n : ℕ) → state_of old ≡ 1 → pinned_of old < n → n ≤ depth_of old → new ≡ revoked_of old n → Touched old new

-- the thread th changes the word of section s from the first to the second by an exchange
pub data Exchanges {S : Type 0} (th : ThreadState S) (s old new : ℕ) : Type 0 where
  of_any : Touched old new → Exchanges th s old new
  of_own : th.section ≡ s → 0 < s → state_of old ≡ 1 → 0 < state_of new → Exchanges th s old new

-- The thread th makes the step, is answered this, and is then seen so.
pub data Deed {S : Type 0} (th : ThreadState S) : Step → StepAnswer → View → Type 0 where
  plain : {step : Step} {a : StepAnswer} → Leaves step a → Deed th step a (calm (view th))
  exchanges : {step : Step} {s old new : ℕ} → place_of step ≡ Section s → effect_of step ≡ Exchange old new → Exchanges th s old new
      → Deed th step StepAnswer.Done (calm (view th))
  undoes : (n : ℕ) {word : ℕ} → 0 < th.section → 0 < state_of word
      → Deed th (MarkUndone th.section word) StepAnswer.Done (record (calm (view th)) { section = section_at n th.section })
  draws : {n : ℕ} → nat_eq th.section 0 ≡ true → Deed th DrawSection (Found n) (record (calm (view th)) { opening = n + 1 })
  draws_none : {n : ℕ} → Deed th DrawSection (Found n) (calm (view th))
  opens_section : {s : ℕ} → nat_eq th.section 0 ≡ true → nat_lt 0 s ≡ true → opening_of th.attempt ≡ s
      → Deed th (OpenSection s (opening_word th)) StepAnswer.Done (record (calm (view th)) { section = s })
  closes_section : {step : Step} → Leaves step StepAnswer.Done → Deed th step StepAnswer.Done (record (calm (view th)) { section = 0 })

-- ---- moves

abbrev pub IsMake : Move → Type 0
IsMake (Make step) = Unit {0}
IsMake other = ⊥

pub makes_it : (over full : Bool) (rest : Move) (step : Step) → (if over then Over else if full then Stop Turns else rest) ≡ Make step → rest ≡ Make step
makes_it true full rest step is = absurd (subst IsMake (sym is) tt)
makes_it false true rest step is = absurd (subst IsMake (sym is) tt)
makes_it false false rest step is = is

pub above : (n : ℕ) → nat_lt 0 n ≡ true → 0 < n
above n is = grind (arith, common_steps, nat_tests)

at_least : (m n : ℕ) → nat_lt n m ≡ false → m ≤ n
at_least m n is = grind (arith, common_steps, nat_tests)

higher : (m n : ℕ) → nat_le m n ≡ false → n < m
higher m n is = grind (arith, common_steps, nat_tests)

-- what a thread revokes is live, and the level is open and not pinned
abbrev IsRevoke : Contend → Type 0
IsRevoke (Contend.Revoke k) = Unit {0}
IsRevoke contend = ⊥

-- the section of this word is live, and the level is open and not pinned
abbrev pub CanRevoke : ℕ → ℕ → Type 0
CanRevoke w level = (state_of w ≡ 1) × (pinned_of w < level) × (level ≤ depth_of w)

pub by_revoking : (w level : ℕ) → CanRevoke w level → Touched w (revoked_of w level)
by_revoking w level can = revoked_to level can.0 can.1 can.2 refl

pub contended : (w level priority : ℕ) → contend_with w level priority ≡ Contend.Revoke level → CanRevoke w level
contended w level priority revoke = by_live (is_in Live w) refl revoke
  where
    by_pin : (p : Bool) → nat_le level (pinned_of w) ≡ p → is_in Live w ≡ true → level ≤ depth_of w
        → (if p then Busy Why.Pinned else if nat_lt (priority_of w) priority then Contend.Revoke level else Busy (NotHigher (priority_of w))) ≡ Contend.Revoke level
        → CanRevoke w level
    by_pin true deep is_live low is = absurd (subst IsRevoke (sym is) tt)
    by_pin false deep is_live low is = (state_is Live w is_live, higher level (pinned_of w) deep, low)

    by_depth : (d : Bool) → nat_lt (depth_of w) level ≡ d → is_in Live w ≡ true
        → (if d then Busy Leaving else if nat_le level (pinned_of w) then Busy Why.Pinned
        else if nat_lt (priority_of w) priority then Contend.Revoke level else Busy (NotHigher (priority_of w))) ≡ Contend.Revoke level
        → CanRevoke w level
    by_depth true deep is_live is = absurd (subst IsRevoke (sym is) tt)
    by_depth false deep is_live is = by_pin (nat_le level (pinned_of w)) refl is_live (at_least level (depth_of w) deep) is

    by_live : (t : Bool) → is_in Live w ≡ t
        → (if t then contend_live w level priority else if is_in Revoking w then Busy Why.Revoking else Busy Leaving) ≡ Contend.Revoke level
        → CanRevoke w level
    by_live true is_live is = by_depth (nat_lt (depth_of w) level) refl is_live is
    by_live false is_live is = absurd (by_if (λ c. c ≡ Contend.Revoke level → ⊥) (is_in Revoking w) (Busy Why.Revoking) (Busy Leaving)
        (λ yes same. subst IsRevoke (sym same) tt) (λ no same. subst IsRevoke (sym same) tt) is)

-- ---- attempts after a step

module _ {S : Type 0} (code : Code S) (b : Bounds) (th : ThreadState S) where
  pin_opens : (next : Next) → opening_of (behind_pin th next) ≡ 0
  pin_opens (Want (Exit r)) = refl
  pin_opens (Want (Wait r)) = refl
  pin_opens (Want (Op.Notify r)) = refl
  pin_opens (Want (Start r p)) = refl
  pin_opens (Want (Init c)) = refl
  pin_opens next = refl

  to_pin_opens : (next : Next) → opening_of (to_pin th next) ≡ 0
  to_pin_opens next = by_if (λ g. opening_of g ≡ 0) (is_open th) (Fixed (own_pin th)) (behind_pin th next) (λ yes. refl) (λ no. pin_opens next)

  plain_to_pin : {step : Step} {a : StepAnswer} (next : Next) → Leaves step a → Deed th step a (record (view th) { opening = opening_of (to_pin th next) })
  plain_to_pin {step} {a} next leaves = subst (λ o. Deed th step a (record (view th) { opening = o })) (sym (to_pin_opens next)) (plain leaves)

  -- where it goes on undoing it is seen as before
  plain_undoing : {step : Step} {a : StepAnswer} {w : ℕ} → th.attempt ≡ Undoing w → Leaves step a → Deed th step a (view th)
  plain_undoing {step} {a} at leaves = subst (λ o. Deed th step a (record (view th) { opening = o })) (sym (ap opening_of at)) (plain leaves)

  -- what is forgotten isn't seen
  forgets : {step : Step} {a : StepAnswer} (y : ThreadState S) → Deed th step a (view y) → Deed th step a (view (forgotten y))
  forgets {step} {a} y deed = by_if (λ x. Deed th step a (view x)) (is_open y) y (record y { log = []; saved = []; marks = [] }) (λ yes. deed) (λ no. deed)

  loses_on : (step : Step) (v : ℕ) (area : Area) → Deed th step (Lost v) (view (changed code th (lost_on th area)))
  loses_on step v (Section s) = by_if (λ c. Deed th step (Lost v) (view (changed code th c))) (is_own_section th s) _ _ (λ yes. plain (loses step v)) (λ no. plain (loses step v))
  loses_on step v area = plain (loses step v)

  -- ---- moves

  -- the section that a move opens, else 0
  abbrev opened : Move → ℕ
  opened (Make (OpenSection s w)) = s
  opened other = 0

  pinned_opens : (step : Step) → opened (Make step) ≡ 0 → opened (Make (pinned_then th step)) ≡ 0
  pinned_opens step none = by_if (λ x. opened (Make x) ≡ 0) (is_open th) (own_pin th) step (λ yes. refl) (λ no. none)

  first_opens : (op : Op) → opened (Make (first_step code th op)) ≡ 0
  first_opens (Print x) = pinned_opens _ refl
  first_opens (InitDone c ok) = pinned_opens _ refl
  first_opens (End x) = pinned_opens _ refl
  first_opens op = refl

  silent_opens : (step : Step) → opened (Make step) ≡ 0 → opened (silent_move code th step) ≡ 0
  silent_opens step none = by_if (λ x. opened x ≡ 0) (is_open th && leaves_any code th.saved th.local) (Make step) Quiet (λ yes. none) (λ no. refl)

  undo_opens : (s w : ℕ) (log : List Noted) (deepened taken : List Held) → opened (Make (undo_step s w log deepened taken)) ≡ 0
  undo_opens s w (x ∷ log) deepened taken = refl
  undo_opens s w [] (h ∷ deepened) taken = refl
  undo_opens s w [] [] (h ∷ taken) = refl
  undo_opens s w [] [] [] = refl

  move_opens : (next : Next) (g : Attempt) → opened (move_of code th next g) ≡ opening_of g
  move_opens next (Fixed (OpenSection s w)) = refl
  move_opens next (Fixed step) = refl
  move_opens next (Meets s level) = refl
  move_opens next (Undoing w) =
      undo_opens th.section w (noted_since (mark_of th (revoke_of w)).noted th.log) (deepened_since (mark_of th (revoke_of w)) th.held) (from_level (revoke_of w) th.held)
  move_opens next (Full limit) = refl
  move_opens Silent Look = refl
  move_opens (Want op) Look = refl
  move_opens Silent Begin = silent_opens _ refl
  move_opens Silent Checked = silent_opens _ refl
  move_opens (Want op) Begin = by_if (λ x. opened x ≡ 0) (is_open th) (Make _) (Make _) (λ yes. refl) (λ no. first_opens op)
  move_opens (Want op) Checked = first_opens op
  move_opens Ended g = refl

  made : (step : Step) → next_move code b th ≡ Make step → move_of code th (code.next th.local) th.attempt ≡ Make step
  made step makes = makes_it th.over (nat_le b.limits.turns th.counted) _ step makes

  made_opens : (s w : ℕ) → next_move code b th ≡ Make (OpenSection s w) → opening_of th.attempt ≡ s
  made_opens s w makes = sym (move_opens (code.next th.local) th.attempt) ∙ ap opened (made (OpenSection s w) makes)

  -- ---- each row is a deed

  own_live : state_of (own_word th) ≡ 1
  own_live = state_packed 1 th.number th.priority th.pinned th.levels 0 (omega arith)

  own_change : {step : Step} {new : ℕ} → nat_lt 0 th.section ≡ true → place_of step ≡ Section th.section → effect_of step ≡ Exchange (own_word th) new
      → 0 < state_of new → Deed th step StepAnswer.Done (calm (view th))
  own_change some place effect stands = exchanges place effect (of_own refl (above th.section some) own_live stands)

  -- a thread that has levels open has a section
  some_section : nat_eq th.section 0 ≡ nat_eq th.levels 0 → is_open th ≡ true → nat_lt 0 th.section ≡ true
  some_section same unpinned = by_levels (nat_eq th.section 0) refl
    where
      some : (n m : ℕ) → nat_lt m n ≡ true → nat_eq n 0 ≡ true → ⊥
      some n m less none = grind (arith, common_steps, nat_tests)

      not_zero : (n : ℕ) → nat_eq n 0 ≡ false → nat_lt 0 n ≡ true
      not_zero n is = grind (arith, common_steps, nat_tests)

      by_levels : (t : Bool) → nat_eq th.section 0 ≡ t → nat_lt 0 th.section ≡ true
      by_levels true none = absurd (some th.levels th.pinned unpinned (sym same ∙ none))
      by_levels false is = not_zero th.section is

  pins_own : (next : Next) → nat_lt 0 th.section ≡ true → Deed th (own_pin th) StepAnswer.Done (record (view th) { opening = opening_of (behind_pin th next) })
  pins_own next some = subst (λ o. Deed th (own_pin th) StepAnswer.Done (record (view th) { opening = o })) (sym (pin_opens next))
      (own_change some refl refl (pinned_some (own_word th) th.levels own_live))

  deed : {next : Next} {step : Step} {a : StepAnswer} {change : Change} → Row code b th next step a change
      → (nat_eq th.section 0 ≡ nat_eq th.levels 0)
      → ((s w : ℕ) → step ≡ OpenSection s w → opening_of th.attempt ≡ s) → Deed th step a (view (changed code th change))
  deed (is_lost {step = step} {v = v}) same opens = loses_on step v (place_of step)
  deed (own_revoked at looks revoked) same opens = plain (loads _ _ refl tt)
  deed (own_stands {w = w} at looks stands) same opens = forgets (record th { pinned = pinned_of w; attempt = Checked }) (plain (loads _ _ refl tt))
  deed (pins {next = next} unpinned lasts) same opens = forgets (record th { pinned = th.levels; attempt = behind_pin th next }) (pins_own next (some_section same unpinned))
  deed (restores at undoing does) same opens = plain_undoing at (elsewhere _ _ (λ s. refl) refl tt)
  deed (sets_monitor_back at undoing does) same opens = plain_undoing at (elsewhere _ _ (λ s. refl) refl tt)
  deed (gives_monitor_back at undoing does) same opens = plain_undoing at (elsewhere _ _ (λ s. refl) refl tt)
  deed (is_undone {w = w} at undoing does) same opens = forgets
      (without_level (record (stood_at th (revoke_of w)) { section = section_at (revoke_of w - 1) th.section; attempt = Begin }) (revoke_of w))
      (undoes (revoke_of w - 1) (above th.section undoing.section) (undone_some w))
  deed class_found same opens = plain (loads _ _ refl tt)
  deed (word_read safe) same opens = plain (loads _ _ refl tt)
  deed (word_seen safe) same opens = plain (loads _ _ refl tt)
  deed (word_written safe) same opens = plain (elsewhere _ _ (λ s. refl) refl tt)
  deed (is_unsafe accesses unsafe) same opens = plain (loads _ _ refl tt)
  deed (tag_committed at accesses unsafe committed) same opens = plain (loads _ _ refl tt)
  deed (tag_undone at accesses unsafe undone) same opens = plain (loads _ _ refl tt)
  deed (tag_pinned at accesses unsafe live deep) same opens = plain (loads _ _ refl tt)
  deed (tag_live at accesses unsafe live shallow) same opens = plain (loads _ _ refl tt)
  deed (tag_waits at accesses unsafe not_committed not_undone not_live) same opens = plain (loads _ _ refl tt)
  deed (pins_writer {level = level} {w = w} accesses unsafe live shallow) same opens = exchanges refl refl (of_any (pinned_deeper level (state_is Live w live) shallow refl))
  deed (has_room room) same opens = plain (elsewhere _ _ (λ s. refl) refl tt)
  deed (heap_full full) same opens = plain (elsewhere _ _ (λ s. refl) refl tt)
  deed object_made same opens = plain (elsewhere _ _ (λ s. refl) refl tt)
  deed (free_first enters free none) same opens = plain (loads _ _ refl tt)
  deed (section_numbered enters none room) same opens = draws none
  deed (sections_full enters none full) same opens = draws_none
  deed (section_opened enters none some) same opens = opens_section none some (opens _ _ refl)
  deed (free_inside enters free section needs room) same opens = plain (loads _ _ refl tt)
  deed (levels_full enters free section needs full) same opens = plain (loads _ _ refl tt)
  deed (level_opened {next = next} enters some needs room) same opens = forgets (with_level (record th { attempt = Fixed (take_for th next th.section (suc th.levels)) })) (own_change some refl refl (deep_some (own_word th) _ own_live))
  deed (free_more enters free section none) same opens = plain (loads _ _ refl tt)
  deed (monitor_taken enters some) same opens = plain (elsewhere _ _ (λ s. refl) refl tt)
  deed (own_again enters held own room) same opens = plain (loads _ _ refl tt)
  deed (own_full enters held own full) same opens = plain (loads _ _ refl tt)
  deed (entered_again enters calm_there) same opens = plain (elsewhere _ _ (λ s. refl) refl tt)
  deed (held_by_other enters held other) same opens = plain (loads _ _ refl tt)
  deed (holder_lower at enters other revokes) same opens = plain (loads _ _ refl tt)
  deed (holder_busy at enters other busy) same opens = plain (loads _ _ refl tt)
  deed (holder_revoked {level = level} {w = w} enters other revokes) same opens = exchanges refl refl (of_any (by_revoking w level (contended w level th.priority revokes)))
  deed (is_notified notified) same opens = plain (loads _ _ refl tt)
  deed (not_notified waits) same opens = plain (loads _ _ refl tt)
  deed (not_owner needs other) same opens = plain (loads _ _ refl tt)
  deed (exits_inner own deep) same opens = plain (loads _ _ refl tt)
  deed (exits_last own last only) same opens = plain (loads _ _ refl tt)
  deed (exits_level own last more inner) same opens = plain (loads _ _ refl tt)
  deed (exits_one {r = r} own last more outer) same opens = plain_to_pin (Want (Exit r)) (loads _ _ refl tt)
  deed (left_once calm_there) same opens = plain (elsewhere _ _ (λ s. refl) refl tt)
  deed (section_committed some only) same opens = own_change some refl refl (committed_some (own_word th))
  deed (levels_closed {r = r} {depth = depth} closes) same opens = forgets (with_levels (record th { attempt = Fixed (Release r) }) depth) (own_change closes.0 refl refl (deep_some (own_word th) _ own_live))
  deed (monitor_left at more) same opens = plain (elsewhere _ _ (λ s. refl) refl tt)
  deed (section_left at none) same opens = forgets (with_levels (record (answered code th Reply.Done) { held = []; section = 0 }) 0) (closes_section (elsewhere _ _ (λ s. refl) refl tt))
  deed (wait_begins {r = r} own) same opens = plain_to_pin (Want (Wait r)) (loads _ _ refl tt)
  deed (wait_noted shut) same opens = plain (elsewhere _ _ (λ s. refl) refl tt)
  deed (wait_made shut at) same opens = plain (elsewhere _ _ (λ s. refl) refl tt)
  deed (notify_begins {r = r} own) same opens = plain_to_pin (Want (Op.Notify r)) (loads _ _ refl tt)
  deed (waiter_found shut some below waits) same opens = plain (loads _ _ refl tt)
  deed (waiter_passed shut some other more) same opens = plain (loads _ _ refl tt)
  deed (none_waits shut some below other last) same opens = plain (loads _ _ refl tt)
  deed (waiter_woken shut some below waits) same opens = plain (elsewhere _ _ (λ s. refl) refl tt)
  deed (line_printed shut) same opens = plain (elsewhere _ _ (λ s. refl) refl tt)
  deed (start_begins {r = r} {p = p} none) same opens = plain_to_pin (Want (Start r p)) (loads _ _ refl tt)
  deed (was_started some) same opens = plain (loads _ _ refl tt)
  deed (thread_numbered shut room) same opens = plain (elsewhere _ _ (λ s. refl) refl tt)
  deed (threads_full shut full) same opens = plain (elsewhere _ _ (λ s. refl) refl tt)
  deed (is_started shut some below) same opens = plain (elsewhere _ _ (λ s. refl) refl tt)
  deed (handed_out shut some below) same opens = plain (loads _ _ refl tt)
  deed (never_started none) same opens = plain (loads _ _ refl tt)
  deed (join_begins some) same opens = plain (loads _ _ refl tt)
  deed (is_alive alive) same opens = plain (loads _ _ refl tt)
  deed (has_ended over) same opens = plain (loads _ _ refl tt)
  deed (thread_ended shut) same opens = plain (elsewhere _ _ (λ s. refl) refl tt)
  deed (is_ready ready) same opens = plain (loads _ _ refl tt)
  deed (is_bad bad) same opens = plain (loads _ _ refl tt)
  deed (is_unready {c = class} fresh) same opens = plain_to_pin (Want (Init class)) (loads _ _ refl tt)
  deed (is_claimed unready good begun own) same opens = plain (loads _ _ refl tt)
  deed (is_others unready good begun other) same opens = plain (loads _ _ refl tt)
  deed (class_claimed shut) same opens = plain (elsewhere _ _ (λ s. refl) refl tt)
  deed (class_settled shut) same opens = plain (elsewhere _ _ (λ s. refl) refl tt)

-- what is counted isn't seen
counted_view : {S : Type 0} (told : Told) (th : ThreadState S) → view (counted_for told th) ≡ view th
counted_view (advanced None) th = refl
counted_view (advanced (Some reply)) th = refl
counted_view born th = refl
counted_view other th = refl

-- what a thread does with its next step
pub deed_of : {S : Type 0} (code : Code S) (b : Bounds) (th : ThreadState S) (w : Words) (step : Step) (a : StepAnswer)
    → IsFit code th → next_move code b th ≡ Make step → a ≡ answer_of w step → Deed th step a (view (after_answer code b th step a))
deed_of code b th w step a fits makes is =
    let can : CanAnswer (effect_of step) a = subst (CanAnswer (effect_of step)) (sym is) (words_can_answer w step) in
    subst (Deed th step a) (sym (counted_view (told code b th step a) (changed code th (change_of code b th (code.next th.local) step a))))
    (deed code b th (answers_are_rows code b th step a fits.attempt makes can) fits.kept.levels (λ s x opens. made_opens code b th s x (makes ∙ ap Make opens)))

-- ---- what an opening says

pub record Opens {S : Type 0} (th : ThreadState S) (s w : ℕ) : Type 0 where
  pub none_open : nat_eq th.section 0 ≡ true
  pub opening : opening_of th.attempt ≡ s
  pub some : nat_lt 0 s ≡ true
  pub word : w ≡ opening_word th

abbrev DoneAs : {S : Type 0} → ThreadState S → Step → Type 0
DoneAs th (OpenSection s w) = Opens th s w
DoneAs th step = Unit {0}

plain_done : {S : Type 0} (th : ThreadState S) (step : Step) (a : StepAnswer) → OpensNone step a → a ≡ StepAnswer.Done → DoneAs th step
plain_done th (OpenSection s w) (Lost v) none is = cc
plain_done th (OpenSection s w) a none is = absurd none
plain_done th step a none is = tt

exchange_done : {S : Type 0} (th : ThreadState S) (step : Step) (old new : ℕ) → effect_of step ≡ Exchange old new → DoneAs th step
exchange_done th (OpenSection s w) old new effect = cc
exchange_done th step old new effect = tt

done_as : {S : Type 0} {th : ThreadState S} {step : Step} {a : StepAnswer} {v : View} → Deed th step a v → a ≡ StepAnswer.Done → DoneAs th step
done_as {th = th} (plain {step = step} {a = a} leaves) is = plain_done th step a leaves.opens_none is
done_as {th = th} (exchanges {step = step} {old = old} {new = new} place effect change) is = exchange_done th step old new effect
done_as (undoes n some stands) is = tt
done_as (draws none) is = tt
done_as draws_none is = tt
done_as (opens_section none some opening) is = record { none_open = none; opening = opening; some = some; word = refl }
done_as {th = th} (closes_section {step = step} leaves) is = plain_done th step StepAnswer.Done leaves.opens_none is

pub opens_of : {S : Type 0} {th : ThreadState S} {s w : ℕ} {v : View} → Deed th (OpenSection s w) StepAnswer.Done v → Opens th s w
opens_of deed = done_as deed refl
