-- The silent moves of a thread, and the entry that its step shows.
use Rattle.std.proofs.Common.{◌≡◌, ◌⊎◌, inl, inr, ℕ, ◌-◌, None, Some, [], refl, sym, ◌∙◌, ap, subst}
use Rattle.std.specs.Prelude.{IfSome}
use Rattle.op_core.specs.declared.Op.{Op}
use Rattle.op_core.specs.declared.Op.TheVariants.{Exit, Wait, Start, Init, End}
use Rattle.op_core.specs.declared.Reply.{Reply}
use Rattle.op_core.specs.declared.Next.{Next}
use Rattle.op_core.specs.declared.Next.TheVariants.{Silent, Want, Ended}
use Rattle.op_core.specs.ThreadCode.{Code}
use Rattle.op_core.specs.Replies.{IsEntry, FitsNext}
use Rattle.op_core.specs.InPlaceList.{Entry, event}
use Rattle.heap_words.specs.declared.areas.Area.{Area}
use Rattle.heap_words.specs.declared.areas.Area.TheVariants.{Section}
use Rattle.monitor_core.specs.Monitors.{monitor_depth}
use Rattle.step_port.specs.declared.answer.StepAnswer.{StepAnswer}
use Rattle.step_port.specs.declared.answer.StepAnswer.TheVariants.{Found, Lost}
use Rattle.step_port.specs.declared.step.Step.{Step}
use Rattle.step_port.specs.declared.step.Step.TheVariants.{RestoreWord, SetDepth, Release, MarkUndone, Split, LoadWait}
use Rattle.step_port.specs.declared.step.Effect.{Effect}
use Rattle.step_port.specs.declared.step.Effect.TheVariants.{Load}
use Rattle.step_port.specs.Words.{CanAnswer}
use Rattle.step_port.specs.Steps.{place_of, effect_of}
use Rattle.thread_automaton.specs.declared.Attempt.{Attempt}
use Rattle.thread_automaton.specs.declared.Attempt.TheVariants.{Begin, Look, Fixed, Undoing}
use Rattle.thread_automaton.specs.declared.Bounds.{Bounds}
use Rattle.thread_automaton.specs.ThreadState.{ThreadState, is_open, is_own_section, mark_of}
use Rattle.thread_automaton.specs.Changes.{Change, goes, has_to_wait, replies, writes, takes, deepens, drops, waits, prints, ends, sees_pinned, opens_level, closes_to, closes, goes_back, forgotten, with_level, with_levels, without_level, stood_at, section_at, answered, changed}
use Rattle.thread_automaton.specs.Answers.{change_of, lost_on, undone_at}
use Rattle.thread_automaton.specs.Monitors.{let_go, depth_set}
use Rattle.thread_automaton.specs.Told.{Told, probed, advanced, born, blocked, shown, told_by, told_unseen, told_of, told, counted_for}
use Rattle.thread_automaton.specs.declared.Move.TheVariants.{Make}
use Rattle.thread_automaton.specs.NextMove.{next_move}
use Rattle.section_state.specs.SectionWord.{undone_of}
use Rattle.automaton_rows.specs.Fits.{AttemptFits}
use Rattle.automaton_rows.specs.Laws.{reply_of}
use Rattle.automaton_rows.specs.Rows.{Row, IsAccess, is_lost, is_undone, is_started, is_unsafe, free_more, own_again, exits_inner, exits_one, wait_begins, notify_begins, start_begins, is_unready, thread_ended}
use Rattle.automaton_rows.proofs.ReplyLemmas.{replies_fit}
use Rattle.automaton_rows.proofs.RowLemmas.{by_if, answers_are_rows}
use Rattle.core_runs.specs.Cores.{Core}
use Rattle.core_runs.specs.Entries.{event_told, monitor_shows, StepShows}
use Rattle.first_law.proofs.EntryLemmas.{NoReply}

-- ---- silent moves

pub silents_stay : {S : Type 0} (tells : Told) (y : ThreadState S) → NoReply tells → (counted_for tells y).silents ≡ y.silents
silents_stay probed y none = refl
silents_stay (advanced None) y none = refl
silents_stay (advanced (Some reply)) y none = absurd none
silents_stay born y none = refl
silents_stay (Told.lost v) y none = refl
silents_stay (blocked why) y none = refl

pub silents_end : {S : Type 0} (tells : Told) (reply : Reply) (y : ThreadState S) → tells ≡ advanced (Some reply) → (counted_for tells y).silents ≡ 0
silents_end tells reply y is = ap (λ m. (counted_for m y).silents) is

module _ {S : Type 0} (code : Code S) (th : ThreadState S) where
  forgetting : (y : ThreadState S) → (forgotten y).silents ≡ y.silents
  forgetting y = by_if (λ z. z.silents ≡ y.silents) (is_open y) y (record y { log = []; saved = []; marks = [] }) (λ _. refl) (λ _. refl)

  pub change_stays : (change : Change) → ((n : ℕ) → change ≡ goes_back n → ⊥) → (changed code th change).silents ≡ th.silents
  change_stays (sees_pinned depth attempt) other = forgetting (record th { pinned = depth; attempt = attempt })
  change_stays (opens_level attempt) other = forgetting (with_level (record th { attempt = attempt }))
  change_stays (closes_to n attempt) other = forgetting (with_levels (record th { attempt = attempt }) n)
  change_stays closes other = forgetting (with_levels (record (answered code th Reply.Done) { held = []; section = 0 }) 0)
  change_stays (goes_back n) other = absurd (other n refl)
  change_stays change other = refl

  pub change_back : (n : ℕ) → (changed code th (goes_back n)).silents ≡ (mark_of th n).silents
  change_back n = forgetting (without_level (record (stood_at th n) { section = section_at (n - 1) th.section; attempt = Begin }) n)

-- ---- replies and entries

module _ {S : Type 0} (code : Code S) (b : Bounds) (core : Core S) (t : ℕ) (th : ThreadState S) where
  no_reply : {A : Type 0} (tells : Told) (reply : Reply) → NoReply tells → tells ≡ advanced (Some reply) → A
  no_reply tells reply none is = absurd (subst NoReply is none)

  pub restores_none : (next : Next) (at old : ℕ) (a : StepAnswer)
      → NoReply (told_of next (RestoreWord at old) a (change_of code b th next (RestoreWord at old) a) (shown (change_of code b th next (RestoreWord at old) a)))
  restores_none next at old StepAnswer.Done = tt
  restores_none next at old (Found w) = tt
  restores_none next at old (Lost v) = tt

  undone_none : (next : Next) (s w : ℕ) (g : Attempt) → NoReply (told_of next (MarkUndone s w) StepAnswer.Done (undone_at g) (shown (undone_at g)))
  undone_none next s w (Undoing v) = tt
  undone_none next s w g = tt

  pub marks_none : (next : Next) (s w : ℕ) (a : StepAnswer)
      → NoReply (told_of next (MarkUndone s w) a (change_of code b th next (MarkUndone s w) a) (shown (change_of code b th next (MarkUndone s w) a)))
  marks_none next s w StepAnswer.Done = undone_none next s w th.attempt
  marks_none next s w (Found v) = tt
  marks_none next s w (Lost v) = tt

  releases_none : (next : Next) (r w : ℕ) (a : StepAnswer) → th.attempt ≡ Undoing w
      → NoReply (told_of next (Release r) a (change_of code b th next (Release r) a) (shown (change_of code b th next (Release r) a)))
  releases_none next r w StepAnswer.Done undoing = subst (λ g. NoReply (told_of next (Release r) StepAnswer.Done (let_go th next g r) (shown (let_go th next g r)))) (sym undoing) tt
  releases_none next r w (Found v) undoing = tt
  releases_none next r w (Lost v) undoing = tt

  sets_none : (next : Next) (r new w : ℕ) (a : StepAnswer) → th.attempt ≡ Undoing w
      → NoReply (told_of next (SetDepth r new) a (change_of code b th next (SetDepth r new) a) (shown (change_of code b th next (SetDepth r new) a)))
  sets_none next r new w StepAnswer.Done undoing =
      subst (λ g. NoReply (told_of next (SetDepth r new) StepAnswer.Done (depth_set g r (monitor_depth new)) (shown (depth_set g r (monitor_depth new))))) (sym undoing) tt
  sets_none next r new w (Found v) undoing = tt
  sets_none next r new w (Lost v) undoing = tt

  -- a monitor shows what is reported, if the thread isn't undoing
  monitor_told : (g : Attempt) (r n : ℕ) (e x : Entry) → th.attempt ≡ g → e ≡ monitor_shows t g r n x → ((w : ℕ) → g ≡ Undoing w → ⊥) → e ≡ x
  monitor_told (Undoing w) r n e x is shows other = absurd (other w refl)
  monitor_told g r n e x is shows other = shows

  shows_told : (step : Step) (a : StepAnswer) (e : Entry) (reply : Reply) → StepShows code b core t th step a e → told code b th step a ≡ advanced (Some reply) → e ≡ event_told t (code.next th.local) (told code b th step a)
  shows_told (RestoreWord at old) a e reply shows is = no_reply (told code b th (RestoreWord at old) a) reply (restores_none (code.next th.local) at old a) is
  shows_told (MarkUndone s w) a e reply shows is = no_reply (told code b th (MarkUndone s w) a) reply (marks_none (code.next th.local) s w a) is
  shows_told (Release r) a e reply shows is = monitor_told th.attempt r 0 e (event_told t (code.next th.local) (told code b th (Release r) a)) refl shows
      (λ w undoing. no_reply (told code b th (Release r) a) reply (releases_none (code.next th.local) r w a undoing) is)
  shows_told (SetDepth r new) a e reply shows is = monitor_told th.attempt r (monitor_depth new) e (event_told t (code.next th.local) (told code b th (SetDepth r new) a)) refl shows
      (λ w undoing. no_reply (told code b th (SetDepth r new) a) reply (sets_none (code.next th.local) r new w a undoing) is)
  shows_told step a e reply shows is = shows

-- ---- what the code wants when others see a reply

abbrev pub IsWanted : Next → Type 0
IsWanted next = (op : Op) × (next ≡ Want op)

entry_wanted : (next : Next) → IsEntry next → IsWanted next
entry_wanted (Want op) enters = (op, refl)
entry_wanted Silent enters = absurd enters
entry_wanted Ended enters = absurd enters

access_wanted : (next : Next) → IsAccess next → IsWanted next
access_wanted (Want op) access = (op, refl)
access_wanted Silent access = absurd access
access_wanted Ended access = absurd access

fit_wanted : (next : Next) (reply : Reply) → FitsNext next reply → IsWanted next
fit_wanted (Want op) reply fits = (op, refl)
fit_wanted Silent reply fits = absurd fits
fit_wanted Ended reply fits = absurd fits

by_none : (step : Step) (effect : Effect) (next : Next) → NoReply (told_by step effect next)
by_none (LoadWait n) effect (Want (Op.Notify r)) = tt
by_none step Load next = tt
by_none step effect next = tt

unseen_none : (next : Next) (step : Step) (change : Change) → NoReply (told_unseen next step change)
unseen_none next step (has_to_wait why) = tt
unseen_none next step change = by_none step (effect_of step) next

none_told : (next : Next) (step : Step) (a : StepAnswer) (change : Change) → NoReply (told_of next step a change None)
none_told next step (Lost v) change = tt
none_told next (Split n r p) a change = tt
none_told next step a change = unseen_none next step change

module _ {S : Type 0} (code : Code S) (b : Bounds) (th : ThreadState S) where
  -- a thread is started only where its parent wants that
  split_wanted : {next : Next} {step : Step} {a : StepAnswer} {change : Change} → Row code b th next step a change → (n r p : ℕ) → change ≡ goes (Fixed (Split n r p)) → IsWanted next
  split_wanted (is_lost {step = step}) n r p same = absurd (by_area (place_of step) same)
    where
      by_area : (area : Area) → lost_on th area ≡ goes (Fixed (Split n r p)) → ⊥
      by_area (Section s) same = by_if (λ change. change ≡ goes (Fixed (Split n r p)) → ⊥) (is_own_section th s) (goes Look) (goes Begin) (λ own is. cc) (λ other is. cc) same
      by_area area same = cc
  split_wanted (is_started shut some low) n r p same = (Start _ _, refl)
  split_wanted (is_unsafe {next = next} access unsafe) n r p same = access_wanted next access
  split_wanted (free_more {next = next} enters zero_is none needs) n r p same = entry_wanted next enters
  split_wanted (own_again {next = next} enters some own deep) n r p same = entry_wanted next enters
  split_wanted (exits_inner own deep) n r p same = (Exit _, refl)
  split_wanted (exits_one own last more outer) n r p same = (Exit _, refl)
  split_wanted (wait_begins own) n r p same = (Wait _, refl)
  split_wanted (notify_begins own) n r p same = (Op.Notify _, refl)
  split_wanted (start_begins none) n r p same = (Start _ _, refl)
  split_wanted (is_unready fresh) n r p same = (Init _, refl)
  split_wanted row n r p same = cc

  -- and one ends only where it wants that
  end_wanted : {next : Next} {step : Step} {a : StepAnswer} {change : Change} → Row code b th next step a change → change ≡ ends → IsWanted next
  end_wanted (thread_ended {x = x} shut) same = (End x, refl)
  end_wanted (is_lost {step = step}) same = absurd (by_area (place_of step) same)
    where
      by_area : (area : Area) → lost_on th area ≡ ends → ⊥
      by_area (Section s) same = by_if (λ change. change ≡ ends → ⊥) (is_own_section th s) (goes Look) (goes Begin) (λ own is. cc) (λ other is. cc) same
      by_area area same = cc
  end_wanted row same = cc

  -- a section is undone only by marking it so
  pub marks_step : {next : Next} {step : Step} {a : StepAnswer} {change : Change} → Row code b th next step a change → (n : ℕ) → change ≡ goes_back n
      → (s w : ℕ) × (step ≡ MarkUndone s w)
  marks_step (is_undone {w = w} at undo does) n same = (th.section, undone_of w, refl)
  marks_step (is_lost {step = step}) n same = absurd (by_area (place_of step) same)
    where
      by_area : (area : Area) → lost_on th area ≡ goes_back n → ⊥
      by_area (Section s) same = by_if (λ change. change ≡ goes_back n → ⊥) (is_own_section th s) (goes Look) (goes Begin) (λ own is. cc) (λ other is. cc) same
      by_area area same = cc
  marks_step row n same = cc

  fixed_wanted : (next : Next) (step made : Step) (a : StepAnswer) → ((n r p : ℕ) → made ≡ Split n r p → IsWanted next) → NoReply (told_of next step a (goes (Fixed made)) (shown (goes (Fixed made)))) ⊎ IsWanted next
  fixed_wanted next step (Split n r p) a split = inr (split n r p refl)
  fixed_wanted next step made a split = inl (none_told next step a (goes (Fixed made)))

  goes_wanted : (next : Next) (step : Step) (a : StepAnswer) (attempt : Attempt) → ((n r p : ℕ) → attempt ≡ Fixed (Split n r p) → IsWanted next) → NoReply (told_of next step a (goes attempt) (shown (goes attempt))) ⊎ IsWanted next
  goes_wanted next step a (Fixed made) split = fixed_wanted next step made a (λ n r p is. split n r p (ap Fixed is))
  goes_wanted next step a attempt split = inl (none_told next step a (goes attempt))

  wanted_by : (next : Next) (step : Step) (a : StepAnswer) (change : Change) → IfSome (reply_of change) (FitsNext next) → ((n r p : ℕ) → change ≡ goes (Fixed (Split n r p)) → IsWanted next)
      → (change ≡ ends → IsWanted next) → NoReply (told_of next step a change (shown change)) ⊎ IsWanted next
  wanted_by next step a (goes attempt) fits split end_wanted = goes_wanted next step a attempt (λ n r p is. split n r p (ap goes is))
  wanted_by next step a (replies reply) fits split end_wanted = inr (fit_wanted next reply fits)
  wanted_by next step a (writes log) fits split end_wanted = inr (fit_wanted next Reply.Done fits)
  wanted_by next step a (takes h) fits split end_wanted = inr (fit_wanted next Reply.Done fits)
  wanted_by next step a (deepens r depth) fits split end_wanted = inr (fit_wanted next Reply.Done fits)
  wanted_by next step a (drops held) fits split end_wanted = inr (fit_wanted next Reply.Done fits)
  wanted_by next step a closes fits split end_wanted = inr (fit_wanted next Reply.Done fits)
  wanted_by next step a (waits r) fits split end_wanted = inr (fit_wanted next Reply.Done fits)
  wanted_by next step a (prints ticket line) fits split end_wanted = inr (fit_wanted next Reply.Done fits)
  wanted_by next step a ends fits split end_wanted = inr (end_wanted refl)
  wanted_by next step a change fits split end_wanted = inl (none_told next step a change)

-- so the code wants an operation where others see a reply
pub reply_wanted : {S : Type 0} (code : Code S) (b : Bounds) (th : ThreadState S) (step : Step) (a : StepAnswer) (reply : Reply)
    → AttemptFits th (code.next th.local) th.attempt → next_move code b th ≡ Make step → CanAnswer (effect_of step) a → told code b th step a ≡ advanced (Some reply) → IsWanted (code.next th.local)
reply_wanted code b th step a reply fits makes can is =
    elim (wanted_by code b th (code.next th.local) step a (change_of code b th (code.next th.local) step a) (replies_fit code b th step a fits makes can) (split_wanted code b th row) (end_wanted code b th row)) [
      | inl none ↦ absurd (subst NoReply is none)
      | inr wanted ↦ wanted
    ]
  where
    row : Row code b th (code.next th.local) step a (change_of code b th (code.next th.local) step a)
    row = answers_are_rows code b th step a fits makes can

-- an event is shown where others see a reply
pub event_shown : {S : Type 0} (code : Code S) (b : Bounds) (core : Core S) (t : ℕ) (th : ThreadState S) (step : Step) (a : StepAnswer) (e : Entry) (reply : Reply)
    → AttemptFits th (code.next th.local) th.attempt → next_move code b th ≡ Make step → CanAnswer (effect_of step) a
    → StepShows code b core t th step a e → told code b th step a ≡ advanced (Some reply) → (op : Op) × (e ≡ event t op reply)
event_shown code b core t th step a e reply fits makes can shows is =
    let wanted = reply_wanted code b th step a reply fits makes can is in (
      wanted.0,
      shows_told code b core t th step a e reply shows is ∙ ap (λ n. event_told t n (told code b th step a)) wanted.1 ∙ ap (event_told t (Want wanted.0)) is,
    )
