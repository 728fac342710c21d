-- What an answered turn shows, and what events make of words, monitors and waits.
use Rattle.std.proofs.Common.{◌≡◌, ℕ, zero, suc, Bool, true, false, None, Some, nat_eq, refl, sym, ◌∙◌, ap, subst, arith}
use Rattle.std.specs.Prelude.{if◌then◌else◌}
use Rattle.std.proofs.lemmas.Grind.{common_steps}
use Rattle.std.proofs.lemmas.Bool.Decides.{nat_tests}
use Rattle.op_core.specs.declared.Op.{Op}
use Rattle.op_core.specs.declared.Op.TheVariants.{Read, New, Enter, Exit, Wait, Rewake}
use Rattle.op_core.specs.declared.Reply.{Reply}
use Rattle.op_core.specs.declared.Reply.TheVariants.{Value, Made, NotOwner, Woken}
use Rattle.op_core.specs.declared.Next.{Next}
use Rattle.op_core.specs.declared.Next.TheVariants.{Silent, Want, Ended}
use Rattle.op_core.specs.ThreadCode.{Code}
use Rattle.op_core.specs.OrdinaryState.{set_at, Monitor, held, Waiting, awake, waits, notified, OrdinaryState, View, count_of, saved_count}
use Rattle.op_core.specs.OrdinaryStep.{monitors_after, waiting_after}
use Rattle.op_core.specs.InPlaceList.{Entry, event}
use Rattle.op_core.specs.CleanCut.{CanBeCut, Agrees}
use Rattle.heap_words.specs.Words.{wait_object, wait_state}
use Rattle.monitor_core.specs.Monitors.{monitor_depth}
use Rattle.step_port.specs.declared.answer.StepAnswer.{StepAnswer}
use Rattle.step_port.specs.declared.answer.StepAnswer.TheVariants.{Found, Lost}
use Rattle.step_port.specs.declared.step.Step.{Step}
use Rattle.step_port.specs.declared.step.Step.TheVariants.{RestoreWord, SetDepth, Release, MarkUndone}
use Rattle.thread_automaton.specs.declared.Bounds.{Bounds}
use Rattle.thread_automaton.specs.declared.Attempt.{Attempt}
use Rattle.thread_automaton.specs.declared.Attempt.TheVariants.{Undoing}
use Rattle.thread_automaton.specs.ThreadState.{ThreadState}
use Rattle.thread_automaton.specs.Changes.{Change}
use Rattle.thread_automaton.specs.Answers.{undone_at}
use Rattle.thread_automaton.specs.Monitors.{let_go, depth_set}
use Rattle.thread_automaton.specs.Told.{Told, probed, advanced, born, blocked, shown, told_of, told}
use Rattle.core_runs.specs.Cores.{Core}
use Rattle.core_runs.specs.Entries.{event_told, monitor_shows, StepShows}
use Rattle.core_runs.specs.Reading.{waiting_in}
use Rattle.first_law.specs.SettledRuns.{monitors_by}
use Rattle.written_words.specs.SettledWords.{words_by}
use Rattle.first_law.specs.Agreed.{AgreesOnMonitors}

abbrev pub IsEvent : Entry → Type 0
IsEvent (event t op reply) = Unit {0}
IsEvent entry = ⊥

-- ---- what is reported is shown

abbrev IsSeen : Told → Type 0
IsSeen (advanced (Some reply)) = Unit {0}
IsSeen told = ⊥

event_is : (u : ℕ) (next : Next) (told : Told) (op : Op) (reply : Reply) → next ≡ Want op → told ≡ advanced (Some reply) → event_told u next told ≡ event u op reply
event_is u next told op reply wants so = ap (λ n. event_told u n told) wants ∙ ap (event_told u (Want op)) so

module _ {S : Type 0} (code : Code S) (b : Bounds) (core : Core S) (u : ℕ) (th : ThreadState S) (e : Entry) (op : Op) (reply : Reply) (wants : code.next th.local ≡ Want op) where
  abbrev As : Step → Change → Told
  As step change = told_of (code.next th.local) step StepAnswer.Done change (shown change)

  mark_event : (s w : ℕ) (g : Attempt) → As (MarkUndone s w) (undone_at g) ≡ advanced (Some reply) → e ≡ event u op reply
  mark_event s w (Undoing v) so = absurd (subst IsSeen (sym so) tt)
  mark_event s w g so = absurd (subst IsSeen (sym so) tt)

  release_event : (r : ℕ) (g : Attempt) → e ≡ monitor_shows u g r 0 (event_told u (code.next th.local) (As (Release r) (let_go th (code.next th.local) g r)))
      → As (Release r) (let_go th (code.next th.local) g r) ≡ advanced (Some reply) → e ≡ event u op reply
  release_event r (Undoing w) shows so = absurd (subst IsSeen (sym so) tt)
  release_event r g shows so = shows ∙ event_is u (code.next th.local) (As (Release r) (let_go th (code.next th.local) g r)) op reply wants so

  depth_event : (r new : ℕ) (g : Attempt) → e ≡ monitor_shows u g r (monitor_depth new) (event_told u (code.next th.local) (As (SetDepth r new) (depth_set g r (monitor_depth new))))
      → As (SetDepth r new) (depth_set g r (monitor_depth new)) ≡ advanced (Some reply) → e ≡ event u op reply
  depth_event r new (Undoing w) shows so = absurd (subst IsSeen (sym so) tt)
  depth_event r new g shows so = shows ∙ event_is u (code.next th.local) (As (SetDepth r new) (depth_set g r (monitor_depth new))) op reply wants so

  pub told_shows : (step : Step) (a : StepAnswer) → StepShows code b core u th step a e → told code b th step a ≡ advanced (Some reply) → e ≡ event u op reply
  told_shows (RestoreWord at old) StepAnswer.Done shows so = absurd (subst IsSeen (sym so) tt)
  told_shows (RestoreWord at old) (Found w) shows so = absurd (subst IsSeen (sym so) tt)
  told_shows (RestoreWord at old) (Lost w) shows so = absurd (subst IsSeen (sym so) tt)
  told_shows (MarkUndone s w) StepAnswer.Done shows so = mark_event s w th.attempt so
  told_shows (MarkUndone s w) (Found v) shows so = absurd (subst IsSeen (sym so) tt)
  told_shows (MarkUndone s w) (Lost v) shows so = absurd (subst IsSeen (sym so) tt)
  told_shows (Release r) StepAnswer.Done shows so = release_event r th.attempt shows so
  told_shows (Release r) (Found v) shows so = absurd (subst IsSeen (sym so) tt)
  told_shows (Release r) (Lost v) shows so = absurd (subst IsSeen (sym so) tt)
  told_shows (SetDepth r new) StepAnswer.Done shows so = depth_event r new th.attempt shows so
  told_shows (SetDepth r new) (Found v) shows so = absurd (subst IsSeen (sym so) tt)
  told_shows (SetDepth r new) (Lost v) shows so = absurd (subst IsSeen (sym so) tt)
  told_shows step a shows so = shows ∙ event_is u (code.next th.local) (told code b th step a) op reply wants so

-- ---- turns that are no events

abbrev pub NoEvent : Next → Told → Type 0
NoEvent next told = (op : Op) (reply : Reply) → next ≡ Want op → told ≡ advanced (Some reply) → ⊥

pub words_stay : (next : Next) (told : Told) (old : ℕ → ℕ → ℕ) → NoEvent next told → words_by told next old ≡ old
words_stay Silent (advanced (Some reply)) old none = refl
words_stay Ended (advanced (Some reply)) old none = refl
words_stay (Want op) (advanced (Some reply)) old none = absurd (none op reply refl refl)
words_stay next (advanced None) old none = refl
words_stay next probed old none = refl
words_stay next born old none = refl
words_stay next (Told.lost v) old none = refl
words_stay next (blocked why) old none = refl

pub monitors_stay : (t : ℕ) (next : Next) (told : Told) (depth : ℕ) (old : ℕ → Monitor) → NoEvent next told → monitors_by t told next depth old ≡ old
monitors_stay t Silent (advanced (Some reply)) depth old none = refl
monitors_stay t Ended (advanced (Some reply)) depth old none = refl
monitors_stay t (Want op) (advanced (Some reply)) depth old none = absurd (none op reply refl refl)
monitors_stay t next (advanced None) depth old none = refl
monitors_stay t next probed depth old none = refl
monitors_stay t next born depth old none = refl
monitors_stay t next (Told.lost v) depth old none = refl
monitors_stay t next (blocked why) depth old none = refl

-- ---- what events make

pub monitors_same : (t : ℕ) (op : Op) (reply : Reply) (depth : ℕ) (view : View) → saved_count (view.waiting t) ≡ depth → (r : ℕ)
    → monitors_after t op reply (record { words = λ q i. 0; monitors = view.monitors; waiting = λ u. waits 0 depth }) r ≡ monitors_after t op reply view r
monitors_same t (Rewake q) Reply.Done depth view is r = ap (λ n. set_at view.monitors q (held t n) r) (sym is)
monitors_same t (New c n) (Made q) depth view is r = refl
monitors_same t (Enter q) Reply.Done depth view is r = refl
monitors_same t (Exit q) Reply.Done depth view is r = refl
monitors_same t (Wait q) Reply.Done depth view is r = refl
monitors_same t op reply depth view is r = refl

pub waiting_same : (t : ℕ) (op : Op) (reply : Reply) (view : View) (words : ℕ → ℕ → ℕ) (monitors : ℕ → Monitor) → AgreesOnMonitors view.monitors monitors t op reply
    → waiting_after t op reply view ≡ waiting_after t op reply (record { words = words; monitors = monitors; waiting = view.waiting })
waiting_same t (Wait r) Reply.Done view words monitors on = ap (λ m. set_at view.waiting t (waits r (count_of m))) on
waiting_same t (Rewake r) Reply.Done view words monitors on = refl
waiting_same t (Op.Notify r) (Woken zero) view words monitors on = refl
waiting_same t (Op.Notify r) (Woken (suc n)) view words monitors on = refl
waiting_same t op reply view words monitors on = refl

pub waiting_stays : (t : ℕ) (op : Op) (reply : Reply) (view : View) → CanBeCut op reply → waiting_after t op reply view ≡ view.waiting
waiting_stays t (Wait r) Reply.Done view can = absurd can
waiting_stays t (Rewake r) reply view can = absurd can
waiting_stays t (Op.Notify r) (Woken n) view can = absurd can
waiting_stays t op reply view can = refl

pub agrees_of : {S : Type 0} (s : OrdinaryState S) (view : View) (t : ℕ) (op : Op) (reply : Reply) → AgreesOnMonitors s.monitors view.monitors t op reply
    → ((r i v : ℕ) → op ≡ Read r i → reply ≡ Value v → v ≡ view.words r i) → Agrees s view t op reply
agrees_of s view t (Read r i) (Value v) on reads = reads r i v refl refl
agrees_of s view t (Enter r) Reply.Done on reads = on
agrees_of s view t (Rewake r) Reply.Done on reads = on
agrees_of s view t (Exit r) Reply.Done on reads = on
agrees_of s view t (Wait r) Reply.Done on reads = on
agrees_of s view t (Op.Notify r) (Woken n) on reads = on
agrees_of s view t (Exit r) NotOwner on reads = on
agrees_of s view t (Wait r) NotOwner on reads = on
agrees_of s view t (Op.Notify r) NotOwner on reads = on
agrees_of s view t op reply on reads = tt

pub saved_is : {S : Type 0} (th : ThreadState S) (w : ℕ) → saved_count (waiting_in (Some th) w) ≡ th.depth
saved_is th w = by_depth (nat_eq th.depth 0) refl (nat_eq (wait_state w) 2) refl
  where
    is_zero : (n : ℕ) → nat_eq n 0 ≡ true → 0 ≡ n
    is_zero n is = grind (arith, common_steps, nat_tests)

    by_depth : (z : Bool) → nat_eq th.depth 0 ≡ z → (y : Bool) → nat_eq (wait_state w) 2 ≡ y → saved_count (waiting_in (Some th) w) ≡ th.depth
    by_depth true is y two = ap (λ n. saved_count (if n then awake else (if nat_eq (wait_state w) 2 then notified (wait_object w) th.depth else waits (wait_object w) th.depth))) is ∙ is_zero th.depth is
    by_depth false is true two = ap (λ n. saved_count (if n then awake else (if nat_eq (wait_state w) 2 then notified (wait_object w) th.depth else waits (wait_object w) th.depth))) is
        ∙ ap (λ n. saved_count (if n then notified (wait_object w) th.depth else waits (wait_object w) th.depth)) two
    by_depth false is false two = ap (λ n. saved_count (if n then awake else (if nat_eq (wait_state w) 2 then notified (wait_object w) th.depth else waits (wait_object w) th.depth))) is
        ∙ ap (λ n. saved_count (if n then notified (wait_object w) th.depth else waits (wait_object w) th.depth)) two

abbrev pub view_by : (ℕ → ℕ → ℕ) → (ℕ → Monitor) → (ℕ → Waiting) → View
view_by w m x = record { words = w; monitors = m; waiting = x }

pub view_ext : {w v : ℕ → ℕ → ℕ} {m n : ℕ → Monitor} {x y : ℕ → Waiting} → w ≡ v → m ≡ n → x ≡ y → view_by w m x ≡ view_by v n y
view_ext {w} {v} {m} {n} {x} {y} words monitors waiting = ap (λ a. view_by a m x) words ∙ ap (λ a. view_by v a x) monitors ∙ ap (λ a. view_by v n a) waiting
