-- What can't be put back is made where no level is open that isn't pinned.
use Rattle.std.proofs.Common.{◌≡◌, ℕ, ◌-◌, ◌<◌, ◌≤◌, Bool, true, false, true≢false, Option, None, Some, List, length, refl, sym, ◌∙◌, ap, subst, arith}
use Rattle.std.specs.Prelude.{nat_lt, slice_get}
use Rattle.std.proofs.lemmas.Grind.{common_steps}
use Rattle.std.proofs.lemmas.Bool.Decides.{nat_tests}
use Rattle.std.proofs.lemmas.Option.{same_Some, slice_get_within}
use Rattle.op_core.specs.declared.Op.{Op}
use Rattle.op_core.specs.declared.Op.TheVariants.{Enter, Exit, Wait, Rewake, Print, Start, Init, InitDone, End}
use Rattle.op_core.specs.declared.Reply.{Reply}
use Rattle.op_core.specs.declared.Reply.TheVariants.{NotOwner, Woken, Number, Claimed}
use Rattle.op_core.specs.declared.Next.{Next}
use Rattle.op_core.specs.declared.Next.TheVariants.{Silent, Want, Ended}
use Rattle.op_core.specs.ThreadCode.{Code}
use Rattle.op_core.specs.Orderly.{IsRewake}
use Rattle.op_core.specs.InPlaceList.{Entry, event}
use Rattle.op_core.specs.CleanCut.{CanBeCut}
use Rattle.section_state.specs.SectionWord.{revoke_of}
use Rattle.monitor_core.specs.Monitors.{monitor_depth}
use Rattle.step_port.specs.declared.answer.StepAnswer.{StepAnswer}
use Rattle.step_port.specs.declared.answer.StepAnswer.TheVariants.{Found}
use Rattle.step_port.specs.declared.step.ThreadWord.{ThreadWord}
use Rattle.step_port.specs.declared.step.Step.{Step}
use Rattle.step_port.specs.declared.step.Step.TheVariants.{RestoreWord, LoadMonitor, SetDepth, Release, MarkUndone, LoadThread, LoadClass}
use Rattle.step_port.specs.Steps.{effect_of}
use Rattle.step_port.specs.Words.{CanAnswer}
use Rattle.thread_automaton.specs.declared.Bounds.{Bounds}
use Rattle.thread_automaton.specs.declared.Attempt.{Attempt}
use Rattle.thread_automaton.specs.declared.Attempt.TheVariants.{Fixed, Undoing}
use Rattle.thread_automaton.specs.ThreadState.{ThreadState, is_open}
use Rattle.thread_automaton.specs.NextMove.{own_pin}
use Rattle.thread_automaton.specs.Monitors.{take_for, entry, monitor_wanted}
use Rattle.thread_automaton.specs.Changes.{Change, goes, takes, deepens}
use Rattle.thread_automaton.specs.Checks.{behind_pin, to_pin}
use Rattle.thread_automaton.specs.Told.{Told, probed, advanced, born, blocked, shown, told_of, told}
use Rattle.automaton_rows.specs.Rows.{Row, NeedsOwner, is_lost, monitor_taken, entered_again, not_owner, exits_one, wait_begins, wait_made, notify_begins, none_waits, waiter_woken, line_printed, start_begins, is_started, thread_ended, is_unready, class_claimed, class_settled}
use Rattle.op_core.specs.Replies.{IsEntry}
use Rattle.automaton_rows.proofs.RowLemmas.{answers_are_rows, words_can_answer, by_if}
use Rattle.core_runs.specs.Cores.{Core}
use Rattle.core_runs.specs.Acts.{Act, quiet, did, beside, DidAt, mover}
use Rattle.core_runs.specs.Entries.{event_told, go_back_to, back_to, monitor_shows, StepShows, Shows}
use Rattle.section_laws.specs.Settled.{to_undo}
use Rattle.section_laws.proofs.RunLemmas.{act_at, facts_at}
use Rattle.section_laws.proofs.held_levels.StandLemmas.{rewakes_are_in_levels}
use Rattle.first_law.proofs.settled_monitors.DoomedLemmas.{doomed_open}
use Rattle.first_law.specs.Cuts.{is_cut_by}
use Rattle.first_law.proofs.doomed_cuts.CutLemmas.{some_is}
use Rattle.core_law.specs.CleanCuts.{IsShownRun, CutIsAllowed}
use Rattle.core_law.proofs.third_law.EntryLemmas.{shown_at}

-- ---- what an event was

-- thread u was answered this as thread t
pub record IsTold (u t : ℕ) (next : Next) (told : Told) (op : Op) (reply : Reply) : Type 0 where
  pub own : u ≡ t
  pub wants : next ≡ Want op
  pub so : told ≡ advanced (Some reply)

abbrev IsEvent : Entry → Type 0
IsEvent (event t op reply) = Unit {0}
IsEvent entry = ⊥

abbrev thread_of : Entry → ℕ
thread_of (event t op reply) = t
thread_of entry = 0

abbrev op_of : Op → Entry → Op
op_of other (event t op reply) = op
op_of other entry = other

abbrev reply_of : Reply → Entry → Reply
reply_of other (event t op reply) = reply
reply_of other entry = other

told_event : (u t : ℕ) (next : Next) (told : Told) (op : Op) (reply : Reply) → event t op reply ≡ event_told u next told → IsTold u t next told op reply
told_event u t Silent told op reply is = absurd (subst IsEvent is tt)
told_event u t Ended told op reply is = absurd (subst IsEvent is tt)
told_event u t (Want wanted) probed op reply is = absurd (subst IsEvent is tt)
told_event u t (Want wanted) (advanced None) op reply is = absurd (subst IsEvent is tt)
told_event u t (Want wanted) (advanced (Some r)) op reply is =
    record { own = ap thread_of (sym is); wants = ap (λ e. Want (op_of op e)) (sym is); so = ap (λ e. advanced (Some (reply_of reply e))) (sym is) }
told_event u t (Want wanted) born op reply is = absurd (subst IsEvent is tt)
told_event u t (Want wanted) (Told.lost v) op reply is = absurd (subst IsEvent is tt)
told_event u t (Want wanted) (blocked why) op reply is = absurd (subst IsEvent is tt)

monitor_event : (u t : ℕ) (g : Attempt) (r count : ℕ) (e : Entry) (op : Op) (reply : Reply) → event t op reply ≡ monitor_shows u g r count e → event t op reply ≡ e
monitor_event u t (Undoing w) r count e op reply is = absurd (subst IsEvent is tt)
monitor_event u t g r count e op reply is = is

back_is_none : (u : ℕ) (g : Attempt) (levels : List ℕ) → IsEvent (back_to u g levels) → ⊥
back_is_none u (Undoing w) levels is = by_place (slice_get levels (length levels - revoke_of w)) is
  where
    by_place : (o : Option ℕ) → IsEvent (go_back_to u o) → ⊥
    by_place None is = is
    by_place (Some p) is = is
back_is_none u g levels is = is

-- each event is what the thread's turn reports
pub event_is_told : {S : Type 0} (code : Code S) (b : Bounds) (core : Core S) (u t : ℕ) (th : ThreadState S) (op : Op) (reply : Reply) (step : Step) (a : StepAnswer)
    → StepShows code b core u th step a (event t op reply) → IsTold u t (code.next th.local) (told code b th step a) op reply
event_is_told code b core u t th op reply (RestoreWord at old) a (r, i, there, place, is) = absurd (subst IsEvent is tt)
event_is_told code b core u t th op reply (Release r) a is =
    told_event u t (code.next th.local) (told code b th (Release r) a) op reply (monitor_event u t th.attempt r 0 (event_told u (code.next th.local) (told code b th (Release r) a)) op reply is)
event_is_told code b core u t th op reply (SetDepth r new) a is =
    told_event u t (code.next th.local) (told code b th (SetDepth r new) a) op reply
    (monitor_event u t th.attempt r (monitor_depth new) (event_told u (code.next th.local) (told code b th (SetDepth r new) a)) op reply is)
event_is_told code b core u t th op reply (MarkUndone s w) a is = absurd (back_is_none u th.attempt (core.levels u) (subst IsEvent is tt))
event_is_told code b core u t th op reply step a is = told_event u t (code.next th.local) (told code b th step a) op reply is

-- ---- which events are made only where no level is open that isn't pinned

abbrev IsShut : {S : Type 0} → ThreadState S → Op → Reply → Type 0
IsShut th (Wait r) Reply.Done = is_open th ≡ false
IsShut th (Rewake r) reply = is_open th ≡ false
IsShut th (Op.Notify r) (Woken n) = is_open th ≡ false
IsShut th (Print x) reply = is_open th ≡ false
IsShut th (Start r p) (Number n) = is_open th ≡ false
IsShut th (Init c) Claimed = is_open th ≡ false
IsShut th (InitDone c ok) reply = is_open th ≡ false
IsShut th (End x) reply = is_open th ≡ false
IsShut th op reply = Unit {0}

no_shut : {A : Type 0} (z : Bool) → z ≡ true → z ≡ false → A
no_shut z open_so shut = absurd (true≢false (sym open_so ∙ shut))

open_can : {S : Type 0} (th : ThreadState S) (op : Op) (reply : Reply) → is_open th ≡ true → IsShut th op reply → CanBeCut op reply
open_can th (Wait r) Reply.Done open_so shut = no_shut (is_open th) open_so shut
open_can th (Rewake r) reply open_so shut = no_shut (is_open th) open_so shut
open_can th (Op.Notify r) (Woken n) open_so shut = no_shut (is_open th) open_so shut
open_can th (Print x) reply open_so shut = no_shut (is_open th) open_so shut
open_can th (Start r p) (Number n) open_so shut = no_shut (is_open th) open_so shut
open_can th (Init c) Claimed open_so shut = no_shut (is_open th) open_so shut
open_can th (InitDone c ok) reply open_so shut = no_shut (is_open th) open_so shut
open_can th (End x) reply open_so shut = no_shut (is_open th) open_so shut
open_can th op reply open_so shut = tt

abbrev ToldIsShut : {S : Type 0} → ThreadState S → Told → Next → Type 0
ToldIsShut th (advanced (Some reply)) (Want op) = IsShut th op reply
ToldIsShut th told next = Unit {0}

module _ {S : Type 0} (code : Code S) (b : Bounds) (th : ThreadState S) where
  abbrev Shut : Next → Step → StepAnswer → Change → Type 0
  Shut next step a change = ToldIsShut th (told_of next step a change (shown change)) next

  pin_shut : (next : Next) (r m : ℕ) → Shut next (LoadMonitor r) (Found m) (goes (to_pin th next))
  pin_shut next r m = by_if (λ g. Shut next (LoadMonitor r) (Found m) (goes g)) (is_open th) (Fixed (own_pin th)) (behind_pin th next) (λ open_so. tt) (λ shut. behind next)
    where
      behind : (next : Next) → Shut next (LoadMonitor r) (Found m) (goes (behind_pin th next))
      behind (Want (Exit q)) = tt
      behind (Want (Wait q)) = tt
      behind (Want (Op.Notify q)) = tt
      behind (Want (Start q p)) = tt
      behind (Want (Init c)) = tt
      behind next = tt

  takes_shut : (next : Next) → IsEntry next → (IsRewake next → is_open th ≡ false) → Shut next (take_for th next th.section th.levels) StepAnswer.Done (takes (entry th next th.levels))
  takes_shut (Want (Enter r)) enters rewakes = tt
  takes_shut (Want (Rewake r)) enters rewakes = rewakes tt
  takes_shut next enters rewakes = absurd enters

  again_shut : (next : Next) (new : ℕ) → IsEntry next → (IsRewake next → is_open th ≡ false) → Shut next (SetDepth (monitor_wanted next) new) StepAnswer.Done (deepens (monitor_wanted next) (monitor_depth new))
  again_shut (Want (Enter r)) new enters rewakes = tt
  again_shut (Want (Rewake r)) new enters rewakes = rewakes tt
  again_shut next new enters rewakes = absurd enters

  lacks_shut : (next : Next) (r : ℕ) → NeedsOwner next r → ToldIsShut th (advanced (Some NotOwner)) next
  lacks_shut (Want (Exit q)) r needs = tt
  lacks_shut (Want (Wait q)) r needs = tt
  lacks_shut (Want (Op.Notify q)) r needs = tt
  lacks_shut next r needs = absurd needs

  is_shut : {next : Next} {step : Step} {a : StepAnswer} {change : Change} → Row code b th next step a change → (IsRewake next → is_open th ≡ false) → Shut next step a change
  is_shut (is_lost {step = step} {v = v}) rewakes = tt
  is_shut (monitor_taken {next = next} enters some) rewakes = takes_shut next enters rewakes
  is_shut (entered_again {next = next} {new = new} enters calm_row) rewakes = again_shut next new enters rewakes
  is_shut (not_owner {next = next} {r = r} needs other) rewakes = lacks_shut next r needs
  is_shut (exits_one {r = r} {m = m} own last more outer) rewakes = pin_shut (Want (Exit r)) r m
  is_shut (wait_begins {r = r} {m = m} own) rewakes = pin_shut (Want (Wait r)) r m
  is_shut (wait_made shut at) rewakes = shut
  is_shut (notify_begins {r = r} {m = m} own) rewakes = pin_shut (Want (Op.Notify r)) r m
  is_shut (none_waits shut some low other last) rewakes = shut
  is_shut (waiter_woken shut some low waiting) rewakes = shut
  is_shut (line_printed shut) rewakes = shut
  is_shut (start_begins {r = r} {p = p} {w = w} none) rewakes = start_shut r p w
    where
      start_shut : (r p w : ℕ) → Shut (Want (Start r p)) (LoadThread (ThreadWord.Start r)) (Found w) (goes (to_pin th (Want (Start r p))))
      start_shut r p w = by_if (λ g. Shut (Want (Start r p)) (LoadThread (ThreadWord.Start r)) (Found w) (goes g)) (is_open th) (Fixed (own_pin th)) (behind_pin th (Want (Start r p))) (λ open_so. tt) (λ shut. tt)
  is_shut (is_started shut some low) rewakes = shut
  is_shut (thread_ended shut) rewakes = shut
  is_shut (is_unready {c = c} {w = w} fresh) rewakes = init_shut c w
    where
      init_shut : (c w : ℕ) → Shut (Want (Init c)) (LoadClass c) (Found w) (goes (to_pin th (Want (Init c))))
      init_shut c w = by_if (λ g. Shut (Want (Init c)) (LoadClass c) (Found w) (goes g)) (is_open th) (Fixed (own_pin th)) (behind_pin th (Want (Init c))) (λ open_so. tt) (λ shut. tt)
  is_shut (class_claimed shut) rewakes = shut
  is_shut (class_settled shut) rewakes = shut
  is_shut row rewakes = tt

-- ---- along a run

module _ {S : Type 0} (code : Code S) (b : Bounds) (first : S) (classes : ℕ) (c : ℕ → Core S) (acts : List Act) (es : List Entry) (doomed : ℕ → Bool)
    (shown_run : IsShownRun code b first classes c acts es doomed) (i t : ℕ) (op : Op) (reply : Reply) where
  did_allowed : (u : ℕ) (step : Step) (a : StepAnswer) → slice_get acts i ≡ Some (did u step a) → Shows code b (c i) (did u step a) (event t op reply) → is_cut_by doomed c acts i ≡ true → CanBeCut op reply
  did_allowed u step a here shows cut = open_can shows.0 op reply open_so shut_so
    where
      within : i < length acts
      within = slice_get_within acts i (did u step a) here

      low : i ≤ length acts
      low = let is = within in omega (arith, is)

      is : IsTold u t (code.next shows.0.local) (told code b shows.0 step a) op reply
      is = event_is_told code b (c i) u t shows.0 op reply step a shows.2

      at : DidAt code b c i u step a
      at = act_at code b c acts i (did u step a) shown_run.levelled.ordered.run.leads here

      same : at.from ≡ shows.0
      same = same_Some at.from shows.0 (sym at.stands ∙ shows.1)

      is_less : (m n : ℕ) → m ≤ n → nat_lt n m ≡ false
      is_less m n low = grind (arith, common_steps, nat_tests)

      rewakes : (next : Next) → code.next shows.0.local ≡ next → IsRewake next → is_open shows.0 ≡ false
      rewakes (Want (Rewake r)) wants rewake = is_less shows.0.levels shows.0.pinned (rewakes_are_in_levels code b first classes c acts shown_run.levelled.ordered i u r shows.0 low shows.1 wants).pinned
      rewakes next wants rewake = absurd rewake

      all : ToldIsShut shows.0 (told code b shows.0 step a) (code.next shows.0.local)
      all = subst (λ (x : ThreadState S). (IsRewake (code.next x.local) → is_open x ≡ false) → ToldIsShut x (told code b x step a) (code.next x.local)) same
          (is_shut code b at.from (answers_are_rows code b at.from step a ((facts_at code b c acts shown_run.levelled.ordered.run i low).fit u at.from at.stands).attempt at.move
          (subst (CanAnswer (effect_of step)) (sym at.answered) (words_can_answer (c i).words step)))) (rewakes (code.next shows.0.local) refl)

      shut_so : IsShut shows.0 op reply
      shut_so = subst (λ m. ToldIsShut shows.0 m (Want op)) is.so (subst (ToldIsShut shows.0 (told code b shows.0 step a)) is.wants all)

      open_so : is_open shows.0 ≡ true
      open_so = doomed_open code b first classes c acts shown_run.levelled doomed shown_run.tells i u shows.0 low shows.1
          (some_is (to_undo doomed ((c i).levels u)) (sym (ap (λ o. nat_lt 0 (to_undo doomed ((c i).levels (mover o)))) here) ∙ cut))

  allowed_here : (x : Act) → slice_get acts i ≡ Some x → Shows code b (c i) x (event t op reply) → is_cut_by doomed c acts i ≡ true → CanBeCut op reply
  allowed_here (quiet u) here shows cut = absurd (subst IsEvent shows tt)
  allowed_here (beside u step a) here shows cut = absurd (subst IsEvent shows tt)
  allowed_here (did u step a) here shows cut = did_allowed u step a here shows cut

pub cut_is_allowed : {S : Type 0} (code : Code S) → CutIsAllowed code
cut_is_allowed code b first classes c acts es doomed shown_run i t op reply cut at =
    let found = shown_at code b c acts es i (event t op reply) shown_run.shows at in
    allowed_here code b first classes c acts es doomed shown_run i t op reply found.0 found.1 found.2 cut
