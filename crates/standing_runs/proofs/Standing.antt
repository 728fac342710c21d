-- The threads of a scheduled run go on among the local states that they can come to.
use Rattle.std.proofs.Common.{◌≡◌, inl, inr, ℕ, List, [], ◌∷◌, Some, refl, sym, subst}
use Rattle.op_core.specs.declared.Limits.{Limits}
use Rattle.op_core.specs.declared.Next.{Next}
use Rattle.op_core.specs.declared.Next.TheVariants.{Silent, Want, Ended}
use Rattle.op_core.specs.declared.Op.{Op}
use Rattle.op_core.specs.declared.Op.TheVariants.{Start, End}
use Rattle.op_core.specs.declared.Reply.{Reply}
use Rattle.op_core.specs.declared.Reply.TheVariants.{Done, Number}
use Rattle.op_core.specs.ThreadCode.{Code, quiet_to, quiet_step}
use Rattle.op_core.specs.OrdinaryState.{set_at, Thread, live, ended, OrdinaryState}
use Rattle.op_core.specs.OrdinaryStep.{MayAnswer, threads_after}
use Rattle.op_core.specs.Orderly.{CanStand, by_silent, by_reply, by_start}
use Rattle.op_core.specs.OrderlyLaws.{AllCanStand}
use Rattle.op_core.proofs.ExecutionLemmas.{answers_fit}
use Rattle.op_core.proofs.PointwiseLemmas.{set_at-at}
use Rattle.op_core.proofs.QuietLemmas.{quiet_step-silent}
use Rattle.schedules.specs.declared.order.TurnEnd.{TurnEnd}
use Rattle.schedules.specs.Run.{Run, Follows}
use Rattle.ordinary_machine.specs.declared.advance.Advance.{Advance}
use Rattle.ordinary_machine.specs.declared.advance.Advance.TheVariants as advance
use Rattle.ordinary_machine.specs.Advance.{Advances}
use Rattle.ordinary_machine.specs.Machine.{Machine}
use Rattle.ordinary_runs.specs.Turns.{Progress, untraced_turns}
use Rattle.ordinary_runs.specs.ScheduledRun.{begun_with}
use Rattle.ordinary_runs.proofs.LawLemmas.{kept_follows, stuck}
use Rattle.standing_runs.specs.Standing.{OrderlyRunsEndStuck, RunsStandWhereTheyCan}

-- what makes a silent step is silent
silent_next : {S : Type 0} (code : Code S) (l m : S) → quiet_step code l ≡ Some m → code.next l ≡ Silent
silent_next {S} code l m h = by_next (code.next l) h
  where
    by_next : (next : Next) → quiet_to code (code.silent l) next ≡ Some m → next ≡ Silent
    by_next Silent is = refl
    by_next (Want op) is = cc
    by_next Ended is = cc

module _ {S : Type 0} (code : Code S) (first : S) where
  AllStand : (ℕ → Thread S) → Type 0
  AllStand threads = (t : ℕ) (l : S) → threads t ≡ live l → CanStand code first l

  set_stands : (f : ℕ → Thread S) (t : ℕ) (m : S) → AllStand f → CanStand code first m → AllStand (set_at f t (live m))
  unfolding AllStand
  set_stands f t m stand own u l = set_at-at (λ x. x ≡ live l → CanStand code first l) f t (live m) u
      (λ _ e. let same : m ≡ l = cc in subst (CanStand code first) same own)
      (λ _ e. stand u l e)

  after_stands : (s : OrdinaryState S) (t : ℕ) (l : S) (op : Op) (reply : Reply) → AllStand s.threads → CanStand code first l → code.next l ≡ Want op → MayAnswer s t op reply → AllStand (threads_after code t l op reply s)
  unfolding AllStand
  after_stands s t l (End x) Done stand own wanted answered u m =
      set_at-at (λ y. y ≡ live m → CanStand code first m) s.threads t (ended x) u (λ _ e. cc) (λ _ e. stand u m e)
  after_stands s t l (End x) reply stand own wanted answered u m = absurd answered
  after_stands s t l (Start r p) (Number n) stand own wanted answered u m =
      set_stands (set_at s.threads n (live (code.child l r))) t (code.reply l (Number n))
      (set_stands s.threads n (code.child l r) stand (by_start l r p own wanted))
      (by_reply l (Start r p) (Number n) own wanted (λ h. h) tt) u m
  after_stands s t l op reply stand own wanted answered u m =
      set_stands s.threads t (code.reply l reply) stand
      (by_reply l op reply own wanted (λ h. h) (answers_fit S s t op reply answered)) u m

  -- whatever `advance` answers
  advance_stands : (m : Machine S) (t : ℕ) (limits : Limits) (answer : Advance) (new : Machine S) → Advances code m t limits answer new → AllCanStand code first m.now → AllCanStand code first new.now
  unfolding AllStand
  advance_stands m t limits advance.Silent new is stand =
      let own : CanStand code first is.behind = subst (CanStand code first) (quiet_step-silent code is.from is.behind is.quiet) (by_silent is.from (stand t is.from is.begun) (silent_next code is.from is.behind is.quiet)) in
      subst (λ (x : Machine S). AllCanStand code first x.now) (sym is.leads) (set_stands m.now.threads t is.behind stand own)
  advance_stands m t limits (advance.Step e) new is stand =
      subst (λ (x : Machine S). AllCanStand code first x.now) (sym is.leads) (after_stands m.now t is.place e.op e.reply stand (stand t is.place is.begun) is.step.wanted is.step.answered)
  advance_stands m t limits advance.Waits new is stand = subst (λ (x : Machine S). AllCanStand code first x.now) (sym is.1) stand
  advance_stands m t limits advance.Halts new is stand = subst (λ (x : Machine S). AllCanStand code first x.now) (sym is.1) stand
  advance_stands m t limits advance.Ended new is stand = subst (λ (x : Machine S). AllCanStand code first x.now) (sym is.1) stand
  advance_stands m t limits (advance.Spent limit) new is stand = subst (λ (x : Machine S). AllCanStand code first x.now) (sym is.1) stand

  turn_stands : (limits : Limits) (r : Progress S) (t : ℕ) (end : TurnEnd) (new : Progress S) → (untraced_turns code limits).gives r t end new → AllCanStand code first r.machine.now → AllCanStand code first new.machine.now
  turn_stands limits r t end new (inl out) stand = subst (λ (x : Progress S). AllCanStand code first x.machine.now) (sym out.same) stand
  turn_stands limits r t end new (inr turn) stand = advance_stands r.machine t limits turn.answer new.machine turn.advances stand

  turns_stand : (limits : Limits) (ts : List ℕ) (run last : Run (Progress S)) → Follows (untraced_turns code limits) run ts last → AllCanStand code first run.state.machine.now → AllCanStand code first last.state.machine.now
  turns_stand limits [] run last same stand = subst (λ (x : Run (Progress S)). AllCanStand code first x.state.machine.now) (sym same) stand
  turns_stand limits (t ∷ ts) run last (end, next, turn, later) stand = turns_stand limits ts next last later (turn_stands limits run.state t end next.state turn.given stand)

pub runs_stand : {S : Type 0} (code : Code S) → RunsStandWhereTheyCan code
runs_stand code first m schedule limits keeping outcome ran stand =
    turns_stand code first limits ran.threads (begun_with m schedule keeping) ran.last (kept_follows code limits keeping (begun_with m schedule keeping) ran.last ran.threads ran.goes.0) stand

pub orderly_stuck : {S : Type 0} (code : Code S) → OrderlyRunsEndStuck code
orderly_stuck code first classes m schedule limits keeping outcome orderly stand silents ran is =
    stuck code m schedule limits keeping outcome ran silents is
    (λ t halted. orderly.ends halted.place (runs_stand code first m schedule limits keeping outcome ran stand t halted.place halted.begun) halted.over)
