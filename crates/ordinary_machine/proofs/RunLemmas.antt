-- The events that `advance` answers are an execution.
use Rattle.std.proofs.Common.{◌≡◌, ℕ, suc, Bool, true, false, cond, Option, Some, List, [], ◌∷◌, ◌++◌, nat_eq, refl, sym, ◌∙◌, ap, subst, inl, inr}
use Rattle.std.specs.Option.{option_and_then}
use Rattle.op_core.specs.declared.Op.{Op}
use Rattle.op_core.specs.declared.Op.TheVariants.{Start, Join, End}
use Rattle.op_core.specs.declared.Reply.{Reply}
use Rattle.op_core.specs.declared.Reply.TheVariants.{Done, Number}
use Rattle.op_core.specs.declared.Event.{Event}
use Rattle.op_core.specs.declared.Limits.{Limits}
use Rattle.op_core.specs.ThreadCode.{Code, quiet_step, quiet_steps}
use Rattle.op_core.specs.OrdinaryState.{set_at, Thread, unused, live, ended, OrdinaryState, HasEnded}
use Rattle.op_core.specs.OrdinaryStep.{IsFreeNumber, CanStep, MayAnswer, threads_after, after}
use Rattle.op_core.specs.Execution.{Comes, Leads}
use Rattle.op_core.proofs.ExecutionLemmas.{lines}
use Rattle.op_core.proofs.GroundedLemmas.{after-threads}
use Rattle.op_core.proofs.PointwiseLemmas.{same_or_other, set_at-hit, set_at-other}
use Rattle.ordinary_machine.specs.declared.advance.Advance.{Advance}
use Rattle.ordinary_machine.specs.declared.advance.Advance.TheVariants.{Silent, Step, Waits, Halts, Ended, Spent}
use Rattle.ordinary_machine.specs.Machine.{Machine, silents_after, moved}
use Rattle.ordinary_machine.specs.Advance.{IsSilentTo, IsAnswered, Advances}
use Rattle.ordinary_machine.specs.Laws.{Call, Runs, event_of, events_of, StandsFurther, IsFurther, AdvancesAreExecutions}

-- where a thread that is further was before
pub further_from : {S : Type 0} (code : Code S) (thread : Thread S) (n : ℕ) (l : S) → StandsFurther code thread n (live l)
    → (from : S) × (thread ≡ live from) × (quiet_steps code n from ≡ Some l)
further_from code (live from) n l h = (from, refl, h)
further_from code unused n l h = absurd h
further_from code (ended x) n l h = absurd h

further_unused : {S : Type 0} (code : Code S) (thread : Thread S) (n : ℕ) (now : Thread S) → StandsFurther code thread n now → now ≡ unused → thread ≡ unused
further_unused code unused n now h is = refl
further_unused code (live from) n unused h is = absurd h
further_unused code (live from) n (live l) h is = cc
further_unused code (live from) n (ended x) h is = absurd h
further_unused code (ended x) n unused h is = absurd h
further_unused code (ended x) n (live l) h is = absurd h
further_unused code (ended x) n (ended y) h is = cc

further_ended : {S : Type 0} (code : Code S) (thread : Thread S) (n : ℕ) (now : Thread S) → StandsFurther code thread n now → HasEnded now → HasEnded thread
further_ended code (ended x) n now h is = tt
further_ended code unused n unused h is = absurd is
further_ended code unused n (live l) h is = absurd is
further_ended code unused n (ended x) h is = absurd h
further_ended code (live from) n unused h is = absurd is
further_ended code (live from) n (live l) h is = absurd is
further_ended code (live from) n (ended x) h is = absurd h

-- a thread is 0 steps further than where it is
no_further : {S : Type 0} (code : Code S) (thread : Thread S) → StandsFurther code thread 0 thread
no_further code unused = tt
no_further code (live l) = refl
no_further code (ended x) = refl

-- operations and answers are the same in the machine and in the state that it is further than
free_number : {S : Type 0} (code : Code S) (s : OrdinaryState S) (m : Machine S) → IsFurther code s m → (n : ℕ) → IsFreeNumber m.now.threads n → IsFreeNumber s.threads n
free_number code s m further n free = (free.0, free.1, further_unused code (s.threads n) (m.silents n) (m.now.threads n) (further.threads n) free.2)

can_there : {S : Type 0} (code : Code S) (s : OrdinaryState S) (m : Machine S) (t : ℕ) (op : Op) → IsFurther code s m → CanStep m.now t op → CanStep (record m.now { threads = s.threads }) t op
can_there code s m t (Start r p) further (there, inl started) = (there, inl started)
can_there code s m t (Start r p) further (there, inr (n, free)) = (there, inr (n, free_number code s m further n free))
can_there code s m t (Join r) further (there, inl none) = (there, inl none)
can_there code s m t (Join r) further (there, inr over) = let k = m.now.starts r in (there, inr (further_ended code (s.threads k) (m.silents k) (m.now.threads k) (further.threads k) over))
can_there code s m t _ further can = can

answers_there : {S : Type 0} (code : Code S) (s : OrdinaryState S) (m : Machine S) (t : ℕ) (op : Op) (reply : Reply) → IsFurther code s m → MayAnswer m.now t op reply → MayAnswer (record m.now { threads = s.threads }) t op reply
answers_there code s m t (Start r p) (Number n) further (none, free) = (none, free_number code s m further n free)
answers_there code s m t _ _ further answered = answered

-- two threads after changes at one number
both_live : {S : Type 0} (code : Code S) (b : Bool) (f g : Thread S) (n : ℕ) (l : S) → StandsFurther code f n g → StandsFurther code (cond b (live l) f) (cond b 0 n) (cond b (live l) g)
both_live code true f g n l h = refl
both_live code false f g n l h = h

both_ended : {S : Type 0} (code : Code S) (b : Bool) (f g : Thread S) (n : ℕ) (x : Option ℕ) → StandsFurther code f n g → StandsFurther code (cond b (ended x) f) (cond b 0 n) (cond b (ended x) g)
both_ended code true f g n x h = refl
both_ended code false f g n x h = h

further_after : {S : Type 0} (code : Code S) (s : OrdinaryState S) (m : Machine S) (t : ℕ) (l : S) (op : Op) (reply : Reply) → IsFurther code s m → (k : ℕ)
    → StandsFurther code (threads_after code t l op reply s k) (silents_after t op reply m.silents k) (threads_after code t l op reply m.now k)
further_after code s m t l (End x) Done further k = both_ended code (nat_eq k t) (s.threads k) (m.now.threads k) (m.silents k) x (further.threads k)
further_after code s m t l (Start r p) (Number n) further k =
    both_live code (nat_eq k t) (set_at s.threads n (live (code.child l r)) k) (set_at m.now.threads n (live (code.child l r)) k) (set_at m.silents n 0 k) (code.reply l (Number n))
    (both_live code (nat_eq k n) (s.threads k) (m.now.threads k) (m.silents k) (code.child l r) (further.threads k))
further_after code s m t l _ reply further k = both_live code (nat_eq k t) (s.threads k) (m.now.threads k) (m.silents k) (code.reply l reply) (further.threads k)

-- and what they share
shared_after-further : {S : Type 0} (code : Code S) (s : OrdinaryState S) (m : Machine S) (t : ℕ) (l : S) (op : Op) (reply : Reply) → IsFurther code s m
    → record (after code m.now t l op reply) { threads = threads_after code t l op reply s } ≡ after code s t l op reply
shared_after-further code s m t l op reply further =
    ap (λ x. record (after code m.now t l op reply) { threads = threads_after code t l op reply x }) (sym further.shared)
    ∙ sym (after-threads code m.now s.threads t l op reply) ∙ ap (λ x. after code x t l op reply) further.shared

-- an answered event comes in the state, and what follows is further than what follows it
answered_comes : {S : Type 0} (code : Code S) (s : OrdinaryState S) (m new : Machine S) (t : ℕ) (limits : Limits) (e : Event) → IsFurther code s m → IsAnswered code m t limits e new
    → (l : S) × Comes code s e l × IsFurther code (after code s e.thread l e.op e.reply) new
answered_comes {S} code s m new t limits e further answered =
    let l = answered.place in
    let (from, begun, quiet) = further_from code (s.threads t) (m.silents t) l (subst (StandsFurther code (s.threads t) (m.silents t)) answered.begun (further.threads t)) in
    let can = subst (λ (x : OrdinaryState S). CanStep x t e.op) further.shared (can_there code s m t e.op further answered.step.can) in
    let may = subst (λ (x : OrdinaryState S). MayAnswer x t e.op e.reply) further.shared (answers_there code s m t e.op e.reply further answered.step.answered) in
    let there : Comes code s (record e { thread = t }) l = record { from = from; begun = begun; quiet = subst (λ n. quiet_steps code n from ≡ Some l) (sym answered.silent) quiet; step = record { wanted = answered.step.wanted; can = can; answered = may } } in
    let led : IsFurther code (after code s t l e.op e.reply) (moved code m t l e.op e.reply) = record { shared = shared_after-further code s m t l e.op e.reply further; threads = further_after code s m t l e.op e.reply further } in (
      l,
      subst (λ n. Comes code s (record e { thread = n }) l) (sym answered.mine) there,
      subst (λ x. IsFurther code (after code s e.thread l e.op e.reply) x) (sym answered.leads) (subst (λ n. IsFurther code (after code s n l e.op e.reply) (moved code m t l e.op e.reply)) (sym answered.mine) led),
    )

-- a silent step leads further
silent_further : {S : Type 0} (code : Code S) (s : OrdinaryState S) (m new : Machine S) (t : ℕ) → IsFurther code s m → IsSilentTo code m t new → IsFurther code s new
silent_further {S} code s m new t further silent =
    let (from, begun, quiet) = further_from code (s.threads t) (m.silents t) silent.from (subst (StandsFurther code (s.threads t) (m.silents t)) silent.begun (further.threads t)) in
    let next : quiet_steps code (suc (m.silents t)) from ≡ Some silent.behind = ap (option_and_then (quiet_step code)) quiet ∙ silent.quiet in
    let here : StandsFurther code (s.threads t) (suc (m.silents t)) (live silent.behind) = subst (λ x. StandsFurther code x (suc (m.silents t)) (live silent.behind)) (sym begun) next in
    let threads : (k : ℕ) → StandsFurther code (s.threads k) (set_at m.silents t (suc (m.silents t)) k) (set_at m.now.threads t (live silent.behind) k) =
    λ k. elim (same_or_other k t) [
      | inl is ↦ subst (λ j. StandsFurther code (s.threads j) (set_at m.silents t (suc (m.silents t)) j) (set_at m.now.threads t (live silent.behind) j)) (sym is)
          (subst (λ n. StandsFurther code (s.threads t) n (set_at m.now.threads t (live silent.behind) t)) (sym (set_at-hit m.silents t (suc (m.silents t))))
          (subst (StandsFurther code (s.threads t) (suc (m.silents t))) (sym (set_at-hit m.now.threads t (live silent.behind))) here))
      | inr other ↦ subst (λ n. StandsFurther code (s.threads k) n (set_at m.now.threads t (live silent.behind) k)) (sym (set_at-other m.silents t (suc (m.silents t)) k other))
          (subst (StandsFurther code (s.threads k) (m.silents k)) (sym (set_at-other m.now.threads t (live silent.behind) k other)) (further.threads k))
    ] in
    subst (IsFurther code s) (sym silent.leads) (record { shared = further.shared; threads = threads })

-- one call
record OneCall {S : Type 0} (code : Code S) (s : OrdinaryState S) (a : Advance) (next : Machine S) : Type 0 where
  state : OrdinaryState S
  further : IsFurther code state next
  leads : (later : List Event) (last : OrdinaryState S) → Leads code state later last → Leads code s (event_of a ++ later) last

one_call : {S : Type 0} (code : Code S) (s : OrdinaryState S) (m next : Machine S) (t : ℕ) (limits : Limits) (a : Advance) → IsFurther code s m → Advances code m t limits a next → OneCall code s a next
one_call code s m next t limits Silent further silent = record { state = s; further = silent_further code s m next t further silent; leads = λ later last leads. leads }
one_call code s m next t limits (Step e) further answered =
    let (l, comes, beyond) = answered_comes code s m next t limits e further answered in
    record { state = after code s e.thread l e.op e.reply; further = beyond; leads = λ later last leads. (l, comes, leads) }
one_call code s m next t limits Waits further (waits, same) = record { state = s; further = subst (IsFurther code s) (sym same) further; leads = λ later last leads. leads }
one_call code s m next t limits Halts further (halted, same) = record { state = s; further = subst (IsFurther code s) (sym same) further; leads = λ later last leads. leads }
one_call code s m next t limits Ended further (over, same) = record { state = s; further = subst (IsFurther code s) (sym same) further; leads = λ later last leads. leads }
one_call code s m next t limits (Spent limit) further (spent, same) = record { state = s; further = subst (IsFurther code s) (sym same) further; leads = λ later last leads. leads }

-- a run of calls
record Led {S : Type 0} (code : Code S) (s : OrdinaryState S) (events : List Event) (last : Machine S) : Type 0 where
  state : OrdinaryState S
  leads : Leads code s events state
  further : IsFurther code state last

led_on : {S : Type 0} (code : Code S) (s : OrdinaryState S) (m last : Machine S) (calls : List Call) → IsFurther code s m → Runs code m calls last → Led code s (events_of calls) last
led_on code s m last [] further same = record { state = s; leads = refl; further = subst (IsFurther code s) (sym same) further }
led_on code s m last (call ∷ calls) further (next, advances, rest) =
    let one = one_call code s m next call.thread call.limits call.answer further advances in
    let led = led_on code one.state next last calls one.further rest in
    record { state = led.state; leads = one.leads (events_of calls) led.state led.leads; further = led.further }

pub executed : {S : Type 0} (code : Code S) → AdvancesAreExecutions code
executed {S} code m last calls none runs =
    let further : IsFurther code m.now m = record { shared = refl; threads = λ t. subst (λ n. StandsFurther code (m.now.threads t) n (m.now.threads t)) (sym (ap (λ f. f t) none)) (no_further code (m.now.threads t)) } in
    let led = led_on code m.now m last calls further runs in
    record {
      state = led.state;
      leads = led.leads;
      further = led.further;
      lines = ap (λ x. x.lines) led.further.shared ∙ lines code m.now led.state (events_of calls) led.leads;
    }
