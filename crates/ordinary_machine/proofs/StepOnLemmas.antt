-- A step whose silent steps are made first, in place.
use Rattle.std.proofs.Common.{◌≡◌, ℕ, zero, suc, ◌+◌, ◌-◌, ◌≤◌, Bool, true, false, cond, Some, nat_eq, refl, sym, ◌∙◌, ap, subst, arith}
use Rattle.std.proofs.Math.Path.{fun_ext}
use Rattle.std.specs.Option.{option_and_then}
use Rattle.op_core.specs.declared.Op.{Op}
use Rattle.op_core.specs.declared.Op.TheVariants.{Start}
use Rattle.op_core.specs.declared.Reply.{Reply}
use Rattle.op_core.specs.declared.Reply.TheVariants.{Number}
use Rattle.op_core.specs.declared.Event.{Event}
use Rattle.op_core.specs.ThreadCode.{Code, quiet_step, quiet_steps}
use Rattle.op_core.specs.OrdinaryState.{set_at, live, OrdinaryState}
use Rattle.op_core.specs.OrdinaryStep.{CanStep, MayAnswer, after}
use Rattle.op_core.specs.InPlaceList.{with_thread}
use Rattle.op_core.proofs.PointwiseLemmas.{set_at-hit, set_at-twice}
use Rattle.op_core.proofs.GroundedLemmas.{with_thread-same, with_thread-twice, CanStep-with, MayAnswer-with, after-with}
use Rattle.ordinary_machine.specs.declared.step.StepRefusal.{StepRefusal}
use Rattle.ordinary_machine.specs.declared.step.StepRefusal.TheVariants.{NoThread, NotNext, NotEnabled, WrongReply, NoMemory}
use Rattle.ordinary_machine.specs.Machine.{Machine, silents_after, taken_after, moved, RunsTo, RunsSilently}
use Rattle.ordinary_machine.specs.Step.{IsNext, IsStepTo, Refuses}

-- k silent steps after n others
quiet_more : {S : Type 0} (code : Code S) (n : ℕ) (l m : S) → quiet_steps code n l ≡ Some m → (k total : ℕ) → total ≡ k + n → quiet_steps code total l ≡ quiet_steps code k m
quiet_more code n l m h zero total is = let here : n ≡ total = omega (arith, is) in subst (λ x. quiet_steps code x l ≡ Some m) here h
quiet_more code n l m h (suc k) zero is = absurd (omega (arith, is))
quiet_more code n l m h (suc k) (suc total) is =
    let less : total ≡ k + n = omega (arith, is) in ap (option_and_then (quiet_step code)) (quiet_more code n l m h k total less)

-- what is left of the event after n of its silent steps
abbrev pub rest_of : Event → ℕ → Event
rest_of e n = record { thread = e.thread; silent = e.silent - n; op = e.op; reply = e.reply }

-- where the thread is after them
stands_behind : {S : Type 0} (code : Code S) (m new : Machine S) (t n : ℕ) (ran : RunsTo code m t n new) → new.now.threads t ≡ live ran.behind
stands_behind {S} code m new t n ran = ap (λ (x : Machine S). x.now.threads t) ran.leads ∙ set_at-hit m.now.threads t (live ran.behind)

one_stand : {S : Type 0} (l k : S) → live l ≡ live k → l ≡ k
one_stand l k h = cc

-- the operation that comes next is the same
next_back : {S : Type 0} (code : Code S) (m new : Machine S) (e : Event) (n : ℕ) (ran : RunsTo code m e.thread n new) → n ≤ e.silent → (l : S) (op : Op) → IsNext code new.now (rest_of e n) l op → IsNext code m.now e l op
next_back {S} code m new e n ran within l op next =
    let place = one_stand ran.behind next.from (sym (stands_behind code m new e.thread n ran) ∙ next.begun) in
    record {
      from = ran.from;
      begun = ran.begun;
      quiet = quiet_more code n ran.from ran.behind ran.quiet (e.silent - n) e.silent (omega (arith, within)) ∙ ap (quiet_steps code (e.silent - n)) place ∙ next.quiet;
      wanted = next.wanted;
      same = next.same;
    }

next_on : {S : Type 0} (code : Code S) (m new : Machine S) (e : Event) (n : ℕ) (ran : RunsTo code m e.thread n new) → n ≤ e.silent → (l : S) (op : Op) → IsNext code m.now e l op → IsNext code new.now (rest_of e n) l op
next_on {S} code m new e n ran within l op next =
    let place = one_stand ran.from next.from (sym ran.begun ∙ next.begun) in
    record {
      from = ran.behind;
      begun = stands_behind code m new e.thread n ran;
      quiet = sym (quiet_more code n ran.from ran.behind ran.quiet (e.silent - n) e.silent (omega (arith, within))) ∙ ap (quiet_steps code e.silent) place ∙ next.quiet;
      wanted = next.wanted;
      same = next.same;
    }

-- so are what it can and may answer
back_again : {S : Type 0} (code : Code S) (m new : Machine S) (t n : ℕ) (ran : RunsTo code m t n new) → with_thread new.now t (live ran.from) ≡ m.now
back_again {S} code m new t n ran =
    ap (λ (x : Machine S). with_thread x.now t (live ran.from)) ran.leads ∙ with_thread-twice m.now t (live ran.behind) (live ran.from) ∙ with_thread-same m.now t (live ran.from) ran.begun

can_back : {S : Type 0} (code : Code S) (m new : Machine S) (t n : ℕ) (op : Op) → RunsTo code m t n new → CanStep new.now t op → CanStep m.now t op
can_back {S} code m new t n op ran can =
    subst (λ (x : OrdinaryState S). CanStep x t op) (back_again code m new t n ran) (CanStep-with new.now t ran.behind ran.from op (stands_behind code m new t n ran) can)

can_on : {S : Type 0} (code : Code S) (m new : Machine S) (t n : ℕ) (op : Op) → RunsTo code m t n new → CanStep m.now t op → CanStep new.now t op
can_on {S} code m new t n op ran can = subst (λ (x : Machine S). CanStep x.now t op) (sym ran.leads) (CanStep-with m.now t ran.from ran.behind op ran.begun can)

answers_back : {S : Type 0} (code : Code S) (m new : Machine S) (t n : ℕ) (op : Op) (reply : Reply) → RunsTo code m t n new → MayAnswer new.now t op reply → MayAnswer m.now t op reply
answers_back {S} code m new t n op reply ran may =
    subst (λ (x : OrdinaryState S). MayAnswer x t op reply) (back_again code m new t n ran) (MayAnswer-with new.now t ran.behind ran.from op reply (stands_behind code m new t n ran) may)

answers_on : {S : Type 0} (code : Code S) (m new : Machine S) (t n : ℕ) (op : Op) (reply : Reply) → RunsTo code m t n new → MayAnswer m.now t op reply → MayAnswer new.now t op reply
answers_on {S} code m new t n op reply ran may = subst (λ (x : Machine S). MayAnswer x.now t op reply) (sym ran.leads) (MayAnswer-with m.now t ran.from ran.behind op reply ran.begun may)

-- and the machine after the step
pick : (b c : Bool) (k x : ℕ) → cond b 0 (cond c 0 (cond b k x)) ≡ cond b 0 (cond c 0 x)
pick true c k x = refl
pick false c k x = refl

silents_same : (t : ℕ) (op : Op) (reply : Reply) (f : ℕ → ℕ) (k : ℕ) → silents_after t op reply (set_at f t k) ≡ silents_after t op reply f
silents_same t (Start r p) (Number n) f k = fun_ext (λ j. pick (nat_eq j t) (nat_eq j n) k (f j))
silents_same t _ _ f k = set_at-twice f t k 0

moved_back : {S : Type 0} (code : Code S) (m new : Machine S) (t n : ℕ) (l : S) (op : Op) (reply : Reply) → RunsTo code m t n new → MayAnswer new.now t op reply → moved code new t l op reply ≡ moved code m t l op reply
moved_back {S} code m new t n l op reply ran may =
    let here = after-with code new.now t ran.behind l op reply (stands_behind code m new t n ran) may in
    let there = after-with code m.now t ran.from l op reply ran.begun (answers_back code m new t n op reply ran may) in
    let same : with_thread new.now t (live l) ≡ with_thread m.now t (live l) =
    ap (λ (x : Machine S). with_thread x.now t (live l)) ran.leads ∙ with_thread-twice m.now t (live ran.behind) (live l) in
    let now = sym here ∙ ap (λ x. after code x t l op reply) same ∙ there in
    let silents = ap (λ (x : Machine S). silents_after t op reply x.silents) ran.leads ∙ silents_same t op reply m.silents (m.silents t + n) in
    let first = ap (λ (x : Machine S). x.first) ran.leads in
    let taken = ap (λ (x : Machine S). taken_after code l op reply x.taken) ran.leads in
    λ i. record { now = now i; silents = silents i; first = first i; taken = taken i }

step_behind : {S : Type 0} (code : Code S) (m middle new : Machine S) (e : Event) (n : ℕ) → RunsTo code m e.thread n middle → n ≤ e.silent → IsStepTo code middle (rest_of e n) new → IsStepTo code m e new
step_behind code m middle new e n ran within step = record {
  place = step.place;
  op = step.op;
  next = next_back code m middle e n ran within step.place step.op step.next;
  can = can_back code m middle e.thread n step.op ran step.can;
  answered = answers_back code m middle e.thread n step.op e.reply ran step.answered;
  leads = step.leads ∙ moved_back code m middle e.thread n step.place step.op e.reply ran step.answered;
}

refusal_behind : {S : Type 0} (code : Code S) (m middle : Machine S) (e : Event) (n : ℕ) (why : StepRefusal) → RunsTo code m e.thread n middle → n ≤ e.silent → Refuses code middle.now (rest_of e n) why → Refuses code m.now e why
refusal_behind code m middle e n NoThread ran within refuses = λ is_live. refuses (ran.behind, stands_behind code m middle e.thread n ran)
refusal_behind code m middle e n NotNext ran within refuses = record {
  is_live = (ran.from, ran.begun);
  none = λ l op next. refuses.none l op (next_on code m middle e n ran within l op next);
}
refusal_behind code m middle e n NotEnabled ran within refuses = record {
  place = refuses.place;
  op = refuses.op;
  next = next_back code m middle e n ran within refuses.place refuses.op refuses.next;
  cannot = λ can. refuses.cannot (can_on code m middle e.thread n refuses.op ran can);
}
refusal_behind code m middle e n WrongReply ran within refuses = record {
  place = refuses.place;
  op = refuses.op;
  next = next_back code m middle e n ran within refuses.place refuses.op refuses.next;
  can = can_back code m middle e.thread n refuses.op ran refuses.can;
  wrong = λ may. refuses.wrong (answers_on code m middle e.thread n refuses.op e.reply ran may);
}
refusal_behind code m middle e n NoMemory ran within refuses = tt

-- the same where no silent step was made first
whole : (n : ℕ) → n - 0 ≡ n
whole n = omega arith

pub stepped_on : {S : Type 0} (code : Code S) (m middle new : Machine S) (e : Event) (n : ℕ) → RunsSilently code m e.thread n middle → n ≤ e.silent → IsStepTo code middle (rest_of e n) new → IsStepTo code m e new
stepped_on {S} code m middle new e zero ran within step =
    subst (λ x. IsStepTo code x e new) ran (subst (λ k. IsStepTo code middle (record e { silent = k }) new) (whole e.silent) step)
stepped_on code m middle new e (suc n) ran within step = step_behind code m middle new e (suc n) ran within step

pub refused_on : {S : Type 0} (code : Code S) (m middle : Machine S) (e : Event) (n : ℕ) (why : StepRefusal) → RunsSilently code m e.thread n middle → n ≤ e.silent → Refuses code middle.now (rest_of e n) why → Refuses code m.now e why
refused_on {S} code m middle e zero why ran within refuses =
    subst (λ (x : Machine S). Refuses code x.now e why) ran (subst (λ k. Refuses code middle.now (record e { silent = k }) why) (whole e.silent) refuses)
refused_on code m middle e (suc n) why ran within refuses = refusal_behind code m middle e (suc n) why ran within refuses
