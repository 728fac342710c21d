-- An event has one outcome, and an answer of `advance` excludes the others.
use Rattle.std.proofs.Common.{◌≡◌, ◌≢◌, ◌⊎◌, ℕ, zero, suc, ◌<◌, ◌≤◌, cond, Option, Some, None, IsSomeAnd, refl, sym, ◌∙◌, ap, subst, arith, inl, inr}
use Rattle.std.proofs.lemmas.Bool.Decides.{leb_tells}
use Rattle.op_core.specs.declared.Op.{Op}
use Rattle.op_core.specs.declared.Op.TheVariants.{ClassOf, Read, Write, New, Enter, Exit, Wait, Rewake, Notify, Print, Start, Join, Init, InitDone, End}
use Rattle.op_core.specs.declared.Reply.{Reply}
use Rattle.op_core.specs.declared.Reply.TheVariants.{Class, Value, Made, Done, NotOwner, Woken, Number, Already, Ready, Bad, Claimed}
use Rattle.op_core.specs.declared.Next.{Next}
use Rattle.op_core.specs.declared.Next.TheVariants.{Want}
use Rattle.op_core.specs.declared.Next.TheVariants as next
use Rattle.op_core.specs.declared.Event.{Event}
use Rattle.op_core.specs.declared.Limits.{Limits}
use Rattle.op_core.specs.declared.Limit.{Limit}
use Rattle.op_core.specs.declared.Limit.TheVariants.{Heap, Threads, Frames, Depth}
use Rattle.op_core.specs.ThreadCode.{Code, quiet_to, quiet_step, quiet_steps}
use Rattle.op_core.specs.OrdinaryState.{Object, Waiting, ClassState, unready, claimed, ready, bad, live, OrdinaryState, HasEnded}
use Rattle.op_core.specs.OrdinaryStep.{IsFirstWaiting, AnswersInit, CanStep, MayAnswer}
use Rattle.ordinary_machine.specs.declared.advance.Advance.TheVariants.{Silent, Step, Waits, Halts, Ended, Spent}
use Rattle.ordinary_machine.specs.declared.step.StepRefusal.{StepRefusal}
use Rattle.ordinary_machine.specs.declared.step.StepRefusal.TheVariants.{NoThread, NotNext, NotEnabled, WrongReply, NoMemory}
use Rattle.ordinary_machine.specs.Machine.{Machine, moved, with_thread_at}
use Rattle.ordinary_machine.specs.Step.{IsNext, IsStepTo, IsNotEnabled, IsWrongReply, Refuses}
use Rattle.ordinary_machine.specs.Advance.{OpMeets, IsChosen, IsSilentTo, IsAnswered, IsWaiting, IsOver, IsOutOfFrames, IsAtLimit, Meets}
use Rattle.ordinary_machine.specs.Laws.{EventsHaveOneOutcome, AdvancesHaveOneAnswer}

-- an event's thread wants one operation at one place
one_next : {S : Type 0} (code : Code S) (s : OrdinaryState S) (e : Event) (l k : S) (op other : Op) → IsNext code s e l op → IsNext code s e k other → (k ≡ l) × (other ≡ op)
one_next code s e l k op other a b =
    let from : a.from ≡ b.from = live_same (sym a.begun ∙ b.begun) in
    let place : l ≡ k = some_same (sym a.quiet ∙ ap (quiet_steps code e.silent) from ∙ b.quiet) in
    (sym place, want_same (sym b.wanted ∙ ap code.next (sym place) ∙ a.wanted))
  where
    live_same : {S : Type 0} {x y : S} → live x ≡ live y → x ≡ y
    live_same h = cc

    some_same : {S : Type 0} {x y : S} → Some x ≡ Some y → x ≡ y
    some_same h = cc

    want_same : {x y : Op} → Want x ≡ Want y → x ≡ y
    want_same h = cc

same_machine : {S : Type 0} (code : Code S) (m new last : Machine S) (e : Event) → IsStepTo code m e new → IsStepTo code m e last → last ≡ new
same_machine code m new last e a b =
    let (place, op) = one_next code m.now e a.place b.place a.op b.op a.next b.next in
    b.leads ∙ ap (λ l. moved code m e.thread l b.op e.reply) place ∙ ap (λ o. moved code m e.thread a.place o e.reply) op ∙ sym a.leads

-- a step is refused only when memory runs out
not_refused : {S : Type 0} (code : Code S) (m new : Machine S) (e : Event) (why : StepRefusal) → IsStepTo code m e new → Refuses code m.now e why → why ≡ NoMemory
not_refused code m new e NoThread step refuses = absurd (refuses (step.next.from, step.next.begun))
not_refused code m new e NotNext step refuses = absurd (refuses.none step.place step.op step.next)
not_refused code m new e NotEnabled step refuses =
    let (place, op) = one_next code m.now e refuses.place step.place refuses.op step.op refuses.next step.next in
    absurd (refuses.cannot (subst (CanStep m.now e.thread) op step.can))
not_refused code m new e WrongReply step refuses =
    let (place, op) = one_next code m.now e refuses.place step.place refuses.op step.op refuses.next step.next in
    absurd (refuses.wrong (subst (λ o. MayAnswer m.now e.thread o e.reply) op step.answered))
not_refused code m new e NoMemory step refuses = refl

enabled_wrong : {S : Type 0} (code : Code S) (s : OrdinaryState S) (e : Event) → IsNotEnabled code s e → IsWrongReply code s e → ⊥
enabled_wrong code s e a b = let (place, op) = one_next code s e a.place b.place a.op b.op a.next b.next in a.cannot (subst (CanStep s e.thread) op b.can)

same_refusal : {S : Type 0} (code : Code S) (s : OrdinaryState S) (e : Event) (why other : StepRefusal) → why ≢ NoMemory → other ≢ NoMemory → Refuses code s e why → Refuses code s e other → other ≡ why
same_refusal code s e NoMemory other not_a not_b a b = absurd (not_a refl)
same_refusal code s e NoThread NoMemory not_a not_b a b = absurd (not_b refl)
same_refusal code s e NoThread NoThread not_a not_b a b = refl
same_refusal code s e NoThread NotNext not_a not_b a b = absurd (a b.is_live)
same_refusal code s e NoThread NotEnabled not_a not_b a b = absurd (a (b.next.from, b.next.begun))
same_refusal code s e NoThread WrongReply not_a not_b a b = absurd (a (b.next.from, b.next.begun))
same_refusal code s e NotNext NoMemory not_a not_b a b = absurd (not_b refl)
same_refusal code s e NotNext NoThread not_a not_b a b = absurd (b a.is_live)
same_refusal code s e NotNext NotNext not_a not_b a b = refl
same_refusal code s e NotNext NotEnabled not_a not_b a b = absurd (a.none b.place b.op b.next)
same_refusal code s e NotNext WrongReply not_a not_b a b = absurd (a.none b.place b.op b.next)
same_refusal code s e NotEnabled NoMemory not_a not_b a b = absurd (not_b refl)
same_refusal code s e NotEnabled NoThread not_a not_b a b = absurd (b (a.next.from, a.next.begun))
same_refusal code s e NotEnabled NotNext not_a not_b a b = absurd (b.none a.place a.op a.next)
same_refusal code s e NotEnabled NotEnabled not_a not_b a b = refl
same_refusal code s e NotEnabled WrongReply not_a not_b a b = absurd (enabled_wrong code s e a b)
same_refusal code s e WrongReply NoMemory not_a not_b a b = absurd (not_b refl)
same_refusal code s e WrongReply NoThread not_a not_b a b = absurd (b (a.next.from, a.next.begun))
same_refusal code s e WrongReply NotNext not_a not_b a b = absurd (b.none a.place a.op a.next)
same_refusal code s e WrongReply NotEnabled not_a not_b a b = absurd (enabled_wrong code s e b a)
same_refusal code s e WrongReply WrongReply not_a not_b a b = refl

pub one_outcome : {S : Type 0} (code : Code S) → EventsHaveOneOutcome code
one_outcome code m e = record {
  one_machine = λ new last. same_machine code m new last e;
  no_refusal = λ new why. not_refused code m new e why;
  one_refusal = same_refusal code m.now e;
}

-- An operation has one answer, where the lowest is taken.

-- an operation that is only done
DoneOnly : Op → Type 0
DoneOnly (Write r i v) = Unit {0}
DoneOnly (Enter r) = Unit {0}
DoneOnly (Rewake r) = Unit {0}
DoneOnly (Print x) = Unit {0}
DoneOnly (Join r) = Unit {0}
DoneOnly (InitDone c ok) = Unit {0}
DoneOnly (End x) = Unit {0}
DoneOnly _ = ⊥

only_done : {S : Type 0} (s : OrdinaryState S) (t : ℕ) (op : Op) (reply : Reply) → DoneOnly op → MayAnswer s t op reply → reply ≡ Done
unfolding DoneOnly
only_done s t (Write r i v) Done plain h = refl
only_done s t (Write r i v) _ plain h = absurd h
only_done s t (Enter r) Done plain h = refl
only_done s t (Enter r) _ plain h = absurd h
only_done s t (Rewake r) Done plain h = refl
only_done s t (Rewake r) _ plain h = absurd h
only_done s t (Print x) Done plain h = refl
only_done s t (Print x) _ plain h = absurd h
only_done s t (Join r) Done plain h = refl
only_done s t (Join r) _ plain h = absurd h
only_done s t (InitDone c ok) Done plain h = refl
only_done s t (InitDone c ok) _ plain h = absurd h
only_done s t (End x) Done plain h = refl
only_done s t (End x) _ plain h = absurd h
only_done s t _ _ plain h = absurd plain

one_class : (o : Option Object) (c n d k : ℕ) → IsSomeAnd o (λ x. (x.class ≡ c) × (x.length ≡ n)) → IsSomeAnd o (λ x. (x.class ≡ d) × (x.length ≡ k)) → Class d k ≡ Class c n
one_class None c n d k a b = absurd a
one_class (Some x) c n d k a b = cc

class_reply : {S : Type 0} (s : OrdinaryState S) (t r : ℕ) (a b : Reply) → MayAnswer s t (ClassOf r) a → MayAnswer s t (ClassOf r) b → b ≡ a
class_reply s t r (Class c n) (Class d k) a b = one_class (s.objects r) c n d k a b
class_reply s t r (Class c n) _ a b = absurd b
class_reply s t r _ _ a b = absurd a

read_reply : {S : Type 0} (s : OrdinaryState S) (t r i : ℕ) (a b : Reply) → MayAnswer s t (Read r i) a → MayAnswer s t (Read r i) b → b ≡ a
read_reply s t r i (Value v) (Value w) a b = ap Value (b ∙ sym a)
read_reply s t r i (Value v) _ a b = absurd b
read_reply s t r i _ _ a b = absurd a

new_reply : {S : Type 0} (m : Machine S) (t c n : ℕ) (a b : Reply) → MayAnswer m.now t (New c n) a → MayAnswer m.now t (New c n) b → IsChosen m (New c n) a → IsChosen m (New c n) b → b ≡ a
new_reply m t c n (Made r) (Made q) a b low_a low_b = ap Made (low_b ∙ sym low_a)
new_reply m t c n (Made r) _ a b low_a low_b = absurd b
new_reply m t c n _ _ a b low_a low_b = absurd a

exit_reply : {S : Type 0} (s : OrdinaryState S) (t r : ℕ) (a b : Reply) → MayAnswer s t (Exit r) a → MayAnswer s t (Exit r) b → b ≡ a
exit_reply s t r Done Done a b = refl
exit_reply s t r Done NotOwner a b = absurd (b a)
exit_reply s t r Done _ a b = absurd b
exit_reply s t r NotOwner NotOwner a b = refl
exit_reply s t r NotOwner Done a b = absurd (a b)
exit_reply s t r NotOwner _ a b = absurd b
exit_reply s t r _ _ a b = absurd a

wait_reply : {S : Type 0} (s : OrdinaryState S) (t r : ℕ) (a b : Reply) → MayAnswer s t (Wait r) a → MayAnswer s t (Wait r) b → b ≡ a
wait_reply s t r Done Done a b = refl
wait_reply s t r Done NotOwner a b = absurd (b a)
wait_reply s t r Done _ a b = absurd b
wait_reply s t r NotOwner NotOwner a b = refl
wait_reply s t r NotOwner Done a b = absurd (a b)
wait_reply s t r NotOwner _ a b = absurd b
wait_reply s t r _ _ a b = absurd a

one_first : (r n k : ℕ) (waiting : ℕ → Waiting) → IsFirstWaiting r n waiting → IsFirstWaiting r k waiting → k ≡ n
one_first r zero zero waiting a b = refl
one_first r zero (suc k) waiting a b = absurd (a (suc k) b.0)
one_first r (suc n) zero waiting a b = absurd (b (suc n) a.0)
one_first r (suc n) (suc k) waiting a b = elim (leb_tells (suc n) k) [
  | inl below ↦ absurd (b.1 (suc n) below.1 a.0)
  | inr here ↦ elim (leb_tells (suc k) n) [
    | inl above ↦ absurd (a.1 (suc k) above.1 b.0)
    | inr there ↦ omega (arith, here.1, there.1)
  ]
]

notify_reply : {S : Type 0} (s : OrdinaryState S) (t r : ℕ) (a b : Reply) → MayAnswer s t (Notify r) a → MayAnswer s t (Notify r) b → b ≡ a
notify_reply s t r (Woken n) (Woken k) a b = ap Woken (one_first r n k s.waiting a.1 b.1)
notify_reply s t r (Woken n) NotOwner a b = absurd (b a.0)
notify_reply s t r (Woken n) _ a b = absurd b
notify_reply s t r NotOwner NotOwner a b = refl
notify_reply s t r NotOwner (Woken k) a b = absurd (a b.0)
notify_reply s t r NotOwner _ a b = absurd b
notify_reply s t r _ _ a b = absurd a

start_reply : {S : Type 0} (m : Machine S) (t r p : ℕ) (a b : Reply) → MayAnswer m.now t (Start r p) a → MayAnswer m.now t (Start r p) b → IsChosen m (Start r p) a → IsChosen m (Start r p) b → b ≡ a
start_reply m t r p (Number n) (Number k) a b low_a low_b = ap Number (omega (arith, low_a k b.1, low_b n a.1))
start_reply m t r p (Number n) Already a b low_a low_b = absurd (omega (arith, a.0, b))
start_reply m t r p (Number n) _ a b low_a low_b = absurd b
start_reply m t r p Already Already a b low_a low_b = refl
start_reply m t r p Already (Number k) a b low_a low_b = absurd (omega (arith, a, b.0))
start_reply m t r p Already _ a b low_a low_b = absurd b
start_reply m t r p _ _ a b low_a low_b = absurd a

init_answer : ClassState → Reply
init_answer unready = Claimed
init_answer (claimed owner) = Ready
init_answer ready = Ready
init_answer bad = Bad

init_reply : (t : ℕ) (x : ClassState) (reply : Reply) → AnswersInit t x reply → reply ≡ init_answer x
unfolding init_answer
init_reply t unready Claimed h = refl
init_reply t (claimed owner) Ready h = refl
init_reply t ready Ready h = refl
init_reply t bad Bad h = refl
init_reply t _ _ h = absurd h

one_reply : {S : Type 0} (m : Machine S) (t : ℕ) (op : Op) (a b : Reply) → MayAnswer m.now t op a → MayAnswer m.now t op b → IsChosen m op a → IsChosen m op b → b ≡ a
unfolding DoneOnly
one_reply m t (ClassOf r) a b may_a may_b low_a low_b = class_reply m.now t r a b may_a may_b
one_reply m t (Read r i) a b may_a may_b low_a low_b = read_reply m.now t r i a b may_a may_b
one_reply m t (New c n) a b may_a may_b low_a low_b = new_reply m t c n a b may_a may_b low_a low_b
one_reply m t (Exit r) a b may_a may_b low_a low_b = exit_reply m.now t r a b may_a may_b
one_reply m t (Wait r) a b may_a may_b low_a low_b = wait_reply m.now t r a b may_a may_b
one_reply m t (Notify r) a b may_a may_b low_a low_b = notify_reply m.now t r a b may_a may_b
one_reply m t (Start r p) a b may_a may_b low_a low_b = start_reply m t r p a b may_a may_b low_a low_b
one_reply m t (Init c) a b may_a may_b low_a low_b = init_reply t (m.now.classes c) b may_b ∙ sym (init_reply t (m.now.classes c) a may_a)
one_reply m t (Write r i v) a b may_a may_b low_a low_b = only_done m.now t (Write r i v) b tt may_b ∙ sym (only_done m.now t (Write r i v) a tt may_a)
one_reply m t (Enter r) a b may_a may_b low_a low_b = only_done m.now t (Enter r) b tt may_b ∙ sym (only_done m.now t (Enter r) a tt may_a)
one_reply m t (Rewake r) a b may_a may_b low_a low_b = only_done m.now t (Rewake r) b tt may_b ∙ sym (only_done m.now t (Rewake r) a tt may_a)
one_reply m t (Print x) a b may_a may_b low_a low_b = only_done m.now t (Print x) b tt may_b ∙ sym (only_done m.now t (Print x) a tt may_a)
one_reply m t (Join r) a b may_a may_b low_a low_b = only_done m.now t (Join r) b tt may_b ∙ sym (only_done m.now t (Join r) a tt may_a)
one_reply m t (InitDone c ok) a b may_a may_b low_a low_b = only_done m.now t (InitDone c ok) b tt may_b ∙ sym (only_done m.now t (InitDone c ok) a tt may_a)
one_reply m t (End x) a b may_a may_b low_a low_b = only_done m.now t (End x) b tt may_b ∙ sym (only_done m.now t (End x) a tt may_a)

-- Where the answers come.

-- thread t is at a place from which its code goes on like this
pub record Stands {S : Type 0} (code : Code S) (m : Machine S) (t : ℕ) (l : S) (goes : Next) : Type 0 where
  pub begun : m.now.threads t ≡ live l
  pub goes_on : code.next l ≡ goes

one_place : {S : Type 0} (code : Code S) (m : Machine S) (t : ℕ) (l k : S) (a b : Next) → Stands code m t l a → Stands code m t k b → (k ≡ l) × (b ≡ a)
one_place code m t l k a b one other = let place : k ≡ l = live_same (sym other.begun ∙ one.begun) in (place, sym other.goes_on ∙ ap code.next place ∙ one.goes_on)
  where
    live_same : {S : Type 0} {x y : S} → live x ≡ live y → x ≡ y
    live_same h = cc

pub one_wish : {S : Type 0} (code : Code S) (m : Machine S) (t : ℕ) (l k : S) (op other : Op) → Stands code m t l (Want op) → Stands code m t k (Want other) → other ≡ op
one_wish code m t l k op other a b = let same : Want other ≡ Want op = (one_place code m t l k (Want op) (Want other) a b).1 in cc

pub silent_or_wish : {S : Type 0} (code : Code S) (m : Machine S) (t : ℕ) (l k : S) (op : Op) → Stands code m t l next.Silent → Stands code m t k (Want op) → ⊥
silent_or_wish code m t l k op a b = let same : Want op ≡ next.Silent = (one_place code m t l k next.Silent (Want op) a b).1 in cc

pub over_no_more : {S : Type 0} (code : Code S) (m : Machine S) (t : ℕ) (l : S) (goes : Next) → goes ≢ next.Ended → Stands code m t l goes → IsOver code m t → ⊥
over_no_more code m t l goes more stands (inl is_ended) = subst HasEnded stands.begun is_ended
over_no_more code m t l goes more stands (inr halted) =
    more (sym (one_place code m t l halted.place goes next.Ended stands (record { begun = halted.begun; goes_on = halted.over })).1)

-- a silent step that is made
record Quiet {S : Type 0} (code : Code S) (l : S) : Type 0 where
  goes_on : code.next l ≡ next.Silent
  few : code.frames (code.silent l) ≤ 1024

quiet_when : {S : Type 0} (code : Code S) (l behind : S) → quiet_step code l ≡ Some behind → Quiet code l
quiet_when {S} code l behind h = of (code.next l) refl h
  where
    of : (goes : Next) → code.next l ≡ goes → quiet_to code (code.silent l) goes ≡ Some behind → Quiet code l
    of next.Silent is made = elim (leb_tells (code.frames (code.silent l)) 1024) [
      | inl few ↦ record { goes_on = is; few = few.1 }
      | inr many ↦ let none : None ≡ Some behind = ap (λ b. cond b (Some (code.silent l)) None) (sym many.0) ∙ made in absurd (cc)
    ]
    of (Want op) is made = cc
    of next.Ended is made = cc

silent_stands : {S : Type 0} (code : Code S) (m new : Machine S) (t : ℕ) (silent : IsSilentTo code m t new) → Stands code m t silent.from next.Silent
silent_stands code m new t silent = record { begun = silent.begun; goes_on = (quiet_when code silent.from silent.behind silent.quiet).goes_on }

answered_stands : {S : Type 0} (code : Code S) (m new : Machine S) (t : ℕ) (limits : Limits) (e : Event) (answered : IsAnswered code m t limits e new) → Stands code m t answered.place (Want e.op)
answered_stands code m new t limits e answered = record { begun = answered.begun; goes_on = answered.step.wanted }

pub waiting_stands : {S : Type 0} (code : Code S) (m : Machine S) (t : ℕ) (limits : Limits) (waits : IsWaiting code m t limits) → Stands code m t waits.place (Want waits.op)
waiting_stands code m t limits waits = record { begun = waits.begun; goes_on = waits.wanted }

limit_stands : {S : Type 0} (code : Code S) (m : Machine S) (t : ℕ) (limits : Limits) (limit : Limit) (spent : IsAtLimit code m t limits limit) → Stands code m t spent.place (Want spent.op)
limit_stands code m t limits limit spent = record { begun = spent.begun; goes_on = spent.wanted }

frames_stand : {S : Type 0} (code : Code S) (m : Machine S) (t : ℕ) (many : IsOutOfFrames code m t) → Stands code m t many.place next.Silent
frames_stand code m t many = record { begun = many.begun; goes_on = many.silent }

-- the limit of frames, or another
which_limit : {S : Type 0} (code : Code S) (m : Machine S) (t : ℕ) (limits : Limits) (limit : Limit) → Meets code m t limits limit → ((limit ≡ Frames) × IsOutOfFrames code m t) ⊎ IsAtLimit code m t limits limit
which_limit code m t limits Frames h = inl (refl, h)
which_limit code m t limits _ h = inr h

one_op_limit : {S : Type 0} (code : Code S) (m : Machine S) (t : ℕ) (l : S) (limits : Limits) (op : Op) (a b : Limit) → OpMeets code m t l limits op a → OpMeets code m t l limits op b → b ≡ a
one_op_limit code m t l limits (New c n) Heap Heap a b = refl
one_op_limit code m t l limits (New c n) Heap _ a b = absurd b
one_op_limit code m t l limits (Start r p) Threads Threads a b = refl
one_op_limit code m t l limits (Start r p) Threads _ a b = absurd b
one_op_limit code m t l limits (Enter r) Depth Depth a b = refl
one_op_limit code m t l limits (Enter r) Depth _ a b = absurd b
one_op_limit code m t l limits _ _ _ a b = absurd a

one_limit : {S : Type 0} (code : Code S) (m : Machine S) (t : ℕ) (limits : Limits) (a b : Limit) → Meets code m t limits a → Meets code m t limits b → b ≡ a
one_limit code m t limits a b meets_a meets_b = elim (which_limit code m t limits a meets_a) [
  | inl (is_a, many_a) ↦ elim (which_limit code m t limits b meets_b) [
    | inl (is_b, many_b) ↦ is_b ∙ sym is_a
    | inr at_b ↦ absurd (silent_or_wish code m t many_a.place at_b.place at_b.op (frames_stand code m t many_a) (limit_stands code m t limits b at_b))
  ]
  | inr at_a ↦ elim (which_limit code m t limits b meets_b) [
    | inl (is_b, many_b) ↦ absurd (silent_or_wish code m t many_b.place at_a.place at_a.op (frames_stand code m t many_b) (limit_stands code m t limits a at_a))
    | inr at_b ↦
        let stands = limit_stands code m t limits a at_a in
        let other = limit_stands code m t limits b at_b in
        let place = (one_place code m t at_a.place at_b.place (Want at_a.op) (Want at_b.op) stands other).0 in
        let same = one_wish code m t at_a.place at_b.place at_a.op at_b.op stands other in
        one_op_limit code m t at_a.place limits at_a.op a b at_a.meets (subst (λ l. OpMeets code m t l limits at_a.op b) place (subst (λ op. OpMeets code m t at_b.place limits op b) same at_b.meets))
  ]
]

-- two answers that don't come together
silent_step : {S : Type 0} (code : Code S) (m new last : Machine S) (t : ℕ) (limits : Limits) (e : Event) → IsSilentTo code m t new → IsAnswered code m t limits e last → ⊥
silent_step code m new last t limits e a b = silent_or_wish code m t a.from b.place e.op (silent_stands code m new t a) (answered_stands code m last t limits e b)

silent_waits : {S : Type 0} (code : Code S) (m new : Machine S) (t : ℕ) (limits : Limits) → IsSilentTo code m t new → IsWaiting code m t limits → ⊥
silent_waits code m new t limits a b = silent_or_wish code m t a.from b.place b.op (silent_stands code m new t a) (waiting_stands code m t limits b)

silent_over : {S : Type 0} (code : Code S) (m new : Machine S) (t : ℕ) → IsSilentTo code m t new → IsOver code m t → ⊥
silent_over code m new t a = over_no_more code m t a.from next.Silent (λ h. cc) (silent_stands code m new t a)

silent_spent : {S : Type 0} (code : Code S) (m new : Machine S) (t : ℕ) (limits : Limits) (limit : Limit) → IsSilentTo code m t new → Meets code m t limits limit → ⊥
silent_spent code m new t limits limit a b = elim (which_limit code m t limits limit b) [
  | inl (is, many) ↦
      let place = (one_place code m t a.from many.place next.Silent next.Silent (silent_stands code m new t a) (frames_stand code m t many)).0 in
      let few = (quiet_when code a.from a.behind a.quiet).few in
      let more : 1024 < code.frames (code.silent a.from) = subst (λ l. 1024 < code.frames (code.silent l)) place many.many in
      absurd (omega (arith, few, more))
  | inr at ↦ silent_or_wish code m t a.from at.place at.op (silent_stands code m new t a) (limit_stands code m t limits limit at)
]

step_waits : {S : Type 0} (code : Code S) (m new : Machine S) (t : ℕ) (limits : Limits) (e : Event) → IsAnswered code m t limits e new → IsWaiting code m t limits → ⊥
step_waits code m new t limits e a b =
    let same = one_wish code m t b.place a.place b.op e.op (waiting_stands code m t limits b) (answered_stands code m new t limits e a) in
    b.cannot (subst (CanStep m.now t) same a.step.can)

step_over : {S : Type 0} (code : Code S) (m new : Machine S) (t : ℕ) (limits : Limits) (e : Event) → IsAnswered code m t limits e new → IsOver code m t → ⊥
step_over code m new t limits e a = over_no_more code m t a.place (Want e.op) (λ h. cc) (answered_stands code m new t limits e a)

wish_spent : {S : Type 0} (code : Code S) (m : Machine S) (t : ℕ) (limits : Limits) (l : S) (op : Op) (limit : Limit) → Stands code m t l (Want op) → ((x : Limit) → OpMeets code m t l limits op x → ⊥) → Meets code m t limits limit → ⊥
wish_spent code m t limits l op limit stands within b = elim (which_limit code m t limits limit b) [
  | inl (is, many) ↦ silent_or_wish code m t many.place l op (frames_stand code m t many) stands
  | inr at ↦
      let other = limit_stands code m t limits limit at in
      let place = (one_place code m t l at.place (Want op) (Want at.op) stands other).0 in
      let same = one_wish code m t l at.place op at.op stands other in
      within limit (subst (λ k. OpMeets code m t k limits op limit) place (subst (λ o. OpMeets code m t at.place limits o limit) same at.meets))
]

waits_over : {S : Type 0} (code : Code S) (m : Machine S) (t : ℕ) (limits : Limits) → IsWaiting code m t limits → IsOver code m t → ⊥
waits_over code m t limits a = over_no_more code m t a.place (Want a.op) (λ h. cc) (waiting_stands code m t limits a)

over_spent : {S : Type 0} (code : Code S) (m : Machine S) (t : ℕ) (limits : Limits) (limit : Limit) → IsOver code m t → Meets code m t limits limit → ⊥
over_spent code m t limits limit a b = elim (which_limit code m t limits limit b) [
  | inl (is, many) ↦ over_no_more code m t many.place next.Silent (λ h. cc) (frames_stand code m t many) a
  | inr at ↦ over_no_more code m t at.place (Want at.op) (λ h. cc) (limit_stands code m t limits limit at) a
]

-- the same answer twice
same_silent : {S : Type 0} (code : Code S) (m new last : Machine S) (t : ℕ) → IsSilentTo code m t new → IsSilentTo code m t last → last ≡ new
same_silent code m new last t a b =
    let place = (one_place code m t a.from b.from next.Silent next.Silent (silent_stands code m new t a) (silent_stands code m last t b)).0 in
    let made : Some b.behind ≡ Some a.behind = sym b.quiet ∙ ap (quiet_step code) place ∙ a.quiet in
    let behind : b.behind ≡ a.behind = cc in
    b.leads ∙ ap (λ l. with_thread_at m t (live l) (suc (m.silents t))) behind ∙ sym a.leads

same_reply : {S : Type 0} (code : Code S) (m new last : Machine S) (t : ℕ) (limits : Limits) (e f : Event) → IsAnswered code m t limits e new → IsAnswered code m t limits f last → (f ≡ e) × (last ≡ new)
same_reply code m new last t limits e f a b =
    let stands = answered_stands code m new t limits e a in
    let (place, goes) = one_place code m t a.place b.place (Want e.op) (Want f.op) stands (answered_stands code m last t limits f b) in
    let op : f.op ≡ e.op = one_wish code m t a.place b.place e.op f.op stands (answered_stands code m last t limits f b) in
    let may = subst (λ o. MayAnswer m.now t o f.reply) op b.step.answered in
    let low = subst (λ o. IsChosen m o f.reply) op b.chosen in
    let reply = one_reply m t e.op e.reply f.reply a.step.answered may a.chosen low in
    let thread : f.thread ≡ e.thread = b.mine ∙ sym a.mine in
    let silent : f.silent ≡ e.silent = b.silent ∙ sym a.silent in (
      (λ i. record { thread = thread i; silent = silent i; op = op i; reply = reply i }),
      b.leads ∙ (λ i. moved code m t (place i) (op i) (reply i)) ∙ sym a.leads,
    )

pub one_answer : {S : Type 0} (code : Code S) → AdvancesHaveOneAnswer code
one_answer code m new last t limits Silent Silent a b = (refl, same_silent code m new last t a b)
one_answer code m new last t limits Silent (Step e) a b = absurd (silent_step code m new last t limits e a b)
one_answer code m new last t limits Silent Waits a b = absurd (silent_waits code m new t limits a b.0)
one_answer code m new last t limits Silent Ended a b = absurd (silent_over code m new t a (inl b.0))
one_answer code m new last t limits Silent Halts a b = absurd (silent_over code m new t a (inr b.0))
one_answer code m new last t limits Silent (Spent limit) a b = absurd (silent_spent code m new t limits limit a b.0)
one_answer code m new last t limits (Step e) Silent a b = absurd (silent_step code m last new t limits e b a)
one_answer code m new last t limits (Step e) (Step f) a b = let (event, machine) = same_reply code m new last t limits e f a b in (ap Step event, machine)
one_answer code m new last t limits (Step e) Waits a b = absurd (step_waits code m new t limits e a b.0)
one_answer code m new last t limits (Step e) Ended a b = absurd (step_over code m new t limits e a (inl b.0))
one_answer code m new last t limits (Step e) Halts a b = absurd (step_over code m new t limits e a (inr b.0))
one_answer code m new last t limits (Step e) (Spent limit) a b = absurd (wish_spent code m t limits a.place e.op limit (answered_stands code m new t limits e a) a.within b.0)
one_answer code m new last t limits Waits Silent a b = absurd (silent_waits code m last t limits b a.0)
one_answer code m new last t limits Waits (Step e) a b = absurd (step_waits code m last t limits e b a.0)
one_answer code m new last t limits Waits Waits a b = (refl, b.1 ∙ sym a.1)
one_answer code m new last t limits Waits Ended a b = absurd (waits_over code m t limits a.0 (inl b.0))
one_answer code m new last t limits Waits Halts a b = absurd (waits_over code m t limits a.0 (inr b.0))
one_answer code m new last t limits Waits (Spent limit) a b = absurd (wish_spent code m t limits a.0.place a.0.op limit (waiting_stands code m t limits a.0) a.0.within b.0)
one_answer code m new last t limits Ended Silent a b = absurd (silent_over code m last t b (inl a.0))
one_answer code m new last t limits Halts Silent a b = absurd (silent_over code m last t b (inr a.0))
one_answer code m new last t limits Ended (Step e) a b = absurd (step_over code m last t limits e b (inl a.0))
one_answer code m new last t limits Halts (Step e) a b = absurd (step_over code m last t limits e b (inr a.0))
one_answer code m new last t limits Ended Waits a b = absurd (waits_over code m t limits b.0 (inl a.0))
one_answer code m new last t limits Halts Waits a b = absurd (waits_over code m t limits b.0 (inr a.0))
one_answer code m new last t limits Ended Ended a b = (refl, b.1 ∙ sym a.1)
one_answer code m new last t limits Halts Halts a b = (refl, b.1 ∙ sym a.1)
one_answer code m new last t limits Halts Ended a b = absurd (subst HasEnded a.0.begun b.0)
one_answer code m new last t limits Ended Halts a b = absurd (subst HasEnded b.0.begun a.0)
one_answer code m new last t limits Ended (Spent limit) a b = absurd (over_spent code m t limits limit (inl a.0) b.0)
one_answer code m new last t limits Halts (Spent limit) a b = absurd (over_spent code m t limits limit (inr a.0) b.0)
one_answer code m new last t limits (Spent limit) Silent a b = absurd (silent_spent code m last t limits limit b a.0)
one_answer code m new last t limits (Spent limit) (Step e) a b = absurd (wish_spent code m t limits b.place e.op limit (answered_stands code m last t limits e b) b.within a.0)
one_answer code m new last t limits (Spent limit) Waits a b = absurd (wish_spent code m t limits b.0.place b.0.op limit (waiting_stands code m t limits b.0) b.0.within a.0)
one_answer code m new last t limits (Spent limit) Ended a b = absurd (over_spent code m t limits limit (inl b.0) a.0)
one_answer code m new last t limits (Spent limit) Halts a b = absurd (over_spent code m t limits limit (inr b.0) a.0)
one_answer code m new last t limits (Spent limit) (Spent other) a b = (ap Spent (one_limit code m t limits limit other a.0 b.0), b.1 ∙ sym a.1)
