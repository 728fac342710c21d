-- Which threads are enabled: this is decided for each thread, by the step that it has next.
use Rattle.std.proofs.Common.{◌≡◌, ◌⊎◌, inl, inr, ℕ, zero, suc, ◌<◌, ◌≤◌, Bool, true, false, cond, ◌&&◌, ltb, slice_get, Option, Some, None, IsSome, IsSomeAnd, refl, sym, subst, arith}
use Rattle.std.specs.Option.{unwrap_or}
use Rattle.std.proofs.lemmas.Bool.{cases_lt}
use Rattle.std.proofs.lemmas.Bool.Decides.{leb_tells}
use Rattle.op_core.specs.declared.Op.{Op}
use Rattle.op_core.specs.declared.Op.TheVariants.{ClassOf, Read, Write, New, Enter, Exit, Wait, Rewake, Notify, Print, Start, Join, Init, InitDone, End}
use Rattle.op_core.specs.declared.Next.{Next}
use Rattle.op_core.specs.declared.Next.TheVariants.{Want}
use Rattle.op_core.specs.declared.Next.TheVariants as next
use Rattle.op_core.specs.declared.Limits.{Limits}
use Rattle.op_core.specs.declared.Limit.{Limit}
use Rattle.op_core.specs.declared.Limit.TheVariants.{Heap, Threads, Frames, Depth}
use Rattle.op_core.specs.ThreadCode.{Code}
use Rattle.op_core.specs.OrdinaryState.{Object, Monitor, free, held, Waiting, awake, waits, notified, ClassState, unready, claimed, ready, bad, Thread, unused, live, ended, OrdinaryState, IsOpenTo, IsNotifiedFor, IsOpenClass, HasEnded}
use Rattle.op_core.specs.OrdinaryStep.{CanStep, IsFreeNumber}
use Rattle.op_core.proofs.PointwiseLemmas.{same_or_other}
use Rattle.machine_tables.specs.declared.threads.Seat.{Seat}
use Rattle.machine_tables.specs.Tables.{object_at, thread_in}
use Rattle.ordinary_machine.specs.declared.ordinary.Ordinary.{Ordinary}
use Rattle.ordinary_machine.specs.Machine.{Machine, machine_of, HasBegun}
use Rattle.ordinary_machine.specs.Advance.{OpMeets, Meets, IsAtLimit, LacksNumber, MayAdvance}
use Rattle.ordinary_machine.proofs.OutcomeLemmas.{Stands, one_wish, silent_or_wish, over_no_more, waiting_stands}
use Rattle.ordinary_machine.proofs.EnabledLemmas.{owner_there, lacking_enabled}

-- the fact holds or doesn't
abbrev pub Decided : Type 0 → Type 0
Decided P = P ⊎ (P → ⊥)

both : {P Q : Type 0} → Decided P → Decided Q → Decided (P × Q)
both (inl p) (inl q) = inl (p, q)
both (inl p) (inr never) = inr (λ h. never h.1)
both (inr never) q = inr (λ h. never h.0)

all_three : {P Q R : Type 0} → Decided P → Decided Q → Decided R → Decided (P × Q × R)
all_three (inl p) (inl q) (inl r) = inl (p, q, r)
all_three (inl p) (inl q) (inr never) = inr (λ h. never h.2)
all_three (inl p) (inr never) r = inr (λ h. never h.1)
all_three (inr never) q r = inr (λ h. never h.0)

either : {P Q : Type 0} → Decided P → Decided Q → Decided (P ⊎ Q)
either (inl p) q = inl (inl p)
either (inr never) (inl q) = inl (inr q)
either (inr never) (inr none) = inr (λ h. elim h [ inl p ↦ never p | inr q ↦ none q ])

less_decided : (m n : ℕ) → Decided (m < n)
less_decided m n = elim (cases_lt m n) [ inl less ↦ inl less | inr more ↦ inr (λ less. omega (arith, less, more)) ]

most_decided : (m n : ℕ) → Decided (m ≤ n)
most_decided m n = elim (cases_lt n m) [ inl more ↦ inr (λ less. omega (arith, less, more)) | inr less ↦ inl less ]

-- some number below n has the fact, or none
found_below : (P : ℕ → Type 0) → ((k : ℕ) → Decided (P k)) → (n : ℕ) → ((k : ℕ) × P k) ⊎ ((k : ℕ) → k < n → P k → ⊥)
found_below P decided zero = inr (λ k below holds. omega (arith, below))
found_below P decided (suc n) = elim (decided n) [
  | inl holds ↦ inl (n, holds)
  | inr never ↦ elim (found_below P decided n) [
    | inl found ↦ inl found
    | inr none ↦ inr (λ k below holds. elim (same_or_other k n) [
      | inl is ↦ never (subst P is holds)
      | inr other ↦ none k (omega (arith, below, other)) holds
    ])
  ]
]

-- Whether an operation has a step.
there_decided : (o : Option Object) → Decided (IsSome o)
there_decided None = inr (λ is. cc)
there_decided (Some x) = inl refl

word_decided : (o : Option Object) (i : ℕ) → Decided (IsSomeAnd o (λ x. i < x.words))
word_decided None i = inr (λ is. is)
word_decided (Some x) i = less_decided i x.words

open_decided : (t : ℕ) (monitor : Monitor) → Decided (IsOpenTo t monitor)
open_decided t free = inl tt
open_decided t (held owner count) = same_or_other owner t

free_decided : (monitor : Monitor) → Decided (monitor ≡ free)
free_decided free = inl refl
free_decided (held owner count) = inr (λ is. cc)

notified_decided : (r : ℕ) (waiting : Waiting) → Decided (IsNotifiedFor r waiting)
notified_decided r awake = inr (λ is. is)
notified_decided r (waits q count) = inr (λ is. is)
notified_decided r (notified q count) = same_or_other q r

class_decided : (t : ℕ) (class : ClassState) → Decided (IsOpenClass t class)
class_decided t unready = inl tt
class_decided t (claimed owner) = same_or_other owner t
class_decided t ready = inl tt
class_decided t bad = inl tt

ended_decided : {S : Type 0} (thread : Thread S) → Decided (HasEnded thread)
ended_decided unused = inr (λ is. is)
ended_decided (live l) = inr (λ is. is)
ended_decided (ended x) = inl tt

unused_decided : {S : Type 0} (thread : Thread S) → Decided (thread ≡ unused)
unused_decided unused = inl refl
unused_decided (live l) = inr (λ is. cc)
unused_decided (ended x) = inr (λ is. cc)

number_decided : {S : Type 0} (threads : ℕ → Thread S) → Decided ((n : ℕ) × IsFreeNumber threads n)
number_decided threads = elim (found_below (IsFreeNumber threads) (λ k. all_three (most_decided 2 k) (most_decided k 255) (unused_decided (threads k))) 256) [
  | inl found ↦ inl found
  | inr none ↦ inr (λ (n, is). none n (let high = is.1 in omega (arith, high)) is)
]

can_decided : {S : Type 0} (s : OrdinaryState S) (t : ℕ) (op : Op) → Decided (CanStep s t op)
can_decided s t (ClassOf r) = there_decided (s.objects r)
can_decided s t (Read r i) = word_decided (s.objects r) i
can_decided s t (Write r i v) = word_decided (s.objects r) i
can_decided s t (New c n) = inl tt
can_decided s t (Enter r) = both (there_decided (s.objects r)) (open_decided t (s.monitors r))
can_decided s t (Exit r) = there_decided (s.objects r)
can_decided s t (Wait r) = there_decided (s.objects r)
can_decided s t (Rewake r) = all_three (there_decided (s.objects r)) (notified_decided r (s.waiting t)) (free_decided (s.monitors r))
can_decided s t (Notify r) = there_decided (s.objects r)
can_decided s t (Print x) = inl tt
can_decided s t (Start r p) = both (there_decided (s.objects r)) (either (less_decided 0 (s.starts r)) (number_decided s.threads))
can_decided s t (Join r) = both (there_decided (s.objects r)) (either (same_or_other (s.starts r) 0) (ended_decided (s.threads (s.starts r))))
can_decided s t (Init c) = class_decided t (s.classes c)
can_decided s t (InitDone c ok) = inl tt
can_decided s t (End x) = inl tt

lacks_decided : {S : Type 0} (m : Machine S) (op : Op) → Decided (LacksNumber m op)
lacks_decided m (Start r p) = all_three (there_decided (m.now.objects r)) (same_or_other (m.now.starts r) 0) (elim (number_decided m.now.threads) [
  | inl (n, is) ↦ inr (λ none. none n is)
  | inr never ↦ inl (λ n is. never (n, is))
])
lacks_decided m _ = inr (λ lacks. lacks)

-- a thread that is silent next is enabled
pub silent_may : {S : Type 0} (code : Code S) (m : Machine S) (t : ℕ) (l : S) → m.now.threads t ≡ live l → code.next l ≡ next.Silent → MayAdvance code m t
silent_may code m t l begun silent =
    let stands : Stands code m t l next.Silent = record { begun = begun; goes_on = silent } in
    record {
      begun = subst HasBegun (sym begun) tt;
      goes_on = λ limits waits. silent_or_wish code m t l waits.place waits.op stands (waiting_stands code m t limits waits);
      more = over_no_more code m t l next.Silent (λ h. cc) stands;
    }

-- a thread that wants an operation with a step is enabled
pub wanting_may : {S : Type 0} (code : Code S) (m : Machine S) (t : ℕ) (l : S) (op : Op) → m.now.threads t ≡ live l → code.next l ≡ Want op → CanStep m.now t op → MayAdvance code m t
wanting_may code m t l op begun wanted can =
    let stands : Stands code m t l (Want op) = record { begun = begun; goes_on = wanted } in
    record {
      begun = subst HasBegun (sym begun) tt;
      goes_on = λ limits waits. waits.cannot (subst (CanStep m.now t) (one_wish code m t waits.place l waits.op op (waiting_stands code m t limits waits) stands) can);
      more = over_no_more code m t l (Want op) (λ h. cc) stands;
    }

module _ {C S : Type 0} (code : Code S) (state : C → S) (machine : Ordinary C) (t : ℕ) where
  abbrev m : Machine S
  m = machine_of state machine

  lacking_decided : (l : S) (op : Op) → m.now.threads t ≡ live l → code.next l ≡ Want op → (CanStep m.now t op → ⊥) → Decided (MayAdvance code m t)
  lacking_decided l op begun wanted cannot = elim (lacks_decided m op) [
    | inl lacks ↦ inl ((lacking_enabled code m t l op true (λ r. owner_there (object_at machine.state.objects r) t) begun wanted cannot ((λ _. lacks), (λ _. refl))).0 refl)
    | inr never ↦ inr (λ may. let is : false ≡ true = (lacking_enabled code m t l op false (λ r. owner_there (object_at machine.state.objects r) t) begun wanted cannot ((λ is. cc), (λ lacks. absurd (never lacks)))).1 may in cc)
  ]

  next_decided : (l : S) (goes : Next) → m.now.threads t ≡ live l → code.next l ≡ goes → Decided (MayAdvance code m t)
  next_decided l next.Silent begun is = inl (silent_may code m t l begun is)
  next_decided l (Want op) begun is = elim (can_decided m.now t op) [
    | inl can ↦ inl (wanting_may code m t l op begun is can)
    | inr cannot ↦ lacking_decided l op begun is cannot
  ]
  next_decided l next.Ended begun is = inr (λ may. may.more (inr (record { place = l; begun = begun; over = is })))

  thread_decided : (thread : Thread S) → m.now.threads t ≡ thread → Decided (MayAdvance code m t)
  thread_decided unused is = inr (λ may. subst HasBegun is may.begun)
  thread_decided (live l) is = next_decided l (code.next l) is refl
  thread_decided (ended x) is = inr (λ may. may.more (inl (subst HasEnded (sym is) tt)))

  pub may_decided : Decided (MayAdvance code m t)
  may_decided = thread_decided (m.now.threads t) refl

-- no thread of a number from 256 on has begun
past_none : {C S : Type 0} (state : C → S) (seat : Option (Seat C)) (above : Bool) → HasBegun (thread_in state (cond (above && false) seat None)) → ⊥
past_none state seat true begun = begun
past_none state seat false begun = begun

pub begun_below : {C S : Type 0} (state : C → S) (machine : Ordinary C) (t : ℕ) → HasBegun ((machine_of state machine).now.threads t) → t < 256
begun_below {C} state machine t begun =
    let seat : Option (Seat C) = unwrap_or (slice_get machine.state.threads.seats.items t) None in
    elim (leb_tells (suc t) 256) [
      | inl below ↦ let is = below.1 in omega (arith, is)
      | inr past ↦ absurd (past_none state seat (ltb 0 t) (subst (λ b. HasBegun (thread_in state (cond (ltb 0 t && b) seat None))) past.0 begun))
    ]

-- A thread that meets a limit is enabled.
always_meets : {S : Type 0} (code : Code S) (m : Machine S) (t : ℕ) (l k : S) (limits others : Limits) (op : Op) (limit : Limit) → (CanStep m.now t op → ⊥) → OpMeets code m t l limits op limit → OpMeets code m t k others op limit
always_meets code m t l k limits others (New c n) Heap cannot meets = absurd (cannot tt)
always_meets code m t l k limits others (Start r p) Threads cannot meets = meets
always_meets code m t l k limits others (Enter r) Depth cannot meets = meets
always_meets code m t l k limits others _ _ cannot meets = absurd meets

at_limit_may : {S : Type 0} (code : Code S) (m : Machine S) (t : ℕ) (limits : Limits) (limit : Limit) → IsAtLimit code m t limits limit → MayAdvance code m t
at_limit_may code m t limits limit at =
    let stands : Stands code m t at.place (Want at.op) = record { begun = at.begun; goes_on = at.wanted } in
    record {
      begun = subst HasBegun (sym at.begun) tt;
      goes_on = λ others waits.
          let same : waits.op ≡ at.op = one_wish code m t at.place waits.place at.op waits.op stands (waiting_stands code m t others waits) in
          let meets : OpMeets code m t at.place limits waits.op limit = subst (λ op. OpMeets code m t at.place limits op limit) (sym same) at.meets in
          waits.within limit (always_meets code m t at.place waits.place limits others waits.op limit waits.cannot meets);
      more = over_no_more code m t at.place (Want at.op) (λ h. cc) stands;
    }

pub limit_may : {S : Type 0} (code : Code S) (m : Machine S) (t : ℕ) (limits : Limits) (limit : Limit) → Meets code m t limits limit → MayAdvance code m t
limit_may code m t limits Frames many = silent_may code m t many.place many.begun many.silent
limit_may code m t limits limit at = at_limit_may code m t limits limit at
