-- Which threads are enabled.
use Rattle.std.proofs.Common.{◌≡◌, ◌↔◌, ℕ, Bool, true, false, Option, None, Some, IsSome, IsTrue, refl, sym, subst}
use Rattle.std.specs.Option.{option_map}
use Rattle.op_core.specs.declared.Op.{Op}
use Rattle.op_core.specs.declared.Op.TheVariants.{New, Enter, Start}
use Rattle.op_core.specs.declared.Next.TheVariants.{Want}
use Rattle.op_core.specs.declared.Limit.{Limit}
use Rattle.op_core.specs.declared.Limit.TheVariants.{Heap, Threads, Depth}
use Rattle.op_core.specs.declared.Limits.{Limits}
use Rattle.op_core.specs.ThreadCode.{Code}
use Rattle.op_core.specs.OrdinaryState.{Monitor, free, held, live, IsThere, IsOwner, IsOpenTo}
use Rattle.op_core.specs.OrdinaryStep.{CanStep}
use Rattle.machine_tables.specs.declared.objects.HeapObject.{HeapObject}
use Rattle.machine_tables.specs.Tables.{header_of, monitor_in}
use Rattle.ordinary_machine.specs.Machine.{Machine, HasBegun}
use Rattle.ordinary_machine.specs.Advance.{OpMeets, Meets, IsWaiting, MayAdvance, LacksNumber}
use Rattle.ordinary_machine.proofs.OutcomeLemmas.{Stands, one_wish, over_no_more, waiting_stands}

-- an owned monitor is an object's
pub owner_there : (o : Option HeapObject) (t : ℕ) → IsOwner t (monitor_in o) → IsSome (option_map header_of o)
owner_there None t owner = absurd owner
owner_there (Some x) t owner = refl

owner_open : (t : ℕ) (monitor : Monitor) → IsOwner t monitor → IsOpenTo t monitor
owner_open t free owner = absurd owner
owner_open t (held owner count) same = same

lacks_meets : {S : Type 0} (code : Code S) (m : Machine S) (t : ℕ) (l : S) (limits : Limits) (op : Op) → LacksNumber m op → OpMeets code m t l limits op Threads
lacks_meets code m t l limits (Start r p) lacks = lacks
lacks_meets code m t l limits _ lacks = absurd lacks

-- an operation with no step meets no limit but that of thread numbers
no_limit : {S : Type 0} (code : Code S) (m : Machine S) (t : ℕ) (l : S) (limits : Limits) (op : Op) (limit : Limit) → ((r : ℕ) → IsOwner t (m.now.monitors r) → IsThere m.now.objects r)
    → (CanStep m.now t op → ⊥) → (LacksNumber m op → ⊥) → OpMeets code m t l limits op limit → ⊥
no_limit code m t l limits (New c n) Heap owned cannot has meets = cannot tt
no_limit code m t l limits (Start r p) Threads owned cannot has meets = has meets
no_limit code m t l limits (Enter r) Depth owned cannot has meets = cannot (owned r meets.0, owner_open t (m.now.monitors r) meets.0)
no_limit code m t l limits _ _ owned cannot has meets = absurd meets

-- a thread whose operation has no step is enabled where it lacks a number
pub lacking_enabled : {S : Type 0} (code : Code S) (m : Machine S) (t : ℕ) (l : S) (op : Op) (lacks : Bool) → ((r : ℕ) → IsOwner t (m.now.monitors r) → IsThere m.now.objects r)
    → m.now.threads t ≡ live l → code.next l ≡ Want op → (CanStep m.now t op → ⊥) → IsTrue lacks ↔ LacksNumber m op → IsTrue lacks ↔ MayAdvance code m t
lacking_enabled {S} code m t l op true owned begun wanted cannot (tells, back) =
    let stands : Stands code m t l (Want op) = record { begun = begun; goes_on = wanted } in
    let waits_not : (limits : Limits) → IsWaiting code m t limits → ⊥ = λ limits waits.
    let same = one_wish code m t l waits.place op waits.op stands (waiting_stands code m t limits waits) in
    waits.within Threads (subst (λ o. OpMeets code m t waits.place limits o Threads) (sym same) (lacks_meets code m t waits.place limits op (tells refl))) in
    (λ _. record { begun = subst HasBegun (sym begun) tt; goes_on = waits_not; more = over_no_more code m t l (Want op) (λ h. cc) stands }, λ _. refl)
lacking_enabled {S} code m t l op false owned begun wanted cannot (tells, back) =
    let limits : Limits = record { turns = 0; heap = 0; sections = 0 } in
    let has : LacksNumber m op → ⊥ = λ h. let is : false ≡ true = back h in cc in
    let waits : IsWaiting code m t limits = record { place = l; op = op; begun = begun; wanted = wanted; cannot = cannot; within = λ limit. no_limit code m t l limits op limit owned cannot has } in
    (λ is. absurd (cc), λ enabled. absurd (enabled.goes_on limits waits))

-- the limit that the wanted operation meets
pub limit_met : {S : Type 0} (code : Code S) (m : Machine S) (t : ℕ) (l : S) (limits : Limits) (op : Op) (limit : Limit) → m.now.threads t ≡ live l → code.next l ≡ Want op
    → OpMeets code m t l limits op limit → Meets code m t limits limit
limit_met code m t l limits (New c n) Heap begun wanted meets = record { place = l; op = New c n; begun = begun; wanted = wanted; meets = meets }
limit_met code m t l limits (Start r p) Threads begun wanted meets = record { place = l; op = Start r p; begun = begun; wanted = wanted; meets = meets }
limit_met code m t l limits (Enter r) Depth begun wanted meets = record { place = l; op = Enter r; begun = begun; wanted = wanted; meets = meets }
limit_met code m t l limits _ _ begun wanted meets = absurd meets
