-- Reading items one after the other, as a loop does, where memory may run out.
use Rattle.std.proofs.Common.{◌≡◌, ℕ, ◌-◌, ◌<◌, List, Result}
use Rattle.class_walk.specs.Reading.{items_at}
use Rattle.class_walk.proofs.Loop.{with_front, stops}
use Rattle.code_steps.specs.declared.fault.StepFault.{StepFault}
use Rattle.code_steps.specs.declared.fault.StepRefusal.{StepRefusal}
use Rattle.code_steps.specs.declared.fault.StepRefusal.TheVariants as refusals
use Rattle.code_steps.specs.Reading.{Fails, FailsExactly}

-- a failure of a function that takes no memory is one of a function that does
pub fails : {X : Type 0} (e : StepRefusal) (read : Result X StepFault) → FailsExactly e read → Fails e read
fails refusals.NoMemory read failed = tt
fails (refusals.Fault f) read failed = failed

pub ends : {X : Type 0} (e : StepRefusal) (item : List ℕ → Result (X × List ℕ) StepFault) (front : List X) (count i : ℕ) (s : List ℕ) (total : Result (List X × List ℕ) StepFault) → i < count → Fails e (item s)
    → with_front front (items_at item (count - i) s) ≡ total → Fails e total
ends refusals.NoMemory item front count i s total lt h so_far = tt
ends (refusals.Fault f) item front count i s total lt h so_far = stops f item front count i s total lt h so_far
