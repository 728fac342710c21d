-- Toy programs that meet the premises of the laws on thread codes.
use Rattle.std.specs.Prelude.{◌≡◌, ℕ, ◌<◌, ◌^◌, Bool, Some, List, slice_get}
use Rattle.op_core.specs.declared.Op.{Op}
use Rattle.op_core.specs.declared.Op.TheVariants.{Wait, Rewake, Init, InitDone, End}
use Rattle.op_core.specs.OrdinaryState.{OrdinaryState, live, IsThere}
use Rattle.op_core.specs.InPlaceList.{IsAllThere, IsInRange, IsGrounded}
use Rattle.op_core.specs.Orderly.{IsOrderly, KeepsStartWord, StartWordsAreKept}
use Rattle.toy_code.specs.declared.script.ToyStep.TheVariants.{Do, WaitOn}
use Rattle.toy_code.specs.declared.script.ToyScript.{ToyScript}
use Rattle.toy_code.specs.Toy.{ToyState, steps_of, started, toy_code}

-- the thread makes the steps of one of these scripts
pub record Executes (scripts : List ToyScript) (l : ToyState) : Type 0 where
  pub program : l.scripts ≡ scripts
  pub own : (r : ℕ) × (l.steps ≡ steps_of scripts r)

abbrev pub AllExecute : List ToyScript → OrdinaryState ToyState → Type 0
AllExecute scripts s = (t : ℕ) (l : ToyState) → s.threads t ≡ live l → Executes scripts l

-- the fact holds of each operation that a script does
abbrev pub EachDone : (Op → Type 0) → List ToyScript → Type 0
EachDone Fact scripts = (r i : ℕ) (op : Op) → slice_get (steps_of scripts r) i ≡ Some (Do op) → Fact op

-- and of each object on which one waits
abbrev pub EachWaitedOn : (ℕ → Type 0) → List ToyScript → Type 0
EachWaitedOn Fact scripts = (r i q : ℕ) → slice_get (steps_of scripts r) i ≡ Some (WaitOn q) → Fact q

-- no half of a wait and no end; a class below the number
abbrev pub IsOrderlyOp : ℕ → Op → Type 0
IsOrderlyOp classes (Wait r) = ⊥
IsOrderlyOp classes (Rewake r) = ⊥
IsOrderlyOp classes (End x) = ⊥
IsOrderlyOp classes (Init c) = c < classes
IsOrderlyOp classes (InitDone c ok) = c < classes
IsOrderlyOp classes _ = Unit {0}

-- a thread of scripts that do such operations alone goes in order
abbrev pub ToysAreOrderly : Type 0
ToysAreOrderly = (scripts : List ToyScript) (classes r : ℕ)
    → EachDone (IsOrderlyOp classes) scripts → IsOrderly toy_code (started scripts r) classes

-- a start at which all that the scripts name is there, and in range, is grounded
abbrev pub ToysAreGrounded : Type 0
ToysAreGrounded = (scripts : List ToyScript) (start : OrdinaryState ToyState) → AllExecute scripts start
    → EachDone (λ op. IsAllThere start.objects op × IsInRange op) scripts
    → EachWaitedOn (λ q. IsThere start.objects q × (q < 2 ^ 32)) scripts
    → IsGrounded toy_code start

-- scripts whose operations leave the start words of the start alone keep them
abbrev pub ToysKeepStartWords : Type 0
ToysKeepStartWords = (scripts : List ToyScript) (is_thread : ℕ → Bool) (start : OrdinaryState ToyState)
    → AllExecute scripts start → EachDone (KeepsStartWord is_thread start.objects) scripts
    → StartWordsAreKept toy_code is_thread start
