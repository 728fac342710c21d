-- Type soundness of accepted programs.
use Rattle.std.specs.Prelude.{◌≡◌, ◌≢◌, ◌<◌, ◌≤◌, ◌^◌, ℕ, true, Some, List, length}
use Rattle.op_core.specs.declared.Op.TheVariants.{Enter, Rewake, Start, Join, Init}
use Rattle.op_core.specs.declared.Next.TheVariants.{Want, Ended}
use Rattle.op_core.specs.Execution.{IsBlocked, IsReached}
use Rattle.op_core.specs.OrdinaryStep.{IsFreeNumber}
use Rattle.op_core.specs.ThreadCode.{quiet_steps}
use Rattle.code_decode.specs.declared.code.ClassUnit.{ClassUnit}
use Rattle.builtin_world.specs.declared.number.TheConstants.{THREAD}
use Rattle.link_types.specs.declared.types.ObjectType.TheVariants.{Class}
use Rattle.link_rules.specs.Layout.{object_words}
use Rattle.link_rules.specs.Names.{program_names, is_class_number}
use Rattle.java_rows.specs.Program.{is_of_file}
use Rattle.row_soundness.specs.Knowledge.{CanBeMade}
use Rattle.op_core.specs.declared.Op.{Op}
use Rattle.op_core.specs.InPlaceList.{Entry, IsInPlaceList, IsGrounded}
use Rattle.op_core.specs.Orderly.{StartWordsAreKept}
use Rattle.op_core.specs.OrdinaryState.{Object, OrdinaryState, live, free, IsOpenTo, IsNotifiedFor, HasEnded, IsOpenClass}
use Rattle.java_rows.specs.Thread.{Local, java_code}
use Rattle.kept_states.specs.Kept.{IsKeptState}
use Rattle.row_soundness.specs.Runs.{ObjectFits, MayStandFor, MayStand, RunsLocal, IsThread}

-- how large the objects and the numbers of classes of a linked program are; no row asks for it
pub record HasRoom (us : List ClassUnit) : Type 0 where
  pub numbers : (c : ℕ) → is_class_number (program_names us) c ≡ true → c < 2 ^ 32
  pub files : (c : ℕ) → is_of_file us c ≡ true → c < 2 ^ 32
  pub few : (c n : ℕ) → CanBeMade us c n → object_words (program_names us) c n ≤ 2 ^ 32
  pub threads : (r : ℕ) (o : Object) → ObjectFits us r o → MayStandFor us o.class (Class THREAD) → (IsThread us o.class ≡ true) × (1 < o.words)

-- each object is one of the program, each word may be where it is, and each thread's frames have the types that
-- verification gives them
abbrev pub StateFits : List ClassUnit → OrdinaryState Local → Type 0
StateFits us s = IsKeptState (RunsLocal us) (MayStand us) (ObjectFits us) s

abbrev pub ListsFit : List ClassUnit → Type 0
ListsFit us = (s : ℕ → OrdinaryState Local) (es : List Entry) → StateFits us (s 0) → IsInPlaceList java_code s es → StateFits us (s (length es))

abbrev pub StartsAreGrounded : List ClassUnit → Type 0
StartsAreGrounded us = (start : OrdinaryState Local) → StateFits us start → IsGrounded java_code start

abbrev pub StartsKeepStartWords : List ClassUnit → Type 0
StartsKeepStartWords us = (start : OrdinaryState Local) → StateFits us start → StartWordsAreKept java_code (IsThread us) start

abbrev pub ExecutionsFit : List ClassUnit → Type 0
ExecutionsFit us = (start s : OrdinaryState Local) → StateFits us start → IsReached java_code start s → StateFits us s

-- a live thread wants an operation or has a silent step
abbrev pub LiveThreadsGoOn : List ClassUnit → Type 0
LiveThreadsGoOn us = (s : OrdinaryState Local) (t : ℕ) (l : Local) → StateFits us s → s.threads t ≡ live l → java_code.next l ≢ Ended

-- why an operation has no step although what it names is there
abbrev pub Waits : OrdinaryState Local → ℕ → Op → Type 0
Waits s t (Enter r) = IsOpenTo t (s.monitors r) → ⊥
Waits s t (Rewake r) = IsNotifiedFor r (s.waiting t) → s.monitors r ≡ free → ⊥
Waits s t (Start r p) = (s.starts r ≡ 0) × ((n : ℕ) → IsFreeNumber s.threads n → ⊥)
Waits s t (Join r) = (0 < s.starts r) × (HasEnded (s.threads (s.starts r)) → ⊥)
Waits s t (Init c) = IsOpenClass t (s.classes c) → ⊥
Waits s t op = ⊥

-- after some silent steps thread t wants an operation, at which it waits
pub record WaitsAt (s : OrdinaryState Local) (t : ℕ) (from : Local) : Type 0 where
  pub silent : ℕ
  pub at_op : Local
  pub op : Op
  pub quiet : quiet_steps java_code silent from ≡ Some at_op
  pub wanted : java_code.next at_op ≡ Want op
  pub waits : Waits s t op

abbrev pub BlockedThreadsWait : List ClassUnit → Type 0
BlockedThreadsWait us = (start s : OrdinaryState Local) (t : ℕ) (from : Local) → StateFits us start → IsReached java_code start s → s.threads t ≡ live from → IsBlocked java_code s t from → WaitsAt s t from
