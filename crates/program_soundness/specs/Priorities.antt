-- Priorities of threads in executions.
use Rattle.std.specs.Prelude.{◌≡◌, ℕ, Some, List}
use Rattle.std.specs.List.{AllByRecursion}
use Rattle.op_core.specs.declared.Event.{Event}
use Rattle.op_core.specs.declared.Op.{Op}
use Rattle.op_core.specs.declared.Op.TheVariants.{Start}
use Rattle.op_core.specs.declared.Next.TheVariants.{Want}
use Rattle.op_core.specs.Execution.{IsExecution, IsReached}
use Rattle.op_core.specs.ThreadCode.{quiet_steps}
use Rattle.op_core.specs.OrdinaryState.{OrdinaryState, live}
use Rattle.java_rows.specs.Thread.{Local, java_code}
use Rattle.program_soundness.specs.Seen.{IsPriority}

-- a thread is started with a priority from 1 to 10
abbrev pub StartsInRange : Op → Type 0
StartsInRange (Start r p) = IsPriority p
StartsInRange op = Unit {0}

-- from a state on, each thread that is started, or that another one is about to start, has a priority from 1 to 10
pub record PrioritiesFit (start : OrdinaryState Local) : Type 0 where
  pub wanted : (s : OrdinaryState Local) (t n : ℕ) (from l : Local) (op : Op) → IsReached java_code start s → s.threads t ≡ live from → quiet_steps java_code n from ≡ Some l → java_code.next l ≡ Want op → StartsInRange op
  pub events : (es : List Event) → IsExecution java_code start es → AllByRecursion (λ (e : Event). StartsInRange e.op) es
