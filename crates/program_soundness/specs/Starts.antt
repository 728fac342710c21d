-- What holds of a program from its start on.
use Rattle.std.specs.Prelude.{◌≡◌, ◌≢◌, ℕ, List}
use Rattle.code_decode.specs.declared.code.ClassUnit.{ClassUnit}
use Rattle.op_core.specs.declared.Next.TheVariants.{Ended}
use Rattle.op_core.specs.Execution.{IsBlocked, IsReached}
use Rattle.op_core.specs.InPlaceList.{IsGrounded}
use Rattle.op_core.specs.Orderly.{StartWordsAreKept}
use Rattle.op_core.specs.OrdinaryState.{OrdinaryState, live}
use Rattle.java_rows.specs.Thread.{Local, java_code}
use Rattle.row_soundness.specs.Runs.{IsThread}
use Rattle.program_soundness.specs.Soundness.{StateFits, WaitsAt}

-- from a state on, nothing is named that doesn't exist, and no thread comes to a place where it can't go on, but
-- where it waits
pub record RunsFit (us : List ClassUnit) (start : OrdinaryState Local) : Type 0 where
  pub first : StateFits us start
  pub grounded : IsGrounded java_code start
  pub start_words : StartWordsAreKept java_code (IsThread us) start
  pub reached : (s : OrdinaryState Local) → IsReached java_code start s → StateFits us s
  pub go_on : (s : OrdinaryState Local) (t : ℕ) (l : Local) → IsReached java_code start s → s.threads t ≡ live l → java_code.next l ≢ Ended
  pub wait : (s : OrdinaryState Local) (t : ℕ) (from : Local) → IsReached java_code start s → s.threads t ≡ live from → IsBlocked java_code s t from → WaitsAt s t from
