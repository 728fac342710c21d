-- The arrays that the lines of an execution name.
use Rattle.std.specs.Prelude.{List}
use Rattle.code_decode.specs.declared.code.ClassUnit.{ClassUnit}
use Rattle.op_core.specs.declared.Event.{Event}
use Rattle.op_core.specs.OrdinaryState.{OrdinaryState}
use Rattle.op_core.specs.Execution.{Leads, printed}
use Rattle.java_rows.specs.Thread.{Local, java_code}
use Rattle.row_soundness.specs.Runs.{IsThread}
use Rattle.core_law.specs.Arrays.{NameArrays}

-- a line that an execution from this state has printed of a text that the program made names an array that is there in the last
-- state, with one word for each unit
abbrev pub PrintedLinesNameArrays : List ClassUnit → OrdinaryState Local → Type 0
PrintedLinesNameArrays us start = (last : OrdinaryState Local) (es : List Event) → Leads java_code start es last → NameArrays (IsThread us) last.objects (printed es)
