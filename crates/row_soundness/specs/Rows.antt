-- What the rows of all instructions give.
use Rattle.std.proofs.Common.{ℕ, None, Some, List, [], ◌∷◌, drop}
use Rattle.builtin_world.specs.declared.number.TheConstants.{THREAD}
use Rattle.code_decode.specs.declared.code.ClassUnit.{ClassUnit}
use Rattle.instructions.specs.declared.what.Instr.{Instr}
use Rattle.instructions.specs.declared.what.Target.{Target}
use Rattle.instructions.specs.declared.what.What.{What}
use Rattle.link_types.specs.declared.types.ObjectType.TheVariants.{Class}
use Rattle.java_rows.specs.Calls.{goes_on_at, invokes_selected}
use Rattle.java_rows.specs.Plan.{Task, Frame, Use, use_in, asks_class}
use Rattle.java_rows.specs.Program.{select, thread_run}
use Rattle.java_rows.specs.Rows.{row}
use Rattle.java_rows.specs.Thread.{launch}
use Rattle.row_soundness.specs.Senses.{Sense}
use Rattle.row_soundness.specs.Fits.{anything, IsBegun, StandsIn, returns_of, BetweenCalls, OperandFits, PlanFits}
use Rattle.row_soundness.specs.Operands.{Begins}

-- what the rows of all instructions give, with calls that begin again and the launch of threads
pub record RowsFit {P : Type 0} (know : Sense P) (us : List ClassUnit) : Type 0 where
  pub rows : (me : ℕ) (h : P) (f : Frame) (i : Instr Target) (b : Begins know us h f i) → know.is_of h me (Class THREAD) → PlanFits know us (Some (returns_of know us h f b.stands)) anything (row us me f i.what) h
  pub tasks : (me : ℕ) (h : P) (f : Frame) (s : StandsIn know us h f) (task : Task) → know.is_of h me (Class THREAD) → OperandFits know us h task → BetweenCalls know us h f s
      → PlanFits know us (Some (returns_of know us h f s)) anything (goes_on_at us me (use_in f (drop 1 f.stack)) task) h
  pub launched : (me : ℕ) (h : P) (task : Task) → know.is_of h me (Class THREAD) → OperandFits know us h task → PlanFits know us None anything (goes_on_at us me launch task) h
  -- the first plan of a started thread
  pub children : (me : ℕ) (h : P) → know.is_of h me (Class THREAD) → PlanFits know us None anything (asks_class me (λ c n. invokes_selected us me (me ∷ []) launch (select us c thread_run))) h
  pub rows_begin : (me : ℕ) (f : Frame) (what : What Target) → IsBegun (row us me f what)
  pub tasks_begin : (me : ℕ) (u : Use) (task : Task) → IsBegun (goes_on_at us me u task)
