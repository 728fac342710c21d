-- What holds of the rows of all programs.
use Rattle.std.specs.Prelude.{◌≡◌, ℕ, List}
use Rattle.java_rows.specs.Plan.{Task, Frame, use_in}

-- How a call goes on doesn't depend on the operands that it took, nor on the task of its frame: so what waits below a
-- frame that was called can't depend on words which that frame overwrites.
abbrev pub UsesKeepNoOperands : Type 0
UsesKeepNoOperands = (f : Frame) (task : Task) (stack rest : List ℕ) → use_in (record f { task = task; stack = stack }) rest ≡ use_in f rest
