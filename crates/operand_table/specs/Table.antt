-- What the entries of the pools of a program stand for, as it is kept.
use Rattle.std.specs.Prelude.{◌≡◌, ℕ, Some, List, [], length, slice_get, slice_index_or}
use Rattle.class_walk.specs.declared.class.Constant.{Constant}
use Rattle.code_decode.specs.declared.code.ClassUnit.{ClassUnit}
use Rattle.link_types.specs.declared.operands.Operand.{Operand}
use Rattle.link_types.specs.declared.operands.Operand.TheVariants.{Nothing}
use Rattle.link_rules.specs.Classes.{number_of_file}
use Rattle.link_rules.specs.Names.{ProgramNames, program_names}
use Rattle.link_rules.specs.Operands.{operand_of}
use Rattle.operand_table.specs.declared.table.OperandTable.{OperandTable}

-- what is kept for an index of the pool of a file
abbrev pub kept_operand : List (List Operand) → ℕ → ℕ → Operand
kept_operand rows k i = slice_index_or (slice_index_or rows k []) i Nothing

-- what the first entries of the pool of a class stand for, by their indices
pub record AreOperands (p : ProgramNames) (this : ℕ) (pool : List Constant) (n : ℕ) (operands : List Operand) : Type 0 where
  pub count : length operands ≡ n
  pub each : (i : ℕ) (o : Operand) → slice_get operands i ≡ Some o → o ≡ operand_of p this pool i (slice_get pool i)

-- what the entries of the pools of a program stand for, by file and index
pub record AreOperandsOf (us : List ClassUnit) (table : OperandTable) : Type 0 where
  pub count : length table.rows.items ≡ length us
  pub each : (k : ℕ) (u : ClassUnit) (row : List Operand) → slice_get us k ≡ Some u → slice_get table.rows.items k ≡ Some row →
      AreOperands (program_names us) (number_of_file k) u.file.pool (length u.file.pool) row
