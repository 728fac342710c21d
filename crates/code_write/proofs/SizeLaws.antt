-- Instructions have the size of their shape.
use Rattle.std.proofs.Common.{◌≡◌, ℕ, ◌+◌, ◌*◌, ℤ, List, [], ◌∷◌, ◌++◌, length, replicate, refl, arith, length-append}
use Rattle.std.specs.List.{flat_map}
use Rattle.std.proofs.lemmas.List.{length-replicate}
use Rattle.class_walk.specs.Layout.{u4}
use Rattle.instructions.specs.declared.what.Case.{Case}
use Rattle.code_steps.specs.Operands.{padding_of}
use Rattle.code_write.specs.declared.operands.Operands.{Operands}
use Rattle.code_write.specs.declared.operands.Operands.TheVariants.{Absent, Byte, Short, ByteIndex, Index, Local, WideLocal, Increment, WideIncrement, Near, Far, TableSwitch, LookupSwitch, InterfaceCall, NewArray}
use Rattle.code_write.specs.declared.operands.Written.{Written}
use Rattle.code_write.specs.Instruction.{s4, far_bytes, padding_bytes, highest, table_bytes, case_bytes, lookup_bytes, operand_bytes, wide_bytes, instruction_bytes, shape, size}

abbrev pub zeros : ℕ → List ℕ
zeros n = replicate n 0

pub length_zeros : (n : ℕ) → length (zeros n) ≡ n
length_zeros n = length-replicate n 0

targets_size : (at : ℕ) (targets : List ℕ) → length (flat_map (far_bytes at) targets) ≡ 4 * length targets
targets_size at [] = refl
targets_size at (t ∷ ts) = let others = targets_size at ts in omega (arith, others)

cases_size : (at : ℕ) (cases : List (Case ℕ)) → length (flat_map (case_bytes at) cases) ≡ 8 * length cases
cases_size at [] = refl
cases_size at (c ∷ cs) = let others = cases_size at cs in omega (arith, others)

table_size : (at default : ℕ) (low : ℤ) (targets : List ℕ) → length (table_bytes at default low targets) ≡ padding_of at + 12 + 4 * length targets
table_size at default low targets =
    let rest : List ℕ = far_bytes at default ++ (s4 low ++ (s4 (highest low targets) ++ flat_map (far_bytes at) targets)) in
    let whole = length-append (padding_bytes at) rest in
    let zeros = length_zeros (padding_of at) in
    let each = targets_size at targets in
    omega (arith, whole, zeros, each)

lookup_size : (at default : ℕ) (cases : List (Case ℕ)) → length (lookup_bytes at default cases) ≡ padding_of at + 8 + 8 * length cases
lookup_size at default cases =
    let rest : List ℕ = far_bytes at default ++ (u4 (length cases) ++ flat_map (case_bytes at) cases) in
    let whole = length-append (padding_bytes at) rest in
    let zeros = length_zeros (padding_of at) in
    let each = cases_size at cases in
    omega (arith, whole, zeros, each)

sized : (at n : ℕ) (o : Operands ℕ) → length (wide_bytes o ++ (n ∷ operand_bytes at o)) ≡ size at (shape o)
sized at n Absent = refl
sized at n (Byte _) = refl
sized at n (Short _) = refl
sized at n (ByteIndex _) = refl
sized at n (Index _) = refl
sized at n (Local _) = refl
sized at n (WideLocal _) = refl
sized at n (Increment _ _) = refl
sized at n (WideIncrement _ _) = refl
sized at n (Near _) = refl
sized at n (Far _) = refl
sized at n (TableSwitch default low targets) = let e = table_size at default low targets in omega (arith, e)
sized at n (LookupSwitch default cases) = let e = lookup_size at default cases in omega (arith, e)
sized at n (InterfaceCall _ _) = refl
sized at n (NewArray _) = refl

pub written_size : (at : ℕ) (w : Written ℕ) → length (instruction_bytes at w) ≡ size at (shape w.operands)
written_size at w = sized at w.number w.operands
