-- Instructions that are laid out in written code are those that were written.
use Rattle.std.proofs.Common.{◌≡◌, ℕ, suc, ◌+◌, ℤ, List, [], ◌∷◌, ◌++◌, length, drop, Option, Some, ◌⊎◌, inl, inr, refl, sym, ap, subst, ◌∙◌, arith, length-append}
use Rattle.std.proofs.Math.Seq.{drop-length}
use Rattle.class_walk.specs.declared.class.Constant.{Constant}
use Rattle.class_walk.specs.Layout.{u1}
use Rattle.instructions.specs.declared.form.Form.TheVariants as forms
use Rattle.instructions.specs.declared.what.Instr.{Instr}
use Rattle.instructions.specs.declared.what.What.{What}
use Rattle.instructions.specs.Table.{Instruction, row, row_numbered, table}
use Rattle.code_frames.proofs.ByteLaws.{some_is}
use Rattle.code_steps.specs.CodeArray.{IsInstruction, AreLaidOut}
use Rattle.code_steps.specs.Operands.{AreWide, IsOperands}
use Rattle.code_write.specs.declared.operands.Operands.{Operands}
use Rattle.code_write.specs.declared.operands.Operands.TheVariants.{Absent, Byte, Short, ByteIndex, Index, Local, WideLocal, Increment, WideIncrement, Near, Far, TableSwitch, LookupSwitch, InterfaceCall, NewArray}
use Rattle.code_write.specs.declared.operands.Written.{Written}
use Rattle.code_write.specs.Instruction.{operand_bytes, wide_bytes, instruction_bytes}
use Rattle.code_write.specs.Meaning.{IsMeant, code_bytes, AreMeant}
use Rattle.code_write.proofs.CodeLaws.{one_byte}
use Rattle.assembler_laws.specs.WrittenCode.Suits.{IsSuited, AreSuited}
use Rattle.assembler_laws.proofs.WrittenCode.OperandLaws.{MeansBefore, operands_same, wide_operands_same}

-- ---- rows

wide_row : Instruction
wide_row = row 196 "wide" forms.Wide

-- the row of a number
same_row : (n m : ℕ) (r s : Instruction) → n ≡ m → row_numbered n ≡ Some r → row_numbered m ≡ Some s → r ≡ s
same_row n m r s e of_n of_m = some_is r s (sym of_n ∙ ap row_numbered e ∙ of_m)

wide_numbered : row_numbered 196 ≡ Some wide_row
unfolding table wide_row
wide_numbered = refl

-- the operands of 196 are those of wide
wide_is : (pool : List Constant) (at n : ℕ) (r : Instruction) (what : What ℤ) (text : List ℕ) → n ≡ 196 → row_numbered n ≡ Some r → IsOperands pool at r.form what text → IsOperands pool at forms.Wide what text
unfolding wide_row
wide_is pool at n r what text e numbered is = subst (λ (s : Instruction). IsOperands pool at s.form what text) (same_row n 196 r wide_row e numbered wide_numbered) is

-- ---- one instruction

wide_or_not : (o : Operands ℕ) → (wide_bytes o ≡ []) ⊎ (wide_bytes o ≡ 196 ∷ [])
wide_or_not (WideLocal local) = inr refl
wide_or_not (WideIncrement local by) = inr refl
wide_or_not Absent = inl refl
wide_or_not (Byte n) = inl refl
wide_or_not (Short n) = inl refl
wide_or_not (ByteIndex index) = inl refl
wide_or_not (Index index) = inl refl
wide_or_not (Local local) = inl refl
wide_or_not (Increment local by) = inl refl
wide_or_not (Near target) = inl refl
wide_or_not (Far target) = inl refl
wide_or_not (TableSwitch default low targets) = inl refl
wide_or_not (LookupSwitch default cases) = inl refl
wide_or_not (InterfaceCall index count) = inl refl
wide_or_not (NewArray element) = inl refl

-- the first byte and the others
first_same : (x y : ℕ) (xs ys : List ℕ) → x ∷ xs ≡ y ∷ ys → (x ≡ y) × (xs ≡ ys)
first_same x y xs ys e = (cc, cc)

-- the instruction is the written one, and the same bytes come after both
abbrev IsMeantBefore : List Constant → ℕ → Written ℕ → What ℤ → List ℕ → List ℕ → Type 0
IsMeantBefore pool at w what rest behind = IsMeant pool at w what × (rest ≡ behind)

meant : (pool : List Constant) (at : ℕ) (w : Written ℕ) (s : IsSuited at w) (what : What ℤ) (rest behind : List ℕ) → MeansBefore pool s.row.form w.operands what rest behind → IsMeantBefore pool at w what rest behind
meant pool at w s what rest behind m = (record { row = s.row; numbered = s.numbered; in_range = s.in_range; widths = s.widths; means = m.0 }, m.1)

narrow_same : (pool : List Constant) (at : ℕ) (w : Written ℕ) → IsSuited at w → (number : ℕ) (r : Instruction) (what : What ℤ) (text rest behind : List ℕ) → row_numbered number ≡ Some r → IsOperands pool at r.form what text
    → wide_bytes w.operands ≡ [] → number ∷ (text ++ rest) ≡ instruction_bytes at w ++ behind → IsMeantBefore pool at w what rest behind
narrow_same pool at w s number r what text rest behind numbered is narrow e =
    let whole : number ∷ (text ++ rest) ≡ w.number ∷ (operand_bytes at w.operands ++ behind) = e ∙ ap (λ (t : List ℕ). (t ++ (w.number ∷ operand_bytes at w.operands)) ++ behind) narrow in
    let parts = first_same number w.number (text ++ rest) (operand_bytes at w.operands ++ behind) whole in
    let right : IsOperands pool at s.row.form what text = subst (λ (q : Instruction). IsOperands pool at q.form what text) (same_row number w.number r s.row parts.0 numbered s.numbered) is in
    meant pool at w s what rest behind (operands_same pool at s.row.form w.operands what text rest behind s.suits s.in_range s.widths narrow right parts.1)

wide_same : (pool : List Constant) (at : ℕ) (w : Written ℕ) → IsSuited at w → (number : ℕ) (r : Instruction) (what : What ℤ) (text rest behind : List ℕ) → row_numbered number ≡ Some r → IsOperands pool at r.form what text
    → wide_bytes w.operands ≡ 196 ∷ [] → number ∷ (text ++ rest) ≡ instruction_bytes at w ++ behind → IsMeantBefore pool at w what rest behind
wide_same pool at w s number r what text rest behind numbered is wide e =
    let own : List ℕ = w.number ∷ (operand_bytes at w.operands ++ behind) in
    let whole : number ∷ (text ++ rest) ≡ 196 ∷ own = e ∙ ap (λ (t : List ℕ). (t ++ (w.number ∷ operand_bytes at w.operands)) ++ behind) wide in
    let parts = first_same number 196 (text ++ rest) own whole in
    let widened = wide_is pool at number r what text parts.0 numbered is in
    let byte : u1 widened.0 ≡ widened.0 ∷ [] = one_byte widened.0 widened.2 in
    let spelled : text ≡ (widened.0 ∷ []) ++ widened.1 = widened.4 ∙ ap (λ (t : List ℕ). t ++ widened.1) byte in
    let behind_wide : widened.0 ∷ (widened.1 ++ rest) ≡ own = ap (λ (t : List ℕ). t ++ rest) (sym spelled) ∙ parts.1 in
    let inner = first_same widened.0 w.number (widened.1 ++ rest) (operand_bytes at w.operands ++ behind) behind_wide in
    let Are : Option Instruction → Type 0 = λ q. AreWide q what widened.1 in
    let right = subst Are (ap row_numbered inner.0 ∙ s.numbered) widened.3 in
    meant pool at w s what rest behind (wide_operands_same pool at s.row.form w.operands what widened.1 rest behind s.suits s.widths wide right inner.1)

pub instruction_same : (pool : List Constant) (at : ℕ) (w : Written ℕ) → IsSuited at w → (number : ℕ) (r : Instruction) (what : What ℤ) (text rest behind : List ℕ) → row_numbered number ≡ Some r → IsOperands pool at r.form what text
    → number ∷ (text ++ rest) ≡ instruction_bytes at w ++ behind → IsMeant pool at w what × (rest ≡ behind)
instruction_same pool at w s number r what text rest behind numbered is e = elim (wide_or_not w.operands) [
  | inl narrow ↦ narrow_same pool at w s number r what text rest behind numbered is narrow e
  | inr wide ↦ wide_same pool at w s number r what text rest behind numbered is wide e
]

-- ---- code arrays

-- an instruction has bytes
not_empty : (w : Written ℕ) (at : ℕ) (behind : List ℕ) → [] ≡ instruction_bytes at w ++ behind → ⊥
not_empty w at behind e =
    let size = length-append (wide_bytes w.operands ++ (w.number ∷ operand_bytes at w.operands)) behind in
    let inner = length-append (wide_bytes w.operands) (w.number ∷ operand_bytes at w.operands) in
    let none : 0 ≡ length ((wide_bytes w.operands ++ (w.number ∷ operand_bytes at w.operands)) ++ behind) = ap length e in
    omega (arith, size, inner, none)

-- where an instruction ends, by the length of its bytes
ends_at : (number : ℕ) (text rest bytes behind : List ℕ) (at next : ℕ) → number ∷ (text ++ rest) ≡ bytes ++ behind → rest ≡ behind → next ≡ at + 1 + length text → next ≡ at + length bytes
ends_at number text rest bytes behind at next e same ends =
    let left = length-append text rest in
    let right = length-append bytes behind in
    let whole : suc (length (text ++ rest)) ≡ length (bytes ++ behind) = ap length e in
    let last : length rest ≡ length behind = ap length same in
    omega (arith, left, right, whole, last, ends)

laid_meant : (pool : List Constant) (code : List ℕ) (at : ℕ) (ws : List (Written ℕ)) (steps : List (Instr ℤ)) → AreSuited at ws → drop at code ≡ code_bytes at ws → AreLaidOut pool code at steps (length code) → AreMeant pool at ws steps
laid_meant pool code at [] [] suited whole laid = refl
laid_meant pool code at [] (i ∷ steps) suited whole laid =
    let is : IsInstruction pool code i = laid.1 in
    let clash : is.number ∷ (is.operands ++ drop i.next code) ≡ [] = sym is.spelled ∙ ap (λ (k : ℕ). drop k code) laid.0 ∙ whole in
    absurd cc
laid_meant pool code at (w ∷ others) [] suited whole laid =
    let none : [] ≡ drop at code = sym (drop-length code) ∙ ap (λ (k : ℕ). drop k code) (sym laid) in
    absurd (not_empty w at (code_bytes (at + length (instruction_bytes at w)) others) (none ∙ whole))
laid_meant pool code at (w ∷ others) (i ∷ steps) suited whole laid =
    let text : List ℕ = instruction_bytes at w in
    let next : ℕ = at + length text in
    let is : IsInstruction pool code i = laid.1 in
    let spelled : is.number ∷ (is.operands ++ drop i.next code) ≡ text ++ code_bytes next others = sym is.spelled ∙ ap (λ (k : ℕ). drop k code) laid.0 ∙ whole in
    let right : IsOperands pool at is.row.form i.what is.operands = subst (λ (k : ℕ). IsOperands pool k is.row.form i.what is.operands) laid.0 is.right in
    let same = instruction_same pool at w suited.0 is.number is.row i.what is.operands (drop i.next code) (code_bytes next others) is.numbered right spelled in
    let ends : i.next ≡ next = ends_at is.number is.operands (drop i.next code) text (code_bytes next others) at i.next spelled same.1 (is.ends ∙ ap (λ (k : ℕ). k + 1 + length is.operands) laid.0) in
    let behind : drop next code ≡ code_bytes next others = ap (λ (k : ℕ). drop k code) (sym ends) ∙ same.1 in
    let laid_behind : AreLaidOut pool code next steps (length code) = subst (λ (k : ℕ). AreLaidOut pool code k steps (length code)) ends laid.2 in
    (laid.0, ends, same.0, laid_meant pool code next others steps suited.1 behind laid_behind)

pub only_written_code : (pool : List Constant) (ws : List (Written ℕ)) (steps : List (Instr ℤ)) → AreSuited 0 ws → AreLaidOut pool (code_bytes 0 ws) 0 steps (length (code_bytes 0 ws)) → AreMeant pool 0 ws steps
only_written_code pool ws steps suited laid = laid_meant pool (code_bytes 0 ws) 0 ws steps suited refl laid
