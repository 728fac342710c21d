-- A line that is an instruction appends it to the code, as the line says it.
use Rattle.std.proofs.Common.{◌≡◌, ℕ, List, ◌++◌, length, Some, refl, sym, ap, subst, ◌∙◌}
use Rattle.std.proofs.lemmas.Option.{same_Some}
use Rattle.class_walk.specs.declared.class.Constant.{Constant}
use Rattle.instructions.specs.Table.{Instruction, row_numbered}
use Rattle.assembler_lines.specs.declared.operation.Operation.{Operation}
use Rattle.code_write.specs.declared.operands.Written.{Written}
use Rattle.code_write.specs.Instruction.{instruction_bytes, IsInRange}
use Rattle.assembler_pool.specs.Uses.{Extends}
use Rattle.assembler_bodies.specs.Making.{with_pool}
use Rattle.assembler_bodies.specs.Labels.{Marks}
use Rattle.assembler_bodies.specs.Operands.{operands_of}
use Rattle.assembler_bodies.specs.Body.{MadeBody, code_with, with_code, with_instruction}
use Rattle.assembler_bodies.proofs.ShapeLaws.{parts_of, known_of}
use Rattle.assembler_bodies.proofs.StepLaws.{code_is, with_is}
use Rattle.assembler_laws.specs.WrittenCode.Suits.{IsSuited}
use Rattle.assembler_laws.proofs.BodyMeaning.GrammarLaws.{May, IsRight}
use Rattle.assembler_laws.proofs.BodyMeaning.WritesLaws.{Fine}
use Rattle.assembler_laws.proofs.BodyMeaning.OperandLaws.{Made, operands_made}

-- what a line says of an instruction that is written
pub record IsWritten (marks : Marks) (pool : List Constant) (operation : Operation) (w : Written ℕ) : Type 0 where
  pub row : Instruction
  pub numbered : row_numbered operation.number ≡ Some row
  pub number : w.number ≡ operation.number
  pub fine : Fine marks pool row.form operation.operands w.operands

pub suited_of : (marks : Marks) (pool : List Constant) (operation : Operation) (w : Written ℕ) (at : ℕ) → IsWritten marks pool operation w → IsInRange at w.operands → IsSuited at w
suited_of marks pool operation w at is range = record {
  row = is.row;
  numbered = ap (λ (n : ℕ). row_numbered n) is.number ∙ is.numbered;
  suits = is.fine.suits;
  in_range = range;
  widths = is.fine.widths;
}

-- the body with an instruction more
abbrev pub with_written : MadeBody → Written ℕ → MadeBody
with_written body w = record body { code = body.code ++ instruction_bytes (length body.code) w }

put_behind : (old new : MadeBody) (w : Written ℕ) (code : List ℕ) → new ≡ record old { code = code } → code ≡ old.code ++ instruction_bytes (length old.code) w → new ≡ with_written old w
put_behind old new w code is put = is ∙ ap (λ (c : List ℕ). record old { code = c }) put

pub record PutsInstruction (marks : Marks) (operation : Operation) (old : MadeBody) (pool : List Constant) (x : List Constant × MadeBody) : Type 0 where
  pub written : Written ℕ
  pub is : (last : List Constant) → Extends x.0 last → IsWritten marks last operation written
  pub in_range : IsInRange (length old.code) written.operands
  pub put : x.1 ≡ with_written old written

pub instruction_put : (marks : Marks) (operation : Operation) (old : MadeBody) (pool : List Constant) (x : List Constant × MadeBody)
    → IsRight operation → with_instruction marks operation old pool ≡ Some x → PutsInstruction marks operation old pool x
unfolding with_instruction
instruction_put marks operation old pool x right e =
    let p = parts_of (with_pool pool (row_numbered operation.number)) _ x e in
    let row = p.made.1 in
    let known = known_of pool (row_numbered operation.number) p.made p.first_is in
    let same : right.row ≡ row = same_Some right.row row (sym right.numbered ∙ known.found) in
    let may : May row.form operation.operands = subst (λ (r : Instruction). May r.form operation.operands) same right.may in
    let q = parts_of (operands_of marks row.form operation.is_wide operation.operands p.made.0) _ x p.next_is in
    let made : Made marks row.form operation.operands p.made.0 q.made = operands_made marks row.form operation.is_wide operation.operands p.made.0 q.made may q.first_is in
    let w : Written ℕ = record { number = operation.number; operands = q.made.1 } in
    let end = known_of q.made.0 (with_code old (code_with w old.code)) x q.next_is in
    let last = with_is old (code_with w old.code) x.1 end.found in
    let code = code_is w old.code last.code last.is in
    record {
      written = w;
      is = λ final more. record {
        row = row;
        numbered = known.found;
        number = refl;
        fine = made.fine final (subst (λ (r : List Constant). Extends r final) (sym end.pool_is) more);
      };
      in_range = code.in_range;
      put = put_behind old x.1 w last.code last.new_is code.put;
    }
