-- What is read of an instruction of a row is what the words say.
use Rattle.std.proofs.Common.{◌≡◌, ℕ, Bool, true, false, List, Some, Result, Ok, Err, refl, sym, ap, ◌∙◌, subst, inl, inr}
use Rattle.std.proofs.lemmas.Option.{same_Some}
use Rattle.instructions.specs.declared.form.Form.{Form}
use Rattle.instructions.specs.declared.form.Form.TheVariants as forms
use Rattle.instructions.specs.Table.{Instruction, row_named}
use Rattle.assembler_lines.specs.declared.word.LineRefusal.{LineRefusal}
use Rattle.assembler_lines.specs.declared.word.Word.{Word}
use Rattle.assembler_lines.specs.declared.operation.Operands.{Operands}
use Rattle.assembler_lines.specs.declared.operation.Operands.TheVariants as operands
use Rattle.assembler_lines.specs.declared.operation.Operation.{Operation}
use Rattle.decimal_numbers.specs.Numbers.{number_up_to}
use Rattle.assembler_lines.specs.Operands.{IsNumber, SaysOperands, SaysWideOperands, IsOperation, IsWideOperation, SaysOperation}
use Rattle.assembler_lines.specs.Front.{Answers, plain_at}
use Rattle.assembler_lines.specs.ReadingOperands.{Reads, ReadsOperands, wide_operands_at, wide_at}
use Rattle.assembler_lines.proofs.FrontLaws.{bound, plain_takes, answers}
use Rattle.assembler_lines.proofs.OperandLaws.{one_takes, one_again, increment_takes, increment_again, operands_answer}

-- ---- operands of their own width

pub narrow_refuses : (row : Instruction) (words : List Word) (refusal : LineRefusal) → ReadsOperands row.form words (Err refusal) → Answers (IsOperation row words) (Err refusal)
narrow_refuses row words refusal reads =
    let a = operands_answer row.form words (Err refusal) reads in
    record { found = tt; only = λ y says. a.only y.operands says.operands }

pub narrow_gives : (row : Instruction) (words : List Word) (made : Operands) → ReadsOperands row.form words (Ok made) → Answers (IsOperation row words) (Ok (record { number = row.number; is_wide = false; operands = made }))
narrow_gives row words made reads =
    let a = operands_answer row.form words (Ok made) reads in
    record {
      found = record { number = refl; narrow = refl; operands = a.found };
      only = λ y says. same y says (a.only y.operands says.operands);
    }
  where
    same : (y : Operation) → IsOperation row words y → made ≡ y.operands → (let x : Operation = record { number = row.number; is_wide = false; operands = made } in x) ≡ y
    same y says e =
        ap (λ (n : ℕ). let x : Operation = record { number = n; is_wide = false; operands = made } in x) (sym says.number)
        ∙ (ap (λ (w : Bool). let x : Operation = record { number = y.number; is_wide = w; operands = made } in x) (sym says.narrow)
        ∙ ap (λ (o : Operands). let x : Operation = record { number = y.number; is_wide = y.is_wide; operands = o } in x) e)

-- ---- operands of twice that width

wide_operands_take : (form : Form) (words : List Word) (made : Operands) → wide_operands_at form words ≡ Some made → SaysWideOperands form words made
unfolding wide_operands_at
wide_operands_take (forms.Local access) words made e = one_takes (IsNumber 65535) (number_up_to 65535) (λ local. operands.Local local) (λ written x h. h) words made e
wide_operands_take forms.Increment words made e = increment_takes 65535 32767 words made e
wide_operands_take _ words made e = absurd cc

wide_operands_again : (form : Form) (words : List Word) (made : Operands) → SaysWideOperands form words made → wide_operands_at form words ≡ Some made
unfolding wide_operands_at
wide_operands_again (forms.Local access) words made h = one_again (IsNumber 65535) (number_up_to 65535) (λ local. operands.Local local) (λ written x h. h) words made h
wide_operands_again forms.Increment words made h = increment_again 65535 32767 words made h
wide_operands_again _ words made h = absurd h

wide_takes : (words : List Word) (operation : Operation) → wide_at words ≡ Some operation → IsWideOperation words operation
unfolding wide_at
wide_takes words operation e =
    let m = bound (plain_at words) _ operation e in
    let r = bound (row_named m.0.0) _ operation m.2 in
    let o = bound (wide_operands_at r.0.form m.0.1) (λ (made : Operands). Some (let x : Operation = record { number = r.0.number; is_wide = true; operands = made } in x)) operation r.2 in
    subst (IsWideOperation words) (same_Some (let x : Operation = record { number = r.0.number; is_wide = true; operands = o.0 } in x) operation o.2) (record {
      mnemonic = m.0.0;
      others = m.0.1;
      row = r.0;
      spelled = plain_takes words m.0 m.1;
      named = r.1;
      number = refl;
      wide = refl;
      operands = wide_operands_take r.0.form m.0.1 o.0 o.1;
    })

wide_again : (words : List Word) (operation : Operation) → IsWideOperation words operation → wide_at words ≡ Some operation
unfolding wide_at
wide_again words operation h =
    let o = wide_operands_again h.row.form h.others operation.operands h.operands in
    let named = h.named in
    ap wide_at h.spelled ∙ rw (named, o, ← h.number, ← h.wide) refl

-- ---- the instruction of a row

no_narrow_wide : (row : Instruction) (words : List Word) (operation : Operation) → row.form ≡ forms.Wide → IsOperation row words operation → ⊥
no_narrow_wide row words operation wide h = subst (λ (f : Form). SaysOperands f words operation.operands) wide h.operands

pub wide_answers : (row : Instruction) (words : List Word) (result : Result Operation LineRefusal) → row.form ≡ forms.Wide → Reads result (wide_at words) → Answers (SaysOperation row words) result
wide_answers row words result wide g =
    answers (SaysOperation row words) (wide_at words) result
    (λ operation e. inr (wide, wide_takes words operation e))
    (λ operation says. elim says [
      | inl h ↦ absurd (no_narrow_wide row words operation wide h)
      | inr h ↦ wide_again words operation h.1
    ])
    g

pub narrow_answers : (row : Instruction) (words : List Word) (result : Result Operation LineRefusal) → (row.form ≡ forms.Wide → ⊥) → Answers (IsOperation row words) result → Answers (SaysOperation row words) result
narrow_answers row words (Ok operation) narrow a = record {
  found = inl a.found;
  only = λ y says. elim says [ inl h ↦ a.only y h | inr h ↦ absurd (narrow h.0) ];
}
narrow_answers row words (Err refusal) narrow a = record {
  found = tt;
  only = λ y says. elim says [ inl h ↦ a.only y h | inr h ↦ absurd (narrow h.0) ];
}
