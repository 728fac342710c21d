-- A text says one thing.
use Rattle.std.proofs.Common.{◌≡◌, ℕ, ◌+◌, ◌⊎◌, Bool, true, false, MatchBool, List, [], ◌∷◌, Option, Some, None, Result, Ok, Err, refl, sym, ap, ◌∙◌, subst, inl, inr, arith}
use Rattle.class_names.specs.declared.kind.Kind.{Kind}
use Rattle.class_names.specs.Descriptor.{parameter_words_of}
use Rattle.class_names.proofs.DescriptorLaws.{one_method}
use Rattle.instructions.specs.declared.form.Form.{Form}
use Rattle.instructions.specs.declared.form.Form.TheVariants as forms
use Rattle.instructions.specs.Table.{Instruction as Row, row_named}
use Rattle.assembler_lines.specs.declared.word.LineRefusal.{LineRefusal}
use Rattle.assembler_lines.specs.declared.word.LineRefusal.TheVariants.{Malformed, NoMemory}
use Rattle.assembler_lines.specs.declared.word.Word.{Word}
use Rattle.assembler_lines.specs.declared.word.Word.TheVariants.{Plain}
use Rattle.assembler_lines.specs.declared.line.Line.{Line}
use Rattle.assembler_lines.specs.declared.line.Line.TheVariants.{Class, Super, Implements, Field, Method, End, Label, Handler, Instruction, Frame}
use Rattle.assembler_lines.specs.declared.operation.Operands.{Operands}
use Rattle.assembler_lines.specs.declared.operation.Operands.TheVariants as operands
use Rattle.assembler_lines.specs.declared.operation.Operation.{Operation}
use Rattle.decimal_numbers.specs.Numbers.{number_up_to, integer_up_to}
use Rattle.assembler_lines.specs.Operands.{IsCount, SaysInterfaceMethod, SaysOperands, IsOperation, SaysOperation}
use Rattle.assembler_lines.specs.Lines.{Says, IsLine}
use Rattle.assembler_lines.specs.Front.{Gives, Answers, plain_at}
use Rattle.assembler_lines.specs.ReadingSwitches.{table_switch_at, lookup_switch_at}
use Rattle.assembler_lines.specs.ReadingOperands.{none_at, one_at, name_of, increment_at, constant_at, member_at, element_type, ReadsOperands, wide_at}
use Rattle.assembler_lines.specs.ReadingLine.{line_with}
use Rattle.assembler_lines.proofs.WordLaws.{one_list}
use Rattle.assembler_text.proofs.NumberLaws.{item, text_lines}
use Rattle.assembler_lines.proofs.OperandLaws.{operands_answer}
use Rattle.assembler_lines.proofs.OperationLaws.{wide_answers}
use Rattle.assembler_lines.proofs.LineLaws.{other_answers, operation_refuses, operation_gives, no_plain_refuses}
use Rattle.assembler_text.specs.declared.lines.Numbered.{Numbered}
use Rattle.assembler_text.specs.declared.lines.TextLines.{TextLines}
use Rattle.assembler_text.specs.TextLines.{lines, SaysAt, is_passed, IsNext, AreNumbered, AreLinesOf}

-- what is read is all that is said
one_of : {Y : Type 0} (Is : Y → Type 0) (read : Option Y) → ((result : Result Y LineRefusal) → Gives (λ y. y) result read → Answers Is result) → (a b : Y) → Is a → Is b → a ≡ b
one_of Is None answer a b h k = absurd (let bad : Malformed ≡ NoMemory = (answer (Err Malformed) refl).only a h in cc)
one_of Is (Some y) answer a b h k = let found = answer (Ok y) refl in sym (found.only a h) ∙ found.only b k

-- ---- instructions

one_count : (descriptor : List ℕ) (n m : ℕ) → IsCount descriptor n → IsCount descriptor m → n ≡ m
one_count descriptor n m h k =
    let same = one_method descriptor h.0 k.0 h.1 k.1 h.2 k.2 in
    h.3 ∙ (ap (λ (parameters : List Kind). parameter_words_of parameters + 1) same.0 ∙ sym k.3)

one_interface_method : (words : List Word) (a b : Operands) → SaysInterfaceMethod words a → SaysInterfaceMethod words b → a ≡ b
one_interface_method words a b h k =
    let same : Plain h.0 ∷ Plain h.1 ∷ Plain h.2 ∷ [] ≡ Plain k.0 ∷ Plain k.1 ∷ Plain k.2 ∷ [] = sym h.4 ∙ k.4 in
    let class : h.0 ≡ k.0 = cc in
    let name : h.1 ≡ k.1 = cc in
    let descriptor : h.2 ≡ k.2 = cc in
    let count : h.3 ≡ k.3 = one_count k.2 h.3 k.3 (subst (λ (bytes : List ℕ). IsCount bytes h.3) descriptor h.5) k.5 in
    h.6 ∙ (rw (class, name, descriptor, count) refl ∙ sym k.6)

one_operands : (form : Form) (words : List Word) (a b : Operands) → SaysOperands form words a → SaysOperands form words b → a ≡ b
unfolding ReadsOperands
one_operands (forms.Plain plain) words = one_of (SaysOperands (forms.Plain plain) words) (none_at words) (operands_answer (forms.Plain plain) words)
one_operands (forms.FixedInt n) words = one_of (SaysOperands (forms.FixedInt n) words) (none_at words) (operands_answer (forms.FixedInt n) words)
one_operands (forms.FixedLong n) words = one_of (SaysOperands (forms.FixedLong n) words) (none_at words) (operands_answer (forms.FixedLong n) words)
one_operands (forms.FixedLocal access local) words = one_of (SaysOperands (forms.FixedLocal access local) words) (none_at words) (operands_answer (forms.FixedLocal access local) words)
one_operands forms.ByteInt words = one_of (SaysOperands forms.ByteInt words) (one_at (integer_up_to 127) (λ n. operands.Number n) words) (operands_answer forms.ByteInt words)
one_operands forms.ShortInt words = one_of (SaysOperands forms.ShortInt words) (one_at (integer_up_to 32767) (λ n. operands.Number n) words) (operands_answer forms.ShortInt words)
one_operands forms.ByteConstant words = one_of (SaysOperands forms.ByteConstant words) (constant_at words) (operands_answer forms.ByteConstant words)
one_operands forms.Constant words = one_of (SaysOperands forms.Constant words) (constant_at words) (operands_answer forms.Constant words)
one_operands forms.LongConstant words = one_of (SaysOperands forms.LongConstant words) (one_at (integer_up_to 9223372036854775807) (λ n. operands.Long n) words) (operands_answer forms.LongConstant words)
one_operands (forms.Local access) words = one_of (SaysOperands (forms.Local access) words) (one_at (number_up_to 255) (λ n. operands.Local n) words) (operands_answer (forms.Local access) words)
one_operands forms.Increment words = one_of (SaysOperands forms.Increment words) (increment_at 255 127 words) (operands_answer forms.Increment words)
one_operands (forms.Branch test) words = one_of (SaysOperands (forms.Branch test) words) (one_at name_of (λ n. operands.Label n) words) (operands_answer (forms.Branch test) words)
one_operands (forms.FarBranch test) words = one_of (SaysOperands (forms.FarBranch test) words) (one_at name_of (λ n. operands.Label n) words) (operands_answer (forms.FarBranch test) words)
one_operands forms.TableSwitch words = one_of (SaysOperands forms.TableSwitch words) (table_switch_at words) (operands_answer forms.TableSwitch words)
one_operands forms.LookupSwitch words = one_of (SaysOperands forms.LookupSwitch words) (lookup_switch_at words) (operands_answer forms.LookupSwitch words)
one_operands (forms.Field access) words = one_of (SaysOperands (forms.Field access) words) (member_at words) (operands_answer (forms.Field access) words)
one_operands (forms.Call call) words = one_of (SaysOperands (forms.Call call) words) (member_at words) (operands_answer (forms.Call call) words)
one_operands forms.InterfaceCall words = one_interface_method words
one_operands (forms.Class purpose) words = one_of (SaysOperands (forms.Class purpose) words) (one_at name_of (λ n. operands.Class n) words) (operands_answer (forms.Class purpose) words)
one_operands forms.NewArray words = one_of (SaysOperands forms.NewArray words) (one_at element_type (λ e. operands.NewArray e) words) (operands_answer forms.NewArray words)
one_operands forms.Wide words = λ a b h k. absurd h

abbrev operation : ℕ → Bool → Operands → Operation
operation number is_wide made = record { number = number; is_wide = is_wide; operands = made }

one_narrow : (row : Row) (words : List Word) (a b : Operation) → IsOperation row words a → IsOperation row words b → a ≡ b
one_narrow row words a b h k =
    ap (λ (n : ℕ). operation n a.is_wide a.operands) (h.number ∙ sym k.number)
    ∙ (ap (λ (wide : Bool). operation b.number wide a.operands) (h.narrow ∙ sym k.narrow)
    ∙ ap (λ (made : Operands). operation b.number b.is_wide made) (one_operands row.form words a.operands b.operands h.operands k.operands))

one_wide : (row : Row) (words : List Word) → row.form ≡ forms.Wide → (a b : Operation) → SaysOperation row words a → SaysOperation row words b → a ≡ b
one_wide row words wide = one_of (SaysOperation row words) (wide_at words) (λ result g. wide_answers row words result wide g)

one_operation : (row : Row) (words : List Word) (a b : Operation) → SaysOperation row words a → SaysOperation row words b → a ≡ b
one_operation row words a b (inl h) (inl k) = one_narrow row words a b h k
one_operation row words a b (inl h) (inr k) = one_wide row words k.0 a b (inl h) (inr k)
one_operation row words a b (inr h) k = one_wide row words h.0 a b (inr h) k

-- ---- lines

instruction_or_not : (line : Line) → ((made : Operation) × (line ≡ Instruction made)) ⊎ ((made : Operation) → Instruction made ≡ line → ⊥)
instruction_or_not (Class name flags) = inr (λ made e. cc)
instruction_or_not (Super name) = inr (λ made e. cc)
instruction_or_not (Implements name) = inr (λ made e. cc)
instruction_or_not (Field flags name descriptor value) = inr (λ made e. cc)
instruction_or_not (Method flags name descriptor room) = inr (λ made e. cc)
instruction_or_not End = inr (λ made e. cc)
instruction_or_not (Label name) = inr (λ made e. cc)
instruction_or_not (Handler from to at class) = inr (λ made e. cc)
instruction_or_not (Instruction made) = inl (made, refl)
instruction_or_not (Frame locals stack) = inr (λ made e. cc)

-- where the first word is a mnemonic, what is said is an instruction
instruction_is : (words : List Word) (x : List ℕ × List Word) (row : Row) (made : Operation) → plain_at words ≡ Some x → row_named x.0 ≡ Some row → SaysOperation row x.1 made → (line : Line) → Says words line → Instruction made ≡ line
instruction_is words x row made first named says line h =
    (operation_gives words x row made first (sym named) (record { found = says; only = λ other k. one_operation row x.1 made other says k })).only line h

one_other : (words : List Word) (a b : Line) → Says words a → Says words b → ((made : Operation) → Instruction made ≡ a → ⊥) → a ≡ b
one_other words a b h k other = by_first (plain_at words) refl
  where
    by_row : (x : List ℕ × List Word) → plain_at words ≡ Some x → (row : Option Row) → row_named x.0 ≡ row → a ≡ b
    by_row x first None named = one_of (Says words) (line_with x) (λ result g. other_answers words x.1 x.0 result first (sym named) g) a b h k
    by_row x first (Some row) named =
        let refused = operation_refuses words x row Malformed first (sym named) (record { found = tt; only = λ made says. absurd (other made (instruction_is words x row made first named says a h)) }) in
        absurd (let bad : Malformed ≡ NoMemory = refused.only a h in cc)

    by_first : (x : Option (List ℕ × List Word)) → plain_at words ≡ x → a ≡ b
    by_first None first = absurd (let bad : Malformed ≡ NoMemory = (no_plain_refuses words Malformed first).only a h in cc)
    by_first (Some x) first = by_row x first (row_named x.0) refl

one_said : (words : List Word) (a b : Line) → Says words a → Says words b → a ≡ b
one_said words a b h k =
    elim (instruction_or_not a) [
      | inl i ↦
          let says : Says words (Instruction i.0) = subst (λ (line : Line). Says words line) i.1 h in
          i.1 ∙ instruction_is words (says.mnemonic, says.others) says.row i.0 (ap plain_at says.spelled) says.named says.says b k
      | inr other ↦ one_other words a b h k other
    ]

pub one_line : (text : List ℕ) (line other : Line) → IsLine text line → IsLine text other → line ≡ other
one_line text line other h k = one_said k.0 line other (subst (λ (words : List Word). Says words line) (one_list text h.0 k.0 h.1 k.1) h.2) k.2

-- ---- texts

one_at_place : (end : ℕ) (text : List ℕ) (a b : Option Line) → SaysAt end text a → SaysAt end text b → a ≡ b
one_at_place end text None None h k = refl
one_at_place end text None (Some b) h k = elim h [ inl far ↦ absurd (let near = k.0 in omega arith) | inr none ↦ absurd (none b k.1) ]
one_at_place end text (Some a) None h k = elim k [ inl far ↦ absurd (let near = h.0 in omega arith) | inr none ↦ absurd (none a h.1) ]
one_at_place end text (Some a) (Some b) h k = ap (λ (line : Line). Some line) (one_line text a b h.1 k.1)

module _ (number end : ℕ) (line : List ℕ) (AreOthers : List Numbered → Type 0) (one : (made others : List Numbered) → AreOthers made → AreOthers others → made ≡ others) where
  one_next : (made others : List Numbered) → IsNext number end line AreOthers made → IsNext number end line AreOthers others → made ≡ others
  one_next [] others h k = absurd h
  one_next (x ∷ made) [] h k = absurd k
  one_next (x ∷ made) (y ∷ others) h k =
      ap (λ (n : ℕ). item n x.line ∷ made) (h.0 ∙ sym k.0)
      ∙ (ap (λ (said : Option Line). item y.number said ∷ made) (one_at_place end line x.line y.line h.1 k.1)
      ∙ ap (λ (left : List Numbered). y ∷ left) (one made others h.2 k.2))

  one_of_both : (test : Bool) (made others : List Numbered) → MatchBool test (AreOthers made) (IsNext number end line AreOthers made) → MatchBool test (AreOthers others) (IsNext number end line AreOthers others) → made ≡ others
  one_of_both true made others h k = one made others h k
  one_of_both false made others h k = one_next made others h k

one_numbering : (number at : ℕ) (pieces : List (List ℕ × ℕ)) (made others : List Numbered) → AreNumbered number at pieces made → AreNumbered number at pieces others → made ≡ others
one_numbering number at [] made others h k = h ∙ sym k
one_numbering number at ((line, size) ∷ pieces) made others h k =
    one_of_both number (at + size) line (AreNumbered (number + 1) (at + size) pieces) (one_numbering (number + 1) (at + size) pieces) (is_passed (at + size) line) made others h k

pub one_text : (text : List ℕ) (made others : TextLines) → AreLinesOf text made → AreLinesOf text others → made ≡ others
one_text text made others h k =
    ap (λ (numbered : List Numbered). text_lines numbered made.behind) (one_numbering 1 0 (lines text) made.lines others.lines h.numbered k.numbered)
    ∙ ap (λ (behind : ℕ). text_lines others.lines behind) (h.behind ∙ sym k.behind)
