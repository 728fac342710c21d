-- Instructions that are laid out from the front are the ones that are read, and no others are.
use Rattle.std.proofs.Common.{◌≡◌, ℕ, suc, ◌+◌, ◌-◌, ◌<◌, ◌≤◌, Bool, true, false, nat_lt, List, [], ◌∷◌, ◌++◌, length, drop, Option, Some, None, Result, Ok, Err, refl, sym, ap, subst, ◌∙◌, arith, inl, inr}
use Rattle.std.specs.Prelude.{ℤ, All, MatchBool}
use Rattle.std.proofs.lemmas.Bool.{cases_lt, le-ltb}
use Rattle.std.proofs.lemmas.List.{drop_all, drop_at, drop-drop, length-append, length-drop, get_or-drop, map-append}
use Rattle.std.proofs.lemmas.List.Elements.{All-nil, All-push, All-weaker}
use Rattle.class_walk.specs.declared.class.Constant.{Constant}
use Rattle.class_walk.specs.Layout.{IsBytes}
use Rattle.class_walk.proofs.Fields.{ok_is}
use Rattle.instructions.specs.declared.form.Form.{Form}
use Rattle.instructions.specs.declared.form.Form.TheVariants as forms
use Rattle.instructions.specs.declared.what.Instr.{Instr}
use Rattle.instructions.specs.declared.what.What.{What}
use Rattle.instructions.specs.Table.{Instruction, row_numbered}
use Rattle.instructions.specs.Steps.{offsets_of}
use Rattle.instructions.proofs.TableLaws.{row_numbered-past}
use Rattle.code_steps.specs.declared.fault.StepFault.{StepFault}
use Rattle.code_steps.specs.declared.fault.StepFault.TheVariants.{Opcode}
use Rattle.code_steps.specs.Operands.{IsOperands}
use Rattle.code_steps.specs.CodeArray.{IsInstruction, AreLaidOut}
use Rattle.code_steps.specs.Reading.{ReadsOperands, ReadsRow, ReadsInstruction, interface_call_at, ChecksInterfaceCall}
use Rattle.code_steps.proofs.Fields.{err_is}
use Rattle.code_steps.proofs.OperandLaws.{operands_take, operands_again}

-- ---- one instruction

record Read (pool : List Constant) (at : ℕ) (bytes : List ℕ) (what : What ℤ) (rest : List ℕ) : Type 0 where
  pub number : ℕ
  pub row : Instruction
  pub operands : List ℕ
  pub numbered : row_numbered number ≡ Some row
  pub right : IsOperands pool at row.form what operands
  pub spelled : bytes ≡ number ∷ (operands ++ rest)

bytes_tail : (number : ℕ) (bytes : List ℕ) → IsBytes (number ∷ bytes) → IsBytes bytes
bytes_tail number bytes fits i = fits (suc i)

row_read : (pool : List Constant) (at number : ℕ) (row : Option Instruction) (bytes : List ℕ) (what : What ℤ) (rest : List ℕ) → IsBytes bytes → row_numbered number ≡ row
    → ReadsRow pool at row bytes (Ok (what, rest)) → Read pool at (number ∷ bytes) what rest
row_read pool at number None bytes what rest fits is e = absurd cc
row_read pool at number (Some row) bytes what rest fits is e =
    let t = operands_take pool at row.form bytes what rest fits e in
    record { number = number; row = row; operands = t.0; numbered = is; right = t.1; spelled = ap (λ (s : List ℕ). number ∷ s) t.2 }

below_read : (pool : List Constant) (at number : ℕ) (above : Bool) (bytes : List ℕ) (what : What ℤ) (rest : List ℕ) → IsBytes bytes
    → (r : Result (What ℤ × List ℕ) StepFault) → r ≡ Ok (what, rest) → MatchBool above (r ≡ Err (Opcode at)) (ReadsRow pool at (row_numbered number) bytes (Ok (what, rest))) → Read pool at (number ∷ bytes) what rest
below_read pool at number true bytes what rest fits r is e = absurd cc
below_read pool at number false bytes what rest fits r is e = row_read pool at number (row_numbered number) bytes what rest fits refl e

instruction_read : (pool : List Constant) (at : ℕ) (bytes : List ℕ) (what : What ℤ) (rest : List ℕ) → IsBytes bytes → ReadsInstruction pool at bytes (Ok (what, rest)) → Read pool at bytes what rest
unfolding ReadsInstruction
instruction_read pool at [] what rest fits e = absurd e
instruction_read pool at (number ∷ bytes) what rest fits e = below_read pool at number (nat_lt 201 number) bytes what rest (bytes_tail number bytes fits) (Ok (what, rest)) refl e

-- a row of the table has a number of at most 201
pub number_small : (number : ℕ) (row : Instruction) → row_numbered number ≡ Some row → number ≤ 201
number_small number row is =
    elim (cases_lt number 202) [
      | inl low ↦ omega arith
      | inr high ↦ let none = row_numbered-past number high in absurd cc
    ]

instruction_again : (pool : List Constant) (at : ℕ) (bytes : List ℕ) (what : What ℤ) (rest : List ℕ) → Read pool at bytes what rest → ReadsInstruction pool at bytes (Ok (what, rest))
unfolding ReadsInstruction
instruction_again pool at bytes what rest r =
    let small : nat_lt 201 r.number ≡ false = le-ltb 201 r.number (number_small r.number r.row r.numbered) in
    rw (r.spelled, small, r.numbered) (operands_again pool at r.row.form (r.operands ++ rest) what rest r.operands r.right refl)

-- ---- one reading

interface_once : (pool : List Constant) (at : ℕ) (read : Result ((ℕ × ℕ × ℕ) × List ℕ) StepFault) (r s : Result (What ℤ × List ℕ) StepFault) → ChecksInterfaceCall pool at read r → ChecksInterfaceCall pool at read s → r ≡ s
interface_once pool at (Err f) r s a b = a ∙ sym b
interface_once pool at (Ok x) (Ok y) (Ok z) a b = ap (λ (w : What ℤ × List ℕ). Ok w) (a.1 ∙ sym b.1)
interface_once pool at (Ok x) (Ok y) (Err f) a b = absurd (b.0 a.0)
interface_once pool at (Ok x) (Err f) (Ok z) a b = absurd (a.0 b.0)
interface_once pool at (Ok x) (Err f) (Err g) a b = ap (λ (w : StepFault). Err w) (a.1 ∙ sym b.1)

operands_once : (pool : List Constant) (at : ℕ) (form : Form) (bytes : List ℕ) (r s : Result (What ℤ × List ℕ) StepFault) → ReadsOperands pool at form bytes r → ReadsOperands pool at form bytes s → r ≡ s
unfolding ReadsOperands
operands_once pool at forms.InterfaceCall bytes r s a b = interface_once pool at (interface_call_at at bytes) r s a b
operands_once pool at _ bytes r s a b = a ∙ sym b

row_once : (pool : List Constant) (at : ℕ) (row : Option Instruction) (bytes : List ℕ) (r s : Result (What ℤ × List ℕ) StepFault) → ReadsRow pool at row bytes r → ReadsRow pool at row bytes s → r ≡ s
row_once pool at None bytes r s a b = a ∙ sym b
row_once pool at (Some row) bytes r s a b = operands_once pool at row.form bytes r s a b

choice_once : (pool : List Constant) (at : ℕ) (row : Option Instruction) (above : Bool) (bytes : List ℕ) (r s : Result (What ℤ × List ℕ) StepFault)
    → MatchBool above (r ≡ Err (Opcode at)) (ReadsRow pool at row bytes r) → MatchBool above (s ≡ Err (Opcode at)) (ReadsRow pool at row bytes s) → r ≡ s
choice_once pool at row true bytes r s a b = a ∙ sym b
choice_once pool at row false bytes r s a b = row_once pool at row bytes r s a b

pub reads_once : (pool : List Constant) (at : ℕ) (bytes : List ℕ) (r s : Result (What ℤ × List ℕ) StepFault) → ReadsInstruction pool at bytes r → ReadsInstruction pool at bytes s → r ≡ s
unfolding ReadsInstruction
reads_once pool at [] r s a b = absurd a
reads_once pool at (number ∷ bytes) r s a b = choice_once pool at (row_numbered number) (nat_lt 201 number) bytes r s a b

-- ---- places in the code

-- what is left begins where it says
pub record At (code : List ℕ) (at : ℕ) (left : List ℕ) : Type 0 where
  pub is : left ≡ drop at code
  pub sum : at + length left ≡ length code

at_behind : (code : List ℕ) (at number : ℕ) (operands left rest : List ℕ) → At code at left → left ≡ number ∷ (operands ++ rest) → At code (at + 1 + length operands) rest
at_behind code at number operands left rest here spelled =
    let size : length left ≡ suc (length operands + length rest) = ap length spelled ∙ ap suc (length-append operands rest) in
    let behind : drop (suc (length operands)) left ≡ rest = ap (drop (suc (length operands))) spelled ∙ drop_at operands rest (length operands) refl in
    let from : drop (suc (length operands)) left ≡ drop (at + suc (length operands)) code = ap (drop (suc (length operands))) here.is ∙ drop-drop (suc (length operands)) at code in
    let same : at + suc (length operands) ≡ at + 1 + length operands = omega arith in
    record { is = sym behind ∙ from ∙ ap (λ (n : ℕ). drop n code) same; sum = omega (arith, here.sum, size) }

next_is : (code : List ℕ) (next : ℕ) (rest : List ℕ) → At code next rest → length code - length rest ≡ next
next_is code next rest there = omega (arith, there.sum)

-- an instruction that is read is there
pub record Stands (pool : List Constant) (code : List ℕ) (at : ℕ) (what : What ℤ) (rest : List ℕ) : Type 0 where
  pub instruction : IsInstruction pool code (record { at = at; next = length code - length rest; what = what })
  pub behind : At code (length code - length rest) rest
  pub later : at < length code - length rest

stands_at : (pool : List Constant) (code : List ℕ) (at next : ℕ) (what : What ℤ) (rest : List ℕ) → IsInstruction pool code (record { at = at; next = next; what = what }) → At code next rest → at < next → next ≡ length code - length rest
    → Stands pool code at what rest
stands_at pool code at next what rest i behind later e =
    record {
      instruction = subst (λ (n : ℕ). IsInstruction pool code (record { at = at; next = n; what = what })) e i;
      behind = subst (λ (n : ℕ). At code n rest) e behind;
      later = omega arith;
    }

bytes_at_end : (code : List ℕ) (at : ℕ) (left : List ℕ) → IsBytes code → At code at left → IsBytes left
bytes_at_end code at left fits here = rw here.is (λ i. rw get_or-drop (fits (at + i)))

pub instruction_stands : (pool : List Constant) (code : List ℕ) (at : ℕ) (left : List ℕ) (what : What ℤ) (rest : List ℕ) → IsBytes code → At code at left → ReadsInstruction pool at left (Ok (what, rest)) → Stands pool code at what rest
instruction_stands pool code at left what rest fits here reads =
    let r = instruction_read pool at left what rest (bytes_at_end code at left fits here) reads in
    let there = at_behind code at r.number r.operands left rest here r.spelled in
    let next : ℕ = at + 1 + length r.operands in
    stands_at pool code at next what rest
    (record { number = r.number; row = r.row; operands = r.operands; numbered = r.numbered; right = r.right; spelled = sym here.is ∙ r.spelled ∙ ap (λ (s : List ℕ). r.number ∷ (r.operands ++ s)) there.is; ends = refl })
    there (omega arith) (sym (next_is code next rest there))

-- and one that is there is read
pub stands_again : (pool : List Constant) (code : List ℕ) (i : Instr ℤ) → IsInstruction pool code i → ReadsInstruction pool i.at (drop i.at code) (Ok (i.what, drop i.next code))
stands_again pool code i is =
    instruction_again pool i.at (drop i.at code) i.what (drop i.next code)
    (record { number = is.number; row = is.row; operands = is.operands; numbered = is.numbered; right = is.right; spelled = is.spelled })

-- ---- the instructions from the front

-- an instruction ends inside the code, and after its first byte
next_inside : (pool : List Constant) (code : List ℕ) (i : Instr ℤ) → IsInstruction pool code i → (i.next ≤ length code) × (length (drop i.at code) ≡ suc (length code - i.at - 1))
next_inside pool code i is =
    let size : length (drop i.at code) ≡ suc (length is.operands + length (drop i.next code)) = ap length is.spelled ∙ ap suc (length-append is.operands (drop i.next code)) in
    let whole : length (drop i.at code) ≡ length code - i.at = length-drop i.at code in
    let rest : length (drop i.next code) ≡ length code - i.next = length-drop i.next code in
    (omega (arith, is.ends, size, whole, rest), omega (arith, is.ends, size, whole, rest))

abbrev of_read : What ℤ × List ℕ → Result (What ℤ × List ℕ) StepFault
of_read x = Ok x

instr_is : (i j : Instr ℤ) → i.at ≡ j.at → i.next ≡ j.next → i.what ≡ j.what → i ≡ j
instr_is i j a n w = ap (λ (k : ℕ). made k i.next i.what) a ∙ ap (λ (k : ℕ). made j.at k i.what) n ∙ ap (λ (k : What ℤ). made j.at j.next k) w
  where
    made : ℕ → ℕ → What ℤ → Instr ℤ
    made at next what = record { at = at; next = next; what = what }

-- two instructions at one offset are one
one_instruction : (pool : List Constant) (code : List ℕ) (i j : Instr ℤ) → i.at ≡ j.at → IsInstruction pool code i → IsInstruction pool code j → i ≡ j
one_instruction pool code i j same a b =
    let first = stands_again pool code i a in
    let second : ReadsInstruction pool i.at (drop i.at code) (Ok (j.what, drop j.next code)) = subst (λ (at : ℕ). ReadsInstruction pool at (drop at code) (Ok (j.what, drop j.next code))) (sym same) (stands_again pool code j b) in
    let x : What ℤ × List ℕ = (i.what, drop i.next code) in
    let y : What ℤ × List ℕ = (j.what, drop j.next code) in
    let read : x ≡ y = ok_is x y (reads_once pool i.at (drop i.at code) (Ok x) (Ok y) first second) in
    let rests : length (drop i.next code) ≡ length (drop j.next code) = ap (λ (p : What ℤ × List ℕ). length p.1) read in
    let next : i.next ≡ j.next = omega (arith, rests, length-drop i.next code, length-drop j.next code, (next_inside pool code i a).0, (next_inside pool code j b).0) in
    instr_is i j same next (ap (λ (p : What ℤ × List ℕ). p.0) read)

-- where reading stops: at the end of the code, or at a fault
abbrev pub Stops : List Constant → List ℕ → ℕ → Option StepFault → Type 0
Stops pool code at None = at ≡ length code
Stops pool code at (Some f) = ReadsInstruction pool at (drop at code) (Err f)

no_bytes : (pool : List Constant) (code : List ℕ) (at : ℕ) (r : Result (What ℤ × List ℕ) StepFault) → at ≡ length code → ReadsInstruction pool at (drop at code) r → ⊥
unfolding ReadsInstruction
no_bytes pool code at r end reads =
    let none : drop at code ≡ [] = drop_all at code (omega (arith, end)) in
    rw none at reads

stop_once : (pool : List Constant) (code : List ℕ) (at : ℕ) (e f : Option StepFault) → Stops pool code at e → Stops pool code at f → e ≡ f
stop_once pool code at None None a b = refl
stop_once pool code at None (Some f) a b = absurd (no_bytes pool code at (Err f) a b)
stop_once pool code at (Some e) None a b = absurd (no_bytes pool code at (Err e) b a)
stop_once pool code at (Some e) (Some f) a b = let same = reads_once pool at (drop at code) (Err e) (Err f) a b in ap (λ (x : StepFault). Some x) (err_is {A = What ℤ × List ℕ} e f same)

-- reading doesn't stop where there is an instruction
goes_on : (pool : List Constant) (code : List ℕ) (at : ℕ) (i : Instr ℤ) (e : Option StepFault) → i.at ≡ at → IsInstruction pool code i → Stops pool code at e → ⊥
goes_on pool code at i None same is stops = no_bytes pool code at (Ok (i.what, drop i.next code)) stops (subst (λ (n : ℕ). ReadsInstruction pool n (drop n code) (Ok (i.what, drop i.next code))) same (stands_again pool code i is))
goes_on pool code at i (Some f) same is stops =
    let reads : ReadsInstruction pool at (drop at code) (Ok (i.what, drop i.next code)) = subst (λ (n : ℕ). ReadsInstruction pool n (drop n code) (Ok (i.what, drop i.next code))) same (stands_again pool code i is) in
    let x : What ℤ × List ℕ = (i.what, drop i.next code) in
    let both : of_read x ≡ Err f = reads_once pool at (drop at code) (Ok x) (Err f) reads stops in
    absurd cc

pub record Same (xs ys : List (Instr ℤ)) (m n : ℕ) (e f : Option StepFault) : Type 0 where
  pub steps : xs ≡ ys
  pub stop : e ≡ f

pub one_layout : (pool : List Constant) (code : List ℕ) (from : ℕ) (xs ys : List (Instr ℤ)) (m n : ℕ) (e f : Option StepFault) → AreLaidOut pool code from xs m → AreLaidOut pool code from ys n → Stops pool code m e → Stops pool code n f → Same xs ys m n e f
one_layout pool code from [] [] m n e f a b s t =
    let same : m ≡ n = sym a ∙ b in
    record { steps = refl; stop = stop_once pool code m e f s (subst (λ (k : ℕ). Stops pool code k f) (sym same) t) }
one_layout pool code from [] (y ∷ ys) m n e f a b s t = absurd (goes_on pool code m y e (b.0 ∙ a) b.1 s)
one_layout pool code from (x ∷ xs) [] m n e f a b s t = absurd (goes_on pool code n x f (a.0 ∙ b) a.1 t)
one_layout pool code from (x ∷ xs) (y ∷ ys) m n e f a b s t =
    let head : x ≡ y = one_instruction pool code x y (a.0 ∙ sym b.0) a.1 b.1 in
    let others = one_layout pool code x.next xs ys m n e f a.2 (subst (λ (i : Instr ℤ). AreLaidOut pool code i.next ys n) (sym head) b.2) s t in
    record { steps = ap (λ (i : Instr ℤ). i ∷ xs) head ∙ ap (λ (is : List (Instr ℤ)). y ∷ is) others.steps; stop = others.stop }

-- ---- one instruction more

pub laid_push : (pool : List Constant) (code : List ℕ) (from : ℕ) (xs : List (Instr ℤ)) (i : Instr ℤ) (at : ℕ) → AreLaidOut pool code from xs at → i.at ≡ at → IsInstruction pool code i → AreLaidOut pool code from (xs ++ i ∷ []) i.next
laid_push pool code from [] i at laid same is = (same ∙ sym laid, is, refl)
laid_push pool code from (x ∷ xs) i at laid same is = (laid.0, laid.1, laid_push pool code x.next xs i at laid.2 same is)

-- the instructions that have been read, with these bytes left
pub record Reached (pool : List Constant) (code : List ℕ) (steps : List (Instr ℤ)) (offsets left : List ℕ) : Type 0 where
  pub here : At code (length code - length left) left
  pub laid : AreLaidOut pool code 0 steps (length code - length left)
  pub offsets_are : offsets ≡ offsets_of steps
  pub below : All (λ o. o < length code - length left) offsets
  pub count : length offsets ≤ length code - length left

pub reached_none : (pool : List Constant) (code : List ℕ) → Reached pool code [] [] code
reached_none pool code =
    let zero_is : length code - length code ≡ 0 = omega arith in
    record {
      here = record { is = ap (λ (n : ℕ). drop n code) (sym zero_is); sum = omega arith };
      laid = sym zero_is;
      offsets_are = refl;
      below = All-nil (λ o. o < length code - length code);
      count = omega arith;
    }

pub reached_more : (pool : List Constant) (code : List ℕ) (steps : List (Instr ℤ)) (offsets left : List ℕ) (what : What ℤ) (rest : List ℕ) → IsBytes code → Reached pool code steps offsets left
    → ReadsInstruction pool (length code - length left) left (Ok (what, rest))
    → Reached pool code (steps ++ record { at = length code - length left; next = length code - length rest; what = what } ∷ []) (offsets ++ (length code - length left) ∷ []) rest
reached_more pool code steps offsets left what rest fits r reads =
    let at : ℕ = length code - length left in
    let i : Instr ℤ = record { at = length code - length left; next = length code - length rest; what = what } in
    let s = instruction_stands pool code at left what rest fits r.here reads in
    record {
      here = s.behind;
      laid = laid_push pool code 0 steps i at r.laid refl s.instruction;
      offsets_are = ap (λ (os : List ℕ). os ++ at ∷ []) r.offsets_are ∙ sym (map-append (λ (j : Instr ℤ). j.at) steps (i ∷ []));
      below = All-push (λ o. o < length code - length rest) offsets at (All-weaker (λ o. o < at) (λ o. o < length code - length rest) (λ o lt. omega (arith, s.later, lt)) offsets r.below) s.later;
      count = omega (arith, r.count, s.later, length-append offsets (at ∷ []));
    }

-- fewer bytes are left
pub reads_shorter : (pool : List Constant) (at : ℕ) (bytes : List ℕ) (what : What ℤ) (rest : List ℕ) → IsBytes bytes → ReadsInstruction pool at bytes (Ok (what, rest)) → length rest < length bytes
reads_shorter pool at bytes what rest fits reads =
    let r = instruction_read pool at bytes what rest fits reads in
    omega (arith, ap length r.spelled, length-append r.operands rest)

pub reads_inside : (pool : List Constant) (code : List ℕ) (steps : List (Instr ℤ)) (offsets left : List ℕ) (what : What ℤ) (rest : List ℕ) → IsBytes code → Reached pool code steps offsets left
    → ReadsInstruction pool (length code - length left) left (Ok (what, rest)) → length rest < length left
reads_inside pool code steps offsets left what rest fits r reads =
    reads_shorter pool (length code - length left) left what rest (bytes_at_end code (length code - length left) left fits r.here) reads
