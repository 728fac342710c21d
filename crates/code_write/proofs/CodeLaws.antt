-- Written instructions are what their reader wants.
use Rattle.std.proofs.Common.{◌≡◌, ℕ, suc, ◌+◌, ◌<◌, ◌^◌, ℤ, pos, negsuc, ◌≤◌, ◌+ℤ◌, ◌-ℤ◌, ◌≤ℤ◌, List, [], ◌∷◌, ◌++◌, length, drop, map, Option, Some, ◌⊎◌, inl, inr, refl, sym, ap, subst, ◌∙◌, arith, append_assoc, append-nil, length-append, lit<, mod-eq_of_lt, FitsSigned}
use Rattle.std.specs.List.{All, AllByRecursion, flat_map}
use Rattle.std.specs.Int.{w8, w16, w32, cast_unsigned, cast_signed}
use Rattle.std.proofs.lemmas.Int.{ints, to_z-of_z}
use Rattle.std.proofs.lemmas.Grind.{common_steps}
use Rattle.std.proofs.lemmas.List.{length-map}
use Rattle.std.proofs.lemmas.List.Elements.{All-head, All-tail}
use Rattle.class_walk.specs.declared.class.Constant.{Constant}
use Rattle.class_walk.specs.Layout.{u1, u2, u4}
use Rattle.instructions.specs.declared.form.Form.{Form}
use Rattle.instructions.specs.declared.form.Form.TheVariants as forms
use Rattle.instructions.specs.declared.operation.PrimitiveType.{PrimitiveType}
use Rattle.instructions.specs.declared.operation.PrimitiveType.TheVariants as primitives
use Rattle.instructions.specs.declared.what.Case.{Case}
use Rattle.instructions.specs.declared.what.Instr.{Instr}
use Rattle.instructions.specs.declared.what.Target.{Target}
use Rattle.instructions.specs.declared.what.What.{What}
use Rattle.instructions.specs.declared.what.What.TheVariants as whats
use Rattle.instructions.specs.Table.{Instruction, row, row_numbered, table}
use Rattle.instructions.specs.What.{targets_of}
use Rattle.code_steps.specs.CodeArray.{IsInstruction, AreLaidOut, by_offsets, with_target, IsAmong, IsCodeArray}
use Rattle.code_steps.proofs.LayoutLaws.{number_small}
use Rattle.code_steps.specs.Operands.{HasOne, HasTwo, Any, near_target, far_target, IsTarget, IsKey, IsCase, AreItems, padding_of, IsTableSwitch, IsLookupSwitch, Rise, AreWideOf, AreWide, IsElementCode, IsOperands}
use Rattle.code_write.specs.declared.operands.Operands.{Operands}
use Rattle.code_write.specs.declared.operands.Operands.TheVariants.{Absent, Byte, Short, ByteIndex, Index, Local, WideLocal, Increment, WideIncrement, Near, Far, TableSwitch, LookupSwitch, InterfaceCall, NewArray}
use Rattle.code_write.specs.declared.operands.Written.{Written}
use Rattle.code_write.specs.Instruction.{s1, s2, s4, distance, far_bytes, padding_bytes, highest, table_bytes, case_bytes, lookup_bytes, element_code, operand_bytes, wide_bytes, instruction_bytes, IsFar, IsTableInRange, IsCaseInRange, IsLookupInRange, IsInRange, HasKey, HasWidths}
use Rattle.code_write.proofs.SizeLaws.{length_zeros}
use Rattle.code_write.specs.Meaning.{targets_read, cases_read, Means, IsMeant, code_bytes, AreMeant}

-- ---- numbers in two's complement

pub below8 : (z : ℤ) → FitsSigned w8 z → cast_unsigned w8 z < 256 ^ 1
below8 (pos n) fits = omega (arith, fits.sfits)
below8 (negsuc n) fits = omega (arith, fits.sfits)

pub below16 : (z : ℤ) → FitsSigned w16 z → cast_unsigned w16 z < 256 ^ 2
below16 (pos n) fits = omega (arith, fits.sfits)
below16 (negsuc n) fits = omega (arith, fits.sfits)

pub below32 : (z : ℤ) → FitsSigned w32 z → cast_unsigned w32 z < 2 ^ 32
below32 (pos n) fits = omega (arith, fits.sfits)
below32 (negsuc n) fits = omega (arith, fits.sfits)

pub near_back : (at target : ℕ) → FitsSigned w16 (distance at target) → pos target ≡ near_target at (cast_unsigned w16 (distance at target))
near_back at target fits = omega (arith, ints)

pub far_back : (at target : ℕ) → IsFar at target → pos target ≡ far_target at (cast_unsigned w32 (distance at target))
far_back at target fits = omega (arith, ints)

is_target : (at target : ℕ) → IsFar at target → IsTarget at (pos target) (far_bytes at target)
is_target at target fits = (cast_unsigned w32 (distance at target), below32 (distance at target) fits, refl, far_back at target fits)

is_key : (key : ℤ) → FitsSigned w32 key → IsKey key (s4 key)
is_key key fits = (cast_unsigned w32 key, below32 key fits, refl, sym (to_z-of_z w32 key fits))

-- ---- switches

are_targets : (at : ℕ) (targets : List ℕ) → All (IsFar at) targets → AreItems (IsTarget at) (targets_read targets) (flat_map (far_bytes at) targets)
are_targets at [] all = refl
are_targets at (t ∷ ts) all =
    (far_bytes at t, flat_map (far_bytes at) ts, is_target at t (All-head (IsFar at) t ts all), are_targets at ts (All-tail (IsFar at) t ts all), refl)

are_cases : (at : ℕ) (cases : List (Case ℕ)) → All (IsCaseInRange at) cases → All HasKey cases → AreItems (IsCase at) (cases_read cases) (flat_map (case_bytes at) cases)
are_cases at [] all keys = refl
are_cases at (c ∷ cs) all keys = (
  case_bytes at c,
  flat_map (case_bytes at) cs,
  (s4 c.key, far_bytes at c.target, is_key c.key (All-head HasKey c cs keys), is_target at c.target (All-head (IsCaseInRange at) c cs all), refl),
  are_cases at cs (All-tail (IsCaseInRange at) c cs all) (All-tail HasKey c cs keys),
  refl,
)

highest_above : (low : ℤ) (n : ℕ) → 0 < n → low ≤ℤ (low +ℤ pos n -ℤ pos 1)
highest_above low n some = grind (arith, ints)

highest_next : (low : ℤ) (n m : ℕ) → m ≡ n → low +ℤ pos m ≡ low +ℤ pos n -ℤ pos 1 +ℤ pos 1
highest_next low n m e = omega (arith, ints)

is_table : (at default : ℕ) (low : ℤ) (targets : List ℕ) → IsTableInRange at default low targets → FitsSigned w32 low → 0 < length targets → IsTableSwitch at (whats.TableSwitch (pos default) low (targets_read targets)) (table_bytes at default low targets)
is_table at default low targets fits width some = record {
  padding = padding_bytes at;
  default = pos default;
  default_bytes = far_bytes at default;
  low = low;
  low_bytes = s4 low;
  high = highest low targets;
  high_bytes = s4 (highest low targets);
  targets = targets_read targets;
  targets_bytes = flat_map (far_bytes at) targets;
  filled = length_zeros (padding_of at);
  default_is = is_target at default fits.default_fits;
  low_is = is_key low width;
  high_is = is_key (highest low targets) fits.highest_fits;
  targets_are = are_targets at targets fits.targets_fit;
  ordered = highest_above low (length targets) some;
  count = highest_next low (length targets) (length (targets_read targets)) (length-map targets (λ t. pos t));
  spelled = refl;
  made = refl;
}

is_lookup : (at default : ℕ) (cases : List (Case ℕ)) → IsLookupInRange at default cases → All HasKey cases → Rise (cases_read cases) → IsLookupSwitch at (whats.LookupSwitch (pos default) (cases_read cases)) (lookup_bytes at default cases)
is_lookup at default cases fits keys rising = record {
  padding = padding_bytes at;
  default = pos default;
  default_bytes = far_bytes at default;
  cases = cases_read cases;
  cases_bytes = flat_map (case_bytes at) cases;
  filled = length_zeros (padding_of at);
  default_is = is_target at default fits.default_fits;
  count = rw (length-map cases (with_target (λ t. pos t))) fits.count;
  cases_are = are_cases at cases fits.cases_fit keys;
  rising = rising;
  spelled = ap (λ (n : ℕ). padding_bytes at ++ (far_bytes at default ++ (u4 n ++ flat_map (case_bytes at) cases))) (sym (length-map cases (with_target (λ t. pos t))));
  made = refl;
}

-- ---- operands

-- the operands are those of the form, or those of the form after wide
abbrev Coded : List Constant → ℕ → Form → Operands ℕ → What ℤ → Type 0
Coded pool at form o what =
    ((wide_bytes o ≡ []) × IsOperands pool at form what (operand_bytes at o))
    ⊎ ((wide_bytes o ≡ 196 ∷ []) × AreWideOf form what (operand_bytes at o))

element_is : (element : PrimitiveType) (what : What ℤ) → what ≡ whats.NewArray element → IsElementCode (element_code element) what
element_is primitives.Boolean what e = inl (refl, e)
element_is primitives.Char what e = inr (inl (refl, e))
element_is primitives.Byte what e = inr (inr (inl (refl, e)))
element_is primitives.Short what e = inr (inr (inr (inl (refl, e))))
element_is primitives.Int what e = inr (inr (inr (inr (inl (refl, e)))))
element_is primitives.Long what e = inr (inr (inr (inr (inr (refl, e)))))

signed8 : (made : ℤ → What ℤ) (n : ℤ) (what : What ℤ) → FitsSigned w8 n → what ≡ made n → HasOne 1 (λ x. made (cast_signed w8 x)) Any what (s1 n)
signed8 made n what fits e = (cast_unsigned w8 n, below8 n fits, refl, e ∙ ap made (sym (to_z-of_z w8 n fits)), tt)

signed16 : (made : ℤ → What ℤ) (n : ℤ) (what : What ℤ) → FitsSigned w16 n → what ≡ made n → HasOne 2 (λ x. made (cast_signed w16 x)) Any what (s2 n)
signed16 made n what fits e = (cast_unsigned w16 n, below16 n fits, refl, e ∙ ap made (sym (to_z-of_z w16 n fits)), tt)

increments8 : (local : ℕ) (by : ℤ) (what : What ℤ) → local < 256 ^ 1 → FitsSigned w8 by → what ≡ whats.Increment local by → HasTwo 1 (λ x y. whats.Increment x (cast_signed w8 y)) what (u1 local ++ s1 by)
increments8 local by what small fits e =
    (local, cast_unsigned w8 by, small, below8 by fits, refl, e ∙ ap (whats.Increment local) (sym (to_z-of_z w8 by fits)))

increments16 : (local : ℕ) (by : ℤ) (what : What ℤ) → local < 256 ^ 2 → FitsSigned w16 by → what ≡ whats.Increment local by → HasTwo 2 (λ x y. whats.Increment x (cast_signed w16 y)) what (u2 local ++ s2 by)
increments16 local by what small fits e =
    (local, cast_unsigned w16 by, small, below16 by fits, refl, e ∙ ap (whats.Increment local) (sym (to_z-of_z w16 by fits)))

-- what holds of these operands, which fit, holds of the same under another name
same : (P : Operands ℕ → Type 0) (at : ℕ) (o o' : Operands ℕ) → o ≡ o' → (IsInRange at o' → HasWidths o' → P o') → IsInRange at o → HasWidths o → P o
same P at o o' e f = subst (λ (x : Operands ℕ). IsInRange at x → HasWidths x → P x) (sym e) f

coded : (pool : List Constant) (at : ℕ) (form : Form) (o : Operands ℕ) (what : What ℤ) → IsInRange at o → HasWidths o → Means pool form o what → Coded pool at form o what
coded pool at (forms.Plain plain) o what r k m = same (λ x. Coded pool at (forms.Plain plain) x what) at o Absent m.0 (λ _ _. inl (refl, (refl, m.1))) r k
coded pool at (forms.FixedInt n) o what r k m = same (λ x. Coded pool at (forms.FixedInt n) x what) at o Absent m.0 (λ _ _. inl (refl, (refl, m.1))) r k
coded pool at (forms.FixedLong n) o what r k m = same (λ x. Coded pool at (forms.FixedLong n) x what) at o Absent m.0 (λ _ _. inl (refl, (refl, m.1))) r k
coded pool at (forms.FixedLocal access local) o what r k m = same (λ x. Coded pool at (forms.FixedLocal access local) x what) at o Absent m.0 (λ _ _. inl (refl, (refl, m.1))) r k
coded pool at forms.ByteInt o what r k m = same (λ x. Coded pool at forms.ByteInt x what) at o (Byte m.0) m.1 (λ _ fits. inl (refl, signed8 whats.Int m.0 what fits m.2)) r k
coded pool at forms.ShortInt o what r k m = same (λ x. Coded pool at forms.ShortInt x what) at o (Short m.0) m.1 (λ _ fits. inl (refl, signed16 whats.Int m.0 what fits m.2)) r k
coded pool at forms.ByteConstant o what r k m = same (λ x. Coded pool at forms.ByteConstant x what) at o (ByteIndex m.0) m.1 (λ _ fits. inl (refl, (m.0, fits, refl, m.2, m.3))) r k
coded pool at forms.Constant o what r k m = same (λ x. Coded pool at forms.Constant x what) at o (Index m.0) m.1 (λ _ fits. inl (refl, (m.0, fits, refl, m.2, m.3))) r k
coded pool at forms.LongConstant o what r k m = same (λ x. Coded pool at forms.LongConstant x what) at o (Index m.0) m.1 (λ _ fits. inl (refl, (m.0, fits, refl, m.2, m.3))) r k
coded pool at (forms.Local access) o what r k m = elim m.1 [
  | inl e ↦ same (λ x. Coded pool at (forms.Local access) x what) at o (Local m.0) e (λ _ fits. inl (refl, (m.0, fits, refl, m.2, tt))) r k
  | inr e ↦ same (λ x. Coded pool at (forms.Local access) x what) at o (WideLocal m.0) e (λ _ fits. inr (refl, (m.0, fits, refl, m.2, tt))) r k
]
coded pool at forms.Increment o what r k m = elim m.2 [
  | inl e ↦ same (λ x. Coded pool at forms.Increment x what) at o (Increment m.0 m.1) e (λ _ fits. inl (refl, increments8 m.0 m.1 what fits.0 fits.1 m.3)) r k
  | inr e ↦ same (λ x. Coded pool at forms.Increment x what) at o (WideIncrement m.0 m.1) e (λ _ fits. inr (refl, increments16 m.0 m.1 what fits.0 fits.1 m.3)) r k
]
coded pool at (forms.Branch test) o what r k m = same (λ x. Coded pool at (forms.Branch test) x what) at o (Near m.0) m.1 (λ fits _. inl (refl, (cast_unsigned w16 (distance at m.0), below16 (distance at m.0) fits, refl, m.2 ∙ ap (whats.Branch test) (near_back at m.0 fits), tt))) r k
coded pool at (forms.FarBranch test) o what r k m = same (λ x. Coded pool at (forms.FarBranch test) x what) at o (Far m.0) m.1 (λ fits _. inl (refl, (cast_unsigned w32 (distance at m.0), below32 (distance at m.0) fits, refl, m.2 ∙ ap (whats.Branch test) (far_back at m.0 fits), tt))) r k
coded pool at forms.TableSwitch o what r k m = same (λ x. Coded pool at forms.TableSwitch x what) at o (TableSwitch m.0 m.1 m.2) m.3 (λ fits width. inl (refl, subst (λ (y : What ℤ). IsTableSwitch at y (table_bytes at m.0 m.1 m.2)) (sym m.4) (is_table at m.0 m.1 m.2 fits width m.5))) r k
coded pool at forms.LookupSwitch o what r k m = same (λ x. Coded pool at forms.LookupSwitch x what) at o (LookupSwitch m.0 m.1) m.2 (λ fits keys. inl (refl, subst (λ (y : What ℤ). IsLookupSwitch at y (lookup_bytes at m.0 m.1)) (sym m.3) (is_lookup at m.0 m.1 fits keys m.4))) r k
coded pool at (forms.Field access) o what r k m = same (λ x. Coded pool at (forms.Field access) x what) at o (Index m.0) m.1 (λ _ fits. inl (refl, (m.0, fits, refl, m.2, m.3))) r k
coded pool at (forms.Call call) o what r k m = same (λ x. Coded pool at (forms.Call call) x what) at o (Index m.0) m.1 (λ _ fits. inl (refl, (m.0, fits, refl, m.2, m.3))) r k
coded pool at forms.InterfaceCall o what r k m = same (λ x. Coded pool at forms.InterfaceCall x what) at o (InterfaceCall m.0 m.1) m.2 (λ _ fits. inl (refl, (m.0, m.1, 0, fits.0, fits.1, lit< tt, m.4, refl, m.3))) r k
coded pool at (forms.Class purpose) o what r k m = same (λ x. Coded pool at (forms.Class purpose) x what) at o (Index m.0) m.1 (λ _ fits. inl (refl, (m.0, fits, refl, m.2, m.3))) r k
coded pool at forms.NewArray o what r k m = same (λ x. Coded pool at forms.NewArray x what) at o (NewArray m.0) m.1 (λ _ _. inl (refl, (element_code m.0, refl, element_is m.0 what m.2))) r k
coded pool at forms.Wide o what r k m = absurd m

-- ---- instructions

abbrev wide_row : Instruction
wide_row = row 196 "wide" forms.Wide

wide_numbered : row_numbered 196 ≡ Some wide_row
unfolding table
wide_numbered = refl

narrow_instruction : (pool : List Constant) (code : List ℕ) (at next : ℕ) (w : Written ℕ) (what : What ℤ) (m : IsMeant pool at w what) → wide_bytes w.operands ≡ [] → IsOperands pool at m.row.form what (operand_bytes at w.operands) → next ≡ at + length (instruction_bytes at w) → drop at code ≡ instruction_bytes at w ++ drop next code → IsInstruction pool code (record { at = at; next = next; what = what })
narrow_instruction pool code at next w what m narrow is ends whole = record {
  number = w.number;
  row = m.row;
  operands = operand_bytes at w.operands;
  numbered = m.numbered;
  right = is;
  spelled = whole ∙ ap (λ (s : List ℕ). s ++ (w.number ∷ operand_bytes at w.operands) ++ drop next code) narrow;
  ends = let size : length (instruction_bytes at w) ≡ suc (length (operand_bytes at w.operands)) = ap (λ (s : List ℕ). length (s ++ (w.number ∷ operand_bytes at w.operands))) narrow in omega (arith, size, ends);
}

pub one_byte : (n : ℕ) → n < 256 → u1 n ≡ n ∷ []
one_byte n small = ap (λ (k : ℕ). k ∷ []) (mod-eq_of_lt small)

wide_instruction : (pool : List Constant) (code : List ℕ) (at next : ℕ) (w : Written ℕ) (what : What ℤ) (m : IsMeant pool at w what) → wide_bytes w.operands ≡ 196 ∷ [] → AreWideOf m.row.form what (operand_bytes at w.operands) → next ≡ at + length (instruction_bytes at w) → drop at code ≡ instruction_bytes at w ++ drop next code → IsInstruction pool code (record { at = at; next = next; what = what })
wide_instruction pool code at next w what m wide is ends whole =
    let Are : Option Instruction → Type 0 = λ r. AreWide r what (operand_bytes at w.operands) in
    let byte : w.number < 256 = omega (arith, number_small w.number m.row m.numbered) in
    record {
      number = 196;
      row = wide_row;
      operands = w.number ∷ operand_bytes at w.operands;
      numbered = wide_numbered;
      right = (w.number, operand_bytes at w.operands, byte, subst Are (sym m.numbered) is, ap (λ (s : List ℕ). s ++ operand_bytes at w.operands) (sym (one_byte w.number byte)));
      spelled = whole ∙ ap (λ (s : List ℕ). s ++ (w.number ∷ operand_bytes at w.operands) ++ drop next code) wide;
      ends = let size : length (instruction_bytes at w) ≡ suc (suc (length (operand_bytes at w.operands))) = ap (λ (s : List ℕ). length (s ++ (w.number ∷ operand_bytes at w.operands))) wide in omega (arith, size, ends);
    }

is_instruction : (pool : List Constant) (code : List ℕ) (at next : ℕ) (w : Written ℕ) (what : What ℤ) → IsMeant pool at w what → next ≡ at + length (instruction_bytes at w) → drop at code ≡ instruction_bytes at w ++ drop next code → IsInstruction pool code (record { at = at; next = next; what = what })
is_instruction pool code at next w what m ends whole = elim (coded pool at m.row.form w.operands what m.in_range m.widths m.means) [
  | inl c ↦ narrow_instruction pool code at next w what m c.0 c.1 ends whole
  | inr c ↦ wide_instruction pool code at next w what m c.0 c.1 ends whole
]

-- ---- code arrays

dropped : (before behind : List ℕ) (at : ℕ) → length before ≡ at → drop at (before ++ behind) ≡ behind
dropped before behind at e = grind (arith, common_steps)

laid : (pool : List Constant) (before : List ℕ) (at : ℕ) (ws : List (Written ℕ)) (steps : List (Instr ℤ)) (code : List ℕ) → length before ≡ at → code ≡ before ++ code_bytes at ws → AreMeant pool at ws steps → AreLaidOut pool code at steps (length code)
laid pool before at [] [] code e whole m = sym e ∙ ap length (sym (append-nil before)) ∙ ap length (sym whole)
laid pool before at [] (i ∷ steps) code e whole m = cc
laid pool before at (w ∷ others) [] code e whole m = absurd m
laid pool before at (w ∷ others) (i ∷ steps) code e whole m =
    let text : List ℕ = instruction_bytes at w in
    let next : ℕ = at + length text in
    let reached : length (before ++ text) ≡ next = length-append before text ∙ ap (λ (n : ℕ). n + length text) e in
    let parts : code ≡ (before ++ text) ++ code_bytes next others = whole ∙ sym (append_assoc before text (code_bytes next others)) in
    let behind : drop next code ≡ code_bytes next others = ap (drop next) parts ∙ dropped (before ++ text) (code_bytes next others) next reached in
    let here : drop at code ≡ text ++ drop next code = ap (drop at) whole ∙ dropped before (text ++ code_bytes next others) at e ∙ ap (λ (s : List ℕ). text ++ s) (sym behind) in
    let first : IsInstruction pool code (record { at = at; next = next; what = i.what }) = is_instruction pool code at next w i.what m.2 refl here in
    let Begins : ℕ → Type 0 = λ a. IsInstruction pool code (record { at = a; next = next; what = i.what }) in
    let Ends : ℕ → Type 0 = λ n. IsInstruction pool code (record { at = i.at; next = n; what = i.what }) in
    let Behind : ℕ → Type 0 = λ n. AreLaidOut pool code n steps (length code) in
    (m.0, subst Ends (sym m.1) (subst Begins (sym m.0) first), subst Behind (sym m.1) (laid pool (before ++ text) next others steps code reached parts m.3))

pub written_code : (pool : List Constant) (ws : List (Written ℕ)) (steps : List (Instr ℤ)) → AreMeant pool 0 ws steps → AreLaidOut pool (code_bytes 0 ws) 0 steps (length (code_bytes 0 ws))
written_code pool ws steps m = laid pool [] 0 ws steps (code_bytes 0 ws) refl refl m

pub code_array : (pool : List Constant) (ws : List (Written ℕ)) (steps : List (Instr Target)) → AreMeant pool 0 ws (map by_offsets steps) → 0 < length (code_bytes 0 ws) → length (code_bytes 0 ws) ≤ 65535 → AllByRecursion (λ (i : Instr Target). AllByRecursion (IsAmong steps) (targets_of i.what)) steps → IsCodeArray pool (code_bytes 0 ws) steps
code_array pool ws steps m some most targets = record {
  some = some;
  most = most;
  laid = written_code pool ws (map by_offsets steps) m;
  targets = targets;
}

-- ---- one instruction more

pub code_more : (at : ℕ) (ws : List (Written ℕ)) (w : Written ℕ) → code_bytes at (ws ++ w ∷ []) ≡ code_bytes at ws ++ instruction_bytes (at + length (code_bytes at ws)) w
code_more at [] w =
    let here : at ≡ at + 0 = omega arith in
    append-nil (instruction_bytes at w) ∙ ap (λ (n : ℕ). instruction_bytes n w) here
code_more at (v ∷ others) w =
    let text : List ℕ = instruction_bytes at v in
    let next : ℕ = at + length text in
    let size = length-append text (code_bytes next others) in
    let here : next + length (code_bytes next others) ≡ at + length (text ++ code_bytes next others) = omega (arith, size) in
    ap (λ (s : List ℕ). text ++ s) (code_more next others w)
    ∙ sym (append_assoc text (code_bytes next others) (instruction_bytes (next + length (code_bytes next others)) w))
    ∙ ap (λ (n : ℕ). text ++ code_bytes next others ++ instruction_bytes n w) here
