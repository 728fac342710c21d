-- The operands that are read are those that were written.
use Rattle.std.proofs.Common.{◌≡◌, ℕ, ◌<◌, ◌^◌, ℤ, List, [], ◌∷◌, ◌++◌, inl, inr, refl, sym, ap, subst, ◌∙◌, arith, lit<}
use Rattle.std.specs.Int.{w8, w16, w32, cast_unsigned, cast_signed}
use Rattle.std.proofs.lemmas.Int.{to_z-of_z}
use Rattle.byteorder.specs.Endian.{big_bytes}
use Rattle.class_walk.specs.declared.class.Constant.{Constant}
use Rattle.class_walk.specs.Layout.{u1, u2}
use Rattle.instructions.specs.declared.form.Form.{Form}
use Rattle.instructions.specs.declared.form.Form.TheVariants as forms
use Rattle.instructions.specs.declared.operation.PrimitiveType.{PrimitiveType}
use Rattle.instructions.specs.declared.operation.PrimitiveType.TheVariants as primitives
use Rattle.instructions.specs.declared.what.What.{What}
use Rattle.instructions.specs.declared.what.What.TheVariants as whats
use Rattle.code_steps.specs.Operands.{HasNone, HasOne, HasTwo, Any, near_target, far_target, IsLoadable, IsLong, IsField, IsMethodFor, IsInterfaceCall, IsClassFor, AreWideOf, IsElementCode, IsOperands}
use Rattle.code_write.specs.declared.operands.Operands.{Operands}
use Rattle.code_write.specs.declared.operands.Operands.TheVariants.{Absent, Byte, Short, ByteIndex, Index, Local, WideLocal, Increment, WideIncrement, Near, Far, TableSwitch, LookupSwitch, InterfaceCall, NewArray}
use Rattle.code_write.specs.Instruction.{distance, element_code, operand_bytes, wide_bytes, IsInRange, HasWidths}
use Rattle.code_write.specs.Meaning.{Means}
use Rattle.assembler_laws.specs.WrittenCode.Suits.{Suits}
use Rattle.code_write.proofs.CodeLaws.{below8, below16, below32, near_back, far_back}
use Rattle.assembler_laws.proofs.WrittenCode.NumberLaws.{number_same, text_same, parted}
use Rattle.assembler_laws.proofs.WrittenCode.SwitchLaws.{table_same, lookup_same}

-- ---- one operand, two operands

none_same : (made what : What ℤ) (text rest behind : List ℕ) → HasNone made what text → text ++ rest ≡ behind → rest ≡ behind
none_same made what text rest behind is e = ap (λ (s : List ℕ). s ++ rest) (sym is.0) ∙ e

one_same : (n : ℕ) (made : ℕ → What ℤ) (IsRight : ℕ → Type 0) (x : ℕ) (what : What ℤ) (text rest behind : List ℕ) → x < 256 ^ n → HasOne n made IsRight what text → text ++ rest ≡ big_bytes n x ++ behind
    → (what ≡ made x) × IsRight x × (rest ≡ behind)
one_same n made IsRight x what text rest behind small is e =
    let same = text_same n is.0 x text rest behind is.1 small is.2 e in
    (is.3 ∙ ap made same.0, subst IsRight same.0 is.4, same.1)

two_same : (n : ℕ) (made : ℕ → ℕ → What ℤ) (x y : ℕ) (what : What ℤ) (text rest behind : List ℕ) → x < 256 ^ n → y < 256 ^ n → HasTwo n made what text → text ++ rest ≡ (big_bytes n x ++ big_bytes n y) ++ behind
    → (what ≡ made x y) × (rest ≡ behind)
two_same n made x y what text rest behind small_x small_y is e =
    let parts = parted text (big_bytes n is.0) (big_bytes n is.1) rest (big_bytes n x) (big_bytes n y) behind is.4 e in
    let first = number_same n is.0 x (big_bytes n is.1 ++ rest) (big_bytes n y ++ behind) is.2 small_x parts in
    let second = number_same n is.1 y rest behind is.3 small_y first.1 in
    (is.5 ∙ ap (λ (k : ℕ). made k is.1) first.0 ∙ ap (made x) second.0, second.1)

-- ---- newarray

codes_apart : (x y : PrimitiveType) → element_code x ≡ element_code y → x ≡ y
codes_apart primitives.Boolean primitives.Boolean e = refl
codes_apart primitives.Char primitives.Char e = refl
codes_apart primitives.Byte primitives.Byte e = refl
codes_apart primitives.Short primitives.Short e = refl
codes_apart primitives.Int primitives.Int e = refl
codes_apart primitives.Long primitives.Long e = refl
codes_apart _ _ e = absurd (omega (arith, e))

-- a code of newarray is that of a type
element_of : (code : ℕ) (what : What ℤ) → IsElementCode code what → (element : PrimitiveType) × (code ≡ element_code element) × (what ≡ whats.NewArray element)
element_of code what (inl a) = (primitives.Boolean, a.0, a.1)
element_of code what (inr (inl a)) = (primitives.Char, a.0, a.1)
element_of code what (inr (inr (inl a))) = (primitives.Byte, a.0, a.1)
element_of code what (inr (inr (inr (inl a)))) = (primitives.Short, a.0, a.1)
element_of code what (inr (inr (inr (inr (inl a))))) = (primitives.Int, a.0, a.1)
element_of code what (inr (inr (inr (inr (inr a))))) = (primitives.Long, a.0, a.1)

code_small : (element : PrimitiveType) → element_code element < 256 ^ 1
code_small primitives.Boolean = lit< tt
code_small primitives.Char = lit< tt
code_small primitives.Byte = lit< tt
code_small primitives.Short = lit< tt
code_small primitives.Int = lit< tt
code_small primitives.Long = lit< tt

array_same : (element : PrimitiveType) (what : What ℤ) (code : ℕ) (text rest behind : List ℕ) → text ≡ u1 code → IsElementCode code what → text ++ rest ≡ u1 (element_code element) ++ behind
    → (what ≡ whats.NewArray element) × (rest ≡ behind)
array_same element what code text rest behind spelled is e =
    let found = element_of code what is in
    let same = text_same 1 (element_code found.0) (element_code element) text rest behind (code_small found.0) (code_small element) (spelled ∙ ap (λ (k : ℕ). u1 k) found.1) e in
    (found.2 ∙ ap whats.NewArray (codes_apart found.0 element same.0), same.1)

-- ---- invokeinterface

interface_same : (pool : List Constant) (at index count : ℕ) (what : What ℤ) (text rest behind : List ℕ) → index < 256 ^ 2 → count < 256 ^ 1 → IsOperands pool at forms.InterfaceCall what text
    → text ++ rest ≡ (u2 index ++ (u1 count ++ u1 0)) ++ behind → (what ≡ whats.InterfaceCall index) × IsInterfaceCall pool index count 0 × (rest ≡ behind)
interface_same pool at index count what text rest behind small_index small_count is e =
    let counts : List ℕ = u1 is.1 ++ u1 is.2 in
    let count_more : List ℕ = u1 count ++ u1 0 in
    let of_index = number_same 2 is.0 index (counts ++ rest) (count_more ++ behind) is.3 small_index (parted text (u2 is.0) counts rest (u2 index) count_more behind is.7 e) in
    let of_count = number_same 1 is.1 count (u1 is.2 ++ rest) (u1 0 ++ behind) is.4 small_count (parted counts (u1 is.1) (u1 is.2) rest (u1 count) (u1 0) behind refl of_index.1) in
    let of_last = number_same 1 is.2 0 rest behind is.5 (lit< tt) of_count.1 in
    let right : IsInterfaceCall pool index is.1 is.2 = subst (λ (k : ℕ). IsInterfaceCall pool k is.1 is.2) of_index.0 is.6 in
    let counted : IsInterfaceCall pool index count is.2 = subst (λ (k : ℕ). IsInterfaceCall pool index k is.2) of_count.0 right in
    (is.8 ∙ ap whats.InterfaceCall of_index.0, subst (λ (k : ℕ). IsInterfaceCall pool index count k) of_last.0 counted, of_last.1)

-- ---- each form

-- the operands make this instruction, and the same bytes come after them
abbrev pub MeansBefore : List Constant → Form → Operands ℕ → What ℤ → List ℕ → List ℕ → Type 0
MeansBefore pool form o what rest behind = Means pool form o what × (rest ≡ behind)

pub operands_same : (pool : List Constant) (at : ℕ) (form : Form) (o : Operands ℕ) (what : What ℤ) (text rest behind : List ℕ) → Suits form o → IsInRange at o → HasWidths o → wide_bytes o ≡ [] → IsOperands pool at form what text
    → text ++ rest ≡ operand_bytes at o ++ behind → MeansBefore pool form o what rest behind
operands_same pool at (forms.Plain plain) Absent what text rest behind suits fits width narrow is e = ((refl, is.1), none_same (whats.Plain plain) what text rest behind is e)
operands_same pool at (forms.FixedInt n) Absent what text rest behind suits fits width narrow is e = ((refl, is.1), none_same (whats.Int n) what text rest behind is e)
operands_same pool at (forms.FixedLong n) Absent what text rest behind suits fits width narrow is e = ((refl, is.1), none_same (whats.Long n) what text rest behind is e)
operands_same pool at (forms.FixedLocal access local) Absent what text rest behind suits fits width narrow is e = ((refl, is.1), none_same (whats.Local access local) what text rest behind is e)
operands_same pool at forms.ByteInt (Byte n) what text rest behind suits fits width narrow is e =
    let s = one_same 1 (λ x. whats.Int (cast_signed w8 x)) Any (cast_unsigned w8 n) what text rest behind (below8 n width) is e in
    ((n, refl, s.0 ∙ ap whats.Int (to_z-of_z w8 n width)), s.2)
operands_same pool at forms.ShortInt (Short n) what text rest behind suits fits width narrow is e =
    let s = one_same 2 (λ x. whats.Int (cast_signed w16 x)) Any (cast_unsigned w16 n) what text rest behind (below16 n width) is e in
    ((n, refl, s.0 ∙ ap whats.Int (to_z-of_z w16 n width)), s.2)
operands_same pool at forms.ByteConstant (ByteIndex index) what text rest behind suits fits width narrow is e =
    let s = one_same 1 (λ x. whats.Constant x) (IsLoadable pool) index what text rest behind width is e in ((index, refl, s.0, s.1), s.2)
operands_same pool at forms.Constant (Index index) what text rest behind suits fits width narrow is e =
    let s = one_same 2 (λ x. whats.Constant x) (IsLoadable pool) index what text rest behind width is e in ((index, refl, s.0, s.1), s.2)
operands_same pool at forms.LongConstant (Index index) what text rest behind suits fits width narrow is e =
    let s = one_same 2 (λ x. whats.LongConstant x) (IsLong pool) index what text rest behind width is e in ((index, refl, s.0, s.1), s.2)
operands_same pool at (forms.Local access) (Local local) what text rest behind suits fits width narrow is e =
    let s = one_same 1 (λ x. whats.Local access x) Any local what text rest behind width is e in ((local, inl refl, s.0), s.2)
operands_same pool at (forms.Local access) (WideLocal local) what text rest behind suits fits width narrow is e = absurd cc
operands_same pool at forms.Increment (Increment local by) what text rest behind suits fits width narrow is e =
    let s = two_same 1 (λ x y. whats.Increment x (cast_signed w8 y)) local (cast_unsigned w8 by) what text rest behind width.0 (below8 by width.1) is e in
    ((local, by, inl refl, s.0 ∙ ap (whats.Increment local) (to_z-of_z w8 by width.1)), s.1)
operands_same pool at forms.Increment (WideIncrement local by) what text rest behind suits fits width narrow is e = absurd cc
operands_same pool at (forms.Branch test) (Near target) what text rest behind suits fits width narrow is e =
    let s = one_same 2 (λ x. whats.Branch test (near_target at x)) Any (cast_unsigned w16 (distance at target)) what text rest behind (below16 (distance at target) fits) is e in
    ((target, refl, s.0 ∙ ap (whats.Branch test) (sym (near_back at target fits))), s.2)
operands_same pool at (forms.FarBranch test) (Far target) what text rest behind suits fits width narrow is e =
    let s = one_same 4 (λ x. whats.Branch test (far_target at x)) Any (cast_unsigned w32 (distance at target)) what text rest behind (below32 (distance at target) fits) is e in
    ((target, refl, s.0 ∙ ap (whats.Branch test) (sym (far_back at target fits))), s.2)
operands_same pool at forms.TableSwitch (TableSwitch default low targets) what text rest behind suits fits width narrow is e =
    let s = table_same at default low targets what text rest behind fits width is e in ((default, low, targets, refl, s.0, s.1), s.2)
operands_same pool at forms.LookupSwitch (LookupSwitch default cases) what text rest behind suits fits width narrow is e =
    let s = lookup_same at default cases what text rest behind fits width is e in ((default, cases, refl, s.0, s.1), s.2)
operands_same pool at (forms.Field access) (Index index) what text rest behind suits fits width narrow is e =
    let s = one_same 2 (λ x. whats.Field access x) (IsField pool) index what text rest behind width is e in ((index, refl, s.0, s.1), s.2)
operands_same pool at (forms.Call call) (Index index) what text rest behind suits fits width narrow is e =
    let s = one_same 2 (λ x. whats.Call call x) (IsMethodFor pool call) index what text rest behind width is e in ((index, refl, s.0, s.1), s.2)
operands_same pool at forms.InterfaceCall (InterfaceCall index count) what text rest behind suits fits width narrow is e =
    let s = interface_same pool at index count what text rest behind width.0 width.1 is e in ((index, count, refl, s.0, s.1), s.2)
operands_same pool at (forms.Class purpose) (Index index) what text rest behind suits fits width narrow is e =
    let s = one_same 2 (λ x. whats.Class purpose x) (IsClassFor pool purpose) index what text rest behind width is e in ((index, refl, s.0, s.1), s.2)
operands_same pool at forms.NewArray (NewArray element) what text rest behind suits fits width narrow is e =
    let s = array_same element what is.0 text rest behind is.1 is.2 e in ((element, refl, s.0), s.1)
operands_same pool at _ _ what text rest behind suits fits width narrow is e = absurd suits

-- after wide
pub wide_operands_same : (pool : List Constant) (at : ℕ) (form : Form) (o : Operands ℕ) (what : What ℤ) (text rest behind : List ℕ) → Suits form o → HasWidths o → wide_bytes o ≡ 196 ∷ [] → AreWideOf form what text
    → text ++ rest ≡ operand_bytes at o ++ behind → MeansBefore pool form o what rest behind
wide_operands_same pool at (forms.Local access) (WideLocal local) what text rest behind suits width wide is e =
    let s = one_same 2 (λ x. whats.Local access x) Any local what text rest behind width is e in ((local, inr refl, s.0), s.2)
wide_operands_same pool at (forms.Local access) (Local local) what text rest behind suits width wide is e = absurd cc
wide_operands_same pool at (forms.Local access) _ what text rest behind suits width wide is e = absurd suits
wide_operands_same pool at forms.Increment (WideIncrement local by) what text rest behind suits width wide is e =
    let s = two_same 2 (λ x y. whats.Increment x (cast_signed w16 y)) local (cast_unsigned w16 by) what text rest behind width.0 (below16 by width.1) is e in
    ((local, by, inr refl, s.0 ∙ ap (whats.Increment local) (to_z-of_z w16 by width.1)), s.1)
wide_operands_same pool at forms.Increment (Increment local by) what text rest behind suits width wide is e = absurd cc
wide_operands_same pool at forms.Increment _ what text rest behind suits width wide is e = absurd suits
wide_operands_same pool at _ o what text rest behind suits width wide is e = absurd is
