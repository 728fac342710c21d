-- The numbers that instructions spell, entry by entry and row by row.
use Rattle.std.proofs.Common.{◌≡◌, ◌<◌, ◌≤◌, ◌+◌, ◌^◌, ◌&&◌, ◌||◌, ◌==◌, ℕ, zero, suc, Bool, true, false, Option, None, Some, List, [], ◌∷◌, length, map, refl, sym, ap, subst, ◌∙◌, arith, nat_lt, slice_get, is_some, not, inl, inr}
use Rattle.std.specs.Prelude.{ℤ, find}
use Rattle.std.specs.Int.{w8, w16, w32, w64, cast_signed, cast_unsigned}
use Rattle.std.specs.Int.Signed.{mag}
use Rattle.std.proofs.lemmas.Bool.{and_parts, ltb-true, true≢false}
use Rattle.std.proofs.lemmas.Option.{same_Some, none-some, slice_get_within, slice_get_cases}
use Rattle.access_flags.specs.declared.TheConstants.{ABSTRACT, NATIVE}
use Rattle.access_flags.specs.Flags.{has}
use Rattle.class_walk.specs.declared.class.Constant.{Constant}
use Rattle.class_walk.specs.declared.class.Constant.TheVariants as constants
use Rattle.class_walk.specs.Layout.{Fits, IsGapped, is_wide}
use Rattle.class_read.specs.declared.class_file.ClassFile.{ClassFile}
use Rattle.class_read.specs.declared.class_file.Member.{Member}
use Rattle.class_read.specs.MemberRules.{wants_code}
use Rattle.code_decode.specs.declared.code.Code.{Code}
use Rattle.code_decode.specs.Method.{StandsForFile}
use Rattle.code_decode.specs.Unit.{AreCodes, IsCodeEntry}
use Rattle.code_laws.proofs.FileLaws.{methods}
use Rattle.code_steps.specs.CodeArray.{IsInstruction, AreLaidOut, by_offsets, with_targets, IsCodeArray}
use Rattle.code_steps.specs.Operands.{IsOperands, AreWideOf, AreWide, IsElementCode}
use Rattle.instructions.specs.declared.form.Form.{Form}
use Rattle.instructions.specs.declared.form.Form.TheVariants as forms
use Rattle.instructions.specs.declared.what.Instr.{Instr}
use Rattle.instructions.specs.declared.what.Target.{Target}
use Rattle.instructions.specs.declared.what.What.{What}
use Rattle.instructions.specs.declared.what.What.TheVariants as whats
use Rattle.instructions.specs.Table.{Instruction, table, row_numbered}
use Rattle.number_facts.proofs.NumberLaws.{low, signed_small}
use Rattle.code_facts.specs.Facts.{PushesWords, CodesPushWords, HasWords, MethodsHaveCode}

-- ---- the rows of the table

form_fits : Form → Bool
form_fits (forms.FixedInt n) = nat_lt (cast_unsigned w32 n) (2 ^ 32)
form_fits (forms.FixedLong n) = nat_lt (cast_unsigned w64 n) (2 ^ 64)
form_fits _ = true

all_fit : List Instruction → Bool
all_fit [] = true
all_fit (r ∷ rows) = form_fits r.form && all_fit rows

table_fits : all_fit table ≡ true
unfolding table form_fits all_fit
table_fits = refl

found_fits : (test : Instruction → Bool) (rows : List Instruction) (r : Instruction) → all_fit rows ≡ true → find test rows ≡ Some r → form_fits r.form ≡ true
unfolding all_fit
found_fits test [] r all e = absurd (none-some r e)
found_fits test (x ∷ rows) r all e = by_test (test x) (λ is. found_fits test rows r parts.1 is) e
  where
    parts : (form_fits x.form ≡ true) × (all_fit rows ≡ true)
    parts = and_parts (form_fits x.form) (all_fit rows) all

    by_test : (b : Bool) → (find test rows ≡ Some r → form_fits r.form ≡ true) → Rattle.std.proofs.Common.cond b (Some x) (find test rows) ≡ Some r → form_fits r.form ≡ true
    by_test true later is = subst (λ (y : Instruction). form_fits y.form ≡ true) (same_Some x r is) parts.0
    by_test false later is = later is

row_fits : (number : ℕ) (r : Instruction) → row_numbered number ≡ Some r → form_fits r.form ≡ true
row_fits number r e = found_fits (λ i. i.number == number) table r table_fits e

-- ---- what operands make

made_so : (what made : What ℤ) → what ≡ made → PushesWords made → PushesWords what
made_so what made is right = subst (λ (w : What ℤ). PushesWords w) (sym is) right

wide_pushes : (form : Form) (what : What ℤ) (operands : List ℕ) → AreWideOf form what operands → PushesWords what
wide_pushes (forms.Local access) what operands h = made_so what _ h.3 tt
wide_pushes forms.Increment what operands h = made_so what _ h.5 tt
wide_pushes _ what operands h = absurd h

wide_row_pushes : (row : Option Instruction) (what : What ℤ) (operands : List ℕ) → AreWide row what operands → PushesWords what
wide_row_pushes None what operands h = absurd h
wide_row_pushes (Some row) what operands h = wide_pushes row.form what operands h

element_pushes : (code : ℕ) (what : What ℤ) → IsElementCode code what → PushesWords what
element_pushes code what (inl h) = made_so what _ h.1 tt
element_pushes code what (inr (inl h)) = made_so what _ h.1 tt
element_pushes code what (inr (inr (inl h))) = made_so what _ h.1 tt
element_pushes code what (inr (inr (inr (inl h)))) = made_so what _ h.1 tt
element_pushes code what (inr (inr (inr (inr (inl h))))) = made_so what _ h.1 tt
element_pushes code what (inr (inr (inr (inr (inr h))))) = made_so what _ h.1 tt

pushes : (pool : List Constant) (at : ℕ) (form : Form) (what : What ℤ) (operands : List ℕ) → form_fits form ≡ true → IsOperands pool at form what operands → PushesWords what
unfolding form_fits
pushes pool at (forms.FixedInt n) what operands fits h = made_so what (whats.Int n) h.1 (ltb-true (cast_unsigned w32 n) (2 ^ 32) fits)
pushes pool at (forms.FixedLong n) what operands fits h = made_so what (whats.Long n) h.1 (ltb-true (cast_unsigned w64 n) (2 ^ 64) fits)
pushes pool at forms.ByteInt what operands fits h =
    let small : mag (cast_signed w8 h.0) < 2 ^ 7 = signed_small w8 refl h.0 h.1 in
    made_so what (whats.Int (cast_signed w8 h.0)) h.3 (low w32 (cast_signed w8 h.0) (omega (arith, small)))
pushes pool at forms.ShortInt what operands fits h =
    let small : mag (cast_signed w16 h.0) < 2 ^ 15 = signed_small w16 refl h.0 h.1 in
    made_so what (whats.Int (cast_signed w16 h.0)) h.3 (low w32 (cast_signed w16 h.0) (omega (arith, small)))
pushes pool at (forms.Plain plain) what operands fits h = made_so what _ h.1 tt
pushes pool at (forms.FixedLocal access local) what operands fits h = made_so what _ h.1 tt
pushes pool at forms.ByteConstant what operands fits h = made_so what _ h.3 tt
pushes pool at forms.Constant what operands fits h = made_so what _ h.3 tt
pushes pool at forms.LongConstant what operands fits h = made_so what _ h.3 tt
pushes pool at (forms.Local access) what operands fits h = made_so what _ h.3 tt
pushes pool at forms.Increment what operands fits h = made_so what _ h.5 tt
pushes pool at (forms.Branch test) what operands fits h = made_so what _ h.3 tt
pushes pool at (forms.FarBranch test) what operands fits h = made_so what _ h.3 tt
pushes pool at forms.TableSwitch what operands fits h = made_so what _ h.made tt
pushes pool at forms.LookupSwitch what operands fits h = made_so what _ h.made tt
pushes pool at (forms.Field access) what operands fits h = made_so what _ h.3 tt
pushes pool at (forms.Call call) what operands fits h = made_so what _ h.3 tt
pushes pool at forms.InterfaceCall what operands fits h = made_so what _ h.8 tt
pushes pool at (forms.Class purpose) what operands fits h = made_so what _ h.3 tt
pushes pool at forms.NewArray what operands fits h = element_pushes h.0 what h.2
pushes pool at forms.Wide what operands fits h = wide_row_pushes (row_numbered h.0) what h.1 h.3

untargeted : {A B : Type 0} (f : A → B) (what : What A) → PushesWords (with_targets f what) → PushesWords what
untargeted f (whats.Int n) h = h
untargeted f (whats.Long n) h = h
untargeted f (whats.Plain plain) h = tt
untargeted f (whats.Constant index) h = tt
untargeted f (whats.LongConstant index) h = tt
untargeted f (whats.Local access local) h = tt
untargeted f (whats.Increment local by) h = tt
untargeted f (whats.Branch test target) h = tt
untargeted f (whats.TableSwitch default first targets) h = tt
untargeted f (whats.LookupSwitch default cases) h = tt
untargeted f (whats.Field access index) h = tt
untargeted f (whats.Call call index) h = tt
untargeted f (whats.InterfaceCall index) h = tt
untargeted f (whats.Class purpose index) h = tt
untargeted f (whats.NewArray element) h = tt

laid_push : (pool : List Constant) (code : List ℕ) (from : ℕ) (steps : List (Instr Target)) (to : ℕ) → AreLaidOut pool code from (map by_offsets steps) to
    → (k : ℕ) (i : Instr Target) → slice_get steps k ≡ Some i → PushesWords i.what
laid_push pool code from [] to laid k i there = absurd (none-some i there)
laid_push pool code from (s ∷ steps) to laid zero i there =
    let is : IsInstruction pool code (by_offsets s) = laid.1 in
    subst (λ (j : Instr Target). PushesWords j.what) (same_Some s i there)
    (untargeted _ s.what (pushes pool s.at is.row.form (by_offsets s).what is.operands (row_fits is.number is.row is.numbered) is.right))
laid_push pool code from (s ∷ steps) to laid (suc k) i there = laid_push pool code s.next steps to laid.2 k i there

pub push_words : (file : ClassFile) (codes : List (Option Code)) → StandsForFile file → AreCodes file codes → CodesPushWords codes
push_words file codes stands are method code there k i at =
    let (m, a, member, (entry, count, is)) = are.each method (Some code) there in
    laid_push file.pool a.bytes 0 code.steps (length a.bytes) is.steps.laid k i at

-- ---- pools

entry_fits : (pool : List Constant) (due : Bool) → IsGapped due pool → (i : ℕ) (c : Constant) → slice_get pool i ≡ Some c → Fits c
entry_fits [] due gaps i c there = absurd (none-some c there)
entry_fits (x ∷ pool) due gaps zero c there = subst Fits (same_Some x c there) gaps.1
entry_fits (x ∷ pool) due gaps (suc i) c there = entry_fits pool (is_wide x) gaps.2 i c there

pub have_words : (file : ClassFile) → StandsForFile file → HasWords file.pool
have_words file (bytes, are_bytes, (c, is_class, sound, is)) =
    subst (λ (f : ClassFile). HasWords f.pool) (sym is) (record {
      ints = λ i n there.
          let fits : Fits (constants.Integer n) = entry_fits c.pool true is_class.holds.pool.gaps i (constants.Integer n) there in
          low w32 n (omega (arith, fits.sfits));
      longs = λ i n there.
          let fits : Fits (constants.Long n) = entry_fits c.pool true is_class.holds.pool.gaps i (constants.Long n) there in
          low w64 n (omega (arith, fits.sfits));
    })

-- ---- methods with code

wants_it : (a n : Bool) → a ≡ false → n ≡ false → not (a || n) ≡ true
wants_it false false e f = refl
wants_it true n e f = cc
wants_it false true e f = cc

pub have_code : (file : ClassFile) (codes : List (Option Code)) → StandsForFile file → AreCodes file codes → MethodsHaveCode file codes
have_code file codes stands are method m there concrete here = by_entry (slice_get codes method) refl
  where
    wanted : is_some m.code ≡ true
    wanted = (methods file stands method m there).code ∙ wants_it (has m.flags ABSTRACT) (has m.flags NATIVE) concrete here

    none : m.code ≡ None → ⊥
    none e = true≢false (sym wanted ∙ ap is_some e)

    by_entry : (o : Option (Option Code)) → slice_get codes method ≡ o → (code : Code) × (slice_get codes method ≡ Some (Some code))
    by_entry (Some (Some code)) e = (code, e)
    by_entry (Some None) e =
        let (n, same, missing) = are.each method None e in
        absurd (none (subst (λ (x : Member). x.code ≡ None) (same_Some n m (sym same ∙ there)) missing))
    by_entry None e =
        let within = slice_get_within file.methods method m there in
        elim (slice_get_cases codes method).1 [
          | inl h ↦ absurd (none-some h.0 (sym e ∙ h.2))
          | inr h ↦ absurd (let past : length codes ≤ method = h.0 in omega (arith, within, are.count, past))
        ]
