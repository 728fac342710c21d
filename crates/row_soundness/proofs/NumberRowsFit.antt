-- The rows of constants, negations, shifts, comparisons and conversions.
use Rattle.std.proofs.Common.{◌≡◌, ◌<◌, ◌^◌, ◌-◌, ◌==◌, ℕ, ℤ, Bool, true, false, inr, Some, List, [], ◌∷◌, ◌++◌, refl, sym, ap, subst, ◌∙◌, arith, if◌then◌else◌}
use Rattle.std.specs.Int.{w32, w64, cast_signed, cast_unsigned}
use Rattle.std.specs.Option.{option_map}
use Rattle.code_decode.specs.declared.code.ClassUnit.{ClassUnit}
use Rattle.instructions.specs.declared.operation.Conversion.{Conversion}
use Rattle.instructions.specs.declared.operation.Shift.{Shift}
use Rattle.instructions.specs.declared.what.Instr.{Instr}
use Rattle.instructions.specs.declared.what.Target.{Target}
use Rattle.instructions.specs.declared.what.What.{What}
use Rattle.instructions.specs.What.{falls_through}
use Rattle.link_types.specs.declared.operands.Operand.{Operand}
use Rattle.link_rules.specs.FixedObjects.{class_object, string_object}
use Rattle.link_rules.specs.Names.{program_names}
use Rattle.link_rules.specs.Operands.{operand}
use Rattle.type_rules.specs.declared.types.VerificationType.{VerificationType}
use Rattle.type_rules.specs.declared.types.VerificationType.TheVariants.{Long, Second}
use Rattle.type_rules.specs.Environment.{Environment, TypeFrame}
use Rattle.type_rules.specs.FrameAfter.{constant_pushes}
use Rattle.java_rows.specs.LocalRows.{leaving, pushed, stack_row, int_negate, long_negate, int_shift, long_shift, converted, long_compare}
use Rattle.java_rows.specs.Numbers.{long_of, long_words, negative_of, int_shifted, long_shifted, byte_of, char_of, short_of, widened, compared}
use Rattle.java_rows.specs.Plan.{Frame}
use Rattle.java_rows.specs.Program.{constant_words}
use Rattle.java_rows.specs.Rows.{by_local}
use Rattle.row_soundness.specs.Senses.{Sense}
use Rattle.row_soundness.specs.Fits.{Unset, HaveTypes, PlanFits, anything, env_of, returns_of}
use Rattle.row_soundness.specs.Operands.{FitsIn, Begins, at_offset}
use Rattle.row_soundness.specs.Knowledge.{Knows}
use Rattle.row_soundness.specs.Accepted.{Accepted, IsConstantOperand}
use Rattle.row_soundness.proofs.RowBasics.{RowFits, takes, Fit, goes_on}
use Rattle.instructions.specs.declared.operation.Conversion.TheVariants as conversions
use Rattle.instructions.specs.declared.operation.Plain.TheVariants as plain
use Rattle.instructions.specs.declared.what.What.TheVariants as whats
use Rattle.link_types.specs.declared.operands.Operand.TheVariants as operands

module _ {P : Type 0} (know : Sense P) (us : List ClassUnit) (knows : Knows know us) (accepted : Accepted us) (me : ℕ) where
  long_range : (low high : ℕ) → low < 2 ^ 32 → high < 2 ^ 32 → long_of low high < 2 ^ 64
  long_range low high l g = omega (arith, l, g)

  -- the words of a long are words
  long_typed : (env : Environment) (u : Unset) (h : P) (n : ℕ) (rest : List ℕ) (ts : List VerificationType) → (know.exact → n < 2 ^ 64) → HaveTypes know env u h rest ts → HaveTypes know env u h (long_words n ++ rest) (Second ∷ Long ∷ ts)
  long_typed env u h n rest ts range left = ((λ exact. omega (arith, range exact)), ((λ exact. omega arith), left))

  module _ (h : P) (f : Frame) (at next : ℕ) where
    abbrev simple : What Target → Instr Target
    simple what = at_offset at next what

    -- the locals stay, and the stack is this one
    go : (what : What Target) (b : Begins know us h f (simple what)) (stack : List ℕ) → falls_through what ≡ true
        → Rattle.type_rules.specs.FrameAfter.frame_after (env_of us f.method b.stands.of) (simple what) (b.stands.frames f.step)
        ≡ record (b.stands.frames f.step) { stack = (Rattle.type_rules.specs.FrameAfter.frame_after (env_of us f.method b.stands.of) (simple what) (b.stands.frames f.step)).stack }
        → HaveTypes know (env_of us f.method b.stands.of) b.stands.unset h stack (Rattle.type_rules.specs.FrameAfter.frame_after (env_of us f.method b.stands.of) (simple what) (b.stands.frames f.step)).stack
        → PlanFits know us (Some (returns_of know us h f b.stands)) anything (by_local us me f what (leaving f stack)) h
    go what b stack falls same typed =
        goes_on know us knows accepted me h f (simple what) b stack falls (subst (λ (x : TypeFrame). FitsIn know (env_of us f.method b.stands.of) b.stands.unset h f.locals stack x) (sym same) (record { locals_fit = b.stands.locals; stack_fits = typed; set = b.stands.set }))

    pub nop_fits : (b : Begins know us h f (simple (whats.Plain plain.Nop))) → RowFits know us knows accepted me h f (simple (whats.Plain plain.Nop)) b
    nop_fits b = go (whats.Plain plain.Nop) b f.stack refl refl b.stack

    pub null_fits : (b : Begins know us h f (simple (whats.Plain plain.Null))) → RowFits know us knows accepted me h f (simple (whats.Plain plain.Null)) b
    null_fits b = go (whats.Plain plain.Null) b (0 ∷ f.stack) refl refl (refl, b.stack)

    pub lconst_fits : (n : ℤ) (b : Begins know us h f (simple (whats.Long n))) → RowFits know us knows accepted me h f (simple (whats.Long n)) b
    lconst_fits n b = go (whats.Long n) b (long_words (cast_unsigned w64 n) ++ f.stack) refl refl (long_typed (env_of us f.method b.stands.of) b.stands.unset h (cast_unsigned w64 n) f.stack _ (λ exact. accepted.pushed_longs f.method b.stands.of f.step at next n b.at) b.stack)

    pub int_negate_fits : (b : Begins know us h f (simple (whats.Plain plain.IntNegate))) → RowFits know us knows accepted me h f (simple (whats.Plain plain.IntNegate)) b
    int_negate_fits b =
        let (a, rest, are, fits, left) = takes know us knows accepted me h f (simple (whats.Plain plain.IntNegate)) b in
        subst (λ s. Fit know us knows accepted me h f (simple (whats.Plain plain.IntNegate)) b (by_local us me f (whats.Plain plain.IntNegate) (int_negate f s))) (sym are)
        (go (whats.Plain plain.IntNegate) b (negative_of w32 a ∷ rest) refl refl ((λ exact. accepted.numbers.negatives a (fits exact)), left))

    pub long_negate_fits : (b : Begins know us h f (simple (whats.Plain plain.LongNegate))) → RowFits know us knows accepted me h f (simple (whats.Plain plain.LongNegate)) b
    long_negate_fits b =
        let (y, x, rest, are, y_fits, x_fits, left) = takes know us knows accepted me h f (simple (whats.Plain plain.LongNegate)) b in
        subst (λ s. Fit know us knows accepted me h f (simple (whats.Plain plain.LongNegate)) b (by_local us me f (whats.Plain plain.LongNegate) (long_negate f s))) (sym are)
        (go (whats.Plain plain.LongNegate) b (long_words (negative_of w64 (long_of x y)) ++ rest) refl refl
        (long_typed (env_of us f.method b.stands.of) b.stands.unset h (negative_of w64 (long_of x y)) rest _ (λ exact. accepted.numbers.long_negatives (long_of x y) (long_range x y (x_fits exact) (y_fits exact))) left))

    pub int_shift_fits : (op : Shift) (b : Begins know us h f (simple (whats.Plain (plain.IntShift op)))) → RowFits know us knows accepted me h f (simple (whats.Plain (plain.IntShift op))) b
    int_shift_fits op b =
        let (by, rs, are, by_fits, (a, rest, are', a_fits, left)) = takes know us knows accepted me h f (simple (whats.Plain (plain.IntShift op))) b in
        subst (λ s. Fit know us knows accepted me h f (simple (whats.Plain (plain.IntShift op))) b (by_local us me f (whats.Plain (plain.IntShift op)) (int_shift f op s))) (sym (are ∙ ap (λ s. by ∷ s) are'))
        (go (whats.Plain (plain.IntShift op)) b (int_shifted op a by ∷ rest) refl refl ((λ exact. accepted.numbers.int_shifts op a by (a_fits exact)), left))

    pub long_shift_fits : (op : Shift) (b : Begins know us h f (simple (whats.Plain (plain.LongShift op)))) → RowFits know us knows accepted me h f (simple (whats.Plain (plain.LongShift op))) b
    long_shift_fits op b =
        let (by, rs, are, by_fits, (y, x, rest, are', y_fits, x_fits, left)) = takes know us knows accepted me h f (simple (whats.Plain (plain.LongShift op))) b in
        subst (λ s. Fit know us knows accepted me h f (simple (whats.Plain (plain.LongShift op))) b (by_local us me f (whats.Plain (plain.LongShift op)) (long_shift f op s))) (sym (are ∙ ap (λ s. by ∷ s) are'))
        (go (whats.Plain (plain.LongShift op)) b (long_words (long_shifted op (long_of x y) by) ++ rest) refl refl
        (long_typed (env_of us f.method b.stands.of) b.stands.unset h (long_shifted op (long_of x y) by) rest _ (λ exact. accepted.numbers.long_shifts op (long_of x y) by (long_range x y (x_fits exact) (y_fits exact))) left))

    pub lcmp_fits : (b : Begins know us h f (simple (whats.Plain plain.LongCompare))) → RowFits know us knows accepted me h f (simple (whats.Plain plain.LongCompare)) b
    lcmp_fits b =
        let (d, c, rs, are, d_fits, c_fits, (y, x, rest, are', y_fits, x_fits, left)) = takes know us knows accepted me h f (simple (whats.Plain plain.LongCompare)) b in
        subst (λ s. Fit know us knows accepted me h f (simple (whats.Plain plain.LongCompare)) b (by_local us me f (whats.Plain plain.LongCompare) (long_compare f s))) (sym (are ∙ ap (λ s. d ∷ c ∷ s) are'))
        (go (whats.Plain plain.LongCompare) b (compared (long_of x y) (long_of c d) ∷ rest) refl refl ((λ exact. small (long_of x y) (long_of c d)), left))
      where
        small : (m n : ℕ) → compared m n < 2 ^ 32
        small m n = by_same (m == n) (Rattle.std.specs.Prelude.int_lt (cast_signed w64 m) (cast_signed w64 n))
          where
            by_same : (x y : Bool) → (if x then 0 else if y then 2 ^ 32 - 1 else 1) < 2 ^ 32
            by_same true y = omega arith
            by_same false true = omega arith
            by_same false false = omega arith

    -- ---- constants of the pool

    module _ (index : ℕ) where
      ldc_int : (b : Begins know us h f (simple (whats.Constant index))) (o : Operand) → operand us f.method.class index ≡ o → (v : ℕ) → HaveTypes know (env_of us f.method b.stands.of) b.stands.unset h (v ∷ []) (constant_pushes o)
          → HaveTypes know (env_of us f.method b.stands.of) b.stands.unset h (v ∷ f.stack) (constant_pushes o ++ (b.stands.frames f.step).stack)
      ldc_int b o e v fits = Rattle.row_soundness.proofs.Basics.append_typed know (env_of us f.method b.stands.of) b.stands.unset h (v ∷ []) f.stack _ _ fits b.stack

      by_constant : (b : Begins know us h f (simple (whats.Constant index))) (o : Operand) → operand us f.method.class index ≡ o → IsConstantOperand us o
          → Fit know us knows accepted me h f (simple (whats.Constant index)) b (by_local us me f (whats.Constant index) (pushed f f.stack (constant_words (program_names us) o)))
      by_constant b (operands.Int n) e fits =
          go (whats.Constant index) b (cast_unsigned w32 n ∷ f.stack) refl refl (subst (λ x. HaveTypes know (env_of us f.method b.stands.of) b.stands.unset h (cast_unsigned w32 n ∷ f.stack) (constant_pushes x ++ (b.stands.frames f.step).stack)) (sym e) ((λ exact. fits), b.stack))
      by_constant b (operands.Text n) e fits =
          go (whats.Constant index) b (string_object (program_names us) n ∷ f.stack) refl refl (subst (λ x. HaveTypes know (env_of us f.method b.stands.of) b.stands.unset h (string_object (program_names us) n ∷ f.stack) (constant_pushes x ++ (b.stands.frames f.step).stack)) (sym e) (inr (knows.literals h n fits), b.stack))
      by_constant b (operands.Class o) e (c, number, right) =
          subst (λ x. Fit know us knows accepted me h f (simple (whats.Constant index)) b (by_local us me f (whats.Constant index) (pushed f f.stack (option_map (λ n. class_object (program_names us) n ∷ []) x)))) (sym number)
          (go (whats.Constant index) b (class_object (program_names us) c ∷ f.stack) refl refl (subst (λ x. HaveTypes know (env_of us f.method b.stands.of) b.stands.unset h (class_object (program_names us) c ∷ f.stack) (constant_pushes x ++ (b.stands.frames f.step).stack)) (sym e) (inr (knows.class_objects h c right), b.stack)))
      by_constant b o e fits = absurd fits

      pub ldc_fits : (b : Begins know us h f (simple (whats.Constant index))) → RowFits know us knows accepted me h f (simple (whats.Constant index)) b
      ldc_fits b = by_constant b (operand us f.method.class index) refl (accepted.constants f.method b.stands.of f.step at next index b.at)

      pub ldc2_fits : (b : Begins know us h f (simple (whats.LongConstant index))) → RowFits know us knows accepted me h f (simple (whats.LongConstant index)) b
      ldc2_fits b =
          let (n, is, range) = accepted.long_constants f.method b.stands.of f.step at next index b.at in
          subst (λ o. Fit know us knows accepted me h f (simple (whats.LongConstant index)) b (by_local us me f (whats.LongConstant index) (pushed f f.stack (constant_words (program_names us) o)))) (sym is)
          (go (whats.LongConstant index) b (long_words (cast_unsigned w64 n) ++ f.stack) refl refl (long_typed (env_of us f.method b.stands.of) b.stands.unset h (cast_unsigned w64 n) f.stack _ (λ exact. range) b.stack))

    -- ---- conversions

    pub convert_fits : (c : Conversion) (b : Begins know us h f (simple (whats.Plain (plain.Convert c)))) → RowFits know us knows accepted me h f (simple (whats.Plain (plain.Convert c))) b
    convert_fits conversions.IntToLong b =
        let (a, rest, are, fits, left) = takes know us knows accepted me h f (simple (whats.Plain (plain.Convert conversions.IntToLong))) b in
        subst (λ s. Fit know us knows accepted me h f (simple (whats.Plain (plain.Convert conversions.IntToLong))) b (by_local us me f (whats.Plain (plain.Convert conversions.IntToLong)) (stack_row f (converted conversions.IntToLong s)))) (sym are)
        (go (whats.Plain (plain.Convert conversions.IntToLong)) b (long_words (widened a) ++ rest) refl refl (long_typed (env_of us f.method b.stands.of) b.stands.unset h (widened a) rest _ (λ exact. accepted.numbers.wide a (fits exact)) left))
    convert_fits conversions.LongToInt b =
        let (y, x, rest, are, y_fits, x_fits, left) = takes know us knows accepted me h f (simple (whats.Plain (plain.Convert conversions.LongToInt))) b in
        subst (λ s. Fit know us knows accepted me h f (simple (whats.Plain (plain.Convert conversions.LongToInt))) b (by_local us me f (whats.Plain (plain.Convert conversions.LongToInt)) (stack_row f (converted conversions.LongToInt s)))) (sym are)
        (go (whats.Plain (plain.Convert conversions.LongToInt)) b (x ∷ rest) refl refl (x_fits, left))
    convert_fits conversions.IntToByte b =
        let (a, rest, are, fits, left) = takes know us knows accepted me h f (simple (whats.Plain (plain.Convert conversions.IntToByte))) b in
        subst (λ s. Fit know us knows accepted me h f (simple (whats.Plain (plain.Convert conversions.IntToByte))) b (by_local us me f (whats.Plain (plain.Convert conversions.IntToByte)) (stack_row f (converted conversions.IntToByte s)))) (sym are)
        (go (whats.Plain (plain.Convert conversions.IntToByte)) b (byte_of a ∷ rest) refl refl ((λ exact. accepted.numbers.bytes a), left))
    convert_fits conversions.IntToChar b =
        let (a, rest, are, fits, left) = takes know us knows accepted me h f (simple (whats.Plain (plain.Convert conversions.IntToChar))) b in
        subst (λ s. Fit know us knows accepted me h f (simple (whats.Plain (plain.Convert conversions.IntToChar))) b (by_local us me f (whats.Plain (plain.Convert conversions.IntToChar)) (stack_row f (converted conversions.IntToChar s)))) (sym are)
        (go (whats.Plain (plain.Convert conversions.IntToChar)) b (char_of a ∷ rest) refl refl ((λ exact. omega arith), left))
    convert_fits conversions.IntToShort b =
        let (a, rest, are, fits, left) = takes know us knows accepted me h f (simple (whats.Plain (plain.Convert conversions.IntToShort))) b in
        subst (λ s. Fit know us knows accepted me h f (simple (whats.Plain (plain.Convert conversions.IntToShort))) b (by_local us me f (whats.Plain (plain.Convert conversions.IntToShort)) (stack_row f (converted conversions.IntToShort s)))) (sym are)
        (go (whats.Plain (plain.Convert conversions.IntToShort)) b (short_of a ∷ rest) refl refl ((λ exact. accepted.numbers.shorts a), left))
