-- The rows of ints: constants, arithmetic, branches, and locals that hold an int.
use Rattle.std.proofs.Common.{◌≡◌, ◌<◌, ◌^◌, ◌%◌, ◌/◌, ◌+◌, ◌-◌, ℕ, ℤ, Bool, true, false, ◌||◌, Option, None, Some, List, ◌∷◌, length, refl, sym, ap, subst, ◌∙◌, arith, slice_set, slice_index_or, nat_le, nat_lt, if◌then◌else◌}
use Rattle.std.proofs.lemmas.Bool.{lt-leb, lt-ltb, leb-true}
use Rattle.std.specs.Int.{w32, w64, cast_unsigned}
use Rattle.builtin_world.specs.declared.number.TheConstants.{ARITHMETIC_EXCEPTION}
use Rattle.code_decode.specs.declared.code.ClassUnit.{ClassUnit}
use Rattle.instructions.specs.declared.operation.Arithmetic.{Arithmetic}
use Rattle.instructions.specs.declared.operation.Condition.{Condition}
use Rattle.instructions.specs.declared.operation.LocalAccess.TheVariants.{Load, Store}
use Rattle.instructions.specs.declared.what.Instr.{Instr}
use Rattle.instructions.specs.declared.what.Target.{Target}
use Rattle.type_rules.specs.declared.types.VerificationType.{VerificationType}
use Rattle.type_rules.specs.declared.types.VerificationType.TheVariants.{Top, Int, Float, Long, Double, Second, Null, UninitThis, Uninit, Object}
use Rattle.type_rules.specs.Environment.{Environment}
use Rattle.type_rules.specs.Assignable.{is_same_type}
use Rattle.type_rules.specs.FrameAfter.{local_at, with_local, without_half}
use Rattle.java_rows.specs.LocalRows.{no_row, leaving, stored, loaded, branch_row, jumps_if, long_arithmetic, long_computed, int_arithmetic, int_computed}
use Rattle.java_rows.specs.Numbers.{result_of, long_of, holds}
use Rattle.java_rows.specs.Plan.{Frame}
use Rattle.java_rows.specs.Rows.{by_local}
use Rattle.row_soundness.specs.Senses.{Sense, IsWord}
use Rattle.row_soundness.specs.Fits.{Unset, Holds, HaveTypes, returns_of, env_of}
use Rattle.row_soundness.specs.Operands.{Begins, at_offset}
use Rattle.row_soundness.specs.Knowledge.{Knows}
use Rattle.row_soundness.specs.Accepted.{Accepted}
use Rattle.row_soundness.proofs.Flow.{next_fits, target_fits, targets_inside, targets_enter, uses, locals_long}
use Rattle.row_soundness.proofs.Basics.{local_typed, length_typed, set_typed, top_typed}
use Rattle.row_soundness.proofs.RowBasics.{RowFits, fails_fit, leaving_fits, goes_on, takes, Fit, Left}
use Rattle.instructions.specs.declared.operation.Plain.TheVariants as plain
use Rattle.instructions.specs.declared.operation.ValueKind.TheVariants as kinds
use Rattle.instructions.specs.declared.operation.Test.TheVariants as tests
use Rattle.instructions.specs.declared.what.What.TheVariants as whats

module _ {P : Type 0} (know : Sense P) (us : List ClassUnit) (knows : Knows know us) (accepted : Accepted us) (me : ℕ) where
  module _ (h : P) (f : Frame) where
    pub iconst_fits : (n : ℤ) (at next : ℕ) (b : Begins know us h f (at_offset at next (whats.Int n))) → RowFits know us knows accepted me h f (at_offset at next (whats.Int n)) b
    iconst_fits n at next b =
        goes_on know us knows accepted me h f (at_offset at next (whats.Int n)) b (cast_unsigned w32 n ∷ f.stack) refl
        (record { locals_fit = b.stands.locals; stack_fits = ((λ exact. accepted.pushed f.method b.stands.of f.step at next n b.at), b.stack); set = b.stands.set })

    module _ (op : Arithmetic) (at next : ℕ) where
      abbrev int_op : Instr Target
      int_op = at_offset at next (whats.Plain (plain.IntArithmetic op))

      int_result : (b : Begins know us h f int_op) (w v : ℕ) (rest : List ℕ) → IsWord know w → IsWord know v → Left know us knows accepted me h f int_op b 2 rest
          → (o : Option ℕ) → result_of w32 op v w ≡ o → Fit know us knows accepted me h f int_op b (by_local us me f int_op.what (int_computed f rest o))
      int_result b w v rest w_fits v_fits left (Some n) e =
          goes_on know us knows accepted me h f int_op b (n ∷ rest) refl (record { locals_fit = b.stands.locals; stack_fits = ((λ exact. accepted.numbers.ints op v w n (v_fits exact) (w_fits exact) e), left); set = b.stands.set })
      int_result b w v rest w_fits v_fits left None e = fails_fit know us knows accepted me h f b.stands ARITHMETIC_EXCEPTION refl

      pub int_arithmetic_fits : (b : Begins know us h f int_op) → RowFits know us knows accepted me h f int_op b
      int_arithmetic_fits b =
          let (w, r, e, w_fits, (v, rest, d, v_fits, left)) = takes know us knows accepted me h f int_op b in
          subst (λ s. Fit know us knows accepted me h f int_op b (by_local us me f int_op.what (int_arithmetic f op s))) (sym (e ∙ ap (λ s. w ∷ s) d))
          (int_result b w v rest w_fits v_fits left (result_of w32 op v w) refl)

      abbrev long_op : Instr Target
      long_op = at_offset at next (whats.Plain (plain.LongArithmetic op))

      long_result : (b : Begins know us h f long_op) (d c y x : ℕ) (rest : List ℕ) → IsWord know d → IsWord know c → IsWord know y → IsWord know x → Left know us knows accepted me h f long_op b 4 rest
          → (o : Option ℕ) → result_of w64 op (long_of x y) (long_of c d) ≡ o → Fit know us knows accepted me h f long_op b (by_local us me f long_op.what (long_computed f rest o))
      long_result b d c y x rest d_fits c_fits y_fits x_fits left (Some n) e =
          let range : know.exact → n < 2 ^ 64 = λ exact. accepted.numbers.longs op (long_of x y) (long_of c d) n (long_range x y (x_fits exact) (y_fits exact)) (long_range c d (c_fits exact) (d_fits exact)) e in
          goes_on know us knows accepted me h f long_op b (n / 2 ^ 32 ∷ n % 2 ^ 32 ∷ rest) refl (record { locals_fit = b.stands.locals; stack_fits = ((λ exact. omega (arith, range exact)), ((λ exact. omega arith), left)); set = b.stands.set })
        where
          long_range : (low high : ℕ) → low < 2 ^ 32 → high < 2 ^ 32 → long_of low high < 2 ^ 64
          long_range low high l g = omega (arith, l, g)
      long_result b d c y x rest d_fits c_fits y_fits x_fits left None e = fails_fit know us knows accepted me h f b.stands ARITHMETIC_EXCEPTION refl

      pub long_arithmetic_fits : (b : Begins know us h f long_op) → RowFits know us knows accepted me h f long_op b
      long_arithmetic_fits b =
          let (d, c, r, e, d_fits, c_fits, (y, x, rest, g, y_fits, x_fits, left)) = takes know us knows accepted me h f long_op b in
          subst (λ s. Fit know us knows accepted me h f long_op b (by_local us me f long_op.what (long_arithmetic f op s))) (sym (e ∙ ap (λ s. d ∷ c ∷ s) g))
          (long_result b d c y x rest d_fits c_fits y_fits x_fits left (result_of w64 op (long_of x y) (long_of c d)) refl)

    -- ---- branches

    module _ (condition : Condition) (t : Target) (at next : ℕ) where
      abbrev if_ints : Instr Target
      if_ints = at_offset at next (whats.Branch (tests.Ints condition) t)

      jumps_if_fits : (b : Begins know us h f if_ints) (rest : List ℕ) (taken : Bool) → Left know us knows accepted me h f if_ints b 2 rest → Fit know us knows accepted me h f if_ints b (by_local us me f if_ints.what (jumps_if f t rest taken))
      jumps_if_fits b rest true left = (
        tt,
        (
          tt,
          target_fits know us knows accepted h f if_ints b b.stands.unset.made f.locals rest t (targets_inside know us knows accepted h f if_ints b).0 (targets_enter know us knows accepted h f if_ints b).0
              (record { locals_fit = b.stands.locals; stack_fits = left; set = b.stands.set }),
        ),
      )
      jumps_if_fits b rest false left =
          (tt, (tt, (next_fits know us knows accepted h f if_ints b b.stands.unset.made f.locals rest refl (record { locals_fit = b.stands.locals; stack_fits = left; set = b.stands.set })).0))

      pub if_ints_fits : (b : Begins know us h f if_ints) → RowFits know us knows accepted me h f if_ints b
      if_ints_fits b =
          let (w, r, e, w_fits, (v, rest, d, v_fits, left)) = takes know us knows accepted me h f if_ints b in
          subst (λ s. Fit know us knows accepted me h f if_ints b (by_local us me f if_ints.what (branch_row f (tests.Ints condition) t s))) (sym (e ∙ ap (λ s. w ∷ s) d))
          (jumps_if_fits b rest (holds condition v w) left)

    module _ (t : Target) (at next : ℕ) where
      abbrev go_to : Instr Target
      go_to = at_offset at next (whats.Branch tests.Always t)

      pub goto_fits : (b : Begins know us h f go_to) → RowFits know us knows accepted me h f go_to b
      goto_fits b = (
        tt,
        (
          tt,
          target_fits know us knows accepted h f go_to b b.stands.unset.made f.locals f.stack t (targets_inside know us knows accepted h f go_to b).0 (targets_enter know us knows accepted h f go_to b).0
              (record { locals_fit = b.stands.locals; stack_fits = b.stack; set = b.stands.set }),
        ),
      )

    -- ---- locals

    module _ (n at next : ℕ) where
      abbrev iload : Instr Target
      iload = at_offset at next (whats.Local (Load kinds.Int) n)

      int_is : (t : VerificationType) → is_same_type t Int ≡ true → t ≡ Int
      int_is Int e = refl
      int_is t e = cc

      pub iload_fits : (b : Begins know us h f iload) → RowFits know us knows accepted me h f iload b
      iload_fits b =
          let uses = uses know us knows accepted h f iload b in
          let right : is_same_type (local_at (b.stands.frames f.step) n) Int ≡ true = or_inside (nat_le b.stands.of.code.max_locals n) _ (leb-false_of n b.stands.of.code.max_locals uses.there) uses.local in
          let int : local_at (b.stands.frames f.step) n ≡ Int = int_is _ right in
          let (v, got, v_fits) = local_typed know (env_of us f.method b.stands.of) b.stands.unset h f.locals (b.stands.frames f.step).locals n b.stands.locals (λ e. let bad : Int ≡ Top = sym int ∙ e in cc) in
          subst (λ o. Fit know us knows accepted me h f iload b (by_local us me f iload.what (loaded f f.stack o))) (sym got)
          (goes_on know us knows accepted me h f iload b (v ∷ f.stack) refl (record { locals_fit = b.stands.locals; stack_fits = (subst (λ t. Holds know (env_of us f.method b.stands.of) b.stands.unset h v t) int v_fits, b.stack); set = b.stands.set }))
        where
          or_inside : (x y : Bool) → x ≡ false → (x || y) ≡ true → y ≡ true
          or_inside false y e g = g
          or_inside true y e g = cc

          leb-false_of : (n m : ℕ) → nat_le (n + 1) m ≡ true → nat_le m n ≡ false
          leb-false_of n m e = lt-leb m n (omega (arith, leb-true (n + 1) m e))

    -- ---- stores

    -- a local that is set, where the other half of a long may be lost
    half_typed : (env : Environment) (u : Unset) (vs : List ℕ) (ts : List VerificationType) (n : ℕ) (old : VerificationType) → HaveTypes know env u h vs ts → HaveTypes know env u h vs (without_half ts n old)
    half_typed env u vs ts n Second is = top_typed know us knows env u h vs ts (n - 1) is
    half_typed env u vs ts n Long is = top_typed know us knows env u h vs ts (n + 1) is
    half_typed env u vs ts n Double is = top_typed know us knows env u h vs ts (n + 1) is
    half_typed env u vs ts n Top is = is
    half_typed env u vs ts n Int is = is
    half_typed env u vs ts n Float is = is
    half_typed env u vs ts n Null is = is
    half_typed env u vs ts n UninitThis is = is
    half_typed env u vs ts n (Uninit p) is = is
    half_typed env u vs ts n (Object t) is = is

    pub stored_typed : (env : Environment) (u : Unset) (vs : List ℕ) (ts : List VerificationType) (n v : ℕ) (t : VerificationType) → HaveTypes know env u h vs ts → Holds know env u h v t → HaveTypes know env u h (slice_set vs n v) (with_local ts n t)
    stored_typed env u vs ts n v t is fits = set_typed know env u h vs (without_half ts n (slice_index_or ts n Top)) n v t (half_typed env u vs ts n (slice_index_or ts n Top) is) fits

    module _ (n at next : ℕ) where
      abbrev istore : Instr Target
      istore = at_offset at next (whats.Local (Store kinds.Int) n)

      by_local_there : (x : Bool) (b : Begins know us h f istore) (v : ℕ) (rest : List ℕ) → x ≡ true → IsWord know v → Left know us knows accepted me h f istore b 1 rest
          → Fit know us knows accepted me h f istore b (by_local us me f istore.what (if x then leaving (Rattle.java_rows.specs.LocalRows.with_local f n v) rest else no_row))
      by_local_there false b v rest e v_fits left = cc
      by_local_there true b v rest e v_fits left =
          let leads = next_fits know us knows accepted h f istore b b.stands.unset.made (slice_set f.locals n v) rest refl
          (record { locals_fit = stored_typed (env_of us f.method b.stands.of) b.stands.unset f.locals (b.stands.frames f.step).locals n v Int b.stands.locals v_fits; stack_fits = left; set = b.stands.set }) in
          leaving_fits know us knows accepted me h (Some (returns_of know us h f b.stands)) f (Rattle.java_rows.specs.LocalRows.with_local f n v) istore.what rest leads.1 leads.0

      pub istore_fits : (b : Begins know us h f istore) → RowFits know us knows accepted me h f istore b
      istore_fits b =
          let (v, rest, e, v_fits, left) = takes know us knows accepted me h f istore b in
          let uses = uses know us knows accepted h f istore b in
          let long : length f.locals ≡ b.stands.of.code.max_locals = length_typed know (env_of us f.method b.stands.of) b.stands.unset h f.locals (b.stands.frames f.step).locals b.stands.locals ∙ locals_long know us knows accepted h f b.stands f.step b.stands.within in
          subst (λ s. Fit know us knows accepted me h f istore b (by_local us me f istore.what (stored f n s))) (sym e)
          (by_local_there (nat_lt n (length f.locals)) b v rest (lt-ltb n (length f.locals) (omega (arith, long, leb-true (n + 1) b.stands.of.code.max_locals uses.there))) v_fits left)
