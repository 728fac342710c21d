-- The rows of locals of all kinds, of branches and of switches.
use Rattle.std.proofs.Common.{◌≡◌, ◌<◌, ◌≤◌, ◌+◌, ◌-◌, ◌==◌, ◌||◌, not, ℕ, ℤ, pos, zero, suc, Bool, true, false, Some, List, [], ◌∷◌, length, map, slice_get, slice_set, slice_index_or, unwrap_or, refl, sym, ap, subst, ◌∙◌, arith, nat_le, nat_lt, if◌then◌else◌}
use Rattle.std.specs.Prelude.{find, ◌-ℤ◌}
use Rattle.std.specs.List.{AllByRecursion}
use Rattle.std.specs.Int.{w32, cast_signed, cast_unsigned, int_wrapping_add}
use Rattle.std.specs.Option.{option_map}
use Rattle.std.proofs.lemmas.Bool.{lt-leb, lt-ltb, leb-true, ltb-true}
use Rattle.code_decode.specs.declared.code.ClassUnit.{ClassUnit}
use Rattle.instructions.specs.declared.operation.LocalAccess.TheVariants.{Load, Store}
use Rattle.instructions.specs.declared.operation.Test.{Test}
use Rattle.instructions.specs.declared.what.Case.{Case}
use Rattle.instructions.specs.declared.what.Instr.{Instr}
use Rattle.instructions.specs.declared.what.Target.{Target}
use Rattle.instructions.specs.declared.what.What.{What}
use Rattle.instructions.specs.What.{falls_through}
use Rattle.type_rules.specs.declared.types.VerificationType.{VerificationType}
use Rattle.type_rules.specs.declared.types.VerificationType.TheVariants.{Top, Int, Long, Second}
use Rattle.type_rules.specs.Assignable.{is_same_type}
use Rattle.type_rules.specs.FrameAfter.{local_at, stack_at, frame_after, with_local as typed_local}
use Rattle.type_rules.specs.Wants.{is_reference_type}
use Rattle.type_laws.specs.Frames.{Enters}
use Rattle.java_rows.specs.LocalRows.{no_row, leaving, loaded, long_loaded, stored, long_stored, branch_row, jumps_if, jumps, incremented, with_local, table_row, lookup_row}
use Rattle.java_rows.specs.Numbers.{holds, table_target, target_above, case_target, is_case}
use Rattle.java_rows.specs.Plan.{Frame}
use Rattle.java_rows.specs.Rows.{by_local}
use Rattle.row_soundness.specs.Senses.{Sense, IsWord}
use Rattle.row_soundness.specs.Fits.{Holds, HaveTypes, env_of, returns_of}
use Rattle.row_soundness.specs.Operands.{FitsIn, Begins, at_offset}
use Rattle.row_soundness.specs.Knowledge.{Knows}
use Rattle.row_soundness.specs.Accepted.{Accepted}
use Rattle.row_soundness.proofs.Basics.{local_typed, length_typed, any_typed}
use Rattle.row_soundness.proofs.Flow.{next_fits, target_fits, targets_enter, targets_inside, uses, locals_long}
use Rattle.row_soundness.proofs.RowBasics.{RowFits, takes, Fit, leaving_fits, goes_on}
use Rattle.row_soundness.proofs.LocalRowsFit.{stored_typed}
use Rattle.instructions.specs.declared.operation.Test.TheVariants as tests
use Rattle.instructions.specs.declared.operation.ValueKind.TheVariants as kinds
use Rattle.instructions.specs.declared.what.What.TheVariants as whats

or_inside : (x y : Bool) → x ≡ false → (x || y) ≡ true → y ≡ true
or_inside false y e g = g
or_inside true y e g = cc

same_long : (t : VerificationType) → is_same_type t Long ≡ true → t ≡ Long
same_long Long e = refl
same_long t e = cc

same_int : (t : VerificationType) → is_same_type t Int ≡ true → t ≡ Int
same_int Int e = refl
same_int t e = cc

no_top : (t : VerificationType) → is_reference_type t ≡ true → t ≡ Top → ⊥
no_top t e f = let bad : is_reference_type Top ≡ true = subst (λ x. is_reference_type x ≡ true) f e in cc

-- what is found in a list is one of it
all_here : {A : Type 0} (Q : A → Type 0) (xs : List A) (n : ℕ) (d : A) → AllByRecursion Q xs → Q d → Q (unwrap_or (slice_get xs n) d)
all_here Q [] n d all is = is
all_here Q (x ∷ xs) zero d all is = all.0
all_here Q (x ∷ xs) (suc n) d all is = all_here Q xs n d all.1 is

target_here : (Q : Target → Type 0) (default : Target) (targets : List Target) (key : ℤ) → AllByRecursion Q targets → Q default → Q (target_above default targets key)
target_here Q default targets (pos i) all is = all_here Q targets i default all is
target_here Q default targets key all is = is

case_here : (Q : Target → Type 0) (default : Target) (cases : List (Case Target)) (a : ℕ) → AllByRecursion Q (map (λ c. c.target) cases) → Q default → Q (case_target default cases a)
case_here Q default [] a all is = is
case_here Q default (c ∷ cases) a all is = by_test (is_case a c) (case_here Q default cases a all.1 is)
  where
    by_test : (b : Bool) → Q (case_target default cases a) → Q (unwrap_or (option_map (λ (x : Case Target). x.target) (Rattle.std.proofs.Common.cond b (Some c) (find (is_case a) cases))) default)
    by_test true rest = all.0
    by_test false rest = rest

module _ {P : Type 0} (know : Sense P) (us : List ClassUnit) (knows : Knows know us) (accepted : Accepted us) (me : ℕ) where
  module _ (h : P) (f : Frame) (at next : ℕ) where
    abbrev simple : What Target → Instr Target
    simple what = at_offset at next what

    module _ (n : ℕ) where
      inside : (k m : ℕ) → nat_le (n + k) m ≡ true → 1 ≤ k → nat_le m n ≡ false
      inside k m e some = lt-leb m n (omega (arith, leb-true (n + k) m e, some))

      abbrev lload : Instr Target
      lload = simple (whats.Local (Load kinds.Long) n)

      pub lload_fits : (b : Begins know us h f lload) → RowFits know us knows accepted me h f lload b
      lload_fits b =
          let env = env_of us f.method b.stands.of in
          let here = b.stands.frames f.step in
          let right = uses know us knows accepted h f lload b in
          let long : length here.locals ≡ b.stands.of.code.max_locals = locals_long know us knows accepted h f b.stands f.step b.stands.within in
          let room = leb-true (n + 2) b.stands.of.code.max_locals right.there in
          let (low, low_at, low_fits) = any_typed know us knows env b.stands.unset h f.locals here.locals n b.stands.locals (omega (arith, room, long)) in
          let (high, high_at, high_fits) = any_typed know us knows env b.stands.unset h f.locals here.locals (suc n) b.stands.locals (omega (arith, room, long)) in
          subst (λ o. Fit know us knows accepted me h f lload b (by_local us me f lload.what (long_loaded f f.stack o (slice_get f.locals (suc n))))) (sym low_at)
          (subst (λ o. Fit know us knows accepted me h f lload b (by_local us me f lload.what (long_loaded f f.stack (Some low) o))) (sym high_at)
          (goes_on know us knows accepted me h f lload b (high ∷ low ∷ f.stack) refl (record { locals_fit = b.stands.locals; stack_fits = (high_fits, (low_fits, b.stack)); set = b.stands.set })))

      abbrev aload : Instr Target
      aload = simple (whats.Local (Load kinds.Reference) n)

      pub aload_fits : (b : Begins know us h f aload) → RowFits know us knows accepted me h f aload b
      aload_fits b =
          let env = env_of us f.method b.stands.of in
          let here = b.stands.frames f.step in
          let right = uses know us knows accepted h f aload b in
          let reference : is_reference_type (local_at here n) ≡ true = or_inside (nat_le b.stands.of.code.max_locals n) _ (inside 1 b.stands.of.code.max_locals right.there (omega arith)) right.local in
          let (v, v_at, v_fits) = local_typed know env b.stands.unset h f.locals here.locals n b.stands.locals (no_top (local_at here n) reference) in
          subst (λ o. Fit know us knows accepted me h f aload b (by_local us me f aload.what (loaded f f.stack o))) (sym v_at)
          (goes_on know us knows accepted me h f aload b (v ∷ f.stack) refl (record { locals_fit = b.stands.locals; stack_fits = (v_fits, b.stack); set = b.stands.set }))

      -- a store into a local that is there
      store_there : (i : Instr Target) (b : Begins know us h f i) (g : Frame) (rest : List ℕ) (x : Bool) → x ≡ true → g ≡ record f { locals = g.locals } → falls_through i.what ≡ true
          → FitsIn know (env_of us f.method b.stands.of) b.stands.unset h g.locals rest (frame_after (env_of us f.method b.stands.of) i (b.stands.frames f.step))
          → Fit know us knows accepted me h f i b (by_local us me f i.what (if x then leaving g rest else no_row))
      store_there i b g rest false e same falls fits = cc
      store_there i b g rest true e same falls fits =
          let leads = next_fits know us knows accepted h f i b b.stands.unset.made g.locals rest falls fits in
          subst (λ y. Fit know us knows accepted me h f i b (by_local us me f i.what (leaving y rest))) (sym same)
          (leaving_fits know us knows accepted me h (Some (returns_of know us h f b.stands)) f (record f { locals = g.locals }) i.what rest leads.1 leads.0)

      abbrev astore : Instr Target
      astore = simple (whats.Local (Store kinds.Reference) n)

      pub astore_fits : (b : Begins know us h f astore) → RowFits know us knows accepted me h f astore b
      astore_fits b =
          let env = env_of us f.method b.stands.of in
          let here = b.stands.frames f.step in
          let (v, rest, are, v_fits, left) = takes know us knows accepted me h f astore b in
          let long : length f.locals ≡ b.stands.of.code.max_locals = length_typed know env b.stands.unset h f.locals here.locals b.stands.locals ∙ locals_long know us knows accepted h f b.stands f.step b.stands.within in
          let there = leb-true (n + 1) b.stands.of.code.max_locals (uses know us knows accepted h f astore b).there in
          subst (λ s. Fit know us knows accepted me h f astore b (by_local us me f astore.what (stored f n s))) (sym are)
          (store_there astore b (with_local f n v) rest (nat_lt n (length f.locals)) (lt-ltb n (length f.locals) (omega (arith, long, there))) refl refl
          (record { locals_fit = stored_typed know us knows accepted me h f env b.stands.unset f.locals here.locals n v (stack_at here 0) b.stands.locals v_fits; stack_fits = left; set = b.stands.set }))

      abbrev lstore : Instr Target
      lstore = simple (whats.Local (Store kinds.Long) n)

      pub lstore_fits : (b : Begins know us h f lstore) → RowFits know us knows accepted me h f lstore b
      lstore_fits b =
          let env = env_of us f.method b.stands.of in
          let here = b.stands.frames f.step in
          let (high, low, rest, are, high_fits, low_fits, left) = takes know us knows accepted me h f lstore b in
          let long : length f.locals ≡ b.stands.of.code.max_locals = length_typed know env b.stands.unset h f.locals here.locals b.stands.locals ∙ locals_long know us knows accepted h f b.stands f.step b.stands.within in
          let there = leb-true (n + 2) b.stands.of.code.max_locals (uses know us knows accepted h f lstore b).there in
          let first = stored_typed know us knows accepted me h f env b.stands.unset f.locals here.locals n low Long b.stands.locals low_fits in
          subst (λ s. Fit know us knows accepted me h f lstore b (by_local us me f lstore.what (long_stored f n s))) (sym are)
          (store_there lstore b (with_local (with_local f n low) (suc n) high) rest (nat_lt (suc n) (length f.locals)) (lt-ltb (suc n) (length f.locals) (omega (arith, long, there))) refl refl
          (record {
            locals_fit = subst (λ m. HaveTypes know env b.stands.unset h (slice_set (slice_set f.locals n low) (suc n) high) (typed_local (typed_local here.locals n Long) m Second)) (one_more n)
                (stored_typed know us knows accepted me h f env b.stands.unset (slice_set f.locals n low) (typed_local here.locals n Long) (suc n) high Second first high_fits);
            stack_fits = left;
            set = b.stands.set;
          }))
        where
          one_more : (n : ℕ) → suc n ≡ n + 1
          one_more n = omega arith

      abbrev iinc : ℤ → Instr Target
      iinc by = simple (whats.Increment n by)

      pub iinc_fits : (by : ℤ) (b : Begins know us h f (iinc by)) → RowFits know us knows accepted me h f (iinc by) b
      iinc_fits by b =
          let env = env_of us f.method b.stands.of in
          let here = b.stands.frames f.step in
          let right = uses know us knows accepted h f (iinc by) b in
          let int : local_at here n ≡ Int = same_int (local_at here n) (or_inside (nat_le b.stands.of.code.max_locals n) _ (lt-leb b.stands.of.code.max_locals n (ltb-true n b.stands.of.code.max_locals right.there)) right.local) in
          let (v, v_at, v_fits) = local_typed know env b.stands.unset h f.locals here.locals n b.stands.locals (λ e. let bad : Int ≡ Top = sym int ∙ e in cc) in
          let small : IsWord know v = subst (λ t. Holds know env b.stands.unset h v t) int v_fits in
          let w = cast_unsigned w32 (int_wrapping_add w32 (cast_signed w32 v) by) in
          subst (λ o. Fit know us knows accepted me h f (iinc by) b (by_local us me f (whats.Increment n by) (incremented f n by f.stack o))) (sym v_at)
          (store_there (iinc by) b (with_local f n w) f.stack true refl refl refl (record {
            locals_fit = same_typed f.locals here.locals n w b.stands.locals (subst (λ t. Holds know env b.stands.unset h w t) (sym int) (λ exact. accepted.numbers.increments v by (small exact)));
            stack_fits = b.stack;
            set = b.stands.set;
          }))
        where
          -- another word of the type that is there
          same_typed : (vs : List ℕ) (ts : List VerificationType) (k w : ℕ) → HaveTypes know (env_of us f.method b.stands.of) b.stands.unset h vs ts → Holds know (env_of us f.method b.stands.of) b.stands.unset h w (slice_index_or ts k Top)
              → HaveTypes know (env_of us f.method b.stands.of) b.stands.unset h (slice_set vs k w) ts
          same_typed [] [] k w is fits = tt
          same_typed [] (x ∷ ts) k w is fits = absurd is
          same_typed (v ∷ vs) [] k w is fits = absurd is
          same_typed (v ∷ vs) (x ∷ ts) zero w is fits = (fits, is.1)
          same_typed (v ∷ vs) (x ∷ ts) (suc k) w is fits = (is.0, same_typed vs ts k w is.1 fits)

    -- ---- branches

    jump_fits : (i : Instr Target) (b : Begins know us h f i) (t : Target) (rest : List ℕ) → t.step < length b.stands.of.code.steps → Enters (env_of us f.method b.stands.of) b.stands.frames (frame_after (env_of us f.method b.stands.of) i (b.stands.frames f.step)) t.step
        → FitsIn know (env_of us f.method b.stands.of) b.stands.unset h f.locals rest (frame_after (env_of us f.method b.stands.of) i (b.stands.frames f.step))
        → Fit know us knows accepted me h f i b (by_local us me f i.what (jumps f t rest))
    jump_fits i b t rest within enters fits = (tt, (tt, target_fits know us knows accepted h f i b b.stands.unset.made f.locals rest t within enters fits))

    module _ (test : Test) (t : Target) where
      abbrev branch : Instr Target
      branch = simple (whats.Branch test t)

      taken_fits : (b : Begins know us h f branch) (rest : List ℕ) (taken : Bool) → falls_through branch.what ≡ true
          → FitsIn know (env_of us f.method b.stands.of) b.stands.unset h f.locals rest (frame_after (env_of us f.method b.stands.of) branch (b.stands.frames f.step))
          → Fit know us knows accepted me h f branch b (by_local us me f branch.what (jumps_if f t rest taken))
      taken_fits b rest true falls fits = jump_fits branch b t rest (targets_inside know us knows accepted h f branch b).0 (targets_enter know us knows accepted h f branch b).0 fits
      taken_fits b rest false falls fits = (tt, (tt, (next_fits know us knows accepted h f branch b b.stands.unset.made f.locals rest falls fits).0))

    pub branch_fits : (test : Test) (t : Target) (b : Begins know us h f (simple (whats.Branch test t))) → RowFits know us knows accepted me h f (simple (whats.Branch test t)) b
    branch_fits (tests.Zero condition) t b =
        let (a, rest, are, fits, left) = takes know us knows accepted me h f (simple (whats.Branch (tests.Zero condition) t)) b in
        subst (λ s. Fit know us knows accepted me h f (simple (whats.Branch (tests.Zero condition) t)) b (by_local us me f (whats.Branch (tests.Zero condition) t) (branch_row f (tests.Zero condition) t s))) (sym are)
        (taken_fits (tests.Zero condition) t b rest (holds condition a 0) refl (record { locals_fit = b.stands.locals; stack_fits = left; set = b.stands.set }))
    branch_fits (tests.Ints condition) t b =
        let (y, rs, are, y_fits, (x, rest, are', x_fits, left)) = takes know us knows accepted me h f (simple (whats.Branch (tests.Ints condition) t)) b in
        subst (λ s. Fit know us knows accepted me h f (simple (whats.Branch (tests.Ints condition) t)) b (by_local us me f (whats.Branch (tests.Ints condition) t) (branch_row f (tests.Ints condition) t s))) (sym (are ∙ ap (λ s. y ∷ s) are'))
        (taken_fits (tests.Ints condition) t b rest (holds condition x y) refl (record { locals_fit = b.stands.locals; stack_fits = left; set = b.stands.set }))
    branch_fits tests.Same t b =
        let (y, rs, are, y_fits, (x, rest, are', x_fits, left)) = takes know us knows accepted me h f (simple (whats.Branch tests.Same t)) b in
        subst (λ s. Fit know us knows accepted me h f (simple (whats.Branch tests.Same t)) b (by_local us me f (whats.Branch tests.Same t) (branch_row f tests.Same t s))) (sym (are ∙ ap (λ s. y ∷ s) are'))
        (taken_fits tests.Same t b rest (x == y) refl (record { locals_fit = b.stands.locals; stack_fits = left; set = b.stands.set }))
    branch_fits tests.Different t b =
        let (y, rs, are, y_fits, (x, rest, are', x_fits, left)) = takes know us knows accepted me h f (simple (whats.Branch tests.Different t)) b in
        subst (λ s. Fit know us knows accepted me h f (simple (whats.Branch tests.Different t)) b (by_local us me f (whats.Branch tests.Different t) (branch_row f tests.Different t s))) (sym (are ∙ ap (λ s. y ∷ s) are'))
        (taken_fits tests.Different t b rest (not (x == y)) refl (record { locals_fit = b.stands.locals; stack_fits = left; set = b.stands.set }))
    branch_fits tests.Null t b =
        let (x, rest, are, fits, left) = takes know us knows accepted me h f (simple (whats.Branch tests.Null t)) b in
        subst (λ s. Fit know us knows accepted me h f (simple (whats.Branch tests.Null t)) b (by_local us me f (whats.Branch tests.Null t) (branch_row f tests.Null t s))) (sym are)
        (taken_fits tests.Null t b rest (x == 0) refl (record { locals_fit = b.stands.locals; stack_fits = left; set = b.stands.set }))
    branch_fits tests.NonNull t b =
        let (x, rest, are, fits, left) = takes know us knows accepted me h f (simple (whats.Branch tests.NonNull t)) b in
        subst (λ s. Fit know us knows accepted me h f (simple (whats.Branch tests.NonNull t)) b (by_local us me f (whats.Branch tests.NonNull t) (branch_row f tests.NonNull t s))) (sym are)
        (taken_fits tests.NonNull t b rest (not (x == 0)) refl (record { locals_fit = b.stands.locals; stack_fits = left; set = b.stands.set }))
    branch_fits tests.Always t b =
        jump_fits (simple (whats.Branch tests.Always t)) b t f.stack (targets_inside know us knows accepted h f (simple (whats.Branch tests.Always t)) b).0 (targets_enter know us knows accepted h f (simple (whats.Branch tests.Always t)) b).0
        (record { locals_fit = b.stands.locals; stack_fits = b.stack; set = b.stands.set })

    pub tableswitch_fits : (default : Target) (low : ℤ) (targets : List Target) (b : Begins know us h f (simple (whats.TableSwitch default low targets))) → RowFits know us knows accepted me h f (simple (whats.TableSwitch default low targets)) b
    tableswitch_fits default low targets b =
        let i : Instr Target = simple (whats.TableSwitch default low targets) in
        let (a, rest, are, fits, left) = takes know us knows accepted me h f i b in
        let within = targets_inside know us knows accepted h f i b in
        let enters = targets_enter know us knows accepted h f i b in
        subst (λ s. Fit know us knows accepted me h f i b (by_local us me f i.what (table_row f default low targets s))) (sym are)
        (jump_fits i b (table_target default low targets (cast_signed w32 a)) rest
        (target_here (λ t. t.step < length b.stands.of.code.steps) default targets (cast_signed w32 a -ℤ low) within.1 within.0)
        (target_here (λ t. Enters (env_of us f.method b.stands.of) b.stands.frames (frame_after (env_of us f.method b.stands.of) i (b.stands.frames f.step)) t.step) default targets (cast_signed w32 a -ℤ low) enters.1 enters.0)
        (record { locals_fit = b.stands.locals; stack_fits = left; set = b.stands.set }))

    pub lookupswitch_fits : (default : Target) (cases : List (Case Target)) (b : Begins know us h f (simple (whats.LookupSwitch default cases))) → RowFits know us knows accepted me h f (simple (whats.LookupSwitch default cases)) b
    lookupswitch_fits default cases b =
        let i : Instr Target = simple (whats.LookupSwitch default cases) in
        let (a, rest, are, fits, left) = takes know us knows accepted me h f i b in
        let within = targets_inside know us knows accepted h f i b in
        let enters = targets_enter know us knows accepted h f i b in
        subst (λ s. Fit know us knows accepted me h f i b (by_local us me f i.what (lookup_row f default cases s))) (sym are)
        (jump_fits i b (case_target default cases a) rest
        (case_here (λ t. t.step < length b.stands.of.code.steps) default cases a within.1 within.0)
        (case_here (λ t. Enters (env_of us f.method b.stands.of) b.stands.frames (frame_after (env_of us f.method b.stands.of) i (b.stands.frames f.step)) t.step) default cases a enters.1 enters.0)
        (record { locals_fit = b.stands.locals; stack_fits = left; set = b.stands.set }))
