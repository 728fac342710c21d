-- The row of calls of constructors (JVMS 6.5 invokespecial).
use Rattle.std.proofs.Common.{◌≡◌, ◌+◌, ◌-◌, ◌&&◌, ℕ, suc, Bool, true, false, not, inl, inr, Option, None, Some, List, [], ◌∷◌, ◌++◌, length, drop, map, reverse, slice_index_or, refl, sym, ap, subst, ◌∙◌, arith, if◌then◌else◌}
use Rattle.std.specs.Option.{option_map_or, option_and_then}
use Rattle.std.proofs.lemmas.Bool.{or_cases, eqb-true}
use Rattle.std.proofs.lemmas.Option.{same_Some}
use Rattle.std.proofs.lemmas.List.{reverse-reverse, length-reverse}
use Rattle.access_flags.specs.declared.TheConstants.{STATIC}
use Rattle.access_flags.specs.Flags.{has}
use Rattle.builtin_world.specs.declared.Native.{Native}
use Rattle.builtin_world.specs.declared.number.TheConstants.{THREAD}
use Rattle.code_decode.specs.declared.code.ClassUnit.{ClassUnit}
use Rattle.instructions.specs.declared.what.Instr.{Instr}
use Rattle.instructions.specs.declared.what.Target.{Target}
use Rattle.link_types.specs.declared.operands.MethodId.{MethodId}
use Rattle.link_types.specs.declared.operands.MethodOperand.{MethodOperand}
use Rattle.link_types.specs.declared.types.ObjectType.{ObjectType}
use Rattle.link_types.specs.declared.types.ObjectType.TheVariants.{Class}
use Rattle.link_types.specs.declared.types.ValueType.{ValueType}
use Rattle.link_rules.specs.Classes.{NamedMember, classes_of}
use Rattle.link_rules.specs.Methods.{parameter_types, result_type}
use Rattle.link_rules.specs.Names.{program_names}
use Rattle.link_rules.specs.Operands.{operand}
use Rattle.link_rules.specs.Uses.{FitsCall}
use Rattle.type_rules.specs.declared.types.VerificationType.{VerificationType}
use Rattle.type_rules.specs.declared.types.VerificationType.TheVariants.{Top, UninitThis, Uninit, Object}
use Rattle.type_rules.specs.Assignable.{is_same_type, is_same_object}
use Rattle.type_rules.specs.Environment.{Environment, TypeFrame, type_of_value}
use Rattle.type_rules.specs.Environments.{words_of_values, is_constructor, parameters_of_method, result_of_method}
use Rattle.type_rules.specs.FrameAfter.{frame_after, with_initialized, initialized, replaced_types, names_constructor, call_pushes, result_pushes}
use Rattle.type_rules.specs.Wants.{to_initialize, a_receiver_here, arguments_wanted, call_wants, words_wanted, initializes}
use Rattle.java_rows.specs.Calls.{calls_special, calls_special_method, invokes}
use Rattle.java_rows.specs.Natives.{native}
use Rattle.java_rows.specs.Plan.{Frame, use_in, Use}
use Rattle.java_rows.specs.Program.{argument_words, body_of}
use Rattle.row_soundness.specs.Senses.{Sense}
use Rattle.row_soundness.specs.Fits.{Unset, Returns, Holds, HaveTypes, ValuesFit, ResultFits, IsMade, CodeOf, PlanFits, anything, UseFits, env_of, returns_of}
use Rattle.row_soundness.specs.Operands.{FitsIn, Begins, Operands, at_offset}
use Rattle.row_soundness.specs.Knowledge.{Knows}
use Rattle.row_soundness.specs.Natives.{IsNativeConstructor}
use Rattle.row_soundness.specs.Accepted.{Accepted}
use Rattle.row_soundness.proofs.Basics.{append_typed, types_more}
use Rattle.row_soundness.proofs.Operands.{words_are}
use Rattle.row_soundness.proofs.Flow.{stands_more, begins_more}
use Rattle.row_soundness.proofs.RowBasics.{Fit, bare_stands, completes_fit}
use Rattle.row_soundness.proofs.ReadValues.{unless_null_fits}
use Rattle.row_soundness.proofs.EntersFit.{promised}
use Rattle.row_soundness.proofs.CallsFit.{calls_fit, invokes_fit, values_typed, Arguments, arguments}
use Rattle.row_soundness.proofs.ChosenFit.{with_receiver_is, values_long, argument_count, result_typed, lock_there}
use Rattle.instructions.specs.declared.operation.Call.TheVariants as call
use Rattle.instructions.specs.declared.what.What.TheVariants as whats
use Rattle.link_types.specs.declared.methods.MethodBody.TheVariants as bodies
use Rattle.link_types.specs.declared.operands.Operand.TheVariants as operands

same_uninit : (s : VerificationType) (p : ℕ) → is_same_type s (Uninit p) ≡ true → s ≡ Uninit p
same_uninit (Uninit q) p e = ap (λ x. Uninit x) (eqb-true q p e)
same_uninit s p e = cc

same_this : (s : VerificationType) → is_same_type s UninitThis ≡ true → s ≡ UninitThis
same_this UninitThis e = refl
same_this s e = cc

same_class : (c : ℕ) (t : ObjectType) → is_same_object (Class c) t ≡ true → Class c ≡ t
same_class c (Class d) e = ap (λ x. Class x) (eqb-true c d e)
same_class c t e = cc

module _ {P : Type 0} (know : Sense P) (us : List ClassUnit) (knows : Knows know us) (accepted : Accepted us) (me : ℕ) where
  -- ---- all copies of the object become initialized

  module _ (env : Environment) (u : Unset) (h : P) where
    abbrev pub IsSet : VerificationType → Type 0
    IsSet UninitThis = know.is_of h u.this (Class env.class)
    IsSet (Uninit p) = know.is_of h (u.made p) (env.made_at p)
    IsSet _ = ⊥

    set_word : (t : VerificationType) → IsSet t → (w : ℕ) (s : VerificationType) → Holds know env u h w s → (b : Bool) → is_same_type s t ≡ b → Holds know env u h w (if b then initialized env t else s)
    set_word t set w s is false e = is
    set_word (Uninit p) set w s is true e =
        let holds : Holds know env u h w (Uninit p) = subst (λ x. Holds know env u h w x) (same_uninit s p e) is in
        inr (subst (λ x. know.is_of h x (env.made_at p)) (sym holds.0) set)
    set_word UninitThis set w s is true e =
        let holds : Holds know env u h w UninitThis = subst (λ x. Holds know env u h w x) (same_this s e) is in
        inr (subst (λ x. know.is_of h x (Class env.class)) (sym holds.0) set)
    set_word t set w s is true e = absurd set

    pub set_words : (t : VerificationType) → IsSet t → (vs : List ℕ) (ts : List VerificationType) → HaveTypes know env u h vs ts → HaveTypes know env u h vs (replaced_types t (initialized env t) ts)
    set_words t set [] [] is = tt
    set_words t set [] (s ∷ ts) is = absurd is
    set_words t set (v ∷ vs) [] is = absurd is
    set_words t set (v ∷ vs) (s ∷ ts) is = (set_word t set v s is.0 (is_same_type s t) refl, set_words t set vs ts is.1)

    -- whether the constructor's own object is initialized
    set_flag : (t : VerificationType) → IsSet t → (flag : Bool) → (flag ≡ false → know.is_of h u.this (Class env.class)) → (flag && not (is_same_type t UninitThis)) ≡ false → know.is_of h u.this (Class env.class)
    set_flag UninitThis set flag before e = set
    set_flag (Uninit p) set true before e = cc
    set_flag (Uninit p) set false before e = before refl
    set_flag t set flag before e = absurd set

    pub fits_set : (t : VerificationType) → IsSet t → (locals stack : List ℕ) (g : TypeFrame) → FitsIn know env u h locals stack g → FitsIn know env u h locals stack (with_initialized env t g)
    fits_set t set locals stack g fits = record {
      locals_fit = set_words t set locals g.locals fits.locals_fit;
      stack_fits = set_words t set stack g.stack fits.stack_fits;
      set = λ constructs is. set_flag t set g.flag_this_uninit (λ flag. fits.set constructs flag) is;
    }

  -- what constructors of the built-in classes do is shown one by one
  abbrev pub NativeConstructorsFit : Type 0
  NativeConstructorsFit = (h : P) (res : Option Returns) (id : MethodId) (n : Native) (r : ℕ) (args : List ℕ) (u : Use) (tells : Returns) → body_of us id ≡ Some (bodies.Native n) → know.is_of h me (Class THREAD) → know.is_raw h r (Class id.class)
      → ValuesFit know h (parameters_of_method (program_names us) id) args → tells ≡ record { value = result_of_method (program_names us) id; made = Some (r, id.class) } → IsNativeConstructor n → UseFits know us h res tells u → PlanFits know us res anything (native us me n (r ∷ args) u) h

  constructor_entry : (h : P) (id : MethodId) (c : CodeOf us id) (r : ℕ) (args : List ℕ) → is_constructor c.member ≡ true → has c.member.flags STATIC ≡ false → know.is_raw h r (Class id.class)
      → ValuesFit know h (parameters_of_method (program_names us) id) args → HaveTypes know (env_of us id c) (record { this = r; made = λ p. 0 }) h (r ∷ args) (env_of us id c).entry
  constructor_entry h id c r args constructs instance raw fits =
      by_flags (has c.member.flags STATIC) (is_constructor c.member) instance constructs
      (values_typed know us knows accepted me (env_of us id c) (record { this = r; made = λ p. 0 }) h (parameter_types (program_names us) c.member.descriptor) args (subst (λ (o : Option NamedMember). ValuesFit know h (option_map_or (λ (m : NamedMember). parameter_types (program_names us) m.descriptor) o []) args) c.named fits))
    where
      by_flags : (static constructs : Bool) → static ≡ false → constructs ≡ true → HaveTypes know (env_of us id c) (record { this = r; made = λ p. 0 }) h args (words_of_values (map type_of_value (parameter_types (program_names us) c.member.descriptor)))
          → HaveTypes know (env_of us id c) (record { this = r; made = λ p. 0 }) h (r ∷ args)
          (words_of_values ((if static then [] else if constructs then UninitThis ∷ [] else Object (Class id.class) ∷ []) ++ map type_of_value (parameter_types (program_names us) c.member.descriptor)))
      by_flags true constructs e g typed = cc
      by_flags false true e g typed = ((refl, raw), typed)
      by_flags false false e g typed = cc

  module _ (natives : NativeConstructorsFit) (index at next : ℕ) where
    abbrev special : Instr Target
    special = at_offset at next (whats.Call call.Special index)

    module _ (h : P) (f : Frame) (b : Begins know us h f special) (mine : know.is_of h me (Class THREAD)) (m : MethodOperand) (e : operand us f.method.class index ≡ operands.Method m) (fits : FitsCall (classes_of us) f.method.class call.Special m) (constructs : m.constructs ≡ true) (class : ℕ) (of_class : m.named ≡ Class class) where
      abbrev params : List ValueType
      params = parameters_of_method (program_names us) m.method

      abbrev env : Environment
      env = env_of us f.method b.stands.of

      abbrev here : TypeFrame
      here = b.stands.frames f.step

      named : m.named ≡ Class m.method.class
      named = of_class ∙ ap (λ x. Class x) (sym (accepted.constructors f.method.class index class m e fits constructs of_class).0)

      special_is : m.special ≡ Some m.method
      special_is = (accepted.constructors f.method.class index class m e fits constructs of_class).1

      -- the frame after the call
      after_is : (n : ℕ) → words_wanted (call_wants env call.Special (operands.Method m)) ≡ suc n
          → frame_after env special here ≡ with_initialized env (slice_index_or here.stack n Top) (record here { stack = result_pushes (result_of_method (program_names us) m.method) ++ drop (suc n) here.stack })
      after_is n words =
          ap (λ o. if names_constructor o then with_initialized env (slice_index_or here.stack (words_wanted (call_wants env call.Special o) - 1) Top) (record here { stack = call_pushes env o ++ drop (words_wanted (call_wants env call.Special o)) here.stack })
          else record here { stack = call_pushes env o ++ drop (words_wanted (call_wants env call.Special o)) here.stack }) e
          ∙ (ap (λ x. if x then with_initialized env (slice_index_or here.stack (words_wanted (call_wants env call.Special (operands.Method m)) - 1) Top) (record here { stack = result_pushes (result_of_method (program_names us) m.method) ++ drop (words_wanted (call_wants env call.Special (operands.Method m))) here.stack })
          else record here { stack = result_pushes (result_of_method (program_names us) m.method) ++ drop (words_wanted (call_wants env call.Special (operands.Method m))) here.stack }) constructs
          ∙ (ap (λ k. with_initialized env (slice_index_or here.stack (k - 1) Top) (record here { stack = result_pushes (result_of_method (program_names us) m.method) ++ drop k here.stack })) words
          ∙ ap (λ k. with_initialized env (slice_index_or here.stack k Top) (record here { stack = result_pushes (result_of_method (program_names us) m.method) ++ drop (suc n) here.stack })) (one_less n)))
        where
          one_less : (n : ℕ) → suc n - 1 ≡ n
          one_less n = omega arith

      -- the object that is initialized: what is known of it before and after the call
      raw_at : (r : ℕ) (t : VerificationType) → Holds know env b.stands.unset h r t → initializes env m.named t ≡ true → know.is_raw h r (Class m.method.class)
      raw_at r UninitThis holds right =
          elim (or_cases _ _ right) [
            | inl own ↦ subst (λ x. know.is_raw h r x) (sym (same_class m.method.class (Class f.method.class) (subst (λ x. is_same_object x (Class f.method.class) ≡ true) named own))) holds.1
            | inr above ↦ subst (λ x. know.is_raw h r x) (sym (same_class m.method.class (Class env.super) (subst (λ x. is_same_object x (Class env.super) ≡ true) named above))) (knows.raw_super h r f.method.class (accepted.files f.method b.stands.of) holds.1)
          ]
      raw_at r (Uninit p) holds right = subst (λ x. know.is_raw h r x) (sym (same_class m.method.class (env.made_at p) (subst (λ x. is_same_object x (env.made_at p) ≡ true) named right))) holds.1
      raw_at r t holds right = cc

      set_at : (h' : P) (r : ℕ) (t : VerificationType) → know.extends h h' → Holds know env b.stands.unset h r t → initializes env m.named t ≡ true → know.is_of h' r (Class m.method.class) → IsSet env b.stands.unset h' t
      set_at h' r UninitThis more holds right of = subst (λ x. know.is_of h' x (Class f.method.class)) holds.0 (knows.set h' r f.method.class m.method.class (knows.raw_more h h' r (Class f.method.class) more holds.1) of)
      set_at h' r (Uninit p) more holds right of =
          subst (λ x. know.is_of h' x (env.made_at p)) holds.0 (subst (λ x. know.is_of h' r x) (same_class m.method.class (env.made_at p) (subst (λ x. is_same_object x (env.made_at p) ≡ true) named right)) of)
      set_at h' r t more holds right of = cc

      on : (r n : ℕ) (rest : List ℕ) → words_wanted (call_wants env call.Special (operands.Method m)) ≡ suc n → Holds know env b.stands.unset h r (slice_index_or here.stack n Top) → initializes env m.named (slice_index_or here.stack n Top) ≡ true
          → HaveTypes know env b.stands.unset h rest (drop (suc n) here.stack) → (tells : Returns) → tells ≡ record { value = result_of_method (program_names us) m.method; made = Some (r, m.method.class) }
          → UseFits know us h (Some (returns_of know us h f b.stands)) tells (use_in f rest)
      on r n rest words holds right left tells same = record {
        ends = record {
          value = λ h' ws more ws_fit made.
              let b' = begins_more know us knows accepted h h' more f special b in
              let set : IsSet env b.stands.unset h' (slice_index_or here.stack n Top) = set_at h' r (slice_index_or here.stack n Top) more holds right (subst (λ (x : Returns). IsMade know h' x.made) same made) in
              completes_fit know us knows accepted me h' f special b' (ws ++ rest) refl (subst (λ g. FitsIn know env b.stands.unset h' f.locals (ws ++ rest) g) (sym (after_is n words))
              (fits_set env b.stands.unset h' (slice_index_or here.stack n Top) set f.locals (ws ++ rest) (record here { stack = result_pushes (result_of_method (program_names us) m.method) ++ drop (suc n) here.stack }) (record {
                locals_fit = b'.stands.locals;
                stack_fits = append_typed know env b.stands.unset h' ws rest _ _ (result_typed know us knows accepted me env b.stands.unset h' (result_of_method (program_names us) m.method) ws (subst (λ (x : Returns). ResultFits know h' x.value ws) same ws_fit)) (types_more know us knows env b.stands.unset h h' rest _ more left);
                set = b'.stands.set;
              })));
          thrown = λ h' q c more thrown. (tt, (bare_stands know us knows accepted me h' f (stands_more know us knows accepted h h' more f b.stands), refl, thrown));
        };
        again = λ h' task more none unmade operand. absurd (never (sym (ap (λ (x : Returns). x.made) same) ∙ unmade));
      }
        where
          never : ◌≡◌ {A = Option (ℕ × ℕ)} (Some (r, m.method.class)) None → ⊥
          never x = cc

      calls_it : (r n : ℕ) (args rest : List ℕ) → words_wanted (call_wants env call.Special (operands.Method m)) ≡ suc n → Holds know env b.stands.unset h r (slice_index_or here.stack n Top) → initializes env m.named (slice_index_or here.stack n Top) ≡ true
          → ValuesFit know h params args → HaveTypes know env b.stands.unset h rest (drop (suc n) here.stack) → Fit know us knows accepted me h f special b (invokes us me m.method (r ∷ args) (use_in f rest))
      calls_it r n args rest words holds right args_fit left =
          let raw = raw_at r (slice_index_or here.stack n Top) holds right in
          let (member, is, concrete, static) = accepted.constructor_methods f.method.class m fits special_is in
          invokes_fit know us knows accepted me h (Some (returns_of know us h f b.stands)) m.method (r ∷ args) (use_in f rest) (accepted.bodies m.method member is concrete)
          (λ k native. natives h (Some (returns_of know us h f b.stands)) m.method k r args (use_in f rest) (record { value = result_of_method (program_names us) m.method; made = Some (r, m.method.class) }) native mine raw args_fit refl (accepted.native_constructors f.method.class index m k e constructs native)
          (on r n rest words holds right left (record { value = result_of_method (program_names us) m.method; made = Some (r, m.method.class) }) refl))
          (λ c.
          let same : member ≡ c.member = same_Some member c.member (sym is ∙ c.named) in
          let instance : has c.member.flags STATIC ≡ false = subst (λ (x : NamedMember). has x.flags STATIC ≡ false) same static in
          let builds : is_constructor c.member ≡ true = accepted.constructs f.method.class index m c e constructs instance in
          calls_fit know us knows accepted me h (Some (returns_of know us h f b.stands)) m.method c (r ∷ args) r (use_in f rest)
          (lock_there know us knows accepted me h m.method r args (ap (λ (o : Option NamedMember). option_map_or (λ (x : NamedMember). has x.flags STATIC) o false) c.named ∙ instance) (knows.there_of h r (Class m.method.class) raw))
          (constructor_entry h m.method c r args builds instance raw args_fit)
          (on r n rest words holds right left (promised know us knows accepted m.method c r) (promises c builds)).ends)
        where
          promises : (c : CodeOf us m.method) → is_constructor c.member ≡ true → promised know us knows accepted m.method c r ≡ record { value = result_of_method (program_names us) m.method; made = Some (r, m.method.class) }
          promises c builds =
              ap (λ x. record { value = result_type (program_names us) c.member.descriptor; made = if x then Some (r, m.method.class) else None }) builds
              ∙ ap (λ (o : Option NamedMember). record { value = option_and_then (λ (x : NamedMember). result_type (program_names us) x.descriptor) o; made = Some (r, m.method.class) }) (sym c.named)

      pub special_fits : Operands know env b.stands.unset h here.stack 0 (call_wants env call.Special (operands.Method m)) f.stack → Fit know us knows accepted me h f special b (calls_special us me f (Some m))
      special_fits taken =
          let wanted : Operands know env b.stands.unset h here.stack 0 (arguments_wanted env m ++ to_initialize m.named ∷ []) f.stack =
          subst (λ x. Operands know env b.stands.unset h here.stack 0 (arguments_wanted env m ++ (if x then to_initialize m.named else a_receiver_here m.named) ∷ []) f.stack) constructs taken in
          let args : Arguments know us knows accepted me env b.stands.unset h here.stack (reverse params) (reverse (reverse params)) [] 0 (to_initialize m.named ∷ []) f.stack =
          arguments know us knows accepted me env b.stands.unset h here.stack (reverse params) [] [] 0 (to_initialize m.named ∷ []) f.stack tt wanted in
          let (r, rest, are, (holds, right), left) = args.left in
          let whole : f.stack ≡ args.taken ++ r ∷ rest = args.are ∙ ap (λ s. args.taken ++ s) are in
          let fit : ValuesFit know h params (reverse args.taken) = subst (λ ts. ValuesFit know h ts (reverse args.taken)) (reverse-reverse params) args.fit in
          let long : length args.taken ≡ argument_words us m.method = sym (length-reverse args.taken) ∙ values_long know us knows accepted me h params (reverse args.taken) fit ∙ sym (argument_count know us knows accepted me m.method) in
          let words : words_wanted (call_wants env call.Special (operands.Method m)) ≡ suc (0 + length args.taken) =
          ap (λ x. words_wanted (arguments_wanted env m ++ (if x then to_initialize m.named else a_receiver_here m.named) ∷ [])) constructs ∙ omega (arith, words_are (arguments_wanted env m ++ to_initialize m.named ∷ []), args.size) in
          subst (λ o. Fit know us knows accepted me h f special b (calls_special_method us me f o)) (sym special_is)
          (subst (λ plan. Fit know us knows accepted me h f special b plan)
          (sym (with_receiver_is f (argument_words us m.method) (λ r args rest. invokes us me m.method args (use_in f rest)) args.taken r rest whole long))
          (unless_null_fits know us knows accepted me h f b.stands r (invokes us me m.method (r ∷ reverse args.taken) (use_in f rest)) (λ other. calls_it r (0 + length args.taken) (reverse args.taken) rest words holds right fit left)))

    -- the class that is named, as verification finds it for the object
    class_named : (env : Environment) (named : ObjectType) (t : VerificationType) → ((p : ℕ) → (d : ℕ) × (env.made_at p ≡ Class d)) → initializes env named t ≡ true → (c : ℕ) × (named ≡ Class c)
    class_named env named UninitThis made right = elim (or_cases _ _ right) [ inl own ↦ (env.class, is_class named env.class own) | inr above ↦ (env.super, is_class named env.super above) ]
      where
        is_class : (t : ObjectType) (c : ℕ) → is_same_object t (Class c) ≡ true → t ≡ Class c
        is_class (Class d) c e = ap (λ x. Class x) (eqb-true d c e)
        is_class t c e = cc
    class_named env named (Uninit p) made right =
        let (d, is) = made p in (d, is_class named d (subst (λ x. is_same_object named x ≡ true) is right))
      where
        is_class : (t : ObjectType) (c : ℕ) → is_same_object t (Class c) ≡ true → t ≡ Class c
        is_class (Class d) c e = ap (λ x. Class x) (eqb-true d c e)
        is_class t c e = cc
    class_named env named t made right = cc

    pub by_constructor : (h : P) (f : Frame) (b : Begins know us h f special) → know.is_of h me (Class THREAD) → (m : MethodOperand) → operand us f.method.class index ≡ operands.Method m → FitsCall (classes_of us) f.method.class call.Special m → m.constructs ≡ true
        → Operands know (env_of us f.method b.stands.of) b.stands.unset h (b.stands.frames f.step).stack 0 (call_wants (env_of us f.method b.stands.of) call.Special (operands.Method m)) f.stack
        → Fit know us knows accepted me h f special b (calls_special us me f (Some m))
    by_constructor h f b mine m e fits constructs taken =
        let env = env_of us f.method b.stands.of in
        let params = parameters_of_method (program_names us) m.method in
        let wanted : Operands know env b.stands.unset h (b.stands.frames f.step).stack 0 (arguments_wanted env m ++ to_initialize m.named ∷ []) f.stack =
        subst (λ x. Operands know env b.stands.unset h (b.stands.frames f.step).stack 0 (arguments_wanted env m ++ (if x then to_initialize m.named else a_receiver_here m.named) ∷ []) f.stack) constructs taken in
        let args : Arguments know us knows accepted me env b.stands.unset h (b.stands.frames f.step).stack (reverse params) (reverse (reverse params)) [] 0 (to_initialize m.named ∷ []) f.stack =
        arguments know us knows accepted me env b.stands.unset h (b.stands.frames f.step).stack (reverse params) [] [] 0 (to_initialize m.named ∷ []) f.stack tt wanted in
        let (r, rest, are, (holds, right), left) = args.left in
        let (c, named) = class_named env m.named _ (accepted.made_classes f.method b.stands.of) right in
        special_fits h f b mine m e fits constructs c named taken
