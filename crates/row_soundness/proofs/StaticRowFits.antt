-- The row of calls of static methods (JVMS 6.5 invokestatic).
use Rattle.std.proofs.Common.{◌≡◌, ◌≤◌, ◌+◌, ℕ, Bool, true, false, ◌⊎◌, inl, inr, Option, None, Some, List, [], ◌∷◌, ◌++◌, length, take, drop, map, reverse, refl, sym, ap, subst, ◌∙◌, arith, nat_le, if◌then◌else◌}
use Rattle.std.specs.Option.{option_and_then, option_map_or}
use Rattle.std.proofs.lemmas.Bool.{le-leb}
use Rattle.std.proofs.lemmas.Option.{same_Some}
use Rattle.std.proofs.lemmas.List.{reverse-reverse, length-reverse}
use Rattle.access_flags.specs.declared.TheConstants.{STATIC, SYNCHRONIZED}
use Rattle.access_flags.specs.Flags.{has}
use Rattle.builtin_world.specs.declared.Native.{Native}
use Rattle.builtin_world.specs.declared.number.TheConstants.{THREAD, CLASS}
use Rattle.code_decode.specs.declared.code.ClassUnit.{ClassUnit}
use Rattle.instructions.specs.declared.what.Instr.{Instr}
use Rattle.instructions.specs.declared.what.Target.{Target}
use Rattle.link_types.specs.declared.operands.MethodId.{MethodId}
use Rattle.link_types.specs.declared.operands.MethodOperand.{MethodOperand}
use Rattle.link_types.specs.declared.operands.Operand.{Operand}
use Rattle.link_types.specs.declared.types.ObjectType.TheVariants.{Class}
use Rattle.link_types.specs.declared.types.ValueType.{ValueType}
use Rattle.link_rules.specs.Classes.{NamedMember, classes_of}
use Rattle.link_rules.specs.Methods.{parameter_types, result_type}
use Rattle.link_rules.specs.Names.{program_names}
use Rattle.link_rules.specs.Operands.{operand}
use Rattle.link_rules.specs.Uses.{IsMethodOperand, FitsCall}
use Rattle.type_rules.specs.declared.types.VerificationType.TheVariants.{UninitThis, Object}
use Rattle.type_rules.specs.Environment.{Environment, type_of_value}
use Rattle.type_rules.specs.Environments.{words_of_values, parameters_of_method, result_of_method}
use Rattle.type_rules.specs.FrameAfter.{call_pushes, result_pushes}
use Rattle.type_rules.specs.Wants.{Want, call_wants, words_wanted, type_wanted}
use Rattle.java_rows.specs.Natives.{native}
use Rattle.java_rows.specs.Plan.{Frame, Plan, stuck, use_in, Use}
use Rattle.java_rows.specs.Program.{argument_words, body_of, method_has, method_of}
use Rattle.row_soundness.specs.Senses.{Sense}
use Rattle.row_soundness.specs.Fits.{Returns, HaveTypes, ValuesFit, CodeOf, PlanFits, anything, EndsFit, env_of, returns_of}
use Rattle.row_soundness.specs.Operands.{Begins, Operands, at_offset}
use Rattle.row_soundness.specs.Knowledge.{Knows}
use Rattle.row_soundness.specs.Accepted.{Accepted}
use Rattle.row_soundness.proofs.Basics.{types_more}
use Rattle.row_soundness.proofs.Operands.{words_are}
use Rattle.row_soundness.proofs.Flow.{begins_more}
use Rattle.row_soundness.proofs.RowBasics.{RowFits, takes, Fit}
use Rattle.row_soundness.proofs.EntersFit.{promised}
use Rattle.row_soundness.proofs.CallsFit.{calls_fit, invokes_fit, values_typed, Arguments, arguments}
use Rattle.link_rules.specs.FixedObjects.{class_object}
use Rattle.java_rows.specs.Calls.{with_arguments, invokes, monitor_for, first_of}
use Rattle.java_rows.specs.Initialization.{calls_static, behind_class}
use Rattle.row_soundness.proofs.InitializationFits.{after_class_fits}
use Rattle.row_soundness.proofs.ChosenFit.{values_long, argument_count, call_ends_fit, fits_more}
use Rattle.instructions.specs.declared.operation.Call.TheVariants as call
use Rattle.instructions.specs.declared.what.What.TheVariants as whats
use Rattle.link_types.specs.declared.methods.MethodBody.TheVariants as bodies
use Rattle.link_types.specs.declared.operands.Operand.TheVariants as operands

take_all : (taken rest : List ℕ) → take (length taken) (taken ++ rest) ≡ taken
take_all [] [] = refl
take_all [] (r ∷ rest) = refl
take_all (v ∷ taken) rest = ap (λ xs. v ∷ xs) (take_all taken rest)

drop_all : (taken rest : List ℕ) → drop (length taken) (taken ++ rest) ≡ rest
drop_all [] [] = refl
drop_all [] (r ∷ rest) = refl
drop_all (v ∷ taken) rest = drop_all taken rest

long_enough : (taken rest : List ℕ) → length taken ≤ length (taken ++ rest)
long_enough [] rest = omega arith
long_enough (v ∷ taken) rest = omega (arith, long_enough taken rest)

with_arguments_is : (f : Frame) (words : ℕ) (k : List ℕ → List ℕ → Plan) (taken rest : List ℕ) → f.stack ≡ taken ++ rest → length taken ≡ words → with_arguments f words k ≡ k (reverse taken) rest
with_arguments_is f words k taken rest are long =
    ap (λ n. with_arguments f n k) (sym long)
    ∙ (ap (λ s. if nat_le (length taken) (length s) then k (reverse (take (length taken) s)) (drop (length taken) s) else stuck) are
    ∙ (ap (λ b. if b then k (reverse (take (length taken) (taken ++ rest))) (drop (length taken) (taken ++ rest)) else stuck) (le-leb _ _ (long_enough taken rest))
    ∙ (ap (λ s. k (reverse (take (length taken) (taken ++ rest))) s) (drop_all taken rest)
    ∙ ap (λ (s : List ℕ). k (reverse s) rest) (take_all taken rest))))

append_none : (ws : List Want) → ws ++ [] ≡ ws
append_none [] = refl
append_none (w ∷ ws) = ap (λ xs. w ∷ xs) (append_none ws)

module _ {P : Type 0} (know : Sense P) (us : List ClassUnit) (knows : Knows know us) (accepted : Accepted us) (me : ℕ) where
  -- what static methods of the built-in classes do is shown one by one
  abbrev pub StaticNativesFit : Type 0
  StaticNativesFit = (h : P) (res : Option Returns) (id : MethodId) (n : Native) (args : List ℕ) (u : Use) (tells : Returns) → body_of us id ≡ Some (bodies.Native n) → method_has us id STATIC ≡ true → know.is_of h me (Class THREAD)
      → ValuesFit know h (parameters_of_method (program_names us) id) args → tells.value ≡ result_of_method (program_names us) id → tells.made ≡ None → EndsFit know us h res tells u → PlanFits know us res anything (native us me n args u) h

  -- ---- static methods

  -- a static method is entered with its arguments
  static_typed : (h : P) (id : MethodId) (c : CodeOf us id) (args : List ℕ) → has c.member.flags STATIC ≡ true
      → ValuesFit know h (parameters_of_method (program_names us) id) args → HaveTypes know (env_of us id c) (record { this = 0; made = λ p. 0 }) h args (env_of us id c).entry
  static_typed h id c args static fits =
      by_flags (has c.member.flags STATIC) (Rattle.type_rules.specs.Environments.is_constructor c.member) static
      (values_typed know us knows accepted me (env_of us id c) (record { this = 0; made = λ p. 0 }) h (parameter_types (program_names us) c.member.descriptor) args (subst (λ (o : Option NamedMember). ValuesFit know h (option_map_or (λ (m : NamedMember). parameter_types (program_names us) m.descriptor) o []) args) c.named fits))
    where
      by_flags : (static constructs : Bool) → static ≡ true → HaveTypes know (env_of us id c) (record { this = 0; made = λ p. 0 }) h args (words_of_values (map type_of_value (parameter_types (program_names us) c.member.descriptor)))
          → HaveTypes know (env_of us id c) (record { this = 0; made = λ p. 0 }) h args
          (words_of_values ((if static then [] else if constructs then UninitThis ∷ [] else Object (Class id.class) ∷ []) ++ map type_of_value (parameter_types (program_names us) c.member.descriptor)))
      by_flags true constructs e typed = typed
      by_flags false constructs e typed = cc

  class_locks : (h : P) (id : MethodId) (args : List ℕ) → method_has us id STATIC ≡ true → know.is_there h (class_object (program_names us) id.class) → (monitor_for us id args ≡ 0) ⊎ know.is_there h (monitor_for us id args)
  class_locks h id args static is = by_flags (method_has us id SYNCHRONIZED) (method_has us id STATIC) static
    where
      by_flags : (sync static : Bool) → static ≡ true → ((if sync then (if static then class_object (program_names us) id.class else first_of args) else 0) ≡ 0) ⊎ know.is_there h (if sync then (if static then class_object (program_names us) id.class else first_of args) else 0)
      by_flags false static e = inl refl
      by_flags true true e = inr is
      by_flags true false e = cc

  module _ (natives : StaticNativesFit) (index at next : ℕ) where
    abbrev invokestatic : Instr Target
    invokestatic = at_offset at next (whats.Call call.Static index)

    module _ (h : P) (f : Frame) (b : Begins know us h f invokestatic) (mine : know.is_of h me (Class THREAD)) (m : MethodOperand) (e : operand us f.method.class index ≡ operands.Method m) (fits : FitsCall (classes_of us) f.method.class call.Static m) where
      abbrev params_of : List ValueType
      params_of = parameters_of_method (program_names us) m.method

      abbrev env_is : Environment
      env_is = env_of us f.method b.stands.of

      static_ends_fit : (h' : P) (n : ℕ) (rest : List ℕ) → know.extends h h' → words_wanted (call_wants env_is call.Static (operands.Method m)) ≡ n → HaveTypes know env_is b.stands.unset h rest (drop n (b.stands.frames f.step).stack)
          → (tells : Returns) → tells.value ≡ result_of_method (program_names us) m.method → EndsFit know us h' (Some (returns_of know us h f b.stands)) tells (use_in f rest)
      static_ends_fit h' n rest more words left tells same =
          call_ends_fit know us knows accepted me h' f invokestatic (begins_more know us knows accepted h h' more f invokestatic b) (result_of_method (program_names us) m.method) n rest tells same refl
          (ap (λ o. record (b.stands.frames f.step) { stack = call_pushes env_is o ++ drop (words_wanted (call_wants env_is call.Static o)) (b.stands.frames f.step).stack }) e
          ∙ ap (λ k. record (b.stands.frames f.step) { stack = result_pushes (result_of_method (program_names us) m.method) ++ drop k (b.stands.frames f.step).stack }) words)
          (types_more know us knows env_is b.stands.unset h h' rest _ more left)

      calls_it : (h' : P) (n : ℕ) (args rest : List ℕ) → know.extends h h' → words_wanted (call_wants env_is call.Static (operands.Method m)) ≡ n → ValuesFit know h params_of args → HaveTypes know env_is b.stands.unset h rest (drop n (b.stands.frames f.step).stack)
          → PlanFits know us (Some (returns_of know us h f b.stands)) anything (invokes us me m.method args (use_in f rest)) h'
      calls_it h' n args rest more words args_fit left =
          let (member, is, concrete, static, number) = accepted.statics f.method.class m fits in
          let class : know.is_of h' (class_object (program_names us) m.method.class) (Class CLASS) = knows.class_objects h' m.method.class number in
          let flag : method_has us m.method STATIC ≡ true = ap (λ (o : Option NamedMember). option_map_or (λ (x : NamedMember). has x.flags STATIC) o false) is ∙ static in
          let own : ValuesFit know h' params_of args = fits_more know us knows accepted me h h' more params_of args args_fit in
          invokes_fit know us knows accepted me h' (Some (returns_of know us h f b.stands)) m.method args (use_in f rest) (accepted.bodies m.method member is concrete)
          (λ k native. natives h' (Some (returns_of know us h f b.stands)) m.method k args (use_in f rest) (record { value = result_of_method (program_names us) m.method; made = None }) native flag (knows.of_more h h' me (Class THREAD) more mine) own refl refl
          (static_ends_fit h' n rest more words left (record { value = result_of_method (program_names us) m.method; made = None }) refl))
          (λ c.
          let same : member ≡ c.member = same_Some member c.member (sym is ∙ c.named) in
          calls_fit know us knows accepted me h' (Some (returns_of know us h f b.stands)) m.method c args 0 (use_in f rest)
          (class_locks h' m.method args flag (knows.there_of h' _ (Class CLASS) (knows.raw_of h' _ (Class CLASS) class)))
          (static_typed h' m.method c args (subst (λ (x : NamedMember). has x.flags STATIC ≡ true) same static) own)
          (static_ends_fit h' n rest more words left (promised know us knows accepted m.method c 0) (ap (λ (o : Option NamedMember). option_and_then (λ (x : NamedMember). result_type (program_names us) x.descriptor) o) (sym c.named))))

      pub static_fits : Operands know env_is b.stands.unset h (b.stands.frames f.step).stack 0 (call_wants env_is call.Static (operands.Method m)) f.stack → Fit know us knows accepted me h f invokestatic b (calls_static us me f (Some m))
      static_fits taken =
          let args : Arguments know us knows accepted me env_is b.stands.unset h (b.stands.frames f.step).stack (reverse params_of) (reverse (reverse params_of)) [] 0 [] f.stack =
          arguments know us knows accepted me env_is b.stands.unset h (b.stands.frames f.step).stack (reverse params_of) [] [] 0 [] f.stack tt
          (subst (λ ws. Operands know env_is b.stands.unset h (b.stands.frames f.step).stack 0 ws f.stack) (sym (append_none (map type_wanted (reverse params_of)))) taken) in
          let fit : ValuesFit know h params_of (reverse args.taken) = subst (λ ts. ValuesFit know h ts (reverse args.taken)) (reverse-reverse params_of) args.fit in
          let long : length args.taken ≡ argument_words us m.method = sym (length-reverse args.taken) ∙ values_long know us knows accepted me h params_of (reverse args.taken) fit ∙ sym (argument_count know us knows accepted me m.method) in
          let words : words_wanted (call_wants env_is call.Static (operands.Method m)) ≡ 0 + length args.taken =
          ap (λ ws. words_wanted ws) (sym (append_none (map type_wanted (reverse params_of)))) ∙ omega (arith, words_are (map type_wanted (reverse params_of) ++ []), args.size) in
          subst (λ plan. Fit know us knows accepted me h f invokestatic b plan)
          (sym (with_arguments_is f (argument_words us m.method) (λ args rest. behind_class us f m.method.class (invokes us me m.method args (use_in f rest))) args.taken args.rest args.are long))
          (after_class_fits know us knows accepted me h f b.stands m.method.class (invokes us me m.method (reverse args.taken) (use_in f args.rest)) (λ h' more. calls_it h' (0 + length args.taken) (reverse args.taken) args.rest more words fit args.left))

    by_static_method : (h : P) (f : Frame) (b : Begins know us h f invokestatic) → know.is_of h me (Class THREAD) → (o : Operand) → operand us f.method.class index ≡ o → IsMethodOperand (classes_of us) f.method.class call.Static o
        → Operands know (env_of us f.method b.stands.of) b.stands.unset h (b.stands.frames f.step).stack 0 (call_wants (env_of us f.method b.stands.of) call.Static o) f.stack → Fit know us knows accepted me h f invokestatic b (calls_static us me f (method_of o))
    by_static_method h f b mine (operands.Method m) e fits taken = static_fits h f b mine m e fits taken
    by_static_method h f b mine o e fits taken = absurd fits

    pub invokestatic_fits : (h : P) (f : Frame) (b : Begins know us h f invokestatic) → know.is_of h me (Class THREAD) → RowFits know us knows accepted me h f invokestatic b
    invokestatic_fits h f b mine =
        by_static_method h f b mine (operand us f.method.class index) refl (accepted.calls f.method b.stands.of f.step at next index call.Static b.at) (takes know us knows accepted me h f invokestatic b)
