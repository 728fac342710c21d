-- The row of calls of methods of interfaces (JVMS 6.5 invokeinterface).
use Rattle.std.proofs.Common.{◌≡◌, ◌≤◌, ◌+◌, ℕ, suc, Bool, true, false, inl, Option, None, Some, List, [], ◌∷◌, ◌++◌, length, drop, reverse, refl, sym, ap, subst, ◌∙◌, arith, if◌then◌else◌}
use Rattle.std.specs.Option.{option_map_or}
use Rattle.std.specs.Prelude.{IsSomeAnd}
use Rattle.std.proofs.lemmas.List.{reverse-reverse, length-reverse}
use Rattle.access_flags.specs.declared.TheConstants.{STATIC}
use Rattle.access_flags.specs.Flags.{has}
use Rattle.builtin_world.specs.declared.number.TheConstants.{THREAD, INCOMPATIBLE_CLASS_CHANGE_ERROR}
use Rattle.code_decode.specs.declared.code.ClassUnit.{ClassUnit}
use Rattle.instructions.specs.declared.what.Instr.{Instr}
use Rattle.instructions.specs.declared.what.Target.{Target}
use Rattle.link_types.specs.declared.operands.MethodId.{MethodId}
use Rattle.link_types.specs.declared.operands.MethodOperand.{MethodOperand}
use Rattle.link_types.specs.declared.operands.Operand.{Operand}
use Rattle.link_types.specs.declared.types.ObjectType.TheVariants.{Class}
use Rattle.link_types.specs.declared.types.ValueType.{ValueType}
use Rattle.link_rules.specs.Classes.{NamedMember, classes_of}
use Rattle.link_rules.specs.Methods.{method_named}
use Rattle.link_rules.specs.Names.{program_names}
use Rattle.link_rules.specs.Operands.{operand}
use Rattle.link_rules.specs.Uses.{IsMethodOperand, FitsCall}
use Rattle.type_rules.specs.Environment.{Environment}
use Rattle.type_rules.specs.Environments.{parameters_of_method, result_of_method}
use Rattle.type_rules.specs.FrameAfter.{call_pushes, result_pushes}
use Rattle.type_rules.specs.Wants.{a_reference_to, call_wants, words_wanted}
use Rattle.java_rows.specs.Plan.{Frame, asks_class, unless_null, use_in}
use Rattle.java_rows.specs.Program.{argument_words, method_has, method_of, select, is_subclass, select_for}
use Rattle.row_soundness.specs.Senses.{Sense, IsReference}
use Rattle.row_soundness.specs.Fits.{Returns, HaveTypes, ValuesFit, PlanFits, anything, UseFits, env_of, returns_of}
use Rattle.row_soundness.specs.Operands.{Begins, Operands, at_offset}
use Rattle.row_soundness.specs.Knowledge.{Knows}
use Rattle.row_soundness.specs.Accepted.{Accepted}
use Rattle.row_soundness.proofs.Basics.{types_more}
use Rattle.row_soundness.proofs.Operands.{words_are}
use Rattle.row_soundness.proofs.Flow.{stands_more, begins_more, room_at}
use Rattle.row_soundness.proofs.Plans.{asks_class_fit}
use Rattle.row_soundness.proofs.RowBasics.{RowFits, takes, Fit, bare_stands}
use Rattle.row_soundness.proofs.ReadValues.{unless_null_fits, there}
use Rattle.row_soundness.proofs.CallsFit.{raises_fit, Arguments, arguments}
use Rattle.java_rows.specs.Calls.{calls_interface, class_of_type, invokes_selected}
use Rattle.row_soundness.proofs.ChosenFit.{with_receiver_is, room_here, values_long, argument_count, use_fits, fits_more, NativesFit, chosen_fits}
use Rattle.instructions.specs.declared.operation.Call.TheVariants as call
use Rattle.instructions.specs.declared.what.What.TheVariants as whats
use Rattle.link_types.specs.declared.operands.Operand.TheVariants as operands

module _ {P : Type 0} (know : Sense P) (us : List ClassUnit) (knows : Knows know us) (accepted : Accepted us) (me : ℕ) where
  module _ (natives : NativesFit know us knows accepted me) (index at next : ℕ) where
    abbrev invokeinterface : Instr Target
    invokeinterface = at_offset at next (whats.InterfaceCall index)

    module _ (h : P) (f : Frame) (b : Begins know us h f invokeinterface) (mine : know.is_of h me (Class THREAD)) (m : MethodOperand) (e : operand us f.method.class index ≡ operands.Method m) (fits : FitsCall (classes_of us) f.method.class call.Virtual m) where
      abbrev params : List ValueType
      params = parameters_of_method (program_names us) m.method

      abbrev env : Environment
      env = env_of us f.method b.stands.of

      instance : method_has us m.method STATIC ≡ false
      instance = by_member (method_named (classes_of us) m.method) fits.method
        where
          by_member : (o : Option NamedMember) → IsSomeAnd o (λ (n : NamedMember). has n.flags STATIC ≡ false) → option_map_or (λ (n : NamedMember). has n.flags STATIC) o false ≡ false
          by_member (Some n) is = is
          by_member None is = absurd is

      on : (h' : P) (n : ℕ) (rest : List ℕ) → know.extends h h' → words_wanted (call_wants env call.Virtual (operands.Method m)) ≡ n → HaveTypes know env b.stands.unset h rest (drop n (b.stands.frames f.step).stack) → suc (length rest) ≤ f.room
          → (tells : Returns) → tells.value ≡ result_of_method (program_names us) m.method → UseFits know us h' (Some (returns_of know us h f b.stands)) tells (use_in f rest)
      on h' n rest more words left room tells same =
          use_fits know us knows accepted me h' f invokeinterface (begins_more know us knows accepted h h' more f invokeinterface b) (result_of_method (program_names us) m.method) n rest tells same refl
          (ap (λ o. record (b.stands.frames f.step) { stack = call_pushes env o ++ drop (words_wanted (call_wants env call.Virtual o)) (b.stands.frames f.step).stack }) e
          ∙ ap (λ k. record (b.stands.frames f.step) { stack = result_pushes (result_of_method (program_names us) m.method) ++ drop k (b.stands.frames f.step).stack }) words)
          (types_more know us knows env b.stands.unset h h' rest _ more left) room

      by_class : (r n : ℕ) (args rest : List ℕ) → words_wanted (call_wants env call.Virtual (operands.Method m)) ≡ n → IsReference know h r m.named → ValuesFit know h params args → HaveTypes know env b.stands.unset h rest (drop n (b.stands.frames f.step).stack) → suc (length rest) ≤ f.room
          → Fit know us knows accepted me h f invokeinterface b (unless_null f r (asks_class r (λ c n. invokes_selected us me (r ∷ args) (use_in f rest) (select_for us (class_of_type m.named) m.method c))))
      by_class r n args rest words r_fits args_fit left room =
          unless_null_fits know us knows accepted me h f b.stands r (asks_class r (λ c n. invokes_selected us me (r ∷ args) (use_in f rest) (select_for us (class_of_type m.named) m.method c)))
          (λ other. let of : know.is_of h r m.named = there know us knows accepted me h r m.named other r_fits in
          asks_class_fit know us knows (Some (returns_of know us h f b.stands)) h r (λ c n. invokes_selected us me (r ∷ args) (use_in f rest) (select_for us (class_of_type m.named) m.method c)) (knows.looks h r (knows.there_of h r m.named (knows.raw_of h r m.named of)))
          (λ h' c k more is. by_test h' c k more (knows.of_more h h' r m.named more of) is (is_subclass us c (class_of_type m.named))))
        where
          none : (h' : P) → know.extends h h' → PlanFits know us (Some (returns_of know us h f b.stands)) anything (invokes_selected us me (r ∷ args) (use_in f rest) None) h'
          none h' more =
              raises_fit know us knows accepted me h' (Some (returns_of know us h f b.stands)) (use_in f rest) INCOMPATIBLE_CLASS_CHANGE_ERROR refl
              (λ h'' q d more' thrown. (tt, (bare_stands know us knows accepted me h'' f (stands_more know us knows accepted h h'' (knows.both h h' h'' more more') f b.stands), refl, thrown)))

          by_selected : (h' : P) (c k : ℕ) → know.extends h h' → know.is_of h' r m.named → know.is_exactly h' r c k → (o : Option MethodId) → select us c m.method ≡ o
              → PlanFits know us (Some (returns_of know us h f b.stands)) anything (invokes_selected us me (r ∷ args) (use_in f rest) o) h'
          by_selected h' c k more of is None same = none h' more
          by_selected h' c k more of is (Some found) same =
              chosen_fits know us knows accepted me natives h' (Some (returns_of know us h f b.stands)) m.method found r args (use_in f rest) (accepted.selects f.method.class index m c found e instance same) (knows.of_more h h' me (Class THREAD) more mine)
              (knows.selected h' r c k m.named m.method found of is (λ private. knows.up h' r m.named (Class m.method.class) of (accepted.owners f.method.class index m e (inl private))) same)
              (fits_more know us knows accepted me h h' more params args args_fit) (on h' n rest more words left room)

          by_test : (h' : P) (c k : ℕ) → know.extends h h' → know.is_of h' r m.named → know.is_exactly h' r c k → (x : Bool)
              → PlanFits know us (Some (returns_of know us h f b.stands)) anything (invokes_selected us me (r ∷ args) (use_in f rest) (if x then select us c m.method else None)) h'
          by_test h' c k more of is true = by_selected h' c k more of is (select us c m.method) refl
          by_test h' c k more of is false = none h' more

      pub interface_fits : Operands know env b.stands.unset h (b.stands.frames f.step).stack 0 (call_wants env call.Virtual (operands.Method m)) f.stack → Fit know us knows accepted me h f invokeinterface b (calls_interface us me f (Some m))
      interface_fits taken =
          let args : Arguments know us knows accepted me env b.stands.unset h (b.stands.frames f.step).stack (reverse params) (reverse (reverse params)) [] 0 (a_reference_to m.named ∷ []) f.stack =
          arguments know us knows accepted me env b.stands.unset h (b.stands.frames f.step).stack (reverse params) [] [] 0 (a_reference_to m.named ∷ []) f.stack tt taken in
          let (r, rest, are, r_fits, left) = args.left in
          let whole : f.stack ≡ args.taken ++ r ∷ rest = args.are ∙ ap (λ s. args.taken ++ s) are in
          let fit : ValuesFit know h params (reverse args.taken) = subst (λ ts. ValuesFit know h ts (reverse args.taken)) (reverse-reverse params) args.fit in
          let long : length args.taken ≡ argument_words us m.method = sym (length-reverse args.taken) ∙ values_long know us knows accepted me h params (reverse args.taken) fit ∙ sym (argument_count know us knows accepted me m.method) in
          let deep : length f.stack ≤ f.room = room_at know us knows accepted h f b.stands f.step f.stack b.stands.unset b.stands.within b.stack in
          let words : words_wanted (call_wants env call.Virtual (operands.Method m)) ≡ suc (0 + length args.taken) = omega (arith, words_are (call_wants env call.Virtual (operands.Method m)), args.size) in
          subst (λ plan. Fit know us knows accepted me h f invokeinterface b plan)
          (sym (with_receiver_is f (argument_words us m.method) (λ r args rest. asks_class r (λ c n. invokes_selected us me args (use_in f rest) (select_for us (class_of_type m.named) m.method c))) args.taken r rest whole long))
          (by_class r (suc (0 + length args.taken)) (reverse args.taken) rest words r_fits fit left (omega (arith, deep, ap (λ (s : List ℕ). length s) whole, room_here args.taken r rest)))

    by_interface : (h : P) (f : Frame) (b : Begins know us h f invokeinterface) → know.is_of h me (Class THREAD) → (o : Operand) → operand us f.method.class index ≡ o → IsMethodOperand (classes_of us) f.method.class call.Virtual o
        → Operands know (env_of us f.method b.stands.of) b.stands.unset h (b.stands.frames f.step).stack 0 (call_wants (env_of us f.method b.stands.of) call.Virtual o) f.stack → Fit know us knows accepted me h f invokeinterface b (calls_interface us me f (method_of o))
    by_interface h f b mine (operands.Method m) e fits taken = interface_fits h f b mine m e fits taken
    by_interface h f b mine o e fits taken = absurd fits

    pub invokeinterface_fits : (h : P) (f : Frame) (b : Begins know us h f invokeinterface) → know.is_of h me (Class THREAD) → RowFits know us knows accepted me h f invokeinterface b
    invokeinterface_fits h f b mine =
        by_interface h f b mine (operand us f.method.class index) refl (accepted.interface_calls f.method b.stands.of f.step at next index b.at) (takes know us knows accepted me h f invokeinterface b)
