-- The row of calls by invokespecial of what is no constructor (JVMS 6.5 invokespecial).
use Rattle.std.proofs.Common.{◌≡◌, ◌≤◌, ◌+◌, ◌-◌, ℕ, suc, true, false, ◌⊎◌, inl, inr, Some, List, [], ◌∷◌, ◌++◌, length, drop, reverse, refl, sym, ap, subst, ◌∙◌, arith, if◌then◌else◌}
use Rattle.std.proofs.lemmas.List.{reverse-reverse, length-reverse}
use Rattle.builtin_world.specs.declared.number.TheConstants.{THREAD}
use Rattle.code_decode.specs.declared.code.ClassUnit.{ClassUnit}
use Rattle.instructions.specs.declared.what.Instr.{Instr}
use Rattle.instructions.specs.declared.what.Target.{Target}
use Rattle.link_types.specs.declared.operands.MethodId.{MethodId}
use Rattle.link_types.specs.declared.operands.MethodOperand.{MethodOperand}
use Rattle.link_types.specs.declared.types.ObjectType.TheVariants.{Class}
use Rattle.link_types.specs.declared.types.ValueType.{ValueType}
use Rattle.link_rules.specs.Classes.{classes_of}
use Rattle.link_rules.specs.Names.{program_names}
use Rattle.link_rules.specs.Operands.{operand}
use Rattle.link_rules.specs.Uses.{FitsCall}
use Rattle.type_rules.specs.Environment.{Environment, TypeFrame}
use Rattle.type_rules.specs.Environments.{parameters_of_method, result_of_method, hierarchy_of}
use Rattle.type_rules.specs.FrameAfter.{frame_after, call_pushes, result_pushes, names_constructor}
use Rattle.type_rules.specs.Wants.{call_wants, words_wanted, a_receiver_here, to_initialize}
use Rattle.java_rows.specs.Plan.{Frame, unless_null, use_in}
use Rattle.java_rows.specs.Program.{argument_words}
use Rattle.row_soundness.specs.Senses.{Sense}
use Rattle.row_soundness.specs.Fits.{HaveTypes, ValuesFit, env_of, returns_of}
use Rattle.row_soundness.specs.Operands.{Begins, Operands, at_offset}
use Rattle.row_soundness.specs.Knowledge.{Knows}
use Rattle.row_soundness.specs.Accepted.{Accepted, IsChosen}
use Rattle.row_soundness.proofs.Operands.{words_are}
use Rattle.row_soundness.proofs.Flow.{room_at}
use Rattle.row_soundness.proofs.RowBasics.{Fit}
use Rattle.row_soundness.proofs.ReadValues.{unless_null_fits}
use Rattle.row_soundness.proofs.CallsFit.{Arguments, arguments}
use Rattle.java_rows.specs.Calls.{calls_special, calls_special_method, invokes}
use Rattle.row_soundness.proofs.ChosenFit.{with_receiver_is, room_here, values_long, argument_count, use_fits, NativesFit, chosen_fits}
use Rattle.type_rules.specs.Assignable.{is_object_assignable}
use Rattle.instructions.specs.declared.operation.Call.TheVariants as call
use Rattle.instructions.specs.declared.what.What.TheVariants as whats
use Rattle.link_types.specs.declared.operands.Operand.TheVariants as operands

module _ {P : Type 0} (know : Sense P) (us : List ClassUnit) (knows : Knows know us) (accepted : Accepted us) (me : ℕ) where
  module _ (natives : NativesFit know us knows accepted me) (index at next : ℕ) where
    abbrev special : Instr Target
    special = at_offset at next (whats.Call call.Special index)

    module _ (h : P) (f : Frame) (b : Begins know us h f special) (mine : know.is_of h me (Class THREAD)) (m : MethodOperand) (e : operand us f.method.class index ≡ operands.Method m) (fits : FitsCall (classes_of us) f.method.class call.Special m) (plain : m.constructs ≡ false) where
      abbrev takes_types : List ValueType
      takes_types = parameters_of_method (program_names us) m.method

      abbrev of_frame : Environment
      of_frame = env_of us f.method b.stands.of

      abbrev here : TypeFrame
      here = b.stands.frames f.step

      after_is : (n : ℕ) → words_wanted (call_wants of_frame call.Special (operands.Method m)) ≡ n
          → frame_after of_frame special here ≡ record here { stack = result_pushes (result_of_method (program_names us) m.method) ++ drop n here.stack }
      after_is n words =
          ap (λ o. if names_constructor o then Rattle.type_rules.specs.FrameAfter.with_initialized of_frame (Rattle.std.specs.List.slice_index_or here.stack (words_wanted (call_wants of_frame call.Special o) - 1) Rattle.type_rules.specs.declared.types.VerificationType.TheVariants.Top) (record here { stack = call_pushes of_frame o ++ drop (words_wanted (call_wants of_frame call.Special o)) here.stack })
          else record here { stack = call_pushes of_frame o ++ drop (words_wanted (call_wants of_frame call.Special o)) here.stack }) e
          ∙ (ap (λ x. if x then Rattle.type_rules.specs.FrameAfter.with_initialized of_frame (Rattle.std.specs.List.slice_index_or here.stack (words_wanted (call_wants of_frame call.Special (operands.Method m)) - 1) Rattle.type_rules.specs.declared.types.VerificationType.TheVariants.Top) (record here { stack = result_pushes (result_of_method (program_names us) m.method) ++ drop (words_wanted (call_wants of_frame call.Special (operands.Method m))) here.stack })
          else record here { stack = result_pushes (result_of_method (program_names us) m.method) ++ drop (words_wanted (call_wants of_frame call.Special (operands.Method m))) here.stack }) plain
          ∙ ap (λ k. record here { stack = result_pushes (result_of_method (program_names us) m.method) ++ drop k here.stack }) words)

      there_here : (r : ℕ) → (r ≡ 0 → ⊥) → (r ≡ 0) ⊎ (know.is_of h r m.named × know.is_of h r (Class f.method.class)) → know.is_of h r m.named × know.is_of h r (Class f.method.class)
      there_here r other (inl none) = absurd (other none)
      there_here r other (inr both) = both

      calls_found : (r n : ℕ) (args rest : List ℕ) (found : MethodId) → m.special ≡ Some found → IsChosen us m.method found → ((is_object_assignable (hierarchy_of (classes_of us)) (Class f.method.class) (Class found.class) ≡ true) ⊎ (is_object_assignable (hierarchy_of (classes_of us)) m.named (Class found.class) ≡ true))
          → words_wanted (call_wants of_frame call.Special (operands.Method m)) ≡ n → (r ≡ 0) ⊎ (know.is_of h r m.named × know.is_of h r (Class f.method.class)) → ValuesFit know h takes_types args
          → HaveTypes know of_frame b.stands.unset h rest (drop n here.stack) → suc (length rest) ≤ f.room → Fit know us knows accepted me h f special b (unless_null f r (invokes us me found (r ∷ args) (use_in f rest)))
      calls_found r n args rest found is chosen above words r_fits args_fit left room =
          unless_null_fits know us knows accepted me h f b.stands r (invokes us me found (r ∷ args) (use_in f rest))
          (λ other. let both = there_here r other r_fits in
          chosen_fits know us knows accepted me natives h (Some (returns_of know us h f b.stands)) m.method found r args (use_in f rest) chosen mine
          (elim above [ inl own ↦ knows.up h r (Class f.method.class) (Class found.class) both.1 own | inr named ↦ knows.up h r m.named (Class found.class) both.0 named ]) args_fit
          (λ tells same. use_fits know us knows accepted me h f special b (result_of_method (program_names us) m.method) n rest tells same refl (after_is n words) left room))

      pub special_method_fits : Operands know of_frame b.stands.unset h here.stack 0 (call_wants of_frame call.Special (operands.Method m)) f.stack → Fit know us knows accepted me h f special b (calls_special us me f (Some m))
      special_method_fits taken =
          let wanted : Operands know of_frame b.stands.unset h here.stack 0 (Rattle.type_rules.specs.Wants.arguments_wanted of_frame m ++ a_receiver_here m.named ∷ []) f.stack =
          subst (λ x. Operands know of_frame b.stands.unset h here.stack 0 (Rattle.type_rules.specs.Wants.arguments_wanted of_frame m ++ (if x then to_initialize m.named else a_receiver_here m.named) ∷ []) f.stack) plain taken in
          let args : Arguments know us knows accepted me of_frame b.stands.unset h here.stack (reverse takes_types) (reverse (reverse takes_types)) [] 0 (a_receiver_here m.named ∷ []) f.stack =
          arguments know us knows accepted me of_frame b.stands.unset h here.stack (reverse takes_types) [] [] 0 (a_receiver_here m.named ∷ []) f.stack tt wanted in
          let (r, rest, are, r_fits, left) = args.left in
          let (found, is, chosen, above) = accepted.specials f.method.class index m e plain fits in
          let whole : f.stack ≡ args.taken ++ r ∷ rest = args.are ∙ ap (λ s. args.taken ++ s) are in
          let fit : ValuesFit know h takes_types (reverse args.taken) = subst (λ ts. ValuesFit know h ts (reverse args.taken)) (reverse-reverse takes_types) args.fit in
          let own : ValuesFit know h (parameters_of_method (program_names us) found) (reverse args.taken) = subst (λ ts. ValuesFit know h ts (reverse args.taken)) (sym chosen.parameters) fit in
          let long : length args.taken ≡ argument_words us found = sym (length-reverse args.taken) ∙ values_long know us knows accepted me h (parameters_of_method (program_names us) found) (reverse args.taken) own ∙ sym (argument_count know us knows accepted me found) in
          let deep : length f.stack ≤ f.room = room_at know us knows accepted h f b.stands f.step f.stack b.stands.unset b.stands.within b.stack in
          let words : words_wanted (call_wants of_frame call.Special (operands.Method m)) ≡ suc (0 + length args.taken) =
          ap (λ x. words_wanted (Rattle.type_rules.specs.Wants.arguments_wanted of_frame m ++ (if x then to_initialize m.named else a_receiver_here m.named) ∷ [])) plain ∙ omega (arith, words_are (Rattle.type_rules.specs.Wants.arguments_wanted of_frame m ++ a_receiver_here m.named ∷ []), args.size) in
          subst (λ o. Fit know us knows accepted me h f special b (calls_special_method us me f o)) (sym is)
          (subst (λ plan. Fit know us knows accepted me h f special b plan)
          (sym (with_receiver_is f (argument_words us found) (λ r args rest. invokes us me found args (use_in f rest)) args.taken r rest whole long))
          (calls_found r (suc (0 + length args.taken)) (reverse args.taken) rest found is chosen above words r_fits fit left (omega (arith, deep, ap (λ (s : List ℕ). length s) whole, room_here args.taken r rest))))
