-- Every row fits where its operands do.
use Rattle.std.proofs.Common.{◌≡◌, ℕ, Bool, true, false, None, Some, List, refl}
use Rattle.builtin_world.specs.declared.number.TheConstants.{THREAD}
use Rattle.code_decode.specs.declared.code.ClassUnit.{ClassUnit}
use Rattle.instructions.specs.declared.operation.LocalAccess.TheVariants.{Load, Store}
use Rattle.instructions.specs.declared.operation.Plain.{Plain}
use Rattle.instructions.specs.declared.what.Instr.{Instr}
use Rattle.instructions.specs.declared.what.Target.{Target}
use Rattle.instructions.specs.declared.what.What.{What}
use Rattle.link_types.specs.declared.operands.Operand.{Operand}
use Rattle.link_types.specs.declared.types.ObjectType.TheVariants.{Class}
use Rattle.link_rules.specs.Classes.{classes_of}
use Rattle.link_rules.specs.Operands.{operand}
use Rattle.link_rules.specs.Uses.{IsMethodOperand}
use Rattle.type_rules.specs.Wants.{call_wants}
use Rattle.java_rows.specs.Calls.{calls_special}
use Rattle.java_rows.specs.Plan.{Frame}
use Rattle.java_rows.specs.Program.{method_of}
use Rattle.row_soundness.specs.Senses.{Sense}
use Rattle.row_soundness.specs.Fits.{env_of}
use Rattle.row_soundness.specs.Operands.{Begins, Operands, at_offset}
use Rattle.row_soundness.specs.Knowledge.{Knows}
use Rattle.row_soundness.specs.Accepted.{Accepted}
use Rattle.row_soundness.proofs.RowBasics.{RowFits, takes, Fit}
use Rattle.row_soundness.proofs.LocalRowsFit.{iconst_fits, int_arithmetic_fits, long_arithmetic_fits, iload_fits, istore_fits}
use Rattle.row_soundness.proofs.NumberRowsFit.{nop_fits, null_fits, lconst_fits, int_negate_fits, long_negate_fits, int_shift_fits, long_shift_fits, lcmp_fits, ldc_fits, ldc2_fits, convert_fits}
use Rattle.row_soundness.proofs.FlowRowsFit.{lload_fits, aload_fits, astore_fits, lstore_fits, iinc_fits, branch_fits, tableswitch_fits, lookupswitch_fits}
use Rattle.row_soundness.proofs.StackRowsFit.{stack_fits}
use Rattle.row_soundness.proofs.CastRowsFit.{checkcast_fits, instanceof_fits}
use Rattle.row_soundness.proofs.FieldRowsFit.{getfield_fits, putfield_fits}
use Rattle.row_soundness.proofs.MonitorRowsFit.{monitorenter_fits, monitorexit_fits, athrow_fits}
use Rattle.row_soundness.proofs.ElementRowsFit.{load_fits, aaload_fits, aastore_fits}
use Rattle.row_soundness.proofs.ReturnRowsFit.{return_fits, areturn_fits, ireturn_fits, lreturn_fits}
use Rattle.row_soundness.proofs.ArrayRowsFit.{arraylength_fits, newarray_fits, anewarray_fits}
use Rattle.row_soundness.proofs.StoreRowsFit.{store_fits, lastore_fits}
use Rattle.row_soundness.proofs.StaticFieldRowsFit.{putstatic_fits, getstatic_fits}
use Rattle.row_soundness.proofs.NewRowFits.{new_fits}
use Rattle.row_soundness.proofs.VirtualRowFits.{invokevirtual_fits}
use Rattle.row_soundness.proofs.ConstructorRowFits.{by_constructor}
use Rattle.row_soundness.proofs.InterfaceRowFits.{invokeinterface_fits}
use Rattle.row_soundness.proofs.StaticRowFits.{invokestatic_fits}
use Rattle.row_soundness.proofs.SpecialRowFits.{special_method_fits}
use Rattle.row_soundness.proofs.NativesTable.{natives_fit, static_natives_fit, native_constructors_fit}
use Rattle.instructions.specs.declared.operation.Call.TheVariants as call
use Rattle.instructions.specs.declared.operation.ClassUse.TheVariants as uses
use Rattle.instructions.specs.declared.operation.ElementKind.TheVariants as elements
use Rattle.instructions.specs.declared.operation.FieldAccess.TheVariants as fields
use Rattle.instructions.specs.declared.operation.Plain.TheVariants as plain
use Rattle.instructions.specs.declared.operation.ValueKind.TheVariants as kinds
use Rattle.instructions.specs.declared.what.What.TheVariants as whats
use Rattle.link_types.specs.declared.operands.Operand.TheVariants as operands

module _ {P : Type 0} (know : Sense P) (us : List ClassUnit) (knows : Knows know us) (accepted : Accepted us) (me : ℕ) where
  module _ (h : P) (f : Frame) (mine : know.is_of h me (Class THREAD)) (at next : ℕ) where
    abbrev RowIs : What Target → Type 0
    RowIs what = (b : Begins know us h f (at_offset at next what)) → RowFits know us knows accepted me h f (at_offset at next what) b

    special_row : (index : ℕ) (b : Begins know us h f (at_offset at next (whats.Call call.Special index))) (o : Operand) → operand us f.method.class index ≡ o → IsMethodOperand (classes_of us) f.method.class call.Special o
        → Operands know (env_of us f.method b.stands.of) b.stands.unset h (b.stands.frames f.step).stack 0 (call_wants (env_of us f.method b.stands.of) call.Special o) f.stack
        → Fit know us knows accepted me h f (at_offset at next (whats.Call call.Special index)) b (calls_special us me f (method_of o))
    special_row index b (operands.Method m) e fits taken = by_kind m.constructs refl
      where
        by_kind : (x : Bool) → m.constructs ≡ x → Fit know us knows accepted me h f (at_offset at next (whats.Call call.Special index)) b (calls_special us me f (Some m))
        by_kind true constructs = by_constructor know us knows accepted me (native_constructors_fit know us knows accepted me) index at next h f b mine m e fits constructs taken
        by_kind false plain = special_method_fits know us knows accepted me (natives_fit know us knows accepted me) index at next h f b mine m e fits plain taken
    special_row index b o e fits taken = absurd fits

    plain_row_fits : (p : Plain) → RowIs (whats.Plain p)
    plain_row_fits plain.Nop = nop_fits know us knows accepted me h f at next
    plain_row_fits plain.Null = null_fits know us knows accepted me h f at next
    plain_row_fits (plain.ArrayLoad elements.Int) = load_fits know us knows accepted me elements.Int (record { is = tt; pushes = λ t. refl; wanted = refl }) at next h f
    plain_row_fits (plain.ArrayLoad elements.Long) = load_fits know us knows accepted me elements.Long (record { is = tt; pushes = λ t. refl; wanted = refl }) at next h f
    plain_row_fits (plain.ArrayLoad elements.ByteOrBoolean) = load_fits know us knows accepted me elements.ByteOrBoolean (record { is = tt; pushes = λ t. refl; wanted = refl }) at next h f
    plain_row_fits (plain.ArrayLoad elements.Char) = load_fits know us knows accepted me elements.Char (record { is = tt; pushes = λ t. refl; wanted = refl }) at next h f
    plain_row_fits (plain.ArrayLoad elements.Short) = load_fits know us knows accepted me elements.Short (record { is = tt; pushes = λ t. refl; wanted = refl }) at next h f
    plain_row_fits (plain.ArrayLoad elements.Reference) = aaload_fits know us knows accepted me at next h f
    plain_row_fits (plain.ArrayStore elements.Int) = store_fits know us knows accepted me elements.Int (record { is = tt; value = refl; array = refl; contents = refl; place = λ i. refl; row = λ f stack. refl }) at next h f
    plain_row_fits (plain.ArrayStore elements.ByteOrBoolean) = store_fits know us knows accepted me elements.ByteOrBoolean (record { is = tt; value = refl; array = refl; contents = refl; place = λ i. refl; row = λ f stack. refl }) at next h f
    plain_row_fits (plain.ArrayStore elements.Char) = store_fits know us knows accepted me elements.Char (record { is = tt; value = refl; array = refl; contents = refl; place = λ i. refl; row = λ f stack. refl }) at next h f
    plain_row_fits (plain.ArrayStore elements.Short) = store_fits know us knows accepted me elements.Short (record { is = tt; value = refl; array = refl; contents = refl; place = λ i. refl; row = λ f stack. refl }) at next h f
    plain_row_fits (plain.ArrayStore elements.Long) = lastore_fits know us knows accepted me at next h f
    plain_row_fits (plain.ArrayStore elements.Reference) = aastore_fits know us knows accepted me at next h f
    plain_row_fits (plain.Stack op) = stack_fits know us knows accepted me op at next h f
    plain_row_fits (plain.IntArithmetic op) = int_arithmetic_fits know us knows accepted me h f op at next
    plain_row_fits (plain.LongArithmetic op) = long_arithmetic_fits know us knows accepted me h f op at next
    plain_row_fits plain.IntNegate = int_negate_fits know us knows accepted me h f at next
    plain_row_fits plain.LongNegate = long_negate_fits know us knows accepted me h f at next
    plain_row_fits (plain.IntShift op) = int_shift_fits know us knows accepted me h f at next op
    plain_row_fits (plain.LongShift op) = long_shift_fits know us knows accepted me h f at next op
    plain_row_fits (plain.Convert c) = convert_fits know us knows accepted me h f at next c
    plain_row_fits plain.LongCompare = lcmp_fits know us knows accepted me h f at next
    plain_row_fits (plain.Return None) = return_fits know us knows accepted me at next h f
    plain_row_fits (plain.Return (Some kinds.Int)) = ireturn_fits know us knows accepted me at next h f
    plain_row_fits (plain.Return (Some kinds.Long)) = lreturn_fits know us knows accepted me at next h f
    plain_row_fits (plain.Return (Some kinds.Reference)) = areturn_fits know us knows accepted me at next h f
    plain_row_fits plain.ArrayLength = arraylength_fits know us knows accepted me at next h f
    plain_row_fits plain.Throw = athrow_fits know us knows accepted me at next h f
    plain_row_fits plain.MonitorEnter = monitorenter_fits know us knows accepted me at next h f
    plain_row_fits plain.MonitorExit = monitorexit_fits know us knows accepted me at next h f

    pub row_fits : (what : What Target) → RowIs what
    row_fits (whats.Plain p) = plain_row_fits p
    row_fits (whats.Int n) = iconst_fits know us knows accepted me h f n at next
    row_fits (whats.Long n) = lconst_fits know us knows accepted me h f at next n
    row_fits (whats.Constant index) = ldc_fits know us knows accepted me h f at next index
    row_fits (whats.LongConstant index) = ldc2_fits know us knows accepted me h f at next index
    row_fits (whats.Local (Load kinds.Int) n) = iload_fits know us knows accepted me h f n at next
    row_fits (whats.Local (Load kinds.Long) n) = lload_fits know us knows accepted me h f at next n
    row_fits (whats.Local (Load kinds.Reference) n) = aload_fits know us knows accepted me h f at next n
    row_fits (whats.Local (Store kinds.Int) n) = istore_fits know us knows accepted me h f n at next
    row_fits (whats.Local (Store kinds.Long) n) = lstore_fits know us knows accepted me h f at next n
    row_fits (whats.Local (Store kinds.Reference) n) = astore_fits know us knows accepted me h f at next n
    row_fits (whats.Increment n by) = iinc_fits know us knows accepted me h f at next n by
    row_fits (whats.Branch test t) = branch_fits know us knows accepted me h f at next test t
    row_fits (whats.TableSwitch default low targets) = tableswitch_fits know us knows accepted me h f at next default low targets
    row_fits (whats.LookupSwitch default cases) = lookupswitch_fits know us knows accepted me h f at next default cases
    row_fits (whats.Field fields.GetStatic index) = getstatic_fits know us knows accepted me index at next h f
    row_fits (whats.Field fields.PutStatic index) = putstatic_fits know us knows accepted me index at next h f
    row_fits (whats.Field fields.GetField index) = getfield_fits know us knows accepted me index at next h f
    row_fits (whats.Field fields.PutField index) = putfield_fits know us knows accepted me index at next h f
    row_fits (whats.Call call.Virtual index) = λ b. invokevirtual_fits know us knows accepted me (natives_fit know us knows accepted me) index at next h f b mine
    row_fits (whats.Call call.Special index) = λ b. special_row index b (operand us f.method.class index) refl (accepted.calls f.method b.stands.of f.step at next index call.Special b.at) (takes know us knows accepted me h f (at_offset at next (whats.Call call.Special index)) b)
    row_fits (whats.Call call.Static index) = λ b. invokestatic_fits know us knows accepted me (static_natives_fit know us knows accepted me) index at next h f b mine
    row_fits (whats.InterfaceCall index) = λ b. invokeinterface_fits know us knows accepted me (natives_fit know us knows accepted me) index at next h f b mine
    row_fits (whats.Class uses.New index) = new_fits know us knows accepted me index at next h f
    row_fits (whats.Class uses.NewArray index) = anewarray_fits know us knows accepted me index at next h f
    row_fits (whats.Class uses.CheckCast index) = checkcast_fits know us knows accepted me index at next h f
    row_fits (whats.Class uses.InstanceOf index) = instanceof_fits know us knows accepted me index at next h f
    row_fits (whats.NewArray kind) = newarray_fits know us knows accepted me at next kind h f

  pub each_row_fits : (h : P) (f : Frame) (i : Instr Target) (b : Begins know us h f i) → know.is_of h me (Class THREAD) → RowFits know us knows accepted me h f i b
  each_row_fits h f i b mine = row_fits h f mine i.at i.next i.what b
