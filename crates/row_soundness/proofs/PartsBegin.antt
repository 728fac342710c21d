-- What rows are made of begins with an operation, a silent step or a call: it isn't complete at its beginning.
use Rattle.std.proofs.Common.{◌==◌, ◌&&◌, ℕ, Bool, true, false, Option, None, Some, List, [], ◌∷◌, length, take, drop, reverse, nat_le, if◌then◌else◌}
use Rattle.std.specs.Option.{option_map_or}
use Rattle.builtin_world.specs.declared.Native.{Native}
use Rattle.builtin_world.specs.declared.Native.TheVariants.{ObjectInit, ObjectWait, ObjectNotify, ObjectNotifyAll, ObjectEquals, PrintlnEmpty, PrintlnInt, PrintlnLong, PrintlnChar, PrintlnBoolean, PrintlnString, ThreadInit, ThreadInitTarget, ThreadStart, ThreadRun, ThreadJoin, ThreadSetPriority, ThreadGetPriority, ThreadCurrentThread, ThreadYield, ThrowableInit, ThrowableInitMessage, ThrowableGetMessage, StringLength, StringCharAt, StringEquals, StringConcat, BuilderInit, BuilderInitText, AppendInt, AppendLong, AppendChar, AppendBoolean, AppendString, BuilderLength, BuilderToString}
use Rattle.code_decode.specs.declared.code.ClassUnit.{ClassUnit}
use Rattle.code_decode.specs.declared.code.Code.{Code as MethodCode}
use Rattle.link_types.specs.declared.methods.MethodBody.{MethodBody}
use Rattle.link_types.specs.declared.operands.MethodId.{MethodId}
use Rattle.link_types.specs.declared.types.ValueType.{ValueType}
use Rattle.link_rules.specs.Methods.{method_code}
use Rattle.java_rows.specs.Calls.{monitor_for, calls_method, invokes_body, invokes, invokes_selected, goes_on_at, by_receiver, with_arguments}
use Rattle.java_rows.specs.Initialization.{initializes}
use Rattle.java_rows.specs.Natives.{native}
use Rattle.java_rows.specs.Objects.{reads_value}
use Rattle.java_rows.specs.Plan.{Task, at_step, notifies, finds, Frame, Plan, unless_null, Use}
use Rattle.java_rows.specs.Program.{body_of}
use Rattle.row_soundness.specs.Fits.{IsBegun}
use Rattle.link_types.specs.declared.methods.MethodBody.TheVariants as bodies
use Rattle.link_types.specs.declared.types.ValueType.TheVariants as values

module _ (us : List ClassUnit) (me : ℕ) where
  pub unless_null_begins : (f : Frame) (r : ℕ) (k : Plan) → IsBegun k → IsBegun (unless_null f r k)
  unless_null_begins f r k is = by_test (r == 0)
    where
      by_test : (b : Bool) → IsBegun (if b then Rattle.java_rows.specs.Plan.fails f Rattle.builtin_world.specs.declared.number.TheConstants.NULL_POINTER_EXCEPTION else k)
      by_test true = tt
      by_test false = is

  pub value_begins : (t : ValueType) (r i : ℕ) (k : List ℕ → Plan) → IsBegun (reads_value t r i k)
  value_begins values.Long r i k = tt
  value_begins t r i k = tt

  pub by_flag : (b : Bool) (p q : Plan) → IsBegun p → IsBegun q → IsBegun (if b then p else q)
  by_flag true p q is other = is
  by_flag false p q is other = other

  pub native_begins : (n : Native) (args : List ℕ) (u : Use) → IsBegun (native us me n args u)
  native_begins ObjectInit (r ∷ []) u = tt
  native_begins ObjectWait (r ∷ []) u = tt
  native_begins ObjectNotify (r ∷ []) u = tt
  native_begins ObjectNotifyAll (r ∷ []) u = tt
  native_begins ObjectEquals (r ∷ other ∷ []) u = tt
  native_begins PrintlnEmpty (r ∷ []) u = tt
  native_begins PrintlnInt (r ∷ n ∷ []) u = tt
  native_begins PrintlnLong (r ∷ low ∷ high ∷ []) u = tt
  native_begins PrintlnChar (r ∷ c ∷ []) u = tt
  native_begins PrintlnBoolean (r ∷ b ∷ []) u = tt
  native_begins PrintlnString (r ∷ s ∷ []) u = by_flag (s == 0) _ _ tt tt
  native_begins ThreadInit (t ∷ []) u = tt
  native_begins ThreadInitTarget (t ∷ target ∷ []) u = tt
  native_begins ThreadStart (t ∷ []) u = tt
  native_begins ThreadRun (t ∷ []) u = tt
  native_begins ThreadJoin (t ∷ []) u = tt
  native_begins ThreadSetPriority (t ∷ p ∷ []) u = by_flag (nat_le 1 p && nat_le p 10) _ _ tt tt
  native_begins ThreadGetPriority (t ∷ []) u = tt
  native_begins ThreadCurrentThread [] u = tt
  native_begins ThreadYield [] u = tt
  native_begins ThrowableInit (t ∷ []) u = tt
  native_begins ThrowableInitMessage (t ∷ message ∷ []) u = tt
  native_begins ThrowableGetMessage (t ∷ []) u = tt
  native_begins StringLength (s ∷ []) u = tt
  native_begins StringCharAt (s ∷ i ∷ []) u = tt
  native_begins StringEquals (s ∷ other ∷ []) u = by_flag (other == 0) _ _ tt tt
  native_begins StringConcat (s ∷ other ∷ []) u = by_flag (other == 0) _ _ tt tt
  native_begins BuilderInit (b ∷ []) u = tt
  native_begins BuilderInitText (b ∷ s ∷ []) u = by_flag (s == 0) _ _ tt tt
  native_begins AppendInt (b ∷ n ∷ []) u = tt
  native_begins AppendLong (b ∷ low ∷ high ∷ []) u = tt
  native_begins AppendChar (b ∷ c ∷ []) u = tt
  native_begins AppendBoolean (b ∷ x ∷ []) u = tt
  native_begins AppendString (b ∷ s ∷ []) u = tt
  native_begins BuilderLength (b ∷ []) u = tt
  native_begins BuilderToString (b ∷ []) u = tt
  native_begins n args u = tt

  pub invokes_begins : (id : MethodId) (args : List ℕ) (u : Use) → IsBegun (invokes us me id args u)
  invokes_begins id args u = by_body (body_of us id)
    where
      by_code : (o : Option MethodCode) → IsBegun (option_map_or (λ _. calls_method us id args u) o Rattle.java_rows.specs.Plan.stuck)
      by_code (Some c) = by_flag (monitor_for us id args == 0) _ _ tt tt
      by_code None = tt

      by_body : (o : Option MethodBody) → IsBegun (invokes_body us me id args u o)
      by_body (Some (bodies.Native n)) = native_begins n args u
      by_body (Some bodies.Code) = by_code (method_code us id)
      by_body (Some bodies.Abstract) = tt
      by_body None = tt

  pub selected_begins : (args : List ℕ) (u : Use) (o : Option MethodId) → IsBegun (invokes_selected us me args u o)
  selected_begins args u (Some id) = invokes_begins id args u
  selected_begins args u None = tt

  pub tasks_begin : (u : Use) (task : Task) → IsBegun (goes_on_at us me u task)
  tasks_begin u at_step = tt
  tasks_begin u (notifies r) = tt
  tasks_begin u (finds v) = tt

  pub initializes_begins : (chain : List ℕ) (k : Plan) (bad : ℕ → ℕ → Plan) → IsBegun k → IsBegun (initializes us chain k bad)
  initializes_begins [] k bad is = is
  initializes_begins (c ∷ above) k bad is = tt

  pub with_arguments_begins : (f : Frame) (words : ℕ) (k : List ℕ → List ℕ → Plan) → ((args rest : List ℕ) → IsBegun (k args rest)) → IsBegun (with_arguments f words k)
  with_arguments_begins f words k is = by_flag (nat_le words (length f.stack)) _ _ (is (reverse (take words f.stack)) (drop words f.stack)) tt

  pub receiver_begins : (f : Frame) (k : ℕ → List ℕ → Plan) (args : List ℕ) → ((r : ℕ) (args : List ℕ) → IsBegun (k r args)) → IsBegun (by_receiver f k args)
  receiver_begins f k [] is = tt
  receiver_begins f k (r ∷ args) is = by_flag (r == 0) _ _ tt (is r (r ∷ args))
