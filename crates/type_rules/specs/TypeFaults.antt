-- The rules of the type checker, in the order in which they are looked at (JVMS 4.10.1).
use Rattle.std.specs.Prelude.{ℕ, zero, suc, ◌+◌, Bool, true, false, not, ◌&&◌, ◌||◌, nat_lt, nat_le, Option, None, Some, List, [], ◌∷◌, length, if◌then◌else◌}
use Rattle.std.specs.List.{list_any}
use Rattle.std.specs.Option.{option_or, option_map_or}
use Rattle.instructions.specs.declared.operation.Plain.TheVariants as plain
use Rattle.instructions.specs.declared.operation.ValueKind.{ValueKind}
use Rattle.instructions.specs.declared.operation.ValueKind.TheVariants as values
use Rattle.instructions.specs.declared.operation.LocalAccess.TheVariants.{Load, Store}
use Rattle.instructions.specs.declared.operation.ClassUse.TheVariants as uses
use Rattle.instructions.specs.declared.what.What.{What}
use Rattle.instructions.specs.declared.what.What.TheVariants as whats
use Rattle.instructions.specs.declared.what.Instr.{Instr}
use Rattle.instructions.specs.declared.what.Target.{Target}
use Rattle.instructions.specs.What.{targets_of, falls_through}
use Rattle.link_types.specs.declared.types.ValueType.{ValueType}
use Rattle.link_types.specs.declared.types.ValueType.TheVariants as types
use Rattle.type_rules.specs.declared.refusal.VerifyKind.{VerifyKind}
use Rattle.type_rules.specs.declared.refusal.VerifyKind.TheVariants as faults
use Rattle.type_rules.specs.declared.types.VerificationType.{VerificationType}
use Rattle.type_rules.specs.declared.types.VerificationType.TheVariants.{Int, Long, Uninit, Object}
use Rattle.type_rules.specs.Assignable.{is_assignable, are_assignable, are_locals_assignable, are_same_types, is_same_type, is_object_assignable}
use Rattle.type_rules.specs.Environment.{Environment, TypeFrame, TypedHandler, frame_of_map}
use Rattle.type_rules.specs.Wants.{wants, words_wanted, verdicts, is_wrong, is_uninitialized, is_reference_type, throwable_type}
use Rattle.type_rules.specs.FrameAfter.{local_at, stack_at, frame_after}

-- the first of two faults
infixr 5 ◌or_else◌
abbrev pub ◌or_else◌ : Option VerifyKind → Option VerifyKind → Option VerifyKind
a or_else other = option_or a other

abbrev pub unless : Bool → VerifyKind → Option VerifyKind
unless true kind = None
unless false kind = Some kind

-- ---- first, the frame here

-- a frame whose object isn't initialized goes only to one of which that is known
abbrev pub is_frame_assignable : Environment → TypeFrame → TypeFrame → Bool
is_frame_assignable env f g =
    are_assignable env.hierarchy f.stack g.stack
    && (are_locals_assignable env.hierarchy f.locals g.locals && (not f.flag_this_uninit || g.flag_this_uninit))

abbrev pub is_same_flag : Bool → Bool → Bool
is_same_flag true flag = flag
is_same_flag false flag = not flag

abbrev pub is_same_frame : TypeFrame → TypeFrame → Bool
is_same_frame f g =
    are_same_types f.locals g.locals && (are_same_types f.stack g.stack && is_same_flag f.flag_this_uninit g.flag_this_uninit)

-- the receiver and the parameters have room
abbrev pub entry_fault : Environment → ℕ → Option VerifyKind
entry_fault env zero = unless (nat_le (length env.entry) env.max_locals) faults.Limits
entry_fault env (suc k) = None

-- a map frame has room
abbrev pub room_fault : Environment → Option TypeFrame → Option VerifyKind
room_fault env None = None
room_fault env (Some g) =
    unless (nat_le (length g.locals) env.max_locals && nat_le (length g.stack) env.max_stack) faults.Limits

-- What falls into an instruction, and the map frame there: one of them is there. At the first instruction the map frame
-- is the entry frame; elsewhere what falls into a map frame is assignable to it.
abbrev pub meeting_fault : Environment → ℕ → Option TypeFrame → Option TypeFrame → Option VerifyKind
meeting_fault env k None None = Some faults.FrameMissing
meeting_fault env zero (Some f) (Some g) = unless (is_same_frame f (frame_of_map env g)) faults.FrameMismatch
meeting_fault env (suc k) (Some f) (Some g) = unless (is_frame_assignable env f g) faults.FrameMismatch
meeting_fault env k _ _ = None

abbrev pub frame_fault : Environment → ℕ → Option TypeFrame → Option VerifyKind
frame_fault env k before =
    entry_fault env k or_else room_fault env (env.map_at k) or_else meeting_fault env k before (env.map_at k)

-- the frame of an instruction is its map frame, or else what falls into it
abbrev pub frame_here : Environment → Option TypeFrame → Option TypeFrame → Option TypeFrame
frame_here env None before = before
frame_here env (Some g) before = Some (frame_of_map env g)

-- ---- then, each handler that covers the instruction

abbrev pub flow_to : Environment → TypeFrame → Option TypeFrame → Option VerifyKind
flow_to env f None = Some faults.FrameMissing
flow_to env f (Some g) = unless (is_frame_assignable env f g) faults.FrameMismatch

-- where a frame leads to the instruction of a number
abbrev pub flow_fault : Environment → TypeFrame → ℕ → Option VerifyKind
flow_fault env f step = flow_to env f (env.map_at step)

abbrev pub is_covered : TypedHandler → ℕ → Bool
is_covered h k = nat_le h.first k && nat_lt k h.end

-- a handler begins with the locals before the instruction, and with what it catches as all of its stack
abbrev pub thrown_frame : TypeFrame → TypedHandler → TypeFrame
thrown_frame f h = record f { stack = Object h.caught ∷ [] }

abbrev pub handler_fault : Environment → TypeFrame → TypedHandler → Option VerifyKind
handler_fault env f h =
    unless (not f.flag_this_uninit) faults.InitCovered
    or_else flow_fault env (thrown_frame f h) h.entry
    or_else unless (is_object_assignable env.hierarchy h.caught throwable_type) faults.TypeMismatch

abbrev pub handlers_fault : Environment → ℕ → TypeFrame → List TypedHandler → Option VerifyKind
handlers_fault env k f [] = None
handlers_fault env k f (h ∷ hs) = (if is_covered h k then handler_fault env f h else None) or_else handlers_fault env k f hs

-- ---- then, the instruction itself

abbrev pub is_load_right : ValueKind → VerificationType → Bool
is_load_right values.Int type = is_same_type type Int
is_load_right values.Long type = is_same_type type Long
is_load_right values.Reference type = is_reference_type type

-- the first local that is read, where the method has it, has the type that the instruction wants
abbrev pub is_local_right : Environment → What Target → TypeFrame → Bool
is_local_right env (whats.Local (Load kind) n) f = nat_le env.max_locals n || is_load_right kind (local_at f n)
is_local_right env (whats.Increment n by) f = nat_le env.max_locals n || is_same_type (local_at f n) Int
is_local_right env _ f = true

abbrev pub words_of_kind : ValueKind → ℕ
words_of_kind values.Long = 2
words_of_kind _ = 1

-- the method has the locals that the instruction names
abbrev pub are_locals_there : Environment → What Target → Bool
are_locals_there env (whats.Local (Load kind) n) = nat_le (n + words_of_kind kind) env.max_locals
are_locals_there env (whats.Local (Store kind) n) = nat_le (n + words_of_kind kind) env.max_locals
are_locals_there env (whats.Increment n by) = nat_lt n env.max_locals
are_locals_there env _ = true

-- `new` finds nothing on the stack that it made before, and no constructor returns before its object is initialized
abbrev pub is_initialization_right : Instr Target → What Target → TypeFrame → Bool
is_initialization_right i (whats.Class uses.New index) f = not (list_any (is_same_type (Uninit i.at)) f.stack)
is_initialization_right i (whats.Plain (plain.Return kind)) f = not f.flag_this_uninit
is_initialization_right i _ f = true

abbrev pub is_int_type : ValueType → Bool
is_int_type types.Long = false
is_int_type (types.Object t) = false
is_int_type _ = true

abbrev pub fits_return_type : Environment → Option ValueType → Option ValueKind → TypeFrame → Bool
fits_return_type env None None f = true
fits_return_type env (Some t) (Some values.Int) f = is_int_type t
fits_return_type env (Some types.Long) (Some values.Long) f = true
fits_return_type env (Some (types.Object t)) (Some values.Reference) f = is_assignable env.hierarchy (stack_at f 0) (Object t)
fits_return_type env _ _ f = false

abbrev pub returns_rightly : Environment → What Target → TypeFrame → Bool
returns_rightly env (whats.Plain (plain.Return kind)) f = fits_return_type env env.return_type kind f
returns_rightly env _ f = true

-- the causes, each over all of the instruction before the next one
abbrev pub own_fault : Environment → Instr Target → TypeFrame → Option VerifyKind
own_fault env i f =
    unless (nat_le (words_wanted (wants env i.what)) (length f.stack)) faults.StackShape
    or_else unless (not (list_any is_wrong (verdicts env (wants env i.what) f.stack)) && is_local_right env i.what f) faults.TypeMismatch
    or_else unless (not (list_any is_uninitialized (verdicts env (wants env i.what) f.stack)) && is_initialization_right i i.what f) faults.Uninit
    or_else unless (are_locals_there env i.what && nat_le (length (frame_after env i f).stack) env.max_stack) faults.Limits
    or_else unless (returns_rightly env i.what f) faults.ReturnType

-- ---- then, where it leads

abbrev pub flows_fault : Environment → TypeFrame → List Target → Option VerifyKind
flows_fault env f [] = None
flows_fault env f (target ∷ targets) = flow_fault env f target.step or_else flows_fault env f targets

-- the last instruction isn't followed
abbrev pub end_fault : Environment → ℕ → What Target → Option VerifyKind
end_fault env k what = unless (not (falls_through what) || nat_lt (suc k) (length env.steps)) faults.FallsOff

-- ---- together

-- at instruction number k, whose frame is f
abbrev pub instruction_fault : Environment → ℕ → Instr Target → TypeFrame → Option VerifyKind
instruction_fault env k i f =
    handlers_fault env k f env.handlers
    or_else own_fault env i f
    or_else flows_fault env (frame_after env i f) (targets_of i.what)
    or_else end_fault env k i.what

-- the first rule that fails at instruction number k, where this falls into it; none where each rule holds
abbrev pub fault_at : Environment → ℕ → Instr Target → Option TypeFrame → Option VerifyKind
fault_at env k i before =
    frame_fault env k before
    or_else option_map_or (instruction_fault env k i) (frame_here env (env.map_at k) before) None
