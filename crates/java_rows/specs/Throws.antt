-- How frames end, and which handler takes a thrown object (JVMS 2.6.4, 2.6.5, 2.10, 2.11.10).
use Rattle.std.specs.Prelude.{ℕ, ◌==◌, ◌&&◌, Bool, true, false, nat_le, nat_lt, Option, None, Some, List, [], ◌∷◌, find, if◌then◌else◌}
use Rattle.std.specs.Option.{option_map_or}
use Rattle.code_decode.specs.declared.code.ClassUnit.{ClassUnit}
use Rattle.code_decode.specs.declared.code.Handler.{Handler}
use Rattle.instructions.specs.declared.operation.ValueKind.{ValueKind}
use Rattle.instructions.specs.declared.operation.ValueKind.TheVariants as kinds
use Rattle.java_rows.specs.Plan.{at_step, Frame, FrameEnd, returned, threw, broke, goes, ends, Plan, silently, ready, stuck, asks_class, exits, thrown_in, unless_null}
use Rattle.java_rows.specs.Program.{class_at, handlers_of, is_subclass}

-- ---- the end of a frame

-- the frame of a synchronized method leaves the monitor that it entered, whatever its locals are by then
abbrev pub exits_for : ℕ → Plan → Plan → Plan
exits_for monitor k other = if monitor == 0 then k else exits monitor k other

-- one silent step ends the frame, after the exit of its monitor
abbrev pub leaves : Frame → FrameEnd → Plan
leaves f outcome = exits_for f.monitor (silently (ready (ends outcome))) (silently (ready (ends broke)))

abbrev pub returns_long : Frame → List ℕ → Plan
returns_long f (high ∷ low ∷ rest) = leaves f (returned (high ∷ low ∷ []))
returns_long f _ = stuck

abbrev pub returns_word : Frame → List ℕ → Plan
returns_word f (v ∷ rest) = leaves f (returned (v ∷ []))
returns_word f _ = stuck

-- JVMS 6.5 return, ireturn, areturn, lreturn
abbrev pub returns : Frame → Option ValueKind → List ℕ → Plan
returns f None stack = leaves f (returned [])
returns f (Some kinds.Long) stack = returns_long f stack
returns f (Some _) stack = returns_word f stack

-- ---- a thrown object

-- a handler takes an object of a class: all, or those of the class that it names
abbrev pub catches : List ClassUnit → ℕ → ℕ → Handler → Bool
catches us this c h =
    if h.kind == 0 then true else option_map_or (is_subclass us c) (class_at us this h.kind) false

-- it covers the instruction of a number
abbrev pub covers : ℕ → Handler → Bool
covers step h = nat_le h.first step && nat_lt step h.end

-- the first handler of the frame that covers the instruction and takes the object (JVMS 2.10)
abbrev pub handler_for : List ClassUnit → Frame → ℕ → Option Handler
handler_for us f c = find (λ h. covers f.step h && catches us f.method.class c h) (handlers_of us f.method)

-- one silent step enters the handler; with none the frame ends
abbrev pub caught_by : Frame → ℕ → ℕ → Option Handler → Plan
caught_by f r c (Some h) = silently (ready (goes (record f { step = h.entry; task = at_step; stack = r ∷ [] })))
caught_by f r c None = leaves f (threw r c)

abbrev pub looks_for : List ClassUnit → Frame → ℕ → ℕ → Plan
looks_for us f r c = caught_by f r c (handler_for us f c)

-- JVMS 6.5 athrow: the class is kept with the object
abbrev pub throws_it : Frame → List ℕ → Plan
throws_it f (r ∷ rest) = unless_null f r (asks_class r (λ c n. thrown_in f r c))
throws_it f _ = stuck
