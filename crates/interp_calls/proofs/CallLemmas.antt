-- The frames of methods that are called.
use Rattle.std.proofs.Common.{◌≡◌, ◌≤◌, ◌-◌, ℕ, Bool, true, false, Option, None, Some, List, [], ◌++◌, take, length, replicate, reverse, refl, ap, ◌∙◌, arith, option_map}
use Rattle.std.proofs.lemmas.List.{length-reverse, length-take}
use Rattle.std.specs.Prelude.{nat_le, option_and_then, if◌then◌else◌}
use Rattle.code_decode.specs.declared.code.ClassUnit.{ClassUnit}
use Rattle.code_decode.specs.declared.code.Code.{Code}
use Rattle.link_types.specs.declared.operands.MethodId.{MethodId}
use Rattle.link_rules.specs.Methods.{method_code}
use Rattle.java_rows.specs.Plan.{Frame, at_step, stuck}
use Rattle.java_rows.specs.Thread.{first_frame, frame_of_code, begun, begun_first}
use Rattle.interp_calls.specs.Local.{room_for, room_in}

-- the frame of a method with room for `room.0` words of locals and `room.1` words of stack
abbrev first : MethodId → List ℕ → ℕ → ℕ × ℕ → Frame
first id args monitor room = record {
  method = id;
  step = 0;
  task = at_step;
  locals = args ++ replicate (room.0 - length args) 0;
  stack = [];
  room = room.1;
  monitor = monitor;
}

of_code : (id : MethodId) (args : List ℕ) (monitor : ℕ) (c : Code) (fits : Bool) →
    (if fits then Some (first id args monitor (c.max_locals, c.max_stack)) else None)
    ≡ option_map (first id args monitor) (if fits then Some (c.max_locals, c.max_stack) else None)
of_code id args monitor c true = refl
of_code id args monitor c false = refl

of_method : (id : MethodId) (args : List ℕ) (monitor : ℕ) (o : Option Code)
    → option_and_then (frame_of_code id args monitor) o ≡ option_map (first id args monitor) (option_and_then (room_in (length args)) o)
of_method id args monitor None = refl
of_method id args monitor (Some c) = of_code id args monitor c (nat_le (length args) c.max_locals)

first_of_room : (us : List ClassUnit) (id : MethodId) (args : List ℕ) (n monitor : ℕ) → length args ≡ n
    → first_frame us id args monitor ≡ option_map (first id args monitor) (room_for us id n)
first_of_room us id args n monitor is = of_method id args monitor (method_code us id)
    ∙ ap (λ k. option_map (first id args monitor) (room_for us id k)) is

arguments_are : (s : List ℕ) (n : ℕ) → n ≤ length s → length (reverse (take n s)) ≡ n
arguments_are s n within = length-reverse (take n s) ∙ length-take n s ∙ omega (arith, within)

-- a method that has room for its arguments
pub first_is : (us : List ClassUnit) (me : ℕ) (id : MethodId) (s : List ℕ) (n monitor l m : ℕ) → n ≤ length s → room_for us id n ≡ Some (l, m)
    → begun_first us me (first_frame us id (reverse (take n s)) monitor) ≡ begun us me (record {
      method = id;
      step = 0;
      task = at_step;
      locals = reverse (take n s) ++ replicate (l - n) 0;
      stack = [];
      room = m;
      monitor = monitor;
    })
first_is us me id s n monitor l m within has =
    ap (begun_first us me) (first_of_room us id (reverse (take n s)) n monitor (arguments_are s n within))
    ∙ ap (λ o. begun_first us me (option_map (first id (reverse (take n s)) monitor) o)) has
    ∙ ap (λ k. begun us me (record {
      method = id;
      step = 0;
      task = at_step;
      locals = reverse (take n s) ++ replicate (l - k) 0;
      stack = [];
      room = m;
      monitor = monitor;
    })) (arguments_are s n within)

pub first_none : (us : List ClassUnit) (me : ℕ) (id : MethodId) (s : List ℕ) (n monitor : ℕ) → n ≤ length s → room_for us id n ≡ None
    → begun_first us me (first_frame us id (reverse (take n s)) monitor) ≡ stuck
first_none us me id s n monitor within lacks =
    ap (begun_first us me) (first_of_room us id (reverse (take n s)) n monitor (arguments_are s n within))
    ∙ ap (λ o. begun_first us me (option_map (first id (reverse (take n s)) monitor) o)) lacks
