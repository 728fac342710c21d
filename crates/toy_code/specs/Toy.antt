-- A toy thread code: the steps of scripts, of which there is one for each object that starts a thread.
use Rattle.std.specs.Prelude.{ℕ, ◌+◌, ◌-◌, ◌==◌, Bool, true, false, ◌&&◌, Option, None, Some, List, [], find, slice_get}
use Rattle.std.specs.Int.{w32, cast_signed}
use Rattle.op_core.specs.declared.Op.{Op}
use Rattle.op_core.specs.declared.Op.TheVariants.{Wait, Rewake, Print, End}
use Rattle.op_core.specs.declared.Line.TheVariants.{Int}
use Rattle.op_core.specs.declared.Reply.{Reply}
use Rattle.op_core.specs.declared.Reply.TheVariants.{Value, Done}
use Rattle.op_core.specs.declared.Next.{Next}
use Rattle.op_core.specs.declared.Next.TheVariants.{Silent, Want}
use Rattle.op_core.specs.ThreadCode.{Code}
use Rattle.toy_code.specs.declared.script.ToyStep.{ToyStep}
use Rattle.toy_code.specs.declared.script.ToyStep.TheVariants.{Pass, Call, Return, Do, Show, WaitOn}
use Rattle.toy_code.specs.declared.script.ToyScript.{ToyScript}
use Rattle.toy_code.specs.declared.script.ToyPlace.{ToyPlace}

-- where a thread is: the scripts of all threads, its own steps, and the place in them
pub record ToyState : Type 0 where
  pub scripts : List ToyScript
  pub steps : List ToyStep
  pub place : ToyPlace

abbrev pub steps_in : Option ToyScript → List ToyStep
steps_in None = []
steps_in (Some script) = script.steps.now

-- the steps of an object's script, none where it has none
abbrev pub steps_of : List ToyScript → ℕ → List ToyStep
steps_of scripts r = steps_in (find (λ script. script.object == r) scripts)

abbrev pub place_of_first : ToyPlace
place_of_first = record { step = 0; frames = 1; value = 0; waits = false }

-- the first state of the thread that an object starts
abbrev pub started : List ToyScript → ℕ → ToyState
started scripts r = record { scripts = scripts; steps = steps_of scripts r; place = place_of_first }

-- what is wanted at the step of a wait: the first half, and once that was done the second
abbrev pub half_of_wait : ℕ → Bool → Op
half_of_wait r false = Wait r
half_of_wait r true = Rewake r

-- what comes next at a step, or after the last one
abbrev pub next_at : Option ToyStep → ToyPlace → Next
next_at None p = Want (End None)
next_at (Some Pass) p = Silent
next_at (Some Call) p = Silent
next_at (Some Return) p = Silent
next_at (Some (Do op)) p = Want op
next_at (Some Show) p = Want (Print (Int (cast_signed w32 p.value)))
next_at (Some (WaitOn r)) p = Want (half_of_wait r p.waits)

abbrev pub frames_behind : Option ToyStep → ℕ → ℕ
frames_behind (Some Call) frames = frames + 1
frames_behind (Some Return) frames = frames - 1
frames_behind _ frames = frames

abbrev pub is_return : Option ToyStep → Bool
is_return (Some Return) = true
is_return _ = false

-- at the next step
abbrev pub place_behind : ToyPlace → ℕ → ℕ → ToyPlace
place_behind p frames value = record { step = p.step + 1; frames = frames; value = value; waits = false }

-- the place after the reply to the first half of a wait, or to the second
abbrev pub waited : Bool → ToyPlace → ToyPlace
waited false p = record p { waits = true }
waited true p = place_behind p p.frames p.value

-- the place after another reply: the next step, with the word that was read, if one was
abbrev pub answered : Reply → ToyPlace → ToyPlace
answered (Value v) p = place_behind p p.frames v
answered _ p = place_behind p p.frames p.value

-- the place after the reply to what is wanted at a step, or after the last one
abbrev pub place_after : Option ToyStep → Reply → ToyPlace → ToyPlace
place_after None reply p = p
place_after (Some (WaitOn r)) Done p = waited p.waits p
place_after (Some step) reply p = answered reply p

-- an object has as many words as its length says
abbrev pub toy_code : Code ToyState
toy_code = record {
  next = λ l. next_at (slice_get l.steps l.place.step) l.place;
  silent = λ l. record l { place = place_behind l.place (frames_behind (slice_get l.steps l.place.step) l.place.frames) l.place.value };
  reply = λ l reply. record l { place = place_after (slice_get l.steps l.place.step) reply l.place };
  frames = λ l. l.place.frames;
  child = λ l r. started l.scripts r;
  words = λ l c n. n;
  leaves = λ save now. is_return (slice_get now.steps now.place.step) && (save.place.frames == now.place.frames);
}
