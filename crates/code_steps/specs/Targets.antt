-- Targets by their offsets, as instructions.
use Rattle.std.specs.Prelude.{ℕ, ℤ, pos, negsuc, ◌==◌, List, [], ◌∷◌, Option, Some, None, option_map, option_and_then, Result, Ok, Err}
use Rattle.std.specs.List.{position_from}
use Rattle.instructions.specs.declared.what.Case.{Case}
use Rattle.instructions.specs.declared.what.Instr.{Instr}
use Rattle.instructions.specs.declared.what.Target.{Target}
use Rattle.instructions.specs.declared.what.What.{What}
use Rattle.instructions.specs.declared.what.What.TheVariants.{Plain, Int, Long, Constant as Loaded, LongConstant, Local, Increment, Branch, TableSwitch, LookupSwitch, Field, Call, InterfaceCall, Class, NewArray}
use Rattle.code_steps.specs.declared.fault.StepFault.{StepFault}
use Rattle.code_steps.specs.declared.fault.StepFault.TheVariants as faults
use Rattle.class_walk.specs.Reading.{◌>>=◌}

-- the instruction at an offset, where these are the offsets of the instructions
abbrev pub target_of : List ℕ → ℤ → Option Target
target_of offsets (pos at) = option_map (λ step. record { at = at; step = step }) (position_from (λ o. o == at) 0 offsets)
target_of offsets (negsuc n) = None

-- what a function gives for each item, where it gives something for all of them
unfoldable pub all_of : {A B : Type 0} → (A → Option B) → List A → Option (List B)
all_of f [] = Some []
all_of f (x ∷ xs) = option_and_then (λ y. option_map (λ ys. y ∷ ys) (all_of f xs)) (f x)

abbrev pub case_of : {A B : Type 0} → (A → Option B) → Case A → Option (Case B)
case_of f c = option_map (λ target. record { key = c.key; target = target }) (f c.target)

-- an instruction whose targets are what the function gives for them
unfoldable pub what_of : {A B : Type 0} → (A → Option B) → What A → Option (What B)
what_of f (Plain plain) = Some (Plain plain)
what_of f (Int n) = Some (Int n)
what_of f (Long n) = Some (Long n)
what_of f (Loaded index) = Some (Loaded index)
what_of f (LongConstant index) = Some (LongConstant index)
what_of f (Local access local) = Some (Local access local)
what_of f (Increment local by) = Some (Increment local by)
what_of f (Branch test target) = option_map (λ t. Branch test t) (f target)
what_of f (TableSwitch default low targets) = option_and_then (λ d. option_map (λ ts. TableSwitch d low ts) (all_of f targets)) (f default)
what_of f (LookupSwitch default cases) = option_and_then (λ d. option_map (λ cs. LookupSwitch d cs) (all_of (case_of f) cases)) (f default)
what_of f (Field access index) = Some (Field access index)
what_of f (Call call index) = Some (Call call index)
what_of f (InterfaceCall index) = Some (InterfaceCall index)
what_of f (Class purpose index) = Some (Class purpose index)
what_of f (NewArray element) = Some (NewArray element)

abbrev pub placed : Instr ℤ → Option (What Target) → Result (Instr Target) StepFault
placed i None = Err (faults.Target i.at)
placed i (Some what) = Ok (record { at = i.at; next = i.next; what = what })

abbrev pub step_of : List ℕ → Instr ℤ → Result (Instr Target) StepFault
step_of offsets i = placed i (what_of (target_of offsets) i.what)

-- the instructions with their targets, or the first one with a target that is no instruction's offset
unfoldable pub steps_of : List ℕ → List (Instr ℤ) → Result (List (Instr Target)) StepFault
steps_of offsets [] = Ok []
steps_of offsets (i ∷ others) = do
  first ← step_of offsets i
  steps ← steps_of offsets others
  Ok (first ∷ steps)
