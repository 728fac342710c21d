-- What holds of the code of a method that was accepted (JVMS SE 8, 4.7.3, 4.7.4 and 4.9.1).
use Rattle.std.specs.Prelude.{◌≡◌, ℕ, ◌+◌, ◌≤◌, List, length, take, Some, slice_get}
use Rattle.std.specs.List.{AllByRecursion}
use Rattle.class_walk.specs.declared.class.Constant.{Constant}
use Rattle.class_walk.specs.Layout.{IsCounted}
use Rattle.class_read.specs.Sound.{Each}
use Rattle.instructions.specs.declared.what.Instr.{Instr}
use Rattle.instructions.specs.declared.what.Target.{Target}
use Rattle.instructions.specs.Steps.{number_at}
use Rattle.instructions.specs.What.{targets_of}
use Rattle.code_frames.specs.declared.types.VType.{VType}
use Rattle.code_frames.specs.Locals.{locals_after}
use Rattle.code_frames.specs.StackMap.{IsItem}
use Rattle.code_decode.specs.declared.code.Code.{Code}
use Rattle.code_laws.specs.Frames.{IsLocal}
use Rattle.code_laws.specs.Handlers.{IsHandlerInside}
use Rattle.code_laws.specs.Steps.{StandsAt, NamesRightly, LeadsInside}

-- the code of a method that begins with `entry` values
pub record IsRightCode (pool : List Constant) (entry : ℕ) (code : Code) : Type 0 where
  pub begins : StandsAt code.steps 0 0
  pub few : length code.steps ≤ 65535
  pub numbers : Each (λ k i. number_at code.steps i.at ≡ Some k) code.steps
  pub order : Each (λ k i. (l : Instr Target) → slice_get code.steps (k + 1) ≡ Some l → l.at ≡ i.next) code.steps
  pub names : Each (λ k i. NamesRightly pool i.what) code.steps
  pub targets : Each (λ k i. AllByRecursion (LeadsInside code.steps) (targets_of i.what)) code.steps
  pub handlers : Each (λ k h. IsHandlerInside pool code.steps h) code.handlers
  pub frames : Each (λ k f. StandsAt code.steps f.step f.at) code.frames
  pub stacks : Each (λ k f. IsCounted (IsItem pool code.steps) f.stack) code.frames
  pub locals : (types : List VType) → length types ≡ entry → (k : ℕ) → AllByRecursion (IsLocal pool code.steps types) (locals_after types (take k code.frames))
