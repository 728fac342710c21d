-- What holds of the frames of a StackMapTable (JVMS SE 8, 4.7.4).
use Rattle.std.specs.Prelude.{◌≡◌, ℕ, List, Some, slice_get, ◌⊎◌}
use Rattle.class_walk.specs.declared.class.Constant.{Constant}
use Rattle.instructions.specs.declared.what.Instr.{Instr}
use Rattle.instructions.specs.declared.what.Target.{Target}
use Rattle.code_frames.specs.declared.types.VType.{VType}
use Rattle.code_frames.specs.StackMap.{IsItem}

-- a type that a frame spells, or one of those at the method's entry
abbrev pub IsLocal : List Constant → List (Instr Target) → List VType → VType → Type 0
IsLocal pool steps entry v = IsItem pool steps v ⊎ ((n : ℕ) × (slice_get entry n ≡ Some v))
