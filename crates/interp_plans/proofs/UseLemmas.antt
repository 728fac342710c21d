-- How callers go on.
use Rattle.std.specs.Prelude.{◌≡◌, ℕ, List, refl}
use Rattle.frame_snapshot.specs.declared.stage.Caller.{Caller}
use Rattle.frame_snapshot.specs.declared.stage.Caller.TheVariants.{Instruction, Launch}
use Rattle.java_rows.specs.Plan.{Frame, raises, makes}
use Rattle.interp_plans.specs.Uses.{use_by, thrown_by}

pub raises_by : (f : Frame) (caller : Caller) (rest : List ℕ) (c : ℕ) → raises (use_by f caller rest) c ≡ makes c 0 (λ r. thrown_by f caller r c)
raises_by f Instruction rest c = refl
raises_by f Launch rest c = refl
