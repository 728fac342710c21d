-- What an answer of the type checker says of its rules.
use Rattle.std.specs.Prelude.{◌≡◌, Option, Some, None, Result, Ok, Err}
use Rattle.type_rules.specs.declared.refusal.VerifyKind.{VerifyKind}
use Rattle.typing_frames.specs.declared.stop.CheckStop.{CheckStop}
use Rattle.typing_frames.specs.declared.stop.CheckStop.TheVariants.{NoMemory, At}

-- the first rule that is broken, or that none is; nothing where there is no memory
abbrev pub Tells : {X : Type 0} → Result X CheckStop → Option VerifyKind → Type 0
Tells (Ok x) fault = fault ≡ None
Tells (Err NoMemory) fault = Unit {0}
Tells (Err (At kind)) fault = fault ≡ Some kind
