-- The frame of an instruction.
use Rattle.std.proofs.Common.{◌≡◌, Option, None, Result, Err, sym, ◌∙◌, ap, subst}
use Rattle.type_rules.specs.declared.refusal.VerifyKind.{VerifyKind}
use Rattle.type_rules.specs.TypeFaults.{◌or_else◌}
use Rattle.typing_frames.specs.declared.stop.CheckStop.{CheckStop}
use Rattle.typing_frames.specs.declared.stop.CheckStop.TheVariants.{NoMemory, At}
use Rattle.typing_frames.specs.Told.{Tells}

second : (X Y : Type 0) (a b rest : Option VerifyKind) (e : CheckStop) → a ≡ None → Tells {X = X} (Err e) b → Tells {X = Y} (Err e) (a or_else (b or_else rest))
second X Y a b rest NoMemory none told = tt
second X Y a b rest (At kind) none told = ap (λ x. x or_else (b or_else rest)) none ∙ ap (λ x. x or_else rest) told

-- the second of two rules is broken
pub second_broken : (X Y : Type 0) (a b rest : Option VerifyKind) (r : Result Y CheckStop) (e : CheckStop) → r ≡ Err e → a ≡ None → Tells {X = X} (Err e) b → Tells r (a or_else (b or_else rest))
second_broken X Y a b rest r e is none told = subst (λ x. Tells {X = Y} x (a or_else (b or_else rest))) (sym is) (second X Y a b rest e none told)
