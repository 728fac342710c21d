-- What an answer says about rules that come one after the other.
use Rattle.std.proofs.Common.{◌≡◌, Option, None, Result, Err, sym, ap, subst}
use Rattle.type_rules.specs.declared.refusal.VerifyKind.{VerifyKind}
use Rattle.type_rules.specs.TypeFaults.{◌or_else◌}
use Rattle.typing_frames.specs.declared.stop.CheckStop.{CheckStop}
use Rattle.typing_frames.specs.declared.stop.CheckStop.TheVariants.{NoMemory, At}
use Rattle.typing_frames.specs.Told.{Tells}

-- none is broken before
pub behind_none : {X : Type 0} (r : Result X CheckStop) (a b : Option VerifyKind) → a ≡ None → Tells r b → Tells r (a or_else b)
behind_none r a b none told = subst (λ x. Tells r (x or_else b)) (sym none) told

broken : (X Y : Type 0) (a rest : Option VerifyKind) (e : CheckStop) → Tells {X = X} (Err e) a → Tells {X = Y} (Err e) (a or_else rest)
broken X Y a rest NoMemory told = tt
broken X Y a rest (At kind) told = ap (λ x. x or_else rest) told

-- the first one is broken
pub first_broken : (X Y : Type 0) (a rest : Option VerifyKind) (r : Result Y CheckStop) (e : CheckStop) → r ≡ Err e → Tells {X = X} (Err e) a → Tells r (a or_else rest)
first_broken X Y a rest r e is told = subst (λ x. Tells {X = Y} x (a or_else rest)) (sym is) (broken X Y a rest e told)

alike : (X Y : Type 0) (a : Option VerifyKind) (e : CheckStop) → Tells {X = X} (Err e) a → Tells {X = Y} (Err e) a
alike X Y a NoMemory told = tt
alike X Y a (At kind) told = told

-- it is the only one
pub only_broken : (X Y : Type 0) (a : Option VerifyKind) (r : Result Y CheckStop) (e : CheckStop) → r ≡ Err e → Tells {X = X} (Err e) a → Tells r a
only_broken X Y a r e is told = subst (λ x. Tells {X = Y} x a) (sym is) (alike X Y a e told)
