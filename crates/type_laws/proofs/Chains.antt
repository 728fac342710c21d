-- Rules one after another.
use Rattle.std.proofs.Common.{◌≡◌, Bool, true, false, Option, None, Some, refl, sym}
use Rattle.std.proofs.lemmas.Option.{none-some}
use Rattle.type_rules.specs.declared.refusal.VerifyKind.{VerifyKind}
use Rattle.type_rules.specs.TypeFaults.{◌or_else◌, unless}

-- where no rule fails none of the first ones fails, and none of the second ones
pub none_of : (a b : Option VerifyKind) → (a or_else b) ≡ None → (a ≡ None) × (b ≡ None)
none_of None b e = (refl, e)
none_of (Some kind) b e = absurd (none-some kind (sym e))

pub holds : (test : Bool) (kind : VerifyKind) → unless test kind ≡ None → test ≡ true
holds true kind e = refl
holds false kind e = absurd (none-some kind (sym e))
