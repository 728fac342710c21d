-- What is answered for a reason other than memory is what the rules refuse.
use Rattle.std.proofs.Common.{◌≡◌, ◌⊎◌, inl, inr, sym, subst, ◌∙◌}
use Rattle.rules.specs.Rules.{Rules}
use Rattle.program_accept.specs.declared.refusal.AcceptRefusal.{AcceptRefusal}
use Rattle.program_accept.specs.declared.refusal.AcceptRefusal.TheVariants.{NoMemory}

pub refuses : (rules : Rules AcceptRefusal) (e known : AcceptRefusal) → (e ≡ NoMemory) ⊎ rules.Refuse e → e ≡ known → (known ≡ NoMemory → ⊥) → rules.Refuse known
refuses rules e known (inl memory) is other = absurd (other (sym is ∙ memory))
refuses rules e known (inr refused) is other = subst rules.Refuse is refused
