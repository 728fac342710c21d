-- The groups of rules, one after the other.
use Rattle.std.proofs.Common.{◌≡◌, inl, inr, List, Result, Ok, Err, subst}
use Rattle.std.specs.Bool.{⊤}
use Rattle.rules.specs.Rules.{Rules, ◌then◌}
use Rattle.code_decode.specs.declared.code.ClassUnit.{ClassUnit}
use Rattle.link_types.specs.declared.refusal.LinkRefusal.{LinkRefusal}
use Rattle.link_rules.specs.LinkRules.{hierarchy_rules, link_rules}
use Rattle.class_supers.specs.Answers.{Refuses, Gives}
use Rattle.link_check.specs.Groups.{member_groups}

-- what rules refuse, those refuse that they begin
pub first_refuses : (a b : Rules LinkRefusal) (e : LinkRefusal) → Refuses e a → Refuses e (a then b)
first_refuses a b e refused = elim refused [ inl none ↦ inl none | inr broken ↦ inr (inl broken) ]

pub then_refuses : (a b : Rules LinkRefusal) (e : LinkRefusal) → a.Hold → Refuses e b → Refuses e (a then b)
then_refuses a b e holds refused = elim refused [ inl none ↦ inl none | inr broken ↦ inr (inr (holds, broken)) ]

-- those of what lies above classes
pub above_refuses : (us : List ClassUnit) (e : LinkRefusal) → Refuses e (hierarchy_rules us) → Refuses e (link_rules us)
above_refuses us e refused = elim refused [
  | inl none ↦ inl none
  | inr (inl few) ↦ inr (inl few)
  | inr (inr (few, inl twice)) ↦ inr (inr (few, inl twice))
  | inr (inr (few, inr (once, above))) ↦ inr (inr (few, inr (once, inl above)))
]

pub groups_refuse : (us : List ClassUnit) (e : LinkRefusal) → (hierarchy_rules us).Hold → Refuses e (member_groups us) → Refuses e (link_rules us)
groups_refuse us e above refused = elim refused [
  | inl none ↦ inl none
  | inr broken ↦ inr (inr (above.0, inr (above.1.0, inr (above.1.1, broken))))
]

pub groups_hold : (us : List ClassUnit) → (hierarchy_rules us).Hold → (member_groups us).Hold → (link_rules us).Hold
groups_hold us above groups = (above.0, (above.1.0, (above.1.1, groups)))

-- an answer by the rules after those of what lies above classes is an answer by all rules
pub all_given : {X : Type 0} (us : List ClassUnit) (Is : X → Type 0) (r : Result X LinkRefusal) → (hierarchy_rules us).Hold → Gives r (member_groups us) Is → Gives r (link_rules us) Is
all_given us Is (Ok x) above given = (groups_hold us above given.0, given.1)
all_given us Is (Err e) above refused = groups_refuse us e above refused

-- what is given for files is given for the same files
pub given_for : {X : Type 0} (us vs : List ClassUnit) (Is : List ClassUnit → X → Type 0) (r : Result X LinkRefusal) → us ≡ vs → Gives r (member_groups us) (Is us) → Gives r (member_groups vs) (Is vs)
given_for us vs Is r same given = subst (λ ws. Gives r (member_groups ws) (Is ws)) same given

-- an answer without a value, by the rules of the same files
pub ok_given : (us vs : List ClassUnit) (r : Result (Unit {0}) LinkRefusal) (x : Unit {0}) → us ≡ vs → r ≡ Ok x → Gives r (member_groups us) (λ none. ⊤) → (member_groups vs).Hold
ok_given us vs r x same is given = (subst (λ s. Gives s (member_groups vs) (λ none. ⊤)) is (given_for us vs (λ ws none. ⊤) r same given)).0

pub err_given : (us vs : List ClassUnit) (r : Result (Unit {0}) LinkRefusal) (e : LinkRefusal) → us ≡ vs → r ≡ Err e → Gives r (member_groups us) (λ none. ⊤) → Refuses e (member_groups vs)
err_given us vs r e same is given = subst (λ s. Gives s (member_groups vs) (λ none. ⊤)) is (given_for us vs (λ ws none. ⊤) r same given)
