-- What a function refuses by the rules of linking, where memory may run out.
use Rattle.std.proofs.Common.{◌≡◌, ℕ, ◌≤◌, List, length, Some, slice_get, subst, Result, Ok, Err, inl, inr}
use Rattle.rules.specs.Rules.{Rules, HoldBelow, each, ◌then◌}
use Rattle.rules.proofs.SharpLaws.{IsSharp, sharp_must, sharp_then, sharp_each}
use Rattle.code_decode.specs.declared.code.ClassUnit.{ClassUnit}
use Rattle.link_types.specs.declared.refusal.LinkRefusal.TheVariants.{At}
use Rattle.link_types.specs.declared.refusal.LinkKind.TheVariants.{TooMany}
use Rattle.link_rules.specs.Classes.{classes_of, class_of_unit}
use Rattle.link_rules.specs.LinkRules.{count_rules, twice_rules, supers_rules, all_twice_rules, all_supers_rules, hierarchy_rules}
use Rattle.link_rules.proofs.Sharp.{sharp_supers}
use Rattle.link_types.specs.declared.refusal.LinkRefusal.{LinkRefusal}
use Rattle.class_supers.specs.Answers.{Refuses, Gives, KeepsExactly, IsRefused}

pub refuses_at : {X : Type 0} (rules : ℕ → X → Rules LinkRefusal) (xs : List X) (i : ℕ) (x : X) (e : LinkRefusal) → slice_get xs i ≡ Some x → HoldBelow rules xs i → Refuses e (rules i x) → Refuses e (each rules xs)
refuses_at rules xs i x e at below refused =
    elim refused [
      | inl no_memory ↦ inl no_memory
      | inr broken ↦ inr (i, x, at, below, broken)
    ]

-- rules that are the same at each item
pub each_as : {X T : Type 0} (rules same : ℕ → X → Rules LinkRefusal) (xs : List X) (r : Result T LinkRefusal)
    → ((i : ℕ) (x : X) → slice_get xs i ≡ Some x → rules i x ≡ same i x) → KeepsExactly r (each rules xs) → KeepsExactly r (each same xs)
each_as {X} rules same xs (Ok t) is holds =
    let Hold : Rules LinkRefusal → Type 0 = λ r. r.Hold in
    λ i x at. subst Hold (is i x at) (holds i x at)
each_as {X} rules same xs (Err e) is broken =
    let Hold : Rules LinkRefusal → Type 0 = λ r. r.Hold in
    let Refuse : Rules LinkRefusal → Type 0 = λ r. r.Refuse e in (
      broken.0,
      broken.1,
      broken.2,
      λ i x lt at. subst Hold (is i x at) (broken.3 i x lt at),
      subst Refuse (is broken.0 broken.1 broken.2) broken.4,
    )

-- what rules refuse that refuse one thing at most

pub broken_is_refused : {X : Type 0} (rules : Rules LinkRefusal) → IsSharp rules → (Is : X → Type 0) (r : Result X LinkRefusal) → Gives r rules Is → (e : LinkRefusal) → rules.Refuse e → IsRefused r e
broken_is_refused rules sharp Is (Ok x) g e broken = sharp.apart e g.0 broken
broken_is_refused rules sharp Is (Err d) g e broken = elim g [
  | inl no_memory ↦ inl no_memory
  | inr its ↦ inr (sharp.one d e its broken)
]

pub sharp_hierarchy : (us : List ClassUnit) → IsSharp (hierarchy_rules us)
sharp_hierarchy us =
    sharp_then (count_rules us) (all_twice_rules (classes_of us) us then all_supers_rules (classes_of us) us) (sharp_must (length us ≤ 1024) (At TooMany 1024 0))
    (sharp_then (all_twice_rules (classes_of us) us) (all_supers_rules (classes_of us) us)
    (sharp_each (λ k u. twice_rules (classes_of us) k (class_of_unit u)) us (λ k u. sharp_must _ _))
    (sharp_each (supers_rules (classes_of us)) us (λ k u. sharp_supers (classes_of us) k u)))

-- rules that come after others that hold
pub keeps_behind : {T : Type 0} (first rest : Rules LinkRefusal) (r : Result T LinkRefusal) → first.Hold → KeepsExactly r rest → KeepsExactly r (first then rest)
keeps_behind first rest (Ok x) holds keeps = (holds, keeps)
keeps_behind first rest (Err e) holds keeps = inr (holds, keeps)
