-- Programs that keep the rules, and rules that are broken.
use Rattle.std.proofs.Common.{◌≡◌, ◌≢◌, ◌<◌, ℕ, zero, suc, ◌+◌, false, List, [], ◌∷◌, take, flat_map, Contains, Some, slice_get, inl, inr, refl, sym, subst, ◌∙◌, arith}
use Rattle.std.specs.List.{AllByRecursion}
use Rattle.std.proofs.lemmas.Bool.{true≢false}
use Rattle.std.proofs.lemmas.Option.{none-some, same_Some}
use Rattle.std.proofs.lemmas.List.Elements.{All-nil, All-same}
use Rattle.rules.specs.Rules.{Rules, each}
use Rattle.rules.proofs.RuleLaws.{one_holds}
use Rattle.builtin_world.specs.Library.{library}
use Rattle.class_names.specs.Reading.{kind_at, base_at}
use Rattle.code_decode.specs.declared.code.ClassUnit.{ClassUnit}
use Rattle.link_types.specs.declared.refusal.LinkRefusal.TheVariants.{At}
use Rattle.link_types.specs.declared.refusal.LinkKind.TheVariants.{Twice, Missing}
use Rattle.access_flags.specs.declared.TheConstants.{PUBLIC, FINAL, INTERFACE}
use Rattle.link_rules.specs.Classes.{classes_of, superclass_of, interfaces_of, class_of_unit, class_has, class_number}
use Rattle.link_rules.specs.Supers.{HasSuper, IsWayUp, IsAbove, superclasses, superinterfaces, method_order}
use Rattle.link_rules.specs.LinkRules.{link_rules, abstract_methods, IsImplemented, IsPublicWhereImplemented, declared_field_rules, members_rules, supers_rules, implementation_rules, twice_rules, uses_rules}
use Rattle.link_examples.specs.Programs.{mixed, mixed_unit, orphan}

none_hold : {E X : Type 0} (rules : ℕ → X → Rules E) → (each rules []).Hold
none_hold rules i x e = absurd (none-some x e)

cons_hold : {E X : Type 0} (rules : ℕ → X → Rules E) (x : X) (xs : List X) → (rules 0 x).Hold → ((i : ℕ) (y : X) → slice_get xs i ≡ Some y → (rules (suc i) y).Hold) → (each rules (x ∷ xs)).Hold
cons_hold {X = X} rules x xs first others zero y e = subst (λ (z : X). (rules 0 z).Hold) (same_Some x y e) first
cons_hold rules x xs first others (suc i) y e = others i y e

by_recursion : {E X : Type 0} (rules : X → Rules E) (xs : List X) → AllByRecursion (λ x. (rules x).Hold) xs → (each (λ i x. rules x) xs).Hold
by_recursion rules [] all i x e = absurd (none-some x e)
by_recursion {X = X} rules (x ∷ xs) all zero y e = subst (λ (z : X). (rules z).Hold) (same_Some x y e) all.0
by_recursion rules (x ∷ xs) all (suc i) y e = by_recursion rules xs all.1 i y e

pub nothing_linked : (link_rules []).Hold
nothing_linked =
    (omega arith, (λ i x e. absurd (none-some x e), (λ i x e. absurd (none-some x e), (λ i x e. absurd (none-some x e), (λ i x e. absurd (none-some x e), λ i x e. absurd (none-some x e))))))

-- ---- the program of one class

one_super : (c s d : ℕ) → superclass_of (classes_of mixed) c ≡ s → interfaces_of (classes_of mixed) c ≡ [] → HasSuper (classes_of mixed) c d → d ≡ s
one_super c s d super none h =
    elim h.1 [
      | inl e ↦ sym e ∙ super
      | inr i ↦ absurd (let k : Contains [] d = subst (λ xs. Contains xs d) none i in let lt : k.0 < 0 = k.1 in omega arith)
    ]

mixed_super : superclass_of (classes_of mixed) 29 ≡ 8
unfolding library
mixed_super = refl

mixed_interfaces : interfaces_of (classes_of mixed) 29 ≡ []
unfolding library
mixed_interfaces = refl

throwable_super : superclass_of (classes_of mixed) 8 ≡ 1
unfolding library
throwable_super = refl

throwable_interfaces : interfaces_of (classes_of mixed) 8 ≡ []
unfolding library
throwable_interfaces = refl

object_super : superclass_of (classes_of mixed) 1 ≡ 0
unfolding library
object_super = refl

object_interfaces : interfaces_of (classes_of mixed) 1 ≡ []
unfolding library
object_interfaces = refl

nothing_above_object : (way : List ℕ) (d : ℕ) → IsWayUp (classes_of mixed) 1 way d → ⊥
nothing_above_object [] d h = h.0 (one_super 1 0 d object_super object_interfaces h)
nothing_above_object (e ∷ way) d h = h.0.0 (one_super 1 0 e object_super object_interfaces h.0)

from_throwable : (way : List ℕ) (d : ℕ) → IsWayUp (classes_of mixed) 8 way d → d ≡ 1
from_throwable [] d h = one_super 8 1 d throwable_super throwable_interfaces h
from_throwable (e ∷ way) d h = absurd (nothing_above_object way d (subst (λ x. IsWayUp (classes_of mixed) x way d) (one_super 8 1 e throwable_super throwable_interfaces h.0) h.1))

no_cycle : ¬ IsAbove (classes_of mixed) 29 29
no_cycle a = go a.0 29 refl a.1
  where
    go : (way : List ℕ) (d : ℕ) → d ≡ 29 → IsWayUp (classes_of mixed) 29 way d → ⊥
    go [] d same h = (let other : d ≡ 8 = one_super 29 8 d mixed_super mixed_interfaces h in omega arith)
    go (e ∷ way) d same h =
        let next : IsWayUp (classes_of mixed) 8 way d = subst (λ x. IsWayUp (classes_of mixed) x way d) (one_super 29 8 e mixed_super mixed_interfaces h.0) h.1 in
        let top : d ≡ 1 = from_throwable way d next in
        omega arith

not_zero : (n m : ℕ) → n ≡ suc m → n ≢ 0
not_zero n m e z = omega (arith, e, z)

twice : (twice_rules (classes_of mixed) 0 (class_of_unit mixed_unit)).Hold
unfolding library
twice = refl

is_class : (class_has (classes_of mixed) 8 INTERFACE ≡ false) × (class_has (classes_of mixed) 8 FINAL ≡ false)
unfolding library
is_class = (refl, refl)

supers : (supers_rules (classes_of mixed) 0 mixed_unit).Hold
supers = (
  not_zero _ 7 mixed_super,
  (
    (λ i x e. absurd (none-some x e)),
    (
      (subst (λ c. class_has (classes_of mixed) c INTERFACE ≡ false) (sym mixed_super) is_class.0, λ e. absurd (true≢false (sym e))),
      (
        (λ i x e. absurd (none-some x e)),
        (subst (λ c. class_has (classes_of mixed) c FINAL ≡ false) (sym mixed_super) is_class.1, no_cycle),
      ),
    ),
  ),
)

members : (members_rules (classes_of mixed) 0 (class_of_unit mixed_unit)).Hold
unfolding kind_at base_at
members = (
  by_recursion (declared_field_rules (classes_of mixed) 0) (class_of_unit mixed_unit).fields
      ((refl, refl), ((refl, refl), ((refl, refl), ((refl, refl), ((refl, refl), tt))))),
  λ i x e. absurd (none-some x e),
)

nothing_abstract : (abstract_methods (classes_of mixed) 0 (method_order (classes_of mixed) 29) ≡ []) × (abstract_methods (classes_of mixed) 0 (flat_map (superinterfaces (classes_of mixed)) (superclasses (classes_of mixed) 29)) ≡ [])
unfolding library
nothing_abstract = (refl, refl)

implementations : (implementation_rules (classes_of mixed) 0 PUBLIC).Hold
implementations = (
  (λ e. All-same (IsImplemented (classes_of mixed) 0) (abstract_methods (classes_of mixed) 0 (method_order (classes_of mixed) 29)) [] nothing_abstract.0 (All-nil (IsImplemented (classes_of mixed) 0))),
  All-same (IsPublicWhereImplemented (classes_of mixed) 0) (abstract_methods (classes_of mixed) 0 (flat_map (superinterfaces (classes_of mixed)) (superclasses (classes_of mixed) 29))) [] nothing_abstract.1 (All-nil (IsPublicWhereImplemented (classes_of mixed) 0)),
)

pub mixed_linked : (link_rules mixed).Hold
mixed_linked = (
  omega arith,
  (
    one_holds (λ k u. twice_rules (classes_of mixed) k (class_of_unit u)) mixed_unit twice,
    (
      one_holds (supers_rules (classes_of mixed)) mixed_unit supers,
      (
        one_holds (λ k u. members_rules (classes_of mixed) k (class_of_unit u)) mixed_unit members,
        (
          one_holds (λ k u. implementation_rules (classes_of mixed) k u.file.flags) mixed_unit implementations,
          one_holds (uses_rules (classes_of mixed)) mixed_unit (λ i x e. absurd (none-some x e)),
        ),
      ),
    ),
  ),
)

-- ---- refusals

doubled : List ClassUnit
doubled = orphan ∷ mixed_unit ∷ mixed_unit ∷ []

first_two : (i : ℕ) (u : ClassUnit) → i < 2 → slice_get doubled i ≡ Some u → (twice_rules (classes_of doubled) i (class_of_unit u)).Hold
unfolding library doubled
first_two zero u less e = subst (λ (x : ClassUnit). (twice_rules (classes_of (orphan ∷ mixed_unit ∷ mixed_unit ∷ [])) 0 (class_of_unit x)).Hold) (same_Some orphan u e) refl
first_two (suc zero) u less e = subst (λ (x : ClassUnit). (twice_rules (classes_of (orphan ∷ mixed_unit ∷ mixed_unit ∷ [])) 1 (class_of_unit x)).Hold) (same_Some mixed_unit u e) refl
first_two (suc (suc i)) u less e = absurd (omega arith)

third : class_number (take (28 + 2) (classes_of doubled)) (class_of_unit mixed_unit).name ≡ 30
unfolding library doubled
third = refl

pub twice_refused : (link_rules (orphan ∷ mixed_unit ∷ mixed_unit ∷ [])).Refuse (At Twice 2 0)
unfolding doubled
twice_refused = inr (omega arith, inl (2, mixed_unit, refl, first_two, (not_zero_30, refl)))
  where
    not_zero_30 : ¬ (class_number (take (28 + 2) (classes_of (orphan ∷ mixed_unit ∷ mixed_unit ∷ []))) (class_of_unit mixed_unit).name ≡ 0)
    not_zero_30 = not_zero _ 29 third

two : List ClassUnit
two = orphan ∷ mixed_unit ∷ []

named_once : (i : ℕ) (u : ClassUnit) → slice_get two i ≡ Some u → (twice_rules (classes_of two) i (class_of_unit u)).Hold
unfolding library two
named_once zero u e = subst (λ (x : ClassUnit). (twice_rules (classes_of (orphan ∷ mixed_unit ∷ [])) 0 (class_of_unit x)).Hold) (same_Some orphan u e) refl
named_once (suc zero) u e = subst (λ (x : ClassUnit). (twice_rules (classes_of (orphan ∷ mixed_unit ∷ [])) 1 (class_of_unit x)).Hold) (same_Some mixed_unit u e) refl
named_once (suc (suc i)) u e = absurd (none-some u e)

no_super : superclass_of (classes_of two) 29 ≡ 0
unfolding library two
no_super = refl

pub missing_refused : (link_rules (orphan ∷ mixed_unit ∷ [])).Refuse (At Missing 0 4)
unfolding two
missing_refused = inr (omega arith, inr (named_once, inl (0, orphan, refl, (λ i x less e. absurd (omega arith)), inl ((λ there. there no_super), refl))))
