-- The rules of abstract methods by tests.
use Rattle.std.proofs.Common.{◌≡◌, ℕ, ◌+◌, ◌<◌, ◌≤◌, ◌||◌, ◌&&◌, not, Bool, true, false, List, All, Option, None, Some, flat_map, inl, inr, refl, sym, ◌∙◌, ap, true≢false, length, arith, Result}
use Rattle.std.specs.List.{list_any}
use Rattle.std.specs.Option.{IfSome, IsSomeAnd, option_map}
use Rattle.std.specs.Bool.{IsTrue}
use Rattle.access_flags.specs.declared.TheConstants.{ABSTRACT, PUBLIC}
use Rattle.access_flags.specs.Flags.{has}
use Rattle.rules.proofs.SharpLaws.{sharp_must, sharp_then, sharp_each}
use Rattle.code_decode.specs.declared.code.ClassUnit.{ClassUnit}
use Rattle.class_supers.specs.Answers.{Gives, IsRefused}
use Rattle.class_supers.proofs.RuleLaws.{broken_is_refused}
use Rattle.link_types.specs.declared.refusal.LinkRefusal.{LinkRefusal}
use Rattle.link_types.specs.declared.refusal.LinkRefusal.TheVariants.{At}
use Rattle.link_types.specs.declared.refusal.LinkKind.TheVariants as kinds
use Rattle.link_rules.specs.Classes.{NamedClass, classes_of, methods_of, number_of_file}
use Rattle.link_rules.specs.Members.{Declared, selected, signature_of}
use Rattle.link_rules.specs.Supers.{method_order, superclasses, superinterfaces}
use Rattle.link_rules.specs.LinkRules.{IsImplemented, IsPublicWhereImplemented, abstract_methods, implementation_rules}
use Rattle.link_members.specs.Members.{answers}
use Rattle.link_members.specs.declared.implementations.Asked.{Asked}
use Rattle.link_members.specs.declared.implementations.Asked.TheVariants.{Implemented, Public}
use Rattle.link_implementations.specs.Implementations.{all_implementation_rules, is_abstract, is_open, leaves_open}
use Rattle.search_orders.specs.Orders.{without_repeats}
use Rattle.link_rules.proofs.Numbers.{class_count_is}
use Rattle.link_implementations.proofs.TestLaws.{any_once, any_of_each, all_where_none, none_where_all}

abbrev flags_of : Declared → ℕ
flags_of d = d.member.flags

-- ---- what is asked of one method

not_not : (b : Bool) → not (not b) ≡ b
not_not true = refl
not_not false = refl

implemented : (o : Option Declared) → not (answers Implemented (option_map flags_of o)) ≡ false → IsSomeAnd o (λ d. has d.member.flags ABSTRACT ≡ false)
implemented None e = true≢false e
implemented (Some d) e = sym (not_not (has d.member.flags ABSTRACT)) ∙ e

not_open : (o : Option Declared) → IsSomeAnd o (λ d. has d.member.flags ABSTRACT ≡ false) → not (answers Implemented (option_map flags_of o)) ≡ false
not_open None none = absurd none
not_open (Some d) e = not_not (has d.member.flags ABSTRACT) ∙ e

second_of : (a p : Bool) → not (a || p) ≡ false → a ≡ false → p ≡ true
second_of true p e z = absurd (true≢false z)
second_of false true e z = refl
second_of false false e z = absurd (true≢false e)

none_of : (a p : Bool) → (a ≡ false → p ≡ true) → not (a || p) ≡ false
none_of true p says = refl
none_of false p says = ap not (says refl)

public : (o : Option Declared) → not (answers Public (option_map flags_of o)) ≡ false → IfSome o (λ d. has d.member.flags ABSTRACT ≡ false → IsTrue (has d.member.flags PUBLIC))
public None e = tt
public (Some d) e = second_of (has d.member.flags ABSTRACT) (has d.member.flags PUBLIC) e

not_hidden : (o : Option Declared) → IfSome o (λ d. has d.member.flags ABSTRACT ≡ false → IsTrue (has d.member.flags PUBLIC)) → not (answers Public (option_map flags_of o)) ≡ false
not_hidden None says = refl
not_hidden (Some d) says = none_of (has d.member.flags ABSTRACT) (has d.member.flags PUBLIC) says

-- ---- the rules of a class

module _ (cs : List NamedClass) (k : ℕ) (ds : List ℕ) where
  all_implemented : list_any (leaves_open Implemented cs (number_of_file k)) ds ≡ false → All (IsImplemented cs k) (abstract_methods cs k ds)
  all_implemented none =
      all_where_none (is_open Implemented cs (number_of_file k)) (IsImplemented cs k) (abstract_methods cs k ds) (λ m e. implemented (selected cs (number_of_file k) (signature_of m)) e)
      (sym (any_of_each (is_open Implemented cs (number_of_file k)) is_abstract (methods_of cs) ds) ∙ none)

  none_open : All (IsImplemented cs k) (abstract_methods cs k ds) → list_any (leaves_open Implemented cs (number_of_file k)) ds ≡ false
  none_open all =
      any_of_each (is_open Implemented cs (number_of_file k)) is_abstract (methods_of cs) ds
      ∙ none_where_all (is_open Implemented cs (number_of_file k)) (IsImplemented cs k) (abstract_methods cs k ds) (λ m e. not_open (selected cs (number_of_file k) (signature_of m)) e) all

  all_public : list_any (leaves_open Public cs (number_of_file k)) ds ≡ false → All (IsPublicWhereImplemented cs k) (abstract_methods cs k ds)
  all_public none =
      all_where_none (is_open Public cs (number_of_file k)) (IsPublicWhereImplemented cs k) (abstract_methods cs k ds) (λ m e. public (selected cs (number_of_file k) (signature_of m)) e)
      (sym (any_of_each (is_open Public cs (number_of_file k)) is_abstract (methods_of cs) ds) ∙ none)

  none_hidden : All (IsPublicWhereImplemented cs k) (abstract_methods cs k ds) → list_any (leaves_open Public cs (number_of_file k)) ds ≡ false
  none_hidden all =
      any_of_each (is_open Public cs (number_of_file k)) is_abstract (methods_of cs) ds
      ∙ none_where_all (is_open Public cs (number_of_file k)) (IsPublicWhereImplemented cs k) (abstract_methods cs k ds) (λ m e. not_hidden (selected cs (number_of_file k) (signature_of m)) e) all

abbrev Lacks : List NamedClass → ℕ → ℕ → Bool
Lacks cs k flags = not (has flags ABSTRACT) && list_any (leaves_open Implemented cs (number_of_file k)) (method_order cs (number_of_file k))

abbrev Hides : List NamedClass → ℕ → Bool
Hides cs k = list_any (leaves_open Public cs (number_of_file k)) (flat_map (superinterfaces cs) (superclasses cs (number_of_file k)))

and_false : (a b : Bool) → (not a && b) ≡ false → a ≡ false → b ≡ false
and_false true b e z = absurd (true≢false z)
and_false false b e z = e

and_true : (a b : Bool) → (not a && b) ≡ true → (a ≡ false) × (b ≡ true)
and_true true b e = absurd (true≢false (sym e))
and_true false b e = (refl, e)

module _ (cs : List NamedClass) (k flags : ℕ) where
  nothing_lacks : Lacks cs k flags ≡ false → has flags ABSTRACT ≡ false → All (IsImplemented cs k) (abstract_methods cs k (method_order cs (number_of_file k)))
  nothing_lacks none concrete =
      all_implemented cs k (method_order cs (number_of_file k))
      (and_false (has flags ABSTRACT) (list_any (leaves_open Implemented cs (number_of_file k)) (method_order cs (number_of_file k))) none concrete)

  pub lacking : Lacks cs k flags ≡ true → (implementation_rules cs k flags).Refuse (At kinds.NoMethod k 0)
  lacking lacks =
      let parts = and_true (has flags ABSTRACT) (list_any (leaves_open Implemented cs (number_of_file k)) (method_order cs (number_of_file k))) lacks in
      inl (λ rule. true≢false (sym parts.1 ∙ none_open cs k (method_order cs (number_of_file k)) (rule parts.0)), refl)

  pub hiding : Lacks cs k flags ≡ false → Hides cs k ≡ true → (implementation_rules cs k flags).Refuse (At kinds.Private k 0)
  hiding none hidden =
      inr (nothing_lacks none, (λ rule. true≢false (sym hidden ∙ none_hidden cs k (flat_map (superinterfaces cs) (superclasses cs (number_of_file k))) rule), refl))

  pub keeping : Lacks cs k flags ≡ false → Hides cs k ≡ false → (implementation_rules cs k flags).Hold
  keeping none shown = (nothing_lacks none, all_public cs k (flat_map (superinterfaces cs) (superclasses cs (number_of_file k))) shown)

-- ---- the rules of all classes

pub implementations_refused : {T : Type 0} (us : List ClassUnit) (r : Result T LinkRefusal) → Gives r (all_implementation_rules us) (λ x. Unit {0})
    → (e : LinkRefusal) → (all_implementation_rules us).Refuse e → IsRefused r e
implementations_refused us r g =
    broken_is_refused (all_implementation_rules us)
    (sharp_each (λ k u. implementation_rules (classes_of us) k u.file.flags) us (λ k u. sharp_then _ _ (sharp_must _ _) (sharp_must _ _)))
    (λ x. Unit {0}) r g

-- ---- the test of a class over an order of classes

pub class_there : (us : List ClassUnit) (k : ℕ) → k < length us → 29 + k ≤ length (classes_of us)
class_there us k lt = omega (arith, class_count_is us)

pub tested : (asked : Asked) (us vs : List ClassUnit) (c k : ℕ) (order given : List ℕ) (r : Bool) (ds : List NamedClass → ℕ → List ℕ)
    → r ≡ list_any (leaves_open asked (classes_of us) c) given → given ≡ order → order ≡ without_repeats (ds (classes_of vs) c) → vs ≡ us → c ≡ number_of_file k
    → r ≡ list_any (leaves_open asked (classes_of us) (number_of_file k)) (ds (classes_of us) (number_of_file k))
tested asked us vs c k order given r ds answer is once same number =
    answer
    ∙ ap (list_any (leaves_open asked (classes_of us) c)) (is ∙ once ∙ ap (λ ws. without_repeats (ds (classes_of ws) c)) same)
    ∙ any_once (leaves_open asked (classes_of us) c) (ds (classes_of us) c)
    ∙ ap (λ n. list_any (leaves_open asked (classes_of us) n) (ds (classes_of us) n)) number
