-- Where the rules hold, no class is above itself, and an order by what is above puts supers first.
use Rattle.std.proofs.Common.{◌≡◌, ◌↔◌, ℕ, zero, suc, ◌<◌, ◌≤◌, ◌&&◌, Bool, true, nat_lt, List, [], ◌∷◌, ◌++◌, length, map, None, Contains, inl, inr, refl, sym, ◌∙◌, ap, subst, arith}
use Rattle.std.specs.List.{range_with_len, list_all}
use Rattle.std.specs.Option.{option_map_or}
use borrow.Author.Tests.{ltb-true}
use Rattle.std.proofs.lemmas.Bool.{cases_lt, cases_Bool, and_parts}
use Rattle.builtin_world.specs.Library.{library}
use Rattle.code_decode.specs.declared.code.ClassUnit.{ClassUnit}
use Rattle.link_rules.specs.Classes.{NamedClass, classes_of, class_number, class_numbered, superclass_of, interfaces_of}
use Rattle.link_rules.specs.Supers.{HasSuper, IsWayUp, IsAbove, PutsSupersFirst}
use Rattle.link_rules.specs.LinkRules.{hierarchy_rules}
use Rattle.link_rules.proofs.Lists.{contains_cases, contains_none}
use Rattle.link_rules.proofs.Numbers.{in_library, is_file, past_all}
use Rattle.transitive_closure.specs.Relation.{relates, Relates, IsStrictOrder, PutsRelatedFirst}

-- ---- a class that isn't there names nothing

names_nothing : (cs : List NamedClass) (c d : ℕ) → class_numbered cs c ≡ None → HasSuper cs c d → ⊥
names_nothing cs c d none h =
    let super : superclass_of cs c ≡ 0 = ap (λ o. option_map_or (λ (k : NamedClass). option_map_or (class_number cs) k.super 0) o 0) none in
    let interfaces : interfaces_of cs c ≡ [] = ap (λ o. option_map_or (λ (k : NamedClass). map (class_number cs) k.interfaces) o []) none in
    elim h.1 [
      | inl is ↦ h.0 (sym is ∙ super)
      | inr there ↦ contains_none d (subst (λ xs. Contains xs d) interfaces there)
    ]

nothing_above : (cs : List NamedClass) (c : ℕ) (way : List ℕ) (d : ℕ) → class_numbered cs c ≡ None → IsWayUp cs c way d → ⊥
nothing_above cs c [] d none h = names_nothing cs c d none h
nothing_above cs c (e ∷ way) d none h = names_nothing cs c e none h.0

-- ---- what a built-in class names has a lower number

abbrev names_lower : List NamedClass → ℕ → Bool
names_lower cs c = nat_lt (superclass_of cs c) c && list_all (λ d. nat_lt d c) (interfaces_of cs c)

library_names_lower : (us : List ClassUnit) → map (names_lower (classes_of us)) (range_with_len 1 28) ≡ map (λ _. true) (range_with_len 1 28)
unfolding library
library_names_lower us = refl

all_lower : (xs : List ℕ) (c d : ℕ) → list_all (λ x. nat_lt x c) xs ≡ true → Contains xs d → d < c
all_lower [] c d e h = absurd (contains_none d h)
all_lower (x ∷ xs) c d e h =
    let both = and_parts (nat_lt x c) (list_all (λ x. nat_lt x c) xs) e in
    elim (contains_cases x xs d h) [
      | inl here ↦ subst (λ y. y < c) here (ltb-true x c both.0)
      | inr there ↦ all_lower xs c d both.1 there
    ]

built_in_lower : (us : List ClassUnit) (c d : ℕ) → c ≤ 28 → HasSuper (classes_of us) c d → d < c
built_in_lower us zero d le h = absurd (names_nothing (classes_of us) 0 d refl h)
built_in_lower us (suc i) d le h =
    let lower : names_lower (classes_of us) (suc i) ≡ true = in_library 1 28 (names_lower (classes_of us)) (λ _. true) (library_names_lower us) (suc i) (omega arith) (omega arith) in
    let both = and_parts (nat_lt (superclass_of (classes_of us) (suc i)) (suc i)) (list_all (λ d. nat_lt d (suc i)) (interfaces_of (classes_of us) (suc i))) lower in
    elim h.1 [
      | inl super ↦ subst (λ y. y < suc i) super (ltb-true (superclass_of (classes_of us) (suc i)) (suc i) both.0)
      | inr interface ↦ all_lower (interfaces_of (classes_of us) (suc i)) (suc i) d both.1 interface
    ]

above_lower : (us : List ClassUnit) (c : ℕ) (way : List ℕ) (d : ℕ) → c ≤ 28 → IsWayUp (classes_of us) c way d → d < c
above_lower us c [] d le h = built_in_lower us c d le h
above_lower us c (e ∷ way) d le h =
    let first : e < c = built_in_lower us c e le h.0 in
    let rest : d < e = above_lower us e way d (omega arith) h.1 in
    omega arith

pub none_above_itself : (us : List ClassUnit) → (hierarchy_rules us).Hold → (c : ℕ) → ¬ IsAbove (classes_of us) c c
none_above_itself us hold c h = elim (cases_lt 28 c) [
  | inr low ↦ let lt : c < c = above_lower us c h.0 c low h.1 in omega arith
  | inl high ↦ elim (cases_lt (length (classes_of us)) c) [
    | inl past ↦ nothing_above (classes_of us) c h.0 c (past_all (classes_of us) c past) h.1
    | inr inside ↦
        let f = is_file us c high inside in
        (hold.1.1 f.0 f.1 f.2).1.1.1.1.1 (subst (λ x. IsAbove (classes_of us) x x) f.3 h)
  ]
]

-- ---- ways go on

go_on : (cs : List NamedClass) (c : ℕ) (way : List ℕ) (d : ℕ) (rest : List ℕ) (e : ℕ) → IsWayUp cs c way d → IsWayUp cs d rest e → IsWayUp cs c (way ++ d ∷ rest) e
go_on cs c [] d rest e first then' = (first, then')
go_on cs c (x ∷ way) d rest e first then' = (first.0, go_on cs x way d rest e first.1 then')

pub above_is_strict : (us : List ClassUnit) (rows : List (List Bool)) → (hierarchy_rules us).Hold → ((c d : ℕ) → Relates rows c d ↔ IsAbove (classes_of us) c d) → IsStrictOrder rows
above_is_strict us rows hold same = record {
  apart = λ a. elim (cases_Bool (relates rows a a)) [
    | inl related ↦ absurd (none_above_itself us hold a ((same a a).0 related))
    | inr not_related ↦ not_related
  ];
  through = λ a b c r s.
      let one = (same a b).0 r in
      let two = (same b c).0 s in
      (same a c).1 (one.0 ++ b ∷ two.0, go_on (classes_of us) a one.0 b two.0 c one.1 two.1);
}

pub puts_supers_first : (us : List ClassUnit) (rows : List (List Bool)) (order : List ℕ) → length rows ≡ suc (length (classes_of us)) → ((c d : ℕ) → Relates rows c d ↔ IsAbove (classes_of us) c d) → PutsRelatedFirst rows 1 order → PutsSupersFirst (classes_of us) order
puts_supers_first us rows order size same first = record {
  bound = omega (arith, first.count);
  whole = λ c some within. first.whole c (omega (arith, some)) (omega arith);
  before = λ i c d at h. first.before i c d at (let some = h.0 in omega (arith, some)) ((same c d).1 ([], h));
}
