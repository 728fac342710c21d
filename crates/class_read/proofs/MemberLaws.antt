-- Members one after the other, up to the first that repeats another.
use Rattle.std.proofs.Common.{◌≡◌, ℕ, ◌+◌, true, false, List, ◌∷◌, [], ◌++◌, take, map, Option, None, Some, slice_get, ◌==◌, inl, inr, refl, sym, ◌∙◌, ap, subst, arith}
use Rattle.std.specs.Bool.{nat_eq}
use Rattle.std.specs.Option.{option_eq}
use Rattle.std.proofs.lemmas.Bool.{cases_lt}
use Rattle.std.proofs.lemmas.Bool.Decides.{nat_tests}
use Rattle.std.proofs.lemmas.List.{map-append}
use Rattle.std.proofs.lemmas.Option.{same_Some}
use Rattle.class_walk.specs.declared.class.Constant.{Constant}
use Rattle.class_walk.specs.declared.class.RawMember.{RawMember}
use Rattle.class_pool.specs.declared.refusal.ReadRefusal.{ReadRefusal}
use Rattle.class_pool.specs.declared.refusal.ReadRefusal.TheVariants.{Member}
use Rattle.class_read.specs.MemberRules.{new_rules}
use Rattle.class_read.specs.Repeats.{IsRepeated, IsFirstRepeat}
use Rattle.rules.specs.Rules.{Rules, HoldBelow, each, ◌then◌}
use Rattle.class_pool.specs.Answers.{Refuses}
use Rattle.rules.proofs.RuleLaws.{one_more}
use Rattle.class_read.proofs.FindLaws.{take_next}

-- the rules of a member by itself, and that it is new
abbrev pub with_new : List Constant → List RawMember → (RawMember → Rules ReadRefusal) → ℕ → RawMember → Rules ReadRefusal
with_new pool members lone = λ i m. lone m then new_rules pool members i m

pub refuses_lone : (pool : List Constant) (members : List RawMember) (lone : RawMember → Rules ReadRefusal) (i : ℕ) (m : RawMember) (e : ReadRefusal) → slice_get members i ≡ Some m → HoldBelow (with_new pool members lone) members i → Refuses e (lone m) → Refuses e (each (with_new pool members lone) members)
refuses_lone pool members lone i m e at below refused =
    elim refused [
      | inl no_memory ↦ inl no_memory
      | inr broken ↦ inr (i, m, at, below, inl broken)
    ]

repeats_there : (a i : ℕ) → (a == i) ≡ true → a ≡ i
repeats_there a i e = grind (arith, nat_tests)

pub is_repeated : (pool : List Constant) (members : List RawMember) (repeat : Option ℕ) (i : ℕ) (m : RawMember) → IsFirstRepeat pool members repeat → option_eq nat_eq repeat (Some i) ≡ true → slice_get members i ≡ Some m → IsRepeated pool members i m
is_repeated pool members None i m first e at = absurd cc
is_repeated pool members (Some a) i m first e at =
    let same : a ≡ i = repeats_there a i e in
    let P : ℕ → Type 0 = λ k. slice_get members k ≡ Some first.0.0 in
    let same_member : first.0.0 ≡ m = same_Some first.0.0 m (sym (subst P same first.0.1) ∙ at) in
    let Q : ℕ → Type 0 = λ k. IsRepeated pool members k first.0.0 in
    let R : RawMember → Type 0 = λ x. IsRepeated pool members i x in
    subst R same_member (subst Q same first.0.2)

differs : (i : ℕ) → (i == i) ≡ false → ⊥
differs i e = grind (arith, nat_tests)

pub is_new : (pool : List Constant) (members : List RawMember) (lone : RawMember → Rules ReadRefusal) (repeat : Option ℕ) (i : ℕ) (m : RawMember) → IsFirstRepeat pool members repeat → option_eq nat_eq repeat (Some i) ≡ false → HoldBelow (with_new pool members lone) members i → slice_get members i ≡ Some m → ¬ IsRepeated pool members i m
is_new pool members lone None i m first e below at = first i m at
is_new pool members lone (Some a) i m first e below at =
    elim (cases_lt a i) [
      | inl before ↦ absurd ((below a first.0.0 before first.0.1).1 first.0.2)
      | inr le ↦ elim (cases_lt i a) [
        | inl later ↦ first.1 i m later at
        | inr ge ↦
            let same : a ≡ i = omega arith in
            let P : ℕ → Type 0 = λ k. (k == i) ≡ false in
            absurd (differs i (subst P same e))
      ]
    ]

pub refuses_repeat : (pool : List Constant) (members : List RawMember) (lone : RawMember → Rules ReadRefusal) (repeat : Option ℕ) (i : ℕ) (m : RawMember) → IsFirstRepeat pool members repeat → option_eq nat_eq repeat (Some i) ≡ true → slice_get members i ≡ Some m → HoldBelow (with_new pool members lone) members i → (lone m).Hold → Refuses (Member m.at) (each (with_new pool members lone) members)
refuses_repeat pool members lone repeat i m first e at below here =
    let repeated = is_repeated pool members repeat i m first e at in
    inr (i, m, at, below, inr (here, ((λ new. new repeated), refl)))

pub one_more_new : (pool : List Constant) (members : List RawMember) (lone : RawMember → Rules ReadRefusal) (repeat : Option ℕ) (i : ℕ) (m : RawMember) → IsFirstRepeat pool members repeat → option_eq nat_eq repeat (Some i) ≡ false → slice_get members i ≡ Some m → HoldBelow (with_new pool members lone) members i → (lone m).Hold → HoldBelow (with_new pool members lone) members (i + 1)
one_more_new pool members lone repeat i m first e at below here =
    one_more (with_new pool members lone) members i m at below (here, is_new pool members lone repeat i m first e below at)

pub mapped_more : {X Y : Type 0} (f : X → Y) (xs : List X) (i : ℕ) (x : X) (y : Y) (ys : List Y) → slice_get xs i ≡ Some x → y ≡ f x → ys ≡ map f (take i xs) → ys ++ y ∷ [] ≡ map f (take (i + 1) xs)
mapped_more f xs i x y ys at e all =
    let is : map f (take (i + 1) xs) ≡ map f (take i xs) ++ f x ∷ [] = ap (map f) (take_next xs i x at) ∙ map-append f (take i xs) (x ∷ []) in
    rw (is, e, all) refl
