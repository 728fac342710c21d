-- Numbers of signatures.
use Rattle.std.proofs.Common.{◌≡◌, ℕ, ◌==◌, ◌&&◌, Bool, true, false, cond, if◌then◌else◌, nat_cmp, unwrap_or, Option, Some, refl, ◌∙◌, ap}
use Rattle.std.specs.BTreeMap.{BTreeMap, get_by, Updates}
use Rattle.std.specs.Ordering.{ordering_then, is_eq}
use Rattle.std.specs.declared.cmp.Ordering.{Ordering}
use Rattle.std.specs.declared.cmp.Ordering.TheVariants.{Less, Equal, Greater}
use Rattle.std.specs.Cmp.{unsigned_tied}
use Rattle.member_table.specs.Members.{number_in}

is_eq_then : (a b : Ordering) → is_eq (ordering_then a b) ≡ (is_eq a && is_eq b)
is_eq_then Less b = refl
is_eq_then Equal b = refl
is_eq_then Greater b = refl

pub inserted : (old new : BTreeMap (ℕ × ℕ) ℕ) (name descriptor number : ℕ) → Updates (λ (x y : ℕ × ℕ). ordering_then (nat_cmp x.0 y.0) (nat_cmp x.1 y.1)) old new (name, descriptor) (Some number)
    → (n d : ℕ) → number_in new n d ≡ (if name == n && descriptor == d then number else number_in old n d)
inserted old new name descriptor number h n d =
    let same : is_eq (ordering_then (nat_cmp name n) (nat_cmp descriptor d)) ≡ (name == n && descriptor == d) =
    is_eq_then (nat_cmp name n) (nat_cmp descriptor d) ∙ ap (λ b. b && is_eq (nat_cmp descriptor d)) (unsigned_tied name n) ∙ ap (λ b. name == n && b) (unsigned_tied descriptor d) in
    ap (λ o. unwrap_or o 0) (h.0 (n, d)) ∙ choice (is_eq (ordering_then (nat_cmp name n) (nat_cmp descriptor d))) (Some number) (get_by (λ k. ordering_then (nat_cmp n k.0) (nat_cmp d k.1)) old)
    ∙ ap (λ b. cond b number (number_in old n d)) same
  where
    choice : (b : Bool) (x y : Option ℕ) → unwrap_or (cond b x y) 0 ≡ cond b (unwrap_or x 0) (unwrap_or y 0)
    choice true x y = refl
    choice false x y = refl
