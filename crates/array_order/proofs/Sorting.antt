-- Texts that are put in order.
use Rattle.std.proofs.Common.{◌≡◌, ℕ, Bool, true, false, cond, List, [], ◌∷◌, ◌++◌, Contains, fold, bytes_eq, inl, inr, refl, sym, ap, subst, ◌∙◌}
use Rattle.std.proofs.lemmas.List.Elements.{Contains-append_cases}
use Rattle.link_rules.specs.Arrays.{is_before, put_in_order}
use Rattle.link_rules.proofs.Lists.{contains_head, contains_tail, contains_cases, contains_none}
use Rattle.link_rules.proofs.Arrays.{put_cases}
use Rattle.array_order.specs.Order.{StandInOrder}
use Rattle.array_order.proofs.Texts.{Before, not_itself, through, behind}

pub put_sorted : (text : List ℕ) (xs : List (List ℕ)) → StandInOrder xs → StandInOrder (put_in_order text xs)
put_sorted text [] sorted = ((λ y h. absurd (contains_none y h)), tt)
put_sorted text (x ∷ xs) sorted = go (is_before text x) (bytes_eq text x) refl refl (put_sorted text xs sorted.1)
  where
    go : (a b : Bool) → is_before text x ≡ a → bytes_eq text x ≡ b → StandInOrder (put_in_order text xs) → StandInOrder (cond a (text ∷ x ∷ xs) (cond b (x ∷ xs) (x ∷ put_in_order text xs)))
    go true b before same later = (
      (λ y h. elim (contains_cases x xs y h) [
        | inl here ↦ subst (Before text) here before
        | inr there ↦ through text x y before (sorted.0 y there)
      ]),
      sorted,
    )
    go false true before same later = sorted
    go false false before same later = (
      (λ y h. elim (put_cases text xs y h) [
        | inl its ↦ subst (Before x) its (behind text x before same)
        | inr there ↦ sorted.0 y there
      ]),
      later,
    )

pub all_sorted : (texts known : List (List ℕ)) → StandInOrder known → StandInOrder (fold (λ sorted text. put_in_order text sorted) known texts)
all_sorted [] known sorted = sorted
all_sorted (t ∷ texts) known sorted = all_sorted texts (put_in_order t known) (put_sorted t known sorted)

-- lists in order that have the same texts are one
pub same_in_order : (xs ys : List (List ℕ)) → StandInOrder xs → StandInOrder ys → ((z : List ℕ) → Contains xs z → Contains ys z) → ((z : List ℕ) → Contains ys z → Contains xs z) → xs ≡ ys
same_in_order [] [] one other there back = refl
same_in_order [] (y ∷ ys) one other there back = absurd (contains_none y (back y (contains_head y ys)))
same_in_order (x ∷ xs) [] one other there back = absurd (contains_none x (there x (contains_head x xs)))
same_in_order (x ∷ xs) (y ∷ ys) one other there back =
    ap (λ z. z ∷ xs) first ∙ ap (λ zs. y ∷ zs) (same_in_order xs ys one.1 other.1 rest_there rest_back)
  where
    first : x ≡ y
    first = elim (contains_cases y ys x (there x (contains_head x xs))) [
      | inl same ↦ sym same
      | inr later ↦ elim (contains_cases x xs y (back y (contains_head y ys))) [
        | inl same ↦ same
        | inr behind_it ↦ absurd (not_itself x (through x y x (one.0 y behind_it) (other.0 x later)))
      ]
    ]

    rest_there : (z : List ℕ) → Contains xs z → Contains ys z
    rest_there z h = elim (contains_cases y ys z (there z (contains_tail x xs z h))) [
      | inl same ↦ absurd (not_itself z (subst (λ w. Before w z) (first ∙ same) (one.0 z h)))
      | inr later ↦ later
    ]

    rest_back : (z : List ℕ) → Contains ys z → Contains xs z
    rest_back z h = elim (contains_cases x xs z (back z (contains_tail y ys z h))) [
      | inl same ↦ absurd (not_itself z (subst (λ w. Before w z) (sym first ∙ same) (other.0 z h)))
      | inr later ↦ later
    ]

-- two lists in order, one after the other
pub joined_in_order : (xs ys : List (List ℕ)) → StandInOrder xs → StandInOrder ys → ((x y : List ℕ) → Contains xs x → Contains ys y → Before x y) → StandInOrder (xs ++ ys)
joined_in_order [] ys one other before = other
joined_in_order (x ∷ xs) ys one other before = (
  (λ y h. elim (Contains-append_cases xs ys y h) [
    | inl here ↦ one.0 y here
    | inr there ↦ before x y (contains_head x xs) there
  ]),
  joined_in_order xs ys one.1 other (λ z y h k. before z y (contains_tail x xs z h) k),
)
