-- A class is related to the classes of an order, one number after the other.
use Rattle.std.proofs.Common.{◌≡◌, ◌≢◌, ◌<◌, ◌≤◌, ◌+◌, ◌==◌, ◌||◌, ◌&&◌, ℕ, Bool, true, false, List, length, inl, inr, refl, sym, ◌∙◌, ap, subst, arith}
use Rattle.std.proofs.lemmas.Bool.{cases_lt, cases_eq, cases_Bool, ne_eqb}
use Rattle.std.proofs.Math.Bool.{or-false}
use borrow.Author.Tests.{eq-eqb}
use Rattle.transitive_closure.specs.Relation.{relates}
use Rattle.search_orders.specs.Orders.{has_number}
use Rattle.link_rules.specs.Classes.{NamedClass}
use Rattle.class_relations.specs.Relations.{IsMarked}

-- of the numbers below one, a class is related to those of a list
pub record IsSoFar (base : List (List Bool)) (class n : ℕ) (xs : List ℕ) (rows : List (List Bool)) : Type 0 where
  pub here : (d : ℕ) → d < n → relates base class d ≡ false → relates rows class d ≡ has_number xs d
  pub later : (d : ℕ) → n ≤ d → relates rows class d ≡ relates base class d
  pub elsewhere : (c d : ℕ) → c ≢ class → relates rows c d ≡ relates base c d

pub nothing_yet : (base : List (List Bool)) (class : ℕ) (xs : List ℕ) → IsSoFar base class 0 xs base
nothing_yet base class xs = record {
  here = λ d lt no. absurd (omega (arith, lt));
  later = λ d ge. refl;
  elsewhere = λ c d ne. refl;
}

-- one more number is in the list
pub one_related : (base old new : List (List Bool)) (class n : ℕ) (xs : List ℕ) → IsSoFar base class n xs old
    → ((c d : ℕ) → relates new c d ≡ (relates old c d || (c == class && d == n))) → has_number xs n ≡ true → IsSoFar base class (n + 1) xs new
one_related base old new class n xs so_far related has = record {
  here = λ d lt no. elim (cases_eq d n) [
    | inl same ↦
        let before : relates old class d ≡ false = so_far.later d (omega (arith, same)) ∙ no in
        related class d ∙ rw (before, eq-eqb class class refl, eq-eqb d n same) (sym (ap (has_number xs) same ∙ has))
    | inr other ↦ related class d ∙ rw (eq-eqb class class refl, ne_eqb d n other) (or-false (relates old class d) ∙ so_far.here d (omega (arith, lt, other)) no)
  ];
  later = λ d ge.
      let other : d ≢ n = λ same. absurd (omega (arith, same, ge)) in
      related class d ∙ rw (eq-eqb class class refl, ne_eqb d n other) (or-false (relates old class d) ∙ so_far.later d (omega (arith, ge)));
  elsewhere = λ c d ne. related c d ∙ rw (ne_eqb c class ne) (or-false (relates old c d) ∙ so_far.elsewhere c d ne);
}

-- one more number isn't in the list
pub none_related : (base old : List (List Bool)) (class n : ℕ) (xs : List ℕ) → IsSoFar base class n xs old → has_number xs n ≡ false → IsSoFar base class (n + 1) xs old
none_related base old class n xs so_far has = record {
  here = λ d lt no. elim (cases_eq d n) [
    | inl same ↦ so_far.later d (omega (arith, same)) ∙ no ∙ sym (ap (has_number xs) same ∙ has)
    | inr other ↦ so_far.here d (omega (arith, lt, other)) no
  ];
  later = λ d ge. so_far.later d (omega (arith, ge));
  elsewhere = so_far.elsewhere;
}

-- one class more has its marks
pub one_marked : (cs : List NamedClass) (order : ℕ → List ℕ) (n size : ℕ) (xs : List ℕ) (old new : List (List Bool)) → IsMarked cs order n old
    → length new ≡ length old → ((d : ℕ) → has_number xs d ≡ has_number (order n) d) → ((d : ℕ) → has_number (order n) d ≡ true → d < size)
    → ((d : ℕ) → d < size → relates old n d ≡ false → relates new n d ≡ has_number xs d) → ((d : ℕ) → size ≤ d → relates new n d ≡ relates old n d)
    → ((c d : ℕ) → c ≢ n → relates new c d ≡ relates old c d) → IsMarked cs order (n + 1) new
one_marked cs order n size xs old new marked same_size same within here past elsewhere = record {
  size = same_size ∙ marked.size;
  each = λ c d lt. elim (cases_eq c n) [
    | inl is ↦ subst (λ k. relates new k d ≡ has_number (order k) d) (sym is) (this d)
    | inr other ↦ elsewhere c d other ∙ marked.each c d (omega (arith, lt, other))
  ];
  others = λ c d ge.
      let other : c ≢ n = λ is. absurd (omega (arith, is, ge)) in
      elsewhere c d other ∙ marked.others c d (omega (arith, ge));
}
  where
    none : (d : ℕ) → relates old n d ≡ false
    none d = marked.others n d (omega arith)

    not_past : (d : ℕ) → size ≤ d → has_number (order n) d ≡ false
    not_past d ge = elim (cases_Bool (has_number (order n) d)) [
      | inl has ↦ absurd (omega (arith, ge, within d has))
      | inr absent ↦ absent
    ]

    this : (d : ℕ) → relates new n d ≡ has_number (order n) d
    this d = elim (cases_lt d size) [
      | inl lt ↦ here d lt (none d) ∙ same d
      | inr ge ↦ past d ge ∙ none d ∙ sym (not_past d ge)
    ]
