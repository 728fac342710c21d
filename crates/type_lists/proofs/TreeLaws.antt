-- Trees whose parts may be changed.
use Rattle.std.proofs.Common.{◌≡◌, ◌≢◌, ◌⊎◌, inl, inr, ℕ, zero, suc, ◌-◌, ◌/◌, ◌%◌, ◌<◌, ◌≤◌, ◌==◌, cond, if◌then◌else◌, List, [], length, get_or, slice_set, refl, sym, ◌∙◌, ap, subst, arith}
use Rattle.std.proofs.lemmas.List.{get_or-set_other, length-set}
use Rattle.std.proofs.lemmas.Grind.{get_or-set_at}
use Rattle.std.proofs.lemmas.Bool.Decides.{leb_tells, eqb_tells}
use borrow.Author.Tests.{eq-eqb, ne_eqb}
use Rattle.type_rules.specs.declared.types.VerificationType.{VerificationType}
use Rattle.type_rules.specs.declared.types.VerificationType.TheVariants.{Top}
use Rattle.type_lists.specs.declared.parts.Part.{Part}
use Rattle.type_lists.specs.declared.parts.Part.TheVariants.{Leaf}
use Rattle.type_lists.specs.Parts.{node_children, leaf_words, part_at, child_at, room, word_of, with_word, IsClosed, Grows}
use Rattle.type_lists.specs.Trees.{IsIn, IsTree, Touches, IsSet, IsPut, LeavesOthers}
use Rattle.type_lists.proofs.PartLaws.{same_below}
use Rattle.type_lists.proofs.SetLaws.{same_place, with_here, with_other}

pub same_child : (p q : List Part) (part j : ℕ) → part_at q part ≡ part_at p part → child_at q part j ≡ child_at p part j
same_child p q part j e = ap (λ x. get_or (node_children x) j 0) e

-- ---- what is in a tree

pub root_is_new : (parts : List Part) (kept height part q : ℕ) → IsIn parts kept height part q → kept < part
root_is_new parts kept zero part q is = is.0
root_is_new parts kept (suc height) part q is = is.0

pub in_is_new : (parts : List Part) (kept height part q : ℕ) → IsIn parts kept height part q → kept < q
in_is_new parts kept zero part q is = omega (arith, is.0, is.1)
in_is_new parts kept (suc height) part q is = elim is.1 [
  | inl e ↦ omega (arith, is.0, e)
  | inr below ↦ in_is_new parts kept height (child_at parts part below.0) q below.1
]

pub in_is_there : (parts : List Part) (kept height part q : ℕ) → IsClosed parts (length parts) → part ≤ length parts → IsIn parts kept height part q → q ≤ length parts
in_is_there parts kept zero part q closed h is = omega (arith, is.1, h)
in_is_there parts kept (suc height) part q closed h is = elim is.1 [
  | inl e ↦ omega (arith, e, h)
  | inr below ↦ in_is_there parts kept height (child_at parts part below.0) q closed (closed part below.0 h) below.1
]

pub kept_tree : (parts : List Part) (kept height part : ℕ) → part ≤ kept → IsTree parts kept height part
kept_tree parts kept zero part h = tt
kept_tree parts kept (suc height) part h = λ new. absurd (omega (arith, h, new))

-- ---- trees that other changes leave as they were

module _ (p q : List Part) (kept : ℕ) (same : (i : ℕ) → i ≤ kept → part_at q i ≡ part_at p i) (closed : IsClosed p kept) where
  abbrev Unchanged : ℕ → ℕ → Type 0
  Unchanged height part = (i : ℕ) → IsIn p kept height part i → part_at q i ≡ part_at p i

  below_too : (height part j : ℕ) → kept < part → Unchanged (suc height) part → Unchanged height (child_at p part j)
  below_too height part j new un i is = un i (new, inr (j, is))

  pub frame_in : (height part i : ℕ) → Unchanged height part → IsIn q kept height part i → IsIn p kept height part i
  frame_in zero part i un is = is
  frame_in (suc height) part i un is = elim is.1 [
    | inl e ↦ (is.0, inl e)
    | inr below ↦
        let child : child_at q part below.0 ≡ child_at p part below.0 = same_child p q part below.0 (un part (is.0, inl refl)) in
        (is.0, inr (below.0, frame_in height (child_at p part below.0) i (below_too height part below.0 is.0 un) (subst (λ c. IsIn q kept height c i) child below.1)))
  ]

  pub frame_words : (height part n : ℕ) → Unchanged height part → word_of q height part n ≡ word_of p height part n
  frame_words height part n un = elim (leb_tells part kept) [
    | inl old ↦ same_below p q kept same closed height part n old.1
    | inr new ↦ of height part n un (omega (arith, new.1))
  ]
    where
      of : (height part n : ℕ) → Unchanged height part → kept < part → word_of q height part n ≡ word_of p height part n
      of zero part n un new = ap (λ x. get_or (leaf_words x) n Top) (un part (new, refl))
      of (suc height) part n un new =
          ap (λ c. word_of q height c (n % room height)) (same_child p q part (n / room height) (un part (new, inl refl)))
          ∙ elim (leb_tells (child_at p part (n / room height)) kept) [
            | inl old ↦ same_below p q kept same closed height (child_at p part (n / room height)) (n % room height) old.1
            | inr newer ↦ of height (child_at p part (n / room height)) (n % room height) (below_too height part (n / room height) new un) (omega (arith, newer.1))
          ]

  pub frame_tree : (height part : ℕ) → Unchanged height part → IsTree p kept height part → IsTree q kept height part
  frame_tree zero part un tree = tt
  frame_tree (suc height) part un tree = λ new.
      let child = λ (j : ℕ). same_child p q part j (un part (new, inl refl)) in
      let back = λ (j i : ℕ) (is : IsIn q kept height (child_at q part j) i). frame_in height (child_at p part j) i (below_too height part j new un) (subst (λ c. IsIn q kept height c i) (child j) is) in (
        λ j. subst (λ c. IsTree q kept height c) (sym (child j)) (frame_tree height (child_at p part j) (below_too height part j new un) ((tree new).0 j)),
        λ i j k a b. (tree new).1 i j k (back i k a) (back j k b),
        λ j is. (tree new).2 j (back j part is),
      )

-- ---- a node whose child was changed

module _ (p0 p1 p2 : List Part) (kept k part place digit rest made node : ℕ) (word : VerificationType) (digit_is : digit ≡ place / room k) (rest_is : rest ≡ place % room k)
    (tree : IsTree p0 kept (suc k) part) (closed0 : IsClosed p0 (length p0)) (closed1 : IsClosed p1 (length p1)) (closed_kept : IsClosed p0 kept) (within : kept ≤ length p0) (is : part ≤ length p0)
    (first : Touches p0 p1 kept k (child_at p0 part digit)) (set : IsSet p0 p1 kept k (child_at p0 part digit) made rest word)
    (children : (j : ℕ) → child_at p2 node j ≡ (if j == digit then made else child_at p1 part j))
    (which : IsPut p1 kept part node) (later : LeavesOthers p1 p2 kept part) (node_is : node ≤ length p2) where
  -- what is below the part is in its tree
  up : (j q : ℕ) → IsIn p0 kept k (child_at p0 part j) q → IsIn p0 kept (suc k) part q
  up j q a = elim (leb_tells part kept) [
    | inl old ↦ absurd (omega (arith, root_is_new p0 kept k (child_at p0 part j) q a, closed_kept part j old.1))
    | inr new ↦ (omega (arith, new.1), inr (j, a))
  ]

  not_part : (j : ℕ) → ¬ IsIn p0 kept k (child_at p0 part j) part
  not_part j a = (tree (in_is_new p0 kept k (child_at p0 part j) part a)).2 j a

  one_place : (i j q : ℕ) → IsIn p0 kept k (child_at p0 part i) q → IsIn p0 kept k (child_at p0 part j) q → i ≡ j
  one_place i j q a b = (tree (up i q a).0).1 i j q a b

  there : (j q : ℕ) → IsIn p0 kept k (child_at p0 part j) q → q ≤ length p0
  there j q a = in_is_there p0 kept k (child_at p0 part j) q closed0 (closed0 part j is) a

  same1 : (i : ℕ) → i ≤ kept → part_at p1 i ≡ part_at p0 i
  same1 i h = first.1 i (omega (arith, h, within)) (λ a. absurd (omega (arith, h, in_is_new p0 kept k (child_at p0 part digit) i a)))

  same2 : (i : ℕ) → i ≤ kept → part_at p2 i ≡ part_at p1 i
  same2 i h = later.1 i (omega (arith, h, within, first.0)) (λ new e. absurd (omega (arith, h, new, e)))

  closed1_kept : IsClosed p1 kept
  closed1_kept i j h = subst (λ c. c ≤ kept) (sym (same_child p0 p1 i j (same1 i h))) (closed_kept i j h)

  child1 : (j : ℕ) → child_at p1 part j ≡ child_at p0 part j
  child1 j = same_child p0 p1 part j (first.1 part is (not_part digit))

  other1 : (j : ℕ) → j ≢ digit → (q : ℕ) → IsIn p0 kept k (child_at p0 part j) q → part_at p1 q ≡ part_at p0 q
  other1 j ne q a = first.1 q (there j q a) (λ b. ne (one_place j digit q a b))

  other2 : (j : ℕ) → j ≢ digit → (q : ℕ) → IsIn p1 kept k (child_at p0 part j) q → part_at p2 q ≡ part_at p1 q
  other2 j ne q a =
      let before = frame_in p0 p1 kept same1 closed_kept k (child_at p0 part j) q (other1 j ne) a in
      later.1 q (omega (arith, there j q before, first.0)) (λ new e. not_part j (subst (λ x. IsIn p0 kept k (child_at p0 part j) x) e before))

  made2 : (q : ℕ) → IsIn p1 kept k made q → part_at p2 q ≡ part_at p1 q
  made2 q a = later.1 q (in_is_there p1 kept k made q closed1 set.list a) (λ new e.
      elim (set.inside q a) [
        | inl before ↦ not_part digit (subst (λ x. IsIn p0 kept k (child_at p0 part digit) x) e before)
        | inr fresh ↦ absurd (omega (arith, fresh, e, is))
      ])

  at_digit : (j : ℕ) → j ≡ digit → child_at p2 node j ≡ made
  at_digit j e = children j ∙ ap (λ b. cond b made (child_at p1 part j)) (eq-eqb j digit e)

  elsewhere : (j : ℕ) → j ≢ digit → child_at p2 node j ≡ child_at p0 part j
  elsewhere j ne = children j ∙ ap (λ b. cond b made (child_at p1 part j)) (ne_eqb j digit ne) ∙ child1 j

  -- what is below the node now
  from_made : (j q : ℕ) → j ≡ digit → IsIn p2 kept k (child_at p2 node j) q → IsIn p1 kept k made q
  from_made j q e a = frame_in p1 p2 kept same2 closed1_kept k made q made2 (subst (λ c. IsIn p2 kept k c q) (at_digit j e) a)

  from_other : (j q : ℕ) → j ≢ digit → IsIn p2 kept k (child_at p2 node j) q → IsIn p0 kept k (child_at p0 part j) q
  from_other j q ne a =
      frame_in p0 p1 kept same1 closed_kept k (child_at p0 part j) q (other1 j ne)
      (frame_in p1 p2 kept same2 closed1_kept k (child_at p0 part j) q (other2 j ne) (subst (λ c. IsIn p2 kept k c q) (elsewhere j ne) a))

  from_any : (j q : ℕ) → IsIn p2 kept k (child_at p2 node j) q → IsIn p0 kept k (child_at p0 part j) q ⊎ ((j ≡ digit) × (length p0 < q))
  from_any j q a = elim (eqb_tells j digit) [
    | inl here ↦ elim (set.inside q (from_made j q here.1 a)) [
      | inl before ↦ inl (subst (λ d. IsIn p0 kept k (child_at p0 part d) q) (sym here.1) before)
      | inr fresh ↦ inr (here.1, fresh)
    ]
    | inr away ↦ inl (from_other j q away.1 a)
  ]

  node_apart : (i j q : ℕ) → IsIn p2 kept k (child_at p2 node i) q → IsIn p2 kept k (child_at p2 node j) q → i ≡ j
  node_apart i j q a b = elim (from_any i q a) [
    | inl x ↦ elim (from_any j q b) [
      | inl y ↦ one_place i j q x y
      | inr y ↦ absurd (omega (arith, y.1, there i q x))
    ]
    | inr x ↦ elim (from_any j q b) [
      | inl y ↦ absurd (omega (arith, x.1, there j q y))
      | inr y ↦ x.0 ∙ sym y.0
    ]
  ]

  node_above : (j : ℕ) → ¬ IsIn p2 kept k (child_at p2 node j) node
  node_above j a = elim which [
    | inl same ↦ elim (from_any j node a) [
      | inl x ↦ not_part j (subst (λ y. IsIn p0 kept k (child_at p0 part j) y) same.1 x)
      | inr x ↦ absurd (omega (arith, x.1, same.1, is))
    ]
    | inr new ↦ elim (eqb_tells j digit) [
      | inl here ↦ absurd (omega (arith, new, in_is_there p1 kept k made node closed1 set.list (from_made j node here.1 a)))
      | inr away ↦ absurd (omega (arith, new, first.0, there j node (from_other j node away.1 a)))
    ]
  ]

  tree_below : (j : ℕ) → IsTree p0 kept k (child_at p0 part j)
  tree_below j = elim (leb_tells part kept) [
    | inl old ↦ kept_tree p0 kept k (child_at p0 part j) (closed_kept part j old.1)
    | inr new ↦ (tree (omega (arith, new.1))).0 j
  ]

  node_below : (j : ℕ) → IsTree p2 kept k (child_at p2 node j)
  node_below j = elim (eqb_tells j digit) [
    | inl here ↦ subst (λ c. IsTree p2 kept k c) (sym (at_digit j here.1)) (frame_tree p1 p2 kept same2 closed1_kept k made made2 set.tree)
    | inr away ↦
        subst (λ c. IsTree p2 kept k c) (sym (elsewhere j away.1))
        (frame_tree p1 p2 kept same2 closed1_kept k (child_at p0 part j) (other2 j away.1) (frame_tree p0 p1 kept same1 closed_kept k (child_at p0 part j) (other1 j away.1) (tree_below j)))
  ]

  node_inside : (q : ℕ) → IsIn p2 kept (suc k) node q → IsIn p0 kept (suc k) part q ⊎ (length p0 < q)
  node_inside q a = elim a.1 [
    | inl e ↦ elim which [
      | inl same ↦ inl (same.0, inl (sym same.1 ∙ e))
      | inr new ↦ inr (omega (arith, new, e, first.0))
    ]
    | inr b ↦ elim (from_any b.0 q b.1) [
      | inl x ↦ inl (up b.0 q x)
      | inr x ↦ inr x.1
    ]
  ]

  node_words : (n : ℕ) → word_of p2 (suc k) node n ≡ with_word (word_of p0 (suc k) part) place word n
  node_words n = elim (eqb_tells (n / room k) digit) [
    | inl hit ↦
        ap (λ c. word_of p2 k c (n % room k)) (at_digit (n / room k) hit.1)
        ∙ frame_words p1 p2 kept same2 closed1_kept k made (n % room k) made2
        ∙ set.words (n % room k)
        ∙ elim (eqb_tells (n % room k) rest) [
          | inl same ↦
              with_here (word_of p0 k (child_at p0 part digit)) rest word (n % room k) same.1
              ∙ sym (with_here (word_of p0 (suc k) part) place word n (same_place (room k) n place (hit.1 ∙ digit_is) (same.1 ∙ rest_is)))
          | inr other ↦
              with_other (word_of p0 k (child_at p0 part digit)) rest word (n % room k) other.1
              ∙ ap (λ d. word_of p0 k (child_at p0 part d) (n % room k)) (sym hit.1)
              ∙ sym (with_other (word_of p0 (suc k) part) place word n (λ e. other.1 (ap (λ x. x % room k) e ∙ sym rest_is)))
        ]
    | inr miss ↦
        ap (λ c. word_of p2 k c (n % room k)) (elsewhere (n / room k) miss.1)
        ∙ frame_words p1 p2 kept same2 closed1_kept k (child_at p0 part (n / room k)) (n % room k) (other2 (n / room k) miss.1)
        ∙ frame_words p0 p1 kept same1 closed_kept k (child_at p0 part (n / room k)) (n % room k) (other1 (n / room k) miss.1)
        ∙ sym (with_other (word_of p0 (suc k) part) place word n (λ e. miss.1 (ap (λ x. x / room k) e ∙ sym digit_is)))
  ]

  pub node_set : IsSet p0 p2 kept (suc k) part node place word
  node_set = record {
    list = node_is;
    words = node_words;
    tree = λ new. (node_below, node_apart, node_above);
    inside = node_inside;
  }

-- no other parts than those of the tree are touched, also where only the child was changed
pub child_touches : (p0 p1 : List Part) (kept k part j : ℕ) → IsClosed p0 kept → Touches p0 p1 kept k (child_at p0 part j) → Touches p0 p1 kept (suc k) part
child_touches p0 p1 kept k part j closed first = (
  first.0,
  λ q h no. first.1 q h (λ a. elim (leb_tells part kept) [
    | inl old ↦ absurd (omega (arith, root_is_new p0 kept k (child_at p0 part j) q a, closed part j old.1))
    | inr new ↦ no (omega (arith, new.1), inr (j, a))
  ]),
)

pub node_touches : (p0 p1 p2 : List Part) (kept k part : ℕ) → Touches p0 p1 kept (suc k) part → LeavesOthers p1 p2 kept part → Touches p0 p2 kept (suc k) part
node_touches p0 p1 p2 kept k part first later =
    (omega (arith, first.0, later.0), λ q h no. later.1 q (omega (arith, h, first.0)) (λ new e. no (new, inl (sym e))) ∙ first.1 q h no)

pub child_tree : (p0 : List Part) (kept k part j : ℕ) → IsClosed p0 kept → IsTree p0 kept (suc k) part → IsTree p0 kept k (child_at p0 part j)
child_tree p0 kept k part j closed tree = elim (leb_tells part kept) [
  | inl old ↦ kept_tree p0 kept k (child_at p0 part j) (closed part j old.1)
  | inr new ↦ (tree (omega (arith, new.1))).0 j
]

-- ---- leaves, and parts that are put

pub leaf_touches : (p0 p1 : List Part) (kept part : ℕ) → LeavesOthers p0 p1 kept part → Touches p0 p1 kept 0 part
leaf_touches p0 p1 kept part later = (later.0, λ q h no. later.1 q h (λ new e. no (new, sym e)))

pub leaf_set : (p0 p1 : List Part) (kept part made place : ℕ) (word : VerificationType) → made ≤ length p1 → IsPut p0 kept part made
    → ((n : ℕ) → word_of p1 0 made n ≡ with_word (word_of p0 0 part) place word n) → IsSet p0 p1 kept 0 part made place word
leaf_set p0 p1 kept part made place word list which words = record {
  list = list;
  words = words;
  tree = tt;
  inside = λ q a. elim which [
    | inl same ↦ inl (same.0, sym same.1 ∙ a.1)
    | inr new ↦ inr (omega (arith, new, a.1))
  ];
}

pub pushed_others : (p q : List Part) (kept part : ℕ) → Grows p q → LeavesOthers p q kept part
pushed_others p q kept part grows = (grows.0, λ i h no. grows.1 i h)

-- a part changed in its place
pub changed_at : (p : List Part) (part : ℕ) (x : Part) → 0 < part → part ≤ length p → part_at (slice_set p (part - 1) x) part ≡ x
changed_at p zero x some h = absurd (omega (arith, some))
changed_at p (suc i) x some h = get_or-set_at p (suc i - 1) i x (Leaf []) (omega arith) (omega (arith, h))

pub changed_others : (p : List Part) (kept part : ℕ) (x : Part) → kept < part → LeavesOthers p (slice_set p (part - 1) x) kept part
changed_others p kept part x new = (let same = length-set p (part - 1) x in omega (arith, same), λ q h other. of q (other new))
  where
    of : (q : ℕ) → ¬ (q ≡ part) → part_at (slice_set p (part - 1) x) q ≡ part_at p q
    of zero ne = refl
    of (suc i) ne = get_or-set_other p (part - 1) i x (Leaf []) (λ e. ne (omega (arith, e, new)))

pub changed_closed : (p : List Part) (kept part : ℕ) (x : Part) → kept < part → part ≤ length p → IsClosed p (length p) → ((j : ℕ) → get_or (node_children x) j 0 ≤ length p)
    → IsClosed (slice_set p (part - 1) x) (length (slice_set p (part - 1) x))
changed_closed p kept part x new h closed children i j within =
    let same = length-set p (part - 1) x in
    elim (eqb_tells i part) [
      | inl here ↦
          let child : child_at (slice_set p (part - 1) x) i j ≡ get_or (node_children x) j 0 = ap (λ y. get_or (node_children y) j 0) (ap (part_at (slice_set p (part - 1) x)) here.1 ∙ changed_at p part x (omega (arith, new)) h) in
          omega (arith, child, children j, same)
      | inr away ↦
          let child : child_at (slice_set p (part - 1) x) i j ≡ child_at p i j = same_child p (slice_set p (part - 1) x) i j ((changed_others p kept part x new).1 i (omega (arith, within, same)) (λ _. away.1)) in
          omega (arith, child, closed i j (omega (arith, within, same)), same)
    ]
