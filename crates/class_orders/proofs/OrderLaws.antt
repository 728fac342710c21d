-- The orders of a class are made of those above it.
use Rattle.std.proofs.Common.{◌≡◌, ◌≢◌, ℕ, zero, suc, ◌+◌, ◌<◌, ◌≤◌, List, [], ◌∷◌, ◌++◌, length, map, flat_map, replicate, Contains, Option, None, Some, slice_get, slice_set, inl, inr, refl, sym, ◌∙◌, ap, subst, arith}
use Rattle.std.specs.Option.{option_map_or}
use Rattle.std.proofs.lemmas.Bool.{cases_eq}
use Rattle.std.proofs.lemmas.List.{length-replicate}
use Rattle.std.proofs.lemmas.Option.{same_Some, slice_get_within}
use Rattle.std.specs.Option.{IsSomeAnd}
use Rattle.search_orders.specs.Orders.{put, put_all, without_repeats}
use Rattle.search_orders.proofs.OrderLaws.{put_all_append, put_all_once, once_append}
use Rattle.link_rules.specs.Classes.{NamedClass, class_number, class_numbered, superclass_of, interfaces_of}
use Rattle.link_rules.specs.Supers.{HasSuper, superclasses, superinterfaces, field_order, PutsSupersFirst}
use Rattle.link_rules.proofs.Lists.{contains_head, contains_tail, contains_cases, contains_none}
use Rattle.link_rules.proofs.Numbers.{superclass_within, class_number_within}
use Rattle.link_rules.proofs.Upward.{up_none, superclasses_step}
use Rattle.link_rules.proofs.Above.{interfaces_none, interfaces_step}
use Rattle.class_orders.specs.declared.class_order.ClassOrder.{ClassOrder}
use Rattle.class_orders.specs.Orders.{IsOrders, HasOrders, AreOrders, interfaces_in, IsBuilt, IsReady, no_orders}

-- lists that bring the same to each list
same_brought : (g h : ℕ → List ℕ) (acc xs : List ℕ) → ((us : List ℕ) (x : ℕ) → Contains xs x → put_all us (g x) ≡ put_all us (h x)) → put_all acc (flat_map g xs) ≡ put_all acc (flat_map h xs)
same_brought g h acc [] same = refl
same_brought g h acc (x ∷ xs) same =
    put_all_append acc (g x) (flat_map g xs)
    ∙ ap (λ us. put_all us (flat_map g xs)) (same acc x (contains_head x xs))
    ∙ same_brought g h (put_all acc (h x)) xs (λ us y there. same us y (contains_tail x xs y there))
    ∙ sym (put_all_append acc (h x) (flat_map h xs))

pub built_is_right : (cs : List NamedClass) (os : List ClassOrder) (c : ℕ) (a o : ClassOrder) → IsReady cs os c → IsOrders cs (superclass_of cs c) a → IsBuilt os c a (interfaces_of cs c) o → IsOrders cs c o
built_is_right cs os c a o ready above built = record {
  upward = upward;
  interfaces = interfaces;
  all_interfaces = all;
  methods = built.methods ∙ ap (λ xs. put_all (without_repeats xs) o.all_interfaces) upward ∙ ap (put_all (without_repeats (without_repeats (superclasses cs c)))) all
      ∙ ap (λ xs. put_all xs (without_repeats (flat_map (superinterfaces cs) (superclasses cs c)))) (put_all_once [] (superclasses cs c))
      ∙ sym (once_append (superclasses cs c) (flat_map (superinterfaces cs) (superclasses cs c)));
  fields = built.fields ∙ ap (λ xs. put_all (put_all (put [] c) xs) a.fields) interfaces ∙ ap (put_all (put_all (put [] c) (without_repeats (superinterfaces cs c)))) above.fields
      ∙ put_all_once (put_all (put [] c) (without_repeats (superinterfaces cs c))) (field_order cs s)
      ∙ ap (λ xs. put_all xs (field_order cs s)) (put_all_once (put [] c) (superinterfaces cs c))
      ∙ sym (put_all_append [] (c ∷ superinterfaces cs c) (field_order cs s))
      ∙ ap (λ xs. without_repeats (flat_map (λ d. d ∷ superinterfaces cs d) xs)) (sym ready.up);
}
  where
    s : ℕ
    s = superclass_of cs c

    upward : o.superclasses ≡ without_repeats (superclasses cs c)
    upward = built.superclasses ∙ ap (put_all (put [] c)) above.upward ∙ put_all_once (put [] c) (superclasses cs s) ∙ ap without_repeats (sym ready.up)

    interfaces : o.interfaces ≡ without_repeats (superinterfaces cs c)
    interfaces =
        built.interfaces
        ∙ same_brought (λ i. i ∷ interfaces_in os i) (λ i. i ∷ superinterfaces cs i) [] (interfaces_of cs c)
        (λ us i there. ap (put_all (put us i)) (ready.interfaces i there) ∙ put_all_once (put us i) (superinterfaces cs i))
        ∙ ap without_repeats (sym ready.over)

    all : o.all_interfaces ≡ without_repeats (flat_map (superinterfaces cs) (superclasses cs c))
    all =
        built.all_interfaces ∙ ap (λ xs. put_all (without_repeats xs) a.all_interfaces) interfaces ∙ ap (put_all (without_repeats (without_repeats (superinterfaces cs c)))) above.all_interfaces
        ∙ put_all_once (without_repeats (without_repeats (superinterfaces cs c))) (flat_map (superinterfaces cs) (superclasses cs s))
        ∙ ap (λ xs. put_all xs (flat_map (superinterfaces cs) (superclasses cs s))) (put_all_once [] (superinterfaces cs c))
        ∙ sym (put_all_append [] (superinterfaces cs c) (flat_map (superinterfaces cs) (superclasses cs s)))
        ∙ ap (λ xs. without_repeats (flat_map (superinterfaces cs) xs)) (sym ready.up)

-- ---- the table

numbers_within : (cs : List NamedClass) (names : List (List ℕ)) (i : ℕ) → Contains (map (class_number cs) names) i → i ≤ length cs
numbers_within cs [] i there = absurd (contains_none i there)
numbers_within cs (name ∷ names) i there = elim (contains_cases (class_number cs name) (map (class_number cs) names) i there) [
  | inl same ↦ subst (λ n. n ≤ length cs) same (class_number_within cs name)
  | inr later ↦ numbers_within cs names i later
]

interface_within : (cs : List NamedClass) (c i : ℕ) → Contains (interfaces_of cs c) i → i ≤ length cs
interface_within cs c i there = go (class_numbered cs c) there
  where
    go : (o : Option NamedClass) → Contains (option_map_or (λ (k : NamedClass). map (class_number cs) k.interfaces) o []) i → i ≤ length cs
    go None there = absurd (contains_none i there)
    go (Some k) there = numbers_within cs k.interfaces i there

at_set : {X : Type 0} (xs : List X) (i : ℕ) (x : X) → i < length xs → slice_get (slice_set xs i x) i ≡ Some x
at_set [] i x lt = absurd (omega arith)
at_set (y ∷ ys) zero x lt = refl
at_set (y ∷ ys) (suc i) x lt = at_set ys i x (omega arith)

pub beside_set : {X : Type 0} (xs : List X) (i j : ℕ) (x : X) → i ≢ j → slice_get (slice_set xs i x) j ≡ slice_get xs j
beside_set [] i j x ne = refl
beside_set (y ∷ ys) zero zero x ne = absurd (ne refl)
beside_set (y ∷ ys) zero (suc j) x ne = refl
beside_set (y ∷ ys) (suc i) zero x ne = refl
beside_set (y ∷ ys) (suc i) (suc j) x ne = beside_set ys i j x (λ same. ne (omega (arith, same)))

pub has_at : (cs : List NamedClass) (os : List ClassOrder) (c : ℕ) (o : ClassOrder) → slice_get os c ≡ Some o → IsOrders cs c o → HasOrders cs os c
has_at cs os c o at is = subst (λ x. IsSomeAnd x (IsOrders cs c)) (sym at) is

pub orders_at : (cs : List NamedClass) (os : List ClassOrder) (c : ℕ) (o : ClassOrder) → slice_get os c ≡ Some o → HasOrders cs os c → IsOrders cs c o
orders_at cs os c o at has = subst (λ x. IsSomeAnd x (IsOrders cs c)) at has

pub has_set : (cs : List NamedClass) (os : List ClassOrder) (c : ℕ) (o : ClassOrder) → c < length os → IsOrders cs c o → HasOrders cs (slice_set os c o) c
has_set cs os c o lt is = has_at cs (slice_set os c o) c o (at_set os c o lt) is

interfaces_at : (cs : List NamedClass) (os : List ClassOrder) (c : ℕ) → HasOrders cs os c → interfaces_in os c ≡ without_repeats (superinterfaces cs c)
interfaces_at cs os c has = go (slice_get os c) has
  where
    go : (o : Option ClassOrder) → IsSomeAnd o (IsOrders cs c) → option_map_or (λ (x : ClassOrder). x.interfaces) o [] ≡ without_repeats (superinterfaces cs c)
    go None has = absurd has
    go (Some o) has = has.interfaces

none_above : (cs : List NamedClass) → IsOrders cs 0 no_orders
none_above cs =
    let up : superclasses cs 0 ≡ [] = up_none cs (length cs) in
    let over : superinterfaces cs 0 ≡ [] = interfaces_none cs (length cs) in
    record {
      upward = ap without_repeats (sym up);
      interfaces = ap without_repeats (sym over);
      all_interfaces = ap (λ xs. without_repeats (flat_map (superinterfaces cs) xs)) (sym up);
      methods = ap (λ xs. without_repeats (xs ++ flat_map (superinterfaces cs) xs)) (sym up);
      fields = ap (λ xs. without_repeats (flat_map (λ d. d ∷ superinterfaces cs d) xs)) (sym up);
    }

at_replicate : {X : Type 0} (n i : ℕ) (x : X) → i < n → slice_get (replicate n x) i ≡ Some x
at_replicate zero i x lt = absurd (omega arith)
at_replicate (suc n) zero x lt = refl
at_replicate (suc n) (suc i) x lt = at_replicate n i x (omega arith)

-- the orders so far: those of the first classes of an order, and of no class
pub record HaveOrders (cs : List NamedClass) (order : List ℕ) (k : ℕ) (os : List ClassOrder) : Type 0 where
  pub size : length os ≡ suc (length cs)
  pub none : HasOrders cs os 0
  pub each : (j c : ℕ) → j < k → slice_get order j ≡ Some c → c ≢ 0 → c ≤ length cs → HasOrders cs os c

pub none_yet : (cs : List NamedClass) (order : List ℕ) (n : ℕ) (os : List ClassOrder) → n ≡ suc (length cs) → os ≡ replicate n no_orders → HaveOrders cs order 0 os
none_yet cs order n os count is = record {
  size = ap length is ∙ length-replicate n no_orders ∙ count;
  none = has_at cs os 0 no_orders (ap (λ xs. slice_get xs 0) is ∙ at_replicate n 0 no_orders (omega arith)) (none_above cs);
  each = λ j c lt at ne within. absurd (omega arith);
}

ready : (cs : List NamedClass) (order : List ℕ) (k : ℕ) (os : List ClassOrder) (c : ℕ) → PutsSupersFirst cs order → HaveOrders cs order k os → slice_get order k ≡ Some c → c ≢ 0 → c ≤ length cs → IsReady cs os c
ready cs order k os c first so_far at ne within = record {
  up = superclasses_step cs order first c ne within;
  over = interfaces_step cs order first c ne within;
  above = go (superclass_of cs c) refl;
  interfaces = λ i there. interfaces_at cs os i (named i there);
}
  where
    of_super : (d : ℕ) → HasSuper cs c d → d ≤ length cs → HasOrders cs os d
    of_super d h room = let b = first.before k c d at h in so_far.each b.0 d b.1 b.2 h.0 room

    go : (s : ℕ) → superclass_of cs c ≡ s → HasOrders cs os s
    go zero e = so_far.none
    go (suc s) e = of_super (suc s) ((λ z. omega (arith, z)), inl e) (subst (λ n. n ≤ length cs) e (superclass_within cs c))

    named : (i : ℕ) → Contains (interfaces_of cs c) i → HasOrders cs os i
    named i there = elim (cases_eq i 0) [
      | inl same ↦ subst (HasOrders cs os) (sym same) so_far.none
      | inr some ↦ of_super i (some, inr there) (interface_within cs c i there)
    ]

pub one_more : (cs : List NamedClass) (order : List ℕ) (k : ℕ) (old new : List ClassOrder) (c : ℕ) → PutsSupersFirst cs order → HaveOrders cs order k old → slice_get order k ≡ Some c → length new ≡ length old
    → (c ≢ 0 → c ≤ length cs → IsReady cs old c → HasOrders cs new c) → ((d : ℕ) → (d ≡ c → c ≡ 0) → slice_get new d ≡ slice_get old d) → HaveOrders cs order (k + 1) new
one_more cs order k old new c first so_far at size its others = record {
  size = size ∙ so_far.size;
  none = stays 0 (λ same. sym same) so_far.none;
  each = λ j d lt e ne within. elim (cases_eq d c) [
    | inl same ↦
        let mine : c ≢ 0 = λ z. ne (same ∙ z) in
        let room : c ≤ length cs = subst (λ n. n ≤ length cs) same within in
        subst (HasOrders cs new) (sym same) (its mine room (ready cs order k old c first so_far at mine room))
    | inr other ↦ stays d (λ same. absurd (other same)) (so_far.each j d (before j d lt e other) e ne within)
  ];
}
  where
    stays : (d : ℕ) → (d ≡ c → c ≡ 0) → HasOrders cs old d → HasOrders cs new d
    stays d apart has = subst (λ o. IsSomeAnd o (IsOrders cs d)) (sym (others d apart)) has

    before : (j d : ℕ) → j < k + 1 → slice_get order j ≡ Some d → d ≢ c → j < k
    before j d lt e other = elim (cases_eq j k) [
      | inl same ↦ absurd (other (same_Some d c (sym e ∙ ap (slice_get order) same ∙ at)))
      | inr apart ↦ omega (arith, apart)
    ]

pub all_there : (cs : List NamedClass) (order : List ℕ) (k : ℕ) (os : List ClassOrder) → PutsSupersFirst cs order → HaveOrders cs order k os → length order ≤ k → AreOrders cs os
all_there cs order k os first so_far le = record {
  size = so_far.size;
  each = λ c within. elim (cases_eq c 0) [
    | inl same ↦ subst (HasOrders cs os) (sym same) so_far.none
    | inr some ↦
        let h = first.whole c some within in
        let lt : h.0 < length order = slice_get_within order h.0 c h.1 in
        so_far.each h.0 c (omega arith) h.1 some within
  ];
}
