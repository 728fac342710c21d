-- Types by their descriptors, one after the other, and in order.
use Rattle.std.proofs.Common.{◌≡◌, ◌⊎◌, ℕ, ◌+◌, ◌<◌, ◌==◌, true, false, cond, List, [], ◌∷◌, map, take, Contains, slice_get, IsSome, is_some, Option, None, Some, bytes_eq, inl, inr, refl, sym, ap, subst, ◌∙◌, nat_cmp, arith}
use Rattle.std.specs.Ordering.{ordering_then}
use Rattle.std.specs.BTreeMap.{BTreeMap, IsOrdered}
use Rattle.std.specs.Borrow.{Bor}
use Rattle.std.specs.Cmp.Lexicographic.{slice_cmp}
use Rattle.std.specs.List.Sorted.{IsStrictlySortedBy}
use Rattle.std.specs.List.{AllByRecursion}
use Rattle.std.specs.Map.{update, keys_of}
use Rattle.std.specs.declared.cmp.Ordering.TheVariants.{Less, Equal, Greater}
use borrow.Author.Tests.{eq-eqb, ne_eqb}
use Rattle.std.proofs.lemmas.Bool.{cases_Bool, cases_order, le-ltb}
use Rattle.std.specs.Cmp.{on_total}
use Rattle.std.specs.Cmp.Lexicographic.{nat_list_cmp_total}
use Rattle.std.proofs.lemmas.List.Elements.{Contains-append_cases}
use Rattle.std.proofs.lemmas.Map.Entries.{place_from_lookup, btree_map_get_place}
use Rattle.std.specs.Option.{option_map}
use Rattle.std.proofs.lemmas.Option.{same_Some, slice_get-map, slice_get-get_or}
use Rattle.std.proofs.lemmas.Slice.Eq.{bytes_eq-Decides}
use Rattle.class_read.proofs.FindLaws.{take_next}
use Rattle.link_rules.proofs.Lists.{contains_head, contains_tail, contains_cases, contains_none, contains_at}
use Rattle.link_types.specs.declared.types.ElementType.{ElementType}
use Rattle.array_order.specs.Order.{StandInOrder}
use Rattle.array_order.proofs.Texts.{Before, by_less, by_rest}
use Rattle.base_order.specs.declared.text.BaseText.{BaseText}
use Rattle.base_order.specs.Sorted.{found, KnowsTexts, AreInOrder}

-- ---- one type more

pub knows_more : (texts : List BaseText) (i : ℕ) (t : BaseText) (old new : BTreeMap (Bor (List ℕ)) ElementType) → slice_get texts i ≡ Some t → KnowsTexts (take i texts) old
    → ((q : List ℕ) → found new q ≡ update bytes_eq (found old) t.text (Some t.base) q) → IsOrdered (λ x y. slice_cmp nat_cmp x.now y.now) new → KnowsTexts (take (i + 1) texts) new
knows_more texts i t old new at knows changes ordered = record {
  there = λ s h. elim (Contains-append_cases (take i texts) (t ∷ []) s (subst (λ xs. Contains xs s) (take_next texts i t at) h)) [
    | inl before ↦ by_old s (knows.there s before)
    | inr last ↦ elim (contains_cases t [] s last) [
      | inl same ↦ subst (λ (x : BaseText). IsSome (found new x.text)) same mine
      | inr none ↦ absurd (contains_none s none)
    ]
  ];
  only = λ text base e. by_cases text base e (cases_Bool (bytes_eq t.text text));
  ordered = ordered;
}
  where
    mine : IsSome (found new t.text)
    mine = (let same : bytes_eq t.text t.text ≡ true = (bytes_eq-Decides t.text t.text).1 refl in ap is_some (rw same at (changes t.text)))

    by_old : (s : BaseText) → IsSome (found old s.text) → IsSome (found new s.text)
    by_old s some = go (cases_Bool (bytes_eq t.text s.text))
      where
        go : (bytes_eq t.text s.text ≡ true) ⊎ (bytes_eq t.text s.text ≡ false) → IsSome (found new s.text)
        go (inl same) = ap is_some (rw same at (changes s.text))
        go (inr other) = (let stays : found new s.text ≡ found old s.text = rw other at (changes s.text) in subst (λ o. IsSome o) (sym stays) some)

    wider : (text : List ℕ) (base : ElementType) → (s : BaseText) × Contains (take i texts) s × (s.text ≡ text) × (s.base ≡ base) → (s : BaseText) × Contains (take (i + 1) texts) s × (s.text ≡ text) × (s.base ≡ base)
    wider text base h = (h.0, subst (λ xs. Contains xs h.0) (sym (take_next texts i t at)) (Rattle.std.proofs.lemmas.List.Elements.Contains-append_left (take i texts) (t ∷ []) h.0 h.1), h.2, h.3)

    by_cases : (text : List ℕ) (base : ElementType) → found new text ≡ Some base → (bytes_eq t.text text ≡ true) ⊎ (bytes_eq t.text text ≡ false) → (s : BaseText) × Contains (take (i + 1) texts) s × (s.text ≡ text) × (s.base ≡ base)
    by_cases text base e (inl same) =
        let here : found new text ≡ Some t.base = rw same at (changes text) in
        (t, subst (λ xs. Contains xs t) (sym (take_next texts i t at)) (Rattle.std.proofs.lemmas.List.Elements.Contains-push (take i texts) t), (bytes_eq-Decides t.text text).0 same, same_Some t.base base (sym here ∙ e))
    by_cases text base e (inr other) =
        let stays : found new text ≡ found old text = rw other at (changes text) in
        wider text base (knows.only text base (sym stays ∙ e))

-- ---- the order of a map's keys

less_before : (x y : List ℕ) → slice_cmp nat_cmp x y ≡ Less → Before x y
less_before [] [] e = absurd cc
less_before [] (b ∷ y) e = refl
less_before (a ∷ x) [] e = absurd cc
less_before (a ∷ x) (b ∷ y) e = go (cases_order a b) e (less_before x y)
  where
    go : (a ≡ b) ⊎ ((a < b) ⊎ (b < a)) → slice_cmp nat_cmp (a ∷ x) (b ∷ y) ≡ Less → (slice_cmp nat_cmp x y ≡ Less → Before x y) → Before (a ∷ x) (b ∷ y)
    go (inl same) e again =
        let tied : nat_cmp a b ≡ Equal = ap (λ t. cond t Less (cond (a == b) Equal Greater)) (le-ltb a b (omega arith)) ∙ ap (λ t. cond t Equal Greater) (eq-eqb a b same) in
        let rest : slice_cmp nat_cmp x y ≡ Less = sym (ap (λ o. ordering_then o (slice_cmp nat_cmp x y)) tied) ∙ e in
        subst (λ c. Before (a ∷ x) (c ∷ y)) same (by_rest a x y ∙ again rest)
    go (inr (inl less)) e again = by_less a b x y less
    go (inr (inr more)) e again =
        let greater : nat_cmp a b ≡ Greater = ap (λ t. cond t Less (cond (a == b) Equal Greater)) (le-ltb a b (omega arith)) ∙ ap (λ t. cond t Equal Greater) (ne_eqb a b (λ z. omega (arith, z))) in
        let wrong : Greater ≡ Less = sym (ap (λ o. ordering_then o (slice_cmp nat_cmp x y)) greater) ∙ e in
        absurd cc

abbrev text_of : (Bor (List ℕ) × ElementType) → List ℕ
text_of e = e.0.now

all_behind : (k : Bor (List ℕ)) (es : List (Bor (List ℕ) × ElementType)) → AllByRecursion (λ (z : Bor (List ℕ)). slice_cmp nat_cmp k.now z.now ≡ Less) (keys_of es) → (y : List ℕ) → Contains (map text_of es) y → Before k.now y
all_behind k [] all y h = absurd (contains_none y h)
all_behind k (e ∷ es) all y h = elim (contains_cases e.0.now (map text_of es) y h) [
  | inl same ↦ subst (Before k.now) same (less_before k.now e.0.now all.0)
  | inr later ↦ all_behind k es all.1 y later
]

keys_in_order : (es : List (Bor (List ℕ) × ElementType)) → IsStrictlySortedBy (λ (x y : Bor (List ℕ)). slice_cmp nat_cmp x.now y.now) (keys_of es) → StandInOrder (map text_of es)
unfolding IsStrictlySortedBy
keys_in_order [] sorted = tt
keys_in_order (e ∷ es) sorted = (all_behind e.0 es sorted.0, keys_in_order es sorted.1)

map_same : {X Y : Type 0} (f g : X → Y) (xs : List X) → ((x : X) → Contains xs x → f x ≡ g x) → map f xs ≡ map g xs
map_same f g [] same = refl
map_same f g (x ∷ xs) same = ap (λ y. y ∷ map f xs) (same x (contains_head x xs)) ∙ ap (λ ys. g x ∷ ys) (map_same f g xs (λ y h. same y (contains_tail x xs y h)))

map_twice : {X Y Z : Type 0} (f : Y → Z) (g : X → Y) (xs : List X) → map f (map g xs) ≡ map (λ x. f (g x)) xs
map_twice f g [] = refl
map_twice f g (x ∷ xs) = ap (λ ys. f (g x) ∷ ys) (map_twice f g xs)

-- the value of an entry is what is found at its key
entry_found : (known : BTreeMap (Bor (List ℕ)) ElementType) (i : ℕ) (k : Bor (List ℕ)) (v : ElementType) → IsOrdered (λ x y. slice_cmp nat_cmp x.now y.now) known → slice_get known.entries i ≡ Some (k, v) → found known k.now ≡ Some v
entry_found known i k v ordered at = btree_map_get_place (on_total (λ (x : Bor (List ℕ)). x.now) nat_list_cmp_total) known i k v ordered at

pub in_order_right : (descriptor : ElementType → List ℕ) (texts : List BaseText) (known : BTreeMap (Bor (List ℕ)) ElementType) (bases : List ElementType) → KnowsTexts texts known → bases ≡ map (λ (e : Bor (List ℕ) × ElementType). e.1) known.entries → AreInOrder descriptor texts bases
in_order_right descriptor texts known bases knows are = record {
  order = λ its. subst StandInOrder (sym (descriptors its)) (keys_in_order known.entries knows.ordered);
  there = λ its t h. there its t h (found known t.text) refl (knows.there t h);
  only = λ base h. only base (subst (λ xs. Contains xs base) are h);
}
  where
    Its : Type 0
    Its = (t : BaseText) → Contains texts t → descriptor t.base ≡ t.text

    at_entry : (e : Bor (List ℕ) × ElementType) → Contains known.entries e → (t : BaseText) × Contains texts t × (t.text ≡ e.0.now) × (t.base ≡ e.1)
    at_entry e h =
        knows.only e.0.now e.1 (entry_found known h.0 e.0 e.1 knows.ordered (slice_get-get_or known.entries h.0 e h.1 ∙ ap (λ (x : Bor (List ℕ) × ElementType). Some x) h.2))

    descriptors : ((t : BaseText) → Contains texts t → descriptor t.base ≡ t.text) → map descriptor bases ≡ map text_of known.entries
    descriptors its =
        ap (map descriptor) are ∙ map_twice descriptor (λ (e : Bor (List ℕ) × ElementType). e.1) known.entries
        ∙ map_same (λ (e : Bor (List ℕ) × ElementType). descriptor e.1) text_of known.entries
        (λ e h. let t = at_entry e h in ap descriptor (sym t.3) ∙ its t.0 t.1 ∙ t.2)

    there : ((t : BaseText) → Contains texts t → descriptor t.base ≡ t.text) → (t : BaseText) → Contains texts t → (o : Option ElementType) → found known t.text ≡ o → IsSome o → Contains (map descriptor bases) t.text
    there its t h None e some = absurd cc
    there its t h (Some v) e some =
        let place = place_from_lookup _ known.entries v e in
        let mine = knows.only t.text v e in
        let at : slice_get bases place.0 ≡ Some v = ap (λ xs. slice_get xs place.0) are ∙ slice_get-map (λ (x : Bor (List ℕ) × ElementType). x.1) known.entries place.0 ∙ ap (option_map (λ (x : Bor (List ℕ) × ElementType). x.1)) place.2 in
        let described : slice_get (map descriptor bases) place.0 ≡ Some (descriptor v) = slice_get-map descriptor bases place.0 ∙ ap (option_map descriptor) at in
        subst (Contains (map descriptor bases)) (ap descriptor (sym mine.3) ∙ its mine.0 mine.1 ∙ mine.2) (contains_at (map descriptor bases) place.0 (descriptor v) described)

    only : (base : ElementType) → Contains (map (λ (e : Bor (List ℕ) × ElementType). e.1) known.entries) base → (t : BaseText) × Contains texts t × (t.base ≡ base)
    only base h = of_entry (slice_get known.entries h.0) refl (sym (slice_get-map (λ (x : Bor (List ℕ) × ElementType). x.1) known.entries h.0) ∙ slice_get-get_or (map (λ (x : Bor (List ℕ) × ElementType). x.1) known.entries) h.0 base h.1 ∙ ap (λ x. Some x) h.2)
      where
        of_entry : (o : Option (Bor (List ℕ) × ElementType)) → slice_get known.entries h.0 ≡ o → option_map (λ (x : Bor (List ℕ) × ElementType). x.1) o ≡ Some base → (t : BaseText) × Contains texts t × (t.base ≡ base)
        of_entry None at e = absurd cc
        of_entry (Some x) at e =
            let t = at_entry x (contains_at known.entries h.0 x at) in
            (t.0, t.1, t.3 ∙ same_Some x.1 base e)
