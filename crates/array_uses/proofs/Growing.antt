-- The most dimensions, one array after the other.
use Rattle.std.proofs.Common.{◌≡◌, ◌≢◌, ℕ, zero, suc, ◌+◌, ◌<◌, ◌≤◌, List, [], ◌∷◌, ◌++◌, length, map, max, take, Contains, slice_get, get_or, Some, replicate, append_assoc, flat_map, inl, inr, refl, sym, ap, subst, ◌∙◌, arith}
use Rattle.std.specs.Option.{option_map}
use Rattle.std.proofs.lemmas.Bool.{cases_eq, cases_lt}
use Rattle.std.proofs.lemmas.List.{append-nil, length-map, length-replicate}
use Rattle.std.proofs.lemmas.List.Elements.{Contains-append_cases, Contains-append_left, Contains-append_right}
use Rattle.std.proofs.lemmas.Grind.{flat_map-append}
use Rattle.std.proofs.lemmas.Option.{none-some, same_Some, slice_get_within, slice_get-map, slice_get-get_or}
use Rattle.class_read.proofs.FindLaws.{take_next}
use Rattle.code_decode.specs.declared.code.ClassUnit.{ClassUnit}
use Rattle.link_rules.specs.Classes.{classes_of}
use Rattle.link_rules.proofs.Lists.{contains_head, contains_cases, contains_none}
use Rattle.array_order.specs.Order.{array_text, HasMost, AreMost}
use Rattle.base_order.specs.declared.order.BaseOrder.{BaseOrder}
use Rattle.base_order.specs.Bases.{base_text}
use Rattle.array_kinds.specs.declared.kind.ArrayKind.{ArrayKind}
use Rattle.array_uses.specs.Most.{IsArrayIn, base_texts, IsMost, MostGrows}

-- how many dimensions there are at most, with one array more
pub record IsRaised (old new : List ℕ) (place d : ℕ) : Type 0 where
  pub count : length new ≡ length old
  pub here : place < length old → slice_get new place ≡ Some (max (get_or old place 0) d)
  pub elsewhere : (i : ℕ) → i ≢ place → slice_get new i ≡ slice_get old i

module _ (bases : List (List ℕ)) (old new : List ℕ) (place d : ℕ) (base : List ℕ) (arrays : List (List ℕ))
    (count : length old ≡ length bases) (at : slice_get bases place ≡ Some base) (some : 0 < d) (few : d ≤ 255)
    (raised : IsRaised old new place d) (are : AreMost arrays bases old) where
  room : place < length old
  room = (let lt : place < length bases = slice_get_within bases place base at in omega (arith, lt, count))

  old_there : slice_get old place ≡ Some (get_or old place 0)
  old_there = slice_get-get_or old place 0 room

  -- what had a number of dimensions has as many at least
  has_still : (b : List ℕ) (m : ℕ) → HasMost bases old b m → (n : ℕ) × HasMost bases new b n × (m ≤ n)
  has_still b m has = elim (cases_eq has.place place) [
    | inl same ↦
        let m_is : m ≡ get_or old place 0 = same_Some m (get_or old place 0) (sym has.most_there ∙ ap (slice_get old) same ∙ old_there) in (
          max (get_or old place 0) d,
          record { place = has.place; base_there = has.base_there; most_there = ap (slice_get new) same ∙ raised.here room },
          omega arith,
        )
    | inr other ↦ (m, record { place = has.place; base_there = has.base_there; most_there = raised.elsewhere has.place other ∙ has.most_there }, omega arith)
  ]

  mine : HasMost bases new base (max (get_or old place 0) d)
  mine = record { place = place; base_there = at; most_there = raised.here room }

  old_of : (b : List ℕ) (m : ℕ) (has : HasMost bases new b m) → has.place ≢ place → HasMost bases old b m
  old_of b m has other = record { place = has.place; base_there = has.base_there; most_there = sym (raised.elsewhere has.place other) ∙ has.most_there }

  all : List (List ℕ)
  all = arrays ++ array_text d base ∷ []

  pub raised_most : AreMost (arrays ++ array_text d base ∷ []) bases new
  raised_most = record {
    within = λ root h. elim (Contains-append_cases arrays (array_text d base ∷ []) root h) [
      | inl before ↦
          let w = are.within root before in
          let still = has_still w.0 w.1 w.3 in
          let le = w.5 in
          let more = still.2 in
          (w.0, still.0, w.2, still.1, w.4, omega arith, w.6)
      | inr last ↦ elim (contains_cases (array_text d base) [] root last) [
        | inl same ↦ (base, max (get_or old place 0) d, d, mine, some, omega arith, sym same)
        | inr no_more ↦ absurd (contains_none root no_more)
      ]
    ];
    reached = λ b m has pos. elim (cases_eq has.place place) [
      | inr other ↦ Contains-append_left arrays (array_text d base ∷ []) (array_text m b) (are.reached b m (old_of b m has other) pos)
      | inl same ↦
          let base_is : base ≡ b = same_Some base b (sym at ∙ ap (slice_get bases) (sym same) ∙ has.base_there) in
          let most_is : m ≡ max (get_or old place 0) d = same_Some m (max (get_or old place 0) d) (sym has.most_there ∙ ap (slice_get new) same ∙ raised.here room) in
          elim (cases_lt (get_or old place 0) d) [
            | inl less ↦
                let is : d ≡ m = omega (arith, most_is) in
                subst (λ n. Contains (arrays ++ array_text d base ∷ []) (array_text n b)) is
                (subst (λ x. Contains (arrays ++ array_text d base ∷ []) (array_text d x)) base_is
                (Contains-append_right arrays (array_text d base ∷ []) (array_text d base) (contains_head (array_text d base) [])))
            | inr enough ↦
                let is : get_or old place 0 ≡ m = omega (arith, most_is) in
                let had : HasMost bases old b (get_or old place 0) = record { place = has.place; base_there = has.base_there; most_there = ap (slice_get old) same ∙ old_there } in
                Contains-append_left arrays (array_text d base ∷ []) (array_text m b)
                (are.reached b m (subst (HasMost bases old b) is had) pos)
          ]
    ];
    few = λ b m has. elim (cases_eq has.place place) [
      | inr other ↦ are.few b m (old_of b m has other)
      | inl same ↦
          let most_is : m ≡ max (get_or old place 0) d = same_Some m (max (get_or old place 0) d) (sym has.most_there ∙ ap (slice_get new) same ∙ raised.here room) in
          let before : get_or old place 0 ≤ 255 = are.few base (get_or old place 0) (record { place = place; base_there = at; most_there = old_there }) in
          omega arith
    ];
  }

-- ---- one array and some

module _ (us : List ClassUnit) (order : BaseOrder) where
  pub array_added : (old new : List ℕ) (place : ℕ) (a : ArrayKind) (text : List ℕ) → slice_get order.bases.items place ≡ Some a.base → IsArrayIn (classes_of us) a text → IsRaised old new place a.dimensions
      → MostGrows us order old new (text ∷ [])
  array_added old new place a text at is raised = λ arrays most.
      let at_text : slice_get (map (base_text (classes_of us)) order.bases.items) place ≡ Some (base_text (classes_of us) a.base) =
      slice_get-map (base_text (classes_of us)) order.bases.items place ∙ ap (option_map (base_text (classes_of us))) at in
      record {
        count = raised.count ∙ most.count;
        are = subst (λ t. AreMost (arrays ++ t ∷ []) (base_texts us order) new) (sym is.spelled)
            (raised_most (map (base_text (classes_of us)) order.bases.items) old new place a.dimensions (base_text (classes_of us) a.base) arrays (most.count ∙ sym (length-map order.bases.items (base_text (classes_of us))))
            at_text is.some is.few raised most.are);
      }

  pub grows_none : (most : List ℕ) (texts : List (List ℕ)) → texts ≡ [] → MostGrows us order most most texts
  grows_none most texts none = λ arrays is. subst (λ xs. IsMost us order xs most) (sym (ap (λ ys. arrays ++ ys) none ∙ append-nil arrays)) is

  pub grows_then : (old mid new : List ℕ) (xs ys : List (List ℕ)) → MostGrows us order old mid xs → MostGrows us order mid new ys → MostGrows us order old new (xs ++ ys)
  grows_then old mid new xs ys first second = λ arrays is.
      subst (λ zs. IsMost us order zs new) (append_assoc arrays xs ys) (second (arrays ++ xs) (first arrays is))

  pub grows_item : {X : Type 0} (f : X → List (List ℕ)) (xs : List X) (i : ℕ) (x : X) (old mid new : List ℕ) → slice_get xs i ≡ Some x
      → MostGrows us order old mid (flat_map f (take i xs)) → MostGrows us order mid new (f x) → MostGrows us order old new (flat_map f (take (i + 1) xs))
  grows_item f xs i x old mid new at first second =
      subst (MostGrows us order old new)
      (ap (λ ys. flat_map f (take i xs) ++ ys) (sym (append-nil (f x))) ∙ sym (flat_map-append f (take i xs) (x ∷ [])) ∙ ap (flat_map f) (sym (take_next xs i x at)))
      (grows_then old mid new (flat_map f (take i xs)) (f x) first second)

-- what is made of what is made of items
pub flat_twice : {X Y Z : Type 0} (g : Y → List Z) (f : X → List Y) (xs : List X) → flat_map g (flat_map f xs) ≡ flat_map (λ x. flat_map g (f x)) xs
flat_twice g f [] = refl
flat_twice g f (x ∷ xs) = flat_map-append g (f x) (flat_map f xs) ∙ ap (λ ys. flat_map g (f x) ++ ys) (flat_twice g f xs)

-- no arrays
zeros : (n i m : ℕ) → slice_get (replicate n 0) i ≡ Some m → m ≡ 0
zeros zero i m e = absurd (none-some m e)
zeros (suc n) zero m e = sym (same_Some 0 m e)
zeros (suc n) (suc i) m e = zeros n i m e

pub none_most : (us : List ClassUnit) (order : BaseOrder) (most : List ℕ) → most ≡ replicate (length order.bases.items) 0 → IsMost us order [] most
none_most us order most is = subst (IsMost us order []) (sym is) (record {
  count = length-replicate (length order.bases.items) 0;
  are = record {
    within = λ root h. absurd (contains_none root h);
    reached = λ b m has pos. absurd (let none : m ≡ 0 = zeros (length order.bases.items) has.place m has.most_there in omega arith);
    few = λ b m has. (let none : m ≡ 0 = zeros (length order.bases.items) has.place m has.most_there in omega arith);
  };
})

-- what is made of one more item, after others
pub more_items : {X : Type 0} (us : List ClassUnit) (order : BaseOrder) (f : X → List (List ℕ)) (before : List (List ℕ)) (xs : List X) (i : ℕ) (x : X) (old new : List ℕ) → slice_get xs i ≡ Some x
    → IsMost us order (before ++ flat_map f (take i xs)) old → MostGrows us order old new (f x) → IsMost us order (before ++ flat_map f (take (i + 1) xs)) new
more_items us order f before xs i x old new at is grows =
    subst (λ ys. IsMost us order ys new)
    (append_assoc before (flat_map f (take i xs)) (f x)
    ∙ ap (λ ys. before ++ ys) (ap (λ ys. flat_map f (take i xs) ++ ys) (sym (append-nil (f x))) ∙ sym (flat_map-append f (take i xs) (x ∷ [])) ∙ ap (flat_map f) (sym (take_next xs i x at))))
    (grows (before ++ flat_map f (take i xs)) is)
