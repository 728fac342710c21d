-- What is below a class is what it is above.
use Rattle.std.proofs.Common.{◌≡◌, ◌≢◌, ◌⊎◌, ℕ, zero, suc, ◌<◌, ◌≤◌, true, nat_eq, List, [], ◌∷◌, ◌++◌, length, flat_map, Contains, Some, slice_get, inl, inr, refl, sym, ap, ap₂, subst, ◌∙◌, arith}
use Rattle.std.specs.List.{list_any}
use Rattle.std.proofs.lemmas.Bool.{cases_eq, eqb-true, eq-eqb, or_cases, or_left, or_right, true≢false}
use Rattle.std.proofs.lemmas.Option.{slice_get_within}
use Rattle.std.proofs.lemmas.List.Elements.{Contains-append_left, Contains-append_right, Contains-append_cases}
use Rattle.builtin_world.specs.declared.number.TheConstants.{OBJECT}
use Rattle.link_rules.specs.Classes.{NamedClass, superclass_of, interfaces_of}
use Rattle.link_rules.specs.Supers.{HasSuper, IsWayUp, IsAbove, superclasses, superinterfaces_within, superinterfaces, method_order, is_class_below, PutsSupersFirst}
use Rattle.link_rules.specs.Laws.{ClassesAreOrdered, BelowMeansAbove}
use Rattle.link_rules.proofs.Lists.{contains_head, contains_tail, contains_cases, contains_none, contains_flat_map}
use Rattle.link_rules.proofs.Arrays.{from_flat_map}
use Rattle.link_rules.proofs.Numbers.{superclass_within}
use Rattle.link_rules.proofs.Upward.{of_all, superclasses_none, superclasses_step, above_itself}

-- ---- lists

same_flat_map : {X Y : Type 0} (f g : X → List Y) (xs : List X) → ((x : X) → Contains xs x → f x ≡ g x) → flat_map f xs ≡ flat_map g xs
same_flat_map f g [] same = refl
same_flat_map f g (x ∷ xs) same =
    ap₂ ◌++◌ (same x (contains_head x xs)) (same_flat_map f g xs (λ y h. same y (contains_tail x xs y h)))

any_from : (xs : List ℕ) (d : ℕ) → Contains xs d → list_any (λ e. nat_eq e d) xs ≡ true
any_from [] d h = absurd (contains_none d h)
any_from (x ∷ xs) d h =
    elim (contains_cases x xs d h) [
      | inl same ↦ or_left (nat_eq x d) (list_any (λ e. nat_eq e d) xs) (eq-eqb x d same)
      | inr later ↦ or_right (nat_eq x d) (list_any (λ e. nat_eq e d) xs) (any_from xs d later)
    ]

any_is : (xs : List ℕ) (d : ℕ) → list_any (λ e. nat_eq e d) xs ≡ true → Contains xs d
any_is [] d e = absurd (true≢false (sym e))
any_is (x ∷ xs) d e =
    elim (or_cases (nat_eq x d) (list_any (λ e. nat_eq e d) xs) e) [
      | inl same ↦ subst (λ y. Contains (x ∷ xs) y) (eqb-true x d same) (contains_head x xs)
      | inr later ↦ contains_tail x xs d (any_is xs d later)
    ]

-- ---- the interfaces of a class, whatever the bound

pub interfaces_none : (cs : List NamedClass) (n : ℕ) → superinterfaces_within cs n 0 ≡ []
interfaces_none cs zero = refl
interfaces_none cs (suc n) = refl

module _ (cs : List NamedClass) (order : List ℕ) (first : PutsSupersFirst cs order) where
  interfaces_same : (b i c n m : ℕ) → i < b → slice_get order i ≡ Some c → i < n → i < m → superinterfaces_within cs n c ≡ superinterfaces_within cs m c
  interfaces_same zero i c n m below at in_n in_m = absurd (omega arith)
  interfaces_same (suc b) i c zero m below at in_n in_m = absurd (omega arith)
  interfaces_same (suc b) i c (suc n) zero below at in_n in_m = absurd (omega arith)
  interfaces_same (suc b) i c (suc n) (suc m) below at in_n in_m =
      same_flat_map (λ j. j ∷ superinterfaces_within cs n j) (λ j. j ∷ superinterfaces_within cs m j) (interfaces_of cs c) (λ j h. ap (λ xs. j ∷ xs) (each (interfaces_same b) j h))
    where
      each : ((i c n m : ℕ) → i < b → slice_get order i ≡ Some c → i < n → i < m → superinterfaces_within cs n c ≡ superinterfaces_within cs m c) → (j : ℕ) → Contains (interfaces_of cs c) j → superinterfaces_within cs n j ≡ superinterfaces_within cs m j
      each again zero h = interfaces_none cs n ∙ sym (interfaces_none cs m)
      each again (suc j) h =
          let g : (x : ℕ) × (x < i) × (slice_get order x ≡ Some (suc j)) = first.before i c (suc j) at ((λ e. omega (arith, e)), inr h) in
          let less : g.0 < i = g.1 in
          again g.0 (suc j) n m (omega arith) g.2 (omega arith) (omega arith)

  -- the interfaces of a class, each before those above it
  pub interfaces_step : (c : ℕ) → c ≢ 0 → c ≤ length cs → superinterfaces cs c ≡ flat_map (λ i. i ∷ superinterfaces cs i) (interfaces_of cs c)
  interfaces_step c ne within =
      let h : (i : ℕ) × (slice_get order i ≡ Some c) = first.whole c ne within in
      let lt : h.0 < length order = slice_get_within order h.0 c h.1 in
      let bound : length order ≤ length cs = first.bound in
      interfaces_same (suc h.0) h.0 c (length cs) (suc (length cs)) (omega arith) h.1 (omega arith) (omega arith)

  -- ---- from the lists to what is above

  Reaches : ℕ → ℕ → Type 0
  Reaches c d = (c ≡ d) ⊎ IsAbove cs c d

  above_by : (c e d : ℕ) → HasSuper cs c e → (e ≡ d) ⊎ IsAbove cs e d → IsAbove cs c d
  above_by c e d step h = elim h [
    | inl same ↦ ([], subst (λ x. HasSuper cs c x) same step)
    | inr a ↦ (e ∷ a.0, (step, a.1))
  ]

  joined : (way : List ℕ) (c d e : ℕ) → IsWayUp cs c way d → (d ≡ e) ⊎ IsAbove cs d e → IsAbove cs c e
  joined [] c d e h k = above_by c d e h k
  joined (x ∷ way) c d e h k = above_by c x e h.0 (inr (joined way x d e h.1 k))

  by_interfaces : (n c d : ℕ) → d ≢ 0 → Contains (superinterfaces_within cs n c) d → IsAbove cs c d
  by_interfaces zero c d some h = absurd (contains_none d h)
  by_interfaces (suc n) c d some h = go (by_interfaces n) (from_flat_map (λ i. i ∷ superinterfaces_within cs n i) (interfaces_of cs c) d h)
    where
      go : ((c d : ℕ) → d ≢ 0 → Contains (superinterfaces_within cs n c) d → IsAbove cs c d) → (i : ℕ) × Contains (interfaces_of cs c) i × Contains (i ∷ superinterfaces_within cs n i) d → IsAbove cs c d
      go again g = elim (contains_cases g.0 (superinterfaces_within cs n g.0) d g.2) [
        | inl same ↦ above_by c g.0 d (subst (λ x. x ≢ 0) (sym same) some, inr g.1) (inl same)
        | inr later ↦ above_by c g.0 d (not_none g.0 later, inr g.1) (inr (again g.0 d some later))
      ]
        where
          not_none : (i : ℕ) → Contains (superinterfaces_within cs n i) d → i ≢ 0
          not_none i h e = contains_none d (subst (λ xs. Contains xs d) (interfaces_none cs n) (subst (λ x. Contains (superinterfaces_within cs n x) d) e h))

  by_superclasses : (c : ℕ) → c ≢ 0 → c ≤ length cs → (d : ℕ) → Contains (superclasses cs c) d → (c ≡ d) ⊎ IsAbove cs c d
  by_superclasses = of_all cs order first (λ c. (d : ℕ) → Contains (superclasses cs c) d → (c ≡ d) ⊎ IsAbove cs c d) base step
    where
      base : (c : ℕ) → c ≢ 0 → c ≤ length cs → superclass_of cs c ≡ 0 → (d : ℕ) → Contains (superclasses cs c) d → (c ≡ d) ⊎ IsAbove cs c d
      base c ne within e d h = elim (contains_cases c [] d (subst (λ xs. Contains xs d) (superclasses_none cs order first c e ne within) h)) [
        | inl same ↦ inl same
        | inr nothing ↦ absurd (contains_none d nothing)
      ]

      step : (c : ℕ) → c ≢ 0 → c ≤ length cs → superclass_of cs c ≢ 0 → ((d : ℕ) → Contains (superclasses cs (superclass_of cs c)) d → (superclass_of cs c ≡ d) ⊎ IsAbove cs (superclass_of cs c) d) → (d : ℕ) → Contains (superclasses cs c) d → (c ≡ d) ⊎ IsAbove cs c d
      step c ne within some later d h = elim (contains_cases c (superclasses cs (superclass_of cs c)) d (subst (λ xs. Contains xs d) (superclasses_step cs order first c ne within) h)) [
        | inl same ↦ inl same
        | inr up ↦ inr (above_by c (superclass_of cs c) d (some, inl refl) (later d up))
      ]

  by_order : (c d : ℕ) → c ≢ 0 → c ≤ length cs → d ≢ 0 → Contains (method_order cs c) d → (c ≡ d) ⊎ IsAbove cs c d
  by_order c d ne within some h = elim (Contains-append_cases (superclasses cs c) (flat_map (superinterfaces cs) (superclasses cs c)) d h) [
    | inl up ↦ by_superclasses c ne within d up
    | inr i ↦ go (from_flat_map (superinterfaces cs) (superclasses cs c) d i)
  ]
    where
      go : (e : ℕ) × Contains (superclasses cs c) e × Contains (superinterfaces cs e) d → (c ≡ d) ⊎ IsAbove cs c d
      go g =
          let beyond : IsAbove cs g.0 d = by_interfaces (length cs) g.0 d some g.2 in
          elim (by_superclasses c ne within g.0 g.1) [
            | inl same ↦ inr (subst (λ x. IsAbove cs x d) (sym same) beyond)
            | inr a ↦ inr (joined a.0 c g.0 d a.1 (inr beyond))
          ]

  -- ---- from what is above to the lists

  module _ (interfaces_are : (c i : ℕ) → c ≢ 0 → c ≤ length cs → Contains (interfaces_of cs c) i → (i ≢ 0) × (i ≤ length cs) × (superclass_of cs i ≡ OBJECT))
      (object_super : superclass_of cs OBJECT ≡ 0) (object_interfaces : interfaces_of cs OBJECT ≡ []) (object_within : 1 ≤ length cs) where
    object_list : superclasses cs OBJECT ≡ OBJECT ∷ []
    object_list = superclasses_none cs order first OBJECT object_super (λ e. omega (arith, e)) object_within

    object_nothing : superinterfaces cs OBJECT ≡ []
    object_nothing = interfaces_step OBJECT (λ e. omega (arith, e)) object_within ∙ ap (flat_map (λ i. i ∷ superinterfaces cs i)) object_interfaces

    up_class : (c e d : ℕ) → c ≢ 0 → c ≤ length cs → superclass_of cs c ≡ e → Contains (method_order cs e) d → Contains (method_order cs c) d
    up_class c e d ne within same h =
        subst (λ xs. Contains (xs ++ flat_map (superinterfaces cs) xs) d) (sym list)
        (elim (Contains-append_cases (superclasses cs e) (flat_map (superinterfaces cs) (superclasses cs e)) d h) [
          | inl up ↦ Contains-append_left (c ∷ superclasses cs e) (flat_map (superinterfaces cs) (c ∷ superclasses cs e)) d (contains_tail c (superclasses cs e) d up)
          | inr i ↦ Contains-append_right (c ∷ superclasses cs e) (flat_map (superinterfaces cs) (c ∷ superclasses cs e)) d (Contains-append_right (superinterfaces cs c) (flat_map (superinterfaces cs) (superclasses cs e)) d i)
        ])
      where
        list : superclasses cs c ≡ c ∷ superclasses cs e
        list = superclasses_step cs order first c ne within ∙ ap (λ x. c ∷ superclasses cs x) same

    own_interfaces : (c d : ℕ) → c ≢ 0 → c ≤ length cs → Contains (superinterfaces cs c) d → Contains (method_order cs c) d
    own_interfaces c d ne within h =
        Contains-append_right (superclasses cs c) (flat_map (superinterfaces cs) (superclasses cs c)) d
        (contains_flat_map (superinterfaces cs) (superclasses cs c) c d (above_itself cs order first c ne within) h)

    -- what an interface is below, but for Object, is itself or one of its interfaces
    of_interface : (i d : ℕ) → i ≢ 0 → i ≤ length cs → superclass_of cs i ≡ OBJECT → d ≢ OBJECT → Contains (method_order cs i) d → (i ≡ d) ⊎ Contains (superinterfaces cs i) d
    of_interface i d ne within super other h =
        elim (Contains-append_cases (i ∷ OBJECT ∷ []) (superinterfaces cs i ++ (superinterfaces cs OBJECT ++ [])) d (subst (λ xs. Contains (xs ++ flat_map (superinterfaces cs) xs) d) list h)) [
          | inl up ↦ elim (contains_cases i (OBJECT ∷ []) d up) [
            | inl same ↦ inl same
            | inr o ↦ elim (contains_cases OBJECT [] d o) [ inl same ↦ absurd (other (sym same)) | inr nothing ↦ absurd (contains_none d nothing) ]
          ]
          | inr k ↦ elim (Contains-append_cases (superinterfaces cs i) (superinterfaces cs OBJECT ++ []) d k) [
            | inl mine ↦ inr mine
            | inr o ↦ absurd (contains_none d (subst (λ xs. Contains (xs ++ []) d) object_nothing o))
          ]
        ]
      where
        list : superclasses cs i ≡ i ∷ OBJECT ∷ []
        list = superclasses_step cs order first i ne within ∙ ap (λ x. i ∷ superclasses cs x) super ∙ ap (λ xs. i ∷ xs) object_list

    in_interfaces : (c i d : ℕ) → c ≢ 0 → c ≤ length cs → Contains (interfaces_of cs c) i → (i ≡ d) ⊎ Contains (superinterfaces cs i) d → Contains (method_order cs c) d
    in_interfaces c i d ne within h k =
        own_interfaces c d ne within
        (subst (λ xs. Contains xs d) (sym (interfaces_step c ne within))
        (contains_flat_map (λ j. j ∷ superinterfaces cs j) (interfaces_of cs c) i d h
        (elim k [
          | inl same ↦ subst (λ x. Contains (i ∷ superinterfaces cs i) x) same (contains_head i (superinterfaces cs i))
          | inr later ↦ contains_tail i (superinterfaces cs i) d later
        ])))

    super_within : (c e : ℕ) → superclass_of cs c ≡ e → e ≤ length cs
    super_within c e same = subst (λ x. x ≤ length cs) same (superclass_within cs c)

    in_order : (way : List ℕ) (c d : ℕ) → c ≢ 0 → c ≤ length cs → d ≢ OBJECT → IsWayUp cs c way d → Contains (method_order cs c) d
    in_order [] c d ne within other h = elim h.1 [
      | inl same ↦ up_class c d d ne within same
          (Contains-append_left (superclasses cs d) (flat_map (superinterfaces cs) (superclasses cs d)) d (above_itself cs order first d h.0 (super_within c d same)))
      | inr i ↦ in_interfaces c d d ne within i (inl refl)
    ]
    in_order (e ∷ way) c d ne within other h = elim h.0.1 [
      | inl same ↦ up_class c e d ne within same (in_order way e d h.0.0 (super_within c e same) other h.1)
      | inr i ↦ by_interface (interfaces_are c e ne within i) i (in_order way e d h.0.0 (interfaces_are c e ne within i).1 other h.1)
    ]
      where
        by_interface : (e ≢ 0) × (e ≤ length cs) × (superclass_of cs e ≡ OBJECT) → Contains (interfaces_of cs c) e → Contains (method_order cs e) d → Contains (method_order cs c) d
        by_interface is i k = in_interfaces c e d ne within i (of_interface e d is.0 is.1 is.2 other k)

    below_from : (c d : ℕ) → Contains (method_order cs c) d → is_class_below cs c d ≡ true
    below_from c d h = or_right (nat_eq d 1) (list_any (λ e. nat_eq e d) (method_order cs c)) (any_from (method_order cs c) d h)

    below_object : (c d : ℕ) → d ≡ OBJECT → is_class_below cs c d ≡ true
    below_object c d same = or_left (nat_eq d 1) (list_any (λ e. nat_eq e d) (method_order cs c)) (eq-eqb d 1 same)

    below_itself : (c : ℕ) → c ≢ 0 → c ≤ length cs → is_class_below cs c c ≡ true
    below_itself c ne within = below_from c c (Contains-append_left (superclasses cs c) (flat_map (superinterfaces cs) (superclasses cs c)) c (above_itself cs order first c ne within))

    pub means_above : BelowMeansAbove cs
    means_above c d ne within some = (to, from)
      where
        to : is_class_below cs c d ≡ true → (d ≡ OBJECT) ⊎ ((c ≡ d) ⊎ IsAbove cs c d)
        to h = elim (or_cases (nat_eq d 1) (list_any (λ e. nat_eq e d) (method_order cs c)) h) [
          | inl top ↦ inl (eqb-true d 1 top)
          | inr listed ↦ inr (by_order c d ne within some (any_is (method_order cs c) d listed))
        ]

        from : (d ≡ OBJECT) ⊎ ((c ≡ d) ⊎ IsAbove cs c d) → is_class_below cs c d ≡ true
        from h = elim (cases_eq d 1) [
          | inl top ↦ below_object c d top
          | inr other ↦ elim h [
            | inl top ↦ absurd (other top)
            | inr k ↦ elim k [
              | inl same ↦ subst (λ x. is_class_below cs c x ≡ true) same (below_itself c ne within)
              | inr a ↦ below_from c d (in_order a.0 c d ne within other a.1)
            ]
          ]
        ]

    nothing_above_object : (way : List ℕ) (e : ℕ) → IsWayUp cs OBJECT way e → ⊥
    nothing_above_object [] e h = none e h
      where
        none : (e : ℕ) → HasSuper cs OBJECT e → ⊥
        none e h = elim h.1 [
          | inl same ↦ h.0 (sym same ∙ object_super)
          | inr i ↦ contains_none e (subst (λ xs. Contains xs e) object_interfaces i)
        ]
    nothing_above_object (x ∷ way) e h = none x h.0
      where
        none : (e : ℕ) → HasSuper cs OBJECT e → ⊥
        none e h = elim h.1 [
          | inl same ↦ h.0 (sym same ∙ object_super)
          | inr i ↦ contains_none e (subst (λ xs. Contains xs e) object_interfaces i)
        ]

    pub only_object_above : (e : ℕ) → e ≢ 0 → is_class_below cs OBJECT e ≡ true → e ≡ OBJECT
    only_object_above e some h = elim ((means_above OBJECT e (λ z. omega (arith, z)) object_within some).0 h) [
      | inl top ↦ top
      | inr k ↦ elim k [ inl same ↦ sym same | inr a ↦ absurd (nothing_above_object a.0 e a.1) ]
    ]

    pub ordered : ClassesAreOrdered cs
    ordered = record {
      itself = below_itself;
      top = λ c. below_object c OBJECT refl;
      upward = λ c d e ne within some room another h k. (means_above c e ne within another).1 (through c d e ((means_above c d ne within some).0 h) ((means_above d e some room another).0 k));
    }
      where
        through : (c d e : ℕ) → (d ≡ OBJECT) ⊎ ((c ≡ d) ⊎ IsAbove cs c d) → (e ≡ OBJECT) ⊎ ((d ≡ e) ⊎ IsAbove cs d e) → (e ≡ OBJECT) ⊎ ((c ≡ e) ⊎ IsAbove cs c e)
        through c d e h k = elim k [
          | inl top ↦ inl top
          | inr g ↦ elim h [
            | inl top ↦ inl (elim g [
              | inl same ↦ sym same ∙ top
              | inr a ↦ absurd (nothing_above_object a.0 e (subst (λ x. IsWayUp cs x a.0 e) top a.1))
            ])
            | inr f ↦ inr (elim f [
              | inl same ↦ subst (λ x. (x ≡ e) ⊎ IsAbove cs x e) (sym same) g
              | inr a ↦ inr (joined a.0 c d e a.1 g)
            ])
          ]
        ]
