-- What lies above a class (JVMS 5.3.5, 5.4.3).
use Rattle.std.specs.Prelude.{◌≡◌, ℕ, zero, suc, ◌<◌, ◌≤◌, ◌⊎◌, Bool, ◌==◌, ◌||◌, ◌≢◌, Some, List, [], ◌∷◌, ◌++◌, length, slice_get, Contains}
use Rattle.std.specs.List.{flat_map, list_any}
use Rattle.builtin_world.specs.declared.number.TheConstants.{OBJECT}
use Rattle.link_rules.specs.Classes.{NamedClass, superclass_of, interfaces_of}

-- the second class is named as the superclass or an interface of the first one
abbrev pub HasSuper : List NamedClass → ℕ → ℕ → Type 0
HasSuper cs c d = (d ≢ 0) × ((superclass_of cs c ≡ d) ⊎ Contains (interfaces_of cs c) d)

-- from a class by these ones, one after the other, to a class
abbrev pub IsWayUp : List NamedClass → ℕ → List ℕ → ℕ → Type 0
IsWayUp cs c [] d = HasSuper cs c d
IsWayUp cs c (e ∷ es) d = HasSuper cs c e × IsWayUp cs e es d

-- the second class is above the first one
abbrev pub IsAbove : List NamedClass → ℕ → ℕ → Type 0
IsAbove cs c d = (way : List ℕ) × IsWayUp cs c way d

-- a class and those above it, upward; at most n
abbrev pub superclasses_within : List NamedClass → ℕ → ℕ → List ℕ
superclasses_within cs zero c = []
superclasses_within cs (suc n) zero = []
superclasses_within cs (suc n) (suc c) = suc c ∷ superclasses_within cs n (superclass_of cs (suc c))

-- a class and its superclasses, upward
abbrev pub superclasses : List NamedClass → ℕ → List ℕ
superclasses cs c = superclasses_within cs (length cs) c

-- the interfaces of a class, each before those above it; at most n levels
abbrev pub superinterfaces_within : List NamedClass → ℕ → ℕ → List ℕ
superinterfaces_within cs zero c = []
superinterfaces_within cs (suc n) c = flat_map (λ i. i ∷ superinterfaces_within cs n i) (interfaces_of cs c)

abbrev pub superinterfaces : List NamedClass → ℕ → List ℕ
superinterfaces cs c = superinterfaces_within cs (length cs) c

-- where a field is looked for (JVMS 5.4.3.2): a class, its interfaces, then its superclass
abbrev pub field_order : List NamedClass → ℕ → List ℕ
field_order cs c = flat_map (λ d. d ∷ superinterfaces cs d) (superclasses cs c)

-- where a method is looked for (JVMS 5.4.3.3): a class and its superclasses, then their interfaces. The superclass of
-- an interface is Object, so this is the order for an interface too (JVMS 5.4.3.4).
abbrev pub method_order : List NamedClass → ℕ → List ℕ
method_order cs c = superclasses cs c ++ flat_map (superinterfaces cs) (superclasses cs c)

-- a class is the second one or below it, as instanceof sees it (JVMS 6.5)
abbrev pub is_class_below : List NamedClass → ℕ → ℕ → Bool
is_class_below cs c d = d == OBJECT || list_any (λ e. e == d) (method_order cs c)

-- An order of all classes in which each one comes after those that it names. It is no longer than the number of the
-- classes, so going up from a class ends within the bounds above.
pub record PutsSupersFirst (cs : List NamedClass) (order : List ℕ) : Type 0 where
  pub bound : length order ≤ length cs
  pub whole : (c : ℕ) → c ≢ 0 → c ≤ length cs → (i : ℕ) × (slice_get order i ≡ Some c)
  pub before : (i c d : ℕ) → slice_get order i ≡ Some c → HasSuper cs c d → (j : ℕ) × (j < i) × (slice_get order j ≡ Some d)
