-- The orders in which classes are looked through for a member, each class once.
use Rattle.std.specs.Prelude.{◌≡◌, ◌≤◌, ℕ, suc, List, [], ◌∷◌, length, slice_get, flat_map, Contains, IsSomeAnd}
use Rattle.std.specs.Option.{option_map_or}
use Rattle.search_orders.specs.Orders.{put, put_all, without_repeats}
use Rattle.link_rules.specs.Classes.{NamedClass, superclass_of, interfaces_of}
use Rattle.link_rules.specs.Supers.{superclasses, superinterfaces, field_order, method_order}
use Rattle.class_orders.specs.declared.class_order.ClassOrder.{ClassOrder}

-- the orders of a class
pub record IsOrders (cs : List NamedClass) (c : ℕ) (o : ClassOrder) : Type 0 where
  pub upward : o.superclasses ≡ without_repeats (superclasses cs c)
  pub interfaces : o.interfaces ≡ without_repeats (superinterfaces cs c)
  pub all_interfaces : o.all_interfaces ≡ without_repeats (flat_map (superinterfaces cs) (superclasses cs c))
  pub methods : o.methods ≡ without_repeats (method_order cs c)
  pub fields : o.fields ≡ without_repeats (field_order cs c)

abbrev pub HasOrders : List NamedClass → List ClassOrder → ℕ → Type 0
HasOrders cs os c = IsSomeAnd (slice_get os c) (IsOrders cs c)

-- the orders of all classes by number; those of 0 are empty
pub record AreOrders (cs : List NamedClass) (os : List ClassOrder) : Type 0 where
  pub size : length os ≡ suc (length cs)
  pub each : (c : ℕ) → c ≤ length cs → HasOrders cs os c

-- the interfaces of a class whose orders may be there
abbrev pub interfaces_in : List ClassOrder → ℕ → List ℕ
interfaces_in os c = option_map_or (λ (o : ClassOrder). o.interfaces) (slice_get os c) []

-- orders of a class as they are built from those of its superclass and the interfaces that it names
pub record IsBuilt (os : List ClassOrder) (c : ℕ) (above : ClassOrder) (named : List ℕ) (o : ClassOrder) : Type 0 where
  pub superclasses : o.superclasses ≡ put_all (put [] c) above.superclasses
  pub interfaces : o.interfaces ≡ without_repeats (flat_map (λ i. i ∷ interfaces_in os i) named)
  pub all_interfaces : o.all_interfaces ≡ put_all (without_repeats o.interfaces) above.all_interfaces
  pub methods : o.methods ≡ put_all (without_repeats o.superclasses) o.all_interfaces
  pub fields : o.fields ≡ put_all (put_all (put [] c) o.interfaces) above.fields

abbrev pub no_orders : ClassOrder
no_orders = record { superclasses = []; interfaces = []; all_interfaces = []; methods = []; fields = [] }

-- what is directly above a class has its orders, and the lists of the class are made of those
pub record IsReady (cs : List NamedClass) (os : List ClassOrder) (c : ℕ) : Type 0 where
  pub up : superclasses cs c ≡ c ∷ superclasses cs (superclass_of cs c)
  pub over : superinterfaces cs c ≡ flat_map (λ i. i ∷ superinterfaces cs i) (interfaces_of cs c)
  pub above : HasOrders cs os (superclass_of cs c)
  pub interfaces : (i : ℕ) → Contains (interfaces_of cs c) i → interfaces_in os i ≡ without_repeats (superinterfaces cs i)
