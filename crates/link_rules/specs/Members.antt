-- Which member a name and a descriptor mean (JVMS 5.4.3, 6.5).
use Rattle.std.specs.Prelude.{ℕ, ◌==◌, ◌&&◌, ◌||◌, Bool, not, Option, None, Some, List, [], ◌∷◌, codes, bytes_eq, slice_get, if◌then◌else◌}
use Rattle.std.specs.List.{position_from, list_any}
use Rattle.std.specs.Option.{option_and_then, option_map}
use Rattle.builtin_world.specs.declared.number.TheConstants.{OBJECT}
use Rattle.class_pool.specs.Pool.{Reference, reference_of}
use Rattle.link_types.specs.declared.operands.MethodId.{MethodId}
use Rattle.access_flags.specs.declared.TheConstants.{STATIC, PRIVATE}
use Rattle.access_flags.specs.Flags.{has}
use Rattle.link_rules.specs.Classes.{NamedClass, NamedMember, superclass_of, class_number, fields_of, methods_of, is_array_name}
use Rattle.link_rules.specs.Supers.{superclasses, field_order, method_order}

-- a member where it is declared: the number of its class, its place there, and what it is
pub record Declared : Type 0 where
  pub class : ℕ
  pub place : ℕ
  pub member : NamedMember

abbrev pub declared_at : List NamedMember → ℕ → ℕ → Option Declared
declared_at members c i = option_map (λ m. record { class = c; place = i; member = m }) (slice_get members i)

-- the first of the members of a class that passes a test
abbrev pub declared : (ℕ → List NamedMember) → (NamedMember → Bool) → ℕ → Option Declared
declared members test c = option_and_then (declared_at (members c) c) (position_from test 0 (members c))

abbrev pub or_first : {B : Type 0} → Option B → Option B → Option B
or_first None other = other
or_first (Some y) other = Some y

-- the first that is something
abbrev pub first_some : {A B : Type 0} → (A → Option B) → List A → Option B
first_some f [] = None
first_some f (x ∷ xs) = or_first (f x) (first_some f xs)

-- a member has the name and the descriptor of a reference
abbrev pub is_member : Reference → NamedMember → Bool
is_member r m = bytes_eq m.name r.name && bytes_eq m.descriptor r.descriptor

-- the name and the descriptor of a member, whatever its class
abbrev pub signature_of : NamedMember → Reference
signature_of m = reference_of [] m.name m.descriptor

-- neither static nor private: such a method is selected, overrides and is overridden
abbrev pub is_virtual : NamedMember → Bool
is_virtual m = not (has m.flags STATIC || has m.flags PRIVATE)

-- the class in which look-up begins: an array has the members of Object
abbrev pub holder : List NamedClass → Reference → ℕ
holder cs r = if is_array_name r.class then OBJECT else class_number cs r.class

abbrev pub found_field : List NamedClass → Reference → Option Declared
found_field cs r = first_some (declared (fields_of cs) (is_member r)) (field_order cs (holder cs r))

abbrev pub is_initializer : Reference → Bool
is_initializer r = bytes_eq r.name (codes "<init>")

-- a constructor is looked for in the named class alone (JVMS 6.5, invokespecial)
abbrev pub found_method : List NamedClass → Reference → Option Declared
found_method cs r =
    if is_initializer r then declared (methods_of cs) (is_member r) (holder cs r)
    else first_some (declared (methods_of cs) (is_member r)) (method_order cs (holder cs r))

-- the method that an object of a class answers with: from the class upward the first such one that is neither static
-- nor private (JVMS 6.5, invokevirtual)
abbrev pub selected : List NamedClass → ℕ → Reference → Option Declared
selected cs c r = first_some (declared (methods_of cs) (λ m. is_member r m && is_virtual m)) (superclasses cs c)

-- the method that invokespecial calls in a class, where look-up finds this one: selection begins at the superclass
-- where a class above this one is named, and the method is neither private nor a constructor (JVMS 6.5, invokespecial)
abbrev pub special : List NamedClass → ℕ → Reference → Declared → Option Declared
special cs this r found =
    if not (is_initializer r) && (is_virtual found.member && list_any (λ d. d == holder cs r) (superclasses cs (superclass_of cs this)))
    then selected cs (superclass_of cs this) r else Some found

abbrev pub method_id : Declared → MethodId
method_id d = record { class = d.class; method = d.place }
