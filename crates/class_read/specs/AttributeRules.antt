-- The attributes that are read: ConstantValue, Code and StackMapTable (JVMS 4.7.2 to 4.7.4).
use Rattle.std.specs.Prelude.{◌≡◌, ℕ, ◌+◌, ◌*◌, ◌<◌, ◌||◌, Bool, true, false, List, [], ◌∷◌, Option, Some, None, slice_get, length, take, find, is_some, codes, IsTrue, option_map, if◌then◌else◌}
use Rattle.std.specs.Option.{option_and_then, option_map_or}
use Rattle.std.specs.Str.{bytes_eq}
use Rattle.access_flags.specs.declared.TheConstants.{STATIC}
use Rattle.access_flags.specs.Flags.{has}
use Rattle.class_walk.specs.declared.class.Constant.{Constant}
use Rattle.class_walk.specs.declared.class.Constant.TheVariants.{Integer, Float, Long, Double, Str}
use Rattle.class_walk.specs.declared.class.RawAttribute.{RawAttribute}
use Rattle.class_walk.specs.declared.class.RawMember.{RawMember}
use Rattle.class_walk.specs.declared.class.RawCode.{RawCode}
use Rattle.class_walk.specs.Reading.{code_of}
use Rattle.class_pool.specs.declared.refusal.ReadRefusal.{ReadRefusal}
use Rattle.class_read.specs.declared.class_file.CodeAttribute.{CodeAttribute}
use Rattle.class_pool.specs.declared.refusal.ReadRefusal.TheVariants.{PoolIndex, Attribute}
use Rattle.class_pool.specs.Pool.{IsUtf8At}
use Rattle.class_pool.specs.PoolTest.{is_text}
use Rattle.class_pool.specs.PoolRules.{IsText}
use Rattle.rules.specs.Rules.{Rules, must, ◌then◌, each, when}

abbrev pub is_named : List Constant → List ℕ → RawAttribute → Bool
is_named pool name a = is_text name (slice_get pool a.name)

-- the first attribute of this name
abbrev pub named : List Constant → List ℕ → List RawAttribute → Option RawAttribute
named pool name attributes = find (is_named pool name) attributes

-- whether an attribute before this index has this name
abbrev pub is_earlier : List Constant → List ℕ → List RawAttribute → ℕ → Bool
is_earlier pool name attributes index = is_some (named pool name (take index attributes))

abbrev pub name_rules : List Constant → RawAttribute → Rules ReadRefusal
name_rules pool a = must (IsText pool a.name) (PoolIndex a.name)

-- whether a static field of this descriptor may begin with this constant (JVMS 4.7.2, table 4.7.2-A)
abbrev pub is_constant_for : List ℕ → Constant → Bool
is_constant_for descriptor (Integer _) = bytes_eq descriptor (codes "I") || bytes_eq descriptor (codes "S") || bytes_eq descriptor (codes "C") || bytes_eq descriptor (codes "B") || bytes_eq descriptor (codes "Z")
is_constant_for descriptor (Long _) = bytes_eq descriptor (codes "J")
is_constant_for descriptor (Float _) = bytes_eq descriptor (codes "F")
is_constant_for descriptor (Double _) = bytes_eq descriptor (codes "D")
is_constant_for descriptor (Str _) = bytes_eq descriptor (codes "Ljava/lang/String;")
is_constant_for descriptor _ = false

-- the index that two bytes are
abbrev pub index_in : List ℕ → ℕ
index_in (high ∷ low ∷ bytes) = high * 256 + low
index_in bytes = 0

-- a static field whose descriptor is at the first index may begin with the constant at the second
abbrev pub IsConstantAt : List Constant → ℕ → ℕ → Type 0
IsConstantAt pool descriptor index =
    (text : List ℕ) × (c : Constant) × IsUtf8At pool descriptor text × (slice_get pool index ≡ Some c) × IsTrue (is_constant_for text c)

-- the content of a ConstantValue of this field (JVMS 4.7.2); that of a field that isn't static is ignored
pub record IsConstantValue (pool : List Constant) (field : RawMember) (content : List ℕ) : Type 0 where
  pub size : length content ≡ 2
  pub kind : IsTrue (has field.flags STATIC) → IsConstantAt pool field.descriptor (index_in content)

-- an attribute of a field, with a ConstantValue before it or without one
abbrev pub field_attribute_rules : List Constant → RawMember → Bool → RawAttribute → Rules ReadRefusal
field_attribute_rules pool field earlier a =
    name_rules pool a
    then when (IsTrue (is_named pool (codes "ConstantValue") a))
    (must ((earlier ≡ false) × IsConstantValue pool field a.content) (Attribute a.at))

abbrev pub field_attributes_rules : List Constant → RawMember → Rules ReadRefusal
field_attributes_rules pool field =
    each (λ i a. field_attribute_rules pool field (is_earlier pool (codes "ConstantValue") field.attributes i) a) field.attributes

-- an attribute of a Code that begins at this place; its content comes after six bytes (JVMS 4.7)
abbrev pub code_attribute_rules : List Constant → ℕ → Bool → RawAttribute → Rules ReadRefusal
code_attribute_rules pool at earlier a =
    name_rules pool a
    then when (IsTrue (is_named pool (codes "StackMapTable") a)) (must (earlier ≡ false) (Attribute (at + 6 + a.at)))

abbrev pub code_attributes_rules : List Constant → ℕ → List RawAttribute → Rules ReadRefusal
code_attributes_rules pool at attributes =
    each (λ i a. code_attribute_rules pool at (is_earlier pool (codes "StackMapTable") attributes i) a) attributes

-- the content of a Code at this place
abbrev pub code_rules : List Constant → ℕ → Option RawCode → Rules ReadRefusal
code_rules pool at None = must ⊥ (Attribute at)
code_rules pool at (Some code) = code_attributes_rules pool at code.attributes

-- an attribute of a method, with a Code before it or without one
abbrev pub method_attribute_rules : List Constant → Bool → RawAttribute → Rules ReadRefusal
method_attribute_rules pool earlier a =
    name_rules pool a
    then when (IsTrue (is_named pool (codes "Code") a))
    (must (earlier ≡ false) (Attribute a.at) then code_rules pool a.at (code_of a.content))

abbrev pub method_attributes_rules : List Constant → RawMember → Rules ReadRefusal
method_attributes_rules pool method =
    each (λ i a. method_attribute_rules pool (is_earlier pool (codes "Code") method.attributes i) a) method.attributes

-- the constant that a field begins with: that of a static field alone (JVMS 4.7.2)
abbrev pub constant_of : List Constant → RawMember → Option ℕ
constant_of pool field =
    if has field.flags STATIC
    then option_map (λ (a : RawAttribute). index_in a.content) (named pool (codes "ConstantValue") field.attributes)
    else None

-- the content of the stack map of a Code, or no bytes where there is none
abbrev pub maps_of : List Constant → List RawAttribute → List ℕ
maps_of pool attributes = option_map_or (λ (a : RawAttribute). a.content) (named pool (codes "StackMapTable") attributes) []

abbrev pub code_attribute : List Constant → RawCode → CodeAttribute
code_attribute pool code = record {
  max_stack = code.max_stack;
  max_locals = code.max_locals;
  bytes = code.bytes;
  handlers = code.handlers;
  maps = maps_of pool code.attributes;
}

abbrev pub code_in : List Constant → RawAttribute → Option CodeAttribute
code_in pool a = option_map (code_attribute pool) (code_of a.content)

-- the code of a method
abbrev pub code_of_method : List Constant → RawMember → Option CodeAttribute
code_of_method pool method = option_and_then (code_in pool) (named pool (codes "Code") method.attributes)

-- an attribute of this name has this code, and each other one has none
abbrev pub IsCodeIn : List Constant → RawAttribute → Option CodeAttribute → Type 0
IsCodeIn pool a None = is_named pool (codes "Code") a ≡ false
IsCodeIn pool a (Some code) = (is_named pool (codes "Code") a ≡ true) × (code_in pool a ≡ Some code)

-- the attribute ends before this place
abbrev pub EndBelow : RawAttribute → ℕ → Type 0
EndBelow a end = a.at + 6 + length a.content < end

abbrev pub AllEndBelow : List RawAttribute → ℕ → Type 0
AllEndBelow attributes end = (i : ℕ) (a : RawAttribute) → slice_get attributes i ≡ Some a → EndBelow a end

-- the attributes of a Code at a place begin before another one
abbrev pub AllBeginBelow : List RawAttribute → ℕ → ℕ → Type 0
AllBeginBelow attributes at end = (i : ℕ) (a : RawAttribute) → slice_get attributes i ≡ Some a → at + 6 + a.at < end
