-- Classes with the places that their parts have when they are written (JVMS SE 8, chapter 4).
use Rattle.std.specs.Prelude.{ℕ, ◌+◌, ◌<◌, ◌≤◌, ◌^◌, List, [], ◌∷◌, ◌++◌, length}
use Rattle.class_walk.specs.declared.class.RawAttribute.{RawAttribute}
use Rattle.class_walk.specs.declared.class.RawMember.{RawMember}
use Rattle.class_walk.specs.declared.class.RawClass.{RawClass}
use Rattle.class_walk.specs.declared.class.RawCode.{RawCode}
use Rattle.class_walk.specs.Layout.{attribute, member, table, front, code_front, IsCounted, IsPool, IsRawHandler}

-- attributes one after another, the first at this place
abbrev pub placed_attributes : ℕ → List RawAttribute → List RawAttribute
placed_attributes at [] = []
placed_attributes at (a ∷ others) = record a { at = at } ∷ placed_attributes (at + length (attribute a)) others

-- a field or a method at this place; its attributes begin after its flags, name, descriptor and their count
abbrev pub placed_member : ℕ → RawMember → RawMember
placed_member at m = record m { at = at; attributes = placed_attributes (at + 6 + 2) m.attributes }

abbrev pub placed_members : ℕ → List RawMember → List RawMember
placed_members at [] = []
placed_members at (m ∷ others) = placed_member at m ∷ placed_members (at + length (member m)) others

abbrev pub placed : RawClass → RawClass
placed c = record c {
  fields = placed_members (length (front c) + 2) c.fields;
  methods = placed_members (length (front c ++ table member c.fields) + 2) c.methods;
  attributes = placed_attributes (length (front c ++ table member c.fields ++ table member c.methods) + 2) c.attributes;
}

abbrev pub placed_code : RawCode → RawCode
placed_code c = record c { attributes = placed_attributes (length (code_front c) + 2) c.attributes }

-- what a class is but for the places in it: each number and count has its width, and the pool its gaps
abbrev pub IsAttributeButPlace : RawAttribute → Type 0
IsAttributeButPlace a = (a.name < 2 ^ 16) × (length a.content < 2 ^ 32)

pub record IsMemberButPlaces (m : RawMember) : Type 0 where
  pub flags : m.flags < 2 ^ 16
  pub name : m.name < 2 ^ 16
  pub descriptor : m.descriptor < 2 ^ 16
  pub attributes : IsCounted IsAttributeButPlace m.attributes

pub record IsClassButPlaces (c : RawClass) : Type 0 where
  pub minor : c.minor < 2 ^ 16
  pub oldest : 50 ≤ c.major
  pub newest : c.major ≤ 52
  pub pool : IsPool c.pool
  pub flags : c.flags < 2 ^ 16
  pub this_class : c.this_class < 2 ^ 16
  pub super_class : c.super_class < 2 ^ 16
  pub interfaces : IsCounted (λ index. index < 2 ^ 16) c.interfaces
  pub fields : IsCounted IsMemberButPlaces c.fields
  pub methods : IsCounted IsMemberButPlaces c.methods
  pub attributes : IsCounted IsAttributeButPlace c.attributes

pub record IsCodeButPlaces (c : RawCode) : Type 0 where
  pub max_stack : c.max_stack < 2 ^ 16
  pub max_locals : c.max_locals < 2 ^ 16
  pub size : length c.bytes < 2 ^ 32
  pub handlers : IsCounted IsRawHandler c.handlers
  pub attributes : IsCounted IsAttributeButPlace c.attributes
