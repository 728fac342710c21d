-- What JVMS 4.1 wants of a class file, in the order in which it is looked at.
use Rattle.std.specs.Prelude.{◌≡◌, ℕ, ◌⊎◌, ◌||◌, ◌&&◌, Bool, List, not, codes, IsTrue}
use Rattle.access_flags.specs.declared.TheConstants.{ABSTRACT, FINAL, INTERFACE}
use Rattle.access_flags.specs.Flags.{has}
use Rattle.class_walk.specs.declared.class.Constant.{Constant}
use Rattle.class_walk.specs.declared.class.RawAttribute.{RawAttribute}
use Rattle.class_walk.specs.declared.class.RawClass.{RawClass}
use Rattle.class_walk.specs.declared.class.RawMember.{RawMember}
use Rattle.class_names.specs.Names.{IsClassName}
use Rattle.class_pool.specs.declared.refusal.ReadRefusal.{ReadRefusal}
use Rattle.class_pool.specs.declared.refusal.ReadRefusal.TheVariants.{PoolIndex, Flags}
use Rattle.class_pool.specs.Pool.{IsClassAt}
use Rattle.class_pool.specs.PoolRules.{pool_rules}
use Rattle.class_read.specs.AttributeRules.{name_rules}
use Rattle.class_read.specs.MemberRules.{field_rules, method_rules}
use Rattle.rules.specs.Rules.{Rules, must, ◌then◌, each}

-- a class that is no array class
abbrev pub IsNamedClass : List Constant → ℕ → Type 0
IsNamedClass pool index = (name : List ℕ) × IsClassAt pool index name × IsClassName name

-- a superclass, or none at Object
abbrev pub IsSuperclass : List Constant → RawClass → Type 0
IsSuperclass pool c = IsNamedClass pool c.super_class ⊎ ((c.super_class ≡ 0) × IsClassAt pool c.this_class (codes "java/lang/Object"))

-- An interface is abstract and not final, and no class is final and abstract (JVMS 4.1).
abbrev pub are_class_flags : ℕ → Bool
are_class_flags flags = (not (has flags INTERFACE) || (has flags ABSTRACT && not (has flags FINAL))) && not (has flags FINAL && has flags ABSTRACT)

abbrev pub interface_rules : List Constant → ℕ → ℕ → Rules ReadRefusal
interface_rules pool i index = must (IsNamedClass pool index) (PoolIndex index)

abbrev pub header_rules : List Constant → RawClass → Rules ReadRefusal
header_rules pool c =
    must (IsNamedClass pool c.this_class) (PoolIndex c.this_class)
    then must (IsSuperclass pool c) (PoolIndex c.super_class)
    then each (interface_rules pool) c.interfaces
    then must (IsTrue (are_class_flags c.flags)) Flags

abbrev pub class_attribute_rules : List Constant → ℕ → RawAttribute → Rules ReadRefusal
class_attribute_rules pool i a = name_rules pool a

abbrev pub class_attributes_rules : List Constant → List RawAttribute → Rules ReadRefusal
class_attributes_rules pool attributes = each (class_attribute_rules pool) attributes

abbrev pub fields_rules : List Constant → Bool → List RawMember → Rules ReadRefusal
fields_rules pool interface fields = each (field_rules pool interface fields) fields

abbrev pub methods_rules : List Constant → List RawMember → Rules ReadRefusal
methods_rules pool methods = each (method_rules pool methods) methods

-- the fields, the methods, and the attributes of the class
abbrev pub member_rules : List Constant → RawClass → Rules ReadRefusal
member_rules pool c =
    fields_rules pool (has c.flags INTERFACE) c.fields
    then methods_rules pool c.methods
    then class_attributes_rules pool c.attributes

-- the pool, the header, and what comes after it
abbrev pub class_rules_over : List Constant → RawClass → Rules ReadRefusal
class_rules_over pool c = pool_rules pool then header_rules pool c then member_rules pool c

abbrev pub class_rules : RawClass → Rules ReadRefusal
class_rules c = class_rules_over c.pool c
