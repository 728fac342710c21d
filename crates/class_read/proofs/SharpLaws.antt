-- A class that all rules hold of isn't refused, and each other one is refused in one way.
use Rattle.std.proofs.Common.{ℕ, List, Bool, Option, None, Some}
use Rattle.class_walk.specs.declared.class.Constant.{Constant}
use Rattle.class_walk.specs.declared.class.Constant.TheVariants.{Utf8}
use Rattle.class_walk.specs.declared.class.RawAttribute.{RawAttribute}
use Rattle.class_walk.specs.declared.class.RawMember.{RawMember}
use Rattle.class_walk.specs.declared.class.RawClass.{RawClass}
use Rattle.class_walk.specs.declared.class.RawCode.{RawCode}
use Rattle.class_walk.specs.Reading.{code_of}
use Rattle.rules.proofs.SharpLaws.{IsSharp, sharp_must, sharp_then, sharp_when, sharp_each}
use Rattle.class_pool.specs.PoolRules.{entry_rules, text_entry_rules}
use Rattle.class_read.specs.AttributeRules.{name_rules, field_attributes_rules, code_attributes_rules, code_rules, method_attributes_rules}
use Rattle.class_read.specs.MemberRules.{text_rules, field_rules, method_rules}
use Rattle.class_read.specs.ClassRules.{interface_rules, header_rules, class_attribute_rules, member_rules, class_rules}

sharp_text_entry : (pool : List Constant) (i : ℕ) (text : List ℕ) → IsSharp (text_entry_rules pool i text)
sharp_text_entry pool i text = sharp_then _ _ (sharp_must _ _) (sharp_must _ _)

sharp_entry : (pool : List Constant) (i : ℕ) (c : Constant) → IsSharp (entry_rules pool i c)
sharp_entry pool i (Utf8 text) = sharp_text_entry pool i text
sharp_entry pool i _ = sharp_must _ _

sharp_name : (pool : List Constant) (a : RawAttribute) → IsSharp (name_rules pool a)
sharp_name pool a = sharp_must _ _

sharp_field_attributes : (pool : List Constant) (m : RawMember) → IsSharp (field_attributes_rules pool m)
sharp_field_attributes pool m =
    sharp_each _ m.attributes (λ i a. sharp_then _ _ (sharp_name pool a) (sharp_when _ _ (sharp_must _ _)))

sharp_code_attributes : (pool : List Constant) (at : ℕ) (attributes : List RawAttribute) → IsSharp (code_attributes_rules pool at attributes)
sharp_code_attributes pool at attributes =
    sharp_each _ attributes (λ i a. sharp_then _ _ (sharp_name pool a) (sharp_when _ _ (sharp_must _ _)))

sharp_code : (pool : List Constant) (at : ℕ) (code : Option RawCode) → IsSharp (code_rules pool at code)
sharp_code pool at None = sharp_must _ _
sharp_code pool at (Some code) = sharp_code_attributes pool at code.attributes

sharp_method_attributes : (pool : List Constant) (m : RawMember) → IsSharp (method_attributes_rules pool m)
sharp_method_attributes pool m =
    sharp_each _ m.attributes (λ i a. sharp_then _ _ (sharp_name pool a) (sharp_when _ _ (sharp_then _ _ (sharp_must _ _) (sharp_code pool a.at (code_of a.content)))))

sharp_text : (IsRight : List ℕ → Type 0) (pool : List Constant) (i : ℕ) → IsSharp (text_rules IsRight pool i)
sharp_text IsRight pool i = sharp_then _ _ (sharp_must _ _) (sharp_must _ _)

sharp_field : (pool : List Constant) (interface : Bool) (members : List RawMember) (i : ℕ) (m : RawMember) → IsSharp (field_rules pool interface members i m)
sharp_field pool interface members i m =
    sharp_then _ _ (sharp_then _ _ (sharp_text _ pool m.name) (sharp_then _ _ (sharp_text _ pool m.descriptor) (sharp_then _ _ (sharp_must _ _) (sharp_field_attributes pool m)))) (sharp_must _ _)

sharp_method : (pool : List Constant) (members : List RawMember) (i : ℕ) (m : RawMember) → IsSharp (method_rules pool members i m)
sharp_method pool members i m =
    sharp_then _ _ (sharp_then _ _ (sharp_text _ pool m.name) (sharp_then _ _ (sharp_text _ pool m.descriptor) (sharp_then _ _ (sharp_must _ _) (sharp_then _ _ (sharp_method_attributes pool m) (sharp_must _ _))))) (sharp_must _ _)

sharp_header : (pool : List Constant) (c : RawClass) → IsSharp (header_rules pool c)
sharp_header pool c =
    sharp_then _ _ (sharp_must _ _) (sharp_then _ _ (sharp_must _ _) (sharp_then _ _ (sharp_each (interface_rules pool) c.interfaces (λ i index. sharp_must _ _)) (sharp_must _ _)))

sharp_members : (pool : List Constant) (c : RawClass) → IsSharp (member_rules pool c)
sharp_members pool c =
    sharp_then _ _ (sharp_each _ c.fields (λ i m. sharp_field pool _ c.fields i m)) (sharp_then _ _ (sharp_each _ c.methods (λ i m. sharp_method pool c.methods i m)) (sharp_each (class_attribute_rules pool) c.attributes (λ i a. sharp_name pool a)))

-- a class is refused in one way at most, and not where all its rules hold
pub sharp_class : (c : RawClass) → IsSharp (class_rules c)
sharp_class c = sharp_then _ _ (sharp_each (entry_rules c.pool) c.pool (sharp_entry c.pool)) (sharp_then _ _ (sharp_header c.pool c) (sharp_members c.pool c))
