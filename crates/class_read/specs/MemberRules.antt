-- What JVMS 4.5 and 4.6 want of fields and methods.
use Rattle.std.specs.Prelude.{◌≡◌, ℕ, ◌+◌, ◌≤◌, ◌||◌, ◌&&◌, Bool, false, nat_le, List, Option, Some, None, is_some, not, codes, slice_get, IsTrue, if◌then◌else◌}
use Rattle.access_flags.specs.declared.TheConstants.{ABSTRACT, FINAL, NATIVE, PRIVATE, PROTECTED, PUBLIC, STATIC, SYNCHRONIZED, VOLATILE}
use Rattle.access_flags.specs.Flags.{has}
use Rattle.class_walk.specs.declared.class.Constant.{Constant}
use Rattle.class_walk.specs.declared.class.RawMember.{RawMember}
use Rattle.class_names.specs.Names.{IsMemberName, IsMethodName}
use Rattle.class_names.specs.Descriptor.{IsMethodDescriptor, parameter_words_of}
use Rattle.class_names.specs.declared.kind.Kind.{Kind}
use Rattle.class_names.specs.declared.kind.ParameterSize.{ParameterSize}
use Rattle.class_pool.specs.declared.refusal.ReadRefusal.{ReadRefusal}
use Rattle.class_read.specs.declared.class_file.Member.{Member}
use Rattle.class_pool.specs.declared.refusal.ReadRefusal.TheVariants as refusals
use Rattle.class_pool.specs.Pool.{IsUtf8At}
use Rattle.class_pool.specs.PoolRules.{IsText, IsFieldType}
use Rattle.class_read.specs.Repeats.{IsRepeated}
use Rattle.class_read.specs.AttributeRules.{named, AllEndBelow, field_attributes_rules, method_attributes_rules, constant_of, code_of_method}
use Rattle.rules.specs.Rules.{Rules, must, ◌then◌}

-- the text at an index is such a one
abbrev pub IsTextAt : (List ℕ → Type 0) → List Constant → ℕ → Type 0
IsTextAt IsRight pool index = (text : List ℕ) × IsUtf8At pool index text × IsRight text

abbrev pub text_at_rules : List Constant → ℕ → Rules ReadRefusal
text_at_rules pool index = must (IsText pool index) (refusals.PoolIndex index)

-- there is a text at the index, and it is right
abbrev pub text_rules : (List ℕ → Type 0) → List Constant → ℕ → Rules ReadRefusal
text_rules IsRight pool index =
    text_at_rules pool index then must (IsTextAt IsRight pool index) (refusals.BadDescriptor index)

-- the words that the receiver of a method takes: a static method has none (JVMS 4.3.3)
abbrev pub receiver_words : ℕ → ℕ
receiver_words flags = if has flags STATIC then 0 else 1

-- the descriptor of a method with these flags, whose parameters and receiver take at most 255 words (JVMS 4.3.3)
abbrev pub IsTypeOfMethod : ℕ → List ℕ → Type 0
IsTypeOfMethod flags text =
    (parameters : List Kind) × (returned : Option Kind) × IsMethodDescriptor text parameters returned × (receiver_words flags + parameter_words_of parameters ≤ 255)

-- a method with these flags, whose parameters have this size: at most 255 words with its receiver (JVMS 4.3.3)
abbrev pub may_take : ℕ → Option ParameterSize → Bool
may_take flags None = false
may_take flags (Some size) = nat_le (receiver_words flags + size.words) 255

-- more than one of public, private and protected
abbrev pub has_two_accesses : ℕ → Bool
has_two_accesses flags = (has flags PUBLIC && has flags PRIVATE) || ((has flags PUBLIC && has flags PROTECTED) || (has flags PRIVATE && has flags PROTECTED))

-- public, static and final
abbrev pub is_constant : ℕ → Bool
is_constant flags = has flags PUBLIC && (has flags STATIC && has flags FINAL)

-- the flags of a field of an interface or of another class (JVMS 4.5); no field is final and volatile
abbrev pub are_field_flags : Bool → ℕ → Bool
are_field_flags interface flags = not (has_two_accesses flags) && (not (has flags FINAL && has flags VOLATILE) && (not interface || is_constant flags))

-- private, static, final, synchronized or native: none of them goes with abstract (JVMS 4.6)
abbrev pub is_unlike_abstract : ℕ → Bool
is_unlike_abstract flags = has flags PRIVATE || (has flags STATIC || (has flags FINAL || (has flags SYNCHRONIZED || has flags NATIVE)))

abbrev pub are_method_flags : ℕ → Bool
are_method_flags flags = not (has_two_accesses flags) && not (has flags ABSTRACT && is_unlike_abstract flags)

-- an abstract or a native method has no code, and each other one has (JVMS 4.7.3)
abbrev pub wants_code : ℕ → Bool
wants_code flags = not (has flags ABSTRACT || has flags NATIVE)

-- a field, but for whether it repeats another
abbrev pub lone_field_rules : List Constant → Bool → RawMember → Rules ReadRefusal
lone_field_rules pool interface m =
    text_rules IsMemberName pool m.name
    then text_rules IsFieldType pool m.descriptor
    then must (IsTrue (are_field_flags interface m.flags)) refusals.Flags
    then field_attributes_rules pool m

abbrev pub lone_method_rules : List Constant → RawMember → Rules ReadRefusal
lone_method_rules pool m =
    text_rules IsMethodName pool m.name
    then text_rules (IsTypeOfMethod m.flags) pool m.descriptor
    then must (IsTrue (are_method_flags m.flags)) refusals.Flags
    then method_attributes_rules pool m
    then must (is_some (named pool (codes "Code") m.attributes) ≡ wants_code m.flags) (refusals.Member m.at)

-- no earlier member of its kind has its name and its descriptor
abbrev pub new_rules : List Constant → List RawMember → ℕ → RawMember → Rules ReadRefusal
new_rules pool members index m = must (¬ IsRepeated pool members index m) (refusals.Member m.at)

abbrev pub field_rules : List Constant → Bool → List RawMember → ℕ → RawMember → Rules ReadRefusal
field_rules pool interface members index m = lone_field_rules pool interface m then new_rules pool members index m

abbrev pub method_rules : List Constant → List RawMember → ℕ → RawMember → Rules ReadRefusal
method_rules pool members index m = lone_method_rules pool m then new_rules pool members index m

-- what is kept of a field and of a method
abbrev pub field_of : List Constant → RawMember → Member
field_of pool m = record { flags = m.flags; name = m.name; descriptor = m.descriptor; constant = constant_of pool m; code = None }

abbrev pub method_of : List Constant → RawMember → Member
method_of pool m = record { flags = m.flags; name = m.name; descriptor = m.descriptor; constant = None; code = code_of_method pool m }

-- the attributes of methods end at places that fit
abbrev pub HasSmallMethods : List RawMember → Type 0
HasSmallMethods members = (j : ℕ) (m : RawMember) → slice_get members j ≡ Some m → AllEndBelow m.attributes 4294967296
