-- The values with which a method begins (JVMS 4.10.1.6).
use Rattle.std.specs.Prelude.{◌≡◌, ℕ, ◌+◌, List, Option, length}
use Rattle.class_walk.specs.declared.class.Constant.{Constant}
use Rattle.class_names.specs.Descriptor.{IsMethodDescriptor}
use Rattle.class_names.specs.declared.kind.Kind.{Kind}
use Rattle.class_read.specs.declared.class_file.Member.{Member}
use Rattle.class_pool.specs.Pool.{IsUtf8At}
use Rattle.class_read.specs.MemberRules.{IsTextAt, IsTypeOfMethod, receiver_words}

-- its descriptor is that of a method
abbrev pub HasMethodType : List Constant → Member → Type 0
HasMethodType pool m = IsTextAt (IsTypeOfMethod m.flags) pool m.descriptor

-- the number of values at the entry: the receiver, where there is one, and the parameters
abbrev pub IsEntryCount : List Constant → Member → ℕ → Type 0
IsEntryCount pool m count =
    (text : List ℕ) × (parameters : List Kind) × (returned : Option Kind)
    × IsUtf8At pool m.descriptor text × IsMethodDescriptor text parameters returned × (count ≡ receiver_words m.flags + length parameters)
