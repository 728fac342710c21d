-- What is at an index of the constant pool, found by going from entry to entry.
use Rattle.std.specs.Prelude.{ℕ, List, Option, Some, None, slice_get}
use Rattle.class_walk.specs.declared.class.Constant.{Constant}
use Rattle.class_walk.specs.declared.class.Constant.TheVariants.{Utf8, Class, Field, Method, IfaceMethod, Pair}
use Rattle.class_pool.specs.Pool.{Reference, reference_of}

-- the bytes of a Utf8 entry (JVMS 4.4.7)
abbrev pub utf8_of : Option Constant → Option (List ℕ)
utf8_of (Some (Utf8 text)) = Some text
utf8_of _ = None

-- the name of a Class entry (JVMS 4.4.1)
abbrev pub class_name_of : List Constant → Option Constant → Option (List ℕ)
class_name_of pool (Some (Class name)) = utf8_of (slice_get pool name)
class_name_of pool _ = None

abbrev pub both_texts : Option (List ℕ) → Option (List ℕ) → Option (List ℕ × List ℕ)
both_texts (Some name) (Some descriptor) = Some (name, descriptor)
both_texts _ _ = None

-- the name and the descriptor of a NameAndType entry (JVMS 4.4.6)
abbrev pub name_and_type_of : List Constant → Option Constant → Option (List ℕ × List ℕ)
name_and_type_of pool (Some (Pair name descriptor)) = both_texts (utf8_of (slice_get pool name)) (utf8_of (slice_get pool descriptor))
name_and_type_of pool _ = None

abbrev pub class_and_member : Option (List ℕ) → Option (List ℕ × List ℕ) → Option Reference
class_and_member (Some class) (Some member) = Some (reference_of class member.0 member.1)
class_and_member _ _ = None

-- the class, the name and the descriptor of a Field, Method or InterfaceMethod entry (JVMS 4.4.2)
abbrev pub reference_in : List Constant → Option Constant → Option Reference
reference_in pool (Some (Field class pair)) = class_and_member (class_name_of pool (slice_get pool class)) (name_and_type_of pool (slice_get pool pair))
reference_in pool (Some (Method class pair)) = class_and_member (class_name_of pool (slice_get pool class)) (name_and_type_of pool (slice_get pool pair))
reference_in pool (Some (IfaceMethod class pair)) = class_and_member (class_name_of pool (slice_get pool class)) (name_and_type_of pool (slice_get pool pair))
reference_in pool _ = None
