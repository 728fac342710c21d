-- Tiny programs.
use Prim.Native.String.{String}
use Rattle.std.specs.Prelude.{ℕ, slice_get, ◌+◌, pos, List, [], ◌∷◌, Option, None, Some, codes}
use Rattle.std.specs.Option.{option_map_or}
use Rattle.class_walk.specs.declared.class.Constant.TheVariants.{Gap, Utf8, Class, Str, Integer}
use Rattle.class_pool.specs.Pool.{Reference, reference_of}
use Rattle.class_read.specs.declared.class_file.ClassFile.{ClassFile}
use Rattle.class_read.specs.declared.class_file.Member.{Member}
use Rattle.code_decode.specs.declared.code.ClassUnit.{ClassUnit}
use Rattle.access_flags.specs.declared.TheConstants.{PUBLIC, PRIVATE, STATIC, FINAL, INTERFACE, ABSTRACT}
use Rattle.link_rules.specs.Classes.{NamedClass, NamedMember, name_or_none, classes_of, fields_of}
use Rattle.link_rules.specs.Members.{Declared}
use Rattle.link_rules.specs.Layout.{field_place}

abbrev pub member : ℕ → String → String → NamedMember
member flags name descriptor = record { name = codes name; descriptor = codes descriptor; flags = flags; name_at = 1 }

abbrev pub class_named : ℕ → String → String → List (List ℕ) → List NamedMember → List NamedMember → NamedClass
class_named flags name super interfaces fields methods = record {
  name = codes name;
  flags = flags;
  super = name_or_none (codes super);
  interfaces = interfaces;
  fields = fields;
  methods = methods;
}

abbrev pub reference : String → String → String → Reference
reference class name descriptor = reference_of (codes class) (codes name) (codes descriptor)

-- a root; an interface; a class below the root; and a class below that one, which implements the interface
abbrev pub family : List NamedClass
family =
    class_named PUBLIC "Root" "" [] [] (member PUBLIC "m" "()V" ∷ member (PUBLIC + FINAL) "f" "()V" ∷ [])
    ∷ class_named (PUBLIC + INTERFACE + ABSTRACT) "Named" "Root" [] (member (PUBLIC + STATIC + FINAL) "x" "I" ∷ []) (member (PUBLIC + ABSTRACT) "n" "()V" ∷ [])
    ∷ class_named PUBLIC "Middle" "Root" [] (member PUBLIC "x" "I" ∷ []) (member PUBLIC "n" "()V" ∷ member PUBLIC "<init>" "()V" ∷ [])
    ∷ class_named PUBLIC "Low" "Middle" (codes "Named" ∷ []) [] (member (PUBLIC + STATIC) "m" "()V" ∷ member PRIVATE "n" "()V" ∷ [])
    ∷ []

-- two classes that extend each other, and one below them
abbrev pub ring : List NamedClass
ring =
    class_named PUBLIC "A" "B" [] [] []
    ∷ class_named PUBLIC "B" "A" [] [] []
    ∷ class_named PUBLIC "C" "A" [] [] []
    ∷ []

abbrev pub field : ℕ → ℕ → ℕ → Option ℕ → Member
field flags name descriptor constant =
    record { flags = flags; name = name; descriptor = descriptor; constant = constant; code = None }

-- a class whose fields are an int, a static byte that begins as -1 cut from 255, a long, an int, and a static long; its
-- superclass is java/lang/Throwable
abbrev pub mixed_file : ClassFile
mixed_file = record {
  major = 52;
  flags = PUBLIC;
  this_class = 2;
  super_class = 4;
  interfaces = [];
  pool =
      Gap
      ∷ Utf8 (codes "Mixed") ∷ Class 1
      ∷ Utf8 (codes "java/lang/Throwable") ∷ Class 3
      ∷ Utf8 (codes "a") ∷ Utf8 (codes "I") ∷ Utf8 (codes "J") ∷ Utf8 (codes "B")
      ∷ Integer (pos 255) ∷ Utf8 (codes "b") ∷ Str 5 ∷ Utf8 (codes "LOther;")
      ∷ [];
  fields =
      field PUBLIC 5 6 None
      ∷ field (PUBLIC + STATIC) 5 8 (Some 9)
      ∷ field PUBLIC 5 7 None
      ∷ field PUBLIC 10 6 None
      ∷ field (PUBLIC + STATIC) 10 7 None
      ∷ [];
  methods = [];
}

abbrev pub mixed : List ClassUnit
mixed = record { file = mixed_file; codes = [] } ∷ []

abbrev pub mixed_unit : ClassUnit
mixed_unit = record { file = mixed_file; codes = [] }

-- the place of a field of that class
abbrev pub place_of_field : ℕ → ℕ
place_of_field i = option_map_or (λ (f : NamedMember). field_place (classes_of mixed) 29 i f) (slice_get (fields_of (classes_of mixed) 29) i) 99

-- the class of a member that was found, or 0
abbrev pub class_of : Option Declared → ℕ
class_of found = option_map_or (λ (d : Declared). d.class) found 0

-- a class that extends a class which isn't there
abbrev pub orphan_file : ClassFile
orphan_file = record {
  major = 52;
  flags = PUBLIC;
  this_class = 2;
  super_class = 4;
  interfaces = [];
  pool = Gap ∷ Utf8 (codes "Orphan") ∷ Class 1 ∷ Utf8 (codes "Absent") ∷ Class 3 ∷ [];
  fields = [];
  methods = [];
}

abbrev pub orphan : ClassUnit
orphan = record { file = orphan_file; codes = [] }
