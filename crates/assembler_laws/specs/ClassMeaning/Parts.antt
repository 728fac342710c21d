-- The parts of a class, as the lines of a text say them, in order (JVMS SE 8, 4.1).
use Rattle.std.specs.Prelude.{ℕ, if◌then◌else◌, List, [], ◌∷◌, Option, Some, None, codes}
use Rattle.assembler_lines.specs.declared.line.FieldValue.{FieldValue}
use Rattle.assembler_lines.specs.declared.line.Room.{Room}
use Rattle.assembler_lines.specs.declared.line.Line.{Line}
use Rattle.assembler_lines.specs.declared.line.Line.TheVariants.{Class, Super, Implements, Field, Method}
use Rattle.assembler_text.specs.declared.lines.Numbered.{Numbered}
use Rattle.assembler_bodies.specs.Labels.{is_end}

pub record SaidClass : Type 0 where
  pub flags : ℕ
  pub name : List ℕ

pub record SaidField : Type 0 where
  pub flags : ℕ
  pub name : List ℕ
  pub descriptor : List ℕ
  pub value : Option FieldValue

-- the room of a body's frame, and the body's lines
pub record SaidBody : Type 0 where
  pub room : Room
  pub lines : List Numbered

pub record SaidMethod : Type 0 where
  pub flags : ℕ
  pub name : List ℕ
  pub descriptor : List ℕ
  pub body : Option SaidBody

-- ---- one line

abbrev pub said_class : Option Line → Option SaidClass
said_class (Some (Class name flags)) = Some (record { flags = flags; name = name })
said_class _ = None

abbrev pub said_super : Option Line → Option (List ℕ)
said_super (Some (Super name)) = Some name
said_super _ = None

abbrev pub said_interface : Option Line → Option (List ℕ)
said_interface (Some (Implements name)) = Some name
said_interface _ = None

abbrev pub said_field : Option Line → Option SaidField
said_field (Some (Field flags name descriptor value)) = Some (record { flags = flags; name = name; descriptor = descriptor; value = value })
said_field _ = None

-- the lines before the first end
abbrev pub before_end : List Numbered → List Numbered
before_end [] = []
before_end (numbered ∷ lines) = if is_end numbered.line then [] else numbered ∷ before_end lines

abbrev pub said_body : Option Room → List Numbered → Option SaidBody
said_body None behind = None
said_body (Some room) behind = Some (record { room = room; lines = before_end behind })

-- a method, whose body is the lines after its own, up to the end
abbrev pub said_method : Option Line → List Numbered → Option SaidMethod
said_method (Some (Method flags name descriptor room)) behind =
    Some (record { flags = flags; name = name; descriptor = descriptor; body = said_body room behind })
said_method _ behind = None

-- ---- all lines

abbrev pub in_front : {A : Type 0} → Option A → List A → List A
in_front None others = others
in_front (Some a) others = a ∷ others

-- the first of these that there is
abbrev pub or_else : {A : Type 0} → Option A → Option A → Option A
or_else (Some a) other = Some a
or_else None other = other

abbrev pub class_in : List Numbered → Option SaidClass
class_in [] = None
class_in (numbered ∷ lines) = said_class numbered.line

abbrev pub super_named : List Numbered → Option (List ℕ)
super_named [] = None
super_named (numbered ∷ lines) = or_else (said_super numbered.line) (super_named lines)

-- the superclass that a line names, or java/lang/Object
abbrev pub name_or_object : Option (List ℕ) → List ℕ
name_or_object (Some name) = name
name_or_object None = codes "java/lang/Object"

abbrev pub super_in : List Numbered → List ℕ
super_in lines = name_or_object (super_named lines)

abbrev pub interfaces_in : List Numbered → List (List ℕ)
interfaces_in [] = []
interfaces_in (numbered ∷ lines) = in_front (said_interface numbered.line) (interfaces_in lines)

abbrev pub fields_in : List Numbered → List SaidField
fields_in [] = []
fields_in (numbered ∷ lines) = in_front (said_field numbered.line) (fields_in lines)

abbrev pub methods_in : List Numbered → List SaidMethod
methods_in [] = []
methods_in (numbered ∷ lines) = in_front (said_method numbered.line lines) (methods_in lines)
