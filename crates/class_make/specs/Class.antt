-- A class, made line by line (JVMS SE 8, 4.1).
use Rattle.std.specs.Prelude.{ℕ, Bool, true, false, ◌&&◌, nat_lt, if◌then◌else◌, List, [], ◌∷◌, ◌++◌, length, Option, Some, None, codes}
use Rattle.class_walk.specs.declared.class.RawAttribute.{RawAttribute}
use Rattle.class_walk.specs.declared.class.RawMember.{RawMember}
use Rattle.class_walk.specs.Layout.{u2}
use Rattle.assembler_lines.specs.declared.line.FieldValue.{FieldValue}
use Rattle.assembler_lines.specs.declared.line.FieldValue.TheVariants as values
use Rattle.assembler_lines.specs.declared.line.Room.{Room}
use Rattle.assembler_lines.specs.declared.line.Line.{Line}
use Rattle.assembler_lines.specs.declared.line.Line.TheVariants.{Class, Super, Implements, Field, Method}
use Rattle.assembler_pool.specs.Items.{Item, text, integer, long, class_named, string}
use Rattle.assembler_text.specs.declared.lines.Numbered.{Numbered}
use Rattle.assembler_bodies.specs.Making.{Making, ◌>>=◌, only, used}
use Rattle.assembler_bodies.specs.Labels.{Marks, marks_in, is_end}
use Rattle.assembler_bodies.specs.Body as bodies
use Rattle.assembler_bodies.specs.Body.{MadeBody, begun, content}

-- what a class is made to so far
pub record MadeClass : Type 0 where
  pub flags : ℕ
  pub this_class : ℕ
  -- none until the line of the super class is read
  pub super_class : Option ℕ
  pub interfaces : List ℕ
  pub fields : List RawMember
  pub methods : List RawMember

-- a method whose body is open, by the indices of its names, with the marks of its labels
pub record OpenMethod : Type 0 where
  pub flags : ℕ
  pub name : ℕ
  pub descriptor : ℕ
  pub code_name : ℕ
  pub marks : Marks
  pub body : MadeBody

-- the state of a text between its lines
pub data State : Type 0 where
  -- before the class line
  before_class : State
  outside : MadeClass → State
  inside : MadeClass → OpenMethod → State

-- ---- parts of a class

abbrev pub is_empty : {A : Type 0} → List A → Bool
is_empty [] = true
is_empty (a ∷ items) = false

-- a count of two bytes has room for one more (JVMS 4.1)
abbrev pub has_place : {A : Type 0} → List A → Bool
has_place items = nat_lt (length items) 65535

-- interfaces come before fields and methods
unfoldable pub put_interface : ℕ → MadeClass → Option MadeClass
put_interface index class =
    if has_place class.interfaces && (is_empty class.fields && is_empty class.methods)
    then Some (record class { interfaces = class.interfaces ++ index ∷ [] })
    else None

-- fields come before methods
unfoldable pub put_field : RawMember → MadeClass → Option MadeClass
put_field field class =
    if has_place class.fields && is_empty class.methods then Some (record class { fields = class.fields ++ field ∷ [] }) else None

unfoldable pub put_method : RawMember → MadeClass → Option MadeClass
put_method method class = if has_place class.methods then Some (record class { methods = class.methods ++ method ∷ [] }) else None

abbrev pub member : ℕ → ℕ → ℕ → List RawAttribute → RawMember
member flags name descriptor attributes = record { at = 0; flags = flags; name = name; descriptor = descriptor; attributes = attributes }

abbrev pub attribute : ℕ → List ℕ → RawAttribute
attribute name bytes = record { at = 0; name = name; content = bytes }

abbrev pub value_item : FieldValue → Item
value_item (values.Int n) = integer n
value_item (values.Long n) = long n
value_item (values.Text units) = string units

-- the attribute ConstantValue of a field that has a value (JVMS 4.7.2)
unfoldable pub constant_value : Option FieldValue → Making (List RawAttribute)
constant_value None = only (Some [])
constant_value (Some value) = do
  name ← used (text (codes "ConstantValue"))
  index ← used (value_item value)
  only (Some (attribute name (u2 index) ∷ []))

-- ---- lines outside bodies

-- the class line comes first
unfoldable pub class_line : ℕ → List ℕ → Making MadeClass
class_line flags name = do
  this ← used (class_named name)
  only (Some (record { flags = flags; this_class = this; super_class = None; interfaces = []; fields = []; methods = [] }))

-- a superclass is named right after the class line
unfoldable pub super_line : List ℕ → Option ℕ → Making ℕ
super_line name (Some index) = only None
super_line name None = used (class_named name)

-- and is java/lang/Object where it isn't (JVMS 4.1)
unfoldable pub superclass : Option ℕ → Making ℕ
superclass (Some index) = only (Some index)
superclass None = used (class_named (codes "java/lang/Object"))

unfoldable pub interface_line : List ℕ → MadeClass → Making MadeClass
interface_line name class = do
  index ← used (class_named name)
  only (put_interface index class)

unfoldable pub field_line : ℕ → List ℕ → List ℕ → Option FieldValue → MadeClass → Making MadeClass
field_line flags name descriptor value class = do
  n ← used (text name)
  d ← used (text descriptor)
  attributes ← constant_value value
  only (put_field (member flags n d attributes) class)

-- a method without code
unfoldable pub method_line : ℕ → List ℕ → List ℕ → MadeClass → Making MadeClass
method_line flags name descriptor class = do
  n ← used (text name)
  d ← used (text descriptor)
  only (put_method (member flags n d []) class)

abbrev pub opened : MadeClass → OpenMethod → Option OpenMethod
opened class method = if has_place class.methods then Some method else None

-- a method whose code is the lines after it
unfoldable pub body_line : Marks → ℕ → List ℕ → List ℕ → Room → MadeClass → Making OpenMethod
body_line marks flags name descriptor room class = do
  n ← used (text name)
  d ← used (text descriptor)
  c ← used (text (codes "Code"))
  only (opened class (record { flags = flags; name = n; descriptor = d; code_name = c; marks = marks; body = begun room }))

abbrev pub stays_outside : Making MadeClass → Making State
stays_outside making = do
  class ← making
  only (Some (outside class))

abbrev pub stays_inside : MadeClass → Making OpenMethod → Making State
stays_inside class making = do
  method ← making
  only (Some (inside class method))

-- a line after those of the class and its superclass, given the lines after it
abbrev pub part_line : List Numbered → Option Line → MadeClass → Making State
part_line behind (Some (Implements name)) class = stays_outside (interface_line name class)
part_line behind (Some (Field flags name descriptor value)) class = stays_outside (field_line flags name descriptor value class)
part_line behind (Some (Method flags name descriptor None)) class = stays_outside (method_line flags name descriptor class)
part_line behind (Some (Method flags name descriptor (Some room))) class = stays_inside class (body_line (marks_in behind) flags name descriptor room class)
part_line behind _ class = only None

abbrev pub outside_line : List Numbered → Option Line → MadeClass → Making State
outside_line behind (Some (Super name)) class = do
  index ← super_line name class.super_class
  only (Some (outside (record class { super_class = Some index })))
outside_line behind line class = do
  index ← superclass class.super_class
  part_line behind line (record class { super_class = Some index })

-- ---- lines of bodies

-- the method with its attribute Code (JVMS 4.7.3)
abbrev pub with_code : OpenMethod → List ℕ → RawMember
with_code method code = member method.flags method.name method.descriptor (attribute method.code_name code ∷ [])

unfoldable pub closed : OpenMethod → MadeClass → Making MadeClass
closed method class = do
  code ← only (content method.body)
  only (put_method (with_code method code) class)

unfoldable pub body_step : Numbered → OpenMethod → Making OpenMethod
body_step numbered method = do
  made ← bodies.step method.marks numbered method.body
  only (Some (record method { body = made }))

abbrev pub inside_line : Numbered → MadeClass → OpenMethod → Making State
inside_line numbered class method =
    if is_end numbered.line then stays_outside (closed method class) else stays_inside class (body_step numbered method)

-- ---- lines

-- a line of a text, before these lines
abbrev pub step_of : List Numbered → Numbered → State → Option Line → Making State
step_of behind numbered before_class (Some (Class name flags)) = stays_outside (class_line flags name)
step_of behind numbered before_class _ = only None
step_of behind numbered (outside class) line = outside_line behind line class
step_of behind numbered (inside class method) line = inside_line numbered class method

abbrev pub step : List Numbered → Numbered → State → Making State
step behind numbered state = step_of behind numbered state numbered.line
