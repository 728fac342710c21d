-- What the lines of a text say of the class file that is read (JVMS SE 8, 4.1, 4.5 and 4.6).
use Rattle.std.specs.Prelude.{◌≡◌, ℕ, List, Option, Some, None, if◌then◌else◌}
use Rattle.std.specs.List.{AllZip}
use Rattle.access_flags.specs.declared.TheConstants.{STATIC}
use Rattle.access_flags.specs.Flags.{has}
use Rattle.class_walk.specs.declared.class.Constant.{Constant}
use Rattle.class_read.specs.declared.class_file.ClassFile.{ClassFile}
use Rattle.class_read.specs.declared.class_file.CodeAttribute.{CodeAttribute}
use Rattle.class_read.specs.declared.class_file.Member.{Member}
use Rattle.class_pool.specs.Pool.{IsUtf8At, IsClassAt}
use Rattle.code_decode.specs.declared.code.Code.{Code}
use Rattle.code_decode.specs.Code.{IsCode}
use Rattle.assembler_lines.specs.declared.line.FieldValue.{FieldValue}
use Rattle.assembler_text.specs.declared.lines.Numbered.{Numbered}
use Rattle.assembler_pool.specs.Items.{IsItemAt}
use Rattle.class_make.specs.Class.{value_item}
use Rattle.assembler_laws.specs.BodyMeaning.Body.{IsBodyOf}
use Rattle.assembler_laws.specs.ClassMeaning.Parts.{SaidClass, SaidField, SaidBody, SaidMethod, class_in, super_in, interfaces_in, fields_in, methods_in}

-- a class of this name is at the index
abbrev pub IsNamed : List Constant → List ℕ → ℕ → Type 0
IsNamed pool name index = IsClassAt pool index name

-- the value of a constant field
abbrev pub SaysValue : List Constant → Option FieldValue → Option ℕ → Type 0
SaysValue pool None None = Unit {0}
SaysValue pool (Some value) (Some index) = IsItemAt pool index (value_item value)
SaysValue pool _ _ = ⊥

-- only a static field begins with its value (JVMS 4.7.2)
abbrev pub value_of : SaidField → Option FieldValue
value_of said = if has said.flags STATIC then said.value else None

pub record SaysField (pool : List Constant) (said : SaidField) (m : Member) : Type 0 where
  pub flags : m.flags ≡ said.flags
  pub name : IsUtf8At pool m.name said.name
  pub descriptor : IsUtf8At pool m.descriptor said.descriptor
  pub value : SaysValue pool (value_of said) m.constant

-- The code of a method with a body decodes to nothing but what the body's lines say; one without a body has no code.
abbrev pub SaysCode : List Constant → Option SaidBody → Option CodeAttribute → Type 0
SaysCode pool None None = Unit {0}
SaysCode pool (Some body) (Some a) = (entry : ℕ) (code : Code) → IsCode pool entry a code → IsBodyOf pool body.room body.lines code
SaysCode pool _ _ = ⊥

pub record SaysMethod (pool : List Constant) (said : SaidMethod) (m : Member) : Type 0 where
  pub flags : m.flags ≡ said.flags
  pub name : IsUtf8At pool m.name said.name
  pub descriptor : IsUtf8At pool m.descriptor said.descriptor
  pub code : SaysCode pool said.body m.code

-- The class file has the name, the flags, the superclass and the members of the lines, in their order, and no others.
pub record IsClassOf (lines : List Numbered) (file : ClassFile) : Type 0 where
  pub class : SaidClass
  pub begins : class_in lines ≡ Some class
  pub version : file.major ≡ 52
  pub flags : file.flags ≡ class.flags
  pub this_class : IsNamed file.pool class.name file.this_class
  pub super_class : IsNamed file.pool (super_in lines) file.super_class
  pub interfaces : AllZip (IsNamed file.pool) (interfaces_in lines) file.interfaces
  pub fields : AllZip (SaysField file.pool) (fields_in lines) file.fields
  pub methods : AllZip (SaysMethod file.pool) (methods_in lines) file.methods

-- a method of the lines has a body, and the code is that body's
abbrev pub IsCodeOfMethod : List Constant → Option SaidMethod → Code → Type 0
IsCodeOfMethod pool None code = ⊥
IsCodeOfMethod pool (Some said) code = (body : SaidBody) × (said.body ≡ Some body) × IsBodyOf pool body.room body.lines code
