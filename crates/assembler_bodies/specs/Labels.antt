-- The labels of a body, and their offsets.
use Rattle.std.specs.Prelude.{ℕ, ◌+◌, min, Bool, true, false, if◌then◌else◌, List, [], ◌∷◌, length, Option, Some, None, bytes_eq}
use Rattle.assembler_lines.specs.declared.line.Line.{Line}
use Rattle.assembler_lines.specs.declared.line.Line.TheVariants.{End, Label, Instruction}
use Rattle.assembler_lines.specs.declared.operation.Operation.{Operation}
use Rattle.assembler_lines.specs.declared.operation.Operands.{Operands}
use Rattle.assembler_lines.specs.declared.operation.Operands.TheVariants as said
use Rattle.instructions.specs.declared.form.Form.{Form}
use Rattle.instructions.specs.declared.form.Form.TheVariants as forms
use Rattle.instructions.specs.Table as table
use Rattle.instructions.specs.Table.{row_numbered}
use Rattle.code_write.specs.declared.shape.Shape.{Shape}
use Rattle.code_write.specs.declared.shape.Shape.TheVariants as shapes
use Rattle.code_write.specs.Instruction.{size}
use Rattle.assembler_bodies.specs.declared.labels.Mark.{Mark}
use Rattle.assembler_text.specs.declared.lines.Numbered.{Numbered}

-- whether an int or an index of the pool has one byte: bipush and ldc
abbrev pub has_one_byte : Form → Bool
has_one_byte forms.ByteInt = true
has_one_byte forms.ByteConstant = true
has_one_byte _ = false

-- whether a distance has four bytes: goto_w
abbrev pub is_far : Form → Bool
is_far (forms.FarBranch test) = true
is_far _ = false

-- what the size of an instruction depends on, by its form and whether wide comes before it (JVMS 6.5)
abbrev pub shape_of : Form → Bool → Operands → Shape
shape_of form wide said.None = shapes.Fixed 1
shape_of form wide (said.Number n) = shapes.Fixed (if has_one_byte form then 2 else 3)
shape_of form wide (said.Local local) = shapes.Fixed (if wide then 4 else 2)
shape_of form wide (said.Increment local by) = shapes.Fixed (if wide then 6 else 3)
shape_of form wide (said.Constant loaded) = shapes.Fixed (if has_one_byte form then 2 else 3)
shape_of form wide (said.Long n) = shapes.Fixed 3
shape_of form wide (said.Label label) = shapes.Fixed (if is_far form then 5 else 3)
shape_of form wide (said.TableSwitch low default labels) = shapes.TableSwitch (length labels)
shape_of form wide (said.LookupSwitch default cases) = shapes.LookupSwitch (length cases)
shape_of form wide (said.Member class name descriptor) = shapes.Fixed 3
shape_of form wide (said.InterfaceMethod class name descriptor count) = shapes.Fixed 5
shape_of form wide (said.Class name) = shapes.Fixed 3
shape_of form wide (said.NewArray element) = shapes.Fixed 2

-- no offset is above 2^32 - 1
abbrev pub capped : ℕ → ℕ
capped offset = min offset 4294967295

abbrev pub behind_row : ℕ → Option table.Instruction → Operation → ℕ
behind_row at None operation = at
behind_row at (Some row) operation = capped (at + size at (shape_of row.form operation.is_wide operation.operands))

-- the offset after a line that begins at an offset: only instructions have bytes
abbrev pub offset_behind : ℕ → Option Line → ℕ
offset_behind at (Some (Instruction operation)) = behind_row at (row_numbered operation.number) operation
offset_behind at _ = at

abbrev pub is_end : Option Line → Bool
is_end (Some End) = true
is_end _ = false

abbrev pub is_label : List ℕ → Option Line → Bool
is_label name (Some (Label other)) = bytes_eq name other
is_label name _ = false

-- the marks of labels by their names
abbrev pub Marks : Type 0
Marks = List ℕ → Option Mark

-- A label is at the first line of its name before the end of the body.
abbrev pub marks_from : ℕ → List Numbered → Marks
marks_from at [] name = None
marks_from at (numbered ∷ lines) name =
    if is_end numbered.line then None else
    if is_label name numbered.line then Some (record { line = numbered.number; offset = at }) else
    marks_from (offset_behind at numbered.line) lines name

-- the first of two marks
abbrev pub first_mark : Option Mark → Option Mark → Option Mark
first_mark (Some mark) other = Some mark
first_mark None other = other

-- the labels of the lines after the one that begins the body
abbrev pub marks_in : List Numbered → Marks
marks_in lines = marks_from 0 lines
