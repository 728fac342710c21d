-- The map from the names of labels to their marks.
use Rattle.std.specs.Prelude.{ℕ, if◌then◌else◌, Some, None}
use Rattle.std.specs.BTreeMap.{BTreeMap, get_by}
use Rattle.std.specs.Ordering.{nat_cmp}
use Rattle.std.specs.Cmp.Lexicographic.{slice_cmp}
use Rattle.std.specs.declared.vec.Vec.{Vec}
use Rattle.assembler_bodies.specs.declared.labels.Labels.{Labels}
use Rattle.assembler_bodies.specs.declared.labels.Mark.{Mark}
use Rattle.assembler_text.specs.declared.lines.Numbered.{Numbered}
use Rattle.assembler_bodies.specs.Labels.{Marks, is_label}

-- the mark of a name in a map
abbrev pub mark_in : {Z : Type 0} → BTreeMap (Vec ℕ Z) Mark → Marks
mark_in marks name = get_by (λ key. slice_cmp nat_cmp name key.items) marks

-- the mark of a name at a line that begins at an offset
abbrev pub mark_at : ℕ → Numbered → Marks
mark_at offset numbered name = if is_label name numbered.line then Some (record { line = numbered.number; offset = offset }) else None

-- what labels know
abbrev pub marks_of : Labels → Marks
marks_of labels = mark_in labels.marks
