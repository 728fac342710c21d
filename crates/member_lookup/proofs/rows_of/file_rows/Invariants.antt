use Rattle.std.proofs.Common.{◌≡◌, Some, map, take, slice_get}
use Rattle.code_decode.specs.declared.code.ClassUnit.{ClassUnit}
use Rattle.link_rules.specs.Classes.{member_of_file}
use Rattle.member_lookup.specs.Rows.{rows_from}
use Rattle.member_lookup.proofs.rows_of.file_rows.Given as goal

abbrev pub invariant-loop-place : goal.invariant-loop-place
invariant-loop-place l = (u : ClassUnit) → slice_get l.texts.units l.file ≡ Some u → l.rows.items ≡ rows_from l.texts.texts l.class 0 (map (member_of_file u.file.pool) (take l.place l.members))
