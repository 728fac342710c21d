use Rattle.std.proofs.Common.{◌≡◌, map, take}
use Rattle.builtin_world.specs.BuiltinClass.{shown_field}
use Rattle.link_rules.specs.Classes.{library_field}
use Rattle.member_lookup.specs.Rows.{rows_from}
use Rattle.member_lookup.proofs.rows_of.builtin_field_rows.Given as goal

abbrev pub invariant-loop-place : goal.invariant-loop-place
invariant-loop-place l = l.rows.items ≡ rows_from l.texts.texts l.class 0 (map (λ m. library_field (shown_field m)) (take l.place l.fields))
