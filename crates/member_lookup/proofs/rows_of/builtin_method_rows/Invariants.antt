use Rattle.std.proofs.Common.{◌≡◌, map, take}
use Rattle.builtin_world.specs.BuiltinClass.{shown_method}
use Rattle.link_rules.specs.Classes.{library_method}
use Rattle.member_lookup.specs.Rows.{rows_from}
use Rattle.member_lookup.proofs.rows_of.builtin_method_rows.Given as goal

abbrev pub invariant-loop-place : goal.invariant-loop-place
invariant-loop-place l = l.rows.items ≡ rows_from l.texts.texts l.class 0 (map (λ m. library_method (shown_method m)) (take l.place l.methods))
