use Rattle.std.proofs.Common.{◌≡◌, ◌++◌, map, take}
use Rattle.link_rules.specs.Classes.{class_of_unit}
use Rattle.link_implementations.specs.Implementations.{abstract_candidates}
use Rattle.link_implementations.proofs.candidates.add_files.Given as goal

abbrev pub invariant-loop-file : goal.invariant-loop-file
invariant-loop-file l = l.table.items ≡ l.initial.table.items ++ map (λ u. abstract_candidates l.lookup (class_of_unit u).methods) (take l.file l.lookup.units)
