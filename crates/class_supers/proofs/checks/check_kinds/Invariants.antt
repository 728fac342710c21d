use Rattle.std.proofs.Common.{◌≡◌, ℕ, ◌<◌, Some, slice_get, get_or}
use Rattle.std.specs.Bool.{IsTrue}
use Rattle.access_flags.specs.declared.TheConstants.{INTERFACE}
use Rattle.link_rules.specs.Classes.{classes_of, class_has}
use Rattle.class_supers.proofs.checks.check_kinds.Given as goal

abbrev pub invariant-loop-i : goal.invariant-loop-i
invariant-loop-i l = (j at : ℕ) → j < l.i → slice_get l.indices j ≡ Some at → IsTrue (class_has (classes_of l.supers) (get_or l.numbers j 0) INTERFACE)
