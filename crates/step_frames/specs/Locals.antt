-- What is put into locals.
use Rattle.std.specs.Prelude.{ℕ, ◌+◌, ◌<◌, List}
use Rattle.type_rules.specs.declared.types.VerificationType.{VerificationType}
use Rattle.type_rules.specs.declared.types.VerificationType.TheVariants as words
use Rattle.type_rules.specs.FrameAfter.{with_local}
use Rattle.step_frames.specs.declared.change.LocalChange.{LocalChange}
use Rattle.step_frames.specs.declared.change.LocalChange.TheVariants.{Nothing, Word, Long}

abbrev pub locals_changed : LocalChange → List VerificationType → List VerificationType
locals_changed Nothing locals = locals
locals_changed (Word n word) locals = with_local locals n word
locals_changed (Long n) locals = with_local (with_local locals n words.Long) (n + 1) words.Second

-- `count` locals include those that are changed
abbrev pub IsWithin : LocalChange → ℕ → Type 0
IsWithin Nothing count = Unit {0}
IsWithin (Word n word) count = n < count
IsWithin (Long n) count = n + 1 < count
