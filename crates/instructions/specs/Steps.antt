-- The instructions of a method, by their offsets (JVMS 4.7.3).
use Rattle.std.specs.Prelude.{ℕ, ◌==◌, List, map, Option}
use Rattle.std.specs.List.{position_from}
use Rattle.instructions.specs.declared.what.Instr.{Instr}

abbrev pub offsets_of : {T : Type 0} → List (Instr T) → List ℕ
offsets_of steps = map (λ s. s.at) steps

-- the number of the instruction that begins at an offset
abbrev pub number_at : {T : Type 0} → List (Instr T) → ℕ → Option ℕ
number_at steps at = position_from (λ offset. offset == at) 0 (offsets_of steps)
