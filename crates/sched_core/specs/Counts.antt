-- How many sections a run opened, and how often a thread of it undid levels.
use Rattle.std.specs.Prelude.{ℕ, Bool, true, false, List, length, filter}
use Rattle.step_port.specs.declared.step.Step.TheVariants.{OpenSection, MarkUndone}
use Rattle.core_runs.specs.Acts.{Act, did}

-- the act opens a section
abbrev pub is_opening : Act → Bool
is_opening (did t (OpenSection s word) answer) = true
is_opening act = false

-- the thread of the act has undone a level or more of its section
abbrev pub is_undoing : Act → Bool
is_undoing (did t (MarkUndone s word) answer) = true
is_undoing act = false

abbrev pub opened_in : List Act → ℕ
opened_in acts = length (filter is_opening acts)

abbrev pub undone_in : List Act → ℕ
undone_in acts = length (filter is_undoing acts)
