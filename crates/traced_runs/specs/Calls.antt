-- What a turn in memory tells the rows of a journal.
use Rattle.std.specs.Prelude.{ℕ, Option, None, Some, List, [], ◌∷◌, ◌++◌, nat_eq, if◌then◌else◌}
use Rattle.op_core.specs.declared.Event.{Event}
use Rattle.journal_rows.specs.Told.{RowCall, event_came, puts_word_back, undoes_levels_to}
use Rattle.core_law.specs.RunCalls.{open_or_close_calls}
use Rattle.word_machine.specs.declared.told_turn.ToldTurn.{ToldTurn}

abbrev pub calls_of_event : Option Event → List RowCall
calls_of_event None = []
calls_of_event (Some e) = event_came e ∷ []

-- it put a word back, with a step of kind 3, or others see an event of it
abbrev pub calls_of_shown : ℕ → ToldTurn → List RowCall
calls_of_shown t turn = if nat_eq turn.kind 3 then puts_word_back t ∷ [] else calls_of_event turn.event

-- it undid levels, with a step of kind 10, or opened or closed some
abbrev pub calls_of_levels : ℕ → ToldTurn → List RowCall
calls_of_levels t turn = if nat_eq turn.kind 10 then undoes_levels_to t turn.levels_after ∷ [] else open_or_close_calls t turn.levels_before turn.levels_after

-- thread t tells this of its turn, the newest first
abbrev pub calls_of_turn : ℕ → ToldTurn → List RowCall
calls_of_turn t turn = calls_of_levels t turn ++ calls_of_shown t turn
