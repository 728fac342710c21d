-- With which statuses answers end.
use Rattle.std.specs.Prelude.{Bool, true, false}
use Rattle.program_answers.specs.declared.status.Status.{Status}
use Rattle.program_answers.specs.declared.status.Status.TheVariants as statuses

-- an answer about class files, of which nothing is executed
abbrev pub is_of_program : Status → Bool
is_of_program statuses.Done = true
is_of_program statuses.Refused = true
is_of_program statuses.NoMain = true
is_of_program _ = false

-- a program that was executed
abbrev pub is_of_run : Status → Bool
is_of_run statuses.Done = true
is_of_run statuses.Died = true
is_of_run statuses.Stuck = true
is_of_run statuses.Limit = true
is_of_run _ = false

-- an answer about a text that is to be a class file
abbrev pub is_of_text : Status → Bool
is_of_text statuses.Done = true
is_of_text (statuses.MakeRefused line) = true
is_of_text _ = false

-- an answer about a journal
abbrev pub is_of_journal : Status → Bool
is_of_journal statuses.Done = true
is_of_journal (statuses.NotExecution line) = true
is_of_journal _ = false

-- an answer that ends well
abbrev pub is_done : Status → Bool
is_done statuses.Done = true
is_done _ = false
