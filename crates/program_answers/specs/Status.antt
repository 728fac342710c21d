-- The exit status for each way in which a run of the program ends.
use Rattle.std.specs.Prelude.{ℕ}
use Rattle.program_answers.specs.declared.status.Status.{Status}
use Rattle.program_answers.specs.declared.status.Status.TheVariants as statuses

-- the exit status of the process
abbrev pub number_of : Status → ℕ
number_of statuses.Done = 0
number_of statuses.Died = 1
number_of statuses.Usage = 2
number_of statuses.Refused = 3
number_of statuses.NoMain = 4
number_of statuses.Stuck = 5
number_of statuses.Limit = 6
number_of statuses.ReadFault = 7
number_of statuses.WriteFault = 8
number_of statuses.Memory = 9
number_of (statuses.NotExecution n) = 10
number_of (statuses.MakeRefused n) = 11
