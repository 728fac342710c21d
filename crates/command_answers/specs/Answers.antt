-- What the program answers to what it read.
use Rattle.std.specs.Prelude.{◌≡◌, ◌≢◌, ℕ, Bool, false, ◌⊎◌, List, [], ◌∷◌, ◌++◌, take, codes, Option, Some, IfSome, Ok, Err}
use Rattle.op_core.specs.declared.Limits.{Limits}
use Rattle.schedules.specs.declared.order.Schedule.{Schedule}
use Rattle.trace_journal.specs.declared.item.JournalFault.{JournalFault}
use Rattle.trace_journal.specs.declared.item.TheConstants.{LARGEST}
use Rattle.trace_journal.specs.Reading.{Read, IsRead, line_of}
use Rattle.trace_journal.specs.Text.{text_of}
use Rattle.encoded_texts.specs.Encoded.{encoded_text}
use Rattle.stress_texts.specs.Classes.{AreClasses, stress_names}
use Rattle.stress_texts.specs.Texts.{stress_texts}
use Rattle.stress_texts.specs.declared.classes.TheConstants.{STRESS_MAIN}
use Rattle.java_run.specs.Run.{IsHostedRunOf, IsRunOf, IsTraceOf}
use Rattle.java_run.specs.Check.{IsCheckOf}
use Rattle.java_run.specs.declared.checking.Checked.{Checked}
use Rattle.java_run.specs.declared.checking.Checked.TheVariants.{Execution, NotExecution}
use Rattle.program_answers.specs.declared.status.Status.TheVariants as statuses
use Rattle.program_answers.specs.declared.answer.Answer.{Answer}
use Rattle.program_answers.specs.Written.{line}
use Rattle.program_accept.specs.Accepted.{Accepted}
pub use Rattle.file_answers.specs.Answers.{told, given, usage, no_main, help_text, version_text, with_word, refusal_words, stage_word, accepted, refused, RefuseOnly, AreProgram, IsRefusal, IsJudged, ComeTo, IsDecided, IsLoaded, Counts, not_execution, IsText, not_made, IsMade}

-- what pick answers to a program: a run of it, with its counts where they are asked for
abbrev pub Runs : Schedule → Limits → Bool → ℕ → Accepted → Answer → Type 0
Runs schedule limits counts count program answer = IsRunOf program.units program.main schedule limits counts answer

-- what run answers to a program: a run of it on host threads, with its counts where they are asked for
abbrev pub RunsHosted : Limits → Bool → ℕ → Accepted → Answer → Type 0
RunsHosted limits counts count program answer = IsHostedRunOf program.units program.main limits counts answer

-- what trace answers to a program: the journal of a run of it
abbrev pub Traces : Schedule → Limits → ℕ → Accepted → Answer → Type 0
Traces schedule limits count program answer = IsTraceOf program.units program.main schedule limits answer

-- the bytes of a journal that are read of the input: at most one more than a journal may have
abbrev pub IsJournalText : Option (List ℕ) → List ℕ → Type 0
IsJournalText input text = IfSome input (λ left. text ≡ take 268435457 left)

-- the lines of the execution
abbrev pub checked_answer : Checked → Answer
checked_answer (Execution lines) = record { status = statuses.Done; out = lines; err = [] }
checked_answer (NotExecution number) = not_execution number

-- what check answers to a program, where the input is this
abbrev pub Checks : Option (List ℕ) → ℕ → Accepted → Answer → Type 0
Checks input count program answer =
    (text : List ℕ) × (checked : Checked) × IsJournalText input text × IsCheckOf program.units program.main text checked × (answer ≡ checked_answer checked)

-- what migrate answers to a text: the journal in version 2, or the line that shows that it is none
abbrev pub IsMigrated : List ℕ → Answer → Type 0
IsMigrated text answer =
    ((read : Read) × IsRead LARGEST text (Ok read) × (answer ≡ given (text_of 2 read.items)))
    ⊎ ((fault : JournalFault) × IsRead LARGEST text (Err fault) × (answer ≡ not_execution (line_of fault)))

-- the limits and the schedule of a run of the generated load
abbrev pub stress_limits : Limits
stress_limits = record { turns = 1000000000; heap = 4194304; sections = 16777215 }

abbrev pub seeded : ℕ → Schedule
seeded number = record { order = []; seed = Some number }

-- the lines of a run after a title
abbrev pub titled : List ℕ → List (List ℕ) → List (List ℕ)
titled title lines = line title ∷ lines

-- the lines of a first run alone
abbrev pub first_answer : Answer → Answer
first_answer first = record { status = first.status; out = titled (codes "first") first.out; err = first.err }

-- the lines of two runs, of which the second says how they ended
abbrev pub second_answer : Answer → Answer → Answer
second_answer first second = record {
  status = second.status;
  out = titled (codes "first") first.out ++ titled (codes "second") second.out;
  err = second.err;
}

-- after a first run that ended well the lines of both runs, the second on host threads; after another one its own
abbrev pub IsSecond : ℕ → Accepted → Answer → Answer → Type 0
IsSecond count program first answer =
    ((first.status ≡ statuses.Done) × (second : Answer) × RunsHosted stress_limits false count program second
    × (answer ≡ second_answer first second))
    ⊎ ((first.status ≢ statuses.Done) × (answer ≡ first_answer first))

-- what stress answers to the program of a number
abbrev pub RunsTwice : ℕ → ℕ → Accepted → Answer → Type 0
RunsTwice number count program answer =
    (first : Answer) × Runs (seeded number) stress_limits false count program first × IsSecond count program first answer

-- the answer of stress: the class files that are made for the number are judged as those of a folder are
abbrev pub IsStressed : ℕ → Answer → Type 0
IsStressed number answer =
    (files : List (List ℕ)) × AreClasses (stress_texts number) files × IsJudged (RunsTwice number) (encoded_text STRESS_MAIN.now) stress_names files answer
