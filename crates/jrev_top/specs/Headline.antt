-- What a run of the program leaves on its streams, and what it touches.
use Rattle.std.specs.Prelude.{◌≡◌, ◌≢◌, ◌<◌, ◌⊎◌, ℕ, List, take, true, Option, None, Some, IfSome, Result, Ok, Err}
use Rattle.jr_ports.specs.Folder.{File, Asked}
use Rattle.jr_ports.specs.Stream.{Gains}
use Rattle.encoded_texts.specs.Encoded.{encoded_text}
use Rattle.command_words.specs.declared.request.Request.{Request}
use Rattle.command_words.specs.declared.request.Request.TheVariants.{Pick, Trace, Run, Check, Load, Make, Migrate, Stress, Help, Version}
use Rattle.program_accept.specs.Accepted.{Accepted}
use Rattle.program_answers.specs.declared.status.Status.{Status}
use Rattle.program_answers.specs.declared.status.Status.TheVariants as statuses
use Rattle.program_answers.specs.declared.answer.Answer.{Answer}
use Rattle.program_answers.specs.Written.{SinkRun, Streams, Comes, IsReadFault, IsNoMemory}
use Rattle.command_answers.specs.Answers.{usage, given, help_text, version_text, IsDecided, Counts, Runs, RunsHosted, Traces, Checks, IsJournalText, IsText, IsMade, IsMigrated, IsStressed}
use Rattle.file_answers.specs.declared.failure.Failure.{Failure}
use Rattle.file_answers.specs.declared.failure.Failure.TheVariants.{Failed, NoMemory}
use Rattle.jrev_top.specs.Touches.{folder_named, input_wanted, may_end}
use Rattle.file_answers.specs.Folder.{AreListed}
pub use Rattle.file_answers.specs.Folder.{ReadsInOrder}

-- What the program has from outside: what the folder was asked and gave; what the folder and the input hold, where that
-- is known; and the names of the files that were read from the folder, before the run and after it.
pub record Outside : Type 0 where
  pub asked : Option Asked
  pub files : Option (List File)
  pub input : Option (List ℕ)
  pub before : Option (List (List ℕ))
  pub after : Option (List (List ℕ))

-- The answer of a command over the program of a folder. All files that it is of were read before it.
abbrev pub IsOfProgram : (ℕ → Accepted → Answer → Type 0) → List ℕ → List ℕ → Outside → Answer → Type 0
IsOfProgram answers dir main outside answer =
    (names : List (List ℕ)) × AreListed outside.asked outside.files dir names
    × Gains outside.before outside.after (take 1025 names) × IsDecided answers main outside.files (take 1025 names) answer

-- The answer to a request. A class's name is compared in modified UTF-8.
abbrev pub IsAnswerTo : Request → Outside → Answer → Type 0
IsAnswerTo (Pick dir main limits schedule counts) outside answer = IsOfProgram (Runs schedule limits counts) dir (encoded_text main) outside answer
IsAnswerTo (Trace dir main limits schedule) outside answer = IsOfProgram (Traces schedule limits) dir (encoded_text main) outside answer
IsAnswerTo (Run dir main limits workers slice counts) outside answer = IsOfProgram (RunsHosted limits counts) dir (encoded_text main) outside answer
IsAnswerTo (Check dir main) outside answer = IsOfProgram (Checks outside.input) dir (encoded_text main) outside answer
IsAnswerTo (Load dir main) outside answer = IsOfProgram Counts dir (encoded_text main) outside answer
IsAnswerTo Make outside answer = (text : List ℕ) × IsText outside.input text × IsMade text answer
IsAnswerTo Migrate outside answer = (text : List ℕ) × IsJournalText outside.input text × IsMigrated text answer
IsAnswerTo (Stress number) outside answer = IsStressed number answer
IsAnswerTo Help outside answer = answer ≡ given help_text
IsAnswerTo Version outside answer = answer ≡ given version_text

-- the answer to words that ask for this, or for nothing
abbrev pub IsAnswer : Option Request → Outside → Answer → Type 0
IsAnswer None outside answer = answer ≡ usage
IsAnswer (Some request) outside answer = IsAnswerTo request outside answer

-- a sink that a call changes: what it was given before and after the call, and how often it had failed
abbrev pub sink_run : Option (List (List ℕ)) → Option (List (List ℕ)) → ℕ → ℕ → SinkRun
sink_run given_before given_after faults_before faults_after = record {
  before = given_before;
  after = given_after;
  failed = faults_before < faults_after;
}

-- what is left of an answer that was decided, or of why there is none
abbrev pub IsTold : Result Answer Failure → Streams → Status → Type 0
IsTold (Ok answer) streams status = Comes answer streams status
IsTold (Err Failed) streams status = IsReadFault streams status
IsTold (Err NoMemory) streams status = IsNoMemory streams status

-- What is left on the streams: an answer, before which nothing failed; or that the folder or the input failed before it was
-- known; or that there was no memory for it, and nothing had failed.
abbrev pub Reports : Option Request → Outside → Type 0 → Streams → Status → Type 0
Reports request outside failed streams status =
    ((answer : Answer) × IsAnswer request outside answer × ¬ failed × Comes answer streams status)
    ⊎ (failed × IsReadFault streams status)
    ⊎ (¬ failed × IsNoMemory streams status)

-- a folder was asked for nothing, or for the one that is named
abbrev pub AsksOnly : Option Request → Option Asked → Type 0
AsksOnly request None = Unit {0}
AsksOnly request (Some asked) = folder_named request ≡ Some asked.dir

-- the folder failed, where one is asked, or the input, where it is read
abbrev pub FailsAsked : Option Request → Type 0 → Type 0 → Type 0
FailsAsked request folder_failed input_failed =
    ((folder_named request ≢ None) × folder_failed) ⊎ ((input_wanted request ≢ None) × input_failed)

-- a stream failed
abbrev pub FailsStream : Streams → Type 0
FailsStream streams = streams.out.failed ⊎ streams.err.failed

-- how the answer to the words ends
abbrev pub Ends : Option Request → Status → Type 0
Ends None status = status ≡ statuses.Usage
Ends (Some request) status = may_end request status ≡ true

-- .. or memory ran out
abbrev pub MayEnd : Option Request → Status → Type 0
MayEnd request status = (status ≡ statuses.Memory) ⊎ Ends request status
