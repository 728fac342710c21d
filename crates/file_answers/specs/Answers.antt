-- What is answered to class files and to an assembler's text.
use Rattle.std.specs.Prelude.{◌≡◌, ℕ, ◌⊎◌, List, [], ◌∷◌, ◌++◌, length, codes, Option, IfSome, Ok, Err, slice_index_or}
use Rattle.std.specs.Fmt.{decimal}
use Rattle.jr_ports.specs.Folder.{File}
use Rattle.class_make.specs.Texts.{IsAssembled, front}
use Rattle.rules.specs.Rules.{Rules}
use Rattle.program_input.specs.Folder.{AreRead}
use Rattle.program_answers.specs.declared.status.Status.{Status}
use Rattle.program_answers.specs.declared.status.Status.TheVariants as statuses
use Rattle.program_answers.specs.declared.answer.Answer.{Answer}
use Rattle.program_answers.specs.Written.{line}
use Rattle.program_accept.specs.declared.refusal.Stage.{Stage}
use Rattle.program_accept.specs.declared.refusal.Stage.TheVariants as stages
use Rattle.program_accept.specs.declared.refusal.Refusal.{Refusal}
use Rattle.program_accept.specs.declared.refusal.AcceptRefusal.{AcceptRefusal}
use Rattle.program_accept.specs.declared.refusal.AcceptRefusal.TheVariants.{NoMain, Refused}
use Rattle.program_accept.specs.Accepted.{Accepted, IsProgram, program_rules}
use Rattle.file_answers.specs.declared.texts.TheConstants.{HELP, VERSION}
use Rattle.file_answers.specs.declared.loading.Judged.{Judged}
use Rattle.file_answers.specs.declared.loading.Judged.TheVariants as judged
use Rattle.file_answers.specs.declared.loading.Loaded.{Loaded}

-- a line on the standard error
abbrev pub told : Status → List ℕ → Answer
told status text = record { status = status; out = []; err = line text ∷ [] }

-- bytes on the standard output
abbrev pub given : List ℕ → Answer
given bytes = record { status = statuses.Done; out = bytes ∷ []; err = [] }

abbrev pub usage : Answer
usage = told statuses.Usage (codes "usage")

abbrev pub no_main : Answer
no_main = told statuses.NoMain (codes "no main")

-- what --help and --version print
unfoldable pub help_text : List ℕ
help_text = HELP.now

unfoldable pub version_text : List ℕ
version_text = VERSION.now

-- a text, a space and a word
abbrev pub with_word : List ℕ → List ℕ → List ℕ
with_word text word = text ++ 32 ∷ word

-- refused: STAGE FILE NUMBER METHOD PLACE
abbrev pub refusal_words : List ℕ → List ℕ → ℕ → ℕ → ℕ → List ℕ
refusal_words stage file number method place =
    with_word (with_word (with_word (with_word (with_word (codes "refused:") stage) file) (decimal number)) (decimal method)) (decimal place)

abbrev pub stage_word : Stage → List ℕ
stage_word stages.Read = codes "read"
stage_word stages.Code = codes "code"
stage_word stages.Link = codes "link"
stage_word stages.Verify = codes "verify"

-- `count` classes were read
abbrev pub accepted : ℕ → Answer
accepted count = given (line (codes "accepted " ++ decimal count))

-- the first rule that is broken, with the name of its file
abbrev pub refused : List (List ℕ) → Refusal → Answer
refused names refusal =
    told statuses.Refused (refusal_words (stage_word refusal.stage) (slice_index_or names refusal.class []) refusal.number refusal.method refusal.place)

-- the rules refuse this and nothing else, and don't hold
pub record RefuseOnly (rules : Rules AcceptRefusal) (refusal : AcceptRefusal) : Type 0 where
  pub refused : rules.Refuse refusal
  pub only : (other : AcceptRefusal) → rules.Refuse other → other ≡ refusal
  pub broken : ¬ rules.Hold

-- The files are a program that begins with a class, one and no other, and none of its rules is broken.
pub record AreProgram (main : List ℕ) (files : List (List ℕ)) (program : Accepted) : Type 0 where
  pub is : IsProgram files main program
  pub only : (other : Accepted) → IsProgram files main other → other ≡ program
  pub unbroken : (e : AcceptRefusal) → ¬ (program_rules files main).Refuse e

-- the answer to class files of these names and bytes that are no program: the first rule that is broken
abbrev pub IsRefusal : List ℕ → List (List ℕ) → List (List ℕ) → Answer → Type 0
IsRefusal main names files answer =
    (RefuseOnly (program_rules files main) NoMain × (answer ≡ no_main))
    ⊎ ((refusal : Refusal) × RefuseOnly (program_rules files main) (Refused refusal) × (answer ≡ refused names refusal))

-- The answer to class files of these names and bytes, one and no other: where they are a program, what holds of it; else the
-- first rule that is broken.
abbrev pub IsJudged : (ℕ → Accepted → Answer → Type 0) → List ℕ → List (List ℕ) → List (List ℕ) → Answer → Type 0
IsJudged answers main names files answer =
    ((program : Accepted) × AreProgram main files program × answers (length files) program answer) ⊎ IsRefusal main names files answer

-- what class files come to before anything is done with them: their program, or the answer where they are none
abbrev pub ComeTo : List ℕ → List (List ℕ) → List (List ℕ) → Judged → Type 0
ComeTo main names files (judged.Program program) = AreProgram main files program
ComeTo main names files (judged.Other answer) = IsRefusal main names files answer

-- so of the class files of these names, which are read
abbrev pub IsDecided : (ℕ → Accepted → Answer → Type 0) → List ℕ → Option (List File) → List (List ℕ) → Answer → Type 0
IsDecided answers main files names answer =
    (read : List (List ℕ)) × AreRead files names read × IsJudged answers main names read answer

-- what the class files of these names come to, which are read, and how many they are
abbrev pub IsLoaded : List ℕ → Option (List File) → List (List ℕ) → Loaded → Type 0
IsLoaded main files names loaded =
    (read : List (List ℕ)) × AreRead files names read × ((loaded.count ≡ length read) × ComeTo main names read loaded.judged)

-- what load answers to a program of `count` classes
abbrev pub Counts : ℕ → Accepted → Answer → Type 0
Counts count program answer = answer ≡ accepted count

-- the line that shows that a text is the journal of no execution
abbrev pub not_execution : ℕ → Answer
not_execution number = told (statuses.NotExecution number) (codes "not an execution: line " ++ decimal number)

-- the text that is read of the input
abbrev pub IsText : Option (List ℕ) → List ℕ → Type 0
IsText input text = IfSome input (λ left. text ≡ front left)

-- the number of the line at which a text is refused
abbrev pub not_made : ℕ → Answer
not_made number = told (statuses.MakeRefused number) (codes "make: line " ++ decimal number)

-- the answer of make to a text
abbrev pub IsMade : List ℕ → Answer → Type 0
IsMade text answer =
    ((bytes : List ℕ) × IsAssembled text (Ok bytes) × (answer ≡ given bytes))
    ⊎ ((number : ℕ) × IsAssembled text (Err number) × (answer ≡ not_made number))
