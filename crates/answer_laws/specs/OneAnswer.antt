-- A request has one answer over what a folder and an input hold.
use Rattle.std.specs.Prelude.{◌≡◌, ℕ, Bool, true, false, List, Option, None, Some}
use Rattle.jr_ports.specs.Folder.{File, AreDifferent, names_of}
use Rattle.command_words.specs.declared.request.Request.{Request}
use Rattle.command_words.specs.declared.request.Request.TheVariants.{Run, Stress}
use Rattle.program_answers.specs.declared.answer.Answer.{Answer}
use Rattle.jrev_top.specs.Headline.{Outside, IsAnswer}

-- what is outside says that the folder holds these files, and that the input is these bytes
pub record Tells (files : List File) (input : List ℕ) (outside : Outside) : Type 0 where
  pub told_files : outside.files ≡ Some files
  pub told_input : outside.input ≡ Some input

-- a request whose answer isn't determined by its words, the files and the input, for it has threads run on several host threads
abbrev pub runs_on_hosts : Request → Bool
runs_on_hosts (Run dir main limits workers slice counts) = true
runs_on_hosts (Stress number) = true
runs_on_hosts request = false

-- so of a request that words make, if they make one
abbrev pub any_runs_on_hosts : Option Request → Bool
any_runs_on_hosts None = false
any_runs_on_hosts (Some request) = runs_on_hosts request

-- Two answers to one request that has no threads run on several host threads, over the same files, whose names differ, and the same input are the same, in whatever order the
-- folder gave its names, and whatever was read of it before.
abbrev pub RequestsHaveOneAnswer : Type 0
RequestsHaveOneAnswer = (request : Option Request) (files : List File) (input : List ℕ) (outside another : Outside) (answer other : Answer) → any_runs_on_hosts request ≡ false → AreDifferent (names_of files)
    → Tells files input outside → Tells files input another → IsAnswer request outside answer → IsAnswer request another other → other ≡ answer
