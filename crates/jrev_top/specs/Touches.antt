-- What a request touches outside, and how it may end.
use Rattle.std.specs.Prelude.{ℕ, ◌+◌, ◌||◌, List, Bool, true, false, Option, None, Some, map, String, string_bytes}
use Rattle.std.specs.Option.{option_and_then}
use Rattle.std.specs.declared.alloc.Global.{Global}
use Rattle.assembler_text.specs.TextLines.{most_bytes}
use Rattle.command_words.specs.Grammar.{request_of}
use Rattle.command_words.specs.declared.request.Request.{Request}
use Rattle.command_words.specs.declared.request.Request.TheVariants.{Pick, Trace, Run, Check, Load, Make, Migrate, Stress, Help, Version}
use Rattle.program_answers.specs.declared.status.Status.{Status}
use Rattle.command_answers.specs.Ends.{is_of_program, is_of_run, is_of_text, is_of_journal, is_done}

-- what the words ask for
abbrev pub asked_by : List (String Global) → Option Request
asked_by words = request_of (map string_bytes words)

-- the folder that is asked, if one is
abbrev pub folder_of : Request → Option (List ℕ)
folder_of (Pick dir main limits schedule counts) = Some dir
folder_of (Trace dir main limits schedule) = Some dir
folder_of (Run dir main limits workers slice counts) = Some dir
folder_of (Check dir main) = Some dir
folder_of (Load dir main) = Some dir
folder_of Make = None
folder_of Migrate = None
folder_of (Stress number) = None
folder_of Help = None
folder_of Version = None

-- how many of its class files are read at most
abbrev pub files_of : Request → ℕ
files_of (Pick dir main limits schedule counts) = 1025
files_of (Trace dir main limits schedule) = 1025
files_of (Run dir main limits workers slice counts) = 1025
files_of (Check dir main) = 1025
files_of (Load dir main) = 1025
files_of _ = 0

-- how many bytes of the input are read at most, if it is read: one more than a text or a journal may have
abbrev pub input_of : Request → Option ℕ
input_of (Check dir main) = Some 268435457
input_of Make = Some (most_bytes + 1)
input_of Migrate = Some 268435457
input_of _ = None

-- with which statuses its answer ends
abbrev pub may_end : Request → Status → Bool
may_end (Pick dir main limits schedule counts) status = is_of_run status || is_of_program status
may_end (Trace dir main limits schedule) status = is_of_run status || is_of_program status
may_end (Run dir main limits workers slice counts) status = is_of_run status || is_of_program status
may_end (Check dir main) status = is_of_journal status || is_of_program status
may_end (Load dir main) status = is_of_program status
may_end Make status = is_of_text status
may_end Migrate status = is_of_journal status
may_end (Stress number) status = is_of_run status || is_of_program status
may_end Help status = is_done status
may_end Version status = is_done status

-- the same of words that ask for nothing, too
abbrev pub folder_named : Option Request → Option (List ℕ)
folder_named request = option_and_then folder_of request

abbrev pub files_wanted : Option Request → ℕ
files_wanted None = 0
files_wanted (Some request) = files_of request

abbrev pub input_wanted : Option Request → Option ℕ
input_wanted request = option_and_then input_of request
