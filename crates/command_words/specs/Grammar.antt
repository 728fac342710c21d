-- The grammar of the command line.
use Rattle.std.specs.Prelude.{ℕ, ◌≤◌, ◌==◌, ◌&&◌, Bool, true, false, not, List, [], ◌∷◌, map, codes, if◌then◌else◌, Option, None, Some, unwrap_or, option_map}
use Rattle.std.specs.Option.{option_and_then}
use Rattle.std.specs.List.{list_all, list_any}
use Rattle.std.specs.Str.{bytes_eq}
use Rattle.decimal_numbers.specs.Numbers.{number_up_to}
use Rattle.op_core.specs.declared.Limits.{Limits}
use Rattle.schedules.specs.declared.order.Schedule.{Schedule}
use Rattle.command_words.specs.declared.options.NumberOption.TheVariants.{Seed, Turns, Heap, Sections, Workers, Slice}
use Rattle.command_words.specs.declared.options.CommandOption.{CommandOption}
use Rattle.command_words.specs.declared.options.CommandOption.TheVariants as options
use Rattle.command_words.specs.declared.request.ProgramCommand.{ProgramCommand}
use Rattle.command_words.specs.declared.request.ProgramCommand.TheVariants as commands
use Rattle.command_words.specs.declared.request.Request.{Request}
use Rattle.command_words.specs.declared.request.Request.TheVariants.{Pick, Trace, Run, Check, Load, Make, Migrate, Stress, Help, Version}
use Rattle.command_words.specs.Options.{option_of, each_of, are_different, number_given, order_given, is_counts}

-- a word that is no option
abbrev pub is_positional : List ℕ → Bool
is_positional [] = false
is_positional (a ∷ []) = true
is_positional (a ∷ b ∷ word) = not (a == 45 && b == 45)

-- a class's name with slashes for its dots
abbrev pub with_slashes : List ℕ → List ℕ
with_slashes name = map (λ c. if c == 46 then 47 else c) name

abbrev pub command_named : List ℕ → Option ProgramCommand
command_named word =
    if bytes_eq word (codes "pick") then Some commands.Pick
    else if bytes_eq word (codes "trace") then Some commands.Trace
    else if bytes_eq word (codes "run") then Some commands.Run
    else if bytes_eq word (codes "check") then Some commands.Check
    else if bytes_eq word (codes "load") then Some commands.Load
    else None

-- the options of a schedule, which decide whose turns come when
abbrev pub is_of_schedule : CommandOption → Bool
is_of_schedule (options.Number Seed n) = true
is_of_schedule (options.Order order) = true
is_of_schedule _ = false

-- the options of host threads
abbrev pub is_of_hosts : CommandOption → Bool
is_of_hosts (options.Number Workers n) = true
is_of_hosts (options.Number Slice n) = true
is_of_hosts _ = false

-- whether a command has an option
abbrev pub takes : ProgramCommand → CommandOption → Bool
takes commands.Pick option = not (is_of_hosts option)
takes commands.Trace option = not (is_of_hosts option) && not (is_counts option)
takes commands.Run option = not (is_of_schedule option)
takes commands.Check option = false
takes commands.Load option = false

abbrev pub limits_of : List CommandOption → Limits
limits_of given = record {
  turns = unwrap_or (number_given Turns given) 1000000000;
  heap = unwrap_or (number_given Heap given) 4194304;
  sections = unwrap_or (number_given Sections given) 4194304;
}

-- the limits are in the ranges of their options
pub record AreLimits (limits : Limits) : Type 0 where
  pub turns : limits.turns ≤ 1000000000
  pub sections : limits.sections ≤ 16777215

-- so they are where a request has limits
abbrev pub HasLimits : Request → Type 0
HasLimits (Pick dir main limits schedule counts) = AreLimits limits
HasLimits (Trace dir main limits schedule) = AreLimits limits
HasLimits (Run dir main limits workers slice counts) = AreLimits limits
HasLimits _ = Unit {0}

abbrev pub schedule_of : List CommandOption → Schedule
schedule_of given = record { order = order_given given; seed = number_given Seed given }

-- what a command asks for with these options
abbrev pub request_for : ProgramCommand → List ℕ → List ℕ → List CommandOption → Request
request_for commands.Pick dir main given = Pick dir main (limits_of given) (schedule_of given) (list_any is_counts given)
request_for commands.Trace dir main given = Trace dir main (limits_of given) (schedule_of given)
request_for commands.Run dir main given =
    Run dir main (limits_of given) (unwrap_or (number_given Workers given) 4) (unwrap_or (number_given Slice given) 10000) (list_any is_counts given)
request_for commands.Check dir main given = Check dir main
request_for commands.Load dir main given = Load dir main

-- each option is one of the command, and none is given twice
abbrev pub options_for : ProgramCommand → List CommandOption → Option (List CommandOption)
options_for command given = if list_all (takes command) given && are_different given then Some given else None

-- what a command asks for in a folder, from a class, with options as they are written
abbrev pub command_request : ProgramCommand → List ℕ → List ℕ → List (List ℕ) → Option Request
command_request command dir name written =
    option_map (request_for command dir (with_slashes name)) (option_and_then (options_for command) (each_of option_of written))

-- COMMAND DIR MAIN OPTION ..
abbrev pub program_request : List ℕ → List ℕ → List ℕ → List (List ℕ) → Option Request
program_request word dir name written =
    if is_positional dir && is_positional name
    then option_and_then (λ command. command_request command dir name written) (command_named word)
    else None

-- a command that is a single word
abbrev pub lone_request : List ℕ → Option Request
lone_request word =
    if bytes_eq word (codes "make") then Some Make
    else if bytes_eq word (codes "migrate") then Some Migrate
    else if bytes_eq word (codes "--help") then Some Help
    else if bytes_eq word (codes "--version") then Some Version
    else None

-- stress N
abbrev pub stress_request : List ℕ → List ℕ → Option Request
stress_request word number =
    if bytes_eq word (codes "stress") then option_map (λ n. Stress n) (number_up_to 18446744073709551615 number) else None

-- what the words ask for; nothing where no command has them
abbrev pub request_of : List (List ℕ) → Option Request
request_of [] = None
request_of (word ∷ []) = lone_request word
request_of (word ∷ number ∷ []) = stress_request word number
request_of (word ∷ dir ∷ name ∷ written) = program_request word dir name written
