-- How a run and its threads ended, in words.
use Rattle.std.specs.Prelude.{ℕ, Option, List, [], ◌∷◌, ◌++◌, codes, option_map, unwrap_or}
use Rattle.std.specs.Fmt.{decimal}
use Rattle.code_decode.specs.declared.code.ClassUnit.{ClassUnit}
use Rattle.link_rules.specs.Classes.{classes_of}
use Rattle.link_rules.specs.Strings.{literal_text}
use Rattle.linker.specs.Names.{name_of_class}
use Rattle.op_core.specs.declared.Limit.{Limit}
use Rattle.op_core.specs.declared.Limit.TheVariants as limits
use Rattle.op_core.specs.declared.ThreadEnd.{ThreadEnd}
use Rattle.java_machine.specs.Lines.{line_of}

-- the bytes of the internal name of a class (JVMS 4.2.1), and its text
abbrev pub class_name : List ClassUnit → ℕ → List ℕ
class_name us c = unwrap_or (name_of_class (classes_of us) c) []

abbrev pub class_text : List ClassUnit → ℕ → List ℕ
class_text us c = literal_text (class_name us c)

-- died: thread N CLASS
abbrev pub died_text : List ClassUnit → ℕ → ℕ → List ℕ
died_text us thread class = codes "died: thread " ++ decimal thread ++ 32 ∷ class_text us class

-- of a thread that an exception ended
abbrev pub died_line : List ClassUnit → ThreadEnd → Option (List ℕ)
died_line us end = option_map (λ class. line_of (died_text us end.thread class)) end.class

abbrev pub limit_word : Limit → List ℕ
limit_word limits.Turns = codes "turns"
limit_word limits.Heap = codes "heap"
limit_word limits.Sections = codes "sections"
limit_word limits.Threads = codes "threads"
limit_word limits.Frames = codes "frames"
limit_word limits.Depth = codes "depth"
limit_word limits.Trace = codes "trace"

-- limit: WORD thread N
abbrev pub limit_line : Limit → ℕ → List ℕ
limit_line limit thread = line_of (codes "limit: " ++ limit_word limit ++ codes " thread " ++ decimal thread)
