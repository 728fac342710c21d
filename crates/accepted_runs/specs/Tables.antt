-- A program on a table of words that threads share.
use Rattle.std.specs.Prelude.{◌≡◌, ◌<◌, ◌^◌, List}
use Rattle.code_decode.specs.declared.code.ClassUnit.{ClassUnit}
use Rattle.link_types.specs.declared.operands.MethodId.{MethodId}
use Rattle.java_rows.specs.Start.{opening_of}
use Rattle.java_rows.specs.Thread.{Local, java_code, first_state}
use Rattle.plain_words.specs.Opening.{HasPlace}
use Rattle.table_words.specs.declared.setup.Setup.{Setup}
use Rattle.table_hosts.specs.Standing.{ThreadsCanGoOn}

-- A table is set up for the program of these classes, which begins with a method: its fixed objects have their place within the
-- limits, the numbers of sections have 24 bits, and a thread makes fewer than 2^56 counted turns.
pub record IsSetUpFor {C : Type 0} (state : C → Local) (us : List ClassUnit) (main : MethodId) (k : Setup C) : Type 0 where
  pub opening : k.opening ≡ opening_of us
  pub code : state k.code ≡ first_state us main
  pub place : HasPlace k.opening k.limits
  pub sections : k.limits.sections < 2 ^ 24
  pub turns : k.limits.turns < 2 ^ 56

-- on each such table each thread can go on after each run, until it has ended
abbrev pub ProgramThreadsCanGoOn : Type 0 → List ClassUnit → MethodId → Type 0
ProgramThreadsCanGoOn C us main = (state : C → Local) (k : Setup C) → IsSetUpFor state us main k → ThreadsCanGoOn state java_code k
