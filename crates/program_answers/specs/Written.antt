-- What a run leaves on its streams.
use Rattle.std.specs.Prelude.{◌≡◌, ℕ, ◌⊎◌, List, [], ◌∷◌, ◌++◌, codes, Option}
use Rattle.jr_ports.specs.Stream.{Gains, GainsPart}
use Rattle.program_answers.specs.declared.status.Status.{Status}
use Rattle.program_answers.specs.declared.status.Status.TheVariants as statuses
use Rattle.program_answers.specs.declared.answer.Answer.{Answer}

abbrev pub line : List ℕ → List ℕ
line text = text ++ 10 ∷ []

-- What a sink says it was given, before a run and after it, if it says that; and that its count of faults rose.
pub record SinkRun : Type 1 where
  pub before : Option (List (List ℕ))
  pub after : Option (List (List ℕ))
  pub failed : Type 0

-- the standard output and the standard error in a run
pub record Streams : Type 1 where
  pub out : SinkRun
  pub err : SinkRun

-- it was given these pieces
abbrev pub Gave : SinkRun → List (List ℕ) → Type 0
Gave run pieces = Gains run.before run.after pieces

-- .. or the first of them and perhaps a proper part of the next one, but not all
abbrev pub GaveSome : SinkRun → List (List ℕ) → Type 0
GaveSome run pieces = GainsPart run.before run.after pieces

-- These lines were to be written on the standard error, and then the run to end with the status `meant`. Where the standard
-- error fails in one of them, the status is that of a fault of writing; where memory runs out, it is `short`.
abbrev pub EndsOr : Status → List (List ℕ) → Status → SinkRun → Status → Type 0
EndsOr short lines meant err status =
    ((status ≡ meant) × ¬ err.failed × Gave err lines)
    ⊎ ((status ≡ statuses.WriteFault) × err.failed × GaveSome err lines)
    ⊎ ((status ≡ short) × ¬ err.failed × GaveSome err lines)

-- .. where no fault came before
abbrev pub Said : List (List ℕ) → Status → SinkRun → Status → Type 0
Said lines meant err status = EndsOr statuses.Memory lines meant err status

-- .. where a fault came before, whose status stays even when memory runs out
abbrev pub SaidFault : List ℕ → Status → SinkRun → Status → Type 0
SaidFault text fault err status = EndsOr fault (line text ∷ []) fault err status

-- the standard output failed in one of the pieces, and that alone is said
abbrev pub IsOutFault : List (List ℕ) → Streams → Status → Type 0
IsOutFault out streams status =
    streams.out.failed × GaveSome streams.out out × SaidFault (codes "write fault") statuses.WriteFault streams.err status

-- there was no memory to write them, and that alone is said
abbrev pub IsOutOfMemory : List (List ℕ) → Streams → Status → Type 0
IsOutOfMemory out streams status =
    ¬ streams.out.failed × GaveSome streams.out out × Said (line (codes "no memory") ∷ []) statuses.Memory streams.err status

-- an answer is written, the standard output first
abbrev pub Comes : Answer → Streams → Status → Type 0
Comes answer streams status =
    (¬ streams.out.failed × Gave streams.out answer.out × Said answer.err answer.status streams.err status)
    ⊎ IsOutFault answer.out streams status
    ⊎ IsOutOfMemory answer.out streams status

-- nothing is written on the standard output, and on the standard error why: what was asked failed
abbrev pub IsReadFault : Streams → Status → Type 0
IsReadFault streams status =
    ¬ streams.out.failed × Gave streams.out [] × SaidFault (codes "read fault") statuses.ReadFault streams.err status

-- .. there was no memory to find an answer
abbrev pub IsNoMemory : Streams → Status → Type 0
IsNoMemory streams status =
    ¬ streams.out.failed × Gave streams.out [] × Said (line (codes "no memory") ∷ []) statuses.Memory streams.err status
