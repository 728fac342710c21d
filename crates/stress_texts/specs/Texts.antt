-- The assembler's texts of the generated load of a number n.
use Rattle.std.specs.Prelude.{ℕ, zero, suc, ◌+◌, ◌%◌, List, [], ◌∷◌, ◌++◌}
use Rattle.std.specs.Fmt.{decimal}
use Rattle.stress_texts.specs.declared.template.TheConstants.{BEGINS, KEEPS, PUTS, MAKES, RANKS, MADE, RUNS, WORKER}

-- how many workers there are
abbrev pub workers : ℕ → ℕ
workers n = 2 + n % 15

-- the number from which worker i's numbers go on: the low 31 bits of n + i
abbrev pub seed : ℕ → ℕ → ℕ
seed n i = (n + i) % 2147483648

abbrev pub priority : ℕ → ℕ
priority i = 1 + i % 10

-- lines, a space and a number, which ends the last of them
abbrev pub with_number : List ℕ → ℕ → List ℕ
with_number lines number = lines ++ 32 ∷ decimal number ++ 10 ∷ []

-- the lines that make worker i
unfoldable pub worker_lines : ℕ → ℕ → List ℕ
worker_lines n i = with_number PUTS.now i ++ with_number MAKES.now (seed n i) ++ with_number RANKS.now (priority i) ++ MADE.now

-- .. the first workers
abbrev pub made : ℕ → ℕ → List ℕ
made n zero = []
made n (suc i) = made n i ++ worker_lines n i

unfoldable pub stress_text : ℕ → List ℕ
stress_text n = with_number BEGINS.now (workers n) ++ KEEPS.now ++ made n (workers n) ++ RUNS.now

unfoldable pub worker_text : List ℕ
worker_text = WORKER.now

-- the texts of the two classes
abbrev pub stress_texts : ℕ → List (List ℕ)
stress_texts n = stress_text n ∷ worker_text ∷ []
