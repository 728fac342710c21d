-- A run in which threads move in a given order, computed from its first core.
use Rattle.std.specs.Prelude.{ℕ, zero, suc, Option, None, Some, List, [], ◌∷◌}
use Rattle.std.specs.Option.{option_map_or}
use Rattle.op_core.specs.ThreadCode.{Code, quiet_step}
use Rattle.op_core.specs.OrdinaryState.{set_at}
use Rattle.step_port.specs.Words.{answer_of}
use Rattle.thread_automaton.specs.declared.Bounds.{Bounds}
use Rattle.thread_automaton.specs.declared.Move.{Move}
use Rattle.thread_automaton.specs.declared.Move.TheVariants.{Quiet, Make}
use Rattle.thread_automaton.specs.ThreadState.{ThreadState}
use Rattle.thread_automaton.specs.NextMove.{next_move}
use Rattle.thread_automaton.specs.Told.{after_quiet}
use Rattle.core_runs.specs.Cores.{Core, core_after}
use Rattle.core_runs.specs.Acts.{Act, quiet, did}

-- an act, and the core after it
pub record Moved (S : Type 0) : Type 0 where
  pub act : Act
  pub core : Core S

abbrev pub moved_quietly : {S : Type 0} → Core S → ℕ → ThreadState S → Option S → Option (Moved S)
moved_quietly c t th None = None
moved_quietly c t th (Some l) = Some (record { act = quiet t; core = record c { threads = set_at c.threads t (Some (after_quiet th l)) } })

abbrev pub moved_by : {S : Type 0} → Code S → Bounds → ℕ → Core S → ℕ → ThreadState S → Move → Option (Moved S)
moved_by code b k c t th Quiet = moved_quietly c t th (quiet_step code th.local)
moved_by code b k c t th (Make step) = Some (record { act = did t step (answer_of c.words step); core = core_after code b k c t th step (answer_of c.words step) })
moved_by code b k c t th move = None

abbrev pub moved_from : {S : Type 0} → Code S → Bounds → ℕ → Core S → ℕ → Option (ThreadState S) → Option (Moved S)
moved_from code b k c t None = None
moved_from code b k c t (Some th) = moved_by code b k c t th (next_move code b th)

-- the next move of thread t as act number k, if it has one
abbrev pub moved : {S : Type 0} → Code S → Bounds → ℕ → Core S → ℕ → Option (Moved S)
moved code b k c t = moved_from code b k c t (c.threads t)

-- The acts where threads move in this order, from act number k on: a thread that has no move is passed over.
abbrev pub acts_in : {S : Type 0} → Code S → Bounds → ℕ → Core S → List ℕ → List Act
acts_in code b k c [] = []
acts_in code b k c (t ∷ order) = option_map_or (λ m. m.act ∷ acts_in code b (suc k) m.core order) (moved code b k c t) (acts_in code b k c order)

abbrev pub or_later : {S : Type 0} → Core S → (ℕ → Core S) → ℕ → Core S
or_later c later zero = c
or_later c later (suc n) = later n

-- the core after n of these acts
abbrev pub core_in : {S : Type 0} → Code S → Bounds → ℕ → Core S → List ℕ → ℕ → Core S
core_in code b k c [] n = c
core_in code b k c (t ∷ order) n = option_map_or (λ m. or_later c (core_in code b (suc k) m.core order) n) (moved code b k c t) (core_in code b k c order n)
