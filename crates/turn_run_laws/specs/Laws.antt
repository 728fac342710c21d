-- What is proved of turns of one thread.
use Rattle.std.specs.Prelude.{◌≡◌, ℕ, true, Some, List, ◌++◌}
use Rattle.std.specs.List.{list_all}
use Rattle.op_core.specs.InPlaceList.{unseen}
use Rattle.op_core.specs.declared.Next.{Next}
use Rattle.op_core.specs.ThreadCode.{Code}
use Rattle.step_port.specs.declared.answer.StepAnswer.{StepAnswer}
use Rattle.step_port.specs.declared.step.Step.{Step}
use Rattle.step_port.specs.Words.{Words, IsStepOnWords}
use Rattle.thread_automaton.specs.declared.Bounds.{Bounds}
use Rattle.thread_automaton.specs.ThreadState.{ThreadState}
use Rattle.thread_automaton.specs.Told.{Told}
use Rattle.core_runs.specs.Entries.{event_told}
use Rattle.core_runs.specs.Cores.{Core}
use Rattle.word_runs.specs.WordTurns.{Progress}
use Rattle.word_runs.specs.Laws.{AreActs}
use Rattle.turn_runs.specs.declared.looks.Looks.{Looks}
use Rattle.turn_runs.specs.Turns.{TurnMove, made, Turns}
use Rattle.turn_runs.specs.Looks.{move_passes}
use Rattle.turn_run_laws.specs.GivenTurns.{AreApart, LeadsTo}

-- turns, and then other turns, are turns
abbrev pub TurnsJoin : {S P : Type 0} → Code S → (P → Step → StepAnswer → P → Type 0) → Type 0
TurnsJoin {S} {P} code stepped = (b : Bounds) (th mid last : ThreadState S) (x y z : P) (moves others : List TurnMove)
    → Turns code b stepped th x moves mid y → Turns code b stepped mid y others last z → Turns code b stepped th x (moves ++ others) last z

-- where the caller looks at events, a turn that passes by shows none
abbrev pub PassedTurnsAreUnseen : Type 0
PassedTurnsAreUnseen = (looks : Looks) (t : ℕ) (next : Next) (step : Step) (answer : StepAnswer) (tells : Told)
    → looks.events ≡ true → move_passes looks (made next step answer tells) ≡ true → event_told t next tells ≡ unseen

-- turns through a port whose steps are steps on some words are turns on these words
abbrev pub TurnsAreOnWords : {S P : Type 0} → Code S → (P → Step → StepAnswer → P → Type 0) → Type 0
TurnsAreOnWords {S} {P} code stepped = (words_of : P → Words) → ((x : P) (step : Step) (a : StepAnswer) (y : P) → stepped x step a y → IsStepOnWords (words_of x) step a (words_of y))
    → (b : Bounds) (th last : ThreadState S) (x y : P) (moves : List TurnMove)
    → Turns code b stepped th x moves last y → Turns code b IsStepOnWords th (words_of x) moves last (words_of y)

-- turns that pass by, however the caller looks, hand no thread out
abbrev pub PassedTurnsHandNoneOut : {S P : Type 0} → Code S → (P → Step → StepAnswer → P → Type 0) → Type 0
PassedTurnsHandNoneOut {S} {P} code stepped = (b : Bounds) (looks : Looks) (th last : ThreadState S) (x y : P) (moves : List TurnMove)
    → Turns code b stepped th x moves last y → list_all (move_passes looks) moves ≡ true → (u : ℕ) → AreApart u moves

-- turns of thread t on the words of a state that don't hand it out anew are turns that a schedule gives it, and acts
abbrev pub TurnsAreGiven : {S : Type 0} → Code S → Type 0
TurnsAreGiven {S} code = (b : Bounds) (r : Progress S) (t : ℕ) (th last : ThreadState S) (v : Words) (moves : List TurnMove)
    → r.core.threads t ≡ Some th → Turns code b IsStepOnWords th r.core.words moves last v → AreApart t moves → LeadsTo code b r t moves last v

-- acts that lead from a core to where a run has come, and then turns of one thread, are acts
abbrev pub TurnsGoOn : {S : Type 0} → Code S → Type 0
TurnsGoOn {S} code = (b : Bounds) (core : Core S) (r : Progress S) (t : ℕ) (last : ThreadState S) (v : Words) (moves : List TurnMove)
    → AreActs code b core r → (led : LeadsTo code b r t moves last v) → AreActs code b core led.new
