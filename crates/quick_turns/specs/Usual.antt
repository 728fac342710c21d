-- Turns of one thread that are usual: each is that of a thread that can go on, and lets no other thread go on that waits.
use Rattle.std.specs.Prelude.{◌≡◌, ℕ, Bool, true, false, not, ◌||◌, ◌&&◌, Some, List, [], ◌∷◌, length, nat_eq}
use Rattle.op_core.specs.ThreadCode.{Code, quiet_step}
use Rattle.heap_words.specs.declared.areas.Area.TheVariants.{Section}
use Rattle.heap_words.specs.Words.{tag_of, tag_section}
use Rattle.section_state.specs.declared.State.TheVariants.{Revoking}
use Rattle.monitor_core.specs.Contention.{is_in}
use Rattle.step_port.specs.declared.answer.StepAnswer.{StepAnswer}
use Rattle.step_port.specs.declared.step.Step.{Step}
use Rattle.step_port.specs.declared.step.Step.TheVariants.{LoadWord, SwapWord, LoadSection, LoadClass}
use Rattle.step_port.specs.Words.{Words, words_after}
use Rattle.thread_automaton.specs.declared.Bounds.{Bounds}
use Rattle.thread_automaton.specs.ThreadState.{ThreadState}
use Rattle.thread_automaton.specs.Told.{Told, probed, advanced, after_answer, after_quiet}
use Rattle.word_runs.specs.Enabled.{is_enabled}
use Rattle.turn_runs.specs.Turns.{TurnMove, silent, made, last_kind, Turns}

-- the turn ends no attempt without its reply, and hands no thread out
abbrev pub goes_through : Told → Bool
goes_through probed = true
goes_through (advanced reply) = true
goes_through other = false

-- no thread waits for this word of an object: it was written in no section, or in one that isn't being undone
abbrev pub is_awaited_by_none : Words → ℕ → Bool
is_awaited_by_none w word = nat_eq (tag_of word) 0 || not (is_in Revoking (w (Section (tag_section (tag_of word)))))

-- made on the words w, the step is a load of a word of an object, of a section or of a class, or the exchange of a word for which
-- no thread waits
abbrev pub is_usual_step : Words → Step → Bool
is_usual_step w (LoadWord at) = true
is_usual_step w (LoadSection s) = true
is_usual_step w (LoadClass c) = true
is_usual_step w (SwapWord at old new) = is_awaited_by_none w old
is_usual_step w step = false

-- Turns of the thread th that make these moves, the first of them on the words w, are usual: at each of them the thread is
-- enabled.
abbrev pub AreUsual : {S : Type 0} → Code S → Bounds → Words → ThreadState S → List TurnMove → Type 0
AreUsual code b w th [] = Unit {0}
AreUsual {S} code b w th (silent ∷ moves) =
    (is_enabled code w th ≡ true) × ((l : S) → quiet_step code th.local ≡ Some l → AreUsual code b w (after_quiet th l) moves)
AreUsual code b w th (made next step answer tells ∷ moves) =
    (is_enabled code w th ≡ true) × ((is_usual_step w step && goes_through tells) ≡ true)
    × AreUsual code b (words_after step w) (after_answer code b th step answer) moves

-- A number n of usual turns leads from the thread th and the port x to the thread last and the port y. The port makes its steps on
-- these words. The kind of the last step before the turns is k, and l after them.
pub record UsualTurns {S P : Type 0} (code : Code S) (b : Bounds) (stepped : P → Step → StepAnswer → P → Type 0) (words : P → Words)
    (th : ThreadState S) (x : P) (k n : ℕ) (last : ThreadState S) (y : P) (l : ℕ) : Type 0 where
  pub moves : List TurnMove
  pub turns : Turns code b stepped th x moves last y
  pub count : n ≡ length moves
  pub usual : AreUsual code b (words x) th moves
  pub kind : l ≡ last_kind k moves
