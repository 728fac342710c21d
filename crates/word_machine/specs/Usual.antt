-- Usual turns of the thread at a place.
use Rattle.std.specs.Prelude.{◌≡◌, ℕ, Option, None, Some}
use Rattle.op_core.specs.ThreadCode.{Code}
use Rattle.plain_words.specs.declared.plain.PlainWords.{PlainWords}
use Rattle.plain_words.specs.Table.{words_in, Stepped}
use Rattle.thread_automaton.specs.declared.Bounds.{Bounds}
use Rattle.thread_automaton.specs.ThreadState.{ThreadState}
use Rattle.thread_moves.specs.declared.thread.JThread.{JThread}
use Rattle.quick_turns.specs.Usual.{UsualTurns}

-- The thread at a place made n usual turns on these words, if one is there; else nothing changes.
abbrev pub UsualAt : {C S : Type 0} → Code S → (JThread C → ThreadState S) → PlainWords → Option (JThread C) → ℕ → PlainWords → Option (JThread C) → Type 0
UsualAt code meant words None n new y = (n ≡ 0) × (new ≡ words) × (y ≡ None)
UsualAt {C} code meant words (Some x) n new y = (z : JThread C) × (y ≡ Some z) × (z.own.bounds ≡ x.own.bounds)
    × UsualTurns code x.own.bounds Stepped words_in (meant x) words x.own.last_kind n (meant z) new z.own.last_kind

-- so does a thread of the definitions, if one is there
abbrev pub MakesUsual : {S : Type 0} → Code S → Bounds → ℕ → PlainWords → Option (ThreadState S) → PlainWords → Option (ThreadState S) → Type 0
MakesUsual code b n words None new next = (n ≡ 0) × (new ≡ words) × (next ≡ None)
MakesUsual {S} code b n words (Some th) new next = (last : ThreadState S) × (next ≡ Some last) × (k l : ℕ) × UsualTurns code b Stepped words_in th words k n last new l
