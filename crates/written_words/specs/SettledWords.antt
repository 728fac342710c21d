-- What the events that are left have made of each word of an object, along a run.
use Rattle.std.specs.Prelude.{◌≡◌, ◌≤◌, ℕ, suc, Bool, true, false, Option, None, Some, List, [], length, slice_get, nat_lt, if◌then◌else◌}
use Rattle.op_core.specs.declared.Op.TheVariants.{Read}
use Rattle.op_core.specs.declared.Next.{Next}
use Rattle.op_core.specs.declared.Next.TheVariants.{Want}
use Rattle.op_core.specs.declared.Reply.TheVariants.{Value}
use Rattle.op_core.specs.ThreadCode.{Code}
use Rattle.op_core.specs.CleanCut.{written_after}
use Rattle.heap_words.specs.Words.{value_of}
use Rattle.write_log.specs.declared.Noted.{Noted}
use Rattle.step_port.specs.declared.answer.StepAnswer.{StepAnswer}
use Rattle.step_port.specs.declared.step.Step.{Step}
use Rattle.thread_automaton.specs.declared.Bounds.{Bounds}
use Rattle.thread_automaton.specs.ThreadState.{ThreadState}
use Rattle.thread_automaton.specs.Told.{Told, advanced, told}
use Rattle.core_runs.specs.Cores.{Core}
use Rattle.core_runs.specs.Acts.{Act, quiet, did, beside}
use Rattle.core_runs.specs.Reading.{ordinary}
use Rattle.section_laws.specs.Settled.{to_undo, words_back, notes, replay}
use Rattle.section_laws.specs.Layout.{IsWordPlace}
use Rattle.first_law.specs.SettledRuns.{IsDoomedTest}
use Rattle.written_words.specs.Noted.{IsTaggedRun, heap_of}

-- What a turn makes of the words of objects as far as others see it: a write that was answered sets its word.
abbrev pub words_by : Told → Next → (ℕ → ℕ → ℕ) → ℕ → ℕ → ℕ
words_by (advanced (Some reply)) (Want op) words = written_after op reply words
words_by told next words = words

-- What an act makes of the settled words: an event that is left does that, and one of a thread with a level open that is to be
-- undone leaves them.
abbrev pub SettlesWordsBy : {S : Type 0} → Code S → Bounds → (ℕ → Bool) → Core S → Act → (ℕ → ℕ → ℕ) → (ℕ → ℕ → ℕ) → Type 0
SettlesWordsBy {S} code b doomed c (did t step answer) old new = (th : ThreadState S) → c.threads t ≡ Some th
    → (r i : ℕ) → new r i ≡ (if nat_lt 0 (to_undo doomed (c.levels t)) then old r i else words_by (told code b th step answer) (code.next th.local) old r i)
SettlesWordsBy code b doomed c (quiet t) old new = (r i : ℕ) → new r i ≡ old r i
SettlesWordsBy code b doomed c (beside t step answer) old new = (r i : ℕ) → new r i ≡ old r i

-- `settled k` are the words as the events that are left of the first k acts have made them; at first they are those of the ordinary
-- state.
pub record AreSettledWords {S : Type 0} (code : Code S) (b : Bounds) (is_thread : ℕ → Bool) (doomed : ℕ → Bool) (c : ℕ → Core S) (acts : List Act) (settled : ℕ → ℕ → ℕ → ℕ) : Type 0 where
  pub begins : (r i : ℕ) → settled 0 r i ≡ (ordinary code is_thread (c 0)).words r i
  pub goes_on : (k : ℕ) (act : Act) → slice_get acts k ≡ Some act → SettlesWordsBy code b doomed (c k) act (settled k) (settled (suc k))

-- the words that a thread is to put back
abbrev pub back_words : {S : Type 0} → (ℕ → Bool) → List ℕ → Option (ThreadState S) → List Noted
back_words doomed levels None = []
back_words doomed levels (Some th) = words_back (to_undo doomed levels) th.marks th.log

-- A word that nobody is to put back has its settled value, and any other will have it once it is put back. Words of no object
-- are 0.
pub record WordsAreSettled {S : Type 0} (is_thread : ℕ → Bool) (doomed : ℕ → Bool) (c : Core S) (settled : ℕ → ℕ → ℕ) : Type 0 where
  pub stands : (p : ℕ) (word : IsWordPlace is_thread c.objects p) → ((t : ℕ) → notes p (back_words doomed (c.levels t) (c.threads t)) ≡ false) → settled word.r word.i ≡ value_of (heap_of c.words p)
  pub put_back : (p t : ℕ) (word : IsWordPlace is_thread c.objects p) → notes p (back_words doomed (c.levels t) (c.threads t)) ≡ true
      → settled word.r word.i ≡ value_of (replay (back_words doomed (c.levels t) (c.threads t)) (heap_of c.words) p)
  pub none : (r i : ℕ) → c.objects r ≡ None → settled r i ≡ 0

-- so it is at each place
abbrev pub WordsSettle : {S : Type 0} → Code S → Type 0
WordsSettle {S} code = (b : Bounds) (is_thread : ℕ → Bool) (first : S) (classes : ℕ) (c : ℕ → Core S) (acts : List Act) → IsTaggedRun code b is_thread first classes c acts
    → (doomed : ℕ → Bool) → IsDoomedTest c acts doomed → (settled : ℕ → ℕ → ℕ → ℕ) → AreSettledWords code b is_thread doomed c acts settled
    → (k : ℕ) → k ≤ length acts → WordsAreSettled is_thread doomed (c k) (settled k)

-- and a read that is answered while its thread has no level open that is to be undone finds the settled value
abbrev pub ReadsAgree : {S : Type 0} → Code S → Type 0
ReadsAgree {S} code = (b : Bounds) (is_thread : ℕ → Bool) (first : S) (classes : ℕ) (c : ℕ → Core S) (acts : List Act) → IsTaggedRun code b is_thread first classes c acts
    → (doomed : ℕ → Bool) → IsDoomedTest c acts doomed → (settled : ℕ → ℕ → ℕ → ℕ) → AreSettledWords code b is_thread doomed c acts settled
    → (k t r i v : ℕ) (step : Step) (answer : StepAnswer) (th : ThreadState S) → slice_get acts k ≡ Some (did t step answer) → (c k).threads t ≡ Some th
    → code.next th.local ≡ Want (Read r i) → told code b th step answer ≡ advanced (Some (Value v)) → to_undo doomed ((c k).levels t) ≡ 0
    → v ≡ settled k r i
