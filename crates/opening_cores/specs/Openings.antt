-- The core in which a run of a program begins.
use Rattle.std.specs.Prelude.{◌≡◌, ◌<◌, ◌^◌, ℕ, Bool, None, Some, List, []}
use Rattle.std.specs.List.{All}
use Rattle.op_core.specs.ThreadCode.{Code}
use Rattle.op_core.specs.OrdinaryState.{set_at}
use Rattle.fixed_objects.specs.declared.Opening.{Opening}
use Rattle.fixed_objects.specs.Opening.{opening_state, StartsMain}
use Rattle.heap_words.specs.declared.areas.Area.{Area}
use Rattle.heap_words.specs.Words.{tag_of}
use Rattle.plain_words.specs.Opening.{HasPlace, opening_words}
use Rattle.thread_automaton.specs.declared.Bounds.{Bounds}
use Rattle.thread_automaton.specs.ThreadState.{first_state}
use Rattle.core_runs.specs.Cores.{Core}
use Rattle.core_runs.specs.Acts.{Act, ActFrom}
use Rattle.core_runs.specs.Reading.{ordinary}
use Rattle.section_laws.specs.Layout.{IsWordPlace}
use Rattle.opening_cores.specs.Laws.{HasRanges, TellsThreads}
use Rattle.opening_cores.specs.KeptCores.{IsBegunRun}

-- The words and the objects of an opening, and main's thread, whose number is 1 and whose priority is 5, at its first local
-- state: no thread is started, no level is open, and nothing is printed.
abbrev pub opening_core : {S : Type 0} → Opening → S → Core S
opening_core opening l = record {
  words = opening_words opening;
  threads = set_at (λ t. None) 1 (Some (first_state 1 5 l));
  starting = λ t. None;
  objects = (opening_state opening l).objects;
  levels = λ t. [];
  lines = [];
}

-- The opening has its places within the bounds, its numbers are in range, its thread objects have start words, and main's
-- Thread alone has started a thread, which is main's.
pub record CanBegin (is_thread : ℕ → Bool) (b : Bounds) (opening : Opening) : Type 0 where
  pub place : HasPlace opening b.limits
  pub first : b.first ≡ opening.first
  pub ranges : All HasRanges opening.objects
  pub threads : All (TellsThreads is_thread) opening.objects
  pub main : StartsMain opening
  -- the numbers of sections have 32 bits
  pub sections : b.limits.sections < 2 ^ 32

-- acts that lead on from there are a run that begins as it has to
abbrev pub OpeningsBeginRuns : {S : Type 0} → Code S → Type 0
OpeningsBeginRuns {S} code = (is_thread : ℕ → Bool) (b : Bounds) (opening : Opening) → CanBegin is_thread b opening
    → (l : S) (c : ℕ → Core S) (acts : List Act) → c 0 ≡ opening_core opening l → ActFrom code b c 0 acts → IsBegunRun code b is_thread l c acts

-- and that core stands for the ordinary state in which the program begins
abbrev pub OpeningsAreOrdinary : {S : Type 0} → Code S → Type 0
OpeningsAreOrdinary {S} code = (is_thread : ℕ → Bool) (b : Bounds) (opening : Opening) → CanBegin is_thread b opening
    → (l : S) → ordinary code is_thread (opening_core opening l) ≡ opening_state opening l

-- and no section has written a word of an object there
abbrev pub OpeningsHaveNoTags : Type 0 → Type 0
OpeningsHaveNoTags S = (is_thread : ℕ → Bool) (b : Bounds) (opening : Opening) → CanBegin is_thread b opening
    → (l : S) (p : ℕ) → IsWordPlace is_thread (opening_core opening l).objects p → tag_of ((opening_core opening l).words (Area.Object p)) ≡ 0
