-- The words and the ordinary state with which a program begins.
use Rattle.std.specs.Prelude.{◌≡◌, ℕ, ◌<◌, ◌^◌, Bool, true, false, Some, slice_get}
use Rattle.std.specs.List.{All}
use Rattle.op_core.specs.declared.Limits.{Limits}
use Rattle.op_core.specs.OrdinaryState.{Object, OrdinaryState}
use Rattle.fixed_objects.specs.declared.FixedObject.{FixedObject}
use Rattle.fixed_objects.specs.declared.Opening.{Opening}
use Rattle.fixed_objects.specs.Opening.{opening_state}
use Rattle.heap_words.specs.declared.areas.Area.{Area}
use Rattle.heap_words.specs.Words.{header_class, header_length}
use Rattle.step_port.specs.Words.{Words}
use Rattle.plain_words.specs.Opening.{HasPlace, opening_words}
use Rattle.ordinary_words.specs.Reading.{word_in, start_in, monitor_in, class_of}

-- the words stand for what threads share in the state
pub record StandFor {S : Type 0} (is_thread : ℕ → Bool) (w : Words) (s : OrdinaryState S) : Type 0 where
  pub headers : (r : ℕ) (o : Object) → s.objects r ≡ Some o
      → (header_class (w (Area.Object r)) ≡ o.class) × (header_length (w (Area.Object r)) ≡ o.length)
  pub words : (r i : ℕ) → word_in is_thread w r i (s.objects r) ≡ s.words r i
  pub starts : (r : ℕ) → start_in is_thread w r (s.objects r) ≡ s.starts r
  pub monitors : (r : ℕ) → monitor_in w r (s.objects r) ≡ s.monitors r
  pub classes : (c : ℕ) → class_of (w (Area.Class c)) ≡ s.classes c

-- its numbers are those of their Rust types
pub record HasRanges (o : FixedObject) : Type 0 where
  pub class : o.class < 2 ^ 32
  pub size : o.length < 2 ^ 32
  pub words : All (λ v. v < 2 ^ 32) o.words
  pub started : o.started < 2 ^ 8

-- a thread object has a word 1, its start word, which is 0; no other object has started a thread
pub record TellsThreads (is_thread : ℕ → Bool) (o : FixedObject) : Type 0 where
  pub thread : is_thread o.class ≡ true → slice_get o.words 1 ≡ Some 0
  pub other : is_thread o.class ≡ false → o.started ≡ 0

abbrev pub OpeningsStandForTheirStates : Type 0 → Type 0
OpeningsStandForTheirStates S = (opening : Opening) (limits : Limits) (is_thread : ℕ → Bool) (l : S)
    → HasPlace opening limits → All HasRanges opening.objects → All (TellsThreads is_thread) opening.objects
    → StandFor is_thread (opening_words opening) (opening_state opening l)
