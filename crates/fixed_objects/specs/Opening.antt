-- The state at the start of a program.
use Rattle.std.specs.Prelude.{◌≡◌, ◌==◌, ◌<◌, ◌⊎◌, ℕ, List, [], if◌then◌else◌}
use Rattle.std.specs.List.{All, list_any}
use Rattle.std.specs.Option.{option_map}
use Rattle.op_core.specs.OrdinaryState.{set_at, free, awake, ClassState, unready, ready, unused, live, OrdinaryState, OnlyObjectsHaveWords}
use Rattle.fixed_objects.specs.declared.FixedObject.{FixedObject}
use Rattle.fixed_objects.specs.declared.Opening.{Opening}
use Rattle.fixed_objects.specs.Fixed.{fixed_at, fixed_header, fixed_word, fixed_start}

-- the object's reference is above 0 and below the first free one
abbrev pub LiesBelow : ℕ → FixedObject → Type 0
LiesBelow first o = (0 < o.reference) × (o.reference < first)

-- the first free reference is above 0 and above those of the fixed objects
pub record LiesBelowFirst (opening : Opening) : Type 0 where
  pub first : 0 < opening.first
  pub objects : All (LiesBelow opening.first) opening.objects

-- a class is ready where it is listed
abbrev pub class_at_start : List ℕ → ℕ → ClassState
class_at_start classes c = if list_any (λ d. c == d) classes then ready else unready

-- The start: the fixed objects with their first words and the threads that they have started, their
-- monitors free; the listed classes ready; thread 1 at its first state; nobody waits, nothing was printed.
abbrev pub opening_state : {S : Type 0} → Opening → S → OrdinaryState S
opening_state opening l = record {
  objects = λ r. option_map fixed_header (fixed_at opening.objects r);
  words = λ r. fixed_word (fixed_at opening.objects r);
  monitors = λ _. free;
  waiting = λ _. awake;
  classes = class_at_start opening.ready;
  starts = λ r. fixed_start (fixed_at opening.objects r);
  threads = set_at (λ _. unused) 1 (live l);
  lines = [];
}

-- main's Thread is a fixed object that has started thread 1, and no other one has started a thread
pub record StartsMain (opening : Opening) : Type 0 where
  pub main : fixed_start (fixed_at opening.objects opening.main_thread) ≡ 1
  pub others : All (λ o. o.reference ≡ opening.main_thread ⊎ (o.started ≡ 0)) opening.objects

-- then each thread that an object has started is there, at its first state
abbrev pub StartedThreadsHaveBegun : Type 0 → Type 0
StartedThreadsHaveBegun S = (opening : Opening) (l : S) (r : ℕ) → StartsMain opening → 0 < (opening_state opening l).starts r
    → (r ≡ opening.main_thread) × ((opening_state opening l).threads ((opening_state opening l).starts r) ≡ live l)

-- at the start, only objects have words
abbrev pub OnlyFixedObjectsHaveWords : Type 0 → Type 0
OnlyFixedObjectsHaveWords S = (opening : Opening) (l : S) → OnlyObjectsHaveWords (opening_state opening l)
