-- Programs whose threads can go on after each run on a shared table.
use Rattle.std.specs.Prelude.{◌<◌, ◌≤◌, ◌+◌, ◌^◌, ℕ, Bool}
use Rattle.op_core.specs.ThreadCode.{Code}
use Rattle.op_core.specs.OrdinaryState.{Object}
use Rattle.op_core.specs.InPlaceList.{IsGrounded}
use Rattle.op_core.specs.Orderly.{IsOrderly, StartWordsAreKept}
use Rattle.fixed_objects.specs.Opening.{opening_state}
use Rattle.kept_states.specs.Kept.{Objects, IsKeptState}
use Rattle.opening_cores.specs.KeptCores.{KeepsFitting}
use Rattle.opening_cores.specs.Openings.{CanBegin}
use Rattle.table_words.specs.declared.setup.Setup.{Setup}
use Rattle.table_words.specs.Setups.{setup_bounds}

-- The program begins as it has to, within its limits; its code goes in order, names nothing out of nothing and leaves start words
-- alone; and its steps keep some properties of local states (P), of words (W) and of objects (O) that are so as it begins.
pub record CanRun {C S : Type 0} (state : C → S) (code : Code S) (k : Setup C) (is_thread : ℕ → Bool) (classes : ℕ) (P : Objects → S → Type 0)
    (W : Objects → ℕ → ℕ → ℕ → Type 0) (O : ℕ → Object → Type 0) : Type 0 where
  pub begins : CanBegin is_thread (setup_bounds k) k.opening
  pub orderly : IsOrderly code (state k.code) classes
  pub grounded : IsGrounded code (opening_state k.opening (state k.code))
  pub starts : StartWordsAreKept code is_thread (opening_state k.opening (state k.code))
  pub fitting : KeepsFitting code is_thread P W O
  pub kept : IsKeptState P W O (opening_state k.opening (state k.code))
  -- the classes that the code initializes are classes of the program
  pub inits : classes ≤ k.opening.classes + 1
  pub turns : k.limits.turns < 2 ^ 56
  pub sections : k.limits.sections < 2 ^ 24
