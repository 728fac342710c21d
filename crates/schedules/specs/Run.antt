-- Runs that follow a schedule, over whatever gives the turns.
use Rattle.std.specs.Prelude.{◌≡◌, ℕ, Bool, true, false, Option, None, Some, List, [], ◌∷◌, ◌↔◌, length, slice_get}
use Rattle.std.specs.List.{Contains}
use Rattle.std.specs.List.Sorted.{IsStrictlyIncreasing}
use Rattle.op_core.specs.declared.Limit.{Limit}
use Rattle.op_core.specs.declared.How.{How}
use Rattle.op_core.specs.declared.How.TheVariants.{Done, Died, Stuck}
use Rattle.op_core.specs.declared.How.TheVariants as how
use Rattle.schedules.specs.declared.order.OrderItem.{OrderItem}
use Rattle.schedules.specs.declared.order.TurnEnd.{TurnEnd}
use Rattle.schedules.specs.declared.order.TurnEnd.TheVariants.{Spent}
use Rattle.schedules.specs.Schedule.{thread_of, drawn, place_of, Rest, rest_due, rest_after}

-- What gives turns to threads, with its states R: what each of them shows of the threads, and what a
-- turn makes of it.
pub record TurnSystem (R : Type 0) : Type 1 where
  -- the thread has begun and hasn't ended
  pub live : R → ℕ → Bool
  -- a turn outside the order may be this thread's
  pub enabled : R → ℕ → Type 0
  -- the thread has ended, with the class of the exception that ended it, if there was one
  pub ended : R → ℕ → Option ℕ → Type 0
  -- a turn of the thread comes to this, and leads from the first state to the second
  pub gives : R → ℕ → TurnEnd → R → Type 0
  -- the limit that the turn which led here met although it was made, with its thread, if there is one
  pub stopped : R → Option (ℕ × Limit)

-- the threads for which the fact holds, by rising number
pub record AreThose (fact : ℕ → Type 0) (threads : List ℕ) : Type 0 where
  pub rising : IsStrictlyIncreasing threads
  pub each : (t : ℕ) → Contains threads t ↔ fact t

-- thread t is picked among the enabled ones: the one at the place that the number gives
pub record IsPicked (enabled : ℕ → Type 0) (number : Option ℕ) (t : ℕ) : Type 0 where
  pub threads : List ℕ
  pub those : AreThose enabled threads
  pub at_place : slice_get threads (place_of number (length threads)) ≡ Some t

-- where a run is: the state, and what is left of the schedule
pub record Run (R : Type 0) : Type 0 where
  pub state : R
  pub rest : Rest

-- what is left of the schedule from the item on that gives the next turn
abbrev pub due_of : {R : Type 0} → TurnSystem R → Run R → Rest
due_of system run = rest_due (system.live run.state) run.rest

-- Thread t gets the next turn, given the order from the due item on and the last number drawn: it is the item's
-- thread, whether that is enabled or not; after the order, it is the one that is picked.
abbrev pub GetsTurn : {R : Type 0} → TurnSystem R → R → List OrderItem → Option ℕ → ℕ → Type 0
GetsTurn system r [] number t = IsPicked (system.enabled r) (drawn number) t
GetsTurn system r (item ∷ order) number t = t ≡ thread_of item

-- thread t gets the next turn of the run
abbrev pub IsNext : {R : Type 0} → TurnSystem R → Run R → ℕ → Type 0
IsNext system run t = GetsTurn system run.state (due_of system run).order run.rest.number t

-- No limit was met, and thread t gets the next turn, which comes to this, isn't spent and leads from one
-- run to the other.
pub record IsTurn {R : Type 0} (system : TurnSystem R) (run : Run R) (t : ℕ) (end : TurnEnd) (next : Run R) : Type 0 where
  pub goes_on : system.stopped run.state ≡ None
  pub gets : IsNext system run t
  pub given : system.gives run.state t end next.state
  pub unspent : (limit : Limit) → end ≡ Spent limit → ⊥
  pub leaves : next.rest ≡ rest_after (due_of system run) end

-- turns of these threads, one after another, lead from one run to the other
abbrev pub Follows : {R : Type 0} → TurnSystem R → Run R → List ℕ → Run R → Type 0
Follows system run [] last = last ≡ run
Follows {R} system run (t ∷ ts) last =
    (end : TurnEnd) × (next : Run R) × IsTurn system run t end next × Follows system next ts last

-- no thread is live
abbrev pub AllHaveEnded : {R : Type 0} → TurnSystem R → R → Type 0
AllHaveEnded system r = (t : ℕ) → system.live r t ≡ false

-- the order is through, some thread is live, and none is enabled
pub record IsHeldUp {R : Type 0} (system : TurnSystem R) (run : Run R) : Type 0 where
  pub through : (due_of system run).order ≡ []
  pub some_live : (t : ℕ) × (system.live run.state t ≡ true)
  pub none_enabled : (t : ℕ) → system.enabled run.state t → ⊥

-- Where no limit was met, the run ends here in this way: all threads have ended, normally or one by an
-- exception; or the order is through and no thread is enabled; or the next turn is spent, and leaves the
-- state as it is.
abbrev pub EndsOfItself : {R : Type 0} → TurnSystem R → Run R → How → Type 0
EndsOfItself system run Done = AllHaveEnded system run.state × ((t c : ℕ) → system.ended run.state t (Some c) → ⊥)
EndsOfItself system run Died = AllHaveEnded system run.state × ((t : ℕ) × (c : ℕ) × system.ended run.state t (Some c))
EndsOfItself system run Stuck = IsHeldUp system run
EndsOfItself system run (how.Limit t limit) = IsNext system run t × system.gives run.state t (Spent limit) run.state

-- so it ends, or at the limit that was met, before all else
abbrev pub EndsWith : {R : Type 0} → TurnSystem R → Run R → Option (ℕ × Limit) → How → Type 0
EndsWith system run None end = EndsOfItself system run end
EndsWith system run (Some (t, limit)) end = end ≡ how.Limit t limit

abbrev pub EndsBy : {R : Type 0} → TurnSystem R → Run R → How → Type 0
EndsBy system run end = EndsWith system run (system.stopped run.state) end

-- from the run's beginning these threads' turns lead to its last state, where it ends in this way
abbrev pub Goes : {R : Type 0} → TurnSystem R → Run R → List ℕ → How → Run R → Type 0
Goes system run ts end last = Follows system run ts last × EndsBy system last end
