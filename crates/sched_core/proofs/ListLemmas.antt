-- The threads for which a fact holds, listed one number after another.
use Rattle.std.proofs.Common.{ℕ, ◌+◌, ◌<◌, false, List, [], ◌∷◌, ◌++◌, None}
use Rattle.schedules.specs.Run.{TurnSystem, AreThose}
use Rattle.schedules.specs.Laws.{AreThoseBelow, ThreadsAreListed}
use Rattle.schedules.proofs.ListLemmas.{threads_listed}

-- what gives no turns, and enables the threads of the fact
abbrev enabling : (ℕ → Type 0) → TurnSystem (Unit {0})
enabling fact = record {
  live = λ r t. false;
  enabled = λ r t. fact t;
  ended = λ r t x. ⊥;
  gives = λ r t end new. ⊥;
  stopped = λ r. None;
}

listed : (fact : ℕ → Type 0) → ThreadsAreListed (enabling fact)
listed fact = threads_listed (Unit {0}) (enabling fact)

pub none_listed : (fact : ℕ → Type 0) → AreThoseBelow fact 0 []
none_listed fact = (listed fact).none tt

pub one_more_listed : (fact : ℕ → Type 0) (n : ℕ) (ts : List ℕ) → AreThoseBelow fact n ts → fact n → AreThoseBelow fact (n + 1) (ts ++ n ∷ [])
one_more_listed fact n ts those holds = (listed fact).one_more tt n ts those holds

pub no_more_listed : (fact : ℕ → Type 0) (n : ℕ) (ts : List ℕ) → AreThoseBelow fact n ts → (fact n → ⊥) → AreThoseBelow fact (n + 1) ts
no_more_listed fact n ts those never = (listed fact).no_more tt n ts those never

pub all_listed : (fact : ℕ → Type 0) (n : ℕ) (ts : List ℕ) → AreThoseBelow fact n ts → ((t : ℕ) → fact t → t < n) → AreThose fact ts
all_listed fact n ts those within = (listed fact).all tt n ts those within
