-- What is proved of all runs that follow a schedule.
use Rattle.std.specs.Prelude.{◌≡◌, ℕ, ◌+◌, ◌<◌, true, List, [], ◌∷◌, ◌++◌}
use Rattle.op_core.specs.declared.How.{How}
use Rattle.schedules.specs.declared.order.TurnEnd.{TurnEnd}
use Rattle.schedules.specs.Run.{TurnSystem, AreThose, Run, Follows, Goes}

-- a turn comes to one thing and leads to one state, and only live threads are enabled
pub record IsDeterminate {R : Type 0} (system : TurnSystem R) : Type 0 where
  pub one_turn : (r new last : R) (t : ℕ) (a b : TurnEnd) → system.gives r t a new → system.gives r t b last → (b ≡ a) × (last ≡ new)
  pub enabled_live : (r : R) (t : ℕ) → system.enabled r t → system.live r t ≡ true

-- Then a schedule has one run from each beginning: the same threads get the turns, and it ends in one
-- state and in one way.
abbrev pub RunsHaveOneEnd : {R : Type 0} → TurnSystem R → Type 0
RunsHaveOneEnd {R} system = (run last other : Run R) (ts us : List ℕ) (end why : How) → IsDeterminate system
    → Goes system run ts end last → Goes system run us why other → (us ≡ ts) × (why ≡ end) × (other ≡ last)

-- turns go on after other turns
abbrev pub RunsGoOn : {R : Type 0} → TurnSystem R → Type 0
RunsGoOn {R} system = (run next last : Run R) (ts us : List ℕ)
    → Follows system run ts next → Follows system next us last → Follows system run (ts ++ us) last

-- the threads below a number for which the fact holds, by rising number
abbrev pub AreThoseBelow : (ℕ → Type 0) → ℕ → List ℕ → Type 0
AreThoseBelow fact n threads = AreThose (λ t. fact t × (t < n)) threads

-- the enabled threads are listed one number after another
pub record ThreadsAreListed {R : Type 0} (system : TurnSystem R) : Type 0 where
  pub none : (r : R) → AreThoseBelow (system.enabled r) 0 []
  pub one_more : (r : R) (n : ℕ) (ts : List ℕ) → AreThoseBelow (system.enabled r) n ts → system.enabled r n
      → AreThoseBelow (system.enabled r) (n + 1) (ts ++ n ∷ [])
  pub no_more : (r : R) (n : ℕ) (ts : List ℕ) → AreThoseBelow (system.enabled r) n ts → (system.enabled r n → ⊥)
      → AreThoseBelow (system.enabled r) (n + 1) ts
  pub all : (r : R) (n : ℕ) (ts : List ℕ) → AreThoseBelow (system.enabled r) n ts → ((t : ℕ) → system.enabled r t → t < n)
      → AreThose (system.enabled r) ts
