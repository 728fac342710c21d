-- Rules in order, and the refusals of the first one that is broken.
use Rattle.std.specs.Prelude.{◌≡◌, ℕ, ◌<◌, ◌⊎◌, List, Option, Some, None, slice_get}

-- Rules that are in an order: that all of them hold, and that a refusal is that of the first one that doesn't.
pub record Rules (E : Type 0) : Type 1 where
  pub Hold : Type 0
  pub Refuse : E → Type 0

module _ {E : Type 0} where
  -- one rule, and its refusal
  abbrev pub must : Type 0 → E → Rules E
  must Rule refusal = record { Hold = Rule; Refuse = λ e. (¬ Rule) × (e ≡ refusal) }

  -- the first ones, and then the second ones
  infixr 5 ◌then◌
  abbrev pub ◌then◌ : Rules E → Rules E → Rules E
  a then b = record { Hold = a.Hold × b.Hold; Refuse = λ e. a.Refuse e ⊎ (a.Hold × b.Refuse e) }

  -- rules for one case alone
  abbrev pub when : Type 0 → Rules E → Rules E
  when Case rules = record { Hold = Case → rules.Hold; Refuse = λ e. Case × rules.Refuse e }

  -- something is there, and rules for it
  abbrev pub given : {X : Type 0} → Option X → E → (X → Rules E) → Rules E
  given None refusal rules = record { Hold = ⊥; Refuse = λ e. e ≡ refusal }
  given (Some x) refusal rules = rules x

  -- the rules of each item hold, up to an index
  abbrev pub HoldBelow : {X : Type 0} → (ℕ → X → Rules E) → List X → ℕ → Type 0
  HoldBelow {X} rules xs end = (i : ℕ) (x : X) → i < end → slice_get xs i ≡ Some x → (rules i x).Hold

  -- the rules of each item, one item after another
  abbrev pub each : {X : Type 0} → (ℕ → X → Rules E) → List X → Rules E
  each {X} rules xs = record {
    Hold = (i : ℕ) (x : X) → slice_get xs i ≡ Some x → (rules i x).Hold;
    Refuse = λ e. (i : ℕ) × (x : X) × (slice_get xs i ≡ Some x) × HoldBelow rules xs i × (rules i x).Refuse e;
  }
