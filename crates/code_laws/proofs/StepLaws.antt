-- Instructions that are laid out: where they are, what they name, and where they lead.
use Rattle.std.proofs.Common.{◌≡◌, ◌+◌, ◌<◌, ◌≤◌, ℕ, zero, suc, true, false, List, [], ◌∷◌, length, refl, sym, ap, subst, ◌∙◌, arith, add-one, inl, inr, nat_eq, eq-eqb}
use Rattle.std.specs.Prelude.{Some, slice_get, map}
use Rattle.std.specs.List.{AllByRecursion, position_from}
use Rattle.std.proofs.lemmas.Bool.{cases_Bool, eqb-true, ne_eqb}
use Rattle.std.proofs.lemmas.Option.{same_Some}
use Rattle.class_walk.specs.declared.class.Constant.{Constant}
use Rattle.instructions.specs.declared.what.Instr.{Instr}
use Rattle.instructions.specs.declared.what.Target.{Target}
use Rattle.instructions.specs.Steps.{offsets_of, number_at}
use Rattle.instructions.specs.What.{targets_of}
use Rattle.code_steps.specs.CodeArray.{IsInstruction, AreLaidOut, by_offsets, IsAmong, IsCodeArray}
use Rattle.code_laws.specs.Steps.{LeadsInside, StandsInside}
use Rattle.code_laws.proofs.OperandLaws.{HasOperand, operands_have, without_targets}

-- ---- operands

pub laid_have : (pool : List Constant) (code : List ℕ) (from : ℕ) (steps : List (Instr Target)) (to : ℕ) → AreLaidOut pool code from (map by_offsets steps) to
    → (k : ℕ) (i : Instr Target) → slice_get steps k ≡ Some i → HasOperand pool i.what
laid_have pool code from [] to laid k i there = absurd cc
laid_have pool code from (s ∷ steps) to laid zero i there =
    let is : IsInstruction pool code (by_offsets s) = laid.1 in
    subst (λ (j : Instr Target). HasOperand pool j.what) (same_Some s i there)
    (without_targets pool _ s.what (operands_have pool s.at is.row.form (by_offsets s).what is.operands is.right))
laid_have pool code from (s ∷ steps) to laid (suc k) i there = laid_have pool code s.next steps to laid.2 k i there

-- ---- numbers of offsets

-- the number of an offset is the place at which it is
numbered_at : (steps : List (Instr Target)) (at first n : ℕ) → position_from (λ o. nat_eq o at) first (offsets_of steps) ≡ Some n
    → (k : ℕ) × (i : Instr Target) × (n ≡ first + k) × (slice_get steps k ≡ Some i) × (i.at ≡ at)
numbered_at [] at first n e = absurd cc
numbered_at (s ∷ steps) at first n e =
    elim (cases_Bool (nat_eq s.at at)) [
      | inl here ↦
          let is : Some first ≡ Some n = rw here at e in
          (0, s, omega (arith, same_Some first n is), refl, eqb-true s.at at here)
      | inr other ↦
          let later : position_from (λ o. nat_eq o at) (first + 1) (offsets_of steps) ≡ Some n = rw other at e in
          let r = numbered_at steps at (first + 1) n later in
          (suc r.0, r.1, omega (arith, r.2), r.3, r.4)
    ]

pub number_stands : (steps : List (Instr Target)) (at n : ℕ) → number_at steps at ≡ Some n → (i : Instr Target) × (slice_get steps n ≡ Some i) × (i.at ≡ at)
number_stands steps at n e =
    let r = numbered_at steps at 0 n e in
    let same : r.0 ≡ n = omega (arith, r.2) in
    (r.1, subst (λ (k : ℕ). slice_get steps k ≡ Some r.1) same r.3, r.4)

-- ---- places

laid_up : (pool : List Constant) (code : List ℕ) (from : ℕ) (steps : List (Instr Target)) (to : ℕ) → AreLaidOut pool code from (map by_offsets steps) to → from ≤ to
laid_up pool code from [] to laid = omega (arith, laid)
laid_up pool code from (s ∷ steps) to laid =
    let is : IsInstruction pool code (by_offsets s) = laid.1 in
    omega (arith, laid.0, is.ends, laid_up pool code s.next steps to laid.2)

-- an instruction is between two places
record Between (from to : ℕ) (i : Instr Target) : Type 0 where
  begins : from ≤ i.at
  ordered : i.at < i.next
  ends : i.next ≤ to

between : (pool : List Constant) (code : List ℕ) (from : ℕ) (steps : List (Instr Target)) (to : ℕ) → AreLaidOut pool code from (map by_offsets steps) to
    → (k : ℕ) (i : Instr Target) → slice_get steps k ≡ Some i → Between from to i
between pool code from [] to laid k i there = absurd cc
between pool code from (s ∷ steps) to laid zero i there =
    let is : IsInstruction pool code (by_offsets s) = laid.1 in
    subst (λ (j : Instr Target). Between from to j) (same_Some s i there)
    (record { begins = omega (arith, laid.0); ordered = omega (arith, is.ends); ends = laid_up pool code s.next steps to laid.2 })
between pool code from (s ∷ steps) to laid (suc k) i there =
    let is : IsInstruction pool code (by_offsets s) = laid.1 in
    let later = between pool code s.next steps to laid.2 k i there in
    record { begins = omega (arith, laid.0, is.ends, later.begins); ordered = later.ordered; ends = later.ends }

pub rises : (pool : List Constant) (code : List ℕ) (from : ℕ) (steps : List (Instr Target)) (to : ℕ) → AreLaidOut pool code from (map by_offsets steps) to
    → (j k : ℕ) (i l : Instr Target) → slice_get steps j ≡ Some i → slice_get steps k ≡ Some l → j < k → i.at < l.at
rises pool code from [] to laid j k i l there here before = absurd cc
rises pool code from (s ∷ steps) to laid j zero i l there here before = absurd (omega arith)
rises pool code from (s ∷ steps) to laid zero (suc k) i l there here before =
    let is : IsInstruction pool code (by_offsets s) = laid.1 in
    let later = between pool code s.next steps to laid.2 k l here in
    let same : s.at ≡ i.at = ap (λ (x : Instr Target). x.at) (same_Some s i there) in
    omega (arith, same, is.ends, later.begins)
rises pool code from (s ∷ steps) to laid (suc j) (suc k) i l there here before = rises pool code s.next steps to laid.2 j k i l there here (omega arith)

numbered : (pool : List Constant) (code : List ℕ) (from : ℕ) (steps : List (Instr Target)) (to : ℕ) → AreLaidOut pool code from (map by_offsets steps) to
    → (k : ℕ) (i : Instr Target) (first : ℕ) → slice_get steps k ≡ Some i → position_from (λ o. nat_eq o i.at) first (offsets_of steps) ≡ Some (first + k)
numbered pool code from [] to laid k i first there = absurd cc
numbered pool code from (s ∷ steps) to laid zero i first there =
    let here : nat_eq s.at i.at ≡ true = eq-eqb s.at i.at (ap (λ (x : Instr Target). x.at) (same_Some s i there)) in
    rw here (ap Some (omega arith))
numbered pool code from (s ∷ steps) to laid (suc k) i first there =
    let before = rises pool code from (s ∷ steps) to laid 0 (suc k) s i refl there (omega arith) in
    let other : nat_eq s.at i.at ≡ false = ne_eqb s.at i.at (λ e. absurd (omega (arith, e, before))) in
    rw other (numbered pool code s.next steps to laid.2 k i (first + 1) there ∙ ap Some (omega arith))

next_one : (pool : List Constant) (code : List ℕ) (from : ℕ) (steps : List (Instr Target)) (to : ℕ) → AreLaidOut pool code from (map by_offsets steps) to
    → (k : ℕ) (i j : Instr Target) → slice_get steps k ≡ Some i → slice_get steps (suc k) ≡ Some j → j.at ≡ i.next
next_one pool code from [] to laid k i j there behind = absurd cc
next_one pool code from (s ∷ []) to laid zero i j there behind = absurd cc
next_one pool code from (s ∷ t ∷ steps) to laid zero i j there behind =
    let first : s.next ≡ i.next = ap (λ (x : Instr Target). x.next) (same_Some s i there) in
    let second : t.at ≡ j.at = ap (λ (x : Instr Target). x.at) (same_Some t j behind) in
    sym second ∙ (laid.2.0 ∙ first)
next_one pool code from (s ∷ steps) to laid (suc k) i j there behind = next_one pool code s.next steps to laid.2 k i j there behind

last_one : (pool : List Constant) (code : List ℕ) (from : ℕ) (steps : List (Instr Target)) (to : ℕ) → AreLaidOut pool code from (map by_offsets steps) to
    → (k : ℕ) (i : Instr Target) → slice_get steps k ≡ Some i → suc k ≡ length steps → i.next ≡ to
last_one pool code from [] to laid k i there last = absurd cc
last_one pool code from (s ∷ []) to laid zero i there last = ap (λ (x : Instr Target). x.next) (sym (same_Some s i there)) ∙ laid.2
last_one pool code from (s ∷ t ∷ steps) to laid zero i there last = absurd (omega arith)
last_one pool code from (s ∷ steps) to laid (suc k) i there last = last_one pool code s.next steps to laid.2 k i there (omega arith)

pub stands : (pool : List Constant) (code : List ℕ) (steps : List (Instr Target)) → IsCodeArray pool code steps → (k : ℕ) (i : Instr Target) → slice_get steps k ≡ Some i → StandsInside (length code) steps k i
stands pool code steps is k i there =
    let place = between pool code 0 steps (length code) is.laid k i there in
    record {
      numbered = numbered pool code 0 steps (length code) is.laid k i 0 there ∙ ap Some (omega arith);
      ordered = place.ordered;
      inside = place.ends;
      next = λ j behind. next_one pool code 0 steps (length code) is.laid k i j there (rw add-one at behind);
      last = λ last. last_one pool code 0 steps (length code) is.laid k i there (omega (arith, last));
    }

-- ---- the first, and how many

first_of_all : (pool : List Constant) (code : List ℕ) (steps : List (Instr Target)) (to : ℕ) → AreLaidOut pool code 0 (map by_offsets steps) to → 0 < to → (i : Instr Target) × (slice_get steps 0 ≡ Some i) × (i.at ≡ 0)
first_of_all pool code [] to laid some = absurd (omega (arith, laid))
first_of_all pool code (s ∷ steps) to laid some = (s, refl, laid.0)

pub begins : (pool : List Constant) (code : List ℕ) (steps : List (Instr Target)) → IsCodeArray pool code steps → (i : Instr Target) × (slice_get steps 0 ≡ Some i) × (i.at ≡ 0)
begins pool code steps is = first_of_all pool code steps (length code) is.laid is.some

-- each instruction has a byte of its own
laid_count : (pool : List Constant) (code : List ℕ) (from : ℕ) (steps : List (Instr Target)) (to : ℕ) → AreLaidOut pool code from (map by_offsets steps) to → from + length steps ≤ to
laid_count pool code from [] to laid = omega (arith, laid)
laid_count pool code from (s ∷ steps) to laid =
    let is : IsInstruction pool code (by_offsets s) = laid.1 in
    omega (arith, laid.0, is.ends, laid_count pool code s.next steps to laid.2)

pub few : (pool : List Constant) (code : List ℕ) (steps : List (Instr Target)) → IsCodeArray pool code steps → length steps ≤ 65535
few pool code steps is = omega (arith, is.most, laid_count pool code 0 steps (length code) is.laid)

-- ---- targets

pub all_get : {X : Type 0} (P : X → Type 0) (xs : List X) (k : ℕ) (x : X) → AllByRecursion P xs → slice_get xs k ≡ Some x → P x
all_get P [] k x all there = absurd cc
all_get P (y ∷ xs) zero x all there = subst P (same_Some y x there) all.0
all_get P (y ∷ xs) (suc k) x all there = all_get P xs k x all.1 there

pub all_weaker : {X : Type 0} (P Q : X → Type 0) (xs : List X) → ((x : X) → P x → Q x) → AllByRecursion P xs → AllByRecursion Q xs
all_weaker P Q [] to all = tt
all_weaker P Q (x ∷ xs) to all = (to x all.0, all_weaker P Q xs to all.1)

pub leads : (pool : List Constant) (code : List ℕ) (steps : List (Instr Target)) → IsCodeArray pool code steps → (k : ℕ) (i : Instr Target) → slice_get steps k ≡ Some i → AllByRecursion (LeadsInside steps) (targets_of i.what)
leads pool code steps is k i there =
    all_weaker (IsAmong steps) (LeadsInside steps) (targets_of i.what) (λ t among. number_stands steps t.at t.step among)
    (all_get (λ (s : Instr Target). AllByRecursion (IsAmong steps) (targets_of s.what)) steps k i is.targets there)

pub operands : (pool : List Constant) (code : List ℕ) (steps : List (Instr Target)) → IsCodeArray pool code steps → (k : ℕ) (i : Instr Target) → slice_get steps k ≡ Some i → HasOperand pool i.what
operands pool code steps is k i there = laid_have pool code 0 steps (length code) is.laid k i there
