-- What falls into an instruction is the same for each two assignments to those before it.
use Rattle.std.proofs.Common.{◌≡◌, ◌<◌, ◌≤◌, ℕ, zero, suc, Some, List, [], ◌∷◌, length, refl, sym, subst, inl, inr, ap, ◌∙◌, arith, slice_get, option_and_then}
use Rattle.std.proofs.lemmas.Bool.{cases_lt}
use Rattle.std.proofs.lemmas.Option.{same_Some, none-some, slice_get_within}
use Rattle.instructions.specs.declared.what.Instr.{Instr}
use Rattle.instructions.specs.declared.what.Target.{Target}
use Rattle.type_rules.specs.declared.refusal.VerifyKind.{VerifyKind}
use Rattle.type_rules.specs.Environment.{Environment, TypeFrame}
use Rattle.type_rules.specs.TypeFaults.{frame_here, fault_at}
use Rattle.type_rules.specs.TypeSafe.{falling, fallen, AreTypedBefore, IsTypeSafe, IsFirstTypeFault, FaultsRefute}

pub step_there : (xs : List (Instr Target)) (j : ℕ) → j < length xs → (i : Instr Target) × (slice_get xs j ≡ Some i)
step_there [] j h = absurd (omega arith)
step_there (x ∷ xs) zero h = (x, refl)
step_there (x ∷ xs) (suc j) h = step_there xs j (omega arith)

-- two assignments to the instructions before number n agree there, and what falls into those up to n is the same
pub same_falling : (env : Environment) (p q : ℕ → TypeFrame) (n k : ℕ) → n ≤ length env.steps → AreTypedBefore env p n → AreTypedBefore env q n → k ≤ n → falling env p k ≡ falling env q k
same_falling env p q n zero l tp tq h = refl
same_falling env p q n (suc j) l tp tq h =
    let here = step_there env.steps j (omega arith) in
    let before : falling env p j ≡ falling env q j = same_falling env p q n j l tp tq (omega arith) in
    let same : p j ≡ q j = same_Some (p j) (q j) (sym (tp j here.0 (omega arith) here.1).here ∙ (ap (λ x. frame_here env (env.map_at j) x) before ∙ (tq j here.0 (omega arith) here.1).here)) in
    ap (λ x. option_and_then (fallen env x) (slice_get env.steps j)) same

fewer : (env : Environment) (p : ℕ → TypeFrame) (n m : ℕ) → m ≤ n → AreTypedBefore env p n → AreTypedBefore env p m
fewer env p n m le typed k i lt at = typed k i (omega arith) at

refutes : (env : Environment) (k : ℕ) (kind : VerifyKind) (i : Instr Target) → IsFirstTypeFault env k kind i → (q : ℕ → TypeFrame) (n : ℕ) → n ≤ length env.steps → AreTypedBefore env q n → n ≤ k
refutes env k kind i first q n le typed =
    elim (cases_lt k n) [
      | inr more ↦ more
      | inl less ↦
          let before : AreTypedBefore env q k = fewer env q n k (omega arith) typed in
          let fell : falling env first.frames k ≡ falling env q k = same_falling env first.frames q k k (omega arith) first.before before (omega arith) in
          absurd (none-some kind (sym (typed k i less first.there).none ∙ (ap (λ x. fault_at env k i x) (sym fell) ∙ first.fault)))
    ]

not_safe : (env : Environment) (k : ℕ) (kind : VerifyKind) (i : Instr Target) → IsFirstTypeFault env k kind i → ¬ IsTypeSafe env
not_safe env k kind i first safe =
    let within : k < length env.steps = slice_get_within env.steps k i first.there in
    let le : length env.steps ≤ k = refutes env k kind i first safe.0 (length env.steps) (omega arith) safe.1 in
    omega arith

same_place : (env : Environment) (k l : ℕ) (kind other : VerifyKind) (i j : Instr Target) → IsFirstTypeFault env k kind i → IsFirstTypeFault env l other j → k ≡ l
same_place env k l kind other i j a b =
    let inside_a : k < length env.steps = slice_get_within env.steps k i a.there in
    let inside_b : l < length env.steps = slice_get_within env.steps l j b.there in
    let up : l ≤ k = refutes env k kind i a b.frames l (omega arith) b.before in
    let down : k ≤ l = refutes env l other j b a.frames k (omega arith) a.before in
    omega arith

same_kind_at : (env : Environment) (k : ℕ) (kind other : VerifyKind) (i j : Instr Target) → IsFirstTypeFault env k kind i → IsFirstTypeFault env k other j → kind ≡ other
same_kind_at env k kind other i j a b =
    let inside : k < length env.steps = slice_get_within env.steps k i a.there in
    let same : i ≡ j = same_Some i j (sym a.there ∙ b.there) in
    let fell : falling env a.frames k ≡ falling env b.frames k = same_falling env a.frames b.frames k k (omega arith) a.before b.before (omega arith) in
    same_Some kind other (sym a.fault ∙ (ap (λ x. fault_at env k i x) fell ∙ (ap (λ x. fault_at env k x (falling env b.frames k)) same ∙ b.fault)))

same_kind : (env : Environment) (k l : ℕ) (kind other : VerifyKind) (i j : Instr Target) → IsFirstTypeFault env k kind i → IsFirstTypeFault env l other j → kind ≡ other
same_kind env k l kind other i j a b =
    let P : ℕ → Type 0 = λ n. IsFirstTypeFault env n other j in
    same_kind_at env k kind other i j a (subst P (sym (same_place env k l kind other i j a b)) b)

pub faults_are_first : (env : Environment) → FaultsRefute env
faults_are_first env = record { safe = not_safe env; place = same_place env; kind = same_kind env }
