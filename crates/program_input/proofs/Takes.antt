-- The calls of a source that is read piece by piece.
use Rattle.std.proofs.Common.{◌≡◌, ℕ, ◌-◌, ◌+◌, ◌<◌, min, List, [], ◌∷◌, ◌++◌, Option, refl, sym, subst, arith, true, false, ◌==◌}
use Rattle.jr_ports.specs.Stream.{Gains, Taken}
use Rattle.program_input.specs.Input.{AreTakes, TakesUpTo}
use Rattle.jr_ports.proofs.Gained.{Gains-then}
use Rattle.jr_ports.proofs.Gained.{Gains-none}

-- calls each of which brought something, after which `missing` bytes are still missing
abbrev pub Goes : ℕ → ℕ → List Taken → Type 0
Goes most missing [] = most ≡ missing
Goes most missing (t ∷ takes) = (0 < most) × (t.asked ≡ min most 65536) × (t.came ≡ 0 → ⊥) × Goes (most - t.came) missing takes

goes_end : (most missing : ℕ) (takes : List Taken) → Goes most missing takes → AreTakes most takes
goes_end most missing [] goes = tt
goes_end most missing (t ∷ takes) goes = (goes.0, goes.1, (λ none. absurd (goes.2 none)), goes_end (most - t.came) missing takes goes.3)

-- one call more, which may be the last
goes_last : (most missing : ℕ) (takes : List Taken) (t : Taken) → Goes most missing takes → 0 < missing → t.asked ≡ min missing 65536 → AreTakes most (takes ++ t ∷ [])
goes_last most missing [] t goes some asked =
    let none : List Taken = [] in
    let P : ℕ → Type 0 = λ m. (0 < m) × (t.asked ≡ min m 65536) × (t.came ≡ 0 → none ≡ none) × AreTakes (m - t.came) none in
    subst P (sym goes) (some, asked, (λ _. refl), tt)
goes_last most missing (u ∷ takes) t goes some asked = (goes.0, goes.1, (λ none. absurd (goes.2 none)), goes_last (most - u.came) missing takes t goes.3 some asked)

goes_on : (most missing : ℕ) (takes : List Taken) (t : Taken) → Goes most missing takes → 0 < missing → t.asked ≡ min missing 65536 → (t.came ≡ 0 → ⊥) → Goes most (missing - t.came) (takes ++ t ∷ [])
goes_on most missing [] t goes some asked came =
    let P : ℕ → Type 0 = λ m. (0 < m) × (t.asked ≡ min m 65536) × (t.came ≡ 0 → ⊥) × (m - t.came ≡ missing - t.came) in
    subst P (sym goes) (some, asked, came, refl)
goes_on most missing (u ∷ takes) t goes some asked came = (goes.0, goes.1, goes.2, goes_on (most - u.came) missing takes t goes.3 some asked came)

-- the calls that were made so far, of a source that says which were made
abbrev pub CalledSoFar : Option (List Taken) → Option (List Taken) → ℕ → ℕ → Type 0
CalledSoFar before now most missing = (takes : List Taken) × Goes most missing takes × Gains before now takes

pub none_called : (told : Option (List Taken)) (most : ℕ) → CalledSoFar told told most most
none_called told most = ([], refl, Gains-none told)

pub called : (before now after : Option (List Taken)) (most missing : ℕ) → CalledSoFar before now most missing → after ≡ now → TakesUpTo most before after
called before now after most missing so_far same =
    let P : Option (List Taken) → Type 0 = λ told. Gains before told so_far.0 in
    (so_far.0, goes_end most missing so_far.0 so_far.1, subst P (sym same) so_far.2)

pub called_last : (before now after : Option (List Taken)) (most missing asked came : ℕ) → CalledSoFar before now most missing → 0 < missing → asked ≡ min missing 65536
    → Gains now after (record { asked = asked; came = came } ∷ []) → TakesUpTo most before after
called_last before now after most missing asked came so_far some is gains =
    (so_far.0 ++ record { asked = asked; came = came } ∷ [], goes_last most missing so_far.0 (record { asked = asked; came = came }) so_far.1 some is, Gains-then before now after so_far.0 (record { asked = asked; came = came } ∷ []) so_far.2 gains)

pub called_more : (before now after : Option (List Taken)) (most missing asked came : ℕ) → CalledSoFar before now most missing → 0 < missing → asked ≡ min missing 65536 → (came ≡ 0 → ⊥)
    → Gains now after (record { asked = asked; came = came } ∷ []) → CalledSoFar before after most (missing - came)
called_more before now after most missing asked came so_far some is came_some gains =
    (so_far.0 ++ record { asked = asked; came = came } ∷ [], goes_on most missing so_far.0 (record { asked = asked; came = came }) so_far.1 some is came_some, Gains-then before now after so_far.0 (record { asked = asked; came = came } ∷ []) so_far.2 gains)

pub some_came : (n : ℕ) → false ≡ (n == 0) → n ≡ 0 → ⊥
some_came n some none =
    let P : ℕ → Type 0 = λ m. false ≡ (m == 0) in
    let e : false ≡ true = subst P none some in cc

-- what is missing after a piece
pub missing_after : (before after : Option (List Taken)) (most len piece new : ℕ) → new ≡ len + piece → CalledSoFar before after most ((most - len) - piece) → CalledSoFar before after most (most - new)
missing_after before after most len piece new grown so_far =
    let P : ℕ → Type 0 = λ n. CalledSoFar before after most n in
    let same : (most - len) - piece ≡ most - new = omega arith in
    subst P same so_far

pub called_nothing : (before after : Option (List Taken)) (most : ℕ) → after ≡ before → TakesUpTo most before after
called_nothing before after most same =
    let P : Option (List Taken) → Type 0 = λ told. Gains before told [] in
    ([], tt, subst P (sym same) (Gains-none before))
