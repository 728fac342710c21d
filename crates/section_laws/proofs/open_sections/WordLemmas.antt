-- What the word of a section says as it changes.
use Rattle.std.proofs.Common.{◌≡◌, ◌⊎◌, inl, inr, ℕ, ◌^◌, ◌<◌, ◌≤◌, Bool, true, false, refl, sym, ◌∙◌, ap, subst, arith}
use Rattle.std.specs.Prelude.{nat_le}
use Rattle.std.proofs.lemmas.Grind.{common_steps}
use Rattle.std.proofs.lemmas.Bool.Decides.{nat_tests}
use Rattle.section_state.specs.SectionWord.{state_of, pinned_of, depth_of, revoke_of}
use Rattle.section_laws.specs.Moves.{Move, stays, opens, pins, revokes, opens_level, closes_to, commits, undoes}
use Rattle.section_laws.proofs.own_sections.WordLemmas.{depth_low, pinned_says, deep_says, opened_says, revoked_says, committed_says, undone_says, goes_on_says, packed}
use Rattle.section_laws.specs.OpenSections.{IsLiveOrRevoking, SaysOfRevoking}

-- ---- tests

other_state : (w n : ℕ) → state_of w ≡ n → (n ≡ 1 → ⊥) → (n ≡ 3 → ⊥) → IsLiveOrRevoking w → ⊥
other_state w n is not_live not_turned open_so = elim open_so [ inl live ↦ not_live (sym is ∙ live) | inr turned ↦ not_turned (sym is ∙ turned) ]

four_one : (n : ℕ) → n ≡ 4 → n ≡ 1 → ⊥
four_one n four one = omega (arith, four, one)

four_three : (n : ℕ) → n ≡ 4 → n ≡ 3 → ⊥
four_three n four three = omega (arith, four, three)

five_one : (n : ℕ) → n ≡ 5 → n ≡ 1 → ⊥
five_one n five one = omega (arith, five, one)

five_three : (n : ℕ) → n ≡ 5 → n ≡ 3 → ⊥
five_three n five three = omega (arith, five, three)

-- an undone section, and a committed one
pub undone_closed : (w : ℕ) → state_of w ≡ 4 → IsLiveOrRevoking w → ⊥
undone_closed w is = other_state w 4 is (four_one 4 refl) (four_three 4 refl)

pub committed_closed : (w : ℕ) → state_of w ≡ 5 → IsLiveOrRevoking w → ⊥
committed_closed w is = other_state w 5 is (five_one 5 refl) (five_three 5 refl)

-- ---- the word of a section

-- it was live or revoking before, or is opened
pub move_back : {old new : ℕ} → Move old new → IsLiveOrRevoking new → IsLiveOrRevoking old ⊎ (old ≡ 0)
move_back (stays is) now = inl (subst IsLiveOrRevoking is now)
move_back (opens number priority number_low priority_low none is) now = inr none
move_back (pins n live deeper low is) now = inl (inl live)
move_back (revokes n live deeper there is) now = inl (inl live)
move_back (opens_level live room is) now = inl (inl live)
move_back (closes_to n live some low is) now = inl (inl live)
move_back (commits live is) now = inl (inl live)
move_back (undoes turned some is) now = inl (inr turned)

-- what says so of revoking goes on saying so
module _ (old new : ℕ) (says : SaysOfRevoking old) where
  live_none : state_of old ≡ 1 → revoke_of old ≡ 0
  live_none live = says.unrevoked (λ turned. no (state_of old) live turned)
    where
      no : (n : ℕ) → n ≡ 1 → n ≡ 3 → ⊥
      no n one three = omega (arith, one, three)

  -- a word that isn't revoking now
  not_turned : (n : ℕ) → state_of new ≡ n → (n ≡ 3 → ⊥) → revoke_of new ≡ 0 → SaysOfRevoking new
  not_turned n is other none = record { revoked = λ turned. absurd (other (sym is ∙ turned)); unrevoked = λ differs. none }

  one_three : (n : ℕ) → n ≡ 1 → n ≡ 3 → ⊥
  one_three n one three = omega (arith, one, three)

  within : (m n : ℕ) → m ≤ n → n < 2 ^ 8 → m < 2 ^ 8
  within m n low below = omega (arith, low, below)

  pub move_says : Move old new → SaysOfRevoking new
  move_says (stays is) = subst SaysOfRevoking (sym is) says
  move_says (opens number priority number_low priority_low none is) =
      let p = packed 1 number priority 0 1 0 (omega arith) number_low priority_low (omega arith) (omega arith) (omega arith) in
      not_turned 1 (ap state_of is ∙ p.0) (one_three 1 refl) (ap revoke_of is ∙ p.5)
  move_says (pins n live deeper low is) =
      let now = pinned_says old n low in not_turned 1 (ap state_of is ∙ now.1.0 ∙ live) (one_three 1 refl) (ap revoke_of is ∙ now.1.5 ∙ live_none live)
  move_says (revokes n live deeper there is) =
      let now = revoked_says old n (within n (depth_of old) there (depth_low old)) in record {
        revoked = λ turned. (
          lower (pinned_of old) n (pinned_of new) (revoke_of new) deeper (ap pinned_of is ∙ now.1.3) (ap revoke_of is ∙ now.1.5),
          upper n (depth_of old) (revoke_of new) (depth_of new) there (ap revoke_of is ∙ now.1.5) (ap depth_of is ∙ now.1.4),
        );
        unrevoked = λ differs. absurd (differs (ap state_of is ∙ now.1.0));
      }
    where
      lower : (p n q r : ℕ) → p < n → q ≡ p → r ≡ n → q < r
      lower p n q r deep is also = omega (arith, deep, is, also)

      upper : (n d r e : ℕ) → n ≤ d → r ≡ n → e ≡ d → r ≤ e
      upper n d r e low is also = omega (arith, low, is, also)
  move_says (opens_level live room is) =
      let now = opened_says old room in not_turned 1 (ap state_of is ∙ now.1.0 ∙ live) (one_three 1 refl) (ap revoke_of is ∙ now.1.5 ∙ live_none live)
  move_says (closes_to n live some low is) =
      let now = deep_says old n low in not_turned 1 (ap state_of is ∙ now.1.0 ∙ live) (one_three 1 refl) (ap revoke_of is ∙ now.1.5 ∙ live_none live)
  move_says (commits live is) = let now = committed_says old in not_turned 5 (ap state_of is ∙ now.1.0) (five_three 5 refl) (ap revoke_of is ∙ now.1.5 ∙ live_none live)
  move_says (undoes turned some is) = by_test (nat_le (revoke_of old) 1) refl
    where
      low : (n : ℕ) → nat_le n 1 ≡ true → n ≤ 1
      low n is = grind (arith, common_steps, nat_tests)

      high : (n : ℕ) → nat_le n 1 ≡ false → 1 < n
      high n is = grind (arith, common_steps, nat_tests)

      by_test : (t : Bool) → nat_le (revoke_of old) 1 ≡ t → SaysOfRevoking new
      by_test true below = let now = undone_says old (low (revoke_of old) below) in not_turned 4 (ap state_of is ∙ now.1.0) (four_three 4 refl) (ap revoke_of is ∙ now.1.5)
      by_test false above = let now = goes_on_says old (high (revoke_of old) above) in not_turned 1 (ap state_of is ∙ now.1.0) (one_three 1 refl) (ap revoke_of is ∙ now.1.5)
