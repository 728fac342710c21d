-- Which threads were handed out, and that each of them has a part.
use Rattle.std.specs.Prelude.{◌≡◌, ℕ, List, [], Contains}
use Rattle.table_words.specs.declared.setup.ThreadPart.{ThreadPart}
use Rattle.table_words.specs.Ends.{handed_numbers, HasPartOf}

-- each thread that one of the parts ps handed out has a part in the family
abbrev pub HasAllHanded : {C : Type 0} → List (ThreadPart C) → List (ThreadPart C) → Type 0
HasAllHanded {C} family ps = (p : ThreadPart C) → Contains ps p → (n : ℕ) → Contains (handed_numbers p.steps) n → HasPartOf family n

-- none of these threads has made a step, so none has handed out a thread
abbrev pub HaveNoSteps : {C : Type 0} → List (ThreadPart C) → Type 0
HaveNoSteps {C} ps = (p : ThreadPart C) → Contains ps p → p.steps ≡ []

-- The parts went from old to new, and those in `born` are of the threads that were handed out meanwhile: whoever had a part has
-- one, and a family that has all that the old parts handed out and all that were born has all that the new parts handed out.
pub record Begot {C : Type 0} (old new born : List (ThreadPart C)) : Type 0 where
  pub numbers : (n : ℕ) → HasPartOf old n → HasPartOf new n
  pub handed : (family : List (ThreadPart C)) → HasAllHanded family old → ((n : ℕ) → HasPartOf born n → HasPartOf family n) → HasAllHanded family new
