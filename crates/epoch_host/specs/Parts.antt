-- How the parts of threads go on.
use Rattle.std.specs.Prelude.{◌≡◌, ℕ, ◌+◌, List}
use Rattle.table_words.specs.declared.setup.ThreadPart.{ThreadPart}
use Rattle.table_words.specs.Ends.{HasPartOf}
use Rattle.table_hosts.specs.Families.{HasAllHanded}
use Rattle.table_hosts.specs.Tallies.{opened_in_parts, undone_in_parts}

-- The parts of some threads went from old to new, those of threads that were handed out meanwhile among the new ones. Whoever had a
-- part has one, and a family that has all that the old parts handed out, and all that have a new part, has all that the new parts
-- handed out. Meanwhile the threads opened `opened` sections, and marked levels undone `undone` times.
pub record WentOn {C : Type 0} (old new : List (ThreadPart C)) (opened undone : ℕ) : Type 0 where
  pub numbers : (n : ℕ) → HasPartOf old n → HasPartOf new n
  pub handed : (family : List (ThreadPart C)) → HasAllHanded family old → ((n : ℕ) → HasPartOf new n → HasPartOf family n) → HasAllHanded family new
  pub opens : opened_in_parts new ≡ opened_in_parts old + opened
  pub undoes : undone_in_parts new ≡ undone_in_parts old + undone
