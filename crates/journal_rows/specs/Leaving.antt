-- How a thread's events that aren't left are found: the newest first.
use Rattle.std.specs.Prelude.{ℕ, Bool, true, false, Option, None, Some, List, [], ◌∷◌, nat_le, slice_set, if◌then◌else◌}

abbrev pub none_open : {A : Type 0} → List A → Bool
none_open [] = true
none_open (x ∷ xs) = false

-- what a thread keeps of its events where these levels are open
abbrev pub kept_while_open : List ℕ → List ℕ → List ℕ
kept_while_open [] numbers = []
kept_while_open (first ∷ levels) numbers = numbers

-- the numbers, the newest first, from the first one on that is below this one
abbrev pub from_below : ℕ → List ℕ → List ℕ
from_below first [] = []
from_below first (i ∷ numbers) = if nat_le first i then from_below first numbers else i ∷ numbers

-- of the numbers before it each is marked as not left
abbrev pub marked_from : ℕ → List ℕ → List Bool → List Bool
marked_from first [] left = left
marked_from first (i ∷ numbers) left = if nat_le first i then marked_from first numbers (slice_set left i false) else left

-- where there is such a number
abbrev pub from_opened : Option ℕ → List ℕ → List ℕ
from_opened None numbers = numbers
from_opened (Some first) numbers = from_below first numbers

abbrev pub marked_since : Option ℕ → List ℕ → List Bool → List Bool
marked_since None numbers left = left
marked_since (Some first) numbers left = marked_from first numbers left
