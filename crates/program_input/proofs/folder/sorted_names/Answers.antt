use Rattle.std.proofs.Common.{List, ℕ, string_bytes, map, subst}
use Rattle.std.specs.List.Sorted.{IsPermutation}
use Rattle.std.proofs.lemmas.List.Sorted.{IsPermutation-map}
use Rattle.program_input.proofs.Names.{IsSorted-bytes}
use Rattle.program_input.proofs.folder.sorted_names.Goals as goal

pub returns-clause-are : goal.returns-clause-are
returns-clause-are c =
    let P : List (List ℕ) → Type 0 = λ names. IsPermutation names (map string_bytes c.sort.new.self.items) in
    subst P c.in_ok-found.ensures (IsPermutation-map string_bytes _ _ c.sort.ensures.permutation)

pub returns-clause-in_order : goal.returns-clause-in_order
returns-clause-in_order c = IsSorted-bytes c.sort.new.self.items c.in_ok-sort.ensures.sorted
