-- The class files of a folder.
use Rattle.std.specs.Prelude.{◌≡◌, ℕ, ◌-◌, Bool, ◌&&◌, nat_lt, List, [], ◌∷◌, ◌++◌, length, drop, filter, codes, Option, IfSome}
use Rattle.std.specs.List.Sorted.{IsPermutation, IsSorted}
use Rattle.std.specs.Cmp.Lexicographic.{slice_cmp}
use Rattle.std.specs.Ordering.{nat_cmp}
use Rattle.std.specs.Str.{bytes_eq}
use Rattle.jr_ports.specs.Folder.{File, IsRead}
use Rattle.jr_ports.specs.Stream.{Gains}

-- a name that ends in .class, and is longer than that
abbrev pub is_class_file : List ℕ → Bool
is_class_file name = nat_lt 6 (length name) && bytes_eq (drop (length name - 6) name) (codes ".class")

-- the names of the class files among these, in the order of their bytes
pub record AreClassNames (names sorted : List (List ℕ)) : Type 0 where
  pub are : IsPermutation (filter is_class_file names) sorted
  pub in_order : IsSorted (slice_cmp nat_cmp) sorted

-- each of these was read from the file of its name, where the folder says which files it has
abbrev pub AreRead : Option (List File) → List (List ℕ) → List (List ℕ) → Type 0
AreRead told [] [] = Unit {0}
AreRead told (name ∷ names) (bytes ∷ files) = IfSome told (λ all. IsRead all name bytes) × AreRead told names files
AreRead told names files = ⊥

-- the files that a folder says were read: their names, which are the first of these, were added
abbrev pub ReadsFront : List (List ℕ) → Option (List (List ℕ)) → Option (List (List ℕ)) → Type 0
ReadsFront names before after = (read rest : List (List ℕ)) × (names ≡ read ++ rest) × Gains before after read
