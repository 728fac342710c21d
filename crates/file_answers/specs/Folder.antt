-- The class files that are read of a folder, in the order of their names' bytes.
use Rattle.std.specs.Prelude.{◌≡◌, ◌⊎◌, ℕ, List, [], ◌++◌, take, Option, Some, IfSome}
use Rattle.std.specs.List.Sorted.{IsPermutation}
use Rattle.jr_ports.specs.Folder.{File, Asked, names_of}
use Rattle.jr_ports.specs.Stream.{Gains}
use Rattle.program_input.specs.Folder.{AreClassNames}

-- A folder was asked for dir, and gave names of which these are the class files, in order. Where its files are known,
-- it gave their names.
pub record AreListed (asked : Option Asked) (files : Option (List File)) (dir : List ℕ) (sorted : List (List ℕ)) : Type 0 where
  pub names : List (List ℕ)
  pub is_asked : asked ≡ Some (record { dir = dir; names = names })
  pub of_files : IfSome files (λ told. IsPermutation (names_of told) names)
  pub are : AreClassNames names sorted

-- these are the first of the class files of the folder that was asked, at most `most` of them
pub record AreFirst (most : ℕ) (asked : Option Asked) (read : List (List ℕ)) : Type 0 where
  pub dir : List ℕ
  pub names : List (List ℕ)
  pub sorted : List (List ℕ)
  pub rest : List (List ℕ)
  pub is_asked : asked ≡ Some (record { dir = dir; names = names })
  pub are_sorted : AreClassNames names sorted
  pub are : take most sorted ≡ read ++ rest

-- what was read from the folder, where that is known
abbrev pub ReadsInOrder : ℕ → Option Asked → Option (List (List ℕ)) → Option (List (List ℕ)) → Type 0
ReadsInOrder most asked before after =
    (read : List (List ℕ)) × ((read ≡ []) ⊎ AreFirst most asked read) × Gains before after read
