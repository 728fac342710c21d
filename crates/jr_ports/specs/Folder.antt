-- Folders of files: what they hold, what they were asked for, and what was read of them.
use Rattle.std.specs.Prelude.{◌≡◌, ℕ, List, [], ◌∷◌, Option, Some, Contains, map, take, refl}

-- a file of a folder: its name, as the bytes of a text, and its bytes
pub record File : Type 0 where
  pub name : List ℕ
  pub bytes : List ℕ

-- what a folder was asked for: its path, and the names that it gave
pub record Asked : Type 0 where
  pub dir : List ℕ
  pub names : List (List ℕ)

abbrev pub names_of : List File → List (List ℕ)
names_of files = map (λ f. f.name) files

-- no name occurs twice
abbrev pub AreDifferent : List (List ℕ) → Type 0
AreDifferent [] = Unit {0}
AreDifferent (name ∷ names) = (Contains names name → ⊥) × AreDifferent names

-- how many bytes of a file are read at most: one more than a class file may have
unfoldable pub most_read : ℕ
most_read = 1048577

pub most_read-is : most_read ≡ 1048577
unfolding most_read
most_read-is = refl

-- the folder was asked for dir, and gave this name
abbrev pub IsListed : Option Asked → List ℕ → List ℕ → Type 0
IsListed asked dir name =
    (names : List (List ℕ)) × (asked ≡ Some (record { dir = dir; names = names })) × Contains names name

-- one of the files has this name and these bytes
abbrev pub IsOneOf : List File → List ℕ → List ℕ → Type 0
IsOneOf files name bytes = (f : File) × Contains files f × (f.name ≡ name) × (f.bytes ≡ bytes)

-- one of the files has this name and these bytes, except for what lies past the most that is read
abbrev pub IsRead : List File → List ℕ → List ℕ → Type 0
IsRead files name bytes =
    (f : File) × Contains files f × (f.name ≡ name) × (bytes ≡ take most_read f.bytes)
