-- What the headers of classes name.
use Rattle.std.specs.Prelude.{◌≡◌, ℕ, zero, suc, ◌<◌, ◌==◌, ◌&&◌, ◌||◌, Bool, false, not, Option, None, Some, List, All, slice_get}
use Rattle.std.specs.List.{list_any}
use Rattle.std.specs.Option.{option_map_or}
use Rattle.class_supers.specs.declared.headers.ClassHeader.{ClassHeader}

-- a number that is named, and that of a class
abbrev pub is_named : ℕ → ℕ → Bool
is_named n d = d == n && not (n == 0)

-- a class of this header names the class of this number
abbrev pub names : ClassHeader → ℕ → Bool
names h d = is_named h.superclass d || list_any (λ n. is_named n d) h.interfaces

abbrev pub header_numbered : List ClassHeader → ℕ → Option ClassHeader
header_numbered hs zero = None
header_numbered hs (suc i) = slice_get hs i

abbrev pub names_at : List ClassHeader → ℕ → ℕ → Bool
names_at hs c d = option_map_or (λ h. names h d) (header_numbered hs c) false

-- a header names numbers below a size
pub record IsWithin (size : ℕ) (h : ClassHeader) : Type 0 where
  pub superclass : h.superclass < size
  pub interfaces : All (λ n. n < size) h.interfaces

abbrev pub AreWithin : ℕ → List ClassHeader → Type 0
AreWithin size hs = (i : ℕ) (h : ClassHeader) → slice_get hs i ≡ Some h → IsWithin size h
