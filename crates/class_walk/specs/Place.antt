-- A place in a list of bytes.
use Rattle.std.specs.Prelude.{ℕ, List}

-- how many bytes come before it, and the bytes from there on
pub record Place : Type 0 where
  pub at : ℕ
  pub left : List ℕ
