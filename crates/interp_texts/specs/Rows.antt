-- A row of units.
use Rattle.std.specs.Prelude.{ℕ, List}

-- units, and for how many more there is room
pub record UnitsWithRoom : Type 0 where
  pub units : List ℕ
  pub spare : ℕ
