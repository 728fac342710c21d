-- What a log of overwritten words stands for.
use Rattle.std.specs.Prelude.{ℕ, List}
use Rattle.write_log.specs.declared.Noted.{Noted}

-- the words that were logged, newest first, and how many more there is room for
pub record Log : Type 0 where
  pub noted : List Noted
  pub spare : ℕ
