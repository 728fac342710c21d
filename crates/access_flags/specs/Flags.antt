-- Access flags (JVMS SE 8, 4.1, 4.5 and 4.6).
use Rattle.std.specs.Prelude.{ℕ, Bool, not, bit_and, ◌==◌}

-- whether a flag is set
abbrev pub has : ℕ → ℕ → Bool
has flags flag = not (bit_and flags flag == 0)
