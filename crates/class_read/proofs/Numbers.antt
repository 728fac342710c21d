-- Two bytes of a number.
use Rattle.std.proofs.Common.{◌≡◌, ℕ, ◌/◌, ◌%◌, ◌^◌, ◌<◌, [], ◌∷◌, arith}
use Rattle.class_walk.specs.Layout.{u2}

pair_is : (a b c d : ℕ) → a ≡ c → b ≡ d → a ∷ b ∷ [] ≡ c ∷ d ∷ []
pair_is a b c d e f = cc

pub u2-split : (n : ℕ) → n < 2 ^ 16 → u2 n ≡ n / 256 ∷ n % 256 ∷ []
u2-split n fits = pair_is _ _ _ _ (omega arith) (omega arith)
