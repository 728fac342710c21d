-- A text is still UTF-8 after slashes have replaced its dots.
use Rattle.std.proofs.Common.{◌≡◌, ℕ, ◌<◌, ◌≤◌, Bool, true, false, List, cond, refl, arith}
use Rattle.std.specs.Prelude.{◌==◌}
use Rattle.std.proofs.lemmas.Bool.Decides.{nat_tests}
use Rattle.std.specs.Str.{IsUtf8}
use Rattle.std_alloc.proofs.string.Cased.{changed}
use Rattle.command_words.specs.Grammar.{with_slashes}

low : (b : ℕ) (is : Bool) → b < 128 → cond is 47 b < 128
low b true below = omega arith
low b false below = below

high : (b : ℕ) (is : Bool) → b == 46 ≡ is → 128 ≤ b → cond is 47 b ≡ b
high b true dot above = absurd (let at : b ≡ 46 = grind (arith, nat_tests, dot) in omega (arith, at))
high b false dot above = refl

pub slashes-utf8 : (name : List ℕ) → IsUtf8 name → IsUtf8 (with_slashes name)
slashes-utf8 = changed (λ b. cond (b == 46) 47 b) (λ b below. low b (b == 46) below) (λ b above. high b (b == 46) refl above)
