-- The rule of a number above 0 is at the place before it.
use Rattle.std.proofs.Common.{◌≡◌, ◌<◌, ◌-◌, ℕ, ap, arith}
use Rattle.std.specs.Prelude.{slice_get, zero, suc}
use Rattle.program_accept.specs.declared.refusal.Stage.{Stage}
use Rattle.why_texts.specs.Telling.{rule_of, rules_of}

before : (number : ℕ) → number ≡ suc number - 1
before number = omega (arith)

pub rule_of-place : (stage : Stage) (number : ℕ) → 0 < number → rule_of stage number ≡ slice_get (rules_of stage) (number - 1)
rule_of-place stage zero above = absurd (omega (arith, above))
rule_of-place stage (suc number) above = ap (slice_get (rules_of stage)) (before number)
