-- The rules of the type checker over the methods of one file.
use Rattle.std.specs.Prelude.{ℕ, Option, List}
use Rattle.rules.specs.Rules.{Rules, each}
use Rattle.code_decode.specs.declared.code.Code.{Code}
use Rattle.code_decode.specs.declared.code.ClassUnit.{ClassUnit}
use Rattle.type_rules.specs.declared.refusal.VerifyRefusal.{VerifyRefusal}
use Rattle.type_rules.specs.Environments.{environment_of}
use Rattle.type_rules.specs.VerifyRules.{method_type_rules, method_of_file}

-- of the method at a place, of which nothing but the place is asked
abbrev pub code_type_rules : List ClassUnit → ℕ → ℕ → Option Code → Rules VerifyRefusal
code_type_rules us file method code = method_type_rules file method (environment_of us (method_of_file file method))

abbrev pub file_type_rules : List ClassUnit → ℕ → ClassUnit → Rules VerifyRefusal
file_type_rules us file u = each (code_type_rules us file) u.codes
