-- Each kind of refusal has a rule.
use Rattle.std.specs.Prelude.{◌≢◌, IsSome}
use Rattle.class_pool.specs.declared.refusal.ReadRefusal.{ReadRefusal}
use Rattle.class_pool.specs.declared.refusal.ReadRefusal.TheVariants as reading
use Rattle.class_pool.specs.Refusal as read_numbers
use Rattle.code_decode.specs.declared.refusal.CodeRefusal.{CodeRefusal}
use Rattle.code_decode.specs.declared.refusal.CodeRefusal.TheVariants as decoding
use Rattle.code_decode.specs.Refusal as code_numbers
use Rattle.link_types.specs.declared.refusal.LinkKind.{LinkKind}
use Rattle.link_types.specs.LinkKind.{kind_number}
use Rattle.type_rules.specs.declared.refusal.VerifyKind.{VerifyKind}
use Rattle.type_rules.specs.VerifyKind.{verify_kind_number}
use Rattle.program_accept.specs.declared.refusal.Stage.TheVariants as stages
use Rattle.why_texts.specs.Telling.{rule_of}

-- each kind of refusal but out of memory has a rule, at its number in the table of its stage
pub record EachKindHasARule : Type 0 where
  pub read : (e : ReadRefusal) → e ≢ reading.NoMemory → IsSome (rule_of stages.Read (read_numbers.number_of e))
  pub code : (e : CodeRefusal) → e ≢ decoding.NoMemory → IsSome (rule_of stages.Code (code_numbers.number_of e))
  pub link : (kind : LinkKind) → IsSome (rule_of stages.Link (kind_number kind))
  pub verify : (kind : VerifyKind) → IsSome (rule_of stages.Verify (verify_kind_number kind))
