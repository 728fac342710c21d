-- Each kind has a rule, by a look at each.
use Rattle.std.proofs.Common.{refl}
use Rattle.std.specs.Prelude.{◌≢◌, IsSome}
use Rattle.class_pool.specs.declared.refusal.ReadRefusal.{ReadRefusal}
use Rattle.class_pool.specs.declared.refusal.ReadRefusal.TheVariants as reading
use Rattle.class_pool.specs.Refusal as read_numbers
use Rattle.code_decode.specs.declared.refusal.CodeRefusal.{CodeRefusal}
use Rattle.code_decode.specs.declared.refusal.CodeRefusal.TheVariants as decoding
use Rattle.code_decode.specs.Refusal as code_numbers
use Rattle.link_types.specs.declared.refusal.LinkKind.{LinkKind}
use Rattle.link_types.specs.declared.refusal.LinkKind.TheVariants as linking
use Rattle.link_types.specs.LinkKind.{kind_number}
use Rattle.type_rules.specs.declared.refusal.VerifyKind.{VerifyKind}
use Rattle.type_rules.specs.declared.refusal.VerifyKind.TheVariants as verifying
use Rattle.type_rules.specs.VerifyKind.{verify_kind_number}
use Rattle.program_accept.specs.declared.refusal.Stage.TheVariants as stages
use Rattle.why_texts.specs.Rules.{read_rules, code_rules, link_rules, verify_rules}
use Rattle.why_texts.specs.Telling.{rule_of}

pub read_rule : (e : ReadRefusal) → e ≢ reading.NoMemory → IsSome (rule_of stages.Read (read_numbers.number_of e))
unfolding read_rules
read_rule reading.Magic other = refl
read_rule reading.Version other = refl
read_rule (reading.Truncated _) other = refl
read_rule (reading.PoolTag _) other = refl
read_rule (reading.PoolIndex _) other = refl
read_rule (reading.BadUtf _) other = refl
read_rule (reading.BadDescriptor _) other = refl
read_rule (reading.Trailing _) other = refl
read_rule reading.TooLong other = refl
read_rule (reading.Attribute _) other = refl
read_rule reading.Flags other = refl
read_rule (reading.Member _) other = refl
read_rule reading.NoMemory other = absurd (other refl)

pub code_rule : (e : CodeRefusal) → e ≢ decoding.NoMemory → IsSome (rule_of stages.Code (code_numbers.number_of e))
unfolding code_rules
code_rule (decoding.Opcode _) other = refl
code_rule (decoding.Unsupported _) other = refl
code_rule (decoding.Cut _) other = refl
code_rule (decoding.Target _) other = refl
code_rule (decoding.Handler _) other = refl
code_rule (decoding.Frame _) other = refl
code_rule decoding.Length other = refl
code_rule (decoding.Switch _) other = refl
code_rule (decoding.Operand _) other = refl
code_rule decoding.NoMemory other = absurd (other refl)

pub link_rule : (kind : LinkKind) → IsSome (rule_of stages.Link (kind_number kind))
unfolding link_rules
link_rule linking.Twice = refl
link_rule linking.Missing = refl
link_rule linking.Cycle = refl
link_rule linking.FinalSuper = refl
link_rule linking.NotInterface = refl
link_rule linking.NoField = refl
link_rule linking.NoMethod = refl
link_rule linking.StaticMismatch = refl
link_rule linking.Private = refl
link_rule linking.VolatileLong = refl
link_rule linking.Native = refl
link_rule linking.DefaultMethod = refl
link_rule linking.TooMany = refl
link_rule linking.FloatUse = refl
link_rule linking.FinalMethod = refl
link_rule linking.NotClass = refl

pub verify_rule : (kind : VerifyKind) → IsSome (rule_of stages.Verify (verify_kind_number kind))
unfolding verify_rules
verify_rule verifying.StackShape = refl
verify_rule verifying.TypeMismatch = refl
verify_rule verifying.FrameMissing = refl
verify_rule verifying.FrameMismatch = refl
verify_rule verifying.FallsOff = refl
verify_rule verifying.Limits = refl
verify_rule verifying.Uninit = refl
verify_rule verifying.InitCovered = refl
verify_rule verifying.ReturnType = refl
