use Rattle.std.proofs.Common.{◌∙◌, arith, sym, subst}
use Rattle.program_accept.specs.Accepted.{code_rules}
use Rattle.program_accept.specs.Answers.{Fails}
use Rattle.program_accept.proofs.Chains.{memory_fails}
use Rattle.program_accept.proofs.StageLaws.{read_memory, unit_passes, unit_fails}
use Rattle.program_accept.proofs.decoding.decode_file.Goals as goal

pub returns-in-Err : goal.returns-in-Err
returns-in-Err c =
    memory_fails (code_rules c.args.place c.args.bytes.now) c.read_refused.result
    (c.read_refused.ensures ∙ read_memory c.args.place c.args.bytes.now c.in-Err.refusal (c.in-Err.ensures.only c.requires.read.0 c.requires.read.1))

pub decode_class-requires : goal.decode_class-requires
decode_class-requires c = (c.args.bytes.now, (λ i. omega (arith, c.type_inv.bytes i)), c.in-Ok.ensures.found)

pub returns-in-Ok-decode_class : goal.returns-in-Ok-decode_class
returns-in-Ok-decode_class c =
    unit_passes c.args.place c.args.bytes.now c.in-Ok.file c.in-Ok.ensures.found c.in-Ok.ensures.only c.in-Ok-decode_class.unit
    (λ i. omega (arith, c.type_inv.bytes i)) c.in-Ok-decode_class.ensures.found c.in-Ok-decode_class.ensures.only c.in-Ok-decode_class.ensures.first

pub returns-in-Err-decode_class : goal.returns-in-Err-decode_class
returns-in-Err-decode_class c =
    subst (Fails (code_rules c.args.place c.args.bytes.now)) (sym c.code_refused.ensures)
    (unit_fails c.args.place c.args.bytes.now c.in-Ok.file c.in-Ok.ensures.found c.in-Ok.ensures.only c.in-Err-decode_class.at
    c.in-Err-decode_class.ensures.exact c.in-Err-decode_class.ensures.first c.in-Err-decode_class.ensures.only)
