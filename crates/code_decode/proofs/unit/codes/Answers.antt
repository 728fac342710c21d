use Rattle.std.proofs.Common.{◌≡◌, inl, inr, arith, length}
use Rattle.code_decode.proofs.FileLaws.{few_methods}
use Rattle.code_decode.proofs.UnitLaws.{none_yet, one_more, all_read, first_refused}
use Rattle.code_decode.proofs.unit.codes.Goals as goal

pub loop-method-init : goal.loop-method-init
loop-method-init c = rw c.new-codes.ensures (none_yet c.args.file.now)

pub returns-in-Err : goal.returns-in-Err
returns-in-Err c = elim c.in-Err.ensures [
  | inl no_memory ↦ inl no_memory
  | inr refused ↦ inr (first_refused c.args.file.now c.loop-method.method c.loop-method.codes c.in-Err.refusal c.loop-method.invariant refused)
]

pub loop-method-preserved : goal.loop-method-preserved
loop-method-preserved c =
    rw c.in-Ok-push.ensures.ok (one_more c.args.file.now c.loop-method.method c.loop-method.codes c.in-Ok.code c.loop-method.invariant c.in-Ok.ensures)

pub returns : goal.returns
returns c =
    let few = few_methods c.args.file.now c.requires.file in
    let all : c.loop-method.method ≡ length c.args.file.now.methods = omega arith in
    all_read c.args.file.now c.loop-method.method c.loop-method.codes c.loop-method.invariant all
