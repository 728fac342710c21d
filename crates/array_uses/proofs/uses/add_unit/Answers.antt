use Rattle.std.proofs.Common.{Option, length, flat_map, refl, sym, ap, subst, ◌∙◌}
use Rattle.std.proofs.lemmas.List.{take_all}
use Rattle.std.proofs.lemmas.Option.{slice_get_read}
use Rattle.code_decode.specs.declared.code.Code.{Code}
use Rattle.instructions.specs.declared.what.Instr.{Instr}
use Rattle.instructions.specs.declared.what.Target.{Target}
use Rattle.link_rules.specs.Arrays.{arrays_of_what, steps_of_code}
use Rattle.array_uses.specs.Most.{MostGrows}
use Rattle.array_uses.specs.Uses.{AreCodesRight, arrays_of_steps}
use Rattle.array_uses.proofs.Growing.{grows_item, flat_twice}
use Rattle.array_uses.proofs.uses.add_unit.Goals as goal

pub loop-code-preserved : goal.loop-code-preserved
loop-code-preserved c = λ us file right.
    let codes = c.as_slice-codes.result.now in
    let code = c.code-item.result in
    let at = slice_get_read codes (length codes) c.loop-code.code-index code refl c.loop-code-test.true c.code-item.is in
    grows_item us c.args.order.now (λ (x : Option Code). arrays_of_steps c.args.unit.now.file.pool (steps_of_code x)) codes c.loop-code.code-index code c.args.most.now.items c.loop-code.most.items c.add_code.new.most.items at
    (c.loop-code.invariant us file right)
    (c.add_code.ensures us file (right c.loop-code.code-index code at))

pub returns : goal.returns
returns c = λ us file right.
    let codes = c.as_slice-codes.ensures in
    let rights = subst (AreCodesRight us c.args.file c.args.unit.now) (sym c.as_slice-codes.ensures) right in
    subst (MostGrows us c.args.order.now c.args.most.now.items c.loop-code.most.items)
    (ap (flat_map (λ (x : Option Code). arrays_of_steps c.args.unit.now.file.pool (steps_of_code x))) (take_all c.loop-code.code-index c.as_slice-codes.result.now c.loop-code-test.false ∙ c.as_slice-codes.ensures)
    ∙ sym (flat_twice (λ (s : Instr Target). arrays_of_what c.args.unit.now.file.pool s.what) steps_of_code c.args.unit.now.codes))
    (c.loop-code.invariant us file rights)
