use Rattle.std.proofs.Common.{◌≡◌, ◌+◌, ◌-◌, length, take, drop, sym, ◌∙◌, arith, length-drop}
use Rattle.std.proofs.lemmas.Bool.{ne_eqb}
use Rattle.std.proofs.lemmas.List.{take_all}
use Rattle.class_names.proofs.KindLaws.{split_here, split_on, split_end}
use Rattle.class_names.proofs.shape.split_name.Goals as goal

pub returns-then-byte-eq59 : goal.returns-then-byte-eq59
returns-then-byte-eq59 c =
    let i = c.loop-end.end in
    let bytes = c.args.bytes.now in
    let rest : take (length bytes - (i + 1)) (drop (i + 1) bytes) ≡ drop (i + 1) bytes = take_all (length bytes - (i + 1)) (drop (i + 1) bytes) (omega (arith, length-drop (i + 1) bytes)) in
    rw rest (sym c.loop-end.invariant ∙ split_here bytes i c.loop-end-test.true c.if-byte-eq59.true)

pub loop-end-preserved : goal.loop-end-preserved
loop-end-preserved c = sym (split_on c.args.bytes.now c.loop-end.end c.loop-end-test.true (ne_eqb _ _ c.if-byte-eq59.false)) ∙ c.loop-end.invariant

pub returns : goal.returns
returns c = sym c.loop-end.invariant ∙ split_end c.args.bytes.now c.loop-end.end c.loop-end-test.false
