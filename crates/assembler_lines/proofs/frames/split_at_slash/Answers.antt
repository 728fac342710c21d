use Rattle.std.proofs.Common.{◌≡◌, ◌+◌, ◌-◌, length, take, drop, sym, ◌∙◌, arith, length-drop}
use Rattle.std.proofs.lemmas.List.{take_all}
use Rattle.assembler_lines.proofs.FrameLaws.{split_here, split_on, split_end}
use Rattle.assembler_lines.proofs.frames.split_at_slash.Goals as goal

pub returns-then-is_slash : goal.returns-then-is_slash
returns-then-is_slash c =
    let i = c.loop-end.end in
    let words = c.args.words.now in
    let rest : take (length words - (i + 1)) (drop (i + 1) words) ≡ drop (i + 1) words = take_all (length words - (i + 1)) (drop (i + 1) words) (omega (arith, length-drop (i + 1) words)) in
    rw rest (sym c.loop-end.invariant ∙ split_here words i c.index-words-end.result c.loop-end-test.true c.index-words-end.is (sym c.if-is_slash.ensures))

pub loop-end-preserved : goal.loop-end-preserved
loop-end-preserved c =
    sym (split_on c.args.words.now c.loop-end.end c.index-words-end.result c.loop-end-test.true c.index-words-end.is (sym c.if-is_slash.ensures)) ∙ c.loop-end.invariant

pub returns : goal.returns
returns c = sym c.loop-end.invariant ∙ split_end c.args.words.now c.loop-end.end c.loop-end-test.false
