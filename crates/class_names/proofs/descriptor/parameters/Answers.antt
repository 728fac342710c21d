use Rattle.std.proofs.Common.{arith}
use Rattle.class_names.specs.Shape.{kind_of}
use Rattle.class_names.proofs.ParameterLaws.{words_more, words_many, words_open, few_kinds, behind_shorter}
use Rattle.class_names.proofs.descriptor.parameters.Goals as goal

pub returns-then-words-gt255-clause-none : goal.returns-then-words-gt255-clause-none
returns-then-words-gt255-clause-none c =
    words_many c.args.bytes.now c.loop-shape.rest.now c.loop-shape.count c.loop-shape.words (kind_of c.in-Some.shape) c.in-Some.after.now c.loop-shape.invariant c.in-Some.ensures
    (let e = c.words-words.ensures in let h = c.if-words-gt255.true in omega arith)

pub loop-shape-smaller : goal.loop-shape-smaller
loop-shape-smaller c = behind_shorter c.loop-shape.rest.now (kind_of c.in-Some.shape) c.in-Some.after.now c.in-Some.ensures

pub loop-shape-preserved : goal.loop-shape-preserved
loop-shape-preserved c =
    rw c.words-words.ensures (words_more c.args.bytes.now c.loop-shape.rest.now c.loop-shape.count c.loop-shape.words (kind_of c.in-Some.shape) c.in-Some.after.now c.loop-shape.invariant c.in-Some.ensures
    (let e = c.words-words.ensures in let h = c.if-words-gt255.false in omega arith))

pub returns-in_err-after-clause-none : goal.returns-in_err-after-clause-none
returns-in_err-after-clause-none c =
    rw c.from_residual.ensures (words_open c.args.bytes.now c.loop-shape.rest.now c.loop-shape.count c.loop-shape.words c.loop-shape.invariant c.in_default.ensures c.in_err-after.ensures)

pub overflow_add-count : goal.overflow_add-count
overflow_add-count c =
    let few = few_kinds c.args.bytes.now c.loop-shape.rest.now c.loop-shape.count c.loop-shape.words c.loop-shape.invariant in
    omega (arith, few.0, few.1)

pub overflow_cast-size : goal.overflow_cast-size
overflow_cast-size c =
    let few = few_kinds c.args.bytes.now c.loop-shape.rest.now c.loop-shape.count c.loop-shape.words c.loop-shape.invariant in
    omega (arith, few.0, few.1)
