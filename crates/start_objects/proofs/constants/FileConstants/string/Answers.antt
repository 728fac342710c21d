use Rattle.std.proofs.Common.{arith}
use Rattle.start_objects.proofs.StartLaws.{number_small}
use Rattle.start_objects.proofs.constants.FileConstants.string.Goals as goal

pub overflow_mul-result : goal.overflow_mul-result
overflow_mul-result c =
    let are = c.requires.2 in
    let small = number_small c.requires.0 c.args.self.now.literals.now c.args.self.now.file c.args.index c.in-Some.number are.literals (c.in-Some.ensures c.requires.0 are.literals) in
    omega arith

pub overflow_add-result : goal.overflow_add-result
overflow_add-result c =
    let are = c.requires.2 in
    let small = number_small c.requires.0 c.args.self.now.literals.now c.args.self.now.file c.args.index c.in-Some.number are.literals (c.in-Some.ensures c.requires.0 are.literals) in
    let first = are.small in
    omega arith
