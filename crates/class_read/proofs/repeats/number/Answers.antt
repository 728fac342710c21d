use Rattle.std.proofs.Common.{ℕ, List, Option, nat_cmp}
use Rattle.std.specs.BTreeMap.{get_by}
use Rattle.std.specs.Cmp.Lexicographic.{slice_cmp}
use Rattle.class_read.proofs.NumberLaws.{known_still, no_text, no_number}
use Rattle.class_read.proofs.repeats.number.Goals as goal

pub returns-in_default : goal.returns-in_default
returns-in_default c = λ pool at knows.
    let known : List ℕ → Option ℕ = λ text. get_by (λ k. slice_cmp nat_cmp text k.now) c.args.numbers.now in
    let none = no_text c.args.constant.now c.in_default.not-Utf8 in
    (known_still known pool c.args.index c.args.constant.now at knows none, no_number pool c.args.constant.now c.in_default.not-Utf8)
