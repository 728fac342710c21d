use Rattle.std.proofs.Common.{List, Option, ℕ, ◌∙◌, subst}
use Rattle.std.proofs.lemmas.Result.{IfOk-weaker}
use Rattle.class_read.specs.Repeats.{IsFirstRepeat, IsFirstRepeatedKey}
use Rattle.class_read.proofs.SignatureLaws.{first_repeat_is}
use Rattle.class_read.proofs.repeats.first_repeat.Goals as goal

pub returns : goal.returns
returns c =
    let pool = c.args.pool.now in
    let members = c.args.members.now in
    let numbers = c.deref.ensures.value ∙ c.in_ok-numbers.ensures in
    IfOk-weaker c.first_repeated_key.result (IsFirstRepeatedKey c.deref.result.now members) (IsFirstRepeat pool members)
    (λ repeat first. let P : List (Option ℕ) → Type 0 = λ ns. IsFirstRepeatedKey ns members repeat in first_repeat_is pool members repeat (subst P numbers first))
    c.first_repeated_key.ensures
