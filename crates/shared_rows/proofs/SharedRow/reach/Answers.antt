use Rattle.std.proofs.Common.{◌+◌, true, false, length, ◌∙◌, ap}
use Rattle.std.proofs.lemmas.List.{length_push}
use Rattle.std.specs.Arc.{arc_value}
use Rattle.shared_rows.proofs.RowLemmas.{numbers_more}
use Rattle.shared_rows.proofs.SharedRow.reach.Goals as goal

pub returns-in_err-push-clause-numbers : goal.returns-in_err-push-clause-numbers
returns-in_err-push-clause-numbers c =
    numbers_more arc_value c.loop.self.pages.items c.push.new.self.items c.in_ok-new.field-0 false c.in_err-push.ensures.items c.in_ok-new.ensures.ok ∙ c.loop.invariant.numbers

pub loop-preserved : goal.loop-preserved
loop-preserved c = record {
  numbers = numbers_more arc_value c.loop.self.pages.items c.push.new.self.items c.in_ok-new.field-0 true c.in_ok-push.ensures.items c.in_ok-new.ensures.ok ∙ c.loop.invariant.numbers;
  pages = ap length c.in_ok-push.ensures.items ∙ length_push c.loop.self.pages.items c.in_ok-new.field-0 ∙ ap (λ n. n + 1) c.loop.invariant.pages;
}
