use Rattle.std.proofs.Common.{sym, ◌∙◌, ap, refl}
use Rattle.member_table.proofs.SearchLaws.{rank_of, takes, keeps, nothing_found}
use Rattle.member_table.proofs.search.find_first.Goals as goal
use Rattle.member_table.proofs.search.find_first.Goals.{then-comes_before, else-comes_before}

pub loop-member-init : goal.loop-member-init
loop-member-init c = record { first = sym (nothing_found c.args.order.now); least = refl }

pub loop-member-preserved : goal.loop-member-preserved
loop-member-preserved c =
    let ms = c.args.members.now in
    let i = c.loop-member.member-index in
    let order = c.args.order.now in
    elim c.if-comes_before.branch [
      | then-comes_before w ↦ record {
        first = w.first-is ∙ takes ms i _ order c.loop-member.first c.rank-rank.result c.loop-member.least c.loop-member-test.true c.loop-member.invariant.first c.rank-rank.ensures c.loop-member.invariant.least (sym c.comes_before.ensures ∙ w.if-comes_before.true);
        least = w.least-is ∙ c.rank-rank.ensures ∙ sym (ap (rank_of order) w.first-is);
      }
      | else-comes_before w ↦ record {
        first = w.first-is ∙ keeps ms i _ order c.loop-member.first c.rank-rank.result c.loop-member.least c.loop-member-test.true c.loop-member.invariant.first c.rank-rank.ensures c.loop-member.invariant.least (sym c.comes_before.ensures ∙ w.if-comes_before.false);
        least = w.least-is ∙ c.loop-member.invariant.least ∙ sym (ap (rank_of order) w.first-is);
      }
    ]
