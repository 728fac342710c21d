use Rattle.std.proofs.Common.{◌+◌, ◌∷◌, [], length, length-append, sym, ◌∙◌, ap, subst, arith}
use Rattle.journal_rows.specs.Rows.{AreFresh}
use Rattle.journal_rows.proofs.ListLemmas.{new_more}
use Rattle.journal_rows.proofs.telling.new_threads.Goals as goal

pub loop-init : goal.loop-init
loop-init c = record { count = ap length c.new-threads.ensures.items; new = subst AreFresh (sym c.new-threads.ensures.items) (λ t x at. absurd (cc)) }

pub loop-preserved : goal.loop-preserved
loop-preserved c = record {
  count = ap length c.in_ok-add.ensures ∙ length-append c.loop.threads.items (c.new.result ∷ []) ∙ ap (λ n. n + 1) c.loop.invariant.count;
  new = subst AreFresh (sym c.in_ok-add.ensures) (new_more c.loop.threads.items c.new.result c.loop.invariant.new (c.new.ensures.opened, c.new.ensures.back, c.new.ensures.events));
}

pub returns-clause-whole : goal.returns-clause-whole
returns-clause-whole c = omega (arith, c.loop.invariant.count, c.loop-test.false, c.loop.auto.counter-end)

pub returns-clause-new : goal.returns-clause-new
returns-clause-new c = c.loop.invariant.new
