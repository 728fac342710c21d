use Rattle.std.proofs.Common.{◌≡◌, inl, inr, Some, subst, arith}
use Rattle.std.proofs.lemmas.Bool.{cases_lt}
use Rattle.thread_moves.specs.Thread.{thread_of}
use Rattle.word_runs.specs.WordTurns.{EndedBy}
use Rattle.word_machine.specs.Machine.{threads_in}
use Rattle.sched_core.proofs.ends.has_died.Goals as goal

pub returns-then-died-clause-some : goal.returns-then-died-clause-some
returns-then-died-clause-some g c = λ _. let had = c.died.ensures.some c.if-died.true in (c.loop-number.number, had.0, had.1)

pub loop-number-preserved : goal.loop-number-preserved
loop-number-preserved g c = λ t x below ended. elim (cases_lt t c.loop-number.number) [
  | inl lower ↦ c.loop-number.invariant t x lower ended
  | inr past ↦
      let here : t ≡ c.loop-number.number = omega (arith, below, past) in
      c.died.ensures.none c.if-died.false x (subst (λ k. EndedBy g.C.ThreadCode.code (Some x) (threads_in (thread_of g.C.ThreadCode.state g.C.ThreadCode.saved) c.args.machine.now.seats.places.items k)) here ended)
]

pub returns-clause-none : goal.returns-clause-none
returns-clause-none g c = λ _ t x ended. elim (cases_lt t c.loop-number.number) [
  | inl lower ↦ c.loop-number.invariant t x lower ended
  | inr past ↦ subst (EndedBy g.C.ThreadCode.code (Some x)) (c.count-number-end.ensures.above t (omega (arith, past, c.loop-number-test.false))) ended
]
