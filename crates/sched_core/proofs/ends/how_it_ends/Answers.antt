use Rattle.std.proofs.Common.{Some, sym, ◌∙◌, ap, subst}
use Rattle.op_core.specs.declared.How.TheVariants as hows
use Rattle.word_runs.specs.WordTurns.{EndedBy, is_live}
use Rattle.sched_core.proofs.RunLemmas.{ends_by_itself, none_enabled}
use Rattle.sched_core.proofs.ends.how_it_ends.Goals as goal

pub returns-then-has_live-clause-itself : goal.returns-then-has_live-clause-itself
returns-then-has_live-clause-itself g c = λ run core through.
    let live = c.has_live.ensures.some c.if-has_live.true in
    record {
      through = through;
      some_live = (live.0, ap (λ f. is_live (f live.0)) core.threads ∙ live.1);
      none_enabled = none_enabled g.C.ThreadCode.code g.C.ThreadCode.state g.C.ThreadCode.saved c.args.machine.now.words c.args.machine.now.seats.places.items c.args.machine.now.bounds run.state core c.requires;
    }

pub returns-then-has_live-clause-ends : goal.returns-then-has_live-clause-ends
returns-then-has_live-clause-ends g c = λ run core untold through.
    ends_by_itself g.C.ThreadCode.code c.args.machine.now.bounds run hows.Stuck untold (returns-then-has_live-clause-itself g c run core through)

pub returns-then-has_died-clause-itself : goal.returns-then-has_died-clause-itself
returns-then-has_died-clause-itself g c = λ run core through.
    let died = c.has_died.ensures.some c.if-has_died.true in (
      λ t. ap (λ f. is_live (f t)) core.threads ∙ c.has_live.ensures.none c.if-has_live.false t,
      (died.0, died.1, subst (λ f. EndedBy g.C.ThreadCode.code (Some died.1) (f died.0)) (sym core.threads) died.2),
    )

pub returns-then-has_died-clause-ends : goal.returns-then-has_died-clause-ends
returns-then-has_died-clause-ends g c = λ run core untold through.
    ends_by_itself g.C.ThreadCode.code c.args.machine.now.bounds run hows.Died untold (returns-then-has_died-clause-itself g c run core through)

pub returns-clause-itself : goal.returns-clause-itself
returns-clause-itself g c = λ run core through. (
  λ t. ap (λ f. is_live (f t)) core.threads ∙ c.has_live.ensures.none c.if-has_live.false t,
  λ t x ended. c.has_died.ensures.none c.if-has_died.false t x (subst (λ f. EndedBy g.C.ThreadCode.code (Some x) (f t)) core.threads ended),
)

pub returns-clause-ends : goal.returns-clause-ends
returns-clause-ends g c = λ run core untold through.
    ends_by_itself g.C.ThreadCode.code c.args.machine.now.bounds run hows.Done untold (returns-clause-itself g c run core through)
