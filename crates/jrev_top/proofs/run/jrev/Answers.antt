use Rattle.jrev_top.proofs.Ended.{reports-told, unfailed, unasked, OnOk-weaker, read-faults, write-faults, memory-ends, calm-ends}
use Rattle.jrev_top.proofs.run.jrev.Goals as goal

pub returns-clause-answer : goal.returns-clause-answer
returns-clause-answer g c =
    reports-told _ _ _ _ _ c.decide-decided.result c.decide-decided.ensures.answer (OnOk-weaker _ _ _ (unfailed _ _ _ _ _) c.decide-decided.ensures.ok_faults)
    c.decide-decided.ensures.cause (λ none. unfailed _ _ _ _ _ (c.decide-decided.ensures.memory_faults none)) c.tell.ensures

pub returns-clause-complete : goal.returns-clause-complete
returns-clause-complete g c = λ folder input out err.
    calm-ends _ _ _ _ _ (returns-clause-answer g c) (unasked _ _ _ folder input) out err

pub returns-clause-read_fault : goal.returns-clause-read_fault
returns-clause-read_fault g c = read-faults _ _ _ _ _ (returns-clause-answer g c)

pub returns-clause-write_fault : goal.returns-clause-write_fault
returns-clause-write_fault g c = write-faults _ _ _ _ _ (returns-clause-answer g c)

pub returns-clause-no_memory : goal.returns-clause-no_memory
returns-clause-no_memory g c = memory-ends _ _ _ _ _ (returns-clause-answer g c)
