-- How a thread ended.
use Rattle.std.specs.Prelude.{ℕ, Bool, true, Option, None, Some}
use Rattle.op_core.specs.declared.Next.{Next}
use Rattle.op_core.specs.declared.Next.TheVariants.{Want}
use Rattle.op_core.specs.declared.Op.TheVariants.{End}
use Rattle.op_core.specs.declared.ThreadEnd.{ThreadEnd}
use Rattle.op_core.specs.ThreadCode.{Code}
use Rattle.thread_automaton.specs.ThreadState.{ThreadState}

-- the thread of this number, which did this last, has ended with what it wanted, if it is over
abbrev pub end_by : ℕ → Next → Bool → Option ThreadEnd
end_by t (Want (End x)) true = Some (record { thread = t; class = x })
end_by t next is_over = None

abbrev pub end_at : {S : Type 0} → Code S → ℕ → Option (ThreadState S) → Option ThreadEnd
end_at code t None = None
end_at code t (Some th) = end_by t (code.next th.local) th.over
