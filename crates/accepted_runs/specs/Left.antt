-- Turns of the program have led to a core. The texts and the ends that it tells are those of the execution that is left of these
-- turns.
use Rattle.std.specs.Prelude.{◌≡◌, List}
use Rattle.code_decode.specs.declared.code.ClassUnit.{ClassUnit}
use Rattle.link_types.specs.declared.operands.MethodId.{MethodId}
use Rattle.op_core.specs.declared.Line.{Line}
use Rattle.op_core.specs.declared.MadeText.{MadeText}
use Rattle.op_core.specs.declared.ThreadEnd.{ThreadEnd}
use Rattle.op_core.specs.CleanCut.{kept_by}
use Rattle.op_core.specs.Execution.{printed}
use Rattle.op_core.specs.MadeTexts.{AreMadeTexts}
use Rattle.ordinary_runs.specs.ScheduledRun.{AreEnds}
use Rattle.java_rows.specs.Thread.{Local, java_code}
use Rattle.thread_automaton.specs.declared.Bounds.{Bounds}
use Rattle.core_law.specs.Erasure.{is_left_out}
use Rattle.word_runs.specs.WordTurns.{Progress}
use Rattle.word_texts.specs.Texts.{AreTextsOf}
use Rattle.sched_core.specs.Outcome.{AreEnds as AreEndsOfCore}
use Rattle.accepted_runs.specs.Runs.{AreErasedTurns}

-- The texts of the lines that the turns have printed, as they will be once each thread has undone what it has to, are the texts
-- after the execution that is left.
abbrev pub TurnsTellTexts : List ClassUnit → MethodId → Type 0
TurnsTellTexts us main = (b : Bounds) (last : Progress Local) → (turns : AreErasedTurns us main b last) → (lines : List Line) (made : List MadeText)
    → lines ≡ printed (kept_by (is_left_out turns.cores last.acts) turns.erased.erasure.entries) → AreTextsOf last.core lines made → AreMadeTexts turns.erased.erasure.last lines made

-- The threads that have ended in the turns, and no others, have ended after the execution that is left, each with an exception of
-- the same class, or with none.
abbrev pub TurnsTellEnds : List ClassUnit → MethodId → Type 0
TurnsTellEnds us main = (b : Bounds) (last : Progress Local) → (turns : AreErasedTurns us main b last) → (ends : List ThreadEnd) → AreEndsOfCore java_code last.core ends
    → AreEnds turns.erased.erasure.last ends
