-- Words and threads at one place of a run, with what no thread knows beside them.
use Rattle.std.specs.Prelude.{ℕ, ◌-◌, Option, Some, List, [], ◌∷◌, ◌++◌, length, drop}
use Rattle.op_core.specs.declared.Line.{Line}
use Rattle.op_core.specs.declared.Op.TheVariants.{New, Print}
use Rattle.op_core.specs.declared.Next.{Next}
use Rattle.op_core.specs.declared.Next.TheVariants.{Want}
use Rattle.op_core.specs.ThreadCode.{Code}
use Rattle.op_core.specs.OrdinaryState.{set_at, Object}
use Rattle.step_port.specs.declared.answer.StepAnswer.{StepAnswer}
use Rattle.step_port.specs.declared.answer.StepAnswer.TheVariants.{Done}
use Rattle.step_port.specs.declared.step.Step.{Step}
use Rattle.step_port.specs.declared.step.Step.TheVariants.{SetHeader, StartThread, Split, Ticket}
use Rattle.step_port.specs.Words.{Words, words_after}
use Rattle.thread_automaton.specs.declared.Bounds.{Bounds}
use Rattle.thread_automaton.specs.ThreadState.{ThreadState, first_state}
use Rattle.thread_automaton.specs.Changes.{Change, opens, opens_level, closes_to, closes, goes_back}
use Rattle.thread_automaton.specs.Answers.{change_of}
use Rattle.thread_automaton.specs.Told.{after_answer}

pub record Core (S : Type 0) : Type 0 where
  pub words : Words
  pub threads : ℕ → Option (ThreadState S)
  -- by thread: the local state in which it begins, once it is started; what is here stays once the thread is handed out
  pub starting : ℕ → Option S
  pub objects : ℕ → Option Object
  -- by thread: the places of the acts that opened the levels which it has open, the innermost first
  pub levels : ℕ → List ℕ
  -- printed so far, in order
  pub lines : List Line

-- What a step makes of each part. l is where its thread stood.
abbrev pub threads_by : {S : Type 0} → Code S → Step → S → (ℕ → Option (ThreadState S)) → ℕ → Option (ThreadState S)
threads_by code (Split n r p) l threads = set_at threads n (Some (first_state n p (code.child l r)))
threads_by code step l threads = threads

abbrev pub starting_by : {S : Type 0} → Code S → Step → StepAnswer → S → (ℕ → Option S) → ℕ → Option S
starting_by code (StartThread r n) Done l starting = set_at starting n (Some (code.child l r))
starting_by code step answer l starting = starting

abbrev pub objects_by : {S : Type 0} → Code S → Step → S → Next → (ℕ → Option Object) → ℕ → Option Object
objects_by code (SetHeader r w) l (Want (New c n)) objects = set_at objects r (Some (record { class = c; length = n; words = code.words l c n }))
objects_by code step l next objects = objects

-- the outermost n of the levels that are open
abbrev pub outermost : ℕ → List ℕ → List ℕ
outermost n levels = drop (length levels - n) levels

abbrev pub levels_by : ℕ → Change → List ℕ → List ℕ
levels_by k (opens s attempt) levels = k ∷ levels
levels_by k (opens_level attempt) levels = k ∷ levels
levels_by k (closes_to n attempt) levels = outermost n levels
levels_by k closes levels = []
levels_by k (goes_back n) levels = outermost (n - 1) levels
levels_by k change levels = levels

abbrev pub lines_by : Step → Next → List Line → List Line
lines_by Ticket (Want (Print x)) lines = lines ++ x ∷ []
lines_by step next lines = lines

-- the core once thread t, which was th, made the step as act number k, and this was answered
abbrev pub core_after : {S : Type 0} → Code S → Bounds → ℕ → Core S → ℕ → ThreadState S → Step → StepAnswer → Core S
core_after code b k c t th step answer = record {
  words = words_after step c.words;
  threads = threads_by code step th.local (set_at c.threads t (Some (after_answer code b th step answer)));
  starting = starting_by code step answer th.local c.starting;
  objects = objects_by code step th.local (code.next th.local) c.objects;
  levels = set_at c.levels t (levels_by k (change_of code b th (code.next th.local) step answer) (c.levels t));
  lines = lines_by step (code.next th.local) c.lines;
}
