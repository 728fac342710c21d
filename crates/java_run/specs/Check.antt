-- What the check of a journal against a program comes to.
use Rattle.std.specs.Prelude.{◌≡◌, ℕ, List, ◌++◌, map, Result, Ok, Err}
use Rattle.code_decode.specs.declared.code.ClassUnit.{ClassUnit}
use Rattle.interp_calls.specs.declared.java_code.JavaCode.{JavaCode}
use Rattle.interp_calls.specs.Local.{state_over}
use Rattle.op_core.specs.declared.MadeText.{MadeText}
use Rattle.op_core.specs.MadeTexts.{AreMadeTexts}
use Rattle.ordinary_machine.specs.Machine.{Machine}
use Rattle.journal_check.specs.Checked.{IsChecked}
use Rattle.journal_check.specs.Checking.{ChecksOn}
use Rattle.link_types.specs.declared.operands.MethodId.{MethodId}
use Rattle.java_rows.specs.Thread.{Local, java_code}
use Rattle.java_machine.specs.Lines.{line_bytes}
use Rattle.java_run.specs.declared.checking.JournalCheck.{JournalCheck}
use Rattle.java_run.specs.declared.checking.Checked.{Checked}
use Rattle.java_run.specs.declared.checking.Checked.TheVariants.{Execution, NotExecution}
use Rattle.java_words.specs.WordRun.{machine_at_start}

-- the local state of a thread's code over a program whose classes are known
abbrev pub state_in : {P : Type 0} → (P → List ClassUnit) → JavaCode P → Local
state_in units code = state_over (units code.program.now) code.thread code.frames code.texts code.text

-- what a check finds: the machine after the last event, or the line that shows that the text is the journal of no execution
abbrev pub Found : Type 0
Found = Result (Machine Local) ℕ

-- where these bytes come next and then the text ends, the check finds this
abbrev pub FindsOn : {P : Type 0} → (P → List ClassUnit) → JournalCheck P → List ℕ → Found → Type 0
FindsOn units check more found = ChecksOn java_code (state_in units) check.checking more found

-- what the check finds after a text is what the text comes to, from the start of the program on
abbrev pub Begins : {P : Type 0} → (P → List ClassUnit) → List ClassUnit → MethodId → JournalCheck P → Type 0
Begins units us main check = (text : List ℕ) (found : Found) → FindsOn units check text found → IsChecked java_code (machine_at_start us main) text found

-- what the new check finds after a text, the old one finds where these bytes come before the text
abbrev pub IsFed : {P : Type 0} → (P → List ClassUnit) → JournalCheck P → JournalCheck P → List ℕ → Type 0
IsFed units old new piece = (more : List ℕ) (found : Found) → FindsOn units new more found → FindsOn units old (piece ++ more) found

-- the lines that were printed up to the last machine, with the texts as it has them; or the line that shows that the text is
-- the journal of no execution
abbrev pub Shows : List ClassUnit → Found → Checked → Type 0
Shows us (Ok last) (Execution lines) = (made : List MadeText) × AreMadeTexts last.now last.now.lines made × (lines ≡ map (line_bytes us made) last.now.lines)
Shows us (Err n) (NotExecution line) = line ≡ n
Shows us _ _ = ⊥

-- what the check of a text comes to, where its events are to be an execution of the program of these classes, which begins
-- with a method
pub record IsCheckOf (us : List ClassUnit) (main : MethodId) (text : List ℕ) (checked : Checked) : Type 0 where
  pub found : Found
  pub is : IsChecked java_code (machine_at_start us main) text found
  pub shows : Shows us found checked
