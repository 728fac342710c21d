-- How each answer ends.
use Rattle.std.proofs.Common.{◌≡◌, inl, inr, ℕ, List, ◌||◌, length, Bool, true, false, Option, refl, ◌∙◌, ap}
use Rattle.op_core.specs.declared.How.{How}
use Rattle.op_core.specs.declared.How.TheVariants as how
use Rattle.op_core.specs.declared.Limits.{Limits}
use Rattle.schedules.specs.declared.order.Schedule.{Schedule}
use Rattle.java_run.specs.Run.{status_of}
use Rattle.java_run.specs.declared.checking.Checked.{Checked}
use Rattle.java_run.specs.declared.checking.Checked.TheVariants.{Execution, NotExecution}
use Rattle.program_accept.specs.Accepted.{Accepted}
use Rattle.program_answers.specs.declared.status.Status.{Status}
use Rattle.program_answers.specs.declared.answer.Answer.{Answer}
use Rattle.encoded_texts.specs.Encoded.{encoded_text}
use Rattle.stress_texts.specs.Classes.{stress_names}
use Rattle.stress_texts.specs.declared.classes.TheConstants.{STRESS_MAIN}
use Rattle.command_answers.specs.Answers.{IsJudged, IsRefusal, Counts, Runs, RunsHosted, Traces, Checks, checked_answer, IsMade, IsMigrated, IsStressed, RunsTwice, seeded, stress_limits}
use Rattle.command_answers.specs.Ends.{is_of_program, is_of_run, is_of_text, is_of_journal}

pub ends-as : (test : Status → Bool) (answer known : Answer) → answer ≡ known → test known.status ≡ true → test answer.status ≡ true
ends-as test answer known same is = ap (λ (a : Answer). test a.status) same ∙ is

of_how : (how : How) → is_of_run (status_of how) ≡ true
of_how how.Done = refl
of_how how.Died = refl
of_how how.Stuck = refl
of_how (how.Limit t limit) = refl

or_right : (a b : Bool) → b ≡ true → a || b ≡ true
or_right true b is = refl
or_right false b is = is

or_left : (a b : Bool) → a ≡ true → a || b ≡ true
or_left a b is = ap (λ x. x || b) is

pub ran : (schedule : Schedule) (limits : Limits) (counts : Bool) (count : ℕ) (program : Accepted) (answer : Answer) → Runs schedule limits counts count program answer → is_of_run answer.status ≡ true
ran schedule limits counts count program answer is = ap (λ (a : Answer). is_of_run a.status) is.answered ∙ of_how is.outcome.how

pub ran_hosted : (limits : Limits) (counts : Bool) (count : ℕ) (program : Accepted) (answer : Answer) → RunsHosted limits counts count program answer → is_of_run answer.status ≡ true
ran_hosted limits counts count program answer is = ap (λ (a : Answer). is_of_run a.status) is.answered ∙ of_how is.outcome.how

pub traced : (schedule : Schedule) (limits : Limits) (count : ℕ) (program : Accepted) (answer : Answer) → Traces schedule limits count program answer → is_of_run answer.status ≡ true
traced schedule limits count program answer is = ap (λ (a : Answer). is_of_run a.status) is.answered ∙ of_how is.outcome.how

of_checked : (checked : Checked) → is_of_journal (checked_answer checked).status ≡ true
of_checked (Execution lines) = refl
of_checked (NotExecution number) = refl

pub checks : (input : Option (List ℕ)) (count : ℕ) (program : Accepted) (answer : Answer) → Checks input count program answer → is_of_journal answer.status ≡ true
checks input count program answer (text, checked, read, is, same) = ap (λ (a : Answer). is_of_journal a.status) same ∙ of_checked checked

refused_as : (main : List ℕ) (names files : List (List ℕ)) (answer : Answer) → IsRefusal main names files answer → is_of_program answer.status ≡ true
refused_as main names files answer (inl none) = ends-as is_of_program answer _ none.1 refl
refused_as main names files answer (inr refusal) = ends-as is_of_program answer _ refusal.2 refl

pub counted : (main : List ℕ) (names files : List (List ℕ)) (answer : Answer) → IsJudged Counts main names files answer → is_of_program answer.status ≡ true
counted main names files answer (inl program) = ends-as is_of_program answer _ program.2 refl
counted main names files answer (inr refusal) = refused_as main names files answer refusal

-- of a program that something is done with, whose answers end so
pub judged_as : (test : Status → Bool) (answers : ℕ → Accepted → Answer → Type 0) → ((count : ℕ) (program : Accepted) (answer : Answer) → answers count program answer → test answer.status ≡ true)
    → (main : List ℕ) (names files : List (List ℕ)) (answer : Answer) → IsJudged answers main names files answer → test answer.status || is_of_program answer.status ≡ true
judged_as test answers ends main names files answer (inl program) = or_left _ _ (ends (length files) program.0 answer program.2)
judged_as test answers ends main names files answer (inr refusal) = or_right _ _ (refused_as main names files answer refusal)

pub made : (text : List ℕ) (answer : Answer) → IsMade text answer → is_of_text answer.status ≡ true
made text answer (inl bytes) = ends-as is_of_text answer _ bytes.2 refl
made text answer (inr number) = ends-as is_of_text answer _ number.2 refl

pub migrated : (text : List ℕ) (answer : Answer) → IsMigrated text answer → is_of_journal answer.status ≡ true
migrated text answer (inl (read, is, same)) = ends-as is_of_journal answer _ same refl
migrated text answer (inr (fault, is, same)) = ends-as is_of_journal answer _ same refl

two_runs : (number count : ℕ) (program : Accepted) (answer : Answer) → RunsTwice number count program answer → is_of_run answer.status ≡ true
two_runs number count program answer (first, runs, inl (well, second, again, same)) =
    ap (λ (a : Answer). is_of_run a.status) same ∙ ran_hosted stress_limits false count program second again
two_runs number count program answer (first, runs, inr (other, same)) =
    ap (λ (a : Answer). is_of_run a.status) same ∙ ran (seeded number) stress_limits false count program first runs

pub stressed : (number : ℕ) (answer : Answer) → IsStressed number answer → is_of_run answer.status || is_of_program answer.status ≡ true
stressed number answer (files, are, judged) =
    judged_as is_of_run (RunsTwice number) (two_runs number) (encoded_text STRESS_MAIN.now) stress_names files answer judged
