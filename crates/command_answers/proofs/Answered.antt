-- Answers of runs.
use Rattle.std.proofs.Common.{◌≡◌, inl, inr, true, false, ap, refl, ℕ, List, sym, ◌∙◌, subst}
use Rattle.program_answers.specs.declared.answer.Answer.{Answer}
use Rattle.accepted_runs.specs.Programs.{IsOfFiles}
use Rattle.program_answers.specs.declared.status.Status.{Status}
use Rattle.program_answers.specs.declared.status.Status.TheVariants as statuses
use Rattle.command_answers.specs.Answers.{AreProgram, ComeTo, Runs, RunsHosted, RunsTwice, first_answer, second_answer, seeded, stress_limits}
use Rattle.command_answers.specs.Ends.{is_done}
use Rattle.file_answers.specs.declared.loading.Judged.{Judged}
use Rattle.file_answers.specs.declared.loading.Judged.TheVariants as judged
use Rattle.program_accept.specs.Accepted.{Accepted}

-- a program to which class files come is one of these files
pub of_files : (main : List ℕ) (names files : List (List ℕ)) (came : Judged) (program : Accepted) → ComeTo main names files came → came ≡ judged.Program program → IsOfFiles program
of_files main names files came program come is =
    let are : AreProgram main files program = subst (ComeTo main names files) is come in
    (files, main, are.is)

done_is : (status : Status) → is_done status ≡ true → status ≡ statuses.Done
done_is statuses.Done is = refl
done_is statuses.Died is = cc
done_is statuses.Usage is = cc
done_is statuses.Refused is = cc
done_is statuses.NoMain is = cc
done_is statuses.Stuck is = cc
done_is statuses.Limit is = cc
done_is statuses.ReadFault is = cc
done_is statuses.WriteFault is = cc
done_is statuses.Memory is = cc
done_is (statuses.NotExecution n) is = cc
done_is (statuses.MakeRefused n) is = cc

-- two runs of the program of a number, or one
pub ran_twice : (number count : ℕ) (program : Accepted) (first second answer : Answer) → Runs (seeded number) stress_limits false count program first → is_done first.status ≡ true
    → RunsHosted stress_limits false count program second → answer ≡ second_answer first second → RunsTwice number count program answer
ran_twice number count program first second answer runs well again is = (first, runs, inl (done_is first.status well, second, again, is))

pub ran_once : (number count : ℕ) (program : Accepted) (first answer : Answer) → Runs (seeded number) stress_limits false count program first → is_done first.status ≡ false
    → answer ≡ first_answer first → RunsTwice number count program answer
ran_once number count program first answer runs ill is = (first, runs, inr (λ well. not_done (sym (ap is_done well) ∙ ill), is))
  where
    not_done : true ≡ false → ⊥
    not_done e = cc
