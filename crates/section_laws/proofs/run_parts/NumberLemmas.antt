-- The laws of the numbers of threads, from the facts on numbers along a run.
use Rattle.std.proofs.Common.{◌≡◌, ℕ, ◌<◌, ◌≤◌, List, ◌∷◌, sym, ◌∙◌, subst}
use Rattle.std.specs.Prelude.{Contains}
use Rattle.op_core.specs.ThreadCode.{Code}
use Rattle.heap_words.specs.declared.areas.Area.TheVariants.{Control}
use Rattle.step_port.specs.declared.answer.StepAnswer.{StepAnswer}
use Rattle.step_port.specs.declared.step.Step.TheVariants.{Split}
use Rattle.step_port.specs.Words.{Words}
use Rattle.thread_automaton.specs.declared.Bounds.{Bounds}
use Rattle.thread_automaton.specs.ThreadState.{ThreadState}
use Rattle.core_runs.specs.declared.Birth.{Birth}
use Rattle.core_runs.specs.WordRuns.{RunEntry, words_by, part_of}
use Rattle.core_runs.specs.OwnParts.{IsOwnPart, births}
use Rattle.section_laws.specs.Runs.{IsRunFrom}
use Rattle.section_laws.proofs.CoreRunLemmas.{StandsIn, run_facts}
use Rattle.section_laws.proofs.NumberLemmas.{number_at, number_made, split_above, Numbers, numbers_at}
use Rattle.section_laws.specs.NextSteps.{step_made}
use Rattle.section_laws.specs.PartNumbers.{NumbersAreSingle, HandedOutIsNew}

module _ {S : Type 0} (code : Code S) (b : Bounds) (first : Birth → ThreadState S) (main : Birth) (w : Words) (run : List RunEntry)
    (so : IsRunFrom code b first main w run) (low : main.number ≤ w (Control 4)) where
  numbers : Numbers code b first main w so.sections so.threads low run
  numbers = numbers_at code b first main w so.sections so.threads low run so.is_run

  single : (x y : Birth) → Contains (births main run) x → Contains (births main run) y → x.number ≡ y.number → x ≡ y
  single x y at there same = numbers.single x y at there same

  new : (x : Birth) (n r p : ℕ) (answer : StepAnswer) → IsOwnPart code b (first x) (step_made (Split n r p) answer ∷ part_of x.number run)
      → (y : Birth) → Contains (births main run) y → n ≡ y.number → ⊥
  new x n r p answer (then, (last, z, moves, own, quiet, makes)) y there same =
      let at : StandsIn code b run x.number z = record { start = first x; begins = so.threads x; behind = last; own = own; moves = moves; quiet = quiet } in
      let had : number_at z.attempt ≡ n = number_made code b z (Split n r p) makes.0 in
      let fits = ((run_facts code b first main w so.sections so.threads run so.is_run).fit x.number z at).attempt in
      let some : 0 < n = split_above code b z (words_by w run) n r p fits makes.0 in
      numbers.unbegun x.number z y at (subst (λ m. 0 < m) (sym had) some) there (sym same ∙ sym had)

pub numbers_are_single : {S : Type 0} (code : Code S) → NumbersAreSingle code
numbers_are_single code b first main w run so low x y at there same = single code b first main w run so low x y at there same

pub handed_out_is_new : {S : Type 0} (code : Code S) → HandedOutIsNew code
handed_out_is_new code b first main w run so low x at n r p answer own y there same = new code b first main w run so low x n r p answer own y there same
