-- What a turn counts.
use Rattle.std.proofs.Common.{◌≡◌, ℕ, ◌+◌, Bool, false, cond, Option, None, Some, List, [], ◌∷◌, ◌++◌, length, nat_eq, arith, refl, sym, ◌∙◌, ap, subst}
use Rattle.std.specs.Prelude.{filter}
use Rattle.op_core.specs.declared.Limit.{Limit}
use Rattle.op_core.specs.ThreadCode.{Code, quiet_step}
use Rattle.schedules.specs.declared.order.TurnEnd.{TurnEnd}
use Rattle.schedules.specs.declared.order.TurnEnd.TheVariants as ends
use Rattle.step_port.specs.declared.answer.StepAnswer.TheVariants.{Done}
use Rattle.step_port.specs.declared.step.Step.{Step}
use Rattle.step_port.specs.declared.step.Step.TheVariants.{OpenSection, MarkUndone}
use Rattle.step_port.specs.Steps.{kind_of}
use Rattle.step_port.specs.Words.{Words, answer_of}
use Rattle.thread_automaton.specs.declared.Attempt.{Attempt}
use Rattle.thread_automaton.specs.declared.Attempt.TheVariants.{Undoing}
use Rattle.thread_automaton.specs.declared.Bounds.{Bounds}
use Rattle.thread_automaton.specs.declared.Move.{Move}
use Rattle.thread_automaton.specs.declared.Move.TheVariants.{Over, Quiet, Stop, Make}
use Rattle.thread_automaton.specs.ThreadState.{ThreadState}
use Rattle.thread_automaton.specs.NextMove.{next_move}
use Rattle.thread_automaton.specs.Answers.{undone_at}
use Rattle.thread_automaton.specs.Told.{Told, lost, blocked, shown, told_of, told}
use Rattle.core_runs.specs.Acts.{quiet, did}
use Rattle.word_runs.specs.WordTurns as runs
use Rattle.word_runs.specs.WordTurns.{Progress, GivesQuiet, GivesBy, word_turns}
use Rattle.sched_core.specs.Counts.{is_opening, is_undoing, opened_in, undone_in}
use Rattle.sched_core.specs.ScheduledRun.{opens_by, undoes_by}
use Rattle.std.proofs.lemmas.List.{length-append}
use Rattle.std.proofs.lemmas.List.Elements.{filter-append}

pub one_more_counted : {A : Type 0} (test : A → Bool) (xs : List A) (x : A) → length (filter test (xs ++ x ∷ [])) ≡ length (filter test xs) + length (filter test (x ∷ []))
one_more_counted test xs x = ap length (filter-append test xs (x ∷ [])) ∙ length-append (filter test xs) (filter test (x ∷ []))

-- what is kept of a run by a turn that comes to this
pub record Counts {S : Type 0} (r : Progress S) (comes : TurnEnd) (next : Progress S) : Type 0 where
  pub keeps : next.keeps ≡ r.keeps
  pub opened : opened_in next.acts ≡ opened_in r.acts + opens_by comes
  pub undone : undone_in next.acts ≡ undone_in r.acts + undoes_by comes

same_counts : {S : Type 0} (r : Progress S) (comes : TurnEnd) → opens_by comes ≡ 0 → undoes_by comes ≡ 0 → Counts r comes r
same_counts r comes opens undoes = record { keeps = refl; opened = omega (arith, opens); undone = omega (arith, undoes) }

counts_as : {S : Type 0} (r : Progress S) (said comes : TurnEnd) (other next : Progress S) → comes ≡ said → next ≡ other → Counts r said other → Counts r comes next
counts_as r said comes other next is same counts = subst (λ e. Counts r e next) (sym is) (subst (λ n. Counts r said n) (sym same) counts)

-- a turn whose step isn't of the kind counts none
none_of : (step : Step) (tells : Told) (k : ℕ) → nat_eq (kind_of step) k ≡ false → (by : TurnEnd → ℕ) → ((kind : ℕ) → by (ends.Made kind) ≡ cond (nat_eq kind k) 1 0) → by ends.Other ≡ 0 → by ends.Blocked ≡ 0 → by (runs.end_of step tells) ≡ 0
none_of step (lost v) k isnt by made others waits = others
none_of step (blocked why) k isnt by made others waits = waits
none_of step tells k isnt by made others waits = made (kind_of step) ∙ ap (λ b. cond b 1 0) isnt

module _ {S : Type 0} (code : Code S) (b : Bounds) (t : ℕ) (th : ThreadState S) (w : Words) where
  abbrev comes_to : Step → TurnEnd
  comes_to step = runs.end_of step (told code b th step (answer_of w step))

  opening_counts : (step : Step) → length (filter is_opening (did t step (answer_of w step) ∷ [])) ≡ opens_by (comes_to step)
  opening_counts (OpenSection s word) = refl
  opening_counts step = sym (none_of step (told code b th step (answer_of w step)) 5 refl opens_by (λ kind. refl) refl refl)

  undone_comes : (s word : ℕ) (attempt : Attempt) → undoes_by (runs.end_of (MarkUndone s word) (told_of (code.next th.local) (MarkUndone s word) Done (undone_at attempt) (shown (undone_at attempt)))) ≡ 1
  undone_comes s word (Undoing x) = refl
  undone_comes s word attempt = refl

  undoing_counts : (step : Step) → length (filter is_undoing (did t step (answer_of w step) ∷ [])) ≡ undoes_by (comes_to step)
  undoing_counts (MarkUndone s word) = sym (undone_comes s word th.attempt)
  undoing_counts step = sym (none_of step (told code b th step (answer_of w step)) 10 refl undoes_by (λ kind. refl) refl refl)

quiet_counts : {S : Type 0} (r : Progress S) (t : ℕ) (th : ThreadState S) (quiet : Option S) (comes : TurnEnd) (next : Progress S) → GivesQuiet r t th quiet comes next → Counts r comes next
quiet_counts r t th (Some l) comes next (is, same) = counts_as r _ comes _ next is same
    (record { keeps = refl; opened = one_more_counted is_opening r.acts (quiet t); undone = one_more_counted is_undoing r.acts (quiet t) })
quiet_counts r t th None comes next (is, same) = counts_as r _ comes _ next is same (same_counts r _ refl refl)

move_counts : {S : Type 0} (code : Code S) (b : Bounds) (r : Progress S) (t : ℕ) (th : ThreadState S) (move : Move) (comes : TurnEnd) (next : Progress S) → GivesBy code b r t th move comes next → Counts r comes next
move_counts code b r t th Over comes next (is, same) = counts_as r _ comes _ next is same (same_counts r _ refl refl)
move_counts code b r t th (Stop limit) comes next (is, same) = counts_as r _ comes _ next is same (same_counts r _ refl refl)
move_counts code b r t th Quiet comes next gives = quiet_counts r t th (quiet_step code th.local) comes next gives
move_counts code b r t th (Make step) comes next (is, same) = counts_as r _ comes _ next is same
    (record {
      keeps = refl;
      opened = one_more_counted is_opening r.acts (did t step (answer_of r.core.words step)) ∙ ap (λ n. opened_in r.acts + n) (opening_counts code b t th r.core.words step);
      undone = one_more_counted is_undoing r.acts (did t step (answer_of r.core.words step)) ∙ ap (λ n. undone_in r.acts + n) (undoing_counts code b t th r.core.words step);
    })

pub turns_count : {S : Type 0} (code : Code S) (b : Bounds) (r : Progress S) (t : ℕ) (comes : TurnEnd) (next : Progress S) → (word_turns code b).gives r t comes next → Counts r comes next
turns_count code b r t comes next (th, stands, gives) = move_counts code b r t th (next_move code b th) comes next gives

-- a turn that meets a limit leaves all as it is
spent_quiet : {S : Type 0} (r : Progress S) (t : ℕ) (th : ThreadState S) (quiet : Option S) (limit : Limit) (next : Progress S) → GivesQuiet r t th quiet (ends.Spent limit) next → next ≡ r
spent_quiet r t th (Some l) limit next (is, same) = absurd (cc)
spent_quiet r t th None limit next (is, same) = same

spent_never : (step : Step) (tells : Told) (limit : Limit) → ends.Spent limit ≡ runs.end_of step tells → ⊥
spent_never step (lost v) limit is = cc
spent_never step (blocked why) limit is = cc
spent_never step tells limit is = cc

spent_by : {S : Type 0} (code : Code S) (b : Bounds) (r : Progress S) (t : ℕ) (th : ThreadState S) (move : Move) (limit : Limit) (next : Progress S) → GivesBy code b r t th move (ends.Spent limit) next → next ≡ r
spent_by code b r t th Over limit next (is, same) = same
spent_by code b r t th (Stop other) limit next (is, same) = same
spent_by code b r t th Quiet limit next gives = spent_quiet r t th (quiet_step code th.local) limit next gives
spent_by code b r t th (Make step) limit next (is, same) = absurd (spent_never step _ limit is)

pub spent_stays : {S : Type 0} (code : Code S) (b : Bounds) (r : Progress S) (t : ℕ) (limit : Limit) (next : Progress S) → (word_turns code b).gives r t (ends.Spent limit) next → next ≡ r
spent_stays code b r t limit next (th, stands, gives) = spent_by code b r t th (next_move code b th) limit next gives
