-- What turns of one thread keep.
use Rattle.std.proofs.Common.{◌≡◌, ℕ, ◌+◌, ◌≤◌, Bool, true, false, None, Some, List, [], ◌∷◌, ◌++◌, length, refl, sym, ap, subst, arith}
use Rattle.std.specs.Prelude.{if◌then◌else◌}
use Rattle.op_core.specs.ThreadCode.{Code}
use Rattle.step_port.specs.declared.answer.StepAnswer.{StepAnswer}
use Rattle.step_port.specs.declared.step.Step.{Step}
use Rattle.step_port.specs.Steps.{effect_of}
use Rattle.step_port.specs.Words.{CanAnswer}
use Rattle.thread_automaton.specs.declared.Bounds.{Bounds}
use Rattle.thread_automaton.specs.declared.Move.TheVariants.{Make}
use Rattle.thread_automaton.specs.ThreadState.{ThreadState, is_open}
use Rattle.thread_automaton.specs.NextMove.{next_move}
use Rattle.thread_automaton.specs.Changes.{Change, sees_pinned, opens_level, closes_to, closes, goes_back, changed, forgotten}
use Rattle.thread_automaton.specs.Answers.{change_of}
use Rattle.thread_automaton.specs.Told.{Told, probed, advanced, born, lost, blocked, told, counted_for, after_answer, after_quiet}
use Rattle.automaton_rows.specs.Fits.{IsFit}
use Rattle.automaton_rows.proofs.FitLemmas.{answers_keep}
use Rattle.thread_moves.specs.Thread.{AreCounted}
use Rattle.rollback_core.proofs.CountLemmas.{answers_within, quiet_within}
use Rattle.rollback_core.proofs.TurnLemmas.{silent_steps_keep}
use Rattle.turn_runs.specs.Turns.{TurnMove, silent, made, Turns, StaysReady}
use Rattle.turn_runs.proofs.TurnLemmas.{joined}

-- ---- a thread's own count

module _ {S : Type 0} (code : Code S) where
  forgotten_counts : (th : ThreadState S) → (forgotten th).counted ≡ th.counted
  forgotten_counts th = by_test (is_open th)
    where
      by_test : (t : Bool) → (if t then th else record th { log = []; saved = []; marks = [] }).counted ≡ th.counted
      by_test true = refl
      by_test false = refl

  pub changed_counts : (th : ThreadState S) (change : Change) → (changed code th change).counted ≡ th.counted
  changed_counts th (sees_pinned depth attempt) = forgotten_counts (record th { pinned = depth; attempt = attempt })
  changed_counts th (opens_level attempt) = forgotten_counts _
  changed_counts th (closes_to n attempt) = forgotten_counts _
  changed_counts th closes = forgotten_counts _
  changed_counts th (goes_back n) = forgotten_counts _
  changed_counts th change = refl

  abbrev pub counted_by_told : Told → ℕ
  counted_by_told (advanced reply) = 1
  counted_by_told born = 1
  counted_by_told tells = 0

  pub told_counts : (tells : Told) (next : ThreadState S) → (counted_for tells next).counted ≡ next.counted + counted_by_told tells
  told_counts (advanced None) next = omega arith
  told_counts (advanced (Some reply)) next = omega arith
  told_counts born next = omega arith
  told_counts probed next = omega arith
  told_counts (lost v) next = omega arith
  told_counts (blocked why) next = omega arith

  pub told_counts_one : (tells : Told) → counted_by_told tells ≤ 1
  told_counts_one (advanced reply) = omega arith
  told_counts_one born = omega arith
  told_counts_one probed = omega arith
  told_counts_one (lost v) = omega arith
  told_counts_one (blocked why) = omega arith

-- ---- what turns keep

module _ {S P : Type 0} (code : Code S) (b : Bounds) (stepped : P → Step → StepAnswer → P → Type 0) where
  turns_keep : (Q : ThreadState S → Type 0) → ((th : ThreadState S) (l : S) → Q th → Q (after_quiet th l))
      → ((th : ThreadState S) (step : Step) (answer : StepAnswer) → Q th → next_move code b th ≡ Make step → CanAnswer (effect_of step) answer → Q (after_answer code b th step answer))
      → (moves : List TurnMove) (th last : ThreadState S) (x y : P) → Turns code b stepped th x moves last y → Q th → Q last
  turns_keep Q quiet answers [] th last x y turns has = subst Q (sym turns.0) has
  turns_keep Q quiet answers (silent ∷ moves) th last x y (l, is, steps, turns) has = turns_keep Q quiet answers moves (after_quiet th l) last x y turns (quiet th l has)
  turns_keep Q quiet answers (made next step answer tells ∷ moves) th last x y (z, wants, is, stepped_to, can, tells_is, turns) has =
      turns_keep Q quiet answers moves (after_answer code b th step answer) last z y turns (answers th step answer has is can)

  pub turns_fit : (moves : List TurnMove) (th last : ThreadState S) (x y : P) → Turns code b stepped th x moves last y → IsFit code th → IsFit code last
  turns_fit = turns_keep (IsFit code) (λ th l fits. silent_steps_keep code th l fits) (λ th step answer fits makes can. answers_keep code b th step answer fits makes can)

  pub turns_count : (moves : List TurnMove) (th last : ThreadState S) (x y : P) → Turns code b stepped th x moves last y → AreCounted th → AreCounted last
  turns_count = turns_keep AreCounted (λ th l are. quiet_within th l are) (λ th step answer are makes can. answers_within code b th step answer are)

  pub ready_on : (allows : P → Step → Type 0) (moves : List TurnMove) (th last : ThreadState S) (x y : P) → StaysReady code b allows stepped th x
      → Turns code b stepped th x moves last y → StaysReady code b allows stepped last y
  ready_on allows moves th last x y ready turns = λ others end z further. ready (moves ++ others) end z (joined code b stepped last end y z moves others th x turns further)

  -- .. and how many of them count
  pub counted_within : (moves : List TurnMove) (th last : ThreadState S) (x y : P) → Turns code b stepped th x moves last y
      → (th.counted ≤ last.counted) × (last.counted ≤ th.counted + length moves)
  counted_within [] th last x y turns = let same = ap (λ (th : ThreadState S). th.counted) turns.0 in (omega (arith, same), omega (arith, same))
  counted_within (silent ∷ moves) th last x y (l, is, steps, turns) =
      let within = counted_within moves (after_quiet th l) last x y turns in
      let low = within.0 in let high = within.1 in (omega (arith, low), omega (arith, high))
  counted_within (made next step answer tells ∷ moves) th last x y (z, wants, is, stepped_to, can, tells_is, turns) =
      let within = counted_within moves (after_answer code b th step answer) last z y turns in
      let low = within.0 in let high = within.1 in
      let change : Change = change_of code b th (code.next th.local) step answer in
      let counted = told_counts code (told code b th step answer) (changed code th change) in
      let kept = changed_counts code th change in
      let few = told_counts_one code (told code b th step answer) in (omega (arith, low, counted, kept), omega (arith, high, counted, kept, few))
