-- What a turn in memory tells is what its step tells.
use Rattle.std.proofs.Common.{◌≡◌, ℕ, suc, Bool, true, false, None, Some, List, [], ◌∷◌, ◌++◌, refl, ◌∙◌, ap, arith}
use Rattle.std.specs.Prelude.{Result, Ok, Err, OnOk, nat_eq, nat_lt, if◌then◌else◌}
use Rattle.std.proofs.lemmas.Bool.{leb-true}
use Rattle.op_core.specs.declared.NoMemory.{NoMemory}
use Rattle.op_core.specs.declared.Next.{Next}
use Rattle.op_core.specs.declared.Next.TheVariants.{Silent, Want, Ended}
use Rattle.op_core.specs.ThreadCode.{Code}
use Rattle.step_port.specs.declared.answer.StepAnswer.{StepAnswer}
use Rattle.step_port.specs.declared.step.Step.{Step}
use Rattle.step_port.specs.declared.step.Step.TheVariants.{RestoreWord, MarkUndone}
use Rattle.step_port.specs.Steps.{kind_of}
use Rattle.thread_automaton.specs.declared.Bounds.{Bounds}
use Rattle.thread_automaton.specs.ThreadState.{ThreadState}
use Rattle.thread_automaton.specs.Told.{Told, probed, advanced, born, lost, blocked, told, after_answer}
use Rattle.journal_rows.specs.Told.{RowCall, RowsTold, opens_a_level, closes_levels, puts_word_back, undoes_levels_to, after_row_call, after_row_calls}
use Rattle.core_law.specs.RunCalls.{open_or_close_calls}
use Rattle.core_law.specs.Calls.{reply_calls, shown_calls, depth_calls, step_calls}
use Rattle.word_machine.specs.declared.told_turn.ToldTurn.{ToldTurn}
use Rattle.word_machine.specs.ToldTurn.{event_seen, ShowsStep, ShowsNoStep}
use Rattle.traced_runs.specs.Calls.{calls_of_event, calls_of_shown, calls_of_levels, calls_of_turn}

pub calls_append : (later first : List RowCall) (s : RowsTold) → after_row_calls (later ++ first) s ≡ after_row_calls later (after_row_calls first s)
calls_append [] first s = refl
calls_append (call ∷ later) first s = ap (after_row_call call) (calls_append later first s)

pub on_ok : {A : Type 0} {P Q : Type 0} (result : Result A NoMemory) → (P → Q) → OnOk result P → OnOk result Q
on_ok (Ok x) gives has = gives has
on_ok (Err e) gives has = has

-- ---- of a step

seen_calls : (t silents : ℕ) (next : Next) (tells : Told) → calls_of_event (event_seen t silents tells next) ≡ reply_calls t silents next tells
seen_calls t silents (Want op) probed = refl
seen_calls t silents (Want op) (advanced None) = refl
seen_calls t silents (Want op) (advanced (Some reply)) = refl
seen_calls t silents (Want op) born = refl
seen_calls t silents (Want op) (lost v) = refl
seen_calls t silents (Want op) (blocked why) = refl
seen_calls t silents Silent probed = refl
seen_calls t silents Silent (advanced None) = refl
seen_calls t silents Silent (advanced (Some reply)) = refl
seen_calls t silents Silent born = refl
seen_calls t silents Silent (lost v) = refl
seen_calls t silents Silent (blocked why) = refl
seen_calls t silents Ended probed = refl
seen_calls t silents Ended (advanced None) = refl
seen_calls t silents Ended (advanced (Some reply)) = refl
seen_calls t silents Ended born = refl
seen_calls t silents Ended (lost v) = refl
seen_calls t silents Ended (blocked why) = refl

abbrev by_restore : ℕ → List RowCall → ℕ → List RowCall
by_restore t calls kind = if nat_eq kind 3 then puts_word_back t ∷ [] else calls

restore_calls : (t silents : ℕ) (next : Next) (step : Step) (tells : Told) → by_restore t (reply_calls t silents next tells) (kind_of step) ≡ shown_calls t silents next step tells
restore_calls t silents next (RestoreWord at old) tells = refl
restore_calls t silents next step tells = refl

abbrev by_mark : ℕ → ℕ → ℕ → ℕ → List RowCall
by_mark t n m kind = if nat_eq kind 10 then undoes_levels_to t m ∷ [] else open_or_close_calls t n m

mark_calls : (t n m : ℕ) (step : Step) → by_mark t n m (kind_of step) ≡ depth_calls t n m step
mark_calls t n m (MarkUndone s w) = refl
mark_calls t n m step = refl

module _ {S : Type 0} (code : Code S) (b : Bounds) (t : ℕ) (th : ThreadState S) (turn : ToldTurn) (step : Step) (a : StepAnswer) (shows : ShowsStep code b t th turn step a) where
  abbrev y : ThreadState S
  y = after_answer code b th step a

  shown_is : calls_of_shown t turn ≡ shown_calls t th.silents (code.next th.local) step (told code b th step a)
  shown_is = ap (by_restore t (calls_of_event turn.event)) shows.kind ∙ ap (λ e. by_restore t (calls_of_event e) (kind_of step)) shows.event
      ∙ ap (λ calls. by_restore t calls (kind_of step)) (seen_calls t th.silents (code.next th.local) (told code b th step a))
      ∙ restore_calls t th.silents (code.next th.local) step (told code b th step a)

  levels_is : calls_of_levels t turn ≡ depth_calls t th.levels y.levels step
  levels_is = ap (by_mark t turn.levels_before turn.levels_after) shows.kind ∙ ap (λ n. by_mark t n turn.levels_after (kind_of step)) shows.before
      ∙ ap (λ m. by_mark t th.levels m (kind_of step)) shows.after ∙ mark_calls t th.levels y.levels step

  pub step_tells : calls_of_turn t turn ≡ step_calls t th (code.next th.local) step (told code b th step a) y
  step_tells = ap (λ calls. calls ++ calls_of_shown t turn) levels_is ∙ ap (λ calls. depth_calls t th.levels y.levels step ++ calls) shown_is

-- ---- of none

pub none_moved : (t n : ℕ) → open_or_close_calls t n n ≡ []
none_moved t n = ap (λ test. if test then opens_a_level t ∷ [] else if test then closes_levels t n ∷ [] else []) (never (nat_lt n n) refl)
  where
    never : (test : Bool) → nat_lt n n ≡ test → nat_lt n n ≡ false
    never true is = let low = leb-true (suc n) n is in absurd (omega (arith, low))
    never false is = is

pub no_step_tells : (t : ℕ) (turn : ToldTurn) → ShowsNoStep turn → calls_of_turn t turn ≡ []
no_step_tells t turn shows = ap (λ calls. calls ++ calls_of_shown t turn) (ap (by_mark t turn.levels_before turn.levels_after) shows.kind
    ∙ ap (λ m. open_or_close_calls t turn.levels_before m) shows.levels ∙ none_moved t turn.levels_before)
    ∙ ap (by_restore t (calls_of_event turn.event)) shows.kind ∙ ap calls_of_event shows.event
