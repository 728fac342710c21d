-- What a wait word says of its thread, as that goes on.
use Rattle.std.proofs.Common.{◌≡◌, ◌≢◌, inr, ℕ, ◌<◌, ◌^◌, true, List, refl, sym, ◌∙◌, ap, subst, arith}
use Rattle.op_core.specs.declared.Op.{Op}
use Rattle.op_core.specs.declared.Op.TheVariants.{Wait, Rewake, Print, InitDone, End}
use Rattle.op_core.specs.declared.Next.{Next}
use Rattle.op_core.specs.declared.Next.TheVariants.{Want}
use Rattle.op_core.specs.ThreadCode.{Code}
use Rattle.op_core.specs.Orderly.{IsRewake}
use Rattle.heap_words.specs.declared.words.WaitWord.TheVariants.{Waiting}
use Rattle.heap_words.specs.Words.{wait_word, wait_object, wait_state, wait_word_of}
use Rattle.step_port.specs.declared.answer.StepAnswer.{StepAnswer}
use Rattle.step_port.specs.declared.answer.StepAnswer.TheVariants.{Lost}
use Rattle.step_port.specs.declared.step.Step.{Step}
use Rattle.step_port.specs.declared.step.Step.TheVariants.{Release, LoadWait, Ticket, EndThread, Split}
use Rattle.step_port.specs.Steps.{effect_of}
use Rattle.step_port.specs.Words.{CanAnswer}
use Rattle.thread_automaton.specs.declared.Bounds.{Bounds}
use Rattle.thread_automaton.specs.declared.Held.{Held}
use Rattle.thread_automaton.specs.declared.Move.TheVariants.{Make}
use Rattle.thread_automaton.specs.declared.Attempt.{Attempt}
use Rattle.thread_automaton.specs.declared.Attempt.TheVariants.{Fixed}
use Rattle.thread_automaton.specs.ThreadState.{ThreadState, is_open}
use Rattle.thread_automaton.specs.NextMove.{own_pin, first_step, move_of}
use Rattle.thread_automaton.specs.Changes.{Change}
use Rattle.thread_automaton.specs.Answers.{is_waiting_for}
use Rattle.automaton_rows.specs.Fits.{FixedFits}
use Rattle.automaton_rows.specs.Rows.{Row, is_lost, handed_out}
use Rattle.automaton_rows.specs.Undoing.{is_held}
use Rattle.automaton_rows.proofs.RowLemmas.{by_if}
use Rattle.section_laws.proofs.level_marks.RowLemmas.{IsUndoing}
use Rattle.first_law.specs.Held.{StageHolds, WaitsHold}
use Rattle.first_law.proofs.run_monitors.StageLemmas.{fixed_by}
use Rattle.first_law.proofs.WaitLemmas.{notified_parts, notified_for}
use Rattle.first_law.specs.Waits.{HasLooked, IsGivingUp, WaitWordSays, looked_below}
use Rattle.first_law.proofs.grounded_monitors.WordLemmas.{woken_says, two_not_one}
use Rattle.first_law.proofs.grounded_monitors.TurnLemmas.{IsMarked, GivesUp}

-- ---- what the word says

-- a thread that neither is to take a monitor again nor is about to give one up isn't recorded as waiting
pub not_waiting : (next : Next) (g : Attempt) (v : ℕ) → WaitWordSays next g v → (IsRewake next → HasLooked g) → (GivesUp next g → ⊥) → wait_state v ≢ 1
not_waiting (Want (Rewake r)) g v says looked calm = two_not_one (wait_state v) (notified_parts r v (says.2 (looked tt))).1
not_waiting (Want (Wait r)) g v says looked calm = says.1 calm
not_waiting next g v says looked calm = says

pub says_new : (next : Next) (g : Attempt) (v : ℕ) → (IsRewake next → ⊥) → (IsGivingUp g → ⊥) → wait_state v ≢ 1 → WaitWordSays next g v
says_new (Want (Rewake r)) g v usual calm none = absurd (usual tt)
says_new (Want (Wait r)) g v usual calm none = (λ up. absurd (calm up), λ still. none)
says_new next g v usual calm none = none

pub says_on : (next : Next) (g h : Attempt) (v : ℕ) → WaitWordSays next g v → (GivesUp next g → ⊥) → (IsMarked next h → IsMarked next g) → WaitWordSays next h v
says_on (Want (Rewake r)) g h v says calm marked = (says.0, says.1, λ looked. says.2 (marked looked))
says_on (Want (Wait r)) g h v says calm marked = (λ up. absurd (calm (marked up)), λ still. says.1 calm)
says_on next g h v says calm marked = says

-- the word is set to notified
pub says_woken : (next : Next) (g : Attempt) (old v : ℕ) → WaitWordSays next g old → (GivesUp next g → ⊥) → v ≡ wait_word (wait_object old) 2 → WaitWordSays next g v
says_woken (Want (Rewake r)) g old v says calm is = (
  ap wait_object is ∙ (woken_says old).0 ∙ says.0,
  inr (ap wait_state is ∙ (woken_says old).1),
  λ looked. notified_for r v (ap wait_object is ∙ (woken_says old).0 ∙ says.0) (ap wait_state is ∙ (woken_says old).1),
)
says_woken (Want (Wait r)) g old v says calm is = (λ up. absurd (calm up), λ still. two_not_one (wait_state v) (ap wait_state is ∙ (woken_says old).1))
says_woken next g old v says calm is = two_not_one (wait_state v) (ap wait_state is ∙ (woken_says old).1)

-- one that is about to give a monitor up holds it, and is recorded as waiting for its object
pub record GivesUpHeld (next : Next) (held : List Held) (v : ℕ) : Type 0 where
  pub object : ℕ
  pub wants : next ≡ Want (Wait object)
  pub has : is_held object held ≡ true
  pub word : v ≡ wait_word_of (Waiting object)
  pub low : object < 2 ^ 32

pub gives_held : (section levels pinned : ℕ) (held : List Held) (next : Next) (g : Attempt) (v : ℕ) → StageHolds section levels pinned held next g → WaitWordSays next g v → GivesUp next g → GivesUpHeld next held v
gives_held section levels pinned held (Want (Wait q)) (Fixed (Release p)) v stage says up = let word = says.0 tt in record { object = q; wants = refl; has = stage; word = word.0; low = word.1 }
gives_held section levels pinned held (Want (Wait q)) g v stage says up = absurd up
gives_held section levels pinned held next g v stage says up = absurd up

-- one that gave a monitor up is to take it again
pub rewake_of : (level depth : ℕ) (held : List Held) (next : Next) → WaitsHold level depth held next → 0 < depth → (r : ℕ) × (next ≡ Want (Rewake r))
rewake_of level depth held (Want (Rewake r)) waits some = (r, refl)
rewake_of level depth held next waits some = absurd (no depth waits some)
  where
    no : (n : ℕ) → n ≡ 0 → 0 < n → ⊥
    no n none some = omega (arith, none, some)

-- a notify that has looked at a thread holds the monitor
pub look_holds : (section levels pinned : ℕ) (held : List Held) (r u : ℕ) (g : Attempt) → StageHolds section levels pinned held (Want (Op.Notify r)) g → u < looked_below g → is_held r held ≡ true
look_holds section levels pinned held r u (Fixed (LoadWait n)) stage below = stage
look_holds section levels pinned held r u (Fixed (Step.Notify n w)) stage below = stage
look_holds section levels pinned held r u g stage below = absurd (no u below)
  where
    no : (u : ℕ) → u < 0 → ⊥
    no u below = omega (arith, below)

-- ---- where the steps of a notify are made

abbrev IsNotify : Step → Type 0
IsNotify (Step.Notify n w) = Unit {0}
IsNotify step = ⊥

abbrev IsLoadWait : Step → Type 0
IsLoadWait (LoadWait n) = Unit {0}
IsLoadWait step = ⊥

pub split_low : {S : Type 0} (code : Code S) (b : Bounds) (th : ThreadState S) {next : Next} {step : Step} {a : StepAnswer} {change : Change} → Row code b th next step a change → CanAnswer (effect_of step) a
    → (n r p : ℕ) → step ≡ Split n r p → 0 < n
split_low code b th row can n r p is = subst Low is (low row can)
  where
    Low : Step → Type 0
    Low (Split n r p) = 0 < n
    Low step = Unit {0}

    lost : (step : Step) (v : ℕ) → CanAnswer (effect_of step) (Lost v) → Low step
    lost (Split n r p) v can = absurd can
    lost step v can = tt

    low : {next : Next} {step : Step} {a : StepAnswer} {change : Change} → Row code b th next step a change → CanAnswer (effect_of step) a → Low step
    low (is_lost {step = step} {v = v}) can = lost step v can
    low (handed_out shut some below) can = some
    low row can = tt

module _ {S : Type 0} (code : Code S) (th : ThreadState S) where
  first_none : (op : Op) → IsNotify (first_step code th op) → ⊥
  first_none (Print x) is = by_if (λ step. IsNotify step → ⊥) (is_open th) (own_pin th) Ticket (λ open_so none. none) (λ shut none. none) is
  first_none (InitDone c ok) is = by_if (λ step. IsNotify step → ⊥) (is_open th) (own_pin th) _ (λ open_so none. none) (λ shut none. none) is
  first_none (End x) is = by_if (λ step. IsNotify step → ⊥) (is_open th) (own_pin th) (EndThread th.number) (λ open_so none. none) (λ shut none. none) is
  first_none op is = is

  -- a thread is woken where that was fixed
  pub wakes_at : (next : Next) (g : Attempt) (n w : ℕ) → (IsUndoing g → ⊥) → move_of code th next g ≡ Make (Step.Notify n w) → g ≡ Fixed (Step.Notify n w)
  wakes_at next g n w calm makes = fixed_by code th IsNotify next g (Step.Notify n w) (λ s none. none) (λ op same. first_none op) (λ none same. none) calm tt makes

  -- and a notify looks where that was fixed
  pub looks_at : (r : ℕ) (g : Attempt) (n : ℕ) → (IsUndoing g → ⊥) → move_of code th (Want (Op.Notify r)) g ≡ Make (LoadWait n) → g ≡ Fixed (LoadWait n)
  looks_at r g n calm makes =
      fixed_by code th IsLoadWait (Want (Op.Notify r)) g (LoadWait n) (λ s none. none) (λ op same is. subst (λ o. IsLoadWait (first_step code th o)) (sym (ap (wanted (Op.Notify r)) same)) is)
      (λ none same. none) calm tt makes
    where
      wanted : Op → Next → Op
      wanted op (Want other) = other
      wanted op next = op

-- the notify that wakes a thread
pub record Wakes (next : Next) (w : ℕ) : Type 0 where
  pub object : ℕ
  pub wants : next ≡ Want (Op.Notify object)
  pub waits : is_waiting_for object w ≡ true

pub wakes_so : {S : Type 0} (th : ThreadState S) (next : Next) (n w : ℕ) → FixedFits th next (Step.Notify n w) → Wakes next w
wakes_so th (Want (Op.Notify r)) n w fits = record { object = r; wants = refl; waits = fits.3 }
wakes_so th next n w fits = absurd fits
