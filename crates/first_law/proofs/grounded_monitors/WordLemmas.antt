-- What becomes of the words of waits, and what they say of waits.
use Rattle.std.proofs.Common.{◌≡◌, ◌≢◌, ℕ, ◌<◌, ◌^◌, Bool, true, false, nat_eq, Some, refl, sym, ◌∙◌, ap, subst, arith}
use Rattle.std.specs.Prelude.{if◌then◌else◌}
use Rattle.std.proofs.lemmas.Grind.{common_steps}
use Rattle.std.proofs.lemmas.Bool.Decides.{nat_tests}
use Rattle.op_core.specs.OrdinaryState.{Waiting, awake, waits, notified, IsWaitingFor}
use Rattle.heap_words.specs.declared.areas.Area.{Area}
use Rattle.heap_words.specs.declared.words.WaitWord.TheVariants.{Waiting as waiting_word}
use Rattle.heap_words.specs.Words.{wait_word, wait_object, wait_state, wait_word_of}
use Rattle.step_port.specs.declared.step.Step.{Step}
use Rattle.step_port.specs.declared.step.Step.TheVariants.{SetWait, LoadWait, LoadThread, LoadStop, SetStop, LookMonitor, LookSection, BreakLevel}
use Rattle.step_port.specs.Steps.{place_of, effect_of}
use Rattle.step_port.specs.Words.{Words, put_at, words_after}
use Rattle.thread_automaton.specs.ThreadState.{ThreadState}
use Rattle.core_runs.specs.OwnParts.{is_beside}
use Rattle.core_runs.specs.Reading.{waiting_in}
use Rattle.section_laws.proofs.WordLemmas.{stays_at}
use Rattle.first_law.proofs.WaitLemmas.{object_in, state_in, object_low, waiting_some}

-- ---- steps

-- What a step makes of the wait word of thread u: it is recorded as waiting; or, where it has this word, as notified.
pub data WaitChange (w : Words) (step : Step) (u : ℕ) : Type 0 where
  stays : words_after step w (Area.Wait u) ≡ w (Area.Wait u) → WaitChange w step u
  records : (v : ℕ) → step ≡ SetWait u v → words_after step w (Area.Wait u) ≡ v → WaitChange w step u
  wakes : (old : ℕ) → step ≡ Step.Notify u old → w (Area.Wait u) ≡ old → words_after step w (Area.Wait u) ≡ wait_word (wait_object old) 2 → WaitChange w step u

same_number : (m n : ℕ) → nat_eq m n ≡ true → n ≡ m
same_number m n is = grind (arith, common_steps, nat_tests)

is_same : (n : ℕ) → nat_eq n n ≡ true
is_same n = grind (arith, common_steps, nat_tests)

pub wait_change : (w : Words) (step : Step) (u : ℕ) → WaitChange w step u
wait_change w (SetWait n v) u = by_test (nat_eq u n) refl
  where
    by_test : (t : Bool) → nat_eq u n ≡ t → WaitChange w (SetWait n v) u
    by_test true is = records v (ap (λ m. SetWait m v) (same_number u n is)) (ap (λ t. if t then v else w (Area.Wait u)) is)
    by_test false is = stays (ap (λ t. if t then v else w (Area.Wait u)) is)
wait_change w (Step.Notify n old) u = by_word (nat_eq (w (Area.Wait n)) old) refl
  where
    after : Bool → Words
    after t = if t then put_at w (Area.Wait n) (wait_word (wait_object old) 2) else w

    by_test : nat_eq (w (Area.Wait n)) old ≡ true → (t : Bool) → nat_eq u n ≡ t → WaitChange w (Step.Notify n old) u
    by_test found true is =
        let same : n ≡ u = same_number u n is in
        wakes old (ap (λ m. Step.Notify m old) same) (ap (λ m. w (Area.Wait m)) (sym same) ∙ sym (same_number (w (Area.Wait n)) old found))
        (ap (λ t. after t (Area.Wait u)) found ∙ ap (λ t. if t then wait_word (wait_object old) 2 else w (Area.Wait u)) is)
    by_test found false is = stays (ap (λ t. after t (Area.Wait u)) found ∙ ap (λ t. if t then wait_word (wait_object old) 2 else w (Area.Wait u)) is)

    by_word : (t : Bool) → nat_eq (w (Area.Wait n)) old ≡ t → WaitChange w (Step.Notify n old) u
    by_word true found = by_test found (nat_eq u n) refl
    by_word false found = stays (ap (λ t. after t (Area.Wait u)) found)
wait_change w (LoadWait n) u = stays refl
wait_change w (LoadThread which) u = stays refl
wait_change w step u = stays (stays_at (effect_of step) w (place_of step) (Area.Wait u) refl)

pub recorded : (w : Words) (u v : ℕ) → words_after (SetWait u v) w (Area.Wait u) ≡ v
recorded w u v = ap (λ t. if t then v else w (Area.Wait u)) (is_same u)

pub beside_wait : (step : Step) → is_beside step ≡ true → (w : Words) (u : ℕ) → words_after step w (Area.Wait u) ≡ w (Area.Wait u)
beside_wait LoadStop is w u = refl
beside_wait SetStop is w u = refl
beside_wait (LookMonitor r) is w u = refl
beside_wait (LookSection s) is w u = refl
beside_wait (BreakLevel s old level) is w u = stays_at (effect_of (BreakLevel s old level)) w (Area.Section s) (Area.Wait u) refl
beside_wait step is w u = cc

-- ---- what the words say

pub waiting_says : (r : ℕ) → r < 2 ^ 32 → (wait_object (wait_word_of (waiting_word r)) ≡ r) × (wait_state (wait_word_of (waiting_word r)) ≡ 1)
waiting_says r low = (object_in r 1 low, state_in r 1 low (omega arith))

pub woken_says : (old : ℕ) → (wait_object (wait_word (wait_object old) 2) ≡ wait_object old) × (wait_state (wait_word (wait_object old) 2) ≡ 2)
woken_says old = (object_in (wait_object old) 2 (object_low old), state_in (wait_object old) 2 (object_low old) (omega arith))

pub two_not_one : (n : ℕ) → n ≡ 2 → n ≢ 1
two_not_one n two one = no n two one
  where
    no : (n : ℕ) → n ≡ 2 → n ≡ 1 → ⊥
    no n two one = omega (arith, two, one)

zero_says : wait_state 0 ≡ 0
unfolding wait_state
zero_says = refl

pub zero_state : (w : ℕ) → w ≡ 0 → wait_state w ≢ 1
zero_state w none one = no (wait_state w) (ap wait_state none ∙ zero_says) one
  where
    no : (n : ℕ) → n ≡ 0 → n ≡ 1 → ⊥
    no n none one = omega (arith, none, one)

-- ---- who waits

-- what it says of a thread that it waits for an object
pub record Waits {S : Type 0} (r : ℕ) (th : ThreadState S) (w : ℕ) : Type 0 where
  pub some : 0 < th.depth
  pub object : wait_object w ≡ r
  pub state : wait_state w ≢ 2

abbrev reading : ℕ → ℕ → Bool → Bool → Waiting
reading w depth none told = if none then awake else if told then notified (wait_object w) depth else waits (wait_object w) depth

pub waits_parts : {S : Type 0} (r : ℕ) (th : ThreadState S) (w : ℕ) → IsWaitingFor r (waiting_in (Some th) w) → Waits r th w
waits_parts r th w is = by_tests (nat_eq th.depth 0) (nat_eq (wait_state w) 2) refl refl is
  where
    some_depth : (n : ℕ) → nat_eq n 0 ≡ false → 0 < n
    some_depth n is = grind (arith, common_steps, nat_tests)

    differs : (n : ℕ) → nat_eq n 2 ≡ false → n ≢ 2
    differs n is two = no n is two
      where
        no : (n : ℕ) → nat_eq n 2 ≡ false → n ≡ 2 → ⊥
        no n is two = grind (arith, common_steps, nat_tests)

    by_tests : (none told : Bool) → nat_eq th.depth 0 ≡ none → nat_eq (wait_state w) 2 ≡ told → IsWaitingFor r (reading w th.depth none told) → Waits r th w
    by_tests true told depth state is = absurd is
    by_tests false true depth state is = absurd is
    by_tests false false depth state is = record { some = some_depth th.depth depth; object = is; state = differs (wait_state w) state }

pub waits_so : {S : Type 0} (r : ℕ) (th : ThreadState S) (w : ℕ) → Waits r th w → IsWaitingFor r (waiting_in (Some th) w)
waits_so r th w is = subst (IsWaitingFor r) (sym (waiting_some th w is.some)) (by_test (nat_eq (wait_state w) 2) refl)
  where
    two : (n : ℕ) → nat_eq n 2 ≡ true → n ≡ 2
    two n is = grind (arith, common_steps, nat_tests)

    by_test : (told : Bool) → nat_eq (wait_state w) 2 ≡ told → IsWaitingFor r (if told then notified (wait_object w) th.depth else waits (wait_object w) th.depth)
    by_test true state = absurd (is.state (two (wait_state w) state))
    by_test false state = is.object
