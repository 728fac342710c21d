-- What wait words and depths say of waits.
use Rattle.std.proofs.Common.{◌≡◌, ℕ, ◌<◌, ◌^◌, nat_eq, true, false, Some, ◌∙◌, ap, arith}
use Rattle.std.specs.Prelude.{if◌then◌else◌}
use Rattle.std.proofs.lemmas.Grind.{common_steps}
use Rattle.std.proofs.lemmas.Bool.Decides.{nat_tests}
use Rattle.op_core.specs.OrdinaryState.{awake, waits, notified}
use Rattle.heap_words.specs.Words.{wait_word, wait_object, wait_state}
use Rattle.thread_automaton.specs.ThreadState.{ThreadState}
use Rattle.thread_automaton.specs.Answers.{is_notified_for, is_waiting_for}
use Rattle.core_runs.specs.Reading.{waiting_in}

pub object_in : (r s : ℕ) → r < 2 ^ 32 → wait_object (wait_word r s) ≡ r
unfolding wait_object wait_word
object_in r s low = omega (arith, low)

pub state_in : (r s : ℕ) → r < 2 ^ 32 → s < 4 → wait_state (wait_word r s) ≡ s
unfolding wait_state wait_word
state_in r s low few = omega (arith, low, few)

pub object_low : (w : ℕ) → wait_object w < 2 ^ 32
unfolding wait_object
object_low w = omega arith

some_depth : (n : ℕ) → 0 < n → nat_eq n 0 ≡ false
some_depth n some = grind (arith, common_steps, nat_tests)

-- a thread that gave up no monitor doesn't wait
pub waiting_none : {S : Type 0} (th : ThreadState S) (w : ℕ) → th.depth ≡ 0 → waiting_in (Some th) w ≡ awake
waiting_none th w none = ap (λ d. if nat_eq d 0 then awake else if nat_eq (wait_state w) 2 then notified (wait_object w) d else waits (wait_object w) d) none

-- of one that did the state says whether it was notified
pub waiting_some : {S : Type 0} (th : ThreadState S) (w : ℕ) → 0 < th.depth → waiting_in (Some th) w ≡ (if nat_eq (wait_state w) 2 then notified (wait_object w) th.depth else waits (wait_object w) th.depth)
waiting_some th w some = ap (λ t. if t then awake else if nat_eq (wait_state w) 2 then notified (wait_object w) th.depth else waits (wait_object w) th.depth) (some_depth th.depth some)

pub notified_parts : (r w : ℕ) → is_notified_for r w ≡ true → (wait_object w ≡ r) × (wait_state w ≡ 2)
notified_parts r w is = (object r w is, state r w is)
  where
    object : (r w : ℕ) → is_notified_for r w ≡ true → wait_object w ≡ r
    object r w is = grind (arith, common_steps, nat_tests)

    state : (r w : ℕ) → is_notified_for r w ≡ true → wait_state w ≡ 2
    state r w is = grind (arith, common_steps, nat_tests)

pub waiting_parts : (r w : ℕ) → is_waiting_for r w ≡ true → (wait_object w ≡ r) × (wait_state w ≡ 1)
waiting_parts r w is = (object r w is, state r w is)
  where
    object : (r w : ℕ) → is_waiting_for r w ≡ true → wait_object w ≡ r
    object r w is = grind (arith, common_steps, nat_tests)

    state : (r w : ℕ) → is_waiting_for r w ≡ true → wait_state w ≡ 1
    state r w is = grind (arith, common_steps, nat_tests)

pub waiting_for : (r w : ℕ) → wait_object w ≡ r → wait_state w ≡ 1 → is_waiting_for r w ≡ true
waiting_for r w object state = grind (arith, common_steps, nat_tests)

pub notified_for : (r w : ℕ) → wait_object w ≡ r → wait_state w ≡ 2 → is_notified_for r w ≡ true
notified_for r w object state = grind (arith, common_steps, nat_tests)

pub notified_is : {S : Type 0} (th : ThreadState S) (w r : ℕ) → 0 < th.depth → is_notified_for r w ≡ true → waiting_in (Some th) w ≡ notified r th.depth
notified_is th w r some is =
    let parts = notified_parts r w is in
    waiting_some th w some ∙ ap (λ s. if nat_eq s 2 then notified (wait_object w) th.depth else waits (wait_object w) th.depth) parts.1 ∙ ap (λ o. notified o th.depth) parts.0

pub waiting_is : {S : Type 0} (th : ThreadState S) (w r : ℕ) → 0 < th.depth → wait_object w ≡ r → wait_state w ≡ 1 → waiting_in (Some th) w ≡ waits r th.depth
waiting_is th w r some object state =
    waiting_some th w some ∙ ap (λ s. if nat_eq s 2 then notified (wait_object w) th.depth else waits (wait_object w) th.depth) state ∙ ap (λ o. waits o th.depth) object
