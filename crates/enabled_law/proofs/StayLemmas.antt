-- A thread that isn't enabled, and is between two attempts, doesn't go on alone.
use Rattle.std.proofs.Common.{◌≡◌, ℕ, zero, suc, ◌+◌, ◌<◌, arith, ◌||◌, ◌&&◌, not, Bool, true, false, nat_eq, refl, sym, ◌∙◌, ap}
use Rattle.std.specs.Prelude.{nat_le, if◌then◌else◌}
use Rattle.std.proofs.lemmas.Grind.{common_steps}
use Rattle.std.proofs.lemmas.Bool.Decides.{nat_tests}
use Rattle.std.proofs.lemmas.Bool.{and_parts, or_parts, not-true, eqb-true}
use Rattle.op_core.specs.declared.Op.{Op}
use Rattle.op_core.specs.declared.Op.TheVariants.{Read, Write, Enter, Rewake, Join, Init}
use Rattle.op_core.specs.declared.Next.{Next}
use Rattle.op_core.specs.declared.Reply.{Reply}
use Rattle.op_core.specs.declared.Reply.TheVariants.{Value, Ready, Bad}
use Rattle.op_core.specs.declared.Next.TheVariants.{Silent, Want, Ended}
use Rattle.op_core.specs.ThreadCode.{Code}
use Rattle.heap_words.specs.declared.areas.Area.TheVariants.{Section, Thread, Wait, Class, Object}
use Rattle.heap_words.specs.Words.{tag_of, tag_section, tag_level, value_of, class_state, class_thread, wait_state}
use Rattle.section_state.specs.declared.State.TheVariants.{Live, Revoking, Undone}
use Rattle.section_state.specs.SectionWord.{state_of, pinned_of}
use Rattle.monitor_core.specs.declared.Why.{Why}
use Rattle.monitor_core.specs.declared.Why.TheVariants.{NotNotified, ClassBusy, Alive, WordRevoking}
use Rattle.monitor_core.specs.declared.Contend.{Contend}
use Rattle.monitor_core.specs.declared.Contend.TheVariants.{Free, Own, Busy}
use Rattle.monitor_core.specs.Contention.{is_in, contend_with, contend_for}
use Rattle.monitor_core.specs.Monitors.{monitor_section, monitor_level, is_own}
use Rattle.step_port.specs.declared.step.ThreadWord.{ThreadWord}
use Rattle.step_port.specs.declared.answer.StepAnswer.TheVariants.{Found}
use Rattle.step_port.specs.declared.step.Step.TheVariants.{LoadWord, SwapWord, LoadSection, LoadMonitor, LoadThread, LoadWait, LoadClass}
use Rattle.step_port.specs.Words.{Words}
use Rattle.thread_automaton.specs.declared.Bounds.{Bounds}
use Rattle.op_core.specs.declared.Limit.TheVariants.{Turns}
use Rattle.thread_automaton.specs.declared.Move.TheVariants.{Over, Stop, Make}
use Rattle.thread_automaton.specs.declared.Attempt.{Attempt}
use Rattle.thread_automaton.specs.declared.Attempt.TheVariants.{Begin, Look, Checked, Fixed, Meets}
use Rattle.thread_automaton.specs.ThreadState.{ThreadState, is_open}
use Rattle.thread_automaton.specs.NextMove.{word_place, first_step, move_of, next_move}
use Rattle.thread_automaton.specs.Changes.{Change, goes, has_to_wait, replies, sees_pinned}
use Rattle.thread_automaton.specs.Checks.{is_safe, written_word, own_seen, met, holder_seen, tag_seen, section_loaded, if_safe, meets_writer, writer_seen, to_pin}
use Rattle.thread_automaton.specs.Monitors.{entering, entering_free, entering_own}
use Rattle.thread_automaton.specs.Answers.{is_notified_for, change_of}
use Rattle.word_runs.specs.Enabled.{is_busy, is_monitor_busy, is_being_undone, is_waiting, has_to_wait_for, has_to_undo}
use Rattle.automaton_rows.proofs.RowLemmas.{by_if}
use Rattle.enabled_law.specs.TurnsAlone.{goes_on_by, goes_on_in}
use Rattle.section_laws.proofs.WordLemmas.{state_of_zero}
use Rattle.section_laws.proofs.SectionLemmas.{zero_no_section}
use Rattle.enabled_law.specs.Laws.{IsBetweenAttempts, OthersStay}
use Rattle.enabled_law.proofs.TurnLemmas.{made_of, turn_is, moves_so, begin_sees, look_sees}

-- ---- tests

from_false : {A : Type 0} (x : Bool) → x ≡ true → x ≡ false → A
from_false true is isnt = cc
from_false false is isnt = cc

or_right_of : (x y : Bool) → (x || y) ≡ true → x ≡ false → y ≡ true
or_right_of true y some none = cc
or_right_of false y some none = some

not_false : (x : Bool) → not x ≡ false → x ≡ true
not_false true is = refl
not_false false is = cc

is_room : (most n : ℕ) → n < most → nat_le most n ≡ false
is_room most n below = grind (arith, common_steps, nat_tests)

-- a word that was never set is in no state
zero_calm : is_in Revoking 0 ≡ false
zero_calm = ap (λ n. nat_eq n 3) state_of_zero

busy_is : (c : Contend) → is_busy c ≡ true → (why : Why) × (c ≡ Busy why)
busy_is (Busy why) is = (why, refl)
busy_is Free is = cc
busy_is Own is = cc
busy_is (Contend.Revoke n) is = cc

-- a monitor that is another's
record IsOthers (m s own priority : ℕ) : Type 0 where
  some : nat_eq m 0 ≡ false
  other : is_own m own ≡ false
  why : Why
  busy : contend_with s (monitor_level m) priority ≡ Busy why

others : (m s own priority : ℕ) → is_busy (contend_for m s own priority) ≡ true → IsOthers m s own priority
others m s own priority =
    by_if (λ c. is_busy c ≡ true → IsOthers m s own priority) (nat_eq m 0) Free (if is_own m own then Own else contend_with s (monitor_level m) priority)
    (λ free is. cc)
    (λ some. by_if (λ c. is_busy c ≡ true → IsOthers m s own priority) (is_own m own) Own (contend_with s (monitor_level m) priority)
    (λ own is. cc)
    (λ other is. let why = busy_is (contend_with s (monitor_level m) priority) is in record { some = some; other = other; why = why.0; busy = why.1 }))

-- a section that is revoking is in no other state
revoking_is : (x n : ℕ) → is_in Revoking x ≡ true → nat_eq 3 n ≡ false → nat_eq (state_of x) n ≡ false
revoking_is x n is isnt = ap (λ k. nat_eq k n) (eqb-true (state_of x) 3 is) ∙ isnt

module _ {S : Type 0} (code : Code S) (b : Bounds) (w : Words) where
  -- what is so of the thread all the while
  record Stays (th : ThreadState S) (next : Next) (attempt : Attempt) : Type 0 where
    does : code.next th.local ≡ next
    at : th.attempt ≡ attempt
    live : th.over ≡ false
    room : nat_le b.limits.turns th.counted ≡ false
    own : is_in Revoking (w (Section th.section)) ≡ false
    waits : has_to_wait_for w th next ≡ true

  -- how far it gets
  abbrev StageOf : ThreadState S → Next → Attempt → Type 0
  StageOf th next Begin = Unit {0}
  StageOf th next Look = Unit {0}
  StageOf th next Checked = Unit {0}
  StageOf th (Want (Enter r)) (Meets s level) = (s ≡ monitor_section (w (Object (r + 1)))) × (level ≡ monitor_level (w (Object (r + 1))))
  StageOf th (Want (Rewake r)) (Meets s level) = (s ≡ monitor_section (w (Object (r + 1)))) × (level ≡ monitor_level (w (Object (r + 1)))) × (is_waiting w th.number ≡ false)
  StageOf th (Want (Rewake r)) (Fixed (LoadMonitor q)) = (q ≡ r) × (is_waiting w th.number ≡ false)
  StageOf th (Want (Read r i)) (Meets s level) = (s ≡ tag_section (tag_of (w (Object (word_place r i)))))
  StageOf th (Want (Write r i v)) (Meets s level) = (s ≡ tag_section (tag_of (w (Object (word_place r i)))))
  StageOf th (Want (Join r)) (Fixed (LoadThread (ThreadWord.Ended n))) = n ≡ value_of (w (Object (r + 3)))
  StageOf th next attempt = ⊥

  abbrev Later : ℕ → Type 0
  Later n = (th : ThreadState S) (next : Next) (attempt : Attempt) → Stays th next attempt → StageOf th next attempt → goes_on_in code b n th w ≡ false

  -- ---- the own section

  sees_own : (n : ℕ) → Later n → (th : ThreadState S) (next : Next) (attempt : Attempt) → Stays th next attempt → next_move code b th ≡ Make (LoadSection th.section)
      → section_loaded th next attempt th.section (w (Section th.section)) ≡ own_seen (w (Section th.section)) → goes_on_in code b (suc n) th w ≡ false
  sees_own n later th next attempt stays moves sees =
      turn_is code b w n th next (LoadSection th.section) (sees_pinned (pinned_of (w (Section th.section))) Checked) false moves stays.does
      (ap (λ a. section_loaded th next a th.section (w (Section th.section))) stays.at ∙ sees
      ∙ ap (λ t. if t then goes (Attempt.Undoing (w (Section th.section))) else sees_pinned (pinned_of (w (Section th.section))) Checked) stays.own)
      (by_if (λ (x : ThreadState S). goes_on_in code b n x w ≡ false) (is_open (record th { pinned = pinned_of (w (Section th.section)); attempt = Checked })) _ _
      (λ unpinned. later _ next Checked (record { does = stays.does; at = refl; live = stays.live; room = stays.room; own = stays.own; waits = stays.waits }) tt)
      (λ shut. later _ next Checked (record { does = stays.does; at = refl; live = stays.live; room = stays.room; own = stays.own; waits = stays.waits }) tt))

  -- ---- the attempt

  -- it goes on so
  goes_to : (n : ℕ) → Later n → (th : ThreadState S) (next : Next) (attempt to : Attempt) → Stays th next attempt → StageOf th next to → goes_on_in code b n (record th { attempt = to }) w ≡ false
  goes_to n later th next attempt to stays stage =
      later (record th { attempt = to }) next to (record { does = stays.does; at = refl; live = stays.live; room = stays.room; own = stays.own; waits = stays.waits }) (stage_so next to stage)
    where
      stage_so : (next : Next) (to : Attempt) → StageOf th next to → StageOf (record th { attempt = to }) next to
      stage_so next Begin stage = tt
      stage_so next Look stage = tt
      stage_so next Checked stage = tt
      stage_so (Want (Enter r)) (Meets s level) stage = stage
      stage_so (Want (Rewake r)) (Meets s level) stage = stage
      stage_so (Want (Rewake r)) (Fixed (LoadMonitor q)) stage = stage
      stage_so (Want (Read r i)) (Meets s level) stage = stage
      stage_so (Want (Write r i v)) (Meets s level) stage = stage
      stage_so (Want (Join r)) (Fixed (LoadThread (ThreadWord.Ended m))) stage = stage
      stage_so next to stage = absurd stage

  -- the monitor is another thread's
  enters : (n : ℕ) → Later n → (th : ThreadState S) (next : Next) (r : ℕ) (attempt : Attempt) → Stays th next attempt → is_monitor_busy w th r ≡ true → next_move code b th ≡ Make (LoadMonitor r)
      → change_of code b th next (LoadMonitor r) (Found (w (Object (r + 1)))) ≡ entering th next r (w (Object (r + 1)))
      → StageOf th next (Meets (monitor_section (w (Object (r + 1)))) (monitor_level (w (Object (r + 1))))) → goes_on_in code b (suc n) th w ≡ false
  enters n later th next r attempt stays busy moves becomes stage =
      let m = w (Object (r + 1)) in
      let is = others m (w (Section (monitor_section m))) th.section th.priority busy in
      turn_is code b w n th next (LoadMonitor r) (goes (Meets (monitor_section m) (monitor_level m))) false moves stays.does
      (becomes ∙ ap (λ t. if t then entering_free th next else if is_own m th.section then entering_own th r m else goes (Meets (monitor_section m) (monitor_level m))) is.some
      ∙ ap (λ t. if t then entering_own th r m else goes (Meets (monitor_section m) (monitor_level m))) is.other)
      (goes_to n later th next attempt (Meets (monitor_section m) (monitor_level m)) stays stage)

  -- and its section can't be revoked now
  met_busy : (n : ℕ) → Later n → (th : ThreadState S) (next : Next) (r s level : ℕ) (attempt : Attempt) → Stays th next attempt → is_monitor_busy w th r ≡ true → next_move code b th ≡ Make (LoadSection s)
      → s ≡ monitor_section (w (Object (r + 1))) → level ≡ monitor_level (w (Object (r + 1)))
      → change_of code b th next (LoadSection s) (Found (w (Section s))) ≡ holder_seen th s level (w (Section s)) → goes_on_in code b (suc n) th w ≡ false
  met_busy n later th next r s level attempt stays busy moves of_section of_level becomes =
      let m = w (Object (r + 1)) in
      let is = others m (w (Section (monitor_section m))) th.section th.priority busy in
      turn_is code b w n th next (LoadSection s) (has_to_wait is.why) false moves stays.does
      (becomes ∙ ap (λ x. met s (w (Section s)) (contend_with (w (Section s)) x th.priority)) of_level
      ∙ ap (λ x. met s (w (Section s)) (contend_with (w (Section x)) (monitor_level m) th.priority)) of_section ∙ ap (met s (w (Section s))) is.busy)
      (goes_to n later th next attempt Begin stays tt)

  -- the word was written in a section that is being undone
  reads : (n : ℕ) → Later n → (th : ThreadState S) (next : Next) (p : ℕ) (attempt : Attempt) (safe : Change) → Stays th next attempt → is_being_undone w th p ≡ true → next_move code b th ≡ Make (LoadWord p)
      → change_of code b th next (LoadWord p) (Found (w (Object p))) ≡ if_safe th (w (Object p)) safe
      → StageOf th next (Meets (tag_section (tag_of (w (Object p)))) (tag_level (tag_of (w (Object p))))) → goes_on_in code b (suc n) th w ≡ false
  reads n later th next p attempt safe stays undone moves becomes stage =
      turn_is code b w n th next (LoadWord p) (meets_writer (tag_of (w (Object p)))) false moves stays.does
      (becomes ∙ ap (λ t. if t then safe else meets_writer (tag_of (w (Object p)))) (not-true (is_safe th (w (Object p))) (and_parts _ _ undone).0))
      (goes_to n later th next attempt _ stays stage)

  met_writer : (n : ℕ) → Later n → (th : ThreadState S) (next : Next) (p s level : ℕ) (attempt : Attempt) → Stays th next attempt → is_being_undone w th p ≡ true → next_move code b th ≡ Make (LoadSection s)
      → s ≡ tag_section (tag_of (w (Object p)))
      → change_of code b th next (LoadSection s) (Found (w (Section s))) ≡ tag_seen s level (w (Section s)) → goes_on_in code b (suc n) th w ≡ false
  met_writer n later th next p s level attempt stays undone moves of_section becomes =
      let x = w (Section s) in
      let revoking : is_in Revoking x ≡ true = ap (λ k. is_in Revoking (w (Section k))) of_section ∙ (and_parts _ _ undone).1 in
      turn_is code b w n th next (LoadSection s) (has_to_wait (WordRevoking s)) false moves stays.does
      (becomes ∙ ap (λ t. if t then Change.knows s 255 else if is_in Undone x then goes Checked else if is_in Live x then writer_seen s level x else has_to_wait (WordRevoking s)) (revoking_is x 5 revoking refl)
      ∙ ap (λ t. if t then goes Checked else if is_in Live x then writer_seen s level x else has_to_wait (WordRevoking s)) (revoking_is x 4 revoking refl)
      ∙ ap (λ t. if t then writer_seen s level x else has_to_wait (WordRevoking s)) (revoking_is x 1 revoking refl))
      (goes_to n later th next attempt Begin stays tt)

  -- the first step of an attempt
  begins : (n : ℕ) → Later n → (th : ThreadState S) (op : Op) (attempt : Attempt) → Stays th (Want op) attempt → next_move code b th ≡ Make (first_step code th op) → goes_on_in code b (suc n) th w ≡ false
  begins n later th (Enter r) attempt stays moves = enters n later th (Want (Enter r)) r attempt stays stays.waits moves refl (refl, refl)
  begins n later th (Rewake r) attempt stays moves =
      let x = w (Wait th.number) in
      turn_is code b w n th (Want (Rewake r)) (LoadWait th.number) _ false moves stays.does refl
      (by_if (λ change. made_of code b w (goes_on_in code b n) th (Want (Rewake r)) (LoadWait th.number) change ≡ false) (is_notified_for r x) (goes (Fixed (LoadMonitor r))) (has_to_wait NotNotified)
      (λ notified. goes_to n later th (Want (Rewake r)) attempt (Fixed (LoadMonitor r)) stays (refl, ap (λ k. nat_eq k 1) (eqb-true (wait_state x) 2 (and_parts _ _ notified).1)))
      (λ unnotified. goes_to n later th (Want (Rewake r)) attempt Begin stays tt))
  begins n later th (Read r i) attempt stays moves =
      reads n later th (Want (Read r i)) (word_place r i) attempt (replies (Value (value_of (w (Object (word_place r i)))))) stays stays.waits moves refl refl
  begins n later th (Write r i v) attempt stays moves =
      reads n later th (Want (Write r i v)) (word_place r i) attempt (goes (Fixed (SwapWord (word_place r i) (w (Object (word_place r i))) (written_word th v)))) stays stays.waits moves refl refl
  begins n later th (Join r) attempt stays moves =
      let x = w (Object (r + 3)) in
      turn_is code b w n th (Want (Join r)) (LoadThread (ThreadWord.Start r)) (goes (Fixed (LoadThread (ThreadWord.Ended (value_of x))))) false moves stays.does
      (ap (λ t. if t then replies Reply.Done else goes (Fixed (LoadThread (ThreadWord.Ended (value_of x))))) (not-true (nat_eq x 0) (and_parts _ _ stays.waits).0))
      (goes_to n later th (Want (Join r)) attempt _ stays refl)
  begins n later th (Init c) attempt stays moves =
      let x = w (Class c) in
      let claimed : class_state x ≡ 1 = eqb-true (class_state x) 1 (and_parts _ _ stays.waits).0 in
      let other : nat_eq (class_thread x) th.number ≡ false = not-true _ (and_parts _ _ stays.waits).1 in
      let busy = has_to_wait (ClassBusy (class_thread x)) in
      turn_is code b w n th (Want (Init c)) (LoadClass c) busy false moves stays.does
      (ap (λ k. if nat_eq k 2 then replies Ready else if nat_eq k 3 then replies Bad else if nat_eq k 0 then goes (to_pin th (Want (Init c))) else if nat_eq (class_thread x) th.number then replies Ready else busy) claimed
      ∙ ap (λ t. if t then replies Ready else busy) other)
      (goes_to n later th (Want (Init c)) attempt Begin stays tt)
  begins n later th op attempt stays moves = from_false false stays.waits refl

  is_over : (n : ℕ) (th : ThreadState S) → next_move code b th ≡ Over → goes_on_in code b (suc n) th w ≡ false
  is_over n th moves = ap (goes_on_by code b (goes_on_in code b n) th w) moves

  one_more : (n : ℕ) → Later n → Later (suc n)
  one_more n later th Silent attempt stays stage = from_false false stays.waits refl
  one_more n later th Ended Begin stays stage = is_over n th (moves_so code b th Ended Begin Over stays.live stays.room stays.does stays.at refl)
  one_more n later th Ended Look stays stage = is_over n th (moves_so code b th Ended Look Over stays.live stays.room stays.does stays.at refl)
  one_more n later th Ended Checked stays stage = is_over n th (moves_so code b th Ended Checked Over stays.live stays.room stays.does stays.at refl)
  one_more n later th (Want op) Look stays stage =
      sees_own n later th (Want op) Look stays (moves_so code b th (Want op) Look (Make (LoadSection th.section)) stays.live stays.room stays.does stays.at refl) (look_sees code b th (Want op) th.section (w (Section th.section)))
  one_more n later th (Want op) Checked stays stage =
      begins n later th op Checked stays (moves_so code b th (Want op) Checked (Make (first_step code th op)) stays.live stays.room stays.does stays.at refl)
  one_more n later th (Want op) Begin stays stage = begin_so (is_open th) refl
    where
      begin_so : (t : Bool) → is_open th ≡ t → goes_on_in code b (suc n) th w ≡ false
      begin_so true unpinned =
          sees_own n later th (Want op) Begin stays (moves_so code b th (Want op) Begin (Make (LoadSection th.section)) stays.live stays.room stays.does stays.at
          (ap (λ t. if t then Make (LoadSection th.section) else Make (first_step code th op)) unpinned)) (begin_sees code b th (Want op) th.section (w (Section th.section)))
      begin_so false shut =
          begins n later th op Begin stays (moves_so code b th (Want op) Begin (Make (first_step code th op)) stays.live stays.room stays.does stays.at
          (ap (λ t. if t then Make (LoadSection th.section) else Make (first_step code th op)) shut))
  one_more n later th (Want (Enter r)) (Meets s level) stays stage =
      met_busy n later th (Want (Enter r)) r s level (Meets s level) stays stays.waits (moves_so code b th (Want (Enter r)) (Meets s level) (Make (LoadSection s)) stays.live stays.room stays.does stays.at refl)
      stage.0 stage.1 (ap (λ a. section_loaded th (Want (Enter r)) a s (w (Section s))) stays.at)
  one_more n later th (Want (Rewake r)) (Meets s level) stays stage =
      met_busy n later th (Want (Rewake r)) r s level (Meets s level) stays (or_right_of _ _ stays.waits stage.2)
      (moves_so code b th (Want (Rewake r)) (Meets s level) (Make (LoadSection s)) stays.live stays.room stays.does stays.at refl)
      stage.0 stage.1 (ap (λ a. section_loaded th (Want (Rewake r)) a s (w (Section s))) stays.at)
  one_more n later th (Want (Rewake r)) (Fixed (LoadMonitor q)) stays stage =
      enters n later th (Want (Rewake r)) r (Fixed (LoadMonitor q)) stays (or_right_of _ _ stays.waits stage.1)
      (moves_so code b th (Want (Rewake r)) (Fixed (LoadMonitor q)) (Make (LoadMonitor q)) stays.live stays.room stays.does stays.at refl ∙ ap (λ x. Make (LoadMonitor x)) stage.0) refl (refl, refl, stage.1)
  one_more n later th (Want (Read r i)) (Meets s level) stays stage =
      met_writer n later th (Want (Read r i)) (word_place r i) s level (Meets s level) stays stays.waits (moves_so code b th (Want (Read r i)) (Meets s level) (Make (LoadSection s)) stays.live stays.room stays.does stays.at refl)
      stage (ap (λ a. section_loaded th (Want (Read r i)) a s (w (Section s))) stays.at)
  one_more n later th (Want (Write r i v)) (Meets s level) stays stage =
      met_writer n later th (Want (Write r i v)) (word_place r i) s level (Meets s level) stays stays.waits (moves_so code b th (Want (Write r i v)) (Meets s level) (Make (LoadSection s)) stays.live stays.room stays.does stays.at refl)
      stage (ap (λ a. section_loaded th (Want (Write r i v)) a s (w (Section s))) stays.at)
  one_more n later th (Want (Join r)) (Fixed (LoadThread (ThreadWord.Ended m))) stays stage =
      let alive : nat_eq (w (Thread m)) 0 ≡ true = ap (λ k. nat_eq (w (Thread k)) 0) stage ∙ (and_parts _ _ stays.waits).1 in
      turn_is code b w n th (Want (Join r)) (LoadThread (ThreadWord.Ended m)) (has_to_wait (Alive m)) false
      (moves_so code b th (Want (Join r)) (Fixed (LoadThread (ThreadWord.Ended m))) (Make (LoadThread (ThreadWord.Ended m))) stays.live stays.room stays.does stays.at refl) stays.does
      (ap (λ t. if t then has_to_wait (Alive m) else replies Reply.Done) alive)
      (goes_to n later th (Want (Join r)) _ Begin stays tt)
  one_more n later th next attempt stays stage = absurd stage

  stays_on : (n : ℕ) → Later n
  stays_on zero th next attempt stays stage = refl
  stays_on (suc n) th next attempt stays stage = one_more n (stays_on n) th next attempt stays stage

-- ---- at each place of a run

pub others_stay : {S : Type 0} (code : Code S) → OthersStay code
others_stay {S} code b c acts run k t th within stands kept between room n = by_over th.over refl
  where
    w : Words
    w = (c k).words

    over_stays : (n : ℕ) → th.over ≡ true → goes_on_in code b n th w ≡ false
    over_stays zero over = refl
    over_stays (suc n) over = is_over code b w n th (ap (λ t. if t then Over else if nat_le b.limits.turns th.counted then Stop Turns else move_of code th (code.next th.local) th.attempt) over)

    calm : (s : ℕ) → nat_eq s 0 ≡ true → is_in Revoking (w (Section s)) ≡ false
    calm s none = ap (λ x. is_in Revoking (w (Section x))) (eqb-true s 0 none) ∙ ap (is_in Revoking) (zero_no_section code b c acts run k within) ∙ zero_calm

    own_calm : (t : Bool) → nat_eq th.section 0 ≡ t → not t && is_in Revoking (w (Section th.section)) ≡ false → is_in Revoking (w (Section th.section)) ≡ false
    own_calm true none is = calm th.section none
    own_calm false some is = is

    stage_of : (next : Next) (attempt : Attempt) → IsBetweenAttempts attempt → StageOf code b w th next attempt
    stage_of next Begin between = tt
    stage_of next Look between = tt
    stage_of next attempt between = absurd between

    by_over : (t : Bool) → th.over ≡ t → goes_on_in code b n th w ≡ false
    by_over true over = over_stays n over
    by_over false live =
        let parts = or_parts (has_to_undo w th) (not (has_to_wait_for w th (code.next th.local))) (ap (λ t. not t && (has_to_undo w th || not (has_to_wait_for w th (code.next th.local)))) (sym live) ∙ kept) in
        stays_on code b w n th (code.next th.local) th.attempt
        (record { does = refl; at = refl; live = live; room = is_room b.limits.turns th.counted room; own = own_calm (nat_eq th.section 0) refl parts.0; waits = not_false _ parts.1 })
        (stage_of (code.next th.local) th.attempt between)
