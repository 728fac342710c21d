-- A thread that waits still waits after usual turns of another thread.
use Rattle.std.proofs.Common.{◌≡◌, ◌≢◌, ℕ, suc, ◌+◌, ◌&&◌, ◌||◌, not, Bool, true, false, List, [], ◌∷◌, nat_eq, refl, sym, ◌∙◌, ap, subst, arith}
use Rattle.std.specs.Prelude.{nat_le, if◌then◌else◌}
use Rattle.std.proofs.lemmas.Bool.{and_parts, eqb-true}
use Rattle.op_core.specs.declared.Op.TheVariants.{Read, Write, Enter, Rewake, Join, Init}
use Rattle.op_core.specs.declared.Next.{Next}
use Rattle.op_core.specs.declared.Next.TheVariants.{Silent, Want, Ended}
use Rattle.op_core.specs.ThreadCode.{Code}
use Rattle.heap_words.specs.declared.areas.Area.TheVariants.{Section, Thread, Object}
use Rattle.heap_words.specs.Words.{tag_of, tag_section, tag_level, value_of}
use Rattle.section_state.specs.declared.State.TheVariants.{Revoking}
use Rattle.monitor_core.specs.Contention.{is_in, contend_for}
use Rattle.monitor_core.specs.Monitors.{monitor_section}
use Rattle.step_port.specs.declared.step.Step.{Step}
use Rattle.step_port.specs.declared.step.Step.TheVariants.{LoadWord, SwapWord, LoadSection, LoadClass}
use Rattle.step_port.specs.Words.{Words, IsStepOnWords, put_at, words_after}
use Rattle.thread_automaton.specs.declared.Bounds.{Bounds}
use Rattle.thread_automaton.specs.ThreadState.{ThreadState}
use Rattle.thread_automaton.specs.NextMove.{word_place}
use Rattle.thread_automaton.specs.Checks.{is_safe}
use Rattle.thread_automaton.specs.Told.{after_answer, after_quiet}
use Rattle.word_runs.specs.Enabled.{is_busy, is_monitor_busy, is_being_undone, is_waiting, is_alive, has_to_wait_for, has_to_undo, is_enabled}
use Rattle.turn_runs.specs.Turns.{TurnMove, silent, made, Turns}
use Rattle.quick_turns.specs.Usual.{goes_through, is_awaited_by_none, is_usual_step, AreUsual}
use Rattle.quick_turn_laws.specs.Laws.{IsNotWaitedFor, OverwriteNone, IsNeverEnabled, WaitingThreadsStay}

module _ {S : Type 0} (w : Words) (other : ThreadState S) (at new : ℕ) where
  abbrev v : Words
  v = put_at w (Object at) new

  apart : (p : ℕ) → at ≢ p → v (Object p) ≡ w (Object p)
  apart p not_same = by_test (nat_eq p at) refl
    where
      by_test : (t : Bool) → nat_eq p at ≡ t → (if nat_eq p at then new else w (Object p)) ≡ w (Object p)
      by_test true is = absurd (not_same (sym (eqb-true p at is)))
      by_test false is = ap (λ t. if t then new else w (Object p)) is

  monitor_same : (r : ℕ) → at ≢ r + 1 → is_monitor_busy v other r ≡ is_monitor_busy w other r
  monitor_same r not_same =
      ap (λ m. is_busy (contend_for m (w (Section (monitor_section m))) other.section other.priority)) (apart (r + 1) not_same)

  safe_not_undone : (t u : Bool) → t ≡ true → (not t && u) ≡ false
  safe_not_undone true u safe = refl
  safe_not_undone false u safe = absurd cc

  none_undone : (t u : Bool) → u ≡ false → (t && u) ≡ false
  none_undone true u none = none
  none_undone false u none = refl

  -- no thread waits for a word that is awaited by none
  not_awaited : (old : ℕ) → is_awaited_by_none w old ≡ true → (not (is_safe other old) && is_in Revoking (w (Section (tag_section (tag_of old))))) ≡ false
  not_awaited old free = by_tests (nat_eq (tag_of old) 0) refl (is_in Revoking (w (Section (tag_section (tag_of old))))) refl
    where
      by_tests : (t : Bool) → nat_eq (tag_of old) 0 ≡ t → (u : Bool) → is_in Revoking (w (Section (tag_section (tag_of old)))) ≡ u
          → (not (is_safe other old) && is_in Revoking (w (Section (tag_section (tag_of old))))) ≡ false
      by_tests true zero u is = safe_not_undone (is_safe other old) (is_in Revoking (w (Section (tag_section (tag_of old)))))
          (ap (λ t. t || nat_eq (tag_section (tag_of old)) other.section || (nat_eq (tag_section (tag_of old)) other.known && nat_le (tag_level (tag_of old)) other.known_depth)) zero)
      by_tests false some false is = none_undone (not (is_safe other old)) (is_in Revoking (w (Section (tag_section (tag_of old))))) is
      by_tests false some true is = absurd (false_true (absurd_of (ap (λ t. t || not (is_in Revoking (w (Section (tag_section (tag_of old)))))) (sym some) ∙ free)))
        where
          false_true : false ≡ true → ⊥
          false_true holds = cc

          absurd_of : not (is_in Revoking (w (Section (tag_section (tag_of old))))) ≡ true → false ≡ true
          absurd_of holds = ap not (sym is) ∙ holds

  word_waits : (old p : ℕ) → w (Object at) ≡ old → is_awaited_by_none w old ≡ true → is_being_undone w other p ≡ true → is_being_undone v other p ≡ true
  word_waits old p found free waits = by_test (nat_eq at p) refl
    where
      by_test : (t : Bool) → nat_eq at p ≡ t → is_being_undone v other p ≡ true
      by_test true is =
          let same : at ≡ p = eqb-true at p is in
          let word : w (Object p) ≡ old = ap (λ p. w (Object p)) (sym same) ∙ found in
          absurd (true_false (sym waits ∙ ap (λ x. not (is_safe other x) && is_in Revoking (w (Section (tag_section (tag_of x))))) word ∙ not_awaited old free))
        where
          true_false : true ≡ false → ⊥
          true_false is = cc
      by_test false is =
          ap (λ x. not (is_safe other x) && is_in Revoking (w (Section (tag_section (tag_of x))))) (apart p (λ same. true_false same is)) ∙ waits
        where
          true_false : at ≡ p → nat_eq at p ≡ false → ⊥
          true_false same is = grind arith

  still_waits : (old : ℕ) (next : Next) → w (Object at) ≡ old → is_awaited_by_none w old ≡ true → IsNotWaitedFor next at → has_to_wait_for w other next ≡ true
      → has_to_wait_for v other next ≡ true
  still_waits old (Want (Enter r)) found free none waits = monitor_same r none ∙ waits
  still_waits old (Want (Rewake r)) found free none waits = ap (λ t. is_waiting w other.number || t) (monitor_same r none) ∙ waits
  still_waits old (Want (Read r i)) found free none waits = word_waits old (word_place r i) found free waits
  still_waits old (Want (Write r i x)) found free none waits = word_waits old (word_place r i) found free waits
  still_waits old (Want (Join r)) found free none waits =
      ap (λ x. not (nat_eq x 0) && nat_eq (w (Thread (value_of x))) 0) (apart (r + 3) none) ∙ waits
  still_waits old next found free none waits = waits

  waits_by : (t u x : Bool) → (t && (u || not x)) ≡ false → t ≡ true → (u ≡ false) × (x ≡ true)
  waits_by true false true is lives = (refl, refl)
  waits_by true false false is lives = absurd cc
  waits_by true true x is lives = absurd cc
  waits_by false u x is lives = absurd cc

  pub still_kept : (code : Code S) (old : ℕ) → w (Object at) ≡ old → is_awaited_by_none w old ≡ true → IsNotWaitedFor (code.next other.local) at → is_enabled code w other ≡ false
      → is_enabled code v other ≡ false
  still_kept code old found free none kept = by_over (not other.over) refl
    where
      by_over : (t : Bool) → not other.over ≡ t → (not other.over && (has_to_undo v other || not (has_to_wait_for v other (code.next other.local)))) ≡ false
      by_over false over = ap (λ t. t && (has_to_undo v other || not (has_to_wait_for v other (code.next other.local)))) over
      by_over true lives =
          let (undoes, waits) = waits_by (not other.over) (has_to_undo w other) (has_to_wait_for w other (code.next other.local)) kept lives in
          ap (λ t. t && (has_to_undo w other || not (has_to_wait_for v other (code.next other.local)))) lives
          ∙ ap (λ u. u || not (has_to_wait_for v other (code.next other.local))) undoes
          ∙ ap not (still_waits old (code.next other.local) found free none waits)

-- a usual step
module _ {S : Type 0} (code : Code S) (other : ThreadState S) where
  swap_kept : (w : Words) (at old new : ℕ) → is_awaited_by_none w old ≡ true → IsNotWaitedFor (code.next other.local) at → is_enabled code w other ≡ false
      → is_enabled code (words_after (SwapWord at old new) w) other ≡ false
  swap_kept w at old new free none kept = by_test (nat_eq (w (Object at)) old) refl
    where
      by_test : (t : Bool) → nat_eq (w (Object at)) old ≡ t → is_enabled code (if nat_eq (w (Object at)) old then put_at w (Object at) new else w) other ≡ false
      by_test true is =
          ap (λ t. is_enabled code (if t then put_at w (Object at) new else w) other) is ∙ still_kept w other at new code old (eqb-true (w (Object at)) old is) free none kept
      by_test false is = ap (λ t. is_enabled code (if t then put_at w (Object at) new else w) other) is ∙ kept

pub waiting_stay : {S : Type 0} (code : Code S) → WaitingThreadsStay code
waiting_stay code b th other last w v [] turns are kept none = kept
waiting_stay code b th other last w v (silent ∷ moves) (l, is, quiet, turns) are kept none =
    (kept, waiting_stay code b (after_quiet th l) other last w v moves turns (are.1 l quiet) kept none)
waiting_stay code b th other last w v (made next (LoadWord at) answer tells ∷ moves) (z, wants, is, stepped, can, tells_is, turns) are kept none = (
  kept,
  waiting_stay code b (after_answer code b th (LoadWord at) answer) other last w v moves
      (subst (λ z. Turns code b IsStepOnWords (after_answer code b th (LoadWord at) answer) z moves last v) stepped.leaves turns) are.2 kept none,
)
waiting_stay code b th other last w v (made next (LoadSection s) answer tells ∷ moves) (z, wants, is, stepped, can, tells_is, turns) are kept none = (
  kept,
  waiting_stay code b (after_answer code b th (LoadSection s) answer) other last w v moves
      (subst (λ z. Turns code b IsStepOnWords (after_answer code b th (LoadSection s) answer) z moves last v) stepped.leaves turns) are.2 kept none,
)
waiting_stay code b th other last w v (made next (LoadClass c) answer tells ∷ moves) (z, wants, is, stepped, can, tells_is, turns) are kept none = (
  kept,
  waiting_stay code b (after_answer code b th (LoadClass c) answer) other last w v moves
      (subst (λ z. Turns code b IsStepOnWords (after_answer code b th (LoadClass c) answer) z moves last v) stepped.leaves turns) are.2 kept none,
)
waiting_stay code b th other last w v (made next (SwapWord at old new) answer tells ∷ moves) (z, wants, is, stepped, can, tells_is, turns) are kept (apart, none) = (
  kept,
  waiting_stay code b (after_answer code b th (SwapWord at old new) answer) other last (words_after (SwapWord at old new) w) v moves
      (subst (λ z. Turns code b IsStepOnWords (after_answer code b th (SwapWord at old new) answer) z moves last v) stepped.leaves turns) are.2
      (swap_kept code other w at old new (and_parts (is_awaited_by_none w old) (goes_through tells) are.1).0 apart kept) none,
)
waiting_stay code b th other last w v (made next step answer tells ∷ moves) (z, wants, is, stepped, can, tells_is, turns) are kept none = absurd (unusual are.1)
  where
    unusual : (false && goes_through tells) ≡ true → ⊥
    unusual is = cc
