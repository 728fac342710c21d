-- Whether a thread is enabled depends on the words that it watches alone.
use Rattle.std.proofs.Common.{◌≡◌, inl, inr, ℕ, suc, ◌+◌, ◌<◌, ◌||◌, ◌&&◌, not, Bool, true, false, List, [], ◌∷◌, length, nat_eq, refl, sym, ◌∙◌, ap, subst, arith}
use Rattle.std.specs.Prelude.{Contains}
use Rattle.std.proofs.lemmas.Bool.{eqb-true}
use Rattle.op_core.specs.declared.Op.TheVariants.{Read, Write, Enter, Rewake, Join, Init}
use Rattle.op_core.specs.declared.Next.{Next}
use Rattle.op_core.specs.declared.Next.TheVariants.{Silent, Want, Ended}
use Rattle.op_core.specs.ThreadCode.{Code}
use Rattle.heap_words.specs.declared.areas.Area.{Area}
use Rattle.heap_words.specs.declared.areas.Area.TheVariants.{Control, Section, Thread, Wait, Class, Object}
use Rattle.heap_words.specs.Words.{tag_of, tag_section, value_of}
use Rattle.section_state.specs.declared.State.TheVariants.{Revoking}
use Rattle.monitor_core.specs.Contention.{is_in, contend_for}
use Rattle.monitor_core.specs.Monitors.{monitor_section}
use Rattle.step_port.specs.Steps.{place_of, effect_of}
use Rattle.step_port.specs.Words.{Words, area_eq, put_by, words_after}
use Rattle.thread_automaton.specs.ThreadState.{ThreadState}
use Rattle.thread_automaton.specs.NextMove.{word_place}
use Rattle.thread_automaton.specs.Checks.{is_safe}
use Rattle.word_runs.specs.Enabled.{is_busy, is_monitor_busy, is_being_undone, is_waiting, is_alive, is_of_another, has_to_wait_for, has_to_undo, is_enabled}
use Rattle.section_laws.proofs.WordLemmas.{stays_at}
use Rattle.enabled_law.specs.Watched.{monitor_watched, word_watched, start_watched, wanted_watched, watched, OnlyWatchedWordsCount, UnseenStepsLeaveEnabled}

-- the words are the same at each of these
abbrev SameAt : Words → Words → List Area → Type 0
SameAt v w [] = Unit {0}
SameAt v w (x ∷ areas) = (v x ≡ w x) × SameAt v w areas

same_at : (v w : Words) (areas : List Area) → ((a : Area) → Contains areas a → v a ≡ w a) → SameAt v w areas
same_at v w [] same = tt
same_at v w (x ∷ areas) same = (same x (0, first areas, refl), same_at v w areas (λ y there. same y (suc there.0, later areas there.0 there.1, there.2)))
  where
    first : (areas : List Area) → 0 < suc (length areas)
    first areas = omega arith

    later : (areas : List Area) (k : ℕ) → k < length areas → suc k < suc (length areas)
    later areas k within = omega (arith, within)

module _ {S : Type 0} (v w : Words) (th : ThreadState S) where
  monitor_same : (r : ℕ) → SameAt v w (monitor_watched w r) → is_monitor_busy v th r ≡ is_monitor_busy w th r
  monitor_same r same =
      ap (λ m. is_busy (contend_for m (v (Section (monitor_section m))) th.section th.priority)) same.0
      ∙ ap (λ x. is_busy (contend_for (w (Object (r + 1))) x th.section th.priority)) same.1.0

  word_same : (at : ℕ) → SameAt v w (word_watched w at) → is_being_undone v th at ≡ is_being_undone w th at
  word_same at same =
      ap (λ x. not (is_safe th x) && is_in Revoking (v (Section (tag_section (tag_of x))))) same.0
      ∙ ap (λ x. not (is_safe th (w (Object at))) && is_in Revoking x) same.1.0

  start_same : (r : ℕ) → SameAt v w (start_watched w r) → is_alive v r ≡ is_alive w r
  start_same r same =
      ap (λ x. not (nat_eq x 0) && nat_eq (v (Thread (value_of x))) 0) same.0
      ∙ ap (λ x. not (nat_eq (w (Object (r + 3))) 0) && nat_eq x 0) same.1.0

  wanted_same : (next : Next) → SameAt v w (wanted_watched w th.number next) → has_to_wait_for v th next ≡ has_to_wait_for w th next
  wanted_same Silent same = refl
  wanted_same Ended same = refl
  wanted_same (Want (Enter r)) same = monitor_same r same
  wanted_same (Want (Rewake r)) same =
      ap (λ x. x || is_monitor_busy v th r) waits ∙ ap (λ x. is_waiting w th.number || x) (monitor_same r same.1)
    where
      waits : is_waiting v th.number ≡ is_waiting w th.number
      waits = ap (λ x. is_waiting (λ _. x) th.number) same.0
  wanted_same (Want (Read r i)) same = word_same (word_place r i) same
  wanted_same (Want (Write r i x)) same = word_same (word_place r i) same
  wanted_same (Want (Join r)) same = start_same r same
  wanted_same (Want (Init c)) same = ap (is_of_another th.number) same.0
  wanted_same (Want op) same = refl

pub only_watched : {S : Type 0} (code : Code S) → OnlyWatchedWordsCount code
only_watched {S} code v w th same = by_parts (same_at v w (watched code w th) same)
  where
    by_parts : SameAt v w (watched code w th) → is_enabled code v th ≡ is_enabled code w th
    by_parts same =
        ap (λ x. not th.over && ((not (nat_eq th.section 0) && is_in Revoking x) || not (has_to_wait_for v th (code.next th.local)))) same.0
        ∙ ap (λ x. not th.over && (has_to_undo w th || not x)) (wanted_same v w th (code.next th.local) same.1)

-- ---- steps

area_is : (a b : Area) → area_eq a b ≡ true → b ≡ a
area_is (Control m) (Control n) is = ap Control (sym (eqb-true m n is))
area_is (Section m) (Section n) is = ap Section (sym (eqb-true m n is))
area_is (Thread m) (Thread n) is = ap Thread (sym (eqb-true m n is))
area_is (Wait m) (Wait n) is = ap Wait (sym (eqb-true m n is))
area_is (Class m) (Class n) is = ap Class (sym (eqb-true m n is))
area_is (Object m) (Object n) is = ap Object (sym (eqb-true m n is))
area_is (Control m) b is = cc
area_is (Section m) b is = cc
area_is (Thread m) b is = cc
area_is (Wait m) b is = cc
area_is (Class m) b is = cc
area_is (Object m) b is = cc

pub unseen_leave : {S : Type 0} (code : Code S) → UnseenStepsLeaveEnabled code
unseen_leave code w th step (inl loads) = ap (λ e. is_enabled code (put_by e w (place_of step)) th) loads
unseen_leave code w th step (inr apart) = only_watched code (words_after step w) w th (λ a there. by_area a there (area_eq a (place_of step)) refl)
  where
    by_area : (a : Area) → Contains (watched code w th) a → (t : Bool) → area_eq a (place_of step) ≡ t → words_after step w a ≡ w a
    by_area a there true is = absurd (apart (subst (Contains (watched code w th)) (sym (area_is a (place_of step) is)) there))
    by_area a there false other = stays_at (effect_of step) w (place_of step) a other
