-- The parts of ordinary states that words stand for, where words stay.
use Rattle.std.proofs.Common.{◌≡◌, ◌≢◌, ℕ, ◌+◌, ◌&&◌, ◌<◌, Bool, true, false, Option, None, Some, nat_eq, refl, ◌∙◌, ap, arith}
use Rattle.std.specs.Prelude.{nat_lt, if◌then◌else◌}
use Rattle.std.proofs.lemmas.Grind.{common_steps}
use Rattle.std.proofs.lemmas.Bool.Decides.{nat_tests}
use Rattle.op_core.specs.OrdinaryState.{Object, free, held}
use Rattle.heap_words.specs.declared.areas.Area.{Area}
use Rattle.heap_words.specs.Words.{value_of}
use Rattle.section_state.specs.SectionWord.{owner_of}
use Rattle.monitor_core.specs.Monitors.{monitor_section, monitor_depth}
use Rattle.step_port.specs.Words.{Words}
use Rattle.ordinary_words.specs.Reading.{word_in, start_in, monitor_of, monitor_in}

less : (m n : ℕ) → nat_lt m n ≡ true → m < n
less m n is = grind (arith, common_steps, nat_tests)

pub equal : (m n : ℕ) → nat_eq m n ≡ true → m ≡ n
equal m n is = grind (arith, common_steps, nat_tests)

pub differs : (m n : ℕ) → m ≢ n → nat_eq m n ≡ false
differs m n is = grind (arith, common_steps, nat_tests)

pub below : (m n : ℕ) → m < n → nat_lt m n ≡ true
below m n is = grind (arith, common_steps, nat_tests)

module _ (is_thread : ℕ → Bool) where
  -- a word of an object that code reads and writes has the value of its shared word
  pub word_is : (w : Words) (q i : ℕ) (o : Object) → i < o.words → (is_thread o.class ≡ true → i ≢ 1) → word_in is_thread w q i (Some o) ≡ value_of (w (Area.Object (q + 2 + i)))
  word_is w q i o low plain =
      ap (λ t. if t then (if is_thread o.class && nat_eq i 1 then 0 else value_of (w (Area.Object (q + 2 + i)))) else 0) (below i o.words low)
      ∙ by_thread (is_thread o.class) refl
    where
      by_thread : (t : Bool) → is_thread o.class ≡ t → (if t && nat_eq i 1 then 0 else value_of (w (Area.Object (q + 2 + i)))) ≡ value_of (w (Area.Object (q + 2 + i)))
      by_thread true is = ap (λ t. if t then 0 else value_of (w (Area.Object (q + 2 + i)))) (differs i 1 (plain is))
      by_thread false is = refl

  -- it stays where its shared word does
  pub word_kept : (w v : Words) (q i : ℕ) (x : Option Object)
      → ((o : Object) → x ≡ Some o → i < o.words → (is_thread o.class ≡ true → i ≢ 1) → value_of (v (Area.Object (q + 2 + i))) ≡ value_of (w (Area.Object (q + 2 + i))))
      → word_in is_thread v q i x ≡ word_in is_thread w q i x
  word_kept w v q i None same = refl
  word_kept w v q i (Some o) same = by_low (nat_lt i o.words) refl
    where
      by_start : (t : Bool) → (is_thread o.class && nat_eq i 1) ≡ t → i < o.words
          → (if t then 0 else value_of (v (Area.Object (q + 2 + i)))) ≡ (if t then 0 else value_of (w (Area.Object (q + 2 + i))))
      by_start true is low = refl
      by_start false is low = same o refl low (λ thread one. both (is_thread o.class) (nat_eq i 1) is thread (ap (λ n. nat_eq n 1) one))
        where
          both : (p r : Bool) → (p && r) ≡ false → p ≡ true → r ≡ true → ⊥
          both true true is so also = cc
          both true false is so also = cc
          both false r is so also = cc

      by_low : (t : Bool) → nat_lt i o.words ≡ t
          → (if t then (if is_thread o.class && nat_eq i 1 then 0 else value_of (v (Area.Object (q + 2 + i)))) else 0)
          ≡ (if t then (if is_thread o.class && nat_eq i 1 then 0 else value_of (w (Area.Object (q + 2 + i)))) else 0)
      by_low true is = by_start (is_thread o.class && nat_eq i 1) refl (less i o.words is)
      by_low false is = refl

  pub start_kept : (w v : Words) (q : ℕ) (x : Option Object) → ((o : Object) → x ≡ Some o → is_thread o.class ≡ true → v (Area.Object (q + 3)) ≡ w (Area.Object (q + 3)))
      → start_in is_thread v q x ≡ start_in is_thread w q x
  start_kept w v q None same = refl
  start_kept w v q (Some o) same = by_thread (is_thread o.class) refl
    where
      by_thread : (t : Bool) → is_thread o.class ≡ t → (if t then value_of (v (Area.Object (q + 3))) else 0) ≡ (if t then value_of (w (Area.Object (q + 3))) else 0)
      by_thread true is = ap value_of (same o refl is)
      by_thread false is = refl

  pub start_is : (w : Words) (q : ℕ) (o : Object) → is_thread o.class ≡ true → start_in is_thread w q (Some o) ≡ value_of (w (Area.Object (q + 3)))
  start_is w q o thread = ap (λ t. if t then value_of (w (Area.Object (q + 3))) else 0) thread

-- a monitor stays where its word does, and the owner of the section that holds it
pub monitor_kept : (w v : Words) (q : ℕ) (x : Option Object) → ((o : Object) → x ≡ Some o → v (Area.Object (q + 1)) ≡ w (Area.Object (q + 1)))
    → ((o : Object) → x ≡ Some o → w (Area.Object (q + 1)) ≢ 0
    → owner_of (v (Area.Section (monitor_section (w (Area.Object (q + 1)))))) ≡ owner_of (w (Area.Section (monitor_section (w (Area.Object (q + 1)))))))
    → monitor_in v q x ≡ monitor_in w q x
monitor_kept w v q None same owner = refl
monitor_kept w v q (Some o) same owner = ap (monitor_of v) (same o refl) ∙ by_zero (nat_eq (w (Area.Object (q + 1))) 0) refl
  where
    not_zero : (n : ℕ) → nat_eq n 0 ≡ false → n ≢ 0
    not_zero n is = grind (arith, common_steps, nat_tests)

    by_zero : (t : Bool) → nat_eq (w (Area.Object (q + 1))) 0 ≡ t
        → (if t then free else held (owner_of (v (Area.Section (monitor_section (w (Area.Object (q + 1))))))) (monitor_depth (w (Area.Object (q + 1)))))
        ≡ (if t then free else held (owner_of (w (Area.Section (monitor_section (w (Area.Object (q + 1))))))) (monitor_depth (w (Area.Object (q + 1)))))
    by_zero true is = refl
    by_zero false is = ap (λ n. held n (monitor_depth (w (Area.Object (q + 1))))) (owner o refl (not_zero (w (Area.Object (q + 1))) is))
