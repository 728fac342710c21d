-- Undoing goes through.
use Rattle.std.proofs.Common.{◌≡◌, ◌≢◌, ◌⊎◌, ℕ, zero, suc, ◌+◌, ◌-◌, ◌*◌, ◌^◌, ◌<◌, ◌≤◌, Bool, true, false, ◌||◌, not, List, [], ◌∷◌, ◌++◌, length, map, reverse, take, drop, nat_eq, refl, sym, ◌∙◌, ap, subst, inl, inr, arith}
use Rattle.std.specs.Prelude.{nat_le, filter, if◌then◌else◌}
use Rattle.std.proofs.lemmas.Grind.{common_steps}
use Rattle.std.proofs.lemmas.Bool.Decides.{nat_tests}
use Rattle.op_core.specs.declared.Limit.TheVariants.{Turns}
use Rattle.op_core.specs.ThreadCode.{Code}
use Rattle.section_state.specs.SectionWord.{revoke_of, undone_of}
use Rattle.write_log.specs.declared.Noted.{Noted}
use Rattle.monitor_core.specs.Monitors.{monitor_word, monitor_depth}
use Rattle.step_port.specs.declared.answer.StepAnswer.{StepAnswer}
use Rattle.step_port.specs.declared.step.Step.{Step}
use Rattle.step_port.specs.declared.step.Step.TheVariants.{RestoreWord, SetDepth, Release, MarkUndone}
use Rattle.thread_automaton.specs.declared.Bounds.{Bounds}
use Rattle.thread_automaton.specs.declared.Attempt.{Attempt}
use Rattle.thread_automaton.specs.declared.Move.{Move}
use Rattle.thread_automaton.specs.declared.Move.TheVariants.{Over, Stop, Make}
use Rattle.thread_automaton.specs.declared.Attempt.TheVariants.{Begin, Undoing}
use Rattle.thread_automaton.specs.declared.Held.{Held}
use Rattle.thread_automaton.specs.ThreadState.{ThreadState, Mark, is_open, mark_of, noted_since, held_as, with_depth_of, from_level}
use Rattle.thread_automaton.specs.NextMove.{held_word, deepened_since, undo_step, undo_next, move_of, next_move}
use Rattle.thread_automaton.specs.Changes.{Change, changed, goes_back, forgotten, stood_at, without_level, section_at, without}
use Rattle.thread_automaton.specs.Monitors.{let_go, depth_set}
use Rattle.thread_automaton.specs.Answers.{undone_at}
use Rattle.thread_automaton.specs.Told.{told_of, shown, counted_for, after_answer}
use Rattle.automaton_rows.specs.Undoing.{undo_steps, undoing_of, MakesAll, is_held, HeldOnce, AreHeldBelow, HeldFits, StandsAgain, UndoGoesThrough}

-- ---- tests

pub yes_eq : (m n : ℕ) → nat_eq m n ≡ true → m ≡ n
yes_eq m n is = grind (arith, common_steps, nat_tests)

pub eq_same : (n : ℕ) → nat_eq n n ≡ true
eq_same n = grind (arith, common_steps, nat_tests)

pub eq_no : (m n : ℕ) → m ≢ n → nat_eq m n ≡ false
eq_no m n other = by_test (nat_eq m n) refl
  where
    by_test : (t : Bool) → nat_eq m n ≡ t → nat_eq m n ≡ false
    by_test true is = absurd (other (yes_eq m n is))
    by_test false is = is

pub both_ways : {A : Type 0} (t : Bool) → t ≡ true → t ≡ false → A
both_ways t is none = cc

pub depth_is : (s d l : ℕ) → s < 2 ^ 32 → d < 2 ^ 16 → l < 2 ^ 8 → monitor_depth (monitor_word s d l) ≡ d
unfolding monitor_depth monitor_word
depth_is s d l low small few = omega (arith, low, small, few)

-- ---- monitors that are held

abbrev differs : List Held → Held → Bool
differs held h = not (nat_eq (held_as h.object held).depth h.depth)

-- in those of then that differ now
abbrev deepened : List Held → List Held → List Held
deepened then_ held = filter (λ h. differs held h) then_

pub depth_then : (r d : ℕ) (held : List Held) → is_held r held ≡ true → (held_as r (with_depth_of r d held)).depth ≡ d
depth_then r d [] is = cc
depth_then r d (h ∷ held) is = by_test (nat_eq h.object r) refl is (depth_then r d held)
  where
    by_test : (t : Bool) → nat_eq h.object r ≡ t → (t || is_held r held) ≡ true
        → (is_held r held ≡ true → (held_as r (with_depth_of r d held)).depth ≡ d)
        → (held_as r ((if t then record h { depth = d } else h) ∷ with_depth_of r d held)).depth ≡ d
    by_test true eq is rest = ap (λ t. (if t then record h { depth = d } else held_as r (with_depth_of r d held)).depth) eq
    by_test false eq is rest = ap (λ t. (if t then h else held_as r (with_depth_of r d held)).depth) eq ∙ rest is

pub other_depth : (r q d : ℕ) (held : List Held) → q ≢ r → (held_as q (with_depth_of r d held)).depth ≡ (held_as q held).depth
other_depth r q d [] other = refl
other_depth r q d (h ∷ held) other = by_test (nat_eq h.object r) refl (other_depth r q d held other)
  where
    by_test : (t : Bool) → nat_eq h.object r ≡ t → (held_as q (with_depth_of r d held)).depth ≡ (held_as q held).depth
        → (held_as q ((if t then record h { depth = d } else h) ∷ with_depth_of r d held)).depth ≡ (if nat_eq h.object q then h else held_as q held).depth
    by_test true eq rest = ap (λ t. (if t then record h { depth = d } else held_as q (with_depth_of r d held)).depth) (eq_no h.object q (λ e. other (sym e ∙ yes_eq h.object r eq)))
        ∙ rest ∙ sym (ap (λ t. (if t then h else held_as q held).depth) (eq_no h.object q (λ e. other (sym e ∙ yes_eq h.object r eq))))
    by_test false eq rest = by_q (nat_eq h.object q) rest
      where
        by_q : (t : Bool) → (held_as q (with_depth_of r d held)).depth ≡ (held_as q held).depth
            → (if t then h else held_as q (with_depth_of r d held)).depth ≡ (if t then h else held_as q held).depth
        by_q true rest = refl
        by_q false rest = rest

pub same_level : (r q d : ℕ) (held : List Held) → (held_as q (with_depth_of r d held)).level ≡ (held_as q held).level
same_level r q d [] = refl
same_level r q d (h ∷ held) = by_test (nat_eq h.object r) (same_level r q d held)
  where
    by_q : (t : Bool) (x : Held) → x.level ≡ h.level → (held_as q (with_depth_of r d held)).level ≡ (held_as q held).level
        → (if t then x else held_as q (with_depth_of r d held)).level ≡ (if t then h else held_as q held).level
    by_q true x same rest = same
    by_q false x same rest = rest

    by_test : (t : Bool) → (held_as q (with_depth_of r d held)).level ≡ (held_as q held).level
        → (held_as q ((if t then record h { depth = d } else h) ∷ with_depth_of r d held)).level ≡ (if nat_eq h.object q then h else held_as q held).level
    by_test true rest = by_q (nat_eq h.object q) (record h { depth = d }) refl rest
    by_test false rest = by_q (nat_eq h.object q) h refl rest

pub same_held : (r q d : ℕ) (held : List Held) → is_held q (with_depth_of r d held) ≡ is_held q held
same_held r q d [] = refl
same_held r q d (h ∷ held) = by_test (nat_eq h.object r) (same_held r q d held)
  where
    by_test : (t : Bool) → is_held q (with_depth_of r d held) ≡ is_held q held → is_held q ((if t then record h { depth = d } else h) ∷ with_depth_of r d held) ≡ is_held q (h ∷ held)
    by_test true rest = ap (λ t. nat_eq h.object q || t) rest
    by_test false rest = ap (λ t. nat_eq h.object q || t) rest

pub once_with : (r d : ℕ) (held : List Held) → HeldOnce held → HeldOnce (with_depth_of r d held)
once_with r d [] once = tt
once_with r d (h ∷ held) once = by_test (nat_eq h.object r) (same_held r h.object d held ∙ once.0) (once_with r d held once.1)
  where
    by_test : (t : Bool) → is_held h.object (with_depth_of r d held) ≡ false → HeldOnce (with_depth_of r d held) → HeldOnce ((if t then record h { depth = d } else h) ∷ with_depth_of r d held)
    by_test true none rest = (none, rest)
    by_test false none rest = (none, rest)

below_with : (r d n : ℕ) (then_ held : List Held) → AreHeldBelow n then_ held → AreHeldBelow n then_ (with_depth_of r d held)
below_with r d n [] held below = tt
below_with r d n (h ∷ then_) held below =
    (same_held r h.object d held ∙ below.0, subst (λ x. x < n) (sym (same_level r h.object d held)) below.1, below.2, below.3, below_with r d n then_ held below.4)

-- another depth of a monitor that isn't among them
deepened_other : (r d : ℕ) (then_ held : List Held) → is_held r then_ ≡ false → deepened then_ (with_depth_of r d held) ≡ deepened then_ held
deepened_other r d [] held none = refl
deepened_other r d (z ∷ then_) held none = by_test (nat_eq z.object r) refl none (deepened_other r d then_ held)
  where
    by_test : (t : Bool) → nat_eq z.object r ≡ t → (t || is_held r then_) ≡ false
        → (is_held r then_ ≡ false → deepened then_ (with_depth_of r d held) ≡ deepened then_ held)
        → deepened (z ∷ then_) (with_depth_of r d held) ≡ deepened (z ∷ then_) held
    by_test true eq none rest = cc
    by_test false eq none rest =
        ap (λ x. if not (nat_eq x z.depth) then z ∷ deepened then_ (with_depth_of r d held) else deepened then_ (with_depth_of r d held))
        (other_depth r z.object d held (λ e. both_ways (nat_eq z.object r) (subst (λ x. nat_eq z.object x ≡ true) e (eq_same z.object)) eq))
        ∙ ap (λ xs. if not (nat_eq (held_as z.object held).depth z.depth) then z ∷ xs else xs) (rest none)

pub head_in : (h : Held) (rest then_ held : List Held) → deepened then_ held ≡ h ∷ rest → is_held h.object then_ ≡ true
head_in h rest [] held is = cc
head_in h rest (z ∷ then_) held is = by_test (differs held z) is (head_in h rest then_ held)
  where
    by_test : (t : Bool) → (if t then z ∷ deepened then_ held else deepened then_ held) ≡ h ∷ rest → (deepened then_ held ≡ h ∷ rest → is_held h.object then_ ≡ true)
        → is_held h.object (z ∷ then_) ≡ true
    by_test true is more = ap (λ t. t || is_held h.object then_) (subst (λ (x : List Held). nat_eq (first x).object h.object ≡ true) (sym is) (eq_same h.object))
      where
        first : List Held → Held
        first [] = z
        first (x ∷ xs) = x
    by_test false is more = or_right (nat_eq z.object h.object) (more is)
      where
        or_right : (t : Bool) → is_held h.object then_ ≡ true → (t || is_held h.object then_) ≡ true
        or_right true is = refl
        or_right false is = is

-- once the first of them has its depth of then, the others are left
deepened_next : (n : ℕ) (h : Held) (rest then_ held : List Held) → HeldOnce then_ → AreHeldBelow n then_ held → deepened then_ held ≡ h ∷ rest
    → deepened then_ (with_depth_of h.object h.depth held) ≡ rest
deepened_next n h rest [] held once below is = cc
deepened_next n h rest (z ∷ then_) held once below is = by_test (differs held z) refl is (deepened_next n h rest then_ held once.1 below.4)
  where
    now : Held → Bool
    now z = differs (with_depth_of h.object h.depth held) z

    by_test : (t : Bool) → differs held z ≡ t → (if t then z ∷ deepened then_ held else deepened then_ held) ≡ h ∷ rest
        → (deepened then_ held ≡ h ∷ rest → deepened then_ (with_depth_of h.object h.depth held) ≡ rest)
        → deepened (z ∷ then_) (with_depth_of h.object h.depth held) ≡ rest
    by_test true was is more =
        let heads : z ≡ h = ap first is in
        let tails : deepened then_ held ≡ rest = ap (drop 1) is in
        ap (λ x. if not x then z ∷ deepened then_ (with_depth_of h.object h.depth held) else deepened then_ (with_depth_of h.object h.depth held)) (is_then heads)
        ∙ deepened_other h.object h.depth then_ held (subst (λ (x : Held). is_held x.object then_ ≡ false) heads once.0) ∙ tails
      where
        first : List Held → Held
        first [] = z
        first (x ∷ xs) = x

        is_then : z ≡ h → nat_eq (held_as z.object (with_depth_of h.object h.depth held)).depth z.depth ≡ true
        is_then same = subst (λ (x : Held). nat_eq (held_as x.object (with_depth_of h.object h.depth held)).depth x.depth ≡ true) (sym same)
            (subst (λ d. nat_eq d h.depth ≡ true) (sym (depth_then h.object h.depth held (subst (λ (x : Held). is_held x.object held ≡ true) same below.0))) (eq_same h.depth))
    by_test false was is more =
        let apart : z.object ≢ h.object = (λ e. both_ways (is_held z.object then_) (subst (λ r. is_held r then_ ≡ true) (sym e) (head_in h rest then_ held is)) once.0) in
        ap (λ x. if not (nat_eq x z.depth) then z ∷ deepened then_ (with_depth_of h.object h.depth held) else deepened then_ (with_depth_of h.object h.depth held))
        (other_depth h.object z.object h.depth held apart)
        ∙ ap (λ t. if t then z ∷ deepened then_ (with_depth_of h.object h.depth held) else deepened then_ (with_depth_of h.object h.depth held)) was
        ∙ more is

-- a monitor that isn't held gets no depth and isn't taken off
pub with_none : (r d : ℕ) (held : List Held) → is_held r held ≡ false → with_depth_of r d held ≡ held
with_none r d [] none = refl
with_none r d (h ∷ held) none = by_test (nat_eq h.object r) none (with_none r d held)
  where
    by_test : (t : Bool) → (t || is_held r held) ≡ false → (is_held r held ≡ false → with_depth_of r d held ≡ held)
        → ((if t then record h { depth = d } else h) ∷ with_depth_of r d held) ≡ h ∷ held
    by_test true none rest = cc
    by_test false none rest = ap (λ xs. h ∷ xs) (rest none)

pub without_none : (r : ℕ) (held : List Held) → is_held r held ≡ false → without r held ≡ held
without_none r [] none = refl
without_none r (h ∷ held) none = by_test (nat_eq h.object r) none (without_none r held)
  where
    by_test : (t : Bool) → (t || is_held r held) ≡ false → (is_held r held ≡ false → without r held ≡ held)
        → (if not t then h ∷ without r held else without r held) ≡ h ∷ held
    by_test true none rest = cc
    by_test false none rest = ap (λ xs. h ∷ xs) (rest none)

-- those taken since stay where a monitor that was held before gets another depth
from_with : (n r d : ℕ) (held : List Held) → HeldOnce held → (held_as r held).level < n → from_level n (with_depth_of r d held) ≡ from_level n held
from_with n r d [] once low = refl
from_with n r d (h ∷ held) once low = by_test (nat_eq h.object r) refl low (from_with n r d held once.1)
  where
    lower : (n l : ℕ) → l < n → nat_le n l ≡ false
    lower n l low = grind (arith, common_steps, nat_tests)

    by_test : (t : Bool) → nat_eq h.object r ≡ t → (if t then h else held_as r held).level < n
        → ((held_as r held).level < n → from_level n (with_depth_of r d held) ≡ from_level n held)
        → from_level n ((if t then record h { depth = d } else h) ∷ with_depth_of r d held) ≡ from_level n (h ∷ held)
    by_test true eq low rest =
        ap (λ t. if t then record h { depth = d } ∷ from_level n (with_depth_of r d held) else from_level n (with_depth_of r d held)) (lower n h.level low)
        ∙ ap (λ xs. from_level n xs) (with_none r d held (subst (λ x. is_held x held ≡ false) (yes_eq h.object r eq) once.0))
        ∙ sym (ap (λ t. if t then h ∷ from_level n held else from_level n held) (lower n h.level low))
    by_test false eq low rest = ap (λ xs. if nat_le n h.level then h ∷ xs else xs) (rest low)

pub from_head : (n : ℕ) (h : Held) (rest held : List Held) → from_level n held ≡ h ∷ rest → HeldOnce held
    → (is_held h.object held ≡ true) × (held_as h.object held ≡ h) × (n ≤ h.level)
from_head n h rest [] is once = cc
from_head n h rest (z ∷ held) is once = by_test (nat_le n z.level) refl is (λ more. from_head n h rest held more once.1)
  where
    less : (n l : ℕ) → nat_le n l ≡ true → n ≤ l
    less n l is = grind (arith, common_steps, nat_tests)

    first : List Held → Held
    first [] = z
    first (x ∷ xs) = x

    by_test : (t : Bool) → nat_le n z.level ≡ t → (if t then z ∷ from_level n held else from_level n held) ≡ h ∷ rest
        → (from_level n held ≡ h ∷ rest → (is_held h.object held ≡ true) × (held_as h.object held ≡ h) × (n ≤ h.level))
        → (is_held h.object (z ∷ held) ≡ true) × (held_as h.object (z ∷ held) ≡ h) × (n ≤ h.level)
    by_test true low is more =
        let heads : z ≡ h = ap first is in
        subst (λ (x : Held). (is_held x.object (z ∷ held) ≡ true) × (held_as x.object (z ∷ held) ≡ x) × (n ≤ x.level)) heads
        (ap (λ t. t || is_held z.object held) (eq_same z.object), ap (λ t. if t then z else held_as z.object held) (eq_same z.object), less n z.level low)
    by_test false low is more =
        let there = more is in
        let apart : nat_eq z.object h.object ≡ false = eq_no z.object h.object (λ e. both_ways (is_held z.object held) (subst (λ r. is_held r held ≡ true) (sym e) there.0) once.0) in
        (ap (λ t. t || is_held h.object held) apart ∙ there.0, ap (λ t. if t then z else held_as h.object held) apart ∙ there.1, there.2)

from_next : (n : ℕ) (h : Held) (rest held : List Held) → from_level n held ≡ h ∷ rest → HeldOnce held → from_level n (without h.object held) ≡ rest
from_next n h rest [] is once = cc
from_next n h rest (z ∷ held) is once = by_test (nat_le n z.level) refl is (λ more. from_next n h rest held more once.1)
  where
    first : List Held → Held
    first [] = z
    first (x ∷ xs) = x

    by_test : (t : Bool) → nat_le n z.level ≡ t → (if t then z ∷ from_level n held else from_level n held) ≡ h ∷ rest
        → (from_level n held ≡ h ∷ rest → from_level n (without h.object held) ≡ rest) → from_level n (without h.object (z ∷ held)) ≡ rest
    by_test true low is more =
        let heads : z ≡ h = ap first is in
        subst (λ (x : Held). from_level n (if not (nat_eq z.object x.object) then z ∷ without x.object held else without x.object held) ≡ rest) heads
        (ap (λ t. from_level n (if not t then z ∷ without z.object held else without z.object held)) (eq_same z.object)
        ∙ ap (λ xs. from_level n xs) (without_none z.object held once.0) ∙ ap (drop 1) is)
    by_test false low is more =
        let there = from_head n h rest held is once.1 in
        let apart : nat_eq z.object h.object ≡ false = eq_no z.object h.object (λ e. both_ways (is_held z.object held) (subst (λ r. is_held r held ≡ true) (sym e) there.0) once.0) in
        ap (λ t. from_level n (if not t then z ∷ without h.object held else without h.object held)) apart
        ∙ ap (λ t. if t then z ∷ from_level n (without h.object held) else from_level n (without h.object held)) low ∙ more is

pub still_held : (r q : ℕ) (held : List Held) → q ≢ r → is_held q (without r held) ≡ is_held q held
still_held r q [] other = refl
still_held r q (h ∷ held) other = by_test (nat_eq h.object r) refl (still_held r q held other)
  where
    by_test : (t : Bool) → nat_eq h.object r ≡ t → is_held q (without r held) ≡ is_held q held → is_held q (if not t then h ∷ without r held else without r held) ≡ (nat_eq h.object q || is_held q held)
    by_test true eq rest = rest ∙ sym (ap (λ t. t || is_held q held) (eq_no h.object q (λ e. other (sym e ∙ yes_eq h.object r eq))))
    by_test false eq rest = ap (λ t. nat_eq h.object q || t) rest

pub still_as : (r q : ℕ) (held : List Held) → q ≢ r → held_as q (without r held) ≡ held_as q held
still_as r q [] other = refl
still_as r q (h ∷ held) other = by_test (nat_eq h.object r) refl (still_as r q held other)
  where
    by_test : (t : Bool) → nat_eq h.object r ≡ t → held_as q (without r held) ≡ held_as q held
        → held_as q (if not t then h ∷ without r held else without r held) ≡ (if nat_eq h.object q then h else held_as q held)
    by_test true eq rest = rest ∙ sym (ap (λ t. if t then h else held_as q held) (eq_no h.object q (λ e. other (sym e ∙ yes_eq h.object r eq))))
    by_test false eq rest = ap (λ (x : Held). if nat_eq h.object q then h else x) rest

pub none_without : (r q : ℕ) (held : List Held) → is_held q held ≡ false → is_held q (without r held) ≡ false
none_without r q [] none = refl
none_without r q (h ∷ held) none = by_q (nat_eq h.object q) refl none (none_without r q held)
  where
    by_q : (t : Bool) → nat_eq h.object q ≡ t → (t || is_held q held) ≡ false → (is_held q held ≡ false → is_held q (without r held) ≡ false)
        → is_held q (without r (h ∷ held)) ≡ false
    by_q true eq none rest = cc
    by_q false eq none rest = by_r (nat_eq h.object r)
      where
        by_r : (t : Bool) → is_held q (if not t then h ∷ without r held else without r held) ≡ false
        by_r true = rest none
        by_r false = ap (λ t. t || is_held q (without r held)) eq ∙ rest none

pub once_without : (r : ℕ) (held : List Held) → HeldOnce held → HeldOnce (without r held)
once_without r [] once = tt
once_without r (h ∷ held) once = by_test (nat_eq h.object r) (once_without r held once.1)
  where
    by_test : (t : Bool) → HeldOnce (without r held) → HeldOnce (if not t then h ∷ without r held else without r held)
    by_test true rest = rest
    by_test false rest = (none_without r h.object held once.0, rest)

below_at : (n r : ℕ) (then_ held : List Held) → AreHeldBelow n then_ held → is_held r then_ ≡ true → (held_as r held).level < n
below_at n r [] held below is = cc
below_at n r (h ∷ then_) held below is = by_test (nat_eq h.object r) refl is (below_at n r then_ held below.4)
  where
    by_test : (t : Bool) → nat_eq h.object r ≡ t → (t || is_held r then_) ≡ true → (is_held r then_ ≡ true → (held_as r held).level < n) → (held_as r held).level < n
    by_test true eq is rest = subst (λ x. (held_as x held).level < n) (yes_eq h.object r eq) below.1
    by_test false eq is rest = rest is

pub not_among : (r : ℕ) (h : Held) (then_ : List Held) → is_held r (h ∷ then_) ≡ false → (h.object ≢ r) × (is_held r then_ ≡ false)
not_among r h then_ none = by_test (nat_eq h.object r) refl none
  where
    by_test : (t : Bool) → nat_eq h.object r ≡ t → (t || is_held r then_) ≡ false → (h.object ≢ r) × (is_held r then_ ≡ false)
    by_test true eq none = cc
    by_test false eq none = ((λ e. both_ways (nat_eq h.object r) (subst (λ x. nat_eq h.object x ≡ true) e (eq_same h.object)) eq), none)

below_without : (r n : ℕ) (then_ held : List Held) → is_held r then_ ≡ false → AreHeldBelow n then_ held → AreHeldBelow n then_ (without r held)
below_without r n [] held none below = tt
below_without r n (h ∷ then_) held none below =
    let apart = not_among r h then_ none in (
      still_held r h.object held apart.0 ∙ below.0,
      subst (λ (x : Held). x.level < n) (sym (still_as r h.object held apart.0)) below.1,
      below.2,
      below.3,
      below_without r n then_ held apart.1 below.4,
    )

deepened_without : (r : ℕ) (then_ held : List Held) → is_held r then_ ≡ false → deepened then_ (without r held) ≡ deepened then_ held
deepened_without r [] held none = refl
deepened_without r (z ∷ then_) held none =
    let apart = not_among r z then_ none in
    ap (λ (x : Held). if not (nat_eq x.depth z.depth) then z ∷ deepened then_ (without r held) else deepened then_ (without r held)) (still_as r z.object held apart.0)
    ∙ ap (λ xs. if differs held z then z ∷ xs else xs) (deepened_without r then_ held apart.1)

-- ---- the log

none_left : (n : ℕ) (log : List Noted) (x : Noted) (rest : List Noted) → noted_since n log ≡ x ∷ rest → noted_since n (drop 1 log) ≡ rest
none_left n [] x rest is = by_take (0 - n) is
  where
    by_take : (k : ℕ) → take k [] ≡ x ∷ rest → noted_since n [] ≡ rest
    by_take zero is = cc
    by_take (suc k) is = cc
none_left n (y ∷ log) x rest is = by_place (suc (length log) - n) refl is
  where
    one_less : (m n k : ℕ) → suc m - n ≡ suc k → m - n ≡ k
    one_less m n k is = omega (arith, is)

    by_place : (k : ℕ) → suc (length log) - n ≡ k → take k (y ∷ log) ≡ x ∷ rest → noted_since n log ≡ rest
    by_place zero is_k is = cc
    by_place (suc k) is_k is = ap (λ m. take m log) (one_less (length log) n k is_k) ∙ ap (drop 1) is

-- the word at the top of the log is the one that is put back
top_noted : (n : ℕ) (log : List Noted) (x : Noted) (rest : List Noted) → noted_since n log ≡ x ∷ rest → log ≡ x ∷ drop 1 log
top_noted n [] x rest is = by_take (0 - n) is
  where
    by_take : (k : ℕ) → take k [] ≡ x ∷ rest → [] ≡ x ∷ []
    by_take zero is = cc
    by_take (suc k) is = cc
top_noted n (y ∷ log) x rest is = by_place (suc (length log) - n) is
  where
    first : List Noted → Noted
    first [] = y
    first (z ∷ zs) = z

    by_place : (k : ℕ) → take k (y ∷ log) ≡ x ∷ rest → (y ∷ log) ≡ x ∷ log
    by_place zero is = cc
    by_place (suc k) is = ap (λ z. z ∷ log) (ap first is)

-- ---- the walk

module _ {S : Type 0} (code : Code S) (b : Bounds) (w : ℕ) where
  abbrev n : ℕ
  n = revoke_of w

  -- there is room for another counted turn
  next_is : (th : ThreadState S) → th.over ≡ false → nat_le b.limits.turns th.counted ≡ false → th.attempt ≡ Undoing w
      → next_move code b th ≡ Make (undo_next th w n)
  next_is th goes_on room at =
      let rest : Move = move_of code th (code.next th.local) th.attempt in
      ap (λ t. if t then Over else if nat_le b.limits.turns th.counted then Stop Turns else rest) goes_on
      ∙ ap (λ t. if t then Stop Turns else rest) room
      ∙ ap (λ (g : Attempt). move_of code th (code.next th.local) g) at

  released : (th : ThreadState S) (r : ℕ) → th.attempt ≡ Undoing w
      → after_answer code b th (Release r) StepAnswer.Done ≡ record th { held = without r th.held; counted = suc th.counted }
  released th r at =
      ap (λ (change : Change). counted_for (told_of (code.next th.local) (Release r) StepAnswer.Done change (shown change)) (changed code th change))
      (ap (λ (g : Attempt). let_go th (code.next th.local) g r) at)

  set_back : (th : ThreadState S) (r new : ℕ) → th.attempt ≡ Undoing w
      → after_answer code b th (SetDepth r new) StepAnswer.Done ≡ record th { held = with_depth_of r (monitor_depth new) th.held; counted = suc th.counted }
  set_back th r new at =
      ap (λ (change : Change). counted_for (told_of (code.next th.local) (SetDepth r new) StepAnswer.Done change (shown change)) (changed code th change))
      (ap (λ (g : Attempt). depth_set g r (monitor_depth new)) at)

  undone : (th : ThreadState S) (s word : ℕ) → th.attempt ≡ Undoing w
      → after_answer code b th (MarkUndone s word) StepAnswer.Done ≡ record (changed code th (goes_back n)) { counted = suc (changed code th (goes_back n)).counted }
  undone th s word at =
      ap (λ (change : Change). counted_for (told_of (code.next th.local) (MarkUndone s word) StepAnswer.Done change (shown change)) (changed code th change))
      (ap (λ (g : Attempt). undone_at g) at)

  has_room : (counted more : ℕ) → counted + (more + 1) ≤ b.limits.turns → nat_le b.limits.turns counted ≡ false
  has_room counted more room = grind (arith, nat_tests)

  stands : (th : ThreadState S) → StandsAgain code th (record (changed code th (goes_back n)) { counted = suc (changed code th (goes_back n)).counted }) n
  stands th = kept (without_level (record (stood_at th n) { section = section_at (n - 1) th.section; attempt = Begin }) n)
      (record { local = refl; silents = refl; levels = refl; attempt = refl })
    where
      kept : (y : ThreadState S) → StandsAgain code th y n → StandsAgain code th (record (forgotten y) { counted = suc (forgotten y).counted }) n
      kept y was = by_test (is_open y)
        where
          by_test : (t : Bool) → StandsAgain code th (record (if t then y else record y { log = []; saved = []; marks = [] })
              { counted = suc (if t then y else record y { log = []; saved = []; marks = [] }).counted }) n
          by_test true = record { local = was.local; silents = was.silents; levels = was.levels; attempt = was.attempt }
          by_test false = record { local = was.local; silents = was.silents; levels = was.levels; attempt = was.attempt }

  abbrev mark : ThreadState S → Mark
  mark th = mark_of th n

  abbrev Goes : ThreadState S → List Step → Type 0
  Goes th steps = (behind : ThreadState S) × MakesAll code b steps th behind × StandsAgain code th behind n

  -- what is so while the section is undone
  record Way (th : ThreadState S) (log : List Noted) (deep taken : List Held) : Type 0 where
    over : th.over ≡ false
    at : th.attempt ≡ Undoing w
    low : th.section < 2 ^ 32
    fits : HeldFits (mark th) n th.held
    logs : noted_since (mark th).noted th.log ≡ log
    deepens : deepened (reverse (mark th).held) th.held ≡ deep
    takes : from_level n th.held ≡ taken
    room : th.counted + (length log + length deep + length taken + 1) ≤ b.limits.turns

  first_is : (th : ThreadState S) (log : List Noted) (deep taken : List Held) → Way th log deep taken
      → next_move code b th ≡ Make (undo_step th.section w log deep taken)
  first_is th log deep taken way =
      next_is th way.over (has_room th.counted (length log + length deep + length taken) way.room) way.at
      ∙ ap (λ x. Make (undo_step th.section w x (deepened (reverse (mark th).held) th.held) (from_level n th.held))) way.logs
      ∙ ap (λ x. Make (undo_step th.section w log x (from_level n th.held))) way.deepens
      ∙ ap (λ x. Make (undo_step th.section w log deep x)) way.takes

  goes : (log : List Noted) (deep taken : List Held) (th : ThreadState S) → Way th log deep taken → Goes th (undo_steps th.section w log deep taken)
  goes [] [] [] th way = (
    record (changed code th (goes_back n)) { counted = suc (changed code th (goes_back n)).counted },
    (first_is th [] [] [] way, undone th th.section (undone_of w) way.at),
    stands th,
  )
  goes [] [] (h ∷ taken) th way =
      let head = from_head n h taken th.held way.takes way.fits.once in
      let apart : is_held h.object (reverse (mark th).held) ≡ false = away h head.1 head.2 in
      let later : ThreadState S = record th { held = without h.object th.held; counted = suc th.counted } in
      let rest = goes [] [] taken later (record {
        over = way.over;
        at = way.at;
        low = way.low;
        fits = record { once = once_without h.object th.held way.fits.once; then_once = way.fits.then_once; still = below_without h.object n (reverse (mark th).held) th.held apart way.fits.still };
        logs = way.logs;
        deepens = deepened_without h.object (reverse (mark th).held) th.held apart ∙ way.deepens;
        takes = from_next n h taken th.held way.takes way.fits.once;
        room = less th.counted (length taken) b.limits.turns way.room;
      }) in (
        rest.0,
        (
          first_is th [] [] (h ∷ taken) way,
          subst (λ (x : ThreadState S). MakesAll code b (undo_steps th.section w [] [] taken) x rest.0) (sym (released th h.object way.at)) rest.1,
        ),
        record { local = rest.2.local; silents = rest.2.silents; levels = rest.2.levels; attempt = rest.2.attempt },
      )
    where
      less : (c l t : ℕ) → c + (0 + 0 + suc l + 1) ≤ t → suc c + (0 + 0 + l + 1) ≤ t
      less c l t room = omega (arith, room)

      not_low : (l n : ℕ) → l < n → n ≤ l → ⊥
      not_low l n low high = omega (arith, low, high)

      away : (h : Held) → held_as h.object th.held ≡ h → n ≤ h.level → is_held h.object (reverse (mark th).held) ≡ false
      away h same high = by_test (is_held h.object (reverse (mark th).held)) refl
        where
          by_test : (t : Bool) → is_held h.object (reverse (mark th).held) ≡ t → is_held h.object (reverse (mark th).held) ≡ false
          by_test true is = absurd (not_low h.level n (subst (λ (x : Held). x.level < n) same (below_at n h.object (reverse (mark th).held) th.held way.fits.still is)) high)
          by_test false is = is
  goes [] (h ∷ deep) taken th way =
      let r = h.object in
      let inside_ = head_in h deep (reverse (mark th).held) th.held way.deepens in
      let d_is : monitor_depth (held_word th.section h) ≡ h.depth = range (reverse (mark th).held) way.fits.still way.deepens in
      let later : ThreadState S = record th { held = with_depth_of r h.depth th.held; counted = suc th.counted } in
      let rest = goes [] deep taken later (record {
        over = way.over;
        at = way.at;
        low = way.low;
        fits = record { once = once_with r h.depth th.held way.fits.once; then_once = way.fits.then_once; still = below_with r h.depth n (reverse (mark th).held) th.held way.fits.still };
        logs = way.logs;
        deepens = deepened_next n h deep (reverse (mark th).held) th.held way.fits.then_once way.fits.still way.deepens;
        takes = from_with n r h.depth th.held way.fits.once (below_at n r (reverse (mark th).held) th.held way.fits.still inside_) ∙ way.takes;
        room = less th.counted (length deep) (length taken) b.limits.turns way.room;
      }) in (
        rest.0,
        (
          first_is th [] (h ∷ deep) taken way,
          subst (λ (x : ThreadState S). MakesAll code b (undo_steps th.section w [] deep taken) x rest.0)
              (sym (set_back th r (held_word th.section h) way.at ∙ ap (λ d. record th { held = with_depth_of r d th.held; counted = suc th.counted }) d_is)) rest.1,
        ),
        record { local = rest.2.local; silents = rest.2.silents; levels = rest.2.levels; attempt = rest.2.attempt },
      )
    where
      less : (c d l t : ℕ) → c + (0 + suc d + l + 1) ≤ t → suc c + (0 + d + l + 1) ≤ t
      less c d l t room = omega (arith, room)

      range : (then_ : List Held) → AreHeldBelow n then_ th.held → deepened then_ th.held ≡ h ∷ deep → monitor_depth (held_word th.section h) ≡ h.depth
      range [] below is = cc
      range (z ∷ then_) below is = by_test (differs th.held z) is (range then_ below.4)
        where
          first : List Held → Held
          first [] = z
          first (x ∷ xs) = x

          by_test : (t : Bool) → (if t then z ∷ deepened then_ th.held else deepened then_ th.held) ≡ h ∷ deep
              → (deepened then_ th.held ≡ h ∷ deep → monitor_depth (held_word th.section h) ≡ h.depth) → monitor_depth (held_word th.section h) ≡ h.depth
          by_test true is rest = subst (λ (x : Held). monitor_depth (held_word th.section x) ≡ x.depth) (ap first is) (depth_is th.section z.depth z.level way.low below.2 below.3)
          by_test false is rest = rest is
  goes (x ∷ log) deep taken th way =
      let later : ThreadState S = record th { log = drop 1 th.log; counted = suc th.counted } in
      let rest = goes log deep taken later (record {
        over = way.over;
        at = way.at;
        low = way.low;
        fits = way.fits;
        logs = none_left (mark th).noted th.log x log way.logs;
        deepens = way.deepens;
        takes = way.takes;
        room = less th.counted (length log) (length deep) (length taken) b.limits.turns way.room;
      }) in
      (rest.0, (first_is th (x ∷ log) deep taken way, rest.1), record { local = rest.2.local; silents = rest.2.silents; levels = rest.2.levels; attempt = rest.2.attempt })
    where
      less : (c g d l t : ℕ) → c + (suc g + d + l + 1) ≤ t → suc c + (g + d + l + 1) ≤ t
      less c g d l t room = omega (arith, room)

-- how many steps there are
count_steps : (s w : ℕ) (log : List Noted) (deep taken : List Held) → length (undo_steps s w log deep taken) ≡ length log + length deep + length taken + 1
count_steps s w [] [] [] = omega arith
count_steps s w [] [] (h ∷ taken) = more (length (undo_steps s w [] [] taken)) (length taken) (count_steps s w [] [] taken)
  where
    more : (c l : ℕ) → c ≡ 0 + 0 + l + 1 → suc c ≡ 0 + 0 + suc l + 1
    more c l is = omega (arith, is)
count_steps s w [] (h ∷ deep) taken = more (length (undo_steps s w [] deep taken)) (length deep) (length taken) (count_steps s w [] deep taken)
  where
    more : (c d l : ℕ) → c ≡ 0 + d + l + 1 → suc c ≡ 0 + suc d + l + 1
    more c d l is = omega (arith, is)
count_steps s w (x ∷ log) deep taken = more (length (undo_steps s w log deep taken)) (length log) (length deep) (length taken) (count_steps s w log deep taken)
  where
    more : (c g d l : ℕ) → c ≡ g + d + l + 1 → suc c ≡ suc g + d + l + 1
    more c g d l is = omega (arith, is)

pub undo_goes : {S : Type 0} (code : Code S) → UndoGoesThrough code
undo_goes code b th w goes_on at low fits room =
    let mark = mark_of th (revoke_of w) in
    goes code b w (noted_since mark.noted th.log) (deepened_since mark th.held) (from_level (revoke_of w) th.held) th (record {
      over = goes_on;
      at = at;
      low = low;
      fits = fits;
      logs = refl;
      deepens = refl;
      takes = refl;
      room = subst (λ c. th.counted + c ≤ b.limits.turns)
          (count_steps th.section w (noted_since mark.noted th.log) (deepened_since mark th.held) (from_level (revoke_of w) th.held)) room;
    })
