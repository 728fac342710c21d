-- Marks of levels, and what undoing makes of them.
use Rattle.std.proofs.Common.{◌≡◌, ◌⊎◌, inl, inr, ℕ, zero, suc, ◌-◌, ◌^◌, ◌<◌, ◌≤◌, Bool, true, false, List, [], ◌∷◌, ◌++◌, length, reverse, drop, nat_eq, refl, sym, ◌∙◌, ap, subst, arith}
use Rattle.std.specs.Prelude.{nat_lt, filter, if◌then◌else◌}
use Rattle.std.proofs.lemmas.List.{reverse-append}
use Rattle.write_log.specs.declared.Noted.{Noted}
use Rattle.monitor_core.specs.Monitors.{monitor_word, monitor_section, monitor_depth, monitor_level}
use Rattle.step_port.specs.declared.step.Step.{Step}
use Rattle.step_port.specs.declared.step.Step.TheVariants.{SetDepth, Release}
use Rattle.thread_automaton.specs.declared.Held.{Held}
use Rattle.thread_automaton.specs.ThreadState.{Mark, no_mark, nth_or, held_as, from_level}
use Rattle.thread_automaton.specs.NextMove.{held_word, deepened_since, undo_step}
use Rattle.automaton_rows.specs.Fits.{InLevels}
use Rattle.automaton_rows.specs.Undoing.{is_held, HeldOnce}
use Rattle.automaton_rows.proofs.UndoLemmas.{eq_same, eq_no, both_ways, depth_is, from_head}
use Rattle.first_law.specs.Held.{DepthsFit, further_out, sites, MarkHolds, MarksHold}
use Rattle.first_law.proofs.run_monitors.ListLemmas.{or_left, or_right, less_or, level_fits}

-- ---- the parts of a monitor's word

pub section_is : (s d l : ℕ) → s < 2 ^ 32 → d < 2 ^ 16 → l < 2 ^ 8 → monitor_section (monitor_word s d l) ≡ s
unfolding monitor_section monitor_word
section_is s d l low small few = omega (arith, low, small, few)

pub level_is : (s d l : ℕ) → s < 2 ^ 32 → d < 2 ^ 16 → l < 2 ^ 8 → monitor_level (monitor_word s d l) ≡ l
unfolding monitor_level monitor_word
level_is s d l low small few = omega (arith, low, small, few)

pub word_some : (s d l : ℕ) → 0 < s → monitor_word s d l ≡ 0 → ⊥
unfolding monitor_word
word_some s d l some none = omega (arith, some, none)

pub section_of_zero : monitor_section 0 ≡ 0
unfolding monitor_section
section_of_zero = refl

-- ---- lists of marks

-- what is named of each level up to the n-th stays
pub marks_to : (n : ℕ) (marks : List Mark) (held behind : List Held) → ((m : ℕ) → m ≤ n → sites (further_out m behind) ≡ sites (further_out m held)) → MarksHold n marks held → MarksHold n marks behind
marks_to n [] held behind same marked = tt
marks_to n (m ∷ marks) held behind same marked =
    ((marked.0.0 ∙ sym (same n (whole n)), marked.0.1), marks_to (n - 1) marks held behind (λ k low. same k (less k n low)) marked.1)
  where
    whole : (n : ℕ) → n ≤ n
    whole n = omega arith

    less : (k n : ℕ) → k ≤ n - 1 → k ≤ n
    less k n low = omega (arith, low)

pub marks_drop : (j n : ℕ) (marks : List Mark) (held : List Held) → MarksHold n marks held → MarksHold (n - j) (drop j marks) held
marks_drop zero n marks held marked = subst (λ m. MarksHold m marks held) (same n) marked
  where
    same : (n : ℕ) → n ≡ n - 0
    same n = omega arith
marks_drop (suc j) n [] held marked = tt
marks_drop (suc j) n (m ∷ marks) held marked = subst (λ k. MarksHold k (drop j marks) held) (same n j) (marks_drop j (n - 1) marks held marked.1)
  where
    same : (n j : ℕ) → n - 1 - j ≡ n - suc j
    same n j = omega arith

-- one more is left out
pub marks_suc : (j n : ℕ) (marks : List Mark) (held : List Held) → MarksHold n (drop j marks) held → MarksHold (n - 1) (drop (suc j) marks) held
marks_suc zero n [] held marked = tt
marks_suc zero n (m ∷ marks) held marked = marked.1
marks_suc (suc j) n [] held marked = tt
marks_suc (suc j) n (m ∷ marks) held marked = marks_suc j n marks held marked

-- the first of those that are left
pub mark_first : (j n : ℕ) (marks : List Mark) (held : List Held) → MarksHold n (drop j marks) held → MarkHolds n (nth_or no_mark j marks) held ⊎ (nth_or no_mark j marks ≡ no_mark)
mark_first zero n [] held marked = inr refl
mark_first zero n (m ∷ marks) held marked = inl marked.0
mark_first (suc j) n [] held marked = inr refl
mark_first (suc j) n (m ∷ marks) held marked = mark_first j n marks held marked

pub mark_there : (j n : ℕ) (marks : List Mark) (held : List Held) → j < length marks → MarksHold n (drop j marks) held → MarkHolds n (nth_or no_mark j marks) held
mark_there j n [] held within marked = absurd (no j within)
  where
    no : (j : ℕ) → j < 0 → ⊥
    no j within = omega (arith, within)
mark_there zero n (m ∷ marks) held within marked = marked.0
mark_there (suc j) n (m ∷ marks) held within marked = mark_there j n marks held (less j (length marks) within) marked
  where
    less : (j l : ℕ) → suc j < suc l → j < l
    less j l within = omega (arith, within)

-- ---- what a mark names is held

-- each of them is held, with its level, and was taken further out than level n
abbrev pub AreStillHeld : ℕ → List Held → List Held → Type 0
AreStillHeld n [] held = Unit {0}
AreStillHeld n (h ∷ then_) held = (is_held h.object held ≡ true) × ((held_as h.object held).level ≡ h.level) × (h.level < n) × (0 < h.depth) × (h.depth < 2 ^ 16) × AreStillHeld n then_ held

pub first_site : (a c : ℕ × ℕ) (xs ys : List (ℕ × ℕ)) → a ∷ xs ≡ c ∷ ys → (a ≡ c) × (xs ≡ ys)
first_site a c xs ys same = (ap first same, ap (drop 1) same)
  where
    first : List (ℕ × ℕ) → ℕ × ℕ
    first [] = a
    first (x ∷ xs) = x

-- what is held further in front stays so
still_more : (n : ℕ) (h : Held) (then_ held : List Held) → is_held h.object held ≡ false → AreStillHeld n then_ held → AreStillHeld n then_ (h ∷ held)
still_more n h [] held new still = tt
still_more n h (k ∷ then_) held new still =
    let apart = eq_no h.object k.object (λ same. both_ways (is_held h.object held) (subst (λ r. is_held r held ≡ true) (sym same) still.0) new) in (
      or_right (nat_eq h.object k.object) (is_held k.object held) still.0,
      ap (λ t. (if t then h else held_as k.object held).level) apart ∙ still.1,
      still.2,
      still.3,
      still.4,
      still_more n h then_ held new still.5,
    )

pub still_held_by : (n : ℕ) (then_ held : List Held) → HeldOnce held → sites then_ ≡ sites (further_out n held) → DepthsFit then_ → AreStillHeld n then_ held
still_held_by n [] held once same fit = tt
still_held_by n (k ∷ then_) [] once same fit = cc
still_held_by n (k ∷ then_) (h ∷ held) once same fit = by_level (nat_lt h.level n) refl same (λ xs ys. still_held_by n xs held once.1 ys) (still_held_by n then_ held once.1)
  where
    by_level : (t : Bool) → nat_lt h.level n ≡ t → (k.object, k.level) ∷ sites then_ ≡ sites (if t then h ∷ further_out n held else further_out n held)
        → ((xs : List Held) → sites xs ≡ sites (further_out n held) → DepthsFit xs → AreStillHeld n xs held) → (sites then_ ≡ sites (further_out n held) → DepthsFit then_ → AreStillHeld n then_ held)
        → AreStillHeld n (k ∷ then_) (h ∷ held)
    by_level true low same all rest =
        let parts = first_site (k.object, k.level) (h.object, h.level) (sites then_) (sites (further_out n held)) same in
        let here : h.object ≡ k.object = ap (λ (p : ℕ × ℕ). p.0) (sym parts.0) in
        let is : nat_eq h.object k.object ≡ true = subst (λ r. nat_eq h.object r ≡ true) here (eq_same h.object) in (
          or_left (nat_eq h.object k.object) (is_held k.object held) is,
          ap (λ t. (if t then h else held_as k.object held).level) is ∙ ap (λ (p : ℕ × ℕ). p.1) (sym parts.0),
          subst (λ l. l < n) (ap (λ (p : ℕ × ℕ). p.1) (sym parts.0)) (less_or h.level n low),
          fit.0,
          fit.1,
          still_more n h then_ held once.0 (rest parts.1 fit.2),
        )
    by_level false high same all rest = still_more n h (k ∷ then_) held once.0 (all (k ∷ then_) same fit)

still_append : (n : ℕ) (xs ys held : List Held) → AreStillHeld n xs held → AreStillHeld n ys held → AreStillHeld n (xs ++ ys) held
still_append n [] ys held first rest = rest
still_append n (h ∷ xs) ys held first rest = (first.0, first.1, first.2, first.3, first.4, still_append n xs ys held first.5 rest)

pub still_reverse : (n : ℕ) (xs held : List Held) → AreStillHeld n xs held → AreStillHeld n (reverse xs) held
still_reverse n [] held still = tt
still_reverse n (h ∷ xs) held still =
    subst (λ ys. AreStillHeld n ys held) (sym (reverse-append (h ∷ []) xs)) (still_append n (reverse xs) (h ∷ []) held (still_reverse n xs held still.5) (still.0, still.1, still.2, still.3, still.4, tt))

still_filter : (n : ℕ) (test : Held → Bool) (xs held : List Held) → AreStillHeld n xs held → AreStillHeld n (filter test xs) held
still_filter n test [] held still = tt
still_filter n test (h ∷ xs) held still = by_test (test h) (still_filter n test xs held still.5)
  where
    by_test : (t : Bool) → AreStillHeld n (filter test xs) held → AreStillHeld n (if t then h ∷ filter test xs else filter test xs) held
    by_test true rest = (still.0, still.1, still.2, still.3, still.4, rest)
    by_test false rest = rest

-- ---- steps of undoing

-- a monitor that undoing gives its depth of then is held, at the level of then
pub record SetsBack (section r new : ℕ) (held : List Held) : Type 0 where
  pub has : is_held r held ≡ true
  pub some : 0 < monitor_depth new
  pub low : monitor_depth new < 2 ^ 16
  pub word : new ≡ held_word section (record (held_as r held) { depth = monitor_depth new })

set_step : (s w r new : ℕ) (log : List Noted) (deepened taken : List Held) → undo_step s w log deepened taken ≡ SetDepth r new
    → (h : Held) × (rest : List Held) × (deepened ≡ h ∷ rest) × (h.object ≡ r) × (held_word s h ≡ new)
set_step s w r new (x ∷ log) deepened taken is = cc
set_step s w r new [] (h ∷ deepened) taken is = (h, deepened, refl, ap object_in is, ap word_in is)
  where
    object_in : Step → ℕ
    object_in (SetDepth q m) = q
    object_in step = h.object

    word_in : Step → ℕ
    word_in (SetDepth q m) = m
    word_in step = held_word s h
set_step s w r new [] [] (h ∷ taken) is = cc
set_step s w r new [] [] [] is = cc

pub sets_back_so : (s w r new n : ℕ) (mark : Mark) (held taken : List Held) (log : List Noted) → s < 2 ^ 32 → HeldOnce held → InLevels held
    → MarkHolds n mark held ⊎ (mark ≡ no_mark) → undo_step s w log (deepened_since mark held) taken ≡ SetDepth r new → SetsBack s r new held
sets_back_so s w r new n mark held taken log low once each marked is = elim marked [
  | inr none ↦ none_set (subst (λ m. undo_step s w log (deepened_since m held) taken ≡ SetDepth r new) none is)
  | inl named ↦ by_head (set_step s w r new log (deepened_since mark held) taken is)
      (still_filter n _ (reverse mark.held) held (still_reverse n mark.held held (still_held_by n mark.held held once named.0 named.1)))
]
  where
    none_set : undo_step s w log [] taken ≡ SetDepth r new → SetsBack s r new held
    none_set is = let found = set_step s w r new log [] taken is in absurd (no found.0 found.1 found.2)
      where
        no : (h : Held) (rest : List Held) → [] ≡ h ∷ rest → ⊥
        no h rest same = cc

    by_head : (h : Held) × (rest : List Held) × (deepened_since mark held ≡ h ∷ rest) × (h.object ≡ r) × (held_word s h ≡ new) → AreStillHeld n (deepened_since mark held) held → SetsBack s r new held
    by_head found still =
        let h = found.0 in
        let here = subst (λ xs. AreStillHeld n xs held) found.2 still in
        let level = level_fits h.object held each in
        let depth : monitor_depth new ≡ h.depth = ap monitor_depth (sym found.4) ∙ depth_is s h.depth h.level low here.4 (subst (λ l. l < 2 ^ 8) here.1 level.1) in
        record {
          has = subst (λ q. is_held q held ≡ true) found.3 here.0;
          some = subst (λ d. 0 < d) (sym depth) here.3;
          low = subst (λ d. d < 2 ^ 16) (sym depth) here.4;
          word = sym found.4 ∙ ap (λ d. monitor_word s d h.level) (sym depth) ∙ ap (λ l. monitor_word s (monitor_depth new) l) (sym here.1)
              ∙ ap (λ q. monitor_word s (monitor_depth new) (held_as q held).level) found.3;
        }

release_of : (s w r : ℕ) (log : List Noted) (deepened taken : List Held) → undo_step s w log deepened taken ≡ Release r → (h : Held) × (rest : List Held) × (taken ≡ h ∷ rest) × (h.object ≡ r)
release_of s w r (x ∷ log) deepened taken is = cc
release_of s w r [] (h ∷ deepened) taken is = cc
release_of s w r [] [] (h ∷ taken) is = (h, taken, refl, ap object_in is)
  where
    object_in : Step → ℕ
    object_in (Release q) = q
    object_in step = h.object
release_of s w r [] [] [] is = cc

-- a monitor that undoing releases is held, and was taken at level n or further inside
pub gives_back_so : (s w r n : ℕ) (held deepened : List Held) (log : List Noted) → HeldOnce held → undo_step s w log deepened (from_level n held) ≡ Release r
    → (is_held r held ≡ true) × (n ≤ (held_as r held).level)
gives_back_so s w r n held deepened log once is =
    let found = release_of s w r log deepened (from_level n held) is in
    let head = from_head n found.0 found.1 held found.2 once in (
      subst (λ q. is_held q held ≡ true) found.3 head.0,
      subst (λ q. n ≤ (held_as q held).level) found.3 (subst (λ (x : Held). n ≤ x.level) (sym head.1) head.2),
    )
