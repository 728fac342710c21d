-- Lists of held monitors: levels, depths and sites.
use Rattle.std.proofs.Common.{◌≡◌, ◌≢◌, ◌⊎◌, inl, inr, ℕ, ◌^◌, ◌<◌, ◌≤◌, Bool, true, false, ◌||◌, not, List, [], ◌∷◌, length, nat_eq, refl, sym, ◌∙◌, ap, subst, arith}
use Rattle.std.specs.Prelude.{nat_lt, if◌then◌else◌}
use Rattle.std.proofs.lemmas.Grind.{common_steps}
use Rattle.std.proofs.lemmas.Bool.Decides.{nat_tests}
use Rattle.thread_automaton.specs.declared.Held.{Held}
use Rattle.thread_automaton.specs.ThreadState.{held_as, with_depth_of, highest}
use Rattle.thread_automaton.specs.Changes.{without}
use Rattle.automaton_rows.specs.Fits.{InLevels}
use Rattle.automaton_rows.specs.Undoing.{is_held, HeldOnce}
use Rattle.automaton_rows.proofs.UndoLemmas.{yes_eq, eq_same, eq_no, without_none}
use Rattle.section_laws.specs.HeldLevels.{AreAtMost}
use Rattle.section_laws.proofs.held_levels.HeldLemmas.{highest_bounds}
use Rattle.first_law.specs.Held.{has_level, LevelsDiffer, DepthsFit, further_out, sites}

-- ---- tests

pub or_left : (a c : Bool) → a ≡ true → (a || c) ≡ true
or_left true c is = refl
or_left false c is = cc

pub or_right : (a c : Bool) → c ≡ true → (a || c) ≡ true
or_right true c is = refl
or_right false c is = is

pub neither : (a c : Bool) → (a || c) ≡ false → (a ≡ false) × (c ≡ false)
neither true c none = cc
neither false c none = (refl, none)

pub less_or : (m n : ℕ) → nat_lt m n ≡ true → m < n
less_or m n is = grind (arith, common_steps, nat_tests)

pub not_less : (m n : ℕ) → nat_lt m n ≡ false → n ≤ m
not_less m n is = grind (arith, common_steps, nat_tests)

pub is_less : (m n : ℕ) → m < n → nat_lt m n ≡ true
is_less m n is = grind (arith, common_steps, nat_tests)

pub is_not_less : (m n : ℕ) → n ≤ m → nat_lt m n ≡ false
is_not_less m n is = grind (arith, common_steps, nat_tests)

pub true_or : (t : Bool) → (t ≡ false → ⊥) → t ≡ true
true_or true other = refl
true_or false other = absurd (other refl)

pub false_or : (t : Bool) → (t ≡ true → ⊥) → t ≡ false
false_or true other = absurd (other refl)
false_or false other = refl

-- ---- levels

pub has_first : (h : Held) (held : List Held) → has_level h.level (h ∷ held) ≡ true
has_first h held = or_left (nat_eq h.level h.level) (has_level h.level held) (eq_same h.level)

pub has_with : (n r d : ℕ) (held : List Held) → has_level n (with_depth_of r d held) ≡ has_level n held
has_with n r d [] = refl
has_with n r d (h ∷ held) = by_test (nat_eq h.object r) (has_with n r d held)
  where
    by_test : (t : Bool) → has_level n (with_depth_of r d held) ≡ has_level n held → has_level n ((if t then record h { depth = d } else h) ∷ with_depth_of r d held) ≡ has_level n (h ∷ held)
    by_test true rest = ap (λ t. nat_eq h.level n || t) rest
    by_test false rest = ap (λ t. nat_eq h.level n || t) rest

pub has_none_without : (n r : ℕ) (held : List Held) → has_level n held ≡ false → has_level n (without r held) ≡ false
has_none_without n r [] none = refl
has_none_without n r (h ∷ held) none = by_test (nat_eq h.object r) (neither (nat_eq h.level n) (has_level n held) none) (has_none_without n r held)
  where
    by_test : (t : Bool) → (nat_eq h.level n ≡ false) × (has_level n held ≡ false) → (has_level n held ≡ false → has_level n (without r held) ≡ false)
        → has_level n (if not t then h ∷ without r held else without r held) ≡ false
    by_test true both rest = rest both.1
    by_test false both rest = ap (λ t. t || has_level n (without r held)) both.0 ∙ rest both.1

-- one that was taken at level n is that of r, or is held beside it
abbrev Parts : ℕ → ℕ → Held → List Held → Bool → Type 0
Parts n r h held t = (((t || is_held r held) ≡ true) × ((if t then h else held_as r held).level ≡ n)) ⊎ (has_level n (if not t then h ∷ without r held else without r held) ≡ true)

pub has_parts : (n r : ℕ) (held : List Held) → HeldOnce held → has_level n held ≡ true → ((is_held r held ≡ true) × ((held_as r held).level ≡ n)) ⊎ (has_level n (without r held) ≡ true)
has_parts n r [] once has = cc
has_parts n r (h ∷ held) once has = by_object (nat_eq h.object r) refl (has_parts n r held once.1)
  where
    by_level : (t : Bool) → nat_eq h.level n ≡ t → nat_eq h.object r ≡ true → (t || has_level n held) ≡ true → Parts n r h held true
    by_level true here own has = inl (refl, yes_eq h.level n here)
    by_level false other own has = inr (ap (has_level n) (without_none r held (subst (λ x. is_held x held ≡ false) (yes_eq h.object r own) once.0)) ∙ has)

    by_rest : (t : Bool) → nat_eq h.level n ≡ t → (t || has_level n held) ≡ true
        → (has_level n held ≡ true → ((is_held r held ≡ true) × ((held_as r held).level ≡ n)) ⊎ (has_level n (without r held) ≡ true)) → Parts n r h held false
    by_rest true here has rest = inr (or_left (nat_eq h.level n) (has_level n (without r held)) here)
    by_rest false other has rest = elim (rest has) [ inl own ↦ inl own | inr more ↦ inr (or_right (nat_eq h.level n) (has_level n (without r held)) more) ]

    by_object : (t : Bool) → nat_eq h.object r ≡ t
        → (has_level n held ≡ true → ((is_held r held ≡ true) × ((held_as r held).level ≡ n)) ⊎ (has_level n (without r held) ≡ true)) → Parts n r h held (nat_eq h.object r)
    by_object true own rest = subst (Parts n r h held) (sym own) (by_level (nat_eq h.level n) refl own has)
    by_object false other rest = subst (Parts n r h held) (sym other) (by_rest (nat_eq h.level n) refl has rest)

-- where all are at most at level m, none is deeper
pub has_at_most : (m n : ℕ) (held : List Held) → AreAtMost m held → has_level n held ≡ true → n ≤ m
has_at_most m n [] each has = cc
has_at_most m n (h ∷ held) each has = by_test (nat_eq h.level n) refl has (has_at_most m n held each.1)
  where
    here : (a c d : ℕ) → a ≡ d → a ≤ c → d ≤ c
    here a c d is low = omega (arith, is, low)

    by_test : (t : Bool) → nat_eq h.level n ≡ t → (t || has_level n held) ≡ true → (has_level n held ≡ true → n ≤ m) → n ≤ m
    by_test true is has rest = here h.level m n (yes_eq h.level n is) each.0
    by_test false is has rest = rest has

pub has_none_deeper : (m n : ℕ) (held : List Held) → AreAtMost m held → m < n → has_level n held ≡ false
has_none_deeper m n held each low = false_or (has_level n held) (λ has. no m n low (has_at_most m n held each has))
  where
    no : (m n : ℕ) → m < n → n ≤ m → ⊥
    no m n low high = omega (arith, low, high)

pub has_below_highest : (n : ℕ) (held : List Held) → has_level n held ≡ true → n ≤ highest held
has_below_highest n held has = has_at_most (highest held) n held (highest_bounds held) has

-- the greatest level is that of one of them
pub has_highest : (h : Held) (held : List Held) → has_level (highest (h ∷ held)) (h ∷ held) ≡ true
has_highest h [] = by_test (nat_lt 0 h.level) refl
  where
    is_zero : (n : ℕ) → nat_lt 0 n ≡ false → nat_eq n 0 ≡ true
    is_zero n none = grind (arith, common_steps, nat_tests)

    by_test : (t : Bool) → nat_lt 0 h.level ≡ t → (nat_eq h.level (if t then h.level else 0) || false) ≡ true
    by_test true some = or_left (nat_eq h.level h.level) false (eq_same h.level)
    by_test false none = or_left (nat_eq h.level 0) false (is_zero h.level none)
has_highest h (k ∷ held) = by_test (nat_lt (highest (k ∷ held)) h.level) (has_highest k held)
  where
    by_test : (t : Bool) → has_level (highest (k ∷ held)) (k ∷ held) ≡ true
        → (nat_eq h.level (if t then h.level else highest (k ∷ held)) || has_level (if t then h.level else highest (k ∷ held)) (k ∷ held)) ≡ true
    by_test true rest = or_left (nat_eq h.level h.level) (has_level h.level (k ∷ held)) (eq_same h.level)
    by_test false rest = or_right (nat_eq h.level (highest (k ∷ held))) (has_level (highest (k ∷ held)) (k ∷ held)) rest

pub has_highest_of : (held : List Held) → 0 < length held → has_level (highest held) held ≡ true
has_highest_of [] some = absurd (no some)
  where
    no : 0 < 0 → ⊥
    no some = omega (arith, some)
has_highest_of (h ∷ held) some = has_highest h held

pub differ_with : (r d : ℕ) (held : List Held) → LevelsDiffer held → LevelsDiffer (with_depth_of r d held)
differ_with r d [] differ = tt
differ_with r d (h ∷ held) differ = by_test (nat_eq h.object r) (differ_with r d held differ.1)
  where
    by_test : (t : Bool) → LevelsDiffer (with_depth_of r d held) → LevelsDiffer ((if t then record h { depth = d } else h) ∷ with_depth_of r d held)
    by_test true rest = (has_with h.level r d held ∙ differ.0, rest)
    by_test false rest = (has_with h.level r d held ∙ differ.0, rest)

pub differ_without : (r : ℕ) (held : List Held) → LevelsDiffer held → LevelsDiffer (without r held)
differ_without r [] differ = tt
differ_without r (h ∷ held) differ = by_test (nat_eq h.object r) (differ_without r held differ.1)
  where
    by_test : (t : Bool) → LevelsDiffer (without r held) → LevelsDiffer (if not t then h ∷ without r held else without r held)
    by_test true rest = rest
    by_test false rest = (has_none_without h.level r held differ.0, rest)

-- beside the monitor of r none has its level
pub level_alone : (r : ℕ) (held : List Held) → HeldOnce held → LevelsDiffer held → is_held r held ≡ true → has_level (held_as r held).level (without r held) ≡ false
level_alone r [] once differ is = cc
level_alone r (h ∷ held) once differ is = by_test (nat_eq h.object r) refl is (level_alone r held once.1 differ.1)
  where
    other_level : (h : Held) (n : ℕ) (rest : List Held) → nat_eq h.level n ≡ false → has_level n rest ≡ false → has_level n (h ∷ rest) ≡ false
    other_level h n rest other none = ap (λ t. t || has_level n rest) other ∙ none

    differs : (h : Held) (held : List Held) (r : ℕ) → has_level h.level held ≡ false → is_held r held ≡ true → nat_eq h.level (held_as r held).level ≡ false
    differs h [] r none is = cc
    differs h (k ∷ held) r none is = at_object (nat_eq k.object r) is (neither (nat_eq k.level h.level) (has_level h.level held) none) (differs h held r)
      where
        turn : (m n : ℕ) → nat_eq m n ≡ false → nat_eq n m ≡ false
        turn m n other = grind (arith, common_steps, nat_tests)

        at_object : (t : Bool) → (t || is_held r held) ≡ true → (nat_eq k.level h.level ≡ false) × (has_level h.level held ≡ false)
            → (has_level h.level held ≡ false → is_held r held ≡ true → nat_eq h.level (held_as r held).level ≡ false) → nat_eq h.level (if t then k else held_as r held).level ≡ false
        at_object true is both rest = turn k.level h.level both.0
        at_object false is both rest = rest both.1 is

    by_test : (t : Bool) → nat_eq h.object r ≡ t → (t || is_held r held) ≡ true → (is_held r held ≡ true → has_level (held_as r held).level (without r held) ≡ false)
        → has_level (if t then h else held_as r held).level (if not t then h ∷ without r held else without r held) ≡ false
    by_test true own is rest = has_none_without h.level r held differ.0
    by_test false other is rest = other_level h (held_as r held).level (without r held) (differs h held r differ.0 is) (rest is)

-- ---- depths

pub depths_with : (r d : ℕ) (held : List Held) → 0 < d → d < 2 ^ 16 → DepthsFit held → DepthsFit (with_depth_of r d held)
depths_with r d [] some low fit = tt
depths_with r d (h ∷ held) some low fit = by_test (nat_eq h.object r) (depths_with r d held some low fit.2)
  where
    by_test : (t : Bool) → DepthsFit (with_depth_of r d held) → DepthsFit ((if t then record h { depth = d } else h) ∷ with_depth_of r d held)
    by_test true rest = (some, low, rest)
    by_test false rest = (fit.0, fit.1, rest)

pub depths_without : (r : ℕ) (held : List Held) → DepthsFit held → DepthsFit (without r held)
depths_without r [] fit = tt
depths_without r (h ∷ held) fit = by_test (nat_eq h.object r) (depths_without r held fit.2)
  where
    by_test : (t : Bool) → DepthsFit (without r held) → DepthsFit (if not t then h ∷ without r held else without r held)
    by_test true rest = rest
    by_test false rest = (fit.0, fit.1, rest)

pub depth_fits : (r : ℕ) (held : List Held) → DepthsFit held → is_held r held ≡ true → (0 < (held_as r held).depth) × ((held_as r held).depth < 2 ^ 16)
depth_fits r [] fit is = cc
depth_fits r (h ∷ held) fit is = by_test (nat_eq h.object r) is (depth_fits r held fit.2)
  where
    by_test : (t : Bool) → (t || is_held r held) ≡ true → (is_held r held ≡ true → (0 < (held_as r held).depth) × ((held_as r held).depth < 2 ^ 16))
        → (0 < (if t then h else held_as r held).depth) × ((if t then h else held_as r held).depth < 2 ^ 16)
    by_test true is rest = (fit.0, fit.1)
    by_test false is rest = rest is

pub level_fits : (r : ℕ) (held : List Held) → InLevels held → (0 < (held_as r held).level) × ((held_as r held).level < 2 ^ 8)
level_fits r [] each = (omega arith, omega arith)
level_fits r (h ∷ held) each = by_test (nat_eq h.object r) (level_fits r held each.2)
  where
    by_test : (t : Bool) → (0 < (held_as r held).level) × ((held_as r held).level < 2 ^ 8) → (0 < (if t then h else held_as r held).level) × ((if t then h else held_as r held).level < 2 ^ 8)
    by_test true rest = (each.0, each.1)
    by_test false rest = rest

-- ---- one of them

pub let_go_of : (r : ℕ) (held : List Held) → is_held r (without r held) ≡ false
let_go_of r [] = refl
let_go_of r (h ∷ held) = by_test (nat_eq h.object r) refl (let_go_of r held)
  where
    by_test : (t : Bool) → nat_eq h.object r ≡ t → is_held r (without r held) ≡ false → is_held r (if not t then h ∷ without r held else without r held) ≡ false
    by_test true own rest = rest
    by_test false other rest = ap (λ t. t || is_held r (without r held)) other ∙ rest

pub held_first : (h : Held) (held : List Held) → is_held h.object (h ∷ held) ≡ true
held_first h held = or_left (nat_eq h.object h.object) (is_held h.object held) (eq_same h.object)

pub as_first : (h : Held) (held : List Held) → held_as h.object (h ∷ held) ≡ h
as_first h held = ap (λ t. if t then h else held_as h.object held) (eq_same h.object)

pub held_later : (h : Held) (held : List Held) (q : ℕ) → q ≢ h.object → is_held q (h ∷ held) ≡ is_held q held
held_later h held q other = ap (λ t. t || is_held q held) (eq_no h.object q (λ same. other (sym same)))

pub as_later : (h : Held) (held : List Held) (q : ℕ) → q ≢ h.object → held_as q (h ∷ held) ≡ held_as q held
as_later h held q other = ap (λ t. if t then h else held_as q held) (eq_no h.object q (λ same. other (sym same)))

pub as_object : (r : ℕ) (held : List Held) → (held_as r held).object ≡ r
as_object r [] = refl
as_object r (h ∷ held) = by_test (nat_eq h.object r) refl (as_object r held)
  where
    by_test : (t : Bool) → nat_eq h.object r ≡ t → (held_as r held).object ≡ r → (if t then h else held_as r held).object ≡ r
    by_test true own rest = yes_eq h.object r own
    by_test false other rest = rest

-- another depth of one changes that one alone
pub as_with : (r d : ℕ) (held : List Held) → is_held r held ≡ true → held_as r (with_depth_of r d held) ≡ record (held_as r held) { depth = d }
as_with r d [] is = cc
as_with r d (h ∷ held) is = by_test (nat_eq h.object r) refl is (as_with r d held)
  where
    by_test : (t : Bool) → nat_eq h.object r ≡ t → (t || is_held r held) ≡ true → (is_held r held ≡ true → held_as r (with_depth_of r d held) ≡ record (held_as r held) { depth = d })
        → held_as r ((if t then record h { depth = d } else h) ∷ with_depth_of r d held) ≡ record (if t then h else held_as r held) { depth = d }
    by_test true own is rest = ap (λ t. if t then record h { depth = d } else held_as r (with_depth_of r d held)) own
    by_test false other is rest = ap (λ t. if t then h else held_as r (with_depth_of r d held)) other ∙ rest is

pub as_with_other : (r q d : ℕ) (held : List Held) → q ≢ r → held_as q (with_depth_of r d held) ≡ held_as q held
as_with_other r q d [] other = refl
as_with_other r q d (h ∷ held) other = by_test (nat_eq h.object r) refl (as_with_other r q d held other)
  where
    by_test : (t : Bool) → nat_eq h.object r ≡ t → held_as q (with_depth_of r d held) ≡ held_as q held
        → held_as q ((if t then record h { depth = d } else h) ∷ with_depth_of r d held) ≡ (if nat_eq h.object q then h else held_as q held)
    by_test true own rest =
        let apart = eq_no h.object q (λ same. other (sym same ∙ yes_eq h.object r own)) in
        ap (λ t. if t then record h { depth = d } else held_as q (with_depth_of r d held)) apart ∙ rest ∙ sym (ap (λ t. if t then h else held_as q held) apart)
    by_test false apart rest = ap (λ (x : Held). if nat_eq h.object q then h else x) rest

-- ---- sites

pub sites_with : (n r d : ℕ) (held : List Held) → sites (further_out n (with_depth_of r d held)) ≡ sites (further_out n held)
sites_with n r d [] = refl
sites_with n r d (h ∷ held) = by_test (nat_eq h.object r) (sites_with n r d held)
  where
    by_level : (t : Bool) (x : Held) → (x.object ≡ h.object) × (x.level ≡ h.level) → sites (further_out n (with_depth_of r d held)) ≡ sites (further_out n held)
        → sites (if t then x ∷ further_out n (with_depth_of r d held) else further_out n (with_depth_of r d held)) ≡ sites (if t then h ∷ further_out n held else further_out n held)
    by_level true x same rest = ap (λ s. (s, x.level) ∷ sites (further_out n (with_depth_of r d held))) same.0 ∙ ap (λ l. (h.object, l) ∷ sites (further_out n (with_depth_of r d held))) same.1
        ∙ ap (λ xs. (h.object, h.level) ∷ xs) rest
    by_level false x same rest = rest

    by_test : (t : Bool) → sites (further_out n (with_depth_of r d held)) ≡ sites (further_out n held)
        → sites (further_out n ((if t then record h { depth = d } else h) ∷ with_depth_of r d held)) ≡ sites (further_out n (h ∷ held))
    by_test true rest = by_level (nat_lt h.level n) (record h { depth = d }) (refl, refl) rest
    by_test false rest = by_level (nat_lt h.level n) h (refl, refl) rest

pub further_all : (m n : ℕ) (held : List Held) → AreAtMost m held → m < n → further_out n held ≡ held
further_all m n [] each low = refl
further_all m n (h ∷ held) each low = ap (λ t. if t then h ∷ further_out n held else further_out n held) (is_less h.level n (lower h.level m n each.0 low)) ∙ ap (λ xs. h ∷ xs) (further_all m n held each.1 low)
  where
    lower : (a m n : ℕ) → a ≤ m → m < n → a < n
    lower a m n low high = omega (arith, low, high)

pub further_first : (n : ℕ) (h : Held) (held : List Held) → n ≤ h.level → further_out n (h ∷ held) ≡ further_out n held
further_first n h held deep = ap (λ t. if t then h ∷ further_out n held else further_out n held) (is_not_less h.level n deep)

pub further_without : (n r : ℕ) (held : List Held) → HeldOnce held → is_held r held ≡ true → n ≤ (held_as r held).level → further_out n (without r held) ≡ further_out n held
further_without n r [] once is deep = refl
further_without n r (h ∷ held) once is deep = by_test (nat_eq h.object r) refl is deep (further_without n r held once.1)
  where
    by_test : (t : Bool) → nat_eq h.object r ≡ t → (t || is_held r held) ≡ true → n ≤ (if t then h else held_as r held).level
        → (is_held r held ≡ true → n ≤ (held_as r held).level → further_out n (without r held) ≡ further_out n held)
        → further_out n (if not t then h ∷ without r held else without r held) ≡ further_out n (h ∷ held)
    by_test true own is deep rest = ap (further_out n) (without_none r held (subst (λ x. is_held x held ≡ false) (yes_eq h.object r own) once.0)) ∙ sym (further_first n h held deep)
    by_test false other is deep rest = ap (λ xs. if nat_lt h.level n then h ∷ xs else xs) (rest is deep)
