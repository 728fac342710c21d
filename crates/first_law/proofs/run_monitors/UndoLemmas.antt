-- Undoing a level finds each monitor that the level's mark names, and leaves exactly those held, each as often as then.
use Rattle.std.proofs.Common.{◌≡◌, ◌≢◌, ◌⊎◌, inl, inr, ℕ, ◌^◌, ◌<◌, Bool, true, false, ◌||◌, not, List, [], ◌∷◌, ◌++◌, reverse, nat_eq, refl, sym, ◌∙◌, ap, subst, arith}
use Rattle.std.specs.Prelude.{nat_lt, nat_le, filter, if◌then◌else◌}
use Rattle.std.proofs.lemmas.Grind.{common_steps}
use Rattle.std.proofs.lemmas.Bool.Decides.{nat_tests}
use Rattle.std.proofs.lemmas.List.{reverse-append, reverse-reverse}
use Rattle.write_log.specs.declared.Noted.{Noted}
use Rattle.step_port.specs.declared.step.Step.TheVariants.{MarkUndone}
use Rattle.thread_automaton.specs.declared.Held.{Held}
use Rattle.thread_automaton.specs.ThreadState.{Mark, no_mark, held_as, from_level}
use Rattle.thread_automaton.specs.NextMove.{deepened_since, undo_step}
use Rattle.automaton_rows.specs.Fits.{InLevels}
use Rattle.automaton_rows.specs.Undoing.{is_held, HeldOnce, AreHeldBelow, HeldFits}
use Rattle.automaton_rows.proofs.UndoLemmas.{yes_eq, not_among}
use Rattle.first_law.specs.Held.{further_out, sites, MarkHolds}
use Rattle.first_law.proofs.run_monitors.ListLemmas.{neither, level_fits, as_first, as_later}
use Rattle.first_law.proofs.run_monitors.MarkLemmas.{AreStillHeld, first_site, still_held_by, still_reverse}

-- ---- none is held twice

-- lists with the same sites hold the same monitors
pub held_sites : (r : ℕ) (xs ys : List Held) → sites xs ≡ sites ys → is_held r xs ≡ is_held r ys
held_sites r [] [] same = refl
held_sites r [] (y ∷ ys) same = cc
held_sites r (x ∷ xs) [] same = cc
held_sites r (x ∷ xs) (y ∷ ys) same =
    let parts = first_site (x.object, x.level) (y.object, y.level) (sites xs) (sites ys) same in
    ap (λ n. nat_eq n r || is_held r xs) (ap (λ (p : ℕ × ℕ). p.0) parts.0) ∙ ap (λ t. nat_eq y.object r || t) (held_sites r xs ys parts.1)

once_sites : (xs ys : List Held) → sites xs ≡ sites ys → HeldOnce ys → HeldOnce xs
once_sites [] ys same once = tt
once_sites (x ∷ xs) [] same once = cc
once_sites (x ∷ xs) (y ∷ ys) same once =
    let parts = first_site (x.object, x.level) (y.object, y.level) (sites xs) (sites ys) same in
    (held_sites x.object xs ys parts.1 ∙ ap (λ n. is_held n ys) (ap (λ (p : ℕ × ℕ). p.0) parts.0) ∙ once.0, once_sites xs ys parts.1 once.1)

pub none_further : (n r : ℕ) (held : List Held) → is_held r held ≡ false → is_held r (further_out n held) ≡ false
none_further n r [] none = refl
none_further n r (h ∷ held) none = by_test (nat_lt h.level n) (neither (nat_eq h.object r) (is_held r held) none) (none_further n r held)
  where
    by_test : (t : Bool) → (nat_eq h.object r ≡ false) × (is_held r held ≡ false) → (is_held r held ≡ false → is_held r (further_out n held) ≡ false)
        → is_held r (if t then h ∷ further_out n held else further_out n held) ≡ false
    by_test true both rest = ap (λ t. t || is_held r (further_out n held)) both.0 ∙ rest both.1
    by_test false both rest = rest both.1

once_further : (n : ℕ) (held : List Held) → HeldOnce held → HeldOnce (further_out n held)
once_further n [] once = tt
once_further n (h ∷ held) once = by_test (nat_lt h.level n) (once_further n held once.1)
  where
    by_test : (t : Bool) → HeldOnce (further_out n held) → HeldOnce (if t then h ∷ further_out n held else further_out n held)
    by_test true rest = (none_further n h.object held once.0, rest)
    by_test false rest = rest

none_append : (r : ℕ) (xs ys : List Held) → is_held r xs ≡ false → is_held r ys ≡ false → is_held r (xs ++ ys) ≡ false
none_append r [] ys none none_ys = none_ys
none_append r (x ∷ xs) ys none none_ys =
    let both = neither (nat_eq x.object r) (is_held r xs) none in ap (λ t. t || is_held r (xs ++ ys)) both.0 ∙ none_append r xs ys both.1 none_ys

none_reverse : (r : ℕ) (xs : List Held) → is_held r xs ≡ false → is_held r (reverse xs) ≡ false
none_reverse r [] none = refl
none_reverse r (x ∷ xs) none =
    let both = neither (nat_eq x.object r) (is_held r xs) none in
    ap (is_held r) (reverse-append (x ∷ []) xs) ∙ none_append r (reverse xs) (x ∷ []) (none_reverse r xs both.1) (ap (λ t. t || false) both.0)

once_last : (h : Held) (xs : List Held) → HeldOnce xs → is_held h.object xs ≡ false → HeldOnce (xs ++ h ∷ [])
once_last h [] once none = (refl, tt)
once_last h (x ∷ xs) once none =
    let apart = not_among h.object x xs none in
    (none_append x.object xs (h ∷ []) once.0 (ap (λ t. t || false) (other h.object x.object apart.0)), once_last h xs once.1 apart.1)
  where
    other : (m n : ℕ) → n ≢ m → nat_eq m n ≡ false
    other m n differs = by_test (nat_eq m n) refl
      where
        by_test : (t : Bool) → nat_eq m n ≡ t → nat_eq m n ≡ false
        by_test true is = absurd (differs (sym (yes_eq m n is)))
        by_test false is = is

once_reverse : (xs : List Held) → HeldOnce xs → HeldOnce (reverse xs)
once_reverse [] once = tt
once_reverse (x ∷ xs) once = subst HeldOnce (sym (reverse-append (x ∷ []) xs)) (once_last x (reverse xs) (once_reverse xs once.1) (none_reverse x.object xs once.0))

-- ---- what a mark names is held

below_of : (n : ℕ) (then_ held : List Held) → InLevels held → AreStillHeld n then_ held → AreHeldBelow n then_ held
below_of n [] held each still = tt
below_of n (h ∷ then_) held each still =
    (still.0, subst (λ l. l < n) (sym still.1) still.2, still.4, subst (λ l. l < 2 ^ 8) still.1 (level_fits h.object held each).1, below_of n then_ held each still.5)

pub held_fits : (n : ℕ) (mark : Mark) (held : List Held) → HeldOnce held → InLevels held → MarkHolds n mark held ⊎ (mark ≡ no_mark) → HeldFits mark n held
held_fits n mark held once each marked = elim marked [
  | inl named ↦ record {
    once = once;
    then_once = once_reverse mark.held (once_sites mark.held (further_out n held) named.0 (once_further n held once));
    still = below_of n (reverse mark.held) held each (still_reverse n mark.held held (still_held_by n mark.held held once named.0 named.1));
  }
  | inr none ↦ subst (λ m. HeldFits m n held) (sym none) (record { once = once; then_once = tt; still = tt })
]

-- ---- what is left

last_deepened : (s w x y : ℕ) (log : List Noted) (deepened taken : List Held) → undo_step s w log deepened taken ≡ MarkUndone x y → deepened ≡ []
last_deepened s w x y (e ∷ log) deepened taken is = cc
last_deepened s w x y [] (h ∷ deepened) taken is = cc
last_deepened s w x y [] [] taken is = refl

-- where none is of level n or further inside, all are further out
pub further_whole : (n : ℕ) (held : List Held) → from_level n held ≡ [] → further_out n held ≡ held
further_whole n [] none = refl
further_whole n (h ∷ held) none = by_test (nat_le n h.level) refl none (further_whole n held)
  where
    lower : (n m : ℕ) → nat_le n m ≡ false → nat_lt m n ≡ true
    lower n m is = grind (arith, common_steps, nat_tests)

    by_test : (t : Bool) → nat_le n h.level ≡ t → (if t then h ∷ from_level n held else from_level n held) ≡ [] → (from_level n held ≡ [] → further_out n held ≡ held) → further_out n (h ∷ held) ≡ h ∷ held
    by_test true is none rest = cc
    by_test false is none rest = ap (λ t. if t then h ∷ further_out n held else further_out n held) (lower n h.level is) ∙ ap (λ xs. h ∷ xs) (rest none)

-- each of them is held as often now
abbrev HaveDepths : List Held → List Held → Type 0
HaveDepths held [] = Unit {0}
HaveDepths held (x ∷ xs) = ((held_as x.object held).depth ≡ x.depth) × HaveDepths held xs

have_append : (held xs ys : List Held) → HaveDepths held xs → HaveDepths held ys → HaveDepths held (xs ++ ys)
have_append held [] ys have rest = rest
have_append held (x ∷ xs) ys have rest = (have.0, have_append held xs ys have.1 rest)

have_reverse : (held xs : List Held) → HaveDepths held xs → HaveDepths held (reverse xs)
have_reverse held [] have = tt
have_reverse held (x ∷ xs) have = subst (HaveDepths held) (sym (reverse-append (x ∷ []) xs)) (have_append held (reverse xs) (x ∷ []) (have_reverse held xs have.1) (have.0, tt))

none_differ : (held xs : List Held) → filter (λ h. not (nat_eq (held_as h.object held).depth h.depth)) xs ≡ [] → HaveDepths held xs
none_differ held [] none = tt
none_differ held (x ∷ xs) none = by_test (nat_eq (held_as x.object held).depth x.depth) refl none (none_differ held xs)
  where
    by_test : (t : Bool) → nat_eq (held_as x.object held).depth x.depth ≡ t
        → (if not t then x ∷ filter (λ h. not (nat_eq (held_as h.object held).depth h.depth)) xs else filter (λ h. not (nat_eq (held_as h.object held).depth h.depth)) xs) ≡ []
        → (filter (λ h. not (nat_eq (held_as h.object held).depth h.depth)) xs ≡ [] → HaveDepths held xs) → ((held_as x.object held).depth ≡ x.depth) × HaveDepths held xs
    by_test true is none rest = (yes_eq (held_as x.object held).depth x.depth is, rest none)
    by_test false is none rest = cc

-- each of them is found in the list
abbrev AreFound : List Held → List Held → Type 0
AreFound held [] = Unit {0}
AreFound held (y ∷ ys) = (held_as y.object held ≡ y) × AreFound held ys

found_more : (h : Held) (held ys : List Held) → is_held h.object ys ≡ false → AreFound held ys → AreFound (h ∷ held) ys
found_more h held [] none found = tt
found_more h held (y ∷ ys) none found =
    let apart = not_among h.object y ys none in (as_later h held y.object apart.0 ∙ found.0, found_more h held ys apart.1 found.1)

found_all : (held : List Held) → HeldOnce held → AreFound held held
found_all [] once = tt
found_all (h ∷ held) once = (as_first h held, found_more h held held once.0 (found_all held once.1))

same_held_lists : (held xs ys : List Held) → sites xs ≡ sites ys → HaveDepths held xs → AreFound held ys → ys ≡ xs
same_held_lists held [] [] same have found = refl
same_held_lists held [] (y ∷ ys) same have found = cc
same_held_lists held (x ∷ xs) [] same have found = cc
same_held_lists held (x ∷ xs) (y ∷ ys) same have found =
    let parts = first_site (x.object, x.level) (y.object, y.level) (sites xs) (sites ys) same in
    let object : y.object ≡ x.object = ap (λ (p : ℕ × ℕ). p.0) (sym parts.0) in
    let level : y.level ≡ x.level = ap (λ (p : ℕ × ℕ). p.1) (sym parts.0) in
    let depth : y.depth ≡ x.depth = ap (λ (h : Held). h.depth) (sym found.0) ∙ ap (λ n. (held_as n held).depth) object ∙ have.0 in
    ap (λ n. record y { object = n } ∷ ys) object ∙ ap (λ n. record { object = x.object; level = n; depth = y.depth } ∷ ys) level
    ∙ ap (λ n. record { object = x.object; level = x.level; depth = n } ∷ ys) depth ∙ ap (λ zs. x ∷ zs) (same_held_lists held xs ys parts.1 have.1 found.1)

-- what is held as the level is marked as undone is what the mark names
pub undone_held : (s w n : ℕ) (mark : Mark) (held : List Held) (log : List Noted) (x y : ℕ) → HeldOnce held → MarkHolds n mark held → from_level n held ≡ [] → undo_step s w log (deepened_since mark held) (from_level n held) ≡ MarkUndone x y
    → held ≡ mark.held
undone_held s w n mark held log x y once named none is =
    same_held_lists held mark.held held (named.0 ∙ ap sites (further_whole n held none))
    (subst (HaveDepths held) (reverse-reverse mark.held) (have_reverse held (reverse mark.held) (none_differ held (reverse mark.held) (last_deepened s w x y log (deepened_since mark held) (from_level n held) is))))
    (found_all held once)
