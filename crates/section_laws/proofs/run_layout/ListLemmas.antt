-- What is in parts of lists.
use Rattle.std.proofs.Common.{◌≡◌, ◌⊎◌, inl, inr, ℕ, zero, suc, ◌<◌, not, Bool, List, [], ◌∷◌, length, take, drop, reverse, nat_eq, refl, ◌∙◌, ap, subst, arith}
use mathlib.Core.List.{reverse_aux}
use Rattle.std.specs.Prelude.{Contains, filter, get_or, slice_index_or}
use Rattle.write_log.specs.declared.Noted.{Noted}
use Rattle.thread_automaton.specs.declared.Held.{Held}
use Rattle.thread_automaton.specs.ThreadState.{ThreadState, Mark, no_mark, is_open, with_depth_of}
use Rattle.thread_automaton.specs.Changes.{without}
use Rattle.thread_automaton.specs.Checks.{noted}
use Rattle.automaton_rows.proofs.RowLemmas.{by_if}

abbrev pub In : {A : Type 0} → A → List A → Type 0
In x [] = ⊥
In x (y ∷ xs) = (y ≡ x) ⊎ In x xs

-- what a list has is in it
pub in_list : {A : Type 0} (x : A) (xs : List A) → Contains xs x → In x xs
in_list {A} x xs (k, within, is) = at xs k within is
  where
    at : (xs : List A) (k : ℕ) → k < length xs → slice_index_or xs k x ≡ x → In x xs
    at [] k within is = absurd (no k within)
      where
        no : (k : ℕ) → k < 0 → ⊥
        no k within = omega arith
    at (y ∷ xs) zero within is = inl is
    at (y ∷ xs) (suc k) within is = inr (at xs k (omega (arith, within)) is)

pub in_drop : {A : Type 0} (n : ℕ) (x : A) (xs : List A) → In x (drop n xs) → In x xs
in_drop zero x xs there = there
in_drop (suc n) x [] there = there
in_drop (suc n) x (y ∷ xs) there = inr (in_drop n x xs there)

pub in_take : {A : Type 0} (n : ℕ) (x : A) (xs : List A) → In x (take n xs) → In x xs
in_take zero x xs there = absurd there
in_take (suc n) x [] there = there
in_take (suc n) x (y ∷ xs) (inl is) = inl is
in_take (suc n) x (y ∷ xs) (inr later) = inr (in_take n x xs later)

pub in_filter : {A : Type 0} (test : A → Bool) (x : A) (xs : List A) → In x (filter test xs) → In x xs
in_filter test x [] there = there
in_filter test x (y ∷ xs) there =
    by_if (λ ys. In x ys → (y ≡ x) ⊎ In x xs) (test y) (y ∷ filter test xs) (filter test xs)
    (λ _ kept. elim kept [ inl is ↦ inl is | inr later ↦ inr (in_filter test x xs later) ]) (λ _ kept. inr (in_filter test x xs kept)) there

in_onto : {A : Type 0} (x : A) (xs ys : List A) → In x (reverse_aux xs ys) → In x xs ⊎ In x ys
in_onto x [] ys there = inr there
in_onto x (y ∷ xs) ys there = elim (in_onto x xs (y ∷ ys) there) [
  | inl later ↦ inl (inr later)
  | inr (inl is) ↦ inl (inl is)
  | inr (inr rest) ↦ inr rest
]

pub in_reverse : {A : Type 0} (x : A) (xs : List A) → In x (reverse xs) → In x xs
in_reverse x xs there = elim (in_onto x xs [] there) [ inl is ↦ is | inr none ↦ absurd none ]

-- an element at a place, or where there is none another
pub in_place : {A : Type 0} (n : ℕ) (xs : List A) (d : A) → In (get_or xs n d) xs ⊎ (get_or xs n d ≡ d)
in_place n [] d = inr refl
in_place zero (x ∷ xs) d = inl (inl refl)
in_place (suc n) (x ∷ xs) d = elim (in_place n xs d) [ inl there ↦ inl (inr there) | inr is ↦ inr is ]

-- the monitor of r is one of these
abbrev pub Holds : List Held → ℕ → Type 0
Holds held r = (h : Held) × In h held × (h.object ≡ r)

pub held_without : (r : ℕ) (held : List Held) (q : ℕ) → Holds (without r held) q → Holds held q
held_without r held q (h, there, is) = (h, in_filter (λ h. not (nat_eq h.object r)) h held there, is)

pub held_with : (r depth : ℕ) (held : List Held) (q : ℕ) → Holds (with_depth_of r depth held) q → Holds held q
held_with r depth [] q (h, there, is) = absurd there
held_with r depth (g ∷ held) q (h, there, is) = elim there [
  | inl here ↦ (
    g,
    inl refl,
    by_if (λ (x : Held). x ≡ h → g.object ≡ q) (nat_eq g.object r) (record g { depth = depth }) g
        (λ _ same. ap (λ (x : Held). x.object) same ∙ is) (λ _ same. ap (λ (x : Held). x.object) same ∙ is) here,
  )
  | inr later ↦ let rest = held_with r depth held q (h, later, is) in (rest.0, inr rest.1, rest.2)
]

-- a mark names the monitor of r
abbrev pub WasMarked : List Mark → ℕ → Type 0
WasMarked marks r = (m : Mark) × In m marks × Holds m.held r

pub marked_at : (n : ℕ) (marks : List Mark) (h : Held) → In h (reverse (get_or marks n no_mark).held) → WasMarked marks h.object
marked_at n marks h there =
    let inside = in_reverse h (get_or marks n no_mark).held there in
    elim (in_place n marks no_mark) [
      | inl is ↦ (get_or marks n no_mark, is, (h, inside, refl))
      | inr is ↦ absurd (subst (λ (m : Mark). In h m.held) is inside)
    ]

pub in_noted : {S : Type 0} (th : ThreadState S) (at old : ℕ) (x : Noted) → In x (noted th at old) → In x th.log ⊎ (record { at = at; old = old } ≡ x)
in_noted th at old x there = by_if (λ xs. In x xs → In x th.log ⊎ (record { at = at; old = old } ≡ x)) (is_open th) (record { at = at; old = old } ∷ th.log) th.log
    (λ _ kept. elim kept [ inl is ↦ inr is | inr later ↦ inl later ]) (λ _ kept. inl kept) there
