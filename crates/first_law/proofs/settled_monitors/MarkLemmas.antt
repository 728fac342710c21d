-- What the mark of the outermost level that is to be undone says of a monitor.
use Rattle.std.proofs.Common.{◌≡◌, ◌⊎◌, inl, inr, ℕ, suc, ◌+◌, ◌-◌, ◌≤◌, Bool, true, false, ◌||◌, List, [], ◌∷◌, drop, nat_eq, refl, sym, ◌∙◌, ap, subst, arith}
use Rattle.std.specs.Prelude.{if◌then◌else◌}
use Rattle.std.proofs.lemmas.List.{get_or-drop}
use Rattle.section_state.specs.SectionWord.{revoke_of}
use Rattle.thread_automaton.specs.declared.Held.{Held}
use Rattle.thread_automaton.specs.declared.Attempt.{Attempt}
use Rattle.thread_automaton.specs.declared.Attempt.TheVariants.{Undoing}
use Rattle.thread_automaton.specs.ThreadState.{Mark, no_mark, nth_or, held_as}
use Rattle.thread_automaton.specs.Changes.{without}
use Rattle.automaton_rows.specs.Undoing.{is_held, HeldOnce}
use Rattle.section_laws.specs.Marks.{counting_marks}
use Rattle.first_law.specs.Held.{further_out, top_at, MarkHolds, MarksHold}
use Rattle.first_law.proofs.run_monitors.ListLemmas.{let_go_of, further_without}
use Rattle.first_law.proofs.run_monitors.MarkLemmas.{marks_drop, mark_first}
use Rattle.first_law.proofs.run_monitors.UndoLemmas.{none_further, held_sites}

not_held_depth : (r : ℕ) (held : List Held) → is_held r held ≡ false → (held_as r held).depth ≡ 0
not_held_depth r [] none = refl
not_held_depth r (h ∷ held) none = by_test (nat_eq h.object r) none (not_held_depth r held)
  where
    by_test : (t : Bool) → (t || is_held r held) ≡ false → (is_held r held ≡ false → (held_as r held).depth ≡ 0) → (if t then h else held_as r held).depth ≡ 0
    by_test true none rest = cc
    by_test false none rest = rest none

-- a monitor that isn't held, or was taken at level d or further inside, isn't named by the mark of level d
unnamed : (d r : ℕ) (mark : Mark) (held : List Held) → HeldOnce held → MarkHolds d mark held ⊎ (mark ≡ no_mark) → (is_held r held ≡ false) ⊎ ((is_held r held ≡ true) × (d ≤ (held_as r held).level))
    → (held_as r mark.held).depth ≡ 0
unnamed d r mark held once marked which = elim marked [
  | inr none ↦ ap (λ (m : Mark). (held_as r m.held).depth) none
  | inl named ↦ not_held_depth r mark.held (held_sites r mark.held (further_out d held) named.0 ∙ elim which [
    | inl none ↦ none_further d r held none
    | inr deep ↦ ap (is_held r) (sym (further_without d r held once deep.0 deep.1)) ∙ none_further d r (without r held) (let_go_of r held)
  ])
]

-- number n of the marks, where the first j don't count
mark_from : (top j n : ℕ) (marks : List Mark) (held : List Held) → j ≤ n → MarksHold top (drop j marks) held → MarkHolds (top - (n - j)) (nth_or no_mark n marks) held ⊎ (nth_or no_mark n marks ≡ no_mark)
mark_from top j n marks held low marked =
    subst (λ (m : Mark). MarkHolds (top - (n - j)) m held ⊎ (m ≡ no_mark)) (get_or-drop j marks (n - j) no_mark ∙ ap (λ i. nth_or no_mark i marks) (sum n j low))
    (mark_first (n - j) (top - (n - j)) (drop j marks) held (marks_drop (n - j) top (drop j marks) held marked))
  where
    sum : (n j : ℕ) → j ≤ n → j + (n - j) ≡ n
    sum n j low = omega (arith, low)

-- so it is with the mark of the outermost level that is to be undone
pub unmarked_by : (g : Attempt) (levels n r : ℕ) (marks : List Mark) (held : List Held) → HeldOnce held → MarksHold (top_at g levels) (counting_marks g levels marks) held
    → ((w : ℕ) → g ≡ Undoing w → (revoke_of w ≤ levels) × (suc levels ≤ revoke_of w + suc n)) → (is_held r held ≡ false) ⊎ ((is_held r held ≡ true) × (suc levels ≤ (held_as r held).level + suc n))
    → (held_as r (nth_or no_mark n marks).held).depth ≡ 0
unmarked_by (Undoing w) levels n r marks held once marked undoing which =
    let level = undoing w refl in
    unnamed (revoke_of w - (n - (levels - revoke_of w))) r (nth_or no_mark n marks) held once (mark_from (revoke_of w) (levels - revoke_of w) n marks held (inside levels (revoke_of w) n level.1) marked)
    (elim which [ inl none ↦ inl none | inr deep ↦ inr (deep.0, within levels (revoke_of w) n (held_as r held).level level.0 level.1 deep.1) ])
  where
    inside : (l v n : ℕ) → suc l ≤ v + suc n → l - v ≤ n
    inside l v n counts = omega (arith, counts)

    within : (l v n h : ℕ) → v ≤ l → suc l ≤ v + suc n → suc l ≤ h + suc n → v - (n - (l - v)) ≤ h
    within l v n h low counts deep = omega (arith, low, counts, deep)
unmarked_by g levels n r marks held once marked undoing which =
    unnamed (levels - n) r (nth_or no_mark n marks) held once (subst (λ d. MarkHolds d (nth_or no_mark n marks) held ⊎ (nth_or no_mark n marks ≡ no_mark)) (same levels n) (mark_from levels 0 n marks held (omega arith) marked))
    (elim which [ inl none ↦ inl none | inr deep ↦ inr (deep.0, within levels n (held_as r held).level deep.1) ])
  where
    same : (l n : ℕ) → l - (n - 0) ≡ l - n
    same l n = omega arith

    within : (l n h : ℕ) → suc l ≤ h + suc n → l - n ≤ h
    within l n h deep = omega (arith, deep)
