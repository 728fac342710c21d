-- The words that are logged since each level opened, as the log, the marks and the words change.
use Rattle.std.proofs.Common.{◌≡◌, ◌≢◌, ◌⊎◌, inl, inr, ℕ, zero, suc, ◌-◌, ◌<◌, ◌≤◌, ◌||◌, Bool, true, false, List, [], ◌∷◌, length, take, drop, nat_eq, refl, sym, ◌∙◌, ap, subst, arith}
use Rattle.std.proofs.lemmas.Grind.{common_steps}
use Rattle.std.proofs.lemmas.Bool.Decides.{nat_tests}
use Rattle.op_core.proofs.PointwiseLemmas.{same_or_other}
use Rattle.write_log.specs.declared.Noted.{Noted}
use Rattle.thread_automaton.specs.ThreadState.{Mark, no_mark, nth_or, noted_since}
use Rattle.section_laws.specs.Settled.{notes, Carries}
use Rattle.section_laws.proofs.settled_lists.PartLemmas.{none_since, more_since}
use Rattle.section_laws.specs.Marks.{MarksFall}
use Rattle.written_words.specs.Noted.{AreOwnFrom}

-- The marks, the newest first, are those of level n and of the levels outside of it. What was logged since a level opened that
-- isn't pinned is the section's own.
abbrev pub PartsAreOwn : ℕ → ℕ → ℕ → List Mark → List Noted → (ℕ → ℕ) → Type 0
PartsAreOwn s pinned n [] log heap = Unit {0}
PartsAreOwn s pinned n (m ∷ marks) log heap = (pinned < n → AreOwnFrom s n heap (noted_since m.noted log)) × PartsAreOwn s pinned (n - 1) marks log heap

-- ---- logs

none_taken : {A : Type 0} (k : ℕ) → take {A = A} k [] ≡ []
none_taken zero = refl
none_taken (suc k) = refl

pub own_none : (s n : ℕ) (heap : ℕ → ℕ) (log : List Noted) → log ≡ [] → AreOwnFrom s n heap log
own_none s n heap log none = subst (AreOwnFrom s n heap) (sym none) (λ p has. cc, tt)

-- what is logged since then is logged
notes_taken : (p k : ℕ) (log : List Noted) → notes p (take k log) ≡ true → notes p log ≡ true
notes_taken p zero log has = cc
notes_taken p (suc k) [] has = has
notes_taken p (suc k) (x ∷ log) has = by_test (nat_eq x.at p) refl (λ later. notes_taken p k log later) has
  where
    by_test : (t : Bool) → nat_eq x.at p ≡ t → (notes p (take k log) ≡ true → notes p log ≡ true) → (t || notes p (take k log)) ≡ true → (nat_eq x.at p || notes p log) ≡ true
    by_test true is more has = ap (λ t. t || notes p log) is
    by_test false is more has = ap (λ t. t || notes p log) is ∙ more has

pub notes_since : (p n : ℕ) (log : List Noted) → notes p (noted_since n log) ≡ true → notes p log ≡ true
notes_since p n log has = notes_taken p (length log - n) log has

pub notes_first : (x : Noted) (log : List Noted) → notes x.at (x ∷ log) ≡ true
notes_first x log = ap (λ t. t || notes x.at log) (same x.at)
  where
    same : (n : ℕ) → nat_eq n n ≡ true
    same n = grind (arith, common_steps, nat_tests)

pub notes_later : (p : ℕ) (x : Noted) (log : List Noted) → notes p log ≡ true → notes p (x ∷ log) ≡ true
notes_later p x log has = by_test (nat_eq x.at p)
  where
    by_test : (t : Bool) → (t || notes p log) ≡ true
    by_test true = refl
    by_test false = has

notes_parts : (p : ℕ) (x : Noted) (log : List Noted) → notes p (x ∷ log) ≡ true → p ≢ x.at → notes p log ≡ true
notes_parts p x log has other = by_test (nat_eq x.at p) refl has
  where
    same : (m n : ℕ) → nat_eq m n ≡ true → n ≡ m
    same m n is = grind (arith, common_steps, nat_tests)

    by_test : (t : Bool) → nat_eq x.at p ≡ t → (t || notes p log) ≡ true → notes p log ≡ true
    by_test true is has = absurd (other (same x.at p is))
    by_test false is has = has

-- ---- one part

-- a word changes that isn't the section's own
own_elsewhere : (s n : ℕ) (heap heap' : ℕ → ℕ) (log : List Noted) → ((q : ℕ) → notes q log ≡ true → (heap' q ≡ heap q) ⊎ (Carries s n (heap q) → ⊥)) → AreOwnFrom s n heap log → AreOwnFrom s n heap' log
own_elsewhere s n heap heap' log same (carries, again) = (
  λ q has. elim (same q has) [ inl is ↦ subst (Carries s n) (sym is) (carries q has) | inr other ↦ absurd (other (carries q has)) ],
  again,
)

-- the section writes a word, and logs the old one
own_written : (s n : ℕ) (heap heap' : ℕ → ℕ) (x : Noted) (log : List Noted) → x.old ≡ heap x.at → Carries s n (heap' x.at) → ((q : ℕ) → q ≢ x.at → notes q log ≡ true → heap' q ≡ heap q)
    → AreOwnFrom s n heap log → AreOwnFrom s n heap' (x ∷ log)
own_written s n heap heap' x log old new same (carries, again) = (
  λ q has. elim (same_or_other q x.at) [
    | inl here ↦ subst (λ p. Carries s n (heap' p)) (sym here) new
    | inr other ↦ let later = notes_parts q x log has other in subst (Carries s n) (sym (same q other later)) (carries q later)
  ],
  (λ more. subst (Carries s n) (sym old) (carries x.at more), again),
)

-- the word that was logged last is put back
own_put_back : (s n : ℕ) (heap heap' : ℕ → ℕ) (x : Noted) (log : List Noted) → heap' x.at ≡ x.old → ((q : ℕ) → q ≢ x.at → notes q log ≡ true → heap' q ≡ heap q)
    → AreOwnFrom s n heap (x ∷ log) → AreOwnFrom s n heap' log
own_put_back s n heap heap' x log old same (carries, again) = (
  λ q has. elim (same_or_other q x.at) [
    | inl here ↦ subst (λ p. Carries s n (heap' p)) (sym here) (subst (Carries s n) (sym old) (again.0 (subst (λ p. notes p log ≡ true) here has)))
    | inr other ↦ subst (Carries s n) (sym (same q other has)) (carries q (notes_later q x log has))
  ],
  again.1,
)

-- ---- all parts

pub parts_none : (s pinned n : ℕ) (marks : List Mark) (heap : ℕ → ℕ) → PartsAreOwn s pinned n marks [] heap
parts_none s pinned n [] heap = tt
parts_none s pinned n (m ∷ marks) heap = (λ deep. own_none s n heap (noted_since m.noted []) (none_taken (0 - m.noted)), parts_none s pinned (n - 1) marks heap)

-- without a level that counts
pub parts_zero : (s pinned n : ℕ) (marks : List Mark) (log : List Noted) (heap : ℕ → ℕ) → n ≡ 0 → PartsAreOwn s pinned n marks log heap
parts_zero s pinned n [] log heap none = tt
parts_zero s pinned n (m ∷ marks) log heap none = (λ deep. absurd (no pinned n none deep), parts_zero s pinned (n - 1) marks log heap (less n none))
  where
    no : (p n : ℕ) → n ≡ 0 → p < n → ⊥
    no p n none deep = omega (arith, none, deep)

    less : (n : ℕ) → n ≡ 0 → n - 1 ≡ 0
    less n none = omega (arith, none)

pub parts_deeper : (s p q n : ℕ) (marks : List Mark) (log : List Noted) (heap : ℕ → ℕ) → p ≤ q → PartsAreOwn s p n marks log heap → PartsAreOwn s q n marks log heap
parts_deeper s p q n [] log heap low parts = tt
parts_deeper s p q n (m ∷ marks) log heap low parts = (λ deep. parts.0 (omega (arith, low, deep)), parts_deeper s p q (n - 1) marks log heap low parts.1)

pub parts_elsewhere : (s pinned n : ℕ) (marks : List Mark) (log : List Noted) (heap heap' : ℕ → ℕ)
    → ((q : ℕ) → notes q log ≡ true → (heap' q ≡ heap q) ⊎ ((m : ℕ) → pinned < m → Carries s m (heap q) → ⊥)) → PartsAreOwn s pinned n marks log heap → PartsAreOwn s pinned n marks log heap'
parts_elsewhere s pinned n [] log heap heap' same parts = tt
parts_elsewhere s pinned n (m ∷ marks) log heap heap' same parts = (
  λ deep. own_elsewhere s n heap heap' (noted_since m.noted log)
      (λ q has. elim (same q (notes_since q m.noted log has)) [ inl is ↦ inl is | inr other ↦ inr (other n deep) ]) (parts.0 deep),
  parts_elsewhere s pinned (n - 1) marks log heap heap' same parts.1,
)

pub parts_written : (s pinned n l : ℕ) (marks : List Mark) (log : List Noted) (heap heap' : ℕ → ℕ) (x : Noted) → l ≤ length log → MarksFall l marks → x.old ≡ heap x.at
    → ((m : ℕ) → m ≤ n → Carries s m (heap' x.at)) → ((q : ℕ) → q ≢ x.at → notes q log ≡ true → heap' q ≡ heap q) → PartsAreOwn s pinned n marks log heap → PartsAreOwn s pinned n marks (x ∷ log) heap'
parts_written s pinned n l [] log heap heap' x low falls old new same parts = tt
parts_written s pinned n l (m ∷ marks) log heap heap' x low falls old new same parts =
    let fall = falls.0 in
    let short : m.noted ≤ length log = omega (arith, low, fall) in (
      λ deep. subst (AreOwnFrom s n heap') (sym (more_since m.noted x log short))
          (own_written s n heap heap' x (noted_since m.noted log) old (new n (omega arith)) (λ q other has. same q other (notes_since q m.noted log has)) (parts.0 deep)),
      parts_written s pinned (n - 1) m.noted marks log heap heap' x short falls.2 old (λ k up. new k (under k n up)) same parts.1,
    )
  where
    under : (k n : ℕ) → k ≤ n - 1 → k ≤ n
    under k n up = omega (arith, up)

pub parts_put_back : (s pinned n l : ℕ) (marks : List Mark) (log : List Noted) (heap heap' : ℕ → ℕ) (x : Noted) → l ≤ length log → MarksFall l marks → heap' x.at ≡ x.old
    → ((q : ℕ) → q ≢ x.at → notes q log ≡ true → heap' q ≡ heap q) → PartsAreOwn s pinned n marks (x ∷ log) heap → PartsAreOwn s pinned n marks log heap'
parts_put_back s pinned n l [] log heap heap' x low falls old same parts = tt
parts_put_back s pinned n l (m ∷ marks) log heap heap' x low falls old same parts =
    let fall = falls.0 in
    let short : m.noted ≤ length log = omega (arith, low, fall) in (
      λ deep. own_put_back s n heap heap' x (noted_since m.noted log) old (λ q other has. same q other (notes_since q m.noted log has))
          (subst (AreOwnFrom s n heap) (more_since m.noted x log short) (parts.0 deep)),
      parts_put_back s pinned (n - 1) m.noted marks log heap heap' x short falls.2 old same parts.1,
    )

pub parts_opened : (s pinned n : ℕ) (m : Mark) (marks : List Mark) (log : List Noted) (heap : ℕ → ℕ) → m.noted ≡ length log → PartsAreOwn s pinned n marks log heap
    → PartsAreOwn s pinned (suc n) (m ∷ marks) log heap
parts_opened s pinned n m marks log heap is parts =
    (λ deep. own_none s (suc n) heap (noted_since m.noted log) (ap (λ k. noted_since k log) is ∙ none_since log), subst (λ k. PartsAreOwn s pinned k marks log heap) (same n) parts)
  where
    same : (n : ℕ) → n ≡ suc n - 1
    same n = omega arith

pub parts_dropped : (s pinned n j : ℕ) (marks : List Mark) (log : List Noted) (heap : ℕ → ℕ) → PartsAreOwn s pinned n marks log heap → PartsAreOwn s pinned (n - j) (drop j marks) log heap
parts_dropped s pinned n zero marks log heap parts = subst (λ k. PartsAreOwn s pinned k marks log heap) (same n) parts
  where
    same : (n : ℕ) → n ≡ n - 0
    same n = omega arith
parts_dropped s pinned n (suc j) [] log heap parts = tt
parts_dropped s pinned n (suc j) (m ∷ marks) log heap parts = subst (λ k. PartsAreOwn s pinned k (drop j marks) log heap) (same n j) (parts_dropped s pinned (n - 1) j marks log heap parts.1)
  where
    same : (n j : ℕ) → n - 1 - j ≡ n - suc j
    same n j = omega arith

-- the innermost that counts, and each one further out
pub part_first : (s pinned n j : ℕ) (marks : List Mark) (log : List Noted) (heap : ℕ → ℕ) → j < length marks → pinned < n → PartsAreOwn s pinned n (drop j marks) log heap
    → AreOwnFrom s n heap (noted_since (nth_or no_mark j marks).noted log)
part_first s pinned n j [] log heap low deep parts = absurd (no j low)
  where
    no : (j : ℕ) → j < 0 → ⊥
    no j low = omega (arith, low)
part_first s pinned n zero (m ∷ marks) log heap low deep parts = parts.0 deep
part_first s pinned n (suc j) (m ∷ marks) log heap low deep parts = part_first s pinned n j marks log heap (omega (arith, low)) deep parts
