-- Tags of words, and what a thread takes to be safe.
use Rattle.std.proofs.Common.{◌≡◌, inl, inr, ℕ, ◌^◌, ◌<◌, ◌≤◌, ◌&&◌, ◌||◌, Bool, true, false, zero, List, [], ◌∷◌, nat_eq, drop, take, length, suc, ◌-◌, refl, sym, ◌∙◌, ap, subst, arith}
use Rattle.std.specs.Prelude.{nat_le}
use Rattle.std.proofs.lemmas.Grind.{common_steps}
use Rattle.std.proofs.lemmas.Bool.Decides.{nat_tests}
use Rattle.heap_words.specs.Words.{pack, pack_tag, tag_of, tag_section, tag_level}
use Rattle.write_log.specs.declared.Noted.{Noted}
use Rattle.step_port.specs.declared.step.Step.{Step}
use Rattle.step_port.specs.declared.step.Step.TheVariants.{RestoreWord}
use Rattle.thread_automaton.specs.declared.Held.{Held}
use Rattle.thread_automaton.specs.ThreadState.{ThreadState, noted_since}
use Rattle.thread_automaton.specs.NextMove.{undo_step}
use Rattle.thread_automaton.specs.Checks.{is_safe}
use Rattle.section_laws.specs.Settled.{notes, Carries}
use Rattle.section_laws.proofs.run_layout.ListLemmas.{In}

-- ---- tags

pub tag_is : (v tag : ℕ) → v < 2 ^ 32 → tag_of (pack v tag) ≡ tag
unfolding tag_of pack
tag_is v tag low = omega (arith, low)

pub section_is : (s l : ℕ) → s < 2 ^ 24 → tag_section (pack_tag s l) ≡ s
unfolding tag_section pack_tag
section_is s l low = omega (arith, low)

pub level_is : (s l : ℕ) → s < 2 ^ 24 → tag_level (pack_tag s l) ≡ l
unfolding tag_level pack_tag
level_is s l low = omega (arith, low)

pub section_of_none : tag_section 0 ≡ 0
unfolding tag_section
section_of_none = refl

-- the word that section s writes at level l carries that
pub written_carries : (v s l n : ℕ) → v < 2 ^ 32 → s < 2 ^ 24 → n ≤ l → Carries s n (pack v (pack_tag s l))
written_carries v s l n low few deep =
    let tag = tag_is v (pack_tag s l) low in
    (ap tag_section tag ∙ section_is s l few, subst (λ m. n ≤ m) (sym (ap tag_level tag ∙ level_is s l few)) deep)

-- ---- what is safe

-- A word that is safe was written by no section, or by the own one, or by the known one, no deeper than that is known.
pub data Safe {S : Type 0} (th : ThreadState S) (tag : ℕ) : Type 0 where
  by_none : tag ≡ 0 → Safe th tag
  by_own : tag_section tag ≡ th.section → Safe th tag
  by_known : tag_section tag ≡ th.known → tag_level tag ≤ th.known_depth → Safe th tag

pub safe_so : {S : Type 0} (th : ThreadState S) (w : ℕ) → is_safe th w ≡ true → Safe th (tag_of w)
safe_so th w safe = by_tests (nat_eq (tag_of w) 0) (nat_eq (tag_section (tag_of w)) th.section) (nat_eq (tag_section (tag_of w)) th.known) (nat_le (tag_level (tag_of w)) th.known_depth) refl refl refl refl safe
  where
    same : (m n : ℕ) → nat_eq m n ≡ true → m ≡ n
    same m n is = grind (arith, common_steps, nat_tests)

    at_most : (m n : ℕ) → nat_le m n ≡ true → m ≤ n
    at_most m n is = grind (arith, common_steps, nat_tests)

    by_tests : (a c d e : Bool) → nat_eq (tag_of w) 0 ≡ a → nat_eq (tag_section (tag_of w)) th.section ≡ c → nat_eq (tag_section (tag_of w)) th.known ≡ d → nat_le (tag_level (tag_of w)) th.known_depth ≡ e
        → (a || c || (d && e)) ≡ true → Safe th (tag_of w)
    by_tests true c d e is_a is_c is_d is_e safe = by_none (same (tag_of w) 0 is_a)
    by_tests false true d e is_a is_c is_d is_e safe = by_own (same (tag_section (tag_of w)) th.section is_c)
    by_tests false false true true is_a is_c is_d is_e safe = by_known (same (tag_section (tag_of w)) th.known is_d) (at_most (tag_level (tag_of w)) th.known_depth is_e)
    by_tests false false true false is_a is_c is_d is_e safe = cc
    by_tests false false false e is_a is_c is_d is_e safe = cc

-- a word that no section wrote carries no section
pub none_carries : (s n w : ℕ) → 0 < s → tag_of w ≡ 0 → Carries s n w → ⊥
none_carries s n w some none carries = no s (sym carries.0 ∙ ap tag_section none ∙ section_of_none) some
  where
    no : (s : ℕ) → s ≡ 0 → 0 < s → ⊥
    no s none some = omega (arith, none, some)

-- ---- the log as a word is put back

pub record PutsFirst (n p o : ℕ) (log : List Noted) : Type 0 where
  pub x : Noted
  pub whole : log ≡ x ∷ drop 1 log
  pub here : x.at ≡ p
  pub old : x.old ≡ o
  pub noted : notes p (noted_since n log) ≡ true

abbrev at_in : Step → ℕ
at_in (RestoreWord at old) = at
at_in step = 0

abbrev old_in : Step → ℕ
old_in (RestoreWord at old) = old
old_in step = 0

abbrev IsRestore : Step → Type 0
IsRestore (RestoreWord at old) = Unit {0}
IsRestore step = ⊥

pub puts_first : (n s w p o : ℕ) (log : List Noted) (deepened taken : List Held) → undo_step s w (noted_since n log) deepened taken ≡ RestoreWord p o → PutsFirst n p o log
puts_first n s w p o log deepened taken is = by_since (noted_since n log) refl is
  where
    first_of : (k : ℕ) (x : Noted) (rest log : List Noted) → take k log ≡ x ∷ rest → log ≡ x ∷ drop 1 log
    first_of k x rest [] is = by_take k is
      where
        by_take : (k : ℕ) → take k [] ≡ x ∷ rest → [] ≡ x ∷ drop 1 []
        by_take zero is = cc
        by_take (suc k) is = cc
    first_of zero x rest (y ∷ log) is = cc
    first_of (suc k) x rest (y ∷ log) is = ap (λ z. z ∷ log) (head_is is)
      where
        head : List Noted → Noted
        head [] = y
        head (z ∷ zs) = z

        head_is : y ∷ take k log ≡ x ∷ rest → y ≡ x
        head_is same = ap head same

    is_same : (n : ℕ) → nat_eq n n ≡ true
    is_same n = grind (arith, common_steps, nat_tests)

    first_noted : (x : Noted) (rest since : List Noted) → since ≡ x ∷ rest → x.at ≡ p → notes p since ≡ true
    first_noted x rest since is here = ap (notes p) is ∙ ap (λ t. t || notes p rest) (ap (λ m. nat_eq m p) here ∙ is_same p)

    by_since : (since : List Noted) → noted_since n log ≡ since → undo_step s w since deepened taken ≡ RestoreWord p o → PutsFirst n p o log
    by_since (x ∷ rest) since is = record { x = x; whole = first_of (length log - n) x rest log since; here = ap at_in is; old = ap old_in is; noted = first_noted x rest (noted_since n log) since (ap at_in is) }
    by_since [] since is = absurd (no_restore deepened taken (subst IsRestore (sym is) tt))
      where
        no_restore : (deepened taken : List Held) → IsRestore (undo_step s w [] deepened taken) → ⊥
        no_restore (h ∷ deepened) taken is = is
        no_restore [] (h ∷ taken) is = is
        no_restore [] [] is = is

-- what is logged is in the log
pub noted_in : (q : ℕ) (log : List Noted) → notes q log ≡ true → (x : Noted) × In x log × (x.at ≡ q)
noted_in q [] has = cc
noted_in q (x ∷ log) has = by_test (nat_eq x.at q) refl (λ later. noted_in q log later) has
  where
    same : (m n : ℕ) → nat_eq m n ≡ true → m ≡ n
    same m n is = grind (arith, common_steps, nat_tests)

    by_test : (t : Bool) → nat_eq x.at q ≡ t → (notes q log ≡ true → (y : Noted) × In y log × (y.at ≡ q)) → (t || notes q log) ≡ true → (y : Noted) × In y (x ∷ log) × (y.at ≡ q)
    by_test true is more has = (x, inl refl, same x.at q is)
    by_test false is more has = let later = more has in (later.0, inr later.1, later.2)
