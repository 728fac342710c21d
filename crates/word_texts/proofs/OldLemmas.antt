-- The words that logs put back, by their places.
use Rattle.std.proofs.Common.{◌≡◌, inl, inr, ℕ, ◌+◌, ◌<◌, ◌≤◌, Bool, true, false, ◌||◌, Option, None, Some, List, [], ◌∷◌, ◌++◌, reverse, nat_eq, cond, refl, sym, ◌∙◌, ap, subst, arith}
use Rattle.std.proofs.lemmas.Grind.{common_steps}
use Rattle.std.proofs.lemmas.Bool.{cases_eq, cases_lt}
use Rattle.std.proofs.lemmas.Bool.Decides.{nat_tests}
use Rattle.std.proofs.lemmas.List.{reverse-append}
use Rattle.std.specs.Option.{option_or}
use Rattle.op_core.specs.OrdinaryState.{set_at}
use Rattle.op_core.proofs.PointwiseLemmas.{set_at-hit}
use Rattle.write_log.specs.declared.Noted.{Noted}
use Rattle.section_laws.specs.Settled.{notes, replay}
use Rattle.section_laws.proofs.settled_lists.ReplayLemmas.{noted_more, replay_unnoted}
use Rattle.word_texts.specs.OldWords.{noted_at, oldest_at, AreOldest}

-- ---- one of three words

pub option_or-assoc : {A : Type 0} (a b c : Option A) → option_or (option_or a b) c ≡ option_or a (option_or b c)
option_or-assoc None b c = refl
option_or-assoc (Some x) b c = refl

pub option_or-None : {A : Type 0} (a : Option A) → option_or a None ≡ a
option_or-None None = refl
option_or-None (Some x) = refl

-- one word more of a log
pub oldest_at-push : (old : Option ℕ) (log : List Noted) (x : Noted) (p : ℕ) (now : Option ℕ) → now ≡ option_or old (oldest_at (reverse log) p)
    → option_or now (noted_at x p) ≡ option_or old (oldest_at (reverse (log ++ x ∷ [])) p)
oldest_at-push old log x p now is =
    ap (λ o. option_or o (noted_at x p)) is
    ∙ option_or-assoc old (oldest_at (reverse log) p) (noted_at x p)
    ∙ ap (λ l. option_or old (oldest_at l p)) (sym (reverse-append log (x ∷ [])))

-- ---- the oldest word is the one that replay leaves

abbrev pub Tells : List Noted → (ℕ → ℕ) → ℕ → Option ℕ → Type 0
Tells log heap p None = notes p log ≡ false
Tells log heap p (Some v) = (notes p log ≡ true) × (v ≡ replay log heap p)

pub oldest_tells : (log : List Noted) (heap : ℕ → ℕ) (p : ℕ) → Tells log heap p (oldest_at log p)
oldest_tells [] heap p = refl
oldest_tells (x ∷ log) heap p = by_rest (oldest_at log p) (oldest_tells log (set_at heap x.at x.old) p)
  where
    yes : (m n : ℕ) → nat_eq m n ≡ true → n ≡ m
    yes m n is = grind (arith, common_steps, nat_tests)

    no : (m n : ℕ) → nat_eq m n ≡ false → n ≡ m → ⊥
    no m n is same = grind (arith, common_steps, nat_tests)

    here : notes p log ≡ false → p ≡ x.at → x.old ≡ replay log (set_at heap x.at x.old) p
    here none same = sym (replay_unnoted log (set_at heap x.at x.old) p none ∙ subst (λ q. set_at heap x.at x.old q ≡ x.old) (sym same) (set_at-hit heap x.at x.old))

    by_test : (b : Bool) → nat_eq x.at p ≡ b → notes p log ≡ false → Tells (x ∷ log) heap p (cond b (Some x.old) None)
    by_test true is none = (ap (λ b. b || notes p log) is, here none (yes x.at p is))
    by_test false is none = ap (λ b. b || notes p log) is ∙ none

    by_rest : (o : Option ℕ) → Tells log (set_at heap x.at x.old) p o → Tells (x ∷ log) heap p (option_or o (noted_at x p))
    by_rest (Some v) tells = (noted_more p x log tells.0, tells.1)
    by_rest None none = by_test (nat_eq x.at p) refl none

-- ---- the words of threads, one thread after another

-- the same for the threads below n
pub record AreOldestBelow (back : ℕ → List Noted) (n : ℕ) (old : ℕ → Option ℕ) : Type 0 where
  pub some : (p v : ℕ) → old p ≡ Some v → (t : ℕ) × (oldest_at (back t) p ≡ Some v)
  pub none : (p : ℕ) → old p ≡ None → (t : ℕ) → t < n → oldest_at (back t) p ≡ None

no_word : (o : Option ℕ) (v : ℕ) → o ≡ None → o ≡ Some v → ⊥
no_word o v none some = cc

pub none_oldest : (back : ℕ → List Noted) (old : ℕ → Option ℕ) → ((p : ℕ) → old p ≡ None) → AreOldestBelow back 0 old
none_oldest back old none = record { some = λ p v is. absurd (no_word (old p) v (none p) is); none = λ p is t within. absurd (omega arith) }

pub one_more_oldest : (back : ℕ → List Noted) (n : ℕ) (old new : ℕ → Option ℕ) → AreOldestBelow back n old
    → ((p : ℕ) → new p ≡ option_or (old p) (oldest_at (back n) p)) → AreOldestBelow back (n + 1) new
one_more_oldest back n old new are more = record {
  some = λ p v is. by_old p v (old p) refl (sym (more p) ∙ is);
  none = λ p is t within. past p t within (both (old p) (oldest_at (back n) p) (sym (more p) ∙ is));
}
  where
    by_old : (p v : ℕ) (o : Option ℕ) → old p ≡ o → option_or o (oldest_at (back n) p) ≡ Some v → (t : ℕ) × (oldest_at (back t) p ≡ Some v)
    by_old p v None is some = (n, some)
    by_old p v (Some w) is some = are.some p v (is ∙ some)

    both : (a b : Option ℕ) → option_or a b ≡ None → (a ≡ None) × (b ≡ None)
    both None b is = (refl, is)
    both (Some x) b is = absurd (cc)

    past : (p t : ℕ) → t < n + 1 → (old p ≡ None) × (oldest_at (back n) p ≡ None) → oldest_at (back t) p ≡ None
    past p t within none = elim (cases_eq t n) [
      | inl same ↦ subst (λ k. oldest_at (back k) p ≡ None) (sym same) none.1
      | inr other ↦ are.none p none.0 t (omega arith)
    ]

-- all of them, where those from n on put nothing back
pub all_oldest : (back : ℕ → List Noted) (n : ℕ) (old : ℕ → Option ℕ) → AreOldestBelow back n old → ((t : ℕ) → n ≤ t → back t ≡ []) → AreOldest back old
all_oldest back n old are rest = record {
  some = are.some;
  none = λ p is t. elim (cases_lt t n) [
    | inl below ↦ are.none p is t below
    | inr past ↦ ap (λ log. oldest_at log p) (rest t past)
  ];
}
