-- What a level has written since it opened, as words are overwritten and put back.
use Rattle.std.proofs.Common.{◌≡◌, ◌≢◌, ◌⊎◌, inl, inr, ℕ, zero, suc, ◌-◌, ◌<◌, ◌≤◌, ◌||◌, Bool, true, false, List, [], ◌∷◌, length, take, drop, nat_eq, refl, sym, ◌∙◌, ap, arith}
use Rattle.std.proofs.lemmas.Grind.{common_steps}
use Rattle.std.proofs.lemmas.Bool.Decides.{nat_tests, leb_tells}
use Rattle.op_core.specs.OrdinaryState.{set_at}
use Rattle.op_core.proofs.PointwiseLemmas.{same_or_other, set_at-hit, set_at-other}
use Rattle.write_log.specs.declared.Noted.{Noted}
use Rattle.thread_automaton.specs.ThreadState.{nth_or, noted_since}
use Rattle.section_laws.specs.LevelRun.{In}
use Rattle.section_laws.specs.Settled.{notes}
use Rattle.section_laws.proofs.settled_lists.PartLemmas.{more_since}
use Rattle.section_laws.proofs.settled_lists.ReplayLemmas.{noted_first}
use Rattle.written_words.specs.Written.{has, OldWordsSince, HasWrittenSince}
use Rattle.written_words.proofs.TagLemmas.{AllBefore}

-- ---- levels

same_or : (m n : ℕ) → nat_eq m n ≡ true → n ≡ m
same_or m n is = grind (arith, common_steps, nat_tests)

is_same : (n : ℕ) → nat_eq n n ≡ true
is_same n = grind (arith, common_steps, nat_tests)

not_same : (m n : ℕ) → n ≢ m → nat_eq m n ≡ false
not_same m n other = by_test (nat_eq m n) refl
  where
    by_test : (t : Bool) → nat_eq m n ≡ t → nat_eq m n ≡ false
    by_test true is = absurd (other (same_or m n is))
    by_test false is = is

pub has_in : (v : ℕ) (levels : List ℕ) → has v levels ≡ true → In v levels
has_in v [] is = cc
has_in v (q ∷ levels) is = by_test (nat_eq q v) refl (λ more. has_in v levels more) is
  where
    by_test : (t : Bool) → nat_eq q v ≡ t → (has v levels ≡ true → In v levels) → (t || has v levels) ≡ true → In v (q ∷ levels)
    by_test true same later more = inl (same_or q v same)
    by_test false other later more = inr (later more)

pub in_has : (v : ℕ) (levels : List ℕ) → In v levels → has v levels ≡ true
in_has v [] there = absurd there
in_has v (q ∷ levels) there = elim there [
  | inl here ↦ ap (λ n. nat_eq n v || has v levels) (sym here) ∙ ap (λ t. t || has v levels) (is_same v)
  | inr more ↦ by_test (nat_eq q v) (in_has v levels more)
]
  where
    by_test : (t : Bool) → has v levels ≡ true → (t || has v levels) ≡ true
    by_test true more = refl
    by_test false more = more

pub has_not : (v : ℕ) (levels : List ℕ) → (In v levels → ⊥) → has v levels ≡ false
has_not v levels none = by_test (has v levels) refl
  where
    by_test : (t : Bool) → has v levels ≡ t → has v levels ≡ false
    by_test true is = absurd (none (has_in v levels is))
    by_test false is = is

-- ---- logs

-- what was logged since nothing more was
few_since : (n : ℕ) (log : List Noted) → length log ≤ n → noted_since n log ≡ []
few_since n log few = ap (λ j. take j log) (none (length log) n few)
  where
    none : (l n : ℕ) → l ≤ n → l - n ≡ 0
    none l n few = omega (arith, few)

notes_other : (p : ℕ) (x : Noted) (log : List Noted) → p ≢ x.at → notes p (x ∷ log) ≡ notes p log
notes_other p x log other = ap (λ t. t || notes p log) (not_same x.at p other)

-- with the newest word that was logged
since_more : (p n : ℕ) (x : Noted) (log : List Noted) → p ≢ x.at → notes p (noted_since n (x ∷ log)) ≡ notes p (noted_since n log)
since_more p n x log other = elim (leb_tells n (length log)) [
  | inl low ↦ ap (notes p) (more_since n x log low.1) ∙ notes_other p x (noted_since n log) other
  | inr high ↦ ap (notes p) (few_since n (x ∷ log) (up n (length log) high.1)) ∙ sym (ap (notes p) (few_since n log (less n (length log) high.1)))
]
  where
    up : (n l : ℕ) → l < n → suc l ≤ n
    up n l high = omega (arith, high)

    less : (n l : ℕ) → l < n → l ≤ n
    less n l high = omega (arith, high)

-- ---- changes

-- a level that opens has written nothing
pub since_opened : (v n : ℕ) (log : List Noted) (old : List (List ℕ)) (word : ℕ → List ℕ) → n ≡ length log → ((p : ℕ) → has v (word p) ≡ false) → OldWordsSince v n log old → HasWrittenSince v n log old word
since_opened v n log old word is none olds = record { words = λ p. none p ∙ sym (ap (notes p) (few_since n log (same (length log) n is))); olds = olds }
  where
    same : (l n : ℕ) → n ≡ l → l ≤ n
    same l n is = omega (arith, is)

-- words change that it has neither written before nor then
pub since_same : (v n : ℕ) (log : List Noted) (old : List (List ℕ)) (word word' : ℕ → List ℕ) → ((p : ℕ) → has v (word' p) ≡ has v (word p)) → HasWrittenSince v n log old word → HasWrittenSince v n log old word'
since_same v n log old word word' same since = record { words = λ p. same p ∙ since.words p; olds = since.olds }

-- it writes a word, which is logged
pub since_written : (v n at was : ℕ) (log : List Noted) (old : List (List ℕ)) (word : ℕ → List ℕ) (levels : List ℕ) → n ≤ length log → In v levels → HasWrittenSince v n log old word
    → HasWrittenSince v n (record { at = at; old = was } ∷ log) (word at ∷ old) (set_at word at levels)
since_written v n at was log old word levels low there since = record {
  words = λ p. elim (same_or_other p at) [
    | inl same ↦ ap (has v) (ap (set_at word at levels) same ∙ set_at-hit word at levels) ∙ in_has v levels there
        ∙ sym (ap (λ m. notes m (noted_since n (record { at = at; old = was } ∷ log))) same ∙ ap (notes at) (more_since n (record { at = at; old = was }) log low) ∙ noted_first (record { at = at; old = was }) (noted_since n log))
    | inr other ↦ ap (has v) (set_at-other word at levels p other) ∙ since.words p ∙ sym (since_more p n (record { at = at; old = was }) log other)
  ];
  olds = (since.words at, since.olds);
}

-- the word that was logged last is put back
pub since_put : (v n : ℕ) (x : Noted) (log : List Noted) (old : List (List ℕ)) (word : ℕ → List ℕ) → HasWrittenSince v n (x ∷ log) old word
    → HasWrittenSince v n log (drop 1 old) (set_at word x.at (nth_or [] 0 old))
since_put v n x log [] word since = absurd since.olds
since_put v n x log (o ∷ old) word since = record {
  words = λ p. elim (same_or_other p x.at) [
    | inl same ↦ ap (has v) (ap (set_at word x.at o) same ∙ set_at-hit word x.at o) ∙ since.olds.0 ∙ ap (λ m. notes m (noted_since n log)) (sym same)
    | inr other ↦ ap (has v) (set_at-other word x.at o p other) ∙ since.words p ∙ since_more p n x log other
  ];
  olds = since.olds.1;
}

-- no old word was written by a level that opens then
pub old_opened : (v n : ℕ) (log : List Noted) (old : List (List ℕ)) → length log ≤ n → length old ≡ length log → AllBefore v old → OldWordsSince v n log old
old_opened v n [] [] low same before = tt
old_opened v n [] (o ∷ old) low same before = cc
old_opened v n (x ∷ log) [] low same before = cc
old_opened v n (x ∷ log) (o ∷ old) low same before = (
  has_not v o (λ there. no v (before.0 v there)) ∙ sym (ap (notes x.at) (few_since n log (less (length log) n low))),
  old_opened v n log old (less (length log) n low) (fewer (length old) (length log) same) before.1,
)
  where
    no : (v : ℕ) → v < v → ⊥
    no v is = omega (arith, is)

    less : (l n : ℕ) → suc l ≤ n → l ≤ n
    less l n low = omega (arith, low)

    fewer : (m l : ℕ) → suc m ≡ suc l → m ≡ l
    fewer m l same = omega (arith, same)

-- ---- where nothing is logged since the level opened

pub all_logged : (n : ℕ) (log : List Noted) → noted_since n log ≡ [] → length log ≤ n
all_logged n log none = elim (none_taken (length log - n) log none) [ inl few ↦ at_most (length log) n few | inr empty ↦ at_least (length log) n (ap length empty) ]
  where
    none_taken : (j : ℕ) (log : List Noted) → take j log ≡ [] → (j ≡ 0) ⊎ (log ≡ [])
    none_taken zero log none = inl refl
    none_taken (suc j) [] none = inr refl
    none_taken (suc j) (x ∷ log) none = cc

    at_most : (l n : ℕ) → l - n ≡ 0 → l ≤ n
    at_most l n few = omega (arith, few)

    at_least : (l n : ℕ) → l ≡ 0 → l ≤ n
    at_least l n none = omega (arith, none)

-- the level has written none of these old words
abbrev pub AllLack : ℕ → List (List ℕ) → Type 0
AllLack v [] = Unit {0}
AllLack v (o ∷ old) = (has v o ≡ false) × AllLack v old

pub old_lack : (v n : ℕ) (log : List Noted) (old : List (List ℕ)) → length log ≤ n → OldWordsSince v n log old → AllLack v old
old_lack v n [] [] low since = tt
old_lack v n [] (o ∷ old) low since = absurd since
old_lack v n (x ∷ log) [] low since = absurd since
old_lack v n (x ∷ log) (o ∷ old) low since = (since.0 ∙ ap (notes x.at) (few_since n log (less (length log) n low)), old_lack v n log old (less (length log) n low) since.1)
  where
    less : (l n : ℕ) → suc l ≤ n → l ≤ n
    less l n low = omega (arith, low)
