-- What a thread has to undo where a run ends is what the word of its section says.
use Rattle.std.proofs.Common.{◌≡◌, inl, inr, ℕ, zero, suc, ◌+◌, ◌-◌, ◌<◌, ◌≤◌, ◌&&◌, not, Bool, true, false, true≢false, Option, None, Some, List, [], ◌∷◌, length, take, nat_eq, refl, sym, ◌∙◌, ap, subst, arith}
use Rattle.std.specs.Prelude.{if◌then◌else◌}
use Rattle.std.proofs.lemmas.Grind.{common_steps}
use Rattle.std.proofs.lemmas.Bool.Decides.{nat_tests}
use Rattle.std.proofs.lemmas.Option.{same_Some, slice_get_within}
use Rattle.op_core.specs.ThreadCode.{Code}
use Rattle.heap_words.specs.declared.areas.Area.TheVariants.{Section}
use Rattle.section_state.specs.declared.State.TheVariants.{Revoking}
use Rattle.section_state.specs.SectionWord.{revoke_of}
use Rattle.monitor_core.specs.Contention.{is_in}
use Rattle.thread_automaton.specs.declared.Bounds.{Bounds}
use Rattle.thread_automaton.specs.ThreadState.{ThreadState}
use Rattle.core_runs.specs.Cores.{Core}
use Rattle.core_runs.specs.Acts.{Act}
use Rattle.core_runs.specs.Revoked.{RevokesAt, IsDoomed, levels_from}
use Rattle.section_laws.specs.LevelRun.{In, IsLevel, IsDoomedAt}
use Rattle.section_laws.proofs.level_runs.LevelLemmas.{Falls, below, falls, RevokedBefore, revoked_before, keeps_on, is_gone, Since, since}
use Rattle.section_laws.specs.Settled.{to_undo, words_back}
use Rattle.section_laws.specs.Levels.{IsLevelledRun, word_in, revoked_by, core_at, levels_in, revoked_in, RunsInLevels}
use Rattle.section_laws.proofs.section_levels.RunLemmas.{counted_at}
use Rattle.section_laws.proofs.section_levels.LevelLemmas.{at_place, level_in, runs_in_levels, doomed_at}
use Rattle.first_law.specs.SettledRuns.{IsDoomedTest}
use Rattle.first_law.proofs.settled_monitors.DoomedLemmas.{Outermost, outermost_of, counts_from}
use Rattle.written_words.specs.SettledWords.{back_words}
use Rattle.first_law.proofs.doomed_cuts.CutLemmas.{contains_of}
use Rattle.word_runs.specs.Enabled.{has_to_undo}
use Rattle.word_texts.specs.PutBack.{levels_back, back_in}
use Rattle.core_law.specs.ToUndo.{LevelsToUndoAreTold, WordsToPutBackAreTold}

-- ---- lists of levels

-- what is among the first j of them isn't far out
level_high : (j k p d : ℕ) (levels : List ℕ) → Falls k levels → In p (take j levels) → IsLevel p d levels → length levels < j + d
level_high j k p d [] falls there is = absurd is
level_high zero k p d (q ∷ levels) falls there is = absurd there
level_high (suc j) k p d (q ∷ levels) falls there is = elim is [
  | inl own ↦ innermost j d (length levels) own.1
  | inr inner ↦ elim there [
    | inl here ↦ absurd (not_below p q here (below q p levels falls.1 (level_in p d levels inner)))
    | inr more ↦ further j d (length levels) (level_high j q p d levels falls.1 more inner)
  ]
]
  where
    innermost : (j d n : ℕ) → d ≡ suc n → suc n < suc j + d
    innermost j d n is = omega (arith, is)

    further : (j d n : ℕ) → n < j + d → suc n < suc j + d
    further j d n low = omega (arith, low)

    not_below : (p q : ℕ) → p ≡ q → p < q → ⊥
    not_below p q is low = omega (arith, is, low)

-- each level is that of some place, which is among the levels from it on
record AtLevel (d : ℕ) (levels : List ℕ) : Type 0 where
  place : ℕ
  is : IsLevel place d levels
  from : In place (levels_from d levels)

at_level : (d : ℕ) (levels : List ℕ) → 0 < d → d ≤ length levels → AtLevel d levels
at_level d [] some low = absurd (no d some low)
  where
    no : (d : ℕ) → 0 < d → d ≤ 0 → ⊥
    no d some low = omega (arith, some, low)
at_level d (q ∷ levels) some low = by_test (nat_eq d (suc (length levels))) refl (at_level d levels some)
  where
    is_same : (m n : ℕ) → nat_eq m n ≡ true → m ≡ n
    is_same m n is = grind (arith, common_steps, nat_tests)

    is_lower : (m n : ℕ) → nat_eq m (suc n) ≡ false → m ≤ suc n → m ≤ n
    is_lower m n is low = grind (arith, common_steps, nat_tests)

    one : (d n : ℕ) → d ≡ suc n → suc 0 ≡ suc (suc n) - d
    one d n is = omega (arith, is)

    more : (d n : ℕ) → d ≤ n → suc (suc n - d) ≡ suc (suc n) - d
    more d n low = omega (arith, low)

    by_test : (x : Bool) → nat_eq d (suc (length levels)) ≡ x → (d ≤ length levels → AtLevel d levels) → AtLevel d (q ∷ levels)
    by_test true same outer =
        let is = is_same d (suc (length levels)) same in
        record { place = q; is = inl (refl, is); from = subst (λ n. In q (take n (q ∷ levels))) (one d (length levels) is) (inl refl) }
    by_test false other outer =
        let upto = is_lower d (length levels) other low in
        let found = outer upto in
        record { place = found.place; is = inr found.is; from = subst (λ n. In found.place (take n (q ∷ levels))) (more d (length levels) upto) (inr found.from) }

module _ {S : Type 0} (code : Code S) (b : Bounds) (first : S) (classes : ℕ) (c : ℕ → Core S) (acts : List Act) (run : IsLevelledRun code b first classes c acts) (doomed : ℕ → Bool)
    (tells : IsDoomedTest c acts doomed) (t : ℕ) (th : ThreadState S) (at : (c (length acts)).threads t ≡ Some th) where
  abbrev end : ℕ
  end = length acts

  abbrev word : ℕ
  word = (c (length acts)).words (Section th.section)

  abbrev levels : List ℕ
  levels = (c (length acts)).levels t

  abbrev runs : RunsInLevels c acts t
  runs = runs_in_levels code b first classes c acts run t

  upto : length acts ≤ length acts
  upto = omega arith

  here : core_at c acts (length acts) ≡ c (length acts)
  here = at_place code b first classes c acts run (length acts) upto

  levels_are : levels_in c acts t (length acts) ≡ (c (length acts)).levels t
  levels_are = ap (λ (x : Core S). x.levels t) here

  -- ---- the section is revoked where its thread has to undo it

  reads : revoked_in c acts t (length acts) ≡ revoked_by (word_in (Some th) (c (length acts)).words)
  reads = ap (λ (x : Core S). revoked_by (word_in (x.threads t) x.words)) here ∙ ap (λ o. revoked_by (word_in o (c (length acts)).words)) at

  is_revoked_so : has_to_undo (c (length acts)).words th ≡ true → revoked_in c acts t (length acts) ≡ Some (revoke_of word)
  is_revoked_so has = reads ∙ by_section (nat_eq th.section 0) (is_in Revoking word) refl has
    where
      by_section : (x y : Bool) → is_in Revoking word ≡ y → (not x && y) ≡ true → revoked_by (if x then None else Some word) ≡ Some (revoke_of word)
      by_section false true is has = ap (λ z. if z then Some (revoke_of word) else None) is
      by_section false false is has = absurd (true≢false (sym has))
      by_section true y is has = absurd (true≢false (sym has))

  has_to_so : (n : ℕ) → revoked_in c acts t (length acts) ≡ Some n → has_to_undo (c (length acts)).words th ≡ true
  has_to_so n is = by_section (nat_eq th.section 0) (is_in Revoking word) (sym reads ∙ is) refl
    where
      none_some : {A : Type 0} → None ≡ Some n → A
      none_some is = cc

      by_section : (x y : Bool) → revoked_by (if x then None else Some word) ≡ Some n → is_in Revoking word ≡ y → (not x && y) ≡ true
      by_section true y is so = none_some is
      by_section false true is so = refl
      by_section false false is so = none_some (sym (ap (λ z. if z then Some (revoke_of word) else None) so) ∙ is)

  -- ---- what is to be undone was revoked, and its section is still revoked to that level

  module _ (some : 0 < to_undo doomed ((c (length acts)).levels t)) where
    abbrev outermost : Outermost doomed ((c (length acts)).levels t)
    outermost = outermost_of doomed ((c (length acts)).levels t) some

    there : In (outermost_of doomed ((c (length acts)).levels t) some).place (levels_in c acts t (length acts))
    there = subst (In outermost.place) (sym levels_are) (level_in outermost.place outermost.level ((c (length acts)).levels t) outermost.is)

    is_doomed : IsDoomedAt (levels_in c acts t) (runs_in_levels code b first classes c acts run t).act (outermost_of doomed ((c (length acts)).levels t) some).place
    is_doomed = doomed_at code b first classes c acts run t outermost.place (length acts) upto (level_in outermost.place outermost.level ((c (length acts)).levels t) outermost.is)
        ((tells outermost.place).0 outermost.so)

    revokes_within : (s n : ℕ) → RevokesAt acts is_doomed.0 s n → is_doomed.0 < length acts
    revokes_within s n (u, old, inl is) = slice_get_within acts is_doomed.0 _ is
    revokes_within s n (u, old, inr is) = slice_get_within acts is_doomed.0 _ is

    earlier : is_doomed.0 < length acts
    earlier = let is = runs.revokes is_doomed.0 is_doomed.1 is_doomed.2 in revokes_within is.0.section is_doomed.1 is.2

    -- so it is since
    stands : (revoked_in c acts t (length acts) ≡ Some is_doomed.1) × (levels_in c acts t (length acts) ≡ levels_in c acts t is_doomed.0)
    stands = by_since (since (levels_in c acts t) (revoked_in c acts t) runs.act runs.is_run outermost.place is_doomed (length acts - suc is_doomed.0) (length acts) (back (length acts) is_doomed.0 earlier))
      where
        back : (n m : ℕ) → m < n → n ≡ (n - suc m) + suc m
        back n m low = omega (arith, low)

        by_since : Since (levels_in c acts t) (revoked_in c acts t) runs.act runs.is_run outermost.place is_doomed (length acts)
            → (revoked_in c acts t (length acts) ≡ Some is_doomed.1) × (levels_in c acts t (length acts) ≡ levels_in c acts t is_doomed.0)
        by_since (keeps_on is stays) = (is, stays)
        by_since (is_gone none) = absurd (none there)

    -- and it is among the levels from that level on
    among : In (outermost_of doomed ((c (length acts)).levels t) some).place (levels_from is_doomed.1 ((c (length acts)).levels t))
    among = subst (λ l. In outermost.place (levels_from is_doomed.1 l)) (sym stands.1 ∙ levels_are) is_doomed.3

    high : (n : ℕ) → revoked_in c acts t (length acts) ≡ Some n → n ≤ length ((c (length acts)).levels t) → n + to_undo doomed ((c (length acts)).levels t) ≤ suc (length ((c (length acts)).levels t))
    high n is low =
        let same = same_Some is_doomed.1 n (sym stands.0 ∙ is) in
        at_most n outermost.level (to_undo doomed ((c (length acts)).levels t)) (length ((c (length acts)).levels t)) low
        (level_high (suc (length ((c (length acts)).levels t)) - n) (length acts) outermost.place outermost.level ((c (length acts)).levels t)
        (subst (Falls (length acts)) levels_are (falls (levels_in c acts t) (revoked_in c acts t) runs.act runs.is_run (length acts)))
        (subst (λ m. In outermost.place (levels_from m ((c (length acts)).levels t))) same among) outermost.is)
        outermost.count
      where
        at_most : (n d u l : ℕ) → n ≤ l → l < (suc l - n) + d → d + u ≡ suc l → n + u ≤ suc l
        at_most n d u l low inner count = omega (arith, low, inner, count)

  -- ---- the levels from the one to which it is revoked on are all to be undone

  module _ (has : has_to_undo (c (length acts)).words th ≡ true) where
    before : RevokedBefore (levels_in c acts t) (revoked_in c acts t) (runs_in_levels code b first classes c acts run t).act (runs_in_levels code b first classes c acts run t).is_run (length acts) (revoke_of word)
    before = revoked_before (levels_in c acts t) (revoked_in c acts t) runs.act runs.is_run (length acts) (revoke_of word) (is_revoked_so has)

    place_low : before.place ≤ length acts
    place_low = let low = before.earlier in omega (arith, low)

    -- the levels are those of the revocation
    same_levels : (c (length acts)).levels t ≡ (c before.place).levels t
    same_levels = sym levels_are ∙ before.stays ∙ ap (λ (x : Core S). x.levels t) (at_place code b first classes c acts run before.place place_low)

    low : revoke_of word ≤ length ((c (length acts)).levels t)
    low = subst (λ l. revoke_of word ≤ length l) (sym before.stays ∙ levels_are) before.level.1

    found : AtLevel (revoke_of word) ((c (length acts)).levels t)
    found = at_level (revoke_of word) ((c (length acts)).levels t) before.level.0 low

    found_doomed : IsDoomed c acts found.place
    found_doomed =
        let by = runs.revokes before.place (revoke_of word) before.act_is in record {
          place = before.place;
          section = by.0.section;
          level = revoke_of word;
          revokes = by.2;
          thread = t;
          th = by.0;
          stands = by.1;
          own = refl;
          was_open = contains_of found.place (levels_from (revoke_of word) ((c before.place).levels t)) (subst (λ l. In found.place (levels_from (revoke_of word) l)) same_levels found.from);
        }

    counts : suc (length ((c (length acts)).levels t)) ≤ revoke_of word + to_undo doomed ((c (length acts)).levels t)
    counts = counts_from doomed found.place (revoke_of word) ((c (length acts)).levels t) found.is ((tells found.place).1 found_doomed)

    all_from : to_undo doomed ((c (length acts)).levels t) ≡ suc th.levels - revoke_of word
    all_from = exactly (revoke_of word) (to_undo doomed ((c (length acts)).levels t)) (length ((c (length acts)).levels t)) th.levels low counts
        (high (some (revoke_of word) (to_undo doomed ((c (length acts)).levels t)) (length ((c (length acts)).levels t)) low counts) (revoke_of word) (is_revoked_so has) low)
        ((counted_at code b first classes c acts run (length acts) upto).there t th at)
      where
        some : (n u l : ℕ) → n ≤ l → suc l ≤ n + u → 0 < u
        some n u l low least = omega (arith, low, least)

        exactly : (n u l m : ℕ) → n ≤ l → suc l ≤ n + u → n + u ≤ suc l → l ≡ m → u ≡ suc m - n
        exactly n u l m low least most is = omega (arith, low, least, most, is)

  -- ---- and else none

  none_to_undo : has_to_undo (c (length acts)).words th ≡ false → to_undo doomed ((c (length acts)).levels t) ≡ 0
  none_to_undo none = by_count (to_undo doomed ((c (length acts)).levels t)) refl
    where
      above : (n : ℕ) → 0 < suc n
      above n = omega arith

      by_count : (n : ℕ) → to_undo doomed ((c (length acts)).levels t) ≡ n → to_undo doomed ((c (length acts)).levels t) ≡ 0
      by_count zero is = is
      by_count (suc n) is =
          let some = subst (λ m. 0 < m) (sym is) (above n) in
          absurd (true≢false (sym (has_to_so (is_doomed some).1 (stands some).0) ∙ none))

  told : to_undo doomed ((c (length acts)).levels t) ≡ levels_back (c (length acts)).words th
  told = by_test (has_to_undo (c (length acts)).words th) refl
    where
      by_test : (x : Bool) → has_to_undo (c (length acts)).words th ≡ x → to_undo doomed ((c (length acts)).levels t) ≡ levels_back (c (length acts)).words th
      by_test true has = all_from has ∙ sym (ap (λ z. if z then suc th.levels - revoke_of word else 0) has)
      by_test false none = none_to_undo none ∙ sym (ap (λ z. if z then suc th.levels - revoke_of word else 0) none)

pub levels_to_undo_are_told : {S : Type 0} (code : Code S) → LevelsToUndoAreTold code
levels_to_undo_are_told code b first classes c acts run doomed tells t th at = told code b first classes c acts run doomed tells t th at

pub words_to_put_back_are_told : {S : Type 0} (code : Code S) → WordsToPutBackAreTold code
words_to_put_back_are_told {S} code b first classes c acts run doomed tells t = by_thread ((c (length acts)).threads t) refl
  where
    by_thread : (o : Option (ThreadState S)) → (c (length acts)).threads t ≡ o → back_words doomed ((c (length acts)).levels t) o ≡ back_in (c (length acts)).words o
    by_thread None is = refl
    by_thread (Some th) is = ap (λ n. words_back n th.marks th.log) (told code b first classes c acts run doomed tells t th is)
