-- Which words a thread is to put back, with each of its turns.
use Rattle.std.proofs.Common.{◌≡◌, ◌⊎◌, inl, inr, ℕ, zero, suc, ◌+◌, ◌-◌, ◌<◌, ◌≤◌, Bool, true, false, true≢false, List, [], ◌∷◌, length, drop, refl, sym, ◌∙◌, ap, subst, arith}
use Rattle.std.proofs.lemmas.Bool.Decides.{leb_tells}
use Rattle.op_core.specs.declared.Next.{Next}
use Rattle.section_state.specs.SectionWord.{revoke_of}
use Rattle.write_log.specs.declared.Noted.{Noted}
use Rattle.step_port.specs.declared.answer.StepAnswer.{StepAnswer}
use Rattle.step_port.specs.declared.step.Step.{Step}
use Rattle.step_port.specs.declared.step.Step.TheVariants.{SwapWord, MarkUndone}
use Rattle.thread_automaton.specs.declared.Attempt.TheVariants.{Undoing}
use Rattle.thread_automaton.specs.declared.Held.{Held}
use Rattle.thread_automaton.specs.ThreadState.{ThreadState, Mark, mark_of, noted_since}
use Rattle.thread_automaton.specs.NextMove.{word_place}
use Rattle.thread_automaton.specs.Checks.{written_word}
use Rattle.thread_automaton.specs.Told.{Told}
use Rattle.core_runs.specs.Cores.{outermost}
use Rattle.section_laws.specs.Settled.{count_more, to_undo, words_back}
use Rattle.section_laws.proofs.settled_lists.PartLemmas.{less_to_undo, opened_back, closed_back}
use Rattle.written_words.proofs.noted_words.TurnLemmas.{SetsNoWord}
use Rattle.written_words.proofs.settled_words.TurnLemmas.{Leaves, WordTurn, calm, opens, closes, ends_all, undone, writes, puts}

drop_all : {A : Type 0} (xs : List A) → drop (length xs) xs ≡ []
drop_all [] = refl
drop_all (x ∷ xs) = drop_all xs

more_none : (is_doomed : Bool) (n : ℕ) → count_more is_doomed n ≡ 0 → n ≡ 0
more_none true zero none = refl
more_none false zero none = refl
more_none is_doomed (suc n) none = absurd (no n none)
  where
    no : (n : ℕ) → suc (suc n) ≡ 0 → ⊥
    no n none = omega (arith, none)

-- What is so round a turn of thread x.
pub record Around {S : Type 0} (doomed : ℕ → Bool) (x : ThreadState S) (open_then : Bool) (levels levels_then : List ℕ) (step : Step) : Type 0 where
  pub counted : length levels ≡ x.levels
  -- where a level is to be undone, one is open that isn't seen pinned
  pub open_after : 0 < to_undo doomed levels_then → open_then ≡ true
  -- no level that is to be undone is closed
  pub closed : (j : ℕ) → ((s w : ℕ) → step ≡ MarkUndone s w → ⊥) → levels_then ≡ drop j levels → (to_undo doomed levels ≡ 0) ⊎ (j < to_undo doomed levels)
  -- all from the level to which the section is undone on are to be undone
  pub undoing : (w : ℕ) → x.attempt ≡ Undoing w → (0 < revoke_of w) × (revoke_of w ≤ length levels) × (suc (length levels) ≤ revoke_of w + to_undo doomed levels)

module _ {S : Type 0} (doomed : ℕ → Bool) (k : ℕ) (next : Next) (x : ThreadState S) (log : List Noted) (marks : List Mark) (open_then : Bool) (told : Told) (levels levels_then : List ℕ) (step : Step) (a : StepAnswer)
    (around : Around doomed x open_then levels levels_then step) where
  abbrev count : ℕ
  count = to_undo doomed levels

  abbrev count_then : ℕ
  count_then = to_undo doomed levels_then

  abbrev Same : Type 0
  Same = words_back (to_undo doomed levels_then) marks log ≡ words_back (to_undo doomed levels) x.marks x.log

  some_or_none : (n : ℕ) → (n ≡ 0) ⊎ (0 < n)
  some_or_none zero = inl refl
  some_or_none (suc n) = inr (omega arith)

  none_some : {P : Type 0} (n : ℕ) → n ≡ 0 → 0 < n → P
  none_some n none some = absurd (no n none some)
    where
      no : (n : ℕ) → n ≡ 0 → 0 < n → ⊥
      no n none some = omega (arith, none, some)

  -- nothing is to be undone before and after the turn
  both_none : to_undo doomed levels ≡ 0 → to_undo doomed levels_then ≡ 0 → Same
  both_none none none_then = ap (λ n. words_back n marks log) none_then ∙ ap (λ n. words_back n x.marks x.log) (sym none)

  -- where no level is open that isn't seen pinned, none is to be undone
  shut_none : open_then ≡ false → to_undo doomed levels_then ≡ 0
  shut_none shut = elim (some_or_none (to_undo doomed levels_then)) [ inl none ↦ none | inr some ↦ absurd (true≢false (sym (around.open_after some) ∙ shut)) ]

  same_calm : levels_then ≡ levels → Leaves x.log x.marks log marks open_then → Same
  same_calm same (inl kept) = ap (λ n. words_back n marks log) (ap (to_undo doomed) same) ∙ ap (λ ms. words_back (to_undo doomed levels) ms log) kept.1 ∙ ap (words_back (to_undo doomed levels) x.marks) kept.0
  same_calm same (inr shut) = both_none (ap (to_undo doomed) (sym same) ∙ shut_none shut) (shut_none shut)

  same_opens : (silents : ℕ) (held : List Held) → levels_then ≡ k ∷ levels → Leaves x.log (record { silents = silents; noted = length x.log; held = held } ∷ x.marks) log marks open_then → Same
  same_opens silents held same (inl kept) = ap (λ ls. words_back (to_undo doomed ls) marks log) same ∙ ap (λ ms. words_back (to_undo doomed (k ∷ levels)) ms log) kept.1
      ∙ ap (words_back (to_undo doomed (k ∷ levels)) (record { silents = silents; noted = length x.log; held = held } ∷ x.marks)) kept.0 ∙ opened_back doomed k levels silents held x.marks x.log
  same_opens silents held same (inr shut) = both_none (more_none (doomed k) (to_undo doomed levels) (ap (to_undo doomed) (sym same) ∙ shut_none shut)) (shut_none shut)

  same_closes : (j : ℕ) → levels_then ≡ drop j levels → (to_undo doomed levels ≡ 0) ⊎ (j < to_undo doomed levels) → Leaves x.log (drop j x.marks) log marks open_then → Same
  same_closes j same inner (inl kept) = ap (λ ls. words_back (to_undo doomed ls) marks log) same ∙ ap (λ ms. words_back (to_undo doomed (drop j levels)) ms log) kept.1
      ∙ ap (words_back (to_undo doomed (drop j levels)) (drop j x.marks)) kept.0 ∙ closed_back doomed j levels x.marks x.log inner
  same_closes j same (inl none) (inr shut) = both_none none (shut_none shut)
  same_closes j same (inr less) (inr shut) =
      let left = sym (less_to_undo doomed j levels) ∙ sym (ap (to_undo doomed) same) ∙ shut_none shut in
      absurd (no (to_undo doomed levels) j less left)
    where
      no : (n j : ℕ) → j < n → n - j ≡ 0 → ⊥
      no n j less none = omega (arith, less, none)

  same_undone : (w : ℕ) → x.attempt ≡ Undoing w → noted_since (mark_of x (revoke_of w)).noted x.log ≡ [] → levels_then ≡ outermost (revoke_of w - 1) levels
      → Leaves x.log (drop (suc (x.levels - revoke_of w)) x.marks) log marks open_then → Same
  same_undone w undoing noted same leaves =
      let level = around.undoing w undoing in
      let less : levels_then ≡ drop (suc (x.levels - revoke_of w)) levels = same ∙ ap (λ j. drop j levels) (places (length levels) x.levels (revoke_of w) around.counted level.0 level.1) in
      elim (all_or_more (length levels) x.levels (revoke_of w) (to_undo doomed levels) around.counted level.1 level.2) [
        | inl all ↦
            let none_then : to_undo doomed levels_then ≡ 0 = ap (to_undo doomed) less ∙ less_to_undo doomed (suc (x.levels - revoke_of w)) levels ∙ no_more (to_undo doomed levels) (suc (x.levels - revoke_of w)) all in
            ap (λ n. words_back n marks log) none_then ∙ sym noted ∙ ap (λ n. words_back n x.marks x.log) (sym all)
        | inr more ↦ same_closes (suc (x.levels - revoke_of w)) less (inr more) leaves
      ]
    where
      places : (l y r : ℕ) → l ≡ y → 0 < r → r ≤ l → l - (r - 1) ≡ suc (y - r)
      places l y r is some low = omega (arith, is, some, low)

      all_or_more : (l y r n : ℕ) → l ≡ y → r ≤ l → suc l ≤ r + n → (n ≡ suc (y - r)) ⊎ (suc (y - r) < n)
      all_or_more l y r n is low deep = elim (leb_tells n (suc (y - r))) [
        | inl few ↦ let most = few.1 in inl (omega (arith, is, low, deep, most))
        | inr many ↦ inr many.1
      ]

      no_more : (n j : ℕ) → n ≡ j → n - j ≡ 0
      no_more n j is = omega (arith, is)

  -- a turn that neither overwrites a word nor puts one back
  pub back_same : SetsNoWord step a → WordTurn k next x log marks open_then told levels levels_then step a → Same
  back_same none (calm quiet unseen same leaves) = same_calm same leaves
  back_same none (opens silents held quiet unseen same leaves) = same_opens silents held same leaves
  back_same none (closes n quiet unseen other same leaves) =
      let less : levels_then ≡ drop (x.levels - n) levels = same ∙ ap (λ l. drop (l - n) levels) around.counted in
      same_closes (x.levels - n) less (around.closed (x.levels - n) other less) leaves
  back_same none (ends_all quiet unseen other same) =
      let less : levels_then ≡ drop (length levels) levels = same ∙ sym (drop_all levels) in
      both_none (elim (around.closed (length levels) other less) [ inl is_zero ↦ is_zero | inr less ↦ absurd (no (length levels) (to_undo doomed levels) (counts levels) less) ]) (ap (to_undo doomed) same)
    where
      no : (l n : ℕ) → n ≤ l → l < n → ⊥
      no l n low less = omega (arith, low, less)

      counts : (ls : List ℕ) → to_undo doomed ls ≤ length ls
      counts [] = omega arith
      counts (p ∷ ls) = by_count (doomed p) (to_undo doomed ls) (length ls) (counts ls)
        where
          by_count : (d : Bool) (n l : ℕ) → n ≤ l → count_more d n ≤ suc l
          by_count true zero l low = omega arith
          by_count false zero l low = omega arith
          by_count d (suc n) l low = omega (arith, low)
  back_same none (undone w s v quiet unseen undoing is noted same leaves) = same_undone w undoing noted same leaves
  back_same none (writes r i v old wants sets done seen same new_log new_marks) = absurd (subst (SetsNoWord (SwapWord (word_place r i) old (written_word x v))) done (subst (λ s. SetsNoWord s a) sets none))
  back_same none (puts w p o undoing sets does unseen same new_log new_marks) = absurd (subst (λ s. SetsNoWord s a) sets none)
