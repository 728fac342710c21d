-- What the end of a run makes of the rows.
use Rattle.std.proofs.Common.{◌≡◌, ◌≢◌, inl, inr, ℕ, zero, suc, ◌-◌, ◌<◌, ◌≤◌, ◌&&◌, Bool, true, false, not, Some, List, [], ◌∷◌, ◌++◌, length, take, refl, sym, ◌∙◌, ap, subst, arith}
use Rattle.std.specs.Prelude.{slice_get, nat_eq}
use Rattle.std.proofs.lemmas.Grind.{common_steps}
use Rattle.std.proofs.lemmas.Bool.Decides.{nat_tests}
use Rattle.op_core.specs.declared.Event.{Event}
use Rattle.op_core.proofs.PointwiseLemmas.{same_or_other, set_at-other}
use Rattle.trace_journal.specs.declared.item.JournalItem.TheVariants.{Event as event_item, Undone}
use Rattle.section_laws.specs.Settled.{to_undo}
use Rattle.journal_rows.specs.Told.{RowCall, RowsTold, after_row_call, after_row_calls, is_event_of, is_since, with_levels_out}
use Rattle.core_law.specs.RunCalls.{end_call, end_calls}

after_append : (xs ys : List RowCall) (s : RowsTold) → after_row_calls (xs ++ ys) s ≡ after_row_calls xs (after_row_calls ys s)
after_append [] ys s = refl
after_append (x ∷ xs) ys s = ap (after_row_call x) (after_append xs ys s)

-- item i came in a level of these that is to be undone, of which there are u and at which there were this many items
abbrev pub ends_in : List ℕ → ℕ → ℕ → ℕ → Bool
ends_in opened n zero i = false
ends_in opened n (suc u) i = is_since (slice_get opened (n - suc u)) i

module _ (doomed : ℕ → Bool) (levels : ℕ → List ℕ) (s : RowsTold) where
  -- after the threads below m
  pub record Ended (m : ℕ) (next : RowsTold) : Type 0 where
    pub items : next.items ≡ s.items
    pub above : (u : ℕ) → m ≤ u → next.levels u ≡ s.levels u
    pub undone : (i t l w : ℕ) → slice_get s.items i ≡ Some (Undone t l w) → next.left i ≡ s.left i
    pub later : (i : ℕ) (e : Event) → slice_get s.items i ≡ Some (event_item e) → m ≤ e.thread → next.left i ≡ s.left i
    pub ended : (i : ℕ) (e : Event) → slice_get s.items i ≡ Some (event_item e) → e.thread < m → next.left i ≡ (s.left i && not (ends_in (s.levels e.thread) (length (levels e.thread)) (to_undo doomed (levels e.thread)) i))

  and_true : (z : Bool) → (z && true) ≡ z
  and_true true = refl
  and_true false = refl

  other_is : (m n : ℕ) → m ≢ n → nat_eq m n ≡ false
  other_is m n other = grind (arith, common_steps, nat_tests)

  own_is : (n : ℕ) → nat_eq n n ≡ true
  own_is n = grind (arith, common_steps, nat_tests)

  apart : (n m : ℕ) → n < suc m → n ≢ m → n < m
  apart n m low other = omega (arith, low, other)

  -- thread m has this many levels to undo
  next_ended : (m : ℕ) (next : RowsTold) (u : ℕ) → to_undo doomed (levels m) ≡ u → Ended m next → Ended (suc m) (after_row_calls (end_call m (length (levels m)) u) next)
  next_ended m next zero none was = record {
    items = was.items;
    above = λ v low. was.above v (omega (arith, low));
    undone = was.undone;
    later = λ i e at low. was.later i e at (lower e.thread low);
    ended = λ i e at low. elim (same_or_other e.thread m) [
      | inl own ↦ was.later i e at (here e.thread own) ∙ sym (ap (λ n. s.left i && not (ends_in (s.levels e.thread) (length (levels e.thread)) n i)) (ap (λ v. to_undo doomed (levels v)) own ∙ none) ∙ and_true (s.left i))
      | inr other ↦ was.ended i e at (apart e.thread m low other)
    ];
  }
    where
      lower : (n : ℕ) → suc m ≤ n → m ≤ n
      lower n low = omega (arith, low)

      here : (n : ℕ) → n ≡ m → m ≤ n
      here n own = omega (arith, own)
  next_ended m next (suc u) some was = record {
    items = was.items;
    above = λ v low. set_at-other next.levels m (take (length (levels m) - suc u) (next.levels m)) v (other_thread v low) ∙ was.above v (omega (arith, low));
    undone = λ i t l w at. ap (λ o. next.left i && not (is_event_of m o && is_since (slice_get (next.levels m) (length (levels m) - suc u)) i)) (ap (λ xs. slice_get xs i) was.items ∙ at) ∙ and_true (next.left i) ∙ was.undone i t l w at;
    later = λ i e at low. others i e at (λ own. too_high e.thread low own) ∙ was.later i e at (lower e.thread low);
    ended = λ i e at low. elim (same_or_other e.thread m) [
      | inl own ↦ own_left i e at own
      | inr other ↦ others i e at other ∙ was.ended i e at (apart e.thread m low other)
    ];
  }
    where
      lower : (n : ℕ) → suc m ≤ n → m ≤ n
      lower n low = omega (arith, low)

      too_high : (n : ℕ) → suc m ≤ n → n ≡ m → ⊥
      too_high n low own = omega (arith, low, own)

      other_thread : (v : ℕ) → suc m ≤ v → v ≢ m
      other_thread v low = λ same. too_high v low same

      others : (i : ℕ) (e : Event) → slice_get s.items i ≡ Some (event_item e) → e.thread ≢ m → (with_levels_out m (length (levels m) - suc u) next).left i ≡ next.left i
      others i e at other = ap (λ o. next.left i && not (is_event_of m o && is_since (slice_get (next.levels m) (length (levels m) - suc u)) i)) (ap (λ xs. slice_get xs i) was.items ∙ at)
          ∙ ap (λ z. next.left i && not (z && is_since (slice_get (next.levels m) (length (levels m) - suc u)) i)) (other_is e.thread m other) ∙ and_true (next.left i)

      own_left : (i : ℕ) (e : Event) → slice_get s.items i ≡ Some (event_item e) → e.thread ≡ m
          → (with_levels_out m (length (levels m) - suc u) next).left i ≡ (s.left i && not (ends_in (s.levels e.thread) (length (levels e.thread)) (to_undo doomed (levels e.thread)) i))
      own_left i e at own = ap (λ o. next.left i && not (is_event_of m o && is_since (slice_get (next.levels m) (length (levels m) - suc u)) i)) (ap (λ xs. slice_get xs i) was.items ∙ at)
          ∙ ap (λ n. next.left i && not (nat_eq n m && is_since (slice_get (next.levels m) (length (levels m) - suc u)) i)) own
          ∙ ap (λ z. next.left i && not (z && is_since (slice_get (next.levels m) (length (levels m) - suc u)) i)) (own_is m)
          ∙ ap (λ xs. next.left i && not (is_since (slice_get xs (length (levels m) - suc u)) i)) (was.above m (omega arith))
          ∙ ap (λ z. z && not (ends_in (s.levels m) (length (levels m)) (suc u) i)) (was.later i e at (here e.thread own))
          ∙ ap (λ n. s.left i && not (ends_in (s.levels m) (length (levels m)) n i)) (sym some)
          ∙ ap (λ n. s.left i && not (ends_in (s.levels n) (length (levels n)) (to_undo doomed (levels n)) i)) (sym own)
        where
          here : (n : ℕ) → n ≡ m → m ≤ n
          here n own = omega (arith, own)

  pub ended_at : (m : ℕ) → Ended m (after_row_calls (end_calls doomed levels m) s)
  ended_at zero = record { items = refl; above = λ u low. refl; undone = λ i t l w at. refl; later = λ i e at low. refl; ended = λ i e at low. absurd (omega (arith, low)) }
  ended_at (suc m) = subst (Ended (suc m)) (sym (after_append (end_call m (length (levels m)) (to_undo doomed (levels m))) (end_calls doomed levels m) s))
      (next_ended m (after_row_calls (end_calls doomed levels m) s) (to_undo doomed (levels m)) refl (ended_at m))
