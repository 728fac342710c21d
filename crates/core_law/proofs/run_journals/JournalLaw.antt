-- What is left of the rows of a run is its journal, place by place.
use Rattle.std.proofs.Common.{◌≡◌, ℕ, zero, suc, ◌+◌, ◌<◌, ◌≤◌, ◌&&◌, Bool, true, false, not, Option, None, Some, List, [], ◌∷◌, ◌++◌, length, length-append, inl, inr, refl, sym, ◌∙◌, ap, subst, arith}
use Rattle.std.specs.Prelude.{slice_get, nat_lt, nat_le, if◌then◌else◌}
use Rattle.std.proofs.Math.Path.{fun_ext}
use Rattle.std.proofs.lemmas.Bool.{cases_lt}
use Rattle.std.proofs.lemmas.Grind.{common_steps}
use Rattle.std.proofs.lemmas.Bool.Decides.{nat_tests}
use Rattle.std.proofs.lemmas.Option.{slice_get_past}
use Rattle.op_core.specs.declared.Op.{Op}
use Rattle.op_core.specs.declared.Reply.{Reply}
use Rattle.op_core.specs.ThreadCode.{Code}
use Rattle.op_core.specs.InPlaceList.{Entry, silent, event, put_back, give_back, go_back, unseen}
use Rattle.op_core.specs.CleanCut.{IsStepOf}
use Rattle.trace_journal.specs.declared.item.JournalItem.{JournalItem}
use Rattle.trace_journal.specs.declared.item.JournalItem.TheVariants.{Event as event_item, Undone}
use Rattle.thread_automaton.specs.declared.Bounds.{Bounds}
use Rattle.thread_automaton.specs.ThreadState.{ThreadState}
use Rattle.core_runs.specs.Cores.{Core}
use Rattle.core_runs.specs.Acts.{Act, mover}
use Rattle.section_laws.specs.Settled.{to_undo}
use Rattle.first_law.specs.Cuts.{is_cut_by}
use Rattle.core_law.specs.CleanCuts.{IsShownRun}
use Rattle.core_law.proofs.third_law.EntryLemmas.{IsGoBack}
use Rattle.journal_rows.specs.Told.{RowsTold, is_event_of, kept_items, items_left}
use Rattle.core_law.specs.Journal.{run_journal}
use Rattle.core_law.specs.RunCalls.{counted_silents}
use Rattle.core_law.specs.JournalLaws.{RowsAreJournals}
use Rattle.core_law.proofs.run_journals.JournalLemmas.{silents_at, back_at, back_after, back_with, items_by, items_with, journal_to, journal_is}
use Rattle.core_law.proofs.run_journals.LevelSteps.{back_thread, LevelStep, levels_shut, level_opens, levels_undone}
use Rattle.core_law.proofs.run_journals.RowSteps.{shown_by, words_after, over, rows, step_of}
use Rattle.core_law.proofs.run_journals.FlagLemmas.{NextRows, next_rows, get_next, items_stay}
use Rattle.core_law.proofs.run_journals.MoveLemmas.{AreMoves, moves_at}
use Rattle.core_law.proofs.run_journals.FinalLemmas.{kept_append, same_size, final, ended, flag_final}

back_same : {S : Type 0} (c : ℕ → Core S) (cut : ℕ → Bool) (t : ℕ) (f : ℕ → ℕ) (e : Entry) → words_after t f e ≡ back_after c cut t f e
back_same c cut t f (silent u) = refl
back_same c cut t f (event u op reply) = refl
back_same c cut t f (put_back r i v) = refl
back_same c cut t f (give_back u r n) = refl
back_same c cut t f (go_back u p) = refl
back_same c cut t f unseen = refl

module _ {S : Type 0} (code : Code S) (b : Bounds) (first : S) (classes : ℕ) (c : ℕ → Core S) (acts : List Act) (es : List Entry) (doomed : ℕ → Bool)
    (shown : IsShownRun code b first classes c acts es doomed) (n : ℕ) (above : (t : ℕ) → n ≤ t → to_undo doomed ((c (length acts)).levels t) ≡ 0) where
  abbrev table : ℕ → RowsTold
  table k = rows code b first classes c acts es doomed shown k

  abbrev size : ℕ → ℕ
  size k = length (table k).items

  abbrev cut : ℕ → Bool
  cut = is_cut_by doomed c acts

  abbrev end : RowsTold
  end = final code b first classes c acts es doomed shown n above

  abbrev Step : ℕ → Type 0
  Step k = NextRows code b first classes c acts es doomed shown k

  whole : length acts ≤ length acts
  whole = omega arith

  next : (k : ℕ) → k < length acts → Step k
  next k within = next_rows code b first classes c acts es doomed shown k within

  -- ---- the words that were put back

  backs_are : (k : ℕ) → k ≤ length acts → (table k).back ≡ back_at c cut acts es k
  backs_are zero within = refl
  backs_are (suc k) within = by (next k (low within)) (backs_are k (lower within))
    where
      low : suc k ≤ length acts → k < length acts
      low within = omega (arith, within)

      lower : suc k ≤ length acts → k ≤ length acts
      lower within = omega (arith, within)

      by : Step k → (table k).back ≡ back_at c cut acts es k → (table (suc k)).back ≡ back_at c cut acts es (suc k)
      by now was = fun_ext now.row.back ∙ ap (λ f. words_after (mover (Some now.step.act)) f now.entry) was
          ∙ back_same c cut (mover (Some now.step.act)) (back_at c cut acts es k) now.entry
          ∙ ap (λ o. back_with c cut acts es (Some now.step.act) (back_at c cut acts es k) o) (sym now.there)
          ∙ ap (λ o. back_with c cut acts es o (back_at c cut acts es k) (slice_get es k)) (sym now.step.here)

  -- ---- undoings are left

  undoing_left : (i t l w : ℕ) → slice_get (table (length acts)).items i ≡ Some (Undone t l w) → (j : ℕ) → j ≤ length acts → (table j).left i ≡ true
  undoing_left i t l w at zero within = refl
  undoing_left i t l w at (suc j) within = by (next j (low within)) (undoing_left i t l w at j (lower within))
    where
      low : suc j ≤ length acts → j < length acts
      low within = omega (arith, within)

      lower : suc j ≤ length acts → j ≤ length acts
      lower within = omega (arith, within)

      no_event : (u : ℕ) → is_event_of u (slice_get (table j).items i) ≡ false
      no_event u = elim (cases_lt i (size j)) [
        | inl inside ↦ ap (is_event_of u) (sym (items_stay code b first classes c acts es doomed shown j (length acts) i (lower within) whole inside) ∙ at)
        | inr past ↦ ap (is_event_of u) (slice_get_past (table j).items i past)
      ]

      not_over : (e : Entry) → over size (table j).items e i ≡ false
      not_over (go_back u p) = ap (λ z. z && nat_le (size p) i) (no_event u)
      not_over (silent u) = refl
      not_over (event u op reply) = refl
      not_over (put_back r k v) = refl
      not_over (give_back u r m) = refl
      not_over unseen = refl

      by : Step j → (table j).left i ≡ true → (table (suc j)).left i ≡ true
      by now was = now.row.left i ∙ ap (λ z. z && not (over size (table j).items now.entry i)) was ∙ ap not (not_over now.entry)

  -- ---- place by place

  -- the items that an act adds, and which of them are left at the end
  module _ (k : ℕ) (within : k < length acts) (now : Step k) where
    abbrev added : Entry → List JournalItem
    added e = shown_by (c k) (length ((c (suc k)).levels (mover (Some now.step.act)))) (table k).back e

    low : k ≤ length acts
    low = omega (arith, within)

    -- it counts the silent moves that are left
    counts : (u : ℕ) → to_undo doomed ((c k).levels u) ≡ 0 → counted_silents ((c k).threads u) ≡ silents_at c cut acts es k u
    counts u none = by_thread ((c k).threads u) refl
      where
        are : AreMoves code b first classes c acts es doomed shown k
        are = moves_at code b first classes c acts es doomed shown k low

        by_thread : (o : Option (ThreadState S)) → (c k).threads u ≡ o → counted_silents ((c k).threads u) ≡ silents_at c cut acts es k u
        by_thread None is = ap counted_silents is ∙ sym (are.nobody u is)
        by_thread (Some th) is = ap counted_silents is ∙ are.there u th is none

    event_kept : (u : ℕ) (op : Op) (reply : Reply) → now.entry ≡ event u op reply
        → kept_items (size k) end.left (added (event u op reply)) ≡ items_by c cut k (silents_at c cut acts es k) (back_at c cut acts es k) (event u op reply)
    event_kept u op reply is = ap (λ z. if z then event_item (record { thread = u; silent = counted_silents ((c k).threads u); op = op; reply = reply }) ∷ [] else [])
        (flag_final code b first classes c acts es doomed shown n above k u op reply (now.there ∙ ap Some is) within) ∙ by_cut (cut k) refl
      where
        own : mover (Some now.step.act) ≡ u
        own = now.step.own u (subst (λ x. IsStepOf u (Some x)) (sym is) refl)

        zero_so : (m : ℕ) → nat_lt 0 m ≡ false → m ≡ 0
        zero_so m none = grind (arith, common_steps, nat_tests)

        nothing : cut k ≡ false → to_undo doomed ((c k).levels u) ≡ 0
        nothing kept = zero_so (to_undo doomed ((c k).levels u))
            (ap (λ v. nat_lt 0 (to_undo doomed ((c k).levels v))) (sym own) ∙ ap (λ o. nat_lt 0 (to_undo doomed ((c k).levels (mover o)))) (sym now.step.here) ∙ kept)

        by_cut : (z : Bool) → cut k ≡ z → (if not (cut k) then event_item (record { thread = u; silent = counted_silents ((c k).threads u); op = op; reply = reply }) ∷ [] else [])
            ≡ (if cut k then [] else (event_item (record { thread = u; silent = silents_at c cut acts es k u; op = op; reply = reply }) ∷ []))
        by_cut true out = ap (λ z. if not z then event_item (record { thread = u; silent = counted_silents ((c k).threads u); op = op; reply = reply }) ∷ [] else []) out
            ∙ sym (ap (λ z. if z then [] else (event_item (record { thread = u; silent = silents_at c cut acts es k u; op = op; reply = reply }) ∷ [])) out)
        by_cut false kept = ap (λ z. if not z then event_item (record { thread = u; silent = counted_silents ((c k).threads u); op = op; reply = reply }) ∷ [] else []) kept
            ∙ ap (λ m. event_item (record { thread = u; silent = m; op = op; reply = reply }) ∷ []) (counts u (nothing kept))
            ∙ sym (ap (λ z. if z then [] else (event_item (record { thread = u; silent = silents_at c cut acts es k u; op = op; reply = reply }) ∷ [])) kept)

    undoing_kept : (u p : ℕ) → now.entry ≡ go_back u p
        → kept_items (size k) end.left (added (go_back u p)) ≡ items_by c cut k (silents_at c cut acts es k) (back_at c cut acts es k) (go_back u p)
    undoing_kept u p is =
        ap (λ z. if z then added (go_back u p) else []) left
        ∙ ap (λ v. Undone u (length ((c (suc k)).levels v) + 1) ((table k).back u) ∷ []) (own now.step.level is)
        ∙ ap (λ f. Undone u (length ((c (suc k)).levels u) + 1) (f u) ∷ []) (backs_are k low)
      where
        own : {v : ℕ} {e : Entry} {before after : List ℕ} → LevelStep k v e before after → e ≡ go_back u p → v ≡ u
        own (levels_shut other m few kept) same = absurd (other (subst IsGoBack (sym same) tt))
        own (level_opens unseen_so kept) same = absurd (subst IsGoBack (sym same ∙ unseen_so) tt)
        own (levels_undone m q goes less kept opened) same = ap back_thread (sym goes ∙ same)

        item_at : slice_get (table (length acts)).items (size k) ≡ Some (Undone u (length ((c (suc k)).levels (mover (Some now.step.act))) + 1) ((table k).back u))
        item_at = items_stay code b first classes c acts es doomed shown (suc k) (length acts) (size k) within whole grown ∙ ap (λ xs. slice_get xs (size k)) items ∙ get_next (table k).items _ []
          where
            items : (table (suc k)).items ≡ (table k).items ++ Undone u (length ((c (suc k)).levels (mover (Some now.step.act))) + 1) ((table k).back u) ∷ []
            items = now.row.items ∙ ap (λ e. (table k).items ++ shown_by (c k) (length ((c (suc k)).levels (mover (Some now.step.act)))) (table k).back e) is

            grown : size k < size (suc k)
            grown = subst (λ m. size k < m) (sym (ap length items ∙ length-append (table k).items (Undone u (length ((c (suc k)).levels (mover (Some now.step.act))) + 1) ((table k).back u) ∷ []))) (less (size k))
              where
                less : (m : ℕ) → m < m + 1
                less m = omega arith

        left : end.left (size k) ≡ true
        left = (ended code b first classes c acts es doomed shown n above).undone (size k) u (length ((c (suc k)).levels (mover (Some now.step.act))) + 1) ((table k).back u) item_at
            ∙ undoing_left (size k) u (length ((c (suc k)).levels (mover (Some now.step.act))) + 1) ((table k).back u) item_at (length acts) whole

    entry_kept : (e : Entry) → now.entry ≡ e → kept_items (size k) end.left (added e) ≡ items_by c cut k (silents_at c cut acts es k) (back_at c cut acts es k) e
    entry_kept (silent u) is = refl
    entry_kept (event u op reply) is = event_kept u op reply is
    entry_kept (put_back r i v) is = refl
    entry_kept (give_back u r m) is = refl
    entry_kept (go_back u p) is = undoing_kept u p is
    entry_kept unseen is = refl

  kept_to : (k : ℕ) → k ≤ length acts → kept_items 0 end.left (table k).items ≡ journal_to c cut acts es k
  kept_to zero within = refl
  kept_to (suc k) within = by (next k (low within)) (kept_to k (lower within))
    where
      low : suc k ≤ length acts → k < length acts
      low within = omega (arith, within)

      lower : suc k ≤ length acts → k ≤ length acts
      lower within = omega (arith, within)

      none_more : (m : ℕ) → 0 + m ≡ m
      none_more m = omega arith

      by : Step k → kept_items 0 end.left (table k).items ≡ journal_to c cut acts es k → kept_items 0 end.left (table (suc k)).items ≡ journal_to c cut acts es (suc k)
      by now was = ap (kept_items 0 end.left) now.row.items
          ∙ kept_append 0 end.left (table k).items (shown_by (c k) (length ((c (suc k)).levels (mover (Some now.step.act)))) (table k).back now.entry)
          ∙ ap (λ xs. xs ++ kept_items (0 + size k) end.left (shown_by (c k) (length ((c (suc k)).levels (mover (Some now.step.act)))) (table k).back now.entry)) was
          ∙ ap (λ m. journal_to c cut acts es k ++ kept_items m end.left (shown_by (c k) (length ((c (suc k)).levels (mover (Some now.step.act)))) (table k).back now.entry)) (none_more (size k))
          ∙ ap (λ xs. journal_to c cut acts es k ++ xs) (entry_kept k (low within) now now.entry refl)
          ∙ ap (λ o. journal_to c cut acts es k ++ items_with c cut acts es k (silents_at c cut acts es k) (back_at c cut acts es k) o) (sym now.there)

  pub rows_are : items_left end ≡ run_journal c cut acts es
  rows_are = ap (kept_items 0 end.left) (ended code b first classes c acts es doomed shown n above).items ∙ kept_to (length acts) whole
      ∙ sym (journal_is c cut acts es (same_size code b c 0 acts es shown.shows) (λ j inside.
      let found = step_of code b first classes c acts es doomed shown j inside in (found.2.act, found.0, found.2.here, found.1)))

pub rows_are_journals : {S : Type 0} (code : Code S) → RowsAreJournals code
rows_are_journals code b first classes c acts es doomed shown n above = rows_are code b first classes c acts es doomed shown n above
