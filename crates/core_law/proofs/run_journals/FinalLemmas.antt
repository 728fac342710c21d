-- What is left of the rows of a run is its journal.
use Rattle.std.proofs.Common.{◌≡◌, ◌≢◌, ◌⊎◌, inl, inr, ℕ, zero, suc, ◌+◌, ◌-◌, ◌<◌, ◌≤◌, ◌&&◌, Bool, true, false, not, Some, List, [], ◌∷◌, ◌++◌, length, refl, sym, ◌∙◌, ap, subst, arith}
use Rattle.std.specs.Prelude.{slice_get, nat_le, if◌then◌else◌}
use Rattle.std.proofs.lemmas.Bool.{cases_lt}
use Rattle.std.proofs.lemmas.Grind.{common_steps}
use Rattle.std.proofs.lemmas.Bool.Decides.{nat_tests}
use Rattle.std.proofs.lemmas.Option.{same_Some}
use Rattle.op_core.specs.declared.Op.{Op}
use Rattle.op_core.specs.declared.Reply.{Reply}
use Rattle.op_core.specs.ThreadCode.{Code}
use Rattle.op_core.specs.InPlaceList.{Entry, event, go_back, unseen}
use Rattle.op_core.specs.CleanCut.{IsStepOf}
use Rattle.trace_journal.specs.declared.item.JournalItem.{JournalItem}
use Rattle.thread_automaton.specs.declared.Bounds.{Bounds}
use Rattle.core_runs.specs.Cores.{Core}
use Rattle.core_runs.specs.Acts.{Act, mover}
use Rattle.core_runs.specs.Entries.{ShowFrom}
use Rattle.section_laws.specs.LevelRun.{In, IsLevel}
use Rattle.section_laws.proofs.level_runs.LevelLemmas.{Falls, below, falls, open_since}
use Rattle.section_laws.specs.Settled.{to_undo}
use Rattle.section_laws.specs.Levels.{core_at, levels_in, revoked_in, RunsInLevels}
use Rattle.section_laws.proofs.section_levels.LevelLemmas.{at_place, in_drop, level_in, runs_in_levels}
use Rattle.first_law.proofs.settled_monitors.DoomedLemmas.{Outermost, outermost_of, counts_from, some_in}
use Rattle.first_law.specs.Cuts.{is_cut_by}
use Rattle.core_law.specs.CleanCuts.{IsShownRun}
use Rattle.core_law.proofs.third_law.LevelLemmas.{undone_is_cut}
use Rattle.journal_rows.specs.Told.{RowsTold, is_since, after_row_calls, kept_items}
use Rattle.core_law.specs.RunCalls.{counted_silents, end_calls}
use Rattle.core_law.proofs.run_journals.ListLemmas.{count_nth}
use Rattle.core_law.proofs.run_journals.LevelSteps.{LevelStep, levels_shut, level_opens, levels_undone, StepAt}
use Rattle.core_law.proofs.run_journals.RowSteps.{rows, counted_at, step_of}
use Rattle.core_law.proofs.run_journals.FlagLemmas.{Gone, FlagSo, is_kept, is_gone, true_and, size_rises, one_more, item_there, flag_at}
use Rattle.core_law.proofs.run_journals.TailLemmas.{goes_back_to, IsTail, tails_at}
use Rattle.core_law.proofs.run_journals.CoverLemmas.{open_cut, covered, nth_falls}
use Rattle.core_law.proofs.run_journals.EndLemmas.{ends_in, Ended, ended_at}

-- ---- levels and their indices

level_index : (p d : ℕ) (levels : List ℕ) → IsLevel p d levels → slice_get levels (length levels - d) ≡ Some p
level_index p d [] is = absurd is
level_index p d (q ∷ levels) is = elim is [
  | inl here ↦ ap (slice_get (q ∷ levels)) (none_more here.1) ∙ ap Some (sym here.0)
  | inr more ↦ ap (slice_get (q ∷ levels)) (one_more (deep d levels more)) ∙ level_index p d levels more
]
  where
    none_more : d ≡ suc (length levels) → suc (length levels) - d ≡ 0
    none_more is = omega (arith, is)

    one_more : d ≤ length levels → suc (length levels) - d ≡ suc (length levels - d)
    one_more low = omega (arith, low)

    deep : (d : ℕ) (levels : List ℕ) → IsLevel p d levels → d ≤ length levels
    deep d [] is = absurd is
    deep d (x ∷ levels) is = elim is [ inl here ↦ equal d (length levels) here.1 | inr more ↦ up d (length levels) (deep d levels more) ]
      where
        equal : (d l : ℕ) → d ≡ suc l → d ≤ suc l
        equal d l is = omega (arith, is)

        up : (d l : ℕ) → d ≤ l → d ≤ suc l
        up d l is = omega (arith, is)

level_some : (p d : ℕ) (levels : List ℕ) → IsLevel p d levels → 0 < d
level_some p d [] is = absurd is
level_some p d (q ∷ levels) is = elim is [ inl here ↦ some here.1 | inr more ↦ level_some p d levels more ]
  where
    some : d ≡ suc (length levels) → 0 < d
    some is = omega (arith, is)

in_level : (p : ℕ) (levels : List ℕ) → In p levels → (d : ℕ) × IsLevel p d levels
in_level p [] is = absurd is
in_level p (q ∷ levels) is = elim is [
  | inl here ↦ (suc (length levels), inl (here, refl))
  | inr more ↦ let rest = in_level p levels more in (rest.0, inr rest.1)
]

-- ---- items that are left

pub kept_append : (k : ℕ) (left : ℕ → Bool) (xs ys : List JournalItem) → kept_items k left (xs ++ ys) ≡ kept_items k left xs ++ kept_items (k + length xs) left ys
kept_append k left [] ys = ap (λ n. kept_items n left ys) (none_more k)
  where
    none_more : (k : ℕ) → k ≡ k + 0
    none_more k = omega arith
kept_append k left (x ∷ xs) ys = by_flag (left k) (kept_append (suc k) left xs ys ∙ ap (λ n. kept_items (suc k) left xs ++ kept_items n left ys) (next k (length xs)))
  where
    next : (k n : ℕ) → suc k + n ≡ k + suc n
    next k n = omega arith

    by_flag : (z : Bool) → kept_items (suc k) left (xs ++ ys) ≡ kept_items (suc k) left xs ++ kept_items (k + suc (length xs)) left ys
        → (if z then x ∷ kept_items (suc k) left (xs ++ ys) else kept_items (suc k) left (xs ++ ys)) ≡ (if z then x ∷ kept_items (suc k) left xs else kept_items (suc k) left xs) ++ kept_items (k + suc (length xs)) left ys
    by_flag true rest = ap (λ zs. x ∷ zs) rest
    by_flag false rest = rest

pub same_size : {S : Type 0} (code : Code S) (b : Bounds) (c : ℕ → Core S) (k : ℕ) (acts : List Act) (es : List Entry) → ShowFrom code b c k acts es → length es ≡ length acts
same_size code b c k [] [] shows = refl
same_size code b c k [] (e ∷ es) shows = absurd shows
same_size code b c k (x ∷ acts) [] shows = absurd shows
same_size code b c k (x ∷ acts) (e ∷ es) shows = ap suc (same_size code b c (suc k) acts es shows.1)

is_less : (m n : ℕ) → m < n → nat_le n m ≡ false
is_less m n low = grind (arith, common_steps, nat_tests)

is_more : (m n : ℕ) → n ≤ m → nat_le n m ≡ true
is_more m n low = grind (arith, common_steps, nat_tests)

module _ {S : Type 0} (code : Code S) (b : Bounds) (first : S) (classes : ℕ) (c : ℕ → Core S) (acts : List Act) (es : List Entry) (doomed : ℕ → Bool)
    (shown : IsShownRun code b first classes c acts es doomed) (n : ℕ) (above : (t : ℕ) → n ≤ t → to_undo doomed ((c (length acts)).levels t) ≡ 0) where
  abbrev table : ℕ → RowsTold
  table k = rows code b first classes c acts es doomed shown k

  abbrev size : ℕ → ℕ
  size k = length (table k).items

  abbrev cut : ℕ → Bool
  cut = is_cut_by doomed c acts

  abbrev last : ℕ → List ℕ
  last t = (c (length acts)).levels t

  abbrev pub final : RowsTold
  final = after_row_calls (end_calls doomed (c (length acts)).levels n) (table (length acts))

  whole : length acts ≤ length acts
  whole = omega arith

  pub ended : Ended doomed (c (length acts)).levels (table (length acts)) n final
  ended = ended_at doomed (c (length acts)).levels (table (length acts)) n

  earlier_at : (k u p : ℕ) → slice_get es k ≡ Some (go_back u p) → p ≤ k
  earlier_at k u p at = low (goes_back_to code b first classes c acts es doomed shown k u p (subst (λ m. k < m) (same_size code b c 0 acts es shown.shows) (within es k at)) at).earlier
    where
      low : p < k → p ≤ k
      low is = omega (arith, is)

      within : (xs : List Entry) (k : ℕ) → slice_get xs k ≡ Some (go_back u p) → k < length xs
      within [] k at = absurd (none_there k at)
        where
          none_there : (k : ℕ) → slice_get {X = Entry} [] k ≡ Some (go_back u p) → ⊥
          none_there zero at = cc
          none_there (suc k) at = cc
      within (x ∷ xs) zero at = omega arith
      within (x ∷ xs) (suc k) at = let rest : k < length xs = within xs k at in omega (arith, rest)

  -- ---- an event

  module _ (a t : ℕ) (op : Op) (reply : Reply) (at : slice_get es a ≡ Some (event t op reply)) (within : a < length acts) where
    low : a ≤ length acts
    low = omega (arith, within)

    place_is : (k : ℕ) → k ≤ length acts → core_at c acts k ≡ c k
    place_is k low = at_place code b first classes c acts shown.levelled k low

    runs : RunsInLevels c acts t
    runs = runs_in_levels code b first classes c acts shown.levelled t

    -- the act that opened a level shows nothing
    not_opening : (q : ℕ) → q < length acts → In q (last t) → a ≢ q
    not_opening q inside there same = by_step (step_of code b first classes c acts es doomed shown q inside)
      where
        next : suc q ≤ length acts
        next = inside

        before : q ≤ length acts
        before = omega (arith, inside)

        open_next : In q ((c (suc q)).levels t)
        open_next = subst (λ (core : Core S). In q (core.levels t)) (place_is (suc q) next)
            (open_since (levels_in c acts t) (revoked_in c acts t) runs.act runs.is_run q (length acts) (suc q) (omega arith) next
            (subst (λ (core : Core S). In q (core.levels t)) (sym (place_is (length acts) whole)) there))

        not_itself : q < q → ⊥
        not_itself is = omega (arith, is)

        not_open_yet : In q ((c q).levels t) → ⊥
        not_open_yet is = not_itself (below q q (levels_in c acts t q) (falls (levels_in c acts t) (revoked_in c acts t) runs.act runs.is_run q)
            (subst (λ (core : Core S). In q (core.levels t)) (sym (place_is q before)) is))

        no_event : event t op reply ≡ unseen → ⊥
        no_event is = cc

        by_level : (u : ℕ) (e : Entry) → slice_get es q ≡ Some e → u ≡ t → LevelStep q u e ((c q).levels u) ((c (suc q)).levels u) → ⊥
        by_level u e here own (levels_shut other m few kept) = not_open_yet (subst (λ v. In q ((c q).levels v)) own (in_drop (length ((c q).levels u) - m) q ((c q).levels u) (subst (In q) kept (subst (λ v. In q ((c (suc q)).levels v)) (sym own) open_next))))
        by_level u e here own (level_opens is kept) = no_event (same_Some (event t op reply) unseen (sym at ∙ ap (slice_get es) same ∙ here ∙ ap Some is))
        by_level u e here own (levels_undone m p is less kept opened) = not_open_yet (subst (λ v. In q ((c q).levels v)) own (in_drop (length ((c q).levels u) - m) q ((c q).levels u) (subst (In q) kept (subst (λ v. In q ((c (suc q)).levels v)) (sym own) open_next))))

        by_step : (e : Entry) × (slice_get es q ≡ Some e) × StepAt code b first classes c acts es doomed shown q e → ⊥
        by_step (e, here, step) = by_level (mover (Some step.act)) e here (step.own t (subst (λ x. IsStepOf t (Some x)) (same_Some (event t op reply) e (sym at ∙ ap (slice_get es) same ∙ here)) refl)) step.level

    -- where it isn't gone back over, it is cut exactly if it came in a level that is to be undone at the end
    ends_cut : (Gone es (length acts) t a → ⊥) → ends_in ((table (length acts)).levels t) (length (last t)) (to_undo doomed (last t)) (size a) ≡ cut a
    ends_cut not_gone = by_count (to_undo doomed (last t)) refl
      where
        not_cut : ((p : ℕ) → p < a → doomed p ≡ true → In p (last t) → ⊥) → cut a ≡ false
        not_cut none = by_cut (cut a) refl
          where
            by_cut : (z : Bool) → cut a ≡ z → cut a ≡ false
            by_cut false is = is
            by_cut true is = elim (covered code b first classes c acts es doomed shown a t op reply at within is) [
              | inl gone ↦ absurd (not_gone gone)
              | inr (p, before, so, there) ↦ absurd (none p before so there)
            ]

        by_count : (u : ℕ) → to_undo doomed (last t) ≡ u → ends_in ((table (length acts)).levels t) (length (last t)) u (size a) ≡ cut a
        by_count zero none = sym (not_cut (λ p before so there. too_many none (some_in doomed p (last t) there so)))
          where
            too_many : {m : ℕ} → m ≡ 0 → 0 < m → ⊥
            too_many is some = omega (arith, is, some)
        by_count (suc u) some = ap (λ o. is_since o (size a)) nth ∙ by_place (cases_lt out.place a)
          where
            out : Outermost doomed (last t)
            out = outermost_of doomed (last t) (subst (λ m. 0 < m) (sym some) (omega arith))

            deep : suc u ≤ length (last t)
            deep = fits out.level (to_undo doomed (last t)) (length (last t)) (level_some out.place out.level (last t) out.is) out.count some
              where
                fits : (d m l : ℕ) → 0 < d → d + m ≡ suc l → m ≡ suc u → suc u ≤ l
                fits d m l least count is = omega (arith, least, count, is)

            index : length (last t) - out.level ≡ u
            index = is_index out.level (to_undo doomed (last t)) (length (last t)) out.count some
              where
                is_index : (d m l : ℕ) → d + m ≡ suc l → m ≡ suc u → l - d ≡ u
                is_index d m l count is = omega (arith, count, is)

            there : slice_get (last t) u ≡ Some out.place
            there = ap (slice_get (last t)) (sym index) ∙ level_index out.place out.level (last t) out.is

            in_last : In out.place (last t)
            in_last = level_in out.place out.level (last t) out.is

            tail : IsTail code b first classes c acts es doomed shown (length acts) t u out.place
            tail = tails_at code b first classes c acts es doomed shown (length acts) whole t u out.place there

            nth : slice_get ((table (length acts)).levels t) (length (last t) - suc u) ≡ Some (size out.place)
            nth = ap (λ xs. slice_get xs (length (last t) - suc u)) (counted_at code b first classes c acts es doomed shown (length acts) whole t)
                ∙ count_nth size (length (last t) - suc u) out.place (last t) (less (length (last t)) deep) (ap (slice_get (last t)) (back (length (last t)) deep) ∙ there)
              where
                less : (l : ℕ) → suc u ≤ l → l - suc u < l
                less l deep = omega (arith, deep)

                back : (l : ℕ) → suc u ≤ l → l - suc (l - suc u) ≡ u
                back l deep = omega (arith, deep)

            by_place : (out.place < a) ⊎ (a ≤ out.place) → nat_le (size out.place) (size a) ≡ cut a
            by_place (inl before) = is_more (size a) (size out.place) (size_rises code b first classes c acts es doomed shown out.place a (upto before) low) ∙ sym (open_cut code b first classes c acts es doomed shown a t op reply at within out.place out.so before in_last)
              where
                upto : {p : ℕ} → p < a → p ≤ a
                upto before = omega (arith, before)
            by_place (inr past) = is_less (size a) (size out.place) (lower (one_more code b first classes c acts es doomed shown a t op reply at within)
                (size_rises code b first classes c acts es doomed shown (suc a) out.place (after past (not_opening out.place tail.earlier in_last)) (upto tail.earlier))) ∙ sym (not_cut (λ p before so inside. too_low (least p so inside) before past))
              where
                lower : {m k q : ℕ} → m ≡ suc k → m ≤ q → k < q
                lower is up = omega (arith, is, up)

                after : {q : ℕ} → a ≤ q → a ≢ q → suc a ≤ q
                after low other = omega (arith, low, other)

                upto : {q m : ℕ} → q < m → q ≤ m
                upto is = omega (arith, is)

                too_low : {p q : ℕ} → q ≤ p → p < a → a ≤ q → ⊥
                too_low one two three = omega (arith, one, two, three)

                least : (p : ℕ) → doomed p ≡ true → In p (last t) → out.place ≤ p
                least p so inside =
                    let level = in_level p (last t) inside in
                    nth_falls code b first classes c acts es doomed shown (length acts) (length (last t) - level.0) u p out.place (last t)
                    (subst (Falls (length acts)) (ap (λ (core : Core S). core.levels t) (place_is (length acts) whole)) (falls (levels_in c acts t) (revoked_in c acts t) runs.act runs.is_run (length acts)))
                    (level_index p level.0 (last t) level.1) there (inner level.0 (to_undo doomed (last t)) (length (last t)) (counts_from doomed p level.0 (last t) level.1 so) some)
                  where
                    inner : (d m l : ℕ) → suc l ≤ d + m → m ≡ suc u → l - d ≤ u
                    inner d m l count is = omega (arith, count, is)

    pub flag_final : final.left (size a) ≡ not (cut a)
    flag_final = by_thread (cases_lt t n) ∙ by_flag (flag_at code b first classes c acts es doomed shown a t op reply at earlier_at (length acts) whole within)
      where
        by_thread : (t < n) ⊎ (n ≤ t) → final.left (size a) ≡ ((table (length acts)).left (size a) && not (ends_in ((table (length acts)).levels t) (length (last t)) (to_undo doomed (last t)) (size a)))
        by_thread (inl inside) = ended.ended (size a) (record { thread = t; silent = counted_silents ((c a).threads t); op = op; reply = reply }) (item_there code b first classes c acts es doomed shown a t op reply at within (length acts) within whole) inside
        by_thread (inr past) = ended.later (size a) (record { thread = t; silent = counted_silents ((c a).threads t); op = op; reply = reply }) (item_there code b first classes c acts es doomed shown a t op reply at within (length acts) within whole) past
            ∙ sym (true_and ((table (length acts)).left (size a))) ∙ ap (λ m. (table (length acts)).left (size a) && not (ends_in ((table (length acts)).levels t) (length (last t)) m (size a))) (sym (above t past))

        by_flag : FlagSo es (length acts) t a ((table (length acts)).left (size a))
            → ((table (length acts)).left (size a) && not (ends_in ((table (length acts)).levels t) (length (last t)) (to_undo doomed (last t)) (size a))) ≡ not (cut a)
        by_flag (is_kept left not_gone) = ap (λ z. z && not (ends_in ((table (length acts)).levels t) (length (last t)) (to_undo doomed (last t)) (size a))) left ∙ ap not (ends_cut not_gone)
        by_flag (is_gone left gone) = ap (λ z. z && not (ends_in ((table (length acts)).levels t) (length (last t)) (to_undo doomed (last t)) (size a))) left
            ∙ ap not (sym (undone_is_cut code b first classes c acts es doomed shown gone.at t gone.place gone.goes a gone.reach gone.later (subst (IsStepOf t) (sym at) refl)))
