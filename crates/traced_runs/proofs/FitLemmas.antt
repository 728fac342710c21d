-- A journal that was kept is no longer than a journal may be.
use Rattle.std.proofs.Common.{◌≡◌, ℕ, zero, suc, ◌+◌, ◌<◌, ◌≤◌, Bool, true, false, Option, None, Some, List, [], ◌∷◌, length, refl, sym, ◌∙◌, ap, subst, arith}
use Rattle.std.specs.Prelude.{nat_le, if◌then◌else◌}
use Rattle.std.proofs.lemmas.Bool.{leb-false}
use Rattle.op_core.specs.declared.Limit.TheVariants.{Trace}
use Rattle.op_core.specs.ThreadCode.{Code, quiet_step}
use Rattle.schedules.specs.declared.order.TurnEnd.{TurnEnd}
use Rattle.schedules.specs.Run.{Run, Follows}
use Rattle.step_port.specs.declared.step.Step.{Step}
use Rattle.step_port.specs.declared.step.Step.TheVariants.{MarkUndone}
use Rattle.step_port.specs.Words.{Words, answer_of}
use Rattle.thread_automaton.specs.declared.Bounds.{Bounds}
use Rattle.thread_automaton.specs.declared.Move.{Move}
use Rattle.thread_automaton.specs.declared.Move.TheVariants.{Over, Quiet, Stop, Make}
use Rattle.thread_automaton.specs.ThreadState.{ThreadState}
use Rattle.thread_automaton.specs.NextMove.{next_move}
use Rattle.thread_automaton.specs.Told.{Told, probed, advanced, born, lost, blocked, told}
use Rattle.core_runs.specs.Cores.{Core}
use Rattle.word_runs.specs.WordTurns.{Progress, GivesQuiet, GivesBy, most_shown, counts_for, last_mover, word_turns}
use Rattle.word_runs.specs.Laws.{AreActs}
use Rattle.word_runs.proofs.TurnLemmas.{turns_are_acts}
use Rattle.word_texts.specs.PutBack.{levels_back}
use Rattle.trace_journal.specs.declared.item.JournalItem.{JournalItem}
use Rattle.trace_journal.specs.declared.item.JournalItem.TheVariants.{Event as event_item, Undone}
use Rattle.trace_journal.specs.Text.{events_in, undos_in}
use Rattle.journal_rows.specs.Told.{RowsTold, after_row_calls, kept_items}
use Rattle.core_law.specs.RunCalls.{end_call}
use Rattle.core_law.specs.Calls.{end_call_told, end_calls_told}
use Rattle.sched_core.specs.Outcome.{rest_of}
use Rattle.sched_core.proofs.CountLemmas.{turns_count}
use Rattle.traced_runs.specs.Laws.{KeptJournalsFit}
use Rattle.traced_runs.specs.Outcome.{journal_left}
use Rattle.traced_runs.specs.Told.{told_at}
use Rattle.traced_runs.proofs.CallLemmas.{calls_append}

-- ---- a turn shows one event or undoing at most

one_for : (step : Step) (tells : Told) → counts_for step tells ≤ 1
one_for (MarkUndone q v) tells = omega arith
one_for step probed = omega arith
one_for step (advanced None) = omega arith
one_for step (advanced (Some reply)) = omega arith
one_for step born = omega arith
one_for step (lost v) = omega arith
one_for step (blocked why) = omega arith

module _ {S : Type 0} (code : Code S) (b : Bounds) where
  as_shown : (r next other : Progress S) → next ≡ other → other.shown ≤ r.shown + 1 → next.shown ≤ r.shown + 1
  as_shown r next other same few = subst (λ (p : Progress S). p.shown ≤ r.shown + 1) (sym same) few

  one_more : (r next : Progress S) (t : ℕ) (th : ThreadState S) (move : Move) (end : TurnEnd) → GivesBy code b r t th move end next → next.shown ≤ r.shown + 1
  one_more r next t th Over end (is, same) = as_shown r next r same (omega arith)
  one_more r next t th (Stop limit) end (is, same) = as_shown r next r same (omega arith)
  one_more r next t th Quiet end gives = by_quiet (quiet_step code th.local) gives
    where
      by_quiet : (o : Option S) → GivesQuiet r t th o end next → next.shown ≤ r.shown + 1
      by_quiet None (is, same) = as_shown r next r same (omega arith)
      by_quiet (Some l) (is, same) = as_shown r next _ same (omega arith)
  one_more r next t th (Make step) end (is, same) = as_shown r next _ same (let one = one_for step (told code b th step (answer_of r.core.words step)) in omega (arith, one))

  -- a run that isn't stopped has room for one more
  room : (r : Progress S) → r.keeps ≡ true → (word_turns code b).stopped r ≡ None → r.shown < most_shown
  room r keeps none = by_test (nat_le most_shown r.shown) refl
    where
      stop_is : (test : Bool) → nat_le most_shown r.shown ≡ test → (word_turns code b).stopped r ≡ (if test then Some (last_mover r.acts, Trace) else None)
      stop_is test is = ap (λ k. (word_turns code b).stopped (record r { keeps = k })) keeps ∙ ap (λ full. if full then Some (last_mover r.acts, Trace) else None) is

      by_test : (test : Bool) → nat_le most_shown r.shown ≡ test → r.shown < most_shown
      by_test true is = let both = sym (stop_is true is) ∙ none in absurd (cc)
      by_test false is = leb-false most_shown r.shown is

  pub shown_within : (run last : Run (Progress S)) (threads : List ℕ) → run.state.keeps ≡ true → run.state.shown ≤ most_shown → Follows (word_turns code b) run threads last → last.state.shown ≤ most_shown
  shown_within run last [] keeps few is = subst (λ (x : Run (Progress S)). x.state.shown ≤ most_shown) (sym is) few
  shown_within run last (t ∷ threads) keeps few (end, next, turn, later) =
      let space = room run.state keeps turn.goes_on in
      let given = turn.given in
      let one = one_more run.state next.state t given.0 (next_move code b given.0) end given.2 in
      shown_within next last threads ((turns_count code b run.state t end next.state given).keeps ∙ keeps) (omega (arith, space, one)) later

-- ---- what is left is no more than what was told

kept_few : (k : ℕ) (left : ℕ → Bool) (items : List JournalItem) → length (kept_items k left items) ≤ length items
kept_few k left [] = omega arith
kept_few k left (item ∷ items) = by_test (left k) (kept_few (suc k) left items)
  where
    by_test : (test : Bool) → length (kept_items (suc k) left items) ≤ length items → length (if test then item ∷ kept_items (suc k) left items else kept_items (suc k) left items) ≤ suc (length items)
    by_test true few = omega (arith, few)
    by_test false few = omega (arith, few)

split_items : (n : ℕ) (items : List JournalItem) → length (events_in items) + length (undos_in n items) ≡ length items
split_items n [] = refl
split_items n (event_item e ∷ items) = let rest = split_items (n + 1) items in omega (arith, rest)
split_items n (Undone t l k ∷ items) = let rest = split_items n items in omega (arith, rest)

one_end : (t n u : ℕ) (s : RowsTold) → (after_row_calls (end_call t n u) s).items ≡ s.items
one_end t n zero s = refl
one_end t n (suc u) s = refl

end_told : {S : Type 0} (w : Words) (t : ℕ) (o : Option (ThreadState S)) (s : RowsTold) → (after_row_calls (end_call_told w t o) s).items ≡ s.items
end_told w t None s = refl
end_told w t (Some th) s = one_end t th.levels (levels_back w th) s

ends_told : {S : Type 0} (core : Core S) (n : ℕ) (s : RowsTold) → (after_row_calls (end_calls_told core n) s).items ≡ s.items
ends_told core zero s = refl
ends_told core (suc t) s = ap (λ (x : RowsTold). x.items) (calls_append (end_call_told core.words t (core.threads t)) (end_calls_told core t) s)
    ∙ end_told core.words t (core.threads t) (after_row_calls (end_calls_told core t) s) ∙ ends_told core t s

pub kept_fit : {S : Type 0} (code : Code S) → KeptJournalsFit code
kept_fit {S} code b core schedule outcome is =
    let r : Progress S = is.last.state in
    let are : AreActs code b core r = turns_are_acts code b core (rest_of schedule) true is.threads is.last is.goes.0 in
    let n = is.journal.count in
    let left = journal_left code b are.cores r.acts n in
    let events = ap length (is.journal.events are.cores are.begins are.leads) in
    let undos = ap length (is.journal.undos are.cores are.begins are.leads) in
    let split = split_items 0 left in
    let rows = after_row_calls (end_calls_told (are.cores (length r.acts)) n) (told_at code b are.cores r.acts (length r.acts)) in
    let few = kept_few 0 rows.left rows.items in
    let all = ap length (ends_told (are.cores (length r.acts)) n (told_at code b are.cores r.acts (length r.acts))) in
    let counted = is.journal.items are.cores are.begins are.leads in
    let within = shown_within code b _ is.last is.threads refl (omega arith) is.goes.0 in
    omega (arith, events, undos, split, few, all, counted, within)
