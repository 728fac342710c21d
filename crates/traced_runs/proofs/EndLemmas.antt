-- What the threads tell where a run ends.
use Rattle.std.proofs.Common.{◌≡◌, ℕ, zero, suc, ◌+◌, ◌-◌, ◌<◌, Option, Some, [], ◌∷◌, refl, sym, ◌∙◌, ap, subst, arith}
use Rattle.step_port.specs.Words.{Words}
use Rattle.thread_automaton.specs.ThreadState.{ThreadState}
use Rattle.core_runs.specs.Cores.{Core}
use Rattle.word_texts.specs.PutBack.{levels_back}
use Rattle.journal_rows.specs.Told.{RowsTold, leaves_levels_out, after_row_calls}
use Rattle.journal_rows.specs.Rows.{AreRowsTold}
use Rattle.journal_rows.specs.declared.journal_rows.JournalRows.{JournalRows}
use Rattle.core_law.specs.RunCalls.{end_call}
use Rattle.core_law.specs.Calls.{end_call_told, end_calls_told}
use Rattle.traced_runs.proofs.CallLemmas.{calls_append}

some_left : (t n u : ℕ) → 0 < u → end_call t n u ≡ leaves_levels_out t (n - u) ∷ []
some_left t n zero some = absurd (omega (arith, some))
some_left t n (suc u) some = refl

-- a thread that has levels to undo
pub end_left : {S : Type 0} (w : Words) (t u : ℕ) (o : Option (ThreadState S)) (th : ThreadState S) → o ≡ Some th → u ≡ levels_back w th → 0 < u → end_call_told w t o ≡ leaves_levels_out t (th.levels - u) ∷ []
end_left w t u o th is back some = ap (end_call_told w t) is ∙ ap (end_call t th.levels) (sym back) ∙ some_left t th.levels u some

-- one that has none
pub none_left : {S : Type 0} (w : Words) (t u : ℕ) (o : Option (ThreadState S)) (th : ThreadState S) → o ≡ Some th → u ≡ levels_back w th → u ≡ 0 → end_call_told w t o ≡ []
none_left w t u o th is back none = ap (end_call_told w t) is ∙ ap (end_call t th.levels) (sym back ∙ none)

-- the rows once the next thread has told what it is to undo
pub one_end_more : {S : Type 0} (core : Core S) (n : ℕ) (w : Words) (threads : ℕ → Option (ThreadState S)) → core.words ≡ w → core.threads ≡ threads → (rows : JournalRows) (s : RowsTold)
    → AreRowsTold rows (after_row_calls (end_call_told w n (threads n)) (after_row_calls (end_calls_told core n) s)) → AreRowsTold rows (after_row_calls (end_calls_told core (n + 1)) s)
one_end_more core n w threads words is rows s told =
    let next : suc n ≡ n + 1 = omega arith in
    subst (λ k. AreRowsTold rows (after_row_calls (end_calls_told core k) s)) next
    (subst (AreRowsTold rows) (sym (calls_append (end_call_told core.words n (core.threads n)) (end_calls_told core n) s
    ∙ ap (λ v. after_row_calls (end_call_told v n (core.threads n)) (after_row_calls (end_calls_told core n) s)) words
    ∙ ap (λ f. after_row_calls (end_call_told w n (f n)) (after_row_calls (end_calls_told core n) s)) is)) told)
