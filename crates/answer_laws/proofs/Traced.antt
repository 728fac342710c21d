-- A journal that trace wrote is accepted by check.
use Rattle.std.proofs.Common.{◌≡◌, ◌≤◌, ◌+◌, inr, ℕ, zero, suc, ◌==◌, Bool, true, false, if◌then◌else◌, List, [], ◌∷◌, ◌++◌, map, length, take, Ok, refl, sym, ◌∙◌, ap, subst, arith}
use Rattle.std.specs.List.{concat}
use Rattle.std.specs.Fmt.{decimal}
use Rattle.op_core.specs.declared.Event.{Event}
use Rattle.op_core.specs.declared.Undo.{Undo}
use Rattle.op_core.specs.declared.Line.{Line}
use Rattle.op_core.specs.declared.Op.{Op}
use Rattle.op_core.specs.declared.Op.TheVariants.{ClassOf, Read, Write, New, Enter, Exit, Wait, Rewake, Notify, Print, Start, Join, Init, InitDone, End}
use Rattle.op_core.specs.declared.Reply.{Reply}
use Rattle.op_core.specs.MadeTexts.{AreMadeTexts}
use Rattle.op_core.specs.OrdinaryState.{OrdinaryState}
use Rattle.op_core.proofs.ExecutionLemmas.{lines}
use Rattle.ordinary_machine.specs.Step.{event_without_line, without_line}
use Rattle.trace_journal.specs.declared.item.JournalItem.{JournalItem}
use Rattle.trace_journal.specs.declared.item.JournalItem.TheVariants.{Event as event_item, Undone}
use Rattle.trace_journal.specs.declared.item.TheConstants.{LARGEST}
use Rattle.trace_journal.specs.Spelling.{joined, spelled, event_words, event_line, end_line, head_line}
use Rattle.trace_journal.specs.Text.{ended, events_in, undos_first, merged, text_of}
use Rattle.trace_journal.proofs.LengthLemmas.{journals_fit}
use Rattle.journal_check.specs.Checked.{IsChecked}
use Rattle.journal_check.proofs.LawLemmas.{executions_accepted}
use Rattle.program_answers.specs.Output.{journal_pieces}
use Rattle.program_answers.specs.declared.answer.Answer.{Answer}
use Rattle.java_rows.specs.Thread.{Local, java_code}
use Rattle.java_machine.specs.Lines.{line_bytes}
use Rattle.java_words.specs.WordRun.{machine_at_start}
use Rattle.java_run.specs.declared.checking.Checked.TheVariants.{Execution}
use Rattle.answer_laws.specs.Traced.{TracesAreAccepted}

-- the line of an event names no text
same_words : (op : Op) (reply : Reply) → event_words (without_line op) reply ≡ event_words op reply
same_words (ClassOf r) reply = refl
same_words (Read r i) reply = refl
same_words (Write r i v) reply = refl
same_words (New c l) reply = refl
same_words (Enter r) reply = refl
same_words (Exit r) reply = refl
same_words (Wait r) reply = refl
same_words (Rewake r) reply = refl
same_words (Notify r) reply = refl
same_words (Print x) reply = search
same_words (Start r p) reply = refl
same_words (Join r) reply = refl
same_words (Init c) reply = refl
same_words (InitDone c ok) reply = refl
same_words (End x) reply = refl

same_line : (e : Event) → event_line (event_without_line e) ≡ event_line e
same_line e = ap (λ ws. joined (decimal e.thread ∷ decimal e.silent ∷ joined ws ∷ [])) (same_words e.op e.reply)

-- ---- events and undoings that are merged

abbrev Rest : Type 0
Rest = List Undo → List JournalItem

first_events : (rest : Rest) (n : ℕ) (undos : List Undo) (es : List Event) → ((others : List Undo) → events_in (rest others) ≡ es) → events_in (undos_first rest n undos) ≡ es
first_events rest n [] es all = all []
first_events rest n (u ∷ undos) es all = by_test (u.after == n) (first_events rest n undos es all)
  where
    by_test : (test : Bool) → events_in (undos_first rest n undos) ≡ es → events_in (if test then Undone u.thread u.level u.words ∷ undos_first rest n undos else rest (u ∷ undos)) ≡ es
    by_test true later = later
    by_test false later = all (u ∷ undos)

merged_events : (n : ℕ) (es : List Event) (undos : List Undo) → events_in (merged n es undos) ≡ es
merged_events n [] undos = first_events (λ _. []) n undos [] (λ _. refl)
merged_events n (e ∷ es) undos = first_events (λ others. event_item e ∷ merged (n + 1) es others) n undos (e ∷ es) (λ others. ap (λ xs. e ∷ xs) (merged_events (n + 1) es others))

first_spelled : (one two : Rest) (n : ℕ) (undos : List Undo) → ((others : List Undo) → map spelled (one others) ≡ map spelled (two others)) → map spelled (undos_first one n undos) ≡ map spelled (undos_first two n undos)
first_spelled one two n [] same = same []
first_spelled one two n (u ∷ undos) same = by_test (u.after == n) (first_spelled one two n undos same)
  where
    by_test : (test : Bool) → map spelled (undos_first one n undos) ≡ map spelled (undos_first two n undos) → map spelled (if test then Undone u.thread u.level u.words ∷ undos_first one n undos else one (u ∷ undos))
        ≡ map spelled (if test then Undone u.thread u.level u.words ∷ undos_first two n undos else two (u ∷ undos))
    by_test true later = ap (λ lines. spelled (Undone u.thread u.level u.words) ∷ lines) later
    by_test false later = same (u ∷ undos)

merged_spelled : (n : ℕ) (es : List Event) (undos : List Undo) → map spelled (merged n es undos) ≡ map spelled (merged n (map event_without_line es) undos)
merged_spelled n [] undos = refl
merged_spelled n (e ∷ es) undos = first_spelled (λ others. event_item e ∷ merged (n + 1) es others) (λ others. event_item (event_without_line e) ∷ merged (n + 1) (map event_without_line es) others) n undos
    (λ others. ap (λ line. line ∷ map spelled (merged (n + 1) es others)) (sym (same_line e)) ∙ ap (λ ls. event_line (event_without_line e) ∷ ls) (merged_spelled (n + 1) es others))

first_few : (rest : Rest) (n : ℕ) (undos : List Undo) (k : ℕ) → ((others : List Undo) → length (rest others) ≤ k + length others) → length (undos_first rest n undos) ≤ k + length undos
first_few rest n [] k few = few []
first_few rest n (u ∷ undos) k few = by_test (u.after == n) (first_few rest n undos k few)
  where
    by_test : (test : Bool) → length (undos_first rest n undos) ≤ k + length undos → length (if test then Undone u.thread u.level u.words ∷ undos_first rest n undos else rest (u ∷ undos)) ≤ k + suc (length undos)
    by_test true less = omega (arith, less)
    by_test false less = few (u ∷ undos)

merged_few : (n : ℕ) (es : List Event) (undos : List Undo) → length (merged n es undos) ≤ length es + length undos
merged_few n [] undos = first_few (λ _. []) n undos 0 (λ others. omega arith)
merged_few n (e ∷ es) undos = first_few (λ others. event_item e ∷ merged (n + 1) es others) n undos (suc (length es)) (λ others. let less = merged_few (n + 1) es others in omega (arith, less))

same_count : (es : List Event) → length (map event_without_line es) ≡ length es
same_count [] = refl
same_count (e ∷ es) = ap suc (same_count es)

-- the text of the journal is that of the items whose lines name no text
journal_text : (es : List Event) (undos : List Undo) → concat (journal_pieces es undos) ≡ text_of 2 (merged 0 (map event_without_line es) undos)
journal_text es undos =
    ap (λ ls. concat (map ended (head_line 2 ∷ ls ++ end_line (length (events_in (merged 0 es undos))) ∷ []))) (merged_spelled 0 es undos)
    ∙ ap (λ n. concat (map ended (head_line 2 ∷ map spelled (merged 0 (map event_without_line es) undos) ++ end_line n ∷ [])))
    (ap length (merged_events 0 es undos) ∙ sym (same_count es) ∙ sym (ap length (merged_events 0 (map event_without_line es) undos)))

take_all : (n : ℕ) (xs : List ℕ) → length xs ≤ n → xs ≡ take n xs
take_all zero [] fits = refl
take_all (suc n) [] fits = refl
take_all zero (x ∷ xs) fits = absurd (omega (arith, fits))
take_all (suc n) (x ∷ xs) fits = ap (λ ys. x ∷ ys) (take_all n xs (omega (arith, fits)))

pub accepted_traces : TracesAreAccepted
accepted_traces schedule limits count program answer traced said =
    let us = program.units in
    let m = machine_at_start us program.main in
    let executed = traced.run.executed in
    let es = executed.events in
    let last = executed.last in
    let undos = traced.run.undos in
    let items = merged 0 (map event_without_line es) undos in
    let fits : length items ≤ LARGEST.items = small (length items) (length (map event_without_line es)) (length es) (length undos) (merged_few 0 (map event_without_line es) undos) (same_count es) traced.run.fits in
    let text : concat answer.out ≡ text_of 2 items = ap (λ (a : Answer). concat a.out) traced.answered ∙ journal_text es undos in
    let (new, checked, same) = executions_accepted java_code m es items last executed.leads (merged_events 0 (map event_without_line es) undos) said fits in
    let printed : last.lines ≡ traced.outcome.lines = lines java_code m.now last es executed.leads ∙ sym executed.lines in
    let Made : List Line → Type 0 = λ ls. AreMadeTexts last ls traced.outcome.made in
    let made : AreMadeTexts last last.lines traced.outcome.made = subst Made (sym printed) executed.made in
    let Shown : OrdinaryState Local → Type 0 = λ s. AreMadeTexts s s.lines traced.outcome.made in (
      concat answer.out,
      Execution (map (line_bytes us traced.outcome.made) traced.outcome.lines),
      take_all 268435457 (concat answer.out) (subst (λ t. length t ≤ 268435457) (sym text) (weaker (length (text_of 2 items)) (journals_fit 2 items (inr refl) said fits))),
      record {
        found = Ok new;
        is = subst (λ t. IsChecked java_code m t (Ok new)) (sym text) checked;
        shows = (
          traced.outcome.made,
          subst Shown (sym same) made,
          ap (λ ls. map (line_bytes us traced.outcome.made) ls) (sym (ap (λ (s : OrdinaryState Local). s.lines) same ∙ printed)),
        );
      },
      refl,
    )
  where
    small : (n m k u : ℕ) → n ≤ m + u → m ≡ k → k + u ≤ 4194304 → n ≤ LARGEST.items
    small n m k u less same all = omega (arith, less, same, all)

    weaker : (n : ℕ) → n ≤ LARGEST.bytes → n ≤ 268435457
    weaker n small = omega (arith, small)
