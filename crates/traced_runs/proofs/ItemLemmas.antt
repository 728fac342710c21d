-- What a step adds to the rows, and which levels are open after it.
use Rattle.std.proofs.Common.{◌≡◌, ◌⊎◌, inl, inr, ℕ, ◌+◌, ◌-◌, ◌<◌, Bool, true, false, None, Some, List, [], ◌∷◌, length, length-append, refl, sym, ◌∙◌, ap, subst, arith}
use Rattle.std.specs.Prelude.{nat_lt, if◌then◌else◌}
use Rattle.op_core.specs.declared.Reply.{Reply}
use Rattle.op_core.specs.declared.Next.{Next}
use Rattle.op_core.specs.declared.Next.TheVariants.{Want}
use Rattle.op_core.specs.ThreadCode.{Code}
use Rattle.section_state.specs.SectionWord.{revoke_of}
use Rattle.step_port.specs.declared.answer.StepAnswer.{StepAnswer}
use Rattle.step_port.specs.declared.answer.StepAnswer.TheVariants.{Lost}
use Rattle.step_port.specs.declared.step.Step.{Step}
use Rattle.step_port.specs.declared.step.Step.TheVariants.{RestoreWord, MarkUndone}
use Rattle.step_port.specs.Steps.{effect_of}
use Rattle.step_port.specs.Words.{Words, CanAnswer, answer_of}
use Rattle.thread_automaton.specs.declared.Bounds.{Bounds}
use Rattle.thread_automaton.specs.declared.Move.TheVariants.{Make}
use Rattle.thread_automaton.specs.ThreadState.{ThreadState, is_open}
use Rattle.thread_automaton.specs.NextMove.{next_move}
use Rattle.thread_automaton.specs.Changes.{Change, goes_back, forgotten, changed}
use Rattle.thread_automaton.specs.Answers.{change_of}
use Rattle.thread_automaton.specs.Told.{Told, probed, advanced, born, lost, blocked, told, counted_for, after_answer}
use Rattle.automaton_rows.specs.Fits.{IsFit}
use Rattle.automaton_rows.specs.Rows.{Row, is_undone, is_lost}
use Rattle.automaton_rows.proofs.RowLemmas.{by_if, answers_are_rows, words_can_answer}
use Rattle.core_runs.specs.Cores.{Core}
use Rattle.first_law.proofs.EntryLemmas.{NoReply}
use Rattle.word_runs.specs.WordTurns.{counts_for}
use Rattle.journal_rows.specs.Told.{RowCall, RowsTold, opens_a_level, closes_levels, after_row_calls}
use Rattle.core_law.specs.RunCalls.{open_or_close_calls}
use Rattle.core_law.proofs.run_journals.TurnLemmas.{IsWanted, restores_none, marks_none, reply_wanted}
use Rattle.core_law.proofs.run_journals.SilentLemmas.{reply_or}
use Rattle.core_law.specs.Calls.{reply_calls, shown_calls, depth_calls, step_calls}
use Rattle.core_law.proofs.told_journals.StepLemmas.{IsMark, IsRestore, mark_or, restore_or, none_said, plain_depth, plain_shown}
use Rattle.core_law.proofs.told_journals.SizeLemmas.{counts_none, counts_one}
use Rattle.traced_runs.proofs.CallLemmas.{calls_append}

abbrev items_after : List RowCall → RowsTold → ℕ
items_after calls s = length (after_row_calls calls s).items

revoke_low : (u : ℕ) → revoke_of u - 1 < 255
unfolding revoke_of
revoke_low u = omega arith

-- levels that are opened or closed are no item
moved_items : (t n m : ℕ) (s : RowsTold) → items_after (open_or_close_calls t n m) s ≡ length s.items
moved_items t n m s = by_tests (nat_lt n m) (nat_lt m n)
  where
    by_tests : (opens closes : Bool) → items_after (if opens then opens_a_level t ∷ [] else if closes then closes_levels t m ∷ [] else []) s ≡ length s.items
    by_tests true closes = refl
    by_tests false true = refl
    by_tests false false = refl

-- a reply to what is wanted is one
wanted_items : (t silents : ℕ) (next : Next) (tells : Told) (reply : Reply) (s : RowsTold) → tells ≡ advanced (Some reply) → IsWanted next → items_after (reply_calls t silents next tells) s ≡ length s.items + 1
wanted_items t silents next tells reply s is (op, wants) =
    ap (λ x. items_after (reply_calls t silents x tells) s) wants ∙ ap (λ x. items_after (reply_calls t silents (Want op) x) s) is ∙ length-append s.items _

module _ {S : Type 0} (code : Code S) (b : Bounds) (w : Words) (t : ℕ) (th : ThreadState S) (step : Step) (fits : IsFit code th) (makes : next_move code b th ≡ Make step) where
  abbrev a : StepAnswer
  a = answer_of w step

  abbrev tells : Told
  tells = told code b th step a

  abbrev y : ThreadState S
  y = after_answer code b th step a

  can : CanAnswer (effect_of step) a
  can = words_can_answer w step

  row : Row code b th (code.next th.local) step a (change_of code b th (code.next th.local) step a)
  row = answers_are_rows code b th step a fits.attempt makes can

  -- no step that puts a word back, or marks levels undone, has a reply
  unsaid : (core : Core S) → (IsRestore step ⊎ IsMark step) → NoReply tells
  unsaid core (inl restores) = elim (restore_or step) [
    | inl (at, old, is) ↦ subst (λ st. NoReply (told code b th st (answer_of w st))) (sym is) (restores_none code b core t th (code.next th.local) at old (answer_of w (RestoreWord at old)))
    | inr other ↦ absurd (other restores)
  ]
  unsaid core (inr marks) = elim (mark_or step) [
    | inl (s, v, is) ↦ subst (λ st. NoReply (told code b th st (answer_of w st))) (sym is) (marks_none code b core t th (code.next th.local) s v (answer_of w (MarkUndone s v)))
    | inr other ↦ absurd (other marks)
  ]

  -- a step that does neither
  plain_items : (s : RowsTold) → (IsMark step → ⊥) → items_after (reply_calls t th.silents (code.next th.local) tells) s ≡ length s.items + counts_for step tells
  plain_items s other = elim (reply_or tells) [
    | inl none ↦ ap (λ calls. items_after calls s) (none_said t th.silents (code.next th.local) tells none) ∙ no_more s (counts_for step tells) (counts_none step tells other none)
    | inr (reply, is) ↦ wanted_items t th.silents (code.next th.local) tells reply s is (reply_wanted code b th step a reply fits.attempt makes can is)
        ∙ ap (λ n. length s.items + n) (sym (ap (counts_for step) is ∙ counts_one step reply other))
  ]
    where
      no_more : (s : RowsTold) (n : ℕ) → n ≡ 0 → length s.items ≡ length s.items + n
      no_more s n is = omega (arith, is)

  pub step_adds : (core : Core S) (s : RowsTold) → items_after (step_calls t th (code.next th.local) step tells y) s ≡ length s.items + counts_for step tells
  step_adds core s = ap length (ap (λ (x : RowsTold). x.items) (calls_append (depth_calls t th.levels y.levels step) (shown_calls t th.silents (code.next th.local) step tells) s)) ∙ elim (mark_or step) [
    | inl marks ↦ marked marks.0 marks.1 marks.2
    | inr other ↦ ap (λ calls. items_after calls (after_row_calls (shown_calls t th.silents (code.next th.local) step tells) s)) (plain_depth t th.levels y.levels step other)
        ∙ moved_items t th.levels y.levels (after_row_calls (shown_calls t th.silents (code.next th.local) step tells) s) ∙ unmarked other
  ]
    where
      unmarked : (IsMark step → ⊥) → items_after (shown_calls t th.silents (code.next th.local) step tells) s ≡ length s.items + counts_for step tells
      unmarked other = elim (restore_or step) [
        | inl (at, old, is) ↦ ap (λ st. items_after (shown_calls t th.silents (code.next th.local) st tells) s) is ∙ no_more (counts_for step tells)
            (counts_none step tells other (unsaid core (inl (subst IsRestore (sym is) tt))))
        | inr plain ↦ ap (λ calls. items_after calls s) (plain_shown t th.silents (code.next th.local) step tells plain) ∙ plain_items s other
      ]
        where
          no_more : (n : ℕ) → n ≡ 0 → length s.items ≡ length s.items + n
          no_more n is = omega (arith, is)

      marked : (q v : ℕ) → step ≡ MarkUndone q v → items_after (depth_calls t th.levels y.levels step) (after_row_calls (shown_calls t th.silents (code.next th.local) step tells) s) ≡ length s.items + counts_for step tells
      marked q v is =
          let none : shown_calls t th.silents (code.next th.local) step tells ≡ [] = ap (λ st. shown_calls t th.silents (code.next th.local) st tells) is
          ∙ none_said t th.silents (code.next th.local) tells (unsaid core (inr (subst IsMark (sym is) tt))) in
          ap (λ calls. items_after (depth_calls t th.levels y.levels step) (after_row_calls calls s)) none
          ∙ ap (λ st. items_after (depth_calls t th.levels y.levels st) s) is ∙ length-append s.items _ ∙ ap (λ n. length s.items + n) (sym (ap (λ st. counts_for st tells) is))

  -- ---- levels after they are undone

  marks_back : {next : Next} {made : Step} {answer : StepAnswer} {change : Change} → Row code b th next made answer change → (q v : ℕ) → made ≡ MarkUndone q v → CanAnswer (effect_of made) answer → (u : ℕ) × (change ≡ goes_back (revoke_of u))
  marks_back (is_undone {w = u} at undo does) q v is can = (u, refl)
  marks_back (is_lost {step = made} {v = x}) q v is can = absurd (subst (λ st. CanAnswer (effect_of st) (Lost x)) is can)
  marks_back row q v is can = absurd (cc)

  counted_levels : (tells : Told) (x : ThreadState S) → (counted_for tells x).levels ≡ x.levels
  counted_levels probed x = refl
  counted_levels (advanced None) x = refl
  counted_levels (advanced (Some reply)) x = refl
  counted_levels born x = refl
  counted_levels (lost v) x = refl
  counted_levels (blocked why) x = refl

  forgotten_levels : (x : ThreadState S) → (forgotten x).levels ≡ x.levels
  forgotten_levels x = by_if (λ z. z.levels ≡ x.levels) (is_open x) x (record x { log = []; saved = []; marks = [] }) (λ _. refl) (λ _. refl)

  pub marked_low : (q v : ℕ) → step ≡ MarkUndone q v → y.levels < 255
  marked_low q v is =
      let back = marks_back row q v is can in
      subst (λ n. n < 255) (sym (counted_levels tells (changed code th (change_of code b th (code.next th.local) step a)) ∙ ap (λ change. (changed code th change).levels) back.1 ∙ forgotten_levels _)) (revoke_low back.0)
