-- Reads that are left find the settled values.
use Rattle.std.proofs.Common.{◌≡◌, ◌≢◌, inl, inr, ℕ, ◌<◌, ◌≤◌, Bool, true, false, Option, None, Some, length, refl, sym, ◌∙◌, ap, subst, arith}
use Rattle.std.specs.Prelude.{IsSomeAnd}
use Rattle.std.proofs.lemmas.Option.{same_Some, slice_get_within}
use Rattle.op_core.specs.declared.Op.{Op}
use Rattle.op_core.specs.declared.Op.TheVariants.{Read, Exit, Wait, Start, Init}
use Rattle.op_core.specs.declared.Next.{Next}
use Rattle.op_core.specs.declared.Next.TheVariants.{Want}
use Rattle.op_core.specs.declared.Reply.TheVariants.{Value}
use Rattle.op_core.specs.ThreadCode.{Code}
use Rattle.op_core.specs.OrdinaryState.{Object}
use Rattle.op_core.proofs.PointwiseLemmas.{same_or_other}
use Rattle.heap_words.specs.Words.{value_of}
use Rattle.step_port.specs.declared.answer.StepAnswer.{StepAnswer}
use Rattle.step_port.specs.declared.answer.StepAnswer.TheVariants.{Found}
use Rattle.step_port.specs.declared.step.ThreadWord.{ThreadWord}
use Rattle.step_port.specs.declared.step.Step.{Step}
use Rattle.step_port.specs.declared.step.Step.TheVariants.{LoadWord, LoadMonitor, LoadThread, LoadClass}
use Rattle.step_port.specs.Steps.{effect_of}
use Rattle.step_port.specs.Words.{CanAnswer, answer_of}
use Rattle.thread_automaton.specs.declared.Bounds.{Bounds}
use Rattle.thread_automaton.specs.declared.Attempt.TheVariants.{Fixed}
use Rattle.thread_automaton.specs.ThreadState.{ThreadState, is_open}
use Rattle.thread_automaton.specs.NextMove.{own_pin, word_place}
use Rattle.thread_automaton.specs.Changes.{Change, goes}
use Rattle.thread_automaton.specs.Checks.{behind_pin, to_pin, is_safe}
use Rattle.thread_automaton.specs.Told.{Told, advanced, shown, told_of, told}
use Rattle.automaton_rows.specs.Rows.{Row, is_lost, word_read, exits_one, wait_begins, notify_begins, start_begins, is_unready}
use Rattle.automaton_rows.proofs.RowLemmas.{answers_are_rows, words_can_answer, by_if}
use Rattle.core_runs.specs.Acts.{did, DidAt}
use Rattle.section_laws.proofs.ClaimLemmas.{found_is}
use Rattle.section_laws.proofs.RunLemmas.{act_at, facts_at}
use Rattle.section_laws.specs.Layout.{FitsObjects}
use Rattle.section_laws.specs.Settled.{words_back, notes}
use Rattle.written_words.specs.Noted.{heap_of}
use Rattle.written_words.specs.SettledWords.{back_words, ReadsAgree}
use Rattle.written_words.proofs.settled_words.StepLemmas as steps
use Rattle.written_words.proofs.settled_words.RunLemmas.{settled_at}

-- where a read is answered, its word was loaded, and is safe
abbrev pub ReadFinds : {S : Type 0} → ThreadState S → Told → Next → Step → StepAnswer → Type 0
ReadFinds th (advanced (Some (Value v))) (Want (Read r i)) step a = (w : ℕ) × (step ≡ LoadWord (word_place r i)) × (a ≡ Found w) × (is_safe th w ≡ true) × (v ≡ value_of w)
ReadFinds th told next step a = Unit {0}

module _ {S : Type 0} (code : Code S) (b : Bounds) (th : ThreadState S) where
  abbrev pub Finds : Next → Step → StepAnswer → Change → Type 0
  Finds next step a change = ReadFinds th (told_of next step a change (shown change)) next step a

  pin_finds : (next : Next) (r m : ℕ) → Finds next (LoadMonitor r) (Found m) (goes (to_pin th next))
  pin_finds next r m = by_if (λ g. Finds next (LoadMonitor r) (Found m) (goes g)) (is_open th) (Fixed (own_pin th)) (behind_pin th next) (λ open_so. tt) (λ shut. behind next)
    where
      behind : (next : Next) → Finds next (LoadMonitor r) (Found m) (goes (behind_pin th next))
      behind (Want (Exit q)) = tt
      behind (Want (Wait q)) = tt
      behind (Want (Op.Notify q)) = tt
      behind (Want (Start q p)) = tt
      behind (Want (Init c)) = tt
      behind next = tt

  pub finds : {next : Next} {step : Step} {a : StepAnswer} {change : Change} → Row code b th next step a change → Finds next step a change
  finds (is_lost {step = step} {v = v}) = tt
  finds (word_read {r = r} {i = i} {w = w} safe) = (w, refl, refl, safe, refl)
  finds (exits_one {r = r} {m = m} own last more outer) = pin_finds (Want (Exit r)) r m
  finds (wait_begins {r = r} {m = m} own) = pin_finds (Want (Wait r)) r m
  finds (notify_begins {r = r} {m = m} own) = pin_finds (Want (Op.Notify r)) r m
  finds (start_begins {r = r} {p = p} {w = w} none) = start_finds r p w
    where
      start_finds : (r p w : ℕ) → Finds (Want (Start r p)) (LoadThread (ThreadWord.Start r)) (Found w) (goes (to_pin th (Want (Start r p))))
      start_finds r p w = by_if (λ g. Finds (Want (Start r p)) (LoadThread (ThreadWord.Start r)) (Found w) (goes g)) (is_open th) (Fixed (own_pin th)) (behind_pin th (Want (Start r p))) (λ open_so. tt) (λ shut. tt)
  finds (is_unready {c = c} {w = w} fresh) = init_finds c w
    where
      init_finds : (c w : ℕ) → Finds (Want (Init c)) (LoadClass c) (Found w) (goes (to_pin th (Want (Init c))))
      init_finds c w = by_if (λ g. Finds (Want (Init c)) (LoadClass c) (Found w) (goes g)) (is_open th) (Fixed (own_pin th)) (behind_pin th (Want (Init c))) (λ open_so. tt) (λ shut. tt)
  finds row = tt

pub reads_agree : {S : Type 0} (code : Code S) → ReadsAgree code
reads_agree {S} code b is_thread first classes c acts run doomed tells settled are k t r i v step a th here there wants seen none = by_finds read
  where
    within : k < length acts
    within = slice_get_within acts k (did t step a) here

    up : k ≤ length acts
    up = let low = within in omega (arith, low)

    at : DidAt code b c k t step a
    at = act_at code b c acts k (did t step a) run.laid.run.leads here

    same : at.from ≡ th
    same = same_Some at.from th (sym at.stands ∙ there)

    read : (w : ℕ) × (step ≡ LoadWord (word_place r i)) × (a ≡ Found w) × (is_safe th w ≡ true) × (v ≡ value_of w)
    read = subst (λ n. ReadFinds th (advanced (Some (Value v))) n step a) wants (subst (λ m. ReadFinds th m (code.next th.local) step a) seen
        (subst (λ (x : ThreadState S). ReadFinds x (told code b x step a) (code.next x.local) step a) same
        (finds code b at.from (answers_are_rows code b at.from step a ((facts_at code b c acts run.laid.run k up).fit t at.from at.stands).attempt at.move
        (subst (CanAnswer (effect_of step)) (sym at.answered) (words_can_answer (c k).words step))))))

    by_finds : (w : ℕ) × (step ≡ LoadWord (word_place r i)) × (a ≡ Found w) × (is_safe th w ≡ true) × (v ≡ value_of w) → v ≡ settled k r i
    by_finds (w, loads, found, safe, value) = by_object ((c k).objects r) refl all_fit.1 all_fit.2
      where
        all_fit : FitsObjects is_thread (c k).objects (Read r i)
        all_fit = run.laid.wants k t th (Read r i) within there wants

        word : w ≡ heap_of (c k).words (word_place r i)
        word = found_is w (heap_of (c k).words (word_place r i)) (sym found ∙ at.answered ∙ ap (answer_of (c k).words) loads)

        false_or : (z : Bool) → (z ≡ true → ⊥) → z ≡ false
        false_or true other = absurd (other refl)
        false_or false other = refl

        nobody : (u : ℕ) → notes (word_place r i) (back_words doomed ((c k).levels u) ((c k).threads u)) ≡ false
        nobody u = elim (same_or_other u t) [
          | inl own ↦ ap (λ n. notes (word_place r i) (back_words doomed ((c k).levels n) ((c k).threads n))) own ∙ ap (λ o. notes (word_place r i) (back_words doomed ((c k).levels t) o)) there
              ∙ ap (λ n. notes (word_place r i) (words_back n th.marks th.log)) none
          | inr other ↦ false_or (notes (word_place r i) (back_words doomed ((c k).levels u) ((c k).threads u)))
              (λ has. steps.safe_unnoted code b is_thread first classes c acts run doomed tells k t u (word_place r i) th up there other (subst (λ n. is_safe th n ≡ true) word safe) has)
        ]

        by_object : (o : Option Object) → (c k).objects r ≡ o → IsSomeAnd o (λ x. i < x.words) → IsSomeAnd o (λ x. is_thread x.class ≡ true → i ≢ 1) → v ≡ settled k r i
        by_object None gone low kept = absurd low
        by_object (Some o) is low kept = value ∙ ap value_of word
            ∙ sym ((settled_at code b is_thread first classes c acts run doomed tells settled are k up).stands (word_place r i) (record { r = r; i = i; o = o; there = is; low = low; place = refl; kept = kept }) nobody)
