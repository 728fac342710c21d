-- Acts that print, that start threads and wait for them, and that end one.
use Rattle.std.proofs.Common.{◌≡◌, ◌≢◌, inl, inr, ℕ, ◌+◌, ◌<◌, ◌≤◌, nat_eq, Bool, true, false, None, Some, List, length, refl, sym, ◌∙◌, ap, subst, arith}
use Rattle.std.proofs.lemmas.Grind.{common_steps}
use Rattle.std.proofs.lemmas.Bool.Decides.{nat_tests}
use Rattle.std.proofs.lemmas.Option.{same_Some}
use Rattle.op_core.specs.declared.Line.{Line}
use Rattle.op_core.specs.declared.Op.TheVariants.{Print, Start, Join}
use Rattle.op_core.specs.declared.Reply.{Reply}
use Rattle.op_core.specs.declared.Reply.TheVariants.{Already, Number}
use Rattle.op_core.specs.declared.Next.{Next}
use Rattle.op_core.specs.declared.Next.TheVariants.{Want}
use Rattle.op_core.specs.ThreadCode.{Code}
use Rattle.op_core.specs.OrdinaryState.{set_at, Object, live, OrdinaryState}
use Rattle.op_core.specs.OrdinaryStep.{IsFreeNumber}
use Rattle.op_core.proofs.PointwiseLemmas.{same_or_other, set_at-hit, set_at-other}
use Rattle.heap_words.specs.declared.areas.Area.{Area}
use Rattle.heap_words.specs.Words.{pack, value_of}
use Rattle.step_port.specs.declared.answer.StepAnswer.{StepAnswer}
use Rattle.step_port.specs.declared.answer.StepAnswer.TheVariants.{Found}
use Rattle.step_port.specs.declared.step.ThreadWord.{ThreadWord}
use Rattle.step_port.specs.declared.step.Step.{Step}
use Rattle.step_port.specs.declared.step.Step.TheVariants.{Ticket, StartThread, LoadThread, Split}
use Rattle.step_port.specs.Steps.{effect_of}
use Rattle.step_port.specs.Words.{Words, words_after}
use Rattle.ordinary_words.specs.Reading.{word_in, start_in}
use Rattle.thread_automaton.specs.declared.Bounds.{Bounds}
use Rattle.thread_automaton.specs.declared.Attempt.TheVariants.{Fixed}
use Rattle.thread_automaton.specs.ThreadState.{ThreadState}
use Rattle.thread_automaton.specs.Changes.{Change, goes, replies, prints}
use Rattle.thread_automaton.specs.Told.{after_answer}
use Rattle.core_runs.specs.Cores.{Core, lines_by}
use Rattle.core_runs.specs.Acts.{Act}
use Rattle.core_runs.specs.Reading.{thread_in, ordinary}
use Rattle.section_laws.proofs.WordLemmas.{exchanged, stays_at}
use Rattle.section_laws.proofs.ClaimLemmas.{found_is}
use Rattle.section_laws.proofs.NumberLemmas.{number_at}
use Rattle.section_laws.proofs.run_threads.NumberLemmas.{Numbers, numbers_at}
use Rattle.section_laws.proofs.run_layout.LaidLemmas.{is_such}
use Rattle.section_laws.proofs.run_layout.NameLemmas.{Names, step_names}
use Rattle.section_laws.proofs.run_layout.PlaceLemmas.{object_other, put_object, one_place}
use Rattle.section_laws.specs.Starts.{IsThreadObject, start_word_of, StartsAreKnown}
use Rattle.section_laws.proofs.start_words.WordLemmas.{packed, value_low, above_zero}
use Rattle.section_laws.proofs.start_words.RunLemmas.{starts_at}
use Rattle.first_law.specs.InPlace.{IsSeenRun}
use Rattle.first_law.proofs.StateLemmas.{word_kept, start_kept, start_is}
use Rattle.first_law.proofs.TurnLemmas.{keeps_load, laid, up, known, words_part, starts_part, monitors_part, waiting_part, classes_part, threads_part}
use Rattle.first_law.proofs.EntryLemmas.{HasEntry, Done, did_at, live_from, then_live, depth_is, event_entry}
use Rattle.first_law.proofs.ReplyLemmas.{kept_entry}
use Rattle.first_law.proofs.WordRows.{all_fit, layout}

pub zero_is : (w : ℕ) → nat_eq w 0 ≡ true → w ≡ 0
zero_is w is = grind (arith, common_steps, nat_tests)

pub value_zero : value_of 0 ≡ 0
unfolding value_of
value_zero = refl

module _ {S : Type 0} (code : Code S) (b : Bounds) (is_thread : ℕ → Bool) (first : S) (classes : ℕ) (c : ℕ → Core S) (acts : List Act) (run : IsSeenRun code b is_thread first classes c acts) (k t : ℕ)
    (th : ThreadState S) where
  abbrev Does : Next → Step → StepAnswer → Change → Type 0
  Does next step a change = Done code b is_thread first classes c acts run k t th next step a change

  abbrev Seen : Step → StepAnswer → Type 0
  Seen step a = HasEntry code b is_thread first classes c acts run k t th step a

  abbrev state : OrdinaryState S
  state = ordinary code is_thread (c k)

  module _ {next : Next} {step : Step} {a : StepAnswer} {change : Change} (act : Does next step a change) where
    pub low : k ≤ length acts
    low = up code b is_thread first classes c acts run k t step a act.here (did_at code b is_thread first classes c acts run k t th act)

    pub starts : StartsAreKnown code is_thread (c k)
    starts = (starts_at code b is_thread c acts (laid code b is_thread first classes c acts run) run.starts k low).1

    pub numbers : Numbers (c k)
    numbers = numbers_at code b c acts run.levelled.ordered.run run.levelled.numbered k low

    pub names : Names th (code.next th.local) th.attempt step
    names = step_names code b th step ((known code b is_thread first classes c acts run k t step a act.here (did_at code b is_thread first classes c acts run k t th act)).fit t th act.stands).attempt act.move

  -- the start word of a thread object that an operation names
  pub start_value : {next : Next} {step : Step} {a : StepAnswer} {change : Change} (act : Does next step a change) (r : ℕ) → IsThreadObject is_thread (c k).objects r → state.starts r ≡ start_word_of (c k) r
  start_value act r (o, there, thread, some) =
      ap (start_in is_thread (c k).words r) there ∙ start_is is_thread (c k).words r o thread ∙ value_low (start_word_of (c k) r) ((starts act).words.low r (o, there, thread, some))

  -- ---- lines

  pub line_row : {x : Line} {n : ℕ} → Does (Want (Print x)) Ticket (Found n) (prints n x) → Seen Ticket (Found n)
  line_row {x} {n} act = event_entry code b is_thread first classes c acts run k t th act (Print x) Reply.Done refl refl tt tt tt tt (record {
    objects = λ q. refl;
    words = λ q i. words_part code b is_thread first classes c acts run k t Ticket (Found n) act.here (did_at code b is_thread first classes c acts run k t th act) (λ p. refl) q i;
    monitors = λ q. monitors_part code b is_thread first classes c acts run k t Ticket (Found n) act.here (did_at code b is_thread first classes c acts run k t th act) q (λ o there. refl);
    waiting = λ u. waiting_part code b is_thread first classes c acts run k t Ticket (Found n) act.here (did_at code b is_thread first classes c acts run k t th act)
        (depth_is code b is_thread first classes c acts run k t th act) (λ u. refl) u;
    classes = λ d. refl;
    starts = λ q. starts_part code b is_thread first classes c acts run k t Ticket (Found n) act.here (did_at code b is_thread first classes c acts run k t th act) (λ p. refl) q;
    threads = λ u. threads_part code b is_thread first classes c acts run k t Ticket (Found n) act.here (did_at code b is_thread first classes c acts run k t th act) (live (code.reply th.local Reply.Done))
        (then_live code b is_thread first classes c acts run k t th act ((c k).starting t) (code.reply th.local Reply.Done) (live_from code b is_thread first classes c acts run k t th act) refl) u;
    lines = ap (λ next. lines_by Ticket next (c k).lines) act.wants;
  })

  -- ---- starts

  pub named : {r p : ℕ} {step : Step} {a : StepAnswer} {change : Change} (act : Does (Want (Start r p)) step a change) → IsThreadObject is_thread (c k).objects r
  named {r} {p} act = let so = is_such ((c k).objects r) (all_fit code b is_thread first classes c acts run k t th act (Start r p) refl).2 in (so.0, so.1, so.2.0, so.2.1)

  pub joined : {r : ℕ} {step : Step} {a : StepAnswer} {change : Change} (act : Does (Want (Join r)) step a change) → IsThreadObject is_thread (c k).objects r
  joined {r} act = let so = is_such ((c k).objects r) (all_fit code b is_thread first classes c acts run k t th act (Join r) refl).2 in (so.0, so.1, so.2.0, so.2.1)

  pub already_row : {r p w : ℕ} → Does (Want (Start r p)) (LoadThread (ThreadWord.Start r)) (Found w) (replies Already) → nat_eq w 0 ≡ false → Seen (LoadThread (ThreadWord.Start r)) (Found w)
  already_row {r} {p} {w} act some =
      let word : w ≡ start_word_of (c k) r = found_is w (start_word_of (c k) r) act.answered in
      let started : 0 < state.starts r = subst (λ n. 0 < n) (word ∙ sym (start_value act r (named act))) (above_zero w some) in
      kept_entry code b is_thread first classes c acts run k t th act (Start r p) Already refl refl tt tt ((all_fit code b is_thread first classes c acts run k t th act (Start r p) refl).1, inl started) started
      (keeps_load (LoadThread (ThreadWord.Start r)) (c k).words refl) refl (λ f. refl) (λ f. refl) (λ xs. refl) (λ f. refl) refl

  module _ {r p n : ℕ} (act : Does (Want (Start r p)) (StartThread r n) StepAnswer.Done (goes (Fixed (Split n r p)))) where
    abbrev started : Words
    started = words_after (StartThread r n) (c k).words

    attempt_so : th.attempt ≡ Fixed (StartThread r n)
    attempt_so = (names act).2

    at_object : IsThreadObject is_thread (c k).objects r
    at_object = named act

    new_so : (2 ≤ n) × ((c k).starting n ≡ None) × ((q : ℕ) → IsThreadObject is_thread (c k).objects q → start_word_of (c k) q ≢ n)
    new_so = ((starts act).threads t th act.stands).unused r n attempt_so

    no_thread : (c k).threads n ≡ None
    no_thread =
        let some = new_so.0 in
        subst (λ m. (c k).threads m ≡ None) (ap number_at attempt_so) ((numbers act).unused t th act.stands (subst (λ m. 0 < m) (sym (ap number_at attempt_so)) (omega (arith, some))))

    free_number : IsFreeNumber state.threads n
    free_number = let few = (names act).1 in (new_so.0, omega (arith, few), ap (λ o. thread_in code o ((c k).threads n)) new_so.1 ∙ ap (thread_in code None) no_thread)

    was_zero : start_word_of (c k) r ≡ 0
    was_zero = (exchanged (c k).words (Area.Object (r + 3)) 0 (pack n 0) act.answered).found

    no_start : state.starts r ≡ 0
    no_start = start_value act r at_object ∙ was_zero

    is_n : started (Area.Object (r + 3)) ≡ n
    is_n = ap (λ (x : Words). x (Area.Object (r + 3))) (exchanged (c k).words (Area.Object (r + 3)) 0 (pack n 0) act.answered).leaves ∙ put_object (c k).words (r + 3) (pack n 0) ∙ packed n

    else_stays : (q : ℕ) → q ≢ r + 3 → started (Area.Object q) ≡ (c k).words (Area.Object q)
    else_stays q other = stays_at (effect_of (StartThread r n)) (c k).words (Area.Object (r + 3)) (Area.Object q) (object_other q (r + 3) other)

    -- a word that isn't the start word of r
    apart_of : (q d : ℕ) (o : Object) → (c k).objects q ≡ Some o → d < 2 + o.words → q + d ≡ r + 3 → (q ≡ r) × (d ≡ 3)
    apart_of q d o there below same =
        let some = at_object.3 in
        one_place (c k).objects (layout code b is_thread first classes c acts run k t th act).0.apart q r o at_object.0 there at_object.1 d 3 below (omega (arith, some)) same

    started_words : (q i : ℕ) → word_in is_thread started q i ((c k).objects q) ≡ state.words q i
    started_words q i = word_kept is_thread (c k).words started q i ((c k).objects q) (λ o there low plain. ap value_of (else_stays (q + 2 + i) (λ same.
        not_plain o there plain (apart_of q (2 + i) o there (omega (arith, low)) (omega (arith, same))))))
      where
        not_plain : (o : Object) → (c k).objects q ≡ Some o → (is_thread o.class ≡ true → i ≢ 1) → (q ≡ r) × (2 + i ≡ 3) → ⊥
        not_plain o there plain (own, three) =
            plain (ap (λ (x : Object). is_thread x.class) (same_Some o at_object.0 (sym there ∙ ap (c k).objects own ∙ at_object.1)) ∙ at_object.2) (omega (arith, three))

    started_starts : (q : ℕ) → start_in is_thread started q ((c k).objects q) ≡ set_at state.starts r n q
    started_starts q = elim (same_or_other q r) [
      | inl own ↦ ap (λ m. start_in is_thread started m ((c k).objects m)) own ∙ ap (start_in is_thread started r) at_object.1 ∙ start_is is_thread started r at_object.0 at_object.2
          ∙ ap value_of is_n ∙ value_low n (let few = (names act).1 in omega (arith, few)) ∙ sym (ap (set_at state.starts r n) own ∙ set_at-hit state.starts r n)
      | inr other ↦ start_kept is_thread (c k).words started q ((c k).objects q) (λ o there thread. else_stays (q + 3) (λ same.
          other (apart_of q 3 o there (three o.words (run.threads k q o (low act) there thread)) same).0)) ∙ sym (set_at-other state.starts r n q other)
    ]
      where
        three : (j : ℕ) → 1 < j → 3 < 2 + j
        three j some = omega (arith, some)

    not_one : (d : ℕ) → d ≡ 1 → d ≡ 3 → ⊥
    not_one d one three = omega (arith, one, three)

    abbrev y : ThreadState S
    y = after_answer code b th (StartThread r n) StepAnswer.Done

    started_threads : (u : ℕ) → thread_in code (set_at (c k).starting n (Some (code.child th.local r)) u) (set_at (c k).threads t (Some y) u)
        ≡ set_at (set_at state.threads n (live (code.child th.local r))) t (live (code.reply th.local (Number n))) u
    started_threads u = elim (same_or_other u t) [
      | inl own ↦ ap (λ m. thread_in code (set_at (c k).starting n (Some (code.child th.local r)) u) (set_at (c k).threads t (Some y) m)) own
          ∙ ap (thread_in code (set_at (c k).starting n (Some (code.child th.local r)) u)) (set_at-hit (c k).threads t (Some y))
          ∙ then_live code b is_thread first classes c acts run k t th act (set_at (c k).starting n (Some (code.child th.local r)) u) (code.reply th.local (Number n))
          (live_from code b is_thread first classes c acts run k t th act) refl
          ∙ sym (ap (set_at (set_at state.threads n (live (code.child th.local r))) t (live (code.reply th.local (Number n)))) own
          ∙ set_at-hit (set_at state.threads n (live (code.child th.local r))) t (live (code.reply th.local (Number n))))
      | inr other ↦ ap (thread_in code (set_at (c k).starting n (Some (code.child th.local r)) u)) (set_at-other (c k).threads t (Some y) u other)
          ∙ others_so u ∙ sym (set_at-other (set_at state.threads n (live (code.child th.local r))) t (live (code.reply th.local (Number n))) u other)
    ]
      where
        others_so : (u : ℕ) → thread_in code (set_at (c k).starting n (Some (code.child th.local r)) u) ((c k).threads u) ≡ set_at state.threads n (live (code.child th.local r)) u
        others_so u = elim (same_or_other u n) [
          | inl own ↦ ap (λ m. thread_in code (set_at (c k).starting n (Some (code.child th.local r)) m) ((c k).threads m)) own
              ∙ ap (thread_in code (set_at (c k).starting n (Some (code.child th.local r)) n)) no_thread
              ∙ ap (λ o. thread_in code o None) (set_at-hit (c k).starting n (Some (code.child th.local r)))
              ∙ sym (ap (set_at state.threads n (live (code.child th.local r))) own ∙ set_at-hit state.threads n (live (code.child th.local r)))
          | inr other ↦ ap (λ o. thread_in code o ((c k).threads u)) (set_at-other (c k).starting n (Some (code.child th.local r)) u other)
              ∙ sym (set_at-other state.threads n (live (code.child th.local r)) u other)
        ]

    pub start_row : Seen (StartThread r n) StepAnswer.Done
    start_row = event_entry code b is_thread first classes c acts run k t th act (Start r p) (Number n) refl refl tt tt
        ((all_fit code b is_thread first classes c acts run k t th act (Start r p) refl).1, inr (n, free_number)) (no_start, free_number) (record {
          objects = λ q. refl;
          words = started_words;
          monitors = λ q. monitors_part code b is_thread first classes c acts run k t (StartThread r n) StepAnswer.Done act.here (did_at code b is_thread first classes c acts run k t th act) q
              (λ o there. else_stays (q + 1) (λ same. not_one 1 refl (apart_of q 1 o there (omega arith) same).1));
          waiting = λ u. waiting_part code b is_thread first classes c acts run k t (StartThread r n) StepAnswer.Done act.here (did_at code b is_thread first classes c acts run k t th act)
              (depth_is code b is_thread first classes c acts run k t th act) (λ u. stays_at (effect_of (StartThread r n)) (c k).words (Area.Object (r + 3)) (Area.Wait u) refl) u;
          classes = λ d. classes_part code b is_thread first classes c acts run k t (StartThread r n) StepAnswer.Done act.here (did_at code b is_thread first classes c acts run k t th act)
              (λ d. stays_at (effect_of (StartThread r n)) (c k).words (Area.Object (r + 3)) (Area.Class d) refl) d;
          starts = started_starts;
          threads = started_threads;
          lines = refl;
        })
