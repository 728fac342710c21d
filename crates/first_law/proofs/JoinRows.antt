-- Acts that hand a thread out, that wait for a thread's end, and that end one.
use Rattle.std.proofs.Common.{◌≡◌, ◌≢◌, inl, inr, ℕ, ◌<◌, nat_eq, Bool, true, false, Option, None, Some, List, refl, sym, ◌∙◌, ap, subst, arith}
use Rattle.std.specs.Prelude.{if◌then◌else◌}
use Rattle.std.proofs.lemmas.Grind.{common_steps}
use Rattle.std.proofs.lemmas.Bool.Decides.{nat_tests}
use Rattle.op_core.specs.declared.Op.TheVariants.{Start, Join, End}
use Rattle.op_core.specs.declared.Reply.{Reply}
use Rattle.op_core.specs.declared.Reply.TheVariants.{Number}
use Rattle.op_core.specs.declared.Next.{Next}
use Rattle.op_core.specs.declared.Next.TheVariants.{Want}
use Rattle.op_core.specs.ThreadCode.{Code}
use Rattle.op_core.specs.OrdinaryState.{set_at, live, ended, HasEnded, OrdinaryState}
use Rattle.op_core.specs.InPlaceList.{unseen}
use Rattle.op_core.proofs.ExecutionLemmas.{states_ext}
use Rattle.op_core.proofs.PointwiseLemmas.{same_or_other, set_at-hit, set_at-other}
use Rattle.heap_words.specs.declared.areas.Area.{Area}
use Rattle.step_port.specs.declared.answer.StepAnswer.{StepAnswer}
use Rattle.step_port.specs.declared.answer.StepAnswer.TheVariants.{Found}
use Rattle.step_port.specs.declared.step.ThreadWord.{ThreadWord}
use Rattle.step_port.specs.declared.step.Step.{Step}
use Rattle.step_port.specs.declared.step.Step.TheVariants.{EndThread, LoadThread, Split}
use Rattle.thread_automaton.specs.declared.Bounds.{Bounds}
use Rattle.thread_automaton.specs.declared.Attempt.TheVariants.{Fixed}
use Rattle.thread_automaton.specs.ThreadState.{ThreadState, first_state}
use Rattle.thread_automaton.specs.Changes.{Change, replies, ends}
use Rattle.thread_automaton.specs.Told.{told, after_answer}
use Rattle.automaton_rows.specs.Fits.{AttemptFits}
use Rattle.core_runs.specs.Cores.{Core}
use Rattle.core_runs.specs.Acts.{Act}
use Rattle.core_runs.specs.Reading.{end_wanted, place_in, waiting_in, thread_in, ordinary}
use Rattle.section_laws.proofs.ClaimLemmas.{none_some, found_is}
use Rattle.section_laws.proofs.NumberLemmas.{number_at}
use Rattle.section_laws.specs.Ends.{end_word}
use Rattle.section_laws.proofs.run_threads.EndLemmas.{ends_are_known}
use Rattle.section_laws.specs.Starts.{start_word_of}
use Rattle.section_laws.proofs.level_saves.SaveLemmas.{is_live}
use Rattle.first_law.specs.InPlace.{IsSeenRun}
use Rattle.first_law.proofs.TurnLemmas.{keeps_load, known, words_part, starts_part, monitors_part, waiting_part, threads_part, stays_part}
use Rattle.first_law.proofs.EntryLemmas.{NoReply, HasEntry, Done, did_at, after, live_from, then_live, over_is, local_is, depth_is, event_entry, leads, usual_shows, no_event}
use Rattle.first_law.proofs.ReplyLemmas.{kept_entry}
use Rattle.first_law.proofs.WordRows.{all_fit}
use Rattle.first_law.proofs.ThreadRows.{zero_is, low, starts, numbers, names, start_value, joined}

module _ {S : Type 0} (code : Code S) (b : Bounds) (is_thread : ℕ → Bool) (first : S) (classes : ℕ) (c : ℕ → Core S) (acts : List Act) (run : IsSeenRun code b is_thread first classes c acts) (k t : ℕ)
    (th : ThreadState S) where
  abbrev Does : Next → Step → StepAnswer → Change → Type 0
  Does next step a change = Done code b is_thread first classes c acts run k t th next step a change

  abbrev Seen : Step → StepAnswer → Type 0
  Seen step a = HasEntry code b is_thread first classes c acts run k t th step a

  abbrev state : OrdinaryState S
  state = ordinary code is_thread (c k)

  -- ---- a thread that is handed out

  module _ {r p n w : ℕ} (act : Does (Want (Start r p)) (Split n r p) (Found w) (replies (Number n))) where
    attempt_so : th.attempt ≡ Fixed (Split n r p)
    attempt_so = (names code b is_thread first classes c acts run k t th act).1

    begins_so : (c k).starting n ≡ Some (code.child th.local r)
    begins_so = ((starts code b is_thread first classes c acts run k t th act).threads t th act.stands).begins n r p attempt_so

    above : 0 < n
    above = by_next (code.next th.local) (subst (AttemptFits th (code.next th.local)) attempt_so ((known code b is_thread first classes c acts run k t (Split n r p) (Found w) act.here
        (did_at code b is_thread first classes c acts run k t th act)).fit t th act.stands).attempt)
      where
        by_next : (next : Next) → AttemptFits th next (Fixed (Split n r p)) → 0 < n
        by_next (Want (Start q o)) fits = fits.3
        by_next next fits = absurd fits

    no_thread : (c k).threads n ≡ None
    no_thread = subst (λ m. (c k).threads m ≡ None) (ap number_at attempt_so)
        ((numbers code b is_thread first classes c acts run k t th act).unused t th act.stands (subst (λ m. 0 < m) (sym (ap number_at attempt_so)) above))

    differs : n ≢ t
    differs same = none_some th (sym no_thread ∙ ap (c k).threads same ∙ act.stands)

    abbrev y : ThreadState S
    y = after_answer code b th (Split n r p) (Found w)

    abbrev child : ThreadState S
    child = first_state n p (code.child th.local r)

    was_there : thread_in code ((c k).starting t) (Some th) ≡ live (code.reply th.local (Number n))
    was_there = ap (λ x. if x then ended (end_wanted (code.next th.local)) else live (place_in code th.local th.attempt)) (is_live code b th (Split n r p) act.move)
        ∙ ap (λ g. live (place_in code th.local g)) attempt_so

    handed_threads : (u : ℕ) → thread_in code ((c k).starting u) (set_at (set_at (c k).threads t (Some y)) n (Some child) u) ≡ state.threads u
    handed_threads u = elim (same_or_other u n) [
      | inl own ↦ ap (λ m. thread_in code ((c k).starting m) (set_at (set_at (c k).threads t (Some y)) n (Some child) m)) own
          ∙ ap (thread_in code ((c k).starting n)) (set_at-hit (set_at (c k).threads t (Some y)) n (Some child))
          ∙ sym (ap (λ m. thread_in code ((c k).starting m) ((c k).threads m)) own ∙ ap (thread_in code ((c k).starting n)) no_thread ∙ ap (λ o. thread_in code o None) begins_so)
      | inr other ↦ ap (thread_in code ((c k).starting u)) (set_at-other (set_at (c k).threads t (Some y)) n (Some child) u other)
          ∙ stays_part code b is_thread first classes c acts run k t (Split n r p) (Found w) act.here (did_at code b is_thread first classes c acts run k t th act) (code.reply th.local (Number n)) was_there
          (then_live code b is_thread first classes c acts run k t th act ((c k).starting t) (code.reply th.local (Number n)) (live_from code b is_thread first classes c acts run k t th act) refl) u
    ]

    handed_waiting : (u : ℕ) → waiting_in (set_at (set_at (c k).threads t (Some y)) n (Some child) u) ((c k).words (Area.Wait u)) ≡ state.waiting u
    handed_waiting u = elim (same_or_other u n) [
      | inl own ↦ ap (λ m. waiting_in (set_at (set_at (c k).threads t (Some y)) n (Some child) m) ((c k).words (Area.Wait m))) own
          ∙ ap (λ o. waiting_in o ((c k).words (Area.Wait n))) (set_at-hit (set_at (c k).threads t (Some y)) n (Some child))
          ∙ sym (ap (λ m. waiting_in ((c k).threads m) ((c k).words (Area.Wait m))) own ∙ ap (λ o. waiting_in o ((c k).words (Area.Wait n))) no_thread)
      | inr other ↦ ap (λ o. waiting_in o ((c k).words (Area.Wait u))) (set_at-other (set_at (c k).threads t (Some y)) n (Some child) u other)
          ∙ waiting_part code b is_thread first classes c acts run k t (Split n r p) (Found w) act.here (did_at code b is_thread first classes c acts run k t th act)
          (depth_is code b is_thread first classes c acts run k t th act) (λ u. refl) u
    ]

    pub handed_row : Seen (Split n r p) (Found w)
    handed_row = (
      unseen,
      (
        th,
        act.stands,
        usual_shows code b (c k) t th (Split n r p) (Found w) unseen tt
            (sym (no_event t (code.next th.local) (told code b th (Split n r p) (Found w)) (subst NoReply (sym act.told_is) tt))),
      ),
      leads code b is_thread first classes c acts run k t th act ∙ states_ext S (ordinary code is_thread (after code b is_thread first classes c acts run k t th act)) state (record {
        objects = λ q. refl;
        words = λ q i. words_part code b is_thread first classes c acts run k t (Split n r p) (Found w) act.here (did_at code b is_thread first classes c acts run k t th act) (λ p. refl) q i;
        monitors = λ q. monitors_part code b is_thread first classes c acts run k t (Split n r p) (Found w) act.here (did_at code b is_thread first classes c acts run k t th act) q (λ o there. refl);
        waiting = handed_waiting;
        classes = λ d. refl;
        starts = λ q. starts_part code b is_thread first classes c acts run k t (Split n r p) (Found w) act.here (did_at code b is_thread first classes c acts run k t th act) (λ p. refl) q;
        threads = handed_threads;
        lines = refl;
      }),
    )

  -- ---- joins

  pub never_row : {r w : ℕ} → Does (Want (Join r)) (LoadThread (ThreadWord.Start r)) (Found w) (replies Reply.Done) → nat_eq w 0 ≡ true → Seen (LoadThread (ThreadWord.Start r)) (Found w)
  never_row {r} {w} act none =
      let word : w ≡ start_word_of (c k) r = found_is w (start_word_of (c k) r) act.answered in
      let no_start : state.starts r ≡ 0 = start_value code b is_thread first classes c acts run k t th act r (joined code b is_thread first classes c acts run k t th act) ∙ sym word ∙ zero_is w none in
      kept_entry code b is_thread first classes c acts run k t th act (Join r) Reply.Done refl refl tt tt ((all_fit code b is_thread first classes c acts run k t th act (Join r) refl).1, inl no_start) tt
      (keeps_load (LoadThread (ThreadWord.Start r)) (c k).words refl) refl (λ f. refl) (λ f. refl) (λ xs. refl) (λ f. refl) refl

  pub joined_row : {r n w : ℕ} → Does (Want (Join r)) (LoadThread (ThreadWord.Ended n)) (Found w) (replies Reply.Done) → nat_eq w 0 ≡ false → Seen (LoadThread (ThreadWord.Ended n)) (Found w)
  joined_row {r} {n} {w} act some =
      kept_entry code b is_thread first classes c acts run k t th act (Join r) Reply.Done refl refl tt tt (
        (all_fit code b is_thread first classes c acts run k t th act (Join r) refl).1,
        inr (subst (λ m. HasEnded (state.threads m)) (sym started) (has_ended ((c k).threads n) refl)),
      ) tt
      (keeps_load (LoadThread (ThreadWord.Ended n)) (c k).words refl) refl (λ f. refl) (λ f. refl) (λ xs. refl) (λ f. refl) refl
    where
      awaited : (0 < n) × (start_word_of (c k) r ≡ n)
      awaited = ((starts code b is_thread first classes c acts run k t th act).threads t th act.stands).awaited n r (names code b is_thread first classes c acts run k t th act) act.wants

      started : state.starts r ≡ n
      started = start_value code b is_thread first classes c acts run k t th act r (joined code b is_thread first classes c acts run k t th act) ∙ awaited.1

      word : w ≡ end_word ((c k).threads n)
      word = found_is w ((c k).words (Area.Thread n)) act.answered
          ∙ ends_are_known code b c acts run.levelled.ordered.run run.levelled.numbered run.ends k n (low code b is_thread first classes c acts run k t th act)

      has_ended : (o : Option (ThreadState S)) → (c k).threads n ≡ o → HasEnded (thread_in code ((c k).starting n) ((c k).threads n))
      has_ended None is = absurd (no_word w some (word ∙ ap end_word is))
        where
          no_word : (w : ℕ) → nat_eq w 0 ≡ false → w ≡ 0 → ⊥
          no_word w some none = grind (arith, common_steps, nat_tests)
      has_ended (Some uh) is = by_over uh.over refl
        where
          no_word : (w : ℕ) → nat_eq w 0 ≡ false → w ≡ 0 → ⊥
          no_word w some none = grind (arith, common_steps, nat_tests)

          by_over : (x : Bool) → uh.over ≡ x → HasEnded (thread_in code ((c k).starting n) ((c k).threads n))
          by_over true over = subst HasEnded (sym (ap (thread_in code ((c k).starting n)) is ∙ ap (λ x. if x then ended (end_wanted (code.next uh.local)) else live (place_in code uh.local uh.attempt)) over)) tt
          by_over false over = absurd (no_word w some (word ∙ ap end_word is ∙ ap (λ (x : Bool). if x then 1 else 0) over))

  -- ---- ends

  pub end_row : {x : Option ℕ} → Does (Want (End x)) (EndThread th.number) StepAnswer.Done ends → Seen (EndThread th.number) StepAnswer.Done
  end_row {x} act = event_entry code b is_thread first classes c acts run k t th act (End x) Reply.Done refl refl tt tt tt tt (record {
    objects = λ q. refl;
    words = λ q i. words_part code b is_thread first classes c acts run k t (EndThread th.number) StepAnswer.Done act.here (did_at code b is_thread first classes c acts run k t th act) (λ p. refl) q i;
    monitors = λ q. monitors_part code b is_thread first classes c acts run k t (EndThread th.number) StepAnswer.Done act.here (did_at code b is_thread first classes c acts run k t th act) q (λ o there. refl);
    waiting = λ u. waiting_part code b is_thread first classes c acts run k t (EndThread th.number) StepAnswer.Done act.here (did_at code b is_thread first classes c acts run k t th act)
        (depth_is code b is_thread first classes c acts run k t th act) (λ u. refl) u;
    classes = λ d. refl;
    starts = λ q. starts_part code b is_thread first classes c acts run k t (EndThread th.number) StepAnswer.Done act.here (did_at code b is_thread first classes c acts run k t th act) (λ p. refl) q;
    threads = λ u. threads_part code b is_thread first classes c acts run k t (EndThread th.number) StepAnswer.Done act.here (did_at code b is_thread first classes c acts run k t th act) (ended x) its_end u;
    lines = refl;
  })
    where
      its_end : thread_in code ((c k).starting t) (Some (after_answer code b th (EndThread th.number) StepAnswer.Done)) ≡ ended x
      its_end =
          let y : ThreadState S = after_answer code b th (EndThread th.number) StepAnswer.Done in
          ap (λ o. if o then ended (end_wanted (code.next y.local)) else live (place_in code y.local y.attempt)) (over_is code b is_thread first classes c acts run k t th act)
          ∙ ap (λ l. ended (end_wanted (code.next l))) (local_is code b is_thread first classes c acts run k t th act) ∙ ap (λ n. ended (end_wanted n)) act.wants
