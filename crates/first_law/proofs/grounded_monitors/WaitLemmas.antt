-- The words of waits with each step of a thread.
use Rattle.std.proofs.Common.{◌≡◌, ◌≢◌, inl, inr, ℕ, suc, ◌<◌, ◌≤◌, ◌^◌, true, Option, None, Some, List, length, refl, sym, ◌∙◌, ap, subst, arith}
use Rattle.std.specs.Prelude.{nat_le, slice_get}
use Rattle.std.proofs.lemmas.Option.{same_Some}
use Rattle.op_core.specs.declared.Op.{Op}
use Rattle.op_core.specs.declared.Op.TheVariants.{Wait, Rewake}
use Rattle.op_core.specs.declared.Next.{Next}
use Rattle.op_core.specs.declared.Next.TheVariants.{Want}
use Rattle.op_core.specs.ThreadCode.{Code}
use Rattle.op_core.specs.Orderly.{IsRewake}
use Rattle.op_core.specs.OrdinaryState.{set_at}
use Rattle.op_core.proofs.PointwiseLemmas.{same_or_other, set_at-hit, set_at-other}
use Rattle.heap_words.specs.declared.areas.Area.{Area}
use Rattle.heap_words.specs.declared.words.WaitWord.TheVariants.{Waiting}
use Rattle.heap_words.specs.Words.{wait_object, wait_state, wait_word_of}
use Rattle.section_state.specs.SectionWord.{revoke_of}
use Rattle.step_port.specs.declared.answer.StepAnswer.{StepAnswer}
use Rattle.step_port.specs.declared.step.Step.{Step}
use Rattle.step_port.specs.declared.step.Step.TheVariants.{SetWait, Split}
use Rattle.step_port.specs.Steps.{place_of, effect_of}
use Rattle.step_port.specs.Words.{Words, CanAnswer, answer_of, words_after}
use Rattle.thread_automaton.specs.declared.Bounds.{Bounds}
use Rattle.thread_automaton.specs.declared.Move.TheVariants.{Make}
use Rattle.thread_automaton.specs.declared.Attempt.{Attempt}
use Rattle.thread_automaton.specs.declared.Attempt.TheVariants.{Begin, Fixed, Undoing}
use Rattle.thread_automaton.specs.ThreadState.{ThreadState, first_state}
use Rattle.thread_automaton.specs.NextMove.{move_of}
use Rattle.thread_automaton.specs.Answers.{is_waiting_for, is_notified_for, change_of}
use Rattle.thread_automaton.specs.Told.{after_answer}
use Rattle.automaton_rows.specs.Fits.{AttemptFits, IsFit}
use Rattle.automaton_rows.specs.Rows.{Row}
use Rattle.automaton_rows.specs.Undoing.{is_held}
use Rattle.automaton_rows.proofs.RowLemmas.{answers_are_rows, words_can_answer}
use Rattle.automaton_rows.proofs.ReplyLemmas.{replies_fit}
use Rattle.core_runs.specs.Cores.{Core, threads_by, core_after}
use Rattle.core_runs.specs.Acts.{Act, did, DidAt}
use Rattle.section_laws.specs.Runs.{IsRun}
use Rattle.section_laws.proofs.WordLemmas.{stays_at}
use Rattle.section_laws.proofs.ClaimLemmas.{none_some, found_is}
use Rattle.section_laws.proofs.DeedLemmas.{makes_it}
use Rattle.section_laws.proofs.RunLemmas.{facts_at}
use Rattle.section_laws.proofs.own_sections.SeenLemmas.{undoing_seen}
use Rattle.section_laws.proofs.own_sections.MoveLemmas.{own_at}
use Rattle.section_laws.proofs.run_threads.NumberLemmas.{threads_are_numbered}
use Rattle.section_laws.proofs.held_levels.RowLemmas.{Stands}
use Rattle.section_laws.proofs.held_levels.StandLemmas.{Wants, stands_at, split_wants}
use Rattle.section_laws.proofs.level_marks.RowLemmas.{IsUndoing}
use Rattle.first_law.specs.Held.{StageHolds, Holds}
use Rattle.first_law.specs.RunMonitors.{IsMonitorRun}
use Rattle.first_law.proofs.run_monitors.StageLemmas.{undoes_none}
use Rattle.first_law.proofs.run_monitors.DidLemmas as dids
use Rattle.first_law.proofs.run_monitors.RunLemmas.{so_at}
use Rattle.first_law.proofs.WaitLemmas.{waiting_parts}
use Rattle.first_law.specs.Waits.{IsGivingUp, WaitWordSays, WaitsAreKnown}
use Rattle.first_law.proofs.grounded_monitors.WordLemmas.{stays, records, wakes, wait_change, recorded, waiting_says, woken_says, two_not_one, zero_state, Waits}
use Rattle.first_law.proofs.grounded_monitors.TurnLemmas.{GivesUp, SetsNoWait, WaitTurn, goes_on, answers, sees, gives_up, wait_turns}
use Rattle.first_law.proofs.grounded_monitors.TurnLemmas as turns
use Rattle.first_law.proofs.grounded_monitors.LookLemmas.{LookTurn, look_turns}
use Rattle.first_law.proofs.grounded_monitors.SaysLemmas.{not_waiting, says_new, says_on, says_woken, gives_held, rewake_of, split_low, wakes_at, Wakes, wakes_so}

abbrev pub wanted_object : Next → ℕ
wanted_object (Want (Rewake r)) = r
wanted_object (Want (Op.Notify r)) = r
wanted_object (Want (Wait r)) = r
wanted_object next = 0

abbrev pub IsNotify : Next → Type 0
IsNotify (Want (Op.Notify r)) = Unit {0}
IsNotify next = ⊥

abbrev pub IsWaiting : Next → Type 0
IsWaiting (Want (Wait r)) = Unit {0}
IsWaiting next = ⊥

-- a wait word is changed
abbrev pub SetsWord : Step → Type 0
SetsWord (SetWait n w) = Unit {0}
SetsWord (Step.Notify n w) = Unit {0}
SetsWord step = ⊥

-- what is asked of a run: the objects of waits have 32 bits
abbrev pub WaitsAreLow : {S : Type 0} → Code S → (ℕ → Core S) → List Act → Type 0
WaitsAreLow {S} code c acts = (k t r : ℕ) (th : ThreadState S) → k < length acts → (c k).threads t ≡ Some th → code.next th.local ≡ Want (Wait r) → r < 2 ^ 32

module _ {S : Type 0} (code : Code S) (b : Bounds) (first : S) (classes : ℕ) (c : ℕ → Core S) (acts : List Act) (run : IsMonitorRun code b first classes c acts) (low : WaitsAreLow code c acts) where
  ran : IsRun code b c acts
  ran = run.levelled.ordered.run

  abbrev pub Says : ThreadState S → ℕ → Type 0
  Says th v = WaitWordSays (code.next th.local) th.attempt v

  module _ (k : ℕ) (within : k < length acts) (before : WaitsAreKnown code (c k)) where
    up : k ≤ length acts
    up = omega (arith, within)

    abbrev w : Words
    w = (c k).words

    so : dids.So code b first classes c acts run k
    so = so_at code b first classes c acts run k up

    so_next : dids.So code b first classes c acts run (suc k)
    so_next = so_at code b first classes c acts run (suc k) within

    -- a thread that waits is to take its monitor again
    pub waiter : (r u : ℕ) (uh : ThreadState S) → (c k).threads u ≡ Some uh → Waits r uh (w (Area.Wait u)) → (code.next uh.local ≡ Want (Rewake r)) × (wait_state (w (Area.Wait u)) ≡ 1)
    waiter r u uh there waits =
        let is = rewake_of uh.level uh.depth uh.held (code.next uh.local) (so.0 u uh there).waits waits.some in
        let says = subst (λ next. WaitWordSays next uh.attempt (w (Area.Wait u))) is.1 (before.says u uh there) in
        (is.1 ∙ ap (λ n. Want (Rewake n)) (sym says.0 ∙ waits.object), elim says.1 [ inl one ↦ one | inr two ↦ absurd (waits.state two) ])

    module _ (t : ℕ) (step : Step) (a : StepAnswer) (here : slice_get acts k ≡ Some (did t step a)) (at : DidAt code b c k t step a) where
      abbrev th : ThreadState S
      th = at.from

      abbrev pub y : ThreadState S
      y = after_answer code b at.from step a

      abbrev pub behind : Core S
      behind = core_after code b k (c k) t at.from step a

      fits : IsFit code at.from
      fits = (facts_at code b c acts ran k up).fit t at.from at.stands

      pub makes : move_of code at.from (code.next at.from.local) at.from.attempt ≡ Make step
      makes = makes_it at.from.over (nat_le b.limits.turns at.from.counted) _ step at.move

      can : CanAnswer (effect_of step) a
      can = subst (CanAnswer (effect_of step)) (sym at.answered) (words_can_answer (c k).words step)

      row : Row code b at.from (code.next at.from.local) step a (change_of code b at.from (code.next at.from.local) step a)
      row = answers_are_rows code b at.from step a fits.attempt at.move can

      stood : Stands code first classes run.levelled.ordered.orderly at.from
      stood = stands_at code first classes run.levelled.ordered.orderly b c acts run.levelled.ordered k up t at.from at.stands

      pub holds : Holds b (code.next at.from.local) at.from
      holds = so.0 t at.from at.stands

      undoes : IsRewake (code.next at.from.local) → IsUndoing at.from.attempt → ⊥
      undoes rewake undoing = by_attempt at.from.attempt refl undoing
        where
          open_still : (p r l : ℕ) → p < r → r ≤ l → l ≤ p → ⊥
          open_still p r l low high pinned = omega (arith, low, high, pinned)

          by_attempt : (g : Attempt) → at.from.attempt ≡ g → IsUndoing g → ⊥
          by_attempt (Undoing v) is undoing =
              let seen = undoing_seen code at.from (c k).words (own_at code b c acts ran run.levelled.ordered.in_bits k up t at.from at.stands) fits v is in
              open_still at.from.pinned (revoke_of v) at.from.levels seen.0 seen.1 (stood.rewakes rewake).pinned
          by_attempt g is undoing = undoing

      pub turn : WaitTurn code at.from (code.next at.from.local) step a y
      turn = wait_turns code first classes run.levelled.ordered.orderly b at.from stood undoes step a row makes can (replies_fit code b at.from step a fits.attempt at.move can)

      pub look : LookTurn at.from (code.next at.from.local) step a y
      look = look_turns code b at.from step a row

      pub number : at.from.number ≡ t
      number = (threads_are_numbered code b c acts ran run.levelled.numbered k up).own t at.from at.stands

      was : Says at.from (w (Area.Wait t))
      was = before.says t at.from at.stands

      -- ---- who sets the word of a wait

      -- a thread records itself alone
      pub recorder : (u v : ℕ) → step ≡ SetWait u v → u ≡ t
      recorder u v is = elim turn [
        | goes_on none calm local marked ↦ absurd (subst SetsNoWait is none)
        | answers none calm usual at_begin looked ↦ absurd (subst SetsNoWait is none)
        | turns.records r wants sets local at_release ↦ ap number_in (sym is ∙ sets) ∙ number
        | sees r x wants loads found told local ↦ absurd (subst SetsWord (sym is ∙ loads) tt)
        | gives_up r wants at_release lets goes at_begin ↦ absurd (subst SetsWord (sym is ∙ lets) tt)
      ]
        where
          number_in : Step → ℕ
          number_in (SetWait n v) = n
          number_in step = 0

      -- and a notify wakes one that waits for an object whose monitor the thread holds
      record WakesHeld (old : ℕ) : Type 0 where
        notify : Wakes (code.next at.from.local) old
        has : is_held notify.object at.from.held ≡ true

      waker : (u old : ℕ) → step ≡ Step.Notify u old → WakesHeld old
      waker u old is =
          let made : move_of code at.from (code.next at.from.local) at.from.attempt ≡ Make (Step.Notify u old) = makes ∙ ap Make is in
          let fixed : at.from.attempt ≡ Fixed (Step.Notify u old) = wakes_at code at.from (code.next at.from.local) at.from.attempt u old
          (undoes_none code at.from (code.next at.from.local) (Step.Notify u old) at.from.attempt made tt) made in
          let notify = wakes_so at.from (code.next at.from.local) u old (subst (AttemptFits at.from (code.next at.from.local)) fixed fits.attempt) in
          record {
            notify = notify;
            has = subst (λ next. StageHolds at.from.section at.from.levels at.from.pinned at.from.held next (Fixed (Step.Notify u old))) notify.wants
                (subst (StageHolds at.from.section at.from.levels at.from.pinned at.from.held (code.next at.from.local)) fixed holds.fixed);
          }

      -- ---- the own word

      pub own_word : Says y (words_after step w (Area.Wait t))
      own_word = elim turn [
        | goes_on none calm local marked ↦
            let same : code.next y.local ≡ code.next at.from.local = ap code.next local in
            let says_then = says_on (code.next at.from.local) at.from.attempt y.attempt in
            subst (λ next. WaitWordSays next y.attempt (words_after step w (Area.Wait t))) (sym same) (elim (wait_change w step t) [
              | stays is ↦ subst (WaitWordSays (code.next at.from.local) y.attempt) (sym is) (says_then (w (Area.Wait t)) was calm marked)
              | records v is now ↦ absurd (subst SetsNoWait is none)
              | wakes old is found now ↦ says_woken (code.next at.from.local) y.attempt old (words_after step w (Area.Wait t))
                  (subst (WaitWordSays (code.next at.from.local) y.attempt) found (says_then (w (Area.Wait t)) was calm marked))
                  (λ up. absurd (subst (λ next. GivesUp next y.attempt) ((waker t old is).notify.wants) up)) now
            ])
        | answers none calm usual at_begin looked ↦ says_new (code.next y.local) y.attempt (words_after step w (Area.Wait t)) usual (λ up. subst IsGivingUp at_begin up) (elim (wait_change w step t) [
          | stays is ↦ subst (λ v. wait_state v ≢ 1) (sym is) (not_waiting (code.next at.from.local) at.from.attempt (w (Area.Wait t)) was looked calm)
          | records v is now ↦ absurd (subst SetsNoWait is none)
          | wakes old is found now ↦ two_not_one (wait_state (words_after step w (Area.Wait t))) (ap wait_state now ∙ (woken_says old).1)
        ])
        | turns.records r wants sets local at_release ↦
            let word : words_after step w (Area.Wait t) ≡ wait_word_of (Waiting r) = ap (λ s. words_after s w (Area.Wait t)) (sets ∙ ap (λ n. SetWait n (wait_word_of (Waiting r))) number) ∙ recorded w t (wait_word_of (Waiting r)) in
            subst (λ next. WaitWordSays next y.attempt (words_after step w (Area.Wait t))) (sym (ap code.next local ∙ wants))
            (λ up. (word, low k t r at.from within at.stands wants), λ calm. absurd (calm (subst IsGivingUp (sym at_release) tt)))
        | sees r x wants loads found told local ↦
            let word : words_after step w (Area.Wait t) ≡ w (Area.Wait t) = ap (λ s. words_after s w (Area.Wait t)) loads in
            let seen : x ≡ w (Area.Wait t) = found_is x (w (Area.Wait at.from.number)) (sym found ∙ at.answered ∙ ap (answer_of w) loads) ∙ ap (λ n. w (Area.Wait n)) number in
            let said = subst (λ next. WaitWordSays next at.from.attempt (w (Area.Wait t))) wants was in
            subst (λ next. WaitWordSays next y.attempt (words_after step w (Area.Wait t))) (sym (ap code.next local ∙ wants))
            (subst (WaitWordSays (Want (Rewake r)) y.attempt) (sym word) (said.0, said.1, λ looked. subst (λ v. is_notified_for r v ≡ true) seen told))
        | gives_up r wants at_release lets goes at_begin ↦
            let word : words_after step w (Area.Wait t) ≡ w (Area.Wait t) = ap (λ s. words_after s w (Area.Wait t)) lets in
            let said = (subst (λ g. WaitWordSays (Want (Wait r)) g (w (Area.Wait t))) at_release (subst (λ next. WaitWordSays next at.from.attempt (w (Area.Wait t))) wants was)).0 tt in
            let waits = waiting_says r said.1 in
            subst (λ next. WaitWordSays next y.attempt (words_after step w (Area.Wait t))) (sym goes)
            (subst (λ g. WaitWordSays (Want (Rewake r)) g (words_after step w (Area.Wait t))) (sym at_begin)
            (ap wait_object (word ∙ said.0) ∙ waits.0, inl (ap wait_state (word ∙ said.0) ∙ waits.1), λ looked. absurd looked))
      ]

      -- ---- the words of others

      other_word : (u : ℕ) (uh : ThreadState S) → u ≢ t → (c k).threads u ≡ Some uh → Says uh (words_after step w (Area.Wait u))
      other_word u uh other there = elim (wait_change w step u) [
        | stays is ↦ subst (Says uh) (sym is) (before.says u uh there)
        | records v is now ↦ absurd (other (recorder u v is))
        | wakes old is found now ↦ says_woken (code.next uh.local) uh.attempt old (words_after step w (Area.Wait u)) (subst (Says uh) found (before.says u uh there)) (no_giving old (waker u old is) found) now
      ]
        where
          no_giving : (old : ℕ) → WakesHeld old → w (Area.Wait u) ≡ old → GivesUp (code.next uh.local) uh.attempt → ⊥
          no_giving old woke found up =
              let gives = gives_held uh.section uh.levels uh.pinned uh.held (code.next uh.local) uh.attempt (w (Area.Wait u)) (so.0 u uh there).fixed (before.says u uh there) up in
              let same : gives.object ≡ woke.notify.object = sym (ap wait_object gives.word ∙ (waiting_says gives.object gives.low).0) ∙ ap wait_object found ∙ (waiting_parts woke.notify.object old woke.notify.waits).0 in
              other (so.1.one u t woke.notify.object uh at.from there at.stands (subst (λ r. is_held r uh.held ≡ true) same gives.has) woke.has)

      -- ---- the threads that are there then

      pub data Came (u : ℕ) (uh : ThreadState S) : Type 0 where
        stays_there : u ≢ t → (c k).threads u ≡ Some uh → Came u uh
        moves_on : u ≡ t → uh ≡ y → Came u uh
        begins_now : (n r p : ℕ) → step ≡ Split n r p → u ≡ n → uh ≡ first_state n p (code.child at.from.local r) → Came u uh

      came_there : (u : ℕ) (uh : ThreadState S) → set_at (c k).threads t (Some y) u ≡ Some uh → Came u uh
      came_there u uh there = elim (same_or_other u t) [
        | inl own ↦ moves_on own (sym (same_Some y uh (sym (ap (set_at (c k).threads t (Some y)) own ∙ set_at-hit (c k).threads t (Some y)) ∙ there)))
        | inr other ↦ stays_there other (sym (set_at-other (c k).threads t (Some y) u other) ∙ there)
      ]

      pub came : (u : ℕ) (uh : ThreadState S) → behind.threads u ≡ Some uh → Came u uh
      came u uh there = by_step step refl there
        where
          by_step : (made : Step) → step ≡ made → threads_by code made at.from.local (set_at (c k).threads t (Some y)) u ≡ Some uh → Came u uh
          by_step (Split n r p) is there = elim (same_or_other u n) [
            | inl own ↦ begins_now n r p is own (sym (same_Some (first_state n p (code.child at.from.local r)) uh
                (sym (ap (set_at (set_at (c k).threads t (Some y)) n (Some (first_state n p (code.child at.from.local r)))) own
                ∙ set_at-hit (set_at (c k).threads t (Some y)) n (Some (first_state n p (code.child at.from.local r)))) ∙ there)))
            | inr other ↦ came_there u uh (sym (set_at-other (set_at (c k).threads t (Some y)) n (Some (first_state n p (code.child at.from.local r))) u other) ∙ there)
          ]
          by_step made is there = came_there u uh there

      new_usual : (n r p : ℕ) → step ≡ Split n r p → IsRewake (code.next (code.child at.from.local r)) → ⊥
      new_usual n r p is = run.levelled.ordered.orderly.child_goes at.from.local r p stood.can (subst (λ s. Wants s (code.next at.from.local)) is (split_wants code b at.from row can))

      new_word : (n r p : ℕ) → step ≡ Split n r p → words_after step w (Area.Wait n) ≡ 0
      new_word n r p is = ap (λ s. words_after s w (Area.Wait n)) is ∙ stays_at (effect_of (Split n r p)) w (place_of (Split n r p)) (Area.Wait n) refl
          ∙ before.unused n (dids.new code b first classes c acts run k within t step a here at so n r p is)

      pub says_then : (u : ℕ) (uh : ThreadState S) → behind.threads u ≡ Some uh → Says uh (words_after step w (Area.Wait u))
      says_then u uh there = by_came (came u uh there)
        where
          by_came : Came u uh → Says uh (words_after step w (Area.Wait u))
          by_came (stays_there other there) = other_word u uh other there
          by_came (moves_on own is) = subst (λ (x : ThreadState S). Says x (words_after step w (Area.Wait u))) (sym is) (subst (λ n. Says y (words_after step w (Area.Wait n))) (sym own) own_word)
          by_came (begins_now n r p is own same) = subst (λ (x : ThreadState S). Says x (words_after step w (Area.Wait u))) (sym same)
              (says_new (code.next (code.child at.from.local r)) Begin (words_after step w (Area.Wait u)) (new_usual n r p is) (λ up. up)
              (zero_state (words_after step w (Area.Wait u)) (ap (λ m. words_after step w (Area.Wait m)) own ∙ new_word n r p is)))

      pub own_there : behind.threads t ≡ Some y
      own_there = dids.own_there code b first classes c acts run k within t step a here at so

      pub unused_then : (u : ℕ) → behind.threads u ≡ None → words_after step w (Area.Wait u) ≡ 0
      unused_then u none = by_thread ((c k).threads u) refl
        where
          other : u ≢ t
          other own = none_some y (sym none ∙ ap behind.threads own ∙ own_there)

          zero_word : (old : ℕ) → w (Area.Wait u) ≡ 0 → w (Area.Wait u) ≡ old → (r : ℕ) → is_waiting_for r old ≡ true → ⊥
          zero_word old zero found r waits = zero_state old (sym found ∙ zero) (waiting_parts r old waits).1

          by_thread : (o : Option (ThreadState S)) → (c k).threads u ≡ o → words_after step w (Area.Wait u) ≡ 0
          by_thread (Some uh) there = none_some uh (sym none ∙ dids.kept_there code b first classes c acts run k within t step a here at so u uh other there)
          by_thread None there = elim (wait_change w step u) [
            | stays is ↦ is ∙ before.unused u there
            | records v is now ↦ absurd (other (recorder u v is))
            | wakes old is found now ↦ absurd (zero_word old (before.unused u there) found (waker u old is).notify.object (waker u old is).notify.waits)
          ]

      pub from_one_then : behind.threads 0 ≡ None
      from_one_then = by_thread (behind.threads 0) refl
        where
          not_split : (n r p : ℕ) → step ≡ Split n r p → 0 ≡ n → ⊥
          not_split n r p is same = no n (split_low code b at.from row can n r p is) same
            where
              no : (n : ℕ) → 0 < n → 0 ≡ n → ⊥
              no n some same = omega (arith, some, same)

          by_came : (uh : ThreadState S) → Came 0 uh → ⊥
          by_came uh (stays_there other there) = none_some uh (sym before.from_one ∙ there)
          by_came uh (moves_on own is) = none_some at.from (sym before.from_one ∙ ap (c k).threads own ∙ at.stands)
          by_came uh (begins_now n r p is own same) = not_split n r p is own

          by_thread : (o : Option (ThreadState S)) → behind.threads 0 ≡ o → behind.threads 0 ≡ None
          by_thread None is = is
          by_thread (Some uh) is = absurd (by_came uh (came 0 uh is))
