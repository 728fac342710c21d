-- Who waits after a step of a thread, and how far notifies have looked.
use Rattle.std.proofs.Common.{◌≡◌, ◌≢◌, ◌⊎◌, inl, inr, ℕ, suc, ◌+◌, ◌<◌, ◌≤◌, true, false, true≢false, Option, None, Some, List, length, refl, sym, ◌∙◌, ap, subst, arith}
use Rattle.std.specs.Prelude.{slice_get}
use Rattle.std.proofs.lemmas.Bool.Decides.{leb_tells}
use Rattle.op_core.specs.declared.Op.{Op}
use Rattle.op_core.specs.declared.Op.TheVariants.{Wait, Rewake}
use Rattle.op_core.specs.declared.Next.{Next}
use Rattle.op_core.specs.declared.Next.TheVariants.{Want}
use Rattle.op_core.specs.ThreadCode.{Code}
use Rattle.op_core.specs.Orderly.{IsRewake}
use Rattle.op_core.specs.OrdinaryState.{IsWaitingFor}
use Rattle.heap_words.specs.declared.areas.Area.{Area}
use Rattle.heap_words.specs.Words.{wait_word, wait_object, wait_state}
use Rattle.step_port.specs.declared.answer.StepAnswer.{StepAnswer}
use Rattle.step_port.specs.declared.answer.StepAnswer.TheVariants.{Found}
use Rattle.step_port.specs.declared.step.Step.{Step}
use Rattle.step_port.specs.declared.step.Step.TheVariants.{SetWait, LoadWait}
use Rattle.step_port.specs.Words.{Words, answer_of, words_after}
use Rattle.thread_automaton.specs.declared.Bounds.{Bounds}
use Rattle.thread_automaton.specs.declared.Move.TheVariants.{Make}
use Rattle.thread_automaton.specs.declared.Attempt.TheVariants.{Fixed}
use Rattle.thread_automaton.specs.ThreadState.{ThreadState}
use Rattle.thread_automaton.specs.NextMove.{move_of}
use Rattle.thread_automaton.specs.Answers.{is_waiting_for}
use Rattle.thread_automaton.specs.Told.{after_answer}
use Rattle.automaton_rows.specs.Undoing.{is_held}
use Rattle.core_runs.specs.Cores.{Core, core_after}
use Rattle.core_runs.specs.Acts.{Act, did, DidAt}
use Rattle.core_runs.specs.Reading.{waiting_in}
use Rattle.section_laws.proofs.ClaimLemmas.{found_is}
use Rattle.first_law.specs.Held.{StageHolds, WaitsHold, Holds}
use Rattle.first_law.specs.RunMonitors.{IsMonitorRun}
use Rattle.first_law.proofs.run_monitors.StageLemmas.{undoes_none}
use Rattle.first_law.proofs.run_monitors.DidLemmas as dids
use Rattle.first_law.proofs.run_monitors.RunLemmas.{so_at}
use Rattle.first_law.proofs.WaitLemmas.{notified_parts, waiting_for}
use Rattle.first_law.specs.Waits.{WaitWordSays, looked_below, WaitsAreKnown}
use Rattle.first_law.proofs.grounded_monitors.WordLemmas.{stays, records, wakes, wait_change, woken_says, Waits, waits_parts, waits_so}
use Rattle.first_law.proofs.grounded_monitors.TurnLemmas.{SetsNoWait, WaitTurn, goes_on, answers, sees, gives_up}
use Rattle.first_law.proofs.grounded_monitors.TurnLemmas as turns
use Rattle.first_law.proofs.grounded_monitors.LookLemmas.{LookTurn, looks_not, begins, passes, finds}
use Rattle.first_law.proofs.grounded_monitors.SaysLemmas.{rewake_of, look_holds, looks_at}
use Rattle.first_law.proofs.grounded_monitors.WaitLemmas as steps
use Rattle.first_law.proofs.grounded_monitors.WaitLemmas.{wanted_object, IsNotify, IsWaiting, WaitsAreLow, Came, stays_there, moves_on, begins_now}

module _ {S : Type 0} (code : Code S) (b : Bounds) (first : S) (classes : ℕ) (c : ℕ → Core S) (acts : List Act) (run : IsMonitorRun code b first classes c acts) (low : WaitsAreLow code c acts) where
  module _ (k : ℕ) (within : k < length acts) (before : WaitsAreKnown code (c k)) (t : ℕ) (step : Step) (a : StepAnswer) (here : slice_get acts k ≡ Some (did t step a)) (at : DidAt code b c k t step a) where
    abbrev w : Words
    w = (c k).words

    abbrev y : ThreadState S
    y = after_answer code b at.from step a

    abbrev behind : Core S
    behind = core_after code b k (c k) t at.from step a

    so : dids.So code b first classes c acts run k
    so = so_at code b first classes c acts run k (omega (arith, within))

    so_next : dids.So code b first classes c acts run (suc k)
    so_next = so_at code b first classes c acts run (suc k) within

    waiter : (r u : ℕ) (uh : ThreadState S) → (c k).threads u ≡ Some uh → Waits r uh (w (Area.Wait u)) → (code.next uh.local ≡ Want (Rewake r)) × (wait_state (w (Area.Wait u)) ≡ 1)
    waiter r u uh there parts = steps.waiter code b first classes c acts run low k within before r u uh there parts

    makes : move_of code at.from (code.next at.from.local) at.from.attempt ≡ Make step
    makes = steps.makes code b first classes c acts run low k within before t step a here at

    holds : Holds b (code.next at.from.local) at.from
    holds = so.0 t at.from at.stands

    turn : WaitTurn code at.from (code.next at.from.local) step a y
    turn = steps.turn code b first classes c acts run low k within before t step a here at

    look : LookTurn at.from (code.next at.from.local) step a y
    look = steps.look code b first classes c acts run low k within before t step a here at

    number : at.from.number ≡ t
    number = steps.number code b first classes c acts run low k within before t step a here at

    recorder : (u v : ℕ) → step ≡ SetWait u v → u ≡ t
    recorder u v is = steps.recorder code b first classes c acts run low k within before t step a here at u v is

    own_word : WaitWordSays (code.next y.local) y.attempt (words_after step w (Area.Wait t))
    own_word = steps.own_word code b first classes c acts run low k within before t step a here at

    own_there : behind.threads t ≡ Some y
    own_there = steps.own_there code b first classes c acts run low k within before t step a here at

    abbrev CameTo : ℕ → ThreadState S → Type 0
    CameTo u uh = Came code b first classes c acts run low k within before t step a here at u uh

    came : (u : ℕ) (uh : ThreadState S) → behind.threads u ≡ Some uh → CameTo u uh
    came u uh there = steps.came code b first classes c acts run low k within before t step a here at u uh there

    -- ---- who waits then

    record GaveUp (r : ℕ) : Type 0 where
      wants : code.next at.from.local ≡ Want (Wait r)
      has : is_held r at.from.held ≡ true

    waits_was : (r u : ℕ) → IsWaitingFor r (waiting_in (behind.threads u) (words_after step w (Area.Wait u)))
        → IsWaitingFor r (waiting_in ((c k).threads u) (w (Area.Wait u))) ⊎ ((u ≡ t) × GaveUp r)
    waits_was r u waits = by_thread (behind.threads u) refl waits
      where
        same_word : (uh : ThreadState S) → (c k).threads u ≡ Some uh → Waits r uh (words_after step w (Area.Wait u)) → words_after step w (Area.Wait u) ≡ w (Area.Wait u)
            → IsWaitingFor r (waiting_in ((c k).threads u) (w (Area.Wait u)))
        same_word uh there parts is = subst (λ (o : Option (ThreadState S)). IsWaitingFor r (waiting_in o (w (Area.Wait u)))) (sym there)
            (waits_so r uh (w (Area.Wait u)) (subst (Waits r uh) is parts))

        woken : {P : Type 0} (old : ℕ) (uh : ThreadState S) → Waits r uh (words_after step w (Area.Wait u)) → words_after step w (Area.Wait u) ≡ wait_word (wait_object old) 2 → P
        woken old uh parts now = absurd (parts.state (ap wait_state now ∙ (woken_says old).1))

        other_was : (uh : ThreadState S) → u ≢ t → (c k).threads u ≡ Some uh → Waits r uh (words_after step w (Area.Wait u)) → IsWaitingFor r (waiting_in ((c k).threads u) (w (Area.Wait u)))
        other_was uh other there parts = elim (wait_change w step u) [
          | stays is ↦ same_word uh there parts is
          | records v is now ↦ absurd (other (recorder u v is))
          | wakes old is found now ↦ woken old uh parts now
        ]

        own_was : u ≡ t → Waits r y (words_after step w (Area.Wait u)) → IsWaitingFor r (waiting_in ((c k).threads u) (w (Area.Wait u))) ⊎ ((u ≡ t) × GaveUp r)
        own_was own parts = elim turn [
          | goes_on none calm local marked ↦
              let there : (c k).threads u ≡ Some at.from = ap (c k).threads own ∙ at.stands in
              let some : 0 < at.from.depth = some_depth (code.next at.from.local) (sym (ap code.next local) ∙ is) holds.waits in
              let old_parts : Waits r at.from (words_after step w (Area.Wait u)) = record { some = some; object = parts.object; state = parts.state } in
              inl (elim (wait_change w step u) [
                | stays same ↦ same_word at.from there old_parts same
                | records v sets now ↦ absurd (subst SetsNoWait sets none)
                | wakes old woke found now ↦ woken old at.from old_parts now
              ])
          | answers none calm usual at_begin looked ↦ absurd (usual (subst IsRewake (sym is) tt))
          | turns.records q wants sets local at_release ↦ absurd (subst IsWaiting (sym wants ∙ sym (ap code.next local) ∙ is) tt)
          | sees q x wants loads found told local ↦
              let word : words_after step w (Area.Wait t) ≡ w (Area.Wait t) = ap (λ s. words_after s w (Area.Wait t)) loads in
              let seen : x ≡ w (Area.Wait t) = found_is x (w (Area.Wait at.from.number)) (sym found ∙ at.answered ∙ ap (answer_of w) loads) ∙ ap (λ n. w (Area.Wait n)) number in
              absurd (parts.state (ap (λ n. wait_state (words_after step w (Area.Wait n))) own ∙ ap wait_state word ∙ ap wait_state (sym seen) ∙ (notified_parts q x told).1))
          | gives_up q wants at_release lets goes at_begin ↦
              let same : q ≡ r = ap wanted_object (sym goes ∙ is) in
              inr (
                own,
                record {
                  wants = wants ∙ ap (λ n. Want (Wait n)) same;
                  has = subst (λ n. is_held n at.from.held ≡ true) same (subst (λ g. StageHolds at.from.section at.from.levels at.from.pinned at.from.held (Want (Wait q)) g) at_release
                      (subst (λ next. StageHolds at.from.section at.from.levels at.from.pinned at.from.held next at.from.attempt) wants holds.fixed));
                },
              )
        ]
          where
            next_holds : Holds b (code.next y.local) y
            next_holds = so_next.0 t y (ap (λ (z : Core S). z.threads t) at.leads ∙ own_there)

            is : code.next y.local ≡ Want (Rewake r)
            is =
                let rewakes = rewake_of y.level y.depth y.held (code.next y.local) next_holds.waits parts.some in
                let says = subst (λ next. WaitWordSays next y.attempt (words_after step w (Area.Wait t))) rewakes.1 own_word in
                rewakes.1 ∙ ap (λ n. Want (Rewake n)) (sym says.0 ∙ ap (λ n. wait_object (words_after step w (Area.Wait n))) (sym own) ∙ parts.object)

            some_depth : (next : Next) → next ≡ Want (Rewake r) → WaitsHold at.from.level at.from.depth at.from.held next → 0 < at.from.depth
            some_depth next same waits = (subst (WaitsHold at.from.level at.from.depth at.from.held) same waits).0

        by_came : (uh : ThreadState S) → CameTo u uh → Waits r uh (words_after step w (Area.Wait u)) → IsWaitingFor r (waiting_in ((c k).threads u) (w (Area.Wait u))) ⊎ ((u ≡ t) × GaveUp r)
        by_came uh (stays_there other there) parts = inl (other_was uh other there parts)
        by_came uh (moves_on own same) parts = own_was own (subst (λ (x : ThreadState S). Waits r x (words_after step w (Area.Wait u))) same parts)
        by_came uh (begins_now n q p is own same) parts = absurd (no (subst (λ (x : ThreadState S). 0 < x.depth) same parts.some))
          where
            no : 0 < 0 → ⊥
            no some = omega (arith, some)

        by_thread : (o : Option (ThreadState S)) → behind.threads u ≡ o → IsWaitingFor r (waiting_in o (words_after step w (Area.Wait u)))
            → IsWaitingFor r (waiting_in ((c k).threads u) (w (Area.Wait u))) ⊎ ((u ≡ t) × GaveUp r)
        by_thread None is waits = absurd waits
        by_thread (Some uh) is waits = by_came uh (came u uh is) (waits_parts r uh (words_after step w (Area.Wait u)) waits)

    -- ---- how far notifies have looked then

    abbrev Passes : (v u r : ℕ) → ThreadState S → Type 0
    Passes v u r vh = code.next vh.local ≡ Want (Op.Notify r) → u < looked_below vh.attempt → IsWaitingFor r (waiting_in (behind.threads u) (words_after step w (Area.Wait u))) → ⊥

    other_passes : (v u r : ℕ) (vh : ThreadState S) → v ≢ t → (c k).threads v ≡ Some vh → Passes v u r vh
    other_passes v u r vh other there is below waits = elim (waits_was r u waits) [
      | inl still ↦ before.passed v u r vh there is below still
      | inr gave ↦ other (so.1.one v t r vh at.from there at.stands
          (look_holds vh.section vh.levels vh.pinned vh.held r u vh.attempt (subst (λ next. StageHolds vh.section vh.levels vh.pinned vh.held next vh.attempt) is (so.0 v vh there).fixed) below) gave.1.has)
    ]

    own_passes : (u r : ℕ) → Passes t u r y
    own_passes u r is below waits = elim look [
      | looks_not none ↦ none_below u (subst (λ n. u < n) none below)
      | begins one ↦ subst (λ (o : Option (ThreadState S)). IsWaitingFor r (waiting_in o (words_after step w (Area.Wait u))) → ⊥) (sym (ap behind.threads (first_alone u (subst (λ n. u < n) one below)) ∙ steps.from_one_then code b first classes c acts run low k within before t step a here at))
          (λ none. none) waits
      | passes q n x wants loads found none at_next local ↦
          elim (still q wants) [
            | inl were ↦ elim (leb_tells n u) [
              | inl high ↦ not_passed q n x wants loads found none local (above u n (subst (λ m. u < m) at_next below) high.1) were
              | inr less ↦ before.passed t u r at.from at.stands (wanted local) (subst (λ g. u < looked_below g) (sym (fixed q n wants loads)) less.1) were
            ]
            | inr gave ↦ absurd gave
          ]
      | finds q n wants loads at_next local ↦ elim (still q wants) [
        | inl were ↦ before.passed t u r at.from at.stands (wanted local) (subst (λ g. u < looked_below g) (sym (fixed q n wants loads)) (subst (λ m. u < m) at_next below)) were
        | inr gave ↦ absurd gave
      ]
    ]
      where
        none_below : (u : ℕ) → u < 0 → ⊥
        none_below u below = omega (arith, below)

        first_alone : (u : ℕ) → u < 1 → u ≡ 0
        first_alone u below = omega (arith, below)

        above : (u n : ℕ) → u < n + 1 → n ≤ u → u ≡ n
        above u n below high = omega (arith, below, high)

        wanted : y.local ≡ at.from.local → code.next at.from.local ≡ Want (Op.Notify r)
        wanted local = sym (ap code.next local) ∙ is

        still : (q : ℕ) → code.next at.from.local ≡ Want (Op.Notify q) → IsWaitingFor r (waiting_in ((c k).threads u) (w (Area.Wait u))) ⊎ ⊥
        still q wants = elim (waits_was r u waits) [
          | inl were ↦ inl were
          | inr gave ↦ absurd (subst IsNotify (sym wants ∙ gave.1.wants) tt)
        ]

        fixed : (q n : ℕ) → code.next at.from.local ≡ Want (Op.Notify q) → step ≡ LoadWait n → at.from.attempt ≡ Fixed (LoadWait n)
        fixed q n wants loads =
            let made : move_of code at.from (Want (Op.Notify q)) at.from.attempt ≡ Make (LoadWait n) = ap (λ next. move_of code at.from next at.from.attempt) (sym wants) ∙ makes ∙ ap Make loads in
            looks_at code at.from q at.from.attempt n (undoes_none code at.from (Want (Op.Notify q)) (LoadWait n) at.from.attempt made tt) made

        -- the thread that it has just looked at doesn't wait
        not_passed : (q n x : ℕ) → code.next at.from.local ≡ Want (Op.Notify q) → step ≡ LoadWait n → a ≡ Found x → is_waiting_for q x ≡ false → y.local ≡ at.from.local → u ≡ n
            → IsWaitingFor r (waiting_in ((c k).threads u) (w (Area.Wait u))) → ⊥
        not_passed q n x wants loads found none local here were = by_thread ((c k).threads u) refl were
          where
            same : q ≡ r
            same = ap wanted_object (sym wants ∙ wanted local)

            seen : x ≡ w (Area.Wait u)
            seen = found_is x (w (Area.Wait n)) (sym found ∙ at.answered ∙ ap (answer_of w) loads) ∙ ap (λ m. w (Area.Wait m)) (sym here)

            by_thread : (o : Option (ThreadState S)) → (c k).threads u ≡ o → IsWaitingFor r (waiting_in o (w (Area.Wait u))) → ⊥
            by_thread None there waits = waits
            by_thread (Some uh) there waits =
                let parts = waits_parts r uh (w (Area.Wait u)) waits in
                let state = (waiter r u uh there parts).1 in
                true≢false (sym (waiting_for r (w (Area.Wait u)) parts.object state) ∙ ap (λ m. is_waiting_for m (w (Area.Wait u))) (sym same) ∙ ap (is_waiting_for q) (sym seen) ∙ none)

    passed_then : (v u r : ℕ) (vh : ThreadState S) → behind.threads v ≡ Some vh → Passes v u r vh
    passed_then v u r vh there = by_came (came v vh there)
      where
        by_came : CameTo v vh → Passes v u r vh
        by_came (stays_there other there) = other_passes v u r vh other there
        by_came (moves_on own same) = subst (Passes v u r) (sym same) (own_passes u r)
        by_came (begins_now n q p is own same) = subst (Passes v u r) (sym same) (λ wants below. absurd (no u below))
          where
            no : (u : ℕ) → u < 0 → ⊥
            no u below = omega (arith, below)

    pub step_known : WaitsAreKnown code (c (suc k))
    step_known = subst (WaitsAreKnown code) (sym at.leads) (record {
      unused = steps.unused_then code b first classes c acts run low k within before t step a here at;
      from_one = steps.from_one_then code b first classes c acts run low k within before t step a here at;
      says = steps.says_then code b first classes c acts run low k within before t step a here at;
      passed = passed_then;
    })
