-- What a thread knows of the writer of a word, kept along a run.
use Rattle.std.proofs.Common.{◌≡◌, inl, inr, ℕ, suc, ◌-◌, ◌<◌, ◌≤◌, None, Some, List, [], length, refl, sym, ◌∙◌, ap, subst, arith}
use Rattle.std.specs.Prelude.{slice_get}
use Rattle.std.proofs.lemmas.Option.{slice_get_within}
use Rattle.op_core.specs.declared.Next.{Next}
use Rattle.op_core.specs.declared.Reply.{Reply}
use Rattle.op_core.specs.ThreadCode.{Code}
use Rattle.op_core.specs.OrdinaryState.{set_at}
use Rattle.heap_words.specs.declared.areas.Area.{Area}
use Rattle.heap_words.specs.declared.areas.Area.TheVariants.{Section}
use Rattle.section_state.specs.declared.State.TheVariants.{Committed}
use Rattle.section_state.specs.SectionWord.{state_of, pinned_of, revoke_of}
use Rattle.step_port.specs.declared.answer.StepAnswer.{StepAnswer}
use Rattle.step_port.specs.declared.answer.StepAnswer.TheVariants.{Found}
use Rattle.step_port.specs.declared.step.Step.{Step}
use Rattle.step_port.specs.declared.step.Step.TheVariants.{LoadSection, Pin, Release, Split}
use Rattle.step_port.specs.Steps.{place_of, effect_of}
use Rattle.step_port.specs.Words.{Words, CanAnswer, answer_of}
use Rattle.thread_automaton.specs.declared.Bounds.{Bounds}
use Rattle.thread_automaton.specs.declared.Attempt.TheVariants.{Begin, Look, Checked, Fixed}
use Rattle.thread_automaton.specs.ThreadState.{ThreadState, first_state, is_open, is_own_section}
use Rattle.thread_automaton.specs.Changes.{Change, goes, answered, forgotten, with_level, with_levels, without_level, stood_at, section_at, changed}
use Rattle.thread_automaton.specs.Checks.{behind_pin}
use Rattle.thread_automaton.specs.Monitors.{take_for}
use Rattle.thread_automaton.specs.Answers.{lost_on, change_of}
use Rattle.thread_automaton.specs.Told.{Told, advanced, born, told, counted_for, after_answer, after_quiet}
use Rattle.automaton_rows.specs.Rows.{Row, is_lost, own_stands, pins, is_undone, tag_committed, tag_pinned, pins_writer, level_opened, levels_closed, section_left}
use Rattle.automaton_rows.proofs.RowLemmas.{answers_are_rows, words_can_answer, by_if}
use Rattle.core_runs.specs.Cores.{Core, threads_by}
use Rattle.core_runs.specs.Acts.{Act, quiet, did, beside, DidAt, ActAt}
use Rattle.section_laws.specs.Runs.{IsRun}
use Rattle.section_laws.proofs.WordLemmas.{state_is, state_of_zero}
use Rattle.section_laws.proofs.ClaimLemmas.{found_is}
use Rattle.section_laws.proofs.FactLemmas.{each}
use Rattle.section_laws.proofs.RunLemmas.{along, Known, facts_at}
use Rattle.section_laws.specs.OwnWords.{IsInBits}
use Rattle.section_laws.specs.Moves.{Move}
use Rattle.section_laws.proofs.own_sections.MoveLemmas.{moves_at}
use Rattle.section_laws.proofs.own_sections.PinLemmas.{pins_rise, stays_pinned}
use Rattle.section_laws.specs.Known.{IsCommittedOrPinned, KnownSectionsArePinned}

-- ---- words

not_five : {A : Type 0} (n m : ℕ) → n ≡ 5 → n ≡ m → m < 5 → A
not_five n m five is low = absurd (no n m five is low)
  where
    no : (n m : ℕ) → n ≡ 5 → n ≡ m → m < 5 → ⊥
    no n m five is low = omega (arith, five, is, low)

-- a committed section stays committed
committed_stays : (old new : ℕ) → Move old new → state_of old ≡ 5 → state_of new ≡ 5
committed_stays old new (Move.stays is) five = ap state_of is ∙ five
committed_stays old new (Move.opens number priority number_low priority_low none is) five = not_five (state_of old) 0 five (ap state_of none ∙ state_of_zero) (omega arith)
committed_stays old new (Move.pins n live deeper low is) five = not_five (state_of old) 1 five live (omega arith)
committed_stays old new (Move.revokes n live free there is) five = not_five (state_of old) 1 five live (omega arith)
committed_stays old new (Move.opens_level live room is) five = not_five (state_of old) 1 five live (omega arith)
committed_stays old new (Move.closes_to n live some low is) five = not_five (state_of old) 1 five live (omega arith)
committed_stays old new (Move.commits live is) five = not_five (state_of old) 1 five live (omega arith)
committed_stays old new (Move.undoes turned some is) five = not_five (state_of old) 3 five turned (omega arith)

pub move_keeps : (old new depth : ℕ) → Move old new → IsCommittedOrPinned old depth → IsCommittedOrPinned new depth
move_keeps old new depth move is = elim is [ inl five ↦ inl (committed_stays old new move five) | inr low ↦ inr (up depth (pinned_of old) (pinned_of new) low (pins_rise old new move)) ]
  where
    up : (m n p : ℕ) → m ≤ n → n ≤ p → m ≤ p
    up m n p low high = omega (arith, low, high)

-- ---- rows

-- what a thread knows stays, or it has just seen a section committed or pinned so deep, or has pinned it
data Learns (known depth : ℕ) (step : Step) (a : StepAnswer) (after after_depth : ℕ) : Type 0 where
  same : after ≡ known → after_depth ≡ depth → Learns known depth step a after after_depth
  sees : (s w : ℕ) → step ≡ LoadSection s → a ≡ Found w → IsCommittedOrPinned w after_depth → after ≡ s → Learns known depth step a after after_depth
  pins_it : (s w n : ℕ) → step ≡ Pin s w n → a ≡ StepAnswer.Done → after ≡ s → after_depth ≡ n → Learns known depth step a after after_depth

module _ {S : Type 0} (code : Code S) (b : Bounds) (th : ThreadState S) where
  abbrev Goes : Step → StepAnswer → ThreadState S → Type 0
  Goes step a y = Learns th.known th.known_depth step a y.known y.known_depth

  forgets : {step : Step} {a : StepAnswer} (y : ThreadState S) → Goes step a y → Goes step a (forgotten y)
  forgets {step} {a} y go = by_if (λ z. Goes step a z) (is_open y) y (record y { log = []; saved = []; marks = [] }) (λ yes. go) (λ no. go)

  learns : {next : Next} {step : Step} {a : StepAnswer} {change : Change} → Row code b th next step a change → Goes step a (changed code th change)
  learns (is_lost {step = step} {v = v}) = by_area (place_of step)
    where
      by_area : (area : Area) → Goes step (StepAnswer.Lost v) (changed code th (lost_on th area))
      by_area (Section s) = by_if (λ change. Goes step (StepAnswer.Lost v) (changed code th change)) (is_own_section th s) (goes Look) (goes Begin) (λ yes. same refl refl) (λ no. same refl refl)
      by_area area = same refl refl
  learns (own_stands {w = w} at looks live) = forgets (record th { pinned = pinned_of w; attempt = Checked }) (same refl refl)
  learns (pins {next = next} unpinned lasts) = forgets (record th { pinned = th.levels; attempt = behind_pin th next }) (same refl refl)
  learns (is_undone {w = w} at undo does) = forgets
      (without_level (record (stood_at th (revoke_of w)) { section = section_at (revoke_of w - 1) th.section; attempt = Begin }) (revoke_of w)) (same refl refl)
  learns (tag_committed {s = s} {w = w} at accesses unsafe committed) = sees s w refl refl (inl (state_is Committed w committed)) refl
  learns (tag_pinned {s = s} {w = w} at accesses unsafe live deep) = sees s w refl refl (inr (whole (pinned_of w))) refl
    where
      whole : (n : ℕ) → n ≤ n
      whole n = omega arith
  learns (pins_writer {s = s} {level = level} {w = w} accesses unsafe live shallow) = pins_it s w level refl refl refl refl
  learns (level_opened {next = next} enters some needs room) = forgets (with_level (record th { attempt = Fixed (take_for th next th.section (suc th.levels)) })) (same refl refl)
  learns (levels_closed {r = r} {depth = depth} closes) = forgets (with_levels (record th { attempt = Fixed (Release r) }) depth) (same refl refl)
  learns (section_left at none) = forgets (with_levels (record (answered code th Reply.Done) { held = []; section = 0 }) 0) (same refl refl)
  learns row = same refl refl

  counted_learns : {step : Step} {a : StepAnswer} (told : Told) (y : ThreadState S) → Goes step a y → Goes step a (counted_for told y)
  counted_learns (advanced None) y go = go
  counted_learns (advanced (Some reply)) y go = go
  counted_learns born y go = go
  counted_learns other y go = go

-- ---- along a run

module _ {S : Type 0} (code : Code S) (b : Bounds) (c : ℕ → Core S) (acts : List Act) (run : IsRun code b c acts) (in_bits : IsInBits c acts) where
  abbrev Knows : ThreadState S → Words → Type 0
  Knows th w = IsCommittedOrPinned (w (Section th.known)) th.known_depth

  abbrev KnownAt : ℕ → Type 0
  KnownAt k = (t : ℕ) (th : ThreadState S) → (c k).threads t ≡ Some th → Knows th (c k).words

  module _ (k : ℕ) (within : k < length acts) where
    -- a thread that learns nothing
    on : (s depth : ℕ) → IsCommittedOrPinned ((c k).words (Section s)) depth → IsCommittedOrPinned ((c (suc k)).words (Section s)) depth
    on s depth is = move_keeps ((c k).words (Section s)) ((c (suc k)).words (Section s)) depth (moves_at code b c acts run in_bits k s within) is

    nothing : (number priority : ℕ) (l : S) → Knows (first_state number priority l) (c (suc k)).words
    nothing number priority l = inr (low (pinned_of ((c (suc k)).words (Section 0))))
      where
        low : (n : ℕ) → 0 ≤ n
        low n = omega arith

    did_known : (t : ℕ) (step : Step) (a : StepAnswer) → slice_get acts k ≡ Some (did t step a) → DidAt code b c k t step a → KnownAt k → KnownAt (suc k)
    did_known t step a here at before u uh there = handed step u uh (ap (λ (core : Core S). core.threads u) (sym at.leads) ∙ there)
      where
        low : k ≤ length acts
        low = omega (arith, within)

        known : Known code (c k)
        known = facts_at code b c acts run k low

        go : Learns at.from.known at.from.known_depth step a (after_answer code b at.from step a).known (after_answer code b at.from step a).known_depth
        go = counted_learns code b at.from (told code b at.from step a) (changed code at.from (change_of code b at.from (code.next at.from.local) step a))
            (learns code b at.from (answers_are_rows code b at.from step a (known.fit t at.from at.stands).attempt at.move
            (subst (CanAnswer (effect_of step)) (sym at.answered) (words_can_answer (c k).words step))))

        by_learning : (s depth : ℕ) → Learns at.from.known at.from.known_depth step a s depth → IsCommittedOrPinned ((c (suc k)).words (Section s)) depth
        by_learning s depth (same is also) =
            subst (λ n. IsCommittedOrPinned ((c (suc k)).words (Section n)) depth) (sym is) (subst (IsCommittedOrPinned ((c (suc k)).words (Section at.from.known))) (sym also)
            (on at.from.known at.from.known_depth (before t at.from at.stands)))
        by_learning s depth (sees r w is found so also) =
            let answer : Found w ≡ Found ((c k).words (Section r)) = sym found ∙ at.answered ∙ ap (answer_of (c k).words) is in
            on s depth (subst (λ n. IsCommittedOrPinned ((c k).words (Section n)) depth) (sym also) (subst (λ v. IsCommittedOrPinned v depth) (found_is w ((c k).words (Section r)) answer) so))
        by_learning s depth (pins_it r w n is done also deep) =
            let pin = stays_pinned code b c acts run in_bits k t r w n (here ∙ ap (λ st. Some (did t st a)) is ∙ ap (λ an. Some (did t (Pin r w n) an)) done) in
            subst (λ m. IsCommittedOrPinned ((c (suc k)).words (Section m)) depth) (sym also) (subst (IsCommittedOrPinned ((c (suc k)).words (Section r))) (sym deep)
            (inr (pin.stays (suc k) (omega arith) (omega (arith, within)))))

        there_known : (v : ℕ) (vh : ThreadState S) → set_at (c k).threads t (Some (after_answer code b at.from step a)) v ≡ Some vh → Knows vh (c (suc k)).words
        there_known v vh at_v = each (λ z. Knows z (c (suc k)).words) (c k).threads t (after_answer code b at.from step a) v
            (λ own. by_learning (after_answer code b at.from step a).known (after_answer code b at.from step a).known_depth go)
            (λ xh differs at_x. on xh.known xh.known_depth (before v xh at_x)) vh at_v

        handed : (made : Step) (v : ℕ) (vh : ThreadState S) → threads_by code made at.from.local (set_at (c k).threads t (Some (after_answer code b at.from step a))) v ≡ Some vh → Knows vh (c (suc k)).words
        handed (Split n r p) v vh at_v = each (λ z. Knows z (c (suc k)).words) (set_at (c k).threads t (Some (after_answer code b at.from step a))) n (first_state n p (code.child at.from.local r)) v
            (λ same_number. nothing n p (code.child at.from.local r)) (λ xh differs at_x. there_known v xh at_x) vh at_v
        handed made v vh at_v = there_known v vh at_v

    act_known : (act : Act) → slice_get acts k ≡ Some act → ActAt code b c k act → KnownAt k → KnownAt (suc k)
    act_known (quiet t) here at before u uh there =
        each (λ z. Knows z (c (suc k)).words) (c k).threads t (after_quiet at.from at.local) u
        (λ own. on at.from.known at.from.known_depth (before t at.from at.stands)) (λ xh differs at_x. on xh.known xh.known_depth (before u xh at_x)) uh
        (ap (λ (core : Core S). core.threads u) (sym at.leads) ∙ there)
    act_known (did t step a) here at before u uh there = did_known t step a here at before u uh there
    act_known (beside t step a) here at before u uh there = on uh.known uh.known_depth (before u uh (ap (λ (core : Core S). core.threads u) (sym at.leads) ∙ there))

  first_known : KnownAt 0
  first_known t th at = let begins = run.begins.threads t th at in subst (λ z. Knows z (c 0).words) (sym begins.3) (inr (low (pinned_of ((c 0).words (Section 0)))))
    where
      low : (n : ℕ) → 0 ≤ n
      low n = omega arith

  known_at : (k : ℕ) → k ≤ length acts → KnownAt k
  known_at k within = along code b c acts run.leads KnownAt first_known (λ n act here at before. act_known n (slice_get_within acts n act here) act here at before) k within

pub known_sections_are_pinned : {S : Type 0} (code : Code S) → KnownSectionsArePinned code
known_sections_are_pinned code b c acts run in_bits k t th within at = known_at code b c acts run in_bits k within t th at
