-- Counted turns: how they grow with the steps of a thread.
use Rattle.std.proofs.Common.{◌≡◌, ℕ, suc, ◌+◌, ◌-◌, ◌^◌, ◌<◌, ◌≤◌, false, None, Some, [], refl, sym, subst, arith}
use Rattle.std.specs.Prelude.{nat_lt, nat_le}
use Rattle.std.proofs.lemmas.Grind.{common_steps}
use Rattle.std.proofs.lemmas.Bool.Decides.{nat_tests}
use Rattle.op_core.specs.declared.Limit.TheVariants.{Heap}
use Rattle.op_core.specs.declared.Op.TheVariants.{Print, Start}
use Rattle.op_core.specs.declared.Next.{Next}
use Rattle.op_core.specs.declared.Next.TheVariants.{Want}
use Rattle.op_core.specs.declared.Reply.{Reply}
use Rattle.op_core.specs.ThreadCode.{Code}
use Rattle.step_port.specs.declared.answer.StepAnswer.{StepAnswer}
use Rattle.step_port.specs.declared.answer.StepAnswer.TheVariants.{Found, Lost}
use Rattle.step_port.specs.declared.step.Step.{Step}
use Rattle.step_port.specs.declared.step.Step.TheVariants.{DrawSection, Ticket, DrawThread}
use Rattle.step_port.specs.Steps.{effect_of}
use Rattle.step_port.specs.Words.{CanAnswer}
use Rattle.thread_automaton.specs.declared.Bounds.{Bounds}
use Rattle.thread_automaton.specs.declared.Attempt.{Attempt}
use Rattle.thread_automaton.specs.declared.Attempt.TheVariants.{Begin, Full}
use Rattle.thread_automaton.specs.declared.Move.{Move}
use Rattle.thread_automaton.specs.ThreadState.{ThreadState, is_open}
use Rattle.thread_automaton.specs.NextMove.{move_of, next_move}
use Rattle.thread_automaton.specs.Changes.{Change, sees_pinned, opens_level, closes_to, closes, goes_back, answered, forgotten, with_level, with_levels, without_level, stood_at, section_at, changed}
use Rattle.thread_automaton.specs.Answers.{ticket_drawn, thread_drawn, change_of}
use Rattle.thread_automaton.specs.Told.{Told, advanced, born, shown, told_of, told, counted_for, after_answer}
use Rattle.automaton_rows.proofs.RowLemmas.{by_if}
use Rattle.thread_moves.specs.Thread.{GoesOn}
use Rattle.ready_runs.proofs.MoveLemmas.{is_going}

-- ---- what a change leaves of the count

abbrev counted_of : {S : Type 0} → ThreadState S → ℕ
counted_of th = th.counted

forgotten_counts : {S : Type 0} (y : ThreadState S) → counted_of (forgotten y) ≡ counted_of y
forgotten_counts y = by_if (λ z. counted_of z ≡ counted_of y) (is_open y) y (record y { log = []; saved = []; marks = [] }) (λ yes. refl) (λ no. refl)

changed_counts : {S : Type 0} (code : Code S) (th : ThreadState S) (change : Change) → counted_of (changed code th change) ≡ counted_of th
changed_counts code th (sees_pinned depth g) = forgotten_counts (record th { pinned = depth; attempt = g })
changed_counts code th (opens_level g) = forgotten_counts (with_level (record th { attempt = g }))
changed_counts code th (closes_to n g) = forgotten_counts (with_levels (record th { attempt = g }) n)
changed_counts code th closes = forgotten_counts (with_levels (record (answered code th Reply.Done) { held = []; section = 0 }) 0)
changed_counts code th (goes_back n) = forgotten_counts (without_level (record (stood_at th n) { section = section_at (n - 1) th.section; attempt = Begin }) n)
changed_counts code th change = refl

-- ---- what is told

abbrev Counts : Told → Type 0
Counts (advanced reply) = Unit {0}
Counts other = ⊥

told_up : {S : Type 0} (told : Told) (y : ThreadState S) → counted_of y ≤ counted_of (counted_for told y)
told_up (advanced None) y = omega arith
told_up (advanced (Some reply)) y = omega arith
told_up born y = omega arith
told_up other y = omega arith

told_most : {S : Type 0} (told : Told) (y : ThreadState S) → counted_of (counted_for told y) ≤ suc (counted_of y)
told_most (advanced None) y = omega arith
told_most (advanced (Some reply)) y = omega arith
told_most born y = omega arith
told_most other y = omega arith

told_more : {S : Type 0} (told : Told) (y : ThreadState S) → Counts told → counted_of (counted_for told y) ≡ suc (counted_of y)
told_more (advanced None) y counts = refl
told_more (advanced (Some reply)) y counts = refl
told_more other y counts = absurd counts

-- a number that is drawn
abbrev pub draws : Step → ℕ
draws DrawSection = 1
draws Ticket = 1
draws DrawThread = 1
draws step = 0

ticket_counts : (next : Next) (n : ℕ) → Counts (told_of next Ticket (Found n) (ticket_drawn next n) (shown (ticket_drawn next n)))
ticket_counts (Want (Print x)) n = tt
ticket_counts next n = tt

thread_counts : (next : Next) (n : ℕ) → Counts (told_of next DrawThread (Found n) (thread_drawn next n) (shown (thread_drawn next n)))
thread_counts (Want (Start r p)) n = by_if (λ change. Counts (told_of (Want (Start r p)) DrawThread (Found n) change (shown change))) (nat_lt n 255) _ _ (λ yes. tt) (λ no. tt)
thread_counts next n = tt

-- how many words at most a thread has taken that met the limit of the heap
abbrev pub overdrawn : Attempt → ℕ
overdrawn (Full Heap) = 2 ^ 41
overdrawn attempt = 0

module _ {S : Type 0} (code : Code S) (b : Bounds) (th : ThreadState S) where
  section_counts : (n : ℕ) → Counts (told code b th DrawSection (Found n))
  section_counts n = by_if (λ change. Counts (told_of (code.next th.local) DrawSection (Found n) change (shown change))) (nat_lt n b.limits.sections) _ _ (λ yes. tt) (λ no. tt)

  counts_more : (step : Step) (a : StepAnswer) → Counts (told code b th step a) → th.counted + 1 ≤ (after_answer code b th step a).counted
  counts_more step a counts =
      let change = change_of code b th (code.next th.local) step a in
      let more = told_more (told code b th step a) (changed code th change) counts in
      let same = changed_counts code th change in
      omega (arith, more, same)

  counts_up : (step : Step) (a : StepAnswer) → th.counted + 0 ≤ (after_answer code b th step a).counted
  counts_up step a =
      let change = change_of code b th (code.next th.local) step a in
      let more = told_up (told code b th step a) (changed code th change) in
      let same = changed_counts code th change in
      omega (arith, more, same)

  -- each number that is drawn is a counted turn
  pub draws_count : (step : Step) (a : StepAnswer) → CanAnswer (effect_of step) a → th.counted + draws step ≤ (after_answer code b th step a).counted
  draws_count DrawSection (Found n) can = counts_more DrawSection (Found n) (section_counts n)
  draws_count DrawSection StepAnswer.Done can = absurd can
  draws_count DrawSection (Lost n) can = absurd can
  draws_count Ticket (Found n) can = counts_more Ticket (Found n) (ticket_counts (code.next th.local) n)
  draws_count Ticket StepAnswer.Done can = absurd can
  draws_count Ticket (Lost n) can = absurd can
  draws_count DrawThread (Found n) can = counts_more DrawThread (Found n) (thread_counts (code.next th.local) n)
  draws_count DrawThread StepAnswer.Done can = absurd can
  draws_count DrawThread (Lost n) can = absurd can
  draws_count step a can = counts_up step a

  -- and a step is one counted turn at most
  pub counts_most : (step : Step) (a : StepAnswer) → (after_answer code b th step a).counted ≤ suc th.counted
  counts_most step a =
      let change = change_of code b th (code.next th.local) step a in
      let most = told_most (told code b th step a) (changed code th change) in
      let same = changed_counts code th change in
      omega (arith, most, same)

  -- ---- a thread that goes on has turns left, and hasn't met the limit of the heap

  has_turns : (turns counted : ℕ) → nat_le turns counted ≡ false → counted < turns
  has_turns turns counted is = grind (arith, common_steps, nat_tests)

  pub turns_left : (move : Move) → next_move code b th ≡ move → GoesOn move → th.counted < b.limits.turns
  turns_left move is goes = has_turns b.limits.turns th.counted (is_going th.over (nat_le b.limits.turns th.counted) _ (subst GoesOn (sym is) goes)).1

  full_stops : (next : Next) (g : Attempt) → GoesOn (move_of code th next g) → overdrawn g ≡ 0
  full_stops next (Full limit) goes = absurd goes
  full_stops next g goes = refl

  pub none_overdrawn : (move : Move) → next_move code b th ≡ move → GoesOn move → overdrawn th.attempt ≡ 0
  none_overdrawn move is goes = full_stops (code.next th.local) th.attempt (is_going th.over (nat_le b.limits.turns th.counted) _ (subst GoesOn (sym is) goes)).2
