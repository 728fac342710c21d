-- What a turn in memory shows is what the definitions say of its move.
use Rattle.std.proofs.Common.{◌≡◌, ℕ, Option, None, Some, List, inl, inr, sym, ◌∙◌, ap, subst}
use Rattle.std.specs.Option.{option_map}
use Rattle.op_core.specs.declared.Next.{Next}
use Rattle.op_core.specs.declared.Next.TheVariants.{Silent, Want, Ended}
use Rattle.op_core.specs.ThreadCode.{Code}
use Rattle.step_port.specs.declared.step.Step.{Step}
use Rattle.step_port.specs.Words.{Words, answer_of}
use Rattle.thread_automaton.specs.declared.Bounds.{Bounds}
use Rattle.thread_automaton.specs.declared.Move.{Move}
use Rattle.thread_automaton.specs.declared.Move.TheVariants.{Over, Quiet, Stop, Make}
use Rattle.thread_automaton.specs.ThreadState.{ThreadState}
use Rattle.thread_automaton.specs.NextMove.{next_move}
use Rattle.thread_automaton.specs.Told.{Told, probed, advanced, born, lost, blocked, told}
use Rattle.plain_words.specs.declared.plain.PlainWords.{PlainWords}
use Rattle.plain_words.specs.Table.{words_in, Stepped, Handed}
use Rattle.thread_moves.specs.declared.thread.JThread.{JThread}
use Rattle.rollback_core.specs.declared.turned.Turn.{Turn}
use Rattle.thread_moves.specs.Thread.{thread_of}
use Rattle.rollback_core.specs.Turn.{Says, SaysPlainly, TurnedQuiet, Turned, kind_made}
use Rattle.core_runs.specs.Cores.{Core}
use Rattle.word_machine.specs.declared.turning.Came.{Came}
use Rattle.word_machine.specs.declared.told_turn.ToldTurn.{ToldTurn}
use Rattle.word_machine.specs.Seats.{seat_in}
use Rattle.word_machine.specs.Machine.{IsCoreOf}
use Rattle.word_machine.specs.Turns.{TurnsAt}
use Rattle.word_machine.specs.ToldTurn.{event_said, event_seen, ShowsStep, ShowsNoStep, ShowsMove, ShowsTurn}
use Rattle.word_machine.proofs.SeatLemmas.{some_same}

-- ---- the event that a turn says is the one that others see

module _ {C Pass : Type 0} (t : ℕ) (turn : Turn C Pass) where
  said_as : (other : Turn C Pass) → turn ≡ other → event_said t turn ≡ event_said t other
  said_as other is = ap (event_said t) is

  plain_event : (number silents : ℕ) (next : Next) (tells : Told) → SaysPlainly number silents next turn tells → event_said t turn ≡ event_seen t silents tells next
  plain_event number silents next probed says = said_as _ says
  plain_event number silents (Want op) (advanced (Some reply)) says = said_as _ says
  plain_event number silents Silent (advanced (Some reply)) says = said_as _ says
  plain_event number silents Ended (advanced (Some reply)) says = said_as _ says
  plain_event number silents (Want op) (advanced None) says = said_as _ says
  plain_event number silents Silent (advanced None) says = said_as _ says
  plain_event number silents Ended (advanced None) says = said_as _ says
  plain_event number silents next (lost v) says = said_as _ says
  plain_event number silents next (blocked why) says = said_as _ says
  plain_event number silents next born says = absurd says

  pub says_event : {S : Type 0} (meant : JThread C → ThreadState S) (code : Code S) (b : Bounds) (th : ThreadState S) (step : Step) (handed : Pass → Type 0) (tells : Told)
      → Says meant code b th step handed turn tells → event_said t turn ≡ event_seen t th.silents tells (code.next th.local)
  says_event meant code b th step handed born says = said_as _ says.says
  says_event meant code b th step handed probed says = plain_event th.number th.silents (code.next th.local) probed says
  says_event meant code b th step handed (advanced reply) says = plain_event th.number th.silents (code.next th.local) (advanced reply) says
  says_event meant code b th step handed (lost v) says = plain_event th.number th.silents (code.next th.local) (lost v) says
  says_event meant code b th step handed (blocked why) says = plain_event th.number th.silents (code.next th.local) (blocked why) says

-- ---- a turn shows its move

module _ {C S Pass : Type 0} (code : Code S) (state : C → S) (saved : C → List S) (b : Bounds) (words new : PlainWords) (w : Words) (is_words : w ≡ words_in words)
    (t : ℕ) (x y : JThread C) (turn : Turn C Pass) (kind : ℕ) (shown : ToldTurn) (is_kind : shown.kind ≡ kind) (is_event : shown.event ≡ event_said t turn)
    (before : shown.levels_before ≡ x.own.levels) (after : shown.levels_after ≡ y.own.levels) where
  abbrev meant : JThread C → ThreadState S
  meant = thread_of state saved

  stays_shown : kind ≡ 0 → event_said t turn ≡ None → y.own.levels ≡ x.own.levels → ShowsNoStep shown
  stays_shown none event same = record { kind = is_kind ∙ none; event = is_event ∙ event; levels = after ∙ same ∙ sym before }

  quiet_shown : kind ≡ 0 → TurnedQuiet code (meant x) (meant y) turn → ShowsNoStep shown
  quiet_shown none (inl made) = stays_shown none (said_as t turn _ made.says) (ap (λ (th : ThreadState S). th.levels) made.goes)
  quiet_shown none (inr (limit, same)) = stays_shown none (said_as t turn _ same.says) (ap (λ (th : ThreadState S). th.levels) same.thread)

  pub move_shown : (move : Move) → Turned meant code b (meant x) (meant y) (λ step a. Stepped words step a new) (λ step pass. Handed words step new) (new ≡ words) turn move → kind ≡ kind_made move
      → ShowsMove code b w t (meant x) shown move
  move_shown Over (still, same) is = stays_shown is (said_as t turn _ same.says) (ap (λ (th : ThreadState S). th.levels) same.thread)
  move_shown (Stop limit) (still, same) is = stays_shown is (said_as t turn _ same.says) (ap (λ (th : ThreadState S). th.levels) same.thread)
  move_shown Quiet (still, turned) is = quiet_shown is turned
  move_shown (Make step) made is =
      let answered : made.answer ≡ answer_of w step = made.made.words.answers ∙ ap (λ z. answer_of z step) (sym is_words) in
      subst (ShowsStep code b t (meant x) shown step) answered (record {
        kind = is_kind ∙ is;
        event = is_event ∙ says_event t turn meant code b (meant x) step _ (told code b (meant x) step made.answer) made.says;
        before = before;
        after = after ∙ ap (λ (th : ThreadState S). th.levels) made.goes;
      })

module _ {C S : Type 0} (code : Code S) (state : C → S) (saved : C → List S) (b : Bounds) (words new : PlainWords) (places mid : List (Option (JThread C))) (t : ℕ) (came : Came C) (shown : ToldTurn)
    (bound : (x : JThread C) → seat_in places t ≡ Some x → x.own.bounds ≡ b)
    (before : (x : JThread C) → seat_in places t ≡ Some x → shown.levels_before ≡ x.own.levels)
    (after : (x : JThread C) → seat_in mid t ≡ Some x → shown.levels_after ≡ x.own.levels)
    (is_kind : shown.kind ≡ came.kind) (is_event : shown.event ≡ event_said t came.turn) where
  -- so it does from each core that is in memory
  pub turn_shown : (old : Option (JThread C)) → seat_in places t ≡ old → TurnsAt code (thread_of state saved) words old (Some came) new (seat_in mid t)
      → (core : Core S) → IsCoreOf (thread_of state saved) words places core → ShowsTurn code b core t shown
  turn_shown None here (none, still, same) core is_core = absurd (cc)
  turn_shown (Some x) here (made, y, is, at, turned) core is_core = record {
    thread = thread_of state saved x;
    there = ap (λ f. f t) is_core.threads ∙ ap (option_map (thread_of state saved)) here;
    shows = move_shown code state saved b words new core.words is_core.words t x y made.turn made.kind shown (is_kind ∙ ap (λ (m : Came C). m.kind) same) (is_event ∙ ap (λ (m : Came C). event_said t m.turn) same)
        (before x here) (after y at) (next_move code b (thread_of state saved x))
        (subst (λ c. Turned (thread_of state saved) code c (thread_of state saved x) (thread_of state saved y) (λ step a. Stepped words step a new) (λ step pass. Handed words step new) (new ≡ words) made.turn (next_move code c (thread_of state saved x)))
        (bound x here) turned.turned)
        (turned.is_kind ∙ ap (λ c. kind_made (next_move code c (thread_of state saved x))) (bound x here));
  }
    where
      same : came ≡ made
      same = some_same came made is
