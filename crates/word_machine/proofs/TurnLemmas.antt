-- A turn in memory is one of the definitions.
use Rattle.std.proofs.Common.{◌≡◌, ℕ, Option, None, Some, List, inl, inr, refl, sym, ◌∙◌, ap, subst}
use Rattle.std.specs.Prelude.{Result, Ok, Err, IfOk, OnErr}
use Rattle.std.specs.Option.{option_map}
use Rattle.op_core.specs.declared.NoMemory.{NoMemory}
use Rattle.op_core.specs.declared.Limit.TheVariants.{Frames}
use Rattle.op_core.specs.declared.Next.{Next}
use Rattle.op_core.specs.declared.Next.TheVariants.{Want}
use Rattle.op_core.specs.ThreadCode.{Code}
use Rattle.op_core.specs.OrdinaryState.{set_at}
use Rattle.schedules.specs.declared.order.TurnEnd.{TurnEnd}
use Rattle.schedules.specs.declared.order.TurnEnd.TheVariants as ends
use Rattle.step_port.specs.declared.answer.StepAnswer.{StepAnswer}
use Rattle.step_port.specs.declared.answer.StepAnswer.TheVariants.{Found, Done, Lost}
use Rattle.step_port.specs.declared.step.Step.{Step}
use Rattle.step_port.specs.declared.step.Step.TheVariants.{Split}
use Rattle.step_port.specs.Steps.{effect_of, kind_of}
use Rattle.step_port.specs.Words.{CanAnswer, answer_of, words_after}
use Rattle.thread_automaton.specs.declared.Bounds.{Bounds}
use Rattle.thread_automaton.specs.declared.Move.{Move}
use Rattle.thread_automaton.specs.declared.Move.TheVariants.{Over, Quiet, Stop, Make}
use Rattle.thread_automaton.specs.ThreadState.{ThreadState}
use Rattle.thread_automaton.specs.NextMove.{next_move}
use Rattle.thread_automaton.specs.Told.{Told, probed, advanced, born, lost, blocked, told, after_answer, after_quiet}
use Rattle.core_runs.specs.Cores.{threads_by}
use Rattle.plain_words.specs.declared.plain.PlainWords.{PlainWords}
use Rattle.plain_words.specs.Table.{words_in, Stepped, Handed}
use Rattle.thread_moves.specs.declared.thread.JThread.{JThread}
use Rattle.rollback_core.specs.declared.turned.Turn.{Turn}
use Rattle.thread_moves.specs.Thread.{thread_of}
use Rattle.rollback_core.specs.Turn.{IsChild, Says, SaysPlainly, MadeStep, TurnedQuiet, Turned, kind_made}
use Rattle.word_runs.specs.WordTurns as runs
use Rattle.word_runs.specs.WordTurns.{Progress, GivesQuiet, GivesBy, after_step, after_silent, word_turns}
use Rattle.word_machine.specs.declared.turning.Came.{Came}
use Rattle.word_machine.specs.Seats.{seat_in}
use Rattle.word_machine.specs.Machine.{threads_in, IsCoreOf}
use Rattle.word_machine.specs.Turns.{end_of, TurnMade, TurnsAt, KeepsBounds, HandsOutWithin, GivesTurn, seats_after}
use Rattle.word_machine.specs.declared.turning.Came.{Came}
use Rattle.word_machine.proofs.SeatLemmas.{mapped_set, mapped_same, some_same}
use Rattle.word_machine.proofs.EndLemmas.{ComesTo, plain_end}

module _ {C S Pass : Type 0} (code : Code S) (state : C → S) (saved : C → List S) (b : Bounds) (words new : PlainWords) (places placed : List (Option (JThread C)))
    (t : ℕ) (x y : JThread C) (turn : Turn C Pass) (kind : ℕ) (here : seat_in places t ≡ Some x) (r : Progress S) (is_core : IsCoreOf (thread_of state saved) words places r.core) where
  abbrev meant : JThread C → ThreadState S
  meant = thread_of state saved

  abbrev th : ThreadState S
  th = meant x

  -- the threads, and the one that moved as it is then
  abbrev moved : ℕ → Option (JThread C)
  moved = set_at (seat_in places) t (Some y)

  meant_same : (f g : ℕ → Option (JThread C)) → f ≡ g → ◌≡◌ {A = ℕ → Option (ThreadState S)} (λ k. option_map meant (f k)) (λ k. option_map meant (g k))
  meant_same f g same = ap {B = ℕ → Option (ThreadState S)} (λ h k. option_map meant (h k)) same

  -- what is to be shown of a move, where the threads in memory are then those of `moved` and what was handed out
  abbrev Given : Move → Type 0
  Given move = (next : Progress S) × GivesBy code b r t th move (end_of turn kind) next × IsCoreOf meant new placed next.core

  stands : r.core.threads t ≡ Some th
  stands = ap (λ f. f t) is_core.threads ∙ ap (option_map meant) here

  -- the thread stays, and so do the words
  stays : (end : TurnEnd) → ComesTo turn kind end → meant y ≡ th → new ≡ words → seat_in placed ≡ seats_after turn moved → IsCoreOf meant new placed r.core
  stays end comes same still after = record {
    words = is_core.words ∙ ap words_in (sym still);
    threads = is_core.threads ∙ sym (meant_same _ _ (after ∙ comes.seats moved) ∙ mapped_same meant (seat_in places) t x y here same);
  }

  -- the threads in memory, as the definitions have them, are `moved`
  moved_are : (end : TurnEnd) → ComesTo turn kind end → seat_in placed ≡ seats_after turn moved → ◌≡◌ {A = ℕ → Option (ThreadState S)} (λ k. option_map meant (moved k)) (threads_in meant placed)
  moved_are end comes after = sym (meant_same _ _ (after ∙ comes.seats moved))

  -- and those of the core, once thread t is what y is
  set_are : (z : ThreadState S) → meant y ≡ z → ◌≡◌ {A = ℕ → Option (ThreadState S)} (set_at r.core.threads t (Some z)) (λ k. option_map meant (moved k))
  set_are z goes = ap (λ f. set_at f t (Some z)) is_core.threads ∙ ap (λ z. set_at (threads_in meant places) t (Some z)) (sym goes) ∙ sym (mapped_set meant (seat_in places) t y)

  as_said : (other : Turn C Pass) (end : TurnEnd) → turn ≡ other → ComesTo other kind end → ComesTo turn kind end
  as_said other end is comes = subst (λ said. ComesTo said kind end) (sym is) comes

  quiet_given : seat_in placed ≡ seats_after turn moved → new ≡ words → TurnedQuiet code th (meant y) turn → Given Quiet
  quiet_given after still (inl made) =
      let comes : ComesTo turn kind ends.Other = as_said Turn.Silent _ made.says (record { end = refl; seats = λ seats. refl }) in (
        after_silent r t th made.local,
        subst (λ (quiet : Option S). GivesQuiet r t th quiet (end_of turn kind) (after_silent r t th made.local)) (sym made.quiet) (comes.end, refl),
        record {
          words = is_core.words ∙ ap words_in (sym still);
          threads = set_are (after_quiet th made.local) made.goes ∙ moved_are _ comes after;
        },
      )
  quiet_given after still (inr (none, same)) =
      let comes : ComesTo turn kind (ends.Spent Frames) = as_said (Turn.Spent Frames) _ same.says (record { end = refl; seats = λ seats. refl }) in
      (r, subst (λ (quiet : Option S). GivesQuiet r t th quiet (end_of turn kind) r) (sym none) (comes.end, refl), stays _ comes same.thread still after)

  -- what a step that is made comes to, and which threads are there then
  record Shows (step : Step) (answer : StepAnswer) : Type 0 where
    end : end_of turn kind ≡ runs.end_of step (told code b th step answer)
    threads : threads_by code step th.local (λ k. option_map meant (moved k)) ≡ threads_in meant placed

  abbrev Handing : Step → Pass → Type 0
  Handing step pass = Handed words step new

  plainly : (step : Step) → ((child : ThreadState S) → IsChild code th step child → ⊥) → (tells : Told) → Says meant code b th step (Handing step) turn tells
      → SaysPlainly th.number th.silents (code.next th.local) turn tells
  plainly step none born says = absurd (none (meant says.child.value) says.first)
  plainly step none tells says = says

  plain_shows : (step : Step) (answer : StepAnswer) → ((child : ThreadState S) → IsChild code th step child → ⊥) → kind ≡ kind_of step
      → threads_by code step th.local (λ k. option_map meant (moved k)) ≡ (λ k. option_map meant (moved k))
      → Says meant code b th step (Handing step) turn (told code b th step answer) → seat_in placed ≡ seats_after turn moved → Shows step answer
  plain_shows step answer none is same says after =
      let comes : ComesTo turn kind (runs.end_of step (told code b th step answer)) =
      plain_end th.number th.silents (code.next th.local) turn step kind (told code b th step answer) (plainly step none (told code b th step answer) says) is in
      record { end = comes.end; threads = same ∙ moved_are _ comes after }

  step_shows : (step : Step) (answer : StepAnswer) → CanAnswer (effect_of step) answer → kind ≡ kind_of step
      → Says meant code b th step (Handing step) turn (told code b th step answer) → seat_in placed ≡ seats_after turn moved → Shows step answer
  step_shows (Split n o p) (Found w) can is says after = record {
    end = ap (λ said. end_of said kind) says.says ∙ ap ends.Made is;
    threads = ap {B = ℕ → Option (ThreadState S)} (λ z. set_at (λ k. option_map meant (moved k)) n (Some z)) (sym says.first) ∙ ap {B = ℕ → Option (ThreadState S)} (λ j. set_at (λ k. option_map meant (moved k)) j (Some (meant says.child.value))) (ap (λ (z : ThreadState S). z.number) (sym says.first))
        ∙ sym (mapped_set meant moved says.child.value.own.number says.child.value) ∙ sym (meant_same _ _ (after ∙ ap (λ said. seats_after said moved) says.says));
  }
  step_shows (Split n o p) Done can is says after = absurd can
  step_shows (Split n o p) (Lost v) can is says after = absurd can
  step_shows step answer can is says after = plain_shows step answer (λ child none. none) is refl says after

  made_given : (step : Step) → kind ≡ kind_of step → seat_in placed ≡ seats_after turn moved
      → MadeStep meant code b th (meant y) step (λ a. Stepped words step a new) (Handing step) turn → Given (Make step)
  made_given step is after made =
      let answered : made.answer ≡ answer_of r.core.words step = made.made.words.answers ∙ ap (λ w. answer_of w step) (sym is_core.words) in
      let shows : Shows step made.answer = step_shows step made.answer made.kind is made.says after in (
        after_step code b r t th step (answer_of r.core.words step),
        (shows.end ∙ ap (λ a. runs.end_of step (told code b th step a)) answered, refl),
        record {
          words = ap (words_after step) is_core.words ∙ sym made.made.words.leaves;
          threads = ap (threads_by code step th.local) (set_are (after_answer code b th step (answer_of r.core.words step)) (made.goes ∙ ap (after_answer code b th step) answered)) ∙ shows.threads;
        },
      )

  by_move : (move : Move) → Turned meant code b th (meant y) (λ step a. Stepped words step a new) Handing (new ≡ words) turn move → kind ≡ kind_made move
      → seat_in placed ≡ seats_after turn moved → Given move
  by_move Over (still, same) is after =
      let comes : ComesTo turn kind ends.Blocked = as_said _ _ same.says (record { end = refl; seats = λ seats. refl }) in
      (r, (comes.end, refl), stays _ comes same.thread still after)
  by_move (Stop limit) (still, same) is after =
      let comes : ComesTo turn kind (ends.Spent limit) = as_said _ _ same.says (record { end = refl; seats = λ seats. refl }) in
      (r, (comes.end, refl), stays _ comes same.thread still after)
  by_move Quiet (still, turned) is after = quiet_given after still turned
  by_move (Make step) made is after = made_given step is after made

  pub turn_given : x.own.bounds ≡ b → TurnMade code meant words x turn kind new y → seat_in placed ≡ seats_after turn moved
      → (next : Progress S) × (word_turns code b).gives r t (end_of turn kind) next × IsCoreOf meant new placed next.core
  turn_given bound made after =
      let at : (c : Bounds) → Type 0 = λ c. Turned meant code c th (meant y) (λ step a. Stepped words step a new) Handing (new ≡ words) turn (next_move code c th) in
      let given : Given (next_move code b th) = by_move (next_move code b th) (subst at bound made.turned) (made.is_kind ∙ ap (λ c. kind_made (next_move code c th)) bound) after in
      (given.0, (th, stands, given.1), given.2)

-- what a turn hands out has the bounds of the thread
module _ {C S Pass : Type 0} (code : Code S) (meant : JThread C → ThreadState S) (b : Bounds) (th behind : ThreadState S) (turn : Turn C Pass) where
  within : (other : Turn C Pass) → turn ≡ other → HandsOutWithin b other → HandsOutWithin b turn
  within other is has = subst (HandsOutWithin b) (sym is) has

  plain_within : (number silents : ℕ) (next : Next) (tells : Told) → SaysPlainly number silents next turn tells → HandsOutWithin b turn
  plain_within number silents next probed says = within _ says tt
  plain_within number silents (Want op) (advanced (Some reply)) says = within _ says tt
  plain_within number silents next (advanced reply) says = within _ says tt
  plain_within number silents next (lost v) says = within _ says tt
  plain_within number silents next (blocked why) says = within _ says tt
  plain_within number silents next born says = absurd says

  says_within : (step : Step) (handed : Pass → Type 0) (tells : Told) → Says meant code b th step handed turn tells → HandsOutWithin b turn
  says_within step handed born says = within _ says.says says.bounds
  says_within step handed tells says = plain_within th.number th.silents (code.next th.local) tells says

  pub turned_within : (stepped : Step → StepAnswer → Type 0) (handed : Step → Pass → Type 0) (still : Type 0) (move : Move) → Turned meant code b th behind stepped handed still turn move → HandsOutWithin b turn
  turned_within stepped handed still Over turned = within _ turned.1.says tt
  turned_within stepped handed still (Stop limit) turned = within _ turned.1.says tt
  turned_within stepped handed still Quiet (same, inl made) = within _ made.says tt
  turned_within stepped handed still Quiet (same, inr (none, stays)) = within _ stays.says tt
  turned_within stepped handed still (Make step) turned = says_within step (handed step) _ turned.says

pub none_stays : {C : Type 0} (old next : Option (JThread C)) → KeepsBounds old next → old ≡ None → next ≡ None
none_stays old None keeps is = refl
none_stays {C} old (Some y) keeps is = let kept : (x : JThread C) × (old ≡ Some x) × (y.own.bounds ≡ x.own.bounds) = keeps y refl in absurd (none_some old kept.0 is kept.1)
  where
    none_some : {C : Type 0} (o : Option (JThread C)) (x : JThread C) → o ≡ None → o ≡ Some x → ⊥
    none_some o x is other = cc

pub bound_stays : {C : Type 0} (b : Bounds) (old next : Option (JThread C)) → KeepsBounds old next → ((x : JThread C) → old ≡ Some x → x.own.bounds ≡ b) → (y : JThread C) → next ≡ Some y → y.own.bounds ≡ b
bound_stays {C} b old next keeps bound y is = let kept : (x : JThread C) × (old ≡ Some x) × (y.own.bounds ≡ x.own.bounds) = keeps y is in kept.2 ∙ bound kept.0 kept.1

-- the same of what was made at a place
module _ {C S : Type 0} (code : Code S) (state : C → S) (saved : C → List S) (b : Bounds) (words new : PlainWords) where
  abbrev meant_by : JThread C → ThreadState S
  meant_by = thread_of state saved

  made_keeps : (old next : Option (JThread C)) (came : Option (Came C)) → TurnsAt code meant_by words old came new next → KeepsBounds old next
  made_keeps None next came (none, still, same) = λ y is. absurd (cc)
  made_keeps (Some x) next came (made, z, is, at, turned) = λ y here. (x, refl, ap (λ (k : JThread C). k.own.bounds) (some_same y z (sym here ∙ at)) ∙ turned.bounds)

  pub keeps_bounds : (old next : Option (JThread C)) (result : Result (Option (Came C)) NoMemory) → IfOk result (λ came. TurnsAt code meant_by words old came new next) → OnErr result (KeepsBounds old next) → KeepsBounds old next
  keeps_bounds old next (Ok came) made err = made_keeps old next came made
  keeps_bounds old next (Err e) made err = err

  pub hands_within : (old next : Option (JThread C)) (came : Came C) → TurnsAt code meant_by words old (Some came) new next → ((x : JThread C) → old ≡ Some x → x.own.bounds ≡ b) → HandsOutWithin b came.turn
  hands_within None next came (none, still, same) bound = absurd (cc)
  hands_within (Some x) next came (made, z, is, at, turned) bound =
      subst (λ (m : Came C). HandsOutWithin b m.turn) (sym (some_same came made is))
      (turned_within code meant_by b (meant_by x) (meant_by z) made.turn _ _ _ (next_move code b (meant_by x))
      (subst (λ c. Turned meant_by code c (meant_by x) (meant_by z) (λ step a. Stepped words step a new) (λ step pass. Handed words step new) (new ≡ words) made.turn (next_move code c (meant_by x))) (bound x refl) turned.turned))

  pub gives_by : (places mid placed : List (Option (JThread C))) (t : ℕ) (came : Came C) → ((x : JThread C) → seat_in places t ≡ Some x → x.own.bounds ≡ b)
      → seat_in mid ≡ set_at (seat_in places) t (seat_in mid t) → seat_in placed ≡ seats_after came.turn (seat_in mid)
      → (old : Option (JThread C)) → seat_in places t ≡ old → TurnsAt code meant_by words old (Some came) new (seat_in mid t) → GivesTurn code meant_by b words places t (end_of came.turn came.kind) new placed
  gives_by places mid placed t came bound others after None here (none, still, same) = absurd (cc)
  gives_by places mid placed t came bound others after (Some x) here (made, z, is, at, turned) = λ r is_core.
      turn_given code state saved b words new places placed t x z came.turn came.kind here r is_core (bound x here)
      (subst (λ (m : Came C). TurnMade code meant_by words x m.turn m.kind new z) (sym (some_same came made is)) turned)
      (after ∙ ap (seats_after came.turn) (others ∙ ap (λ s. set_at (seat_in places) t s) at))
