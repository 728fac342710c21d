-- Acts lead on wherever turns do.
use Rattle.std.proofs.Common.{◌≡◌, ℕ, Option, None, Some, List, [], ◌∷◌, ◌++◌, refl, ap, sym, ◌∙◌, subst}
use Rattle.std.proofs.lemmas.List.{append_assoc}
use Rattle.op_core.specs.ThreadCode.{Code, quiet_step}
use Rattle.schedules.specs.declared.order.TurnEnd.{TurnEnd}
use Rattle.schedules.specs.Run.{Run, Follows}
use Rattle.heap_words.specs.declared.areas.Areas.{Areas}
use Rattle.step_port.specs.Words.{Words, answer_of, words_after}
use Rattle.automaton_rows.proofs.RowLemmas.{words_can_answer}
use Rattle.thread_automaton.specs.declared.Bounds.{Bounds}
use Rattle.thread_automaton.specs.declared.Move.{Move}
use Rattle.thread_automaton.specs.declared.Move.TheVariants.{Over, Quiet, Stop, Make}
use Rattle.thread_automaton.specs.ThreadState.{ThreadState}
use Rattle.thread_automaton.specs.NextMove.{next_move}
use Rattle.thread_automaton.specs.Told.{told, after_answer, after_quiet}
use Rattle.core_runs.specs.Cores.{Core}
use Rattle.core_runs.specs.Acts.{Act}
use Rattle.turn_runs.specs.Turns.{TurnMove, silent, made}
use Rattle.turn_run_laws.specs.GivenTurns.{acts_of, move_end, LeadsTo}
use Rattle.turn_run_laws.proofs.GivenLemmas.{turns_given}
use Rattle.turn_run_laws.proofs.JoinLemmas.{turns_lead_on}
use Rattle.word_runs.specs.WordTurns.{Progress, GivesQuiet, GivesBy, word_turns}
use Rattle.word_runs.specs.Laws.{AreActs}
use Rattle.word_runs.proofs.TurnLemmas.{word_turns_are_determinate}
use Rattle.sched_core.specs.Readiness.{StaysWell}
use Rattle.sched_core.specs.Going.{HasMoreActs, TurnsGoOnAsActs}
use Rattle.sched_core.proofs.ReadyLemmas.{hands_none}

no_more : {S : Type 0} (r : Progress S) → HasMoreActs r r
no_more r = ([], none_after r.acts)
  where
    none_after : (acts : List Act) → acts ≡ acts ++ []
    none_after [] = refl
    none_after (x ∷ acts) = ap (λ xs. x ∷ xs) (none_after acts)

more_later : {S : Type 0} (r mid last : Progress S) → HasMoreActs r mid → HasMoreActs mid last → HasMoreActs r last
more_later r mid last (xs, first) (ys, later) = (xs ++ ys, later ∙ ap (λ acts. acts ++ ys) first ∙ append_assoc r.acts xs ys)

module _ {S : Type 0} (code : Code S) (b : Bounds) (areas : Areas) (core : Core S) (well : StaysWell code b areas core) where
  -- acts lead to this place too, after those of r
  abbrev Led : Progress S → Progress S → Type 0
  Led r new = AreActs code b core new × HasMoreActs r new

  -- where a turn leads, a turn leads that makes this move
  by_move : (r new : Progress S) (t : ℕ) (last : ThreadState S) (v : Words) (move : TurnMove) (end : TurnEnd) → AreActs code b core r → LeadsTo code b r t (move ∷ []) last v
      → (word_turns code b).gives r t end new → Led r new
  by_move r new t last v move end are led gives =
      let (next, given, same) = led.given in
      let one : new ≡ next = ((word_turns_are_determinate code b).one_turn r next new t (move_end move) end given gives).1 in
      subst (Led r) (same ∙ sym one) (turns_lead_on code b core r t last v (move ∷ []) are led, (acts_of t (move ∷ []), led.acts))

  turn_acts : (r new : Progress S) (t : ℕ) (end : TurnEnd) → AreActs code b core r → (word_turns code b).gives r t end new → Led r new
  turn_acts r new t end are (th, at, gives) = by_next (next_move code b th) refl gives
    where
      by_quiet : (o : Option S) → next_move code b th ≡ Quiet → quiet_step code th.local ≡ o → GivesQuiet r t th o end new → Led r new
      by_quiet None is steps given = subst (Led r) (sym given.1) (are, no_more r)
      by_quiet (Some l) is steps given = by_move r new t (after_quiet th l) r.core.words silent end are
          (turns_given code b r t th (after_quiet th l) r.core.words (silent ∷ []) at (l, is, steps, (refl, refl)) (tt, tt)) (th, at, gives)

      by_next : (move : Move) → next_move code b th ≡ move → GivesBy code b r t th move end new → Led r new
      by_next Over is given = subst (Led r) (sym given.1) (are, no_more r)
      by_next (Stop limit) is given = subst (Led r) (sym given.1) (are, no_more r)
      by_next Quiet is given = by_quiet (quiet_step code th.local) is refl given
      by_next (Make step) is given =
          let answer = answer_of r.core.words step in
          let tells = told code b th step answer in
          let move = made (code.next th.local) step answer tells in
          by_move r new t (after_answer code b th step answer) (words_after step r.core.words) move end are
          (turns_given code b r t th (after_answer code b th step answer) (words_after step r.core.words) (move ∷ []) at
          (words_after step r.core.words, refl, is, record { answers = refl; leaves = refl }, words_can_answer r.core.words step, refl, (refl, refl))
          (hands_none code b areas core well t r th th t (code.next th.local) step answer tells are at at is, tt)) (th, at, gives)

  pub follow_acts : (run last : Run (Progress S)) (threads : List ℕ) → AreActs code b core run.state → Follows (word_turns code b) run threads last
      → AreActs code b core last.state × HasMoreActs run.state last.state
  follow_acts run last [] are same = subst (λ (x : Run (Progress S)). AreActs code b core x.state × HasMoreActs run.state x.state) (sym same) (are, no_more run.state)
  follow_acts run last (t ∷ threads) are (end, next, turn, later) =
      let first = turn_acts run.state next.state t end are turn.given in
      let rest = follow_acts next last threads first.0 later in
      (rest.0, more_later run.state next.state last.state first.1 rest.1)

pub turns_go_on_as_acts : {S : Type 0} (code : Code S) → TurnsGoOnAsActs code
turns_go_on_as_acts code b areas core well run last threads are follows = follow_acts code b areas core well run last threads are follows
