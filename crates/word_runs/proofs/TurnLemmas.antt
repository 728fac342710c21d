-- Turns on shared words come to one thing each, and are acts.
use Rattle.std.proofs.Common.{◌≡◌, ℕ, suc, ◌||◌, Bool, true, not, Option, None, Some, List, [], ◌∷◌, ◌++◌, length, refl, sym, ◌∙◌, ap, subst}
use Rattle.std.specs.Option.{option_map_or}
use Rattle.std.proofs.lemmas.Bool.{and_parts}
use Rattle.std.proofs.lemmas.List.{append_assoc}
use Rattle.std.proofs.lemmas.Option.{same_Some}
use Rattle.op_core.specs.ThreadCode.{Code, quiet_step}
use Rattle.schedules.specs.declared.order.TurnEnd.{TurnEnd}
use Rattle.schedules.specs.Schedule.{Rest}
use Rattle.schedules.specs.Run.{Run, Follows}
use Rattle.schedules.specs.Laws.{IsDeterminate}
use Rattle.thread_automaton.specs.declared.Bounds.{Bounds}
use Rattle.thread_automaton.specs.declared.Move.{Move}
use Rattle.thread_automaton.specs.declared.Move.TheVariants.{Over, Quiet, Stop, Make}
use Rattle.thread_automaton.specs.ThreadState.{ThreadState}
use Rattle.thread_automaton.specs.NextMove.{next_move}
use Rattle.core_runs.specs.Cores.{Core}
use Rattle.core_runs.specs.Acts.{Act, ActFrom}
use Rattle.word_runs.specs.Enabled.{has_to_undo, has_to_wait_for}
use Rattle.word_runs.specs.Moves.{Moved, moved_quietly, moved_by, moved_from, moved, or_later, acts_in, core_in}
use Rattle.word_runs.specs.WordTurns.{Progress, GivesQuiet, GivesBy, is_live, IsEnabledIn, word_turns}
use Rattle.word_runs.specs.Laws.{WordTurnsAreDeterminate, begun_with, AreActs, TurnsAreActs}
use Rattle.word_runs.proofs.MoveLemmas.{leads_in, begins_in}

module _ {S : Type 0} (code : Code S) (b : Bounds) where
  -- ---- one turn

  quiet_once : (r new last : Progress S) (t : ℕ) (th : ThreadState S) (o : Option S) (one two : TurnEnd) → GivesQuiet r t th o one new → GivesQuiet r t th o two last → (two ≡ one) × (last ≡ new)
  quiet_once r new last t th None one two first second = (second.0 ∙ sym first.0, second.1 ∙ sym first.1)
  quiet_once r new last t th (Some l) one two first second = (second.0 ∙ sym first.0, second.1 ∙ sym first.1)

  move_once : (r new last : Progress S) (t : ℕ) (th : ThreadState S) (move : Move) (one two : TurnEnd) → GivesBy code b r t th move one new → GivesBy code b r t th move two last → (two ≡ one) × (last ≡ new)
  move_once r new last t th Over one two first second = (second.0 ∙ sym first.0, second.1 ∙ sym first.1)
  move_once r new last t th (Stop limit) one two first second = (second.0 ∙ sym first.0, second.1 ∙ sym first.1)
  move_once r new last t th Quiet one two first second = quiet_once r new last t th (quiet_step code th.local) one two first second
  move_once r new last t th (Make step) one two first second = (second.0 ∙ sym first.0, second.1 ∙ sym first.1)

  is_once : IsDeterminate (word_turns code b)
  is_once = record {
    one_turn = λ r new last t one other first second.
        move_once r new last t first.0 (next_move code b first.0) one other first.2
        (subst (λ th. GivesBy code b r t th (next_move code b th) other last) (same_Some second.0 first.0 (sym second.1 ∙ first.1)) second.2);
    enabled_live = λ r t is. by_thread r (r.core.threads t) is;
  }
    where
      by_thread : (r : Progress S) (o : Option (ThreadState S)) → IsEnabledIn code r o → is_live o ≡ true
      by_thread r None is = absurd is
      by_thread r (Some th) is = (and_parts (not th.over) (has_to_undo r.core.words th || not (has_to_wait_for r.core.words th (code.next th.local))) is).0

  -- ---- turns are moves

  -- where a move of the thread leads, the acts are those so far and this one
  abbrev MovesOn : Progress S → Option (Moved S) → Progress S → Type 0
  MovesOn r None new = (new.acts ≡ r.acts) × (new.core ≡ r.core)
  MovesOn r (Some m) new = (new.acts ≡ r.acts ++ m.act ∷ []) × (new.core ≡ m.core)

  quiet_moves : (r new : Progress S) (t : ℕ) (th : ThreadState S) (o : Option S) (end : TurnEnd) → GivesQuiet r t th o end new → MovesOn r (moved_quietly r.core t th o) new
  quiet_moves r new t th None end gives = (ap (λ (x : Progress S). x.acts) gives.1, ap (λ (x : Progress S). x.core) gives.1)
  quiet_moves r new t th (Some l) end gives = (ap (λ (x : Progress S). x.acts) gives.1, ap (λ (x : Progress S). x.core) gives.1)

  by_moves : (r new : Progress S) (t : ℕ) (th : ThreadState S) (move : Move) (end : TurnEnd) → GivesBy code b r t th move end new → MovesOn r (moved_by code b (length r.acts) r.core t th move) new
  by_moves r new t th Over end gives = (ap (λ (x : Progress S). x.acts) gives.1, ap (λ (x : Progress S). x.core) gives.1)
  by_moves r new t th (Stop limit) end gives = (ap (λ (x : Progress S). x.acts) gives.1, ap (λ (x : Progress S). x.core) gives.1)
  by_moves r new t th Quiet end gives = quiet_moves r new t th (quiet_step code th.local) end gives
  by_moves r new t th (Make step) end gives = (ap (λ (x : Progress S). x.acts) gives.1, ap (λ (x : Progress S). x.core) gives.1)

  turn_moves : (r new : Progress S) (t : ℕ) (end : TurnEnd) → (word_turns code b).gives r t end new → MovesOn r (moved code b (length r.acts) r.core t) new
  turn_moves r new t end gives =
      subst (λ o. MovesOn r (moved_from code b (length r.acts) r.core t o) new) (sym gives.1) (by_moves r new t gives.0 (next_move code b gives.0) end gives.2)

  -- ---- turns are acts

  abbrev Reaches : Progress S → List ℕ → Progress S → Type 0
  Reaches r threads last = (last.acts ≡ r.acts ++ acts_in code b (length r.acts) r.core threads)
      × (last.core ≡ core_in code b (length r.acts) r.core threads (length (acts_in code b (length r.acts) r.core threads)))

  length_more : (acts : List Act) (x : Act) → length (acts ++ x ∷ []) ≡ suc (length acts)
  length_more [] x = refl
  length_more (y ∷ acts) x = ap suc (length_more acts x)

  append_none : (acts : List Act) → acts ≡ acts ++ []
  append_none [] = refl
  append_none (x ∷ acts) = ap (λ xs. x ∷ xs) (append_none acts)

  reaches_on : (r new last : Progress S) (t : ℕ) (threads : List ℕ) (o : Option (Moved S)) → moved code b (length r.acts) r.core t ≡ o → MovesOn r o new → Reaches new threads last → Reaches r (t ∷ threads) last
  reaches_on r new last t threads None is moves later = (
    later.0 ∙ ap (λ xs. xs ++ acts_in code b (length new.acts) new.core threads) moves.0 ∙ ap (λ xs. r.acts ++ xs) acts_are,
    later.1 ∙ ap (λ k. core_in code b k new.core threads (length (acts_in code b k new.core threads))) (ap length moves.0)
        ∙ ap (λ (x : Core S). core_in code b (length r.acts) x threads (length (acts_in code b (length r.acts) x threads))) moves.1 ∙ cores_are,
  )
    where
      k : ℕ
      k = length r.acts

      acts_are : acts_in code b (length new.acts) new.core threads ≡ acts_in code b (length r.acts) r.core (t ∷ threads)
      acts_are = ap (λ n. acts_in code b n new.core threads) (ap length moves.0) ∙ ap (λ (x : Core S). acts_in code b (length r.acts) x threads) moves.1
          ∙ sym (ap (λ x. option_map_or (λ (m : Moved S). m.act ∷ acts_in code b (suc (length r.acts)) m.core threads) x (acts_in code b (length r.acts) r.core threads)) is)

      cores_are : core_in code b (length r.acts) r.core threads (length (acts_in code b (length r.acts) r.core threads))
          ≡ core_in code b (length r.acts) r.core (t ∷ threads) (length (acts_in code b (length r.acts) r.core (t ∷ threads)))
      cores_are = sym (ap (λ x. option_map_or (λ (m : Moved S). or_later r.core (core_in code b (suc (length r.acts)) m.core threads)
          (length (option_map_or (λ (m : Moved S). m.act ∷ acts_in code b (suc (length r.acts)) m.core threads) x (acts_in code b (length r.acts) r.core threads)))) x
          (core_in code b (length r.acts) r.core threads (length (option_map_or (λ (m : Moved S). m.act ∷ acts_in code b (suc (length r.acts)) m.core threads) x (acts_in code b (length r.acts) r.core threads))))) is)
  reaches_on r new last t threads (Some m) is moves later = (
    later.0 ∙ ap (λ xs. xs ++ acts_in code b (length new.acts) new.core threads) moves.0 ∙ append_assoc r.acts (m.act ∷ []) (acts_in code b (length new.acts) new.core threads) ∙ ap (λ xs. r.acts ++ xs) acts_are,
    later.1 ∙ ap (λ n. core_in code b n new.core threads (length (acts_in code b n new.core threads))) size
        ∙ ap (λ (x : Core S). core_in code b (suc (length r.acts)) x threads (length (acts_in code b (suc (length r.acts)) x threads))) moves.1 ∙ cores_are,
  )
    where
      size : length new.acts ≡ suc (length r.acts)
      size = ap length moves.0 ∙ length_more r.acts m.act

      acts_are : m.act ∷ acts_in code b (length new.acts) new.core threads ≡ acts_in code b (length r.acts) r.core (t ∷ threads)
      acts_are = ap (λ n. m.act ∷ acts_in code b n new.core threads) size ∙ ap (λ (x : Core S). m.act ∷ acts_in code b (suc (length r.acts)) x threads) moves.1
          ∙ sym (ap (λ x. option_map_or (λ (m : Moved S). m.act ∷ acts_in code b (suc (length r.acts)) m.core threads) x (acts_in code b (length r.acts) r.core threads)) is)

      cores_are : core_in code b (suc (length r.acts)) m.core threads (length (acts_in code b (suc (length r.acts)) m.core threads))
          ≡ core_in code b (length r.acts) r.core (t ∷ threads) (length (acts_in code b (length r.acts) r.core (t ∷ threads)))
      cores_are = sym (ap (λ x. option_map_or (λ (m : Moved S). or_later r.core (core_in code b (suc (length r.acts)) m.core threads)
          (length (option_map_or (λ (m : Moved S). m.act ∷ acts_in code b (suc (length r.acts)) m.core threads) x (acts_in code b (length r.acts) r.core threads)))) x
          (core_in code b (length r.acts) r.core threads (length (option_map_or (λ (m : Moved S). m.act ∷ acts_in code b (suc (length r.acts)) m.core threads) x (acts_in code b (length r.acts) r.core threads))))) is)

  reaches : (run last : Run (Progress S)) (threads : List ℕ) → Follows (word_turns code b) run threads last → Reaches run.state threads last.state
  reaches run last [] is = (ap (λ (x : Run (Progress S)). x.state.acts) is ∙ append_none run.state.acts, ap (λ (x : Run (Progress S)). x.state.core) is)
  reaches run last (t ∷ threads) (end, next, turn, later) =
      reaches_on run.state next.state last.state t threads (moved code b (length run.state.acts) run.state.core t) refl (turn_moves run.state next.state t end turn.given) (reaches next last threads later)

  acts_of : (core : Core S) (rest : Rest) (keeps : Bool) (threads : List ℕ) (last : Run (Progress S)) → Follows (word_turns code b) (begun_with core rest keeps) threads last → AreActs code b core last.state
  acts_of core rest keeps threads last follows =
      let reached = reaches (begun_with core rest keeps) last threads follows in record {
        cores = core_in code b 0 core threads;
        begins = begins_in code b core threads;
        leads = subst (ActFrom code b (core_in code b 0 core threads) 0) (sym reached.0) (leads_in code b core threads);
        ends = ap (λ (acts : List Act). core_in code b 0 core threads (length acts)) reached.0 ∙ sym reached.1;
      }

pub word_turns_are_determinate : {S : Type 0} (code : Code S) → WordTurnsAreDeterminate code
word_turns_are_determinate code b = is_once code b

pub turns_are_acts : {S : Type 0} (code : Code S) → TurnsAreActs code
turns_are_acts code b core rest keeps threads last follows = acts_of code b core rest keeps threads last follows
