-- Silent turns of a thread, one after another, are as many turns of the run.
use Rattle.std.proofs.Common.{◌≡◌, ℕ, zero, suc, ◌+◌, ◌<◌, ◌≤◌, ◌||◌, ◌&&◌, Bool, true, false, not, Some, List, [], ◌∷◌, ◌++◌, length, refl, sym, ◌∙◌, ap, subst, arith, length-append}
use Rattle.std.specs.Prelude.{nat_le, if◌then◌else◌}
use Rattle.std.proofs.Math.Path.{fun_ext}
use Rattle.op_core.specs.declared.Limit.TheVariants.{Turns}
use Rattle.op_core.specs.ThreadCode.{Code}
use Rattle.op_core.specs.OrdinaryState.{set_at}
use Rattle.op_core.proofs.PointwiseLemmas.{set_at-hit, set_at-at, set_at-same, set_at-twice}
use Rattle.schedules.specs.declared.order.TurnEnd.TheVariants as ends
use Rattle.schedules.specs.Schedule.{Rest, rest_due, rest_after}
use Rattle.schedules.specs.Run.{Run, due_of, GetsTurn, Follows}
use Rattle.step_port.specs.Words.{Words}
use Rattle.thread_automaton.specs.declared.Bounds.{Bounds}
use Rattle.thread_automaton.specs.declared.Move.{Move}
use Rattle.thread_automaton.specs.declared.Move.TheVariants.{Over, Quiet, Stop}
use Rattle.thread_automaton.specs.ThreadState.{ThreadState}
use Rattle.thread_automaton.specs.NextMove.{move_of, next_move}
use Rattle.thread_automaton.specs.Told.{after_quiet}
use Rattle.rollback_core.specs.Quiet.{IsQuietTurn, QuietTurns}
use Rattle.rollback_core.proofs.QuietLemmas.{silent_by}
use Rattle.word_runs.specs.Enabled.{has_to_undo, has_to_wait_for, is_enabled}
use Rattle.word_runs.specs.WordTurns.{Progress, GivesBy, GivesQuiet, after_silent, is_live, word_turns}
use Rattle.sched_core.specs.Counts.{opened_in, undone_in}
use Rattle.sched_core.specs.ScheduledRun.{GoesOn}
use Rattle.sched_core.proofs.CountLemmas.{turns_count}
use Rattle.sched_core.proofs.RunLemmas.{unstopped, follows_more}

-- ---- a thread that makes a silent turn

not_over : (over full : Bool) (m : Move) → (if over then Over else if full then Stop Turns else m) ≡ Quiet → over ≡ false
not_over true full m is = absurd (cc)
not_over false full m is = refl

pub quiet_lives : {S : Type 0} (code : Code S) (b : Bounds) (x : ThreadState S) → next_move code b x ≡ Quiet → x.over ≡ false
quiet_lives code b x moves = not_over x.over (nat_le b.limits.turns x.counted) (move_of code x (code.next x.local) x.attempt) moves

-- it was live before each of them
pub turns_live : {S : Type 0} (code : Code S) (b : Bounds) (n : ℕ) (th last : ThreadState S) → QuietTurns code b (suc n) th last → th.over ≡ false
turns_live code b zero th last (before, same, turn) = ap (λ x. x.over) (sym same) ∙ quiet_lives code b before turn.moves
turns_live code b (suc n) th last (before, turns, turn) = turns_live code b n th before turns

or_true : (t : Bool) → (t || true) ≡ true
or_true true = refl
or_true false = refl

-- it can go on, whatever the words are
pub quiet_enabled : {S : Type 0} (code : Code S) (b : Bounds) (w : Words) (x y : ThreadState S) → IsQuietTurn code b x y → is_enabled code w x ≡ true
quiet_enabled code b w x y turn =
    ap (λ over. not over && (has_to_undo w x || not (has_to_wait_for w x (code.next x.local)))) (quiet_lives code b x turn.moves)
    ∙ ap (λ next. has_to_undo w x || not (has_to_wait_for w x next)) (silent_by code (code.silent x.local) turn.local (code.next x.local) turn.quiet)
    ∙ or_true (has_to_undo w x)

-- ---- where such turns lead

module _ {S : Type 0} (code : Code S) (b : Bounds) (t : ℕ) (run : Run (Progress S)) where
  -- thread t is x there, and all else is as at the beginning
  pub record IsThere (x : ThreadState S) (r : Progress S) : Type 0 where
    pub threads : r.core.threads ≡ set_at run.state.core.threads t (Some x)
    pub words : r.core.words ≡ run.state.core.words
    pub untold : r.keeps ≡ false
    pub opened : opened_in r.acts ≡ opened_in run.state.acts
    pub undone : undone_in r.acts ≡ undone_in run.state.acts

  there_at : (x : ThreadState S) (r : Progress S) → IsThere x r → r.core.threads t ≡ Some x
  there_at x r there = ap (λ f. f t) there.threads ∙ set_at-hit run.state.core.threads t (Some x)

  abbrev live_first : ℕ → Bool
  live_first u = is_live (run.state.core.threads u)

  -- the same threads are live
  lives_same : (th x : ThreadState S) (r : Progress S) → run.state.core.threads t ≡ Some th → th.over ≡ false → x.over ≡ false → IsThere x r → ◌≡◌ {A = ℕ → Bool} (λ u. is_live (r.core.threads u)) live_first
  lives_same th x r here lived lives there = fun_ext (λ u. ap is_live (ap (λ f. f u) there.threads)
      ∙ set_at-at (λ y. is_live y ≡ live_first u) run.state.core.threads t (Some x) u
      (λ is. ap not lives ∙ ap not (sym lived) ∙ sym (ap is_live here) ∙ ap live_first (sym is)) (λ _. refl))

  silent_given : (x y : ThreadState S) (r : Progress S) (turn : IsQuietTurn code b x y) → IsThere x r → (word_turns code b).gives r t ends.Other (after_silent r t x turn.local)
  silent_given x y r turn there = (
    x,
    there_at x r there,
    subst (λ m. GivesBy code b r t x m ends.Other (after_silent r t x turn.local)) (sym turn.moves)
        (subst (λ quiet. GivesQuiet r t x quiet ends.Other (after_silent r t x turn.local)) (sym turn.quiet) (refl, refl)),
  )

  next_there : (x y : ThreadState S) (r : Progress S) (turn : IsQuietTurn code b x y) → IsThere x r → IsThere y (after_silent r t x turn.local)
  next_there x y r turn there =
      let counts = turns_count code b r t ends.Other (after_silent r t x turn.local) (silent_given x y r turn there) in
      let none : (n : ℕ) → n + 0 ≡ n = λ n. omega arith in
      record {
        threads = ap (λ f. set_at f t (Some (after_quiet x turn.local))) there.threads ∙ set_at-twice run.state.core.threads t (Some x) (Some (after_quiet x turn.local))
            ∙ ap (λ z. set_at run.state.core.threads t (Some z)) (sym turn.goes);
        words = there.words;
        untold = there.untold;
        opened = counts.opened ∙ none (opened_in r.acts) ∙ there.opened;
        undone = counts.undone ∙ none (undone_in r.acts) ∙ there.undone;
      }

  -- after k turns thread t is x, and this is left of the schedule
  record Reached (n : ℕ) (rests : ℕ → Rest) (k : ℕ) (x : ThreadState S) : Type 0 where
    threads : List ℕ
    count : length threads ≡ k
    next : Run (Progress S)
    follows : Follows (word_turns code b) run threads next
    there : IsThere x next.state
    rest : 0 < k → next.rest ≡ rests k
    due : k < n → due_of (word_turns code b) next ≡ rests k

  -- how the schedule lets thread t have n turns, one after another, each of which comes to Other
  pub record LetsTurns (n : ℕ) (rests : ℕ → Rest) : Type 0 where
    pub first : due_of (word_turns code b) run ≡ rests 0
    pub leaves : (k : ℕ) → k < n → rest_after (rests k) ends.Other ≡ rests (suc k)
    pub stays : (k : ℕ) → suc k < n → rest_due live_first (rests (suc k)) ≡ rests (suc k)
    pub gets : (k : ℕ) (x y : ThreadState S) (r : Progress S) → k < n → IsQuietTurn code b x y → IsThere x r → GetsTurn (word_turns code b) r (rests k).order (rests k).number t

  module _ (n : ℕ) (rests : ℕ → Rest) (lets : LetsTurns n rests) (th : ThreadState S) (here : run.state.core.threads t ≡ Some th) (untold : run.state.keeps ≡ false) where
    one_more : (k : ℕ) (x y : ThreadState S) → k < n → IsQuietTurn code b x y → th.over ≡ false → Reached n rests k x → Reached n rests (suc k) y
    one_more k x y below turn lived reached =
        let r = reached.next.state in
        let due = reached.due below in
        let there = next_there x y r turn reached.there in
        let lives : y.over ≡ false = ap (λ z. z.over) turn.goes ∙ quiet_lives code b x turn.moves in
        let left : rest_after (due_of (word_turns code b) reached.next) ends.Other ≡ rests (suc k) = ap (λ rest. rest_after rest ends.Other) due ∙ lets.leaves k below in
        record {
          threads = reached.threads ++ t ∷ [];
          count = let long = length-append reached.threads (t ∷ []) in let count = reached.count in omega (arith, long, count);
          next = record { state = after_silent r t x turn.local; rest = rest_after (due_of (word_turns code b) reached.next) ends.Other };
          follows = follows_more (word_turns code b) run reached.next _ reached.threads t ends.Other reached.follows (record {
            goes_on = unstopped code b r reached.there.untold;
            gets = subst (λ (rest : Rest). GetsTurn (word_turns code b) r rest.order rest.number t) (sym due) (lets.gets k x y r below turn reached.there);
            given = silent_given x y r turn reached.there;
            unspent = λ limit is. cc;
            leaves = refl;
          });
          there = there;
          rest = λ _. left;
          due = λ more. ap (λ f. rest_due f (rest_after (due_of (word_turns code b) reached.next) ends.Other)) (lives_same th y (after_silent r t x turn.local) here lived lives there)
              ∙ ap (rest_due live_first) left ∙ lets.stays k more;
        }

    reach : (k : ℕ) (x : ThreadState S) → k ≤ n → th.over ≡ false → QuietTurns code b k th x → Reached n rests k x
    reach zero x within lived same = record {
      threads = [];
      count = refl;
      next = run;
      follows = refl;
      there = record {
        threads = sym (set_at-same run.state.core.threads t (Some x) (here ∙ ap Some (sym same)));
        words = refl;
        untold = untold;
        opened = refl;
        undone = refl;
      };
      rest = λ none. absurd (omega (arith, none));
      due = λ _. lets.first;
    }
    reach (suc k) x within lived (before, turns, turn) = one_more k before x (omega (arith, within)) turn lived (reach k before (omega (arith, within)) lived turns)

    -- so n silent turns lead to a next run, at which thread t is what they make of it
    pub silent_on : (x : ThreadState S) → 0 < n → th.over ≡ false → QuietTurns code b n th x → (next : Run (Progress S)) × GoesOn code b run next × IsThere x next.state × (next.rest ≡ rests n)
    silent_on x some lived turns =
        let reached = reach n x (omega arith) lived turns in
        let count = reached.count in
        (reached.next, record { threads = reached.threads; some = omega (arith, some, count); follows = reached.follows }, reached.there, reached.rest some)
