-- A slice grows by one turn after another.
use Rattle.std.proofs.Common.{◌≡◌, ℕ, zero, suc, ◌≤◌, ◌+◌, Option, None, List, [], ◌++◌, refl, sym, subst, arith}
use Rattle.std.specs.List.{All}
use Rattle.std.proofs.lemmas.List.Elements.{All-nil}
use Rattle.op_core.specs.ThreadCode.{Code}
use Rattle.thread_automaton.specs.ThreadState.{ThreadState}
use Rattle.thread_automaton.specs.NextMove.{next_move}
use Rattle.thread_moves.specs.Thread.{thread_of}
use Rattle.rollback_core.specs.Turn.{kind_made}
use Rattle.thread_moves.specs.declared.thread.JThread.{JThread}
use Rattle.rollback_core.specs.declared.turned.Turn.{Turn}
use Rattle.table_words.specs.declared.setup.Setup.{Setup}
use Rattle.table_words.specs.declared.setup.ThreadPart.{ThreadPart}
use Rattle.table_words.specs.declared.seat.TableSeat.{TableSeat}
use Rattle.table_words.specs.declared.table.TableWords.{TableWords}
use Rattle.table_words.specs.Setups.{setup_bounds}
use Rattle.table_words.specs.Tables.{setup_in, parts_of_seat, IsSeatOf}
use Rattle.table_hosts.specs.declared.seated.SeatedThread.{SeatedThread}
use Rattle.table_hosts.specs.declared.slices.Slice.{Slice}
use Rattle.table_hosts.specs.declared.tally.Pace.{Pace}
use Rattle.table_hosts.specs.declared.tally.Tally.{Tally}
use Rattle.table_hosts.specs.Standing.{StandsAtView}
use Rattle.table_hosts.specs.Families.{Begot}
use Rattle.table_hosts.specs.Seated.{BeginsOn, parts_of_threads, parts_of_child}
use Rattle.table_hosts.specs.Turns.{TookTurn, TookAtMost}
use Rattle.table_hosts.specs.Tallies.{tally_of_turn, idle_after, tally_after, IsTallyOf, IsWithin}
use Rattle.table_hosts.specs.Slices.{IsSliceAt}
use Rattle.table_hosts.proofs.Begetting.{begot_same, begot_join}
use Rattle.table_hosts.proofs.Tallying.{none_yet, tallied}

pub within_more : (n m : ℕ) → m ≡ n + 1 → (before one : Tally) → IsWithin n before → IsWithin 1 one → (after : Tally) → after ≡ tally_after before one → IsWithin m after
within_more n m more before one few single after is =
    subst (IsWithin m) (sym is) (omega (arith, few.0, single.0, more), idle_few one.idle, omega (arith, few.2, single.2, more), omega (arith, few.3, single.3, more))
  where
    idle_few : (i : ℕ) → idle_after before.idle i ≤ m
    idle_few zero = omega arith
    idle_few (suc i) = omega (arith, few.1, more)

module _ {C S : Type 0} (state : C → S) (saved : C → List S) (code : Code S) (table : TableWords C) (seated : SeatedThread C) where
  abbrev k : Setup C
  k = setup_in table

  abbrev th : ThreadState S
  th = thread_of state saved seated.thread

  -- the slice so far: the thread is x, its seat has the parts v, it has handed out these threads, and its turns have this tally
  pub record HasCome (x : JThread C) (v : List (ThreadPart C)) (born : List (SeatedThread C)) (tally : Tally) : Type 0 where
    pub stands : StandsAtView state saved code k x v
    pub begin : All (BeginsOn state saved code table) born
    pub begot : Begot (parts_of_seat seated.seat) v (parts_of_threads born)
    pub tallies : IsTallyOf state saved code k th (parts_of_seat seated.seat) (thread_of state saved x) v tally

  pub came_none : StandsAtView state saved code k seated.thread (parts_of_seat seated.seat) → (v : List (ThreadPart C)) → v ≡ parts_of_seat seated.seat
      → (born : List (SeatedThread C)) → born ≡ [] → (none : Tally) → none ≡ record { limit = None; counted = 0; idle = 0; opened = 0; undone = 0 } → HasCome seated.thread v born none
  came_none st v same born is none nothing = record {
    stands = subst (StandsAtView state saved code k seated.thread) (sym same) st;
    begin = subst (All (BeginsOn state saved code table)) (sym is) (All-nil (BeginsOn state saved code table));
    begot = begot_same _ _ _ same;
    tallies = none_yet state saved code k th (parts_of_seat seated.seat) v same none nothing;
  }

  pub came_one : (x y : JThread C) (v w : List (ThreadPart C)) (born more : List (SeatedThread C)) (child : Option (SeatedThread C)) (before one after : Tally) → HasCome x v born before
      → StandsAtView state saved code k y w → Begot v w (parts_of_child child) → All (BeginsOn state saved code table) more → parts_of_threads more ≡ parts_of_threads born ++ parts_of_child child
      → (Is : Turn C (TableSeat C) → Type 0) → TookTurn state saved code k Is (thread_of state saved x) v (thread_of state saved y) w
      → ((turn : Turn C (TableSeat C)) → Is turn → one ≡ tally_of_turn turn (kind_made (next_move code (setup_bounds k) (thread_of state saved x)))) → after ≡ tally_after before one → HasCome y w more after
  came_one x y v w born more child before one after come st begot begin parts Is took said is = record {
    stands = st;
    begin = begin;
    begot = subst (Begot (parts_of_seat seated.seat) w) (sym parts) (begot_join _ _ _ _ _ come.begot begot);
    tallies = subst (IsTallyOf state saved code k th (parts_of_seat seated.seat) (thread_of state saved y) w) (sym is)
        (tallied state saved code k th (parts_of_seat seated.seat) (thread_of state saved x) v (thread_of state saved y) w come.stands.part come.stands.one before one _ refl come.tallies
        (record { turn = took.turn; takes = took.takes; is = said took.turn took.is }));
  }

  -- the slice in the end
  pub come_to : (pace : Pace) (most : ℕ) (x : JThread C) (v : List (ThreadPart C)) (born : List (SeatedThread C)) (tally : Tally) → HasCome x v born tally
      → TookAtMost state saved code k pace most th (parts_of_seat seated.seat) (thread_of state saved x) v → (slice : Slice C) → slice.seated.thread ≡ x → parts_of_seat slice.seated.seat ≡ v
      → slice.born.items ≡ born → slice.tally ≡ tally → IsSeatOf table slice.seated.seat → IsSliceAt state saved code table pace most seated slice
  come_to pace most x v born tally come took slice thread parts items tallies seat =
      let stands : StandsAtView state saved code k slice.seated.thread (parts_of_seat slice.seated.seat)
      = subst (λ (y : JThread C). StandsAtView state saved code k y (parts_of_seat slice.seated.seat)) (sym thread) (subst (StandsAtView state saved code k x) (sym parts) come.stands) in
      record {
        took = subst (λ (y : JThread C). TookAtMost state saved code k pace most th (parts_of_seat seated.seat) (thread_of state saved y) (parts_of_seat slice.seated.seat)) (sym thread)
            (subst (TookAtMost state saved code k pace most th (parts_of_seat seated.seat) (thread_of state saved x)) (sym parts) took);
        tally = subst (λ (y : JThread C). IsTallyOf state saved code k th (parts_of_seat seated.seat) (thread_of state saved y) (parts_of_seat slice.seated.seat) slice.tally) (sym thread)
            (subst (λ (u : List (ThreadPart C)). IsTallyOf state saved code k th (parts_of_seat seated.seat) (thread_of state saved x) u slice.tally) (sym parts)
            (subst (IsTallyOf state saved code k th (parts_of_seat seated.seat) (thread_of state saved x) v) (sym tallies) come.tallies));
        stands = (seat, stands);
        born = subst (All (BeginsOn state saved code table)) (sym items) come.begin;
        begot = subst (λ (u : List (ThreadPart C)). Begot (parts_of_seat seated.seat) u (parts_of_threads slice.born.items)) (sym parts)
            (subst (λ (xs : List (SeatedThread C)). Begot (parts_of_seat seated.seat) v (parts_of_threads xs)) (sym items) come.begot);
      }
