-- What host threads hand over of a run is what `go_on` of `sched_core` asks.
use Rattle.std.proofs.Common.{◌≡◌, ◌<◌, ℕ, zero, suc, length, arith, ◌++◌, Option, None, Some, List, [], ◌∷◌, map, refl, sym, ap, subst}
use Rattle.std.specs.Prelude.{Contains}
use Rattle.std.specs.List.{All, slice_index_or}
use Rattle.std.proofs.lemmas.List.Elements.{All-head, All-tail, All-nil, All-cons}
use Rattle.op_core.specs.declared.How.{How}
use Rattle.op_core.specs.declared.How.TheVariants as how
use Rattle.op_core.specs.ThreadCode.{Code}
use Rattle.plain_words.specs.declared.plain.PlainWords.{PlainWords}
use Rattle.plain_words.specs.Table.{words_in}
use Rattle.thread_moves.specs.declared.thread.JThread.{JThread}
use Rattle.table_words.specs.declared.setup.Setup.{Setup}
use Rattle.table_words.specs.declared.setup.ThreadPart.{ThreadPart}
use Rattle.table_words.specs.declared.seat.TableSeat.{TableSeat}
use Rattle.table_words.specs.declared.table.TableWords.{TableWords}
use Rattle.table_words.specs.Setups.{setup_bounds}
use Rattle.table_words.specs.Tables.{setup_in, parts_of_seat, parts_of_seats, IsSeatOf}
use Rattle.table_words.specs.Ends.{IsWholeRun}
use Rattle.table_hosts.specs.declared.seated.SeatedThread.{SeatedThread}
use Rattle.table_hosts.specs.Seated.{StandsOn, parts_of_threads}
use Rattle.epoch_host.specs.declared.hosts.HostRun.{HostRun}
use Rattle.epoch_host.specs.Runs.{IsCauseOf, IsHostRun}
use Rattle.going_runs.specs.Places.{AreAfterSteps}
use Rattle.going_runs.specs.HandedOver.{EndedAtLimit, IsHandedOver, SeatedThreadsAreAfterSteps}

contains_mapped : {X Y : Type 0} (f : X → Y) (xs : List X) (x : X) → Contains xs x → Contains (map f xs) (f x)
contains_mapped f [] x there = absurd (let low : there.0 < 0 = there.1 in omega arith)
contains_mapped {X} {Y} f (y ∷ xs) x there = by_place (contains_mapped f xs x) there.0 there.1 there.2
  where
    by_place : (Contains xs x → Contains (map f xs) (f x)) → (i : ℕ) → i < length (y ∷ xs) → slice_index_or (y ∷ xs) i x ≡ x → Contains (map f (y ∷ xs)) (f x)
    by_place later zero low at = (0, omega arith, ap f at)
    by_place later (suc i) low at = (let found = later (i, omega (arith, low), at) in (suc found.0, omega (arith, found.1), found.2))

module _ {C S : Type 0} (state : C → S) (saved : C → List S) (code : Code S) (table : TableWords C) where
  pub seats_all : (xs : List (SeatedThread C)) → All (StandsOn state saved code table) xs → All (IsSeatOf table) (map (λ (x : SeatedThread C). x.seat) xs)
  seats_all [] all = All-nil (IsSeatOf table)
  seats_all (x ∷ xs) all = All-cons (IsSeatOf table) x.seat (map (λ (y : SeatedThread C). y.seat) xs) (All-head (StandsOn state saved code table) x xs all).0
      (seats_all xs (All-tail (StandsOn state saved code table) x xs all))

  same_parts : (xs : List (SeatedThread C)) → parts_of_threads xs ≡ parts_of_seats (map (λ (x : SeatedThread C). x.seat) xs)
  same_parts [] = refl
  same_parts (x ∷ xs) = ap (λ ps. parts_of_seat x.seat ++ ps) (same_parts xs)

  -- a limit is met by the thread of which that is said
  ended : (xs : List (SeatedThread C)) (end : Option How) → IsCauseOf state saved code table xs end → EndedAtLimit state saved code (setup_in table) (map (λ (x : SeatedThread C). x.thread) xs) end
  ended xs None is = tt
  ended xs (Some (how.Limit t l)) is = (is.seated.thread, contains_mapped (λ (x : SeatedThread C). x.thread) xs is.seated is.there, is.number, is.meets)
  ended xs (Some how.Done) is = absurd is
  ended xs (Some how.Died) is = absurd is
  ended xs (Some how.Stuck) is = absurd is

module _ {C S : Type 0} (state : C → S) (saved : C → List S) (code : Code S) (k : Setup C) (run : HostRun C) (is : IsHostRun state saved code k run)
    (law : SeatedThreadsAreAfterSteps state saved code) where
  -- the seats of a run are seats of its table
  pub its_seats : All (IsSeatOf run.table) (run.first ∷ run.rest.items)
  its_seats = subst (All (IsSeatOf run.table)) (sym is.seats) (seats_all state saved code run.table is.seated is.stand)

  -- with the words that its table hands out, a run is handed over
  pub handed_over : (words : PlainWords) → IsWholeRun state code (setup_in run.table) (words_in words) (parts_of_seats (run.first ∷ run.rest.items))
      → IsHandedOver state saved code k words (parts_of_seats (run.first ∷ run.rest.items)) run.going
  handed_over words whole = subst (λ (j : Setup C). IsHandedOver state saved code j words (parts_of_seats (run.first ∷ run.rest.items)) run.going) is.setup (record {
    whole = whole;
    after = subst (λ (xs : List (JThread C)). AreAfterSteps state saved code (setup_in run.table) (parts_of_seats (run.first ∷ run.rest.items)) xs) (sym is.threads)
        (subst (λ (ss : List (TableSeat C)). AreAfterSteps state saved code (setup_in run.table) (parts_of_seats ss) (map (λ (x : SeatedThread C). x.thread) is.seated)) (sym is.seats)
        (subst (λ (ps : List (ThreadPart C)). AreAfterSteps state saved code (setup_in run.table) ps (map (λ (x : SeatedThread C). x.thread) is.seated)) (same_parts state saved code run.table is.seated)
        (law run.table is.seated is.stand).0));
    bounds = subst (All (λ (y : JThread C). y.own.bounds ≡ setup_bounds (setup_in run.table))) (sym is.threads) (law run.table is.seated is.stand).1;
    opened = is.opened;
    undone = is.undone;
    how = subst (λ (xs : List (JThread C)). EndedAtLimit state saved code (setup_in run.table) xs run.going.how) (sym is.threads) (ended state saved code run.table is.seated run.going.how is.how);
  })
