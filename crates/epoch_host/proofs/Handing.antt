-- A run that is handed over.
use Rattle.std.proofs.Common.{◌≡◌, ◌<◌, Option, None, Some, Result, Ok, Err, List, [], ◌∷◌, ◌++◌, length, map, refl, sym, ◌∙◌, ap, subst, arith, append-nil}
use Rattle.std.specs.Prelude.{IfOk}
use Rattle.std.specs.List.{All}
use Rattle.std.proofs.lemmas.List.Elements.{All-map, All-weaker, All-head, All-tail}
use Rattle.op_core.specs.declared.NoMemory.{NoMemory}
use Rattle.op_core.specs.declared.How.{How}
use Rattle.op_core.specs.ThreadCode.{Code}
use Rattle.table_words.specs.declared.setup.Setup.{Setup}
use Rattle.table_words.specs.declared.setup.ThreadPart.{ThreadPart}
use Rattle.table_words.specs.declared.table.TableWords.{TableWords}
use Rattle.table_words.specs.Setups.{first_birth}
use Rattle.table_words.specs.Parts.{fresh_part}
use Rattle.table_words.specs.Ends.{HaveAllThreads}
use Rattle.table_words.specs.Tables.{setup_in, parts_of_seat, parts_of_seats, IsSeatOf}
use Rattle.table_hosts.specs.declared.seated.SeatedThread.{SeatedThread}
use Rattle.table_hosts.specs.Seated.{StandsOn, parts_of_threads}
use Rattle.table_hosts.specs.Tallies.{opened_in_parts, undone_in_parts}
use Rattle.table_hosts.proofs.Families.{first_is_all}
use Rattle.epoch_host.specs.declared.met.MetLimit.{MetLimit}
use Rattle.epoch_host.specs.declared.worked.Worked.{Worked}
use Rattle.epoch_host.specs.declared.hosts.HostRun.{HostRun}
use Rattle.epoch_host.specs.Work.{IsMetAmong, IsWorkOf}
use Rattle.epoch_host.specs.Runs.{how_of, HasEndedOrIdles, IsCauseOf, IsHostRun}
use Rattle.epoch_host.proofs.Families.{all_went_on}
use Rattle.epoch_host.proofs.Working.{of_some}

parts_of_their_seats : {C : Type 0} (xs : List (SeatedThread C)) → parts_of_seats (map (λ (x : SeatedThread C). x.seat) xs) ≡ parts_of_threads xs
parts_of_their_seats [] = refl
parts_of_their_seats (x ∷ xs) = ap (λ ps. parts_of_seat x.seat ++ ps) (parts_of_their_seats xs)

some_there : {C : Type 0} (xs : List (SeatedThread C)) → HaveAllThreads (parts_of_threads xs) → 0 < length xs
some_there [] all = absurd (none all.first)
  where
    none : 0 < 0 → ⊥
    none h = omega (arith, h)
some_there (x ∷ xs) all = omega arith

module _ {C S : Type 0} (state : C → S) (saved : C → List S) (code : Code S) (table : TableWords C) (first : SeatedThread C) (view : parts_of_seat first.seat ≡ fresh_part (setup_in table) (first_birth (setup_in table)) ∷ [])
    (all : Worked C) (work : IsWorkOf state saved code table (first ∷ []) all) where
  begun : parts_of_threads (first ∷ []) ≡ fresh_part (setup_in table) (first_birth (setup_in table)) ∷ []
  begun = append-nil (parts_of_seat first.seat) ∙ view

  all_threads : HaveAllThreads (parts_of_threads all.threads.items)
  all_threads = all_went_on (parts_of_threads (first ∷ [])) (parts_of_threads all.threads.items) all.opened all.undone (first_is_all (setup_in table) (parts_of_threads (first ∷ [])) begun) work.became.went

  pub some_threads : 0 < length all.threads.items
  some_threads = some_there all.threads.items all_threads

  caused : (all.met ≡ None → All (HasEndedOrIdles state saved code table) all.threads.items) → (o : Option MetLimit) → all.met ≡ o → IsCauseOf state saved code table all.threads.items (how_of o)
  caused over None is = over is
  caused over (Some met) is = of_some (λ (m : MetLimit). IsMetAmong state saved code table all.threads.items m.thread m.limit) all.met met is work.met

  is_run : (k : Setup C) → setup_in table ≡ k → (all.met ≡ None → All (HasEndedOrIdles state saved code table) all.threads.items) → (run : HostRun C) → run.table ≡ table
      → run.going.threads.items ≡ map (λ (x : SeatedThread C). x.thread) all.threads.items → run.first ∷ run.rest.items ≡ map (λ (x : SeatedThread C). x.seat) all.threads.items
      → run.going.opened ≡ all.opened → run.going.undone ≡ all.undone → run.going.how ≡ how_of all.met → IsHostRun state saved code k run
  is_run k setups over run tables threads seats opened undone how =
      let parts : parts_of_seats (run.first ∷ run.rest.items) ≡ parts_of_threads all.threads.items = ap (λ ss. parts_of_seats ss) seats ∙ parts_of_their_seats all.threads.items in
      record {
        setup = ap (λ (t : TableWords C). setup_in t) tables ∙ setups;
        seated = all.threads.items;
        threads = threads;
        seats = seats;
        stand = subst (λ (t : TableWords C). All (StandsOn state saved code t) all.threads.items) (sym tables) work.became.stand;
        all = subst HaveAllThreads (sym parts) all_threads;
        opened =
            let opens = work.became.went.opens in
            let none = ap (λ (ps : List (ThreadPart C)). opened_in_parts ps) begun in
            let are = ap (λ (ps : List (ThreadPart C)). opened_in_parts ps) parts in
            omega (arith, opens, none, are, opened);
        undone =
            let undoes = work.became.went.undoes in
            let none = ap (λ (ps : List (ThreadPart C)). undone_in_parts ps) begun in
            let are = ap (λ (ps : List (ThreadPart C)). undone_in_parts ps) parts in
            omega (arith, undoes, none, are, undone);
        how = subst (λ (t : TableWords C). IsCauseOf state saved code t all.threads.items run.going.how) (sym tables)
            (subst (λ (h : Option How). IsCauseOf state saved code table all.threads.items h) (sym how) (caused over all.met refl));
      }

  pub is_handed_over : (k : Setup C) → setup_in table ≡ k → (all.met ≡ None → All (HasEndedOrIdles state saved code table) all.threads.items) → (r : Result (HostRun C) NoMemory) → IfOk r (λ run. run.table ≡ table)
      → IfOk r (λ run. run.going.threads.items ≡ map (λ (x : SeatedThread C). x.thread) all.threads.items) → IfOk r (λ run. run.first ∷ run.rest.items ≡ map (λ (x : SeatedThread C). x.seat) all.threads.items)
      → IfOk r (λ run. (run.going.opened ≡ all.opened) × (run.going.undone ≡ all.undone)) → IfOk r (λ run. run.going.how ≡ how_of all.met) → IfOk r (IsHostRun state saved code k)
  is_handed_over k setups over (Ok run) tables threads seats counts how = is_run k setups over run tables threads seats counts.0 counts.1 how
  is_handed_over k setups over (Err e) tables threads seats counts how = tt

-- the seats of a run that is handed over are those of its table
pub seats_of_run : {C S : Type 0} (state : C → S) (saved : C → List S) (code : Code S) (k : Setup C) (run : HostRun C) → IsHostRun state saved code k run → IsSeatOf run.table run.first × All (IsSeatOf run.table) run.rest.items
seats_of_run state saved code k run is =
    let Seat = IsSeatOf run.table in
    let seats = subst (All Seat) (sym is.seats) (All-map Seat (λ (x : SeatedThread _). x.seat) is.seated
    (All-weaker (StandsOn state saved code run.table) (λ (x : SeatedThread _). Seat x.seat) (λ x stands. stands.0) is.seated is.stand)) in
    (All-head Seat run.first run.rest.items seats, All-tail Seat run.first run.rest.items seats)
