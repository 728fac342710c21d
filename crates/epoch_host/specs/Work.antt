-- What becomes of threads that are given turns.
use Rattle.std.specs.Prelude.{◌≡◌, ℕ, Some, IfSome, Result, IfOk, List, [], ◌∷◌, ◌++◌, Contains}
use Rattle.std.specs.List.{All, AllZip}
use Rattle.op_core.specs.declared.Limit.{Limit}
use Rattle.op_core.specs.declared.NoMemory.{NoMemory}
use Rattle.op_core.specs.ThreadCode.{Code}
use Rattle.thread_moves.specs.Thread.{thread_of}
use Rattle.table_words.specs.declared.table.TableWords.{TableWords}
use Rattle.table_words.specs.Tables.{setup_in}
use Rattle.table_hosts.specs.declared.seated.SeatedThread.{SeatedThread}
use Rattle.table_hosts.specs.declared.slices.Slice.{Slice}
use Rattle.table_hosts.specs.Seated.{StandsOn, parts_of_threads}
use Rattle.table_hosts.specs.Tallies.{MeetsLimit}
use Rattle.epoch_host.specs.declared.met.MetLimit.{MetLimit}
use Rattle.epoch_host.specs.declared.worked.Worked.{Worked}
use Rattle.epoch_host.specs.declared.chunks.Chunk.{Chunk}
use Rattle.epoch_host.specs.Parts.{WentOn}

module _ {C : Type 0} where
  -- the threads of chunks, one chunk after another
  abbrev pub threads_of_chunks : List (Chunk C) → List (SeatedThread C)
  threads_of_chunks [] = []
  threads_of_chunks (chunk ∷ chunks) = chunk.threads.items ++ threads_of_chunks chunks

  -- these are the same threads, in some order
  pub record AreSameThreads (xs ys : List (SeatedThread C)) : Type 0 where
    pub there : (x : SeatedThread C) → Contains xs x → Contains ys x
    pub only : (x : SeatedThread C) → Contains ys x → Contains xs x
    pub parts : WentOn (parts_of_threads xs) (parts_of_threads ys) 0 0

  -- the last turn of the slice met this limit
  abbrev pub IsMetBySlice : Slice C → MetLimit → Type 0
  IsMetBySlice slice met = (met.thread ≡ slice.seated.thread.own.number) × (slice.tally.limit ≡ Some met.limit)

module _ {C S : Type 0} (state : C → S) (saved : C → List S) (code : Code S) (table : TableWords C) where
  -- the next turn of the thread of this number, one of these, meets the limit
  pub record IsMetAmong (threads : List (SeatedThread C)) (t : ℕ) (l : Limit) : Type 0 where
    pub seated : SeatedThread C
    pub there : Contains threads seated
    pub number : seated.thread.own.number ≡ t
    pub meets : MeetsLimit code (setup_in table) (thread_of state saved seated.thread) l

  -- By turns the threads became `new`, those that they handed out among them. Each is where its seat's part says.
  pub record BecameBy (old new : List (SeatedThread C)) (opened undone : ℕ) : Type 0 where
    pub stand : All (StandsOn state saved code table) new
    pub went : WentOn (parts_of_threads old) (parts_of_threads new) opened undone

  -- so they became those that were worked on; one of these meets the limit that was met, if one was
  pub record IsWorkOf (threads : List (SeatedThread C)) (worked : Worked C) : Type 0 where
    pub became : BecameBy threads worked.threads.items worked.opened worked.undone
    pub met : IfSome worked.met (λ met. IsMetAmong worked.threads.items met.thread met.limit)

  -- each of these is what a worker made of the chunk at the same place, or there was no memory
  abbrev pub AreWorkOf : List (Chunk C) → List (Result (Worked C) NoMemory) → Type 0
  AreWorkOf chunks results = AllZip (λ (chunk : Chunk C) result. IfOk result (IsWorkOf chunk.threads.items)) chunks results
