-- What a slice of turns makes.
use Rattle.std.specs.Prelude.{ℕ, List}
use Rattle.std.specs.List.{All}
use Rattle.op_core.specs.ThreadCode.{Code}
use Rattle.thread_moves.specs.Thread.{thread_of}
use Rattle.table_words.specs.declared.table.TableWords.{TableWords}
use Rattle.table_words.specs.Tables.{setup_in, parts_of_seat}
use Rattle.table_hosts.specs.declared.seated.SeatedThread.{SeatedThread}
use Rattle.table_hosts.specs.declared.slices.Slice.{Slice}
use Rattle.table_hosts.specs.declared.tally.Pace.{Pace}
use Rattle.table_hosts.specs.Families.{Begot}
use Rattle.table_hosts.specs.Seated.{StandsOn, BeginsOn, parts_of_threads}
use Rattle.table_hosts.specs.Turns.{TookAtMost}
use Rattle.table_hosts.specs.Tallies.{IsTallyOf}

module _ {C S : Type 0} (state : C → S) (saved : C → List S) (code : Code S) (table : TableWords C) where
  -- The thread, which was `seated` before, took at most `most` turns at this pace, of this tally. It is where its seat's part
  -- says, and so is each thread that it handed out, which has made no step; and these are all that its part handed out
  -- meanwhile.
  pub record IsSliceAt (pace : Pace) (most : ℕ) (seated : SeatedThread C) (slice : Slice C) : Type 0 where
    pub took : TookAtMost state saved code (setup_in table) pace most (thread_of state saved seated.thread) (parts_of_seat seated.seat)
        (thread_of state saved slice.seated.thread) (parts_of_seat slice.seated.seat)
    pub tally : IsTallyOf state saved code (setup_in table) (thread_of state saved seated.thread) (parts_of_seat seated.seat)
        (thread_of state saved slice.seated.thread) (parts_of_seat slice.seated.seat) slice.tally
    pub stands : StandsOn state saved code table slice.seated
    pub born : All (BeginsOn state saved code table) slice.born.items
    pub begot : Begot (parts_of_seat seated.seat) (parts_of_seat slice.seated.seat) (parts_of_threads slice.born.items)

  -- turns until the thread has ended, has met a limit or has to wait
  abbrev pub IsSliceOf : ℕ → SeatedThread C → Slice C → Type 0
  IsSliceOf most seated slice = IsSliceAt Pace.WhileFree most seated slice

  -- turns until one isn't idle
  abbrev pub IsTryOf : ℕ → SeatedThread C → Slice C → Type 0
  IsTryOf most seated slice = IsSliceAt Pace.WhileIdle most seated slice
