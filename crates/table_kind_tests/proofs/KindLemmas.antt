-- Two threads on a table stay all threads on it, whichever of them has a turn.
use Rattle.std.proofs.Common.{◌≡◌, ℕ, List, [], ◌∷◌, ◌++◌, sym, subst, append-nil}
use Rattle.op_core.specs.ThreadCode.{Code}
use Rattle.section_laws.proofs.CoreRunLemmas.{none_there}
use Rattle.table_words.specs.declared.table.TableWords.{TableWords}
use Rattle.table_words.specs.Ends.{HaveAllThreads}
use Rattle.table_words.specs.Tables.{parts_of_seat}
use Rattle.table_hosts.specs.declared.seated.SeatedThread.{SeatedThread}
use Rattle.table_hosts.specs.declared.slices.Slice.{Slice}
use Rattle.table_hosts.specs.Families.{Begot}
use Rattle.table_hosts.specs.Seated.{StandsOn, parts_of_threads}
use Rattle.table_hosts.specs.Slices.{IsSliceOf}
use Rattle.table_hosts.proofs.Families.{all_later, all_swapped}
use Rattle.table_cases.proofs.SliceLemmas.{only_begins}
use Rattle.table_kind_tests.specs.Kinds.{AreAllOn}

module _ {C S : Type 0} (state : C → S) (saved : C → List S) (code : Code S) (table : TableWords C) where
  -- a slice in which no thread was handed out
  pub none_begot : (most : ℕ) (seated : SeatedThread C) (slice : Slice C) → IsSliceOf state saved code table most seated slice → slice.born.items ≡ []
      → Begot (parts_of_seat seated.seat) (parts_of_seat slice.seated.seat) []
  none_begot most seated slice is none = subst (λ xs. Begot (parts_of_seat seated.seat) (parts_of_seat slice.seated.seat) (parts_of_threads xs)) none is.begot

  -- the first thread is alone after it too
  pub alone_later : (most : ℕ) (main : SeatedThread C) (slice : Slice C) → HaveAllThreads (parts_of_seat main.seat) → IsSliceOf state saved code table most main slice → slice.born.items ≡ []
      → HaveAllThreads (parts_of_seat slice.seated.seat)
  alone_later most main slice all is none =
      let old = parts_of_seat main.seat in
      let new = parts_of_seat slice.seated.seat in
      subst HaveAllThreads (append-nil new) (all_later old new [] [] (subst HaveAllThreads (sym (append-nil old)) all) (none_begot most main slice is none) (λ p there. none_there p there))

  -- in this slice the first thread handed out the other one
  pub both_begin : (most : ℕ) (main : SeatedThread C) (slice : Slice C) (other : SeatedThread C) → HaveAllThreads (parts_of_seat main.seat) → IsSliceOf state saved code table most main slice
      → slice.born.items ≡ other ∷ [] → AreAllOn state saved code table slice.seated other
  both_begin most main slice other all is one =
      let old = parts_of_seat main.seat in
      let v = parts_of_seat slice.seated.seat in
      let u = parts_of_seat other.seat in
      let begins = only_begins state saved code table slice.born.items other one is.born in
      let begot : Begot old v u = subst (Begot old v) (append-nil u) (subst (λ xs. Begot old v (parts_of_threads xs)) one is.begot) in
      record {
        main_stands = is.stands;
        other_stands = begins.0;
        all = subst (λ xs. HaveAllThreads (v ++ xs)) (append-nil u) (all_later old v u [] (subst HaveAllThreads (sym (append-nil old)) all) begot begins.1);
      }

  -- a turn of the first thread
  pub main_later : (main later other : SeatedThread C) → AreAllOn state saved code table main other → StandsOn state saved code table later
      → Begot (parts_of_seat main.seat) (parts_of_seat later.seat) [] → AreAllOn state saved code table later other
  main_later main later other are stands begot = record {
    main_stands = stands;
    other_stands = are.other_stands;
    all = all_later (parts_of_seat main.seat) (parts_of_seat later.seat) [] (parts_of_seat other.seat) are.all begot (λ p there. none_there p there);
  }

  -- a turn of the other one
  pub other_later : (main other later : SeatedThread C) → AreAllOn state saved code table main other → StandsOn state saved code table later
      → Begot (parts_of_seat other.seat) (parts_of_seat later.seat) [] → AreAllOn state saved code table main later
  other_later main other later are stands begot =
      let m = parts_of_seat main.seat in
      let o = parts_of_seat other.seat in
      let l = parts_of_seat later.seat in
      record {
        main_stands = are.main_stands;
        other_stands = stands;
        all = all_swapped l m (all_later o l [] m (all_swapped m o are.all) begot (λ p there. none_there p there));
      }
