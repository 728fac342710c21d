-- After slices of two threads, the parts of their seats are those of all threads.
use Rattle.std.proofs.Common.{◌≡◌, ℕ, List, [], ◌∷◌, ◌++◌, sym, subst, append-nil}
use Rattle.std.specs.List.{All}
use Rattle.std.proofs.lemmas.List.Elements.{All-head}
use Rattle.op_core.specs.ThreadCode.{Code}
use Rattle.section_laws.proofs.CoreRunLemmas.{none_there}
use Rattle.table_words.specs.declared.seat.TableSeat.{TableSeat}
use Rattle.table_words.specs.declared.table.TableWords.{TableWords}
use Rattle.table_words.specs.Ends.{HaveAllThreads}
use Rattle.table_words.specs.Tables.{parts_of_seat, parts_of_seats}
use Rattle.table_hosts.specs.declared.seated.SeatedThread.{SeatedThread}
use Rattle.table_hosts.specs.declared.slices.Slice.{Slice}
use Rattle.table_hosts.specs.Families.{Begot}
use Rattle.table_hosts.specs.Seated.{BeginsOn, parts_of_threads}
use Rattle.table_hosts.specs.Slices.{IsSliceOf}
use Rattle.table_hosts.proofs.Families.{all_later, all_swapped}

module _ {C S : Type 0} (state : C → S) (saved : C → List S) (code : Code S) (table : TableWords C) where
  -- the only one of some threads that were handed out
  pub only_begins : (born : List (SeatedThread C)) (one : SeatedThread C) → born ≡ one ∷ [] → All (BeginsOn state saved code table) born → BeginsOn state saved code table one
  only_begins born one is all = All-head (BeginsOn state saved code table) one [] (subst (All (BeginsOn state saved code table)) is all)

  -- the first thread hands one out in its slice, and that one hands out none in its own
  pub two_are_all : (most more : ℕ) (main : SeatedThread C) (first : Slice C) (other : SeatedThread C) (second : Slice C) (seats : List (TableSeat C)) → HaveAllThreads (parts_of_seat main.seat)
      → IsSliceOf state saved code table most main first → first.born.items ≡ other ∷ [] → IsSliceOf state saved code table more other second → second.born.items ≡ []
      → seats ≡ second.seated.seat ∷ [] → HaveAllThreads (parts_of_seat first.seated.seat ++ parts_of_seats seats)
  two_are_all most more main first other second seats all one is two none are =
      let old = parts_of_seat main.seat in
      let v = parts_of_seat first.seated.seat in
      let u = parts_of_seat other.seat in
      let w = parts_of_seat second.seated.seat in
      let begot : Begot old v u = subst (Begot old v) (append-nil u) (subst (λ xs. Begot old v (parts_of_threads xs)) is one.begot) in
      let both : HaveAllThreads (v ++ (u ++ [])) = all_later old v u [] (subst HaveAllThreads (sym (append-nil old)) all) begot (only_begins first.born.items other is one.born).1 in
      let turned : HaveAllThreads (u ++ v) = all_swapped v u (subst (λ xs. HaveAllThreads (v ++ xs)) (append-nil u) both) in
      let later : HaveAllThreads (w ++ v) = all_later u w [] v turned (subst (λ xs. Begot u w (parts_of_threads xs)) none two.begot) (λ p there. none_there p there) in
      subst (λ ss. HaveAllThreads (v ++ parts_of_seats ss)) (sym are) (subst (λ xs. HaveAllThreads (v ++ xs)) (sym (append-nil w)) (all_swapped w v later))
