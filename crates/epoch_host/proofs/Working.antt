-- Threads that were worked on, and more of them.
use Rattle.std.proofs.Common.{◌≡◌, ◌⊎◌, inl, inr, ℕ, ◌+◌, Option, None, Some, Result, Ok, List, [], ◌∷◌, ◌++◌, refl, sym, ◌∙◌, ap, subst, arith, append-nil, append_assoc}
use Rattle.std.specs.Prelude.{Contains, IfSome, IfOk}
use Rattle.std.specs.List.{All}
use Rattle.std.proofs.lemmas.List.Elements.{Contains-append_left, Contains-append_right}
use Rattle.op_core.specs.declared.Limit.{Limit}
use Rattle.op_core.specs.declared.NoMemory.{NoMemory}
use Rattle.op_core.specs.ThreadCode.{Code}
use Rattle.thread_moves.specs.Thread.{thread_of}
use Rattle.table_words.specs.declared.table.TableWords.{TableWords}
use Rattle.table_words.specs.Tables.{setup_in}
use Rattle.table_hosts.specs.declared.seated.SeatedThread.{SeatedThread}
use Rattle.table_hosts.specs.declared.slices.Slice.{Slice}
use Rattle.table_hosts.specs.Seated.{StandsOn}
use Rattle.table_hosts.specs.Tallies.{MeetsLimit}
use Rattle.epoch_host.specs.declared.chunks.Chunk.{Chunk}
use Rattle.epoch_host.specs.declared.met.MetLimit.{MetLimit}
use Rattle.epoch_host.specs.declared.worked.Worked.{Worked}
use Rattle.epoch_host.specs.Work.{threads_of_chunks, AreSameThreads, IsMetBySlice, IsMetAmong, BecameBy, IsWorkOf, AreWorkOf}
use Rattle.epoch_host.proofs.Chunking.{chunks-snoc}
use Rattle.epoch_host.proofs.Becoming.{same_threads, became_same, became_beside, became_then}

-- what is so of what an option has, where that is known
pub if_some : {A : Type 0} (P Q : A → Type 0) (o : Option A) → ((x : A) → o ≡ Some x → P x → Q x) → IfSome o P → IfSome o Q
if_some P Q None more is = tt
if_some P Q (Some x) more is = more x refl is

pub of_some : {A : Type 0} (P : A → Type 0) (o : Option A) (x : A) → o ≡ Some x → IfSome o P → P x
of_some P o x is holds = subst (λ p. IfSome p P) is holds

module _ {C S : Type 0} (state : C → S) (saved : C → List S) (code : Code S) (table : TableWords C) where
  met_left : (xs ys : List (SeatedThread C)) (t : ℕ) (l : Limit) → IsMetAmong state saved code table xs t l → IsMetAmong state saved code table (xs ++ ys) t l
  met_left xs ys t l met = record { seated = met.seated; there = Contains-append_left xs ys met.seated met.there; number = met.number; meets = met.meets }

  met_right : (xs ys : List (SeatedThread C)) (t : ℕ) (l : Limit) → IsMetAmong state saved code table ys t l → IsMetAmong state saved code table (xs ++ ys) t l
  met_right xs ys t l met = record { seated = met.seated; there = Contains-append_right xs ys met.seated met.there; number = met.number; meets = met.meets }

  pub met_same : (xs ys : List (SeatedThread C)) → AreSameThreads xs ys → (t : ℕ) (l : Limit) → IsMetAmong state saved code table xs t l → IsMetAmong state saved code table ys t l
  met_same xs ys same t l met = record { seated = met.seated; there = same.there met.seated met.there; number = met.number; meets = met.meets }

  -- threads that were worked on, and beside them some more
  pub work_beside : (a b ys : List (SeatedThread C)) (o u : ℕ) (old new : Worked C) → IsWorkOf state saved code table a old → BecameBy state saved code table b ys o u
      → new.threads.items ≡ old.threads.items ++ ys → new.opened ≡ old.opened + o → new.undone ≡ old.undone + u
      → IfSome new.met (λ met. (old.met ≡ Some met) ⊎ IsMetAmong state saved code table ys met.thread met.limit) → IsWorkOf state saved code table (a ++ b) new
  work_beside a b ys o u old new is became threads opened undone met = record {
    became = subst (λ xs. BecameBy state saved code table (a ++ b) xs new.opened new.undone) (sym threads)
        (subst (λ n. BecameBy state saved code table (a ++ b) (old.threads.items ++ ys) n new.undone) (sym opened)
        (subst (λ n. BecameBy state saved code table (a ++ b) (old.threads.items ++ ys) (old.opened + o) n) (sym undone)
        (became_beside state saved code table a old.threads.items b ys old.opened o old.undone u is.became became)));
    met = subst (λ xs. IfSome new.met (λ met. IsMetAmong state saved code table xs met.thread met.limit)) (sym threads)
        (if_some _ (λ met. IsMetAmong state saved code table (old.threads.items ++ ys) met.thread met.limit) new.met (λ m some how. elim how [
          | inl before ↦ met_left old.threads.items ys m.thread m.limit (of_some (λ met. IsMetAmong state saved code table old.threads.items met.thread met.limit) old.met m before is.met)
          | inr now ↦ met_right old.threads.items ys m.thread m.limit now
        ]) met);
  }

  -- a thread that was given no turn
  pub work_keeps : (a : List (SeatedThread C)) (x y : SeatedThread C) (old new : Worked C) → IsWorkOf state saved code table a old → BecameBy state saved code table (x ∷ []) (y ∷ []) 0 0
      → new.threads.items ≡ old.threads.items ++ y ∷ [] → new.opened ≡ old.opened → new.undone ≡ old.undone → new.met ≡ old.met → IsWorkOf state saved code table (a ++ x ∷ []) new
  work_keeps a x y old new is became threads opened undone met =
      work_beside a (x ∷ []) (y ∷ []) 0 0 old new is became threads (omega (arith, opened)) (omega (arith, undone)) (was_met new.met met)
    where
      was_met : (o : Option MetLimit) → o ≡ old.met → IfSome o (λ met. (old.met ≡ Some met) ⊎ IsMetAmong state saved code table (y ∷ []) met.thread met.limit)
      was_met None is = tt
      was_met (Some m) is = inl (sym is)

  -- a slice, whose last turn may have met a limit
  pub slice_meets : (ys : List (SeatedThread C)) (slice : Slice C) → Contains ys slice.seated → IfSome slice.tally.limit (MeetsLimit code (setup_in table) (thread_of state saved slice.seated.thread))
      → (met : MetLimit) → IsMetBySlice slice met → IsMetAmong state saved code table ys met.thread met.limit
  slice_meets ys slice there limit met by = record {
    seated = slice.seated;
    there = there;
    number = sym by.0;
    meets = of_some (MeetsLimit code (setup_in table) (thread_of state saved slice.seated.thread)) slice.tally.limit met.limit by.1 limit;
  }

  -- no thread yet, and threads that were given no turn
  pub work_untouched : (xs : List (SeatedThread C)) (worked : Worked C) → All (StandsOn state saved code table) xs → worked.threads.items ≡ xs → worked.opened ≡ 0 → worked.undone ≡ 0 → worked.met ≡ None
      → IsWorkOf state saved code table xs worked
  work_untouched xs worked stand threads opened undone met = record {
    became = subst (λ n. BecameBy state saved code table xs worked.threads.items n worked.undone) (sym opened)
        (subst (λ n. BecameBy state saved code table xs worked.threads.items 0 n) (sym undone)
        (became_same state saved code table xs worked.threads.items (same_threads xs worked.threads.items threads) stand));
    met = subst (λ o. IfSome o (λ met. IsMetAmong state saved code table worked.threads.items met.thread met.limit)) (sym met) tt;
  }

  -- the same threads in another order
  pub work_ordered : (xs : List (SeatedThread C)) (old new : Worked C) → IsWorkOf state saved code table xs old → AreSameThreads old.threads.items new.threads.items → new.opened ≡ old.opened → new.undone ≡ old.undone → new.met ≡ old.met
      → IsWorkOf state saved code table xs new
  work_ordered xs old new is same opened undone met = record {
    became = became_more;
    met = subst (λ o. IfSome o (λ met. IsMetAmong state saved code table new.threads.items met.thread met.limit)) (sym met)
        (if_some _ _ old.met (λ m some among. met_same old.threads.items new.threads.items same m.thread m.limit among) is.met);
  }
    where
      became_more : BecameBy state saved code table xs new.threads.items new.opened new.undone
      became_more =
          let both = became_then state saved code table xs old.threads.items new.threads.items old.opened 0 old.undone 0 is.became (became_same state saved code table old.threads.items new.threads.items same is.became.stand) in
          let o : old.opened + 0 ≡ new.opened = omega (arith, opened) in
          let u : old.undone + 0 ≡ new.undone = omega (arith, undone) in
          subst (λ n. BecameBy state saved code table xs new.threads.items n new.undone) o (subst (λ n. BecameBy state saved code table xs new.threads.items (old.opened + 0) n) u both)

  -- the threads to begin with in another order
  pub work_of_same : (xs ys : List (SeatedThread C)) (worked : Worked C) → AreSameThreads xs ys → All (StandsOn state saved code table) xs → IsWorkOf state saved code table ys worked → IsWorkOf state saved code table xs worked
  work_of_same xs ys worked same stand is = record {
    became =
        let both = became_then state saved code table xs ys worked.threads.items 0 worked.opened 0 worked.undone (became_same state saved code table xs ys same stand) is.became in
        let o : 0 + worked.opened ≡ worked.opened = omega arith in
        let u : 0 + worked.undone ≡ worked.undone = omega arith in
        subst (λ n. BecameBy state saved code table xs worked.threads.items n worked.undone) o (subst (λ n. BecameBy state saved code table xs worked.threads.items (0 + worked.opened) n) u both);
    met = is.met;
  }

  -- more turns of all threads
  pub work_then : (xs : List (SeatedThread C)) (o u : ℕ) (ys : List (SeatedThread C)) (later all : Worked C) → BecameBy state saved code table xs ys o u → IsWorkOf state saved code table ys later
      → all.threads.items ≡ later.threads.items → all.opened ≡ o + later.opened → all.undone ≡ u + later.undone → all.met ≡ later.met → IsWorkOf state saved code table xs all
  work_then xs o u ys later all became is threads opened undone met = record {
    became = subst (λ zs. BecameBy state saved code table xs zs all.opened all.undone) (sym threads)
        (subst (λ n. BecameBy state saved code table xs later.threads.items n all.undone) (sym opened)
        (subst (λ n. BecameBy state saved code table xs later.threads.items (o + later.opened) n) (sym undone)
        (became_then state saved code table xs ys later.threads.items o later.opened u later.undone became is.became)));
    met = subst (λ zs. IfSome all.met (λ met. IsMetAmong state saved code table zs met.thread met.limit)) (sym threads)
        (subst (λ p. IfSome p (λ met. IsMetAmong state saved code table later.threads.items met.thread met.limit)) (sym met) is.met);
  }

  -- ---- the chunks of all workers

  -- the last of some chunks and its result
  record LastWork (chunks : List (Chunk C)) (results : List (Result (Worked C) NoMemory)) (result : Result (Worked C) NoMemory) : Type 0 where
    before : List (Chunk C)
    chunk : Chunk C
    are : chunks ≡ before ++ chunk ∷ []
    works : AreWorkOf state saved code table before results
    work : IfOk result (IsWorkOf state saved code table chunk.threads.items)

  last_work : (chunks : List (Chunk C)) (results : List (Result (Worked C) NoMemory)) (result : Result (Worked C) NoMemory) → AreWorkOf state saved code table chunks (results ++ result ∷ []) → LastWork chunks results result
  last_work [] [] result are = absurd are
  last_work [] (r ∷ results) result are = absurd are
  last_work (chunk ∷ []) [] result are = record { before = []; chunk = chunk; are = refl; works = tt; work = are.0 }
  last_work (chunk ∷ other ∷ chunks) [] result are = absurd are.1
  last_work (chunk ∷ chunks) (r ∷ results) result are =
      let rest = last_work chunks results result are.1 in
      record { before = chunk ∷ rest.before; chunk = rest.chunk; are = ap (λ cs. chunk ∷ cs) rest.are; works = (are.0, rest.works); work = rest.work }

  -- so far, whichever chunks these results are of
  abbrev pub Gathered : Worked C → List (Result (Worked C) NoMemory) → Worked C → Type 0
  Gathered others results all = (threads : List (SeatedThread C)) (chunks : List (Chunk C)) → IsWorkOf state saved code table threads others → AreWorkOf state saved code table chunks results
      → IsWorkOf state saved code table (threads ++ threads_of_chunks chunks) all

  pub gathered_none : (others : Worked C) → Gathered others [] others
  gathered_none others threads [] is are = subst (λ xs. IsWorkOf state saved code table xs others) (sym (append-nil threads)) is
  gathered_none others threads (chunk ∷ chunks) is are = absurd are

  pub gathered_more : (others old new worked : Worked C) (results : List (Result (Worked C) NoMemory)) (result : Result (Worked C) NoMemory) → Gathered others results old → result ≡ Ok worked
      → new.threads.items ≡ old.threads.items ++ worked.threads.items → new.opened ≡ old.opened + worked.opened → new.undone ≡ old.undone + worked.undone
      → IfSome new.met (λ met. (old.met ≡ Some met) ⊎ (worked.met ≡ Some met)) → Gathered others (results ++ result ∷ []) new
  gathered_more others old new worked results result was ok items opened undone met threads chunks is are =
      let last = last_work chunks results result are in
      let its : IsWorkOf state saved code table last.chunk.threads.items worked = subst (λ r. IfOk r (IsWorkOf state saved code table last.chunk.threads.items)) ok last.work in
      let both = work_beside (threads ++ threads_of_chunks last.before) last.chunk.threads.items worked.threads.items worked.opened worked.undone old new (was threads last.before is last.works) its.became items opened undone
      (if_some _ (λ m. (old.met ≡ Some m) ⊎ IsMetAmong state saved code table worked.threads.items m.thread m.limit) new.met (λ m some how. elim how [
        | inl before ↦ inl before
        | inr now ↦ inr (of_some (λ x. IsMetAmong state saved code table worked.threads.items x.thread x.limit) worked.met m now its.met)
      ]) met) in
      let parts : threads ++ threads_of_chunks chunks ≡ (threads ++ threads_of_chunks last.before) ++ last.chunk.threads.items
      = ap (λ cs. threads ++ threads_of_chunks cs) last.are ∙ ap (λ xs. threads ++ xs) (chunks-snoc last.before last.chunk) ∙ sym (append_assoc threads (threads_of_chunks last.before) last.chunk.threads.items) in
      subst (λ xs. IsWorkOf state saved code table xs new) (sym parts) both
