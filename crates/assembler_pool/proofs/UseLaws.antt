-- Uses, one after another.
use Rattle.std.proofs.Common.{◌≡◌, ℕ, List, [], ◌++◌, length, Option, Some, None, Result, Ok, Err, IsErrAnd, slice_get, false, refl, sym, ap, subst, ◌∙◌, append_assoc}
use Rattle.std.proofs.lemmas.List.{append-nil}
use Rattle.class_walk.specs.declared.class.Constant.{Constant}
use Rattle.class_walk.specs.Layout.{is_gap}
use Rattle.assembler_pool.specs.declared.refusal.PoolRefusal.{PoolRefusal}
use Rattle.assembler_pool.specs.declared.refusal.PoolRefusal.TheVariants.{Full, NoMemory}
use Rattle.assembler_pool.specs.Uses.{index_of, slots, Use, ◌>>=◌, again_or_new, entry, Extends, HasRoom, Makes}
use Rattle.assembler_pool.specs.Indexed.{AreDifferent, IsMade}
use Rattle.assembler_pool.proofs.EntryLaws.{stands_at_index, get-end, made-pushed, different-pushed, room_before, fits_at_end, made_has_room}

pub extends_itself : (pool : List Constant) → Extends pool pool
extends_itself pool = ([], sym (append-nil pool))

pub extends_further : (old mid new : List Constant) → Extends old mid → Extends mid new → Extends old new
extends_further old mid new first next =
    (first.0 ++ next.0, next.1 ∙ ap (λ (pool : List Constant). pool ++ next.0) first.1 ∙ append_assoc old first.0 next.0)

room_in : (old new : List Constant) → Extends old new → HasRoom new → HasRoom old
room_in old new more room = room_before old more.0 (subst HasRoom more.1 room)

-- an entry that is there, and one that isn't
pub entry_again : (c : Constant) (pool : List Constant) (index : ℕ) → index_of c pool ≡ Some index → entry c pool ≡ (pool, index)
unfolding entry
entry_again c pool index is = ap (λ (o : Option ℕ). again_or_new o c pool) is

pub entry_new : (c : Constant) (pool : List Constant) → index_of c pool ≡ None → entry c pool ≡ (pool ++ slots c, length pool)
unfolding entry
entry_new c pool is = ap (λ (o : Option ℕ). again_or_new o c pool) is

-- the entry is at its index
pub entry_is_at : (c : Constant) (pool : List Constant) → slice_get (entry c pool).0 (entry c pool).1 ≡ Some c
entry_is_at c pool = by_cases (index_of c pool) refl
  where
    by_cases : (o : Option ℕ) → index_of c pool ≡ o → slice_get (entry c pool).0 (entry c pool).1 ≡ Some c
    by_cases (Some index) is = rw (entry_again c pool index is) (stands_at_index c pool index is)
    by_cases None is = rw (entry_new c pool is) (get-end pool c)

-- what each use keeps
pub record IsKept (u : Use) : Type 0 where
  pub grows : (pool : List Constant) → Extends pool (u pool).0
  pub made : (pool : List Constant) → IsMade pool → HasRoom (u pool).0 → IsMade (u pool).0
  pub different : (pool : List Constant) → AreDifferent pool → AreDifferent (u pool).0

pub entry_kept : (c : Constant) → is_gap c ≡ false → IsKept (entry c)
entry_kept c no_gap = record {
  grows = λ pool. grows_by pool (index_of c pool) refl;
  made = λ pool. made_by pool (index_of c pool) refl;
  different = λ pool. different_by pool (index_of c pool) refl;
}
  where
    grows_by : (pool : List Constant) (o : Option ℕ) → index_of c pool ≡ o → Extends pool (entry c pool).0
    grows_by pool (Some index) is = rw (entry_again c pool index is) (extends_itself pool)
    grows_by pool None is = rw (entry_new c pool is) (slots c, refl)

    made_by : (pool : List Constant) (o : Option ℕ) → index_of c pool ≡ o → IsMade pool → HasRoom (entry c pool).0 → IsMade (entry c pool).0
    made_by pool (Some index) is = rw (entry_again c pool index is) (λ made room. made)
    made_by pool None is = rw (entry_new c pool is) (λ made room. made-pushed pool c no_gap (fits_at_end pool c room.1) room.0 is made)

    different_by : (pool : List Constant) (o : Option ℕ) → index_of c pool ≡ o → AreDifferent pool → AreDifferent (entry c pool).0
    different_by pool (Some index) is = rw (entry_again c pool index is) (λ different. different)
    different_by pool None is = rw (entry_new c pool is) (λ different. different-pushed pool c no_gap different is)

pub then_kept : (first : Use) (next : ℕ → Use) → IsKept first → ((index : ℕ) → IsKept (next index)) → IsKept (first >>= next)
unfolding ◌>>=◌
then_kept first next kept later = record {
  grows = λ pool. extends_further pool (first pool).0 _ (kept.grows pool) ((later (first pool).1).grows (first pool).0);
  made = λ pool made room.
      (later (first pool).1).made (first pool).0 (kept.made pool made (room_in (first pool).0 _ ((later (first pool).1).grows (first pool).0) room)) room;
  different = λ pool different. (later (first pool).1).different (first pool).0 (kept.different pool different);
}

-- a function that makes a use, and then the next one
pub makes_then : (first : Use) (next : ℕ → Use) (old mid new : List Constant) (index : ℕ) (r : Result ℕ PoolRefusal) → IsKept first
    → Makes (Ok index) old mid first → Makes r mid new (next index) → Makes r old new (first >>= next)
unfolding ◌>>=◌
makes_then first next old mid new index r kept begun goes = by_cases r goes
  where
    Pair : Type 0
    Pair = List Constant × ℕ

    same : next (first old).1 (first old).0 ≡ next index mid
    same = ap (λ (p : List Constant × ℕ). next p.1 p.0) begun.1

    grown : Extends old mid
    grown = subst (λ (p : List Constant × ℕ). Extends old p.0) begun.1 (kept.grows old)

    by_cases : (r : Result ℕ PoolRefusal) → Makes r mid new (next index) → Makes r old new (λ pool. next (first pool).1 (first pool).0)
    by_cases (Ok at) made = (made.0, same ∙ made.1)
    by_cases (Err Full) full = (extends_further old mid new grown full.0, λ room. full.1 (subst (λ (p : List Constant × ℕ). HasRoom p.0) same room))
    by_cases (Err NoMemory) more = extends_further old mid new grown more

-- and one that stops before
pub makes_no_more : (first : Use) (next : ℕ → Use) (old new : List Constant) (e : PoolRefusal) → ((index : ℕ) → IsKept (next index))
    → Makes (Err e) old new first → Makes (Err e) old new (first >>= next)
unfolding ◌>>=◌
makes_no_more first next old new Full later stopped =
    (stopped.0, λ room. stopped.1 (room_in (first old).0 _ ((later (first old).1).grows (first old).0) room))
makes_no_more first next old new NoMemory later stopped = stopped

abbrev with_index : List Constant → ℕ → List Constant × ℕ
with_index pool index = (pool, index)

-- an entry that has an index
pub makes_again : (c : Constant) (entries pool : List Constant) (index : ℕ) → entries ≡ pool → IsMade entries → index_of c entries ≡ Some index → Makes (Ok index) pool pool (entry c)
makes_again c entries pool index same made is =
    let P : List Constant → Type 0 = λ p. Makes (Ok index) p p (entry c) in
    subst P same (made_has_room entries made, entry_again c entries index is)

-- one that was put at the end
pub makes_new : (c : Constant) (entries pool new : List Constant) (index : ℕ) → entries ≡ pool → IsMade new → index_of c entries ≡ None → new ≡ entries ++ slots c → index ≡ length entries → Makes (Ok index) pool new (entry c)
makes_new c entries pool new index same made none pushed at =
    (made_has_room new made, ap (λ (p : List Constant). entry c p) (sym same) ∙ entry_new c entries none ∙ ap (λ (p : List Constant). with_index p (length entries)) (sym pushed) ∙ ap (λ (n : ℕ). with_index new n) (sym at))

-- one for which there is no room, or no memory
pub makes_none : (c : Constant) (entries pool new : List Constant) (e : PoolRefusal) → entries ≡ pool → new ≡ entries → index_of c entries ≡ None → (e ≡ Full → ¬ HasRoom (entries ++ slots c)) → Makes (Err e) pool new (entry c)
makes_none c entries pool new Full same kept none full =
    (([], kept ∙ same ∙ sym (append-nil pool)), λ room. full refl (no_room room))
  where
    no_room : HasRoom (entry c pool).0 → HasRoom (entries ++ slots c)
    no_room = subst (λ (p : List Constant × ℕ). HasRoom (entry c pool).0 → HasRoom p.0) (ap (λ (p : List Constant). entry c p) (sym same) ∙ entry_new c entries none) (λ room. room)
makes_none c entries pool new NoMemory same kept none full = ([], kept ∙ same ∙ sym (append-nil pool))

-- what a `?` hands on
pub makes_stopped : (first : Use) (next : ℕ → Use) (old new : List Constant) (r : Result ℕ PoolRefusal) (e : PoolRefusal) → ((index : ℕ) → IsKept (next index))
    → IsErrAnd r (λ given. given ≡ e) → Makes (Err e) old new first → Makes r old new (first >>= next)
makes_stopped first next old new (Ok index) e later given stopped = absurd given
makes_stopped first next old new (Err d) e later given stopped =
    let P : PoolRefusal → Type 0 = λ x. Makes (Err x) old new (first >>= next) in
    subst P (sym given) (makes_no_more first next old new e later stopped)

-- two uses, and an entry that names their indices
module _ (first second : Use) (make : ℕ → ℕ → Constant) (first_kept : IsKept first) (second_kept : IsKept second) (no_gap : (a b : ℕ) → is_gap (make a b) ≡ false) where
  second_and_entry_kept : (a : ℕ) → IsKept (second >>= λ b. entry (make a b))
  second_and_entry_kept a = then_kept second (λ b. entry (make a b)) second_kept (λ b. entry_kept (make a b) (no_gap a b))

  pub joined_kept : IsKept (first >>= λ a. second >>= λ b. entry (make a b))
  joined_kept = then_kept first (λ a. second >>= λ b. entry (make a b)) first_kept second_and_entry_kept

  pub stopped_at_first : (old new : List Constant) (r : Result ℕ PoolRefusal) (e : PoolRefusal) → IsErrAnd r (λ given. given ≡ e)
      → Makes (Err e) old new first → Makes r old new (first >>= λ a. second >>= λ b. entry (make a b))
  stopped_at_first old new r e given stopped = makes_stopped first (λ a. second >>= λ b. entry (make a b)) old new r e second_and_entry_kept given stopped

  pub stopped_at_second : (old mid new : List Constant) (a : ℕ) (r : Result ℕ PoolRefusal) (e : PoolRefusal) → IsErrAnd r (λ given. given ≡ e)
      → Makes (Ok a) old mid first → Makes (Err e) mid new second → Makes r old new (first >>= λ a. second >>= λ b. entry (make a b))
  stopped_at_second old mid new a r e given begun stopped =
      makes_then first (λ a. second >>= λ b. entry (make a b)) old mid new a r first_kept begun
      (makes_stopped second (λ b. entry (make a b)) mid new r e (λ b. entry_kept (make a b) (no_gap a b)) given stopped)

  pub joined : (old mid late new : List Constant) (a b : ℕ) (r : Result ℕ PoolRefusal)
      → Makes (Ok a) old mid first → Makes (Ok b) mid late second → Makes r late new (entry (make a b)) → Makes r old new (first >>= λ a. second >>= λ b. entry (make a b))
  joined old mid late new a b r begun gone ends =
      makes_then first (λ a. second >>= λ b. entry (make a b)) old mid new a r first_kept begun
      (makes_then second (λ b. entry (make a b)) mid late new b r second_kept gone ends)
