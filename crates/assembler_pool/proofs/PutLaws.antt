-- An entry that is put at the end makes its use.
use Rattle.std.proofs.Common.{◌≡◌, ℕ, ◌≤◌, ◌<◌, ◌^◌, false, List, ◌++◌, length, None, Result, Ok, Err, sym, ap, subst, arith}
use Rattle.std.specs.BTreeMap.{BTreeMap}
use Rattle.std.specs.declared.cmp.Ordering.{Ordering}
use Rattle.class_walk.specs.declared.class.Constant.{Constant}
use Rattle.class_walk.specs.declared.class.Constant.TheVariants.{Utf8}
use Rattle.class_walk.specs.Layout.{is_gap, Fits}
use Rattle.assembler_pool.specs.declared.refusal.PoolRefusal.{PoolRefusal}
use Rattle.assembler_pool.specs.declared.refusal.PoolRefusal.TheVariants.{Full}
use Rattle.assembler_pool.specs.Uses.{index_of, slots, entry, HasRoom, Makes}
use Rattle.assembler_pool.specs.Indexed.{IsMade}
use Rattle.assembler_pool.proofs.EntryLaws.{made-pushed, fits_at_end}
use Rattle.assembler_pool.proofs.IndexLaws.{Puts}
use Rattle.assembler_pool.proofs.UseLaws.{makes_new, makes_none}

module _ (entries pool new : List Constant) (c : Constant) (same : entries ≡ pool) (made : IsMade entries) (none : index_of c entries ≡ None) where
  pub put_makes : {K : Type 0} (cmp : K → K → Ordering) (r : Result ℕ PoolRefusal) (m n : BTreeMap K ℕ) (key : K) → is_gap c ≡ false → Fits c → Puts K cmp r entries new m n key c → Makes r pool new (entry c)
  put_makes cmp (Ok index) m n key no_gap fits puts =
      let count : length (entries ++ slots c) < 2 ^ 16 = subst (λ (p : List Constant). length p < 2 ^ 16) puts.pushed puts.room in
      makes_new c entries pool new index same (subst IsMade (sym puts.pushed) (made-pushed entries c no_gap fits count none made)) none puts.pushed puts.index
  put_makes cmp (Err e) m n key no_gap fits puts = makes_none c entries pool new e same puts.err none no_room
    where
      err_of : PoolRefusal → Result ℕ PoolRefusal
      err_of x = Err x

      no_room : e ≡ Full → ¬ HasRoom (entries ++ slots c)
      no_room is room = let more = puts.full (ap err_of is) in let less = room.0 in omega arith

-- a text that is too long
pub too_long : (entries pool : List Constant) (bytes : List ℕ) → entries ≡ pool → index_of (Utf8 bytes) entries ≡ None → 2 ^ 16 ≤ length bytes → Makes (Err Full) pool pool (entry (Utf8 bytes))
too_long entries pool bytes same none long = makes_none (Utf8 bytes) entries pool pool Full same (sym same) none no_room
  where
    no_room : Full ≡ Full → ¬ HasRoom (entries ++ slots (Utf8 bytes))
    no_room is room = let short = fits_at_end entries (Utf8 bytes) room.1 in omega (arith, short)
