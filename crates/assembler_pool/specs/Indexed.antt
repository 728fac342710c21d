-- Pools that are made, with the indices of their entries.
use Rattle.std.specs.Prelude.{◌≡◌, ℕ, Bool, true, false, List, [], ◌∷◌, Option, Some, slice_get}
use Rattle.class_walk.specs.declared.class.Constant.{Constant}
use Rattle.class_walk.specs.declared.class.Constant.TheVariants.{Utf8}
use Rattle.class_walk.specs.Layout.{is_gap, is_wide, IsPool}
use Rattle.assembler_pool.specs.declared.key.Key.{Key}
use Rattle.assembler_pool.specs.Key.{constant_of}
use Rattle.assembler_pool.specs.Uses.{index_of}

-- no entry is at two indices
abbrev pub AreDifferent : List Constant → Type 0
AreDifferent pool =
    (i j : ℕ) (c : Constant) → slice_get pool i ≡ Some c → slice_get pool j ≡ Some c → is_gap c ≡ false → i ≡ j

-- whether a gap is due after these entries
abbrev pub is_gap_due : Bool → List Constant → Bool
is_gap_due due [] = due
is_gap_due due (c ∷ cs) = is_gap_due (is_wide c) cs

-- a pool of different entries, to which entries can be added
pub record IsMade (pool : List Constant) : Type 0 where
  pub sound : IsPool pool
  pub complete : is_gap_due true pool ≡ false
  pub different : AreDifferent pool

-- the index of each text and of each other entry is known
pub record IsIndexed (pool : List Constant) (text_at : List ℕ → Option ℕ) (entry_at : Key → Option ℕ) : Type 0 where
  pub made : IsMade pool
  pub texts : (text : List ℕ) → text_at text ≡ index_of (Utf8 text) pool
  pub others : (key : Key) → entry_at key ≡ index_of (constant_of key) pool
