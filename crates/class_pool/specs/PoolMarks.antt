-- Which texts the entries of the pool use as what, index by index.
use Rattle.std.specs.Prelude.{◌≡◌, ◌↔◌, ℕ, ◌<◌, Bool, true, false, List, length, Option, Some, None, slice_index_or, slice_set}
use Rattle.class_walk.specs.declared.class.Constant.{Constant}
use Rattle.class_pool.specs.declared.pool.Role.{Role}
use Rattle.class_pool.specs.declared.pool.Role.TheVariants as roles
use Rattle.class_pool.specs.declared.pool.Uses.{Uses}
use Rattle.class_pool.specs.PoolRules.{IsUsed, IsFitFor}

-- one index more is marked, or none
abbrev pub marked : List Bool → Option ℕ → List Bool
marked marks None = marks
marked marks (Some index) = slice_set marks index true

-- these are the marks of this use
pub record AreMarks (pool : List Constant) (role : Role) (marks : List Bool) : Type 0 where
  pub size : length marks ≡ length pool
  pub at : (i : ℕ) → i < length pool → (slice_index_or marks i false ≡ true) ↔ IsUsed pool role i

pub record AreUses (pool : List Constant) (uses : Uses) : Type 0 where
  pub class_names : AreMarks pool roles.ClassName uses.class_names.items
  pub member_names : AreMarks pool roles.MemberName uses.member_names.items
  pub descriptors : AreMarks pool roles.Descriptor uses.descriptors.items

-- where the text is used so, it may be
abbrev pub FitsWhere : List Bool → ℕ → Role → List ℕ → Type 0
FitsWhere marks index role text = slice_index_or marks index false ≡ true → IsFitFor role text

abbrev pub FitsMarks : Uses → ℕ → List ℕ → Type 0
FitsMarks uses index text =
    FitsWhere uses.class_names.items index roles.ClassName text
    × FitsWhere uses.member_names.items index roles.MemberName text
    × FitsWhere uses.descriptors.items index roles.Descriptor text
