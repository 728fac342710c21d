-- The types that Class entries stand for, by file and pool index (JVMS 4.4.1).
use Rattle.std.specs.Prelude.{◌≡◌, ℕ, Option, None, Some, List, map, slice_get, option_map, option_and_then}
use Rattle.std.specs.Option.{option_flatten}
use Rattle.class_walk.specs.declared.class.Constant.{Constant}
use Rattle.class_walk.specs.declared.class.Constant.TheVariants.{Class, Field, Method, IfaceMethod}
use Rattle.class_pool.specs.Lookup.{utf8_of, class_name_of}
use Rattle.code_decode.specs.declared.code.ClassUnit.{ClassUnit}
use Rattle.link_types.specs.declared.types.ObjectType.{ObjectType}
use Rattle.link_rules.specs.Names.{ProgramNames, program_names, type_named}
use Rattle.pool_types.specs.declared.types.PoolTypes.{PoolTypes}

-- for each entry, what a Class entry that names its text stands for
abbrev pub text_types : ProgramNames → List Constant → List (Option ObjectType)
text_types p pool = map (λ c. option_map (type_named p) (utf8_of (Some c))) pool

-- what an entry stands for, given what each text stands for
abbrev pub entry_type : List (Option ObjectType) → Constant → Option ObjectType
entry_type texts (Class name) = option_flatten (slice_get texts name)
entry_type texts _ = None

abbrev pub entry_types : List (Option ObjectType) → List Constant → List (Option ObjectType)
entry_types texts pool = map (entry_type texts) pool

-- what is kept for an index of the pool of a file
abbrev pub kept_type : List (List (Option ObjectType)) → ℕ → ℕ → Option ObjectType
kept_type rows k i = option_and_then (λ (row : List (Option ObjectType)). option_flatten (slice_get row i)) (slice_get rows k)

-- for each Class entry of a program the type of the class that it names
pub record ArePoolTypes (us : List ClassUnit) (types : PoolTypes) : Type 0 where
  pub rows_are : types.rows.items ≡ map (λ (u : ClassUnit). entry_types (text_types (program_names us) u.file.pool) u.file.pool) us

-- the index of the Class entry of the owner that a member's entry names (JVMS 4.4.2)
abbrev pub owner_at : Option Constant → Option ℕ
owner_at (Some (Field class pair)) = Some class
owner_at (Some (Method class pair)) = Some class
owner_at (Some (IfaceMethod class pair)) = Some class
owner_at _ = None

-- the name of that owner
abbrev pub owner_name_of : List Constant → Option Constant → Option (List ℕ)
owner_name_of pool o = option_and_then (λ class. class_name_of pool (slice_get pool class)) (owner_at o)
