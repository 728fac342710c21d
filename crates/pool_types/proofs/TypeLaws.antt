-- The type at an index of a pool.
use Rattle.std.proofs.Common.{◌≡◌, ℕ, ◌+◌, List, [], ◌∷◌, ◌++◌, Option, None, Some, map, take, slice_get, refl, sym, ap, ◌∙◌}
use Rattle.std.specs.Option.{option_map, option_and_then, option_flatten}
use Rattle.std.proofs.lemmas.List.{map-append}
use Rattle.std.proofs.lemmas.Option.{slice_get-map}
use Rattle.class_read.proofs.FindLaws.{take_next}
use Rattle.class_walk.specs.declared.class.Constant.{Constant}
use Rattle.class_walk.specs.declared.class.Constant.TheVariants.{Class}
use Rattle.class_pool.specs.Lookup.{utf8_of, class_name_of}
use Rattle.code_decode.specs.declared.code.ClassUnit.{ClassUnit}
use Rattle.link_types.specs.declared.types.ObjectType.{ObjectType}
use Rattle.link_rules.specs.Names.{ProgramNames, program_names, type_named}
use Rattle.pool_types.specs.declared.types.PoolTypes.{PoolTypes}
use Rattle.pool_types.specs.Types.{text_types, entry_type, entry_types, kept_type, ArePoolTypes}

text_at : (p : ProgramNames) (pool : List Constant) (i : ℕ) → option_flatten (slice_get (text_types p pool) i) ≡ option_map (type_named p) (utf8_of (slice_get pool i))
text_at p pool i = ap option_flatten (slice_get-map (λ c. option_map (type_named p) (utf8_of (Some c))) pool i) ∙ go (slice_get pool i)
  where
    go : (o : Option Constant) → option_flatten (option_map (λ c. option_map (type_named p) (utf8_of (Some c))) o) ≡ option_map (type_named p) (utf8_of o)
    go None = refl
    go (Some c) = refl

entry_at : (p : ProgramNames) (pool : List Constant) (o : Option Constant)
    → option_flatten (option_map (entry_type (text_types p pool)) o) ≡ option_map (type_named p) (class_name_of pool o)
entry_at p pool None = refl
entry_at p pool (Some (Class name)) = text_at p pool name
entry_at p pool (Some c) = refl

pub type_right : (us : List ClassUnit) (types : PoolTypes) (k i : ℕ) (u : ClassUnit) → ArePoolTypes us types → slice_get us k ≡ Some u
    → kept_type types.rows.items k i ≡ option_map (type_named (program_names us)) (class_name_of u.file.pool (slice_get u.file.pool i))
type_right us types k i u are there =
    let p : ProgramNames = program_names us in
    let row = λ (x : ClassUnit). entry_types (text_types (program_names us) x.file.pool) x.file.pool in
    let at : slice_get types.rows.items k ≡ Some (entry_types (text_types (program_names us) u.file.pool) u.file.pool) =
    ap (λ rows. slice_get rows k) are.rows_are ∙ slice_get-map (λ (x : ClassUnit). entry_types (text_types (program_names us) x.file.pool) x.file.pool) us k
    ∙ ap (option_map (λ (x : ClassUnit). entry_types (text_types (program_names us) x.file.pool) x.file.pool)) there in
    ap (λ o. option_and_then (λ (row : List (Option ObjectType)). option_flatten (slice_get row i)) o) at
    ∙ ap option_flatten (slice_get-map (entry_type (text_types (program_names us) u.file.pool)) u.file.pool i)
    ∙ entry_at (program_names us) u.file.pool (slice_get u.file.pool i)

pub rows_more : (p : ProgramNames) (us : List ClassUnit) (n : ℕ) (u : ClassUnit) (old new : List (List (Option ObjectType))) (row : List (Option ObjectType)) → slice_get us n ≡ Some u
    → old ≡ map (λ (x : ClassUnit). entry_types (text_types p x.file.pool) x.file.pool) (take n us) → row ≡ entry_types (text_types p u.file.pool) u.file.pool → new ≡ old ++ row ∷ []
    → new ≡ map (λ (x : ClassUnit). entry_types (text_types p x.file.pool) x.file.pool) (take (n + 1) us)
rows_more p us n u old new row at are its push =
    push ∙ ap (λ xs. xs ++ row ∷ []) are ∙ ap (λ r. map (λ (x : ClassUnit). entry_types (text_types p x.file.pool) x.file.pool) (take n us) ++ r ∷ []) its
    ∙ sym (map-append (λ (x : ClassUnit). entry_types (text_types p x.file.pool) x.file.pool) (take n us) (u ∷ []))
    ∙ ap (map (λ (x : ClassUnit). entry_types (text_types p x.file.pool) x.file.pool)) (sym (take_next us n u at))
