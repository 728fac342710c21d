-- The number at an index of a pool.
use Rattle.std.proofs.Common.{◌≡◌, ℕ, List, [], Option, None, Some, map, slice_get, get_or, unwrap_or, refl, sym, ◌∙◌, ap}
use Rattle.std.specs.Option.{option_map}
use Rattle.std.proofs.lemmas.Option.{slice_get-map, get_or_from_slice_get, unwrap_or-slice_get}
use Rattle.class_walk.specs.declared.class.Constant.{Constant}
use Rattle.code_decode.specs.declared.code.ClassUnit.{ClassUnit}
use Rattle.class_texts.specs.Texts.{entry_number, pool_row}

in_row : (ts : List (List ℕ)) (pool : List Constant) (i : ℕ) → get_or (pool_row ts pool) i 0 ≡ entry_number ts (slice_get pool i)
in_row ts pool i =
    sym (unwrap_or-slice_get (pool_row ts pool) i 0) ∙ ap (λ o. unwrap_or o 0) (slice_get-map (λ c. entry_number ts (Some c)) pool i) ∙ by_entry (slice_get pool i)
  where
    by_entry : (o : Option Constant) → unwrap_or (option_map (λ c. entry_number ts (Some c)) o) 0 ≡ entry_number ts o
    by_entry None = refl
    by_entry (Some c) = refl

pub number_at : (ts : List (List ℕ)) (us : List ClassUnit) (rows : List (List ℕ)) (k i : ℕ) (u : ClassUnit) → rows ≡ map (λ u. pool_row ts u.file.pool) us → slice_get us k ≡ Some u
    → get_or (get_or rows k []) i 0 ≡ entry_number ts (slice_get u.file.pool i)
number_at ts us rows k i u are there =
    let at : slice_get rows k ≡ Some (pool_row ts u.file.pool) = ap (λ xs. slice_get xs k) are ∙ slice_get-map (λ (x : ClassUnit). pool_row ts x.file.pool) us k ∙ ap (option_map (λ (x : ClassUnit). pool_row ts x.file.pool)) there in
    ap (λ row. get_or row i 0) (get_or_from_slice_get rows k (pool_row ts u.file.pool) [] at) ∙ in_row ts u.file.pool i
