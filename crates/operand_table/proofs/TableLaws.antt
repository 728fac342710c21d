-- What is kept for the entries of the pools.
use Rattle.std.proofs.Common.{◌≡◌, ◌<◌, ◌+◌, ◌++◌, ◌∷◌, [], ℕ, List, length, get_or, slice_get, Some, inl, inr, sym, ◌∙◌, ap, subst, arith}
use Rattle.std.specs.Option.{option_map_or}
use Rattle.std.proofs.lemmas.Bool.{cases_lt}
use Rattle.std.proofs.lemmas.List.{get_or_past, length_push}
use Rattle.std.proofs.lemmas.Option.{same_Some, slice_get_cases, slice_get_past, slice_get_within, slice_get-get_or}
use Rattle.class_pool.proofs.Lists.{slice_get-push}
use Rattle.class_walk.specs.declared.class.Constant.{Constant}
use Rattle.code_decode.specs.declared.code.ClassUnit.{ClassUnit}
use Rattle.link_types.specs.declared.operands.Operand.{Operand}
use Rattle.link_types.specs.declared.operands.Operand.TheVariants.{Nothing}
use Rattle.link_rules.specs.Classes.{number_of_file}
use Rattle.link_rules.specs.Names.{ProgramNames, program_names}
use Rattle.link_rules.specs.Operands.{operand_of, operand}
use Rattle.link_rules.proofs.Objects.{unit_of_file}
use Rattle.operand_table.specs.Table.{AreOperands, AreOperandsOf, kept_operand}
use Rattle.operand_table.specs.declared.table.OperandTable.{OperandTable}

pub operand_kept : (p : ProgramNames) (this : ℕ) (pool : List Constant) (row : List Operand) (i : ℕ) → AreOperands p this pool (length pool) row
    → get_or row i Nothing ≡ operand_of p this pool i (slice_get pool i)
operand_kept p this pool row i are = elim (cases_lt i (length row)) [
  | inl lt ↦ are.each i (get_or row i Nothing) (slice_get-get_or row i Nothing lt)
  | inr ge ↦ get_or_past row i Nothing ge ∙ sym (ap (operand_of p this pool i) (slice_get_past pool i (omega (arith, ge, are.count))))
]

operand_there : (us : List ClassUnit) (table : OperandTable) (k i : ℕ) (u : ClassUnit) → AreOperandsOf us table → slice_get us k ≡ Some u
    → kept_operand table.rows.items k i ≡ operand us (number_of_file k) i
operand_there us table k i u are there =
    let p : ProgramNames = program_names us in
    let this : ℕ = number_of_file k in
    let row : List Operand = get_or table.rows.items k [] in
    let lt : k < length us = slice_get_within us k u there in
    let at : slice_get table.rows.items k ≡ Some row = slice_get-get_or table.rows.items k [] (omega (arith, lt, are.count)) in
    operand_kept p this u.file.pool row i (are.each k u row there at)
    ∙ sym (ap (λ o. option_map_or (λ (x : ClassUnit). operand_of p this x.file.pool i (slice_get x.file.pool i)) o Nothing) (unit_of_file us k ∙ there))

pub operand_is : (us : List ClassUnit) (table : OperandTable) (k i : ℕ) → AreOperandsOf us table → kept_operand table.rows.items k i ≡ operand us (number_of_file k) i
operand_is us table k i are = elim (slice_get_cases us k).1 [
  | inl (u, lt, at, read) ↦ operand_there us table k i u are at
  | inr (ge, past) ↦
      let p : ProgramNames = program_names us in
      let no_row : get_or table.rows.items k [] ≡ [] = get_or_past table.rows.items k [] (omega (arith, ge, are.count)) in
      ap (λ row. get_or row i Nothing) no_row
      ∙ sym (ap (λ o. option_map_or (λ (x : ClassUnit). operand_of p (number_of_file k) x.file.pool i (slice_get x.file.pool i)) o Nothing) (unit_of_file us k ∙ past))
]

-- one entry more
pub one_more : (p : ProgramNames) (this n : ℕ) (pool : List Constant) (row : List Operand) (entry : Constant) (o : Operand) → AreOperands p this pool n row
    → slice_get pool n ≡ Some entry → o ≡ operand_of p this pool n (Some entry) → AreOperands p this pool (n + 1) (row ++ o ∷ [])
one_more p this n pool row entry o are there is = record {
  count = length_push row o ∙ ap (λ m. m + 1) are.count;
  each = λ i x at. elim (slice_get-push row o x i at) [
    | inl old ↦ are.each i x old
    | inr last ↦
        let here : o ≡ operand_of p this pool n (slice_get pool n) = is ∙ ap (operand_of p this pool n) (sym there) in
        let place : i ≡ n = last.0 ∙ are.count in
        sym last.1 ∙ here ∙ ap (λ j. operand_of p this pool j (slice_get pool j)) (sym place)
  ];
}

-- one row more
pub record AreRows (p : ProgramNames) (us : List ClassUnit) (n : ℕ) (rows : List (List Operand)) : Type 0 where
  pub count : length rows ≡ n
  pub each : (k : ℕ) (u : ClassUnit) (row : List Operand) → slice_get us k ≡ Some u → slice_get rows k ≡ Some row →
      AreOperands p (number_of_file k) u.file.pool (length u.file.pool) row

pub one_row_more : (p : ProgramNames) (us : List ClassUnit) (n : ℕ) (rows : List (List Operand)) (u : ClassUnit) (row : List Operand) → AreRows p us n rows
    → slice_get us n ≡ Some u → AreOperands p (number_of_file n) u.file.pool (length u.file.pool) row → AreRows p us (n + 1) (rows ++ row ∷ [])
one_row_more p us n rows u row are there here = record {
  count = length_push rows row ∙ ap (λ m. m + 1) are.count;
  each = λ k x y unit at. elim (slice_get-push rows row y k at) [
    | inl old ↦ are.each k x y unit old
    | inr last ↦
        let place : k ≡ n = last.0 ∙ are.count in
        let same : u ≡ x = same_Some u x (sym there ∙ ap (slice_get us) (sym place) ∙ unit) in
        let its = subst (λ (z : ClassUnit). AreOperands p (number_of_file n) z.file.pool (length z.file.pool) row) same here in
        let its_row = subst (λ z. AreOperands p (number_of_file n) x.file.pool (length x.file.pool) z) last.1 its in
        subst (λ j. AreOperands p (number_of_file j) x.file.pool (length x.file.pool) y) (sym place) its_row
  ];
}
