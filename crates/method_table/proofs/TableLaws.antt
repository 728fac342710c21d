-- What the tables of methods say is what the files say.
use Rattle.std.proofs.Common.{◌≡◌, ◌≢◌, ℕ, zero, suc, List, length, map, slice_get, Option, None, Some, inl, inr, refl, sym, ◌∙◌, ap, arith}
use Rattle.std.specs.List.{range_with_len, position_from}
use Rattle.std.specs.Option.{option_map, option_and_then}
use Rattle.std.proofs.lemmas.Bool.{cases_lt}
use Rattle.std.proofs.lemmas.Option.{slice_get-map}
use Rattle.class_texts.specs.Texts.{ProgramTexts}
use Rattle.text_numbers.specs.Numbers.{number_of}
use Rattle.text_numbers.proofs.NumberLaws.{text_of_number}
use Rattle.link_types.specs.declared.methods.MethodType.{MethodType}
use Rattle.link_types.specs.declared.operands.MethodId.{MethodId}
use Rattle.link_rules.specs.Classes.{NamedClass, NamedMember, classes_of, methods_of}
use Rattle.link_rules.specs.Members.{declared_at, method_id, signature_of}
use Rattle.link_rules.specs.Methods.{initializes_class, initializer}
use Rattle.link_rules.specs.Names.{program_names}
use Rattle.named_types.specs.Methods.{method_type}
use Rattle.member_lookup.specs.Found.{HaveNumbers}
use Rattle.member_lookup.specs.Rows.{row_of, class_rows}
use Rattle.member_lookup.proofs.FoundLaws.{no_methods}
use Rattle.member_lookup.proofs.PlaceLaws.{row_at, numbered_at, numbered_past}
use Rattle.method_table.specs.declared.classes.ClassMethods.{ClassMethods}
use Rattle.method_table.specs.declared.rows_of.MethodRow.{MethodRow}
use Rattle.method_table.specs.declared.table.MethodTable.{MethodTable}
use Rattle.method_table.specs.Called.{called, called_member, called_row, called_in, kind_in, row_in, initializer_in}
use Rattle.method_table.specs.Methods.{AreMethodsOf}
use Rattle.method_table.specs.Rows.{method_row, class_methods}

-- ---- the rows of a class

row_made : (ts : List (List ℕ)) (id : MethodId) → NamedMember → MethodRow
row_made ts id m = method_row (row_of ts id.class id.method m)

made_twice : (ts : List (List ℕ)) (id : MethodId) (o : Option NamedMember) → option_map method_row (option_map (row_of ts id.class id.method) o) ≡ option_map (row_made ts id) o
unfolding row_made
made_twice ts id None = refl
made_twice ts id (Some m) = refl

row_is : (p : ProgramTexts) (id : MethodId)
    → row_in (map (class_methods p) (range_with_len 0 (suc (length (classes_of p.units))))) id ≡ option_map (row_made p.texts id) (slice_get (methods_of (classes_of p.units) id.class) id.method)
row_is p id = elim (cases_lt id.class (suc (length cs))) [
  | inl inside ↦
      ap (option_and_then in_class) (numbered_at (class_methods p) (suc (length cs)) id.class inside)
      ∙ slice_get-map method_row (class_rows p.texts (methods_of cs) id.class) id.method
      ∙ ap (option_map method_row) (row_at p.texts (methods_of cs) id.class id.method)
      ∙ made_twice p.texts id (slice_get (methods_of cs id.class) id.method)
  | inr past ↦
      ap (option_and_then in_class) (numbered_past (class_methods p) (suc (length cs)) id.class past)
      ∙ sym (ap (λ ms. option_map (row_made p.texts id) (slice_get ms id.method)) (no_methods cs id.class (omega arith)))
]
  where
    cs : List NamedClass
    cs = classes_of p.units

    in_class : ClassMethods → Option MethodRow
    in_class k = slice_get k.rows id.method

-- ---- the type of a descriptor

pub kind_is : (T : List ℕ → MethodType) (ts : List (List ℕ)) (text : List ℕ) → number_of ts text ≢ 0 → kind_in (map T ts) (number_of ts text) ≡ Some (T text)
kind_is T ts text some = go (number_of ts text) refl some
  where
    go : (n : ℕ) → number_of ts text ≡ n → n ≢ 0 → kind_in (map T ts) n ≡ Some (T text)
    go zero is ne = absurd (ne refl)
    go (suc i) is ne = slice_get-map T ts i ∙ ap (option_map T) (text_of_number ts text i is)

-- ---- all methods and initializers

module _ (p : ProgramTexts) (table : MethodTable)
    (numbered : (c i : ℕ) (m : NamedMember) → slice_get (methods_of (classes_of p.units) c) i ≡ Some m → HaveNumbers p (number_of p.texts m.name) (number_of p.texts m.descriptor) (signature_of m))
    (classes : table.classes.items ≡ map (class_methods p) (range_with_len 0 (suc (length (classes_of p.units)))))
    (kinds : table.kinds.items ≡ map (method_type (program_names p.units)) p.texts) where
  method_is : (id : MethodId) → called_in table.classes.items table.kinds.items id ≡ called p.units id
  unfolding row_made
  method_is id =
      ap (λ ks. called_in ks table.kinds.items id) classes
      ∙ ap (λ ts. option_and_then (called_row ts) (row_in (map (class_methods p) (range_with_len 0 (suc (length (classes_of p.units))))) id)) kinds
      ∙ ap (option_and_then (called_row (map (method_type (program_names p.units)) p.texts))) (row_is p id)
      ∙ by_member (slice_get (methods_of (classes_of p.units) id.class) id.method) refl
    where
      by_member : (o : Option NamedMember) → slice_get (methods_of (classes_of p.units) id.class) id.method ≡ o
          → option_and_then (called_row (map (method_type (program_names p.units)) p.texts)) (option_map (row_made p.texts id) o) ≡ option_map (called_member (program_names p.units) id) o
      by_member None at = refl
      by_member (Some m) at =
          let kind = kind_is (method_type (program_names p.units)) p.texts m.descriptor (numbered id.class id.method m at).descriptor_has in
          let row : MethodRow = method_row (row_of p.texts id.class id.method m) in
          ap (option_map (λ (k : MethodType). record { flags = row.flags; kind = k; body = row.body })) kind

  initializer_is : (c : ℕ) → initializer_in table.classes.items c ≡ initializer (classes_of p.units) c
  initializer_is c =
      ap (λ ks. initializer_in ks c) classes ∙ elim (cases_lt c (suc (length (classes_of p.units)))) [
        | inl inside ↦ ap (option_and_then (λ (k : ClassMethods). k.initializer)) (numbered_at (class_methods p) (suc (length (classes_of p.units))) c inside)
        | inr past ↦
            ap (option_and_then (λ (k : ClassMethods). k.initializer)) (numbered_past (class_methods p) (suc (length (classes_of p.units))) c past)
            ∙ sym (ap (λ ms. option_map method_id (option_and_then (declared_at ms c) (position_from initializes_class 0 ms))) (no_methods (classes_of p.units) c (omega arith)))
      ]

  pub are_methods : AreMethodsOf p.units table
  are_methods = record { methods = method_is; initializers = initializer_is }
