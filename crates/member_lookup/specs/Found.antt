-- What look-up is asked for and what it finds, by numbers.
use Rattle.std.specs.Prelude.{◌≡◌, ◌≢◌, ◌≤◌, ◌-◌, ◌&&◌, ℕ, ⊤, Option, None, Some, List, filter, length, map, codes, slice_index, if◌then◌else◌}
use Rattle.std.specs.List.{find}
use Rattle.builtin_world.specs.declared.number.TheConstants.{OBJECT}
use Rattle.class_pool.specs.Pool.{Reference}
use Rattle.code_decode.specs.declared.code.ClassUnit.{ClassUnit}
use Rattle.class_texts.specs.Texts.{ProgramTexts}
use Rattle.text_numbers.specs.Numbers.{number_of}
use Rattle.link_rules.specs.Classes.{NamedClass, classes_of, class_number, methods_of, is_array_name}
use Rattle.link_rules.specs.Members.{Declared, holder}
use Rattle.member_table.specs.declared.table.MemberRow.{MemberRow}
use Rattle.member_table.specs.Members.{has_signature}
use Rattle.member_lookup.specs.declared.found.Found.{Found}
use Rattle.member_lookup.specs.declared.found.ReferenceNumbers.{ReferenceNumbers}
use Rattle.member_lookup.specs.declared.tables.Tables.{Tables}
use Rattle.member_lookup.specs.Rows.{AreTables, is_virtual_row, rows_of_classes}

abbrev pub found_of : Declared → Found
found_of d = record { class = d.class; place = d.place; flags = d.member.flags }

abbrev pub found_row : MemberRow → Found
found_row m = record { class = m.class; place = m.place; flags = m.flags }

-- a reference by numbers: of the class in which look-up begins, and of the texts
abbrev pub numbers_of : ProgramTexts → Reference → ReferenceNumbers
numbers_of p r = record {
  holder = holder (classes_of p.units) r;
  name = number_of p.texts r.name;
  descriptor = number_of p.texts r.descriptor;
}

-- these are the numbers of a reference whose texts have some
pub record AreNumbers (p : ProgramTexts) (n : ReferenceNumbers) (r : Reference) : Type 0 where
  pub are : n ≡ numbers_of p r
  pub name : number_of p.texts r.name ≢ 0
  pub descriptor : number_of p.texts r.descriptor ≢ 0

-- these are the numbers of the name and the descriptor of a reference, which have some
pub record HaveNumbers (p : ProgramTexts) (name descriptor : ℕ) (r : Reference) : Type 0 where
  pub name_is : name ≡ number_of p.texts r.name
  pub descriptor_is : descriptor ≡ number_of p.texts r.descriptor
  pub name_has : number_of p.texts r.name ≢ 0
  pub descriptor_has : number_of p.texts r.descriptor ≢ 0

-- among the rows of all classes, the methods of a signature that are neither static nor private
abbrev pub virtuals_of : ProgramTexts → ℕ → ℕ → List MemberRow
virtuals_of p name descriptor =
    filter (λ m. has_signature name descriptor m && is_virtual_row m)
    (rows_of_classes p.texts (methods_of (classes_of p.units)) (length (classes_of p.units)))

-- among the rows of all classes, the first method of a signature that is neither static nor private
abbrev pub first_virtual : ProgramTexts → ℕ → ℕ → Option MemberRow
first_virtual p name descriptor =
    find (λ m. has_signature name descriptor m && is_virtual_row m)
    (rows_of_classes p.texts (methods_of (classes_of p.units)) (length (classes_of p.units)))

-- the class in which look-up begins where a class of this name is named
abbrev pub holder_named : List NamedClass → List ℕ → ℕ
holder_named cs name = if is_array_name name then OBJECT else class_number cs name

-- what look-up is based on
pub record IsLookup (us : List ClassUnit) (p : ProgramTexts) (holders : List ℕ) (initializer : ℕ) (t : Tables) : Type 0 where
  pub units : p.units ≡ us
  pub tables : AreTables us p.texts (length (classes_of us)) t
  pub holders_are : holders ≡ map (holder_named (classes_of us)) p.texts
  pub initializer_is : initializer ≡ number_of p.texts (codes "<init>")

-- the numbers of no reference, or of one whose class may be there
abbrev pub AreNumbersOf : ProgramTexts → Option Reference → Option ReferenceNumbers → Type 0
AreNumbersOf p None None = ⊤
AreNumbersOf p (Some r) (Some n) = AreNumbers p n r × (n.holder ≤ length (classes_of p.units))
AreNumbersOf p None (Some n) = ⊥
AreNumbersOf p (Some r) None = ⊥

abbrev pub both_numbers : Option ℕ → Option ℕ → Option (ℕ × ℕ)
both_numbers None d = None
both_numbers (Some n) None = None
both_numbers (Some n) (Some d) = Some (n, d)

-- a reference by the number of its class's text, for which holders are known, and those of its name and descriptor
abbrev pub assembled : List ℕ → Option ℕ → Option (ℕ × ℕ) → Option ReferenceNumbers
assembled holders None pair = None
assembled holders (Some c) None = None
assembled holders (Some c) (Some p) = Some (record { holder = slice_index holders (c - 1); name = p.0; descriptor = p.1 })
