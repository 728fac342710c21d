-- Numbers by names.
use Rattle.std.specs.Prelude.{◌≡◌, ◌==◌, ◌&&◌, ℕ, List, bytes_eq, unwrap_or, if◌then◌else◌}
use Rattle.std.specs.BTreeMap.{BTreeMap, get_by}
use Rattle.std.specs.Borrow.{Bor}
use Rattle.std.specs.Cmp.Lexicographic.{slice_cmp}
use Rattle.std.specs.Ordering.{nat_cmp}
use Rattle.link_rules.specs.Classes.{NamedClass, class_number}
use Rattle.class_supers.specs.declared.numbers.ClassNumbers.{ClassNumbers}

-- the number of a name in a map, 0 where it has none
abbrev pub number_in : BTreeMap (Bor (List ℕ)) ℕ → List ℕ → ℕ
number_in numbers name = unwrap_or (get_by (λ k. slice_cmp nat_cmp name k.now) numbers) 0

abbrev pub number_named : ClassNumbers → List ℕ → ℕ
number_named n = number_in n.numbers

-- f, with a number for a name that had none
abbrev pub with_number : (List ℕ → ℕ) → List ℕ → ℕ → List ℕ → ℕ
with_number f name number other = if f other == 0 && bytes_eq name other then number else f other

-- the numbers of some classes by their names
abbrev pub AreNumbersOf : (List ℕ → ℕ) → List NamedClass → Type 0
AreNumbersOf numbers cs = (name : List ℕ) → numbers name ≡ class_number cs name
