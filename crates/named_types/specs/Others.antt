-- Class names by their places.
use Rattle.std.specs.Prelude.{◌≡◌, ◌++◌, ℕ, List, Option, None, Some, bytes_eq, length, flat_map, if◌then◌else◌}
use Rattle.std.specs.List.{position_from}
use Rattle.std.specs.BTreeMap.{BTreeMap, get_by}
use Rattle.std.specs.Borrow.{Bor}
use Rattle.std.specs.Cmp.Lexicographic.{slice_cmp}
use Rattle.std.specs.Ordering.{nat_cmp}
use Rattle.code_decode.specs.declared.code.ClassUnit.{ClassUnit}
use Rattle.link_rules.specs.Members.{or_first}
use Rattle.link_rules.specs.Names.{class_names_of}
use Rattle.named_types.specs.declared.others.ClassNames.{ClassNames}

-- what a map has for a name
abbrev pub place_in : BTreeMap (Bor (List ℕ)) ℕ → List ℕ → Option ℕ
place_in places name = get_by (λ k. slice_cmp nat_cmp name k.now) places

-- where a name first occurs
abbrev pub first_place : List (List ℕ) → List ℕ → Option ℕ
first_place names name = position_from (bytes_eq name) 0 names

-- places, with one for a name that had none
abbrev pub with_place : (List ℕ → Option ℕ) → List ℕ → ℕ → List ℕ → Option ℕ
with_place places name place other = or_first (places other) (if bytes_eq other name then Some place else None)

-- these are the names, in their order
pub record AreNames (c : ClassNames) (names : List (List ℕ)) : Type 0 where
  pub places : (name : List ℕ) → place_in c.places name ≡ first_place names name
  pub count : c.count ≡ length names

-- these names are added after the others
abbrev pub HasMore : ClassNames → ClassNames → List (List ℕ) → Type 0
HasMore old new more = (names : List (List ℕ)) → AreNames old names → AreNames new (names ++ more)

-- the class names in the pools of files
abbrev pub names_in : List ClassUnit → List (List ℕ)
names_in us = flat_map (λ (u : ClassUnit). flat_map class_names_of u.file.pool) us
