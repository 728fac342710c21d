-- Members by signature: by a name and a descriptor.
use Rattle.std.specs.Prelude.{◌≡◌, ◌≢◌, ◌≤◌, ◌==◌, ◌&&◌, ℕ, zero, suc, Bool, List, [], length, filter, unwrap_or, slice_index_or}
use Rattle.std.specs.BTreeMap.{BTreeMap, get_by}
use Rattle.std.specs.Ordering.{nat_cmp, ordering_then}
use Rattle.member_table.specs.declared.table.MemberRow.{MemberRow}

abbrev pub has_signature : ℕ → ℕ → MemberRow → Bool
has_signature name descriptor m = m.name == name && m.descriptor == descriptor

-- the number of a signature in a map, 0 where it has none
abbrev pub number_in : BTreeMap (ℕ × ℕ) ℕ → ℕ → ℕ → ℕ
number_in numbers name descriptor = unwrap_or (get_by (λ k. ordering_then (nat_cmp name k.0) (nat_cmp descriptor k.1)) numbers) 0

-- the group of a number
abbrev pub group_in : List (List MemberRow) → ℕ → List MemberRow
group_in groups zero = []
group_in groups (suc i) = slice_index_or groups i []

-- each signature of some members has a number of its own, and at this number its members in their order
pub record IsGrouped (numbers : BTreeMap (ℕ × ℕ) ℕ) (groups : List (List MemberRow)) (rows : List MemberRow) : Type 0 where
  pub within : (n d : ℕ) → number_in numbers n d ≤ length groups
  pub alone : (n d m e : ℕ) → number_in numbers n d ≢ 0 → number_in numbers m e ≡ number_in numbers n d → (m ≡ n) × (e ≡ d)
  pub members : (n d : ℕ) → group_in groups (number_in numbers n d) ≡ filter (has_signature n d) rows
