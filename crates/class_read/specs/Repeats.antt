-- Members that repeat an earlier one (JVMS 4.5, 4.6).
use Rattle.std.specs.Prelude.{◌≡◌, ℕ, ◌<◌, Bool, true, false, if◌then◌else◌, List, Option, Some, None, slice_get, map, take}
use Rattle.std.specs.Borrow.{Bor}
use Rattle.std.specs.List.{position_from}
use Rattle.std.specs.BTreeMap.{BTreeMap, get_by}
use Rattle.std.specs.Cmp.Lexicographic.{slice_cmp}
use Rattle.std.specs.BTreeSet.{BTreeSet, contains}
use Rattle.std.specs.declared.cmp.Ordering.{Ordering}
use Rattle.std.specs.Ordering.{nat_cmp, ordering_then, is_eq}
use Rattle.std.specs.Option.{option_and_then}
use Rattle.class_walk.specs.declared.class.Constant.{Constant}
use Rattle.class_walk.specs.declared.class.Constant.TheVariants.{Utf8}
use Rattle.class_walk.specs.declared.class.RawMember.{RawMember}
use Rattle.class_pool.specs.Pool.{IsUtf8At}
use Rattle.class_pool.specs.PoolTest.{is_text}

-- the same text is at both indices
abbrev pub IsSameText : List Constant → ℕ → ℕ → Type 0
IsSameText pool i j = (text : List ℕ) × IsUtf8At pool i text × IsUtf8At pool j text

-- the same name and the same descriptor
abbrev pub IsSameSignature : List Constant → RawMember → RawMember → Type 0
IsSameSignature pool x y = IsSameText pool x.name y.name × IsSameText pool x.descriptor y.descriptor

-- a member before this index has the name and the descriptor of this one
abbrev pub IsRepeated : List Constant → List RawMember → ℕ → RawMember → Type 0
IsRepeated pool members index m =
    (j : ℕ) × (y : RawMember) × (j < index) × (slice_get members j ≡ Some y) × IsSameSignature pool y m

-- no member before this index repeats an earlier one
abbrev pub NoneRepeated : List Constant → List RawMember → ℕ → Type 0
NoneRepeated pool members end =
    (i : ℕ) (x : RawMember) → i < end → slice_get members i ≡ Some x → ¬ IsRepeated pool members i x

-- the first member that repeats an earlier one, or none
abbrev pub IsFirstRepeat : List Constant → List RawMember → Option ℕ → Type 0
IsFirstRepeat pool members None = (i : ℕ) (x : RawMember) → slice_get members i ≡ Some x → ¬ IsRepeated pool members i x
IsFirstRepeat pool members (Some index) =
    ((x : RawMember) × (slice_get members index ≡ Some x) × IsRepeated pool members index x) × NoneRepeated pool members index

-- the number of a text: the first index at which it is
abbrev pub has_text : List ℕ → Constant → Bool
has_text text c = is_text text (Some c)

abbrev pub number_in : List Constant → List ℕ → Option ℕ
number_in pool text = position_from (has_text text) 0 pool

abbrev pub number_of : List Constant → Constant → Option ℕ
number_of pool (Utf8 text) = number_in pool text
number_of pool _ = None

abbrev pub numbers_of : List Constant → List (Option ℕ)
numbers_of pool = map (number_of pool) pool

-- the map has the number of each text that occurs before an index
abbrev pub Knows : List Constant → ℕ → BTreeMap (Bor (List ℕ)) ℕ → Type 0
Knows pool end known = (text : List ℕ) → get_by (λ k. slice_cmp nat_cmp text k.now) known ≡ number_in (take end pool) text

abbrev pub text_number_at : List (Option ℕ) → ℕ → Option ℕ
text_number_at numbers index = option_and_then (λ n. n) (slice_get numbers index)

-- two numbers where there are both
abbrev pub both : Option ℕ → Option ℕ → Option (ℕ × ℕ)
both (Some a) (Some b) = Some (a, b)
both (Some a) None = None
both None b = None

-- the numbers of the name and the descriptor
abbrev pub key_of : List (Option ℕ) → RawMember → Option (ℕ × ℕ)
key_of numbers m = both (text_number_at numbers m.name) (text_number_at numbers m.descriptor)

-- pairs of numbers in order
abbrev pub key_cmp : ℕ × ℕ → ℕ × ℕ → Ordering
key_cmp a b = ordering_then (nat_cmp a.0 b.0) (nat_cmp a.1 b.1)

abbrev pub has_key : BTreeSet (ℕ × ℕ) → Option (ℕ × ℕ) → Bool
has_key seen None = false
has_key seen (Some key) = contains key_cmp seen key

abbrev pub is_key : Option (ℕ × ℕ) → ℕ × ℕ → Bool
is_key None other = false
is_key (Some key) other = is_eq (key_cmp key other)

-- the key is there, and may have been there already
pub record AddsKey (old new : BTreeSet (ℕ × ℕ)) (key : Option (ℕ × ℕ)) (again : Bool) : Type 0 where
  pub found : again ≡ has_key old key
  pub keys : (other : ℕ × ℕ) → contains key_cmp new other ≡ (if is_key key other then true else contains key_cmp old other)

-- a member before this index has the same two numbers
abbrev pub HasRepeatedKey : List (Option ℕ) → List RawMember → ℕ → RawMember → Type 0
HasRepeatedKey numbers members index m =
    (j : ℕ) × (y : RawMember) × (j < index) × (slice_get members j ≡ Some y)
    × (key : ℕ × ℕ) × (key_of numbers y ≡ Some key) × (key_of numbers m ≡ Some key)

abbrev pub NoKeyRepeated : List (Option ℕ) → List RawMember → ℕ → Type 0
NoKeyRepeated numbers members end =
    (i : ℕ) (x : RawMember) → i < end → slice_get members i ≡ Some x → ¬ HasRepeatedKey numbers members i x

-- the first member that has the numbers of an earlier one, or none
abbrev pub IsFirstRepeatedKey : List (Option ℕ) → List RawMember → Option ℕ → Type 0
IsFirstRepeatedKey numbers members None =
    (i : ℕ) (x : RawMember) → slice_get members i ≡ Some x → ¬ HasRepeatedKey numbers members i x
IsFirstRepeatedKey numbers members (Some index) =
    ((x : RawMember) × (slice_get members index ≡ Some x) × HasRepeatedKey numbers members index x) × NoKeyRepeated numbers members index
