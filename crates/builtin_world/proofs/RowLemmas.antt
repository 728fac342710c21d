-- What the table says of the row that a name or a number finds.
use Rattle.std.proofs.Common.{◌≡◌, ◌-◌, ◌≤◌, ◌<◌, ℕ, Bool, true, nat_eq, nat_lt, nat_le, List, ap, refl}
use Rattle.std.specs.Prelude.{Option, Some, None, slice_get, find}
use Rattle.std.specs.List.{All, Contains}
use Rattle.std.specs.Option.{IfSome, is_some, option_map}
use Rattle.std.specs.Str.{bytes_eq}
use Rattle.std.proofs.lemmas.Bool.{ltb-true, leb-true, eqb-true}
use Rattle.std.proofs.lemmas.List.Elements.{All-contains_itself}
use Rattle.std.proofs.lemmas.Slice.Eq.{bytes_eq-Decides}
use Rattle.builtin_world.specs.declared.BuiltinClass.{BuiltinClass}
use Rattle.builtin_world.specs.Library.{library}
use Rattle.builtin_world.specs.BuiltinClass.{ClassRow, rows, row_named, row_numbered, shown_class}
use Rattle.builtin_world.proofs.LawLemmas.{numbers_run}
use Rattle.builtin_world.proofs.Tables.{All-from_test, find-numbered, IfSome-find, IfSome-find_passes, IfSome-weaker, IfSome-option_map}

numbers_start : All (λ (r : ClassRow). 0 < r.number) rows
unfolding rows library
numbers_start = All-from_test (λ r. nat_lt 0 r.number) (λ r. 0 < r.number) (λ r. ltb-true 0 r.number) rows refl

numbers_end : All (λ (r : ClassRow). r.number ≤ 28) rows
unfolding rows library
numbers_end = All-from_test (λ r. nat_le r.number 28) (λ r. r.number ≤ 28) (λ r. leb-true r.number 28) rows refl

pub numbers_in_range : All (λ (r : ClassRow). (0 < r.number) × (r.number ≤ 28)) rows
numbers_in_range k d within = (numbers_start k d within, numbers_end k d within)

pub row_numbered-zero : row_numbered 0 ≡ None
unfolding rows library
row_numbered-zero = refl

pub row_numbered-place : (k : ℕ) → 1 ≤ k → row_numbered k ≡ slice_get rows (k - 1)
row_numbered-place k from = find-numbered (λ (r : ClassRow). r.number) rows 1 k numbers_run from

-- a fact of all rows is one of the class whose row was found
pub IfSome-found : (P : ClassRow → Type 0) (p : ClassRow → Bool) (o : Option BuiltinClass) → option_map shown_class o ≡ find p rows → All P rows → IfSome o (λ c. P (shown_class c))
IfSome-found P p o row all = IfSome-option_map shown_class P o (find p rows) row (IfSome-find P p rows all)

-- the class that a name or a number finds has it
pub IfSome-named : (name : List ℕ) (o : Option BuiltinClass) → option_map shown_class o ≡ row_named name → IfSome o (λ c. c.name.now ≡ name)
IfSome-named name o row =
    IfSome-option_map shown_class (λ r. r.name ≡ name) o (row_named name) row
    (IfSome-weaker (λ r. bytes_eq r.name name ≡ true) (λ r. r.name ≡ name)
    (λ r passes. (bytes_eq-Decides r.name name).0 passes) (row_named name)
    (IfSome-find_passes (λ (r : ClassRow). bytes_eq r.name name) rows))

pub IfSome-numbered : (number : ℕ) (o : Option BuiltinClass) → option_map shown_class o ≡ row_numbered number → IfSome o (λ c. c.number ≡ number)
IfSome-numbered number o row =
    IfSome-option_map shown_class (λ r. r.number ≡ number) o (row_numbered number) row
    (IfSome-weaker (λ r. nat_eq r.number number ≡ true) (λ r. r.number ≡ number)
    (λ r passes. eqb-true r.number number passes) (row_numbered number)
    (IfSome-find_passes (λ (r : ClassRow). nat_eq r.number number) rows))

pub is_some-shown : (o : Option BuiltinClass) (q : Option ClassRow) → option_map shown_class o ≡ q → is_some o ≡ is_some q
is_some-shown None q row = ap is_some row
is_some-shown (Some c) q row = ap is_some row

-- the class that was found shows one of the rows, so that what holds of all rows holds of it (`All-contains`)
pub IfSome-in_rows : (p : ClassRow → Bool) (o : Option BuiltinClass) → option_map shown_class o ≡ find p rows → IfSome o (λ c. Contains rows (shown_class c))
IfSome-in_rows p o row = IfSome-found (Contains rows) p o row (All-contains_itself rows)
