use Rattle.std.proofs.Common.{◌≡◌, ◌<◌, ◌≤◌}
use Rattle.std.specs.Option.{is_some}
use Rattle.std.specs.Str.{bytes_eq}
use Rattle.builtin_world.specs.BuiltinClass.{shown_class, ClassRow, rows, row_named}
use Rattle.builtin_world.proofs.Tables.{option_map-find, IsSome-find_named}
use Rattle.builtin_world.proofs.LawLemmas.{supers_come_first}
use Rattle.builtin_world.proofs.RowLemmas.{is_some-shown, IfSome-found, IfSome-named, numbers_in_range}
use Rattle.builtin_world.proofs.builtin_named.Goals as goal

pub returns-clause-row : goal.returns-clause-row
returns-clause-row c =
    let shown = option_map-find shown_class (λ (r : ClassRow). bytes_eq r.name c.args.name.now) c.builtins.result.now in
    cc

pub returns-clause-named : goal.returns-clause-named
returns-clause-named c = IfSome-named c.args.name.now c.find_named.result (returns-clause-row c)

pub returns-clause-numbered : goal.returns-clause-numbered
returns-clause-numbered c =
    IfSome-found (λ r. (0 < r.number) × (r.number ≤ 28)) (λ r. bytes_eq r.name c.args.name.now)
    c.find_named.result (returns-clause-row c) numbers_in_range

pub returns-clause-super_first : goal.returns-clause-super_first
returns-clause-super_first c =
    IfSome-found (λ r. r.super_number < r.number) (λ r. bytes_eq r.name c.args.name.now)
    c.find_named.result (returns-clause-row c) supers_come_first

pub returns-clause-found : goal.returns-clause-found
returns-clause-found c =
    let some : is_some c.find_named.result ≡ is_some (row_named c.args.name.now) = is_some-shown c.find_named.result (row_named c.args.name.now) (returns-clause-row c) in
    rw some (IsSome-find_named (λ (r : ClassRow). r.name) c.args.name.now rows)
