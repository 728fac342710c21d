use Rattle.std.proofs.Common.{◌≡◌, ◌<◌, ◌-◌, nat_eq, arith}
use Rattle.std.proofs.lemmas.Option.{slice_get-map}
use Rattle.builtin_world.specs.BuiltinClass.{shown_class}
use Rattle.builtin_world.proofs.LawLemmas.{supers_come_first}
use Rattle.builtin_world.proofs.RowLemmas.{row_numbered-zero, row_numbered-place, IfSome-found, IfSome-numbered}
use Rattle.builtin_world.proofs.builtin_at.Goals as goal

pub returns-in_err-index-clause-row : goal.returns-in_err-index-clause-row
returns-in_err-index-clause-row c =
    let zero : c.args.number ≡ 0 = omega (arith, c.in_err-index.ensures) in
    rw zero (rw c.from_residual.ensures (cc row_numbered-zero))

pub returns-clause-row : goal.returns-clause-row
returns-clause-row c =
    let placed = row_numbered-place c.args.number c.in_ok-index.ensures.0 in
    let shown = slice_get-map shown_class c.builtins.result.now (c.args.number - 1) in
    cc (c.in_ok-index.ensures.1)

pub returns-clause-numbered : goal.returns-clause-numbered
returns-clause-numbered c = IfSome-numbered c.args.number c.class_at.result (returns-clause-row c)

pub returns-clause-super_first : goal.returns-clause-super_first
returns-clause-super_first c =
    IfSome-found (λ r. r.super_number < r.number) (λ r. nat_eq r.number c.args.number)
    c.class_at.result (returns-clause-row c) supers_come_first
