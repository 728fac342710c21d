use Rattle.std.proofs.Common.{◌≡◌, ◌≤◌, Some, slice_get, length, refl, subst}
use Rattle.std.proofs.lemmas.Option.{slice_get_read}
use Rattle.std.proofs.lemmas.Result.{err_from_is_err_and}
use Rattle.rules.proofs.RuleLaws.{one_more, all_hold}
use Rattle.subset_verify.specs.Files.{file_type_rules}
use Rattle.subset_verify.proofs.FileLaws.{refuses_at}
use Rattle.subset_verify.proofs.verifying.verify_files.Goals as goal

pub returns-in_err-verify_file : goal.returns-in_err-verify_file
returns-in_err-verify_file c =
    let us = c.args.world.now in
    let items = c.units-unit-items.result.now in
    let at = slice_get_read items (length items) c.loop-file.file c.unit-item.result refl c.loop-file-test.true c.unit-item.is in
    let there = subst (λ xs. slice_get xs c.loop-file.file ≡ Some c.unit-item.result) c.units-unit-items.ensures at in
    let p = err_from_is_err_and c.from_residual.result c.from_residual.ensures.1 in
    rw (p.1, p.2) (refuses_at (file_type_rules us) us c.loop-file.file c.unit-item.result c.in_err-verify_file.field-0.0 there c.loop-file.invariant c.in_err-verify_file.ensures)

pub loop-file-preserved : goal.loop-file-preserved
loop-file-preserved c =
    let us = c.args.world.now in
    let items = c.units-unit-items.result.now in
    let at = slice_get_read items (length items) c.loop-file.file c.unit-item.result refl c.loop-file-test.true c.unit-item.is in
    let there = subst (λ xs. slice_get xs c.loop-file.file ≡ Some c.unit-item.result) c.units-unit-items.ensures at in
    one_more (file_type_rules us) us c.loop-file.file c.unit-item.result there c.loop-file.invariant c.in_ok-verify_file.ensures

pub returns : goal.returns
returns c =
    let us = c.args.world.now in
    let le : length us ≤ c.loop-file.file = subst (λ xs. length xs ≤ c.loop-file.file) c.units-unit-items.ensures c.loop-file-test.false in
    all_hold (file_type_rules us) us c.loop-file.file le c.loop-file.invariant
