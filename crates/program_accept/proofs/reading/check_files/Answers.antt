use Rattle.std.proofs.Common.{◌≤◌, ℕ, length, map, refl, sym, subst, Vec, Global}
use Rattle.std.proofs.lemmas.List.{length-map}
use Rattle.std.proofs.lemmas.Option.{slice_get_read}
use Rattle.std.proofs.lemmas.Result.{err_from_is_err_and}
use Rattle.program_accept.specs.Accepted.{read_rules}
use Rattle.program_accept.specs.Answers.{Passes, Fails}
use Rattle.program_accept.proofs.Chains.{one_more, each_passes, each_fails}
use Rattle.program_accept.proofs.OnlyLaws.{item_at}
use Rattle.program_accept.proofs.reading.check_files.Goals as goal

pub returns-in_err-read_file : goal.returns-in_err-read_file
returns-in_err-read_file c =
    let files = c.args.files.now in
    let place = c.loop-place.place in
    let bytes = λ (v : Vec ℕ Global). v.items in
    let item = c.index-files-place.result in
    let at = item_at bytes files place item (slice_get_read files (length files) place item refl c.loop-place-test.true c.index-files-place.is) in
    let e = c.in_err-read_file.field-0.0 in
    let fails = subst (λ bs. Fails (read_rules place bs) e) c.deref.ensures.value c.in_err-read_file.ensures in
    let p = err_from_is_err_and c.from_residual.result c.from_residual.ensures.1 in
    rw (p.1, p.2) (each_fails read_rules (map bytes files) place (bytes item) e at c.loop-place.invariant fails)

pub loop-place-preserved : goal.loop-place-preserved
loop-place-preserved c =
    let files = c.args.files.now in
    let place = c.loop-place.place in
    let bytes = λ (v : Vec ℕ Global). v.items in
    let item = c.index-files-place.result in
    let at = item_at bytes files place item (slice_get_read files (length files) place item refl c.loop-place-test.true c.index-files-place.is) in
    let passes = subst (λ bs. Passes (read_rules place bs) (Unit {0})) c.deref.ensures.value c.in_ok-read_file.ensures in
    one_more read_rules (map bytes files) place (bytes item) at c.loop-place.invariant passes

pub returns : goal.returns
returns c =
    let files = c.args.files.now in
    let bytes = λ (v : Vec ℕ Global). v.items in
    let le : length (map bytes files) ≤ c.loop-place.place = subst (λ n. n ≤ c.loop-place.place) (sym (length-map files bytes)) c.loop-place-test.false in
    each_passes read_rules (map bytes files) c.loop-place.place (Unit {0}) le c.loop-place.invariant tt
