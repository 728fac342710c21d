use Rattle.std.proofs.Common.{◌≡◌, ◌≤◌, ◌+◌, ℕ, length, map, refl, sym, subst, Vec, Global, arith}
use Rattle.std.proofs.lemmas.List.{length-map}
use Rattle.std.proofs.lemmas.Option.{slice_get_read}
use Rattle.std.proofs.lemmas.Result.{err_from_is_err_and}
use Rattle.program_accept.specs.Accepted.{read_rules, code_rules}
use Rattle.program_accept.specs.Only.{IsOnlyUnit, AreOnlyBefore}
use Rattle.program_accept.specs.Answers.{Passes, Fails}
use Rattle.program_accept.proofs.Chains.{one_more, each_passes, each_fails, only_passes}
use Rattle.program_accept.proofs.OnlyLaws.{item_at, one_made, all_made}
use Rattle.program_accept.proofs.decoding.decode_files.Goals as goal

pub decode_file-requires : goal.decode_file-requires
decode_file-requires c =
    let files = c.args.files.now in
    let place = c.loop-place.place in
    let bytes = λ (v : Vec ℕ Global). v.items in
    let item = c.index-files-place.result in
    let at = item_at bytes files place item (slice_get_read files (length files) place item refl c.loop-place-test.true c.index-files-place.is) in
    record { read = subst (λ bs. (read_rules place bs).Hold) (sym c.deref.ensures.value) (c.requires.read place (bytes item) at) }

pub returns-in_err-unit : goal.returns-in_err-unit
returns-in_err-unit c =
    let files = c.args.files.now in
    let place = c.loop-place.place in
    let bytes = λ (v : Vec ℕ Global). v.items in
    let item = c.index-files-place.result in
    let at = item_at bytes files place item (slice_get_read files (length files) place item refl c.loop-place-test.true c.index-files-place.is) in
    let e = c.in_err-unit.field-0.0 in
    let fails = subst (λ bs. Fails (code_rules place bs) e) c.deref.ensures.value c.in_err-unit.ensures in
    let p = err_from_is_err_and c.from_residual.result c.from_residual.ensures.1 in
    rw (p.1, p.2) (each_fails code_rules (map bytes files) place (bytes item) e at c.loop-place.invariant.0 fails)

pub loop-place-preserved : goal.loop-place-preserved
loop-place-preserved c =
    let files = c.args.files.now in
    let place = c.loop-place.place in
    let bytes = λ (v : Vec ℕ Global). v.items in
    let item = c.index-files-place.result in
    let at = item_at bytes files place item (slice_get_read files (length files) place item refl c.loop-place-test.true c.index-files-place.is) in
    let unit = c.in_ok-unit.unit in
    let passes = subst (λ bs. Passes (code_rules place bs) (IsOnlyUnit bs unit)) c.deref.ensures.value c.in_ok-unit.ensures in
    let made = one_made (map bytes files) c.loop-place.made.items place (bytes item) unit c.loop-place.invariant.1 at passes.is in (
      one_more code_rules (map bytes files) place (bytes item) at c.loop-place.invariant.0 (only_passes (code_rules place (bytes item)) passes),
      subst (λ us. AreOnlyBefore (map bytes files) us (place + 1)) (sym c.in_ok-push.ensures.items) made,
    )

pub returns : goal.returns
returns c =
    let files = c.args.files.now in
    let bytes = λ (v : Vec ℕ Global). v.items in
    let place = c.loop-place.place in
    let le : length (map bytes files) ≤ place = subst (λ n. n ≤ place) (sym (length-map files bytes)) c.loop-place-test.false in
    let same : place ≡ length (map bytes files) = omega (arith, le, length-map files bytes, c.loop-place.auto.place-end) in
    each_passes code_rules (map bytes files) place _ le c.loop-place.invariant.0
    (all_made (map bytes files) c.loop-place.made.items place same c.loop-place.invariant.1)
