use Rattle.std.proofs.Common.{◌≡◌, Some, length, map, slice_get, refl, ◌∙◌, ap, subst}
use Rattle.std.proofs.lemmas.Option.{slice_get_read}
use Rattle.class_texts.specs.Texts.{ProgramTexts}
use Rattle.link_rules.specs.Classes.{member_of_file}
use Rattle.link_implementations.specs.Implementations.{abstract_candidates}
use Rattle.link_implementations.proofs.CandidateLaws.{files_more}
use Rattle.link_implementations.proofs.candidates.add_files.Goals as goal

pub loop-file-preserved : goal.loop-file-preserved
loop-file-preserved c =
    let p = c.args.lookup.now in
    let items = c.units-unit-items.result.now in
    let k = c.loop-file.file in
    let u = c.unit-item.result in
    let at = slice_get_read items (length items) c.loop-file.file c.unit-item.result refl c.loop-file-test.true c.unit-item.is in
    let are = c.units-unit-items.ensures ∙ ap (λ (q : ProgramTexts). q.units) c.texts.ensures in
    let there = subst (λ xs. slice_get xs c.loop-file.file ≡ Some c.unit-item.result) are at in
    let row = c.from_vec.ensures ∙ c.in_ok-file_candidates.ensures u there ∙ ap (λ ms. abstract_candidates c.args.lookup.now (map (member_of_file c.unit-item.result.file.pool) ms)) c.as_slice-methods.ensures in
    files_more p c.args.table.now.items c.loop-file.table.items c.push.new.self.items k u c.from_vec.result there c.loop-file.invariant c.in_ok-push.ensures.items row
