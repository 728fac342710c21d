use Rattle.std.proofs.Common.{[], List, ℕ, slice_get, slice_index, slice_index_or, ◌∙◌, ap}
use Rattle.class_texts.specs.Texts.{ProgramTexts, entry_number}
use Rattle.class_texts.proofs.TextLaws.{number_at}
use Rattle.class_texts.proofs.texts.ClassTexts.at.Goals as goal

pub returns-clause-number : goal.returns-clause-number
returns-clause-number c = λ u there.
    let file = c.args.file in
    let index = c.args.index in
    let is = c.self.view_is in
    let at = ap (λ (p : ProgramTexts). slice_get p.units file) is ∙ there in
    c.number_in.ensures
    ∙ ap (λ (rows : List (List ℕ)). slice_index (slice_index_or rows file []) index) c.deref.ensures.value
    ∙ number_at c.self.inside.numbers c.self.inside.units.now c.self.inside.pools.items file index u c.self.invariant.rows_are at
    ∙ ap (λ (p : ProgramTexts). entry_number p.texts (slice_get u.file.pool index)) is
