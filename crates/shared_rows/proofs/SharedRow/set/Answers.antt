use Rattle.std.proofs.Common.{◌≡◌, ◌<◌, ◌/◌, ◌%◌, [], map, length, get_or, slice_set, ◌∙◌, ap, sym, subst}
use Rattle.std.proofs.lemmas.List.{map-set, length-map, get_or-map}
use Rattle.std.specs.Arc.{arc_value}
use Rattle.shared_rows.specs.Rows.{number_in, set_at}
use Rattle.shared_rows.proofs.RowLemmas.{numbers_set, on_err}
use Rattle.shared_rows.proofs.SharedRow.set.Goals as goal

pub returns-in_err-self-clause-err : goal.returns-in_err-self-clause-err
returns-in_err-self-clause-err c = on_err c.from_residual-in_err-self.result c.reach.ensures.numbers

pub returns-clause-ok : goal.returns-clause-ok
returns-clause-ok c =
    let items = c.reach.new.self.pages.items in
    let page = c.deref.result.now in
    let k = c.args.place / 64 in
    let inside : k < length (map arc_value items) = subst (λ n. k < n) (sym (length-map items arc_value)) c.in_ok-reach.ensures.page in
    let is : page ≡ get_or (map arc_value items) k [] = c.deref.ensures ∙ ap arc_value c.index.ensures ∙ sym (get_or-map arc_value items k c.index.result.now [] c.in_ok-reach.ensures.page) in
    let low : c.args.place % 64 < length page = c.with_number-numbers.ensures.inside in
    ap number_in (map-set arc_value items k c.in_ok-self.field-0 ∙ ap (slice_set (map arc_value items) k) (c.in_ok-self.ensures.ok ∙ c.with_number-numbers.ensures.page))
    ∙ numbers_set (map arc_value items) page c.args.place c.args.number inside is low
    ∙ ap (λ f. set_at f c.args.place c.args.number) c.reach.ensures.numbers
