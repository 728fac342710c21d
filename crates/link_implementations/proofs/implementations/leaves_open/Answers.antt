use Rattle.std.proofs.Common.{[], filter, get_or, sym, ◌∙◌, ap, slice_get}
use Rattle.std.proofs.lemmas.Option.{slice_get_past}
use Rattle.link_rules.specs.Classes.{classes_of, methods_of}
use Rattle.link_implementations.specs.Implementations.{is_abstract}
use Rattle.link_implementations.proofs.OpenLaws.{none_open_past, row_of_class}
use Rattle.link_implementations.proofs.TestedLaws.{each_of_one}
use Rattle.link_implementations.proofs.implementations.leaves_open.Goals as goal

pub any_open-requires-clause-candidates : goal.any_open-requires-clause-candidates
any_open-requires-clause-candidates c =
    let p = c.args.lookup.now in
    let d = c.args.declarer in
    let row = c.in-Some.ensures.lookup.3.1 [] in
    let its = row_of_class p d c.as_slice.result.now c.methods_have_numbers.ensures (c.as_slice.ensures ∙ row ∙ ap (λ t. get_or t d []) c.requires.table) in
    each_of_one p (filter is_abstract (methods_of (classes_of c.args.lookup.now.units) d)) c.as_slice.result.now its.are

pub returns-in-Some-clause-answer : goal.returns-in-Some-clause-answer
returns-in-Some-clause-answer c =
    let p = c.args.lookup.now in
    let d = c.args.declarer in
    let row = c.in-Some.ensures.lookup.3.1 [] in
    c.any_open.ensures.answer (filter is_abstract (methods_of (classes_of c.args.lookup.now.units) d))
    (row_of_class p d c.as_slice.result.now c.methods_have_numbers.ensures (c.as_slice.ensures ∙ row ∙ ap (λ t. get_or t d []) c.requires.table))

pub returns-in-None-clause-answer : goal.returns-in-None-clause-answer
returns-in-None-clause-answer c =
    none_open_past c.args.lookup.now c.args.asked c.args.class c.args.declarer (ap (λ t. slice_get t c.args.declarer) (sym c.requires.table) ∙ slice_get_past c.args.table.now c.args.declarer c.in-None.ensures.lookup.3)
