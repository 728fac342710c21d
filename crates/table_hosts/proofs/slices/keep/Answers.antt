use Rattle.std.proofs.Common.{ap, sym, subst, ◌∙◌, [], ◌∷◌, ◌++◌, All}
use Rattle.std.specs.Prelude.{IfSome}
use Rattle.std.proofs.lemmas.List.Elements.{All-nil, All-cons, All-append}
use Rattle.table_hosts.specs.Seated.{BeginsOn, parts_of_threads, parts_of_child}
use Rattle.table_hosts.proofs.Begetting.{parts_of_threads-snoc}
use Rattle.table_hosts.proofs.slices.keep.Goals as goal

pub returns-in-Some-clause-parts : goal.returns-in-Some-clause-parts
returns-in-Some-clause-parts g c =
    ap (λ xs. parts_of_threads xs) c.push_reserved.ensures.items ∙ parts_of_threads-snoc c.args.born.now.items c.in-Some.child
    ∙ ap (λ o. parts_of_threads c.args.born.now.items ++ parts_of_child o) (sym c.in-Some.is)

pub returns-in-Some-clause-stand : goal.returns-in-Some-clause-stand
returns-in-Some-clause-stand g c = λ table all one.
    let Begins = BeginsOn g.C.ThreadCode.state g.C.ThreadCode.saved g.C.ThreadCode.code table in
    subst (All Begins) (sym c.push_reserved.ensures.items) (All-append Begins c.args.born.now.items (c.in-Some.child ∷ []) all
    (All-cons Begins c.in-Some.child [] (subst (λ o. IfSome o Begins) c.in-Some.is one) (All-nil Begins)))
