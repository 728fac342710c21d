use Rattle.std.proofs.Common.{ap, sym, subst, ◌∙◌, slice_get, arith}
use Rattle.link_rules.specs.Classes.{classes_of}
use Rattle.link_rules.specs.Names.{program_names, array_numbered}
use Rattle.array_classes.specs.Numbers.{IsKindOf}
use Rattle.array_classes.proofs.Known.{kind_past, kind_is, base_there}
use Rattle.array_classes.proofs.arrays.ArrayNumbers.kind.Goals as goal

pub returns-in_err-place : goal.returns-in_err-place
returns-in_err-place c = λ us are.
    let low = c.in_ok-number.ensures.0 in
    let rest = c.in_ok-number.ensures.1 in
    subst (λ o. IsKindOf (classes_of us) o (array_numbered (program_names us) c.args.class)) (sym c.from_residual-in_err-place.ensures)
    (kind_past us c.args.self.now are c.args.class c.in_ok-number.number (omega (arith, low, rest)) (c.in_err-place.ensures are.most are.table_is))

pub returns-in_err-base : goal.returns-in_err-base
returns-in_err-base c = λ us are.
    absurd (base_there us c.args.self.now are c.in_ok-number.number c.in_ok-place.place (c.in_ok-place.ensures are.most are.table_is)
    (c.in_err-base.ensures ∙ ap (λ xs. slice_get xs c.in_ok-place.place.base) c.bases.ensures))

pub returns : goal.returns
returns c = λ us are.
    let low = c.in_ok-number.ensures.0 in
    let rest = c.in_ok-number.ensures.1 in
    kind_is us c.args.self.now are c.args.class c.in_ok-number.number c.in_ok-place.place c.in_ok-base.base (omega (arith, low, rest)) (c.in_ok-place.ensures are.most are.table_is)
    (c.in_ok-base.ensures ∙ ap (λ xs. slice_get xs c.in_ok-place.place.base) c.bases.ensures)
