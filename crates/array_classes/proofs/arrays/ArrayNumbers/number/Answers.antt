use Rattle.std.proofs.Common.{refl, ap, sym, ◌∙◌, true≢false}
use Rattle.link_rules.specs.Names.{program_names, array_number}
use Rattle.array_classes.proofs.Numbered.{no_place, has_place}
use Rattle.array_classes.proofs.arrays.ArrayNumbers.number.Goals as goal

pub returns-in_err-place : goal.returns-in_err-place
returns-in_err-place c = λ us text are spells.
    c.from_residual.ensures ∙ sym (no_place us c.args.self.now are c.args.array text spells (λ h. true≢false (sym (c.in_err-place.ensures.there us are h))))

pub returns : goal.returns
returns c = λ us text are spells.
    let has = has_place us c.args.self.now are c.args.array text c.in_ok-place.place spells (c.in_ok-place.ensures.found us are c.in_ok-place.place refl) in
    c.number_at.ensures us has.0 are has.1 ∙ ap (array_number (program_names us)) (sym has.2)
