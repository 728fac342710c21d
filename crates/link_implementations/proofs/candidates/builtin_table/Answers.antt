use Rattle.std.proofs.Common.{[], ◌∷◌, map, sym, ◌∙◌, ap}
use Rattle.std.proofs.lemmas.List.{take_all}
use Rattle.std.proofs.lemmas.Simd.{map-map}
use Rattle.builtin_world.specs.BuiltinClass.{shown_class}
use Rattle.builtin_world.specs.declared.BuiltinClass.{BuiltinClass}
use Rattle.link_implementations.proofs.CandidateLaws.{of_row}
use Rattle.link_implementations.proofs.candidates.builtin_table.Goals as goal

pub returns : goal.returns
returns c =
    let p = c.args.lookup.now in
    let items = c.builtins-class-items.result.now in
    c.loop-class.invariant
    ∙ ap (λ bs. [] ∷ map (λ (b : BuiltinClass). of_row p (shown_class b)) bs) (take_all c.loop-class.class-index items c.loop-class-test.false)
    ∙ ap (λ zs. [] ∷ zs) (sym (map-map (of_row p) shown_class items) ∙ ap (map (of_row p)) c.builtins-class-items.ensures.rows)
