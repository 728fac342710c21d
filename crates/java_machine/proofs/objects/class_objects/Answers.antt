use Rattle.std.proofs.Common.{ℕ, ◌+◌, ◌++◌, [], ◌∷◌, map, sym, ap, ◌∙◌, arith}
use Rattle.std.specs.List.{range_with_len}
use Rattle.std.proofs.lemmas.List.FromFn.{map-range_with_len_more}
use Rattle.fixed_objects.specs.declared.FixedObject.{FixedObject}
use Rattle.link_rules.specs.FixedObjects.{class_object_at_start}
use Rattle.link_rules.specs.Names.{program_names}
use Rattle.java_rows.specs.Start.{fixed_object}
use Rattle.java_machine.proofs.objects.class_objects.Goals as goal

pub loop-place-preserved : goal.loop-place-preserved
loop-place-preserved c =
    let f : ℕ → FixedObject = λ n. fixed_object (class_object_at_start (program_names c.args.world.now) c.args.world.now n) in
    let place = c.loop-place.place in
    c.in_ok-push.ensures.ok ∙ ap (λ xs. xs ++ c.in_ok-class_object.field-0 ∷ []) c.loop-place.invariant
    ∙ ap (λ o. map f (range_with_len 1 place) ++ o ∷ []) c.in_ok-class_object.ensures
    ∙ sym (map-range_with_len_more f 1 place (place + 1) (omega arith))
