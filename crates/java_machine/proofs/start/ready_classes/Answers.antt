use Rattle.std.proofs.Common.{◌≡◌, ◌+◌, ◌++◌, [], ◌∷◌, sym, ap, ◌∙◌, arith}
use Rattle.std.specs.List.{range_with_len}
use Rattle.java_machine.proofs.ObjectLaws.{range_next}
use Rattle.java_machine.proofs.start.ready_classes.Goals as goal

pub loop-place-preserved : goal.loop-place-preserved
loop-place-preserved c =
    let place = c.loop-place.place in
    let next : place + 1 ≡ 1 + place = omega arith in
    c.in_ok-push.ensures.ok ∙ ap (λ xs. xs ++ (place + 1) ∷ []) c.loop-place.invariant
    ∙ ap (λ x. range_with_len 1 place ++ x ∷ []) next ∙ sym (range_next 1 place)
