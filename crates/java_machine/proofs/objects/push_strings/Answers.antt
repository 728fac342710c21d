use Rattle.std.proofs.Common.{◌≡◌, ℕ, ◌++◌, [], ◌∷◌, map, append_assoc, sym, ap, ◌∙◌, arith}
use Rattle.std.specs.List.{range_with_len}
use Rattle.std.proofs.lemmas.List.FromFn.{map-range_with_len_more}
use Rattle.fixed_objects.specs.declared.FixedObject.{FixedObject}
use Rattle.link_rules.specs.FixedObjects.{string_at_start}
use Rattle.link_rules.specs.Names.{program_names}
use Rattle.java_rows.specs.Start.{fixed_object}
use Rattle.java_machine.proofs.objects.push_strings.Goals as goal

pub loop-string-preserved : goal.loop-string-preserved
loop-string-preserved c =
    let f : ℕ → FixedObject = λ n. fixed_object (string_at_start (program_names c.args.world.now) n) in
    let string = c.loop-string.string in
    let objects = c.args.objects.now in
    let object : c.in_ok-literal_object.field-0 ≡ f string =
    c.in_ok-literal_object.ensures ∙ ap (λ r. fixed_object (Rattle.link_rules.specs.FixedObjects.object_at_start r 3 string (0 ∷ []))) c.string_reference.ensures in
    c.in_ok-push.ensures.ok ∙ ap (λ xs. xs ++ c.in_ok-literal_object.field-0 ∷ []) c.loop-string.invariant
    ∙ append_assoc objects (map f (range_with_len 0 string)) (c.in_ok-literal_object.field-0 ∷ [])
    ∙ ap (λ o. objects ++ (map f (range_with_len 0 string) ++ o ∷ [])) object
    ∙ ap (λ xs. objects ++ xs) (sym (map-range_with_len_more f 0 string string (omega arith)))
