use Rattle.std.proofs.Common.{◌++◌, [], ◌∷◌, List, length, map, ap, ◌∙◌}
use Rattle.std.specs.List.{range_with_len}
use Rattle.builtin_world.specs.declared.number.TheConstants.{PRINT_STREAM}
use Rattle.fixed_objects.specs.declared.FixedObject.{FixedObject}
use Rattle.link_rules.specs.FixedObjects.{object_at_start, main_thread_at_start, string_at_start, system_out_object}
use Rattle.link_rules.specs.Names.{ProgramNames, program_names}
use Rattle.java_rows.specs.Start.{fixed_object}
use Rattle.java_machine.proofs.ObjectLaws.{fixed_classes, objects_made}
use Rattle.java_machine.proofs.objects.objects_at_start.Goals as goal

pub returns : goal.returns
returns c =
    let us = c.args.world.now in
    let p : ProgramNames = program_names us in
    let first : List FixedObject = fixed_classes p us in
    let strings : List FixedObject = map (λ n. fixed_object (string_at_start p n)) (range_with_len 0 (length p.strings)) in
    let out : FixedObject = fixed_object (object_at_start (system_out_object p) PRINT_STREAM 0 []) in
    let main : FixedObject = fixed_object (main_thread_at_start p) in
    let one = c.in_ok-push.ensures.ok ∙ ap (λ xs. xs ++ c.system_out.result ∷ []) c.in_ok-objects.ensures ∙ ap (λ o. first ++ o ∷ []) c.system_out.ensures in
    let two =
    c.in_ok-push-2.ensures.ok ∙ ap (λ xs. xs ++ c.in_ok-main_thread.field-0 ∷ []) one
    ∙ ap (λ o. (first ++ out ∷ []) ++ o ∷ []) c.in_ok-main_thread.ensures in
    let three =
    c.in_ok-push-3.ensures.ok ∙ ap (λ xs. xs ++ c.arguments.result ∷ []) two
    ∙ ap (λ o. ((first ++ out ∷ []) ++ main ∷ []) ++ o ∷ []) c.arguments.ensures in
    c.in_ok-push_strings.ensures ∙ ap (λ xs. xs ++ strings) three ∙ objects_made p us
