use Rattle.std.proofs.Common.{◌≡◌, sym, ◌∙◌, ap, subst, inr, arith}
use Rattle.std.specs.Option.{option_map}
use Rattle.code_decode.specs.declared.code.Code.{Code}
use Rattle.type_rules.specs.MapFrames.{item_type, map_frame_at}
use Rattle.method_check.specs.Method.{TellsMethodFault}
use Rattle.linked_methods.specs.Methods.{environment_of_method, operands_of_method}
use Rattle.subset_verify.proofs.FileLaws.{safe_holds, fault_refuses, environment_at}
use Rattle.subset_verify.proofs.verifying.verify_method.Goals as goal

pub check_method-requires : goal.check_method-requires
check_method-requires c =
    let entry = c.in_ok-entry.entry in
    let linked = c.in-Some.linked in
    record {
      method = record {
        begins = c.in_ok-entry.ensures.entry;
        constructs = sym c.in_ok-entry.ensures.constructs;
        maps =
            subst (λ (code : Code). (environment_of_method linked).map_at
            ≡ map_frame_at (item_type (operands_of_method linked) entry.words.items) entry.constructs entry.values.items code.frames)
            (sym c.code.ensures.value) c.in_ok-entry.ensures.frames;
        steps = c.code.ensures.steps;
        handlers = c.code.ensures.handlers;
        arrays = c.arrays_have_room.ensures;
      };
    }

pub returns-in-Ok : goal.returns-in-Ok
returns-in-Ok c =
    let env = environment_of_method c.in-Some.linked in
    let is = sym c.new.ensures ∙ ap (option_map environment_of_method) c.in-Some.is in
    let there = environment_at c.args.world.now c.args.file c.args.method _ env (omega arith) is in
    safe_holds c.args.file c.args.method _ env there c.in-Ok.ensures.safe

pub returns : goal.returns
returns c =
    let env = environment_of_method c.in-Some.linked in
    let is = sym c.new.ensures ∙ ap (option_map environment_of_method) c.in-Some.is in
    let there = environment_at c.args.world.now c.args.file c.args.method _ env (omega arith) is in
    inr (fault_refuses c.args.file c.args.method _ env c.in-Err-At.kind c.in-Err-At.place there
    (subst (TellsMethodFault env) c.in-Err-At.field-0-is c.in-Err-At.ensures.first))
