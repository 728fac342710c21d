use Rattle.std.proofs.Common.{rules, ◌≡◌, Some, refl, slice_get, subst}
use Rattle.instructions.specs.declared.operation.FieldAccess.TheVariants as fields
use Rattle.instructions.specs.declared.operation.Plain.TheVariants as plains
use Rattle.instructions.specs.declared.what.What.TheVariants as whats
use Rattle.op_core.specs.Hosted.{MayBeAsked}
use Rattle.java_rows.specs.Program.{steps_of}
use Rattle.java_rows.specs.Thread.{java_code}
use Rattle.interp_calls.specs.declared.hosted.Halt.TheVariants as halts
use Rattle.interp_calls.specs.Hosted.{halted_local}
use Rattle.interp_calls.specs.Local.{local_of, saved_locals}
use Rattle.interp_calls.proofs.HostedLemmas.{access_is, gone_from}
use Rattle.interp_calls.proofs.hosted.ask_access.Goals as goal

pub ask_two-requires-clause-may : goal.ask_two-requires-clause-may
ask_two-requires-clause-may g c =
    let us = g.P.Constants.units c.args.program.now in
    let me = c.args.thread in
    let s = c.args.frames.now in
    let saves = saved_locals us me s in
    let i = c.in-Some.instruction.now in
    let is : slice_get (steps_of us s.here.method) s.here.step ≡ Some i = search rules in
    let what : i.what ≡ whats.Field fields.GetField c.in-Field-GetField-default.index = search rules in
    let same = access_is us me s i (whats.Field fields.GetField c.in-Field-GetField-default.index) c.get_field-todo.result c.requires.begun is what refl c.get_field-todo.ensures in
    subst (λ x. MayBeAsked java_code saves g.H.OpHost.passes g.H.OpHost.answers g.H.OpHost.may x c.args.host.now) same c.requires.may

pub returns-in-Field-GetField-default : goal.returns-in-Field-GetField-default
returns-in-Field-GetField-default g c =
    let us = g.P.Constants.units c.args.program.now in
    let me = c.args.thread in
    let s = c.args.frames.now in
    let saves = saved_locals us me s in
    let i = c.in-Some.instruction.now in
    let is : slice_get (steps_of us s.here.method) s.here.step ≡ Some i = search rules in
    let what : i.what ≡ whats.Field fields.GetField c.in-Field-GetField-default.index = search rules in
    let same = access_is us me s i (whats.Field fields.GetField c.in-Field-GetField-default.index) c.get_field-todo.result c.requires.begun is what refl c.get_field-todo.ensures in
    gone_from us me saves g.H.OpHost.passes g.H.OpHost.answers g.H.OpHost.declines (local_of us me s) (halted_local us me s (halts.Goes c.get_field-todo.result))
    c.args.host.now c.ask_two.new.host s c.ask_two.new.frames c.ask_two.result same c.ask_two.ensures

pub ask_two-requires-in-Field-PutField-default-clause-may : goal.ask_two-requires-in-Field-PutField-default-clause-may
ask_two-requires-in-Field-PutField-default-clause-may g c =
    let us = g.P.Constants.units c.args.program.now in
    let me = c.args.thread in
    let s = c.args.frames.now in
    let saves = saved_locals us me s in
    let i = c.in-Some.instruction.now in
    let is : slice_get (steps_of us s.here.method) s.here.step ≡ Some i = search rules in
    let what : i.what ≡ whats.Field fields.PutField c.in-Field-PutField-default.index = search rules in
    let same = access_is us me s i (whats.Field fields.PutField c.in-Field-PutField-default.index) c.put_field-todo.result c.requires.begun is what refl c.put_field-todo.ensures in
    subst (λ x. MayBeAsked java_code saves g.H.OpHost.passes g.H.OpHost.answers g.H.OpHost.may x c.args.host.now) same c.requires.may

pub returns-in-Field-PutField-default : goal.returns-in-Field-PutField-default
returns-in-Field-PutField-default g c =
    let us = g.P.Constants.units c.args.program.now in
    let me = c.args.thread in
    let s = c.args.frames.now in
    let saves = saved_locals us me s in
    let i = c.in-Some.instruction.now in
    let is : slice_get (steps_of us s.here.method) s.here.step ≡ Some i = search rules in
    let what : i.what ≡ whats.Field fields.PutField c.in-Field-PutField-default.index = search rules in
    let same = access_is us me s i (whats.Field fields.PutField c.in-Field-PutField-default.index) c.put_field-todo.result c.requires.begun is what refl c.put_field-todo.ensures in
    gone_from us me saves g.H.OpHost.passes g.H.OpHost.answers g.H.OpHost.declines (local_of us me s) (halted_local us me s (halts.Goes c.put_field-todo.result))
    c.args.host.now c.ask_two-in-Field-PutField-default.new.host s c.ask_two-in-Field-PutField-default.new.frames c.ask_two-in-Field-PutField-default.result same c.ask_two-in-Field-PutField-default.ensures

pub ask_three-requires-clause-may : goal.ask_three-requires-clause-may
ask_three-requires-clause-may g c =
    let us = g.P.Constants.units c.args.program.now in
    let me = c.args.thread in
    let s = c.args.frames.now in
    let saves = saved_locals us me s in
    let i = c.in-Some.instruction.now in
    let is : slice_get (steps_of us s.here.method) s.here.step ≡ Some i = search rules in
    let what : i.what ≡ whats.Plain (plains.ArrayLoad c.in-Plain-ArrayLoad.kind) = search rules in
    let same = access_is us me s i (whats.Plain (plains.ArrayLoad c.in-Plain-ArrayLoad.kind)) c.load-todo.result c.requires.begun is what refl c.load-todo.ensures in
    subst (λ x. MayBeAsked java_code saves g.H.OpHost.passes g.H.OpHost.answers g.H.OpHost.may x c.args.host.now) same c.requires.may

pub returns-in-Plain-ArrayLoad : goal.returns-in-Plain-ArrayLoad
returns-in-Plain-ArrayLoad g c =
    let us = g.P.Constants.units c.args.program.now in
    let me = c.args.thread in
    let s = c.args.frames.now in
    let saves = saved_locals us me s in
    let i = c.in-Some.instruction.now in
    let is : slice_get (steps_of us s.here.method) s.here.step ≡ Some i = search rules in
    let what : i.what ≡ whats.Plain (plains.ArrayLoad c.in-Plain-ArrayLoad.kind) = search rules in
    let same = access_is us me s i (whats.Plain (plains.ArrayLoad c.in-Plain-ArrayLoad.kind)) c.load-todo.result c.requires.begun is what refl c.load-todo.ensures in
    gone_from us me saves g.H.OpHost.passes g.H.OpHost.answers g.H.OpHost.declines (local_of us me s) (halted_local us me s (halts.Goes c.load-todo.result))
    c.args.host.now c.ask_three.new.host s c.ask_three.new.frames c.ask_three.result same c.ask_three.ensures

pub ask_three-requires-in-Plain-ArrayStore-clause-may : goal.ask_three-requires-in-Plain-ArrayStore-clause-may
ask_three-requires-in-Plain-ArrayStore-clause-may g c =
    let us = g.P.Constants.units c.args.program.now in
    let me = c.args.thread in
    let s = c.args.frames.now in
    let saves = saved_locals us me s in
    let i = c.in-Some.instruction.now in
    let is : slice_get (steps_of us s.here.method) s.here.step ≡ Some i = search rules in
    let what : i.what ≡ whats.Plain (plains.ArrayStore c.in-Plain-ArrayStore.kind) = search rules in
    let same = access_is us me s i (whats.Plain (plains.ArrayStore c.in-Plain-ArrayStore.kind)) c.store-todo.result c.requires.begun is what refl c.store-todo.ensures in
    subst (λ x. MayBeAsked java_code saves g.H.OpHost.passes g.H.OpHost.answers g.H.OpHost.may x c.args.host.now) same c.requires.may

pub returns-in-Plain-ArrayStore : goal.returns-in-Plain-ArrayStore
returns-in-Plain-ArrayStore g c =
    let us = g.P.Constants.units c.args.program.now in
    let me = c.args.thread in
    let s = c.args.frames.now in
    let saves = saved_locals us me s in
    let i = c.in-Some.instruction.now in
    let is : slice_get (steps_of us s.here.method) s.here.step ≡ Some i = search rules in
    let what : i.what ≡ whats.Plain (plains.ArrayStore c.in-Plain-ArrayStore.kind) = search rules in
    let same = access_is us me s i (whats.Plain (plains.ArrayStore c.in-Plain-ArrayStore.kind)) c.store-todo.result c.requires.begun is what refl c.store-todo.ensures in
    gone_from us me saves g.H.OpHost.passes g.H.OpHost.answers g.H.OpHost.declines (local_of us me s) (halted_local us me s (halts.Goes c.store-todo.result))
    c.args.host.now c.ask_three-in-Plain-ArrayStore.new.host s c.ask_three-in-Plain-ArrayStore.new.frames c.ask_three-in-Plain-ArrayStore.result same c.ask_three-in-Plain-ArrayStore.ensures

pub ask_one-requires-clause-may : goal.ask_one-requires-clause-may
ask_one-requires-clause-may g c =
    let us = g.P.Constants.units c.args.program.now in
    let me = c.args.thread in
    let s = c.args.frames.now in
    let saves = saved_locals us me s in
    let i = c.in-Some.instruction.now in
    let is : slice_get (steps_of us s.here.method) s.here.step ≡ Some i = search rules in
    let what : i.what ≡ whats.Plain plains.ArrayLength = search rules in
    let same = access_is us me s i (whats.Plain plains.ArrayLength) c.array_length-todo.result c.requires.begun is what refl c.array_length-todo.ensures in
    subst (λ x. MayBeAsked java_code saves g.H.OpHost.passes g.H.OpHost.answers g.H.OpHost.may x c.args.host.now) same c.requires.may

pub returns-in-Plain-ArrayLength : goal.returns-in-Plain-ArrayLength
returns-in-Plain-ArrayLength g c =
    let us = g.P.Constants.units c.args.program.now in
    let me = c.args.thread in
    let s = c.args.frames.now in
    let saves = saved_locals us me s in
    let i = c.in-Some.instruction.now in
    let is : slice_get (steps_of us s.here.method) s.here.step ≡ Some i = search rules in
    let what : i.what ≡ whats.Plain plains.ArrayLength = search rules in
    let same = access_is us me s i (whats.Plain plains.ArrayLength) c.array_length-todo.result c.requires.begun is what refl c.array_length-todo.ensures in
    gone_from us me saves g.H.OpHost.passes g.H.OpHost.answers g.H.OpHost.declines (local_of us me s) (halted_local us me s (halts.Goes c.array_length-todo.result))
    c.args.host.now c.ask_one.new.host s c.ask_one.new.frames c.ask_one.result same c.ask_one.ensures
