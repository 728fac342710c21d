use Rattle.std.proofs.Common.{rules, ◌≡◌, ◌≢◌, ◌≤◌, suc, true, false, Some, length, ap, sym, ◌∙◌}
use Rattle.frame_snapshot.specs.declared.todo.Then.TheVariants as thens
use Rattle.op_core.specs.declared.Op.TheVariants.{ClassOf}
use Rattle.java_rows.specs.Calls.{calls_virtual, first_of, invokes}
use Rattle.java_rows.specs.Plan.{want}
use Rattle.java_rows.specs.Program.{argument_words, calls_without_class, method_at}
use Rattle.interp_plans.specs.Calls.{call_site}
use Rattle.interp_plans.specs.Replies.{then_of}
use Rattle.interp_plans.specs.Uses.{arguments_at, frame_of, use_at}
use Rattle.interp_plans.proofs.CallLemmas.{virtual_asks, virtual_closed}
use Rattle.interp_plans.proofs.here.Here.call_virtual.Goals as goal

pub returns : goal.returns
returns g c =
    let us = g.P.Constants.units c.args.self.now.program.now in
    let me = c.args.self.now.thread in
    let f = frame_of c.args.self.now.frames.now.here in
    let m = c.in-Some.named in
    let r = c.first_argument-receiver.result in
    let named : method_at us f.method.class c.args.index ≡ Some m = sym c.method_at.ensures ∙ c.in-Some.is in
    let has : suc (argument_words us m.method) ≤ length f.stack = search rules in
    let is : r ≡ first_of (arguments_at f (call_site us m.method)) = search rules in
    let some : r ≢ 0 = search rules in
    let opened : calls_without_class us m.method ≡ false = search rules in
    ap (calls_virtual us me f) named
    ∙ virtual_asks us me f m r has is some opened
    ∙ ap (λ s. want (ClassOf r) (then_of us me f (thens.Selects m.method s))) (sym c.call_site-site.ensures)

pub returns-then-calls_without_class : goal.returns-then-calls_without_class
returns-then-calls_without_class g c =
    let us = g.P.Constants.units c.args.self.now.program.now in
    let me = c.args.self.now.thread in
    let f = frame_of c.args.self.now.frames.now.here in
    let m = c.in-Some.named in
    let r = c.first_argument-receiver.result in
    let named : method_at us f.method.class c.args.index ≡ Some m = sym c.method_at.ensures ∙ c.in-Some.is in
    let has : suc (argument_words us m.method) ≤ length f.stack = search rules in
    let is : r ≡ first_of (arguments_at f (call_site us m.method)) = search rules in
    let some : r ≢ 0 = search rules in
    let closed : calls_without_class us m.method ≡ true = search rules in
    ap (calls_virtual us me f) named
    ∙ virtual_closed us me f m has (λ null. some (is ∙ null)) closed
    ∙ ap (λ s. invokes us me m.method (arguments_at f s) (use_at f s)) (sym c.call_site-site.ensures)
    ∙ c.invoke.ensures
