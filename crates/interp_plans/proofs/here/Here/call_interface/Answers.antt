use Rattle.std.proofs.Common.{rules, ◌≡◌, ◌≢◌, ◌≤◌, suc, Some, length, ap, sym, ◌∙◌}
use Rattle.frame_snapshot.specs.declared.todo.Then.TheVariants as thens
use Rattle.op_core.specs.declared.Op.TheVariants.{ClassOf}
use Rattle.java_rows.specs.Calls.{calls_interface, class_of_type, first_of}
use Rattle.java_rows.specs.Plan.{want}
use Rattle.java_rows.specs.Program.{argument_words, method_at}
use Rattle.interp_plans.specs.Calls.{call_site}
use Rattle.interp_plans.specs.Replies.{then_of}
use Rattle.interp_plans.specs.Uses.{arguments_at, frame_of}
use Rattle.interp_plans.proofs.CallLemmas.{interface_asks}
use Rattle.interp_plans.proofs.here.Here.call_interface.Goals as goal

pub returns : goal.returns
returns g c =
    let us = g.P.Constants.units c.args.self.now.program.now in
    let me = c.args.self.now.thread in
    let f = frame_of c.args.self.now.frames.now.here in
    let m = c.in-Some.named in
    let r = c.first_argument-receiver.result in
    let named : method_at us f.method.class c.args.index ≡ Some m = sym c.method_at.ensures ∙ c.in-Some.is in
    let has : suc (argument_words us m.method) ≤ length f.stack = search rules in
    let is : r ≡ first_of (arguments_at f (call_site us m.method)) = search rules in
    let some : r ≢ 0 = search rules in
    ap (calls_interface us me f) named
    ∙ interface_asks us me f m r has is some
    ∙ ap (λ s. want (ClassOf r) (then_of us me f (thens.SelectsFor (class_of_type m.named) m.method s))) (sym c.call_site-site.ensures)
    ∙ ap (λ i. want (ClassOf r) (then_of us me f (thens.SelectsFor i m.method c.call_site-site.result))) (sym c.class_of_type.ensures)
