use Rattle.std.proofs.Common.{refl, sym}
use Rattle.port_turns.proofs.LeadLemmas.{may_be_asked, same_borrows, still_settled, same_bounds, plain_made, still_fit, still_counted}
use Rattle.port_turns.proofs.maker.PlainMakerTurnMaker.make_turns.Goals as goal

pub run_with-requires : goal.run_with-requires
run_with-requires g c = record {
  may = may_be_asked g.C.ThreadCode.state g.C.ThreadCode.saved g.C.ThreadCode.code g.P.StepPort.stepped
      c.args.thread.now c.in-Begin.is c.if-not-thread.true c.requires.settled c.requires.counts g.P.StepPort.allows _ refl c.requires.may;
}

pub shape_of-thread : goal.shape_of-thread
shape_of-thread g c =
    sym (same_borrows g.C.ThreadCode.state g.C.ThreadCode.saved g.C.ThreadCode.code g.P.StepPort.stepped
    c.args.thread.now c.in-Begin.is c.if-not-thread.true c.requires.settled c.requires.counts c.run_with.new.self c.run_with.ensures.saved _ c.run_with.new.host refl c.run_with.ensures.led).own

pub shape_of-self : goal.shape_of-self
shape_of-self g c =
    sym (same_borrows g.C.ThreadCode.state g.C.ThreadCode.saved g.C.ThreadCode.code g.P.StepPort.stepped
    c.args.thread.now c.in-Begin.is c.if-not-thread.true c.requires.settled c.requires.counts c.run_with.new.self c.run_with.ensures.saved _ c.run_with.new.host refl c.run_with.ensures.led).port

pub returns-clause-makes : goal.returns-clause-makes
returns-clause-makes g c = (
  refl,
  plain_made g.C.ThreadCode.state g.C.ThreadCode.saved g.C.ThreadCode.code g.P.StepPort.stepped
      c.args.thread.now c.in-Begin.is c.if-not-thread.true c.requires.settled c.requires.counts c.run_with.new.self c.run_with.ensures.saved _ c.run_with.new.host refl c.run_with.ensures.led,
)

pub returns-clause-fits : goal.returns-clause-fits
returns-clause-fits g c =
    still_fit g.C.ThreadCode.state g.C.ThreadCode.saved g.C.ThreadCode.code g.P.StepPort.stepped
    c.args.thread.now c.in-Begin.is c.if-not-thread.true c.requires.settled c.requires.counts c.run_with.new.self c.run_with.ensures.saved _ c.run_with.new.host refl c.run_with.ensures.led c.requires.fits

pub returns-clause-counts : goal.returns-clause-counts
returns-clause-counts g c =
    still_counted g.C.ThreadCode.state g.C.ThreadCode.saved g.C.ThreadCode.code g.P.StepPort.stepped
    c.args.thread.now c.in-Begin.is c.if-not-thread.true c.requires.settled c.requires.counts c.run_with.new.self c.run_with.ensures.saved _ c.run_with.new.host refl c.run_with.ensures.led

pub returns-clause-settled : goal.returns-clause-settled
returns-clause-settled g c =
    still_settled g.C.ThreadCode.state g.C.ThreadCode.saved g.C.ThreadCode.code g.P.StepPort.stepped
    c.args.thread.now c.in-Begin.is c.if-not-thread.true c.requires.settled c.requires.counts c.run_with.new.self c.run_with.ensures.saved _ c.run_with.new.host refl c.run_with.ensures.led

pub returns-clause-bounds : goal.returns-clause-bounds
returns-clause-bounds g c =
    same_bounds g.C.ThreadCode.state g.C.ThreadCode.saved g.C.ThreadCode.code g.P.StepPort.stepped
    c.args.thread.now c.in-Begin.is c.if-not-thread.true c.requires.settled c.requires.counts c.run_with.new.self c.run_with.ensures.saved _ c.run_with.new.host refl c.run_with.ensures.led
