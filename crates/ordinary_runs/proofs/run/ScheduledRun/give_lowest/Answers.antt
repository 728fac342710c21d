use Rattle.std.proofs.Common.{ℕ, ◌<◌, None, rules, refl, sym, ◌∙◌, ap, subst, arith}
use Rattle.op_core.specs.declared.Limits.{Limits}
use Rattle.schedules.specs.Schedule.{Rest}
use Rattle.schedules.specs.Run.{Run, EndsBy}
use Rattle.ordinary_machine.specs.Machine.{Machine, machine_of}
use Rattle.ordinary_machine.specs.Advance.{MayAdvance}
use Rattle.ordinary_runs.specs.Turns.{Progress, traced, progress_of, machine_turns, GivesIfEnabled}
use Rattle.ordinary_runs.specs.ScheduledRun.{run_of, GoesOnOrEnds}
use Rattle.ordinary_runs.proofs.RunLemmas.{begun_within}
use Rattle.ordinary_runs.proofs.LowestLemmas.{none_below_1, lowest_made, lowest_passed, lowest_came, stands_so}
use Rattle.ordinary_runs.proofs.run.ScheduledRun.give_lowest.Goals as goal

pub loop-number-init : goal.loop-number-init
loop-number-init g c = record {
  limits = refl;
  same = refl;
  none = none_below_1 g.C.ThreadCode.code g.C.ThreadCode.state c.args.self.now.turns.machine;
}

pub returns-then-made-gt0-clause-goes : goal.returns-then-made-gt0-clause-goes
returns-then-made-gt0-clause-goes g c =
    let state = g.C.ThreadCode.state in
    let code = g.C.ThreadCode.code in
    let x = c.loop-number.self.turns in
    let y = c.run_silent-made.new.self in
    let z = c.turn_if_enabled.new.self in
    let t : ℕ = c.loop-number.number in
    let end = c.in_ok-end.end in
    let gives = subst (λ (l : Limits). GivesIfEnabled code l (progress_of state y) t end (progress_of state z)) c.run_silent-made.ensures.limits c.in_ok-end.ensures.gives in
    let below : t < 256 = search rules in
    let untraced = ap (λ (run : Run (Progress g.C.ThreadCode.State)). traced run.state.events) c.loop-number.invariant.same ∙ c.requires.untraced in
    stands_so code x.limits c.args.self.now.turns.limits (run_of state c.args.self.now) (progress_of state x) (progress_of state z) c.loop-number.self.rest None c.loop-number.invariant.limits c.loop-number.invariant.same c.requires.rest
    (lowest_made code state x.limits x y z t c.run_silent-made.result end untraced below c.loop-number.invariant.none c.if-made-gt0.true c.run_silent-made.ensures.silent gives)

pub returns-in-Some-clause-goes : goal.returns-in-Some-clause-goes
returns-in-Some-clause-goes g c =
    let state = g.C.ThreadCode.state in
    let code = g.C.ThreadCode.code in
    let x = c.loop-number.self.turns in
    let y = c.run_silent-made.new.self in
    let z = c.turn_if_enabled.new.self in
    let t : ℕ = c.loop-number.number in
    let end = c.in_ok-end.end in
    let gives = subst (λ (l : Limits). GivesIfEnabled code l (progress_of state y) t end (progress_of state z)) c.run_silent-made.ensures.limits c.in_ok-end.ensures.gives in
    let below : t < 256 = search rules in
    let untraced = ap (λ (run : Run (Progress g.C.ThreadCode.State)). traced run.state.events) c.loop-number.invariant.same ∙ c.requires.untraced in
    subst (λ how. GoesOnOrEnds code c.args.self.now.turns.limits (run_of state c.args.self.now) how (run_of state (record { turns = z; rest = c.loop-number.self.rest; enabled = c.loop-number.self.enabled }))) (sym c.how_at.ensures)
    (stands_so code x.limits c.args.self.now.turns.limits (run_of state c.args.self.now) (progress_of state x) (progress_of state z) c.loop-number.self.rest _ c.loop-number.invariant.limits c.loop-number.invariant.same c.requires.rest
    (lowest_came code state x.limits x y z t c.run_silent-made.result c.if-made-gt0.false c.run_silent-made.ensures.silent end c.in-Some.end untraced below c.loop-number.invariant.none gives c.in-Some.is))

pub loop-number-preserved : goal.loop-number-preserved
loop-number-preserved g c =
    let state = g.C.ThreadCode.state in
    let code = g.C.ThreadCode.code in
    let x = c.loop-number.self.turns in
    let y = c.run_silent-made.new.self in
    let z = c.turn_if_enabled.new.self in
    let t : ℕ = c.loop-number.number in
    let end = c.in_ok-end.end in
    let gives = subst (λ (l : Limits). GivesIfEnabled code l (progress_of state y) t end (progress_of state z)) c.run_silent-made.ensures.limits c.in_ok-end.ensures.gives in
    let passed = lowest_passed code state x.limits x y z t c.run_silent-made.result c.if-made-gt0.false c.run_silent-made.ensures.silent end c.loop-number.invariant.none gives c.in_default.is in
    record {
      limits = c.in_ok-end.ensures.limits ∙ c.run_silent-made.ensures.limits ∙ c.loop-number.invariant.limits;
      same = ap (λ (r : Progress g.C.ThreadCode.State). record { state = r; rest = c.loop-number.self.rest }) passed.0 ∙ c.loop-number.invariant.same;
      none = passed.1;
    }

pub end-requires-clause-untraced : goal.end-requires-clause-untraced
end-requires-clause-untraced g c = ap (λ (run : Run (Progress g.C.ThreadCode.State)). traced run.state.events) c.loop-number.invariant.same ∙ c.requires.untraced

pub end-requires-clause-blocked : goal.end-requires-clause-blocked
end-requires-clause-blocked g c = λ t may.
    let state = g.C.ThreadCode.state in
    let code = g.C.ThreadCode.code in
    let before : Machine g.C.ThreadCode.State = machine_of state c.args.self.now.turns.machine in
    let same = ap (λ (run : Run (Progress g.C.ThreadCode.State)). run.state.machine) c.loop-number.invariant.same in
    let there : MayAdvance code before t = subst (λ (m : Machine g.C.ThreadCode.State). MayAdvance code m t) same may in
    let within = begun_within before.now.threads c.highest.result t c.highest.ensures there.begun in
    c.loop-number.invariant.none t (omega (arith, within, c.loop-number-test.false)) may

pub returns-clause-goes : goal.returns-clause-goes
returns-clause-goes g c =
    let state = g.C.ThreadCode.state in
    let code = g.C.ThreadCode.code in
    let same = c.loop-number.invariant.same in
    let through = ap (λ (run : Run (Progress g.C.ThreadCode.State)). run.rest.order) same ∙ ap (λ (rest : Rest). rest.order) c.requires.rest in
    let ends = c.end.ensures c.loop-number.self.rest through in (
      subst (λ (limits : Limits). EndsBy (machine_turns code limits) (run_of state c.args.self.now) c.end.result) c.loop-number.invariant.limits
          (subst (λ (run : Run (Progress g.C.ThreadCode.State)). EndsBy (machine_turns code c.loop-number.self.turns.limits) run c.end.result) same ends),
      ap (λ (run : Run (Progress g.C.ThreadCode.State)). run.state) same,
    )
