use Rattle.std.proofs.Common.{◌≡◌, ℕ, ◌<◌, Option, Some, slice_get, length, List, rules, refl, sym, subst}
use Rattle.schedules.specs.Schedule.{place_of}
use Rattle.ordinary_machine.specs.Advance.{MayAdvance}
use Rattle.ordinary_runs.specs.Turns.{progress_of}
use Rattle.ordinary_runs.specs.ScheduledRun.{run_of, GoesOnOrEnds}
use Rattle.ordinary_runs.proofs.RunLemmas.{is_picked, picked_live, picked_came}
use Rattle.ordinary_runs.proofs.run.ScheduledRun.give_drawn.Goals as goal

pub returns-in_default-clause-goes : goal.returns-in_default-clause-goes
returns-in_default-clause-goes g c = λ rest through draws. (c.end.ensures rest through, refl)

pub turn-requires : goal.turn-requires
turn-requires g c =
    let state = g.C.ThreadCode.state in
    let now = c.args.self.now in
    let enabled = MayAdvance g.C.ThreadCode.code (progress_of state now.turns).machine in
    let threads : List ℕ = c.list_enabled.new.threads.items in
    let number : Option ℕ = Some c.args.number in
    let t : ℕ = c.in-Some.thread in
    let at : slice_get threads (place_of number (length threads)) ≡ Some t = subst (λ xs. slice_get xs (place_of number (length xs)) ≡ Some t) c.as_slice.ensures.value c.in-Some.ensures in
    let picked = is_picked enabled threads number t c.in_ok-list_enabled.ensures at in
    picked_live g.C.ThreadCode.code (progress_of state now.turns) number t picked

pub returns-clause-goes : goal.returns-clause-goes
returns-clause-goes g c =
    let state = g.C.ThreadCode.state in
    let now = c.args.self.now in
    let enabled = MayAdvance g.C.ThreadCode.code (progress_of state now.turns).machine in
    let threads : List ℕ = c.list_enabled.new.threads.items in
    let number : Option ℕ = Some c.args.number in
    let t : ℕ = c.in-Some.thread in
    let at : slice_get threads (place_of number (length threads)) ≡ Some t = subst (λ xs. slice_get xs (place_of number (length xs)) ≡ Some t) c.as_slice.ensures.value c.in-Some.ensures in
    let picked = is_picked enabled threads number t c.in_ok-list_enabled.ensures at in
    let below : t < 256 = search rules in
    λ rest through draws.
    subst (λ how. GoesOnOrEnds g.C.ThreadCode.code now.turns.limits (record { state = progress_of state now.turns; rest = rest }) how (run_of state (record { turns = c.turn.new.self; rest = now.rest; enabled = now.enabled }))) (sym c.how_at.ensures)
    (picked_came g.C.ThreadCode.code now.turns.limits (progress_of state now.turns) (progress_of state c.turn.new.self) rest now.rest number t c.in_ok-end.end
    c.requires.untraced through (sym draws) picked below c.in_ok-end.ensures.gives c.requires.rest)
