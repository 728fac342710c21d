-- Runs of local steps: one run after another, and runs of at most one step.
use Rattle.std.proofs.Common.{◌≡◌, ◌↔◌, ◌≤◌, ◌<◌, ◌+◌, ℕ, zero, suc, List, refl, sym, ap, subst, ◌∙◌, arith}
use Rattle.code_decode.specs.declared.code.ClassUnit.{ClassUnit}
use Rattle.instructions.specs.declared.what.Instr.{Instr}
use Rattle.instructions.specs.declared.what.Target.{Target}
use Rattle.frame_snapshot.specs.FrameStack.{FrameStack}
use Rattle.java_rows.specs.LocalRows.{LocalRow, moves, fails_by, no_row}
use Rattle.interp_local.specs.declared.step.LocalStep.{LocalStep}
use Rattle.interp_local.specs.declared.step.LocalStep.TheVariants.{Moved, Throw, Other}
use Rattle.interp_local.specs.Runs.{IsLocalRun, IsLocalStep}
use Rattle.interp_local.specs.Steps.{local_now, kind_of, outcome, IsLocal, KeptUnlessMoved}

pub runs_join : (us : List ClassUnit) (steps : List (Instr Target)) (a b : ℕ) (old middle new : FrameStack)
    → IsLocalRun us steps a old middle → IsLocalRun us steps b middle new → IsLocalRun us steps (a + b) old new
runs_join us steps a zero old middle new first rest =
    let count : a + 0 ≡ a = omega arith in
    subst (λ n. IsLocalRun us steps n old new) (sym count) (subst (IsLocalRun us steps a old) (sym rest) first)
runs_join us steps a (suc n) old middle new first rest =
    let count : a + suc n ≡ suc (a + n) = omega arith in
    subst (λ k. IsLocalRun us steps k old new) (sym count) (rest.0, runs_join us steps a n old middle rest.0 first rest.1, rest.2)

-- a run and one step more
pub run_of_one : (us : List ClassUnit) (steps : List (Instr Target)) (n : ℕ) (stop : LocalStep) (old middle new : FrameStack)
    → IsLocalRun us steps n old middle → stop ≡ Moved → local_now us steps middle ≡ outcome stop new → IsLocal middle new → IsLocalRun us steps (n + 1) old new
run_of_one us steps n stop old middle new run is row local =
    let count : n + 1 ≡ suc n = omega arith in
    let step : IsLocalStep us steps middle new = record { moved = row ∙ ap (λ k. outcome k new) is; local = local } in
    subst (λ k. IsLocalRun us steps k old new) (sym count) (middle, run, step)

-- a step that isn't made says why
pub stop_is : (us : List ClassUnit) (steps : List (Instr Target)) (stop : LocalStep) (old new : FrameStack)
    → (stop ≡ Moved → ⊥) → local_now us steps old ≡ outcome stop new → KeptUnlessMoved stop old new → stop ≡ kind_of (local_now us steps new)
stop_is us steps Moved old new moves_not row kept = absurd (moves_not refl)
stop_is us steps (Throw c) old new moves_not row kept = sym (ap (λ s. kind_of (local_now us steps s)) kept ∙ ap kind_of row)
stop_is us steps Other old new moves_not row kept = sym (ap (λ s. kind_of (local_now us steps s)) kept ∙ ap kind_of row)

-- what one step comes to
pub record IsOneStep (us : List ClassUnit) (steps : List (Instr Target)) (stop : LocalStep) (old new : FrameStack) : Type 0 where
  pub row : local_now us steps old ≡ outcome stop new
  pub kept : KeptUnlessMoved stop old new
  pub local : IsLocal old new

stops_at : (r : LocalRow) (stop : LocalStep) (s : FrameStack) → (stop ≡ Moved → ⊥) → stop ≡ kind_of r → r ≡ outcome stop s
stops_at (moves f) Moved s moves_not is = absurd (moves_not refl)
stops_at (fails_by c) Moved s moves_not is = absurd (moves_not refl)
stops_at no_row Moved s moves_not is = absurd (moves_not refl)
stops_at (moves f) (Throw d) s moves_not is = absurd (cc)
stops_at (fails_by c) (Throw d) s moves_not is = cc
stops_at no_row (Throw d) s moves_not is = absurd (cc)
stops_at (moves f) Other s moves_not is = absurd (cc)
stops_at (fails_by c) Other s moves_not is = absurd (cc)
stops_at no_row Other s moves_not is = refl

kept_for : (stop : LocalStep) (old new : FrameStack) → (stop ≡ Moved → ⊥) → new ≡ old → KeptUnlessMoved stop old new
kept_for Moved old new moves_not same = tt
kept_for (Throw c) old new moves_not same = same
kept_for Other old new moves_not same = same

moved_to : (us : List ClassUnit) (steps : List (Instr Target)) (stop : LocalStep) (old new : FrameStack) → stop ≡ Moved → IsLocalStep us steps old new → IsOneStep us steps stop old new
moved_to us steps Moved old new is step = record { row = step.moved; kept = tt; local = step.local }
moved_to us steps (Throw c) old new is step = absurd (cc)
moved_to us steps Other old new is step = absurd (cc)

pub one_step : (us : List ClassUnit) (steps : List (Instr Target)) (n : ℕ) (stop : LocalStep) (old new : FrameStack)
    → IsLocalRun us steps n old new → n ≤ 1 → (stop ≡ Moved) ↔ (n ≡ 1) → (n < 1 → stop ≡ kind_of (local_now us steps new)) → IsOneStep us steps stop old new
one_step us steps zero stop old new run few full stopped =
    let moves_not : stop ≡ Moved → ⊥ = λ is. let count : 0 ≡ 1 = full.0 is in omega (arith, count) in
    let kind : stop ≡ kind_of (local_now us steps old) = stopped (omega arith) ∙ ap (λ s. kind_of (local_now us steps s)) run in
    record {
      row = stops_at (local_now us steps old) stop new moves_not kind;
      kept = kept_for stop old new moves_not run;
      local = record {
        below = ap (λ (s : FrameStack). s.below) run;
        saves = ap (λ (s : FrameStack). s.saves) run;
        stage = ap (λ (s : FrameStack). s.here.stage) run;
        method = ap (λ (s : FrameStack). s.here.method) run;
      };
    }
one_step us steps (suc zero) stop old new run few full stopped =
    moved_to us steps stop old new (full.1 refl) (subst (λ s. IsLocalStep us steps s new) run.1 run.2)
one_step us steps (suc (suc n)) stop old new run few full stopped = absurd (omega (arith, few))
