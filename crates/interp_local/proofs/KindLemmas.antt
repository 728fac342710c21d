-- What can be done has its row.
use Rattle.std.proofs.Common.{◌≡◌, ℕ, suc, ◌≤◌, true, List, ◌++◌, length, drop, refl, ap, arith, length-append, length-drop}
use Rattle.std.proofs.lemmas.Bool.Decides.{nat_tests}
use Rattle.std.specs.Prelude.{nat_le, if◌then◌else◌}
use Rattle.frame_snapshot.specs.FrameStack.{FrameStack}
use Rattle.java_rows.specs.LocalRows.{moves, no_row, leaving, with_local}
use Rattle.java_rows.specs.Plan.{Frame, after_step}
use Rattle.interp_local.specs.declared.effect.Effect.{Effect}
use Rattle.interp_local.specs.declared.effect.Effect.TheVariants.{Leaves, Stores, StoresLong, Jumps, Throws, Other}
use Rattle.interp_local.specs.declared.step.LocalStep.TheVariants.{Moved}
use Rattle.interp_local.specs.Effects.{words_of, row_of, CanApply}
use Rattle.interp_local.specs.Frames.{frame_now}
use Rattle.interp_local.specs.Steps.{kind_of, kind_of_effect}

leaving_moves : (f : Frame) (stack : List ℕ) → length stack ≤ f.room → kind_of (leaving f stack) ≡ Moved
leaving_moves f stack fits =
    let test : nat_le (length stack) f.room ≡ true = grind (arith, nat_tests) in
    ap (λ b. kind_of (if b then moves (after_step f stack) else no_row)) test

pub kind_is : (s : FrameStack) (e : Effect) → CanApply s e → kind_of (row_of (frame_now s) e) ≡ kind_of_effect e
kind_is s (Leaves taken words) can =
    leaving_moves (frame_now s) (words_of words ++ drop taken s.here.stack)
    (omega (arith, can.0, can.1, length-append (words_of words) (drop taken s.here.stack), length-drop taken s.here.stack))
kind_is s (Stores taken n word) can = leaving_moves (with_local (frame_now s) n word) (drop taken s.here.stack) (omega (arith, length-drop taken s.here.stack))
kind_is s (StoresLong n low high) can = leaving_moves (with_local (with_local (frame_now s) n low) (suc n) high) (drop 2 s.here.stack) (omega (arith, length-drop 2 s.here.stack))
kind_is s (Jumps taken step) can = refl
kind_is s (Throws c) can = refl
kind_is s Other can = refl
