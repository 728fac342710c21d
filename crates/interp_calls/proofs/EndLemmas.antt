-- The ends of initializers.
use Rattle.std.proofs.Common.{◌≡◌, ℕ, suc, Option, Some, List, ap, sym, ◌∙◌, slice_get}
use Rattle.std.specs.Option.{option_map_or}
use Rattle.builtin_world.specs.declared.number.TheConstants.{ILLEGAL_MONITOR_STATE_EXCEPTION}
use Rattle.code_decode.specs.declared.code.ClassUnit.{ClassUnit}
use Rattle.frame_snapshot.specs.declared.stage.Caller.{Caller}
use Rattle.java_rows.specs.Calls.{after_call}
use Rattle.java_rows.specs.Initialization.{breaks}
use Rattle.java_rows.specs.Plan.{Frame, broke, makes, stuck}
use Rattle.interp_plans.specs.Initializing.{after_initializer, broken_at, initializer_use}

-- an initializer whose monitor wasn't owned: none enters one
pub broke_at : (us : List ClassUnit) (me : ℕ) (f : Frame) (caller : Caller) (chain : List ℕ) (i c : ℕ) → slice_get chain i ≡ Some c
    → after_initializer us me f caller chain i broke
    ≡ makes ILLEGAL_MONITOR_STATE_EXCEPTION 0 (λ r. broken_at us f caller chain (suc i) r ILLEGAL_MONITOR_STATE_EXCEPTION)
broke_at us me f caller chain i c is =
    ap (λ (o : Option ℕ). option_map_or (λ c. after_call (initializer_use us me f caller chain i c)) o (λ outcome. stuck) broke) is
    ∙ ap (λ (o : Option ℕ). makes ILLEGAL_MONITOR_STATE_EXCEPTION 0 (λ r.
    option_map_or (λ c. breaks us c (broken_at us f caller chain i)) o (λ r d. stuck) r ILLEGAL_MONITOR_STATE_EXCEPTION)) (sym is)
