-- Operands that the stack has.
use Rattle.std.proofs.Common.{◌≡◌, ℕ, Option, List, drop, ap, sym, ◌∙◌}
use Rattle.code_decode.specs.declared.code.ClassUnit.{ClassUnit}
use Rattle.frame_snapshot.specs.declared.stage.CallSite.{CallSite}
use Rattle.link_types.specs.declared.operands.MethodId.{MethodId}
use Rattle.java_rows.specs.Calls.{invokes_selected}
use Rattle.java_rows.specs.Plan.{Frame}
use Rattle.interp_plans.specs.Uses.{use_by, use_at, arguments_at}

-- a call with the same arguments and the same rest of the stack
pub selects_within : (us : List ClassUnit) (me : ℕ) (f : Frame) (low site : CallSite) (id : Option MethodId) → low.caller ≡ site.caller
    → arguments_at f low ≡ arguments_at f site → drop low.operands f.stack ≡ drop site.operands f.stack
    → invokes_selected us me (arguments_at f site) (use_at f site) id ≡ invokes_selected us me (arguments_at f low) (use_at f low) id
selects_within us me f low site id caller arguments rest =
    sym (ap (λ args. invokes_selected us me args (use_at f low) id) arguments
    ∙ ap (λ c. invokes_selected us me (arguments_at f site) (use_by f c (drop low.operands f.stack)) id) caller
    ∙ ap (λ xs. invokes_selected us me (arguments_at f site) (use_by f site.caller xs) id) rest)
