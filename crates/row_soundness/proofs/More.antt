-- What fits still fits when more is known.
use Rattle.std.proofs.Common.{ℕ, Option, List, [], ◌∷◌, drop}
use Rattle.builtin_world.specs.declared.number.TheConstants.{THREAD, RUNNABLE}
use Rattle.code_decode.specs.declared.code.ClassUnit.{ClassUnit}
use Rattle.link_types.specs.declared.operands.MethodId.{MethodId}
use Rattle.link_types.specs.declared.types.ObjectType.TheVariants.{Class}
use Rattle.java_rows.specs.Plan.{Task, at_step, notifies, finds, Frame, FrameEnd, Ending, goes, throws, ends, launches, Plan, want, silently, calls, ready, over, stuck}
use Rattle.java_rows.specs.Thread.{Local}
use Rattle.row_soundness.specs.Senses.{Sense}
use Rattle.row_soundness.specs.Fits.{Returns, Preceding, StandsIn, BetweenCalls, OperandFits, TaskFits, FrameFits, EndingFits, CallFits, PlanFits, BelowFits, LocalFits, env_of}
use Rattle.row_soundness.specs.Knowledge.{Knows}
use Rattle.row_soundness.specs.Accepted.{Accepted}
use Rattle.row_soundness.proofs.Basics.{types_more}
use Rattle.row_soundness.proofs.Flow.{stands_more}
use Rattle.row_soundness.proofs.EndsFit.{end_more}

module _ {P : Type 0} (know : Sense P) (us : List ClassUnit) (knows : Knows know us) (accepted : Accepted us) (h h' : P) (more : know.extends h h') where
  pub operand_more : (task : Task) → OperandFits know us h task → OperandFits know us h' task
  operand_more at_step is = is
  operand_more (notifies r) is = knows.there_more h h' r more is
  operand_more (finds v) is = knows.of_more h h' v (Class RUNNABLE) more is

  pub between_more : (f : Frame) (s : StandsIn know us h f) → BetweenCalls know us h f s → BetweenCalls know us h' f (stands_more know us knows accepted h h' more f s)
  between_more f s is = record {
    step = is.step;
    there = is.there;
    falls = is.falls;
    same = is.same;
    stack = types_more know us knows (env_of us f.method s.of) s.unset h h' (drop 1 f.stack) _ more is.stack;
    fits = is.fits;
    some = is.some;
  }

  pub task_more : (f : Frame) (s : StandsIn know us h f) (task : Task) → TaskFits know us h f s task → TaskFits know us h' f (stands_more know us knows accepted h h' more f s) task
  task_more f s at_step is = types_more know us knows (env_of us f.method s.of) s.unset h h' f.stack (s.frames f.step).stack more is
  task_more f s (notifies r) is = (operand_more (notifies r) is.0, between_more f s is.1)
  task_more f s (finds v) is = (operand_more (finds v) is.0, between_more f s is.1)

  abbrev pub frame_more : (f : Frame) → FrameFits know us h f → FrameFits know us h' f
  frame_more f fits = record { stands = stands_more know us knows accepted h h' more f fits.stands; task = task_more f fits.stands f.task fits.task }

  ending_more : (res : Option Returns) (ending : Ending) → EndingFits know us h res ending → EndingFits know us h' res ending
  ending_more res (goes f) (fits, same) = (frame_more f fits, same)
  ending_more res (throws f r c) (stands, same, thrown) = (stands_more know us knows accepted h h' more f stands, same, knows.thrown_more h h' r c more thrown)
  ending_more res (ends end) fits = end_more know us knows accepted 0 h h' res end more fits
  ending_more res (launches task) (none, operand) = (none, operand_more task operand)

  abbrev call_more : (id : MethodId) (args : List ℕ) (monitor : ℕ) → CallFits know us h id args monitor → CallFits know us h' id args monitor
  call_more id args monitor call = record { frame = call.frame; first = call.first; fits = frame_more call.frame call.fits }

  pub plan_more : (res : Option Returns) (b : Preceding) (plan : Plan) → PlanFits know us res b plan h → PlanFits know us res b plan h'
  plan_more res b (want op k) fits = knows.asks_more res b h h' op k more fits
  plan_more res b (silently plan) (any, fits) = (any, plan_more res Rattle.row_soundness.specs.Fits.anything plan fits)
  plan_more res b (calls id args monitor k) (any, call, next) = (any, call_more id args monitor call, λ h'' end more' fits. next h'' end (knows.both h h' h'' more more') fits)
  plan_more res b (ready ending) (any, fits) = (any, ending_more res ending fits)
  plan_more res b over fits = fits
  plan_more res b stuck fits = absurd fits

  pub below_more : (res : Option Returns) (below : List (FrameEnd → Plan)) → BelowFits know us h res below → BelowFits know us h' res below
  below_more res [] rest = rest
  below_more res (k ∷ below) (own, next, rest) = (own, (λ h'' end more' fits. next h'' end (knows.both h h' h'' more more') fits), below_more own below rest)

  pub local_more : (b : Preceding) (l : Local) → LocalFits know us b h l → LocalFits know us b h' l
  local_more b l fits = record {
    program = fits.program;
    begun = fits.begun;
    thread = knows.of_more h h' l.thread (Class THREAD) more fits.thread;
    res = fits.res;
    plan = plan_more fits.res b l.plan fits.plan;
    below = below_more fits.res l.below fits.below;
  }
