-- Local states that fit go on in local states that fit.
use Rattle.std.proofs.Common.{◌≡◌, ◌==◌, ℕ, Bool, true, false, Option, None, Some, List, [], ◌∷◌, length, drop, slice_get, refl, sym, ap, subst, ◌∙◌, nat_le, if◌then◌else◌}
use Rattle.std.specs.Option.{option_map_or}
use Rattle.std.proofs.lemmas.Bool.{le-leb}
use Rattle.builtin_world.specs.declared.number.TheConstants.{THREAD}
use Rattle.code_decode.specs.declared.code.ClassUnit.{ClassUnit}
use Rattle.code_decode.specs.declared.code.Code.{Code as MethodCode}
use Rattle.instructions.specs.declared.what.Instr.{Instr}
use Rattle.instructions.specs.declared.what.Target.{Target}
use Rattle.link_types.specs.declared.operands.MethodId.{MethodId}
use Rattle.link_types.specs.declared.types.ObjectType.TheVariants.{Class}
use Rattle.link_rules.specs.Methods.{method_code}
use Rattle.op_core.specs.declared.Op.{Op}
use Rattle.op_core.specs.declared.Op.TheVariants.{Wait, End}
use Rattle.op_core.specs.declared.Reply.{Reply}
use Rattle.op_core.specs.declared.Reply.TheVariants.{Done}
use Rattle.op_core.specs.Orderly.{IsEnd}
use Rattle.op_core.specs.declared.Next.{Next}
use Rattle.op_core.specs.declared.Next.TheVariants.{Silent, Want, Ended}
use Rattle.type_rules.proofs.Falling.{step_there}
use Rattle.java_rows.specs.Calls.{goes_on_at, invokes_selected}
use Rattle.java_rows.specs.Plan.{Task, at_step, notifies, finds, Frame, FrameEnd, threw, broke, exits, goes, throws, ends, launches, Plan, want, silently, calls, ready, over, stuck, use_in, asks_class}
use Rattle.java_rows.specs.Program.{steps_of, select, thread_run}
use Rattle.java_rows.specs.Rows.{row}
use Rattle.code_decode.specs.declared.code.Handler.{Handler}
use Rattle.java_rows.specs.Throws.{looks_for, handler_for, caught_by}
use Rattle.java_rows.specs.Thread.{at, at_instruction, at_task, begun, begun_first, first_frame, settled, next_of, silent_of, reply_of, launch}
use Rattle.row_soundness.specs.Senses.{Sense, Making, PlainSteps}
use Rattle.row_soundness.specs.Fits.{Returns, Preceding, Follows, anything, after_reply, making_of, following, IsAnywhere, IsTheEnd, IsBegun, EndFits, StandsIn, returns_of, TaskFits, FrameFits, CallFits, PlanFits, BelowFits, LocalFits}
use Rattle.row_soundness.specs.Knowledge.{Knows}
use Rattle.row_soundness.specs.Accepted.{Accepted}
use Rattle.row_soundness.proofs.Flow.{room_at}
use Rattle.row_soundness.proofs.EndsFit.{looks_fit}
use Rattle.row_soundness.specs.Rows.{RowsFit}

same_want : (q op : Op) → ◌≡◌ {A = Next} (Want q) (Want op) → q ≡ op
same_want q op e = cc

silent_no : (op : Op) → ◌≡◌ {A = Next} Silent (Want op) → ⊥
silent_no op e = cc

ended_no : (op : Op) → ◌≡◌ {A = Next} Ended (Want op) → ⊥
ended_no op e = cc

-- a thread goes on after each reply but that of its end
pub goes_on_after : (op : Op) (reply : Reply) → (IsEnd op → ⊥) → IsTheEnd (after_reply op reply) → ⊥
goes_on_after (End x) reply no_end is = no_end tt
goes_on_after (Wait r) Done no_end is = is
goes_on_after op reply no_end is = is

module _ {P : Type 0} (know : Sense P) (us : List ClassUnit) (knows : Knows know us) (accepted : Accepted us) where
  module _ (rows : RowsFit know us) (me : ℕ) where
    steps_are : (f : Frame) (code : MethodCode) → method_code us f.method ≡ Some code → steps_of us f.method ≡ code.steps
    steps_are f code e = ap (λ o. option_map_or (λ (c : MethodCode). c.steps) o []) e

    at_there : (h : P) (res : Option Returns) (f : Frame) (o : Option (Instr Target)) (i : Instr Target) → o ≡ Some i → PlanFits know us res anything (row us me f i.what) h → PlanFits know us res anything (at_instruction us me f o) h
    at_there h res f o i e fits = subst (λ x. PlanFits know us res anything (at_instruction us me f x) h) (sym e) fits

    with_room : (h : P) (res : Option Returns) (b : Bool) (plan : Plan) → b ≡ true → PlanFits know us res anything plan h → PlanFits know us res anything (if b then plan else stuck) h
    with_room h res true plan e fits = fits
    with_room h res false plan e fits = cc

    -- a frame goes on
    pub begun_fits : (h : P) (f : Frame) (fits : FrameFits know us h f) → know.is_of h me (Class THREAD) → PlanFits know us (Some (returns_of know us h f fits.stands)) anything (begun us me f) h
    begun_fits h f fits mine = by_task f.task refl fits.task
      where
        s : StandsIn know us h f
        s = fits.stands

        by_task : (task : Task) → f.task ≡ task → TaskFits know us h f fits.stands task → PlanFits know us (Some (returns_of know us h f fits.stands)) anything (begun us me f) h
        by_task at_step e typed =
            let i = step_there fits.stands.of.code.steps f.step fits.stands.within in
            with_room h (Some (returns_of know us h f fits.stands)) (nat_le (length f.stack) f.room) (at_task us me f f.task) (le-leb _ _ (room_at know us knows accepted h f fits.stands f.step f.stack fits.stands.unset fits.stands.within typed))
            (subst (λ t. PlanFits know us (Some (returns_of know us h f fits.stands)) anything (at_task us me f t) h) (sym e)
            (at_there h (Some (returns_of know us h f fits.stands)) f (slice_get (steps_of us f.method) f.step) i.0 (ap (λ xs. slice_get xs f.step) (steps_are f fits.stands.of.code fits.stands.of.coded) ∙ i.1)
            (rows.rows me h f i.0 (record { stands = fits.stands; at = i.1; stack = typed }) mine)))
        by_task (notifies r) e typed =
            with_room h (Some (returns_of know us h f fits.stands)) (nat_le (length f.stack) f.room) (at_task us me f f.task) (le-leb _ _ typed.1.fits)
            (subst (λ t. PlanFits know us (Some (returns_of know us h f fits.stands)) anything (at_task us me f t) h) (sym e) (rows.tasks me h f fits.stands (notifies r) mine typed.0 typed.1))
        by_task (finds v) e typed =
            with_room h (Some (returns_of know us h f fits.stands)) (nat_le (length f.stack) f.room) (at_task us me f f.task) (le-leb _ _ typed.1.fits)
            (subst (λ t. PlanFits know us (Some (returns_of know us h f fits.stands)) anything (at_task us me f t) h) (sym e) (rows.tasks me h f fits.stands (finds v) mine typed.0 typed.1))

    frame_begins : (f : Frame) → IsBegun (begun us me f)
    frame_begins f = by_room (nat_le (length f.stack) f.room) f.task
      where
        by_step : (o : Option (Instr Target)) → IsBegun (at_instruction us me f o)
        by_step (Some i) = rows.rows_begin me f i.what
        by_step None = tt

        by_room : (b : Bool) (task : Task) → IsBegun (if b then at_task us me f task else stuck)
        by_room false task = tt
        by_room true at_step = by_step (slice_get (steps_of us f.method) f.step)
        by_room true (notifies r) = rows.tasks_begin me (use_in f (drop 1 f.stack)) (notifies r)
        by_room true (finds v) = rows.tasks_begin me (use_in f (drop 1 f.stack)) (finds v)

    thrown_begins : (f : Frame) (r c : ℕ) → IsBegun (looks_for us f r c)
    thrown_begins f r c = by_handler (handler_for us f c)
      where
        by_monitor : (b : Bool) (end : FrameEnd) → IsBegun (if b then silently (ready (ends end)) else exits f.monitor (silently (ready (ends end))) (silently (ready (ends broke))))
        by_monitor true end = tt
        by_monitor false end = tt

        by_handler : (o : Option Handler) → IsBegun (caught_by f r c o)
        by_handler (Some x) = tt
        by_handler None = by_monitor (f.monitor == 0) (threw r c)

    local_at : (b : Preceding) (h : P) (res : Option Returns) (plan : Plan) (below : List (FrameEnd → Plan)) → IsBegun plan → know.is_of h me (Class THREAD) → PlanFits know us res b plan h → BelowFits know us h res below
        → LocalFits know us b h (at us me plan below)
    local_at b h res plan below begun mine fits rest = record { program = refl; begun = begun; thread = mine; res = res; plan = fits; below = rest }

    no_more : (b : Preceding) → IsAnywhere b → b ≡ anything
    no_more anything is = refl
    no_more b is = absurd is

    -- where an instruction is complete
    pub settled_fits : (b : Preceding) (h : P) (res : Option Returns) (below : List (FrameEnd → Plan)) (plan : Plan) → know.is_of h me (Class THREAD) → PlanFits know us res b plan h → BelowFits know us h res below
        → LocalFits know us b h (settled us me plan below)
    settled_fits b h res below (want op k) mine fits rest = local_at b h res (want op k) below tt mine fits rest
    settled_fits b h res below (silently plan) mine fits rest = local_at b h res (silently plan) below tt mine fits rest
    settled_fits b h res below (calls id args monitor k) mine fits rest = local_at b h res (calls id args monitor k) below tt mine fits rest
    settled_fits b h res below over mine fits rest = local_at b h res over below tt mine fits rest
    settled_fits b h res below stuck mine fits rest = absurd fits
    settled_fits b h res below (ready (goes f)) mine (any, (frame, same)) rest =
        subst (λ x. LocalFits know us x h (at us me (begun us me f) below)) (sym (no_more b any))
        (local_at anything h (Some (returns_of know us h f frame.stands)) (begun us me f) below (frame_begins f) mine (begun_fits h f frame mine) (subst (λ r. BelowFits know us h r below) (sym same) rest))
    settled_fits b h res below (ready (throws f r c)) mine (any, (stands, same, thrown)) rest =
        subst (λ x. LocalFits know us x h (at us me (looks_for us f r c) below)) (sym (no_more b any))
        (local_at anything h (Some (returns_of know us h f stands)) (looks_for us f r c) below (thrown_begins f r c) mine (looks_fit know us knows accepted me h f stands r c thrown) (subst (λ x. BelowFits know us h x below) (sym same) rest))
    settled_fits b h res below (ready (launches task)) mine (any, (none, operand)) rest =
        subst (λ x. LocalFits know us x h (at us me (goes_on_at us me launch task) below)) (sym (no_more b any))
        (local_at anything h None (goes_on_at us me launch task) below (rows.tasks_begin me launch task) mine (rows.launched me h task mine operand) (subst (λ x. BelowFits know us h x below) none rest))
    settled_fits b h res [] (ready (ends end)) mine (any, fits) rest = absurd (no_end res rest fits)
      where
        no_end : (res : Option Returns) → res ≡ None → EndFits know h res end → ⊥
        no_end None e fits = fits
        no_end (Some r) e fits = cc
    settled_fits b h res (k ∷ below) (ready (ends end)) mine (any, fits) (own, next, rest) =
        subst (λ x. LocalFits know us x h (settled us me (k end) below)) (sym (no_more b any))
        (settled_fits anything h own below (k end) mine (next h end (knows.itself h) fits) rest)

    -- ---- silent steps and replies

    called_fits : (h : P) (res : Option Returns) (below : List (FrameEnd → Plan)) (id : MethodId) (args : List ℕ) (monitor : ℕ) (k : FrameEnd → Plan) (call : CallFits know us h id args monitor) → know.is_of h me (Class THREAD)
        → ((h' : P) (end : FrameEnd) → know.extends h h' → EndFits know h' (Some (returns_of know us h call.frame call.fits.stands)) end → PlanFits know us res anything (k end) h')
        → BelowFits know us h res below → LocalFits know us anything h (at us me (begun_first us me (first_frame us id args monitor)) (k ∷ below))
    called_fits h res below id args monitor k call mine next rest =
        subst (λ o. LocalFits know us anything h (at us me (begun_first us me o) (k ∷ below))) (sym call.first)
        (local_at anything h (Some (returns_of know us h call.frame call.fits.stands)) (begun us me call.frame) (k ∷ below) (frame_begins call.frame) mine (begun_fits h call.frame call.fits mine) (res, next, rest))

    pub silent_fits : (b : Preceding) (h : P) (res : Option Returns) (below : List (FrameEnd → Plan)) (plan : Plan) → know.is_of h me (Class THREAD) → next_of plan ≡ Silent → PlanFits know us res b plan h → BelowFits know us h res below
        → LocalFits know us anything h (silent_of us me plan below)
    silent_fits b h res below (silently plan) mine e fits rest = settled_fits anything h res below plan mine fits.1 rest
    silent_fits b h res below (calls id args monitor k) mine e fits rest = called_fits h res below id args monitor k fits.1 mine fits.2 rest
    silent_fits b h res below plan mine e fits rest = cc

    below_more : (h h' : P) (res : Option Returns) (below : List (FrameEnd → Plan)) → know.extends h h' → BelowFits know us h res below → BelowFits know us h' res below
    below_more h h' res [] more rest = rest
    below_more h h' res (k ∷ below) more (own, next, rest) = (own, (λ h'' end more' fits. next h'' end (knows.both h h' h'' more more') fits), below_more h h' own below more rest)

    -- what follows a reply
    pub replied : (b : Preceding) (h h' : P) (res : Option Returns) (below : List (FrameEnd → Plan)) (plan : Plan) → know.is_of h me (Class THREAD) → know.extends h h' → PlanFits know us res b plan h' → BelowFits know us h res below
        → LocalFits know us b h' (settled us me plan below)
    replied b h h' res below plan mine more fits rest = settled_fits b h' res below plan (knows.of_more h h' me (Class THREAD) more mine) fits (below_more h h' res below more rest)

    -- a Sense whose steps keep nothing apart
    module _ (plain : (m : Option Making) (h : P) (op : Op) (next : Option Making → P → Reply → Type 0) → know.steps m h op next → PlainSteps know.extends know.may_want know.may_come m h op next) where
      pub reply_fits : (b : Preceding) (h h' : P) (res : Option Returns) (below : List (FrameEnd → Plan)) (plan : Plan) (op : Op) (reply : Reply) → know.is_of h me (Class THREAD) → next_of plan ≡ Want op
          → know.extends h h' → know.may_come h' op reply → PlanFits know us res b plan h → BelowFits know us h res below → LocalFits know us (after_reply op reply) h' (reply_of us me plan reply below)
      reply_fits b h h' res below (want q k) op reply mine e more come fits rest =
          let same : q ≡ op = same_want q op e in
          let next = plain (making_of b) h q (λ m h' reply. PlanFits know us res (following q reply m) (k reply) h') fits.1 in
          subst (λ x. LocalFits know us (after_reply x reply) h' (settled us me (k reply) below)) same
          (replied (after_reply q reply) h h' res below (k reply) mine more (next.1 h' reply more (subst (λ x. know.may_come h' x reply) (sym same) come)) rest)
      reply_fits b h h' res below (silently plan) op reply mine e more come fits rest = absurd (silent_no op e)
      reply_fits b h h' res below (calls id args monitor k) op reply mine e more come fits rest = absurd (silent_no op e)
      reply_fits b h h' res below (ready ending) op reply mine e more come fits rest = absurd (ended_no op e)
      reply_fits b h h' res below over op reply mine e more come fits rest = absurd (ended_no op e)
      reply_fits b h h' res below stuck op reply mine e more come fits rest = absurd (ended_no op e)

      pub wants_fit : (b : Preceding) (h : P) (res : Option Returns) (plan : Plan) (op : Op) → next_of plan ≡ Want op → PlanFits know us res b plan h → Follows b op × know.may_want h op
      wants_fit b h res (want q k) op e fits =
          let same : q ≡ op = same_want q op e in
          (subst (λ x. Follows b x) same fits.0, subst (λ x. know.may_want h x) same (plain (making_of b) h q (λ m h' reply. PlanFits know us res (following q reply m) (k reply) h') fits.1).0)
      wants_fit b h res (silently plan) op e fits = absurd (silent_no op e)
      wants_fit b h res (calls id args monitor k) op e fits = absurd (silent_no op e)
      wants_fit b h res (ready ending) op e fits = absurd (ended_no op e)
      wants_fit b h res over op e fits = absurd (ended_no op e)
      wants_fit b h res stuck op e fits = absurd (ended_no op e)

    -- a plan without a next operation comes after the thread's end alone
    pub ended_fits : (b : Preceding) (h : P) (res : Option Returns) (plan : Plan) → next_of plan ≡ Ended → IsBegun plan → PlanFits know us res b plan h → (IsTheEnd b → ⊥) → ⊥
    ended_fits b h res (want op k) e started fits on = cc
    ended_fits b h res (silently plan) e started fits on = cc
    ended_fits b h res (calls id args monitor k) e started fits on = cc
    ended_fits b h res over e started fits on = on fits
    ended_fits b h res stuck e started fits on = fits
    ended_fits b h res (ready ending) e started fits on = started

    pub child_fits : (h : P) → know.is_of h me (Class THREAD) → LocalFits know us anything h (Rattle.java_rows.specs.Thread.child_of us me)
    child_fits h mine = local_at anything h None (asks_class me (λ c n. invokes_selected us me (me ∷ []) launch (select us c thread_run))) [] tt mine (rows.children me h mine) refl
