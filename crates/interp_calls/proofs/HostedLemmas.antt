-- A thread that goes on while a host answers.
use Rattle.std.proofs.Common.{◌≡◌, ◌≢◌, ◌≤◌, ℕ, zero, suc, false, Option, None, Some, List, [], ◌∷◌, ◌++◌, map, refl, sym, ap, subst, ◌∙◌, inl, inr, slice_get, arith}
use Rattle.code_decode.specs.declared.code.ClassUnit.{ClassUnit}
use Rattle.frame_snapshot.specs.FrameStack.{Saved, FrameStack, frame_count}
use Rattle.frame_snapshot.specs.declared.stage.FrameStage.TheVariants.{Begun}
use Rattle.frame_snapshot.specs.declared.todo.Then.{Then}
use Rattle.frame_snapshot.specs.declared.todo.Todo.{Todo}
use Rattle.frame_snapshot.specs.declared.todo.Todo.TheVariants as todos
use Rattle.instructions.specs.declared.what.Instr.{Instr}
use Rattle.instructions.specs.declared.what.Target.{Target}
use Rattle.instructions.specs.declared.what.What.{What}
use Rattle.op_core.specs.declared.Op.{Op}
use Rattle.op_core.specs.declared.Reply.{Reply}
use Rattle.op_core.specs.declared.Next.TheVariants.{Want}
use Rattle.op_core.specs.Replies.{Fits}
use Rattle.op_core.specs.ThreadCode.{quiet_steps, leaves_any, LeavesNoSave}
use Rattle.op_core.specs.Hosted.{quiet, asked, Lead, MayBeAsked, IsLedTo}
use Rattle.op_core.proofs.HostedLemmas.{joined, one_answer, one_stretch}
use Rattle.interp_local.specs.declared.step.LocalStep.TheVariants.{Other}
use Rattle.interp_local.specs.Runs.{IsLocalRun}
use Rattle.interp_local.specs.Frames.{frame_now}
use Rattle.interp_local.specs.Steps.{kind_of, local_now, row_at}
use Rattle.java_rows.specs.LocalRows.{local_row, no_row}
use Rattle.java_rows.specs.Program.{steps_of}
use Rattle.java_rows.specs.Rows.{row_with_operations}
use Rattle.java_rows.specs.Thread.{Local, at, java_code, settled}
use Rattle.interp_plans.specs.declared.reached.Reached.{Reached}
use Rattle.interp_plans.specs.Replies.{then_of}
use Rattle.interp_plans.specs.Todos.{plan_at, plan_of, plan_reached}
use Rattle.interp_plans.specs.Uses.{frame_of}
use Rattle.interp_plans.proofs.BeginLemmas.{begun_other}
use Rattle.interp_calls.specs.declared.hosted.Halt.{Halt}
use Rattle.interp_calls.specs.declared.hosted.Halt.TheVariants as halts
use Rattle.interp_calls.specs.Hosted.{halted_local, GoneTo, HostedTo, StaysBegun}
use Rattle.interp_calls.specs.Local.{local_of, local_over, saved_locals, waiting_below}
use Rattle.interp_calls.proofs.RunLemmas.{run_quiet, run_leaves_none, run_stays, some_same}
use Rattle.interp_calls.proofs.SettleLemmas.{todo_settles}

-- ---- ways

module _ {H : Type 0} (saves : List Local) (passes : H → ℕ → H → Type 0) (answers : H → Op → Reply → H → Type 0) where
  pub stays : (l : Local) (h : H) → HostedTo saves passes answers l h l h
  stays l h = ([], (refl, refl))

  pub leads_on : (l m o : Local) (h k g : H) → HostedTo saves passes answers l h m k → HostedTo saves passes answers m k o g → HostedTo saves passes answers l h o g
  leads_on l m o h k g first second = (
    first.0 ++ second.0,
    joined java_code saves passes answers l h first.0 m k second.0 o g first.1 second.1,
  )

  pub led_on : (declines : H → Op → H → Type 0) (l m o : Local) (h k g : H) → HostedTo saves passes answers l h m k
      → IsLedTo java_code saves passes answers declines m k o g → IsLedTo java_code saves passes answers declines l h o g
  led_on declines l m o h k g first second = (
    first.0 ++ second.0,
    second.1,
    joined java_code saves passes answers l h first.0 m k second.0 o second.1 first.1 second.2,
    second.3,
  )

  pub led_there : (declines : H → Op → H → Type 0) (l m : Local) (h k : H) → HostedTo saves passes answers l h m k
      → IsLedTo java_code saves passes answers declines l h m k
  led_there declines l m h k way = (way.0, k, way.1, inl refl)

  pub may_on : (may : H → Op → Type 0) (l m : Local) (h k : H) → MayBeAsked java_code saves passes answers may l h
      → HostedTo saves passes answers l h m k → MayBeAsked java_code saves passes answers may m k
  may_on may l m h k all way moves o g led op wants =
      all (way.0 ++ moves) o g (joined java_code saves passes answers l h way.0 m k moves o g way.1 led) op wants

  pub stretch_leads : (n : ℕ) (l m : Local) (h k : H) → quiet_steps java_code n l ≡ Some m → LeavesNoSave java_code saves n l → passes h n k
      → HostedTo saves passes answers l h m k
  stretch_leads n l m h k steps leaves passed = (quiet n ∷ [], one_stretch java_code saves passes answers l h n m k steps leaves passed)

  pub answer_leads : (l m : Local) (h k : H) (op : Op) (reply : Reply) → java_code.next l ≡ Want op → Fits op reply → answers h op reply k → m ≡ java_code.reply l reply
      → HostedTo saves passes answers l h m k
  answer_leads l m h k op reply wants fits answered is = (
    asked op reply ∷ [],
    subst (λ x. Lead java_code saves passes answers l h (asked op reply ∷ []) x k) (sym is)
        (one_answer java_code saves passes answers l h op reply k wants fits answered),
  )

  -- with other saves that are the same
  pub leads_over : (others : List Local) (l m : Local) (h k : H) → others ≡ saves → HostedTo others passes answers l h m k → HostedTo saves passes answers l h m k
  leads_over others l m h k same = subst (λ x. HostedTo x passes answers l h m k) same

  pub led_over : (declines : H → Op → H → Type 0) (others : List Local) (l m : Local) (h k : H) → others ≡ saves
      → IsLedTo java_code others passes answers declines l h m k → IsLedTo java_code saves passes answers declines l h m k
  led_over declines others l m h k same = subst (λ x. IsLedTo java_code x passes answers declines l h m k) same

  pub may_over : (may : H → Op → Type 0) (others : List Local) (l : Local) (h : H) → saves ≡ others
      → MayBeAsked java_code saves passes answers may l h → MayBeAsked java_code others passes answers may l h
  may_over may others l h same = subst (λ x. MayBeAsked java_code x passes answers may l h) same

-- one silent step ends no frame that was on top at a save, where the next one doesn't
pub one_leaves : (saves : List Local) (l : Local) → leaves_any java_code saves l ≡ false → LeavesNoSave java_code saves 1 l
one_leaves saves l none zero m less there = subst (λ x. leaves_any java_code saves x ≡ false) (some_same there) none
one_leaves saves l none (suc k) m less there = absurd (omega (arith, less))

-- ---- one operation

-- what a reply has led to
pub leads_is : (us : List ClassUnit) (me : ℕ) (s : FrameStack) (then : Then) (reply : Reply) (reached : Reached)
    → then_of us me (frame_of s.here) then reply ≡ plan_reached us me (frame_of s.here) reached
    → halted_local us me s (halts.Replied then reply) ≡ halted_local us me s (halts.Leads reached)
leads_is us me s then reply reached is = ap (λ p. settled us me p (waiting_below us me s.below)) is

module _ (us : List ClassUnit) (me : ℕ) (s : FrameStack) (todo : Todo) (op : Op) (then : Then) (is : todo ≡ todos.Wants op then) where
  pub wants_op : java_code.next (halted_local us me s (halts.Goes todo)) ≡ Want op
  wants_op = ap (λ t. java_code.next (halted_local us me s (halts.Goes t))) is

  pub replied_is : (reply : Reply) → java_code.reply (halted_local us me s (halts.Goes todo)) reply ≡ halted_local us me s (halts.Replied then reply)
  replied_is reply = ap (λ t. java_code.reply (halted_local us me s (halts.Goes t)) reply) is

  module _ {H : Type 0} (saves : List Local) (passes : H → ℕ → H → Type 0) (answers : H → Op → Reply → H → Type 0) where
    pub may_ask : (may : H → Op → Type 0) (h : H) → MayBeAsked java_code saves passes answers may (halted_local us me s (halts.Goes todo)) h → may h op
    may_ask may h all = all [] (halted_local us me s (halts.Goes todo)) h (refl, refl) op wants_op

    pub declined : (declines : H → Op → H → Type 0) (h k : H) → declines h op k
        → IsLedTo java_code saves passes answers declines (halted_local us me s (halts.Goes todo)) h (halted_local us me s (halts.Goes todo)) k
    declined declines h k refuses = ([], h, (refl, refl), inr (op, wants_op, refuses))

    pub replied : (reply : Reply) (h k : H) → Fits op reply → answers h op reply k
        → HostedTo saves passes answers (halted_local us me s (halts.Goes todo)) h (halted_local us me s (halts.Replied then reply)) k
    replied reply h k fits answered = (
      asked op reply ∷ [],
      subst (λ x. Lead java_code saves passes answers (halted_local us me s (halts.Goes todo)) h (asked op reply ∷ []) x k) (replied_is reply)
          (one_answer java_code saves passes answers (halted_local us me s (halts.Goes todo)) h op reply k wants_op fits answered),
    )

    pub reaches : (reply : Reply) (reached : Reached) (h k : H) → Fits op reply → answers h op reply k
        → then_of us me (frame_of s.here) then reply ≡ plan_reached us me (frame_of s.here) reached
        → HostedTo saves passes answers (halted_local us me s (halts.Goes todo)) h (halted_local us me s (halts.Leads reached)) k
    reaches reply reached h k fits answered row =
        subst (λ x. HostedTo saves passes answers (halted_local us me s (halts.Goes todo)) h x k) (leads_is us me s then reply reached row) (replied reply h k fits answered)

-- ---- instructions

-- at the beginning of an instruction
pub begins_is : (us : List ClassUnit) (me : ℕ) (s : FrameStack) → s.here.stage ≡ Begun → local_of us me s ≡ halted_local us me s halts.Begins
begins_is us me s is = ap (λ st. at us me (plan_at us me (frame_of s.here) st) (waiting_below us me s.below)) is

-- what is to be done there is what the instruction's row says
pub goes_is : (us : List ClassUnit) (me : ℕ) (s : FrameStack) (i : Instr Target) (todo : Todo) → s.here.stage ≡ Begun
    → slice_get (steps_of us s.here.method) s.here.step ≡ Some i → Other ≡ kind_of (local_now us (steps_of us s.here.method) s)
    → row_with_operations us me (frame_of s.here) i.what ≡ plan_of us me (frame_of s.here) todo
    → local_of us me s ≡ halted_local us me s (halts.Goes todo)
goes_is us me s i todo stage is kind row = begins_is us me s stage
    ∙ ap (λ p. at us me p (waiting_below us me s.below)) (begun_other us me s i is kind ∙ row)
    ∙ sym (todo_settles us me (frame_of s.here) todo (waiting_below us me s.below))

-- that of an instruction which needs operations
pub access_is : (us : List ClassUnit) (me : ℕ) (s : FrameStack) (i : Instr Target) (w : What Target) (todo : Todo) → s.here.stage ≡ Begun
    → slice_get (steps_of us s.here.method) s.here.step ≡ Some i → i.what ≡ w → local_row us (frame_of s.here) w s.here.stack ≡ no_row
    → row_with_operations us me (frame_of s.here) w ≡ plan_of us me (frame_of s.here) todo → local_of us me s ≡ halted_local us me s (halts.Goes todo)
access_is us me s i w todo stage is what none row = goes_is us me s i todo stage is
    (sym (ap (λ o. kind_of (row_at us (frame_now s) o)) is ∙ ap (λ x. kind_of (local_row us (frame_of s.here) x s.here.stack)) what ∙ ap kind_of none))
    (ap (row_with_operations us me (frame_of s.here)) what ∙ row)

-- ---- frames that stay

pub stays_on : (a b c : FrameStack) → StaysBegun a b → StaysBegun b c → StaysBegun a c
stays_on a b c first second = record {
  stage = second.stage;
  method = second.method ∙ first.method;
  below = second.below ∙ first.below;
  saves = second.saves ∙ first.saves;
}

pub saves_same : (us : List ClassUnit) (me : ℕ) (a b : FrameStack) → b.saves ≡ a.saves → saved_locals us me b ≡ saved_locals us me a
saves_same us me a b = ap (λ (ss : List Saved). map (λ (v : Saved). local_over us me v.here v.below) ss)

-- many local steps leave the frame at the beginning of an instruction
pub run_begun : (us : List ClassUnit) (steps : List (Instr Target)) (n : ℕ) (old new : FrameStack) → old.here.stage ≡ Begun → IsLocalRun us steps n old new → StaysBegun old new
run_begun us steps n old new is run =
    let local = run_stays us steps n old new is run in
    record { stage = local.stage; method = local.method; below = local.below; saves = local.saves }

pub run_leads : {H : Type 0} (us : List ClassUnit) (me : ℕ) (passes : H → ℕ → H → Type 0) (answers : H → Op → Reply → H → Type 0)
    (steps : List (Instr Target)) (n : ℕ) (old new : FrameStack) (h k : H) → old.here.stage ≡ Begun → frame_count old ≤ 1024 → steps ≡ steps_of us old.here.method
    → IsLocalRun us steps n old new → passes h n k → HostedTo (saved_locals us me old) passes answers (local_of us me old) h (local_of us me new) k
run_leads us me passes answers steps n old new h k is few those run passed =
    let there : IsLocalRun us (steps_of us old.here.method) n old new = subst (λ xs. IsLocalRun us xs n old new) those run in
    stretch_leads (saved_locals us me old) passes answers n (local_of us me old) (local_of us me new) h k
    (run_quiet us me n old new is few there) (run_leaves_none us me n old new is few there) passed

-- ---- an instruction that is gone through

module _ {H : Type 0} (us : List ClassUnit) (me : ℕ) (saves : List Local) (passes : H → ℕ → H → Type 0) (answers : H → Op → Reply → H → Type 0)
    (declines : H → Op → H → Type 0) where
  pub gone_on : (l m : Local) (h k g : H) (old mid new : FrameStack) (result : Option Halt) → mid ≡ old → HostedTo saves passes answers l h m k
      → GoneTo us me saves passes answers declines m k mid result new g → GoneTo us me saves passes answers declines l h old result new g
  gone_on l m h k g old mid new None same way gone =
      (leads_on saves passes answers l m (local_of us me new) h k g way gone.0, subst (λ x. StaysBegun x new) same gone.1)
  gone_on l m h k g old mid new (Some halts.Begins) same way gone =
      (leads_on saves passes answers l m (halted_local us me new halts.Begins) h k g way gone.0, gone.1 ∙ same)
  gone_on l m h k g old mid new (Some (halts.Goes todo)) same way gone =
      (led_on saves passes answers declines l m (halted_local us me new (halts.Goes todo)) h k g way gone.0, gone.1 ∙ same)
  gone_on l m h k g old mid new (Some (halts.Replied then reply)) same way gone =
      (leads_on saves passes answers l m (halted_local us me new (halts.Replied then reply)) h k g way gone.0, gone.1 ∙ same)
  gone_on l m h k g old mid new (Some (halts.Leads reached)) same way gone =
      (leads_on saves passes answers l m (halted_local us me new (halts.Leads reached)) h k g way gone.0, gone.1 ∙ same)

  pub gone_from : (l m : Local) (h k : H) (old new : FrameStack) (result : Option Halt) → l ≡ m
      → GoneTo us me saves passes answers declines m h old result new k → GoneTo us me saves passes answers declines l h old result new k
  gone_from l m h k old new result same = subst (λ x. GoneTo us me saves passes answers declines x h old result new k) (sym same)

  pub gone_led : (l : Local) (h k : H) (old new : FrameStack) (halt : Halt) → GoneTo us me saves passes answers declines l h old (Some halt) new k
      → IsLedTo java_code saves passes answers declines l h (halted_local us me new halt) k
  gone_led l h k old new halts.Begins gone = led_there saves passes answers declines l (halted_local us me new halts.Begins) h k gone.0
  gone_led l h k old new (halts.Goes todo) gone = gone.0
  gone_led l h k old new (halts.Replied then reply) gone = led_there saves passes answers declines l (halted_local us me new (halts.Replied then reply)) h k gone.0
  gone_led l h k old new (halts.Leads reached) gone = led_there saves passes answers declines l (halted_local us me new (halts.Leads reached)) h k gone.0

  pub gone_kept : (l : Local) (h k : H) (old new : FrameStack) (halt : Halt) → GoneTo us me saves passes answers declines l h old (Some halt) new k → new ≡ old
  gone_kept l h k old new halts.Begins gone = gone.1
  gone_kept l h k old new (halts.Goes todo) gone = gone.1
  gone_kept l h k old new (halts.Replied then reply) gone = gone.1
  gone_kept l h k old new (halts.Leads reached) gone = gone.1

  pub gone_leads : (l : Local) (h k : H) (old new : FrameStack) (halt : Halt) → ((todo : Todo) → halt ≢ halts.Goes todo)
      → GoneTo us me saves passes answers declines l h old (Some halt) new k → HostedTo saves passes answers l h (halted_local us me new halt) k
  gone_leads l h k old new halts.Begins asks gone = gone.0
  gone_leads l h k old new (halts.Goes todo) asks gone = absurd (asks todo refl)
  gone_leads l h k old new (halts.Replied then reply) asks gone = gone.0
  gone_leads l h k old new (halts.Leads reached) asks gone = gone.0

-- with other saves that are the same
pub gone_over : {H : Type 0} (us : List ClassUnit) (me : ℕ) (passes : H → ℕ → H → Type 0) (answers : H → Op → Reply → H → Type 0)
    (declines : H → Op → H → Type 0) (saves others : List Local) (l : Local) (h k : H) (old new : FrameStack) (result : Option Halt) → others ≡ saves
    → GoneTo us me others passes answers declines l h old result new k → GoneTo us me saves passes answers declines l h old result new k
gone_over us me passes answers declines saves others l h k old new result same =
    subst (λ x. GoneTo us me x passes answers declines l h old result new k) same

-- ---- many instructions

-- after steps that need no operation
pub stretched : {H : Type 0} (us : List ClassUnit) (me : ℕ) (passes : H → ℕ → H → Type 0) (answers : H → Op → Reply → H → Type 0)
    (steps : List (Instr Target)) (n : ℕ) (first old new : FrameStack) (g h k : H) → steps ≡ steps_of us first.here.method → StaysBegun first old → frame_count old ≤ 1024
    → IsLocalRun us steps n old new → passes h n k → HostedTo (saved_locals us me first) passes answers (local_of us me first) g (local_of us me old) h
    → HostedTo (saved_locals us me first) passes answers (local_of us me first) g (local_of us me new) k × StaysBegun first new
stretched us me passes answers steps n first old new g h k those stays few run passed way =
    let begun = run_begun us steps n old new stays.stage run in
    let here : steps ≡ steps_of us old.here.method = those ∙ ap (steps_of us) (sym stays.method) in
    let on = leads_over (saved_locals us me first) passes answers (saved_locals us me old) (local_of us me old) (local_of us me new) h k
    (saves_same us me first old stays.saves) (run_leads us me passes answers steps n old new h k stays.stage few here run passed) in
    (leads_on (saved_locals us me first) passes answers (local_of us me first) (local_of us me old) (local_of us me new) g h k way on, stays_on first old new stays begun)

-- and an instruction
pub accessed : {H : Type 0} (us : List ClassUnit) (me : ℕ) (passes : H → ℕ → H → Type 0) (answers : H → Op → Reply → H → Type 0) (declines : H → Op → H → Type 0)
    (first new last : FrameStack) (result : Option Halt) (g h k : H) → StaysBegun first new
    → HostedTo (saved_locals us me first) passes answers (local_of us me first) g (local_of us me new) h
    → GoneTo us me (saved_locals us me new) passes answers declines (local_of us me new) h new result last k
    → GoneTo us me (saved_locals us me first) passes answers declines (local_of us me first) g new result last k
accessed us me passes answers declines first new last result g h k stays way gone =
    gone_on us me (saved_locals us me first) passes answers declines (local_of us me first) (local_of us me new) g h k new new last result refl way
    (gone_over us me passes answers declines (saved_locals us me first) (saved_locals us me new) (local_of us me new) h k new last result (saves_same us me first new stays.saves) gone)
