-- Methods that read or make texts.
use Rattle.std.specs.Prelude.{IsTrue}
use Rattle.std.proofs.Common.{◌≡◌, ℕ, Bool, true, false, Option, None, Some, List, [], refl, ap, sym, subst, ◌∙◌}
use Rattle.code_decode.specs.declared.code.ClassUnit.{ClassUnit}
use Rattle.frame_snapshot.specs.FrameStack.{FrameStack}
use Rattle.frame_snapshot.specs.declared.stage.CallSite.{CallSite}
use Rattle.frame_snapshot.specs.declared.stage.Caller.{Caller}
use Rattle.frame_snapshot.specs.declared.stage.Caller.TheVariants.{Instruction, Launch}
use Rattle.frame_snapshot.specs.declared.stage.FrameStage.{FrameStage}
use Rattle.frame_snapshot.specs.declared.stage.FrameStage.TheVariants.{Begun, Inside}
use Rattle.frame_snapshot.specs.declared.text.TextJob.{TextJob}
use Rattle.frame_snapshot.specs.declared.text.TextJob.TheVariants as jobs
use Rattle.frame_snapshot.specs.declared.todo.Then.{Then}
use Rattle.frame_snapshot.specs.declared.todo.Todo.{Todo}
use Rattle.frame_snapshot.specs.declared.todo.Todo.TheVariants as todos
use Rattle.op_core.specs.declared.Next.TheVariants.{Silent, Want}
use Rattle.op_core.specs.declared.Op.{Op}
use Rattle.op_core.specs.declared.Reply.{Reply}
use Rattle.op_core.specs.Replies.{FitsNext, IsEntry}
use Rattle.op_core.specs.ThreadCode.{leaves_any}
use Rattle.java_rows.specs.Plan.{Frame, FrameEnd, Plan, want, silently, calls, ready, over, stuck, Use}
use Rattle.java_rows.specs.Thread.{Local, at, is_end, java_code, next_of, reply_of, settled, silent_of}
use Rattle.text_stages.specs.Laws.{at_reply}
use Rattle.text_stages.specs.Stages as texts
use Rattle.text_stages.specs.Stages.{stage_plan, start_of, reached_plan, text_next, text_silent}
use Rattle.text_stages.proofs.StageLaws.{replies_lead, silent_steps_lead}
use Rattle.text_stages.proofs.StandLaws.{texts_end_no_frame}
use Rattle.interp_plans.specs.Jobs.{job_of}
use Rattle.interp_plans.specs.Todos.{plan_at, plan_of}
use Rattle.interp_plans.specs.Uses.{frame_of, use_at, use_by}
use Rattle.interp_texts.specs.declared.run.TextRun.{TextRun}
use Rattle.interp_texts.specs.Meaning.{stage_of}
use Rattle.interp_texts.specs.Told.{first_text, second_text}
use Rattle.interp_calls.specs.Local.{local_of, saved_locals, stands_in, state_over, text_plan, waiting_below}
use Rattle.interp_calls.proofs.SilentLemmas.{saves_stay}

-- ---- a method that has asked for nothing so far

-- it has no text that matters
starts_alike : (us : List ClassUnit) (u : Use) (job : texts.TextJob) (a b m : List ℕ)
    → stage_plan us u job (start_of job) a b m ≡ stage_plan us u job (start_of job) [] [] []
starts_alike us u (texts.lengthens s) x y m = refl
starts_alike us u (texts.picks s i) x y m = refl
starts_alike us u (texts.matches s other) x y m = refl
starts_alike us u (texts.joins_both s other) x y m = refl
starts_alike us u (texts.copies b s) x y m = refl
starts_alike us u (texts.extends b piece) x y m = refl
starts_alike us u (texts.measures b) x y m = refl
starts_alike us u (texts.tells b) x y m = refl

pub begun_is : (us : List ClassUnit) (me : ℕ) (f : Frame) (site : CallSite) (job : TextJob) (run : TextRun)
    → run.job ≡ job → stage_of run.stage ≡ start_of (job_of job) → text_plan us f site run ≡ plan_of us me f (todos.Texts site job)
begun_is us me f site job run has starts =
    ap (λ j. stage_plan us (use_at f site) (job_of j) (stage_of run.stage) (first_text us run) (second_text us run) run.made.units) has
    ∙ ap (λ st. stage_plan us (use_at f site) (job_of job) st (first_text us run) (second_text us run) run.made.units) starts
    ∙ starts_alike us (use_at f site) (job_of job) (first_text us run) (second_text us run) run.made.units

pub start_stays : (us : List ClassUnit) (me : ℕ) (f : Frame) (site : CallSite) (job : TextJob) → is_end (plan_of us me f (todos.Texts site job)) ≡ false
start_stays us me f site (jobs.Lengthens s) = refl
start_stays us me f site (jobs.Picks s i) = refl
start_stays us me f site (jobs.Matches s other) = refl
start_stays us me f site (jobs.Joins s other) = refl
start_stays us me f site (jobs.Copies b s) = refl
start_stays us me f site (jobs.Extends b piece) = refl
start_stays us me f site (jobs.Measures b) = refl
start_stays us me f site (jobs.Tells b) = refl

pub start_waits : (us : List ClassUnit) (me : ℕ) (f : Frame) (site : CallSite) (job : TextJob) (below : List (FrameEnd → Plan))
    → silent_of us me (plan_of us me f (todos.Texts site job)) below ≡ at us me (plan_of us me f (todos.Texts site job)) below
start_waits us me f site (jobs.Lengthens s) below = refl
start_waits us me f site (jobs.Picks s i) below = refl
start_waits us me f site (jobs.Matches s other) below = refl
start_waits us me f site (jobs.Joins s other) below = refl
start_waits us me f site (jobs.Copies b s) below = refl
start_waits us me f site (jobs.Extends b piece) below = refl
start_waits us me f site (jobs.Measures b) below = refl
start_waits us me f site (jobs.Tells b) below = refl

-- ---- a reply

replied : (us : List ClassUnit) (me : ℕ) (plan : Plan) (reply : Reply) (below : List (FrameEnd → Plan)) → FitsNext (next_of plan) reply
    → reply_of us me plan reply below ≡ settled us me (at_reply plan reply) below
replied us me (want op k) reply below fits = refl
replied us me (silently plan) reply below fits = absurd fits
replied us me (calls id args monitor k) reply below fits = absurd fits
replied us me (ready ending) reply below fits = absurd fits
replied us me over reply below fits = absurd fits
replied us me stuck reply below fits = absurd fits

pub reply_leads : (us : List ClassUnit) (me : ℕ) (f : Frame) (site : CallSite) (run : TextRun) (reply : Reply) (below : List (FrameEnd → Plan))
    → FitsNext (next_of (text_plan us f site run)) reply
    → reply_of us me (text_plan us f site run) reply below
    ≡ settled us me (reached_plan us (use_at f site) (job_of run.job) (text_next us (job_of run.job) (stage_of run.stage) (first_text us run) (second_text us run) run.made.units reply)) below
reply_leads us me f site run reply below fits = replied us me (text_plan us f site run) reply below fits
    ∙ ap (λ p. settled us me p below) (replies_lead us (use_at f site) (job_of run.job) (stage_of run.stage) (first_text us run) (second_text us run) run.made.units reply)

-- ---- a silent step

stage_silent : (us : List ClassUnit) (me : ℕ) (u : Use) (job : texts.TextJob) (st : texts.TextStage) (a b m : List ℕ) (below : List (FrameEnd → Plan))
    → next_of (stage_plan us u job st a b m) ≡ Silent
    → silent_of us me (stage_plan us u job st a b m) below ≡ settled us me (reached_plan us u job (text_silent us job st a b m)) below
stage_silent us me u job (texts.takes_room p array n) x y m below is = ap (λ plan. settled us me plan below) (silent_steps_lead us u job (texts.takes_room p array n) x y m)
stage_silent us me u job (texts.makes_room tail) x y m below is = ap (λ plan. settled us me plan below) (silent_steps_lead us u job (texts.makes_room tail) x y m)
stage_silent us me u job (texts.asks_word p s) x y m below is = search
stage_silent us me u job (texts.asks_number p s) x y m below is = search
stage_silent us me u job (texts.asks_size p array) x y m below is = search
stage_silent us me u job (texts.asks_unit p array i n) x y m below is = search
stage_silent us me u job (texts.asks_array class) x y m below is = search
stage_silent us me u job (texts.asks_write array i n) x y m below is = search
stage_silent us me u job (texts.asks_string array) x y m below is = search
stage_silent us me u job (texts.asks_bind array s) x y m below is = search
stage_silent us me u (texts.lengthens s) texts.asks_other x y m below is = search
stage_silent us me u (texts.picks s i) texts.asks_other x y m below is = search
stage_silent us me u (texts.matches s other) texts.asks_other x y m below is = search
stage_silent us me u (texts.joins_both s other) texts.asks_other x y m below is = search
stage_silent us me u (texts.copies b s) texts.asks_other x y m below is = search
stage_silent us me u (texts.extends b piece) texts.asks_other x y m below is = search
stage_silent us me u (texts.measures b) texts.asks_other x y m below is = search
stage_silent us me u (texts.tells b) texts.asks_other x y m below is = search
stage_silent us me u (texts.lengthens s) texts.asks_builder x y m below is = search
stage_silent us me u (texts.picks s i) texts.asks_builder x y m below is = search
stage_silent us me u (texts.matches s other) texts.asks_builder x y m below is = search
stage_silent us me u (texts.joins_both s other) texts.asks_builder x y m below is = search
stage_silent us me u (texts.copies b s) texts.asks_builder x y m below is = search
stage_silent us me u (texts.extends b piece) texts.asks_builder x y m below is = search
stage_silent us me u (texts.measures b) texts.asks_builder x y m below is = search
stage_silent us me u (texts.tells b) texts.asks_builder x y m below is = search
stage_silent us me u (texts.lengthens s) (texts.asks_keep r) x y m below is = search
stage_silent us me u (texts.picks s i) (texts.asks_keep r) x y m below is = search
stage_silent us me u (texts.matches s other) (texts.asks_keep r) x y m below is = search
stage_silent us me u (texts.joins_both s other) (texts.asks_keep r) x y m below is = search
stage_silent us me u (texts.copies b s) (texts.asks_keep r) x y m below is = search
stage_silent us me u (texts.extends b piece) (texts.asks_keep r) x y m below is = search
stage_silent us me u (texts.measures b) (texts.asks_keep r) x y m below is = search
stage_silent us me u (texts.tells b) (texts.asks_keep r) x y m below is = search

pub silent_leads : (us : List ClassUnit) (me : ℕ) (f : Frame) (site : CallSite) (run : TextRun) (below : List (FrameEnd → Plan))
    → next_of (text_plan us f site run) ≡ Silent
    → silent_of us me (text_plan us f site run) below
    ≡ settled us me (reached_plan us (use_at f site) (job_of run.job) (text_silent us (job_of run.job) (stage_of run.stage) (first_text us run) (second_text us run) run.made.units)) below
silent_leads us me f site run below is = stage_silent us me (use_at f site) (job_of run.job) (stage_of run.stage) (first_text us run) (second_text us run) run.made.units below is

-- ---- no frame ends, and no monitor is entered

ends_not : (us : List ClassUnit) (f : Frame) (caller : Caller) (rest : List ℕ) (job : texts.TextJob) (st : texts.TextStage) (a b m : List ℕ)
    → is_end (stage_plan us (use_by f caller rest) job st a b m) ≡ false
ends_not us f Instruction rest job st x y m = texts_end_no_frame.0 f rest us job st x y m
ends_not us f Launch rest job st x y m = texts_end_no_frame.1 us job st x y m

pub text_stays : (us : List ClassUnit) (me : ℕ) (s : FrameStack) (run : TextRun) (site : CallSite)
    → leaves_any java_code (saved_locals us me s) (state_over us me s run (Some site)) ≡ false
text_stays us me s run site = saves_stay us me s.below (text_plan us (frame_of s.here) site run) s.saves
    (ends_not us (frame_of s.here) site.caller _ (job_of run.job) (stage_of run.stage) (first_text us run) (second_text us run) run.made.units)

enters_not : (us : List ClassUnit) (u : Use) (job : texts.TextJob) (st : texts.TextStage) (a b m : List ℕ) → IsEntry (next_of (stage_plan us u job st a b m)) → ⊥
enters_not us u job (texts.asks_word p s) x y m is = is
enters_not us u job (texts.asks_number p s) x y m is = is
enters_not us u job (texts.asks_size p array) x y m is = is
enters_not us u job (texts.asks_unit p array i n) x y m is = is
enters_not us u job (texts.asks_array class) x y m is = is
enters_not us u job (texts.asks_write array i n) x y m is = is
enters_not us u job (texts.asks_string array) x y m is = is
enters_not us u job (texts.asks_bind array s) x y m is = is
enters_not us u job (texts.takes_room p array n) x y m is = is
enters_not us u job (texts.makes_room tail) x y m is = is
enters_not us u (texts.lengthens s) texts.asks_other x y m is = is
enters_not us u (texts.picks s i) texts.asks_other x y m is = is
enters_not us u (texts.matches s other) texts.asks_other x y m is = is
enters_not us u (texts.joins_both s other) texts.asks_other x y m is = is
enters_not us u (texts.copies b s) texts.asks_other x y m is = is
enters_not us u (texts.extends b piece) texts.asks_other x y m is = is
enters_not us u (texts.measures b) texts.asks_other x y m is = is
enters_not us u (texts.tells b) texts.asks_other x y m is = is
enters_not us u (texts.lengthens s) texts.asks_builder x y m is = is
enters_not us u (texts.picks s i) texts.asks_builder x y m is = is
enters_not us u (texts.matches s other) texts.asks_builder x y m is = is
enters_not us u (texts.joins_both s other) texts.asks_builder x y m is = is
enters_not us u (texts.copies b s) texts.asks_builder x y m is = is
enters_not us u (texts.extends b piece) texts.asks_builder x y m is = is
enters_not us u (texts.measures b) texts.asks_builder x y m is = is
enters_not us u (texts.tells b) texts.asks_builder x y m is = is
enters_not us u (texts.lengthens s) (texts.asks_keep r) x y m is = is
enters_not us u (texts.picks s i) (texts.asks_keep r) x y m is = is
enters_not us u (texts.matches s other) (texts.asks_keep r) x y m is = is
enters_not us u (texts.joins_both s other) (texts.asks_keep r) x y m is = is
enters_not us u (texts.copies b s) (texts.asks_keep r) x y m is = is
enters_not us u (texts.extends b piece) (texts.asks_keep r) x y m is = is
enters_not us u (texts.measures b) (texts.asks_keep r) x y m is = is
enters_not us u (texts.tells b) (texts.asks_keep r) x y m is = is

pub enters_outside : (us : List ClassUnit) (me : ℕ) (s : FrameStack) (run : TextRun) (text : Option CallSite) → IsEntry (java_code.next (state_over us me s run text)) → text ≡ None
enters_outside us me s run None is = refl
enters_outside us me s run (Some site) is =
    absurd (enters_not us (use_at (frame_of s.here) site) (job_of run.job) (stage_of run.stage) (first_text us run) (second_text us run) run.made.units is)

-- ---- outside of such methods

abbrev IsFalseNow : Bool → Type 0
IsFalseNow false = Unit {0}
IsFalseNow true = ⊥

clash : {A : Type 0} → false ≡ true → A
clash is = absurd (subst IsFalseNow is tt)

pub inside_none : (text : Option CallSite) (stage : FrameStage) (todo : Todo) → IsTrue (stands_in text stage) → stage ≡ Inside todo → text ≡ None
inside_none None stage todo stands is = refl
inside_none (Some site) stage todo stands is = clash (subst (λ st. IsTrue (stands_in (Some site) st)) is stands)

pub begun_none : (text : Option CallSite) (stage : FrameStage) → IsTrue (stands_in text stage) → stage ≡ Begun → text ≡ None
begun_none None stage stands is = refl
begun_none (Some site) stage stands is = clash (subst (λ st. IsTrue (stands_in (Some site) st)) is stands)

pub outside_is : (us : List ClassUnit) (me : ℕ) (s : FrameStack) (run : TextRun) (text : Option CallSite) → text ≡ None → state_over us me s run text ≡ local_of us me s
outside_is us me s run text is = ap (λ t. state_over us me s run t) is

-- what a frame keeps is what the thread wants
pub wants_next : (us : List ClassUnit) (me : ℕ) (s : FrameStack) (run : TextRun) (text : Option CallSite) (op : Op) (then : Then)
    → IsTrue (stands_in text s.here.stage) → s.here.stage ≡ Inside (todos.Wants op then) → Want op ≡ java_code.next (state_over us me s run text)
wants_next us me s run text op then stands is =
    sym (ap java_code.next (outside_is us me s run text (inside_none text s.here.stage (todos.Wants op then) stands is)) ∙ ap (λ st. next_of (plan_at us me (frame_of s.here) st)) is)

-- a thread that was copied wants the same
pub copies_same : (us : List ClassUnit) (me : ℕ) (s : FrameStack) (run copy : TextRun) (site : CallSite)
    → copy.job ≡ run.job → copy.stage ≡ run.stage → first_text us copy ≡ first_text us run → second_text us copy ≡ second_text us run → copy.made.units ≡ run.made.units
    → state_over us me s copy (Some site) ≡ state_over us me s run (Some site)
copies_same us me s run copy site job stage first second made =
    let u = use_at (frame_of s.here) site in
    let over : Plan → Local = λ plan. at us me plan (waiting_below us me s.below) in
    ap (λ j. over (stage_plan us u (job_of j) (stage_of copy.stage) (first_text us copy) (second_text us copy) copy.made.units)) job
    ∙ ap (λ st. over (stage_plan us u (job_of run.job) (stage_of st) (first_text us copy) (second_text us copy) copy.made.units)) stage
    ∙ ap (λ a. over (stage_plan us u (job_of run.job) (stage_of run.stage) a (second_text us copy) copy.made.units)) first
    ∙ ap (λ b. over (stage_plan us u (job_of run.job) (stage_of run.stage) (first_text us run) b copy.made.units)) second
    ∙ ap (λ m. over (stage_plan us u (job_of run.job) (stage_of run.stage) (first_text us run) (second_text us run) m)) made
