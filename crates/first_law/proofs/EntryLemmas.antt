-- What an act of a thread shows, and how an entry of it fits.
use Rattle.std.proofs.Common.{◌≡◌, ℕ, suc, ◌+◌, Bool, false, Option, None, Some, List, refl, sym, ◌∙◌, ap, subst}
use Rattle.std.specs.Prelude.{slice_get, if◌then◌else◌}
use Rattle.op_core.specs.declared.Line.{Line}
use Rattle.op_core.specs.declared.Op.{Op}
use Rattle.op_core.specs.declared.Reply.{Reply}
use Rattle.op_core.specs.declared.Next.{Next}
use Rattle.op_core.specs.declared.Next.TheVariants.{Silent, Want, Ended}
use Rattle.op_core.specs.ThreadCode.{Code}
use Rattle.op_core.specs.OrdinaryState.{set_at, Object, Thread, live, ended, OrdinaryState}
use Rattle.op_core.specs.OrdinaryStep.{IsStep, CanStep, MayAnswer}
use Rattle.op_core.specs.OrdinaryStep as ordinary_step
use Rattle.op_core.specs.InPlaceList.{Entry, event, unseen, FitsAt}
use Rattle.op_core.specs.Laws.{HasSameParts}
use Rattle.op_core.proofs.ExecutionLemmas.{states_ext}
use Rattle.heap_words.specs.declared.areas.Area.{Area}
use Rattle.monitor_core.specs.Monitors.{monitor_depth}
use Rattle.ordinary_words.specs.Reading.{word_in, start_in, monitor_in}
use Rattle.step_port.specs.declared.answer.StepAnswer.{StepAnswer}
use Rattle.step_port.specs.declared.step.Step.{Step}
use Rattle.step_port.specs.declared.step.Step.TheVariants.{RestoreWord, SetDepth, Release, MarkUndone}
use Rattle.step_port.specs.Words.{answer_of, words_after}
use Rattle.thread_automaton.specs.declared.Bounds.{Bounds}
use Rattle.thread_automaton.specs.declared.Move.TheVariants.{Make}
use Rattle.thread_automaton.specs.declared.Attempt.{Attempt}
use Rattle.thread_automaton.specs.declared.Attempt.TheVariants.{Undoing}
use Rattle.thread_automaton.specs.ThreadState.{ThreadState}
use Rattle.thread_automaton.specs.NextMove.{next_move}
use Rattle.thread_automaton.specs.Changes.{Change, changed}
use Rattle.thread_automaton.specs.Told.{Told, probed, advanced, born, blocked, shown, told_of, told, counted_for, after_answer}
use Rattle.automaton_rows.specs.Rows.{IsNoUndoing}
use Rattle.core_runs.specs.Cores.{Core, core_after, threads_by, starting_by, objects_by, lines_by}
use Rattle.core_runs.specs.Acts.{Act, did, DidAt}
use Rattle.core_runs.specs.Entries.{event_told, monitor_shows, StepShows, Shows}
use Rattle.core_runs.specs.Reading.{waiting_in, end_wanted, place_in, thread_in, ordinary}
use Rattle.section_laws.proofs.level_saves.SaveLemmas.{HandsNone, stands_so, is_live}
use Rattle.first_law.specs.InPlace.{IsSeenRun}
use Rattle.first_law.proofs.TurnLemmas.{Keeps, words_part, starts_part, monitors_part, waiting_part, classes_part, stays_part}

-- a reply that others see is none
abbrev pub NoReply : Told → Type 0
NoReply (advanced (Some reply)) = ⊥
NoReply told = Unit {0}

pub no_event : (t : ℕ) (next : Next) (told : Told) → NoReply told → event_told t next told ≡ unseen
no_event t Silent told none = refl
no_event t Ended told none = refl
no_event t (Want op) probed none = refl
no_event t (Want op) (advanced None) none = refl
no_event t (Want op) (advanced (Some reply)) none = absurd none
no_event t (Want op) born none = refl
no_event t (Want op) (Told.lost v) none = refl
no_event t (Want op) (blocked why) none = refl

-- the step shows what is reported of it
abbrev pub IsUsual : Attempt → Step → Type 0
IsUsual attempt (RestoreWord at old) = ⊥
IsUsual attempt (MarkUndone s w) = ⊥
IsUsual attempt (Release r) = IsNoUndoing attempt
IsUsual attempt (SetDepth r new) = IsNoUndoing attempt
IsUsual attempt step = Unit {0}

usual_monitor : (t : ℕ) (attempt : Attempt) (r count : ℕ) (e : Entry) → IsNoUndoing attempt → monitor_shows t attempt r count e ≡ e
usual_monitor t (Undoing w) r count e none = absurd none
usual_monitor t attempt r count e none = refl

pub usual_shows : {S : Type 0} (code : Code S) (b : Bounds) (core : Core S) (t : ℕ) (th : ThreadState S) (step : Step) (a : StepAnswer) (e : Entry) → IsUsual th.attempt step
    → e ≡ event_told t (code.next th.local) (told code b th step a) → StepShows code b core t th step a e
usual_shows code b core t th (RestoreWord at old) a e usual is = absurd usual
usual_shows code b core t th (MarkUndone s w) a e usual is = absurd usual
usual_shows code b core t th (Release r) a e usual is = is ∙ sym (usual_monitor t th.attempt r 0 (event_told t (code.next th.local) (told code b th (Release r) a)) usual)
usual_shows code b core t th (SetDepth r new) a e usual is =
    is ∙ sym (usual_monitor t th.attempt r (monitor_depth new) (event_told t (code.next th.local) (told code b th (SetDepth r new) a)) usual)
usual_shows code b core t th step a e usual is = is

-- what is seen of a thread, and what an answer that is counted leaves of it
pub record Stance (S : Type 0) : Type 0 where
  pub local : S
  pub over : Bool
  pub depth : ℕ
  pub attempt : Attempt

abbrev pub stance : {S : Type 0} → ThreadState S → Stance S
stance th = record { local = th.local; over = th.over; depth = th.depth; attempt = th.attempt }

counted_stance : {S : Type 0} (told : Told) (z : ThreadState S) → stance (counted_for told z) ≡ stance z
counted_stance (advanced None) z = refl
counted_stance (advanced (Some reply)) z = refl
counted_stance born z = refl
counted_stance other z = refl

module _ {S : Type 0} (code : Code S) (b : Bounds) (is_thread : ℕ → Bool) (first : S) (classes : ℕ) (c : ℕ → Core S) (acts : List Act) (run : IsSeenRun code b is_thread first classes c acts) (k t : ℕ) (th : ThreadState S) where
  abbrev pub states : ℕ → OrdinaryState S
  states n = ordinary code is_thread (c n)

  abbrev pub state : OrdinaryState S
  state = ordinary code is_thread (c k)

  -- the act shows an entry, which fits
  abbrev pub HasEntry : Step → StepAnswer → Type 0
  HasEntry step a = (e : Entry) × Shows code b (c k) (did t step a) e × FitsAt code states k e

  -- What is known of an act by its row: what the thread does, what becomes of it, and what is reported.
  pub record Done (next : Next) (step : Step) (a : StepAnswer) (change : Change) : Type 0 where
    pub here : slice_get acts k ≡ Some (did t step a)
    pub stands : (c k).threads t ≡ Some th
    pub move : next_move code b th ≡ Make step
    pub answered : a ≡ answer_of (c k).words step
    pub leads : c (suc k) ≡ core_after code b k (c k) t th step a
    pub wants : code.next th.local ≡ next
    pub then_is : after_answer code b th step a ≡ counted_for (told_of next step a change (shown change)) (changed code th change)
    pub told_is : told code b th step a ≡ told_of next step a change (shown change)

  module _ {next : Next} {step : Step} {a : StepAnswer} {change : Change} (act : Done next step a change) where
    abbrev pub did_at : DidAt code b c k t step a
    did_at = record { from = th; stands = act.stands; move = act.move; answered = act.answered; leads = act.leads }

    abbrev pub y : ThreadState S
    y = after_answer code b th step a

    abbrev pub after : Core S
    after = core_after code b k (c k) t th step a

    pub stance_is : stance y ≡ stance (changed code th change)
    stance_is = ap stance act.then_is ∙ counted_stance (told_of next step a change (shown change)) (changed code th change)

    pub local_is : y.local ≡ (changed code th change).local
    local_is = ap (λ (x : Stance S). x.local) stance_is

    pub over_is : y.over ≡ (changed code th change).over
    over_is = ap (λ (x : Stance S). x.over) stance_is

    pub depth_is : y.depth ≡ (changed code th change).depth
    depth_is = ap (λ (x : Stance S). x.depth) stance_is

    pub attempt_is : y.attempt ≡ (changed code th change).attempt
    attempt_is = ap (λ (x : Stance S). x.attempt) stance_is

    pub live_from : th.over ≡ false
    live_from = is_live code b th step act.move

    -- where the thread is then
    pub then_live : (o : Option S) (l : S) → (changed code th change).over ≡ false
        → place_in code (changed code th change).local (changed code th change).attempt ≡ l → thread_in code o (Some y) ≡ live l
    then_live o l over place =
        ap (λ (x : Stance S). if_over x.over x.local x.attempt) stance_is ∙ ap (λ x. if_over x (changed code th change).local (changed code th change).attempt) over ∙ ap live place
      where
        if_over : Bool → S → Attempt → Thread S
        if_over x l g = if x then ended (end_wanted (code.next l)) else live (place_in code l g)

    -- the ordinary state after the act
    pub leads : states (suc k) ≡ ordinary code is_thread after
    leads = ap (ordinary code is_thread) act.leads

    -- ---- an event

    pub event_entry : (op : Op) (reply : Reply) → next ≡ Want op → told_of next step a change (shown change) ≡ advanced (Some reply) → IsUsual th.attempt step → HandsNone step
        → CanStep state t op → MayAnswer state t op reply
        → HasSameParts (ordinary code is_thread after) (ordinary_step.after code state t th.local op reply) → HasEntry step a
    event_entry op reply is_next reports usual hands can answered same = (
      event t op reply,
      (
        th,
        act.stands,
        usual_shows code b (c k) t th step a (event t op reply) usual
            (sym (ap (λ x. event_told t (code.next th.local) x) (act.told_is ∙ reports) ∙ ap (λ n. event_told t n (advanced (Some reply))) (act.wants ∙ is_next))),
      ),
      record {
        at_op = th.local;
        stands = ap (thread_in code ((c k).starting t)) act.stands ∙ stands_so code b th ((c k).starting t) step act.move hands;
        step = record { wanted = act.wants ∙ is_next; can = can; answered = answered };
        leads = leads ∙ states_ext S (ordinary code is_thread after) (ordinary_step.after code state t th.local op reply) same;
      },
    )

    -- ---- nothing is seen

    pub record Unseen : Type 0 where
      pub reports : NoReply (told_of next step a change (shown change))
      pub usual : IsUsual th.attempt step
      pub hands : HandsNone step
      pub words : (p : ℕ) → words_after step (c k).words (Area.Object p) ≡ (c k).words (Area.Object p)
      pub class_words : (d : ℕ) → words_after step (c k).words (Area.Class d) ≡ (c k).words (Area.Class d)
      pub waiting : (u : ℕ) → waiting_in (set_at (c k).threads t (Some y) u) (words_after step (c k).words (Area.Wait u)) ≡ waiting_in ((c k).threads u) ((c k).words (Area.Wait u))
      pub local : (changed code th change).local ≡ th.local
      pub over : (changed code th change).over ≡ th.over
      pub place : (l : S) → place_in code l (changed code th change).attempt ≡ l
      pub objects : (f : ℕ → Option Object) → objects_by code step th.local next f ≡ f
      pub starting : (f : ℕ → Option S) → starting_by code step a th.local f ≡ f
      pub lines : (xs : List Line) → lines_by step next xs ≡ xs
      pub threads : (f : ℕ → Option (ThreadState S)) → threads_by code step th.local f ≡ f

    pub unseen_entry : Unseen → HasEntry step a
    unseen_entry so = (
      unseen,
      (
        th,
        act.stands,
        usual_shows code b (c k) t th step a unseen so.usual
            (sym (no_event t (code.next th.local) (told code b th step a) (subst NoReply (sym act.told_is) so.reports))),
      ),
      leads ∙ states_ext S (ordinary code is_thread after) state same,
    )
      where
        objects_same : objects_by code step th.local (code.next th.local) (c k).objects ≡ (c k).objects
        objects_same = ap (λ n. objects_by code step th.local n (c k).objects) act.wants ∙ so.objects (c k).objects

        abbrev_at : (q : ℕ) → after.objects q ≡ (c k).objects q
        abbrev_at q = ap (λ (f : ℕ → Option Object). f q) objects_same

        same : HasSameParts (ordinary code is_thread after) state
        same = record {
          objects = abbrev_at;
          words = λ q i. ap (λ x. word_in is_thread after.words q i x) (abbrev_at q)
              ∙ words_part code b is_thread first classes c acts run k t step a act.here did_at so.words q i;
          monitors = λ q. ap (λ x. monitor_in after.words q x) (abbrev_at q)
              ∙ monitors_part code b is_thread first classes c acts run k t step a act.here did_at q (λ o there. so.words (q + 1));
          waiting = λ u. ap (λ (f : ℕ → Option (ThreadState S)). waiting_in (f u) (after.words (Area.Wait u))) (so.threads (set_at (c k).threads t (Some y)))
              ∙ so.waiting u;
          classes = λ d. classes_part code b is_thread first classes c acts run k t step a act.here did_at so.class_words d;
          starts = λ q. ap (λ x. start_in is_thread after.words q x) (abbrev_at q)
              ∙ starts_part code b is_thread first classes c acts run k t step a act.here did_at so.words q;
          threads = λ u. ap (λ (f : ℕ → Option S). thread_in code (f u) (after.threads u)) (so.starting (c k).starting)
              ∙ ap (λ (f : ℕ → Option (ThreadState S)). thread_in code ((c k).starting u) (f u)) (so.threads (set_at (c k).threads t (Some y)))
              ∙ stays_part code b is_thread first classes c acts run k t step a act.here did_at th.local
              (stands_so code b th ((c k).starting t) step act.move so.hands)
              (then_live ((c k).starting t) th.local (so.over ∙ live_from) (so.place (changed code th change).local ∙ so.local)) u;
          lines = ap (λ n. lines_by step n (c k).lines) act.wants ∙ so.lines (c k).lines;
        }

    -- where words stay, and what the thread has given up
    pub waits_still : Keeps (c k).words (words_after step (c k).words) → (changed code th change).depth ≡ th.depth
        → (u : ℕ) → waiting_in (set_at (c k).threads t (Some y) u) (words_after step (c k).words (Area.Wait u)) ≡ waiting_in ((c k).threads u) ((c k).words (Area.Wait u))
    waits_still keeps depth u = waiting_part code b is_thread first classes c acts run k t step a act.here did_at (depth_is ∙ depth) keeps.waits u
