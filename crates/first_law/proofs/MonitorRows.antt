-- Acts on monitors: those that take them, enter them deeper, leave them, and find that another thread owns them.
use Rattle.std.proofs.Common.{◌≡◌, ◌≢◌, ℕ, ◌+◌, Bool, Option, Some, List, ◌∙◌, ap, subst}
use Rattle.op_core.specs.declared.Line.{Line}
use Rattle.op_core.specs.declared.Op.{Op}
use Rattle.op_core.specs.declared.Reply.{Reply}
use Rattle.op_core.specs.declared.Next.{Next}
use Rattle.op_core.specs.declared.Next.TheVariants.{Want}
use Rattle.op_core.specs.ThreadCode.{Code}
use Rattle.op_core.specs.OrdinaryState.{set_at, Object, Monitor, Waiting, live, OrdinaryState}
use Rattle.op_core.specs.OrdinaryStep.{CanStep, MayAnswer}
use Rattle.op_core.specs.OrdinaryStep as ordinary_step
use Rattle.op_core.specs.Laws.{HasSameParts}
use Rattle.heap_words.specs.declared.areas.Area.{Area}
use Rattle.step_port.specs.declared.answer.StepAnswer.{StepAnswer}
use Rattle.step_port.specs.declared.step.Step.{Step}
use Rattle.step_port.specs.Steps.{place_of, effect_of}
use Rattle.step_port.specs.Words.{Words, area_eq, words_after}
use Rattle.ordinary_words.specs.Reading.{word_in, start_in, monitor_of, monitor_in, class_of}
use Rattle.thread_automaton.specs.declared.Bounds.{Bounds}
use Rattle.thread_automaton.specs.ThreadState.{ThreadState}
use Rattle.thread_automaton.specs.Changes.{Change, changed}
use Rattle.thread_automaton.specs.Told.{advanced, shown, told_of, after_answer}
use Rattle.core_runs.specs.Cores.{Core, threads_by, starting_by, objects_by, lines_by}
use Rattle.core_runs.specs.Acts.{Act}
use Rattle.core_runs.specs.Reading.{place_in, waiting_in, thread_in, ordinary}
use Rattle.section_laws.proofs.WordLemmas.{stays_at}
use Rattle.section_laws.proofs.run_layout.PlaceLemmas.{object_other}
use Rattle.section_laws.proofs.level_saves.SaveLemmas.{HandsNone}
use Rattle.first_law.specs.InPlace.{IsSeenRun}
use Rattle.first_law.proofs.TurnLemmas.{waiting_part, threads_part}
use Rattle.first_law.proofs.EntryLemmas.{IsUsual, HasEntry, Done, did_at, after, live_from, then_live, depth_is, event_entry}
use Rattle.first_law.proofs.MonitorLemmas.{words_stay, starts_stay, monitors_set}

module _ {S : Type 0} (code : Code S) (b : Bounds) (is_thread : ℕ → Bool) (first : S) (classes : ℕ) (c : ℕ → Core S) (acts : List Act) (run : IsSeenRun code b is_thread first classes c acts) (k t : ℕ)
    (th : ThreadState S) where
  abbrev Does : Next → Step → StepAnswer → Change → Type 0
  Does next step a change = Done code b is_thread first classes c acts run k t th next step a change

  abbrev Seen : Step → StepAnswer → Type 0
  Seen step a = HasEntry code b is_thread first classes c acts run k t th step a

  abbrev state : OrdinaryState S
  state = ordinary code is_thread (c k)

  -- ---- the word of a monitor is changed

  -- what becomes of the thread, and of the parts that no step on a monitor changes
  pub record Monitored {next : Next} {step : Step} {a : StepAnswer} {change : Change} (act : Does next step a change) (l : S) : Type 0 where
    pub place : place_in code (changed code th change).local (changed code th change).attempt ≡ l
    pub over : (changed code th change).over ≡ th.over
    pub objects : (f : ℕ → Option Object) → objects_by code step th.local next f ≡ f
    pub starting : (f : ℕ → Option S) → starting_by code step a th.local f ≡ f
    pub lines : (xs : List Line) → lines_by step next xs ≡ xs
    pub threads : (f : ℕ → Option (ThreadState S)) → threads_by code step th.local f ≡ f

  module _ {next : Next} {step : Step} {a : StepAnswer} {change : Change} (act : Does next step a change) (r : ℕ) (o : Object) (there : (c k).objects r ≡ Some o) (at_monitor : place_of step ≡ Area.Object (r + 1)) where
    abbrev v : Words
    v = words_after step (c k).words

    abbrev y : ThreadState S
    y = after_answer code b th step a

    pub else_stays : (p : ℕ) → p ≢ r + 1 → v (Area.Object p) ≡ (c k).words (Area.Object p)
    else_stays p other = stays_at (effect_of step) (c k).words (place_of step) (Area.Object p) (ap (area_eq (Area.Object p)) at_monitor ∙ object_other p (r + 1) other)

    pub section_stays : (s : ℕ) → v (Area.Section s) ≡ (c k).words (Area.Section s)
    section_stays s = stays_at (effect_of step) (c k).words (place_of step) (Area.Section s) (ap (area_eq (Area.Section s)) at_monitor)

    pub wait_stays : (u : ℕ) → v (Area.Wait u) ≡ (c k).words (Area.Wait u)
    wait_stays u = stays_at (effect_of step) (c k).words (place_of step) (Area.Wait u) (ap (area_eq (Area.Wait u)) at_monitor)

    pub class_stays : (d : ℕ) → v (Area.Class d) ≡ (c k).words (Area.Class d)
    class_stays d = stays_at (effect_of step) (c k).words (place_of step) (Area.Class d) (ap (area_eq (Area.Class d)) at_monitor)

    pub same_waiting : (changed code th change).depth ≡ th.depth → (u : ℕ) → waiting_in (set_at (c k).threads t (Some y) u) (v (Area.Wait u)) ≡ state.waiting u
    same_waiting depth u = waiting_part code b is_thread first classes c acts run k t step a act.here (did_at code b is_thread first classes c acts run k t th act)
        (depth_is code b is_thread first classes c acts run k t th act ∙ depth) wait_stays u

    pub monitor_parts : (l : S) (x : Monitor) (waiting : ℕ → Waiting) → Monitored act l → monitor_of v (v (Area.Object (r + 1))) ≡ x
        → ((u : ℕ) → waiting_in (set_at (c k).threads t (Some y) u) (v (Area.Wait u)) ≡ waiting u)
        → HasSameParts (ordinary code is_thread (after code b is_thread first classes c acts run k t th act))
        (record state { monitors = set_at state.monitors r x; waiting = waiting; threads = set_at state.threads t (live l) })
    monitor_parts l x waiting so word waits = record {
      objects = objects_at;
      words = λ q i. ap (λ z. word_in is_thread v q i z) (objects_at q)
          ∙ words_stay code b is_thread first classes c acts run k t th act v r o there else_stays q i;
      monitors = λ q. ap (λ z. monitor_in v q z) (objects_at q)
          ∙ monitors_set code b is_thread first classes c acts run k t th act v r o there else_stays x section_stays word q;
      waiting = λ u. ap (λ (f : ℕ → Option (ThreadState S)). waiting_in (f u) (v (Area.Wait u))) (so.threads (set_at (c k).threads t (Some y))) ∙ waits u;
      classes = λ d. ap class_of (class_stays d);
      starts = λ q. ap (λ z. start_in is_thread v q z) (objects_at q)
          ∙ starts_stay code b is_thread first classes c acts run k t th act v r o there else_stays q;
      threads = λ u. ap (λ (f : ℕ → Option S). thread_in code (f u) (threads_by code step th.local (set_at (c k).threads t (Some y)) u)) (so.starting (c k).starting)
          ∙ ap (λ (f : ℕ → Option (ThreadState S)). thread_in code ((c k).starting u) (f u)) (so.threads (set_at (c k).threads t (Some y)))
          ∙ threads_part code b is_thread first classes c acts run k t step a act.here (did_at code b is_thread first classes c acts run k t th act) (live l)
          (then_live code b is_thread first classes c acts run k t th act ((c k).starting t) l (so.over ∙ live_from code b is_thread first classes c acts run k t th act) so.place) u;
      lines = ap (λ n. lines_by step n (c k).lines) act.wants ∙ so.lines (c k).lines;
    }
      where
        objects_at : (q : ℕ) → objects_by code step th.local (code.next th.local) (c k).objects q ≡ (c k).objects q
        objects_at q = ap (λ (f : ℕ → Option Object). f q) (ap (λ n. objects_by code step th.local n (c k).objects) act.wants ∙ so.objects (c k).objects)

    -- an operation on the monitor is answered
    pub monitor_entry : (op : Op) (reply : Reply) (x : Monitor) (waiting : ℕ → Waiting) → next ≡ Want op → told_of next step a change (shown change) ≡ advanced (Some reply)
        → IsUsual th.attempt step → HandsNone step → CanStep state t op → MayAnswer state t op reply → Monitored act (code.reply th.local reply) → monitor_of v (v (Area.Object (r + 1))) ≡ x
        → ((u : ℕ) → waiting_in (set_at (c k).threads t (Some y) u) (v (Area.Wait u)) ≡ waiting u)
        → record state { monitors = set_at state.monitors r x; waiting = waiting; threads = set_at state.threads t (live (code.reply th.local reply)) } ≡ ordinary_step.after code state t th.local op reply
        → Seen step a
    monitor_entry op reply x waiting is reports usual hands can answers so word waits after_is =
        event_entry code b is_thread first classes c acts run k t th act op reply is reports usual hands can answers
        (subst (HasSameParts (ordinary code is_thread (after code b is_thread first classes c acts run k t th act))) after_is (monitor_parts (code.reply th.local reply) x waiting so word waits))
