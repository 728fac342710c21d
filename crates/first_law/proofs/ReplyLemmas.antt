-- Acts that answer an operation and change nothing else.
use Rattle.std.proofs.Common.{◌≡◌, ℕ, ◌+◌, Bool, Option, Some, List, ◌∙◌, ap, subst}
use Rattle.op_core.specs.declared.Line.{Line}
use Rattle.op_core.specs.declared.Op.{Op}
use Rattle.op_core.specs.declared.Reply.{Reply}
use Rattle.op_core.specs.declared.Next.{Next}
use Rattle.op_core.specs.declared.Next.TheVariants.{Want}
use Rattle.op_core.specs.ThreadCode.{Code}
use Rattle.op_core.specs.OrdinaryState.{set_at, Object, live, OrdinaryState}
use Rattle.op_core.specs.OrdinaryStep.{CanStep, MayAnswer}
use Rattle.op_core.specs.OrdinaryStep as ordinary_step
use Rattle.op_core.specs.Laws.{HasSameParts}
use Rattle.heap_words.specs.declared.areas.Area.{Area}
use Rattle.ordinary_words.specs.Reading.{word_in, start_in, monitor_in}
use Rattle.step_port.specs.declared.answer.StepAnswer.{StepAnswer}
use Rattle.step_port.specs.declared.step.Step.{Step}
use Rattle.step_port.specs.Words.{words_after}
use Rattle.thread_automaton.specs.declared.Bounds.{Bounds}
use Rattle.thread_automaton.specs.ThreadState.{ThreadState}
use Rattle.thread_automaton.specs.Changes.{Change, answered, changed}
use Rattle.thread_automaton.specs.Told.{advanced, shown, told_of, after_answer}
use Rattle.core_runs.specs.Cores.{Core, threads_by, starting_by, objects_by, lines_by}
use Rattle.core_runs.specs.Acts.{Act}
use Rattle.core_runs.specs.Reading.{place_in, waiting_in, thread_in, ordinary}
use Rattle.section_laws.proofs.level_saves.SaveLemmas.{HandsNone}
use Rattle.first_law.specs.InPlace.{IsSeenRun}
use Rattle.first_law.proofs.TurnLemmas.{Keeps, words_part, starts_part, monitors_part, classes_part, threads_part}
use Rattle.first_law.proofs.EntryLemmas.{IsUsual, HasEntry, Done, did_at, after, live_from, then_live, event_entry, waits_still}

module _ {S : Type 0} (code : Code S) (b : Bounds) (is_thread : ℕ → Bool) (first : S) (classes : ℕ) (c : ℕ → Core S) (acts : List Act) (run : IsSeenRun code b is_thread first classes c acts) (k t : ℕ)
    (th : ThreadState S) where
  abbrev state : OrdinaryState S
  state = ordinary code is_thread (c k)

  module _ {next : Next} {step : Step} {a : StepAnswer} {change : Change} (act : Done code b is_thread first classes c acts run k t th next step a change) where
    abbrev then : Core S
    then = after code b is_thread first classes c acts run k t th act

    abbrev y : ThreadState S
    y = after_answer code b th step a

    -- the thread stands at l then, and nothing else is seen of the act
    pub record Plain (l : S) : Type 0 where
      pub words : (p : ℕ) → words_after step (c k).words (Area.Object p) ≡ (c k).words (Area.Object p)
      pub class_words : (d : ℕ) → words_after step (c k).words (Area.Class d) ≡ (c k).words (Area.Class d)
      pub waiting : (u : ℕ) → waiting_in (set_at (c k).threads t (Some y) u) (words_after step (c k).words (Area.Wait u)) ≡ waiting_in ((c k).threads u) ((c k).words (Area.Wait u))
      pub place : place_in code (changed code th change).local (changed code th change).attempt ≡ l
      pub over : (changed code th change).over ≡ th.over
      pub objects : (f : ℕ → Option Object) → objects_by code step th.local next f ≡ f
      pub starting : (f : ℕ → Option S) → starting_by code step a th.local f ≡ f
      pub lines : (xs : List Line) → lines_by step next xs ≡ xs
      pub threads : (f : ℕ → Option (ThreadState S)) → threads_by code step th.local f ≡ f

    pub plain_parts : (l : S) → Plain l → HasSameParts (ordinary code is_thread then) (record state { threads = set_at state.threads t (live l) })
    plain_parts l so = record {
      objects = objects_at;
      words = λ q i. ap (λ x. word_in is_thread then.words q i x) (objects_at q) ∙ words_part code b is_thread first classes c acts run k t step a act.here (did_at code b is_thread first classes c acts run k t th act) so.words q i;
      monitors = λ q. ap (λ x. monitor_in then.words q x) (objects_at q)
          ∙ monitors_part code b is_thread first classes c acts run k t step a act.here (did_at code b is_thread first classes c acts run k t th act) q (λ o there. so.words (q + 1));
      waiting = λ u. ap (λ (f : ℕ → Option (ThreadState S)). waiting_in (f u) (then.words (Area.Wait u))) (so.threads (set_at (c k).threads t (Some y))) ∙ so.waiting u;
      classes = λ d. classes_part code b is_thread first classes c acts run k t step a act.here (did_at code b is_thread first classes c acts run k t th act) so.class_words d;
      starts = λ q. ap (λ x. start_in is_thread then.words q x) (objects_at q) ∙ starts_part code b is_thread first classes c acts run k t step a act.here (did_at code b is_thread first classes c acts run k t th act) so.words q;
      threads = λ u. ap (λ (f : ℕ → Option S). thread_in code (f u) (then.threads u)) (so.starting (c k).starting)
          ∙ ap (λ (f : ℕ → Option (ThreadState S)). thread_in code ((c k).starting u) (f u)) (so.threads (set_at (c k).threads t (Some y)))
          ∙ threads_part code b is_thread first classes c acts run k t step a act.here (did_at code b is_thread first classes c acts run k t th act) (live l)
          (then_live code b is_thread first classes c acts run k t th act ((c k).starting t) l (so.over ∙ live_from code b is_thread first classes c acts run k t th act) so.place) u;
      lines = ap (λ n. lines_by step n (c k).lines) act.wants ∙ so.lines (c k).lines;
    }
      where
        objects_at : (q : ℕ) → then.objects q ≡ (c k).objects q
        objects_at q = ap (λ (f : ℕ → Option Object). f q) (ap (λ n. objects_by code step th.local n (c k).objects) act.wants ∙ so.objects (c k).objects)

    -- an operation is answered, and nothing else is seen
    pub reply_entry : (op : Op) (reply : Reply) → next ≡ Want op → told_of next step a change (shown change) ≡ advanced (Some reply) → IsUsual th.attempt step → HandsNone step
        → CanStep state t op → MayAnswer state t op reply → Plain (code.reply th.local reply)
        → record state { threads = set_at state.threads t (live (code.reply th.local reply)) } ≡ ordinary_step.after code state t th.local op reply → HasEntry code b is_thread first classes c acts run k t th step a
    reply_entry op reply is reports usual hands can answered so after_is =
        event_entry code b is_thread first classes c acts run k t th act op reply is reports usual hands can answered
        (subst (HasSameParts (ordinary code is_thread then)) after_is (plain_parts (code.reply th.local reply) so))

    -- the same where words stay
    pub kept_entry : (op : Op) (reply : Reply) → next ≡ Want op → told_of next step a change (shown change) ≡ advanced (Some reply) → IsUsual th.attempt step → HandsNone step
        → CanStep state t op → MayAnswer state t op reply → Keeps (c k).words (words_after step (c k).words)
        → changed code th change ≡ answered code th reply → ((f : ℕ → Option Object) → objects_by code step th.local next f ≡ f)
        → ((f : ℕ → Option S) → starting_by code step a th.local f ≡ f) → ((xs : List Line) → lines_by step next xs ≡ xs)
        → ((f : ℕ → Option (ThreadState S)) → threads_by code step th.local f ≡ f)
        → record state { threads = set_at state.threads t (live (code.reply th.local reply)) } ≡ ordinary_step.after code state t th.local op reply → HasEntry code b is_thread first classes c acts run k t th step a
    kept_entry op reply is reports usual hands can answered keeps then_is objects starting lines threads after_is =
        reply_entry op reply is reports usual hands can answered (record {
          words = keeps.objects;
          class_words = keeps.classes;
          waiting = waits_still code b is_thread first classes c acts run k t th act keeps (ap (λ (x : ThreadState S). x.depth) then_is);
          place = ap (λ (x : ThreadState S). place_in code x.local x.attempt) then_is;
          over = ap (λ (x : ThreadState S). x.over) then_is;
          objects = objects;
          starting = starting;
          lines = lines;
          threads = threads;
        }) after_is
