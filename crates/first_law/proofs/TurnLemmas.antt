-- What is known of one act of a thread in a run, and which parts of the ordinary state it leaves.
use Rattle.std.proofs.Common.{◌≡◌, ◌≢◌, ℕ, suc, ◌+◌, ◌<◌, ◌≤◌, Bool, true, false, Some, List, length, nat_eq, refl, sym, ◌∙◌, ap, subst, arith}
use Rattle.std.specs.Prelude.{slice_get, if◌then◌else◌}
use Rattle.std.proofs.lemmas.Option.{slice_get_within}
use Rattle.op_core.specs.ThreadCode.{Code}
use Rattle.op_core.specs.OrdinaryState.{set_at, Object, Thread, live, awake, notified, waits, OrdinaryState}
use Rattle.op_core.proofs.PointwiseLemmas.{set_at-at, set_at-same}
use Rattle.heap_words.specs.declared.areas.Area.{Area}
use Rattle.heap_words.specs.Words.{value_of, wait_object, wait_state}
use Rattle.section_state.specs.SectionWord.{owner_of}
use Rattle.monitor_core.specs.Monitors.{monitor_section}
use Rattle.step_port.specs.declared.answer.StepAnswer.{StepAnswer}
use Rattle.step_port.specs.declared.answer.StepAnswer.TheVariants.{Lost}
use Rattle.step_port.specs.declared.step.Effect.TheVariants.{Load}
use Rattle.step_port.specs.declared.step.Step.{Step}
use Rattle.step_port.specs.Steps.{place_of, effect_of}
use Rattle.step_port.specs.Words.{Words, area_eq, put_by, answer_of, words_after}
use Rattle.thread_automaton.specs.declared.Bounds.{Bounds}
use Rattle.thread_automaton.specs.ThreadState.{ThreadState}
use Rattle.thread_automaton.specs.Told.{after_answer}
use Rattle.core_runs.specs.Cores.{Core, core_after}
use Rattle.core_runs.specs.Acts.{Act, did, DidAt}
use Rattle.core_runs.specs.Reading.{waiting_in, thread_in, ordinary}
use Rattle.ordinary_words.specs.Reading.{word_in, start_in, monitor_in, class_of}
use Rattle.section_laws.proofs.WordLemmas.{lost, stays_at}
use Rattle.section_laws.proofs.RunLemmas.{Known, facts_at}
use Rattle.section_laws.proofs.own_sections.MoveLemmas.{moves_at}
use Rattle.section_laws.specs.Layout.{IsLaidRun}
use Rattle.first_law.specs.Monitors.{MonitorsFit}
use Rattle.first_law.specs.InPlace.{IsSeenRun}
use Rattle.first_law.proofs.StateLemmas.{equal, word_kept, start_kept, monitor_kept}
use Rattle.first_law.proofs.OwnerLemmas.{owner_kept, held_section}

-- ---- words that stay

-- the words v are those of w, in what the ordinary state shows of words
pub record Keeps (w v : Words) : Type 0 where
  pub objects : (p : ℕ) → v (Area.Object p) ≡ w (Area.Object p)
  pub waits : (u : ℕ) → v (Area.Wait u) ≡ w (Area.Wait u)
  pub classes : (d : ℕ) → v (Area.Class d) ≡ w (Area.Class d)

pub keeps_load : (step : Step) (w : Words) → effect_of step ≡ Load → Keeps w (words_after step w)
keeps_load step w load =
    let same : words_after step w ≡ w = ap (λ e. put_by e w (place_of step)) load in
    record { objects = λ p. ap (λ (x : Words). x (Area.Object p)) same; waits = λ u. ap (λ (x : Words). x (Area.Wait u)) same; classes = λ d. ap (λ (x : Words). x (Area.Class d)) same }

pub keeps_lost : (step : Step) (w : Words) (v : ℕ) → Lost v ≡ answer_of w step → Keeps w (words_after step w)
keeps_lost step w v is =
    let same : words_after step w ≡ w = lost (effect_of step) w (place_of step) v is in
    record { objects = λ p. ap (λ (x : Words). x (Area.Object p)) same; waits = λ u. ap (λ (x : Words). x (Area.Wait u)) same; classes = λ d. ap (λ (x : Words). x (Area.Class d)) same }

pub keeps_else : (step : Step) (w : Words) → ((p : ℕ) → area_eq (Area.Object p) (place_of step) ≡ false) → ((u : ℕ) → area_eq (Area.Wait u) (place_of step) ≡ false)
    → ((d : ℕ) → area_eq (Area.Class d) (place_of step) ≡ false) → Keeps w (words_after step w)
keeps_else step w object wait class = record {
  objects = λ p. stays_at (effect_of step) w (place_of step) (Area.Object p) (object p);
  waits = λ u. stays_at (effect_of step) w (place_of step) (Area.Wait u) (wait u);
  classes = λ d. stays_at (effect_of step) w (place_of step) (Area.Class d) (class d);
}

module _ {S : Type 0} (code : Code S) (b : Bounds) (is_thread : ℕ → Bool) (first : S) (classes : ℕ) (c : ℕ → Core S) (acts : List Act) (run : IsSeenRun code b is_thread first classes c acts) where
  pub laid : IsLaidRun code b is_thread c acts
  laid = record { run = run.levelled.ordered.run; begins = run.begins; wants = run.wants }

  -- ---- one act

  module _ (k t : ℕ) (step : Step) (a : StepAnswer) (here : slice_get acts k ≡ Some (did t step a)) (at : DidAt code b c k t step a) where
    pub within : k < length acts
    within = slice_get_within acts k (did t step a) here

    pub up : k ≤ length acts
    up = let low = within in omega (arith, low)

    abbrev pub w : Words
    w = (c k).words

    abbrev pub v : Words
    v = words_after step (c k).words

    abbrev pub y : ThreadState S
    y = after_answer code b at.from step a

    abbrev pub after : Core S
    after = core_after code b k (c k) t at.from step a

    abbrev pub state : OrdinaryState S
    state = ordinary code is_thread (c k)

    pub known : Known code (c k)
    known = facts_at code b c acts run.levelled.ordered.run k up

    pub monitors : MonitorsFit code (c k)
    monitors = run.monitors k within

    -- who owns a section that is there stays its owner
    pub owner_stays : (s : ℕ) → w (Area.Section s) ≢ 0 → owner_of (v (Area.Section s)) ≡ owner_of (w (Area.Section s))
    owner_stays s some =
        subst (λ (z : Core S). owner_of (z.words (Area.Section s)) ≡ owner_of (w (Area.Section s))) at.leads
        (owner_kept (w (Area.Section s)) ((c (suc k)).words (Area.Section s)) (moves_at code b c acts run.levelled.ordered.run run.levelled.ordered.in_bits k s within) some)

    -- a monitor that is held names a section that is there
    pub holder_there : (q : ℕ) (o : Object) → (c k).objects q ≡ Some o → w (Area.Object (q + 1)) ≢ 0 → w (Area.Section (monitor_section (w (Area.Object (q + 1))))) ≢ 0
    holder_there q o there some = held_section code b is_thread first classes c acts run k up monitors q o there some

    -- ---- parts that stay

    pub words_part : ((p : ℕ) → v (Area.Object p) ≡ w (Area.Object p)) → (q i : ℕ) → word_in is_thread v q i ((c k).objects q) ≡ word_in is_thread w q i ((c k).objects q)
    words_part same q i = word_kept is_thread w v q i ((c k).objects q) (λ o there low plain. ap value_of (same (q + 2 + i)))

    pub starts_part : ((p : ℕ) → v (Area.Object p) ≡ w (Area.Object p)) → (q : ℕ) → start_in is_thread v q ((c k).objects q) ≡ start_in is_thread w q ((c k).objects q)
    starts_part same q = start_kept is_thread w v q ((c k).objects q) (λ o there thread. same (q + 3))

    pub monitors_part : (q : ℕ) → ((o : Object) → (c k).objects q ≡ Some o → v (Area.Object (q + 1)) ≡ w (Area.Object (q + 1)))
        → monitor_in v q ((c k).objects q) ≡ monitor_in w q ((c k).objects q)
    monitors_part q same = monitor_kept w v q ((c k).objects q) same (λ o there some. owner_stays (monitor_section (w (Area.Object (q + 1)))) (holder_there q o there some))

    -- the depth of what a thread has given up and its wait word say whether it waits
    pub waiting_so : (x z : ThreadState S) (m : ℕ) → x.depth ≡ z.depth → waiting_in (Some x) m ≡ waiting_in (Some z) m
    waiting_so x z m same = ap (λ d. if nat_eq d 0 then awake else if nat_eq (wait_state m) 2 then notified (wait_object m) d else waits (wait_object m) d) same

    pub waiting_part : y.depth ≡ at.from.depth → ((u : ℕ) → v (Area.Wait u) ≡ w (Area.Wait u)) → (u : ℕ)
        → waiting_in (set_at (c k).threads t (Some y) u) (v (Area.Wait u)) ≡ waiting_in ((c k).threads u) (w (Area.Wait u))
    waiting_part same words u = ap (waiting_in (set_at (c k).threads t (Some y) u)) (words u)
        ∙ set_at-at (λ x. waiting_in x (w (Area.Wait u)) ≡ waiting_in ((c k).threads u) (w (Area.Wait u))) (c k).threads t (Some y) u
        (λ own. waiting_so y at.from (w (Area.Wait u)) same ∙ ap (λ x. waiting_in x (w (Area.Wait u))) (sym at.stands ∙ ap (c k).threads (sym own))) (λ other. refl)

    pub classes_part : ((d : ℕ) → v (Area.Class d) ≡ w (Area.Class d)) → (d : ℕ) → class_of (v (Area.Class d)) ≡ class_of (w (Area.Class d))
    classes_part same d = ap class_of (same d)

    -- thread t is then where it is, and the others are where they were
    pub threads_part : (place : Thread S) → thread_in code ((c k).starting t) (Some y) ≡ place → (u : ℕ)
        → thread_in code ((c k).starting u) (set_at (c k).threads t (Some y) u) ≡ set_at state.threads t place u
    threads_part place is u = by_test (nat_eq u t) refl
      where
        same : (m n : ℕ) → nat_eq m n ≡ true → m ≡ n
        same m n is = equal m n is

        by_test : (x : Bool) → nat_eq u t ≡ x → thread_in code ((c k).starting u) (if x then Some y else (c k).threads u)
            ≡ (if x then place else thread_in code ((c k).starting u) ((c k).threads u))
        by_test true own = ap (λ n. thread_in code ((c k).starting n) (Some y)) (same u t own) ∙ is
        by_test false other = refl

    pub stays_part : (l : S) → thread_in code ((c k).starting t) (Some at.from) ≡ live l → thread_in code ((c k).starting t) (Some y) ≡ live l → (u : ℕ)
        → thread_in code ((c k).starting u) (set_at (c k).threads t (Some y) u) ≡ thread_in code ((c k).starting u) ((c k).threads u)
    stays_part l was is u = threads_part (live l) is u ∙ ap (λ f. f u) (set_at-same state.threads t (live l) (ap (thread_in code ((c k).starting t)) at.stands ∙ was))
