-- Acts of which the ordinary state shows nothing.
use Rattle.std.proofs.Common.{◌≡◌, ℕ, Bool, Option, None, Some, List, [], refl, sym, ◌∙◌, ap, subst}
use Rattle.op_core.specs.declared.Line.{Line}
use Rattle.op_core.specs.declared.Op.{Op}
use Rattle.op_core.specs.declared.Op.TheVariants.{Exit, Wait, Start, Init}
use Rattle.op_core.specs.declared.Next.{Next}
use Rattle.op_core.specs.declared.Next.TheVariants.{Want}
use Rattle.op_core.specs.ThreadCode.{Code}
use Rattle.op_core.specs.OrdinaryState.{set_at, Object}
use Rattle.heap_words.specs.declared.areas.Area.{Area}
use Rattle.step_port.specs.declared.answer.StepAnswer.{StepAnswer}
use Rattle.step_port.specs.declared.answer.StepAnswer.TheVariants.{Found, Lost}
use Rattle.step_port.specs.declared.step.Effect.TheVariants.{Load}
use Rattle.step_port.specs.declared.step.Step.{Step}
use Rattle.step_port.specs.declared.step.Step.TheVariants.{SetHeader, StartThread, Split, Release, Ticket}
use Rattle.step_port.specs.Steps.{place_of, effect_of}
use Rattle.step_port.specs.Words.{CanAnswer, words_after}
use Rattle.thread_automaton.specs.declared.Bounds.{Bounds}
use Rattle.thread_automaton.specs.declared.Attempt.{Attempt}
use Rattle.thread_automaton.specs.declared.Attempt.TheVariants.{Fixed}
use Rattle.thread_automaton.specs.ThreadState.{ThreadState, is_open, is_own_section}
use Rattle.thread_automaton.specs.NextMove.{own_pin}
use Rattle.thread_automaton.specs.Changes.{Change, goes, forgotten, changed}
use Rattle.thread_automaton.specs.Checks.{behind_pin, to_pin}
use Rattle.thread_automaton.specs.Answers.{lost_on}
use Rattle.thread_automaton.specs.Told.{shown, told_of, after_answer}
use Rattle.automaton_rows.proofs.RowLemmas.{by_if}
use Rattle.core_runs.specs.Cores.{Core, threads_by, starting_by, objects_by, lines_by}
use Rattle.core_runs.specs.Reading.{place_in, waiting_in}
use Rattle.section_laws.proofs.level_saves.SaveLemmas.{HandsNone}
use Rattle.first_law.specs.InPlace.{IsSeenRun}
use Rattle.first_law.proofs.TurnLemmas.{Keeps, keeps_load, keeps_lost}
use Rattle.first_law.proofs.EntryLemmas.{NoReply, IsUsual, Stance, stance, HasEntry, Done, Unseen, unseen_entry, waits_still}

-- what is forgotten isn't seen
pub forgotten_stance : {S : Type 0} (z : ThreadState S) → stance (forgotten z) ≡ stance z
forgotten_stance z = by_if (λ x. stance x ≡ stance z) (is_open z) z (record z { log = []; saved = []; marks = [] }) (λ _. refl) (λ _. refl)

module _ {S : Type 0} (code : Code S) (th : ThreadState S) where
  -- an attempt after a pin hands nothing out
  pub pin_goes : (next : Next) → (shown (goes (behind_pin th next)) ≡ None) × ((l : S) → place_in code l (behind_pin th next) ≡ l)
  pin_goes (Want (Exit r)) = (refl, λ l. refl)
  pin_goes (Want (Wait r)) = (refl, λ l. refl)
  pin_goes (Want (Op.Notify r)) = (refl, λ l. refl)
  pin_goes (Want (Start r p)) = (refl, λ l. refl)
  pin_goes (Want (Init c)) = (refl, λ l. refl)
  pin_goes next = (refl, λ l. refl)

  pub to_pin_goes : (next : Next) → (shown (goes (to_pin th next)) ≡ None) × ((l : S) → place_in code l (to_pin th next) ≡ l)
  to_pin_goes next = by_if (λ g. (shown (goes g) ≡ None) × ((l : S) → place_in code l g ≡ l)) (is_open th) (Fixed (own_pin th)) (behind_pin th next) (λ _. (refl, λ l. refl)) (λ _. pin_goes next)

-- the steps that a lost exchange can be
abbrev pub IsExchange : Step → Type 0
IsExchange step = (v : ℕ) → CanAnswer (effect_of step) (Lost v)

module _ {S : Type 0} (code : Code S) (b : Bounds) (is_thread : ℕ → Bool) (first : S) (classes : ℕ) (c : ℕ → Core S) (acts : List Rattle.core_runs.specs.Acts.Act) (run : IsSeenRun code b is_thread first classes c acts) (k t : ℕ) (th : ThreadState S) where
  abbrev Act : Next → Step → StepAnswer → Change → Type 0
  Act next step a change = Done code b is_thread first classes c acts run k t th next step a change

  abbrev Seen : Step → StepAnswer → Type 0
  Seen step a = HasEntry code b is_thread first classes c acts run k t th step a

  abbrev Nothing : {next : Next} {step : Step} {a : StepAnswer} {change : Change} → Act next step a change → Type 0
  Nothing act = Unseen code b is_thread first classes c acts run k t th act

  pub nothing : {next : Next} {step : Step} {a : StepAnswer} {change : Change} (act : Act next step a change) → Nothing act → Seen step a
  nothing act so = unseen_entry code b is_thread first classes c acts run k t th act so

  pub still_waits : {next : Next} {step : Step} {a : StepAnswer} {change : Change} (act : Act next step a change) → Keeps (c k).words (words_after step (c k).words)
      → (changed code th change).depth ≡ th.depth → (u : ℕ)
      → waiting_in (set_at (c k).threads t (Some (after_answer code b th step a)) u) (words_after step (c k).words (Area.Wait u)) ≡ waiting_in ((c k).threads u) ((c k).words (Area.Wait u))
  still_waits act keeps depth u = waits_still code b is_thread first classes c acts run k t th act keeps depth u

  -- ---- a lost exchange

  lost_stance : (area : Area) → (stance (changed code th (lost_on th area)) ≡ record (stance th) { attempt = (changed code th (lost_on th area)).attempt })
      × ((l : S) → place_in code l (changed code th (lost_on th area)).attempt ≡ l)
  lost_stance (Area.Section s) =
      by_if (λ ch. (stance (changed code th ch) ≡ record (stance th) { attempt = (changed code th ch).attempt }) × ((l : S) → place_in code l (changed code th ch).attempt ≡ l))
      (is_own_section th s) _ _ (λ _. (refl, λ l. refl)) (λ _. (refl, λ l. refl))
  lost_stance area = (refl, λ l. refl)

  lost_usual : (g : Attempt) (step : Step) (v : ℕ) → CanAnswer (effect_of step) (Lost v) → IsUsual g step
  lost_usual g (Step.RestoreWord at old) v can = absurd can
  lost_usual g (Step.MarkUndone s w) v can = absurd can
  lost_usual g (Release r) v can = absurd can
  lost_usual g (Step.SetDepth r new) v can = absurd can
  lost_usual g step v can = tt

  lost_hands : (step : Step) (v : ℕ) → CanAnswer (effect_of step) (Lost v) → HandsNone step
  lost_hands (Split n r p) v can = absurd can
  lost_hands step v can = tt

  lost_objects : (step : Step) (v : ℕ) (next : Next) (l : S) (f : ℕ → Option Object) → CanAnswer (effect_of step) (Lost v) → objects_by code step l next f ≡ f
  lost_objects (SetHeader r w) v next l f can = absurd can
  lost_objects step v next l f can = refl

  lost_starting : (step : Step) (v : ℕ) (l : S) (f : ℕ → Option S) → starting_by code step (Lost v) l f ≡ f
  lost_starting (StartThread r n) v l f = refl
  lost_starting step v l f = refl

  lost_lines : (step : Step) (v : ℕ) (next : Next) (xs : List Line) → CanAnswer (effect_of step) (Lost v) → lines_by step next xs ≡ xs
  lost_lines Ticket v next xs can = absurd can
  lost_lines step v next xs can = refl

  lost_threads : (step : Step) (v : ℕ) (l : S) (f : ℕ → Option (ThreadState S)) → CanAnswer (effect_of step) (Lost v) → threads_by code step l f ≡ f
  lost_threads (Split n r p) v l f can = absurd can
  lost_threads step v l f can = refl

  pub lost_row : {next : Next} {step : Step} {v : ℕ} (act : Act next step (Lost v) (lost_on th (place_of step))) → CanAnswer (effect_of step) (Lost v) → Seen step (Lost v)
  lost_row {next} {step} {v} act can = nothing act (record {
    reports = tt;
    usual = lost_usual th.attempt step v can;
    hands = lost_hands step v can;
    words = keeps.objects;
    class_words = keeps.classes;
    waiting = still_waits act keeps (ap (λ (x : Stance S). x.depth) same.0);
    local = ap (λ (x : Stance S). x.local) same.0;
    over = ap (λ (x : Stance S). x.over) same.0;
    place = same.1;
    objects = λ f. lost_objects step v next th.local f can;
    starting = λ f. lost_starting step v th.local f;
    lines = λ xs. lost_lines step v next xs can;
    threads = λ f. lost_threads step v th.local f can;
  })
    where
      keeps : Keeps (c k).words (words_after step (c k).words)
      keeps = keeps_lost step (c k).words v act.answered

      same : (stance (changed code th (lost_on th (place_of step))) ≡ record (stance th) { attempt = (changed code th (lost_on th (place_of step))).attempt })
          × ((l : S) → place_in code l (changed code th (lost_on th (place_of step))).attempt ≡ l)
      same = lost_stance (place_of step)

  -- ---- a step whose words stay, and after which the attempt goes on

  pub goes_row : {next : Next} {step : Step} {a : StepAnswer} {change : Change} (act : Act next step a change) → NoReply (told_of next step a change (shown change)) → IsUsual th.attempt step → HandsNone step
      → Keeps (c k).words (words_after step (c k).words) → (stance (changed code th change) ≡ record (stance th) { attempt = (changed code th change).attempt })
      → ((l : S) → place_in code l (changed code th change).attempt ≡ l) → ((f : ℕ → Option Object) → objects_by code step th.local next f ≡ f)
      → ((f : ℕ → Option S) → starting_by code step a th.local f ≡ f) → ((xs : List Line) → lines_by step next xs ≡ xs)
      → ((f : ℕ → Option (ThreadState S)) → threads_by code step th.local f ≡ f) → Seen step a
  goes_row act reports usual hands keeps same place objects starting lines threads = nothing act (record {
    reports = reports;
    usual = usual;
    hands = hands;
    words = keeps.objects;
    class_words = keeps.classes;
    waiting = still_waits act keeps (ap (λ (x : Stance S). x.depth) same);
    local = ap (λ (x : Stance S). x.local) same;
    over = ap (λ (x : Stance S). x.over) same;
    place = place;
    objects = objects;
    starting = starting;
    lines = lines;
    threads = threads;
  })

  -- the same where what isn't needed any more may be forgotten
  pub forgets_row : {next : Next} {step : Step} {a : StepAnswer} {change : Change} (act : Act next step a change) (z : ThreadState S) → changed code th change ≡ forgotten z
      → NoReply (told_of next step a change (shown change)) → IsUsual th.attempt step → HandsNone step → Keeps (c k).words (words_after step (c k).words)
      → stance z ≡ record (stance th) { attempt = z.attempt } → ((l : S) → place_in code l z.attempt ≡ l) → ((f : ℕ → Option Object) → objects_by code step th.local next f ≡ f)
      → ((f : ℕ → Option S) → starting_by code step a th.local f ≡ f) → ((xs : List Line) → lines_by step next xs ≡ xs)
      → ((f : ℕ → Option (ThreadState S)) → threads_by code step th.local f ≡ f) → Seen step a
  forgets_row {change = change} act z is reports usual hands keeps same place objects starting lines threads =
      goes_row act reports usual hands keeps (then_is ∙ ap (λ g. record (stance th) { attempt = g }) (sym (ap (λ (x : Stance S). x.attempt) then_is)))
      (λ l. ap (place_in code l) (ap (λ (x : Stance S). x.attempt) then_is) ∙ place l) objects starting lines threads
    where
      then_is : stance (changed code th change) ≡ record (stance th) { attempt = z.attempt }
      then_is = ap stance is ∙ forgotten_stance z ∙ same

  -- after a load the own section is to be pinned first
  pub pin_row : {next : Next} {step : Step} {w : ℕ} (act : Act next step (Found w) (goes (to_pin th next))) → effect_of step ≡ Load
      → NoReply (told_of next step (Found w) (goes (to_pin th next)) None) → IsUsual th.attempt step → HandsNone step
      → ((f : ℕ → Option Object) → objects_by code step th.local next f ≡ f) → ((f : ℕ → Option S) → starting_by code step (Found w) th.local f ≡ f)
      → ((xs : List Line) → lines_by step next xs ≡ xs) → ((f : ℕ → Option (ThreadState S)) → threads_by code step th.local f ≡ f) → Seen step (Found w)
  pin_row {next} {step} {w} act load reports usual hands objects starting lines threads =
      let goes_so = to_pin_goes code th next in
      goes_row act (subst (λ x. NoReply (told_of next step (Found w) (goes (to_pin th next)) x)) (sym goes_so.0) reports) usual hands (keeps_load step (c k).words load) refl goes_so.1 objects starting lines threads
