-- Acts of undoing on monitors and sections, and the note that a thread is about to wait.
use Rattle.std.proofs.Common.{◌≡◌, inl, inr, ℕ, zero, suc, ◌+◌, ◌-◌, ◌<◌, ◌≤◌, not, nat_eq, Bool, true, Some, List, [], ◌∷◌, length, reverse, refl, sym, ◌∙◌, ap, subst, arith}
use Rattle.std.specs.Prelude.{Contains, slice_get, get_or, nat_lt, if◌then◌else◌}
use Rattle.op_core.specs.declared.Op.TheVariants.{Wait}
use Rattle.op_core.specs.declared.Next.{Next}
use Rattle.op_core.specs.declared.Next.TheVariants.{Want}
use Rattle.op_core.specs.ThreadCode.{Code}
use Rattle.op_core.specs.OrdinaryState.{set_at, Object, held, live, OrdinaryState}
use Rattle.op_core.specs.InPlaceList.{owned_by, give_back, go_back}
use Rattle.op_core.proofs.ExecutionLemmas.{states_ext}
use Rattle.op_core.proofs.PointwiseLemmas.{same_or_other, set_at-hit, set_at-other, set_at-same}
use Rattle.heap_words.specs.declared.areas.Area.{Area}
use Rattle.heap_words.specs.declared.words.WaitWord.TheVariants.{Waiting}
use Rattle.heap_words.specs.Words.{wait_word_of}
use Rattle.section_state.specs.SectionWord.{revoke_of, undone_of}
use Rattle.write_log.specs.declared.Noted.{Noted}
use Rattle.monitor_core.specs.Monitors.{monitor_depth}
use Rattle.step_port.specs.declared.answer.StepAnswer.{StepAnswer}
use Rattle.step_port.specs.declared.step.Step.{Step}
use Rattle.step_port.specs.declared.step.Step.TheVariants.{SetDepth, Release, MarkUndone, SetWait}
use Rattle.step_port.specs.Steps.{place_of}
use Rattle.step_port.specs.Words.{words_after}
use Rattle.ordinary_words.specs.Reading.{monitor_of}
use Rattle.thread_automaton.specs.declared.Bounds.{Bounds}
use Rattle.thread_automaton.specs.declared.Attempt.TheVariants.{Begin, Fixed, Undoing}
use Rattle.thread_automaton.specs.declared.Held.{Held}
use Rattle.thread_automaton.specs.ThreadState.{ThreadState, inside, mark_of, noted_since, held_as, from_level}
use Rattle.thread_automaton.specs.NextMove.{held_word, deepened_since, undo_step, undo_next}
use Rattle.thread_automaton.specs.Changes.{Change, goes, sets_back, gives_back, goes_back, without_level, stood_at, section_at, changed}
use Rattle.thread_automaton.specs.Told.{told, after_answer}
use Rattle.core_runs.specs.Cores.{Core}
use Rattle.core_runs.specs.Acts.{Act, did}
use Rattle.core_runs.specs.Entries.{event_told, monitor_shows, go_back_to, back_to, Shows}
use Rattle.core_runs.specs.Reading.{place_in, waiting_in, thread_in, ordinary}
use Rattle.section_laws.proofs.DeedLemmas.{above}
use Rattle.section_laws.proofs.run_threads.NumberLemmas.{threads_are_numbered}
use Rattle.section_laws.proofs.run_layout.ListLemmas.{In, in_filter, in_reverse}
use Rattle.section_laws.proofs.run_layout.LaidLemmas.{There, monitor_there}
use Rattle.section_laws.proofs.run_layout.NameLemmas.{Names, step_names}
use Rattle.section_laws.proofs.run_layout.PlaceLemmas.{put_object}
use Rattle.section_laws.proofs.level_marks.RunLemmas.{undone_levels_have_marks}
use Rattle.section_laws.proofs.section_levels.RunLemmas.{levels_are_counted}
use Rattle.section_laws.specs.LevelSaves.{StoodAt, SavesStand}
use Rattle.section_laws.proofs.level_saves.SaveLemmas.{HandsNone, stands_so, saves_at}
use Rattle.first_law.specs.Monitors.{FitsMonitorWord}
use Rattle.first_law.specs.InPlace.{IsSeenRun}
use Rattle.first_law.proofs.StateLemmas.{differs}
use Rattle.first_law.proofs.OwnerLemmas as owners
use Rattle.first_law.proofs.TurnLemmas.{up, known}
use Rattle.first_law.proofs.EntryLemmas.{Stance, stance, HasEntry, Done, did_at, after, leads, depth_is, unseen_entry, waits_still}
use Rattle.first_law.proofs.ReplyLemmas.{plain_parts}
use Rattle.first_law.proofs.UnseenLemmas.{forgotten_stance}
use Rattle.first_law.proofs.WordRows.{all_fit, layout}
use Rattle.first_law.proofs.MonitorLemmas.{fit_here, taken_so}
use Rattle.first_law.proofs.MonitorRows.{Monitored, same_waiting, monitor_parts}
use Rattle.first_law.proofs.WaitLemmas.{waiting_none}
use Rattle.first_law.proofs.EnterRows.{waits_hold}

-- ---- lists

has_it : {A : Type 0} (x : A) (xs : List A) → In x xs → Contains xs x
has_it x [] there = absurd there
has_it x (y ∷ xs) (inl is) = (0, omega arith, is)
has_it x (y ∷ xs) (inr later) = let rest = has_it x xs later in (suc rest.0, more rest.0 (length xs) rest.1, rest.2)
  where
    more : (k n : ℕ) → k < n → suc k < suc n
    more k n low = omega (arith, low)

abbrev IsDepth : Step → Type 0
IsDepth (SetDepth r new) = Unit {0}
IsDepth step = ⊥

-- where undoing sets a depth, it is one of those that the mark names
undo_depth : (s w : ℕ) (log : List Noted) (deepened taken : List Held) (r new : ℕ) → undo_step s w log deepened taken ≡ SetDepth r new
    → (h : Held) × In h deepened × (h.object ≡ r) × (held_word s h ≡ new)
undo_depth s w (x ∷ log) deepened taken r new is = absurd (subst IsDepth (sym is) tt)
undo_depth s w [] (h ∷ deepened) taken r new is = (h, inl refl, ap object_in is, ap word_in is)
  where
    object_in : Step → ℕ
    object_in (SetDepth q v) = q
    object_in step = 0

    word_in : Step → ℕ
    word_in (SetDepth q v) = v
    word_in step = 0
undo_depth s w [] [] (h ∷ taken) r new is = absurd (subst IsDepth (sym is) tt)
undo_depth s w [] [] [] r new is = absurd (subst IsDepth (sym is) tt)

-- a save that is there was made as a level opened
saved_at : {S : Type 0} (code : Code S) (c : ℕ → Core S) (t k n : ℕ) (saved : List S) (levels : List ℕ) (l : S) → SavesStand code c t k saved levels → n < length saved
    → (p : ℕ) × (slice_get levels n ≡ Some p) × (p < k) × StoodAt code c t p (get_or saved n l)
saved_at code c t k n [] levels l stand low = absurd (no n low)
  where
    no : (n : ℕ) → n < 0 → ⊥
    no n low = omega (arith, low)
saved_at code c t k n (m ∷ saved) [] l stand low = absurd stand
saved_at code c t k zero (m ∷ saved) (p ∷ levels) l stand low = (p, refl, stand.0, stand.1)
saved_at code c t k (suc n) (m ∷ saved) (p ∷ levels) l stand low = saved_at code c t k n saved levels l stand.2 (less n (length saved) low)
  where
    less : (m n : ℕ) → suc m < suc n → m < n
    less m n low = omega (arith, low)

owned : (t d : ℕ) → 0 < d → held t d ≡ owned_by t d
owned t zero some = absurd (no some)
  where
    no : 0 < 0 → ⊥
    no some = omega (arith, some)
owned t (suc d) some = refl

module _ {S : Type 0} (code : Code S) (b : Bounds) (is_thread : ℕ → Bool) (first : S) (classes : ℕ) (c : ℕ → Core S) (acts : List Act) (run : IsSeenRun code b is_thread first classes c acts) (k t : ℕ)
    (th : ThreadState S) where
  abbrev Does : Next → Step → StepAnswer → Change → Type 0
  Does next step a change = Done code b is_thread first classes c acts run k t th next step a change

  abbrev Seen : Step → StepAnswer → Type 0
  Seen step a = HasEntry code b is_thread first classes c acts run k t th step a

  abbrev state : OrdinaryState S
  state = ordinary code is_thread (c k)

  module _ {next : Next} {step : Step} {a : StepAnswer} {change : Change} (act : Does next step a change) where
    low : k ≤ length acts
    low = up code b is_thread first classes c acts run k t step a act.here (did_at code b is_thread first classes c acts run k t th act)

    names : Names th next th.attempt step
    names = subst (λ n. Names th n th.attempt step) act.wants
        (step_names code b th step ((known code b is_thread first classes c acts run k t step a act.here (did_at code b is_thread first classes c acts run k t th act)).fit t th act.stands).attempt act.move)

  -- a thread that goes on undoing stands where it did
  still_there : {next : Next} {step : Step} {a : StepAnswer} {change : Change} (act : Does next step a change) → HandsNone step → set_at state.threads t (live th.local) ≡ state.threads
  still_there {step = step} act hands =
      set_at-same state.threads t (live th.local) (ap (thread_in code ((c k).starting t)) act.stands ∙ stands_so code b th ((c k).starting t) step act.move hands)

  -- ---- a monitor gets its depth back

  back_entry : {next : Next} {step : Step} {r : ℕ} {change : Change} (count : ℕ) (act : Does next step StepAnswer.Done change) → HandsNone step → (o : Object) → (c k).objects r ≡ Some o
      → place_of step ≡ Area.Object (r + 1) → Monitored code b is_thread first classes c acts run k t th act th.local → (changed code th change).depth ≡ th.depth
      → monitor_of (words_after step (c k).words) (words_after step (c k).words (Area.Object (r + 1))) ≡ owned_by t count
      → Shows code b (c k) (did t step StepAnswer.Done) (give_back t r count) → Seen step StepAnswer.Done
  back_entry {step = step} {r = r} count act hands o there at_monitor so depth word shows = (
    give_back t r count,
    shows,
    leads code b is_thread first classes c acts run k t th act
        ∙ states_ext S (ordinary code is_thread (after code b is_thread first classes c acts run k t th act)) (record state { monitors = set_at state.monitors r (owned_by t count); threads = set_at state.threads t (live th.local) })
        (monitor_parts code b is_thread first classes c acts run k t th act r o there at_monitor th.local (owned_by t count) state.waiting so word
        (same_waiting code b is_thread first classes c acts run k t th act r o there at_monitor depth))
        ∙ ap (λ f. record state { monitors = set_at state.monitors r (owned_by t count); threads = f }) (still_there act hands),
  )

  pub give_row : {next : Next} {w r : ℕ} → th.attempt ≡ Undoing w → Does next (Release r) StepAnswer.Done (gives_back r) → Seen (Release r) StepAnswer.Done
  give_row {next} {w} {r} at act =
      let there = monitor_object (names act) in
      back_entry 0 act tt there.0 there.1 refl (record {
        place = ap (place_in code th.local) at;
        over = refl;
        objects = λ f. refl;
        starting = λ f. refl;
        lines = λ xs. refl;
        threads = λ f. refl;
      }) refl (ap (monitor_of (words_after (Release r) (c k).words)) (put_object (c k).words (r + 1) 0))
      (th, act.stands, sym (ap (λ g. monitor_shows t g r 0 (event_told t (code.next th.local) (told code b th (Release r) StepAnswer.Done))) at))
    where
      monitor_object : Names th next th.attempt (Release r) → There (c k).objects r
      monitor_object (inl named) = monitor_there is_thread (c k).objects next r named (all_fit code b is_thread first classes c acts run k t th act)
      monitor_object (inr holds) = (layout code b is_thread first classes c acts run k t th act).0.held t r th act.stands holds

  pub depth_row : {next : Next} {w r new : ℕ} → th.attempt ≡ Undoing w → nat_lt 0 th.section ≡ true → undo_next th w (revoke_of w) ≡ SetDepth r new
      → Does next (SetDepth r new) StepAnswer.Done (sets_back r (monitor_depth new)) → Seen (SetDepth r new) StepAnswer.Done
  depth_row {next} {w} {r} {new} at some does act =
      let there = monitor_object (names act) in
      back_entry (monitor_depth new) act tt there.0 there.1 refl (record {
        place = ap (place_in code th.local) at;
        over = refl;
        objects = λ f. refl;
        starting = λ f. refl;
        lines = λ xs. refl;
        threads = λ f. refl;
      }) refl word
      (th, act.stands, sym (ap (λ g. monitor_shows t g r (monitor_depth new) (event_told t (code.next th.local) (told code b th (SetDepth r new) StepAnswer.Done))) at))
    where
      monitor_object : Names th next th.attempt (SetDepth r new) → There (c k).objects r
      monitor_object (inl named) = monitor_there is_thread (c k).objects next r named (all_fit code b is_thread first classes c acts run k t th act)
      monitor_object (inr marked) = (layout code b is_thread first classes c acts run k t th act).0.marked t r th act.stands marked

      named : (h : Held) × In h (deepened_since (mark_of th (revoke_of w)) th.held) × (h.object ≡ r) × (held_word th.section h ≡ new)
      named = undo_depth th.section w (noted_since (mark_of th (revoke_of w)).noted th.log) (deepened_since (mark_of th (revoke_of w)) th.held) (from_level (revoke_of w) th.held) r new does

      fits : FitsMonitorWord named.0
      fits = (fit_here code b is_thread first classes c acts run k t th act).marked t w th named.0 act.stands at
          (has_it named.0 (mark_of th (revoke_of w)).held (in_reverse named.0 (mark_of th (revoke_of w)).held
          (in_filter (λ h. not (nat_eq (held_as h.object th.held).depth h.depth)) named.0 (reverse (mark_of th (revoke_of w)).held) named.1)))

      word : monitor_of (words_after (SetDepth r new) (c k).words) (words_after (SetDepth r new) (c k).words (Area.Object (r + 1))) ≡ owned_by t (monitor_depth new)
      word = ap (monitor_of (words_after (SetDepth r new) (c k).words)) (put_object (c k).words (r + 1) new ∙ sym named.3)
          ∙ taken_so code b is_thread first classes c acts run k t th act (words_after (SetDepth r new) (c k).words) named.0 (λ s. refl) fits (above th.section some)
          ∙ owned t named.0.depth fits.0
          ∙ ap (owned_by t) (sym (ap monitor_depth (sym named.3)
          ∙ owners.depth_is th.section named.0.depth named.0.level ((fit_here code b is_thread first classes c acts run k t th act).numbers t th act.stands) fits.1 fits.2))

  -- ---- a thread goes back to where a level opened

  module _ {next : Next} {w : ℕ} (at : th.attempt ≡ Undoing w) (act : Does next (MarkUndone th.section (undone_of w)) StepAnswer.Done (goes_back (revoke_of w))) where
    abbrev n : ℕ
    n = revoke_of w

    abbrev marks_undone : Step
    marks_undone = MarkUndone th.section (undone_of w)

    found : (p : ℕ) × (slice_get ((c k).levels t) (inside th n) ≡ Some p) × (p < k) × StoodAt code c t p (get_or th.saved (inside th n) th.local)
    found = saved_at code c t k (inside th n) th.saved ((c k).levels t) th.local (saves_at code b first classes c acts run.levelled k (low act) t th act.stands)
        (subst (λ m. inside th n < m) (sym ((known code b is_thread first classes c acts run k t marks_undone StepAnswer.Done act.here (did_at code b is_thread first classes c acts run k t th act)).fit t th act.stands).kept.saves)
        (undone_levels_have_marks code b first classes c acts run.levelled.ordered k t w th (low act) act.stands at))

    place_is : slice_get ((c k).levels t) (length ((c k).levels t) - n) ≡ Some found.0
    place_is = ap (λ m. slice_get ((c k).levels t) (m - n)) (levels_are_counted code b first classes c acts run.levelled k t th (low act) act.stands) ∙ found.1

    abbrev l : S
    l = get_or th.saved (inside th n) th.local

    gone : stance (changed code th (goes_back n)) ≡ record { local = l; over = th.over; depth = th.depth; attempt = Begin }
    gone = forgotten_stance (without_level (record (stood_at th n) { section = section_at (n - 1) th.section; attempt = Begin }) n)

    pub back_row : Seen (MarkUndone th.section (undone_of w)) StepAnswer.Done
    back_row = (
      go_back t found.0,
      (th, act.stands, sym (ap (λ g. back_to t g ((c k).levels t)) at ∙ ap (go_back_to t) place_is)),
      record {
        past = l;
        now = th.local;
        earlier = (let less = found.2 in omega (arith, less));
        was = found.3;
        stands = ap (thread_in code ((c k).starting t)) act.stands ∙ stands_so code b th ((c k).starting t) marks_undone act.move tt;
        leads = leads code b is_thread first classes c acts run k t th act
            ∙ states_ext S (ordinary code is_thread (after code b is_thread first classes c acts run k t th act)) (record state { threads = set_at state.threads t (live l) })
            (plain_parts code b is_thread first classes c acts run k t th act l (record {
              words = λ p. refl;
              class_words = λ d. refl;
              waiting = waits_still code b is_thread first classes c acts run k t th act (record { objects = λ p. refl; waits = λ u. refl; classes = λ d. refl }) (ap (λ (x : Stance S). x.depth) gone);
              place = ap (λ (x : Stance S). place_in code x.local x.attempt) gone;
              over = ap (λ (x : Stance S). x.over) gone;
              objects = λ f. refl;
              starting = λ f. refl;
              lines = λ xs. refl;
              threads = λ f. refl;
            }));
      },
    )

  -- ---- a thread records that it is about to wait

  module _ {r : ℕ} (act : Does (Want (Wait r)) (SetWait th.number (wait_word_of (Waiting r))) StepAnswer.Done (goes (Fixed (Release r)))) where
    abbrev notes : Step
    notes = SetWait th.number (wait_word_of (Waiting r))

    abbrev y : ThreadState S
    y = after_answer code b th notes StepAnswer.Done

    own_number : th.number ≡ t
    own_number = (threads_are_numbered code b c acts run.levelled.ordered.run run.levelled.numbered k (low act)).own t th act.stands

    noted_waiting : (u : ℕ) → waiting_in (set_at (c k).threads t (Some y) u) (words_after notes (c k).words (Area.Wait u)) ≡ state.waiting u
    noted_waiting u = elim (same_or_other u t) [
      | inl own ↦ ap (λ m. waiting_in (set_at (c k).threads t (Some y) m) (words_after notes (c k).words (Area.Wait u))) own
          ∙ ap (λ x. waiting_in x (words_after notes (c k).words (Area.Wait u))) (set_at-hit (c k).threads t (Some y))
          ∙ waiting_none y (words_after notes (c k).words (Area.Wait u)) (depth_is code b is_thread first classes c acts run k t th act ∙ waits_hold code b is_thread first classes c acts run k t th act)
          ∙ sym (ap (λ m. waiting_in ((c k).threads m) ((c k).words (Area.Wait u))) own ∙ ap (λ x. waiting_in x ((c k).words (Area.Wait u))) act.stands
          ∙ waiting_none th ((c k).words (Area.Wait u)) (waits_hold code b is_thread first classes c acts run k t th act))
      | inr other ↦ ap (λ x. waiting_in x (words_after notes (c k).words (Area.Wait u))) (set_at-other (c k).threads t (Some y) u other)
          ∙ ap (waiting_in ((c k).threads u)) (ap (λ x. if x then wait_word_of (Waiting r) else (c k).words (Area.Wait u)) (differs u th.number (λ same. other (same ∙ own_number))))
    ]

    pub noted_row : Seen (SetWait th.number (wait_word_of (Waiting r))) StepAnswer.Done
    noted_row = unseen_entry code b is_thread first classes c acts run k t th act (record {
      reports = tt;
      usual = tt;
      hands = tt;
      words = λ p. refl;
      class_words = λ d. refl;
      waiting = noted_waiting;
      local = refl;
      over = refl;
      place = λ l. refl;
      objects = λ f. refl;
      starting = λ f. refl;
      lines = λ xs. refl;
      threads = λ f. refl;
    })
