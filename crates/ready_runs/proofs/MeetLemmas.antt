-- The sections that threads meet have numbers within the limit.
use Rattle.std.proofs.Common.{◌≡◌, ◌≢◌, ℕ, suc, ◌+◌, ◌-◌, ◌<◌, ◌≤◌, Bool, false, None, Some, List, [], ◌∷◌, length, refl, sym, ◌∙◌, ap, subst, arith}
use Rattle.std.specs.Prelude.{slice_get, nat_eq}
use Rattle.std.proofs.lemmas.Grind.{common_steps}
use Rattle.std.proofs.lemmas.Bool.Decides.{nat_tests}
use Rattle.std.proofs.lemmas.Option.{slice_get_within}
use Rattle.op_core.specs.declared.Op.{Op}
use Rattle.op_core.specs.declared.Op.TheVariants.{Read, Write, Enter, Exit, Wait, Rewake, Start, Init}
use Rattle.op_core.specs.declared.Next.{Next}
use Rattle.op_core.specs.declared.Next.TheVariants.{Want}
use Rattle.op_core.specs.declared.Reply.{Reply}
use Rattle.op_core.specs.Replies.{IsEntry}
use Rattle.op_core.specs.ThreadCode.{Code}
use Rattle.op_core.specs.OrdinaryState.{set_at}
use Rattle.heap_words.specs.declared.areas.Area.{Area}
use Rattle.heap_words.specs.declared.areas.Area.TheVariants.{Section}
use Rattle.heap_words.specs.Words.{tag_of, tag_section}
use Rattle.section_state.specs.SectionWord.{pinned_of, revoke_of}
use Rattle.monitor_core.specs.Monitors.{monitor_word, monitor_section}
use Rattle.step_port.specs.declared.answer.StepAnswer.{StepAnswer}
use Rattle.step_port.specs.declared.answer.StepAnswer.TheVariants.{Found, Lost}
use Rattle.step_port.specs.declared.step.Step.{Step}
use Rattle.step_port.specs.declared.step.Step.TheVariants.{LoadWord, OpenSection, Pin, Revoke, LoadMonitor, Release, Split, OpenLevel}
use Rattle.step_port.specs.Steps.{place_of, effect_of}
use Rattle.step_port.specs.Words.{CanAnswer, answer_of}
use Rattle.thread_automaton.specs.declared.Bounds.{Bounds}
use Rattle.thread_automaton.specs.declared.Move.TheVariants.{Make}
use Rattle.thread_automaton.specs.declared.Attempt.{Attempt}
use Rattle.thread_automaton.specs.declared.Attempt.TheVariants.{Begin, Look, Checked, Fixed, Meets}
use Rattle.thread_automaton.specs.ThreadState.{ThreadState, first_state, is_open, is_own_section}
use Rattle.thread_automaton.specs.NextMove.{own_pin, next_move, first_step}
use Rattle.thread_automaton.specs.Changes.{Change, goes, answered, forgotten, with_level, with_levels, without_level, stood_at, section_at, changed}
use Rattle.thread_automaton.specs.Checks.{behind_pin, to_pin}
use Rattle.thread_automaton.specs.Monitors.{monitor_wanted, take_for}
use Rattle.thread_automaton.specs.Answers.{lost_on, change_of}
use Rattle.thread_automaton.specs.Told.{Told, advanced, born, told, counted_for, after_answer, after_quiet}
use Rattle.automaton_rows.specs.Fits.{FixedFits, AttemptFits}
use Rattle.automaton_rows.specs.Rows.{Row, IsAccess, word_wanted, is_lost, own_stands, pins, restores, sets_monitor_back, gives_monitor_back, is_undone, is_unsafe, tag_live, held_by_other, holder_lower, level_opened, levels_closed, exits_one, section_left, wait_begins, notify_begins, start_begins, is_unready}
use Rattle.automaton_rows.proofs.RowLemmas.{answers_are_rows, words_can_answer, by_if}
use Rattle.core_runs.specs.Cores.{Core, threads_by}
use Rattle.core_runs.specs.Acts.{Act, quiet, did, beside, DidAt, ActAt}
use Rattle.section_laws.proofs.ClaimLemmas.{found_is}
use Rattle.section_laws.proofs.FactLemmas.{each}
use Rattle.section_laws.proofs.RunLemmas.{act_at, along, Known, facts_at}
use Rattle.section_laws.specs.Layout.{IsLaidRun, IsWordPlace}
use Rattle.section_laws.proofs.run_layout.LaidLemmas.{NextFits, is_there, placed}
use Rattle.first_law.specs.Held.{OpensWithin}
use Rattle.first_law.specs.RunMonitors.{IsMonitorRun, IsObject}
use Rattle.first_law.proofs.run_monitors.RunLemmas.{threads_hold, monitors_are_held}
use Rattle.written_words.specs.Writers.{writers}
use Rattle.written_words.specs.Tags.{IsWrittenRun, TagSays}
use Rattle.written_words.proofs.RunLemmas.{tags_say_writers}
use Rattle.written_words.specs.Noted.{heap_of}
use Rattle.ready_runs.proofs.MoveLemmas.{of_step}

-- ---- numbers

-- the section that a thread has met, and looks at, pins or revokes; 0 where it does none of these
abbrev pub met_by : Attempt → ℕ
met_by (Meets s level) = s
met_by (Fixed (Pin s w level)) = s
met_by (Fixed (Revoke s w level)) = s
met_by attempt = 0

holder_low : (s depth level : ℕ) → monitor_section (monitor_word s depth level) ≤ s
unfolding monitor_section monitor_word
holder_low s depth level = omega arith

no_tag_low : (tag n : ℕ) → tag ≡ 0 → tag_section tag ≤ n
unfolding tag_section
no_tag_low tag n none = omega (arith, none)

-- a section that is opened, or of which a level is opened, has a number within the limit
abbrev OpensLow : ℕ → Step → Type 0
OpensLow limit (OpenSection s w) = s ≤ limit
OpensLow limit (OpenLevel s w) = s ≤ limit
OpensLow limit step = Unit {0}

-- ---- rows

-- where the section comes from that a thread has met after a step: none; its own; the same as before; the writer of a word that it
-- has loaded; or the holder of a monitor that it has loaded
data Meeting {S : Type 0} (th : ThreadState S) (next : Next) (step : Step) (a : StepAnswer) (after : ℕ) : Type 0 where
  none : after ≡ 0 → Meeting th next step a after
  own : after ≡ th.section → Meeting th next step a after
  same : after ≡ met_by th.attempt → Meeting th next step a after
  writer : (w : ℕ) → IsAccess next → step ≡ LoadWord (word_wanted next) → a ≡ Found w → after ≡ tag_section (tag_of w) → Meeting th next step a after
  holder : (m : ℕ) → IsEntry next → step ≡ LoadMonitor (monitor_wanted next) → a ≡ Found m → nat_eq m 0 ≡ false → after ≡ monitor_section m → Meeting th next step a after

module _ {S : Type 0} (code : Code S) (b : Bounds) (th : ThreadState S) where
  abbrev Comes : Next → Step → StepAnswer → ThreadState S → Type 0
  Comes next step a y = Meeting th next step a (met_by y.attempt)

  forgets : {next : Next} {step : Step} {a : StepAnswer} (y : ThreadState S) → Comes next step a y → Comes next step a (forgotten y)
  forgets {next} {step} {a} y is = by_if (λ z. Comes next step a z) (is_open y) y (record y { log = []; saved = []; marks = [] }) (λ yes. is) (λ no. is)

  after_pin : (next : Next) → met_by (behind_pin th next) ≡ 0
  after_pin (Want (Exit r)) = refl
  after_pin (Want (Wait r)) = refl
  after_pin (Want (Op.Notify r)) = refl
  after_pin (Want (Start r p)) = refl
  after_pin (Want (Init c)) = refl
  after_pin next = refl

  to_own_pin : {step : Step} {a : StepAnswer} (next : Next) → Meeting th next step a (met_by (to_pin th next))
  to_own_pin {step} {a} next = by_if (λ g. Meeting th next step a (met_by g)) (is_open th) (Fixed (own_pin th)) (behind_pin th next) (λ yes. own refl) (λ no. none (after_pin next))

  meets_row : {next : Next} {step : Step} {a : StepAnswer} {change : Change} → Row code b th next step a change → Comes next step a (changed code th change)
  meets_row {next} (is_lost {step = step} {v = v}) = by_area (place_of step)
    where
      by_area : (area : Area) → Comes next step (Lost v) (changed code th (lost_on th area))
      by_area (Section s) = by_if (λ change. Comes next step (Lost v) (changed code th change)) (is_own_section th s) (goes Look) (goes Begin) (λ yes. none refl) (λ no. none refl)
      by_area area = none refl
  meets_row (own_stands {w = w} at looks live) = forgets (record th { pinned = pinned_of w; attempt = Checked }) (none refl)
  meets_row (pins {next = next} unpinned lasts) = forgets (record th { pinned = th.levels; attempt = behind_pin th next }) (none (after_pin next))
  meets_row (restores at undo does) = same refl
  meets_row (sets_monitor_back at undo does) = same refl
  meets_row (gives_monitor_back at undo does) = same refl
  meets_row (is_undone {w = w} at undo does) = forgets
      (without_level (record (stood_at th (revoke_of w)) { section = section_at (revoke_of w - 1) th.section; attempt = Begin }) (revoke_of w)) (none refl)
  meets_row (is_unsafe {w = w} accesses unsafe) = writer w accesses refl refl refl
  meets_row (tag_live at accesses unsafe live shallow) = same (sym (ap met_by at))
  meets_row (held_by_other {m = m} enters taken other) = holder m enters refl refl taken refl
  meets_row (holder_lower at enters other revokes) = same (sym (ap met_by at))
  meets_row (level_opened {next = next} enters some needs room) = forgets (with_level (record th { attempt = Fixed (take_for th next th.section (suc th.levels)) })) (none refl)
  meets_row (levels_closed {r = r} {depth = depth} closes) = forgets (with_levels (record th { attempt = Fixed (Release r) }) depth) (none refl)
  meets_row (section_left at last) = forgets (with_levels (record (answered code th Reply.Done) { held = []; section = 0 }) 0) (none refl)
  meets_row (exits_one {r = r} owns once others outer) = to_own_pin (Want (Exit r))
  meets_row (wait_begins {r = r} owns) = to_own_pin (Want (Wait r))
  meets_row (notify_begins {r = r} owns) = to_own_pin (Want (Op.Notify r))
  meets_row (start_begins {r = r} {p = p} unstarted) = to_own_pin (Want (Start r p))
  meets_row (is_unready {c = c} unready) = to_own_pin (Want (Init c))
  meets_row row = none refl

  counted_meets : {next : Next} {step : Step} {a : StepAnswer} (told : Told) (y : ThreadState S) → Comes next step a y → Comes next step a (counted_for told y)
  counted_meets (advanced None) y is = is
  counted_meets (advanced (Some reply)) y is = is
  counted_meets born y is = is
  counted_meets other y is = is

  meets_step : (step : Step) (a : StepAnswer) → AttemptFits th (code.next th.local) th.attempt → next_move code b th ≡ Make step → CanAnswer (effect_of step) a
      → Comes (code.next th.local) step a (after_answer code b th step a)
  meets_step step a fits makes can = counted_meets (told code b th step a) (changed code th (change_of code b th (code.next th.local) step a)) (meets_row (answers_are_rows code b th step a fits makes can))

  -- ---- sections that are opened

  fixed_opens : (limit : ℕ) (next : Next) (step : Step) → th.section ≤ limit → OpensWithin limit (Fixed step) → FixedFits th next step → OpensLow limit step
  fixed_opens limit next (OpenSection s w) low opens fits = opens
  fixed_opens limit (Want (Enter r)) (OpenLevel s w) low opens fits = subst (λ n. n ≤ limit) (sym fits.1) low
  fixed_opens limit (Want (Rewake r)) (OpenLevel s w) low opens fits = subst (λ n. n ≤ limit) (sym fits.1) low
  fixed_opens limit next (OpenLevel s w) low opens fits = absurd fits
  fixed_opens limit next step low opens fits = tt

  opens_first : (limit : ℕ) (op : Op) → OpensLow limit (first_step code th op)
  opens_first limit (Op.Print x) = by_if (OpensLow limit) (is_open th) (own_pin th) _ (λ yes. tt) (λ no. tt)
  opens_first limit (Op.InitDone c ok) = by_if (OpensLow limit) (is_open th) (own_pin th) _ (λ yes. tt) (λ no. tt)
  opens_first limit (Op.End x) = by_if (OpensLow limit) (is_open th) (own_pin th) _ (λ yes. tt) (λ no. tt)
  opens_first limit op = tt

  opens_step : (limit : ℕ) (step : Step) → th.section ≤ limit → OpensWithin limit th.attempt → AttemptFits th (code.next th.local) th.attempt → next_move code b th ≡ Make step → OpensLow limit step
  opens_step limit step low opens fits makes = of_step code b th (OpensLow limit) tt tt
      (λ st at. fixed_opens limit (code.next th.local) st low (subst (OpensWithin limit) at opens) (subst (AttemptFits th (code.next th.local)) at fits))
      (λ s level at. tt) (λ at old. tt) (λ r new. tt) (λ r. tt) (λ w. tt) (λ op wants. opens_first limit op) step makes

-- ---- along a run

module _ {S : Type 0} (code : Code S) (b : Bounds) (is_thread : ℕ → Bool) (first : S) (classes : ℕ) (c : ℕ → Core S) (acts : List Act) (run : IsWrittenRun code b is_thread first classes c acts) where
  abbrev limit : ℕ
  limit = b.limits.sections

  monitors : IsMonitorRun code b first classes c acts
  monitors = run.tagged.monitors

  laid : IsLaidRun code b is_thread c acts
  laid = run.tagged.laid

  known : (k : ℕ) → k ≤ length acts → Known code (c k)
  known k within = facts_at code b c acts laid.run k within

  pub own_low : (k t : ℕ) (th : ThreadState S) → k ≤ length acts → (c k).threads t ≡ Some th → th.section ≤ limit
  own_low k t th within stands = (threads_hold code b first classes c acts monitors k t th within stands).within

  pub opens_low : (k t : ℕ) (th : ThreadState S) → k ≤ length acts → (c k).threads t ≡ Some th → OpensWithin limit th.attempt
  opens_low k t th within stands = (threads_hold code b first classes c acts monitors k t th within stands).opens

  opened_low : (k t : ℕ) (step : Step) (a : StepAnswer) → slice_get acts k ≡ Some (did t step a) → OpensLow limit step
  opened_low k t step a here =
      let at = act_at code b c acts k (did t step a) laid.run.leads here in
      let low = slice_get_within acts k (did t step a) here in
      let within : k ≤ length acts = omega (arith, low) in
      opens_step code b at.from limit step (own_low k t at.from within at.stands) (opens_low k t at.from within at.stands) ((known k within).fit t at.from at.stands).attempt at.move

  -- the section that a tag says was opened
  tag_low : (writer : List ℕ) (tag : ℕ) → TagSays c acts writer tag → tag_section tag ≤ limit
  tag_low [] tag says = no_tag_low tag limit says
  tag_low (p ∷ []) tag (t, levels, deep) = let opens = levels.0 in opened_low p t (OpenSection (tag_section tag) opens.0) StepAnswer.Done opens.1
  tag_low (p ∷ q ∷ outer) tag (t, levels, deep) = let opens = levels.0 in opened_low p t (OpenLevel (tag_section tag) opens.0) StepAnswer.Done opens.1

  access_place : (k : ℕ) (next : Next) → IsAccess next → NextFits is_thread (c k).objects next → IsWordPlace is_thread (c k).objects (word_wanted next)
  access_place k (Want (Read r i)) accesses all = let fits = all (Read r i) refl in placed is_thread (c k).objects r i (word_wanted (Want (Read r i))) fits.1 fits.2 refl
  access_place k (Want (Write r i v)) accesses all = let fits = all (Write r i v) refl in placed is_thread (c k).objects r i (word_wanted (Want (Write r i v))) fits.1 fits.2 refl
  access_place k next accesses all = absurd accesses

  entry_object : (k : ℕ) (next : Next) → IsEntry next → NextFits is_thread (c k).objects next → IsObject (c k) (monitor_wanted next)
  entry_object k (Want (Enter r)) enters all = is_there ((c k).objects r) (all (Enter r) refl).1
  entry_object k (Want (Rewake r)) enters all = is_there ((c k).objects r) (all (Rewake r) refl).1
  entry_object k next enters all = absurd enters

  not_zero : (m : ℕ) → nat_eq m 0 ≡ false → m ≢ 0
  not_zero m is zero_is = grind (arith, common_steps, nat_tests)

  -- the holder of a monitor is a section that is open
  word_holder_low : (k r : ℕ) → k ≤ length acts → IsObject (c k) r → nat_eq ((c k).words (Area.Object (r + 1))) 0 ≡ false → monitor_section ((c k).words (Area.Object (r + 1))) ≤ limit
  word_holder_low k r within object taken =
      let held = monitors_are_held code b first classes c acts monitors k within in
      let holds = held.taken r object (not_zero ((c k).words (Area.Object (r + 1))) taken) in
      let says = held.says holds.0 r holds.1 holds.2 holds.3 in
      let low = own_low k holds.0 holds.1 within holds.2 in
      let part = subst (λ m. monitor_section m ≤ holds.1.section) (sym says) (holder_low holds.1.section _ _) in
      omega (arith, part, low)

  abbrev MetAt : ℕ → Type 0
  MetAt k = (t : ℕ) (th : ThreadState S) → (c k).threads t ≡ Some th → met_by th.attempt ≤ limit

  zero_low : (n : ℕ) → n ≡ 0 → n ≤ limit
  zero_low n is = omega (arith, is)

  module _ (k t : ℕ) (step : Step) (a : StepAnswer) (within : k < length acts) (at : DidAt code b c k t step a) (before : MetAt k) where
    up : k ≤ length acts
    up = omega (arith, within)

    all : NextFits is_thread (c k).objects (code.next at.from.local)
    all op wants = laid.wants k t at.from op within at.stands wants

    came : Meeting at.from (code.next at.from.local) step a (met_by (after_answer code b at.from step a).attempt)
    came = meets_step code b at.from step a ((known k up).fit t at.from at.stands).attempt at.move (subst (CanAnswer (effect_of step)) (sym at.answered) (words_can_answer (c k).words step))

    met_low : (after : ℕ) → Meeting at.from (code.next at.from.local) step a after → after ≤ limit
    met_low after (none is) = zero_low after is
    met_low after (own is) = subst (λ n. n ≤ limit) (sym is) (own_low k t at.from up at.stands)
    met_low after (same is) = subst (λ n. n ≤ limit) (sym is) (before t at.from at.stands)
    met_low after (writer w accesses loads found is) =
        let place = word_wanted (code.next at.from.local) in
        let answer : Found w ≡ Found ((c k).words (Area.Object place)) = sym found ∙ at.answered ∙ ap (answer_of (c k).words) loads in
        let word = found_is w ((c k).words (Area.Object place)) answer in
        let low = tag_low ((writers c acts k).word place) (tag_of (heap_of (c k).words place))
        (tags_say_writers code b is_thread first classes c acts run k place up (access_place k (code.next at.from.local) accesses all)) in
        subst (λ n. n ≤ limit) (sym (is ∙ ap (λ n. tag_section (tag_of n)) word)) low
    met_low after (holder m enters loads found taken is) =
        let r = monitor_wanted (code.next at.from.local) in
        let answer : Found m ≡ Found ((c k).words (Area.Object (r + 1))) = sym found ∙ at.answered ∙ ap (answer_of (c k).words) loads in
        let word = found_is m ((c k).words (Area.Object (r + 1))) answer in
        let low = word_holder_low k r up (entry_object k (code.next at.from.local) enters all) (subst (λ n. nat_eq n 0 ≡ false) word taken) in
        subst (λ n. n ≤ limit) (sym (is ∙ ap monitor_section word)) low

    there_met : (u : ℕ) (uh : ThreadState S) → set_at (c k).threads t (Some (after_answer code b at.from step a)) u ≡ Some uh → met_by uh.attempt ≤ limit
    there_met u = each (λ z. met_by z.attempt ≤ limit) (c k).threads t (after_answer code b at.from step a) u (λ mine. met_low _ came) (λ xh differs there. before u xh there)

    handed : (made : Step) (u : ℕ) (uh : ThreadState S) → threads_by code made at.from.local (set_at (c k).threads t (Some (after_answer code b at.from step a))) u ≡ Some uh → met_by uh.attempt ≤ limit
    handed (Split n r p) u = each (λ z. met_by z.attempt ≤ limit) (set_at (c k).threads t (Some (after_answer code b at.from step a))) n (first_state n p (code.child at.from.local r)) u
        (λ mine. zero_low 0 refl) (λ xh differs there. there_met u xh there)
    handed made u = there_met u

    did_met : MetAt (suc k)
    did_met u uh there = handed step u uh (ap (λ (core : Core S). core.threads u) (sym at.leads) ∙ there)

  act_met : (k : ℕ) (x : Act) → slice_get acts k ≡ Some x → ActAt code b c k x → MetAt k → MetAt (suc k)
  act_met k (quiet t) here at before u uh there = each (λ z. met_by z.attempt ≤ limit) (c k).threads t (after_quiet at.from at.local) u (λ mine. zero_low 0 refl) (λ xh differs there. before u xh there) uh
      (ap (λ (core : Core S). core.threads u) (sym at.leads) ∙ there)
  act_met k (did t step a) here at before u uh there = did_met k t step a (slice_get_within acts k (did t step a) here) at before u uh there
  act_met k (beside t step a) here at before u uh there = before u uh (ap (λ (core : Core S). core.threads u) (sym at.leads) ∙ there)

  first_met : MetAt 0
  first_met t th there = let begins = laid.run.begins.threads t th there in zero_low (met_by th.attempt) (ap (λ (z : ThreadState S). met_by z.attempt) begins.3)

  pub met_at : (k : ℕ) → k ≤ length acts → MetAt k
  met_at k within = along code b c acts laid.run.leads MetAt first_met (λ n x here at before. act_met n x here at before) k within
