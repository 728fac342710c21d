-- What a step of a thread makes of monitors, and of what threads hold.
use Rattle.std.proofs.Common.{◌≡◌, ◌≢◌, ◌⊎◌, inl, inr, ℕ, suc, ◌+◌, ◌^◌, ◌<◌, ◌≤◌, Bool, true, false, true≢false, None, Some, List, [], length, nat_eq, refl, sym, ◌∙◌, ap, subst, arith}
use Rattle.std.specs.Prelude.{nat_le, slice_get}
use Rattle.std.proofs.lemmas.Grind.{common_steps}
use Rattle.std.proofs.lemmas.Bool.Decides.{nat_tests}
use Rattle.std.proofs.lemmas.Option.{same_Some}
use Rattle.op_core.specs.declared.Op.TheVariants.{Start}
use Rattle.op_core.specs.declared.Next.TheVariants.{Want}
use Rattle.op_core.specs.ThreadCode.{Code}
use Rattle.op_core.specs.OrdinaryState.{set_at}
use Rattle.op_core.proofs.PointwiseLemmas.{same_or_other, set_at-hit, set_at-other}
use Rattle.heap_words.specs.declared.areas.Area.TheVariants as area
use Rattle.section_state.specs.declared.State.TheVariants.{Revoking}
use Rattle.section_state.specs.SectionWord.{state_of, revoke_of}
use Rattle.monitor_core.specs.Monitors.{monitor_section, is_own}
use Rattle.step_port.specs.declared.answer.StepAnswer.{StepAnswer}
use Rattle.step_port.specs.declared.answer.StepAnswer.TheVariants.{Found}
use Rattle.step_port.specs.declared.step.Step.{Step}
use Rattle.step_port.specs.declared.step.Step.TheVariants.{LoadMonitor, TakeMonitor, Split}
use Rattle.step_port.specs.Steps.{effect_of}
use Rattle.step_port.specs.Words.{CanAnswer, answer_of, words_after}
use Rattle.thread_automaton.specs.declared.Bounds.{Bounds}
use Rattle.thread_automaton.specs.declared.Move.TheVariants.{Make}
use Rattle.thread_automaton.specs.ThreadState.{ThreadState, first_state, held_as}
use Rattle.thread_automaton.specs.NextMove.{held_word, move_of}
use Rattle.thread_automaton.specs.Changes.{changed}
use Rattle.thread_automaton.specs.Answers.{change_of}
use Rattle.thread_automaton.specs.Told.{told, after_answer}
use Rattle.automaton_rows.specs.Fits.{IsFit}
use Rattle.automaton_rows.specs.Rows.{Row}
use Rattle.automaton_rows.specs.Undoing.{is_held}
use Rattle.automaton_rows.proofs.RowLemmas.{answers_are_rows, words_can_answer}
use Rattle.automaton_rows.proofs.ReplyLemmas.{replies_fit}
use Rattle.core_runs.specs.Cores.{Core, threads_by, core_after}
use Rattle.core_runs.specs.Acts.{Act, did, DidAt}
use Rattle.section_laws.specs.Runs.{IsRun}
use Rattle.section_laws.proofs.WordLemmas.{state_is}
use Rattle.section_laws.proofs.ClaimLemmas.{none_some, found_is}
use Rattle.section_laws.proofs.DeedLemmas.{makes_it}
use Rattle.section_laws.proofs.SectionLemmas.{sections_apart}
use Rattle.section_laws.proofs.RunLemmas.{Known, facts_at}
use Rattle.section_laws.proofs.own_sections.ViewLemmas.{view}
use Rattle.section_laws.proofs.own_sections.OwnLemmas.{Own}
use Rattle.section_laws.proofs.own_sections.SeenLemmas.{undoing_seen, looked_pin}
use Rattle.section_laws.proofs.own_sections.MoveLemmas.{own_at}
use Rattle.section_laws.proofs.run_threads.NumberLemmas.{threads_are_new}
use Rattle.section_laws.proofs.held_levels.StandLemmas.{Wants, stands_at, split_wants}
use Rattle.first_law.specs.Held.{Holds}
use Rattle.first_law.specs.RunMonitors.{written_place, monitor_met, IsObject, IsMonitorRun}
use Rattle.first_law.specs.Laws.{MonitorsAreHeld}
use Rattle.first_law.proofs.run_monitors.ListLemmas.{false_or, depth_fits, level_fits}
use Rattle.first_law.proofs.run_monitors.MarkLemmas.{section_is, word_some, section_of_zero}
use Rattle.first_law.proofs.run_monitors.KeptLemmas.{LoadSays}
use Rattle.first_law.proofs.run_monitors.ChangeLemmas.{Given, Ground}
use Rattle.first_law.proofs.run_monitors.RowLemmas as rows
use Rattle.first_law.proofs.run_monitors.MarkRows as marks
use Rattle.first_law.proofs.run_monitors.DeedLemmas.{set_elsewhere, MonitorDeed, does}
use Rattle.first_law.proofs.run_monitors.WordLemmas.{word_stays, held_before, says_after, free_after}
use Rattle.first_law.proofs.run_monitors.ThreadLemmas.{contrary, own_parts, counted_holds, counted_deed, begins_holding, object_stays, object_came}

-- ---- along a run

module _ {S : Type 0} (code : Code S) (b : Bounds) (first : S) (classes : ℕ) (c : ℕ → Core S) (acts : List Act) (run : IsMonitorRun code b first classes c acts) where
  ran : IsRun code b c acts
  ran = run.levelled.ordered.run

  abbrev pub HoldAt : ℕ → Type 0
  HoldAt k = (t : ℕ) (th : ThreadState S) → (c k).threads t ≡ Some th → Holds b (code.next th.local) th

  abbrev pub So : ℕ → Type 0
  So k = HoldAt k × MonitorsAreHeld (c k)

  module _ (k : ℕ) (within : k < length acts) where
    here_at : k ≤ length acts
    here_at = omega (arith, within)

    known : Known code (c k)
    known = facts_at code b c acts ran k here_at

    own_of : (t : ℕ) (th : ThreadState S) → (c k).threads t ≡ Some th → Own (view code th) (c k).words
    own_of t th at = own_at code b c acts ran run.levelled.ordered.in_bits k here_at t th at

    pub small_number : HoldAt k → (t : ℕ) (th : ThreadState S) → (c k).threads t ≡ Some th → th.section < 2 ^ 32
    small_number holds t th at = below th.section b.limits.sections (holds t th at).within run.numbers
      where
        below : (s l : ℕ) → s ≤ l → l < 2 ^ 32 → s < 2 ^ 32
        below s l low high = omega (arith, low, high)

    -- a thread that holds a monitor has a section open
    pub some_section : (t r : ℕ) (th : ThreadState S) → (c k).threads t ≡ Some th → is_held r th.held ≡ true → 0 < th.section
    some_section t r th at has = by_test (nat_eq th.section 0) refl
      where
        some : (n : ℕ) → nat_eq n 0 ≡ false → 0 < n
        some n is = grind (arith, common_steps, nat_tests)

        by_test : (test : Bool) → nat_eq th.section 0 ≡ test → 0 < th.section
        by_test true none = contrary (sym has ∙ ap (is_held r) ((known.fit t th at).kept.held none))
        by_test false is = some th.section is

    pub word_of_held : MonitorsAreHeld (c k) → (t r : ℕ) (th : ThreadState S) → (c k).threads t ≡ Some th → is_held r th.held ≡ true → (c k).words (area.Object (r + 1)) ≢ 0
    word_of_held held t r th at has none =
        word_some th.section (held_as r th.held).depth (held_as r th.held).level (some_section t r th at has) (sym (held.says t r th at has) ∙ none)

    module _ (t : ℕ) (step : Step) (a : StepAnswer) (here : slice_get acts k ≡ Some (did t step a)) (at : DidAt code b c k t step a) (so : So k) where
      abbrev pub y : ThreadState S
      y = after_answer code b at.from step a

      pub fits : IsFit code at.from
      fits = known.fit t at.from at.stands

      can : CanAnswer (effect_of step) a
      can = subst (CanAnswer (effect_of step)) (sym at.answered) (words_can_answer (c k).words step)

      pub makes : move_of code at.from (code.next at.from.local) at.from.attempt ≡ Make step
      makes = makes_it at.from.over (nat_le b.limits.turns at.from.counted) _ step at.move

      pub ground : Ground code first classes at.from
      ground = record {
        orderly = run.levelled.ordered.orderly;
        stands = stands_at code first classes run.levelled.ordered.orderly b c acts run.levelled.ordered k here_at t at.from at.stands;
        fits = fits;
        small = small_number so.0 t at.from at.stands;
      }

      pub row : Row code b at.from (code.next at.from.local) step a (change_of code b at.from (code.next at.from.local) step a)
      row = answers_are_rows code b at.from step a fits.attempt at.move can

      -- what the thread finds where it loads the word of a monitor
      pub loads : (r m : ℕ) → step ≡ LoadMonitor r → a ≡ Found m → LoadSays at.from.section at.from.held r m
      loads r m is found = record {
        own = λ has. word ∙ so.1.says t r at.from at.stands has;
        other = λ none. false_or (is_own m at.from.section) (λ own. by_holder none own (so.1.taken r object (λ zero_word. no_zero (word ∙ zero_word) own)));
      }
        where
          word : m ≡ (c k).words (area.Object (r + 1))
          word = found_is m ((c k).words (area.Object (r + 1))) (sym found ∙ at.answered ∙ ap (answer_of (c k).words) is)

          object : IsObject (c k) r
          object = run.apart.wanted k t r (LoadMonitor r) a (here ∙ ap (λ st. Some (did t st a)) is) refl

          no_zero : m ≡ 0 → is_own m at.from.section ≡ true → ⊥
          no_zero none own = let parts = own_parts (monitor_section m) at.from.section own in no (monitor_section m) at.from.section parts.0 parts.1 (ap monitor_section none ∙ section_of_zero)
            where
              no : (n s : ℕ) → 0 < s → n ≡ s → n ≡ 0 → ⊥
              no n s some same none = omega (arith, some, same, none)

          by_holder : is_held r at.from.held ≡ false → is_own m at.from.section ≡ true → (u : ℕ) × (uh : ThreadState S) × ((c k).threads u ≡ Some uh) × (is_held r uh.held ≡ true) → ⊥
          by_holder none own holder =
              let uh = holder.1 in
              let fit = depth_fits r uh.held (so.0 holder.0 uh holder.2).depths holder.3 in
              let level = level_fits r uh.held (known.fit holder.0 uh holder.2).kept.in_levels in
              let names : monitor_section m ≡ uh.section = ap monitor_section (word ∙ so.1.says holder.0 r uh holder.2 holder.3)
              ∙ section_is uh.section (held_as r uh.held).depth (held_as r uh.held).level (small_number so.0 holder.0 uh holder.2) fit.1 level.1 in
              let parts = own_parts (monitor_section m) at.from.section own in
              let same : t ≡ holder.0 = sections_apart code b c acts ran k t holder.0 at.from uh here_at at.stands holder.2 parts.0 (sym parts.1 ∙ names) in
              true≢false (sym (subst (λ (x : ThreadState S). is_held r x.held ≡ true) (same_Some uh at.from (sym holder.2 ∙ ap (c k).threads (sym same) ∙ at.stands)) holder.3) ∙ none)

      given : Given at.from step a
      given = record {
        looked = looked_pin code at.from (c k).words (own_of t at.from at.stands) step a at.answered;
        turned = λ w is found some turns.
            let word : w ≡ (c k).words (area.Section at.from.section) = found_is w ((c k).words (area.Section at.from.section)) (sym found ∙ at.answered ∙ ap (answer_of (c k).words) is) in
            subst (λ v. revoke_of v ≤ at.from.levels) (sym word) (((own_of t at.from at.stands).own some).says.revoking (ap state_of (sym word) ∙ state_is Revoking w turns)).1;
        undoing = undoing_seen code at.from (c k).words (own_of t at.from at.stands) fits;
        loaded = loads;
      }

      y_holds : Holds b (code.next y.local) y
      y_holds = counted_holds code b (told code b at.from step a) (changed code at.from (change_of code b at.from (code.next at.from.local) step a))
          (rows.keeps b ground row refl (so.0 t at.from at.stands) makes can (replies_fit code b at.from step a fits.attempt at.move can) given)
          (marks.keeps b ground row refl (so.0 t at.from at.stands) makes can given)

      deed : MonitorDeed at.from.section y.section at.from.held y.held step a
      deed = counted_deed at.from.section at.from.held step a (told code b at.from step a) (changed code at.from (change_of code b at.from (code.next at.from.local) step a))
          (does b ground row refl (so.0 t at.from at.stands) makes)

      abbrev pub behind : Core S
      behind = core_after code b k (c k) t at.from step a

      apart_of : (r : ℕ) → IsObject (c k) r → (p : ℕ) → written_place step ≡ Some p → p ≢ r + 1
      apart_of r object p is = run.apart.apart k t p r step a here is object

      -- who is handed out wasn't there
      pub new : (n r p : ℕ) → step ≡ Split n r p → (c k).threads n ≡ None
      new n r p is = threads_are_new code b c acts ran run.levelled.numbered k t n r p a (here ∙ ap (λ st. Some (did t st a)) is)

      -- each thread that is there then
      data Came (u : ℕ) (uh : ThreadState S) : Type 0 where
        stays_there : u ≢ t → (c k).threads u ≡ Some uh → Came u uh
        moves_on : u ≡ t → uh ≡ y → Came u uh
        begins_now : uh.held ≡ [] → Holds b (code.next uh.local) uh → Came u uh

      came_there : (u : ℕ) (uh : ThreadState S) → set_at (c k).threads t (Some y) u ≡ Some uh → Came u uh
      came_there u uh there = elim (same_or_other u t) [
        | inl own ↦ moves_on own (sym (same_Some y uh (sym (ap (set_at (c k).threads t (Some y)) own ∙ set_at-hit (c k).threads t (Some y)) ∙ there)))
        | inr other ↦ stays_there other (sym (set_at-other (c k).threads t (Some y) u other) ∙ there)
      ]

      came : (u : ℕ) (uh : ThreadState S) → behind.threads u ≡ Some uh → Came u uh
      came u uh there = by_step step refl there
        where
          by_step : (made : Step) → step ≡ made → threads_by code made at.from.local (set_at (c k).threads t (Some y)) u ≡ Some uh → Came u uh
          by_step (Split n r p) is there = elim (same_or_other u n) [
            | inl own ↦
                let z : ThreadState S = first_state n p (code.child at.from.local r) in
                let wants : code.next at.from.local ≡ Want (Start r p) = subst (λ st. Wants st (code.next at.from.local)) is (split_wants code b at.from row can) in
                let same : z ≡ uh = same_Some z uh (sym (ap (set_at (set_at (c k).threads t (Some y)) n (Some z)) own ∙ set_at-hit (set_at (c k).threads t (Some y)) n (Some z)) ∙ there) in
                subst (Came u) same (begins_now refl (begins_holding b n p (code.child at.from.local r) (code.next (code.child at.from.local r))
                (ground.orderly.child_goes at.from.local r p ground.stands.can wants)))
            | inr other ↦ came_there u uh (sym (set_at-other (set_at (c k).threads t (Some y)) n (Some (first_state n p (code.child at.from.local r))) u other) ∙ there)
          ]
          by_step made is there = came_there u uh there

      -- those that were there are there still
      pub kept_there : (u : ℕ) (uh : ThreadState S) → u ≢ t → (c k).threads u ≡ Some uh → behind.threads u ≡ Some uh
      kept_there u uh other there = by_step step refl
        where
          by_step : (made : Step) → step ≡ made → threads_by code made at.from.local (set_at (c k).threads t (Some y)) u ≡ Some uh
          by_step (Split n r p) is = set_at-other (set_at (c k).threads t (Some y)) n (Some (first_state n p (code.child at.from.local r))) u
              (λ same. none_some uh (sym (new n r p is) ∙ ap (c k).threads (sym same) ∙ there)) ∙ set_at-other (c k).threads t (Some y) u other ∙ there
          by_step made is = set_at-other (c k).threads t (Some y) u other ∙ there

      pub own_there : behind.threads t ≡ Some y
      own_there = by_step step refl
        where
          by_step : (made : Step) → step ≡ made → threads_by code made at.from.local (set_at (c k).threads t (Some y)) t ≡ Some y
          by_step (Split n r p) is = set_at-other (set_at (c k).threads t (Some y)) n (Some (first_state n p (code.child at.from.local r))) t
              (λ same. none_some at.from (sym (new n r p is) ∙ ap (c k).threads (sym same) ∙ at.stands)) ∙ set_at-hit (c k).threads t (Some y)
          by_step made is = set_at-hit (c k).threads t (Some y)

      -- another thread's monitor isn't held by this one
      not_own : (u r : ℕ) (uh : ThreadState S) → u ≢ t → (c k).threads u ≡ Some uh → is_held r uh.held ≡ true → is_held r at.from.held ≡ false
      not_own u r uh other there has = false_or (is_held r at.from.held) (λ own. other (so.1.one u t r uh at.from there at.stands has own))

      stays_held : (u r : ℕ) (uh : ThreadState S) → u ≢ t → (c k).threads u ≡ Some uh → is_held r uh.held ≡ true → behind.words (area.Object (r + 1)) ≡ held_word uh.section (held_as r uh.held)
      stays_held u r uh other there has =
          word_stays at.from.section y.section at.from.held y.held step a deed (c k).words at.answered r (apart_of r (so.1.objects u r uh there has)) (not_own u r uh other there has)
          (word_of_held so.1 u r uh there has) ∙ so.1.says u r uh there has

      none_in : {P : Type 0} (r : ℕ) (uh : ThreadState S) → uh.held ≡ [] → is_held r uh.held ≡ true → P
      none_in r uh empty has = contrary (sym has ∙ ap (is_held r) empty)

      says_there : (u r : ℕ) (uh : ThreadState S) → Came u uh → is_held r uh.held ≡ true → behind.words (area.Object (r + 1)) ≡ held_word uh.section (held_as r uh.held)
      says_there u r uh (stays_there other there) has = stays_held u r uh other there has
      says_there u r uh (moves_on own is) has =
          subst (λ (x : ThreadState S). behind.words (area.Object (r + 1)) ≡ held_word x.section (held_as r x.held)) (sym is)
          (says_after at.from.section y.section at.from.held y.held step a deed (c k).words at.answered (λ q held_q. apart_of q (so.1.objects t q at.from at.stands held_q)) (λ q held_q. so.1.says t q at.from at.stands held_q)
          r (subst (λ (x : ThreadState S). is_held r x.held ≡ true) is has))
      says_there u r uh (begins_now empty holds) has = none_in r uh empty has

      -- where it is held after the step, the thread or another held it before, or the step takes it
      own_before : (r : ℕ) → is_held r y.held ≡ true → (is_held r at.from.held ≡ true) ⊎ (((c k).words (area.Object (r + 1)) ≡ 0) × ((m : ℕ) × (step ≡ TakeMonitor r m)))
      own_before r has = held_before at.from.section y.section at.from.held y.held step a deed (c k).words at.answered r has

      object_there : (u r : ℕ) (uh : ThreadState S) → Came u uh → is_held r uh.held ≡ true → IsObject (c k) r
      object_there u r uh (stays_there other there) has = so.1.objects u r uh there has
      object_there u r uh (moves_on own is) has = elim (own_before r (subst (λ (x : ThreadState S). is_held r x.held ≡ true) is has)) [
        | inl before ↦ so.1.objects t r at.from at.stands before
        | inr taken ↦ run.apart.wanted k t r step a here (ap monitor_met taken.1.1)
      ]
      object_there u r uh (begins_now empty holds) has = none_in r uh empty has

      -- no other thread holds what this one holds then
      alone : (u r : ℕ) (uh : ThreadState S) → u ≢ t → (c k).threads u ≡ Some uh → is_held r uh.held ≡ true → is_held r y.held ≡ true → ⊥
      alone u r uh other there has own = elim (own_before r own) [
        | inl before ↦ other (so.1.one u t r uh at.from there at.stands has before)
        | inr taken ↦ word_of_held so.1 u r uh there has taken.0
      ]

      one_there : (u v r : ℕ) (uh vh : ThreadState S) → Came u uh → Came v vh → is_held r uh.held ≡ true → is_held r vh.held ≡ true → u ≡ v
      one_there u v r uh vh (stays_there other there) (stays_there also there_v) has has_v = so.1.one u v r uh vh there there_v has has_v
      one_there u v r uh vh (stays_there other there) (moves_on own is) has has_v = absurd (alone u r uh other there has (subst (λ (x : ThreadState S). is_held r x.held ≡ true) is has_v))
      one_there u v r uh vh (moves_on own is) (stays_there other there) has has_v = absurd (alone v r vh other there has_v (subst (λ (x : ThreadState S). is_held r x.held ≡ true) is has))
      one_there u v r uh vh (moves_on own is) (moves_on also is_v) has has_v = own ∙ sym also
      one_there u v r uh vh (begins_now empty holds) came_v has has_v = none_in r uh empty has
      one_there u v r uh vh came_u (begins_now empty holds) has has_v = none_in r vh empty has_v

      holds_there : (u : ℕ) (uh : ThreadState S) → Came u uh → Holds b (code.next uh.local) uh
      holds_there u uh (stays_there other there) = so.0 u uh there
      holds_there u uh (moves_on own is) = subst (λ (x : ThreadState S). Holds b (code.next x.local) x) (sym is) y_holds
      holds_there u uh (begins_now empty holds) = holds

      taken_there : (r : ℕ) → IsObject behind r → behind.words (area.Object (r + 1)) ≢ 0 → (u : ℕ) × (uh : ThreadState S) × (behind.threads u ≡ Some uh) × (is_held r uh.held ≡ true)
      taken_there r object some = elim (object_came code step at.from.local (code.next at.from.local) (c k).objects r object) [
        | inl old ↦ by_word (free_after at.from.section y.section at.from.held y.held step a deed (c k).words at.answered r (apart_of r old) some) old
        | inr made ↦ absurd (some (ap (λ st. words_after st (c k).words (area.Object (r + 1))) made.1 ∙ set_elsewhere (c k).words r (r + 1) made.0 (next_place r)
            ∙ run.apart.made k t r made.0 a (here ∙ ap (λ st. Some (did t st a)) made.1)))
      ]
        where
          next_place : (r : ℕ) → r ≢ r + 1
          next_place r same = no r same
            where
              no : (r : ℕ) → r ≡ r + 1 → ⊥
              no r same = omega (arith, same)

          by_word : (is_held r y.held ≡ true) ⊎ ((is_held r at.from.held ≡ false) × ((c k).words (area.Object (r + 1)) ≢ 0)) → IsObject (c k) r
              → (u : ℕ) × (uh : ThreadState S) × (behind.threads u ≡ Some uh) × (is_held r uh.held ≡ true)
          by_word which old = elim which [
            | inl own ↦ (t, y, own_there, own)
            | inr not_free ↦
                let holder = so.1.taken r old not_free.1 in (
                  holder.0,
                  holder.1,
                  kept_there holder.0 holder.1 (λ same. true≢false (sym (subst (λ (x : ThreadState S). is_held r x.held ≡ true)
                      (same_Some holder.1 at.from (sym holder.2 ∙ ap (c k).threads same ∙ at.stands)) holder.3) ∙ not_free.0)) holder.2,
                  holder.3,
                )
          ]

      pub did_so : So (suc k)
      did_so = subst (λ (core : Core S). ((u : ℕ) (uh : ThreadState S) → core.threads u ≡ Some uh → Holds b (code.next uh.local) uh) × MonitorsAreHeld core) (sym at.leads) (
        λ u uh there. holds_there u uh (came u uh there),
        record {
          says = λ u r uh there has. says_there u r uh (came u uh there) has;
          objects = λ u r uh there has. object_stays code step at.from.local (code.next at.from.local) (c k).objects r (object_there u r uh (came u uh there) has);
          one = λ u v r uh vh there there_v has has_v. one_there u v r uh vh (came u uh there) (came v vh there_v) has has_v;
          taken = λ r object some. taken_there r object some;
        },
      )
