-- The saves of threads along a run.
use Rattle.std.proofs.Common.{◌≡◌, ℕ, zero, suc, ◌-◌, ◌<◌, ◌≤◌, Bool, true, false, Option, None, Some, List, [], ◌∷◌, length, drop, refl, sym, ◌∙◌, ap, subst, arith}
use Rattle.std.specs.Prelude.{slice_get, nat_lt, nat_le, if◌then◌else◌}
use Rattle.std.proofs.lemmas.Grind.{common_steps}
use Rattle.std.proofs.lemmas.Bool.Decides.{nat_tests}
use Rattle.std.proofs.lemmas.Option.{slice_get_within}
use Rattle.op_core.specs.declared.Limit.TheVariants.{Turns}
use Rattle.op_core.specs.declared.Reply.{Reply}
use Rattle.op_core.specs.declared.Next.{Next}
use Rattle.op_core.specs.ThreadCode.{Code}
use Rattle.op_core.specs.OrdinaryState.{set_at, live, ended}
use Rattle.op_core.proofs.PointwiseLemmas.{set_at-hit, set_at-other}
use Rattle.heap_words.specs.declared.areas.Area.{Area}
use Rattle.heap_words.specs.declared.areas.Area.TheVariants.{Section}
use Rattle.section_state.specs.declared.State.TheVariants.{Revoking}
use Rattle.section_state.specs.SectionWord.{state_of, pinned_of, revoke_of}
use Rattle.monitor_core.specs.Contention.{is_in}
use Rattle.step_port.specs.declared.answer.StepAnswer.{StepAnswer}
use Rattle.step_port.specs.declared.step.Step.{Step}
use Rattle.step_port.specs.declared.step.Step.TheVariants.{Release, Split}
use Rattle.step_port.specs.Steps.{place_of, effect_of}
use Rattle.step_port.specs.Words.{CanAnswer}
use Rattle.thread_automaton.specs.declared.Bounds.{Bounds}
use Rattle.thread_automaton.specs.declared.Move.{Move}
use Rattle.thread_automaton.specs.declared.Move.TheVariants.{Over, Stop, Make}
use Rattle.thread_automaton.specs.declared.Attempt.{Attempt}
use Rattle.thread_automaton.specs.declared.Attempt.TheVariants.{Begin, Checked, Fixed, Undoing}
use Rattle.thread_automaton.specs.ThreadState.{ThreadState, first_state, is_open, is_own_section, inside}
use Rattle.thread_automaton.specs.NextMove.{move_of, next_move}
use Rattle.thread_automaton.specs.Changes.{Change, answered, forgotten, with_level, with_levels, without_level, stood_at, section_at, changed}
use Rattle.thread_automaton.specs.Checks.{behind_pin}
use Rattle.thread_automaton.specs.Monitors.{take_for}
use Rattle.thread_automaton.specs.Answers.{lost_on, change_of}
use Rattle.thread_automaton.specs.Told.{Told, advanced, born, told, counted_for, after_answer, after_quiet}
use Rattle.automaton_rows.specs.Rows.{Row, is_lost, own_stands, pins, is_undone, section_opened, level_opened, levels_closed, section_left}
use Rattle.automaton_rows.proofs.RowLemmas.{answers_are_rows, words_can_answer, by_if}
use Rattle.core_runs.specs.Cores.{Core, threads_by, levels_by, outermost}
use Rattle.core_runs.specs.Acts.{Act, quiet, did, beside, DidAt, ActAt}
use Rattle.core_runs.specs.Reading.{end_wanted, place_in, thread_in}
use Rattle.section_laws.proofs.WordLemmas.{state_is}
use Rattle.section_laws.proofs.DeedLemmas.{makes_it, above}
use Rattle.section_laws.proofs.FactLemmas.{each}
use Rattle.section_laws.proofs.RunLemmas.{along, facts_at}
use Rattle.section_laws.specs.OwnWords.{SeesUndoing}
use Rattle.section_laws.proofs.own_sections.MoveLemmas.{own_words_are_known}
use Rattle.section_laws.specs.Levels.{IsLevelledRun}
use Rattle.section_laws.proofs.section_levels.RunLemmas.{levels_are_counted}
use Rattle.section_laws.specs.LevelSaves.{StoodAt, SavesStand, SavesAreKnown}

-- ---- where a thread stands

abbrev pub HandsNone : Step → Type 0
HandsNone (Split n r p) = ⊥
HandsNone step = Unit {0}

abbrev HandsNoneIn : Move → Type 0
HandsNoneIn (Make step) = HandsNone step
HandsNoneIn move = Unit {0}

module _ {S : Type 0} (code : Code S) (b : Bounds) (th : ThreadState S) where
  place_of_move : (next : Next) (g : Attempt) (step : Step) (l : S) → move_of code th next g ≡ Make step → HandsNone step → place_in code l g ≡ l
  place_of_move next (Fixed (Split n r p)) step l makes none = absurd (subst HandsNoneIn (sym makes) none)
  place_of_move next g step l makes none = refl

  pub is_live : (step : Step) → next_move code b th ≡ Make step → th.over ≡ false
  is_live step makes = by_over th.over refl makes
    where
      IsMake : Move → Type 0
      IsMake (Make step) = Unit {0}
      IsMake move = ⊥

      by_over : (t : Bool) → th.over ≡ t → (if t then Over else if nat_le b.limits.turns th.counted then Stop Turns else move_of code th (code.next th.local) th.attempt) ≡ Make step → th.over ≡ false
      by_over true is makes = absurd (subst IsMake (sym makes) tt)
      by_over false is makes = is

  -- a thread that hands nothing out stands at its local state
  pub own_place : (step : Step) → next_move code b th ≡ Make step → HandsNone step → place_in code th.local th.attempt ≡ th.local
  own_place step makes none = place_of_move (code.next th.local) th.attempt step th.local (makes_it th.over (nat_le b.limits.turns th.counted) _ step makes) none

  pub stands_so : (o : Option S) (step : Step) → next_move code b th ≡ Make step → HandsNone step → thread_in code o (Some th) ≡ live th.local
  stands_so o step makes none =
      ap (λ x. if x then ended (end_wanted (code.next th.local)) else live (place_in code th.local th.attempt)) (is_live step makes) ∙ ap live (own_place step makes none)

-- ---- lists of saves

module _ {S : Type 0} (code : Code S) (c : ℕ → Core S) (t : ℕ) where
  stand_later : (k j : ℕ) (saved : List S) (levels : List ℕ) → k ≤ j → SavesStand code c t k saved levels → SavesStand code c t j saved levels
  stand_later k j [] levels up stand = tt
  stand_later k j (l ∷ saved) [] up stand = absurd stand
  stand_later k j (l ∷ saved) (p ∷ levels) up stand = let low = stand.0 in (omega (arith, low, up), stand.1, stand_later k j saved levels up stand.2)

  stand_drop : (n k : ℕ) (saved : List S) (levels : List ℕ) → SavesStand code c t k saved levels → SavesStand code c t k (drop n saved) (drop n levels)
  stand_drop zero k saved levels stand = stand
  stand_drop (suc n) k [] levels stand = tt
  stand_drop (suc n) k (l ∷ saved) [] stand = absurd stand
  stand_drop (suc n) k (l ∷ saved) (p ∷ levels) stand = stand_drop n k saved levels stand.2

module _ {S : Type 0} (code : Code S) (b : Bounds) (c : ℕ → Core S) (t k : ℕ) (th : ThreadState S) (levels : List ℕ) (count : length levels ≡ th.levels) (stand : SavesStand code c t k th.saved levels) where
  abbrev StandThen : List S → List ℕ → Type 0
  StandThen saved after = SavesStand code c t (suc k) saved after

  before : StandThen th.saved levels
  before = stand_later code c t k (suc k) th.saved levels (omega arith) stand

  forgets : (y : ThreadState S) (after : List ℕ) → StandThen y.saved after → StandThen (forgotten y).saved after
  forgets y after so = by_if (λ (z : ThreadState S). StandThen z.saved after) (is_open y) y (record y { log = []; saved = []; marks = [] }) (λ yes. so) (λ no. tt)

  pushed : StoodAt code c t k th.local → (after : List ℕ) → StandThen th.saved after → StandThen (th.local ∷ th.saved) (k ∷ after)
  pushed stood after so = (omega arith, stood, so)

  lost_stands : (area : Area) → StandThen (changed code th (lost_on th area)).saved (levels_by k (lost_on th area) levels)
  lost_stands (Section s) = by_if (λ c. StandThen (changed code th c).saved (levels_by k c levels)) (is_own_section th s) _ _ (λ yes. before) (λ no. before)
  lost_stands area = before

  closed_to : (n : ℕ) → drop (th.levels - n) levels ≡ outermost n levels
  closed_to n = ap (λ m. drop (m - n) levels) (sym count)

  save_row : {next : Next} {step : Step} {a : StepAnswer} {change : Change} → Row code b th next step a change
      → (HandsNone step → StoodAt code c t k th.local) → ((w : ℕ) → th.attempt ≡ Undoing w → nat_lt 0 th.section ≡ true → is_in Revoking w ≡ true → (1 ≤ revoke_of w) × (revoke_of w ≤ th.levels))
      → StandThen (changed code th change).saved (levels_by k change levels)
  save_row (is_lost {step = step}) stood undoes = lost_stands (place_of step)
  save_row (own_stands {w = w} at looks stands) stood undoes = forgets (record th { pinned = pinned_of w; attempt = Checked }) levels before
  save_row (pins {next = next} unpinned lasts) stood undoes = forgets (record th { pinned = th.levels; attempt = behind_pin th next }) levels before
  save_row (is_undone {w = w} at undoing does) stood undoes =
      let n = revoke_of w in
      let range = undoes w at undoing.section undoing.revoked in
      let y : ThreadState S = without_level (record (stood_at th n) { section = section_at (n - 1) th.section; attempt = Begin }) n in
      forgets y (outermost (n - 1) levels)
      (subst (λ m. StandThen (drop m th.saved) (outermost (n - 1) levels)) (same th.levels n range.0 range.1)
      (subst (λ xs. StandThen (drop (th.levels - (n - 1)) th.saved) xs) (closed_to (n - 1)) (stand_drop code c t (th.levels - (n - 1)) (suc k) th.saved levels before)))
    where
      same : (m n : ℕ) → 1 ≤ n → n ≤ m → m - (n - 1) ≡ suc (m - n)
      same m n some low = omega (arith, some, low)
  save_row (section_opened {next = next} {s = s} enters none some) stood undoes = pushed (stood tt) levels before
  save_row (level_opened {next = next} enters some needs room) stood undoes =
      forgets (with_level (record th { attempt = Fixed (take_for th next th.section (suc th.levels)) })) (k ∷ levels) (pushed (stood tt) levels before)
  save_row (levels_closed {r = r} {depth = depth} closes) stood undoes =
      forgets (with_levels (record th { attempt = Fixed (Release r) }) depth) (outermost depth levels)
      (subst (λ xs. StandThen (drop (inside th depth) th.saved) xs) (closed_to depth) (stand_drop code c t (inside th depth) (suc k) th.saved levels before))
  save_row (section_left at none) stood undoes =
      by_if (λ (z : ThreadState S). StandThen z.saved []) (is_open y) y (record y { log = []; saved = []; marks = [] }) (λ yes. absurd (not_below th.pinned yes)) (λ no. tt)
    where
      y : ThreadState S
      y = with_levels (record (answered code th Reply.Done) { held = []; section = 0 }) 0

      not_below : (n : ℕ) → nat_lt n 0 ≡ true → ⊥
      not_below n is = grind (arith, common_steps, nat_tests)
  save_row row stood undoes = before

-- ---- along a run

module _ {S : Type 0} (code : Code S) (b : Bounds) (first : S) (classes : ℕ) (c : ℕ → Core S) (acts : List Act) (run : IsLevelledRun code b first classes c acts) where
  abbrev SavesAt : ℕ → Type 0
  SavesAt k = (t : ℕ) (th : ThreadState S) → (c k).threads t ≡ Some th → SavesStand code c t k th.saved ((c k).levels t)

  counted_saved : (told : Told) (y : ThreadState S) → (counted_for told y).saved ≡ y.saved
  counted_saved (advanced None) y = refl
  counted_saved (advanced (Some reply)) y = refl
  counted_saved born y = refl
  counted_saved other y = refl

  module _ (k t : ℕ) (step : Step) (a : StepAnswer) (here : slice_get acts k ≡ Some (did t step a)) (at : DidAt code b c k t step a) (before_at : SavesAt k) where
    up : k ≤ length acts
    up = let within = slice_get_within acts k (did t step a) here in omega (arith, within)

    abbrev y : ThreadState S
    y = after_answer code b at.from step a

    abbrev behind : List ℕ
    behind = levels_by k (change_of code b at.from (code.next at.from.local) step a) ((c k).levels t)

    stood : HandsNone step → StoodAt code c t k at.from.local
    stood none = ap (thread_in code ((c k).starting t)) at.stands ∙ stands_so code b at.from ((c k).starting t) step at.move none

    undoes : (w : ℕ) → at.from.attempt ≡ Undoing w → nat_lt 0 at.from.section ≡ true → is_in Revoking w ≡ true → (1 ≤ revoke_of w) × (revoke_of w ≤ at.from.levels)
    undoes w undoing some revoked =
        let own = own_words_are_known code b c acts run.ordered.run run.ordered.in_bits k t at.from up at.stands (above at.from.section some) in
        let word : (c k).words (Section at.from.section) ≡ w = subst (λ g. SeesUndoing g ((c k).words (Section at.from.section))) undoing own.1 in
        let range = own.0.revoking (ap state_of word ∙ state_is Revoking w revoked) in
        let low : pinned_of ((c k).words (Section at.from.section)) < revoke_of w = subst (λ m. pinned_of ((c k).words (Section at.from.section)) < m) (ap revoke_of word) range.0 in
        (omega (arith, low), subst (λ m. m ≤ at.from.levels) (ap revoke_of word) range.1)

    own_saves : SavesStand code c t (suc k) y.saved behind
    own_saves =
        let can : CanAnswer (effect_of step) a = subst (CanAnswer (effect_of step)) (sym at.answered) (words_can_answer (c k).words step) in
        let fits = (facts_at code b c acts run.ordered.run k up).fit t at.from at.stands in
        subst (λ saved. SavesStand code c t (suc k) saved behind) (sym (counted_saved (told code b at.from step a) (changed code at.from (change_of code b at.from (code.next at.from.local) step a))))
        (save_row code b c t k at.from ((c k).levels t) (levels_are_counted code b first classes c acts run k t at.from up at.stands) (before_at t at.from at.stands)
        (answers_are_rows code b at.from step a fits.attempt at.move can) stood undoes)

    abbrev levels_now : ℕ → List ℕ
    levels_now = set_at (c k).levels t behind

    there_saves : (u : ℕ) (uh : ThreadState S) → set_at (c k).threads t (Some y) u ≡ Some uh → SavesStand code c u (suc k) uh.saved (levels_now u)
    there_saves u = each (λ (uh : ThreadState S). SavesStand code c u (suc k) uh.saved (levels_now u)) (c k).threads t y u
        (λ own. subst (λ m. SavesStand code c m (suc k) y.saved (levels_now m)) (sym own) (subst (λ xs. SavesStand code c t (suc k) y.saved xs) (sym (set_at-hit (c k).levels t behind)) own_saves))
        (λ uh other there. subst (λ xs. SavesStand code c u (suc k) uh.saved xs) (sym (set_at-other (c k).levels t behind u other))
        (stand_later code c u k (suc k) uh.saved ((c k).levels u) (omega arith) (before_at u uh there)))

    handed : (m : Step) (u : ℕ) (uh : ThreadState S) → threads_by code m at.from.local (set_at (c k).threads t (Some y)) u ≡ Some uh → SavesStand code c u (suc k) uh.saved (levels_now u)
    handed (Split n r p) u uh there = each (λ (uh : ThreadState S). SavesStand code c u (suc k) uh.saved (levels_now u)) (set_at (c k).threads t (Some y)) n (first_state n p (code.child at.from.local r)) u
        (λ own. tt) (λ vh other at_v. there_saves u vh at_v) uh there
    handed m u uh there = there_saves u uh there

    next_saves : SavesAt (suc k)
    next_saves = subst (λ (z : Core S). (u : ℕ) (uh : ThreadState S) → z.threads u ≡ Some uh → SavesStand code c u (suc k) uh.saved (z.levels u)) (sym at.leads) (λ u uh there. handed step u uh there)

  act_saves : (k : ℕ) (act : Act) → slice_get acts k ≡ Some act → ActAt code b c k act → SavesAt k → SavesAt (suc k)
  act_saves k (quiet t) here at before_at =
      subst (λ (z : Core S). (u : ℕ) (uh : ThreadState S) → z.threads u ≡ Some uh → SavesStand code c u (suc k) uh.saved (z.levels u)) (sym at.leads)
      (λ u. each (λ (uh : ThreadState S). SavesStand code c u (suc k) uh.saved ((c k).levels u)) (c k).threads t (after_quiet at.from at.local) u
      (λ own. stand_later code c u k (suc k) at.from.saved ((c k).levels u) (omega arith) (before_at u at.from (ap (c k).threads own ∙ at.stands)))
      (λ uh other there. stand_later code c u k (suc k) uh.saved ((c k).levels u) (omega arith) (before_at u uh there)))
  act_saves k (did t step a) here at before_at = next_saves k t step a here at before_at
  act_saves k (beside t step a) here at before_at =
      subst (λ (z : Core S). (u : ℕ) (uh : ThreadState S) → z.threads u ≡ Some uh → SavesStand code c u (suc k) uh.saved (z.levels u)) (sym at.leads)
      (λ u uh there. stand_later code c u k (suc k) uh.saved ((c k).levels u) (omega arith) (before_at u uh there))

  first_saves : SavesAt 0
  first_saves t th there = subst (λ saved. SavesStand code c t 0 saved ((c 0).levels t)) (sym (ap (λ (z : ThreadState S). z.saved) (run.ordered.run.begins.threads t th there).3)) tt

  pub saves_at : (k : ℕ) → k ≤ length acts → SavesAt k
  saves_at k within = along code b c acts run.ordered.run.leads SavesAt first_saves (λ n act here at before_at. act_saves n act here at before_at) k within

pub saves_are_known : {S : Type 0} (code : Code S) → SavesAreKnown code
saves_are_known code b first classes c acts run k t th within there = saves_at code b first classes c acts run k within t th there
