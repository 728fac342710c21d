-- The levels that threads have open are levels of their sections, along a run.
use Rattle.std.proofs.Common.{◌≡◌, ◌≢◌, ◌⊎◌, inl, inr, ℕ, zero, suc, ◌-◌, ◌<◌, ◌≤◌, Bool, true, false, None, Some, List, [], ◌∷◌, length, drop, nat_eq, refl, sym, ◌∙◌, ap, subst, arith}
use Rattle.std.specs.Prelude.{nat_lt, slice_get, if◌then◌else◌}
use Rattle.std.proofs.lemmas.Grind.{common_steps}
use Rattle.std.proofs.lemmas.Bool.Decides.{nat_tests}
use Rattle.std.proofs.lemmas.Option.{slice_get_within}
use Rattle.op_core.specs.declared.Next.{Next}
use Rattle.op_core.specs.declared.Reply.{Reply}
use Rattle.op_core.specs.ThreadCode.{Code}
use Rattle.op_core.specs.OrdinaryState.{set_at}
use Rattle.heap_words.specs.declared.areas.Area.{Area}
use Rattle.heap_words.specs.declared.areas.Area.TheVariants.{Section}
use Rattle.section_state.specs.SectionWord.{pinned_of, revoke_of}
use Rattle.step_port.specs.declared.answer.StepAnswer.{StepAnswer}
use Rattle.step_port.specs.declared.answer.StepAnswer.TheVariants.{Done}
use Rattle.step_port.specs.declared.step.Step.{Step}
use Rattle.step_port.specs.declared.step.Step.TheVariants.{OpenSection, OpenLevel, Release, Split}
use Rattle.step_port.specs.Steps.{place_of, effect_of}
use Rattle.step_port.specs.Words.{CanAnswer}
use Rattle.thread_automaton.specs.declared.Bounds.{Bounds}
use Rattle.thread_automaton.specs.declared.Attempt.TheVariants.{Begin, Look, Checked, Fixed}
use Rattle.thread_automaton.specs.ThreadState.{ThreadState, first_state, is_open, is_own_section}
use Rattle.thread_automaton.specs.Changes.{Change, goes, answered, forgotten, with_level, with_levels, without_level, stood_at, section_at, changed}
use Rattle.thread_automaton.specs.Checks.{behind_pin}
use Rattle.thread_automaton.specs.Monitors.{take_for}
use Rattle.thread_automaton.specs.Answers.{lost_on, change_of}
use Rattle.thread_automaton.specs.Told.{Told, advanced, born, told, counted_for, after_answer, after_quiet}
use Rattle.automaton_rows.specs.Rows.{Row, is_lost, own_stands, pins, is_undone, section_opened, level_opened, levels_closed, section_left}
use Rattle.automaton_rows.proofs.RowLemmas.{answers_are_rows, words_can_answer, by_if}
use Rattle.core_runs.specs.Cores.{Core, threads_by, levels_by}
use Rattle.core_runs.specs.Acts.{Act, quiet, did, beside, DidAt, ActAt}
use Rattle.section_laws.specs.LevelRun.{In}
use Rattle.section_laws.proofs.level_runs.LevelLemmas.{below, falls}
use Rattle.section_laws.specs.Runs.{IsRun}
use Rattle.section_laws.proofs.FactLemmas.{each}
use Rattle.section_laws.proofs.RunLemmas.{along, facts_at}
use Rattle.section_laws.specs.Levels.{IsLevelledRun, levels_in, revoked_in}
use Rattle.section_laws.proofs.section_levels.RowLemmas.{drop_all, outermost_none}
use Rattle.section_laws.proofs.section_levels.RunLemmas.{Counted, counted_at, no_levels, own_levels, other_levels}
use Rattle.section_laws.proofs.section_levels.LevelLemmas.{at_place, runs_in_levels}
use Rattle.written_words.specs.Writers.{OpensInside, AreLevelsOf, OpenLevelsAreOfSections}

-- ---- levels

-- levels that are closed leave levels
pub levels_drop : {S : Type 0} (c : ℕ → Core S) (acts : List Act) (t s j : ℕ) (levels : List ℕ) → AreLevelsOf c acts t s levels → AreLevelsOf c acts t s (drop j levels)
levels_drop c acts t s zero levels are = are
levels_drop c acts t s (suc j) [] are = tt
levels_drop c acts t s (suc j) (p ∷ levels) are = levels_drop c acts t s j levels are.2

-- ---- turns

-- Thread x makes the step as act number k and is answered this: its section and its levels are these then. Levels are closed, or
-- none is; or one is opened.
pub data SectionTurn {S : Type 0} (x : ThreadState S) (k : ℕ) (step : Step) (a : StepAnswer) (section : ℕ) (levels levels_then : List ℕ) : Type 0 where
  keeps : (j : ℕ) → (section ≡ x.section) ⊎ (levels_then ≡ []) → levels_then ≡ drop j levels → SectionTurn x k step a section levels levels_then
  opens_section : (s w : ℕ) → step ≡ OpenSection s w → a ≡ Done → nat_eq x.section 0 ≡ true → section ≡ s → levels_then ≡ k ∷ levels → SectionTurn x k step a section levels levels_then
  opens_inner : (w : ℕ) → step ≡ OpenLevel x.section w → a ≡ Done → nat_lt 0 x.section ≡ true → section ≡ x.section → levels_then ≡ k ∷ levels → SectionTurn x k step a section levels levels_then

module _ {S : Type 0} (code : Code S) (b : Bounds) (th : ThreadState S) (k : ℕ) (levels : List ℕ) where
  abbrev Turns : Step → StepAnswer → Change → Type 0
  Turns step a change = SectionTurn th k step a (changed code th change).section levels (levels_by k change levels)

  forgets : {step : Step} {a : StepAnswer} {then_ : List ℕ} (y : ThreadState S) → SectionTurn th k step a y.section levels then_ → SectionTurn th k step a (forgotten y).section levels then_
  forgets {step} {a} {then_} y turn = by_if (λ (z : ThreadState S). SectionTurn th k step a z.section levels then_) (is_open y) y (record y { log = []; saved = []; marks = [] }) (λ open_so. turn) (λ shut. turn)

  -- the section ends where its outermost level is undone
  undone_section : (n : ℕ) → (section_at n th.section ≡ th.section) ⊎ (drop (length levels - n) levels ≡ [])
  undone_section n = by_test (nat_eq n 0) refl
    where
      none : (m : ℕ) → nat_eq m 0 ≡ true → m ≡ 0
      none m is = grind (arith, common_steps, nat_tests)

      by_test : (t : Bool) → nat_eq n 0 ≡ t → (section_at n th.section ≡ th.section) ⊎ (drop (length levels - n) levels ≡ [])
      by_test true is = inr (ap (λ m. drop (length levels - m) levels) (none n is) ∙ outermost_none levels)
      by_test false is = inl (ap (λ t. if t then 0 else th.section) is)

  turn_of : {next : Next} {step : Step} {a : StepAnswer} {change : Change} → Row code b th next step a change → Turns step a change
  turn_of (is_lost {step = step} {v = v}) = by_area (place_of step)
    where
      by_area : (area : Area) → Turns step (StepAnswer.Lost v) (lost_on th area)
      by_area (Section s) = by_if (λ change. Turns step (StepAnswer.Lost v) change) (is_own_section th s) (goes Look) (goes Begin) (λ own. keeps 0 (inl refl) refl) (λ other. keeps 0 (inl refl) refl)
      by_area area = keeps 0 (inl refl) refl
  turn_of (own_stands {w = w} at looks live) = forgets (record th { pinned = pinned_of w; attempt = Checked }) (keeps 0 (inl refl) refl)
  turn_of (pins {next = wanted} unpinned lasts) = forgets (record th { pinned = th.levels; attempt = behind_pin th wanted }) (keeps 0 (inl refl) refl)
  turn_of (is_undone {w = w} at undo does) =
      forgets (without_level (record (stood_at th (revoke_of w)) { section = section_at (revoke_of w - 1) th.section; attempt = Begin }) (revoke_of w))
      (keeps (length levels - (revoke_of w - 1)) (undone_section (revoke_of w - 1)) refl)
  turn_of (section_opened {s = s} enters none some) = opens_section s _ refl refl none refl refl
  turn_of (level_opened {next = wanted} enters some needs room) =
      forgets (with_level (record th { attempt = Fixed (take_for th wanted th.section (suc th.levels)) })) (opens_inner _ refl refl some refl refl)
  turn_of (levels_closed {r = r} {depth = depth} closed) = forgets (with_levels (record th { attempt = Fixed (Release r) }) depth) (keeps (length levels - depth) (inl refl) refl)
  turn_of (section_left {r = r} at none) = forgets (with_levels (record (answered code th Reply.Done) { held = []; section = 0 }) 0) (keeps (length levels) (inr refl) (sym (drop_all (length levels) levels (whole (length levels)))))
    where
      whole : (n : ℕ) → n ≤ n
      whole n = omega arith
  turn_of row = keeps 0 (inl refl) refl

  counted_turn : {step : Step} {a : StepAnswer} {then_ : List ℕ} (by : Told) (y : ThreadState S) → SectionTurn th k step a y.section levels then_ → SectionTurn th k step a (counted_for by y).section levels then_
  counted_turn (advanced None) y turn = turn
  counted_turn (advanced (Some reply)) y turn = turn
  counted_turn born y turn = turn
  counted_turn other y turn = turn

-- ---- along a run

module _ {S : Type 0} (code : Code S) (b : Bounds) (first : S) (classes : ℕ) (c : ℕ → Core S) (acts : List Act) (run : IsLevelledRun code b first classes c acts) where
  ran : IsRun code b c acts
  ran = run.ordered.run

  abbrev LevelsAt : ℕ → Type 0
  LevelsAt k = (t : ℕ) (th : ThreadState S) → (c k).threads t ≡ Some th → AreLevelsOf c acts t th.section ((c k).levels t)

  did_levels : (k t : ℕ) (step : Step) (a : StepAnswer) → slice_get acts k ≡ Some (did t step a) → DidAt code b c k t step a → LevelsAt k → LevelsAt (suc k)
  did_levels k t step a here at before u uh there = by_step step refl (ap (λ (core : Core S). core.threads u) (sym at.leads) ∙ there)
    where
      within : k < length acts
      within = slice_get_within acts k (did t step a) here

      up : k ≤ length acts
      up = let low = within in omega (arith, low)

      counted : Counted code b first classes c acts run (c k)
      counted = counted_at code b first classes c acts run k up

      y : ThreadState S
      y = after_answer code b at.from step a

      levels_then : List ℕ
      levels_then = levels_by k (change_of code b at.from (code.next at.from.local) step a) ((c k).levels t)

      own_then : (c (suc k)).levels t ≡ levels_then
      own_then = ap (λ (core : Core S). core.levels t) at.leads ∙ own_levels code b first classes c acts run k within t step a here at counted

      others_then : (n : ℕ) → n ≢ t → (c (suc k)).levels n ≡ (c k).levels n
      others_then n other = ap (λ (core : Core S). core.levels n) at.leads ∙ other_levels code b first classes c acts run k within t step a here at counted n other

      turn : SectionTurn at.from k step a y.section ((c k).levels t) levels_then
      turn = counted_turn code b at.from k ((c k).levels t) (told code b at.from step a) (changed code at.from (change_of code b at.from (code.next at.from.local) step a))
          (turn_of code b at.from k ((c k).levels t) (answers_are_rows code b at.from step a ((facts_at code b c acts ran k up).fit t at.from at.stands).attempt at.move
          (subst (CanAnswer (effect_of step)) (sym at.answered) (words_can_answer (c k).words step))))

      zero_or : (n : ℕ) → nat_eq n 0 ≡ true → n ≡ 0
      zero_or n is = grind (arith, common_steps, nat_tests)

      empty : (levels : List ℕ) (n : ℕ) → length levels ≡ n → n ≡ 0 → levels ≡ []
      empty [] n same none = refl
      empty (p ∷ levels) n same none = absurd (no (length levels) n same none)
        where
          no : (l n : ℕ) → suc l ≡ n → n ≡ 0 → ⊥
          no l n same none = omega (arith, same, none)

      none_open : at.from.section ≡ 0 → (c k).levels t ≡ []
      none_open none = empty ((c k).levels t) at.from.levels (counted.there t at.from at.stands) (no_levels code b first classes c acts run at.from ((facts_at code b c acts ran k up).fit t at.from at.stands).kept none)

      some_open : nat_lt 0 at.from.section ≡ true → (levels : List ℕ) → (c k).levels t ≡ levels → levels ≢ []
      some_open some [] is = λ same. shut at.from.section at.from.levels some ((facts_at code b c acts ran k up).fit t at.from at.stands).kept.levels (sym (counted.there t at.from at.stands) ∙ ap length is)
        where
          shut : (s l : ℕ) → nat_lt 0 s ≡ true → nat_eq s 0 ≡ nat_eq l 0 → l ≡ 0 → ⊥
          shut s l some same none = differ (above s some) (zero_or s (same ∙ is_zero l none))
            where
              above : (s : ℕ) → nat_lt 0 s ≡ true → 0 < s
              above s some = grind (arith, common_steps, nat_tests)

              is_zero : (l : ℕ) → l ≡ 0 → nat_eq l 0 ≡ true
              is_zero l none = grind (arith, common_steps, nat_tests)

              differ : 0 < s → s ≡ 0 → ⊥
              differ some none = omega (arith, some, none)
      some_open some (p ∷ levels) is = λ same. full p levels same
        where
          full : (p : ℕ) (levels : List ℕ) → p ∷ levels ≡ [] → ⊥
          full p levels same = cc

      inside : (s w : ℕ) (levels : List ℕ) → levels ≢ [] → slice_get acts k ≡ Some (did t (OpenLevel s w) Done) → OpensInside acts t s k levels
      inside s w [] other opened = absurd (other refl)
      inside s w (p ∷ levels) other opened = (w, opened)

      -- the levels of the thread itself
      own_levels_then : SectionTurn at.from k step a y.section ((c k).levels t) levels_then → AreLevelsOf c acts t y.section levels_then
      own_levels_then (keeps j (inl same) less) = subst (λ s. AreLevelsOf c acts t s levels_then) (sym same) (subst (AreLevelsOf c acts t at.from.section) (sym less)
          (levels_drop c acts t at.from.section j ((c k).levels t) (before t at.from at.stands)))
      own_levels_then (keeps j (inr none) less) = subst (AreLevelsOf c acts t y.section) (sym none) tt
      own_levels_then (opens_section s w opens done none section more) =
          let no_level = none_open (zero_or at.from.section none) in
          subst (λ n. AreLevelsOf c acts t n levels_then) (sym section) (subst (AreLevelsOf c acts t s) (sym (more ∙ ap (λ l. k ∷ l) no_level))
          ((w, here ∙ ap (λ m. Some (did t m a)) opens ∙ ap (λ n. Some (did t (OpenSection s w) n)) done), no_level, tt))
      own_levels_then (opens_inner w opens done some section more) =
          subst (λ n. AreLevelsOf c acts t n levels_then) (sym section) (subst (AreLevelsOf c acts t at.from.section) (sym more) (
            inside at.from.section w ((c k).levels t) (some_open some ((c k).levels t) refl) (here ∙ ap (λ m. Some (did t m a)) opens ∙ ap (λ n. Some (did t (OpenLevel at.from.section w) n)) done),
            refl,
            before t at.from at.stands,
          ))

      others : (vh : ThreadState S) → set_at (c k).threads t (Some y) u ≡ Some vh → AreLevelsOf c acts u vh.section ((c (suc k)).levels u)
      others = each (λ (z : ThreadState S). AreLevelsOf c acts u z.section ((c (suc k)).levels u)) (c k).threads t y u
          (λ own. subst (λ n. AreLevelsOf c acts n y.section ((c (suc k)).levels n)) (sym own) (subst (AreLevelsOf c acts t y.section) (sym own_then) (own_levels_then turn)))
          (λ vh other at_v. subst (AreLevelsOf c acts u vh.section) (sym (others_then u other)) (before u vh at_v))

      by_step : (made : Step) → step ≡ made → threads_by code made at.from.local (set_at (c k).threads t (Some y)) u ≡ Some uh → AreLevelsOf c acts u uh.section ((c (suc k)).levels u)
      by_step (Split n r p) is there = each (λ (z : ThreadState S). AreLevelsOf c acts u z.section ((c (suc k)).levels u)) (set_at (c k).threads t (Some y)) n (first_state n p (code.child at.from.local r)) u
          (λ own. begun own) (λ vh other at_v. others vh at_v) uh there
        where
          -- a thread that begins has no level open
          begun : u ≡ n → AreLevelsOf c acts u 0 ((c (suc k)).levels u)
          begun own = subst (AreLevelsOf c acts u 0) (sym none) tt
            where
              none : (c (suc k)).levels u ≡ []
              none = empty ((c (suc k)).levels u) 0 ((counted_at code b first classes c acts run (suc k) within).there u uh there_then ∙ ap (λ (x : ThreadState S). x.levels) same) refl
                where
                  there_then : (c (suc k)).threads u ≡ Some uh
                  there_then = ap (λ (core : Core S). core.threads u) at.leads ∙ ap (λ m. threads_by code m at.from.local (set_at (c k).threads t (Some y)) u) is ∙ there

                  same : uh ≡ first_state n p (code.child at.from.local r)
                  same = same_first own there
                    where
                      same_first : u ≡ n → set_at (set_at (c k).threads t (Some y)) n (Some (first_state n p (code.child at.from.local r))) u ≡ Some uh → uh ≡ first_state n p (code.child at.from.local r)
                      same_first own there = each (λ (z : ThreadState S). (u ≡ n) → z ≡ first_state n p (code.child at.from.local r)) (set_at (c k).threads t (Some y)) n (first_state n p (code.child at.from.local r)) u
                          (λ is_n is_same. refl) (λ vh other at_v is_same. absurd (other is_same)) uh there own
      by_step made is there = others uh there

  act_levels : (k : ℕ) (act : Act) → slice_get acts k ≡ Some act → ActAt code b c k act → LevelsAt k → LevelsAt (suc k)
  act_levels k (quiet t) here at before u uh there = subst (AreLevelsOf c acts u uh.section) (ap (λ (core : Core S). core.levels u) (sym at.leads))
      (each (λ (z : ThreadState S). AreLevelsOf c acts u z.section ((c k).levels u)) (c k).threads t (after_quiet at.from at.local) u
      (λ own. subst (λ n. AreLevelsOf c acts n at.from.section ((c k).levels n)) (sym own) (before t at.from at.stands)) (λ vh other at_v. before u vh at_v) uh
      (ap (λ (core : Core S). core.threads u) (sym at.leads) ∙ there))
  act_levels k (did t step a) here at before u uh there = did_levels k t step a here at before u uh there
  act_levels k (beside t step a) here at before u uh there = subst (AreLevelsOf c acts u uh.section) (ap (λ (core : Core S). core.levels u) (sym at.leads))
      (before u uh (ap (λ (core : Core S). core.threads u) (sym at.leads) ∙ there))

  pub levels_at : (k : ℕ) → k ≤ length acts → LevelsAt k
  levels_at k within = along code b c acts ran.leads LevelsAt first_levels (λ n act here at before. act_levels n act here at before) k within
    where
      first_levels : LevelsAt 0
      first_levels t th at = subst (AreLevelsOf c acts t th.section) (sym (run.closed t)) tt

  -- a thread with a section has a level open
  pub some_levels : (k t : ℕ) (th : ThreadState S) → k ≤ length acts → (c k).threads t ≡ Some th → 0 < th.section → 0 < length ((c k).levels t)
  some_levels k t th within at some = subst (λ n. 0 < n) (sym ((counted_at code b first classes c acts run k within).there t th at)) (by_section th.section th.levels some ((facts_at code b c acts ran k within).fit t th at).kept.levels)
    where
      by_section : (s l : ℕ) → 0 < s → nat_eq s 0 ≡ nat_eq l 0 → 0 < l
      by_section s l some same = by_test (nat_eq l 0) refl
        where
          zero_or : (n : ℕ) → nat_eq n 0 ≡ true → n ≡ 0
          zero_or n is = grind (arith, common_steps, nat_tests)

          some_or : (n : ℕ) → nat_eq n 0 ≡ false → 0 < n
          some_or n is = grind (arith, common_steps, nat_tests)

          no : (s : ℕ) → 0 < s → s ≡ 0 → ⊥
          no s some none = omega (arith, some, none)

          by_test : (z : Bool) → nat_eq l 0 ≡ z → 0 < l
          by_test true is = absurd (no s some (zero_or s (same ∙ is)))
          by_test false is = some_or l is

  -- levels that are open were opened before
  pub opened_before : (k t v : ℕ) → k ≤ length acts → In v ((c k).levels t) → v < k
  opened_before k t v low there =
      let r = runs_in_levels code b first classes c acts run t in
      below k v (levels_in c acts t k) (falls (levels_in c acts t) (revoked_in c acts t) r.act r.is_run k)
      (subst (λ (core : Core S). In v (core.levels t)) (sym (at_place code b first classes c acts run k low)) there)

pub open_levels_are_of_sections : {S : Type 0} (code : Code S) → OpenLevelsAreOfSections code
open_levels_are_of_sections code b first classes c acts run k t th within at = levels_at code b first classes c acts run k within t th at
