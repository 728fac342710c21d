-- The levels of each thread are a run of levels, and what is revoked isn't pinned before.
use Rattle.std.proofs.Common.{◌≡◌, ◌≢◌, inl, inr, ℕ, zero, suc, ◌-◌, ◌<◌, ◌≤◌, ◌&&◌, Bool, true, false, true≢false, Option, None, Some, List, [], ◌∷◌, length, take, drop, nat_eq, refl, sym, ◌∙◌, ap, subst, arith}
use Rattle.std.specs.Prelude.{Contains, slice_get, nat_lt, if◌then◌else◌}
use Rattle.std.proofs.lemmas.Grind.{common_steps}
use Rattle.std.proofs.lemmas.Bool.Decides.{nat_tests}
use Rattle.std.proofs.lemmas.Option.{same_Some, slice_get_within}
use Rattle.op_core.specs.ThreadCode.{Code}
use Rattle.op_core.proofs.PointwiseLemmas.{same_or_other, set_at-hit}
use Rattle.heap_words.specs.declared.areas.Area.TheVariants.{Section}
use Rattle.section_state.specs.SectionWord.{state_of, pinned_of, depth_of, revoked_of, revoke_of}
use Rattle.step_port.specs.declared.answer.StepAnswer.{StepAnswer}
use Rattle.step_port.specs.declared.step.Step.{Step}
use Rattle.step_port.specs.declared.step.Step.TheVariants.{MarkUndone, Revoke, BreakLevel}
use Rattle.step_port.specs.Words.{Words}
use Rattle.thread_automaton.specs.declared.Bounds.{Bounds}
use Rattle.thread_automaton.specs.ThreadState.{ThreadState}
use Rattle.automaton_rows.proofs.PinLemmas.{steps_caused}
use Rattle.core_runs.specs.Cores.{Core, outermost, levels_by}
use Rattle.core_runs.specs.Acts.{Act, quiet, did, beside, DidAt, ActAt, mover}
use Rattle.core_runs.specs.Revoked.{RevokesAt, levels_from, IsDoomed}
use Rattle.section_laws.specs.LevelRun.{LevelAct, calm, opens_one, closes_all_but, is_revoked, is_undone, LevelAt, In, IsDoomedAt, IsLevel}
use Rattle.section_laws.proofs.level_runs.LevelLemmas.{doomed_are_unpinned}
use Rattle.section_laws.proofs.WordLemmas.{exchanged, put_section}
use Rattle.section_laws.proofs.DeedLemmas.{CanRevoke, contended, above}
use Rattle.section_laws.proofs.ClaimLemmas.{none_some}
use Rattle.section_laws.proofs.FactLemmas.{breaks}
use Rattle.section_laws.proofs.CoreRunLemmas.{none_there, in_front}
use Rattle.section_laws.proofs.RunLemmas.{act_at, along, facts_at}
use Rattle.section_laws.proofs.own_sections.WordLemmas.{depth_low, revoked_says}
use Rattle.thread_automaton.specs.Answers.{undone_at}
use Rattle.section_laws.proofs.own_sections.ViewLemmas.{undone_word}
use Rattle.section_laws.proofs.own_sections.SeenLemmas.{undoing_seen}
use Rattle.section_laws.proofs.own_sections.MoveLemmas.{own_at}
use Rattle.section_laws.specs.Levels.{IsLevelledRun, word_in, revoked_by, pinned_in, core_at, levels_in, revoked_in, depth_in, RunsInLevels, ThreadsRunInLevels, DoomedLevelsAreUnpinned}
use Rattle.section_laws.proofs.section_levels.RowLemmas.{LevelsGo, goes_out, goes_in, length_outermost}
use Rattle.section_laws.proofs.section_levels.TurnLemmas.{Between, calm_turn, unrevoked, turned}
use Rattle.section_laws.proofs.section_levels.RunLemmas.{TurnTo, Revokes, Undoes, Counted, counted_at, turn_at, is_run, no_levels, goes, own_levels, other_levels, kept_there}

-- ---- tests and lists

below_is : (m n : ℕ) → nat_lt m n ≡ true → m < n
below_is m n is = grind (arith, common_steps, nat_tests)

not_below : (m n : ℕ) → nat_lt m n ≡ false → n ≤ m
not_below m n is = grind (arith, common_steps, nat_tests)

same_size : (n : ℕ) → n ≤ n
same_size n = omega arith

pub in_drop : (j p : ℕ) (levels : List ℕ) → In p (drop j levels) → In p levels
in_drop zero p levels is = is
in_drop (suc j) p [] is = absurd is
in_drop (suc j) p (q ∷ levels) is = inr (in_drop j p levels is)

in_of : (p : ℕ) (levels : List ℕ) → Contains levels p → In p levels
in_of p [] there = none_there p there
in_of p (q ∷ levels) there = elim (in_front q p levels there) [ inl is ↦ inl (sym is) | inr rest ↦ inr (in_of p levels rest) ]

in_take : (j p : ℕ) (levels : List ℕ) → In p (take j levels) → In p levels
in_take zero p levels is = absurd is
in_take (suc j) p [] is = absurd is
in_take (suc j) p (q ∷ levels) is = elim is [ inl here ↦ inl here | inr more ↦ inr (in_take j p levels more) ]

pub level_in : (p d : ℕ) (levels : List ℕ) → IsLevel p d levels → In p levels
level_in p d [] is = absurd is
level_in p d (q ∷ levels) is = elim is [ inl here ↦ inl here.0 | inr more ↦ inr (level_in p d levels more) ]

pub full : (p : ℕ) (levels : List ℕ) → In p levels → 0 < length levels
full p [] is = absurd is
full p (q ∷ levels) is = omega arith

to_level_at : (levels : ℕ → List ℕ) (revoked : ℕ → Option ℕ) (k : ℕ) (act : LevelAct) → Between k (levels k) (levels (suc k)) (revoked k) (revoked (suc k)) act → LevelAt levels revoked k act
to_level_at levels revoked k calm between = between
to_level_at levels revoked k opens_one between = between
to_level_at levels revoked k (closes_all_but n) between = between
to_level_at levels revoked k (is_revoked n) between = between
to_level_at levels revoked k (is_undone n) between = between

-- an act after which the section is being undone, as it wasn't before, revokes it
some_is : (m n : ℕ) → Some m ≡ Some n → m ≡ n
some_is m n is = same_Some m n is

revoked_act : (levels : ℕ → List ℕ) (revoked : ℕ → Option ℕ) (k n : ℕ) (act : LevelAct) → LevelAt levels revoked k act → revoked k ≡ None → revoked (suc k) ≡ Some n → act ≡ is_revoked n
revoked_act levels revoked k n calm at none some = none_some n (sym none ∙ sym at.1 ∙ some)
revoked_act levels revoked k n opens_one at none some = none_some n (sym at.2 ∙ some)
revoked_act levels revoked k n (closes_all_but d) at none some = none_some n (sym at.2 ∙ some)
revoked_act levels revoked k n (is_revoked d) at none some = ap is_revoked (some_is d n (sym at.2 ∙ some))
revoked_act levels revoked k n (is_undone d) at none some = none_some n (sym at.2 ∙ some)

module _ {S : Type 0} (code : Code S) (b : Bounds) (first : S) (classes : ℕ) (c : ℕ → Core S) (acts : List Act) (run : IsLevelledRun code b first classes c acts) where
  abbrev count : ℕ
  count = length acts

  -- ---- the cores, and those after the last act

  at_here : (n : ℕ) → nat_lt n count ≡ true → core_at c acts n ≡ c n
  at_here n is = ap (λ t. c (if t then n else count)) is

  at_end : (n : ℕ) → nat_lt n count ≡ false → core_at c acts n ≡ c count
  at_end n is = ap (λ t. c (if t then n else count)) is

  pub at_place : (n : ℕ) → n ≤ count → core_at c acts n ≡ c n
  at_place n low = by_test (nat_lt n count) refl
    where
      last : (n d : ℕ) → n ≤ d → d ≤ n → d ≡ n
      last n d low high = omega (arith, low, high)

      by_test : (t : Bool) → nat_lt n count ≡ t → core_at c acts n ≡ c n
      by_test true is = at_here n is
      by_test false is = at_end n is ∙ ap c (last n count low (not_below n count is))

  -- ---- each act, and what comes after the last

  total_turn : (n z : ℕ) → TurnTo code b first classes c acts run n z (core_at c acts n) (core_at c acts (suc n))
  total_turn n z = by_test (nat_lt n count) refl
    where
      up : (n d : ℕ) → n < d → suc n ≤ d
      up n d is = omega (arith, is)

      later : (n d : ℕ) → d ≤ n → d ≤ suc n
      later n d is = omega (arith, is)

      above : (n d : ℕ) → d ≤ n → nat_lt n d ≡ false
      above n d is = grind (arith, common_steps, nat_tests)

      by_test : (t : Bool) → nat_lt n count ≡ t → TurnTo code b first classes c acts run n z (core_at c acts n) (core_at c acts (suc n))
      by_test true is =
          let within = below_is n count is in
          subst (λ core. TurnTo code b first classes c acts run n z core (core_at c acts (suc n))) (sym (at_here n is))
          (subst (λ core. TurnTo code b first classes c acts run n z (c n) core) (sym (at_place (suc n) (up n count within))) (turn_at code b first classes c acts run n z within))
      by_test false is =
          let ended = at_end n is in
          let same : core_at c acts (suc n) ≡ core_at c acts n = at_end (suc n) (above (suc n) count (later n count (not_below n count is))) ∙ sym ended in
          subst (λ core. TurnTo code b first classes c acts run n z (core_at c acts n) core) (sym same)
          (calm_turn n ((core_at c acts n).levels z) ((core_at c acts n).levels z) (revoked_in c acts z n) (revoked_in c acts z n) (depth_in c acts z n) (depth_in c acts z n)
          (Revokes code b first classes c acts run n z) (Undoes code b first classes c acts run n z) refl refl (inr (same_size (depth_in c acts z n))) (λ m at. refl))

  at_start : core_at c acts 0 ≡ c 0
  at_start = at_place 0 (omega arith)

  unrevoked_first : (z : ℕ) → revoked_by (word_in ((c 0).threads z) (c 0).words) ≡ None
  unrevoked_first z = by_option ((c 0).threads z) refl
    where
      by_option : (o : Option (ThreadState S)) → (c 0).threads z ≡ o → revoked_by (word_in o (c 0).words) ≡ None
      by_option None is = refl
      by_option (Some th) is = ap (λ (x : ThreadState S). revoked_by (word_in (Some x) (c 0).words)) ((is_run code b first classes c acts run).begins.threads z th is).3

  -- an act that undoes a level, of levels that then are others
  undone_act : (levels : ℕ → List ℕ) (revoked : ℕ → Option ℕ) (k n : ℕ) (act : LevelAct) → LevelAt levels revoked k act → revoked k ≡ Some n → (levels (suc k) ≡ levels k → ⊥)
      → (m : ℕ) × (act ≡ is_undone m)
  undone_act levels revoked k n calm at some other = absurd (other at.0)
  undone_act levels revoked k n opens_one at some other = none_some n (sym at.1 ∙ some)
  undone_act levels revoked k n (closes_all_but d) at some other = none_some n (sym at.1 ∙ some)
  undone_act levels revoked k n (is_revoked d) at some other = none_some n (sym at.1 ∙ some)
  undone_act levels revoked k n (is_undone d) at some other = (d, refl)

  notes_undone : (z k s w : ℕ) → slice_get acts k ≡ Some (did z (MarkUndone s w) StepAnswer.Done) → (m : ℕ) × ((total_turn k z).act ≡ is_undone m)
  notes_undone z k s w here =
      let within = slice_get_within acts k (did z (MarkUndone s w) StepAnswer.Done) here in
      let low : k ≤ length acts = omega (arith, within) in
      let at = act_at code b c acts k (did z (MarkUndone s w) StepAnswer.Done) (is_run code b first classes c acts run).leads here in
      let fits = (facts_at code b c acts (is_run code b first classes c acts run) k low).fit z at.from at.stands in
      let cause = steps_caused code b at.from (MarkUndone s w) fits.attempt at.move in
      let own = own_at code b c acts (is_run code b first classes c acts run) run.ordered.in_bits k low z at.from at.stands in
      let some = above at.from.section cause.undoing.section in
      let sees = (own.own some).sees cause.seen (ap undone_word cause.attempt) in
      let deep = undoing_seen code at.from (c k).words own fits cause.seen cause.attempt in
      let levels : (c (suc k)).levels z ≡ outermost (revoke_of cause.seen - 1) ((c k).levels z) =
      ap (λ (core : Core S). core.levels z) at.leads ∙ set_at-hit (c k).levels z (levels_by k (undone_at at.from.attempt) ((c k).levels z))
      ∙ ap (λ g. levels_by k (undone_at g) ((c k).levels z)) cause.attempt in
      let counted = (counted_at code b first classes c acts run k low).there z at.from at.stands in
      undone_act (levels_in c acts z) (revoked_in c acts z) k (revoke_of cause.seen) (total_turn k z).act
      (to_level_at (levels_in c acts z) (revoked_in c acts z) k (total_turn k z).act (total_turn k z).between)
      (ap (λ (core : Core S). revoked_by (word_in (core.threads z) core.words)) (at_place k low) ∙ ap (λ o. revoked_by (word_in o (c k).words)) at.stands
      ∙ ap (λ d. revoked_by (if d then None else Some ((c k).words (Section at.from.section)))) (some_section at.from.section some)
      ∙ ap (λ v. revoked_by (Some v)) sees.0 ∙ turned cause.seen sees.1)
      (λ same. fewer (length ((c k).levels z)) (revoke_of cause.seen) at.from.levels at.from.pinned deep.0 deep.1 counted
      (sym (length_outermost (revoke_of cause.seen - 1) ((c k).levels z) (few (revoke_of cause.seen) at.from.levels (length ((c k).levels z)) deep.1 counted))
      ∙ ap length (sym levels) ∙ ap (λ (core : Core S). length (core.levels z)) (sym (at_place (suc k) within)) ∙ ap length same ∙ ap (λ (core : Core S). length (core.levels z)) (at_place k low)))
    where
      some_section : (n : ℕ) → 0 < n → nat_eq n 0 ≡ false
      some_section n some = grind (arith, common_steps, nat_tests)

      few : (r n l : ℕ) → r ≤ n → l ≡ n → r - 1 ≤ l
      few r n l low is = omega (arith, low, is)

      fewer : (l r n p : ℕ) → p < r → r ≤ n → l ≡ n → r - 1 ≡ l → ⊥
      fewer l r n p deep low is same = omega (arith, deep, low, is, same)

  pub runs_in_levels : (z : ℕ) → RunsInLevels c acts z
  runs_in_levels z = record {
    act = λ n. (total_turn n z).act;
    is_run = (
      ap (λ (core : Core S). core.levels z) at_start ∙ run.closed z,
      ap (λ (core : Core S). revoked_by (word_in (core.threads z) core.words)) at_start ∙ unrevoked_first z,
      λ n. to_level_at (levels_in c acts z) (revoked_in c acts z) n (total_turn n z).act (total_turn n z).between,
    );
    pinned = λ n. record { rises = (total_turn n z).rises; above = λ m is. let by = (total_turn n z).by m is in (by.0, by.1); stays = (total_turn n z).stays };
    revokes = λ k n is. ((total_turn k z).by n is).2;
    undoes = λ k n is. (total_turn k z).undone n is;
    notes = λ k s w here. notes_undone z k s w here;
  }

pub threads_run_in_levels : {S : Type 0} (code : Code S) → ThreadsRunInLevels code
threads_run_in_levels code b first classes c acts run t = runs_in_levels code b first classes c acts run t

-- ---- what is revoked

module _ {S : Type 0} (code : Code S) (b : Bounds) (first : S) (classes : ℕ) (c : ℕ → Core S) (acts : List Act) (run : IsLevelledRun code b first classes c acts) where
  -- a level was opened by an act of its thread
  abbrev AreOwn : ℕ → Type 0
  AreOwn k = (t p : ℕ) → In p ((c k).levels t) → mover (slice_get acts p) ≡ t

  did_own : (k : ℕ) (within : k < length acts) (t : ℕ) (step : Step) (a : StepAnswer) (here : slice_get acts k ≡ Some (did t step a)) → (at : DidAt code b c k t step a) → AreOwn k → AreOwn (suc k)
  did_own k within t step a here at before u p there = elim (same_or_other u t) [
    | inr other ↦ before u p (subst (In p) (ap (λ (core : Core S). core.levels u) at.leads ∙ other_levels code b first classes c acts run k within t step a here at counted u other) there)
    | inl own ↦ by_levels (goes code b first classes c acts run k within t step a here at counted) own
        (subst (In p) (ap (c (suc k)).levels own ∙ ap (λ (core : Core S). core.levels t) at.leads ∙ own_levels code b first classes c acts run k within t step a here at counted) there)
  ]
    where
      low : k ≤ length acts
      low = omega (arith, within)

      counted : Counted code b first classes c acts run (c k)
      counted = counted_at code b first classes c acts run k low

      by_levels : {before_levels after_levels : ℕ} {behind : List ℕ} → LevelsGo step k before_levels after_levels ((c k).levels t) behind → u ≡ t → In p behind → mover (slice_get acts p) ≡ u
      by_levels {after_levels = after_levels} (goes_out few kept) own is =
          before t p (in_drop (length ((c k).levels t) - after_levels) p ((c k).levels t) (subst (In p) kept is)) ∙ sym own
      by_levels (goes_in opening more kept) own is = elim (subst (In p) kept is) [
        | inl new ↦ ap (λ n. mover (slice_get acts n)) new ∙ ap mover here ∙ sym own
        | inr old ↦ before t p old ∙ sym own
      ]

  act_own : (k : ℕ) (within : k < length acts) (act : Act) → slice_get acts k ≡ Some act → ActAt code b c k act → AreOwn k → AreOwn (suc k)
  act_own k within (quiet t) here at before u p there = before u p (subst (In p) (ap (λ (core : Core S). core.levels u) at.leads) there)
  act_own k within (did t step a) here at before u p there = did_own k within t step a here at before u p there
  act_own k within (beside t step a) here at before u p there = before u p (subst (In p) (ap (λ (core : Core S). core.levels u) at.leads) there)

  first_own : AreOwn 0
  first_own t p there = absurd (subst (In p) (run.closed t) there)

  own_places : (k : ℕ) → k ≤ length acts → AreOwn k
  own_places k within =
      along code b c acts (is_run code b first classes c acts run).leads AreOwn first_own (λ n act here at before. act_own n (slice_get_within acts n act here) act here at before) k within

  -- the section of a thread that has a level open
  pub has_section : (k t p : ℕ) (th : ThreadState S) → k ≤ length acts → (c k).threads t ≡ Some th → In p ((c k).levels t) → 0 < th.section
  has_section k t p th within at there = by_test (nat_eq th.section 0) refl
    where
      is_zero : (n : ℕ) → nat_eq n 0 ≡ true → n ≡ 0
      is_zero n is = grind (arith, common_steps, nat_tests)

      some : (n : ℕ) → nat_eq n 0 ≡ false → 0 < n
      some n is = grind (arith, common_steps, nat_tests)

      no : (n d : ℕ) → 0 < n → n ≡ d → d ≡ 0 → ⊥
      no n d above is none = omega (arith, above, is, none)

      by_test : (t : Bool) → nat_eq th.section 0 ≡ t → 0 < th.section
      by_test true is = absurd (no (length ((c k).levels t)) th.levels (full p ((c k).levels t) there) ((counted_at code b first classes c acts run k within).there t th at)
          (no_levels code b first classes c acts run th ((facts_at code b c acts (is_run code b first classes c acts run) k within).fit t th at).kept (is_zero th.section is)))
      by_test false is = some th.section is

  -- with an act that revokes the section of thread t to level n, the word goes from a live one to one that is being undone
  record Revoked (j t n : ℕ) (th : ThreadState S) : Type 0 where
    can : CanRevoke ((c j).words (Section th.section)) n
    word : (c (suc j)).words (Section th.section) ≡ revoked_of ((c j).words (Section th.section)) n
    stays : (c (suc j)).threads t ≡ Some th

  revoked_at : (j t n : ℕ) (th : ThreadState S) → (c j).threads t ≡ Some th → 0 < th.section → RevokesAt acts j th.section n → Revoked j t n th
  revoked_at j t n th there some (u, old, is) = elim is [
    | inl here ↦ by_thread here (act_at code b c acts j (did u (Revoke th.section old n) StepAnswer.Done) (is_run code b first classes c acts run).leads here)
    | inr here ↦
        let at = act_at code b c acts j (beside u (BreakLevel th.section old n) StepAnswer.Done) (is_run code b first classes c acts run).leads here in
        let e = exchanged (c j).words (Section th.section) old (revoked_of old n) at.answered in
        record {
          can = subst (λ w. CanRevoke w n) (sym e.found) (breaks old n at.is);
          word = ap (λ (core : Core S). core.words (Section th.section)) at.leads ∙ ap (λ (v : Words). v (Section th.section)) e.leaves ∙ put_section (c j).words th.section (revoked_of old n)
              ∙ ap (λ w. revoked_of w n) (sym e.found);
          stays = ap (λ (core : Core S). core.threads t) at.leads ∙ there;
        }
  ]
    where
      own_so : (s m : ℕ) → 0 < s → m ≡ s → (nat_lt 0 s && nat_eq m s) ≡ true
      own_so s m some is = ap (λ t. t && nat_eq m s) (above s some) ∙ equal m s is
        where
          above : (s : ℕ) → 0 < s → nat_lt 0 s ≡ true
          above s some = grind (arith, common_steps, nat_tests)

          equal : (m s : ℕ) → m ≡ s → nat_eq m s ≡ true
          equal m s is = grind (arith, common_steps, nat_tests)

      by_thread : slice_get acts j ≡ Some (did u (Revoke th.section old n) StepAnswer.Done) → DidAt code b c j u (Revoke th.section old n) StepAnswer.Done → Revoked j t n th
      by_thread here at =
          let within = slice_get_within acts j (did u (Revoke th.section old n) StepAnswer.Done) here in
          let low : j ≤ length acts = omega (arith, within) in
          let fits = ((facts_at code b c acts (is_run code b first classes c acts run) j low).fit u at.from at.stands).attempt in
          let cause = steps_caused code b at.from (Revoke th.section old n) fits at.move in
          let e = exchanged (c j).words (Section th.section) old (revoked_of old n) at.answered in
          let other : t ≢ u = λ same. true≢false (sym (own_so at.from.section th.section
          (subst (λ m. 0 < m) (ap (λ (x : ThreadState S). x.section) (same_Some th at.from (sym there ∙ ap (c j).threads same ∙ at.stands))) some)
          (ap (λ (x : ThreadState S). x.section) (same_Some th at.from (sym there ∙ ap (c j).threads same ∙ at.stands)))) ∙ cause.by_another) in
          record {
            can = subst (λ w. CanRevoke w n) (sym e.found) (contended old n at.from.priority cause.revoke);
            word = ap (λ (core : Core S). core.words (Section th.section)) at.leads ∙ ap (λ (v : Words). v (Section th.section)) e.leaves ∙ put_section (c j).words th.section (revoked_of old n)
                ∙ ap (λ w. revoked_of w n) (sym e.found);
            stays = ap (λ (core : Core S). core.threads t) at.leads
                ∙ kept_there code b first classes c acts run j within u (Revoke th.section old n) StepAnswer.Done here at (counted_at code b first classes c acts run j low) t th other there;
          }

  not_zero : (n : ℕ) → 0 < n → nat_eq n 0 ≡ false
  not_zero n some = grind (arith, common_steps, nat_tests)

  -- what is revoked then or later is so in the run of levels of its thread
  pub doomed_at : (t p k : ℕ) → k ≤ length acts → In p ((c k).levels t) → IsDoomed c acts p → IsDoomedAt (levels_in c acts t) (runs_in_levels code b first classes c acts run t).act p
  doomed_at t p k within there doomed =
      let r = runs_in_levels code b first classes c acts run t in
      let place = doomed.place in
      let is_within : place < length acts = revokes_within doomed.revokes in
      let low : place ≤ length acts = omega (arith, is_within) in
      let was_in : In p ((c place).levels doomed.thread) = in_take (suc (length ((c place).levels doomed.thread)) - doomed.level) p ((c place).levels doomed.thread)
      (in_of p (levels_from doomed.level ((c place).levels doomed.thread)) doomed.was_open) in
      let same : doomed.thread ≡ t = sym (own_places place low doomed.thread p was_in) ∙ own_places k within t p there in
      let stands : (c place).threads t ≡ Some doomed.th = ap (c place).threads (sym same) ∙ doomed.stands in
      let some = has_section place t p doomed.th low stands (subst (λ u. In p ((c place).levels u)) same was_in) in
      let turn = revoked_at place t doomed.level doomed.th stands some (subst (λ s. RevokesAt acts place s doomed.level) (sym doomed.own) doomed.revokes) in (
        place,
        doomed.level,
        revoked_act (levels_in c acts t) (revoked_in c acts t) place doomed.level (r.act place) (r.is_run.2 place)
            (ap (λ (core : Core S). revoked_by (word_in (core.threads t) core.words)) (at_place code b first classes c acts run place low) ∙ live place t doomed.th stands some turn.can.0)
            (ap (λ (core : Core S). revoked_by (word_in (core.threads t) core.words)) (at_place code b first classes c acts run (suc place) is_within) ∙ turned_to place t doomed.level doomed.th some turn),
        subst (λ l. In p (levels_from doomed.level l)) (ap (c place).levels same ∙ ap (λ (core : Core S). core.levels t) (sym (at_place code b first classes c acts run place low)))
            (in_of p (levels_from doomed.level ((c place).levels doomed.thread)) doomed.was_open),
      )
    where
      revokes_within : {j s n : ℕ} → RevokesAt acts j s n → j < length acts
      revokes_within {j} (u, old, is) = elim is [ inl here ↦ slice_get_within acts j _ here | inr here ↦ slice_get_within acts j _ here ]

      no_three : (n : ℕ) → n ≡ 1 → n ≡ 3 → ⊥
      no_three n one three = omega (arith, one, three)

      live : (j t : ℕ) (th : ThreadState S) → (c j).threads t ≡ Some th → 0 < th.section → state_of ((c j).words (Section th.section)) ≡ 1 → revoked_by (word_in ((c j).threads t) (c j).words) ≡ None
      live j t th at some is = ap (λ o. revoked_by (word_in o (c j).words)) at ∙ ap (λ d. revoked_by (if d then None else Some ((c j).words (Section th.section)))) (not_zero th.section some)
          ∙ unrevoked ((c j).words (Section th.section)) (state_of ((c j).words (Section th.section))) refl (no_three (state_of ((c j).words (Section th.section))) is)

      low_depth : (m n : ℕ) → m ≤ n → n < 256 → m < 256
      low_depth m n low below = omega (arith, low, below)

      turned_to : (j t n : ℕ) (th : ThreadState S) → 0 < th.section → Revoked j t n th → revoked_by (word_in ((c (suc j)).threads t) (c (suc j)).words) ≡ Some n
      turned_to j t n th some turn =
          let old = (c j).words (Section th.section) in
          let now = revoked_says old n (low_depth n (depth_of old) turn.can.2 (depth_low old)) in
          ap (λ o. revoked_by (word_in o (c (suc j)).words)) turn.stays ∙ ap (λ d. revoked_by (if d then None else Some ((c (suc j)).words (Section th.section)))) (not_zero th.section some)
          ∙ ap (λ v. revoked_by (Some v)) turn.word ∙ turned (revoked_of old n) now.1.0 ∙ ap Some now.1.5

  pub unpinned : (p d k t : ℕ) (th : ThreadState S) → k ≤ length acts → (c k).threads t ≡ Some th → IsDoomed c acts p → IsLevel p d ((c k).levels t)
      → pinned_of ((c k).words (Section th.section)) < d
  unpinned p d k t th within at doomed is =
      let r = runs_in_levels code b first classes c acts run t in
      let there = level_in p d ((c k).levels t) is in
      let some = has_section k t p th within at there in
      let low = doomed_are_unpinned (levels_in c acts t) (revoked_in c acts t) r.act (depth_in c acts t) r.is_run r.pinned p d k (doomed_at t p k within there doomed)
      (subst (IsLevel p d) (ap (λ (core : Core S). core.levels t) (sym (at_place code b first classes c acts run k within))) is) in
      subst (λ n. n < d) (ap (λ (core : Core S). pinned_in (core.threads t) core.words) (at_place code b first classes c acts run k within) ∙ ap (λ o. pinned_in o (c k).words) at
      ∙ ap (λ z. if z then th.pinned else pinned_of ((c k).words (Section th.section))) (not_zero th.section some)) low

pub doomed_levels_are_unpinned : {S : Type 0} (code : Code S) → DoomedLevelsAreUnpinned code
doomed_levels_are_unpinned code b first classes c acts run p d k t th within at doomed is = unpinned code b first classes c acts run p d k t th within at doomed is
