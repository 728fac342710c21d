-- What threads have logged carries their tags, at each place of a run.
use Rattle.std.proofs.Common.{◌≡◌, inl, ℕ, zero, suc, ◌+◌, ◌-◌, ◌<◌, ◌≤◌, Bool, true, false, Some, List, [], ◌∷◌, length, drop, nat_eq, refl, sym, ◌∙◌, ap, subst, arith}
use Rattle.std.specs.Prelude.{slice_get, nat_lt}
use Rattle.std.proofs.lemmas.Grind.{common_steps}
use Rattle.std.proofs.lemmas.Bool.Decides.{nat_tests}
use Rattle.std.proofs.lemmas.Option.{slice_get_within}
use Rattle.op_core.specs.ThreadCode.{Code}
use Rattle.op_core.specs.OrdinaryState.{set_at}
use Rattle.heap_words.specs.declared.areas.Area.TheVariants.{Section}
use Rattle.section_state.specs.SectionWord.{pinned_of, revoke_of}
use Rattle.write_log.specs.declared.Noted.{Noted}
use Rattle.step_port.specs.declared.answer.StepAnswer.{StepAnswer}
use Rattle.step_port.specs.declared.step.Step.{Step}
use Rattle.step_port.specs.declared.step.Step.TheVariants.{Split}
use Rattle.step_port.specs.Words.{Words}
use Rattle.thread_automaton.specs.declared.Bounds.{Bounds}
use Rattle.thread_automaton.specs.declared.Attempt.{Attempt}
use Rattle.thread_automaton.specs.declared.Attempt.TheVariants.{Undoing}
use Rattle.thread_automaton.specs.ThreadState.{ThreadState, Mark, no_mark, nth_or, first_state, mark_of, noted_since}
use Rattle.thread_automaton.specs.Told.{after_answer, after_quiet}
use Rattle.core_runs.specs.Cores.{Core, threads_by}
use Rattle.core_runs.specs.Acts.{Act, quiet, did, beside, DidAt, ActAt}
use Rattle.section_laws.specs.Runs.{IsRun}
use Rattle.section_laws.proofs.FactLemmas.{each}
use Rattle.section_laws.proofs.RunLemmas.{along, facts_at}
use Rattle.section_laws.proofs.own_sections.SeenLemmas.{undoing_seen}
use Rattle.section_laws.proofs.own_sections.MoveLemmas.{own_at, own_words_are_known}
use Rattle.section_laws.specs.Marks.{counting_marks}
use Rattle.section_laws.proofs.level_marks.RowLemmas.{all_count}
use Rattle.section_laws.proofs.level_marks.RunLemmas.{marks_are_there}
use Rattle.section_laws.proofs.run_layout.RunLemmas.{beside_object}
use Rattle.first_law.specs.Held.{top_at}
use Rattle.first_law.proofs.run_monitors.KeptLemmas.{top_all}
use Rattle.first_law.proofs.run_monitors.ThreadLemmas.{quiet_calm}
use Rattle.first_law.proofs.run_monitors.RunLemmas.{so_at}
use Rattle.first_law.proofs.run_monitors.DidLemmas as dids
use Rattle.written_words.specs.Noted.{IsTaggedRun, heap_of, AreOwnFrom, NotedWordsAreOwn}
use Rattle.written_words.proofs.noted_words.PartLemmas.{PartsAreOwn, parts_dropped, part_first}
use Rattle.written_words.proofs.noted_words.TurnLemmas.{top_of}
use Rattle.written_words.proofs.noted_words.StepLemmas as steps
use Rattle.written_words.proofs.noted_words.StepLemmas.{OwnParts}
use Rattle.written_words.proofs.noted_words.DidLemmas.{others_kept, own_kept}

module _ {S : Type 0} (code : Code S) (b : Bounds) (is_thread : ℕ → Bool) (first : S) (classes : ℕ) (c : ℕ → Core S) (acts : List Act) (run : IsTaggedRun code b is_thread first classes c acts) where
  ran : IsRun code b c acts
  ran = run.monitors.levelled.ordered.run

  abbrev NotedAt : ℕ → Type 0
  NotedAt k = steps.NotedAt code b is_thread first classes c acts run k

  -- a thread that begins has logged nothing
  begun : (number priority : ℕ) (l : S) (w : Words) → OwnParts (first_state number priority l) w
  begun number priority l w live = tt

  did_noted : (k t : ℕ) (step : Step) (a : StepAnswer) → slice_get acts k ≡ Some (did t step a) → DidAt code b c k t step a → NotedAt k → NotedAt (suc k)
  did_noted k t step a here at before u uh there = by_step step refl (ap (λ (core : Core S). core.threads u) (sym at.leads) ∙ there)
    where
      within : k < length acts
      within = slice_get_within acts k (did t step a) here

      y : ThreadState S
      y = after_answer code b at.from step a

      own_there : (c (suc k)).threads t ≡ Some (after_answer code b at.from step a)
      own_there = ap (λ (core : Core S). core.threads t) at.leads
          ∙ dids.own_there code b first classes c acts run.monitors k within t step a here at (so_at code b first classes c acts run.monitors k (omega (arith, within)))

      others : (vh : ThreadState S) → set_at (c k).threads t (Some (after_answer code b at.from step a)) u ≡ Some vh → OwnParts vh (c (suc k)).words
      others = each (λ (z : ThreadState S). OwnParts z (c (suc k)).words) (c k).threads t (after_answer code b at.from step a) u
          (λ own. own_kept code b is_thread first classes c acts run k t step a here at before own_there)
          (λ vh other at_v. others_kept code b is_thread first classes c acts run k t step a here at before u vh other at_v)

      by_step : (made : Step) → step ≡ made → threads_by code made at.from.local (set_at (c k).threads t (Some (after_answer code b at.from step a))) u ≡ Some uh → OwnParts uh (c (suc k)).words
      by_step (Split n r p) is there = each (λ (z : ThreadState S). OwnParts z (c (suc k)).words) (set_at (c k).threads t (Some (after_answer code b at.from step a))) n (first_state n p (code.child at.from.local r)) u
          (λ own. begun n p (code.child at.from.local r) (c (suc k)).words) (λ vh other at_v. others vh at_v) uh there
      by_step made is there = others uh there

  -- words of objects stay with a silent move, and with a step beside those of threads
  still : (k t : ℕ) (th : ThreadState S) → k < length acts → NotedAt k → ((q : ℕ) → heap_of (c (suc k)).words q ≡ heap_of (c k).words q) → (c k).threads t ≡ Some th → OwnParts th (c (suc k)).words
  still k t th within before same there = steps.kept_parts code b is_thread first classes c acts run k t th within before there (λ some live q has. inl (same q))

  act_noted : (k : ℕ) (act : Act) → slice_get acts k ≡ Some act → ActAt code b c k act → NotedAt k → NotedAt (suc k)
  act_noted k (quiet t) here at before u uh there =
      each (λ (z : ThreadState S). OwnParts z (c (suc k)).words) (c k).threads t (after_quiet at.from at.local) u
      (λ own. moved) (λ vh other at_v. still k u vh (slice_get_within acts k (quiet t) here) before same at_v) uh (ap (λ (core : Core S). core.threads u) (sym at.leads) ∙ there)
    where
      same : (q : ℕ) → heap_of (c (suc k)).words q ≡ heap_of (c k).words q
      same q = ap (λ (core : Core S). heap_of core.words q) at.leads

      moved : OwnParts (after_quiet at.from at.local) (c (suc k)).words
      moved live =
          let calm = quiet_calm code b at.from at.move in
          subst (λ n. PartsAreOwn at.from.section (pinned_of ((c (suc k)).words (Section at.from.section))) n at.from.marks at.from.log (heap_of (c (suc k)).words)) (top_all at.from.attempt at.from.levels calm)
          (subst (λ ms. PartsAreOwn at.from.section (pinned_of ((c (suc k)).words (Section at.from.section))) (top_of at.from) ms at.from.log (heap_of (c (suc k)).words)) (all_count at.from.attempt at.from.levels at.from.marks calm)
          (still k t at.from (slice_get_within acts k (quiet t) here) before same at.stands live))
  act_noted k (did t step a) here at before u uh there = did_noted k t step a here at before u uh there
  act_noted k (beside t step a) here at before u uh there =
      still k u uh (slice_get_within acts k (beside t step a) here) before (λ q. ap (λ (core : Core S). heap_of core.words q) at.leads ∙ beside_object step at.is (c k).words q)
      (ap (λ (core : Core S). core.threads u) (sym at.leads) ∙ there)

  first_noted : NotedAt 0
  first_noted t th at = let begins = ran.begins.threads t th at in subst (λ (z : ThreadState S). OwnParts z (c 0).words) (sym begins.3) (begun begins.0 begins.1 begins.2 (c 0).words)

  pub noted_at : (k : ℕ) → k ≤ length acts → NotedAt k
  noted_at k within = along code b c acts ran.leads NotedAt first_noted (λ n act here at before. act_noted n act here at before) k within

-- ---- one level

drop_none : {A : Type 0} (n : ℕ) → drop {A = A} n [] ≡ []
drop_none zero = refl
drop_none (suc n) = refl

drop_sum : {A : Type 0} (i j : ℕ) (xs : List A) → drop i (drop j xs) ≡ drop (i + j) xs
drop_sum i zero xs = ap (λ n. drop n xs) (whole i)
  where
    whole : (n : ℕ) → n ≡ n + 0
    whole n = omega arith
drop_sum i (suc j) [] = drop_none i ∙ sym (drop_none (i + suc j))
drop_sum i (suc j) (x ∷ xs) = drop_sum i j xs ∙ ap (λ n. drop n (x ∷ xs)) (next i j)
  where
    next : (i j : ℕ) → suc (i + j) ≡ i + suc j
    next i j = omega arith

part_of_level : (s pinned n seen levels : ℕ) (g : Attempt) (marks : List Mark) (log : List Noted) (heap : ℕ → ℕ) → seen ≤ pinned → pinned < n → n ≤ top_at g levels → top_at g levels ≤ levels
    → (nat_lt seen levels ≡ true → levels ≤ seen + length marks) → PartsAreOwn s pinned (top_at g levels) (counting_marks g levels marks) log heap
    → AreOwnFrom s n heap (noted_since (nth_or no_mark (levels - n) marks).noted log)
part_of_level s pinned n seen levels g marks log heap up deep low top there parts = by_attempt g low top parts
  where
    unpinned : (m l : ℕ) → m < l → nat_lt m l ≡ true
    unpinned m l less = grind (arith, common_steps, nat_tests)

    inside : (t : ℕ) → n ≤ t → t ≤ levels → levels - n < length marks
    inside t low top = let many = there (unpinned seen levels (omega (arith, up, deep, low, top))) in omega (arith, up, deep, low, top, many)

    back : (l m : ℕ) → m ≤ l → l - (l - m) ≡ m
    back l m low = omega (arith, low)

    sum : (t l m : ℕ) → m ≤ t → t ≤ l → (t - m) + (l - t) ≡ l - m
    sum t l m low top = omega (arith, low, top)

    by_attempt : (g : Attempt) → n ≤ top_at g levels → top_at g levels ≤ levels → PartsAreOwn s pinned (top_at g levels) (counting_marks g levels marks) log heap
        → AreOwnFrom s n heap (noted_since (nth_or no_mark (levels - n) marks).noted log)
    by_attempt (Undoing w) low top parts = part_first s pinned n (levels - n) marks log heap (inside (revoke_of w) low top) deep
        (subst (λ ms. PartsAreOwn s pinned n ms log heap) (drop_sum (revoke_of w - n) (levels - revoke_of w) marks ∙ ap (λ j. drop j marks) (sum (revoke_of w) levels n low top))
        (subst (λ m. PartsAreOwn s pinned m (drop (revoke_of w - n) (drop (levels - revoke_of w) marks)) log heap) (back (revoke_of w) n low)
        (parts_dropped s pinned (revoke_of w) (revoke_of w - n) (drop (levels - revoke_of w) marks) log heap parts)))
    by_attempt g low top parts = part_first s pinned n (levels - n) marks log heap (inside levels low top) deep
        (subst (λ m. PartsAreOwn s pinned m (drop (levels - n) marks) log heap) (back levels n low) (parts_dropped s pinned levels (levels - n) marks log heap parts))

top_low : {S : Type 0} (code : Code S) (b : Bounds) (is_thread : ℕ → Bool) (first : S) (classes : ℕ) (c : ℕ → Core S) (acts : List Act) → IsTaggedRun code b is_thread first classes c acts
    → (k t : ℕ) (th : ThreadState S) → k ≤ length acts → (c k).threads t ≡ Some th → top_of th ≤ th.levels
top_low code b is_thread first classes c acts run k t th within there = by_attempt th.attempt refl
  where
    by_attempt : (g : Attempt) → th.attempt ≡ g → top_at g th.levels ≤ th.levels
    by_attempt (Undoing w) is = (undoing_seen code th (c k).words (own_at code b c acts run.monitors.levelled.ordered.run run.monitors.levelled.ordered.in_bits k within t th there)
        ((facts_at code b c acts run.monitors.levelled.ordered.run k within).fit t th there) w is).1
    by_attempt g is = omega arith

pub noted_words_are_own : {S : Type 0} (code : Code S) → NotedWordsAreOwn code
noted_words_are_own code b is_thread first classes c acts run k t n th within there live deep low = by_section (nat_eq th.section 0) refl
  where
    zero_or : (m : ℕ) → nat_eq m 0 ≡ true → m ≡ 0
    zero_or m is = grind (arith, common_steps, nat_tests)

    some_or : (m : ℕ) → nat_eq m 0 ≡ false → 0 < m
    some_or m is = grind (arith, common_steps, nat_tests)

    no_level : (p top : ℕ) → top ≡ 0 → p < n → n ≤ top → ⊥
    no_level p top none deep low = omega (arith, none, deep, low)

    by_section : (z : Bool) → nat_eq th.section 0 ≡ z → AreOwnFrom th.section n (heap_of (c k).words) (noted_since (mark_of th n).noted th.log)
    by_section true is = absurd (no_level (pinned_of ((c k).words (Section th.section))) (top_of th)
        (steps.no_top code b is_thread first classes c acts run k t th within there (zero_or th.section is)) deep low)
    by_section false is = part_of_level th.section (pinned_of ((c k).words (Section th.section))) n th.pinned th.levels th.attempt th.marks th.log (heap_of (c k).words)
        (own_words_are_known code b c acts run.monitors.levelled.ordered.run run.monitors.levelled.ordered.in_bits k t th within there (some_or th.section is)).0.pinned
        deep low (top_low code b is_thread first classes c acts run k t th within there)
        (marks_are_there code b first classes c acts run.monitors.levelled.ordered k t th within there) (noted_at code b is_thread first classes c acts run k within t th there live)
