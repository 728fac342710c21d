-- Sections that are live or revoking, along a run.
use Rattle.std.proofs.Common.{◌≡◌, ◌⊎◌, inl, inr, ℕ, zero, suc, ◌+◌, ◌-◌, ◌<◌, ◌≤◌, Bool, true, false, Option, None, Some, List, length, nat_eq, refl, sym, ◌∙◌, ap, subst, arith}
use Rattle.std.specs.Prelude.{slice_get, nat_lt, if◌then◌else◌}
use Rattle.std.proofs.lemmas.Grind.{common_steps}
use Rattle.std.proofs.lemmas.Bool.Decides.{nat_tests, leb_tells}
use Rattle.std.proofs.lemmas.Option.{same_Some, slice_get_within}
use Rattle.op_core.specs.ThreadCode.{Code}
use Rattle.op_core.specs.OrdinaryState.{set_at}
use Rattle.op_core.proofs.PointwiseLemmas.{same_or_other, set_at-hit, set_at-other}
use Rattle.heap_words.specs.declared.areas.Area.TheVariants.{Section}
use Rattle.section_state.specs.SectionWord.{state_of, revoke_of}
use Rattle.step_port.specs.declared.answer.StepAnswer.{StepAnswer}
use Rattle.step_port.specs.declared.step.Step.{Step}
use Rattle.step_port.specs.Words.{words_after}
use Rattle.thread_automaton.specs.declared.Bounds.{Bounds}
use Rattle.thread_automaton.specs.ThreadState.{ThreadState}
use Rattle.thread_automaton.specs.Told.{after_answer, after_quiet}
use Rattle.core_runs.specs.Cores.{Core, core_after}
use Rattle.core_runs.specs.Acts.{Act, quiet, did, beside, QuietAt, DidAt, BesideAt, ActAt}
use Rattle.core_runs.specs.Revoked.{IsDoomed}
use Rattle.section_laws.specs.LevelRun.{LevelAct, is_revoked, LevelAt, IsLevelRun, In, IsDoomedAt}
use Rattle.section_laws.proofs.level_runs.LevelLemmas.{below, falls, open_since, was, Since, keeps_on, is_gone, since}
use Rattle.section_laws.specs.Runs.{IsRun}
use Rattle.section_laws.proofs.WordLemmas.{state_of_zero}
use Rattle.section_laws.proofs.ClaimLemmas.{none_some}
use Rattle.section_laws.proofs.SectionLemmas.{zero_no_section}
use Rattle.section_laws.proofs.RunLemmas.{along, act_at, get_some}
use Rattle.section_laws.specs.Moves.{Move}
use Rattle.section_laws.proofs.own_sections.ViewLemmas.{view}
use Rattle.section_laws.proofs.own_sections.OwnLemmas.{Own}
use Rattle.section_laws.proofs.own_sections.MoveLemmas.{own_at, deed_here, moves_at, beside_touch}
use Rattle.section_laws.specs.Levels.{IsLevelledRun, word_in, revoked_by, core_at, levels_in, revoked_in}
use Rattle.section_laws.proofs.section_levels.RunLemmas.{Counted, counted_at, own_there, kept_there}
use Rattle.section_laws.proofs.section_levels.TurnLemmas.{unrevoked}
use Rattle.section_laws.proofs.section_levels.LevelLemmas.{at_place, runs_in_levels, has_section, doomed_at}
use Rattle.section_laws.specs.OpenSections.{IsLiveOrRevoking, IsOpenBy, OpenSectionsHaveThreads, SaysOfRevoking, WordsSayOfRevoking, DoomedSectionsAreOpen}
use Rattle.section_laws.proofs.open_sections.WordLemmas.{move_says}
use Rattle.section_laws.proofs.open_sections.DeedLemmas.{touch_back, SectionGoes, section_goes}

revoke_of_zero : revoke_of 0 ≡ 0
unfolding revoke_of
revoke_of_zero = refl

-- ---- levels by themselves: what is so from some place on while a level is open, and isn't so where its section is revoked

module _ (levels : ℕ → List ℕ) (revoked : ℕ → Option ℕ) (act : ℕ → LevelAct) (is_level_run : IsLevelRun levels revoked act) (p : ℕ) (doomed : IsDoomedAt levels act p) (Ended : ℕ → Type 0)
    (stays : (k : ℕ) → Ended k → In p (levels k) → In p (levels (suc k)) → Ended (suc k)) (unturned_by : (k n : ℕ) → act k ≡ is_revoked n → Ended k → ⊥)
    (unturned : (k n : ℕ) → revoked k ≡ Some n → Ended k → ⊥) where
  open_at : (k : ℕ) → p < k → k ≤ doomed.0 → In p (levels k)
  open_at k low_k up = open_since levels revoked act is_level_run p doomed.0 k low_k up (was levels revoked act is_level_run p doomed)

  up_to : (d k : ℕ) → doomed.0 ≡ d + k → p < k → Ended k → Ended doomed.0
  up_to zero k is low_k ended = subst Ended (sym (same doomed.0 k is)) ended
    where
      same : (m k : ℕ) → m ≡ 0 + k → m ≡ k
      same m k is = omega (arith, is)
  up_to (suc d) k is low_k ended =
      up_to d (suc k) (next doomed.0 d k is) (more p k low_k) (stays k ended (open_at k low_k (first doomed.0 d k is)) (open_at (suc k) (more p k low_k) (then_ doomed.0 d k is)))
    where
      next : (m d k : ℕ) → m ≡ suc d + k → m ≡ d + suc k
      next m d k is = omega (arith, is)

      more : (p k : ℕ) → p < k → p < suc k
      more p k low_k = omega (arith, low_k)

      first : (m d k : ℕ) → m ≡ suc d + k → k ≤ m
      first m d k is = omega (arith, is)

      then_ : (m d k : ℕ) → m ≡ suc d + k → suc k ≤ m
      then_ m d k is = omega (arith, is)

  pub not_ended : (k : ℕ) → In p (levels k) → Ended k → ⊥
  not_ended k is ended = elim (leb_tells k doomed.0) [
    | inl before ↦ unturned_by doomed.0 doomed.1 doomed.2 (up_to (doomed.0 - k) k (sum k doomed.0 before.1) (below k p (levels k) (falls levels revoked act is_level_run k) is) ended)
    | inr behind ↦ by_since (since levels revoked act is_level_run p doomed (k - suc doomed.0) k (sum_behind k doomed.0 behind.1))
  ]
    where
      sum : (k m : ℕ) → k ≤ m → m ≡ (m - k) + k
      sum k m upto = omega (arith, upto)

      sum_behind : (k m : ℕ) → m < k → k ≡ (k - suc m) + suc m
      sum_behind k m upto = omega (arith, upto)

      by_since : Since levels revoked act is_level_run p doomed k → ⊥
      by_since (keeps_on some same) = unturned k doomed.1 some ended
      by_since (is_gone none) = none is

-- ---- along a run

module _ {S : Type 0} (code : Code S) (b : Bounds) (first : S) (classes : ℕ) (c : ℕ → Core S) (acts : List Act) (run : IsLevelledRun code b first classes c acts) where
  ran : IsRun code b c acts
  ran = run.ordered.run

  abbrev OpenAt : ℕ → Type 0
  OpenAt k = (s : ℕ) → IsLiveOrRevoking ((c k).words (Section s)) → IsOpenBy (c k) s

  -- section 0 is none
  some_section : (k s : ℕ) → k ≤ length acts → IsLiveOrRevoking ((c k).words (Section s)) → 0 < s
  some_section k zero within open_so = absurd (none (state_of ((c k).words (Section 0))) (ap state_of (zero_no_section code b c acts ran k within)) open_so)
    where
      none : (n : ℕ) → n ≡ state_of 0 → (n ≡ 1) ⊎ (n ≡ 3) → ⊥
      none n is some = elim some [ inl one ↦ no n (is ∙ state_of_zero) one | inr three ↦ not n (is ∙ state_of_zero) three ]
        where
          no : (n : ℕ) → n ≡ 0 → n ≡ 1 → ⊥
          no n none one = omega (arith, none, one)

          not : (n : ℕ) → n ≡ 0 → n ≡ 3 → ⊥
          not n none three = omega (arith, none, three)
  some_section k (suc s) within open_so = omega arith

  module _ (k : ℕ) (within : k < length acts) where
    here_at : k ≤ length acts
    here_at = omega (arith, within)

    own_of : (t : ℕ) (th : ThreadState S) → (c k).threads t ≡ Some th → Own (view code th) (c k).words
    own_of t th at = own_at code b c acts ran run.ordered.in_bits k here_at t th at

    goes_on : (t : ℕ) (step : Step) (a : StepAnswer) → slice_get acts k ≡ Some (did t step a) → (at : DidAt code b c k t step a)
        → SectionGoes (view code at.from) (view code (after_answer code b at.from step a)) (c k).words (words_after step (c k).words)
    goes_on t step a here at =
        section_goes (view code at.from) (view code (after_answer code b at.from step a)) (c k).words (own_of t at.from at.stands)
        (deed_here code b c acts ran run.ordered.in_bits k within t step a here at (own_of t at.from at.stands)) at.answered

    did_open : (t : ℕ) (step : Step) (a : StepAnswer) → slice_get acts k ≡ Some (did t step a) → DidAt code b c k t step a → OpenAt k → OpenAt (suc k)
    did_open t step a here at before s now = subst (λ core. IsOpenBy core s) (sym at.leads) (elim (goes.has s now_by) [ inl was ↦ by_thread (before s was) | inr own ↦ by_own own ])
      where
        counted : Counted code b first classes c acts run (c k)
        counted = counted_at code b first classes c acts run k here_at

        goes : SectionGoes (view code at.from) (view code (after_answer code b at.from step a)) (c k).words (words_after step (c k).words)
        goes = goes_on t step a here at

        now_by : IsLiveOrRevoking (words_after step (c k).words (Section s))
        now_by = subst IsLiveOrRevoking (ap (λ (core : Core S). core.words (Section s)) at.leads) now

        by_own : (after_answer code b at.from step a).section ≡ s → IsOpenBy (core_after code b k (c k) t at.from step a) s
        by_own own = record { thread = t; th = after_answer code b at.from step a; stands = own_there code b first classes c acts run k within t step a here at counted; own = own }

        by_thread : IsOpenBy (c k) s → IsOpenBy (core_after code b k (c k) t at.from step a) s
        by_thread o = elim (same_or_other o.thread t) [
          | inr other ↦ record { thread = o.thread; th = o.th; stands = kept_there code b first classes c acts run k within t step a here at counted o.thread o.th other o.stands; own = o.own }
          | inl own ↦
              let is_s : at.from.section ≡ s = ap (λ (x : ThreadState S). x.section) (same_Some at.from o.th (sym at.stands ∙ ap (c k).threads (sym own) ∙ o.stands)) ∙ o.own in
              elim (goes.keeps (subst (λ n. 0 < n) (sym is_s) (some_section (suc k) s within now))) [
                | inl same ↦ by_own (same ∙ is_s)
                | inr ended ↦ absurd (ended.1 (subst (λ n. IsLiveOrRevoking (words_after step (c k).words (Section n))) (sym is_s) now_by))
              ]
        ]

    quiet_open : (t : ℕ) → QuietAt code b c k t → OpenAt k → OpenAt (suc k)
    quiet_open t at before s now = subst (λ core. IsOpenBy core s) (sym at.leads) (by_thread (before s (subst IsLiveOrRevoking (ap (λ (core : Core S). core.words (Section s)) at.leads) now)))
      where
        by_thread : IsOpenBy (c k) s → IsOpenBy (record (c k) { threads = set_at (c k).threads t (Some (after_quiet at.from at.local)) }) s
        by_thread o = elim (same_or_other o.thread t) [
          | inr other ↦ record { thread = o.thread; th = o.th; stands = set_at-other (c k).threads t (Some (after_quiet at.from at.local)) o.thread other ∙ o.stands; own = o.own }
          | inl own ↦ record {
            thread = t;
            th = after_quiet at.from at.local;
            stands = set_at-hit (c k).threads t (Some (after_quiet at.from at.local));
            own = ap (λ (x : ThreadState S). x.section) (same_Some at.from o.th (sym at.stands ∙ ap (c k).threads (sym own) ∙ o.stands)) ∙ o.own;
          }
        ]

    beside_open : (t : ℕ) (step : Step) (a : StepAnswer) → BesideAt c k t step a → OpenAt k → OpenAt (suc k)
    beside_open t step a at before s now =
        let o = before s (touch_back (beside_touch step (c k).words s at.is) (subst IsLiveOrRevoking (ap (λ (core : Core S). core.words (Section s)) at.leads) now)) in
        subst (λ core. IsOpenBy core s) (sym at.leads) (record { thread = o.thread; th = o.th; stands = o.stands; own = o.own })

    act_open : (act : Act) → slice_get acts k ≡ Some act → ActAt code b c k act → OpenAt k → OpenAt (suc k)
    act_open (quiet t) here at before = quiet_open t at before
    act_open (did t step a) here at before = did_open t step a here at before
    act_open (beside t step a) here at before = beside_open t step a at before

  first_open : OpenAt 0
  first_open s open_so = absurd (none (state_of ((c 0).words (Section s))) (ap state_of (ran.begins.sections s)) open_so)
    where
      none : (n : ℕ) → n ≡ state_of 0 → (n ≡ 1) ⊎ (n ≡ 3) → ⊥
      none n is some = elim some [ inl one ↦ no n (is ∙ state_of_zero) one | inr three ↦ not n (is ∙ state_of_zero) three ]
        where
          no : (n : ℕ) → n ≡ 0 → n ≡ 1 → ⊥
          no n none one = omega (arith, none, one)

          not : (n : ℕ) → n ≡ 0 → n ≡ 3 → ⊥
          not n none three = omega (arith, none, three)

  open_by : (k : ℕ) → k ≤ length acts → OpenAt k
  open_by k within = along code b c acts ran.leads OpenAt first_open (λ n act here at before. act_open n (slice_get_within acts n act here) act here at before) k within

  -- ---- levels that are doomed

  -- the section that thread t has open is committed
  abbrev EndedIn : Core S → ℕ → Type 0
  EndedIn core t = (th : ThreadState S) × (core.threads t ≡ Some th) × (0 < th.section) × (state_of (core.words (Section th.section)) ≡ 5)

  one_five : {A : Type 0} (n : ℕ) → n ≡ 1 → n ≡ 5 → A
  one_five n one five = absurd (no n one five)
    where
      no : (n : ℕ) → n ≡ 1 → n ≡ 5 → ⊥
      no n one five = omega (arith, one, five)

  committed_stays : {old new : ℕ} → Move old new → state_of old ≡ 5 → state_of new ≡ 5
  committed_stays (Move.stays is) ended = ap state_of is ∙ ended
  committed_stays {old} {new} (Move.opens number priority number_low priority_low none is) ended = absurd (no (state_of old) (ap state_of none ∙ state_of_zero) ended)
    where
      no : (n : ℕ) → n ≡ 0 → n ≡ 5 → ⊥
      no n none five = omega (arith, none, five)
  committed_stays {old} (Move.pins n live deeper below is) ended = one_five (state_of old) live ended
  committed_stays {old} (Move.revokes n live deeper there is) ended = one_five (state_of old) live ended
  committed_stays {old} (Move.opens_level live room is) ended = one_five (state_of old) live ended
  committed_stays {old} (Move.closes_to n live some below is) ended = one_five (state_of old) live ended
  committed_stays {old} (Move.commits live is) ended = one_five (state_of old) live ended
  committed_stays {old} (Move.undoes turned some is) ended = absurd (no (state_of old) turned ended)
    where
      no : (n : ℕ) → n ≡ 3 → n ≡ 5 → ⊥
      no n three five = omega (arith, three, five)

  module _ (p t : ℕ) where
    -- with one act, after which the level is open still
    ended_next : (k : ℕ) → k < length acts → EndedIn (c k) t → In p ((c (suc k)).levels t) → EndedIn (c (suc k)) t
    ended_next k within ended_in there = by_act found.0 found.1 (act_at code b c acts k found.0 ran.leads found.1)
      where
        th : ThreadState S
        th = ended_in.0

        at_th : (c k).threads t ≡ Some th
        at_th = ended_in.1

        some : 0 < th.section
        some = ended_in.2

        ended : state_of ((c k).words (Section th.section)) ≡ 5
        ended = ended_in.3

        found : (x : Act) × (slice_get acts k ≡ Some x)
        found = get_some acts k within

        move : Move ((c k).words (Section th.section)) ((c (suc k)).words (Section th.section))
        move = moves_at code b c acts ran run.ordered.in_bits k th.section within

        by_thread : (uh : ThreadState S) → (c (suc k)).threads t ≡ Some uh → uh.section ≡ th.section → EndedIn (c (suc k)) t
        by_thread uh at_u same =
            (uh, at_u, subst (λ n. 0 < n) (sym same) some, subst (λ n. state_of ((c (suc k)).words (Section n)) ≡ 5) (sym same) (committed_stays move ended))

        by_quiet : (u : ℕ) → QuietAt code b c k u → EndedIn (c (suc k)) t
        by_quiet u at = elim (same_or_other t u) [
          | inr other ↦ by_thread th (ap (λ (core : Core S). core.threads t) at.leads ∙ set_at-other (c k).threads u (Some (after_quiet at.from at.local)) t other ∙ at_th) refl
          | inl own ↦ by_thread (after_quiet at.from at.local)
              (ap (λ (core : Core S). core.threads t) at.leads ∙ ap (set_at (c k).threads u (Some (after_quiet at.from at.local))) own ∙ set_at-hit (c k).threads u (Some (after_quiet at.from at.local)))
              (ap (λ (x : ThreadState S). x.section) (same_Some at.from th (sym at.stands ∙ ap (c k).threads (sym own) ∙ at_th)))
        ]

        by_did : (u : ℕ) (step : Step) (a : StepAnswer) → slice_get acts k ≡ Some (did u step a) → DidAt code b c k u step a → EndedIn (c (suc k)) t
        by_did u step a here at = elim (same_or_other t u) [
          | inr other ↦ by_thread th (ap (λ (core : Core S). core.threads t) at.leads ∙ kept_there code b first classes c acts run k within u step a here at counted t th other at_th) refl
          | inl own ↦ by_own own (elim (goes.keeps (subst (λ n. 0 < n) (sym (same_section own)) some)) [ inl same ↦ same | inr closed ↦ absurd (no_section (closed_section own) closed.0) ])
        ]
          where
            counted : Counted code b first classes c acts run (c k)
            counted = counted_at code b first classes c acts run k (here_at k within)

            goes : SectionGoes (view code at.from) (view code (after_answer code b at.from step a)) (c k).words (words_after step (c k).words)
            goes = goes_on k within u step a here at

            same_section : t ≡ u → at.from.section ≡ th.section
            same_section own = ap (λ (x : ThreadState S). x.section) (same_Some at.from th (sym at.stands ∙ ap (c k).threads (sym own) ∙ at_th))

            now_there : t ≡ u → (c (suc k)).threads t ≡ Some (after_answer code b at.from step a)
            now_there own = ap (c (suc k)).threads own ∙ ap (λ (core : Core S). core.threads u) at.leads ∙ own_there code b first classes c acts run k within u step a here at counted

            closed_section : t ≡ u → 0 < (after_answer code b at.from step a).section
            closed_section own = has_section code b first classes c acts run (suc k) t p (after_answer code b at.from step a) within (now_there own) there

            no_section : {n : ℕ} → 0 < n → n ≡ 0 → ⊥
            no_section above shut = omega (arith, above, shut)

            by_own : t ≡ u → (after_answer code b at.from step a).section ≡ at.from.section → EndedIn (c (suc k)) t
            by_own own same = by_thread (after_answer code b at.from step a) (now_there own) (same ∙ same_section own)

        by_act : (act : Act) → slice_get acts k ≡ Some act → ActAt code b c k act → EndedIn (c (suc k)) t
        by_act (quiet u) here at = by_quiet u at
        by_act (did u step a) here at = by_did u step a here at
        by_act (beside u step a) here at = by_thread th (ap (λ (core : Core S). core.threads t) at.leads ∙ at_th) refl

    -- and after the last act
    ended_total : (n : ℕ) → EndedIn (core_at c acts n) t → In p (levels_in c acts t n) → In p (levels_in c acts t (suc n)) → EndedIn (core_at c acts (suc n)) t
    ended_total n ended is there = by_test (nat_lt n (length acts)) refl
      where
        less : (m n : ℕ) → nat_lt m n ≡ true → m < n
        less m n is = grind (arith, common_steps, nat_tests)

        up_to : (m n : ℕ) → m < n → m ≤ n
        up_to m n is = omega (arith, is)

        above : (m n : ℕ) → nat_lt m n ≡ false → nat_lt (suc m) n ≡ false
        above m n is = grind (arith, common_steps, nat_tests)

        by_test : (test : Bool) → nat_lt n (length acts) ≡ test → EndedIn (core_at c acts (suc n)) t
        by_test true before =
            let within = less n (length acts) before in
            let now = at_place code b first classes c acts run (suc n) within in
            subst (λ core. EndedIn core t) (sym now)
            (ended_next n within (subst (λ core. EndedIn core t) (at_place code b first classes c acts run n (up_to n (length acts) within)) ended) (subst (λ (core : Core S). In p (core.levels t)) now there))
        by_test false behind =
            subst (λ core. EndedIn core t) (ap (λ d. c (if d then n else length acts)) behind ∙ sym (ap (λ d. c (if d then suc n else length acts)) (above n (length acts) behind))) ended

    not_turned : (core : Core S) → EndedIn core t → (n : ℕ) → revoked_by (word_in (core.threads t) core.words) ≡ Some n → ⊥
    not_turned core so n is =
        none_some n (sym (ap (λ o. revoked_by (word_in o core.words)) so.1 ∙ ap (λ d. revoked_by (if d then None else Some (core.words (Section so.0.section)))) (some_eq so.0.section so.2)
        ∙ unrevoked (core.words (Section so.0.section)) 5 so.3 (five_three 5 refl)) ∙ is)
      where
        some_eq : (n : ℕ) → 0 < n → nat_eq n 0 ≡ false
        some_eq n some = grind (arith, common_steps, nat_tests)

        five_three : (n : ℕ) → n ≡ 5 → n ≡ 3 → ⊥
        five_three n five three = omega (arith, five, three)

    -- a committed section isn't revoked
    not_revoked : (n m : ℕ) → (runs_in_levels code b first classes c acts run t).act n ≡ is_revoked m → EndedIn (core_at c acts n) t → In p (levels_in c acts t n) → ⊥
    not_revoked n m is ended there =
        let r = runs_in_levels code b first classes c acts run t in
        let at : LevelAt (levels_in c acts t) (revoked_in c acts t) n (is_revoked m) = subst (LevelAt (levels_in c acts t) (revoked_in c acts t) n) is (r.is_run.2 n) in
        not_turned (core_at c acts (suc n)) (ended_total n ended there (subst (In p) (sym at.0) there)) m at.2

  stands_so : (p k t : ℕ) (th : ThreadState S) → k ≤ length acts → (c k).threads t ≡ Some th → IsDoomed c acts p → In p ((c k).levels t) → IsLiveOrRevoking ((c k).words (Section th.section))
  stands_so p k t th within at doomed there = elim (own.own some).says.state [
    | inl live ↦ inl live
    | inr rest ↦ elim rest [
      | inl turned ↦ inr turned
      | inr ended ↦
          let r = runs_in_levels code b first classes c acts run t in
          let here = at_place code b first classes c acts run k within in
          absurd (not_ended (levels_in c acts t) (revoked_in c acts t) r.act r.is_run p (doomed_at code b first classes c acts run t p k within there doomed)
          (λ n. EndedIn (core_at c acts n) t × In p (levels_in c acts t n)) (λ n so was_in now_in. (ended_total p t n so.0 was_in now_in, now_in)) (λ n m is so. not_revoked p t n m is so.0 so.1)
          (λ n m is so. not_turned p t (core_at c acts n) so.0 m is) k (subst (λ (core : Core S). In p (core.levels t)) (sym here) there)
          (subst (λ (core : Core S). EndedIn core t) (sym here) (th, at, some, ended), subst (λ (core : Core S). In p (core.levels t)) (sym here) there))
    ]
  ]
    where
      some : 0 < th.section
      some = has_section code b first classes c acts run k t p th within at there

      own : Own (view code th) (c k).words
      own = own_at code b c acts ran run.ordered.in_bits k within t th at

pub open_sections_have_threads : {S : Type 0} (code : Code S) → OpenSectionsHaveThreads code
open_sections_have_threads code b first classes c acts run k s within open_so = open_by code b first classes c acts run k within s open_so

pub doomed_sections_are_open : {S : Type 0} (code : Code S) → DoomedSectionsAreOpen code
doomed_sections_are_open code b first classes c acts run p k t th within at doomed there = stands_so code b first classes c acts run p k t th within at doomed there

zero_says : SaysOfRevoking 0
zero_says = record { revoked = λ turned. absurd (no (state_of 0) state_of_zero turned); unrevoked = λ differs. revoke_of_zero }
  where
    no : (n : ℕ) → n ≡ 0 → n ≡ 3 → ⊥
    no n none three = omega (arith, none, three)

pub words_say_of_revoking : {S : Type 0} (code : Code S) → WordsSayOfRevoking code
words_say_of_revoking code b c acts run in_bits k s within =
    along code b c acts run.leads (λ n. SaysOfRevoking ((c n).words (Section s))) (subst SaysOfRevoking (sym (run.begins.sections s)) zero_says)
    (λ n act here at before. move_says ((c n).words (Section s)) ((c (suc n)).words (Section s)) before (moves_at code b c acts run in_bits n s (slice_get_within acts n act here))) k within
