-- No number is opened twice, no two threads have the same section open, and threads leave the sections of others alone.
use Rattle.std.proofs.Common.{◌≡◌, ◌≢◌, ◌⊎◌, inl, inr, ℕ, zero, suc, ◌+◌, ◌-◌, ◌<◌, ◌≤◌, Some, List, length, refl, sym, ◌∙◌, ap, subst, arith}
use Rattle.std.specs.Prelude.{slice_get}
use Rattle.std.proofs.lemmas.Option.{same_Some, slice_get_within}
use Rattle.op_core.specs.ThreadCode.{Code}
use Rattle.heap_words.specs.declared.areas.Area.TheVariants.{Section}
use Rattle.section_state.specs.declared.State.TheVariants.{Live}
use Rattle.section_state.specs.SectionWord.{state_of}
use Rattle.step_port.specs.declared.answer.StepAnswer.{StepAnswer}
use Rattle.step_port.specs.declared.step.Step.{Step}
use Rattle.step_port.specs.declared.step.Step.TheVariants.{OpenSection}
use Rattle.thread_automaton.specs.declared.Bounds.{Bounds}
use Rattle.thread_automaton.specs.ThreadState.{ThreadState}
use Rattle.core_runs.specs.Cores.{Core}
use Rattle.core_runs.specs.Acts.{Act, quiet, did, beside, DidAt, ActAt}
use Rattle.section_laws.specs.Runs.{IsRun, SectionsOpenOnce, ZeroIsNoSection, SectionsAreApart, IsPinnedOrRevoked, OthersSectionsStay}
use Rattle.section_laws.proofs.WordLemmas.{is_state, state_packed, state_of_zero, put_section}
use Rattle.section_laws.proofs.DeedLemmas.{opening_of, above, Touched, untouched, pinned_deeper, revoked_to, opens_of}
use Rattle.section_laws.proofs.ClaimLemmas.{is_zero, claim_some, Change, is_touched, is_opened, is_own, section_changes}
use Rattle.section_laws.proofs.FactLemmas.{touched_some, touched_none, stays_opened, not_some, beside_touches}
use Rattle.section_laws.proofs.RunLemmas.{get_some, act_at, along, Known, deed_at, facts_at}

-- ---- one act

module _ {S : Type 0} (code : Code S) (b : Bounds) (c : ℕ → Core S) (k : ℕ) where
  abbrev word : ℕ → ℕ → ℕ
  word n s = (c n).words (Section s)

  -- what was opened stays so
  act_opened : (x : Act) → ActAt code b c k x → Known code (c k) → (s : ℕ) → 0 < state_of (word k s) → 0 < state_of (word (suc k) s)
  act_opened (quiet t) at facts s some = subst (λ z. 0 < state_of (z.words (Section s))) (sym at.leads) some
  act_opened (did t step a) at facts s some =
      subst (λ z. 0 < state_of (z.words (Section s))) (sym at.leads)
      (stays_opened (section_changes at.from (c k).words (deed_at code b c k at facts) at.answered s) some)
  act_opened (beside t step a) at facts s some =
      subst (λ z. 0 < state_of (z.words (Section s))) (sym at.leads) (touched_some (beside_touches step (c k).words s at.is) some)

-- ---- from a place on

module _ {S : Type 0} (code : Code S) (b : Bounds) (c : ℕ → Core S) (acts : List Act) (run : IsRun code b c acts) where
  opened_next : (k s : ℕ) → k < length acts → 0 < state_of ((c k).words (Section s)) → 0 < state_of ((c (suc k)).words (Section s))
  opened_next k s within some =
      let here = get_some acts k within in
      act_opened code b c k here.0 (act_at code b c acts k here.0 run.leads here.1) (facts_at code b c acts run k (omega (arith, within))) s some

  onwards : (s k d : ℕ) → k + d ≤ length acts → 0 < state_of ((c k).words (Section s)) → 0 < state_of ((c (k + d)).words (Section s))
  onwards s k zero within start = subst (λ n. 0 < state_of ((c n).words (Section s))) (omega arith) start
  onwards s k (suc d) within start =
      subst (λ n. 0 < state_of ((c n).words (Section s))) (omega arith)
      (opened_next (k + d) s (omega (arith, within)) (onwards s k d (omega (arith, within)) start))

  stays_open : (s k j : ℕ) → k ≤ j → j ≤ length acts → 0 < state_of ((c k).words (Section s)) → 0 < state_of ((c j).words (Section s))
  stays_open s k j up within start =
      subst (λ n. 0 < state_of ((c n).words (Section s))) (omega (arith, up)) (onwards s k (j - k) (omega (arith, up, within)) start)

  -- the act of a thread, and what is so where it is made
  did_at : (k t : ℕ) (step : Step) (a : StepAnswer) → slice_get acts k ≡ Some (did t step a) → DidAt code b c k t step a
  did_at k t step a at = act_at code b c acts k (did t step a) run.leads at

  pub known_at : (k : ℕ) (x : Act) → slice_get acts k ≡ Some x → Known code (c k)
  known_at k x at = let below = slice_get_within acts k x at in facts_at code b c acts run k (omega (arith, below))

  -- a section is opened
  record New (k s : ℕ) : Type 0 where
    before : (c k).words (Section s) ≡ 0
    behind : 0 < state_of ((c (suc k)).words (Section s))

  opened_at : (k t s w : ℕ) → slice_get acts k ≡ Some (did t (OpenSection s w) StepAnswer.Done) → New k s
  opened_at k t s w here =
      let at = did_at k t (OpenSection s w) StepAnswer.Done here in
      let facts = known_at k _ here in
      let opens = opens_of (deed_at code b c k at facts) in
      let live : state_of ((c (suc k)).words (Section s)) ≡ 1 = ap (λ z. state_of (z.words (Section s))) at.leads
      ∙ ap state_of (put_section (c k).words s w ∙ opens.word) ∙ state_packed 1 at.from.number at.from.priority 0 1 0 (omega arith) in
      record {
        before = ap (λ n. (c k).words (Section n)) (sym opens.opening)
            ∙ facts.unopened t at.from at.stands (is_zero at.from.section opens.none_open) (subst (λ n. 0 < n) (sym opens.opening) (above s opens.some));
        behind = omega (arith, live);
      }

  not_later : (j k t u s v w : ℕ) → slice_get acts j ≡ Some (did t (OpenSection s v) StepAnswer.Done) → slice_get acts k ≡ Some (did u (OpenSection s w) StepAnswer.Done) → j < k → ⊥
  not_later j k t u s v w at_j at_k later =
      let below = slice_get_within acts k _ at_k in
      let some = stays_open s (suc j) k later (omega (arith, below)) (opened_at j t s v at_j).behind in
      let none = ap state_of (opened_at k u s w at_k).before ∙ state_of_zero in
      omega (arith, some, none)

  opens_once : (j k t u s v w : ℕ) → slice_get acts j ≡ Some (did t (OpenSection s v) StepAnswer.Done) → slice_get acts k ≡ Some (did u (OpenSection s w) StepAnswer.Done) → j ≡ k
  opens_once j k t u s v w at_j at_k = equal j k (not_later j k t u s v w at_j at_k) (not_later k j u t s w v at_k at_j)
    where
      equal : (j k : ℕ) → (j < k → ⊥) → (k < j → ⊥) → j ≡ k
      equal j k not_before not_behind = omega arith

pub sections_open_once : {S : Type 0} (code : Code S) → SectionsOpenOnce code
sections_open_once code b c acts run j k t u s v w at_j at_k = opens_once code b c acts run j k t u s v w at_j at_k

-- ---- 0 is no section

zero_stays : {S : Type 0} {th : ThreadState S} {old new : ℕ} → Change th 0 old new → old ≡ 0 → new ≡ 0
zero_stays (is_touched touched) none = touched_none touched none
zero_stays (is_opened closed opening above live) none = not_some 0 above refl
zero_stays (is_own own above stands) none = not_some 0 above refl

act_zero : {S : Type 0} (code : Code S) (b : Bounds) (c : ℕ → Core S) (k : ℕ) (x : Act) → ActAt code b c k x → Known code (c k)
    → (c k).words (Section 0) ≡ 0 → (c (suc k)).words (Section 0) ≡ 0
act_zero code b c k (quiet t) at facts none = ap (λ z. z.words (Section 0)) at.leads ∙ none
act_zero code b c k (did t step a) at facts none =
    ap (λ z. z.words (Section 0)) at.leads ∙ zero_stays (section_changes at.from (c k).words (deed_at code b c k at facts) at.answered 0) none
act_zero code b c k (beside t step a) at facts none = ap (λ z. z.words (Section 0)) at.leads ∙ touched_none (beside_touches step (c k).words 0 at.is) none

pub zero_no_section : {S : Type 0} (code : Code S) → ZeroIsNoSection code
zero_no_section code b c acts run k within =
    along code b c acts run.leads (λ n. (c n).words (Section 0) ≡ 0) (run.begins.sections 0)
    (λ n x here at none. act_zero code b c n x at (known_at code b c acts run n x here) none) k within

-- ---- the sections of others

pub sections_apart : {S : Type 0} (code : Code S) → SectionsAreApart code
sections_apart code b c acts run k t u th uh within at there some same =
    let claims = claim_some th.section (opening_of th.attempt) some in
    (facts_at code b c acts run k within).apart t u th uh at there (subst (λ n. 0 < n) (sym claims) some)
    (claims ∙ same ∙ sym (claim_some uh.section (opening_of uh.attempt) (subst (λ n. 0 < n) same some)))

by_touch : {old new : ℕ} → Touched old new → (new ≡ old) ⊎ IsPinnedOrRevoked old new
by_touch (untouched is) = inl is
by_touch {old = old} (pinned_deeper n live deeper is) = inr (record { live = is_state Live old live; leads = inl (n, deeper, is) })
by_touch {old = old} (revoked_to n live free there is) = inr (record { live = is_state Live old live; leads = inr (n, free, there, is) })

pub touches : {S : Type 0} {th : ThreadState S} {s old new : ℕ} → Change th s old new → s ≢ th.section → (th.section ≡ 0 → opening_of th.attempt ≡ s → 0 < s → old ≡ 0)
    → old ≢ 0 → (new ≡ old) ⊎ IsPinnedOrRevoked old new
touches (is_touched touched) other unopened some = by_touch touched
touches (is_opened none opening above live) other unopened some = absurd (some (unopened none opening above))
touches (is_own own above stands) other unopened some = absurd (other (sym own))

pub others_stay : {S : Type 0} (code : Code S) → OthersSectionsStay code
others_stay code b c acts run k t s step a th here there other some =
    let at = act_at code b c acts k (did t step a) run.leads here in
    let facts = known_at code b c acts run k (did t step a) here in
    let same : at.from ≡ th = same_Some at.from th (sym at.stands ∙ there) in
    subst (λ z. (z.words (Section s) ≡ (c k).words (Section s)) ⊎ IsPinnedOrRevoked ((c k).words (Section s)) (z.words (Section s))) (sym at.leads)
    (touches (section_changes at.from (c k).words (deed_at code b c k at facts) at.answered s) (λ is. other (is ∙ ap (λ x. x.section) same))
    (λ none opening above. ap (λ n. (c k).words (Section n)) (sym opening) ∙ facts.unopened t at.from at.stands none (subst (λ n. 0 < n) (sym opening) above)) some)
