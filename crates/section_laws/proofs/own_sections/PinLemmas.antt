-- What is pinned stays so, and is not revoked afterwards.
use Rattle.std.proofs.Common.{◌≡◌, inl, inr, ℕ, zero, suc, ◌+◌, ◌-◌, ◌^◌, ◌<◌, ◌≤◌, Bool, true, false, Some, List, length, refl, sym, ◌∙◌, ap, subst, arith}
use Rattle.std.specs.Prelude.{slice_get, nat_le}
use Rattle.std.proofs.lemmas.Grind.{common_steps}
use Rattle.std.proofs.lemmas.Bool.Decides.{nat_tests}
use Rattle.std.proofs.lemmas.Option.{slice_get_within}
use Rattle.op_core.specs.ThreadCode.{Code}
use Rattle.heap_words.specs.declared.areas.Area.TheVariants.{Section}
use Rattle.section_state.specs.SectionWord.{pinned_of, revoke_of, with_pinned, revoked_of, undone_of}
use Rattle.step_port.specs.declared.answer.StepAnswer.{StepAnswer}
use Rattle.step_port.specs.declared.step.Step.TheVariants.{Pin, Revoke, BreakLevel}
use Rattle.step_port.specs.Words.{Words}
use Rattle.thread_automaton.specs.declared.Bounds.{Bounds}
use Rattle.core_runs.specs.Cores.{Core}
use Rattle.core_runs.specs.Acts.{Act, did, beside}
use Rattle.core_runs.specs.Revoked.{RevokesAt}
use Rattle.automaton_rows.proofs.PinLemmas.{steps_caused}
use Rattle.section_laws.specs.Runs.{IsRun}
use Rattle.section_laws.proofs.WordLemmas.{exchanged, put_section}
use Rattle.section_laws.proofs.DeedLemmas.{contended}
use Rattle.section_laws.proofs.FactLemmas.{breaks}
use Rattle.section_laws.proofs.RunLemmas.{act_at, facts_at}
use Rattle.section_laws.specs.OwnWords.{IsInBits}
use Rattle.section_laws.specs.Moves.{Move, StaysPinned, PinnedLevelsStay}
use Rattle.section_laws.proofs.own_sections.WordLemmas.{depth_low, pinned_says, deep_says, opened_says, revoked_says, committed_says, undone_says, goes_on_says}
use Rattle.section_laws.proofs.own_sections.DeedLemmas.{pin_level}
use Rattle.section_laws.proofs.own_sections.MoveLemmas.{own_at, moves_at}

same_depth : (m n : ℕ) → m ≡ n → n ≤ m
same_depth m n is = omega (arith, is)

at_zero : pinned_of 0 ≡ 0
unfolding pinned_of
at_zero = refl

none_below : (m n : ℕ) → m ≡ 0 → m ≤ n
none_below m n is = omega (arith, is)

up : (m n p : ℕ) → m < n → p ≡ n → m ≤ p
up m n p deep is = omega (arith, deep, is)

within : (m n : ℕ) → m ≤ n → n < 2 ^ 8 → m < 2 ^ 8
within m n low below = omega (arith, low, below)

at_most_one : (n : ℕ) → nat_le n 1 ≡ true → n ≤ 1
at_most_one n is = grind (arith, common_steps, nat_tests)

more_than_one : (n : ℕ) → nat_le n 1 ≡ false → 1 < n
more_than_one n is = grind (arith, common_steps, nat_tests)

undone_pins : (w : ℕ) → pinned_of w ≤ pinned_of (undone_of w)
undone_pins w = by_test (nat_le (revoke_of w) 1) refl
  where
    by_test : (t : Bool) → nat_le (revoke_of w) 1 ≡ t → pinned_of w ≤ pinned_of (undone_of w)
    by_test true is = same_depth (pinned_of (undone_of w)) (pinned_of w) (undone_says w (at_most_one (revoke_of w) is)).1.3
    by_test false is = same_depth (pinned_of (undone_of w)) (pinned_of w) (goes_on_says w (more_than_one (revoke_of w) is)).1.3

-- the pinned depth of a section never falls
pub pins_rise : (old new : ℕ) → Move old new → pinned_of old ≤ pinned_of new
pins_rise old new (Move.stays is) = same_depth (pinned_of new) (pinned_of old) (ap pinned_of is)
pins_rise old new (Move.opens number priority number_low priority_low none is) = none_below (pinned_of old) (pinned_of new) (ap pinned_of none ∙ at_zero)
pins_rise old new (Move.pins n live deeper low is) = up (pinned_of old) n (pinned_of new) deeper (ap pinned_of is ∙ (pinned_says old n low).1.3)
pins_rise old new (Move.revokes n live free there is) =
    same_depth (pinned_of new) (pinned_of old) (ap pinned_of is ∙ (revoked_says old n (within n _ there (depth_low old))).1.3)
pins_rise old new (Move.opens_level live room is) = same_depth (pinned_of new) (pinned_of old) (ap pinned_of is ∙ (opened_says old room).1.3)
pins_rise old new (Move.closes_to n live some low is) = same_depth (pinned_of new) (pinned_of old) (ap pinned_of is ∙ (deep_says old n low).1.3)
pins_rise old new (Move.commits live is) = same_depth (pinned_of new) (pinned_of old) (ap pinned_of is ∙ (committed_says old).1.3)
pins_rise old new (Move.undoes turned some is) = subst (λ w. pinned_of old ≤ pinned_of w) (sym is) (undone_pins old)

module _ {S : Type 0} (code : Code S) (b : Bounds) (c : ℕ → Core S) (acts : List Act) (run : IsRun code b c acts) (in_bits : IsInBits c acts) where
  abbrev pin : ℕ → ℕ → ℕ
  pin k s = pinned_of ((c k).words (Section s))

  rise_by : (s n k d : ℕ) → k + d ≤ length acts → n ≤ pin k s → n ≤ pin (k + d) s
  rise_by s n k zero low start = subst (λ m. n ≤ pin m s) (omega arith) start
  rise_by s n k (suc d) low start =
      subst (λ m. n ≤ pin m s) (omega arith)
      (after n (pin (k + d) s) (pin (suc (k + d)) s) (rise_by s n k d (omega (arith, low)) start)
      (pins_rise ((c (k + d)).words (Section s)) ((c (suc (k + d))).words (Section s)) (moves_at code b c acts run in_bits (k + d) s (omega (arith, low)))))
    where
      after : (m n p : ℕ) → m ≤ n → n ≤ p → m ≤ p
      after m n p low high = omega (arith, low, high)

  pub rises : (s n k j : ℕ) → k ≤ j → j ≤ length acts → n ≤ pin k s → n ≤ pin j s
  rises s n k j up low start = subst (λ m. n ≤ pin m s) (omega (arith, up)) (rise_by s n k (j - k) (omega (arith, up, low)) start)

  below : (j : ℕ) {act : Act} → slice_get acts j ≡ Some act → j ≤ length acts
  below j {act} here = low j (length acts) (slice_get_within acts j act here)
    where
      low : (m n : ℕ) → m < n → m ≤ n
      low m n is = omega (arith, is)

  -- a level that is revoked isn't pinned
  pub revoked_free : (j s m : ℕ) → RevokesAt acts j s m → pin j s < m
  revoked_free j s m (t, old, is) = elim is [
    | inl here ↦
        let at = act_at code b c acts j (did t (Revoke s old m) StepAnswer.Done) run.leads here in
        let found = (exchanged (c j).words (Section s) old (revoked_of old m) at.answered).found in
        let fits = ((facts_at code b c acts run j (below j here)).fit t at.from at.stands).attempt in
        let cause = steps_caused code b at.from (Revoke s old m) fits at.move in
        subst (λ w. pinned_of w < m) (sym found) (contended old m at.from.priority cause.revoke).1
    | inr here ↦
        let at = act_at code b c acts j (beside t (BreakLevel s old m) StepAnswer.Done) run.leads here in
        let found = (exchanged (c j).words (Section s) old (revoked_of old m) at.answered).found in
        subst (λ w. pinned_of w < m) (sym found) (breaks old m at.is).1
  ]

  revokes_at : (j s m : ℕ) → RevokesAt acts j s m → j ≤ length acts
  revokes_at j s m (t, old, is) = elim is [ inl here ↦ below j here | inr here ↦ below j here ]

  pinned_at : (k t s w n : ℕ) → slice_get acts k ≡ Some (did t (Pin s w n) StepAnswer.Done) → n ≤ pin (suc k) s
  pinned_at k t s w n here =
      let at = act_at code b c acts k (did t (Pin s w n) StepAnswer.Done) run.leads here in
      let low = below k here in
      let fits = (facts_at code b c acts run k low).fit t at.from at.stands in
      let own = own_at code b c acts run in_bits k low t at.from at.stands in
      same_depth (pin (suc k) s) n (ap (λ (core : Core S). pinned_of (core.words (Section s))) at.leads
      ∙ ap (λ (u : Words). pinned_of (u (Section s))) (exchanged (c k).words (Section s) w (with_pinned w n) at.answered).leaves
      ∙ ap pinned_of (put_section (c k).words s (with_pinned w n)) ∙ (pinned_says w n (pin_level code b at.from s w n fits at.move own.low)).1.3)

  pub stays_pinned : (k t s w n : ℕ) → slice_get acts k ≡ Some (did t (Pin s w n) StepAnswer.Done) → StaysPinned c acts k s n
  stays_pinned k t s w n here = record {
    stays = λ j later low. rises s n (suc k) j later low (pinned_at k t s w n here);
    unrevoked = λ j m later revokes. above n (pin j s) m (rises s n (suc k) j later (revokes_at j s m revokes) (pinned_at k t s w n here)) (revoked_free j s m revokes);
  }
    where
      above : (n p m : ℕ) → n ≤ p → p < m → n < m
      above n p m low high = omega (arith, low, high)

pub pinned_levels_stay : {S : Type 0} (code : Code S) → PinnedLevelsStay code
pinned_levels_stay code b c acts run in_bits k t s w n here = stays_pinned code b c acts run in_bits k t s w n here
