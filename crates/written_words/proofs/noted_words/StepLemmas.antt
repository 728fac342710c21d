-- What threads have logged carries their tags, with each act.
use Rattle.std.proofs.Common.{◌≡◌, ◌≢◌, ◌⊎◌, inl, inr, ℕ, suc, ◌-◌, ◌<◌, ◌≤◌, Bool, true, false, Some, List, length, nat_eq, refl, sym, ◌∙◌, ap, subst, arith}
use Rattle.std.proofs.lemmas.Grind.{common_steps}
use Rattle.std.proofs.lemmas.Bool.Decides.{nat_tests}
use Rattle.op_core.specs.ThreadCode.{Code}
use Rattle.heap_words.specs.declared.areas.Area.TheVariants.{Section}
use Rattle.heap_words.specs.Words.{tag_of, tag_level}
use Rattle.section_state.specs.declared.State.TheVariants.{Revoking}
use Rattle.section_state.specs.SectionWord.{number_of, state_of, pinned_of, revoke_of}
use Rattle.step_port.specs.declared.step.Step.{Step}
use Rattle.step_port.specs.declared.step.Step.TheVariants.{SwapWord, RestoreWord}
use Rattle.step_port.specs.Words.{Words}
use Rattle.thread_automaton.specs.declared.Bounds.{Bounds}
use Rattle.thread_automaton.specs.declared.Attempt.{Attempt}
use Rattle.thread_automaton.specs.declared.Attempt.TheVariants.{Undoing}
use Rattle.thread_automaton.specs.ThreadState.{ThreadState, mark_of, noted_since}
use Rattle.thread_automaton.specs.Checks.{is_safe}
use Rattle.automaton_rows.specs.Fits.{AttemptFits, IsUndoing, IsFit}
use Rattle.core_runs.specs.Cores.{Core}
use Rattle.core_runs.specs.Acts.{Act}
use Rattle.section_laws.specs.Runs.{IsRun}
use Rattle.section_laws.proofs.WordLemmas.{state_is}
use Rattle.section_laws.proofs.DeedLemmas.{above}
use Rattle.section_laws.proofs.SectionLemmas.{sections_apart}
use Rattle.section_laws.proofs.RunLemmas.{facts_at}
use Rattle.section_laws.specs.OwnWords.{IsInBits, OwnWord, SeesUndoing}
use Rattle.section_laws.proofs.own_sections.PinLemmas.{pins_rise}
use Rattle.section_laws.proofs.own_sections.MoveLemmas.{moves_at, own_words_are_known}
use Rattle.section_laws.specs.Known.{IsCommittedOrPinned}
use Rattle.section_laws.proofs.known_sections.KnownLemmas.{known_sections_are_pinned}
use Rattle.section_laws.specs.Marks.{counting_marks}
use Rattle.section_laws.proofs.level_marks.RunLemmas.{undone_levels_have_marks}
use Rattle.section_laws.specs.OpenSections.{IsLiveOrRevoking}
use Rattle.section_laws.proofs.open_sections.WordLemmas.{move_back, committed_closed}
use Rattle.first_law.specs.Held.{top_at}
use Rattle.section_laws.specs.Settled.{notes, Carries}
use Rattle.written_words.specs.Noted.{IsTaggedRun, heap_of, AreOwnFrom}
use Rattle.written_words.proofs.noted_words.PartLemmas.{PartsAreOwn, parts_zero, parts_deeper, parts_elsewhere, part_first}
use Rattle.written_words.proofs.noted_words.TagLemmas.{Safe, by_none, by_own, by_known, safe_so, none_carries}
use Rattle.written_words.proofs.noted_words.TurnLemmas.{top_of, marks_of}

pub zero_or : (n : ℕ) → nat_eq n 0 ≡ true → n ≡ 0
zero_or n is = grind (arith, common_steps, nat_tests)

pub some_or : (n : ℕ) → nat_eq n 0 ≡ false → 0 < n
some_or n is = grind (arith, common_steps, nat_tests)

pub zero_state : state_of 0 ≡ 0
unfolding state_of
zero_state = refl

abbrev pub IsSwap : Step → Type 0
IsSwap (SwapWord at old new) = Unit {0}
IsSwap step = ⊥

abbrev pub IsRestore : Step → Type 0
IsRestore (RestoreWord at old) = Unit {0}
IsRestore step = ⊥

abbrev pub old_of : Step → ℕ
old_of (SwapWord at old new) = old
old_of step = 0

-- what a thread has logged is its section's own, while that is live or revoking
abbrev pub OwnParts : {S : Type 0} → ThreadState S → Words → Type 0
OwnParts th w = IsLiveOrRevoking (w (Section th.section)) → PartsAreOwn th.section (pinned_of (w (Section th.section))) (top_of th) (marks_of th) th.log (heap_of w)

module _ {S : Type 0} (code : Code S) (b : Bounds) (is_thread : ℕ → Bool) (first : S) (classes : ℕ) (c : ℕ → Core S) (acts : List Act) (run : IsTaggedRun code b is_thread first classes c acts) where
  ran : IsRun code b c acts
  ran = run.monitors.levelled.ordered.run

  in_bits : IsInBits c acts
  in_bits = run.monitors.levelled.ordered.in_bits

  abbrev pub NotedAt : ℕ → Type 0
  NotedAt k = (t : ℕ) (th : ThreadState S) → (c k).threads t ≡ Some th → OwnParts th (c k).words

  -- without a section no level counts
  pub no_top : (k t : ℕ) (th : ThreadState S) → k ≤ length acts → (c k).threads t ≡ Some th → th.section ≡ 0 → top_of th ≡ 0
  no_top k t th within there none = by_attempt th.attempt fits.attempt
    where
      fits : IsFit code th
      fits = (facts_at code b c acts ran k within).fit t th there

      is_none : (n : ℕ) → n ≡ 0 → nat_eq n 0 ≡ true
      is_none n is = grind (arith, common_steps, nat_tests)

      no_section : (n : ℕ) → n ≡ 0 → 0 < n → ⊥
      no_section n none some = omega (arith, none, some)

      by_attempt : (g : Attempt) → AttemptFits th (code.next th.local) g → top_at g th.levels ≡ 0
      by_attempt (Undoing w) undoing = absurd (no_section th.section none (above th.section undoing.section))
      by_attempt g other = zero_or th.levels (sym fits.kept.levels ∙ is_none th.section none)

  -- the section was live or revoking before the act, where it is then
  pub was_live : (k t : ℕ) (th : ThreadState S) (within : k < length acts) → (c k).threads t ≡ Some th → 0 < th.section → IsLiveOrRevoking ((c (suc k)).words (Section th.section)) → IsLiveOrRevoking ((c k).words (Section th.section))
  was_live k t th within there some live = elim (move_back (moves_at code b c acts ran in_bits k th.section within) live) [
    | inl was ↦ was
    | inr none ↦
        let own = own_words_are_known code b c acts ran in_bits k t th (omega (arith, within)) there some in
        absurd (by_state (state_of ((c k).words (Section th.section))) (ap state_of none ∙ zero_state) own.0.state)
  ]
    where
      by_state : (n : ℕ) → n ≡ 0 → (n ≡ 1) ⊎ (n ≡ 3) ⊎ (n ≡ 5) → ⊥
      by_state n none (inl is) = omega (arith, none, is)
      by_state n none (inr (inl is)) = omega (arith, none, is)
      by_state n none (inr (inr is)) = omega (arith, none, is)

  pub pins : (k s : ℕ) → k < length acts → pinned_of ((c k).words (Section s)) ≤ pinned_of ((c (suc k)).words (Section s))
  pins k s within = pins_rise ((c k).words (Section s)) ((c (suc k)).words (Section s)) (moves_at code b c acts ran in_bits k s within)

  -- a thread goes on with the same section, log and levels: the words that it has logged stay, or aren't its own
  pub kept_parts : (k t : ℕ) (th : ThreadState S) (within : k < length acts) → NotedAt k → (c k).threads t ≡ Some th
      → (0 < th.section → IsLiveOrRevoking ((c k).words (Section th.section)) → (q : ℕ) → notes q th.log ≡ true
      → (heap_of (c (suc k)).words q ≡ heap_of (c k).words q) ⊎ ((m : ℕ) → pinned_of ((c k).words (Section th.section)) < m → Carries th.section m (heap_of (c k).words q) → ⊥))
      → OwnParts th (c (suc k)).words
  kept_parts k t th within before there same live = by_section (nat_eq th.section 0) refl
    where
      by_section : (z : Bool) → nat_eq th.section 0 ≡ z
          → PartsAreOwn th.section (pinned_of ((c (suc k)).words (Section th.section))) (top_of th) (marks_of th) th.log (heap_of (c (suc k)).words)
      by_section true is = parts_zero th.section (pinned_of ((c (suc k)).words (Section th.section))) (top_of th) (marks_of th) th.log (heap_of (c (suc k)).words) (no_top k t th (omega (arith, within)) there (zero_or th.section is))
      by_section false is =
          let was = was_live k t th within there (some_or th.section is) live in
          parts_deeper th.section (pinned_of ((c k).words (Section th.section))) (pinned_of ((c (suc k)).words (Section th.section))) (top_of th) (marks_of th) th.log (heap_of (c (suc k)).words) (pins k th.section within)
          (parts_elsewhere th.section (pinned_of ((c k).words (Section th.section))) (top_of th) (marks_of th) th.log (heap_of (c k).words) (heap_of (c (suc k)).words) (same (some_or th.section is) was)
          (before t th there was))

  -- the own part of a thread that undoes its section, since the level to which it does
  pub undone_part : (k t w : ℕ) (th : ThreadState S) → k ≤ length acts → NotedAt k → (c k).threads t ≡ Some th → th.attempt ≡ Undoing w
      → (0 < th.section) × AreOwnFrom th.section (revoke_of w) (heap_of (c k).words) (noted_since (mark_of th (revoke_of w)).noted th.log)
  undone_part k t w th within before there undoing = (
    some,
    part_first th.section (pinned_of ((c k).words (Section th.section))) (revoke_of w) (th.levels - revoke_of w) th.marks th.log (heap_of (c k).words)
        (undone_levels_have_marks code b first classes c acts run.monitors.levelled.ordered k t w th within there undoing)
        (subst (λ v. pinned_of v < revoke_of w) (sym sees) turned)
        (subst (λ g. PartsAreOwn th.section (pinned_of ((c k).words (Section th.section))) (top_at g th.levels) (counting_marks g th.levels th.marks) th.log (heap_of (c k).words)) undoing (before t th there live)),
  )
    where
      fits : IsFit code th
      fits = (facts_at code b c acts ran k within).fit t th there

      undoes : IsUndoing th w
      undoes = subst (AttemptFits th (code.next th.local)) undoing fits.attempt

      some : 0 < th.section
      some = above th.section undoes.section

      own : OwnWord th ((c k).words (Section th.section)) × SeesUndoing th.attempt ((c k).words (Section th.section))
      own = own_words_are_known code b c acts ran in_bits k t th within there some

      sees : (c k).words (Section th.section) ≡ w
      sees = subst (λ g. SeesUndoing g ((c k).words (Section th.section))) undoing own.1

      state : state_of ((c k).words (Section th.section)) ≡ number_of Revoking
      state = ap state_of sees ∙ state_is Revoking w undoes.revoked

      live : IsLiveOrRevoking ((c k).words (Section th.section))
      live = inr state

      turned : pinned_of w < revoke_of w
      turned = subst (λ v. pinned_of v < revoke_of v) sees (own.0.revoking state).0

  -- a word that a thread takes to be safe isn't one that another has written at a level that isn't pinned
  pub safe_other : (k t u m v : ℕ) (th uh : ThreadState S) → k ≤ length acts → (c k).threads t ≡ Some th → (c k).threads u ≡ Some uh → u ≢ t → 0 < uh.section
      → IsLiveOrRevoking ((c k).words (Section uh.section)) → pinned_of ((c k).words (Section uh.section)) < m → Carries uh.section m v → is_safe th v ≡ true → ⊥
  safe_other k t u m v th uh within at there other some live deep carries safe = by_safe (safe_so th v safe)
    where
      above_pin : (p m l d : ℕ) → p < m → m ≤ l → l ≤ d → d ≤ p → ⊥
      above_pin p m l d deep high low pinned = omega (arith, deep, high, low, pinned)

      by_safe : Safe th (tag_of v) → ⊥
      by_safe (by_none none) = none_carries uh.section m v some none carries
      by_safe (by_own own) =
          let same : th.section ≡ uh.section = sym own ∙ carries.0 in
          other (sym (sections_apart code b c acts ran k t u th uh within at there (subst (λ n. 0 < n) (sym same) some) same))
      by_safe (by_known known low) =
          elim (subst (λ s. IsCommittedOrPinned ((c k).words (Section s)) th.known_depth) (sym known ∙ carries.0) (known_sections_are_pinned code b c acts ran in_bits k t th within at)) [
            | inl committed ↦ committed_closed ((c k).words (Section uh.section)) committed live
            | inr pinned ↦ above_pin (pinned_of ((c k).words (Section uh.section))) m (tag_level (tag_of v)) th.known_depth deep carries.1 low pinned
          ]
