-- What a thread holds, apart from its marks, as it enters monitors and opens levels.
use Rattle.std.proofs.Common.{◌≡◌, inl, inr, ℕ, suc, ◌^◌, ◌<◌, ◌≤◌, Bool, true, false, true≢false, [], ◌∷◌, nat_eq, refl, sym, ◌∙◌, ap, subst, arith}
use Rattle.std.specs.Prelude.{nat_lt}
use Rattle.std.proofs.lemmas.Grind.{common_steps}
use Rattle.std.proofs.lemmas.Bool.Decides.{nat_tests}
use Rattle.op_core.specs.Replies.{IsEntry}
use Rattle.op_core.specs.declared.Op.TheVariants.{Enter, Rewake}
use Rattle.op_core.specs.declared.Next.{Next}
use Rattle.op_core.specs.declared.Next.TheVariants.{Want}
use Rattle.op_core.specs.declared.Reply.{Reply}
use Rattle.op_core.specs.ThreadCode.{Code}
use Rattle.op_core.specs.Orderly.{IsRewake}
use Rattle.section_state.specs.SectionWord.{revoke_of}
use Rattle.monitor_core.specs.Monitors.{monitor_depth, is_own}
use Rattle.step_port.specs.declared.answer.StepAnswer.{StepAnswer}
use Rattle.step_port.specs.declared.step.Step.{Step}
use Rattle.step_port.specs.declared.step.Step.TheVariants.{OpenSection, OpenLevel}
use Rattle.thread_automaton.specs.declared.Bounds.{Bounds}
use Rattle.thread_automaton.specs.declared.Move.TheVariants.{Make}
use Rattle.thread_automaton.specs.declared.Attempt.{Attempt}
use Rattle.thread_automaton.specs.declared.Attempt.TheVariants.{Begin, Look, Fixed, Undoing}
use Rattle.thread_automaton.specs.ThreadState.{ThreadState, opening_word, own_word, is_open, held_as}
use Rattle.thread_automaton.specs.NextMove.{move_of}
use Rattle.thread_automaton.specs.Changes.{Change, deepens, changed}
use Rattle.thread_automaton.specs.Monitors.{monitor_wanted, entry, take_for, needs_level}
use Rattle.automaton_rows.specs.Rows.{LooksAtOwn}
use Rattle.automaton_rows.specs.Undoing.{is_held}
use Rattle.automaton_rows.proofs.UndoLemmas.{eq_same}
use Rattle.section_laws.specs.HeldLevels.{AreAtMost}
use Rattle.section_laws.proofs.held_levels.WaitLemmas.{above}
use Rattle.section_laws.proofs.held_levels.RowLemmas.{NoRelease, some_section, own_some, whole_of}
use Rattle.section_laws.proofs.level_marks.RowLemmas.{IsUndoing}
use Rattle.first_law.specs.Held.{has_level, AtRest, OpensFor, TakesFor, SetsFor, StageHolds, OpensWithin, Holds}
use Rattle.first_law.proofs.run_monitors.ListLemmas.{or_left, or_right, true_or, less_or, not_less, has_first, has_none_deeper}
use Rattle.first_law.proofs.run_monitors.StageLemmas.{fixed_at}
use Rattle.first_law.proofs.run_monitors.KeptLemmas.{Kept, KeptOf, LoadSays, SaysHeld, says_held}
use Rattle.first_law.proofs.run_monitors.ChangeLemmas.{Given, Ground, twice_true, whole, calm_now, answers, answers_set}

module _ {S : Type 0} {code : Code S} {first : S} {classes : ℕ} (b : Bounds) {th : ThreadState S} (ground : Ground code first classes th) where
  abbrev pub Keeps : Change → Type 0
  Keeps change = KeptOf b (code.next (changed code th change).local) (changed code th change)

  pub each_level : {next : Next} {step : Step} → code.next th.local ≡ next → move_of code th next th.attempt ≡ Make step → NoRelease code first classes ground.orderly b th ground.stands step → AreAtMost th.levels th.held
  each_level is makes none = whole_of code first classes ground.orderly b th ground.stands ground.fits.kept is makes none

  pub some_open : is_open th ≡ true → 0 < th.section
  some_open open_so = some_section code first classes ground.orderly b th ground.stands ground.fits.kept open_so

  pub some_own : (m : ℕ) → is_own m th.section ≡ true → 0 < th.section
  some_own m own = own_some code first classes ground.orderly b th ground.stands ground.fits.kept m th.section own

  pub looking : (g : Attempt) → th.attempt ≡ g → LooksAtOwn th g → 0 < th.section
  looking Begin at looks = some_open looks
  looking Look at looks = above th.section looks
  looking g at looks = absurd looks

  pub own_says : {next : Next} (h : Holds b next th) (r m : ℕ) → LoadSays th.section th.held r m → is_own m th.section ≡ true → SaysHeld th.held r m
  own_says h r m says own = says_held th.section th.held r m ground.small h.depths ground.fits.kept.in_levels says own

  -- the second half of a wait is wanted in a section, with all levels seen pinned
  not_rewake : (IsRewake (code.next th.local) → ⊥) → {next : Next} → code.next th.local ≡ next → IsRewake next → ⊥
  not_rewake usual is rewake = usual (subst IsRewake (sym is) rewake)

  pub unopened : th.levels ≤ th.pinned → {P : Type 0} (n : ℕ) → th.pinned ≤ n → n < th.levels → P
  unopened pinned n deep low = absurd (no th.levels th.pinned n pinned deep low)
    where
      no : (l p n : ℕ) → l ≤ p → p ≤ n → n < l → ⊥
      no l p n pinned deep low = omega (arith, pinned, deep, low)

  -- ---- a monitor is taken

  pub takes_entry : (next : Next) → code.next th.local ≡ next → Holds b next th → (IsUndoing th.attempt → ⊥) → IsEntry next → TakesFor th.levels th.held next
      → (0 < th.section → AtRest th.levels th.level th.held next)
      → Kept b.limits.sections (code.next (code.reply th.local Reply.Done)) th.section th.levels th.pinned th.level 0 (entry th next th.levels ∷ th.held) Begin
  takes_entry (Want (Enter r)) is h calm enters takes rest = answers b ground is h Reply.Done (record { object = r; level = th.levels; depth = 1 } ∷ th.held) 0 tt (λ last. last)
      (takes.0, h.once) (takes.1, h.apart) (omega arith, omega arith, h.depths) (λ n some deep low. or_right (nat_eq th.levels n) (has_level n th.held) (whole b ground is h calm n some deep low))
      (λ some. has_first (record { object = r; level = th.levels; depth = 1 }) th.held) refl
  takes_entry (Want (Rewake r)) is h calm enters takes rest = answers b ground is h Reply.Done (record { object = r; level = th.level; depth = th.depth } ∷ th.held) 0 tt (λ last. last)
      (h.waits.2, h.once) (h.waits.3, h.apart) (h.waits.0, h.waits.1, h.depths) (λ n some deep low. or_right (nat_eq th.level n) (has_level n th.held) (whole b ground is h calm n some deep low))
      (λ some. elim (rest some) [
        | inl has ↦ or_right (nat_eq th.level th.levels) (has_level th.levels th.held) has
        | inr same ↦ or_left (nat_eq th.level th.levels) (has_level th.levels th.held) (subst (λ n. nat_eq th.level n ≡ true) same (eq_same th.level))
      ]) refl
  takes_entry next is h calm enters takes rest = absurd enters

  -- one that is held is entered once more
  pub enters_more : (next : Next) (new : ℕ) → code.next th.local ≡ next → Holds b next th → (IsUndoing th.attempt → ⊥) → IsEntry next → SetsFor th.section th.held next new → (0 < th.section → AtRest th.levels th.level th.held next)
      → Keeps (deepens (monitor_wanted next) (monitor_depth new))
  enters_more (Want (Enter r)) new is h calm enters sets rest = answers_set b ground is h r new (suc (held_as r th.held).depth) calm
      (λ some. true_or (has_level th.levels th.held) (λ none. true≢false (sym sets.0 ∙ rest some none))) (λ rewake. rewake) tt (λ last. last) sets.0 (omega arith) (one_more (held_as r th.held).depth sets.1) sets.2
    where
      one_more : (d : ℕ) → d < 65535 → suc d < 2 ^ 16
      one_more d low = omega (arith, low)
  enters_more (Want (Rewake r)) new is h calm enters sets rest = absurd sets
  enters_more next new is h calm enters sets rest = absurd enters

  -- ---- undoing

  -- no wait is under way
  pub undoing_usual : {step : Step} {a : StepAnswer} (w : ℕ) → th.attempt ≡ Undoing w → Given th step a → IsRewake (code.next th.local) → ⊥
  undoing_usual w at given rewake = open_still th.pinned (revoke_of w) th.levels (given.undoing w at).0 (given.undoing w at).1 (ground.stands.rewakes rewake).pinned
    where
      open_still : (p r l : ℕ) → p < r → r ≤ l → l ≤ p → ⊥
      open_still p r l low high pinned = omega (arith, low, high, pinned)

  -- the section is opened with its first level
  pub opens_section : {next : Next} (s : ℕ) → code.next th.local ≡ next → Holds b next th → move_of code th next th.attempt ≡ Make (OpenSection s (opening_word th)) → IsEntry next → nat_eq th.section 0 ≡ true
      → Kept b.limits.sections (code.next th.local) s 1 0 th.level th.depth th.held (Fixed (take_for th next s 1))
  opens_section {next} s is h makes enters none =
      let at = fixed_at code th next th.attempt (OpenSection s _) tt (calm_now b ground is h _ makes tt) makes in
      subst (λ n. Kept b.limits.sections n s 1 0 th.level th.depth th.held (Fixed (take_for th next s 1))) (sym is) (record {
        once = h.once;
        apart = h.apart;
        depths = h.depths;
        levels_have = λ n above_zero deep under. absurd (no n above_zero under);
        top = λ open_so. opened;
        fixed = taken next;
        waits = h.waits;
        within = subst (OpensWithin b.limits.sections) at h.opens;
        opens = tt;
      })
    where
      no : (n : ℕ) → 0 < n → n < 1 → ⊥
      no n some under = omega (arith, some, under)

      empty : th.held ≡ []
      empty = ground.fits.kept.held none

      -- nothing is held yet
      not_held : (r : ℕ) → is_held r th.held ≡ false
      not_held r = ap (is_held r) empty

      no_wait_here : IsRewake (code.next th.local) → ⊥
      no_wait_here rewake = closed th.section none (ground.stands.rewakes rewake).section
        where
          closed : (n : ℕ) → nat_eq n 0 ≡ true → 0 < n → ⊥
          closed n none some = grind (arith, common_steps, nat_tests)

      opened_by : (next : Next) → (IsRewake next → ⊥) → IsEntry next → AtRest 1 th.level th.held next
      opened_by (Want (Enter r)) usual enters = λ untaken. not_held r
      opened_by (Want (Rewake r)) usual enters = absurd (usual tt)
      opened_by next usual enters = absurd enters

      opened : AtRest 1 th.level th.held next
      opened = opened_by next (λ rewake. no_wait_here (subst IsRewake (sym is) rewake)) enters

      taken : (next : Next) → TakesFor 1 th.held next
      taken (Want (Enter r)) = (not_held r, ap (has_level 1) empty)
      taken next = tt

  -- the next level is opened
  pub opens_next : {next : Next} → code.next th.local ≡ next → Holds b next th → move_of code th next th.attempt ≡ Make (OpenLevel th.section (own_word th)) → IsEntry next → needs_level th next ≡ true
      → Kept b.limits.sections (code.next th.local) th.section (suc th.levels) th.pinned th.level th.depth th.held (Fixed (take_for th next th.section (suc th.levels)))
  opens_next {next} is h makes enters needs =
      subst (λ n. Kept b.limits.sections n th.section (suc th.levels) th.pinned th.level th.depth th.held (Fixed (take_for th next th.section (suc th.levels)))) (sym is) (record {
        once = h.once;
        apart = h.apart;
        depths = h.depths;
        levels_have = λ n above_zero deep under. by_level n above_zero deep under (nat_lt n th.levels) refl;
        top = λ open_so. opened next needs enters opens;
        fixed = taken next opens;
        waits = h.waits;
        within = h.within;
        opens = tt;
      })
    where
      calm : IsUndoing th.attempt → ⊥
      calm = calm_now b ground is h (OpenLevel th.section (own_word th)) makes tt

      opens : OpensFor th.held next
      opens = subst (StageHolds th.section th.levels th.pinned th.held next) (fixed_at code th next th.attempt (OpenLevel th.section (own_word th)) tt calm makes) h.fixed

      each : AreAtMost th.levels th.held
      each = each_level is makes tt

      has_old : (next : Next) → needs_level th next ≡ true → has_level th.levels th.held ≡ true
      has_old (Want (Rewake r)) needs = absurd (true≢false (sym needs))
      has_old next needs = twice_true (has_level th.levels th.held) needs

      last : (n l : ℕ) → l ≤ n → n < suc l → l ≡ n
      last n l high under = omega (arith, high, under)

      by_level : (n : ℕ) → 0 < n → th.pinned ≤ n → n < suc th.levels → (t : Bool) → nat_lt n th.levels ≡ t → has_level n th.held ≡ true
      by_level n above_zero deep under true less = whole b ground is h calm n above_zero deep (less_or n th.levels less)
      by_level n above_zero deep under false more = subst (λ m. has_level m th.held ≡ true) (last n th.levels (not_less n th.levels more) under) (has_old next needs)

      opened : (next : Next) → needs_level th next ≡ true → IsEntry next → OpensFor th.held next → AtRest (suc th.levels) th.level th.held next
      opened (Want (Enter r)) needs enters none = λ untaken. none
      opened (Want (Rewake r)) needs enters none = absurd (true≢false (sym needs))
      opened next needs enters none = absurd enters

      one_more : (n : ℕ) → n < suc n
      one_more n = omega arith

      taken : (next : Next) → OpensFor th.held next → TakesFor (suc th.levels) th.held next
      taken (Want (Enter r)) none = (none, has_none_deeper th.levels (suc th.levels) th.held each (one_more th.levels))
      taken next none = tt
