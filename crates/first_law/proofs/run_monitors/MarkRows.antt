-- What marks name, kept by each row of the automaton.
use Rattle.std.proofs.Common.{◌≡◌, ◌⊎◌, inl, inr, ℕ, zero, suc, ◌-◌, ◌<◌, ◌≤◌, true, false, List, [], ◌∷◌, length, drop, nat_eq, refl, sym, ◌∙◌, ap, subst, arith}
use Rattle.std.specs.Prelude.{nat_lt}
use Rattle.std.proofs.lemmas.Grind.{common_steps}
use Rattle.std.proofs.lemmas.Bool.Decides.{nat_tests}
use Rattle.op_core.specs.Replies.{IsEntry}
use Rattle.op_core.specs.declared.Op.{Op}
use Rattle.op_core.specs.declared.Op.TheVariants.{Enter, Exit, Wait, Rewake, Start, Init}
use Rattle.op_core.specs.declared.Next.{Next}
use Rattle.op_core.specs.declared.Next.TheVariants.{Want}
use Rattle.op_core.specs.declared.Reply.{Reply}
use Rattle.op_core.specs.ThreadCode.{Code}
use Rattle.op_core.specs.Orderly.{IsRewake}
use Rattle.heap_words.specs.declared.areas.Area.{Area}
use Rattle.heap_words.specs.declared.areas.Area.TheVariants.{Section}
use Rattle.section_state.specs.SectionWord.{pinned_of, revoke_of}
use Rattle.monitor_core.specs.Monitors.{monitor_depth}
use Rattle.step_port.specs.declared.answer.StepAnswer.{StepAnswer}
use Rattle.step_port.specs.declared.step.Step.{Step}
use Rattle.step_port.specs.declared.step.Step.TheVariants.{OpenSection, Release}
use Rattle.step_port.specs.Steps.{place_of, effect_of}
use Rattle.step_port.specs.Words.{CanAnswer}
use Rattle.thread_automaton.specs.declared.Bounds.{Bounds}
use Rattle.thread_automaton.specs.declared.Held.{Held}
use Rattle.thread_automaton.specs.declared.Move.TheVariants.{Make}
use Rattle.thread_automaton.specs.declared.Attempt.{Attempt}
use Rattle.thread_automaton.specs.declared.Attempt.TheVariants.{Begin, Look, Checked, Fixed, Undoing}
use Rattle.thread_automaton.specs.ThreadState.{ThreadState, Mark, is_open, is_own_section, mark_of, noted_since, held_as, with_depth_of}
use Rattle.thread_automaton.specs.NextMove.{deepened_since, own_pin, move_of}
use Rattle.thread_automaton.specs.Changes.{Change, goes, has_to_wait, replies, knows, writes, prints, ends, answered, forgotten, with_level, with_levels, without_level, stood_at, section_at, without, changed}
use Rattle.thread_automaton.specs.Checks.{behind_pin, to_pin}
use Rattle.thread_automaton.specs.Monitors.{monitor_wanted, entry, take_for}
use Rattle.thread_automaton.specs.Answers.{lost_on}
use Rattle.automaton_rows.specs.Rows.{LooksAtOwn, Row, is_lost, own_revoked, own_stands, pins, restores, sets_monitor_back, gives_monitor_back, is_undone, section_opened, level_opened, monitor_taken, entered_again, exits_one, left_once, levels_closed, monitor_left, section_left, wait_begins, wait_made, notify_begins, start_begins, is_unready}
use Rattle.automaton_rows.specs.Undoing.{is_held}
use Rattle.automaton_rows.proofs.RowLemmas.{by_if}
use Rattle.section_laws.specs.HeldLevels.{AreAtMost}
use Rattle.section_laws.proofs.held_levels.HeldLemmas.{highest_low, without_low}
use Rattle.section_laws.proofs.held_levels.WaitLemmas.{above}
use Rattle.section_laws.proofs.held_levels.RowLemmas.{NoRelease, some_section, whole_of}
use Rattle.section_laws.proofs.level_marks.RowLemmas.{IsUndoing, lost_undoes_none, all_count, no_undoing}
use Rattle.first_law.specs.Held.{top_at, further_out, sites, MarksHold, IsEnteredOnce, StageHolds, Holds}
use Rattle.first_law.proofs.run_monitors.ListLemmas.{is_not_less, sites_with, further_all, further_first, further_without}
use Rattle.first_law.proofs.run_monitors.StageLemmas.{undoes_none}
use Rattle.first_law.proofs.run_monitors.MarkLemmas.{marks_to, marks_drop, marks_suc, gives_back_so}
use Rattle.section_laws.specs.Marks.{counting_marks}
use Rattle.first_law.proofs.run_monitors.KeptLemmas.{top_all, behind_calm}
use Rattle.first_law.proofs.run_monitors.ChangeLemmas.{Given, Ground}

module _ {S : Type 0} {code : Code S} {first : S} {classes : ℕ} (b : Bounds) {th : ThreadState S} (ground : Ground code first classes th) where
  abbrev MarksOf : ThreadState S → Type 0
  MarksOf y = MarksHold (top_at y.attempt y.levels) (counting_marks y.attempt y.levels y.marks) y.held

  abbrev Keeps : Change → Type 0
  Keeps change = MarksOf (changed code th change)

  forgets : (y : ThreadState S) → (is_open y ≡ true → MarksOf y) → MarksOf (forgotten y)
  forgets y marked = by_if MarksOf (is_open y) y (record y { log = []; saved = []; marks = [] }) marked (λ shut. none_left y.attempt)
    where
      none_left : (g : Attempt) → MarksHold (top_at g y.levels) (counting_marks g y.levels []) y.held
      none_left (Undoing w) = drop_none (y.levels - revoke_of w) (revoke_of w)
        where
          drop_none : (j n : ℕ) → MarksHold n (drop j []) y.held
          drop_none zero n = tt
          drop_none (suc j) n = tt
      none_left g = tt

  each_level : {next : Next} {step : Step} → code.next th.local ≡ next → move_of code th next th.attempt ≡ Make step → NoRelease code first classes ground.orderly b th ground.stands step → AreAtMost th.levels th.held
  each_level is makes none = whole_of code first classes ground.orderly b th ground.stands ground.fits.kept is makes none

  -- where all levels were seen pinned there are none
  no_marks : is_open th ≡ false → th.marks ≡ []
  no_marks shut = empty th.marks (sym ground.fits.kept.saves ∙ ap length (ground.fits.unsaved shut))
    where
      empty : (marks : List Mark) → length marks ≡ 0 → marks ≡ []
      empty [] none = refl
      empty (m ∷ marks) none = absurd (no (length marks) none)
        where
          no : (n : ℕ) → suc n ≡ 0 → ⊥
          no n none = omega (arith, none)

  pinned_shut : th.levels ≤ th.pinned → is_open th ≡ false
  pinned_shut low = is_not_less th.pinned th.levels low

  none_marked : (n : ℕ) (held : List Held) → is_open th ≡ false → MarksHold n th.marks held
  none_marked n held shut = subst (λ marks. MarksHold n marks held) (sym (no_marks shut)) tt

  looking : (g : Attempt) → th.attempt ≡ g → LooksAtOwn th g → 0 < th.section
  looking Begin at looks = some_section code first classes ground.orderly b th ground.stands ground.fits.kept looks
  looking Look at looks = above th.section looks
  looking g at looks = absurd looks

  module _ {next : Next} (h : Holds b next th) where
    -- where nothing is being undone
    all_marked : (IsUndoing th.attempt → ⊥) → MarksHold th.levels th.marks th.held
    all_marked calm = subst (λ n. MarksHold n th.marks th.held) (top_all th.attempt th.levels calm)
        (subst (λ marks. MarksHold (top_at th.attempt th.levels) marks th.held) (all_count th.attempt th.levels th.marks calm) h.marks)

    goes_so : (g : Attempt) → (IsUndoing g → ⊥) → MarksHold th.levels th.marks th.held → Keeps (goes g)
    goes_so g calm marked = subst (λ n. MarksHold n (counting_marks g th.levels th.marks) th.held) (sym (top_all g th.levels calm))
        (subst (λ marks. MarksHold th.levels marks th.held) (sym (all_count g th.levels th.marks calm)) marked)

    pin_so : (next : Next) → MarksHold th.levels th.marks th.held → Keeps (goes (to_pin th next))
    pin_so next marked = by_if (λ g. Keeps (goes g)) (is_open th) (Fixed (own_pin th)) (behind_pin th next) (λ open_so. marked) (λ shut. goes_so (behind_pin th next) (behind_calm th next) marked)

    set_so : (r d n : ℕ) (marks : List Mark) → MarksHold n marks th.held → MarksHold n marks (with_depth_of r d th.held)
    set_so r d n marks marked = marks_to n marks th.held (with_depth_of r d th.held) (λ m low. sites_with m r d th.held) marked

    left_so : (r n : ℕ) (marks : List Mark) → is_held r th.held ≡ true → n ≤ (held_as r th.held).level → MarksHold n marks th.held → MarksHold n marks (without r th.held)
    left_so r n marks has deep marked = marks_to n marks th.held (without r th.held) (λ m low. ap sites (further_without m r th.held h.once has (up m n (held_as r th.held).level low deep))) marked
      where
        up : (m n l : ℕ) → m ≤ n → n ≤ l → m ≤ l
        up m n l low deep = omega (arith, low, deep)

  -- changes that leave levels, marks and what is held
  abbrev IsPlain : Change → Type 0
  IsPlain (goes g) = IsUndoing g → ⊥
  IsPlain (has_to_wait why) = ⊥ → ⊥
  IsPlain (replies reply) = ⊥ → ⊥
  IsPlain (knows s depth) = ⊥ → ⊥
  IsPlain (writes log) = ⊥ → ⊥
  IsPlain (prints ticket line) = ⊥ → ⊥
  IsPlain ends = ⊥ → ⊥
  IsPlain change = ⊥

  plainly : {next : Next} (h : Holds b next th) (change : Change) → IsPlain change → MarksHold th.levels th.marks th.held → Keeps change
  plainly h (goes g) plain marked = goes_so h g plain marked
  plainly h (has_to_wait why) plain marked = marked
  plainly h (replies reply) plain marked = marked
  plainly h (knows s depth) plain marked = marked
  plainly h (writes log) plain marked = marked
  plainly h (prints ticket line) plain marked = marked
  plainly h ends plain marked = marked
  plainly h change plain marked = absurd plain

  -- the monitor that is taken has the innermost level, or there are no marks
  taken_marks : (next : Next) → code.next th.local ≡ next → IsEntry next → MarksHold th.levels th.marks th.held → MarksHold th.levels th.marks (entry th next th.levels ∷ th.held)
  taken_marks (Want (Enter r)) is enters marked =
      marks_to th.levels th.marks th.held (record { object = r; level = th.levels; depth = 1 } ∷ th.held) (λ m low. ap sites (further_first m (record { object = r; level = th.levels; depth = 1 }) th.held low)) marked
  taken_marks (Want (Rewake r)) is enters marked =
      none_marked th.levels (record { object = r; level = th.level; depth = th.depth } ∷ th.held) (pinned_shut (ground.stands.rewakes (subst IsRewake (sym is) tt)).pinned)
  taken_marks next is enters marked = absurd enters

  pub keeps : {next : Next} {step : Step} {a : StepAnswer} {change : Change} → Row code b th next step a change → code.next th.local ≡ next → Holds b next th
      → move_of code th next th.attempt ≡ Make step → CanAnswer (effect_of step) a → Given th step a → Keeps change
  keeps {next = next} (is_lost {step = step} {v = v}) is h makes can given = by_area (place_of step)
    where
      marked : MarksHold th.levels th.marks th.held
      marked = all_marked h (undoes_none code th next step th.attempt makes (lost_undoes_none step v can))

      by_area : (area : Area) → Keeps (lost_on th area)
      by_area (Section s) = by_if (λ change. Keeps change) (is_own_section th s) (goes Look) (goes Begin) (λ own. marked) (λ other. marked)
      by_area area = marked
  keeps {next = next} (own_revoked {w = w} at looks is_turned) is h makes can given =
      subst (λ n. MarksHold n (drop (th.levels - revoke_of w) th.marks) th.held) (back th.levels (revoke_of w) (given.turned w refl refl (looking _ at looks) is_turned))
      (marks_drop (th.levels - revoke_of w) th.levels th.marks th.held (all_marked h (undoes_none code th next _ th.attempt makes tt)))
    where
      back : (l r : ℕ) → r ≤ l → l - (l - r) ≡ r
      back l r low = omega (arith, low)
  keeps {next = next} (own_stands {w = w} at looks live) is h makes can given =
      forgets (record th { pinned = pinned_of w; attempt = Checked }) (λ open_so. all_marked h (undoes_none code th next _ th.attempt makes tt))
  keeps {next = next} (pins {next = wanted} unpinned lasts) is h makes can given =
      forgets (record th { pinned = th.levels; attempt = behind_pin th wanted }) (λ open_so. goes_so h (behind_pin th wanted) (behind_calm th wanted) (all_marked h (undoes_none code th next _ th.attempt makes tt)))
  keeps (restores at undo does) is h makes can given = h.marks
  keeps (sets_monitor_back {r = r} {new = new} at undo does) is h makes can given = set_so h r (monitor_depth new) (top_at th.attempt th.levels) (counting_marks th.attempt th.levels th.marks) h.marks
  keeps (gives_monitor_back {w = w} {r = r} at undo does) is h makes can given =
      left_so h r (top_at th.attempt th.levels) (counting_marks th.attempt th.levels th.marks) back.0 (subst (λ g. top_at g th.levels ≤ (held_as r th.held).level) (sym at) back.1) h.marks
    where
      back : (is_held r th.held ≡ true) × (revoke_of w ≤ (held_as r th.held).level)
      back = gives_back_so th.section w r (revoke_of w) th.held (deepened_since (mark_of th (revoke_of w)) th.held) (noted_since (mark_of th (revoke_of w)).noted th.log) h.once does
  keeps (is_undone {w = w} at undo does) is h makes can given =
      forgets (without_level (record (stood_at th (revoke_of w)) { section = section_at (revoke_of w - 1) th.section; attempt = Begin }) (revoke_of w))
      (λ open_so. marks_suc (th.levels - revoke_of w) (revoke_of w) th.marks th.held (subst (λ g. MarksHold (top_at g th.levels) (counting_marks g th.levels th.marks) th.held) at h.marks))
  keeps {next = next} (section_opened {s = s} enters none some) is h makes can given = ((subst (λ xs. sites xs ≡ sites (further_out 1 xs)) (sym empty) refl, h.depths), rest)
    where
      empty : th.held ≡ []
      empty = ground.fits.kept.held none

      no_levels : th.levels ≡ 0
      no_levels = is_zero th.levels (sym ground.fits.kept.levels ∙ none)
        where
          is_zero : (n : ℕ) → nat_eq n 0 ≡ true → n ≡ 0
          is_zero n none = grind (arith, common_steps, nat_tests)

      rest : MarksHold (1 - 1) th.marks th.held
      rest = subst (λ n. MarksHold n th.marks th.held) no_levels (all_marked h (undoes_none code th next (OpenSection s _) th.attempt makes tt))
  keeps {next = next} (level_opened {next = wanted} enters some needs room) is h makes can given =
      forgets (with_level (record th { attempt = Fixed (take_for th wanted th.section (suc th.levels)) }))
      (λ open_so. (
        (ap sites (sym (further_all th.levels (suc th.levels) th.held (each_level is makes tt) (one_more th.levels))), h.depths),
        subst (λ n. MarksHold n th.marks th.held) (same th.levels) (all_marked h (undoes_none code th next _ th.attempt makes tt)),
      ))
    where
      one_more : (n : ℕ) → n < suc n
      one_more n = omega arith

      same : (n : ℕ) → n ≡ suc n - 1
      same n = omega arith
  keeps {next = next} (monitor_taken {next = wanted} enters some) is h makes can given = taken_marks wanted is enters (all_marked h (undoes_none code th next _ th.attempt makes tt))
  keeps (entered_again {next = next} {new = new} enters calm_row) is h makes can given = set_so h (monitor_wanted next) (monitor_depth new) th.levels th.marks (all_marked h (no_undoing th.attempt calm_row))
  keeps {next = next} (exits_one {r = r} own last more outer) is h makes can given = pin_so h (Want (Exit r)) (all_marked h (undoes_none code th next _ th.attempt makes tt))
  keeps (left_once {r = r} {new = new} calm_row) is h makes can given = set_so h r (monitor_depth new) th.levels th.marks (all_marked h (no_undoing th.attempt calm_row))
  keeps {next = next} (levels_closed {r = r} {depth = depth} closes) is h makes can given =
      forgets (with_levels (record th { attempt = Fixed (Release r) }) depth)
      (λ open_so. subst (λ n. MarksHold n (drop (th.levels - depth) th.marks) th.held) (back th.levels depth low) (marks_drop (th.levels - depth) th.levels th.marks th.held (all_marked h (undoes_none code th next _ th.attempt makes tt))))
    where
      back : (l r : ℕ) → r ≤ l → l - (l - r) ≡ r
      back l r low = omega (arith, low)

      low : depth ≤ th.levels
      low = subst (λ n. n ≤ th.levels) (sym closes.4) (highest_low th.levels (without r th.held) (without_low th.levels r th.held (each_level is makes tt)))
  keeps (monitor_left {r = r} {h = k} {held = rest} at more) is h makes can given =
      subst (MarksHold th.levels th.marks) more (elim stage.1 [
        | inl high ↦ left_so h r th.levels th.marks stage.0.0 (up th.levels (held_as r th.held).level high) (all_marked h (λ undoing. subst IsUndoing at undoing))
        | inr other ↦ elim other [ inl pinned ↦ none_marked th.levels (without r th.held) (pinned_shut pinned) | inr none ↦ cons_nil (sym more ∙ none) ]
      ])
    where
      stage : IsEnteredOnce r th.held × ((th.levels < (held_as r th.held).level) ⊎ (th.levels ≤ th.pinned) ⊎ (without r th.held ≡ []))
      stage = subst (StageHolds th.section th.levels th.pinned th.held (Want (Exit r))) at h.fixed

      cons_nil : {A : Type 0} → k ∷ rest ≡ [] → A
      cons_nil same = cc

      up : (l a : ℕ) → l < a → l ≤ a
      up l a high = omega (arith, high)
  keeps (section_left {r = r} at none) is h makes can given = forgets (with_levels (record (answered code th Reply.Done) { held = []; section = 0 }) 0) (λ open_so. absurd (no th.pinned open_so))
    where
      no : (n : ℕ) → nat_lt n 0 ≡ true → ⊥
      no n is = grind (arith, common_steps, nat_tests)
  keeps {next = next} (wait_begins {r = r} own) is h makes can given = pin_so h (Want (Wait r)) (all_marked h (undoes_none code th next _ th.attempt makes tt))
  keeps (wait_made {r = r} shut at) is h makes can given = none_marked th.levels (without r th.held) shut
  keeps {next = next} (notify_begins {r = r} own) is h makes can given = pin_so h (Want (Op.Notify r)) (all_marked h (undoes_none code th next _ th.attempt makes tt))
  keeps {next = next} (start_begins {r = r} {p = p} none) is h makes can given = pin_so h (Want (Start r p)) (all_marked h (undoes_none code th next _ th.attempt makes tt))
  keeps {next = next} (is_unready {c = c} fresh) is h makes can given = pin_so h (Want (Init c)) (all_marked h (undoes_none code th next _ th.attempt makes tt))
  keeps {next = next} {step = step} {change = change} row is h makes can given = plainly h change (λ undoing. undoing) (all_marked h (undoes_none code th next step th.attempt makes tt))
