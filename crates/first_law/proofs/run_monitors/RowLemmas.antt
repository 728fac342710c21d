-- What a thread holds, apart from its marks, kept by each row of the automaton.
use Rattle.std.proofs.Common.{◌≡◌, ◌⊎◌, inl, inr, ℕ, suc, ◌+◌, ◌-◌, ◌^◌, ◌<◌, ◌≤◌, Bool, true, false, [], ◌∷◌, length, nat_eq, refl, sym, ◌∙◌, subst, arith}
use Rattle.std.specs.Prelude.{get_or, IfSome, if◌then◌else◌}
use Rattle.op_core.specs.Replies.{FitsNext}
use Rattle.op_core.specs.declared.Op.TheVariants.{Exit, Wait}
use Rattle.op_core.specs.declared.Next.{Next}
use Rattle.op_core.specs.declared.Next.TheVariants.{Want}
use Rattle.op_core.specs.declared.Reply.{Reply}
use Rattle.op_core.specs.ThreadCode.{Code}
use Rattle.op_core.specs.Orderly.{IsRewake}
use Rattle.heap_words.specs.declared.areas.Area.{Area}
use Rattle.heap_words.specs.declared.areas.Area.TheVariants.{Section}
use Rattle.section_state.specs.SectionWord.{pinned_of, revoke_of}
use Rattle.monitor_core.specs.Monitors.{monitor_depth, monitor_level}
use Rattle.step_port.specs.declared.answer.StepAnswer.{StepAnswer}
use Rattle.step_port.specs.declared.step.Step.{Step}
use Rattle.step_port.specs.declared.step.Step.TheVariants.{OpenSection, OpenLevel, CloseLevel, Pin, Commit, SetDepth, Release, SetWait, LoadWait}
use Rattle.step_port.specs.Steps.{place_of, effect_of}
use Rattle.step_port.specs.Words.{CanAnswer}
use Rattle.thread_automaton.specs.declared.Bounds.{Bounds}
use Rattle.thread_automaton.specs.declared.Move.TheVariants.{Make}
use Rattle.thread_automaton.specs.declared.Attempt.TheVariants.{Begin, Look, Checked, Fixed, Undoing}
use Rattle.thread_automaton.specs.ThreadState.{ThreadState, own_word, is_own_section, mark_of, inside, noted_since, held_as, with_depth_of, from_level, highest}
use Rattle.thread_automaton.specs.NextMove.{deepened_since, move_of}
use Rattle.thread_automaton.specs.Changes.{Change, goes, replies, deepens, answered, with_level, with_levels, without_level, stood_at, section_at, without, changed}
use Rattle.thread_automaton.specs.Checks.{behind_pin}
use Rattle.thread_automaton.specs.Monitors.{monitor_wanted, take_for, deepened}
use Rattle.thread_automaton.specs.Answers.{lost_on}
use Rattle.automaton_rows.specs.Laws.{reply_of}
use Rattle.automaton_rows.specs.Rows.{Row, is_lost, own_revoked, own_stands, pins, restores, sets_monitor_back, gives_monitor_back, is_undone, tag_live, section_numbered, section_opened, free_inside, level_opened, free_more, monitor_taken, own_again, entered_again, not_owner, exits_inner, exits_last, exits_level, exits_one, left_once, section_committed, levels_closed, monitor_left, section_left, wait_begins, wait_noted, wait_made, notify_begins, waiter_found, waiter_passed, start_begins, is_unready}
use Rattle.automaton_rows.specs.Undoing.{is_held}
use Rattle.automaton_rows.proofs.RowLemmas.{by_if}
use Rattle.automaton_rows.proofs.UndoLemmas.{once_with, once_without}
use Rattle.section_laws.proofs.held_levels.WaitLemmas.{not_zero, at_most}
use Rattle.section_laws.proofs.held_levels.RowLemmas.{reply_stands, usual_at}
use Rattle.section_laws.proofs.level_marks.RowLemmas.{NoUndo, IsUndoing, lost_undoes_none, no_undoing}
use Rattle.first_law.specs.Held.{has_level, top_at, MarksHold, TopHolds, IsEnteredOnce, SetsFor, StageHolds, Holds}
use Rattle.first_law.proofs.run_monitors.ListLemmas.{less_or, not_less, has_with, has_parts, has_highest_of, differ_with, differ_without, level_alone, depths_with, depths_without, depth_fits, let_go_of}
use Rattle.first_law.proofs.run_monitors.StageLemmas.{fixed_at, pin_holds, scan_holds}
use Rattle.first_law.proofs.run_monitors.MarkLemmas.{SetsBack, sets_back_so, gives_back_so, mark_first}
use Rattle.section_laws.specs.Marks.{counting_marks}
use Rattle.first_law.proofs.run_monitors.KeptLemmas.{Kept, KeptOf, kept_of, rest_any, waits_usual, no_wait, needs_usual, access_pins, free_other, behind_top, behind_holds, behind_fixed, behind_opens}
use Rattle.first_law.proofs.run_monitors.ChangeLemmas.{Given, Ground, forgets, whole, goes_any, calm_now, rest_now, go, go_to_pin, answers, answers_set, plainly}
use Rattle.first_law.proofs.run_monitors.OuterLemmas.{opens_for, takes_for, sets_for, sets_less, entered_once, is_innermost, held_low, is_outer, others_below, has_left}
use Rattle.first_law.proofs.run_monitors.EntryLemmas.{each_level, some_own, looking, own_says, unopened, takes_entry, enters_more, undoing_usual, opens_section, opens_next}

module _ {S : Type 0} {code : Code S} {first : S} {classes : ℕ} (b : Bounds) {th : ThreadState S} (ground : Ground code first classes th) where
  abbrev Keeps : Change → Type 0
  Keeps change = KeptOf b (code.next (changed code th change).local) (changed code th change)

  pub keeps : {next : Next} {step : Step} {a : StepAnswer} {change : Change} → Row code b th next step a change → code.next th.local ≡ next → Holds b next th
      → move_of code th next th.attempt ≡ Make step → CanAnswer (effect_of step) a → IfSome (reply_of change) (FitsNext next) → Given th step a → Keeps change
  keeps (is_lost {step = step} {v = v}) is h makes can fits_next given = by_area (place_of step)
    where
      none : NoUndo step
      none = lost_undoes_none step v can

      by_area : (area : Area) → Keeps (lost_on th area)
      by_area (Section s) = by_if (λ change. Keeps change) (is_own_section th s) (goes Look) (goes Begin) (λ own. go b ground is h step makes none Look tt tt tt) (λ other. go b ground is h step makes none Begin tt tt tt)
      by_area area = go b ground is h step makes none Begin tt tt tt
  keeps (own_revoked {w = w} at looks is_turned) is h makes can fits_next given =
      let low = given.turned w refl refl (looking b ground _ at looks) is_turned in
      subst (λ n. Kept b.limits.sections n th.section th.levels th.pinned th.level th.depth th.held (Undoing w)) (sym is) (record {
        once = h.once;
        apart = h.apart;
        depths = h.depths;
        levels_have = λ n some deep under. whole b ground is h (calm_now b ground is h _ makes tt) n some deep (less n (revoke_of w) th.levels under low);
        top = λ some. tt;
        fixed = tt;
        waits = h.waits;
        within = h.within;
        opens = tt;
      })
    where
      less : (n r l : ℕ) → n < r → r ≤ l → n < l
      less n r l under low = omega (arith, under, low)
  keeps {next = next} (own_stands {w = w} at looks live) is h makes can fits_next given =
      let up = given.looked w refl refl (looking b ground _ at looks) in
      forgets b ground (record th { pinned = pinned_of w; attempt = Checked })
      (subst (λ n. Kept b.limits.sections n th.section th.levels (pinned_of w) th.level th.depth th.held Checked) (sym is) (record {
        once = h.once;
        apart = h.apart;
        depths = h.depths;
        levels_have = λ n some deep under. whole b ground is h (calm_now b ground is h _ makes tt) n some (less th.pinned (pinned_of w) n up deep) under;
        top = λ some. rest_now b ground is h _ makes tt some;
        fixed = tt;
        waits = h.waits;
        within = h.within;
        opens = tt;
      }))
    where
      less : (p q n : ℕ) → p ≤ q → q ≤ n → p ≤ n
      less p q n up deep = omega (arith, up, deep)
  keeps (pins {next = next} unpinned lasts) is h makes can fits_next given =
      let pins_so = pin_holds code th th.section th.levels th.pinned th.held next th.attempt _ _ _ h.fixed (calm_now b ground is h _ makes tt) makes in
      forgets b ground (record th { pinned = th.levels; attempt = behind_pin th next })
      (subst (λ n. Kept b.limits.sections n th.section th.levels th.levels th.level th.depth th.held (behind_pin th next)) (sym is) (record {
        once = h.once;
        apart = h.apart;
        depths = h.depths;
        levels_have = λ n some deep under. absurd (no n th.levels deep (subst (λ t. n < t) (behind_top th next th.levels) under));
        top = λ some. behind_holds th th.section th.levels th.levels th.level th.held next (same th.levels) h.once (each_level b ground is makes tt) pins_so (rest_now b ground is h _ makes tt some);
        fixed = behind_fixed th th.section th.levels th.levels th.held next (same th.levels) pins_so;
        waits = h.waits;
        within = h.within;
        opens = behind_opens th b.limits.sections next;
      }))
    where
      no : (n l : ℕ) → l ≤ n → n < l → ⊥
      no n l deep under = omega (arith, deep, under)

      same : (n : ℕ) → n ≤ n
      same n = omega arith
  keeps (restores at undo does) is h makes can fits_next given = subst (λ n. KeptOf b n th) (sym is) (kept_of b _ th h)
  keeps {next = next} (sets_monitor_back {w = w} {r = r} {new = new} at undo does) is h makes can fits_next given =
      subst (λ n. Kept b.limits.sections n th.section th.levels th.pinned th.level th.depth (with_depth_of r (monitor_depth new) th.held) th.attempt) (sym is) (record {
        once = once_with r (monitor_depth new) th.held h.once;
        apart = differ_with r (monitor_depth new) th.held h.apart;
        depths = depths_with r (monitor_depth new) th.held back.some back.low h.depths;
        levels_have = λ n some deep under. has_with n r (monitor_depth new) th.held ∙ h.levels n some deep under;
        top = λ some. subst (λ g. TopHolds th.levels th.level (with_depth_of r (monitor_depth new) th.held) next g) (sym at) tt;
        fixed = subst (λ g. StageHolds th.section th.levels th.pinned (with_depth_of r (monitor_depth new) th.held) next g) (sym at) tt;
        waits = waits_usual th.level th.depth (with_depth_of r (monitor_depth new) th.held) next usual (no_wait th.level th.depth th.held next usual h.waits);
        within = h.within;
        opens = h.opens;
      })
    where
      back : SetsBack th.section r new th.held
      back = sets_back_so th.section w r new (revoke_of w) (mark_of th (revoke_of w)) th.held (from_level (revoke_of w) th.held) (noted_since (mark_of th (revoke_of w)).noted th.log) ground.small h.once
          ground.fits.kept.in_levels (mark_first (inside th (revoke_of w)) (revoke_of w) th.marks th.held (subst (λ g. MarksHold (top_at g th.levels) (counting_marks g th.levels th.marks) th.held) at h.marks)) does

      usual : IsRewake next → ⊥
      usual rewake = undoing_usual b ground w at given (subst IsRewake (sym is) rewake)
  keeps {next = next} (gives_monitor_back {w = w} {r = r} at undo does) is h makes can fits_next given =
      subst (λ n. Kept b.limits.sections n th.section th.levels th.pinned th.level th.depth (without r th.held) th.attempt) (sym is) (record {
        once = once_without r th.held h.once;
        apart = differ_without r th.held h.apart;
        depths = depths_without r th.held h.depths;
        levels_have = λ n some deep under. has_left n r th.held h.once (h.levels n some deep under) (λ same. no n (revoke_of w) (held_as r th.held).level (subst (λ g. n < top_at g th.levels) at under) back.1 same);
        top = λ some. subst (λ g. TopHolds th.levels th.level (without r th.held) next g) (sym at) tt;
        fixed = subst (λ g. StageHolds th.section th.levels th.pinned (without r th.held) next g) (sym at) tt;
        waits = waits_usual th.level th.depth (without r th.held) next usual (no_wait th.level th.depth th.held next usual h.waits);
        within = h.within;
        opens = h.opens;
      })
    where
      back : (is_held r th.held ≡ true) × (revoke_of w ≤ (held_as r th.held).level)
      back = gives_back_so th.section w r (revoke_of w) th.held (deepened_since (mark_of th (revoke_of w)) th.held) (noted_since (mark_of th (revoke_of w)).noted th.log) h.once does

      no : (n r l : ℕ) → n < r → r ≤ l → l ≡ n → ⊥
      no n r l under low same = omega (arith, under, low, same)

      usual : IsRewake next → ⊥
      usual rewake = undoing_usual b ground w at given (subst IsRewake (sym is) rewake)
  keeps {next = next} (is_undone {w = w} at undo does) is h makes can fits_next given =
      forgets b ground (without_level (record (stood_at th (revoke_of w)) { section = section_at (revoke_of w - 1) th.section; attempt = Begin }) (revoke_of w)) (record {
        once = h.once;
        apart = h.apart;
        depths = h.depths;
        levels_have = λ n some deep under. h.levels n some deep (subst (λ g. n < top_at g th.levels) (sym at) (less n (revoke_of w) under));
        top = λ some. rest_any (revoke_of w - 1) th.level th.held _ (has_last (some_left some));
        fixed = tt;
        waits = waits_usual th.level th.depth th.held _ there (no_wait th.level th.depth th.held next (λ rewake. usual (subst IsRewake (sym is) rewake)) h.waits);
        within = by_if (λ s. s ≤ b.limits.sections) (nat_eq (revoke_of w - 1) 0) 0 th.section (λ none. omega arith) (λ some. h.within);
        opens = tt;
      })
    where
      usual : IsRewake (code.next th.local) → ⊥
      usual = undoing_usual b ground w at given

      there : IsRewake (code.next (get_or th.saved (inside th (revoke_of w)) th.local)) → ⊥
      there = (usual_at code first classes ground.orderly (inside th (revoke_of w)) th.saved th.local ground.stands.saved (ground.stands.can, usual)).1

      less : (n r : ℕ) → n < r - 1 → n < r
      less n r under = omega (arith, under)

      some_left : 0 < section_at (revoke_of w - 1) th.section → 0 < revoke_of w - 1
      some_left some = by_test (nat_eq (revoke_of w - 1) 0) refl some
        where
          by_test : (t : Bool) → nat_eq (revoke_of w - 1) 0 ≡ t → 0 < (if t then 0 else th.section) → 0 < revoke_of w - 1
          by_test true none some = absurd (no some)
            where
              no : 0 < 0 → ⊥
              no some = omega (arith, some)
          by_test false left some = not_zero (revoke_of w - 1) left

      has_last : 0 < revoke_of w - 1 → has_level (revoke_of w - 1) th.held ≡ true
      has_last some = h.levels (revoke_of w - 1) some (deep th.pinned (revoke_of w) (given.undoing w at).0) (subst (λ g. revoke_of w - 1 < top_at g th.levels) (sym at) (under (revoke_of w) some))
        where
          deep : (p r : ℕ) → p < r → p ≤ r - 1
          deep p r low = omega (arith, low)

          under : (r : ℕ) → 0 < r - 1 → r - 1 < r
          under r some = omega (arith, some)
  -- monitors that are entered
  keeps (tag_live {s = s} {level = level} {w = w} at accesses unsafe_word live low) is h makes can fits_next given = go b ground is h _ makes tt (Fixed (Pin s w level)) tt (access_pins th.held _ accesses) tt
  keeps (section_numbered {n = n} enters none room) is h makes can fits_next given = go b ground is h _ makes tt (Fixed (OpenSection (n + 1) _)) tt tt (next_number n b.limits.sections (less_or n b.limits.sections room))
    where
      next_number : (n l : ℕ) → n < l → n + 1 ≤ l
      next_number n l low = omega (arith, low)
  keeps (section_opened {next = next} {s = s} enters none some) is h makes can fits_next given = opens_section b ground s is h makes enters none
  keeps (free_inside {next = next} {m = m} enters is_free open_so needs room) is h makes can fits_next given =
      go b ground is h _ makes tt (Fixed (OpenLevel th.section (own_word th))) tt
      (opens_for th.held next (free_other th.section th.held (monitor_wanted next) m ground.small h.depths ground.fits.kept.in_levels (given.loaded (monitor_wanted next) m refl refl) (not_zero th.section open_so) is_free)) tt
  keeps (level_opened {next = next} enters some needs room) is h makes can fits_next given =
      forgets b ground (with_level (record th { attempt = Fixed (take_for th next th.section (suc th.levels)) })) (opens_next b ground is h makes enters needs)
  keeps (free_more {next = next} {m = m} enters is_free open_so needs) is h makes can fits_next given =
      go b ground is h _ makes tt (Fixed (take_for th next th.section th.levels)) tt
      (takes_for th next (free_other th.section th.held (monitor_wanted next) m ground.small h.depths ground.fits.kept.in_levels (given.loaded (monitor_wanted next) m refl refl) (not_zero th.section open_so) is_free) needs) tt
  keeps (monitor_taken {next = next} enters some) is h makes can fits_next given =
      let calm = calm_now b ground is h _ makes tt in
      takes_entry b ground next is h calm enters (subst (StageHolds th.section th.levels th.pinned th.held next) (fixed_at code th next th.attempt (take_for th next th.section th.levels) tt calm makes) h.fixed)
      (rest_now b ground is h _ makes tt)
  keeps (own_again {next = next} {m = m} enters other own room) is h makes can fits_next given =
      go b ground is h _ makes tt (Fixed (deepened th (monitor_wanted next) m (monitor_depth m + 1))) tt
      (sets_for th.section th.level th.depth m th.held next enters h.waits (own_says b ground h (monitor_wanted next) m (given.loaded (monitor_wanted next) m refl refl) own) room) tt
  keeps (entered_again {next = next} {new = new} enters calm_row) is h makes can fits_next given =
      let at = fixed_at code th next th.attempt (SetDepth (monitor_wanted next) new) tt (no_undoing th.attempt calm_row) makes in
      enters_more b ground next new is h (no_undoing th.attempt calm_row) enters (subst (StageHolds th.section th.levels th.pinned th.held next) at h.fixed)
      (λ some. subst (TopHolds th.levels th.level th.held next) at (h.top some))
  -- monitors that are left
  keeps (not_owner {next = next} {r = r} needs other) is h makes can fits_next given = plainly b ground _ (replies _) is h makes tt (needs_usual next r needs, tt, tt, λ last. last) fits_next
  keeps (exits_inner {r = r} {m = m} own more) is h makes can fits_next given =
      go b ground is h _ makes tt (Fixed (deepened th r m (monitor_depth m - 1))) tt (sets_less th.section r m th.held (own_says b ground h r m (given.loaded r m refl refl) own) more) tt
  keeps (exits_last {r = r} {m = m} own last alone) is h makes can fits_next given =
      go b ground is h _ makes tt (Fixed (Commit th.section (own_word th))) tt (entered_once r m th.held (own_says b ground h r m (given.loaded r m refl refl) own) last) tt
  keeps (exits_level {r = r} {m = m} own last more inner) is h makes can fits_next given =
      let says = own_says b ground h r m (given.loaded r m refl refl) own in
      let each = each_level b ground is makes tt in
      go b ground is h _ makes tt (Fixed (CloseLevel th.section (own_word th) (highest (without r th.held)))) tt (
        entered_once r m th.held says last,
        is_innermost th.levels r th.held h.once each (rest_now b ground is h _ makes tt (some_own b ground m own)) (subst (λ l. highest (without r th.held) < l) says.level (less_or (highest (without r th.held)) (monitor_level m) inner))
            (held_low th.levels r th.held each says.has),
      ) tt
  keeps (exits_one {r = r} {m = m} own last more outer) is h makes can fits_next given =
      let says = own_says b ground h r m (given.loaded r m refl refl) own in
      go_to_pin b ground is h _ makes tt (each_level b ground is makes tt)
      (entered_once r m th.held says last, is_outer r th.held h.once h.apart says.has more (subst (λ l. l ≤ highest (without r th.held)) says.level (not_less (highest (without r th.held)) (monitor_level m) outer)))
  keeps (left_once {r = r} {new = new} calm_row) is h makes can fits_next given =
      let at = fixed_at code th (Want (Exit r)) th.attempt (SetDepth r new) tt (no_undoing th.attempt calm_row) makes in
      left_set r new is h (no_undoing th.attempt calm_row) (subst (StageHolds th.section th.levels th.pinned th.held (Want (Exit r))) at h.fixed) (λ some. subst (TopHolds th.levels th.level th.held (Want (Exit r))) at (h.top some))
    where
      left_set : (r new : ℕ) → code.next th.local ≡ Want (Exit r) → Holds b (Want (Exit r)) th → (IsUndoing th.attempt → ⊥) → SetsFor th.section th.held (Want (Exit r)) new → (0 < th.section → has_level th.levels th.held ≡ true)
          → Keeps (deepens r (monitor_depth new))
      left_set r new is h calm sets top = answers_set b ground is h r new (suc sets.1.0) calm top (λ rewake. rewake) tt (λ last. last) sets.0 (omega arith) (under sets.1.0 (held_as r th.held).depth sets.1.1 (depth_fits r th.held h.depths sets.0).1) sets.1.2
        where
          under : (d e : ℕ) → suc (suc d) ≡ e → e < 2 ^ 16 → suc d < 2 ^ 16
          under d e is low = omega (arith, is, low)
  keeps (section_committed {r = r} some alone) is h makes can fits_next given =
      let calm = calm_now b ground is h _ makes tt in
      goes_any b ground is h calm (Fixed (Release r)) refl (λ open_so. inl alone)
      (subst (StageHolds th.section th.levels th.pinned th.held (Want (Exit r))) (fixed_at code th (Want (Exit r)) th.attempt (Commit th.section (own_word th)) tt calm makes) h.fixed, inr (inr alone)) tt
  keeps (levels_closed {r = r} {depth = depth} closes) is h makes can fits_next given =
      forgets b ground (with_levels (record th { attempt = Fixed (Release r) }) depth)
      (subst (λ n. Kept b.limits.sections n th.section depth th.pinned th.level th.depth th.held (Fixed (Release r))) (sym is) (record {
        once = h.once;
        apart = h.apart;
        depths = h.depths;
        levels_have = λ n some deep under. whole b ground is h calm n some deep (less n depth (held_as r th.held).level th.levels under below stage.1);
        top = λ open_so. inr closes.4;
        fixed = (stage.0, inl below);
        waits = h.waits;
        within = h.within;
        opens = tt;
      }))
    where
      calm : IsUndoing th.attempt → ⊥
      calm = calm_now b ground is h (CloseLevel th.section (own_word th) depth) makes tt

      stage : IsEnteredOnce r th.held × ((held_as r th.held).level ≡ th.levels)
      stage = subst (StageHolds th.section th.levels th.pinned th.held (Want (Exit r))) (fixed_at code th (Want (Exit r)) th.attempt (CloseLevel th.section (own_word th) depth) tt calm makes) h.fixed

      below : depth < (held_as r th.held).level
      below = subst (λ n. n < (held_as r th.held).level) (sym closes.4) (others_below th.levels r th.held h.once h.apart (each_level b ground is makes tt) stage.0.0 closes.3 stage.1)

      less : (n d a l : ℕ) → n < d → d < a → a ≡ l → n < l
      less n d a l under low same = omega (arith, under, low, same)
  keeps (monitor_left {r = r} {h = k} {held = rest} at more) is h makes can fits_next given =
      subst (λ held. Kept b.limits.sections (code.next (code.reply th.local Reply.Done)) th.section th.levels th.pinned th.level th.depth held Begin) more
      (answers b ground is h Reply.Done (without r th.held) th.depth tt (λ last. last) (once_without r th.held h.once) (differ_without r th.held h.apart) (depths_without r th.held h.depths)
      (λ n some deep under. levels_left n some deep under stage.1) (λ some. top_left (subst (TopHolds th.levels th.level th.held (Want (Exit r))) at (h.top some))) h.waits)
    where
      calm : IsUndoing th.attempt → ⊥
      calm undoing = subst IsUndoing at undoing

      stage : IsEnteredOnce r th.held × ((th.levels < (held_as r th.held).level) ⊎ (th.levels ≤ th.pinned) ⊎ (without r th.held ≡ []))
      stage = subst (StageHolds th.section th.levels th.pinned th.held (Want (Exit r))) at h.fixed

      not_empty : without r th.held ≡ [] → k ∷ rest ≡ []
      not_empty none = sym more ∙ none

      cons_nil : {A : Type 0} → k ∷ rest ≡ [] → A
      cons_nil same = cc

      above_it : (n l a : ℕ) → n < l → l < a → a ≡ n → ⊥
      above_it n l a under high same = omega (arith, under, high, same)

      levels_left : (n : ℕ) → 0 < n → th.pinned ≤ n → n < th.levels → (th.levels < (held_as r th.held).level) ⊎ (th.levels ≤ th.pinned) ⊎ (without r th.held ≡ []) → has_level n (without r th.held) ≡ true
      levels_left n some deep under which = elim which [
        | inl high ↦ has_left n r th.held h.once (whole b ground is h calm n some deep under) (λ same. above_it n th.levels (held_as r th.held).level under high same)
        | inr other ↦ elim other [ inl pinned ↦ unopened b ground pinned n deep under | inr none ↦ cons_nil (not_empty none) ]
      ]

      top_left : (without r th.held ≡ []) ⊎ (th.levels ≡ highest (without r th.held)) → has_level th.levels (without r th.held) ≡ true
      top_left which = elim which [
        | inl none ↦ cons_nil (not_empty none)
        | inr same ↦ subst (λ n. has_level n (without r th.held) ≡ true) (sym same) (has_highest_of (without r th.held) (subst (λ xs. 0 < length xs) (sym more) (omega arith)))
      ]
  keeps (section_left {r = r} at none) is h makes can fits_next given =
      let usual = reply_stands code first classes ground.orderly (Want (Exit r)) th.local Reply.Done is ground.stands.can tt (λ last. last) in
      forgets b ground (with_levels (record (answered code th Reply.Done) { held = []; section = 0 }) 0) (record {
        once = tt;
        apart = tt;
        depths = tt;
        levels_have = λ n some deep under. absurd (no n under);
        top = λ open_so. absurd (no 0 open_so);
        fixed = tt;
        waits = waits_usual th.level th.depth [] _ usual.1 h.waits;
        within = omega arith;
        opens = tt;
      })
    where
      no : (n : ℕ) → n < 0 → ⊥
      no n under = omega (arith, under)
  -- waits and notifies
  keeps (wait_begins {r = r} {m = m} own) is h makes can fits_next given = go_to_pin b ground is h _ makes tt (each_level b ground is makes tt) (own_says b ground h r m (given.loaded r m refl refl) own).has
  keeps (wait_noted {r = r} shut) is h makes can fits_next given =
      let calm = calm_now b ground is h _ makes tt in
      goes_any b ground is h calm (Fixed (Release r)) refl (rest_now b ground is h _ makes tt)
      (subst (StageHolds th.section th.levels th.pinned th.held (Want (Wait r))) (fixed_at code th (Want (Wait r)) th.attempt (SetWait th.number _) tt calm makes) h.fixed) tt
  keeps (wait_made {r = r} shut at) is h makes can fits_next given =
      subst (λ n. Kept b.limits.sections n th.section th.levels th.pinned (held_as r th.held).level (held_as r th.held).depth (without r th.held) Begin)
      (sym (ground.orderly.waits th.local r ground.stands.can is)) (record {
        once = once_without r th.held h.once;
        apart = differ_without r th.held h.apart;
        depths = depths_without r th.held h.depths;
        levels_have = λ n some deep under. unopened b ground (at_most th.pinned th.levels shut) n deep under;
        top = λ some. elim (has_parts th.levels r th.held h.once (subst (TopHolds th.levels th.level th.held (Want (Wait r))) at (h.top some))) [ inl own ↦ inr own.1 | inr more ↦ inl more ];
        fixed = tt;
        waits = (fit.0, fit.1, let_go_of r th.held, level_alone r th.held h.once h.apart has);
        within = h.within;
        opens = tt;
      })
    where
      has : is_held r th.held ≡ true
      has = subst (StageHolds th.section th.levels th.pinned th.held (Want (Wait r))) at h.fixed

      fit : (0 < (held_as r th.held).depth) × ((held_as r th.held).depth < 2 ^ 16)
      fit = depth_fits r th.held h.depths has
  keeps (notify_begins {r = r} {m = m} own) is h makes can fits_next given = go_to_pin b ground is h _ makes tt (each_level b ground is makes tt) (own_says b ground h r m (given.loaded r m refl refl) own).has
  keeps (waiter_found {r = r} {n = n} {w = w} shut some low waiting) is h makes can fits_next given =
      go b ground is h _ makes tt (Fixed (Step.Notify n w)) tt (scan_holds code th th.section th.levels th.pinned th.held r th.attempt n h.fixed (calm_now b ground is h _ makes tt) makes) tt
  keeps (waiter_passed {r = r} {n = n} shut some other more) is h makes can fits_next given =
      go b ground is h _ makes tt (Fixed (LoadWait (n + 1))) tt (scan_holds code th th.section th.levels th.pinned th.held r th.attempt n h.fixed (calm_now b ground is h _ makes tt) makes) tt
  keeps (start_begins {r = r} {p = p} none) is h makes can fits_next given = go_to_pin b ground is h _ makes tt (each_level b ground is makes tt) tt
  keeps (is_unready {c = c} fresh) is h makes can fits_next given = go_to_pin b ground is h _ makes tt (each_level b ground is makes tt) tt
  keeps {step = step} {change = change} row is h makes can fits_next given = plainly b ground step change is h makes tt (tt, tt, tt, λ last. last) fits_next
