-- What a thread holds and where its code is, kept by each row of the automaton.
use Rattle.std.proofs.Common.{◌≡◌, ℕ, zero, suc, ◌-◌, ◌<◌, ◌≤◌, ◌&&◌, Bool, true, false, true≢false, List, [], ◌∷◌, nat_eq, drop, refl, sym, ◌∙◌, ap, subst, arith}
use Rattle.std.specs.Prelude.{nat_lt, IfSome, get_or}
use Rattle.std.proofs.lemmas.Grind.{common_steps}
use Rattle.std.proofs.lemmas.Bool.Decides.{nat_tests}
use Rattle.op_core.specs.Replies.{IsEntry, Fits, FitsNext}
use Rattle.op_core.specs.declared.Op.{Op}
use Rattle.op_core.specs.declared.Op.TheVariants.{Enter, Exit, Wait, Rewake, Start, Init, End}
use Rattle.op_core.specs.declared.Next.{Next}
use Rattle.op_core.specs.declared.Next.TheVariants.{Silent, Want, Ended}
use Rattle.op_core.specs.declared.Reply.{Reply}
use Rattle.op_core.specs.ThreadCode.{Code}
use Rattle.op_core.specs.Orderly.{IsEnd, IsWait, IsRewake, CanStand, by_reply, IsOrderly}
use Rattle.heap_words.specs.declared.areas.Area.{Area}
use Rattle.heap_words.specs.declared.areas.Area.TheVariants.{Section}
use Rattle.section_state.specs.SectionWord.{pinned_of, revoke_of, undone_of}
use Rattle.monitor_core.specs.Monitors.{monitor_section, monitor_depth, is_own}
use Rattle.step_port.specs.declared.answer.StepAnswer.{StepAnswer}
use Rattle.step_port.specs.declared.answer.StepAnswer.TheVariants.{Found, Lost}
use Rattle.step_port.specs.declared.step.Step.{Step}
use Rattle.step_port.specs.declared.step.Step.TheVariants.{LoadSection, Release, SetWait}
use Rattle.step_port.specs.Steps.{place_of, effect_of}
use Rattle.step_port.specs.Words.{CanAnswer}
use Rattle.thread_automaton.specs.declared.Bounds.{Bounds}
use Rattle.thread_automaton.specs.declared.Move.{Move}
use Rattle.thread_automaton.specs.declared.Move.TheVariants.{Make}
use Rattle.thread_automaton.specs.declared.Attempt.{Attempt}
use Rattle.thread_automaton.specs.declared.Attempt.TheVariants.{Begin, Look, Checked, Fixed, Undoing}
use Rattle.thread_automaton.specs.ThreadState.{ThreadState, is_open, is_own_section, inside, with_depth_of}
use Rattle.thread_automaton.specs.NextMove.{own_pin, move_of}
use Rattle.thread_automaton.specs.Changes.{Change, goes, has_to_wait, replies, knows, writes, deepens, prints, ends, answered, forgotten, with_level, with_levels, without_level, stood_at, section_at, without, changed}
use Rattle.thread_automaton.specs.Checks.{behind_pin, to_pin}
use Rattle.thread_automaton.specs.Monitors.{entry, take_for, needs_level}
use Rattle.thread_automaton.specs.Answers.{lost_on}
use Rattle.automaton_rows.specs.Fits.{IsKept}
use Rattle.automaton_rows.specs.Laws.{reply_of}
use Rattle.automaton_rows.specs.Rows.{Row, is_lost, own_stands, pins, restores, sets_monitor_back, gives_monitor_back, is_undone, section_opened, level_opened, monitor_taken, entered_again, exits_one, levels_closed, monitor_left, section_left, wait_begins, wait_noted, wait_made, notify_begins, start_begins, is_unready}
use Rattle.automaton_rows.proofs.RowLemmas.{by_if}
use Rattle.automaton_rows.proofs.FitLemmas.{last_step}
use Rattle.section_laws.specs.HeldLevels.{AreAtMost, kept_by, RewakesInLevels}
use Rattle.section_laws.proofs.held_levels.HeldLemmas.{at_most_more, without_low, with_depth_low, level_low, highest_bounds, below_level, kept_low}
use Rattle.section_laws.proofs.held_levels.WaitLemmas.{above, not_zero, at_most, same_size, IsWaitStep, IsLastReply, set_wait}

module _ {S : Type 0} (code : Code S) (first : S) (classes : ℕ) (orderly : IsOrderly code first classes) where
  -- a local state of its code, at which it isn't to take a monitor again after a wait
  abbrev pub IsUsual : S → Type 0
  IsUsual l = CanStand code first l × (IsRewake (code.next l) → ⊥)

  abbrev pub AreUsual : List S → Type 0
  AreUsual [] = Unit {0}
  AreUsual (l ∷ saved) = IsUsual l × AreUsual saved

  pub record Stands (th : ThreadState S) : Type 0 where
    pub can : CanStand code first th.local
    pub saved : AreUsual th.saved
    pub held : AreAtMost th.levels (kept_by th.attempt (code.next th.local) th.held)
    pub rewakes : IsRewake (code.next th.local) → RewakesInLevels th
    pub waiting : IsWaitStep th.attempt (code.next th.local) → 0 < th.section

  pub usual_drop : (n : ℕ) (saved : List S) → AreUsual saved → AreUsual (drop n saved)
  usual_drop zero saved each = each
  usual_drop (suc n) [] each = tt
  usual_drop (suc n) (l ∷ saved) each = usual_drop n saved each.1

  pub usual_at : (n : ℕ) (saved : List S) (l : S) → AreUsual saved → IsUsual l → IsUsual (get_or saved n l)
  usual_at n [] l each usual = usual
  usual_at zero (m ∷ saved) l each usual = each.0
  usual_at (suc n) (m ∷ saved) l each usual = usual_at n saved l each.1 usual

  -- ---- replies

  not_end : (op : Op) (reply : Reply) → Fits op reply → (IsLastReply reply (Want op) → ⊥) → IsEnd op → ⊥
  not_end (End x) Reply.Done fits last is = last tt
  not_end (End x) reply fits last is = absurd fits
  not_end op reply fits last is = absurd is

  wait_done : (op : Op) (reply : Reply) → IsWait op → reply ≡ Reply.Done → IsLastReply reply (Want op)
  wait_done (Wait r) reply is done = subst (λ x. IsLastReply x (Want (Wait r))) (sym done) tt
  wait_done op reply is done = absurd is

  pub reply_stands : (next : Next) (l : S) (reply : Reply) → code.next l ≡ next → CanStand code first l → FitsNext next reply → (IsLastReply reply next → ⊥)
      → IsUsual (code.reply l reply)
  reply_stands (Want op) l reply is can fits last = (
    by_reply l op reply can is (not_end op reply fits last) fits,
    λ rewake. let goes = orderly.reply_goes l op reply can is fits rewake in last (wait_done op reply goes.0 goes.1),
  )
  reply_stands Silent l reply is can fits last = absurd fits
  reply_stands Ended l reply is can fits last = absurd fits

  pub entry_goes_on : (next : Next) → IsEntry next → IsLastReply Reply.Done next → ⊥
  entry_goes_on (Want (Enter r)) enters last = last
  entry_goes_on (Want (Rewake r)) enters last = last
  entry_goes_on next enters last = absurd enters

  pub entry_fits : (next : Next) → IsEntry next → FitsNext next Reply.Done
  entry_fits (Want (Enter r)) enters = tt
  entry_fits (Want (Rewake r)) enters = tt
  entry_fits next enters = absurd enters

  -- ---- one thread

  module _ (b : Bounds) (th : ThreadState S) (stands : Stands th) where
    abbrev pub NoRelease : Step → Type 0
    NoRelease (Release r) = ⊥
    NoRelease step = Unit {0}

    lost_releases_none : (step : Step) (v : ℕ) → CanAnswer (effect_of step) (Lost v) → NoRelease step
    lost_releases_none (Release r) v can = absurd can
    lost_releases_none step v can = tt

    -- where the step is no release, nothing is about to be released
    kept_whole : (g : Attempt) (next : Next) (step : Step) → move_of code th next g ≡ Make step → NoRelease step → kept_by g next th.held ≡ th.held
    kept_whole (Fixed (Release q)) (Want (Exit r)) step makes none = absurd (subst NoReleaseIn (sym makes) none)
      where
        NoReleaseIn : Move → Type 0
        NoReleaseIn (Make step) = NoRelease step
        NoReleaseIn move = Unit {0}
    kept_whole g next step makes none = refl

    whole : {next : Next} {step : Step} → code.next th.local ≡ next → move_of code th next th.attempt ≡ Make step → NoRelease step → AreAtMost th.levels th.held
    whole {next} {step} is makes none =
        subst (AreAtMost th.levels) (ap (λ n. kept_by th.attempt n th.held) is ∙ kept_whole th.attempt next step makes none) stands.held

    -- a change of the attempt, and of what isn't seen here
    goes_to : (g : Attempt) → AreAtMost th.levels th.held → (IsWaitStep g (code.next th.local) → 0 < th.section) → Stands (record th { attempt = g })
    goes_to g each waiting = record {
      can = stands.can;
      saved = stands.saved;
      held = kept_low th.levels g (code.next th.local) th.held each;
      rewakes = λ is. let r = stands.rewakes is in record { section = r.section; level = r.level; pinned = r.pinned };
      waiting = waiting;
    }

    -- what becomes of a thread with a reply
    replied : {next : Next} (reply : Reply) → code.next th.local ≡ next → FitsNext next reply → (IsLastReply reply next → ⊥) → AreAtMost th.levels th.held → Stands (answered code th reply)
    replied {next} reply is fits last each =
        let usual = reply_stands next th.local reply is stands.can fits last in
        record { can = usual.0; saved = stands.saved; held = each; rewakes = λ rewake. absurd (usual.1 rewake); waiting = λ step. absurd step }

    -- changes that leave the levels, the saves and what is held
    abbrev IsPlain : Next → Change → Type 0
    IsPlain next (goes g) = IsWaitStep g next → ⊥
    IsPlain next (has_to_wait why) = ⊥ → ⊥
    IsPlain next (replies reply) = IsLastReply reply next → ⊥
    IsPlain next (knows s depth) = ⊥ → ⊥
    IsPlain next (writes log) = IsLastReply Reply.Done next → ⊥
    IsPlain next (deepens r depth) = IsLastReply Reply.Done next → ⊥
    IsPlain next (prints ticket line) = IsLastReply Reply.Done next → ⊥
    IsPlain next ends = ⊥ → ⊥
    IsPlain next change = ⊥

    plainly : {next : Next} (change : Change) → code.next th.local ≡ next → IsPlain next change → IfSome (reply_of change) (FitsNext next) → AreAtMost th.levels th.held → Stands (changed code th change)
    plainly {next} (goes g) is plain fits each = goes_to g each (λ step. absurd (plain (subst (IsWaitStep g) is step)))
    plainly (has_to_wait why) is plain fits each = goes_to Begin each (λ step. absurd step)
    plainly (replies reply) is plain fits each = replied reply is fits plain each
    plainly (knows s depth) is plain fits each =
        record { can = stands.can; saved = stands.saved; held = each; rewakes = λ is. let r = stands.rewakes is in record { section = r.section; level = r.level; pinned = r.pinned }; waiting = λ step. absurd step }
    plainly (writes log) is plain fits each =
        let r = replied Reply.Done is fits plain each in record { can = r.can; saved = r.saved; held = r.held; rewakes = λ is. let w = r.rewakes is in record { section = w.section; level = w.level; pinned = w.pinned }; waiting = r.waiting }
    plainly (deepens q depth) is plain fits each =
        let r = replied Reply.Done is fits plain each in
        record { can = r.can; saved = r.saved; held = with_depth_low th.levels q depth th.held each; rewakes = λ is. let w = r.rewakes is in record { section = w.section; level = w.level; pinned = w.pinned }; waiting = r.waiting }
    plainly (prints ticket line) is plain fits each =
        let r = replied Reply.Done is fits plain each in record { can = r.can; saved = r.saved; held = r.held; rewakes = λ is. let w = r.rewakes is in record { section = w.section; level = w.level; pinned = w.pinned }; waiting = r.waiting }
    plainly ends is plain fits each =
        record { can = stands.can; saved = stands.saved; held = each; rewakes = λ is. let r = stands.rewakes is in record { section = r.section; level = r.level; pinned = r.pinned }; waiting = λ step. absurd step }
    plainly change is plain fits each = absurd plain

  forgets : (y : ThreadState S) → Stands y → Stands (forgotten y)
  forgets y s = by_if (λ z. Stands z) (is_open y) y (record y { log = []; saved = []; marks = [] }) (λ yes. s)
      (λ no. record { can = s.can; saved = tt; held = s.held; rewakes = λ is. let r = s.rewakes is in record { section = r.section; level = r.level; pinned = r.pinned }; waiting = s.waiting })

  -- ---- rows

  module _ (b : Bounds) (th : ThreadState S) (stands : Stands th) (kept : IsKept th) where
    abbrev Keeps : Change → Type 0
    Keeps change = Stands (changed code th change)

    pub some_section : is_open th ≡ true → 0 < th.section
    some_section unpinned = by_test (nat_eq th.section 0) refl
      where
        not_open : (m n : ℕ) → nat_lt m n ≡ true → nat_eq n 0 ≡ true → ⊥
        not_open m n is none = grind (arith, common_steps, nat_tests)

        by_test : (t : Bool) → nat_eq th.section 0 ≡ t → 0 < th.section
        by_test true is = absurd (not_open th.pinned th.levels unpinned (sym kept.levels ∙ is))
        by_test false is = not_zero th.section is

    some_level : 0 < th.section → 0 < th.levels
    some_level some = by_test (nat_eq th.levels 0) refl
      where
        no : (n : ℕ) → 0 < n → nat_eq n 0 ≡ true → ⊥
        no n some none = grind (arith, common_steps, nat_tests)

        by_test : (t : Bool) → nat_eq th.levels 0 ≡ t → 0 < th.levels
        by_test true is = absurd (no th.section some (kept.levels ∙ is))
        by_test false is = not_zero th.levels is

    pub own_some : (m own : ℕ) → is_own m own ≡ true → 0 < own
    own_some m own is = above own (left (nat_lt 0 own) (nat_eq (monitor_section m) own) is)
      where
        left : (a c : Bool) → (a && c) ≡ true → a ≡ true
        left true c is = refl
        left false c is = cc

    pub whole_of : {next : Next} {step : Step} → code.next th.local ≡ next → move_of code th next th.attempt ≡ Make step → NoRelease b th stands step → AreAtMost th.levels th.held
    whole_of is makes none = whole b th stands is makes none

    -- after the load that may be followed by a pin
    to_pin_stands : (next : Next) → code.next th.local ≡ next → AreAtMost th.levels th.held → (IsWaitStep (behind_pin th next) next → 0 < th.section) → Keeps (goes (to_pin th next))
    to_pin_stands next is each some = by_if (λ g. Keeps (goes g)) (is_open th) (Fixed (own_pin th)) (behind_pin th next)
        (λ yes. goes_to b th stands (Fixed (own_pin th)) each (λ step. absurd step))
        (λ no. goes_to b th stands (behind_pin th next) each (λ step. some (subst (IsWaitStep (behind_pin th next)) is step)))

    pub needs_entry : (next : Next) → needs_level th next ≡ true → IsRewake next → ⊥
    needs_entry (Want (Rewake r)) needs is = true≢false (sym needs)
    needs_entry next needs is = absurd is

    -- the monitor that is taken gets the innermost level, or that of before
    entry_low : (next : Next) → code.next th.local ≡ next → IsEntry next → (entry th next th.levels).level ≤ th.levels
    entry_low (Want (Enter r)) is enters = same_size th.levels
    entry_low (Want (Rewake r)) is enters = (stands.rewakes (subst IsRewake (sym is) tt)).level
    entry_low next is enters = absurd enters

    with_first : (y : ThreadState S) → y.local ≡ th.local → (IsRewake (code.next th.local) → ⊥) → IsUsual y.local
    with_first y same usual = subst IsUsual (sym same) (stands.can, usual)

    pub keeps : {next : Next} {step : Step} {a : StepAnswer} {change : Change} → Row code b th next step a change → code.next th.local ≡ next
        → move_of code th next th.attempt ≡ Make step → CanAnswer (effect_of step) a → IfSome (reply_of change) (FitsNext next)
        → ((w : ℕ) → step ≡ LoadSection th.section → a ≡ Found w → 0 < th.section → th.pinned ≤ pinned_of w)
        → ((w : ℕ) → th.attempt ≡ Undoing w → (th.pinned < revoke_of w) × (revoke_of w ≤ th.levels)) → Keeps change
    keeps (is_lost {step = step} {v = v}) is makes can fits looked undoing = by_area (place_of step)
      where
        each : AreAtMost th.levels th.held
        each = whole_of is makes (lost_releases_none b th stands step v can)

        by_area : (area : Area) → Keeps (lost_on th area)
        by_area (Section s) = by_if (λ change. Keeps change) (is_own_section th s) (goes Look) (goes Begin)
            (λ yes. goes_to b th stands Look each (λ step. absurd step)) (λ no. goes_to b th stands Begin each (λ step. absurd step))
        by_area area = goes_to b th stands Begin each (λ step. absurd step)
    keeps (own_stands {w = w} at looks live) is makes can fits looked undoing = forgets (record th { pinned = pinned_of w; attempt = Checked }) (record {
      can = stands.can;
      saved = stands.saved;
      held = whole_of is makes tt;
      rewakes = λ rewake. let r = stands.rewakes rewake in record { section = r.section; level = r.level; pinned = up th.levels th.pinned (pinned_of w) r.pinned (looked w refl refl r.section) };
      waiting = λ step. absurd step;
    })
      where
        up : (m n p : ℕ) → m ≤ n → n ≤ p → m ≤ p
        up m n p low high = omega (arith, low, high)
    keeps (pins {next = next} unpinned lasts) is makes can fits looked undoing = forgets (record th { pinned = th.levels; attempt = behind_pin th next }) (record {
      can = stands.can;
      saved = stands.saved;
      held = kept_low th.levels (behind_pin th next) (code.next th.local) th.held (whole_of is makes tt);
      rewakes = λ rewake. let r = stands.rewakes rewake in record { section = r.section; level = r.level; pinned = same_size th.levels };
      waiting = λ step. some_section unpinned;
    })
    keeps (restores at undo does) is makes can fits looked undoing = record {
      can = stands.can;
      saved = stands.saved;
      held = stands.held;
      rewakes = λ rewake. let r = stands.rewakes rewake in record { section = r.section; level = r.level; pinned = r.pinned };
      waiting = stands.waiting;
    }
    keeps (sets_monitor_back {w = w} {r = r} {new = new} at undo does) is makes can fits looked undoing = record {
      can = stands.can;
      saved = stands.saved;
      held = subst (λ g. AreAtMost th.levels (kept_by g (code.next th.local) (with_depth_of r (monitor_depth new) th.held))) (sym at) (with_depth_low th.levels r (monitor_depth new) th.held (whole_of is makes tt));
      rewakes = λ rewake. let r = stands.rewakes rewake in record { section = r.section; level = r.level; pinned = r.pinned };
      waiting = stands.waiting;
    }
    keeps (gives_monitor_back {w = w} {r = r} at undo does) is makes can fits looked undoing = record {
      can = stands.can;
      saved = stands.saved;
      held = subst (λ g. AreAtMost th.levels (kept_by g (code.next th.local) (without r th.held))) (sym at)
          (without_low th.levels r th.held (subst (λ g. AreAtMost th.levels (kept_by g (code.next th.local) th.held)) at stands.held));
      rewakes = λ rewake. let r = stands.rewakes rewake in record { section = r.section; level = r.level; pinned = r.pinned };
      waiting = stands.waiting;
    }
    keeps (is_undone {w = w} at undo does) is makes can fits looked undoing = forgets
        (without_level (record (stood_at th (revoke_of w)) { section = section_at (revoke_of w - 1) th.section; attempt = Begin }) (revoke_of w)) (record {
          can = there.0;
          saved = usual_drop (suc (inside th (revoke_of w))) th.saved stands.saved;
          held = below_level (revoke_of w) th.held (last_step th.section w th.section (undone_of w) _ _ _ does);
          rewakes = λ rewake. absurd (there.1 rewake);
          waiting = λ step. absurd step;
        })
      where
        open_still : (p r l : ℕ) → p < r → r ≤ l → l ≤ p → ⊥
        open_still p r l low high pinned = omega (arith, low, high, pinned)

        usual : IsRewake (code.next th.local) → ⊥
        usual rewake = let r = undoing w at in open_still th.pinned (revoke_of w) th.levels r.0 r.1 (stands.rewakes rewake).pinned

        there : IsUsual (get_or th.saved (inside th (revoke_of w)) th.local)
        there = usual_at (inside th (revoke_of w)) th.saved th.local stands.saved (stands.can, usual)
    keeps (section_opened {next = next} {s = s} enters none some) is makes can fits looked undoing = record {
      can = stands.can;
      saved = ((stands.can, λ rewake. closed (stands.rewakes rewake)), stands.saved);
      held = subst (AreAtMost 1) (sym (kept.held none)) tt;
      rewakes = λ rewake. absurd (closed (stands.rewakes rewake));
      waiting = λ step. absurd step;
    }
      where
        no_section : (n : ℕ) → nat_eq n 0 ≡ true → 0 < n → ⊥
        no_section n none some = grind (arith, common_steps, nat_tests)

        closed : RewakesInLevels th → ⊥
        closed r = no_section th.section none r.section
    keeps (level_opened {next = next} enters some needs room) is makes can fits looked undoing =
        forgets (with_level (record th { attempt = Fixed (take_for th next th.section (suc th.levels)) })) (record {
          can = stands.can;
          saved = ((stands.can, usual), stands.saved);
          held = at_most_more th.levels (suc th.levels) th.held (one_more th.levels) (whole_of is makes tt);
          rewakes = λ rewake. absurd (usual rewake);
          waiting = λ step. absurd step;
        })
      where
        usual : IsRewake (code.next th.local) → ⊥
        usual rewake = needs_entry next needs (subst IsRewake is rewake)

        one_more : (n : ℕ) → n ≤ suc n
        one_more n = omega arith
    keeps (monitor_taken {next = next} enters some) is makes can fits looked undoing =
        let usual = reply_stands next th.local Reply.Done is stands.can (entry_fits next enters) (entry_goes_on next enters) in record {
          can = usual.0;
          saved = stands.saved;
          held = (entry_low next is enters, whole_of is makes tt);
          rewakes = λ rewake. absurd (usual.1 rewake);
          waiting = λ step. absurd step;
        }
    keeps (entered_again {next = next} enters calm_there) is makes can fits looked undoing = plainly b th stands (deepens _ _) is (entry_goes_on next enters) fits (whole_of is makes tt)
    keeps (exits_one {r = r} own last more outer) is makes can fits looked undoing = to_pin_stands (Want (Exit r)) is (whole_of is makes tt) (λ step. absurd step)
    keeps (levels_closed {r = r} {depth = depth} closes) is makes can fits looked undoing = forgets (with_levels (record th { attempt = Fixed (Release r) }) depth) (record {
      can = stands.can;
      saved = usual_drop (inside th depth) th.saved stands.saved;
      held = subst (λ n. AreAtMost depth (kept_by (Fixed (Release r)) n th.held)) (sym is) (subst (λ n. AreAtMost n (without r th.held)) (sym closes.4) (highest_bounds (without r th.held)));
      rewakes = λ rewake. absurd (subst IsRewake is rewake);
      waiting = λ step. absurd (subst (IsWaitStep (Fixed (Release r))) is step);
    })
    keeps (monitor_left {r = r} {h = h} {held = held} at more) is makes can fits looked undoing =
        let usual = reply_stands (Want (Exit r)) th.local Reply.Done is stands.can tt (λ last. last) in record {
          can = usual.0;
          saved = stands.saved;
          held = subst (AreAtMost th.levels) more (subst (λ n. AreAtMost th.levels (kept_by (Fixed (Release r)) n th.held)) is (subst (λ g. AreAtMost th.levels (kept_by g (code.next th.local) th.held)) at stands.held));
          rewakes = λ rewake. absurd (usual.1 rewake);
          waiting = λ step. absurd step;
        }
    keeps (section_left {r = r} at none) is makes can fits looked undoing =
        let usual = reply_stands (Want (Exit r)) th.local Reply.Done is stands.can tt (λ last. last) in
        forgets (with_levels (record (answered code th Reply.Done) { held = []; section = 0 }) 0) (record {
          can = usual.0;
          saved = usual_drop (inside th 0) th.saved stands.saved;
          held = tt;
          rewakes = λ rewake. absurd (usual.1 rewake);
          waiting = λ step. absurd step;
        })
    keeps (wait_begins {r = r} {m = m} own) is makes can fits looked undoing = to_pin_stands (Want (Wait r)) is (whole_of is makes tt) (λ step. own_some m th.section own)
    keeps (wait_noted {r = r} shut) is makes can fits looked undoing = goes_to b th stands (Fixed (Release r)) (whole_of is makes tt) (λ step. waits_at r _ _ is makes)
      where
        waits_at : (q w n : ℕ) → code.next th.local ≡ Want (Wait q) → move_of code th (Want (Wait q)) th.attempt ≡ Make (SetWait n w) → 0 < th.section
        waits_at q w n is makes = stands.waiting (subst (IsWaitStep th.attempt) (sym is) (set_wait code th q w n th.attempt makes))
    keeps (wait_made {r = r} shut at) is makes can fits looked undoing =
        let usual = reply_stands_wait r is in record {
          can = usual;
          saved = stands.saved;
          held = without_low th.levels r th.held each;
          rewakes = λ rewake. record { section = some; level = level_low th.levels r th.held (some_level some) each; pinned = at_most th.pinned th.levels shut };
          waiting = λ step. absurd step;
        }
      where
        each : AreAtMost th.levels th.held
        each = subst (λ n. AreAtMost th.levels (kept_by (Fixed (Release r)) n th.held)) is (subst (λ g. AreAtMost th.levels (kept_by g (code.next th.local) th.held)) at stands.held)

        some : 0 < th.section
        some = stands.waiting (subst (λ g. IsWaitStep g (code.next th.local)) (sym at) (subst (IsWaitStep (Fixed (Release r))) (sym is) tt))

        reply_stands_wait : (q : ℕ) → code.next th.local ≡ Want (Wait q) → CanStand code first (code.reply th.local Reply.Done)
        reply_stands_wait q is = by_reply th.local (Wait q) Reply.Done stands.can is (λ ends. ends) tt
    keeps (notify_begins {r = r} own) is makes can fits looked undoing = to_pin_stands (Want (Op.Notify r)) is (whole_of is makes tt) (λ step. absurd step)
    keeps (start_begins {r = r} {p = p} none) is makes can fits looked undoing = to_pin_stands (Want (Start r p)) is (whole_of is makes tt) (λ step. absurd step)
    keeps (is_unready {c = c} fresh) is makes can fits looked undoing = to_pin_stands (Want (Init c)) is (whole_of is makes tt) (λ step. absurd step)
    keeps {change = change} row is makes can fits looked undoing = plainly b th stands change is (λ h. h) fits (whole_of is makes tt)
