-- What each row makes of monitors and their words.
use Rattle.std.proofs.Common.{◌≡◌, ◌≢◌, ◌⊎◌, Some, inl, inr, ℕ, suc, ◌+◌, ◌-◌, ◌^◌, ◌<◌, ◌≤◌, true, false, List, [], ◌∷◌, nat_eq, refl, sym, ◌∙◌, ap, subst, arith}
use Rattle.std.specs.Prelude.{nat_le, if◌then◌else◌}
use Rattle.std.proofs.lemmas.Grind.{common_steps}
use Rattle.std.proofs.lemmas.Bool.Decides.{nat_tests}
use Rattle.op_core.specs.Replies.{IsEntry}
use Rattle.op_core.specs.declared.Op.TheVariants.{Enter, Exit, Wait, Rewake}
use Rattle.op_core.specs.declared.Next.{Next}
use Rattle.op_core.specs.declared.Next.TheVariants.{Want}
use Rattle.op_core.specs.declared.Reply.{Reply}
use Rattle.op_core.specs.ThreadCode.{Code}
use Rattle.heap_words.specs.declared.areas.Area.{Area}
use Rattle.heap_words.specs.declared.areas.Area.TheVariants.{Section}
use Rattle.heap_words.specs.declared.areas.Area.TheVariants as area
use Rattle.section_state.specs.SectionWord.{pinned_of, revoke_of, undone_of}
use Rattle.monitor_core.specs.Monitors.{monitor_depth}
use Rattle.step_port.specs.declared.answer.StepAnswer.{StepAnswer}
use Rattle.step_port.specs.declared.answer.StepAnswer.TheVariants.{Lost}
use Rattle.step_port.specs.declared.step.Step.{Step}
use Rattle.step_port.specs.declared.step.Step.TheVariants.{LoadWord, SwapWord, RestoreWord, SetHeader, StartThread, LookMonitor, LoadThread, TakeMonitor, LoadMonitor, SetDepth, Release}
use Rattle.step_port.specs.Steps.{place_of, effect_of}
use Rattle.step_port.specs.Words.{Words, put_at, words_after}
use Rattle.thread_automaton.specs.declared.Bounds.{Bounds}
use Rattle.thread_automaton.specs.declared.Held.{Held}
use Rattle.thread_automaton.specs.declared.Move.TheVariants.{Make}
use Rattle.thread_automaton.specs.declared.Attempt.TheVariants.{Begin, Look, Checked, Fixed}
use Rattle.thread_automaton.specs.ThreadState.{ThreadState, is_open, is_own_section, mark_of, inside, noted_since, held_as, with_depth_of, from_level}
use Rattle.thread_automaton.specs.NextMove.{held_word, deepened_since, move_of}
use Rattle.thread_automaton.specs.Changes.{Change, goes, deepens, answered, forgotten, with_level, with_levels, without_level, stood_at, section_at, without, changed}
use Rattle.thread_automaton.specs.Checks.{behind_pin}
use Rattle.thread_automaton.specs.Monitors.{monitor_wanted, entry, take_for}
use Rattle.thread_automaton.specs.Answers.{lost_on}
use Rattle.automaton_rows.specs.Fits.{InLevels}
use Rattle.automaton_rows.specs.Rows.{Row, is_lost, own_stands, pins, sets_monitor_back, gives_monitor_back, is_undone, section_opened, level_opened, monitor_taken, entered_again, left_once, levels_closed, monitor_left, section_left, wait_made}
use Rattle.automaton_rows.specs.Undoing.{is_held}
use Rattle.automaton_rows.proofs.RowLemmas.{by_if}
use Rattle.automaton_rows.proofs.FitLemmas.{last_step}
use Rattle.automaton_rows.proofs.UndoLemmas.{eq_no, depth_is}
use Rattle.section_laws.proofs.level_marks.RowLemmas.{no_undoing}
use Rattle.section_laws.proofs.WordLemmas.{stays_at}
use Rattle.first_law.specs.RunMonitors.{written_place}
use Rattle.first_law.specs.Held.{top_at, MarksHold, TakesFor, SetsFor, StageHolds, Holds}
use Rattle.first_law.proofs.run_monitors.ListLemmas.{depth_fits, level_fits}
use Rattle.first_law.proofs.run_monitors.StageLemmas.{fixed_at, undoes_none}
use Rattle.first_law.proofs.run_monitors.MarkLemmas.{SetsBack, sets_back_so, gives_back_so, mark_first}
use Rattle.section_laws.specs.Marks.{counting_marks}
use Rattle.first_law.proofs.run_monitors.ChangeLemmas.{Ground}

-- ---- steps on monitors

-- it sets no monitor, whatever its answer
abbrev pub SetsNoMonitor : Step → Type 0
SetsNoMonitor (TakeMonitor r new) = ⊥
SetsNoMonitor (SetDepth r new) = ⊥
SetsNoMonitor (Release r) = ⊥
SetsNoMonitor step = Unit {0}

pub set_elsewhere : (w : Words) (p q v : ℕ) → p ≢ q → put_at w (area.Object p) v (area.Object q) ≡ w (area.Object q)
set_elsewhere w p q v other = ap (λ t. if t then v else w (area.Object q)) (eq_no q p (λ same. other (sym same)))

-- so the word of an object at another place stays
pub stays_by : (step : Step) → SetsNoMonitor step → (w : Words) (q : ℕ) → ((p : ℕ) → written_place step ≡ Some p → p ≢ q) → words_after step w (area.Object q) ≡ w (area.Object q)
stays_by (TakeMonitor r new) none w q apart = absurd none
stays_by (SetDepth r new) none w q apart = absurd none
stays_by (Release r) none w q apart = absurd none
stays_by (LoadWord at) none w q apart = refl
stays_by (LoadMonitor r) none w q apart = refl
stays_by (LookMonitor r) none w q apart = refl
stays_by (LoadThread which) none w q apart = refl
stays_by (SwapWord at old new) none w q apart = by_if (λ (v : Words). v (area.Object q) ≡ w (area.Object q)) (nat_eq (w (area.Object at)) old) (put_at w (area.Object at) new) w
    (λ found. set_elsewhere w at q new (apart at refl)) (λ other. refl)
stays_by (StartThread r n) none w q apart = by_if (λ (v : Words). v (area.Object q) ≡ w (area.Object q)) (nat_eq (w (area.Object (r + 3))) 0) (put_at w (area.Object (r + 3)) _) w
    (λ found. set_elsewhere w (r + 3) q _ (apart (r + 3) refl)) (λ other. refl)
stays_by (RestoreWord at old) none w q apart = set_elsewhere w at q old (apart at refl)
stays_by (SetHeader r word) none w q apart = set_elsewhere w r q word (apart r refl)
stays_by step none w q apart = stays_at (effect_of step) w (place_of step) (area.Object q) refl

-- ---- what a thread does with monitors

-- A thread that has section s open, and holds these, makes the step, and this is answered. Then it has section t open and
-- holds those.
pub data MonitorDeed (s t : ℕ) (held behind : List Held) : Step → StepAnswer → Type 0 where
  keeps_all : {step : Step} {a : StepAnswer} → behind ≡ held → (t ≡ s) ⊎ (held ≡ []) → SetsNoMonitor step ⊎ ((v : ℕ) × (a ≡ Lost v)) → MonitorDeed s t held behind step a
  takes_one : {h : Held} {r : ℕ} → r ≡ h.object → is_held h.object held ≡ false → 0 < h.depth → behind ≡ h ∷ held → t ≡ s → MonitorDeed s t held behind (TakeMonitor r (held_word s h)) StepAnswer.Done
  sets_one : {r new : ℕ} (d : ℕ) → is_held r held ≡ true → new ≡ held_word s (record (held_as r held) { depth = d }) → behind ≡ with_depth_of r d held → t ≡ s
      → MonitorDeed s t held behind (SetDepth r new) StepAnswer.Done
  leaves_one : {r : ℕ} → is_held r held ≡ true → behind ≡ without r held → (t ≡ s) ⊎ (behind ≡ []) → MonitorDeed s t held behind (Release r) StepAnswer.Done

-- where none of level n or further inside is held, and there is at most level 1, none is
none_from : (n : ℕ) (held : List Held) → InLevels held → n ≤ 1 → from_level n held ≡ [] → held ≡ []
none_from n [] each low none = refl
none_from n (h ∷ held) each low none = absurd (cons_nil (sym (ap (λ t. if t then h ∷ from_level n held else from_level n held) (at_least n h.level low each.0)) ∙ none))
  where
    at_least : (n l : ℕ) → n ≤ 1 → 0 < l → nat_le n l ≡ true
    at_least n l low some = grind (arith, common_steps, nat_tests)

    cons_nil : h ∷ from_level n held ≡ [] → ⊥
    cons_nil same = cc

module _ {S : Type 0} {code : Code S} {first : S} {classes : ℕ} (b : Bounds) {th : ThreadState S} (ground : Ground code first classes th) where
  abbrev pub DeedTo : ThreadState S → Step → StepAnswer → Type 0
  DeedTo y step a = MonitorDeed th.section y.section th.held y.held step a

  abbrev Does : Change → Step → StepAnswer → Type 0
  Does change step a = DeedTo (changed code th change) step a

  forgets_so : {step : Step} {a : StepAnswer} (y : ThreadState S) → DeedTo y step a → DeedTo (forgotten y) step a
  forgets_so {step} {a} y deed = by_if (λ z. DeedTo z step a) (is_open y) y (record y { log = []; saved = []; marks = [] }) (λ open_so. deed) (λ shut. deed)

  module _ {next : Next} (h : Holds b next th) where
    -- a monitor that is held gets another depth, as its step says
    sets_to : {r new : ℕ} (d : ℕ) → is_held r th.held ≡ true → d < 2 ^ 16 → new ≡ held_word th.section (record (held_as r th.held) { depth = d })
        → MonitorDeed th.section th.section th.held (with_depth_of r (monitor_depth new) th.held) (SetDepth r new) StepAnswer.Done
    sets_to {r} {new} d has low word =
        sets_one d has word (ap (λ n. with_depth_of r n th.held) (ap monitor_depth word ∙ depth_is th.section d (held_as r th.held).level ground.small low (level_fits r th.held ground.fits.kept.in_levels).1)) refl

    sets_more : (next : Next) (new : ℕ) → IsEntry next → SetsFor th.section th.held next new → Does (deepens (monitor_wanted next) (monitor_depth new)) (SetDepth (monitor_wanted next) new) StepAnswer.Done
    sets_more (Want (Enter r)) new enters sets = sets_to (suc (held_as r th.held).depth) sets.0 (one_more (held_as r th.held).depth sets.1) sets.2
      where
        one_more : (d : ℕ) → d < 65535 → suc d < 2 ^ 16
        one_more d low = omega (arith, low)
    sets_more (Want (Rewake r)) new enters sets = absurd sets
    sets_more next new enters sets = absurd enters

    sets_fewer : (r new : ℕ) → SetsFor th.section th.held (Want (Exit r)) new → Does (deepens r (monitor_depth new)) (SetDepth r new) StepAnswer.Done
    sets_fewer r new sets = sets_to (suc sets.1.0) sets.0 (under sets.1.0 (held_as r th.held).depth sets.1.1 (depth_fits r th.held h.depths sets.0).1) sets.1.2
      where
        under : (d e : ℕ) → suc (suc d) ≡ e → e < 2 ^ 16 → suc d < 2 ^ 16
        under d e is low = omega (arith, is, low)

  takes_so : (next : Next) → code.next th.local ≡ next → Holds b next th → IsEntry next → TakesFor th.levels th.held next
      → MonitorDeed th.section th.section th.held (entry th next th.levels ∷ th.held) (take_for th next th.section th.levels) StepAnswer.Done
  takes_so (Want (Enter r)) is h enters takes = takes_one refl takes.0 (omega arith) refl refl
  takes_so (Want (Rewake r)) is h enters takes = takes_one refl h.waits.2 h.waits.0 refl refl
  takes_so next is h enters takes = absurd enters

  pub does : {next : Next} {step : Step} {a : StepAnswer} {change : Change} → Row code b th next step a change → code.next th.local ≡ next → Holds b next th
      → move_of code th next th.attempt ≡ Make step → Does change step a
  does (is_lost {step = step} {v = v}) is h makes = by_area (place_of step)
    where
      by_area : (area : Area) → Does (lost_on th area) step (Lost v)
      by_area (Section s) = by_if (λ change. Does change step (Lost v)) (is_own_section th s) (goes Look) (goes Begin) (λ own. keeps_all refl (inl refl) (inr (v, refl))) (λ other. keeps_all refl (inl refl) (inr (v, refl)))
      by_area area = keeps_all refl (inl refl) (inr (v, refl))
  does (own_stands {w = w} at looks live) is h makes = forgets_so (record th { pinned = pinned_of w; attempt = Checked }) (keeps_all refl (inl refl) (inl tt))
  does (pins {next = wanted} unpinned lasts) is h makes = forgets_so (record th { pinned = th.levels; attempt = behind_pin th wanted }) (keeps_all refl (inl refl) (inl tt))
  does (sets_monitor_back {w = w} {r = r} {new = new} at undo undoes) is h makes = sets_one (monitor_depth new) back.has back.word refl refl
    where
      back : SetsBack th.section r new th.held
      back = sets_back_so th.section w r new (revoke_of w) (mark_of th (revoke_of w)) th.held (from_level (revoke_of w) th.held) (noted_since (mark_of th (revoke_of w)).noted th.log) ground.small h.once
          ground.fits.kept.in_levels (mark_first (inside th (revoke_of w)) (revoke_of w) th.marks th.held (subst (λ g. MarksHold (top_at g th.levels) (counting_marks g th.levels th.marks) th.held) at h.marks)) undoes
  does (gives_monitor_back {w = w} {r = r} at undo undoes) is h makes =
      leaves_one (gives_back_so th.section w r (revoke_of w) th.held (deepened_since (mark_of th (revoke_of w)) th.held) (noted_since (mark_of th (revoke_of w)).noted th.log) h.once undoes).0 refl (inl refl)
  does (is_undone {w = w} at undo undoes) is h makes =
      forgets_so (without_level (record (stood_at th (revoke_of w)) { section = section_at (revoke_of w - 1) th.section; attempt = Begin }) (revoke_of w))
      (keeps_all refl (by_if (λ s. (s ≡ th.section) ⊎ (th.held ≡ [])) (nat_eq (revoke_of w - 1) 0) 0 th.section
      (λ none. inr (none_from (revoke_of w) th.held ground.fits.kept.in_levels (at_most_one (revoke_of w) none) (last_step th.section w th.section (undone_of w) _ _ _ undoes))) (λ left. inl refl)) (inl tt))
    where
      at_most_one : (n : ℕ) → nat_eq (n - 1) 0 ≡ true → n ≤ 1
      at_most_one n none = grind (arith, common_steps, nat_tests)
  does (section_opened {s = s} enters none some) is h makes = keeps_all refl (inr (ground.fits.kept.held none)) (inl tt)
  does (level_opened {next = wanted} enters some needs room) is h makes = forgets_so (with_level (record th { attempt = Fixed (take_for th wanted th.section (suc th.levels)) })) (keeps_all refl (inl refl) (inl tt))
  does {next = next} (monitor_taken {next = wanted} enters some) is h makes = takes_so wanted is h enters
      (subst (StageHolds th.section th.levels th.pinned th.held wanted)
      (fixed_at code th wanted th.attempt (take_for th wanted th.section th.levels) tt (undoes_none code th wanted (take_for th wanted th.section th.levels) th.attempt makes tt) makes) h.fixed)
  does (entered_again {next = next} {new = new} enters calm_row) is h makes = sets_more h next new enters
      (subst (StageHolds th.section th.levels th.pinned th.held next) (fixed_at code th next th.attempt (SetDepth (monitor_wanted next) new) tt (no_undoing th.attempt calm_row) makes) h.fixed)
  does (left_once {r = r} {new = new} calm_row) is h makes = sets_fewer h r new
      (subst (StageHolds th.section th.levels th.pinned th.held (Want (Exit r))) (fixed_at code th (Want (Exit r)) th.attempt (SetDepth r new) tt (no_undoing th.attempt calm_row) makes) h.fixed)
  does (levels_closed {r = r} {depth = depth} closes) is h makes = forgets_so (with_levels (record th { attempt = Fixed (Release r) }) depth) (keeps_all refl (inl refl) (inl tt))
  does (monitor_left {r = r} at more) is h makes = leaves_one (subst (StageHolds th.section th.levels th.pinned th.held (Want (Exit r))) at h.fixed).0.0 (sym more) (inl refl)
  does (section_left {r = r} at none) is h makes = forgets_so (with_levels (record (answered code th Reply.Done) { held = []; section = 0 }) 0)
      (leaves_one (subst (StageHolds th.section th.levels th.pinned th.held (Want (Exit r))) at h.fixed).0.0 (sym none) (inr refl))
  does (wait_made {r = r} shut at) is h makes = leaves_one (subst (StageHolds th.section th.levels th.pinned th.held (Want (Wait r))) at h.fixed) refl (inl refl)
  does row is h makes = keeps_all refl (inl refl) (inl tt)
