-- What a thread knows of the section that it last saw as the writer of a word, with each turn of the thread.
use Rattle.std.proofs.Common.{◌≡◌, ◌≢◌, ◌⊎◌, inl, inr, ℕ, suc, ◌-◌, ◌<◌, ◌&&◌, not, Bool, true, false, None, Some, [], nat_eq, refl, sym, subst, arith}
use Rattle.std.specs.Prelude.{nat_le, if◌then◌else◌}
use Rattle.std.proofs.lemmas.Grind.{common_steps}
use Rattle.std.proofs.lemmas.Bool.Decides.{nat_tests}
use Rattle.op_core.specs.Replies.{IsEntry}
use Rattle.op_core.specs.declared.Op.{Op}
use Rattle.op_core.specs.declared.Op.TheVariants.{Read, Write, Enter, Exit, Wait, Rewake, Start, Init}
use Rattle.op_core.specs.declared.Next.{Next}
use Rattle.op_core.specs.declared.Next.TheVariants.{Want}
use Rattle.op_core.specs.declared.Reply.{Reply}
use Rattle.op_core.specs.ThreadCode.{Code}
use Rattle.heap_words.specs.declared.areas.Area.{Area}
use Rattle.heap_words.specs.declared.areas.Area.TheVariants.{Section}
use Rattle.heap_words.specs.Words.{tag_of, tag_level}
use Rattle.section_state.specs.SectionWord.{pinned_of, revoke_of}
use Rattle.step_port.specs.declared.answer.StepAnswer.{StepAnswer}
use Rattle.step_port.specs.declared.answer.StepAnswer.TheVariants.{Found}
use Rattle.step_port.specs.declared.step.Step.{Step}
use Rattle.step_port.specs.declared.step.Step.TheVariants.{LoadWord, OpenSection, Release}
use Rattle.step_port.specs.Steps.{place_of}
use Rattle.thread_automaton.specs.declared.Bounds.{Bounds}
use Rattle.thread_automaton.specs.declared.Attempt.{Attempt}
use Rattle.thread_automaton.specs.declared.Attempt.TheVariants.{Begin, Look, Checked, Fixed, Meets}
use Rattle.thread_automaton.specs.ThreadState.{ThreadState, is_open, is_own_section}
use Rattle.thread_automaton.specs.NextMove.{own_pin}
use Rattle.thread_automaton.specs.Changes.{Change, goes, answered, forgotten, with_level, with_levels, without_level, stood_at, section_at, changed}
use Rattle.thread_automaton.specs.Checks.{behind_pin, to_pin, is_safe}
use Rattle.thread_automaton.specs.Monitors.{take_for}
use Rattle.thread_automaton.specs.Answers.{lost_on}
use Rattle.thread_automaton.specs.Told.{Told, advanced, born, counted_for}
use Rattle.automaton_rows.specs.Fits.{is_unsafe_at}
use Rattle.automaton_rows.specs.Rows.{IsAccess, word_wanted, Row, is_lost, own_stands, pins, restores, sets_monitor_back, gives_monitor_back, is_undone, is_unsafe, tag_committed, tag_pinned, pins_writer, section_opened, level_opened, held_by_other, exits_one, levels_closed, section_left, wait_begins, notify_begins, start_begins, is_unready}
use Rattle.automaton_rows.proofs.RowLemmas.{by_if}

-- The thread x makes the step and is answered this: then it has this section, and knows this one to this depth. What it knows
-- stays, and its section stays, ends or is opened; or it gets to know another section than its own.
pub data KnowTurn {S : Type 0} (x : ThreadState S) (step : Step) (a : StepAnswer) (known depth section : ℕ) : Type 0 where
  keeps : known ≡ x.known → depth ≡ x.known_depth → (section ≡ x.section) ⊎ (section ≡ 0) ⊎ ((s w : ℕ) × (step ≡ OpenSection s w) × (section ≡ s)) → KnowTurn x step a known depth section
  learns : 0 < depth → known ≢ x.section → section ≡ x.section → KnowTurn x step a known depth section

-- the writer of an unsafe word that is to be read or written is met with the level in which that was written
abbrev DeepFor : Next → ℕ → Type 0
DeepFor (Want (Read r i)) level = 0 < level
DeepFor (Want (Write r i v)) level = 0 < level
DeepFor next level = Unit {0}

abbrev pub MeetsDeep : Attempt → Next → Type 0
MeetsDeep (Meets s level) next = DeepFor next level
MeetsDeep attempt next = Unit {0}

access_deep : (next : Next) (level : ℕ) → IsAccess next → DeepFor next level → 0 < level
access_deep (Want (Read r i)) level accesses deep = deep
access_deep (Want (Write r i v)) level accesses deep = deep
access_deep next level accesses deep = absurd accesses

deep_for : (next : Next) (level : ℕ) → 0 < level → DeepFor next level
deep_for (Want (Read r i)) level some = some
deep_for (Want (Write r i v)) level some = some
deep_for next level some = tt

entry_deep : (next : Next) (level : ℕ) → IsEntry next → DeepFor next level
entry_deep (Want (Enter r)) level enters = tt
entry_deep (Want (Rewake r)) level enters = tt
entry_deep next level enters = absurd enters

module _ {S : Type 0} (code : Code S) (b : Bounds) (th : ThreadState S) where
  abbrev Goes : Step → StepAnswer → ThreadState S → Type 0
  Goes step a y = KnowTurn th step a y.known y.known_depth y.section × MeetsDeep y.attempt (code.next y.local)

  same : {step : Step} {a : StepAnswer} → KnowTurn th step a th.known th.known_depth th.section
  same = keeps refl refl (inl refl)

  forgets : {step : Step} {a : StepAnswer} (y : ThreadState S) → Goes step a y → Goes step a (forgotten y)
  forgets {step} {a} y go = by_if (λ (z : ThreadState S). Goes step a z) (is_open y) y (record y { log = []; saved = []; marks = [] }) (λ open_so. go) (λ shut. go)

  behind_meets : (next n : Next) → MeetsDeep (behind_pin th next) n
  behind_meets (Want (Exit r)) n = tt
  behind_meets (Want (Wait r)) n = tt
  behind_meets (Want (Op.Notify r)) n = tt
  behind_meets (Want (Start r p)) n = tt
  behind_meets (Want (Init c)) n = tt
  behind_meets next n = tt

  pin_meets : (next n : Next) → MeetsDeep (to_pin th next) n
  pin_meets next n = by_if (λ g. MeetsDeep g n) (is_open th) (Fixed (own_pin th)) (behind_pin th next) (λ open_so. tt) (λ shut. behind_meets next n)

  unsafe_other : (s level : ℕ) → is_unsafe_at th s level ≡ true → s ≢ th.section
  unsafe_other s level unsafe = by_tests (nat_eq s 0 && nat_eq level 0) (nat_eq s th.section) refl unsafe
    where
      differs : (m n : ℕ) → nat_eq m n ≡ false → m ≢ n
      differs m n is same_so = no (nat_eq m n) (subst (λ k. nat_eq m k ≡ true) same_so (is_same m)) is
        where
          is_same : (n : ℕ) → nat_eq n n ≡ true
          is_same n = grind (arith, common_steps, nat_tests)

          no : (t : Bool) → t ≡ true → t ≡ false → ⊥
          no t is other = cc

      by_tests : (d e : Bool) → nat_eq s th.section ≡ e → (not d && not e && not (nat_eq s th.known && nat_le level th.known_depth)) ≡ true → s ≢ th.section
      by_tests true e is so = cc
      by_tests false true is so = cc
      by_tests false false is so = differs s th.section is

  undone_section : (n : ℕ) → (section_at n th.section ≡ th.section) ⊎ (section_at n th.section ≡ 0)
  undone_section n = by_test (nat_eq n 0)
    where
      by_test : (t : Bool) → ((if t then 0 else th.section) ≡ th.section) ⊎ ((if t then 0 else th.section) ≡ 0)
      by_test true = inr refl
      by_test false = inl refl

  pub goes_on : {next : Next} {step : Step} {a : StepAnswer} {change : Change} → Row code b th next step a change → next ≡ code.next th.local → MeetsDeep th.attempt (code.next th.local)
      → ((w : ℕ) → IsAccess next → step ≡ LoadWord (word_wanted next) → a ≡ Found w → is_safe th w ≡ false → 0 < tag_level (tag_of w)) → Goes step a (changed code th change)
  goes_on (is_lost {step = step} {v = v}) wants meets loaded = by_area (place_of step)
    where
      by_area : (area : Area) → Goes step (StepAnswer.Lost v) (changed code th (lost_on th area))
      by_area (Section s) = by_if (λ change. Goes step (StepAnswer.Lost v) (changed code th change)) (is_own_section th s) (goes Look) (goes Begin) (λ own. (same, tt)) (λ other. (same, tt))
      by_area area = (same, tt)
  goes_on (own_stands {w = w} at looks live) wants meets loaded = forgets (record th { pinned = pinned_of w; attempt = Checked }) (same, tt)
  goes_on (pins {next = wanted} unpinned lasts) wants meets loaded = forgets (record th { pinned = th.levels; attempt = behind_pin th wanted }) (same, behind_meets wanted (code.next th.local))
  goes_on (is_undone {w = w} at undo does) wants meets loaded =
      forgets (without_level (record (stood_at th (revoke_of w)) { section = section_at (revoke_of w - 1) th.section; attempt = Begin }) (revoke_of w))
      (keeps refl refl (elim (undone_section (revoke_of w - 1)) [ inl stays ↦ inl stays | inr ends ↦ inr (inl ends) ]), tt)
  goes_on (is_unsafe {next = wanted} {w = w} accesses unsafe) wants meets loaded = (same, deep_for (code.next th.local) (tag_level (tag_of w)) (loaded w accesses refl refl unsafe))
  goes_on (tag_committed {s = s} {level = level} {w = w} at accesses unsafe committed) wants meets loaded = (learns (omega arith) (unsafe_other s level unsafe) refl, tt)
  goes_on (tag_pinned {next = wanted} {s = s} {level = level} {w = w} at accesses unsafe live deep) wants meets loaded =
      (learns (above level (pinned_of w) (access_deep wanted level accesses (subst (λ n. DeepFor n level) (sym wants) (subst (λ g. MeetsDeep g (code.next th.local)) at meets))) deep) (unsafe_other s level unsafe) refl, tt)
    where
      above : (l p : ℕ) → 0 < l → nat_le l p ≡ true → 0 < p
      above l p some deep = grind (arith, common_steps, nat_tests)
  goes_on (pins_writer {s = s} {level = level} {w = w} accesses unsafe live shallow) wants meets loaded = (learns (above (pinned_of w) level shallow) (unsafe_other s level unsafe) refl, tt)
    where
      above : (p l : ℕ) → p < l → 0 < l
      above p l deep = omega (arith, deep)
  goes_on (section_opened {s = s} enters none some) wants meets loaded = (keeps refl refl (inr (inr (s, _, refl, refl))), tt)
  goes_on (level_opened {next = wanted} enters some needs room) wants meets loaded = forgets (with_level (record th { attempt = Fixed (take_for th wanted th.section (suc th.levels)) })) (same, tt)
  goes_on (held_by_other {next = wanted} enters some other) wants meets loaded = (same, entry_deep (code.next th.local) _ (subst IsEntry wants enters))
  goes_on (exits_one {r = r} {m = m} own last more outer) wants meets loaded = (same, pin_meets (Want (Exit r)) (code.next th.local))
  goes_on (levels_closed {r = r} {depth = depth} closed) wants meets loaded = forgets (with_levels (record th { attempt = Fixed (Release r) }) depth) (same, tt)
  goes_on (section_left {r = r} at none) wants meets loaded = forgets (with_levels (record (answered code th Reply.Done) { held = []; section = 0 }) 0) (keeps refl refl (inr (inl refl)), tt)
  goes_on (wait_begins {r = r} {m = m} own) wants meets loaded = (same, pin_meets (Want (Wait r)) (code.next th.local))
  goes_on (notify_begins {r = r} {m = m} own) wants meets loaded = (same, pin_meets (Want (Op.Notify r)) (code.next th.local))
  goes_on (start_begins {r = r} {p = p} {w = w} none) wants meets loaded = (same, pin_meets (Want (Start r p)) (code.next th.local))
  goes_on (is_unready {c = c} {w = w} fresh) wants meets loaded = (same, pin_meets (Want (Init c)) (code.next th.local))
  goes_on (restores at undo does) wants meets loaded = (same, meets)
  goes_on (sets_monitor_back at undo does) wants meets loaded = (same, meets)
  goes_on (gives_monitor_back at undo does) wants meets loaded = (same, meets)
  goes_on row wants meets loaded = (same, tt)

  pub counted_goes : {step : Step} {a : StepAnswer} (by : Told) (y : ThreadState S) → Goes step a y → Goes step a (counted_for by y)
  counted_goes (advanced None) y go = go
  counted_goes (advanced (Some reply)) y go = go
  counted_goes born y go = go
  counted_goes other y go = go
