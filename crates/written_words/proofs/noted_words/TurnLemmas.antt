-- What a step makes of the log of a thread and of the marks of its levels.
use Rattle.std.proofs.Common.{◌≡◌, ◌⊎◌, inl, inr, ℕ, zero, suc, ◌-◌, ◌≤◌, Bool, true, false, None, Some, List, [], ◌∷◌, length, drop, nat_eq, refl, sym, ◌∙◌, ap, subst, arith}
use Rattle.std.specs.Prelude.{nat_lt, if◌then◌else◌}
use Rattle.std.proofs.lemmas.Grind.{common_steps}
use Rattle.std.proofs.lemmas.Bool.Decides.{nat_tests}
use Rattle.op_core.specs.declared.Op.{Op}
use Rattle.op_core.specs.declared.Op.TheVariants.{Write, Exit, Wait, Start, Init}
use Rattle.op_core.specs.declared.Next.{Next}
use Rattle.op_core.specs.declared.Next.TheVariants.{Want}
use Rattle.op_core.specs.declared.Reply.{Reply}
use Rattle.op_core.specs.ThreadCode.{Code}
use Rattle.heap_words.specs.declared.areas.Area.{Area}
use Rattle.heap_words.specs.declared.areas.Area.TheVariants.{Section}
use Rattle.section_state.specs.declared.State.TheVariants.{Revoking}
use Rattle.section_state.specs.SectionWord.{pinned_of, revoke_of}
use Rattle.write_log.specs.declared.Noted.{Noted}
use Rattle.monitor_core.specs.Contention.{is_in}
use Rattle.step_port.specs.declared.answer.StepAnswer.{StepAnswer}
use Rattle.step_port.specs.declared.answer.StepAnswer.TheVariants.{Found, Lost}
use Rattle.step_port.specs.declared.step.Step.{Step}
use Rattle.step_port.specs.declared.step.Step.TheVariants.{SwapWord, RestoreWord, Release, LoadSection, CloseLevel}
use Rattle.step_port.specs.Steps.{place_of, effect_of}
use Rattle.step_port.specs.Words.{CanAnswer}
use Rattle.thread_automaton.specs.declared.Bounds.{Bounds}
use Rattle.thread_automaton.specs.declared.Move.TheVariants.{Make}
use Rattle.thread_automaton.specs.declared.Attempt.{Attempt}
use Rattle.thread_automaton.specs.declared.Attempt.TheVariants.{Begin, Look, Checked, Fixed, Undoing}
use Rattle.thread_automaton.specs.ThreadState.{ThreadState, Mark, is_open, is_own_section, own_word}
use Rattle.thread_automaton.specs.NextMove.{own_pin, word_place, undo_next, move_of}
use Rattle.thread_automaton.specs.Changes.{Change, goes, has_to_wait, replies, knows, takes, deepens, drops, waits, prints, ends, answered, forgotten, with_level, with_levels, without_level, stood_at, section_at, changed}
use Rattle.thread_automaton.specs.Checks.{behind_pin, to_pin, is_safe, written_word, noted}
use Rattle.thread_automaton.specs.Monitors.{take_for}
use Rattle.thread_automaton.specs.Answers.{lost_on}
use Rattle.thread_automaton.specs.Told.{Told, advanced, born, counted_for}
use Rattle.automaton_rows.specs.Rows.{Row, is_lost, own_revoked, own_stands, pins, restores, sets_monitor_back, gives_monitor_back, is_undone, word_written, section_opened, level_opened, entered_again, exits_one, left_once, levels_closed, monitor_left, section_left, wait_begins, wait_made, notify_begins, start_begins, is_unready}
use Rattle.automaton_rows.proofs.RowLemmas.{by_if}
use Rattle.section_laws.specs.Marks.{counting_marks}
use Rattle.section_laws.proofs.level_marks.RowLemmas.{lost_undoes_none, IsUndoing, all_count, no_undoing}
use Rattle.first_law.specs.Held.{top_at}
use Rattle.first_law.proofs.run_monitors.KeptLemmas.{top_all}
use Rattle.first_law.proofs.run_monitors.StageLemmas.{undoes_none}

-- no word of an object is overwritten or put back
abbrev pub SetsNoWord : Step → StepAnswer → Type 0
SetsNoWord (SwapWord at old new) StepAnswer.Done = ⊥
SetsNoWord (RestoreWord at old) a = ⊥
SetsNoWord step a = Unit {0}

pub lost_sets_none : (step : Step) (v : ℕ) → CanAnswer (effect_of step) (Lost v) → SetsNoWord step (Lost v)
lost_sets_none (RestoreWord at old) v can = absurd can
lost_sets_none step v can = tt

-- the innermost level of a thread that counts, and the marks of that level and those outside of it
abbrev pub top_of : {S : Type 0} → ThreadState S → ℕ
top_of th = top_at th.attempt th.levels

abbrev pub marks_of : {S : Type 0} → ThreadState S → List Mark
marks_of th = counting_marks th.attempt th.levels th.marks

-- The thread x, which does this, makes the step and is answered this. Then it has this section, this log, and these levels
-- that count, with their marks.
pub data NoteTurn {S : Type 0} (x : ThreadState S) (next : Next) (step : Step) (a : StepAnswer) (section : ℕ) (log : List Noted) (top : ℕ) (marks : List Mark) : Type 0 where
  drops_levels : (j : ℕ) → SetsNoWord step a → (section ≡ x.section) ⊎ (top ≡ 0) → log ≡ x.log → top ≡ top_of x - j → marks ≡ drop j (marks_of x) → NoteTurn x next step a section log top marks
  forgets_all : SetsNoWord step a → log ≡ [] → NoteTurn x next step a section log top marks
  opens_one : (m : Mark) → SetsNoWord step a → section ≡ x.section → log ≡ x.log → m.noted ≡ length x.log → top ≡ suc (top_of x) → marks ≡ m ∷ marks_of x → NoteTurn x next step a section log top marks
  writes_word : (r i v old : ℕ) → next ≡ Want (Write r i v) → step ≡ SwapWord (word_place r i) old (written_word x v) → a ≡ StepAnswer.Done → is_safe x old ≡ true → section ≡ x.section
      → log ≡ noted x (word_place r i) old → top_of x ≡ x.levels → top ≡ top_of x → marks ≡ marks_of x → NoteTurn x next step a section log top marks
  puts_word_back : (w at old : ℕ) → x.attempt ≡ Undoing w → step ≡ RestoreWord at old → undo_next x w (revoke_of w) ≡ RestoreWord at old → section ≡ x.section → log ≡ drop 1 x.log
      → top ≡ top_of x → marks ≡ marks_of x → NoteTurn x next step a section log top marks

zero_less : (n : ℕ) → n ≡ n - 0
zero_less n = omega arith

back_to : (l r : ℕ) → r ≤ l → r ≡ l - (l - r)
back_to l r low = omega (arith, low)

module _ {S : Type 0} (code : Code S) (b : Bounds) (th : ThreadState S) where
  abbrev TurnTo : Next → Step → StepAnswer → ThreadState S → Type 0
  TurnTo next step a y = NoteTurn th next step a y.section y.log (top_of y) (marks_of y)

  -- where nothing is being undone, all levels count
  top_whole : (IsUndoing th.attempt → ⊥) → top_of th ≡ th.levels
  top_whole calm = top_all th.attempt th.levels calm

  marks_whole : (IsUndoing th.attempt → ⊥) → marks_of th ≡ th.marks
  marks_whole calm = all_count th.attempt th.levels th.marks calm

  forgets : {next : Next} {step : Step} {a : StepAnswer} (y : ThreadState S) → SetsNoWord step a → (is_open y ≡ true → TurnTo next step a y) → TurnTo next step a (forgotten y)
  forgets {next} {step} {a} y none turn = by_if (λ z. TurnTo next step a z) (is_open y) y (record y { log = []; saved = []; marks = [] }) turn (λ shut. forgets_all none refl)

  -- the attempt goes on, and nothing is being undone before and after it
  attempts : {next : Next} {step : Step} {a : StepAnswer} (g : Attempt) → SetsNoWord step a → (IsUndoing th.attempt → ⊥) → (IsUndoing g → ⊥)
      → NoteTurn th next step a th.section th.log (top_at g th.levels) (counting_marks g th.levels th.marks)
  attempts g none calm then_calm = drops_levels 0 none (inl refl) refl (top_all g th.levels then_calm ∙ sym (top_whole calm) ∙ zero_less (top_of th))
      (all_count g th.levels th.marks then_calm ∙ sym (marks_whole calm))

  behind_calm : (next : Next) → IsUndoing (behind_pin th next) → ⊥
  behind_calm (Want (Exit r)) is = is
  behind_calm (Want (Wait r)) is = is
  behind_calm (Want (Op.Notify r)) is = is
  behind_calm (Want (Start r p)) is = is
  behind_calm (Want (Init c)) is = is
  behind_calm next is = is

  to_pin_calm : (next : Next) → IsUndoing (to_pin th next) → ⊥
  to_pin_calm next = by_if (λ g. IsUndoing g → ⊥) (is_open th) (Fixed (own_pin th)) (behind_pin th next) (λ yes is. is) (λ no. behind_calm next)

  -- changes that leave the log and the marks
  abbrev IsPlain : Change → Type 0
  IsPlain (goes g) = IsUndoing g → ⊥
  IsPlain (has_to_wait why) = ⊥ → ⊥
  IsPlain (replies reply) = ⊥ → ⊥
  IsPlain (knows s depth) = ⊥ → ⊥
  IsPlain (takes h) = ⊥ → ⊥
  IsPlain (deepens r depth) = ⊥ → ⊥
  IsPlain (drops held) = ⊥ → ⊥
  IsPlain (waits r) = ⊥ → ⊥
  IsPlain (prints ticket line) = ⊥ → ⊥
  IsPlain ends = ⊥ → ⊥
  IsPlain change = ⊥

  plainly : {next : Next} {step : Step} {a : StepAnswer} (change : Change) → IsPlain change → SetsNoWord step a → (IsUndoing th.attempt → ⊥) → TurnTo next step a (changed code th change)
  plainly (goes g) plain none calm = attempts g none calm plain
  plainly (has_to_wait why) plain none calm = attempts Begin none calm (λ is. is)
  plainly (replies reply) plain none calm = attempts Begin none calm (λ is. is)
  plainly (knows s depth) plain none calm = attempts Checked none calm (λ is. is)
  plainly (takes h) plain none calm = attempts Begin none calm (λ is. is)
  plainly (deepens r depth) plain none calm = attempts Begin none calm (λ is. is)
  plainly (drops held) plain none calm = attempts Begin none calm (λ is. is)
  plainly (waits r) plain none calm = attempts Begin none calm (λ is. is)
  plainly (prints ticket line) plain none calm = attempts Begin none calm (λ is. is)
  plainly ends plain none calm = attempts Begin none calm (λ is. is)
  plainly change plain none calm = absurd plain

  -- the section is undone to level n, and is over where that is the outermost one
  undone_section : (n : ℕ) → (section_at (n - 1) th.section ≡ th.section) ⊎ (n - 1 ≡ 0)
  undone_section n = by_test (nat_eq (n - 1) 0) refl
    where
      none : (m : ℕ) → nat_eq m 0 ≡ true → m ≡ 0
      none m is = grind (arith, common_steps, nat_tests)

      by_test : (t : Bool) → nat_eq (n - 1) 0 ≡ t → ((if t then 0 else th.section) ≡ th.section) ⊎ (n - 1 ≡ 0)
      by_test true is = inr (none (n - 1) is)
      by_test false is = inl refl

  drop_more : {A : Type 0} (j : ℕ) (xs : List A) → drop (suc j) xs ≡ drop 1 (drop j xs)
  drop_more zero xs = refl
  drop_more (suc j) [] = refl
  drop_more (suc j) (x ∷ xs) = drop_more j xs

  pub turns : {next : Next} {step : Step} {a : StepAnswer} {change : Change} → Row code b th next step a change → move_of code th next th.attempt ≡ Make step → CanAnswer (effect_of step) a
      → ((w : ℕ) → step ≡ LoadSection th.section → a ≡ Found w
      → is_in Revoking w ≡ true → revoke_of w ≤ th.levels)
      → ((s w n : ℕ) → step ≡ CloseLevel s w n → n ≤ th.levels)
      → (nat_eq th.section 0 ≡ true → th.log ≡ []) → TurnTo next step a (changed code th change)
  turns {next} (is_lost {step = step} {v = v}) makes can turned closed idle = by_area (place_of step)
    where
      calm : IsUndoing th.attempt → ⊥
      calm = undoes_none code th next step th.attempt makes (lost_undoes_none step v can)

      by_area : (area : Area) → TurnTo next step (Lost v) (changed code th (lost_on th area))
      by_area (Section s) = by_if (λ change. TurnTo next step (Lost v) (changed code th change)) (is_own_section th s) (goes Look) (goes Begin)
          (λ yes. attempts Look (lost_sets_none step v can) calm (λ is. is)) (λ no. attempts Begin (lost_sets_none step v can) calm (λ is. is))
      by_area area = attempts Begin (lost_sets_none step v can) calm (λ is. is)
  turns {next} (own_revoked {w = w} at looks is_turned) makes can turned closed idle =
      let calm : IsUndoing th.attempt → ⊥ = undoes_none code th next _ th.attempt makes tt in
      drops_levels (th.levels - revoke_of w) tt (inl refl) refl (back_to th.levels (revoke_of w) (turned w refl refl is_turned) ∙ ap (λ n. n - (th.levels - revoke_of w)) (sym (top_whole calm)))
      (ap (drop (th.levels - revoke_of w)) (sym (marks_whole calm)))
  turns {next} (own_stands {w = w} at looks live) makes can turned closed idle = forgets (record th { pinned = pinned_of w; attempt = Checked }) tt
      (λ open_so. attempts Checked tt (undoes_none code th next _ th.attempt makes tt) (λ is. is))
  turns {next} (pins {next = wanted} unpinned lasts) makes can turned closed idle = forgets (record th { pinned = th.levels; attempt = behind_pin th wanted }) tt
      (λ open_so. attempts (behind_pin th wanted) tt (undoes_none code th next _ th.attempt makes tt) (behind_calm wanted))
  turns (restores {w = w} {at = place} {old = old} at undo does) makes can turned closed idle = puts_word_back w place old at refl does refl refl refl refl
  turns (sets_monitor_back at undo does) makes can turned closed idle = drops_levels 0 tt (inl refl) refl (zero_less (top_of th)) refl
  turns (gives_monitor_back at undo does) makes can turned closed idle = drops_levels 0 tt (inl refl) refl (zero_less (top_of th)) refl
  turns (is_undone {w = w} at undo does) makes can turned closed idle =
      forgets (without_level (record (stood_at th (revoke_of w)) { section = section_at (revoke_of w - 1) th.section; attempt = Begin }) (revoke_of w)) tt
      (λ open_so. drops_levels 1 tt (undone_section (revoke_of w)) refl (ap (λ g. top_at g th.levels - 1) (sym at))
      (drop_more (th.levels - revoke_of w) th.marks ∙ ap (λ g. drop 1 (counting_marks g th.levels th.marks)) (sym at)))
  turns {next} (word_written {r = r} {i = i} {v = v} {old = old} safe) makes can turned closed idle =
      let calm : IsUndoing th.attempt → ⊥ = undoes_none code th (Want (Write r i v)) _ th.attempt makes tt in
      writes_word r i v old refl refl refl safe refl refl (top_whole calm) (sym (top_whole calm)) (sym (marks_whole calm))
  turns {next} (section_opened {next = wanted} {s = s} enters none some) makes can turned closed idle = forgets_all tt (idle none)
  turns {next} (level_opened {next = wanted} enters some needs room) makes can turned closed idle =
      let calm : IsUndoing th.attempt → ⊥ = undoes_none code th next _ th.attempt makes tt in
      forgets (with_level (record th { attempt = Fixed (take_for th wanted th.section (suc th.levels)) })) tt
      (λ open_so. opens_one (record { silents = th.silents; noted = length th.log; held = th.held }) tt refl refl refl (ap suc (sym (top_whole calm)))
      (ap (λ ms. record { silents = th.silents; noted = length th.log; held = th.held } ∷ ms) (sym (marks_whole calm))))
  turns (entered_again enters calm) makes can turned closed idle = attempts Begin tt (no_undoing th.attempt calm) (λ is. is)
  turns (left_once calm) makes can turned closed idle = attempts Begin tt (no_undoing th.attempt calm) (λ is. is)
  turns {next} (exits_one {r = r} own last more inner) makes can turned closed idle = attempts (to_pin th (Want (Exit r))) tt (undoes_none code th next _ th.attempt makes tt) (to_pin_calm (Want (Exit r)))
  turns {next} (wait_begins {r = r} own) makes can turned closed idle = attempts (to_pin th (Want (Wait r))) tt (undoes_none code th next _ th.attempt makes tt) (to_pin_calm (Want (Wait r)))
  turns {next} (notify_begins {r = r} own) makes can turned closed idle = attempts (to_pin th (Want (Op.Notify r))) tt (undoes_none code th next _ th.attempt makes tt) (to_pin_calm (Want (Op.Notify r)))
  turns {next} (start_begins {r = r} {p = p} none) makes can turned closed idle = attempts (to_pin th (Want (Start r p))) tt (undoes_none code th next _ th.attempt makes tt) (to_pin_calm (Want (Start r p)))
  turns {next} (is_unready {c = c} fresh) makes can turned closed idle = attempts (to_pin th (Want (Init c))) tt (undoes_none code th next _ th.attempt makes tt) (to_pin_calm (Want (Init c)))
  turns {next} (levels_closed {r = r} {depth = depth} closes) makes can turned closed idle =
      let calm : IsUndoing th.attempt → ⊥ = undoes_none code th next _ th.attempt makes tt in
      forgets (with_levels (record th { attempt = Fixed (Release r) }) depth) tt
      (λ open_so. drops_levels (th.levels - depth) tt (inl refl) refl (back_to th.levels depth (closed th.section (own_word th) depth refl) ∙ ap (λ n. n - (th.levels - depth)) (sym (top_whole calm)))
      (ap (drop (th.levels - depth)) (sym (marks_whole calm))))
  turns (monitor_left {r = r} at more) makes can turned closed idle = attempts Begin tt (λ undoing. subst IsUndoing at undoing) (λ is. is)
  turns (section_left {r = r} at none) makes can turned closed idle = forgets (with_levels (record (answered code th Reply.Done) { held = []; section = 0 }) 0) tt (λ open_so. absurd (no th.pinned open_so))
    where
      no : (n : ℕ) → nat_lt n 0 ≡ true → ⊥
      no n is = grind (arith, common_steps, nat_tests)
  turns (wait_made {r = r} shut at) makes can turned closed idle = attempts Begin tt (λ undoing. subst IsUndoing at undoing) (λ is. is)
  turns {next} {step} {a} {change} row makes can turned closed idle = plainly change (λ h. h) tt (undoes_none code th next step th.attempt makes tt)

  pub counted_turn : {next : Next} {step : Step} {a : StepAnswer} (by : Told) (y : ThreadState S) → TurnTo next step a y → TurnTo next step a (counted_for by y)
  counted_turn (advanced None) y turn = turn
  counted_turn (advanced (Some reply)) y turn = turn
  counted_turn born y turn = turn
  counted_turn other y turn = turn
