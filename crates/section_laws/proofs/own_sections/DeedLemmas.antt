-- What a thread's steps make of its section and of the word of it: the rows of the automaton, few enough to go along runs
-- by cases.
use Rattle.std.proofs.Common.{◌≡◌, ◌≢◌, inl, inr, ℕ, suc, ◌-◌, ◌^◌, ◌<◌, Bool, true, false, true≢false, None, Some, List, [], ◌∷◌, length, nat_eq, refl, sym, ◌∙◌, ap, subst, arith}
use Rattle.std.specs.Prelude.{nat_lt, nat_le, not, ◌&&◌}
use Rattle.std.proofs.lemmas.Grind.{common_steps}
use Rattle.std.proofs.lemmas.Bool.Decides.{nat_tests}
use Rattle.op_core.specs.declared.Op.{Op}
use Rattle.op_core.specs.declared.Op.TheVariants.{Read, Write, Exit, Wait, Start, Init}
use Rattle.op_core.specs.declared.Next.{Next}
use Rattle.op_core.specs.declared.Next.TheVariants.{Want}
use Rattle.op_core.specs.declared.Reply.{Reply}
use Rattle.op_core.specs.ThreadCode.{Code}
use Rattle.heap_words.specs.declared.areas.Area.{Area}
use Rattle.heap_words.specs.declared.areas.Area.TheVariants.{Section}
use Rattle.section_state.specs.declared.State.TheVariants.{Live, Revoking}
use Rattle.section_state.specs.SectionWord.{pinned_of, revoke_of}
use Rattle.write_log.specs.declared.Noted.{Noted}
use Rattle.monitor_core.specs.Monitors.{monitor_depth}
use Rattle.step_port.specs.declared.answer.StepAnswer.{StepAnswer}
use Rattle.step_port.specs.declared.answer.StepAnswer.TheVariants.{Found, Lost}
use Rattle.step_port.specs.declared.step.Step.{Step}
use Rattle.step_port.specs.declared.step.Step.TheVariants.{LoadWord, LoadSection, Pin, Release}
use Rattle.step_port.specs.Steps.{place_of, effect_of}
use Rattle.step_port.specs.Words.{Words, CanAnswer, answer_of}
use Rattle.thread_automaton.specs.declared.Bounds.{Bounds}
use Rattle.thread_automaton.specs.declared.Held.{Held}
use Rattle.thread_automaton.specs.declared.Move.{Move}
use Rattle.thread_automaton.specs.declared.Move.TheVariants.{Make}
use Rattle.thread_automaton.specs.declared.Attempt.{Attempt}
use Rattle.thread_automaton.specs.declared.Attempt.TheVariants.{Begin, Look, Checked, Fixed, Meets, Undoing, Full}
use Rattle.thread_automaton.specs.ThreadState.{ThreadState, is_open, is_own_section, own_word, mark_of, noted_since, with_depth_of, from_level, highest}
use Rattle.thread_automaton.specs.NextMove.{own_pin, deepened_since, undo_step, first_step, move_of, next_move}
use Rattle.thread_automaton.specs.Changes.{Change, answered, forgotten, with_level, with_levels, without_level, stood_at, section_at, without, changed}
use Rattle.thread_automaton.specs.Checks.{behind_pin, to_pin}
use Rattle.thread_automaton.specs.Monitors.{take_for}
use Rattle.thread_automaton.specs.Answers.{lost_on, change_of}
use Rattle.thread_automaton.specs.Told.{Told, advanced, born, told, counted_for, after_answer}
use Rattle.automaton_rows.specs.Fits.{is_unsafe_at, IsKept, IsFit, InLevels}
use Rattle.automaton_rows.specs.Rows.{IsAccess, LooksAtOwn, Row, is_lost, own_revoked, own_stands, pins, restores, sets_monitor_back, gives_monitor_back, is_undone, class_found, word_read, word_seen, word_written, is_unsafe, tag_committed, tag_undone, tag_pinned, tag_live, tag_waits, pins_writer, has_room, heap_full, object_made, free_first, section_numbered, sections_full, section_opened, free_inside, levels_full, level_opened, free_more, monitor_taken, own_again, own_full, entered_again, held_by_other, holder_lower, holder_busy, holder_revoked, is_notified, not_notified, not_owner, exits_inner, exits_last, exits_level, exits_one, left_once, section_committed, levels_closed, monitor_left, section_left, wait_begins, wait_noted, wait_made, notify_begins, waiter_found, waiter_passed, none_waits, waiter_woken, line_printed, start_begins, was_started, thread_numbered, threads_full, is_started, handed_out, never_started, join_begins, is_alive, has_ended, thread_ended, is_ready, is_bad, is_unready, is_claimed, is_others, class_claimed, class_settled}
use Rattle.automaton_rows.proofs.RowLemmas.{answers_are_rows, words_can_answer, by_if}
use Rattle.section_laws.proofs.WordLemmas.{state_is}
use Rattle.section_laws.proofs.DeedLemmas.{contended, makes_it, above}
use Rattle.automaton_rows.proofs.PinLemmas.{steps_caused}
use Rattle.automaton_rows.proofs.FitLemmas.{levels_without, highest_low, highest_some}
use Rattle.section_laws.proofs.own_sections.ViewLemmas.{undone_word, level_in, is_none, is_leaving, View, view, Keeps, pinned_to, SectionsStay, load_stays, lost_stays, else_stays, Deed, plain, goes_on, sees_revoked, sees_pinned, pins_own, undoes, touches, opens, opens_level, commits, closes_levels, ends_section, less, not_zero, is_zero, room, tag_low, monitor_low, zero_low, by_revoking}

-- ---- the attempt at which a thread makes a step

abbrev IsPinMove : Move → Type 0
IsPinMove (Make (Pin s w level)) = Unit {0}
IsPinMove move = ⊥

abbrev step_in : Move → Step
step_in (Make step) = step
step_in move = Step.DrawSection

undo_pins_none : (s w : ℕ) (log : List Noted) (deepened taken : List Held) → IsPinMove (Make (undo_step s w log deepened taken)) → ⊥
undo_pins_none s w (x ∷ log) deepened taken pin = pin
undo_pins_none s w [] (h ∷ deepened) taken pin = pin
undo_pins_none s w [] [] (h ∷ taken) pin = pin
undo_pins_none s w [] [] [] pin = pin

module _ {S : Type 0} (code : Code S) (b : Bounds) (th : ThreadState S) where
  -- where an operation doesn't begin with a pin, a pin was fixed
  pin_attempt : (op : Op) (g : Attempt) (s w level : ℕ) → (IsPinMove (Make (first_step code th op)) → ⊥)
      → move_of code th (Want op) g ≡ Make (Pin s w level) → g ≡ Fixed (Pin s w level)
  pin_attempt op g s w level first makes = by_kind g makes
    where
      pin_of : {move : Move} → move ≡ Make (Pin s w level) → IsPinMove move
      pin_of is = subst IsPinMove (sym is) tt

      by_kind : (g : Attempt) → move_of code th (Want op) g ≡ Make (Pin s w level) → g ≡ Fixed (Pin s w level)
      by_kind (Fixed step) is = ap (λ move. Fixed (step_in move)) is
      by_kind (Meets q n) is = absurd (pin_of is)
      by_kind (Undoing x) is = absurd (undo_pins_none th.section x (noted_since (mark_of th (revoke_of x)).noted th.log) (deepened_since (mark_of th (revoke_of x)) th.held)
          (from_level (revoke_of x) th.held) (pin_of is))
      by_kind (Full limit) is = absurd (pin_of is)
      by_kind Look is = absurd (pin_of is)
      by_kind Begin is = absurd (by_if (λ move. move ≡ Make (Pin s w level) → ⊥) (is_open th) (Make (LoadSection th.section)) (Make (first_step code th op))
          (λ yes same. pin_of same) (λ no same. first (pin_of same)) is)
      by_kind Checked is = absurd (first (pin_of is))

  access_pin : (next : Next) (s w level : ℕ) → IsAccess next → move_of code th next th.attempt ≡ Make (Pin s w level) → th.attempt ≡ Fixed (Pin s w level)
  access_pin (Want (Read r i)) s w level accesses makes = pin_attempt (Read r i) th.attempt s w level (λ pin. pin) makes
  access_pin (Want (Write r i v)) s w level accesses makes = pin_attempt (Write r i v) th.attempt s w level (λ pin. pin) makes
  access_pin next s w level accesses makes = absurd accesses

  exit_pin : (r s w level : ℕ) → move_of code th (Want (Exit r)) th.attempt ≡ Make (Pin s w level) → th.attempt ≡ Fixed (Pin s w level)
  exit_pin r s w level makes = pin_attempt (Exit r) th.attempt s w level (λ pin. pin) makes

  -- ---- attempts after a step

  abbrev x : View
  x = view code th

  abbrev same : Keeps x x
  same = (refl, refl, refl, refl, refl)

  some_section : nat_eq th.section 0 ≡ nat_eq th.levels 0 → is_open th ≡ true → 0 < th.section
  some_section kept unpinned = by_test (nat_eq th.section 0) refl
    where
      not_open : (m n : ℕ) → nat_lt m n ≡ true → nat_eq n 0 ≡ true → ⊥
      not_open m n is none = grind (arith, common_steps, nat_tests)

      by_test : (t : Bool) → nat_eq th.section 0 ≡ t → 0 < th.section
      by_test true is = absurd (not_open th.pinned th.levels unpinned (sym kept ∙ is))
      by_test false is = not_zero th.section is

  -- it looks at its own section between two attempts
  looks_some : (g : Attempt) → nat_eq th.section 0 ≡ nat_eq th.levels 0 → LooksAtOwn th g → 0 < th.section
  looks_some Begin kept looks = some_section kept looks
  looks_some Look kept looks = above th.section looks
  looks_some g kept looks = absurd looks

  release_pin : (q s w level : ℕ) (next : Next) → is_leaving (Fixed (Release q)) next th.held ≡ is_leaving (Fixed (Pin s w level)) next th.held
  release_pin q s w level (Want (Exit r)) = refl
  release_pin q s w level next = refl

  -- an exit that isn't the last one, and what is no exit
  others_held : (held : List Held) → 0 < length held → is_none held ≡ false
  others_held [] some = absurd (no some)
    where
      no : 0 < 0 → ⊥
      no some = omega (arith, some)
  others_held (h ∷ held) some = refl

  leaving_as : (g : Attempt) (next : Next) → code.next th.local ≡ next → is_leaving g next th.held ≡ false → is_leaving g (code.next th.local) th.held ≡ false
  leaving_as g next is none = ap (λ n. is_leaving g n th.held) is ∙ none

  access_leaves_none : (next : Next) (s w level : ℕ) → IsAccess next → is_leaving (Fixed (Pin s w level)) next th.held ≡ false
  access_leaves_none (Want (Read r i)) s w level accesses = refl
  access_leaves_none (Want (Write r i v)) s w level accesses = refl
  access_leaves_none next s w level accesses = absurd accesses

  abbrev After : Attempt → Step → StepAnswer → Type 0
  After g step a = Deed x (view code (record th { attempt = g })) step a

  -- after the load of a monitor, of a start word or of a class: where the own section is pinned first, and where it isn't
  to_pin_goes : {step : Step} {a : StepAnswer} (next : Next) → code.next th.local ≡ next → th.levels < 2 ^ 8 → SectionsStay step a
      → is_leaving (Fixed (own_pin th)) next th.held ≡ false → is_leaving (behind_pin th next) next th.held ≡ false → After (to_pin th next) step a
  to_pin_goes {step} {a} next is low leaves pin_none behind_none =
      by_if (λ g. After g step a) (is_open th) (Fixed (own_pin th)) (behind_pin th next)
      (λ yes. plain leaves same refl low (leaving_as (Fixed (own_pin th)) next is pin_none)) (λ no. behind next is behind_none)
    where
      behind : (next : Next) → code.next th.local ≡ next → is_leaving (behind_pin th next) next th.held ≡ false → After (behind_pin th next) step a
      behind (Want (Exit r)) is none = plain leaves same refl (omega arith) (leaving_as (behind_pin th (Want (Exit r))) (Want (Exit r)) is none)
      behind (Want (Wait r)) is none = plain leaves same refl (omega arith) refl
      behind (Want (Op.Notify r)) is none = plain leaves same refl (omega arith) refl
      behind (Want (Start r p)) is none = plain leaves same refl (omega arith) refl
      behind (Want (Init c)) is none = plain leaves same refl (omega arith) refl
      behind next is none = plain leaves same refl (omega arith) refl

  -- what is forgotten isn't seen
  forgets : {step : Step} {a : StepAnswer} (y : ThreadState S) → Deed x (view code y) step a → Deed x (view code (forgotten y)) step a
  forgets {step} {a} y deed = by_if (λ z. Deed x (view code z) step a) (is_open y) y (record y { log = []; saved = []; marks = [] }) (λ yes. deed) (λ no. deed)

  loses_on : (step : Step) (v : ℕ) (area : Area) → Deed x (view code (changed code th (lost_on th area))) step (Lost v)
  loses_on step v (Section s) = by_if (λ c. Deed x (view code (changed code th c)) step (Lost v)) (is_own_section th s) _ _
      (λ yes. plain (lost_stays step v) same refl (omega arith) refl) (λ no. plain (lost_stays step v) same refl (omega arith) refl)
  loses_on step v area = plain (lost_stays step v) same refl (omega arith) refl

  -- ---- each row is a deed

  -- a load after which nothing of the section changes
  found : {step : Step} {a : StepAnswer} {y : View} → SectionsStay step a → Keeps x y → y.undoing ≡ None → y.level ≡ 0 → y.leaving ≡ false → Deed x y step a
  found {y = y} leaves keeps none low leaving = plain leaves keeps none (zero_low y.level low) leaving

  pins_as : (next : Next) → code.next th.local ≡ next → move_of code th next th.attempt ≡ Make (own_pin th) → 0 < th.section → th.pinned < th.levels
      → Deed x (view code (record th { pinned = th.levels; attempt = behind_pin th next })) (own_pin th) StepAnswer.Done
  pins_as (Want (Exit r)) is makes some unpinned =
      let at = exit_pin r th.section (own_word th) th.levels makes in
      pins_own some unpinned (refl, refl, refl, refl) refl refl refl
      (λ leaving. ap (λ g. is_leaving g (code.next th.local) th.held) at ∙ sym (release_pin r th.section (own_word th) th.levels (code.next th.local)) ∙ leaving)
  pins_as (Want (Wait r)) is makes some unpinned = pins_own some unpinned (refl, refl, refl, refl) refl refl refl (λ leaving. absurd (true≢false (sym leaving)))
  pins_as (Want (Op.Notify r)) is makes some unpinned = pins_own some unpinned (refl, refl, refl, refl) refl refl refl (λ leaving. absurd (true≢false (sym leaving)))
  pins_as (Want (Start r p)) is makes some unpinned = pins_own some unpinned (refl, refl, refl, refl) refl refl refl (λ leaving. absurd (true≢false (sym leaving)))
  pins_as (Want (Init c)) is makes some unpinned = pins_own some unpinned (refl, refl, refl, refl) refl refl refl (λ leaving. absurd (true≢false (sym leaving)))
  pins_as next is makes some unpinned = pins_own some unpinned (refl, refl, refl, refl) refl refl refl (λ leaving. absurd (true≢false (sym leaving)))

  -- another section than the own one
  not_own : (s : ℕ) → is_own_section th s ≡ false → 0 < th.section → s ≢ th.section
  not_own s other some is = grind_own th.section s other some is
    where
      grind_own : (n s : ℕ) → (nat_lt 0 n && nat_eq s n) ≡ false → 0 < n → s ≢ n
      grind_own n s other some is = true≢false (sym (both n s some is) ∙ other)
        where
          above_zero : (n : ℕ) → 0 < n → nat_lt 0 n ≡ true
          above_zero n some = grind (arith, common_steps, nat_tests)

          equal : (s n : ℕ) → s ≡ n → nat_eq s n ≡ true
          equal s n is = grind (arith, common_steps, nat_tests)

          both : (n s : ℕ) → 0 < n → s ≡ n → (nat_lt 0 n && nat_eq s n) ≡ true
          both n s some is = ap (λ t. t && nat_eq s n) (above_zero n some) ∙ equal s n is

  unsafe_other : (s level : ℕ) → is_unsafe_at th s level ≡ true → s ≢ th.section
  unsafe_other s level unsafe is = by_parts (not (nat_eq s 0 && nat_eq level 0)) (nat_eq s th.section) _ (equal s th.section is) unsafe
    where
      equal : (s n : ℕ) → s ≡ n → nat_eq s n ≡ true
      equal s n is = grind (arith, common_steps, nat_tests)

      by_parts : (a c d : Bool) → c ≡ true → (a && not c && d) ≡ true → ⊥
      by_parts true true d is all = cc
      by_parts true false d is all = cc
      by_parts false c d is all = cc

  -- the level to which inner ones are closed is that of another monitor
  closed_some : (r n : ℕ) → 0 < length (without r th.held) → n ≡ highest (without r th.held) → InLevels th.held → 0 < n
  closed_some r n some is each = subst (λ m. 0 < m) (sym is) (highest_some (without r th.held) (levels_without r th.held each) some)

  closed_low : (r n : ℕ) → n ≡ highest (without r th.held) → InLevels th.held → n < 2 ^ 8
  closed_low r n is each = subst (λ m. m < 2 ^ 8) (sym is) (highest_low (without r th.held) (levels_without r th.held each))

  abbrev Loaded : Step → StepAnswer → Type 0
  Loaded step a = (at w : ℕ) → step ≡ LoadWord at → a ≡ Found w → w < 2 ^ 64

  deed : {next : Next} {step : Step} {a : StepAnswer} {change : Change} → Row code b th next step a change → code.next th.local ≡ next
      → IsKept th → level_in th.attempt < 2 ^ 8 → Loaded step a → move_of code th next th.attempt ≡ Make step → Deed x (view code (changed code th change)) step a
  deed (is_lost {step = step} {v = v}) is kept low loaded makes = loses_on step v (place_of step)
  deed (own_revoked {w = w} at looks is_turned) is kept low loaded makes = sees_revoked (state_is Revoking w is_turned) same refl refl refl
  deed (own_stands {w = w} at looks stands) is kept low loaded makes = forgets (record th { pinned = pinned_of w; attempt = Checked }) (sees_pinned (refl, refl, refl, refl) refl (refl, refl, refl))
  deed (pins {next = next} unpinned lasts) is kept low loaded makes =
      forgets (record th { pinned = th.levels; attempt = behind_pin th next }) (pins_as next is makes (some_section kept.levels unpinned) (less th.pinned th.levels unpinned))
  deed (restores {w = w} at undoing does) is kept low loaded makes = goes_on (else_stays _ _ (λ s. refl)) same (ap undone_word at) (ap undone_word at) (ap level_in at) (ap (λ g. is_leaving g (code.next th.local) th.held) at)
  deed (sets_monitor_back {w = w} {r = r} {new = new} at undoing does) is kept low loaded makes = goes_on (else_stays _ _ (λ s. refl)) same (ap undone_word at) (ap undone_word at) (ap level_in at) (ap (λ g. is_leaving g (code.next th.local) (with_depth_of r (monitor_depth new) th.held)) at)
  deed (gives_monitor_back {w = w} {r = r} at undoing does) is kept low loaded makes = goes_on (else_stays _ _ (λ s. refl)) same (ap undone_word at) (ap undone_word at) (ap level_in at) (ap (λ g. is_leaving g (code.next th.local) (without r th.held)) at)
  deed (is_undone {w = w} at undoing does) is kept low loaded makes = forgets
      (without_level (record (stood_at th (revoke_of w)) { section = section_at (revoke_of w - 1) th.section; attempt = Begin }) (revoke_of w))
      (undoes (ap undone_word at) (above th.section undoing.section) (refl, refl) refl refl refl (refl, refl, refl))
  deed class_found is kept low loaded makes = found (load_stays _ _ refl) same refl refl refl
  deed (word_read safe) is kept low loaded makes = found (load_stays _ _ refl) same refl refl refl
  deed (word_seen safe) is kept low loaded makes = found (load_stays _ _ refl) same refl refl refl
  deed (word_written safe) is kept low loaded makes = found (else_stays _ _ (λ s. refl)) same refl refl refl
  deed (is_unsafe {w = w} accesses unsafe) is kept low loaded makes = plain (load_stays _ _ refl) same refl (tag_low w (loaded _ w refl refl)) refl
  deed (tag_committed at accesses unsafe committed) is kept low loaded makes = found (load_stays _ _ refl) same refl refl refl
  deed (tag_undone at accesses unsafe undone) is kept low loaded makes = found (load_stays _ _ refl) same refl refl refl
  deed (tag_pinned at accesses unsafe live deep) is kept low loaded makes = found (load_stays _ _ refl) same refl refl refl
  deed (tag_live {next = next} {s = s} {level = level} {w = w} at accesses unsafe live shallow) is kept low loaded makes =
      plain (load_stays _ _ refl) same refl (subst (λ g. level_in g < 2 ^ 8) at low) (leaving_as (Fixed (Pin s w level)) next is (access_leaves_none next s w level accesses))
  deed (tag_waits at accesses unsafe not_committed not_undone not_live) is kept low loaded makes = found (load_stays _ _ refl) same refl refl refl
  deed (pins_writer {next = next} {s = s} {level = level} {w = w} accesses unsafe live shallow) is kept low loaded makes =
      touches refl refl (λ some. unsafe_other s level unsafe) (pinned_to level (state_is Live w live) shallow (level_fits (access_pin next s w level accesses makes)) refl)
      (inl (level, refl, level_fits (access_pin next s w level accesses makes), refl)) same (refl, refl, refl)
    where
      level_fits : th.attempt ≡ Fixed (Pin s w level) → level < 2 ^ 8
      level_fits at = subst (λ g. level_in g < 2 ^ 8) at low
  deed (has_room room_left) is kept low loaded makes = found (else_stays _ _ (λ s. refl)) same refl refl refl
  deed (heap_full full) is kept low loaded makes = found (else_stays _ _ (λ s. refl)) same refl refl refl
  deed object_made is kept low loaded makes = found (else_stays _ _ (λ s. refl)) same refl refl refl
  deed (free_first enters free none) is kept low loaded makes = found (load_stays _ _ refl) same refl refl refl
  deed (section_numbered enters none room_left) is kept low loaded makes = found (else_stays _ _ (λ s. refl)) same refl refl refl
  deed (sections_full enters none full) is kept low loaded makes = found (else_stays _ _ (λ s. refl)) same refl refl refl
  deed (section_opened {s = s} enters none some) is kept low loaded makes = opens (is_zero th.section none) (above s some) (refl, refl) refl refl refl (refl, refl, refl)
  deed (free_inside enters free section needs room_left) is kept low loaded makes = found (load_stays _ _ refl) same refl refl refl
  deed (levels_full enters free section needs full) is kept low loaded makes = found (load_stays _ _ refl) same refl refl refl
  deed (level_opened {next = next} enters some needs room_left) is kept low loaded makes =
      forgets (with_level (record th { attempt = Fixed (take_for th next th.section (suc th.levels)) }))
      (opens_level (above th.section some) (room th.levels room_left kept.most) (refl, refl) refl refl refl (refl, refl, refl))
  deed (free_more enters free section none) is kept low loaded makes = found (load_stays _ _ refl) same refl refl refl
  deed (monitor_taken enters some) is kept low loaded makes = found (else_stays _ _ (λ s. refl)) same refl refl refl
  deed (own_again enters held own room_left) is kept low loaded makes = found (load_stays _ _ refl) same refl refl refl
  deed (own_full enters held own full) is kept low loaded makes = found (load_stays _ _ refl) same refl refl refl
  deed (entered_again enters calm_there) is kept low loaded makes = found (else_stays _ _ (λ s. refl)) same refl refl refl
  deed (held_by_other {m = m} enters held other) is kept low loaded makes = plain (load_stays _ _ refl) same refl (monitor_low m) refl
  deed (holder_lower at enters other revokes) is kept low loaded makes = found (load_stays _ _ refl) same refl refl refl
  deed (holder_busy at enters other busy) is kept low loaded makes = found (load_stays _ _ refl) same refl refl refl
  deed (holder_revoked {s = s} {level = level} {w = w} enters other revokes) is kept low loaded makes =
      touches refl refl (not_own s other) (by_revoking w level (contended w level th.priority revokes))
      (inr (level, refl, contended w level th.priority revokes, refl)) same (refl, refl, refl)
  deed (is_notified notified) is kept low loaded makes = found (load_stays _ _ refl) same refl refl refl
  deed (not_notified waits) is kept low loaded makes = found (load_stays _ _ refl) same refl refl refl
  deed (not_owner needs other) is kept low loaded makes = found (load_stays _ _ refl) same refl refl refl
  deed (exits_inner own deep) is kept low loaded makes = found (load_stays _ _ refl) same refl refl refl
  deed (exits_last own last only) is kept low loaded makes = found (load_stays _ _ refl) same refl refl refl
  deed (exits_level own last more inner) is kept low loaded makes = found (load_stays _ _ refl) same refl refl refl
  deed (exits_one {r = r} own last more outer) is kept low loaded makes =
      to_pin_goes (Want (Exit r)) is kept.most (load_stays _ _ refl) (others_held (without r th.held) more) (others_held (without r th.held) more)
  deed (left_once calm_there) is kept low loaded makes = found (else_stays _ _ (λ s. refl)) same refl refl refl
  deed (section_committed some only) is kept low loaded makes = commits (above th.section some) same refl refl
  deed (levels_closed {r = r} {depth = depth} closes) is kept low loaded makes =
      forgets (with_levels (record th { attempt = Fixed (Release r) }) depth)
      (closes_levels (above th.section closes.0) (closed_some r depth closes.3 closes.4 kept.in_levels) (closed_low r depth closes.4 kept.in_levels) (refl, refl) refl refl refl
      (refl, refl, leaving_as (Fixed (Release r)) (Want (Exit r)) is (others_held (without r th.held) closes.3)))
  deed (monitor_left at more) is kept low loaded makes = found (else_stays _ _ (λ s. refl)) same refl refl refl
  deed (section_left {r = r} at none) is kept low loaded makes = forgets (with_levels (record (answered code th Reply.Done) { held = []; section = 0 }) 0)
      (ends_section (ap (λ g. is_leaving g (code.next th.local) th.held) at ∙ ap (λ n. is_leaving (Fixed (Release r)) n th.held) is ∙ ap is_none none)
      (else_stays _ _ (λ s. refl)) (refl, refl) refl refl (refl, refl, refl))
  deed (wait_begins {r = r} own) is kept low loaded makes = to_pin_goes (Want (Wait r)) is kept.most (load_stays _ _ refl) refl refl
  deed (wait_noted {r = r} shut) is kept low loaded makes = found (else_stays _ _ (λ s. refl)) same refl refl (leaving_as (Fixed (Release r)) (Want (Wait r)) is refl)
  deed (wait_made shut at) is kept low loaded makes = found (else_stays _ _ (λ s. refl)) same refl refl refl
  deed (notify_begins {r = r} own) is kept low loaded makes = to_pin_goes (Want (Op.Notify r)) is kept.most (load_stays _ _ refl) refl refl
  deed (waiter_found shut some below waits) is kept low loaded makes = found (load_stays _ _ refl) same refl refl refl
  deed (waiter_passed shut some other more) is kept low loaded makes = found (load_stays _ _ refl) same refl refl refl
  deed (none_waits shut some below other last) is kept low loaded makes = found (load_stays _ _ refl) same refl refl refl
  deed (waiter_woken shut some below waits) is kept low loaded makes = found (else_stays _ _ (λ s. refl)) same refl refl refl
  deed (line_printed shut) is kept low loaded makes = found (else_stays _ _ (λ s. refl)) same refl refl refl
  deed (start_begins {r = r} {p = p} none) is kept low loaded makes = to_pin_goes (Want (Start r p)) is kept.most (load_stays _ _ refl) refl refl
  deed (was_started some) is kept low loaded makes = found (load_stays _ _ refl) same refl refl refl
  deed (thread_numbered shut room_left) is kept low loaded makes = found (else_stays _ _ (λ s. refl)) same refl refl refl
  deed (threads_full shut full) is kept low loaded makes = found (else_stays _ _ (λ s. refl)) same refl refl refl
  deed (is_started shut some below) is kept low loaded makes = found (else_stays _ _ (λ s. refl)) same refl refl refl
  deed (handed_out shut some below) is kept low loaded makes = found (load_stays _ _ refl) same refl refl refl
  deed (never_started none) is kept low loaded makes = found (load_stays _ _ refl) same refl refl refl
  deed (join_begins some) is kept low loaded makes = found (load_stays _ _ refl) same refl refl refl
  deed (is_alive alive) is kept low loaded makes = found (load_stays _ _ refl) same refl refl refl
  deed (has_ended over) is kept low loaded makes = found (load_stays _ _ refl) same refl refl refl
  deed (thread_ended shut) is kept low loaded makes = found (else_stays _ _ (λ s. refl)) same refl refl refl
  deed (is_ready ready) is kept low loaded makes = found (load_stays _ _ refl) same refl refl refl
  deed (is_bad bad) is kept low loaded makes = found (load_stays _ _ refl) same refl refl refl
  deed (is_unready {c = class} fresh) is kept low loaded makes = to_pin_goes (Want (Init class)) is kept.most (load_stays _ _ refl) refl refl
  deed (is_claimed unready good begun own) is kept low loaded makes = found (load_stays _ _ refl) same refl refl refl
  deed (is_others unready good begun other) is kept low loaded makes = found (load_stays _ _ refl) same refl refl refl
  deed (class_claimed shut) is kept low loaded makes = found (else_stays _ _ (λ s. refl)) same refl refl refl
  deed (class_settled shut) is kept low loaded makes = found (else_stays _ _ (λ s. refl)) same refl refl refl

  -- the level to which a thread pins a section
  pub pin_level : (s w level : ℕ) → IsFit code th → next_move code b th ≡ Make (Pin s w level) → level_in th.attempt < 2 ^ 8 → level < 2 ^ 8
  pin_level s w level fits makes low = elim (steps_caused code b th (Pin s w level) fits.attempt makes) [
    | inl own ↦ subst (λ n. n < 2 ^ 8) (sym own.own.3) fits.kept.most
    | inr writer ↦ subst (λ g. level_in g < 2 ^ 8) (access_pin (code.next th.local) s w level writer.cause (makes_it th.over (nat_le b.limits.turns th.counted) _ (Pin s w level) makes)) low
  ]

  -- what is counted isn't seen
  counted_view : (told : Told) (y : ThreadState S) → view code (counted_for told y) ≡ view code y
  counted_view (advanced None) y = refl
  counted_view (advanced (Some reply)) y = refl
  counted_view born y = refl
  counted_view other y = refl

  -- what a thread does with its next step
  pub deed_of : (w : Words) (step : Step) (a : StepAnswer) → IsFit code th → next_move code b th ≡ Make step → a ≡ answer_of w step
      → level_in th.attempt < 2 ^ 8 → Loaded step a → Deed x (view code (after_answer code b th step a)) step a
  deed_of w step a fits makes is low loaded =
      let can : CanAnswer (effect_of step) a = subst (CanAnswer (effect_of step)) (sym is) (words_can_answer w step) in
      subst (λ y. Deed x y step a) (sym (counted_view (told code b th step a) (changed code th (change_of code b th (code.next th.local) step a))))
      (deed (answers_are_rows code b th step a fits.attempt makes can) refl fits.kept low loaded (made step makes))
    where
      made : (step : Step) → next_move code b th ≡ Make step → move_of code th (code.next th.local) th.attempt ≡ Make step
      made step makes = makes_it th.over (nat_le b.limits.turns th.counted) _ step makes
