-- A fit thread stays fit.
use Rattle.std.proofs.Common.{◌≡◌, ℕ, zero, suc, ◌+◌, ◌-◌, ◌<◌, ◌≤◌, ◌^◌, ◌%◌, ◌/◌, ◌&&◌, ◌||◌, not, Bool, true, false, None, Some, List, [], ◌∷◌, length, nat_eq, refl, sym, ◌∙◌, ap, subst, arith, drop}
use Rattle.std.specs.Prelude.{nat_lt, nat_le, filter, if◌then◌else◌}
use Rattle.std.proofs.lemmas.List.{length-drop}
use Rattle.std.proofs.lemmas.Grind.{common_steps}
use Rattle.std.proofs.lemmas.Bool.Decides.{nat_tests}
use Rattle.std.proofs.Math.Bool.{and-false}
use Rattle.std.proofs.lemmas.Bool.{and_parts}
use Rattle.op_core.specs.Replies.{IsEntry}
use Rattle.op_core.specs.declared.Op.{Op}
use Rattle.op_core.specs.declared.Op.TheVariants.{Read, Write, Enter, Exit, Wait, Rewake, Start, Init}
use Rattle.op_core.specs.declared.Next.{Next}
use Rattle.op_core.specs.declared.Next.TheVariants.{Want}
use Rattle.op_core.specs.ThreadCode.{Code}
use Rattle.heap_words.specs.declared.areas.Area.{Area}
use Rattle.heap_words.specs.declared.areas.Area.TheVariants.{Section}
use Rattle.heap_words.specs.Words.{tag_of, tag_section, tag_level}
use Rattle.section_state.specs.SectionWord.{pinned_of, revoke_of, undone_of}
use Rattle.write_log.specs.declared.Noted.{Noted}
use Rattle.monitor_core.specs.Monitors.{monitor_word, monitor_section, monitor_depth, monitor_level}
use Rattle.step_port.specs.declared.answer.StepAnswer.{StepAnswer}
use Rattle.step_port.specs.declared.step.Step.{Step}
use Rattle.step_port.specs.declared.step.Step.TheVariants.{SwapWord, DrawSection, OpenSection, OpenLevel, CloseLevel, Pin, Revoke, MarkUndone, LoadMonitor, TakeMonitor, SetDepth, Release}
use Rattle.step_port.specs.Steps.{place_of}
use Rattle.op_core.specs.declared.Reply.{Reply}
use Rattle.thread_automaton.specs.declared.Bounds.{Bounds}
use Rattle.thread_automaton.specs.declared.Attempt.{Attempt}
use Rattle.thread_automaton.specs.declared.Attempt.TheVariants.{Begin, Look, Checked, Fixed, Meets, Undoing, Full}
use Rattle.thread_automaton.specs.declared.Held.{Held}
use Rattle.thread_automaton.specs.ThreadState.{ThreadState, Mark, is_open, is_own_section, own_word, inside, mark_of, noted_since, held_as, with_depth_of, from_level, highest}
use Rattle.thread_automaton.specs.NextMove.{own_pin, word_place, held_word, deepened_since, release_step, depth_step, undo_step, undo_next}
use Rattle.thread_automaton.specs.Changes.{Change, goes, changed, forgotten, with_levels, without_level, with_level, section_at, stood_at, without}
use Rattle.thread_automaton.specs.Checks.{behind_pin, to_pin, is_safe, is_safe_tag}
use Rattle.thread_automaton.specs.Monitors.{monitor_wanted, entry, take_for, needs_level, is_untaken}
use Rattle.thread_automaton.specs.Answers.{change_of, lost_on}
use Rattle.thread_automaton.specs.Told.{Told, advanced, born, told, counted_for}
use Rattle.automaton_rows.specs.Fits.{is_unsafe_at, IsTagStep, IsEntryStep, IsOwnPin, IsOwnClose, FixedFits, IsUndoing, MeetingFits, AttemptFits, InLevels, IsKept, IsFit}
use Rattle.automaton_rows.specs.Rows.{LooksAtOwn, IsAccess, IsNoUndoing, Row, is_lost, own_revoked, own_stands, pins, restores, sets_monitor_back, gives_monitor_back, is_undone, class_found, word_read, word_seen, word_written, is_unsafe, tag_committed, tag_undone, tag_pinned, tag_live, tag_waits, pins_writer, has_room, heap_full, object_made, free_first, section_numbered, sections_full, section_opened, free_inside, levels_full, level_opened, free_more, monitor_taken, own_again, own_full, entered_again, held_by_other, holder_lower, holder_busy, holder_revoked, is_notified, not_notified, not_owner, exits_inner, exits_last, exits_level, exits_one, left_once, section_committed, levels_closed, monitor_left, section_left, wait_begins, wait_noted, wait_made, notify_begins, waiter_found, waiter_passed, none_waits, waiter_woken, line_printed, start_begins, was_started, thread_numbered, threads_full, is_started, handed_out, never_started, join_begins, is_alive, has_ended, thread_ended, is_ready, is_bad, is_unready, is_claimed, is_others, class_claimed, class_settled}
use Rattle.automaton_rows.specs.Laws.{AnswersKeepFit}
use Rattle.automaton_rows.proofs.RowLemmas.{by_if, answers_are_rows}

-- ---- tests

above_zero : (n : ℕ) → nat_lt 0 (n + 1) ≡ true
above_zero n = grind (arith, common_steps, nat_tests)

is_above : (n : ℕ) → nat_eq n 0 ≡ false → nat_lt 0 n ≡ true
is_above n some = grind (arith, common_steps, nat_tests)

not_zero : (n : ℕ) → nat_lt 0 n ≡ true → nat_eq n 0 ≡ false
not_zero n some = grind (arith, common_steps, nat_tests)

is_zero : (n : ℕ) → nat_eq n 0 ≡ true → n ≡ 0
is_zero n none = grind (arith, common_steps, nat_tests)

is_less : (m n : ℕ) → nat_lt m n ≡ true → m < n
is_less m n is = grind (arith, common_steps, nat_tests)

not_less : (m n : ℕ) → nat_lt m n ≡ false → n ≤ m
not_less m n is = grind (arith, common_steps, nat_tests)

not_255 : (n : ℕ) → nat_eq n 255 ≡ false → n < 2 ^ 8 → suc n < 2 ^ 8
not_255 n room low = grind (arith, common_steps, nat_tests)

some_above : (n : ℕ) → nat_eq n 0 ≡ false → 0 < n
some_above n some = grind (arith, common_steps, nat_tests)

one_more : (n : ℕ) → nat_lt n 255 ≡ true → n + 1 < 256
one_more n below = grind (arith, common_steps, nat_tests)

both_ways : {A : Type 0} (t : Bool) → t ≡ true → t ≡ false → A
both_ways t is none = cc

-- a word isn't safe
unsafe_at : {S : Type 0} (th : ThreadState S) (tag : ℕ) → is_safe_tag th tag ≡ false → is_unsafe_at th (tag_section tag) (tag_level tag) ≡ true
unfolding tag_section tag_level
unsafe_at th tag unsafe = by_parts (nat_eq tag 0) (nat_eq (tag_section tag) th.section) (nat_eq (tag_section tag) th.known && nat_le (tag_level tag) th.known_depth) refl unsafe
  where
    no_tag : (tag : ℕ) → nat_eq tag 0 ≡ false → (nat_eq (tag % 2 ^ 24) 0 && nat_eq (tag / 2 ^ 24) 0) ≡ false
    no_tag tag none = by_both (nat_eq (tag % 2 ^ 24) 0) (nat_eq (tag / 2 ^ 24) 0) refl refl
      where
        zero_of : (n : ℕ) → nat_eq n 0 ≡ true → n ≡ 0
        zero_of n is = grind (arith, common_steps, nat_tests)

        whole : (n : ℕ) → n % 2 ^ 24 ≡ 0 → n / 2 ^ 24 ≡ 0 → n ≡ 0
        whole n low high = omega (arith, low, high)

        is : (n : ℕ) → n ≡ 0 → nat_eq n 0 ≡ true
        is n none = grind (arith, common_steps, nat_tests)

        by_both : (a c : Bool) → nat_eq (tag % 2 ^ 24) 0 ≡ a → nat_eq (tag / 2 ^ 24) 0 ≡ c → (a && c) ≡ false
        by_both true true low high = both_ways (nat_eq tag 0) (is tag (whole tag (zero_of (tag % 2 ^ 24) low) (zero_of (tag / 2 ^ 24) high))) none
        by_both true false low high = refl
        by_both false c low high = refl

    by_parts : (a c d : Bool) → nat_eq tag 0 ≡ a → (a || c || d) ≡ false
        → (not (nat_eq (tag % 2 ^ 24) 0 && nat_eq (tag / 2 ^ 24) 0) && not c && not d) ≡ true
    by_parts true c d tag_is none = cc
    by_parts false true d tag_is none = cc
    by_parts false false true tag_is none = cc
    by_parts false false false tag_is none = ap (λ t. not t && true && true) (no_tag tag tag_is)

-- ---- monitors that are held

pub levels_without : (r : ℕ) (held : List Held) → InLevels held → InLevels (without r held)
levels_without r [] each = tt
levels_without r (h ∷ held) each = by_if (λ xs. InLevels xs) (not (nat_eq h.object r)) (h ∷ without r held) (without r held)
    (λ _. (each.0, each.1, levels_without r held each.2)) (λ _. levels_without r held each.2)

levels_with : (r depth : ℕ) (held : List Held) → InLevels held → InLevels (with_depth_of r depth held)
levels_with r depth [] each = tt
levels_with r depth (h ∷ held) each =
    by_if (λ (x : Held). (0 < x.level) × (x.level < 2 ^ 8) × InLevels (with_depth_of r depth held)) (nat_eq h.object r) (record h { depth = depth }) h
    (λ _. (each.0, each.1, levels_with r depth held each.2)) (λ _. (each.0, each.1, levels_with r depth held each.2))

level_of_held : (r : ℕ) (held : List Held) → InLevels held → (0 < (held_as r held).level) × ((held_as r held).level < 2 ^ 8)
level_of_held r [] each = (omega arith, omega arith)
level_of_held r (h ∷ held) each = by_if (λ (x : Held). (0 < x.level) × (x.level < 2 ^ 8)) (nat_eq h.object r) h (held_as r held)
    (λ _. (each.0, each.1)) (λ _. level_of_held r held each.2)

pub highest_low : (held : List Held) → InLevels held → highest held < 2 ^ 8
highest_low [] each = omega arith
highest_low (h ∷ held) each = by_if (λ n. n < 2 ^ 8) (nat_lt (highest held) h.level) h.level (highest held) (λ _. each.1) (λ _. highest_low held each.2)

pub highest_some : (held : List Held) → InLevels held → 0 < length held → 0 < highest held
highest_some [] each some = absurd (no some)
  where
    no : 0 < 0 → ⊥
    no some = omega (arith, some)
highest_some (h ∷ held) each some = by_test (nat_lt (highest held) h.level) refl
  where
    by_test : (t : Bool) → nat_lt (highest held) h.level ≡ t → 0 < (if t then h.level else highest held)
    by_test true is = each.0
    by_test false is = let low = not_less (highest held) h.level is in let some_level = each.0 in omega (arith, low, some_level)

-- none has level 1 or a higher one: none is held
none_from : (n : ℕ) (held : List Held) → n ≤ 1 → InLevels held → from_level n held ≡ [] → held ≡ []
none_from n [] low each none = refl
none_from n (h ∷ held) low each none = absurd (some (nat_le n h.level) refl none)
  where
    is_le : (n m : ℕ) → n ≤ 1 → 0 < m → nat_le n m ≡ false → ⊥
    is_le n m low above isnt = grind (arith, common_steps, nat_tests)

    some : (t : Bool) → nat_le n h.level ≡ t → (if t then h ∷ from_level n held else from_level n held) ≡ [] → ⊥
    some true is none = cc
    some false is none = is_le n h.level low each.0 is

-- the last step of an undo comes where nothing that was taken since is held
pub last_step : (s w x y : ℕ) (log : List Noted) (deepened taken : List Held) → undo_step s w log deepened taken ≡ MarkUndone x y → taken ≡ []
last_step s w x y (e ∷ log) deepened taken is = cc
last_step s w x y [] (h ∷ deepened) taken is = cc
last_step s w x y [] [] (h ∷ taken) is = cc
last_step s w x y [] [] [] is = refl

-- ---- fixed steps of several operations

tag_fits : {S : Type 0} (th : ThreadState S) (next : Next) (step : Step) → IsAccess next → IsTagStep th step → FixedFits th next step
tag_fits th (Want (Read r i)) step accesses fits = fits
tag_fits th (Want (Write r i v)) (SwapWord p old new) accesses fits = absurd fits
tag_fits th (Want (Write r i v)) step accesses fits = fits
tag_fits th next step accesses fits = absurd accesses

entry_fits : {S : Type 0} (th : ThreadState S) (next : Next) (step : Step) → IsEntry next → IsEntryStep th next step → FixedFits th next step
entry_fits th (Want (Enter q)) step enters fits = fits
entry_fits th (Want (Rewake q)) (LoadMonitor p) enters fits = absurd fits
entry_fits th (Want (Rewake q)) step enters fits = fits
entry_fits th next step enters fits = absurd enters

same_entry : {S : Type 0} (x y : ThreadState S) (next : Next) (n : ℕ) → x.depth ≡ y.depth → x.level ≡ y.level → entry x next n ≡ entry y next n
same_entry x y (Want (Rewake r)) n depth level = λ i. record { object = r; level = level i; depth = depth i }
same_entry x y next n depth level = refl

same_need : {S : Type 0} (x y : ThreadState S) (next : Next) → x.levels ≡ y.levels → x.held ≡ y.held → needs_level x next ≡ needs_level y next
same_need x y (Want (Rewake r)) levels held = refl
same_need x y next levels held = ap (λ n. is_taken n x.held) levels ∙ ap (λ h. is_taken y.levels h) held
  where
    is_taken : ℕ → List Held → Bool
    is_taken n held = not (not (Rattle.std.specs.List.list_any (λ h. nat_eq h.level n) held))

revoke_low : (w : ℕ) → revoke_of w < 2 ^ 8
unfolding revoke_of
revoke_low w = omega arith

module _ {S : Type 0} (code : Code S) (b : Bounds) (th : ThreadState S) where
  -- with other counts, at a attempt
  abbrev at_attempt : Attempt → ℕ → ℕ → ThreadState S
  at_attempt attempt c s = record th { attempt = attempt; counted = c; silents = s }

  -- what is so of it but for its attempt
  record Rest : Type 0 where
    kept : IsKept th
    unsaved : is_open th ≡ false → th.saved ≡ []
    unlogged : is_open th ≡ false → th.log ≡ []

  goes_to : (next : Next) (attempt : Attempt) (c s : ℕ) → code.next th.local ≡ next → Rest
      → AttemptFits (at_attempt attempt c s) next attempt → IsFit code (at_attempt attempt c s)
  goes_to next attempt c s is rest fits =
      record { attempt = subst (λ x. AttemptFits (at_attempt attempt c s) x attempt) (sym is) fits; kept = record { saves = rest.kept.saves; few = rest.kept.few; levels = rest.kept.levels; most = rest.kept.most; held = rest.kept.held; in_levels = rest.kept.in_levels; waited = rest.kept.waited }; unsaved = rest.unsaved; unlogged = rest.unlogged }

  goes_entry : (next : Next) (step : Step) (c s : ℕ) → code.next th.local ≡ next → Rest → IsEntry next
      → IsEntryStep (at_attempt (Fixed step) c s) next step → IsFit code (at_attempt (Fixed step) c s)
  goes_entry next step c s is rest enters fits = goes_to next (Fixed step) c s is rest (entry_fits (at_attempt (Fixed step) c s) next step enters fits)

  goes_tag : (next : Next) (step : Step) (c s : ℕ) → code.next th.local ≡ next → Rest → IsAccess next
      → IsTagStep (at_attempt (Fixed step) c s) step → IsFit code (at_attempt (Fixed step) c s)
  goes_tag next step c s is rest accesses fits = goes_to next (Fixed step) c s is rest (tag_fits (at_attempt (Fixed step) c s) next step accesses fits)

  meets_tag : (x : ThreadState S) (next : Next) (q level : ℕ) → IsAccess next → is_unsafe_at x q level ≡ true → MeetingFits x next q level
  meets_tag x (Want (Read r i)) q level accesses unsafe = unsafe
  meets_tag x (Want (Write r i v)) q level accesses unsafe = unsafe
  meets_tag x next q level accesses unsafe = absurd accesses

  meets_holder : (x : ThreadState S) (next : Next) (q level : ℕ) → IsEntry next → is_own_section x q ≡ false → MeetingFits x next q level
  meets_holder x (Want (Enter r)) q level enters other = other
  meets_holder x (Want (Rewake r)) q level enters other = other
  meets_holder x next q level enters other = absurd enters

  -- ---- the saved states and the log are forgotten where nothing can be undone

  forgets : (y : ThreadState S) (c s : ℕ) → AttemptFits (record y { counted = c; silents = s }) (code.next y.local) y.attempt
      → AttemptFits (record y { log = []; saved = []; marks = []; counted = c; silents = s }) (code.next y.local) y.attempt
      → IsKept y → IsFit code (record (forgotten y) { counted = c; silents = s })
  forgets y c s open_fits shut_fits kept = by_test (is_open y) refl
    where
      none : 0 ≤ y.levels
      none = omega arith

      by_test : (t : Bool) → is_open y ≡ t → IsFit code (record (if t then y else record y { log = []; saved = []; marks = [] }) { counted = c; silents = s })
      by_test true is = record { attempt = open_fits; kept = record { saves = kept.saves; few = kept.few; levels = kept.levels; most = kept.most; held = kept.held; in_levels = kept.in_levels; waited = kept.waited }; unsaved = λ shut. both_ways (is_open y) is shut; unlogged = λ shut. both_ways (is_open y) is shut }
      by_test false is = record {
        attempt = shut_fits;
        kept = record { saves = refl; few = none; levels = kept.levels; most = kept.most; held = kept.held; in_levels = kept.in_levels; waited = kept.waited };
        unsaved = λ _. refl;
        unlogged = λ _. refl;
      }

  -- on the way to the pin
  pin_fits : (next : Next) (x : ThreadState S) → (is_open th ≡ true → AttemptFits x next (Fixed (own_pin th)))
      → (is_open th ≡ false → AttemptFits x next (behind_pin th next)) → AttemptFits x next (to_pin th next)
  pin_fits next x unpinned shut = by_bool (is_open th) unpinned shut
    where
      by_bool : (t : Bool) → (t ≡ true → AttemptFits x next (Fixed (own_pin th))) → (t ≡ false → AttemptFits x next (behind_pin th next))
          → AttemptFits x next (if t then Fixed (own_pin th) else behind_pin th next)
      by_bool true unpinned shut = unpinned refl
      by_bool false unpinned shut = shut refl

  -- past it
  less_self : (n : ℕ) → nat_lt n n ≡ false
  less_self n = grind (arith, common_steps, nat_tests)

  behind_fits : (x : ThreadState S) (next : Next) → x.number ≡ th.number → is_open x ≡ false → AttemptFits x next (behind_pin th next)
  behind_fits x (Want (Exit r)) same shut = refl
  behind_fits x (Want (Wait r)) same shut = (shut, sym same, refl)
  behind_fits x (Want (Op.Notify r)) same shut = (shut, omega arith, omega arith)
  behind_fits x (Want (Start r p)) same shut = shut
  behind_fits x (Want (Init r)) same shut = (shut, refl, sym same)
  behind_fits x next same shut = tt

  -- while it is undone
  undoing_fits : (w : ℕ) (x : ThreadState S) (next : Next) → x.attempt ≡ th.attempt → x.section ≡ th.section → th.attempt ≡ Undoing w → IsUndoing th w
      → AttemptFits x next x.attempt
  undoing_fits w x next same own at undoing =
      subst (AttemptFits x next) (sym (same ∙ at)) (record { section = ap (nat_lt 0) own ∙ undoing.section; revoked = undoing.revoked })

  -- a level that is open is one of a section
  opened_section : IsKept th → is_open th ≡ true → nat_lt 0 th.section ≡ true
  opened_section kept opened = is_above th.section (kept.levels ∙ not_zero th.levels (above th.pinned th.levels (is_less th.pinned th.levels opened)))
    where
      above : (m n : ℕ) → m < n → nat_lt 0 n ≡ true
      above m n low = grind (arith, common_steps, nat_tests)

  looks_own : (attempt : Attempt) → IsKept th → LooksAtOwn th attempt → nat_lt 0 th.section ≡ true
  looks_own Begin kept looks = opened_section kept looks
  looks_own Look kept looks = looks
  looks_own attempt kept looks = absurd looks

  -- ---- levels that are closed

  fewer : (n : ℕ) (marks : List Mark) (k : ℕ) → length th.saved ≡ length marks → length (drop k th.saved) ≡ length (drop k marks)
  fewer n marks k same = length-drop k th.saved ∙ ap (λ m. m - k) same ∙ sym (length-drop k marks)

  few_left : (n : ℕ) → length th.saved ≤ th.levels → length (drop (inside th n) th.saved) ≤ n
  few_left n few = subst (λ m. m ≤ n) (sym (length-drop (th.levels - n) th.saved)) (counts (length th.saved) th.levels n few)
    where
      counts : (m l n : ℕ) → m ≤ l → m - (l - n) ≤ n
      counts m l n few = omega (arith, few)

  few_outside : (n : ℕ) → length th.saved ≤ th.levels → length (drop (suc (inside th n)) th.saved) ≤ n - 1
  few_outside n few = subst (λ m. m ≤ n - 1) (sym (length-drop (suc (th.levels - n)) th.saved)) (counts (length th.saved) th.levels n few)
    where
      counts : (m l n : ℕ) → m ≤ l → m - suc (l - n) ≤ n - 1
      counts m l n few = omega (arith, few)

  keeps_fit : {next : Next} {step : Step} {a : StepAnswer} {change : Change} → Row code b th next step a change → code.next th.local ≡ next
      → Rest → (c s : ℕ) → IsFit code (record (changed code th change) { counted = c; silents = s })
  keeps_fit (is_lost {next = next} {step = step}) is rest c s = lost_fits (place_of step)
    where
      lost_fits : (a : Area) → IsFit code (record (changed code th (lost_on th a)) { counted = c; silents = s })
      lost_fits (Section q) = by_if (λ change. IsFit code (record (changed code th change) { counted = c; silents = s })) (is_own_section th q) (goes Look) (goes Begin)
          (λ own. record { attempt = (and_parts (nat_lt 0 th.section) (nat_eq q th.section) own).0; kept = record { saves = rest.kept.saves; few = rest.kept.few; levels = rest.kept.levels; most = rest.kept.most; held = rest.kept.held; in_levels = rest.kept.in_levels; waited = rest.kept.waited }; unsaved = rest.unsaved; unlogged = rest.unlogged })
          (λ other. record { attempt = tt; kept = record { saves = rest.kept.saves; few = rest.kept.few; levels = rest.kept.levels; most = rest.kept.most; held = rest.kept.held; in_levels = rest.kept.in_levels; waited = rest.kept.waited }; unsaved = rest.unsaved; unlogged = rest.unlogged })
      lost_fits a = record { attempt = tt; kept = record { saves = rest.kept.saves; few = rest.kept.few; levels = rest.kept.levels; most = rest.kept.most; held = rest.kept.held; in_levels = rest.kept.in_levels; waited = rest.kept.waited }; unsaved = rest.unsaved; unlogged = rest.unlogged }
  keeps_fit (own_revoked {attempt = attempt} {w = w} at looks revoked) is rest c s = goes_to _ (Undoing w) c s is rest (record { section = looks_own attempt rest.kept looks; revoked = revoked })
  keeps_fit (own_stands {w = w} at looks goes_on) is rest c s = forgets (record th { pinned = pinned_of w; attempt = Checked }) c s tt tt (record { saves = rest.kept.saves; few = rest.kept.few; levels = rest.kept.levels; most = rest.kept.most; held = rest.kept.held; in_levels = rest.kept.in_levels; waited = rest.kept.waited })
  keeps_fit (pins {next = next} unpinned lasts) is rest c s =
      let y = record th { pinned = th.levels; attempt = behind_pin th next } in
      let z = record y { counted = c; silents = s } in
      let x = record z { log = []; saved = []; marks = [] } in
      forgets y c s (subst (λ n. AttemptFits z n (behind_pin th next)) (sym is) (behind_fits z next refl (less_self th.levels)))
      (subst (λ n. AttemptFits x n (behind_pin th next)) (sym is) (behind_fits x next refl (less_self th.levels)))
      (record { saves = rest.kept.saves; few = rest.kept.few; levels = rest.kept.levels; most = rest.kept.most; held = rest.kept.held; in_levels = rest.kept.in_levels; waited = rest.kept.waited })
  keeps_fit (restores {w = w} at undoing next) is rest c s = record {
    attempt = undoing_fits w _ _ refl refl at undoing;
    kept = record { saves = rest.kept.saves; few = rest.kept.few; levels = rest.kept.levels; most = rest.kept.most; held = rest.kept.held; in_levels = rest.kept.in_levels; waited = rest.kept.waited };
    unsaved = rest.unsaved;
    unlogged = λ shut. ap (drop 1) (rest.unlogged shut);
  }
  keeps_fit (sets_monitor_back {w = w} {r = r} {new = new} at undoing next) is rest c s = record {
    attempt = undoing_fits w _ _ refl refl at undoing;
    kept = record { saves = rest.kept.saves; few = rest.kept.few; levels = rest.kept.levels; most = rest.kept.most; held = λ none. ap (with_depth_of r (monitor_depth new)) (rest.kept.held none); in_levels = levels_with r (monitor_depth new) th.held rest.kept.in_levels; waited = rest.kept.waited };
    unsaved = rest.unsaved;
    unlogged = rest.unlogged;
  }
  keeps_fit (gives_monitor_back {w = w} {r = r} at undoing next) is rest c s = record {
    attempt = undoing_fits w _ _ refl refl at undoing;
    kept = record { saves = rest.kept.saves; few = rest.kept.few; levels = rest.kept.levels; most = rest.kept.most; held = λ none. ap (without r) (rest.kept.held none); in_levels = levels_without r th.held rest.kept.in_levels; waited = rest.kept.waited };
    unsaved = rest.unsaved;
    unlogged = rest.unlogged;
  }
  keeps_fit (is_undone {w = w} at undoing next) is rest c s = undone_fits (revoke_of w) (low_of w) refl
    where
      low_of : (w : ℕ) → revoke_of w < 2 ^ 8
      low_of w = revoke_low w

      undone_fits : (n : ℕ) → n < 2 ^ 8 → n ≡ revoke_of w → IsFit code (record (forgotten (without_level (record (stood_at th n) { section = section_at (n - 1) th.section; attempt = Begin }) n)) { counted = c; silents = s })
      undone_fits n low is_n = forgets (without_level (record (stood_at th n) { section = section_at (n - 1) th.section; attempt = Begin }) n) c s tt tt (record {
        saves = fewer n th.marks (suc (inside th n)) rest.kept.saves;
        few = few_outside n rest.kept.few;
        levels = section_levels (n - 1);
        most = less n low;
        held = λ none. none_from n th.held (one (n - 1) n refl (zero_of (n - 1) none)) rest.kept.in_levels
            (subst (λ m. from_level m th.held ≡ []) (sym is_n) (last_step th.section w th.section (undone_of w) _ _ _ next));
        in_levels = rest.kept.in_levels;
        waited = rest.kept.waited;
      })
        where
          less : (n : ℕ) → n < 2 ^ 8 → n - 1 < 2 ^ 8
          less n low = omega (arith, low)

          one : (m n : ℕ) → m ≡ n - 1 → m ≡ 0 → n ≤ 1
          one m n is none = omega (arith, is, none)

          section_levels : (m : ℕ) → nat_eq (section_at m th.section) 0 ≡ nat_eq m 0
          section_levels m = by_test (nat_eq m 0)
            where
              by_test : (t : Bool) → nat_eq (if t then 0 else th.section) 0 ≡ t
              by_test true = refl
              by_test false = not_zero th.section undoing.section

          zero_of : (m : ℕ) → nat_eq (section_at m th.section) 0 ≡ true → m ≡ 0
          zero_of m none = is_zero m (sym (section_levels m) ∙ none)
  keeps_fit class_found is rest c s = record { attempt = tt; kept = record { saves = rest.kept.saves; few = rest.kept.few; levels = rest.kept.levels; most = rest.kept.most; held = rest.kept.held; in_levels = rest.kept.in_levels; waited = rest.kept.waited }; unsaved = rest.unsaved; unlogged = rest.unlogged }
  keeps_fit (word_read safe) is rest c s = record { attempt = tt; kept = record { saves = rest.kept.saves; few = rest.kept.few; levels = rest.kept.levels; most = rest.kept.most; held = rest.kept.held; in_levels = rest.kept.in_levels; waited = rest.kept.waited }; unsaved = rest.unsaved; unlogged = rest.unlogged }
  keeps_fit (word_seen safe) is rest c s = goes_to _ _ c s is rest (refl, refl, safe)
  keeps_fit (word_written {r = r} {i = i} {old = old} safe) is rest c s = record {
    attempt = tt;
    kept = record { saves = rest.kept.saves; few = rest.kept.few; levels = rest.kept.levels; most = rest.kept.most; held = rest.kept.held; in_levels = rest.kept.in_levels; waited = rest.kept.waited };
    unsaved = rest.unsaved;
    unlogged = λ shut. ap (λ t. if t then record { at = word_place r i; old = old } ∷ th.log else th.log) shut ∙ rest.unlogged shut;
  }
  keeps_fit (is_unsafe {next = next} {w = w} accesses unsafe) is rest c s = goes_to next (Meets (tag_section (tag_of w)) (tag_level (tag_of w))) c s is rest (meets_tag (at_attempt (Meets (tag_section (tag_of w)) (tag_level (tag_of w))) c s) next (tag_section (tag_of w)) (tag_level (tag_of w)) accesses (unsafe_at th (tag_of w) unsafe))
  keeps_fit (tag_committed at accesses unsafe stays) is rest c s = record { attempt = tt; kept = record { saves = rest.kept.saves; few = rest.kept.few; levels = rest.kept.levels; most = rest.kept.most; held = rest.kept.held; in_levels = rest.kept.in_levels; waited = rest.kept.waited }; unsaved = rest.unsaved; unlogged = rest.unlogged }
  keeps_fit (tag_undone at accesses unsafe undone) is rest c s = record { attempt = tt; kept = record { saves = rest.kept.saves; few = rest.kept.few; levels = rest.kept.levels; most = rest.kept.most; held = rest.kept.held; in_levels = rest.kept.in_levels; waited = rest.kept.waited }; unsaved = rest.unsaved; unlogged = rest.unlogged }
  keeps_fit (tag_pinned at accesses unsafe live deep) is rest c s = record { attempt = tt; kept = record { saves = rest.kept.saves; few = rest.kept.few; levels = rest.kept.levels; most = rest.kept.most; held = rest.kept.held; in_levels = rest.kept.in_levels; waited = rest.kept.waited }; unsaved = rest.unsaved; unlogged = rest.unlogged }
  keeps_fit (tag_live {next = next} {s = tag} {level = level} {w = w} at accesses unsafe live shallow) is rest c s = goes_tag next (Pin tag w level) c s is rest accesses (unsafe, live, below level (pinned_of w) shallow)
    where
      below : (m n : ℕ) → nat_le m n ≡ false → n < m
      below m n is = grind (arith, common_steps, nat_tests)
  keeps_fit (tag_waits at accesses unsafe goes_on stands revoking) is rest c s = record { attempt = tt; kept = record { saves = rest.kept.saves; few = rest.kept.few; levels = rest.kept.levels; most = rest.kept.most; held = rest.kept.held; in_levels = rest.kept.in_levels; waited = rest.kept.waited }; unsaved = rest.unsaved; unlogged = rest.unlogged }
  keeps_fit (pins_writer accesses unsafe live deeper) is rest c s = record { attempt = tt; kept = record { saves = rest.kept.saves; few = rest.kept.few; levels = rest.kept.levels; most = rest.kept.most; held = rest.kept.held; in_levels = rest.kept.in_levels; waited = rest.kept.waited }; unsaved = rest.unsaved; unlogged = rest.unlogged }
  keeps_fit (has_room room) is rest c s = goes_to _ _ c s is rest refl
  keeps_fit (heap_full full) is rest c s = record { attempt = tt; kept = record { saves = rest.kept.saves; few = rest.kept.few; levels = rest.kept.levels; most = rest.kept.most; held = rest.kept.held; in_levels = rest.kept.in_levels; waited = rest.kept.waited }; unsaved = rest.unsaved; unlogged = rest.unlogged }
  keeps_fit object_made is rest c s = record { attempt = tt; kept = record { saves = rest.kept.saves; few = rest.kept.few; levels = rest.kept.levels; most = rest.kept.most; held = rest.kept.held; in_levels = rest.kept.in_levels; waited = rest.kept.waited }; unsaved = rest.unsaved; unlogged = rest.unlogged }
  keeps_fit (free_first {next = next} enters free none) is rest c s = goes_entry next DrawSection c s is rest enters none
  keeps_fit (section_numbered {next = next} {n = n} enters none room) is rest c s = goes_entry next (OpenSection (n + 1) _) c s is rest enters (none, above_zero n, refl)
  keeps_fit (sections_full enters none full) is rest c s = record { attempt = tt; kept = record { saves = rest.kept.saves; few = rest.kept.few; levels = rest.kept.levels; most = rest.kept.most; held = rest.kept.held; in_levels = rest.kept.in_levels; waited = rest.kept.waited }; unsaved = rest.unsaved; unlogged = rest.unlogged }
  keeps_fit (section_opened {next = next} {s = new} enters none above) is rest c s =
      let levels_none = is_zero th.levels (sym rest.kept.levels ∙ none) in
      let shut = not_open th.pinned th.levels levels_none in
      let saved_none = rest.unsaved shut in
      let y = record (with_level (record th { section = new; levels = 0; pinned = 0; attempt = Fixed (take_for th next new 1) })) { counted = c; silents = s } in
      record {
        attempt = subst (λ x. AttemptFits y x (Fixed (take_for th next new 1))) (sym is)
            (entry_fits y next (take_for th next new 1) enters (above, refl, ap (held_word new) (same_entry th y next 1 refl refl)));
        kept = record {
          saves = ap suc rest.kept.saves;
          few = ap_few (length th.saved) (ap length saved_none);
          levels = not_zero new above;
          most = omega arith;
          held = λ no_section. both_ways (nat_eq new 0) no_section (not_zero new above);
          in_levels = rest.kept.in_levels;
          waited = rest.kept.waited;
        };
        unsaved = λ shut. cc;
        unlogged = λ shut. cc;
      }
    where
      not_open : (m n : ℕ) → n ≡ 0 → nat_lt m n ≡ false
      not_open m n none = grind (arith, common_steps, nat_tests)

      ap_few : (n : ℕ) → n ≡ 0 → suc n ≤ 1
      ap_few n none = omega (arith, none)
  keeps_fit (free_inside {next = next} enters free some needs room) is rest c s = goes_entry next (OpenLevel th.section (own_word th)) c s is rest enters (is_above th.section some, refl, refl, same_need (at_attempt (Fixed (OpenLevel th.section (own_word th))) c s) th next refl refl ∙ needs, room)
  keeps_fit (levels_full enters free some needs full) is rest c s = record { attempt = tt; kept = record { saves = rest.kept.saves; few = rest.kept.few; levels = rest.kept.levels; most = rest.kept.most; held = rest.kept.held; in_levels = rest.kept.in_levels; waited = rest.kept.waited }; unsaved = rest.unsaved; unlogged = rest.unlogged }
  keeps_fit (level_opened {next = next} enters above needs room) is rest c s =
      let step = take_for th next th.section (suc th.levels) in
      let y = with_level (record th { attempt = Fixed step }) in
      let z = record y { counted = c; silents = s } in
      let v = record z { log = []; saved = []; marks = [] } in
      forgets y c s
      (subst (λ x. AttemptFits z x (Fixed step)) (sym is) (entry_fits z next step enters (above, refl, ap (held_word th.section) (same_entry th z next (suc th.levels) refl refl))))
      (subst (λ x. AttemptFits v x (Fixed step)) (sym is) (entry_fits v next step enters (above, refl, ap (held_word th.section) (same_entry th v next (suc th.levels) refl refl))))
      (record {
        saves = ap suc rest.kept.saves;
        few = more (length th.saved) th.levels rest.kept.few;
        levels = not_zero th.section above ∙ sym (is_suc th.levels);
        most = not_255 th.levels room rest.kept.most;
        held = rest.kept.held;
        in_levels = rest.kept.in_levels;
        waited = rest.kept.waited;
      })
    where
      more : (m n : ℕ) → m ≤ n → suc m ≤ suc n
      more m n low = omega (arith, low)

      is_suc : (n : ℕ) → nat_eq (suc n) 0 ≡ false
      is_suc n = grind (arith, common_steps, nat_tests)
  keeps_fit (free_more {next = next} enters free some untaken) is rest c s = goes_entry next (take_for th next th.section th.levels) c s is rest enters (is_above th.section some, refl, ap (held_word th.section) (same_entry th (at_attempt (Fixed (take_for th next th.section th.levels)) c s) next th.levels refl refl))
  keeps_fit (monitor_taken {next = next} enters above) is rest c s = record { attempt = tt; kept = record { saves = rest.kept.saves; few = rest.kept.few; levels = rest.kept.levels; most = rest.kept.most; held = λ none. both_ways (nat_eq th.section 0) none (not_zero th.section above); in_levels = (level_some.0, level_some.1, rest.kept.in_levels); waited = rest.kept.waited }; unsaved = rest.unsaved; unlogged = rest.unlogged }
    where
      level_some : (0 < (entry th next th.levels).level) × ((entry th next th.levels).level < 2 ^ 8)
      level_some = entry_level next (some_above th.levels (sym rest.kept.levels ∙ not_zero th.section above))
        where
          entry_level : (next : Next) → 0 < th.levels → (0 < (entry th next th.levels).level) × ((entry th next th.levels).level < 2 ^ 8)
          entry_level (Want (Rewake r)) some = rest.kept.waited
          entry_level next some = (some, rest.kept.most)
  keeps_fit (own_again {next = next} {m = m} enters held own room) is rest c s = goes_entry next (SetDepth (monitor_wanted next) (monitor_word th.section (monitor_depth m + 1) (monitor_level m))) c s is rest enters (refl, (monitor_depth m + 1, monitor_level m, refl))
  keeps_fit (own_full enters held own full) is rest c s = record { attempt = tt; kept = record { saves = rest.kept.saves; few = rest.kept.few; levels = rest.kept.levels; most = rest.kept.most; held = rest.kept.held; in_levels = rest.kept.in_levels; waited = rest.kept.waited }; unsaved = rest.unsaved; unlogged = rest.unlogged }
  keeps_fit (entered_again {next = next} {new = new} enters calm) is rest c s = record { attempt = tt; kept = record { saves = rest.kept.saves; few = rest.kept.few; levels = rest.kept.levels; most = rest.kept.most; held = λ none. ap (with_depth_of (monitor_wanted next) (monitor_depth new)) (rest.kept.held none); in_levels = levels_with (monitor_wanted next) (monitor_depth new) th.held rest.kept.in_levels; waited = rest.kept.waited }; unsaved = rest.unsaved; unlogged = rest.unlogged }
  keeps_fit (held_by_other {next = next} {m = m} enters held other) is rest c s = goes_to next (Meets (monitor_section m) (monitor_level m)) c s is rest (meets_holder (at_attempt (Meets (monitor_section m) (monitor_level m)) c s) next (monitor_section m) (monitor_level m) enters other)
  keeps_fit (holder_lower {next = next} {s = holder} {level = level} {w = w} at enters other lower) is rest c s = goes_entry next (Revoke holder w level) c s is rest enters (other, lower)
  keeps_fit (holder_busy at enters other busy) is rest c s = record { attempt = tt; kept = record { saves = rest.kept.saves; few = rest.kept.few; levels = rest.kept.levels; most = rest.kept.most; held = rest.kept.held; in_levels = rest.kept.in_levels; waited = rest.kept.waited }; unsaved = rest.unsaved; unlogged = rest.unlogged }
  keeps_fit (holder_revoked enters other lower) is rest c s = record { attempt = tt; kept = record { saves = rest.kept.saves; few = rest.kept.few; levels = rest.kept.levels; most = rest.kept.most; held = rest.kept.held; in_levels = rest.kept.in_levels; waited = rest.kept.waited }; unsaved = rest.unsaved; unlogged = rest.unlogged }
  keeps_fit (is_notified notified) is rest c s = goes_to _ _ c s is rest refl
  keeps_fit (not_notified waits) is rest c s = record { attempt = tt; kept = record { saves = rest.kept.saves; few = rest.kept.few; levels = rest.kept.levels; most = rest.kept.most; held = rest.kept.held; in_levels = rest.kept.in_levels; waited = rest.kept.waited }; unsaved = rest.unsaved; unlogged = rest.unlogged }
  keeps_fit (not_owner needs other) is rest c s = record { attempt = tt; kept = record { saves = rest.kept.saves; few = rest.kept.few; levels = rest.kept.levels; most = rest.kept.most; held = rest.kept.held; in_levels = rest.kept.in_levels; waited = rest.kept.waited }; unsaved = rest.unsaved; unlogged = rest.unlogged }
  keeps_fit (exits_inner {m = m} own deep) is rest c s = goes_to _ _ c s is rest (refl, (_, _, refl))
  keeps_fit (exits_last {m = m} own last only) is rest c s = goes_to _ _ c s is rest ((and_parts (nat_lt 0 th.section) _ own).0, refl, only, refl)
  keeps_fit (exits_level {m = m} own last some inner) is rest c s = goes_to _ _ c s is rest ((and_parts (nat_lt 0 th.section) _ own).0, refl, refl, some, refl)
  keeps_fit (exits_one {r = r} own last some outer) is rest c s =
      goes_to (Want (Exit r)) (to_pin th (Want (Exit r))) c s is rest
      (pin_fits (Want (Exit r)) (at_attempt (to_pin th (Want (Exit r))) c s) (λ unpinned. (unpinned, refl, refl, refl)) (λ shut. refl))
  keeps_fit (left_once {r = r} {new = new} calm) is rest c s = record { attempt = tt; kept = record { saves = rest.kept.saves; few = rest.kept.few; levels = rest.kept.levels; most = rest.kept.most; held = λ none. ap (with_depth_of r (monitor_depth new)) (rest.kept.held none); in_levels = levels_with r (monitor_depth new) th.held rest.kept.in_levels; waited = rest.kept.waited }; unsaved = rest.unsaved; unlogged = rest.unlogged }
  keeps_fit (section_committed above only) is rest c s = goes_to _ _ c s is rest refl
  keeps_fit (levels_closed {r = r} {depth = depth} own) is rest c s =
      let some = subst (λ n. 0 < n) (sym own.4) (highest_some (without r th.held) (levels_without r th.held rest.kept.in_levels) own.3) in
      let y = with_levels (record th { attempt = Fixed (Release r) }) depth in
      let z = record y { counted = c; silents = s } in
      forgets y c s (subst (λ x. AttemptFits z x (Fixed (Release r))) (sym is) refl)
      (subst (λ x. AttemptFits (record z { log = []; saved = []; marks = [] }) x (Fixed (Release r))) (sym is) refl) (record {
        saves = fewer depth th.marks (inside th depth) rest.kept.saves;
        few = few_left depth rest.kept.few;
        levels = not_zero th.section own.0 ∙ sym (some_not depth some);
        most = subst (λ n. n < 2 ^ 8) (sym own.4) (highest_low (without r th.held) (levels_without r th.held rest.kept.in_levels));
        held = rest.kept.held;
        in_levels = rest.kept.in_levels;
        waited = rest.kept.waited;
      })
    where
      some_not : (n : ℕ) → 0 < n → nat_eq n 0 ≡ false
      some_not n some = grind (arith, common_steps, nat_tests)
  keeps_fit (monitor_left {r = r} at more) is rest c s = record { attempt = tt; kept = record { saves = rest.kept.saves; few = rest.kept.few; levels = rest.kept.levels; most = rest.kept.most; held = λ none. sym more ∙ ap (without r) (rest.kept.held none); in_levels = subst (λ xs. InLevels xs) more (levels_without r th.held rest.kept.in_levels); waited = rest.kept.waited }; unsaved = rest.unsaved; unlogged = rest.unlogged }
  keeps_fit (section_left at none) is rest c s =
      forgets (with_levels (record th { local = code.reply th.local Reply.Done; held = []; section = 0; attempt = Begin }) 0) c s tt tt (record {
        saves = fewer 0 th.marks (inside th 0) rest.kept.saves;
        few = few_left 0 rest.kept.few;
        levels = refl;
        most = omega arith;
        held = λ _. refl;
        in_levels = tt;
        waited = rest.kept.waited;
      })
  keeps_fit (wait_begins {r = r} {m = m} own) is rest c s =
      goes_to (Want (Wait r)) (to_pin th (Want (Wait r))) c s is rest
      (pin_fits (Want (Wait r)) (at_attempt (to_pin th (Want (Wait r))) c s) (λ unpinned. (unpinned, refl, refl, refl)) (λ shut. (shut, refl, refl)))
  keeps_fit (wait_noted shut) is rest c s = goes_to _ _ c s is rest (shut, refl)
  keeps_fit (wait_made {r = r} shut at) is rest c s = record { attempt = tt; kept = record { saves = rest.kept.saves; few = rest.kept.few; levels = rest.kept.levels; most = rest.kept.most; held = λ none. ap (without r) (rest.kept.held none); in_levels = levels_without r th.held rest.kept.in_levels; waited = level_of_held r th.held rest.kept.in_levels }; unsaved = rest.unsaved; unlogged = rest.unlogged }
  keeps_fit (notify_begins {r = r} own) is rest c s =
      goes_to (Want (Op.Notify r)) (to_pin th (Want (Op.Notify r))) c s is rest
      (pin_fits (Want (Op.Notify r)) (at_attempt (to_pin th (Want (Op.Notify r))) c s) (λ unpinned. (unpinned, refl, refl, refl)) (λ shut. (shut, omega arith, omega arith)))
  keeps_fit (waiter_found shut above below waits) is rest c s = goes_to _ _ c s is rest (shut, above, below, waits)
  keeps_fit (waiter_passed {n = n} shut above other more) is rest c s = goes_to _ _ c s is rest (shut, omega arith, one_more n more)
  keeps_fit (none_waits shut above below other last) is rest c s = record { attempt = tt; kept = record { saves = rest.kept.saves; few = rest.kept.few; levels = rest.kept.levels; most = rest.kept.most; held = rest.kept.held; in_levels = rest.kept.in_levels; waited = rest.kept.waited }; unsaved = rest.unsaved; unlogged = rest.unlogged }
  keeps_fit (waiter_woken shut above below waits) is rest c s = record { attempt = tt; kept = record { saves = rest.kept.saves; few = rest.kept.few; levels = rest.kept.levels; most = rest.kept.most; held = rest.kept.held; in_levels = rest.kept.in_levels; waited = rest.kept.waited }; unsaved = rest.unsaved; unlogged = rest.unlogged }
  keeps_fit (line_printed shut) is rest c s = record { attempt = tt; kept = record { saves = rest.kept.saves; few = rest.kept.few; levels = rest.kept.levels; most = rest.kept.most; held = rest.kept.held; in_levels = rest.kept.in_levels; waited = rest.kept.waited }; unsaved = rest.unsaved; unlogged = rest.unlogged }
  keeps_fit (start_begins {r = r} {p = p} none) is rest c s =
      goes_to (Want (Start r p)) (to_pin th (Want (Start r p))) c s is rest
      (pin_fits (Want (Start r p)) (at_attempt (to_pin th (Want (Start r p))) c s) (λ unpinned. (unpinned, refl, refl, refl)) (λ shut. shut))
  keeps_fit (was_started some) is rest c s = record { attempt = tt; kept = record { saves = rest.kept.saves; few = rest.kept.few; levels = rest.kept.levels; most = rest.kept.most; held = rest.kept.held; in_levels = rest.kept.in_levels; waited = rest.kept.waited }; unsaved = rest.unsaved; unlogged = rest.unlogged }
  keeps_fit (thread_numbered {n = n} shut room) is rest c s = goes_to _ _ c s is rest (shut, refl, omega arith, one_more n room)
  keeps_fit (threads_full shut full) is rest c s = record { attempt = tt; kept = record { saves = rest.kept.saves; few = rest.kept.few; levels = rest.kept.levels; most = rest.kept.most; held = rest.kept.held; in_levels = rest.kept.in_levels; waited = rest.kept.waited }; unsaved = rest.unsaved; unlogged = rest.unlogged }
  keeps_fit (is_started shut above below) is rest c s = goes_to _ _ c s is rest (shut, refl, refl, above, below)
  keeps_fit (handed_out shut above below) is rest c s = record { attempt = tt; kept = record { saves = rest.kept.saves; few = rest.kept.few; levels = rest.kept.levels; most = rest.kept.most; held = rest.kept.held; in_levels = rest.kept.in_levels; waited = rest.kept.waited }; unsaved = rest.unsaved; unlogged = rest.unlogged }
  keeps_fit (never_started none) is rest c s = record { attempt = tt; kept = record { saves = rest.kept.saves; few = rest.kept.few; levels = rest.kept.levels; most = rest.kept.most; held = rest.kept.held; in_levels = rest.kept.in_levels; waited = rest.kept.waited }; unsaved = rest.unsaved; unlogged = rest.unlogged }
  keeps_fit (join_begins some) is rest c s = goes_to _ _ c s is rest tt
  keeps_fit (is_alive alive) is rest c s = record { attempt = tt; kept = record { saves = rest.kept.saves; few = rest.kept.few; levels = rest.kept.levels; most = rest.kept.most; held = rest.kept.held; in_levels = rest.kept.in_levels; waited = rest.kept.waited }; unsaved = rest.unsaved; unlogged = rest.unlogged }
  keeps_fit (has_ended over) is rest c s = record { attempt = tt; kept = record { saves = rest.kept.saves; few = rest.kept.few; levels = rest.kept.levels; most = rest.kept.most; held = rest.kept.held; in_levels = rest.kept.in_levels; waited = rest.kept.waited }; unsaved = rest.unsaved; unlogged = rest.unlogged }
  keeps_fit (thread_ended shut) is rest c s = record { attempt = tt; kept = record { saves = rest.kept.saves; few = rest.kept.few; levels = rest.kept.levels; most = rest.kept.most; held = rest.kept.held; in_levels = rest.kept.in_levels; waited = rest.kept.waited }; unsaved = rest.unsaved; unlogged = rest.unlogged }
  keeps_fit (is_ready ready) is rest c s = record { attempt = tt; kept = record { saves = rest.kept.saves; few = rest.kept.few; levels = rest.kept.levels; most = rest.kept.most; held = rest.kept.held; in_levels = rest.kept.in_levels; waited = rest.kept.waited }; unsaved = rest.unsaved; unlogged = rest.unlogged }
  keeps_fit (is_bad bad) is rest c s = record { attempt = tt; kept = record { saves = rest.kept.saves; few = rest.kept.few; levels = rest.kept.levels; most = rest.kept.most; held = rest.kept.held; in_levels = rest.kept.in_levels; waited = rest.kept.waited }; unsaved = rest.unsaved; unlogged = rest.unlogged }
  keeps_fit (is_unready {c = class} fresh) is rest c s =
      goes_to (Want (Init class)) (to_pin th (Want (Init class))) c s is rest
      (pin_fits (Want (Init class)) (at_attempt (to_pin th (Want (Init class))) c s) (λ unpinned. (unpinned, refl, refl, refl)) (λ shut. (shut, refl, refl)))
  keeps_fit (is_claimed unready good begun own) is rest c s = record { attempt = tt; kept = record { saves = rest.kept.saves; few = rest.kept.few; levels = rest.kept.levels; most = rest.kept.most; held = rest.kept.held; in_levels = rest.kept.in_levels; waited = rest.kept.waited }; unsaved = rest.unsaved; unlogged = rest.unlogged }
  keeps_fit (is_others unready good begun other) is rest c s = record { attempt = tt; kept = record { saves = rest.kept.saves; few = rest.kept.few; levels = rest.kept.levels; most = rest.kept.most; held = rest.kept.held; in_levels = rest.kept.in_levels; waited = rest.kept.waited }; unsaved = rest.unsaved; unlogged = rest.unlogged }
  keeps_fit (class_claimed shut) is rest c s = record { attempt = tt; kept = record { saves = rest.kept.saves; few = rest.kept.few; levels = rest.kept.levels; most = rest.kept.most; held = rest.kept.held; in_levels = rest.kept.in_levels; waited = rest.kept.waited }; unsaved = rest.unsaved; unlogged = rest.unlogged }
  keeps_fit (class_settled shut) is rest c s = record { attempt = tt; kept = record { saves = rest.kept.saves; few = rest.kept.few; levels = rest.kept.levels; most = rest.kept.most; held = rest.kept.held; in_levels = rest.kept.in_levels; waited = rest.kept.waited }; unsaved = rest.unsaved; unlogged = rest.unlogged }

-- what is counted changes two counts alone
counted_is : {S : Type 0} (told : Told) (th : ThreadState S) → (c s : ℕ) × (counted_for told th ≡ record th { counted = c; silents = s })
counted_is (advanced None) th = (_, _, refl)
counted_is (advanced (Some reply)) th = (_, _, refl)
counted_is born th = (_, _, refl)
counted_is other th = (th.counted, th.silents, refl)

pub answers_keep : {S : Type 0} (code : Code S) → AnswersKeepFit code
answers_keep code b th step answer fit makes can =
    let change = change_of code b th (code.next th.local) step answer in
    let counts = counted_is (told code b th step answer) (changed code th change) in
    subst (IsFit code) (sym counts.2) (keeps_fit code b th (answers_are_rows code b th step answer fit.attempt makes can) refl (record { kept = fit.kept; unsaved = fit.unsaved; unlogged = fit.unlogged }) counts.0 counts.1)
