-- The marks of a thread, kept by each row of the automaton.
use Rattle.std.proofs.Common.{◌≡◌, ℕ, zero, suc, ◌+◌, ◌-◌, ◌<◌, ◌≤◌, Bool, true, false, List, [], ◌∷◌, length, take, drop, nat_eq, refl, sym, ◌∙◌, ap, subst, arith}
use Rattle.std.specs.Prelude.{nat_lt}
use Rattle.std.proofs.lemmas.Grind.{common_steps}
use Rattle.std.proofs.lemmas.Bool.Decides.{nat_tests}
use Rattle.op_core.specs.declared.Op.TheVariants.{Exit, Wait, Start, Init}
use Rattle.op_core.specs.declared.Op.{Op}
use Rattle.op_core.specs.declared.Next.{Next}
use Rattle.op_core.specs.declared.Next.TheVariants.{Want}
use Rattle.op_core.specs.declared.Reply.{Reply}
use Rattle.op_core.specs.ThreadCode.{Code}
use Rattle.heap_words.specs.declared.areas.Area.{Area}
use Rattle.heap_words.specs.declared.areas.Area.TheVariants.{Section}
use Rattle.section_state.specs.SectionWord.{pinned_of, revoke_of}
use Rattle.write_log.specs.declared.Noted.{Noted}
use Rattle.step_port.specs.declared.answer.StepAnswer.{StepAnswer}
use Rattle.step_port.specs.declared.answer.StepAnswer.TheVariants.{Found, Lost}
use Rattle.step_port.specs.declared.step.Step.{Step}
use Rattle.step_port.specs.declared.step.Step.TheVariants.{RestoreWord, SetDepth, Release, MarkUndone, LoadSection, CloseLevel}
use Rattle.step_port.specs.Steps.{place_of, effect_of}
use Rattle.step_port.specs.Words.{CanAnswer}
use Rattle.thread_automaton.specs.declared.Bounds.{Bounds}
use Rattle.thread_automaton.specs.declared.Held.{Held}
use Rattle.thread_automaton.specs.declared.Move.{Move}
use Rattle.thread_automaton.specs.declared.Move.TheVariants.{Make}
use Rattle.thread_automaton.specs.declared.Attempt.{Attempt}
use Rattle.thread_automaton.specs.declared.Attempt.TheVariants.{Begin, Look, Checked, Fixed, Undoing}
use Rattle.thread_automaton.specs.ThreadState.{ThreadState, Mark, no_mark, nth_or, is_open, is_own_section, mark_of, noted_since, from_level}
use Rattle.thread_automaton.specs.NextMove.{own_pin, word_place, deepened_since, undo_step, move_of}
use Rattle.thread_automaton.specs.Changes.{Change, goes, has_to_wait, replies, knows, takes, deepens, drops, waits, prints, ends, answered, forgotten, with_level, with_levels, without_level, stood_at, section_at, changed}
use Rattle.thread_automaton.specs.Checks.{behind_pin, to_pin}
use Rattle.thread_automaton.specs.Monitors.{take_for}
use Rattle.thread_automaton.specs.Answers.{lost_on}
use Rattle.automaton_rows.specs.Fits.{IsFit}
use Rattle.automaton_rows.specs.Rows.{IsNoUndoing, Row, is_lost, own_revoked, own_stands, pins, restores, sets_monitor_back, gives_monitor_back, is_undone, word_written, section_opened, level_opened, entered_again, exits_one, left_once, levels_closed, monitor_left, section_left, wait_begins, wait_made, notify_begins, start_begins, is_unready}
use Rattle.automaton_rows.proofs.RowLemmas.{by_if}
use Rattle.section_laws.specs.Marks.{MarksFall, counting_marks}

-- ---- lists of marks

pub falls_more : (m n : ℕ) (marks : List Mark) → m ≤ n → MarksFall m marks → MarksFall n marks
falls_more m n [] low falls = tt
falls_more m n (k ∷ marks) low falls = (omega (arith, low, falls.0), falls.1, falls.2)

pub falls_drop : (j n : ℕ) (marks : List Mark) → MarksFall n marks → MarksFall n (drop j marks)
falls_drop zero n marks falls = falls
falls_drop (suc j) n [] falls = tt
falls_drop (suc j) n (m ∷ marks) falls = falls_more m.noted n (drop j marks) falls.0 (falls_drop j m.noted marks falls.2)

-- one more is left out
falls_suc : (j n : ℕ) (marks : List Mark) → MarksFall n (drop j marks) → MarksFall n (drop (suc j) marks)
falls_suc zero n [] falls = tt
falls_suc zero n (m ∷ marks) falls = falls_more m.noted n marks falls.0 falls.2
falls_suc (suc j) n [] falls = tt
falls_suc (suc j) n (m ∷ marks) falls = falls_suc j n marks falls

-- where the newest that counts was made with fewer words logged
falls_less : (j n : ℕ) (marks : List Mark) → (nth_or no_mark j marks).noted < n → MarksFall n (drop j marks) → MarksFall (n - 1) (drop j marks)
falls_less zero n [] low falls = tt
falls_less zero n (m ∷ marks) low falls = (less m.noted n low, falls.1, falls.2)
  where
    less : (a n : ℕ) → a < n → a ≤ n - 1
    less a n low = omega (arith, low)
falls_less (suc j) n [] low falls = tt
falls_less (suc j) n (m ∷ marks) low falls = falls_less j n marks low falls

pub length_drop : (j : ℕ) (marks : List Mark) → length (drop j marks) ≡ length marks - j
length_drop zero marks = whole (length marks)
  where
    whole : (n : ℕ) → n ≡ n - 0
    whole n = omega arith
length_drop (suc j) [] = none j
  where
    none : (j : ℕ) → 0 ≡ 0 - suc j
    none j = omega arith
length_drop (suc j) (m ∷ marks) = length_drop j marks ∙ shift (length marks) j
  where
    shift : (n m : ℕ) → n - m ≡ suc n - suc m
    shift n m = omega arith

-- a word is logged since then
some_since : (n : ℕ) (log : List Noted) (x : Noted) (rest : List Noted) → noted_since n log ≡ x ∷ rest → n < length log
some_since n log x rest is = by_size (length log - n) refl is
  where
    above : (l n d : ℕ) → l - n ≡ suc d → n < l
    above l n d is = omega (arith, is)

    by_size : (d : ℕ) → length log - n ≡ d → take d log ≡ x ∷ rest → n < length log
    by_size zero size is = cc
    by_size (suc d) size is = above (length log) n d size

-- a word is put back where one was logged since
restored_more : (n s w p o : ℕ) (log : List Noted) (deepened taken : List Held) → undo_step s w (noted_since n log) deepened taken ≡ RestoreWord p o → n < length log
restored_more n s w p o log deepened taken is = by_noted (noted_since n log) refl deepened taken is
  where
    by_noted : (since : List Noted) → noted_since n log ≡ since → (deepened taken : List Held) → undo_step s w since deepened taken ≡ RestoreWord p o → n < length log
    by_noted (x ∷ since) noted deepened taken is = some_since n log x since noted
    by_noted [] noted (h ∷ deepened) taken is = cc
    by_noted [] noted [] (h ∷ taken) is = cc
    by_noted [] noted [] [] is = cc

length_less : (log : List Noted) → length (drop 1 log) ≡ length log - 1
length_less [] = refl
length_less (x ∷ log) = one (length log)
  where
    one : (n : ℕ) → n ≡ suc n - 1
    one n = omega arith

-- ---- steps of undoing

abbrev pub NoUndo : Step → Type 0
NoUndo (RestoreWord at old) = ⊥
NoUndo (SetDepth r new) = ⊥
NoUndo (Release r) = ⊥
NoUndo (MarkUndone s w) = ⊥
NoUndo step = Unit {0}

abbrev pub NoUndoIn : Move → Type 0
NoUndoIn (Make step) = NoUndo step
NoUndoIn move = Unit {0}

pub undo_is : (s w : ℕ) (log : List Noted) (deepened taken : List Held) → NoUndo (undo_step s w log deepened taken) → ⊥
undo_is s w (x ∷ log) deepened taken none = none
undo_is s w [] (h ∷ deepened) taken none = none
undo_is s w [] [] (h ∷ taken) none = none
undo_is s w [] [] [] none = none

pub lost_undoes_none : (step : Step) (v : ℕ) → CanAnswer (effect_of step) (Lost v) → NoUndo step
lost_undoes_none (RestoreWord at old) v can = absurd can
lost_undoes_none (SetDepth r new) v can = absurd can
lost_undoes_none (Release r) v can = absurd can
lost_undoes_none (MarkUndone s w) v can = absurd can
lost_undoes_none step v can = tt

abbrev pub IsUndoing : Attempt → Type 0
IsUndoing (Undoing w) = Unit {0}
IsUndoing attempt = ⊥

-- where nothing is being undone, all marks count
pub all_count : (g : Attempt) (levels : ℕ) (marks : List Mark) → (IsUndoing g → ⊥) → counting_marks g levels marks ≡ marks
all_count (Undoing w) levels marks other = absurd (other tt)
all_count g levels marks other = refl

pub no_undoing : (g : Attempt) → IsNoUndoing g → IsUndoing g → ⊥
no_undoing (Undoing w) none is = none
no_undoing g none is = is

is_less : (m n : ℕ) → nat_lt m n ≡ true → m < n
is_less m n is = grind (arith, common_steps, nat_tests)

not_less : (m n : ℕ) → nat_lt m n ≡ false → n ≤ m
not_less m n is = grind (arith, common_steps, nat_tests)

same_size : (n : ℕ) → n ≤ n
same_size n = omega arith

-- ---- one thread

pub record Marked {S : Type 0} (th : ThreadState S) : Type 0 where
  pub deep : th.pinned < th.levels → th.levels ≤ th.pinned + length th.marks
  pub fall : MarksFall (length th.log) (counting_marks th.attempt th.levels th.marks)

module _ {S : Type 0} (code : Code S) (b : Bounds) (th : ThreadState S) (marked : Marked th) (fits : IsFit code th) where
  abbrev Keeps : Change → Type 0
  Keeps change = Marked (changed code th change)

  undoes_none : (next : Next) (step : Step) (g : Attempt) → move_of code th next g ≡ Make step → NoUndo step → IsUndoing g → ⊥
  undoes_none next step (Undoing w) makes none is = undo_is th.section w (noted_since (mark_of th (revoke_of w)).noted th.log) (deepened_since (mark_of th (revoke_of w)) th.held)
      (from_level (revoke_of w) th.held) (subst NoUndoIn (sym makes) none)
  undoes_none next step g makes none is = absurd is

  -- where no step of undoing is made, all marks count
  whole : (IsUndoing th.attempt → ⊥) → MarksFall (length th.log) th.marks
  whole other = subst (MarksFall (length th.log)) (all_count th.attempt th.levels th.marks other) marked.fall

  -- changes that leave levels, marks and log
  abbrev IsPlain : Change → Type 0
  IsPlain (goes g) = IsUndoing g → ⊥
  IsPlain (has_to_wait why) = ⊥ → ⊥
  IsPlain (replies reply) = ⊥ → ⊥
  IsPlain (knows s depth) = ⊥ → ⊥
  IsPlain (takes h) = ⊥ → ⊥
  IsPlain (deepens r depth) = ⊥ → ⊥
  IsPlain (drops held) = ⊥ → ⊥
  IsPlain (waits r) = ⊥ → ⊥
  IsPlain (prints ticket line) = ⊥ → ⊥
  IsPlain ends = ⊥ → ⊥
  IsPlain change = ⊥

  plainly : (change : Change) → IsPlain change → MarksFall (length th.log) th.marks → Keeps change
  plainly (goes g) plain falls = record { deep = marked.deep; fall = subst (MarksFall (length th.log)) (sym (all_count g th.levels th.marks plain)) falls }
  plainly (has_to_wait why) plain falls = record { deep = marked.deep; fall = falls }
  plainly (replies reply) plain falls = record { deep = marked.deep; fall = falls }
  plainly (knows s depth) plain falls = record { deep = marked.deep; fall = falls }
  plainly (takes h) plain falls = record { deep = marked.deep; fall = falls }
  plainly (deepens r depth) plain falls = record { deep = marked.deep; fall = falls }
  plainly (drops held) plain falls = record { deep = marked.deep; fall = falls }
  plainly (waits r) plain falls = record { deep = marked.deep; fall = falls }
  plainly (prints ticket line) plain falls = record { deep = marked.deep; fall = falls }
  plainly ends plain falls = record { deep = marked.deep; fall = falls }
  plainly change plain falls = absurd plain

  no_marks : (g : Attempt) (levels n : ℕ) → MarksFall n (counting_marks g levels [])
  no_marks (Undoing w) levels n = falls_drop (levels - revoke_of w) n [] tt
  no_marks g levels n = tt

  forgets : (y : ThreadState S) → (nat_lt y.pinned y.levels ≡ true → Marked y) → Marked (forgotten y)
  forgets y marked_y = by_if (λ z. Marked z) (is_open y) y (record y { log = []; saved = []; marks = [] }) (λ yes. marked_y yes)
      (λ no. record { deep = λ unpinned. absurd (closed y.pinned y.levels no unpinned); fall = no_marks y.attempt y.levels 0 })
    where
      closed : (m n : ℕ) → nat_lt m n ≡ false → m < n → ⊥
      closed m n is less = grind (arith, common_steps, nat_tests)

  -- a thread with a level open has a section
  some_section : 0 < th.levels → 0 < th.section
  some_section above = by_test (nat_eq th.section 0) refl
    where
      no : (n : ℕ) → 0 < n → nat_eq n 0 ≡ true → ⊥
      no n above none = grind (arith, common_steps, nat_tests)

      some : (n : ℕ) → nat_eq n 0 ≡ false → 0 < n
      some n is = grind (arith, common_steps, nat_tests)

      by_test : (t : Bool) → nat_eq th.section 0 ≡ t → 0 < th.section
      by_test true is = absurd (no th.levels above (sym fits.kept.levels ∙ is))
      by_test false is = some th.section is

  behind_undoes_none : (next : Next) → IsUndoing (behind_pin th next) → ⊥
  behind_undoes_none (Want (Exit r)) is = is
  behind_undoes_none (Want (Wait r)) is = is
  behind_undoes_none (Want (Op.Notify r)) is = is
  behind_undoes_none (Want (Start r p)) is = is
  behind_undoes_none (Want (Init c)) is = is
  behind_undoes_none next is = is

  to_pin_keeps : (next : Next) → MarksFall (length th.log) th.marks → Keeps (goes (to_pin th next))
  to_pin_keeps next falls = by_if (λ g. Keeps (goes g)) (is_open th) (Fixed (own_pin th)) (behind_pin th next) (λ yes. plainly (goes (Fixed (own_pin th))) (λ h. h) falls)
      (λ no. plainly (goes (behind_pin th next)) (behind_undoes_none next) falls)

  -- where no marks are left, nothing is logged
  oldest : th.marks ≡ [] → length th.log ≡ 0
  oldest none = by_test (is_open th) refl
    where
      no : (p l n : ℕ) → p < l → l ≤ p + n → n ≡ 0 → ⊥
      no p l n open_so deep none = omega (arith, open_so, deep, none)

      by_test : (t : Bool) → is_open th ≡ t → length th.log ≡ 0
      by_test true is = let less = is_less th.pinned th.levels is in absurd (no th.pinned th.levels (length th.marks) less (marked.deep less) (ap length none))
      by_test false is = ap length (fits.unlogged is)

  -- another level is open
  with_level_marked : (y : ThreadState S) → y.levels ≡ th.levels → y.log ≡ th.log → y.marks ≡ th.marks → MarksFall (length th.log) th.marks → (IsUndoing y.attempt → ⊥)
      → (y.pinned ≡ th.pinned) → Marked (with_level y)
  with_level_marked y levels log marks falls other pinned = record {
    deep = λ unpinned. deep_so (length y.marks) (ap length marks);
    fall = subst (MarksFall (length y.log)) (sym (all_count y.attempt (suc y.levels) (record { silents = y.silents; noted = length y.log; held = y.held } ∷ y.marks) other))
        (same_size (length y.log), (λ none. ap length log ∙ oldest (sym marks ∙ none)), subst (λ l. MarksFall (length y.log) l) (sym marks) (subst (λ l. MarksFall (length l) th.marks) (sym log) falls));
  }
    where
      sum : (p l n m : ℕ) → (p < l → l ≤ p + n) → m ≡ n → suc l ≤ p + suc m
      sum p l n m deep is = by_order (nat_lt p l) refl
        where
          by_order : (t : Bool) → nat_lt p l ≡ t → suc l ≤ p + suc m
          by_order true less = let so = deep (is_less p l less) in omega (arith, so, is)
          by_order false less = let so = not_less p l less in omega (arith, so)

      deep_so : (n : ℕ) → n ≡ length th.marks → suc y.levels ≤ y.pinned + suc n
      deep_so n is = subst (λ p. suc y.levels ≤ p + suc n) (sym pinned) (subst (λ l. suc l ≤ th.pinned + suc n) (sym levels) (sum th.pinned th.levels (length th.marks) n marked.deep is))

  pub keeps : {next : Next} {step : Step} {a : StepAnswer} {change : Change} → Row code b th next step a change
      → move_of code th next th.attempt ≡ Make step → CanAnswer (effect_of step) a
      → ((w : ℕ) → step ≡ LoadSection th.section → a ≡ Found w → 0 < th.section → th.pinned ≤ pinned_of w)
      → ((s w n : ℕ) → step ≡ CloseLevel s w n → n ≤ th.levels)
      → ((w : ℕ) → th.attempt ≡ Undoing w → (th.pinned < revoke_of w) × (revoke_of w ≤ th.levels)) → Keeps change
  keeps {next = next} (is_lost {step = step} {v = v}) makes can looked closed undoing = by_area (place_of step)
    where
      falls : MarksFall (length th.log) th.marks
      falls = whole (undoes_none next step th.attempt makes (lost_undoes_none step v can))

      by_area : (area : Area) → Keeps (lost_on th area)
      by_area (Section s) = by_if (λ change. Keeps change) (is_own_section th s) (goes Look) (goes Begin) (λ yes. plainly (goes Look) (λ h. h) falls) (λ no. plainly (goes Begin) (λ h. h) falls)
      by_area area = plainly (goes Begin) (λ h. h) falls
  keeps {next = next} (own_revoked {w = w} at looks is_turned) makes can looked closed undoing =
      record { deep = marked.deep; fall = falls_drop (th.levels - revoke_of w) (length th.log) th.marks (whole (undoes_none next _ th.attempt makes tt)) }
  keeps {next = next} (own_stands {w = w} at looks live) makes can looked closed undoing = forgets (record th { pinned = pinned_of w; attempt = Checked }) (λ is. record {
    deep = λ unpinned. deep_so unpinned;
    fall = whole (undoes_none next _ th.attempt makes tt);
  })
    where
      up : (p q l n : ℕ) → p ≤ q → q < l → (p < l → l ≤ p + n) → l ≤ q + n
      up p q l n low less deep = let so = deep (omega (arith, low, less)) in omega (arith, low, so)

      above : (m n : ℕ) → m < n → 0 < n
      above m n less = omega (arith, less)

      deep_so : pinned_of w < th.levels → th.levels ≤ pinned_of w + length th.marks
      deep_so unpinned = up th.pinned (pinned_of w) th.levels (length th.marks) (looked w refl refl (some_section (above (pinned_of w) th.levels unpinned))) unpinned marked.deep
  keeps {next = next} (pins {next = wanted} unpinned lasts) makes can looked closed undoing = forgets (record th { pinned = th.levels; attempt = behind_pin th wanted }) (λ is. absurd (no th.levels is))
    where
      no : (n : ℕ) → nat_lt n n ≡ true → ⊥
      no n is = grind (arith, common_steps, nat_tests)
  keeps (restores {w = w} {at = place} {old = old} at undo does) makes can looked closed undoing = record {
    deep = marked.deep;
    fall = subst (λ n. MarksFall n (counting_marks th.attempt th.levels th.marks)) (sym (length_less th.log)) (subst (λ g. MarksFall (length th.log - 1) (counting_marks g th.levels th.marks)) (sym at)
        (falls_less (th.levels - revoke_of w) (length th.log) th.marks (noted_more does) (subst (λ g. MarksFall (length th.log) (counting_marks g th.levels th.marks)) at marked.fall)));
  }
    where
      noted_more : undo_step th.section w (noted_since (mark_of th (revoke_of w)).noted th.log) (deepened_since (mark_of th (revoke_of w)) th.held) (from_level (revoke_of w) th.held) ≡ RestoreWord place old
          → (nth_or no_mark (th.levels - revoke_of w) th.marks).noted < length th.log
      noted_more is = restored_more (mark_of th (revoke_of w)).noted th.section w place old th.log (deepened_since (mark_of th (revoke_of w)) th.held) (from_level (revoke_of w) th.held) is
  keeps (sets_monitor_back at undo does) makes can looked closed undoing = record { deep = marked.deep; fall = marked.fall }
  keeps (gives_monitor_back at undo does) makes can looked closed undoing = record { deep = marked.deep; fall = marked.fall }
  keeps (is_undone {w = w} at undo does) makes can looked closed undoing = forgets
      (without_level (record (stood_at th (revoke_of w)) { section = section_at (revoke_of w - 1) th.section; attempt = Begin }) (revoke_of w)) (λ is. record {
        deep = λ unpinned. subst (λ n. revoke_of w - 1 ≤ th.pinned + n) (sym (length_drop (suc (th.levels - revoke_of w)) th.marks))
            (undone_deep th.pinned (revoke_of w) th.levels (length th.marks) (undoing w at).1 unpinned marked.deep);
        fall = falls_suc (th.levels - revoke_of w) (length th.log) th.marks (subst (λ g. MarksFall (length th.log) (counting_marks g th.levels th.marks)) at marked.fall);
      })
    where
      undone_deep : (p n l k : ℕ) → n ≤ l → p < n - 1 → (p < l → l ≤ p + k) → n - 1 ≤ p + (k - suc (l - n))
      undone_deep p n l k low less deep = let so = deep (omega (arith, low, less)) in omega (arith, low, less, so)
  keeps {next = next} {step = step} (word_written {r = r} {i = i} {v = v} {old = old} safe) makes can looked closed undoing =
      by_if (λ log. Marked (record (answered code th Reply.Done) { log = log })) (is_open th) (record { at = word_place r i; old = old } ∷ th.log) th.log
      (λ yes. record { deep = marked.deep; fall = falls_more (length th.log) (suc (length th.log)) th.marks (up (length th.log)) falls }) (λ no. record { deep = marked.deep; fall = falls })
    where
      up : (n : ℕ) → n ≤ suc n
      up n = omega arith

      falls : MarksFall (length th.log) th.marks
      falls = whole (undoes_none (Want (Op.Write r i v)) _ th.attempt makes tt)
  keeps {next = next} (section_opened enters none some) makes can looked closed undoing = record {
    deep = λ unpinned. one (length th.marks);
    fall = (same_size (length th.log), oldest, whole (undoes_none next _ th.attempt makes tt));
  }
    where
      one : (n : ℕ) → 1 ≤ 0 + suc n
      one n = omega arith
  keeps {next = next} (level_opened {next = wanted} enters some needs room) makes can looked closed undoing =
      forgets (with_level (record th { attempt = Fixed (take_for th wanted th.section (suc th.levels)) }))
      (λ is. with_level_marked (record th { attempt = Fixed (take_for th wanted th.section (suc th.levels)) }) refl refl refl (whole (undoes_none next _ th.attempt makes tt)) (λ h. h) refl)
  keeps (entered_again enters calm_there) makes can looked closed undoing = plainly (deepens _ _) (λ h. h) (whole (no_undoing th.attempt calm_there))
  keeps {next = next} (exits_one {r = r} own last more outer) makes can looked closed undoing = to_pin_keeps (Want (Exit r)) (whole (undoes_none next _ th.attempt makes tt))
  keeps (left_once calm_there) makes can looked closed undoing = plainly (deepens _ _) (λ h. h) (whole (no_undoing th.attempt calm_there))
  keeps {next = next} (levels_closed {r = r} {depth = depth} closes) makes can looked closed undoing = forgets (with_levels (record th { attempt = Fixed (Release r) }) depth) (λ is. record {
    deep = λ unpinned. subst (λ n. depth ≤ th.pinned + n) (sym (length_drop (th.levels - depth) th.marks)) (closed_deep th.pinned depth th.levels (length th.marks) (closed _ _ depth refl) unpinned marked.deep);
    fall = falls_drop (th.levels - depth) (length th.log) th.marks (whole (undoes_none next _ th.attempt makes tt));
  })
    where
      closed_deep : (p n l k : ℕ) → n ≤ l → p < n → (p < l → l ≤ p + k) → n ≤ p + (k - (l - n))
      closed_deep p n l k low less deep = let so = deep (omega (arith, low, less)) in omega (arith, low, less, so)
  keeps (monitor_left at more) makes can looked closed undoing = plainly (drops _) (λ h. h) (whole (subst (λ g. IsUndoing g → ⊥) (sym at) (λ h. h)))
  keeps (section_left at none) makes can looked closed undoing = forgets (with_levels (record (answered code th Reply.Done) { held = []; section = 0 }) 0) (λ is. absurd (no th.pinned is))
    where
      no : (n : ℕ) → nat_lt n 0 ≡ true → ⊥
      no n is = grind (arith, common_steps, nat_tests)
  keeps {next = next} (wait_begins {r = r} own) makes can looked closed undoing = to_pin_keeps (Want (Wait r)) (whole (undoes_none next _ th.attempt makes tt))
  keeps (wait_made shut at) makes can looked closed undoing = plainly (waits _) (λ h. h) (whole (subst (λ g. IsUndoing g → ⊥) (sym at) (λ h. h)))
  keeps {next = next} (notify_begins {r = r} own) makes can looked closed undoing = to_pin_keeps (Want (Op.Notify r)) (whole (undoes_none next _ th.attempt makes tt))
  keeps {next = next} (start_begins {r = r} {p = p} none) makes can looked closed undoing = to_pin_keeps (Want (Start r p)) (whole (undoes_none next _ th.attempt makes tt))
  keeps {next = next} (is_unready {c = class} fresh) makes can looked closed undoing = to_pin_keeps (Want (Init class)) (whole (undoes_none next _ th.attempt makes tt))
  keeps {next = next} {step = step} {change = change} row makes can looked closed undoing = plainly change (λ h. h) (whole (undoes_none next step th.attempt makes tt))
