-- The numbers of threads along a run: each thread that is handed out has a number of its own.
use Rattle.std.proofs.Common.{◌≡◌, ◌≢◌, ◌⊎◌, inl, inr, ℕ, zero, suc, ◌+◌, ◌-◌, ◌<◌, ◌≤◌, ◌&&◌, Bool, true, false, true≢false, None, Some, List, [], ◌∷◌, refl, sym, ◌∙◌, ap, subst, arith}
use Rattle.std.specs.Prelude.{Contains, nat_le}
use Rattle.op_core.specs.declared.Op.{Op}
use Rattle.op_core.specs.declared.Op.TheVariants.{Exit, Wait, Print, Start, Init, InitDone, End}
use Rattle.op_core.specs.declared.Next.{Next}
use Rattle.op_core.specs.declared.Next.TheVariants.{Silent, Want, Ended}
use Rattle.op_core.specs.declared.Reply.{Reply}
use Rattle.op_core.specs.ThreadCode.{Code, leaves_any}
use Rattle.op_core.proofs.PointwiseLemmas.{same_or_other}
use Rattle.heap_words.specs.declared.areas.Area.{Area}
use Rattle.heap_words.specs.declared.areas.Area.TheVariants.{Control, Section}
use Rattle.section_state.specs.SectionWord.{pinned_of, revoke_of}
use Rattle.write_log.specs.declared.Noted.{Noted}
use Rattle.step_port.specs.declared.answer.StepAnswer.{StepAnswer}
use Rattle.step_port.specs.declared.answer.StepAnswer.TheVariants.{Found, Lost}
use Rattle.step_port.specs.declared.step.Step.{Step}
use Rattle.step_port.specs.declared.step.Step.TheVariants.{Release, DrawThread, StartThread, LoadThread, Split}
use Rattle.step_port.specs.Steps.{place_of, effect_of}
use Rattle.step_port.specs.Words.{Words, CanAnswer, answer_of, words_after}
use Rattle.thread_automaton.specs.declared.Bounds.{Bounds}
use Rattle.thread_automaton.specs.declared.Move.{Move}
use Rattle.thread_automaton.specs.declared.Move.TheVariants.{Quiet, Make}
use Rattle.thread_automaton.specs.declared.Attempt.{Attempt}
use Rattle.thread_automaton.specs.declared.Attempt.TheVariants.{Begin, Look, Checked, Fixed, Meets, Undoing, Full}
use Rattle.thread_automaton.specs.declared.Held.{Held}
use Rattle.thread_automaton.specs.ThreadState.{ThreadState, is_open, is_own_section, mark_of, noted_since, from_level}
use Rattle.thread_automaton.specs.NextMove.{own_pin, pinned_then, deepened_since, undo_step, first_step, silent_move, move_of, next_move}
use Rattle.thread_automaton.specs.Changes.{Change, answered, forgotten, with_level, with_levels, without_level, stood_at, section_at, changed}
use Rattle.thread_automaton.specs.Checks.{behind_pin, to_pin}
use Rattle.thread_automaton.specs.Monitors.{take_for}
use Rattle.thread_automaton.specs.Answers.{lost_on, change_of}
use Rattle.thread_automaton.specs.Told.{Told, advanced, born, told, counted_for, after_answer}
use Rattle.automaton_rows.specs.Fits.{AttemptFits}
use Rattle.automaton_rows.specs.Rows.{Row, is_lost, own_stands, handed_out, pins, restores, sets_monitor_back, gives_monitor_back, is_undone, level_opened, levels_closed, section_left, exits_one, wait_begins, notify_begins, start_begins, thread_numbered, is_started, is_unready}
use Rattle.automaton_rows.proofs.RowLemmas.{answers_are_rows, words_can_answer, by_if}
use Rattle.core_runs.specs.WordRuns.{RunEntry, words_by}
use Rattle.core_runs.specs.declared.Birth.{Birth}
use Rattle.core_runs.specs.OwnParts.{is_beside, Quietly, MakesOwn, births_after, births}
use Rattle.section_laws.specs.Runs.{BeginsAt}
use Rattle.section_laws.proofs.WordLemmas.{stays_at}
use Rattle.section_laws.proofs.DeedLemmas.{makes_it}
use Rattle.section_laws.proofs.ClaimLemmas.{found_is}
use Rattle.section_laws.proofs.CoreRunLemmas.{in_front, none_there, IsRun, StandsIn, StandsRight, sub_run, made, by_other, by_itself, maker, run_facts}

-- the number of the thread that a thread is about to start or to hand out, else 0
abbrev pub number_at : Attempt → ℕ
number_at (Fixed (StartThread r n)) = n
number_at (Fixed (Split n r p)) = n
number_at attempt = 0

-- the same of a move
abbrev number_in : Move → ℕ
number_in (Make (StartThread r n)) = n
number_in (Make (Split n r p)) = n
number_in move = 0

-- what a step, which is answered this, makes of that number
pub data NumberStep {S : Type 0} (th : ThreadState S) (step : Step) (a : StepAnswer) (after : ℕ) : Type 0 where
  has_none : after ≡ 0 → NumberStep th step a after
  is_drawn : (n : ℕ) → step ≡ DrawThread → a ≡ Found n → after ≡ n + 1 → NumberStep th step a after
  is_kept : (r n : ℕ) → step ≡ StartThread r n → after ≡ number_at th.attempt → NumberStep th step a after

module _ {S : Type 0} (code : Code S) (b : Bounds) (th : ThreadState S) where
  pin_none : (next : Next) → number_at (behind_pin th next) ≡ 0
  pin_none (Want (Exit r)) = refl
  pin_none (Want (Wait r)) = refl
  pin_none (Want (Op.Notify r)) = refl
  pin_none (Want (Start r p)) = refl
  pin_none (Want (Init c)) = refl
  pin_none next = refl

  to_pin_none : (next : Next) → number_at (to_pin th next) ≡ 0
  to_pin_none next = by_if (λ g. number_at g ≡ 0) (is_open th) (Fixed (own_pin th)) (behind_pin th next) (λ yes. refl) (λ no. pin_none next)

  pinned_none : (step : Step) → number_in (Make step) ≡ 0 → number_in (Make (pinned_then th step)) ≡ 0
  pinned_none step none = by_if (λ x. number_in (Make x) ≡ 0) (is_open th) (own_pin th) step (λ yes. refl) (λ no. none)

  first_none : (op : Op) → number_in (Make (first_step code th op)) ≡ 0
  first_none (Print x) = pinned_none _ refl
  first_none (InitDone c ok) = pinned_none _ refl
  first_none (End x) = pinned_none _ refl
  first_none op = refl

  silent_none : (step : Step) → number_in (Make step) ≡ 0 → number_in (silent_move code th step) ≡ 0
  silent_none step none = by_if (λ x. number_in x ≡ 0) (is_open th && leaves_any code th.saved th.local) (Make step) Quiet (λ yes. none) (λ no. refl)

  undo_none : (s w : ℕ) (log : List Noted) (deepened taken : List Held) → number_in (Make (undo_step s w log deepened taken)) ≡ 0
  undo_none s w (x ∷ log) deepened taken = refl
  undo_none s w [] (h ∷ deepened) taken = refl
  undo_none s w [] [] (h ∷ taken) = refl
  undo_none s w [] [] [] = refl

  move_number : (next : Next) (g : Attempt) → number_in (move_of code th next g) ≡ number_at g
  move_number next (Fixed (StartThread r n)) = refl
  move_number next (Fixed (Split n r p)) = refl
  move_number next (Fixed step) = refl
  move_number next (Meets s level) = refl
  move_number next (Undoing w) =
      undo_none th.section w (noted_since (mark_of th (revoke_of w)).noted th.log) (deepened_since (mark_of th (revoke_of w)) th.held) (from_level (revoke_of w) th.held)
  move_number next (Full limit) = refl
  move_number Silent Look = refl
  move_number (Want op) Look = refl
  move_number Silent Begin = silent_none _ refl
  move_number Silent Checked = silent_none _ refl
  move_number (Want op) Begin = by_if (λ x. number_in x ≡ 0) (is_open th) (Make _) (Make _) (λ yes. refl) (λ no. first_none op)
  move_number (Want op) Checked = first_none op
  move_number Ended g = refl

  forgets_none : (y : ThreadState S) → number_at y.attempt ≡ 0 → number_at (forgotten y).attempt ≡ 0
  forgets_none y none = by_if (λ (x : ThreadState S). number_at x.attempt ≡ 0) (is_open y) y (record y { log = []; saved = []; marks = [] }) (λ yes. none) (λ no. none)

  lost_none : {step : Step} {v : ℕ} (area : Area) → NumberStep th step (Lost v) (number_at (changed code th (lost_on th area)).attempt)
  lost_none (Section s) = has_none (by_if (λ c. number_at (changed code th c).attempt ≡ 0) (is_own_section th s) _ _ (λ yes. refl) (λ no. refl))
  lost_none area = has_none refl

  -- a thread makes a step for the number that it has
  pub number_made : (step : Step) → next_move code b th ≡ Make step → number_at th.attempt ≡ number_in (Make step)
  number_made step makes = sym (move_number (code.next th.local) th.attempt) ∙ ap number_in (makes_it th.over (nat_le b.limits.turns th.counted) _ step makes)

  numbers : {next : Next} {step : Step} {a : StepAnswer} {change : Change} → Row code b th next step a change → number_at th.attempt ≡ number_in (Make step)
      → NumberStep th step a (number_at (changed code th change).attempt)
  numbers (is_lost {step = step} {v = v}) is = lost_none (place_of step)
  numbers (own_stands {w = w} at looks stands) is = has_none (forgets_none (record th { pinned = pinned_of w; attempt = Checked }) refl)
  numbers (pins {next = next} unpinned lasts) is = has_none (forgets_none (record th { pinned = th.levels; attempt = behind_pin th next }) (pin_none next))
  numbers (restores at undoing does) is = has_none (ap number_at at)
  numbers (sets_monitor_back at undoing does) is = has_none (ap number_at at)
  numbers (gives_monitor_back at undoing does) is = has_none (ap number_at at)
  numbers (is_undone {w = w} at undoing does) is = has_none (forgets_none
      (without_level (record (stood_at th (revoke_of w)) { section = section_at (revoke_of w - 1) th.section; attempt = Begin }) (revoke_of w)) refl)
  numbers (level_opened {next = next} enters some needs room) is =
      has_none (forgets_none (with_level (record th { attempt = Fixed (take_for th next th.section (suc th.levels)) })) refl)
  numbers (levels_closed {r = r} {depth = depth} closes) is = has_none (forgets_none (with_levels (record th { attempt = Fixed (Release r) }) depth) refl)
  numbers (section_left at none) is = has_none (forgets_none (with_levels (record (answered code th Reply.Done) { held = []; section = 0 }) 0) refl)
  numbers (exits_one {r = r} own last more outer) is = has_none (to_pin_none (Want (Exit r)))
  numbers (wait_begins {r = r} own) is = has_none (to_pin_none (Want (Wait r)))
  numbers (notify_begins {r = r} own) is = has_none (to_pin_none (Want (Op.Notify r)))
  numbers (start_begins {r = r} {p = p} none) is = has_none (to_pin_none (Want (Start r p)))
  numbers (is_unready {c = c} fresh) is = has_none (to_pin_none (Want (Init c)))
  numbers (thread_numbered shut room) is = is_drawn _ refl refl refl
  numbers (is_started {r = r} shut above below) is = is_kept r _ refl (sym is)
  numbers row is = has_none refl

  -- a thread is handed out with a number above 0
  abbrev IsAbove : Step → Type 0
  IsAbove (Split n r p) = 0 < n
  IsAbove step = Unit {0}

  above_if_lost : (step : Step) (v : ℕ) → CanAnswer (effect_of step) (Lost v) → IsAbove step
  above_if_lost (Split n r p) v can = absurd can
  above_if_lost step v can = tt

  above_in_row : {next : Next} {step : Step} {a : StepAnswer} {change : Change} → Row code b th next step a change → CanAnswer (effect_of step) a → IsAbove step
  above_in_row (is_lost {step = step} {v = v}) can = above_if_lost step v can
  above_in_row (handed_out shut above below) can = above
  above_in_row row can = tt

  pub split_above : (w : Words) (n r p : ℕ) → AttemptFits th (code.next th.local) th.attempt → next_move code b th ≡ Make (Split n r p) → 0 < n
  split_above w n r p fits makes = above_in_row (answers_are_rows code b th (Split n r p) (answer_of w (Split n r p)) fits makes tt) tt

  counted_attempt : (told : Told) (y : ThreadState S) → (counted_for told y).attempt ≡ y.attempt
  counted_attempt (advanced None) y = refl
  counted_attempt (advanced (Some reply)) y = refl
  counted_attempt born y = refl
  counted_attempt other y = refl

  pub number_steps : (w : Words) (step : Step) (a : StepAnswer) → AttemptFits th (code.next th.local) th.attempt → next_move code b th ≡ Make step → a ≡ answer_of w step
      → NumberStep th step a (number_at (after_answer code b th step a).attempt)
  number_steps w step a fits makes is =
      let can : CanAnswer (effect_of step) a = subst (CanAnswer (effect_of step)) (sym is) (words_can_answer w step) in
      subst (NumberStep th step a) (sym (ap number_at (counted_attempt (told code b th step a) (changed code th (change_of code b th (code.next th.local) step a)))))
      (numbers (answers_are_rows code b th step a fits makes can) (number_made step makes))

-- ---- the count of threads

pub grows : (step : Step) (w : Words) → w (Control 4) ≤ words_after step w (Control 4)
grows DrawThread w = omega arith
grows (LoadThread which) w = omega arith
grows step w = let same = stays_at (effect_of step) w (place_of step) (Control 4) refl in omega (arith, same)

quietly_none : {S : Type 0} (code : Code S) (b : Bounds) (n : ℕ) (x y : ThreadState S) → Quietly code b n x y → (x ≡ y) ⊎ (number_at y.attempt ≡ 0)
quietly_none code b zero x y is = inl is
quietly_none {S = S} code b (suc n) x y (z, l, before, move, step, is) = inr (ap (λ (th : ThreadState S). number_at th.attempt) is)

-- ---- along a run

module _ {S : Type 0} (code : Code S) (b : Bounds) (first : Birth → ThreadState S) (main : Birth) (w : Words) (none : (s : ℕ) → w (Section s) ≡ 0)
    (fresh : (birth : Birth) → BeginsAt (first birth)) (low : main.number ≤ w (Control 4)) where
  abbrev Runs : List RunEntry → Type 0
  Runs run = IsRun code b first main w none fresh run

  abbrev Stands : List RunEntry → ℕ → ThreadState S → Type 0
  Stands run t th = StandsIn code b run t th

  -- what is so of the numbers of the threads that have begun, and of those that are about to be handed out
  pub record Numbers (run : List RunEntry) : Type 0 where
    pub drawn : (t : ℕ) (th : ThreadState S) → Stands run t th → number_at th.attempt ≤ words_by w run (Control 4)
    pub apart : (t u : ℕ) (th uh : ThreadState S) → Stands run t th → Stands run u uh → 0 < number_at th.attempt → number_at th.attempt ≡ number_at uh.attempt → t ≡ u
    pub begun : (x : Birth) → Contains (births main run) x → x.number ≤ words_by w run (Control 4)
    pub unbegun : (t : ℕ) (th : ThreadState S) (x : Birth) → Stands run t th → 0 < number_at th.attempt → Contains (births main run) x → x.number ≡ number_at th.attempt → ⊥
    pub single : (x y : Birth) → Contains (births main run) x → Contains (births main run) y → x.number ≡ y.number → x ≡ y

  first_number : (x : ThreadState S) → BeginsAt x → number_at x.attempt ≡ 0
  first_number x begins = ap (λ (y : ThreadState S). number_at y.attempt) begins.3

  not_above : (n : ℕ) → 0 < n → n ≡ 0 → ⊥
  not_above n some is = omega arith

  at_start : (t : ℕ) (th : ThreadState S) → Stands [] t th → number_at th.attempt ≡ 0
  at_start t th at = elim (quietly_none code b at.moves at.behind th at.quiet) [
    | inl same ↦ ap (λ (y : ThreadState S). number_at y.attempt) (sym same ∙ sym at.own) ∙ first_number at.start at.begins
    | inr is ↦ is
  ]

  first_numbers : Numbers []
  first_numbers = record {
    drawn = λ t th at. let is = at_start t th at in omega (arith, is);
    apart = λ t u th uh at there some same. absurd (not_above (number_at th.attempt) some (at_start t th at));
    begun = λ x there. elim (in_front main x [] there) [ inl is ↦ subst (λ (y : Birth). y.number ≤ w (Control 4)) is low | inr rest ↦ none_there x rest ];
    unbegun = λ t th x at some there same. not_above (number_at th.attempt) some (at_start t th at);
    single = λ x y at there same. elim (in_front main x [] at) [
      | inl is ↦ elim (in_front main y [] there) [ inl also ↦ sym is ∙ also | inr rest ↦ none_there y rest ]
      | inr rest ↦ none_there x rest
    ];
  }

  module _ (e : RunEntry) (run : List RunEntry) (so : Runs (e ∷ run)) (before : Numbers run) where
    -- how a thread has come there
    data Came (t : ℕ) (th : ThreadState S) : Type 0 where
      waits : number_at th.attempt ≡ 0 → Came t th
      stays : t ≢ e.thread → Stands run t th → Came t th
      rests : is_beside e.made.step ≡ true → Stands run t th → Came t th
      makes : t ≡ e.thread → is_beside e.made.step ≡ false → (z : ThreadState S) → Stands run e.thread z → NumberStep z e.made.step e.made.answer (number_at th.attempt) → Came t th

    came_right : (t : ℕ) (th : ThreadState S) → StandsRight code b (e ∷ run) t th → Came t th
    came_right t th at = elim (made code b first main w none fresh e run t th at) [
      | by_other other there ↦ stays other there
      | by_itself own z there does ↦ by_test (is_beside e.made.step) refl own z there does
    ]
      where
        by_test : (test : Bool) → is_beside e.made.step ≡ test → t ≡ e.thread → (z : ThreadState S) → Stands run e.thread z → MakesOwn test code b e.made z th → Came t th
        by_test true is own z there does = rests is (subst (Stands run t) does (subst (λ n. Stands run n z) (sym own) there))
        by_test false is own z there does = makes own is z there (subst (λ (y : ThreadState S). NumberStep z e.made.step e.made.answer (number_at y.attempt)) (sym does.1)
            (number_steps code b z (words_by w run) e.made.step e.made.answer
            ((run_facts code b first main w none fresh run (sub_run code b first main w none fresh e run so)).fit e.thread z there).attempt does.0 so.words.1))

    came : (t : ℕ) (th : ThreadState S) → Stands (e ∷ run) t th → Came t th
    came t th at = elim (quietly_none code b at.moves at.behind th at.quiet) [
      | inl same ↦ came_right t th (subst (StandsRight code b (e ∷ run) t) same (record { start = at.start; begins = at.begins; own = at.own }))
      | inr is ↦ waits is
    ]

    count_grows : words_by w run (Control 4) ≤ words_by w (e ∷ run) (Control 4)
    count_grows = grows e.made.step (words_by w run)

    -- the number that is drawn is the next one
    next_number : (n : ℕ) → e.made.step ≡ DrawThread → e.made.answer ≡ Found n → (n ≡ words_by w run (Control 4)) × (words_by w (e ∷ run) (Control 4) ≡ words_by w run (Control 4) + 1)
    next_number n is found =
        (found_is n (words_by w run (Control 4)) (sym found ∙ so.words.1 ∙ ap (λ step. answer_of (words_by w run) step) is), ap (λ step. words_after step (words_by w run) (Control 4)) is)

    drawn_after : (t : ℕ) (th : ThreadState S) → Came t th → number_at th.attempt ≤ words_by w (e ∷ run) (Control 4)
    drawn_after t th (waits is) = omega (arith, is)
    drawn_after t th (stays other at) = let was = before.drawn t th at in omega (arith, was, count_grows)
    drawn_after t th (rests is at) = let was = before.drawn t th at in omega (arith, was, count_grows)
    drawn_after t th (makes own is z at (has_none zero_now)) = omega (arith, zero_now)
    drawn_after t th (makes own is z at (is_drawn n step found now)) = let next = next_number n step found in omega (arith, now, next)
    drawn_after t th (makes own is z at (is_kept r n step now)) = let was = before.drawn e.thread z at in omega (arith, was, now, count_grows)

    -- another thread has not the number that one has then
    differs : (t : ℕ) (th : ThreadState S) → Came t th → 0 < number_at th.attempt → (u : ℕ) (uh : ThreadState S) → t ≢ u → Stands run u uh
        → (u ≡ e.thread → is_beside e.made.step ≡ true) → number_at th.attempt ≡ number_at uh.attempt → ⊥
    differs t th (waits is) some u uh other there by same = not_above (number_at th.attempt) some is
    differs t th (stays apart_from at) some u uh other there by same = other (before.apart t u th uh at there some same)
    differs t th (rests is at) some u uh other there by same = other (before.apart t u th uh at there some same)
    differs t th (makes own is z at (has_none zero_now)) some u uh other there by same = not_above (number_at th.attempt) some zero_now
    differs t th (makes own is z at (is_drawn n step found now)) some u uh other there by same =
        let next = next_number n step found in let was = before.drawn u uh there in omega (arith, now, next, was, same)
    differs t th (makes own is z at (is_kept r n step now)) some u uh other there by same =
        other (own ∙ before.apart e.thread u z uh at there (subst (λ m. 0 < m) now some) (sym now ∙ same))

    apart_after : (t u : ℕ) (th uh : ThreadState S) → Came t th → Came u uh → 0 < number_at th.attempt → number_at th.attempt ≡ number_at uh.attempt → (t ≢ u) → ⊥
    apart_after t u th uh at (waits is) some same other = not_above (number_at uh.attempt) (subst (λ n. 0 < n) same some) is
    apart_after t u th uh at (stays away there) some same other = differs t th at some u uh other there (λ own. absurd (away own)) same
    apart_after t u th uh at (rests is there) some same other = differs t th at some u uh other there (λ own. is) same
    apart_after t u th uh (waits zero_now) (makes own is z there step) some same other = not_above (number_at th.attempt) some zero_now
    apart_after t u th uh (stays away at) (makes own is z there step) some same other =
        differs u uh (makes own is z there step) (subst (λ n. 0 < n) same some) t th (λ also. other (sym also)) at (λ mine. absurd (away mine)) (sym same)
    apart_after t u th uh (rests by at) (makes own is z there step) some same other = true≢false (sym by ∙ is)
    apart_after t u th uh (makes mine by y at made_it) (makes own is z there step) some same other = other (mine ∙ sym own)

    -- none of those that have begun before has the number
    unbegun_before : (t : ℕ) (th : ThreadState S) (x : Birth) → Came t th → 0 < number_at th.attempt → Contains (births main run) x → x.number ≡ number_at th.attempt → ⊥
    unbegun_before t th x (waits is) some there same = not_above (number_at th.attempt) some is
    unbegun_before t th x (stays away at) some there same = before.unbegun t th x at some there same
    unbegun_before t th x (rests is at) some there same = before.unbegun t th x at some there same
    unbegun_before t th x (makes own is z at (has_none zero_now)) some there same = not_above (number_at th.attempt) some zero_now
    unbegun_before t th x (makes own is z at (is_drawn n step found now)) some there same =
        let next = next_number n step found in let was = before.begun x there in omega (arith, now, next, was, same)
    unbegun_before t th x (makes own is z at (is_kept r n step now)) some there same =
        before.unbegun e.thread z x at (subst (λ m. 0 < m) now some) there (same ∙ now)

    -- a thread that begins has the number that its maker had
    record Begins (n : ℕ) : Type 0 where
      by : ThreadState S
      at : Stands run e.thread by
      had : number_at by.attempt ≡ n
      some : 0 < n
      step : (r m : ℕ) → e.made.step ≡ StartThread r m → ⊥
      drawing : e.made.step ≡ DrawThread → ⊥
      own : is_beside e.made.step ≡ false

    data Birthed (x : Birth) : Type 0 where
      earlier : Contains (births main run) x → Birthed x
      now : (n r p : ℕ) → e.made.step ≡ Split n r p → record { number = n; object = r; priority = p } ≡ x → Birthed x

    birthed : (x : Birth) → Contains (births main (e ∷ run)) x → Birthed x
    birthed x there = by_step e.made.step refl there
      where
        by_step : (step : Step) → e.made.step ≡ step → Contains (births_after step (births main run)) x → Birthed x
        by_step (Split n r p) is there = elim (in_front (record { number = n; object = r; priority = p }) x (births main run) there) [ inl same ↦ now n r p is same | inr rest ↦ earlier rest ]
        by_step step is there = earlier there

    abbrev IsSplit : Step → Type 0
    IsSplit (Split n r p) = Unit {0}
    IsSplit step = ⊥

    begins_now : (n r p : ℕ) → e.made.step ≡ Split n r p → Begins n
    begins_now n r p is =
        let by_own : is_beside e.made.step ≡ false = ap is_beside is in
        let one = maker code b first main w none fresh e run so by_own in
        record {
          by = one.thread;
          at = one.stands;
          had = number_made code b one.thread e.made.step one.move ∙ ap (λ step. number_in (Make step)) is;
          some = split_above code b one.thread (words_by w run) n r p
              ((run_facts code b first main w none fresh run (sub_run code b first main w none fresh e run so)).fit e.thread one.thread one.stands).attempt (one.move ∙ ap Make is);
          step = λ q m other. absurd (subst IsSplit (sym is ∙ other) tt);
          drawing = λ other. absurd (subst IsSplit (sym is ∙ other) tt);
          own = by_own;
        }

    -- nor has another thread this number after it
    unbegun_now : (n : ℕ) → Begins n → (t : ℕ) (th : ThreadState S) → Came t th → 0 < number_at th.attempt → n ≡ number_at th.attempt → ⊥
    unbegun_now n one t th (waits is) some same = not_above (number_at th.attempt) some is
    unbegun_now n one t th (stays away at) some same = away (sym (before.apart e.thread t one.by th one.at at (subst (λ m. 0 < m) (sym (one.had ∙ same)) some) (one.had ∙ same)))
    unbegun_now n one t th (rests is at) some same = true≢false (sym is ∙ one.own)
    unbegun_now n one t th (makes own is z at (has_none zero_now)) some same = not_above (number_at th.attempt) some zero_now
    unbegun_now n one t th (makes own is z at (is_drawn m step found count)) some same = one.drawing step
    unbegun_now n one t th (makes own is z at (is_kept r m step kept)) some same = one.step r m step

    unbegun_after : (t : ℕ) (th : ThreadState S) (x : Birth) → Came t th → 0 < number_at th.attempt → Birthed x → x.number ≡ number_at th.attempt → ⊥
    unbegun_after t th x at some (earlier there) same = unbegun_before t th x at some there same
    unbegun_after t th x at some (now n r p is new) same = unbegun_now n (begins_now n r p is) t th at some (ap (λ (y : Birth). y.number) new ∙ same)

    begun_after : (x : Birth) → Birthed x → x.number ≤ words_by w (e ∷ run) (Control 4)
    begun_after x (earlier there) = let was = before.begun x there in omega (arith, was, count_grows)
    begun_after x (now n r p is new) =
        let one = begins_now n r p is in
        let was = before.drawn e.thread one.by one.at in
        let number : x.number ≡ number_at one.by.attempt = ap (λ (y : Birth). y.number) (sym new) ∙ sym one.had in
        omega (arith, was, number, count_grows)

    -- a thread that begins isn't one that has begun
    apart_births : (n r p : ℕ) → e.made.step ≡ Split n r p → (x : Birth) → Contains (births main run) x → n ≡ x.number → ⊥
    apart_births n r p is x there same =
        let one = begins_now n r p is in
        before.unbegun e.thread one.by x one.at (subst (λ m. 0 < m) (sym one.had) one.some) there (sym same ∙ sym one.had)

    single_after : (x y : Birth) → Birthed x → Birthed y → x.number ≡ y.number → x ≡ y
    single_after x y (earlier at) (earlier there) same = before.single x y at there same
    single_after x y (earlier at) (now n r p is new) same = absurd (apart_births n r p is x at (ap (λ (z : Birth). z.number) new ∙ sym same))
    single_after x y (now n r p is new) (earlier there) same = absurd (apart_births n r p is y there (ap (λ (z : Birth). z.number) new ∙ same))
    single_after x y (now n r p is new) (now m q o also second) same = sym new ∙ same_split (sym is ∙ also) ∙ second
      where
        birth_of : ℕ → ℕ → ℕ → Birth
        birth_of i j k = record { number = i; object = j; priority = k }

        split_birth : Step → Birth
        split_birth (Split i j k) = birth_of i j k
        split_birth step = x

        same_split : Split n r p ≡ Split m q o → birth_of n r p ≡ birth_of m q o
        same_split equal = ap split_birth equal

    next_numbers : Numbers (e ∷ run)
    next_numbers = record {
      drawn = λ t th at. drawn_after t th (came t th at);
      apart = λ t u th uh at there some same. elim (same_or_other t u) [
        | inl is ↦ is
        | inr other ↦ absurd (apart_after t u th uh (came t th at) (came u uh there) some same other)
      ];
      begun = λ x there. begun_after x (birthed x there);
      unbegun = λ t th x at some there same. unbegun_after t th x (came t th at) some (birthed x there) same;
      single = λ x y at there same. single_after x y (birthed x at) (birthed y there) same;
    }

  pub numbers_at : (run : List RunEntry) → Runs run → Numbers run
  numbers_at [] so = first_numbers
  numbers_at (e ∷ run) so = next_numbers e run so (numbers_at run (sub_run code b first main w none fresh e run so))

  -- a thread that is handed out hasn't begun before
  pub new_number : (e : RunEntry) (run : List RunEntry) → Runs (e ∷ run) → (n r p : ℕ) → e.made.step ≡ Split n r p → (x : Birth) → Contains (births main run) x → n ≡ x.number → ⊥
  new_number e run so n r p is x there same =
      apart_births e run so (numbers_at run (sub_run code b first main w none fresh e run so)) n r p is x there same
