-- What a step makes of a thread, as far as waits go.
use Rattle.std.proofs.Common.{◌≡◌, ℕ, suc, ◌-◌, true, None, Some, [], refl, sym, ◌∙◌, ap, subst}
use Rattle.std.specs.Prelude.{IfSome}
use Rattle.op_core.specs.Replies.{IsEntry, FitsNext}
use Rattle.op_core.specs.declared.Op.{Op}
use Rattle.op_core.specs.declared.Op.TheVariants.{Read, Write, Enter, Exit, Wait, Rewake, Start, Init}
use Rattle.op_core.specs.declared.Next.{Next}
use Rattle.op_core.specs.declared.Next.TheVariants.{Want}
use Rattle.op_core.specs.declared.Reply.{Reply}
use Rattle.op_core.specs.ThreadCode.{Code}
use Rattle.op_core.specs.Orderly.{IsRewake, IsOrderly}
use Rattle.heap_words.specs.declared.areas.Area.{Area}
use Rattle.heap_words.specs.declared.areas.Area.TheVariants.{Section}
use Rattle.heap_words.specs.declared.words.WaitWord.TheVariants.{Waiting}
use Rattle.heap_words.specs.Words.{wait_word_of}
use Rattle.section_state.specs.SectionWord.{pinned_of, revoke_of}
use Rattle.monitor_core.specs.Monitors.{monitor_depth}
use Rattle.step_port.specs.declared.answer.StepAnswer.{StepAnswer}
use Rattle.step_port.specs.declared.answer.StepAnswer.TheVariants.{Found, Lost}
use Rattle.step_port.specs.declared.step.Step.{Step}
use Rattle.step_port.specs.declared.step.Step.TheVariants.{LoadSection, Release, SetWait, LoadWait}
use Rattle.step_port.specs.Steps.{place_of, effect_of}
use Rattle.step_port.specs.Words.{CanAnswer}
use Rattle.thread_automaton.specs.declared.Bounds.{Bounds}
use Rattle.thread_automaton.specs.declared.Move.{Move}
use Rattle.thread_automaton.specs.declared.Move.TheVariants.{Make}
use Rattle.thread_automaton.specs.declared.Attempt.{Attempt}
use Rattle.thread_automaton.specs.declared.Attempt.TheVariants.{Begin, Look, Checked, Fixed, Meets, Undoing, Full}
use Rattle.thread_automaton.specs.ThreadState.{ThreadState, is_open, is_own_section, inside}
use Rattle.thread_automaton.specs.NextMove.{own_pin, move_of}
use Rattle.thread_automaton.specs.Changes.{Change, goes, has_to_wait, replies, knows, writes, takes, deepens, prints, puts_back, sets_back, ends, answered, forgotten, with_level, with_levels, without_level, stood_at, section_at, changed}
use Rattle.thread_automaton.specs.Checks.{behind_pin}
use Rattle.thread_automaton.specs.Monitors.{monitor_wanted, entry, take_for}
use Rattle.thread_automaton.specs.Answers.{is_notified_for, lost_on, change_of}
use Rattle.thread_automaton.specs.Told.{Told, advanced, born, told, counted_for, after_answer}
use Rattle.automaton_rows.specs.Laws.{reply_of}
use Rattle.automaton_rows.specs.Rows.{Row, IsAccess, NeedsOwner, is_lost, own_stands, pins, gives_monitor_back, is_undone, is_unsafe, tag_live, free_first, section_numbered, section_opened, free_inside, level_opened, free_more, monitor_taken, own_again, entered_again, held_by_other, holder_lower, is_notified, not_owner, exits_one, levels_closed, monitor_left, section_left, wait_begins, wait_noted, wait_made, notify_begins, start_begins, is_unready}
use Rattle.automaton_rows.proofs.RowLemmas.{by_if}
use Rattle.section_laws.proofs.level_marks.RowLemmas.{IsUndoing}
use Rattle.section_laws.proofs.held_levels.WaitLemmas.{IsLastReply}
use Rattle.section_laws.proofs.held_levels.RowLemmas.{Stands, usual_at, reply_stands, entry_goes_on, entry_fits}
use Rattle.first_law.specs.Waits.{HasLooked, IsGivingUp}

-- ---- a thread that is to take a monitor again and is past its wait word, or is about to give one up

abbrev pub IsMarked : Next → Attempt → Type 0
IsMarked (Want (Rewake r)) g = HasLooked g
IsMarked (Want (Wait r)) g = IsGivingUp g
IsMarked next g = ⊥

-- the same, by the attempt first
abbrev IsLate : Attempt → Next → Type 0
IsLate (Fixed step) next = IsMarked next (Fixed step)
IsLate (Meets s level) next = IsMarked next (Meets s level)
IsLate g next = ⊥

marked_late : (next : Next) (g : Attempt) → IsMarked next g → IsLate g next
marked_late next (Fixed step) m = m
marked_late next (Meets s level) m = m
marked_late (Want (Rewake r)) Begin m = m
marked_late (Want (Rewake r)) Look m = m
marked_late (Want (Rewake r)) Checked m = m
marked_late (Want (Rewake r)) (Undoing w) m = m
marked_late (Want (Rewake r)) (Full limit) m = m
marked_late (Want (Wait r)) Begin m = m
marked_late (Want (Wait r)) Look m = m
marked_late (Want (Wait r)) Checked m = m
marked_late (Want (Wait r)) (Undoing w) m = m
marked_late (Want (Wait r)) (Full limit) m = m
marked_late next g m = m

abbrev pub GivesUp : Next → Attempt → Type 0
GivesUp (Want (Wait r)) g = IsGivingUp g
GivesUp next g = ⊥

gives_attempt : (next : Next) (g : Attempt) → GivesUp next g → IsGivingUp g
gives_attempt (Want (Wait r)) g is = is
gives_attempt next g is = absurd is

abbrev pub SetsNoWait : Step → Type 0
SetsNoWait (SetWait n w) = ⊥
SetsNoWait step = Unit {0}

-- ---- what becomes of it

-- A thread that does this makes the step, is answered this, and then stands so.
pub data WaitTurn {S : Type 0} (code : Code S) (th : ThreadState S) (next : Next) (step : Step) (a : StepAnswer) (y : ThreadState S) : Type 0 where
  goes_on : SetsNoWait step → (GivesUp next th.attempt → ⊥) → y.local ≡ th.local → (IsMarked next y.attempt → IsMarked next th.attempt) → WaitTurn code th next step a y
  answers : SetsNoWait step → (GivesUp next th.attempt → ⊥) → (IsRewake (code.next y.local) → ⊥) → y.attempt ≡ Begin → (IsRewake next → HasLooked th.attempt) → WaitTurn code th next step a y
  records : (r : ℕ) → next ≡ Want (Wait r) → step ≡ SetWait th.number (wait_word_of (Waiting r)) → y.local ≡ th.local → y.attempt ≡ Fixed (Release r) → WaitTurn code th next step a y
  sees : (r w : ℕ) → next ≡ Want (Rewake r) → step ≡ LoadWait th.number → a ≡ Found w → is_notified_for r w ≡ true → y.local ≡ th.local → WaitTurn code th next step a y
  gives_up : (r : ℕ) → next ≡ Want (Wait r) → th.attempt ≡ Fixed (Release r) → step ≡ Release r → code.next y.local ≡ Want (Rewake r) → y.attempt ≡ Begin → WaitTurn code th next step a y

-- ---- entries

entry_marked : (next : Next) (g : Attempt) → IsEntry next → IsMarked next g → IsRewake next
entry_marked (Want (Enter r)) g enters m = absurd m
entry_marked (Want (Rewake r)) g enters m = tt
entry_marked next g enters m = absurd enters

access_marked : {P : Type 0} (next : Next) (g : Attempt) → IsAccess next → IsMarked next g → P
access_marked (Want (Read r i)) g accesses m = absurd m
access_marked (Want (Write r i v)) g accesses m = absurd m
access_marked next g accesses m = absurd accesses

looked_marked : (next : Next) (g : Attempt) → IsRewake next → HasLooked g → IsMarked next g
looked_marked (Want (Rewake r)) g is looked = looked
looked_marked next g is looked = absurd is

owner_usual : (next : Next) (r : ℕ) → NeedsOwner next r → IsRewake next → ⊥
owner_usual (Want (Rewake q)) r needs is = needs
owner_usual next r needs is = is

abbrev IsNoLook : Step → Type 0
IsNoLook (LoadSection s) = ⊥
IsNoLook (LoadWait n) = ⊥
IsNoLook step = Unit {0}

abbrev IsNoLookIn : Move → Type 0
IsNoLookIn (Make step) = IsNoLook step
IsNoLookIn move = ⊥

abbrev IsNoRelease : Step → Type 0
IsNoRelease (Release r) = ⊥
IsNoRelease step = Unit {0}

abbrev IsNoReleaseIn : Move → Type 0
IsNoReleaseIn (Make step) = IsNoRelease step
IsNoReleaseIn move = Unit {0}

lost_none : (step : Step) (v : ℕ) → CanAnswer (effect_of step) (Lost v) → SetsNoWait step × IsNoRelease step
lost_none (SetWait n w) v can = absurd can
lost_none (Release r) v can = absurd can
lost_none step v can = (tt, tt)

module _ {S : Type 0} (code : Code S) (th : ThreadState S) where
  -- a thread that is to take a monitor again makes other steps than loads of its section and its wait word past that word
  looked_by : (next : Next) (g : Attempt) (step : Step) → IsRewake next → (IsUndoing g → ⊥) → IsNoLook step → move_of code th next g ≡ Make step → HasLooked g
  looked_by (Want (Rewake r)) (Fixed st) step is calm other makes = tt
  looked_by (Want (Rewake r)) (Meets s level) step is calm other makes = tt
  looked_by (Want (Rewake r)) (Undoing w) step is calm other makes = absurd (calm tt)
  looked_by (Want (Rewake r)) (Full limit) step is calm other makes = absurd (subst IsNoLookIn (sym makes) other)
  looked_by (Want (Rewake r)) Look step is calm other makes = absurd (subst IsNoLookIn (sym makes) other)
  looked_by (Want (Rewake r)) Checked step is calm other makes = absurd (subst IsNoLookIn (sym makes) other)
  looked_by (Want (Rewake r)) Begin step is calm other makes =
      absurd (by_if (λ move. IsNoLookIn move → ⊥) (is_open th) (Make (LoadSection th.section)) (Make (LoadWait th.number)) (λ yes so. so) (λ no so. so) (subst IsNoLookIn (sym makes) other))
  looked_by next g step is calm other makes = absurd is

  -- one that is about to release a monitor does so
  releases : (next : Next) (g : Attempt) (step : Step) → IsNoRelease step → move_of code th next g ≡ Make step → IsGivingUp g → ⊥
  releases next (Fixed (Release q)) step other makes is = subst IsNoReleaseIn (sym makes) other
  releases next g step other makes is = is

  -- another change of the thread that leaves its local state and its attempt
  same_turn : {next : Next} {step : Step} {a : StepAnswer} (y z : ThreadState S) → z.local ≡ y.local → z.attempt ≡ y.attempt → WaitTurn code th next step a y → WaitTurn code th next step a z
  same_turn {next} y z local at (goes_on none calm same marked) = goes_on none calm (local ∙ same) (λ m. marked (subst (IsMarked next) at m))
  same_turn y z local at (answers none calm usual begins looked) = answers none calm (λ rewake. usual (subst (λ l. IsRewake (code.next l)) local rewake)) (at ∙ begins) looked
  same_turn y z local at (records r wants sets same stands) = records r wants sets (local ∙ same) (at ∙ stands)
  same_turn y z local at (sees r w wants loads found is_told same) = sees r w wants loads found is_told (local ∙ same)
  same_turn y z local at (gives_up r wants was lets rewakes begins) = gives_up r wants was lets (ap code.next local ∙ rewakes) (at ∙ begins)

  forgets : {next : Next} {step : Step} {a : StepAnswer} (y : ThreadState S) → WaitTurn code th next step a y → WaitTurn code th next step a (forgotten y)
  forgets {next} {step} {a} y turn = by_if (λ z. WaitTurn code th next step a z) (is_open y) y (record y { log = []; saved = []; marks = [] })
      (λ yes. turn) (λ no. same_turn y (record y { log = []; saved = []; marks = [] }) refl refl turn)

  counted_turn : {next : Next} {step : Step} {a : StepAnswer} (told : Told) (y : ThreadState S) → WaitTurn code th next step a y → WaitTurn code th next step a (counted_for told y)
  counted_turn (advanced None) y turn = same_turn y (counted_for (advanced None) y) refl refl turn
  counted_turn (advanced (Some reply)) y turn = same_turn y (counted_for (advanced (Some reply)) y) refl refl turn
  counted_turn born y turn = same_turn y (counted_for born y) refl refl turn
  counted_turn other y turn = turn

  pin_marked : (next : Next) → IsMarked next (behind_pin th next) → ⊥
  pin_marked (Want (Wait r)) m = m
  pin_marked (Want (Rewake r)) m = m
  pin_marked next m = m

-- ---- rows

-- the reply ends a wait, or an entry after one
abbrev EndsWait : Reply → Next → Type 0
EndsWait reply (Want (Rewake r)) = Unit {0}
EndsWait reply next = IsLastReply reply next

last_ends : (reply : Reply) (next : Next) → IsLastReply reply next → EndsWait reply next
last_ends reply (Want (Rewake r)) last = tt
last_ends reply next last = last

rewake_ends : (reply : Reply) (next : Next) → IsRewake next → EndsWait reply next
rewake_ends reply (Want (Rewake r)) is = tt
rewake_ends reply next is = absurd is

owner_ends : (next : Next) (r : ℕ) → NeedsOwner next r → EndsWait Reply.NotOwner next → ⊥
owner_ends (Want (Exit q)) r needs is = is
owner_ends (Want (Wait q)) r needs is = is
owner_ends (Want (Op.Notify q)) r needs is = is
owner_ends next r needs is = absurd needs

module _ {S : Type 0} (code : Code S) (first : S) (classes : ℕ) (orderly : IsOrderly code first classes) (b : Bounds) (th : ThreadState S) (stands : Stands code first classes orderly th)
    (undoes : IsRewake (code.next th.local) → IsUndoing th.attempt → ⊥) where
  abbrev TurnTo : Next → Step → StepAnswer → Change → Type 0
  TurnTo next step a change = WaitTurn code th next step a (changed code th change)

  calm_by : (next : Next) {step : Step} → move_of code th next th.attempt ≡ Make step → IsNoRelease step → GivesUp next th.attempt → ⊥
  calm_by next {step} makes none up = releases code th next th.attempt step none makes (gives_attempt next th.attempt up)

  replied : {next : Next} {step : Step} {a : StepAnswer} (y : ThreadState S) (reply : Reply) → code.next th.local ≡ next → FitsNext next reply → (EndsWait reply next → ⊥) → SetsNoWait step → IsNoRelease step
      → move_of code th next th.attempt ≡ Make step → y.local ≡ code.reply th.local reply → y.attempt ≡ Begin → WaitTurn code th next step a y
  replied {next} y reply is fits plain none calm makes local at = answers none (calm_by next makes calm)
      (λ rewake. (reply_stands code first classes orderly next th.local reply is stands.can fits (λ last. plain (last_ends reply next last))).1 (subst (λ l. IsRewake (code.next l)) local rewake))
      at (λ rewake. absurd (plain (rewake_ends reply next rewake)))

  -- a change of the attempt alone
  attempts : {next : Next} {step : Step} {a : StepAnswer} (y : ThreadState S) → SetsNoWait step → IsNoRelease step → move_of code th next th.attempt ≡ Make step → y.local ≡ th.local → (IsLate y.attempt next → ⊥)
      → WaitTurn code th next step a y
  attempts {next} y none calm makes local early = goes_on none (calm_by next makes calm) local (λ m. absurd (early (marked_late next y.attempt m)))

  -- a step on the way into the wanted monitor
  enters_on : {next : Next} {step : Step} {a : StepAnswer} (y : ThreadState S) → code.next th.local ≡ next → IsEntry next → SetsNoWait step → IsNoRelease step → IsNoLook step
      → move_of code th next th.attempt ≡ Make step → y.local ≡ th.local → WaitTurn code th next step a y
  enters_on {next} {step} y is enters none calm other makes local = goes_on none (calm_by next makes calm) local
      (λ m. let rewake = entry_marked next y.attempt enters m in
      looked_marked next th.attempt rewake (looked_by code th next th.attempt step rewake (λ undoing. undoes (subst IsRewake (sym is) rewake) undoing) other makes))

  -- the monitor is entered
  entered : {next : Next} {step : Step} {a : StepAnswer} (y : ThreadState S) → code.next th.local ≡ next → IsEntry next → SetsNoWait step → IsNoRelease step → IsNoLook step
      → move_of code th next th.attempt ≡ Make step → y.local ≡ code.reply th.local Reply.Done → y.attempt ≡ Begin → WaitTurn code th next step a y
  entered {next} {step} y is enters none calm other makes local at = answers none (calm_by next makes calm)
      (λ rewake. (reply_stands code first classes orderly next th.local Reply.Done is stands.can (entry_fits code first classes orderly next enters) (entry_goes_on code first classes orderly next enters)).1
      (subst (λ l. IsRewake (code.next l)) local rewake))
      at (λ rewake. looked_by code th next th.attempt step rewake (λ undoing. undoes (subst IsRewake (sym is) rewake) undoing) other makes)

  abbrev IsPlain : Next → Change → Type 0
  IsPlain next (goes g) = IsLate g next → ⊥
  IsPlain next (has_to_wait why) = ⊥ → ⊥
  IsPlain next (replies reply) = EndsWait reply next → ⊥
  IsPlain next (knows s depth) = ⊥ → ⊥
  IsPlain next (writes log) = EndsWait Reply.Done next → ⊥
  IsPlain next (deepens r depth) = EndsWait Reply.Done next → ⊥
  IsPlain next (prints ticket line) = EndsWait Reply.Done next → ⊥
  IsPlain next puts_back = ⊥ → ⊥
  IsPlain next (sets_back r depth) = ⊥ → ⊥
  IsPlain next ends = ⊥ → ⊥
  IsPlain next change = ⊥

  plainly : {next : Next} {step : Step} {a : StepAnswer} (change : Change) → code.next th.local ≡ next → SetsNoWait step → IsNoRelease step → move_of code th next th.attempt ≡ Make step
      → IsPlain next change → IfSome (reply_of change) (FitsNext next) → TurnTo next step a change
  plainly (goes g) is none calm makes plain fits = attempts (changed code th (goes g)) none calm makes refl plain
  plainly (has_to_wait why) is none calm makes plain fits = attempts (changed code th (has_to_wait why)) none calm makes refl plain
  plainly (replies reply) is none calm makes plain fits = replied (changed code th (replies reply)) reply is fits plain none calm makes refl refl
  plainly (knows s depth) is none calm makes plain fits = attempts (changed code th (knows s depth)) none calm makes refl plain
  plainly (writes log) is none calm makes plain fits = replied (changed code th (writes log)) Reply.Done is fits plain none calm makes refl refl
  plainly (deepens r depth) is none calm makes plain fits = replied (changed code th (deepens r depth)) Reply.Done is fits plain none calm makes refl refl
  plainly (prints ticket line) is none calm makes plain fits = replied (changed code th (prints ticket line)) Reply.Done is fits plain none calm makes refl refl
  plainly {next} puts_back is none calm makes plain fits = goes_on none (calm_by next makes calm) refl (λ m. m)
  plainly {next} (sets_back r depth) is none calm makes plain fits = goes_on none (calm_by next makes calm) refl (λ m. m)
  plainly ends is none calm makes plain fits = attempts (changed code th ends) none calm makes refl plain
  plainly change is none calm makes plain fits = absurd plain

  turns : {next : Next} {step : Step} {a : StepAnswer} {change : Change} → Row code b th next step a change → code.next th.local ≡ next → move_of code th next th.attempt ≡ Make step
      → CanAnswer (effect_of step) a → IfSome (reply_of change) (FitsNext next) → TurnTo next step a change
  turns {next} (is_lost {step = step} {v = v}) is makes can fits = by_area (place_of step)
    where
      by_area : (area : Area) → TurnTo next step (Lost v) (lost_on th area)
      by_area (Section s) = by_if (λ change. TurnTo next step (Lost v) change) (is_own_section th s) (goes Look) (goes Begin)
          (λ yes. attempts (changed code th (goes Look)) (lost_none step v can).0 (lost_none step v can).1 makes refl (λ late. late))
          (λ no. attempts (changed code th (goes Begin)) (lost_none step v can).0 (lost_none step v can).1 makes refl (λ late. late))
      by_area area = attempts (changed code th (goes Begin)) (lost_none step v can).0 (lost_none step v can).1 makes refl (λ late. late)
  turns {next} (own_stands {w = w} at looks live) is makes can fits = forgets code th (record th { pinned = pinned_of w; attempt = Checked }) (attempts (record th { pinned = pinned_of w; attempt = Checked }) tt tt makes refl (λ late. late))
  turns (pins {next = wanted} unpinned lasts) is makes can fits =
      forgets code th (record th { pinned = th.levels; attempt = behind_pin th wanted }) (goes_on tt (calm_by wanted makes tt) refl (λ m. absurd (pin_marked code th wanted m)))
  turns {next} (gives_monitor_back at undo does) is makes can fits = goes_on tt (λ up. subst IsGivingUp at (gives_attempt next th.attempt up)) refl (λ m. m)
  turns {next} (is_undone {w = w} at undo does) is makes can fits =
      forgets code th (without_level (record (stood_at th (revoke_of w)) { section = section_at (revoke_of w - 1) th.section; attempt = Begin }) (revoke_of w))
      (answers tt (calm_by next makes tt) (usual_at code first classes orderly (inside th (revoke_of w)) th.saved th.local stands.saved (stands.can, usual)).1 refl (λ rewake. absurd (usual (subst IsRewake (sym is) rewake))))
    where
      usual : IsRewake (code.next th.local) → ⊥
      usual rewake = undoes rewake (subst IsUndoing (sym at) tt)
  turns {next} (is_unsafe accesses unsafe) is makes can fits = goes_on tt (calm_by next makes tt) refl (λ m. access_marked next _ accesses m)
  turns {next} (tag_live at accesses unsafe live deep) is makes can fits = goes_on tt (calm_by next makes tt) refl (λ m. access_marked next _ accesses m)
  turns (free_first enters free none) is makes can fits = enters_on (changed code th (goes _)) is enters tt tt tt makes refl
  turns (section_numbered enters none room) is makes can fits = enters_on (changed code th (goes _)) is enters tt tt tt makes refl
  turns (section_opened {next = next} {s = s} enters none some) is makes can fits =
      enters_on (with_level (record th { section = s; levels = 0; pinned = 0; attempt = Fixed (take_for th next s 1) })) is enters tt tt tt makes refl
  turns (free_inside enters free some needs room) is makes can fits = enters_on (changed code th (goes _)) is enters tt tt tt makes refl
  turns (level_opened {next = next} enters some needs room) is makes can fits = forgets code th (with_level (record th { attempt = Fixed (take_for th next th.section (suc th.levels)) }))
      (enters_on (with_level (record th { attempt = Fixed (take_for th next th.section (suc th.levels)) })) is enters tt tt tt makes refl)
  turns (free_more enters free some needs) is makes can fits = enters_on (changed code th (goes _)) is enters tt tt tt makes refl
  turns (own_again enters some own room) is makes can fits = enters_on (changed code th (goes _)) is enters tt tt tt makes refl
  turns (held_by_other enters some other) is makes can fits = enters_on (changed code th (goes _)) is enters tt tt tt makes refl
  turns {next} (holder_lower at enters other lower) is makes can fits =
      goes_on tt (calm_by next makes tt) refl (λ m. looked_marked next th.attempt (entry_marked next _ enters m) (subst HasLooked (sym at) tt))
  turns (monitor_taken {next = next} enters some) is makes can fits = entered (changed code th (takes (entry th next th.levels))) is enters tt tt tt makes refl refl
  turns (entered_again {next = next} {new = new} enters calm) is makes can fits = entered (changed code th (deepens (monitor_wanted next) (monitor_depth new))) is enters tt tt tt makes refl refl
  turns (is_notified {r = r} {w = w} told) is makes can fits = sees r w refl refl refl told refl
  turns {next} (not_owner {r = r} needs other) is makes can fits = replied (answered code th Reply.NotOwner) Reply.NotOwner is fits (owner_ends next r needs) tt tt makes refl refl
  turns (exits_one {r = r} own last more inner) is makes can fits = goes_on tt (calm_by (Want (Exit r)) makes tt) refl (λ m. m)
  turns (start_begins {r = r} {p = p} none) is makes can fits = goes_on tt (calm_by (Want (Start r p)) makes tt) refl (λ m. m)
  turns (notify_begins {r = r} own) is makes can fits = goes_on tt (calm_by (Want (Op.Notify r)) makes tt) refl (λ m. m)
  turns (is_unready {c = c} fresh) is makes can fits = goes_on tt (calm_by (Want (Init c)) makes tt) refl (λ m. m)
  turns (wait_begins {r = r} own) is makes can fits = goes_on tt (calm_by (Want (Wait r)) makes tt) refl
      (λ m. absurd (by_if (λ g. IsGivingUp g → ⊥) (is_open th) (Fixed (own_pin th)) (behind_pin th (Want (Wait r))) (λ yes up. up) (λ no up. up) m))
  turns (levels_closed {r = r} {depth = depth} closes) is makes can fits =
      forgets code th (with_levels (record th { attempt = Fixed (Release r) }) depth) (goes_on tt (calm_by (Want (Exit r)) makes tt) refl (λ m. m))
  turns (monitor_left {r = r} at more) is makes can fits =
      answers tt (λ up. up) (reply_stands code first classes orderly (Want (Exit r)) th.local Reply.Done is stands.can tt (λ last. last)).1 refl (λ rewake. absurd rewake)
  turns (section_left {r = r} at none) is makes can fits = forgets code th (with_levels (record (answered code th Reply.Done) { held = []; section = 0 }) 0)
      (answers tt (λ up. up) (reply_stands code first classes orderly (Want (Exit r)) th.local Reply.Done is stands.can tt (λ last. last)).1 refl (λ rewake. absurd rewake))
  turns (wait_noted {r = r} shut) is makes can fits = records r refl refl refl refl
  turns (wait_made {r = r} shut at) is makes can fits = gives_up r refl at refl (orderly.waits th.local r stands.can is) refl
  turns {change = change} row is makes can fits = plainly change is tt tt makes (λ h. h) fits

  pub wait_turns : (step : Step) (a : StepAnswer) → Row code b th (code.next th.local) step a (change_of code b th (code.next th.local) step a) → move_of code th (code.next th.local) th.attempt ≡ Make step
      → CanAnswer (effect_of step) a → IfSome (reply_of (change_of code b th (code.next th.local) step a)) (FitsNext (code.next th.local)) → WaitTurn code th (code.next th.local) step a (after_answer code b th step a)
  wait_turns step a row makes can fits =
      counted_turn code th (told code b th step a) (changed code th (change_of code b th (code.next th.local) step a)) (turns row refl makes can fits)
