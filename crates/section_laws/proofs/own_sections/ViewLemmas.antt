-- What is seen of a thread and of its section, and what its steps make of that.
use Rattle.std.proofs.Common.{◌≡◌, ◌≢◌, ◌⊎◌, ℕ, suc, ◌-◌, ◌^◌, ◌<◌, ◌≤◌, Bool, true, false, Option, None, Some, List, [], ◌∷◌, nat_eq, refl, ap, arith}
use Rattle.std.specs.Prelude.{nat_lt}
use Rattle.std.proofs.lemmas.Grind.{common_steps}
use Rattle.std.proofs.lemmas.Bool.Decides.{nat_tests}
use Rattle.op_core.specs.declared.Op.TheVariants.{Exit}
use Rattle.op_core.specs.declared.Next.{Next}
use Rattle.op_core.specs.declared.Next.TheVariants.{Want}
use Rattle.op_core.specs.ThreadCode.{Code}
use Rattle.heap_words.specs.declared.areas.Area.TheVariants.{Section}
use Rattle.heap_words.specs.Words.{tag_of, tag_level}
use Rattle.section_state.specs.declared.State.TheVariants.{Live}
use Rattle.section_state.specs.SectionWord.{number_of, section_word, state_of, pinned_of, depth_of, revoke_of, with_pinned, revoked_of, undone_of}
use Rattle.monitor_core.specs.Monitors.{monitor_level}
use Rattle.step_port.specs.declared.answer.StepAnswer.{StepAnswer}
use Rattle.step_port.specs.declared.answer.StepAnswer.TheVariants.{Found, Lost}
use Rattle.step_port.specs.declared.step.Effect.TheVariants.{Load, Exchange}
use Rattle.step_port.specs.declared.step.Step.{Step}
use Rattle.step_port.specs.declared.step.Step.TheVariants.{LoadSection, Pin, Revoke, OpenSection, OpenLevel, CloseLevel, Commit, MarkUndone, Release}
use Rattle.step_port.specs.Steps.{place_of, effect_of}
use Rattle.step_port.specs.Words.{Words, area_eq, put_by, answer_of, words_after}
use Rattle.thread_automaton.specs.declared.Held.{Held}
use Rattle.thread_automaton.specs.declared.Attempt.{Attempt}
use Rattle.thread_automaton.specs.declared.Attempt.TheVariants.{Fixed, Meets, Undoing}
use Rattle.thread_automaton.specs.ThreadState.{ThreadState}
use Rattle.thread_automaton.specs.Changes.{section_at, without}
use Rattle.section_laws.proofs.WordLemmas.{lost, stays_at}
use Rattle.section_laws.proofs.DeedLemmas.{CanRevoke}

-- ---- what is seen of a thread

-- the word of its section, while it undoes it
abbrev pub undone_word : Attempt → Option ℕ
undone_word (Undoing w) = Some w
undone_word attempt = None

-- the level of the section that it looks at, or is about to pin
abbrev pub level_in : Attempt → ℕ
level_in (Meets s level) = level
level_in (Fixed (Pin s w level)) = level
level_in attempt = 0

abbrev pub is_none : List Held → Bool
is_none [] = true
is_none (h ∷ held) = false

-- it is about to leave the last monitor that it holds, once it is at the exit's last steps
abbrev pub is_leaving : Attempt → Next → List Held → Bool
is_leaving (Fixed (Pin s w level)) (Want (Exit r)) held = is_none (without r held)
is_leaving (Fixed (Release q)) (Want (Exit r)) held = is_none (without r held)
is_leaving attempt next held = false

pub record View : Type 0 where
  pub number : ℕ
  pub priority : ℕ
  pub section : ℕ
  pub levels : ℕ
  pub pinned : ℕ
  pub undoing : Option ℕ
  pub level : ℕ
  pub leaving : Bool

abbrev pub view : {S : Type 0} → Code S → ThreadState S → View
view code th = record {
  number = th.number;
  priority = th.priority;
  section = th.section;
  levels = th.levels;
  pinned = th.pinned;
  undoing = undone_word th.attempt;
  level = level_in th.attempt;
  leaving = is_leaving th.attempt (code.next th.local) th.held;
}

abbrev pub own_of : View → ℕ
own_of x = section_word (number_of Live) x.number x.priority x.pinned x.levels 0

abbrev pub opening_of : View → ℕ
opening_of x = section_word (number_of Live) x.number x.priority 0 1 0

-- the thread is the same one
abbrev pub IsSame : View → View → Type 0
IsSame x y = (y.number ≡ x.number) × (y.priority ≡ x.priority)

-- and has the same levels of the same section open
abbrev pub KeepsLevels : View → View → Type 0
KeepsLevels x y = (y.number ≡ x.number) × (y.priority ≡ x.priority) × (y.section ≡ x.section) × (y.levels ≡ x.levels)

-- and has seen it pinned as deep
abbrev pub Keeps : View → View → Type 0
Keeps x y = (y.number ≡ x.number) × (y.priority ≡ x.priority) × (y.section ≡ x.section) × (y.levels ≡ x.levels) × (y.pinned ≡ x.pinned)

-- it undoes nothing, looks at no section for a level, and doesn't end its section
abbrev pub IsCalm : View → Type 0
IsCalm y = (y.undoing ≡ None) × (y.level ≡ 0) × (y.leaving ≡ false)

-- made on any words the step leaves those of sections
pub record SectionsStay (step : Step) (a : StepAnswer) : Type 0 where
  pub stay : (w : Words) → a ≡ answer_of w step → (s : ℕ) → words_after step w (Section s) ≡ w (Section s)

pub load_stays : (step : Step) (a : StepAnswer) → effect_of step ≡ Load → SectionsStay step a
load_stays step a load = record { stay = λ w is s. ap (λ e. put_by e w (place_of step) (Section s)) load }

pub lost_stays : (step : Step) (v : ℕ) → SectionsStay step (Lost v)
lost_stays step v = record { stay = λ w is s. ap (λ (u : Words). u (Section s)) (lost (effect_of step) w (place_of step) v is) }

pub else_stays : (step : Step) (a : StepAnswer) → ((s : ℕ) → area_eq (Section s) (place_of step) ≡ false) → SectionsStay step a
else_stays step a other = record { stay = λ w is s. stays_at (effect_of step) w (place_of step) (Section s) (other s) }

-- ---- what a thread does to its section and to those of others

-- What becomes of the word of another thread's section.
pub data Touch (old new : ℕ) : Type 0 where
  stays : new ≡ old → Touch old new
  pinned_to : (n : ℕ) → state_of old ≡ 1 → pinned_of old < n → n < 2 ^ 8 → new ≡ with_pinned old n → Touch old new
  revoked : (n : ℕ) → state_of old ≡ 1 → pinned_of old < n → n ≤ depth_of old → new ≡ revoked_of old n → Touch old new

-- by a pin, or by a revocation
abbrev pub IsTouch : Step → ℕ → ℕ → ℕ → Type 0
IsTouch step s old new = ((n : ℕ) × (step ≡ Pin s old n) × (n < 2 ^ 8) × (new ≡ with_pinned old n))
    ⊎ ((n : ℕ) × (step ≡ Revoke s old n) × CanRevoke old n × (new ≡ revoked_of old n))

-- A thread that is seen as x makes the step, is answered this, and is then seen as y.
pub data Deed (x y : View) : Step → StepAnswer → Type 0 where
  plain : {step : Step} {a : StepAnswer} → SectionsStay step a → Keeps x y → y.undoing ≡ None → y.level < 2 ^ 8 → y.leaving ≡ false → Deed x y step a
  goes_on : {step : Step} {a : StepAnswer} {w : ℕ} → SectionsStay step a → Keeps x y → x.undoing ≡ Some w → y.undoing ≡ Some w → y.level ≡ 0 → y.leaving ≡ false → Deed x y step a
  sees_revoked : {w : ℕ} → state_of w ≡ 3 → Keeps x y → y.undoing ≡ Some w → y.level ≡ 0 → y.leaving ≡ false → Deed x y (LoadSection x.section) (Found w)
  sees_pinned : {w : ℕ} → KeepsLevels x y → y.pinned ≡ pinned_of w → IsCalm y → Deed x y (LoadSection x.section) (Found w)
  pins_own : 0 < x.section → x.pinned < x.levels → KeepsLevels x y → y.pinned ≡ x.levels → y.undoing ≡ None → y.level ≡ 0 → (y.leaving ≡ true → x.leaving ≡ true)
      → Deed x y (Pin x.section (own_of x) x.levels) StepAnswer.Done
  undoes : {w : ℕ} → x.undoing ≡ Some w → 0 < x.section → IsSame x y → y.section ≡ section_at (revoke_of w - 1) x.section → y.levels ≡ revoke_of w - 1
      → y.pinned ≡ x.pinned → IsCalm y → Deed x y (MarkUndone x.section (undone_of w)) StepAnswer.Done
  touches : {step : Step} {s old new : ℕ} → place_of step ≡ Section s → effect_of step ≡ Exchange old new → (0 < x.section → s ≢ x.section)
      → Touch old new → IsTouch step s old new → Keeps x y → IsCalm y → Deed x y step StepAnswer.Done
  opens : {s : ℕ} → x.section ≡ 0 → 0 < s → IsSame x y → y.section ≡ s → y.levels ≡ 1 → y.pinned ≡ 0 → IsCalm y → Deed x y (OpenSection s (opening_of x)) StepAnswer.Done
  opens_level : 0 < x.section → x.levels < 255 → IsSame x y → y.section ≡ x.section → y.levels ≡ suc x.levels → y.pinned ≡ x.pinned → IsCalm y
      → Deed x y (OpenLevel x.section (own_of x)) StepAnswer.Done
  commits : 0 < x.section → Keeps x y → y.undoing ≡ None → y.level ≡ 0 → Deed x y (Commit x.section (own_of x)) StepAnswer.Done
  closes_levels : {n : ℕ} → 0 < x.section → 0 < n → n < 2 ^ 8 → IsSame x y → y.section ≡ x.section → y.levels ≡ n → y.pinned ≡ x.pinned → IsCalm y
      → Deed x y (CloseLevel x.section (own_of x) n) StepAnswer.Done
  ends_section : {step : Step} → x.leaving ≡ true → SectionsStay step StepAnswer.Done → IsSame x y → y.section ≡ 0 → y.pinned ≡ x.pinned → IsCalm y → Deed x y step StepAnswer.Done

-- ---- tests

pub less : (m n : ℕ) → nat_lt m n ≡ true → m < n
less m n is = grind (arith, common_steps, nat_tests)

pub not_zero : (n : ℕ) → nat_eq n 0 ≡ false → 0 < n
not_zero n is = grind (arith, common_steps, nat_tests)

pub is_zero : (n : ℕ) → nat_eq n 0 ≡ true → n ≡ 0
is_zero n is = grind (arith, common_steps, nat_tests)

pub room : (n : ℕ) → nat_eq n 255 ≡ false → n < 2 ^ 8 → n < 255
room n is low = grind (arith, common_steps, nat_tests)

pub tag_low : (w : ℕ) → w < 2 ^ 64 → tag_level (tag_of w) < 2 ^ 8
unfolding tag_level tag_of
tag_low w low = omega (arith, low)

pub monitor_low : (m : ℕ) → monitor_level m < 2 ^ 8
unfolding monitor_level
monitor_low m = omega arith

pub zero_low : (n : ℕ) → n ≡ 0 → n < 2 ^ 8
zero_low n is = omega (arith, is)

pub by_revoking : (w level : ℕ) → CanRevoke w level → Touch w (revoked_of w level)
by_revoking w level can = revoked level can.0 can.1 can.2 refl
