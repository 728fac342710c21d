-- What steps make of the words of sections.
use Rattle.std.proofs.Common.{◌≡◌, ℕ, ◌+◌, ◌-◌, ◌^◌, ◌<◌, Bool, true, false, nat_eq, refl, sym, ◌∙◌, ap, subst, arith}
use Rattle.std.specs.Prelude.{nat_le, if◌then◌else◌}
use Rattle.std.proofs.lemmas.Grind.{common_steps}
use Rattle.std.proofs.lemmas.Bool.Decides.{nat_tests}
use Rattle.heap_words.specs.declared.areas.Area.{Area}
use Rattle.heap_words.specs.declared.areas.Area.TheVariants.{Section}
use Rattle.section_state.specs.declared.State.{State}
use Rattle.section_state.specs.SectionWord.{number_of, section_word, state_of, revoke_of, with_state, with_pinned, with_depth, with_revoke, revoked_of, committed_of, undone_of}
use Rattle.monitor_core.specs.Contention.{is_in}
use Rattle.step_port.specs.declared.answer.StepAnswer.{StepAnswer}
use Rattle.step_port.specs.declared.answer.StepAnswer.TheVariants.{Found, Done, Lost}
use Rattle.step_port.specs.declared.step.Effect.{Effect}
use Rattle.step_port.specs.declared.step.Effect.TheVariants.{Load, Store, Exchange, Add}
use Rattle.step_port.specs.Words.{Words, area_eq, put_at, put_by, answer_to}

-- ---- states

pub state_replaced : (w n : ℕ) → n < 2 ^ 8 → state_of (with_state w n) ≡ n
unfolding state_of with_state
state_replaced w n below = omega arith

pub state_pinned : (w n : ℕ) → state_of (with_pinned w n) ≡ state_of w
unfolding state_of with_pinned
state_pinned w n = omega arith

state_deep : (w n : ℕ) → state_of (with_depth w n) ≡ state_of w
unfolding state_of with_depth
state_deep w n = omega arith

state_turned : (w n : ℕ) → state_of (with_revoke w n) ≡ state_of w
unfolding state_of with_revoke
state_turned w n = omega arith

pub state_packed : (s o p n d r : ℕ) → s < 2 ^ 8 → state_of (section_word s o p n d r) ≡ s
unfolding state_of section_word
state_packed s o p n d r below = omega arith

pub state_of_zero : state_of 0 ≡ 0
unfolding state_of
state_of_zero = refl

-- what a section's word may be changed to has a state
pub pinned_some : (w n : ℕ) → state_of w ≡ 1 → 0 < state_of (with_pinned w n)
pinned_some w n live = let now = state_pinned w n in omega (arith, live, now)

pub deep_some : (w n : ℕ) → state_of w ≡ 1 → 0 < state_of (with_depth w n)
deep_some w n live = let now = state_deep w n in omega (arith, live, now)

pub revoked_some : (w n : ℕ) → 0 < state_of (revoked_of w n)
revoked_some w n = let now = state_turned (with_state w 3) n ∙ state_replaced w 3 (omega arith) in omega (arith, now)

pub committed_some : (w : ℕ) → 0 < state_of (committed_of w)
committed_some w = let now = state_replaced w 5 (omega arith) in omega (arith, now)

pub undone_some : (w : ℕ) → 0 < state_of (undone_of w)
undone_some w = by_test (nat_le (revoke_of w) 1)
  where
    by_test : (t : Bool) → 0 < state_of (with_revoke (if t then with_state w 4 else with_depth (with_state w 1) (revoke_of w - 1)) 0)
    by_test true = let now = state_turned (with_state w 4) 0 ∙ state_replaced w 4 (omega arith) in omega (arith, now)
    by_test false = let now = state_turned (with_depth (with_state w 1) (revoke_of w - 1)) 0 ∙ state_deep (with_state w 1) (revoke_of w - 1) ∙ state_replaced w 1 (omega arith) in omega (arith, now)

pub state_is : (state : State) (w : ℕ) → is_in state w ≡ true → state_of w ≡ number_of state
state_is state w is = grind (arith, common_steps, nat_tests)

pub is_state : (state : State) (w : ℕ) → state_of w ≡ number_of state → is_in state w ≡ true
is_state state w is = grind (arith, common_steps, nat_tests)

-- ---- what is done with one word

abbrev IsLost : StepAnswer → Type 0
IsLost (Lost v) = Unit {0}
IsLost answer = ⊥

not_lost : {A : Type 0} (v : ℕ) (a : StepAnswer) → (IsLost a → ⊥) → Lost v ≡ a → A
not_lost v a other is = absurd (other (subst IsLost is tt))

-- a compare-exchange that is done has found the word that it expected
pub record Exchanged (w : Words) (a : Area) (old new : ℕ) : Type 0 where
  pub found : w a ≡ old
  pub leaves : put_by (Exchange old new) w a ≡ put_at w a new

pub exchanged : (w : Words) (a : Area) (old new : ℕ) → Done ≡ answer_to (Exchange old new) (w a) → Exchanged w a old new
exchanged w a old new done = by_test (nat_eq (w a) old) refl done
  where
    by_test : (t : Bool) → nat_eq (w a) old ≡ t → Done ≡ (if t then Done else Lost (w a)) → Exchanged w a old new
    by_test true is done = record { found = grind (arith, common_steps, nat_tests); leaves = ap (λ t. if t then put_at w a new else w) is }
    by_test false is done = not_lost (w a) Done (λ x. x) (sym done)

pub lost : (e : Effect) (w : Words) (a : Area) (v : ℕ) → Lost v ≡ answer_to e (w a) → put_by e w a ≡ w
lost Load w a v is = refl
lost (Store x) w a v is = not_lost v Done (λ h. h) is
lost (Exchange old new) w a v is = by_test (nat_eq (w a) old) is
  where
    by_test : (t : Bool) → Lost v ≡ (if t then Done else Lost (w a)) → (if t then put_at w a new else w) ≡ w
    by_test true is = not_lost v Done (λ h. h) is
    by_test false is = refl
lost (Add k) w a v is = not_lost v (Found (w a)) (λ h. h) is

-- another word stays
pub stays_at : (e : Effect) (w : Words) (a b : Area) → area_eq b a ≡ false → put_by e w a b ≡ w b
stays_at Load w a b other = refl
stays_at (Store v) w a b other = ap (λ t. if t then v else w b) other
stays_at (Exchange old new) w a b other = by_test (nat_eq (w a) old)
  where
    by_test : (t : Bool) → (if t then put_at w a new else w) b ≡ w b
    by_test true = ap (λ t. if t then new else w b) other
    by_test false = refl
stays_at (Add k) w a b other = ap (λ t. if t then w a + k else w b) other

-- the word of a section is put, and what is so of that of a section
pub at_section : (P : ℕ → Type 0) (w : Words) (s v r : ℕ) → (r ≡ s → P v) → P (w (Section r)) → P (put_at w (Section s) v (Section r))
at_section P w s v r own other = by_test (nat_eq r s) (λ is. own (grind (arith, common_steps, nat_tests)))
  where
    by_test : (t : Bool) → (t ≡ true → P v) → P (if t then v else w (Section r))
    by_test true own = own refl
    by_test false own = other

pub put_section : (w : Words) (s v : ℕ) → put_at w (Section s) v (Section s) ≡ v
put_section w s v = ap (λ t. if t then v else w (Section s)) (same s)
  where
    same : (n : ℕ) → nat_eq n n ≡ true
    same n = grind (arith, common_steps, nat_tests)
