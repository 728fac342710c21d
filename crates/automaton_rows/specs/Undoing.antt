-- How a thread undoes its section.
use Rattle.std.specs.Prelude.{◌≡◌, ℕ, ◌+◌, ◌-◌, ◌<◌, ◌≤◌, ◌^◌, Bool, true, false, ◌||◌, List, [], ◌∷◌, ◌++◌, map, length, reverse, nat_eq}
use Rattle.op_core.specs.ThreadCode.{Code}
use Rattle.section_state.specs.SectionWord.{revoke_of, undone_of}
use Rattle.write_log.specs.declared.Noted.{Noted}
use Rattle.step_port.specs.declared.answer.StepAnswer.{StepAnswer}
use Rattle.step_port.specs.declared.step.Step.{Step}
use Rattle.step_port.specs.declared.step.Step.TheVariants.{RestoreWord, SetDepth, Release, MarkUndone}
use Rattle.thread_automaton.specs.declared.Bounds.{Bounds}
use Rattle.thread_automaton.specs.declared.Move.TheVariants.{Make}
use Rattle.thread_automaton.specs.declared.Attempt.TheVariants.{Begin, Undoing}
use Rattle.thread_automaton.specs.declared.Held.{Held}
use Rattle.thread_automaton.specs.ThreadState.{ThreadState, Mark, mark_of, noted_since, held_as, from_level}
use Rattle.thread_automaton.specs.NextMove.{next_move, held_word, deepened_since}
use Rattle.thread_automaton.specs.Changes.{stood_at}
use Rattle.thread_automaton.specs.Told.{after_answer}

-- Its steps, where the section s had the word w when it was seen to be revoked: each word logged since the level opened
-- is put back, the last one first; then each monitor held before gets back the depth that it had then, the one that was
-- taken first first; then each monitor taken since is released, the last one first; and then the section is marked as
-- undone to that level.
abbrev pub undo_steps : ℕ → ℕ → List Noted → List Held → List Held → List Step
undo_steps s w log deepened taken =
    map (λ x. RestoreWord x.at x.old) log ++ map (λ h. SetDepth h.object (held_word s h)) deepened
    ++ map (λ h. Release h.object) taken ++ MarkUndone s (undone_of w) ∷ []

-- those of a thread
abbrev pub undoing_of : {S : Type 0} → ThreadState S → ℕ → List Step
undoing_of th w =
    let n = revoke_of w in
    let mark = mark_of th n in
    undo_steps th.section w (noted_since mark.noted th.log) (deepened_since mark th.held) (from_level n th.held)

-- x makes these steps, one after another, each of them is done, and it is then y
abbrev pub MakesAll : {S : Type 0} → Code S → Bounds → List Step → ThreadState S → ThreadState S → Type 0
MakesAll code b [] x y = x ≡ y
MakesAll code b (step ∷ steps) x y = (next_move code b x ≡ Make step) × MakesAll code b steps (after_answer code b x step StepAnswer.Done) y

-- the monitor of r is held
abbrev pub is_held : ℕ → List Held → Bool
is_held r [] = false
is_held r (h ∷ held) = nat_eq h.object r || is_held r held

-- none is held twice
abbrev pub HeldOnce : List Held → Type 0
HeldOnce [] = Unit {0}
HeldOnce (h ∷ held) = (is_held h.object held ≡ false) × HeldOnce held

-- each of them is held, by a section and as often as a word can say, since a level further out
abbrev pub AreHeldBelow : ℕ → List Held → List Held → Type 0
AreHeldBelow n [] held = Unit {0}
AreHeldBelow n (h ∷ then_) held = (is_held h.object held ≡ true) × ((held_as h.object held).level < n) × (h.depth < 2 ^ 16) × (h.level < 2 ^ 8)
    × AreHeldBelow n then_ held

-- what was held as level n opened is held still, since a level further out
pub record HeldFits (mark : Mark) (n : ℕ) (held : List Held) : Type 0 where
  pub once : HeldOnce held
  pub then_once : HeldOnce (reverse mark.held)
  pub still : AreHeldBelow n (reverse mark.held) held

-- A thread that undoes its section makes exactly these steps, where the limit of its turns leaves room for them. Then it
-- is as it was when it was to enter, and the level is closed with all that are inside of it.
pub record StandsAgain {S : Type 0} (code : Code S) (th behind : ThreadState S) (n : ℕ) : Type 0 where
  pub local : behind.local ≡ (stood_at th n).local
  pub silents : behind.silents ≡ (stood_at th n).silents
  pub levels : behind.levels ≡ n - 1
  pub attempt : behind.attempt ≡ Begin

abbrev pub UndoGoesThrough : {S : Type 0} → Code S → Type 0
UndoGoesThrough {S} code = (b : Bounds) (th : ThreadState S) (w : ℕ)
    → th.over ≡ false → th.attempt ≡ Undoing w → th.section < 2 ^ 32 → HeldFits (mark_of th (revoke_of w)) (revoke_of w) th.held
    → th.counted + length (undoing_of th w) ≤ b.limits.turns
    → (behind : ThreadState S) × MakesAll code b (undoing_of th w) th behind × StandsAgain code th behind (revoke_of w)
