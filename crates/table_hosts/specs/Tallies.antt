-- What is counted of turns.
use Rattle.std.specs.Prelude.{◌≡◌, ℕ, zero, suc, ◌+◌, ◌≤◌, Bool, true, nat_eq, if◌then◌else◌, Option, None, Some, IfSome, List, [], ◌∷◌}
use Rattle.op_core.specs.declared.Limit.{Limit}
use Rattle.op_core.specs.ThreadCode.{Code, quiet_step}
use Rattle.step_port.specs.declared.step.Step.{Step}
use Rattle.step_port.specs.declared.step.Step.TheVariants.{OpenSection, MarkUndone}
use Rattle.thread_automaton.specs.declared.Move.{Move}
use Rattle.thread_automaton.specs.declared.Move.TheVariants.{Quiet, Stop}
use Rattle.thread_automaton.specs.ThreadState.{ThreadState}
use Rattle.thread_automaton.specs.NextMove.{next_move}
use Rattle.core_runs.specs.declared.StepMade.{StepMade}
use Rattle.rollback_core.specs.declared.turned.Turn.{Turn}
use Rattle.table_words.specs.declared.setup.Setup.{Setup}
use Rattle.table_words.specs.declared.setup.ThreadPart.{ThreadPart}
use Rattle.table_words.specs.Setups.{setup_bounds}
use Rattle.table_words.specs.Rule.{sum_parts}
use Rattle.table_hosts.specs.declared.tally.Tally.{Tally}
use Rattle.table_hosts.specs.declared.tally.Pace.{Pace}
use Rattle.table_hosts.specs.Turns.{is_idle, goes_on, IsIdle, TookTurns}

-- ---- what steps made

-- how many sections a step opens
abbrev pub opened_by : Step → ℕ
opened_by (OpenSection s word) = 1
opened_by step = 0

-- how many times it marks levels undone
abbrev pub undone_by : Step → ℕ
undone_by (MarkUndone s word) = 1
undone_by step = 0

abbrev pub opened_in_steps : List StepMade → ℕ
opened_in_steps [] = 0
opened_in_steps (m ∷ ms) = opened_by m.step + opened_in_steps ms

abbrev pub undone_in_steps : List StepMade → ℕ
undone_in_steps [] = 0
undone_in_steps (m ∷ ms) = undone_by m.step + undone_in_steps ms

-- how many sections the steps of all these parts opened
abbrev pub opened_in_parts : {C : Type 0} → List (ThreadPart C) → ℕ
opened_in_parts ps = sum_parts (λ p. opened_in_steps p.steps) ps

-- and how many times they marked levels undone
abbrev pub undone_in_parts : {C : Type 0} → List (ThreadPart C) → ℕ
undone_in_parts ps = sum_parts (λ p. undone_in_steps p.steps) ps

-- ---- limits

-- a thread that makes this move next, or this silent step, meets the limit
abbrev pub MeetsBy : {S : Type 0} → Move → Option S → Limit → Type 0
MeetsBy (Stop limit) quiet l = l ≡ limit
MeetsBy Quiet None l = l ≡ Limit.Frames
MeetsBy move quiet l = ⊥

-- the next turn of the thread meets the limit
abbrev pub MeetsLimit : {C S : Type 0} → Code S → Setup C → ThreadState S → Limit → Type 0
MeetsLimit code k th l = MeetsBy (next_move code (setup_bounds k) th) (quiet_step code th.local) l

-- ---- a turn, and turns

abbrev pub limit_of_turn : {C Pass : Type 0} → Turn C Pass → Option Limit
limit_of_turn (Turn.Spent limit) = Some limit
limit_of_turn turn = None

-- 1 where it counts
abbrev pub counted_by_turn : {C Pass : Type 0} → Turn C Pass → ℕ
counted_by_turn Turn.Silent = 1
counted_by_turn (Turn.Advanced event) = 1
counted_by_turn (Turn.Born child pass) = 1
counted_by_turn turn = 0

abbrev pub idle_by_turn : {C Pass : Type 0} → Turn C Pass → ℕ
idle_by_turn turn = if is_idle turn then 1 else 0

-- what one turn came to that made a step of this kind, or none, which is kind 0
abbrev pub tally_of_turn : {C Pass : Type 0} → Turn C Pass → ℕ → Tally
tally_of_turn turn kind = record {
  limit = limit_of_turn turn;
  counted = counted_by_turn turn;
  idle = idle_by_turn turn;
  opened = if nat_eq kind 5 then 1 else 0;
  undone = if nat_eq kind 10 then 1 else 0;
}

-- such a turn goes on at this pace so, and has this tally
abbrev pub CameTo : {C Pass : Type 0} → Pace → ℕ → Bool → Tally → Turn C Pass → Type 0
CameTo pace kind more tally turn = (more ≡ goes_on pace turn) × (tally ≡ tally_of_turn turn kind)

-- each of its counts is at most n
abbrev pub IsWithin : ℕ → Tally → Type 0
IsWithin n tally = (tally.counted ≤ n) × (tally.idle ≤ n) × (tally.opened ≤ n) × (tally.undone ≤ n)

-- how many turns in the end were idle, where so many were before, and so many of one turn more
abbrev pub idle_after : ℕ → ℕ → ℕ
idle_after before zero = 0
idle_after before (suc n) = suc before

-- turns, and one more
abbrev pub tally_after : Tally → Tally → Tally
tally_after before turn = record {
  limit = turn.limit;
  counted = before.counted + turn.counted;
  idle = idle_after before.idle turn.idle;
  opened = before.opened + turn.opened;
  undone = before.undone + turn.undone;
}

-- turns, and n plain ones, of which this number counted
abbrev pub tally_after_plain : Tally → ℕ → ℕ → Tally
tally_after_plain before zero counted = before
tally_after_plain before (suc n) counted = record {
  limit = None;
  counted = before.counted + counted;
  idle = 0;
  opened = before.opened;
  undone = before.undone;
}

module _ {C S : Type 0} (state : C → S) (saved : C → List S) (code : Code S) (k : Setup C) where
  -- Such turns, after each of which more follow: none of them opened a section or marked levels undone.
  pub record TookPlainly (n : ℕ) (th : ThreadState S) (v : List (ThreadPart C)) (next : ThreadState S) (w : List (ThreadPart C)) : Type 0 where
    pub took : TookTurns state saved code k (λ turn. goes_on Pace.WhileFree turn ≡ true) n th v next w
    pub opened : opened_in_parts w ≡ opened_in_parts v
    pub undone : undone_in_parts w ≡ undone_in_parts v

  -- the last n turns of the thread, which is `next` and whose seat has the parts w, were idle
  abbrev pub EndsIdly : ℕ → ThreadState S → List (ThreadPart C) → Type 0
  EndsIdly n next w = (th : ThreadState S) × (v : List (ThreadPart C)) × TookTurns state saved code k IsIdle n th v next w

  -- By turns of this tally the thread th, whose seat had the parts v, became `next`, and its seat has the parts w.
  pub record IsTallyOf (th : ThreadState S) (v : List (ThreadPart C)) (next : ThreadState S) (w : List (ThreadPart C)) (tally : Tally) : Type 0 where
    -- the thread makes its own count of turns that count
    pub counted : next.counted ≡ th.counted + tally.counted
    pub idle : EndsIdly tally.idle next w
    -- what the part grew by
    pub opened : opened_in_parts w ≡ opened_in_parts v + tally.opened
    pub undone : undone_in_parts w ≡ undone_in_parts v + tally.undone
    -- the next turn would meet the limit again
    pub limit : IfSome tally.limit (MeetsLimit code k next)
