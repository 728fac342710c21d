-- What hosts of a thread's code know of it, and of the moves of its turns.
use Rattle.std.proofs.Common.{◌≡◌, ℕ, zero, suc, ◌+◌, ◌-◌, ◌<◌, ◌≤◌, ◌&&◌, Bool, true, false, Option, None, Some, List, [], ◌∷◌, ◌++◌, refl, ◌∙◌, ap, arith}
use Rattle.std.specs.Prelude.{nat_le, min, if◌then◌else◌}
use Rattle.std.specs.Option.{option_and_then}
use Rattle.std.proofs.lemmas.Bool.Decides.{nat_tests}
use Rattle.std.proofs.lemmas.Grind.{common_steps}
use Rattle.op_core.specs.declared.Limit.TheVariants.{Turns}
use Rattle.op_core.specs.declared.Op.{Op}
use Rattle.op_core.specs.declared.Next.TheVariants.{Want}
use Rattle.op_core.specs.ThreadCode.{Code}
use Rattle.step_port.specs.declared.answer.StepAnswer.{StepAnswer}
use Rattle.step_port.specs.declared.step.Step.{Step}
use Rattle.step_port.specs.Steps.{kind_of}
use Rattle.thread_automaton.specs.declared.Attempt.{Attempt}
use Rattle.thread_automaton.specs.declared.Attempt.TheVariants.{Begin}
use Rattle.thread_automaton.specs.declared.Bounds.{Bounds}
use Rattle.thread_automaton.specs.declared.Move.TheVariants.{Over, Stop, Make}
use Rattle.thread_automaton.specs.ThreadState.{ThreadState}
use Rattle.thread_automaton.specs.NextMove.{move_of, next_move}
use Rattle.thread_automaton.specs.Changes.{Change, changed}
use Rattle.thread_automaton.specs.Answers.{change_of}
use Rattle.thread_automaton.specs.Told.{Told, shown, told_of, told, counted_for, after_answer, after_quiet}
use Rattle.thread_moves.specs.declared.thread.Own.{Own}
use Rattle.turn_runs.specs.Turns.{TurnMove, silent, made, last_kind}
use Rattle.turn_runs.specs.Own.{thread_at, own_quiet}
use Rattle.turn_runs.specs.HostPlaces.{IsBetween}

pub not_full : (turns counted : ℕ) → counted < turns → nat_le turns counted ≡ false
not_full turns counted below = grind (arith, common_steps, nat_tests)

pub never_both : (t u : Bool) → u ≡ false → (t && u) ≡ false
never_both true u is = is
never_both false u is = refl

pub last_kind_joined : (k : ℕ) (moves others : List TurnMove) → last_kind k (moves ++ others) ≡ last_kind (last_kind k moves) others
last_kind_joined k [] others = refl
last_kind_joined k (silent ∷ moves) others = last_kind_joined 0 moves others
last_kind_joined k (made next step answer tells ∷ moves) others = last_kind_joined (kind_of step) moves others

pub and_then_some : {A : Type 0} (f : A → Option A) (x : Option A) (y : A) → option_and_then f x ≡ Some y → (m : A) × (x ≡ Some m) × (f m ≡ Some y)
and_then_some f None y is = absurd (cc)
and_then_some f (Some m) y is = (m, refl, is)

pub sum_on : (a b c n m : ℕ) → a ≡ b + n → b ≡ c + m → a ≡ c + (n + m)
sum_on a b c n m one two = omega (arith, one, two)

pub room_left : (left turns counted n : ℕ) → n ≤ min left (turns - counted) → 0 < n → counted + n ≤ turns
room_left left turns counted n room some = omega (arith, room, some)

-- ---- silent turns

pub one_more_quiet : {S : Type 0} (own : Own) (saves : List S) (n : ℕ) (m l : S) → after_quiet (thread_at (own_quiet own n) Begin m saves) l ≡ thread_at (own_quiet own (suc n)) Begin l saves
one_more_quiet own saves zero m l =
    let counted : suc own.counted ≡ own.counted + 1 = omega arith in
    let silents : suc own.silents ≡ own.silents + 1 = omega arith in
    λ i. record (thread_at own Begin l saves) { counted = counted i; silents = silents i }
one_more_quiet own saves (suc n) m l =
    let counted : suc (own.counted + suc n) ≡ own.counted + suc (suc n) = omega arith in
    let silents : suc (own.silents + suc n) ≡ own.silents + suc (suc n) = omega arith in
    λ i. record (thread_at own Begin l saves) { counted = counted i; silents = silents i }

pub counted_quiet : (own : Own) (n turns : ℕ) → own.counted + n < turns → nat_le turns (own_quiet own n).counted ≡ false
counted_quiet own zero turns below = not_full turns own.counted (omega (arith, below))
counted_quiet own (suc n) turns below = not_full turns (own.counted + suc n) below

pub lives_quiet : (own : Own) (n : ℕ) → own.over ≡ false → (own_quiet own n).over ≡ false
lives_quiet own zero lives = lives
lives_quiet own (suc n) lives = lives

pub quiet_between : (own : Own) (n : ℕ) → IsBetween own → IsBetween (own_quiet own n)
quiet_between own zero is = is
quiet_between own (suc n) is = record { begins = is.begins; lives = is.lives; counts = let counts = is.counts in omega (arith, counts) }

-- ---- what a thread makes of an answer, while its code wants an operation

module _ {S : Type 0} (code : Code S) (b : Bounds) (th : ThreadState S) (op : Op) (wants : code.next th.local ≡ Want op) (step : Step) (answer : StepAnswer)
    (change : Change) (tells : Told) (change_is : change_of code b th (Want op) step answer ≡ change) (tells_is : told_of (Want op) step answer change (shown change) ≡ tells) where
  pub told_is : told code b th step answer ≡ tells
  told_is =
      ap (λ next. told_of next step answer (change_of code b th next step answer) (shown (change_of code b th next step answer))) wants
      ∙ ap (λ change. told_of (Want op) step answer change (shown change)) change_is ∙ tells_is

  pub after_is : (last : ThreadState S) → counted_for tells (changed code th change) ≡ last → after_answer code b th step answer ≡ last
  after_is last is =
      ap (λ tells. counted_for tells (changed code th (change_of code b th (code.next th.local) step answer))) told_is
      ∙ ap (λ next. counted_for tells (changed code th (change_of code b th next step answer))) wants
      ∙ ap (λ change. counted_for tells (changed code th change)) change_is ∙ is

-- the next move of a thread that wants an operation and goes on
pub moves_so : {S : Type 0} (code : Code S) (b : Bounds) (own : Own) (l : S) (saves : List S) (op : Op) (a : Attempt) (step : Step) → code.next l ≡ Want op → own.over ≡ false
    → own.counted < b.limits.turns → move_of code (thread_at own a l saves) (Want op) a ≡ Make step → next_move code b (thread_at own a l saves) ≡ Make step
moves_so code b own l saves op a step wants lives below is =
    ap (λ over. if over then Over else if nat_le b.limits.turns own.counted then Stop Turns else move_of code (thread_at own a l saves) (code.next l) a) lives
    ∙ ap (λ full. if full then Stop Turns else move_of code (thread_at own a l saves) (code.next l) a) (not_full b.limits.turns own.counted below)
    ∙ ap (λ next. move_of code (thread_at own a l saves) next a) wants ∙ is
