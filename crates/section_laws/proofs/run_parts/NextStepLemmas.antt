-- A part decides the step that comes next: silent moves are counted turns, so at most as many as the limit of turns come before
-- a step; and a thread that makes a step next makes no silent move.
use Rattle.std.proofs.Common.{◌≡◌, ℕ, zero, suc, ◌+◌, ◌≤◌, ◌<◌, Bool, true, false, true≢false, None, Some, List, [], ◌∷◌, refl, sym, ◌∙◌, ap, subst, arith, zero-add}
use Rattle.std.specs.Prelude.{nat_le, if◌then◌else◌}
use native.Mathlib.Nat.{suc-add}
use Rattle.std.proofs.lemmas.Grind.{common_steps}
use Rattle.std.proofs.lemmas.Bool.Decides.{nat_tests}
use Rattle.op_core.specs.ThreadCode.{Code, quiet_step}
use Rattle.op_core.specs.declared.Limit.TheVariants.{Turns}
use Rattle.step_port.specs.declared.answer.StepAnswer.{StepAnswer}
use Rattle.step_port.specs.declared.step.Step.{Step}
use Rattle.thread_automaton.specs.declared.Bounds.{Bounds}
use Rattle.thread_automaton.specs.declared.Move.{Move}
use Rattle.thread_automaton.specs.declared.Move.TheVariants.{Over, Quiet, Stop, Make}
use Rattle.thread_automaton.specs.ThreadState.{ThreadState}
use Rattle.thread_automaton.specs.NextMove.{move_of, next_move}
use Rattle.thread_automaton.specs.Told.{after_answer, after_quiet}
use Rattle.core_runs.specs.declared.StepMade.{StepMade}
use Rattle.core_runs.specs.OwnParts.{is_beside, Quietly, MakesOwn, OwnTo, IsOwnPart}
use Rattle.section_laws.specs.NextSteps.{step_made, after_move, next_quiet, or_stay, after_quiets, when_quiet, state_after_part, step_in, next_step, PartsDecide}

module _ {S : Type 0} (code : Code S) (b : Bounds) where
  quiet_is : (z : ThreadState S) (l : S) → next_move code b z ≡ Quiet → quiet_step code z.local ≡ Some l → next_quiet code b z ≡ Some (after_quiet z l)
  quiet_is z l move step = ap (λ m. after_move z m (quiet_step code z.local)) move ∙ ap (λ o. after_move z Quiet o) step

  -- silent moves, one after another
  pub quiet_join : (n k : ℕ) (x y z : ThreadState S) → Quietly code b k x y → Quietly code b n y z → Quietly code b (n + k) x z
  quiet_join zero k x y z one two = subst (λ m. Quietly code b m x z) (sym (zero-add k)) (subst (λ v. Quietly code b k x v) two one)
  quiet_join (suc n) k x y z one (v, l, before, move, step, is) =
      subst (λ m. Quietly code b m x z) (sym (suc-add n k)) (v, l, quiet_join n k x y v one before, move, step, is)

  -- the first of them
  pub quiet_front : (n : ℕ) (x y : ThreadState S) → Quietly code b (suc n) x y → (z : ThreadState S) × (next_quiet code b x ≡ Some z) × Quietly code b n z y
  quiet_front zero x y (v, l, before, move, step, is) =
      let same : x ≡ v = before in
      (y, ap (λ (th : ThreadState S). next_quiet code b th) same ∙ quiet_is v l move step ∙ ap Some (sym is), refl)
  quiet_front (suc n) x y (v, l, before, move, step, is) =
      let f = quiet_front n x v before in
      (f.0, f.1, (v, l, f.2, move, step, is))

  quiet_count : (n : ℕ) (x y : ThreadState S) → Quietly code b n x y → y.counted ≡ n + x.counted
  quiet_count zero x y is = let e = ap (λ (th : ThreadState S). th.counted) (sym is) in omega (arith, e)
  quiet_count (suc n) x y (v, l, before, move, step, is) =
      let e = ap (λ (th : ThreadState S). th.counted) is in
      let f = quiet_count n x v before in
      omega (arith, e, f)

  -- a thread that makes a silent move hasn't made all its counted turns
  room_for : (z : ThreadState S) → next_move code b z ≡ Quiet → z.counted < b.limits.turns
  room_for z move = by_over z.over (nat_le b.limits.turns z.counted) refl (ap goes move)
    where
      goes : Move → Bool
      goes Quiet = true
      goes m = false

      by_over : (o t : Bool) → nat_le b.limits.turns z.counted ≡ t → goes (if o then Over else if t then Stop Turns else move_of code z (code.next z.local) z.attempt) ≡ true → z.counted < b.limits.turns
      by_over true t at h = absurd (true≢false (sym h))
      by_over false true at h = absurd (true≢false (sym h))
      by_over false false at h = grind (arith, common_steps, nat_tests)

  within : (n : ℕ) (x y : ThreadState S) → Quietly code b n x y → n ≤ b.limits.turns
  within zero x y is = omega arith
  within (suc n) x y (v, l, before, move, step, is) = let c = quiet_count n x v before in let r = room_for v move in omega (arith, c, r)

  not_quiet : (z : ThreadState S) (step : Step) → next_move code b z ≡ Make step → next_quiet code b z ≡ None
  not_quiet z step move = ap (λ m. after_move z m (quiet_step code z.local)) move

  leads_there : (n k : ℕ) (x z : ThreadState S) (step : Step) → Quietly code b n x z → next_move code b z ≡ Make step → n ≤ k → after_quiets code b k x ≡ z
  leads_there zero zero x z step is move le = is
  leads_there zero (suc k) x z step is move le =
      ap (or_stay (λ y. after_quiets code b k y) x) (ap (λ (th : ThreadState S). next_quiet code b th) is ∙ not_quiet z step move) ∙ is
  leads_there (suc n) zero x z step is move le = absurd (omega (arith, le))
  leads_there (suc n) (suc k) x z step is move le =
      let f = quiet_front n x z is in
      ap (or_stay (λ y. after_quiets code b k y) x) f.1 ∙ leads_there n k f.0 z step f.2 move (omega (arith, le))

  makes_then : (n : ℕ) (x z : ThreadState S) (step : Step) → Quietly code b n x z → next_move code b z ≡ Make step → when_quiet code b x ≡ z
  makes_then n x z step is move = leads_there n b.limits.turns x z step is move (within n x z is)

  -- after its part a thread is as the part says, and has then made silent moves
  pub part_says : (x : ThreadState S) (part : List StepMade) (y : ThreadState S) → OwnTo code b x part y → (n : ℕ) × Quietly code b n (state_after_part code b x part) y
  part_says x [] y own = (0, own)
  part_says x (m ∷ part) y (v, z, n, own, quiet, makes) =
      let f = part_says x part v own in
      by_test (n + f.0, quiet_join n f.0 _ v z f.1 quiet) (is_beside m.step) makes
    where
      by_test : (before : (k : ℕ) × Quietly code b k (state_after_part code b x part) z) → (t : Bool) → MakesOwn t code b m z y
          → (k : ℕ) × Quietly code b k (if t then state_after_part code b x part else after_answer code b (when_quiet code b (state_after_part code b x part)) m.step m.answer) y
      by_test before true same = (before.0, subst (λ v. Quietly code b before.0 (state_after_part code b x part) v) same before.1)
      by_test before false does = (0, ap (λ v. after_answer code b v m.step m.answer) (makes_then before.0 _ z m.step before.1 does.0) ∙ sym does.1)

  decide : (x : ThreadState S) (part : List StepMade) (step : Step) (answer : StepAnswer) → is_beside step ≡ false → IsOwnPart code b x (step_made step answer ∷ part)
      → next_step code b x part ≡ Some step
  decide x part step answer own_step (y, (v, z, n, own, quiet, makes)) =
      let does = subst (λ t. MakesOwn t code b (step_made step answer) z y) own_step makes in
      let f = part_says x part v own in
      let at = makes_then (n + f.0) _ z step (quiet_join n f.0 _ v z f.1 quiet) does.0 in
      ap (λ (th : ThreadState S). step_in (next_move code b th)) at ∙ ap step_in does.0

pub parts_decide : {S : Type 0} (code : Code S) → PartsDecide code
parts_decide code b x part step answer own_step own = decide code b x part step answer own_step own
