-- What a thread holds as it begins, and with silent moves; and which objects there are.
use Rattle.std.proofs.Common.{◌≡◌, ◌⊎◌, inl, inr, ℕ, ◌<◌, ◌&&◌, Bool, true, false, true≢false, Option, None, Some, List, [], nat_eq, refl, sym, ◌∙◌, ap, subst, arith}
use Rattle.std.specs.Prelude.{nat_lt, nat_le, if◌then◌else◌}
use Rattle.std.proofs.lemmas.Grind.{common_steps}
use Rattle.std.proofs.lemmas.Bool.Decides.{nat_tests}
use Rattle.op_core.specs.declared.Limit.TheVariants.{Turns}
use Rattle.op_core.specs.declared.Op.TheVariants.{New}
use Rattle.op_core.specs.declared.Next.{Next}
use Rattle.op_core.specs.declared.Next.TheVariants.{Want}
use Rattle.op_core.specs.ThreadCode.{Code}
use Rattle.op_core.specs.Orderly.{IsRewake}
use Rattle.op_core.specs.OrdinaryState.{set_at, Object}
use Rattle.op_core.proofs.PointwiseLemmas.{same_or_other, set_at-hit, set_at-other}
use Rattle.step_port.specs.declared.answer.StepAnswer.{StepAnswer}
use Rattle.step_port.specs.declared.step.Step.{Step}
use Rattle.step_port.specs.declared.step.Step.TheVariants.{SetHeader}
use Rattle.thread_automaton.specs.declared.Bounds.{Bounds}
use Rattle.thread_automaton.specs.declared.Held.{Held}
use Rattle.thread_automaton.specs.declared.Move.{Move}
use Rattle.thread_automaton.specs.declared.Move.TheVariants.{Over, Quiet, Stop}
use Rattle.thread_automaton.specs.declared.Attempt.{Attempt}
use Rattle.thread_automaton.specs.declared.Attempt.TheVariants.{Fixed, Undoing}
use Rattle.thread_automaton.specs.ThreadState.{ThreadState, first_state}
use Rattle.thread_automaton.specs.NextMove.{move_of, next_move}
use Rattle.thread_automaton.specs.Told.{Told, advanced, born, counted_for}
use Rattle.core_runs.specs.Cores.{objects_by}
use Rattle.section_laws.specs.Marks.{counting_marks}
use Rattle.section_laws.proofs.level_marks.RowLemmas.{IsUndoing}
use Rattle.first_law.specs.Held.{top_at, AtRest, TopHolds, MarksHold, Holds}
use Rattle.first_law.proofs.run_monitors.KeptLemmas.{KeptOf, waits_usual}
use Rattle.first_law.proofs.run_monitors.DeedLemmas.{MonitorDeed}

pub contrary : {P : Type 0} → true ≡ false → P
contrary same = absurd (true≢false same)

pub own_parts : (n s : ℕ) → (nat_lt 0 s && nat_eq n s) ≡ true → (0 < s) × (n ≡ s)
own_parts n s own = (some n s own, same n s own)
  where
    some : (n s : ℕ) → (nat_lt 0 s && nat_eq n s) ≡ true → 0 < s
    some n s own = grind (arith, common_steps, nat_tests)

    same : (n s : ℕ) → (nat_lt 0 s && nat_eq n s) ≡ true → n ≡ s
    same n s own = grind (arith, common_steps, nat_tests)

-- ---- one thread

pub holds_of : {S : Type 0} (b : Bounds) (next : Next) (y : ThreadState S) → KeptOf b next y → MarksHold (top_at y.attempt y.levels) (counting_marks y.attempt y.levels y.marks) y.held → Holds b next y
holds_of b next y k m =
    record { once = k.once; apart = k.apart; depths = k.depths; levels = k.levels_have; top = k.top; fixed = k.fixed; waits = k.waits; marks = m; within = k.within; opens = k.opens }

pub counted_holds : {S : Type 0} (code : Code S) (b : Bounds) (told : Told) (y : ThreadState S) → KeptOf b (code.next y.local) y → MarksHold (top_at y.attempt y.levels) (counting_marks y.attempt y.levels y.marks) y.held
    → Holds b (code.next (counted_for told y).local) (counted_for told y)
counted_holds code b (advanced None) y k m = holds_of b (code.next y.local) (counted_for (advanced None) y) k m
counted_holds code b (advanced (Some reply)) y k m = holds_of b (code.next y.local) (counted_for (advanced (Some reply)) y) k m
counted_holds code b born y k m = holds_of b (code.next y.local) (counted_for born y) k m
counted_holds code b other y k m = holds_of b (code.next y.local) y k m

pub counted_deed : {S : Type 0} (s : ℕ) (held : List Held) (step : Step) (a : StepAnswer) (told : Told) (y : ThreadState S) → MonitorDeed s y.section held y.held step a
    → MonitorDeed s (counted_for told y).section held (counted_for told y).held step a
counted_deed s held step a (advanced None) y deed = deed
counted_deed s held step a (advanced (Some reply)) y deed = deed
counted_deed s held step a born y deed = deed
counted_deed s held step a other y deed = deed

-- one that begins
pub begins_holding : {S : Type 0} (b : Bounds) (number priority : ℕ) (l : S) (next : Next) → (IsRewake next → ⊥) → Holds b next (first_state number priority l)
begins_holding b number priority l next usual = record {
  once = tt;
  apart = tt;
  depths = tt;
  levels = λ n some deep under. absurd (no n under);
  top = λ some. absurd (no 0 some);
  fixed = tt;
  waits = waits_usual 1 0 [] next usual refl;
  marks = tt;
  within = omega arith;
  opens = tt;
}
  where
    no : (n : ℕ) → n < 0 → ⊥
    no n under = omega (arith, under)

abbrev IsQuiet : Move → Type 0
IsQuiet Quiet = Unit {0}
IsQuiet move = ⊥

-- a silent move is made at no fixed step, and where nothing is being undone
module _ {S : Type 0} (code : Code S) (b : Bounds) (th : ThreadState S) (move : next_move code b th ≡ Quiet) where
  quiet_move : IsQuiet (move_of code th (code.next th.local) th.attempt)
  quiet_move = by_tests th.over (nat_le b.limits.turns th.counted) move
    where
      by_tests : (over full : Bool) → (if over then Over else if full then Stop Turns else move_of code th (code.next th.local) th.attempt) ≡ Quiet → IsQuiet (move_of code th (code.next th.local) th.attempt)
      by_tests true full is = absurd (subst IsQuiet (sym is) tt)
      by_tests false true is = absurd (subst IsQuiet (sym is) tt)
      by_tests false false is = subst IsQuiet (sym is) tt

  pub quiet_calm : IsUndoing th.attempt → ⊥
  quiet_calm undoing = by_attempt th.attempt quiet_move undoing
    where
      by_attempt : (g : Attempt) → IsQuiet (move_of code th (code.next th.local) g) → IsUndoing g → ⊥
      by_attempt (Undoing w) none undoing = none
      by_attempt g none undoing = undoing

  pub quiet_rest : (levels level : ℕ) (held : List Held) (next : Next) → TopHolds levels level held next th.attempt → AtRest levels level held next
  quiet_rest levels level held next top = by_attempt th.attempt quiet_move top
    where
      by_attempt : (g : Attempt) → IsQuiet (move_of code th (code.next th.local) g) → TopHolds levels level held next g → AtRest levels level held next
      by_attempt (Undoing w) none top = absurd none
      by_attempt (Fixed step) none top = absurd none
      by_attempt g none top = top

-- ---- objects

module _ {S : Type 0} (code : Code S) where
  -- objects stay
  pub object_stays : (step : Step) (l : S) (next : Next) (objects : ℕ → Option Object) (r : ℕ) → (o : Object) × (objects r ≡ Some o) → (o : Object) × (objects_by code step l next objects r ≡ Some o)
  object_stays (SetHeader q w) l (Want (New k n)) objects r there = elim (same_or_other r q) [
    | inl here ↦ (
      record { class = k; length = n; words = code.words l k n },
      ap (set_at objects q (Some (record { class = k; length = n; words = code.words l k n }))) here
          ∙ set_at-hit objects q (Some (record { class = k; length = n; words = code.words l k n })),
    )
    | inr other ↦ (there.0, set_at-other objects q (Some (record { class = k; length = n; words = code.words l k n })) r other ∙ there.1)
  ]
  object_stays step l next objects r there = there

  -- one that is there was there before, or is made
  pub object_came : (step : Step) (l : S) (next : Next) (objects : ℕ → Option Object) (r : ℕ) → (o : Object) × (objects_by code step l next objects r ≡ Some o)
      → ((o : Object) × (objects r ≡ Some o)) ⊎ ((w : ℕ) × (step ≡ SetHeader r w))
  object_came (SetHeader q w) l (Want (New k n)) objects r there = elim (same_or_other r q) [
    | inl here ↦ inr (w, ap (λ m. SetHeader m w) (sym here))
    | inr other ↦ inl (there.0, sym (set_at-other objects q (Some (record { class = k; length = n; words = code.words l k n })) r other) ∙ there.1)
  ]
  object_came step l next objects r there = inl there
