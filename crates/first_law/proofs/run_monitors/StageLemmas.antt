-- From which stages a thread makes its steps.
use Rattle.std.proofs.Common.{◌≡◌, ℕ, ◌&&◌, List, refl, sym, ap, subst}
use Rattle.op_core.specs.declared.Op.{Op}
use Rattle.op_core.specs.declared.Op.TheVariants.{Print, InitDone, End, Exit, Wait}
use Rattle.op_core.specs.declared.Next.{Next}
use Rattle.op_core.specs.declared.Next.TheVariants.{Silent, Want, Ended}
use Rattle.op_core.specs.ThreadCode.{Code, leaves_any}
use Rattle.section_state.specs.SectionWord.{revoke_of}
use Rattle.step_port.specs.declared.step.Step.{Step}
use Rattle.step_port.specs.declared.step.Step.TheVariants.{LoadSection, OpenSection, OpenLevel, CloseLevel, Pin, Commit, TakeMonitor, SetDepth, Release, SetWait, LoadWait, Ticket, EndThread}
use Rattle.thread_automaton.specs.declared.Attempt.{Attempt}
use Rattle.thread_automaton.specs.declared.Attempt.TheVariants.{Begin, Look, Checked, Fixed, Meets, Undoing, Full}
use Rattle.thread_automaton.specs.declared.Held.{Held}
use Rattle.thread_automaton.specs.declared.Move.{Move}
use Rattle.thread_automaton.specs.declared.Move.TheVariants.{Quiet, Make}
use Rattle.thread_automaton.specs.ThreadState.{ThreadState, is_open, mark_of, noted_since, from_level}
use Rattle.thread_automaton.specs.NextMove.{own_pin, first_step, deepened_since, move_of}
use Rattle.automaton_rows.proofs.RowLemmas.{by_if}
use Rattle.section_laws.proofs.level_marks.RowLemmas.{NoUndo, NoUndoIn, IsUndoing, undo_is}
use Rattle.first_law.specs.Held.{AtRest, TopHolds, PinsFor, GoesFor, StageHolds}

abbrev In : (Step → Type 0) → Move → Type 0
In P (Make step) = P step
In P move = ⊥

abbrev step_in : Step → Move → Step
step_in step (Make other) = other
step_in step move = step

want_is : (a c : Op) → Want a ≡ Want c → a ≡ c
want_is a c same = ap op_in same
  where
    op_in : Next → Op
    op_in (Want op) = op
    op_in next = a

module _ {S : Type 0} (code : Code S) (th : ThreadState S) where
  -- A step that is neither a look at a section, nor the first of an operation, nor a pin for a silent move, is made where it
  -- was fixed.
  pub fixed_by : (P : Step → Type 0) (next : Next) (g : Attempt) (step : Step) → ((s : ℕ) → P (LoadSection s) → ⊥) → ((op : Op) → next ≡ Want op → P (first_step code th op) → ⊥)
      → (P (own_pin th) → next ≡ Silent → ⊥) → (IsUndoing g → ⊥) → P step → move_of code th next g ≡ Make step → g ≡ Fixed step
  fixed_by P next (Fixed st) step looks first pin calm is makes = ap Fixed (ap (step_in st) makes)
  fixed_by P next (Meets s level) step looks first pin calm is makes = absurd (looks s (subst (In P) (sym makes) is))
  fixed_by P next (Undoing w) step looks first pin calm is makes = absurd (calm tt)
  fixed_by P next (Full limit) step looks first pin calm is makes = absurd (subst (In P) (sym makes) is)
  fixed_by P Silent Look step looks first pin calm is makes = absurd (looks th.section (subst (In P) (sym makes) is))
  fixed_by P (Want op) Look step looks first pin calm is makes = absurd (looks th.section (subst (In P) (sym makes) is))
  fixed_by P Ended Look step looks first pin calm is makes = absurd (subst (In P) (sym makes) is)
  fixed_by P Silent Begin step looks first pin calm is makes = absurd (by_if (λ move. In P move → ⊥) (is_open th && leaves_any code th.saved th.local) (Make (LoadSection th.section)) Quiet
      (λ open_so. looks th.section) (λ shut none. none) (subst (In P) (sym makes) is))
  fixed_by P (Want op) Begin step looks first pin calm is makes = absurd (by_if (λ move. In P move → ⊥) (is_open th) (Make (LoadSection th.section)) (Make (first_step code th op))
      (λ open_so. looks th.section) (λ shut. first op refl) (subst (In P) (sym makes) is))
  fixed_by P Ended Begin step looks first pin calm is makes = absurd (subst (In P) (sym makes) is)
  fixed_by P Silent Checked step looks first pin calm is makes = absurd (by_if (λ move. In P move → ⊥) (is_open th && leaves_any code th.saved th.local) (Make (own_pin th)) Quiet
      (λ open_so so. pin so refl) (λ shut none. none) (subst (In P) (sym makes) is))
  fixed_by P (Want op) Checked step looks first pin calm is makes = absurd (first op refl (subst (In P) (sym makes) is))
  fixed_by P Ended Checked step looks first pin calm is makes = absurd (subst (In P) (sym makes) is)

  -- steps that begin no operation
  abbrev pub OnlyFixed : Step → Type 0
  OnlyFixed (OpenSection s w) = Unit {0}
  OnlyFixed (OpenLevel s w) = Unit {0}
  OnlyFixed (CloseLevel s w n) = Unit {0}
  OnlyFixed (Commit s w) = Unit {0}
  OnlyFixed (TakeMonitor r new) = Unit {0}
  OnlyFixed (SetDepth r new) = Unit {0}
  OnlyFixed (Release r) = Unit {0}
  OnlyFixed (SetWait n w) = Unit {0}
  OnlyFixed step = ⊥

  first_only : (op : Op) → OnlyFixed (first_step code th op) → ⊥
  first_only (Print x) only = by_if (λ step. OnlyFixed step → ⊥) (is_open th) (own_pin th) Ticket (λ open_so none. none) (λ shut none. none) only
  first_only (InitDone c ok) only = by_if (λ step. OnlyFixed step → ⊥) (is_open th) (own_pin th) _ (λ open_so none. none) (λ shut none. none) only
  first_only (End x) only = by_if (λ step. OnlyFixed step → ⊥) (is_open th) (own_pin th) (EndThread th.number) (λ open_so none. none) (λ shut none. none) only
  first_only op only = only

  pub fixed_at : (next : Next) (g : Attempt) (step : Step) → OnlyFixed step → (IsUndoing g → ⊥) → move_of code th next g ≡ Make step → g ≡ Fixed step
  fixed_at next g step only calm makes = fixed_by OnlyFixed next g step (λ s none. none) (λ op same. first_only op) (λ none same. none) calm only makes

  -- nothing is being undone where another step is made
  pub undoes_none : (next : Next) (step : Step) (g : Attempt) → move_of code th next g ≡ Make step → NoUndo step → IsUndoing g → ⊥
  undoes_none next step (Undoing w) makes none is = undo_is th.section w (noted_since (mark_of th (revoke_of w)).noted th.log) (deepened_since (mark_of th (revoke_of w)) th.held)
      (from_level (revoke_of w) th.held) (subst NoUndoIn (sym makes) none)
  undoes_none next step g makes none is = absurd is

  -- and no monitor is about to be released
  pub at_rest : (levels level : ℕ) (held : List Held) (next : Next) (step : Step) (g : Attempt) → move_of code th next g ≡ Make step → NoUndo step → TopHolds levels level held next g
      → AtRest levels level held next
  at_rest levels level held next step (Undoing w) makes none top = absurd (undoes_none next step (Undoing w) makes none tt)
  at_rest levels level held next step (Fixed (Release q)) makes none top = absurd (subst NoUndoIn (sym makes) none)
  at_rest levels level held next step g makes none top = top

  -- ---- the operations that pin, or go on, after a look at a monitor

  abbrev IsPin : Step → Type 0
  IsPin (Pin s w level) = Unit {0}
  IsPin step = ⊥

  abbrev pub IsScan : Step → Type 0
  IsScan (LoadWait n) = Unit {0}
  IsScan (Step.Notify n w) = Unit {0}
  IsScan step = ⊥

  not_silent : {A : Type 0} (op : Op) → Want op ≡ Silent → A
  not_silent op same = absurd (subst IsWant same tt)
    where
      IsWant : Next → Type 0
      IsWant (Want op) = Unit {0}
      IsWant next = ⊥

  module _ (section levels pinned : ℕ) (held : List Held) where
    pub pin_holds : (next : Next) (g : Attempt) (s w level : ℕ) → StageHolds section levels pinned held next g → (IsUndoing g → ⊥) → move_of code th next g ≡ Make (Pin s w level) → PinsFor held next
    pin_holds (Want (Exit r)) g s w level stage calm makes = subst (StageHolds section levels pinned held (Want (Exit r)))
        (fixed_by IsPin (Want (Exit r)) g (Pin s w level) (λ s none. none) (λ op same is. subst (λ o. IsPin (first_step code th o)) (sym (want_is (Exit r) op same)) is) (λ is same. not_silent (Exit r) same) calm tt makes) stage
    pin_holds (Want (Wait r)) g s w level stage calm makes = subst (StageHolds section levels pinned held (Want (Wait r)))
        (fixed_by IsPin (Want (Wait r)) g (Pin s w level) (λ s none. none) (λ op same is. subst (λ o. IsPin (first_step code th o)) (sym (want_is (Wait r) op same)) is) (λ is same. not_silent (Wait r) same) calm tt makes) stage
    pin_holds (Want (Op.Notify r)) g s w level stage calm makes = subst (StageHolds section levels pinned held (Want (Op.Notify r)))
        (fixed_by IsPin (Want (Op.Notify r)) g (Pin s w level) (λ s none. none) (λ op same is. subst (λ o. IsPin (first_step code th o)) (sym (want_is (Op.Notify r) op same)) is) (λ is same. not_silent (Op.Notify r) same) calm tt makes) stage
    pin_holds next g s w level stage calm makes = tt

    -- a notify goes on with its search
    pub scan_holds : (r : ℕ) (g : Attempt) (n : ℕ) → StageHolds section levels pinned held (Want (Op.Notify r)) g → (IsUndoing g → ⊥) → move_of code th (Want (Op.Notify r)) g ≡ Make (LoadWait n)
        → GoesFor held (Want (Op.Notify r))
    scan_holds r g n stage calm makes = subst (StageHolds section levels pinned held (Want (Op.Notify r)))
        (fixed_by IsScan (Want (Op.Notify r)) g (LoadWait n) (λ s none. none) (λ op same is. subst (λ o. IsScan (first_step code th o)) (sym (want_is (Op.Notify r) op same)) is)
        (λ is same. not_silent (Op.Notify r) same) calm tt makes) stage

    pub wakes_holds : (r : ℕ) (g : Attempt) (n w : ℕ) → StageHolds section levels pinned held (Want (Op.Notify r)) g → (IsUndoing g → ⊥) → move_of code th (Want (Op.Notify r)) g ≡ Make (Step.Notify n w)
        → GoesFor held (Want (Op.Notify r))
    wakes_holds r g n w stage calm makes = subst (StageHolds section levels pinned held (Want (Op.Notify r)))
        (fixed_by IsScan (Want (Op.Notify r)) g (Step.Notify n w) (λ s none. none) (λ op same is. subst (λ o. IsScan (first_step code th o)) (sym (want_is (Op.Notify r) op same)) is)
        (λ is same. not_silent (Op.Notify r) same) calm tt makes) stage
