-- What each row makes of the monitors that a thread holds and of its levels, and what others see of it.
use Rattle.std.proofs.Common.{◌≡◌, ◌⊎◌, inl, inr, ℕ, zero, suc, ◌-◌, ◌<◌, ◌≤◌, Bool, true, false, drop, List, [], ◌∷◌, refl, arith}
use Rattle.op_core.specs.declared.Op.TheVariants.{Exit, Wait, Start, Init}
use Rattle.op_core.specs.declared.Op.{Op}
use Rattle.op_core.specs.declared.Next.{Next}
use Rattle.op_core.specs.declared.Next.TheVariants.{Want}
use Rattle.op_core.specs.ThreadCode.{Code}
use Rattle.op_core.specs.OrdinaryState.{set_at, Monitor, free, entered}
use Rattle.op_core.specs.InPlaceList.{owned_by}
use Rattle.section_state.specs.SectionWord.{revoke_of}
use Rattle.step_port.specs.declared.answer.StepAnswer.{StepAnswer}
use Rattle.step_port.specs.declared.answer.StepAnswer.TheVariants.{Found}
use Rattle.step_port.specs.declared.step.Step.{Step}
use Rattle.step_port.specs.declared.step.Step.TheVariants.{SetHeader, MarkUndone, LoadMonitor, Release}
use Rattle.thread_automaton.specs.declared.Bounds.{Bounds}
use Rattle.thread_automaton.specs.declared.Held.{Held}
use Rattle.thread_automaton.specs.declared.Attempt.TheVariants.{Fixed, Undoing}
use Rattle.thread_automaton.specs.ThreadState.{ThreadState, Mark, is_open, held_as, with_depth_of}
use Rattle.thread_automaton.specs.NextMove.{own_pin}
use Rattle.thread_automaton.specs.Changes.{Change, goes, forgotten, without, changed}
use Rattle.thread_automaton.specs.Checks.{behind_pin, to_pin}
use Rattle.thread_automaton.specs.Told.{Told, shown, told_of}
use Rattle.automaton_rows.specs.Undoing.{is_held}
use Rattle.automaton_rows.proofs.RowLemmas.{by_if}
use Rattle.core_runs.specs.Cores.{outermost, levels_by}
use Rattle.first_law.proofs.run_monitors.ChangeLemmas.{Ground}
use Rattle.first_law.specs.SettledRuns.{monitors_by}

-- ---- owners

pub owned_some : (t d : ℕ) → 0 < d → owned_by t d ≡ Monitor.held t d
owned_some t zero some = absurd (no some)
  where
    no : 0 < 0 → ⊥
    no some = omega (arith, some)
owned_some t (suc d) some = refl

pub entered_owned : (t d : ℕ) → 0 < d → entered t (owned_by t d) ≡ owned_by t (suc d)
entered_owned t zero some = absurd (no some)
  where
    no : 0 < 0 → ⊥
    no some = omega (arith, some)
entered_owned t (suc d) some = refl

-- ---- turns

-- others see nothing of it that has to do with monitors
abbrev pub Unseen : ℕ → Told → Next → Type 0
Unseen t told next = (depth : ℕ) (monitors : ℕ → Monitor) → monitors_by t told next depth monitors ≡ monitors

-- where the monitor of r was this, others see that it is that then
abbrev pub Sees : ℕ → Told → Next → ℕ → ℕ → Monitor → Monitor → Type 0
Sees t told next depth r old new = (monitors : ℕ → Monitor) → monitors r ≡ old → (q : ℕ) → monitors_by t told next depth monitors q ≡ set_at monitors r new q

-- Why thread x may leave the monitor of r: it is that of an inner level, which is closed; or all levels were seen pinned;
-- or no other is held, and the section is committed; or the section is undone to that level or further out.
pub data Leaves {S : Type 0} (t : ℕ) (next : Next) (x : ThreadState S) (told : Told) (r : ℕ) : Type 0 where
  of_level : x.levels < (held_as r x.held).level → Sees t told next x.depth r (owned_by t (held_as r x.held).depth) free → Leaves t next x told r
  of_pinned : is_open x ≡ false → Sees t told next x.depth r (owned_by t (held_as r x.held).depth) free → Leaves t next x told r
  of_last : x.attempt ≡ Fixed (Release r) → next ≡ Want (Exit r) → without r x.held ≡ [] → Sees t told next x.depth r (owned_by t (held_as r x.held).depth) free → Leaves t next x told r
  of_undoing : (w : ℕ) → x.attempt ≡ Undoing w → revoke_of w ≤ (held_as r x.held).level → Unseen t told next → Leaves t next x told r

-- Thread t, which is x, does this next and makes the step as act number k, which reports this. Its levels go from the first
-- list to the second. Then it holds these monitors, has these marks, and has a level open or not.
pub data MonitorTurn {S : Type 0} (k t : ℕ) (next : Next) (x : ThreadState S) (behind : List Held) (marks : List Mark) (open_then : Bool) (told : Told) (levels levels_then : List ℕ) (step : Step) : Type 0 where
  calm : behind ≡ x.held → levels_then ≡ levels → (marks ≡ x.marks) ⊎ (open_then ≡ false) → Unseen t told next → MonitorTurn k t next x behind marks open_then told levels levels_then step
  opens_one : (m : Mark) → m.held ≡ x.held → behind ≡ x.held → levels_then ≡ k ∷ levels → (marks ≡ m ∷ x.marks) ⊎ (open_then ≡ false) → Unseen t told next
      → MonitorTurn k t next x behind marks open_then told levels levels_then step
  closes_some : (n : ℕ) → behind ≡ x.held → levels_then ≡ outermost n levels → (marks ≡ drop (x.levels - n) x.marks) ⊎ (open_then ≡ false) → ((s w : ℕ) → step ≡ MarkUndone s w → ⊥) → Unseen t told next
      → MonitorTurn k t next x behind marks open_then told levels levels_then step
  is_undone_to : (w s v : ℕ) → x.attempt ≡ Undoing w → step ≡ MarkUndone s v → behind ≡ x.held → levels_then ≡ outermost (revoke_of w - 1) levels
      → (marks ≡ drop (suc (x.levels - revoke_of w)) x.marks) ⊎ (open_then ≡ false) → Unseen t told next → MonitorTurn k t next x behind marks open_then told levels levels_then step
  takes_one : (h : Held) → is_held h.object x.held ≡ false → behind ≡ h ∷ x.held → levels_then ≡ levels → marks ≡ x.marks → Sees t told next x.depth h.object free (owned_by t h.depth)
      → MonitorTurn k t next x behind marks open_then told levels levels_then step
  sets_one : (r d : ℕ) → is_held r x.held ≡ true → behind ≡ with_depth_of r d x.held → levels_then ≡ levels → marks ≡ x.marks
      → Sees t told next x.depth r (owned_by t (held_as r x.held).depth) (owned_by t d) ⊎ ((w : ℕ) × (x.attempt ≡ Undoing w) × Unseen t told next)
      → MonitorTurn k t next x behind marks open_then told levels levels_then step
  leaves_one : (r : ℕ) → is_held r x.held ≡ true → behind ≡ without r x.held → ((levels_then ≡ levels) × (marks ≡ x.marks)) ⊎ ((levels_then ≡ []) × (x.attempt ≡ Fixed (Release r)) × (next ≡ Want (Exit r)) × (without r x.held ≡ [])) → Leaves t next x told r
      → MonitorTurn k t next x behind marks open_then told levels levels_then step
  makes_one : (r w : ℕ) → step ≡ SetHeader r w → behind ≡ x.held → levels_then ≡ levels → marks ≡ x.marks
      → ((depth : ℕ) (monitors : ℕ → Monitor) → monitors_by t told next depth monitors ≡ set_at monitors r free) → MonitorTurn k t next x behind marks open_then told levels levels_then step

module _ {S : Type 0} {code : Code S} {first : S} {classes : ℕ} (b : Bounds) {th : ThreadState S} (ground : Ground code first classes th) (k t : ℕ) (levels : List ℕ) where
  abbrev pub TurnTo : Next → Step → StepAnswer → Change → ThreadState S → List ℕ → Type 0
  TurnTo next step a change y then_ = MonitorTurn k t next th y.held y.marks (is_open y) (told_of next step a change (shown change)) levels then_ step

  abbrev pub Turns : Next → Step → StepAnswer → Change → Type 0
  Turns next step a change = TurnTo next step a change (changed code th change) (levels_by k change levels)

  -- where the thread may forget its marks
  pub forgets : {next : Next} {step : Step} {told : Told} {then_ : List ℕ} (y : ThreadState S) → ((marks : List Mark) → (marks ≡ y.marks) ⊎ (is_open y ≡ false)
      → MonitorTurn k t next th y.held marks (is_open y) told levels then_ step) → MonitorTurn k t next th (forgotten y).held (forgotten y).marks (is_open (forgotten y)) told levels then_ step
  forgets {next} {step} {told} {then_} y turn = by_if (λ (z : ThreadState S). MonitorTurn k t next th z.held z.marks (is_open z) told levels then_ step) (is_open y) y (record y { log = []; saved = []; marks = [] })
      (λ open_so. turn y.marks (inl refl)) (λ shut. turn [] (inr shut))

  pub pin_turns : (next : Next) (r m : ℕ) → Turns next (LoadMonitor r) (Found m) (goes (to_pin th next))
  pin_turns next r m = by_if (λ g. Turns next (LoadMonitor r) (Found m) (goes g)) (is_open th) (Fixed (own_pin th)) (behind_pin th next) (λ open_so. calm refl refl (inl refl) (λ depth monitors. refl)) (λ shut. behind next)
    where
      behind : (next : Next) → Turns next (LoadMonitor r) (Found m) (goes (behind_pin th next))
      behind (Want (Exit q)) = calm refl refl (inl refl) (λ depth monitors. refl)
      behind (Want (Wait q)) = calm refl refl (inl refl) (λ depth monitors. refl)
      behind (Want (Op.Notify q)) = calm refl refl (inl refl) (λ depth monitors. refl)
      behind (Want (Start q p)) = calm refl refl (inl refl) (λ depth monitors. refl)
      behind (Want (Init c)) = calm refl refl (inl refl) (λ depth monitors. refl)
      behind next = calm refl refl (inl refl) (λ depth monitors. refl)
