-- Which places of objects the steps of a thread name.
use Rattle.std.proofs.Common.{◌≡◌, ◌⊎◌, inl, inr, ℕ, ◌<◌, ◌&&◌, not, List, [], ◌∷◌, nat_eq, length, ◌-◌, reverse, refl, sym, ◌∙◌, ap, subst}
use Rattle.std.specs.Prelude.{nat_le}
use Rattle.op_core.specs.declared.Op.{Op}
use Rattle.op_core.specs.declared.Op.TheVariants.{ClassOf, Read, Write, New, Enter, Exit, Wait, Rewake, Print, Start, Join, InitDone, End}
use Rattle.op_core.specs.declared.Next.{Next}
use Rattle.op_core.specs.declared.Next.TheVariants.{Silent, Want, Ended}
use Rattle.op_core.specs.ThreadCode.{Code, leaves_any}
use Rattle.heap_words.specs.Words.{pack_header}
use Rattle.section_state.specs.SectionWord.{revoke_of}
use Rattle.write_log.specs.declared.Noted.{Noted}
use Rattle.step_port.specs.declared.step.ThreadWord.{ThreadWord}
use Rattle.step_port.specs.declared.step.Step.{Step}
use Rattle.step_port.specs.declared.step.Step.TheVariants.{LoadWord, SwapWord, RestoreWord, LoadMonitor, TakeMonitor, SetDepth, Release, SetHeader, StartThread, LoadThread, Split, LookMonitor}
use Rattle.thread_automaton.specs.declared.Bounds.{Bounds}
use Rattle.thread_automaton.specs.declared.Held.{Held}
use Rattle.thread_automaton.specs.declared.Move.{Move}
use Rattle.thread_automaton.specs.declared.Move.TheVariants.{Quiet, Make}
use Rattle.thread_automaton.specs.declared.Attempt.{Attempt}
use Rattle.thread_automaton.specs.declared.Attempt.TheVariants.{Begin, Look, Checked, Fixed, Meets, Undoing, Full}
use Rattle.thread_automaton.specs.ThreadState.{ThreadState, inside, is_open, mark_of, noted_since, held_as, from_level}
use Rattle.thread_automaton.specs.NextMove.{own_pin, pinned_then, word_place, deepened_since, undo_step, first_step, silent_move, move_of, next_move}
use Rattle.thread_automaton.specs.Checks.{written_word}
use Rattle.automaton_rows.specs.Fits.{FixedFits, AttemptFits}
use Rattle.automaton_rows.proofs.RowLemmas.{by_if}
use Rattle.section_laws.proofs.DeedLemmas.{makes_it}
use Rattle.section_laws.proofs.run_layout.ListLemmas.{In, in_take, in_filter, Holds, WasMarked, marked_at}

-- the monitor of r is wanted
abbrev pub NamesMonitor : Next → ℕ → Type 0
NamesMonitor (Want (Enter r)) q = q ≡ r
NamesMonitor (Want (Exit r)) q = q ≡ r
NamesMonitor (Want (Wait r)) q = q ≡ r
NamesMonitor (Want (Rewake r)) q = q ≡ r
NamesMonitor (Want (Op.Notify r)) q = q ≡ r
NamesMonitor next q = ⊥

-- the start word of r is wanted
abbrev pub NamesStart : Next → ℕ → Type 0
NamesStart (Want (Start r p)) q = q ≡ r
NamesStart (Want (Join r)) q = q ≡ r
NamesStart next q = ⊥

-- a word or a header is wanted, which lies at this place
abbrev pub NamesWord : Next → ℕ → Type 0
NamesWord (Want (ClassOf r)) at = at ≡ r
NamesWord (Want (Read r i)) at = at ≡ word_place r i
NamesWord (Want (Write r i v)) at = at ≡ word_place r i
NamesWord next at = ⊥

-- a word is to be written there
abbrev pub NamesWrite : {S : Type 0} → ThreadState S → Next → ℕ → ℕ → Type 0
NamesWrite th (Want (Write r i v)) at new = (at ≡ word_place r i) × (new ≡ written_word th v)
NamesWrite th next at new = ⊥

-- a new object is to have this header
abbrev pub NamesNew : Next → ℕ → Type 0
NamesNew next w = (c n : ℕ) × (next ≡ Want (New c n)) × (w ≡ pack_header c n)

-- A step names what is wanted, what was logged, or what is held or was.
abbrev pub Names : {S : Type 0} → ThreadState S → Next → Attempt → Step → Type 0
Names th next g (LoadWord at) = NamesWord next at
Names th next g (SwapWord at old new) = NamesWrite th next at new
Names th next g (RestoreWord at old) = (x : Noted) × In x th.log × (x.at ≡ at) × (x.old ≡ old)
Names th next g (LoadMonitor r) = NamesMonitor next r
Names th next g (TakeMonitor r new) = NamesMonitor next r
Names th next g (SetDepth r new) = NamesMonitor next r ⊎ WasMarked th.marks r
Names th next g (Release r) = NamesMonitor next r ⊎ Holds th.held r
Names th next g (SetHeader r w) = (g ≡ Fixed (SetHeader r w)) × NamesNew next w
Names th next g (StartThread r n) = NamesStart next r × (n < 256) × (g ≡ Fixed (StartThread r n))
Names th next g (LoadThread (ThreadWord.Start r)) = NamesStart next r
Names th next g (LoadThread (ThreadWord.Ended n)) = g ≡ Fixed (LoadThread (ThreadWord.Ended n))
Names th next g (Split n r p) = (next ≡ Want (Start r p)) × (g ≡ Fixed (Split n r p))
Names th next g (LookMonitor r) = ⊥
Names th next g step = Unit {0}

module _ {S : Type 0} (code : Code S) (b : Bounds) (th : ThreadState S) where
  abbrev NamesIt : Next → Attempt → Step → Type 0
  NamesIt next g step = Names th next g step

  abbrev MoveNames : Next → Attempt → Move → Type 0
  MoveNames next g (Make step) = NamesIt next g step
  MoveNames next g move = Unit {0}

  fixed_names : (next : Next) (step : Step) → FixedFits th next step → NamesIt next (Fixed step) step
  fixed_names (Want (Write r i v)) (SwapWord at old new) fits = (fits.0, fits.1)
  fixed_names next (SwapWord at old new) fits = absurd fits
  fixed_names next (LoadWord at) fits = absurd fits
  fixed_names next (RestoreWord at old) fits = absurd fits
  fixed_names (Want (Rewake r)) (LoadMonitor q) fits = fits
  fixed_names next (LoadMonitor q) fits = absurd fits
  fixed_names (Want (Enter r)) (TakeMonitor q new) fits = fits.1
  fixed_names (Want (Rewake r)) (TakeMonitor q new) fits = fits.1
  fixed_names next (TakeMonitor q new) fits = absurd fits
  fixed_names (Want (Enter r)) (SetDepth q new) fits = inl fits.0
  fixed_names (Want (Rewake r)) (SetDepth q new) fits = inl fits.0
  fixed_names (Want (Exit r)) (SetDepth q new) fits = inl fits.0
  fixed_names next (SetDepth q new) fits = absurd fits
  fixed_names (Want (Exit r)) (Release q) fits = inl fits
  fixed_names (Want (Wait r)) (Release q) fits = inl fits.1
  fixed_names next (Release q) fits = absurd fits
  fixed_names (Want (New c n)) (SetHeader r w) fits = (refl, (c, n, refl, fits))
  fixed_names next (SetHeader r w) fits = absurd fits
  fixed_names (Want (Start r p)) (StartThread q n) fits = (fits.1, fits.3, refl)
  fixed_names next (StartThread q n) fits = absurd fits
  fixed_names next (LoadThread (ThreadWord.Start r)) fits = absurd fits
  fixed_names next (LoadThread (ThreadWord.Ended n)) fits = refl
  fixed_names (Want (Start r p)) (Split n q o) fits = (ap (λ m. Want (Start m p)) (sym fits.1) ∙ ap (λ m. Want (Start q m)) (sym fits.2), refl)
  fixed_names next (Split n r p) fits = absurd fits
  fixed_names next (LookMonitor r) fits = absurd fits
  fixed_names next step fits = tt

  pinned_names : (next : Next) (g : Attempt) (step : Step) → NamesIt next g step → NamesIt next g (pinned_then th step)
  pinned_names next g step names = by_if (NamesIt next g) (is_open th) (own_pin th) step (λ yes. tt) (λ other. names)

  first_names : (g : Attempt) (op : Op) → NamesIt (Want op) g (first_step code th op)
  first_names g (ClassOf r) = refl
  first_names g (Read r i) = refl
  first_names g (Write r i v) = refl
  first_names g (Enter r) = refl
  first_names g (Exit r) = refl
  first_names g (Wait r) = refl
  first_names g (Op.Notify r) = refl
  first_names g (Start r p) = refl
  first_names g (Join r) = refl
  first_names g (Print x) = pinned_names (Want (Print x)) g _ tt
  first_names g (InitDone c ok) = pinned_names (Want (InitDone c ok)) g _ tt
  first_names g (End x) = pinned_names (Want (End x)) g _ tt
  first_names g op = tt

  undo_names : (next : Next) (g : Attempt) (s w : ℕ) (log : List Noted) (deepened taken : List Held) → ((x : Noted) → In x log → In x th.log)
      → ((h : Held) → In h deepened → WasMarked th.marks h.object) → ((h : Held) → In h taken → In h th.held) → NamesIt next g (undo_step s w log deepened taken)
  undo_names next g s w (x ∷ log) deepened taken logs marks holds = (x, logs x (inl refl), refl, refl)
  undo_names next g s w [] (h ∷ deepened) taken logs marks holds = inr (marks h (inl refl))
  undo_names next g s w [] [] (h ∷ taken) logs marks holds = inr (h, holds h (inl refl), refl)
  undo_names next g s w [] [] [] logs marks holds = tt

  silent_names : (g : Attempt) (step : Step) → NamesIt Silent g step → MoveNames Silent g (silent_move code th step)
  silent_names g step names = by_if (MoveNames Silent g) (is_open th && leaves_any code th.saved th.local) (Make step) Quiet (λ yes. names) (λ other. tt)

  move_names : (next : Next) (g : Attempt) → AttemptFits th next g → MoveNames next g (move_of code th next g)
  move_names next (Fixed step) fits = fixed_names next step fits
  move_names next (Meets s level) fits = tt
  move_names next (Undoing w) fits =
      let n = revoke_of w in let mark = mark_of th n in
      undo_names next (Undoing w) th.section w (noted_since mark.noted th.log) (deepened_since mark th.held) (from_level n th.held)
      (λ x there. in_take (length th.log - mark.noted) x th.log there)
      (λ h there. marked_at (inside th n) th.marks h (in_filter (λ h. not (nat_eq (held_as h.object th.held).depth h.depth)) h (reverse mark.held) there))
      (λ h there. in_filter (λ h. nat_le n h.level) h th.held there)
  move_names next (Full limit) fits = tt
  move_names Silent Look fits = tt
  move_names (Want op) Look fits = tt
  move_names Silent Begin fits = silent_names Begin _ tt
  move_names Silent Checked fits = silent_names Checked _ tt
  move_names (Want op) Begin fits = by_if (MoveNames (Want op) Begin) (is_open th) (Make _) (Make _) (λ yes. tt) (λ other. first_names Begin op)
  move_names (Want op) Checked fits = first_names Checked op
  move_names Ended Begin fits = tt
  move_names Ended Look fits = tt
  move_names Ended Checked fits = tt

  pub step_names : (step : Step) → AttemptFits th (code.next th.local) th.attempt → next_move code b th ≡ Make step → Names th (code.next th.local) th.attempt step
  step_names step fits makes =
      subst (MoveNames (code.next th.local) th.attempt) (makes_it th.over (nat_le b.limits.turns th.counted) _ step makes) (move_names (code.next th.local) th.attempt fits)
