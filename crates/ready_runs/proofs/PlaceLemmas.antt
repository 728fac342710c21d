-- The words on which a thread makes its next step are in the table.
use Rattle.std.proofs.Common.{◌≡◌, ℕ, ◌+◌, ◌^◌, ◌<◌, ◌≤◌, Bool, true, false, refl, sym, subst, arith}
use Rattle.std.specs.Prelude.{if◌then◌else◌}
use Rattle.op_core.specs.declared.Op.{Op}
use Rattle.op_core.specs.declared.Op.TheVariants.{New, Enter, Exit, Wait, Rewake, Print, Join, Init, InitDone, End}
use Rattle.op_core.specs.declared.Next.{Next}
use Rattle.op_core.specs.declared.Next.TheVariants.{Want}
use Rattle.op_core.specs.ThreadCode.{Code}
use Rattle.op_core.specs.Orderly.{CanStand, IsOrderly}
use Rattle.heap_words.specs.declared.areas.Area.{Area}
use Rattle.heap_words.specs.declared.areas.Areas.{Areas}
use Rattle.heap_words.specs.Areas.{IsIn}
use Rattle.step_port.specs.declared.step.ThreadWord.{ThreadWord}
use Rattle.step_port.specs.declared.step.Step.{Step}
use Rattle.step_port.specs.declared.step.Step.TheVariants.{SwapWord, DrawSection, OpenSection, Pin, Revoke, Commit, TakeMonitor, SetDepth, Release, SetHeader, LoadMonitor, DrawThread, StartThread, LoadThread, SetWait, LoadWait, ClaimClass, Split, OpenLevel, CloseLevel}
use Rattle.step_port.specs.Steps.{place_of}
use Rattle.thread_automaton.specs.declared.Bounds.{Bounds}
use Rattle.thread_automaton.specs.declared.Move.TheVariants.{Make}
use Rattle.thread_automaton.specs.declared.Attempt.TheVariants.{Fixed}
use Rattle.thread_automaton.specs.ThreadState.{ThreadState, is_open}
use Rattle.thread_automaton.specs.NextMove.{own_pin, first_step, next_move}
use Rattle.automaton_rows.specs.Fits.{FixedFits, AttemptFits}
use Rattle.core_runs.specs.Cores.{Core}
use Rattle.section_laws.specs.Starts.{start_word_of, StartsFit}
use Rattle.first_law.specs.Held.{OpensWithin}
use Rattle.ready_runs.specs.Ready.{HasWordsFor}
use Rattle.ready_runs.proofs.MoveLemmas.{of_step}
use Rattle.ready_runs.proofs.MeetLemmas.{met_by}

-- the word is in the table, if it isn't one of objects
abbrev pub IsInOthers : Areas → Area → Type 0
IsInOthers areas (Area.Object n) = Unit {0}
IsInOthers areas place = IsIn areas place

module _ {S : Type 0} (code : Code S) (b : Bounds) (first : S) (classes : ℕ) (areas : Areas) (words : HasWordsFor b classes areas) (orderly : IsOrderly code first classes) (is_thread : ℕ → Bool) (core : Core S)
    (th : ThreadState S) (number : th.number < 256) (own : th.section ≤ b.limits.sections) (met : met_by th.attempt ≤ b.limits.sections) (opens : OpensWithin b.limits.sections th.attempt)
    (starts : StartsFit code is_thread core th) (start_low : (r : ℕ) → code.next th.local ≡ Want (Join r) → start_word_of core r < 2 ^ 8) (can : CanStand code first th.local)
    (fits : AttemptFits th (code.next th.local) th.attempt) where
  abbrev Fits : Step → Type 0
  Fits step = IsInOthers areas (place_of step)

  section_in : (s : ℕ) → s ≤ b.limits.sections → s < areas.sections + 1
  section_in s low = let most = words.sections in omega (arith, low, most)

  own_in : (s : ℕ) → s ≡ th.section → s < areas.sections + 1
  own_in s is = section_in s (subst (λ n. n ≤ b.limits.sections) (sym is) own)

  number_in : (n : ℕ) → n ≡ th.number → n < 256
  number_in n is = subst (λ m. m < 256) (sym is) number

  class_in : (d : ℕ) → d < classes → d < areas.classes + 1
  class_in d low = let most = words.classes in omega (arith, low, most)

  awaited : (r n : ℕ) → code.next th.local ≡ Want (Join r) → th.attempt ≡ Fixed (LoadThread (ThreadWord.Ended n)) → n < 256
  awaited r n wants at = subst (λ m. m < 256) (starts.awaited n r at wants).1 (start_low r wants)

  fixed_in : (next : Next) (step : Step) → code.next th.local ≡ next → th.attempt ≡ Fixed step → FixedFits th next step → met_by (Fixed step) ≤ b.limits.sections → OpensWithin b.limits.sections (Fixed step) → Fits step
  fixed_in (Want (Enter r)) (OpenLevel s w) wants at fit met_low opens_low = own_in s fit.1
  fixed_in (Want (Rewake r)) (OpenLevel s w) wants at fit met_low opens_low = own_in s fit.1
  fixed_in (Want (Exit r)) (Commit s w) wants at fit met_low opens_low = own_in s fit.1
  fixed_in (Want (Exit r)) (CloseLevel s w depth) wants at fit met_low opens_low = own_in s fit.1
  fixed_in (Want (Wait r)) (SetWait n w) wants at fit met_low opens_low = number_in n fit.1
  fixed_in (Want (Op.Notify r)) (LoadWait n) wants at fit met_low opens_low = fit.2
  fixed_in (Want (Op.Notify r)) (Step.Notify n w) wants at fit met_low opens_low = fit.2
  fixed_in (Want (Join r)) (LoadThread (ThreadWord.Ended n)) wants at fit met_low opens_low = awaited r n wants at
  fixed_in (Want (Init c)) (ClaimClass d n) wants at fit met_low opens_low = class_in d (subst (λ m. m < classes) (sym fit.1) (orderly.inits th.local c can wants))
  fixed_in next (Pin s w level) wants at fit met_low opens_low = section_in s met_low
  fixed_in next (Revoke s w level) wants at fit met_low opens_low = section_in s met_low
  fixed_in next (OpenSection s w) wants at fit met_low opens_low = section_in s opens_low
  fixed_in next DrawSection wants at fit met_low opens_low = omega arith
  fixed_in next DrawThread wants at fit met_low opens_low = omega arith
  fixed_in next (Split n r p) wants at fit met_low opens_low = omega arith
  fixed_in next (SwapWord q old new) wants at fit met_low opens_low = tt
  fixed_in next (LoadMonitor r) wants at fit met_low opens_low = tt
  fixed_in next (TakeMonitor r new) wants at fit met_low opens_low = tt
  fixed_in next (SetDepth r new) wants at fit met_low opens_low = tt
  fixed_in next (Release r) wants at fit met_low opens_low = tt
  fixed_in next (SetHeader r w) wants at fit met_low opens_low = tt
  fixed_in next (StartThread r n) wants at fit met_low opens_low = tt
  fixed_in next (LoadThread (ThreadWord.Start r)) wants at fit met_low opens_low = tt
  fixed_in next step wants at fit met_low opens_low = absurd fit

  pinned_in : (step : Step) → Fits step → (t : Bool) → Fits (if t then own_pin th else step)
  pinned_in step is true = own_in th.section refl
  pinned_in step is false = is

  first_in : (op : Op) → code.next th.local ≡ Want op → Fits (first_step code th op)
  first_in (New c n) wants = omega arith
  first_in (Rewake r) wants = number
  first_in (Print x) wants = pinned_in _ (omega arith) (is_open th)
  first_in (Init c) wants = class_in c (orderly.inits th.local c can wants)
  first_in (InitDone c ok) wants = pinned_in _ (class_in c (orderly.settles th.local c ok can wants)) (is_open th)
  first_in (End x) wants = pinned_in _ number (is_open th)
  first_in op wants = tt

  pub step_in : (step : Step) → next_move code b th ≡ Make step → IsInOthers areas (place_of step)
  step_in step makes = of_step code b th Fits (own_in th.section refl) (own_in th.section refl)
      (λ st at. fixed_in (code.next th.local) st refl at (subst (AttemptFits th (code.next th.local)) at fits) (subst (λ g. met_by g ≤ b.limits.sections) at met) (subst (OpensWithin b.limits.sections) at opens))
      (λ s level at. section_in s (subst (λ g. met_by g ≤ b.limits.sections) at met))
      (λ at old. tt) (λ r new. tt) (λ r. tt) (λ w. own_in th.section refl) first_in step makes
