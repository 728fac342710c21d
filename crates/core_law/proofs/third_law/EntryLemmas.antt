-- Which acts show that a thread goes back, or a step of a thread.
use Rattle.std.proofs.Common.{◌≡◌, ℕ, zero, suc, ◌+◌, ◌-◌, Option, None, Some, List, [], ◌∷◌, length, refl, sym, ◌∙◌, ap, subst, arith}
use Rattle.std.specs.Prelude.{slice_get}
use Rattle.std.proofs.lemmas.Option.{same_Some}
use Rattle.op_core.specs.declared.Next.{Next}
use Rattle.op_core.specs.declared.Next.TheVariants.{Silent, Want, Ended}
use Rattle.op_core.specs.ThreadCode.{Code}
use Rattle.op_core.specs.InPlaceList.{Entry, go_back, unseen}
use Rattle.op_core.specs.CleanCut.{IsStepOf}
use Rattle.section_state.specs.SectionWord.{revoke_of}
use Rattle.monitor_core.specs.Monitors.{monitor_depth}
use Rattle.step_port.specs.declared.answer.StepAnswer.{StepAnswer}
use Rattle.step_port.specs.declared.answer.StepAnswer.TheVariants.{Found, Lost}
use Rattle.step_port.specs.declared.step.Step.{Step}
use Rattle.step_port.specs.declared.step.Step.TheVariants.{OpenSection, OpenLevel, RestoreWord, SetDepth, Release, MarkUndone}
use Rattle.thread_automaton.specs.declared.Bounds.{Bounds}
use Rattle.thread_automaton.specs.declared.Attempt.{Attempt}
use Rattle.thread_automaton.specs.declared.Attempt.TheVariants.{Undoing}
use Rattle.thread_automaton.specs.ThreadState.{ThreadState}
use Rattle.thread_automaton.specs.Told.{Told, probed, advanced, born, blocked, told}
use Rattle.core_runs.specs.Cores.{Core}
use Rattle.core_runs.specs.Acts.{Act}
use Rattle.core_runs.specs.Entries.{event_told, go_back_to, back_to, monitor_shows, StepShows, Shows, ShowFrom}
use Rattle.section_laws.proofs.section_levels.RowLemmas.{IsOpening}
use Rattle.first_law.proofs.EntryLemmas.{no_event}

-- ---- entries

abbrev pub IsGoBack : Entry → Type 0
IsGoBack (go_back t p) = Unit {0}
IsGoBack entry = ⊥

told_goes_nowhere : (t : ℕ) (next : Next) (told : Told) → IsGoBack (event_told t next told) → ⊥
told_goes_nowhere t Silent told is = is
told_goes_nowhere t Ended told is = is
told_goes_nowhere t (Want op) probed is = is
told_goes_nowhere t (Want op) (advanced None) is = is
told_goes_nowhere t (Want op) (advanced (Some reply)) is = is
told_goes_nowhere t (Want op) born is = is
told_goes_nowhere t (Want op) (Told.lost v) is = is
told_goes_nowhere t (Want op) (blocked why) is = is

monitor_goes_nowhere : (t : ℕ) (g : Attempt) (r count : ℕ) (e : Entry) → (IsGoBack e → ⊥) → IsGoBack (monitor_shows t g r count e) → ⊥
monitor_goes_nowhere t (Undoing w) r count e other is = is
monitor_goes_nowhere t g r count e other is = other is

told_is_own : (t u : ℕ) (next : Next) (told : Told) → IsStepOf u (Some (event_told t next told)) → t ≡ u
told_is_own t u Silent told is = absurd is
told_is_own t u Ended told is = absurd is
told_is_own t u (Want op) probed is = absurd is
told_is_own t u (Want op) (advanced None) is = absurd is
told_is_own t u (Want op) (advanced (Some reply)) is = is
told_is_own t u (Want op) born is = absurd is
told_is_own t u (Want op) (Told.lost v) is = absurd is
told_is_own t u (Want op) (blocked why) is = absurd is

monitor_is_own : (t u : ℕ) (g : Attempt) (r count : ℕ) (e : Entry) → (IsStepOf u (Some e) → t ≡ u) → IsStepOf u (Some (monitor_shows t g r count e)) → t ≡ u
monitor_is_own t u (Undoing w) r count e own is = absurd is
monitor_is_own t u g r count e own is = own is

back_is_no_step : (t u : ℕ) (g : Attempt) (levels : List ℕ) → IsStepOf u (Some (back_to t g levels)) → ⊥
back_is_no_step t u (Undoing w) levels is = by_place (slice_get levels (length levels - revoke_of w)) is
  where
    by_place : (o : Option ℕ) → IsStepOf u (Some (go_back_to t o)) → ⊥
    by_place None is = is
    by_place (Some p) is = is
back_is_no_step t u g levels is = is

-- ---- steps that go back

-- the step marks a section as undone; its thread is undoing it to the level that was opened at place p
pub record GoesBackBy (t u p : ℕ) (attempt : Attempt) (levels : List ℕ) (step : Step) : Type 0 where
  pub word : ℕ
  pub section : ℕ
  pub mark : ℕ
  pub own : t ≡ u
  pub undoing : attempt ≡ Undoing word
  pub opened : slice_get levels (length levels - revoke_of word) ≡ Some p
  pub is : step ≡ MarkUndone section mark

abbrev thread_of : Entry → ℕ
thread_of (go_back t p) = t
thread_of entry = 0

abbrev place_of : Entry → ℕ
place_of (go_back t p) = p
place_of entry = 0

back_by : (t u p s m : ℕ) (g : Attempt) (levels : List ℕ) → go_back u p ≡ back_to t g levels → GoesBackBy t u p g levels (MarkUndone s m)
back_by t u p s m (Undoing w) levels is = by_place (slice_get levels (length levels - revoke_of w)) refl is
  where
    by_place : (o : Option ℕ) → slice_get levels (length levels - revoke_of w) ≡ o → go_back u p ≡ go_back_to t o → GoesBackBy t u p (Undoing w) levels (MarkUndone s m)
    by_place None at is = absurd (subst IsGoBack is tt)
    by_place (Some q) at is = record { word = w; section = s; mark = m; own = sym (ap thread_of is); undoing = refl; opened = at ∙ ap Some (sym (ap place_of is)); is = refl }
back_by t u p s m g levels is = absurd (subst IsGoBack is tt)

module _ {S : Type 0} (code : Code S) (b : Bounds) (core : Core S) (t u : ℕ) (th : ThreadState S) where
  pub goes_back_by : (p : ℕ) (step : Step) (a : StepAnswer) → StepShows code b core t th step a (go_back u p) → GoesBackBy t u p th.attempt (core.levels t) step
  goes_back_by p (RestoreWord at old) a (r, i, there, place, is) = absurd (subst IsGoBack is tt)
  goes_back_by p (Release r) a is = absurd (monitor_goes_nowhere t th.attempt r 0 (event_told t (code.next th.local) (told code b th (Release r) a))
      (told_goes_nowhere t (code.next th.local) (told code b th (Release r) a)) (subst IsGoBack is tt))
  goes_back_by p (SetDepth r new) a is = absurd (monitor_goes_nowhere t th.attempt r (monitor_depth new) (event_told t (code.next th.local) (told code b th (SetDepth r new) a))
      (told_goes_nowhere t (code.next th.local) (told code b th (SetDepth r new) a)) (subst IsGoBack is tt))
  goes_back_by p (MarkUndone s w) a is = back_by t u p s w th.attempt (core.levels t) is
  goes_back_by p step a is = absurd (told_goes_nowhere t (code.next th.local) (told code b th step a) (subst IsGoBack is tt))

  -- a step shows events of its own thread alone
  pub step_is_own : (e : Entry) (step : Step) (a : StepAnswer) → StepShows code b core t th step a e → IsStepOf u (Some e) → t ≡ u
  step_is_own e (RestoreWord at old) a (r, i, there, place, is) own = absurd (subst (λ x. IsStepOf u (Some x)) is own)
  step_is_own e (Release r) a is own = monitor_is_own t u th.attempt r 0 (event_told t (code.next th.local) (told code b th (Release r) a))
      (told_is_own t u (code.next th.local) (told code b th (Release r) a)) (subst (λ x. IsStepOf u (Some x)) is own)
  step_is_own e (SetDepth r new) a is own = monitor_is_own t u th.attempt r (monitor_depth new) (event_told t (code.next th.local) (told code b th (SetDepth r new) a))
      (told_is_own t u (code.next th.local) (told code b th (SetDepth r new) a)) (subst (λ x. IsStepOf u (Some x)) is own)
  step_is_own e (MarkUndone s w) a is own = absurd (back_is_no_step t u th.attempt (core.levels t) (subst (λ x. IsStepOf u (Some x)) is own))
  step_is_own e step a is own = told_is_own t u (code.next th.local) (told code b th step a) (subst (λ x. IsStepOf u (Some x)) is own)

  -- one that opens a level shows nothing
  pub opening_is_unseen : (e : Entry) (step : Step) (a : StepAnswer) → IsOpening step → StepShows code b core t th step a e → e ≡ unseen
  opening_is_unseen e (OpenSection s w) StepAnswer.Done opening is = is ∙ no_event t (code.next th.local) (told code b th (OpenSection s w) StepAnswer.Done) tt
  opening_is_unseen e (OpenSection s w) (Found v) opening is = is ∙ no_event t (code.next th.local) (told code b th (OpenSection s w) (Found v)) tt
  opening_is_unseen e (OpenSection s w) (Lost v) opening is = is ∙ no_event t (code.next th.local) (told code b th (OpenSection s w) (Lost v)) tt
  opening_is_unseen e (OpenLevel s w) StepAnswer.Done opening is = is ∙ no_event t (code.next th.local) (told code b th (OpenLevel s w) StepAnswer.Done) tt
  opening_is_unseen e (OpenLevel s w) (Found v) opening is = is ∙ no_event t (code.next th.local) (told code b th (OpenLevel s w) (Found v)) tt
  opening_is_unseen e (OpenLevel s w) (Lost v) opening is = is ∙ no_event t (code.next th.local) (told code b th (OpenLevel s w) (Lost v)) tt
  opening_is_unseen e step a opening is = absurd opening

-- ---- lists of entries

-- an entry is shown by an act
abbrev pub IsShown : {S : Type 0} → Code S → Bounds → (ℕ → Core S) → List Act → ℕ → Entry → Type 0
IsShown code b c acts k e = (x : Act) × (slice_get acts k ≡ Some x) × Shows code b (c k) x e

module _ {S : Type 0} (code : Code S) (b : Bounds) (c : ℕ → Core S) where
  shown_from : (acts : List Act) (es : List Entry) (k j : ℕ) (e : Entry) → ShowFrom code b c k acts es → slice_get es j ≡ Some e
      → (x : Act) × (slice_get acts j ≡ Some x) × Shows code b (c (k + j)) x e
  shown_from [] [] k j e shows at = cc
  shown_from (x ∷ acts) [] k j e shows at = absurd shows
  shown_from [] (y ∷ es) k j e shows at = absurd shows
  shown_from (x ∷ acts) (y ∷ es) k zero e shows at = (x, refl, subst (λ n. Shows code b (c n) x e) (omega arith) (subst (Shows code b (c k) x) (same_Some y e at) shows.0))
  shown_from (x ∷ acts) (y ∷ es) k (suc j) e shows at =
      let rest = shown_from acts es (suc k) j e shows.1 at in (rest.0, rest.1, subst (λ n. Shows code b (c n) rest.0 e) (omega arith) rest.2)

  pub shown_at : (acts : List Act) (es : List Entry) (j : ℕ) (e : Entry) → ShowFrom code b c 0 acts es → slice_get es j ≡ Some e → IsShown code b c acts j e
  shown_at acts es j e shows at =
      let found = shown_from acts es 0 j e shows at in (found.0, found.1, subst (λ n. Shows code b (c n) found.0 e) (omega arith) found.2)

  entry_from : (acts : List Act) (es : List Entry) (k j : ℕ) (x : Act) → ShowFrom code b c k acts es → slice_get acts j ≡ Some x
      → (e : Entry) × (slice_get es j ≡ Some e) × Shows code b (c (k + j)) x e
  entry_from [] [] k j x shows at = cc
  entry_from (y ∷ acts) [] k j x shows at = absurd shows
  entry_from [] (e ∷ es) k j x shows at = absurd shows
  entry_from (y ∷ acts) (e ∷ es) k zero x shows at = (e, refl, subst (λ n. Shows code b (c n) x e) (omega arith) (subst (λ z. Shows code b (c k) z e) (same_Some y x at) shows.0))
  entry_from (y ∷ acts) (e ∷ es) k (suc j) x shows at =
      let rest = entry_from acts es (suc k) j x shows.1 at in (rest.0, rest.1, subst (λ n. Shows code b (c n) x rest.0) (omega arith) rest.2)

  -- each act shows its entry
  pub entry_at : (acts : List Act) (es : List Entry) (j : ℕ) (x : Act) → ShowFrom code b c 0 acts es → slice_get acts j ≡ Some x → (e : Entry) × (slice_get es j ≡ Some e) × Shows code b (c j) x e
  entry_at acts es j x shows at =
      let found = entry_from acts es 0 j x shows at in (found.0, found.1, subst (λ n. Shows code b (c n) x found.0) (omega arith) found.2)
