-- The laws of sections in runs as lists.
use Rattle.std.proofs.Common.{◌≡◌, ◌≢◌, ◌⊎◌, inl, inr, ℕ, zero, suc, ◌<◌, Some, List, [], ◌∷◌, refl, sym, ◌∙◌, ap, subst, arith}
use Rattle.std.specs.Prelude.{Contains, slice_get}
use Rattle.std.proofs.lemmas.Option.{same_Some}
use Rattle.op_core.specs.ThreadCode.{Code}
use Rattle.heap_words.specs.declared.areas.Area.TheVariants.{Section}
use Rattle.section_state.specs.SectionWord.{state_of}
use Rattle.step_port.specs.declared.answer.StepAnswer.{StepAnswer}
use Rattle.step_port.specs.declared.step.Step.TheVariants.{OpenSection}
use Rattle.step_port.specs.Words.{Words}
use Rattle.thread_automaton.specs.declared.Bounds.{Bounds}
use Rattle.thread_automaton.specs.declared.Move.TheVariants.{Make}
use Rattle.thread_automaton.specs.ThreadState.{ThreadState}
use Rattle.thread_automaton.specs.NextMove.{next_move}
use Rattle.thread_automaton.specs.Told.{after_answer}
use Rattle.core_runs.specs.WordRuns.{RunEntry, words_by}
use Rattle.core_runs.specs.declared.Birth.{Birth}
use Rattle.core_runs.specs.OwnParts.{IsCoreRun}
use Rattle.section_laws.specs.Runs.{BeginsAt, IsPinnedOrRevoked}
use Rattle.section_laws.specs.InRuns.{StandsBehind, IsMaker, SectionsOpenOnceInRuns, SectionsAreApartInRuns, OthersSectionsStayInRuns}
use Rattle.section_laws.proofs.WordLemmas.{state_of_zero, put_section, state_packed}
use Rattle.section_laws.proofs.DeedLemmas.{opening_of, view, above, Deed, opens_of}
use Rattle.section_laws.proofs.ClaimLemmas.{is_zero, claim_some, section_changes}
use Rattle.section_laws.proofs.FactLemmas.{Facts}
use Rattle.section_laws.proofs.SectionLemmas.{touches}
use Rattle.section_laws.proofs.CoreRunLemmas.{none_there, behind_front, in_front, StandsIn, sub_run, maker, deed_by, run_facts, onwards}

-- an item at a place is one of the list
pub is_in_list : {A : Type 0} (xs : List A) (k : ℕ) (x : A) → slice_get xs k ≡ Some x → Contains xs x
is_in_list [] k x at = absurd (no_item k at)
  where
    no_item : (k : ℕ) → slice_get [] k ≡ Some x → ⊥
    no_item k at = cc
is_in_list (y ∷ xs) zero x at = (0, omega arith, same_Some y x at)
is_in_list (y ∷ xs) (suc k) x at = behind_front y x xs (is_in_list xs k x at)

module _ {S : Type 0} (code : Code S) (b : Bounds) (first : Birth → ThreadState S) (main : Birth) (w : Words) (none : (s : ℕ) → w (Section s) ≡ 0)
    (fresh : (birth : Birth) → BeginsAt (first birth)) where
  abbrev IsOne : List RunEntry → Type 0
  IsOne run = IsCoreRun code b first main w run

  abbrev shorter : (e : RunEntry) (run : List RunEntry) → IsOne (e ∷ run) → IsOne run
  shorter e run so = sub_run code b first main w none fresh e run so

  abbrev state : List RunEntry → ℕ → ℕ
  state run s = state_of (words_by w run (Section s))

  facts_in : (run : List RunEntry) → IsOne run → Facts code (words_by w run) (StandsIn code b run)
  facts_in run so = run_facts code b first main w none fresh run so

  stands_in : {run : List RunEntry} {t : ℕ} {th : ThreadState S} → StandsBehind code b first main run t th → StandsIn code b run t th
  stands_in at = record { start = first at.birth; begins = fresh at.birth; behind = at.last; own = at.own; moves = at.moves; quiet = at.quietly }

  deed_in : (e : RunEntry) (run : List RunEntry) → IsOne (e ∷ run) → (z : ThreadState S) → StandsIn code b run e.thread z → next_move code b z ≡ Make e.made.step
      → Deed z e.made.step e.made.answer (view (after_answer code b z e.made.step e.made.answer))
  deed_in e run so z at move = deed_by code b first main w none fresh e run so (facts_in run (shorter e run so)) z at move

  -- ---- numbers are opened once

  abbrev opening : ℕ → ℕ → ℕ → RunEntry
  opening t s x = record { thread = t; made = record { step = OpenSection s x; answer = StepAnswer.Done } }

  opened_from : (t s x : ℕ) (run : List RunEntry) → IsOne (opening t s x ∷ run) → (state run s ≡ 0) × (0 < state (opening t s x ∷ run) s)
  opened_from t s x run so =
      let e = opening t s x in
      let one = maker code b first main w none fresh e run so refl in
      let opens = opens_of (deed_in e run so one.thread one.stands one.move) in
      let unopened = (facts_in run (shorter e run so)).unopened t one.thread one.stands (is_zero one.thread.section opens.none_open)
      (subst (λ n. 0 < n) (sym opens.opening) (above s opens.some)) in
      let live : state (e ∷ run) s ≡ 1 = ap state_of (put_section (words_by w run) s x ∙ opens.word) ∙ state_packed 1 one.thread.number one.thread.priority 0 1 0 (omega arith) in
      (ap (λ n. state run n) (sym opens.opening) ∙ ap state_of unopened ∙ state_of_zero, omega (arith, live))

  opened_in : (run : List RunEntry) → IsOne run → (t s x : ℕ) → Contains run (opening t s x) → 0 < state run s
  opened_in [] so t s x there = none_there _ there
  opened_in (e ∷ run) so t s x there = elim (in_front e (opening t s x) run there) [
    | inl is ↦ subst (λ z. IsOne (z ∷ run) → 0 < state (z ∷ run) s) (sym is) (λ now. (opened_from t s x run now).1) so
    | inr before ↦ onwards code b first main w none fresh e run so s (opened_in run (shorter e run so) t s x before)
  ]

  not_again : (e : RunEntry) (run : List RunEntry) → IsOne (e ∷ run) → (t u s v x : ℕ) → e ≡ opening t s v → Contains run (opening u s x) → ⊥
  not_again e run so t u s v x is there =
      let now = opened_from t s v run (subst (λ z. IsOne (z ∷ run)) is so) in
      let before = opened_in run (shorter e run so) u s x there in
      omega (arith, now.0, before)

  once : (run : List RunEntry) → IsOne run → (j k t u s v x : ℕ) → slice_get run j ≡ Some (opening t s v) → slice_get run k ≡ Some (opening u s x) → j ≡ k
  once [] so j k t u s v x at there = none_there _ (is_in_list [] j _ at)
  once (e ∷ run) so zero zero t u s v x at there = refl
  once (e ∷ run) so zero (suc k) t u s v x at there = absurd (not_again e run so t u s v x (same_Some e _ at) (is_in_list run k _ there))
  once (e ∷ run) so (suc j) zero t u s v x at there = absurd (not_again e run so u t s x v (same_Some e _ there) (is_in_list run j _ at))
  once (e ∷ run) so (suc j) (suc k) t u s v x at there = ap suc (once run (shorter e run so) j k t u s v x at there)

  -- ---- the sections of others

  others : (e : RunEntry) (run : List RunEntry) → IsOne (e ∷ run) → (s : ℕ) (th : ThreadState S) → IsMaker code b first main e run th → s ≢ th.section
      → (words_by w run (Section s) ≡ 0 → ⊥)
      → (words_by w (e ∷ run) (Section s) ≡ words_by w run (Section s)) ⊎ IsPinnedOrRevoked (words_by w run (Section s)) (words_by w (e ∷ run) (Section s))
  others e run so s th by other some =
      let at = stands_in by.stands in
      let facts = facts_in run (shorter e run so) in
      touches (section_changes th (words_by w run) (deed_in e run so th at by.makes) so.words.1 s) other
      (λ closed opens above_zero. ap (λ n. words_by w run (Section n)) (sym opens) ∙ facts.unopened e.thread th at closed (subst (λ n. 0 < n) (sym opens) above_zero)) some

  apart : (run : List RunEntry) → IsOne run → (t u : ℕ) (th uh : ThreadState S) → StandsIn code b run t th → StandsIn code b run u uh → 0 < th.section → th.section ≡ uh.section → t ≡ u
  apart run so t u th uh at there some same =
      let claims = claim_some th.section (opening_of th.attempt) some in
      (facts_in run so).apart t u th uh at there (subst (λ n. 0 < n) (sym claims) some)
      (claims ∙ same ∙ sym (claim_some uh.section (opening_of uh.attempt) (subst (λ n. 0 < n) same some)))

pub open_once_in_runs : {S : Type 0} (code : Code S) → SectionsOpenOnceInRuns code
open_once_in_runs code b first main w run so j k t u s v x at there = once code b first main w so.sections so.threads run so.is_run j k t u s v x at there

pub apart_in_runs : {S : Type 0} (code : Code S) → SectionsAreApartInRuns code
apart_in_runs code b first main w run so t u th uh at there some same =
    apart code b first main w so.sections so.threads run so.is_run t u th uh (stands_in code b first main w so.sections so.threads at)
    (stands_in code b first main w so.sections so.threads there) some same

pub others_stay_in_runs : {S : Type 0} (code : Code S) → OthersSectionsStayInRuns code
others_stay_in_runs code b first main w e run so s th by other some = others code b first main w so.sections so.threads e run so.is_run s th by other some
