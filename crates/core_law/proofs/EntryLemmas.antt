-- The events that are left are the same for all entries that the acts show.
use Rattle.std.proofs.Common.{◌≡◌, ◌⊎◌, inl, inr, ℕ, suc, Bool, true, false, List, [], ◌∷◌, refl, sym, ◌∙◌, ap, subst}
use Rattle.std.specs.Prelude.{if◌then◌else◌}
use Rattle.std.proofs.lemmas.Option.{same_Some}
use Rattle.op_core.specs.declared.Event.{Event}
use Rattle.op_core.specs.ThreadCode.{Code}
use Rattle.op_core.specs.InPlaceList.{Entry, silent, event, put_back, give_back, go_back, unseen}
use Rattle.op_core.specs.CleanCut.{kept_from}
use Rattle.op_core.specs.OrdinaryState.{set_at}
use Rattle.step_port.specs.declared.answer.StepAnswer.{StepAnswer}
use Rattle.step_port.specs.declared.step.Step.{Step}
use Rattle.step_port.specs.declared.step.Step.TheVariants.{RestoreWord, SetDepth, Release, MarkUndone}
use Rattle.thread_automaton.specs.declared.Bounds.{Bounds}
use Rattle.thread_automaton.specs.ThreadState.{ThreadState}
use Rattle.core_runs.specs.Cores.{Core}
use Rattle.core_runs.specs.Acts.{Act, quiet, did, beside}
use Rattle.core_runs.specs.Entries.{StepShows, Shows, ShowFrom}
use Rattle.core_law.specs.Erasure.{ErasuresAreOne}

abbrev IsPutBack : Entry → Type 0
IsPutBack (put_back r i v) = Unit {0}
IsPutBack entry = ⊥

-- the same entry, or words that are put back, which are no events
abbrev IsAlike : Entry → Entry → Type 0
IsAlike e f = (e ≡ f) ⊎ (IsPutBack e × IsPutBack f)

module _ {S : Type 0} (code : Code S) (b : Bounds) where
  step_alike : (core : Core S) (t : ℕ) (th : ThreadState S) (step : Step) (answer : StepAnswer) (e f : Entry) → StepShows code b core t th step answer e → StepShows code b core t th step answer f → IsAlike e f
  step_alike core t th (RestoreWord at old) answer e f one other = inr (subst IsPutBack (sym one.4) tt, subst IsPutBack (sym other.4) tt)
  step_alike core t th (Release r) answer e f one other = inl (one ∙ sym other)
  step_alike core t th (SetDepth r new) answer e f one other = inl (one ∙ sym other)
  step_alike core t th (MarkUndone s w) answer e f one other = inl (one ∙ sym other)
  step_alike core t th step answer e f one other = inl (one ∙ sym other)

  alike : (core : Core S) (x : Act) (e f : Entry) → Shows code b core x e → Shows code b core x f → IsAlike e f
  alike core (quiet t) e f one other = inl (one ∙ sym other)
  alike core (beside t step answer) e f one other = inl (one ∙ sym other)
  alike core (did t step answer) e f one other = step_alike core t one.0 step answer e f one.2
      (subst (λ th. StepShows code b core t th step answer f) (same_Some other.0 one.0 (sym other.1 ∙ one.1)) other.2)

  put_backs : (cut : ℕ → Bool) (k : ℕ) (silents : ℕ → ℕ) (e : Entry) (es : List Entry) → IsPutBack e → kept_from cut k silents (e ∷ es) ≡ kept_from cut (suc k) silents es
  put_backs cut k silents (put_back r i v) es is = refl
  put_backs cut k silents (silent t) es is = absurd is
  put_backs cut k silents (event t op reply) es is = absurd is
  put_backs cut k silents (give_back t r count) es is = absurd is
  put_backs cut k silents (go_back t p) es is = absurd is
  put_backs cut k silents unseen es is = absurd is

  -- what comes first is the same where what comes after it is
  after_first : (cut : ℕ → Bool) (k : ℕ) (silents : ℕ → ℕ) (e : Entry) (es fs : List Entry) → ((z : ℕ → ℕ) → kept_from cut (suc k) z es ≡ kept_from cut (suc k) z fs)
      → kept_from cut k silents (e ∷ es) ≡ kept_from cut k silents (e ∷ fs)
  after_first cut k silents (silent t) es fs same = same (if cut k then silents else set_at silents t (suc (silents t)))
  after_first cut k silents (put_back r i v) es fs same = same silents
  after_first cut k silents (give_back t r count) es fs same = same silents
  after_first cut k silents (go_back t p) es fs same = same silents
  after_first cut k silents unseen es fs same = same silents
  after_first cut k silents (event t op reply) es fs same = by_cut (cut k)
    where
      by_cut : (z : Bool) → (if z then kept_from cut (suc k) silents es else (record { thread = t; silent = silents t; op = op; reply = reply } ∷ kept_from cut (suc k) (set_at silents t 0) es))
          ≡ (if z then kept_from cut (suc k) silents fs else (record { thread = t; silent = silents t; op = op; reply = reply } ∷ kept_from cut (suc k) (set_at silents t 0) fs))
      by_cut true = same silents
      by_cut false = ap (λ (events : List Event). record { thread = t; silent = silents t; op = op; reply = reply } ∷ events) (same (set_at silents t 0))

  same_kept : (c : ℕ → Core S) (cut : ℕ → Bool) (k : ℕ) (acts : List Act) (es fs : List Entry) → ShowFrom code b c k acts es → ShowFrom code b c k acts fs
      → (silents : ℕ → ℕ) → kept_from cut k silents es ≡ kept_from cut k silents fs
  same_kept c cut k [] [] [] one other silents = refl
  same_kept c cut k [] (e ∷ es) fs one other silents = absurd one
  same_kept c cut k [] [] (f ∷ fs) one other silents = absurd other
  same_kept c cut k (x ∷ acts) [] fs one other silents = absurd one
  same_kept c cut k (x ∷ acts) (e ∷ es) [] one other silents = absurd other
  same_kept c cut k (x ∷ acts) (e ∷ es) (f ∷ fs) one other silents = by_first (alike (c k) x e f one.0 other.0) (same_kept c cut (suc k) acts es fs one.1 other.1)
    where
      by_first : IsAlike e f → ((z : ℕ → ℕ) → kept_from cut (suc k) z es ≡ kept_from cut (suc k) z fs) → kept_from cut k silents (e ∷ es) ≡ kept_from cut k silents (f ∷ fs)
      by_first (inl same) later = after_first cut k silents e es fs later ∙ ap (λ z. kept_from cut k silents (z ∷ fs)) same
      by_first (inr both) later = put_backs cut k silents e es both.0 ∙ later silents ∙ sym (put_backs cut k silents f fs both.1)

pub erasures_are_one : {S : Type 0} (code : Code S) → ErasuresAreOne code
erasures_are_one code b c acts es fs one other cut = same_kept code b c cut 0 acts es fs one other (λ t. 0)
