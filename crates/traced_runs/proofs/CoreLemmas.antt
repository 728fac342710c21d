-- Acts lead from a core to one core alone.
use Rattle.std.proofs.Common.{◌≡◌, ℕ, zero, suc, ◌+◌, ◌<◌, None, Some, List, [], ◌∷◌, ◌++◌, length, refl, sym, ◌∙◌, ap, subst, arith}
use Rattle.std.specs.Prelude.{slice_get}
use Rattle.std.proofs.lemmas.Option.{same_Some}
use Rattle.op_core.specs.ThreadCode.{Code, quiet_step}
use Rattle.op_core.specs.OrdinaryState.{set_at}
use Rattle.op_core.proofs.PointwiseLemmas.{set_at-at}
use Rattle.fixed_objects.specs.declared.Opening.{Opening}
use Rattle.step_port.specs.Words.{words_after}
use Rattle.thread_automaton.specs.declared.Bounds.{Bounds}
use Rattle.thread_automaton.specs.ThreadState.{ThreadState, first_state}
use Rattle.thread_automaton.specs.Told.{after_quiet}
use Rattle.automaton_rows.specs.Fits.{IsFit}
use Rattle.core_runs.specs.Cores.{Core, core_after}
use Rattle.core_runs.specs.Acts.{Act, quiet, did, beside, ActAt, ActFrom}
use Rattle.section_laws.specs.Runs.{BeginsAt, IsBeginning}
use Rattle.section_laws.proofs.RunLemmas.{facts_at}
use Rattle.opening_cores.specs.Openings.{opening_core}
use Rattle.word_runs.specs.WordTurns.{Progress}
use Rattle.word_runs.specs.Laws.{AreActs}

module _ {S : Type 0} (code : Code S) (b : Bounds) (c d : ℕ → Core S) where
  act_once : (k : ℕ) (x : Act) → c k ≡ d k → ActAt code b c k x → ActAt code b d k x → c (suc k) ≡ d (suc k)
  act_once k (quiet t) same one two =
      let th : one.from ≡ two.from = same_Some one.from two.from (sym one.stands ∙ ap (λ (x : Core S). x.threads t) same ∙ two.stands) in
      let l : one.local ≡ two.local = same_Some one.local two.local (sym one.step ∙ ap (λ (h : ThreadState S). quiet_step code h.local) th ∙ two.step) in
      one.leads ∙ ap (λ (x : Core S). record x { threads = set_at x.threads t (Some (after_quiet one.from one.local)) }) same
      ∙ ap (λ (h : ThreadState S). record (d k) { threads = set_at (d k).threads t (Some (after_quiet h one.local)) }) th
      ∙ ap (λ (l : S). record (d k) { threads = set_at (d k).threads t (Some (after_quiet two.from l)) }) l ∙ sym two.leads
  act_once k (did t step a) same one two =
      let th : one.from ≡ two.from = same_Some one.from two.from (sym one.stands ∙ ap (λ (x : Core S). x.threads t) same ∙ two.stands) in
      one.leads ∙ ap (λ (x : Core S). core_after code b k x t one.from step a) same ∙ ap (λ (h : ThreadState S). core_after code b k (d k) t h step a) th ∙ sym two.leads
  act_once k (beside t step a) same one two = one.leads ∙ ap (λ (x : Core S). record x { words = words_after step x.words }) same ∙ sym two.leads

  acts_once : (acts : List Act) (k : ℕ) → c k ≡ d k → ActFrom code b c k acts → ActFrom code b d k acts → c (k + length acts) ≡ d (k + length acts)
  acts_once [] k same one two = subst (λ n. c n ≡ d n) (omega arith) same
  acts_once (x ∷ acts) k same one two =
      let here : suc k + length acts ≡ k + suc (length acts) = omega arith in
      subst (λ n. c n ≡ d n) here (acts_once acts (suc k) (act_once k x same one.0 two.0) one.1 two.1)

-- the core to which the acts of a place lead is its core
pub leads_there : {S : Type 0} (code : Code S) (b : Bounds) (core : Core S) (r : Progress S) → AreActs code b core r → (c : ℕ → Core S) → c 0 ≡ core → ActFrom code b c 0 r.acts → c (length r.acts) ≡ r.core
leads_there code b core r are c begins leads =
    let all : 0 + length r.acts ≡ length r.acts = omega arith in
    subst (λ n. c n ≡ are.cores n) all (acts_once code b c are.cores r.acts 0 (begins ∙ sym are.begins) leads are.leads) ∙ are.ends

-- ---- one act more

module _ {S : Type 0} (code : Code S) (b : Bounds) (c : ℕ → Core S) (x : Act) where
  pub all_but_last : (acts : List Act) (k : ℕ) → ActFrom code b c k (acts ++ x ∷ []) → ActFrom code b c k acts
  all_but_last [] k leads = tt
  all_but_last (y ∷ acts) k leads = (leads.0, all_but_last acts (suc k) leads.1)

pub get_before : {A : Type 0} (xs : List A) (x : A) (i : ℕ) → i < length xs → slice_get (xs ++ x ∷ []) i ≡ slice_get xs i
get_before [] x i low = absurd (omega (arith, low))
get_before (y ∷ xs) x zero low = refl
get_before (y ∷ xs) x (suc i) low = get_before xs x i (omega (arith, low))

pub get_last : {A : Type 0} (xs : List A) (x : A) → slice_get (xs ++ x ∷ []) (length xs) ≡ Some x
get_last [] x = refl
get_last (y ∷ xs) x = get_last xs x

pub length_more : {A : Type 0} (xs : List A) (x : A) → length (xs ++ x ∷ []) ≡ suc (length xs)
length_more [] x = refl
length_more (y ∷ xs) x = ap suc (length_more xs x)

-- ---- where a run begins

-- main's thread alone is there, about to begin, and no section was opened
pub opening_begins : {S : Type 0} (opening : Opening) (l : S) → IsBeginning (opening_core opening l)
opening_begins {S} opening l = record { sections = λ s. refl; threads = λ t th is. by_number t th is }
  where
    some : (th : ThreadState S) (x : ThreadState S) → Some x ≡ Some th → x ≡ th
    some th x is = cc

    by_number : (t : ℕ) (th : ThreadState S) → (opening_core opening l).threads t ≡ Some th → BeginsAt th
    by_number t th is = set_at-at (λ o. o ≡ Some th → BeginsAt th) (λ t. None) 1 (Some (first_state 1 5 l)) t
        (λ here same. (1, 5, l, sym (some th (first_state 1 5 l) same))) (λ other none. absurd (cc)) is

-- the threads of a run from its beginning are fit
pub thread_fits : {S : Type 0} (code : Code S) (b : Bounds) (core : Core S) (r : Progress S) → IsBeginning core → AreActs code b core r → (t : ℕ) (th : ThreadState S) → r.core.threads t ≡ Some th → IsFit code th
thread_fits code b core r begins are t th there =
    (facts_at code b are.cores r.acts (record { begins = subst IsBeginning (sym are.begins) begins; leads = are.leads }) (length r.acts) (omega arith)).fit t th (ap (λ (x : Core _). x.threads t) are.ends ∙ there)
