-- The threads of a run, and their steps.
use Rattle.std.proofs.Common.{◌≡◌, ◌≢◌, inl, inr, ℕ, ◌<◌, ◌≤◌, Bool, true, false, List, [], ◌∷◌, refl, sym, ◌∙◌, ap, arith, eq-eqb, ne_eqb}
use Rattle.std.specs.Prelude.{Contains, nat_eq, if◌then◌else◌}
use mathlib.Core.Logic.{dite}
use native.Mathlib.Decide.{ℕ_discrete}
use Rattle.step_port.specs.declared.step.Step.{Step}
use Rattle.step_port.specs.declared.step.Step.TheVariants.{LoadStop, SetStop, Split, LookMonitor, LookSection, BreakLevel}
use Rattle.step_port.specs.Steps.{IsOwnStep}
use Rattle.core_runs.specs.declared.Birth.{Birth}
use Rattle.core_runs.specs.WordRuns.{RunEntry, part_of}
use Rattle.core_runs.specs.OwnParts.{is_beside, births_after, births, StepOnceBegun}
use Rattle.section_laws.proofs.CoreRunLemmas.{in_front, behind_front, begun_later}
use Rattle.table_words.specs.Rule.{count_numbered}

pub at_front : {A : Type 0} (x : A) (xs : List A) → Contains (x ∷ xs) x
at_front x xs = (0, omega arith, refl)

pub same_test : (n : ℕ) → nat_eq n n ≡ true
same_test n = eq-eqb n n refl

pub same_number : (m n : ℕ) → m ≡ n → nat_eq m n ≡ true
same_number m n is = eq-eqb m n is

pub other_number : (m n : ℕ) → m ≢ n → nat_eq m n ≡ false
other_number m n is = ne_eqb m n is

abbrev pub flag : Bool → ℕ
flag t = if t then 1 else 0

pub flag_le : (t : Bool) → flag t ≤ 1
flag_le true = omega arith
flag_le false = omega arith

pub flagged : (m n : ℕ) → 0 < flag (nat_eq m n) → m ≡ n
flagged m n h = dite (ℕ_discrete m n) (λ e. e) (λ ne. let off : flag (nat_eq m n) ≡ 0 = ap flag (other_number m n ne) in absurd (omega (arith, off, h)))

-- ---- steps

abbrev pub HandsOutNobody : Step → Type 0
HandsOutNobody step = (xs : List Birth) → births_after step xs ≡ xs

pub own_hands_out_nobody : (step : Step) → IsOwnStep step → HandsOutNobody step
own_hands_out_nobody LoadStop h xs = refl
own_hands_out_nobody SetStop h xs = refl
own_hands_out_nobody (Split n r p) h xs = absurd h
own_hands_out_nobody step h xs = refl

pub own_not_beside : (step : Step) → IsOwnStep step → is_beside step ≡ false
own_not_beside LoadStop h = absurd h
own_not_beside SetStop h = absurd h
own_not_beside (Split n r p) h = refl
own_not_beside (LookMonitor r) h = absurd h
own_not_beside (LookSection s) h = absurd h
own_not_beside (BreakLevel s old level) h = absurd h
own_not_beside step h = refl

-- ---- threads

-- a thread of the run after a step was one before, or is handed out by it
pub data Born (step : Step) (xs : List Birth) (x : Birth) : Type 0 where
  before : Contains xs x → Born step xs x
  now : (n r p : ℕ) → step ≡ Split n r p → record { number = n; object = r; priority = p } ≡ x → Born step xs x

pub born : (step : Step) (xs : List Birth) (x : Birth) → Contains (births_after step xs) x → Born step xs x
born (Split n r p) xs x there = elim (in_front _ x xs there) [
  | inl is ↦ now n r p refl is
  | inr old ↦ before old
]
born step xs x there = before there

-- a thread that hasn't begun has made no step
pub unborn : (main : Birth) (run : List RunEntry) (n : ℕ) → StepOnceBegun main run → ((y : Birth) → Contains (births main run) y → n ≢ y.number) → part_of n run ≡ []
unborn main [] n so none = refl
unborn main (e ∷ run) n so none =
    let other : e.thread ≢ n = λ same. none so.1.0 (begun_later e.made.step (births main run) so.1.0 so.1.1) (sym same ∙ sym so.1.2) in
    ap (λ (t : Bool). if t then e.made ∷ part_of n run else part_of n run) (other_number e.thread n other)
    ∙ unborn main run n so.0 (λ y there. none y (begun_later e.made.step (births main run) y there))

-- nobody has a number that no thread has
pub none_numbered : (n : ℕ) (xs : List Birth) → ((y : Birth) → Contains xs y → n ≢ y.number) → count_numbered n xs ≡ 0
none_numbered n [] none = refl
none_numbered n (x ∷ xs) none =
    let off : flag (nat_eq n x.number) ≡ 0 = ap flag (other_number n x.number (none x (at_front x xs))) in
    let rest = none_numbered n xs (λ y there. none y (behind_front x y xs there)) in
    omega (arith, off, rest)
