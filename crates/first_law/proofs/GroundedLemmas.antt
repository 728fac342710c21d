-- A run of a code that names nothing out of nothing is one whose threads want what fits the objects.
use Rattle.std.proofs.Common.{◌≡◌, inl, inr, ℕ, zero, suc, ◌<◌, ◌≤◌, Bool, true, false, Option, Some, List, [], ◌∷◌, length, take, refl, sym, ◌∙◌, ap, subst, arith}
use Rattle.std.specs.Prelude.{if◌then◌else◌}
use Rattle.std.proofs.lemmas.Bool.Decides.{leb_tells}
use Rattle.std.proofs.lemmas.List.{length-take-le}
use Rattle.op_core.specs.declared.Op.{Op}
use Rattle.op_core.specs.declared.Op.TheVariants.{Start, End}
use Rattle.op_core.specs.declared.Next.{Next}
use Rattle.op_core.specs.declared.Next.TheVariants.{Want}
use Rattle.op_core.specs.ThreadCode.{Code}
use Rattle.op_core.specs.OrdinaryState.{live, ended}
use Rattle.op_core.specs.InPlaceList.{IsSound}
use Rattle.op_core.specs.Orderly.{KeepsStartWord}
use Rattle.step_port.specs.declared.step.Step.TheVariants.{Split}
use Rattle.thread_automaton.specs.declared.Bounds.{Bounds}
use Rattle.thread_automaton.specs.declared.Attempt.{Attempt}
use Rattle.thread_automaton.specs.declared.Attempt.TheVariants.{Fixed}
use Rattle.thread_automaton.specs.ThreadState.{ThreadState}
use Rattle.automaton_rows.specs.Fits.{AttemptFits}
use Rattle.core_runs.specs.Cores.{Core}
use Rattle.core_runs.specs.Acts.{Act, ActFrom}
use Rattle.core_runs.specs.Reading.{end_wanted, place_in, thread_in, ordinary}
use Rattle.section_laws.specs.Runs.{IsRun}
use Rattle.section_laws.proofs.RunLemmas.{get_some, act_at, facts_at}
use Rattle.section_laws.specs.Layout.{FitsObjects, IsLaidRun}
use Rattle.section_laws.proofs.run_layout.RunLemmas as layouts
use Rattle.section_laws.proofs.run_bits.BitLemmas.{runs_are_in_bits}
use Rattle.first_law.specs.InPlace.{IsSeenRun}
use Rattle.first_law.specs.Grounded.{IsGroundedRun, MonitorsFitAlong, GroundedRunsAreSeen, GroundedRunsAreInPlace}
use Rattle.first_law.proofs.ListLemmas.{runs_are_in_place}
use Rattle.first_law.proofs.RestLemmas.{Rests, rests_first, act_rests}

pub from_take : {S : Type 0} (code : Code S) (b : Bounds) (c : ℕ → Core S) (acts : List Act) (n k : ℕ) → ActFrom code b c k acts → ActFrom code b c k (take n acts)
from_take code b c acts zero k leads = tt
from_take code b c [] (suc n) k leads = tt
from_take code b c (x ∷ acts) (suc n) k leads = (leads.0, from_take code b c acts n (suc k) leads.1)

module _ {S : Type 0} (code : Code S) (b : Bounds) (is_thread : ℕ → Bool) (first : S) (classes : ℕ) (c : ℕ → Core S) (acts : List Act) (run : IsGroundedRun code b is_thread first classes c acts) (fit : MonitorsFitAlong code c acts) where
  -- what threads want fits the objects, at place k
  abbrev WantsAt : ℕ → Type 0
  WantsAt k = (t : ℕ) (th : ThreadState S) (op : Op) → (c k).threads t ≡ Some th → code.next th.local ≡ Want op → FitsObjects is_thread (c k).objects op

  -- ---- what a run has begun with

  module _ (n : ℕ) (low : n ≤ length acts) (wants : (k : ℕ) → k < n → WantsAt k) where
    abbrev begun : List Act
    begun = take n acts

    size : length (take n acts) ≡ n
    size = length-take-le n acts low

    up : (k : ℕ) → k ≤ length (take n acts) → k ≤ length acts
    up k within = let is = size in omega (arith, within, is, low)

    is_run : IsRun code b c (take n acts)
    is_run = record { begins = run.run.begins; leads = from_take code b c acts n 0 run.run.leads }

    pub is_laid : IsLaidRun code b is_thread c (take n acts)
    is_laid = record { run = is_run; begins = run.begins; wants = λ k t th op within stands is. wants k (subst (λ m. k < m) size within) t th op stands is }

    pub is_seen : IsSeenRun code b is_thread first classes c (take n acts)
    is_seen = record {
      levelled = record {
        ordered = record { run = is_run; in_bits = runs_are_in_bits code b is_thread c (take n acts) is_laid run.in_bits; orderly = run.orderly; begins = run.local };
        numbered = run.in_bits.numbers;
        closed = run.closed;
      };
      begins = run.begins;
      heap = run.heap;
      starts = run.starts;
      ends = run.ends;
      class_words = run.class_words;
      wants = λ k t th op within stands is. wants k (subst (λ m. k < m) size within) t th op stands is;
      threads = λ k r o within there thread. run.threads k r o (up k within) there thread;
      monitors = λ k within. fit k (let is = size in omega (arith, within, is, low));
    }

    -- the state at its end is sound, and what threads want there leaves start words alone
    sound_so : IsSound code (ordinary code is_thread (c n))
    sound_so =
        let list = runs_are_in_place code b is_thread first classes c (take n acts) is_seen in
        subst (λ m. IsSound code (ordinary code is_thread (c m))) (list.1 ∙ size) (run.grounded (λ k. ordinary code is_thread (c k)) list.0 refl list.3)

    kept_so : (t : ℕ) (l : S) (op : Op) → (ordinary code is_thread (c n)).threads t ≡ live l → code.next l ≡ Want op → KeepsStartWord is_thread (c n).objects op
    kept_so =
        let list = runs_are_in_place code b is_thread first classes c (take n acts) is_seen in
        subst (λ m. (t : ℕ) (l : S) (op : Op) → (ordinary code is_thread (c m)).threads t ≡ live l → code.next l ≡ Want op → KeepsStartWord is_thread (c m).objects op) (list.1 ∙ size)
        (run.kept (λ k. ordinary code is_thread (c k)) list.0 refl list.3)

    -- so what threads want there fits the objects
    wants_so : ((t : ℕ) (th : ThreadState S) → (c n).threads t ≡ Some th → Rests code is_thread (c n).objects th) → WantsAt n
    wants_so rests t th op stands wanted = by_over th.over refl
      where
        so : Rests code is_thread (c n).objects th
        so = rests t th stands

        attempt_fits : AttemptFits th (code.next th.local) th.attempt
        attempt_fits = ((facts_at code b c acts run.run n low).fit t th stands).attempt

        at_end : {x : Option ℕ} (o : Op) → End x ≡ o → FitsObjects is_thread (c n).objects o
        at_end o is = subst (FitsObjects is_thread (c n).objects) is (tt, tt, tt)

        op_in : Next → Op
        op_in (Want o) = o
        op_in next = op

        living : thread_in code ((c n).starting t) (Some th) ≡ live th.local → FitsObjects is_thread (c n).objects op
        living place =
            let there = ap (thread_in code ((c n).starting t)) stands ∙ place in
            (sound_so.in_range t th.local op there wanted, sound_so.all_there t th.local op there wanted, kept_so t th.local op there wanted)

        by_attempt : (g : Attempt) → th.attempt ≡ g → th.over ≡ false → FitsObjects is_thread (c n).objects op
        by_attempt (Fixed (Split m r p)) is over = subst (FitsObjects is_thread (c n).objects) (by_next (code.next th.local) refl (subst (AttemptFits th (code.next th.local)) is attempt_fits)) (so.splits m r p is)
          where
            by_next : (next : Next) → code.next th.local ≡ next → AttemptFits th next (Fixed (Split m r p)) → Start r p ≡ op
            by_next (Want (Start q o)) wants_start fits = ap (λ x. Start x p) fits.1 ∙ ap (λ x. Start q x) fits.2 ∙ ap op_in (sym wants_start ∙ wanted)
            by_next next wants_start fits = absurd fits
        by_attempt g is over = living (ap (λ x. if x then ended (end_wanted (code.next th.local)) else live (place_in code th.local th.attempt)) over ∙ ap (λ x. live (place_in code th.local x)) is)

        by_over : (x : Bool) → th.over ≡ x → FitsObjects is_thread (c n).objects op
        by_over true over = let end = so.ended over in at_end op (ap op_in (sym end.1 ∙ wanted))
        by_over false over = by_attempt th.attempt refl over

  -- ---- place by place

  abbrev UpTo : ℕ → Type 0
  UpTo n = ((k : ℕ) → k < n → WantsAt k) × ((t : ℕ) (th : ThreadState S) → (c n).threads t ≡ Some th → Rests code is_thread (c n).objects th)

  up_to : (n : ℕ) → n ≤ length acts → UpTo n
  up_to zero low = (
    λ k within. absurd (no k within),
    λ t th stands. let begins = run.run.begins.threads t th stands in subst (Rests code is_thread (c 0).objects) (sym begins.3) (rests_first code is_thread (c 0).objects begins.0 begins.1 begins.2),
  )
    where
      no : (k : ℕ) → k < 0 → ⊥
      no k within = omega (arith, within)
  up_to (suc n) low =
      let before = up_to n (omega (arith, low)) in
      let here : WantsAt n = wants_so n (omega (arith, low)) before.0 before.1 in
      let all : (k : ℕ) → k < suc n → WantsAt k = λ k within. elim (leb_tells n k) [
        | inl high ↦ let is : n ≡ k = same n k high.1 within in subst WantsAt is here
        | inr less ↦ before.0 k less.1
      ] in
      let act = get_some acts n (omega (arith, low)) in (
        all,
        act_rests code b is_thread c n (λ t th stands. (facts_at code b c acts run.run n (omega (arith, low))).fit t th stands) (λ t r p th stands wanted. here t th (Start r p) stands wanted)
            (λ q o there. layouts.stays code b is_thread c (take (suc n) acts) (is_laid (suc n) low all) n (suc n) q o (omega arith) (let is = length-take-le (suc n) acts low in omega (arith, is)) there)
            act.0 (act_at code b c acts n act.0 run.run.leads act.1) before.1,
      )
    where
      same : (n k : ℕ) → n ≤ k → k < suc n → n ≡ k
      same n k high low = omega (arith, high, low)

  seen_whole : IsSeenRun code b is_thread first classes c acts
  seen_whole =
      let wants = (up_to (length acts) (omega arith)).0 in
      record {
        levelled = record {
          ordered = record {
            run = run.run;
            in_bits = runs_are_in_bits code b is_thread c acts (record { run = run.run; begins = run.begins; wants = λ k t th op within stands is. wants k within t th op stands is }) run.in_bits;
            orderly = run.orderly;
            begins = run.local;
          };
          numbered = run.in_bits.numbers;
          closed = run.closed;
        };
        begins = run.begins;
        heap = run.heap;
        starts = run.starts;
        ends = run.ends;
        class_words = run.class_words;
        wants = λ k t th op within stands is. wants k within t th op stands is;
        threads = run.threads;
        monitors = fit;
      }

pub grounded_runs_are_seen : {S : Type 0} (code : Code S) → GroundedRunsAreSeen code
grounded_runs_are_seen code b is_thread first classes c acts run fit = seen_whole code b is_thread first classes c acts run fit

pub grounded_runs_are_in_place : {S : Type 0} (code : Code S) → GroundedRunsAreInPlace code
grounded_runs_are_in_place code b is_thread first classes c acts run fit =
    runs_are_in_place code b is_thread first classes c acts (seen_whole code b is_thread first classes c acts run fit)
