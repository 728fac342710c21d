-- Monitors and waits along a grounded run: each place has what the places before it give.
use Rattle.std.proofs.Common.{◌≡◌, inl, inr, ℕ, zero, suc, ◌<◌, ◌≤◌, Bool, List, length, take, subst, arith}
use Rattle.std.proofs.lemmas.Bool.Decides.{leb_tells}
use Rattle.std.proofs.lemmas.List.{length-take-le}
use Rattle.op_core.specs.declared.Op.TheVariants.{Wait}
use Rattle.op_core.specs.ThreadCode.{Code}
use Rattle.thread_automaton.specs.declared.Bounds.{Bounds}
use Rattle.core_runs.specs.Cores.{Core}
use Rattle.core_runs.specs.Acts.{Act}
use Rattle.section_laws.specs.Layout.{IsLaidRun}
use Rattle.first_law.specs.RunMonitors.{IsMonitorRun}
use Rattle.first_law.specs.Monitors.{MonitorsFit}
use Rattle.first_law.specs.InPlace.{IsSeenRun}
use Rattle.first_law.specs.Grounded.{MonitorsFitAlong}
use Rattle.first_law.proofs.GroundedLemmas.{from_take, grounded_runs_are_seen, grounded_runs_are_in_place}
use Rattle.first_law.specs.Waits.{WaitsAreKnown}
use Rattle.first_law.specs.Free.{IsFreeRun, FreeRunsFitObjects, FreeRunsHoldMonitors, WaitsStayKnown, FreeRunsFit, FreeRunsAreInPlace}
use Rattle.first_law.proofs.grounded_monitors.ApartLemmas.{lie_apart}
use Rattle.first_law.proofs.grounded_monitors.FitLemmas.{known_at}
use Rattle.first_law.proofs.grounded_monitors.PlaceLemmas.{monitors_fit}

module _ {S : Type 0} (code : Code S) (b : Bounds) (is_thread : ℕ → Bool) (first : S) (classes : ℕ) (c : ℕ → Core S) where
  abbrev IsFree : List Act → Type 0
  IsFree acts = IsFreeRun code b is_thread first classes c acts

  -- ---- where monitors and waits are as they have to be before each act, so they are after the last

  module _ (acts : List Act) (run : IsFree acts) (fit : MonitorsFitAlong code c acts) where
    seen : IsSeenRun code b is_thread first classes c acts
    seen = grounded_runs_are_seen code b is_thread first classes c acts run.grounded fit

    laid : IsLaidRun code b is_thread c acts
    laid = record { run = run.grounded.run; begins = run.grounded.begins; wants = seen.wants }

    holds_monitors : IsMonitorRun code b first classes c acts
    holds_monitors = record { levelled = seen.levelled; numbers = run.numbers; apart = lie_apart code b is_thread c acts laid run.free }

    waits_at : (k : ℕ) → k ≤ length acts → WaitsAreKnown code (c k)
    waits_at k within = known_at code b first classes c acts holds_monitors (λ n t r th low stands wants. (seen.wants n t th (Wait r) low stands wants).0) run.awake run.from_one k within

    fits_after : (k : ℕ) → k ≤ length acts → MonitorsFit code (c k)
    fits_after k within = monitors_fit code b first classes c acts holds_monitors k within (waits_at k within)

  -- ---- what a run has begun with

  begun : (acts : List Act) (n : ℕ) → n ≤ length acts → IsFree acts → IsFree (take n acts)
  begun acts n low run =
      let g = run.grounded in
      let size = length-take-le n acts low in
      record {
        grounded = record {
          run = record { begins = g.run.begins; leads = from_take code b c acts n 0 g.run.leads };
          orderly = g.orderly;
          grounded = g.grounded;
          kept = g.kept;
          local = g.local;
          closed = g.closed;
          starts = g.starts;
          ends = g.ends;
          in_bits = g.in_bits;
          begins = g.begins;
          heap = g.heap;
          class_words = g.class_words;
          threads = λ k r o within there thread. g.threads k r o (omega (arith, within, size, low)) there thread;
        };
        numbers = run.numbers;
        free = run.free;
        awake = run.awake;
        from_one = run.from_one;
      }

  -- ---- place by place

  module _ (acts : List Act) (run : IsFree acts) where
    fit_at : (n : ℕ) → n ≤ length acts → ((k : ℕ) → k < n → MonitorsFit code (c k)) → MonitorsFit code (c n)
    fit_at n low before =
        let size = length-take-le n acts low in
        fits_after (take n acts) (begun acts n low run) (λ k within. before k (subst (λ m. k < m) size within)) n (omega (arith, size))

    fits_below : (n : ℕ) → n ≤ length acts → (k : ℕ) → k < n → MonitorsFit code (c k)
    fits_below zero low k below = absurd (no k below)
      where
        no : (k : ℕ) → k < 0 → ⊥
        no k below = omega (arith, below)
    fits_below (suc n) low k below = elim (leb_tells n k) [
      | inl high ↦ subst (λ m. MonitorsFit code (c m)) (same n k high.1 below) (fit_at n (omega (arith, low)) (fits_below n (omega (arith, low))))
      | inr less ↦ fits_below n (omega (arith, low)) k less.1
    ]
      where
        same : (n k : ℕ) → n ≤ k → k < suc n → n ≡ k
        same n k high low = omega (arith, high, low)

    pub fits : MonitorsFitAlong code c acts
    fits k within = fits_below (length acts) (omega arith) k within

pub free_runs_fit_objects : {S : Type 0} (code : Code S) → FreeRunsFitObjects code
free_runs_fit_objects code b is_thread first classes c acts run = laid code b is_thread first classes c acts run (fits code b is_thread first classes c acts run)

pub free_runs_hold_monitors : {S : Type 0} (code : Code S) → FreeRunsHoldMonitors code
free_runs_hold_monitors code b is_thread first classes c acts run = holds_monitors code b is_thread first classes c acts run (fits code b is_thread first classes c acts run)

pub waits_stay_known : {S : Type 0} (code : Code S) → WaitsStayKnown code
waits_stay_known code b is_thread first classes c acts run k within = waits_at code b is_thread first classes c acts run (fits code b is_thread first classes c acts run) k within

pub free_runs_fit : {S : Type 0} (code : Code S) → FreeRunsFit code
free_runs_fit code b is_thread first classes c acts run k within = fits_after code b is_thread first classes c acts run (fits code b is_thread first classes c acts run) k within

pub free_runs_are_in_place : {S : Type 0} (code : Code S) → FreeRunsAreInPlace code
free_runs_are_in_place code b is_thread first classes c acts run = grounded_runs_are_in_place code b is_thread first classes c acts run.grounded (fits code b is_thread first classes c acts run)
