-- Where no thread is enabled as a run ends, no thread has anything to undo.
use Rattle.std.proofs.Common.{◌≡◌, inl, inr, ℕ, zero, suc, ◌+◌, ◌-◌, ◌<◌, ◌≤◌, ◌&&◌, ◌||◌, not, Bool, true, false, None, Some, List, length, nat_eq, refl, sym, ◌∙◌, ap, subst, arith}
use Rattle.std.specs.Prelude.{if◌then◌else◌}
use Rattle.std.proofs.lemmas.Option.{slice_get_within}
use Rattle.op_core.specs.ThreadCode.{Code}
use Rattle.heap_words.specs.declared.areas.Area.TheVariants.{Section}
use Rattle.section_state.specs.declared.State.TheVariants.{Revoking}
use Rattle.section_state.specs.SectionWord.{revoke_of}
use Rattle.monitor_core.specs.Contention.{is_in}
use Rattle.thread_automaton.specs.declared.Bounds.{Bounds}
use Rattle.thread_automaton.specs.ThreadState.{ThreadState, is_open}
use Rattle.core_runs.specs.Cores.{Core}
use Rattle.core_runs.specs.Acts.{Act}
use Rattle.core_runs.specs.Revoked.{RevokesAt}
use Rattle.section_laws.specs.LevelRun.{In, IsDoomedAt}
use Rattle.section_laws.proofs.level_runs.LevelLemmas.{keeps_on, is_gone, Since, since}
use Rattle.section_laws.specs.Settled.{to_undo}
use Rattle.section_laws.specs.Levels.{IsLevelledRun, word_in, revoked_by, levels_in, revoked_in, RunsInLevels}
use Rattle.section_laws.proofs.section_levels.LevelLemmas.{at_place, level_in, runs_in_levels, doomed_at}
use Rattle.first_law.specs.SettledRuns.{IsDoomedTest}
use Rattle.first_law.proofs.settled_monitors.DoomedLemmas.{outermost_of, doomed_open}
use Rattle.word_runs.specs.Enabled.{has_to_undo, has_to_wait_for, is_enabled}
use Rattle.core_law.specs.Idle.{NoneIsEnabled}
use Rattle.core_law.specs.Rest.{IdleRunsHaveNothingToUndo}
use Rattle.core_law.proofs.ThreadLemmas.{past_at}

module _ {S : Type 0} (code : Code S) (b : Bounds) (first : S) (classes : ℕ) (c : ℕ → Core S) (acts : List Act) (run : IsLevelledRun code b first classes c acts) (doomed : ℕ → Bool)
    (tells : IsDoomedTest c acts doomed) (idle : NoneIsEnabled code (c (length acts))) where
  abbrev core : Core S
  core = c (length acts)

  upto : length acts ≤ length acts
  upto = omega arith

  -- the section of a thread that is to undo a level is revoked
  revoked_so : (t : ℕ) (th : ThreadState S) → core.threads t ≡ Some th → (n : ℕ) → revoked_in c acts t (length acts) ≡ Some n → has_to_undo core.words th ≡ true
  revoked_so t th at n is = by_section (nat_eq th.section 0) (sym reads ∙ is)
    where
      reads : revoked_in c acts t (length acts) ≡ revoked_by (word_in (Some th) core.words)
      reads = ap (λ (x : Core S). revoked_by (word_in (x.threads t) x.words)) (at_place code b first classes c acts run (length acts) upto)
          ∙ ap (λ o. revoked_by (word_in o core.words)) at

      none_some : {A : Type 0} → None ≡ Some n → A
      none_some is = cc

      by_state : (x : Bool) → (if x then Some (revoke_of (core.words (Section th.section))) else None) ≡ Some n → x ≡ true
      by_state true is = refl
      by_state false is = none_some is

      by_section : (x : Bool) → revoked_by (if x then None else Some (core.words (Section th.section))) ≡ Some n → (not x && is_in Revoking (core.words (Section th.section))) ≡ true
      by_section true is = none_some is
      by_section false is = by_state (is_in Revoking (core.words (Section th.section))) is

  module _ (t : ℕ) (th : ThreadState S) (at : core.threads t ≡ Some th) (some : 0 < to_undo doomed (core.levels t)) where
    abbrev place : ℕ
    place = (outermost_of doomed (core.levels t) some).place

    there : In place (core.levels t)
    there = level_in place (outermost_of doomed (core.levels t) some).level (core.levels t) (outermost_of doomed (core.levels t) some).is

    abbrev levels : RunsInLevels c acts t
    levels = runs_in_levels code b first classes c acts run t

    is_doomed : IsDoomedAt (levels_in c acts t) (runs_in_levels code b first classes c acts run t).act place
    is_doomed = doomed_at code b first classes c acts run t place (length acts) upto there ((tells place).0 (outermost_of doomed (core.levels t) some).so)

    revokes_within : (s n : ℕ) → RevokesAt acts is_doomed.0 s n → is_doomed.0 < length acts
    revokes_within s n (u, old, inl here) = slice_get_within acts is_doomed.0 _ here
    revokes_within s n (u, old, inr here) = slice_get_within acts is_doomed.0 _ here

    earlier : is_doomed.0 < length acts
    earlier = let is = (runs_in_levels code b first classes c acts run t).revokes is_doomed.0 is_doomed.1 is_doomed.2 in revokes_within is.0.section is_doomed.1 is.2

    undoes : has_to_undo core.words th ≡ true
    undoes = by_since (since (levels_in c acts t) (revoked_in c acts t) levels.act levels.is_run place is_doomed (length acts - suc is_doomed.0) (length acts) (back (length acts) is_doomed.0 earlier))
      where
        back : (n m : ℕ) → m < n → n ≡ (n - suc m) + suc m
        back n m low = omega (arith, low)

        by_since : Since (levels_in c acts t) (revoked_in c acts t) levels.act levels.is_run place is_doomed (length acts) → has_to_undo core.words th ≡ true
        by_since (keeps_on is stays) = revoked_so t th at is_doomed.1 is
        by_since (is_gone none) = absurd (none (subst (λ (x : Core S). In place (x.levels t)) (sym (at_place code b first classes c acts run (length acts) upto)) there))

    never : ⊥
    never = by_over th.over refl
      where
        no : {A : Type 0} → (x : Bool) → x ≡ true → x ≡ false → A
        no true is isnt = cc
        no false is isnt = cc

        enabled_so : (x y : Bool) → x ≡ true → (x || y) ≡ true
        enabled_so true y is = refl
        enabled_so false y is = cc

        by_over : (x : Bool) → th.over ≡ x → ⊥
        by_over true over = no (is_open th) (doomed_open code b first classes c acts run doomed tells (length acts) t th upto at some) (past_at code b c acts run.ordered.run run.numbered (length acts) upto t th at over).shut
        by_over false alive = no (is_enabled code core.words th) (ap (λ x. not x && (has_to_undo core.words th || not (has_to_wait_for core.words th (code.next th.local)))) alive ∙ enabled_so (has_to_undo core.words th) _ undoes)
            (idle.not_enabled t th at)

pub idle_runs_have_nothing_to_undo : {S : Type 0} (code : Code S) → IdleRunsHaveNothingToUndo code
idle_runs_have_nothing_to_undo code b first classes c acts run doomed tells idle t th at = by_count (to_undo doomed ((c (length acts)).levels t)) refl
  where
    by_count : (n : ℕ) → to_undo doomed ((c (length acts)).levels t) ≡ n → to_undo doomed ((c (length acts)).levels t) ≡ 0
    by_count zero is = is
    by_count (suc n) is = absurd (never code b first classes c acts run doomed tells idle t th at (subst (λ m. 0 < m) (sym is) (above n)))
      where
        above : (n : ℕ) → 0 < suc n
        above n = omega arith
