-- Which acts opened levels that are revoked, computed from a run.
use Rattle.std.specs.Prelude.{ℕ, suc, ◌&&◌, ◌||◌, Bool, false, Option, None, Some, List, [], ◌∷◌, nat_eq}
use Rattle.op_core.specs.ThreadCode.{Code}
use Rattle.heap_words.specs.declared.areas.Area.TheVariants.{Section}
use Rattle.section_state.specs.SectionWord.{owner_of}
use Rattle.step_port.specs.declared.answer.StepAnswer.TheVariants.{Done}
use Rattle.step_port.specs.declared.step.Step.TheVariants.{Revoke, BreakLevel}
use Rattle.thread_automaton.specs.declared.Bounds.{Bounds}
use Rattle.thread_automaton.specs.ThreadState.{ThreadState}
use Rattle.core_runs.specs.Cores.{Core}
use Rattle.core_runs.specs.Acts.{Act, did, beside}
use Rattle.core_runs.specs.Revoked.{levels_from}
use Rattle.section_laws.specs.Levels.{IsLevelledRun}
use Rattle.first_law.specs.SettledRuns.{IsDoomedTest}

-- the thread has this section open
abbrev pub has_open : {S : Type 0} → ℕ → Option (ThreadState S) → Bool
has_open s None = false
has_open s (Some th) = nat_eq th.section s

abbrev pub is_among : ℕ → List ℕ → Bool
is_among p [] = false
is_among p (q ∷ levels) = nat_eq q p || is_among p levels

-- act number p opened a level of section s, level n or one further inside, that its thread has open still; the word of the
-- section names that thread
abbrev pub opened_inside : {S : Type 0} → Core S → ℕ → ℕ → ℕ → Bool
opened_inside c s n p = has_open s (c.threads (owner_of (c.words (Section s)))) && is_among p (levels_from n (c.levels (owner_of (c.words (Section s)))))

-- it opened one of the levels that are revoked with this act
abbrev pub is_revoked_with : {S : Type 0} → Core S → Act → ℕ → Bool
is_revoked_with c (did t (Revoke s old n) Done) p = opened_inside c s n p
is_revoked_with c (beside t (BreakLevel s old n) Done) p = opened_inside c s n p
is_revoked_with c act p = false

-- with one of these acts, the first of which is number k
abbrev pub is_revoked_from : {S : Type 0} → (ℕ → Core S) → ℕ → List Act → ℕ → Bool
is_revoked_from c k [] p = false
is_revoked_from c k (x ∷ acts) p = is_revoked_with (c k) x p || is_revoked_from c (suc k) acts p

-- act number p opened a level that is revoked at any place of the run
abbrev pub is_level_revoked : {S : Type 0} → (ℕ → Core S) → List Act → ℕ → Bool
is_level_revoked c acts p = is_revoked_from c 0 acts p

-- this is the test, of each run as `section_levels` has them
abbrev pub RevokedLevelsAreTold : {S : Type 0} → Code S → Type 0
RevokedLevelsAreTold {S} code = (b : Bounds) (first : S) (classes : ℕ) (c : ℕ → Core S) (acts : List Act) → IsLevelledRun code b first classes c acts
    → IsDoomedTest c acts (is_level_revoked c acts)
