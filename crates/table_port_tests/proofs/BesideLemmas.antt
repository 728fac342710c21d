-- Steps beside the threads may be made at the seat of the first thread.
use Rattle.std.proofs.Common.{◌≡◌, inl, inr, ℕ, ◌+◌, ◌<◌, true, List, [], ◌∷◌, ◌++◌, refl, sym, ◌∙◌, ap, subst, arith, append-nil}
use Rattle.std.specs.Prelude.{Contains, nat_eq, if◌then◌else◌}
use Rattle.op_core.specs.ThreadCode.{Code}
use Rattle.op_core.specs.declared.Limits.{Limits}
use Rattle.op_core.specs.declared.script.Script.{Script}
use Rattle.fixed_objects.specs.declared.Opening.{Opening}
use Rattle.heap_words.specs.declared.areas.Area.TheVariants.{Section, Object}
use Rattle.heap_words.specs.Areas.{IsIn}
use Rattle.plain_words.specs.Opening.{areas_of}
use Rattle.step_port.specs.declared.answer.StepAnswer.{StepAnswer}
use Rattle.step_port.specs.declared.step.Step.{Step}
use Rattle.section_state.specs.SectionWord.{state_of, pinned_of, depth_of}
use Rattle.section_laws.proofs.CoreRunLemmas.{in_front, none_there}
use Rattle.core_runs.specs.OwnParts.{can_break}
use Rattle.section_laws.specs.NextSteps.{step_made}
use Rattle.table_words.specs.declared.port.TablePort.{TablePort}
use Rattle.table_words.specs.declared.setup.Setup.{Setup}
use Rattle.table_words.specs.declared.setup.ThreadPart.{ThreadPart}
use Rattle.table_words.specs.Setups.{setup_areas, first_birth}
use Rattle.table_words.specs.Parts.{fresh_part, part_after}
use Rattle.table_words.specs.Views.{first_after, IsSeated}
use Rattle.table_words.specs.Ends.{handed_after, handed_numbers, HasPartOf, HaveAllThreads}
use Rattle.table_words.specs.Ports.{SteppedAt}
use Rattle.table_words.specs.Tables.{setup_in}
use Rattle.table_cases.specs.Program.{program_opening, program_limits, IsProgram}
use Rattle.table_port_tests.specs.Beside.{IsFirstAlone, IsFirstPort}

pub at_first : (k : Setup Script) (v : List (ThreadPart Script)) → v ≡ fresh_part k (first_birth k) ∷ [] → IsFirstAlone k v
at_first k v is = record { part = fresh_part k (first_birth k); one = is; setup = refl; number = refl; nobody = refl }

pub seated : (k : Setup Script) (v : List (ThreadPart Script)) → IsFirstAlone k v → IsSeated k v
seated k v first = subst (IsSeated k) (sym first.one) first.setup

areas_are : (k : Setup Script) → IsProgram k → setup_areas k ≡ areas_of program_opening program_limits
areas_are k is = ap (λ (o : Opening). areas_of o k.limits) is.opening ∙ ap (λ (l : Limits). areas_of program_opening l) is.limits

pub monitor_there : (k : Setup Script) → IsProgram k → IsIn (setup_areas k) (Object 14)
monitor_there k is = subst (λ a. IsIn a (Object 14)) (sym (areas_are k is)) (omega arith)

pub section_there : (k : Setup Script) → IsProgram k → IsIn (setup_areas k) (Section 1)
section_there k is = subst (λ a. IsIn a (Section 1)) (sym (areas_are k is)) (omega arith)

-- one level is open, and none is pinned, in the live section of thread 1
pub can_be_broken : can_break 4295295233 1 ≡ true
unfolding state_of pinned_of depth_of
can_be_broken = refl

-- such a step hands out nobody
pub still_first : {S : Type 0} (state : Script → S) (code : Code S) (p q : TablePort Script) (step : Step) (a : StepAnswer) → ((ns : List ℕ) → handed_after step ns ≡ ns)
    → SteppedAt state code p step a q → IsFirstPort p → IsFirstPort q
still_first state code p q step a none stepped first =
    let same : setup_in q.table.now ≡ setup_in p.table.now = ap (λ t. setup_in t) stepped.table in
    let was = first.1 in (
      subst IsProgram (sym same) first.0,
      record {
        part = part_after was.part (step_made step a);
        one = stepped.grown ∙ ap (λ v. first_after v (step_made step a)) was.one;
        setup = was.setup ∙ sym same;
        number = was.number;
        nobody = none (handed_numbers was.part.steps) ∙ was.nobody;
      },
    )

pub first_has_all : (k : Setup Script) (v : List (ThreadPart Script)) → IsFirstAlone k v → HaveAllThreads (v ++ [])
first_has_all k v first = subst HaveAllThreads (sym (append-nil v)) (subst HaveAllThreads (sym first.one) (record {
  first = one;
  others = λ p there n n_in. elim (in_front first.part p [] there) [
    | inl same ↦ none_there n (subst (λ ns. Contains ns n) (ap (λ (u : ThreadPart Script). handed_numbers u.steps) (sym same) ∙ first.nobody) n_in)
    | inr none ↦ none_there p none
  ];
}))
  where
    one : HasPartOf (first.part ∷ []) 1
    one = subst (λ m. 0 < (if nat_eq 1 m then 1 else 0) + 0) (sym first.number) (omega arith)
