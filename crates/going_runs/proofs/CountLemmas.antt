-- The acts of a run make as many steps of a kind as the parts of its threads have.
use Rattle.std.proofs.Common.{◌≡◌, ℕ, suc, ◌+◌, Bool, true, false, cond, List, [], ◌∷◌, length, nat_eq, refl, sym, ◌∙◌, ap, subst, arith}
use Rattle.std.specs.Prelude.{Contains, filter, if◌then◌else◌}
use Rattle.op_core.specs.ThreadCode.{Code}
use Rattle.step_port.specs.declared.answer.StepAnswer.{StepAnswer}
use Rattle.step_port.specs.declared.step.Step.{Step}
use Rattle.thread_automaton.specs.declared.Bounds.{Bounds}
use Rattle.core_runs.specs.declared.StepMade.{StepMade}
use Rattle.core_runs.specs.declared.Birth.{Birth}
use Rattle.core_runs.specs.WordRuns.{RunEntry, part_of}
use Rattle.core_runs.specs.OwnParts.{is_beside, births, StepOnceBegun}
use Rattle.core_runs.specs.Cores.{Core}
use Rattle.core_runs.specs.Acts.{Act, quiet, did, beside, ActFrom}
use Rattle.section_laws.specs.InRuns.{with_entry, with_entries}
use Rattle.section_laws.proofs.CoreRunLemmas.{begun_later}
use Rattle.table_words.specs.declared.setup.Setup.{Setup}
use Rattle.table_words.specs.declared.setup.ThreadPart.{ThreadPart}
use Rattle.table_words.specs.Parts.{ArePartsOf}
use Rattle.table_words.specs.Rule.{sum_parts, one_if_numbered}
use Rattle.table_words.proofs.Births.{flag}

-- how many pass the test
abbrev count : {A : Type 0} → (A → Bool) → List A → ℕ
count test xs = length (filter test xs)

count_cons : {A : Type 0} (test : A → Bool) (x : A) (xs : List A) → count test (x ∷ xs) ≡ flag (test x) + count test xs
count_cons {A} test x xs = by (test x)
  where
    by : (t : Bool) → length (cond t (x ∷ filter test xs) (filter test xs)) ≡ flag t + length (filter test xs)
    by true = omega arith
    by false = omega arith

module _ (act_is : Act → Bool) (by_step : Step → ℕ) (in_steps : List StepMade → ℕ) (of_none : in_steps [] ≡ 0) (of_more : (m : StepMade) (ms : List StepMade) → in_steps (m ∷ ms) ≡ by_step m.step + in_steps ms)
    (of_quiet : (t : ℕ) → act_is (quiet t) ≡ false) (of_beside : (t : ℕ) (step : Step) (a : StepAnswer) → act_is (beside t step a) ≡ false)
    (of_did : (t : ℕ) (step : Step) (a : StepAnswer) → flag (act_is (did t step a)) ≡ by_step step) (of_own : (step : Step) → is_beside step ≡ true → by_step step ≡ 0) where
  in_entries : List RunEntry → ℕ
  in_entries [] = 0
  in_entries (e ∷ run) = by_step e.made.step + in_entries run

  entries_more : (e : RunEntry) (run : List RunEntry) → in_entries (e ∷ run) ≡ by_step e.made.step + in_entries run
  unfolding in_entries
  entries_more e run = refl

  no_entries : in_entries [] ≡ 0
  unfolding in_entries
  no_entries = refl

  -- ---- acts

  module _ {S : Type 0} (code : Code S) (b : Bounds) (c : ℕ → Core S) where
    act_counts : (k : ℕ) (x : Act) (acts : List Act) (run : List RunEntry) → ActFrom code b c k (x ∷ acts) → in_entries (with_entry x run) ≡ flag (act_is x) + in_entries run
    act_counts k (quiet t) acts run leads = let none : flag (act_is (quiet t)) ≡ 0 = ap flag (of_quiet t) in omega (arith, none)
    act_counts k (did t step a) acts run leads = entries_more _ run ∙ ap (λ n. n + in_entries run) (sym (of_did t step a))
    act_counts k (beside t step a) acts run leads = entries_more _ run ∙ ap (λ n. n + in_entries run) (of_own step leads.0.is ∙ sym (ap flag (of_beside t step a)))

    acts_count : (k : ℕ) (acts : List Act) (run : List RunEntry) → ActFrom code b c k acts → in_entries (with_entries acts run) ≡ count act_is acts + in_entries run
    acts_count k [] run leads = omega arith
    acts_count k (x ∷ acts) run leads =
        let later = acts_count (suc k) acts (with_entry x run) leads.1 in
        let now = act_counts k x acts run leads in
        let more = count_cons act_is x acts in
        omega (arith, later, now, more)

  -- ---- parts

  module _ {C : Type 0} where
    abbrev in_part : List RunEntry → ThreadPart C → ℕ
    in_part run p = in_steps (part_of p.birth.number run)

    none_yet : (ps : List (ThreadPart C)) → sum_parts (in_part []) ps ≡ 0
    none_yet [] = refl
    none_yet (p ∷ ps) = let rest = none_yet ps in omega (arith, rest, of_none)

    -- an entry counts for the parts of its thread
    entry_for : (e : RunEntry) (run : List RunEntry) (ps : List (ThreadPart C)) (t : Bool) → by_step e.made.step ≡ flag t
        → sum_parts (in_part (e ∷ run)) ps ≡ (if t then sum_parts (one_if_numbered e.thread) ps else 0) + sum_parts (in_part run) ps
    entry_for e run [] true is = refl
    entry_for e run [] false is = refl
    entry_for e run (p ∷ ps) t is = by t (entry_for e run ps t is) (for_one (nat_eq e.thread p.birth.number) t is)
      where
        for_one : (own t : Bool) → by_step e.made.step ≡ flag t → in_steps (if own then e.made ∷ part_of p.birth.number run else part_of p.birth.number run) ≡ (if t then flag own else 0) + in_part run p
        for_one true true is = of_more e.made (part_of p.birth.number run) ∙ ap (λ n. n + in_part run p) is
        for_one true false is = of_more e.made (part_of p.birth.number run) ∙ ap (λ n. n + in_part run p) is
        for_one false true is = omega arith
        for_one false false is = omega arith

        by : (t : Bool) → sum_parts (in_part (e ∷ run)) ps ≡ (if t then sum_parts (one_if_numbered e.thread) ps else 0) + sum_parts (in_part run) ps
            → in_part (e ∷ run) p ≡ (if t then flag (nat_eq e.thread p.birth.number) else 0) + in_part run p
            → sum_parts (in_part (e ∷ run)) (p ∷ ps) ≡ (if t then sum_parts (one_if_numbered e.thread) (p ∷ ps) else 0) + sum_parts (in_part run) (p ∷ ps)
        by true rest one = omega (arith, rest, one)
        by false rest one = omega (arith, rest, one)

    -- where each thread has one part, all parts together have the steps of the run
    parts_count : (main : Birth) (ps : List (ThreadPart C)) (run : List RunEntry) → StepOnceBegun main run → ((x : Birth) → Contains (births main run) x → sum_parts (one_if_numbered x.number) ps ≡ 1)
        → sum_parts (in_part run) ps ≡ in_entries run
    parts_count main ps [] begun single = none_yet ps ∙ sym no_entries
    parts_count main ps (e ∷ run) begun single =
        let later = parts_count main ps run begun.0 (λ x there. single x (begun_later e.made.step (births main run) x there)) in
        let (birth, there, number) = begun.1 in
        let one : sum_parts (one_if_numbered e.thread) ps ≡ 1 = subst (λ n. sum_parts (one_if_numbered n) ps ≡ 1) number (single birth (begun_later e.made.step (births main run) birth there)) in
        by (act_is (did e.thread e.made.step e.made.answer)) (sym (of_did e.thread e.made.step e.made.answer)) later one
      where
        by : (t : Bool) → by_step e.made.step ≡ flag t → sum_parts (in_part run) ps ≡ in_entries run → sum_parts (one_if_numbered e.thread) ps ≡ 1 → sum_parts (in_part (e ∷ run)) ps ≡ in_entries (e ∷ run)
        by true is later one = let all = entry_for e run ps true is in let more = entries_more e run in omega (arith, all, more, is, later, one)
        by false is later one = let all = entry_for e run ps false is in let more = entries_more e run in omega (arith, all, more, is, later)

    -- the parts have the steps of their threads
    parts_are : (k : Setup C) (run : List RunEntry) (ps : List (ThreadPart C)) → ArePartsOf k run ps → sum_parts (λ p. in_steps p.steps) ps ≡ sum_parts (in_part run) ps
    parts_are k run [] are = refl
    parts_are k run (p ∷ ps) are =
        let one : in_steps p.steps ≡ in_part run p = ap in_steps are.0.steps in
        let rest = parts_are k run ps are.1 in
        omega (arith, one, rest)

  -- so the acts count as the parts do
  pub all_count : {C S : Type 0} (code : Code S) (b : Bounds) (c : ℕ → Core S) (acts : List Act) (run : List RunEntry) (main : Birth) (k : Setup C) (ps : List (ThreadPart C)) → ActFrom code b c 0 acts
      → with_entries acts [] ≡ run → StepOnceBegun main run → ArePartsOf k run ps → ((x : Birth) → Contains (births main run) x → sum_parts (one_if_numbered x.number) ps ≡ 1)
      → count act_is acts ≡ sum_parts (λ p. in_steps p.steps) ps
  all_count code b c acts run main k ps leads steps begun are single =
      let made : in_entries (with_entries acts []) ≡ count act_is acts + in_entries [] = acts_count code b c 0 acts [] leads in
      let same : in_entries (with_entries acts []) ≡ in_entries run = ap in_entries steps in
      let parts = parts_count main ps run begun single in
      let own = parts_are k run ps are in
      omega (arith, made, same, parts, own, no_entries)
