-- All seats of a table together know its whole run.
use Rattle.std.proofs.Common.{◌≡◌, inl, inr, ℕ, zero, suc, ◌<◌, Bool, true, false, List, [], ◌∷◌, refl, sym, ◌∙◌, ap, subst, arith}
use Rattle.std.specs.Prelude.{Contains, nat_eq, if◌then◌else◌}
use Rattle.atomic_table.specs.Table.{Final, Seen}
use Rattle.op_core.specs.ThreadCode.{Code}
use Rattle.plain_words.specs.Block.{word_at, words_of}
use Rattle.step_port.specs.declared.step.Step.{Step}
use Rattle.step_port.specs.declared.step.Step.TheVariants.{Split}
use Rattle.core_runs.specs.declared.Birth.{Birth}
use Rattle.core_runs.specs.WordRuns.{RunEntry, part_of}
use Rattle.core_runs.specs.OwnParts.{births, StepOnceBegun}
use Rattle.section_laws.proofs.CoreRunLemmas.{in_front, behind_front, none_there}
use Rattle.table_words.specs.declared.setup.Setup.{Setup}
use Rattle.table_words.specs.declared.setup.ThreadPart.{ThreadPart}
use Rattle.table_words.specs.Setups.{setup_areas, first_birth}
use Rattle.table_words.specs.Parts.{IsPartOf, ArePartsOf}
use Rattle.table_words.specs.Rule.{sum_parts, one_if_numbered, HasRun}
use Rattle.table_words.specs.Ends.{handed_after, handed_numbers, HasPartOf, HaveAllThreads, IsWholeRun}
use Rattle.table_words.proofs.Sums.{view_le}
use Rattle.table_words.proofs.Births.{at_front, same_test, flagged, Born, before, now, born}

part_at : {C : Type 0} (k : Setup C) (run : List RunEntry) (ps : List (ThreadPart C)) (p : ThreadPart C) → Contains ps p → ArePartsOf k run ps → IsPartOf k run p
part_at k run [] p there are = none_there p there
part_at k run (q ∷ ps) p there are = elim (in_front q p ps there) [
  | inl is ↦ subst (IsPartOf k run) is are.0
  | inr rest ↦ part_at k run ps p rest are.1
]

-- where f adds up to something, a part has something
some_part : {C : Type 0} (f : ThreadPart C → ℕ) (ps : List (ThreadPart C)) → 0 < sum_parts f ps → (p : ThreadPart C) × Contains ps p × (0 < f p)
some_part f [] h = absurd (omega (arith, h))
some_part f (p ∷ ps) h = by_count (f p) refl (some_part f ps)
  where
    by_count : (n : ℕ) → f p ≡ n → (0 < sum_parts f ps → (q : ThreadPart _) × Contains ps q × (0 < f q)) → (q : ThreadPart _) × Contains (p ∷ ps) q × (0 < f q)
    by_count zero e more = let r = more (omega (arith, h, e)) in (r.0, behind_front p r.0 ps r.1, r.2)
    by_count (suc n) e more = (p, at_front p ps, omega (arith, e))

still_handed : (step : Step) (m : ℕ) (ns : List ℕ) → Contains ns m → Contains (handed_after step ns) m
still_handed (Split n o q) m ns there = behind_front n m ns there
still_handed step m ns there = there

-- what a part handed out it has handed out after more steps
longer : (e : RunEntry) (n m : ℕ) (run : List RunEntry) → Contains (handed_numbers (part_of n run)) m → Contains (handed_numbers (part_of n (e ∷ run))) m
longer e n m run there = by_test (nat_eq e.thread n)
  where
    by_test : (t : Bool) → Contains (handed_numbers (if t then e.made ∷ part_of n run else part_of n run)) m
    by_test true = still_handed e.made.step m (handed_numbers (part_of n run)) there
    by_test false = there

module _ {C : Type 0} (k : Setup C) (ps : List (ThreadPart C)) (one : HasPartOf ps 1) where
  abbrev HasHanded : List RunEntry → Type 0
  HasHanded run = (p : ThreadPart C) → Contains ps p → (m : ℕ) → Contains (handed_numbers (part_of p.birth.number run)) m → HasPartOf ps m

  -- each thread of the run has a part
  has_all : (run : List RunEntry) → StepOnceBegun (first_birth k) run → HasHanded run → (x : Birth) → Contains (births (first_birth k) run) x → HasPartOf ps x.number
  has_all [] so handed x there = elim (in_front (first_birth k) x [] there) [
    | inl is ↦ subst (HasPartOf ps) (ap (λ (z : Birth). z.number) is) one
    | inr rest ↦ none_there x rest
  ]
  has_all (e ∷ run) so handed x there =
      let less : HasHanded run = λ p p_in m m_in. handed p p_in m (longer e p.birth.number m run m_in) in
      by_birth (has_all run so.0 less) (born e.made.step (births (first_birth k) run) x there)
    where
      by_birth : ((y : Birth) → Contains (births (first_birth k) run) y → HasPartOf ps y.number) → Born e.made.step (births (first_birth k) run) x → HasPartOf ps x.number
      by_birth old (before was) = old x was
      by_birth old (now n o q step same) =
          let its : HasPartOf ps e.thread = subst (HasPartOf ps) so.1.2 (old so.1.0 so.1.1) in
          let found = some_part (one_if_numbered e.thread) ps its in
          let number : e.thread ≡ found.0.birth.number = flagged e.thread found.0.birth.number found.2 in
          let child : Contains (handed_numbers (part_of e.thread (e ∷ run))) n =
          subst (λ (t : Bool). Contains (handed_numbers (if t then e.made ∷ part_of e.thread run else part_of e.thread run)) n) (sym (same_test e.thread))
          (subst (λ st. Contains (handed_after st (handed_numbers (part_of e.thread run))) n) (sym step) (at_front n (handed_numbers (part_of e.thread run)))) in
          subst (HasPartOf ps) (ap (λ (z : Birth). z.number) same) (handed found.0 found.1 n (subst (λ i. Contains (handed_numbers (part_of i (e ∷ run))) n) number child))

module _ {C S : Type 0} (state : C → S) (code : Code S) (k : Setup C) where
  pub whole : (id : ℕ) (ps : List (ThreadPart C)) (ws : List ℕ) (xs : List (Unit {0})) → HaveAllThreads ps → Final (Seen (HasRun state code k) id ps) ws xs
      → IsWholeRun state code k (words_of (setup_areas k) (word_at ws)) ps
  whole id ps ws xs all end =
      let r = end.1.0 in
      let are = r.parts id ps end.1.1 in
      record {
        run = r.run;
        is_run = r.is_run;
        words = ap (λ l. words_of (setup_areas k) (word_at l)) (sym end.2) ∙ r.words;
        parts = are;
        all = has_all k ps all.first r.run r.is_run.begun
            (λ p p_in m m_in. all.others p p_in m (subst (λ steps. Contains (handed_numbers steps) m) (sym (part_at k r.run ps p p_in are).steps) m_in));
        once = λ n.
            let at_most_all = view_le (one_if_numbered n) _ id ps end.1.1 in
            let as_counted = r.counted n in
            let at_most_one = r.once n in
            omega (arith, at_most_all, as_counted, at_most_one);
      }
