-- A step of the thread of a seat keeps the rule, and so does handing out a started thread.
use Rattle.std.proofs.Common.{◌≡◌, ◌≢◌, ⊎_elim, ℕ, zero, suc, ◌≤◌, List, [], ◌∷◌, ◌++◌, set, refl, sym, ◌∙◌, ap, subst, arith, length-set}
use Rattle.std.specs.Prelude.{Contains, nat_eq, slice_index}
use mathlib.Core.Option.{some, some-ne-none}
use mathlib.Core.Logic.{dite}
use native.Mathlib.Decide.{ℕ_discrete}
use lib.ListN.{get_elem?}
use Rattle.atomic_table.specs.Table.{State, keeps, stepped}
use Rattle.atomic_table.proofs.Lists.{at_set, at_snoc}
use Rattle.op_core.specs.ThreadCode.{Code}
use Rattle.heap_words.specs.declared.areas.Area.TheVariants.{Control}
use Rattle.heap_words.specs.Areas.{place_in, IsIn}
use Rattle.plain_words.specs.Table.{HasRoom}
use Rattle.step_port.specs.declared.answer.StepAnswer.TheVariants.{Found}
use Rattle.step_port.specs.declared.step.Step.{Step}
use Rattle.step_port.specs.declared.step.Step.TheVariants.{Split}
use Rattle.step_port.specs.Steps.{place_of, effect_of}
use Rattle.step_port.specs.Words.{put_by, answer_to}
use Rattle.core_runs.specs.declared.StepMade.{StepMade}
use Rattle.core_runs.specs.declared.Birth.{Birth}
use Rattle.core_runs.specs.WordRuns.{RunEntry, words_by, part_of}
use Rattle.core_runs.specs.OwnParts.{births_after, births}
use Rattle.section_laws.proofs.CoreRunLemmas.{begun_later}
use Rattle.section_laws.specs.NextSteps.{step_made}
use Rattle.table_words.specs.declared.setup.Setup.{Setup}
use Rattle.table_words.specs.declared.setup.ThreadPart.{ThreadPart}
use Rattle.table_words.specs.Setups.{setup_areas, setup_words, first_birth}
use Rattle.table_words.specs.Parts.{fresh_part, part_after, IsPartOf, ArePartsOf, IsOwnOf, IsPartInRun}
use Rattle.table_words.specs.Views.{born_by}
use Rattle.table_words.specs.Rule.{sum_parts, sum_views, one_if_numbered, count_numbered, HasRun}
use Rattle.table_words.proofs.Sums.{sum_views-snoc, sum_views-set, view_le, two_views_le}
use Rattle.table_words.proofs.Births.{at_front, same_test, same_number, other_number, flag, flag_le, HandsOutNobody, unborn, none_numbered}
use Rattle.table_words.proofs.Blocks.{word_after, here, steps_so}
use Rattle.table_words.proofs.Growing.{entry_of, part_grows, part_stays, new_number, run_grows}

pub at_set_same : {A : Type 0} (l : List A) (i : ℕ) (a b : A) → get_elem? l i ≡ some a → get_elem? (set l i b) i ≡ some b
at_set_same [] i a b e = absurd (some-ne-none a (sym e))
at_set_same (x ∷ xs) zero a b e = refl
at_set_same (x ∷ xs) (suc i) a b e = at_set_same xs i a b e

-- parts of other threads are still theirs
others_stay : {C : Type 0} (k : Setup C) (run : List RunEntry) (n : ℕ) (m : StepMade) (ps : List (ThreadPart C)) → sum_parts (one_if_numbered n) ps ≡ 0 → ArePartsOf k run ps
    → ArePartsOf k (entry_of n m ∷ run) ps
others_stay k run n m [] none are = tt
others_stay k run n m (p ∷ ps) none are =
    let apart : n ≢ p.birth.number = λ e. let on : flag (nat_eq n p.birth.number) ≡ 1 = ap flag (same_number n p.birth.number e) in absurd (omega (arith, on, none)) in (
      record {
        setup = are.0.setup;
        steps = are.0.steps ∙ sym (part_stays run n p.birth.number m apart);
        born = begun_later m.step (births (first_birth k) run) p.birth are.0.born;
      },
      others_stay k run n m ps (omega (arith, none)) are.1,
    )

module _ {C S : Type 0} (state : C → S) (code : Code S) (k : Setup C) where
  pub in_run : (s : State (Unit {0}) (List (ThreadPart C))) (r : HasRun state code k s) (id : ℕ) (p : ThreadPart C) (ps : List (ThreadPart C)) → get_elem? s.views id ≡ some (p ∷ ps)
      → IsPartInRun state code k p
  in_run s r id p ps at = record { run = r.run; is_run = r.is_run; is_part = (r.parts id (p ∷ ps) at).0 }

  module _ (s : State (Unit {0}) (List (ThreadPart C))) (r : HasRun state code k s) (id : ℕ) (p : ThreadPart C) (ps : List (ThreadPart C)) (at : get_elem? s.views id ≡ some (p ∷ ps)) where
    pub own_part : IsPartOf k r.run p
    own_part = (r.parts id (p ∷ ps) at).0

    abbrev number : ℕ
    number = p.birth.number

    number_once : sum_views (one_if_numbered number) s.views ≤ 1
    number_once = let c = r.counted number in let o = r.once number in omega (arith, c, o)

    mine : one_if_numbered number p ≡ 1
    mine = ap flag (same_test number)

    pub parts_after : (m : StepMade) (seat : ℕ) (u : List (ThreadPart C)) → get_elem? (set s.views id (part_after p m ∷ ps)) seat ≡ some u
        → ArePartsOf k (entry_of number m ∷ r.run) u
    parts_after m seat u there =
        let one = mine in
        let once = number_once in
        let are = r.parts id (p ∷ ps) at in
        ⊎_elim
        (λ (x : (seat ≡ id) × (part_after p m ∷ ps ≡ u)). subst (ArePartsOf k (entry_of number m ∷ r.run)) x.1 (
          record {
            setup = are.0.setup;
            steps = ap (λ part. m ∷ part) are.0.steps ∙ sym (part_grows r.run number m);
            born = begun_later m.step (births (first_birth k) r.run) p.birth are.0.born;
          },
          (let l = view_le (one_if_numbered number) s.views id (p ∷ ps) at in others_stay k r.run number m ps (omega (arith, l, one, once)) are.1),
        ))
        (λ (x : (seat ≢ id) × (get_elem? s.views seat ≡ some u)).
        let l = two_views_le (one_if_numbered number) s.views id seat (p ∷ ps) u at x.1 x.0 in
        others_stay k r.run number m u (omega (arith, l, one, once)) (r.parts seat u x.1))
        (at_set s.views id seat (part_after p m ∷ ps) u there)

    -- ---- a step that hands out no thread

    module _ (step : Step) (there : IsIn (setup_areas k) (place_of step)) where
      abbrev place : ℕ
      place = place_in (setup_areas k) (place_of step)

      abbrev pub found : ℕ
      found = slice_index s.words place

      abbrev pub made_now : StepMade
      made_now = step_made step (answer_to (effect_of step) found)

      pub is_found : found ≡ words_by (setup_words k) r.run (place_of step)
      is_found = sym (here (setup_areas k) s.words (place_of step) there) ∙ ap (λ w. w (place_of step)) r.words

      pub step_kept : HandsOutNobody step → HasRoom (effect_of step) found → IsOwnOf state code k p.birth (made_now ∷ p.steps)
          → HasRun state code k (stepped s place (word_after (effect_of step) found) id [] (part_after p made_now ∷ ps) keeps)
      step_kept nobody room own =
          let mine = own_part in
          let same : births_after step (births (first_birth k) r.run) ≡ births (first_birth k) r.run = nobody (births (first_birth k) r.run) in
          record {
            run = entry_of number made_now ∷ r.run;
            is_run = run_grows state code k r.run r.is_run p.birth mine.born made_now (ap (answer_to (effect_of step)) is_found)
                (subst (λ part. IsOwnOf state code k p.birth (made_now ∷ part)) mine.steps own);
            size = length-set s.words place (word_after (effect_of step) found) ∙ r.size;
            words = steps_so (setup_areas k) s.words (place_of step) there r.size (effect_of step) room ∙ ap (λ w. put_by (effect_of step) w (place_of step)) r.words;
            parts = parts_after made_now;
            counted = λ i.
                let t = sum_views-set (one_if_numbered i) s.views id (p ∷ ps) (part_after p made_now ∷ ps) at in
                let c = r.counted i in
                let b : count_numbered i (births_after step (births (first_birth k) r.run)) ≡ count_numbered i (births (first_birth k) r.run) = ap (count_numbered i) same in
                omega (arith, t, c, b);
            once = λ i. subst (λ xs. count_numbered i xs ≤ 1) (sym same) (r.once i);
          }

    -- ---- the seat of a started thread is handed out

    module _ (n o q : ℕ) (zero_word : words_by (setup_words k) r.run (Control 0) ≡ 0) (own : IsOwnOf state code k p.birth (step_made (Split n o q) (Found 0) ∷ p.steps)) where
      abbrev hands_out : StepMade
      hands_out = step_made (Split n o q) (Found 0)

      abbrev child : ThreadPart C
      child = fresh_part k (born_by (Split n o q))

      own_in_run : IsOwnOf state code k p.birth (hands_out ∷ part_of number r.run)
      own_in_run = subst (λ part. IsOwnOf state code k p.birth (hands_out ∷ part)) own_part.steps own

      is_new : (y : Birth) → Contains (births (first_birth k) r.run) y → n ≢ y.number
      is_new = new_number state code k r.run r.is_run p.birth own_part.born n o q (Found 0) own_in_run

      child_part : ArePartsOf k (entry_of number hands_out ∷ r.run) (child ∷ [])
      child_part =
          let apart : number ≢ n = λ e. is_new p.birth own_part.born (sym e) in (
            record {
              setup = refl;
              steps = sym (part_stays r.run number n hands_out apart ∙ unborn (first_birth k) r.run n r.is_run.begun is_new);
              born = at_front child.birth (births (first_birth k) r.run);
            },
            tt,
          )

      pub split_kept : HasRun state code k (record { words = s.words; homes = s.homes; views = set s.views id (part_after p hands_out ∷ ps) ++ (child ∷ []) ∷ [] })
      split_kept =
          let mine = own_part in
          record {
            run = entry_of number hands_out ∷ r.run;
            is_run = run_grows state code k r.run r.is_run p.birth mine.born hands_out (ap Found (sym zero_word)) own_in_run;
            size = r.size;
            words = r.words;
            parts = λ seat u there. ⊎_elim
                (λ (x : get_elem? (set s.views id (part_after p hands_out ∷ ps)) seat ≡ some u). parts_after hands_out seat u x)
                (λ (x : child ∷ [] ≡ u). subst (ArePartsOf k (entry_of number hands_out ∷ r.run)) x child_part)
                (at_snoc (set s.views id (part_after p hands_out ∷ ps)) (child ∷ []) u seat there);
            counted = λ i.
                let t = sum_views-set (one_if_numbered i) s.views id (p ∷ ps) (part_after p hands_out ∷ ps) at in
                let l = sum_views-snoc (one_if_numbered i) (set s.views id (part_after p hands_out ∷ ps)) (child ∷ []) in
                let c = r.counted i in
                omega (arith, t, l, c);
            once = λ i. dite (ℕ_discrete i n)
                (λ e.
                let z : count_numbered i (births (first_birth k) r.run) ≡ 0 = none_numbered i (births (first_birth k) r.run) (λ y there same. is_new y there (sym e ∙ same)) in
                let f = flag_le (nat_eq i n) in
                omega (arith, z, f))
                (λ ne.
                let off : flag (nat_eq i n) ≡ 0 = ap flag (other_number i n ne) in
                let o = r.once i in
                omega (arith, off, o));
          }
