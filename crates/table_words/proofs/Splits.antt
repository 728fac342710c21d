-- Seats that are handed out and joined, and the table as it is made.
use Rattle.std.proofs.Common.{◌≡◌, ◌≢◌, ⊎_elim, ℕ, zero, suc, List, [], ◌∷◌, ◌++◌, length, set, refl, sym, ◌∙◌, ap, subst, arith, append_assoc, append-nil}
use Rattle.std.specs.Prelude.{Contains, nat_eq}
use mathlib.Core.Option.{some, some-injective, some-ne-none}
use lib.ListN.{get_elem?}
use Rattle.atomic_table.specs.Table.{Splits, Joins, opening as opened}
use Rattle.atomic_table.proofs.Lists.{at_set}
use Rattle.op_core.specs.ThreadCode.{Code}
use Rattle.heap_words.specs.Areas.{size_of}
use Rattle.plain_words.specs.Block.{word_at, words_of}
use Rattle.step_port.specs.declared.answer.StepAnswer.TheVariants.{Found}
use Rattle.step_port.specs.declared.step.Step.TheVariants.{Split}
use Rattle.core_runs.specs.declared.StepMade.{StepMade}
use Rattle.core_runs.specs.declared.Birth.{Birth}
use Rattle.core_runs.specs.WordRuns.{RunEntry, part_of}
use Rattle.core_runs.specs.OwnParts.{births}
use Rattle.section_laws.specs.NextSteps.{step_made}
use Rattle.table_words.specs.declared.setup.Setup.{Setup}
use Rattle.table_words.specs.declared.setup.ThreadPart.{ThreadPart}
use Rattle.table_words.specs.declared.seat.TableSeat.{TableSeat}
use Rattle.table_words.specs.Setups.{setup_areas, setup_words, first_birth}
use Rattle.table_words.specs.Parts.{fresh_part, part_after, ArePartsOf, IsOwnOf, IsPartInRun}
use Rattle.table_words.specs.Views.{first_after, born_by, step_or_load, FirstIsInRun, FirstMayMake, parent_view, child_view}
use Rattle.table_words.specs.Rule.{one_if_numbered, HasRun}
use Rattle.table_words.specs.Tables.{parts_of_seat, parts_of_seats}
use Rattle.table_words.proofs.Sums.{sum_parts-append, sum_views-set}
use Rattle.table_words.proofs.Births.{at_front, flag_le, unborn}
use Rattle.table_words.proofs.Growing.{entry_of, seats_word, part_stays, nothing_yet, new_number, run_grows, goes_on}
use Rattle.table_words.proofs.Keeps.{split_kept}
use Rattle.table_words.proofs.Tells.{next_is}

parts_append : {C : Type 0} (k : Setup C) (run : List RunEntry) (ps qs : List (ThreadPart C)) → ArePartsOf k run ps → ArePartsOf k run qs → ArePartsOf k run (ps ++ qs)
parts_append k run [] qs a b = b
parts_append k run (p ∷ ps) qs a b = (a.0, parts_append k run ps qs a.1 b)

pub parts_of_seats-snoc : {C : Type 0} (ss : List (TableSeat C)) (s : TableSeat C) → parts_of_seats (ss ++ s ∷ []) ≡ parts_of_seats ss ++ parts_of_seat s
parts_of_seats-snoc [] s = append-nil (parts_of_seat s)
parts_of_seats-snoc (x ∷ ss) s = ap (λ ps. parts_of_seat x ++ ps) (parts_of_seats-snoc ss s) ∙ sym (append_assoc (parts_of_seat x) (parts_of_seats ss) (parts_of_seat s))

module _ {C S : Type 0} (state : C → S) (code : Code S) (k : Setup C) where
  -- ---- a seat is handed out

  abbrev hands_out : ℕ → ℕ → ℕ → StepMade
  hands_out n o q = step_made (Split n o q) (Found 0)

  abbrev child_of : ℕ → ℕ → ℕ → ThreadPart C
  child_of n o q = fresh_part k (born_by (Split n o q))

  pub parent_is : (v : List (ThreadPart C)) (n o q : ℕ) → FirstMayMake state code k v (Split n o q) → parent_view state code v ≡ first_after v (hands_out n o q)
  parent_is [] n o q may = absurd may
  parent_is (p ∷ ps) n o q may = ap (λ next. part_after p (step_made (step_or_load next) (Found 0)) ∷ ps) (next_is state code k p (Split n o q) refl may)

  pub child_is : (v : List (ThreadPart C)) (n o q : ℕ) → FirstMayMake state code k v (Split n o q) → child_view state code v ≡ child_of n o q ∷ []
  child_is [] n o q may = absurd may
  child_is (p ∷ ps) n o q may =
      let next = next_is state code k p (Split n o q) refl may in
      ap (λ (x : Setup C × _). fresh_part x.0 (born_by (step_or_load x.1)) ∷ []) (λ i. (may.in_run.is_part.setup i, next i))

  pub split_allowed : (id : ℕ) (v : List (ThreadPart C)) (n o q : ℕ) → FirstMayMake state code k v (Split n o q)
      → Splits (HasRun state code k) id v (parent_view state code v) (child_view state code v)
  split_allowed id [] n o q may = absurd may
  split_allowed id (p ∷ ps) n o q may = λ s r at.
      subst (λ (x : List (ThreadPart C) × List (ThreadPart C)). HasRun state code k (record { words = s.words; homes = s.homes; views = set s.views id x.0 ++ x.1 ∷ [] }))
      (λ i. (sym (parent_is (p ∷ ps) n o q may) i, sym (child_is (p ∷ ps) n o q may) i))
      (split_kept state code k s r id p ps at n o q (seats_word (setup_words k) r.run refl) (may.own (Found 0)))

  -- the part that hands out goes on in a run
  pub parent_in_run : (v : List (ThreadPart C)) (n o q : ℕ) → FirstMayMake state code k v (Split n o q) → FirstIsInRun state code k (first_after v (hands_out n o q))
  parent_in_run [] n o q may = absurd may
  parent_in_run (p ∷ ps) n o q may =
      goes_on state code k p may.in_run (hands_out n o q) (ap Found (sym (seats_word (setup_words k) may.in_run.run refl))) (may.own (Found 0))

  -- the part that is handed out begins in a run
  pub child_in_run : (v : List (ThreadPart C)) (n o q : ℕ) → FirstMayMake state code k v (Split n o q) → IsPartInRun state code k (child_of n o q)
  child_in_run [] n o q may = absurd may
  child_in_run (p ∷ ps) n o q may =
      let run = may.in_run.run in
      let is = may.in_run.is_run in
      let part = may.in_run.is_part in
      let own : IsOwnOf state code k p.birth (hands_out n o q ∷ part_of p.birth.number run) = subst (λ steps. IsOwnOf state code k p.birth (hands_out n o q ∷ steps)) part.steps (may.own (Found 0)) in
      let new : (y : Birth) → Contains (births (first_birth k) run) y → n ≢ y.number = new_number state code k run is p.birth part.born n o q (Found 0) own in
      record {
        run = entry_of p.birth.number (hands_out n o q) ∷ run;
        is_run = run_grows state code k run is p.birth part.born (hands_out n o q) (ap Found (sym (seats_word (setup_words k) run refl))) own;
        is_part = record {
          setup = refl;
          steps = sym (part_stays run p.birth.number n (hands_out n o q) (λ e. new p.birth part.born (sym e)) ∙ unborn (first_birth k) run n is.begun new);
          born = at_front (child_of n o q).birth (births (first_birth k) run);
        };
      }

  -- ---- a seat takes in the parts of another

  pub join_allowed : (id other : ℕ) (v w : List (ThreadPart C)) → Joins (HasRun state code k) id v other w (v ++ w) []
  join_allowed id other v w s r at apart there =
      let w_at : get_elem? s.views other ≡ some w = ⊎_elim
      (λ (x : (other ≡ id) × (v ++ w ≡ w)). absurd (apart x.0))
      (λ (x : (other ≢ id) × (get_elem? s.views other ≡ some w)). x.1)
      (at_set s.views id other (v ++ w) w there) in
      record {
        run = r.run;
        is_run = r.is_run;
        size = r.size;
        words = r.words;
        parts = λ seat u at_u. ⊎_elim
            (λ (x : (seat ≡ other) × ([] ≡ u)). subst (ArePartsOf k r.run) x.1 tt)
            (λ (x : (seat ≢ other) × (get_elem? (set s.views id (v ++ w)) seat ≡ some u)). ⊎_elim
            (λ (y : (seat ≡ id) × (v ++ w ≡ u)). subst (ArePartsOf k r.run) y.1 (parts_append k r.run v w (r.parts id v at) (r.parts other w w_at)))
            (λ (y : (seat ≢ id) × (get_elem? s.views seat ≡ some u)). r.parts seat u y.1)
            (at_set s.views id seat (v ++ w) u x.1))
            (at_set (set s.views id (v ++ w)) other seat [] u at_u);
        counted = λ n.
            let a = sum_views-set (one_if_numbered n) s.views id v (v ++ w) at in
            let b = sum_views-set (one_if_numbered n) (set s.views id (v ++ w)) other w [] there in
            let c = sum_parts-append (one_if_numbered n) v w in
            let d = r.counted n in
            omega (arith, a, b, c, d);
        once = r.once;
      }

  -- ---- the table as it is made

  pub opens : (ws : List ℕ) → length ws ≡ size_of (setup_areas k) → words_of (setup_areas k) (word_at ws) ≡ setup_words k
      → HasRun state code k (opened ws [] (fresh_part k (first_birth k) ∷ []))
  opens ws size is = record {
    run = [];
    is_run = record { words = tt; begun = tt; own = λ x there. nothing_yet state code k x };
    size = size;
    words = is;
    parts = first;
    counted = λ n. omega arith;
    once = λ n. let a = flag_le (nat_eq n 1) in omega (arith, a);
  }
    where
      first : (seat : ℕ) (ps : List (ThreadPart C)) → get_elem? ((fresh_part k (first_birth k) ∷ []) ∷ []) seat ≡ some ps → ArePartsOf k [] ps
      first zero ps e = subst (ArePartsOf k []) (some-injective _ _ e) (record { setup = refl; steps = refl; born = at_front (first_birth k) [] }, tt)
      first (suc seat) ps e = absurd (some-ne-none ps (sym e))
