-- What threads become by turns: one after another, and beside each other.
use Rattle.std.proofs.Common.{◌≡◌, inl, inr, ℕ, ◌+◌, ◌<◌, length, List, [], ◌∷◌, ◌++◌, refl, sym, ap, subst, arith, append-nil, append_assoc, ◌∙◌}
use Rattle.std.specs.Prelude.{Contains, slice_index_or}
use Rattle.std.specs.List.{All}
use Rattle.std.proofs.lemmas.List.Elements.{All-nil, All-cons, All-append, All-head, All-tail, All-weaker, All-contains, Contains-get_or, Contains-append_left, Contains-append_right, Contains-append_cases}
use Rattle.op_core.specs.ThreadCode.{Code}
use Rattle.step_port.specs.declared.answer.StepAnswer.{StepAnswer}
use Rattle.step_port.specs.declared.step.Step.{Step}
use Rattle.section_laws.specs.NextSteps.{step_made}
use Rattle.section_laws.proofs.CoreRunLemmas.{in_front, none_there}
use Rattle.table_words.specs.declared.setup.ThreadPart.{ThreadPart}
use Rattle.table_words.specs.declared.table.TableWords.{TableWords}
use Rattle.table_words.specs.Ends.{handed_after, handed_numbers}
use Rattle.table_words.specs.Parts.{part_after}
use Rattle.table_words.specs.Tables.{parts_of_seat}
use Rattle.table_words.specs.Views.{first_after}
use Rattle.table_hosts.specs.declared.seated.SeatedThread.{SeatedThread}
use Rattle.table_hosts.specs.declared.slices.Slice.{Slice}
use Rattle.table_hosts.specs.declared.tally.Pace.{Pace}
use Rattle.table_hosts.specs.Families.{HaveNoSteps, Begot}
use Rattle.table_hosts.specs.HostSteps.{HostStepped}
use Rattle.table_hosts.specs.Seated.{StandsOn, BeginsOn, parts_of_threads}
use Rattle.table_hosts.specs.Slices.{IsSliceAt}
use Rattle.table_hosts.specs.Tallies.{opened_by, undone_by, opened_in_parts, undone_in_parts}
use Rattle.epoch_host.specs.Parts.{WentOn}
use Rattle.epoch_host.specs.Work.{AreSameThreads, BecameBy}
use Rattle.epoch_host.proofs.Families.{went_same, went_then, went_beside, went_swapped, went_begot}

module _ {C : Type 0} where
  pub parts_of_threads-append : (xs ys : List (SeatedThread C)) → parts_of_threads (xs ++ ys) ≡ parts_of_threads xs ++ parts_of_threads ys
  parts_of_threads-append [] ys = refl
  parts_of_threads-append (x ∷ xs) ys = ap (λ ps. parts_of_seat x.seat ++ ps) (parts_of_threads-append xs ys) ∙ sym (append_assoc (parts_of_seat x.seat) (parts_of_threads xs) (parts_of_threads ys))

  -- ---- the same threads

  pub same_threads : (xs ys : List (SeatedThread C)) → ys ≡ xs → AreSameThreads xs ys
  same_threads xs ys is = record {
    there = λ x in_xs. subst (λ zs. Contains zs x) (sym is) in_xs;
    only = λ x in_ys. subst (λ zs. Contains zs x) is in_ys;
    parts = went_same _ _ (ap (λ zs. parts_of_threads zs) is);
  }

  pub same_then : (xs ys zs : List (SeatedThread C)) → AreSameThreads xs ys → AreSameThreads ys zs → AreSameThreads xs zs
  same_then xs ys zs one two = record {
    there = λ x in_xs. two.there x (one.there x in_xs);
    only = λ x in_zs. one.only x (two.only x in_zs);
    parts = went_then _ _ _ 0 0 0 0 one.parts two.parts;
  }

  -- the parts of two lists, one after the other
  went_threads : (a b c d : List (SeatedThread C)) (o p u v : ℕ) → WentOn (parts_of_threads a) (parts_of_threads b) o u → WentOn (parts_of_threads c) (parts_of_threads d) p v
      → WentOn (parts_of_threads (a ++ c)) (parts_of_threads (b ++ d)) (o + p) (u + v)
  went_threads a b c d o p u v one two =
      subst (λ ps. WentOn ps (parts_of_threads (b ++ d)) (o + p) (u + v)) (sym (parts_of_threads-append a c))
      (subst (λ ps. WentOn (parts_of_threads a ++ parts_of_threads c) ps (o + p) (u + v)) (sym (parts_of_threads-append b d)) (went_beside _ _ _ _ o p u v one two))

  pub same_beside : (a b c d : List (SeatedThread C)) → AreSameThreads a b → AreSameThreads c d → AreSameThreads (a ++ c) (b ++ d)
  same_beside a b c d one two = record {
    there = λ x there. elim (Contains-append_cases a c x there) [
      | inl left ↦ Contains-append_left b d x (one.there x left)
      | inr right ↦ Contains-append_right b d x (two.there x right)
    ];
    only = λ x there. elim (Contains-append_cases b d x there) [
      | inl left ↦ Contains-append_left a c x (one.only x left)
      | inr right ↦ Contains-append_right a c x (two.only x right)
    ];
    parts = went_threads a b c d 0 0 0 0 one.parts two.parts;
  }

  pub same_swapped : (a b : List (SeatedThread C)) → AreSameThreads (a ++ b) (b ++ a)
  same_swapped a b = record {
    there = λ x there. elim (Contains-append_cases a b x there) [
      | inl left ↦ Contains-append_right b a x left
      | inr right ↦ Contains-append_left b a x right
    ];
    only = λ x there. elim (Contains-append_cases b a x there) [
      | inl left ↦ Contains-append_right a b x left
      | inr right ↦ Contains-append_left a b x right
    ];
    parts = subst (λ ps. WentOn ps (parts_of_threads (b ++ a)) 0 0) (sym (parts_of_threads-append a b))
        (subst (λ ps. WentOn (parts_of_threads a ++ parts_of_threads b) ps 0 0) (sym (parts_of_threads-append b a)) (went_swapped (parts_of_threads a) (parts_of_threads b)));
  }

  -- what is so of each thread is so of each of the same threads
  pub all_same : (P : SeatedThread C → Type 0) (xs ys : List (SeatedThread C)) → AreSameThreads xs ys → All P xs → All P ys
  all_same P xs ys same all k d within = all_there (slice_in ys k d within)
    where
      slice_in : (zs : List (SeatedThread C)) (k : ℕ) (d : SeatedThread C) → k < length zs → Contains zs (slice_index_or zs k d)
      slice_in zs k d within = Contains-get_or zs k d within

      all_there : Contains ys (slice_index_or ys k d) → P (slice_index_or ys k d)
      all_there there = All-contains P xs (slice_index_or ys k d) all (same.only (slice_index_or ys k d) there)

module _ {C S : Type 0} (state : C → S) (saved : C → List S) (code : Code S) (table : TableWords C) where
  abbrev Became : List (SeatedThread C) → List (SeatedThread C) → ℕ → ℕ → Type 0
  Became old new o u = BecameBy state saved code table old new o u

  pub became_then : (a b c : List (SeatedThread C)) (o p u v : ℕ) → Became a b o u → Became b c p v → Became a c (o + p) (u + v)
  became_then a b c o p u v one two = record { stand = two.stand; went = went_then _ _ _ o p u v one.went two.went }

  pub became_beside : (a b c d : List (SeatedThread C)) (o p u v : ℕ) → Became a b o u → Became c d p v → Became (a ++ c) (b ++ d) (o + p) (u + v)
  became_beside a b c d o p u v one two = record {
    stand = All-append (StandsOn state saved code table) b d one.stand two.stand;
    went = went_threads a b c d o p u v one.went two.went;
  }

  -- no turn
  pub became_same : (xs ys : List (SeatedThread C)) → AreSameThreads xs ys → All (StandsOn state saved code table) xs → Became xs ys 0 0
  became_same xs ys same stand = record { stand = all_same (StandsOn state saved code table) xs ys same stand; went = same.parts }

  pub became_none : Became [] [] 0 0
  became_none = became_same [] [] (same_threads [] [] refl) (All-nil (StandsOn state saved code table))

  all_one : (x : SeatedThread C) → StandsOn state saved code table x → All (StandsOn state saved code table) (x ∷ [])
  all_one x stands = All-cons (StandsOn state saved code table) x [] stands (All-nil (StandsOn state saved code table))

  pub became_itself : (x : SeatedThread C) → StandsOn state saved code table x → Became (x ∷ []) (x ∷ []) 0 0
  became_itself x stands = became_same (x ∷ []) (x ∷ []) (same_threads (x ∷ []) (x ∷ []) refl) (all_one x stands)

  -- ---- steps of the host

  host_grows : (p : ThreadPart C) (step : Step) (a : StepAnswer) → handed_after step (handed_numbers p.steps) ≡ handed_numbers p.steps → Begot (p ∷ []) (part_after p (step_made step a) ∷ []) []
  host_grows p step a none = record {
    numbers = λ n h. h;
    handed = λ family old more q there n n_in. elim (in_front (part_after p (step_made step a)) q [] there) [
      | inl is ↦ old p (0, omega arith, refl) n (subst (λ ns. Contains ns n) none (subst (λ (u : ThreadPart C). Contains (handed_numbers u.steps) n) (sym is) n_in))
      | inr none_in ↦ none_there q none_in
    ];
  }

  pub became_by_host : (x y : SeatedThread C) (step : Step) (a : StepAnswer) → StandsOn state saved code table x → ((ns : List ℕ) → handed_after step ns ≡ ns) → opened_by step ≡ 0 → undone_by step ≡ 0
      → HostStepped state saved code table step a x y → Became (x ∷ []) (y ∷ []) 0 0
  became_by_host x y step a stands none opens undoes made =
      let p = stands.1.part in
      let old : parts_of_seat x.seat ≡ p ∷ [] = stands.1.one in
      let new : parts_of_seat y.seat ≡ part_after p (step_made step a) ∷ [] = made.grown ∙ ap (λ v. first_after v (step_made step a)) old in
      let begot : Begot (parts_of_seat x.seat) (parts_of_seat y.seat) [] = subst (λ v. Begot v (parts_of_seat y.seat) []) (sym old)
      (subst (λ w. Begot (p ∷ []) w []) (sym new) (host_grows p step a (none (handed_numbers p.steps)))) in
      record {
        stand = all_one y made.stands;
        went = subst (λ v. WentOn v (parts_of_seat y.seat ++ []) 0 0) (sym (append-nil (parts_of_seat x.seat)))
            (went_begot (parts_of_seat x.seat) (parts_of_seat y.seat) [] 0 0 begot (λ q there. none_there q there)
            (let was = ap (λ (v : List (ThreadPart C)). opened_in_parts v) old in let is = ap (λ (v : List (ThreadPart C)). opened_in_parts v) new in omega (arith, was, is, opens))
            (let was = ap (λ (v : List (ThreadPart C)). undone_in_parts v) old in let is = ap (λ (v : List (ThreadPart C)). undone_in_parts v) new in omega (arith, was, is, undoes)));
      }

  -- ---- a slice

  no_steps_in : (xs : List (SeatedThread C)) → All (BeginsOn state saved code table) xs → HaveNoSteps (parts_of_threads xs)
  no_steps_in [] all p there = none_there p there
  no_steps_in (x ∷ xs) all p there = elim (Contains-append_cases (parts_of_seat x.seat) (parts_of_threads xs) p there) [
    | inl one ↦ (All-head (BeginsOn state saved code table) x xs all).1 p one
    | inr other ↦ no_steps_in xs (All-tail (BeginsOn state saved code table) x xs all) p other
  ]

  pub became_by_slice : (pace : Pace) (most : ℕ) (x : SeatedThread C) (slice : Slice C) → IsSliceAt state saved code table pace most x slice
      → Became (x ∷ []) (slice.seated ∷ slice.born.items) slice.tally.opened slice.tally.undone
  became_by_slice pace most x slice is = record {
    stand = All-cons (StandsOn state saved code table) slice.seated slice.born.items is.stands
        (All-weaker (BeginsOn state saved code table) (StandsOn state saved code table) (λ y begins. begins.0) slice.born.items is.born);
    went = subst (λ v. WentOn v (parts_of_seat slice.seated.seat ++ parts_of_threads slice.born.items) slice.tally.opened slice.tally.undone) (sym (append-nil (parts_of_seat x.seat)))
        (went_begot (parts_of_seat x.seat) (parts_of_seat slice.seated.seat) (parts_of_threads slice.born.items) slice.tally.opened slice.tally.undone is.begot (no_steps_in slice.born.items is.born)
        is.tally.opened is.tally.undone);
  }
