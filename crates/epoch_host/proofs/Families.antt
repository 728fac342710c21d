-- How the parts of threads go on: one after another, and beside each other.
use Rattle.std.proofs.Common.{◌≡◌, ◌⊎◌, inl, inr, ℕ, zero, suc, ◌+◌, List, [], ◌∷◌, ◌++◌, refl, sym, ap, subst, arith}
use Rattle.std.specs.Prelude.{Contains}
use Rattle.std.proofs.lemmas.List.Elements.{Contains-append_left, Contains-append_right, Contains-append_cases}
use Rattle.core_runs.specs.declared.StepMade.{StepMade}
use Rattle.section_laws.proofs.CoreRunLemmas.{none_there}
use Rattle.table_words.specs.declared.setup.ThreadPart.{ThreadPart}
use Rattle.table_words.specs.Rule.{sum_parts, one_if_numbered}
use Rattle.table_words.specs.Ends.{HasPartOf, HaveAllThreads}
use Rattle.table_words.proofs.Sums.{sum_parts-append}
use Rattle.table_hosts.specs.Families.{HasAllHanded, HaveNoSteps, Begot}
use Rattle.table_hosts.specs.Tallies.{opened_in_steps, undone_in_steps, opened_in_parts, undone_in_parts}
use Rattle.table_hosts.proofs.Families.{has_part_left, has_part_right, handed_nobody}
use Rattle.epoch_host.specs.Parts.{WentOn}

module _ {C : Type 0} where
  part_cases : (n : ℕ) (xs ys : List (ThreadPart C)) → HasPartOf (xs ++ ys) n → HasPartOf xs n ⊎ HasPartOf ys n
  part_cases n xs ys h = by_count (sum_parts (one_if_numbered n) xs) refl
    where
      by_count : (m : ℕ) → sum_parts (one_if_numbered n) xs ≡ m → HasPartOf xs n ⊎ HasPartOf ys n
      by_count zero e = let a = sum_parts-append (one_if_numbered n) xs ys in inr (omega (arith, a, e, h))
      by_count (suc m) e = inl (omega (arith, e))

  pub went_same : (v w : List (ThreadPart C)) → w ≡ v → WentOn v w 0 0
  went_same v w is = record {
    numbers = λ n h. subst (λ u. HasPartOf u n) (sym is) h;
    handed = λ family old has. subst (HasAllHanded family) (sym is) old;
    opens = let same = ap (λ (u : List (ThreadPart C)). opened_in_parts u) is in omega (arith, same);
    undoes = let same = ap (λ (u : List (ThreadPart C)). undone_in_parts u) is in omega (arith, same);
  }

  pub went_then : (a b c : List (ThreadPart C)) (o p u v : ℕ) → WentOn a b o u → WentOn b c p v → WentOn a c (o + p) (u + v)
  went_then a b c o p u v one two = record {
    numbers = λ n h. two.numbers n (one.numbers n h);
    handed = λ family old has. two.handed family (one.handed family old (λ n h. has n (two.numbers n h))) has;
    opens = let x = one.opens in let y = two.opens in omega (arith, x, y);
    undoes = let x = one.undoes in let y = two.undoes in omega (arith, x, y);
  }

  handed_left : (family xs ys : List (ThreadPart C)) → HasAllHanded family (xs ++ ys) → HasAllHanded family xs
  handed_left family xs ys all p there = all p (Contains-append_left xs ys p there)

  handed_right : (family xs ys : List (ThreadPart C)) → HasAllHanded family (xs ++ ys) → HasAllHanded family ys
  handed_right family xs ys all p there = all p (Contains-append_right xs ys p there)

  handed_both : (family xs ys : List (ThreadPart C)) → HasAllHanded family xs → HasAllHanded family ys → HasAllHanded family (xs ++ ys)
  handed_both family xs ys left right p there n handed = elim (Contains-append_cases xs ys p there) [
    | inl one ↦ left p one n handed
    | inr other ↦ right p other n handed
  ]

  pub went_beside : (a b c d : List (ThreadPart C)) (o p u v : ℕ) → WentOn a b o u → WentOn c d p v → WentOn (a ++ c) (b ++ d) (o + p) (u + v)
  went_beside a b c d o p u v one two = record {
    numbers = λ n h. elim (part_cases n a c h) [
      | inl left ↦ has_part_left n b d (one.numbers n left)
      | inr right ↦ has_part_right n b d (two.numbers n right)
    ];
    handed = λ family old has. handed_both family b d (one.handed family (handed_left family a c old) (λ n h. has n (has_part_left n b d h)))
        (two.handed family (handed_right family a c old) (λ n h. has n (has_part_right n b d h)));
    opens = let x = one.opens in let y = two.opens in let before = sum_parts-append (λ (q : ThreadPart C). opened_in_steps q.steps) a c in
        let after = sum_parts-append (λ (q : ThreadPart C). opened_in_steps q.steps) b d in omega (arith, x, y, before, after);
    undoes = let x = one.undoes in let y = two.undoes in let before = sum_parts-append (λ (q : ThreadPart C). undone_in_steps q.steps) a c in
        let after = sum_parts-append (λ (q : ThreadPart C). undone_in_steps q.steps) b d in omega (arith, x, y, before, after);
  }

  pub went_swapped : (a b : List (ThreadPart C)) → WentOn (a ++ b) (b ++ a) 0 0
  went_swapped a b = record {
    numbers = λ n h. elim (part_cases n a b h) [
      | inl left ↦ has_part_right n b a left
      | inr right ↦ has_part_left n b a right
    ];
    handed = λ family old has. handed_both family b a (handed_right family a b old) (handed_left family a b old);
    opens = let before = sum_parts-append (λ (q : ThreadPart C). opened_in_steps q.steps) a b in
        let after = sum_parts-append (λ (q : ThreadPart C). opened_in_steps q.steps) b a in omega (arith, before, after);
    undoes = let before = sum_parts-append (λ (q : ThreadPart C). undone_in_steps q.steps) a b in
        let after = sum_parts-append (λ (q : ThreadPart C). undone_in_steps q.steps) b a in omega (arith, before, after);
  }

  -- threads that have made no step opened no section, and undid nothing
  none_counted : (f : List StepMade → ℕ) → f [] ≡ 0 → (ps : List (ThreadPart C)) → HaveNoSteps ps → sum_parts (λ (p : ThreadPart C). f p.steps) ps ≡ 0
  none_counted f none [] no_steps = refl
  none_counted f none (p ∷ ps) no_steps =
      let first = ap f (no_steps p (Contains-append_left (p ∷ []) ps p (0, omega arith, refl))) in
      let others = none_counted f none ps (λ q there. no_steps q (Contains-append_right (p ∷ []) ps q there)) in
      omega (arith, first, none, others)

  -- the parts of a thread, and those of the threads that it handed out
  pub went_begot : (old new born : List (ThreadPart C)) (o u : ℕ) → Begot old new born → HaveNoSteps born → opened_in_parts new ≡ opened_in_parts old + o → undone_in_parts new ≡ undone_in_parts old + u
      → WentOn old (new ++ born) o u
  went_begot old new born o u begot no_steps opens undoes = record {
    numbers = λ n h. has_part_left n new born (begot.numbers n h);
    handed = λ family was has. handed_both family new born (begot.handed family was (λ n h. has n (has_part_right n new born h)))
        (λ p there n handed. none_there n (subst (λ ns. Contains ns n) (handed_nobody born no_steps p there) handed));
    opens = let both = sum_parts-append (λ (q : ThreadPart C). opened_in_steps q.steps) new born in
        let none = none_counted opened_in_steps refl born no_steps in omega (arith, both, none, opens);
    undoes = let both = sum_parts-append (λ (q : ThreadPart C). undone_in_steps q.steps) new born in
        let none = none_counted undone_in_steps refl born no_steps in omega (arith, both, none, undoes);
  }

  -- where the old parts are those of all threads, the new ones are so too
  pub all_went_on : (old new : List (ThreadPart C)) (o u : ℕ) → HaveAllThreads old → WentOn old new o u → HaveAllThreads new
  all_went_on old new o u all went = record {
    first = went.numbers 1 all.first;
    others = went.handed new (λ p there n handed. went.numbers n (all.others p there n handed)) (λ n h. h);
  }
