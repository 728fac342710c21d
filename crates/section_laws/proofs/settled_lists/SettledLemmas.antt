-- `Settled` with each kind of step.
use Rattle.std.proofs.Common.{◌≡◌, ◌≢◌, ◌⊎◌, ℕ, Bool, true, false, List, [], ◌∷◌, refl, sym, ◌∙◌, ap, subst, inl, inr}
use Rattle.op_core.specs.OrdinaryState.{set_at}
use Rattle.op_core.proofs.PointwiseLemmas.{same_or_other, set_at-at, set_at-hit, set_at-other, set_at-both, set_at-back}
use Rattle.heap_words.specs.Words.{value_of}
use Rattle.write_log.specs.declared.Noted.{Noted}
use Rattle.section_laws.specs.Settled.{replay, notes, Carries, AreNotedAgain, Settled}
use Rattle.section_laws.proofs.settled_lists.ReplayLemmas.{replay_reads, replay_unnoted, not_noted, noted_first, noted_more, noted_or, tested, both}

module _ (IsWord : ℕ → Type 0) (heap settled : ℕ → ℕ) (back : ℕ → List Noted) (own least : ℕ → ℕ) (facts : Settled IsWord heap settled back own least) where
  -- a word that one thread is to put back is no other's
  pub one_thread : (t u p : ℕ) → notes p (back t) ≡ true → notes p (back u) ≡ true → t ≡ u
  one_thread t u p is also = facts.apart t u p p is also (sym (facts.carries t p is).0 ∙ (facts.carries u p also).0)

  -- A thread that isn't to be undone writes: nobody is to put the word back.
  pub kept_write : (p w : ℕ) → ((t : ℕ) → notes p (back t) ≡ false)
      → Settled IsWord (set_at heap p w) (set_at settled p (value_of w)) back own least
  kept_write p w none = record {
    stands = λ q word free. set_at-both (λ a b. a ≡ value_of b) settled heap p (value_of w) w q (λ _. refl) (λ _. facts.stands q word free);
    put_back = λ t q is. set_at-other settled p (value_of w) q (differs t q is) ∙ facts.put_back t q is
        ∙ ap value_of (replay_reads (back t) heap (set_at heap p w) q (sym (set_at-other heap p w q (differs t q is))));
    words = facts.words;
    carries = λ t q is. set_at-at (λ x. Carries (own t) (least t) x) heap p w q (λ here. absurd (differs t q is here)) (λ _. facts.carries t q is);
    again = facts.again;
    apart = facts.apart;
  }
    where
      differs : (t q : ℕ) → notes q (back t) ≡ true → q ≢ p
      differs t q is here = both (notes p (back t)) (subst (λ n. notes n (back t) ≡ true) here is) (none t)

  -- A thread that is to be undone writes a word, and logs it.
  module _ (t p w : ℕ) (word : IsWord p) (tags : Carries (own t) (least t) w) (others : (u : ℕ) → u ≢ t → notes p (back u) ≡ false)
      (alone : (u q : ℕ) → notes q (back u) ≡ true → own t ≡ own u → t ≡ u) where
    abbrev x : Noted
    x = record { at = p; old = heap p }

    abbrev heap' : ℕ → ℕ
    heap' = set_at heap p w

    abbrev back' : ℕ → List Noted
    back' = set_at back t (x ∷ back t)

    unwritten : (q : ℕ) → set_at heap' p (heap p) q ≡ heap q
    unwritten q = set_at-at (λ v. v ≡ heap q) heap' p (heap p) q (λ here. ap heap (sym here)) (λ other. set_at-other heap p w q other)

    before : (u q : ℕ) → notes q (back' u) ≡ true → (q ≡ p) ⊎ (notes q (back u) ≡ true)
    before u q = set_at-at (λ log. notes q log ≡ true → (q ≡ p) ⊎ (notes q (back u) ≡ true)) back t (x ∷ back t) u
        (λ here is. elim (noted_or q x (back t) is) [ inl at ↦ inl at | inr was ↦ inr (subst (λ n. notes q (back n) ≡ true) (sym here) was) ])
        (λ other is. inr is)

    settled_there : notes p (back t) ≡ false → settled p ≡ value_of (heap p)
    settled_there none = facts.stands p word (λ u. elim (same_or_other u t) [ inl here ↦ subst (λ n. notes p (back n) ≡ false) (sym here) none | inr other ↦ others u other ])

    of_own : (q : ℕ) → notes q (x ∷ back t) ≡ true → settled q ≡ value_of (replay (x ∷ back t) heap' q)
    of_own q is = elim (tested (notes q (back t))) [
      | inl was ↦ facts.put_back t q was ∙ ap value_of (replay_reads (back t) heap (set_at heap' p (heap p)) q (sym (unwritten q)))
      | inr none ↦ elim (noted_or q x (back t) is) [
        | inl at ↦ subst (λ n. settled n ≡ value_of (replay (x ∷ back t) heap' n)) (sym at)
            (settled_there (subst (λ n. notes n (back t) ≡ false) at none)
            ∙ ap value_of (sym (replay_unnoted (back t) (set_at heap' p (heap p)) p (subst (λ n. notes n (back t) ≡ false) at none) ∙ unwritten p)))
        | inr was ↦ both (notes q (back t)) was none
      ]
    ]

    of_other : (u q : ℕ) → u ≢ t → notes q (back u) ≡ true → settled q ≡ value_of (replay (back u) heap' q)
    of_other u q other is = facts.put_back u q is ∙ ap value_of (replay_reads (back u) heap heap' q (sym (set_at-other heap p w q (apart u q other is))))
      where
        apart : (u q : ℕ) → u ≢ t → notes q (back u) ≡ true → q ≢ p
        apart u q other is here = both (notes p (back u)) (subst (λ n. notes n (back u) ≡ true) here is) (others u other)

    pub noted_write : Settled IsWord heap' settled back' own least
    noted_write = record {
      stands = λ q is free. elim (same_or_other q p) [
        | inl here ↦ both (notes p (back' t)) (subst (λ log. notes p log ≡ true) (sym (set_at-hit back t (x ∷ back t))) (noted_first x (back t)))
            (subst (λ n. notes n (back' t) ≡ false) here (free t))
        | inr other ↦ facts.stands q is (λ u. set_at-at (λ log. notes q log ≡ false → notes q (back u) ≡ false) back t (x ∷ back t) u
            (λ here none. subst (λ n. notes q (back n) ≡ false) (sym here) (not_noted q x (back t) none).1) (λ _ none. none) (free u))
            ∙ ap value_of (sym (set_at-other heap p w q other))
      ];
      put_back = λ u q. set_at-at (λ log. notes q log ≡ true → settled q ≡ value_of (replay log heap' q)) back t (x ∷ back t) u
          (λ _ is. of_own q is) (λ other is. of_other u q other is);
      words = λ u q is. elim (before u q is) [ inl here ↦ subst IsWord (sym here) word | inr was ↦ facts.words u q was ];
      carries = λ u q. set_at-at (λ log. notes q log ≡ true → Carries (own u) (least u) (heap' q)) back t (x ∷ back t) u
          (λ here is. set_at-at (λ v. Carries (own u) (least u) v) heap p w q (λ _. subst (λ n. Carries (own n) (least n) w) (sym here) tags)
          (λ other. elim (noted_or q x (back t) is) [
            | inl at ↦ absurd (other at)
            | inr was ↦ facts.carries u q (subst (λ n. notes q (back n) ≡ true) (sym here) was)
          ]))
          (λ other is. set_at-at (λ v. Carries (own u) (least u) v) heap p w q
          (λ here. both (notes p (back u)) (subst (λ n. notes n (back u) ≡ true) here is) (others u other)) (λ _. facts.carries u q is));
      again = λ u. set_at-at (λ log. AreNotedAgain (own u) (least u) log) back t (x ∷ back t) u
          (λ here. subst (λ n. AreNotedAgain (own n) (least n) (x ∷ back t)) (sym here) ((λ is. facts.carries t p is), facts.again t))
          (λ _. facts.again u);
      apart = λ u v q r is also same. elim (before u q is) [
        | inl here ↦ own_first u v q r is also same
        | inr was ↦ elim (before v r also) [ inl here ↦ own_second u v q r was also same | inr too ↦ facts.apart u v q r was too same ]
      ];
    }
      where
        whose : (u q : ℕ) → notes q (back' u) ≡ true → (u ≡ t) ⊎ (notes q (back u) ≡ true)
        whose u q = set_at-at (λ log. notes q log ≡ true → (u ≡ t) ⊎ (notes q (back u) ≡ true)) back t (x ∷ back t) u (λ here _. inl here) (λ _ is. inr is)

        own_first : (u v q r : ℕ) → notes q (back' u) ≡ true → notes r (back' v) ≡ true → own u ≡ own v → u ≡ v
        own_first u v q r is also same = elim (whose u q is) [
          | inl here ↦ elim (whose v r also) [
            | inl there ↦ here ∙ sym there
            | inr was ↦ here ∙ alone v r was (ap own (sym here) ∙ same)
          ]
          | inr was ↦ elim (whose v r also) [
            | inl there ↦ sym (alone u q was (ap own (sym there) ∙ sym same)) ∙ sym there
            | inr too ↦ facts.apart u v q r was too same
          ]
        ]

        own_second : (u v q r : ℕ) → notes q (back u) ≡ true → notes r (back' v) ≡ true → own u ≡ own v → u ≡ v
        own_second u v q r was also same = elim (whose v r also) [
          | inl there ↦ sym (alone u q was (ap own (sym there) ∙ sym same)) ∙ sym there
          | inr too ↦ facts.apart u v q r was too same
        ]

  -- A thread puts back the word that it has logged last.
  module _ (t : ℕ) (x : Noted) (rest : List Noted) (logs : back t ≡ x ∷ rest) where
    abbrev heap'' : ℕ → ℕ
    heap'' = set_at heap x.at x.old

    abbrev back'' : ℕ → List Noted
    back'' = set_at back t rest

    first : notes x.at (back t) ≡ true
    first = subst (λ log. notes x.at log ≡ true) (sym logs) (noted_first x rest)

    was_noted : (u q : ℕ) → notes q (back'' u) ≡ true → notes q (back u) ≡ true
    was_noted u q = set_at-at (λ log. notes q log ≡ true → notes q (back u) ≡ true) back t rest u
        (λ here is. subst (λ n. notes q (back n) ≡ true) (sym here) (subst (λ log. notes q log ≡ true) (sym logs) (noted_more q x rest is)))
        (λ _ is. is)

    not_here : (u q : ℕ) → u ≢ t → notes q (back u) ≡ true → q ≢ x.at
    not_here u q other is here = other (one_thread u t x.at (subst (λ n. notes n (back u) ≡ true) here is) first)

    put : (q : ℕ) → notes q (x ∷ rest) ≡ true → settled q ≡ value_of (replay rest heap'' q)
    put q is = facts.put_back t q (subst (λ log. notes q log ≡ true) (sym logs) is) ∙ ap (λ log. value_of (replay log heap q)) logs

    pub undone_write : Settled IsWord heap'' settled back'' own least
    undone_write = record {
      stands = λ q word free. elim (same_or_other q x.at) [
        | inl here ↦ subst (λ n. settled n ≡ value_of (heap'' n)) (sym here)
            (put x.at (noted_first x rest) ∙ ap value_of (replay_unnoted rest heap'' x.at
            (subst (λ log. notes x.at log ≡ false) (set_at-hit back t rest) (subst (λ n. notes n (back'' t) ≡ false) here (free t)))))
        | inr other ↦ facts.stands q word (λ u. unnoted q other free u) ∙ ap value_of (sym (set_at-other heap x.at x.old q other))
      ];
      put_back = λ u q. set_at-at (λ log. notes q log ≡ true → settled q ≡ value_of (replay log heap'' q)) back t rest u
          (λ _ is. put q (noted_more q x rest is))
          (λ other is. facts.put_back u q is ∙ ap value_of (replay_reads (back u) heap heap'' q (sym (set_at-other heap x.at x.old q (not_here u q other is)))));
      words = λ u q is. facts.words u q (was_noted u q is);
      carries = λ u q. set_at-at (λ log. notes q log ≡ true → Carries (own u) (least u) (heap'' q)) back t rest u
          (λ here is. set_at-at (λ v. Carries (own u) (least u) v) heap x.at x.old q
          (λ at. subst (λ n. Carries (own n) (least n) x.old) (sym here) ((again_of t).0 (subst (λ n. notes n rest ≡ true) at is)))
          (λ _. facts.carries u q (subst (λ n. notes q (back n) ≡ true) (sym here) (subst (λ log. notes q log ≡ true) (sym logs) (noted_more q x rest is)))))
          (λ other is. subst (λ v. Carries (own u) (least u) v) (sym (set_at-other heap x.at x.old q (not_here u q other is))) (facts.carries u q is));
      again = λ u. set_at-at (λ log. AreNotedAgain (own u) (least u) log) back t rest u
          (λ here. subst (λ n. AreNotedAgain (own n) (least n) rest) (sym here) (again_of t).1) (λ _. facts.again u);
      apart = λ u v q r is also same. facts.apart u v q r (was_noted u q is) (was_noted v r also) same;
    }
      where
        again_of : (n : ℕ) → AreNotedAgain (own t) (least t) (x ∷ rest)
        again_of n = subst (λ log. AreNotedAgain (own t) (least t) log) logs (facts.again t)

        unnoted : (q : ℕ) → q ≢ x.at → ((u : ℕ) → notes q (back'' u) ≡ false) → (u : ℕ) → notes q (back u) ≡ false
        unnoted q other free u = elim (tested (notes q (back u))) [
          | inr none ↦ none
          | inl is ↦ elim (same_or_other u t) [
            | inl here ↦ elim (noted_or q x rest (subst (λ log. notes q log ≡ true) logs (subst (λ n. notes q (back n) ≡ true) here is))) [
              | inl at ↦ absurd (other at)
              | inr was ↦ both (notes q rest) was (subst (λ log. notes q log ≡ false) (set_at-hit back t rest) (free t))
            ]
            | inr else_ ↦ both (notes q (back u)) is (subst (λ log. notes q log ≡ false) (set_at-other back t rest u else_) (free u))
          ]
        ]
