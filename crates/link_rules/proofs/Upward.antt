-- Going up from a class ends within its bound where supers come first.
use Rattle.std.proofs.Common.{◌≡◌, ◌≢◌, ◌⊎◌, ℕ, zero, suc, ◌<◌, ◌≤◌, List, [], ◌∷◌, length, Contains, None, Some, slice_get, inl, inr, refl, sym, ap, subst, ◌∙◌, arith}
use Rattle.std.specs.List.{last_or}
use Rattle.std.proofs.lemmas.Bool.{cases_eq}
use Rattle.std.proofs.lemmas.Option.{slice_get_within}
use Rattle.builtin_world.specs.declared.number.TheConstants.{OBJECT}
use Rattle.code_decode.specs.declared.code.ClassUnit.{ClassUnit}
use Rattle.link_rules.specs.Classes.{NamedClass, classes_of, superclass_of}
use Rattle.link_rules.specs.Supers.{superclasses_within, superclasses, PutsSupersFirst}
use Rattle.link_rules.specs.Linked.{IsLinked, IsClassNumber}
use Rattle.link_rules.specs.Laws.{RunsUp}
use Rattle.link_rules.proofs.Lists.{contains_head, contains_cases, contains_none}
use Rattle.link_rules.proofs.Numbers.{superclass_within, only_object}

some : (n : ℕ) → suc n ≢ 0
some n e = omega (arith, e)

pub up_none : (cs : List NamedClass) (n : ℕ) → superclasses_within cs n 0 ≡ []
up_none cs zero = refl
up_none cs (suc n) = refl

module _ (cs : List NamedClass) (order : List ℕ) (first : PutsSupersFirst cs order) where
  -- the superclass comes before the class
  before : (i c s : ℕ) → slice_get order i ≡ Some c → superclass_of cs c ≡ suc s → (j : ℕ) × (j < i) × (slice_get order j ≡ Some (suc s))
  before i c s at e = first.before i c (suc s) at (some s, inl e)

  -- above a class's place in the order the bound doesn't matter
  up_same : (b i c n m : ℕ) → i < b → slice_get order i ≡ Some c → i < n → i < m → superclasses_within cs n c ≡ superclasses_within cs m c
  up_same zero i c n m below at in_n in_m = absurd (omega arith)
  up_same (suc b) i zero n m below at in_n in_m = up_none cs n ∙ sym (up_none cs m)
  up_same (suc b) i (suc c) zero m below at in_n in_m = absurd (omega arith)
  up_same (suc b) i (suc c) (suc n) zero below at in_n in_m = absurd (omega arith)
  up_same (suc b) i (suc c) (suc n) (suc m) below at in_n in_m =
      ap (λ xs. suc c ∷ xs) (above (up_same b) (superclass_of cs (suc c)) refl)
    where
      above : ((i c n m : ℕ) → i < b → slice_get order i ≡ Some c → i < n → i < m → superclasses_within cs n c ≡ superclasses_within cs m c) → (s : ℕ) → superclass_of cs (suc c) ≡ s → superclasses_within cs n s ≡ superclasses_within cs m s
      above again zero e = up_none cs n ∙ sym (up_none cs m)
      above again (suc s) e =
          let h : (j : ℕ) × (j < i) × (slice_get order j ≡ Some (suc s)) = before i (suc c) s at e in
          let less : h.0 < i = h.1 in
          again h.0 (suc s) n m (omega arith) h.2 (omega arith) (omega arith)

  step_at : (n i c : ℕ) → slice_get order i ≡ Some c → c ≢ 0 → i < n → superclasses_within cs n c ≡ c ∷ superclasses_within cs n (superclass_of cs c)
  step_at zero i c at ne within = absurd (omega arith)
  step_at (suc n) i zero at ne within = absurd (ne refl)
  step_at (suc n) i (suc c) at ne within = ap (λ xs. suc c ∷ xs) (above (superclass_of cs (suc c)) refl)
    where
      above : (s : ℕ) → superclass_of cs (suc c) ≡ s → superclasses_within cs n s ≡ superclasses_within cs (suc n) s
      above zero e = up_none cs n ∙ sym (up_none cs (suc n))
      above (suc s) e =
          let h : (j : ℕ) × (j < i) × (slice_get order j ≡ Some (suc s)) = before i (suc c) s at e in
          let less : h.0 < i = h.1 in
          up_same (suc h.0) h.0 (suc s) n (suc n) (omega arith) h.2 (omega arith) (omega arith)

  pub superclasses_step : (c : ℕ) → c ≢ 0 → c ≤ length cs → superclasses cs c ≡ c ∷ superclasses cs (superclass_of cs c)
  superclasses_step c ne within =
      let h : (i : ℕ) × (slice_get order i ≡ Some c) = first.whole c ne within in
      let lt : h.0 < length order = slice_get_within order h.0 c h.1 in
      step_at (length cs) h.0 c h.1 ne (omega (arith, first.bound))

  -- what holds of a class without a superclass, and goes from a superclass to its subclasses, holds of all classes
  module _ (P : ℕ → Type 0)
      (base : (c : ℕ) → c ≢ 0 → c ≤ length cs → superclass_of cs c ≡ 0 → P c)
      (step : (c : ℕ) → c ≢ 0 → c ≤ length cs → superclass_of cs c ≢ 0 → P (superclass_of cs c) → P c) where
    from_above : (b i c : ℕ) → i < b → slice_get order i ≡ Some c → c ≢ 0 → c ≤ length cs → P c
    from_above zero i c below at ne within = absurd (omega arith)
    from_above (suc b) i c below at ne within = go (from_above b) (superclass_of cs c) refl
      where
        go : ((i c : ℕ) → i < b → slice_get order i ≡ Some c → c ≢ 0 → c ≤ length cs → P c) → (s : ℕ) → superclass_of cs c ≡ s → P c
        go again zero e = base c ne within e
        go again (suc s) e =
            let h : (j : ℕ) × (j < i) × (slice_get order j ≡ Some (suc s)) = before i c s at e in
            let less : h.0 < i = h.1 in
            let room : suc s ≤ length cs = subst (λ x. x ≤ length cs) e (superclass_within cs c) in
            let holds : P (suc s) = again h.0 (suc s) (omega arith) h.2 (some s) room in
            step c ne within (subst (λ x. x ≢ 0) (sym e) (some s)) (subst P (sym e) holds)

    pub of_all : (c : ℕ) → c ≢ 0 → c ≤ length cs → P c
    of_all c ne within =
        let h : (i : ℕ) × (slice_get order i ≡ Some c) = first.whole c ne within in
        from_above (suc h.0) h.0 c (omega arith) h.1 ne within

  pub superclasses_none : (c : ℕ) → superclass_of cs c ≡ 0 → c ≢ 0 → c ≤ length cs → superclasses cs c ≡ c ∷ []
  superclasses_none c e ne within = superclasses_step c ne within ∙ ap (λ s. c ∷ superclasses cs s) e ∙ ap (λ xs. c ∷ xs) (up_none cs (length cs))

  -- what is on the list is a class
  pub above_is_class : (c : ℕ) → c ≢ 0 → c ≤ length cs → (d : ℕ) → Contains (superclasses cs c) d → IsClassNumber cs d
  above_is_class = of_all (λ c. (d : ℕ) → Contains (superclasses cs c) d → IsClassNumber cs d) base step
    where
      base : (c : ℕ) → c ≢ 0 → c ≤ length cs → superclass_of cs c ≡ 0 → (d : ℕ) → Contains (superclasses cs c) d → IsClassNumber cs d
      base c ne within e d h =
          elim (contains_cases c [] d (subst (λ xs. Contains xs d) (superclasses_none c e ne within) h)) [
            | inl same ↦ subst (IsClassNumber cs) same (record { some = ne; within = within })
            | inr none ↦ absurd (contains_none d none)
          ]

      step : (c : ℕ) → c ≢ 0 → c ≤ length cs → superclass_of cs c ≢ 0 → ((d : ℕ) → Contains (superclasses cs (superclass_of cs c)) d → IsClassNumber cs d) → (d : ℕ) → Contains (superclasses cs c) d → IsClassNumber cs d
      step c ne within e later d h =
          elim (contains_cases c (superclasses cs (superclass_of cs c)) d (subst (λ xs. Contains xs d) (superclasses_step c ne within) h)) [
            | inl same ↦ subst (IsClassNumber cs) same (record { some = ne; within = within })
            | inr up ↦ later d up
          ]

  -- a class is on its own list
  pub above_itself : (c : ℕ) → c ≢ 0 → c ≤ length cs → Contains (superclasses cs c) c
  above_itself c ne within = subst (λ xs. Contains xs c) (sym (superclasses_step c ne within)) (contains_head c (superclasses cs (superclass_of cs c)))

  -- what is above a class, and isn't the class, is above its superclass
  pub above_super : (c d : ℕ) → c ≢ 0 → c ≤ length cs → Contains (superclasses cs c) d → (c ≢ d) → Contains (superclasses cs (superclass_of cs c)) d
  above_super c d ne within h other =
      elim (contains_cases c (superclasses cs (superclass_of cs c)) d (subst (λ xs. Contains xs d) (superclasses_step c ne within) h)) [
        | inl same ↦ absurd (other same)
        | inr up ↦ up
      ]

  -- of two classes above one, one is above the other
  Comparable : ℕ → Type 0
  Comparable e = (c d : ℕ) → Contains (superclasses cs e) c → Contains (superclasses cs e) d → Contains (superclasses cs c) d ⊎ Contains (superclasses cs d) c

  pub comparable : (e : ℕ) → e ≢ 0 → e ≤ length cs → (c d : ℕ) → Contains (superclasses cs e) c → Contains (superclasses cs e) d → Contains (superclasses cs c) d ⊎ Contains (superclasses cs d) c
  comparable = of_all (λ e. (c d : ℕ) → Contains (superclasses cs e) c → Contains (superclasses cs e) d → Contains (superclasses cs c) d ⊎ Contains (superclasses cs d) c) base step
    where
      go : (e : ℕ) → e ≢ 0 → e ≤ length cs → ((c d : ℕ) → Contains (superclasses cs (superclass_of cs e)) c → Contains (superclasses cs (superclass_of cs e)) d → Contains (superclasses cs c) d ⊎ Contains (superclasses cs d) c) → (c d : ℕ) → Contains (superclasses cs e) c → Contains (superclasses cs e) d → Contains (superclasses cs c) d ⊎ Contains (superclasses cs d) c
      go e ne within later c d h k =
          elim (cases_eq e c) [
            | inl same ↦ inl (subst (λ x. Contains (superclasses cs x) d) same k)
            | inr other ↦ elim (cases_eq e d) [
              | inl same ↦ inr (subst (λ x. Contains (superclasses cs x) c) same h)
              | inr another ↦ later c d (above_super e c ne within h other) (above_super e d ne within k another)
            ]
          ]

      nothing_above : (e : ℕ) → superclass_of cs e ≡ 0 → (c : ℕ) → Contains (superclasses cs (superclass_of cs e)) c → ⊥
      nothing_above e none c h = contains_none c (subst (λ xs. Contains xs c) (ap (superclasses cs) none ∙ up_none cs (length cs)) h)

      base : (e : ℕ) → e ≢ 0 → e ≤ length cs → superclass_of cs e ≡ 0 → (c d : ℕ) → Contains (superclasses cs e) c → Contains (superclasses cs e) d → Contains (superclasses cs c) d ⊎ Contains (superclasses cs d) c
      base e ne within none = go e ne within (λ c d h k. absurd (nothing_above e none c h))

      step : (e : ℕ) → e ≢ 0 → e ≤ length cs → superclass_of cs e ≢ 0 → ((c d : ℕ) → Contains (superclasses cs (superclass_of cs e)) c → Contains (superclasses cs (superclass_of cs e)) d → Contains (superclasses cs c) d ⊎ Contains (superclasses cs d) c) → (c d : ℕ) → Contains (superclasses cs e) c → Contains (superclasses cs e) d → Contains (superclasses cs c) d ⊎ Contains (superclasses cs d) c
      step e ne within some_super later = go e ne within later

  last_behind : (c s : ℕ) (xs : List ℕ) → last_or None (c ∷ s ∷ xs) ≡ last_or None (s ∷ xs)
  last_behind c s xs = refl

  last_step : (c s : ℕ) → c ≢ 0 → c ≤ length cs → superclass_of cs c ≡ s → s ≢ 0 → s ≤ length cs → last_or None (superclasses cs s) ≡ Some OBJECT → last_or None (superclasses cs c) ≡ Some OBJECT
  last_step c s ne within e some_super room last =
      let mine : superclasses cs c ≡ c ∷ superclasses cs s = superclasses_step c ne within ∙ ap (λ x. c ∷ superclasses cs x) e in
      let its : superclasses cs s ≡ s ∷ superclasses cs (superclass_of cs s) = superclasses_step s some_super room in
      let both : superclasses cs c ≡ c ∷ s ∷ superclasses cs (superclass_of cs s) = mine ∙ ap (λ xs. c ∷ xs) its in
      ap (last_or None) both ∙ sym (ap (last_or None) its) ∙ last

  pub last_is_object : ((c : ℕ) → c ≢ 0 → c ≤ length cs → superclass_of cs c ≡ 0 → c ≡ OBJECT) → (c : ℕ) → c ≢ 0 → c ≤ length cs → last_or None (superclasses cs c) ≡ Some OBJECT
  last_is_object root = of_all (λ c. last_or None (superclasses cs c) ≡ Some OBJECT)
      (λ c ne within e. ap (last_or None) (superclasses_none c e ne within) ∙ ap (λ x. Some x) (root c ne within e))
      (λ c ne within e last. last_step c (superclass_of cs c) ne within refl e (superclass_within cs c) last)

pub runs_up : (us : List ClassUnit) (order : List ℕ) (c : ℕ) → IsLinked us order → IsClassNumber (classes_of us) c → RunsUp (classes_of us) c
runs_up us order c linked is = record {
  step = superclasses_step (classes_of us) order linked.order c is.some is.within;
  last = last_is_object (classes_of us) order linked.order (λ c ne within e. only_object us c linked.rules ne within e) c is.some is.within;
}
