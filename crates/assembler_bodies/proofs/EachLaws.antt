-- Finding and making each of some items, as a loop does.
use Rattle.std.proofs.Common.{◌≡◌, ℕ, suc, ◌+◌, ◌<◌, ◌≤◌, List, [], ◌∷◌, ◌++◌, length, drop, get_or, Option, Some, None, refl, sym, ap, ◌∙◌, append_assoc, add-one, drop-cons}
use Rattle.std.proofs.lemmas.List.{append-nil, drop_all}
use Rattle.class_walk.specs.declared.class.Constant.{Constant}
use Rattle.assembler_bodies.specs.declared.refusal.BodyRefusal.{BodyRefusal}
use Rattle.assembler_bodies.specs.declared.refusal.BodyRefusal.TheVariants.{Refused, NoMemory}
use Rattle.assembler_bodies.specs.Making.{Making, Fails, each_made}
use Rattle.assembler_bodies.specs.Offsets.{each}

-- what was found before, and what is still to be found
abbrev pub with_front : {B : Type 0} → List B → Option (List B) → Option (List B)
with_front front None = None
with_front front (Some others) = Some (front ++ others)

module _ {A B : Type 0} (find : A → Option B) where
  one_more : (front : List B) (b : B) (others : Option (List B)) (more : Option B) → more ≡ Some b
      → (rest : List A) → others ≡ each find rest → (a : A) → find a ≡ more → with_front front (each find (a ∷ rest)) ≡ with_front (front ++ b ∷ []) others
  one_more front b None more is rest same a found = rw (found, is, ← same) refl
  one_more front b (Some bs) more is rest same a found = rw (found, is, ← same) (ap (λ (xs : List B). Some xs) (simp append_assoc))

  pub each_on : (front : List B) (items : List A) (i : ℕ) (a : A) (b : B) (total : Option (List B))
      → i < length items → a ≡ get_or items i a → find a ≡ Some b → with_front front (each find (drop i items)) ≡ total → with_front (front ++ b ∷ []) (each find (drop (i + 1) items)) ≡ total
  each_on front items i a b total lt is e so_far =
      let one : with_front front (each find (drop i items)) ≡ with_front (front ++ b ∷ []) (each find (drop (i + 1) items)) =
      rw (add-one, drop-cons items i a lt, ← is) (one_more front b (each find (drop (suc i) items)) (Some b) refl (drop (suc i) items) refl a e) in
      sym one ∙ so_far

  pub each_fails : (front : List B) (items : List A) (i : ℕ) (a : A) (refusal : BodyRefusal) (total : Option (List B))
      → i < length items → a ≡ get_or items i a → Fails refusal (find a) → with_front front (each find (drop i items)) ≡ total → Fails refusal total
  each_fails front items i a NoMemory total lt is e so_far = tt
  each_fails front items i a Refused total lt is e so_far =
      let one : with_front front (each find (drop i items)) ≡ None = rw (drop-cons items i a lt, ← is, e) refl in
      sym so_far ∙ one

  pub each_done : (front : List B) (items : List A) (i : ℕ) (total : Option (List B))
      → length items ≤ i → with_front front (each find (drop i items)) ≡ total → total ≡ Some front
  each_done front items i total le so_far =
      let one : with_front front (each find (drop i items)) ≡ Some front = rw (drop_all i items le) (ap (λ (xs : List B). Some xs) (append-nil front)) in
      sym so_far ∙ one

-- what was made before, and what is still to be made
abbrev pub made_front : {B : Type 0} → List B → Option (List Constant × List B) → Option (List Constant × List B)
made_front front None = None
made_front front (Some x) = Some (x.0, front ++ x.1)

module _ {A B : Type 0} (make : A → Making B) where
  one_made : (front : List B) (b : B) (pool : List Constant) (others : Option (List Constant × List B)) (rest : List A)
      → others ≡ each_made make rest pool → (a : A) (old : List Constant) → make a old ≡ Some (pool, b) → made_front front (each_made make (a ∷ rest) old) ≡ made_front (front ++ b ∷ []) others
  one_made front b pool None rest same a old made = rw (made, ← same) refl
  one_made front b pool (Some x) rest same a old made = rw (made, ← same) (ap (λ (xs : List B). Some (x.0, xs)) (simp append_assoc))

  pub made_on : (front : List B) (items : List A) (i : ℕ) (a : A) (b : B) (old new : List Constant) (total : Option (List Constant × List B))
      → i < length items → a ≡ get_or items i a → make a old ≡ Some (new, b) → made_front front (each_made make (drop i items) old) ≡ total → made_front (front ++ b ∷ []) (each_made make (drop (i + 1) items) new) ≡ total
  made_on front items i a b old new total lt is e so_far =
      let one : made_front front (each_made make (drop i items) old) ≡ made_front (front ++ b ∷ []) (each_made make (drop (i + 1) items) new) =
      rw (add-one, drop-cons items i a lt, ← is) (one_made front b new (each_made make (drop (suc i) items) new) (drop (suc i) items) refl a old e) in
      sym one ∙ so_far

  pub made_fails : (front : List B) (items : List A) (i : ℕ) (a : A) (refusal : BodyRefusal) (old : List Constant) (total : Option (List Constant × List B))
      → i < length items → a ≡ get_or items i a → Fails refusal (make a old) → made_front front (each_made make (drop i items) old) ≡ total → Fails refusal total
  made_fails front items i a NoMemory old total lt is e so_far = tt
  made_fails front items i a Refused old total lt is e so_far =
      let one : made_front front (each_made make (drop i items) old) ≡ None = rw (drop-cons items i a lt, ← is, e) refl in
      sym so_far ∙ one

  pub made_done : (front : List B) (items : List A) (i : ℕ) (pool : List Constant) (total : Option (List Constant × List B))
      → length items ≤ i → made_front front (each_made make (drop i items) pool) ≡ total → total ≡ Some (pool, front)
  made_done front items i pool total le so_far =
      let one : made_front front (each_made make (drop i items) pool) ≡ Some (pool, front) = rw (drop_all i items le) (ap (λ (xs : List B). Some (pool, xs)) (append-nil front)) in
      sym so_far ∙ one
