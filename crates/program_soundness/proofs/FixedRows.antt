-- Objects that lie one after another are found by their references.
use Rattle.std.proofs.Common.{◌≡◌, ◌<◌, ◌≤◌, ◌+◌, ◌==◌, ℕ, zero, suc, Bool, true, false, cond, Option, None, Some, List, [], ◌∷◌, find, length, map, reverse, slice_get, refl, sym, ap, subst, ◌∙◌, arith}
use Rattle.std.specs.Option.{option_or}
use Rattle.std.proofs.lemmas.Bool.{eq-eqb, eqb-true, ne_eqb}
use Rattle.std.proofs.lemmas.List.{reverse-append}
use Rattle.std.proofs.lemmas.List.Folds.{find-append}
use Rattle.std.proofs.lemmas.Option.{none-some, same_Some}
use Rattle.fixed_objects.specs.declared.FixedObject.{FixedObject}
use Rattle.fixed_objects.specs.Fixed.{fixed_at}
use Rattle.link_rules.specs.FixedObjects.{ObjectAtStart}
use Rattle.link_rules.specs.Laws.{LieInARow}
use Rattle.java_rows.specs.Start.{fixed_object}

row_grows : (os : List ObjectAtStart) (at end : ℕ) → LieInARow at os end → at ≤ end
row_grows [] at end row = omega (arith, row)
row_grows (o ∷ os) at end row = let later = row_grows os (at + 2 + length o.words) end row.1 in omega (arith, later)

-- an object of a row lies inside it
pub record LiesInside (at end : ℕ) (o : ObjectAtStart) : Type 0 where
  pub begins : at ≤ o.reference
  pub ends : o.reference + 2 + length o.words ≤ end

pub lies_inside : (os : List ObjectAtStart) (at end i : ℕ) (o : ObjectAtStart) → LieInARow at os end → slice_get os i ≡ Some o → LiesInside at end o
lies_inside [] at end i o row there = absurd (none-some o there)
lies_inside (x ∷ os) at end zero o row there =
    let same : x ≡ o = same_Some x o there in
    let first : x.reference ≡ at = row.0 in
    let later : at + 2 + length x.words ≤ end = row_grows os (at + 2 + length x.words) end row.1 in
    subst (LiesInside at end) same (record { begins = omega (arith, first); ends = omega (arith, first, later) })
lies_inside (x ∷ os) at end (suc i) o row there =
    let later : LiesInside (at + 2 + length x.words) end o = lies_inside os (at + 2 + length x.words) end i o row.1 there in
    let begins : at + 2 + length x.words ≤ o.reference = later.begins in
    record { begins = omega (arith, begins); ends = later.ends }

-- the last object of a reference, with one more before the others
at_more : (o : ObjectAtStart) (os : List ObjectAtStart) (r : ℕ) → fixed_at (map fixed_object (o ∷ os)) r ≡ option_or (fixed_at (map fixed_object os) r) (cond (r == o.reference) (Some (fixed_object o)) None)
at_more o os r =
    ap (find (λ (x : FixedObject). r == x.reference)) (reverse-append (fixed_object o ∷ []) (map fixed_object os))
    ∙ find-append (λ (x : FixedObject). r == x.reference) (reverse (map fixed_object os)) (fixed_object o ∷ [])

-- none lies before the row
before_row : (os : List ObjectAtStart) (at end r : ℕ) → LieInARow at os end → r < at → fixed_at (map fixed_object os) r ≡ None
before_row [] at end r row less = refl
before_row (o ∷ os) at end r row less =
    let first : o.reference ≡ at = row.0 in
    let none : fixed_at (map fixed_object os) r ≡ None = before_row os (at + 2 + length o.words) end r row.1 (omega (arith, less)) in
    at_more o os r
    ∙ (ap (λ x. option_or x (cond (r == o.reference) (Some (fixed_object o)) None)) none
    ∙ ap (λ b. cond b (Some (fixed_object o)) None) (ne_eqb r o.reference (λ e. omega (arith, e, first, less))))

-- an object of a row is the one at its reference
pub found_in_row : (os : List ObjectAtStart) (at end i : ℕ) (o : ObjectAtStart) → LieInARow at os end → slice_get os i ≡ Some o → fixed_at (map fixed_object os) o.reference ≡ Some (fixed_object o)
found_in_row [] at end i o row there = absurd (none-some o there)
found_in_row (x ∷ os) at end zero o row there =
    let same : x ≡ o = same_Some x o there in
    let first : x.reference ≡ at = row.0 in
    let none : fixed_at (map fixed_object os) x.reference ≡ None = before_row os (at + 2 + length x.words) end x.reference row.1 (omega (arith, first)) in
    subst (λ (y : ObjectAtStart). fixed_at (map fixed_object (x ∷ os)) y.reference ≡ Some (fixed_object y)) same
    (at_more x os x.reference
    ∙ (ap (λ a. option_or a (cond (x.reference == x.reference) (Some (fixed_object x)) None)) none
    ∙ ap (λ b. cond b (Some (fixed_object x)) None) (eq-eqb x.reference x.reference refl)))
found_in_row (x ∷ os) at end (suc i) o row there =
    at_more x os o.reference ∙ ap (λ a. option_or a (cond (o.reference == x.reference) (Some (fixed_object x)) None)) (found_in_row os (at + 2 + length x.words) end i o row.1 there)

-- what is found is an object of the row
pub record IsInRow (os : List ObjectAtStart) (r : ℕ) (f : FixedObject) : Type 0 where
  pub place : ℕ
  pub object : ObjectAtStart
  pub there : slice_get os place ≡ Some object
  pub same : f ≡ fixed_object object
  pub at : r ≡ object.reference

pub row_object : (os : List ObjectAtStart) (r : ℕ) (f : FixedObject) → fixed_at (map fixed_object os) r ≡ Some f → IsInRow os r f
row_object [] r f e = absurd (none-some f e)
row_object (o ∷ os) r f e = by_later (fixed_at (map fixed_object os) r) refl (r == o.reference) refl (sym (at_more o os r) ∙ e) (row_object os r f)
  where
    by_later : (x : Option FixedObject) → fixed_at (map fixed_object os) r ≡ x → (b : Bool) → (r == o.reference) ≡ b → option_or x (cond b (Some (fixed_object o)) None) ≡ Some f → (fixed_at (map fixed_object os) r ≡ Some f → IsInRow os r f)
        → IsInRow (o ∷ os) r f
    by_later (Some g) found b same is again =
        let later : IsInRow os r f = again (found ∙ is) in record { place = suc later.place; object = later.object; there = later.there; same = later.same; at = later.at }
    by_later None found true same is again = record { place = 0; object = o; there = refl; same = sym (same_Some (fixed_object o) f is); at = eqb-true r o.reference same }
    by_later None found false same is again = absurd (none-some f is)
