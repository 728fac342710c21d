-- Reading items one after the other, as a loop does.
use Rattle.std.proofs.Common.{◌≡◌, ℕ, suc, ◌-◌, ◌+◌, ◌≤◌, ◌<◌, Bool, true, List, [], ◌∷◌, ◌++◌, Result, Ok, Err, refl, sym, ap, ◌∙◌, append_assoc, arith}
use Rattle.std.proofs.lemmas.List.{append-nil}
use Rattle.class_walk.specs.declared.refusal.WalkFault.{WalkFault}
use Rattle.class_walk.specs.declared.refusal.WalkRefusal.{WalkRefusal}
use Rattle.class_walk.specs.declared.refusal.WalkRefusal.TheVariants as refusals
use Rattle.class_walk.specs.declared.class.Constant.{Constant}
use Rattle.class_walk.specs.Place.{Place}
use Rattle.class_walk.specs.Layout.{is_wide}
use Rattle.class_walk.specs.Reading.{◌>>=◌, Fails, FailsExactly, items_at, slot_at, next_slot, slots_at}

-- what was read before, and what is still read
abbrev pub with_front : {E S X : Type 0} → List X → Result (List X × S) E → Result (List X × S) E
with_front front read = read >>= λ x. Ok (front ++ x.0, x.1)

regroup : {E S X : Type 0} (front : List X) (n : X) (read : Result (List X × S) E) → with_front front (read >>= λ x. Ok (n ∷ x.0, x.1)) ≡ with_front (front ++ n ∷ []) read
regroup {X = X} front n (Ok x) = ap (λ (ns : List X). Ok (ns, x.1)) (simp append_assoc)
regroup front n (Err f) = refl

pub goes_on : {E S X : Type 0} (item : S → Result (X × S) E) (front : List X) (count i : ℕ) (s : S) (x : X) (after : S) (total : Result (List X × S) E) → i < count → item s ≡ Ok (x, after)
    → with_front front (items_at item (count - i) s) ≡ total → with_front (front ++ x ∷ []) (items_at item (count - (i + 1)) after) ≡ total
unfolding items_at
goes_on item front count i s x after total lt h so_far =
    let k : count - i ≡ suc (count - (i + 1)) = omega arith in
    let one : with_front front (items_at item (count - i) s) ≡ with_front (front ++ x ∷ []) (items_at item (count - (i + 1)) after) = rw (k, h) (regroup front x (items_at item (count - (i + 1)) after)) in
    sym one ∙ so_far

-- an item that fails
pub stops : {E S X : Type 0} (f : E) (item : S → Result (X × S) E) (front : List X) (count i : ℕ) (s : S) (total : Result (List X × S) E) → i < count → item s ≡ Err f
    → with_front front (items_at item (count - i) s) ≡ total → total ≡ Err f
unfolding items_at
stops f item front count i s total lt h so_far =
    let k : count - i ≡ suc (count - (i + 1)) = omega arith in
    let one : with_front front (items_at item (count - i) s) ≡ Err f = rw (k, h) refl in
    sym so_far ∙ one

-- a failure of a function that takes no memory is one of a function that does
pub fails : {X : Type 0} (e : WalkRefusal) (read : Result X WalkFault) → FailsExactly e read → Fails e read
fails refusals.NoMemory read failed = tt
fails (refusals.Fault f) read failed = failed

pub ends : {S X : Type 0} (e : WalkRefusal) (item : S → Result (X × S) WalkFault) (front : List X) (count i : ℕ) (s : S) (total : Result (List X × S) WalkFault) → i < count → Fails e (item s)
    → with_front front (items_at item (count - i) s) ≡ total → Fails e total
ends refusals.NoMemory item front count i s total lt h so_far = tt
ends (refusals.Fault f) item front count i s total lt h so_far = stops f item front count i s total lt h so_far

pub is_done : {E S X : Type 0} (item : S → Result (X × S) E) (front : List X) (count i : ℕ) (s : S) (total : Result (List X × S) E) → count ≤ i → with_front front (items_at item (count - i) s) ≡ total → total ≡ Ok (front, s)
unfolding items_at
is_done {X = X} item front count i s total le so_far =
    let k : count - i ≡ 0 = omega arith in
    let one : with_front front (items_at item (count - i) s) ≡ Ok (front, s) = rw k (ap (λ (ns : List X). Ok (ns, s)) (append-nil front)) in
    sym so_far ∙ one

-- ---- the pool, whose place is more than a place in the file

slot_fails : (e : WalkRefusal) (due : Bool) (index : ℕ) (p : Place) → Fails e (slot_at due index p) → Fails e (next_slot (record { due = due; index = index; place = p }))
slot_fails refusals.NoMemory due index p h = tt
slot_fails (refusals.Fault f) due index p h = rw h refl

slot_goes : (due : Bool) (index : ℕ) (p : Place) (slot : Constant) (after : Place) → slot_at due index p ≡ Ok (slot, after)
    → next_slot (record { due = due; index = index; place = p }) ≡ Ok (slot, record { due = is_wide slot; index = index + 1; place = after })
slot_goes due index p slot after h = rw h refl

-- what the pool's loop keeps
abbrev pub SlotsSoFar : ℕ → Place → List Constant → Bool → ℕ → Place → Type 0
SlotsSoFar count start front due index p =
    with_front front (items_at next_slot (count - index) (record { due = due; index = index; place = p }))
    ≡ items_at next_slot count (record { due = true; index = 0; place = start })

pub slots_go_on : (count : ℕ) (start : Place) (front : List Constant) (due : Bool) (index : ℕ) (p : Place) (slot : Constant) (after : Place) → index < count → slot_at due index p ≡ Ok (slot, after)
    → SlotsSoFar count start front due index p → SlotsSoFar count start (front ++ slot ∷ []) (is_wide slot) (index + 1) after
slots_go_on count start front due index p slot after lt h so_far =
    goes_on next_slot front count index _ slot _ _ lt (slot_goes due index p slot after h) so_far

pub slots_end : (e : WalkRefusal) (count : ℕ) (start : Place) (front : List Constant) (due : Bool) (index : ℕ) (p : Place) → index < count → Fails e (slot_at due index p)
    → SlotsSoFar count start front due index p → Fails e (slots_at count start)
unfolding slots_at
slots_end refusals.NoMemory count start front due index p lt h so_far = tt
slots_end (refusals.Fault f) count start front due index p lt h so_far =
    rw (ends (refusals.Fault f) next_slot front count index _ (items_at next_slot count (record { due = true; index = 0; place = start })) lt (slot_fails (refusals.Fault f) due index p h) so_far) refl

pub slots_done : (count : ℕ) (start : Place) (front : List Constant) (due : Bool) (index : ℕ) (p : Place) → count ≤ index
    → SlotsSoFar count start front due index p → slots_at count start ≡ Ok (front, p)
unfolding slots_at
slots_done count start front due index p le so_far =
    rw (is_done next_slot front count index _ (items_at next_slot count (record { due = true; index = 0; place = start })) le so_far) refl
