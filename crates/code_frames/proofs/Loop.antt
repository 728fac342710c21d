-- Reading items one after the other, as a loop does.
use Rattle.std.proofs.Common.{◌≡◌, ℕ, suc, ◌-◌, ◌+◌, ◌≤◌, ◌<◌, List, [], ◌∷◌, ◌++◌, Option, Some, None, refl, sym, ap, ◌∙◌, append_assoc, arith}
use Rattle.std.proofs.lemmas.List.{append-nil}
use Rattle.class_walk.specs.declared.class.Constant.{Constant}
use Rattle.instructions.specs.declared.what.Instr.{Instr}
use Rattle.instructions.specs.declared.what.Target.{Target}
use Rattle.code_frames.specs.declared.types.VType.{VType}
use Rattle.code_frames.specs.declared.refusal.Fault.{Fault}
use Rattle.code_frames.specs.declared.refusal.Fault.TheVariants as faults
use Rattle.code_frames.specs.Reading.{◌>>=◌, Fails, FailsExactly, item_at, items_at}

-- what was read before, and what is still read
abbrev pub with_front : List VType → Option (List VType × List ℕ) → Option (List VType × List ℕ)
with_front front read = read >>= λ x. Some (front ++ x.0, x.1)

regroup : (front : List VType) (n : VType) (read : Option (List VType × List ℕ)) → with_front front (read >>= λ x. Some (n ∷ x.0, x.1)) ≡ with_front (front ++ n ∷ []) read
regroup front n (Some x) = ap (λ (ns : List VType). Some (ns, x.1)) (simp append_assoc)
regroup front n None = refl

pub goes_on : (pool : List Constant) (steps : List (Instr Target)) (front : List VType) (count i : ℕ) (s : List ℕ) (x : VType) (after : List ℕ) (total : Option (List VType × List ℕ)) → i < count → item_at pool steps s ≡ Some (x, after)
    → with_front front (items_at pool steps (count - i) s) ≡ total → with_front (front ++ x ∷ []) (items_at pool steps (count - (i + 1)) after) ≡ total
unfolding items_at
goes_on pool steps front count i s x after total lt h so_far =
    let k : count - i ≡ suc (count - (i + 1)) = omega arith in
    let one : with_front front (items_at pool steps (count - i) s) ≡ with_front (front ++ x ∷ []) (items_at pool steps (count - (i + 1)) after) = rw (k, h) (regroup front x (items_at pool steps (count - (i + 1)) after)) in
    sym one ∙ so_far

-- a failure of a function that takes no memory is one of a function that does
pub fails : {Y : Type 0} (e : Fault) (read : Option Y) → FailsExactly e read → Fails e read
fails faults.NoMemory read failed = tt
fails faults.Malformed read failed = failed

pub ends : (e : Fault) (pool : List Constant) (steps : List (Instr Target)) (front : List VType) (count i : ℕ) (s : List ℕ) (total : Option (List VType × List ℕ)) → i < count → Fails e (item_at pool steps s)
    → with_front front (items_at pool steps (count - i) s) ≡ total → Fails e total
unfolding items_at
ends faults.NoMemory pool steps front count i s total lt h so_far = tt
ends faults.Malformed pool steps front count i s total lt h so_far =
    let k : count - i ≡ suc (count - (i + 1)) = omega arith in
    let one : with_front front (items_at pool steps (count - i) s) ≡ None = rw (k, h) refl in
    sym so_far ∙ one

pub is_done : (pool : List Constant) (steps : List (Instr Target)) (front : List VType) (count i : ℕ) (s : List ℕ) (total : Option (List VType × List ℕ)) → count ≤ i → with_front front (items_at pool steps (count - i) s) ≡ total → total ≡ Some (front, s)
unfolding items_at
is_done pool steps front count i s total le so_far =
    let k : count - i ≡ 0 = omega arith in
    let one : with_front front (items_at pool steps (count - i) s) ≡ Some (front, s) = rw k (ap (λ (ns : List VType). Some (ns, s)) (append-nil front)) in
    sym so_far ∙ one
