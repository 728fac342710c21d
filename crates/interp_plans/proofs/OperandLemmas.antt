-- The operands of a call.
use Rattle.std.proofs.Common.{◌≡◌, ◌≤◌, ◌<◌, ℕ, zero, suc, true, false, Some, List, [], ◌∷◌, ◌++◌, ◌==◌, take, drop, length, reverse, refl, ap, ◌∙◌, slice_get, arith}
use Rattle.std.proofs.lemmas.Bool.Decides.{nat_tests}
use Rattle.std.specs.Prelude.{nat_le, if◌then◌else◌}
use Rattle.builtin_world.specs.declared.number.TheConstants.{NULL_POINTER_EXCEPTION}
use Rattle.java_rows.specs.Plan.{Frame, Plan, stuck, fails}
use Rattle.std.proofs.lemmas.List.{reverse-append, length-reverse, length-take}
use Rattle.java_rows.specs.Calls.{first_of, by_receiver, with_receiver}

take_one_more : (s : List ℕ) (n w : ℕ) → slice_get s n ≡ Some w → take (suc n) s ≡ take n s ++ w ∷ []
take_one_more [] n w is = search
take_one_more (x ∷ s) zero w is = search
take_one_more (x ∷ s) (suc n) w is = ap (λ xs. x ∷ xs) (take_one_more s n w is)

-- the deepest operand is the first argument
pub first_operand : (s : List ℕ) (n w : ℕ) → slice_get s n ≡ Some w → first_of (reverse (take (suc n) s)) ≡ w
first_operand s n w is =
    ap (λ xs. first_of (reverse xs)) (take_one_more s n w is) ∙ ap first_of (reverse-append (take n s) (w ∷ []))

receiver_of : (f : Frame) (k : ℕ → List ℕ → Plan) (args : List ℕ) → 0 < length args
    → by_receiver f k args ≡ (if first_of args == 0 then fails f NULL_POINTER_EXCEPTION else k (first_of args) args)
receiver_of f k [] some = absurd (omega (arith, some))
receiver_of f k (r ∷ args) some = refl

-- a call that has its operands looks at the receiver
pub receiver_is : (f : Frame) (words : ℕ) (k : ℕ → List ℕ → List ℕ → Plan) → suc words ≤ length f.stack
    → with_receiver f words k ≡ (if first_of (reverse (take (suc words) f.stack)) == 0 then fails f NULL_POINTER_EXCEPTION
    else k (first_of (reverse (take (suc words) f.stack))) (reverse (take (suc words) f.stack)) (drop (suc words) f.stack))
receiver_is f words k has =
    let test : nat_le (suc words) (length f.stack) ≡ true = grind (arith, nat_tests) in
    let some : 0 < length (reverse (take (suc words) f.stack)) = omega (arith, length-reverse (take (suc words) f.stack), length-take (suc words) f.stack, has) in
    ap (λ b. if b then by_receiver f (λ r args. k r args (drop (suc words) f.stack)) (reverse (take (suc words) f.stack)) else stuck) test
    ∙ receiver_of f (λ r args. k r args (drop (suc words) f.stack)) (reverse (take (suc words) f.stack)) some

pub receiver_missing : (f : Frame) (words : ℕ) (k : ℕ → List ℕ → List ℕ → Plan) → length f.stack < suc words → with_receiver f words k ≡ stuck
receiver_missing f words k lacks =
    let test : nat_le (suc words) (length f.stack) ≡ false = grind (arith, nat_tests) in
    ap (λ b. if b then by_receiver f (λ r args. k r args (drop (suc words) f.stack)) (reverse (take (suc words) f.stack)) else stuck) test

-- there are no operands past the end of the stack
pub take_all : (s : List ℕ) (n : ℕ) → length s ≤ n → take (length s) s ≡ take n s
take_all [] zero all = refl
take_all [] (suc n) all = refl
take_all (x ∷ s) zero all = absurd (omega (arith, all))
take_all (x ∷ s) (suc n) all = ap (λ xs. x ∷ xs) (take_all s n (omega (arith, all)))

pub drop_all : (s : List ℕ) (n : ℕ) → length s ≤ n → drop (length s) s ≡ drop n s
drop_all [] zero all = refl
drop_all [] (suc n) all = refl
drop_all (x ∷ s) zero all = absurd (omega (arith, all))
drop_all (x ∷ s) (suc n) all = drop_all s n (omega (arith, all))
