-- Places between instructions, by their offsets and by how many instructions come before them.
use Rattle.std.proofs.Common.{◌≡◌, ℕ, suc, ◌+◌, ◌<◌, ◌≤◌, nat_eq, List, [], ◌∷◌, length, map, Some, refl, sym, ap, subst, ◌∙◌, ◌⊎◌, inl, inr, arith, length-append}
use Rattle.std.specs.List.{position_from}
use Rattle.std.proofs.lemmas.Bool.{eqb-true}
use Rattle.std.proofs.lemmas.Option.{same_Some}
use Rattle.class_walk.specs.declared.class.Constant.{Constant}
use Rattle.instructions.specs.declared.what.Instr.{Instr}
use Rattle.instructions.specs.declared.what.Target.{Target}
use Rattle.instructions.specs.Steps.{offsets_of, number_at}
use Rattle.code_steps.specs.CodeArray.{by_offsets}
use Rattle.code_write.specs.declared.operands.Written.{Written}
use Rattle.code_write.specs.Instruction.{instruction_bytes, operand_bytes, wide_bytes}
use Rattle.code_write.specs.Meaning.{code_bytes, AreMeant}
use Rattle.class_names.proofs.Cases.{chosen}
use Rattle.assembler_laws.proofs.BodyMeaning.RowLaws.{same_number}

-- an offset between or after instructions, and how many come before it; the first one is at the offset `at`, and `n`
-- come before it
abbrev pub Stands : ℕ → ℕ → List (Written ℕ) → ℕ → ℕ → Type 0
Stands at n [] offset k = (offset ≡ at) × (k ≡ n)
Stands at n (w ∷ ws) offset k = ((offset ≡ at) × (k ≡ n)) ⊎ Stands (at + length (instruction_bytes at w)) (n + 1) ws offset k

-- the offsets of instructions
abbrev pub starts : ℕ → List (Written ℕ) → List ℕ
starts at [] = []
starts at (w ∷ ws) = at ∷ starts (at + length (instruction_bytes at w)) ws

pub stands_here : (at n : ℕ) (ws : List (Written ℕ)) → Stands at n ws at n
stands_here at n [] = (refl, refl)
stands_here at n (w ∷ ws) = inl (refl, refl)

some_bytes : (at : ℕ) (w : Written ℕ) → 0 < length (instruction_bytes at w)
some_bytes at w = omega (arith, length-append (wide_bytes w.operands) (w.number ∷ operand_bytes at w.operands))

not_before : (at n : ℕ) (ws : List (Written ℕ)) (offset k : ℕ) → Stands at n ws offset k → at ≤ offset
not_before at n [] offset k is = omega (arith, is.0)
not_before at n (w ∷ ws) offset k (inl is) = omega (arith, is.0)
not_before at n (w ∷ ws) offset k (inr is) = omega (arith, not_before (at + length (instruction_bytes at w)) (n + 1) ws offset k is)

past : (at n : ℕ) (w : Written ℕ) (ws : List (Written ℕ)) (offset k : ℕ) → Stands (at + length (instruction_bytes at w)) (n + 1) ws offset k → at ≡ offset → ⊥
past at n w ws offset k is same = omega (arith, same, some_bytes at w, not_before (at + length (instruction_bytes at w)) (n + 1) ws offset k is)

-- the instruction at the offset has that number
pub place_is : (at n : ℕ) (ws : List (Written ℕ)) (offset k j : ℕ) → Stands at n ws offset k → position_from (λ o. nat_eq o offset) n (starts at ws) ≡ Some j → j ≡ k
place_is at n [] offset k j is e = absurd cc
place_is at n (w ∷ ws) offset k j (inl is) e =
    elim (chosen (nat_eq at offset) (Some n) (position_from (λ o. nat_eq o offset) (n + 1) (starts (at + length (instruction_bytes at w)) ws)) (Some j) e) [
      | inl here ↦ sym (same_Some n j here.1) ∙ sym is.1
      | inr there ↦ absurd (let t = same_number at offset (sym is.0) in let f = there.0 in cc)
    ]
place_is at n (w ∷ ws) offset k j (inr is) e =
    elim (chosen (nat_eq at offset) (Some n) (position_from (λ o. nat_eq o offset) (n + 1) (starts (at + length (instruction_bytes at w)) ws)) (Some j) e) [
      | inl here ↦ absurd (past at n w ws offset k is (eqb-true at offset here.0))
      | inr there ↦ place_is (at + length (instruction_bytes at w)) (n + 1) ws offset k j is there.1
    ]

-- all instructions come before the code's end
pub end_is : (at n : ℕ) (ws : List (Written ℕ)) (offset k : ℕ) → Stands at n ws offset k → offset ≡ at + length (code_bytes at ws) → k ≡ n + length ws
end_is at n [] offset k is e = omega (arith, is.1)
end_is at n (w ∷ ws) offset k (inl is) e =
    let next = at + length (instruction_bytes at w) in
    absurd (omega (arith, e, is.0, some_bytes at w, length-append (instruction_bytes at w) (code_bytes next ws)))
end_is at n (w ∷ ws) offset k (inr is) e =
    let next = at + length (instruction_bytes at w) in
    let last : offset ≡ next + length (code_bytes next ws) = omega (arith, e, length-append (instruction_bytes at w) (code_bytes next ws)) in
    omega (arith, end_is next (n + 1) ws offset k is last)

-- ---- instructions that are read

pub offsets_are : (pool : List Constant) (at : ℕ) (ws : List (Written ℕ)) (steps : List (Instr Target)) → AreMeant pool at ws (map by_offsets steps) → offsets_of steps ≡ starts at ws
offsets_are pool at [] [] are = refl
offsets_are pool at [] (i ∷ steps) are = absurd cc
offsets_are pool at (w ∷ ws) [] are = absurd are
offsets_are pool at (w ∷ ws) (i ∷ steps) are =
    let next = at + length (instruction_bytes at w) in
    ap (λ (o : ℕ). o ∷ offsets_of steps) are.0 ∙ ap (λ (os : List ℕ). at ∷ os) (offsets_are pool next ws steps are.3)

pub as_many : (pool : List Constant) (at : ℕ) (ws : List (Written ℕ)) (steps : List (Instr Target)) → AreMeant pool at ws (map by_offsets steps) → length steps ≡ length ws
as_many pool at [] [] are = refl
as_many pool at [] (i ∷ steps) are = absurd cc
as_many pool at (w ∷ ws) [] are = absurd are
as_many pool at (w ∷ ws) (i ∷ steps) are = ap suc (as_many pool (at + length (instruction_bytes at w)) ws steps are.3)

module _ (pool : List Constant) (ws : List (Written ℕ)) (steps : List (Instr Target)) (are : AreMeant pool 0 ws (map by_offsets steps)) where
  -- the number of the instruction at a place is how many come before it
  pub number_is : (offset k j : ℕ) → Stands 0 0 ws offset k → number_at steps offset ≡ Some j → j ≡ k
  number_is offset k j is e =
      let P : List ℕ → Type 0 = λ os. position_from (λ o. nat_eq o offset) 0 os ≡ Some j in
      place_is 0 0 ws offset k j is (subst P (offsets_are pool 0 ws steps are) e)
