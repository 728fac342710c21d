-- A code array has one outcome: the instructions that it is, or its first fault.
use Rattle.std.proofs.Common.{◌≡◌, ◌==◌, ℕ, List, [], ◌∷◌, ◌++◌, length, map, Some, None, Result, Ok, Err, refl, sym, ap, subst, ◌∙◌, arith, inl, inr}
use Rattle.std.specs.Prelude.{ℤ, ◌⊎◌, IfOk, IfErr}
use Rattle.std.specs.List.{AllByRecursion, position_from}
use Rattle.class_walk.specs.declared.class.Constant.{Constant}
use Rattle.instructions.specs.declared.what.Instr.{Instr}
use Rattle.instructions.specs.declared.what.Target.{Target}
use Rattle.instructions.specs.Steps.{offsets_of}
use Rattle.code_steps.specs.declared.fault.StepFault.{StepFault}
use Rattle.code_steps.specs.declared.fault.StepRefusal.{StepRefusal}
use Rattle.code_steps.specs.declared.fault.StepRefusal.TheVariants as refusals
use Rattle.instructions.specs.What.{targets_of}
use Rattle.code_steps.specs.CodeArray.{AreLaidOut, by_offsets, IsCodeArray}
use Rattle.code_steps.specs.FirstFault.{IsSized, IsLengthFault, IsInstructionFault, IsTargetFault, IsFirstFault, IsFaultOf, LeadsRightly, Lays}
use Rattle.code_steps.specs.Reading.{Fails}
use Rattle.code_steps.specs.Targets.{steps_of}
use Rattle.class_walk.proofs.Fields.{ok_is}
use Rattle.code_steps.proofs.Fields.{err_is}
use Rattle.code_steps.proofs.LayoutLaws.{one_layout}
use Rattle.code_steps.proofs.TargetLaws.{steps_give, steps_again, steps_refuse, refused_again}

-- the offsets of instructions don't depend on how their targets are written
offsets_same : (ys : List (Instr Target)) → offsets_of (map by_offsets ys) ≡ offsets_of ys
offsets_same [] = refl
offsets_same (y ∷ ys) = ap (λ (os : List ℕ). y.at ∷ os) (offsets_same ys)

-- the instructions from the front to the end, and what their targets make of them
record Whole (pool : List Constant) (code : List ℕ) (r : Result (List (Instr Target)) StepFault) : Type 0 where
  pub sized : IsSized code
  pub steps : List (Instr ℤ)
  pub laid : AreLaidOut pool code 0 steps (length code)
  pub gives : steps_of (offsets_of steps) steps ≡ r

array_whole : (pool : List Constant) (code : List ℕ) (ys : List (Instr Target)) → IsCodeArray pool code ys → Whole pool code (Ok ys)
array_whole pool code ys is =
    let same = offsets_same ys in
    record {
      sized = record { some = is.some; most = is.most };
      steps = map by_offsets ys;
      laid = is.laid;
      gives = steps_again (offsets_of (map by_offsets ys)) ys
          (subst (λ (offsets : List ℕ). AllByRecursion (λ (s : Instr Target). AllByRecursion (λ (t : Target). position_from (λ o. o == t.at) 0 offsets ≡ Some t.step) (targets_of s.what)) ys) (sym same) is.targets);
    }

pub whole_array : (pool : List Constant) (code : List ℕ) (xs : List (Instr ℤ)) (ys : List (Instr Target)) → IsSized code → AreLaidOut pool code 0 xs (length code) → steps_of (offsets_of xs) xs ≡ Ok ys → IsCodeArray pool code ys
whole_array pool code xs ys sized laid gives =
    let g = steps_give (offsets_of xs) xs ys gives in
    let same : offsets_of xs ≡ offsets_of ys = ap (λ (is : List (Instr ℤ)). offsets_of is) (sym g.back_is) ∙ offsets_same ys in
    record {
      some = sized.some;
      most = sized.most;
      laid = subst (λ (is : List (Instr ℤ)). AreLaidOut pool code 0 is (length code)) (sym g.back_is) laid;
      targets = subst (λ (offsets : List ℕ). AllByRecursion (λ (s : Instr Target). AllByRecursion (λ (t : Target). position_from (λ o. o == t.at) 0 offsets ≡ Some t.step) (targets_of s.what)) ys) same g.right;
    }

fault_whole : (pool : List Constant) (code : List ℕ) (f : StepFault) → IsTargetFault pool code f → Whole pool code (Err f)
fault_whole pool code f is = record {
  sized = is.sized;
  steps = is.before ++ is.step ∷ is.behind;
  laid = is.laid;
  gives = refused_again (offsets_of (is.before ++ is.step ∷ is.behind)) is.before is.step is.behind is.right is.stray ∙ ap (λ (g : StepFault). Err g) (sym is.fault);
}

pub whole_fault : (pool : List Constant) (code : List ℕ) (xs : List (Instr ℤ)) (f : StepFault) → IsSized code → AreLaidOut pool code 0 xs (length code) → steps_of (offsets_of xs) xs ≡ Err f → IsFirstFault pool code f
whole_fault pool code xs f sized laid gives =
    let r = steps_refuse (offsets_of xs) xs f gives in
    inr (inr (record {
      sized = sized;
      before = r.before;
      step = r.step;
      behind = r.behind;
      laid = subst (λ (is : List (Instr ℤ)). AreLaidOut pool code 0 is (length code)) r.parts laid;
      right = subst (λ (is : List (Instr ℤ)). AllByRecursion (LeadsRightly is) r.before) r.parts r.right;
      stray = subst (λ (is : List (Instr ℤ)). ¬ LeadsRightly is r.step) r.parts r.stray;
      fault = r.fault;
    }))

-- ---- one outcome

whole_once : (pool : List Constant) (code : List ℕ) (r s : Result (List (Instr Target)) StepFault) → Whole pool code r → Whole pool code s → r ≡ s
whole_once pool code r s a b =
    let same = one_layout pool code 0 a.steps b.steps (length code) (length code) None None a.laid b.laid refl refl in
    sym a.gives ∙ ap (λ (is : List (Instr ℤ)). steps_of (offsets_of is) is) same.steps ∙ b.gives

-- where all instructions are there, none of them has a fault
whole_stops : (pool : List Constant) (code : List ℕ) (r : Result (List (Instr Target)) StepFault) (f : StepFault) → Whole pool code r → IsInstructionFault pool code f → ⊥
whole_stops pool code r f a b =
    let same = one_layout pool code 0 a.steps b.steps (length code) b.at None (Some f) a.laid b.laid refl b.reads in
    let stop = same.stop in
    absurd cc

sized_length : (code : List ℕ) (f : StepFault) → IsSized code → IsLengthFault code f → ⊥
sized_length code f sized (inl none, fault) = absurd (omega (arith, sized.some, none))
sized_length code f sized (inr more, fault) = absurd (omega (arith, sized.most, more))

pub one_array : (pool : List Constant) (code : List ℕ) (xs ys : List (Instr Target)) → IsCodeArray pool code xs → IsCodeArray pool code ys → xs ≡ ys
one_array pool code xs ys a b = ok_is xs ys (whole_once pool code (Ok xs) (Ok ys) (array_whole pool code xs a) (array_whole pool code ys b))

pub array_or_fault : (pool : List Constant) (code : List ℕ) (xs : List (Instr Target)) (f : StepFault) → IsCodeArray pool code xs → IsFirstFault pool code f → ⊥
array_or_fault pool code xs f a (inl length_is) = sized_length code f (record { some = a.some; most = a.most }) length_is
array_or_fault pool code xs f a (inr (inl instruction)) = whole_stops pool code (Ok xs) f (array_whole pool code xs a) instruction
array_or_fault pool code xs f a (inr (inr target)) = let e = whole_once pool code (Ok xs) (Err f) (array_whole pool code xs a) (fault_whole pool code f target) in absurd cc

pub one_fault : (pool : List Constant) (code : List ℕ) (f g : StepFault) → IsFirstFault pool code f → IsFirstFault pool code g → f ≡ g
one_fault pool code f g (inl a) (inl b) = a.1 ∙ sym b.1
one_fault pool code f g (inl a) (inr (inl b)) = absurd (sized_length code f b.sized a)
one_fault pool code f g (inl a) (inr (inr b)) = absurd (sized_length code f b.sized a)
one_fault pool code f g (inr (inl a)) (inl b) = absurd (sized_length code g a.sized b)
one_fault pool code f g (inr (inl a)) (inr (inl b)) =
    let same = one_layout pool code 0 a.steps b.steps a.at b.at (Some f) (Some g) a.laid b.laid a.reads b.reads in
    let stop = same.stop in
    cc
one_fault pool code f g (inr (inl a)) (inr (inr b)) = absurd (whole_stops pool code (Err g) f (fault_whole pool code g b) a)
one_fault pool code f g (inr (inr a)) (inl b) = absurd (sized_length code g a.sized b)
one_fault pool code f g (inr (inr a)) (inr (inl b)) = absurd (whole_stops pool code (Err f) g (fault_whole pool code f a) b)
one_fault pool code f g (inr (inr a)) (inr (inr b)) =
    err_is {A = List (Instr Target)} f g (whole_once pool code (Err f) (Err g) (fault_whole pool code f a) (fault_whole pool code g b))

-- ---- what a call returns

pub only_this : (pool : List Constant) (code : List ℕ) (r : Result (List (Instr Target)) StepRefusal) → IfOk r (λ steps. IsCodeArray pool code steps) → IfErr r (IsFaultOf (IsFirstFault pool code))
    → (steps : List (Instr Target)) → IsCodeArray pool code steps → (r ≡ Ok steps) ⊎ (r ≡ Err refusals.NoMemory)
only_this pool code (Ok xs) found exact steps is = inl (ap (λ (s : List (Instr Target)). Ok s) (one_array pool code xs steps found is))
only_this pool code (Err refusals.NoMemory) found exact steps is = inr refl
only_this pool code (Err (refusals.Fault f)) found exact steps is = absurd (array_or_fault pool code steps f is exact)

pub only_fault : (pool : List Constant) (code : List ℕ) (r : Result (List (Instr Target)) StepRefusal) → IfOk r (λ steps. IsCodeArray pool code steps) → IfErr r (IsFaultOf (IsFirstFault pool code))
    → (f : StepFault) → IsFirstFault pool code f → (r ≡ Err (refusals.Fault f)) ⊎ (r ≡ Err refusals.NoMemory)
only_fault pool code (Ok xs) found exact f is = absurd (array_or_fault pool code xs f found is)
only_fault pool code (Err refusals.NoMemory) found exact f is = inr refl
only_fault pool code (Err (refusals.Fault g)) found exact f is = inl (ap (λ (e : StepFault). Err (refusals.Fault e)) (one_fault pool code g f exact is))

-- ---- what reading returns

pub offsets_kept : (offsets : List ℕ) (xs : List (Instr ℤ)) (ys : List (Instr Target)) → offsets ≡ offsets_of xs → steps_of offsets xs ≡ Ok ys → offsets ≡ offsets_of ys
offsets_kept offsets xs ys are gives =
    let g = steps_give offsets xs ys gives in
    are ∙ ap (λ (is : List (Instr ℤ)). offsets_of is) (sym g.back_is) ∙ offsets_same ys

pub laid_array : (pool : List Constant) (code : List ℕ) (xs : List (Instr ℤ)) (offsets : List ℕ) (ys : List (Instr Target)) → Lays pool code xs offsets → steps_of offsets xs ≡ Ok ys → IsCodeArray pool code ys
laid_array pool code xs offsets ys lays gives = whole_array pool code xs ys lays.sized lays.laid (rw lays.offsets_are at gives)

pub laid_fault : (pool : List Constant) (code : List ℕ) (xs : List (Instr ℤ)) (offsets : List ℕ) (e : StepRefusal) → Lays pool code xs offsets → Fails e (steps_of offsets xs) → IsFaultOf (IsFirstFault pool code) e
laid_fault pool code xs offsets refusals.NoMemory lays fails = tt
laid_fault pool code xs offsets (refusals.Fault f) lays fails = whole_fault pool code xs f lays.sized lays.laid (rw lays.offsets_are at fails)
