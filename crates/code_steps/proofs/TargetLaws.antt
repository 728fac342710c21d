-- Targets by their offsets are the instructions there, and the other way round.
use Rattle.std.proofs.Common.{◌≡◌, ◌==◌, ℕ, List, [], ◌∷◌, ◌++◌, map, Option, Some, None, Result, Ok, Err, refl, sym, ap, subst, ◌∙◌}
use Rattle.std.specs.Prelude.{ℤ, pos, negsuc, option_map, option_and_then, IsSome}
use Rattle.std.specs.List.{AllByRecursion, position_from}
use Rattle.std.proofs.lemmas.Option.{same_Some}
use Rattle.class_names.proofs.Cases.{mapped, went_on}
use Rattle.instructions.specs.declared.what.Case.{Case}
use Rattle.instructions.specs.declared.what.Instr.{Instr}
use Rattle.instructions.specs.declared.what.Target.{Target}
use Rattle.instructions.specs.declared.what.What.{What}
use Rattle.instructions.specs.declared.what.What.TheVariants.{Plain, Int, Long, Constant as Loaded, LongConstant, Local, Increment, Branch, TableSwitch, LookupSwitch, Field, Call, InterfaceCall, Class, NewArray}
use Rattle.code_steps.specs.declared.fault.StepFault.{StepFault}
use Rattle.code_steps.specs.declared.fault.StepFault.TheVariants as faults
use Rattle.instructions.specs.What.{targets_of}
use Rattle.code_steps.specs.CodeArray.{with_target, with_targets, by_offsets}
use Rattle.class_walk.specs.Reading.{◌>>=◌}
use Rattle.code_steps.specs.Targets.{target_of, all_of, case_of, what_of, placed, step_of, steps_of}
use Rattle.class_walk.proofs.Fields.{bind_ok, ok_is}
use Rattle.code_steps.proofs.Fields.{err_is}

map_none : {A B : Type 0} (g : A → B) (o : Option A) → option_map g o ≡ None → o ≡ None
map_none g None e = refl
map_none g (Some x) e = absurd cc

-- ---- what a function gives for each target

module _ {A B : Type 0} (f : A → Option B) (back : B → A) (P : B → Type 0) (Q : A → Type 0)
    (gives : (x : A) (y : B) → f x ≡ Some y → (back y ≡ x) × P y × Q x)
    (again : (y : B) → P y → f (back y) ≡ Some y)
    (lacks : (x : A) → f x ≡ None → ¬ Q x) where
  pub record Resolved (w : What A) (v : What B) : Type 0 where
    pub back_is : with_targets back v ≡ w
    pub right : AllByRecursion P (targets_of v)
    pub found : AllByRecursion Q (targets_of w)

  all_is : (xs : List A) (ys : List B) → all_of f xs ≡ Some ys → (map back ys ≡ xs) × AllByRecursion P ys × AllByRecursion Q xs
  unfolding all_of
  all_is [] ys e = subst (λ (ys : List B). (map back ys ≡ []) × AllByRecursion P ys × AllByRecursion Q []) (same_Some [] ys e) (refl, tt, tt)
  all_is (x ∷ xs) ys e =
      let a = went_on _ (f x) ys e in
      let b = mapped _ (all_of f xs) ys a.2 in
      let h = gives x a.0 a.1 in
      let t = all_is xs b.0 b.1 in
      subst (λ (ys : List B). (map back ys ≡ x ∷ xs) × AllByRecursion P ys × AllByRecursion Q (x ∷ xs)) b.2
      (ap (λ (z : A). z ∷ map back b.0) h.0 ∙ ap (λ (zs : List A). x ∷ zs) t.0, (h.1, t.1), (h.2, t.2))

  case_gives : (c : Case A) (d : Case B) → case_of f c ≡ Some d → (with_target back d ≡ c) × P d.target × Q c.target
  case_gives c d e =
      let a = mapped _ (f c.target) d e in
      let h = gives c.target a.0 a.1 in
      subst (λ (d : Case B). (with_target back d ≡ c) × P d.target × Q c.target) a.2
      (ap (λ (z : A). record { key = c.key; target = z }) h.0, h.1, h.2)

  cases_are : (cs : List (Case A)) (ds : List (Case B)) → all_of (case_of f) cs ≡ Some ds
      → (map (with_target back) ds ≡ cs) × AllByRecursion P (map (λ d. d.target) ds) × AllByRecursion Q (map (λ c. c.target) cs)
  unfolding all_of
  cases_are [] ds e = subst (λ (ds : List (Case B)). (map (with_target back) ds ≡ []) × AllByRecursion P (map (λ d. d.target) ds) × AllByRecursion Q []) (same_Some [] ds e) (refl, tt, tt)
  cases_are (c ∷ cs) ds e =
      let a = went_on _ (case_of f c) ds e in
      let b = mapped _ (all_of (case_of f) cs) ds a.2 in
      let h = case_gives c a.0 a.1 in
      let t = cases_are cs b.0 b.1 in
      subst (λ (ds : List (Case B)). (map (with_target back) ds ≡ c ∷ cs) × AllByRecursion P (map (λ d. d.target) ds) × AllByRecursion Q (map (λ c. c.target) (c ∷ cs))) b.2
      (ap (λ (z : Case A). z ∷ map (with_target back) b.0) h.0 ∙ ap (λ (zs : List (Case A)). c ∷ zs) t.0, (h.1, t.1), (h.2, t.2))

  what_is : (w : What A) (v : What B) → what_of f w ≡ Some v → Resolved w v
  unfolding what_of
  what_is (Plain plain) v e = subst (λ (v : What B). Resolved (Plain plain) v) (same_Some _ v e) (record { back_is = refl; right = tt; found = tt })
  what_is (Int n) v e = subst (λ (v : What B). Resolved (Int n) v) (same_Some _ v e) (record { back_is = refl; right = tt; found = tt })
  what_is (Long n) v e = subst (λ (v : What B). Resolved (Long n) v) (same_Some _ v e) (record { back_is = refl; right = tt; found = tt })
  what_is (Loaded index) v e = subst (λ (v : What B). Resolved (Loaded index) v) (same_Some _ v e) (record { back_is = refl; right = tt; found = tt })
  what_is (LongConstant index) v e = subst (λ (v : What B). Resolved (LongConstant index) v) (same_Some _ v e) (record { back_is = refl; right = tt; found = tt })
  what_is (Local access local) v e = subst (λ (v : What B). Resolved (Local access local) v) (same_Some _ v e) (record { back_is = refl; right = tt; found = tt })
  what_is (Increment local by) v e = subst (λ (v : What B). Resolved (Increment local by) v) (same_Some _ v e) (record { back_is = refl; right = tt; found = tt })
  what_is (Branch test target) v e =
      let a = mapped (λ t. Branch test t) (f target) v e in
      let h = gives target a.0 a.1 in
      subst (λ (v : What B). Resolved (Branch test target) v) a.2 (record { back_is = ap (λ (z : A). Branch test z) h.0; right = (h.1, tt); found = (h.2, tt) })
  what_is (TableSwitch default low targets) v e =
      let a = went_on _ (f default) v e in
      let b = mapped (λ ts. TableSwitch a.0 low ts) (all_of f targets) v a.2 in
      let h = gives default a.0 a.1 in
      let t = all_is targets b.0 b.1 in
      subst (λ (v : What B). Resolved (TableSwitch default low targets) v) b.2
      (record { back_is = ap (λ (z : A). TableSwitch z low (map back b.0)) h.0 ∙ ap (λ (zs : List A). TableSwitch default low zs) t.0; right = (h.1, t.1); found = (h.2, t.2) })
  what_is (LookupSwitch default cases) v e =
      let a = went_on _ (f default) v e in
      let b = mapped (λ cs. LookupSwitch a.0 cs) (all_of (case_of f) cases) v a.2 in
      let h = gives default a.0 a.1 in
      let t = cases_are cases b.0 b.1 in
      subst (λ (v : What B). Resolved (LookupSwitch default cases) v) b.2
      (record { back_is = ap (λ (z : A). LookupSwitch z (map (with_target back) b.0)) h.0 ∙ ap (λ (zs : List (Case A)). LookupSwitch default zs) t.0; right = (h.1, t.1); found = (h.2, t.2) })
  what_is (Field access index) v e = subst (λ (v : What B). Resolved (Field access index) v) (same_Some _ v e) (record { back_is = refl; right = tt; found = tt })
  what_is (Call call index) v e = subst (λ (v : What B). Resolved (Call call index) v) (same_Some _ v e) (record { back_is = refl; right = tt; found = tt })
  what_is (InterfaceCall index) v e = subst (λ (v : What B). Resolved (InterfaceCall index) v) (same_Some _ v e) (record { back_is = refl; right = tt; found = tt })
  what_is (Class purpose index) v e = subst (λ (v : What B). Resolved (Class purpose index) v) (same_Some _ v e) (record { back_is = refl; right = tt; found = tt })
  what_is (NewArray element) v e = subst (λ (v : What B). Resolved (NewArray element) v) (same_Some _ v e) (record { back_is = refl; right = tt; found = tt })

  -- ---- the other way round

  all_again : (ys : List B) → AllByRecursion P ys → all_of f (map back ys) ≡ Some ys
  unfolding all_of
  all_again [] right = refl
  all_again (y ∷ ys) right = rw (again y right.0, all_again ys right.1) refl

  cases_again : (ds : List (Case B)) → AllByRecursion P (map (λ d. d.target) ds) → all_of (case_of f) (map (with_target back) ds) ≡ Some ds
  unfolding all_of
  cases_again [] right = refl
  cases_again (d ∷ ds) right = rw (again d.target right.0, cases_again ds right.1) refl

  what_again : (v : What B) → AllByRecursion P (targets_of v) → what_of f (with_targets back v) ≡ Some v
  unfolding what_of
  what_again (Branch test target) right = rw (again target right.0) refl
  what_again (TableSwitch default low targets) right = rw (again default right.0, all_again targets right.1) refl
  what_again (LookupSwitch default cases) right = rw (again default right.0, cases_again cases right.1) refl
  what_again (Plain plain) right = refl
  what_again (Int n) right = refl
  what_again (Long n) right = refl
  what_again (Loaded index) right = refl
  what_again (LongConstant index) right = refl
  what_again (Local access local) right = refl
  what_again (Increment local by) right = refl
  what_again (Field access index) right = refl
  what_again (Call call index) right = refl
  what_again (InterfaceCall index) right = refl
  what_again (Class purpose index) right = refl
  what_again (NewArray element) right = refl

  -- ---- where nothing is given for some target

  all_lacks : (xs : List A) → all_of f xs ≡ None → ¬ AllByRecursion Q xs
  unfolding all_of
  all_lacks [] e found = absurd cc
  all_lacks (x ∷ xs) e found =
      let first : (o : Option B) → f x ≡ o → option_and_then (λ y. option_map (λ ys. y ∷ ys) (all_of f xs)) o ≡ None → ⊥ =
      λ o. elim o as (λ o. f x ≡ o → option_and_then (λ y. option_map (λ ys. y ∷ ys) (all_of f xs)) o ≡ None → ⊥)
      [ None ↦ λ g h. lacks x g found.0 | Some y ↦ λ g h. all_lacks xs (map_none (λ ys. y ∷ ys) (all_of f xs) h) found.1 ] in
      first (f x) refl e

  cases_lack : (cs : List (Case A)) → all_of (case_of f) cs ≡ None → ¬ AllByRecursion Q (map (λ c. c.target) cs)
  unfolding all_of
  cases_lack [] e found = absurd cc
  cases_lack (c ∷ cs) e found =
      let first : (o : Option (Case B)) → case_of f c ≡ o → option_and_then (λ y. option_map (λ ys. y ∷ ys) (all_of (case_of f) cs)) o ≡ None → ⊥ =
      λ o. elim o as (λ o. case_of f c ≡ o → option_and_then (λ y. option_map (λ ys. y ∷ ys) (all_of (case_of f) cs)) o ≡ None → ⊥)
      [ None ↦ λ g h. lacks c.target (map_none _ (f c.target) g) found.0 | Some y ↦ λ g h. cases_lack cs (map_none (λ ys. y ∷ ys) (all_of (case_of f) cs) h) found.1 ] in
      first (case_of f c) refl e

  what_lacks : (w : What A) → what_of f w ≡ None → ¬ AllByRecursion Q (targets_of w)
  unfolding what_of
  what_lacks (Branch test target) e found = lacks target (map_none _ (f target) e) found.0
  what_lacks (TableSwitch default low targets) e found =
      let first : (o : Option B) → f default ≡ o → option_and_then (λ d. option_map (λ ts. TableSwitch d low ts) (all_of f targets)) o ≡ None → ⊥ =
      λ o. elim o as (λ o. f default ≡ o → option_and_then (λ d. option_map (λ ts. TableSwitch d low ts) (all_of f targets)) o ≡ None → ⊥)
      [ None ↦ λ g h. lacks default g found.0 | Some y ↦ λ g h. all_lacks targets (map_none _ (all_of f targets) h) found.1 ] in
      first (f default) refl e
  what_lacks (LookupSwitch default cases) e found =
      let first : (o : Option B) → f default ≡ o → option_and_then (λ d. option_map (λ cs. LookupSwitch d cs) (all_of (case_of f) cases)) o ≡ None → ⊥ =
      λ o. elim o as (λ o. f default ≡ o → option_and_then (λ d. option_map (λ cs. LookupSwitch d cs) (all_of (case_of f) cases)) o ≡ None → ⊥)
      [ None ↦ λ g h. lacks default g found.0 | Some y ↦ λ g h. cases_lack cases (map_none _ (all_of (case_of f) cases) h) found.1 ] in
      first (f default) refl e
  what_lacks (Plain plain) e found = absurd cc
  what_lacks (Int n) e found = absurd cc
  what_lacks (Long n) e found = absurd cc
  what_lacks (Loaded index) e found = absurd cc
  what_lacks (LongConstant index) e found = absurd cc
  what_lacks (Local access local) e found = absurd cc
  what_lacks (Increment local by) e found = absurd cc
  what_lacks (Field access index) e found = absurd cc
  what_lacks (Call call index) e found = absurd cc
  what_lacks (InterfaceCall index) e found = absurd cc
  what_lacks (Class purpose index) e found = absurd cc
  what_lacks (NewArray element) e found = absurd cc

-- ---- targets among instructions

abbrev place_in : List ℕ → ℕ → Option ℕ
place_in offsets at = position_from (λ o. o == at) 0 offsets

-- the target has its number among these offsets
abbrev IsNumbered : List ℕ → Target → Type 0
IsNumbered offsets t = place_in offsets t.at ≡ Some t.step

-- a target is one of these offsets
abbrev IsPlaced : List ℕ → ℤ → Type 0
IsPlaced offsets z = (offset : ℕ) × (z ≡ pos offset) × IsSome (place_in offsets offset)

abbrev as_offset : Target → ℤ
as_offset t = pos t.at

target_gives : (offsets : List ℕ) (z : ℤ) (t : Target) → target_of offsets z ≡ Some t → (as_offset t ≡ z) × IsNumbered offsets t × IsPlaced offsets z
target_gives offsets (negsuc n) t e = absurd cc
target_gives offsets (pos n) t e =
    let a = mapped (λ step. record { at = n; step = step }) (place_in offsets n) t e in
    subst (λ (t : Target). (as_offset t ≡ pos n) × IsNumbered offsets t × IsPlaced offsets (pos n)) {x = record { at = n; step = a.0 }} a.2
    (refl, a.1, (n, refl, rw a.1 refl))

target_again : (offsets : List ℕ) (t : Target) → IsNumbered offsets t → target_of offsets (as_offset t) ≡ Some t
target_again offsets t numbered = rw numbered refl

target_lacks : (offsets : List ℕ) (z : ℤ) → target_of offsets z ≡ None → ¬ IsPlaced offsets z
target_lacks offsets (negsuc n) e found = absurd cc
target_lacks offsets (pos n) e found =
    let none : place_in offsets n ≡ None = map_none _ (place_in offsets n) e in
    let same : n ≡ found.0 = of_pos n found.0 found.1 in
    let some : IsSome (place_in offsets n) = subst (λ (m : ℕ). IsSome (place_in offsets m)) (sym same) found.2 in
    let never : IsSome {T = ℕ} None = rw none at some in
    absurd cc
  where
    of_pos : (m k : ℕ) → pos m ≡ pos k → m ≡ k
    of_pos m k e = cc

-- ---- instructions

-- the instruction with its targets
record Given (offsets : List ℕ) (i : Instr ℤ) (s : Instr Target) : Type 0 where
  pub back_is : by_offsets s ≡ i
  pub right : AllByRecursion (IsNumbered offsets) (targets_of s.what)
  pub found : AllByRecursion (IsPlaced offsets) (targets_of i.what)

placed_gives : (offsets : List ℕ) (i : Instr ℤ) (o : Option (What Target)) (s : Instr Target) → what_of (target_of offsets) i.what ≡ o → placed i o ≡ Ok s → Given offsets i s
placed_gives offsets i None s is e = absurd cc
placed_gives offsets i (Some what) s is e =
    let r = what_is (target_of offsets) as_offset (IsNumbered offsets) (IsPlaced offsets) (target_gives offsets) (target_again offsets) (target_lacks offsets) i.what what is in
    let made : Instr Target = record { at = i.at; next = i.next; what = what } in
    subst (λ (s : Instr Target). Given offsets i s) {x = made} (ok_is made s e)
    (record { back_is = ap (λ (w : What ℤ). record { at = i.at; next = i.next; what = w }) r.back_is; right = r.right; found = r.found })

step_again : (offsets : List ℕ) (s : Instr Target) → AllByRecursion (IsNumbered offsets) (targets_of s.what) → step_of offsets (by_offsets s) ≡ Ok s
step_again offsets s right =
    rw (what_again (target_of offsets) as_offset (IsNumbered offsets) (IsPlaced offsets) (target_gives offsets) (target_again offsets) (target_lacks offsets) s.what right) refl

-- a step that is refused
record Refused (offsets : List ℕ) (i : Instr ℤ) (f : StepFault) : Type 0 where
  pub stray : ¬ AllByRecursion (IsPlaced offsets) (targets_of i.what)
  pub fault : f ≡ faults.Target i.at

placed_refuses : (offsets : List ℕ) (i : Instr ℤ) (o : Option (What Target)) (f : StepFault) → what_of (target_of offsets) i.what ≡ o → placed i o ≡ Err f → Refused offsets i f
placed_refuses offsets i (Some what) f is e = absurd cc
placed_refuses offsets i None f is e =
    record { stray = what_lacks (target_of offsets) as_offset (IsNumbered offsets) (IsPlaced offsets) (target_gives offsets) (target_again offsets) (target_lacks offsets) i.what is; fault = err_is {A = Instr Target} f (faults.Target i.at) (sym e) }

-- what is found of a step decides what it gives
placed_found : (offsets : List ℕ) (i : Instr ℤ) (o : Option (What Target)) → what_of (target_of offsets) i.what ≡ o → AllByRecursion (IsPlaced offsets) (targets_of i.what) → (s : Instr Target) × (placed i o ≡ Ok s)
placed_found offsets i (Some what) is found = (record { at = i.at; next = i.next; what = what }, refl)
placed_found offsets i None is found =
    absurd (what_lacks (target_of offsets) as_offset (IsNumbered offsets) (IsPlaced offsets) (target_gives offsets) (target_again offsets) (target_lacks offsets) i.what is found)

placed_stray : (offsets : List ℕ) (i : Instr ℤ) (o : Option (What Target)) → what_of (target_of offsets) i.what ≡ o → ¬ AllByRecursion (IsPlaced offsets) (targets_of i.what) → placed i o ≡ Err (faults.Target i.at)
placed_stray offsets i None is stray = refl
placed_stray offsets i (Some what) is stray =
    let r = what_is (target_of offsets) as_offset (IsNumbered offsets) (IsPlaced offsets) (target_gives offsets) (target_again offsets) (target_lacks offsets) i.what what is in
    absurd (stray r.found)

-- ---- all the instructions

pub record AllGiven (offsets : List ℕ) (xs : List (Instr ℤ)) (ys : List (Instr Target)) : Type 0 where
  pub back_is : map by_offsets ys ≡ xs
  pub right : AllByRecursion (λ (s : Instr Target). AllByRecursion (IsNumbered offsets) (targets_of s.what)) ys

pub steps_give : (offsets : List ℕ) (xs : List (Instr ℤ)) (ys : List (Instr Target)) → steps_of offsets xs ≡ Ok ys → AllGiven offsets xs ys
unfolding steps_of
steps_give offsets [] ys e = subst (λ (ys : List (Instr Target)). AllGiven offsets [] ys) (ok_is [] ys e) (record { back_is = refl; right = tt })
steps_give offsets (i ∷ others) ys e =
    let a = bind_ok (step_of offsets i) _ _ e in
    let b = bind_ok (steps_of offsets others) _ _ a.2 in
    let g = placed_gives offsets i (what_of (target_of offsets) i.what) a.0 refl a.1 in
    let t = steps_give offsets others b.0 b.1 in
    subst (λ (ys : List (Instr Target)). AllGiven offsets (i ∷ others) ys) (ok_is (a.0 ∷ b.0) ys b.2)
    (record { back_is = ap (λ (x : Instr ℤ). x ∷ map by_offsets b.0) g.back_is ∙ ap (λ (xs : List (Instr ℤ)). i ∷ xs) t.back_is; right = (g.right, t.right) })

pub steps_again : (offsets : List ℕ) (ys : List (Instr Target)) → AllByRecursion (λ (s : Instr Target). AllByRecursion (IsNumbered offsets) (targets_of s.what)) ys → steps_of offsets (map by_offsets ys) ≡ Ok ys
unfolding steps_of
steps_again offsets [] right = refl
steps_again offsets (s ∷ ys) right = rw (step_again offsets s right.0, steps_again offsets ys right.1) refl

-- the first instruction that is refused
pub record FirstRefused (offsets : List ℕ) (xs : List (Instr ℤ)) (f : StepFault) : Type 0 where
  pub before : List (Instr ℤ)
  pub step : Instr ℤ
  pub behind : List (Instr ℤ)
  pub parts : xs ≡ before ++ step ∷ behind
  pub right : AllByRecursion (λ (i : Instr ℤ). AllByRecursion (IsPlaced offsets) (targets_of i.what)) before
  pub stray : ¬ AllByRecursion (IsPlaced offsets) (targets_of step.what)
  pub fault : f ≡ faults.Target step.at

pub steps_refuse : (offsets : List ℕ) (xs : List (Instr ℤ)) (f : StepFault) → steps_of offsets xs ≡ Err f → FirstRefused offsets xs f
unfolding steps_of
steps_refuse offsets [] f e = absurd cc
steps_refuse offsets (i ∷ others) f e = first (λ g there. steps_refuse offsets others g there) (step_of offsets i) refl e
  where
    second : ((g : StepFault) → steps_of offsets others ≡ Err g → FirstRefused offsets others g) → (s : Instr Target) → step_of offsets i ≡ Ok s → (r : Result (List (Instr Target)) StepFault) → steps_of offsets others ≡ r → (r >>= λ steps. Ok (s ∷ steps)) ≡ Err f → FirstRefused offsets (i ∷ others) f
    second later s is (Ok ys) there e = absurd cc
    second later s is (Err g) there e =
        let t = later g there in
        let h = placed_gives offsets i (what_of (target_of offsets) i.what) s refl is in
        record { before = i ∷ t.before; step = t.step; behind = t.behind; parts = ap (λ (xs : List (Instr ℤ)). i ∷ xs) t.parts; right = (h.found, t.right); stray = t.stray; fault = sym (err_is {A = List (Instr Target)} g f e) ∙ t.fault }

    first : ((g : StepFault) → steps_of offsets others ≡ Err g → FirstRefused offsets others g) → (r : Result (Instr Target) StepFault) → step_of offsets i ≡ r → (r >>= λ s. steps_of offsets others >>= λ steps. Ok (s ∷ steps)) ≡ Err f → FirstRefused offsets (i ∷ others) f
    first later (Err g) is e =
        let h = placed_refuses offsets i (what_of (target_of offsets) i.what) g refl is in
        record { before = []; step = i; behind = others; parts = refl; right = tt; stray = h.stray; fault = sym (err_is {A = List (Instr Target)} g f e) ∙ h.fault }
    first later (Ok s) is e = second later s is (steps_of offsets others) refl e

pub refused_again : (offsets : List ℕ) (before : List (Instr ℤ)) (step : Instr ℤ) (behind : List (Instr ℤ)) → AllByRecursion (λ (i : Instr ℤ). AllByRecursion (IsPlaced offsets) (targets_of i.what)) before
    → ¬ AllByRecursion (IsPlaced offsets) (targets_of step.what) → steps_of offsets (before ++ step ∷ behind) ≡ Err (faults.Target step.at)
unfolding steps_of
refused_again offsets [] step behind right stray = rw (placed_stray offsets step (what_of (target_of offsets) step.what) refl stray) refl
refused_again offsets (i ∷ before) step behind right stray =
    let s = placed_found offsets i (what_of (target_of offsets) i.what) refl right.0 in
    rw (s.1, refused_again offsets before step behind right.1 stray) refl
