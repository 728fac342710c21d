-- Calls of `advance` leave the next reference free.
use Rattle.std.proofs.Common.{◌≡◌, ℕ, suc, ◌+◌, ◌<◌, ◌≤◌, ◌^◌, ◌||◌, Bool, true, false, cond, Option, Some, None, IsNone, List, [], ◌∷◌, reverse, find, nat_eq, refl, sym, ◌∙◌, ap, subst, arith, inl, inr}
use Rattle.std.specs.List.{All, list_any}
use Rattle.std.specs.Option.{option_map}
use Rattle.std.proofs.lemmas.Bool.Decides.{leb_tells, nat_tests}
use Rattle.op_core.specs.declared.Op.{Op}
use Rattle.op_core.specs.declared.Op.TheVariants.{New}
use Rattle.op_core.specs.declared.Reply.{Reply}
use Rattle.op_core.specs.declared.Reply.TheVariants.{Made}
use Rattle.op_core.specs.declared.Limits.{Limits}
use Rattle.op_core.specs.ThreadCode.{Code}
use Rattle.op_core.specs.OrdinaryState.{Object}
use Rattle.op_core.specs.OrdinaryStep.{objects_after}
use Rattle.op_core.proofs.ScriptLemmas.{list_any_reverse}
use Rattle.op_core.proofs.PointwiseLemmas.{set_at-other}
use Rattle.fixed_objects.specs.declared.FixedObject.{FixedObject}
use Rattle.fixed_objects.specs.declared.Opening.{Opening}
use Rattle.fixed_objects.specs.Fixed.{fixed_at, fixed_header}
use Rattle.fixed_objects.specs.Opening.{LiesBelow, LiesBelowFirst}
use Rattle.ordinary_machine.specs.declared.advance.Advance.{Advance}
use Rattle.ordinary_machine.specs.declared.advance.Advance.TheVariants.{Silent, Step, Waits, Halts, Ended, Spent}
use Rattle.ordinary_machine.specs.Machine.{Machine, taken_after}
use Rattle.ordinary_machine.specs.Start.{start_of}
use Rattle.ordinary_machine.specs.Advance.{IsChosen, Advances}
use Rattle.ordinary_machine.specs.Laws.{Call, Runs, ReferencesAreLeft}

-- the objects lie below the first reference and all words taken since
record LieBelow (objects : ℕ → Option Object) (first taken : ℕ) : Type 0 where
  above : 0 < first
  none : (r : ℕ) → first + taken ≤ r → IsNone (objects r)

-- a fixed object above all is none
other_fixed : (r : ℕ) (first : ℕ) → first ≤ r → (objects : List FixedObject) → All (LiesBelow first) objects → list_any (λ o. nat_eq r o.reference) objects ≡ false
other_fixed r first above [] all = refl
other_fixed r first above (o ∷ objects) all =
    let lies : LiesBelow first o = all 0 o (omega arith) in
    let rest : All (LiesBelow first) objects = λ k d inside. all (suc k) d (omega (arith, inside)) in
    ap (λ b. b || list_any (λ x. nat_eq r x.reference) objects) (other r o.reference (omega (arith, above, lies.1))) ∙ other_fixed r first above objects rest
  where
    other : (j k : ℕ) → k < j → nat_eq j k ≡ false
    other j k less = grind (arith, nat_tests)

not_found : {A : Type 0} (p : A → Bool) (xs : List A) → list_any p xs ≡ false → find p xs ≡ None
not_found p [] none = refl
not_found {A} p (x ∷ xs) none = of (p x) refl (not_found p xs)
  where
    of : (b : Bool) → p x ≡ b → (list_any p xs ≡ false → find p xs ≡ None) → find p (x ∷ xs) ≡ None
    of true is rest = let both : true ≡ false = sym (ap (λ b. b || list_any p xs) is) ∙ none in cc
    of false is rest = ap (λ b. cond b (Some x) (find p xs)) is ∙ rest (sym (ap (λ b. b || list_any p xs) is) ∙ none)

fixed_below : (opening : Opening) → LiesBelowFirst opening → LieBelow (λ r. option_map fixed_header (fixed_at opening.objects r)) opening.first 0
fixed_below opening lies = record {
  above = lies.first;
  none = λ r above.
      let past : opening.first ≤ r = omega (arith, above) in
      let found : fixed_at opening.objects r ≡ None = not_found (λ o. nat_eq r o.reference) (reverse opening.objects)
      (list_any_reverse (λ o. nat_eq r o.reference) opening.objects ∙ other_fixed r opening.first past opening.objects lies.objects) in
      subst (λ x. IsNone (option_map fixed_header x)) (sym found) refl;
}

-- a new object lies there
step_below : {S : Type 0} (code : Code S) (m : Machine S) (l : S) (op : Op) (reply : Reply) → IsChosen m op reply → LieBelow m.now.objects m.first m.taken
    → LieBelow (objects_after code l op reply m.now) m.first (taken_after code l op reply m.taken)
step_below code m l (New c n) (Made r) chosen below = record {
  above = below.above;
  none = λ k past.
      let count = code.words l c n in
      let other : k ≡ r → ⊥ = λ e. omega (arith, past, e, chosen) in
      let less : m.first + m.taken ≤ k = omega (arith, past) in
      let made : Option Object = Some (record { class = c; length = n; words = count }) in
      subst IsNone (sym (set_at-other m.now.objects r made k other)) (below.none k less);
}
step_below code m l _ _ chosen below = below

call_below : {S : Type 0} (code : Code S) (m new : Machine S) (t : ℕ) (limits : Limits) (a : Advance) → Advances code m t limits a new → LieBelow m.now.objects m.first m.taken
    → LieBelow new.now.objects new.first new.taken
call_below {S} code m new t limits Silent silent below = subst (λ (x : Machine S). LieBelow x.now.objects x.first x.taken) (sym silent.leads) below
call_below {S} code m new t limits (Step e) answered below =
    subst (λ (x : Machine S). LieBelow x.now.objects x.first x.taken) (sym answered.leads) (step_below code m answered.place e.op e.reply answered.chosen below)
call_below {S} code m new t limits Waits (waits, same) below = subst (λ (x : Machine S). LieBelow x.now.objects x.first x.taken) (sym same) below
call_below {S} code m new t limits Halts (halted, same) below = subst (λ (x : Machine S). LieBelow x.now.objects x.first x.taken) (sym same) below
call_below {S} code m new t limits Ended (over, same) below = subst (λ (x : Machine S). LieBelow x.now.objects x.first x.taken) (sym same) below
call_below {S} code m new t limits (Spent limit) (spent, same) below = subst (λ (x : Machine S). LieBelow x.now.objects x.first x.taken) (sym same) below

calls_below : {S : Type 0} (code : Code S) (m last : Machine S) (calls : List Call) → Runs code m calls last → LieBelow m.now.objects m.first m.taken → LieBelow last.now.objects last.first last.taken
calls_below {S} code m last [] same below = subst (λ (x : Machine S). LieBelow x.now.objects x.first x.taken) (sym same) below
calls_below code m last (call ∷ calls) (next, advances, rest) below = calls_below code next last calls rest (call_below code m next call.thread call.limits call.answer advances below)

pub references_left : {S : Type 0} (code : Code S) → ReferencesAreLeft code
references_left {S} code opening l calls last lies runs c n lacks =
    let below = calls_below code (start_of opening l) last calls runs (fixed_below opening lies) in
    elim (leb_tells (2 ^ 32) (last.first + last.taken)) [
      | inl past ↦ past.1
      | inr within ↦ absurd (lacks (omega (arith, below.above), within.1, below.none (last.first + last.taken) (omega arith)))
    ]
