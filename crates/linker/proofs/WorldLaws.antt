-- Classes by number, and answers by the rules of linking.
use Rattle.std.proofs.Common.{◌≡◌, ◌≤◌, ◌<◌, ◌-◌, ◌⊎◌, get_or, ℕ, suc, nat_le, cond, List, length, slice_get, Option, None, Some, Result, Ok, Err, inl, inr, sym, subst, arith}
use Rattle.std.specs.Option.{option_map_or}
use Rattle.std.proofs.lemmas.Bool.{cases_Bool, leb-true, leb-false}
use Rattle.std.proofs.lemmas.Option.{slice_get_cases}
use Rattle.rules.specs.Rules.{Rules}
use Rattle.link_types.specs.declared.refusal.LinkRefusal.{LinkRefusal}
use Rattle.link_rules.specs.LinkRules.{hierarchy_rules, link_rules}
use Rattle.class_supers.specs.Answers.{Gives, Refuses}
use Rattle.code_decode.specs.declared.code.ClassUnit.{ClassUnit}
use Rattle.builtin_world.specs.declared.number.TheConstants.{OBJECT}
use Rattle.link_rules.specs.Classes.{classes_of}
use Rattle.link_rules.specs.Names.{ProgramNames, program_names, class_count}
use Rattle.link_rules.specs.Methods.{selection_start}
use Rattle.link_rules.proofs.Numbers.{class_count_is}

pub start_within : (us : List ClassUnit) (c : ℕ) → c ≤ class_count (program_names us) → selection_start (program_names us) c ≤ length (classes_of us)
start_within us c le = go (slice_get_cases p.arrays (c - suc n)).1
  where
    p : ProgramNames
    p = program_names us

    n : ℕ
    n = length p.classes

    some : 1 ≤ n
    some = omega (arith, class_count_is us)

    start : Option (List ℕ) → ℕ
    start o = option_map_or (λ name. OBJECT) o c

    past : n < c → length p.arrays ≤ c - suc n → ⊥
    past above ge = omega (arith, above, ge, le)

    go : ((x : List ℕ) × (c - suc n < length p.arrays) × (slice_get p.arrays (c - suc n) ≡ Some x) × (get_or p.arrays (c - suc n) x ≡ x)) ⊎ ((length p.arrays ≤ c - suc n) × (slice_get p.arrays (c - suc n) ≡ None))
        → selection_start p c ≤ n
    go cases = elim (cases_Bool (nat_le c n)) [
      | inl low ↦
          let le : c ≤ n = leb-true c n low in
          subst (λ b. start (cond b None (slice_get p.arrays (c - suc n))) ≤ n) (sym low) le
      | inr high ↦ subst (λ b. start (cond b None (slice_get p.arrays (c - suc n))) ≤ n) (sym high) (elim cases [
        | inl (x, lt, at, read) ↦ subst (λ o. start o ≤ n) (sym at) some
        | inr (ge, none) ↦ absurd (past (leb-false c n high) ge)
      ])
    ]

-- what holds where an answer by rules is good, and what is refused where it isn't
pub given_ok : {X : Type 0} (rules : Rules LinkRefusal) (Is : X → Type 0) (r : Result X LinkRefusal) (x : X) → r ≡ Ok x → Gives r rules Is → rules.Hold × Is x
given_ok rules Is r x is given = subst (λ s. Gives s rules Is) is given

pub given_err : {X : Type 0} (rules : Rules LinkRefusal) (Is : X → Type 0) (r : Result X LinkRefusal) (e : LinkRefusal) → r ≡ Err e → Gives r rules Is → Refuses e rules
given_err rules Is r e is given = subst (λ s. Gives s rules Is) is given

-- where all rules hold, those of what lies above classes do
pub hierarchy_holds : (us : List ClassUnit) → (link_rules us).Hold → (hierarchy_rules us).Hold
hierarchy_holds us holds = (holds.0, (holds.1.0, holds.1.1.0))
