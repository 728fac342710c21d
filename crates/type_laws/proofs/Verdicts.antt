-- The methods of a program one by one.
use Rattle.std.proofs.Common.{◌≡◌, ◌≤◌, ◌⊎◌, ℕ, zero, suc, Option, None, Some, List, length, refl, sym, subst, inl, inr, ap, ◌∙◌, arith, slice_get}
use Rattle.std.proofs.lemmas.Option.{same_Some}
use Rattle.rules.specs.Rules.{Rules, HoldBelow, each}
use Rattle.rules.proofs.RuleLaws.{one_more, none_yet, all_hold}
use Rattle.rules.proofs.SharpLaws.{IsSharp, sharp_each}
use Rattle.code_decode.specs.declared.code.ClassUnit.{ClassUnit}
use Rattle.code_decode.proofs.HandlerLaws.{item_at}
use Rattle.instructions.specs.declared.what.Instr.{Instr}
use Rattle.instructions.specs.declared.what.Target.{Target}
use Rattle.type_rules.specs.declared.refusal.VerifyRefusal.{VerifyRefusal}
use Rattle.type_rules.specs.declared.refusal.VerifyRefusal.TheVariants.{At}
use Rattle.type_rules.specs.Environment.{Environment}
use Rattle.type_rules.specs.Environments.{environment_of}
use Rattle.type_rules.specs.VerifyRules.{TellsFirstFault, method_type_rules, method_of_file, verify_rules}
use Rattle.type_rules.proofs.Falling.{faults_are_first}
use Rattle.type_laws.specs.Answers.{HaveOneAnswer}
use Rattle.type_laws.proofs.Walked.{safe_or_refused}

abbrev IsDecided : {E : Type 0} → Rules E → Type 0
IsDecided {E} rules = rules.Hold ⊎ ((e : E) × rules.Refuse e)

-- ---- of one method

same_told : (file method : ℕ) (env : Environment) (e d : VerifyRefusal) → TellsFirstFault file method env e → TellsFirstFault file method env d → e ≡ d
same_told file method env e d a b =
    let place : a.number ≡ b.number = (faults_are_first env).place a.number b.number a.kind b.kind a.instruction b.instruction a.first b.first in
    let kind : a.kind ≡ b.kind = (faults_are_first env).kind a.number b.number a.kind b.kind a.instruction b.instruction a.first b.first in
    let P : ℕ → Type 0 = λ n. slice_get env.steps n ≡ Some a.instruction in
    let same : a.instruction ≡ b.instruction = same_Some a.instruction b.instruction (sym (subst P place a.first.there) ∙ b.first.there) in
    a.told ∙ (ap (λ k. At k file method a.instruction.at) kind ∙ (ap (λ (i : Instr Target). At b.kind file method i.at) same ∙ sym b.told))

sharp_method : (file method : ℕ) (o : Option Environment) → IsSharp (method_type_rules file method o)
sharp_method file method None = record { apart = λ e holds refused. refused; one = λ e d f g. absurd f }
sharp_method file method (Some env) = record {
  apart = λ e safe told. (faults_are_first env).safe told.number told.kind told.instruction told.first safe;
  one = same_told file method env;
}

decided_method : (file method : ℕ) (o : Option Environment) → IsDecided (method_type_rules file method o)
decided_method file method None = inl record {}
decided_method file method (Some env) =
    elim (safe_or_refused env) [
      | inl safe ↦ inl safe
      | inr f ↦ inr (At f.1 file method f.2.at, record { number = f.0; kind = f.1; instruction = f.2; first = f.3; told = refl })
    ]

-- ---- of items one after another

decided_below : {E X : Type 0} (rules : ℕ → X → Rules E) (xs : List X) → ((i : ℕ) (x : X) → IsDecided (rules i x)) → (n : ℕ) → n ≤ length xs
    → HoldBelow rules xs n ⊎ ((e : E) × (each rules xs).Refuse e)
decided_below rules xs decided zero le = inl (none_yet rules xs)
decided_below rules xs decided (suc n) le =
    let here = item_at xs n (omega arith) in
    elim (decided_below rules xs decided n (omega arith)) [
      | inr refused ↦ inr refused
      | inl below ↦ elim (decided n here.0) [
        | inl holds ↦ inl (λ i y lt e. one_more rules xs n here.0 here.1 below holds i y (omega arith) e)
        | inr f ↦ inr (f.0, (n, here.0, here.1, below, f.1))
      ]
    ]

decided_each : {E X : Type 0} (rules : ℕ → X → Rules E) (xs : List X) → ((i : ℕ) (x : X) → IsDecided (rules i x)) → IsDecided (each rules xs)
decided_each rules xs decided =
    elim (decided_below rules xs decided (length xs) (omega arith)) [
      | inl below ↦ inl (all_hold rules xs (length xs) (omega arith) below)
      | inr refused ↦ inr refused
    ]

-- ---- of a program

pub one_answer : (us : List ClassUnit) → HaveOneAnswer (verify_rules us)
one_answer us =
    let decided : IsDecided (verify_rules us) = decided_each _ us (λ file u. decided_each _ u.codes (λ method code. decided_method file method (environment_of us (method_of_file file method)))) in
    let sharp : IsSharp (verify_rules us) = sharp_each _ us (λ file u. sharp_each _ u.codes (λ method code. sharp_method file method (environment_of us (method_of_file file method)))) in
    record { some = decided; apart = sharp.apart; one = sharp.one }
