-- The rules of a program, one stage after another.
use Rattle.std.proofs.Common.{◌≡◌, ℕ, ◌≤◌, List, length, Some, Result, Ok, Err, refl, sym, ◌∙◌, ap, inr, subst}
use Rattle.std.proofs.lemmas.Option.{same_Some}
use Rattle.rules.specs.Rules.{Rules, must, each}
use Rattle.code_decode.specs.declared.code.ClassUnit.{ClassUnit}
use Rattle.program_accept.specs.declared.refusal.AcceptRefusal.{AcceptRefusal}
use Rattle.program_accept.specs.Refusals.{too_many}
use Rattle.program_accept.specs.Main.{main_method}
use Rattle.program_accept.specs.Accepted.{Accepted, read_rules, code_rules, of_units, unit_rules, program_rules, AreUnitsOf, IsProgramOf, IsProgram, IsOnlyProgram}
use Rattle.program_accept.specs.Answers.{Passes, Fails, Decides}
use Rattle.program_accept.specs.Only.{AreOnlyUnits}
use Rattle.program_accept.proofs.Chains.{first_fails, second_passes, second_fails, passes_as}
use Rattle.program_accept.proofs.OnlyLaws.{units_are, no_other_units}
use Rattle.program_accept.proofs.StageLaws.{units_decide}

module _ (all : List (List ℕ)) (name : List ℕ) where
  abbrev few : Rules AcceptRefusal
  few = must (length all ≤ 1024) too_many

  pub many_fail : ¬ (length all ≤ 1024) → Fails (program_rules all name) too_many
  many_fail more = first_fails few _ too_many (record {
    refused = inr (more, refl);
    only = λ other its. inr (sym its.1);
    broken = λ holds. absurd (more holds);
  })

  module _ (holds : length all ≤ 1024) where
    no_more : (e : AcceptRefusal) → ¬ few.Refuse e
    no_more e its = its.0 holds

    pub read_fails : (e : AcceptRefusal) → Fails (each read_rules all) e → Fails (program_rules all name) e
    read_fails e fails = second_fails few _ e no_more holds (first_fails (each read_rules all) _ e fails)

    module _ (read : Passes (each read_rules all) (Unit {0})) where
      pub code_fails : (e : AcceptRefusal) → Fails (each code_rules all) e → Fails (program_rules all name) e
      code_fails e fails =
          second_fails few _ e no_more holds
          (second_fails (each read_rules all) _ e read.none read.hold (first_fails (each code_rules all) (of_units all (unit_rules name)) e fails))

      module _ (us : List ClassUnit) (decoded : Passes (each code_rules all) (AreOnlyUnits all us)) where
        same_program : (p q : Accepted) → IsProgramOf us name p → IsProgram all name q → q ≡ p
        same_program p q is its =
            let units : us ≡ q.units = no_other_units all us q.units decoded.is its.units in
            let mains : Some q.main ≡ Some p.main = sym its.is.main ∙ sym (ap (λ vs. main_method vs name) units) ∙ is.main in
            let main = same_Some q.main p.main mains in
            let all_units = sym units ∙ sym is.units in
            λ i. record { units = all_units i; main = main i }

        program_of : (p : Accepted) → IsProgramOf us name p → IsOnlyProgram all name p
        program_of p is = record {
          is = record {
            units = subst (AreUnitsOf all) (sym is.units) (units_are all us decoded.is);
            is = subst (λ vs. IsProgramOf vs name p) (sym is.units) is;
          };
          only = λ q its. same_program p q is its;
        }

        pub program_decided : (r : Result Accepted AcceptRefusal) → Decides r (unit_rules name us) (λ p. IsProgramOf us name p) → Decides r (program_rules all name) (λ p. IsOnlyProgram all name p)
        program_decided (Ok p) passes =
            let units = units_decide {X = Accepted} all us (unit_rules name) (λ q. IsProgramOf us name q) (Ok p) decoded.is passes in
            second_passes few _ no_more holds
            (second_passes (each read_rules all) _ read.none read.hold
            (second_passes (each code_rules all) (of_units all (unit_rules name)) decoded.none decoded.hold
            (passes_as (of_units all (unit_rules name)) (program_of p) units)))
        program_decided (Err e) fails =
            let units = units_decide {X = Accepted} all us (unit_rules name) (λ q. IsProgramOf us name q) (Err e) decoded.is fails in
            second_fails few _ e no_more holds
            (second_fails (each read_rules all) _ e read.none read.hold
            (second_fails (each code_rules all) (of_units all (unit_rules name)) e decoded.none decoded.hold units))
