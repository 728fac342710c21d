use Rattle.std.proofs.Common.{◌≡◌, Some, None, sym, ◌∙◌, ap, subst}
use Rattle.link_rules.specs.Units.{AreUnits}
use Rattle.link_rules.specs.LinkRules.{link_rules}
use Rattle.type_rules.specs.VerifyRules.{verify_rules}
use Rattle.program_accept.specs.Main.{main_method}
use Rattle.program_accept.specs.Accepted.{told, main_rules}
use Rattle.program_accept.specs.Answers.{Passes, Fails}
use Rattle.program_accept.specs.Refusals.{link_refused, verify_refused}
use Rattle.program_accept.proofs.Chains.{first_fails, second_passes, second_fails}
use Rattle.program_accept.proofs.MainLaws.{main_passes, main_fails}
use Rattle.program_accept.proofs.program.accept_units.Goals as goal

pub returns-in-Err : goal.returns-in-Err
returns-in-Err c = first_fails (told link_refused (link_rules c.args.units.items)) _ c.in-Err.refusal c.in-Err.ensures

pub returns-in-Err-verified : goal.returns-in-Err-verified
returns-in-Err-verified c =
    let us = c.args.units.items in
    let refusal = c.in-Err-verified.refusal in
    let verified = subst (λ vs. Fails (told verify_refused (verify_rules vs)) refusal) c.in-Ok.ensures.is c.in-Err-verified.ensures in
    second_fails (told link_refused (link_rules us)) _ refusal c.in-Ok.ensures.none c.in-Ok.ensures.hold
    (first_fails (told verify_refused (verify_rules us)) (main_rules c.args.main.now us) refusal verified)

pub main_method-requires-clause-decoded : goal.main_method-requires-clause-decoded
main_method-requires-clause-decoded c = subst AreUnits (sym (c.units.ensures ∙ c.in-Ok.ensures.is)) c.requires.decoded

pub returns-in-Some : goal.returns-in-Some
returns-in-Some c =
    let us = c.args.units.items in
    let name = c.args.main.now in
    let main = c.in-Some.main in
    let verified = subst (λ vs. Passes (told verify_refused (verify_rules vs)) (Unit {0})) c.in-Ok.ensures.is c.in-Ok-verified.ensures in
    let there : main_method us name ≡ Some main =
    sym (ap (λ vs. main_method vs name) (c.units.ensures ∙ c.in-Ok.ensures.is)) ∙ sym c.main_method.ensures ∙ c.in-Some.is in
    second_passes (told link_refused (link_rules us)) _ c.in-Ok.ensures.none c.in-Ok.ensures.hold
    (second_passes (told verify_refused (verify_rules us)) (main_rules name us) verified.none verified.hold
    (main_passes name us main _ there
    (record { units = c.in-Ok.ensures.is; linked = c.in-Ok.ensures.hold; safe = verified.hold; main = there })))

pub returns-in-None : goal.returns-in-None
returns-in-None c =
    let us = c.args.units.items in
    let name = c.args.main.now in
    let verified = subst (λ vs. Passes (told verify_refused (verify_rules vs)) (Unit {0})) c.in-Ok.ensures.is c.in-Ok-verified.ensures in
    let none : main_method us name ≡ None =
    sym (ap (λ vs. main_method vs name) (c.units.ensures ∙ c.in-Ok.ensures.is)) ∙ sym c.main_method.ensures ∙ c.in-None.is in
    second_fails (told link_refused (link_rules us)) _ _ c.in-Ok.ensures.none c.in-Ok.ensures.hold
    (second_fails (told verify_refused (verify_rules us)) (main_rules name us) _ verified.none verified.hold (main_fails name us none))
