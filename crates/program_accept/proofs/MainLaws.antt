-- The method with which a program begins.
use Rattle.std.proofs.Common.{◌≡◌, ℕ, ◌<◌, ◌^◌, List, length, Option, Some, None, slice_get, refl, sym, inr}
use Rattle.code_decode.specs.declared.code.ClassUnit.{ClassUnit}
use Rattle.code_laws.proofs.FileLaws.{small}
use Rattle.link_types.specs.declared.operands.MethodId.{MethodId}
use Rattle.link_rules.specs.Units.{AreUnits}
use Rattle.program_accept.specs.declared.refusal.AcceptRefusal.TheVariants.{NoMain}
use Rattle.program_accept.specs.Main.{main_method}
use Rattle.program_accept.specs.Accepted.{main_rules}
use Rattle.program_accept.specs.Answers.{Passes, Fails}

pub few_methods : (us : List ClassUnit) (k : ℕ) (u : ClassUnit) → AreUnits us → slice_get us k ≡ Some u → length u.file.methods < 2 ^ 16
few_methods us k u are at = (small u.file (are k u at).file).methods

none_is : (o : Option MethodId) (m : MethodId) → o ≡ None → o ≡ Some m → ⊥
none_is o m none some = cc

pub main_passes : (name : List ℕ) (us : List ClassUnit) (m : MethodId) (A : Type 0) → main_method us name ≡ Some m → A → Passes (main_rules name us) A
main_passes name us m A there is = record { hold = (m, there); is = is; none = λ e its. its.0 (m, there) }

pub main_fails : (name : List ℕ) (us : List ClassUnit) → main_method us name ≡ None → Fails (main_rules name us) NoMain
main_fails name us none = record {
  refused = inr ((λ has. none_is (main_method us name) has.0 none has.1), refl);
  only = λ other its. inr (sym its.1);
  broken = λ has. absurd (none_is (main_method us name) has.0 none has.1);
}
