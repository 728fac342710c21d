-- What each stage decides, from what its call answers.
use Rattle.std.proofs.Common.{◌≡◌, ℕ, ◌⊎◌, List, Result, Ok, Err, inl, inr, refl, sym, ◌∙◌, ap, subst}
use Rattle.rules.specs.Rules.{Rules}
use Rattle.rules.proofs.SharpLaws.{IsSharp}
use Rattle.class_pool.specs.declared.refusal.ReadRefusal.{ReadRefusal}
use Rattle.class_pool.specs.declared.refusal.ReadRefusal.TheVariants as reading
use Rattle.class_read.specs.declared.class_file.ClassFile.{ClassFile}
use Rattle.class_read.specs.ClassFile.{IsFile, IsRefusalOf}
use Rattle.code_decode.specs.declared.code.ClassUnit.{ClassUnit}
use Rattle.code_decode.specs.declared.code.CodeAt.{CodeAt}
use Rattle.code_decode.specs.declared.refusal.CodeRefusal.TheVariants as decoding
use Rattle.code_decode.specs.Method.{AreBytes}
use Rattle.code_decode.specs.Unit.{IsUnit, ClassRefuses}
use Rattle.program_accept.specs.declared.refusal.AcceptRefusal.{AcceptRefusal}
use Rattle.program_accept.specs.declared.refusal.AcceptRefusal.TheVariants.{NoMemory}
use Rattle.program_accept.specs.Refusals.{read_refused, method_refused, code_refused}
use Rattle.program_accept.specs.Accepted.{read_rules, code_rules, IsUnitOf, of_units, told}
use Rattle.program_accept.specs.Answers.{Passes, Fails, Decides}
use Rattle.program_accept.specs.Only.{IsOnlyUnit, AreOnlyUnits}
use Rattle.type_rules.specs.VerifyRules.{verify_rules}
use Rattle.type_laws.proofs.Verdicts.{one_answer}
use Rattle.program_accept.proofs.OnlyLaws.{units_are, no_other_units}

-- ---- reading

module _ (place : ℕ) (bytes : List ℕ) where
  pub file_passes : (file : ClassFile) → IsFile bytes file → ((r : ReadRefusal) → ¬ IsRefusalOf bytes r) → Passes (read_rules place bytes) (Unit {0})
  file_passes file is none = record { hold = (file, is); is = tt; none = λ e its. none its.0 its.1 }

  pub read_memory : (e : ReadRefusal) → e ≡ reading.NoMemory → read_refused place e ≡ NoMemory
  read_memory e none = ap (read_refused place) none

  pub file_fails : (e : ReadRefusal) → (e ≡ reading.NoMemory) ⊎ IsRefusalOf bytes e → ((r : ReadRefusal) → IsRefusalOf bytes r → (e ≡ reading.NoMemory) ⊎ (e ≡ r))
      → ((file : ClassFile) → IsFile bytes file → e ≡ reading.NoMemory) → Fails (read_rules place bytes) (read_refused place e)
  file_fails e exact first only = record {
    refused = elim exact [ inl none ↦ inl (read_memory e none) | inr broken ↦ inr (e, broken, refl) ];
    only = λ other its. elim (first its.0 its.1) [
      | inl none ↦ inl (read_memory e none)
      | inr same ↦ inr (ap (read_refused place) same ∙ sym its.2)
    ];
    broken = λ holds. read_memory e (only holds.0 holds.1);
  }

  -- ---- decoding

  unit_of : (file : ClassFile) (u : ClassUnit) → IsFile bytes file → IsUnit file u → IsUnitOf bytes u
  unit_of file u is decoded = record {
    read = subst (IsFile bytes) (sym decoded.same) is;
    decoded = (let P : ClassFile → Type 0 = λ f. IsUnit f u in subst P (sym decoded.same) decoded);
  }

  -- a class file, which the bytes alone are
  module _ (file : ClassFile) (is : IsFile bytes file) (one : (other : ClassFile) → IsFile bytes other → file ≡ other) where
    pub unit_passes : (u : ClassUnit) → AreBytes bytes → IsUnit file u → ((other : ClassUnit) → IsUnit file other → u ≡ other) → ((at : CodeAt) → ¬ ClassRefuses file at) → Passes (code_rules place bytes) (IsOnlyUnit bytes u)
    unit_passes u are decoded only none = record {
      hold = (u, unit_of file u is decoded);
      is = record {
        are = are;
        is = unit_of file u is decoded;
        only = λ other its. (let P : ClassFile → Type 0 = λ f. IsUnit f other in only other (subst P (sym (one other.file its.read)) its.decoded));
      };
      none = λ e its. (let P : ClassFile → Type 0 = λ f. ClassRefuses f its.1 in none its.1 (subst P (sym (one its.0 its.2)) its.3));
    }

    code_memory : (at : CodeAt) → at.refusal ≡ decoding.NoMemory → code_refused place at ≡ NoMemory
    code_memory at none = ap (method_refused place at.method) none

    pub unit_fails : (at : CodeAt) → (at.refusal ≡ decoding.NoMemory) ⊎ ClassRefuses file at
        → ((other : CodeAt) → ClassRefuses file other → (at.refusal ≡ decoding.NoMemory) ⊎ (at ≡ other))
        → ((u : ClassUnit) → IsUnit file u → at.refusal ≡ decoding.NoMemory) → Fails (code_rules place bytes) (code_refused place at)
    unit_fails at exact first only = record {
      refused = elim exact [ inl none ↦ inl (code_memory at none) | inr broken ↦ inr (file, at, is, broken, refl) ];
      only = λ other its. (
          let P : ClassFile → Type 0 = λ f. ClassRefuses f its.1 in
          elim (first its.1 (subst P (sym (one its.0 its.2)) its.3)) [
            | inl none ↦ inl (code_memory at none)
            | inr same ↦ inr (ap (code_refused place) same ∙ sym its.4)
          ]);
      broken = λ holds. (
          let P : ClassFile → Type 0 = λ f. IsUnit f holds.0 in
          code_memory at (only holds.0 (subst P (sym (one holds.0.file holds.1.read)) holds.1.decoded)));
    }

-- ---- rules of units, and rules whose refusals are given in another form

pub units_decide : {X : Type 0} (files : List (List ℕ)) (us : List ClassUnit) (rules : List ClassUnit → Rules AcceptRefusal) (Is : X → Type 0) (r : Result X AcceptRefusal)
    → AreOnlyUnits files us → Decides r (rules us) Is → Decides r (of_units files rules) Is
units_decide files us rules Is (Ok x) one passes = record {
  hold = (us, units_are files us one, passes.hold);
  is = passes.is;
  none = λ e its. (let P : List ClassUnit → Type 0 = λ vs. (rules vs).Refuse e in passes.none e (subst P (sym (no_other_units files us its.0 one its.1)) its.2));
}
units_decide files us rules Is (Err e) one fails = record {
  refused = elim fails.refused [ inl none ↦ inl none | inr broken ↦ inr (us, units_are files us one, broken) ];
  only = λ other its. (let P : List ClassUnit → Type 0 = λ vs. (rules vs).Refuse other in fails.only other (subst P (sym (no_other_units files us its.0 one its.1)) its.2));
  broken = λ holds. (let P : List ClassUnit → Type 0 = λ vs. (rules vs).Hold in fails.broken (subst P (sym (no_other_units files us holds.0 one holds.1)) holds.2));
}

pub told_passes : {E : Type 0} (tell : E → AcceptRefusal) (rules : Rules E) (Is : Type 0) → IsSharp rules → rules.Hold → Is → Passes (told tell rules) Is
told_passes tell rules Is sharp holds is = record { hold = holds; is = is; none = λ e its. sharp.apart its.0 holds its.1 }

pub told_fails : {E : Type 0} (tell : E → AcceptRefusal) (rules : Rules E) (memory e : E) → tell memory ≡ NoMemory → IsSharp rules → (e ≡ memory) ⊎ rules.Refuse e → Fails (told tell rules) (tell e)
told_fails tell rules memory e none sharp exact = record {
  refused = elim exact [ inl is ↦ inl (ap tell is ∙ none) | inr broken ↦ inr (e, broken, refl) ];
  only = λ other its. elim exact [
    | inl is ↦ inl (ap tell is ∙ none)
    | inr broken ↦ inr (ap tell (sharp.one e its.0 broken its.1) ∙ sym its.2)
  ];
  broken = λ holds. elim exact [
    | inl is ↦ ap tell is ∙ none
    | inr broken ↦ absurd (sharp.apart e holds broken)
  ];
}

pub sharp_verify : (us : List ClassUnit) → IsSharp (verify_rules us)
sharp_verify us = record { apart = (one_answer us).apart; one = (one_answer us).one }
