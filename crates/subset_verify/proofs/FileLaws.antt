-- The rules of the type checker over methods and files, where memory may run out.
use Rattle.std.proofs.Common.{◌≡◌, ℕ, ◌<◌, ◌^◌, List, length, Some, Option, slice_get, Result, Ok, Err, inl, inr, sym, ◌∙◌, ap, subst}
use Rattle.rules.specs.Rules.{Rules, HoldBelow, each}
use Rattle.type_rules.specs.declared.refusal.VerifyRefusal.{VerifyRefusal}
use Rattle.type_rules.specs.declared.refusal.VerifyRefusal.TheVariants.{At}
use Rattle.type_rules.specs.declared.refusal.VerifyKind.{VerifyKind}
use Rattle.type_rules.specs.Environment.{Environment}
use Rattle.type_rules.specs.TypeSafe.{IsTypeSafe}
use Rattle.type_rules.specs.Environments.{environment_of}
use Rattle.type_rules.specs.VerifyRules.{method_type_rules, method_of_file, TellsFirstFault}
use Rattle.link_rules.specs.Classes.{number_of_file}
use Rattle.code_decode.specs.declared.code.ClassUnit.{ClassUnit}
use Rattle.code_laws.proofs.FileLaws.{small}
use Rattle.link_rules.specs.Units.{AreUnits}
use Rattle.method_check.specs.Method.{IsFaultAt}
use Rattle.type_laws.specs.Answers.{HaveOneAnswer}
use Rattle.subset_verify.specs.Answers.{Gives, Refuses, IsRefused}

pub refuses_at : {X : Type 0} (rules : ℕ → X → Rules VerifyRefusal) (xs : List X) (i : ℕ) (x : X) (e : VerifyRefusal) → slice_get xs i ≡ Some x → HoldBelow rules xs i → Refuses e (rules i x) → Refuses e (each rules xs)
refuses_at rules xs i x e at below refused =
    elim refused [
      | inl no_memory ↦ inl no_memory
      | inr broken ↦ inr (i, x, at, below, broken)
    ]

pub first_is_refused : {X : Type 0} (rules : Rules VerifyRefusal) (r : Result X VerifyRefusal) → HaveOneAnswer rules → Gives r rules → (e : VerifyRefusal) → rules.Refuse e → IsRefused r e
first_is_refused rules (Ok x) one holds e broken = one.apart e holds broken
first_is_refused rules (Err d) one refused e broken = elim refused [
  | inl no_memory ↦ inl no_memory
  | inr its ↦ inr (one.one d e its broken)
]

-- ---- one method

pub safe_holds : (file method : ℕ) (o : Option Environment) (env : Environment) → o ≡ Some env → IsTypeSafe env → (method_type_rules file method o).Hold
safe_holds file method o env is safe = subst (λ p. (method_type_rules file method p).Hold) (sym is) safe

tells : (file method : ℕ) (env : Environment) (kind : VerifyKind) (place : ℕ) → IsFaultAt env kind place → TellsFirstFault file method env (At kind file method place)
tells file method env kind place fault = record {
  number = fault.number;
  kind = kind;
  instruction = fault.instruction;
  first = fault.first;
  told = ap (At kind file method) fault.at;
}

pub fault_refuses : (file method : ℕ) (o : Option Environment) (env : Environment) (kind : VerifyKind) (place : ℕ) → o ≡ Some env → IsFaultAt env kind place → (method_type_rules file method o).Refuse (At kind file method place)
fault_refuses file method o env kind place is fault =
    subst (λ p. (method_type_rules file method p).Refuse (At kind file method place)) (sym is) (tells file method env kind place fault)

-- ---- methods of class files are few

pub few_methods : (us : List ClassUnit) (k : ℕ) (u : ClassUnit) → AreUnits us → slice_get us k ≡ Some u → length u.codes < 2 ^ 16
few_methods us k u are at =
    let decoded = are k u at in
    subst (λ n. n < 2 ^ 16) (sym decoded.codes.count) (small u.file decoded.file).methods

pub environment_at : (us : List ClassUnit) (file method c : ℕ) (env : Environment) → c ≡ number_of_file file → environment_of us (record { class = c; method = method }) ≡ Some env → environment_of us (method_of_file file method) ≡ Some env
environment_at us file method c env same is = ap (λ n. environment_of us (record { class = n; method = method })) (sym same) ∙ is
