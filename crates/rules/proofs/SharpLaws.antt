-- Where rules hold they refuse nothing, and they refuse one thing at most.
use Rattle.std.proofs.Common.{◌≡◌, ℕ, List, Option, None, Some, slice_get, inl, inr, sym, ◌∙◌, subst, arith}
use Rattle.std.proofs.lemmas.Bool.{cases_lt}
use Rattle.std.proofs.lemmas.Option.{same_Some}
use Rattle.rules.specs.Rules.{Rules, must, when, given, ◌then◌, each}

pub record IsSharp {E : Type 0} (rules : Rules E) : Type 0 where
  pub apart : (e : E) → rules.Hold → rules.Refuse e → ⊥
  pub one : (e d : E) → rules.Refuse e → rules.Refuse d → e ≡ d

pub sharp_must : {E : Type 0} (Rule : Type 0) (refusal : E) → IsSharp (must Rule refusal)
sharp_must Rule refusal = record { apart = λ e holds broken. broken.0 holds; one = λ e d x y. x.1 ∙ sym y.1 }

pub sharp_then : {E : Type 0} (a b : Rules E) → IsSharp a → IsSharp b → IsSharp (a then b)
sharp_then a b x y = record {
  apart = λ e holds broken. elim broken [ inl f ↦ x.apart e holds.0 f | inr f ↦ y.apart e holds.1 f.1 ];
  one = λ e d f g. elim f [
    | inl p ↦ elim g [ inl q ↦ x.one e d p q | inr q ↦ absurd (x.apart e q.0 p) ]
    | inr p ↦ elim g [ inl q ↦ absurd (x.apart d p.0 q) | inr q ↦ y.one e d p.1 q.1 ]
  ];
}

pub sharp_when : {E : Type 0} (Case : Type 0) (rules : Rules E) → IsSharp rules → IsSharp (when Case rules)
sharp_when Case rules x = record {
  apart = λ e holds broken. x.apart e (holds broken.0) broken.1;
  one = λ e d f g. x.one e d f.1 g.1;
}

pub same_item : {X : Type 0} (xs : List X) (i j : ℕ) (x y : X) → i ≡ j → slice_get xs i ≡ Some x → slice_get xs j ≡ Some y → x ≡ y
same_item {X} xs i j x y same a b =
    let P : ℕ → Type 0 = λ k. slice_get xs k ≡ Some x in
    same_Some x y (sym (subst P same a) ∙ b)

pub sharp_each : {E X : Type 0} (rules : ℕ → X → Rules E) (xs : List X) → ((i : ℕ) (x : X) → IsSharp (rules i x)) → IsSharp (each rules xs)
sharp_each {X = X} rules xs sharp = record {
  apart = λ e holds broken. (sharp broken.0 broken.1).apart e (holds broken.0 broken.1 broken.2) broken.4;
  one = λ e d f g. elim (cases_lt f.0 g.0) [
    | inl before ↦ absurd ((sharp f.0 f.1).apart e (g.3 f.0 f.1 before f.2) f.4)
    | inr le ↦ elim (cases_lt g.0 f.0) [
      | inl after ↦ absurd ((sharp g.0 g.1).apart d (f.3 g.0 g.1 after g.2) g.4)
      | inr ge ↦
          let same : g.0 ≡ f.0 = omega arith in
          let item : g.1 ≡ f.1 = same_item xs g.0 f.0 g.1 f.1 same g.2 f.2 in
          let P : ℕ → Type 0 = λ k. (rules k g.1).Refuse d in
          let Q : X → Type 0 = λ y. (rules f.0 y).Refuse d in
          (sharp f.0 f.1).one e d f.4 (subst Q item (subst P same g.4))
    ]
  ];
}

pub sharp_given : {E X : Type 0} (o : Option X) (refusal : E) (rules : X → Rules E) → ((x : X) → IsSharp (rules x)) → IsSharp (given o refusal rules)
sharp_given None refusal rules sharp = record { apart = λ e holds broken. holds; one = λ e d f g. f ∙ sym g }
sharp_given (Some x) refusal rules sharp = sharp x
