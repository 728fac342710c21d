-- The codes of a class, method by method.
use Rattle.std.proofs.Common.{◌≡◌, ◌+◌, ◌<◌, ℕ, List, [], ◌∷◌, ◌++◌, length, refl, sym, ap, subst, ◌∙◌, inl, inr, arith, length-append}
use Rattle.std.specs.Prelude.{Option, Some, None, slice_get}
use Rattle.std.proofs.lemmas.Option.{same_Some, slice_get_within}
use Rattle.class_read.specs.declared.class_file.ClassFile.{ClassFile}
use Rattle.class_read.specs.declared.class_file.Member.{Member}
use Rattle.code_decode.specs.declared.code.Code.{Code}
use Rattle.code_decode.specs.declared.code.CodeAt.{CodeAt}
use Rattle.code_decode.specs.declared.refusal.CodeRefusal.{CodeRefusal}
use Rattle.code_decode.specs.Answer.{IsOnly, IsRefusal}
use Rattle.code_decode.specs.Method.{IsCodeOf, CodeOfRefuses}
use Rattle.code_decode.specs.Unit.{IsCodeEntry, AreOnly, IsFirstRefused}
use Rattle.class_pool.proofs.Lists.{slice_get-push}
use Rattle.code_decode.proofs.HandlerLaws.{same_items, item_at, sides}

-- a method that has a code has no entry without one
no_code : (file : ClassFile) (n : ℕ) (code : Code) → IsCodeOf file n code → IsCodeEntry file n None → ⊥
no_code file n code (m, a, there, is) (k, at, none) =
    let P : Member → Type 0 = λ z. z.code ≡ None in
    let same : m.code ≡ None = subst P (same_Some k m (sym at ∙ there.0)) none in
    let wrong : Some a ≡ None = sym there.1 ∙ same in
    absurd (some_none a wrong)
  where
    some_none : {X : Type 0} (x : X) → Some x ≡ None → ⊥
    some_none x e = cc

refused_code : (file : ClassFile) (n : ℕ) (e : CodeRefusal) → CodeOfRefuses file n e → IsCodeEntry file n None → ⊥
refused_code file n e (m, a, there, is) (k, at, none) =
    let P : Member → Type 0 = λ z. z.code ≡ None in
    let same : m.code ≡ None = subst P (same_Some k m (sym at ∙ there.0)) none in
    let wrong : Some a ≡ None = sym there.1 ∙ same in
    absurd (some_none a wrong)
  where
    some_none : {X : Type 0} (x : X) → Some x ≡ None → ⊥
    some_none x e = cc

-- the answer for a method that has code
pub with_code : (file : ClassFile) (n : ℕ) (code : Code) → IsOnly (IsCodeOf file n) (CodeOfRefuses file n) code → IsOnly (IsCodeEntry file n) (CodeOfRefuses file n) (Some code)
with_code file n code answer = record {
  right = answer.right;
  only = λ o. elim o as (λ o. IsCodeEntry file n o → Some code ≡ o) [
    | None ↦ λ is. absurd (no_code file n code answer.right is)
    | Some other ↦ λ is. ap Some (answer.only other is)
  ];
  accepted = answer.accepted;
}

pub with_refusal : (file : ClassFile) (n : ℕ) (e : CodeRefusal) → IsRefusal (IsCodeOf file n) (CodeOfRefuses file n) e → IsRefusal (IsCodeEntry file n) (CodeOfRefuses file n) e
with_refusal file n e refused = record {
  right = refused.right;
  only = refused.only;
  none = λ o. elim o as (λ o. IsCodeEntry file n o → ⊥) [
    | None ↦ λ is. refused_code file n e refused.right is
    | Some other ↦ λ is. refused.none other is
  ];
}

-- the answer for a method that has none
pub without_code : (file : ClassFile) (n : ℕ) (m : Member) → slice_get file.methods n ≡ Some m → m.code ≡ None → IsOnly (IsCodeEntry file n) (CodeOfRefuses file n) None
without_code file n m at none = record {
  right = (m, at, none);
  only = λ o. elim o as (λ o. IsCodeEntry file n o → None ≡ o) [
    | None ↦ λ is. refl
    | Some other ↦ λ is. absurd (no_code file n other is (m, at, none))
  ];
  accepted = λ e refused. refused_code file n e refused (m, at, none);
}

-- the codes of the methods before one
pub record AreCodesTo (file : ClassFile) (n : ℕ) (codes : List (Option Code)) : Type 0 where
  pub count : length codes ≡ n
  pub each : (i : ℕ) (o : Option Code) → slice_get codes i ≡ Some o → IsOnly (IsCodeEntry file i) (CodeOfRefuses file i) o

pub none_yet : (file : ClassFile) → AreCodesTo file 0 []
none_yet file = record { count = refl; each = λ i o at. absurd cc }

pub one_more : (file : ClassFile) (n : ℕ) (codes : List (Option Code)) (o : Option Code) → AreCodesTo file n codes → IsOnly (IsCodeEntry file n) (CodeOfRefuses file n) o → AreCodesTo file (n + 1) (codes ++ o ∷ [])
one_more file n codes o before is = record {
  count = length-append codes (o ∷ []) ∙ omega (arith, before.count);
  each = λ i p at. elim (slice_get-push codes o p i at) [
    | inl earlier ↦ before.each i p earlier
    | inr here ↦
        let P : Option Code → Type 0 = λ z. IsOnly (IsCodeEntry file n) (CodeOfRefuses file n) z in
        let Q : ℕ → Type 0 = λ k. IsOnly (IsCodeEntry file k) (CodeOfRefuses file k) p in
        subst Q (sym (here.0 ∙ before.count)) (subst P here.1 is)
  ];
}

-- no method before is refused
accepted_to : (file : ClassFile) (n : ℕ) (codes : List (Option Code)) → AreCodesTo file n codes → (i : ℕ) → i < n → (e : CodeRefusal) → CodeOfRefuses file i e → ⊥
accepted_to file n codes are i before e refused =
    let o = item_at codes i (omega (arith, are.count)) in
    (are.each i o.0 o.1).accepted e refused

-- a method that is refused is one of the class
refused_within : (file : ClassFile) (n : ℕ) (e : CodeRefusal) → CodeOfRefuses file n e → n < length file.methods
refused_within file n e (m, a, there, is) = slice_get_within file.methods n m there.0

pub all_read : (file : ClassFile) (n : ℕ) (codes : List (Option Code)) → AreCodesTo file n codes → n ≡ length file.methods → AreOnly file codes
all_read file n codes are all = record {
  right = record { count = are.count ∙ all; each = λ i o at. (are.each i o at).right };
  only = λ others is. same_items codes others (are.count ∙ all ∙ sym is.count)
      (λ i x y at there. (are.each i x at).only y (is.each i y there));
  accepted = λ at refused.
      let within : at.method < length file.methods = refused_within file at.method at.refusal refused.refused in
      accepted_to file n codes are at.method (omega (arith, within, all)) at.refusal refused.refused;
}

abbrev made : ℕ → CodeRefusal → CodeAt
made method refusal = record { method = method; refusal = refusal }

same_place : (at other : CodeAt) → at.method ≡ other.method → at.refusal ≡ other.refusal → at ≡ other
same_place at other x y =
    let same : made at.method at.refusal ≡ made other.method other.refusal = cc in
    same

pub first_refused : (file : ClassFile) (n : ℕ) (codes : List (Option Code)) (e : CodeRefusal) → AreCodesTo file n codes → IsRefusal (IsCodeEntry file n) (CodeOfRefuses file n) e → IsFirstRefused file (record { method = n; refusal = e })
first_refused file n codes e are refused = record {
  right = record {
    refused = refused.right;
    before = λ i before. let o = item_at codes i (omega (arith, are.count)) in (o.0, (are.each i o.0 o.1).right);
  };
  only = λ other wrong. elim (sides n other.method) [
    | inl before ↦ let o = wrong.before n before in absurd (refused.none o.0 o.1)
    | inr rest ↦ elim rest [
      | inl behind ↦ absurd (accepted_to file n codes are other.method behind other.refusal wrong.refused)
      | inr same ↦
          let P : ℕ → Type 0 = λ k. CodeOfRefuses file k other.refusal in
          same_place (record { method = n; refusal = e }) other same (refused.only other.refusal (subst P (sym same) wrong.refused))
    ]
  ];
  none = λ others is.
      let within : n < length file.methods = refused_within file n e refused.right in
      let o = item_at others n (omega (arith, within, is.count)) in
      refused.none o.0 (is.each n o.0 o.1);
}
