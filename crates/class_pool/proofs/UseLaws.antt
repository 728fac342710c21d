-- What the texts of the pool may be used as.
use Rattle.std.proofs.Common.{◌≡◌, ◌+◌, ◌<◌, ℕ, List, [], ◌∷◌, ◌++◌, length, refl, sym, subst, ◌∙◌, arith, inl, inr, length-append}
use Rattle.std.specs.Prelude.{Option, Some, None, slice_get, IfSome}
use Rattle.std.proofs.lemmas.Option.{same_Some, slice_get_within}
use Rattle.class_walk.specs.declared.class.Constant.{Constant}
use Rattle.class_walk.specs.declared.class.Constant.TheVariants.{Utf8}
use Rattle.class_names.specs.declared.kind.ParameterSize.{ParameterSize}
use Rattle.class_pool.specs.declared.text_uses.TextUse.{TextUse}
use Rattle.class_pool.specs.Pool.{IsUtf8At}
use Rattle.class_pool.specs.PoolRules.{IsText}
use Rattle.class_pool.specs.TextUses.{HasParameters, IsUseOf, IsUseAt, AreUsesOf}
use Rattle.class_pool.proofs.Lists.{slice_get-push}

pub parameters_of : (text : List ℕ) (o : Option ParameterSize) → IfSome o (λ size. HasParameters text size) → (size : ParameterSize) → o ≡ Some size → HasParameters text size
parameters_of text None found size e = absurd cc
parameters_of text (Some other) found size e = subst (HasParameters text) (same_Some other size e) found

-- the uses of the entries before one
pub record AreUsesTo (pool : List Constant) (n : ℕ) (uses : List TextUse) : Type 0 where
  pub count : length uses ≡ n
  pub each : (k : ℕ) (text : List ℕ) (u : TextUse) → slice_get pool k ≡ Some (Utf8 text) → slice_get uses k ≡ Some u → IsUseOf text u

pub none_yet : (pool : List Constant) → AreUsesTo pool 0 []
none_yet pool = record { count = refl; each = λ k text u at there. absurd cc }

pub one_more : (pool : List Constant) (n : ℕ) (uses : List TextUse) (constant : Constant) (u : TextUse) → AreUsesTo pool n uses → slice_get pool n ≡ Some constant → ((text : List ℕ) → constant ≡ Utf8 text → IsUseOf text u) → AreUsesTo pool (n + 1) (uses ++ u ∷ [])
one_more pool n uses constant u before at is = record {
  count = length-append uses (u ∷ []) ∙ omega (arith, before.count);
  each = λ k text other there last.
      elim (slice_get-push uses u other k last) [
        | inl earlier ↦ before.each k text other there earlier
        | inr here ↦
            let P : ℕ → Type 0 = λ j. slice_get pool j ≡ Some (Utf8 text) in
            let same : constant ≡ Utf8 text = same_Some constant (Utf8 text) (sym at ∙ subst P (here.0 ∙ before.count) there) in
            subst (IsUseOf text) here.1 (is text same)
      ];
}

pub all_there : (pool : List Constant) (n : ℕ) (uses : List TextUse) → AreUsesTo pool n uses → n ≡ length pool → AreUsesOf pool uses
all_there pool n uses are all = record { count = are.count ∙ all; each = are.each }

-- each text has its use
pub within : (pool : List Constant) (uses : List TextUse) (k : ℕ) → AreUsesOf pool uses → IsText pool k → k < length uses
within pool uses k are there = omega (arith, slice_get_within pool k (Utf8 there.0) there.1, are.count)

-- the text at an index is one
pub of_same : (pool : List Constant) (k : ℕ) (u : TextUse) → IsUseAt pool k u → (text : List ℕ) → IsUtf8At pool k text → IsUseOf text u
of_same pool k u at text there =
    let both : Utf8 at.0 ≡ Utf8 text = same_Some (Utf8 at.0) (Utf8 text) (sym at.1 ∙ there) in
    let same : at.0 ≡ text = cc in
    let P : List ℕ → Type 0 = λ t. IsUseOf t u in
    subst P same at.2
