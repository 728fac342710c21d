-- The tests of the pool say what they ask.
use Rattle.std.proofs.Common.{◌≡◌, ℕ, List, Option, None, Some, ap}
use Rattle.std.specs.Bool.{Decides}
use Rattle.std.proofs.lemmas.Slice.Eq.{bytes_eq-Decides}
use Rattle.class_walk.specs.declared.class.Constant.{Constant}
use Rattle.class_walk.specs.declared.class.Constant.TheVariants.{Utf8}
use Rattle.class_pool.specs.PoolTest.{is_text}

pub is_text-Decides : (text : List ℕ) (o : Option Constant) → Decides (is_text text o) (o ≡ Some (Utf8 text))
is_text-Decides text None = (λ h. absurd (cc), λ h. cc)
is_text-Decides text (Some (Utf8 bytes)) = (
  λ h. ap (λ (b : List ℕ). let o : Option Constant = Some (Utf8 b) in o) ((bytes_eq-Decides bytes text).0 h),
  λ (h : Some (Utf8 bytes) ≡ Some (Utf8 text)). (bytes_eq-Decides bytes text).1 (cc),
)
is_text-Decides text (Some _) = (λ h. absurd (cc), λ h. cc)
