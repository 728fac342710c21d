-- The locals with which a method begins.
use Rattle.std.proofs.Common.{◌≡◌, ℕ, zero, suc, ◌+◌, ◌<◌, Bool, Some, List, [], ◌∷◌, ◌++◌, take, length, get_or, slice_get, slice_set, refl, sym, ◌∙◌, ap, arith}
use Rattle.std.proofs.lemmas.List.{take_more, length-take-le}
use Rattle.std.proofs.lemmas.Option.{slice_get_within, get_or_from_slice_get}
use Rattle.type_rules.specs.declared.types.VerificationType.{VerificationType}
use Rattle.type_rules.specs.declared.types.VerificationType.TheVariants.{Top}
use Rattle.type_rules.specs.Assignable.{Hierarchy}
use Rattle.type_rules.specs.Environment.{TypeFrame, padded}
use Rattle.typing_frames.specs.declared.stores.FrameStores.{FrameStores}
use Rattle.typing_frames.specs.declared.stores.CurrentFrame.{CurrentFrame}
use Rattle.typing_frames.specs.Frames.{shown, IsFrame, StoresFollow, StoresRemember}
use Rattle.typing_frames.proofs.FrameLaws.{stores_follow_on}
use Rattle.map_frames.specs.Making.{type_frame}
use Rattle.map_frames.proofs.WordLaws.{padded_more}

take_one_more : (ws : List VerificationType) (n : ℕ) (w : VerificationType) → slice_get ws n ≡ Some w → take (n + 1) ws ≡ take n ws ++ w ∷ []
take_one_more ws n w there =
    take_more ws n w (slice_get_within ws n w there) ∙ ap (λ x. take n ws ++ x ∷ []) (get_or_from_slice_get ws n w w there)

-- one of the first n words is one of all
pub among_first : (ws : List VerificationType) (n k : ℕ) → k < length (take n ws) → (slice_get ws k ≡ Some (get_or (take n ws) k Top)) × (k < length ws)
among_first [] zero k h = absurd (omega (arith, h))
among_first [] (suc n) k h = absurd (omega (arith, h))
among_first (w ∷ ws) zero k h = absurd (omega (arith, h))
among_first (w ∷ ws) (suc n) zero h = (refl, omega arith)
among_first (w ∷ ws) (suc n) (suc k) h = let rest = among_first ws n k (omega (arith, h)) in (rest.0, omega (arith, rest.1))

-- the first `count` words are in the locals of a frame
pub record Filling (old new : FrameStores) (frame : CurrentFrame) (words : List VerificationType) (unset : Bool) (count : ℕ) : Type 0 where
  pub follows : StoresFollow old new
  pub remembered : (h : Hierarchy) → StoresRemember h old → StoresRemember h new
  pub there : IsFrame new frame
  pub are : shown new frame ≡ type_frame (padded old.locals.most (take count words)) [] unset

pub filling_more : (old now new : FrameStores) (frame made : CurrentFrame) (words : List VerificationType) (unset : Bool) (count : ℕ) (w : VerificationType)
    → slice_get words count ≡ Some w → count < length words → Filling old now frame words unset count
    → StoresFollow now new → ((h : Hierarchy) → StoresRemember h now → StoresRemember h new) → IsFrame new made
    → shown new made ≡ record (shown now frame) { locals = slice_set (shown now frame).locals count w }
    → Filling old new made words unset (count + 1)
filling_more old now new frame made words unset count w here less before follows remembered there is = record {
  follows = stores_follow_on old now new before.follows follows;
  remembered = λ h r. remembered h (before.remembered h r);
  there = there;
  are =
      is ∙ ap (λ (f : TypeFrame). record f { locals = slice_set f.locals count w }) before.are
      ∙ ap (λ n. type_frame (slice_set (padded old.locals.most (take count words)) n w) [] unset) (sym (length-take-le count words (omega (arith, less))))
      ∙ ap (λ l. type_frame l [] unset) (padded_more old.locals.most (take count words) w)
      ∙ ap (λ l. type_frame (padded old.locals.most l) [] unset) (sym (take_one_more words count w here));
}
