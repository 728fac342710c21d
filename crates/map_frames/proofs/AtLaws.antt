-- Map frames that are found.
use Rattle.std.proofs.Common.{◌≡◌, ℕ, zero, suc, ◌+◌, ◌<◌, ◌≤◌, ◌==◌, Bool, cond, inl, inr, Option, Some, None, List, [], ◌∷◌, length, slice_get, refl, sym, ◌∙◌, ap, subst, arith}
use Rattle.std.specs.Option.{option_map, option_and_then}
use Rattle.std.specs.List.{position_from}
use Rattle.std.proofs.lemmas.Bool.{cases_Bool}
use Rattle.std.proofs.lemmas.Option.{same_Some, none-some}
use Rattle.code_frames.specs.declared.types.VType.{VType}
use Rattle.code_frames.specs.declared.types.MapFrame.{MapFrame}
use Rattle.type_rules.specs.declared.types.VerificationType.{VerificationType}
use Rattle.type_rules.specs.MapFrames.{frame_numbered, map_frame_at}
use Rattle.typing_frames.specs.declared.stores.FrameStores.{FrameStores}
use Rattle.map_frames.specs.declared.mapped.MappedFrame.{MappedFrame}
use Rattle.map_frames.specs.Mapped.{MapsAt, AreMapped}

within : (frames : List MapFrame) (k i n : ℕ) → position_from (λ (f : MapFrame). f.step == k) i frames ≡ Some n → (i ≤ n) × (n < i + length frames)
within [] k i n e = absurd (none-some n e)
within (f ∷ frames) k i n e = elim (cases_Bool (f.step == k)) [
  | inl here ↦
      let same : i ≡ n = same_Some i n (sym (ap (λ b. cond b (Some i) (position_from (λ (g : MapFrame). g.step == k) (i + 1) frames)) here) ∙ e) in
      (omega (arith, same), omega (arith, same))
  | inr other ↦
      let rest = within frames k (i + 1) n (sym (ap (λ b. cond b (Some i) (position_from (λ (g : MapFrame). g.step == k) (i + 1) frames)) other) ∙ e) in
      (omega (arith, rest.0), omega (arith, rest.1))
]

there_is : (frames : List MapFrame) (n : ℕ) → n < length frames → (f : MapFrame) × (slice_get frames n ≡ Some f)
there_is [] n h = absurd (omega (arith, h))
there_is (f ∷ frames) zero h = (f, refl)
there_is (f ∷ frames) (suc n) h = there_is frames n (omega (arith, h))

pub found_at : (stores : FrameStores) (made : List MappedFrame) (item : VType → VerificationType) (constructs : Bool) (values : List VerificationType) (frames : List MapFrame) (k n : ℕ) (r : Option MappedFrame)
    → position_from (λ (f : MapFrame). f.step == k) 0 frames ≡ Some n → r ≡ slice_get made n → AreMapped stores made item constructs values frames (length frames)
    → MapsAt stores r (map_frame_at item constructs values frames k)
found_at stores made item constructs values frames k n r found is all =
    let inside : n < length frames = let h = within frames k 0 n found in omega (arith, h.1) in
    let here = there_is frames n inside in
    let which : map_frame_at item constructs values frames k ≡ Some (frame_numbered item constructs values frames n here.0) =
    ap (λ p. option_and_then (λ j. option_map (frame_numbered item constructs values frames j) (slice_get frames j)) p) found
    ∙ ap (option_map (frame_numbered item constructs values frames n)) here.1 in
    subst (λ x. MapsAt stores x (map_frame_at item constructs values frames k)) (sym is)
    (subst (λ g. MapsAt stores (slice_get made n) g) (sym which) (all n here.0 inside here.1))

pub none_at : (stores : FrameStores) (item : VType → VerificationType) (constructs : Bool) (values : List VerificationType) (frames : List MapFrame) (k : ℕ)
    → position_from (λ (f : MapFrame). f.step == k) 0 frames ≡ None → MapsAt stores None (map_frame_at item constructs values frames k)
none_at stores item constructs values frames k e =
    subst (λ p. MapsAt stores None (option_and_then (λ j. option_map (frame_numbered item constructs values frames j) (slice_get frames j)) p)) (sym e) tt
