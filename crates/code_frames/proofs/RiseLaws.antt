-- The frames of a table are at ever later offsets, and no two of them are at the same instruction.
use Rattle.std.proofs.Common.{◌≡◌, ℕ, zero, suc, ◌+◌, ◌<◌, List, [], ◌∷◌, length, Some, refl, ap, subst, ◌∙◌, arith, inl, inr, add-one}
use Rattle.std.specs.Prelude.{map, slice_get, slice_index}
use Rattle.class_walk.specs.declared.class.Constant.{Constant}
use Rattle.instructions.specs.declared.what.Instr.{Instr}
use Rattle.instructions.specs.declared.what.Target.{Target}
use Rattle.instructions.specs.Steps.{number_at}
use Rattle.code_frames.specs.declared.types.MapFrame.{MapFrame}
use Rattle.code_frames.specs.StackMap.{Previous, entry, next, BeginsWithAll, IsStackMap}
use Rattle.code_frames.proofs.ByteLaws.{some_is}
use Rattle.code_frames.proofs.TableLaws.{number_once}

rises : (pool : List Constant) (steps : List (Instr Target)) (fs : List MapFrame) (previous : Previous) (bytes others : List ℕ) → BeginsWithAll pool steps previous bytes fs others
    → (k : ℕ) → suc k < length (map (λ f. f.at) fs) → slice_index (map (λ f. f.at) fs) k < slice_index (map (λ f. f.at) fs) (suc k)
rises pool steps [] previous bytes others all k within = absurd (omega arith)
rises pool steps (f ∷ []) previous bytes others all k within = absurd (omega arith)
rises pool steps (f ∷ g ∷ fs) previous bytes others all zero within = let second = all.2.1 in omega (arith, second.offset)
rises pool steps (f ∷ g ∷ fs) previous bytes others all (suc k) within = rises pool steps (g ∷ fs) (next previous f) all.0 others all.2 k (omega arith)

pub map_rises : (pool : List Constant) (steps : List (Instr Target)) (locals : ℕ) (maps : List ℕ) (frames : List MapFrame) → IsStackMap pool steps locals maps frames
    → (k : ℕ) → k + 1 < length (map (λ f. f.at) frames) → slice_index (map (λ f. f.at) frames) k < slice_index (map (λ f. f.at) frames) (k + 1)
map_rises pool steps locals maps frames is k within =
    elim is [
      | inl none ↦ let size = ap (λ (fs : List MapFrame). length (map (λ f. f.at) fs)) none.1 in absurd (omega arith)
      | inr s ↦ rw add-one (rises pool steps frames (entry locals) s.0 [] s.2 k (omega arith))
    ]

-- a frame after another one has a later offset
stands_later : (pool : List Constant) (steps : List (Instr Target)) (fs : List MapFrame) (previous : Previous) (bytes others : List ℕ) → BeginsWithAll pool steps previous bytes fs others
    → (i : ℕ) (f : MapFrame) → slice_get fs i ≡ Some f → previous.least < f.at + 1
stands_later pool steps [] previous bytes others all i f e = absurd cc
stands_later pool steps (g ∷ fs) previous bytes others all zero f e =
    let first = all.1 in
    let same : g ≡ f = some_is g f e in
    subst (λ (h : MapFrame). previous.least < h.at + 1) same (omega (arith, first.offset))
stands_later pool steps (g ∷ fs) previous bytes others all (suc i) f e =
    let first = all.1 in
    omega (arith, first.offset, stands_later pool steps fs (next previous g) all.0 others all.2 i f e)

at_step : (pool : List Constant) (steps : List (Instr Target)) (fs : List MapFrame) (previous : Previous) (bytes others : List ℕ) → BeginsWithAll pool steps previous bytes fs others
    → (i j : ℕ) (f g : MapFrame) → slice_get fs i ≡ Some f → slice_get fs j ≡ Some g → f.at ≡ g.at → i ≡ j
at_step pool steps [] previous bytes others all i j f g ef eg same = absurd cc
at_step pool steps (h ∷ fs) previous bytes others all zero zero f g ef eg same = refl
at_step pool steps (h ∷ fs) previous bytes others all zero (suc j) f g ef eg same =
    let is : h ≡ f = some_is h f ef in
    absurd (omega (arith, ap (λ (k : MapFrame). k.at) is, stands_later pool steps fs (next previous h) all.0 others all.2 j g eg))
at_step pool steps (h ∷ fs) previous bytes others all (suc i) zero f g ef eg same =
    let is : h ≡ g = some_is h g eg in
    absurd (omega (arith, ap (λ (k : MapFrame). k.at) is, stands_later pool steps fs (next previous h) all.0 others all.2 i f ef))
at_step pool steps (h ∷ fs) previous bytes others all (suc i) (suc j) f g ef eg same = ap suc (at_step pool steps fs (next previous h) all.0 others all.2 i j f g ef eg same)

right_step : (pool : List Constant) (steps : List (Instr Target)) (fs : List MapFrame) (previous : Previous) (bytes others : List ℕ) → BeginsWithAll pool steps previous bytes fs others
    → (i : ℕ) (f : MapFrame) → slice_get fs i ≡ Some f → number_at steps f.at ≡ Some f.step
right_step pool steps [] previous bytes others all i f e = absurd cc
right_step pool steps (g ∷ fs) previous bytes others all zero f e =
    let first = all.1 in
    subst (λ (h : MapFrame). number_at steps h.at ≡ Some h.step) (some_is g f e) first.step
right_step pool steps (g ∷ fs) previous bytes others all (suc i) f e = right_step pool steps fs (next previous g) all.0 others all.2 i f e

pub one_at_step : (pool : List Constant) (steps : List (Instr Target)) (locals : ℕ) (maps : List ℕ) (frames : List MapFrame) → IsStackMap pool steps locals maps frames
    → (i j : ℕ) (f g : MapFrame) → slice_get frames i ≡ Some f → slice_get frames j ≡ Some g → f.step ≡ g.step → i ≡ j
one_at_step pool steps locals maps frames is i j f g ef eg same =
    elim is [
      | inl none ↦ let e : slice_get [] i ≡ Some f = subst (λ (fs : List MapFrame). slice_get fs i ≡ Some f) none.1 ef in absurd cc
      | inr s ↦
          let there : number_at steps f.at ≡ Some g.step = right_step pool steps frames (entry locals) s.0 [] s.2 i f ef ∙ ap (λ (n : ℕ). Some n) same in
          let at = number_once steps f.at g.at g.step there (right_step pool steps frames (entry locals) s.0 [] s.2 j g eg) in
          at_step pool steps frames (entry locals) s.0 [] s.2 i j f g ef eg at
    ]
