-- Frames of a table: where they are, and what their types are.
use Rattle.std.proofs.Common.{◌≡◌, ◌-◌, ℕ, zero, suc, List, [], ◌∷◌, ◌++◌, length, take, refl, sym, ap, subst, ◌∙◌, inl, inr}
use Rattle.std.specs.Prelude.{Some, slice_get}
use Rattle.std.specs.List.{AllByRecursion}
use Rattle.std.proofs.lemmas.Option.{same_Some}
use Rattle.class_walk.specs.declared.class.Constant.{Constant}
use Rattle.class_walk.specs.Layout.{IsCounted}
use Rattle.instructions.specs.declared.what.Instr.{Instr}
use Rattle.instructions.specs.declared.what.Target.{Target}
use Rattle.instructions.specs.Steps.{number_at}
use Rattle.code_frames.specs.declared.types.VType.{VType}
use Rattle.code_frames.specs.declared.types.LocalsChange.{LocalsChange}
use Rattle.code_frames.specs.declared.types.LocalsChange.TheVariants.{Same, Append, Chop, Full}
use Rattle.code_frames.specs.declared.types.MapFrame.{MapFrame}
use Rattle.code_frames.specs.Locals.{changed, locals_after, count_after}
use Rattle.code_frames.specs.StackMap.{IsItem, IsChange, Previous, entry, next, BeginsWith, BeginsWithAll, IsStackMap}
use Rattle.code_frames.proofs.LocalLaws.{length-changed}
use Rattle.code_laws.specs.Frames.{IsLocal}
use Rattle.code_laws.specs.Steps.{StandsAt}
use Rattle.code_laws.proofs.StepLaws.{number_stands, all_weaker}

-- what a frame is, wherever it is in the table
record IsRightFrame (pool : List Constant) (steps : List (Instr Target)) (f : MapFrame) : Type 0 where
  stack : IsCounted (IsItem pool steps) f.stack
  step : number_at steps f.at ≡ Some f.step

right_frame : (pool : List Constant) (steps : List (Instr Target)) (fs : List MapFrame) (previous : Previous) (bytes others : List ℕ) → BeginsWithAll pool steps previous bytes fs others
    → (k : ℕ) (f : MapFrame) → slice_get fs k ≡ Some f → IsRightFrame pool steps f
right_frame pool steps [] previous bytes others all k f there = absurd cc
right_frame pool steps (g ∷ fs) previous bytes others all zero f there =
    let first : BeginsWith pool steps previous bytes g all.0 = all.1 in
    subst (λ (h : MapFrame). IsRightFrame pool steps h) (same_Some g f there) (record { stack = first.stack; step = first.step })
right_frame pool steps (g ∷ fs) previous bytes others all (suc k) f there = right_frame pool steps fs (next previous g) all.0 others all.2 k f there

-- a table without bytes has no frames
none_there : (frames : List MapFrame) (k : ℕ) (f : MapFrame) → frames ≡ [] → slice_get frames k ≡ Some f → ⊥
none_there frames k f none there = let e : slice_get [] k ≡ Some f = subst (λ (fs : List MapFrame). slice_get fs k ≡ Some f) none there in absurd cc

map_right : (pool : List Constant) (steps : List (Instr Target)) (locals : ℕ) (maps : List ℕ) (frames : List MapFrame) → IsStackMap pool steps locals maps frames
    → (k : ℕ) (f : MapFrame) → slice_get frames k ≡ Some f → IsRightFrame pool steps f
map_right pool steps locals maps frames (inl none) k f there = absurd (none_there frames k f none.1 there)
map_right pool steps locals maps frames (inr s) k f there = right_frame pool steps frames (entry locals) s.0 [] s.2 k f there

pub stands_at : (pool : List Constant) (steps : List (Instr Target)) (locals : ℕ) (maps : List ℕ) (frames : List MapFrame) → IsStackMap pool steps locals maps frames
    → (k : ℕ) (f : MapFrame) → slice_get frames k ≡ Some f → StandsAt steps f.step f.at
stands_at pool steps locals maps frames is k f there = number_stands steps f.at f.step (map_right pool steps locals maps frames is k f there).step

pub right_stack : (pool : List Constant) (steps : List (Instr Target)) (locals : ℕ) (maps : List ℕ) (frames : List MapFrame) → IsStackMap pool steps locals maps frames
    → (k : ℕ) (f : MapFrame) → slice_get frames k ≡ Some f → IsCounted (IsItem pool steps) f.stack
right_stack pool steps locals maps frames is k f there = (map_right pool steps locals maps frames is k f there).stack

-- ---- locals

all_append : {X : Type 0} (P : X → Type 0) (xs ys : List X) → AllByRecursion P xs → AllByRecursion P ys → AllByRecursion P (xs ++ ys)
all_append P [] ys all more = more
all_append P (x ∷ xs) ys all more = (all.0, all_append P xs ys all.1 more)

all_take : {X : Type 0} (P : X → Type 0) (n : ℕ) (xs : List X) → AllByRecursion P xs → AllByRecursion P (take n xs)
all_take P zero xs all = tt
all_take P (suc n) [] all = tt
all_take P (suc n) (x ∷ xs) all = (all.0, all_take P n xs all.1)

change_right : (pool : List Constant) (steps : List (Instr Target)) (types : List VType) (count : ℕ) (change : LocalsChange) (locals : List VType) → IsChange pool steps count change
    → AllByRecursion (IsLocal pool steps types) locals → AllByRecursion (IsLocal pool steps types) (changed locals change)
change_right pool steps types count Same locals is all = all
change_right pool steps types count (Append added) locals is all =
    all_append (IsLocal pool steps types) locals added all (all_weaker (IsItem pool steps) (IsLocal pool steps types) added (λ v right. inl right) is)
change_right pool steps types count (Chop removed) locals is all = all_take (IsLocal pool steps types) (length locals - removed) locals all
change_right pool steps types count (Full spelled) locals is all = all_weaker (IsItem pool steps) (IsLocal pool steps types) spelled (λ v right. inl right) is.1

after_right : (pool : List Constant) (steps : List (Instr Target)) (types : List VType) (fs : List MapFrame) (previous : Previous) (bytes others : List ℕ) → BeginsWithAll pool steps previous bytes fs others
    → (locals : List VType) → AllByRecursion (IsLocal pool steps types) locals → (k : ℕ) → AllByRecursion (IsLocal pool steps types) (locals_after locals (take k fs))
after_right pool steps types [] previous bytes others all locals right zero = right
after_right pool steps types [] previous bytes others all locals right (suc k) = right
after_right pool steps types (f ∷ fs) previous bytes others all locals right zero = right
after_right pool steps types (f ∷ fs) previous bytes others all locals right (suc k) =
    let first : BeginsWith pool steps previous bytes f all.0 = all.1 in
    after_right pool steps types fs (next previous f) all.0 others all.2 (changed locals f.locals) (change_right pool steps types previous.locals f.locals locals first.locals right) k

-- the types at the entry are those at the entry
entry_right : (pool : List Constant) (steps : List (Instr Target)) (types : List VType) → AllByRecursion (IsLocal pool steps types) types
entry_right pool steps types = each types (λ n v there. inr (n, there))
  where
    each : (xs : List VType) → ((n : ℕ) (v : VType) → slice_get xs n ≡ Some v → IsLocal pool steps types v) → AllByRecursion (IsLocal pool steps types) xs
    each [] is = tt
    each (x ∷ xs) is = (is 0 x refl, each xs (λ n. is (suc n)))

none_after : (frames : List MapFrame) (k : ℕ) (types : List VType) → frames ≡ [] → types ≡ locals_after types (take k frames)
none_after [] zero types none = refl
none_after [] (suc k) types none = refl
none_after (f ∷ frames) k types none = absurd cc

pub right_locals : (pool : List Constant) (steps : List (Instr Target)) (types : List VType) (maps : List ℕ) (frames : List MapFrame) → IsStackMap pool steps (length types) maps frames
    → (k : ℕ) → AllByRecursion (IsLocal pool steps types) (locals_after types (take k frames))
right_locals pool steps types maps frames (inl none) k = subst (AllByRecursion (IsLocal pool steps types)) (none_after frames k types none.1) (entry_right pool steps types)
right_locals pool steps types maps frames (inr s) k = after_right pool steps types frames (entry (length types)) s.0 [] s.2 types (entry_right pool steps types) k

change_fits : (pool : List Constant) (steps : List (Instr Target)) (fs : List MapFrame) (previous : Previous) (bytes others : List ℕ) → BeginsWithAll pool steps previous bytes fs others
    → (locals : List VType) → previous.locals ≡ length locals → (k : ℕ) (f : MapFrame) → slice_get fs k ≡ Some f → IsChange pool steps (length (locals_after locals (take k fs))) f.locals
change_fits pool steps [] previous bytes others all locals same k f there = absurd cc
change_fits pool steps (g ∷ fs) previous bytes others all locals same zero f there =
    let first : BeginsWith pool steps previous bytes g all.0 = all.1 in
    subst (λ (h : MapFrame). IsChange pool steps (length locals) h.locals) (same_Some g f there) (subst (λ (n : ℕ). IsChange pool steps n g.locals) same first.locals)
change_fits pool steps (g ∷ fs) previous bytes others all locals same (suc k) f there =
    change_fits pool steps fs (next previous g) all.0 others all.2 (changed locals g.locals) (ap (λ (n : ℕ). count_after n g.locals) same ∙ sym (length-changed locals g.locals)) k f there

pub right_change : (pool : List Constant) (steps : List (Instr Target)) (types : List VType) (maps : List ℕ) (frames : List MapFrame) → IsStackMap pool steps (length types) maps frames
    → (k : ℕ) (f : MapFrame) → slice_get frames k ≡ Some f → IsChange pool steps (length (locals_after types (take k frames))) f.locals
right_change pool steps types maps frames (inl none) k f there = absurd (none_there frames k f none.1 there)
right_change pool steps types maps frames (inr s) k f there = change_fits pool steps frames (entry (length types)) s.0 [] s.2 types refl k f there
