-- The number of locals is that of the locals that the frames stand for.
use Rattle.std.proofs.Common.{◌≡◌, ℕ, suc, ◌+◌, ◌-◌, List, [], ◌∷◌, length, refl, sym, ap, ◌∙◌, arith}
use Rattle.std.proofs.lemmas.List.{length-append, length-take}
use Rattle.code_frames.specs.declared.types.VType.{VType}
use Rattle.code_frames.specs.declared.types.LocalsChange.{LocalsChange}
use Rattle.code_frames.specs.declared.types.LocalsChange.TheVariants.{Same, Append, Chop, Full}
use Rattle.code_frames.specs.declared.types.MapFrame.{MapFrame}
use Rattle.code_frames.specs.Locals.{entry_locals, changed, locals_after, count_after}
use Rattle.code_frames.specs.StackMap.{Previous, entry, next, behind}

pub length-entry_locals : (widths : List ℕ) (first : ℕ) → length (entry_locals first widths) ≡ length widths
length-entry_locals [] first = refl
length-entry_locals (width ∷ widths) first = ap suc (length-entry_locals widths (first + width))

pub length-changed : (locals : List VType) (change : LocalsChange) → length (changed locals change) ≡ count_after (length locals) change
length-changed locals Same = refl
length-changed locals (Append added) = length-append locals added
length-changed locals (Chop removed) = omega (arith, length-take (length locals - removed) locals)
length-changed locals (Full all) = refl

counted : (frames : List MapFrame) (previous : Previous) (locals : List VType) → previous.locals ≡ length locals
    → (behind previous frames).locals ≡ length (locals_after locals frames)
counted [] previous locals same = same
counted (f ∷ fs) previous locals same =
    counted fs (next previous f) (changed locals f.locals) (ap (λ n. count_after n f.locals) same ∙ sym (length-changed locals f.locals))

pub length-locals_after : (locals : List VType) (frames : List MapFrame) → (behind (entry (length locals)) frames).locals ≡ length (locals_after locals frames)
length-locals_after locals frames = counted frames (entry (length locals)) locals refl
