-- The locals that frames stand for (JVMS SE 8, 4.7.4).
use Rattle.std.specs.Prelude.{ℕ, ◌+◌, ◌-◌, List, [], ◌∷◌, ◌++◌, length, take, fold}
use Rattle.code_frames.specs.declared.types.VType.{VType}
use Rattle.code_frames.specs.declared.types.VType.TheVariants.{Entry}
use Rattle.code_frames.specs.declared.types.LocalsChange.{LocalsChange}
use Rattle.code_frames.specs.declared.types.LocalsChange.TheVariants.{Same, Append, Chop, Full}
use Rattle.code_frames.specs.declared.types.MapFrame.{MapFrame}

-- the locals at the method's entry, from this local on: of each type is given how many local variables it takes,
-- two for a long or a double (JVMS 2.6.1)
abbrev pub entry_locals : ℕ → List ℕ → List VType
entry_locals first [] = []
entry_locals first (width ∷ widths) = Entry first ∷ entry_locals (first + width) widths

-- a chop counts types, a long or a double being one
abbrev pub changed : List VType → LocalsChange → List VType
changed locals Same = locals
changed locals (Append added) = locals ++ added
changed locals (Chop removed) = take (length locals - removed) locals
changed locals (Full all) = all

-- the locals after the last of the frames, where these locals come before the first one
abbrev pub locals_after : List VType → List MapFrame → List VType
locals_after locals frames = fold (λ locals f. changed locals f.locals) locals frames

-- how many locals there are after a change, where there were `count` before
abbrev pub count_after : ℕ → LocalsChange → ℕ
count_after count Same = count
count_after count (Append added) = count + length added
count_after count (Chop removed) = count - removed
count_after count (Full all) = length all
